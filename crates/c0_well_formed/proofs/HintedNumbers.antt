-- With hints the code names numbers of 32 bits where it did.
use Rattle.std.proofs.Common.{◌≡◌, ℕ, ◌+◌, Bool, true, false, cond, Option, Some, None, List, refl}
use Rattle.std.specs.Prelude.{◌&&◌, nat_lt}
use Rattle.std.proofs.lemmas.Bool.{ltb-true}
use Rattle.middle_form.specs.Scoped as s
use Rattle.prefetch_pass.specs.Prefetched.{hinted, hinted_for, with_hint}
use Rattle.prefetch_pass.specs.Raised.{is_among}
use Rattle.c0_well_formed.proofs.ScopedNumbers.{ScopedNames}

module _ (cells : ℕ) (ds : List ℕ) where
  -- a hint stands only where its displacement is of 32 bits
  hint_names : (r : ℕ) (off : Option ℕ) (disp : ℕ) (a : s.Code) → ScopedNames a → ScopedNames (with_hint cells ds r off disp a)
  hint_names r None disp a h = h
  hint_names r (Some d) disp a h = by_tests (is_among ds d) (nat_lt (disp + cells) 4294967296) refl
    where
      by_tests : (b c : Bool) → nat_lt (disp + cells) 4294967296 ≡ c → ScopedNames (cond (b && c) (hinted_for cells r d disp a) a)
      by_tests true true e = (h, (ltb-true (disp + cells) 4294967296 e, tt))
      by_tests true false e = h
      by_tests false c e = h

  pub hinted_names : (a : s.Code) → ScopedNames a → ScopedNames (hinted cells ds a)
  hinted_names s.Nothing h = h
  hinted_names (s.Do x) h = h
  hinted_names (s.Load to z r off disp) h = hint_names r off disp (s.Load to z r off disp) h
  hinted_names (s.Store z r off disp from) h = hint_names r off disp (s.Store z r off disp from) h
  hinted_names (s.LoadBy to z r off disp) h = hint_names r off disp (s.LoadBy to z r off disp) h
  hinted_names (s.StoreBy z r off disp from) h = hint_names r off disp (s.StoreBy z r off disp from) h
  hinted_names (s.Aim z r off disp) h = h
  hinted_names (s.Leave z) h = h
  hinted_names (s.Loose z) h = h
  hinted_names (s.Call to i args) h = h
  hinted_names (s.Fail a) h = h
  hinted_names (s.Then a b) h = (hinted_names a h.0, hinted_names b h.1)
  hinted_names (s.Choose c a b) h = (hinted_names a h.0, hinted_names b h.1)
  hinted_names (s.Loop a c b) h = (hinted_names a h.0, hinted_names b h.1)
  hinted_names (s.Block a) h = hinted_names a h
  hinted_names (s.Exit k) h = h
