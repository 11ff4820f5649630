-- Writes to a stream, one after the other.
use Rattle.std.proofs.Common.{◌∙◌, ℕ, ◌+◌, ◌%◌, List, [], ◌++◌, Option, Some, None, ap, append_assoc, append-nil, refl, sym}
use Rattle.std.specs.Io.KnownBytes.{Appends}
use Rattle.streams.specs.Streams.{IsQuiet, NoneFailed, OneFailed, writes}

-- nothing was written
pub appends_nothing : (held : Option (List ℕ)) → Appends held held []
appends_nothing None = tt
appends_nothing (Some bytes) = sym (append-nil bytes)

-- some bytes, and others behind them
pub appends_more : (a b c : Option (List ℕ)) (first then : List ℕ) → Appends a b first → Appends b c then → Appends a c (first ++ then)
appends_more None b c first then p q = tt
appends_more (Some l) None c first then p q = absurd p
appends_more (Some l) (Some m) None first then p q = absurd q
appends_more (Some l) (Some m) (Some n) first then p q = q ∙ ap (λ (k : List ℕ). k ++ then) p ∙ append_assoc l first then

module _ {S : Type 0} (contents : S → Option (List ℕ)) (failures : S → ℕ) where
  -- a stream that was left alone
  pub quiet_still : (s : S) → IsQuiet (writes contents failures s s)
  quiet_still s = refl

  -- no write failed, and none behind it
  pub none_failed_more : (a b c : S) → NoneFailed (writes contents failures a b) → NoneFailed (writes contents failures b c) → NoneFailed (writes contents failures a c)
  none_failed_more a b c first then = then ∙ first

  -- no write failed, and one behind it
  pub one_failed_more : (a b c : S) → NoneFailed (writes contents failures a b) → OneFailed (writes contents failures b c) → OneFailed (writes contents failures a c)
  one_failed_more a b c first then = then ∙ ap (λ (n : ℕ). (n + 1) % 18446744073709551616) first
