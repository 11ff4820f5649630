-- Hints keep the discipline of scopes, and the places.
use Rattle.std.proofs.Common.{◌≡◌, ℕ, ◌+◌, Bool, true, false, cond, Option, Some, None, List, [], ◌∷◌, refl, sym, ap, ◌∙◌, subst}
use Rattle.std.specs.Prelude.{◌&&◌, ◌||◌, map, nat_lt, slice_index_or}
use Rattle.std.proofs.lemmas.List.Elements.{All-map}
use Rattle.code_form.specs.declared.form.Kind.{Kind}
use Rattle.middle_form.specs.Discipline.{AreShut, Brings, IsDisciplined, IsScoped, IsScopedFunction, Table, after, at_entry, join, stays, touches, writes}
use Rattle.middle_form.specs.Scoped.{Code, Nothing, Do, Load, Store, LoadBy, StoreBy, Aim, Leave, Loose, Call, Fail, Then, Choose, Loop, Block, Exit, Function, Program}
use Rattle.scoped_building.proofs.Tests.{or_false}
use Rattle.scoped_building.specs.Places.{AllPlaces}
use Rattle.prefetch_pass.specs.Prefetched.{hinted, hinted_for, prefetched_function, prefetched_program, with_hint}
use Rattle.prefetch_pass.specs.Raised.{is_among}

module _ (cells : ℕ) where
  module _ (ds : List ℕ) where
    -- what holds of an access with its hint, and without, holds of it
    hint_either : (B : Code → Type 0) (r : ℕ) (off : Option ℕ) (disp : ℕ) (a : Code) → B a → ((d : ℕ) → off ≡ Some d → B (hinted_for cells r d disp a)) → B (with_hint cells ds r off disp a)
    hint_either B r None disp a without with = without
    hint_either B r (Some d) disp a without with = by_test (is_among ds d && nat_lt (disp + cells) 4294967296)
      where
        by_test : (b : Bool) → B (cond b (hinted_for cells r d disp a) a)
        by_test true = with d refl
        by_test false = without

    -- ---- what code touches and writes

    hint_touches : (r : ℕ) (off : Option ℕ) (disp : ℕ) (a : Code) (t : ℕ) → touches (with_hint cells ds r off disp a) t ≡ touches a t
    hint_touches r off disp a t = hint_either (λ x. touches x t ≡ touches a t) r off disp a refl (λ d e. or_false (touches a t))

    touches_same : (a : Code) (t : ℕ) → touches (hinted cells ds a) t ≡ touches a t
    touches_same Nothing t = refl
    touches_same (Do o) t = refl
    touches_same (Load to s r off disp) t = hint_touches r off disp (Load to s r off disp) t
    touches_same (Store s r off disp from) t = hint_touches r off disp (Store s r off disp from) t
    touches_same (LoadBy to s r off disp) t = hint_touches r off disp (LoadBy to s r off disp) t
    touches_same (StoreBy s r off disp from) t = hint_touches r off disp (StoreBy s r off disp from) t
    touches_same (Aim s r off disp) t = refl
    touches_same (Leave s) t = refl
    touches_same (Loose s) t = refl
    touches_same (Call to f args) t = refl
    touches_same (Fail a) t = refl
    touches_same (Then a b) t = λ i. touches_same a t i || touches_same b t i
    touches_same (Choose c a b) t = λ i. touches_same a t i || touches_same b t i
    touches_same (Loop a c b) t = λ i. touches_same a t i || touches_same b t i
    touches_same (Block a) t = touches_same a t
    touches_same (Exit k) t = refl

    hint_writes : (r : ℕ) (off : Option ℕ) (disp : ℕ) (a : Code) (q : ℕ) → writes (with_hint cells ds r off disp a) q ≡ writes a q
    hint_writes r off disp a q = hint_either (λ x. writes x q ≡ writes a q) r off disp a refl (λ d e. or_false (writes a q))

    writes_same : (a : Code) (q : ℕ) → writes (hinted cells ds a) q ≡ writes a q
    writes_same Nothing q = refl
    writes_same (Do o) q = refl
    writes_same (Load to s r off disp) q = hint_writes r off disp (Load to s r off disp) q
    writes_same (Store s r off disp from) q = hint_writes r off disp (Store s r off disp from) q
    writes_same (LoadBy to s r off disp) q = hint_writes r off disp (LoadBy to s r off disp) q
    writes_same (StoreBy s r off disp from) q = hint_writes r off disp (StoreBy s r off disp from) q
    writes_same (Aim s r off disp) q = refl
    writes_same (Leave s) q = refl
    writes_same (Loose s) q = refl
    writes_same (Call to f args) q = refl
    writes_same (Fail a) q = refl
    writes_same (Then a b) q = λ i. writes_same a q i || writes_same b q i
    writes_same (Choose c a b) q = λ i. writes_same a q i || writes_same b q i
    writes_same (Loop a c b) q = λ i. writes_same a q i || writes_same b q i
    writes_same (Block a) q = writes_same a q
    writes_same (Exit k) q = refl

    -- ---- what is known

    join_same : (a : Code) (k : Table) → ◌≡◌ {A = Table} (join (hinted cells ds a) k) (join a k)
    join_same a k = λ i s. stays (touches_same a s i) (λ r. writes_same a r i) (k s)

    hint_after : (r : ℕ) (off : Option ℕ) (disp : ℕ) (a : Code) (k : Table) → ◌≡◌ {A = Table} (after (with_hint cells ds r off disp a) k) (after a k)
    hint_after r off disp a k = hint_either (λ x. ◌≡◌ {A = Table} (after x k) (after a k)) r off disp a refl (λ d e. refl)

    after_same : (a : Code) (k : Table) → ◌≡◌ {A = Table} (after (hinted cells ds a) k) (after a k)
    after_same Nothing k = refl
    after_same (Do o) k = refl
    after_same (Load to s r off disp) k = hint_after r off disp (Load to s r off disp) k
    after_same (Store s r off disp from) k = hint_after r off disp (Store s r off disp from) k
    after_same (LoadBy to s r off disp) k = hint_after r off disp (LoadBy to s r off disp) k
    after_same (StoreBy s r off disp from) k = hint_after r off disp (StoreBy s r off disp from) k
    after_same (Aim s r off disp) k = refl
    after_same (Leave s) k = refl
    after_same (Loose s) k = refl
    after_same (Call to f args) k = refl
    after_same (Fail a) k = refl
    after_same (Then a b) k = ap (after (hinted cells ds b)) (after_same a k) ∙ after_same b (after a k)
    after_same (Choose c a b) k = join_same (Choose c a b) k
    after_same (Loop a c b) k = join_same (Loop a c b) k
    after_same (Block a) k = join_same (Block a) k
    after_same (Exit j) k = refl

    -- ---- the discipline

    module _ (ks : List Kind) (n : ℕ) where
      abbrev Fine : List Table → Code → Table → Type 0
      Fine exits a k = IsDisciplined ks n exits a k

      hint_fine : (exits : List Table) (r : ℕ) (off : Option ℕ) (disp : ℕ) (a : Code) (k : Table) → Fine exits a k → Fine exits (with_hint cells ds r off disp a) k
      hint_fine exits r off disp a k h = hint_either (λ x. Fine exits x k) r off disp a h (λ d e. (h, ((λ shut. absurd (cc shut)), tt)))

      scoped_same : (exits : List Table) (a : Code) (k : Table) → Fine exits a k → Fine exits (hinted cells ds a) k
      scoped_same exits Nothing k h = h
      scoped_same exits (Do o) k h = h
      scoped_same exits (Load to s r off disp) k h = hint_fine exits r off disp (Load to s r off disp) k h
      scoped_same exits (Store s r off disp from) k h = hint_fine exits r off disp (Store s r off disp from) k h
      scoped_same exits (LoadBy to s r off disp) k h = hint_fine exits r off disp (LoadBy to s r off disp) k h
      scoped_same exits (StoreBy s r off disp from) k h = hint_fine exits r off disp (StoreBy s r off disp from) k h
      scoped_same exits (Aim s r off disp) k h = h
      scoped_same exits (Leave s) k h = h
      scoped_same exits (Loose s) k h = h
      scoped_same exits (Call to f args) k h = h
      scoped_same exits (Fail a) k h = h
      scoped_same exits (Then a b) k h =
          (scoped_same exits a k h.0, subst (λ t. Fine exits (hinted cells ds b) t) (sym (after_same a k)) (scoped_same exits b (after a k) h.1))
      scoped_same exits (Choose c a b) k h =
          let j = sym (join_same (Choose c a b) k) in
          let x = sym (after_same a k) in
          let y = sym (after_same b k) in (
            scoped_same exits a k h.0,
            subst (λ z. Brings (after (hinted cells ds a) k) z) j (subst (λ z. Brings z (join (Choose c a b) k)) x h.1),
            scoped_same exits b k h.2,
            subst (λ z. Brings (after (hinted cells ds b) k) z) j (subst (λ z. Brings z (join (Choose c a b) k)) y h.3),
          )
      scoped_same exits (Loop a c b) k h =
          let at : Table = join (Loop a c b) k in
          let j = sym (join_same (Loop a c b) k) in
          let x = sym (after_same a at) in
          let y = sym (after_same b (after a at)) in (
            subst (λ z. Fine (z ∷ exits) (hinted cells ds a) z) j (scoped_same (at ∷ exits) a at h.0),
            subst (λ z. Brings (after (hinted cells ds a) z) z) j (subst (λ z. Brings z at) x h.1),
            subst (λ z. Fine (z ∷ exits) (hinted cells ds b) (after (hinted cells ds a) z)) j
                (subst (λ z. Fine (at ∷ exits) (hinted cells ds b) z) x (scoped_same (at ∷ exits) b (after a at) h.2)),
            subst (λ z. Brings (after (hinted cells ds b) (after (hinted cells ds a) z)) z) j
                (subst (λ z. Brings (after (hinted cells ds b) z) at) x (subst (λ z. Brings z at) y h.3)),
          )
      scoped_same exits (Block a) k h =
          let at : Table = join (Block a) k in
          let j = sym (join_same (Block a) k) in (
            subst (λ z. Fine (z ∷ exits) (hinted cells ds a) k) j (scoped_same (at ∷ exits) a k h.0),
            subst (λ z. Brings (after (hinted cells ds a) k) z) j (subst (λ z. Brings z at) (sym (after_same a k)) h.1),
          )
      scoped_same exits (Exit i) k h = h

    -- ---- the places

    module _ (Q : ℕ → Option ℕ → ℕ → Bool) where
      hint_places : (r : ℕ) (off : Option ℕ) (disp : ℕ) (a : Code) → AllPlaces Q a → AllPlaces Q (with_hint cells ds r off disp a)
      hint_places r off disp a h = hint_either (λ x. AllPlaces Q x) r off disp a h (λ d e. (h, (tt, tt)))

      places_same : (a : Code) → AllPlaces Q a → AllPlaces Q (hinted cells ds a)
      places_same Nothing h = h
      places_same (Do o) h = h
      places_same (Load to s r off disp) h = hint_places r off disp (Load to s r off disp) h
      places_same (Store s r off disp from) h = hint_places r off disp (Store s r off disp from) h
      places_same (LoadBy to s r off disp) h = hint_places r off disp (LoadBy to s r off disp) h
      places_same (StoreBy s r off disp from) h = hint_places r off disp (StoreBy s r off disp from) h
      places_same (Aim s r off disp) h = h
      places_same (Leave s) h = h
      places_same (Loose s) h = h
      places_same (Call to f args) h = h
      places_same (Fail a) h = h
      places_same (Then a b) h = (places_same a h.0, places_same b h.1)
      places_same (Choose c a b) h = (places_same a h.0, places_same b h.1)
      places_same (Loop a c b) h = (places_same a h.0, places_same b h.1)
      places_same (Block a) h = places_same a h
      places_same (Exit k) h = h

  -- ---- functions and programs

  function_scoped : (ds : List ℕ) (g : Function) → IsScopedFunction g → IsScopedFunction (record { result = g.result; parameters = g.parameters; kinds = g.kinds; scopes = g.scopes; body = hinted cells ds g.body; value = g.value })
  function_scoped ds g p = record {
    few = p.few;
    body = scoped_same ds g.kinds g.scopes [] g.body at_entry p.body;
    shut = subst (AreShut g.scopes) (sym (after_same ds g.body at_entry)) p.shut;
  }

  pub stays_scoped : (P : Program) → IsScoped P → IsScoped (prefetched_program cells P)
  stays_scoped P p = All-map IsScopedFunction (prefetched_function cells) P.functions (λ k d lt. function_scoped _ (slice_index_or P.functions k d) (p k d lt))

  pub keeps_the_places : (Q : ℕ → Option ℕ → ℕ → Bool) (ds : List ℕ) (a : Code) → AllPlaces Q a → AllPlaces Q (hinted cells ds a)
  keeps_the_places Q ds a h = places_same ds Q a h

  counts_same : (gs : List Function) → map (λ (g : Function). g.scopes) (map (prefetched_function cells) gs) ≡ map (λ (g : Function). g.scopes) gs
  counts_same [] = refl
  counts_same (g ∷ gs) = λ i. g.scopes ∷ counts_same gs i

  pub has_the_same_scopes : (P : Program) → map (λ (g : Function). g.scopes) (prefetched_program cells P).functions ≡ map (λ (g : Function). g.scopes) P.functions
  has_the_same_scopes P = counts_same P.functions
