-- a mover that brings an object in: its calls are granted, and it has in hand what it says
use Rattle.std.proofs.Common.{◌≡◌, inl, inr, ℕ, suc, ◌≤◌, Bool, true, false, cond, List, [], Option, Some, None, refl, sym, ap, ◌∙◌, subst, arith}
use Rattle.std.specs.Prelude.{◌==◌, nat_lt}
use Rattle.std.proofs.lemmas.Bool.Decides.{eqb_tells}
use Rattle.pointer_word.specs.Hands.{Hand, listed, claiming}
use Rattle.pointer_word.specs.Machine.{Far, Never, Kept, Unknown, State, content}
use Rattle.pointer_word.specs.Calls.{Begins, Claims, Fills, Arrives, Unclaims, Retreats, act}
use Rattle.pointer_word.specs.Asked.{HasNothing}
use Rattle.pointer_word.specs.Legal.{holds}
use Rattle.pointer_word.specs.Ordered.{IsFilled}
use Rattle.pointer_word.specs.Sound.{Inv, PlaceOk}
use Rattle.pointer_word.proofs.Ordered.{filled_one}
use Rattle.world_semantics.specs.declared.event.Choice.{Choice}
use Rattle.world_semantics.specs.declared.event.Choice.TheVariants as choice
use Rattle.world_semantics.specs.Fetchers as fetching
use Rattle.world_semantics.specs.Fetchers.{Fetching, as_mode}
use Rattle.world_semantics.specs.Programs.{Filling}
use Rattle.world_semantics.specs.Turns.{Answer, Calls, to_fill, claimed_so, read_so, brings, fetcher_idle, fetcher_claims, fetches, fetcher_turn}
use Rattle.world_semantics.specs.Worlds.{IsHonestRead, ReadsHonestly, FetchesHonestly}
use Rattle.world_semantics.specs.InHand.{WasPut, OnlyBrings, BringsInto, IsPromised, FitsMode, FitsFetcher}
use Rattle.world_semantics.proofs.Calling.{begins, claims, fills_one, arrives, unclaims, retreats}
use Rattle.world_semantics.proofs.Moving.{TurnOk, turn_cond, not_below}

pub holds_none : (x : Option ℕ) (f : ℕ) → x ≡ None → holds x f ≡ true → ⊥
holds_none None f e q = cc
holds_none (Some g) f e q = cc

pub holds_self : (x : Option ℕ) (f : ℕ) → x ≡ Some f → holds x f ≡ false → ⊥
holds_self x f e q = let r : (f == f) ≡ false = sym (ap (λ y. holds y f) e) ∙ q in elim (eqb_tells f f) [ inl k ↦ (let z : true ≡ false = sym k.0 ∙ r in cc) | inr k ↦ k.1 refl ]

-- ---- what is known of the words

module _ (h : Type 0) (n : ℕ) (s : State) (m : ℕ) (inv : Inv h n s) where
  -- what the berth in hand keeps is what the store cell has
  promised : (o : ℕ) → (s.hand m).bringing ≡ Some o → content (s.far o) ≡ Some (s.hand m).promised
  promised o e = (subst (PlaceOk h n s o) ((inv.mover m).brings o e) (inv.object o)).2

  to_fill_ok : (far : ℕ → Far) (x : Hand) (o f : ℕ) → BringsInto o f x → content (far o) ≡ Some x.promised → (y : Far) → far o ≡ y → FitsMode h n far x (as_mode (to_fill o f y))
  to_fill_ok far x o f into same Never e =
      let q : [] ≡ x.promised = (let r : Some [] ≡ Some x.promised = sym (ap content e) ∙ same in cc) in
      (into, (λ i l. absurd (omega arith)), (λ _ i l. ap (λ ws. listed ws i) q))
  to_fill_ok far x o f into same (Kept words) e = (into, subst WasPut (sym e) tt)
  to_fill_ok far x o f into same Unknown e = (into, subst WasPut (sym e) tt)

  read_ok : (o f : ℕ) (read : Option (List ℕ)) (y : Far) → s.far o ≡ y → BringsInto o f (s.hand m) → WasPut y → (h → IsHonestRead n y read) → FitsMode h n s.far (s.hand m) (as_mode (read_so o f read))
  read_ok o f None y e into put honest = into
  read_ok o f (Some words) Never e into put honest = absurd put
  read_ok o f (Some words) (Kept ws) e into put honest =
      let q : ws ≡ (s.hand m).promised = (let r : Some ws ≡ Some (s.hand m).promised = sym (ap content e) ∙ promised o into.0 in cc) in
      (into, (λ i l. absurd (omega arith)), (λ k i l. honest k i l ∙ ap (λ vs. listed vs i) q))
  read_ok o f (Some words) Unknown e into put honest =
      let r : None ≡ Some (s.hand m).promised = sym (ap content e) ∙ promised o into.0 in cc

-- ---- its turns

module _ {A : Type 0} (h : Type 0) (n : ℕ) (s : State) (m : ℕ) (inv : Inv h n s) (go : Fetching → A) (Q : State → A → Type 0)
    (goes : (t : State) (d : Fetching) → FitsMode h n t.far (t.hand m) (as_mode d) → Q t (go d)) where
  chosen : (t : State) (b : Bool) (x y : A) → (b ≡ true → Q t x) → (b ≡ false → Q t y) → Q t (cond b x y)
  chosen t true x y e f = e refl
  chosen t false x y e f = f refl

  pub claim_ok : (o f : ℕ) (same : A) → ((t : State) → OnlyBrings o (t.hand m) → Q t same) → OnlyBrings o (s.hand m) → TurnOk h n s m Q (Calls (Claims m o f) (claimed_so m o f go same))
  claim_ok o f same stays only =
      let t : State = act s (Claims m o f) in
      let x : Hand = s.hand m in
      let tried = claims s m o f in
      let keeps : content (t.far o) ≡ Some x.promised = ap (λ (far : ℕ → Far). content (far o)) tried.far ∙ promised h n s m inv o only.0 in (
        only.2.0,
        refl,
        chosen t (holds (t.hand m).claimed f) (go (to_fill o f (t.far o))) same
            (λ q. goes t (to_fill o f (t.far o)) (elim tried.hand [
              | inl e ↦ subst (λ (y : Hand). FitsMode h n t.far y (as_mode (to_fill o f (t.far o)))) (sym e)
                  (to_fill_ok h n s m inv t.far (claiming x f) o f (only.0, only.1, refl, only.2.1) keeps (t.far o) refl)
              | inr e ↦ absurd (holds_none (t.hand m).claimed f (ap (λ (y : Hand). y.claimed) e ∙ only.2.0) q)
            ]))
            (λ q. stays t (elim tried.hand [
              | inl e ↦ absurd (holds_self (t.hand m).claimed f (ap (λ (y : Hand). y.claimed) e) q)
              | inr e ↦ subst (OnlyBrings o) (sym e) only
            ])),
      )

  module _ (own : Bool) (a : Answer) (done failed : A) (ends : (t : State) → HasNothing (t.hand m) → Q t done) (fails : (t : State) → HasNothing (t.hand m) → Q t failed) where
    fills_ok : (o f : ℕ) (words : List ℕ) (k : ℕ) → BringsInto o f (s.hand m) → IsFilled (s.hand m) words k → (h → IsPromised n (s.hand m) words)
        → TurnOk h n s m Q (brings n m own a (fetching.Filling o f words k) go done failed)
    fills_ok o f words k into is same =
        turn_cond h n s m Q (nat_lt k n) _ _
        (λ e. (
          into.2,
          refl,
          goes (act s (Fills m f k (listed words k))) (fetching.Filling o f words (suc k))
              (subst (λ (y : Hand). FitsMode h n s.far y (Filling o f words (suc k))) (sym (fills_one s m f k (listed words k)).hand) (into, filled_one (s.hand m) words k is, same)),
        ))
        (λ e. let far : n ≤ k = not_below k n e in (
          (λ q i v l r. let w : Some (listed words i) ≡ Some v = sym (is i (omega arith)) ∙ r in let u : listed words i ≡ v = cc in sym u ∙ same q i l),
          refl,
          ends (act s (Arrives m o f own)) (subst HasNothing (sym (arrives s m o f own).hand) (refl, into.1, (refl, into.3))),
        ))

    gives_up_ok : (o : ℕ) → OnlyBrings o (s.hand m) → TurnOk h n s m Q (brings n m own a (fetching.Retreating o) go done failed)
    gives_up_ok o only = (only.0, refl, fails (act s (Retreats m o)) (subst HasNothing (sym (retreats s m o).hand) (refl, only.1, only.2)))

    pub brings_ok : (d : Fetching) → FitsMode h n s.far (s.hand m) (as_mode d) → (h → ReadsHonestly n s (as_mode d) a.read) → TurnOk h n s m Q (brings n m own a d go done failed)
    brings_ok (fetching.Bringing o) fits honest = gives_up_ok o fits
    brings_ok (fetching.Reading o f) fits honest = goes s (read_so o f a.read) (read_ok h n s m inv o f a.read (s.far o) refl fits.0 fits.1 honest)
    brings_ok (fetching.Filling o f words k) fits honest = fills_ok o f words k fits.0 fits.1 fits.2
    brings_ok (fetching.Releasing o f) fits honest =
        (fits.2, refl, goes (act s (Unclaims m f)) (fetching.Retreating o) (subst (OnlyBrings o) (sym (unclaims s m f).hand) (fits.0, fits.1, (refl, fits.3))))
    brings_ok (fetching.Retreating o) fits honest = gives_up_ok o fits

-- ---- a fetcher

module _ (h : Type 0) (n : ℕ) (s : State) (m : ℕ) (inv : Inv h n s) where
  -- the fetcher, with what it has in hand
  abbrev FetcherFits : State → Option Fetching → Type 0
  FetcherFits t d = FitsFetcher h n t.far (t.hand m) d

  either : (t : State) (b : Bool) (x y : Option Fetching) → (b ≡ true → FetcherFits t x) → (b ≡ false → FetcherFits t y) → FetcherFits t (cond b x y)
  either t true x y e f = e refl
  either t false x y e f = f refl

  idle_ok : (c : Choice) → HasNothing (s.hand m) → TurnOk h n s m FetcherFits (fetcher_idle m c)
  idle_ok choice.Next has = tt
  idle_ok (choice.Look f) has = tt
  idle_ok (choice.Claim f) has = tt
  idle_ok (choice.Mark o f) has = tt
  idle_ok (choice.Leave o f) has = tt
  idle_ok (choice.Begin o) has =
      let t : State = act s (Begins m o 0 false) in
      let tried = begins s m o 0 false in (
        tt,
        refl,
        either t (holds (t.hand m).bringing o) (Some (fetching.Bringing o)) None
            (λ q. elim tried.hand [
              | inl e ↦ subst (OnlyBrings o) (sym e) (refl, has.1, has.2)
              | inr e ↦ absurd (holds_none (t.hand m).bringing o (ap (λ (y : Hand). y.bringing) e ∙ has.0) q)
            ])
            (λ q. elim tried.hand [
              | inl e ↦ absurd (holds_self (t.hand m).bringing o (ap (λ (y : Hand). y.bringing) e) q)
              | inr e ↦ subst HasNothing (sym e) has
            ]),
      )

  claims_ok : (f : ℕ) (d : Fetching) → FitsMode h n s.far (s.hand m) (as_mode d) → TurnOk h n s m FetcherFits (fetcher_claims m f d)
  claims_ok f (fetching.Bringing o) fits = claim_ok h n s m inv Some FetcherFits (λ t d is. is) o f (Some (fetching.Bringing o)) (λ t only. only) fits
  claims_ok f (fetching.Reading o g) fits = tt
  claims_ok f (fetching.Filling o g words k) fits = tt
  claims_ok f (fetching.Releasing o g) fits = tt
  claims_ok f (fetching.Retreating o) fits = tt

  fetches_ok : (d : Fetching) (c : Choice) (a : Answer) → FitsMode h n s.far (s.hand m) (as_mode d) → (h → ReadsHonestly n s (as_mode d) a.read) → TurnOk h n s m FetcherFits (fetches n m d c a)
  fetches_ok d choice.Next a fits honest = brings_ok h n s m inv Some FetcherFits (λ t d is. is) false a None None (λ t is. is) (λ t is. is) d fits honest
  fetches_ok d (choice.Look f) a fits honest = tt
  fetches_ok d (choice.Claim f) a fits honest = claims_ok f d fits
  fetches_ok d (choice.Mark o f) a fits honest = tt
  fetches_ok d (choice.Leave o f) a fits honest = tt
  fetches_ok d (choice.Begin o) a fits honest = tt

  pub fetcher_ok : (d : Option Fetching) (c : Choice) (a : Answer) → FitsFetcher h n s.far (s.hand m) d → (h → FetchesHonestly n s d a.read) → TurnOk h n s m FetcherFits (fetcher_turn n m d c a)
  fetcher_ok None c a fits honest = idle_ok c fits
  fetcher_ok (Some d) c a fits honest = fetches_ok d c a fits honest
