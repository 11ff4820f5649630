-- a program's turn: its call is granted, and it has in hand what its mode says
use Rattle.std.proofs.Common.{◌≡◌, inl, inr, ℕ, Bool, true, false, cond, not, ◌&&◌, [], length, Option, Some, None, refl, sym, ap, ◌∙◌, subst, arith}
use Rattle.std.specs.Prelude.{◌==◌, ◌+◌, ◌%◌, nat_lt, nat_le}
use Rattle.code_form.specs.declared.touch.Touch.{Touch}
use Rattle.code_form.specs.declared.touch.Touch.TheVariants as touch
use Rattle.code_form.specs.Code.{is_blocked}
use Rattle.code_form.specs.Placed.{pieces}
use Rattle.pointer_word.specs.Hands.{Hand, known}
use Rattle.pointer_word.specs.Machine.{State}
use Rattle.pointer_word.specs.Calls.{Opens, Closes, Begins, Marks, Leaves, act}
use Rattle.pointer_word.specs.Asked.{HasNothing}
use Rattle.pointer_word.specs.Legal.{holds}
use Rattle.pointer_word.specs.Sound.{Inv}
use Rattle.world_semantics.specs.declared.event.Choice.{Choice}
use Rattle.world_semantics.specs.declared.event.Choice.TheVariants as choice
use Rattle.world_semantics.specs.Fetchers as fetching
use Rattle.world_semantics.specs.Fetchers.{Fetching, as_mode}
use Rattle.world_semantics.specs.Programs.{Eviction, Copying, Freed, Hold, Mode, Ready, Missing, Bringing, Reading, Filling, Evicting, Releasing, Retreating, Closing, Wanted, Program, Setting, next_touch, object_of, object_or_none, next_free, hold_at, holding, in_mode, finished, first_hold, may_grow, rest_of}
use Rattle.world_semantics.specs.Turns.{Answer, Turn, NotEnabled, Calls, as_next, evacuator_idle, evacuator_turn, grows, closes, found, aims_at, loads_from, loads_by, stores_to, stores_by, leaves_by, ends_by, ready, began, marked_so, left_so, seeks, program_brings, closed_so, gives_up, by_mode}
use Rattle.world_semantics.specs.Worlds.{ReadsHonestly}
use Rattle.world_semantics.specs.InHand.{OnlyBrings, FitsMode, FitsEvacuator}
use Rattle.world_semantics.proofs.Calling.{begins, marks, leaves}
use Rattle.world_semantics.proofs.Bringing.{brings_ok, claim_ok, holds_none, holds_self}
use Rattle.world_semantics.proofs.Moving.{TurnOk, turn_cond, evicts_ok}

as_next_ok : {A : Type 0} (h : Type 0) (n : ℕ) (s : State) (m : ℕ) (Q : State → A → Type 0) (c : Choice) (x : Turn A) → TurnOk h n s m Q x → TurnOk h n s m Q (as_next c x)
as_next_ok h n s m Q choice.Next x ok = ok
as_next_ok h n s m Q (choice.Look f) x ok = tt
as_next_ok h n s m Q (choice.Claim f) x ok = tt
as_next_ok h n s m Q (choice.Mark o f) x ok = tt
as_next_ok h n s m Q (choice.Leave o f) x ok = tt
as_next_ok h n s m Q (choice.Begin o) x ok = tt

module _ (h : Type 0) (g : Setting) (s : State) (p : Program) (a : Answer) (inv : Inv h g.size s) where
  -- the mode of the program, with what it has in hand
  abbrev Fits : State → Program → Type 0
  Fits t q = FitsMode h g.size t.far (t.hand g.mover) q.mode

  abbrev Ok : Turn Program → Type 0
  Ok x = TurnOk h g.size s g.mover Fits x

  either : (t : State) (b : Bool) (x y : Program) → (b ≡ true → Fits t x) → (b ≡ false → Fits t y) → Fits t (cond b x y)
  either t true x y e f = e refl
  either t false x y e f = f refl

  -- ---- an instruction

  module _ (free : HasNothing (s.hand g.mover)) where
    grows_ok : Fits s (grows g p a)
    grows_ok = either s (not a.grew && may_grow (next_touch g p) (rest_of p.core)) _ _ (λ _. free) (λ _. free)

    closes_ok : (k : ℕ) (x : Hold) → p.mode ≡ Ready → Ok (closes p k x)
    closes_ok k x e = (tt, refl, subst (λ y. FitsMode h g.size s.far (s.hand g.mover) y) (sym e) free)

    aims_ok : (k : ℕ) (x : Option Hold) (w : Option ℕ) → p.mode ≡ Ready → Ok (aims_at g p k x w)
    aims_ok k None None e = free
    aims_ok k None (Some o) e = let t : State = act s (Opens o) in (tt, refl, either t (known (t.note o).frame) _ _ (λ _. free) (λ _. free))
    aims_ok k (Some x) None e = closes_ok k x e
    aims_ok k (Some x) (Some o) e = turn_cond h g.size s g.mover Fits (x.object == o) _ _ (λ _. free) (λ _. closes_ok k x e)

    loads_from_ok : (f : Option ℕ) (i : ℕ) → Ok (loads_from g s p f i)
    loads_from_ok None i = tt
    loads_from_ok (Some f) i = free

    loads_ok : (x : Option Hold) (o i : ℕ) → Ok (loads_by g s p x o i)
    loads_ok None o i = tt
    loads_ok (Some x) o i = turn_cond h g.size s g.mover Fits (x.object == o) _ _ (λ _. loads_from_ok (s.note o).frame i) (λ _. tt)

    stores_to_ok : (f : Option ℕ) (o i v : ℕ) → Ok (stores_to g p f o i v)
    stores_to_ok None o i v = tt
    stores_to_ok (Some f) o i v = (tt, refl, free)

    stores_ok : (k : ℕ) (x : Option Hold) (o i v : ℕ) → p.mode ≡ Ready → Ok (stores_by g s p k x o i v)
    stores_ok k None o i v e = tt
    stores_ok k (Some x) o i v e =
        turn_cond h g.size s g.mover Fits (x.object == o) _ _
        (λ _. turn_cond h g.size s g.mover Fits x.writes _ _ (λ _. stores_to_ok (s.note o).frame o i v) (λ _. (tt, refl, subst (λ y. FitsMode h g.size s.far (s.hand g.mover) y) (sym e) free)))
        (λ _. tt)

    leaves_ok : (k : ℕ) (x : Option Hold) → Ok (leaves_by g p k x)
    leaves_ok k None = free
    leaves_ok k (Some x) = (tt, refl, free)

    ends_ok : (q : Option (ℕ × Hold)) → p.mode ≡ Ready → Ok (ends_by g p a q)
    ends_ok None e = grows_ok
    ends_ok (Some q) e = closes_ok q.0 q.1 e

    ready_ok : (x : Touch) → p.mode ≡ Ready → Ok (ready g s p a x)
    ready_ok touch.Plain e = grows_ok
    ready_ok (touch.Hints w) e = free
    ready_ok (touch.Aims k w) e = turn_cond h g.size s g.mover Fits (nat_lt k (length p.holds)) _ _ (λ _. aims_ok k (hold_at p.holds k) (object_or_none g p w) e) (λ _. tt)
    ready_ok (touch.Loads k x) e = loads_ok (hold_at p.holds k) (object_of g p x) (x.index % g.size)
    ready_ok (touch.Stores k x v) e = stores_ok k (hold_at p.holds k) (object_of g p x) (x.index % g.size) v e
    ready_ok (touch.Leaves k) e = leaves_ok k (hold_at p.holds k)
    ready_ok (touch.Allocs cells) e = turn_cond h g.size s g.mover Fits (nat_le (next_free g p + pieces g.size cells) g.limit) _ _ (λ _. grows_ok) (λ _. free)
    ready_ok touch.Ends e = ends_ok (first_hold p.holds) e
    ready_ok touch.Wrong e = tt
    ready_ok touch.Nothing e = tt

    missing_ok : (o : ℕ) → Ok (Calls (Begins g.mover o (s.note o).count true) (began g p o))
    missing_ok o =
        let t : State = act s (Begins g.mover o (s.note o).count true) in
        let x : Hand = s.hand g.mover in
        let tried = begins s g.mover o (s.note o).count true in (
          tt,
          refl,
          either t (holds (t.hand g.mover).bringing o) (in_mode p (Bringing o)) (found g p o t)
              (λ q. elim tried.hand [
                | inl e ↦ subst (OnlyBrings o) (sym e) (refl, free.1, free.2)
                | inr e ↦ absurd (holds_none (t.hand g.mover).bringing o (ap (λ (y : Hand). y.bringing) e ∙ free.0) q)
              ])
              (λ q. let here : HasNothing (t.hand g.mover) = elim tried.hand [
                | inl e ↦ absurd (holds_self (t.hand g.mover).bringing o (ap (λ (y : Hand). y.bringing) e) q)
                | inr e ↦ subst HasNothing (sym e) free
              ] in either t (known (t.note o).frame) (finished g p 0) (in_mode p (Missing o)) (λ _. here) (λ _. here)),
        )

    closed_ok : (t : State) (r : Program) (q : Option (ℕ × Hold)) → HasNothing (t.hand g.mover) → r.mode ≡ Closing → Fits t (closed_so r q)
    closed_ok t r None has e = has
    closed_ok t r (Some q) has e = subst (λ y. FitsMode h g.size t.far (t.hand g.mover) y) (sym e) has

    closing_ok : (q : Option (ℕ × Hold)) → p.mode ≡ Closing → Ok (gives_up p q)
    closing_ok None e = free
    closing_ok (Some q) e = (tt, refl, closed_ok (act s (Closes q.1.object)) (holding p q.0 None) (first_hold (holding p q.0 None).holds) free e)

  -- ---- bringing in

  mark_ok : (o v f : ℕ) → OnlyBrings o (s.hand g.mover) → p.mode ≡ Bringing o → Ok (Calls (Marks g.mover v f) (marked_so g p o v f))
  mark_ok o v f only m =
      let t : State = act s (Marks g.mover v f) in
      let x : Hand = s.hand g.mover in
      let tried = marks s g.mover v f in (
        only.1,
        refl,
        either t (holds (t.hand g.mover).leaving v) (in_mode p (Evicting o (Copying v f []))) p
            (λ q. elim tried.hand [
              | inl e ↦ subst (λ (y : Hand). FitsMode h g.size t.far y (Evicting o (Copying v f []))) (sym e)
                  (only.0, only.2.0, ((refl, refl, only.2.1), (λ i l. absurd (omega arith)), omega arith))
              | inr e ↦ absurd (holds_none (t.hand g.mover).leaving v (ap (λ (y : Hand). y.leaving) e ∙ only.1) q)
            ])
            (λ q. elim tried.hand [
              | inl e ↦ absurd (holds_self (t.hand g.mover).leaving v (ap (λ (y : Hand). y.leaving) e) q)
              | inr e ↦ subst (λ y. FitsMode h g.size t.far (t.hand g.mover) y) (sym m) (subst (OnlyBrings o) (sym e) only)
            ]),
      )

  leave_ok : (o v f : ℕ) → OnlyBrings o (s.hand g.mover) → p.mode ≡ Bringing o → Ok (Calls (Leaves g.mover v f) (left_so g p o f))
  leave_ok o v f only m =
      let t : State = act s (Leaves g.mover v f) in
      let tried = leaves s g.mover v f in (
        only.2.1,
        refl,
        either t (holds (t.hand g.mover).freed f) (in_mode p (Evicting o (Freed f))) p
            (λ q. elim tried.hand [
              | inl e ↦ subst (λ (y : Hand). FitsMode h g.size t.far y (Evicting o (Freed f))) (sym e) (only.0, only.2.0, (only.1, refl))
              | inr e ↦ absurd (holds_none (t.hand g.mover).freed f (ap (λ (y : Hand). y.freed) e ∙ only.2.1) q)
            ])
            (λ q. elim tried.hand [
              | inl e ↦ absurd (holds_self (t.hand g.mover).freed f (ap (λ (y : Hand). y.freed) e) q)
              | inr e ↦ subst (λ y. FitsMode h g.size t.far (t.hand g.mover) y) (sym m) (subst (OnlyBrings o) (sym e) only)
            ]),
      )

  seeks_ok : (o : ℕ) (c : Choice) → OnlyBrings o (s.hand g.mover) → p.mode ≡ Bringing o → Ok (seeks g p o c)
  seeks_ok o choice.Next only m = tt
  seeks_ok o (choice.Begin v) only m = tt
  seeks_ok o (choice.Look f) only m = subst (λ y. FitsMode h g.size s.far (s.hand g.mover) y) (sym m) only
  seeks_ok o (choice.Claim f) only m =
      claim_ok h g.size s g.mover inv (λ d. in_mode p (as_mode d)) Fits (λ t d is. is) o f p (λ t is. subst (λ y. FitsMode h g.size t.far (t.hand g.mover) y) (sym m) is) only
  seeks_ok o (choice.Mark v f) only m = mark_ok o v f only m
  seeks_ok o (choice.Leave v f) only m = leave_ok o v f only m

  bring_ok : (d : Fetching) → FitsMode h g.size s.far (s.hand g.mover) (as_mode d) → (h → ReadsHonestly g.size s (as_mode d) a.read) → Ok (program_brings g p a d)
  bring_ok d fits honest = brings_ok h g.size s g.mover inv (λ e. in_mode p (as_mode e)) Fits (λ t e is. is) true a (finished g p 0) (in_mode p Closing) (λ t is. is) (λ t is. is) d fits honest

  pub program_ok : (m : Mode) → p.mode ≡ m → FitsMode h g.size s.far (s.hand g.mover) m → (c : Choice) → (h → ReadsHonestly g.size s m a.read) → Ok (by_mode g s p m c a)
  program_ok Ready e fits c honest =
      as_next_ok h g.size s g.mover Fits c _ (turn_cond h g.size s g.mover Fits (is_blocked p.core) NotEnabled (ready g s p a (next_touch g p)) (λ _. tt) (λ _. ready_ok fits (next_touch g p) e))
  program_ok (Missing o) e fits c honest = as_next_ok h g.size s g.mover Fits c _ (missing_ok fits o)
  program_ok (Bringing o) e fits c honest = seeks_ok o c fits e
  program_ok (Reading o f) e fits c honest = as_next_ok h g.size s g.mover Fits c _ (bring_ok (fetching.Reading o f) fits honest)
  program_ok (Filling o f words k) e fits c honest = as_next_ok h g.size s g.mover Fits c _ (bring_ok (fetching.Filling o f words k) fits honest)
  program_ok (Evicting o d) e fits c honest =
      as_next_ok h g.size s g.mover Fits c _
      (evicts_ok h g.size s g.mover a (λ d. in_mode p (Evicting o d)) (in_mode p (Bringing o)) (in_mode p (Retreating o)) Fits (Some o) (λ t d is. is) (λ t is. is) (λ t is. is) fits.0 fits.1 d fits.2)
  program_ok (Releasing o f) e fits c honest = as_next_ok h g.size s g.mover Fits c _ (bring_ok (fetching.Releasing o f) fits honest)
  program_ok (Retreating o) e fits c honest = as_next_ok h g.size s g.mover Fits c _ (bring_ok (fetching.Retreating o) fits honest)
  program_ok Closing e fits c honest = as_next_ok h g.size s g.mover Fits c _ (closing_ok fits (first_hold p.holds) e)
  program_ok (Wanted w) e fits c honest = tt

-- ---- an evacuator

module _ (h : Type 0) (n : ℕ) (s : State) (m : ℕ) where
  -- the evacuator, with what it has in hand
  abbrev EvacuatorFits : State → Option Eviction → Type 0
  EvacuatorFits t d = FitsEvacuator n t.far (t.hand m) d

  either_so : (t : State) (b : Bool) (x y : Option Eviction) → (b ≡ true → EvacuatorFits t x) → (b ≡ false → EvacuatorFits t y) → EvacuatorFits t (cond b x y)
  either_so t true x y e f = e refl
  either_so t false x y e f = f refl

  idle_ok : (c : Choice) → HasNothing (s.hand m) → TurnOk h n s m EvacuatorFits (evacuator_idle m c)
  idle_ok choice.Next has = tt
  idle_ok (choice.Look f) has = has
  idle_ok (choice.Claim f) has = tt
  idle_ok (choice.Begin o) has = tt
  idle_ok (choice.Mark o f) has =
      let t : State = act s (Marks m o f) in
      let tried = marks s m o f in (
        has.1,
        refl,
        either_so t (holds (t.hand m).leaving o) (Some (Copying o f [])) None
            (λ q. elim tried.hand [
              | inl e ↦ subst (λ (y : Hand). FitsEvacuator n t.far y (Some (Copying o f []))) (sym e) (has.0, has.2.0, ((refl, refl, has.2.1), (λ i l. absurd (omega arith)), omega arith))
              | inr e ↦ absurd (holds_none (t.hand m).leaving o (ap (λ (y : Hand). y.leaving) e ∙ has.1) q)
            ])
            (λ q. elim tried.hand [
              | inl e ↦ absurd (holds_self (t.hand m).leaving o (ap (λ (y : Hand). y.leaving) e) q)
              | inr e ↦ subst HasNothing (sym e) has
            ]),
      )
  idle_ok (choice.Leave o f) has =
      let t : State = act s (Leaves m o f) in
      let tried = leaves s m o f in (
        has.2.1,
        refl,
        either_so t (holds (t.hand m).freed f) (Some (Freed f)) None
            (λ q. elim tried.hand [
              | inl e ↦ subst (λ (y : Hand). FitsEvacuator n t.far y (Some (Freed f))) (sym e) (has.0, has.2.0, (has.1, refl))
              | inr e ↦ absurd (holds_none (t.hand m).freed f (ap (λ (y : Hand). y.freed) e ∙ has.2.1) q)
            ])
            (λ q. elim tried.hand [
              | inl e ↦ absurd (holds_self (t.hand m).freed f (ap (λ (y : Hand). y.freed) e) q)
              | inr e ↦ subst HasNothing (sym e) has
            ]),
      )

  pub evacuator_ok : (e : Option Eviction) (c : Choice) (a : Answer) → FitsEvacuator n s.far (s.hand m) e → TurnOk h n s m EvacuatorFits (evacuator_turn n m e c a)
  evacuator_ok None c a fits = idle_ok c fits
  evacuator_ok (Some e) c a fits =
      as_next_ok h n s m EvacuatorFits c _ (evicts_ok h n s m a Some None None EvacuatorFits None (λ t d is. is) (λ t is. is) (λ t is. is) fits.0 fits.1 e fits.2)
