-- A call and a return leave a good state good.
use Rattle.std.proofs.Common.{◌≡◌, ℕ, true, cond, Option, Some, None, List, [], ◌∷◌, refl, sym, ◌∙◌, subst}
use Rattle.std.specs.Prelude.{is_none, map, slice_get, slice_index}
use Rattle.std.proofs.lemmas.List.{length-map, length-set}
use Rattle.code_form.specs.declared.allocation.Allocation.{Allocation}
use Rattle.code_form.specs.declared.form.Kind.{Kind}
use Rattle.code_form.specs.Form.{Instruction, Call, Return, ReturnVoid, Function, Image}
use Rattle.code_form.specs.Effects.{Effect, Wrong, Heap}
use Rattle.code_form.specs.Code.{Core, Frame, Running, Stuck, act, args_fit, call_fits, calls, enters_at, has, on, result_fits, returns, written}
use Rattle.code_form.specs.Known.{wrote}
use Rattle.code_form.specs.Asked.{callee_fits}
use Rattle.code_verification.specs.Verified.{IsVerified}
use Rattle.code_verification.proofs.States.{AllWait, Checks, IsGood, IsKind, IsTypedHeap, LeadsOn}
use Rattle.code_verification.proofs.SameKinds.{both_left, both_right, has_is, on_kind_is}
use Rattle.code_verification.proofs.Allocations.{typed_grown}
use Rattle.code_verification.proofs.Holding.{holds_grown, holds_written}
use Rattle.code_verification.proofs.Typed.{passed_length, typed_arguments, typed_written}
use Rattle.code_verification.proofs.Functions.{begins_at, entry_good}

-- calls wait as before when an allocation is made
pub waits_grown : (C : Image) (b : Allocation) (al : List Allocation) (result : Option Kind) (to : Option ℕ) (st : List Frame) → AllWait C al result to st → AllWait C (b ∷ al) result to st
waits_grown C b al result to [] w = tt
waits_grown C b al result to (g ∷ st) w = (
  w.0,
  record {
    number = w.1.number;
    is = w.1.is;
    known = w.1.known;
    checks = w.1.checks;
    holds = holds_grown C.head b al g.function.kinds g.registers g.scopes w.1.known w.1.holds;
    typed = typed_grown C.head b al g.function.kinds g.registers w.1.typed;
    registers = w.1.registers;
    scopes = w.1.scopes;
  },
  waits_grown C b al g.function.result g.destination st w.2,
)

pub callee_is : (C : Image) (f : Function) (g : Option Function) (to : Option ℕ) (args : List ℕ) → callee_fits C f g to args ≡ true → (x : Function) × (g ≡ Some x) × (call_fits f.kinds x.result x.parameters x.kinds to args ≡ true)
callee_is C f None to args e = absurd (cc e)
callee_is C f (Some x) to args e = (x, refl, e)

no_result : (x : Option Kind) (k : Kind) → is_none x ≡ true → x ≡ Some k → ⊥
no_result None k e q = cc q
no_result (Some j) k e q = cc e

module _ (C : Image) (V : IsVerified C) (f : Frame) (st : List Frame) (al : List Allocation) (o : List ℕ) (h : Heap)
    (G : IsGood C al f None) (T : IsTypedHeap C.head al h) (W : AllWait C al f.function.result f.destination st) where
  abbrev So : Effect Core → Type 0
  So x = LeadsOn C (Running f st al o) h x

  pub call : (d : Option ℕ) (g : ℕ) (args : List ℕ) (rest : List Instruction) → Checks C f.function G.known (Call d g args ∷ rest) → So (act C (Call d g args ∷ rest) f st al o)
  call d g args rest c =
      let q = callee_is C f.function (slice_get C.functions g) d args c.0.0.1 in
      let x = q.0 in
      let e = begins_at C V g x q.1 in
      let values = map (slice_index f.registers) args in
      let fits : args_fit f.function.kinds x.kinds x.parameters args ≡ true = both_left _ _ q.2 in
      let gives : result_fits f.function.kinds x.result d ≡ true = both_right (args_fit f.function.kinds x.kinds x.parameters args) _ q.2 in
      let entered = entry_good C V al g x e.0 values d q.1 e.1 e.2
      (typed_arguments C.head al f.function.kinds x.kinds x.parameters _ args f.registers fits G.typed)
      (passed_length f.function.kinds x x.parameters args f.registers fits) in
      let waits : IsGood C al (on f rest) d =
      record { number = G.number; is = G.is; known = G.known; checks = (c.0.1, c.1.1); holds = G.holds; typed = G.typed; registers = G.registers; scopes = G.scopes } in
      subst (λ z. So (calls z d args rest f st al o)) (sym q.1)
      (subst (λ b. So (cond b (enters_at (slice_get x.blocks 0) x values d (on f rest ∷ st) al o) (Wrong (Stuck al o)))) (sym q.2)
      (subst (λ z. So (enters_at z x values d (on f rest ∷ st) al o)) (sym e.1) (T, entered, (gives, waits, W))))

  -- a result of the right kind goes to the caller that waits for it
  returned : (v : ℕ) (result : Option Kind) (to : Option ℕ) (fs : List Frame) → AllWait C al result to fs → ((k : Kind) → result ≡ Some k → IsKind C.head al k v) → So (returns v to fs al o)
  returned v result to [] w ok = tt
  returned v None None (g ∷ fs) w ok = (T, w.1, w.2)
  returned v None (Some d) (g ∷ fs) w ok = absurd (let e = w.0 in cc e)
  returned v (Some k) None (g ∷ fs) w ok = absurd (let e = w.0 in cc e)
  returned v (Some k) (Some d) (g ∷ fs) w ok = (
    T,
    record {
      number = w.1.number;
      is = w.1.is;
      known = wrote d w.1.known;
      checks = w.1.checks;
      holds = holds_written C.head al g.function.kinds g.registers g.scopes w.1.known d v w.1.holds;
      typed = typed_written C.head al g.function.kinds g.registers d v k (has_is g.function.kinds d k w.0) (ok k refl) w.1.registers w.1.typed;
      registers = length-set g.registers d v ∙ w.1.registers;
      scopes = length-map g.scopes (written d) ∙ w.1.scopes;
    },
    w.2,
  )

  pub return : (a : ℕ) (rest : List Instruction) → Checks C f.function G.known (Return a ∷ rest) → So (act C (Return a ∷ rest) f st al o)
  return a rest c =
      let p = on_kind_is (λ k. has f.function.kinds a k) f.function.result c.0.0.1 in
      subst (λ b. So (cond b (returns (slice_index f.registers a) f.destination st al o) (Wrong (Stuck al o)))) (sym c.0.0.1)
      (returned (slice_index f.registers a) f.function.result f.destination st W (λ k e.
      let same : p.0 ≡ k = let z : Some p.0 ≡ Some k = sym p.1 ∙ e in cc z in
      G.typed a k (has_is f.function.kinds a k (subst (λ q. has f.function.kinds a q ≡ true) same p.2))))

  pub return_void : (rest : List Instruction) → Checks C f.function G.known (ReturnVoid ∷ rest) → So (act C (ReturnVoid ∷ rest) f st al o)
  return_void rest c =
      subst (λ b. So (cond b (returns 0 f.destination st al o) (Wrong (Stuck al o)))) (sym c.0.0.1)
      (returned 0 f.function.result f.destination st W (λ k e. absurd (no_result f.function.result k c.0.0.1 e)))
