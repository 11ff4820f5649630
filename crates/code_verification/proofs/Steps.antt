-- Each instruction of a verified image leaves a good state good.
use Rattle.std.proofs.Common.{◌≡◌, ℕ, zero, suc, ◌+◌, ◌<◌, cond, Option, Some, None, List, [], ◌∷◌, length, refl, sym, ◌∙◌, subst, arith}
use Rattle.std.specs.Prelude.{slice_get, slice_index}
use Rattle.std.proofs.lemmas.List.{length-set}
use Rattle.code_form.specs.declared.allocation.Allocation.{Allocation}
use Rattle.code_form.specs.declared.form.Kind.TheVariants as kind
use Rattle.code_form.specs.Form.{Instruction, Simple, Aim, Load, Store, Leave, Call, Jump, Branch, Return, ReturnVoid, Error, Image}
use Rattle.code_form.specs.Effects.{Effect, Leaves, Loads, Stores, Wrong, Heap, step, steps}
use Rattle.code_form.specs.Code.{Aimed, Shut, Core, Frame, Running, Stopped, Stuck, act, aims_at, code, errs, if_zero, jumps, load_by, offset, on, scoped, set_to, store_by, text_at}
use Rattle.code_form.specs.Known.{KnownAimed, KnownShut, facts_known, with_scope, wrote}
use Rattle.code_form.specs.Asked.{Enters}
use Rattle.code_verification.specs.Verified.{IsVerified}
use Rattle.code_verification.proofs.States.{AllWait, Checks, IsGood, IsGoodState, IsTypedHeap, LeadsOn, ScopeIs}
use Rattle.code_verification.proofs.SameKinds.{both, has_is, is_below}
use Rattle.code_verification.proofs.Holding.{holds_entered, holds_written}
use Rattle.code_verification.proofs.Scopes.{holds_scope}
use Rattle.code_verification.proofs.Places.{IsAim, IsUsable, aim_of, in_cells, loaded_kind, stored_heap, usable}
use Rattle.code_verification.proofs.Behind.{behind, simple, wrote_to}
use Rattle.code_verification.proofs.Functions.{block_checks}
use Rattle.code_verification.proofs.Calls.{call, return, return_void}

module _ (C : Image) (V : IsVerified C) (f : Frame) (st : List Frame) (al : List Allocation) (o : List ℕ) (h : Heap)
    (G : IsGood C al f None) (T : IsTypedHeap C.head al h) (W : AllWait C al f.function.result f.destination st) where
  abbrev So : Effect Core → Type 0
  So x = LeadsOn C (Running f st al o) h x

  in_range : (s : ℕ) → s < f.function.scopes → s < length f.scopes
  in_range s l = let z = G.scopes in omega (arith, l, z)

  aim : (s r : ℕ) (off : Option ℕ) (i : ℕ) (rest : List Instruction) → Checks C f.function G.known (Aim s r off i ∷ rest) → So (act C (Aim s r off i ∷ rest) f st al o)
  aim s r off i rest c =
      let there = in_range s c.0.0.1.1 in
      subst (λ b. So (cond b (aims_at s r off i (slice_index f.registers r) (offset f.registers off + i) rest f st al o) (Wrong (Stuck al o)))) (sym (both _ _ c.0.0.1.0 (is_below s (length f.scopes) there))) (
        T,
        record {
          number = G.number;
          is = G.is;
          known = with_scope s (KnownAimed r off i) G.known;
          checks = (c.0.1, c.1.1);
          holds = holds_scope C.head al f.function.kinds f.registers f.scopes G.known s (KnownAimed r off i) (Aimed r off i (slice_index f.registers r) (offset f.registers off + i)) there refl G.holds;
          typed = G.typed;
          registers = G.registers;
          scopes = length-set f.scopes s _ ∙ G.scopes;
        },
        W,
      )

  leave : (s : ℕ) (rest : List Instruction) → Checks C f.function G.known (Leave s ∷ rest) → So (act C (Leave s ∷ rest) f st al o)
  leave s rest c =
      let there = in_range s c.0.0.1 in
      subst (λ b. So (cond b (Leaves s (Running (scoped f rest s Shut) st al o)) (Wrong (Stuck al o)))) (sym (is_below s (length f.scopes) there)) (
        T,
        record {
          number = G.number;
          is = G.is;
          known = with_scope s KnownShut G.known;
          checks = (c.0.1, c.1.1);
          holds = holds_scope C.head al f.function.kinds f.registers f.scopes G.known s KnownShut Shut there refl G.holds;
          typed = G.typed;
          registers = G.registers;
          scopes = length-set f.scopes s _ ∙ G.scopes;
        },
        W,
      )

  aimed_is : (s r : ℕ) (off : Option ℕ) (i : ℕ) → s < f.function.scopes → G.known.scope s ≡ KnownAimed r off i → slice_get f.scopes s ≡ Some (Aimed r off i (slice_index f.registers r) (offset f.registers off + i))
  aimed_is s r off i l e = subst (λ q. ScopeIs f.registers q (slice_get f.scopes s)) e (G.holds.scope s (in_range s l))

  -- the cell that a scope is aimed at may be used
  cell_used : (s a : ℕ) (m : IsAim C f.function G.known (G.known.scope s) a) → IsUsable C.head al f.function.kinds (slice_index f.registers m.r) (offset f.registers m.off + m.disp) a
  cell_used s a m = usable C.head al f.function.kinds h f.registers T G.typed f.scopes G.known a m.r m.off m.disp G.holds m.cell m.checked

  load : (d s : ℕ) (rest : List Instruction) → Checks C f.function G.known (Load d s ∷ rest) → So (act C (Load d s ∷ rest) f st al o)
  load d s rest c =
      let m = aim_of C f.function G.known (G.known.scope s) d c.0.0.1.1 c.1.0 in
      let q = slice_index f.registers m.r in
      let x = offset f.registers m.off + m.disp in
      let u = cell_used s d m in
      let ok = both _ _ m.cell (is_below _ _ (in_cells C.head al f.function.kinds h f.registers T G.typed q x d u)) in
      subst (λ z. So (load_by C.head z d s rest f st al o)) (sym (aimed_is s m.r m.off m.disp c.0.0.1.0 m.is))
      (subst (λ b. So (cond b (Loads s q x (λ v. Running (set_to f rest d v) st al o)) (Wrong (Stuck al o)))) (sym ok)
      (wrote_to C V f st al o h G T W rest (wrote d G.known) d (h q x) u.kind u.register (loaded_kind C.head al f.function.kinds h f.registers T G.typed q x d u) (c.0.1, c.1.1)
      (holds_written C.head al f.function.kinds f.registers f.scopes G.known d _ G.holds)))

  store : (s a : ℕ) (rest : List Instruction) → Checks C f.function G.known (Store s a ∷ rest) → So (act C (Store s a ∷ rest) f st al o)
  store s a rest c =
      let m = aim_of C f.function G.known (G.known.scope s) a c.0.0.1.1 c.1.0 in
      let q = slice_index f.registers m.r in
      let x = offset f.registers m.off + m.disp in
      let u = cell_used s a m in
      let ok = both _ _ m.cell (is_below _ _ (in_cells C.head al f.function.kinds h f.registers T G.typed q x a u)) in
      subst (λ z. So (store_by C.head z s a rest f st al o)) (sym (aimed_is s m.r m.off m.disp c.0.0.1.0 m.is))
      (subst (λ b. So (cond b (Stores s q x (slice_index f.registers a) (Running (on f rest) st al o)) (Wrong (Stuck al o)))) (sym ok)
      (behind C V f st al o h G T W rest G.known o _ (stored_heap C.head al f.function.kinds h f.registers T G.typed q x a u) (c.0.1, c.1.1) G.holds))

  -- ---- other blocks, and an end

  enter : (b : ℕ) → Enters C f.function G.known b → So (jumps (slice_get f.function.blocks b) f st al o)
  enter b e =
      subst (λ z. So (jumps z f st al o)) (sym e.1)
      (behind C V f st al o h G T W e.0.code (facts_known e.0.facts) o h T (block_checks C V G.number b f.function e.0 G.is e.1) (holds_entered C.head al f.function.kinds f.registers f.scopes G.known e.0.facts e.2 G.holds))

  branch : (a b c : ℕ) (rest : List Instruction) → Checks C f.function G.known (Branch a b c ∷ rest) → So (act C (Branch a b c ∷ rest) f st al o)
  branch a b c rest ch =
      subst (λ t. So (cond t (if_zero (slice_index f.registers a) (jumps (slice_get f.function.blocks c) f st al o) (jumps (slice_get f.function.blocks b) f st al o)) (Wrong (Stuck al o)))) (sym ch.0.0.1.0) (by_zero (slice_index f.registers a))
    where
      by_zero : (x : ℕ) → So (if_zero x (jumps (slice_get f.function.blocks c) f st al o) (jumps (slice_get f.function.blocks b) f st al o))
      by_zero zero = enter c ch.0.0.1.2
      by_zero (suc x) = enter b ch.0.0.1.1

  raise : (a : ℕ) (rest : List Instruction) → Checks C f.function G.known (Error a ∷ rest) → So (act C (Error a ∷ rest) f st al o)
  raise a rest c =
      let t = G.typed a kind.Text (has_is f.function.kinds a kind.Text c.0.0.1) in
      subst (λ b. So (cond b (errs (text_at C.head (slice_index f.registers a)) al o) (Wrong (Stuck al o)))) (sym c.0.0.1) (subst (λ z. So (errs z al o)) (sym t.1) tt)

  next : (is : List Instruction) → Checks C f.function G.known is → So (act C is f st al o)
  next [] c = absurd c.0
  next (Simple op ∷ rest) c = simple C V f st al o h G T W op rest c
  next (Aim s r off i ∷ rest) c = aim s r off i rest c
  next (Load d s ∷ rest) c = load d s rest c
  next (Store s a ∷ rest) c = store s a rest c
  next (Leave s ∷ rest) c = leave s rest c
  next (Call d g args ∷ rest) c = call C V f st al o h G T W d g args rest c
  next (Jump b ∷ rest) c = enter b c.0.0.1
  next (Branch a b d ∷ rest) c = branch a b d rest c
  next (Return a ∷ rest) c = return C V f st al o h G T W a rest c
  next (ReturnVoid ∷ rest) c = return_void C V f st al o h G T W rest c
  next (Error a ∷ rest) c = raise a rest c

pub step_good : (C : Image) → IsVerified C → (c : Core) (h : Heap) → IsGoodState C c h → IsGoodState C (step (code C) (c, h)).0 (step (code C) (c, h)).1
step_good C V (Running f st al o) h g = next C V f st al o h g.1 g.0 g.2 f.rest g.1.checks
step_good C V (Stopped s al o) h g = tt
step_good C V (Stuck al o) h g = g

pub steps_good : (C : Image) → IsVerified C → (k : ℕ) (c : Core) (h : Heap) → IsGoodState C c h → IsGoodState C (steps (code C) k (c, h)).0 (steps (code C) k (c, h)).1
steps_good C V zero c h g = g
steps_good C V (suc k) c h g = steps_good C V k (step (code C) (c, h)).0 (step (code C) (c, h)).1 (step_good C V c h g)
