-- Wherever a run of a verified image enters a block, its entry facts hold.
use Rattle.std.proofs.Common.{◌≡◌, ℕ, zero, suc, true, cond, Option, Some, None, List, [], ◌∷◌, refl, sym, ap, ◌∙◌, subst}
use Rattle.std.specs.Prelude.{All, map, slice_get, slice_index}
use Rattle.std.proofs.lemmas.List.{length-replicate}
use Rattle.code_form.specs.declared.allocation.Allocation.{Allocation}
use Rattle.code_form.specs.Form.{Instruction, Simple, Aim, Load, Store, Leave, Call, Jump, Branch, Return, ReturnVoid, Error, Block, Function, Image}
use Rattle.code_form.specs.Effects.{Effect, Heap, Wrong, code_run, run_effect, step, steps}
use Rattle.code_form.specs.Code.{Core, Frame, Running, Shut, Stopped, Stuck, act, args_fit, begins, calls, code, enters_at, entered, entry, first_registers, if_zero, jumps, on}
use Rattle.code_form.specs.Facts.{FactHolds}
use Rattle.code_form.specs.Known.{AreKnown, at_entry}
use Rattle.code_form.specs.Asked.{Enters}
use Rattle.code_verification.specs.Entries.{EntryFactsHold, IsAtEntry, first_block, led_to, next_block}
use Rattle.code_verification.specs.Verified.{IsVerified}
use Rattle.code_verification.proofs.States.{AreTyped, Checks, IsGood, IsGoodState}
use Rattle.code_verification.proofs.SameKinds.{both_left}
use Rattle.code_verification.proofs.Typed.{typed_arguments, typed_zeros}
use Rattle.code_verification.proofs.Scopes.{holds_at_entry}
use Rattle.code_verification.proofs.Functions.{begins_at, block_named, main_there}
use Rattle.code_verification.proofs.Calls.{callee_is}
use Rattle.code_verification.proofs.Leading.{facts_hold}
use Rattle.code_verification.proofs.Covers.{run_good}

-- the first block of a function that is there
first_is : (C : Image) (V : IsVerified C) (n : ℕ) (g : Function) (b : Block) → slice_get C.functions n ≡ Some g → first_block (slice_get C.functions n) ≡ Some b → (slice_get g.blocks 0 ≡ Some b) × AreKnown at_entry b.facts
first_is C V n g b is e =
    let there : slice_get g.blocks 0 ≡ Some b = sym (ap first_block is) ∙ e in
    let x = begins_at C V n g is in
    let same : x.0 ≡ b = let z : Some x.0 ≡ Some b = sym x.1 ∙ there in cc z in
    (there, subst (λ (y : Block). AreKnown at_entry y.facts) same x.2)

-- at the entry of a function
entry_facts : (C : Image) (V : IsVerified C) (al : List Allocation) (n : ℕ) (g : Function) (b : Block) (values : List ℕ) (to : Option ℕ) → slice_get C.functions n ≡ Some g → slice_get g.blocks 0 ≡ Some b → AreKnown at_entry b.facts
    → AreTyped C.head al g.kinds (first_registers g values) → All (FactHolds C.head al (entry g values to b)) b.facts
entry_facts C V al n g b values to is there known typed =
    facts_hold C.head al (entry g values to b) at_entry typed (length-replicate g.scopes Shut) (holds_at_entry C.head al g.kinds (first_registers g values) g.scopes) b.facts known (block_named C V n 0 g b is there)

module _ (C : Image) (V : IsVerified C) (b : Block) (f : Frame) (st : List Frame) (al : List Allocation) (o : List ℕ) (h : Heap) (G : IsGood C al f None) where
  -- an effect leads to the entry of the block
  abbrev So : Effect Core → Type 0
  So x = IsAtEntry C b (run_effect x (Running f st al o) h).0

  jumped : (k : ℕ) → Enters C f.function G.known k → slice_get f.function.blocks k ≡ Some b → So (jumps (slice_get f.function.blocks k) f st al o)
  jumped k e there =
      let same : e.0 ≡ b = let z : Some e.0 ≡ Some b = sym e.1 ∙ there in cc z in
      let known : AreKnown G.known b.facts = subst (λ (y : Block). AreKnown G.known y.facts) same e.2 in
      subst (λ z. So (jumps z f st al o)) (sym there)
      (refl, facts_hold C.head al (on f b.code) G.known G.typed G.scopes G.holds b.facts known (block_named C V G.number k f.function b G.is there))

  branched : (a j k : ℕ) (rest : List Instruction) → Checks C f.function G.known (Branch a j k ∷ rest) → led_to C f (Branch a j k ∷ rest) ≡ Some b → So (act C (Branch a j k ∷ rest) f st al o)
  branched a j k rest c e =
      subst (λ t. So (cond t (if_zero (slice_index f.registers a) (jumps (slice_get f.function.blocks k) f st al o) (jumps (slice_get f.function.blocks j) f st al o)) (Wrong (Stuck al o)))) (sym c.0.0.1.0) (by_zero (slice_index f.registers a) e)
    where
      by_zero : (x : ℕ) → if_zero x (slice_get f.function.blocks k) (slice_get f.function.blocks j) ≡ Some b → So (if_zero x (jumps (slice_get f.function.blocks k) f st al o) (jumps (slice_get f.function.blocks j) f st al o))
      by_zero zero there = jumped k c.0.0.1.2 there
      by_zero (suc x) there = jumped j c.0.0.1.1 there

  called : (d : Option ℕ) (g : ℕ) (args : List ℕ) (rest : List Instruction) → Checks C f.function G.known (Call d g args ∷ rest) → led_to C f (Call d g args ∷ rest) ≡ Some b → So (act C (Call d g args ∷ rest) f st al o)
  called d g args rest c e =
      let q = callee_is C f.function (slice_get C.functions g) d args c.0.0.1 in
      let x = q.0 in
      let z = first_is C V g x b q.1 e in
      let values = map (slice_index f.registers) args in
      let fits : args_fit f.function.kinds x.kinds x.parameters args ≡ true = both_left _ _ q.2 in
      subst (λ y. So (calls y d args rest f st al o)) (sym q.1)
      (subst (λ t. So (cond t (enters_at (slice_get x.blocks 0) x values d (on f rest ∷ st) al o) (Wrong (Stuck al o)))) (sym q.2)
      (subst (λ y. So (enters_at y x values d (on f rest ∷ st) al o)) (sym z.0)
      (refl, entry_facts C V al g x b values d q.1 z.0 z.1 (typed_arguments C.head al f.function.kinds x.kinds x.parameters _ args f.registers fits G.typed))))

  led : (is : List Instruction) → Checks C f.function G.known is → led_to C f is ≡ Some b → So (act C is f st al o)
  led [] c e = absurd (cc e)
  led (Simple op ∷ rest) c e = absurd (cc e)
  led (Aim s r off i ∷ rest) c e = absurd (cc e)
  led (Load d s ∷ rest) c e = absurd (cc e)
  led (Store s a ∷ rest) c e = absurd (cc e)
  led (Leave s ∷ rest) c e = absurd (cc e)
  led (Call d g args ∷ rest) c e = called d g args rest c e
  led (Jump k ∷ rest) c e = jumped k c.0.0.1 e
  led (Branch a j k ∷ rest) c e = branched a j k rest c e
  led (Return a ∷ rest) c e = absurd (cc e)
  led (ReturnVoid ∷ rest) c e = absurd (cc e)
  led (Error a ∷ rest) c e = absurd (cc e)

led_in : (C : Image) (V : IsVerified C) (b : Block) (c : Core) (h : Heap) → IsGoodState C c h → next_block C c ≡ Some b → IsAtEntry C b (step (code C) (c, h)).0
led_in C V b (Running f st al o) h g e = led C V b f st al o h g.1 f.rest g.1.checks e
led_in C V b (Stopped s al o) h g e = absurd (cc e)
led_in C V b (Stuck al o) h g e = absurd (cc e)

-- a run begins at the first block of `main`
started : (C : Image) (V : IsVerified C) (b : Block) → first_block (slice_get C.functions 0) ≡ Some b → IsAtEntry C b (begins (slice_get C.functions 0))
started C V b e =
    let m = main_there C V in
    let z = first_is C V 0 m.0 b m.1 e in
    subst (λ y. IsAtEntry C b (begins y)) (sym m.1)
    (subst (λ y. IsAtEntry C b (elim y as (λ (x : Option Block). Core) [ None ↦ Stuck [] [] | Some x ↦ entered m.0 [] None x [] [] [] ])) (sym z.0)
    (refl, entry_facts C V [] 0 m.0 b [] None m.1 z.0 z.1 (typed_zeros C.head [] m.0.kinds _)))

-- one instruction behind k
steps_suc : (C : Image) (k : ℕ) (z : Core × Heap) → steps (code C) (suc k) z ≡ step (code C) (steps (code C) k z)
steps_suc C zero z = refl
steps_suc C (suc k) z = steps_suc C k (step (code C) z)

pub entered_so : (C : Image) → IsVerified C → EntryFactsHold C
entered_so C V zero b e = started C V b e
entered_so C V (suc k) b e =
    subst (λ (z : Core × Heap). IsAtEntry C b z.0) (sym (steps_suc C k (begins (slice_get C.functions 0), λ _ _. 0)))
    (led_in C V b (code_run (code C) k).0 (code_run (code C) k).1 (run_good C V k) e)
