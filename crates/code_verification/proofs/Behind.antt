-- An instruction that goes on behind itself leaves a good state good.
use Rattle.std.proofs.Common.{◌≡◌, ℕ, suc, cond, Some, None, List, ◌∷◌, ◌++◌, length, sym, ◌∙◌, subst}
use Rattle.std.specs.Prelude.{map, slice_get, slice_set}
use Rattle.std.proofs.lemmas.List.{length-map, length-set}
use Rattle.code_form.specs.declared.allocation.Allocation.{Allocation}
use Rattle.code_form.specs.declared.form.Kind.{Kind}
use Rattle.code_form.specs.declared.form.Operation.{Operation}
use Rattle.code_form.specs.Form.{Instruction, Simple, Image}
use Rattle.code_form.specs.Effects.{Effect, Heap}
use Rattle.code_form.specs.Code.{Did, Goes, Tells, Sets, Makes, Prints, Stops, Fails, Core, Frame, Running, act, after, on, op_does, set_to, written}
use Rattle.code_form.specs.Known.{Known, after_operation}
use Rattle.code_verification.specs.Verified.{IsVerified}
use Rattle.code_verification.proofs.States.{AllWait, Checks, Holds, IsGood, IsGoodState, IsKind, IsTypedHeap, LeadsOn}
use Rattle.code_verification.proofs.Allocations.{typed_grown}
use Rattle.code_verification.proofs.Heaps.{heap_allocated}
use Rattle.code_verification.proofs.Typed.{typed_written}
use Rattle.code_verification.proofs.Operations.{IsTypedDid, op_typed}
use Rattle.code_verification.proofs.Checked.{HoldsDid, op_holds}
use Rattle.code_verification.proofs.Calls.{waits_grown}

module _ (C : Image) (V : IsVerified C) (f : Frame) (st : List Frame) (al : List Allocation) (o : List ℕ) (h : Heap)
    (G : IsGood C al f None) (T : IsTypedHeap C.head al h) (W : AllWait C al f.function.result f.destination st) where
  abbrev So : Effect Core → Type 0
  So x = LeadsOn C (Running f st al o) h x

  -- behind an instruction that changes no register and no scope
  pub behind : (rest : List Instruction) (k : Known) (out : List ℕ) (g : Heap) → IsTypedHeap C.head al g → Checks C f.function k rest → Holds C.head al f.function.kinds f.registers f.scopes k → IsGoodState C (Running (on f rest) st al out) g
  behind rest k out g t c hs = (t, record { number = G.number; is = G.is; known = k; checks = c; holds = hs; typed = G.typed; registers = G.registers; scopes = G.scopes }, W)

  -- behind one that writes a register
  pub wrote_to : (rest : List Instruction) (k : Known) (d v : ℕ) (j : Kind) → slice_get f.function.kinds d ≡ Some j → IsKind C.head al j v → Checks C f.function k rest
      → Holds C.head al f.function.kinds (slice_set f.registers d v) (map (written d) f.scopes) k → IsGoodState C (Running (set_to f rest d v) st al o) h
  wrote_to rest k d v j is ok c hs = (
    T,
    record {
      number = G.number;
      is = G.is;
      known = k;
      checks = c;
      holds = hs;
      typed = typed_written C.head al f.function.kinds f.registers d v j is ok G.registers G.typed;
      registers = length-set f.registers d v ∙ G.registers;
      scopes = length-map f.scopes (written d) ∙ G.scopes;
    },
    W,
  )

  by_did : (rest : List Instruction) (k : Known) (d : Did) → IsTypedDid C.head al f.function.kinds d → HoldsDid C.head al f.function.kinds f.registers f.scopes k d → Checks C f.function k rest → So (after d rest f st al o)
  by_did rest k Goes ok hs c = behind rest k o h T c hs
  by_did rest k (Tells w) ok hs c = behind rest k o h T c hs
  by_did rest k (Sets d v) ok hs c = wrote_to rest k d v ok.0 ok.1 ok.2 c hs
  by_did rest k (Makes d a) ok hs c = (
    heap_allocated C.head al h a ok.1 T ok.3 ok.4,
    record {
      number = G.number;
      is = G.is;
      known = k;
      checks = c;
      holds = hs;
      typed = typed_written C.head (a ∷ al) f.function.kinds f.registers d (suc (length al)) ok.0 ok.2 ok.5 G.registers (typed_grown C.head a al f.function.kinds f.registers G.typed);
      registers = length-set f.registers d (suc (length al)) ∙ G.registers;
      scopes = length-map f.scopes (written d) ∙ G.scopes;
    },
    waits_grown C a al f.function.result f.destination st W,
  )
  by_did rest k (Prints b) ok hs c = behind rest k (o ++ b) h T c hs
  by_did rest k (Stops s) ok hs c = tt
  by_did rest k Fails ok hs c = absurd ok

  pub simple : (op : Operation) (rest : List Instruction) → Checks C f.function G.known (Simple op ∷ rest) → So (act C (Simple op ∷ rest) f st al o)
  simple op rest c =
      let fits = c.0.0.1 in
      subst (λ b. So (after (cond b (op_does C.head al f.registers op) Fails) rest f st al o)) (sym fits)
      (by_did rest (after_operation op G.known) (op_does C.head al f.registers op) (op_typed C.head al f.function.kinds f.registers G.typed op fits)
      (op_holds C.head al f.function.kinds f.registers f.scopes G.known G.holds op fits G.registers) (c.0.1, c.1.1))
