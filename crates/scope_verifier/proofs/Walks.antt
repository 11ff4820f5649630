-- The first fault of instructions, one after the other.
use Rattle.std.proofs.Common.{◌≡◌, ℕ, suc, ◌+◌, ◌<◌, ◌≤◌, Some, None, List, ◌∷◌, get_or, drop, length, map, sym, ap, ◌∙◌, add-one, drop-cons}
use Rattle.std.specs.Prelude.{All}
use Rattle.std.proofs.Math.ListN.{drop_of_length-le}
use Rattle.std.proofs.lemmas.List.Elements.{All-weaker}
use Rattle.code_form.specs.declared.form.Fact.{Fact}
use Rattle.code_form.specs.declared.form.Instruction.{Instruction as RustInstruction}
use Rattle.code_form.specs.Form.{Function, Image, instruction_of}
use Rattle.code_form.specs.Known.{Known, after}
use Rattle.scope_verifier_laws.specs.declared.fault.VerifyFault.{VerifyFault}
use Rattle.scope_verifier_laws.specs.Faults.{code_fault, instruction_fault, naming_fault}
use Rattle.scope_verifier_laws.specs.First.{first_in}
use Rattle.scope_verifier_laws.proofs.Firsts.{none_in}
use Rattle.scope_verifier.specs.Shown.{FactHasPlace}
use Rattle.scope_verifier.proofs.Places.{fact_placed}
use Rattle.scope_verifier.proofs.Steps.{first, second}

-- where the entry facts of a block fit, there is a place for each
pub facts_placed : (f : Function) (facts : List Fact) → first_in (naming_fault f) facts ≡ None → All (FactHasPlace (length f.kinds) f.scopes) facts
facts_placed f facts e = All-weaker (λ x. naming_fault f x ≡ None) (FactHasPlace (length f.kinds) f.scopes) (fact_placed f) facts (none_in (naming_fault f) facts e)

module _ (C : Image) (f : Function) (k j : Known) (is : List RustInstruction) (i : ℕ) (same : code_fault C f k (map instruction_of is) ≡ code_fault C f j (map instruction_of (drop i is))) where
  module _ (x : RustInstruction) (there : i < length is) (item : x ≡ get_or is i x) where
    here : code_fault C f k (map instruction_of is) ≡ code_fault C f j (instruction_of x ∷ map instruction_of (drop (suc i) is))
    here = same ∙ ap (λ (l : List RustInstruction). code_fault C f j (map instruction_of l)) (drop-cons is i x there) ∙ ap (λ (y : RustInstruction). code_fault C f j (instruction_of y ∷ map instruction_of (drop (suc i) is))) (sym item)

    pub stops : (g : VerifyFault) → instruction_fault C f j (instruction_of x) ≡ Some g → code_fault C f k (map instruction_of is) ≡ Some g
    stops g e = here ∙ first (instruction_fault C f j (instruction_of x)) (code_fault C f (after (instruction_of x) j) (map instruction_of (drop (suc i) is))) g e

    pub goes : instruction_fault C f j (instruction_of x) ≡ None → code_fault C f k (map instruction_of is) ≡ code_fault C f (after (instruction_of x) j) (map instruction_of (drop (i + 1) is))
    goes e =
        here ∙ second (instruction_fault C f j (instruction_of x)) (code_fault C f (after (instruction_of x) j) (map instruction_of (drop (suc i) is))) e
        ∙ ap (λ (n : ℕ). code_fault C f (after (instruction_of x) j) (map instruction_of (drop n is))) (sym (add-one i))

  pub ends : length is ≤ i → code_fault C f k (map instruction_of is) ≡ None
  ends l = same ∙ ap (λ (l : List RustInstruction). code_fault C f j (map instruction_of l)) (drop_of_length-le is l)
