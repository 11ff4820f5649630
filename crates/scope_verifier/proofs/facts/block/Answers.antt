use Rattle.std.proofs.Common.{◌≡◌, ◌∙◌, None, List, Option, ap, length, map, subst, sym}
use Rattle.std.specs.Prelude.{All}
use Rattle.code_form.specs.declared.form.Fact.{Fact}
use Rattle.code_form.specs.declared.form.Instruction.{Instruction as RustInstruction}
use Rattle.code_form.specs.Form.{block_of, function_of, image_of, instruction_of}
use Rattle.code_form.specs.Known.{facts_known}
use Rattle.scope_verifier_laws.specs.declared.fault.VerifyFault.{VerifyFault}
use Rattle.scope_verifier_laws.specs.Faults.{code_fault, naming_fault}
use Rattle.scope_verifier_laws.specs.First.{first_in}
use Rattle.scope_verifier.specs.Shown.{FactHasPlace, Goes, Shows}
use Rattle.scope_verifier.proofs.Steps.{second}
use Rattle.scope_verifier.proofs.Walks.{facts_placed}
use Rattle.scope_verifier.proofs.facts.block.Goals as goal

pub returns : goal.returns
returns c = λ r.
    let C = image_of c.args.image.now in
    let f = function_of c.args.function.now in
    let b = block_of c.args.block.now in
    let none : first_in (naming_fault f) b.facts ≡ None = ap (first_in (naming_fault f)) (sym c.deref.ensures.value) ∙ c.in_ok-namings.ensures in
    let all = subst (All (FactHasPlace (length f.kinds) f.scopes)) (sym c.deref-2.ensures.value) (facts_placed f b.facts none) in
    let shows = subst (λ (l : List Fact). Shows (length f.kinds) f.scopes c.enter.new.self (facts_known l)) c.deref-2.ensures.value (c.in_ok-enter.ensures (length f.kinds) f.scopes r all) in
    let here = subst (λ (l : List RustInstruction). Goes c.code.new.known f c.code.result (code_fault C f (facts_known b.facts) (map instruction_of l))) c.instructions.ensures (c.code.ensures (facts_known b.facts) shows) in
    subst (λ (o : Option VerifyFault). Goes c.code.new.known f c.code.result o) (sym (second (first_in (naming_fault f) b.facts) (code_fault C f (facts_known b.facts) b.code) none)) here
