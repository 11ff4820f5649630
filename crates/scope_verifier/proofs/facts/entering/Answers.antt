use Rattle.std.proofs.Common.{◌≡◌, Some, Option, List, map, subst, sym}
use Rattle.std.specs.Prelude.{slice_get}
use Rattle.code_form.specs.declared.form.Block.{Block as RustBlock}
use Rattle.code_form.specs.Form.{Block, block_of}
use Rattle.scope_verifier_laws.specs.Faults.{entering_fault}
use Rattle.scope_verifier.specs.Answers.{Tells}
use Rattle.scope_verifier.proofs.Steps.{named_block}
use Rattle.scope_verifier.proofs.facts.entering.Goals as goal

pub returns-in-Some : goal.returns-in-Some
returns-in-Some c = λ R S k h.
    let a = c.in-Some.ensures.lookup in
    let x = c.in-Some.block.now in
    let is = subst (λ (l : List RustBlock). slice_get (map block_of l) c.args.block ≡ Some (block_of x)) c.deref.ensures.value (named_block c.deref.result.now c.args.block x a.0 a.1) in
    subst (λ (o : Option Block). Tells c.entering_block.result (entering_fault k o)) (sym is) (c.entering_block.ensures R S k h)
