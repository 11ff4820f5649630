use Rattle.std.proofs.Common.{subst, sym}
use Rattle.code_form.specs.declared.form.Instruction.{Instruction}
use Rattle.code_form.specs.Form.{function_of, image_of, instruction_of}
use Rattle.scope_verifier_laws.specs.Faults.{fitting_fault}
use Rattle.scope_verifier.specs.Answers.{Tells}
use Rattle.scope_verifier.proofs.facts.fitting.Goals as goal

pub returns-in-Load : goal.returns-in-Load
returns-in-Load c = λ R S k h.
    subst (λ (i : Instruction). Tells c.access.result (fitting_fault (image_of c.args.image.now) (function_of c.args.function.now) k (instruction_of i))) (sym c.in-Load.is) (c.access.ensures R S k h)

pub returns-in-Store : goal.returns-in-Store
returns-in-Store c = λ R S k h.
    subst (λ (i : Instruction). Tells c.access-in-Store.result (fitting_fault (image_of c.args.image.now) (function_of c.args.function.now) k (instruction_of i))) (sym c.in-Store.is) (c.access-in-Store.ensures R S k h)
