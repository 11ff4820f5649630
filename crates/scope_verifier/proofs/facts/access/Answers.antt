use Rattle.std.proofs.Common.{Option, sym, subst}
use Rattle.code_form.specs.Form.{function_of, image_of}
use Rattle.code_form.specs.Known.{Knows}
use Rattle.scope_verifier_laws.specs.declared.fault.VerifyFault.{VerifyFault}
use Rattle.scope_verifier_laws.specs.Faults.{place_fault}
use Rattle.scope_verifier_laws.specs.Numbers.{scope_fault}
use Rattle.scope_verifier.specs.Answers.{Tells}
use Rattle.scope_verifier.proofs.Steps.{second}
use Rattle.scope_verifier.proofs.facts.access.Goals as goal

pub returns : goal.returns
returns c = λ R S k h.
    let f = function_of c.args.function.now in
    let fault : Knows → Option VerifyFault = λ z. place_fault (image_of c.args.image.now) f k z c.args.register in
    let there = subst (λ (z : Knows). Tells c.place.result (fault z)) (c.scope.ensures R S k h) (c.place.ensures R S k h) in
    subst (λ (o : Option VerifyFault). Tells c.place.result o) (sym (second (scope_fault f c.args.scope) (fault (k.scope c.args.scope)) c.in_ok-scope_number.ensures)) there
