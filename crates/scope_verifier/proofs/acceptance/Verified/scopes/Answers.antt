use Rattle.std.proofs.Common.{◌≡◌, ◌∙◌, List, ap, arith, map}
use Rattle.code_form.specs.declared.form.Function.{Function as RustFunction}
use Rattle.code_form.specs.Code.{most_scopes}
use Rattle.code_form.specs.Form.{function_of, image_of}
use Rattle.scope_verifier.proofs.acceptance.Verified.scopes.Goals as goal

pub returns-clause-few : goal.returns-clause-few
returns-clause-few c =
    let C = image_of c.args.self.now.image in
    let few = (c.accepted_is_verified.ensures.verified C c.args.self.now.no_fault).few in
    let same : c.most.result ≡ most_scopes C.functions = c.most.ensures ∙ ap (λ (l : List RustFunction). most_scopes (map function_of l)) c.deref.ensures.value in
    omega (arith, same, few)
