use Rattle.std.proofs.Common.{◌≡◌, None}
use Rattle.code_form.specs.Form.{Image, image_of}
use Rattle.scope_verifier_laws.specs.Faults.{fault_of, kinds_and_facts}
use Rattle.scope_verifier_laws.specs.Numbers.{numbers}
use Rattle.scope_verifier_laws.proofs.Firsts.{both}
use Rattle.scope_verifier.proofs.acceptance.verify.Goals as goal

no_fault : (C : Image) → numbers C ≡ None → kinds_and_facts C ≡ None → fault_of C ≡ None
no_fault C n k = both (numbers C) (kinds_and_facts C) n k

pub returns-clause-verified : goal.returns-clause-verified
returns-clause-verified c = let C = image_of c.args.image in c.accepted_is_verified.ensures.verified C (no_fault C c.in_ok-numbers.ensures c.in_ok-kinds_and_facts.ensures)

pub returns-clause-covered : goal.returns-clause-covered
returns-clause-covered c = let C = image_of c.args.image in c.accepted_is_verified.ensures.covered C (no_fault C c.in_ok-numbers.ensures c.in_ok-kinds_and_facts.ensures)
