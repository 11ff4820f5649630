use Rattle.std.proofs.Common.{refl, subst, sym}
use Rattle.std.specs.List.{AllByRecursion}
use Rattle.code_form.specs.Form.{instruction_of}
use Rattle.image_bytes.specs.Parts.{ArgumentFits, RegistersFit}
use Rattle.image_bytes.proofs.Fitting.{fits_parts, parts_fit}
use Rattle.image_bytes.proofs.encodable.instruction_fits.Goals as goal

pub returns-then-not-optionals_fit : goal.returns-then-not-optionals_fit
returns-then-not-optionals_fit c = ((λ e. absurd (cc e)), (λ h. c.if-not-optionals_fit.ensures.1 (fits_parts (instruction_of c.args.instruction.now) h).0))

pub returns-then-not-arguments_fit : goal.returns-then-not-arguments_fit
returns-then-not-arguments_fit c = (
  (λ e. absurd (cc e)),
  (λ h. c.if-not-arguments_fit.ensures.1 (subst (AllByRecursion ArgumentFits) (sym c.parts_of-parts.ensures.arguments) (fits_parts (instruction_of c.args.instruction.now) h).1)),
)

pub returns : goal.returns
returns c =
    let i = instruction_of c.args.instruction.now in (
      (λ e. parts_fit i (c.if-not-optionals_fit.ensures.0 refl) (subst (AllByRecursion ArgumentFits) c.parts_of-parts.ensures.arguments (c.if-not-arguments_fit.ensures.0 refl))
          (subst RegistersFit c.parts_of-parts.ensures.registers (c.registers_fit.ensures.0 e))),
      (λ h. c.registers_fit.ensures.1 (subst RegistersFit (sym c.parts_of-parts.ensures.registers) (fits_parts i h).2)),
    )
