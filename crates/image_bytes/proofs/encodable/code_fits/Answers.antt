use Rattle.code_form.specs.Form.{instruction_of}
use Rattle.image_bytes.specs.Encodable.{InstructionFits}
use Rattle.image_bytes.proofs.Fitting.{unfit_at}
use Rattle.image_bytes.proofs.encodable.code_fits.Goals as goal

pub returns-then-not-instruction_fits : goal.returns-then-not-instruction_fits
returns-then-not-instruction_fits c = unfit_at InstructionFits instruction_of c.args.code.now c.loop-instruction.instruction-index c.instruction-item.result c.loop-instruction-test.true c.instruction-item.is c.if-not-instruction_fits.ensures.1
