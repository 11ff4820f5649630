use Rattle.code_form.specs.Form.{function_of}
use Rattle.image_bytes.specs.Encodable.{FunctionFits}
use Rattle.image_bytes.proofs.Fitting.{unfit_at}
use Rattle.image_bytes.proofs.encodable.functions_fit.Goals as goal

pub returns-then-not-function_fits : goal.returns-then-not-function_fits
returns-then-not-function_fits c = unfit_at FunctionFits function_of c.args.functions.now c.loop-function.function-index c.function-item.result c.loop-function-test.true c.function-item.is c.if-not-function_fits.ensures.1
