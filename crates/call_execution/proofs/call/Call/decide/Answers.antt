use Rattle.code_form.specs.Form.{function_of, image_of}
use Rattle.call_execution.proofs.Fits.{head_fit}
use Rattle.call_execution.proofs.call.Call.decide.Goals as goal

pub decide_by-requires-clause-known : goal.decide_by-requires-clause-known
decide_by-requires-clause-known c = λ e.
    let i = c.in-Some.ensures.item in
    head_fit (image_of c.args.self.now.image.now) (function_of c.args.self.now.function.now) c.args.self.now.rest.now c.in-Some.instruction.now i.3.0 i.1 (c.requires.known e)
