use Rattle.std.proofs.Common.{◌≡◌, length, ap, sym, ◌∙◌}
use Rattle.code_form.specs.Code.{most_scopes}
use Rattle.code_form.specs.Form.{image_of}
use Rattle.code_form.specs.Touches.{touch_of}
use Rattle.code_execution.proofs.Grounds.{known_top}
use Rattle.code_execution.proofs.Within.{next_within}
use Rattle.code_execution.proofs.execution.Execution.next.Goals as goal

pub decide-requires-clause-known : goal.decide-requires-clause-known
decide-requires-clause-known c =
    let e = c.self.inside in
    let calls = c.in-Running.calls in
    known_top (image_of e.image.now) e.status calls e.allocations e.output.items c.in-Running.is c.self.invariant.1

pub returns-in-Running-clause-within : goal.returns-in-Running-clause-within
returns-in-Running-clause-within c =
    let image = image_of c.self.inside.image.now in
    let calls = c.in-Running.calls in
    let o = c.self.inside.output.items in
    let st = calls.waiting in
    let n : length st ≡ c.count.result = sym c.count.ensures in
    rw (← c.self.view_is) (next_within image c.self.inside.status calls c.self.inside.allocations o (most_scopes image.functions) c.touch.result
    c.in-Running.is c.self.invariant.0.0 (c.touch.ensures calls.top st o n ∙ sym (ap touch_of (c.decide.ensures.value st o))))
