use Rattle.std.proofs.Common.{◌≡◌, length, sym}
use Rattle.code_form.specs.Form.{image_of}
use Rattle.code_execution.proofs.Grounds.{known_top}
use Rattle.code_execution.proofs.Ahead.{told_ahead}
use Rattle.code_execution.proofs.execution.Execution.stop_ahead.Goals as goal

pub decide-requires-clause-known : goal.decide-requires-clause-known
decide-requires-clause-known c =
    let e = c.self.inside in
    let calls = c.in-Running.calls in
    known_top (image_of e.image.now) e.status calls e.allocations e.output.items c.in-Running.is c.self.invariant.1

pub returns-in-Running : goal.returns-in-Running
returns-in-Running c =
    let calls = c.in-Running.calls in
    let al = c.self.inside.allocations in
    let o = c.self.inside.output.items in
    let st = calls.waiting in
    let n : length st ≡ c.count.result = sym c.count.ensures in
    rw (← c.self.view_is) (told_ahead (image_of c.self.inside.image.now) c.self.inside.status calls al o c.decide.result c.stop.result c.in-Running.is (c.decide.ensures.value st o) c.decide.ensures.growth
    (c.stop.ensures calls.top st al o n))
