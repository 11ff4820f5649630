use Rattle.code_form.specs.Form.{image_of}
use Rattle.code_execution.proofs.Kept.{Stands, followed_keeps, stands_next}
use Rattle.code_execution.proofs.Grounds.{known_top}
use Rattle.code_execution.proofs.execution.Execution.proceed.Goals as goal

pub decide-decision-requires-clause-known : goal.decide-decision-requires-clause-known
decide-decision-requires-clause-known c =
    let e = c.self.inside in
    let calls = c.in-Running.calls in
    known_top (image_of e.image.now) e.status calls e.allocations e.output.items c.in-Running.is c.self.invariant.1

pub invariant_of-self : goal.invariant_of-self
invariant_of-self c =
    let e = c.self.inside in
    let calls = c.in-Running.calls in
    let o = e.output.items in
    followed_keeps (Stands e.fits (image_of e.image.now)) (image_of e.image.now) e.status calls e.allocations o c.decide-decision.result c.args.loaded _ (stands_next e.fits (image_of e.image.now) c.args.loaded) c.in-Running.is c.self.invariant
    (c.decide-decision.ensures.value calls.waiting o) (c.in_ok-follow.ensures e.allocations)
