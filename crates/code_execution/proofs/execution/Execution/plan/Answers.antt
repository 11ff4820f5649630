use Rattle.std.proofs.Common.{ap, ◌∙◌}
use Rattle.code_form.specs.Form.{image_of}
use Rattle.code_form.specs.Growth.{rest_of}
use Rattle.code_execution.specs.declared.execution.Status.{Status}
use Rattle.call_execution.specs.Plain.{is_by_scope}
use Rattle.code_execution.specs.Statuses.{core_of}
use Rattle.code_execution.proofs.Apart.{none_touched}
use Rattle.code_execution.proofs.Grounds.{known_top}
use Rattle.code_execution.proofs.Planned.{plan_told}
use Rattle.code_execution.proofs.execution.Execution.plan.Goals as goal

pub decide_in_scope-requires-clause-known : goal.decide_in_scope-requires-clause-known
decide_in_scope-requires-clause-known c =
    let e = c.self.inside in
    let calls = c.in-Running.calls in
    known_top (image_of e.image.now) e.status calls e.allocations e.output.items c.in-Running.is c.self.invariant.1

pub returns-in_ok-decision-in-Running : goal.returns-in_ok-decision-in-Running
returns-in_ok-decision-in-Running c =
    let e = c.self.inside in
    let calls = c.in-Running.calls in
    let al = e.allocations in
    let o = e.output.items in
    rw (← c.self.view_is) (plan_told (image_of e.image.now) e.status calls al o c.in_ok-decision-in-Running.decision c.into_plan.result c.in-Running.is c.self.invariant.0.0 c.in_ok-decision-in-Running.ensures (c.into_plan.ensures calls.top calls.waiting o))

pub returns-in_err-decision-in-Running : goal.returns-in_err-decision-in-Running
returns-in_err-decision-in-Running c =
    let e = c.self.inside in
    let al = e.allocations in
    let o = e.output.items in
    let other = ap (λ (s : Status). is_by_scope (rest_of (core_of s al o))) c.in-Running.is ∙ c.in_err-decision-in-Running.ensures in
    rw (← c.self.view_is) (rw c.from_residual.ensures (none_touched (image_of e.image.now) (core_of e.status al o) other))
