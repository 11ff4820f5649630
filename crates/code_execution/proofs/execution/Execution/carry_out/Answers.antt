use Rattle.std.proofs.Common.{ap, subst, sym}
use Rattle.code_form.specs.Code.{Core}
use Rattle.code_form.specs.Form.{image_of}
use Rattle.call_execution.specs.Planning.{Plans}
use Rattle.code_execution.specs.Statuses.{Progress, core_of}
use Rattle.code_execution.proofs.Kept.{Stands, stands_next}
use Rattle.code_execution.proofs.Planned.{follows}
use Rattle.code_execution.proofs.execution.Execution.carry_out.Goals as goal

pub invariant_of-self-2 : goal.invariant_of-self-2
invariant_of-self-2 c =
    let e = c.self.inside in
    let image = image_of e.image.now in
    let plans = subst (λ (s : Progress). Plans c.args.plan s.image s.core) (sym c.self.view_is) c.requires in
    let led = follows image e.status c.in-Running.calls c.carry_out.new.self e.allocations e.output.items c.args.plan c.args.loaded c.in-Running.is plans c.carry_out.ensures in
    subst (Stands e.fits image) (sym led) (stands_next e.fits image c.args.loaded (core_of e.status e.allocations e.output.items) c.self.invariant)

pub returns : goal.returns
returns c =
    let e = c.self.inside in
    let image = image_of e.image.now in
    let plans = subst (λ (s : Progress). Plans c.args.plan s.image s.core) (sym c.self.view_is) c.requires in
    let led = follows image e.status c.in-Running.calls c.carry_out.new.self e.allocations e.output.items c.args.plan c.args.loaded c.in-Running.is plans c.carry_out.ensures in
    rw (← c.self.view_is) (ap (λ (k : Core). record { image = image; core = k }) led)
