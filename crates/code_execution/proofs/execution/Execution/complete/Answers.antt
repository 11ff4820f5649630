use Rattle.std.proofs.Common.{◌≡◌, ap, subst, sym, true}
use Rattle.code_form.specs.Code.{Core, effect}
use Rattle.code_form.specs.Form.{image_of}
use Rattle.code_form.specs.Touches.{touch_of}
use Rattle.call_execution.specs.Decisions.{is_simple}
use Rattle.code_execution.specs.Statuses.{Progress, core_of}
use Rattle.code_execution.proofs.Completed.{completes}
use Rattle.code_execution.proofs.Kept.{Stands, stands_next}
use Rattle.code_execution.proofs.execution.Execution.complete.Goals as goal

pub invariant_of-self-2 : goal.invariant_of-self-2
invariant_of-self-2 c =
    let e = c.self.inside in
    let image = image_of e.image.now in
    let simple = subst (λ (s : Progress). is_simple (touch_of (effect s.image s.core)) ≡ true) (sym c.self.view_is) c.requires in
    let led = completes image e.status c.in-Running.calls c.complete.new.self e.allocations e.output.items c.args.loaded c.in-Running.is simple c.complete.ensures in
    subst (Stands e.fits image) (sym led) (stands_next e.fits image c.args.loaded (core_of e.status e.allocations e.output.items) c.self.invariant)

pub returns : goal.returns
returns c =
    let e = c.self.inside in
    let image = image_of e.image.now in
    let simple = subst (λ (s : Progress). is_simple (touch_of (effect s.image s.core)) ≡ true) (sym c.self.view_is) c.requires in
    let led = completes image e.status c.in-Running.calls c.complete.new.self e.allocations e.output.items c.args.loaded c.in-Running.is simple c.complete.ensures in
    rw (← c.self.view_is) (ap (λ (k : Core). record { image = image; core = k }) led)
