use Rattle.std.proofs.Common.{◌≡◌, ℕ, List, length, drop, refl, sym, ap, ◌∙◌, subst}
use Rattle.code_form.specs.Code.{after}
use Rattle.code_form.specs.Form.{image_of}
use Rattle.code_form.specs.declared.allocation.Allocation.{Allocation}
use Rattle.code_operations.specs.Commands.{did_of}
use Rattle.code_operations.specs.declared.operations.Command.{Command}
use Rattle.code_operations.specs.declared.operations.Command.TheVariants as command
use Rattle.call_execution.specs.declared.call.Decision.TheVariants as decision
use Rattle.code_execution.specs.declared.execution.Status.{Status}
use Rattle.code_execution.specs.declared.execution.Status.TheVariants as status
use Rattle.code_execution.specs.Stacks.{Stack}
use Rattle.code_execution.specs.Statuses.{allocated, core_of, followed}
use Rattle.code_execution.proofs.Kept.{Stands, followed_keeps, stands_next}
use Rattle.code_execution.proofs.execution.Execution.allocate.Goals as goal

-- where an allocation is made, the state behind it is what the decision leads to
made : (s : Status) (c : Stack) (to : ℕ) (a : Allocation) (al : List Allocation) (o : List ℕ) → s ≡ status.Running c → allocated s to a al o ≡ followed s al o (decision.Does (command.Makes to a)) 0
made s c to a al o e = let P : Status → Type 0 = λ k. allocated k to a al o ≡ followed k al o (decision.Does (command.Makes to a)) 0 in subst P (sym e) refl

pub invariant_of-self-in-Makes-1 : goal.invariant_of-self-in-Makes-1
invariant_of-self-in-Makes-1 c =
    let e = c.self.inside in
    let image = image_of e.image.now in
    let calls = c.in-Running.calls in
    let o = e.output.items in
    let w = c.in-Does-Makes in
    followed_keeps (Stands e.fits image) image e.status calls e.allocations o (decision.Does (command.Makes w.to w.allocation)) 0 _ (stands_next e.fits image 0) c.in-Running.is c.self.invariant
    (w.ensures.value calls.waiting o ∙ ap (λ (k : Command). after (did_of k) (drop 1 calls.top.rest) calls.top calls.waiting e.allocations o) w.field-0-is)
    (ap (λ (al : List Allocation). core_of c.get.new.self al o) c.in_ok-push.ensures ∙ (c.get.ensures w.allocation e.allocations o (c.count.ensures ∙ ap (λ (al : List Allocation). length al) c.in_ok-push.ensures) ∙ made e.status calls w.to w.allocation e.allocations o c.in-Running.is))
