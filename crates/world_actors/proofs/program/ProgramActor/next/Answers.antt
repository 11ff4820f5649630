use Rattle.std.proofs.Common.{◌≡◌, subst}
use Rattle.std.specs.Prelude.{reverse}
use Rattle.code_form.specs.Code.{allocations_of, sizes}
use Rattle.code_form.specs.Placed.{next_object}
use Rattle.world_actors.specs.Seats.{Seat}
use Rattle.world_actors.proofs.Placing.{next_is}
use Rattle.world_actors.proofs.program.ProgramActor.next.Goals as goal

pub returns-clause-value : goal.returns-clause-value
returns-clause-value c =
    let i = c.self.inside in
    subst (λ (x : Seat). i.next ≡ next_object x.setting.size x.setting.base (sizes (allocations_of x.core))) c.self.view_is
    (next_is i.size i.base (sizes (allocations_of i.execution.core)) (reverse i.firsts.items) i.next c.self.invariant.placed)
