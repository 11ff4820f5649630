use Rattle.std.proofs.Common.{◌≤◌, ◌+◌, ap, sym, subst, ◌∙◌}
use Rattle.code_form.specs.Code.{allocations_of, sizes}
use Rattle.code_form.specs.Placed.{next_object, pieces}
use Rattle.world_actors.specs.Seats.{Seat, next_touch}
use Rattle.world_actors.proofs.Placing.{extended_seat}
use Rattle.world_actors.proofs.program.ProgramActor.extend.Goals as goal

pub invariant_of-self-2 : goal.invariant_of-self-2
invariant_of-self-2 c =
    let i = c.self.inside in
    let room = subst (λ (x : Seat). next_object x.setting.size x.setting.base (sizes (allocations_of x.core)) + pieces x.setting.size c.args.cells ≤ x.setting.limit) (sym c.self.view_is) c.requires.room in
    extended_seat c.effect_laws.ensures.tidy i.size i.base i.limit i.execution c.allocate.new.self i.firsts.items c.push.new.self.items i.next c.args.cells c.pieces.result i.mode i.words.items c.self.invariant
    (ap next_touch c.self.view_is ∙ c.requires.next) room c.pieces.ensures.value c.in_ok-push.ensures.items c.in_default.ensures
