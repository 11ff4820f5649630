use Rattle.std.proofs.Common.{length, ap, sym, ◌∙◌}
use Rattle.std.proofs.lemmas.List.{with_items_is}
use Rattle.world_actors.specs.Seats.{Seat}
use Rattle.world_actors.proofs.program.ProgramActor.get.Goals as goal

pub returns-clause-answered : goal.returns-clause-answered
returns-clause-answered g c = λ n far e l all put.
    let i = c.self.inside in
    let back = with_items_is i.words c.get.new.words (c.get.auto.words ∙ (ap length c.deref_mut.ensures.value ∙ sym i.words.ok.0)) in
    rw back (c.get.ensures.answered n far e (ap length c.deref_mut.ensures.value ∙ (c.self.invariant.wide ∙ (ap (λ (x : Seat). x.setting.size) c.self.view_is ∙ l))) all put)
