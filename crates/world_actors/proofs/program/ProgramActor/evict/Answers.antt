use Rattle.std.proofs.Common.{length, ap, sym, ◌∙◌}
use Rattle.std.proofs.lemmas.List.{with_items_is}
use Rattle.world_actors.proofs.program.ProgramActor.evict.Goals as goal

pub returns-clause-leads : goal.returns-clause-leads
returns-clause-leads g c = rw (← c.self.view_is) (λ z s e.
    let i = c.self.inside in
    let back = with_items_is i.words c.evict.new.words (c.evict.auto.words ∙ (ap length c.deref_mut.ensures.value ∙ sym i.words.ok.0)) in
    let led = rw c.deref_mut.ensures.value at (c.evict.ensures z s) in
    rw back (led (c.self.invariant.wide ∙ e)))
