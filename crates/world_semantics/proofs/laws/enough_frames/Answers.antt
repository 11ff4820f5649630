use Rattle.world_semantics.proofs.Fitting.{reached_fit}
use Rattle.world_semantics.proofs.Following.{Laws}
use Rattle.world_semantics.proofs.Idle.{reached_rests}
use Rattle.world_semantics.proofs.Ranged.{reached_ranged}
use Rattle.world_semantics.proofs.Tickets.{some_unheld}
use Rattle.world_semantics.proofs.laws.enough_frames.Goals as goal

pub returns : goal.returns
returns c =
    let laws : Laws = record {
      tidy = c.effect_laws.ensures.tidy;
      tracked = c.effect_laws.ensures.tracked;
      waits = c.effect_laws.ensures.waits;
      addresses = c.heap_laws.ensures.addresses;
      stored = c.heap_laws.ensures.stored;
      allocated = c.heap_laws.ensures.allocated;
      next = c.run_laws.ensures.next;
    } in
    λ z images events v k o some f fits l m.
    let both = reached_fit laws ⊥ z images events v some f in
    some_unheld ⊥ z images v both.0 both.1 (reached_rests ⊥ z images events v f) (reached_ranged laws ⊥ z images some events v f) k o l m fits
