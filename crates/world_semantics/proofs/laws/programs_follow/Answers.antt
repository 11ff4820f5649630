use Rattle.world_semantics.proofs.Fitting.{reached_holds}
use Rattle.world_semantics.proofs.Following.{Laws}
use Rattle.world_semantics.proofs.Reached.{at}
use Rattle.world_semantics.proofs.laws.programs_follow.Goals as goal

pub returns : goal.returns
returns c =
    let laws : Laws = record {
      tidy = c.effect_laws.ensures.tidy;
      tracked = c.effect_laws.ensures.tracked;
      waits = c.effect_laws.ensures.waits;
      addresses = c.heap_laws.ensures.addresses;
      stored = c.heap_laws.ensures.stored;
      allocated = c.heap_laws.ensures.allocated;
      next = c.run_laws.ensures.next;
    } in
    record {
      at = at laws;
      holds = λ z images events v some f. reached_holds laws (Unit {0}) z images events v some f;
      holds_unsound = λ z images events v some f. reached_holds laws ⊥ z images events v some f;
    }
