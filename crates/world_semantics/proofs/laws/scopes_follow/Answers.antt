use Rattle.world_semantics.proofs.Fitting.{reached_aims, reached_framed, reached_scopes, reached_stopped}
use Rattle.world_semantics.proofs.Following.{Laws}
use Rattle.world_semantics.proofs.laws.scopes_follow.Goals as goal

pub returns : goal.returns
returns c =
    let laws : Laws = record {
      tidy = c.effect_laws.ensures.tidy;
      tracked = c.effect_laws.ensures.tracked;
      waits = c.effect_laws.ensures.waits;
      addresses = c.heap_laws.ensures.addresses;
      stored = c.heap_laws.ensures.stored;
      allocated = c.heap_laws.ensures.allocated;
      next = c.run_laws.ensures.next;
    } in
    record {
      scopes = λ z images events v some f. reached_scopes laws ⊥ z images events v some f;
      under_way = λ z images events v some f. reached_aims laws ⊥ z images events v some f;
      stopped = λ z images events v k x some f. reached_stopped laws ⊥ z images events v some f k x;
      framed = λ z images events v k s x some f. reached_framed laws ⊥ z images events v some f k s x;
    }
