use Rattle.world_semantics.proofs.Fitting.{reached_asked, reached_fit, reached_open, reached_tries}
use Rattle.world_semantics.proofs.Following.{Laws}
use Rattle.world_semantics.proofs.Onward.{goes_on}
use Rattle.world_semantics.proofs.laws.enabled_calls.Goals as goal

pub returns : goal.returns
returns c =
    let laws : Laws = record {
      tidy = c.effect_laws.ensures.tidy;
      tracked = c.effect_laws.ensures.tracked;
      waits = c.effect_laws.ensures.waits;
      addresses = c.heap_laws.ensures.addresses;
      stored = c.heap_laws.ensures.stored;
      allocated = c.heap_laws.ensures.allocated;
      next = c.run_laws.ensures.next;
    } in
    record {
      enabled = λ z images events v e some f. reached_open laws (Unit {0}) z images events v some f e;
      enabled_unsound = λ z images events v e some f. reached_open laws ⊥ z images events v some f e;
      goes_on = λ z images events v k a some f. let both = reached_fit laws ⊥ z images events v some f in goes_on laws ⊥ z images v k a some both.0 both.1;
      asked = λ z images events v u e some f is. reached_asked laws (Unit {0}) z images events v some f e u is;
      asked_unsound = λ z images events v u e some f is. reached_asked laws ⊥ z images events v some f e u is;
      tries = λ z images events v who c a some f there. reached_tries laws (Unit {0}) z images events v some f who c a there;
      tries_unsound = λ z images events v who c a some f there. reached_tries laws ⊥ z images events v some f who c a there;
    }
