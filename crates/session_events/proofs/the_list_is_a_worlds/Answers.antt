use Rattle.session_events.proofs.Merging.{one_world}
use Rattle.session_events.proofs.the_list_is_a_worlds.Goals as goal

pub returns : goal.returns
returns g c z programs evacuators fetchers images ends owner steps t sure follows runs own owners mine made =
    one_world g.S.RawStore.reliable g.S.RawStore.honest z programs evacuators fetchers images ends owner steps t sure follows runs own owners mine made
