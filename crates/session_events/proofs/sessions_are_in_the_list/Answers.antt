use Rattle.session_events.proofs.Placing.{placed}
use Rattle.session_events.proofs.sessions_are_in_the_list.Goals as goal

pub returns : goal.returns
returns g c owner j steps t C v s r sure narrow low number is owned follows runs own owners done stored text log =
    placed g.S.RawStore.reliable g.S.RawStore.honest owner j steps t C v s r sure narrow low number is owned follows runs own owners done stored text log
