use Rattle.std.proofs.Common.{ℕ, rules, false, reverse, set, sym, subst}
use Rattle.std.specs.Prelude.{None, Some}
use Rattle.object_lock.specs.Seats.{Sizes, note}
use Rattle.object_moves.specs.Ways.{TakeLogged}
use Rattle.session.specs.Keeping.{a_hold}
use Rattle.session.specs.Performing.{HoldsLogged, MissesLogged}
use Rattle.session.specs.State.{Logged}
use Rattle.session.proofs.program.SeatedProgram.open_hold.Goals as goal

pub returns-in-Some-clause-logged : goal.returns-in-Some-clause-logged
returns-in-Some-clause-logged g c =
    let m = c.self.inside in
    let s = m.pieces.owner in
    let t = c.take.new.owner in
    let o : ℕ = c.args.object in
    let f = c.in-Some.frame in
    let w = c.in-Some.ensures.way in
    let sizes = sym c.self.invariant.0.1 in
    let new : Logged = record { log = t.log; state = record { image = m.execution.image; core = m.execution.core; holds = set m.pieces.holds.items c.args.scope (Some (a_hold o f false)); firsts = reverse m.firsts.items; next = m.next; table = t.table; view = t.view; refusals = t.refusals; completed = m.completed; want = m.want } } in
    subst (λ (x : Logged). HoldsLogged c.args.scope o x new) c.self.view_is (
      record { frame = f; takes = c.in-Some.ensures.told.0; came = record { way = w.way; leads = w.leads; did = w.did; logged = tt }; same = search rules },
      subst (λ (z : Sizes). TakeLogged z s.view.number o (note s.view o).count (Some f) w.way s.log t.log) sizes w.logged,
    )

pub returns-in-None-clause-logged : goal.returns-in-None-clause-logged
returns-in-None-clause-logged g c =
    let m = c.self.inside in
    let s = m.pieces.owner in
    let t = c.take.new.owner in
    let o : ℕ = c.args.object in
    let w = c.in-None.ensures.way in
    let sizes = sym c.self.invariant.0.1 in
    let new : Logged = record { log = t.log; state = record { image = m.execution.image; core = m.execution.core; holds = m.pieces.holds.items; firsts = reverse m.firsts.items; next = m.next; table = t.table; view = t.view; refusals = t.refusals; completed = m.completed; want = m.want } } in
    subst (λ (x : Logged). MissesLogged g.S.RawStore.reliable o x new) c.self.view_is (
      record { gives = c.in-None.ensures.told.0; came = record { way = w.way; leads = w.leads; did = w.did; logged = tt }; refused = c.in-None.ensures.told.1; same = search rules },
      subst (λ (z : Sizes). TakeLogged z s.view.number o (note s.view o).count None w.way s.log t.log) sizes w.logged,
    )
