use Rattle.std.proofs.Common.{rules, ◌≡◌, false}
use Rattle.live_run.proofs.Rounds.{over_now, same_still, shows_more}
use Rattle.live_run.proofs.turns.go_on.Goals as goal

pub returns-then-not-goes-clause-shown : goal.returns-then-not-goes-clause-shown
returns-then-not-goes-clause-shown g c =
    let ends : c.in_ok-goes.goes ≡ false = search rules in
    let done = c.in_ok-goes.ensures in (
      over_now c.in_ok-goes.goes c.round.new.program ends done.over,
      shows_more g.O.Stream.contents g.O.Stream.failures g.S.RawStore.honest c.loop.program.printed c.round.new.program.printed c.args.out.now c.loop.out c.round.new.out c.loop.invariant.3 done.grows done.shown.0 done.shown.1,
    )

pub loop-preserved : goal.loop-preserved
loop-preserved g c =
    let done = c.in_ok-goes.ensures in (
      tt,
      tt,
      same_still c.args.program.now c.loop.program c.round.new.program c.loop.invariant.2 done.same,
      shows_more g.O.Stream.contents g.O.Stream.failures g.S.RawStore.honest c.loop.program.printed c.round.new.program.printed c.args.out.now c.loop.out c.round.new.out c.loop.invariant.3 done.grows done.shown.0 done.shown.1,
    )
