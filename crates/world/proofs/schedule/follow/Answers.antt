use Rattle.std.proofs.Common.{◌≡◌, inr, ◌<◌, length, arith}
use Rattle.std.proofs.Common.{subst, sym}
use Rattle.std.proofs.lemmas.Bool.{eqb-true}
use Rattle.schedule_lines.specs.Lines.{Line}
use Rattle.world.specs.Parts.{Parts}
use Rattle.world.specs.Reports.{WantsMemory}
use Rattle.world.specs.Stepped.{IsWorld}
use Rattle.world.proofs.Starving.{not_both}
use Rattle.world.proofs.Replaying.{come_more, has_led, shorter, told_by}
use Rattle.world.proofs.schedule.follow.Goals as goal

pub loop-rest-preserved : goal.loop-rest-preserved
loop-rest-preserved g c =
    let x : Line = record { actor = c.in-Some.actor; choice = c.in-Some.choice } in
    let line = c.in-Some.ensures in (
      omega (arith, c.loop-rest.invariant.0, shorter x c.in-Some.others.now c.loop-rest.rest.now line),
      λ z images w is.
          let at = c.loop-rest.invariant.1 z images w is in
          let took = c.in-Took.ensures z images at.0 at.2 in (
            took.3.0,
            come_more g.S.RawStore.honest g.S.RawStore.reliable g.S.RawStore.failures g.S.RawStore.read_gives z images w at.0 took.3.0 _ _ _ c.args.schedule.now c.loop-rest.rest.now c.in-Some.others.now c.loop-rest.line x took.0
                at.1 line took.3.1 (λ h. took.1 h)
                (told_by g.S.RawStore.content g.S.RawStore.honest g.S.RawStore.reliable g.S.RawStore.failures g.S.RawStore.read_gives z images at.0 took.3.0 _ _ c.in-Some.actor c.in-Some.choice took.0 at.2 took.3.2 took.3.1 took.2),
            took.3.2,
          ),
    )

pub returns-in-NotEnabled : goal.returns-in-NotEnabled
returns-in-NotEnabled g c = λ z images w is.
    let x : Line = record { actor = c.in-Some.actor; choice = c.in-Some.choice } in
    let at = c.loop-rest.invariant.1 z images w is in
    let stays = (c.in-NotEnabled.ensures z images at.0 at.2).1 in
    let still = subst (λ (p : Parts g.row.S.Denot g.row.S-Cell.Denot). IsWorld g.S.RawStore.content g.S.RawStore.honest z images p at.0) (sym stays) at.2 in
    let wants = (c.wants_memory.ensures z images at.0 still).0 c.if-wants_memory.true in
    (c.loop-rest.line, at.0, _, c.loop-rest.rest.now, at.1, (x, c.in-Some.others.now, c.in-Some.ensures, wants))

pub returns-in-NotEnabled-2 : goal.returns-in-NotEnabled-2
returns-in-NotEnabled-2 g c = λ z images w is.
    let x : Line = record { actor = c.in-Some.actor; choice = c.in-Some.choice } in
    let line = c.in-Some.ensures in
    let at = c.loop-rest.invariant.1 z images w is in
    let some : 0 < length c.loop-rest.rest.now = omega (arith, shorter x c.in-Some.others.now c.loop-rest.rest.now line) in
    let stays = (c.in-NotEnabled.ensures z images at.0 at.2).1 in
    let still = subst (λ (p : Parts g.row.S.Denot g.row.S-Cell.Denot). IsWorld g.S.RawStore.content g.S.RawStore.honest z images p at.0) (sym stays) at.2 in
    let calm : WantsMemory z at.0 c.in-Some.actor → ⊥ = λ wants. not_both _ ((c.wants_memory.ensures z images at.0 still).1 wants) c.if-wants_memory.false in
    (at.0, _, c.loop-rest.rest.now, at.1, some, inr (x, c.in-Some.others.now, line, (c.in-NotEnabled.ensures z images at.0 at.2).0, calm))

pub returns : goal.returns
returns g c = λ z images w is.
    let at = c.loop-rest.invariant.1 z images w is in
    let none : length c.loop-rest.rest.now ≡ 0 = eqb-true (length c.loop-rest.rest.now) 0 (sym c.loop-rest-test.ensures) in
    (at.0, has_led g.S.RawStore.honest g.S.RawStore.reliable g.S.RawStore.failures g.S.RawStore.read_gives z images w at.0 _ _ c.args.schedule.now c.loop-rest.rest.now c.loop-rest.line at.1 none, at.2)
