use Rattle.std.proofs.Common.{None, Some}
use Rattle.world_semantics.specs.Programs.{hold_at}
use Rattle.world_actors.proofs.Instructed.{aims_other, aims_same, aims_so, goes_turn}
use Rattle.world_actors.proofs.program.ProgramActor.aim_at.Goals as goal

pub returns-in-None-object : goal.returns-in-None-object
returns-in-None-object g c z s p is =
    let x = c.args.self.now in
    goes_turn z.cells s _ _ _ _ _ c.complete.result (λ a. aims_so x.setting p c.args.scope (hold_at x.holds c.args.scope) None c.args.object None c.in-None.ensures c.in-None-object.is) (c.complete.ensures z s p is)

pub returns-in-Some-object : goal.returns-in-Some-object
returns-in-Some-object g c z s p is =
    let x = c.args.self.now in
    goes_turn z.cells s _ _ _ _ _ c.open_hold.result (λ a. aims_so x.setting p c.args.scope (hold_at x.holds c.args.scope) None c.args.object (Some c.in-Some-object.object) c.in-None.ensures c.in-Some-object.is)
    (c.open_hold.ensures z s p is)

pub returns-in-None-object-2 : goal.returns-in-None-object-2
returns-in-None-object-2 g c z s p is =
    let x = c.args.self.now in
    goes_turn z.cells s _ _ _ _ _ c.close_hold.result (λ a. aims_so x.setting p c.args.scope (hold_at x.holds c.args.scope) (Some c.in-Some.hold) c.args.object None c.in-Some.ensures c.in-None-object-2.is)
    (c.close_hold.ensures z s p is)

pub returns-then-hold-object : goal.returns-then-hold-object
returns-then-hold-object g c z s p is =
    let x = c.args.self.now in
    goes_turn z.cells s _ _ _ _ _ c.complete-then-hold-object.result (λ a. aims_same x.setting p c.args.scope (hold_at x.holds c.args.scope) c.args.object c.in-Some.hold c.in-Some-object-2.object c.in-Some.ensures c.in-Some-object-2.is c.if-hold-object.true)
    (c.complete-then-hold-object.ensures z s p is)

pub returns-else-hold-object : goal.returns-else-hold-object
returns-else-hold-object g c z s p is =
    let x = c.args.self.now in
    goes_turn z.cells s _ _ _ _ _ c.close_hold-else-hold-object.result (λ a. aims_other x.setting p c.args.scope (hold_at x.holds c.args.scope) c.args.object c.in-Some.hold c.in-Some-object-2.object c.in-Some.ensures c.in-Some-object-2.is c.if-hold-object.false)
    (c.close_hold-else-hold-object.ensures z s p is)
