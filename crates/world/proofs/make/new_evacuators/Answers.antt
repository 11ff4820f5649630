use Rattle.std.proofs.Common.{◌≡◌, ◌+◌, suc, ◌∷◌, ◌++◌, [], length, length-append, ap, ◌∙◌, arith}
use Rattle.remote_store.specs.declared.port.Port.{Port}
use Rattle.world_actors.specs.declared.evacuator.EvacuatorActor.{EvacuatorActor}
use Rattle.cells.specs.Pieces.{cells_in}
use Rattle.world.proofs.Opened.{idle_push}
use Rattle.world.proofs.make.new_evacuators.Goals as goal

pub loop-alloc-preserved : goal.loop-alloc-preserved
loop-alloc-preserved g c =
    let movers = c.loop-alloc.evacuators.items in
    let y : EvacuatorActor × Port g.row.S.Denot g.row.S-Cell.Denot = (c.in-Ok.evacuator, c.new-port.result) in
    let e = c.in_default-push.ensures.items in
    let made = c.in-Ok.ensures in
    let i = c.loop-alloc.invariant in
    let t = c.loop-alloc-test.true in
    let l = c.len.ensures in
    let k = c.len-in-loop-alloc.ensures in
    let ok = c.loop-alloc.evacuators.ok.0 in
    let n = length-append movers (y ∷ []) in
    let size : length c.push.new.self.items ≡ length (movers ++ y ∷ []) = ap length e in
    let number : c.args.programs + c.len-in-loop-alloc.result + 1 ≡ suc (c.args.programs + length movers) = omega arith in
    (omega arith, idle_push (cells_in c.args.piece) c.args.programs movers c.push.new.self.items y e i.1 made.1 (made.0 ∙ number) made.2)
