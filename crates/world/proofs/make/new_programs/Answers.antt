use Rattle.std.proofs.Common.{◌≡◌, ◌<◌, ◌∷◌, ◌++◌, [], length, length-append, ap, arith}
use Rattle.remote_store.specs.declared.port.Port.{Port}
use Rattle.world_actors.specs.Seats.{Seat}
use Rattle.world.proofs.Opened.{begun_next, begun_push}
use Rattle.world.proofs.make.new_programs.Goals as goal

pub loop-alloc-preserved : goal.loop-alloc-preserved
loop-alloc-preserved g c =
    let seats = c.loop-alloc.programs.items in
    let y : Seat × Port g.row.S.Denot g.row.S-Cell.Denot = (c.in-Ok.program, c.new-port.result) in
    let e = c.in_default-push.ensures.items in
    let i = c.loop-alloc.invariant in
    let t = c.loop-alloc-test.true in
    let l = c.len.ensures in
    let k = c.len-number.ensures in
    let ok = c.loop-alloc.programs.ok.0 in
    let n = length-append seats (y ∷ []) in
    let size : length c.push.new.self.items ≡ length (seats ++ y ∷ []) = ap length e in
    let below : length seats < length c.args.images.now = omega arith in (
      omega arith,
      begun_push c.args.images.now c.args.share seats c.push.new.self.items y e i.1
          (begun_next c.args.images.now c.args.share c.len-number.result (length seats) c.index-images-number.result c.in-Ok.program (omega arith) below c.index-images-number.is c.in-Ok.ensures),
    )
