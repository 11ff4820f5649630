use Rattle.std.proofs.Common.{◌≡◌, ◌+◌, suc, ◌∷◌, ◌++◌, [], length, length-append, ap, ◌∙◌, arith}
use Rattle.remote_store.specs.declared.port.Port.{Port}
use Rattle.world_fetchers.specs.declared.fetcher.FetcherActor.{FetcherActor}
use Rattle.cells.specs.Pieces.{cells_in}
use Rattle.world.proofs.Opened.{rest_push}
use Rattle.world.proofs.make.new_fetchers.Goals as goal

pub loop-alloc-preserved : goal.loop-alloc-preserved
loop-alloc-preserved g c =
    let movers = c.loop-alloc.fetchers.items in
    let y : FetcherActor × Port g.row.S.Denot g.row.S-Cell.Denot = (c.in-Ok.fetcher, c.new-port.result) in
    let e = c.in_default-push.ensures.items in
    let made = c.in-Ok.ensures in
    let i = c.loop-alloc.invariant in
    let t = c.loop-alloc-test.true in
    let l = c.len.ensures in
    let k = c.len-in-loop-alloc.ensures in
    let ok = c.loop-alloc.fetchers.ok.0 in
    let n = length-append movers (y ∷ []) in
    let size : length c.push.new.self.items ≡ length (movers ++ y ∷ []) = ap length e in
    let number : c.args.before + c.len-in-loop-alloc.result + 1 ≡ suc (c.args.before + length movers) = omega arith in
    (omega arith, rest_push (cells_in c.args.piece) c.args.before movers c.push.new.self.items y e i.1 made.1 (made.0 ∙ number) made.2)
