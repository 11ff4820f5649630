use Rattle.world_actors.proofs.MovedOut.{copied}
use Rattle.world_actors.proofs.evict.copy.Goals as goal

pub returns : goal.returns
returns g c m z s l is =
    let lock = c.args.lock.now in
    copied g.S.RawStore.content g.S.RawStore.honest z lock.memory lock.berths m s c.args.object c.args.frame c.args.copied c.cell.result c.args.words.now is l c.requires c.cell.ensures
