use Rattle.world_actors.proofs.Acting.{claimed_inside}
use Rattle.world_fetchers.proofs.fetch.release.Goals as goal

pub returns : goal.returns
returns g c m z s inv claimed shows = record {
  tables = c.hold_frame.ensures z s shows.tables (claimed_inside g.S.RawStore.honest z c.args.lock.now.memory s m c.args.frame inv shows.tables claimed);
  far = shows.far;
  many = shows.many;
  objects_few = shows.objects_few;
  frames_few = shows.frames_few;
  size = shows.size;
}
