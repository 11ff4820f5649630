use Rattle.world_actors.proofs.Acting.{freed_inside}
use Rattle.world_actors.proofs.evict.release.Goals as goal

pub returns : goal.returns
returns g c m z s inv freed shows = record {
  tables = c.hold_frame.ensures z s shows.tables (freed_inside g.S.RawStore.honest z c.args.lock.now.memory s m c.args.frame inv shows.tables freed);
  far = shows.far;
  many = shows.many;
  objects_few = shows.objects_few;
  frames_few = shows.frames_few;
  size = shows.size;
}
