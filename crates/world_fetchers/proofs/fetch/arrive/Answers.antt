use Rattle.world_actors.proofs.Acting.{bringing_inside}
use Rattle.world_fetchers.proofs.fetch.arrive.Goals as goal

pub returns : goal.returns
returns g c m z s inv brings shows = record {
  tables = c.put_place.ensures z s shows.tables (bringing_inside g.S.RawStore.honest z c.args.lock.now.memory s m c.args.object inv shows.tables brings);
  far = shows.far;
  many = shows.many;
  objects_few = shows.objects_few;
  frames_few = shows.frames_few;
  size = shows.size;
}
