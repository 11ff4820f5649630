use Rattle.world_actors.proofs.Acting.{claimed_inside}
use Rattle.world_fetchers.proofs.fetch.fill.Goals as goal

pub returns : goal.returns
returns g c m z s low inv claimed shows = record {
  tables = c.put_cell.ensures z s shows.tables (claimed_inside g.S.RawStore.honest z c.args.lock.now.memory s m c.args.frame inv shows.tables claimed) low;
  far = shows.far;
  many = shows.many;
  objects_few = shows.objects_few;
  frames_few = shows.frames_few;
  size = shows.size;
}
