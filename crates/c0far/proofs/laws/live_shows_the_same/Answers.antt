use Rattle.c0far.proofs.Lived.{shows_the_same}
use Rattle.c0far.proofs.laws.live_shows_the_same.Goals as goal

pub returns : goal.returns
returns g c = shows_the_same g.F.Place.Folder.honest
