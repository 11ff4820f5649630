use Rattle.session.proofs.Scaling.{masked}
use Rattle.session.proofs.scale.Scale.place.Goals as goal

pub returns : goal.returns
returns c = masked c.args.index c.args.self.shift c.args.self.mask c.args.self.masks
