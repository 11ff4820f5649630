use Rattle.std.proofs.Common.{ap, arith, sym, ◌∙◌}
use Rattle.object_lock.specs.Seats.{sizes}
use Rattle.object_lock.proofs.Joins.{joins}
use Rattle.object_lock.proofs.table.LockWords.join_token.Goals as goal

pub join_seat-requires : goal.join_seat-requires
join_seat-requires g c = let some_words = c.requires.some in let counts = c.args.self.now.sized.0 in let keyed = sym (ap sizes c.args.self.now.keyed) in
    (c.requires.table.0, c.requires.other.0.0, c.requires.other.1, omega arith, joins _ _ _ _ _ _ c.args.seat.now.me.0 c.args.other.me.0 (c.requires.table.1 ∙ keyed) (c.requires.other.0.1 ∙ keyed))
