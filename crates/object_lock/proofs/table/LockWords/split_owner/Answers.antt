use Rattle.std.proofs.Common.{arith, sym, ap, ◌∙◌}
use Rattle.object_lock.specs.declared.shape.Shape.{Shape}
use Rattle.object_lock.proofs.Shares.{splits}
use Rattle.object_lock.specs.Joining.{itself}
use Rattle.object_lock.specs.Logs.{beginning, keeping}
use Rattle.object_lock.specs.Seats.{next_owner, first_part, sizes}
use Rattle.object_lock.proofs.Joins.{joined_splits}
use Rattle.object_lock.proofs.table.LockWords.split_owner.Goals as goal

pub split_seat-requires : goal.split_seat-requires
split_seat-requires g c = let some_words = c.requires.last.0 in let sized = c.args.self.now.sized.0 in let seats = ap (λ (s : Shape). s.seats) c.args.self.now.keyed in let room = c.requires.last.4 in (c.requires.table.0, omega arith, joined_splits _ _ _ _ _ c.args.seat.now.me.0 (keeping first_part (itself c.args.seat.now.me.0)) (beginning next_owner (itself c.args.seat.now.me.0)) (c.requires.table.1 ∙ sym (ap sizes c.args.self.now.keyed)) (splits _ _ _ _ _ _ _ c.requires.unused c.requires.last.1 c.requires.last.2 (omega arith) c.requires.last.3 (omega arith)))
