use Rattle.std.proofs.Common.{ap, arith, sym, subst, ◌∙◌, ℕ}
use mathlib.Core.Option.{none}
use Rattle.atomic_table.specs.Table.{Allows, step}
use Rattle.object_lock.specs.Joining.{AreTogether, JoinedRule, all_of, own_seat}
use Rattle.object_lock.specs.Kept.{slot_has, slot_keeps}
use Rattle.object_lock.specs.Logging.{logs_peek}
use Rattle.object_lock.specs.Seats.{Sizes, sizes}
use Rattle.object_lock.proofs.Joins.{joined_meets}
use Rattle.object_lock.proofs.Owner.{peeks}
use Rattle.object_lock.proofs.table.LockWords.look_together.Goals as goal

pub load-requires : goal.load-requires
load-requires g c =
    let some_words = c.requires.some in let counts = c.args.self.now.sized.0 in let table = c.args.self.now.table.shared in let seat = c.args.seat.now in
    let os = ap (λ (q : Sizes). q.objects) c.requires.table.1 in
    let sized = c.requires.table.1 ∙ sym (ap sizes c.args.self.now.keyed) in
    let fits = g.S.RawStore.fits in let content = g.S.RawStore.content in let honest = g.S.RawStore.honest in (
      c.requires.table.0,
      omega arith,
      subst (λ (q : Sizes). Allows (JoinedRule (slot_keeps fits content table.key.cells) (slot_has fits table.key.cells) honest (sizes table.key)) table.table_id.slots seat.id seat.me 0 (λ (n : ℕ). n)
          (λ n m. AreTogether (slot_keeps fits content q.cells) (slot_has fits q.cells) honest q (all_of seat.me.0))) (sym sized)
          (joined_meets _ _ _ _ _ _ seat.me _ (λ (n : ℕ). n) (logs_peek honest (step table.table_id.slots 0 0 0 none) (own_seat seat.me)) sized (peeks _ _ _ _ _ _ _ _ (omega arith))),
    )

pub returns : goal.returns
returns g c =
    let fits = g.S.RawStore.fits in let content = g.S.RawStore.content in
    subst (λ (q : Sizes). AreTogether (slot_keeps fits content q.cells) (slot_has fits q.cells) g.S.RawStore.honest q (all_of c.args.seat.now.me.0)) c.requires.table.1 c.load.ensures.2
