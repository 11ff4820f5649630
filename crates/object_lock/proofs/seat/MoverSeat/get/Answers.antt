use Rattle.std.proofs.Common.{◌≡◌, ◌+◌, ◌%◌, length, ap, subst, rules}
use Rattle.std.specs.Prelude.{MatchResult}
use Rattle.remote_store.specs.Kept.{Took, RefusedFor}
use Rattle.object_lock.specs.SeatViews.{SeatView}
use Rattle.object_lock.proofs.seat.MoverSeat.get.Goals as goal

pub returns-clause-read : goal.returns-clause-read
returns-clause-read g c =
    let b = c.in-Some.berth in let t = c.get.new.port.store in let gives = g.S.RawStore.read_gives in let failures = g.S.RawStore.failures in
    let same : c.self.inside.port.store ≡ c.args.self.now.store = ap (λ (h : SeatView g.row.S.Denot g.row.S-Cell.Denot). h.store) c.self.view_is in (
      b,
      search rules,
      subst (λ (s : g.row.S.Denot). MatchResult c.get.result (λ _. Took (length c.args.words.now) (λ row. gives s b.cell row t) b.version c.args.obj c.get.new.words)
          (λ why. RefusedFor (length c.args.words.now) (failures t ≡ (failures s + 1) % 18446744073709551616) (λ row. gives s b.cell row t × (failures t ≡ failures s)) b.version c.args.obj why)) same c.get.ensures.read,
    )
