use Rattle.std.proofs.Common.{◌≡◌, ◌<◌, ap, sym, subst, ◌∙◌, arith}
use Rattle.world_memory.specs.declared.memory.Object.{Object}
use Rattle.world_memory.specs.Tables.{is_away_at, object_at}
use Rattle.world_fetchers.proofs.Bringing.{begun, elsewhere, held}
use Rattle.world_fetchers.proofs.fetch.begin.Goals as goal

pub returns-then-is_away : goal.returns-then-is_away
returns-then-is_away g c z s inside none shows =
    let old = c.args.lock.now in
    let o = c.args.object in
    let row : c.object-row.result ≡ object_at old.memory o = c.object-row.ensures in
    begun g.S.RawStore.content z old.memory old.berths c.args.mover s shows o c.put_place.new.self inside (ap (λ (y : Object). y.count) (sym row) ∙ c.if-row-eq0.true)
    (ap (λ (y : Object). is_away_at y.place) (sym row) ∙ (sym c.is_away.ensures ∙ c.if-is_away.true)) (c.put_place.ensures z s)

pub returns-else-is_away : goal.returns-else-is_away
returns-else-is_away g c z s inside none shows =
    let old = c.args.lock.now in
    let o = c.args.object in
    let row : c.object-row.result ≡ object_at old.memory o = c.object-row.ensures in
    elsewhere g.S.RawStore.content z old.memory old.berths c.args.mover s shows o none (ap (λ (y : Object). is_away_at y.place) (sym row) ∙ (sym c.is_away.ensures ∙ c.if-is_away.false))

pub returns-else-row-eq0 : goal.returns-else-row-eq0
returns-else-row-eq0 g c z s inside none shows =
    let old = c.args.lock.now in
    let o = c.args.object in
    let row : c.object-row.result ≡ object_at old.memory o = c.object-row.ensures in
    let some : 0 < (object_at old.memory o).count = subst (λ (y : Object). 0 < y.count) row (omega (arith, c.if-row-eq0.false)) in
    held g.S.RawStore.content z old.memory old.berths c.args.mover s shows o none some
