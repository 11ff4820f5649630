use Rattle.std.proofs.Common.{refl, true}
use Rattle.session.specs.Keeping.{a_hold}
use Rattle.session.proofs.Kept.{kept_low, kept_may, kept_stored, kept_writes}
use Rattle.session.proofs.pieces.Pieces.store.Goals as goal

pub store-requires-clause-low : goal.store-requires-clause-low
store-requires-clause-low g c κs within = kept_low c.args.table.now c.args.scale.shift c.make_writable.new.self.holds.items c.make_writable.new.self.owner c.make_writable.ensures.kept c.args.scope (a_hold c.in-Some.hold.object c.in-Some.hold.frame true) c.args.cell.index c.place-index.result c.make_writable.ensures.writer c.place-index.ensures

pub store-requires-clause-hold : goal.store-requires-clause-hold
store-requires-clause-hold g c κs within =
    let h = a_hold c.in-Some.hold.object c.in-Some.hold.frame true in
    let may = kept_may c.args.table.now c.args.scale.shift c.make_writable.new.self.holds.items c.make_writable.new.self.owner c.make_writable.ensures.kept c.args.scope h c.make_writable.ensures.writer in
    (may.0, may.1, kept_writes c.args.table.now c.args.scale.shift c.make_writable.new.self.holds.items c.make_writable.new.self.owner c.make_writable.ensures.kept c.args.scope h c.make_writable.ensures.writer refl)

pub returns-clause-kept : goal.returns-clause-kept
returns-clause-kept g c = kept_stored c.args.table.now c.args.scale.shift c.make_writable.new.self.holds.items c.make_writable.new.self.owner c.make_writable.ensures.kept c.args.scope c.in-Some.hold.object c.in-Some.hold.frame c.place-index.result c.args.value c.store.new.owner c.make_writable.new.self.holds.items c.make_writable.ensures.writer c.store.ensures.table c.store.ensures.added refl
