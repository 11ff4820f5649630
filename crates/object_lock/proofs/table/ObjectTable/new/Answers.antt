use Rattle.std.proofs.Common.{◌≡◌, ℕ, ◌+◌, true, [], sym, ap, subst, ◌∙◌}
use Rattle.cells.specs.Pieces.{cells_in, is_piece}
use Rattle.cells.proofs.Pieces.{is_a_piece}
use Rattle.object_lock.specs.declared.shape.Shape.{Shape}
use Rattle.object_lock.specs.Kept.{slot_keeps, slot_has}
use Rattle.object_lock.proofs.AtFirst.{begins_away}
use Rattle.object_lock.proofs.table.ObjectTable.new.Goals as goal

pub returns-clause-away : goal.returns-clause-away
returns-clause-away g c = let m = c.in_ok-owners.ensures.made in begins_away (slot_keeps g.S.RawStore.fits g.S.RawStore.content _) (slot_has g.S.RawStore.fits _) g.S.RawStore.honest _ _ _ _ _ _ _ m.1 m.3 m.0 m.2 c.in_ok-owners.ensures.last

pub lay-requires-clause-fresh : goal.lay-requires-clause-fresh
lay-requires-clause-fresh g c κs within = λ o l.
    let made = c.in_ok-slots.ensures.made.1 o l in
    let way : g.S.RawStore.makes c.store.result.now (cells_in c.args.piece + 3) = subst (λ (s : g.row.S.Denot). g.S.RawStore.makes s (cells_in c.args.piece + 3)) (sym (c.store.ensures ∙ c.new-port.ensures.store)) (c.in_ok-one.ensures.makes (cells_in c.args.piece + 3) c.requires.store) in
    (made.0, made.1, subst (λ (n : ℕ). slot_keeps g.S.RawStore.fits g.S.RawStore.content n made.0 o []) (sym c.cells.ensures.cells) (made.2 (cells_in c.args.piece) way))

pub invariant_of-table-2 : goal.invariant_of-table-2
invariant_of-table-2 g c = let e : c.in-Ok.words.shape.cells ≡ cells_in c.args.piece = ap (λ (s : Shape). s.cells) c.in-Ok.ensures.1 ∙ c.cells.ensures.cells in subst (λ (n : ℕ). is_piece n ≡ true) (sym e) (is_a_piece c.args.piece)
