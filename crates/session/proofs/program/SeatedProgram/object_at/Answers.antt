use Rattle.std.proofs.Common.{◌/◌, ap, ◌∙◌, arith}
use Rattle.session.specs.State.{cells_in}
use Rattle.session.proofs.Writing.{object_owned, placed_at, reference_known, some_cells}
use Rattle.session.proofs.program.SeatedProgram.object_at.Goals as goal

pub first-requires-after_bounds : goal.first-requires-after_bounds
first-requires-after_bounds g c κs within = reference_known c.args.self.now.state c.args.cell c.requires.holding c.requires.cell

pub overflow_add-result : goal.overflow_add-result
overflow_add-result g c =
    let s = c.args.self.now.state in
    let h = object_owned s c.args.cell c.requires.holding c.requires.cell (c.heap_laws.ensures.addresses s.view.sizes.cells s.view.low (cells_in s) (some_cells s c.requires.holding)) in
    let there = placed_at s c.args.cell c.first.result c.before-whole.result c.first.ensures (c.before-whole.ensures ∙ ap (λ n. c.args.cell.index / n) c.scale.ensures) h.2 in
    let small = h.4 in
    omega arith

pub returns-clause-value : goal.returns-clause-value
returns-clause-value g c =
    let s = c.args.self.now.state in
    let h = object_owned s c.args.cell c.requires.holding c.requires.cell (c.heap_laws.ensures.addresses s.view.sizes.cells s.view.low (cells_in s) (some_cells s c.requires.holding)) in
    placed_at s c.args.cell c.first.result c.before-whole.result c.first.ensures (c.before-whole.ensures ∙ ap (λ n. c.args.cell.index / n) c.scale.ensures) h.2

pub returns-clause-own : goal.returns-clause-own
returns-clause-own g c =
    let s = c.args.self.now.state in
    let h = object_owned s c.args.cell c.requires.holding c.requires.cell (c.heap_laws.ensures.addresses s.view.sizes.cells s.view.low (cells_in s) (some_cells s c.requires.holding)) in
    let there = placed_at s c.args.cell c.first.result c.before-whole.result c.first.ensures (c.before-whole.ensures ∙ ap (λ n. c.args.cell.index / n) c.scale.ensures) h.2 in
    let low = h.3.0 in
    let high = h.3.1 in
    (omega arith, omega arith)
