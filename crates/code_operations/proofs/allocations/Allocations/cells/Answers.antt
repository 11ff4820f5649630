use Rattle.std.proofs.Common.{arith, sym, ap, ◌∙◌}
use Rattle.code_form.specs.Code.{sizes}
use Rattle.code_form.specs.declared.allocation.Allocation.{Allocation}
use Rattle.code_operations.proofs.Allocated.{none_at_zero, none_behind, cells_at}
use Rattle.code_operations.proofs.allocations.Allocations.cells.Goals as goal

pub returns-then-reference-eq0 : goal.returns-then-reference-eq0
returns-then-reference-eq0 c = rw c.if-reference-eq0.true (sym (none_at_zero (sizes c.args.self.now)))

pub returns-then-reference-len : goal.returns-then-reference-len
returns-then-reference-len c = rw (← c.self.view_is) (sym (none_behind c.self.inside.items.items c.args.reference (omega arith)))

pub returns : goal.returns
returns c =
    let al = c.self.inside.items.items in
    let r = c.args.reference in
    rw (← c.self.view_is) (ap (λ (a : Allocation). a.cells) c.index.ensures ∙ sym (cells_at al r c.index.result.now (omega arith) (omega arith)))
