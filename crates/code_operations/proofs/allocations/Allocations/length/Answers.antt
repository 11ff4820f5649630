use Rattle.std.proofs.Common.{arith, sym, ap, ◌∙◌}
use Rattle.code_form.specs.declared.allocation.Allocation.{Allocation}
use Rattle.code_operations.proofs.Allocated.{no_length_at_zero, no_length_behind, length_at}
use Rattle.code_operations.proofs.allocations.Allocations.length.Goals as goal

pub returns-then-reference-eq0 : goal.returns-then-reference-eq0
returns-then-reference-eq0 c = rw c.if-reference-eq0.true (sym (no_length_at_zero c.args.self.now))

pub returns-then-reference-len : goal.returns-then-reference-len
returns-then-reference-len c = rw (← c.self.view_is) (sym (no_length_behind c.self.inside.items.items c.args.reference (omega arith)))

pub returns : goal.returns
returns c =
    let al = c.self.inside.items.items in
    let r = c.args.reference in
    rw (← c.self.view_is) (ap (λ (a : Allocation). a.length) c.index.ensures ∙ sym (length_at al r c.index.result.now (omega arith) (omega arith)))
