use Rattle.std.proofs.Common.{◌≡◌, arith, subst, sym, map, true}
use Rattle.std.proofs.lemmas.Grind.{common_steps}
use Rattle.code_operations.specs.Layouts.{are_small}
use Rattle.code_operations.proofs.Texts.{small_in}
use Rattle.code_operations.proofs.operations.Operands.array.Goals as goal

pub elements-requires : goal.elements-requires
elements-requires c =
    let found = c.in-Some.ensures.lookup.3 in
    let x = c.in-Some.kinds.now in
    let small = subst (λ ls. are_small (map (λ l. l.items) ls) ≡ true) (sym c.deref.ensures.value) c.requires in
    let low = small_in (λ l. l.items) c.deref.result.now c.args.layout x small found.0 (found.1 x) in
    grind (arith, common_steps)
