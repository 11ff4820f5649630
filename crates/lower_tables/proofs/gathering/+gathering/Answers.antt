use Rattle.std.proofs.Common.{◌≡◌, sym, ap, ◌∙◌, arith, subst, OnOk}
use Rattle.lower_tables.specs.Gathered.{all_learned, types_in, types_in_all}
use Rattle.lower_tables.proofs.CodeGathered.{expression_step, types_in_call, types_in_print}
use Rattle.lower_tables.proofs.SizeRows.{size_call, size_in, size_print}
use Rattle.lower_tables.proofs.CodeSizes.{size, size_list}
use Rattle.lower_tables.proofs.gathering.+gathering.Goals as goal

pub from_expressions-from_expression-requires : goal.from_expressions-from_expression-requires
from_expressions-from_expression-requires t c = (omega (arith, size_in c.args.all.now c.loop-part.part-index c.part-item.result c.loop-part-test.true c.part-item.is, c.decreases), c.loop-part.invariant.0)

pub from_expressions-loop-part-preserved : goal.from_expressions-loop-part-preserved
from_expressions-loop-part-preserved t c =
    (c.from_expression.ensures.numbered, expression_step c.args.structs _ _ _ c.args.all.now c.loop-part.part-index c.part-item.result c.loop-part-test.true c.part-item.is c.in_ok-from_expression.ensures.learned c.loop-part.invariant.1)

pub from_expression-from_expressions-requires : goal.from_expression-from_expressions-requires
from_expression-from_expressions-requires t c = (omega (arith, ap size c.in-Call.is, size_call c.in-Call.field-0 c.in-Call.given, ap size_list c.deref-in-Call.ensures.value, c.decreases), c.requires)

pub from_expression-from_expressions-requires-in-Print : goal.from_expression-from_expressions-requires-in-Print
from_expression-from_expressions-requires-in-Print t c = (omega (arith, ap size c.in-Print.is, size_print c.in-Print.field-0 c.in-Print.given, ap size_list c.deref-in-Print.ensures.value, c.decreases), c.requires)

pub from_expression-returns-in-Call-clause-learned : goal.from_expression-returns-in-Call-clause-learned
from_expression-returns-in-Call-clause-learned t c =
    let same : types_in_all c.deref-in-Call.result.now ≡ types_in c.args.whole.now = ap types_in_all c.deref-in-Call.ensures.value ∙ sym (types_in_call c.in-Call.field-0 c.in-Call.given) ∙ ap types_in (sym c.in-Call.is) in
    subst (λ ts. OnOk c.from_expressions.result (c.from_expressions.new.singles ≡ all_learned c.args.structs c.args.singles.now ts)) same c.from_expressions.ensures.learned

pub from_expression-returns-in-Print-clause-learned : goal.from_expression-returns-in-Print-clause-learned
from_expression-returns-in-Print-clause-learned t c =
    let same : types_in_all c.deref-in-Print.result.now ≡ types_in c.args.whole.now = ap types_in_all c.deref-in-Print.ensures.value ∙ sym (types_in_print c.in-Print.field-0 c.in-Print.given) ∙ ap types_in (sym c.in-Print.is) in
    subst (λ ts. OnOk c.from_expressions-in-Print.result (c.from_expressions-in-Print.new.singles ≡ all_learned c.args.structs c.args.singles.now ts)) same c.from_expressions-in-Print.ensures.learned
