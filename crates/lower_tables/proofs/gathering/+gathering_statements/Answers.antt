use Rattle.std.proofs.Common.{◌≡◌, sym, ap, ◌∙◌, arith, subst, OnOk}
use Rattle.lower_tables.specs.Gathered.{all_learned, types_of, types_of_all}
use Rattle.lower_tables.proofs.CodeGathered.{statement_step, types_of_the_block}
use Rattle.lower_tables.proofs.SizeRows.{size_in_body, size_of_block}
use Rattle.lower_tables.proofs.CodeSizes.{size_body, size_statement}
use Rattle.lower_tables.proofs.gathering.+gathering_statements.Goals as goal

pub from_statements-from_statement-requires : goal.from_statements-from_statement-requires
from_statements-from_statement-requires t c = (omega (arith, size_in_body c.args.all.now c.loop-part.part-index c.part-item.result c.loop-part-test.true c.part-item.is, c.decreases), c.loop-part.invariant.0)

pub from_statements-loop-part-preserved : goal.from_statements-loop-part-preserved
from_statements-loop-part-preserved t c =
    (c.from_statement.ensures.numbered, statement_step c.args.structs _ _ _ c.args.all.now c.loop-part.part-index c.part-item.result c.loop-part-test.true c.part-item.is c.in_ok-from_statement.ensures.learned c.loop-part.invariant.1)

pub from_statement-from_statements-requires : goal.from_statement-from_statements-requires
from_statement-from_statements-requires t c = (omega (arith, ap size_statement c.in-Block.is, size_of_block c.in-Block.all, ap size_body c.deref.ensures.value, c.decreases), c.requires)

pub from_statement-returns-in-Block-clause-learned : goal.from_statement-returns-in-Block-clause-learned
from_statement-returns-in-Block-clause-learned t c =
    let same : types_of_all c.deref.result.now ≡ types_of c.args.whole.now = ap types_of_all c.deref.ensures.value ∙ sym (types_of_the_block c.in-Block.all) ∙ ap types_of (sym c.in-Block.is) in
    subst (λ ts. OnOk c.from_statements.result (c.from_statements.new.singles ≡ all_learned c.args.structs c.args.singles.now ts)) same c.from_statements.ensures.learned
