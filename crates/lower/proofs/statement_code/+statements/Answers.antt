use Rattle.std.proofs.Common.{◌≡◌, ◌++◌, sym, ap, ◌∙◌, arith, subst, length, OnOk}
use Rattle.lower.specs.Building.{block_code, body_kinds, stmt_code, stmt_kinds}
use Rattle.lower_expressions.specs.Building.{codes}
use Rattle.lower_tables.proofs.SizeRows.{size_in_body, size_of_block}
use Rattle.lower.proofs.StatementRows.{code_of_block, kinds_of_block}
use Rattle.lower_tables.proofs.CodeSizes.{size_body, size_statement}
use Rattle.lower.proofs.statement_code.+statements.Goals as goal

pub statements-statement-requires : goal.statements-statement-requires
statements-statement-requires t c = (omega (arith, size_in_body c.args.all.now c.loop-part.part-index c.part-item.result c.loop-part-test.true c.part-item.is, c.decreases), tt)

pub statement-statements-requires : goal.statement-statements-requires
statement-statements-requires t c = (omega (arith, ap size_statement c.in-Block.is, size_of_block c.in-Block.all, ap size_body c.deref.ensures.value, c.decreases), tt)

pub statement-returns-in-Block-clause-registers : goal.statement-returns-in-Block-clause-registers
statement-returns-in-Block-clause-registers t c =
    let x = c.args.context.now in
    let same : body_kinds x c.deref.result.now ≡ stmt_kinds x c.args.whole.now = ap (body_kinds x) c.deref.ensures.value ∙ sym (kinds_of_block x c.in-Block.all) ∙ ap (stmt_kinds x) (sym c.in-Block.is) in
    subst (λ ks. OnOk c.statements.result (c.statements.new.kinds.items ≡ c.args.kinds.now.items ++ ks)) same c.statements.ensures.registers

pub statement-returns-in-Block-clause-added : goal.statement-returns-in-Block-clause-added
statement-returns-in-Block-clause-added t c =
    let x = c.args.context.now in
    let d = length c.args.kinds.now.items in
    let same : block_code x c.deref.result.now d c.args.out ≡ stmt_code x c.args.whole.now d c.args.out =
    ap (λ ss. block_code x ss d c.args.out) c.deref.ensures.value ∙ sym (code_of_block x c.in-Block.all d c.args.out) ∙ ap (λ s. stmt_code x s d c.args.out) (sym c.in-Block.is) in
    subst (λ cs. OnOk c.statements.result (codes c.statements.new.code.items ≡ codes c.args.code.now.items ++ cs)) same c.statements.ensures.added
