use Rattle.std.proofs.Common.{ap, subst, sym, ◌∙◌}
use Rattle.c0_syntax.specs.Views.{statement_of_kind}
use Rattle.c0_syntax.proofs.Rows.{block_is}
use Rattle.c0_grammar_laws.specs.PlacedStatements.{PlacedStatementKind, after_statement}
use Rattle.c0_grammar_laws.proofs.PlacedLists.{placed_block}
use Rattle.c0_parser.proofs.statements.block_node.Goals as goal

pub returns-clause-node : goal.returns-clause-node
returns-clause-node c = ap statement_of_kind c.statement_node.ensures.node ∙ block_is c.args.statements

pub returns-clause-placed : goal.returns-clause-placed
returns-clause-placed c first begins stand =
    let node = c.statement_node.ensures in
    let along = ap (λ x. after_statement x first) (ap statement_of_kind node.node ∙ block_is c.args.statements) ∙ stand.1 in
    (((node.start ∙ begins, node.end ∙ sym (ap (λ o. o.end) along)), subst (PlacedStatementKind first) (sym node.node) (placed_block first c.args.statements stand.0)), along)
