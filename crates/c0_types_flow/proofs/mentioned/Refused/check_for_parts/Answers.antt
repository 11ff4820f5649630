use Rattle.std.proofs.Common.{◌++◌, option_map}
use Rattle.std.proofs.lemmas.Result.{err_from_is_err_and}
use Rattle.c0_syntax.specs.Views.{expression_of, simple_of}
use Rattle.c0_types_flow.specs.FlowViews.{refused_by}
use Rattle.c0_rules.specs.Mentions.{Mention, mentions, part_mentions}
use Rattle.c0_types_flow.proofs.Lists.{found_left, found_right, none_of_three}
use Rattle.c0_types_flow.proofs.mentioned.Refused.check_for_parts.Goals as goal

pub returns-in_err-check_expression-clause-answers : goal.returns-in_err-check_expression-clause-answers
returns-in_err-check_expression-clause-answers c =
    let test = refused_by c.args.self.now in
    let first = part_mentions (option_map simple_of c.args.first.now) in
    let condition = mentions (expression_of c.args.condition.now) in
    let third = part_mentions (option_map simple_of c.args.third.now) in
    let p = err_from_is_err_and c.from_residual-in_err-check_expression.result c.from_residual-in_err-check_expression.ensures.1 in
    rw p.1 (found_left {A = Mention} test (first ++ condition) third (found_right {A = Mention} test first condition c.in_err-check_expression.ensures.answers))

pub returns-clause-answers : goal.returns-clause-answers
returns-clause-answers c =
    let first = part_mentions (option_map simple_of c.args.first.now) in
    let condition = mentions (expression_of c.args.condition.now) in
    let third = part_mentions (option_map simple_of c.args.third.now) in
    none_of_three {A = Mention} (refused_by c.args.self.now) first condition third _ c.in_ok-check_part.ensures.answers c.in_ok-check_expression.ensures.answers c.check_part-2.ensures.answers
