use Rattle.std.proofs.Common.{◌∙◌}
use Rattle.c0_syntax.specs.Views.{expression_of}
use Rattle.c0_types_flow.specs.FlowViews.{flow_of}
use Rattle.c0_types_flow.proofs.Flows.{reads_are}
use Rattle.c0_types_flow.proofs.flow.statements.check_reads.Goals as goal

pub returns-clause-answers : goal.returns-clause-answers
returns-clause-answers c = c.check_expression.ensures.answers ∙ reads_are (flow_of c.args.flow.now) (expression_of c.args.expression.now)
