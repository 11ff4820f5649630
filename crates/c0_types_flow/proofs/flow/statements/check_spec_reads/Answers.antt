use Rattle.std.proofs.Common.{◌∙◌, map}
use Rattle.c0_syntax.specs.Views.{spec_of}
use Rattle.c0_types_flow.specs.FlowViews.{flow_of}
use Rattle.c0_types_flow.proofs.Flows.{spec_reads_are}
use Rattle.c0_types_flow.proofs.flow.statements.check_spec_reads.Goals as goal

pub returns-clause-answers : goal.returns-clause-answers
returns-clause-answers c = c.check_specs.ensures.answers ∙ spec_reads_are (flow_of c.args.flow.now) (map spec_of c.args.specs.now)
