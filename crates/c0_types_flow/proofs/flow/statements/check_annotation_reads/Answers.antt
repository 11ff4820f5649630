use Rattle.std.proofs.Common.{◌∙◌, map}
use Rattle.c0_syntax.specs.Views.{annotation_of}
use Rattle.c0_types_flow.specs.FlowViews.{flow_of}
use Rattle.c0_rules.specs.Mentions.{specs_in}
use Rattle.c0_types_flow.proofs.Flows.{spec_reads_are}
use Rattle.c0_types_flow.proofs.flow.statements.check_annotation_reads.Goals as goal

pub returns-clause-answers : goal.returns-clause-answers
returns-clause-answers c = c.check_annotations.ensures.answers ∙ spec_reads_are (flow_of c.args.flow.now) (specs_in (map annotation_of c.args.annotations.now))
