use Rattle.std.proofs.Common.{◌≡◌, map, drop}
use Rattle.std.specs.List.{list_any}
use Rattle.c0_syntax.specs.Views.{annotation_of}
use Rattle.c0_types_flow.specs.FlowViews.{refused_by}
use Rattle.c0_rules.specs.Mentions.{spec_mentions, specs_in}
use Rattle.c0_types_flow.proofs.mentioned.Refused.check_annotations.Given as goal

-- what is left decides
abbrev pub invariant-loop-annotation : goal.invariant-loop-annotation
invariant-loop-annotation l =
    list_any (refused_by l.self) (spec_mentions (specs_in (map annotation_of (drop l.annotation-index l.annotations)))) ≡ list_any (refused_by l.self) (spec_mentions (specs_in (map annotation_of l.annotations)))
