use Rattle.std.proofs.Common.{◌≡◌, map, drop}
use Rattle.std.specs.List.{list_any}
use Rattle.c0_syntax.specs.Views.{spec_of}
use Rattle.c0_types_flow.specs.FlowViews.{refused_by}
use Rattle.c0_rules.specs.Mentions.{spec_mentions}
use Rattle.c0_types_flow.proofs.mentioned.Refused.check_specs.Given as goal

-- what is left decides
abbrev pub invariant-loop-spec : goal.invariant-loop-spec
invariant-loop-spec l = list_any (refused_by l.self) (spec_mentions (map spec_of (drop l.spec-index l.specs))) ≡ list_any (refused_by l.self) (spec_mentions (map spec_of l.specs))
