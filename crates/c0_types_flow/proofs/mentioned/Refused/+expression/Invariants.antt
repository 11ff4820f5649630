use Rattle.std.proofs.Common.{◌≡◌, drop}
use Rattle.std.specs.List.{list_any}
use Rattle.c0_syntax.specs.Views.{expressions_of}
use Rattle.c0_types_flow.specs.FlowViews.{refused_by}
use Rattle.c0_rules.specs.Mentions.{argument_mentions}
use Rattle.c0_types_flow.proofs.mentioned.Refused.+expression.Given as goal

-- what is left decides
abbrev pub invariant-check_arguments-loop-argument : goal.invariant-check_arguments-loop-argument
invariant-check_arguments-loop-argument l =
    list_any (refused_by l.self) (argument_mentions (expressions_of (drop l.argument-index l.argument-items))) ≡ list_any (refused_by l.self) (argument_mentions (expressions_of l.argument-items))
