use Rattle.std.proofs.Common.{◌≡◌, drop}
use Rattle.std.specs.List.{list_any}
use Rattle.c0_syntax.specs.Views.{statements_of}
use Rattle.c0_types_flow.specs.FlowViews.{refused_by}
use Rattle.c0_rules.specs.Mentions.{statements_mentions}
use Rattle.c0_types_flow.proofs.mentioned.Refused.+statement.Given as goal

-- what is left decides
abbrev pub invariant-check_body-loop-statement : goal.invariant-check_body-loop-statement
invariant-check_body-loop-statement l =
    list_any (refused_by l.self) (statements_mentions (statements_of (drop l.statement-index l.body))) ≡ list_any (refused_by l.self) (statements_mentions (statements_of l.body))
