use Rattle.std.proofs.Common.{◌≡◌, map, drop}
use Rattle.std.specs.List.{list_any}
use Rattle.c0_syntax.specs.Views.{declaration_of}
use Rattle.c0_types_flow.specs.FlowViews.{refused_by}
use Rattle.c0_rules.specs.Mentions.{program_mentions}
use Rattle.c0_types_flow.proofs.mentioned.Refused.check_declarations.Given as goal

-- what is left decides
abbrev pub invariant-loop-declaration : goal.invariant-loop-declaration
invariant-loop-declaration l =
    list_any (refused_by l.self) (program_mentions (map declaration_of (drop l.declaration-index l.declarations))) ≡ list_any (refused_by l.self) (program_mentions (map declaration_of l.declarations))
