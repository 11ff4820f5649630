use Rattle.std.proofs.Common.{◌≡◌, ◌++◌, map, drop}
use Rattle.std.specs.Prelude.{filter_map}
use Rattle.c0_syntax.specs.Views.{declaration_of}
use Rattle.c0_rules.specs.Mentions.{text_of, program_mentions}
use Rattle.c0_types_flow.proofs.mentioned.texts.Texts.declarations.Given as goal

-- the texts so far, and those that the rest will add
abbrev pub invariant-loop-declaration : goal.invariant-loop-declaration
invariant-loop-declaration l = l.self ++ filter_map text_of (program_mentions (map declaration_of (drop l.declaration-index l.declarations))) ≡ l.initial.self ++ filter_map text_of (program_mentions (map declaration_of l.declarations))
