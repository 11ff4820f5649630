use Rattle.std.proofs.Common.{◌≡◌, ◌++◌, drop}
use Rattle.std.specs.Prelude.{filter_map}
use Rattle.c0_syntax.specs.Views.{statements_of}
use Rattle.c0_rules.specs.Mentions.{text_of, statements_mentions}
use Rattle.c0_types_flow.proofs.mentioned.texts.Texts.+statement.Given as goal

-- the texts so far, and those that the rest will add
abbrev pub invariant-statements-loop-statement : goal.invariant-statements-loop-statement
invariant-statements-loop-statement l = l.self ++ filter_map text_of (statements_mentions (statements_of (drop l.statement-index l.statements))) ≡ l.initial.self ++ filter_map text_of (statements_mentions (statements_of l.statements))
