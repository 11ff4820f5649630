use Rattle.std.proofs.Common.{◌≡◌, ◌++◌, drop}
use Rattle.std.specs.Prelude.{filter_map}
use Rattle.c0_syntax.specs.Views.{expressions_of}
use Rattle.c0_rules.specs.Mentions.{text_of, argument_mentions}
use Rattle.c0_types_flow.proofs.mentioned.texts.Texts.+expression.Given as goal

-- the texts so far, and those that the rest will add
abbrev pub invariant-arguments-loop-argument : goal.invariant-arguments-loop-argument
invariant-arguments-loop-argument l = l.self ++ filter_map text_of (argument_mentions (expressions_of (drop l.argument-index l.argument-items))) ≡ l.initial.self ++ filter_map text_of (argument_mentions (expressions_of l.argument-items))
