use Rattle.std.proofs.Common.{◌≡◌, ◌++◌, map, drop}
use Rattle.std.specs.Prelude.{filter_map}
use Rattle.c0_syntax.specs.Views.{spec_of}
use Rattle.c0_rules.specs.Mentions.{text_of, spec_mentions}
use Rattle.c0_types_flow.proofs.mentioned.texts.Texts.specs.Given as goal

-- the texts so far, and those that the rest will add
abbrev pub invariant-loop-spec : goal.invariant-loop-spec
invariant-loop-spec l = l.self ++ filter_map text_of (spec_mentions (map spec_of (drop l.spec-index l.specs))) ≡ l.initial.self ++ filter_map text_of (spec_mentions (map spec_of l.specs))
