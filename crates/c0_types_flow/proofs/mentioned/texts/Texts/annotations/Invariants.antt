use Rattle.std.proofs.Common.{◌≡◌, ◌++◌, map, drop}
use Rattle.std.specs.Prelude.{filter_map}
use Rattle.c0_syntax.specs.Views.{annotation_of}
use Rattle.c0_rules.specs.Mentions.{text_of, spec_mentions, specs_in}
use Rattle.c0_types_flow.proofs.mentioned.texts.Texts.annotations.Given as goal

-- the texts so far, and those that the rest will add
abbrev pub invariant-loop-annotation : goal.invariant-loop-annotation
invariant-loop-annotation l = l.self ++ filter_map text_of (spec_mentions (specs_in (map annotation_of (drop l.annotation-index l.annotations)))) ≡ l.initial.self ++ filter_map text_of (spec_mentions (specs_in (map annotation_of l.annotations)))
