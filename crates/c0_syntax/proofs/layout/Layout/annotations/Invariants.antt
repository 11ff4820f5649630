use Rattle.std.proofs.Common.{◌≡◌, ◌++◌, map, drop}
use Rattle.c0_syntax.specs.Layouts.{layout_annotations}
use Rattle.c0_syntax.specs.Views.{annotation_of}
use Rattle.c0_syntax.proofs.layout.Layout.annotations.Given as goal

-- what is laid out, and what the other annotations will add
abbrev pub invariant-loop-annotation : goal.invariant-loop-annotation
invariant-loop-annotation l =
    l.self ++ layout_annotations l.level (map annotation_of (drop l.annotation-index l.annotations)) ≡ l.initial.self ++ layout_annotations l.level (map annotation_of l.annotations)
