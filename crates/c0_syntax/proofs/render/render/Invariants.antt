use Rattle.std.proofs.Common.{◌≡◌, ◌++◌, map, drop}
use Rattle.std.specs.String.{string_bytes}
use Rattle.c0_syntax.specs.Marks.{mark_of}
use Rattle.c0_syntax.specs.Printing.{rendered}
use Rattle.c0_syntax.proofs.render.render.Given as goal

-- what is written, and what the other tokens will add
abbrev pub invariant-loop-mark : goal.invariant-loop-mark
invariant-loop-mark l = string_bytes l.text ++ rendered l.before (map mark_of (drop l.mark-index l.marks)) ≡ rendered 0 (map mark_of l.marks)
