use Rattle.c0_types_declarations.proofs.HeaderLists.{Watches}
use Rattle.c0_types_declarations.proofs.headers.check_distinct.Given as goal

-- the names so far, and what is left to look at
abbrev pub invariant-loop-item : goal.invariant-loop-item
invariant-loop-item l = Watches l.seen.keys l.item-index l.items
