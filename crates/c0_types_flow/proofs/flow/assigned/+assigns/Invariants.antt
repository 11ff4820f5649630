use Rattle.std.proofs.Common.{◌≡◌, drop}
use Rattle.c0_syntax.specs.Views.{statements_of}
use Rattle.c0_rules.specs.Mentions.{statements_assign}
use Rattle.c0_rules.specs.Types.{is_among}
use Rattle.c0_types_flow.proofs.flow.assigned.+assigns.Given as goal

-- what is left decides
abbrev pub invariant-assigns-loop-statement : goal.invariant-assigns-loop-statement
invariant-assigns-loop-statement l = is_among l.name (statements_assign (statements_of (drop l.statement-index l.body))) ≡ is_among l.name (statements_assign (statements_of l.body))
