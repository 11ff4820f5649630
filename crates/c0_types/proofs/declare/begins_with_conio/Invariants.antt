use Rattle.std.proofs.Common.{◌≡◌, drop, map}
use Rattle.c0_syntax.specs.Views.{declaration_of}
use Rattle.c0_rules.specs.Programs.{begins_with_conio}
use Rattle.c0_types.proofs.declare.begins_with_conio.Given as goal

-- what is left decides
abbrev pub invariant-loop-declaration : goal.invariant-loop-declaration
invariant-loop-declaration l = begins_with_conio (map declaration_of (drop l.declaration-index l.declarations)) ≡ begins_with_conio (map declaration_of l.declarations)
