use Rattle.std.proofs.Common.{◌≡◌, ◌++◌, drop, map}
use Rattle.c0_syntax.specs.Views.{declaration_of}
use Rattle.c0_rules.specs.Programs.{struct_names_of}
use Rattle.c0_types.proofs.declare.struct_names.Given as goal

-- the names so far, and those of what is left
abbrev pub invariant-loop-declaration : goal.invariant-loop-declaration
invariant-loop-declaration l = l.names ++ struct_names_of (map declaration_of (drop l.declaration-index l.declarations)) ≡ struct_names_of (map declaration_of l.declarations)
