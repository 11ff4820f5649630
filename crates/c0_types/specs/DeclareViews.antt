-- What code holds of declarations, and what it answers, read as the definitions have it.
use Rattle.std.specs.Prelude.{◌≡◌, ◌⊎◌, Bool, true, false, ◌||◌, List, Option, Some, None, map}
use Rattle.c0_source.specs.declared.fault.Fault.{Fault}
use Rattle.c0_syntax.specs.Trees.{Declaration, UseLibrary}
use Rattle.c0_syntax.specs.Views.{header_of}
use Rattle.c0_syntax.specs.declared.program.Header.{Header}
use Rattle.c0_syntax.specs.declared.statement.Statement.{Statement}
use Rattle.c0_typed.specs.Views.{struct_of, function_of}
use Rattle.c0_rules.specs.FaultPrograms.{InFunction, InHeader}
use Rattle.c0_rules.specs.Programs.{Elaboration, is_conio, signature, with_function}
use Rattle.c0_rules.specs.Types.{Name, Environment, Signature}
use Rattle.c0_types_tables.specs.Views.{environment_of}
use Rattle.c0_types.specs.declared.declare.Elaborated.{Elaborated}

-- whether a `#use` names conio; none of any other declaration
abbrev pub use_of_conio : Declaration → Option Bool
use_of_conio (UseLibrary in_brackets n) = Some (is_conio in_brackets n)
use_of_conio _ = None

-- whether conio is in use where this declaration is a `#use` of it, or is a `#use` before others that have it in use
abbrev pub in_use_by : Option Bool → Bool → Bool
in_use_by None others = false
in_use_by (Some used) others = used || others

-- what stands before a declaration, over the texts of the program
abbrev pub elaboration_of : List Name → Elaborated → Elaboration
elaboration_of texts x = record {
  environment = environment_of x.environment;
  begun = x.begun;
  structs = map struct_of x.structs.items;
  functions = map (function_of texts) x.functions.items;
}

-- what is wrong with a function that is defined
abbrev pub InDefinition : Environment → Fault → Header → List Statement → Type 0
InDefinition env fault h body =
    InHeader fault env true h ⊎ ((f : Signature) × (signature env true (header_of h) ≡ Some f) × InFunction fault (with_function f env) f h body)
