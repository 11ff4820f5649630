-- What code holds, read as the definitions have it.
use Rattle.std.specs.Prelude.{ℕ, List, [], ◌∷◌, option_map, map}
use Rattle.std.specs.String.{string_bytes}
use Rattle.std.specs.BTreeMap.{get_by_text}
use Rattle.c0_typed.specs.Views.{Level, PointerLevel, ArrayLevel, levels_of}
use Rattle.c0_rules.specs.Types as t
use Rattle.c0_types_tables.specs.declared.environment.Environment.{Environment}
use Rattle.c0_types_tables.specs.declared.resolved.ResolvedPlain.{ResolvedPlain}
use Rattle.c0_types_tables.specs.declared.resolved.ResolvedPlain.TheVariants as p
use Rattle.c0_types_tables.specs.declared.resolved.ResolvedTarget.{ResolvedTarget}
use Rattle.c0_types_tables.specs.declared.resolved.ResolvedType.{ResolvedType}
use Rattle.c0_types_tables.specs.declared.resolved.ResolvedType.TheVariants as r
use Rattle.c0_types_tables.specs.declared.signatures.Functions.{Functions}
use Rattle.c0_types_tables.specs.declared.signatures.Signature.{Signature}
use Rattle.c0_types_tables.specs.declared.structs.FieldEntry.{FieldEntry}
use Rattle.c0_types_tables.specs.declared.structs.Fields.{Fields}
use Rattle.c0_types_tables.specs.declared.structs.StructEntry.{StructEntry}
use Rattle.c0_types_tables.specs.declared.structs.Structs.{Structs}
use Rattle.c0_types_tables.specs.declared.typedefs.Typedefs.{Typedefs}

-- a type that is neither a pointer nor an array
abbrev pub resolved_plain_of : ResolvedPlain → t.ResolvedType
resolved_plain_of p.Void = t.VoidType
resolved_plain_of p.Int = t.IntType
resolved_plain_of p.Bool = t.BoolType
resolved_plain_of p.Char = t.CharType
resolved_plain_of p.Text = t.StringType
resolved_plain_of (p.Struct x) = t.StructNamed (string_bytes x.value)

-- a type within pointers and arrays
abbrev pub resolved_within : List Level → t.ResolvedType → t.ResolvedType
resolved_within [] a = a
resolved_within (PointerLevel ∷ levels) a = t.PointerTo (resolved_within levels a)
resolved_within (ArrayLevel ∷ levels) a = t.ArrayOf (resolved_within levels a)

-- what a pointer points to, or an array holds
abbrev pub resolved_target_of : ResolvedTarget → t.ResolvedType
resolved_target_of x = resolved_within (levels_of x.levels.value) (resolved_plain_of x.innermost.value)

-- a type
abbrev pub resolved_of : ResolvedType → t.ResolvedType
resolved_of (r.Plain x) = resolved_plain_of x
resolved_of (r.Pointer x) = t.PointerTo (resolved_target_of x)
resolved_of (r.Array x) = t.ArrayOf (resolved_target_of x)

-- what each typedef stands for
abbrev pub typedefs_of : Typedefs → t.Table t.ResolvedType
typedefs_of x n = option_map resolved_of (get_by_text x.types n)

-- a field
abbrev pub field_entry_of : FieldEntry → ℕ × t.ResolvedType
field_entry_of f = (f.number, resolved_of f.resolved)

-- the fields of a struct
abbrev pub field_table_of : Fields → t.Table (ℕ × t.ResolvedType)
field_table_of x n = option_map field_entry_of (get_by_text x.entries n)

-- a struct
abbrev pub struct_entry_of : StructEntry → t.StructEntry
struct_entry_of d = record { fields = field_table_of d.fields; cells = d.cells }

-- the structs that are defined
abbrev pub structs_of : Structs → t.Table t.StructEntry
structs_of x n = option_map struct_entry_of (get_by_text x.entries n)

-- a function that is declared
abbrev pub signature_of : Signature → t.Signature
signature_of f = record { name = string_bytes f.name; result = resolved_of f.result; parameters = map resolved_of f.parameters.items; defined = f.defined }

-- the functions that are declared
abbrev pub functions_of : Functions → t.Table t.Signature
functions_of x n = option_map signature_of (get_by_text x.entries n)

-- what is declared before a place
abbrev pub environment_of : Environment → t.Environment
environment_of x = record {
  conio = x.conio;
  struct_names = x.struct_names;
  function_names = x.function_names;
  typedefs = typedefs_of x.typedefs;
  structs = structs_of x.structs;
  functions = functions_of x.functions;
}
