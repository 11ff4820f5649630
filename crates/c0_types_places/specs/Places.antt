-- What is called as code holds it, and places of the heap by their parts.
use Rattle.std.specs.Prelude.{◌≡◌, ◌≢◌, ◌⊎◌, ℕ, true, false, Option, Some, None}
use Rattle.c0_source.specs.declared.fault.Fault.{Fault}
use Rattle.c0_source.specs.declared.fault.FaultKind.TheVariants as k
use Rattle.c0_source.specs.declared.fault.Span.{Span}
use Rattle.c0_typed.specs.Trees as y
use Rattle.c0_typed.specs.Views as v
use Rattle.c0_rules.specs.Types as t
use Rattle.c0_rules.specs.Expressions as x
use Rattle.c0_rules.specs.FaultExpressions.{Told, element_of, is_null}
use Rattle.c0_types_tables.specs.Views.{signature_of}
use Rattle.c0_types_places.specs.declared.names.Callee.{Callee}
use Rattle.c0_types_places.specs.declared.names.Callee.TheVariants as c

-- what is called
abbrev pub callee_of : Callee → x.Callee
callee_of (c.Output o) = x.ToOutput (v.output_of o)
callee_of (c.Function k f) = x.ToFunction k (signature_of f.now)

-- an array of elements of this type, of this length
abbrev pub array_of : t.Environment → t.ResolvedType → x.Typing → Option x.Typing
array_of env r length = t.and_so (x.as_wanted env t.IntType length) (λ n. Some (x.Has (t.ArrayOf r) (y.AllocArray (x.num env r) n)))

-- a field of a struct at a place, by its number and its type
abbrev pub field_place : t.Environment → t.Name → y.Place → ℕ × t.ResolvedType → x.Place
field_place env name q f = record { resolved = f.1; place = y.Field (t.number_in env.struct_names name) q f.0 }

-- an operand that has elements, of a type that is complete
abbrev pub HasElements : t.Environment → x.Typing → Type 0
HasElements env a = (r : t.ResolvedType) × (element_of a ≡ Some r) × (t.cells_of env.structs r ≢ None)

-- an operand that has no element, whatever the index is
abbrev pub ArrayCause : t.Environment → Fault → x.Typing → Span → Span → Type 0
ArrayCause env fault a here span =
    ((element_of a ≡ None) × Told k.TypeMismatch here fault) ⊎ ((r : t.ResolvedType) × (element_of a ≡ Some r) × (t.cells_of env.structs r ≡ None) × Told k.StructNotComplete span fault)

-- what is wrong with an operand that `*` or `->` is applied to
abbrev pub PointedCause : t.Environment → Fault → x.Typing → Span → Span → Type 0
PointedCause env fault operand here sign =
    ((is_null operand ≡ true) × Told k.NullDereference sign fault) ⊎ ((is_null operand ≡ false) × (x.pointed env operand ≡ None) × Told k.TypeMismatch here fault)
