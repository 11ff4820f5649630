-- Types with their typedefs replaced, and what a program has declared before a place in it.
use Rattle.std.specs.Prelude.{ℕ, suc, nat_lt, cond, Bool, true, false, ◌&&◌, not, List, [], ◌∷◌, Option, Some, None, find, option_map, bytes_eq, codes}
use Rattle.std.specs.List.{list_all, list_any}
use Rattle.c0_source.specs.declared.kind.Base.{Base}
use Rattle.c0_source.specs.declared.kind.Base.TheVariants as b
use Rattle.c0_syntax.specs.Trees.{ValueType, Basic, StructType, NamedType, Pointer, Array}
use Rattle.c0_typed.specs.Trees as t

-- ---- rules in a row

-- goes on with what there is
abbrev pub and_so : {A B : Type 0} → Option A → (A → Option B) → Option B
and_so None go = None
and_so (Some a) go = go a

-- what there is, where the rule holds
abbrev pub provided : {A : Type 0} → Bool → Option A → Option A
provided true o = o
provided false o = None

-- ---- names

-- a name, by its letters
abbrev pub Name : Type 0
Name = List ℕ

-- whether a name is one of these
abbrev pub is_among : Name → List Name → Bool
is_among n names = list_any (bytes_eq n) names

-- whether one of the names is one of the others
abbrev pub any_among : List Name → List Name → Bool
any_among names others = list_any (λ n. is_among n others) names

-- whether no name stands twice
abbrev pub are_distinct : List Name → Bool
are_distinct [] = true
are_distinct (n ∷ names) = not (is_among n names) && are_distinct names

-- the number of a name in a list, from 0; the list's length where it is not there
abbrev pub number_in : List Name → Name → ℕ
number_in [] n = 0
number_in (m ∷ names) n = elim (bytes_eq n m) [ true ↦ 0 | false ↦ suc (number_in names n) ]

-- what each name stands for, where it stands for something
abbrev pub Table : Type 0 → Type 0
Table A = Name → Option A

-- no name stands for anything
abbrev pub no_names : {A : Type 0} → Table A
no_names n = None

-- a name stands for this from now on
abbrev pub with_name : {A : Type 0} → Name → A → Table A → Table A
with_name n a table m = cond (bytes_eq m n) (Some a) (table m)

-- ---- types

-- a type in which no name of a typedef is left; a struct is known by its name
pub data ResolvedType : Type 0 where
  VoidType : ResolvedType
  IntType : ResolvedType
  BoolType : ResolvedType
  CharType : ResolvedType
  StringType : ResolvedType
  StructNamed : Name → ResolvedType
  PointerTo : ResolvedType → ResolvedType
  ArrayOf : ResolvedType → ResolvedType

-- equality of types; structs are equal by name
abbrev pub same_type : ResolvedType → ResolvedType → Bool
same_type VoidType VoidType = true
same_type IntType IntType = true
same_type BoolType BoolType = true
same_type CharType CharType = true
same_type StringType StringType = true
same_type (StructNamed n) (StructNamed m) = bytes_eq n m
same_type (PointerTo a) (PointerTo c) = same_type a c
same_type (ArrayOf a) (ArrayOf c) = same_type a c
same_type _ _ = false

-- the same, one by one
abbrev pub same_types : List ResolvedType → List ResolvedType → Bool
same_types [] [] = true
same_types (a ∷ rest) (c ∷ others) = same_type a c && same_types rest others
same_types _ _ = false

-- a type with a keyword of its own, but for `void`
abbrev pub base_type : Base → Option ResolvedType
base_type b.Int = Some IntType
base_type b.Bool = Some BoolType
base_type b.Char = Some CharType
base_type b.String = Some StringType
base_type b.Void = None

-- a type with its typedefs replaced, where `void` is no part of it
abbrev pub resolved_type : Table ResolvedType → ValueType → Option ResolvedType
resolved_type typedefs (Basic base) = base_type base
resolved_type typedefs (StructType n) = Some (StructNamed n)
resolved_type typedefs (NamedType n) = typedefs n
resolved_type typedefs (Pointer a) = option_map PointerTo (resolved_type typedefs a)
resolved_type typedefs (Array a) = option_map ArrayOf (resolved_type typedefs a)

-- a small type: one of locals, parameters and values
abbrev pub is_small : ResolvedType → Bool
is_small VoidType = false
is_small (StructNamed n) = false
is_small _ = true

-- the type of a local or a parameter
abbrev pub small_type : Table ResolvedType → ValueType → Option ResolvedType
small_type typedefs a = and_so (resolved_type typedefs a) (λ r. provided (is_small r) (Some r))

-- the type of a result: `void`, or a small one
abbrev pub result_type : Table ResolvedType → ValueType → Option ResolvedType
result_type typedefs (Basic b.Void) = Some VoidType
result_type typedefs a = small_type typedefs a

-- ---- what is declared

-- a field of a struct
pub record FieldEntry : Type 0 where
  pub name : Name
  pub resolved : ResolvedType

-- a struct that is defined: the number and the type of each field by its name, and how many cells it has
pub record StructEntry : Type 0 where
  pub fields : Table (ℕ × ResolvedType)
  pub cells : ℕ

-- a function that is declared, and whether it has been defined, too
pub record Signature : Type 0 where
  pub name : Name
  pub result : ResolvedType
  pub parameters : List ResolvedType
  pub defined : Bool

-- What is declared before a place in a program. Whether the program uses conio, and the names of
-- all structs and functions that it defines anywhere, in order, are known from its beginning.
pub record Environment : Type 0 where
  pub conio : Bool
  pub struct_names : List Name
  pub function_names : List Name
  pub typedefs : Table ResolvedType
  pub structs : Table StructEntry
  pub functions : Table Signature

-- a field with its number, counted from k
abbrev pub field_of : ℕ → List FieldEntry → Name → Option (ℕ × ResolvedType)
field_of k [] n = None
field_of k (f ∷ fields) n = elim (bytes_eq n f.name) [ true ↦ Some (k, f.resolved) | false ↦ field_of (suc k) fields n ]

-- The type in a typed tree: structs by their numbers. All structs that the program never defines share one number.
abbrev pub numbered : List Name → ResolvedType → t.Ty
numbered names VoidType = t.VoidTy
numbered names IntType = t.IntTy
numbered names BoolType = t.BoolTy
numbered names CharType = t.CharTy
numbered names StringType = t.TextTy
numbered names (StructNamed n) = t.StructTy (number_in names n)
numbered names (PointerTo a) = t.PointerTy (numbered names a)
numbered names (ArrayOf a) = t.ArrayTy (numbered names a)

-- the cells of a type that memory can hold here: a struct must have been defined before
abbrev pub cells_of : Table StructEntry → ResolvedType → Option ℕ
cells_of structs VoidType = None
cells_of structs (StructNamed n) = option_map (λ d. d.cells) (structs n)
cells_of structs _ = Some 1

-- ---- output calls

-- an output call, by its name
pub record OutputEntry : Type 0 where
  pub name : Name
  pub output : t.Output

-- the output calls of conio
abbrev pub outputs : List OutputEntry
outputs =
    record { name = codes "print"; output = t.Print }
    ∷ record { name = codes "println"; output = t.Println }
    ∷ record { name = codes "printint"; output = t.Printint }
    ∷ record { name = codes "printbool"; output = t.Printbool }
    ∷ record { name = codes "printchar"; output = t.Printchar }
    ∷ record { name = codes "flush"; output = t.Flush }
    ∷ []

-- what an output call takes
abbrev pub output_takes : t.Output → List ResolvedType
output_takes t.Print = StringType ∷ []
output_takes t.Println = StringType ∷ []
output_takes t.Printint = IntType ∷ []
output_takes t.Printbool = BoolType ∷ []
output_takes t.Printchar = CharType ∷ []
output_takes t.Flush = []

-- the output call of a name, where conio is in use
abbrev pub output_named : Bool → Name → Option t.Output
output_named conio n = provided conio (option_map (λ o. o.output) (find (λ o. bytes_eq n o.name) outputs))

-- ---- texts

-- whether a text is of ASCII
abbrev pub is_ascii : List ℕ → Bool
is_ascii text = list_all (λ b. nat_lt b 128) text
