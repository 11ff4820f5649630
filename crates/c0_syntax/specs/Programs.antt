-- Declarations and whole programs: which tokens they read from.
use Rattle.std.specs.Prelude.{◌≡◌, ℕ, suc, ◌+◌, ◌≤◌, max, Bool, false, List, [], ◌∷◌, length}
use Rattle.c0_source.specs.declared.kind.Kind.TheVariants as k
use Rattle.c0_source.specs.Terminals.{Terminal, Word, Use, Sign}
use Rattle.c0_syntax.specs.Trees.{TypedName, Header, Declaration, UseLibrary, DeclareStruct, DefineStruct, Typedef, DeclareFunction, DefineFunction, Program}
use Rattle.c0_syntax.specs.Expressions.{is_type_name, emit_type, FormedType, height_type}
use Rattle.c0_syntax.specs.Statements.{emit_annotations, FormedAnnotations, height_annotations, emit_statements, FormedStatements, height_statements, locals_statements}

-- a type and a name
abbrev pub emit_typed_name : TypedName → List Terminal → List Terminal
emit_typed_name x rest = emit_type x.value_type (Word x.name ∷ rest)

-- fields, a semicolon behind each, and the closing brace
abbrev pub emit_fields : List TypedName → List Terminal → List Terminal
emit_fields [] rest = Sign k.RBrace ∷ rest
emit_fields (x ∷ xs) rest = emit_typed_name x (Sign k.Semi ∷ emit_fields xs rest)

-- ... behind the first of them
abbrev pub emit_more_parameters : List TypedName → List Terminal → List Terminal
emit_more_parameters [] rest = Sign k.RParen ∷ rest
emit_more_parameters (x ∷ xs) rest = Sign k.Comma ∷ emit_typed_name x (emit_more_parameters xs rest)

-- parameters with commas between them, and the closing parenthesis
abbrev pub emit_parameters : List TypedName → List Terminal → List Terminal
emit_parameters [] rest = Sign k.RParen ∷ rest
emit_parameters (x ∷ xs) rest = emit_typed_name x (emit_more_parameters xs rest)

-- a function up to its body
abbrev pub emit_header : Header → List Terminal → List Terminal
emit_header h rest = emit_type h.result (Word h.name ∷ Sign k.LParen ∷ emit_parameters h.parameters (emit_annotations h.annotations rest))

-- the tokens of a declaration, and after them `rest`
abbrev pub emit_declaration : Declaration → List Terminal → List Terminal
emit_declaration (UseLibrary angle x) rest = Use angle x ∷ rest
emit_declaration (DeclareStruct x) rest = Sign k.Struct ∷ Word x ∷ Sign k.Semi ∷ rest
emit_declaration (DefineStruct x fs) rest = Sign k.Struct ∷ Word x ∷ Sign k.LBrace ∷ emit_fields fs (Sign k.Semi ∷ rest)
emit_declaration (Typedef t x) rest = Sign k.Typedef ∷ emit_type t (Word x ∷ Sign k.Semi ∷ rest)
emit_declaration (DeclareFunction h) rest = emit_header h (Sign k.Semi ∷ rest)
emit_declaration (DefineFunction h body) rest = emit_header h (Sign k.LBrace ∷ emit_statements body rest)

-- the tokens of a program
abbrev pub emit_program : Program → List Terminal
emit_program [] = []
emit_program (d ∷ ds) = emit_declaration d (emit_program ds)

-- the fields' types are formed; a field may have the name of a type
abbrev pub FormedFields : List (List ℕ) → List TypedName → Type 0
FormedFields types [] = Unit {0}
FormedFields types (x ∷ xs) = FormedType types x.value_type × FormedFields types xs

-- the parameters' types are formed, and no parameter has the name of a type
abbrev pub FormedParameters : List (List ℕ) → List TypedName → Type 0
FormedParameters types [] = Unit {0}
FormedParameters types (x ∷ xs) = FormedType types x.value_type × (is_type_name types x.name ≡ false) × FormedParameters types xs

-- all of the header is formed, and the function has no name of a type
abbrev pub FormedHeader : List (List ℕ) → Header → Type 0
FormedHeader types h = FormedType types h.result × (is_type_name types h.name ≡ false) × FormedParameters types h.parameters × FormedAnnotations types h.annotations

-- all of the declaration is formed; a struct may have the name of a type
abbrev pub FormedDeclaration : List (List ℕ) → Bool → Declaration → Type 0
FormedDeclaration types loops (UseLibrary angle x) = Unit {0}
FormedDeclaration types loops (DeclareStruct x) = Unit {0}
FormedDeclaration types loops (DefineStruct x fs) = FormedFields types fs
FormedDeclaration types loops (Typedef t x) = FormedType types t × (is_type_name types x ≡ false)
FormedDeclaration types loops (DeclareFunction h) = FormedHeader types h
FormedDeclaration types loops (DefineFunction h body) = FormedHeader types h × FormedStatements types loops body

-- the names of types behind a declaration
abbrev pub type_names_after : List (List ℕ) → Declaration → List (List ℕ)
type_names_after types (Typedef t x) = x ∷ types
type_names_after types _ = types

-- each declaration is formed, where the names of types are those of the declarations before it
abbrev pub FormedProgram : List (List ℕ) → Bool → Program → Type 0
FormedProgram types loops [] = Unit {0}
FormedProgram types loops (d ∷ ds) = FormedDeclaration types loops d × FormedProgram (type_names_after types d) loops ds

-- how many nodes are on the longest path of the types
abbrev pub height_typed_names : List TypedName → ℕ
height_typed_names [] = 0
height_typed_names (x ∷ xs) = max (height_type x.value_type) (height_typed_names xs)

-- ... of a header, which is no node
abbrev pub height_header : Header → ℕ
height_header h = max (height_type h.result) (max (height_typed_names h.parameters) (height_annotations h.annotations))

-- ... of a declaration
abbrev pub height_declaration : Declaration → ℕ
height_declaration (UseLibrary angle x) = 1
height_declaration (DeclareStruct x) = 1
height_declaration (DefineStruct x fs) = suc (height_typed_names fs)
height_declaration (Typedef t x) = suc (height_type t)
height_declaration (DeclareFunction h) = suc (height_header h)
height_declaration (DefineFunction h body) = suc (max (height_header h) (height_statements body))

-- a defined function's locals with its parameters
abbrev pub locals_declaration : Declaration → ℕ
locals_declaration (DefineFunction h body) = length h.parameters + locals_statements body
locals_declaration _ = 0

-- how many functions it defines
abbrev pub defined_by : Declaration → ℕ
defined_by (DefineFunction h body) = 1
defined_by _ = 0

-- ... all of these
abbrev pub defined_functions : Program → ℕ
defined_functions [] = 0
defined_functions (d ∷ ds) = defined_by d + defined_functions ds

-- at most 200 nodes on a path, at most 1024 locals with parameters in a function
abbrev pub WithinLimits : Program → Type 0
WithinLimits [] = Unit {0}
WithinLimits (d ∷ ds) = (height_declaration d ≤ 200) × (locals_declaration d ≤ 1024) × WithinLimits ds

-- These tokens, all of them, read as this program; `loops`: whether there are `break` and `continue`.
pub record Reads (loops : Bool) (ts : List Terminal) (program : Program) : Type 0 where
  pub spelled : ts ≡ emit_program program
  pub formed : FormedProgram [] loops program
  pub within : WithinLimits program
  pub few : defined_functions program ≤ 4096
