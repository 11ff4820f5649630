-- Declarations and whole programs, read from left to right.
use Rattle.std.specs.Prelude.{ℕ, zero, suc, ◌-◌, Bool, false, List, [], ◌∷◌, length, Option, Some, None, Ok, Err}
use Rattle.c0_source.specs.declared.kind.Kind.{Kind}
use Rattle.c0_source.specs.declared.kind.Kind.TheVariants as k
use Rattle.c0_source.specs.Terminals.{Terminal, Use}
use Rattle.c0_syntax.specs.Trees.{TypedName, Header, Declaration, UseLibrary, DeclareStruct, DefineStruct, Typedef, DeclareFunction, DefineFunction, Program}
use Rattle.c0_syntax.specs.Programs.{type_names_after}
use Rattle.c0_grammar_laws.specs.declared.read_error.ReadError.TheVariants.{TooLarge}
use Rattle.c0_grammar_laws.specs.Outcome.{Outcome, ◌>>=◌, Read, refuse, plain_at, bytes_at, next, lparen, semi, any_name, new_name}
use Rattle.c0_grammar_laws.specs.ReadExpressions.{ReadType, read_type}
use Rattle.c0_grammar_laws.specs.ReadStatements.{read_annotations, read_body}

-- ---- fields and parameters

-- fields, by the kind of the next token: a closing brace ends them
abbrev pub fields_by : List (List ℕ) → ℕ → (List Terminal → Outcome (Read (List TypedName))) → Kind → List Terminal → Outcome (Read (List TypedName))
fields_by types d go_on k.RBrace ts = Ok (record { value = []; rest = next ts })
fields_by types d go_on _ ts =
    read_type types d ts >>= λ t. any_name t.rest >>= λ x. semi x.rest >>= λ us. go_on us
    >>= λ xs. Ok (record { value = record { value_type = t.value_type; name = x.value } ∷ xs.value; rest = xs.rest })

-- fields and the closing brace
unfoldable pub read_fields : List (List ℕ) → ℕ → ℕ → List Terminal → Outcome (Read (List TypedName))
read_fields types d zero ts = refuse ts
read_fields types d (suc n) ts = fields_by types d (read_fields types d n) (plain_at ts) ts

-- Parameters, and where the one stands that is the first too many for a definition: how many tokens stand from its name on, or none.
pub record ReadParameters : Type 0 where
  pub parameters : List TypedName
  pub over : Option ℕ
  pub rest : List Terminal

-- where the first parameter stands that is too many, by how many more there may be
abbrev pub over_by : ℕ → ℕ → Option ℕ → Option ℕ
over_by zero at later = Some at
over_by (suc room) at later = later

-- one more parameter, before the others
abbrev pub add_parameter : ℕ → ReadType → Read (List ℕ) → ReadParameters → ReadParameters
add_parameter room t x xs = record { parameters = record { value_type = t.value_type; name = x.value } ∷ xs.parameters; over = over_by room (length t.rest) xs.over; rest = xs.rest }

-- one less, and none of none
abbrev pub less : ℕ → ℕ
less zero = 0
less (suc n) = n

-- what stands behind a parameter, by its kind
abbrev pub after_parameter : (List Terminal → Outcome ReadParameters) → Kind → List Terminal → Outcome ReadParameters
after_parameter others k.Comma ts = others (next ts)
after_parameter others k.RParen ts = Ok (record { parameters = []; over = None; rest = next ts })
after_parameter others _ ts = refuse ts

-- one parameter or more and the closing parenthesis
unfoldable pub read_parameters : List (List ℕ) → ℕ → ℕ → ℕ → List Terminal → Outcome ReadParameters
read_parameters types d room zero ts = refuse ts
read_parameters types d room (suc n) ts =
    read_type types d ts >>= λ t. new_name types t.rest >>= λ x. after_parameter (read_parameters types d (less room) n) (plain_at x.rest) x.rest >>= λ xs. Ok (add_parameter room t x xs)

-- parameters, by the kind of the token behind `(`
abbrev pub parameters_by : List (List ℕ) → ℕ → Kind → List Terminal → Outcome ReadParameters
parameters_by types d k.RParen ts = Ok (record { parameters = []; over = None; rest = next ts })
parameters_by types d _ ts = read_parameters types d 1024 (length ts) ts

-- ---- declarations

-- a declaration, how many more functions may be defined, and the tokens after it
pub record ReadDeclaration : Type 0 where
  pub declaration : Declaration
  pub room : ℕ
  pub rest : List Terminal

-- no parameter is too many
abbrev pub small : Option ℕ → Outcome ℕ
small None = Ok 0
small (Some at) = Err (TooLarge at)

-- behind a header from whose name on `at` tokens stand
abbrev pub end_by : List (List ℕ) → Bool → ℕ → ℕ → ℕ → Option ℕ → Kind → Header → List Terminal → Outcome ReadDeclaration
end_by types loops d room at over k.Semi h ts = Ok (record { declaration = DeclareFunction h; room = room; rest = next ts })
end_by types loops d zero at over k.LBrace h ts = Err (TooLarge at)
end_by types loops d (suc room) at over k.LBrace h ts =
    small over >>= λ _. read_body types loops d (1024 - length h.parameters) (next ts) >>= λ body. Ok (record { declaration = DefineFunction h body.value; room = room; rest = body.rest })
end_by types loops d room at over _ h ts = refuse ts

-- a header, how many tokens stand from its name on, and from the name of a parameter that is too many
pub record ReadHeader : Type 0 where
  pub header : Header
  pub at : ℕ
  pub over : Option ℕ
  pub rest : List Terminal

-- a function up to its body
unfoldable pub read_header : List (List ℕ) → ℕ → List Terminal → Outcome ReadHeader
read_header types d ts =
    read_type types d ts >>= λ t. new_name types t.rest >>= λ x. lparen x.rest >>= λ us. parameters_by types d (plain_at us) us
    >>= λ ps. read_annotations types d (suc (length ps.rest)) ps.rest
    >>= λ ns. Ok (record { header = record { result = t.value_type; name = x.value; parameters = ps.parameters; annotations = ns.value }; at = length t.rest; over = ps.over; rest = ns.rest })

-- a function, declared or defined
unfoldable pub function : List (List ℕ) → Bool → ℕ → ℕ → List Terminal → Outcome ReadDeclaration
function types loops d room ts = read_header types d ts >>= λ h. end_by types loops d room h.at h.over (plain_at h.rest) h.header h.rest

-- behind `struct` and a name
abbrev pub struct_by : List (List ℕ) → Bool → ℕ → ℕ → Kind → List Terminal → Outcome ReadDeclaration
struct_by types loops d room k.Semi ts = Ok (record { declaration = DeclareStruct (bytes_at (next ts)); room = room; rest = next (next (next ts)) })
struct_by types loops d room k.LBrace ts =
    read_fields types d (length ts) (next (next (next ts))) >>= λ fs. semi fs.rest >>= λ rest. Ok (record { declaration = DefineStruct (bytes_at (next ts)) fs.value; room = room; rest = rest })
struct_by types loops d room _ ts = function types loops d room ts

-- ... where what stands behind `struct` is a name
abbrev pub struct_of : List (List ℕ) → Bool → ℕ → ℕ → Kind → List Terminal → Outcome ReadDeclaration
struct_of types loops d room k.Name ts = struct_by types loops d room (plain_at (next (next ts))) ts
struct_of types loops d room _ ts = refuse (next ts)

-- what a `#use` declares
abbrev pub use_of : List Terminal → Declaration
use_of (Use angle x ∷ ts) = UseLibrary angle x
use_of _ = UseLibrary false []

-- a declaration, by the kind of its first token
abbrev pub declaration_by : List (List ℕ) → Bool → ℕ → ℕ → Kind → List Terminal → Outcome ReadDeclaration
declaration_by types loops d room k.Use ts = Ok (record { declaration = use_of ts; room = room; rest = next ts })
declaration_by types loops d room k.Struct ts = struct_of types loops d room (plain_at (next ts)) ts
declaration_by types loops d room k.Typedef ts =
    read_type types d (next ts) >>= λ t. new_name types t.rest >>= λ x. semi x.rest >>= λ rest. Ok (record { declaration = Typedef t.value_type x.value; room = room; rest = rest })
declaration_by types loops d room _ ts = function types loops d room ts

-- a declaration of at most 200 nodes on a path
abbrev pub read_declaration : List (List ℕ) → Bool → ℕ → List Terminal → Outcome ReadDeclaration
read_declaration types loops room ts = declaration_by types loops 199 room (plain_at ts) ts

-- ---- programs

-- declarations up to the end of the tokens, where so many more functions may be defined
unfoldable pub read_declarations : List (List ℕ) → Bool → ℕ → ℕ → List Terminal → Outcome Program
read_declarations types loops n room [] = Ok []
read_declarations types loops zero room (t ∷ ts) = refuse (t ∷ ts)
read_declarations types loops (suc n) room (t ∷ ts) =
    read_declaration types loops room (t ∷ ts) >>= λ d. read_declarations (type_names_after types d.declaration) loops n d.room d.rest >>= λ ds. Ok (d.declaration ∷ ds)

-- a program, all of the tokens
unfoldable pub read_program : Bool → List Terminal → Outcome Program
read_program loops ts = read_declarations [] loops (length ts) 4096 ts
