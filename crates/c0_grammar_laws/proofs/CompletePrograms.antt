-- What reads as a program is read as it.
use Rattle.std.proofs.Common.{◌≡◌, ℕ, zero, suc, ◌+◌, ◌-◌, ◌<◌, ◌≤◌, max, Bool, false, List, [], ◌∷◌, length, Option, None, Ok, refl, ap, ◌∙◌, arith}
use Rattle.c0_source.specs.declared.kind.Kind.{Kind}
use Rattle.c0_source.specs.declared.kind.Kind.TheVariants as k
use Rattle.c0_source.specs.declared.kind.Operator.TheVariants as o
use Rattle.c0_source.specs.Terminals.{Terminal, Word, Sign}
use Rattle.c0_syntax.specs.Trees.{ValueType, Basic, StructType, NamedType, Pointer, Array, Statements, TypedName, Header, Declaration, UseLibrary, DeclareStruct, DefineStruct, Typedef, DeclareFunction, DefineFunction, Program}
use Rattle.c0_syntax.specs.Expressions.{is_type_name, emit_type, FormedType, height_type}
use Rattle.c0_syntax.specs.Statements.{emit_annotations, emit_statements, FormedStatements, height_statements, locals_statements}
use Rattle.c0_syntax.specs.Programs.{emit_typed_name, emit_fields, emit_more_parameters, emit_parameters, emit_header, emit_declaration, emit_program, FormedFields, FormedParameters, FormedHeader, FormedDeclaration, type_names_after, FormedProgram, height_typed_names, height_header, height_declaration, locals_declaration, defined_by, defined_functions, WithinLimits, Reads}
use Rattle.c0_grammar_laws.specs.Outcome.{Outcome, ◌>>=◌, Read, plain_at}
use Rattle.c0_grammar_laws.specs.ReadPrograms.{fields_by, read_fields, ReadParameters, over_by, less, read_parameters, parameters_by, ReadDeclaration, ReadHeader, read_header, function, struct_by, declaration_by, read_declaration, read_declarations, read_program}
use Rattle.c0_grammar_laws.proofs.Types.{complete_type, longer_type}
use Rattle.c0_grammar_laws.proofs.Turns.{Names}
use Rattle.c0_grammar_laws.proofs.Begins.{BeginsSimple, plain_type, BeginsBody, longer_annotations, longer_statements}
use Rattle.c0_grammar_laws.proofs.CompleteStatements.{got, complete_annotations, complete_statements}

-- ---- fields

fields_go : (types : Names) (d : ℕ) (go_on : List Terminal → Outcome (Read (List TypedName))) (kind : Kind) (ts : List Terminal) → BeginsSimple kind → fields_by types d go_on kind ts ≡ fields_by types d go_on k.Name ts
fields_go types d go_on k.RBrace ts b = absurd b
fields_go types d go_on _ ts b = refl

pub complete_fields : (types : Names) (xs : List TypedName) (d n : ℕ) (rest : List Terminal) → FormedFields types xs → height_typed_names xs ≤ d → length xs < n → read_fields types d n (emit_fields xs rest) ≡ Ok (got xs rest)
unfolding read_fields
complete_fields types [] d zero rest w h lt = absurd (omega arith)
complete_fields types [] d (suc n) rest w h lt = refl
complete_fields types (x ∷ xs) d zero rest w h lt = absurd (omega arith)
complete_fields types (x ∷ xs) d (suc n) rest w h lt =
    let us = Word x.name ∷ Sign k.Semi ∷ emit_fields xs rest in
    let r = complete_type types x.value_type d us w.0 (omega arith) tt in
    let q = complete_fields types xs d n rest w.1 (omega arith) (omega arith) in
    fields_go types d (read_fields types d n) (plain_at (emit_type x.value_type us)) (emit_type x.value_type us) (plain_type x.value_type us) ∙ rw (r, q) refl

pub longer_fields : (xs : List TypedName) (rest : List Terminal) → length rest + length xs < length (emit_fields xs rest)
longer_fields [] rest = omega arith
longer_fields (x ∷ xs) rest = omega (arith, longer_type x.value_type (Word x.name ∷ Sign k.Semi ∷ emit_fields xs rest), longer_fields xs rest)

-- ---- parameters

abbrev parameters_of : List TypedName → Option ℕ → List Terminal → ReadParameters
parameters_of xs over rest = record { parameters = xs; over = over; rest = rest }

record GoodParameters (types : Names) (d room n : ℕ) (x : TypedName) (xs : List TypedName) (rest : List Terminal) : Type 0 where
  over : Option ℕ
  is : read_parameters types d room n (emit_typed_name x (emit_more_parameters xs rest)) ≡ Ok (parameters_of (x ∷ xs) over rest)
  few : suc (length xs) ≤ room → over ≡ None

few_by : (room : ℕ) (at : ℕ) (later : Option ℕ) (count : ℕ) → (count ≤ less room → later ≡ None) → suc count ≤ room → over_by room at later ≡ None
few_by zero at later count h le = absurd (omega arith)
few_by (suc room) at later count h le = h (omega arith)

complete_parameters : (types : Names) (x : TypedName) (xs : List TypedName) (d room n : ℕ) (rest : List Terminal) → FormedParameters types (x ∷ xs) → height_typed_names (x ∷ xs) ≤ d → length xs < n → GoodParameters types d room n x xs rest
unfolding read_parameters
complete_parameters types x xs d room zero rest w h lt = absurd (omega arith)
complete_parameters types x [] d room (suc n) rest w h lt =
    let us = Word x.name ∷ Sign k.RParen ∷ rest in
    let r = complete_type types x.value_type d us w.0 (omega arith) tt in
    record { over = over_by room (length us) None; is = rw (r, w.1) refl; few = λ le. few_by room (length us) None 0 (λ _. refl) le }
complete_parameters types x (y ∷ ys) d room (suc n) rest w h lt =
    let us = Word x.name ∷ Sign k.Comma ∷ emit_typed_name y (emit_more_parameters ys rest) in
    let r = complete_type types x.value_type d us w.0 (omega arith) tt in
    let o = complete_parameters types y ys d (less room) n rest w.2 (omega arith) (omega arith) in
    record { over = over_by room (length us) o.over; is = rw (r, w.1, o.is) refl; few = λ le. few_by room (length us) o.over (suc (length ys)) o.few le }

parameters_go : (types : Names) (d : ℕ) (kind : Kind) (ts : List Terminal) → BeginsSimple kind → parameters_by types d kind ts ≡ read_parameters types d 1024 (length ts) ts
parameters_go types d k.RParen ts b = absurd b
parameters_go types d _ ts b = refl

longer_more : (xs : List TypedName) (rest : List Terminal) → length rest + length xs < length (emit_more_parameters xs rest)
longer_more [] rest = omega arith
longer_more (x ∷ xs) rest = omega (arith, longer_type x.value_type (Word x.name ∷ emit_more_parameters xs rest), longer_more xs rest)

record GoodAll (types : Names) (d : ℕ) (xs : List TypedName) (rest : List Terminal) : Type 0 where
  over : Option ℕ
  is : parameters_by types d (plain_at (emit_parameters xs rest)) (emit_parameters xs rest) ≡ Ok (parameters_of xs over rest)
  few : length xs ≤ 1024 → over ≡ None

parameters_are : (types : Names) (xs : List TypedName) (d : ℕ) (rest : List Terminal) → FormedParameters types xs → height_typed_names xs ≤ d → GoodAll types d xs rest
parameters_are types [] d rest w h = record { over = None; is = refl; few = λ _. refl }
parameters_are types (x ∷ xs) d rest w h =
    let us = Word x.name ∷ emit_more_parameters xs rest in
    let ts = emit_type x.value_type us in
    let g = complete_parameters types x xs d 1024 (length ts) rest w h (omega (arith, longer_type x.value_type us, longer_more xs rest)) in
    record { over = g.over; is = parameters_go types d (plain_at ts) ts (plain_type x.value_type us) ∙ g.is; few = λ le. g.few le }

longer_parameters : (xs : List TypedName) (rest : List Terminal) → length rest < length (emit_parameters xs rest)
longer_parameters [] rest = omega arith
longer_parameters (x ∷ xs) rest = omega (arith, longer_type x.value_type (Word x.name ∷ emit_more_parameters xs rest), longer_more xs rest)

-- ---- headers

abbrev pub header_of : Header → Option ℕ → ℕ → List Terminal → ReadHeader
header_of h over at rest = record { header = h; at = at; over = over; rest = rest }

pub record GoodHeader (types : Names) (d : ℕ) (h : Header) (rest : List Terminal) : Type 0 where
  pub over : Option ℕ
  pub at : ℕ
  pub is : read_header types d (emit_header h rest) ≡ Ok (header_of h over at rest)
  pub few : length h.parameters ≤ 1024 → over ≡ None

pub header_is : (types : Names) (h : Header) (d : ℕ) (rest : List Terminal) → FormedHeader types h → height_header h ≤ d → BeginsBody (plain_at rest) → GoodHeader types d h rest
unfolding read_header
header_is types h d rest w low b =
    let us = emit_annotations h.annotations rest in
    let at = Word h.name ∷ Sign k.LParen ∷ emit_parameters h.parameters us in
    let r = complete_type types h.result d at w.0 (omega arith) tt in
    let g = parameters_are types h.parameters d us w.2 (omega arith) in
    let n = complete_annotations types h.annotations d (suc (length us)) rest w.3 (omega arith) (omega (arith, longer_annotations h.annotations rest)) b in
    record { over = g.over; at = length at; is = rw (r, w.1, g.is, n) refl; few = g.few }

longer_header : (h : Header) (rest : List Terminal) → length rest < length (emit_header h rest)
longer_header h rest =
    omega (arith, longer_type h.result (Word h.name ∷ Sign k.LParen ∷ emit_parameters h.parameters (emit_annotations h.annotations rest)), longer_parameters h.parameters (emit_annotations h.annotations rest), longer_annotations h.annotations rest)

-- ---- declarations

-- what may follow a type at the beginning of a function
abbrev AfterType : Kind → Type 0
AfterType k.Semi = ⊥
AfterType k.LBrace = ⊥
AfterType _ = Unit {0}

struct_go : (types : Names) (loops : Bool) (d room : ℕ) (kind : Kind) (ts : List Terminal) → AfterType kind → struct_by types loops d room kind ts ≡ function types loops d room ts
struct_go types loops d room k.Semi ts b = absurd b
struct_go types loops d room k.LBrace ts b = absurd b
struct_go types loops d room _ ts b = refl

pub declaration_go : (types : Names) (loops : Bool) (d room : ℕ) (t : ValueType) (us : List Terminal) → AfterType (plain_at us) → declaration_by types loops d room (plain_at (emit_type t us)) (emit_type t us) ≡ function types loops d room (emit_type t us)
declaration_go types loops d room (Basic b) us a = refl
declaration_go types loops d room (StructType x) us a = struct_go types loops d room (plain_at us) (Sign k.Struct ∷ Word x ∷ us) a
declaration_go types loops d room (NamedType x) us a = refl
declaration_go types loops d room (Pointer t) us a = declaration_go types loops d room t (Sign (k.Infix o.Multiply) ∷ us) tt
declaration_go types loops d room (Array t) us a = declaration_go types loops d room t (Sign k.LBracket ∷ Sign k.RBracket ∷ us) tt

abbrev pub declaration_of : Declaration → ℕ → List Terminal → ReadDeclaration
declaration_of x room rest = record { declaration = x; room = room; rest = rest }

abbrev pub IsRead : Names → Bool → ℕ → ℕ → Declaration → List Terminal → Type 0
IsRead types loops all room x rest = read_declaration types loops all (emit_declaration x rest) ≡ Ok (declaration_of x room rest)

bare : (all room : ℕ) → all ≡ 0 + room → all ≡ room
bare all room e = omega arith

declared_is : (types : Names) (loops : Bool) (h : Header) (all room : ℕ) (rest : List Terminal) → FormedHeader types h → suc (height_header h) ≤ 200 → all ≡ 0 + room → IsRead types loops all room (DeclareFunction h) rest
unfolding function
declared_is types loops h all room rest w low e =
    let g = header_is types h 199 (Sign k.Semi ∷ rest) w (omega arith) tt in
    let us = Word h.name ∷ Sign k.LParen ∷ emit_parameters h.parameters (emit_annotations h.annotations (Sign k.Semi ∷ rest)) in
    declaration_go types loops 199 all h.result us tt ∙ (rw g.is refl ∙ ap (λ (n : ℕ). Ok (declaration_of (DeclareFunction h) n rest)) (bare all room e))

defined_is : (types : Names) (loops : Bool) (h : Header) (body : Statements) (all room : ℕ) (rest : List Terminal) → FormedHeader types h → FormedStatements types loops body → suc (max (height_header h) (height_statements body)) ≤ 200 → length h.parameters + locals_statements body ≤ 1024
    → all ≡ 1 + room → IsRead types loops all room (DefineFunction h body) rest
unfolding function
defined_is types loops h body zero room rest w wb low few e = absurd (omega arith)
defined_is types loops h body (suc all) room rest w wb low few e =
    let same : all ≡ room = omega arith in
    let g = header_is types h 199 (Sign k.LBrace ∷ emit_statements body rest) w (omega arith) tt in
    let us = Word h.name ∷ Sign k.LParen ∷ emit_parameters h.parameters (emit_annotations h.annotations (Sign k.LBrace ∷ emit_statements body rest)) in
    let q = complete_statements types loops body 199 (suc (length (emit_statements body rest))) (1024 - length h.parameters) (1024 - length h.parameters - locals_statements body) rest wb (omega arith) (omega arith) (omega (arith, longer_statements body rest)) in
    declaration_go types loops 199 (suc all) h.result us tt ∙ (rw (g.is, g.few (omega arith), q) refl ∙ ap (λ (n : ℕ). Ok (declaration_of (DefineFunction h body) n rest)) same)

typedef_is : (types : Names) (loops : Bool) (t : ValueType) (x : List ℕ) (all room : ℕ) (rest : List Terminal) → FormedType types t → is_type_name types x ≡ false → suc (height_type t) ≤ 200 → all ≡ 0 + room → IsRead types loops all room (Typedef t x) rest
typedef_is types loops t x all room rest w free low e =
    let r = complete_type types t 199 (Word x ∷ Sign k.Semi ∷ rest) w (omega arith) tt in
    rw (r, free) (ap (λ (n : ℕ). Ok (declaration_of (Typedef t x) n rest)) (bare all room e))

fields_are : (types : Names) (loops : Bool) (x : List ℕ) (fs : List TypedName) (all room : ℕ) (rest : List Terminal) → FormedFields types fs → suc (height_typed_names fs) ≤ 200 → all ≡ 0 + room → IsRead types loops all room (DefineStruct x fs) rest
fields_are types loops x fs all room rest w low e =
    let us = emit_fields fs (Sign k.Semi ∷ rest) in
    let r = complete_fields types fs 199 (suc (suc (suc (length us)))) (Sign k.Semi ∷ rest) w (omega arith) (omega (arith, longer_fields fs (Sign k.Semi ∷ rest))) in
    rw r (ap (λ (n : ℕ). Ok (declaration_of (DefineStruct x fs) n rest)) (bare all room e))

pub complete_declaration : (types : Names) (loops : Bool) (x : Declaration) (all room : ℕ) (rest : List Terminal) → FormedDeclaration types loops x → height_declaration x ≤ 200 → locals_declaration x ≤ 1024 → all ≡ defined_by x + room → IsRead types loops all room x rest
complete_declaration types loops (UseLibrary angle x) all room rest w low few e = ap (λ (n : ℕ). Ok (declaration_of (UseLibrary angle x) n rest)) (bare all room e)
complete_declaration types loops (DeclareStruct x) all room rest w low few e = ap (λ (n : ℕ). Ok (declaration_of (DeclareStruct x) n rest)) (bare all room e)
complete_declaration types loops (DefineStruct x fs) all room rest w low few e = fields_are types loops x fs all room rest w low e
complete_declaration types loops (Typedef t x) all room rest w low few e = typedef_is types loops t x all room rest w.0 w.1 low e
complete_declaration types loops (DeclareFunction h) all room rest w low few e = declared_is types loops h all room rest w low e
complete_declaration types loops (DefineFunction h body) all room rest w low few e = defined_is types loops h body all room rest w.0 w.1 low few e

pub longer_declaration : (x : Declaration) (rest : List Terminal) → length rest < length (emit_declaration x rest)
longer_declaration (UseLibrary angle x) rest = omega arith
longer_declaration (DeclareStruct x) rest = omega arith
longer_declaration (DefineStruct x fs) rest = omega (arith, longer_fields fs (Sign k.Semi ∷ rest))
longer_declaration (Typedef t x) rest = omega (arith, longer_type t (Word x ∷ Sign k.Semi ∷ rest))
longer_declaration (DeclareFunction h) rest = omega (arith, longer_header h (Sign k.Semi ∷ rest))
longer_declaration (DefineFunction h body) rest = omega (arith, longer_header h (Sign k.LBrace ∷ emit_statements body rest), longer_statements body rest)

pub longer_program : (ds : Program) → length ds ≤ length (emit_program ds)
longer_program [] = omega arith
longer_program (x ∷ ds) = omega (arith, longer_declaration x (emit_program ds), longer_program ds)

-- ---- programs

pub step_declarations : (types : Names) (loops : Bool) (n room : ℕ) (ts : List Terminal) → 0 < length ts
    → read_declarations types loops (suc n) room ts ≡ (read_declaration types loops room ts >>= λ d. read_declarations (type_names_after types d.declaration) loops n d.room d.rest >>= λ ds. Ok (d.declaration ∷ ds))
unfolding read_declarations
step_declarations types loops n room [] lt = absurd (omega arith)
step_declarations types loops n room (t ∷ ts) lt = refl

complete_declarations : (loops : Bool) (ds : Program) (types : Names) (n all : ℕ) → FormedProgram types loops ds → WithinLimits ds → defined_functions ds ≤ all → length ds ≤ n → read_declarations types loops n all (emit_program ds) ≡ Ok ds
unfolding read_declarations
complete_declarations loops [] types zero all w h few le = refl
complete_declarations loops [] types (suc n) all w h few le = refl
complete_declarations loops (x ∷ ds) types zero all w h few le = absurd (omega arith)
complete_declarations loops (x ∷ ds) types (suc n) all w h few le =
    let r = complete_declaration types loops x all (all - defined_by x) (emit_program ds) w.0 h.0 h.1 (omega arith) in
    let q = complete_declarations loops ds (type_names_after types x) n (all - defined_by x) w.1 h.2 (omega arith) (omega arith) in
    step_declarations types loops n all (emit_declaration x (emit_program ds)) (omega (arith, longer_declaration x (emit_program ds))) ∙ rw (r, q) refl

-- These tokens read as this program, so they are read as it.
pub complete_program : (loops : Bool) (ts : List Terminal) (program : Program) → Reads loops ts program → read_program loops ts ≡ Ok program
unfolding read_program
complete_program loops ts program r =
    rw r.spelled (complete_declarations loops program [] (length (emit_program program)) 4096 r.formed r.within r.few (longer_program program))
