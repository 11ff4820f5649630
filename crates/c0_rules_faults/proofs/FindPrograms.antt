-- The kind of the first fault of a program, its cause, and what it is in worked programs.
use Rattle.std.proofs.Common.{◌≡◌, inl, inr, ℕ, List, [], ◌∷◌, map, length, refl, sym, subst, Bool, true, false, Option, Some, None, is_some}
use Rattle.std.specs.Prelude.{◌&&◌, not, nat_le, option_map}
use Rattle.std.specs.Str.{bytes_eq}
use Rattle.std.specs.String.{string_bytes}
use Rattle.std.proofs.lemmas.Slice.Eq.{bytes_eq-Decides}
use Rattle.c0_source.specs.declared.fault.FaultKind.{FaultKind}
use Rattle.c0_source.specs.declared.fault.FaultKind.TheVariants as k
use Rattle.c0_source.specs.declared.fault.Span.{Span}
use Rattle.c0_source.specs.FaultNumbers.{fault_number}
use Rattle.c0_syntax.specs.declared.statement.Statement.{Statement}
use Rattle.c0_syntax.specs.declared.program.TypedName.{TypedName}
use Rattle.c0_syntax.specs.declared.program.Header.{Header}
use Rattle.c0_syntax.specs.declared.program.DeclarationKind.{DeclarationKind}
use Rattle.c0_syntax.specs.declared.program.DeclarationKind.TheVariants as d
use Rattle.c0_syntax.specs.declared.program.Declaration.{Declaration}
use Rattle.c0_syntax.specs.declared.program.Program.{Program}
use Rattle.c0_syntax.specs.Trees as s
use Rattle.c0_syntax.specs.Views.{name_of, type_of, annotation_of, statements_of, typed_name_of, header_of, declaration_of, declaration_of_kind, program_of}
use Rattle.c0_rules.specs.Types.{and_so, provided, Name, VoidType, same_type, FieldEntry, Signature, Environment, is_ascii}
use Rattle.c0_rules.specs.Mentions.{Mention, OfFunction, OfText, statements_assign}
use Rattle.c0_rules.specs.Assignment.{Reached, has_ended, after_statements}
use Rattle.c0_rules.specs.Programs.{names_of, parameters_from, signature, with_function, result_of, Parts, typed_parts, fields_of, cells_in, cell_limit, Elaboration, is_conio, typed_declaration, typed_declarations, beginning, main_name, is_defined, is_main, is_callable}
use Rattle.c0_rules.specs.FaultPrograms.{InPaths, InTypes, InFunction, InFields, LargeCause, UseCause, InDeclaration, InDeclarations, MainDefined, MainAmong, MainCause, NamedInDefinition, NamedAmong, InWhole, ending, FaultAt}
use Rattle.c0_rules.specs.WorkedPairs.{Pair, pairs}
use Rattle.c0_rules_faults.specs.Laws.{IsCaused, AreCaused}
use Rattle.c0_rules_faults.proofs.Find.{At, here, when, or_else, either, when_is, with_some, where_so, both, not_is}
use Rattle.c0_rules_faults.proofs.FindExpressions.{type_fault, type_found, held_fault, held_found}
use Rattle.c0_rules_faults.proofs.FindStatements.{statements_fault, body_found}
use Rattle.c0_rules_faults.proofs.FindPaths.{named_notes, named_statements, named_notes_found, named_body_found}
use Rattle.c0_rules_faults.proofs.FindReads.{read_statements, read_body_found}
use Rattle.c0_rules_faults.proofs.FindHeaders.{second_fault, second_found, header_fault, header_found, contracts_fault, contracts_found, any_specs_fault, any_specs_found, assigned_notes_fault, assigned_notes_found, assigned_in}

-- ---- functions

abbrev no_return : Signature → s.Statements → Option FaultKind
no_return f body = when (not (has_ended (after_statements body (Reached []))) && not (same_type f.result VoidType)) k.NoReturn

abbrev paths_fault : Signature → s.Statements → Parts → Option FaultKind
paths_fault f body x = or_else (no_return f body) (read_statements (Reached []) body)

abbrev types_fault : Environment → Signature → s.Header → s.Statements → Option FaultKind
types_fault env f h body =
    or_else (contracts_fault env (record { locals = parameters_from 1 h.parameters f.parameters; result = None }) (record { locals = parameters_from 1 h.parameters f.parameters; result = result_of f.result }) h.annotations)
    (or_else (assigned_notes_fault (assigned_in (names_of h.parameters) (statements_assign body)) h.annotations)
    (statements_fault env (record { locals = parameters_from 1 h.parameters f.parameters; parameters = length f.parameters; declared = []; result = f.result; in_loop = false }) body))

abbrev function_fault : Environment → s.Header → s.Statements → Signature → Option FaultKind
function_fault env h body f = or_else (types_fault (with_function f env) f h body) (and_so (typed_parts (with_function f env) f h body) (paths_fault f body))

paths_found : (f : Signature) (h : Header) (body : List Statement) (x : Parts) (kind : FaultKind) → paths_fault f (statements_of body) x ≡ Some kind → At kind (λ e. InPaths e f h body)
paths_found f h body x kind e =
    let ended = has_ended (after_statements (statements_of body) (Reached [])) in
    elim (either (no_return f (statements_of body)) (read_statements (Reached []) (statements_of body)) kind e) [
      | inl q ↦
          (let v = when_is (not ended && not (same_type f.result VoidType)) k.NoReturn kind q in
          let c = both (not ended) (not (same_type f.result VoidType)) v.0 in
          (h.name.span, inl (not_is ended c.0, not_is (same_type f.result VoidType) c.1, here k.NoReturn kind h.name.span v.1)))
      | inr q ↦ (let w = read_body_found (Reached []) body kind q in (w.0, inr w.1))
    ]

types_found : (env : Environment) (f : Signature) (h : Header) (body : List Statement) (kind : FaultKind) → types_fault env f (header_of h) (statements_of body) ≡ Some kind → At kind (λ e. InTypes e env f h body)
types_found env f h body kind e =
    let locals = parameters_from 1 ((header_of h).parameters) f.parameters in
    elim (either (contracts_fault env (record { locals = locals; result = None }) (record { locals = locals; result = result_of f.result }) (map annotation_of h.annotations.items)) _ kind e) [
      | inl q ↦ (let w = contracts_found env (record { locals = locals; result = None }) (record { locals = locals; result = result_of f.result }) h.annotations.items kind q in (w.0, inl w.1))
      | inr q ↦ elim (either (assigned_notes_fault (assigned_in (names_of (map typed_name_of h.parameters.items)) (statements_assign (statements_of body))) (map annotation_of h.annotations.items)) _ kind q) [
        | inl z ↦ (let w = assigned_notes_found (assigned_in (names_of (map typed_name_of h.parameters.items)) (statements_assign (statements_of body))) h.annotations.items kind z in (w.0, inr (inl w.1)))
        | inr z ↦ (let w = body_found env (record { locals = locals; parameters = length f.parameters; declared = []; result = f.result; in_loop = false }) body kind z in (w.0, inr (inr w.1)))
      ]
    ]

function_found : (env : Environment) (h : Header) (body : List Statement) (f : Signature) (kind : FaultKind) → function_fault env (header_of h) (statements_of body) f ≡ Some kind → At kind (λ e. InFunction e (with_function f env) f h body)
function_found env h body f kind e = elim (either (types_fault (with_function f env) f (header_of h) (statements_of body)) _ kind e) [
  | inl q ↦ (let w = types_found (with_function f env) f h body kind q in (w.0, inl w.1))
  | inr q ↦
      (let v = with_some (typed_parts (with_function f env) f (header_of h) (statements_of body)) (paths_fault f (statements_of body)) kind q in
      let w = paths_found f h body v.0 kind v.2 in
      (w.0, inr (v.0, v.1, w.1)))
]

-- ---- declarations

abbrev fields_fault : Environment → List s.TypedName → Option FaultKind
fields_fault env [] = None
fields_fault env (x ∷ rest) = or_else (held_fault env x.value_type) (fields_fault env rest)

fields_found : (env : Environment) (items : List TypedName) (kind : FaultKind) → fields_fault env (map typed_name_of items) ≡ Some kind → At kind (λ f. InFields f env items)
fields_found env [] kind h = absurd (cc h)
fields_found env (x ∷ rest) kind h = elim (either (held_fault env (type_of x.value_type)) (fields_fault env (map typed_name_of rest)) kind h) [
  | inl q ↦ (let w = held_found env x.value_type kind q in (w.0, inl w.1))
  | inr q ↦ (let w = fields_found env rest kind q in (w.0, inr w.1))
]

abbrev large_by : Environment → List FieldEntry → Option FaultKind
large_by env fields = when (not (nat_le (cells_in env.structs fields) cell_limit)) k.TooLarge

abbrev large_fault : Environment → List s.TypedName → Option FaultKind
large_fault env items = and_so (fields_of env items) (large_by env)

large_found : (env : Environment) (items : List TypedName) (span : Span) (kind : FaultKind) → large_fault env (map typed_name_of items) ≡ Some kind → At kind (λ f. LargeCause f env items span)
large_found env items span kind h =
    let w = with_some (fields_of env (map typed_name_of items)) (large_by env) kind h in
    let v = when_is (not (nat_le (cells_in env.structs w.0) cell_limit)) k.TooLarge kind w.2 in
    (span, (w.0, w.1, not_is (nat_le (cells_in env.structs w.0) cell_limit) v.0, here k.TooLarge kind span v.1))

abbrev use_fault : Elaboration → Bool → Name → Option FaultKind
use_fault e in_brackets library = when (not (is_conio in_brackets library && not e.begun)) k.BadUse

use_found : (e : Elaboration) (in_brackets : Bool) (library : Name) (span : Span) (kind : FaultKind) → use_fault e in_brackets library ≡ Some kind → At kind (λ f. UseCause f e in_brackets library span)
use_found e in_brackets library span kind h =
    let v = when_is (not (is_conio in_brackets library && not e.begun)) k.BadUse kind h in
    (span, (not_is (is_conio in_brackets library && not e.begun) v.0, here k.BadUse kind span v.1))

abbrev declaration_fault : Elaboration → s.Declaration → Option FaultKind
declaration_fault e (s.UseLibrary in_brackets x) = use_fault e in_brackets x
declaration_fault e (s.DeclareStruct x) = None
declaration_fault e (s.DefineStruct x fields) =
    or_else (when (is_some (e.environment.structs x)) k.DuplicateName) (or_else (second_fault [] fields) (or_else (fields_fault e.environment fields) (large_fault e.environment fields)))
declaration_fault e (s.Typedef ty x) = type_fault e.environment.typedefs ty
declaration_fault e (s.DeclareFunction h) = or_else (header_fault e.environment false h) (any_specs_fault h.annotations)
declaration_fault e (s.DefineFunction h body) = or_else (header_fault e.environment true h) (and_so (signature e.environment true h) (function_fault e.environment h body))

declaration_found : (e : Elaboration) (x : DeclarationKind) (span : Span) (kind : FaultKind) → declaration_fault e (declaration_of_kind x) ≡ Some kind → At kind (λ f. InDeclaration f e x span)
declaration_found e (d.UseName text) span kind h = use_found e true (string_bytes text) span kind h
declaration_found e (d.UseText text) span kind h = use_found e false (string_bytes text) span kind h
declaration_found e (d.DeclareStruct x) span kind h = absurd (cc h)
declaration_found e (d.DefineStruct x fields) span kind h = elim (either (when (is_some (e.environment.structs (name_of x))) k.DuplicateName) _ kind h) [
  | inl q ↦ (let v = when_is (is_some (e.environment.structs (name_of x))) k.DuplicateName kind q in (x.span, inl (v.0, here k.DuplicateName kind x.span v.1)))
  | inr q ↦ elim (either (second_fault [] (map typed_name_of fields.items)) _ kind q) [
    | inl z ↦ (let w = second_found [] fields.items kind z in (w.0, inr (inl w.1)))
    | inr z ↦ elim (either (fields_fault e.environment (map typed_name_of fields.items)) (large_fault e.environment (map typed_name_of fields.items)) kind z) [
      | inl m ↦ (let w = fields_found e.environment fields.items kind m in (w.0, inr (inr (inl w.1))))
      | inr m ↦ (let w = large_found e.environment fields.items x.span kind m in (w.0, inr (inr (inr w.1))))
    ]
  ]
]
declaration_found e (d.Typedef ty x) span kind h = type_found e.environment.typedefs ty.kind ty.span kind h
declaration_found e (d.DeclareFunction h) span kind q = elim (either (header_fault e.environment false (header_of h)) (any_specs_fault (map annotation_of h.annotations.items)) kind q) [
  | inl z ↦ (let w = header_found e.environment false h kind z in (w.0, inl w.1))
  | inr z ↦ (let w = any_specs_found h.annotations.items kind z in (w.0, inr w.1))
]
declaration_found e (d.DefineFunction h body) span kind q = elim (either (header_fault e.environment true (header_of h)) (and_so (signature e.environment true (header_of h)) (function_fault e.environment (header_of h) (statements_of body.items))) kind q) [
  | inl z ↦ (let w = header_found e.environment true h kind z in (w.0, inl w.1))
  | inr z ↦
      (let v = with_some (signature e.environment true (header_of h)) (function_fault e.environment (header_of h) (statements_of body.items)) kind z in
      let w = function_found e.environment h body.items v.0 kind v.2 in
      (w.0, inr (v.0, v.1, w.1)))
]

abbrev declarations_fault : Elaboration → s.Program → Option FaultKind
declarations_fault e [] = None
declarations_fault e (x ∷ rest) = or_else (declaration_fault e x) (and_so (typed_declaration x e) (λ next. declarations_fault next rest))

declarations_found : (e : Elaboration) (ds : List Declaration) (kind : FaultKind) → declarations_fault e (map declaration_of ds) ≡ Some kind → At kind (λ f. InDeclarations f e ds)
declarations_found e [] kind h = absurd (cc h)
declarations_found e (x ∷ rest) kind h = elim (either (declaration_fault e (declaration_of x)) _ kind h) [
  | inl q ↦ (let w = declaration_found e x.kind x.span kind q in (w.0, inl w.1))
  | inr q ↦
      (let v = with_some (typed_declaration (declaration_of x) e) (λ next. declarations_fault next (map declaration_of rest)) kind q in
      let w = declarations_found v.0 rest kind v.2 in
      (w.0, inr (v.0, v.1, w.1)))
]

-- ---- the whole program

abbrev main_defined : s.Declaration → Option FaultKind
main_defined (s.DefineFunction h body) = when (bytes_eq h.name main_name) k.BadMain
main_defined _ = None

main_defined_found : (x : DeclarationKind) (kind : FaultKind) → main_defined (declaration_of_kind x) ≡ Some kind → At kind (λ f. MainDefined f x)
main_defined_found (d.DefineFunction h body) kind e =
    let v = when_is (bytes_eq (name_of h.name) main_name) k.BadMain kind e in
    (h.span, ((bytes_eq-Decides (name_of h.name) main_name).0 v.0, here k.BadMain kind h.span v.1))
main_defined_found (d.UseName text) kind e = absurd (cc e)
main_defined_found (d.UseText text) kind e = absurd (cc e)
main_defined_found (d.DeclareStruct x) kind e = absurd (cc e)
main_defined_found (d.DefineStruct x fields) kind e = absurd (cc e)
main_defined_found (d.Typedef ty x) kind e = absurd (cc e)
main_defined_found (d.DeclareFunction h) kind e = absurd (cc e)

abbrev main_among : s.Program → Option FaultKind
main_among [] = None
main_among (x ∷ rest) = or_else (main_defined x) (main_among rest)

main_among_found : (ds : List Declaration) (kind : FaultKind) → main_among (map declaration_of ds) ≡ Some kind → At kind (λ f. MainAmong f ds)
main_among_found [] kind h = absurd (cc h)
main_among_found (x ∷ rest) kind h = elim (either (main_defined (declaration_of x)) (main_among (map declaration_of rest)) kind h) [
  | inl q ↦ (let w = main_defined_found x.kind kind q in (w.0, inl w.1))
  | inr q ↦ (let w = main_among_found rest kind q in (w.0, inr w.1))
]

abbrev main_fault : s.Program → Option Signature → Option FaultKind
main_fault ds o = or_else (when (not (is_defined o)) k.BadMain) (provided (is_defined o) (provided (not (is_main o)) (main_among ds)))

main_found : (end : Span) (ds : List Declaration) (o : Option Signature) (kind : FaultKind) → main_fault (map declaration_of ds) o ≡ Some kind → At kind (λ f. MainCause f end ds o)
main_found end ds o kind h = elim (either (when (not (is_defined o)) k.BadMain) (provided (is_defined o) (provided (not (is_main o)) (main_among (map declaration_of ds)))) kind h) [
  | inl q ↦ (let v = when_is (not (is_defined o)) k.BadMain kind q in (end, inl (not_is (is_defined o) v.0, here k.BadMain kind end v.1)))
  | inr q ↦
      (let v = where_so (is_defined o) (provided (not (is_main o)) (main_among (map declaration_of ds))) kind q in
      let z = where_so (not (is_main o)) (main_among (map declaration_of ds)) kind v.1 in
      let w = main_among_found ds kind z.1 in
      (w.0, inr (v.0, not_is (is_main o) z.0, w.1)))
]

module _ (test : Mention → Bool) (told : FaultKind) where
  abbrev definition_fault : s.Declaration → Option FaultKind
  definition_fault (s.DefineFunction h body) = or_else (named_notes test told h.annotations) (named_statements test told body)
  definition_fault _ = None

  definition_found : (x : DeclarationKind) (kind : FaultKind) → definition_fault (declaration_of_kind x) ≡ Some kind → At kind (λ f. NamedInDefinition f test told x)
  definition_found (d.DefineFunction h body) kind e = elim (either (named_notes test told (map annotation_of h.annotations.items)) (named_statements test told (statements_of body.items)) kind e) [
    | inl q ↦ (let w = named_notes_found test told h.annotations.items kind q in (w.0, inl w.1))
    | inr q ↦ (let w = named_body_found test told body.items kind q in (w.0, inr w.1))
  ]
  definition_found (d.UseName text) kind e = absurd (cc e)
  definition_found (d.UseText text) kind e = absurd (cc e)
  definition_found (d.DeclareStruct x) kind e = absurd (cc e)
  definition_found (d.DefineStruct x fields) kind e = absurd (cc e)
  definition_found (d.Typedef ty x) kind e = absurd (cc e)
  definition_found (d.DeclareFunction h) kind e = absurd (cc e)

  abbrev among_fault : s.Program → Option FaultKind
  among_fault [] = None
  among_fault (x ∷ rest) = or_else (definition_fault x) (among_fault rest)

  among_found : (ds : List Declaration) (kind : FaultKind) → among_fault (map declaration_of ds) ≡ Some kind → At kind (λ f. NamedAmong f test told ds)
  among_found [] kind h = absurd (cc h)
  among_found (x ∷ rest) kind h = elim (either (definition_fault (declaration_of x)) (among_fault (map declaration_of rest)) kind h) [
    | inl q ↦ (let w = definition_found x.kind kind q in (w.0, inl w.1))
    | inr q ↦ (let w = among_found rest kind q in (w.0, inr w.1))
  ]

-- whether a name is called that has no definition
abbrev undefined : Environment → Mention → Bool
undefined env (OfFunction x) = not (is_callable env x)
undefined env _ = false

-- whether a text goes beyond ASCII
abbrev beyond : Mention → Bool
beyond (OfText x) = not (is_ascii x)
beyond _ = false

abbrev whole_fault : s.Program → Elaboration → Option FaultKind
whole_fault ds e = or_else (main_fault ds (e.environment.functions main_name)) (or_else (among_fault (undefined e.environment) k.NotDefined ds) (among_fault beyond k.BadToken ds))

whole_found : (end : Span) (ds : List Declaration) (e : Elaboration) (kind : FaultKind) → whole_fault (map declaration_of ds) e ≡ Some kind → At kind (λ f. InWhole f end e.environment ds)
whole_found end ds e kind h = elim (either (main_fault (map declaration_of ds) (e.environment.functions main_name)) _ kind h) [
  | inl q ↦ (let w = main_found end ds (e.environment.functions main_name) kind q in (w.0, inl w.1))
  | inr q ↦ elim (either (among_fault (undefined e.environment) k.NotDefined (map declaration_of ds)) (among_fault beyond k.BadToken (map declaration_of ds)) kind q) [
    | inl z ↦ (let w = among_found (undefined e.environment) k.NotDefined ds kind z in (w.0, inr (inl w.1)))
    | inr z ↦ (let w = among_found beyond k.BadToken ds kind z in (w.0, inr (inr w.1)))
  ]
]

abbrev program_fault : s.Program → Option FaultKind
program_fault ds = or_else (declarations_fault (beginning ds) ds) (and_so (typed_declarations ds (beginning ds)) (whole_fault ds))

program_found : (program : Program) (kind : FaultKind) → program_fault (program_of program) ≡ Some kind → At kind (λ f. FaultAt program f)
program_found program kind h =
    let ds = program_of program in
    elim (either (declarations_fault (beginning ds) ds) (and_so (typed_declarations ds (beginning ds)) (whole_fault ds)) kind h) [
      | inl q ↦ (let w = declarations_found (beginning ds) program.declarations.items kind q in (w.0, inl w.1))
      | inr q ↦
          (let v = with_some (typed_declarations ds (beginning ds)) (whole_fault ds) kind q in
          let w = whole_found (ending program) program.declarations.items v.0 kind v.2 in
          (w.0, inr (v.0, v.1, w.1)))
    ]

-- ---- worked programs

-- the number of the fault that is found
abbrev number_found : Pair → Option ℕ
number_found p = option_map fault_number (program_fault p.refused)

kind_of : (o : Option FaultKind) (n : ℕ) → option_map fault_number o ≡ Some n → (kind : FaultKind) × (o ≡ Some kind) × (fault_number kind ≡ n)
kind_of None n h = absurd (cc h)
kind_of (Some kind) n h = let same : fault_number kind ≡ n = cc in (kind, refl, same)

is_caused : (p : Pair) → number_found p ≡ Some p.number → IsCaused p
is_caused p h = λ program same.
    let v = kind_of (program_fault p.refused) p.number h in
    let w = program_found program v.0 (subst (λ (z : s.Program). program_fault z ≡ Some v.0) (sym same) v.1) in
    (record { kind = v.0; span = w.0 }, v.2, w.1)

abbrev labels : Pair → Option ℕ
labels p = Some p.number

head_same : {A : Type 0} (x y : A) (xs ys : List A) → x ∷ xs ≡ y ∷ ys → x ≡ y
head_same x y xs ys h = cc

tail_same : {A : Type 0} (x y : A) (xs ys : List A) → x ∷ xs ≡ y ∷ ys → xs ≡ ys
tail_same x y xs ys h = cc

are_caused : (ps : List Pair) → map number_found ps ≡ map labels ps → AreCaused ps
are_caused [] h = tt
are_caused (p ∷ ps) h =
    (is_caused p (head_same (number_found p) (labels p) (map number_found ps) (map labels ps) h), are_caused ps (tail_same (number_found p) (labels p) (map number_found ps) (map labels ps) h))

pub worked : AreCaused pairs
worked = are_caused pairs refl
