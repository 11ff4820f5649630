-- A program that is refused has a cause in it.
use Rattle.std.proofs.Common.{◌≡◌, ◌⊎◌, inl, inr, List, [], ◌∷◌, ◌++◌, refl, sym, ap, subst, Bool, true, false, cond, Option, Some, None}
use Rattle.std.specs.Prelude.{◌&&◌, ◌||◌, not, map, nat_le, bytes_eq, is_some, filter_map}
use Rattle.std.specs.List.{list_all, list_any}
use Rattle.std.specs.String.{string_bytes}
use Rattle.c0_source.specs.declared.fault.FaultKind.{FaultKind}
use Rattle.c0_source.specs.declared.fault.FaultKind.TheVariants as k
use Rattle.c0_source.specs.declared.fault.Span.{Span}
use Rattle.c0_source.specs.declared.kind.Base.TheVariants as b
use Rattle.c0_syntax.specs.declared.statement.Spec as p
use Rattle.c0_syntax.specs.declared.statement.Annotation.{Annotation}
use Rattle.c0_syntax.specs.declared.program.TypedName.{TypedName}
use Rattle.c0_syntax.specs.declared.program.DeclarationKind.{DeclarationKind}
use Rattle.c0_syntax.specs.declared.program.DeclarationKind.TheVariants as d
use Rattle.c0_syntax.specs.declared.program.Declaration.{Declaration}
use Rattle.c0_syntax.specs.declared.program.Program.{Program}
use Rattle.c0_syntax.specs.Trees as tree
use Rattle.c0_syntax.specs.Views.{name_of, type_of, spec_of, annotation_of, statements_of, typed_name_of, header_of, declaration_of_kind, declaration_of, program_of}
use Rattle.c0_rules.specs.Types.{Name, is_among, are_distinct, is_ascii, ResolvedType, VoidType, Table, same_type, is_small, resolved_type, small_type, result_type, cells_of, Signature, Environment}
use Rattle.c0_rules.specs.Mentions.{Mention, spec_mentions, specs_in, statements_mentions, declaration_mentions, program_mentions, calls_of, texts_of}
use Rattle.c0_rules.specs.Programs.{names_of, is_defined, signature, with_function, parameter_types, names_agree, typed_function, function_defined, function_names_of, fields_of, cells_in, cell_limit, Elaboration, is_conio, are_none, typed_declaration, typed_declarations, beginning, main_name, is_main, is_callable, whole_agrees}
use Rattle.c0_rules.specs.FaultPrograms.{AnySpec, AnySpecs, InFields, UseCause, InDeclaration, InDeclarations, MainCause, MainDefined, MainAmong, is_undefined, is_beyond, NamedInDefinition, NamedAmong, InWhole, ending}
use Rattle.c0_rules.proofs.Rules.{AllSome, all_so, all_go, all_if, same_name_is, some_has}
use Rattle.c0_rules.proofs.Programs.{DefinedThere, defined_there}
use Rattle.c0_rules_faults.specs.Laws.{RefusalsAreCaused}
use Rattle.c0_rules_faults.proofs.Causes.{Caused, told, split, split_if, split_and, not_false_is}
use Rattle.c0_rules_faults.proofs.ExpressionCauses.{type_cause}
use Rattle.c0_rules_faults.proofs.HeaderCauses.{distinct_cause, function_cause, header_cause}
use Rattle.c0_rules_faults.proofs.NameCauses.{annotations_named, any_split, body_named, function_mentioned, text_mentioned}
use Rattle.c0_rules_faults.proofs.Programs.{signature_small}
use Rattle.c0_rules_faults.proofs.StatementCauses.{GiveFine, is_fine}
use Rattle.c0_rules_faults.proofs.Tests.{one_is}

-- ---- results stay fine

fine_of : (typedefs : Table ResolvedType) (a : tree.ValueType) → AllSome (λ r. is_fine r ≡ true) (small_type typedefs a)
fine_of typedefs a = all_go (λ r. is_fine r ≡ true) (resolved_type typedefs a) _ (λ r q. all_if (λ r. is_fine r ≡ true) (is_small r) (Some r) (λ h. ap (λ c. c || same_type r VoidType) h))

result_is_fine : (typedefs : Table ResolvedType) (a : tree.ValueType) → AllSome (λ r. is_fine r ≡ true) (result_type typedefs a)
result_is_fine typedefs (tree.Basic b.Void) = refl
result_is_fine typedefs (tree.Basic b.Int) = refl
result_is_fine typedefs (tree.Basic b.Bool) = refl
result_is_fine typedefs (tree.Basic b.Char) = refl
result_is_fine typedefs (tree.Basic b.String) = refl
result_is_fine typedefs (tree.StructType n) = tt
result_is_fine typedefs (tree.NamedType n) = fine_of typedefs (tree.NamedType n)
result_is_fine typedefs (tree.Pointer a) = fine_of typedefs (tree.Pointer a)
result_is_fine typedefs (tree.Array a) = fine_of typedefs (tree.Array a)

signature_fine : (env : Environment) (defined : Bool) (h : tree.Header) (f : Signature) → signature env defined h ≡ Some f → is_fine f.result ≡ true
signature_fine env defined h f q = some_has (λ f. is_fine f.result ≡ true) (signature env defined h) f
    (all_so (λ r. is_fine r ≡ true) (λ f. is_fine f.result ≡ true) (result_type env.typedefs h.result) _ (result_is_fine env.typedefs h.result) (λ r fine.
    all_go (λ f. is_fine f.result ≡ true) (parameter_types env.typedefs h.parameters) _ (λ rs e.
    all_if (λ f. is_fine f.result ≡ true) (names_agree env h (record { name = h.name; result = r; parameters = rs; defined = defined })) _ (λ a. fine)))) q

with_fine : (env : Environment) (f : Signature) → is_fine f.result ≡ true → GiveFine env → GiveFine (with_function f env)
with_fine env f fine results n g = by_name (bytes_eq n f.name) (env.functions n) (results n)
  where
    by_name : (c : Bool) (o : Option Signature) → ((h : Signature) → o ≡ Some h → is_fine h.result ≡ true)
        → cond c (Some (record f { defined = f.defined || is_defined (env.functions f.name) })) o ≡ Some g → is_fine g.result ≡ true
    by_name true o go q =
        let same : f.result ≡ g.result = (let z : record f { defined = f.defined || is_defined (env.functions f.name) } ≡ g = cc q in ap (λ (x : Signature). x.result) z) in subst (λ r. is_fine r ≡ true) same fine
    by_name false o go q = go g q

declaration_fine : (x : tree.Declaration) (e : Elaboration) → GiveFine e.environment → AllSome (λ z. GiveFine z.environment) (typed_declaration x e)
declaration_fine (tree.UseLibrary c n) e results = all_if (λ z. GiveFine z.environment) _ (Some e) (λ q. results)
declaration_fine (tree.DeclareStruct n) e results = results
declaration_fine (tree.DefineStruct n items) e results =
    all_if (λ z. GiveFine z.environment) (not (is_some (e.environment.structs n)) && are_distinct (names_of items)) _ (λ q.
    all_go (λ z. GiveFine z.environment) (fields_of e.environment items) _ (λ fields w. all_if (λ z. GiveFine z.environment) (nat_le (cells_in e.environment.structs fields) cell_limit) _ (λ v. results)))
declaration_fine (tree.Typedef a n) e results = all_go (λ z. GiveFine z.environment) (resolved_type e.environment.typedefs a) _ (λ r q. results)
declaration_fine (tree.DeclareFunction h) e results =
    all_go (λ z. GiveFine z.environment) (signature e.environment false h) _ (λ f q.
    all_if (λ z. GiveFine z.environment) (are_none (specs_in h.annotations)) _ (λ w. with_fine e.environment f (signature_fine e.environment false h f q) results))
declaration_fine (tree.DefineFunction h body) e results =
    all_go (λ z. GiveFine z.environment) (signature e.environment true h) _ (λ f q.
    all_go (λ z. GiveFine z.environment) (typed_function (with_function f e.environment) f h body) _ (λ g w. with_fine e.environment f (signature_fine e.environment true h f q) results))

-- ---- specs where there may be none

spec_cause : (xs : List p.Spec) → are_none (map spec_of xs) ≡ false → Caused (λ f. AnySpec f xs)
spec_cause [] h = absurd (cc h)
spec_cause (x ∷ rest) h = let f = told k.BadContract x.word in (f.0, inl f.1)

none_split : (xs ys : List tree.Spec) → are_none (xs ++ ys) ≡ false → (are_none xs ≡ false) ⊎ (are_none ys ≡ false)
none_split [] ys h = inr h
none_split (x ∷ xs) ys h = inl refl

specs_cause : (xs : List Annotation) → are_none (specs_in (map annotation_of xs)) ≡ false → Caused (λ f. AnySpecs f xs)
specs_cause [] h = absurd (cc h)
specs_cause (x ∷ rest) h = elim (none_split (annotation_of x) (specs_in (map annotation_of rest)) h) [
  | inl q ↦ (let f = spec_cause x.specs.items q in (f.0, inl f.1))
  | inr q ↦ (let f = specs_cause rest q in (f.0, inr f.1))
]

-- ---- declarations

fields_cause : (env : Environment) (xs : List TypedName) → fields_of env (map typed_name_of xs) ≡ None → Caused (λ f. InFields f env xs)
fields_cause env [] h = absurd (cc h)
fields_cause env (x ∷ rest) h = elim (split (resolved_type env.typedefs (typed_name_of x).value_type) _ h) [
  | inl q ↦ (let f = type_cause env.typedefs x.value_type.kind x.value_type.span q in (f.0, inl (inl f.1)))
  | inr q ↦ elim (split (cells_of env.structs q.0) _ q.2) [
    | inl w ↦ (let f = told k.StructNotComplete x.value_type.span in (f.0, inl (inr (q.0, q.1, w, f.1))))
    | inr w ↦ elim (split (fields_of env (map typed_name_of rest)) _ w.2) [ inl z ↦ (let f = fields_cause env rest z in (f.0, inr f.1)) | inr z ↦ absurd (cc z.2) ]
  ]
]

use_cause : (e : Elaboration) (in_brackets : Bool) (library : Name) (span : Span) → typed_declaration (tree.UseLibrary in_brackets library) e ≡ None → Caused (λ f. UseCause f e in_brackets library span)
use_cause e in_brackets library span h = elim (split_if (is_conio in_brackets library && not e.begun) _ h) [ inl q ↦ (let f = told k.BadUse span in (f.0, (q, f.1))) | inr q ↦ absurd (cc q.1) ]

declaration_cause : (e : Elaboration) → GiveFine e.environment → (x : DeclarationKind) (span : Span) → typed_declaration (declaration_of_kind x) e ≡ None → Caused (λ f. InDeclaration f e x span)
declaration_cause e results (d.UseName text) span h = use_cause e true (string_bytes text) span h
declaration_cause e results (d.UseText text) span h = use_cause e false (string_bytes text) span h
declaration_cause e results (d.DeclareStruct x) span h = absurd (cc h)
declaration_cause e results (d.DefineStruct x fields) span h =
    elim (split_if (not (is_some (e.environment.structs (name_of x))) && are_distinct (names_of (map typed_name_of fields.items))) _ h) [
      | inl q ↦ elim (split_and (not (is_some (e.environment.structs (name_of x)))) (are_distinct (names_of (map typed_name_of fields.items))) q) [
        | inl w ↦ (let f = told k.DuplicateName x.span in (f.0, inl (not_false_is (is_some (e.environment.structs (name_of x))) w, f.1)))
        | inr w ↦ (let f = distinct_cause fields.items w in (f.0, inr (inl f.1)))
      ]
      | inr q ↦ elim (split (fields_of e.environment (map typed_name_of fields.items)) _ q.1) [
        | inl w ↦ (let f = fields_cause e.environment fields.items w in (f.0, inr (inr (inl f.1))))
        | inr w ↦ elim (split_if (nat_le (cells_in e.environment.structs w.0) cell_limit) _ w.2) [ inl z ↦ (let f = told k.TooLarge x.span in (f.0, inr (inr (inr (w.0, w.1, z, f.1))))) | inr z ↦ absurd (cc z.1) ]
      ]
    ]
declaration_cause e results (d.Typedef ty x) span h = elim (split (resolved_type e.environment.typedefs (type_of ty)) _ h) [ inl q ↦ type_cause e.environment.typedefs ty.kind ty.span q | inr q ↦ absurd (cc q.2) ]
declaration_cause e results (d.DeclareFunction h) span w = elim (split (signature e.environment false (header_of h)) _ w) [
  | inl q ↦ (let f = header_cause e.environment false h q in (f.0, inl f.1))
  | inr q ↦ elim (split_if (are_none (specs_in (header_of h).annotations)) _ q.2) [ inl z ↦ (let f = specs_cause h.annotations.items z in (f.0, inr f.1)) | inr z ↦ absurd (cc z.1) ]
]
declaration_cause e results (d.DefineFunction h body) span w = elim (split (signature e.environment true (header_of h)) _ w) [
  | inl q ↦ (let f = header_cause e.environment true h q in (f.0, inl f.1))
  | inr q ↦
      (let fine = signature_fine e.environment true (header_of h) q.0 q.1 in
      elim (split (typed_function (with_function q.0 e.environment) q.0 (header_of h) (statements_of body.items)) _ q.2) [
        | inl z ↦ (let f = function_cause (with_function q.0 e.environment) (with_fine e.environment q.0 fine results) q.0 h body.items (signature_small e.environment true (header_of h) q.0 q.1) fine z in (f.0, inr (q.0, q.1, f.1)))
        | inr z ↦ absurd (cc z.2)
      ])
]

declarations_cause : (e : Elaboration) → GiveFine e.environment → (xs : List Declaration) → typed_declarations (map declaration_of xs) e ≡ None → Caused (λ f. InDeclarations f e xs)
declarations_cause e results [] h = absurd (cc h)
declarations_cause e results (x ∷ rest) h = elim (split (typed_declaration (declaration_of x) e) _ h) [
  | inl q ↦ (let f = declaration_cause e results x.kind x.span q in (f.0, inl f.1))
  | inr q ↦
      (let later = some_has (λ z. GiveFine z.environment) (typed_declaration (declaration_of x) e) q.0 (declaration_fine (declaration_of x) e results) q.1 in
      let f = declarations_cause q.0 later rest q.2 in (f.0, inr (q.0, q.1, f.1)))
]

-- ---- the whole program

found : (x : Name) (names : List Name) → is_among main_name (x ∷ names) ≡ true → (x ≡ main_name) ⊎ (is_among main_name names ≡ true)
found x names q = elim (one_is (bytes_eq main_name x) (is_among main_name names) q) [ inl w ↦ inl (sym (same_name_is main_name x w)) | inr w ↦ inr w ]

main_here : (rest : List Declaration) → (is_among main_name (function_names_of (map declaration_of rest)) ≡ true → Caused (λ f. MainAmong f rest)) → (kind : DeclarationKind)
    → is_among main_name (filter_map function_defined (declaration_of_kind kind ∷ map declaration_of rest)) ≡ true → Caused (λ f. MainDefined f kind ⊎ MainAmong f rest)
main_here rest go (d.UseName text) h = let f = go h in (f.0, inr f.1)
main_here rest go (d.UseText text) h = let f = go h in (f.0, inr f.1)
main_here rest go (d.DeclareStruct y) h = let f = go h in (f.0, inr f.1)
main_here rest go (d.DefineStruct y fields) h = let f = go h in (f.0, inr f.1)
main_here rest go (d.Typedef ty y) h = let f = go h in (f.0, inr f.1)
main_here rest go (d.DeclareFunction y) h = let f = go h in (f.0, inr f.1)
main_here rest go (d.DefineFunction y body) h = elim (found (name_of y.name) (function_names_of (map declaration_of rest)) h) [
  | inl q ↦ (let f = told k.BadMain y.span in (f.0, inl (q, f.1)))
  | inr q ↦ (let f = go q in (f.0, inr f.1))
]

main_among : (xs : List Declaration) → is_among main_name (function_names_of (map declaration_of xs)) ≡ true → Caused (λ f. MainAmong f xs)
main_among [] h = absurd (cc h)
main_among (x ∷ rest) h = main_here rest (main_among rest) x.kind h

definition_named : (test : Mention → Bool) (kind : FaultKind) (x : DeclarationKind) → list_any test (declaration_mentions (declaration_of_kind x)) ≡ true → Caused (λ f. NamedInDefinition f test kind x)
definition_named test kind (d.DefineFunction h body) q = elim (any_split test (spec_mentions (specs_in (header_of h).annotations)) (statements_mentions (statements_of body.items)) q) [
  | inl w ↦ (let f = annotations_named test kind h.annotations.items w in (f.0, inl f.1))
  | inr w ↦ (let f = body_named test kind body.items w in (f.0, inr f.1))
]
definition_named test kind _ q = absurd (cc q)

among_named : (test : Mention → Bool) (kind : FaultKind) (xs : List Declaration) → list_any test (program_mentions (map declaration_of xs)) ≡ true → Caused (λ f. NamedAmong f test kind xs)
among_named test kind [] h = absurd (cc h)
among_named test kind (x ∷ rest) h = elim (any_split test (declaration_mentions (declaration_of x)) (program_mentions (map declaration_of rest)) h) [
  | inl q ↦ (let f = definition_named test kind x.kind q in (f.0, inl f.1))
  | inr q ↦ (let f = among_named test kind rest q in (f.0, inr f.1))
]

main_cause : (program : Program) (e : Elaboration) → typed_declarations (program_of program) (beginning (program_of program)) ≡ Some e → is_main (e.environment.functions main_name) ≡ false
    → Caused (λ f. MainCause f (ending program) program.declarations.items (e.environment.functions main_name))
main_cause program e there h = by (is_defined (e.environment.functions main_name)) refl
  where
    by : (c : Bool) → is_defined (e.environment.functions main_name) ≡ c → Caused (λ f. MainCause f (ending program) program.declarations.items (e.environment.functions main_name))
    by false q = let f = told k.BadMain (ending program) in (f.0, inl (q, f.1))
    by true q =
        let all = some_has (DefinedThere (program_of program)) (typed_declarations (program_of program) (beginning (program_of program))) e (defined_there (program_of program)) there in
        let f = main_among program.declarations.items (all main_name q) in (f.0, inr (q, h, f.1))

-- whether a name is undefined, or a text beyond ASCII; no fault is told yet
abbrev undefined : Environment → Mention → Bool
undefined env m = is_undefined (told k.NotDefined (record { start = 0; end = 0 })).0 env m

abbrev beyond : Mention → Bool
beyond m = is_beyond (told k.BadToken (record { start = 0; end = 0 })).0 m

whole_cause : (program : Program) (e : Elaboration) → typed_declarations (program_of program) (beginning (program_of program)) ≡ Some e → whole_agrees (program_of program) e ≡ false
    → Caused (λ f. InWhole f (ending program) e.environment program.declarations.items)
whole_cause program e there h = elim (split_and (is_main (e.environment.functions main_name) && list_all (is_callable e.environment) (calls_of (program_of program))) (list_all is_ascii (texts_of (program_of program))) h) [
  | inl q ↦ elim (split_and (is_main (e.environment.functions main_name)) (list_all (is_callable e.environment) (calls_of (program_of program))) q) [
    | inl w ↦ (let f = main_cause program e there w in (f.0, inl f.1))
    | inr w ↦
        (let f = among_named (undefined e.environment) k.NotDefined program.declarations.items (function_mentioned (undefined e.environment) (is_callable e.environment) (λ x z. ap not z) (program_mentions (program_of program)) w) in
        (f.0, inr (inl f.1)))
  ]
  | inr q ↦ (let f = among_named beyond k.BadToken program.declarations.items (text_mentioned beyond is_ascii (λ x z. ap not z) (program_mentions (program_of program)) q) in (f.0, inr (inr f.1)))
]

pub refusals_are_caused : RefusalsAreCaused
refusals_are_caused program h = elim (split (typed_declarations (program_of program) (beginning (program_of program))) _ h) [
  | inl q ↦ (let f = declarations_cause (beginning (program_of program)) (λ n f z. absurd (cc z)) program.declarations.items q in (f.0, inl f.1))
  | inr q ↦ elim (split_if (whole_agrees (program_of program) q.0) _ q.2) [ inl w ↦ (let f = whole_cause program q.0 q.1 w in (f.0, inr (q.0, q.1, f.1))) | inr w ↦ absurd (cc w.1) ]
]
