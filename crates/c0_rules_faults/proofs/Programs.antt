-- A program in which a fault has its cause is refused.
use Rattle.std.proofs.Common.{◌≡◌, inl, inr, List, [], ◌∷◌, ◌++◌, refl, ap, subst, Bool, true, false, cond, Option, Some, None}
use Rattle.std.specs.Prelude.{◌&&◌, ◌||◌, not, map, nat_le, bytes_eq, is_some}
use Rattle.std.specs.List.{list_all, list_any}
use Rattle.c0_source.specs.declared.fault.Fault.{Fault}
use Rattle.c0_source.specs.declared.fault.FaultKind.{FaultKind}
use Rattle.c0_source.specs.declared.fault.FaultKind.TheVariants as k
use Rattle.c0_source.specs.declared.fault.Span.{Span}
use Rattle.c0_syntax.specs.declared.statement.Spec as p
use Rattle.c0_syntax.specs.declared.statement.Annotation.{Annotation}
use Rattle.c0_syntax.specs.declared.program.TypedName.{TypedName}
use Rattle.c0_syntax.specs.declared.program.DeclarationKind.{DeclarationKind}
use Rattle.c0_syntax.specs.declared.program.DeclarationKind.TheVariants as d
use Rattle.c0_syntax.specs.declared.program.Declaration.{Declaration}
use Rattle.c0_syntax.specs.declared.program.Program.{Program}
use Rattle.c0_syntax.specs.Trees as tree
use Rattle.c0_syntax.specs.Views.{name_of, spec_of, annotation_of, typed_name_of, header_of, declaration_of_kind, declaration_of, program_of}
use Rattle.c0_rules.specs.Types.{are_distinct, is_ascii, resolved_type, IntType, same_type, same_types, cells_of, Signature, Environment}
use Rattle.c0_rules.specs.Mentions.{Mention, spec_mentions, specs_in, declaration_mentions, program_mentions, calls_of}
use Rattle.c0_rules.specs.Programs.{names_of, is_defined, signature, with_function, typed_function, fields_of, cells_in, cell_limit, Elaboration, are_none, typed_declaration, typed_declarations, beginning, main_name, is_main, is_callable, whole_agrees}
use Rattle.c0_rules.specs.FaultPrograms.{AnySpec, AnySpecs, InFields, InDeclaration, InDeclarations, is_undefined, is_beyond, NamedInDefinition, NamedAmong, InWhole, ending}
use Rattle.c0_rules.proofs.Rules.{AllSome, all_go, all_if, some_has}
use Rattle.c0_rules.proofs.Statements.{AllSmall}
use Rattle.c0_rules.proofs.Functions.{IsSignature, signature_ok}
use Rattle.c0_rules_faults.specs.Laws.{CausesRefuse}
use Rattle.c0_rules_faults.proofs.Refused.{and_none, and_each, and_at, provided_none, provided_false, and_false, false_and}
use Rattle.c0_rules_faults.proofs.Expressions.{TakeSmall, type_none}
use Rattle.c0_rules_faults.proofs.Tests.{any_front, any_back, functions_fail, texts_fail}
use Rattle.c0_rules_faults.proofs.Names.{named_annotations, named_body}
use Rattle.c0_rules_faults.proofs.Headers.{not_distinct, header_none, function_none}

-- ---- parameters stay small

with_small : (env : Environment) (f : Signature) → AllSmall f.parameters → TakeSmall env → TakeSmall (with_function f env)
with_small env f few small n g = by_name (bytes_eq n f.name) (env.functions n) (small n)
  where
    by_name : (b : Bool) (o : Option Signature) → ((h : Signature) → o ≡ Some h → AllSmall h.parameters)
        → cond b (Some (record f { defined = f.defined || is_defined (env.functions f.name) })) o ≡ Some g → AllSmall g.parameters
    by_name true o go q = let same : f.parameters ≡ g.parameters = (let z : record f { defined = f.defined || is_defined (env.functions f.name) } ≡ g = cc q in ap (λ (x : Signature). x.parameters) z) in subst AllSmall same few
    by_name false o go q = go g q

pub signature_small : (env : Environment) (defined : Bool) (h : tree.Header) (f : Signature) → signature env defined h ≡ Some f → AllSmall f.parameters
signature_small env defined h f q = (some_has (IsSignature env defined h) (signature env defined h) f (signature_ok env defined h) q).small

-- behind a declaration the parameters of all functions are small still
declaration_small : (x : tree.Declaration) (e : Elaboration) → TakeSmall e.environment → AllSome (λ z. TakeSmall z.environment) (typed_declaration x e)
declaration_small (tree.UseLibrary b n) e small = all_if (λ z. TakeSmall z.environment) _ (Some e) (λ q. small)
declaration_small (tree.DeclareStruct n) e small = small
declaration_small (tree.DefineStruct n items) e small =
    all_if (λ z. TakeSmall z.environment) (not (is_some (e.environment.structs n)) && are_distinct (names_of items)) _ (λ q.
    all_go (λ z. TakeSmall z.environment) (fields_of e.environment items) _ (λ fields w. all_if (λ z. TakeSmall z.environment) (nat_le (cells_in e.environment.structs fields) cell_limit) _ (λ v. small)))
declaration_small (tree.Typedef a n) e small = all_go (λ z. TakeSmall z.environment) (resolved_type e.environment.typedefs a) _ (λ r q. small)
declaration_small (tree.DeclareFunction h) e small =
    all_go (λ z. TakeSmall z.environment) (signature e.environment false h) _ (λ f q.
    all_if (λ z. TakeSmall z.environment) (are_none (specs_in h.annotations)) _ (λ w. with_small e.environment f (signature_small e.environment false h f q) small))
declaration_small (tree.DefineFunction h body) e small =
    all_go (λ z. TakeSmall z.environment) (signature e.environment true h) _ (λ f q.
    all_go (λ z. TakeSmall z.environment) (typed_function (with_function f e.environment) f h body) _ (λ g w. with_small e.environment f (signature_small e.environment true h f q) small))

-- ---- specs where there may be none

some_specs : (fault : Fault) (xs : List p.Spec) (rest : List tree.Spec) → AnySpec fault xs → are_none (map spec_of xs ++ rest) ≡ false
some_specs fault [] rest h = absurd h
some_specs fault (x ∷ xs) rest h = refl

none_behind : (xs ys : List tree.Spec) → are_none ys ≡ false → are_none (xs ++ ys) ≡ false
none_behind [] ys h = h
none_behind (x ∷ xs) ys h = refl

some_notes : (fault : Fault) (xs : List Annotation) → AnySpecs fault xs → are_none (specs_in (map annotation_of xs)) ≡ false
some_notes fault [] h = absurd h
some_notes fault (x ∷ rest) (inl h) = some_specs fault x.specs.items (specs_in (map annotation_of rest)) h
some_notes fault (x ∷ rest) (inr h) = none_behind (annotation_of x) (specs_in (map annotation_of rest)) (some_notes fault rest h)

-- ---- declarations

no_fields : (env : Environment) (fault : Fault) (xs : List TypedName) → InFields fault env xs → fields_of env (map typed_name_of xs) ≡ None
no_fields env fault [] h = absurd h
no_fields env fault (x ∷ rest) (inl (inl h)) = and_none _ _ (type_none env.typedefs fault x.value_type.kind x.value_type.span h)
no_fields env fault (x ∷ rest) (inl (inr h)) = and_at (resolved_type env.typedefs (typed_name_of x).value_type) h.0 _ h.1 (and_none _ _ h.2)
no_fields env fault (x ∷ rest) (inr h) =
    and_each (resolved_type env.typedefs (typed_name_of x).value_type) _ (λ r q. and_each (cells_of env.structs r) _ (λ c w. and_none _ _ (no_fields env fault rest h)))

module _ (fault : Fault) where
  declaration_none : (e : Elaboration) → TakeSmall e.environment → (x : DeclarationKind) (span : Span) → InDeclaration fault e x span → typed_declaration (declaration_of_kind x) e ≡ None
  declaration_none e small (d.UseName text) span h = provided_false _ _ h.0
  declaration_none e small (d.UseText text) span h = refl
  declaration_none e small (d.DeclareStruct x) span h = absurd h
  declaration_none e small (d.DefineStruct x fields) span (inl h) = provided_false _ _ (false_and (not (is_some (e.environment.structs (name_of x)))) _ (ap not h.0))
  declaration_none e small (d.DefineStruct x fields) span (inr (inl h)) =
      provided_false _ _ (and_false (not (is_some (e.environment.structs (name_of x)))) _ (not_distinct fault fields.items h))
  declaration_none e small (d.DefineStruct x fields) span (inr (inr (inl h))) =
      provided_none (not (is_some (e.environment.structs (name_of x))) && are_distinct (names_of (map typed_name_of fields.items))) _ (and_none _ _ (no_fields e.environment fault fields.items h))
  declaration_none e small (d.DefineStruct x fields) span (inr (inr (inr h))) =
      provided_none (not (is_some (e.environment.structs (name_of x))) && are_distinct (names_of (map typed_name_of fields.items))) _
      (and_at (fields_of e.environment (map typed_name_of fields.items)) h.0 _ h.1 (provided_false _ _ h.2))
  declaration_none e small (d.Typedef ty x) span h = and_none _ _ (type_none e.environment.typedefs fault ty.kind ty.span h)
  declaration_none e small (d.DeclareFunction h) span (inl q) = and_none _ _ (header_none e.environment fault small false h q)
  declaration_none e small (d.DeclareFunction h) span (inr q) = and_each (signature e.environment false (header_of h)) _ (λ f w. provided_false _ _ (some_notes fault h.annotations.items q))
  declaration_none e small (d.DefineFunction h body) span (inl q) = and_none _ _ (header_none e.environment fault small true h q)
  declaration_none e small (d.DefineFunction h body) span (inr q) =
      let few = signature_small e.environment true (header_of h) q.0 q.1 in
      and_at (signature e.environment true (header_of h)) q.0 _ q.1
      (and_none _ _ (function_none (with_function q.0 e.environment) fault (with_small e.environment q.0 few small) q.0 h body.items few q.2))

  declarations_none : (e : Elaboration) → TakeSmall e.environment → (xs : List Declaration) → InDeclarations fault e xs → typed_declarations (map declaration_of xs) e ≡ None
  declarations_none e small [] h = absurd h
  declarations_none e small (x ∷ rest) (inl h) = and_none _ _ (declaration_none e small x.kind x.span h)
  declarations_none e small (x ∷ rest) (inr h) =
      let later = some_has (λ z. TakeSmall z.environment) (typed_declaration (declaration_of x) e) h.0 (declaration_small (declaration_of x) e small) h.1 in
      and_at (typed_declaration (declaration_of x) e) h.0 _ h.1 (declarations_none h.0 later rest h.2)

  -- ---- the whole program

  not_main : (o : Option Signature) → is_defined o ≡ false → is_main o ≡ false
  not_main None h = refl
  not_main (Some f) h = false_and (f.defined && same_type f.result IntType) (same_types f.parameters []) (false_and f.defined (same_type f.result IntType) h)

  named_definition : (test : Mention → Bool) (kind : FaultKind) (x : DeclarationKind) → NamedInDefinition fault test kind x → list_any test (declaration_mentions (declaration_of_kind x)) ≡ true
  named_definition test kind (d.DefineFunction h body) (inl q) = any_front test (spec_mentions (specs_in (header_of h).annotations)) _ (named_annotations test kind fault h.annotations.items q)
  named_definition test kind (d.DefineFunction h body) (inr q) = any_back test (spec_mentions (specs_in (header_of h).annotations)) _ (named_body test kind fault body.items q)
  named_definition test kind _ h = absurd h

  named_among : (test : Mention → Bool) (kind : FaultKind) (xs : List Declaration) → NamedAmong fault test kind xs → list_any test (program_mentions (map declaration_of xs)) ≡ true
  named_among test kind [] h = absurd h
  named_among test kind (x ∷ rest) (inl h) = any_front test (declaration_mentions (declaration_of x)) _ (named_definition test kind x.kind h)
  named_among test kind (x ∷ rest) (inr h) = any_back test (declaration_mentions (declaration_of x)) _ (named_among test kind rest h)

  not_so : (b : Bool) → not b ≡ true → b ≡ false
  not_so true h = absurd (cc h)
  not_so false h = refl

  whole_false : (program : Program) (e : Elaboration) → InWhole fault (ending program) e.environment program.declarations.items → whole_agrees (program_of program) e ≡ false
  whole_false program e (inl (inl h)) = false_and _ _ (false_and _ _ (not_main (e.environment.functions main_name) h.0))
  whole_false program e (inl (inr h)) = false_and _ _ (false_and _ _ h.1)
  whole_false program e (inr (inl h)) =
      false_and _ _ (and_false (is_main (e.environment.functions main_name)) _
      (functions_fail (is_undefined fault e.environment) (is_callable e.environment) (λ x. refl) (λ x q. not_so (is_callable e.environment x) q) (λ x. refl) (program_mentions (program_of program))
      (named_among (is_undefined fault e.environment) k.NotDefined program.declarations.items h)))
  whole_false program e (inr (inr h)) =
      and_false (is_main (e.environment.functions main_name) && list_all (is_callable e.environment) (calls_of (program_of program))) _
      (texts_fail (is_beyond fault) is_ascii (λ x. refl) (λ x. refl) (λ x q. not_so (is_ascii x) q) (program_mentions (program_of program)) (named_among (is_beyond fault) k.BadToken program.declarations.items h))

pub causes_refuse : CausesRefuse
causes_refuse program fault (inl h) = and_none _ _ (declarations_none fault (beginning (program_of program)) (λ n f q. absurd (cc q)) program.declarations.items h)
causes_refuse program fault (inr h) =
    and_at (typed_declarations (program_of program) (beginning (program_of program))) h.0 _ h.1 (provided_false _ _ (whole_false fault program h.0 h.2))
