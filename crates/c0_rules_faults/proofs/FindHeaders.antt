-- The kind of a fault in a header or a contract, and its cause.
use Rattle.std.proofs.Common.{◌≡◌, inl, inr, List, [], ◌∷◌, map, subst, Bool, false, Option, Some, None, is_some}
use Rattle.std.specs.Prelude.{◌&&◌, ◌||◌, not}
use Rattle.c0_source.specs.declared.fault.FaultKind.{FaultKind}
use Rattle.c0_source.specs.declared.fault.FaultKind.TheVariants as k
use Rattle.c0_syntax.specs.declared.name.Name as n
use Rattle.c0_syntax.specs.declared.statement.Spec as p
use Rattle.c0_syntax.specs.declared.statement.Annotation.{Annotation}
use Rattle.c0_syntax.specs.declared.program.TypedName.{TypedName}
use Rattle.c0_syntax.specs.declared.program.Header.{Header}
use Rattle.c0_syntax.specs.Trees as s
use Rattle.c0_syntax.specs.Views.{name_of, type_of, expression_of, spec_of, annotation_of, typed_name_of, header_of}
use Rattle.c0_rules.specs.Types.{and_so, provided, Name, is_among, ResolvedType, result_type, Signature, Environment, output_named}
use Rattle.c0_rules.specs.Mentions.{Mention, OfVariable, condition_of}
use Rattle.c0_rules.specs.Expressions.{Context}
use Rattle.c0_rules.specs.Statements.{Precondition, Postcondition, role_of, same_role}
use Rattle.c0_rules.specs.Programs.{parameter_types, same_signature, names_function, is_assigned_parameter, is_defined}
use Rattle.c0_rules.specs.FaultPrograms.{SecondName, ParameterCause, NameCause, FunctionParameter, InHeader, InContract, InContracts, AnySpec, AnySpecs, AssignedParameter, AssignedParameters}
use Rattle.c0_rules_faults.proofs.Find.{At, here, when, or_else, either, found_kind, when_is, with_some, where_so, both, not_is}
use Rattle.c0_rules_faults.proofs.FindExpressions.{small_type_fault, small_type_found, result_fault, result_found}
use Rattle.c0_rules_faults.proofs.FindStatements.{condition_is, condition_fault, condition_found}
use Rattle.c0_rules_faults.proofs.FindPaths.{named_specs, named_specs_found}

-- ---- names

abbrev pub second_fault : List Name → List s.TypedName → Option FaultKind
second_fault seen [] = None
second_fault seen (x ∷ rest) = or_else (when (is_among x.name seen) k.DuplicateName) (second_fault (x.name ∷ seen) rest)

pub second_found : (seen : List Name) (items : List TypedName) (kind : FaultKind) → second_fault seen (map typed_name_of items) ≡ Some kind → At kind (λ f. SecondName f seen items)
second_found seen [] kind h = absurd (cc h)
second_found seen (x ∷ rest) kind h = elim (either (when (is_among (name_of x.name) seen) k.DuplicateName) _ kind h) [
  | inl q ↦ (let v = when_is (is_among (name_of x.name) seen) k.DuplicateName kind q in (x.name.span, inl (v.0, here k.DuplicateName kind x.name.span v.1)))
  | inr q ↦ (let w = second_found (name_of x.name ∷ seen) rest kind q in (w.0, inr w.1))
]

abbrev parameters_fault : Environment → List s.TypedName → Option FaultKind
parameters_fault env [] = None
parameters_fault env (x ∷ rest) = or_else (small_type_fault env.typedefs x.value_type) (parameters_fault env rest)

parameters_found : (env : Environment) (items : List TypedName) (kind : FaultKind) → parameters_fault env (map typed_name_of items) ≡ Some kind → At kind (λ f. ParameterCause f env items)
parameters_found env [] kind h = absurd (cc h)
parameters_found env (x ∷ rest) kind h = elim (either (small_type_fault env.typedefs (type_of x.value_type)) (parameters_fault env (map typed_name_of rest)) kind h) [
  | inl q ↦ (let w = small_type_found env.typedefs x.value_type kind q in (w.0, inl w.1))
  | inr q ↦ (let w = parameters_found env rest kind q in (w.0, inr w.1))
]

abbrev name_test : Environment → Bool → Name → Bool
name_test env defined x = is_some (output_named env.conio x) || (defined && is_defined (env.functions x))

name_found : (env : Environment) (defined : Bool) (x : n.Name) (kind : FaultKind) → when (name_test env defined (name_of x)) k.DuplicateName ≡ Some kind → At kind (λ f. NameCause f env defined x)
name_found env defined x kind h = let v = when_is (name_test env defined (name_of x)) k.DuplicateName kind h in (x.span, (v.0, here k.DuplicateName kind x.span v.1))

abbrev functions_fault : Environment → Name → List s.TypedName → Option FaultKind
functions_fault env own [] = None
functions_fault env own (x ∷ rest) = or_else (when (names_function env own x.name) k.DuplicateName) (functions_fault env own rest)

functions_found : (env : Environment) (own : Name) (items : List TypedName) (kind : FaultKind) → functions_fault env own (map typed_name_of items) ≡ Some kind → At kind (λ f. FunctionParameter f env own items)
functions_found env own [] kind h = absurd (cc h)
functions_found env own (x ∷ rest) kind h = elim (either (when (names_function env own (name_of x.name)) k.DuplicateName) (functions_fault env own (map typed_name_of rest)) kind h) [
  | inl q ↦ (let v = when_is (names_function env own (name_of x.name)) k.DuplicateName kind q in (x.name.span, inl (v.0, here k.DuplicateName kind x.name.span v.1)))
  | inr q ↦ (let w = functions_found env own rest kind q in (w.0, inr w.1))
]

-- ---- headers

abbrev declared : Bool → Name → ResolvedType → List ResolvedType → Signature
declared defined name r rs = record { name = name; result = r; parameters = rs; defined = defined }

abbrev other_fault : Bool → Name → ResolvedType → List ResolvedType → Signature → Option FaultKind
other_fault defined name r rs old = when (not (defined && old.defined) && not (same_signature (declared defined name r rs) old)) k.DeclMismatch

abbrev others_fault : Environment → Bool → s.Header → Option FaultKind
others_fault env defined h = and_so (result_type env.typedefs h.result) (λ r. and_so (parameter_types env.typedefs h.parameters) (λ rs. and_so (env.functions h.name) (other_fault defined h.name r rs)))

abbrev pub header_fault : Environment → Bool → s.Header → Option FaultKind
header_fault env defined h =
    or_else (result_fault env.typedefs h.result) (or_else (when (name_test env defined h.name) k.DuplicateName) (or_else (parameters_fault env h.parameters) (or_else (second_fault [] h.parameters)
    (or_else (provided defined (functions_fault env h.name h.parameters)) (others_fault env defined h)))))

pub header_found : (env : Environment) (defined : Bool) (h : Header) (kind : FaultKind) → header_fault env defined (header_of h) ≡ Some kind → At kind (λ f. InHeader f env defined h)
header_found env defined h kind e =
    let t = header_of h in
    elim (either (result_fault env.typedefs t.result) _ kind e) [
      | inl q ↦ (let w = result_found env.typedefs h.result kind q in (w.0, inl w.1))
      | inr q ↦ elim (either (when (name_test env defined t.name) k.DuplicateName) _ kind q) [
        | inl z ↦ (let w = name_found env defined h.name kind z in (w.0, inr (inl w.1)))
        | inr z ↦ elim (either (parameters_fault env t.parameters) _ kind z) [
          | inl y ↦ (let w = parameters_found env h.parameters.items kind y in (w.0, inr (inr (inl w.1))))
          | inr y ↦ elim (either (second_fault [] t.parameters) _ kind y) [
            | inl x ↦ (let w = second_found [] h.parameters.items kind x in (w.0, inr (inr (inr (inl w.1)))))
            | inr x ↦ elim (either (provided defined (functions_fault env t.name t.parameters)) (others_fault env defined t) kind x) [
              | inl m ↦
                  (let v = where_so defined (functions_fault env t.name t.parameters) kind m in
                  let w = functions_found env t.name h.parameters.items kind v.1 in
                  (w.0, inr (inr (inr (inr (inl (v.0, w.1)))))))
              | inr m ↦
                  (let r = with_some (result_type env.typedefs t.result) (λ r. and_so (parameter_types env.typedefs t.parameters) (λ rs. and_so (env.functions t.name) (other_fault defined t.name r rs))) kind m in
                  let rs = with_some (parameter_types env.typedefs t.parameters) (λ rs. and_so (env.functions t.name) (other_fault defined t.name r.0 rs)) kind r.2 in
                  let old = with_some (env.functions t.name) (other_fault defined t.name r.0 rs.0) kind rs.2 in
                  let now = declared defined t.name r.0 rs.0 in
                  let v = when_is (not (defined && old.0.defined) && not (same_signature now old.0)) k.DeclMismatch kind old.2 in
                  let c = both (not (defined && old.0.defined)) (not (same_signature now old.0)) v.0 in
                  (h.name.span, inr (inr (inr (inr (inr (r.0, rs.0, old.0, r.1, rs.1, old.1, (not_is (defined && old.0.defined) c.0, not_is (same_signature now old.0) c.1, here k.DeclMismatch kind h.name.span v.1))))))))
            ]
          ]
        ]
      ]
    ]

-- ---- contracts

abbrev role_test : s.Spec → Bool
role_test x = not (same_role Precondition (role_of x) || same_role Postcondition (role_of x))

abbrev contract_fault : Environment → Context → Context → List s.Spec → Option FaultKind
contract_fault env before behind [] = None
contract_fault env before behind (x ∷ rest) =
    or_else (when (role_test x) k.BadContract) (or_else (provided (same_role Precondition (role_of x)) (condition_fault env before (condition_of x)))
    (or_else (provided (same_role Postcondition (role_of x)) (condition_fault env behind (condition_of x))) (contract_fault env before behind rest)))

condition_at : (env : Environment) (at : Context) (x : p.Spec) (kind : FaultKind) → condition_fault env at (condition_of (spec_of x)) ≡ Some kind → condition_fault env at (expression_of x.condition) ≡ Some kind
condition_at env at x kind h = subst (λ (c : s.Expression). condition_fault env at c ≡ Some kind) (condition_is x.kind (expression_of x.condition)) h

contract_found : (env : Environment) (before behind : Context) (specs : List p.Spec) (kind : FaultKind) → contract_fault env before behind (map spec_of specs) ≡ Some kind → At kind (λ f. InContract f env before behind specs)
contract_found env before behind [] kind h = absurd (cc h)
contract_found env before behind (x ∷ rest) kind h = elim (either (when (role_test (spec_of x)) k.BadContract) _ kind h) [
  | inl q ↦
      (let v = when_is (role_test (spec_of x)) k.BadContract kind q in
      (x.word, inl (not_is (same_role Precondition (role_of (spec_of x)) || same_role Postcondition (role_of (spec_of x))) v.0, here k.BadContract kind x.word v.1)))
  | inr q ↦ elim (either (provided (same_role Precondition (role_of (spec_of x))) (condition_fault env before (condition_of (spec_of x)))) _ kind q) [
    | inl z ↦
        (let v = where_so (same_role Precondition (role_of (spec_of x))) (condition_fault env before (condition_of (spec_of x))) kind z in
        let w = condition_found env before x.condition kind (condition_at env before x kind v.1) in
        (w.0, inr (inl (v.0, w.1))))
    | inr z ↦ elim (either (provided (same_role Postcondition (role_of (spec_of x))) (condition_fault env behind (condition_of (spec_of x)))) (contract_fault env before behind (map spec_of rest)) kind z) [
      | inl m ↦
          (let v = where_so (same_role Postcondition (role_of (spec_of x))) (condition_fault env behind (condition_of (spec_of x))) kind m in
          let w = condition_found env behind x.condition kind (condition_at env behind x kind v.1) in
          (w.0, inr (inr (inl (v.0, w.1)))))
      | inr m ↦ (let w = contract_found env before behind rest kind m in (w.0, inr (inr (inr w.1))))
    ]
  ]
]

abbrev pub contracts_fault : Environment → Context → Context → List (List s.Spec) → Option FaultKind
contracts_fault env before behind [] = None
contracts_fault env before behind (x ∷ rest) = or_else (contract_fault env before behind x) (contracts_fault env before behind rest)

pub contracts_found : (env : Environment) (before behind : Context) (notes : List Annotation) (kind : FaultKind) → contracts_fault env before behind (map annotation_of notes) ≡ Some kind → At kind (λ f. InContracts f env before behind notes)
contracts_found env before behind [] kind h = absurd (cc h)
contracts_found env before behind (x ∷ rest) kind h = elim (either (contract_fault env before behind (annotation_of x)) (contracts_fault env before behind (map annotation_of rest)) kind h) [
  | inl q ↦ (let w = contract_found env before behind x.specs.items kind q in (w.0, inl w.1))
  | inr q ↦ (let w = contracts_found env before behind rest kind q in (w.0, inr w.1))
]

abbrev any_fault : List s.Spec → Option FaultKind
any_fault [] = None
any_fault (x ∷ rest) = Some k.BadContract

any_found : (specs : List p.Spec) (kind : FaultKind) → any_fault (map spec_of specs) ≡ Some kind → At kind (λ f. AnySpec f specs)
any_found [] kind h = absurd (cc h)
any_found (x ∷ rest) kind h = (x.word, inl (here k.BadContract kind x.word (found_kind k.BadContract kind h)))

abbrev pub any_specs_fault : List (List s.Spec) → Option FaultKind
any_specs_fault [] = None
any_specs_fault (x ∷ rest) = or_else (any_fault x) (any_specs_fault rest)

pub any_specs_found : (notes : List Annotation) (kind : FaultKind) → any_specs_fault (map annotation_of notes) ≡ Some kind → At kind (λ f. AnySpecs f notes)
any_specs_found [] kind h = absurd (cc h)
any_specs_found (x ∷ rest) kind h = elim (either (any_fault (annotation_of x)) (any_specs_fault (map annotation_of rest)) kind h) [
  | inl q ↦ (let w = any_found x.specs.items kind q in (w.0, inl w.1))
  | inr q ↦ (let w = any_specs_found rest kind q in (w.0, inr w.1))
]

abbrev assigned_fault : (Mention → Bool) → List s.Spec → Option FaultKind
assigned_fault test [] = None
assigned_fault test (x ∷ rest) = or_else (provided (same_role Postcondition (role_of x)) (named_specs test k.BadContract (x ∷ []))) (assigned_fault test rest)

assigned_found : (test : Mention → Bool) (specs : List p.Spec) (kind : FaultKind) → assigned_fault test (map spec_of specs) ≡ Some kind → At kind (λ f. AssignedParameter f test specs)
assigned_found test [] kind h = absurd (cc h)
assigned_found test (x ∷ rest) kind h = elim (either (provided (same_role Postcondition (role_of (spec_of x))) (named_specs test k.BadContract (spec_of x ∷ []))) (assigned_fault test (map spec_of rest)) kind h) [
  | inl q ↦
      (let v = where_so (same_role Postcondition (role_of (spec_of x))) (named_specs test k.BadContract (spec_of x ∷ [])) kind q in
      let w = named_specs_found test k.BadContract (x ∷ []) kind v.1 in
      (w.0, inl (v.0, w.1)))
  | inr q ↦ (let w = assigned_found test rest kind q in (w.0, inr w.1))
]

abbrev pub assigned_notes_fault : (Mention → Bool) → List (List s.Spec) → Option FaultKind
assigned_notes_fault test [] = None
assigned_notes_fault test (x ∷ rest) = or_else (assigned_fault test x) (assigned_notes_fault test rest)

pub assigned_notes_found : (test : Mention → Bool) (notes : List Annotation) (kind : FaultKind) → assigned_notes_fault test (map annotation_of notes) ≡ Some kind → At kind (λ f. AssignedParameters f test notes)
assigned_notes_found test [] kind h = absurd (cc h)
assigned_notes_found test (x ∷ rest) kind h = elim (either (assigned_fault test (annotation_of x)) (assigned_notes_fault test (map annotation_of rest)) kind h) [
  | inl q ↦ (let w = assigned_found test x.specs.items kind q in (w.0, inl w.1))
  | inr q ↦ (let w = assigned_notes_found test rest kind q in (w.0, inr w.1))
]

-- whether a name is that of a parameter that is assigned
abbrev pub assigned_in : List Name → List Name → Mention → Bool
assigned_in parameters assigned (OfVariable x) = is_assigned_parameter parameters assigned x
assigned_in parameters assigned _ = false
