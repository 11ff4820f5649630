-- A header, a contract or a function that is refused has a cause in it.
use Rattle.std.proofs.Common.{◌≡◌, ◌⊎◌, inl, inr, List, [], ◌∷◌, length, refl, sym, ap, ◌∙◌, Bool, true, false, Option, Some, None}
use Rattle.std.specs.Prelude.{◌&&◌, ◌||◌, not, map, bytes_eq, is_some}
use Rattle.std.specs.List.{list_all}
use Rattle.c0_source.specs.declared.fault.FaultKind.TheVariants as k
use Rattle.c0_source.specs.declared.kind.Base.TheVariants as b
use Rattle.c0_syntax.specs.declared.statement.Spec as p
use Rattle.c0_syntax.specs.declared.statement.Annotation.{Annotation}
use Rattle.c0_syntax.specs.declared.statement.Statement.{Statement}
use Rattle.c0_syntax.specs.declared.program.TypedName.{TypedName}
use Rattle.c0_syntax.specs.declared.program.Header.{Header}
use Rattle.c0_syntax.specs.Trees as tree
use Rattle.c0_syntax.specs.Views.{name_of, type_of, spec_of, annotation_of, statements_of, typed_name_of, header_of}
use Rattle.c0_rules.specs.Types.{Name, is_among, are_distinct, ResolvedType, VoidType, StructNamed, BoolType, Table, is_small, small_type, result_type, Signature, Environment, output_named}
use Rattle.c0_rules.specs.Mentions.{condition_of, specs_in}
use Rattle.c0_rules.specs.Expressions.{Context, Local, local_of, wanted, typed_expression}
use Rattle.c0_rules.specs.Statements.{Precondition, Postcondition, Scope, role_of, same_role, conditions, typed_statements}
use Rattle.c0_rules.specs.Programs.{parameter_types, names_of, parameters_from, same_signature, agrees, is_defined, names_function, are_locals, names_agree, signature, result_of, are_contracts, keeps_parameters, paths_agree, typed_parts, typed_function}
use Rattle.c0_rules.specs.FaultPrograms.{SecondName, ParameterCause, InHeader, InContract, InContracts, FunctionParameter, InTypes, InFunction}
use Rattle.c0_rules.proofs.Rules.{AllSome}
use Rattle.c0_rules.proofs.Statements.{AllSmall}
use Rattle.c0_rules_faults.proofs.Causes.{Caused, told, split, split_if, split_and, not_false_is}
use Rattle.c0_rules_faults.proofs.Headers.{meets, parameters_small, turned}
use Rattle.c0_rules_faults.proofs.NameCauses.{all_split}
use Rattle.c0_rules_faults.proofs.PathCauses.{kept_cause, paths_cause}
use Rattle.c0_rules_faults.proofs.SpecCauses.{chain_split, conditions_split, spec_cause}
use Rattle.c0_rules_faults.proofs.StatementCauses.{GiveFine, body_cause, is_fine, small_type_cause}
use Rattle.c0_rules_faults.proofs.Statements.{SmallLocals, found_small}
use Rattle.c0_rules_faults.proofs.Tests.{true_or, or_true, one_is}

-- ---- names that stand twice

meets_split : (x : Name) (names seen : List Name) → meets seen (x ∷ names) ≡ true → (is_among x seen ≡ true) ⊎ (meets seen names ≡ true)
meets_split x names [] h = absurd (cc h)
meets_split x names (s ∷ seen) h = elim (one_is (is_among s (x ∷ names)) (meets seen (x ∷ names)) h) [
  | inl q ↦ elim (one_is (bytes_eq s x) (is_among s names) q) [ inl w ↦ inl (true_or (bytes_eq x s) _ (turned s x w)) | inr w ↦ inr (true_or (is_among s names) _ w) ]
  | inr q ↦ elim (meets_split x names seen q) [ inl w ↦ inl (or_true (bytes_eq x s) _ w) | inr w ↦ inr (or_true (is_among s names) _ w) ]
]

second_cause : (seen : List Name) (xs : List TypedName) → (meets seen (names_of (map typed_name_of xs)) ≡ true) ⊎ (are_distinct (names_of (map typed_name_of xs)) ≡ false) → Caused (λ f. SecondName f seen xs)
second_cause [] [] (inl h) = absurd (cc h)
second_cause (s ∷ seen) [] (inl h) = second_cause seen [] (inl h)
second_cause seen [] (inr h) = absurd (cc h)
second_cause seen (x ∷ rest) (inl h) = elim (meets_split (name_of x.name) (names_of (map typed_name_of rest)) seen h) [
  | inl q ↦ (let f = told k.DuplicateName x.name.span in (f.0, inl (q, f.1)))
  | inr q ↦ (let f = second_cause (name_of x.name ∷ seen) rest (inl (or_true (is_among (name_of x.name) (names_of (map typed_name_of rest))) _ q)) in (f.0, inr f.1))
]
second_cause seen (x ∷ rest) (inr h) = elim (split_and (not (is_among (name_of x.name) (names_of (map typed_name_of rest)))) (are_distinct (names_of (map typed_name_of rest))) h) [
  | inl q ↦ (let f = second_cause (name_of x.name ∷ seen) rest (inl (true_or (is_among (name_of x.name) (names_of (map typed_name_of rest))) _ (not_false_is (is_among (name_of x.name) (names_of (map typed_name_of rest))) q))) in (f.0, inr f.1))
  | inr q ↦ (let f = second_cause (name_of x.name ∷ seen) rest (inr q) in (f.0, inr f.1))
]

pub distinct_cause : (xs : List TypedName) → are_distinct (names_of (map typed_name_of xs)) ≡ false → Caused (λ f. SecondName f [] xs)
distinct_cause xs h = second_cause [] xs (inr h)

-- ---- results

result_small : (typedefs : Table ResolvedType) (a : tree.ValueType) → result_type typedefs a ≡ None → small_type typedefs a ≡ None
result_small typedefs (tree.Basic b.Void) h = absurd (cc h)
result_small typedefs (tree.Basic b.Int) h = h
result_small typedefs (tree.Basic b.Bool) h = h
result_small typedefs (tree.Basic b.Char) h = h
result_small typedefs (tree.Basic b.String) h = h
result_small typedefs (tree.StructType x) h = h
result_small typedefs (tree.NamedType x) h = h
result_small typedefs (tree.Pointer a) h = h
result_small typedefs (tree.Array a) h = h

-- the type of `\result` is small
result_fine : (r : ResolvedType) → is_fine r ≡ true → AllSome (λ r. is_small r ≡ true) (result_of r)
result_fine VoidType h = tt
result_fine (StructNamed x) h = absurd (cc h)
result_fine _ h = refl

module _ (env : Environment) where
  parameters_cause : (xs : List TypedName) → parameter_types env.typedefs (map typed_name_of xs) ≡ None → Caused (λ f. ParameterCause f env xs)
  parameters_cause [] h = absurd (cc h)
  parameters_cause (x ∷ rest) h = elim (split (small_type env.typedefs (typed_name_of x).value_type) _ h) [
    | inl q ↦ (let f = small_type_cause env x.value_type q in (f.0, inl f.1))
    | inr q ↦ elim (split (parameter_types env.typedefs (map typed_name_of rest)) _ q.2) [ inl z ↦ (let f = parameters_cause rest z in (f.0, inr f.1)) | inr z ↦ absurd (cc z.2) ]
  ]

  function_named : (own : Name) (xs : List TypedName) → list_all (λ n. not (names_function env own n)) (names_of (map typed_name_of xs)) ≡ false → Caused (λ t. FunctionParameter t env own xs)
  function_named own [] h = absurd (cc h)
  function_named own (x ∷ rest) h = elim (split_and (not (names_function env own (name_of x.name))) (list_all (λ n. not (names_function env own n)) (names_of (map typed_name_of rest))) h) [
    | inl q ↦ (let t = told k.DuplicateName x.name.span in (t.0, inl (not_false_is (names_function env own (name_of x.name)) q, t.1)))
    | inr q ↦ (let t = function_named own rest q in (t.0, inr t.1))
  ]

  -- a definition whose parameters are not all locals
  locals_cause : (defined : Bool) (own : Name) (xs : List TypedName) → are_locals env defined own (names_of (map typed_name_of xs)) ≡ false → Caused (λ t. (defined ≡ true) × FunctionParameter t env own xs)
  locals_cause true own xs h = let t = function_named own xs h in (t.0, (refl, t.1))
  locals_cause false own xs h = absurd (cc h)

  again_cause : (f : Signature) (o : Option Signature) → agrees f o ≡ false
      → ((f.defined && is_defined o) ≡ true) ⊎ ((old : Signature) × (o ≡ Some old) × ((f.defined && old.defined) ≡ false) × (same_signature f old ≡ false))
  again_cause f None h = absurd (cc h)
  again_cause f (Some old) h = by (f.defined && old.defined) refl
    where
      by : (c : Bool) → (f.defined && old.defined) ≡ c
          → ((f.defined && old.defined) ≡ true) ⊎ ((older : Signature) × (Some old ≡ Some older) × ((f.defined && older.defined) ≡ false) × (same_signature f older ≡ false))
      by true e = inl e
      by false e = elim (split_and (same_signature f old) (not (f.defined && old.defined)) h) [
        | inl q ↦ inr (old, refl, e, q)
        | inr q ↦ absurd (let z : true ≡ false = sym (ap not e) ∙ q in cc z)
      ]

  pub header_cause : (defined : Bool) (h : Header) → signature env defined (header_of h) ≡ None → Caused (λ t. InHeader t env defined h)
  header_cause defined h e = elim (split (result_type env.typedefs (header_of h).result) _ e) [
    | inl q ↦ (let t = small_type_cause env h.result (result_small env.typedefs (type_of h.result) q) in (t.0, inl (q, t.1)))
    | inr q ↦ elim (split (parameter_types env.typedefs (header_of h).parameters) _ q.2) [
      | inl w ↦ (let t = parameters_cause h.parameters.items w in (t.0, inr (inr (inl t.1))))
      | inr w ↦ elim (split_if (names_agree env (header_of h) (record { name = name_of h.name; result = q.0; parameters = w.0; defined = defined })) _ w.2) [
        | inl z ↦ names_cause q.0 w.0 q.1 w.1 z
        | inr z ↦ absurd (cc z.1)
      ]
    ]
  ]
    where
      names_cause : (r : ResolvedType) (rs : List ResolvedType) → result_type env.typedefs (header_of h).result ≡ Some r → parameter_types env.typedefs (header_of h).parameters ≡ Some rs
          → names_agree env (header_of h) (record { name = name_of h.name; result = r; parameters = rs; defined = defined }) ≡ false → Caused (λ t. InHeader t env defined h)
      names_cause r rs a b z =
          let f : Signature = record { name = name_of h.name; result = r; parameters = rs; defined = defined } in
          let o : Option Signature = env.functions (name_of h.name) in
          elim (split_and (are_distinct (names_of (header_of h).parameters) && not (is_some (output_named env.conio (name_of h.name))) && agrees f o) (are_locals env defined (name_of h.name) (names_of (header_of h).parameters)) z) [
            | inl y ↦ elim (split_and (are_distinct (names_of (header_of h).parameters) && not (is_some (output_named env.conio (name_of h.name)))) (agrees f o) y) [
              | inl v ↦ elim (split_and (are_distinct (names_of (header_of h).parameters)) (not (is_some (output_named env.conio (name_of h.name)))) v) [
                | inl u ↦ (let t = distinct_cause h.parameters.items u in (t.0, inr (inr (inr (inl t.1)))))
                | inr u ↦
                    (let t = told k.DuplicateName h.name.span in
                    (t.0, inr (inl (true_or (is_some (output_named env.conio (name_of h.name))) (defined && is_defined o) (not_false_is (is_some (output_named env.conio (name_of h.name))) u), t.1))))
              ]
              | inr v ↦ elim (again_cause f o v) [
                | inl u ↦ (let t = told k.DuplicateName h.name.span in (t.0, inr (inl (or_true (is_some (output_named env.conio (name_of h.name))) (defined && is_defined o) u, t.1))))
                | inr u ↦ (let t = told k.DeclMismatch h.name.span in (t.0, inr (inr (inr (inr (inr (r, rs, u.0, a, b, u.1, (u.2, u.3, t.1))))))))
              ]
            ]
            | inr y ↦ (let t = locals_cause defined (name_of h.name) h.parameters.items y in (t.0, inr (inr (inr (inr (inl t.1))))))
          ]

  -- ---- contracts

  module _ (before behind : Context) (few0 : (x : Name) → AllSome (λ l. is_small l.resolved ≡ true) (local_of before.locals x)) (fine0 : AllSome (λ r. is_small r ≡ true) before.result)
      (few1 : (x : Name) → AllSome (λ l. is_small l.resolved ≡ true) (local_of behind.locals x)) (fine1 : AllSome (λ r. is_small r ≡ true) behind.result) where
    words_cause : (xs : List p.Spec) → are_contracts (map spec_of xs) ≡ false → Caused (λ t. InContract t env before behind xs)
    words_cause [] h = absurd (cc h)
    words_cause (x ∷ rest) h = elim (split_and (same_role Precondition (role_of (spec_of x)) || same_role Postcondition (role_of (spec_of x))) (are_contracts (map spec_of rest)) h) [
      | inl q ↦ (let t = told k.BadContract x.word in (t.0, inl (q, t.1)))
      | inr q ↦ (let t = words_cause rest q in (t.0, inr (inr (inr t.1))))
    ]

    requires_cause : (xs : List p.Spec) → conditions env Precondition before (map spec_of xs) ≡ None → Caused (λ t. InContract t env before behind xs)
    requires_cause [] h = absurd (cc h)
    requires_cause (x ∷ rest) h = elim (chain_split (same_role Precondition (role_of (spec_of x))) (wanted env BoolType (typed_expression env before (condition_of (spec_of x)))) (conditions env Precondition before (map spec_of rest)) h) [
      | inl q ↦ (let t = spec_cause env before few0 fine0 x q.1 in (t.0, inr (inl (q.0, t.1))))
      | inr q ↦ (let t = requires_cause rest q in (t.0, inr (inr (inr t.1))))
    ]

    ensures_cause : (xs : List p.Spec) → conditions env Postcondition behind (map spec_of xs) ≡ None → Caused (λ t. InContract t env before behind xs)
    ensures_cause [] h = absurd (cc h)
    ensures_cause (x ∷ rest) h = elim (chain_split (same_role Postcondition (role_of (spec_of x))) (wanted env BoolType (typed_expression env behind (condition_of (spec_of x)))) (conditions env Postcondition behind (map spec_of rest)) h) [
      | inl q ↦ (let t = spec_cause env behind few1 fine1 x q.1 in (t.0, inr (inr (inl (q.0, t.1)))))
      | inr q ↦ (let t = ensures_cause rest q in (t.0, inr (inr (inr t.1))))
    ]

    words_in : (xs : List Annotation) → are_contracts (specs_in (map annotation_of xs)) ≡ false → Caused (λ t. InContracts t env before behind xs)
    words_in [] h = absurd (cc h)
    words_in (x ∷ rest) h = elim (all_split (λ s. same_role Precondition (role_of s) || same_role Postcondition (role_of s)) (annotation_of x) (specs_in (map annotation_of rest)) h) [
      | inl q ↦ (let t = words_cause x.specs.items q in (t.0, inl t.1))
      | inr q ↦ (let t = words_in rest q in (t.0, inr t.1))
    ]

    requires_in : (xs : List Annotation) → conditions env Precondition before (specs_in (map annotation_of xs)) ≡ None → Caused (λ t. InContracts t env before behind xs)
    requires_in [] h = absurd (cc h)
    requires_in (x ∷ rest) h = elim (conditions_split env before Precondition (annotation_of x) (specs_in (map annotation_of rest)) h) [
      | inl q ↦ (let t = requires_cause x.specs.items q in (t.0, inl t.1))
      | inr q ↦ (let t = requires_in rest q in (t.0, inr t.1))
    ]

    ensures_in : (xs : List Annotation) → conditions env Postcondition behind (specs_in (map annotation_of xs)) ≡ None → Caused (λ t. InContracts t env before behind xs)
    ensures_in [] h = absurd (cc h)
    ensures_in (x ∷ rest) h = elim (conditions_split env behind Postcondition (annotation_of x) (specs_in (map annotation_of rest)) h) [
      | inl q ↦ (let t = ensures_cause x.specs.items q in (t.0, inl t.1))
      | inr q ↦ (let t = ensures_in rest q in (t.0, inr t.1))
    ]

  -- ---- functions

  parts_cause : GiveFine env → (f : Signature) (h : Header) (body : List Statement) → AllSmall f.parameters → is_fine f.result ≡ true → typed_parts env f (header_of h) (statements_of body) ≡ None → Caused (λ t. InTypes t env f h body)
  parts_cause results f h body few gives e =
      let locals : List Local = parameters_from 1 (header_of h).parameters f.parameters in
      let specs : List tree.Spec = specs_in (header_of h).annotations in
      let low : SmallLocals locals = parameters_small 1 (header_of h).parameters f.parameters few in
      let found : (x : Name) → AllSome (λ l. is_small l.resolved ≡ true) (local_of locals x) = λ x. found_small locals x low in
      let before : Context = record { locals = locals; result = None } in
      let behind : Context = record { locals = locals; result = result_of f.result } in
      let s : Scope = record { locals = locals; parameters = length f.parameters; declared = []; result = f.result; in_loop = false } in
      elim (split_if (keeps_parameters (header_of h) (statements_of body)) _ e) [
        | inl q ↦ (let t = kept_cause h body q in (t.0, inr (inl t.1)))
        | inr q ↦ elim (split_if (are_contracts specs) _ q.1) [
          | inl w ↦ (let t = words_in before behind found tt found (result_fine f.result gives) h.annotations.items w in (t.0, inl t.1))
          | inr w ↦ elim (split (conditions env Precondition before specs) _ w.1) [
            | inl z ↦ (let t = requires_in before behind found tt found (result_fine f.result gives) h.annotations.items z in (t.0, inl t.1))
            | inr z ↦ elim (split (conditions env Postcondition behind specs) _ z.2) [
              | inl y ↦ (let t = ensures_in before behind found tt found (result_fine f.result gives) h.annotations.items y in (t.0, inl t.1))
              | inr y ↦ elim (split (typed_statements env (statements_of body) s) _ y.2) [ inl v ↦ (let t = body_cause env results s low body v in (t.0, inr (inr t.1))) | inr v ↦ absurd (cc v.2) ]
            ]
          ]
        ]
      ]

  pub function_cause : GiveFine env → (f : Signature) (h : Header) (body : List Statement) → AllSmall f.parameters → is_fine f.result ≡ true → typed_function env f (header_of h) (statements_of body) ≡ None → Caused (λ t. InFunction t env f h body)
  function_cause results f h body few gives e = elim (split (typed_parts env f (header_of h) (statements_of body)) _ e) [
    | inl q ↦ (let t = parts_cause results f h body few gives q in (t.0, inl t.1))
    | inr q ↦ elim (split_if (paths_agree f (statements_of body)) _ q.2) [
      | inl w ↦ (let t = paths_cause f h body w in (t.0, inr (q.0, q.1, t.1)))
      | inr w ↦ absurd (cc w.1)
    ]
  ]
