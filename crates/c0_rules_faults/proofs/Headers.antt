-- A header, a contract or a function in which a fault has its cause is refused.
use Rattle.std.proofs.Common.{◌≡◌, ◌⊎◌, inl, inr, ℕ, suc, List, [], ◌∷◌, ◌++◌, length, refl, sym, ap, ◌∙◌, subst, Bool, true, false, Option, Some, None}
use Rattle.std.specs.Prelude.{◌&&◌, ◌||◌, not, map, bytes_eq, is_some}
use Rattle.std.specs.List.{list_all, list_any}
use Rattle.c0_source.specs.declared.fault.Fault.{Fault}
use Rattle.c0_syntax.specs.declared.statement.Spec as p
use Rattle.c0_syntax.specs.declared.statement.Annotation.{Annotation}
use Rattle.c0_syntax.specs.declared.statement.Statement.{Statement}
use Rattle.c0_syntax.specs.declared.program.TypedName.{TypedName}
use Rattle.c0_syntax.specs.declared.program.Header.{Header}
use Rattle.c0_syntax.specs.Trees as tree
use Rattle.c0_syntax.specs.Views.{name_of, spec_of, annotation_of, statements_of, typed_name_of, header_of}
use Rattle.c0_rules.specs.Types.{Name, is_among, are_distinct, ResolvedType, small_type, result_type, Signature, Environment, output_named}
use Rattle.c0_rules.specs.Mentions.{specs_in}
use Rattle.c0_rules.specs.Expressions.{Context}
use Rattle.c0_rules.specs.Statements.{Precondition, Postcondition, Scope, role_of, same_role, conditions}
use Rattle.c0_rules.specs.Programs.{parameter_types, names_of, parameters_from, same_signature, agrees, is_defined, names_function, names_agree, signature, result_of, are_contracts, keeps_parameters, typed_parts, typed_function}
use Rattle.c0_rules.specs.FaultPrograms.{SecondName, ParameterCause, InHeader, InContract, InContracts, FunctionParameter, InTypes, InFunction}
use Rattle.c0_rules.proofs.Rules.{same_name_is}
use Rattle.c0_rules.proofs.Statements.{AllSmall}
use Rattle.c0_rules_faults.proofs.Refused.{and_none, and_each, and_at, provided_none, provided_false, and_false, false_and}
use Rattle.c0_rules_faults.proofs.Expressions.{TakeSmall}
use Rattle.c0_rules_faults.proofs.Specs.{conditions_front, conditions_back, one_none, later_none}
use Rattle.c0_rules_faults.proofs.Statements.{SmallLocals, small_type_none, body_none}
use Rattle.c0_rules_faults.proofs.Tests.{true_or, or_true, one_is, all_front, all_back}
use Rattle.c0_rules_faults.proofs.Paths.{kept_none, paths_none}

-- ---- names that stand twice

pub turned : (x y : Name) → bytes_eq x y ≡ true → bytes_eq y x ≡ true
turned x y h =
    let q : x ≡ y = same_name_is x y h in
    let own : bytes_eq x x ≡ true = subst (λ z. bytes_eq x z ≡ true) (sym q) h in
    subst (λ z. bytes_eq z x ≡ true) q own

-- one of the names is one of the others
abbrev pub meets : List Name → List Name → Bool
meets seen names = list_any (λ s. is_among s names) seen

meets_first : (x : Name) (names seen : List Name) → is_among x seen ≡ true → meets seen (x ∷ names) ≡ true
meets_first x names [] h = absurd (cc h)
meets_first x names (s ∷ seen) h =
    elim (one_is (bytes_eq x s) (is_among x seen) h) [
      | inl q ↦ true_or (is_among s (x ∷ names)) _ (true_or (bytes_eq s x) _ (turned x s q))
      | inr q ↦ or_true (is_among s (x ∷ names)) _ (meets_first x names seen q)
    ]

meets_later : (x : Name) (names seen : List Name) → meets seen names ≡ true → meets seen (x ∷ names) ≡ true
meets_later x names [] h = absurd (cc h)
meets_later x names (s ∷ seen) h =
    elim (one_is (is_among s names) (meets seen names) h) [
      | inl q ↦ true_or (is_among s (x ∷ names)) _ (or_true (bytes_eq s x) _ q)
      | inr q ↦ or_true (is_among s (x ∷ names)) _ (meets_later x names seen q)
    ]

second : (fault : Fault) (seen : List Name) (xs : List TypedName) → SecondName fault seen xs
    → (meets seen (names_of (map typed_name_of xs)) ≡ true) ⊎ (are_distinct (names_of (map typed_name_of xs)) ≡ false)
second fault seen [] h = absurd h
second fault seen (x ∷ rest) (inl h) = inl (meets_first (name_of x.name) (names_of (map typed_name_of rest)) seen h.0)
second fault seen (x ∷ rest) (inr h) =
    elim (second fault (name_of x.name ∷ seen) rest h) [
      | inl q ↦ elim (one_is (is_among (name_of x.name) (names_of (map typed_name_of rest))) (meets seen (names_of (map typed_name_of rest))) q) [
        | inl w ↦ inr (false_and (not (is_among (name_of x.name) (names_of (map typed_name_of rest)))) _ (ap not w))
        | inr w ↦ inl (meets_later (name_of x.name) (names_of (map typed_name_of rest)) seen w)
      ]
      | inr q ↦ inr (and_false (not (is_among (name_of x.name) (names_of (map typed_name_of rest)))) _ q)
    ]

pub not_distinct : (fault : Fault) (xs : List TypedName) → SecondName fault [] xs → are_distinct (names_of (map typed_name_of xs)) ≡ false
not_distinct fault xs h = elim (second fault [] xs h) [ inl q ↦ absurd (cc q) | inr q ↦ q ]

-- ---- parameters as locals

pub parameters_small : (k : ℕ) (xs : List tree.TypedName) (rs : List ResolvedType) → AllSmall rs → SmallLocals (parameters_from k xs rs)
parameters_small k [] rs h = tt
parameters_small k (x ∷ xs) [] h = tt
parameters_small k (x ∷ xs) (r ∷ rs) h = (h.0, parameters_small (suc k) xs rs h.1)

module _ (env : Environment) (fault : Fault) (small : TakeSmall env) where
  no_parameters : (xs : List TypedName) → ParameterCause fault env xs → parameter_types env.typedefs (map typed_name_of xs) ≡ None
  no_parameters [] h = absurd h
  no_parameters (x ∷ rest) (inl h) = and_none _ _ (small_type_none env fault small x.value_type h)
  no_parameters (x ∷ rest) (inr h) = and_each (small_type env.typedefs (typed_name_of x).value_type) _ (λ r q. and_none _ _ (no_parameters rest h))

  function_named : (own : Name) (xs : List TypedName) → FunctionParameter fault env own xs → list_all (λ n. not (names_function env own n)) (names_of (map typed_name_of xs)) ≡ false
  function_named own [] h = absurd h
  function_named own (x ∷ rest) (inl h) = false_and (not (names_function env own (name_of x.name))) _ (ap not h.0)
  function_named own (x ∷ rest) (inr h) = and_false (not (names_function env own (name_of x.name))) _ (function_named own rest h)

  -- a second definition agrees with no first one
  twice : (f : Signature) (o : Option Signature) → (f.defined && is_defined o) ≡ true → agrees f o ≡ false
  twice f None h = let z : true ≡ false = sym h ∙ and_false f.defined false refl in absurd (cc z)
  twice f (Some old) h = and_false (same_signature f old) _ (ap not h)

  -- a name that may not stand there
  taken : (f : Signature) (distinct : Bool) → (is_some (output_named env.conio f.name) || (f.defined && is_defined (env.functions f.name))) ≡ true
      → (distinct && not (is_some (output_named env.conio f.name)) && agrees f (env.functions f.name)) ≡ false
  taken f distinct q = elim (one_is (is_some (output_named env.conio f.name)) (f.defined && is_defined (env.functions f.name)) q) [
    | inl w ↦ false_and (distinct && not (is_some (output_named env.conio f.name))) (agrees f (env.functions f.name)) (and_false distinct (not (is_some (output_named env.conio f.name))) (ap not w))
    | inr w ↦ and_false (distinct && not (is_some (output_named env.conio f.name))) (agrees f (env.functions f.name)) (twice f (env.functions f.name) w)
  ]

  header_step : (defined : Bool) (h : Header) → ((r : ResolvedType) (rs : List ResolvedType) → names_agree env (header_of h) (record { name = name_of h.name; result = r; parameters = rs; defined = defined }) ≡ false)
      → signature env defined (header_of h) ≡ None
  header_step defined h k =
      and_each (result_type env.typedefs (header_of h).result) _ (λ r w. and_each (parameter_types env.typedefs (header_of h).parameters) _ (λ rs v. provided_false _ _ (k r rs)))

  pub header_none : (defined : Bool) (h : Header) → InHeader fault env defined h → signature env defined (header_of h) ≡ None
  header_none defined h (inl q) = and_none _ _ q.0
  header_none defined h (inr (inl q)) = header_step defined h (λ r rs.
      false_and _ _ (taken (record { name = name_of h.name; result = r; parameters = rs; defined = defined }) (are_distinct (names_of (header_of h).parameters)) q.0))
  header_none defined h (inr (inr (inl q))) = and_each (result_type env.typedefs (header_of h).result) _ (λ r w. and_none _ _ (no_parameters h.parameters.items q))
  header_none defined h (inr (inr (inr (inl q)))) = header_step defined h (λ r rs. false_and _ _ (false_and _ _ (false_and _ _ (not_distinct fault h.parameters.items q))))
  header_none defined h (inr (inr (inr (inr (inl q))))) = header_step defined h (λ r rs.
      and_false
      (are_distinct (names_of (header_of h).parameters) && not (is_some (output_named env.conio (name_of h.name)))
      && agrees (record { name = name_of h.name; result = r; parameters = rs; defined = defined }) (env.functions (name_of h.name)))
      _
      (ap (λ b. not b || list_all (λ n. not (names_function env (name_of h.name) n)) (names_of (header_of h).parameters)) q.0 ∙ function_named (name_of h.name) h.parameters.items q.1))
  header_none defined h (inr (inr (inr (inr (inr q))))) =
      and_at (result_type env.typedefs (header_of h).result) q.0 _ q.3 (and_at (parameter_types env.typedefs (header_of h).parameters) q.1 _ q.4
      (let f : Signature = record { name = name_of h.name; result = q.0; parameters = q.1; defined = defined } in
      provided_false _ _ (false_and _ _ (and_false (are_distinct (names_of (header_of h).parameters) && not (is_some (output_named env.conio (name_of h.name)))) (agrees f (env.functions (name_of h.name)))
      (ap (agrees f) q.5 ∙ false_and (same_signature f q.2) _ q.6.1)))))

  -- ---- contracts

  -- the specs are not all of contracts, or one of their conditions is refused
  abbrev Refused : Context → Context → List tree.Spec → Type 0
  Refused before behind specs =
      (are_contracts specs ≡ false) ⊎ (conditions env Precondition before specs ≡ None) ⊎ (conditions env Postcondition behind specs ≡ None)

  -- whether a spec is one of a contract
  abbrev is_contract : tree.Spec → Bool
  is_contract s = same_role Precondition (role_of s) || same_role Postcondition (role_of s)

  contract : (before behind : Context) (xs : List p.Spec) → InContract fault env before behind xs → Refused before behind (map spec_of xs)
  contract before behind [] h = absurd h
  contract before behind (x ∷ rest) (inl h) = inl (false_and (is_contract (spec_of x)) _ h.0)
  contract before behind (x ∷ rest) (inr (inl h)) = inr (inl (one_none env fault small Precondition before x (map spec_of rest) h.0 h.1))
  contract before behind (x ∷ rest) (inr (inr (inl h))) = inr (inr (one_none env fault small Postcondition behind x (map spec_of rest) h.0 h.1))
  contract before behind (x ∷ rest) (inr (inr (inr h))) =
      elim (contract before behind rest h) [
        | inl q ↦ inl (and_false (is_contract (spec_of x)) _ q)
        | inr (inl q) ↦ inr (inl (later_none env fault small Precondition before (spec_of x) (map spec_of rest) q))
        | inr (inr q) ↦ inr (inr (later_none env fault small Postcondition behind (spec_of x) (map spec_of rest) q))
      ]

  in_front : (before behind : Context) (xs ys : List tree.Spec) → Refused before behind xs → Refused before behind (xs ++ ys)
  in_front before behind xs ys (inl q) = inl (all_front is_contract xs ys q)
  in_front before behind xs ys (inr (inl q)) = inr (inl (conditions_front env fault small Precondition before xs ys q))
  in_front before behind xs ys (inr (inr q)) = inr (inr (conditions_front env fault small Postcondition behind xs ys q))

  in_back : (before behind : Context) (xs ys : List tree.Spec) → Refused before behind ys → Refused before behind (xs ++ ys)
  in_back before behind xs ys (inl q) = inl (all_back is_contract xs ys q)
  in_back before behind xs ys (inr (inl q)) = inr (inl (conditions_back env fault small Precondition before xs ys q))
  in_back before behind xs ys (inr (inr q)) = inr (inr (conditions_back env fault small Postcondition behind xs ys q))

  contracts : (before behind : Context) (xs : List Annotation) → InContracts fault env before behind xs → Refused before behind (specs_in (map annotation_of xs))
  contracts before behind [] h = absurd h
  contracts before behind (x ∷ rest) (inl h) = in_front before behind (annotation_of x) (specs_in (map annotation_of rest)) (contract before behind x.specs.items h)
  contracts before behind (x ∷ rest) (inr h) = in_back before behind (annotation_of x) (specs_in (map annotation_of rest)) (contracts before behind rest h)

  -- ---- functions

  parts_none : (f : Signature) (h : Header) (body : List Statement) → AllSmall f.parameters → InTypes fault env f h body → typed_parts env f (header_of h) (statements_of body) ≡ None
  parts_none f h body few (inl q) =
      let locals = parameters_from 1 (header_of h).parameters f.parameters in
      let specs = specs_in (header_of h).annotations in
      provided_none (keeps_parameters (header_of h) (statements_of body)) _
      (elim (contracts (record { locals = locals; result = None }) (record { locals = locals; result = result_of f.result }) h.annotations.items q) [
        | inl w ↦ provided_false _ _ w
        | inr (inl w) ↦ provided_none (are_contracts specs) _ (and_none _ _ w)
        | inr (inr w) ↦ provided_none (are_contracts specs) _ (and_each (conditions env Precondition (record { locals = locals; result = None }) specs) _ (λ x v. and_none _ _ w))
      ])
  parts_none f h body few (inr (inl q)) = provided_false _ _ (kept_none fault h body q)
  parts_none f h body few (inr (inr q)) =
      let locals = parameters_from 1 (header_of h).parameters f.parameters in
      let specs = specs_in (header_of h).annotations in
      let s : Scope = record { locals = locals; parameters = length f.parameters; declared = []; result = f.result; in_loop = false } in
      provided_none (keeps_parameters (header_of h) (statements_of body)) _ (provided_none (are_contracts specs) _
      (and_each (conditions env Precondition (record { locals = locals; result = None }) specs) _ (λ x v.
      and_each (conditions env Postcondition (record { locals = locals; result = result_of f.result }) specs) _ (λ y w.
      and_none _ _ (body_none env fault small s (parameters_small 1 (header_of h).parameters f.parameters few) body q)))))

  pub function_none : (f : Signature) (h : Header) (body : List Statement) → AllSmall f.parameters → InFunction fault env f h body → typed_function env f (header_of h) (statements_of body) ≡ None
  function_none f h body few (inl q) = and_none _ _ (parts_none f h body few q)
  function_none f h body few (inr q) = and_at (typed_parts env f (header_of h) (statements_of body)) q.0 _ q.1 (provided_false _ _ (paths_none fault f h body q.2))
