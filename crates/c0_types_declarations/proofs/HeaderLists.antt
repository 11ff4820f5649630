-- Lists of parameters and of fields, looked at from the front.
use Rattle.std.proofs.Common.{◌≡◌, inl, inr, ℕ, zero, suc, ◌+◌, ◌<◌, ◌≤◌, min, add-one, arith, List, [], ◌∷◌, ◌++◌, length, get_or, map, drop, refl, sym, ap, ◌∙◌, subst, Bool, true, false, Option, Some, None}
use Rattle.std.specs.Prelude.{◌&&◌, ◌||◌, not, bytes_eq, slice_get}
use Rattle.std.specs.List.{list_all, list_any}
use Rattle.std.specs.BTreeSet.{insert_key}
use Rattle.std.specs.BTreeMap.{is_at}
use Rattle.std.specs.Cmp.Lexicographic.{slice_cmp}
use Rattle.std.specs.Ordering.{nat_cmp, is_eq, match_ordering}
use Rattle.std.specs.declared.cmp.Ordering.{Ordering}
use Rattle.std.specs.declared.cmp.Ordering.TheVariants as o
use Rattle.std.proofs.lemmas.Bool.{eq-eqb}
use Rattle.std.proofs.lemmas.List.{drop_more, append_assoc}
use Rattle.std.proofs.lemmas.Map.Text.{is_eq-slice_cmp}
use denote.Ref.{Bor}
use Rattle.c0_source.specs.declared.fault.Fault.{Fault}
use Rattle.c0_source.specs.declared.fault.FaultKind.TheVariants as k
use Rattle.c0_syntax.specs.declared.program.TypedName.{TypedName}
use Rattle.c0_syntax.specs.declared.statement.Annotation.{Annotation}
use Rattle.c0_syntax.specs.declared.statement.Spec.{Spec}
use Rattle.c0_syntax.specs.Views.{annotation_of, name_of, spec_of, type_of, typed_name_of}
use Rattle.c0_rules.specs.Types.{Name, is_among, are_distinct, and_so, ResolvedType as Resolved, Environment, small_type}
use Rattle.c0_rules.specs.Programs.{are_none, names_of, parameter_types, parameters_from}
use Rattle.c0_types_tables.specs.declared.resolved.ResolvedType.{ResolvedType}
use Rattle.c0_rules.specs.FaultExpressions.{SmallTypeCause, Told}
use Rattle.c0_rules.specs.FaultPrograms.{AnySpec, AnySpecs, ParameterCause, SecondName}
use Rattle.c0_rules.specs.Expressions.{Local}
use Rattle.c0_rules.specs.Mentions.{specs_in}
use Rattle.c0_types_tables.specs.Views.{resolved_of}
use Rattle.c0_rules.proofs.Rules.{same_name_is}
use Rattle.c0_types_tables.proofs.Tables.{both_ways}

-- ---- names

-- a name is the same as itself
pub same_self : (n : Name) → bytes_eq n n ≡ true
same_self [] = refl
same_self (a ∷ n) = at _ (eq-eqb a a refl) (same_self n)
  where
    at : (b : Bool) → b ≡ true → bytes_eq n n ≡ true → (b && bytes_eq n n) ≡ true
    at true e h = h
    at false e h = absurd (cc e)

-- ---- no name twice

-- whether no name stands twice, or among those that came before
abbrev pub distinct_from : List Name → List Name → Bool
distinct_from seen [] = true
distinct_from seen (n ∷ names) = not (is_among n seen) && distinct_from (n ∷ seen) names

-- whether none of the names is one of the others
abbrev pub none_among : List Name → List Name → Bool
none_among seen names = list_all (λ m. not (is_among m seen)) names

none_more : (n : Name) (seen names : List Name) → none_among (n ∷ seen) names ≡ (not (is_among n names) && none_among seen names)
none_more n seen [] = refl
none_more n seen (m ∷ names) =
    ap (λ b. not (b || is_among m seen) && none_among (n ∷ seen) names) (both_ways m n)
    ∙ ap (λ b. not (bytes_eq n m || is_among m seen) && b) (none_more n seen names)
    ∙ at (bytes_eq n m) (is_among m seen) (is_among n names) (none_among seen names)
  where
    at : (a b x y : Bool) → (not (a || b) && (not x && y)) ≡ (not (a || x) && (not b && y))
    at true b x y = refl
    at false true true y = refl
    at false true false y = refl
    at false false x y = refl

distinct_both : (seen names : List Name) → distinct_from seen names ≡ (none_among seen names && are_distinct names)
distinct_both seen [] = refl
distinct_both seen (n ∷ names) =
    ap (λ b. not (is_among n seen) && b) (distinct_both (n ∷ seen) names)
    ∙ ap (λ b. not (is_among n seen) && (b && are_distinct names)) (none_more n seen names)
    ∙ at (not (is_among n seen)) (not (is_among n names)) (none_among seen names) (are_distinct names)
  where
    at : (a x y d : Bool) → (a && ((x && y) && d)) ≡ ((a && y) && (x && d))
    at true true y d = refl
    at true false true d = refl
    at true false false d = refl
    at false x y d = refl

none_before : (names : List Name) → none_among [] names ≡ true
none_before [] = refl
none_before (n ∷ names) = none_before names

-- from the first name on
pub distinct_first : (names : List Name) → distinct_from [] names ≡ are_distinct names
distinct_first names = distinct_both [] names ∙ ap (λ b. b && are_distinct names) (none_before names)

-- whether a name is one of these keys
abbrev pub is_key : List (Bor (List ℕ)) → Name → Bool
is_key keys n = list_any (is_at (λ k. slice_cmp nat_cmp n k.now)) keys

key_is : (n : Name) (k : Bor (List ℕ)) → is_at (λ z. slice_cmp nat_cmp n z.now) k ≡ bytes_eq n k.now
key_is n k = is_eq-slice_cmp n k.now

twice : (a b : Bool) → (a || b) ≡ (a || (a || b))
twice true b = refl
twice false b = refl

third_first : (a b c : Bool) → (a || (b || c)) ≡ (b || (a || c))
third_first true true c = refl
third_first true false c = refl
third_first false true c = refl
third_first false false c = refl

-- with one key more
pub key_more : (keys : List (Bor (List ℕ))) (k : Bor (List ℕ)) (n : Name)
    → is_key (insert_key (λ x y. slice_cmp nat_cmp x.now y.now) keys k) n ≡ (bytes_eq n k.now || is_key keys n)
key_more [] k n = ap (λ b. b || false) (key_is n k)
key_more (x ∷ keys) k n = at (slice_cmp nat_cmp k.now x.now) refl (key_more keys k n)
  where
    at : (w : Ordering) → slice_cmp nat_cmp k.now x.now ≡ w
        → is_key (insert_key (λ y z. slice_cmp nat_cmp y.now z.now) keys k) n ≡ (bytes_eq n k.now || is_key keys n)
        → is_key (match_ordering w (k ∷ x ∷ keys) (x ∷ keys) (x ∷ insert_key (λ y z. slice_cmp nat_cmp y.now z.now) keys k)) n ≡ (bytes_eq n k.now || is_key (x ∷ keys) n)
    at o.Less e more = ap (λ b. b || is_key (x ∷ keys) n) (key_is n k)
    at o.Equal e more =
        let same : k.now ≡ x.now = same_name_is k.now x.now (sym (key_is k.now x) ∙ ap is_eq e) in
        ap (λ b. b || is_key keys n) (key_is n x) ∙ twice (bytes_eq n x.now) (is_key keys n)
        ∙ ap (λ z. bytes_eq n z || (bytes_eq n x.now || is_key keys n)) (sym same)
        ∙ ap (λ b. bytes_eq n k.now || (b || is_key keys n)) (sym (key_is n x))
    at o.Greater e more =
        ap (λ b. is_at (λ z. slice_cmp nat_cmp n z.now) x || b) more
        ∙ third_first (is_at (λ z. slice_cmp nat_cmp n z.now) x) (bytes_eq n k.now) (is_key keys n)

-- the first of what is left, and the rest
pub first_left : {A : Type 0} (xs : List A) (i : ℕ) (x : A) → i < length xs → x ≡ get_or xs i x → drop i xs ≡ x ∷ drop (i + 1) xs
first_left xs i x h e = drop_more xs i x h ∙ ap (λ z. z ∷ drop (i + 1) xs) (sym e)

-- the names before a place among the parameters or fields, and what is left to look at
pub record Watches (keys : List (Bor (List ℕ))) (i : ℕ) (items : List TypedName) : Type 0 where
  pub names : List Name
  pub known : (n : Name) → is_key keys n ≡ is_among n names
  pub answers : distinct_from names (names_of (map typed_name_of (drop i items))) ≡ are_distinct (names_of (map typed_name_of items))
  pub cause : (f : Fault) → SecondName f names (drop i items) → SecondName f [] items

pub watch_first : (keys : List (Bor (List ℕ))) (items : List TypedName) → keys ≡ [] → Watches keys 0 items
watch_first keys items e = record { names = []; known = λ n. ap (λ z. is_key z n) e; answers = distinct_first (names_of (map typed_name_of items)); cause = λ f h. h }

module _ (keys : List (Bor (List ℕ))) (i : ℕ) (items : List TypedName) (w : Watches keys i items) (x : TypedName) (h : i < length items) (is : x ≡ get_or items i x) where
  watch_split : distinct_from w.names (names_of (map typed_name_of (drop i items)))
      ≡ (not (is_among (name_of x.name) w.names) && distinct_from (name_of x.name ∷ w.names) (names_of (map typed_name_of (drop (i + 1) items))))
  watch_split = ap (λ z. distinct_from w.names (names_of (map typed_name_of z))) (first_left items i x h is)

  -- a name that was not there before
  pub watch_more : (key : Bor (List ℕ)) → key.now ≡ name_of x.name → not (is_key keys key.now) ≡ true
      → Watches (insert_key (λ y z. slice_cmp nat_cmp y.now z.now) keys key) (i + 1) items
  watch_more key e new =
      let fresh : not (is_among (name_of x.name) w.names) ≡ true = ap (λ n. not (is_among n w.names)) (sym e) ∙ ap not (sym (w.known key.now)) ∙ new in
      record {
        names = name_of x.name ∷ w.names;
        known = λ n. key_more keys key n ∙ ap (λ b. bytes_eq n key.now || b) (w.known n) ∙ ap (λ z. bytes_eq n z || is_among n w.names) e;
        answers = sym (watch_split ∙ ap (λ b. b && distinct_from (name_of x.name ∷ w.names) (names_of (map typed_name_of (drop (i + 1) items)))) fresh) ∙ w.answers;
        cause = λ f g. w.cause f (subst (λ z. SecondName f w.names z) (sym (first_left items i x h is)) (inr g));
      }

  -- a name that was there before
  pub watch_here : (key : Bor (List ℕ)) → key.now ≡ name_of x.name → not (is_key keys key.now) ≡ false → is_among (name_of x.name) w.names ≡ true
  watch_here key e old = ap (λ n. is_among n w.names) (sym e) ∙ sym (w.known key.now) ∙ is_true (is_key keys key.now) old
    where
      is_true : (b : Bool) → not b ≡ false → b ≡ true
      is_true true g = refl
      is_true false g = absurd (cc g)

  pub watch_ends : is_among (name_of x.name) w.names ≡ true → are_distinct (names_of (map typed_name_of items)) ≡ false
  watch_ends e = sym w.answers ∙ watch_split ∙ ap (λ b. not b && distinct_from (name_of x.name ∷ w.names) (names_of (map typed_name_of (drop (i + 1) items)))) e

  pub watch_told : (f : Fault) → is_among (name_of x.name) w.names ≡ true → Told k.DuplicateName x.name.span f → SecondName f [] items
  watch_told f e g = w.cause f (subst (λ z. SecondName f w.names z) (sym (first_left items i x h is)) (inl (e, g)))

-- ---- types of parameters

-- the types so far, and what is left to look at
pub record Takes (env : Environment) (types : List Resolved) (i : ℕ) (items : List TypedName) : Type 0 where
  pub answers : and_so (parameter_types env.typedefs (map typed_name_of (drop i items))) (λ rs. Some (types ++ rs)) ≡ parameter_types env.typedefs (map typed_name_of items)
  pub cause : (f : Fault) → ParameterCause f env (drop i items) → ParameterCause f env items

pub same_so : {A : Type 0} (o : Option A) → and_so o (λ a. Some a) ≡ o
same_so None = refl
same_so (Some a) = refl

pub take_first : (env : Environment) (types : List Resolved) (items : List TypedName) → types ≡ [] → Takes env types 0 items
take_first env types items e = record {
  answers = ap (λ z. and_so (parameter_types env.typedefs (map typed_name_of items)) (λ rs. Some (z ++ rs))) e ∙ same_so (parameter_types env.typedefs (map typed_name_of items));
  cause = λ f h. h;
}

pub one_more : {A : Type 0} (xs : List A) (x : A) (o : Option (List A)) → and_so (and_so o (λ rs. Some (x ∷ rs))) (λ rs. Some (xs ++ rs)) ≡ and_so o (λ rs. Some ((xs ++ x ∷ []) ++ rs))
one_more xs x None = refl
one_more xs x (Some rs) = ap Some (sym (append_assoc xs (x ∷ []) rs))

module _ (env : Environment) (types : List Resolved) (i : ℕ) (items : List TypedName) (w : Takes env types i items) where
  module _ (x : TypedName) (h : i < length items) (is : x ≡ get_or items i x) where
    take_split : and_so (parameter_types env.typedefs (map typed_name_of (drop i items))) (λ rs. Some (types ++ rs))
        ≡ and_so (and_so (small_type env.typedefs (type_of x.value_type)) (λ r. and_so (parameter_types env.typedefs (map typed_name_of (drop (i + 1) items))) (λ rs. Some (r ∷ rs)))) (λ rs. Some (types ++ rs))
    take_split = ap (λ z. and_so (parameter_types env.typedefs (map typed_name_of z)) (λ rs. Some (types ++ rs))) (first_left items i x h is)

    pub take_more : (r : Resolved) → small_type env.typedefs (type_of x.value_type) ≡ Some r → Takes env (types ++ r ∷ []) (i + 1) items
    take_more r e = record {
      answers =
          sym (one_more types r (parameter_types env.typedefs (map typed_name_of (drop (i + 1) items))))
          ∙ ap (λ o. and_so (and_so o (λ s. and_so (parameter_types env.typedefs (map typed_name_of (drop (i + 1) items))) (λ rs. Some (s ∷ rs)))) (λ rs. Some (types ++ rs))) (sym e)
          ∙ sym take_split ∙ w.answers;
      cause = λ f g. w.cause f (subst (λ z. ParameterCause f env z) (sym (first_left items i x h is)) (inr g));
    }

    pub take_none : small_type env.typedefs (type_of x.value_type) ≡ None → parameter_types env.typedefs (map typed_name_of items) ≡ None
    take_none e =
        sym w.answers ∙ take_split
        ∙ ap (λ o. and_so (and_so o (λ s. and_so (parameter_types env.typedefs (map typed_name_of (drop (i + 1) items))) (λ rs. Some (s ∷ rs)))) (λ rs. Some (types ++ rs))) e

    pub take_told : (f : Fault) → SmallTypeCause env.typedefs f x.value_type → ParameterCause f env items
    take_told f g = w.cause f (subst (λ z. ParameterCause f env z) (sym (first_left items i x h is)) (inl g))

-- ---- specs

-- what is left to look at
pub record SpecsLeft (i : ℕ) (notes : List Annotation) : Type 0 where
  pub answers : are_none (specs_in (map annotation_of (drop i notes))) ≡ are_none (specs_in (map annotation_of notes))
  pub cause : (f : Fault) → AnySpecs f (drop i notes) → AnySpecs f notes

module _ (i : ℕ) (notes : List Annotation) (w : SpecsLeft i notes) (x : Annotation) (h : i < length notes) (is : x ≡ get_or notes i x) where
  -- an annotation without specs
  pub specs_more : x.specs.items ≡ [] → SpecsLeft (i + 1) notes
  specs_more e = record {
    answers = ap (λ z. are_none (map spec_of z ++ specs_in (map annotation_of (drop (i + 1) notes)))) (sym e) ∙ sym (ap (λ z. are_none (specs_in (map annotation_of z))) (first_left notes i x h is)) ∙ w.answers;
    cause = λ f g. w.cause f (subst (λ z. AnySpecs f z) (sym (first_left notes i x h is)) (inr g));
  }

  -- an annotation with a spec
  pub specs_here : (s : Spec) (rest : List Spec) → x.specs.items ≡ s ∷ rest → are_none (specs_in (map annotation_of notes)) ≡ false
  specs_here s rest e = sym w.answers ∙ ap (λ z. are_none (specs_in (map annotation_of z))) (first_left notes i x h is) ∙ ap (λ z. are_none (map spec_of z ++ specs_in (map annotation_of (drop (i + 1) notes)))) e

  pub specs_told : (f : Fault) (s : Spec) (rest : List Spec) → x.specs.items ≡ s ∷ rest → Told k.BadContract s.word f → AnySpecs f notes
  specs_told f s rest e g = w.cause f (subst (λ z. AnySpecs f z) (sym (first_left notes i x h is)) (inl (subst (λ z. AnySpec f z) (sym e) (inl g))))

-- the first of some
pub head_is : {A : Type 0} (xs : List A) (x : A) → slice_get xs 0 ≡ Some x → xs ≡ x ∷ drop 1 xs
head_is [] x e = absurd (cc e)
head_is (y ∷ xs) x e = cc e

-- no first
pub none_is : {A : Type 0} (xs : List A) → None ≡ slice_get xs 0 → xs ≡ []
none_is [] e = refl
none_is (x ∷ xs) e = absurd (cc e)

-- ---- parameters as locals

none_left : (k : ℕ) (items : List TypedName) → parameters_from k (map typed_name_of items) [] ≡ []
none_left k [] = refl
none_left k (x ∷ items) = refl

-- the first of what is left, and the rest
pub locals_more : (items : List TypedName) (types : List ResolvedType) (k i : ℕ) (x : TypedName) (r : ResolvedType) → i < length items → i < length types → x ≡ get_or items i x → r ≡ get_or types i r
    → parameters_from k (map typed_name_of (drop i items)) (map resolved_of (drop i types))
    ≡ record { name = name_of x.name; number = k; resolved = resolved_of r } ∷ parameters_from (k + 1) (map typed_name_of (drop (i + 1) items)) (map resolved_of (drop (i + 1) types))
locals_more items types k i x r h g e d =
    ap (λ z. parameters_from k (map typed_name_of z) (map resolved_of (drop i types))) (first_left items i x h e)
    ∙ ap (λ z. parameters_from k (map typed_name_of (x ∷ drop (i + 1) items)) (map resolved_of z)) (first_left types i r g d)
    ∙ ap (λ n. record { name = name_of x.name; number = k; resolved = resolved_of r } ∷ parameters_from n (map typed_name_of (drop (i + 1) items)) (map resolved_of (drop (i + 1) types))) (sym (add-one k))

-- nothing is left of one of them
pub locals_last : (k : ℕ) (items : List TypedName) (types : List ResolvedType) (i : ℕ) → min (length items) (length types) ≤ i → parameters_from k (map typed_name_of (drop i items)) (map resolved_of (drop i types)) ≡ []
locals_last k [] types zero h = refl
locals_last k [] types (suc i) h = refl
locals_last k (x ∷ items) [] zero h = refl
locals_last k (x ∷ items) [] (suc i) h = none_left k (drop i items)
locals_last k (x ∷ items) (r ∷ types) zero h = absurd (let z : ⊥ = omega (arith, h) in z)
locals_last k (x ∷ items) (r ∷ types) (suc i) h = locals_last k items types i (omega (arith, h))

-- with one local more
pub locals_push : (done all : List Local) (items : List TypedName) (types : List ResolvedType) (k i : ℕ) (x : TypedName) (r : ResolvedType) (l : Local) → i < length items → i < length types → x ≡ get_or items i x → r ≡ get_or types i r
    → l.name ≡ name_of x.name → l.number ≡ k → l.resolved ≡ resolved_of r
    → done ++ parameters_from k (map typed_name_of (drop i items)) (map resolved_of (drop i types)) ≡ all
    → (done ++ l ∷ []) ++ parameters_from (k + 1) (map typed_name_of (drop (i + 1) items)) (map resolved_of (drop (i + 1) types)) ≡ all
locals_push done all items types k i x r l h g e d a b q inv =
    let made : l ≡ record { name = name_of x.name; number = k; resolved = resolved_of r } = λ i. record { name = a i; number = b i; resolved = q i } in
    append_assoc done (l ∷ []) (parameters_from (k + 1) (map typed_name_of (drop (i + 1) items)) (map resolved_of (drop (i + 1) types)))
    ∙ ap (λ z. done ++ z ∷ parameters_from (k + 1) (map typed_name_of (drop (i + 1) items)) (map resolved_of (drop (i + 1) types))) made
    ∙ ap (λ z. done ++ z) (sym (locals_more items types k i x r h g e d)) ∙ inv
