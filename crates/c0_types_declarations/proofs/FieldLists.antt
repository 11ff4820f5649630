-- Lists of fields, looked at from the front.
use Rattle.std.proofs.Common.{◌≡◌, inl, inr, ℕ, suc, ◌+◌, ◌<◌, ◌≤◌, arith, List, [], ◌∷◌, ◌++◌, length, get_or, map, drop, refl, sym, ap, ◌∙◌, subst, Bool, true, false, Option, Some, None}
use Rattle.std.specs.Prelude.{is_some, cond, bytes_eq, string_bytes}
use Rattle.std.proofs.lemmas.List.{append_assoc, append-nil, map-append}
use Rattle.c0_source.specs.declared.fault.Fault.{Fault}
use Rattle.c0_syntax.specs.declared.program.TypedName.{TypedName}
use Rattle.c0_syntax.specs.Views.{name_of, type_of, typed_name_of}
use Rattle.c0_typed.specs.Trees.{Ty}
use Rattle.c0_types_declarations.specs.declared.definitions.Field.{Field}
use Rattle.c0_types_declarations.specs.DeclarationViews.{held_type, typed_field_of}
use Rattle.c0_rules.specs.Expressions.{num}
use Rattle.c0_rules.specs.FaultExpressions.{HeldTypeCause}
use Rattle.c0_rules.specs.FaultPrograms.{InFields}
use Rattle.c0_rules.specs.Programs.{cells_in, field_types, fields_of}
use Rattle.c0_rules.specs.Types.{Environment, FieldEntry, Name, ResolvedType, StructEntry, Table, and_so, cells_of, field_of, no_names, provided, resolved_type, with_name}
use Rattle.c0_types_tables.specs.Views.{resolved_of}
use Rattle.c0_types_declarations.proofs.HeaderLists.{first_left, one_more, same_so}
use Rattle.c0_rules.proofs.Sizes.{length_more}

-- ---- types of fields

held_some : {A B : Type 0} (o : Option A) (cells : A → Option ℕ) (go : A → Option B) (a : A) → and_so o (λ r. provided (is_some (cells r)) (Some r)) ≡ Some a → and_so o (λ r. and_so (cells r) (λ c. go r)) ≡ go a
held_some None cells go a e = absurd (cc e)
held_some (Some r) cells go a e = at (cells r) e
  where
    at : (c : Option ℕ) → provided (is_some c) (Some r) ≡ Some a → and_so c (λ k. go r) ≡ go a
    at None h = absurd (cc h)
    at (Some k) h = let same : r ≡ a = cc h in ap go same

held_none : {A B : Type 0} (o : Option A) (cells : A → Option ℕ) (go : A → Option B) → ◌≡◌ {A = Option A} (and_so o (λ r. provided (is_some (cells r)) (Some r))) None → ◌≡◌ {A = Option B} (and_so o (λ r. and_so (cells r) (λ c. go r))) None
held_none {A = A} {B = B} None cells go e = refl
held_none {A = A} {B = B} (Some r) cells go e = at (cells r) e
  where
    at : (c : Option ℕ) → ◌≡◌ {A = Option A} (provided (is_some c) (Some r)) None → ◌≡◌ {A = Option B} (and_so c (λ k. go r)) None
    at None h = refl
    at (Some k) h = absurd (cc h)

-- the fields so far, and what is left to look at
pub record Holds (env : Environment) (fields : List FieldEntry) (i : ℕ) (items : List TypedName) : Type 0 where
  pub answers : and_so (fields_of env (map typed_name_of (drop i items))) (λ fs. Some (fields ++ fs)) ≡ fields_of env (map typed_name_of items)
  pub cause : (f : Fault) → InFields f env (drop i items) → InFields f env items

pub hold_first : (env : Environment) (fields : List FieldEntry) (items : List TypedName) → fields ≡ [] → Holds env fields 0 items
hold_first env fields items e = record {
  answers = ap (λ z. and_so (fields_of env (map typed_name_of items)) (λ fs. Some (z ++ fs))) e ∙ same_so (fields_of env (map typed_name_of items));
  cause = λ f h. h;
}

module _ (env : Environment) (fields : List FieldEntry) (i : ℕ) (items : List TypedName) (w : Holds env fields i items) where
  module _ (x : TypedName) (h : i < length items) (is : x ≡ get_or items i x) where
    hold_split : and_so (fields_of env (map typed_name_of (drop i items))) (λ fs. Some (fields ++ fs)) ≡ and_so (fields_of env (typed_name_of x ∷ map typed_name_of (drop (i + 1) items))) (λ fs. Some (fields ++ fs))
    hold_split = ap (λ z. and_so (fields_of env (map typed_name_of z)) (λ fs. Some (fields ++ fs))) (first_left items i x h is)

    -- a field of a type that memory can hold
    pub hold_more : (f : FieldEntry) → f.name ≡ name_of x.name → held_type env (type_of x.value_type) ≡ Some f.resolved → Holds env (fields ++ f ∷ []) (i + 1) items
    hold_more f n e =
        let rest = fields_of env (map typed_name_of (drop (i + 1) items)) in
        let made : record { name = name_of x.name; resolved = f.resolved } ≡ f = λ j. record { name = sym n j; resolved = f.resolved } in
        let step = held_some (resolved_type env.typedefs (type_of x.value_type)) (cells_of env.structs) (λ r. and_so rest (λ fs. Some (record { name = name_of x.name; resolved = r } ∷ fs))) f.resolved e in
        record {
          answers =
              sym (one_more fields f rest) ∙ ap (λ z. and_so (and_so rest (λ fs. Some (z ∷ fs))) (λ fs. Some (fields ++ fs))) (sym made)
              ∙ ap (λ o. and_so o (λ fs. Some (fields ++ fs))) (sym step) ∙ sym hold_split ∙ w.answers;
          cause = λ g d. w.cause g (subst (λ z. InFields g env z) (sym (first_left items i x h is)) (inr d));
        }

    pub hold_none : held_type env (type_of x.value_type) ≡ None → fields_of env (map typed_name_of items) ≡ None
    hold_none e =
        let rest = fields_of env (map typed_name_of (drop (i + 1) items)) in
        let step = held_none (resolved_type env.typedefs (type_of x.value_type)) (cells_of env.structs) (λ r. and_so rest (λ fs. Some (record { name = name_of x.name; resolved = r } ∷ fs))) e in
        sym w.answers ∙ hold_split ∙ ap (λ o. and_so o (λ fs. Some (fields ++ fs))) step

    pub hold_told : (f : Fault) → HeldTypeCause env f x.value_type → InFields f env items
    hold_told f g = w.cause f (subst (λ z. InFields f env z) (sym (first_left items i x h is)) (inl g))

-- ---- cells

-- the cells so far, and those of what is left
pub record Counts (structs : Table StructEntry) (sum i : ℕ) (fields : List Field) : Type 0 where
  pub small : sum ≤ 4096
  pub whole : sum + cells_in structs (map typed_field_of (drop i fields)) ≡ cells_in structs (map typed_field_of fields)

-- ---- fields in typed trees

-- the types of fields, structs by their numbers
abbrev pub numbers_of : Environment → List Field → List Ty
numbers_of env fields = map (num env) (field_types (map typed_field_of fields))

-- ---- fields by their names

-- the fields that are in the table, and those that are not yet
pub record Tabled (all : List FieldEntry) (rest : List Field) (table : Table (ℕ × ResolvedType)) : Type 0 where
  pub behind : List FieldEntry
  pub whole : map typed_field_of rest ++ behind ≡ all
  pub entries : (n : Name) → table n ≡ field_of (length rest) behind n

pub table_first : (rest : List Field) (table : Table (ℕ × ResolvedType)) → table ≡ no_names → Tabled (map typed_field_of rest) rest table
table_first rest table e = record { behind = []; whole = append-nil (map typed_field_of rest); entries = λ n. ap (λ t. t n) e }

-- with one field more, which stood before the others
pub table_more : (all : List FieldEntry) (rest old : List Field) (x : Field) (table : Table (ℕ × ResolvedType)) → old ≡ rest ++ x ∷ [] → Tabled all old table
    → Tabled all rest (with_name (string_bytes x.name) (length rest, resolved_of x.resolved) table)
table_more all rest old x table e w = record {
  behind = typed_field_of x ∷ w.behind;
  whole =
      sym (append_assoc (map typed_field_of rest) (typed_field_of x ∷ []) w.behind) ∙ ap (λ z. z ++ w.behind) (sym (map-append typed_field_of rest (x ∷ [])))
      ∙ ap (λ z. map typed_field_of z ++ w.behind) (sym e) ∙ w.whole;
  entries = λ n. ap (λ o. cond (bytes_eq n (string_bytes x.name)) (Some (length rest, resolved_of x.resolved)) o) (w.entries n ∙ ap (λ z. field_of (length z) w.behind n) e ∙ ap (λ k. field_of k w.behind n) (length_more rest x))
      ∙ at (bytes_eq n (string_bytes x.name)) n;
}
  where
    at : (b : Bool) (n : Name) → cond b (Some (length rest, resolved_of x.resolved)) (field_of (suc (length rest)) w.behind n)
        ≡ (elim b [ true ↦ Some (length rest, resolved_of x.resolved) | false ↦ field_of (suc (length rest)) w.behind n ])
    at true n = refl
    at false n = refl

-- all fields are in the table
pub table_last : (all : List FieldEntry) (rest : List Field) (table : Table (ℕ × ResolvedType)) → length rest ≡ 0 → Tabled all rest table → table ≡ field_of 0 all
table_last all [] table e w = (λ i n. w.entries n i) ∙ ap (field_of 0) w.whole
table_last all (x ∷ rest) table e w = absurd (let z : ⊥ = omega (arith, e) in z)
