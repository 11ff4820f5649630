-- What the static rules give of declarations is well typed.
use Rattle.std.proofs.Common.{◌≡◌, ℕ, zero, suc, ◌+◌, ◌<◌, ◌≤◌, ◌⊎◌, inl, inr, List, [], ◌∷◌, ◌++◌, length, get_or, refl, sym, ap, ◌∙◌, subst, arith, append_assoc, Bool, true, false, Option, Some, None}
use Rattle.std.specs.Prelude.{◌&&◌, ◌||◌, nat_le, slice_get, map, not, cond, bytes_eq, is_some, option_map}
use Rattle.std.proofs.lemmas.Bool.{eq-eqb, leb-true}
use Rattle.std.proofs.lemmas.List.{length-append}
use Rattle.std.proofs.lemmas.Option.{slice_get_within}
use Rattle.c0_syntax.specs.Trees.{TypedName, Declaration, UseLibrary, DeclareStruct, DefineStruct, Typedef, DeclareFunction, DefineFunction}
use Rattle.c0_typed.specs.Values.{Tree, Leaf, Node, Void}
use Rattle.c0_typed.specs.Layouts.{flat, flats}
use Rattle.c0_typed.specs.Trees as t
use Rattle.c0_typed.specs.Typing as ty
use Rattle.c0_typed.specs.Meaning.{default, fields, struct_defaults}
use Rattle.c0_rules.specs.Types.{Name, is_among, are_distinct, number_in, Table, with_name, ResolvedType, IntType, BoolType, CharType, StringType, StructNamed, PointerTo, ArrayOf, same_type, same_types, resolved_type, FieldEntry, StructEntry, field_of, Signature, Environment, numbered, cells_of}
use Rattle.c0_rules.specs.Mentions.{Mention, specs_in, declaration_mentions}
use Rattle.c0_rules.specs.Programs.{names_of, same_signature, agrees, is_defined, signature, with_function, typed_function, fields_of, field_cells, cells_in, field_types, cell_limit, Elaboration, with_struct, is_conio, are_none, typed_declaration, struct_names_of, function_names_of}
use Rattle.c0_rules.proofs.Rules.{both_true, not_false, same_name_is, same_type_is, same_types_are, AllSome, all_so, all_go, all_if, is_none_of}
use Rattle.c0_rules.proofs.Expressions.{HasFields, Knows, AreNamed, field_is}
use Rattle.c0_rules.proofs.Functions.{IsSignature, signature_ok, IsBody, function_ok}
use Rattle.c0_rules.proofs.Sizes.{length_more, defaults_more, defaults_long, get_before, get_next, fields_same, held_at, structs_add, get_more, get_last}

-- ---- names and their numbers

same_self : (n : Name) → bytes_eq n n ≡ true
same_self [] = refl
same_self (a ∷ n) = at _ (eq-eqb a a refl) (same_self n)
  where
    at : (b : Bool) → b ≡ true → bytes_eq n n ≡ true → (b && bytes_eq n n) ≡ true
    at true e h = h
    at false e h = absurd (cc e)

-- a new name gets the next number
number_new : (before : List Name) (n : Name) (rest : List Name) → is_among n before ≡ false → number_in (before ++ (n ∷ rest)) n ≡ length before
number_new [] n rest e = ap (λ b. elim b as (λ z. ℕ) [ true ↦ 0 | false ↦ suc (number_in rest n) ]) (same_self n)
number_new (m ∷ before) n rest e = at (bytes_eq n m) e (λ h. number_new before n rest h)
  where
    at : (b : Bool) → (b || is_among n before) ≡ false → (is_among n before ≡ false → number_in (before ++ (n ∷ rest)) n ≡ length before)
        → (elim b as (λ z. ℕ) [ true ↦ 0 | false ↦ suc (number_in (before ++ (n ∷ rest)) n) ]) ≡ suc (length before)
    at true h go = absurd (cc h)
    at false h go = ap suc (go h)

among_append : (m : Name) (xs : List Name) (n : Name) → is_among m (xs ++ (n ∷ [])) ≡ true → (is_among m xs ≡ true) ⊎ (bytes_eq m n ≡ true)
among_append m [] n e = inr (at (bytes_eq m n) e)
  where
    at : (b : Bool) → (b || false) ≡ true → b ≡ true
    at true h = refl
    at false h = absurd (cc h)
among_append m (x ∷ xs) n e = at (bytes_eq m x) e (λ h. among_append m xs n h)
  where
    at : (b : Bool) → (b || is_among m (xs ++ (n ∷ []))) ≡ true → (is_among m (xs ++ (n ∷ [])) ≡ true → (is_among m xs ≡ true) ⊎ (bytes_eq m n ≡ true)) → ((b || is_among m xs) ≡ true) ⊎ (bytes_eq m n ≡ true)
    at true h go = inl refl
    at false h go = go h

not_true : (b : Bool) → (b ≡ true → ⊥) → b ≡ false
not_true true h = absurd (h refl)
not_true false h = refl

last_or : {A : Type 0} (xs : List A) (y : A) (k : ℕ) (a : A) → slice_get (xs ++ (y ∷ [])) k ≡ Some a → (slice_get xs k ≡ Some a) ⊎ (a ≡ y)
last_or [] y zero a e = inr (cc e)
last_or [] y (suc k) a e = absurd (cc e)
last_or (x ∷ xs) y zero a e = inl e
last_or (x ∷ xs) y (suc k) a e = last_or xs y k a e

-- ---- structs that are defined

-- the fresh memory of each struct
abbrev pub defaults : List (List t.Ty) → List Tree
defaults structs = struct_defaults [] structs

-- the structs that stand before the names that remain: their numbers, their fields and their cells
pub record StructsStand (names remaining : List Name) (entries : Table StructEntry) (structs : List (List t.Ty)) : Type 0 where
  pub before : List Name
  pub split : names ≡ before ++ remaining
  pub long : length before ≡ length structs
  pub known : (n : Name) → is_among n before ≡ true → is_some (entries n) ≡ true
  pub there : (n : Name) (d : StructEntry) → entries n ≡ Some d → HasFields names structs n d
  pub fit : ty.FitsStructs 0 structs
  pub sized : (n : Name) (d : StructEntry) → entries n ≡ Some d → length (flat (get_or (defaults structs) (number_in names n) (Leaf Void))) ≡ d.cells
  pub small : (k : ℕ) (ts : List t.Ty) → slice_get structs k ≡ Some ts → length (flats (fields (defaults structs) ts)) ≤ 4096

module _ (names : List Name) (entries : Table StructEntry) (structs : List (List t.Ty)) where
  -- each struct has a number that is in use
  abbrev Below : Type 0
  Below = (n : Name) (d : StructEntry) → entries n ≡ Some d → number_in names n < length structs

  -- ... and as many cells as its entry says
  abbrev Sized : Type 0
  Sized = (n : Name) (d : StructEntry) → entries n ≡ Some d → length (flat (get_or (defaults structs) (number_in names n) (Leaf Void))) ≡ d.cells

  cells_held : Below → (a : ResolvedType) (c : ℕ) → cells_of entries a ≡ Some c → ty.IsHeld (length structs) (numbered names a)
  cells_held h IntType c e = tt
  cells_held h BoolType c e = tt
  cells_held h CharType c e = tt
  cells_held h StringType c e = tt
  cells_held h (PointerTo a) c e = tt
  cells_held h (ArrayOf a) c e = tt
  cells_held h (StructNamed n) c e = at (entries n) refl e
    where
      at : (o : Option StructEntry) → entries n ≡ o → option_map (λ d. d.cells) o ≡ Some c → number_in names n < length structs
      at None q g = absurd (cc g)
      at (Some d) q g = h n d q
  cells_held h _ c e = absurd (cc e)

  cells_are : Sized → (a : ResolvedType) (c : ℕ) → cells_of entries a ≡ Some c → length (flat (default (defaults structs) (numbered names a))) ≡ c
  cells_are h IntType c e = cc e
  cells_are h BoolType c e = cc e
  cells_are h CharType c e = cc e
  cells_are h StringType c e = cc e
  cells_are h (PointerTo a) c e = cc e
  cells_are h (ArrayOf a) c e = cc e
  cells_are h (StructNamed n) c e = at (entries n) refl e
    where
      at : (o : Option StructEntry) → entries n ≡ o → option_map (λ d. d.cells) o ≡ Some c → length (flat (get_or (defaults structs) (number_in names n) (Leaf Void))) ≡ c
      at None q g = absurd (cc g)
      at (Some d) q g = h n d q ∙ (let z : d.cells ≡ c = cc g in z)
  cells_are h _ c e = absurd (cc e)

  -- fields of types that can be held, with their cells
  abbrev AreFields : List FieldEntry → Type 0
  AreFields items = ty.AreHeld (length structs) (map (numbered names) (field_types items)) × (length (flats (fields (defaults structs) (map (numbered names) (field_types items)))) ≡ cells_in entries items)

  field_more : Below → Sized → (f : FieldEntry) (items : List FieldEntry) (c : ℕ) → cells_of entries f.resolved ≡ Some c → AreFields items → AreFields (f ∷ items)
  field_more h s f items c e g =
      let one : length (flat (default (defaults structs) (numbered names f.resolved))) ≡ c = cells_are s f.resolved c e in
      let here : field_cells entries f ≡ c = ap (λ o. elim o as (λ z. ℕ) [ None ↦ 0 | Some c ↦ c ]) e in (
        (cells_held h f.resolved c e, g.0),
        length-append (flat (default (defaults structs) (numbered names f.resolved))) _ ∙ cc (one, here, g.1),
      )

module _ (env : Environment) (structs : List (List t.Ty)) (below : Below env.struct_names env.structs structs) (sized : Sized env.struct_names env.structs structs) where
  fields_ok : (xs : List TypedName) → AllSome (AreFields env.struct_names env.structs structs) (fields_of env xs)
  fields_ok [] = (tt, refl)
  fields_ok (x ∷ xs) =
      all_go (AreFields env.struct_names env.structs structs) (resolved_type env.typedefs x.value_type) _ (λ r e.
      all_go (AreFields env.struct_names env.structs structs) (cells_of env.structs r) _ (λ c q.
      all_so (AreFields env.struct_names env.structs structs) (AreFields env.struct_names env.structs structs) (fields_of env xs) _ (fields_ok xs) (λ items g.
      field_more env.struct_names env.structs structs below sized (record { name = x.name; resolved = r }) items c q g)))

module _ (names rest : List Name) (entries : Table StructEntry) (structs : List (List t.Ty)) (n : Name) (items : List FieldEntry) where
  -- the new struct
  abbrev entry : StructEntry
  entry = record { fields = field_of 0 items; cells = cells_in entries items }

  abbrev types : List t.Ty
  types = map (numbered names) (field_types items)

  module _ (st : StructsStand names (n ∷ rest) entries structs) (none : entries n ≡ None) (are : AreFields names entries structs items) (few : cells_in entries items ≤ 4096) where
    fresh : is_among n st.before ≡ false
    fresh = not_true _ (λ q. let z : is_some {T = StructEntry} None ≡ true = subst (λ o. is_some o ≡ true) none (st.known n q) in cc z)

    number : number_in names n ≡ length structs
    number = ap (λ l. number_in l n) st.split ∙ number_new st.before n rest fresh ∙ st.long

    or_some : (b : Bool) (o : Option StructEntry) → (b ≡ true) ⊎ (is_some o ≡ true) → is_some (cond b (Some entry) o) ≡ true
    or_some true o h = refl
    or_some false o (inl e) = absurd (cc e)
    or_some false o (inr e) = e

    known : (m : Name) → (is_among m st.before ≡ true) ⊎ (bytes_eq m n ≡ true) → is_some ((with_name n entry entries) m) ≡ true
    known m (inl q) = or_some (bytes_eq m n) (entries m) (inr (st.known m q))
    known m (inr q) = or_some (bytes_eq m n) (entries m) (inl q)

    -- an entry is the new one, or an earlier one
    cases : (m : Name) (d : StructEntry) → (with_name n entry entries) m ≡ Some d → ((m ≡ n) × (entry ≡ d)) ⊎ (entries m ≡ Some d)
    cases m d e = at (bytes_eq m n) refl e
      where
        at : (b : Bool) → bytes_eq m n ≡ b → cond b (Some entry) (entries m) ≡ Some d → ((m ≡ n) × (entry ≡ d)) ⊎ (entries m ≡ Some d)
        at true q h = inl (same_name_is m n q, (let z : entry ≡ d = cc h in z))
        at false q h = inr h

    there : (m : Name) (d : StructEntry) → ((m ≡ n) × (entry ≡ d)) ⊎ (entries m ≡ Some d) → HasFields names (structs ++ (types ∷ [])) m d
    there m d (inl e) = (
      types,
      ap (λ k. slice_get (structs ++ (types ∷ [])) k) (ap (number_in names) e.0 ∙ number) ∙ get_last structs types,
      λ k f q.
          let i = field_is names items 0 k f (subst (λ z. z.fields k ≡ Some f) (sym e.1) q) in
          subst (λ j. slice_get types j ≡ Some (numbered names f.1)) (let z : i.0 ≡ f.0 = omega (arith, i.1) in z) i.2,
    )
    there m d (inr e) = let at = st.there m d e in (at.0, get_more structs (types ∷ []) (number_in names m) at.0 at.1, at.2)

    more : defaults (structs ++ (types ∷ [])) ≡ defaults structs ++ (Node (fields (defaults structs) types) ∷ [])
    more = defaults_more [] structs types

    long : length (defaults structs) ≡ length structs
    long = defaults_long [] structs ∙ (let z : 0 + length structs ≡ length structs = omega arith in z)

    sized : (m : Name) (d : StructEntry) → ((m ≡ n) × (entry ≡ d)) ⊎ (entries m ≡ Some d) → length (flat (get_or (defaults (structs ++ (types ∷ []))) (number_in names m) (Leaf Void))) ≡ d.cells
    sized m d (inl e) =
        let at_end : get_or (defaults structs ++ (Node (fields (defaults structs) types) ∷ [])) (number_in names m) (Leaf Void) ≡ Node (fields (defaults structs) types) =
        ap (λ k. get_or (defaults structs ++ (Node (fields (defaults structs) types) ∷ [])) k (Leaf Void)) (ap (number_in names) e.0 ∙ number ∙ sym long) ∙ get_next (defaults structs) _ in
        ap (λ l. length (flat (get_or l (number_in names m) (Leaf Void)))) more ∙ ap (λ x. length (flat x)) at_end ∙ are.1 ∙ ap (λ z. z.cells) e.1
    sized m d (inr e) =
        let within : number_in names m < length structs = slice_get_within structs (number_in names m) _ (st.there m d e).1 in
        ap (λ l. length (flat (get_or l (number_in names m) (Leaf Void)))) more
        ∙ ap (λ x. length (flat x)) (get_before (defaults structs) _ (number_in names m) (subst (λ k. number_in names m < k) (sym long) within)) ∙ st.sized m d e

    fields_still : (k : ℕ) (ts : List t.Ty) → k ≤ length structs → ty.AreHeld k ts → length (flats (fields (defaults (structs ++ (types ∷ []))) ts)) ≡ length (flats (fields (defaults structs) ts))
    fields_still k ts h g =
        ap (λ l. length (flats (fields l ts))) more ∙ ap (λ x. length (flats x)) (fields_same (defaults structs) _ k ts (subst (λ j. k ≤ j) (sym long) h) g)

    small : (k : ℕ) (ts : List t.Ty) → (slice_get structs k ≡ Some ts) ⊎ (ts ≡ types) → length (flats (fields (defaults (structs ++ (types ∷ []))) ts)) ≤ 4096
    small k ts (inl e) =
        let within : k < length structs = slice_get_within structs k ts e in
        subst (λ x. x ≤ 4096) (sym (fields_still k ts (omega (arith, within)) (subst (λ j. ty.AreHeld j ts) (let z : 0 + k ≡ k = omega arith in z) (held_at 0 structs k ts st.fit e)))) (st.small k ts e)
    small k ts (inr e) =
        subst (λ z. length (flats (fields (defaults (structs ++ (types ∷ []))) z)) ≤ 4096) (sym e)
        (subst (λ x. x ≤ 4096) (sym (fields_still (length structs) types (omega arith) are.0 ∙ are.1)) few)

    pub new_struct : StructsStand names rest (with_name n entry entries) (structs ++ (types ∷ []))
    new_struct = record {
      before = st.before ++ (n ∷ []);
      split = st.split ∙ sym (append_assoc st.before (n ∷ []) rest);
      long = length_more st.before n ∙ ap suc st.long ∙ sym (length_more structs types);
      known = λ m q. known m (among_append m st.before n q);
      there = λ m d q. there m d (cases m d q);
      fit = structs_add 0 structs types st.fit (subst (λ k. ty.AreHeld k types) (let z : length structs ≡ 0 + length structs = omega arith in z) are.0);
      sized = λ m d q. sized m d (cases m d q);
      small = λ k ts q. small k ts (last_or structs types k ts q);
    }

-- ---- functions that are declared

-- the function of this name is in the table, with these types
abbrev pub IsAt : List Name → List Name → List t.Function → Name → Signature → Type 0
IsAt names fnames functions n f = (g : t.Function) × (slice_get functions (number_in fnames n) ≡ Some g) × (g.result ≡ numbered names f.result) × (g.parameters ≡ map (numbered names) f.parameters)

-- the functions that stand before the names that remain
pub record FunctionsStand (names fnames remaining : List Name) (entries : Table Signature) (functions : List t.Function) : Type 0 where
  pub before : List Name
  pub split : fnames ≡ before ++ remaining
  pub long : length before ≡ length functions
  pub known : (n : Name) → is_among n before ≡ true → is_defined (entries n) ≡ true
  pub there : (n : Name) (f : Signature) → entries n ≡ Some f → f.defined ≡ true → IsAt names fnames functions n f

agreed_types : (f g : Signature) → agrees f (Some g) ≡ true → (f.result ≡ g.result) × (f.parameters ≡ g.parameters)
agreed_types f g e =
    let q = both_true (same_signature f g) (not (f.defined && g.defined)) e in
    let s = both_true (same_type f.result g.result) (same_types f.parameters g.parameters) q.0 in
    (same_type_is f.result g.result s.0, same_types_are f.parameters g.parameters s.1)

pub is_defined_some : (o : Option Signature) → is_defined o ≡ true → (g : Signature) × (o ≡ Some g) × (g.defined ≡ true)
is_defined_some None e = absurd (cc e)
is_defined_some (Some g) e = (g, refl, e)

or_right : (a b : Bool) → a ≡ false → (a || b) ≡ true → b ≡ true
or_right true b e h = absurd (cc e)
or_right false b e h = h

or_second : (a b : Bool) → b ≡ true → (a || b) ≡ true
or_second true b e = refl
or_second false b e = e

module _ (entries : Table Signature) (f : Signature) (agreed : agrees f (entries f.name) ≡ true) where
  -- what is known of the name behind this declaration
  abbrev entered : Signature
  entered = record f { defined = f.defined || is_defined (entries f.name) }

  function_cases : (m : Name) (g : Signature) → (with_name f.name entered entries) m ≡ Some g → ((m ≡ f.name) × (g ≡ entered)) ⊎ (entries m ≡ Some g)
  function_cases m g e = at (bytes_eq m f.name) refl e
    where
      at : (b : Bool) → bytes_eq m f.name ≡ b → cond b (Some entered) (entries m) ≡ Some g → ((m ≡ f.name) × (g ≡ entered)) ⊎ (entries m ≡ Some g)
      at true q h = inl (same_name_is m f.name q, (let z : entered ≡ g = cc h in sym z))
      at false q h = inr h

  -- a function that was defined is so still
  known_still : (m : Name) → is_defined (entries m) ≡ true → is_defined ((with_name f.name entered entries) m) ≡ true
  known_still m h = at (bytes_eq m f.name) refl
    where
      at : (b : Bool) → bytes_eq m f.name ≡ b → is_defined (cond b (Some entered) (entries m)) ≡ true
      at true q = or_second f.defined (is_defined (entries f.name)) (subst (λ z. is_defined (entries z) ≡ true) (same_name_is m f.name q) h)
      at false q = h

  -- ... with the types that it had
  kept : (n : Name) (g : Signature) → entries n ≡ Some g → (k : Signature) × ((with_name f.name entered entries) n ≡ Some k) × (k.result ≡ g.result) × (k.parameters ≡ g.parameters)
  kept n g h = at (bytes_eq n f.name) refl
    where
      at : (b : Bool) → bytes_eq n f.name ≡ b → (k : Signature) × (cond b (Some entered) (entries n) ≡ Some k) × (k.result ≡ g.result) × (k.parameters ≡ g.parameters)
      at true q =
          let same : n ≡ f.name = same_name_is n f.name q in
          let old : entries f.name ≡ Some g = subst (λ z. entries z ≡ Some g) same h in
          let s = agreed_types f g (subst (λ z. agrees f z ≡ true) old agreed) in
          (entered, refl, s.0, s.1)
      at false q = (g, h, refl, refl)

  module _ (names fnames rest : List Name) (functions : List t.Function) where
    declared_function : f.defined ≡ false → FunctionsStand names fnames rest entries functions → FunctionsStand names fnames rest (with_name f.name entered entries) functions
    declared_function new st = record {
      before = st.before;
      split = st.split;
      long = st.long;
      known = λ m q. known_still m (st.known m q);
      there = λ m g e d. by_case m g d (function_cases m g e);
    }
      where
        by_case : (m : Name) (g : Signature) → g.defined ≡ true → ((m ≡ f.name) × (g ≡ entered)) ⊎ (entries m ≡ Some g) → IsAt names fnames functions m g
        by_case m g d (inr e) = st.there m g e d
        by_case m g d (inl e) =
            let was : is_defined (entries f.name) ≡ true = or_right f.defined _ new (subst (λ z. z.defined ≡ true) e.1 d) in
            let old = is_defined_some (entries f.name) was in
            let same = agreed_types f old.0 (subst (λ z. agrees f z ≡ true) old.1 agreed) in
            let at = st.there f.name old.0 old.1 old.2 in
            let result : g.result ≡ f.result = ap (λ z. z.result) e.1 in
            let params : g.parameters ≡ f.parameters = ap (λ z. z.parameters) e.1 in (
              at.0,
              ap (λ z. slice_get functions (number_in fnames z)) e.0 ∙ at.1,
              at.2 ∙ ap (numbered names) (sym same.0 ∙ sym result),
              at.3 ∙ ap (map (numbered names)) (sym same.1 ∙ sym params),
            )

    module _ (defined : f.defined ≡ true) (g : t.Function) (result_is : g.result ≡ numbered names f.result) (parameters_are : g.parameters ≡ map (numbered names) f.parameters) (st : FunctionsStand names fnames (f.name ∷ rest) entries functions) where
      twice : (k : Signature) → agrees f (Some k) ≡ true → k.defined ≡ true → ⊥
      twice k a d =
          let q = (both_true (same_signature f k) (not (f.defined && k.defined)) a).1 in
          let z : not (true && true) ≡ true = subst (λ x. not (true && x) ≡ true) d (subst (λ x. not (x && k.defined) ≡ true) defined q) in
          cc z

      new_name : is_among f.name st.before ≡ false
      new_name = not_true _ (λ q. let old = is_defined_some (entries f.name) (st.known f.name q) in twice old.0 (subst (λ z. agrees f z ≡ true) old.1 agreed) old.2)

      next_number : number_in fnames f.name ≡ length functions
      next_number = ap (λ l. number_in l f.name) st.split ∙ number_new st.before f.name rest new_name ∙ st.long

      known_now : (m : Name) → (is_among m st.before ≡ true) ⊎ (bytes_eq m f.name ≡ true) → is_defined ((with_name f.name entered entries) m) ≡ true
      known_now m (inl q) = known_still m (st.known m q)
      known_now m (inr q) = at (bytes_eq m f.name) q
        where
          at : (b : Bool) → b ≡ true → is_defined (cond b (Some entered) (entries m)) ≡ true
          at true e = ap (λ z. z || is_defined (entries f.name)) defined
          at false e = absurd (cc e)

      there_now : (m : Name) (k : Signature) → k.defined ≡ true → ((m ≡ f.name) × (k ≡ entered)) ⊎ (entries m ≡ Some k) → IsAt names fnames (functions ++ (g ∷ [])) m k
      there_now m k d (inr e) = let at = st.there m k e d in (at.0, get_more functions (g ∷ []) (number_in fnames m) at.0 at.1, at.2, at.3)
      there_now m k d (inl e) =
          let result : k.result ≡ f.result = ap (λ z. z.result) e.1 in
          let params : k.parameters ≡ f.parameters = ap (λ z. z.parameters) e.1 in (
            g,
            ap (λ z. slice_get (functions ++ (g ∷ [])) (number_in fnames z)) e.0 ∙ ap (slice_get (functions ++ (g ∷ []))) next_number ∙ get_last functions g,
            result_is ∙ ap (numbered names) (sym result),
            parameters_are ∙ ap (map (numbered names)) (sym params),
          )

      defined_function : FunctionsStand names fnames rest (with_name f.name entered entries) (functions ++ (g ∷ []))
      defined_function = record {
        before = st.before ++ (f.name ∷ []);
        split = st.split ∙ sym (append_assoc st.before (f.name ∷ []) rest);
        long = length_more st.before f.name ∙ ap suc st.long ∙ sym (length_more functions g);
        known = λ m q. known_now m (among_append m st.before f.name q);
        there = λ m k e d. there_now m k d (function_cases m k e);
      }

-- ---- one declaration

-- a later environment knows what an earlier one knew
pub record Later (w v : Environment) : Type 0 where
  pub conio : v.conio ≡ w.conio
  pub struct_names : v.struct_names ≡ w.struct_names
  pub function_names : v.function_names ≡ w.function_names
  pub structs : (n : Name) (d : StructEntry) → w.structs n ≡ Some d → v.structs n ≡ Some d
  pub functions : (n : Name) (f : Signature) → w.functions n ≡ Some f → (g : Signature) × (v.functions n ≡ Some g) × (g.result ≡ f.result) × (g.parameters ≡ f.parameters)

-- what stands before some declarations
pub record Stands (rest : List Declaration) (e : Elaboration) : Type 0 where
  pub structs : StructsStand e.environment.struct_names (struct_names_of rest) e.environment.structs e.structs
  pub functions : FunctionsStand e.environment.struct_names e.environment.function_names (function_names_of rest) e.environment.functions e.functions

-- functions that are well typed, where the program has what they name
abbrev pub Fitting : t.Program → List t.Function → Type 0
Fitting p functions = (k : ℕ) (g : t.Function) → slice_get functions k ≡ Some g → ty.FitsFunction p g

-- behind a declaration, and what it made
pub record Goes (d : Declaration) (rest : List Declaration) (e e' : Elaboration) : Type 0 where
  pub stands : Stands rest e'
  pub later : Later e.environment e'.environment
  pub made : (p : t.Program) → Knows p e'.environment → AreNamed p e'.environment (declaration_mentions d) → Fitting p e.functions → Fitting p e'.functions

-- what changes no entry
same_entries : (w v : Environment) → v.conio ≡ w.conio → v.struct_names ≡ w.struct_names → v.function_names ≡ w.function_names → v.structs ≡ w.structs → v.functions ≡ w.functions → Later w v
same_entries w v c n m e q = record { conio = c; struct_names = n; function_names = m; structs = λ n d h. ap (λ z. z n) e ∙ h; functions = λ n f h. (f, ap (λ z. z n) q ∙ h, refl, refl) }

later_function : (w : Environment) (f : Signature) → agrees f (w.functions f.name) ≡ true → Later w (with_function f w)
later_function w f a = record { conio = refl; struct_names = refl; function_names = refl; structs = λ n d h. h; functions = kept w.functions f a }

later_struct : (w v : Environment) (n : Name) (new : StructEntry) → w.structs n ≡ None → v.conio ≡ w.conio → v.struct_names ≡ w.struct_names → v.function_names ≡ w.function_names → v.structs ≡ with_name n new w.structs → v.functions ≡ w.functions → Later w v
later_struct w v n new none c sn fn e q = record {
  conio = c;
  struct_names = sn;
  function_names = fn;
  structs = λ m d h. ap (λ z. z m) e ∙ known m d h;
  functions = λ x f h. (f, ap (λ z. z x) q ∙ h, refl, refl);
}
  where
    known : (m : Name) (d : StructEntry) → w.structs m ≡ Some d → (with_name n new w.structs) m ≡ Some d
    known m d h = at (bytes_eq m n) refl
      where
        at : (b : Bool) → bytes_eq m n ≡ b → cond b (Some new) (w.structs m) ≡ Some d
        at true q = let z : None ≡ Some d = sym none ∙ ap w.structs (sym (same_name_is m n q)) ∙ h in absurd (cc z)
        at false q = h

by_last : (env : Environment) (f : Signature) (ms : List Mention) (functions : List t.Function) (p : t.Program) → Knows p env → AreNamed p env ms → Fitting p functions → (j : ℕ) (x g : t.Function) → IsBody env f ms g
    → (slice_get functions j ≡ Some x) ⊎ (x ≡ g) → ty.FitsFunction p x
by_last env f ms functions p k m fit j x g body (inl e) = fit j x e
by_last env f ms functions p k m fit j x g body (inr e) = subst (ty.FitsFunction p) (sym e) (body.fits p k m)

module _ (rest : List Declaration) (e : Elaboration) where
  below : (st : Stands rest e) → Below e.environment.struct_names e.environment.structs e.structs
  below st n d h = slice_get_within e.structs (number_in e.environment.struct_names n) _ (st.structs.there n d h).1

struct_ok : (n : Name) (xs : List TypedName) (rest : List Declaration) (e : Elaboration) → Stands (DefineStruct n xs ∷ rest) e → AllSome (Goes (DefineStruct n xs) rest e) (typed_declaration (DefineStruct n xs) e)
struct_ok n xs rest e st =
    all_if (Goes (DefineStruct n xs) rest e) (not (is_some (e.environment.structs n)) && are_distinct (names_of xs)) _ (λ q.
    let none = is_none_of (e.environment.structs n) (not_false _ (both_true (not (is_some (e.environment.structs n))) (are_distinct (names_of xs)) q).0) in
    all_so (AreFields e.environment.struct_names e.environment.structs e.structs) (Goes (DefineStruct n xs) rest e) (fields_of e.environment xs) _
    (fields_ok e.environment e.structs (below (DefineStruct n xs ∷ rest) e st) st.structs.sized xs) (λ items are.
    all_if (Goes (DefineStruct n xs) rest e) (nat_le (cells_in e.environment.structs items) cell_limit) _ (λ l.
    record {
      stands = record {
        structs = new_struct e.environment.struct_names (struct_names_of rest) e.environment.structs e.structs n items st.structs none are (leb-true (cells_in e.environment.structs items) 4096 l);
        functions = st.functions;
      };
      later = later_struct e.environment (with_struct n items e).environment n (record { fields = field_of 0 items; cells = cells_in e.environment.structs items }) none refl refl refl refl refl;
      made = λ p k m h. h;
    })))

pub declaration_ok : (d : Declaration) (rest : List Declaration) (e : Elaboration) → Stands (d ∷ rest) e → AllSome (Goes d rest e) (typed_declaration d e)
declaration_ok (UseLibrary in_brackets n) rest e st =
    all_if (Goes (UseLibrary in_brackets n) rest e) (is_conio in_brackets n && not e.begun) _ (λ q.
    record { stands = record { structs = st.structs; functions = st.functions }; later = same_entries _ _ refl refl refl refl refl; made = λ p k m h. h })
declaration_ok (DeclareStruct n) rest e st = record { stands = record { structs = st.structs; functions = st.functions }; later = same_entries _ _ refl refl refl refl refl; made = λ p k m h. h }
declaration_ok (DefineStruct n xs) rest e st = struct_ok n xs rest e st
declaration_ok (Typedef a n) rest e st =
    all_go (Goes (Typedef a n) rest e) (resolved_type e.environment.typedefs a) _ (λ r q.
    record { stands = record { structs = st.structs; functions = st.functions }; later = same_entries _ _ refl refl refl refl refl; made = λ p k m h. h })
declaration_ok (DeclareFunction h) rest e st =
    all_so (IsSignature e.environment false h) (Goes (DeclareFunction h) rest e) (signature e.environment false h) _ (signature_ok e.environment false h) (λ f sig.
    let agreed = subst (λ z. agrees f (e.environment.functions z) ≡ true) (sym sig.name) sig.agreed in
    all_if (Goes (DeclareFunction h) rest e) (are_none (specs_in h.annotations)) _ (λ q.
    record {
      stands = record {
        structs = st.structs;
        functions = declared_function e.environment.functions f agreed e.environment.struct_names e.environment.function_names (function_names_of rest) e.functions sig.defined_so st.functions;
      };
      later = later_function e.environment f agreed;
      made = λ p k m h. h;
    }))
declaration_ok (DefineFunction h body) rest e st =
    all_so (IsSignature e.environment true h) (Goes (DefineFunction h body) rest e) (signature e.environment true h) _ (signature_ok e.environment true h) (λ f sig.
    let agreed = subst (λ z. agrees f (e.environment.functions z) ≡ true) (sym sig.name) sig.agreed in
    all_so (IsBody (with_function f e.environment) f (declaration_mentions (DefineFunction h body))) (Goes (DefineFunction h body) rest e) (typed_function (with_function f e.environment) f h body) _
    (function_ok (with_function f e.environment) f h body sig.result sig.small) (λ g made.
    record {
      stands = record {
        structs = st.structs;
        functions = defined_function e.environment.functions f agreed e.environment.struct_names e.environment.function_names (function_names_of rest) e.functions sig.defined_so g made.result made.parameters
            (subst (λ n. FunctionsStand e.environment.struct_names e.environment.function_names (n ∷ function_names_of rest) e.environment.functions e.functions) (sym sig.name) st.functions);
      };
      later = later_function e.environment f agreed;
      made = λ p k m fit j x q. by_last (with_function f e.environment) f (declaration_mentions (DefineFunction h body)) e.functions p k m fit j x g made (last_or e.functions g j x q);
    }))
