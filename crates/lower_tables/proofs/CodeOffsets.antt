-- Where fields begin, in the table and in the definitions.
use Rattle.std.proofs.Common.{◌≡◌, refl, ap, ◌∙◌, sym, arith, List, [], ◌∷◌, ◌++◌, ℕ, zero, suc, ◌+◌, ◌<◌, ◌≤◌, length, get_or, map, take, drop, length-append, append_assoc}
use Rattle.std.proofs.lemmas.List.{drop_more, map-append}
use Rattle.std.specs.declared.vec.Vec.{Vec}
use Rattle.std.specs.declared.alloc.Global.{Global}
use Rattle.c0_typed.specs.Trees.{Ty}
use Rattle.c0_typed.specs.Views.{struct_of}
use Rattle.c0_typed.specs.declared.tree.Struct.{Struct}
use Rattle.code_form.specs.declared.form.Kind.{Kind}
use Rattle.lower_tables.specs.Kinds.{cell_kinds, field_kinds}
use Rattle.lower_tables.specs.Tables.{offsets_read, starts}

module _ (n : ℕ) (singles : List Kind) (layouts : List (List Kind)) where
  pub starts_long : (at : ℕ) (ts : List Ty) → length (starts n singles layouts at ts) ≡ suc (length ts)
  starts_long at [] = refl
  starts_long at (t ∷ ts) = ap suc (starts_long (at + length (cell_kinds n singles layouts t)) ts)

  -- where a field begins
  pub starts_at : (at : ℕ) (ts : List Ty) (k d : ℕ) → k ≤ length ts → get_or (starts n singles layouts at ts) k d ≡ at + length (field_kinds n singles layouts (take k ts))
  starts_at at [] zero d h = omega arith
  starts_at at [] (suc k) d h = absurd (let q : ⊥ = omega arith in q)
  starts_at at (t ∷ ts) zero d h = omega arith
  starts_at at (t ∷ ts) (suc k) d h =
      let behind = starts_at (at + length (cell_kinds n singles layouts t)) ts k d (omega arith) in
      omega (arith, behind, length-append (cell_kinds n singles layouts t) (field_kinds n singles layouts (take k ts)))

  take_past : (ts : List Ty) (k : ℕ) → length ts ≤ k → take k ts ≡ take (length ts) ts
  take_past [] zero h = refl
  take_past [] (suc k) h = refl
  take_past (t ∷ ts) zero h = absurd (let q : ⊥ = omega arith in q)
  take_past (t ∷ ts) (suc k) h = ap (λ xs. t ∷ xs) (take_past ts k (omega arith))

  -- where the fields end
  pub starts_end : (ts : List Ty) (k d : ℕ) → length ts < k → get_or (starts n singles layouts 0 ts) (length ts) d ≡ 0 + length (field_kinds n singles layouts (take k ts))
  starts_end ts k d h =
      let last = starts_at 0 ts (length ts) d (omega arith) in
      let all : length (field_kinds n singles layouts (take (length ts) ts)) ≡ length (field_kinds n singles layouts (take k ts)) = ap (λ xs. length (field_kinds n singles layouts xs)) (sym (take_past ts k (omega arith))) in
      omega (arith, last, all)

  pub table_long : (table : List (Vec ℕ Global)) (structs : List (List Ty)) → offsets_read table ≡ map (starts n singles layouts 0) structs → length table ≡ length structs
  table_long [] [] e = refl
  table_long [] (ts ∷ rest) e = cc e
  table_long (v ∷ vs) [] e = cc e
  table_long (v ∷ vs) (ts ∷ rest) e = let e2 : offsets_read vs ≡ map (starts n singles layouts 0) rest = cc e in ap suc (table_long vs rest e2)

  -- a struct's part of the table
  pub table_at : (table : List (Vec ℕ Global)) (structs : List (List Ty)) (j : ℕ) (v : Vec ℕ Global) → offsets_read table ≡ map (starts n singles layouts 0) structs → j < length table → v ≡ get_or table j v
      → v.items ≡ starts n singles layouts 0 (get_or structs j [])
  table_at [] structs j v e h is = absurd (let q : ⊥ = omega arith in q)
  table_at (w ∷ vs) [] j v e h is = cc e
  table_at (w ∷ vs) (ts ∷ rest) zero v e h is = let e2 : w.items ≡ starts n singles layouts 0 ts = cc e in ap (λ (x : Vec ℕ Global). x.items) is ∙ e2
  table_at (w ∷ vs) (ts ∷ rest) (suc j) v e h is = let e2 : offsets_read vs ≡ map (starts n singles layouts 0) rest = cc e in table_at vs rest j v e2 (omega arith) is

  get_past : (xs : List (List Ty)) (j : ℕ) → length xs ≤ j → get_or xs j [] ≡ []
  get_past [] j h = refl
  get_past (x ∷ xs) zero h = absurd (let q : ⊥ = omega arith in q)
  get_past (x ∷ xs) (suc j) h = get_past xs j (omega arith)

  pub no_fields : (structs : List (List Ty)) (j k : ℕ) → length structs ≤ j → 0 ≡ length (field_kinds n singles layouts (take k (get_or structs j [])))
  no_fields structs j zero h = refl
  no_fields structs j (suc k) h = ap (λ xs. length (field_kinds n singles layouts (take (suc k) xs))) (sym (get_past structs j h))

-- over the layouts as they are read
pub laid : (n : ℕ) (singles : List Kind) (layouts all : List (List Kind)) (ts : List Ty) → layouts ≡ all → 0 + length (field_kinds n singles layouts ts) ≡ length (field_kinds n singles all ts)
laid n singles layouts all ts e = (let z : 0 + length (field_kinds n singles layouts ts) ≡ length (field_kinds n singles layouts ts) = omega arith in z) ∙ ap (λ ls. length (field_kinds n singles ls ts)) e

drop_past : {A : Type 0} (xs : List A) (i : ℕ) → length xs ≤ i → drop i xs ≡ []
drop_past [] zero h = refl
drop_past [] (suc i) h = refl
drop_past (x ∷ xs) zero h = absurd (let q : ⊥ = omega arith in q)
drop_past (x ∷ xs) (suc i) h = drop_past xs i (omega arith)

none_behind : {A : Type 0} (xs : List A) → xs ++ [] ≡ xs
none_behind [] = refl
none_behind (x ∷ xs) = ap (λ l. x ∷ l) (none_behind xs)

module _ (n : ℕ) (singles : List Kind) (layouts : List (List Kind)) where
  -- one more struct's part of the table
  pub table_step : (structs : List Struct) (i : ℕ) (x : Struct) (found after : List (Vec ℕ Global)) (v : Vec ℕ Global) → i < length structs → x ≡ get_or structs i x → after ≡ found ++ v ∷ [] → v.items ≡ starts n singles layouts 0 (struct_of x)
      → offsets_read found ++ map (starts n singles layouts 0) (map struct_of (drop i structs)) ≡ offsets_read after ++ map (starts n singles layouts 0) (map struct_of (drop (i + 1) structs))
  table_step structs i x found after v h is e made =
      let rest = map (starts n singles layouts 0) (map struct_of (drop (i + 1) structs)) in
      ap (λ xs. offsets_read found ++ map (starts n singles layouts 0) (map struct_of xs)) (drop_more structs i x h ∙ ap (λ y. y ∷ drop (i + 1) structs) (sym is))
      ∙ ap (λ l. offsets_read found ++ (l ∷ rest)) (sym made) ∙ sym (append_assoc (offsets_read found) (v.items ∷ []) rest)
      ∙ ap (λ l. l ++ rest) (sym (ap offsets_read e ∙ map-append (λ (l : Vec ℕ Global). l.items) found (v ∷ [])))

  pub table_end : (structs : List Struct) (i : ℕ) (found : List (Vec ℕ Global)) → length structs ≤ i → offsets_read found ++ map (starts n singles layouts 0) (map struct_of (drop i structs)) ≡ offsets_read found
  table_end structs i found h = ap (λ xs. offsets_read found ++ map (starts n singles layouts 0) (map struct_of xs)) (drop_past structs i h) ∙ none_behind (offsets_read found)
