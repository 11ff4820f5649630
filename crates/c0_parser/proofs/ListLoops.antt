-- Loops that read one part after another.
use Rattle.std.proofs.Common.{◌≡◌, ℕ, zero, suc, ◌-◌, ◌<◌, List, [], ◌∷◌, ◌++◌, length, map, Ok, Err, refl, sym, ◌∙◌, arith}
use Rattle.std.proofs.lemmas.List.{append-nil, map-append}
use mathlib.Core.List.{append_assoc}
use Rattle.c0_source.specs.declared.kind.Kind.{Kind}
use Rattle.c0_source.specs.declared.kind.Kind.TheVariants as k
use Rattle.c0_source.specs.Terminals.{Terminal}
use Rattle.c0_syntax.specs.Trees.{Spec}
use Rattle.c0_grammar_laws.specs.declared.read_error.ReadError.{ReadError}
use Rattle.c0_grammar_laws.specs.Outcome.{Outcome, ◌>>=◌, Read, Fails, plain_at, next, refuse, too_deep}
use Rattle.c0_grammar_laws.specs.ReadStatements.{spec_by, specs_by, read_spec, read_specs, annotations_by, read_annotations}
use Rattle.c0_parser_cursor.proofs.Turned.{fails_along, fails_bind}

-- one part before the others
abbrev pub before_others : {A : Type 0} → A → Read (List A) → Read (List A)
before_others x xs = record { value = x ∷ xs.value; rest = xs.rest }

-- a part, and then the others
abbrev pub one_more : {A : Type 0} → Outcome (Read A) → (List Terminal → Outcome (Read (List A))) → Outcome (Read (List A))
one_more i go_on = i >>= λ x. go_on x.rest >>= λ xs. Ok (before_others x.value xs)

-- the parts read before, with those that are read from here on
abbrev pub with_list : {A : Type 0} → List A → Outcome (Read (List A)) → Outcome (Read (List A))
with_list front o = o >>= λ r. Ok (record { value = front ++ r.value; rest = r.rest })

pub no_list : {A : Type 0} (o : Outcome (Read (List A))) → with_list [] o ≡ o
no_list (Ok r) = refl
no_list (Err e) = refl

regroup : {A : Type 0} (front : List A) (x : A) (o : Outcome (Read (List A))) → with_list front (o >>= λ xs. Ok (before_others x xs)) ≡ with_list (front ++ x ∷ []) o
regroup front x (Ok r) = rw (append_assoc front (x ∷ []) r.value) refl
regroup front x (Err e) = refl

module _ {A : Type 0} (front : List A) (o total : Outcome (Read (List A))) where
  pub list_more : (i : Outcome (Read A)) (go_on : List Terminal → Outcome (Read (List A))) (x : Read A) → o ≡ one_more i go_on → i ≡ Ok x → with_list front o ≡ total → with_list (front ++ x.value ∷ []) (go_on x.rest) ≡ total
  list_more i go_on x e ok so_far =
      let one : with_list front o ≡ with_list front (go_on x.rest >>= λ xs. Ok (before_others x.value xs)) = rw (e, ok) refl in
      sym (regroup front x.value (go_on x.rest)) ∙ (sym one ∙ so_far)

  pub list_fails : (i : Outcome (Read A)) (go_on : List Terminal → Outcome (Read (List A))) (f : ReadError) → o ≡ one_more i go_on → Fails f i → with_list front o ≡ total → Fails f total
  list_fails i go_on f e bad so_far =
      let one : with_list front o ≡ with_list front (one_more i go_on) = rw e refl in
      fails_along f _ total (sym one ∙ so_far) (fails_bind f (one_more i go_on) (λ r. Ok (record { value = front ++ r.value; rest = r.rest })) (fails_bind f i (λ x. go_on x.rest >>= λ xs. Ok (before_others x.value xs)) bad))

  pub list_done : (us : List Terminal) → o ≡ Ok (record { value = []; rest = us }) → with_list front o ≡ total → total ≡ Ok (record { value = front; rest = us })
  list_done us e so_far =
      let one : with_list front o ≡ Ok (record { value = front; rest = us }) = rw (e, append-nil front) refl in
      sym so_far ∙ one

  pub list_refused : (us : List Terminal) → o ≡ refuse us → with_list front o ≡ total → total ≡ refuse us
  list_refused us e so_far =
      let one : with_list front o ≡ refuse us = rw e refl in
      sym so_far ∙ one

-- one more part at the end of a vector
pub map_push : {A B : Type 0} (f : A → B) (xs : List A) (x : A) → map f (xs ++ x ∷ []) ≡ map f xs ++ f x ∷ []
map_push f xs x = map-append f xs (x ∷ [])

-- ---- specs

pub spec_none : (types : List (List ℕ)) (d : ℕ) (ts : List Terminal) → d ≡ 0 → read_spec types d ts ≡ too_deep ts
unfolding read_spec
spec_none types d ts e = rw e refl

pub spec_some : (types : List (List ℕ)) (d : ℕ) (ts : List Terminal) → 0 < d → spec_by types (d - 1) (plain_at ts) ts ≡ read_spec types d ts
unfolding read_spec
spec_some types zero ts lt = absurd (omega arith)
spec_some types (suc d) ts lt = let e : suc d - 1 ≡ d = omega arith in rw e refl

specs_other : (types : List (List ℕ)) (d : ℕ) (go_on : List Terminal → Outcome (Read (List Spec))) (kind : Kind) (ts : List Terminal) → (kind ≡ k.End → ⊥) → specs_by types d go_on kind ts ≡ one_more (read_spec types d ts) go_on
specs_other types d go_on k.End ts h = absurd (h refl)
specs_other types d go_on _ ts h = refl

pub specs_step : (types : List (List ℕ)) (d m n : ℕ) (ts : List Terminal) → m ≡ suc n → (plain_at ts ≡ k.End → ⊥) → read_specs types d m ts ≡ one_more (read_spec types d ts) (read_specs types d n)
unfolding read_specs
specs_step types d m n ts e h = rw e (specs_other types d (read_specs types d n) (plain_at ts) ts h)

pub specs_last : (types : List (List ℕ)) (d m n : ℕ) (ts : List Terminal) → m ≡ suc n → plain_at ts ≡ k.End → read_specs types d m ts ≡ Ok (record { value = []; rest = next ts })
unfolding read_specs
specs_last types d m n ts e is = rw (e, is) refl

pub specs_none : (types : List (List ℕ)) (d m : ℕ) (ts : List Terminal) → m ≡ 0 → read_specs types d m ts ≡ refuse ts
unfolding read_specs
specs_none types d m ts e = rw e refl

-- ---- annotations

annotations_other : (types : List (List ℕ)) (d : ℕ) (go_on : List Terminal → Outcome (Read (List (List Spec)))) (kind : Kind) (ts : List Terminal) → (kind ≡ k.Begin → ⊥) → annotations_by types d go_on kind ts ≡ Ok (record { value = []; rest = ts })
annotations_other types d go_on k.Begin ts h = absurd (h refl)
annotations_other types d go_on _ ts h = refl

pub annotations_last : (types : List (List ℕ)) (d m n : ℕ) (ts : List Terminal) → m ≡ suc n → (plain_at ts ≡ k.Begin → ⊥) → read_annotations types d m ts ≡ Ok (record { value = []; rest = ts })
unfolding read_annotations
annotations_last types d m n ts e h = rw e (annotations_other types d (read_annotations types d n) (plain_at ts) ts h)

pub annotations_step : (types : List (List ℕ)) (d m n : ℕ) (ts : List Terminal) → m ≡ suc n → plain_at ts ≡ k.Begin → read_annotations types d m ts ≡ one_more (read_specs types d (length ts) (next ts)) (read_annotations types d n)
unfolding read_annotations
annotations_step types d m n ts e is = rw (e, is) refl

pub annotations_none : (types : List (List ℕ)) (d m : ℕ) (ts : List Terminal) → m ≡ 0 → read_annotations types d m ts ≡ refuse ts
unfolding read_annotations
annotations_none types d m ts e = rw e refl
