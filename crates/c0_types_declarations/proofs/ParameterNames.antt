-- The names of parameters, one after the other.
use Rattle.std.proofs.Common.{◌≡◌, inl, inr, ℕ, zero, suc, ◌+◌, ◌<◌, ◌≤◌, List, [], ◌∷◌, map, length, get_or, drop, sym, ap, subst, ◌∙◌, Bool, true, false, arith}
use Rattle.std.specs.Prelude.{◌&&◌, not}
use Rattle.std.specs.List.{list_all}
use Rattle.std.proofs.lemmas.List.{at_drop_all, drop_more}
use Rattle.c0_source.specs.declared.fault.Fault.{Fault}
use Rattle.c0_source.specs.declared.fault.FaultKind.TheVariants as k
use Rattle.c0_syntax.specs.declared.program.TypedName.{TypedName}
use Rattle.c0_syntax.specs.Views.{name_of, typed_name_of}
use Rattle.c0_rules.specs.FaultExpressions.{Told}
use Rattle.c0_rules.specs.FaultPrograms.{FunctionParameter}
use Rattle.c0_rules.specs.Programs.{names_function, names_of}
use Rattle.c0_rules.specs.Types.{Name, Environment}

-- ---- lists

-- the first of what is left, and the rest
pub rest_from : {A : Type 0} (xs : List A) (i : ℕ) (x : A) → i < length xs → x ≡ get_or xs i x → drop i xs ≡ x ∷ drop (i + 1) xs
rest_from xs i x h e = drop_more xs i x h ∙ ap (λ z. z ∷ drop (i + 1) xs) (sym e)

-- what holds of some part of a list, from the element for which it holds
pub at_place : {A : Type 0} (P : A → Type 0) (Q : List A → Type 0) → ((x : A) (xs : List A) → P x → Q (x ∷ xs)) → ((x : A) (xs : List A) → Q xs → Q (x ∷ xs))
    → (xs : List A) (i : ℕ) (x : A) → i < length xs → x ≡ get_or xs i x → P x → Q xs
at_place P Q first later [] i x l e h = absurd (omega arith)
at_place P Q first later (y ∷ xs) zero x l e h = first y xs (subst P e h)
at_place P Q first later (y ∷ xs) (suc i) x l e h = later y xs (at_place P Q first later xs i x (omega arith) e h)

-- ---- names of parameters

-- whether no parameter has the name of a function, of its own among them
abbrev pub are_free : Environment → Name → List TypedName → Bool
are_free env own items = list_all (λ n. not (names_function env own n)) (names_of (map typed_name_of items))

module _ (env : Environment) (own : Name) (i : ℕ) (items : List TypedName) (so_far : are_free env own (drop i items) ≡ are_free env own items) where
  -- nothing is left
  pub parameters_done : length items ≤ i → are_free env own items ≡ true
  parameters_done l = sym so_far ∙ at_drop_all (are_free env own) items i l

  module _ (x : TypedName) (h : i < length items) (is : x ≡ get_or items i x) where
    parameter_first : (not (names_function env own (name_of x.name)) && are_free env own (drop (i + 1) items)) ≡ are_free env own items
    parameter_first = sym (ap (are_free env own) (rest_from items i x h is)) ∙ so_far

    -- a parameter with another name
    pub parameter_more : names_function env own (name_of x.name) ≡ false → are_free env own (drop (i + 1) items) ≡ are_free env own items
    parameter_more e = ap (λ b. not b && are_free env own (drop (i + 1) items)) (sym e) ∙ parameter_first

    -- a parameter with the name of a function
    pub parameter_here : names_function env own (name_of x.name) ≡ true → are_free env own items ≡ false
    parameter_here e = sym parameter_first ∙ ap (λ b. not b && are_free env own (drop (i + 1) items)) e

pub parameter_told : (env : Environment) (own : Name) (f : Fault) (items : List TypedName) (i : ℕ) (x : TypedName) → i < length items → x ≡ get_or items i x
    → names_function env own (name_of x.name) ≡ true → Told k.DuplicateName x.name.span f → FunctionParameter f env own items
parameter_told env own f items i x l is e h =
    at_place (λ z. (names_function env own (name_of z.name) ≡ true) × Told k.DuplicateName z.name.span f) (FunctionParameter f env own) (λ z zs q. inl q) (λ z zs q. inr q) items i x l is (e, h)
