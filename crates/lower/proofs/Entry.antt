-- What registers hold where a function begins, and of which kinds they are.
use Rattle.std.proofs.Common.{◌≡◌, ◌≢◌, ℕ, zero, suc, ◌+◌, ◌-◌, ◌<◌, ◌≤◌, Bool, true, false, List, [], ◌∷◌, ◌++◌, length, get_or, replicate, Option, Some, None, refl, sym, ap, ◌∙◌, subst, arith}
use Rattle.std.specs.Prelude.{slice_get, slice_index, map}
use Rattle.std.proofs.lemmas.List.{length-append, length-map, length-replicate}
use Rattle.c0_typed.specs.Values.{Value, Void}
use Rattle.c0_typed.specs.Trees as t
use Rattle.c0_typed.specs.Trees.{Program, Ty}
use Rattle.c0_typed.specs.Meaning.{blank, locals_at_entry}
use Rattle.c0_typed.specs.Typing.{AreAll, Kept, local_types}
use Rattle.c0_typed.specs.Views.{function_of, program_of, texts_of, type_of}
use Rattle.c0_typed.specs.declared.tree.ValueType.{ValueType}
use Rattle.c0_typed.specs.declared.tree.Function.{Function}
use Rattle.c0_typed.specs.declared.tree.Typed.{Typed}
use Rattle.code_form.specs.declared.form.Kind.{Kind}
use Rattle.code_form.specs.Form.{Head}
use Rattle.lower.specs.Coded.{Coded}
use Rattle.lower_tables.specs.Kinds.{kind_of}
use Rattle.lower_expressions.specs.Expressions.{kind_at, local_register}
use Rattle.lower.proofs.Arguments.{AllCoded}
use Rattle.lower.proofs.Defaults.{blank_coded}
use Rattle.lower.proofs.Registers.{At, at_right, at_tail, Matched}

-- ---- what registers hold

-- cells that hold 0
abbrev pub zeros : ℕ → List ℕ
zeros m = replicate m 0

zeros_are : (m i : ℕ) → get_or (zeros m) i 0 ≡ 0
zeros_are zero i = refl
zeros_are (suc m) zero = refl
zeros_are (suc m) (suc i) = zeros_are m i

module _ (H : Head) where
  blanks_coded : (us : List Ty) (m i : ℕ) → Coded H (get_or (map blank us) i Void) (get_or (zeros m) i 0)
  blanks_coded us m i = subst (λ z. Coded H (get_or (map blank us) i Void) z) (sym (zeros_are m i)) (at us i)
    where
      at : (us : List Ty) (i : ℕ) → Coded H (get_or (map blank us) i Void) 0
      at [] i = tt
      at (u ∷ us) zero = blank_coded H u
      at (u ∷ us) (suc i) = at us i

  -- the arguments, and blanks behind them
  pub entry_coded : (vs : List Value) (ns : List ℕ) (us : List Ty) (m i : ℕ) → AllCoded H vs ns → Coded H (get_or (vs ++ map blank us) i Void) (get_or (ns ++ zeros m) i 0)
  entry_coded [] [] us m i c = blanks_coded us m i
  entry_coded [] (n ∷ ns) us m i c = absurd c
  entry_coded (v ∷ vs) [] us m i c = absurd c
  entry_coded (v ∷ vs) (n ∷ ns) us m zero c = c.0
  entry_coded (v ∷ vs) (n ∷ ns) us m (suc i) c = entry_coded vs ns us m i c.1

  -- so many as arguments
  pub coded_long : (vs : List Value) (ns : List ℕ) → AllCoded H vs ns → length ns ≡ length vs
  coded_long [] [] c = refl
  coded_long [] (n ∷ ns) c = absurd c
  coded_long (v ∷ vs) [] c = absurd c
  coded_long (v ∷ vs) (n ∷ ns) c = ap suc (coded_long vs ns c.1)

past_zero : (ns : List ℕ) (m i : ℕ) → length ns ≤ i → get_or (ns ++ zeros m) i 0 ≡ 0
past_zero [] m i l = zeros_are m i
past_zero (n ∷ ns) m zero l = absurd (let q : ⊥ = omega (arith, l) in q)
past_zero (n ∷ ns) m (suc i) l = past_zero ns m i (omega (arith, l))

-- the locals of a call that begins
pub matched_entry : (H : Head) (locals : ℕ) (result : Ty) (vs : List Value) (ns : List ℕ) (us : List Ty) (m : ℕ) → length ns ≤ locals → AllCoded H vs ns → Matched H locals (blank result ∷ vs ++ map blank us) (ns ++ zeros m)
matched_entry H locals result vs ns us m l c zero le = subst (λ z. Coded H (blank result) z) (sym (past_zero ns m locals l)) (blank_coded H result)
matched_entry H locals result vs ns us m l c (suc i) le = entry_coded H vs ns us m i c

-- ---- kinds of registers

module _ (typed : Typed) (singles : List Kind) where
  abbrev p : Program
  p = program_of typed

  abbrev n : ℕ
  n = length p.structs

  abbrev kind_here : ValueType → Kind
  kind_here ty = kind_at p.structs singles (texts_of typed) typed.functions.items typed.main ty

  -- a parameter or another local
  kind_of_local : (ps qs : List ValueType) (rest : List Kind) (i : ℕ) (u : Ty) → slice_get (map type_of ps ++ map type_of qs) i ≡ Some u → slice_get (map kind_here ps ++ (map kind_here qs ++ rest)) i ≡ Some (kind_of n singles u)
  kind_of_local [] [] rest i u e = absurd (cc e)
  kind_of_local [] (x ∷ qs) rest zero u e = let z : type_of x ≡ u = cc e in ap (λ y. Some (kind_of n singles y)) z
  kind_of_local [] (x ∷ qs) rest (suc i) u e = kind_of_local [] qs rest i u e
  kind_of_local (x ∷ ps) qs rest zero u e = let z : type_of x ≡ u = cc e in ap (λ y. Some (kind_of n singles y)) z
  kind_of_local (x ∷ ps) qs rest (suc i) u e = kind_of_local ps qs rest i u e

  at_all : (ks : List Kind) → At ks 0 ks
  at_all ks i k e = let z : 0 + i ≡ i = omega arith in subst (λ j. slice_get ks j ≡ Some k) (sym z) e

  -- behind the parameters and the other locals
  pub at_behind : (ps qs : List ValueType) (rest : List Kind) → At (map kind_here ps ++ (map kind_here qs ++ rest)) (length ps + length qs) rest
  at_behind ps qs rest =
      let ks : List Kind = map kind_here ps ++ (map kind_here qs ++ rest) in
      let first = at_right ks 0 (map kind_here ps) (map kind_here qs ++ rest) (at_all ks) in
      let second = at_right ks (0 + length (map kind_here ps)) (map kind_here qs) rest first in
      let a : length (map kind_here ps) ≡ length ps = length-map ps kind_here in
      let b : length (map kind_here qs) ≡ length qs = length-map qs kind_here in
      let same : 0 + length (map kind_here ps) + length (map kind_here qs) ≡ length ps + length qs = omega (arith, a, b) in
      subst (λ z. At ks z rest) same second

  -- each local
  pub locals_kinds : (h : Function) (rest : List Kind) (x : ℕ) (u : Ty) → slice_get (local_types (function_of (texts_of typed) h)) x ≡ Some u
      → slice_get (map kind_here h.parameters.items ++ (map kind_here h.locals.items ++ (kind_here h.result ∷ rest))) (local_register (length h.parameters.items + length h.locals.items) x) ≡ Some (kind_of n singles u)
  locals_kinds h rest zero u e =
      let z : type_of h.result ≡ u = cc e in
      let at = at_behind h.parameters.items h.locals.items (kind_here h.result ∷ rest) 0 (kind_here h.result) refl in
      let same : length h.parameters.items + length h.locals.items + 0 ≡ length h.parameters.items + length h.locals.items = omega arith in
      subst (λ j. slice_get (map kind_here h.parameters.items ++ (map kind_here h.locals.items ++ (kind_here h.result ∷ rest))) j ≡ Some (kind_of n singles u)) same (at ∙ ap (λ y. Some (kind_of n singles y)) z)
  locals_kinds h rest (suc i) u e = kind_of_local h.parameters.items h.locals.items (kind_here h.result ∷ rest) i u e

  -- as many as registers in front of what is no local
  pub types_long : (h : Function) → length (local_types (function_of (texts_of typed) h)) ≡ suc (length h.parameters.items + length h.locals.items)
  types_long h =
      ap suc (length-append (map type_of h.parameters.items) (map type_of h.locals.items) ∙ ap (λ z. z + length (map type_of h.locals.items)) (length-map h.parameters.items type_of) ∙ ap (λ z. length h.parameters.items + z) (length-map h.locals.items type_of))

-- what is added brings a list to its length
pub filled_long : (ns : List ℕ) (m : ℕ) → length ns ≤ m → length (ns ++ zeros (m - length ns)) ≡ m
filled_long ns m l =
    let a = length-append ns (zeros (m - length ns)) in
    let b : length (zeros (m - length ns)) ≡ m - length ns = length-replicate (m - length ns) 0 in
    omega (arith, a, b, l)
