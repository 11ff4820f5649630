-- Registers: their kinds, what they keep, and the values of locals in them.
use Rattle.std.proofs.Common.{◌≡◌, ◌≢◌, ℕ, zero, suc, ◌+◌, ◌<◌, ◌≤◌, ◌⊎◌, inl, inr, Bool, true, false, cond, List, [], ◌∷◌, ◌++◌, length, get_or, set, Option, Some, None, refl, sym, ap, ◌∙◌, subst, arith}
use Rattle.std.specs.Prelude.{◌==◌, ◌&&◌, slice_get, slice_index, slice_set}
use Rattle.std.proofs.lemmas.List.{length-append, length-set, get_or-set_same, get_or-set_other}
use Rattle.std.proofs.lemmas.Option.{slice_get_within}
use Rattle.std.proofs.lemmas.Bool.Decides.{eqb_tells}
use Rattle.c0_typed.specs.Values.{Value, Void}
use Rattle.code_form.specs.declared.form.Kind.{Kind}
use Rattle.code_form.specs.declared.form.Kind.TheVariants as kind
use Rattle.code_form.specs.Code.{has, is_kind, on_kind, same_kind}
use Rattle.code_form.specs.Form.{Head}
use Rattle.lower.specs.Coded.{Coded}
use Rattle.lower_expressions.specs.Expressions.{local_register}

pub number_same : (a : ℕ) → (a == a) ≡ true
number_same a = at (eqb_tells a a)
  where
    at : (((a == a) ≡ true) × (a ≡ a)) ⊎ (((a == a) ≡ false) × (a ≢ a)) → (a == a) ≡ true
    at (inl q) = q.0
    at (inr q) = absurd (q.1 refl)

pub kind_same : (k : Kind) → same_kind k k ≡ true
kind_same kind.Int = refl
kind_same kind.Bool = refl
kind_same kind.Char = refl
kind_same kind.Text = refl
kind_same (kind.Ptr l) = number_same l
kind_same (kind.Arr l) = number_same l
kind_same (kind.Off l) = number_same l

-- the register is there, and has the kind
pub has_it : (ks : List Kind) (r : ℕ) (k : Kind) → slice_get ks r ≡ Some k → has ks r k ≡ true
has_it ks r k e = ap (is_kind k) e ∙ kind_same k

pub and_true : (a b : Bool) → a ≡ true → b ≡ true → (a && b) ≡ true
and_true a b e f = ap (λ x. x && b) e ∙ f

-- ---- kinds from a register on

-- from register d on, the kinds are these
abbrev pub At : List Kind → ℕ → List Kind → Type 0
At ks d es = (i : ℕ) (k : Kind) → slice_get es i ≡ Some k → slice_get ks (d + i) ≡ Some k

get_left : (xs ys : List Kind) (i : ℕ) (k : Kind) → slice_get xs i ≡ Some k → slice_get (xs ++ ys) i ≡ Some k
get_left [] ys i k e = absurd (cc e)
get_left (x ∷ xs) ys zero k e = e
get_left (x ∷ xs) ys (suc i) k e = get_left xs ys i k e

get_right : (xs ys : List Kind) (i : ℕ) (k : Kind) → slice_get ys i ≡ Some k → slice_get (xs ++ ys) (length xs + i) ≡ Some k
get_right [] ys i k e = let q : 0 + i ≡ i = omega arith in subst (λ n. slice_get ys n ≡ Some k) (sym q) e
get_right (x ∷ xs) ys i k e =
    let q : suc (length xs) + i ≡ suc (length xs + i) = omega arith in
    subst (λ n. slice_get (x ∷ (xs ++ ys)) n ≡ Some k) (sym q) (get_right xs ys i k e)

pub at_left : (ks : List Kind) (d : ℕ) (xs ys : List Kind) → At ks d (xs ++ ys) → At ks d xs
at_left ks d xs ys h i k e = h i k (get_left xs ys i k e)

pub at_right : (ks : List Kind) (d : ℕ) (xs ys : List Kind) → At ks d (xs ++ ys) → At ks (d + length xs) ys
at_right ks d xs ys h i k e =
    let q : d + length xs + i ≡ d + (length xs + i) = omega arith in
    subst (λ n. slice_get ks n ≡ Some k) (sym q) (h (length xs + i) k (get_right xs ys i k e))

pub at_tail : (ks : List Kind) (d : ℕ) (x : Kind) (xs : List Kind) → At ks d (x ∷ xs) → At ks (suc d) xs
at_tail ks d x xs h i k e =
    let q : suc d + i ≡ d + suc i = omega arith in
    subst (λ n. slice_get ks n ≡ Some k) (sym q) (h (suc i) k e)

pub at_head : (ks : List Kind) (d : ℕ) (x : Kind) (xs : List Kind) → At ks d (x ∷ xs) → slice_get ks d ≡ Some x
at_head ks d x xs h =
    let q : d + 0 ≡ d = omega arith in
    subst (λ n. slice_get ks n ≡ Some x) q (h 0 x refl)

-- ---- what stays

-- the registers below d hold what they held
abbrev pub Keeps : ℕ → List ℕ → List ℕ → Type 0
Keeps d rs xs = (r : ℕ) → r < d → slice_index xs r ≡ slice_index rs r

pub keeps_refl : (d : ℕ) (rs : List ℕ) → Keeps d rs rs
keeps_refl d rs r l = refl

pub keeps_then : (d e : ℕ) (rs xs ys : List ℕ) → d ≤ e → Keeps d rs xs → Keeps e xs ys → Keeps d rs ys
keeps_then d e rs xs ys le h k r l = let l' : r < e = omega arith in k r l' ∙ h r l

pub keeps_less : (d e : ℕ) (rs xs : List ℕ) → d ≤ e → Keeps e rs xs → Keeps d rs xs
keeps_less d e rs xs le h r l = let l' : r < e = omega arith in h r l'

pub put_same : (rs : List ℕ) (d v : ℕ) → d < length rs → slice_index (slice_set rs d v) d ≡ v
put_same rs d v l = get_or-set_same rs d v 0 l

pub put_other : (rs : List ℕ) (d v r : ℕ) → r ≢ d → slice_index (slice_set rs d v) r ≡ slice_index rs r
put_other rs d v r ne = get_or-set_other rs d r v 0 ne

pub keeps_put : (d : ℕ) (rs xs : List ℕ) (v : ℕ) → Keeps d rs xs → Keeps d rs (slice_set xs d v)
keeps_put d rs xs v h r l = let ne : r ≢ d = omega arith in put_other xs d v r ne ∙ h r l

-- ---- locals

module _ (H : Head) (locals : ℕ) where
  -- the registers of the locals hold their values
  abbrev pub Matched : List Value → List ℕ → Type 0
  Matched vs rs = (x : ℕ) → x ≤ locals → Coded H (get_or vs x Void) (slice_index rs (local_register locals x))

  pub local_low : (x : ℕ) → x ≤ locals → local_register locals x ≤ locals
  local_low zero l = omega arith
  local_low (suc x) l = omega arith

  local_apart : (x y : ℕ) → x ≤ locals → y ≤ locals → x ≢ y → local_register locals x ≢ local_register locals y
  local_apart zero zero l k ne = absurd (ne refl)
  local_apart zero (suc y) l k ne = omega arith
  local_apart (suc x) zero l k ne = omega arith
  local_apart (suc x) (suc y) l k ne = λ e. ne (ap suc e)

  pub matched_keep : (vs : List Value) (rs xs : List ℕ) (d : ℕ) → suc locals ≤ d → Matched vs rs → Keeps d rs xs → Matched vs xs
  matched_keep vs rs xs d l h k x le =
      let low : local_register locals x ≤ locals = local_low x le in
      let less : local_register locals x < d = omega arith in
      subst (λ n. Coded H (get_or vs x Void) n) (sym (k (local_register locals x) less)) (h x le)

  pub matched_set : (vs : List Value) (rs : List ℕ) (x : ℕ) (v : Value) (n : ℕ) → x ≤ locals → x < length vs → local_register locals x < length rs → Matched vs rs → Coded H v n → Matched (set vs x v) (slice_set rs (local_register locals x) n)
  matched_set vs rs x v n le short long h c y ly = at (eqb_tells y x)
    where
      at : (((y == x) ≡ true) × (y ≡ x)) ⊎ (((y == x) ≡ false) × (y ≢ x)) → Coded H (get_or (set vs x v) y Void) (slice_index (slice_set rs (local_register locals x) n) (local_register locals y))
      at (inl q) =
          subst (λ z. Coded H (get_or (set vs x v) z Void) (slice_index (slice_set rs (local_register locals x) n) (local_register locals z))) (sym q.1)
          (rw (get_or-set_same vs x v Void short, put_same rs (local_register locals x) n long) c)
      at (inr q) =
          rw (get_or-set_other vs x y v Void q.1, put_other rs (local_register locals x) n (local_register locals y) (local_apart y x ly le q.1)) (h y ly)
