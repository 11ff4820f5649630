-- Kinds that are the same, and registers that have one.
use Rattle.std.proofs.Common.{◌≡◌, ◌≢◌, ◌⊎◌, inl, inr, ℕ, ◌<◌, Bool, true, false, Option, Some, None, List, refl, sym, ap, ◌∙◌, arith}
use Rattle.std.specs.Prelude.{◌==◌, ◌&&◌, nat_lt, slice_get}
use Rattle.std.proofs.lemmas.Bool.Decides.{eqb_tells, nat_tests}
use Rattle.code_form.specs.declared.form.Kind.{Kind}
use Rattle.code_form.specs.declared.form.Kind.TheVariants as kind
use Rattle.code_form.specs.Code.{has, is_array_of, is_kind, on_kind, same_kind}

-- ---- tests

pub equal : (a b : ℕ) → (a == b) ≡ true → a ≡ b
equal a b e = elim (eqb_tells a b) [ inl f ↦ f.1 | inr f ↦ absurd (let z : true ≡ false = sym e ∙ f.0 in cc) ]

pub apart : (a b : ℕ) → (a == b) ≡ false → a ≢ b
apart a b e s = elim (eqb_tells a b) [ inl f ↦ let z : true ≡ false = sym f.0 ∙ e in cc | inr f ↦ f.1 s ]

pub same_or : (a b : ℕ) → (a ≡ b) ⊎ (a ≢ b)
same_or a b = elim (eqb_tells a b) [ inl e ↦ inl e.1 | inr e ↦ inr e.1 ]

pub below : (a b : ℕ) → nat_lt a b ≡ true → a < b
below a b e = grind (arith, nat_tests)

pub is_below : (a b : ℕ) → a < b → nat_lt a b ≡ true
is_below a b l = grind (arith, nat_tests)

pub both_left : (a b : Bool) → a && b ≡ true → a ≡ true
both_left true b e = refl
both_left false b e = absurd (cc e)

pub both_right : (a b : Bool) → a && b ≡ true → b ≡ true
both_right true b e = e
both_right false b e = absurd (cc e)

pub both : (a b : Bool) → a ≡ true → b ≡ true → a && b ≡ true
both true b e f = f
both false b e f = absurd (cc e)

-- ---- kinds

pub same_kind_is : (x y : Kind) → same_kind x y ≡ true → x ≡ y
same_kind_is kind.Int kind.Int e = refl
same_kind_is kind.Int kind.Bool e = absurd (cc e)
same_kind_is kind.Int kind.Char e = absurd (cc e)
same_kind_is kind.Int kind.Text e = absurd (cc e)
same_kind_is kind.Int (kind.Ptr b) e = absurd (cc e)
same_kind_is kind.Int (kind.Arr b) e = absurd (cc e)
same_kind_is kind.Int (kind.Off b) e = absurd (cc e)
same_kind_is kind.Bool kind.Int e = absurd (cc e)
same_kind_is kind.Bool kind.Bool e = refl
same_kind_is kind.Bool kind.Char e = absurd (cc e)
same_kind_is kind.Bool kind.Text e = absurd (cc e)
same_kind_is kind.Bool (kind.Ptr b) e = absurd (cc e)
same_kind_is kind.Bool (kind.Arr b) e = absurd (cc e)
same_kind_is kind.Bool (kind.Off b) e = absurd (cc e)
same_kind_is kind.Char kind.Int e = absurd (cc e)
same_kind_is kind.Char kind.Bool e = absurd (cc e)
same_kind_is kind.Char kind.Char e = refl
same_kind_is kind.Char kind.Text e = absurd (cc e)
same_kind_is kind.Char (kind.Ptr b) e = absurd (cc e)
same_kind_is kind.Char (kind.Arr b) e = absurd (cc e)
same_kind_is kind.Char (kind.Off b) e = absurd (cc e)
same_kind_is kind.Text kind.Int e = absurd (cc e)
same_kind_is kind.Text kind.Bool e = absurd (cc e)
same_kind_is kind.Text kind.Char e = absurd (cc e)
same_kind_is kind.Text kind.Text e = refl
same_kind_is kind.Text (kind.Ptr b) e = absurd (cc e)
same_kind_is kind.Text (kind.Arr b) e = absurd (cc e)
same_kind_is kind.Text (kind.Off b) e = absurd (cc e)
same_kind_is (kind.Ptr a) kind.Int e = absurd (cc e)
same_kind_is (kind.Ptr a) kind.Bool e = absurd (cc e)
same_kind_is (kind.Ptr a) kind.Char e = absurd (cc e)
same_kind_is (kind.Ptr a) kind.Text e = absurd (cc e)
same_kind_is (kind.Ptr a) (kind.Ptr b) e = ap kind.Ptr (equal a b e)
same_kind_is (kind.Ptr a) (kind.Arr b) e = absurd (cc e)
same_kind_is (kind.Ptr a) (kind.Off b) e = absurd (cc e)
same_kind_is (kind.Arr a) kind.Int e = absurd (cc e)
same_kind_is (kind.Arr a) kind.Bool e = absurd (cc e)
same_kind_is (kind.Arr a) kind.Char e = absurd (cc e)
same_kind_is (kind.Arr a) kind.Text e = absurd (cc e)
same_kind_is (kind.Arr a) (kind.Ptr b) e = absurd (cc e)
same_kind_is (kind.Arr a) (kind.Arr b) e = ap kind.Arr (equal a b e)
same_kind_is (kind.Arr a) (kind.Off b) e = absurd (cc e)
same_kind_is (kind.Off a) kind.Int e = absurd (cc e)
same_kind_is (kind.Off a) kind.Bool e = absurd (cc e)
same_kind_is (kind.Off a) kind.Char e = absurd (cc e)
same_kind_is (kind.Off a) kind.Text e = absurd (cc e)
same_kind_is (kind.Off a) (kind.Ptr b) e = absurd (cc e)
same_kind_is (kind.Off a) (kind.Arr b) e = absurd (cc e)
same_kind_is (kind.Off a) (kind.Off b) e = ap kind.Off (equal a b e)

pub is_kind_is : (k : Kind) (x : Option Kind) → is_kind k x ≡ true → x ≡ Some k
is_kind_is k None e = absurd (cc e)
is_kind_is k (Some j) e = ap Some (sym (same_kind_is k j e))

pub has_is : (ks : List Kind) (r : ℕ) (k : Kind) → has ks r k ≡ true → slice_get ks r ≡ Some k
has_is ks r k e = is_kind_is k (slice_get ks r) e

-- a test that holds of a kind that is there
pub on_kind_is : (f : Kind → Bool) (x : Option Kind) → on_kind f x ≡ true → (k : Kind) × (x ≡ Some k) × (f k ≡ true)
on_kind_is f None e = absurd (cc e)
on_kind_is f (Some k) e = (k, refl, e)

-- an array, and an offset in its elements
pub array_of_is : (x y : Option Kind) → is_array_of x y ≡ true → (l : ℕ) × (x ≡ Some (kind.Off l)) × (y ≡ Some (kind.Arr l))
array_of_is (Some (kind.Off a)) (Some (kind.Arr b)) e = let z = equal a b e in (a, refl, ap (λ q. Some (kind.Arr q)) (sym z))
array_of_is None y e = absurd (cc e)
array_of_is (Some kind.Int) y e = absurd (cc e)
array_of_is (Some kind.Bool) y e = absurd (cc e)
array_of_is (Some kind.Char) y e = absurd (cc e)
array_of_is (Some kind.Text) y e = absurd (cc e)
array_of_is (Some (kind.Ptr a)) y e = absurd (cc e)
array_of_is (Some (kind.Arr a)) y e = absurd (cc e)
array_of_is (Some (kind.Off a)) None e = absurd (cc e)
array_of_is (Some (kind.Off a)) (Some kind.Int) e = absurd (cc e)
array_of_is (Some (kind.Off a)) (Some kind.Bool) e = absurd (cc e)
array_of_is (Some (kind.Off a)) (Some kind.Char) e = absurd (cc e)
array_of_is (Some (kind.Off a)) (Some kind.Text) e = absurd (cc e)
array_of_is (Some (kind.Off a)) (Some (kind.Ptr b)) e = absurd (cc e)
array_of_is (Some (kind.Off a)) (Some (kind.Off b)) e = absurd (cc e)
