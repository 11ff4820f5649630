-- Where kinds stand in a list.
use Rattle.std.proofs.Common.{◌≡◌, ℕ, suc, ◌+◌, ◌<◌, Bool, true, false, cond, List, [], ◌∷◌, length, refl, sym, ap, arith, Some}
use Rattle.std.specs.Prelude.{slice_get}
use Rattle.std.proofs.lemmas.Bool.{eq-eqb, eqb-true, lt-ltb}
use Rattle.code_form.specs.declared.form.Kind.{Kind}
use Rattle.code_form.specs.declared.form.Kind.TheVariants as kind
use Rattle.code_form.specs.Code.{same_kind}
use Rattle.lower_tables.specs.Kinds.{position, single_layout}

pub same_kind_refl : (a : Kind) → same_kind a a ≡ true
same_kind_refl kind.Int = refl
same_kind_refl kind.Bool = refl
same_kind_refl kind.Char = refl
same_kind_refl kind.Text = refl
same_kind_refl (kind.Ptr a) = eq-eqb a a refl
same_kind_refl (kind.Arr a) = eq-eqb a a refl
same_kind_refl (kind.Off a) = eq-eqb a a refl

pub same_kind_is : (a b : Kind) → same_kind a b ≡ true → a ≡ b
same_kind_is kind.Int kind.Int h = refl
same_kind_is kind.Bool kind.Bool h = refl
same_kind_is kind.Char kind.Char h = refl
same_kind_is kind.Text kind.Text h = refl
same_kind_is (kind.Ptr a) (kind.Ptr b) h = ap kind.Ptr (eqb-true a b h)
same_kind_is (kind.Arr a) (kind.Arr b) h = ap kind.Arr (eqb-true a b h)
same_kind_is (kind.Off a) (kind.Off b) h = ap kind.Off (eqb-true a b h)
same_kind_is _ _ h = absurd (cc h)

-- a kind stands where it is found
pub position_there : (a : Kind) (ks : List Kind) → position a ks < length ks → slice_get ks (position a ks) ≡ Some a
position_there a [] l = absurd (let z : ⊥ = omega arith in z)
position_there a (b ∷ ks) l = at (same_kind a b) refl l (position_there a ks)
  where
    at : (c : Bool) → same_kind a b ≡ c → cond c 0 (suc (position a ks)) < suc (length ks) → (position a ks < length ks → slice_get ks (position a ks) ≡ Some a) → slice_get (b ∷ ks) (cond c 0 (suc (position a ks))) ≡ Some a
    at true e m rest = ap Some (sym (same_kind_is a b e))
    at false e m rest = rest (omega arith)

-- the layout of a kind that is in the list
pub single_there : (n : ℕ) (singles : List Kind) (a : Kind) → position a singles < length singles → single_layout n singles a ≡ suc (n + position a singles)
single_there n singles a l = ap (λ b. cond b (suc (n + position a singles)) n) (lt-ltb (position a singles) (length singles) l)
