-- What is known behind code in order, and its discipline.
use Rattle.std.proofs.Common.{◌≡◌, ℕ, List, [], ◌∷◌, ◌++◌, refl}
use Rattle.code_form.specs.declared.form.Kind.{Kind}
use Rattle.middle_form.specs.Discipline.{IsDisciplined, Table, after}
use Rattle.middle_form.specs.Scoped.{Code}
use Rattle.scoped_building.specs.Building.{in_order}

pub after_append : (xs ys : List Code) (k : Table) → ◌≡◌ {A = Table} (after (in_order (xs ++ ys)) k) (after (in_order ys) (after (in_order xs) k))
after_append [] ys k = refl
after_append (x ∷ xs) ys k = after_append xs ys (after x k)

module _ (ks : List Kind) (n : ℕ) where
  abbrev D : List Table → Code → Table → Type 0
  D fs a k = IsDisciplined ks n fs a k

  pub append_kept : (fs : List Table) (xs ys : List Code) (k : Table) → D fs (in_order xs) k → D fs (in_order ys) (after (in_order xs) k) → D fs (in_order (xs ++ ys)) k
  append_kept fs [] ys k p q = q
  append_kept fs (x ∷ xs) ys k p q = (p.0, append_kept fs xs ys (after x k) p.1 q)
