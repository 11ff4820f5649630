-- The cause of a fault in a part of a statement is one in the statement.
use Rattle.std.proofs.Common.{◌≡◌, Option, Some, None, inl, inr}
use Rattle.std.specs.Prelude.{◌⊎◌}
use Rattle.c0_rules.specs.Types.{and_so}

-- of what two rules in a row give, each gives something
pub both_give : {A B : Type 0} (o : Option A) (go : A → Option B) (y : B) → and_so o go ≡ Some y → (x : A) × (o ≡ Some x) × (go x ≡ Some y)
both_give None go y e = absurd (cc e)
both_give (Some x) go y e = (x, (λ i. Some x), e)

-- a cause of one of two sorts, as one of four
pub among_four : {K A B C D E : Type 0} → K ⊎ B ⊎ C → (C → D) → K ⊎ (A ⊎ B ⊎ D ⊎ E)
among_four (inl k) f = inl k
among_four (inr (inl b)) f = inr (inr (inl b))
among_four (inr (inr c)) f = inr (inr (inr (inl (f c))))
