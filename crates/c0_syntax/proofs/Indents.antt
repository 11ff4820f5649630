-- Indentation, a level at a time.
use Rattle.std.proofs.Common.{◌≡◌, ℕ, suc, ◌+◌, ◌-◌, ◌<◌, List, [], ◌++◌, refl, sym, ap, ◌∙◌, arith}
use Rattle.std.specs.Prelude.{codes}
use mathlib.Core.List.{append_assoc}
use Rattle.c0_syntax.specs.Printing.{indentation}

one_level : (level turn : ℕ) → turn < level → indentation (level - turn) ≡ codes "    " ++ indentation (level - (turn + 1))
one_level level turn lt = let e : level - turn ≡ suc (level - (turn + 1)) = omega arith in rw e refl

-- what was written before, what is written, and all of it
pub further : (before text all : List ℕ) (level turn : ℕ) → turn < level → text ≡ before ++ codes "    " → before ++ indentation (level - turn) ≡ all ++ indentation level → text ++ indentation (level - (turn + 1)) ≡ all ++ indentation level
further before text all level turn lt e kept =
    ap (λ (t : List ℕ). t ++ indentation (level - (turn + 1))) e ∙ append_assoc before (codes "    ") (indentation (level - (turn + 1)))
    ∙ ap (λ (t : List ℕ). before ++ t) (sym (one_level level turn lt)) ∙ kept

pub no_level : (level : ℕ) → indentation (level - level) ≡ []
no_level level = let e : level - level ≡ 0 = omega arith in rw e refl
