-- What is written of a program, turn by turn.
use Rattle.std.proofs.Common.{◌≡◌, ◌∙◌, ◌++◌, Bool, false, true, ℕ, List, Option, ap, drop, length, subst, sym}
use Rattle.std.proofs.lemmas.List.Prefix.{front_rest}
use Rattle.std.specs.Io.KnownBytes.{Appends}
use Rattle.cells.specs.Outcomes.{IsPrefix}
use Rattle.program_run.specs.Runs.{RunView}
use Rattle.streams.proofs.Written.{appends_more, none_failed_more}
use Rattle.streams.specs.Streams.{NoneFailed, writes}
use Rattle.live_run.specs.Lives.{IsOverUnless, IsSame, Shows}

-- the same program, and still
pub same_still : (p q r : RunView) → IsSame p q → IsSame q r → IsSame p r
same_still p q r first then = (then.0 ∙ first.0, then.1 ∙ first.1, then.2 ∙ first.2, then.3 ∙ first.3)

-- a beginning, and what stands behind it
whole_of : (p q : List ℕ) → IsPrefix p q → p ++ drop (length p) q ≡ q
whole_of p q begins = ap (λ (rest : List ℕ). p ++ rest) (front_rest q p begins.0 (sym begins.1)) ∙ begins.1

-- a run that does not go on is over
pub over_now : (goes : Bool) (p : RunView) → goes ≡ false → IsOverUnless goes p → p.over ≡ true
over_now goes p ends over = subst (λ (b : Bool). IsOverUnless b p) ends over

module _ {S : Type 0} (contents : S → Option (List ℕ)) (failures : S → ℕ) where
  -- behind a turn what was printed there is written
  pub shows_more : (honest : Type 0) (p q : List ℕ) (old now new : S) → Shows honest p (writes contents failures old now) → (honest → IsPrefix p q) → Appends (contents now) (contents new) (drop (length p) q)
      → NoneFailed (writes contents failures now new) → Shows honest q (writes contents failures old new)
  shows_more honest p q old now new before grows more sound = record {
    shown = before.shown ++ drop (length p) q;
    whole = λ h. ap (λ (l : List ℕ). l ++ drop (length p) q) (before.whole h) ∙ whole_of p q (grows h);
    written = appends_more (contents old) (contents now) (contents new) before.shown (drop (length p) q) before.written more;
    sound = none_failed_more contents failures old now new before.sound sound;
  }
