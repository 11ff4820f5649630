-- What a program printed grows.
use Rattle.std.proofs.Common.{◌≡◌, ◌⊎◌, inl, inr, ◌≤◌, ◌+◌, ◌-◌, ℕ, refl, sym, ap, ◌∙◌, subst, arith}
use Rattle.cells.specs.Outcomes.{IsPrefix}
use Rattle.cells.specs.declared.ending.Run.{Run}
use Rattle.cells.specs.declared.ending.Run.TheVariants.{Running, Stopped, Wanted}
use Rattle.code_form.specs.Form.{Image}
use Rattle.code_form.specs.Code.{Core, code, output_of}
use Rattle.code_form.specs.Effects.{Heap, code_run, steps}
use Rattle.code_form.specs.Laws.{OutputGrows, StepsAdd}
use Rattle.session.specs.State.{IsAt, IsUntold, Ran, SameProgram, State}

-- no instruction that was completed is undone
ran_on : (reliable : Type 0) (n : ℕ) (s t : State) (r : Run) → Ran reliable n s t r → s.completed ≤ t.completed
ran_on reliable n s t Running ran = let more = ran.1 in omega arith
ran_on reliable n s t (Stopped x) ran = ran.1.0
ran_on reliable n s t (Wanted w) ran = ran.1.0

completed_more : (reliable : Type 0) (n : ℕ) (s t : State) (r : Run) → Ran reliable n s t r ⊎ IsUntold s t r → s.completed ≤ t.completed
completed_more reliable n s t r (inl ran) = ran_on reliable n s t r ran
completed_more reliable n s t r (inr u) = let same = ap (λ (x : State). x.completed) u.0 in omega arith

same_run : (reliable : Type 0) (n : ℕ) (s t : State) (r : Run) → Ran reliable n s t r → SameProgram s t
same_run reliable n s t Running ran = ran.0
same_run reliable n s t (Stopped x) ran = ran.0
same_run reliable n s t (Wanted w) ran = ran.0

-- the program stays the same
pub same_program : (reliable : Type 0) (n : ℕ) (s t : State) (r : Run) → Ran reliable n s t r ⊎ IsUntold s t r → SameProgram s t
same_program reliable n s t r (inl ran) = same_run reliable n s t r ran
same_program reliable n s t r (inr u) = subst (λ (x : State). SameProgram s x) (sym u.0) (refl, refl, refl, refl)

-- what the code's run printed begins what it has printed some instructions later
pub grown : StepsAdd → OutputGrows → (reliable : Type 0) (n : ℕ) (s t : State) (r : Run) → IsAt s → IsAt t → Ran reliable n s t r ⊎ IsUntold s t r → IsPrefix (output_of s.core) (output_of t.core)
grown add grows reliable n s t r from to told =
    let image : t.image ≡ s.image = (same_program reliable n s t r told).0 in
    let C = s.image in
    let z : Core × Heap = code_run (code C) s.completed in
    let k : ℕ = t.completed - s.completed in
    let less : s.completed ≤ t.completed = completed_more reliable n s t r told in
    let many : t.completed ≡ s.completed + k = omega arith in
    let reached : t.core ≡ (steps (code C) k z).0 =
    to.core ∙ ap (λ (D : Image). (code_run (code D) t.completed).0) image ∙ ap (λ m. (code_run (code C) m).0) many ∙ ap (λ (w : Core × Heap). w.0) (add (code C) s.completed k ((code C).start, λ _ _. 0)) in
    subst (λ (c : Core). IsPrefix (output_of s.core) (output_of c)) (sym reached)
    (subst (λ (c : Core). IsPrefix (output_of c) (output_of (steps (code C) k z).0)) (sym from.core) (grows C k z))
