use Rattle.std.proofs.Common.{◌≡◌, ◌<◌, ◌≤◌, ℕ, List, [], ◌∷◌, Some, length, refl, sym, ap, ◌∙◌, arith}
use Rattle.std.specs.Prelude.{◌*◌, slice_get, slice_index}
use Rattle.code_form.specs.declared.form.Kind.{Kind}
use Rattle.code_form.specs.declared.form.Kind.TheVariants as kind
use Rattle.code_form.specs.Code.{Aimed, Frame}
use Rattle.code_form.specs.Facts.{IsInside}
use Rattle.code_form.specs.WorkedFacts.{worked_allocations, worked_head}
use Rattle.code_form.proofs.laws.worked_facts.Goals as goal

-- elements have two cells
two_cells : (f : Frame) (d r : ℕ) → slice_get f.function.kinds r ≡ Some (kind.Arr 1) → (h : IsInside worked_head worked_allocations f d r) → slice_index f.registers d ≡ h.index * 2
two_cells f d r e h =
    let same : Some (kind.Arr 1) ≡ Some (kind.Arr h.layout) = sym e ∙ h.array in
    let layout : 1 ≡ h.layout = cc in
    let there : Some (kind.Int ∷ kind.Bool ∷ []) ≡ Some h.cells = ap (slice_get worked_head.layouts) layout ∙ h.element in
    let cells : kind.Int ∷ kind.Bool ∷ [] ≡ h.cells = cc in
    let two : 2 ≡ length h.cells = ap length cells in
    h.place ∙ ap (λ k. h.index * k) (sym two)

same_index : (x y : ℕ) → Some (Aimed 1 (Some 2) 1 2 x) ≡ Some (Aimed 1 (Some 2) 1 2 y) → x ≡ y
same_index x y e = cc

pub returns-clause-nonnull : goal.returns-clause-nonnull
returns-clause-nonnull c = (omega arith, omega arith)

pub returns-clause-null : goal.returns-clause-null
returns-clause-null c = λ h. let l : 0 < 0 = h.0 in absurd (omega arith)

pub returns-clause-no_allocation : goal.returns-clause-no_allocation
returns-clause-no_allocation c = λ h. let l : 3 ≤ 2 = h.1 in absurd (omega arith)

pub returns-clause-inside : goal.returns-clause-inside
returns-clause-inside c = record {
  layout = 1;
  cells = kind.Int ∷ kind.Bool ∷ [];
  index = 2;
  array = refl;
  offsets = refl;
  element = refl;
  place = refl;
  inside = let l : 2 < 3 = omega arith in l;
}

pub returns-clause-behind : goal.returns-clause-behind
returns-clause-behind c = λ h.
    let e : 6 ≡ h.index * 2 = two_cells _ 2 1 refl h in
    let l : h.index < 3 = h.inside in
    absurd (omega arith)

pub returns-clause-between : goal.returns-clause-between
returns-clause-between c = λ h. let e : 3 ≡ h.index * 2 = two_cells _ 2 1 refl h in absurd (omega arith)

pub returns-clause-empty : goal.returns-clause-empty
returns-clause-empty c = λ h. let l : h.index < 0 = h.inside in absurd (omega arith)

pub returns-clause-aimed : goal.returns-clause-aimed
returns-clause-aimed c = refl

pub returns-clause-elsewhere : goal.returns-clause-elsewhere
returns-clause-elsewhere c = λ h. let e = same_index 5 3 h in absurd (omega arith)

pub returns-clause-stale : goal.returns-clause-stale
returns-clause-stale c = λ h. cc

pub returns-clause-shut : goal.returns-clause-shut
returns-clause-shut c = refl

pub returns-clause-not_shut : goal.returns-clause-not_shut
returns-clause-not_shut c = λ h. cc

pub returns-clause-no_scope : goal.returns-clause-no_scope
returns-clause-no_scope c = λ h. cc
