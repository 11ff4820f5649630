-- what is promised of the ends of a run on threads, and where ends are settled
use Rattle.std.proofs.Common.{◌≡◌, ◌∙◌, ℕ, zero, suc, ◌+◌, ◌%◌, ◌<◌, ◌≤◌, ◌⊎◌, inl, inr, ⊎_elim, Bool, List, [], ◌∷◌, Option, Some, None, refl, sym, ap, subst, arith}
use Rattle.std.specs.List.{AllZip}
use Rattle.std.specs.Prelude.{slice_get}
use Rattle.cells.specs.declared.ending.Ended.{Ended}
use Rattle.cells.specs.declared.ending.Run.{Run}
use Rattle.cells.specs.declared.ending.Run.TheVariants as run
use Rattle.cells.specs.declared.ending.Stop.{Stop as StopRead}
use Rattle.cells.specs.Outcomes.{IsPrefix}
use Rattle.cells.specs.Stops.{Stop, stop_of as stop_read}
use Rattle.c0_image.specs.Correct.{Behaves}
use Rattle.c0_typed.specs.Meaning.{mean}
use Rattle.c0_typed.specs.Trees.{Program as Typed}
use Rattle.code_form.specs.declared.allocation.Allocation.{Allocation}
use Rattle.code_form.specs.Code.{Core, Stopped, code, output_of, stop_of}
use Rattle.code_form.specs.Effects.{code_run}
use Rattle.code_form.specs.Form.{Image, image_of}
use Rattle.program_run.specs.Executed.{EndsAs, IsExecutedOver, WantsFor}
use Rattle.region.specs.Admission.{image_at}
use Rattle.std.proofs.Math.Nat.{mod-le}
use Rattle.world.specs.Reports.{IsEnded, RunsAs}
use Rattle.world_semantics.specs.Programs.{Program}
use Rattle.c0far_headline.specs.Admitted.{PromisedEnd}
use Rattle.c0far_headline.specs.Headline.{EndsSo, Headline}
use Rattle.c0far_headline.specs.Ran.{EndsSettle, IsSettledBy, NeverFails, RunHeadline}
use Rattle.c0far_headline.proofs.Ends.{ended_at, ends_so, some_cells}
use Rattle.c0far_headline.proofs.Headlines.{Laws, at_beginning, at_stop}

-- what holds of the elements at each place holds of those at this one
pub zipped_at : {A B : Type 0} (R : A → B → Type 0) (xs : List A) (ys : List B) (k : ℕ) (x : A) (y : B) → AllZip R xs ys → slice_get xs k ≡ Some x → slice_get ys k ≡ Some y → R x y
zipped_at R [] ys k x y all is too = absurd (let no : ⊥ = cc in no)
zipped_at R (a ∷ xs) [] k x y all is too = absurd all
zipped_at R (a ∷ xs) (b ∷ ys) zero x y all is too =
    let first : a ≡ x = cc in
    let second : b ≡ y = cc in
    subst (λ (d : _). R d y) first (subst (λ (d : _). R a d) second all.0)
zipped_at R (a ∷ xs) (b ∷ ys) (suc k) x y all is too = zipped_at R xs ys k x y all.1 is too

-- a program that has stopped so has stopped
stopped_so : (c : Core) (s : Stop) (al : List Allocation) (o : List ℕ) → c ≡ Stopped s al o → stop_of c ≡ Some s
stopped_so c s al o is = ap stop_of is

same_stop : (x : StopRead) (s : Stop) → Some (stop_read x) ≡ Some s → stop_read x ≡ s
same_stop x s e = cc

no_stop : (s : Stop) → ◌≡◌ {A = Option Stop} None (Some s) → ⊥
no_stop s e = cc

-- the end of a run on threads that has stopped so
ran_so : (reliable : Type 0) (objects : ℕ) (C : Image) (c : Core) (s : Stop) (al : List Allocation) (o : List ℕ) (r : Run) → c ≡ Stopped s al o → EndsAs reliable objects C c r → (x : StopRead) × (r ≡ run.Stopped x) × (stop_read x ≡ s)
ran_so reliable objects C c s al o run.Running is ends = absurd ends
ran_so reliable objects C c s al o (run.Stopped x) is ends = (x, refl, same_stop x s (sym ends ∙ stopped_so c s al o is))
ran_so reliable objects C c s al o (run.Wanted w) is ends = absurd (no_stop s (sym ends.0 ∙ stopped_so c s al o is))

-- the end that a replay tells of a program that has stopped so
told_so : (p : Program) (s : Stop) (al : List Allocation) (o : List ℕ) (r : Run) → p.core ≡ Stopped s al o → RunsAs p r → (x : StopRead) × (r ≡ run.Stopped x) × (stop_read x ≡ s)
told_so p s al o run.Running is runs = absurd (no_stop s (sym runs.0 ∙ stopped_so p.core s al o is))
told_so p s al o (run.Stopped x) is runs = (x, refl, same_stop x s (sym runs ∙ stopped_so p.core s al o is))
told_so p s al o (run.Wanted w) is runs = absurd (no_stop s (sym runs.0 ∙ stopped_so p.core s al o is))

-- a number that is no more than another is below it, or is it
below_or_same : (j c : ℕ) → j ≤ c → (j < c) ⊎ (j ≡ c)
below_or_same zero zero le = inr refl
below_or_same zero (suc c) le = inl (omega arith)
below_or_same (suc j) zero le = absurd (omega arith)
below_or_same (suc j) (suc c) le = ⊎_elim (λ (h : j < c). inl (omega arith)) (λ (h : j ≡ c). inr (ap suc h)) (below_or_same j c (omega arith))

-- an end of a run on threads after j instructions or more, of code that is stopped so after j of them
ran_settled : (reliable : Type 0) (objects : ℕ) (C : Image) (j : ℕ) (s : Stop) (al : List Allocation) (o : List ℕ) (e : Ended)
    → (code_run (code C) j).0 ≡ Stopped s al o → IsExecutedOver reliable objects C e → IsSettledBy j s o e
ran_settled reliable objects C j s al o e there is le = ⊎_elim
    (λ (below : j < e.completed). absurd (no_stop s (sym (is.going j below) ∙ stopped_so (code_run (code C) j).0 s al o there)))
    (λ (same : j ≡ e.completed).
    let at : (code_run (code C) e.completed).0 ≡ Stopped s al o = subst (λ (n : ℕ). (code_run (code C) n).0 ≡ Stopped s al o) same there in
    let ended = ran_so reliable objects C (code_run (code C) e.completed).0 s al o e.run at is.ends in
    (ended.0, ended.1, ended.2, is.output ∙ ap output_of at))
    (below_or_same j e.completed le)

-- an end that a replay tells of a program that j instructions or more leave stopped so
told_settled : (p : Program) (j : ℕ) (s : Stop) (o : List ℕ) (e : Ended) → (j ≤ p.completed → (al : List Allocation) × (p.core ≡ Stopped s al o)) → IsEnded p e → IsSettledBy j s o e
told_settled p j s o e stops is le =
    let few : p.completed % 18446744073709551616 ≤ p.completed = mod-le p.completed 18446744073709551616 in
    let enough : j ≤ p.completed % 18446744073709551616 = subst (λ (n : ℕ). j ≤ n) is.completed le in
    let there = stops (omega (arith, few, enough)) in
    let ended = told_so p s there.0 o e.run there.1 is.runs in
    (ended.0, ended.1, ended.2, is.output ∙ ap output_of there.1)

module _ (laws : Laws) where
  -- an end that is the code's own is as promised of the text
  pub promised_end : (P : Typed) (checks : Bool) (C : Image) (reliable : Type 0) (objects : ℕ) (e : Ended) → Behaves P checks C → IsExecutedOver reliable objects C e
      → PromisedEnd P checks e (WantsFor reliable objects C (code_run (code C) e.completed).0)
  promised_end P checks C reliable objects e behaves is =
      let c : Core = (code_run (code C) e.completed).0 in
      let b = at_beginning laws P checks C behaves c e.completed refl in
      record {
        beginning = (b.0, λ m le. subst (λ (o : List ℕ). IsPrefix o (mean P checks m).output) (sym is.output) (b.1 m le));
        stopped = λ x ran. let h : EndsAs reliable objects C c (run.Stopped x) = subst (EndsAs reliable objects C c) ran is.ends in
            subst (λ (o : List ℕ). EndsSo P checks (stop_read x) o) (sym is.output) (ends_so P checks c (stop_read x) h (at_stop laws P checks C behaves c e.completed refl));
        wanting = λ want ran. let h : EndsAs reliable objects C c (run.Wanted want) = subst (EndsAs reliable objects C c) ran is.ends in h.1;
      }

  pub ran : RunHeadline
  ran reliable objects programs ends all k v e is too loops text checks cells meant compiled means =
      let same : compiled.program ≡ meant = sym (compiled.only meant means) in
      let behaves : Behaves meant checks (image_of v.image) = subst (λ (p : Typed). Behaves p checks (image_of v.image)) same compiled.behaves in
      promised_end meant checks (image_of v.image) (NeverFails reliable) objects e behaves (zipped_at _ programs ends k v e all is too tt)

pub settled : Headline → EndsSettle
settled headline loops text checks cells meant means s o ends C compiled =
    let by = (headline loops text checks cells C compiled meant means).1 s o ends in
    let stops = by.1 C compiled in (
      by.0,
      stops.0,
      λ programs frames objects evacuators fetchers admits z is schedule es told k e at same.
          let some : 0 < z.cells = subst (λ (y : _). 0 < y.cells) (sym is) (some_cells (slice_get programs 0)) in
          let from_zero : 0 + k ≡ k = omega arith in
          told_settled (told.world.programs k) by.0 s o e (stops.1 z (image_at programs) told.events told.world k (some, told.leads.follows) same)
          (subst (λ (n : ℕ). IsEnded (told.world.programs n) e) from_zero (ended_at told.world.programs 0 k es e told.ended at)),
      λ reliable objects programs es all k v e is too same.
          let executed : IsExecutedOver (NeverFails reliable) objects C e = subst (λ (D : Image). IsExecutedOver (NeverFails reliable) objects D e) same (zipped_at _ programs es k v e all is too tt) in
          ran_settled (NeverFails reliable) objects C by.0 s stops.0.1.0 o e stops.0.1.1 executed,
    )
