-- What lowering, placing scopes and code generation keep, put together.
use Rattle.std.proofs.Common.{◌≡◌, ◌≢◌, ℕ, List, [], ◌++◌, Bool, true, false, Option, Some, None, refl, sym, ap, ◌∙◌, subst, append-nil}
use Rattle.cells.specs.Stops.{Stop}
use Rattle.cells.specs.Outcomes.{IsPrefix, KeepsEnd, Meant, stops_with}
use Rattle.c0_typed.specs.Trees.{Program}
use Rattle.c0_typed.specs.Meaning.{mean}
use Rattle.code_form.specs.declared.allocation.Allocation.{Allocation}
use Rattle.code_form.specs.Form.{Image}
use Rattle.code_form.specs.Effects.{code_run}
use Rattle.code_form.specs.Code.{Core, IsStuck, Running, Stopped, Stuck, code, output_of, stop_of}
use Rattle.middle_form.specs.Scoped as f
use Rattle.middle_form.specs.ScopedMeaning.{scoped_means}
use Rattle.codegen.specs.Correct.{IsSafe, Keeps, ran}
use Rattle.c0_image.specs.Correct.{Behaves}

-- scoped code that means the same is never stuck
pub safe : (P : Program) (checks : Bool) (M : f.Program) → ((n : ℕ) → scoped_means M n ≡ Some (mean P checks n)) → IsSafe M
safe P checks M same n e = let z : Some (mean P checks n) ≡ None = sym (same n) ∙ e in absurd (cc z)

-- an end that is kept begins so
begins_by : (s : Option Stop) (o : List ℕ) (b : Meant) → KeepsEnd (record { stop = s; output = o }) b → IsPrefix o b.output
begins_by None o b h = h
begins_by (Some x) o b h = ([], append-nil o ∙ sym h.1)

begins : (a b : Meant) → KeepsEnd a b → IsPrefix a.output b.output
begins a b h = begins_by a.stop a.output b h

-- and is the same end
ends_by : (s : Option Stop) (o : List ℕ) (b : Meant) (x : Stop) → s ≡ Some x → KeepsEnd (record { stop = s; output = o }) b → (b.stop ≡ Some x) × (b.output ≡ o)
ends_by None o b x e h = absurd (cc e)
ends_by (Some y) o b x e h = (h.0 ∙ e, h.1)

ends : (a b : Meant) (x : Stop) → a.stop ≡ Some x → KeepsEnd a b → (b.stop ≡ Some x) × (b.output ≡ a.output)
ends a b x e h = ends_by a.stop a.output b x e h

-- what has stopped
stopped : (c : Core) (x : Stop) → stop_of c ≡ Some x → (al : List Allocation) × (c ≡ Stopped x al (output_of c))
stopped (Running f st al o) x e = absurd (cc e)
stopped (Stopped y al o) x e = let z : y ≡ x = cc e in (al, ap (λ w. Stopped w al o) z)
stopped (Stuck al o) x e = absurd (cc e)

not_stuck : (c : Core) → IsStuck c ≡ false → (al : List Allocation) (o : List ℕ) → c ≢ Stuck al o
not_stuck c h al o e = let z : true ≡ false = sym (ap IsStuck e) ∙ h in absurd (cc z)

pub behaves : (P : Program) (checks : Bool) (M : f.Program) (C : Image) → ((n : ℕ) → scoped_means M n ≡ Some (mean P checks n)) → Keeps M C → Behaves P checks C
behaves P checks M C same keeps = record { runs = runs; means = follows; never_stuck = λ k. not_stuck (code_run (code C) k).0 (keeps.never_stuck k) }
  where
    runs : (k : ℕ) → (n : ℕ) × IsPrefix (output_of (code_run (code C) k).0) (mean P checks n).output
        × ((s : Stop) (al : List Allocation) (o : List ℕ) → (code_run (code C) k).0 ≡ Stopped s al o → mean P checks n ≡ stops_with s o)
    runs k =
        let r = keeps.runs k in
        let m : Some (mean P checks r.0) ≡ Some r.1 = sym (same r.0) ∙ r.2 in
        let meant : mean P checks r.0 ≡ r.1 = cc m in
        let h : KeepsEnd (ran C k) (mean P checks r.0) = subst (KeepsEnd (ran C k)) (sym meant) r.3 in (
          r.0,
          begins (ran C k) (mean P checks r.0) h,
          λ s al o e.
              let k = ends (ran C k) (mean P checks r.0) s (ap stop_of e) h in
              (λ i. record { stop = k.0 i; output = (k.1 ∙ ap output_of e) i }),
        )

    follows : (n : ℕ) → (k : ℕ) × IsPrefix (mean P checks n).output (output_of (code_run (code C) k).0)
        × ((s : Stop) → (mean P checks n).stop ≡ Some s → (al : List Allocation) × ((code_run (code C) k).0 ≡ Stopped s al (mean P checks n).output))
    follows n =
        let r = keeps.follows n (mean P checks n) (same n) in (
          r.0,
          begins (mean P checks n) (ran C r.0) r.1,
          λ s e.
              let k = ends (mean P checks n) (ran C r.0) s e r.1 in
              let t = stopped (code_run (code C) r.0).0 s k.0 in
              (t.0, t.1 ∙ ap (Stopped s t.0) k.1),
        )
