-- what is promised of programs that are admitted, and of the ends that a replay told
use Rattle.std.proofs.Common.{◌≡◌, ℕ, zero, suc, ◌+◌, ◌<◌, ◌≤◌, Bool, List, [], ◌∷◌, Option, Some, None, refl, sym, subst, arith, lit<}
use Rattle.std.specs.Prelude.{slice_get}
use Rattle.cells.specs.declared.ending.Ended.{Ended}
use Rattle.cells.specs.declared.ending.Run.{Run}
use Rattle.cells.specs.declared.ending.Run.TheVariants as run
use Rattle.cells.specs.declared.ending.Stop.{Stop as RustStop}
use Rattle.cells.specs.declared.ending.Want.{Want}
use Rattle.cells.specs.Outcomes.{IsPrefix}
use Rattle.cells.specs.Stops.{Stop, stop_of as stop_read}
use Rattle.c0_typed.specs.Meaning.{mean}
use Rattle.c0_typed.specs.Trees.{Program as Typed}
use Rattle.code_form.specs.Code.{Core, Running, Stopped, Stuck, output_of, stop_of}
use Rattle.code_form.specs.Form.{Image}
use Rattle.cells.proofs.Pieces.{is_a_piece, piece_some}
use Rattle.cells.specs.Pieces.{cells_in}
use Rattle.region.specs.Admission.{image_at, image_by}
use Rattle.scope_verifier.specs.declared.acceptance.Verified.{Verified}
use Rattle.world.specs.Reports.{AreEnds, IsEnded, RunsAs}
use Rattle.world_semantics.specs.Enough.{IsUnheld, need}
use Rattle.world_semantics.specs.Programs.{Bringing, Program, Wanted}
use Rattle.world_semantics.specs.Worlds.{Event, Follows, Sizes, World, start}
use Rattle.c0far_headline.specs.Admitted.{AdmittedHeadline, PromisedEnd, ReplayedHeadline}
use Rattle.c0far_headline.specs.Headline.{EndsSo, Headline, Promised}

-- an end among the ends of programs
pub ended_at : (ps : ℕ → Program) (i k : ℕ) (es : List Ended) (e : Ended) → AreEnds ps i es → slice_get es k ≡ Some e → IsEnded (ps (i + k)) e
ended_at ps i k [] e ends is = absurd (let no : ⊥ = cc in no)
ended_at ps i zero (x ∷ xs) e ends is =
    let same : x ≡ e = cc in
    let at : i ≡ i + 0 = omega arith in
    subst (λ (n : ℕ). IsEnded (ps n) e) at (subst (λ (y : Ended). IsEnded (ps i) y) same ends.0)
ended_at ps i (suc k) (x ∷ xs) e ends is =
    let at : suc i + k ≡ i + suc k = omega arith in
    subst (λ (n : ℕ). IsEnded (ps n) e) at (ended_at ps (suc i) k xs e ends.1 is)

-- what a program that stopped has stopped as
pub ends_so : (P : Typed) (checks : Bool) (c : Core) (s : Stop) → stop_of c ≡ Some s → ((t : Stop) (al : _) (o : List ℕ) → c ≡ Stopped t al o → EndsSo P checks t o) → EndsSo P checks s (output_of c)
ends_so P checks (Running f st al o) s is so = absurd (let no : ⊥ = cc in no)
ends_so P checks (Stopped t al o) s is so = let same : t ≡ s = cc in subst (λ (x : Stop). EndsSo P checks x o) same (so t al o refl)
ends_so P checks (Stuck al o) s is so = absurd (let no : ⊥ = cc in no)

-- how a program runs
stopped_as : (p : Program) (r : Run) (x : RustStop) → RunsAs p r → r ≡ run.Stopped x → stop_of p.core ≡ Some (stop_read x)
stopped_as p r x runs is = subst (RunsAs p) is runs

wants_as : (p : Program) (r : Run) (want : Want) → RunsAs p r → r ≡ run.Wanted want → p.mode ≡ Wanted want
wants_as p r want runs is = let h : RunsAs p (run.Wanted want) = subst (RunsAs p) is runs in h.1

-- what is promised of a program is promised of its end
promised_end : (P : Typed) (checks : Bool) (p : Program) (e : Ended) (HasCauseOf : Want → Type 0) → IsEnded p e → Promised P checks p HasCauseOf → PromisedEnd P checks e HasCauseOf
promised_end P checks p e HasCauseOf is so = record {
  beginning = (so.beginning.0, λ m le. subst (λ (o : List ℕ). IsPrefix o (mean P checks m).output) (sym is.output) (so.beginning.1 m le));
  stopped = λ x ran. subst (λ (o : List ℕ). EndsSo P checks (stop_read x) o) (sym is.output) (ends_so P checks p.core (stop_read x) (stopped_as p e.run x is.runs ran) so.stopped);
  wanting = λ want ran. so.wanting want (wants_as p e.run want is.runs ran);
}

-- enough frames are free or can be freed, in each run of a world
abbrev pub EnoughFrames : Type 0
EnoughFrames = (z : Sizes) (images : ℕ → Image) (events : List Event) (v : World) (k o : ℕ) → 0 < z.cells → Follows ⊥ z images (start images) events v → need z images ≤ z.frames → k < z.programs → (v.programs k).mode ≡ Bringing o → (f : ℕ) × (f < z.frames) × IsUnheld z v.lock f

-- a piece has some cells, also that of no program
pub some_cells : (o : Option Verified) → 0 < (image_by o).piece
some_cells None = lit< tt
some_cells (Some v) = piece_some (cells_in v.image.piece) (is_a_piece v.image.piece)

pub admitted : Headline → EnoughFrames → AdmittedHeadline
admitted headline enough programs frames objects evacuators fetchers admits z is = (
  λ events v k o led low seeks.
      let some : 0 < z.cells = subst (λ (y : Sizes). 0 < y.cells) (sym is) (some_cells (slice_get programs 0)) in
      let few : need z (image_at programs) ≤ z.frames = subst (λ (y : Sizes). need y (image_at programs) ≤ y.frames) (sym is) admits.1 in
      let lower : k < z.programs = subst (λ (y : Sizes). k < y.programs) (sym is) low in
      let found = enough z (image_at programs) events v k o some led few lower seeks in
      (found.0, subst (λ (y : Sizes). found.0 < y.frames) is found.1, found.2),
  λ events v ran loops text checks cells meant k compiled means. (headline loops text checks cells (image_at programs k) compiled meant means).0 z (image_at programs) events v k ran refl,
)

pub replayed : AdmittedHeadline → ReplayedHeadline
replayed holds programs frames objects evacuators fetchers admits z is schedule ends told k e at loops text checks cells meant compiled means =
    let some : 0 < z.cells = subst (λ (y : Sizes). 0 < y.cells) (sym is) (some_cells (slice_get programs 0)) in
    let so = (holds programs frames objects evacuators fetchers admits z is).1 told.events told.world (some, told.leads.follows) loops text checks cells meant k compiled means in
    let from_zero : 0 + k ≡ k = omega arith in
    promised_end meant checks (told.world.programs k) e _ (subst (λ (n : ℕ). IsEnded (told.world.programs n) e) from_zero (ended_at told.world.programs 0 k ends e told.ended at)) so
