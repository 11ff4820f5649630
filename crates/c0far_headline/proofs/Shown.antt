-- what is promised of what commands show
use Rattle.std.proofs.Common.{◌≡◌, ◌+◌, ◌*◌, ℕ, suc, ◌/◌, List, [], ◌∷◌, Option, Some, None, ap, arith, inl, inr, length, refl, subst, sym}
use Rattle.std.proofs.lemmas.Option.{slice_get_within}
use Rattle.std.specs.Prelude.{slice_get}
use Rattle.cells.specs.declared.ending.Ended.{Ended}
use Rattle.cells.specs.declared.ending.Run.TheVariants as Run
use Rattle.cells.specs.declared.ending.Want.{Want}
use Rattle.cells.specs.declared.ending.Want.TheVariants.{NoObjects, OutOfMemory, StoreFailed}
use Rattle.clap.specs.Words.{Text}
use Rattle.c0_image.specs.Correct.{Behaves}
use Rattle.c0_typed.specs.Trees.{Program as Typed}
use Rattle.code_form.specs.Form.{Image, image_of}
use Rattle.command_line.specs.Shell.{Started}
use Rattle.program_run.specs.Acting.{share_by}
use Rattle.program_run.specs.Executed.{IsExecutedOver, IsFinishedOver}
use Rattle.program_run.specs.declared.run.Finished.{Finished}
use Rattle.region.specs.Admission.{image_at, image_by}
use Rattle.schedule_replay.specs.Replayed.{IsReplayed, NoneIsRefused}
use Rattle.session_events.proofs.Told.{told}
use Rattle.session_events.specs.Laws.{EndsByEvents, IsAtEnd}
use Rattle.streams.specs.Streams.{Writes}
use Rattle.world.specs.Opened.{sizes_of}
use Rattle.world_semantics.specs.Pieces.{piece_of}
use Rattle.world_semantics.specs.Programs.{Setting}
use Rattle.world_semantics.specs.Worlds.{Event, Sizes, World}
use Rattle.command_files.specs.FileTexts.{Known}
use Rattle.c0far.specs.Runs.{HasRun, IsHonestIn, IsReliableIn}
use Rattle.c0far_headline.specs.Admitted.{ReplayedHeadline}
use Rattle.c0far_headline.specs.Shown.{HeadlineOfRuns, ReplayShows, RunShows, RunShowsEvents, WantsBy, setting_in}
use Rattle.c0far_headline.proofs.Headlines.{Laws}
use Rattle.c0far_headline.proofs.Ran.{promised_end}

-- where folders are honest each store is
pub honest_in : (store : Option Text) → IsHonestIn (Unit {0}) store
honest_in None = tt
honest_in (Some folder) = tt

-- each end that is shown is one of a program that was run
module _ (asked : Started) (files : List Text) (held : Text → Known) (out err : Writes) (result : ℕ) (did : HasRun (Unit {0}) asked files held out err result) where
  finished_at : (k : ℕ) (f : Finished) → slice_get did.finished k ≡ Some f
      → IsFinishedOver (IsReliableIn asked.memory) (share_by k (asked.memory.objects / length did.programs)) (image_at did.programs k) f
  finished_at k f too = did.executed.each k f too (honest_in asked.memory.store)

  -- its pieces are those of all programs
  piece_at : (k : ℕ) (f : Finished) → slice_get did.finished k ≡ Some f → (image_at did.programs k).piece ≡ piece_of (image_at did.programs)
  piece_at k f too =
      let within = slice_get_within did.finished k f too in
      let count = did.executed.count in
      did.admitted.0.2 k (omega arith)

pub run_shows_events : RunShowsEvents
run_shows_events asked files held out err result did k f too =
    let n : ℕ = asked.memory.objects / length did.programs in
    let C : Image = image_at did.programs k in
    let At : ℕ → Setting = λ size. record { size = size; base = k * n; limit = k * n + n; mover = suc k; image = C } in
    subst (λ size. EndsByEvents (At size) f) (piece_at asked files held out err result did k f too)
    (told (IsReliableIn asked.memory) (share_by k n) C f (finished_at asked files held out err result did k f too))

pub run_shows : Laws → RunShows
run_shows laws asked files held out err result did k v f is too loops text checks cells meant compiled means =
    let same : compiled.program ≡ meant = sym (compiled.only meant means) in
    let behaves : Behaves meant checks (image_of v.image) = subst (λ (p : Typed). Behaves p checks (image_of v.image)) same compiled.behaves in
    let n : ℕ = asked.memory.objects / length did.programs in
    let executed = subst (λ (C : Image). IsExecutedOver (IsReliableIn asked.memory) n C f.end) (ap image_by is) (finished_at asked files held out err result did k f too).executed in
    promised_end laws meant checks (image_of v.image) (IsReliableIn asked.memory) n f.end behaves executed

-- the want at such an end has its cause
wants_by : (g : Setting) (f : Finished) (by : EndsByEvents g f) (want : Want) → IsAtEnd g.image by.program (Run.Wanted want) → WantsBy g f by want
wants_by g f by NoObjects at = inl (by.caused NoObjects at)
wants_by g f by StoreFailed at = inl (by.caused StoreFailed at)
wants_by g f by OutOfMemory at = elim at [ inl wanted ↦ inl (by.caused OutOfMemory wanted) | inr text ↦ inr (refl, text.1) ]

pub headline_of : Laws → HeadlineOfRuns
headline_of laws asked files held out err result did k v f is too loops text checks cells meant compiled means =
    let g : Setting = setting_in asked did.programs k in
    let by : EndsByEvents g f = run_shows_events asked files held out err result did k f too in
    let shown = run_shows laws asked files held out err result did k v f is too loops text checks cells meant compiled means in
    (by, record { beginning = shown.beginning; stopped = shown.stopped; wanting = λ want e. (shown.wanting want e, wants_by g f by want (subst (IsAtEnd g.image by.program) e by.ended)) })

-- of a store that never fails less may be asked
refuses_less : (r : Type 0) (z : Sizes) (images : ℕ → Image) (w : World) (events : List Event) → NoneIsRefused r z images w events → NoneIsRefused ⊥ z images w events
refuses_less r z images w [] none = tt
refuses_less r z images w (e ∷ es) none = (λ no. absurd no, λ u is. refuses_less r z images u es (none.1 u is))

replayed_so : (r : Type 0) (z : Sizes) (images : ℕ → Image) (schedule : List ℕ) (ends : List Ended) → IsReplayed (Unit {0}) r z images schedule ends → IsReplayed (Unit {0}) ⊥ z images schedule ends
replayed_so r z images schedule ends told = record {
  events = told.events;
  world = told.world;
  leads = record {
    lines = told.leads.lines;
    follows = told.leads.follows;
    none_refused = refuses_less r z images _ told.events told.leads.none_refused;
  };
  all = told.all;
  ended = told.ended;
}

pub replay_shows : ReplayedHeadline → ReplayShows
unfolding replayed_so
replay_shows holds asked files held out err result did k e at =
    let z = sizes_of (length did.programs) asked.memory.frames asked.memory.objects asked.evacuators asked.fetchers (piece_of (image_at did.programs)) in
    holds did.programs asked.memory.frames asked.memory.objects asked.evacuators asked.fetchers did.admits.admitted z refl did.lines did.ends
    (replayed_so (IsReliableIn asked.memory) z (image_at did.programs) did.lines did.ends did.replayed) k e at
