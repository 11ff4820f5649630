-- what is promised of the programs of a table, as the one list of its steps is one of events of a world
use Rattle.std.proofs.Common.{◌≡◌, ℕ, ◌<◌, List, refl, sym, subst}
use Rattle.std.specs.Prelude.{slice_get, slice_index_or}
use Rattle.code_form.specs.Form.{Image}
use Rattle.pointer_word.specs.Machine.{State}
use Rattle.pointer_word.specs.Words.{pack}
use Rattle.session_events.specs.OneWorld.{IsOneWorld, SeatsAreAWorld, world_sizes}
use Rattle.world_semantics.specs.Causes.{HasCause}
use Rattle.world_semantics.specs.Programs.{Program}
use Rattle.world_semantics.specs.Worlds.{Event, Follows, Sizes, World, start}
use Rattle.c0far_headline.specs.Headline.{Headline, Promised}
use Rattle.region.specs.Admission.{image_at}
use Rattle.session_events.specs.Together.{RunsAreSeats}
use Rattle.c0far.proofs.Together.{world_honest}
use Rattle.c0far.specs.Runs.{world_over}
use Rattle.c0far_headline.specs.Tables.{HeadlineOfTables, IsPromisedRun, IsSettledIn}
use Rattle.c0far_headline.specs.Threads.{HeadlineOfRunsTogether, HeadlineOfThreads}
use Rattle.c0far_headline.proofs.Ends.{some_cells}
use Rattle.c0far_headline.proofs.Shown.{honest_in}

-- a world with these ends of its programs is a promised run
pub promised_run : (headline : Headline) (z : Sizes) (images : ℕ → Image) (t : State) (ends : ℕ → Program) → 0 < z.cells → IsOneWorld (Unit {0}) z images t ends → IsPromisedRun z images ends
promised_run headline z images t ends some one =
    let events : List Event = one.0 in
    let v : World = one.1 in
    let follows : Follows (Unit {0}) z images (start images) events v = one.2 in
    let at : (k : ℕ) → k < z.programs → v.programs k ≡ ends k = one.4 in
    record {
      events = events;
      world = v;
      run = (some, follows);
      at = at;
      promised = λ k low loops text checks cells meant compiled means.
          let said = headline loops text checks cells (images k) compiled meant means in (
            subst (λ (p : Program). Promised meant checks p (λ want. HasCause (Unit {0}) z images k want (start images) events)) (at k low) (said.0 z images events v k (some, follows) refl),
            subst (λ (p : Program). IsSettledIn meant checks (images k) p) (at k low) (λ s o ends_so.
                let by = said.1 s o ends_so in
                let stops = by.1 (images k) compiled in
                (by.0, stops.0, stops.1 z images events v k (some, follows) refl)),
          );
    }

pub of_tables : {S : Type 0} (kept : S → ℕ → List ℕ → Type 0) (there : S → Type 0) (honest reliable : Type 0) → Headline → SeatsAreAWorld kept there honest reliable → HeadlineOfTables kept there honest reliable
unfolding promised_run
of_tables kept there honest reliable headline worlds_are z s programs evacuators fetchers images ends some sure never rule seats =
    let one = worlds_are z s programs evacuators fetchers images ends sure never rule seats in
    let wz = world_sizes z programs evacuators fetchers in
    let world = world_honest honest wz images one.0 ends sure one.2 in
    record {
      led = promised_run headline wz images one.0 ends some world;
      shows = λ o low. subst (λ (x : State). slice_index_or s.words o 0 ≡ pack (x.word o)) (sym world.3) (one.1 o low);
    }

-- all that programs did together is one run, in which each is where its end is told of
pub of_threads : {S : Type 0} (kept : S → ℕ → List ℕ → Type 0) (there : S → Type 0) (honest reliable : Type 0) → RunsAreSeats kept there honest reliable → HeadlineOfTables kept there honest reliable → HeadlineOfThreads kept there honest reliable
of_threads kept there honest reliable are tables z objects programs evacuators fetchers images ends some sure never share many over told run =
    let seats = are z objects programs evacuators fetchers images ends sure never share many over told run in
    (seats.0, tables z run.table programs evacuators fetchers images seats.0 some sure never run.rule seats.1, seats.2)

-- and so is what `run` shows of them
pub of_runs : Headline → HeadlineOfRunsTogether
of_runs headline asked files held out err result ran sure told =
    let one = ran.1 (honest_in asked.memory.store) sure told in
    let all = ran.0.programs in
    (one.1, promised_run headline (world_over asked.memory asked.evacuators asked.fetchers all) (image_at all) one.0 one.1 (some_cells (slice_get all 0)) one.2, one.3)
