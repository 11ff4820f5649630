-- The one list of a table's steps as one list of events of a world.
use Rattle.std.specs.Prelude.{◌≡◌, ◌≢◌, ℕ, suc, ◌+◌, ◌<◌, ◌≤◌, List, [], None, length, slice_index_or}
use mathlib.Core.Option.{some}
use lib.ListN.{get_elem?}
use Rattle.atomic_table.specs.Table.{State as Table}
use Rattle.cells.specs.declared.ending.Run.{Run}
use Rattle.cells.specs.declared.ending.Run.TheVariants.{Wanted}
use Rattle.cells.specs.declared.ending.Want.TheVariants.{OutOfMemory, StoreFailed}
use Rattle.code_form.specs.declared.touch.Touch.TheVariants.{Ends}
use Rattle.code_form.specs.Form.{Image}
use Rattle.pointer_word.specs.Calls.{Runs}
use Rattle.pointer_word.specs.Machine.{State, opening}
use Rattle.pointer_word.specs.Words.{pack}
use Rattle.object_lock.specs.Logs.{AreOwn, AreOwners, Deed, Follows, Seated, calls_of}
use Rattle.object_lock.specs.Rule.{LoggedRule}
use Rattle.object_lock.specs.Seats.{Sizes}
use Rattle.object_moves.specs.Ways.{Did}
use Rattle.evacuator.specs.Rounds.{HasMadeRounds}
use Rattle.fetcher.specs.Serving.{HasServed}
use Rattle.session.specs.Pieces.{seated_of}
use Rattle.session.specs.State.{Logged, next_touch}
use Rattle.program_run.specs.Acting.{HasActed}
use Rattle.world_semantics.specs.Programs.{Program, begun}
use Rattle.world_semantics.specs.Worlds as worlds
use Rattle.world_semantics.specs.Worlds.{Event, World, setting, start}
use Rattle.mover_events.specs.Parts.{EvacuatorMakesThem, FetcherMakesThem, kept_at}
use Rattle.session_events.specs.Knowing.{IsOwn}
use Rattle.session_events.specs.Laws.{program_of, setting_of, unused}
use Rattle.session_events.specs.Listed.{MakesOwn}

-- the sizes of a world on a table of these sizes, with so many programs, evacuators and fetchers
abbrev pub world_sizes : Sizes → ℕ → ℕ → ℕ → worlds.Sizes
world_sizes z programs evacuators fetchers = record { cells = z.cells; programs = programs; evacuators = evacuators; fetchers = fetchers; frames = z.frames; objects = z.objects }

-- What each seat of a table kept of these steps the actor of its number makes: a program of these images, which comes to this end, an evacuator, or a fetcher, each idle at first and at last; another seat kept none
pub record AreMadeByActors (reliable honest : Type 0) (z : Sizes) (programs evacuators fetchers : ℕ) (images : ℕ → Image) (steps : List (ℕ × Deed)) (ends : ℕ → Program) : Type 0 where
  pub by_programs : (k : ℕ) → k < programs → MakesOwn reliable honest z (setting (world_sizes z programs evacuators fetchers) images k) unused (begun (images k)) (kept_at k opening steps) (ends k)
  pub by_evacuators : (k : ℕ) → k < evacuators → EvacuatorMakesThem reliable z (suc (programs + k)) None (kept_at (programs + k) opening steps) None
  pub by_fetchers : (k : ℕ) → k < fetchers → FetcherMakesThem reliable z (suc (programs + evacuators + k)) None (kept_at (programs + evacuators + k) opening steps) None
  pub by_others : (j : ℕ) → programs + evacuators + fetchers ≤ j → kept_at j opening steps ≡ []

-- Some events lead the world of these images from its beginning to one with this machine, in which each program is at this end, and each mover is idle
abbrev pub IsOneWorld : Type 0 → worlds.Sizes → (ℕ → Image) → State → (ℕ → Program) → Type 0
IsOneWorld honest wz images t ends = (events : List Event) × (w : World) × worlds.Follows honest wz images (start images) events w × (w.lock ≡ t) × ((k : ℕ) → k < wz.programs → w.programs k ≡ ends k)
    × ((k : ℕ) → k < wz.evacuators → w.evacuators k ≡ None) × ((k : ℕ) → k < wz.fetchers → w.fetchers k ≡ None)

-- Over a store that is reliable, where each seat's part of the one list is made by the actor of its number, the list is one of events of a world: from the beginning of these images they lead to the machine of the list
abbrev pub TheListIsAWorlds : Type 0 → Type 0 → Type 0
TheListIsAWorlds honest reliable = (z : Sizes) (programs evacuators fetchers : ℕ) (images : ℕ → Image) (ends : ℕ → Program) (owner : ℕ → ℕ) (steps : List (ℕ × Deed)) (t : State) → reliable
    → Follows z opening steps t → Runs honest z.cells opening (calls_of steps) t → AreOwn z steps → AreOwners owner steps
    → ((k o : ℕ) → k < programs → IsOwn (setting (world_sizes z programs evacuators fetchers) images k) o → owner o ≡ k)
    → AreMadeByActors reliable honest z programs evacuators fetchers images steps ends → IsOneWorld honest (world_sizes z programs evacuators fetchers) images t ends

-- All that a seat did is what its session did from its beginning on, for program k of a world, which is at this place then. No call of the store ended it, and no want of memory for the text of an error
pub record HasRunAs (honest reliable : Type 0) (z : Sizes) (wz : worlds.Sizes) (images : ℕ → Image) (k : ℕ) (seat : Seated) (q : Program) : Type 0 where
  pub session : Logged
  pub run : Run
  pub acted : HasActed honest reliable (images k) session run
  pub stored : run ≢ Wanted StoreFailed
  pub told : run ≡ Wanted OutOfMemory → next_touch session.state ≢ Ends
  pub seated : seat ≡ seated_of session
  pub sizes : session.state.view.sizes ≡ z
  pub setting_is : setting_of session.state ≡ setting wz images k
  pub at : program_of session.state ≡ q

-- the seats of a table are those of so many programs, evacuators and fetchers, in this order, and of nobody else: what each did is a run of its program, rounds, or what was done with hints
pub record AreSeatsOf (honest reliable : Type 0) (z : Sizes) (programs evacuators fetchers : ℕ) (images : ℕ → Image) (views : List Seated) (ends : ℕ → Program) : Type 0 where
  pub of_programs : (k : ℕ) → k < programs → (v : Seated) × (get_elem? views k ≡ some v) × HasRunAs honest reliable z (world_sizes z programs evacuators fetchers) images k v (ends k)
  pub of_evacuators : (k : ℕ) → k < evacuators → (v : Seated) × (get_elem? views (programs + k) ≡ some v) × ((did : Did) × (did.log ≡ v.log) × HasMadeRounds reliable z (suc (programs + k)) did)
  pub of_fetchers : (k : ℕ) → k < fetchers → (v : Seated) × (get_elem? views (programs + evacuators + k) ≡ some v) × ((did : Did) × (did.log ≡ v.log) × HasServed reliable z (suc (programs + evacuators + k)) did)
  pub of_nobody : length views ≤ programs + evacuators + fetchers

-- Whatever a table is whose seats are these, over a store that is honest and reliable: what all of them did is one list of events of one world, which lead it from the beginning of the images to the machine that the table
-- shows, with each program at the place to which its session came, and each mover idle
abbrev pub SeatsAreAWorld : {S : Type 0} → (S → ℕ → List ℕ → Type 0) → (S → Type 0) → Type 0 → Type 0 → Type 0
SeatsAreAWorld {S} kept there honest reliable = (z : Sizes) (s : Table S Seated) (programs evacuators fetchers : ℕ) (images : ℕ → Image) (ends : ℕ → Program) → honest → reliable → LoggedRule kept there honest z s
    → AreSeatsOf honest reliable z programs evacuators fetchers images s.views ends
    → (t : State) × ((o : ℕ) → o < z.objects → slice_index_or s.words o 0 ≡ pack (t.word o)) × IsOneWorld honest (world_sizes z programs evacuators fetchers) images t ends
