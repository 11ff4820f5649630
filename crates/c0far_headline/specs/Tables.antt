-- What is promised of the programs of a table, from what its seats did.
use Rattle.std.specs.Prelude.{◌≡◌, ℕ, ◌<◌, ◌≤◌, Bool, List, slice_index_or}
use Rattle.atomic_table.specs.Table.{State as Table}
use Rattle.cells.specs.Stops.{Stop}
use Rattle.c0_front.specs.Texts.{IsTypedAs}
use Rattle.c0_image.specs.Compiled.{IsCompiled}
use Rattle.c0_typed.specs.Trees.{Program as Typed}
use Rattle.code_form.specs.declared.allocation.Allocation.{Allocation}
use Rattle.code_form.specs.Code.{Stopped}
use Rattle.code_form.specs.Form.{Image}
use Rattle.object_lock.specs.Logs.{Seated}
use Rattle.object_lock.specs.Rule.{LoggedRule}
use Rattle.object_lock.specs.Seats.{Sizes}
use Rattle.pointer_word.specs.Words.{pack}
use Rattle.session_events.specs.OneWorld.{AreSeatsOf, world_sizes}
use Rattle.world_semantics.specs.Causes.{HasCause}
use Rattle.world_semantics.specs.Programs.{Program}
use Rattle.world_semantics.specs.Worlds as worlds
use Rattle.world_semantics.specs.Worlds.{Event, World, start}
use Rattle.c0far_headline.specs.Headline.{EndsSo, IsRun, Promised, StopsAt}

-- where the meaning ends, so many completed instructions, at which the code of this image is stopped so, and not before, leave the program stopped so
abbrev pub IsSettledIn : Typed → Bool → Image → Program → Type 0
IsSettledIn P checks C p = (s : Stop) (o : List ℕ) → EndsSo P checks s o → (j : ℕ) × StopsAt C j s o × (j ≤ p.completed → (al : List Allocation) × (p.core ≡ Stopped s al o))

-- Each program that is at one of these ends by these events, and whose image a text was compiled to, is there as promised of that text, with the cause of a want among the events, and settled where the meaning ends
abbrev pub ArePromised : worlds.Sizes → (ℕ → Image) → List Event → (ℕ → Program) → Type 0
ArePromised z images events ends = (k : ℕ) → k < z.programs → (loops : Bool) (text : List ℕ) (checks : Bool) (cells : ℕ) (meant : Typed) → IsCompiled loops text checks cells (images k) → IsTypedAs loops text meant
    → Promised meant checks (ends k) (λ want. HasCause (Unit {0}) z images k want (start images) events) × IsSettledIn meant checks (images k) (ends k)

-- a run of a world to these ends of its programs, which are as promised of their texts
pub record IsPromisedRun (z : worlds.Sizes) (images : ℕ → Image) (ends : ℕ → Program) : Type 0 where
  pub events : List Event
  pub world : World
  pub run : IsRun z images events world
  pub at : (k : ℕ) → k < z.programs → world.programs k ≡ ends k
  pub promised : ArePromised z images events ends

-- ... and to the machine that these words of objects show
pub record IsShownRun (z : worlds.Sizes) (images : ℕ → Image) (words : List ℕ) (ends : ℕ → Program) : Type 0 where
  pub led : IsPromisedRun z images ends
  pub shows : (o : ℕ) → o < z.objects → slice_index_or words o 0 ≡ pack (led.world.lock.word o)

-- Whatever a table is whose seats are those of some programs, evacuators and fetchers, with pieces of some cells, over a store that is honest and reliable: what all of them did is one run of a world. It leads to what the table
-- shows, and each program, where its session came to, is as promised of its text
abbrev pub HeadlineOfTables : {S : Type 0} → (S → ℕ → List ℕ → Type 0) → (S → Type 0) → Type 0 → Type 0 → Type 0
HeadlineOfTables {S} kept there honest reliable = (z : Sizes) (s : Table S Seated) (programs evacuators fetchers : ℕ) (images : ℕ → Image) (ends : ℕ → Program) → 0 < z.cells → honest → reliable → LoggedRule kept there honest z s
    → AreSeatsOf honest reliable z programs evacuators fetchers images s.views ends → IsShownRun (world_sizes z programs evacuators fetchers) images s.words ends
