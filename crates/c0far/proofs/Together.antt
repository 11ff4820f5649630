-- Runs of all programs at once, over the memory that is asked for.
use Rattle.std.proofs.Common.{◌≡◌, ◌/◌, ℕ, List, [], ◌∷◌, Some, Result, Ok, Err, length, refl, subst}
use Rattle.std.specs.Prelude.{IfOk, slice_get}
use Rattle.code_form.specs.Form.{Image}
use Rattle.command_line.specs.Shell.{Memory}
use Rattle.executor.specs.Ends.{AreFinished}
use Rattle.executor.specs.Together.{HasRunTogether}
use Rattle.executor.specs.declared.counts.Counted.{Counted}
use Rattle.object_lock.specs.Seats as seats
use Rattle.pointer_word.specs.Machine.{State}
use Rattle.program_run.specs.Acting.{share_by}
use Rattle.program_run.specs.Executed.{IsFinishedOver}
use Rattle.program_run.specs.declared.run.Finished.{Finished}
use Rattle.region.specs.Admission.{image_at}
use Rattle.scope_verifier.specs.declared.acceptance.Verified.{Verified}
use Rattle.session_events.specs.OneWorld.{IsOneWorld, SeatsAreAWorld, world_sizes}
use Rattle.session_events.specs.Together.{RunsAreSeats}
use Rattle.world_semantics.specs.Programs.{Program}
use Rattle.world_semantics.specs.Worlds.{Event, Follows, Sizes, World, start}
use Rattle.c0far.specs.Runs.{IsHonestIn, IsReliableIn, RanAsOne}

-- a list of events over a store that is honest is one over an honest store
over_honest : (honest : Type 0) (z : Sizes) (images : ℕ → Image) (sure : honest) (w : World) (es : List Event) (v : World) → Follows honest z images w es v → Follows (Unit {0}) z images w es v
over_honest honest z images sure w [] v f = f
over_honest honest z images sure w (e ∷ es) v f = (f.0, f.1, λ u. f.2 sure, over_honest honest z images sure f.0 es v f.3)

-- ... and so is a whole run
pub world_honest : (honest : Type 0) (z : Sizes) (images : ℕ → Image) (t : State) (ends : ℕ → Program) → honest → IsOneWorld honest z images t ends → IsOneWorld (Unit {0}) z images t ends
world_honest honest z images t ends sure one = (one.0, one.1, over_honest honest z images sure (start images) one.0 one.1 one.2, one.3, one.4, one.5, one.6)

module _ {S : Type 0} (kept : S → ℕ → List ℕ → Type 0) (there : S → Type 0) (honest reliable : Type 0) (z : seats.Sizes) (all : List Verified) (evacuators fetchers : ℕ) (are : RunsAreSeats kept there honest reliable)
    (worlds_are : SeatsAreAWorld kept there honest reliable) where
  -- what all programs did together is one run of one world
  one_run : (ends : List Finished) → AreFinished honest reliable (z.objects / length all) all ends
      → (honest → HasRunTogether kept there honest reliable z (z.objects / length all) (length all) evacuators fetchers (image_at all) ends)
      → RanAsOne honest reliable (world_sizes z (length all) evacuators fetchers) (image_at all) ends
  one_run ends finished ran sure never told =
      let n : ℕ = z.objects / length all in
      let run = ran sure in
      let over : (k : ℕ) (e : Finished) → slice_get ends k ≡ Some e → IsFinishedOver reliable (share_by k n) (image_at all k) e = λ k e at. finished.each k e at sure in
      let seated = are z n (length all) evacuators fetchers (image_at all) ends sure never refl finished.count over told run in
      let one = worlds_are z run.table (length all) evacuators fetchers (image_at all) seated.0 sure never run.rule seated.1 in
      (one.0, seated.0, world_honest honest (world_sizes z (length all) evacuators fetchers) (image_at all) one.0 seated.0 sure one.2, seated.2)

  pub ran_as_one : {E : Type 0} (x : Result Counted E) → IfOk x (λ c. AreFinished honest reliable (z.objects / length all) all c.programs.items)
      → IfOk x (λ c. honest → HasRunTogether kept there honest reliable z (z.objects / length all) (length all) evacuators fetchers (image_at all) c.programs.items)
      → IfOk x (λ c. RanAsOne honest reliable (world_sizes z (length all) evacuators fetchers) (image_at all) c.programs.items)
  ran_as_one (Ok c) finished ran = one_run c.programs.items finished ran
  ran_as_one (Err e) finished ran = tt

-- one run, over a store that is honest and reliable in fewer cases
pub one_less : {E : Type 0} (h r g s : Type 0) (z : Sizes) (images : ℕ → Image) (x : Result Counted E) → (g → h) → (g → s → r) → IfOk x (λ c. RanAsOne h r z images c.programs.items)
    → IfOk x (λ c. RanAsOne g s z images c.programs.items)
one_less h r g s z images (Ok c) fewer less ran = λ honest reliable told. ran (fewer honest) (less honest reliable) told
one_less h r g s z images (Err e) fewer less ran = tt

-- over a store in memory
pub one_in_memory : {E : Type 0} (honest : Type 0) (m : Memory) (z : Sizes) (images : ℕ → Image) (x : Result Counted E) → IfOk x (λ c. RanAsOne (Unit {0}) (Unit {0} × (m.fail_from ≡ 0)) z images c.programs.items)
    → IfOk x (λ c. RanAsOne (IsHonestIn honest m.store) (IsReliableIn m) z images c.programs.items)
one_in_memory honest m z images x ran = one_less (Unit {0}) (Unit {0} × (m.fail_from ≡ 0)) (IsHonestIn honest m.store) (IsReliableIn m) z images x (λ h. tt) (λ h reliable. (tt, reliable.1)) ran

-- over a store in a folder, which may fail: of it nothing is told
pub one_in_folder : {E : Type 0} (honest : Type 0) (m : Memory) (folder : List ℕ) (z : Sizes) (images : ℕ → Image) (x : Result Counted E) → m.store ≡ Some folder
    → IfOk x (λ c. RanAsOne honest (⊥ × (m.fail_from ≡ 0)) z images c.programs.items) → IfOk x (λ c. RanAsOne (IsHonestIn honest m.store) (IsReliableIn m) z images c.programs.items)
one_in_folder honest m folder z images x is ran =
    one_less honest (⊥ × (m.fail_from ≡ 0)) (IsHonestIn honest m.store) (IsReliableIn m) z images x (λ h. subst (IsHonestIn honest) is h) (λ h reliable. absurd (let no : ⊥ = cc (reliable.0, is) in no)) ran
