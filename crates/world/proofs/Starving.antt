-- programs that want memory
use Rattle.std.proofs.Common.{◌≡◌, ℕ, ◌<◌, true, false, Bool, List, length, Option, Some, ap, ◌∙◌, sym, subst}
use Rattle.std.specs.Prelude.{slice_get}
use Rattle.code_form.specs.Form.{Image}
use Rattle.cells.specs.declared.ending.Want.TheVariants as want
use Rattle.remote_store.specs.declared.port.Port.{Port}
use Rattle.world_actors.specs.Seats.{Seat, mode_of}
use Rattle.world_actors.specs.declared.program.Mode.{Mode as RustMode}
use Rattle.world_actors.specs.declared.program.Mode.TheVariants as m
use Rattle.world_semantics.specs.Programs.{Wanted}
use Rattle.world_semantics.specs.declared.event.Actor.{Actor}
use Rattle.world_semantics.specs.declared.event.Actor.TheVariants as actor
use Rattle.world_semantics.specs.Worlds.{Sizes, World, start}
use Rattle.world.specs.Parts.{Parts}
use Rattle.world.specs.Reports.{IsRefusal, IsRefusedFrom, WantsMemory}
use Rattle.world.specs.declared.schedule.Refused.{Refused}
use Rattle.world.specs.declared.schedule.Refused.TheVariants as refused
use Rattle.world.specs.Stepped.{IsWorld}

-- code holds so where a program wants memory
in_code : (x : RustMode) (words : List ℕ) → mode_of x words ≡ Wanted want.OutOfMemory → x ≡ m.Wanted want.OutOfMemory
in_code m.Ready words e = cc
in_code (m.Missing o) words e = cc
in_code (m.Bringing o) words e = cc
in_code (m.Reading o f) words e = cc
in_code (m.Filling o f k) words e = cc
in_code (m.Clearing o f k) words e = cc
in_code (m.Evicting o y) words e = cc
in_code (m.Releasing o f) words e = cc
in_code (m.Retreating o) words e = cc
in_code m.Closing words e = cc
in_code (m.Wanted w) words e = cc

pub not_both : (r : Bool) → r ≡ true → r ≡ false → ⊥
not_both r so not = cc

module _ {S C : Type 0} (content : C → Option (List ℕ)) (h : Type 0) where
  -- whether the program at an index wants memory, as code tells
  pub wants_so : (z : Sizes) (images : ℕ → Image) (w : World) (x : Parts S C) → IsWorld content h z images x w → (k : ℕ) (y : Seat × Port S C) → slice_get x.programs k ≡ Some y → k < length x.programs
      → (who : Actor) → who ≡ actor.Program k → (r : Bool) → (r ≡ true → y.0.mode ≡ m.Wanted want.OutOfMemory) × (y.0.mode ≡ m.Wanted want.OutOfMemory → r ≡ true)
      → (r ≡ true → WantsMemory z w who) × (WantsMemory z w who → r ≡ true)
  wants_so z images w x is k y here less who names r told =
      let p = (is.programs k y here).0 in (
        λ t. subst (WantsMemory z w) (sym names) (subst (λ (n : ℕ). k < n) is.programs_many less, p.mode ∙ ap (λ (x : RustMode). mode_of x y.0.words) (told.0 t)),
        λ wants. let at = subst (WantsMemory z w) names wants in told.1 (in_code y.0.mode y.0.words (sym p.mode ∙ at.1)),
      )

module _ {S C : Type 0} (honest reliable : Type 0) (failures : S → ℕ) (gives : S → C → List ℕ → S → Type 0) where
  -- why a schedule is refused from the beginning on
  pub refused_from : (z : Sizes) (images : ℕ → Image) (x : Parts S C) (schedule : List ℕ) (why : Refused) → IsRefusedFrom honest reliable failures gives z images (start images) x schedule why
      → IsRefusal honest reliable failures gives z images schedule why
  refused_from z images x schedule (refused.Line line) is = (x, is)
  refused_from z images x schedule refused.OutOfMemory is = tt
