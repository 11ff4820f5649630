-- Runs over the memory that is asked for.
use Rattle.std.proofs.Common.{◌≡◌, ◌⊎◌, inl, inr, ℕ, ◌/◌, List, Some, Result, Ok, Err, length, subst}
use Rattle.std.specs.Prelude.{IfOk}
use Rattle.cells.specs.declared.ending.Ended.{Ended}
use Rattle.cells.specs.declared.ending.Run.{Run}
use Rattle.cells.specs.declared.ending.Run.TheVariants.{Running, Stopped, Wanted}
use Rattle.cells.specs.declared.ending.Want.TheVariants.{OutOfMemory, NoObjects, StoreFailed}
use Rattle.code_form.specs.Code.{Core}
use Rattle.code_form.specs.Form.{Image}
use Rattle.command_line.specs.Shell.{Memory}
use Rattle.executor.specs.Ends.{AreFinished}
use Rattle.executor.specs.declared.counts.Counted.{Counted}
use Rattle.program_run.proofs.Acting.{acted_less}
use Rattle.program_run.specs.Acting.{Share, share_by}
use Rattle.program_run.specs.Executed.{EndsAs, IsExecutedOver, IsFinishedOver}
use Rattle.program_run.specs.declared.run.Finished.{Finished}
use Rattle.region.specs.Admission.{IsAdmitted, IsDenied, IsRefused, IsWithinWork, image_at}
use Rattle.region.specs.declared.fault.AdmitFault.{AdmitFault}
use Rattle.region.specs.declared.fault.AdmitFault.TheVariants as admit
use Rattle.scope_verifier.specs.declared.acceptance.Verified.{Verified}
use Rattle.c0far.specs.Runs.{IsHonestIn, RanOver}

ends_less : (r s : Type 0) (objects : ℕ) (C : Image) (c : Core) (x : Run) → (s → r) → EndsAs r objects C c x → EndsAs s objects C c x
ends_less r s objects C c Running less h = h
ends_less r s objects C c (Stopped x) less h = h
ends_less r s objects C c (Wanted NoObjects) less h = h
ends_less r s objects C c (Wanted OutOfMemory) less h = h
ends_less r s objects C c (Wanted StoreFailed) less h = (h.0, λ reliable. h.1 (less reliable))

-- a store that is reliable in fewer cases
pub executed_less : (r s : Type 0) (objects : ℕ) (C : Image) (e : Ended) → (s → r) → IsExecutedOver r objects C e → IsExecutedOver s objects C e
executed_less r s objects C e less h = record { going = h.going; few = h.few; output = h.output; ends = ends_less r s objects C _ e.run less h.ends }

-- ... and what its session did, and how many calls were refused, is the same
pub finished_less : (r s : Type 0) (w : Share) (C : Image) (f : Finished) → (s → r) → IsFinishedOver r w C f → IsFinishedOver s w C f
finished_less r s w C f less h = record { executed = executed_less r s w.objects C f.end less h.executed; own = h.own; acted = acted_less r s w C f less h.acted }

-- a store that is honest and reliable in fewer cases
ends_fewer : (h r g s : Type 0) (objects : ℕ) (programs : List Verified) (ends : List Finished) → (g → h) → (g → s → r) → AreFinished h r objects programs ends → AreFinished g s objects programs ends
ends_fewer h r g s objects programs ends fewer less all = record {
  count = all.count;
  each = λ k f at honest. finished_less r s (share_by k objects) (image_at programs k) f (less honest) (all.each k f at (fewer honest));
}

-- a run over a store in memory
pub ran_in_memory : {E : Type 0} (honest : Type 0) (m : Memory) (programs : List Verified) (r : Result Counted E)
    → IfOk r (λ c. AreFinished (Unit {0}) (Unit {0} × (m.fail_from ≡ 0)) (m.objects / length programs) programs c.programs.items) → IfOk r (λ c. RanOver honest m programs c.programs.items)
ran_in_memory honest m programs (Ok c) ran = ends_fewer _ _ _ _ _ programs c.programs.items (λ h. tt) (λ h reliable. (tt, reliable.1)) ran
ran_in_memory honest m programs (Err e) ran = tt

-- a run over a store in a folder
pub ran_in_folder : {E : Type 0} (honest : Type 0) (m : Memory) (folder : List ℕ) (programs : List Verified) (r : Result Counted E) → m.store ≡ Some folder
    → IfOk r (λ c. AreFinished honest (⊥ × (m.fail_from ≡ 0)) (m.objects / length programs) programs c.programs.items) → IfOk r (λ c. RanOver honest m programs c.programs.items)
ran_in_folder honest m folder programs (Ok c) is ran =
    ends_fewer _ _ _ _ _ programs c.programs.items (λ h. subst (IsHonestIn honest) is h) (λ h reliable. absurd (let no : ⊥ = cc (reliable.0, is) in no)) ran
ran_in_folder honest m folder programs (Err e) is ran = tt

-- ends over a store that is reliable in fewer cases
pub ran_less : {E : Type 0} (h r s : Type 0) (objects : ℕ) (programs : List Verified) (x : Result Counted E) → (s → r) → IfOk x (λ c. AreFinished h r objects programs c.programs.items)
    → IfOk x (λ c. AreFinished h s objects programs c.programs.items)
ran_less h r s objects programs (Ok c) less ran = ends_fewer h r h s objects programs c.programs.items (λ honest. honest) (λ honest. less) ran
ran_less h r s objects programs (Err e) less ran = tt

-- why programs were not run, where it is not told that those for which memory was wanted are admitted
pub fault_less : (programs : List Verified) (frames objects evacuators fetchers workers quantum : ℕ) (fault : AdmitFault) → IsDenied programs frames objects evacuators fetchers workers quantum fault
    → (fault ≡ admit.OutOfMemory) ⊎ IsRefused programs frames objects evacuators fetchers workers quantum fault
fault_less programs frames objects evacuators fetchers workers quantum fault told = elim told [ inl w ↦ inl w.0 | inr r ↦ inr r ]

-- and where it is known that they are
pub denied : (programs : List Verified) (frames objects evacuators fetchers workers quantum : ℕ) (fault : AdmitFault) → IsAdmitted programs frames objects evacuators fetchers → IsWithinWork workers quantum
    → (fault ≡ admit.OutOfMemory) ⊎ IsRefused programs frames objects evacuators fetchers workers quantum fault → IsDenied programs frames objects evacuators fetchers workers quantum fault
denied programs frames objects evacuators fetchers workers quantum fault admitted work told = elim told [ inl w ↦ inl (w, admitted, work) | inr r ↦ inr r ]

-- what is known whatever is answered
pub always_told : {A E : Type 0} (r : Result A E) (P : Type 0) → P → IfOk r (λ v. P)
always_told (Ok v) P p = p
always_told (Err e) P p = tt
