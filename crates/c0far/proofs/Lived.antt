-- Runs of one program over the memory that is asked for, of which what is printed is written as it comes.
use Rattle.std.proofs.Common.{◌≡◌, ◌⊎◌, ◌∙◌, ◌/◌, ◌∷◌, ◌++◌, ℕ, zero, suc, List, [], Option, Some, Result, Ok, Err, ap, inl, inr, length, subst, sym, refl}
use Rattle.std.proofs.Math.Nat.{div-one, max-zero}
use Rattle.std.specs.Io.KnownBytes.{Appends}
use Rattle.std.specs.Prelude.{IfErr, IfOk, slice_get}
use Rattle.cells.specs.declared.ending.Ended.{Ended}
use Rattle.code_form.specs.Form.{Image}
use Rattle.command_line.specs.Shell.{Compiling, Memory}
use Rattle.command_line.specs.declared.words.RunOptions.{RunOptions}
use Rattle.executor.specs.Ends.{AreFinished}
use Rattle.live_run.specs.Lives.{EndsLive, IsNotShown}
use Rattle.live_run.specs.declared.live.LiveError.{LiveError}
use Rattle.live_run.specs.declared.live.LiveError.TheVariants as live
use Rattle.program_run.specs.Acting.{Share, share_by}
use Rattle.program_run.specs.Executed.{IsFinishedOver}
use Rattle.program_run.specs.declared.run.Finished.{Finished}
use Rattle.region.specs.Admission.{IsAdmitted, IsWithinWork, image_at}
use Rattle.scope_verifier.specs.declared.acceptance.Verified.{Verified}
use Rattle.streams.proofs.Written.{appends_more, none_failed_more, one_failed_more}
use Rattle.streams.specs.Streams.{OneFailed, Says, Writes, writes}
use Rattle.c0far.proofs.Ran.{denied, executed_less, fault_less, finished_less}
use Rattle.c0far.specs.FileCode.{AreCodes}
use Rattle.command_files.specs.FileTexts.{Known}
use Rattle.c0far.specs.Lives.{IsBroken, IsShownLive, LiveShowsTheSame, RanLive}
use Rattle.c0far.specs.Runs.{IsHonestIn, IsReliableIn}
use Rattle.command_messages.specs.Shown.{ends_status, shown_ends, shown_rest}
use Rattle.command_messages.specs.Statuses.{run_status}

-- the code of one file is one
pub one_code : (compiling : Compiling) (held : List ℕ → Known) (file : List ℕ) (programs : List Verified) → AreCodes compiling held (file ∷ []) programs → length programs ≡ 1
one_code compiling held file [] are = absurd are
one_code compiling held file (v ∷ []) are = refl
one_code compiling held file (v ∷ (u ∷ us)) are = absurd are.1

-- why a program is not seen to its end, where it is not told that one for which memory was wanted is admitted
pub less_told : (asked : RunOptions) (programs : List Verified) (w : Writes) (r : Result Finished LiveError)
    → IfErr r (λ e. IsNotShown programs asked.memory.frames asked.memory.objects asked.evacuators asked.fetchers asked.work.workers asked.work.quantum w e) → IfErr r (λ e. IsBroken asked programs w e)
less_told asked programs w (Ok e) told = tt
less_told asked programs w (Err (live.NotRun fault)) told = (fault_less _ _ _ _ _ _ _ fault told.0, told.1)
less_told asked programs w (Err live.Unwritten) told = told.2

-- and where it is known that it is
pub more_told : (asked : RunOptions) (programs : List Verified) (w : Writes) (r : Result Finished LiveError) → IsAdmitted programs asked.memory.frames asked.memory.objects asked.evacuators asked.fetchers
    → IsWithinWork asked.work.workers asked.work.quantum → IfErr r (λ e. IsBroken asked programs w e)
    → IfErr r (λ e. IsNotShown programs asked.memory.frames asked.memory.objects asked.evacuators asked.fetchers asked.work.workers asked.work.quantum w e)
more_told asked programs w (Ok e) admitted work told = tt
more_told asked programs w (Err (live.NotRun fault)) admitted work told = (denied _ _ _ _ _ _ _ fault admitted work told.0, told.1)
more_told asked programs w (Err live.Unwritten) admitted work told = (admitted, work, told)

-- an end over a store that is reliable in fewer cases
pub lived_less : (h r s : Type 0) (objects : ℕ) (C : Image) (w : Writes) (x : Result Finished LiveError) → (s → r) → IfOk x (λ f. EndsLive h r objects C w f.end) → IfOk x (λ f. EndsLive h s objects C w f.end)
lived_less h r s objects C w (Ok f) less ran = record { executed = λ honest. executed_less r s objects C f.end less (ran.executed honest); shown = ran.shown }
lived_less h r s objects C w (Err e) less ran = tt

-- what its session did, likewise
pub lived_fewer : (h r s : Type 0) (own : Share) (C : Image) (x : Result Finished LiveError) → (s → r) → IfOk x (λ f. h → IsFinishedOver r own C f) → IfOk x (λ f. h → IsFinishedOver s own C f)
lived_fewer h r s own C (Ok f) less ran = λ honest. finished_less r s own C f less (ran honest)
lived_fewer h r s own C (Err e) less ran = tt

-- the end of the one program, over a store that is honest and reliable in fewer cases
ends_of_one : (h r g s : Type 0) (objects : ℕ) (programs : List Verified) (f : Finished) → length programs ≡ 1 → (g → h) → (g → s → r) → (h → IsFinishedOver r (share_by 0 objects) (image_at programs 0) f)
    → AreFinished g s (objects / length programs) programs (f ∷ [])
ends_of_one h r g s objects programs f one fewer less ran = record { count = sym one; each = told }
  where
    told : (k : ℕ) (e : Finished) → slice_get (f ∷ []) k ≡ Some e → g → IsFinishedOver s (share_by k (objects / length programs)) (image_at programs k) e
    told zero e at honest =
        let all : objects / length programs ≡ objects = ap (λ n. objects / n) one ∙ div-one objects in
        let same : f ≡ e = cc at in
        subst (λ x. IsFinishedOver s (share_by 0 (objects / length programs)) (image_at programs 0) x) same
        (subst (λ n. IsFinishedOver s (share_by 0 n) (image_at programs 0) f) (sym all) (finished_less r s (share_by 0 objects) (image_at programs 0) f (less honest) (ran (fewer honest))))
    told (suc k) e at honest = absurd (let no : ⊥ = cc at in no)

ran_live : (h r honest : Type 0) (m : Memory) (programs : List Verified) (w : Writes) (f : Finished) → length programs ≡ 1 → (IsHonestIn honest m.store → h) → (IsHonestIn honest m.store → IsReliableIn m → r)
    → EndsLive h r m.objects (image_at programs 0) w f.end → (h → IsFinishedOver r (share_by 0 m.objects) (image_at programs 0) f) → RanLive honest m programs w f
ran_live h r honest m programs w f one fewer less ran finished = record {
  executed = ends_of_one h r (IsHonestIn honest m.store) (IsReliableIn m) m.objects programs f one fewer less finished;
  printed = ran.shown.shown;
  whole = λ is. ran.shown.whole (fewer is);
  written = ran.shown.written;
  sound = ran.shown.sound;
}

-- a run over a store in memory
pub lived_in_memory : (honest : Type 0) (m : Memory) (programs : List Verified) (w : Writes) (r : Result Finished LiveError) → length programs ≡ 1
    → IfOk r (λ f. EndsLive (Unit {0}) (Unit {0} × (m.fail_from ≡ 0)) m.objects (image_at programs 0) w f.end) → IfOk r (λ f. Unit {0} → IsFinishedOver (Unit {0} × (m.fail_from ≡ 0)) (share_by 0 m.objects) (image_at programs 0) f) → IfOk r (λ f. RanLive honest m programs w f)
lived_in_memory honest m programs w (Ok f) one ran own = ran_live _ _ honest m programs w f one (λ h. tt) (λ h reliable. (tt, reliable.1)) ran own
lived_in_memory honest m programs w (Err e) one ran own = tt

-- a run over a store in a folder
pub lived_in_folder : (honest : Type 0) (m : Memory) (folder : List ℕ) (programs : List Verified) (w : Writes) (r : Result Finished LiveError) → length programs ≡ 1 → m.store ≡ Some folder
    → IfOk r (λ f. EndsLive honest (⊥ × (m.fail_from ≡ 0)) m.objects (image_at programs 0) w f.end) → IfOk r (λ f. honest → IsFinishedOver (⊥ × (m.fail_from ≡ 0)) (share_by 0 m.objects) (image_at programs 0) f) → IfOk r (λ f. RanLive honest m programs w f)
lived_in_folder honest m folder programs w (Ok f) one is ran own =
    ran_live _ _ honest m programs w f one (λ h. subst (IsHonestIn honest) is h) (λ h reliable. absurd (let no : ⊥ = cc (reliable.0, is) in no)) ran own
lived_in_folder honest m folder programs w (Err e) one is ran own = tt

module _ {S : Type 0} (contents : S → Option (List ℕ)) (failures : S → ℕ) where
  -- the last line stands behind what was written while the program ran
  pub shown_live : (honest : Type 0) (m : Memory) (programs : List Verified) (old now new : S) (f : Finished) (status : ℕ) → RanLive honest m programs (writes contents failures old now) f
      → Says (writes contents failures now new) (shown_rest f.end) (run_status f.end.run) status
      → IsShownLive honest m f.end (writes contents failures old new) status ⊎ ((status ≡ 2) × OneFailed (writes contents failures old new))
  shown_live honest m programs old now new f status ran (inl said) = inl (record {
    printed = ran.printed;
    whole = ran.whole;
    written = appends_more (contents old) (contents now) (contents new) ran.printed (shown_rest f.end) ran.written said.1;
    sound = none_failed_more contents failures old now new ran.sound said.2;
    own = said.0;
  })
  shown_live honest m programs old now new f status ran (inr failed) = inr (failed.0, one_failed_more contents failures old now new ran.sound failed.1)

-- what was shown as it came is what is shown at the end
same_shown : (honest : Type 0) (m : Memory) (out : Writes) (e : Ended) (status : ℕ) → IsHonestIn honest m.store → IsShownLive honest m e out status ⊎ ((status ≡ 2) × OneFailed out)
    → Says out (shown_ends (e ∷ [])) (ends_status (e ∷ [])) status
same_shown honest m out e status is (inl s) =
    inl (s.own ∙ sym (max-zero (run_status e.run)), subst (λ (l : List ℕ). Appends out.before.contents out.after.contents (l ++ shown_rest e)) (s.whole is) s.written, s.sound)
same_shown honest m out e status is (inr failed) = inr failed

pub shows_the_same : (h : Type 0) → LiveShowsTheSame h
shows_the_same h asked file held out err result honest ran = elim ran.ended [
  | inl s ↦ inl (record {
    programs = ran.programs;
    codes = ran.codes;
    admitted = ran.admitted;
    finished = s.finished ∷ [];
    movers = [];
    took = s.took;
    executed = s.executed;
    status = s.status;
    shown = same_shown h asked.memory out s.finished.end s.status honest s.shown;
    told = s.told;
  })
  | inr failed ↦ inr (failed.0, failed.1)
]
