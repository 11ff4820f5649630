-- What becomes of a program whose output is written as it comes.
use Rattle.std.specs.Prelude.{◌≡◌, ℕ, Bool, true, false, List}
use Rattle.std.specs.Io.KnownBytes.{Appends}
use Rattle.cells.specs.declared.ending.Ended.{Ended}
use Rattle.code_form.specs.Form.{Image}
use Rattle.program_run.specs.Executed.{IsExecutedOver}
use Rattle.program_run.specs.Runs.{RunView}
use Rattle.region.specs.Admission.{IsAdmitted, IsDenied, IsWithinWork}
use Rattle.region.specs.declared.fault.AdmitFault.TheVariants as admit
use Rattle.scope_verifier.specs.declared.acceptance.Verified.{Verified}
use Rattle.streams.specs.Streams.{IsQuiet, NoneFailed, OneFailed, Writes}
use Rattle.live_run.specs.declared.live.LiveError.{LiveError}
use Rattle.live_run.specs.declared.live.LiveError.TheVariants as live

-- it is the same program of the same region, with the same objects
abbrev pub IsSame : RunView → RunView → Type 0
IsSame p q = (q.programs ≡ p.programs) × (q.number ≡ p.number) × (q.first ≡ p.first) × (q.objects ≡ p.objects)

-- a program's run is over, where it does not go on
abbrev pub IsOverUnless : Bool → RunView → Type 0
IsOverUnless true p = Unit {0}
IsOverUnless false p = p.over ≡ true

-- some bytes were written, and no write failed: where the store is honest they are what was printed
pub record Shows (honest : Type 0) (printed : List ℕ) (w : Writes) : Type 0 where
  pub shown : List ℕ
  pub whole : honest → shown ≡ printed
  pub written : Appends w.before.contents w.after.contents shown
  pub sound : NoneFailed w

-- The program of this image, with so many objects, has ended so, and its output was written as it came: over an honest store both are those of the code's run
pub record EndsLive (honest reliable : Type 0) (objects : ℕ) (C : Image) (w : Writes) (e : Ended) : Type 0 where
  pub executed : honest → IsExecutedOver reliable objects C e
  pub shown : Shows honest e.output.items w

-- why a program of an admitted region is not seen to its end: memory was refused before it ran, and nothing was written; or one write failed
abbrev pub IsLeft : Writes → LiveError → Type 0
IsLeft w (live.NotRun fault) = (fault ≡ admit.OutOfMemory) × IsQuiet w
IsLeft w live.Unwritten = OneFailed w

-- Why these programs are not seen to their end: no system of these numbers is made of them, and nothing was written; or they are admitted, and one write failed
abbrev pub IsNotShown : List Verified → (frames objects evacuators fetchers workers quantum : ℕ) → Writes → LiveError → Type 0
IsNotShown programs frames objects evacuators fetchers workers quantum w (live.NotRun fault) = IsDenied programs frames objects evacuators fetchers workers quantum fault × IsQuiet w
IsNotShown programs frames objects evacuators fetchers workers quantum w live.Unwritten = IsAdmitted programs frames objects evacuators fetchers × IsWithinWork workers quantum × OneFailed w
