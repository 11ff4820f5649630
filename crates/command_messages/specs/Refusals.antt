-- What is told of a text or of programs that are refused.
use Rattle.std.specs.Prelude.{◌≡◌, ℕ, Bool, List, ◌++◌, codes}
use Rattle.c0_source.specs.declared.fault.Fault.{Fault}
use Rattle.c0_source.specs.declared.fault.FaultKind.TheVariants as f
use Rattle.c0_typed.specs.Trees as y
use Rattle.c0_front.specs.Texts.{IsTypedAs}
use Rattle.c0_front.specs.Texts as Unchecked
use Rattle.clap.specs.Words.{Text}
use Rattle.region.specs.Faults.{fault_line as admit_line}
use Rattle.region.specs.declared.fault.AdmitFault.{AdmitFault}
use Rattle.region.specs.declared.fault.AdmitFault.TheVariants as admit
use Rattle.command_files.specs.FileTexts.{HasText, Known}
use Rattle.command_messages.specs.Shown.{StandsAt, newline, shown_fault}
use Rattle.streams.specs.Streams.{IsQuiet, Says, Writes}

-- the file's text is the text of no well-typed program at this level: the fault of the first stage that finds one is shown, and where it
-- stands; want of memory is no such fault
pub record HasFailed (loops : Bool) (file : Text) (held : Known) (out err : Writes) (result : ℕ) : Type 0 where
  pub text : List ℕ
  pub read : HasText held text
  pub none : (typed : y.Program) → IsTypedAs loops text typed → ⊥
  pub fault : Fault
  pub cause : Unchecked.IsRefusedText loops text fault
  pub other : fault.kind ≡ f.OutOfMemory → ⊥
  pub line : ℕ
  pub column : ℕ
  pub place : StandsAt text fault.span.start line column
  pub shown : Says err (shown_fault file line column fault) 2 result
  pub quiet : IsQuiet out

-- a fault of admission is shown
abbrev pub SaysFault : AdmitFault → Writes → ℕ → Type 0
SaysFault (admit.TooSmall need have) err result = Says err (admit_line (admit.TooSmall need have) ++ newline) 2 result
SaysFault (admit.PieceDiffers program) err result = Says err (admit_line (admit.PieceDiffers program) ++ newline) 2 result
SaysFault admit.TooMany err result = Says err (admit_line admit.TooMany ++ newline) 2 result
SaysFault admit.OutOfMemory err result = Says err (codes "out of memory" ++ newline) 3 result
