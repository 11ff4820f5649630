-- What is told of files that have no code.
use Rattle.std.specs.Prelude.{◌≡◌, ◌⊎◌, ℕ, Bool, true, false, List, ◌∷◌, ◌++◌, Err, Some, codes}
use Rattle.code_form.specs.Form.{Image}
use Rattle.clap.specs.Words.{Text}
use Rattle.image_bytes.specs.Encodable.{IsImage}
use Rattle.image_reader.specs.Reading.{reads}
use Rattle.instruction_table.specs.FaultNumbers.{fault_line as image_line}
use Rattle.instruction_table.specs.declared.fault.ImageFault.{ImageFault}
use Rattle.scope_verifier.specs.declared.acceptance.Verified.{Verified}
use Rattle.scope_verifier_laws.specs.Faults.{fault_of}
use Rattle.scope_verifier_laws.specs.FaultNumbers.{fault_line as verify_line}
use Rattle.scope_verifier_laws.specs.declared.fault.VerifyFault.{VerifyFault}
use Rattle.command_line.specs.Shell.{Compiling}
use Rattle.c0far.specs.FileCode.{AreCodes, names_image}
use Rattle.command_files.specs.FileTexts.{HasText, IsMissing, Known}
use Rattle.command_messages.specs.Refusals.{HasFailed}
use Rattle.command_messages.specs.Shown.{newline}
use Rattle.streams.specs.Streams.{IsQuiet, Says, Writes}

-- the file was not read
pub record IsUnread (file : Text) (held : Known) (out err : Writes) (result : ℕ) : Type 0 where
  pub missing : IsMissing held
  pub shown : Says err (file ++ (codes ": cannot be read" ++ newline)) 2 result
  pub quiet : IsQuiet out

-- a growth was refused before anything ran to its end
pub record LacksMemory (out err : Writes) (result : ℕ) : Type 0 where
  pub shown : Says err (codes "out of memory" ++ newline) 3 result
  pub quiet : IsQuiet out

-- the file's bytes are no image: the first thing that is wrong with them is shown
pub record HasImageFault (file : Text) (held : Known) (out err : Writes) (result : ℕ) : Type 0 where
  pub bytes : List ℕ
  pub read : HasText held bytes
  pub fault : ImageFault
  pub cause : reads bytes ≡ Err fault
  pub shown : Says err (file ++ (codes ": " ++ (image_line fault ++ newline))) 2 result
  pub quiet : IsQuiet out

-- the file's image may not be run: its first fault is shown
pub record HasVerifyFault (file : Text) (held : Known) (out err : Writes) (result : ℕ) : Type 0 where
  pub bytes : List ℕ
  pub read : HasText held bytes
  pub image : Image
  pub is : IsImage bytes image
  pub fault : VerifyFault
  pub cause : fault_of image ≡ Some fault
  pub shown : Says err (file ++ (codes ": " ++ (verify_line fault ++ newline))) 2 result
  pub quiet : IsQuiet out

-- the file's image is refused
abbrev pub IsUnfit : Text → Known → Writes → Writes → ℕ → Type 0
IsUnfit file held out err result = HasImageFault file held out err result ⊎ HasVerifyFault file held out err result

-- the file's code is refused: an image, or a text
abbrev pub IsRefused : (loops : Bool) → Text → Known → Writes → Writes → ℕ → Type 0
IsRefused loops file held out err result = elim (names_image file) as (λ b. Type 0) [ true ↦ IsUnfit file held out err result | false ↦ HasFailed loops file held out err result ]

-- there is no code of the file: it is refused, or was not read, or memory was wanted
abbrev pub HasNoCode : (loops : Bool) → Text → Known → Writes → Writes → ℕ → Type 0
HasNoCode loops file held out err result = IsRefused loops file held out err result ⊎ (IsUnread file held out err result ⊎ LacksMemory out err result)

-- there is no code of one of the files: the first of which that is so is told of
pub record LacksCode (compiling : Compiling) (held : Text → Known) (files : List Text) (out err : Writes) (result : ℕ) : Type 0 where
  pub before : List Text
  pub file : Text
  pub after : List Text
  pub cut : files ≡ before ++ file ∷ after
  pub programs : List Verified
  pub codes : AreCodes compiling held before programs
  pub none : HasNoCode compiling.texts.loops file (held file) out err result
