-- What code a file holds: an image where its name ends in `.c0i`, and else the text of a program.
use Rattle.std.specs.Prelude.{ℕ, ◌==◌, Bool, true, false, List, [], ◌∷◌, codes}
use Rattle.std.specs.List.{ends_with}
use Rattle.clap.specs.Words.{Text}
use Rattle.code_form.specs.Form.{Image, image_of}
use Rattle.code_verification.specs.Verified.{IsVerified}
use Rattle.image_bytes.specs.Encodable.{IsImage}
use Rattle.c0_image.specs.Compiled.{IsCompiled}
use Rattle.command_line.specs.Shell.{Compiling}
use Rattle.scope_verifier.specs.declared.acceptance.Verified.{Verified}
use Rattle.command_files.specs.FileTexts.{HasText, Known}

-- the name is that of an image
abbrev pub names_image : Text → Bool
names_image file = ends_with (λ a b. a == b) file (codes ".c0i")

-- the file's bytes are those of this image, which is verified
pub record HoldsImage (held : Known) (image : Image) : Type 0 where
  pub bytes : List ℕ
  pub read : HasText held bytes
  pub is : IsImage bytes image
  pub verified : IsVerified image

-- code of texts at this level, with no contracts checked, for pieces of so many cells
abbrev pub unchecked : (loops : Bool) → (piece : ℕ) → Compiling
unchecked loops piece = record { texts = record { loops = loops; checks = false }; piece = piece }

-- the file's text is compiled so to this image
pub record HoldsText (compiling : Compiling) (held : Known) (image : Image) : Type 0 where
  pub text : List ℕ
  pub read : HasText held text
  pub compiled : IsCompiled compiling.texts.loops text compiling.texts.checks compiling.piece image

-- the code of the file
abbrev pub HoldsCode : Text → Compiling → Known → Image → Type 0
HoldsCode file compiling held image = elim (names_image file) as (λ b. Type 0) [ true ↦ HoldsImage held image | false ↦ HoldsText compiling held image ]

-- these programs are the codes of these files, where texts are compiled so
abbrev pub AreCodes : Compiling → (Text → Known) → List Text → List Verified → Type 0
AreCodes compiling held [] [] = Unit {0}
AreCodes compiling held [] (v ∷ vs) = ⊥
AreCodes compiling held (f ∷ fs) [] = ⊥
AreCodes compiling held (f ∷ fs) (v ∷ vs) = HoldsCode f compiling (held f) (image_of v.image) × AreCodes compiling held fs vs
