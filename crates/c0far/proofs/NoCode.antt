-- What is done of a file by its name.
use Rattle.std.proofs.Common.{◌≡◌, ℕ, Bool, true, false, inl, inr, subst}
use Rattle.std.specs.Prelude.{◌⊎◌, List}
use Rattle.c0far.specs.Driven.{Checks, ChecksImage, ChecksText}
use Rattle.c0far.specs.NoCode.{HasNoCode, IsUnfit, LacksMemory}
use Rattle.command_messages.specs.Refusals.{HasFailed}
use Rattle.c0far.specs.FileCode.{names_image}
use Rattle.command_files.specs.FileTexts.{Known}
use Rattle.streams.specs.Streams.{Writes}

-- a text that is refused has no code
pub no_text : (loops : Bool) (file : List ℕ) (held : Known) (out err : Writes) (status : ℕ) → false ≡ names_image file → HasFailed loops file held out err status ⊎ LacksMemory out err status → HasNoCode loops file held out err status
no_text loops file held out err status e (inl h) =
    inl (subst (λ (b : Bool). elim b as (λ x. Type 0) [ true ↦ IsUnfit file held out err status | false ↦ HasFailed loops file held out err status ]) e h)
no_text loops file held out err status e (inr h) = inr (inr h)

-- an image is looked at
pub checks_image : (loops : Bool) (file : List ℕ) (held : Known) (out err : Writes) (status : ℕ) → true ≡ names_image file → ChecksImage loops file held out err status → Checks loops file held out err status
checks_image loops file held out err status e h =
    subst (λ (b : Bool). elim b as (λ x. Type 0) [ true ↦ ChecksImage loops file held out err status | false ↦ ChecksText loops file held out err status ]) e h

-- a text is checked
pub checks_text : (loops : Bool) (file : List ℕ) (held : Known) (out err : Writes) (status : ℕ) → false ≡ names_image file → ChecksText loops file held out err status → Checks loops file held out err status
checks_text loops file held out err status e h =
    subst (λ (b : Bool). elim b as (λ x. Type 0) [ true ↦ ChecksImage loops file held out err status | false ↦ ChecksText loops file held out err status ]) e h
