-- What is told of words that are no command, by whether they ask for the number of this version.
use Rattle.std.proofs.Common.{◌≡◌, ℕ, Bool, true, false, List, subst}
use Rattle.clap.specs.Words.{Text}
use Rattle.command_line.specs.Help.{asks_version, behind, help_text, version_text}
use Rattle.c0far.specs.Driven.{Answers}
use Rattle.streams.specs.Streams.{IsQuiet, Says, Writes}

-- what is told of the words, where it is so whether they ask for it
abbrev told : List Text → Writes → Writes → ℕ → Bool → Type 0
told words out err status b = elim b as (λ x. Type 0) [ true ↦ Says out version_text 0 status × IsQuiet err | false ↦ Says err (help_text words) 2 status × IsQuiet out ]

pub by_version : (words : List Text) (out err : Writes) (status : ℕ) → true ≡ asks_version (behind words) → Says out version_text 0 status → IsQuiet err → Answers words out err status
by_version words out err status e said quiet = subst (told words out err status) e (said, quiet)

pub by_help : (words : List Text) (out err : Writes) (status : ℕ) → false ≡ asks_version (behind words) → Says err (help_text words) 2 status → IsQuiet out → Answers words out err status
by_help words out err status e said quiet = subst (told words out err status) e (said, quiet)
