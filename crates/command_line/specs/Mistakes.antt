-- What is wrong with the words behind a command's name: the first thing from the left.
use Rattle.std.specs.Prelude.{◌==◌, Bool, true, false, not, ◌&&◌, ◌||◌, List, [], ◌∷◌, length, Option, Some, None, codes, cond}
use Rattle.std.specs.Str.{bytes_eq}
use Rattle.clap.specs.Words.{Text}
use Rattle.command_line.specs.Complaints.{complaint_text, lacks, no_file, no_option, no_value, one_live, one_more, other_value, other_words, twice}
use Rattle.command_line.specs.Options.{accepts, attached_value, begins, has_choice, is_single, name_text, named, required_in, takes_value, word_name}
use Rattle.command_line.specs.declared.mistakes.WordPlace.{WordPlace}
use Rattle.command_line.specs.declared.mistakes.WordStep.{WordStep as CodeStep}
use Rattle.command_line.specs.declared.mistakes.WordStep.TheVariants as s
use Rattle.command_line.specs.declared.options.Choice.{Choice}
use Rattle.command_line.specs.declared.options.Choice.TheVariants as o

-- what a word comes to: it is wrong, which is told so, or one is there behind it
pub data WordStep : Type 0 where
  Tells : Text → WordStep
  Goes : WordPlace → WordStep

-- ... as code has it
abbrev pub step_of : CodeStep → WordStep
step_of (s.Tells complaint) = Tells (complaint_text complaint)
step_of (s.Goes place) = Goes place

-- in front of all words
abbrev pub start : WordPlace
start = record { waiting = None; has_file = false; has_more = false; is_live = false; is_trailing = false }

-- the word is an option, with or without its value
abbrev pub is_option_word : Text → Bool
is_option_word word = begins word (codes "-") && not (bytes_eq word (codes "-"))

-- the option is among the words, in front of the end of options
abbrev pub is_among : Choice → List Text → Bool
is_among choice [] = false
is_among choice (w ∷ ws) = cond (bytes_eq w (codes "--")) false (bytes_eq (word_name w) (name_text choice) || is_among choice ws)

-- a word that is a file
abbrev pub file_step : Text → WordPlace → Text → WordStep
file_step name place word = cond (place.has_file && is_single name) (Tells (one_more name word)) (Goes (record place { has_file = true; has_more = place.has_file }))

-- what is told of an option with a value that it does not take
abbrev pub refused_value : Choice → Text → Text
refused_value choice value = cond (length value == 0) (no_value choice) (other_value choice value)

-- a word behind an option that waits for its value
abbrev pub value_step : WordPlace → Choice → Text → WordStep
value_step place choice word =
    cond (not (is_option_word word) && accepts choice word) (Goes (record place { waiting = None })) (Tells (refused_value choice word))

-- where one is behind an option that has no value
abbrev pub flagged : WordPlace → Choice → WordPlace
flagged place o.Live = record place { is_live = true }
flagged place _ = place

-- an option with this value in its word
abbrev pub attached_step : WordPlace → Choice → Option Text → WordStep
attached_step place choice None = cond (takes_value choice) (Goes (record place { waiting = Some choice })) (Goes (flagged place choice))
attached_step place choice (Some value) = cond (accepts choice value) (Goes place) (Tells (refused_value choice value))

-- a word that is an option of the command, with the words behind it
abbrev pub known_step : WordPlace → Choice → Text → List Text → WordStep
known_step place choice word behind = cond (is_among choice behind) (Tells (twice choice)) (attached_step place choice (attached_value word))

-- ... where it is this one, or none
abbrev pub choice_step : Text → WordPlace → Text → List Text → Option Choice → WordStep
choice_step name place word behind None = Tells (no_option word)
choice_step name place word behind (Some choice) = cond (has_choice name choice) (known_step place choice word behind) (Tells (no_option word))

-- a word that is an option, with the words behind it
abbrev pub option_step : Text → WordPlace → Text → List Text → WordStep
option_step name place word behind = choice_step name place word behind (named (word_name word))

-- a word for which no option waits
abbrev pub plain_step : Text → WordPlace → Text → List Text → WordStep
plain_step name place word behind =
    cond place.is_trailing (file_step name place word)
    (cond (bytes_eq word (codes "--")) (Goes (record place { is_trailing = true }))
    (cond (is_option_word word) (option_step name place word behind) (file_step name place word)))

-- a word, with those behind it, for which this option waits, or none
abbrev pub waited_step : Text → WordPlace → Text → List Text → Option Choice → WordStep
waited_step name place word behind None = plain_step name place word behind
waited_step name place word behind (Some choice) = value_step place choice word

-- a word, with those behind it
abbrev pub word_step : Text → WordPlace → Text → List Text → WordStep
word_step name place word behind = waited_step name place word behind place.waiting

-- a file is missing, or there are several where one is wanted, or else what is wrong is not known
abbrev pub unfiled : Text → WordPlace → Text
unfiled name place = cond (not place.has_file) (no_file name) (cond (place.is_live && place.has_more) one_live (other_words name))

-- what is missing behind the name of a command that wants this option, or none
abbrev pub lacking : Text → List Text → WordPlace → Option Choice → Text
lacking name words place None = unfiled name place
lacking name words place (Some choice) = cond (is_among choice words) (unfiled name place) (lacks name choice)

-- what is missing behind a command's name, where no word is wrong
abbrev pub missing : Text → List Text → WordPlace → Text
missing name words place = lacking name words place (required_in name)

-- what is wrong where no word is, and this option waits for its value, or none
abbrev pub left_over : Text → List Text → WordPlace → Option Choice → Text
left_over name words place None = missing name words place
left_over name words place (Some choice) = no_value choice

-- what is wrong where no word is
abbrev pub ending : Text → List Text → WordPlace → Text
ending name words place = left_over name words place place.waiting

-- what a step tells, or else what comes behind it
abbrev pub after : WordStep → (WordPlace → Text) → Text
after (Tells text) next = text
after (Goes place) next = next place

-- what is wrong with the rest of these words behind a command's name, from there on
abbrev pub mistake : Text → List Text → List Text → WordPlace → Text
mistake name words [] place = ending name words place
mistake name words (w ∷ ws) place = after (word_step name place w ws) (mistake name words ws)
