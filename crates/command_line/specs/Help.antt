-- What is told of words that are no command line.
use Rattle.std.specs.Prelude.{Bool, false, List, [], ◌∷◌, ◌++◌, codes, cond}
use Rattle.std.specs.Str.{bytes_eq}
use Rattle.clap.specs.Words.{Text}
use Rattle.help_pages.specs.Topics.{ask_flag, asks_help, is_command, is_topic, page_of}
use Rattle.command_line.specs.Complaints.{newline, no_command, no_help, no_such_command}
use Rattle.command_line.specs.Mistakes.{mistake, start}
use Rattle.command_line.specs.declared.help.TheConstants.{VERSION}

-- the words behind the program's name
abbrev pub behind : List Text → List Text
behind [] = []
behind (w ∷ ws) = ws

-- what is told in front of the page that is asked for: nothing where there is such a page
abbrev pub complaint_on : List Text → Text
complaint_on [] = []
complaint_on (w ∷ ws) = cond (is_topic w) [] (no_help w)

-- what is told in front of the page of the words behind the program's name: nothing where help is asked for
abbrev pub complaint_of : List Text → Text
complaint_of [] = no_command
complaint_of (w ∷ ws) = cond (asks_help w) (complaint_on ws) (cond (ask_flag ws) [] (cond (is_command w) (mistake w ws ws start) (no_such_command w)))

-- what is told of words that are no command line: what is refused, and a page
abbrev pub help_text : List Text → Text
help_text words = complaint_of (behind words) ++ (page_of (behind words) ++ newline)

-- the words behind the program's name ask for the number of this version
abbrev pub asks_version : List Text → Bool
asks_version [] = false
asks_version (w ∷ []) = bytes_eq w (codes "--version")
asks_version (w ∷ x ∷ ws) = false

-- what is told of it
abbrev pub version_text : Text
version_text = VERSION.now ++ newline
