-- The options of the commands, and what each wants behind it.
use Rattle.std.specs.Prelude.{◌==◌, nat_lt, Bool, true, false, not, ◌&&◌, ◌||◌, length, Option, Some, None, is_some, codes, cond}
use Rattle.std.specs.List.{starts_with, position_or_len, before_first, after_first}
use Rattle.std.specs.Option.{option_map_or}
use Rattle.std.specs.Str.{bytes_eq}
use Rattle.cells.specs.Pieces.{is_piece}
use Rattle.clap.specs.Words.{Text}
use Rattle.command_line.specs.Shell.{number_in, short_number_in}
use Rattle.command_line.specs.declared.options.Choice.{Choice}
use Rattle.command_line.specs.declared.options.Choice.TheVariants as o

-- the option of this name
abbrev pub named : Text → Option Choice
named name =
    cond (bytes_eq name (codes "-d")) (Some o.Checks)
    (cond (bytes_eq name (codes "--level")) (Some o.Level)
    (cond (bytes_eq name (codes "--piece")) (Some o.Piece)
    (cond (bytes_eq name (codes "-o")) (Some o.Out)
    (cond (bytes_eq name (codes "--turns")) (Some o.Turns)
    (cond (bytes_eq name (codes "--frames")) (Some o.Frames)
    (cond (bytes_eq name (codes "--objects")) (Some o.Objects)
    (cond (bytes_eq name (codes "--store")) (Some o.Store)
    (cond (bytes_eq name (codes "--fail-from")) (Some o.FailFrom)
    (cond (bytes_eq name (codes "--evacuators")) (Some o.Evacuators)
    (cond (bytes_eq name (codes "--fetchers")) (Some o.Fetchers)
    (cond (bytes_eq name (codes "--workers")) (Some o.Workers)
    (cond (bytes_eq name (codes "--quantum")) (Some o.Quantum)
    (cond (bytes_eq name (codes "--schedule")) (Some o.Schedule)
    (cond (bytes_eq name (codes "--live")) (Some o.Live)
    (cond (bytes_eq name (codes "--stats")) (Some o.Stats)
    (cond (bytes_eq name (codes "--where")) (Some o.Where)
    (cond (bytes_eq name (codes "--memory")) (Some o.Memory) None)))))))))))))))))

-- the name of an option
abbrev pub name_text : Choice → Text
name_text o.Checks = codes "-d"
name_text o.Level = codes "--level"
name_text o.Piece = codes "--piece"
name_text o.Out = codes "-o"
name_text o.Turns = codes "--turns"
name_text o.Frames = codes "--frames"
name_text o.Objects = codes "--objects"
name_text o.Store = codes "--store"
name_text o.FailFrom = codes "--fail-from"
name_text o.Evacuators = codes "--evacuators"
name_text o.Fetchers = codes "--fetchers"
name_text o.Workers = codes "--workers"
name_text o.Quantum = codes "--quantum"
name_text o.Schedule = codes "--schedule"
name_text o.Live = codes "--live"
name_text o.Stats = codes "--stats"
name_text o.Where = codes "--where"
name_text o.Memory = codes "--memory"

-- what an option wants behind it, in words
abbrev pub wanted_text : Choice → Text
wanted_text o.Checks = codes "no value"
wanted_text o.Level = codes "0 or 1"
wanted_text o.Piece = codes "16, 32, 64, 128 or 256"
wanted_text o.Out = codes "a file"
wanted_text o.Turns = codes "a number below 18,446,744,073,709,551,616"
wanted_text o.Frames = codes "a number below 4,294,967,296"
wanted_text o.Objects = codes "a number below 4,294,967,296"
wanted_text o.Store = codes "a folder"
wanted_text o.FailFrom = codes "a number below 18,446,744,073,709,551,616"
wanted_text o.Evacuators = codes "a number below 4,294,967,296"
wanted_text o.Fetchers = codes "a number below 4,294,967,296"
wanted_text o.Workers = codes "a number below 4,294,967,296"
wanted_text o.Quantum = codes "a number below 4,294,967,296"
wanted_text o.Schedule = codes "a file"
wanted_text o.Live = codes "no value"
wanted_text o.Stats = codes "no value"
wanted_text o.Where = codes "no value"
wanted_text o.Memory = codes "a number below 4,294,967,296"

-- an option has a value, but for `-d`, `--live`, `--stats` and `--where`
abbrev pub takes_value : Choice → Bool
takes_value o.Checks = false
takes_value o.Live = false
takes_value o.Stats = false
takes_value o.Where = false
takes_value _ = true

-- the text tells a level of the language
abbrev pub is_level_text : Text → Bool
is_level_text text = option_map_or (λ n. n == 0 || n == 1) (short_number_in text) false

-- the text tells a size of pieces
abbrev pub is_piece_text : Text → Bool
is_piece_text text = option_map_or is_piece (short_number_in text) false

-- the text is a value of the option
abbrev pub accepts : Choice → Text → Bool
accepts o.Checks text = false
accepts o.Level text = is_level_text text
accepts o.Piece text = is_piece_text text
accepts o.Out text = true
accepts o.Turns text = is_some (number_in text)
accepts o.Frames text = is_some (short_number_in text)
accepts o.Objects text = is_some (short_number_in text)
accepts o.Store text = true
accepts o.FailFrom text = is_some (number_in text)
accepts o.Evacuators text = is_some (short_number_in text)
accepts o.Fetchers text = is_some (short_number_in text)
accepts o.Workers text = is_some (short_number_in text)
accepts o.Quantum text = is_some (short_number_in text)
accepts o.Schedule text = true
accepts o.Live text = false
accepts o.Stats text = false
accepts o.Where text = false
accepts o.Memory text = is_some (short_number_in text)

-- the command of this name takes the options of a run, and several files
abbrev pub is_run_name : Text → Bool
is_run_name name = bytes_eq name (codes "run") || bytes_eq name (codes "replay")

-- the command of this name takes one file
abbrev pub is_single : Text → Bool
is_single name = not (is_run_name name)

-- the command of this name has the option
abbrev pub has_choice : Text → Choice → Bool
has_choice name o.Checks = not (bytes_eq name (codes "check")) && not (bytes_eq name (codes "list"))
has_choice name o.Level = true
has_choice name o.Piece = not (bytes_eq name (codes "check")) && not (bytes_eq name (codes "mean"))
has_choice name o.Out = bytes_eq name (codes "build")
has_choice name o.Turns = bytes_eq name (codes "mean")
has_choice name o.Frames = is_run_name name
has_choice name o.Objects = is_run_name name
has_choice name o.Store = is_run_name name
has_choice name o.FailFrom = is_run_name name
has_choice name o.Evacuators = is_run_name name
has_choice name o.Fetchers = is_run_name name
has_choice name o.Workers = is_run_name name
has_choice name o.Quantum = is_run_name name
has_choice name o.Schedule = bytes_eq name (codes "replay")
has_choice name o.Live = bytes_eq name (codes "run")
has_choice name o.Stats = bytes_eq name (codes "run")
has_choice name o.Where = bytes_eq name (codes "run") || bytes_eq name (codes "mean")
has_choice name o.Memory = bytes_eq name (codes "run") || bytes_eq name (codes "mean")

-- the option without which the command of this name does nothing
abbrev pub required_in : Text → Option Choice
required_in name =
    cond (bytes_eq name (codes "build")) (Some o.Out)
    (cond (bytes_eq name (codes "mean")) (Some o.Turns)
    (cond (bytes_eq name (codes "replay")) (Some o.Schedule) None))

-- the word begins so
abbrev pub begins : Text → Text → Bool
begins word start = starts_with (λ a b. a == b) word start

-- there is a `=` in the word
abbrev pub has_back : Text → Bool
has_back word = nat_lt (position_or_len (λ b. b == 61) word) (length word)

-- what stands in front of the first `=` of the word, or the whole of it
abbrev pub name_part : Text → Text
name_part word = cond (has_back word) (before_first (λ b. b == 61) word) word

-- what stands behind the first `=` of the word
abbrev pub value_part : Text → Option Text
value_part word = cond (has_back word) (Some (after_first (λ b. b == 61) word)) None

-- the word begins with `-o`, or with `-do`, which is `-d -o`
abbrev pub is_out_word : Text → Bool
is_out_word word = begins word (codes "-o") || begins word (codes "-do")

-- the name of the option in the word, of which the value may be a part
abbrev pub word_name : Text → Text
word_name word = cond (is_out_word word) (codes "-o") (name_part word)

-- the value that is a part of the word with its option; any is a file to be written
abbrev pub attached_value : Text → Option Text
attached_value word =
    cond (is_out_word word) (cond (bytes_eq word (codes "-o") || bytes_eq word (codes "-do")) None (Some word)) (value_part word)
