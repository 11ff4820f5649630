-- The command line: what clap is told of it, and what words mean.
use Rattle.std.specs.Prelude.{◌≡◌, ℕ, ◌^◌, ◌==◌, nat_lt, Bool, true, false, ◌&&◌, List, [], ◌∷◌, length, map, Option, Some, None, codes, cond, option_and_then, option_map, slice_get}
use Rattle.std.specs.Char.{digit_value}
use Rattle.std.specs.List.{list_all}
use Rattle.std.specs.Option.{option_map_or}
use Rattle.std.specs.Str.{bytes_eq}
use Rattle.std.specs.Str.Parse.{digits_value}
use Rattle.clap.specs.Words.{App, Row, Rule, Shape, Text, all_of, fault_of, first_of, new_app, new_rule, subcommand_of, with_rule, with_subcommand}
use Rattle.clap.specs.declared.builder.ArgAction.TheVariants.{Append, Set, SetTrue}
use Rattle.clap.specs.declared.builder.command.Command.{Command as Built}
use Rattle.clap.specs.declared.builder.command.Command.TheViews.{out-Command}
use Rattle.c0_syntax.specs.Levels.{has_loops}
use Rattle.cells.specs.Pieces.{cells_in, is_piece}
use Rattle.command_line.specs.declared.words.Bound.{Bound as AskedBound}
use Rattle.command_line.specs.declared.words.Memory.{Memory as Written}
use Rattle.command_line.specs.declared.words.ReplayOptions.{ReplayOptions}
use Rattle.command_line.specs.declared.words.RunOptions.{RunOptions}
use Rattle.command_line.specs.declared.words.Compiling.{Compiling as AskedCompiling}
use Rattle.command_line.specs.declared.words.Texts.{Texts as AskedTexts}
use Rattle.command_line.specs.declared.words.Work.{Work as AskedWork}
use Rattle.command_line.specs.declared.words.Line.{Line}
use Rattle.command_line.specs.declared.words.Line.TheVariants as line

-- one word that must be there
abbrev pub file_rule : Rule
file_rule = record (new_rule (codes "file")) { required = true; action = Some Set }

-- -d
abbrev pub checks_rule : Rule
checks_rule = record (new_rule (codes "checks")) { short = Some 100; action = Some SetTrue }

-- --live
abbrev pub live_rule : Rule
live_rule = record (new_rule (codes "live")) { long = Some (codes "live"); action = Some SetTrue }

-- --stats
abbrev pub stats_rule : Rule
stats_rule = record (new_rule (codes "stats")) { long = Some (codes "stats"); action = Some SetTrue }

-- --where
abbrev pub where_rule : Rule
where_rule = record (new_rule (codes "where")) { long = Some (codes "where"); action = Some SetTrue }

-- --turns N
abbrev pub turns_rule : Rule
turns_rule = record (new_rule (codes "turns")) { long = Some (codes "turns"); required = true; action = Some Set }

-- -o OUT
abbrev pub out_rule : Rule
out_rule = record (new_rule (codes "out")) { short = Some 111; required = true; action = Some Set }

-- an option of this name with a value, which may be left out
abbrev pub option_rule : Text → Rule
option_rule name = record (new_rule name) { long = Some name; action = Some Set }

-- --schedule S
abbrev pub schedule_rule : Rule
schedule_rule = record (option_rule (codes "schedule")) { required = true }

-- FILE..., one or more
abbrev pub files_rule : Rule
files_rule = record (new_rule (codes "file")) { required = true; action = Some Append }

-- the command of this name, which reads texts: NAME [--level L]
abbrev pub of_texts : Text → App
of_texts name = with_rule (new_app name) (option_rule (codes "level"))

-- ... with contracts checked or not: NAME [--level L] [-d]
abbrev pub of_checked_texts : Text → App
of_checked_texts name = with_rule (of_texts name) checks_rule

-- ... and makes code of them, for pieces of a size: NAME [--level L] [-d] [--piece C]
abbrev pub of_code : Text → App
of_code name = with_rule (of_checked_texts name) (option_rule (codes "piece"))

-- [--frames F] [--objects N] [--store DIR] [--fail-from K]
abbrev pub with_memory : App → App
with_memory a =
    with_rule (with_rule (with_rule (with_rule a (option_rule (codes "frames"))) (option_rule (codes "objects"))) (option_rule (codes "store"))) (option_rule (codes "fail-from"))

-- [--workers W] [--quantum N]
abbrev pub with_work : App → App
with_work a = with_rule (with_rule a (option_rule (codes "workers"))) (option_rule (codes "quantum"))

-- [--evacuators E] [--fetchers Q]
abbrev pub with_movers : App → App
with_movers a = with_rule (with_rule a (option_rule (codes "evacuators"))) (option_rule (codes "fetchers"))

-- the command of this name, which makes code of texts and runs it, over a memory, with movers and workers
abbrev pub of_programs : Text → App
of_programs name = with_work (with_movers (with_memory (of_code name)))

-- build [--level L] [-d] [--piece C] -o OUT FILE
abbrev pub build_shape : Shape
build_shape = (with_rule (with_rule (of_code (codes "build")) out_rule) file_rule).top

-- check [--level L] FILE
abbrev pub check_shape : Shape
check_shape = (with_rule (of_texts (codes "check")) file_rule).top

-- list [--level L] [--piece C] FILE
abbrev pub list_shape : Shape
list_shape = (with_rule (with_rule (of_texts (codes "list")) (option_rule (codes "piece"))) file_rule).top

-- mean [--level L] [-d] --turns N [--where] [--memory M] FILE
abbrev pub mean_shape : Shape
mean_shape = (with_rule (with_rule (with_rule (with_rule (of_checked_texts (codes "mean")) turns_rule) where_rule) (option_rule (codes "memory"))) file_rule).top

-- run [--level L] [-d] [--piece C] [--frames F] [--objects N] [--store DIR] [--fail-from K] [--evacuators E] [--fetchers Q] [--workers W] [--quantum N]
-- [--live] [--stats] [--where] [--memory M] FILE...
abbrev pub run_shape : Shape
run_shape =
    (with_rule (with_rule (with_rule (with_rule (with_rule (with_work (with_rule (with_rule (with_memory (of_code (codes "run"))) (option_rule (codes "evacuators"))) (option_rule (codes "fetchers")))) live_rule) stats_rule) where_rule) (option_rule (codes "memory"))) files_rule).top

-- replay [--level L] [-d] [--piece C] [--frames F] [--objects N] [--store DIR] [--fail-from K] [--evacuators E] [--fetchers Q] [--workers W]
-- [--quantum N] --schedule S FILE...
abbrev pub replay_shape : Shape
replay_shape =
    (with_rule (with_rule (with_work (with_rule (with_rule (with_memory (of_code (codes "replay"))) (option_rule (codes "evacuators"))) (option_rule (codes "fetchers")))) schedule_rule) files_rule).top

-- c0far, which wants a command
abbrev pub top_shape : Shape
top_shape = record (new_app (codes "c0far")).top { subcommand_required = true }

-- the program with its commands
unfoldable pub shell : App
shell =
    with_subcommand (with_subcommand (with_subcommand (with_subcommand (with_subcommand (with_subcommand (record { top = top_shape; subs = [] }) build_shape) check_shape) list_shape) mean_shape) replay_shape) run_shape

-- what clap builds for a command has no argument that is the commands' below it too
abbrev pub IsLocal : Built → Type 0
IsLocal c = (out-Command c).has_globals ≡ false

-- how texts are taken: with `break` and `continue` in the language or not, and with contracts checked or not
pub record Texts : Type 0 where
  pub loops : Bool
  pub checks : Bool

-- how code is made of texts: they are taken so, and pieces have so many cells
pub record Compiling : Type 0 where
  pub texts : Texts
  pub piece : ℕ

-- what programs run over: frames, objects, the folder of the store, where it is in one, and the number of the store's first call that fails, or 0
pub record Memory : Type 0 where
  pub frames : ℕ
  pub objects : ℕ
  pub store : Option Text
  pub fail_from : ℕ

-- how many threads programs share, and how many instructions of one are run at once
pub record Work : Type 0 where
  pub workers : ℕ
  pub quantum : ℕ

-- how a text is run plainly: it is taken so, for so many turns; whether it is told where the program stopped; and to how many MiB what its calls, its output and its heap
-- hold may come each, or 0
pub record Bounded : Type 0 where
  pub texts : Texts
  pub turns : ℕ
  pub explains : Bool
  pub limit : ℕ

-- how programs are run; whether it is told what was counted, and where each program stopped and what it wanted; and to how many MiB what the calls and the output of each
-- hold may come each, or 0
pub record Started : Type 0 where
  pub compiling : Compiling
  pub memory : Memory
  pub evacuators : ℕ
  pub fetchers : ℕ
  pub work : Work
  pub stats : Bool
  pub explains : Bool
  pub limit : ℕ

-- how programs are replayed
pub record Replayed : Type 0 where
  pub compiling : Compiling
  pub memory : Memory
  pub evacuators : ℕ
  pub fetchers : ℕ
  pub work : Work
  pub schedule : Text

-- a command, with its file, and with how texts are taken, and code is made of them; `check` and `list` check no contracts, and are told the level alone,
-- `list` the size of pieces too; `build` with the file that it writes, `mean` with its turns; `replay` and `run` with one file or more, and the run whose output is
-- written as it comes with one
pub data Command : Type 0 where
  Build : Compiling → (out file : Text) → Command
  Check : (loops : Bool) → Text → Command
  Lists : (loops : Bool) → (piece : ℕ) → Text → Command
  Mean : Bounded → Text → Command
  Replay : Replayed → List Text → Command
  Run : Started → List Text → Command
  Live : Started → Text → Command

-- these are digits, one or more, and their number has at most 64 bits
abbrev pub is_number : Text → Bool
is_number text = list_all (λ byte. nat_lt (digit_value byte) 10) text && (nat_lt 0 (length text) && nat_lt (digits_value 10 text) (2 ^ 64))

-- the text begins with a plus, which is no digit
abbrev pub is_signed : Text → Bool
is_signed text = option_map_or (λ byte. byte == 43) (slice_get text 0) false

-- the number that the text writes, without a sign
abbrev pub number_in : Text → Option ℕ
number_in text = cond (is_number text) (Some (digits_value 10 text)) None

-- ... where it is below 2^32
abbrev pub short_number_in : Text → Option ℕ
short_number_in text = option_and_then (λ n. cond (nat_lt n (2 ^ 32)) (Some n) None) (number_in text)

-- the number of an option, as it is read, or this where the option is left out
abbrev pub number_or : (Text → Option ℕ) → ℕ → Option Text → Option ℕ
number_or read default None = Some default
number_or read default (Some text) = read text

-- the number of this option among the rows, which is below 2^32
abbrev pub short_option : Text → ℕ → List Row → Option ℕ
short_option name default rows = number_or short_number_in default (first_of name rows)

-- whether the option of this name, which has no value, is among the rows
abbrev pub has_flag : Text → List Row → Bool
has_flag name rows = option_map_or (λ text. bytes_eq text (codes "true")) (first_of name rows) false

-- whether contracts are checked
abbrev pub has_checks : List Row → Bool
has_checks rows = has_flag (codes "checks") rows

-- level 0 is the language without `break` and `continue`, level 1 that with them, and there is no other
abbrev pub level_of : ℕ → Option Bool
level_of n = cond (n == 0) (Some false) (cond (n == 1) (Some true) None)

-- the level of the rows, 0 where they tell none
abbrev pub level_in : List Row → Option Bool
level_in rows = option_and_then level_of (short_option (codes "level") 0 rows)

-- how the rows say that texts are taken
abbrev pub texts_in : List Row → Option Texts
texts_in rows = option_map (λ l. record { loops = l; checks = has_checks rows }) (level_in rows)

-- how many cells pieces have by the rows, 64 where they tell no number; there are pieces of five sizes
abbrev pub piece_in : List Row → Option ℕ
piece_in rows = option_and_then (λ n. cond (is_piece n) (Some n) None) (short_option (codes "piece") 64 rows)

-- how the rows say that code is made of texts
abbrev pub compiling_in : List Row → Option Compiling
compiling_in rows = option_and_then (λ t. option_map (λ p. record { texts = t; piece = p }) (piece_in rows)) (texts_in rows)

-- the turns of the rows
abbrev pub turns_in : List Row → Option ℕ
turns_in rows = option_and_then number_in (first_of (codes "turns") rows)

-- the MiB of the rows, 0 where they tell none
abbrev pub limit_in : List Row → Option ℕ
limit_in rows = short_option (codes "memory") 0 rows

-- how the rows say that a text is run plainly
abbrev pub bound_in : List Row → Option Bounded
bound_in rows =
    option_and_then (λ t. option_and_then (λ n. option_map (λ m. record { texts = t; turns = n; explains = has_flag (codes "where") rows; limit = m })
    (limit_in rows)) (turns_in rows)) (texts_in rows)

-- the plain run of this file
abbrev pub mean_command : List Row → Text → Option Command
mean_command rows file = option_map (λ asked. Mean asked file) (bound_in rows)

-- the image of this file, written to the file of the rows
abbrev pub build_command : List Row → Text → Option Command
build_command rows file = option_and_then (λ c. option_map (λ out. Build c out file) (first_of (codes "out") rows)) (compiling_in rows)

-- the listing of this file
abbrev pub list_command : List Row → Text → Option Command
list_command rows file = option_and_then (λ l. option_map (λ p. Lists l p file) (piece_in rows)) (level_in rows)

-- the memory of the rows: 64 frames and 65,536 objects where they tell no other number, and no failing call
abbrev pub memory_in : List Row → Option Memory
memory_in rows =
    option_and_then (λ f. option_and_then (λ n. option_map (λ k. record { frames = f; objects = n; store = first_of (codes "store") rows; fail_from = k })
    (number_or number_in 0 (first_of (codes "fail-from") rows))) (short_option (codes "objects") 65536 rows)) (short_option (codes "frames") 64 rows)

-- the work of the rows: 4 threads and 1,000 instructions where they tell no other number
abbrev pub work_in : List Row → Option Work
work_in rows = option_and_then (λ w. option_map (λ n. record { workers = w; quantum = n }) (short_option (codes "quantum") 1000 rows)) (short_option (codes "workers") 4 rows)

-- how the rows say that programs are run: beside one evacuator and one fetcher where they tell no other number
abbrev pub started_in : List Row → Option Started
started_in rows =
    option_and_then (λ c. option_and_then (λ m. option_and_then (λ e. option_and_then (λ q. option_and_then (λ w. option_map (λ l. record { compiling = c; memory = m; evacuators = e; fetchers = q; work = w; stats = has_flag (codes "stats") rows; explains = has_flag (codes "where") rows; limit = l })
    (limit_in rows)) (work_in rows)) (short_option (codes "fetchers") 1 rows)) (short_option (codes "evacuators") 1 rows)) (memory_in rows)) (compiling_in rows)

-- the run of the files of the rows, whose output is written when all have ended
abbrev pub whole_command : List Row → Option Command
whole_command rows = option_and_then (λ asked. option_map (λ files. Run asked files) (all_of (codes "file") rows)) (started_in rows)

-- the run of one file, whose output is written as it comes; there is none of several
abbrev pub live_of : Started → List Text → Option Command
live_of asked [] = None
live_of asked (f ∷ []) = Some (Live asked f)
live_of asked (f ∷ g ∷ fs) = None

-- ... of the one file of the rows
abbrev pub live_command : List Row → Option Command
live_command rows = option_and_then (λ asked. option_and_then (live_of asked) (all_of (codes "file") rows)) (started_in rows)

-- the run of the rows
abbrev pub run_command : List Row → Option Command
run_command rows = cond (has_flag (codes "live") rows) (live_command rows) (whole_command rows)

-- how the rows say that programs are replayed: with one evacuator and one fetcher where they tell no other number
abbrev pub replayed_in : List Row → Option Replayed
replayed_in rows =
    option_and_then (λ c. option_and_then (λ m. option_and_then (λ e. option_and_then (λ q. option_and_then (λ w. option_map (λ s. record { compiling = c; memory = m; evacuators = e; fetchers = q; work = w; schedule = s })
    (first_of (codes "schedule") rows)) (work_in rows)) (short_option (codes "fetchers") 1 rows)) (short_option (codes "evacuators") 1 rows)) (memory_in rows)) (compiling_in rows)

-- the replay of the files of the rows
abbrev pub replay_command : List Row → Option Command
replay_command rows = option_and_then (λ asked. option_map (λ files. Replay asked files) (all_of (codes "file") rows)) (replayed_in rows)

-- the command of this name, with the other rows and with this file
abbrev pub named_command : Text → List Row → Text → Option Command
named_command name rows file =
    cond (bytes_eq name (codes "build")) (build_command rows file)
    (cond (bytes_eq name (codes "check")) (option_map (λ l. Check l file) (level_in rows))
    (cond (bytes_eq name (codes "list")) (list_command rows file)
    (cond (bytes_eq name (codes "mean")) (mean_command rows file) None)))

-- the command that clap found, with its rows
abbrev pub command_in : Option (Text × List Row) → Option Command
command_in None = None
command_in (Some p) =
    cond (bytes_eq p.0 (codes "replay")) (replay_command p.1)
    (cond (bytes_eq p.0 (codes "run")) (run_command p.1) (option_and_then (named_command p.0 p.1) (first_of (codes "file") p.1)))

-- how texts are taken, as code has it
abbrev pub texts_of : AskedTexts → Texts
texts_of t = record { loops = has_loops t.level; checks = t.checks }

-- how code is made, as code has it
abbrev pub compiling_of : AskedCompiling → Compiling
compiling_of c = record { texts = texts_of c.texts; piece = cells_in c.piece }

-- a memory as code has it
abbrev pub memory_of : Written → Memory
memory_of m = record { frames = m.frames; objects = m.objects; store = option_map (λ s. s.now) m.store; fail_from = m.fail_from }

-- work as code has it
abbrev pub work_of : AskedWork → Work
work_of w = record { workers = w.workers; quantum = w.quantum }

-- how a text is run plainly, as code has it
abbrev pub bound_of : AskedBound → Bounded
bound_of b = record { texts = texts_of b.texts; turns = b.turns; explains = b.explains; limit = b.limit }

-- a run as code has it
abbrev pub started_of : RunOptions → Started
started_of r = record { compiling = compiling_of r.compiling; memory = memory_of r.memory; evacuators = r.evacuators; fetchers = r.fetchers; work = work_of r.work; stats = r.stats; explains = r.explains; limit = r.limit }

-- a replay as code has it
abbrev pub replayed_of : ReplayOptions → Replayed
replayed_of r = record { compiling = compiling_of r.compiling; memory = memory_of r.memory; evacuators = r.evacuators; fetchers = r.fetchers; work = work_of r.work; schedule = r.schedule.now }

-- a command as code has it
abbrev pub command_of : Line → Command
command_of (line.Build compiling out file) = Build (compiling_of compiling) out.now file.now
command_of (line.Check level file) = Check (has_loops level) file.now
command_of (line.List level piece file) = Lists (has_loops level) (cells_in piece) file.now
command_of (line.Mean asked file) = Mean (bound_of asked) file.now
command_of (line.Replay asked files) = Replay (replayed_of asked) (map (λ f. f.now) files.items)
command_of (line.Run asked files) = Run (started_of asked) (map (λ f. f.now) files.items)
command_of (line.Live asked file) = Live (started_of asked) file.now

-- clap finds no fault in the words, and they are this command, as it reads them
abbrev pub Names : List Text → Command → Type 0
Names words command = (fault_of shell words ≡ []) × (command_in (subcommand_of shell words) ≡ Some command)
