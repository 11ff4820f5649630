-- What is shown.
use Rattle.std.specs.Prelude.{◌≡◌, ◌⊎◌, ℕ, suc, ◌+◌, ◌-◌, ◌==◌, max, min, Bool, true, false, not, List, [], ◌∷◌, ◌++◌, length, take, count_by, Option, Some, None, slice_get, codes, cond, decimal}
use Rattle.cells.specs.declared.ending.Ended.{Ended}
use Rattle.cells.specs.Lines.{run_line}
use Rattle.cells.specs.Outcomes.{Meant}
use Rattle.cells.specs.Stops.{Stop}
use Rattle.c0_meaning.specs.declared.pending.Numbers.{Numbers}
use Rattle.c0_meaning.specs.declared.pending.Numbers.TheVariants as numbers
use Rattle.c0_source.specs.declared.fault.Fault.{Fault}
use Rattle.c0_source.specs.FaultLines.{fault_line}
use Rattle.c0_source.specs.Lines.{BeginsLine}
use Rattle.std.specs.Fmt.{signed_decimal}
use Rattle.clap.specs.Words.{Text}
use Rattle.command_messages.specs.MeantLines.{end_line, last_line}
use Rattle.command_messages.specs.Statuses.{ended_status, run_status}
use Rattle.streams.specs.Streams.{IsQuiet, Says, Writes}

-- the end of a line
abbrev pub newline : List ℕ
newline = 10 ∷ []

-- the last byte is there, and is no newline
abbrev pub is_open_at : Option ℕ → Bool
is_open_at None = false
is_open_at (Some byte) = not (byte == 10)

-- these bytes end in an unfinished line
abbrev pub is_open : List ℕ → Bool
is_open bytes = is_open_at (slice_get bytes (length bytes - 1))

-- behind what a program printed: its last line is finished, and then comes the line of its end
abbrev pub shown_rest : Ended → List ℕ
shown_rest e = cond (is_open e.output.items) newline [] ++ (run_line e.run ++ newline)

-- what a program printed, with its last line finished, and then the line of its end
abbrev pub shown_end : Ended → List ℕ
shown_end e = e.output.items ++ shown_rest e

-- the end of program number k, of several
abbrev pub shown_program : ℕ → Ended → List ℕ
shown_program k e = codes "program " ++ (decimal k ++ (codes ":" ++ (newline ++ shown_end e)))

-- those of several programs, from number k on
abbrev pub shown_from : ℕ → List Ended → List ℕ
shown_from k [] = []
shown_from k (e ∷ es) = shown_program k e ++ shown_from (suc k) es

-- the ends of programs: that of one alone without a number
abbrev pub shown_ends : List Ended → List ℕ
shown_ends [] = []
shown_ends (e ∷ []) = shown_end e
shown_ends (e ∷ (f ∷ es)) = shown_from 0 (e ∷ (f ∷ es))

-- the status of programs that have ended so: that of a want before that of a stop otherwise than by a result, and that before 0
abbrev pub ends_status : List Ended → ℕ
ends_status [] = 0
ends_status (e ∷ es) = max (run_status e.run) (ends_status es)

-- what a program printed within its turns, with its last line finished, and then the line of its stop, or that it was cut
abbrev pub shown_meaning : Meant → List ℕ
shown_meaning m = m.output ++ (cond (is_open m.output) newline [] ++ (last_line m.stop ++ newline))

-- the line of a fault in a file: FILE:LINE:COLUMN: fault NUMBER NAME
abbrev pub shown_fault : Text → ℕ → ℕ → Fault → List ℕ
shown_fault file line column fault = file ++ (codes ":" ++ (decimal line ++ (codes ":" ++ (decimal column ++ (codes ": " ++ (fault_line fault ++ newline))))))

-- the numbers that stopped a program
abbrev pub shown_numbers : Option Numbers → List ℕ
shown_numbers None = []
shown_numbers (Some (numbers.Index index length)) = codes " (index " ++ (signed_decimal index ++ (codes ", length " ++ (decimal length ++ codes ")")))
shown_numbers (Some (numbers.Length length)) = codes " (length " ++ (signed_decimal length ++ codes ")")

-- the line of a program that stopped so in a file's text, and by these numbers: FILE:LINE:COLUMN: and how
abbrev pub shown_stop : Text → ℕ → ℕ → Stop → Option Numbers → List ℕ
shown_stop file line column stop by = (file ++ (codes ":" ++ (decimal line ++ (codes ":" ++ (decimal column ++ (codes ": " ++ end_line stop)))))) ++ (shown_numbers by ++ newline)

-- a place in a text stands in this line, at this column, both counted from 1
abbrev pub StandsAt : List ℕ → ℕ → ℕ → ℕ → Type 0
StandsAt text at line column = (line ≡ count_by (λ b. b == 10) (take at text) + 1)
    × ((start : ℕ) × BeginsLine text (min at (length text)) start × (column ≡ min at (length text) - start + 1))

-- the program of a file's text stopped so in its plain run, and not by a result: the line of that is told, by the line and column of a place; and the command answers so, or one
-- write failed, and it answers 2
pub record IsPlaced (file : Text) (text : List ℕ) (stop : Option Stop) (err : Writes) (status result : ℕ) : Type 0 where
  pub by : Stop
  pub is : stop ≡ Some by
  pub other : ended_status stop ≡ 1
  pub at : ℕ
  pub line : ℕ
  pub column : ℕ
  pub stands : StandsAt text at line column
  pub numbers : Option Numbers
  pub told : Says err (shown_stop file line column by numbers) status result

-- nothing is told of a plain run, or where it stopped
abbrev pub TellsPlace : Text → List ℕ → Option Stop → Writes → (status result : ℕ) → Type 0
TellsPlace file text stop err status result = ((result ≡ status) × IsQuiet err) ⊎ IsPlaced file text stop err status result

-- the same where it was asked for, and else nothing is told
abbrev pub TellsWhere : (explains : Bool) → Text → List ℕ → Option Stop → Writes → (status result : ℕ) → Type 0
TellsWhere false file text stop err status result = (result ≡ status) × IsQuiet err
TellsWhere true file text stop err status result = TellsPlace file text stop err status result

-- the line of the function that was called last where calls passed the limit of memory: FILE:LINE:COLUMN: and its name
abbrev pub call_line : Text → ℕ → ℕ → Text → List ℕ
call_line file line column name = file ++ (codes ":" ++ (decimal line ++ (codes ":" ++ (decimal column ++ (codes ": the last call was of " ++ (name ++ newline))))))

-- that line is told, by the line and column of a place; and the command answers so, or one write failed, and it answers 2
pub record IsCalled (file : Text) (text : List ℕ) (err : Writes) (status result : ℕ) : Type 0 where
  pub at : ℕ
  pub line : ℕ
  pub column : ℕ
  pub stands : StandsAt text at line column
  pub name : List ℕ
  pub told : Says err (call_line file line column name) status result

-- where it is asked for, it may be told which function was called last, and else nothing is
abbrev pub TellsCall : (explains : Bool) → Text → List ℕ → Writes → (status result : ℕ) → Type 0
TellsCall false file text err status result = (result ≡ status) × IsQuiet err
TellsCall true file text err status result = ((result ≡ status) × IsQuiet err) ⊎ IsCalled file text err status result
