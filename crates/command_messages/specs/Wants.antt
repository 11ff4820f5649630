-- What is told of programs that wanted something.
use Rattle.std.specs.Prelude.{◌≡◌, ℕ, suc, ◌==◌, ◌/◌, Bool, true, false, not, ◌||◌, cond, List, [], ◌∷◌, ◌++◌, Option, Some, None, codes, decimal}
use Rattle.cells.specs.declared.ending.Run.{Run}
use Rattle.cells.specs.declared.ending.Run.TheVariants.{Running, Stopped, Wanted}
use Rattle.cells.specs.declared.ending.Want.TheVariants.{OutOfMemory, NoObjects, StoreFailed}
use Rattle.executor.specs.declared.counts.MoverCounts.{MoverCounts}
use Rattle.memory_limit.specs.Limits.{use_word}
use Rattle.memory_limit.specs.declared.limit.MemoryUse.{MemoryUse}
use Rattle.program_run.specs.declared.run.Finished.{Finished}
use Rattle.remote_store.specs.declared.port.Cause.{Cause}
use Rattle.remote_store.specs.declared.port.Cause.TheVariants as cause
use Rattle.remote_store.specs.declared.port.RefusedCall.{RefusedCall}
use Rattle.remote_store.specs.declared.port.RefusedCall.TheVariants as call
use Rattle.streams.specs.Streams.{IsQuiet, Says, Writes}
use Rattle.command_messages.specs.Shown.{newline}
use Rattle.command_messages.specs.Stats.{stats_text}

-- why the store failed, as far as it tells
abbrev pub shown_cause : Cause → List ℕ
shown_cause cause.Untold = []
shown_cause cause.NotFound = codes ": no such file or folder"
shown_cause cause.Denied = codes ": permission denied"
shown_cause cause.Full = codes ": no room is left"
shown_cause cause.NotRegular = codes ": not a regular file"
shown_cause cause.OtherLength = codes ": not as long as it was written"

-- a put of this object that was refused
unfoldable pub shown_put : ℕ → List ℕ
shown_put o = codes "cannot write object " ++ decimal o

-- a get of this object that was refused
unfoldable pub shown_get : ℕ → List ℕ
shown_get o = codes "cannot read object " ++ decimal o

-- a call of the store that was refused, its object, and why
abbrev pub shown_call : RefusedCall → List ℕ
shown_call (call.Put o why) = shown_put o ++ shown_cause why
shown_call (call.Get o why) = shown_get o ++ shown_cause why
shown_call (call.Wrong o) = codes "object " ++ (decimal o ++ codes " is not as it was written")

-- the last call that was refused; where none was, the store gave back other cells than were put there
abbrev pub shown_last : Option RefusedCall → List ℕ
shown_last None = codes "gave back other cells than were written"
shown_last (Some one) = shown_call one

-- the end of the line of a program for which the store failed
abbrev pub shown_failure : Option RefusedCall → List ℕ
shown_failure last = shown_last last ++ newline

-- the line of program number k for which the store failed
abbrev pub failure_line : ℕ → Option RefusedCall → List ℕ
failure_line k last = (codes "program " ++ (decimal k ++ codes ": store: ")) ++ shown_failure last

-- the line of program number k, which wanted more objects than its share has beside those that it had allocated
abbrev pub objects_line : (k share used : ℕ) → List ℕ
objects_line k share used = codes "program " ++ (decimal k ++ (codes ": no objects: " ++ (decimal used ++ (codes " of " ++ (decimal share ++ (codes " are in use" ++ newline))))))

-- the line of program number k, for which the system refused memory
abbrev pub memory_line : ℕ → List ℕ
memory_line k = codes "program " ++ (decimal k ++ (codes ": out of memory: the system refused more" ++ newline))

-- the line of program number k, of which this took more than so many MiB
abbrev pub passed_line : ℕ → MemoryUse → (limit : ℕ) → List ℕ
passed_line k taker limit = codes "program " ++ (decimal k ++ (codes ": " ++ (use_word taker ++ (codes " took more than " ++ (decimal limit ++ (codes " MiB" ++ newline))))))

-- the line of program number k, for which memory was refused: because this passed the limit, or by the system
abbrev pub refused_line : (k limit : ℕ) → Option MemoryUse → List ℕ
refused_line k limit None = memory_line k
refused_line k limit (Some taker) = passed_line k taker limit

-- the line of program number k, where it wanted memory as it passed the limit
abbrev pub limit_line : (k limit : ℕ) → Run → Option MemoryUse → List ℕ
limit_line k limit Running passed = []
limit_line k limit (Stopped x) passed = []
limit_line k limit (Wanted OutOfMemory) None = []
limit_line k limit (Wanted OutOfMemory) (Some taker) = passed_line k taker limit
limit_line k limit (Wanted NoObjects) passed = []
limit_line k limit (Wanted StoreFailed) passed = []

-- the line of program number k, of whose share so many objects are in use, where it ended so: none, where it wants nothing
abbrev pub shown_want : (k limit share used : ℕ) → Option RefusedCall → Option MemoryUse → Run → List ℕ
shown_want k limit share used last passed Running = []
shown_want k limit share used last passed (Stopped x) = []
shown_want k limit share used last passed (Wanted OutOfMemory) = refused_line k limit passed
shown_want k limit share used last passed (Wanted NoObjects) = objects_line k share used
shown_want k limit share used last passed (Wanted StoreFailed) = failure_line k last

-- the line of program number k
unfoldable pub want_line : (k limit share : ℕ) → Finished → List ℕ
want_line k limit share f = shown_want k limit share f.counts.objects f.refusals.last f.counts.passed f.end.run

-- the lines of several, from number k on
abbrev pub want_lines : (k limit share : ℕ) → List Finished → List ℕ
want_lines k limit share [] = []
want_lines k limit share (f ∷ fs) = want_line k limit share f ++ want_lines (suc k) limit share fs

-- the lines of those among several that wanted memory as they passed the limit
abbrev pub limit_lines : (k limit : ℕ) → List Finished → List ℕ
limit_lines k limit [] = []
limit_lines k limit (f ∷ fs) = limit_line k limit f.end.run f.counts.passed ++ limit_lines (suc k) limit fs

-- a line for each program that wanted something, where that is asked for, else for each that passed the limit
abbrev pub wants_text : (explains : Bool) → (limit share : ℕ) → List Finished → List ℕ
wants_text true limit share programs = want_lines 0 limit share programs
wants_text false limit share programs = limit_lines 0 limit programs

-- lines of programs are told where that is asked for, or there is a limit
abbrev pub has_lines : (explains : Bool) → (limit : ℕ) → Bool
has_lines explains limit = explains || not (limit == 0)

-- how many objects each of so many programs has
abbrev pub share_of : (objects count : ℕ) → ℕ
share_of objects count = cond (count == 0) 0 (objects / count)

-- These lines and this table were told, if they were to be, and the command answers so, or one write failed, and it answers 2; where neither was, nothing was told
abbrev pub TellsLines : (lines stats : Bool) → (text table : List ℕ) → Writes → ℕ → ℕ → Type 0
TellsLines false false text table err status result = (result ≡ status) × IsQuiet err
TellsLines false true text table err status result = Says err table status result
TellsLines true false text table err status result = Says err text status result
TellsLines true true text table err status result = Says err (text ++ table) status result

-- what was asked for beside the ends was told, first what programs wanted, or that they passed the limit of so many MiB, and then the table
abbrev pub TellsMore : (explains stats : Bool) → (limit share : ℕ) → List Finished → List MoverCounts → (took : Option ℕ) → Writes → ℕ → ℕ → Type 0
TellsMore explains stats limit share programs movers took err status result =
    TellsLines (has_lines explains limit) stats (wants_text explains limit share programs) (stats_text programs movers took) err status result
