-- The table of what was counted.
use Rattle.std.specs.Prelude.{ℕ, suc, List, [], ◌∷◌, ◌++◌, Option, Some, None, codes, decimal}
use Rattle.executor.specs.declared.counts.Evacuated.{Evacuated}
use Rattle.executor.specs.declared.counts.Fetched.{Fetched}
use Rattle.executor.specs.declared.counts.MoverCounts.{MoverCounts}
use Rattle.executor.specs.declared.counts.MoverCounts.TheVariants as mover
use Rattle.program_run.specs.declared.run.Finished.{Finished}
use Rattle.command_messages.specs.Shown.{newline}

-- of program number k: how many instructions it completed, how many turns it had, how many objects it allocated, and in how many frames these were seen at most
abbrev pub shown_work : ℕ → Finished → List ℕ
shown_work k f = codes "program " ++ (decimal k ++ (codes ": instructions " ++ (decimal f.end.completed ++ (codes ", turns " ++ (decimal f.turns ++ (codes ", objects " ++ (decimal f.counts.objects ++ (codes ", frames " ++ decimal f.counts.frames))))))))

-- how many pieces its scopes opened, how many objects it brought in by itself, and how many it moved out, which it put into the store, or which were clean
abbrev pub shown_moves : Finished → List ℕ
shown_moves f = codes ", opened " ++ (decimal f.counts.opened ++ (codes ", brought " ++ (decimal f.counts.brought ++ (codes ", written " ++ (decimal f.counts.written ++ (codes ", left " ++ decimal f.counts.left))))))

-- how many calls of the store it made, and how many of them were refused; how many hints it gave, and how many of them were dropped
abbrev pub shown_calls : Finished → List ℕ
shown_calls f = codes ", calls " ++ (decimal f.counts.calls ++ (codes ", failed " ++ (decimal f.refusals.count ++ (codes ", hints " ++ (decimal f.counts.hints ++ (codes ", dropped " ++ (decimal f.counts.dropped ++ newline)))))))

-- what it did beside its instructions
abbrev pub shown_others : Finished → List ℕ
shown_others f = shown_moves f ++ shown_calls f

-- the line of program number k
unfoldable pub program_line : ℕ → Finished → List ℕ
program_line k f = shown_work k f ++ shown_others f

-- the lines of several, from number k on
abbrev pub program_lines : ℕ → List Finished → List ℕ
program_lines k [] = []
program_lines k (f ∷ fs) = program_line k f ++ program_lines (suc k) fs

-- the line of evacuator number k: how many rounds it made, how many objects left, and how many stayed, as they were used meanwhile, or as the store failed
abbrev pub evacuator_line : ℕ → Evacuated → List ℕ
evacuator_line k e =
    codes "evacuator " ++ (decimal k ++ (codes ": rounds " ++ (decimal e.rounds ++ (codes ", left " ++ (decimal e.left ++ (codes ", aborted " ++ (decimal e.aborted ++ (codes ", failed " ++ (decimal e.failed ++ newline)))))))))

-- the line of fetcher number k: how many objects it brought in, how many hints it let go, and how many objects stayed as the store failed
abbrev pub fetcher_line : ℕ → Fetched → List ℕ
fetcher_line k x = codes "fetcher " ++ (decimal k ++ (codes ": brought " ++ (decimal x.brought ++ (codes ", dropped " ++ (decimal x.dropped ++ (codes ", failed " ++ (decimal x.failed ++ newline)))))))

-- the lines of movers: evacuators are numbered from e on, and fetchers from q on
abbrev pub mover_lines : (e q : ℕ) → List MoverCounts → List ℕ
mover_lines e q [] = []
mover_lines e q (mover.Evacuates x ∷ ms) = evacuator_line e x ++ mover_lines (suc e) q ms
mover_lines e q (mover.Fetches x ∷ ms) = fetcher_line q x ++ mover_lines e (suc q) ms

-- the line of how many milliseconds the run took, if a clock told it
abbrev pub time_line : Option ℕ → List ℕ
time_line None = []
time_line (Some took) = codes "time: " ++ (decimal took ++ (codes " ms" ++ newline))

-- the table: a line for each program, then one for each mover, and then the time
abbrev pub stats_text : List Finished → List MoverCounts → Option ℕ → List ℕ
stats_text programs movers took = program_lines 0 programs ++ (mover_lines 0 0 movers ++ time_line took)
