-- What memory a program may take.
use Rattle.std.specs.Prelude.{ℕ, ◌==◌, ◌*◌, ◌-◌, ◌^◌, List, cond, codes}
use Rattle.memory_limit.specs.declared.limit.MemoryUse.{MemoryUse}
use Rattle.memory_limit.specs.declared.limit.MemoryUse.TheVariants.{Calls, Output, Heap}

-- the word for what takes memory
abbrev pub use_word : MemoryUse → List ℕ
use_word Calls = codes "calls"
use_word Output = codes "output"
use_word Heap = codes "heap"

-- how many bytes a limit of so many MiB is; 0 of them are no limit, which is as many as a number of 64 bits tells
abbrev pub bytes_of : ℕ → ℕ
bytes_of mebibytes = cond (mebibytes == 0) (2 ^ 64 - 1) (mebibytes * 1048576)
