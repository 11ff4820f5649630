use Rattle.std.proofs.Common.{◌≡◌, ℕ, take}
use Rattle.std.specs.Prelude.{nat_eq}
use Rattle.std.specs.HashMap.{get}
use Rattle.prefetch_pass.specs.Gathered.{changes_among, each_of}
use Rattle.prefetch_pass.specs.Raised.{is_positive}
use Rattle.prefetch_pass.proofs.tables.steps_among.Given as goal

-- so it is of the assignments so far
abbrev pub invariant-loop-place : goal.invariant-loop-place
invariant-loop-place l = (r : ℕ) → get nat_eq l.steps r ≡ each_of is_positive (changes_among r (take l.place l.assignments))
