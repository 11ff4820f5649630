use Rattle.std.proofs.Common.{◌≡◌, ℕ, take}
use Rattle.std.specs.Prelude.{nat_eq}
use Rattle.std.specs.HashMap.{get}
use Rattle.prefetch_pass.specs.Gathered.{changes_among, each_of, is_marked, raises}
use Rattle.prefetch_pass.proofs.tables.raises_among.Given as goal

-- so it is of the assignments so far
abbrev pub invariant-loop-place : goal.invariant-loop-place
invariant-loop-place l = (r : ℕ) → get nat_eq l.raises r ≡ each_of (raises (is_marked l.steps) (get nat_eq l.sums) r) (changes_among r (take l.place l.assignments))
