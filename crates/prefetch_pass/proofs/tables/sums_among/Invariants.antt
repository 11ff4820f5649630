use Rattle.std.proofs.Common.{◌≡◌, ℕ, map, take}
use Rattle.std.specs.Prelude.{nat_eq}
use Rattle.std.specs.HashMap.{get}
use Rattle.prefetch_pass.specs.Gathered.{changes_among, adds_to, common, is_marked}
use Rattle.prefetch_pass.proofs.tables.sums_among.Given as goal

-- so it is of the assignments so far
abbrev pub invariant-loop-place : goal.invariant-loop-place
invariant-loop-place l = (r : ℕ) → get nat_eq l.sums r ≡ common (map (adds_to (is_marked l.steps)) (changes_among r (take l.place l.assignments)))
