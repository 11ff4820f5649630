-- The image of a program.
use Rattle.std.specs.Prelude.{ℕ, Bool}
use Rattle.c0_typed.specs.declared.tree.Typed.{Typed}
use Rattle.code_form.specs.Form.{Image}
use Rattle.lower_tables.specs.Gathered.{singles_of}
use Rattle.lower.specs.Lowered.{lowered}
use Rattle.scope_placement.specs.Placed.{placed_program}
use Rattle.guard_hoisting.specs.Hoisted.{hoisted_program}
use Rattle.prefetch_pass.specs.Prefetched.{prefetched_program}
use Rattle.codegen.specs.Generated.{generated}

-- the image of a typed tree, with its contracts checked or not, for pieces of so many cells: that of its structured code with scopes placed, with those of its loops opened before them,
-- and with hints where a loop only raises an index
abbrev pub image_of_tree : (checks : Bool) → (cells : ℕ) → Typed → Image
image_of_tree checks cells typed = generated cells (prefetched_program cells (hoisted_program (placed_program (lowered (singles_of typed) checks typed))))
