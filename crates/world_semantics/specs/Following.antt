-- A program of the world is where the run of its code is.
use Rattle.std.specs.Prelude.{◌≡◌, ℕ, ◌*◌, ◌%◌, ◌<◌}
use Rattle.code_form.specs.Form.{Image}
use Rattle.code_form.specs.Effects.{code_run}
use Rattle.code_form.specs.Code.{code, cells_of}
use Rattle.code_form.specs.Placed.{object_at}
use Rattle.pointer_word.specs.Sound.{contents}
use Rattle.world_semantics.specs.Programs.{cells_in}
use Rattle.world_semantics.specs.Worlds.{Sizes, World, share}

-- Program k is where the run of its code is after as many instructions as it has completed: in calls, registers, output, allocations and how it has
-- stopped; and each cell of its allocations is what the cell's object contains there, wherever that object is
pub record IsAt (z : Sizes) (images : ℕ → Image) (w : World) (k : ℕ) : Type 0 where
  pub core : (w.programs k).core ≡ (code_run (code (images k)) (w.programs k).completed).0
  pub cell : (r x : ℕ) → x < cells_of (cells_in (w.programs k)) r
      → contents w.lock (object_at z.cells (k * share z) (cells_in (w.programs k)) r x) (x % z.cells) ≡ (code_run (code (images k)) (w.programs k).completed).1 r x
