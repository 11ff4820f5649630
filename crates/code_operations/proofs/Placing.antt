-- A cell that may be there, as code and the definitions hold it.
use Rattle.std.proofs.Common.{◌≡◌, ℕ, Option, Some, None, refl}
use Rattle.code_form.specs.declared.touch.Cell.{Cell}
use Rattle.code_form.specs.Touches.{cell_option}
use Rattle.code_operations.specs.Commands.{place_of}

pub place_back : (w : Option (ℕ × ℕ)) → place_of (cell_option w) ≡ w
place_back None = refl
place_back (Some a) = refl

pub cell_back : (a : Option Cell) → cell_option (place_of a) ≡ a
cell_back None = refl
cell_back (Some a) = refl
