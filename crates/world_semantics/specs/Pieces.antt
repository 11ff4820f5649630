-- The pieces of the programs of a system.
use Rattle.std.specs.Prelude.{◌≡◌, ℕ, ◌<◌}
use Rattle.code_form.specs.Form.{Image}

-- how many cells the pieces of programs have, where they have one size: as many as those of the first one
abbrev pub piece_of : (ℕ → Image) → ℕ
piece_of images = (images 0).piece

-- the pieces of so many programs have one size
abbrev pub HaveOnePiece : (ℕ → Image) → ℕ → Type 0
HaveOnePiece images programs = (k : ℕ) → k < programs → (images k).piece ≡ piece_of images
