-- How many frames programs, evacuators and fetchers may need at once.
use Rattle.std.specs.Prelude.{◌≡◌, ◌⊎◌, ℕ, zero, suc, ◌+◌, ◌<◌, Bool}
use Rattle.code_form.specs.Form.{Image}
use Rattle.code_form.specs.Code.{most_scopes}
use Rattle.pointer_word.specs.Words.{Here, counted}
use Rattle.pointer_word.specs.Machine.{State}
use Rattle.world_semantics.specs.Worlds.{Sizes}

-- the scopes of the programs below k, of each as many as its function with the most has
abbrev pub scopes_below : (ℕ → Image) → ℕ → ℕ
scopes_below images zero = 0
scopes_below images (suc k) = scopes_below images k + most_scopes (images k).functions

-- a frame for each scope of a program, and one for each evacuator and each fetcher
abbrev pub need : Sizes → (ℕ → Image) → ℕ
need z images = scopes_below images z.programs + z.evacuators + z.fetchers

-- the frame is free, or one of the objects is in it that has no hold and is in no mover's hands
abbrev pub IsUnheld : Sizes → State → ℕ → Type 0
IsUnheld z s f = (s.frame f ≡ 0) ⊎ ((o : ℕ) × (o < z.objects) × (k : Bool) × (s.word o ≡ counted 0 (Here f k)))
