-- How the tokens of a text end.
use Rattle.std.specs.Prelude.{◌≡◌, ℕ, List, [], ◌∷◌, ◌++◌}
use Rattle.c0_source.specs.Spelling.{Lexeme, end_at}

-- the last token is the one of no bytes at the end of the text
pub record IsEnded (tokens : List Lexeme) : Type 0 where
  pub before : List Lexeme
  pub at : ℕ
  pub whole : tokens ≡ before ++ end_at at ∷ []
