-- What the grammar sees of a token.
use Rattle.std.specs.Prelude.{ℕ, Bool, false, List, [], drop, map, Option, Some, None}
use Rattle.c0_source.specs.declared.kind.Kind.{Kind}
use Rattle.c0_source.specs.declared.kind.Kind.TheVariants as k
use Rattle.c0_source.specs.Spelling.{Lexeme, text_value, use_of}

-- A name with its letters, a text with its bytes, a `#use` with what it names (true: between `<` and `>`), or another token. Numbers and
-- characters carry their value in the kind.
pub data Terminal : Type 0 where
  Word : List ℕ → Terminal
  Text : List ℕ → Terminal
  Use : Bool → List ℕ → Terminal
  Sign : Kind → Terminal

-- the bytes, or none
abbrev pub or_empty : Option (List ℕ) → List ℕ
or_empty None = []
or_empty (Some bs) = bs

-- what a `#use` names, as a terminal
abbrev pub use_terminal : Option (Bool × List ℕ) → Terminal
use_terminal None = Use false []
use_terminal (Some x) = Use x.0 x.1

-- a terminal from a kind and the bytes of a token
abbrev pub terminal_by : Kind → List ℕ → Terminal
terminal_by k.Name text = Word text
terminal_by k.Text text = Text (or_empty (text_value false (drop 1 text)))
terminal_by k.Use text = use_terminal (use_of (drop 1 text))
terminal_by kind _ = Sign kind

-- what the grammar sees of a token
abbrev pub terminal : Lexeme → Terminal
terminal t = terminal_by t.kind t.text

-- what the grammar sees of tokens
abbrev pub terminals : List Lexeme → List Terminal
terminals ts = map terminal ts
