-- What a cursor is worth.
use Rattle.std.specs.Prelude.{List}
use Rattle.std.specs.declared.alloc.Global.{Global}
use Rattle.c0_source.specs.Terminals.{Terminal}
use Rattle.c0_grammar_laws.specs.Places.{Position}

-- what the grammar sees of the tokens that are left, the position before them, and where memory for what is read comes from
pub record Remaining : Type 0 where
  pub seen : List Terminal
  pub position : Position
  pub alloc : Global
