-- How a statement leaves what stands round it: by how many loops and blocks, and one more.
use Rattle.std.specs.Prelude.{suc, Bool, true, false, ◌||◌}
use Rattle.c0_typed.specs.declared.tree.Statement.{Statement, Row_of-Statement, end_of-Statement, more_of-Statement, Block', If', Loop', Continue}
use Rattle.lower.specs.declared.exits.Exits.{Exits}

-- the exits of a statement by their name in definitions, since crates above have no other
abbrev pub WaysOut : Type 0
WaysOut = Exits

-- those of the body of a function: each leads behind the block round it
abbrev pub whole : Exits
whole = record { returns = 0; breaks = 0; continues = 0 }

-- with one loop more round the statement
abbrev pub deeper : Exits → Exits
deeper e = record { returns = suc e.returns; breaks = suc e.breaks; continues = suc e.continues }

-- those of the body of a loop, which stands in a block where it has a `continue`
abbrev pub inside : Bool → Exits → Exits
inside true e = record { returns = suc (suc e.returns); breaks = 1; continues = 0 }
inside false e = record { returns = suc e.returns; breaks = 0; continues = 0 }

abbrev mutual
  -- whether a statement has a `continue` that is not one of a loop in it
  pub has_continue : Statement → Bool
  has_continue Continue = true
  has_continue (Block' shape all) = some_continue all
  has_continue (If' a p b q s) = has_continue b || has_continue s
  has_continue (Loop' invariants a p body q step) = has_continue step
  has_continue _ = false

  -- whether one of the statements of a block has
  pub some_continue : {n : _} → Row_of-Statement n → Bool
  some_continue end_of-Statement = false
  some_continue (more_of-Statement a rest) = has_continue a || some_continue rest
