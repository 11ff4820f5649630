-- Where `break` and `continue` may stand.
use Rattle.std.specs.Prelude.{◌≡◌, Bool, true, false, ◌&&◌}
use Rattle.std.specs.List.{list_all}
use Rattle.c0_syntax.specs.Trees.{Statement, Block, If, IfElse, While, For, Break, Continue, Statements, nothing, also, Declaration, DefineFunction, Program}
use Rattle.c0_rules.specs.Programs.{WellTyped}

abbrev mutual
  -- whether each `break` and `continue` in a statement stands in a loop, or the statement itself does
  pub exits_in_loops : (inside : Bool) → Statement → Bool
  exits_in_loops inside Break = inside
  exits_in_loops inside Continue = inside
  exits_in_loops inside (Block rest) = all_exits_in_loops inside rest
  exits_in_loops inside (If c a) = exits_in_loops inside a
  exits_in_loops inside (IfElse c a b) = exits_in_loops inside a && exits_in_loops inside b
  exits_in_loops inside (While c notes a) = exits_in_loops true a
  exits_in_loops inside (For first c third notes a) = exits_in_loops true a
  exits_in_loops inside _ = true

  -- the same of statements in order
  pub all_exits_in_loops : (inside : Bool) → Statements → Bool
  all_exits_in_loops inside nothing = true
  all_exits_in_loops inside (also a rest) = exits_in_loops inside a && all_exits_in_loops inside rest

-- the same of a declaration: a function's body stands in no loop
abbrev pub declared_in_loops : Declaration → Bool
declared_in_loops (DefineFunction h body) = all_exits_in_loops false body
declared_in_loops _ = true

-- in a program that keeps the static rules each `break` and `continue` stands in a loop of its function
abbrev pub ExitsStandInLoops : Type 0
ExitsStandInLoops = (program : Program) → WellTyped program → list_all declared_in_loops program ≡ true
