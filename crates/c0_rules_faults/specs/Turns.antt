-- What the third part of a `for` sees of what the body assigns.
use Rattle.std.specs.Prelude.{◌≡◌, Bool, false, ◌&&◌, ◌||◌, List, [], ◌∷◌, ◌++◌}
use Rattle.std.specs.List.{list_any}
use Rattle.c0_syntax.specs.Trees.{Statement, Block, If, IfElse, Continue, Statements, nothing, also}
use Rattle.c0_rules.specs.Types.{Name, is_among}
use Rattle.c0_rules.specs.Assignment.{Flow, Ended, Reached, after_statement, after_body}

-- whether some path leads here that has not assigned this local
abbrev pub lacks : Name → Flow → Bool
lacks n Ended = false
lacks n (Reached names) = is_among n names

abbrev mutual
  -- what stands before each `continue` that ends a turn of the loop round this statement; a loop in the statement has its own
  pub turn_ends : Statement → Flow → List Flow
  turn_ends Continue f = f ∷ []
  turn_ends (Block rest) f = turn_ends_among rest f
  turn_ends (If c a) f = turn_ends a f
  turn_ends (IfElse c a b) f = turn_ends a f ++ turn_ends b f
  turn_ends _ f = []

  -- the same of statements in order
  pub turn_ends_among : Statements → Flow → List Flow
  turn_ends_among nothing f = []
  turn_ends_among (also a rest) f = turn_ends a f ++ turn_ends_among rest (after_statement a f)

-- Of the locals that lack a value where a loop's body begins, the third part lacks just those that the body's end lacks, or some `continue` that ends a turn.
abbrev pub ThirdPartSees : Type 0
ThirdPartSees = (body : Statement) (names : List Name) (n : Name)
    → lacks n (after_body body (Reached names)) ≡ (is_among n names && (lacks n (after_statement body (Reached names)) || list_any (lacks n) (turn_ends body (Reached names))))
