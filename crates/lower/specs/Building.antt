-- Code of statements and functions under construction, in the words of the definitions.
use Rattle.std.specs.Prelude.{ℕ, ◌+◌, Bool, false, ◌||◌, List, [], ◌∷◌, ◌++◌, length}
use Rattle.c0_typed.specs.Views.{texts_of}
use Rattle.c0_typed.specs.declared.tree.Statement.{Statement}
use Rattle.c0_typed.specs.declared.tree.Function.{Function}
use Rattle.code_form.specs.declared.form.Kind.{Kind}
use Rattle.middle_form.specs.Form as m
use Rattle.lower_expressions.specs.Building.{structs_in}
use Rattle.lower_expressions.specs.declared.context.Context.{Context}
use Rattle.lower.specs.Exits.{has_continue}
use Rattle.lower.specs.Lowered as l
use Rattle.lower.specs.declared.exits.Exits.{Exits}

-- Over the program of a context
module _ (c : Context) where
  -- those of a statement
  abbrev pub stmt_kinds : Statement → List Kind
  stmt_kinds s = l.stmt_kinds (structs_in c) c.singles.now (texts_of c.typed.now) c.typed.now.functions.items c.typed.now.main c.checks s

  -- those of statements in order
  abbrev pub body_kinds : List Statement → List Kind
  body_kinds ss = l.body_kinds (structs_in c) c.singles.now (texts_of c.typed.now) c.typed.now.functions.items c.typed.now.main c.checks ss

  -- that of a statement, left by these exits
  abbrev pub stmt_code : Statement → ℕ → Exits → List m.Code
  stmt_code s d out = l.stmt_code (structs_in c) c.singles.now (texts_of c.typed.now) c.typed.now.functions.items c.typed.now.main c.locals c.checks s d out

  -- the code of statements in order, left by these exits
  abbrev pub block_code : List Statement → ℕ → Exits → List m.Code
  block_code [] d out = []
  block_code (s ∷ rest) d out = stmt_code s d out ++ block_code rest (d + length (stmt_kinds s)) out

  -- the code of a function
  abbrev pub function_code : Function → m.Function
  function_code f = l.function_code (structs_in c) c.singles.now (texts_of c.typed.now) c.typed.now.functions.items c.typed.now.main c.checks f

-- how many locals a function has beside its result
abbrev pub locals_of : Function → ℕ
locals_of f = length f.parameters.items + length f.locals.items

-- whether one of these statements has a `continue` that is not one of a loop in it
abbrev pub any_continue : List Statement → Bool
any_continue [] = false
any_continue (s ∷ rest) = has_continue s || any_continue rest
