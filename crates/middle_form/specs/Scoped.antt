-- The scoped form: structured code that says by which scope it reaches each cell, and where a scope is aimed and left.
use Rattle.std.specs.Prelude.{ℕ, List, Option, map}
use Rattle.code_form.specs.declared.form.Kind.{Kind}
use Rattle.code_form.specs.declared.form.Operation.{Operation}
use Rattle.code_form.specs.Form.{Head}
use Rattle.middle_form.specs.Form as m

-- Code of the middle form, but for loads and stores. A cell is named as there: cell disp of the allocation in register r, or that many behind the
-- offset in `off`
pub data Code : Type 0 where
  -- does nothing
  Nothing : Code
  -- a simple instruction
  Do : Operation → Code
  -- aims scope s at a cell, and a register gets what the cell holds
  Load : (to s r : ℕ) → (off : Option ℕ) → (disp : ℕ) → Code
  -- aims scope s at a cell, and the cell gets what a register holds
  Store : (s r : ℕ) → (off : Option ℕ) → (disp from : ℕ) → Code
  -- a register gets what a cell holds at which scope s was aimed before
  LoadBy : (to s r : ℕ) → (off : Option ℕ) → (disp : ℕ) → Code
  -- such a cell gets what a register holds
  StoreBy : (s r : ℕ) → (off : Option ℕ) → (disp from : ℕ) → Code
  -- aims scope s at a cell, or at nothing where there is no such cell
  Aim : (s r : ℕ) → (off : Option ℕ) → (disp : ℕ) → Code
  -- shuts scope s
  Leave : (s : ℕ) → Code
  -- does nothing, and no instruction comes of it: from here on nothing is known of scope s, open or shut
  Loose : (s : ℕ) → Code
  -- calls a function; a register gets its result, where there is one
  Call : (to : Option ℕ) → (function : ℕ) → (arguments : List ℕ) → Code
  -- stops the program by `error` with the text in a register
  Fail : (a : ℕ) → Code
  -- one behind the other
  Then : Code → Code → Code
  -- the first where register a is true, else the second
  Choose : (a : ℕ) → Code → Code → Code
  -- the test, and while register a is true behind it, the body and the test again
  Loop : (test : Code) → (a : ℕ) → (body : Code) → Code
  -- code that can be left
  Block : Code → Code
  -- leaves this many loops and blocks, and one more
  Exit : ℕ → Code

-- a function; the first registers are its parameters, and behind its code its result stands in a register
pub record Function : Type 0 where
  pub result : Option Kind
  pub parameters : ℕ
  -- of each register
  pub kinds : List Kind
  -- how many scopes it has
  pub scopes : ℕ
  pub body : Code
  pub value : ℕ

-- a program; `main` is its first function
pub record Program : Type 0 where
  pub head : Head
  pub functions : List Function

-- ---- without its scopes

-- code that does the same, and says nothing of scopes
abbrev pub plain : Code → m.Code
plain Nothing = m.Nothing
plain (Do o) = m.Do o
plain (Load to s r off disp) = m.Load to r off disp
plain (Store s r off disp from) = m.Store r off disp from
plain (LoadBy to s r off disp) = m.Load to r off disp
plain (StoreBy s r off disp from) = m.Store r off disp from
plain (Aim s r off disp) = m.Nothing
plain (Leave s) = m.Nothing
plain (Loose s) = m.Nothing
plain (Call to f args) = m.Call to f args
plain (Fail a) = m.Fail a
plain (Then a b) = m.Then (plain a) (plain b)
plain (Choose a b c) = m.Choose a (plain b) (plain c)
plain (Loop test a body) = m.Loop (plain test) a (plain body)
plain (Block a) = m.Block (plain a)
plain (Exit k) = m.Exit k

-- a function
abbrev pub plain_function : Function → m.Function
plain_function g = record { result = g.result; parameters = g.parameters; kinds = g.kinds; body = plain g.body; value = g.value }

-- a program
abbrev pub plain_program : Program → m.Program
plain_program P = record { head = P.head; functions = map plain_function P.functions }
