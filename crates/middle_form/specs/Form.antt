-- The middle form: structured code of simple instructions over numbered registers, each of one kind in its function.
use Rattle.std.specs.Prelude.{ℕ, List, Option}
use Rattle.code_form.specs.declared.form.Kind.{Kind}
use Rattle.code_form.specs.declared.form.Operation.{Operation}
use Rattle.code_form.specs.Form.{Head}

-- Code goes on behind itself, or leaves some of the loops and blocks round it. Operands are registers by their number
pub data Code : Type 0 where
  -- does nothing
  Nothing : Code
  -- a simple instruction
  Do : Operation → Code
  -- a register gets what a cell of the allocation in register r holds: cell disp, or that many behind the offset in `off`
  Load : (to r : ℕ) → (off : Option ℕ) → (disp : ℕ) → Code
  -- such a cell gets what a register holds
  Store : (r : ℕ) → (off : Option ℕ) → (disp from : ℕ) → Code
  -- calls a function; a register gets its result, where there is one
  Call : (to : Option ℕ) → (function : ℕ) → (arguments : List ℕ) → Code
  -- stops the program by `error` with the text in a register
  Fail : (a : ℕ) → Code
  -- one behind the other
  Then : Code → Code → Code
  -- the first where register a is true, else the second
  Choose : (a : ℕ) → Code → Code → Code
  -- the test, and while register a is true behind it, the body and the test again
  Loop : (test : Code) → (a : ℕ) → (body : Code) → Code
  -- code that can be left
  Block : Code → Code
  -- leaves this many loops and blocks, and one more
  Exit : ℕ → Code

-- a function; the first registers are its parameters, and behind its code its result stands in a register
pub record Function : Type 0 where
  pub result : Option Kind
  pub parameters : ℕ
  -- of each register
  pub kinds : List Kind
  pub body : Code
  pub value : ℕ

-- a program; `main` is its first function
pub record Program : Type 0 where
  pub head : Head
  pub functions : List Function
