-- Structured code as programs hold it, read as that of the definitions.
use Rattle.std.specs.Prelude.{List, [], ◌∷◌, map, string_bytes}
use Rattle.middle_form.specs.Form as m
use Rattle.middle_form.specs.declared.form.Code.{Code, Row_of-Code, end_of-Code, more_of-Code, Sequence', Do, Load, Store, Call, Fail, Choose', Loop', Block', Exit}
use Rattle.middle_form.specs.declared.form.Function.{Function}
use Rattle.middle_form.specs.declared.form.Middle.{Middle}

abbrev mutual
  -- code
  pub code_of : Code → m.Code
  code_of (Sequence' shape all) = row_of all
  code_of (Do o) = m.Do o
  code_of (Load to r off disp) = m.Load to r off disp
  code_of (Store r off disp from) = m.Store r off disp from
  code_of (Call to f args) = m.Call to f args.items
  code_of (Fail a) = m.Fail a
  code_of (Choose' a p b q c) = m.Choose a (code_of b) (code_of c)
  code_of (Loop' p test a q body) = m.Loop (code_of test) a (code_of body)
  code_of (Block' p a) = m.Block (code_of a)
  code_of (Exit k) = m.Exit k

  -- the parts of a sequence
  pub row_of : {n : _} → Row_of-Code n → m.Code
  row_of end_of-Code = m.Nothing
  row_of (more_of-Code a rest) = m.Then (code_of a) (row_of rest)

-- code in order
abbrev pub sequence_of : List Code → m.Code
sequence_of [] = m.Nothing
sequence_of (a ∷ rest) = m.Then (code_of a) (sequence_of rest)

-- a function
abbrev pub function_of : Function → m.Function
function_of g = record { result = g.result; parameters = g.parameters; kinds = g.kinds.items; body = code_of g.body; value = g.value }

-- a program
abbrev pub program_of : Middle → m.Program
program_of p = record {
  head = record { texts = map string_bytes p.texts.items; layouts = map (λ l. l.items) p.layouts.items };
  functions = map function_of p.functions.items;
}
