-- Scoped code as programs hold it, read as that of the definitions.
use Rattle.std.specs.Prelude.{List, [], ◌∷◌, map, string_bytes}
use Rattle.middle_form.specs.Scoped as s
use Rattle.middle_form.specs.declared.scoped.ScopedCode.{ScopedCode, Row_of-ScopedCode, end_of-ScopedCode, more_of-ScopedCode, Sequence', Do, Load, Store, LoadBy, StoreBy, Aim, Leave, Loose, Call, Fail, Choose', Loop', Block', Exit}
use Rattle.middle_form.specs.declared.scoped.ScopedFunction.{ScopedFunction}
use Rattle.middle_form.specs.declared.scoped.Scoped.{Scoped}

abbrev mutual
  -- code
  pub scoped_code_of : ScopedCode → s.Code
  scoped_code_of (Sequence' shape all) = scoped_row_of all
  scoped_code_of (Do o) = s.Do o
  scoped_code_of (Load to z r off disp) = s.Load to z r off disp
  scoped_code_of (Store z r off disp from) = s.Store z r off disp from
  scoped_code_of (LoadBy to z r off disp) = s.LoadBy to z r off disp
  scoped_code_of (StoreBy z r off disp from) = s.StoreBy z r off disp from
  scoped_code_of (Aim z r off disp) = s.Aim z r off disp
  scoped_code_of (Leave z) = s.Leave z
  scoped_code_of (Loose z) = s.Loose z
  scoped_code_of (Call to f args) = s.Call to f args.items
  scoped_code_of (Fail a) = s.Fail a
  scoped_code_of (Choose' a p b q c) = s.Choose a (scoped_code_of b) (scoped_code_of c)
  scoped_code_of (Loop' p test a q body) = s.Loop (scoped_code_of test) a (scoped_code_of body)
  scoped_code_of (Block' p a) = s.Block (scoped_code_of a)
  scoped_code_of (Exit k) = s.Exit k

  -- the parts of a sequence
  pub scoped_row_of : {n : _} → Row_of-ScopedCode n → s.Code
  scoped_row_of end_of-ScopedCode = s.Nothing
  scoped_row_of (more_of-ScopedCode a rest) = s.Then (scoped_code_of a) (scoped_row_of rest)

-- code in order
abbrev pub scoped_sequence_of : List ScopedCode → s.Code
scoped_sequence_of [] = s.Nothing
scoped_sequence_of (a ∷ rest) = s.Then (scoped_code_of a) (scoped_sequence_of rest)

-- a function
abbrev pub scoped_function_of : ScopedFunction → s.Function
scoped_function_of g = record { result = g.result; parameters = g.parameters; kinds = g.kinds.items; scopes = g.scopes; body = scoped_code_of g.body; value = g.value }

-- a program
abbrev pub scoped_program_of : Scoped → s.Program
scoped_program_of p = record {
  head = record { texts = map string_bytes p.texts.items; layouts = map (λ l. l.items) p.layouts.items };
  functions = map scoped_function_of p.functions.items;
}
