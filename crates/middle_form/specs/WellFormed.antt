-- Code that names nothing but what is there, each of the right kind.
use Rattle.std.specs.Prelude.{ℕ, suc, ◌&&◌, nat_lt, Bool, true, false, List, [], ◌∷◌, Option, Some, None, length, slice_get}
use Rattle.code_form.specs.declared.form.Kind.{Kind}
use Rattle.code_form.specs.declared.form.Kind.TheVariants as kind
use Rattle.code_form.specs.Code.{call_fits, cell_kind, has, on_kind, op_fits, place_fits}
use Rattle.middle_form.specs.Form.{Code, Nothing, Do, Load, Store, Call, Fail, Then, Choose, Loop, Block, Exit, Function, Program}

-- In what follows ks are the kinds of the registers of the function that the code is of.
module _ (P : Program) (ks : List Kind) where
  -- a register has the kind of the cell that an access names
  abbrev pub access_fits : (a r : ℕ) → Option ℕ → ℕ → Bool
  access_fits a r off disp = place_fits ks r off && on_kind (λ k. has ks a k) (cell_kind P.head ks r disp)

  -- the function is there, and takes and gives what the call names
  abbrev pub callee_fits : Option Function → Option ℕ → List ℕ → Bool
  callee_fits None to args = false
  callee_fits (Some g) to args = call_fits ks g.result g.parameters g.kinds to args

  -- code with so many loops and blocks round it
  abbrev pub code_fits : ℕ → Code → Bool
  code_fits around Nothing = true
  code_fits around (Do o) = op_fits P.head ks o
  code_fits around (Load to r off disp) = access_fits to r off disp
  code_fits around (Store r off disp from) = access_fits from r off disp
  code_fits around (Call to f args) = callee_fits (slice_get P.functions f) to args
  code_fits around (Fail a) = has ks a kind.Text
  code_fits around (Then a b) = code_fits around a && code_fits around b
  code_fits around (Choose a b c) = has ks a kind.Bool && (code_fits around b && code_fits around c)
  code_fits around (Loop test a body) = has ks a kind.Bool && (code_fits (suc around) test && code_fits (suc around) body)
  code_fits around (Block a) = code_fits (suc around) a
  code_fits around (Exit k) = nat_lt k around

-- the result of a function stands in a register of its kind
abbrev pub result_fits : Function → Bool
result_fits g = elim g.result [ None ↦ true | Some k ↦ has g.kinds g.value k ]

-- a function: its parameters are registers, and its code and its result fit
abbrev pub function_fits : Program → Function → Bool
function_fits P g = nat_lt g.parameters (suc (length g.kinds)) && (code_fits P g.kinds 0 g.body && result_fits g)

-- each of these functions fits
abbrev pub all_fit : Program → List Function → Bool
all_fit P [] = true
all_fit P (g ∷ rest) = function_fits P g && all_fit P rest

-- `main` is there, takes nothing and gives a number
abbrev pub main_fits : List Function → Bool
main_fits [] = false
main_fits (g ∷ rest) = call_fits (kind.Int ∷ []) g.result g.parameters g.kinds (Some 0) []

-- a program
abbrev pub is_well_formed : Program → Bool
is_well_formed P = main_fits P.functions && all_fit P P.functions
