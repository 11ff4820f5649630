-- Programs with their scopes, whose images are computed.
use Rattle.std.specs.Prelude.{ℕ, [], ◌∷◌, Some, None, pos}
use Rattle.cells.specs.declared.int32.Int32Op.TheVariants.{Add, Sub}
use Rattle.code_form.specs.declared.form.Kind.TheVariants as kind
use Rattle.code_form.specs.declared.form.Relation.TheVariants as relation
use Rattle.code_form.specs.declared.form.Operation.TheVariants.{Const, TextOf, Move, Binary, Compare, CheckNull, CheckIndex, Alloc, AllocArray, Null, Printint}
use Rattle.middle_form.specs.Samples.{head}
use Rattle.middle_form.specs.Scoped.{Code, Nothing, Do, Load, Store, LoadBy, Aim, Leave, Call, Fail, Then, Choose, Loop, Block, Exit, Function, Program}
use Rattle.scoped_building.specs.Building.{in_order}

-- `main` with so many scopes, over a number, a truth value, a second number, a pointer, an array, an offset and a text
abbrev pub main_of : ℕ → Code → Function
main_of scopes a = record {
  result = Some kind.Int;
  parameters = 0;
  kinds = kind.Int ∷ kind.Bool ∷ kind.Int ∷ kind.Ptr 0 ∷ kind.Arr 1 ∷ kind.Off 1 ∷ kind.Text ∷ [];
  scopes = scopes;
  body = a;
  value = 0;
}

-- a program of `main` alone
abbrev pub program_of : Function → Program
program_of g = record { head = head; functions = g ∷ [] }

-- the fifth number of Fibonacci, by calls: function 1 takes n and gives n below 2, and else the sum of its values before
abbrev pub fibonacci : Program
fibonacci = record {
  head = head;
  functions =
      record { result = Some kind.Int; parameters = 0; kinds = kind.Int ∷ []; scopes = 0; body = Then (Do (Const 0 (pos 5))) (Call (Some 0) 1 (0 ∷ [])); value = 0 }
      ∷ record {
        result = Some kind.Int;
        parameters = 1;
        kinds = kind.Int ∷ kind.Bool ∷ kind.Int ∷ kind.Int ∷ kind.Int ∷ [];
        scopes = 0;
        body = Block (in_order (
            Do (Const 3 (pos 2)) ∷ Do (Compare relation.Less 1 0 3) ∷ Choose 1 (Then (Do (Move 2 0)) (Exit 0)) Nothing
            ∷ Do (Binary Sub 4 0 3) ∷ Call (Some 2) 1 (4 ∷ []) ∷ Do (Const 3 (pos 1)) ∷ Do (Binary Sub 4 0 3) ∷ Call (Some 4) 1 (4 ∷ []) ∷ Do (Binary Add 2 2 4) ∷ []));
        value = 2;
      } ∷ [];
}

-- prints 0, 1, 2 and leaves its loop at 3
abbrev pub counting : Program
counting = program_of (main_of 0 (in_order (
    Do (Const 0 (pos 0))
    ∷ Loop (in_order (Do (Const 2 (pos 3)) ∷ Do (Compare relation.Less 1 0 2) ∷ Choose 1 Nothing (Exit 0) ∷ [])) 1
    (in_order (Do (Printint 0) ∷ Do (Const 2 (pos 1)) ∷ Do (Binary Add 0 0 2) ∷ []))
    ∷ [])))

-- the third part of a loop stands behind its body, which is left from within two blocks
abbrev pub stepping : Program
stepping = program_of (main_of 0 (
    Loop (in_order (Do (Const 2 (pos 3)) ∷ Do (Compare relation.Less 1 0 2) ∷ [])) 1
    (Then (Block (Block (Exit 1))) (Then (Do (Const 2 (pos 1))) (Do (Binary Add 0 0 2))))))

-- a struct that points to itself: 7 is stored and read by way of the pointer in it
abbrev pub pointing : Program
pointing = program_of (main_of 1 (in_order (
    Do (Alloc 3 0) ∷ Do (Const 0 (pos 7)) ∷ Store 0 3 None 0 0 ∷ Store 0 3 None 1 3 ∷ Leave 0 ∷ Do (Const 0 (pos 0))
    ∷ Load 3 0 3 None 1 ∷ Leave 0 ∷ Do (CheckNull 3) ∷ Load 0 0 3 None 0 ∷ Leave 0 ∷ [])))

-- element 2 of an array of three is set to 9, and then element i is read by the second scope
abbrev pub indexing : ℕ → Program
indexing i = program_of (main_of 2 (in_order (
    Do (Const 2 (pos 3)) ∷ Do (AllocArray 4 1 2) ∷ Do (Const 2 (pos 2)) ∷ Do (CheckIndex 5 4 2 1) ∷ Do (Const 0 (pos 9)) ∷ Store 0 4 (Some 5) 0 0
    ∷ Do (Const 2 (pos i)) ∷ Do (CheckIndex 5 4 2 1) ∷ Load 0 1 4 (Some 5) 0 ∷ Leave 0 ∷ Leave 1 ∷ [])))

-- prints, and stops by a text
abbrev pub failing : Program
failing = program_of (main_of 0 (in_order (Do (Printint 0) ∷ Do (TextOf 6 1) ∷ Fail 6 ∷ Do (Printint 0) ∷ [])))

-- NULL, checked
abbrev pub null_checked : Program
null_checked = program_of (main_of 0 (Then (Do (Null 3)) (Do (CheckNull 3))))

-- `main` prints a cell three times, by a scope that is aimed before the loop and left behind it
abbrev pub held : Function
held = main_of 1 (in_order (
    Do (Alloc 3 0) ∷ Do (Const 2 (pos 5)) ∷ Do (CheckNull 3) ∷ Store 0 3 None 0 2 ∷ Aim 0 3 None 0
    ∷ Loop (in_order (Do (Const 2 (pos 3)) ∷ Do (Compare relation.Less 1 0 2) ∷ [])) 1
    (in_order (Do (CheckNull 3) ∷ LoadBy 2 0 3 None 0 ∷ Do (Printint 2) ∷ Do (Const 2 (pos 1)) ∷ Do (Binary Add 0 0 2) ∷ []))
    ∷ Leave 0 ∷ []))
