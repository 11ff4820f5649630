-- Programs whose meaning is computed.
use Rattle.std.specs.Prelude.{ℕ, List, [], ◌∷◌, Some, None, pos}
use Rattle.cells.specs.declared.int32.Int32Op.TheVariants.{Add, Sub}
use Rattle.code_form.specs.declared.form.Kind.TheVariants as kind
use Rattle.code_form.specs.declared.form.Relation.TheVariants as relation
use Rattle.code_form.specs.declared.form.Operation.TheVariants.{Const, TextOf, Move, Binary, Compare, CheckNull, CheckIndex, Alloc, AllocArray, Null, Printint}
use Rattle.code_form.specs.Form.{Head}
use Rattle.middle_form.specs.Form.{Code, Nothing, Do, Load, Store, Call, Fail, Then, Choose, Loop, Block, Exit, Program}

-- code in order
abbrev pub in_order : List Code → Code
in_order [] = Nothing
in_order (a ∷ rest) = Then a (in_order rest)

-- layout 0: a struct of a number and a pointer to such a struct; layout 1: a number; text 1: `no`
abbrev pub head : Head
head = record { texts = (110 ∷ 111 ∷ []) ∷ []; layouts = (kind.Int ∷ kind.Ptr 0 ∷ []) ∷ (kind.Int ∷ []) ∷ [] }

-- `main` alone, over a number, a truth value, a second number, a pointer, an array, an offset and a text
abbrev pub program_of : Code → Program
program_of a = record {
  head = head;
  functions = record {
    result = Some kind.Int;
    parameters = 0;
    kinds = kind.Int ∷ kind.Bool ∷ kind.Int ∷ kind.Ptr 0 ∷ kind.Arr 1 ∷ kind.Off 1 ∷ kind.Text ∷ [];
    body = a;
    value = 0;
  } ∷ [];
}

-- the fifth number of Fibonacci, by calls: function 1 takes n and gives n below 2, and else the sum of its values before
abbrev pub fibonacci : Program
fibonacci = record {
  head = head;
  functions =
      record { result = Some kind.Int; parameters = 0; kinds = kind.Int ∷ []; body = Then (Do (Const 0 (pos 5))) (Call (Some 0) 1 (0 ∷ [])); value = 0 }
      ∷ record {
        result = Some kind.Int;
        parameters = 1;
        -- 0 n, 1 whether it is below 2, 2 the result, 3 a constant, 4 an argument and a result
        kinds = kind.Int ∷ kind.Bool ∷ kind.Int ∷ kind.Int ∷ kind.Int ∷ [];
        body = Block (in_order (
            Do (Const 3 (pos 2)) ∷ Do (Compare relation.Less 1 0 3) ∷ Choose 1 (Then (Do (Move 2 0)) (Exit 0)) Nothing
            ∷ Do (Binary Sub 4 0 3) ∷ Call (Some 2) 1 (4 ∷ []) ∷ Do (Const 3 (pos 1)) ∷ Do (Binary Sub 4 0 3) ∷ Call (Some 4) 1 (4 ∷ []) ∷ Do (Binary Add 2 2 4) ∷ []));
        value = 2;
      } ∷ [];
}

-- prints 0, 1, 2 and leaves its loop at 3
abbrev pub counting : Program
counting = program_of (in_order (
    Loop (in_order (Do (Const 2 (pos 3)) ∷ Do (Compare relation.Less 1 0 2) ∷ Choose 1 Nothing (Exit 0) ∷ [])) 1
    (in_order (Do (Printint 0) ∷ Do (Const 2 (pos 1)) ∷ Do (Binary Add 0 0 2) ∷ []))
    ∷ []))

-- the third part of a loop stands behind its body, which is left from within two blocks
abbrev pub stepping : Program
stepping = program_of (
    Loop (in_order (Do (Const 2 (pos 3)) ∷ Do (Compare relation.Less 1 0 2) ∷ [])) 1
    (Then (Block (Block (Exit 1))) (Then (Do (Const 2 (pos 1))) (Do (Binary Add 0 0 2)))))

-- a struct that points to itself: 7 is stored and read by way of the pointer in it
abbrev pub pointing : Program
pointing = program_of (in_order (
    Do (Alloc 3 0) ∷ Do (Const 0 (pos 7)) ∷ Store 3 None 0 0 ∷ Store 3 None 1 3 ∷ Do (Const 0 (pos 0))
    ∷ Load 3 3 None 1 ∷ Do (CheckNull 3) ∷ Load 0 3 None 0 ∷ []))

-- element 2 of an array of three is set to 9, and then element i is read
abbrev pub indexing : ℕ → Program
indexing i = program_of (in_order (
    Do (Const 2 (pos 3)) ∷ Do (AllocArray 4 1 2) ∷ Do (Const 2 (pos 2)) ∷ Do (CheckIndex 5 4 2 1) ∷ Do (Const 0 (pos 9)) ∷ Store 4 (Some 5) 0 0
    ∷ Do (Const 2 (pos i)) ∷ Do (CheckIndex 5 4 2 1) ∷ Load 0 4 (Some 5) 0 ∷ []))

-- prints, and stops by a text
abbrev pub failing : Program
failing = program_of (in_order (Do (Printint 0) ∷ Do (TextOf 6 1) ∷ Fail 6 ∷ Do (Printint 0) ∷ []))

-- NULL, checked
abbrev pub null_checked : Program
null_checked = program_of (Then (Do (Null 3)) (Do (CheckNull 3)))

-- NULL, not checked before a load
abbrev pub null_loaded : Program
null_loaded = program_of (Then (Do (Null 3)) (Load 0 3 None 0))
