-- The structured code of expressions, places and conditions of typed programs. Each part of an expression that is no local has a register of its own; the value of a local is taken from its register.
use Rattle.std.specs.Prelude.{ℕ, zero, suc, ◌+◌, ◌==◌, Bool, true, false, cond, List, [], ◌∷◌, ◌++◌, length, map, Option, Some, None}
use Rattle.cells.specs.declared.int32.Int32Op.{Int32Op}
use Rattle.c0_typed.specs.Trees as t
use Rattle.c0_typed.specs.Views.{type_of, text_at}
use Rattle.c0_typed.specs.declared.tree.ValueType.{ValueType}
use Rattle.c0_typed.specs.declared.tree.UnaryOperator.{UnaryOperator}
use Rattle.c0_typed.specs.declared.tree.UnaryOperator.TheVariants as u
use Rattle.c0_typed.specs.declared.tree.Relation.{Relation}
use Rattle.c0_typed.specs.declared.tree.Relation.TheVariants as r
use Rattle.c0_typed.specs.declared.tree.Constant.{Constant as ConstantValue}
use Rattle.c0_typed.specs.declared.tree.Constant.TheVariants as c
use Rattle.c0_typed.specs.declared.tree.Output.{Output}
use Rattle.c0_typed.specs.declared.tree.Output.TheVariants as o
use Rattle.c0_typed.specs.declared.tree.Expression.{Expression, Row_of-Expression, end_of-Expression, more_of-Expression, At', Constant, Null, Local, Unary', Binary', Compare', And', Or', Choose', Call', Print', Load', Alloc, AllocArray', Length'}
use Rattle.c0_typed.specs.declared.tree.Place.{Place, Deref', Index', Field'}
use Rattle.c0_typed.specs.declared.tree.Function.{Function}
use Rattle.code_form.specs.declared.form.Kind.{Kind}
use Rattle.code_form.specs.declared.form.Kind.TheVariants as kind
use Rattle.code_form.specs.declared.form.UnaryOperator.{UnaryOperator as CodeOperator}
use Rattle.code_form.specs.declared.form.UnaryOperator.TheVariants as operator
use Rattle.code_form.specs.declared.form.Relation.{Relation as CodeRelation}
use Rattle.code_form.specs.declared.form.Relation.TheVariants as relation
use Rattle.code_form.specs.declared.form.Operation.{Operation}
use Rattle.code_form.specs.declared.form.Operation.TheVariants as op
use Rattle.middle_form.specs.Form.{Code}
use Rattle.middle_form.specs.Form as m
use Rattle.lower_tables.specs.Kinds.{cells_of, field_offset, kind_of, layout_number}
use Rattle.lower_tables.specs.Texts.{number_among}

-- code, one after another
abbrev pub sequence : List Code → Code
sequence [] = m.Nothing
sequence (a ∷ rest) = m.Then a (sequence rest)

-- ---- operators

-- an operator on one value
abbrev pub unary_operator : UnaryOperator → CodeOperator
unary_operator u.Negate = operator.Negate
unary_operator u.Complement = operator.Complement
unary_operator u.Not = operator.Not

-- a comparison
abbrev pub code_relation : Relation → CodeRelation
code_relation r.Equal = relation.Equal
code_relation r.Unequal = relation.NotEqual
code_relation r.Below = relation.Less
code_relation r.AtMost = relation.LessOrEqual
code_relation r.Above = relation.Greater
code_relation r.AtLeast = relation.GreaterOrEqual

-- a constant into a register, in a program of these texts
abbrev pub constant_code : List (List ℕ) → ConstantValue → ℕ → Operation
constant_code texts (c.Number z) d = op.Const d z
constant_code texts (c.Truth b) d = op.BoolOf d b
constant_code texts (c.Letter x) d = op.CharOf d x
constant_code texts (c.Text k) d = op.TextOf d (number_among texts (text_at texts k))

-- the kind of a constant
abbrev pub constant_kind : ConstantValue → Kind
constant_kind (c.Number z) = kind.Int
constant_kind (c.Truth b) = kind.Bool
constant_kind (c.Letter x) = kind.Char
constant_kind (c.Text k) = kind.Text

-- the kind of an operator's value
abbrev pub unary_kind : UnaryOperator → Kind
unary_kind u.Not = kind.Bool
unary_kind _ = kind.Int

-- a call of conio with these registers
abbrev pub print_code : Output → List ℕ → Operation
print_code o.Print (a ∷ rest) = op.Print a
print_code o.Println (a ∷ rest) = op.Println a
print_code o.Printint (a ∷ rest) = op.Printint a
print_code o.Printbool (a ∷ rest) = op.Printbool a
print_code o.Printchar (a ∷ rest) = op.Printchar a
print_code _ _ = op.Flush

-- ---- numbers of functions: `main` comes first, and what stood first has its number

-- the function with this number in the text or in the code
abbrev pub swapped : ℕ → ℕ → ℕ
swapped main k = cond (k == main) 0 (cond (k == 0) main k)

-- the register for the result of a function of this type
abbrev pub result_register : t.Ty → ℕ → Option ℕ
result_register t.VoidTy d = None
result_register _ d = Some d

-- ---- registers of a function with so many locals: those that are given to it come first, its result is the last of them

-- the register of a local
abbrev pub local_register : ℕ → ℕ → ℕ
local_register locals zero = locals
local_register locals (suc x) = x

-- where the value of an expression stands whose registers begin at d
abbrev pub value_at : ℕ → Expression → ℕ → ℕ
value_at locals (At' here q e) d = value_at locals e d
value_at locals (Local x) d = local_register locals x
value_at locals e d = d

-- the code of an expression whose registers begin at d, and then its value moved to register r
abbrev pub moved : ℕ → Expression → List Code → ℕ → ℕ → List Code
moved locals e code d r = code ++ (m.Do (op.Move r (value_at locals e d)) ∷ [])

-- the conditions of a contract that are looked at
abbrev pub checked : Bool → List Expression → List Expression
checked checks es = cond checks es []

-- Over a program: its structs, its texts, its functions and the number of `main`, and the kinds of single cells that have a layout
module _ (structs : List (List t.Ty)) (singles : List Kind) (texts : List (List ℕ)) (functions : List Function) (main : ℕ) where
  -- the kind of a value of a type
  abbrev pub kind_at : ValueType → Kind
  kind_at ty = kind_of (length structs) singles (type_of ty)

  -- the layout of a type
  abbrev pub layout_at : ValueType → ℕ
  layout_at ty = layout_number (length structs) singles (type_of ty)

  -- the type that a function of the text gives
  abbrev pub type_given : List Function → ℕ → t.Ty
  type_given [] f = t.VoidTy
  type_given (g ∷ gs) zero = type_of g.result
  type_given (g ∷ gs) (suc f) = type_given gs f

  -- ---- registers beside the locals, by their kinds, in their order
  abbrev mutual
    pub exp_kinds : Expression → List Kind
    exp_kinds (At' here q e) = exp_kinds e
    exp_kinds (Constant x) = constant_kind x ∷ []
    exp_kinds (Null ty) = kind.Ptr (layout_at ty) ∷ []
    exp_kinds (Local x) = []
    exp_kinds (Unary' p q a) = unary_kind p ∷ exp_kinds a
    exp_kinds (Binary' p q a s b) = kind.Int ∷ (exp_kinds a ++ exp_kinds b)
    exp_kinds (Compare' ty p q a s b) = kind.Bool ∷ (exp_kinds a ++ exp_kinds b)
    exp_kinds (And' p a q b) = kind.Bool ∷ (exp_kinds a ++ exp_kinds b)
    exp_kinds (Or' p a q b) = kind.Bool ∷ (exp_kinds a ++ exp_kinds b)
    exp_kinds (Choose' ty p a q b s e) = kind_at ty ∷ (exp_kinds a ++ (exp_kinds b ++ exp_kinds e))
    exp_kinds (Call' f shape es) = kind_of (length structs) singles (type_given functions f) ∷ row_kinds es
    exp_kinds (Print' out shape es) = kind.Int ∷ row_kinds es
    exp_kinds (Load' ty p q) = kind_at ty ∷ place_kinds q
    exp_kinds (Alloc ty) = kind.Ptr (layout_at ty) ∷ []
    exp_kinds (AllocArray' ty p a) = kind.Arr (layout_at ty) ∷ exp_kinds a
    exp_kinds (Length' ty p a) = kind.Int ∷ exp_kinds a

    -- of arguments
    pub row_kinds : {n : _} → Row_of-Expression n → List Kind
    row_kinds end_of-Expression = []
    row_kinds (more_of-Expression a rest) = exp_kinds a ++ row_kinds rest

    -- of a place
    pub place_kinds : Place → List Kind
    place_kinds (Deref' ty p a) = exp_kinds a
    place_kinds (Index' ty p a q i) = kind.Off (layout_at ty) ∷ (exp_kinds a ++ exp_kinds i)
    place_kinds (Field' j p q k) = place_kinds q

  -- of conditions that must hold
  abbrev pub conditions_kinds : List Expression → List Kind
  conditions_kinds [] = []
  conditions_kinds (a ∷ rest) = exp_kinds a ++ conditions_kinds rest

  -- ---- code, in a function with so many locals beside its result
  module _ (locals : ℕ) where
    -- where the values of arguments stand
    abbrev pub row_at : {n : _} → Row_of-Expression n → ℕ → List ℕ
    row_at end_of-Expression d = []
    row_at (more_of-Expression a rest) d = value_at locals a d ∷ row_at rest (d + length (exp_kinds a))

    -- the register of the reference that a place begins with
    abbrev pub base_at : Place → ℕ → ℕ
    base_at (Deref' ty p a) d = value_at locals a d
    base_at (Index' ty p a q i) d = value_at locals a (suc d)
    base_at (Field' j p q k) d = base_at q d

    -- the register of a place's offset, where it has one
    abbrev pub offset_at : Place → ℕ → Option ℕ
    offset_at (Deref' ty p a) d = None
    offset_at (Index' ty p a q i) d = Some d
    offset_at (Field' j p q k) d = offset_at q d

    -- how far behind that a place's cell stands
    abbrev pub displacement : Place → ℕ
    displacement (Deref' ty p a) = 0
    displacement (Index' ty p a q i) = 0
    displacement (Field' j p q k) = displacement q + field_offset structs singles j k

    abbrev mutual
      -- the code of an expression, with its registers from d on
      pub exp_code : Expression → ℕ → List Code
      exp_code (At' here q e) d = exp_code e d
      exp_code (Constant x) d = m.Do (constant_code texts x d) ∷ []
      exp_code (Null ty) d = m.Do (op.Null d) ∷ []
      exp_code (Local x) d = []
      exp_code (Unary' p q a) d = exp_code a (suc d) ++ (m.Do (op.Unary (unary_operator p) d (value_at locals a (suc d))) ∷ [])
      exp_code (Binary' p q a s b) d =
          exp_code a (suc d) ++ (exp_code b (suc d + length (exp_kinds a)) ++ (m.Do (op.Binary p d (value_at locals a (suc d)) (value_at locals b (suc d + length (exp_kinds a)))) ∷ []))
      exp_code (Compare' ty p q a s b) d =
          exp_code a (suc d) ++ (exp_code b (suc d + length (exp_kinds a))
          ++ (m.Do (op.Compare (code_relation p) d (value_at locals a (suc d)) (value_at locals b (suc d + length (exp_kinds a)))) ∷ []))
      exp_code (And' p a q b) d =
          exp_code a (suc d) ++ (m.Do (op.Move d (value_at locals a (suc d))) ∷ (m.Choose d (sequence (moved locals b (exp_code b (suc d + length (exp_kinds a))) (suc d + length (exp_kinds a)) d)) m.Nothing ∷ []))
      exp_code (Or' p a q b) d =
          exp_code a (suc d) ++ (m.Do (op.Move d (value_at locals a (suc d))) ∷ (m.Choose d m.Nothing (sequence (moved locals b (exp_code b (suc d + length (exp_kinds a))) (suc d + length (exp_kinds a)) d)) ∷ []))
      exp_code (Choose' ty p a q b s e) d =
          exp_code a (suc d) ++ (m.Choose (value_at locals a (suc d))
          (sequence (moved locals b (exp_code b (suc d + length (exp_kinds a))) (suc d + length (exp_kinds a)) d))
          (sequence (moved locals e (exp_code e (suc d + length (exp_kinds a) + length (exp_kinds b))) (suc d + length (exp_kinds a) + length (exp_kinds b)) d)) ∷ [])
      exp_code (Call' f shape es) d = row_code es (suc d) ++ (m.Call (result_register (type_given functions f) d) (swapped main f) (row_at es (suc d)) ∷ [])
      exp_code (Print' out shape es) d = row_code es (suc d) ++ (m.Do (print_code out (row_at es (suc d))) ∷ [])
      exp_code (Load' ty p q) d = place_code q (suc d) ++ (m.Load d (base_at q (suc d)) (offset_at q (suc d)) (displacement q) ∷ [])
      exp_code (Alloc ty) d = m.Do (op.Alloc d (layout_at ty)) ∷ []
      exp_code (AllocArray' ty p a) d = exp_code a (suc d) ++ (m.Do (op.AllocArray d (layout_at ty) (value_at locals a (suc d))) ∷ [])
      exp_code (Length' ty p a) d = exp_code a (suc d) ++ (m.Do (op.Len d (value_at locals a (suc d))) ∷ [])

      -- of arguments, from left to right
      pub row_code : {n : _} → Row_of-Expression n → ℕ → List Code
      row_code end_of-Expression d = []
      row_code (more_of-Expression a rest) d = exp_code a d ++ row_code rest (d + length (exp_kinds a))

      -- of a place: its reference and its offset, with the checks of NULL and of bounds
      pub place_code : Place → ℕ → List Code
      place_code (Deref' ty p a) d = exp_code a d ++ (m.Do (op.CheckNull (value_at locals a d)) ∷ [])
      place_code (Index' ty p a q i) d =
          exp_code a (suc d) ++ (exp_code i (suc d + length (exp_kinds a))
          ++ (m.Do (op.CheckIndex d (value_at locals a (suc d)) (value_at locals i (suc d + length (exp_kinds a))) (length (cells_of structs singles (type_of ty)))) ∷ []))
      place_code (Field' j p q k) d = place_code q d

    -- of conditions that must hold
    abbrev pub conditions_code : List Expression → ℕ → List Code
    conditions_code [] d = []
    conditions_code (a ∷ rest) d = exp_code a d ++ (m.Do (op.Assert (value_at locals a d)) ∷ conditions_code rest (d + length (exp_kinds a)))
