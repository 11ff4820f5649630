-- Types and expressions: which tokens they read from.
use Rattle.std.specs.Prelude.{◌≡◌, ℕ, suc, ◌≤◌, max, Bool, true, false, ◌||◌, List, [], ◌∷◌}
use Rattle.std.specs.Str.{bytes_eq}
use Rattle.c0_source.specs.declared.kind.Kind.{Kind}
use Rattle.c0_source.specs.declared.kind.Kind.TheVariants as k
use Rattle.c0_source.specs.declared.kind.Operator.{Operator}
use Rattle.c0_source.specs.declared.kind.Operator.TheVariants as o
use Rattle.c0_syntax.specs.declared.operator.PrefixOperator.{PrefixOperator}
use Rattle.c0_syntax.specs.declared.operator.PrefixOperator.TheVariants as p
use Rattle.c0_source.specs.Terminals.{Terminal, Word, Text as TextToken, Sign}
use Rattle.c0_syntax.specs.Trees.{ValueType, Basic, StructType, NamedType, Pointer, Array, Expression, Number, Character, Truth, Null, Text, Variable, Parenthesized, Call, Alloc, AllocArray, Result, Length, Index, Field, PointerField, Unary, Binary, Conditional, Expressions, none, more}

-- whether these names of types have this one
abbrev pub is_type_name : List (List ℕ) → List ℕ → Bool
is_type_name [] x = false
is_type_name (y ∷ ys) x = bytes_eq y x || is_type_name ys x

-- the tokens of a type, and after them `rest`: one case a production, as in all that follows
abbrev pub emit_type : ValueType → List Terminal → List Terminal
emit_type (Basic b) rest = Sign (k.Base b) ∷ rest
emit_type (StructType x) rest = Sign k.Struct ∷ Word x ∷ rest
emit_type (NamedType x) rest = Word x ∷ rest
emit_type (Pointer t) rest = emit_type t (Sign (k.Infix o.Multiply) ∷ rest)
emit_type (Array t) rest = emit_type t (Sign k.LBracket ∷ Sign k.RBracket ∷ rest)

-- the sign of an operator before its operand
abbrev pub prefix_sign : PrefixOperator → Kind
prefix_sign p.Not = k.Bang
prefix_sign p.Complement = k.Tilde
prefix_sign p.Negate = k.Infix o.Subtract
prefix_sign p.Dereference = k.Infix o.Multiply

abbrev mutual
  -- the tokens of an expression, and after them `rest`
  pub emit_expression : Expression → List Terminal → List Terminal
  emit_expression (Number n) rest = Sign (k.Number n) ∷ rest
  emit_expression (Character c) rest = Sign (k.Character c) ∷ rest
  emit_expression (Truth b) rest = Sign (k.Truth b) ∷ rest
  emit_expression Null rest = Sign k.Null ∷ rest
  emit_expression (Text bs) rest = TextToken bs ∷ rest
  emit_expression (Variable x) rest = Word x ∷ rest
  emit_expression (Parenthesized e) rest = Sign k.LParen ∷ emit_expression e (Sign k.RParen ∷ rest)
  emit_expression (Call f es) rest = Word f ∷ Sign k.LParen ∷ emit_arguments es rest
  emit_expression (Alloc t) rest = Sign k.Alloc ∷ Sign k.LParen ∷ emit_type t (Sign k.RParen ∷ rest)
  emit_expression (AllocArray t e) rest = Sign k.AllocArray ∷ Sign k.LParen ∷ emit_type t (Sign k.Comma ∷ emit_expression e (Sign k.RParen ∷ rest))
  emit_expression Result rest = Sign k.Result ∷ rest
  emit_expression (Length e) rest = Sign k.Length ∷ Sign k.LParen ∷ emit_expression e (Sign k.RParen ∷ rest)
  emit_expression (Index a i) rest = emit_expression a (Sign k.LBracket ∷ emit_expression i (Sign k.RBracket ∷ rest))
  emit_expression (Field a x) rest = emit_expression a (Sign k.Dot ∷ Word x ∷ rest)
  emit_expression (PointerField a x) rest = emit_expression a (Sign k.Arrow ∷ Word x ∷ rest)
  emit_expression (Unary u e) rest = Sign (prefix_sign u) ∷ emit_expression e rest
  emit_expression (Binary op a b) rest = emit_expression a (Sign (k.Infix op) ∷ emit_expression b rest)
  emit_expression (Conditional c a b) rest = emit_expression c (Sign k.Question ∷ emit_expression a (Sign k.Colon ∷ emit_expression b rest))

  -- arguments with commas between them, then the closing parenthesis
  pub emit_arguments : Expressions → List Terminal → List Terminal
  emit_arguments none rest = Sign k.RParen ∷ rest
  emit_arguments (more e es) rest = emit_expression e (emit_more_arguments es rest)

  -- ... behind the first of them
  pub emit_more_arguments : Expressions → List Terminal → List Terminal
  emit_more_arguments none rest = Sign k.RParen ∷ rest
  emit_more_arguments (more e es) rest = Sign k.Comma ∷ emit_expression e (emit_more_arguments es rest)

-- How tightly an operator binds: `? :` has 1, these 2 to 11, an operator before its operand 12, `[e]`, `.x` and `->x` 13.
abbrev pub operator_precedence : Operator → ℕ
operator_precedence o.Or = 2
operator_precedence o.And = 3
operator_precedence o.BitOr = 4
operator_precedence o.BitXor = 5
operator_precedence o.BitAnd = 6
operator_precedence o.Equal = 7
operator_precedence o.NotEqual = 7
operator_precedence o.Less = 8
operator_precedence o.LessEqual = 8
operator_precedence o.Greater = 8
operator_precedence o.GreaterEqual = 8
operator_precedence o.ShiftLeft = 9
operator_precedence o.ShiftRight = 9
operator_precedence o.Add = 10
operator_precedence o.Subtract = 10
operator_precedence o.Multiply = 11
operator_precedence o.Divide = 11
operator_precedence o.Modulo = 11

-- how tightly a sign binds after an expression, or 0
abbrev pub precedence : Kind → ℕ
precedence k.Question = 1
precedence (k.Infix op) = operator_precedence op
precedence _ = 0

-- each name in the type is one of these names of types
abbrev pub FormedType : List (List ℕ) → ValueType → Type 0
FormedType types (Basic b) = Unit {0}
FormedType types (StructType x) = Unit {0}
FormedType types (NamedType x) = is_type_name types x ≡ true
FormedType types (Pointer t) = FormedType types t
FormedType types (Array t) = FormedType types t

-- Every operand is at least as strong as its place asks. Binary operators group left, prefix ones and `? :` right.
abbrev mutual
  -- Each operand binds at least as tightly as its place asks: binary operators group left, those before an operand and `? :` right. No variable and no
  -- function has the name of a type.
  pub FormedExpression : List (List ℕ) → ℕ → Expression → Type 0
  FormedExpression types least (Number n) = Unit {0}
  FormedExpression types least (Character c) = Unit {0}
  FormedExpression types least (Truth b) = Unit {0}
  FormedExpression types least Null = Unit {0}
  FormedExpression types least (Text bs) = Unit {0}
  FormedExpression types least (Variable x) = is_type_name types x ≡ false
  FormedExpression types least (Parenthesized e) = FormedExpression types 1 e
  FormedExpression types least (Call f es) = (is_type_name types f ≡ false) × FormedArguments types es
  FormedExpression types least (Alloc t) = FormedType types t
  FormedExpression types least (AllocArray t e) = FormedType types t × FormedExpression types 1 e
  FormedExpression types least Result = Unit {0}
  FormedExpression types least (Length e) = FormedExpression types 1 e
  FormedExpression types least (Index a i) = FormedExpression types 13 a × FormedExpression types 1 i
  FormedExpression types least (Field a x) = FormedExpression types 13 a
  FormedExpression types least (PointerField a x) = FormedExpression types 13 a
  FormedExpression types least (Unary u e) = (least ≤ 12) × FormedExpression types 12 e
  FormedExpression types least (Binary op a b) = (least ≤ operator_precedence op) × FormedExpression types (operator_precedence op) a × FormedExpression types (suc (operator_precedence op)) b
  FormedExpression types least (Conditional c a b) = (least ≤ 1) × FormedExpression types 2 c × FormedExpression types 1 a × FormedExpression types 1 b

  -- ... each argument
  pub FormedArguments : List (List ℕ) → Expressions → Type 0
  FormedArguments types none = Unit {0}
  FormedArguments types (more e es) = FormedExpression types 1 e × FormedArguments types es

-- how many nodes are on the longest path of a type
abbrev pub height_type : ValueType → ℕ
height_type (Basic b) = 1
height_type (StructType x) = 1
height_type (NamedType x) = 1
height_type (Pointer t) = suc (height_type t)
height_type (Array t) = suc (height_type t)

abbrev mutual
  -- ... of an expression
  pub height_expression : Expression → ℕ
  height_expression (Number n) = 1
  height_expression (Character c) = 1
  height_expression (Truth b) = 1
  height_expression Null = 1
  height_expression (Text bs) = 1
  height_expression (Variable x) = 1
  height_expression (Parenthesized e) = suc (height_expression e)
  height_expression (Call f es) = suc (height_arguments es)
  height_expression (Alloc t) = suc (height_type t)
  height_expression (AllocArray t e) = suc (max (height_type t) (height_expression e))
  height_expression Result = 1
  height_expression (Length e) = suc (height_expression e)
  height_expression (Index a i) = suc (max (height_expression a) (height_expression i))
  height_expression (Field a x) = suc (height_expression a)
  height_expression (PointerField a x) = suc (height_expression a)
  height_expression (Unary u e) = suc (height_expression e)
  height_expression (Binary op a b) = suc (max (height_expression a) (height_expression b))
  height_expression (Conditional c a b) = suc (max (height_expression c) (max (height_expression a) (height_expression b)))

  -- ... of the highest argument
  pub height_arguments : Expressions → ℕ
  height_arguments none = 0
  height_arguments (more e es) = max (height_expression e) (height_arguments es)

-- the expression's first token is `*`
abbrev pub begins_star : Expression → Bool
begins_star (Unary p.Dereference e) = true
begins_star (Index a i) = begins_star a
begins_star (Field a x) = begins_star a
begins_star (PointerField a x) = begins_star a
begins_star (Binary op a b) = begins_star a
begins_star (Conditional c a b) = begins_star c
begins_star _ = false
