-- Which tokens of a text are those of a tree, and that each of its parts stands where they do.
use Rattle.std.specs.Prelude.{◌≡◌, ℕ, ◌+◌, List, [], ◌∷◌, length}
use Rattle.c0_source.specs.Spelling.{Lexeme}
use Rattle.c0_source.specs.declared.fault.Span.{Span}
use Rattle.c0_syntax.specs.Trees as t
use Rattle.c0_syntax.specs.Views.{type_of_kind, type_of, expression_of_kind, expression_of, expressions_of}
use Rattle.c0_syntax.specs.declared.name.Name.{Name}
use Rattle.c0_syntax.specs.declared.value_type.ValueType.{ValueType}
use Rattle.c0_syntax.specs.declared.value_type.TypeKind.{TypeKind, Basic, Struct, Named, Pointer', Array'}
use Rattle.c0_syntax.specs.declared.expression.Expression.{Expression}
use Rattle.c0_syntax.specs.declared.expression.ExpressionKind.{ExpressionKind, Row_of-Expression, end_of-Expression, more_of-Expression, Variable, Parenthesized', Call', Alloc, AllocArray', Length', Index', Field', PointerField', Unary', Binary', Conditional'}

-- a position between two tokens of a text: the tokens behind it, and where the one before it ends
pub record Position : Type 0 where
  pub tokens : List Lexeme
  pub end : ℕ

-- where the first of these tokens begins; the end of the token before, where there is none
abbrev pub start_by : List Lexeme → ℕ → ℕ
start_by [] end = end
start_by (x ∷ xs) end = x.start

-- where the next token begins
abbrev pub start_of : Position → ℕ
start_of p = start_by p.tokens p.end

-- the position behind the first of these tokens
abbrev pub skip_by : List Lexeme → ℕ → Position
skip_by [] end = record { tokens = []; end = end }
skip_by (x ∷ xs) end = record { tokens = xs; end = x.start + length x.text }

-- the position behind the next token
abbrev pub skip : Position → Position
skip p = skip_by p.tokens p.end

-- a part has the place of all tokens from one position to another
abbrev pub IsPlaced : Span → Position → Position → Type 0
IsPlaced span first last = (span.start ≡ start_of first) × (span.end ≡ last.end)

-- a name is the next token
abbrev pub PlacedName : Position → Name → Type 0
PlacedName p x = IsPlaced x.span p (skip p)

-- ---- types

-- the position behind a type whose first token is the next one
abbrev pub after_type : t.ValueType → Position → Position
after_type (t.Basic b) p = skip p
after_type (t.StructType x) p = skip (skip p)
after_type (t.NamedType x) p = skip p
after_type (t.Pointer a) p = skip (after_type a p)
after_type (t.Array a) p = skip (skip (after_type a p))

-- each part of a type by its kind has the place of its tokens, the first of which is the next one
abbrev pub PlacedTypeKind : Position → TypeKind → Type 0
PlacedTypeKind p (Basic b) = Unit {0}
PlacedTypeKind p (Struct x) = PlacedName (skip p) x
PlacedTypeKind p (Named x) = PlacedName p x
PlacedTypeKind p (Pointer' q kind span) = IsPlaced span p (after_type (type_of_kind kind) p) × PlacedTypeKind p kind
PlacedTypeKind p (Array' q kind span) = IsPlaced span p (after_type (type_of_kind kind) p) × PlacedTypeKind p kind

-- ... and the type itself
abbrev pub PlacedType : Position → ValueType → Type 0
PlacedType p x = IsPlaced x.span p (after_type (type_of x) p) × PlacedTypeKind p x.kind

-- ---- expressions

abbrev mutual
  -- the position behind an expression
  pub after_expression : t.Expression → Position → Position
  after_expression (t.Number n) p = skip p
  after_expression (t.Character c) p = skip p
  after_expression (t.Truth b) p = skip p
  after_expression t.Null p = skip p
  after_expression (t.Text text) p = skip p
  after_expression (t.Variable x) p = skip p
  after_expression (t.Parenthesized e) p = skip (after_expression e (skip p))
  after_expression (t.Call f es) p = after_arguments es (skip (skip p))
  after_expression (t.Alloc ty) p = skip (after_type ty (skip (skip p)))
  after_expression (t.AllocArray ty e) p = skip (after_expression e (skip (after_type ty (skip (skip p)))))
  after_expression t.Result p = skip p
  after_expression (t.Length e) p = skip (after_expression e (skip (skip p)))
  after_expression (t.Index a i) p = skip (after_expression i (skip (after_expression a p)))
  after_expression (t.Field a x) p = skip (skip (after_expression a p))
  after_expression (t.PointerField a x) p = skip (skip (after_expression a p))
  after_expression (t.Unary op e) p = after_expression e (skip p)
  after_expression (t.Binary op a b) p = after_expression b (skip (after_expression a p))
  after_expression (t.Conditional c a b) p = after_expression b (skip (after_expression a (skip (after_expression c p))))

  -- ... behind arguments and the closing parenthesis
  pub after_arguments : t.Expressions → Position → Position
  after_arguments t.none p = skip p
  after_arguments (t.more e es) p = after_each es (skip (after_expression e p))

  -- ... behind arguments, each with the comma or the parenthesis behind it
  pub after_each : t.Expressions → Position → Position
  after_each t.none p = p
  after_each (t.more e es) p = after_each es (skip (after_expression e p))

-- the place of an expression by its kind is that of its tokens
abbrev pub Spans : Position → ExpressionKind → Span → Type 0
Spans p kind span = IsPlaced span p (after_expression (expression_of_kind kind) p)

abbrev mutual
  -- each part of an expression by its kind has the place of its tokens
  pub PlacedKind : Position → ExpressionKind → Type 0
  PlacedKind p (Variable x) = PlacedName p x
  PlacedKind p (Parenthesized' q e at) = (Spans (skip p) e at × PlacedKind (skip p) e)
  PlacedKind p (Call' f shape es) = PlacedName p f × PlacedRow (skip (skip p)) es
  PlacedKind p (Alloc ty) = PlacedType (skip (skip p)) ty
  PlacedKind p (AllocArray' ty q e at) = PlacedType (skip (skip p)) ty × (Spans (skip (after_type (type_of ty) (skip (skip p)))) e at × PlacedKind (skip (after_type (type_of ty) (skip (skip p)))) e)
  PlacedKind p (Length' q e at) = (Spans (skip (skip p)) e at × PlacedKind (skip (skip p)) e)
  PlacedKind p (Index' q a at r i here) = (Spans p a at × PlacedKind p a) × (Spans (skip (after_expression (expression_of_kind a) p)) i here × PlacedKind (skip (after_expression (expression_of_kind a) p)) i)
  PlacedKind p (Field' q a at x) = (Spans p a at × PlacedKind p a) × PlacedName (skip (after_expression (expression_of_kind a) p)) x
  PlacedKind p (PointerField' q a at x) = (Spans p a at × PlacedKind p a) × PlacedName (skip (after_expression (expression_of_kind a) p)) x
  PlacedKind p (Unary' op q e at) = (Spans (skip p) e at × PlacedKind (skip p) e)
  PlacedKind p (Binary' op q a at r b here) = (Spans p a at × PlacedKind p a) × (Spans (skip (after_expression (expression_of_kind a) p)) b here × PlacedKind (skip (after_expression (expression_of_kind a) p)) b)
  PlacedKind p (Conditional' q c at r a here s b there) =
      (Spans p c at × PlacedKind p c) × (Spans (skip (after_expression (expression_of_kind c) p)) a here × PlacedKind (skip (after_expression (expression_of_kind c) p)) a) × (Spans (skip (after_expression (expression_of_kind a) (skip (after_expression (expression_of_kind c) p)))) b there × PlacedKind (skip (after_expression (expression_of_kind a) (skip (after_expression (expression_of_kind c) p)))) b)
  PlacedKind p _ = Unit {0}

  -- ... and each argument, which has one token behind it
  pub PlacedRow : {m : _} → Position → Row_of-Expression m → Type 0
  PlacedRow p end_of-Expression = Unit {0}
  PlacedRow p (more_of-Expression e at rest) = (Spans p e at × PlacedKind p e) × PlacedRow (skip (after_expression (expression_of_kind e) p)) rest

-- each part of an expression has the place of its tokens, the first of which is the next one
abbrev pub PlacedExpression : Position → Expression → Type 0
PlacedExpression p e = Spans p e.kind e.span × PlacedKind p e.kind

-- ... of arguments, each of which has one token behind it
abbrev pub PlacedArguments : Position → List Expression → Type 0
PlacedArguments p [] = Unit {0}
PlacedArguments p (e ∷ es) = PlacedExpression p e × PlacedArguments (skip (after_expression (expression_of e) p)) es

-- ---- trees between two positions

-- a name is all that stands between these positions
abbrev pub NameStands : Position → Name → Position → Type 0
NameStands p x q = PlacedName p x × (skip p ≡ q)

-- ... a type
abbrev pub TypeStands : Position → ValueType → Position → Type 0
TypeStands p x q = PlacedType p x × (after_type (type_of x) p ≡ q)

-- ... an expression
abbrev pub ExpressionStands : Position → Expression → Position → Type 0
ExpressionStands p e q = PlacedExpression p e × (after_expression (expression_of e) p ≡ q)

-- ... the arguments of a call, and the closing parenthesis
abbrev pub ArgumentsStand : Position → List Expression → Position → Type 0
ArgumentsStand p es q = PlacedArguments p es × (after_arguments (expressions_of es) p ≡ q)
