-- Types and expressions, read from left to right with the first fault that is met.
use Rattle.std.specs.Prelude.{ℕ, zero, suc, max, List, length, Option, Some, None, Ok, nat_lt, if◌then◌else◌}
use Rattle.c0_source.specs.declared.kind.Kind.{Kind}
use Rattle.c0_source.specs.declared.kind.Kind.TheVariants as k
use Rattle.c0_source.specs.declared.kind.Operator.{Operator}
use Rattle.c0_source.specs.declared.kind.Operator.TheVariants as o
use Rattle.c0_syntax.specs.declared.operator.PrefixOperator.{PrefixOperator}
use Rattle.c0_syntax.specs.declared.operator.PrefixOperator.TheVariants as p
use Rattle.c0_source.specs.Terminals.{Terminal}
use Rattle.c0_syntax.specs.Trees.{ValueType, Basic, StructType, NamedType, Pointer, Array, Expression, Number, Character, Truth, Null, Text, Variable, Parenthesized, Call, Alloc, AllocArray, Result, Length, Index, Field, PointerField, Unary, Binary, Conditional, Expressions, none, more}
use Rattle.c0_syntax.specs.Expressions.{operator_precedence, precedence}
use Rattle.c0_grammar_laws.specs.Outcome.{Outcome, ◌>>=◌, refuse, too_deep, kind_at, plain_at, bytes_at, next, lparen, rparen, rbracket, comma, colon, any_name}

-- ---- types

-- what was read: a type, how many nodes are on its longest path, and the tokens behind it
pub record ReadType : Type 0 where
  pub value_type : ValueType
  pub height : ℕ
  pub rest : List Terminal

-- a type of one node
abbrev pub leaf_type : ValueType → List Terminal → ReadType
leaf_type t rest = record { value_type = t; height = 1; rest = rest }

-- a type without `*` and `[]`, by the kind of its first token
abbrev pub base_by : Kind → List Terminal → Outcome ReadType
base_by (k.Base b) ts = Ok (leaf_type (Basic b) (next ts))
base_by k.Struct ts = any_name (next ts) >>= λ x. Ok (leaf_type (StructType x.value) x.rest)
base_by k.TypeName ts = Ok (leaf_type (NamedType (bytes_at ts)) (next ts))
base_by _ ts = refuse ts

-- the type with the `*` that stands behind it
abbrev pub pointer_to : ReadType → ReadType
pointer_to t = record { value_type = Pointer t.value_type; height = suc t.height; rest = next t.rest }

-- the type with `[]`
abbrev pub array_of : ReadType → List Terminal → ReadType
array_of t rest = record { value_type = Array t.value_type; height = suc t.height; rest = rest }

-- the type with the `[]` whose `[` stands behind it
abbrev pub array_behind : ReadType → Outcome ReadType
array_behind t = rbracket (next t.rest) >>= λ rest. Ok (array_of t rest)

-- one more `*` or `[]`, where the type may have this many levels
abbrev pub suffix_by : ℕ → (ReadType → Outcome ReadType) → Kind → ReadType → Outcome ReadType
suffix_by limit go_on (k.Infix o.Multiply) t = if nat_lt t.height limit then go_on (pointer_to t) else too_deep t.rest
suffix_by limit go_on k.LBracket t = if nat_lt t.height limit then rbracket (next t.rest) >>= (λ rest. go_on (array_of t rest)) else too_deep t.rest
suffix_by limit go_on _ t = Ok t

-- the signs behind a type, at most `n` of them, where it may have `limit` nodes on a path
unfoldable pub suffixes : ℕ → ℕ → ReadType → Outcome ReadType
suffixes limit zero t = too_deep t.rest
suffixes limit (suc n) t = suffix_by limit (suffixes limit n) (plain_at t.rest) t

-- a type of at most so many nodes on a path
unfoldable pub read_type : List (List ℕ) → ℕ → List Terminal → Outcome ReadType
read_type types zero ts = too_deep ts
read_type types (suc d) ts = base_by (kind_at types ts) ts >>= suffixes (suc d) (suc d)

-- ---- expressions

-- what was read: a tree, its height, and the tokens after it
pub record ReadExpression : Type 0 where
  pub tree : Expression
  pub height : ℕ
  pub rest : List Terminal

-- the arguments of a call, the nodes on their longest path, and the tokens behind the closing parenthesis
pub record ReadArguments : Type 0 where
  pub trees : Expressions
  pub height : ℕ
  pub rest : List Terminal

-- an expression of one node
abbrev pub leaf : Expression → List Terminal → Outcome ReadExpression
leaf t rest = Ok (record { tree = t; height = 1; rest = rest })

-- the operator before an operand that a sign is
abbrev pub prefix_of : Kind → Option PrefixOperator
prefix_of k.Bang = Some p.Not
prefix_of k.Tilde = Some p.Complement
prefix_of (k.Infix o.Subtract) = Some p.Negate
prefix_of (k.Infix o.Multiply) = Some p.Dereference
prefix_of _ = None

-- the operator between two operands that a sign is
abbrev pub operator_of : Kind → Option Operator
operator_of (k.Infix op) = Some op
operator_of _ = None

-- one more argument, before the others
abbrev pub add_first : ReadExpression → ReadArguments → ReadArguments
add_first x xs = record { trees = more x.tree xs.trees; height = max x.height xs.height; rest = xs.rest }

-- inner: an expression that has at least this strength; the tree below has one level less to go
module _ (types : List (List ℕ)) (inner : ℕ → List Terminal → Outcome ReadExpression) (inner_type : List Terminal → Outcome ReadType) where
  -- what follows an argument
  abbrev pub after_argument : (List Terminal → Outcome ReadArguments) → Kind → ReadExpression → Outcome ReadArguments
  after_argument others k.Comma x = others (next x.rest) >>= λ xs. Ok (add_first x xs)
  after_argument others k.RParen x = Ok (record { trees = more x.tree none; height = x.height; rest = next x.rest })
  after_argument others _ x = refuse x.rest

  -- one argument or more and the closing parenthesis, at most `n` of them
  unfoldable pub arguments : ℕ → List Terminal → Outcome ReadArguments
  arguments zero ts = refuse ts
  arguments (suc n) ts = inner 1 ts >>= λ x. after_argument (arguments n) (plain_at x.rest) x

  -- the arguments of a call, by the kind of the token behind `(`
  abbrev pub arguments_by : Kind → List Terminal → Outcome ReadArguments
  arguments_by k.RParen ts = Ok (record { trees = none; height = 0; rest = next ts })
  arguments_by _ ts = arguments (length ts) ts

  -- after a name
  abbrev pub named_by : Kind → List ℕ → List Terminal → Outcome ReadExpression
  named_by k.LParen x ts =
      arguments_by (plain_at (next ts)) (next ts) >>= λ es. Ok (record { tree = Call x es.trees; height = suc es.height; rest = es.rest })
  named_by _ x ts = leaf (Variable x) ts

  -- an expression and `)`
  unfoldable pub parenthesized : List Terminal → Outcome ReadExpression
  parenthesized ts = inner 1 ts >>= λ e. rparen e.rest >>= λ rest. Ok (record { tree = Parenthesized e.tree; height = suc e.height; rest = rest })

  -- what stands behind `alloc`
  unfoldable pub alloc : List Terminal → Outcome ReadExpression
  alloc ts = lparen ts >>= λ us. inner_type us >>= λ t. rparen t.rest >>= λ rest. Ok (record { tree = Alloc t.value_type; height = suc t.height; rest = rest })

  -- what stands behind `alloc_array`
  unfoldable pub alloc_array : List Terminal → Outcome ReadExpression
  alloc_array ts =
      lparen ts >>= λ us. inner_type us >>= λ t. comma t.rest >>= λ vs. inner 1 vs >>= λ e. rparen e.rest
      >>= λ rest. Ok (record { tree = AllocArray t.value_type e.tree; height = suc (max t.height e.height); rest = rest })

  -- what stands behind `\length`
  unfoldable pub length_of : List Terminal → Outcome ReadExpression
  length_of ts = lparen ts >>= λ us. inner 1 us >>= λ e. rparen e.rest >>= λ rest. Ok (record { tree = Length e.tree; height = suc e.height; rest = rest })

  -- an expression without operators, by the kind of its first token
  abbrev pub primary_by : Kind → List Terminal → Outcome ReadExpression
  primary_by (k.Number n) ts = leaf (Number n) (next ts)
  primary_by (k.Character c) ts = leaf (Character c) (next ts)
  primary_by (k.Truth b) ts = leaf (Truth b) (next ts)
  primary_by k.Null ts = leaf Null (next ts)
  primary_by k.Text ts = leaf (Text (bytes_at ts)) (next ts)
  primary_by k.Name ts = named_by (plain_at (next ts)) (bytes_at ts) (next ts)
  primary_by k.LParen ts = parenthesized (next ts)
  primary_by k.Alloc ts = alloc (next ts)
  primary_by k.AllocArray ts = alloc_array (next ts)
  primary_by k.Result ts = leaf Result (next ts)
  primary_by k.Length ts = length_of (next ts)
  primary_by _ ts = refuse ts

  -- an expression without operators, up to what stands behind it
  unfoldable pub primary : List Terminal → Outcome ReadExpression
  primary ts = primary_by (kind_at types ts) ts

  -- the index behind an expression, whose `[` stands next
  abbrev pub index : ReadExpression → Outcome ReadExpression
  index a = inner 1 (next a.rest) >>= λ i. rbracket i.rest >>= λ rest. Ok (record { tree = Index a.tree i.tree; height = suc (max a.height i.height); rest = rest })

  -- the field behind an expression, whose `.` stands next
  abbrev pub field : ReadExpression → Outcome ReadExpression
  field a = any_name (next a.rest) >>= λ x. Ok (record { tree = Field a.tree x.value; height = suc a.height; rest = x.rest })

  -- the field behind an expression, whose `->` stands next
  abbrev pub pointer_field : ReadExpression → Outcome ReadExpression
  pointer_field a = any_name (next a.rest) >>= λ x. Ok (record { tree = PointerField a.tree x.value; height = suc a.height; rest = x.rest })

  -- one more step behind a primary, where the tree may have this many levels
  abbrev pub postfix_by : ℕ → (ReadExpression → Outcome ReadExpression) → Kind → ReadExpression → Outcome ReadExpression
  postfix_by limit go_on k.LBracket a = if nat_lt a.height limit then index a >>= go_on else too_deep a.rest
  postfix_by limit go_on k.Dot a = if nat_lt a.height limit then field a >>= go_on else too_deep a.rest
  postfix_by limit go_on k.Arrow a = if nat_lt a.height limit then pointer_field a >>= go_on else too_deep a.rest
  postfix_by limit go_on _ a = Ok a

  -- the indexes and fields behind an expression, at most `n` of them
  unfoldable pub postfix : ℕ → ℕ → ReadExpression → Outcome ReadExpression
  postfix limit zero a = too_deep a.rest
  postfix limit (suc n) a = postfix_by limit (postfix limit n) (plain_at a.rest) a

  -- an operand, by the operator that it begins with
  abbrev pub unary_by : ℕ → Option PrefixOperator → List Terminal → Outcome ReadExpression
  unary_by limit (Some u) ts = inner 12 (next ts) >>= λ r. Ok (record { tree = Unary u r.tree; height = suc r.height; rest = r.rest })
  unary_by limit None ts = primary ts >>= postfix limit limit

  -- an operand: an expression with operators before it or signs behind it
  unfoldable pub unary : ℕ → List Terminal → Outcome ReadExpression
  unary limit ts = unary_by limit (prefix_of (plain_at ts)) ts

  -- an operator with its right operand, or both operands behind `?`
  abbrev pub join_by : Option Operator → ReadExpression → Outcome ReadExpression
  join_by (Some op) a =
      inner (suc (operator_precedence op)) (next a.rest) >>= λ b. Ok (record { tree = Binary op a.tree b.tree; height = suc (max a.height b.height); rest = b.rest })
  join_by None c =
      inner 1 (next c.rest) >>= λ a. colon a.rest >>= λ us. inner 1 us
      >>= λ b. Ok (record { tree = Conditional c.tree a.tree b.tree; height = suc (max c.height (max a.height b.height)); rest = b.rest })

  -- the expression with the operator that stands next
  unfoldable pub join : ReadExpression → Outcome ReadExpression
  join a = join_by (operator_of (plain_at a.rest)) a

  -- the operators behind an operand that bind at least as tightly as `least`, at most `n` of them
  unfoldable pub climb : ℕ → ℕ → ℕ → ReadExpression → Outcome ReadExpression
  climb limit least zero a = too_deep a.rest
  climb limit least (suc n) a =
      if nat_lt (precedence (plain_at a.rest)) least then Ok a
      else (if nat_lt a.height limit then join a >>= climb limit least n else too_deep a.rest)

  -- an operand and the operators behind it
  unfoldable pub whole : ℕ → ℕ → List Terminal → Outcome ReadExpression
  whole limit least ts = unary limit ts >>= climb limit least limit

-- an expression of at least this strength, of at most `depth` levels
unfoldable pub read_expression : List (List ℕ) → ℕ → ℕ → List Terminal → Outcome ReadExpression
read_expression types zero least ts = too_deep ts
read_expression types (suc depth) least ts = whole types (read_expression types depth) (read_type types depth) (suc depth) least ts
