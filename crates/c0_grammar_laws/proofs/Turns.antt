-- One step of each reader of expressions.
use Rattle.std.proofs.Common.{◌≡◌, ℕ, zero, suc, ◌<◌, ◌≤◌, max, true, false, ltb, List, ◌∷◌, length, Some, None, Ok, refl, arith}
use Rattle.std.proofs.lemmas.Bool.{lt-ltb, le-ltb}
use Rattle.c0_source.specs.declared.kind.Kind.{Kind}
use Rattle.c0_source.specs.declared.kind.Kind.TheVariants as k
use Rattle.c0_source.specs.declared.kind.Operator.{Operator}
use Rattle.c0_source.specs.declared.kind.Operator.TheVariants as o
use Rattle.c0_syntax.specs.declared.operator.PrefixOperator.{PrefixOperator}
use Rattle.c0_syntax.specs.declared.operator.PrefixOperator.TheVariants as p
use Rattle.c0_source.specs.Terminals.{Terminal, Word, Sign}
use Rattle.c0_syntax.specs.Trees.{Expression, Number, Parenthesized, Call, Alloc, AllocArray, Length, Index, Field, PointerField, Unary, Binary, Conditional, Expressions, none, more}
use Rattle.c0_syntax.specs.Expressions.{emit_expression, emit_arguments, emit_more_arguments, prefix_sign, operator_precedence, precedence, FormedExpression, height_expression}
use Rattle.c0_grammar_laws.specs.Outcome.{Outcome, real, plain_at}
use Rattle.c0_grammar_laws.specs.ReadExpressions.{ReadType, ReadExpression, prefix_of, arguments, arguments_by, postfix, postfix_by, join, climb}
use Rattle.c0_grammar_laws.proofs.Types.{longer_type}

-- how tightly a token goes on with the expression before it
abbrev pub pull_by : Kind → ℕ
pull_by k.LBracket = 13
pull_by k.Dot = 13
pull_by k.Arrow = 13
pull_by k.LParen = 14
pull_by kind = precedence kind

abbrev pub pull : List Terminal → ℕ
pull ts = pull_by (plain_at ts)

-- a token that pulls less than this leaves the tree as it is
abbrev pub reach : Expression → ℕ
reach (Unary u e) = 12
reach (Binary op a b) = suc (operator_precedence op)
reach (Conditional c a b) = 1
reach _ = 13

abbrev pub found : Expression → List Terminal → ReadExpression
found t rest = record { tree = t; height = height_expression t; rest = rest }

abbrev pub Names : Type 0
Names = List (List ℕ)

abbrev pub Inner : Type 0
Inner = ℕ → List Terminal → Outcome ReadExpression

abbrev pub InnerType : Type 0
InnerType = List Terminal → Outcome ReadType

-- ---- operators

pub precedence_lt : (op : Operator) → operator_precedence op < 12
precedence_lt o.Or = omega arith
precedence_lt o.And = omega arith
precedence_lt o.BitOr = omega arith
precedence_lt o.BitXor = omega arith
precedence_lt o.BitAnd = omega arith
precedence_lt o.Equal = omega arith
precedence_lt o.NotEqual = omega arith
precedence_lt o.Less = omega arith
precedence_lt o.LessEqual = omega arith
precedence_lt o.Greater = omega arith
precedence_lt o.GreaterEqual = omega arith
precedence_lt o.ShiftLeft = omega arith
precedence_lt o.ShiftRight = omega arith
precedence_lt o.Add = omega arith
precedence_lt o.Subtract = omega arith
precedence_lt o.Multiply = omega arith
precedence_lt o.Divide = omega arith
precedence_lt o.Modulo = omega arith

pub precedence_ge : (op : Operator) → 2 ≤ operator_precedence op
precedence_ge o.Or = omega arith
precedence_ge o.And = omega arith
precedence_ge o.BitOr = omega arith
precedence_ge o.BitXor = omega arith
precedence_ge o.BitAnd = omega arith
precedence_ge o.Equal = omega arith
precedence_ge o.NotEqual = omega arith
precedence_ge o.Less = omega arith
precedence_ge o.LessEqual = omega arith
precedence_ge o.Greater = omega arith
precedence_ge o.GreaterEqual = omega arith
precedence_ge o.ShiftLeft = omega arith
precedence_ge o.ShiftRight = omega arith
precedence_ge o.Add = omega arith
precedence_ge o.Subtract = omega arith
precedence_ge o.Multiply = omega arith
precedence_ge o.Divide = omega arith
precedence_ge o.Modulo = omega arith

pub prefix_of-sign : (u : PrefixOperator) → prefix_of (real (prefix_sign u)) ≡ Some u
prefix_of-sign p.Not = refl
prefix_of-sign p.Complement = refl
prefix_of-sign p.Negate = refl
prefix_of-sign p.Dereference = refl

pub precedence-le_pull : (kind : Kind) → precedence kind ≤ pull_by kind
precedence-le_pull k.LBracket = omega arith
precedence-le_pull k.Dot = omega arith
precedence-le_pull k.Arrow = omega arith
precedence-le_pull k.LParen = omega arith
precedence-le_pull _ = omega arith

-- ---- layers

pub weaker : (types : Names) (t : Expression) (l m : ℕ) → l ≤ m → FormedExpression types m t → FormedExpression types l t
weaker types (Unary u e) l m le h = (omega (arith, h.0), h.1)
weaker types (Binary op a b) l m le h = (omega (arith, h.0), h.1, h.2)
weaker types (Conditional c a b) l m le h = (omega (arith, h.0), h.1, h.2, h.3)
weaker types _ l m le h = h

pub reach_above : (types : Names) (t : Expression) (m : ℕ) → 2 ≤ m → m < 12 → FormedExpression types m t → m < reach t
reach_above types (Unary u e) m ge lt h = lt
reach_above types (Binary op a b) m ge lt h = omega (arith, h.0)
reach_above types (Conditional c a b) m ge lt h = absurd (omega (arith, h.0))
reach_above types _ m ge lt h = omega arith

pub least-le_reach : (types : Names) (t : Expression) (m : ℕ) → m < 13 → FormedExpression types m t → m ≤ reach t
least-le_reach types (Unary u e) m lt h = h.0
least-le_reach types (Binary op a b) m lt h = omega (arith, h.0)
least-le_reach types (Conditional c a b) m lt h = h.0
least-le_reach types _ m lt h = omega arith

pub one-le_height : (t : Expression) → 1 ≤ height_expression t
one-le_height (Number n) = omega arith
one-le_height _ = omega arith

-- ---- the first token of a tree

pub no_prefix : (types : Names) (t : Expression) (rest : List Terminal) → FormedExpression types 13 t → prefix_of (plain_at (emit_expression t rest)) ≡ None
no_prefix types (Index a i) rest h = no_prefix types a (Sign k.LBracket ∷ emit_expression i (Sign k.RBracket ∷ rest)) h.0
no_prefix types (Field a x) rest h = no_prefix types a (Sign k.Dot ∷ Word x ∷ rest) h
no_prefix types (PointerField a x) rest h = no_prefix types a (Sign k.Arrow ∷ Word x ∷ rest) h
no_prefix types (Unary u e) rest h = absurd (omega (arith, h.0))
no_prefix types (Binary op a b) rest h = absurd (omega (arith, h.0, precedence_lt op))
no_prefix types (Conditional c a b) rest h = absurd (omega (arith, h.0))
no_prefix types _ rest h = refl

-- Kinds that an expression begins with: what decides by the next token takes an expression as it takes anything else.
abbrev pub BeginsExpression : Kind → Type 0
BeginsExpression (k.Number n) = Unit {0}
BeginsExpression (k.Character c) = Unit {0}
BeginsExpression (k.Truth b) = Unit {0}
BeginsExpression k.Null = Unit {0}
BeginsExpression k.Text = Unit {0}
BeginsExpression k.Name = Unit {0}
BeginsExpression k.LParen = Unit {0}
BeginsExpression k.Alloc = Unit {0}
BeginsExpression k.AllocArray = Unit {0}
BeginsExpression k.Result = Unit {0}
BeginsExpression k.Length = Unit {0}
BeginsExpression k.Bang = Unit {0}
BeginsExpression k.Tilde = Unit {0}
BeginsExpression (k.Infix o.Subtract) = Unit {0}
BeginsExpression (k.Infix o.Multiply) = Unit {0}
BeginsExpression _ = ⊥

prefix_begins : (u : PrefixOperator) → BeginsExpression (real (prefix_sign u))
prefix_begins p.Not = tt
prefix_begins p.Complement = tt
prefix_begins p.Negate = tt
prefix_begins p.Dereference = tt

pub begins_expression : (t : Expression) (rest : List Terminal) → BeginsExpression (plain_at (emit_expression t rest))
begins_expression (Index a i) rest = begins_expression a (Sign k.LBracket ∷ emit_expression i (Sign k.RBracket ∷ rest))
begins_expression (Field a x) rest = begins_expression a (Sign k.Dot ∷ Word x ∷ rest)
begins_expression (PointerField a x) rest = begins_expression a (Sign k.Arrow ∷ Word x ∷ rest)
begins_expression (Unary u e) rest = prefix_begins u
begins_expression (Binary op a b) rest = begins_expression a (Sign (k.Infix op) ∷ emit_expression b rest)
begins_expression (Conditional c a b) rest = begins_expression c (Sign k.Question ∷ emit_expression a (Sign k.Colon ∷ emit_expression b rest))
begins_expression _ rest = tt

begins_by : (types : Names) (inner : Inner) (inner_type : InnerType) (kind : Kind) (ts : List Terminal) → BeginsExpression kind → arguments_by types inner inner_type kind ts ≡ arguments types inner inner_type (length ts) ts
begins_by types inner inner_type k.RParen ts b = absurd b
begins_by types inner inner_type _ ts b = refl

pub begins : (types : Names) (inner : Inner) (inner_type : InnerType) (t : Expression) (rest ts : List Terminal) → arguments_by types inner inner_type (plain_at (emit_expression t rest)) ts ≡ arguments types inner inner_type (length ts) ts
begins types inner inner_type t rest ts = begins_by types inner inner_type (plain_at (emit_expression t rest)) ts (begins_expression t rest)

-- ---- lengths

mutual
  pub longer : (t : Expression) (rest : List Terminal) → length rest < length (emit_expression t rest)
  longer (Parenthesized e) rest = omega (arith, longer e (Sign k.RParen ∷ rest))
  longer (Call f es) rest = omega (arith, longer_first es rest)
  longer (Alloc t) rest = omega (arith, longer_type t (Sign k.RParen ∷ rest))
  longer (AllocArray t e) rest = omega (arith, longer_type t (Sign k.Comma ∷ emit_expression e (Sign k.RParen ∷ rest)), longer e (Sign k.RParen ∷ rest))
  longer (Length e) rest = omega (arith, longer e (Sign k.RParen ∷ rest))
  longer (Index a i) rest = omega (arith, longer a (Sign k.LBracket ∷ emit_expression i (Sign k.RBracket ∷ rest)), longer i (Sign k.RBracket ∷ rest))
  longer (Field a x) rest = omega (arith, longer a (Sign k.Dot ∷ Word x ∷ rest))
  longer (PointerField a x) rest = omega (arith, longer a (Sign k.Arrow ∷ Word x ∷ rest))
  longer (Unary u e) rest = omega (arith, longer e rest)
  longer (Binary op a b) rest = omega (arith, longer a (Sign (k.Infix op) ∷ emit_expression b rest), longer b rest)
  longer (Conditional c a b) rest = omega (arith, longer c (Sign k.Question ∷ emit_expression a (Sign k.Colon ∷ emit_expression b rest)), longer a (Sign k.Colon ∷ emit_expression b rest), longer b rest)
  longer _ rest = omega arith

  pub longer_first : (es : Expressions) (rest : List Terminal) → length rest < length (emit_arguments es rest)
  longer_first none rest = omega arith
  longer_first (more e es) rest = omega (arith, longer e (emit_more_arguments es rest), longer_others es rest)

  pub longer_others : (es : Expressions) (rest : List Terminal) → length rest < length (emit_more_arguments es rest)
  longer_others none rest = omega arith
  longer_others (more e es) rest = omega (arith, longer e (emit_more_arguments es rest), longer_others es rest)

abbrev pub count : Expressions → ℕ
count none = 0
count (more e es) = suc (count es)

pub count-lt : (es : Expressions) (rest : List Terminal) → count es < length (emit_more_arguments es rest)
count-lt none rest = omega arith
count-lt (more e es) rest = omega (arith, count-lt es rest, longer e (emit_more_arguments es rest))

-- ---- turns

pub postfix_stops : (types : Names) (inner : Inner) (inner_type : InnerType) (limit : ℕ) (go_on : ReadExpression → Outcome ReadExpression) (kind : Kind) (a : ReadExpression) → pull_by kind < 13 → postfix_by types inner inner_type limit go_on kind a ≡ Ok a
postfix_stops types inner inner_type limit go_on k.LBracket a lt = absurd (omega arith)
postfix_stops types inner inner_type limit go_on k.Dot a lt = absurd (omega arith)
postfix_stops types inner inner_type limit go_on k.Arrow a lt = absurd (omega arith)
postfix_stops types inner inner_type limit go_on _ a lt = refl

pub postfix_done : (types : Names) (inner : Inner) (inner_type : InnerType) (limit f : ℕ) (a : ReadExpression) → 0 < f → pull a.rest < 13 → postfix types inner inner_type limit f a ≡ Ok a
unfolding postfix
postfix_done types inner inner_type limit zero a lt h = absurd (omega arith)
postfix_done types inner inner_type limit (suc f) a lt h = postfix_stops types inner inner_type limit (postfix types inner inner_type limit f) (plain_at a.rest) a h

pub climb_done : (types : Names) (inner : Inner) (inner_type : InnerType) (limit least f : ℕ) (a : ReadExpression) → 0 < f → pull a.rest < least → climb types inner inner_type limit least f a ≡ Ok a
unfolding climb
climb_done types inner inner_type limit least zero a lt h = absurd (omega arith)
climb_done types inner inner_type limit least (suc f) a lt h =
    let e : ltb (precedence (plain_at a.rest)) least ≡ true = lt-ltb _ _ (omega (arith, precedence-le_pull (plain_at a.rest))) in
    rw e refl

pub index_turn : (types : Names) (inner : Inner) (inner_type : InnerType) (limit f : ℕ) (a i : Expression) (ha hi : ℕ) (ts rest : List Terminal) → ha < limit
    → inner 1 ts ≡ Ok (record { tree = i; height = hi; rest = Sign k.RBracket ∷ rest })
    → postfix types inner inner_type limit (suc f) (record { tree = a; height = ha; rest = Sign k.LBracket ∷ ts }) ≡ postfix types inner inner_type limit f (record { tree = Index a i; height = suc (max ha hi); rest = rest })
unfolding postfix
index_turn types inner inner_type limit f a i ha hi ts rest lt e =
    let t : ltb ha limit ≡ true = lt-ltb _ _ lt in
    rw (t, e) refl

pub field_turn : (types : Names) (inner : Inner) (inner_type : InnerType) (limit f : ℕ) (a : Expression) (x : List ℕ) (ha : ℕ) (rest : List Terminal) → ha < limit
    → postfix types inner inner_type limit (suc f) (record { tree = a; height = ha; rest = Sign k.Dot ∷ Word x ∷ rest }) ≡ postfix types inner inner_type limit f (record { tree = Field a x; height = suc ha; rest = rest })
unfolding postfix
field_turn types inner inner_type limit f a x ha rest lt =
    let t : ltb ha limit ≡ true = lt-ltb _ _ lt in
    rw t refl

pub through_turn : (types : Names) (inner : Inner) (inner_type : InnerType) (limit f : ℕ) (a : Expression) (x : List ℕ) (ha : ℕ) (rest : List Terminal) → ha < limit
    → postfix types inner inner_type limit (suc f) (record { tree = a; height = ha; rest = Sign k.Arrow ∷ Word x ∷ rest }) ≡ postfix types inner inner_type limit f (record { tree = PointerField a x; height = suc ha; rest = rest })
unfolding postfix
through_turn types inner inner_type limit f a x ha rest lt =
    let t : ltb ha limit ≡ true = lt-ltb _ _ lt in
    rw t refl

pub binary_turn : (types : Names) (inner : Inner) (inner_type : InnerType) (limit least f : ℕ) (op : Operator) (a b : Expression) (ha hb : ℕ) (ts rest : List Terminal) → ha < limit → least ≤ operator_precedence op
    → inner (suc (operator_precedence op)) ts ≡ Ok (record { tree = b; height = hb; rest = rest })
    → climb types inner inner_type limit least (suc f) (record { tree = a; height = ha; rest = Sign (k.Infix op) ∷ ts }) ≡ climb types inner inner_type limit least f (record { tree = Binary op a b; height = suc (max ha hb); rest = rest })
unfolding climb join
binary_turn types inner inner_type limit least f op a b ha hb ts rest lt le e =
    let s : ltb (operator_precedence op) least ≡ false = le-ltb _ _ le in
    let t : ltb ha limit ≡ true = lt-ltb _ _ lt in
    rw (s, t, e) refl

pub choice_turn : (types : Names) (inner : Inner) (inner_type : InnerType) (limit least f : ℕ) (c a b : Expression) (hc ha hb : ℕ) (ts us rest : List Terminal) → hc < limit → least ≤ 1
    → inner 1 ts ≡ Ok (record { tree = a; height = ha; rest = Sign k.Colon ∷ us })
    → inner 1 us ≡ Ok (record { tree = b; height = hb; rest = rest })
    → climb types inner inner_type limit least (suc f) (record { tree = c; height = hc; rest = Sign k.Question ∷ ts }) ≡ climb types inner inner_type limit least f (record { tree = Conditional c a b; height = suc (max hc (max ha hb)); rest = rest })
unfolding climb join
choice_turn types inner inner_type limit least f c a b hc ha hb ts us rest lt le ea eb =
    let s : ltb 1 least ≡ false = le-ltb _ _ le in
    let t : ltb hc limit ≡ true = lt-ltb _ _ lt in
    rw (s, t, ea, eb) refl
