-- First tokens and lengths of statements and annotations.
use Rattle.std.proofs.Common.{◌≡◌, ℕ, suc, ◌+◌, ◌<◌, ◌≤◌, Bool, true, false, List, [], ◌∷◌, length, Option, Some, None, subst, arith}
use Rattle.c0_source.specs.declared.kind.Kind.{Kind}
use Rattle.c0_source.specs.declared.kind.Kind.TheVariants as k
use Rattle.c0_source.specs.declared.kind.Operator.TheVariants as o
use Rattle.c0_syntax.specs.declared.operator.PrefixOperator.{PrefixOperator}
use Rattle.c0_syntax.specs.declared.operator.PrefixOperator.TheVariants as p
use Rattle.c0_source.specs.Terminals.{Terminal, Word, Sign}
use Rattle.c0_syntax.specs.Trees.{ValueType, Basic, StructType, NamedType, Pointer, Array, Expression, Variable, Call, Index, Field, PointerField, Unary, Binary, Conditional, Spec, Contract, Asserts, SimpleStatement, Declare, Initialize, Assign, Update, Step, Evaluate, Statement, Simple, Block, Annotation, Return, ReturnValue, If, IfElse, While, For, Assert, Error, Break, Continue, Statements, nothing, also}
use Rattle.c0_syntax.specs.Expressions.{is_type_name, emit_type, emit_expression, prefix_sign, FormedType, FormedExpression}
use Rattle.c0_syntax.specs.Statements.{emit_spec, emit_specs, emit_annotations, change_sign, emit_simple, emit_option, emit_statement, emit_statements, IsLoopBody}
use Rattle.c0_grammar_laws.specs.Outcome.{real, name_kind, kind_at, plain_at}
use Rattle.c0_grammar_laws.proofs.Types.{longer_type}
use Rattle.c0_grammar_laws.proofs.Turns.{Names, BeginsExpression, begins_expression, longer}

-- ---- first tokens

prefix_at : (u : PrefixOperator) → BeginsExpression (real (prefix_sign u))
prefix_at p.Not = tt
prefix_at p.Complement = tt
prefix_at p.Negate = tt
prefix_at p.Dereference = tt

free_begins : (b : Bool) → b ≡ false → BeginsExpression (name_kind b)
free_begins true e = absurd cc
free_begins false e = tt

pub begins_at : (types : Names) (least : ℕ) (t : Expression) (rest : List Terminal) → FormedExpression types least t → BeginsExpression (kind_at types (emit_expression t rest))
begins_at types least (Variable x) rest l = free_begins (is_type_name types x) l
begins_at types least (Call f es) rest l = free_begins (is_type_name types f) l.0
begins_at types least (Index a i) rest l = begins_at types 13 a (Sign k.LBracket ∷ emit_expression i (Sign k.RBracket ∷ rest)) l.0
begins_at types least (Field a x) rest l = begins_at types 13 a (Sign k.Dot ∷ Word x ∷ rest) l
begins_at types least (PointerField a x) rest l = begins_at types 13 a (Sign k.Arrow ∷ Word x ∷ rest) l
begins_at types least (Unary u e) rest l = prefix_at u
begins_at types least (Binary op a b) rest l = begins_at types _ a (Sign (k.Infix op) ∷ emit_expression b rest) l.1
begins_at types least (Conditional c a b) rest l = begins_at types 2 c (Sign k.Question ∷ emit_expression a (Sign k.Colon ∷ emit_expression b rest)) l.1
begins_at types least _ rest l = tt

-- a type
abbrev pub BeginsType : Kind → Type 0
BeginsType (k.Base b) = Unit {0}
BeginsType k.Struct = Unit {0}
BeginsType k.TypeName = Unit {0}
BeginsType _ = ⊥

type_begins : (b : Bool) → b ≡ true → BeginsType (name_kind b)
type_begins true e = tt
type_begins false e = absurd cc

pub begins_type : (types : Names) (t : ValueType) (rest : List Terminal) → FormedType types t → BeginsType (kind_at types (emit_type t rest))
begins_type types (Basic b) rest w = tt
begins_type types (StructType x) rest w = tt
begins_type types (NamedType x) rest w = type_begins (is_type_name types x) w
begins_type types (Pointer t) rest w = begins_type types t (Sign (k.Infix o.Multiply) ∷ rest) w
begins_type types (Array t) rest w = begins_type types t (Sign k.LBracket ∷ Sign k.RBracket ∷ rest) w

-- a simple statement, where no name is looked up
abbrev pub BeginsSimple : Kind → Type 0
BeginsSimple (k.Base b) = Unit {0}
BeginsSimple k.Struct = Unit {0}
BeginsSimple kind = BeginsExpression kind

expression_simple : (kind : Kind) → BeginsExpression kind → BeginsSimple kind
expression_simple (k.Base b) e = tt
expression_simple k.Struct e = tt
expression_simple _ e = e

pub plain_type : (t : ValueType) (rest : List Terminal) → BeginsSimple (plain_at (emit_type t rest))
plain_type (Basic b) rest = tt
plain_type (StructType x) rest = tt
plain_type (NamedType x) rest = tt
plain_type (Pointer t) rest = plain_type t (Sign (k.Infix o.Multiply) ∷ rest)
plain_type (Array t) rest = plain_type t (Sign k.LBracket ∷ Sign k.RBracket ∷ rest)

plain_expression : (e : Expression) (rest : List Terminal) → BeginsSimple (plain_at (emit_expression e rest))
plain_expression e rest = expression_simple (plain_at (emit_expression e rest)) (begins_expression e rest)

pub begins_simple : (s : SimpleStatement) (rest : List Terminal) → BeginsSimple (plain_at (emit_simple s rest))
begins_simple (Declare t x) rest = plain_type t (Word x ∷ rest)
begins_simple (Initialize t x e) rest = plain_type t (Word x ∷ Sign k.Assign ∷ emit_expression e rest)
begins_simple (Assign a b) rest = plain_expression a (Sign k.Assign ∷ emit_expression b rest)
begins_simple (Update a op b) rest = plain_expression a (Sign (k.Update op) ∷ emit_expression b rest)
begins_simple (Step a way) rest = plain_expression a (Sign (change_sign way) ∷ rest)
begins_simple (Evaluate e) rest = plain_expression e rest

-- neither `}` nor `else`
abbrev pub BeginsStatement : Kind → Type 0
BeginsStatement k.RBrace = ⊥
BeginsStatement k.Else = ⊥
BeginsStatement _ = Unit {0}

simple_statement : (kind : Kind) → BeginsSimple kind → BeginsStatement kind
simple_statement k.RBrace b = b
simple_statement k.Else b = b
simple_statement _ b = tt

pub begins_statement : (s : Statement) (rest : List Terminal) → BeginsStatement (plain_at (emit_statement s rest))
begins_statement (Simple s) rest = simple_statement (plain_at (emit_simple s (Sign k.Semi ∷ rest))) (begins_simple s (Sign k.Semi ∷ rest))
begins_statement _ rest = tt

-- no annotation
abbrev pub BeginsBody : Kind → Type 0
BeginsBody k.Begin = ⊥
BeginsBody _ = Unit {0}

simple_body : (kind : Kind) → BeginsSimple kind → BeginsBody kind
simple_body k.Begin b = b
simple_body _ b = tt

pub begins_body : (s : Statement) (rest : List Terminal) → IsLoopBody s → BeginsBody (plain_at (emit_statement s rest))
begins_body (Simple s) rest b = simple_body (plain_at (emit_simple s (Sign k.Semi ∷ rest))) (begins_simple s (Sign k.Semi ∷ rest))
begins_body (Annotation a) rest b = absurd b
begins_body _ rest b = tt

not_else_by : (kind : Kind) → BeginsStatement kind → kind ≡ k.Else → ⊥
not_else_by kind b e = subst BeginsStatement e b

-- no statement and no closing brace is `else`
pub not_else : (ss : Statements) (rest : List Terminal) → plain_at (emit_statements ss rest) ≡ k.Else → ⊥
not_else nothing rest e = cc
not_else (also s ss) rest e = not_else_by (plain_at (emit_statement s (emit_statements ss rest))) (begins_statement s (emit_statements ss rest)) e

-- ---- lengths

pub longer_spec : (s : Spec) (rest : List Terminal) → length rest < length (emit_spec s rest)
longer_spec (Contract c e) rest = omega (arith, longer e (Sign k.Semi ∷ rest))
longer_spec (Asserts e) rest = omega (arith, longer e (Sign k.Semi ∷ rest))

pub longer_specs : (ss : List Spec) (rest : List Terminal) → length rest + length ss < length (emit_specs ss rest)
longer_specs [] rest = omega arith
longer_specs (s ∷ ss) rest = omega (arith, longer_spec s (emit_specs ss rest), longer_specs ss rest)

pub longer_annotations : (ns : List (List Spec)) (rest : List Terminal) → length rest + length ns ≤ length (emit_annotations ns rest)
longer_annotations [] rest = omega arith
longer_annotations (a ∷ ns) rest = omega (arith, longer_specs a (emit_annotations ns rest), longer_annotations ns rest)

pub longer_simple : (s : SimpleStatement) (rest : List Terminal) → length rest < length (emit_simple s rest)
longer_simple (Declare t x) rest = omega (arith, longer_type t (Word x ∷ rest))
longer_simple (Initialize t x e) rest = omega (arith, longer_type t (Word x ∷ Sign k.Assign ∷ emit_expression e rest), longer e rest)
longer_simple (Assign a b) rest = omega (arith, longer a (Sign k.Assign ∷ emit_expression b rest), longer b rest)
longer_simple (Update a op b) rest = omega (arith, longer a (Sign (k.Update op) ∷ emit_expression b rest), longer b rest)
longer_simple (Step a way) rest = omega (arith, longer a (Sign (change_sign way) ∷ rest))
longer_simple (Evaluate e) rest = longer e rest

pub longer_option : (s : Option SimpleStatement) (rest : List Terminal) → length rest ≤ length (emit_option s rest)
longer_option None rest = omega arith
longer_option (Some s) rest = omega (arith, longer_simple s rest)

abbrev pub count_statements : Statements → ℕ
count_statements nothing = 0
count_statements (also s ss) = suc (count_statements ss)

mutual
  pub longer_statement : (s : Statement) (rest : List Terminal) → length rest < length (emit_statement s rest)
  longer_statement (Simple s) rest = omega (arith, longer_simple s (Sign k.Semi ∷ rest))
  longer_statement (Block ss) rest = omega (arith, longer_statements ss rest)
  longer_statement (Annotation a) rest = omega (arith, longer_specs a rest)
  longer_statement Return rest = omega arith
  longer_statement (ReturnValue e) rest = omega (arith, longer e (Sign k.Semi ∷ rest))
  longer_statement (If c a) rest = omega (arith, longer c (Sign k.RParen ∷ emit_statement a rest), longer_statement a rest)
  longer_statement (IfElse c a b) rest = omega (arith, longer c (Sign k.RParen ∷ emit_statement a (Sign k.Else ∷ emit_statement b rest)), longer_statement a (Sign k.Else ∷ emit_statement b rest), longer_statement b rest)
  longer_statement (While c ns s) rest = omega (arith, longer c (Sign k.RParen ∷ emit_annotations ns (emit_statement s rest)), longer_annotations ns (emit_statement s rest), longer_statement s rest)
  longer_statement (For i c n ns s) rest =
      omega (arith, longer_option i (Sign k.Semi ∷ emit_expression c (Sign k.Semi ∷ emit_option n (Sign k.RParen ∷ emit_annotations ns (emit_statement s rest)))), longer c (Sign k.Semi ∷ emit_option n (Sign k.RParen ∷ emit_annotations ns (emit_statement s rest))), longer_option n (Sign k.RParen ∷ emit_annotations ns (emit_statement s rest)), longer_annotations ns (emit_statement s rest), longer_statement s rest)
  longer_statement (Assert e) rest = omega (arith, longer e (Sign k.RParen ∷ Sign k.Semi ∷ rest))
  longer_statement (Error e) rest = omega (arith, longer e (Sign k.RParen ∷ Sign k.Semi ∷ rest))
  longer_statement Break rest = omega arith
  longer_statement Continue rest = omega arith

  pub longer_statements : (ss : Statements) (rest : List Terminal) → length rest + count_statements ss < length (emit_statements ss rest)
  longer_statements nothing rest = omega arith
  longer_statements (also s ss) rest = omega (arith, longer_statement s (emit_statements ss rest), longer_statements ss rest)
