-- Trees as code holds them, without the places of their tokens.
use Rattle.std.specs.Prelude.{ℕ, true, false, List, [], ◌∷◌, map, option_map}
use Rattle.std.specs.String.{string_bytes}
use Rattle.c0_syntax.specs.Trees as t
use Rattle.c0_syntax.specs.declared.name.Name.{Name}
use Rattle.c0_syntax.specs.declared.value_type.ValueType.{ValueType}
use Rattle.c0_syntax.specs.declared.value_type.TypeKind.{TypeKind, Basic, Struct, Named, Pointer', Array'}
use Rattle.c0_syntax.specs.declared.expression.Expression.{Expression}
use Rattle.c0_syntax.specs.declared.expression.ExpressionKind.{ExpressionKind, Row_of-Expression, end_of-Expression, more_of-Expression, Number, Character, Truth, Null, Text, Variable, Parenthesized', Call', Alloc, AllocArray', Result, Length', Index', Field', PointerField', Unary', Binary', Conditional'}
use Rattle.c0_syntax.specs.declared.statement.SpecKind.{SpecKind}
use Rattle.c0_syntax.specs.declared.statement.SpecKind.TheVariants as k
use Rattle.c0_syntax.specs.declared.statement.Spec.{Spec}
use Rattle.c0_syntax.specs.declared.statement.Annotation.{Annotation}
use Rattle.c0_syntax.specs.declared.statement.SimpleStatement.{SimpleStatement}
use Rattle.c0_syntax.specs.declared.statement.SimpleKind.{SimpleKind}
use Rattle.c0_syntax.specs.declared.statement.SimpleKind.TheVariants as s
use Rattle.c0_syntax.specs.declared.statement.Statement.{Statement}
use Rattle.c0_syntax.specs.declared.statement.StatementKind.{StatementKind, Row_of-Statement, end_of-Statement, more_of-Statement, Simple, Block', Annotated, Return, ReturnValue, If', IfElse', While', For', Assert, Error, Break, Continue}
use Rattle.c0_syntax.specs.declared.program.TypedName.{TypedName}
use Rattle.c0_syntax.specs.declared.program.Header.{Header}
use Rattle.c0_syntax.specs.declared.program.DeclarationKind.{DeclarationKind}
use Rattle.c0_syntax.specs.declared.program.DeclarationKind.TheVariants as d
use Rattle.c0_syntax.specs.declared.program.Declaration.{Declaration}
use Rattle.c0_syntax.specs.declared.program.Program.{Program}

-- the letters of a name
abbrev pub name_of : Name → List ℕ
name_of x = string_bytes x.text

-- a type by its kind
abbrev pub type_of_kind : TypeKind → t.ValueType
type_of_kind (Basic b) = t.Basic b
type_of_kind (Struct x) = t.StructType (name_of x)
type_of_kind (Named x) = t.NamedType (name_of x)
type_of_kind (Pointer' p kind span) = t.Pointer (type_of_kind kind)
type_of_kind (Array' p kind span) = t.Array (type_of_kind kind)

-- a type
abbrev pub type_of : ValueType → t.ValueType
type_of x = type_of_kind x.kind

abbrev mutual
  -- an expression by its kind
  pub expression_of_kind : ExpressionKind → t.Expression
  expression_of_kind (Number n) = t.Number n
  expression_of_kind (Character c) = t.Character c
  expression_of_kind (Truth b) = t.Truth b
  expression_of_kind Null = t.Null
  expression_of_kind (Text text) = t.Text (string_bytes text)
  expression_of_kind (Variable x) = t.Variable (name_of x)
  expression_of_kind (Parenthesized' p e at) = t.Parenthesized (expression_of_kind e)
  expression_of_kind (Call' f shape es) = t.Call (name_of f) (row_of es)
  expression_of_kind (Alloc ty) = t.Alloc (type_of ty)
  expression_of_kind (AllocArray' ty p e at) = t.AllocArray (type_of ty) (expression_of_kind e)
  expression_of_kind Result = t.Result
  expression_of_kind (Length' p e at) = t.Length (expression_of_kind e)
  expression_of_kind (Index' p a at q i here) = t.Index (expression_of_kind a) (expression_of_kind i)
  expression_of_kind (Field' p a at x) = t.Field (expression_of_kind a) (name_of x)
  expression_of_kind (PointerField' p a at x) = t.PointerField (expression_of_kind a) (name_of x)
  expression_of_kind (Unary' op p e at) = t.Unary op (expression_of_kind e)
  expression_of_kind (Binary' op p a at q b here) = t.Binary op (expression_of_kind a) (expression_of_kind b)
  expression_of_kind (Conditional' p c at q a here r b there) = t.Conditional (expression_of_kind c) (expression_of_kind a) (expression_of_kind b)

  -- arguments
  pub row_of : {m : _} → Row_of-Expression m → t.Expressions
  row_of end_of-Expression = t.none
  row_of (more_of-Expression e at rest) = t.more (expression_of_kind e) (row_of rest)

-- an expression
abbrev pub expression_of : Expression → t.Expression
expression_of e = expression_of_kind e.kind

-- expressions in order
abbrev pub expressions_of : List Expression → t.Expressions
expressions_of [] = t.none
expressions_of (e ∷ es) = t.more (expression_of e) (expressions_of es)

-- a spec
abbrev pub spec_by : SpecKind → t.Expression → t.Spec
spec_by (k.Contract clause) e = t.Contract clause e
spec_by k.Assert e = t.Asserts e

-- ... as code holds it
abbrev pub spec_of : Spec → t.Spec
spec_of s = spec_by s.kind (expression_of s.condition)

-- an annotation
abbrev pub annotation_of : Annotation → List t.Spec
annotation_of a = map spec_of a.specs.items

-- a simple statement by its kind
abbrev pub simple_of_kind : SimpleKind → t.SimpleStatement
simple_of_kind (s.Declare ty x) = t.Declare (type_of ty) (name_of x)
simple_of_kind (s.Initialize ty x e) = t.Initialize (type_of ty) (name_of x) (expression_of e)
simple_of_kind (s.Assign a b) = t.Assign (expression_of a) (expression_of b)
simple_of_kind (s.Update a op b) = t.Update (expression_of a) op (expression_of b)
simple_of_kind (s.Step a way) = t.Step (expression_of a) way
simple_of_kind (s.Evaluate e) = t.Evaluate (expression_of e)

-- a simple statement
abbrev pub simple_of : SimpleStatement → t.SimpleStatement
simple_of x = simple_of_kind x.kind

abbrev mutual
  -- a statement by its kind
  pub statement_of_kind : StatementKind → t.Statement
  statement_of_kind (Simple x) = t.Simple (simple_of x)
  statement_of_kind (Block' shape ss) = t.Block (statement_row ss)
  statement_of_kind (Annotated a) = t.Annotation (annotation_of a)
  statement_of_kind Return = t.Return
  statement_of_kind (ReturnValue e) = t.ReturnValue (expression_of e)
  statement_of_kind (If' c p a at) = t.If (expression_of c) (statement_of_kind a)
  statement_of_kind (IfElse' c p a at q b here) = t.IfElse (expression_of c) (statement_of_kind a) (statement_of_kind b)
  statement_of_kind (While' c notes p a at) = t.While (expression_of c) (map annotation_of notes.items) (statement_of_kind a)
  statement_of_kind (For' first c third notes p a at) = t.For (option_map simple_of first) (expression_of c) (option_map simple_of third) (map annotation_of notes.items) (statement_of_kind a)
  statement_of_kind (Assert e) = t.Assert (expression_of e)
  statement_of_kind (Error e) = t.Error (expression_of e)
  statement_of_kind Break = t.Break
  statement_of_kind Continue = t.Continue

  -- statements in a vector within a statement
  pub statement_row : {m : _} → Row_of-Statement m → t.Statements
  statement_row end_of-Statement = t.nothing
  statement_row (more_of-Statement a at rest) = t.also (statement_of_kind a) (statement_row rest)

-- a statement
abbrev pub statement_of : Statement → t.Statement
statement_of x = statement_of_kind x.kind

-- statements in order
abbrev pub statements_of : List Statement → t.Statements
statements_of [] = t.nothing
statements_of (x ∷ rest) = t.also (statement_of x) (statements_of rest)

-- a parameter or a field
abbrev pub typed_name_of : TypedName → t.TypedName
typed_name_of x = record { value_type = type_of x.value_type; name = name_of x.name }

-- a function up to its body
abbrev pub header_of : Header → t.Header
header_of h = record {
  result = type_of h.result;
  name = name_of h.name;
  parameters = map typed_name_of h.parameters.items;
  annotations = map annotation_of h.annotations.items;
}

-- a declaration by its kind
abbrev pub declaration_of_kind : DeclarationKind → t.Declaration
declaration_of_kind (d.UseName text) = t.UseLibrary true (string_bytes text)
declaration_of_kind (d.UseText text) = t.UseLibrary false (string_bytes text)
declaration_of_kind (d.DeclareStruct x) = t.DeclareStruct (name_of x)
declaration_of_kind (d.DefineStruct x fields) = t.DefineStruct (name_of x) (map typed_name_of fields.items)
declaration_of_kind (d.Typedef ty x) = t.Typedef (type_of ty) (name_of x)
declaration_of_kind (d.DeclareFunction h) = t.DeclareFunction (header_of h)
declaration_of_kind (d.DefineFunction h body) = t.DefineFunction (header_of h) (statements_of body.items)

-- a declaration
abbrev pub declaration_of : Declaration → t.Declaration
declaration_of x = declaration_of_kind x.kind

-- a program
abbrev pub program_of : Program → t.Program
program_of p = map declaration_of p.declarations.items
