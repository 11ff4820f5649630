-- Trees of programs, without the places of their tokens. A name is its letters, a text its bytes, a number its value modulo 2^32.
use Rattle.std.specs.Prelude.{ℕ, Bool, List, Option}
use Rattle.c0_source.specs.declared.kind.Base.{Base}
use Rattle.c0_source.specs.declared.kind.Operator.{Operator}
use Rattle.c0_source.specs.declared.kind.Clause.{Clause}
use Rattle.c0_syntax.specs.declared.operator.PrefixOperator.{PrefixOperator}
use Rattle.c0_syntax.specs.declared.operator.Change.{Change}

-- a type: `int` and its like, `struct s`, a name of a `typedef`, `t*`, `t[]`
pub data ValueType : Type 0 where
  Basic : Base → ValueType
  StructType : List ℕ → ValueType
  NamedType : List ℕ → ValueType
  Pointer : ValueType → ValueType
  Array : ValueType → ValueType

mutual
  -- An expression. `(e)` is a node of its own. `a[i]` is Index, `a.f` Field, `a->f` PointerField, `c ? a : b` Conditional.
  pub data Expression : Type 0 where
    Number : ℕ → Expression
    Character : ℕ → Expression
    Truth : Bool → Expression
    Null : Expression
    Text : List ℕ → Expression
    Variable : List ℕ → Expression
    Parenthesized : Expression → Expression
    Call : List ℕ → Expressions → Expression
    Alloc : ValueType → Expression
    AllocArray : ValueType → Expression → Expression
    Result : Expression
    Length : Expression → Expression
    Index : Expression → Expression → Expression
    Field : Expression → List ℕ → Expression
    PointerField : Expression → List ℕ → Expression
    Unary : PrefixOperator → Expression → Expression
    Binary : Operator → Expression → Expression → Expression
    Conditional : Expression → Expression → Expression → Expression

  -- the arguments of a call, in order
  pub data Expressions : Type 0 where
    none : Expressions
    more : Expression → Expressions → Expressions

-- a spec of an annotation: `requires`, `ensures` or `loop_invariant` with its condition, or `assert` with one
pub data Spec : Type 0 where
  Contract : Clause → Expression → Spec
  Asserts : Expression → Spec

-- A simple statement: `t x`, `t x = e`, `a = b`, `a op= b`, `a++` or `a--`, or an expression.
pub data SimpleStatement : Type 0 where
  Declare : ValueType → List ℕ → SimpleStatement
  Initialize : ValueType → List ℕ → Expression → SimpleStatement
  Assign : Expression → Expression → SimpleStatement
  Update : Expression → Operator → Expression → SimpleStatement
  Step : Expression → Change → SimpleStatement
  Evaluate : Expression → SimpleStatement

mutual
  -- A statement. The lists of lists of specs are the annotations behind a loop's header.
  pub data Statement : Type 0 where
    Simple : SimpleStatement → Statement
    Block : Statements → Statement
    Annotation : List Spec → Statement
    Return : Statement
    ReturnValue : Expression → Statement
    If : Expression → Statement → Statement
    IfElse : Expression → Statement → Statement → Statement
    While : Expression → List (List Spec) → Statement → Statement
    For : Option SimpleStatement → Expression → Option SimpleStatement → List (List Spec) → Statement → Statement
    Assert : Expression → Statement
    Error : Expression → Statement
    Break : Statement
    Continue : Statement

  -- statements in order
  pub data Statements : Type 0 where
    nothing : Statements
    also : Statement → Statements → Statements

-- a parameter or a field
pub record TypedName : Type 0 where
  pub value_type : ValueType
  pub name : List ℕ

-- a function up to its body, with the annotations behind its parameters
pub record Header : Type 0 where
  pub result : ValueType
  pub name : List ℕ
  pub parameters : List TypedName
  pub annotations : List (List Spec)

-- A declaration: `#use` (true: of a name between `<` and `>`), `struct s;`, `struct s { .. };`, `typedef t x;`, a function without a body or with one.
pub data Declaration : Type 0 where
  UseLibrary : Bool → List ℕ → Declaration
  DeclareStruct : List ℕ → Declaration
  DefineStruct : List ℕ → List TypedName → Declaration
  Typedef : ValueType → List ℕ → Declaration
  DeclareFunction : Header → Declaration
  DefineFunction : Header → Statements → Declaration

-- a program
abbrev pub Program : Type 0
Program = List Declaration
