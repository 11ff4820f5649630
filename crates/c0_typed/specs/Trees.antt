-- Programs as the static rules leave them: names are replaced by numbers, typedefs by their types, and each node tells its type at once.
use Rattle.std.specs.Prelude.{ℕ, List}
use Rattle.cells.specs.declared.int32.Int32Op.{Int32Op}
use Rattle.c0_typed.specs.Values.{Value}

-- VoidTy is a result's alone
pub data Ty : Type 0 where
  VoidTy : Ty
  IntTy : Ty
  BoolTy : Ty
  CharTy : Ty
  TextTy : Ty
  StructTy : ℕ → Ty
  PointerTy : Ty → Ty
  ArrayTy : Ty → Ty

-- operators on one value
pub data UnaryOp : Type 0 where
  Negate : UnaryOp
  Complement : UnaryOp
  Not : UnaryOp

-- comparisons
pub data Relation : Type 0 where
  Equal : Relation
  Unequal : Relation
  Below : Relation
  AtMost : Relation
  Above : Relation
  AtLeast : Relation

-- a call of conio
pub data Output : Type 0 where
  Print : Output
  Println : Output
  Printint : Output
  Printbool : Output
  Printchar : Output
  Flush : Output

-- Locals are numbered from 1 in each function, the parameters first; local 0 is the function's result.
mutual
  -- an expression
  pub data Exp : Type 0 where
    Constant : Value → Exp
    Null : Ty → Exp
    Local : ℕ → Exp
    Unary : UnaryOp → Exp → Exp
    Binary : Int32Op → Exp → Exp → Exp
    Compare : Ty → Relation → Exp → Exp → Exp
    And : Exp → Exp → Exp
    Or : Exp → Exp → Exp
    Choose : Ty → Exp → Exp → Exp → Exp
    Call : ℕ → Exps → Exp
    Out : Output → Exps → Exp
    Load : Ty → Place → Exp
    Alloc : Ty → Exp
    AllocArray : Ty → Exp → Exp
    Length : Ty → Exp → Exp

  -- expressions, one after another
  pub data Exps : Type 0 where
    NoExp : Exps
    More : Exp → Exps → Exps

  -- a part of the heap: *e and e[i] with the type there, and a field of a struct
  pub data Place : Type 0 where
    Deref : Ty → Exp → Place
    Index : Ty → Exp → Exp → Place
    Field : ℕ → Place → ℕ → Place

-- e->f is (*e).f; lv++ is lv += 1; while is for without its first and third parts; a declaration without a value is Skip
pub data Stmt : Type 0 where
  Skip : Stmt
  Seq : Stmt → Stmt → Stmt
  Set : ℕ → Exp → Stmt
  Update : ℕ → Int32Op → Exp → Stmt
  Store : Place → Exp → Stmt
  StoreUpdate : Place → Int32Op → Exp → Stmt
  Do : Exp → Stmt
  If : Exp → Stmt → Stmt → Stmt
  Loop : (invariants : Exps) (condition : Exp) (body step : Stmt) → Stmt
  Return : Stmt
  ReturnValue : Exp → Stmt
  Break : Stmt
  Continue : Stmt
  Assert : Exp → Stmt
  Error : Exp → Stmt
  Check : Exps → Stmt

-- a function: its parameters, its other locals, its contract and its body
pub record Function : Type 0 where
  pub result : Ty
  pub parameters : List Ty
  pub locals : List Ty  -- beside the parameters
  pub requires : Exps
  pub ensures : Exps
  pub body : Stmt

-- a program
pub record Program : Type 0 where
  pub structs : List (List Ty)  -- the types of the fields of each, in the order of their definitions
  pub functions : List Function
  pub texts : List (List ℕ)  -- those that it names
  pub main : ℕ
