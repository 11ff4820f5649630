-- Typed programs as code holds them, read as those of the definitions.
use Rattle.std.specs.Prelude.{ℕ, zero, suc, List, [], ◌∷◌, get_or, map, string_bytes}
use Rattle.c0_typed.specs.Values as v
use Rattle.c0_typed.specs.Trees as t
use Rattle.c0_typed.specs.declared.tree.PlainType.{PlainType}
use Rattle.c0_typed.specs.declared.tree.PlainType.TheVariants as p
use Rattle.c0_typed.specs.declared.tree.Levels.{Levels, Innermost, Pointer', Array'}
use Rattle.c0_typed.specs.declared.tree.Target.{Target}
use Rattle.c0_typed.specs.declared.tree.ValueType.{ValueType}
use Rattle.c0_typed.specs.declared.tree.ValueType.TheVariants as w
use Rattle.c0_typed.specs.declared.tree.UnaryOperator.{UnaryOperator}
use Rattle.c0_typed.specs.declared.tree.UnaryOperator.TheVariants as u
use Rattle.c0_typed.specs.declared.tree.Relation.{Relation}
use Rattle.c0_typed.specs.declared.tree.Relation.TheVariants as r
use Rattle.c0_typed.specs.declared.tree.Constant.{Constant as ConstantValue}
use Rattle.c0_typed.specs.declared.tree.Constant.TheVariants as c
use Rattle.c0_typed.specs.declared.tree.Output.{Output}
use Rattle.c0_typed.specs.declared.tree.Output.TheVariants as o
use Rattle.c0_typed.specs.declared.tree.Expression.{Expression, Row_of-Expression, end_of-Expression, more_of-Expression, At', Constant, Null, Local, Unary', Binary', Compare', And', Or', Choose', Call', Print', Load', Alloc, AllocArray', Length'}
use Rattle.c0_typed.specs.declared.tree.Place.{Place, Deref', Index', Field'}
use Rattle.c0_typed.specs.declared.tree.Statement.{Statement, Row_of-Statement, end_of-Statement, more_of-Statement, Block', Set, Update, Store, StoreUpdate, Do, If', Loop', Return, ReturnValue, Break, Continue, Assert, Error, Check}
use Rattle.c0_typed.specs.declared.tree.Function.{Function}
use Rattle.c0_typed.specs.declared.tree.Struct.{Struct}
use Rattle.c0_typed.specs.declared.tree.Typed.{Typed}

-- a type that is neither a pointer nor an array
abbrev pub plain_of : PlainType → t.Ty
plain_of p.Void = t.VoidTy
plain_of p.Int = t.IntTy
plain_of p.Bool = t.BoolTy
plain_of p.Char = t.CharTy
plain_of p.Text = t.TextTy
plain_of (p.Struct k) = t.StructTy k

-- what may stand round a type
pub data Level : Type 0 where
  PointerLevel : Level
  ArrayLevel : Level

-- pointers and arrays, from the outermost on
abbrev pub levels_of : Levels → List Level
levels_of Innermost = []
levels_of (Pointer' p inner) = PointerLevel ∷ levels_of inner
levels_of (Array' p inner) = ArrayLevel ∷ levels_of inner

-- a type within pointers and arrays
abbrev pub within : List Level → t.Ty → t.Ty
within [] ty = ty
within (PointerLevel ∷ levels) ty = t.PointerTy (within levels ty)
within (ArrayLevel ∷ levels) ty = t.ArrayTy (within levels ty)

-- what a pointer points to, or an array holds
abbrev pub target_of : Target → t.Ty
target_of x = within (levels_of x.levels.value) (plain_of x.innermost)

-- a type
abbrev pub type_of : ValueType → t.Ty
type_of (w.Plain x) = plain_of x
type_of (w.Pointer x) = t.PointerTy (target_of x)
type_of (w.Array x) = t.ArrayTy (target_of x)

-- an operator on one value
abbrev pub unary_of : UnaryOperator → t.UnaryOp
unary_of u.Negate = t.Negate
unary_of u.Complement = t.Complement
unary_of u.Not = t.Not

-- a comparison
abbrev pub relation_of : Relation → t.Relation
relation_of r.Equal = t.Equal
relation_of r.Unequal = t.Unequal
relation_of r.Below = t.Below
relation_of r.AtMost = t.AtMost
relation_of r.Above = t.Above
relation_of r.AtLeast = t.AtLeast

-- a call of conio
abbrev pub output_of : Output → t.Output
output_of o.Print = t.Print
output_of o.Println = t.Println
output_of o.Printint = t.Printint
output_of o.Printbool = t.Printbool
output_of o.Printchar = t.Printchar
output_of o.Flush = t.Flush

-- the text with a number: 0 is the empty one
abbrev pub text_at : List (List ℕ) → ℕ → List ℕ
text_at texts zero = []
text_at texts (suc k) = get_or texts k []

-- a constant
abbrev pub constant_of : List (List ℕ) → ConstantValue → v.Value
constant_of texts (c.Number z) = v.Number z
constant_of texts (c.Truth b) = v.Truth b
constant_of texts (c.Letter x) = v.Letter x
constant_of texts (c.Text k) = v.Text (text_at texts k)

-- Over the texts of the program
module _ (texts : List (List ℕ)) where
  abbrev mutual
    -- an expression
    pub exp_of : Expression → t.Exp
    exp_of (At' here p e) = exp_of e
    exp_of (Constant x) = t.Constant (constant_of texts x)
    exp_of (Null ty) = t.Null (type_of ty)
    exp_of (Local x) = t.Local x
    exp_of (Unary' op p a) = t.Unary (unary_of op) (exp_of a)
    exp_of (Binary' op p a q b) = t.Binary op (exp_of a) (exp_of b)
    exp_of (Compare' ty rel p a q b) = t.Compare (type_of ty) (relation_of rel) (exp_of a) (exp_of b)
    exp_of (And' p a q b) = t.And (exp_of a) (exp_of b)
    exp_of (Or' p a q b) = t.Or (exp_of a) (exp_of b)
    exp_of (Choose' ty p c q a r b) = t.Choose (type_of ty) (exp_of c) (exp_of a) (exp_of b)
    exp_of (Call' f shape es) = t.Call f (row_of es)
    exp_of (Print' out shape es) = t.Out (output_of out) (row_of es)
    exp_of (Load' ty p place) = t.Load (type_of ty) (place_of place)
    exp_of (Alloc ty) = t.Alloc (type_of ty)
    exp_of (AllocArray' ty p n) = t.AllocArray (type_of ty) (exp_of n)
    exp_of (Length' ty p a) = t.Length (type_of ty) (exp_of a)

    -- arguments
    pub row_of : {m : _} → Row_of-Expression m → t.Exps
    row_of end_of-Expression = t.NoExp
    row_of (more_of-Expression e rest) = t.More (exp_of e) (row_of rest)

    -- a place
    pub place_of : Place → t.Place
    place_of (Deref' ty p e) = t.Deref (type_of ty) (exp_of e)
    place_of (Index' ty p a q i) = t.Index (type_of ty) (exp_of a) (exp_of i)
    place_of (Field' j p place k) = t.Field j (place_of place) k

  -- expressions in order
  abbrev pub exps_of : List Expression → t.Exps
  exps_of [] = t.NoExp
  exps_of (e ∷ rest) = t.More (exp_of e) (exps_of rest)

  abbrev mutual
    -- a statement
    pub stmt_of : Statement → t.Stmt
    stmt_of (Block' shape all) = block_row all
    stmt_of (Set x e) = t.Set x (exp_of e)
    stmt_of (Update x op e) = t.Update x op (exp_of e)
    stmt_of (Store p e) = t.Store (place_of p) (exp_of e)
    stmt_of (StoreUpdate p op e) = t.StoreUpdate (place_of p) op (exp_of e)
    stmt_of (Do e) = t.Do (exp_of e)
    stmt_of (If' c p a q b) = t.If (exp_of c) (stmt_of a) (stmt_of b)
    stmt_of (Loop' invariants c p body q step) = t.Loop (exps_of invariants.items) (exp_of c) (stmt_of body) (stmt_of step)
    stmt_of Return = t.Return
    stmt_of (ReturnValue e) = t.ReturnValue (exp_of e)
    stmt_of Break = t.Break
    stmt_of Continue = t.Continue
    stmt_of (Assert e) = t.Assert (exp_of e)
    stmt_of (Error e) = t.Error (exp_of e)
    stmt_of (Check es) = t.Check (exps_of es.items)

    -- the statements of a block
    pub block_row : {m : _} → Row_of-Statement m → t.Stmt
    block_row end_of-Statement = t.Skip
    block_row (more_of-Statement s rest) = t.Seq (stmt_of s) (block_row rest)

  -- statements in order
  abbrev pub block_of : List Statement → t.Stmt
  block_of [] = t.Skip
  block_of (s ∷ rest) = t.Seq (stmt_of s) (block_of rest)

  -- a function
  abbrev pub function_of : Function → t.Function
  function_of f = record {
    result = type_of f.result;
    parameters = map type_of f.parameters.items;
    locals = map type_of f.locals.items;
    requires = exps_of f.preconditions.items;
    ensures = exps_of f.postconditions.items;
    body = block_of f.body.items;
  }

-- the types of a struct's fields
abbrev pub struct_of : Struct → List t.Ty
struct_of s = map type_of s.fields.items

-- the texts of a program
abbrev pub texts_of : Typed → List (List ℕ)
texts_of p = map string_bytes p.texts.items

-- a program
abbrev pub program_of : Typed → t.Program
program_of p = record { structs = map struct_of p.structs.items; functions = map (function_of (texts_of p)) p.functions.items; texts = texts_of p; main = p.main }
