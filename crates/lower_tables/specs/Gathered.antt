-- The types whose values a program allocates or looks at in the heap, and the kinds of single cells that are learned from types.
use Rattle.std.specs.Prelude.{ℕ, ◌++◌, nat_lt, cond, List, [], ◌∷◌, length}
use Rattle.c0_typed.specs.Trees as t
use Rattle.c0_typed.specs.Views.{type_of}
use Rattle.c0_typed.specs.declared.tree.Expression.{Expression, Row_of-Expression, end_of-Expression, more_of-Expression, At', Constant, Null, Local, Unary', Binary', Compare', And', Or', Choose', Call', Print', Load', Alloc, AllocArray', Length'}
use Rattle.c0_typed.specs.declared.tree.Place.{Place, Deref', Index', Field'}
use Rattle.c0_typed.specs.declared.tree.Statement.{Statement, Row_of-Statement, end_of-Statement, more_of-Statement, Block', Set, Update, Store, StoreUpdate, Do, If', Loop', Return, ReturnValue, Break, Continue, Assert, Error, Check}
use Rattle.c0_typed.specs.declared.tree.Function.{Function}
use Rattle.c0_typed.specs.declared.tree.Typed.{Typed}
use Rattle.code_form.specs.declared.form.Kind.{Kind}
use Rattle.code_form.specs.declared.form.Kind.TheVariants as kind
use Rattle.lower_tables.specs.Kinds.{layout_number, position}

-- a list that has this kind too
abbrev pub with_kind : Kind → List Kind → List Kind
with_kind k singles = cond (nat_lt (position k singles) (length singles)) singles (singles ++ k ∷ [])

-- with the kind of a pointer or an array of a type of this layout
abbrev pub learned : ℕ → List Kind → t.Ty → List Kind
learned n singles t.VoidTy = singles
learned n singles (t.StructTy j) = singles
learned n singles t.IntTy = with_kind kind.Int singles
learned n singles t.BoolTy = with_kind kind.Bool singles
learned n singles t.CharTy = with_kind kind.Char singles
learned n singles t.TextTy = with_kind kind.Text singles
learned n singles (t.PointerTy ty) = with_kind (kind.Ptr (layout_number n (learned n singles ty) ty)) (learned n singles ty)
learned n singles (t.ArrayTy ty) = with_kind (kind.Arr (layout_number n (learned n singles ty) ty)) (learned n singles ty)

-- what is learned from types in order
abbrev pub all_learned : ℕ → List Kind → List t.Ty → List Kind
all_learned n singles [] = singles
all_learned n singles (ty ∷ rest) = all_learned n (learned n singles ty) rest

abbrev mutual
  -- the types that an expression allocates or looks at
  pub types_in : Expression → List t.Ty
  types_in (At' here q e) = types_in e
  types_in (Constant x) = []
  types_in (Null ty) = []
  types_in (Local x) = []
  types_in (Unary' p q a) = types_in a
  types_in (Binary' p q a s b) = types_in a ++ types_in b
  types_in (Compare' ty p q a s b) = types_in a ++ types_in b
  types_in (And' p a q b) = types_in a ++ types_in b
  types_in (Or' p a q b) = types_in a ++ types_in b
  types_in (Choose' ty p a q b s e) = types_in a ++ (types_in b ++ types_in e)
  types_in (Call' f shape es) = types_in_row es
  types_in (Print' out shape es) = types_in_row es
  types_in (Load' ty p q) = types_at q
  types_in (Alloc ty) = type_of ty ∷ []
  types_in (AllocArray' ty p a) = type_of ty ∷ types_in a
  types_in (Length' ty p a) = types_in a

  -- those of arguments
  pub types_in_row : {k : _} → Row_of-Expression k → List t.Ty
  types_in_row end_of-Expression = []
  types_in_row (more_of-Expression a rest) = types_in a ++ types_in_row rest

  -- those of a place
  pub types_at : Place → List t.Ty
  types_at (Deref' ty p a) = type_of ty ∷ types_in a
  types_at (Index' ty p a q i) = type_of ty ∷ (types_in a ++ types_in i)
  types_at (Field' j p q k) = types_at q

-- those of expressions in order
abbrev pub types_in_all : List Expression → List t.Ty
types_in_all [] = []
types_in_all (a ∷ rest) = types_in a ++ types_in_all rest

abbrev mutual
  -- those of a statement
  pub types_of : Statement → List t.Ty
  types_of (Block' shape all) = types_of_block all
  types_of (Set x a) = types_in a
  types_of (Update x p a) = types_in a
  types_of (Store q a) = types_at q ++ types_in a
  types_of (StoreUpdate q p a) = types_at q ++ types_in a
  types_of (Do a) = types_in a
  types_of (If' a p b q s) = types_in a ++ (types_of b ++ types_of s)
  types_of (Loop' invariants a p body q step) = types_in_all invariants.items ++ (types_in a ++ (types_of body ++ types_of step))
  types_of Return = []
  types_of Break = []
  types_of Continue = []
  types_of (ReturnValue a) = types_in a
  types_of (Assert a) = types_in a
  types_of (Error a) = types_in a
  types_of (Check es) = types_in_all es.items

  -- those of the statements of a block
  pub types_of_block : {k : _} → Row_of-Statement k → List t.Ty
  types_of_block end_of-Statement = []
  types_of_block (more_of-Statement a rest) = types_of a ++ types_of_block rest

-- those of statements in order
abbrev pub types_of_all : List Statement → List t.Ty
types_of_all [] = []
types_of_all (a ∷ rest) = types_of a ++ types_of_all rest

-- those of a function
abbrev pub types_of_function : Function → List t.Ty
types_of_function f = types_in_all f.preconditions.items ++ (types_of_all f.body.items ++ types_in_all f.postconditions.items)

-- those of functions in order
abbrev pub types_of_functions : List Function → List t.Ty
types_of_functions [] = []
types_of_functions (f ∷ rest) = types_of_function f ++ types_of_functions rest

-- the kinds of single cells that a program allocates or looks at, in the order in which its functions tell of them
abbrev pub singles_of : Typed → List Kind
singles_of p = all_learned (length p.structs.items) [] (types_of_functions p.functions.items)
