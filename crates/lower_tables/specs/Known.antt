-- The kinds of single cells that a program allocates or looks at are in a list.
use Rattle.std.specs.Prelude.{ℕ, ◌<◌, List, [], ◌∷◌, length, map}
use Rattle.c0_typed.specs.Trees as t
use Rattle.c0_typed.specs.Typing.{IsSmall}
use Rattle.c0_typed.specs.Views.{struct_of, type_of}
use Rattle.c0_typed.specs.declared.tree.Expression.{Expression, Row_of-Expression, end_of-Expression, more_of-Expression, At', Constant, Null, Local, Unary', Binary', Compare', And', Or', Choose', Call', Print', Load', Alloc, AllocArray', Length'}
use Rattle.c0_typed.specs.declared.tree.Place.{Place, Deref', Index', Field'}
use Rattle.c0_typed.specs.declared.tree.Statement.{Statement, Row_of-Statement, end_of-Statement, more_of-Statement, Block', Set, Update, Store, StoreUpdate, Do, If', Loop', Return, ReturnValue, Break, Continue, Assert, Error, Check}
use Rattle.c0_typed.specs.declared.tree.Function.{Function}
use Rattle.c0_typed.specs.declared.tree.Typed.{Typed}
use Rattle.code_form.specs.declared.form.Kind.{Kind}
use Rattle.lower_tables.specs.Kinds.{kind_of, position}

-- In a program of n structs
module _ (n : ℕ) (singles : List Kind) where
  -- the type is a struct, or its kind is in the list
  abbrev pub IsKnown : t.Ty → Type 0
  IsKnown ty = IsSmall ty → position (kind_of n singles ty) singles < length singles

  abbrev mutual
    -- so is each type whose values an expression allocates or looks at in the heap
    pub Knows : Expression → Type 0
    Knows (At' here q e) = Knows e
    Knows (Constant x) = Unit {0}
    Knows (Null ty) = Unit {0}
    Knows (Local x) = Unit {0}
    Knows (Unary' p q a) = Knows a
    Knows (Binary' p q a s b) = Knows a × Knows b
    Knows (Compare' ty p q a s b) = Knows a × Knows b
    Knows (And' p a q b) = Knows a × Knows b
    Knows (Or' p a q b) = Knows a × Knows b
    Knows (Choose' ty p a q b s e) = Knows a × Knows b × Knows e
    Knows (Call' f shape es) = KnowsRow es
    Knows (Print' out shape es) = KnowsRow es
    Knows (Load' ty p q) = KnowsPlace q
    Knows (Alloc ty) = IsKnown (type_of ty)
    Knows (AllocArray' ty p a) = IsKnown (type_of ty) × Knows a
    Knows (Length' ty p a) = Knows a

    -- of arguments
    pub KnowsRow : {k : _} → Row_of-Expression k → Type 0
    KnowsRow end_of-Expression = Unit {0}
    KnowsRow (more_of-Expression a rest) = Knows a × KnowsRow rest

    -- of a place
    pub KnowsPlace : Place → Type 0
    KnowsPlace (Deref' ty p a) = IsKnown (type_of ty) × Knows a
    KnowsPlace (Index' ty p a q i) = IsKnown (type_of ty) × Knows a × Knows i
    KnowsPlace (Field' j p q k) = KnowsPlace q

  -- of conditions
  abbrev pub KnowsAll : List Expression → Type 0
  KnowsAll [] = Unit {0}
  KnowsAll (a ∷ rest) = Knows a × KnowsAll rest

  abbrev mutual
    -- of a statement
    pub KnowsStatement : Statement → Type 0
    KnowsStatement (Block' shape all) = KnowsBlock all
    KnowsStatement (Set x a) = Knows a
    KnowsStatement (Update x p a) = Knows a
    KnowsStatement (Store q a) = KnowsPlace q × Knows a
    KnowsStatement (StoreUpdate q p a) = KnowsPlace q × Knows a
    KnowsStatement (Do a) = Knows a
    KnowsStatement (If' a p b q s) = Knows a × KnowsStatement b × KnowsStatement s
    KnowsStatement (Loop' invariants a p body q step) = KnowsAll invariants.items × Knows a × KnowsStatement body × KnowsStatement step
    KnowsStatement Return = Unit {0}
    KnowsStatement Break = Unit {0}
    KnowsStatement Continue = Unit {0}
    KnowsStatement (ReturnValue a) = Knows a
    KnowsStatement (Assert a) = Knows a
    KnowsStatement (Error a) = Knows a
    KnowsStatement (Check es) = KnowsAll es.items

    -- of the statements of a block
    pub KnowsBlock : {k : _} → Row_of-Statement k → Type 0
    KnowsBlock end_of-Statement = Unit {0}
    KnowsBlock (more_of-Statement a rest) = KnowsStatement a × KnowsBlock rest

  -- of the statements of a body
  abbrev pub KnowsBody : List Statement → Type 0
  KnowsBody [] = Unit {0}
  KnowsBody (a ∷ rest) = KnowsStatement a × KnowsBody rest

  -- of a function
  abbrev pub KnowsFunction : Function → Type 0
  KnowsFunction f = KnowsAll f.preconditions.items × KnowsBody f.body.items × KnowsAll f.postconditions.items

  -- of functions
  abbrev pub KnowsFunctions : List Function → Type 0
  KnowsFunctions [] = Unit {0}
  KnowsFunctions (f ∷ rest) = KnowsFunction f × KnowsFunctions rest

-- of a program
abbrev pub KnowsProgram : List Kind → Typed → Type 0
KnowsProgram singles p = KnowsFunctions (length (map struct_of p.structs.items)) singles p.functions.items
