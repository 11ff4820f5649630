-- Types: of trees, of values over a heap, and of whole states.
use Rattle.std.specs.Prelude.{◌≡◌, ℕ, zero, suc, ◌<◌, ◌≤◌, ◌⊎◌, Bool, ℤ, pos, List, [], ◌∷◌, ◌++◌, length, slice_get, Some, FitsSigned}
use Rattle.std.specs.List.{All}
use Rattle.std.specs.Int.{w32}
use Rattle.c0_typed.specs.Values.{Value, Number, Truth, Letter, Text, Ref, Void, Tree, Leaf, Node, Trees, Nil, Cons, count, Spot, load, store}
use Rattle.c0_typed.specs.Trees.{Ty, VoidTy, IntTy, BoolTy, CharTy, TextTy, StructTy, PointerTy, ArrayTy, UnaryOp, Not, Relation, Equal, Unequal, Output, Print, Println, Printint, Printbool, Printchar, Flush, Exp, Constant, Null, Local, Unary, Binary, Compare, And, Or, Choose, Call, Out, Load, Alloc, AllocArray, Length, Exps, NoExp, More, Place, Deref, Index, Field, Stmt, Skip, Seq, Set, Update, Store, StoreUpdate, Do, If, Loop, Return, ReturnValue, Break, Continue, Assert, Error, Check, Function, Program}
use Rattle.cells.specs.Outcomes.{Done, Stopped, Cut}
use Rattle.c0_typed.specs.Layouts.{flats}
use Rattle.c0_typed.specs.Meaning.{State, Outcome, Way, eval, locate, exec, call, default, fields, struct_defaults}

-- ---- types of trees

-- a type of locals, parameters and values
abbrev pub IsSmall : Ty → Type 0
IsSmall VoidTy = ⊥
IsSmall (StructTy k) = ⊥
IsSmall _ = Unit {0}

-- a type that memory holds: its structs are among the first n
abbrev pub IsHeld : ℕ → Ty → Type 0
IsHeld n VoidTy = ⊥
IsHeld n (StructTy k) = k < n
IsHeld n _ = Unit {0}

-- each of these types can stand in memory
abbrev pub AreHeld : ℕ → List Ty → Type 0
AreHeld n [] = Unit {0}
AreHeld n (t ∷ ts) = IsHeld n t × AreHeld n ts

-- what a unary operator takes and gives
abbrev pub unary_type : UnaryOp → Ty
unary_type Not = BoolTy
unary_type _ = IntTy

-- the types that a comparison takes
abbrev pub IsCompared : Relation → Ty → Type 0
IsCompared Equal TextTy = ⊥
IsCompared Equal t = IsSmall t
IsCompared Unequal TextTy = ⊥
IsCompared Unequal t = IsSmall t
IsCompared r IntTy = Unit {0}
IsCompared r CharTy = Unit {0}
IsCompared r _ = ⊥

-- what an output call takes
abbrev pub output_types : Output → List Ty
output_types Print = TextTy ∷ []
output_types Println = TextTy ∷ []
output_types Printint = IntTy ∷ []
output_types Printbool = BoolTy ∷ []
output_types Printchar = CharTy ∷ []
output_types Flush = []

-- the empty text, or one that the program names
abbrev pub IsText : List (List ℕ) → List ℕ → Type 0
IsText texts t = (t ≡ []) ⊎ ((k : ℕ) × (slice_get texts k ≡ Some t))

-- a constant of this type; NULL is a form of its own
abbrev pub IsConstant : List (List ℕ) → Value → Ty → Type 0
IsConstant texts (Number z) t = (t ≡ IntTy) × FitsSigned w32 z
IsConstant texts (Truth b) t = t ≡ BoolTy
IsConstant texts (Letter c) t = (t ≡ CharTy) × (c < 128)
IsConstant texts (Text w) t = (t ≡ TextTy) × IsText texts w
IsConstant texts (Ref r) t = ⊥
IsConstant texts Void t = ⊥

-- the type of a field
abbrev pub IsField : List (List Ty) → ℕ → ℕ → Ty → Type 0
IsField structs j k t = (fs : List Ty) × (slice_get structs j ≡ Some fs) × (slice_get fs k ≡ Some t)

-- An expression has a type, in a program and with these types of locals; local 0 is the result.
module _ (p : Program) (types : List Ty) where
  abbrev mutual
    pub Has : Exp → Ty → Type 0
    Has (Constant v) t = IsConstant p.texts v t
    Has (Null u) t = t ≡ PointerTy u
    Has (Local x) t = slice_get types x ≡ Some t
    Has (Unary o a) t = (t ≡ unary_type o) × Has a (unary_type o)
    Has (Binary o a b) t = (t ≡ IntTy) × Has a IntTy × Has b IntTy
    Has (Compare u r a b) t = (t ≡ BoolTy) × IsCompared r u × Has a u × Has b u
    Has (And a b) t = (t ≡ BoolTy) × Has a BoolTy × Has b BoolTy
    Has (Or a b) t = (t ≡ BoolTy) × Has a BoolTy × Has b BoolTy
    Has (Choose u c a b) t = (t ≡ u) × Has c BoolTy × Has a u × Has b u
    Has (Call f args) t = (g : Function) × (slice_get p.functions f ≡ Some g) × (t ≡ g.result) × HasAll args g.parameters
    Has (Out o args) t = (t ≡ VoidTy) × HasAll args (output_types o)
    Has (Load u q) t = (t ≡ u) × IsSmall u × Holds q u
    Has (Alloc u) t = (t ≡ PointerTy u) × IsHeld (length p.structs) u
    Has (AllocArray u n) t = (t ≡ ArrayTy u) × IsHeld (length p.structs) u × Has n IntTy
    Has (Length u a) t = (t ≡ IntTy) × Has a (ArrayTy u)

    pub HasAll : Exps → List Ty → Type 0
    HasAll NoExp [] = Unit {0}
    HasAll (More a rest) (t ∷ ts) = Has a t × HasAll rest ts
    HasAll _ _ = ⊥

    -- the place holds something of this type
    pub Holds : Place → Ty → Type 0
    Holds (Deref u a) t = (t ≡ u) × Has a (PointerTy u)
    Holds (Index u a i) t = (t ≡ u) × Has a (ArrayTy u) × Has i IntTy
    Holds (Field j q k) t = Holds q (StructTy j) × IsField p.structs j k t

  -- each of these expressions is a truth value
  abbrev pub AllBool : Exps → Type 0
  AllBool NoExp = Unit {0}
  AllBool (More a rest) = Has a BoolTy × AllBool rest

  -- a statement is well typed
  abbrev pub Fits : Stmt → Type 0
  Fits Skip = Unit {0}
  Fits (Seq a b) = Fits a × Fits b
  Fits (Set x a) = (t : Ty) × (slice_get types x ≡ Some t) × Has a t
  Fits (Update x o a) = (slice_get types x ≡ Some IntTy) × Has a IntTy
  Fits (Store q a) = (t : Ty) × IsSmall t × Holds q t × Has a t
  Fits (StoreUpdate q o a) = Holds q IntTy × Has a IntTy
  Fits (Do a) = (t : Ty) × Has a t
  Fits (If c a b) = Has c BoolTy × Fits a × Fits b
  Fits (Loop es c body step) = AllBool es × Has c BoolTy × Fits body × Fits step
  Fits Return = Unit {0}
  Fits (ReturnValue a) = (t : Ty) × (slice_get types 0 ≡ Some t) × Has a t
  Fits Break = Unit {0}
  Fits Continue = Unit {0}
  Fits (Assert a) = Has a BoolTy
  Fits (Error a) = Has a TextTy
  Fits (Check es) = AllBool es

-- the types of a function's locals
abbrev pub local_types : Function → List Ty
local_types f = f.result ∷ f.parameters ++ f.locals

-- each of these types is small
abbrev pub AreSmall : List Ty → Type 0
AreSmall [] = Unit {0}
AreSmall (t ∷ ts) = IsSmall t × AreSmall ts

-- a type that a function may give back
abbrev pub IsResult : Ty → Type 0
IsResult t = (t ≡ VoidTy) ⊎ IsSmall t

-- a function is well typed
abbrev pub FitsFunction : Program → Function → Type 0
FitsFunction p f = IsResult f.result × AreSmall f.parameters × AreSmall f.locals × AllBool p (local_types f) f.requires × AllBool p (local_types f) f.ensures × Fits p (local_types f) f.body

-- each struct is made of those before it
abbrev pub FitsStructs : ℕ → List (List Ty) → Type 0
FitsStructs n [] = Unit {0}
FitsStructs n (ts ∷ rest) = AreHeld n ts × FitsStructs (suc n) rest

-- a program is well typed
pub record FitsProgram (p : Program) : Type 0 where
  pub structs : FitsStructs 0 p.structs
  pub functions : (k : ℕ) (f : Function) → slice_get p.functions k ≡ Some f → FitsFunction p f
  pub main : (f : Function) × (slice_get p.functions p.main ≡ Some f) × (f.parameters ≡ []) × (f.result ≡ IntTy)
  -- texts are of ASCII
  pub ascii : (k : ℕ) (text : List ℕ) → slice_get p.texts k ≡ Some text → All (λ b. b < 128) text
  -- a struct has at most 4,096 cells
  pub small : (k : ℕ) (ts : List Ty) → slice_get p.structs k ≡ Some ts → length (flats (fields (struct_defaults [] p.structs) ts)) ≤ 4096

-- ---- types of values, over what each allocation was made for

-- one thing of a type, or so many of it
pub data Kept : Type 0 where
  One : Ty → Kept
  Many : ℕ → Ty → Kept

-- allocation r was made for this
abbrev pub IsMade : List Kept → ℕ → Kept → Type 0
IsMade made zero k = ⊥
IsMade made (suc r) k = slice_get made r ≡ Some k

module _ (p : Program) (made : List Kept) where
  -- a value is of a small type: a number of 32 bits, a text of the program, a reference to what it says
  abbrev pub Is : Ty → Value → Type 0
  Is VoidTy v = v ≡ Void
  Is IntTy v = (z : ℤ) × (v ≡ Number z) × FitsSigned w32 z
  Is BoolTy v = (b : Bool) × (v ≡ Truth b)
  Is CharTy v = (c : ℕ) × (v ≡ Letter c) × (c < 128)
  Is TextTy v = (t : List ℕ) × (v ≡ Text t) × IsText p.texts t
  Is (StructTy k) v = ⊥
  Is (PointerTy t) v = (r : ℕ) × (v ≡ Ref r) × ((r ≡ 0) ⊎ IsMade made r (One t))
  Is (ArrayTy t) v = (r : ℕ) × (v ≡ Ref r) × ((r ≡ 0) ⊎ ((n : ℕ) × IsMade made r (Many n t)))

  -- values are of these types, one by one
  abbrev pub AreAll : List Ty → List Value → Type 0
  AreAll [] [] = Unit {0}
  AreAll (t ∷ ts) (v ∷ vs) = Is t v × AreAll ts vs
  AreAll _ _ = ⊥

  abbrev mutual
    -- a tree of a type: a small value, or a struct's fields in their order
    pub Grown : Ty → Tree → Type 0
    Grown t (Leaf v) = IsSmall t × Is t v
    Grown t (Node ts) = (j : ℕ) × (fs : List Ty) × (t ≡ StructTy j) × (slice_get p.structs j ≡ Some fs) × GrownAll fs ts

    pub GrownAll : List Ty → Trees → Type 0
    GrownAll [] Nil = Unit {0}
    GrownAll (t ∷ ts) (Cons a rest) = Grown t a × GrownAll ts rest
    GrownAll _ _ = ⊥

  -- each part has been made for this type
  abbrev pub GrownEach : Ty → Trees → Type 0
  GrownEach t Nil = Unit {0}
  GrownEach t (Cons a rest) = Grown t a × GrownEach t rest

  -- an allocation holds what it was made for
  abbrev pub IsObject : Kept → Tree → Type 0
  IsObject (One t) a = Grown t a
  IsObject (Many n t) a = (ts : Trees) × (a ≡ Node ts) × (count ts ≡ n) × FitsSigned w32 (pos n) × GrownEach t ts

  -- each allocation does
  abbrev pub AreObjects : List Kept → List Tree → Type 0
  AreObjects [] [] = Unit {0}
  AreObjects (k ∷ ks) (a ∷ rest) = IsObject k a × AreObjects ks rest
  AreObjects _ _ = ⊥

-- each allocation holds what it was made for
abbrev pub IsHeap : Program → List Kept → List Tree → Type 0
IsHeap p made heap = AreObjects p made made heap

-- no allocation is made anew
abbrev pub Extends : List Kept → List Kept → Type 0
Extends old new = (rest : List Kept) × (new ≡ old ++ rest)

-- a state of a function with these locals
abbrev pub IsState : Program → List Ty → List Kept → State → Type 0
IsState p types made s = IsHeap p made s.heap × AreAll p made types s.locals

-- the way from a thing of one type to a part of another
abbrev pub IsWay : Program → Ty → List ℕ → Ty → Type 0
IsWay p t [] u = t ≡ u
IsWay p t (k ∷ path) u = (j : ℕ) × (w : Ty) × (t ≡ StructTy j) × IsField p.structs j k w × IsWay p w path u

-- a way through an allocation leads to this type
abbrev pub IsWayIn : Program → Kept → List ℕ → Ty → Type 0
IsWayIn p (One t) path u = IsWay p t path u
IsWayIn p (Many n t) [] u = ⊥
IsWayIn p (Many n t) (i ∷ path) u = (i < n) × IsWay p t path u

-- a place that holds something of this type; what it was made for and the way to it don't change
pub record IsPlace (p : Program) (made : List Kept) (u : Ty) (at : Spot) : Type 0 where
  pub kept : Kept
  pub made_so : IsMade made at.allocation kept
  pub way : IsWayIn p kept at.path u

-- What is done ends well: with more made, and a value and a state as wanted.
abbrev pub Fine : {A : Type 0} → List Kept → (List Kept → A → State → Type 0) → Outcome A → Type 0
Fine made P (Done a s) = (new : List Kept) × Extends made new × P new a s
Fine made P (Stopped x out) = Unit {0}
Fine made P (Cut out) = Unit {0}

-- a call of a function of the program
abbrev pub CallsFit : Program → (ℕ → List Value → State → Outcome Value) → Type 0
CallsFit p call =
    (f : ℕ) (g : Function) (made : List Kept) (args : List Value) (s : State) → slice_get p.functions f ≡ Some g → AreAll p made g.parameters args → IsHeap p made s.heap
    → Fine made (λ new v t. Is p new g.result v × IsHeap p new t.heap × (t.locals ≡ s.locals)) (call f args s)

module _ (p : Program) (types : List Ty) where
  -- an expression gives a value of this type
  abbrev pub Gives : Ty → List Kept → Value → State → Type 0
  Gives t made v s = IsState p types made s × Is p made t v

  -- the state is well typed, and so are these values
  abbrev pub GivesAll : List Ty → List Kept → List Value → State → Type 0
  GivesAll ts made vs s = IsState p types made s × AreAll p made ts vs

  -- the state is well typed, and the place holds this type
  abbrev pub Finds : Ty → List Kept → Spot → State → Type 0
  Finds t made at s = IsState p types made s × IsPlace p made t at

  -- the state is well typed
  abbrev pub Leaves : List Kept → Way → State → Type 0
  Leaves made w s = IsState p types made s

-- ---- soundness

-- what is well typed goes well, in every well-typed state
abbrev pub EvalSound : Type 0
EvalSound = (p : Program) → FitsProgram p → (checks : Bool) (d : ℕ) (types : List Ty) (e : Exp) (t : Ty) (made : List Kept) (s : State) → Has p types e t → IsState p types made s
    → Fine made (Gives p types t) (eval (struct_defaults [] p.structs) (call checks p d) e s)

-- a place that is found holds what its type says
abbrev pub LocateSound : Type 0
LocateSound = (p : Program) → FitsProgram p → (checks : Bool) (d : ℕ) (types : List Ty) (q : Place) (t : Ty) (made : List Kept) (s : State) → Holds p types q t → IsState p types made s
    → Fine made (Finds p types t) (locate (struct_defaults [] p.structs) (call checks p d) q s)

-- a statement leaves a well-typed state
abbrev pub ExecSound : Type 0
ExecSound = (p : Program) → FitsProgram p → (checks : Bool) (d : ℕ) (types : List Ty) (b : Stmt) (made : List Kept) (s : State) → Fits p types b → IsState p types made s
    → Fine made (Leaves p types) (exec checks (struct_defaults [] p.structs) (call checks p d) b s)

-- a call gives a value of its function's result, and leaves its caller's locals
abbrev pub CallSound : Type 0
CallSound = (p : Program) → FitsProgram p → (checks : Bool) (d : ℕ) → CallsFit p (call checks p d)

-- fresh memory has its type
abbrev pub FreshSound : Type 0
FreshSound = (p : Program) → FitsProgram p → (made : List Kept) (t : Ty) → IsHeld (length p.structs) t → Grown p made t (default (struct_defaults [] p.structs) t)

-- what is loaded has its type, and a store keeps all types
abbrev pub LoadSound : Type 0
LoadSound = (p : Program) (made : List Kept) (heap : List Tree) (u : Ty) (at : Spot) → IsHeap p made heap → IsPlace p made u at → IsSmall u → Is p made u (load heap at)

-- a store of a value of the type of its place keeps the heap well typed
abbrev pub StoreSound : Type 0
StoreSound = (p : Program) (made : List Kept) (heap : List Tree) (u : Ty) (at : Spot) (v : Value) → IsHeap p made heap → IsPlace p made u at → IsSmall u → Is p made u v → IsHeap p made (store heap at v)

-- main gives a number
abbrev pub MainSound : Type 0
MainSound = (p : Program) → FitsProgram p → (checks : Bool) (n : ℕ) → Fine [] (λ made v t. Is p made IntTy v × IsHeap p made t.heap) (call checks p n p.main [] (record { turns = n; heap = []; locals = []; output = [] }))
