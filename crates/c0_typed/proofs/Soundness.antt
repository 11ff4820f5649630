-- Well-typed programs do what their types say.
use Rattle.std.proofs.Common.{◌≡◌, ℕ, zero, suc, ◌-◌, ◌<◌, ◌⊎◌, inl, inr, List, [], ◌∷◌, ◌++◌, length, get_or, refl, sym, ap, ◌∙◌, subst, arith, append_assoc, append-nil, Bool, true, false, Option, Some, None, ℤ, pos, negsuc, FitsSigned}
use Rattle.std.specs.Prelude.{nat_lt, slice_get, set, map, not, neg_ℤ}
use Rattle.std.specs.Int.{w32, int_bit_not}
use Rattle.std.proofs.lemmas.Int.{SFits-int_wrap, fits_signed_from_abs}
use Rattle.std.proofs.lemmas.Bool.{ltb-true}
use Rattle.std.proofs.lemmas.List.{length-append}
use Rattle.std.proofs.lemmas.Option.{get_or_from_slice_get, slice_get-get_or}
use Rattle.cells.specs.declared.int32.Int32Op.{Int32Op}
use Rattle.cells.specs.Numbers.{op_value, wrap32}
use Rattle.c0_typed.specs.Values.{Value, Number, Truth, Letter, Text, Ref, Void, Tree, Leaf, Node, Trees, Nil, Cons, as_number, as_truth, as_ref, leaf, parts, count, part, with_part, copies, Spot, part_at, with_part_at, allocated, load, store, array_length}
use Rattle.c0_typed.specs.Trees.{Ty, VoidTy, IntTy, BoolTy, CharTy, TextTy, StructTy, PointerTy, ArrayTy, UnaryOp, Negate, Complement, Not, Exp, Constant, Null, Local, Unary, Binary, Compare, And, Or, Choose, Call, Out, Load, Alloc, AllocArray, Length, Exps, NoExp, More, Place, Deref, Index, Field, Stmt, Skip, Seq, Set, Update, Store, StoreUpdate, Do, If, Loop, Return, ReturnValue, Break, Continue, Assert, Error, Check, Function, Program}
use Rattle.cells.specs.Stops.{ArithFault, BoundsFault, AssertFailed}
use Rattle.cells.specs.Outcomes.{Done, Stopped, Cut, then_do}
use Rattle.c0_typed.specs.Meaning.{State, Outcome, stop, value_or, if_true, turn, local, unary_value, binary_value, relation_value, default, fields, struct_defaults, allocate, allocate_array, pointed, element, blank, locals_at_entry, eval, evals, locate, Way, Next, Returned, Broken, Continued, and_then, after_body, holds, loop, all_hold, checked, exec, in_function, no_function, call}
use Rattle.c0_typed.specs.Typing.{IsSmall, IsHeld, AreHeld, unary_type, output_types, IsConstant, IsField, Has, HasAll, Holds, AllBool, Fits, local_types, FitsFunction, FitsStructs, FitsProgram, Kept, One, Many, IsMade, Is, AreAll, Grown, GrownAll, GrownEach, IsObject, AreObjects, IsHeap, Extends, IsState, IsWay, IsWayIn, IsPlace, Fine, CallsFit, Gives, GivesAll, Finds, Leaves, AreSmall, IsResult, EvalSound, LocateSound, ExecSound, CallSound, MainSound}

-- ---- lists

pub get_more : {A : Type 0} (xs ys : List A) (k : ℕ) (x : A) → slice_get xs k ≡ Some x → slice_get (xs ++ ys) k ≡ Some x
get_more [] ys k x e = absurd (cc e)
get_more (y ∷ xs) ys zero x e = e
get_more (y ∷ xs) ys (suc k) x e = get_more xs ys k x e

pub get_last : {A : Type 0} (xs : List A) (x : A) → slice_get (xs ++ x ∷ []) (length xs) ≡ Some x
get_last [] x = refl
get_last (y ∷ xs) x = get_last xs x

pub extends_refl : (a : List Kept) → Extends a a
extends_refl a = ([], sym (append-nil a))

pub extends_trans : (a b c : List Kept) → Extends a b → Extends b c → Extends a c
extends_trans a b c x y = (x.0 ++ y.0, y.1 ∙ ap (λ l. l ++ y.0) x.1 ∙ append_assoc a x.0 y.0)

pub made_more : (old new : List Kept) → Extends old new → (r : ℕ) (k : Kept) → IsMade old r k → IsMade new r k
made_more old new e zero k h = h
made_more old new e (suc r) k h = subst (λ l. slice_get l r ≡ Some k) (sym e.1) (get_more old e.0 r k h)

-- ---- more allocations keep what has a type

module _ (p : Program) (old new : List Kept) (e : Extends old new) where
  pub is_more : (t : Ty) (v : Value) → Is p old t v → Is p new t v
  is_more VoidTy v h = h
  is_more IntTy v h = h
  is_more BoolTy v h = h
  is_more CharTy v h = h
  is_more TextTy v h = h
  is_more (StructTy k) v h = h
  is_more (PointerTy t) v h = (h.0, h.1, at h.2)
    where
      at : ((h.0 ≡ 0) ⊎ IsMade old h.0 (One t)) → (h.0 ≡ 0) ⊎ IsMade new h.0 (One t)
      at (inl z) = inl z
      at (inr m) = inr (made_more old new e h.0 (One t) m)
  is_more (ArrayTy t) v h = (h.0, h.1, at h.2)
    where
      at : ((h.0 ≡ 0) ⊎ ((n : ℕ) × IsMade old h.0 (Many n t))) → (h.0 ≡ 0) ⊎ ((n : ℕ) × IsMade new h.0 (Many n t))
      at (inl z) = inl z
      at (inr m) = inr (m.0, made_more old new e h.0 (Many m.0 t) m.1)

  pub are_more : (ts : List Ty) (vs : List Value) → AreAll p old ts vs → AreAll p new ts vs
  are_more [] [] h = h
  are_more [] (v ∷ vs) h = h
  are_more (t ∷ ts) [] h = h
  are_more (t ∷ ts) (v ∷ vs) h = (is_more t v h.0, are_more ts vs h.1)

  mutual
    pub grown_more : (t : Ty) (a : Tree) → Grown p old t a → Grown p new t a
    grown_more t (Leaf v) h = (h.0, is_more t v h.1)
    grown_more t (Node ts) h = (h.0, h.1, h.2, h.3, all_more h.1 ts h.4)

    pub all_more : (ts : List Ty) (as' : Trees) → GrownAll p old ts as' → GrownAll p new ts as'
    all_more [] Nil h = h
    all_more [] (Cons a rest) h = h
    all_more (t ∷ ts) Nil h = h
    all_more (t ∷ ts) (Cons a rest) h = (grown_more t a h.0, all_more ts rest h.1)

  pub each_more : (t : Ty) (ts : Trees) → GrownEach p old t ts → GrownEach p new t ts
  each_more t Nil h = h
  each_more t (Cons a rest) h = (grown_more t a h.0, each_more t rest h.1)

  pub object_more : (k : Kept) (a : Tree) → IsObject p old k a → IsObject p new k a
  object_more (One t) a h = grown_more t a h
  object_more (Many n t) a h = (h.0, h.1, h.2, h.3, each_more t h.0 h.4)

  pub objects_more : (ks : List Kept) (ts : List Tree) → AreObjects p old ks ts → AreObjects p new ks ts
  objects_more [] [] h = h
  objects_more [] (a ∷ ts) h = h
  objects_more (k ∷ ks) [] h = h
  objects_more (k ∷ ks) (a ∷ ts) h = (object_more k a h.0, objects_more ks ts h.1)

-- ---- one after another

fine_from : {A : Type 0} (a b : List Kept) (P : List Kept → A → State → Type 0) (o : Outcome A) → Extends a b → Fine b P o → Fine a P o
fine_from a b P (Done x s) e h = (h.0, extends_trans a b h.0 e h.1, h.2)
fine_from a b P (Stopped x out) e h = tt
fine_from a b P (Cut out) e h = tt

pub fine_then : {A B : Type 0} (made : List Kept) (P : List Kept → A → State → Type 0) (Q : List Kept → B → State → Type 0) (o : Outcome A) (go : A → State → Outcome B) → Fine made P o → ((new : List Kept) (a : A) (s : State) → Extends made new → P new a s → Fine new Q (go a s)) → Fine made Q (then_do o go)
fine_then made P Q (Done a s) go h k = fine_from made h.0 Q (go a s) h.1 (k h.0 a s h.1 h.2)
fine_then made P Q (Stopped x out) go h k = tt
fine_then made P Q (Cut out) go h k = tt

fine_if : {A : Type 0} (made : List Kept) (P : List Kept → A → State → Type 0) (v : Value) (x y : Outcome A) → Fine made P x → Fine made P y → Fine made P (if_true v x y)
fine_if made P v x y h k = at (as_truth v)
  where
    at : (c : Bool) → Fine made P (elim c [ true ↦ x | false ↦ y ])
    at true = h
    at false = k

fine_turn : {A : Type 0} (made : List Kept) (P : List Kept → A → State → Type 0) (s : State) (go : State → Outcome A) → ((n : ℕ) → Fine made P (go (record s { turns = n }))) → Fine made P (turn s go)
fine_turn {A} made P s go h = at s.turns
  where
    at : (k : ℕ) → Fine made P (elim k as (λ n. Outcome A) [ zero ↦ Cut s.output | suc n ↦ go (record s { turns = n }) ])
    at zero = tt
    at (suc n) = h n

-- ---- locals

pub local_is : (p : Program) (made : List Kept) (ts : List Ty) (vs : List Value) (x : ℕ) (t : Ty) → AreAll p made ts vs → slice_get ts x ≡ Some t → Is p made t (get_or vs x Void)
local_is p made [] vs x t h e = absurd (cc e)
local_is p made (u ∷ ts) [] x t h e = absurd h
local_is p made (u ∷ ts) (v ∷ vs) zero t h e = let same : u ≡ t = cc e in subst (λ z. Is p made z v) same h.0
local_is p made (u ∷ ts) (v ∷ vs) (suc x) t h e = local_is p made ts vs x t h.1 e

pub set_is : (p : Program) (made : List Kept) (ts : List Ty) (vs : List Value) (x : ℕ) (t : Ty) (w : Value) → AreAll p made ts vs → slice_get ts x ≡ Some t → Is p made t w → AreAll p made ts (set vs x w)
set_is p made [] vs x t w h e i = absurd (cc e)
set_is p made (u ∷ ts) [] x t w h e i = absurd h
set_is p made (u ∷ ts) (v ∷ vs) zero t w h e i = let same : t ≡ u = sym (cc e) in (subst (λ z. Is p made z w) same i, h.1)
set_is p made (u ∷ ts) (v ∷ vs) (suc x) t w h e i = (h.0, set_is p made ts vs x t w h.1 e i)

-- ---- places

module _ (p : Program) where
  pub way_on : (path : List ℕ) (t : Ty) (j k : ℕ) (u : Ty) → IsWay p t path (StructTy j) → IsField p.structs j k u → IsWay p t (path ++ k ∷ []) u
  way_on [] t j k u h f = (j, u, h, f, refl)
  way_on (i ∷ path) t j k u h f = (h.0, h.1, h.2, h.3, way_on path h.1 j k u h.4 f)

  pub way_in_on : (kept : Kept) (path : List ℕ) (j k : ℕ) (u : Ty) → IsWayIn p kept path (StructTy j) → IsField p.structs j k u → IsWayIn p kept (path ++ k ∷ []) u
  way_in_on (One t) path j k u h f = way_on path t j k u h f
  way_in_on (Many n t) [] j k u h f = absurd h
  way_in_on (Many n t) (i ∷ path) j k u h f = (h.0, way_on path t j k u h.1 f)

  pub place_more : (old new : List Kept) (e : Extends old new) (u : Ty) (at : Spot) → IsPlace p old u at → IsPlace p new u at
  place_more old new e u at h = record { kept = h.kept; made_so = made_more old new e at.allocation h.kept h.made_so; way = h.way }

module _ (p : Program) (made : List Kept) where
  pub part_grown : (ts : List Ty) (as' : Trees) (k : ℕ) (t : Ty) → GrownAll p made ts as' → slice_get ts k ≡ Some t → Grown p made t (part k as')
  part_grown [] as' k t h e = absurd (cc e)
  part_grown (u ∷ ts) Nil k t h e = absurd h
  part_grown (u ∷ ts) (Cons a rest) zero t h e = let same : u ≡ t = cc e in subst (λ z. Grown p made z a) same h.0
  part_grown (u ∷ ts) (Cons a rest) (suc k) t h e = part_grown ts rest k t h.1 e

  pub with_part_grown : (ts : List Ty) (as' : Trees) (k : ℕ) (t : Ty) (new : Tree) → GrownAll p made ts as' → slice_get ts k ≡ Some t → Grown p made t new → GrownAll p made ts (with_part k new as')
  with_part_grown [] as' k t new h e g = absurd (cc e)
  with_part_grown (u ∷ ts) Nil k t new h e g = absurd h
  with_part_grown (u ∷ ts) (Cons a rest) zero t new h e g = let same : t ≡ u = sym (cc e) in (subst (λ z. Grown p made z new) same g, h.1)
  with_part_grown (u ∷ ts) (Cons a rest) (suc k) t new h e g = (h.0, with_part_grown ts rest k t new h.1 e g)

  pub each_part : (t : Ty) (ts : Trees) (k : ℕ) → GrownEach p made t ts → k < count ts → Grown p made t (part k ts)
  each_part t Nil k h l = absurd (let q : ⊥ = omega arith in q)
  each_part t (Cons a rest) zero h l = h.0
  each_part t (Cons a rest) (suc k) h l = each_part t rest k h.1 (omega arith)

  pub with_part_each : (t : Ty) (ts : Trees) (k : ℕ) (new : Tree) → GrownEach p made t ts → Grown p made t new → GrownEach p made t (with_part k new ts)
  with_part_each t Nil k new h g = h
  with_part_each t (Cons a rest) zero new h g = (g, h.1)
  with_part_each t (Cons a rest) (suc k) new h g = (h.0, with_part_each t rest k new h.1 g)

  pub count_with : (k : ℕ) (new : Tree) (ts : Trees) → count (with_part k new ts) ≡ count ts
  count_with k new Nil = refl
  count_with zero new (Cons a rest) = refl
  count_with (suc k) new (Cons a rest) = ap suc (count_with k new rest)

  pub each_copies : (t : Ty) (n : ℕ) (a : Tree) → Grown p made t a → GrownEach p made t (copies n a)
  each_copies t zero a g = tt
  each_copies t (suc n) a g = (g, each_copies t n a g)

  -- a struct is a node with its fields
  pub struct_parts : (j : ℕ) (a : Tree) → Grown p made (StructTy j) a → (fs : List Ty) × (ts : Trees) × (a ≡ Node ts) × (slice_get p.structs j ≡ Some fs) × GrownAll p made fs ts
  struct_parts j (Leaf v) h = absurd h.0
  struct_parts j (Node ts) h = let same : j ≡ h.0 = cc h.2 in (h.1, ts, refl, ap (slice_get p.structs) same ∙ h.3, h.4)

  pub part_way : (path : List ℕ) (t u : Ty) (a : Tree) → IsWay p t path u → Grown p made t a → Grown p made u (part_at path a)
  part_way [] t u a h g = subst (λ z. Grown p made z a) h g
  part_way (k ∷ path) t u a h g =
      let s = struct_parts h.0 a (subst (λ z. Grown p made z a) h.2 g) in
      let same : h.3.0 ≡ s.0 = cc (h.3.1, s.3) in
      let e : slice_get s.0 k ≡ Some h.1 = subst (λ z. slice_get z k ≡ Some h.1) same h.3.2 in
      part_way path h.1 u (part k (parts a)) h.4 (subst (λ z. Grown p made h.1 (part k (parts z))) (sym s.2) (part_grown s.0 s.1 k h.1 s.4 e))

  pub with_way : (path : List ℕ) (t u : Ty) (a new : Tree) → IsWay p t path u → Grown p made t a → Grown p made u new → Grown p made t (with_part_at path new a)
  with_way [] t u a new h g n = subst (λ z. Grown p made z new) (sym h) n
  with_way (k ∷ path) t u (Leaf v) new h g n = g
  with_way (k ∷ path) t u (Node ts) new h g n =
      let same : g.0 ≡ h.0 = cc (g.2, h.2) in
      let fields_same : h.3.0 ≡ g.1 = cc (h.3.1, g.3, same) in
      let e : slice_get g.1 k ≡ Some h.1 = subst (λ z. slice_get z k ≡ Some h.1) fields_same h.3.2 in
      let inner = with_way path h.1 u (part k ts) new h.4 (part_grown g.1 ts k h.1 g.4 e) n in
      (g.0, g.1, g.2, g.3, with_part_grown g.1 ts k h.1 (with_part_at path new (part k ts)) g.4 e inner)

  pub part_way_in : (kept : Kept) (path : List ℕ) (u : Ty) (a : Tree) → IsWayIn p kept path u → IsObject p made kept a → Grown p made u (part_at path a)
  part_way_in (One t) path u a h g = part_way path t u a h g
  part_way_in (Many n t) [] u a h g = absurd h
  part_way_in (Many n t) (i ∷ path) u a h g =
      subst (λ z. Grown p made u (part_at (i ∷ path) z)) (sym g.1)
      (part_way path t u (part i g.0) h.1 (each_part t g.0 i g.4 (subst (λ z. i < z) (sym g.2) h.0)))

  pub with_way_in : (kept : Kept) (path : List ℕ) (u : Ty) (a new : Tree) → IsWayIn p kept path u → IsObject p made kept a → Grown p made u new → IsObject p made kept (with_part_at path new a)
  with_way_in (One t) path u a new h g n = with_way path t u a new h g n
  with_way_in (Many n t) [] u a new h g q = absurd h
  with_way_in (Many n t) (i ∷ path) u a new h g q =
      let inside = subst (λ z. i < z) (sym g.2) h.0 in
      let inner = with_way path t u (part i g.0) new h.1 (each_part t g.0 i g.4 inside) q in
      let all = with_part_each t g.0 i (with_part_at path new (part i g.0)) g.4 inner in
      (with_part i (with_part_at path new (part i g.0)) g.0, ap (with_part_at (i ∷ path) new) g.1, count_with i _ g.0 ∙ g.2, g.3, all)

  pub object_at : (ks : List Kept) (heap : List Tree) (r : ℕ) (k : Kept) → AreObjects p made ks heap → slice_get ks r ≡ Some k → IsObject p made k (get_or heap r (Leaf Void))
  object_at [] heap r k h e = absurd (cc e)
  object_at (x ∷ ks) [] r k h e = absurd h
  object_at (x ∷ ks) (a ∷ heap) zero k h e = let same : x ≡ k = cc e in subst (λ z. IsObject p made z a) same h.0
  object_at (x ∷ ks) (a ∷ heap) (suc r) k h e = object_at ks heap r k h.1 e

  pub object_set : (ks : List Kept) (heap : List Tree) (r : ℕ) (k : Kept) (new : Tree) → AreObjects p made ks heap → slice_get ks r ≡ Some k → IsObject p made k new → AreObjects p made ks (set heap r new)
  object_set [] heap r k new h e o = absurd (cc e)
  object_set (x ∷ ks) [] r k new h e o = absurd h
  object_set (x ∷ ks) (a ∷ heap) zero k new h e o = let same : k ≡ x = sym (cc e) in (subst (λ z. IsObject p made z new) same o, h.1)
  object_set (x ∷ ks) (a ∷ heap) (suc r) k new h e o = (h.0, object_set ks heap r k new h.1 e o)

  pub objects_add : (ks : List Kept) (heap : List Tree) (k : Kept) (a : Tree) → AreObjects p made ks heap → IsObject p made k a → AreObjects p made (ks ++ k ∷ []) (heap ++ a ∷ [])
  objects_add [] [] k a h o = (o, tt)
  objects_add [] (x ∷ heap) k a h o = absurd h
  objects_add (y ∷ ks) [] k a h o = absurd h
  objects_add (y ∷ ks) (x ∷ heap) k a h o = (h.0, objects_add ks heap k a h.1 o)

  pub same_length : (ks : List Kept) (heap : List Tree) → AreObjects p made ks heap → length heap ≡ length ks
  same_length [] [] h = refl
  same_length [] (x ∷ heap) h = absurd h
  same_length (y ∷ ks) [] h = absurd h
  same_length (y ∷ ks) (x ∷ heap) h = ap suc (same_length ks heap h.1)

  pub allocated_object : (heap : List Tree) (r : ℕ) (k : Kept) → IsHeap p made heap → IsMade made r k → IsObject p made k (allocated heap r)
  allocated_object heap zero k h m = absurd m
  allocated_object heap (suc r) k h m = object_at made heap r k h m

  pub small_leaf : (u : Ty) (a : Tree) → IsSmall u → Grown p made u a → Is p made u (leaf a)
  small_leaf u (Leaf v) s g = g.1
  small_leaf u (Node ts) s g = absurd (subst IsSmall g.2 s)

  -- what is loaded has its type
  pub load_is : (heap : List Tree) (u : Ty) (at : Spot) → IsHeap p made heap → IsPlace p made u at → IsSmall u → Is p made u (load heap at)
  load_is heap u at h q s = small_leaf u _ s (part_way_in q.kept at.path u (allocated heap at.allocation) q.way (allocated_object heap at.allocation q.kept h q.made_so))

  -- and a store keeps all types
  pub store_is : (heap : List Tree) (u : Ty) (at : Spot) (v : Value) → IsHeap p made heap → IsPlace p made u at → IsSmall u → Is p made u v → IsHeap p made (store heap at v)
  store_is heap u at v h q s i = by_number at.allocation q.made_so
    where
      by_number : (r : ℕ) → IsMade made r q.kept → AreObjects p made made (set heap (r - 1) (with_part_at at.path (Leaf v) (allocated heap r)))
      by_number zero m = absurd m
      by_number (suc r) m =
          let less : suc r - 1 ≡ r = omega arith in
          subst (λ z. AreObjects p made made (set heap z (with_part_at at.path (Leaf v) (allocated heap (suc r))))) (sym less)
          (object_set made heap r q.kept _ h m (with_way_in q.kept at.path u (allocated heap (suc r)) (Leaf v) q.way (object_at made heap r q.kept h m) (s, i)))

-- ---- expressions

-- the operators keep to 32 bits
abbrev pub OpsFit : Type 0
OpsFit = (o : Int32Op) (a b z : ℤ) → FitsSigned w32 a → FitsSigned w32 b → op_value o a b ≡ Some z → FitsSigned w32 z

abbrev pub NotFits : Type 0
NotFits = (z : ℤ) → FitsSigned w32 (int_bit_not w32 z)

-- fresh memory has its type
abbrev pub FreshFits : Program → List Tree → Type 0
FreshFits p structs = (made : List Kept) (t : Ty) → IsHeld (length p.structs) t → Grown p made t (default structs t)

pub number_fits : (p : Program) (made : List Kept) (v : Value) → Is p made IntTy v → FitsSigned w32 (as_number v)
number_fits p made v h = subst (λ x. FitsSigned w32 (as_number x)) (sym h.1) h.2

module _ (ops : OpsFit) (nots : NotFits) (p : Program) (types : List Ty) where
  as_type : (made : List Kept) (t u : Ty) (o : Outcome Value) → t ≡ u → Fine made (Gives p types u) o → Fine made (Gives p types t) o
  as_type made t u o e h = subst (λ z. Fine made (Gives p types z) o) (sym e) h

  as_place : (made : List Kept) (t u : Ty) (o : Outcome Spot) → t ≡ u → Fine made (Finds p types u) o → Fine made (Finds p types t) o
  as_place made t u o e h = subst (λ z. Fine made (Finds p types z) o) (sym e) h

  done : (made : List Kept) (t : Ty) (v : Value) (s : State) → IsState p types made s → Is p made t v → Fine made (Gives p types t) (Done v s)
  done made t v s g h = (made, extends_refl made, (g, h))

  pub constant_is : (made : List Kept) (t : Ty) (v : Value) → IsConstant p.texts v t → Is p made t v
  constant_is made t (Number z) h = subst (λ u. Is p made u (Number z)) (sym h.0) (z, refl, h.1)
  constant_is made t (Truth b) h = subst (λ u. Is p made u (Truth b)) (sym h) (b, refl)
  constant_is made t (Letter c) h = subst (λ u. Is p made u (Letter c)) (sym h.0) (c, refl, h.1)
  constant_is made t (Text w) h = subst (λ u. Is p made u (Text w)) (sym h.0) (w, refl, h.1)
  constant_is made t (Ref r) h = absurd h
  constant_is made t Void h = absurd h

  pub unary_is : (made : List Kept) (o : UnaryOp) (v : Value) → Is p made (unary_type o) v → Is p made (unary_type o) (unary_value o v)
  unary_is made Negate v h = (wrap32 (neg_ℤ (as_number v)), refl, SFits-int_wrap w32 (neg_ℤ (as_number v)))
  unary_is made Complement v h = (int_bit_not w32 (as_number v), refl, nots (as_number v))
  unary_is made Not v h = (not (as_truth v), refl)

  fine_binary : (made : List Kept) (o : Int32Op) (v w : Value) (s : State) → IsState p types made s → Is p made IntTy v → Is p made IntTy w → Fine made (Gives p types IntTy) (value_or ArithFault (binary_value o v w) s)
  fine_binary made o v w s g h k = at (op_value o (as_number v) (as_number w)) refl
    where
      at : (x : Option ℤ) → op_value o (as_number v) (as_number w) ≡ x → Fine made (Gives p types IntTy) (value_or ArithFault (elim x [ None ↦ None | Some z ↦ Some (Number z) ]) s)
      at None e = tt
      at (Some z) e = done made IntTy (Number z) s g (z, refl, ops o (as_number v) (as_number w) z (number_fits p made v h) (number_fits p made w k) e)

  pub fine_pointed : (made : List Kept) (u : Ty) (v : Value) (s : State) → IsState p types made s → Is p made (PointerTy u) v → Fine made (Finds p types u) (pointed v s)
  fine_pointed made u v s g h = subst (λ x. Fine made (Finds p types u) (pointed x s)) (sym h.1) (at h.0 h.2)
    where
      at : (r : ℕ) → ((r ≡ 0) ⊎ IsMade made r (One u)) → Fine made (Finds p types u) (pointed (Ref r) s)
      at zero x = tt
      at (suc r) (inl z) = absurd (cc z)
      at (suc r) (inr m) = (made, extends_refl made, (g, record { kept = One u; made_so = m; way = refl }))

  pub array_long : (made : List Kept) (heap : List Tree) (r n : ℕ) (u : Ty) → IsHeap p made heap → IsMade made r (Many n u) → array_length heap r ≡ n
  array_long made heap r n u h m = let o = allocated_object p made heap r (Many n u) h m in ap (λ a. count (parts a)) o.1 ∙ o.2

  pub fine_element : (made : List Kept) (u : Ty) (v : Value) (z : ℤ) (s : State) → IsState p types made s → Is p made (ArrayTy u) v → Fine made (Finds p types u) (element v z s)
  fine_element made u v (negsuc k) s g h = tt
  fine_element made u v (pos k) s g h = subst (λ x. Fine made (Finds p types u) (element x (pos k) s)) (sym h.1) (at (nat_lt k (array_length s.heap h.0)) refl h.2)
    where
      at : (b : Bool) → nat_lt k (array_length s.heap h.0) ≡ b → ((h.0 ≡ 0) ⊎ ((n : ℕ) × IsMade made h.0 (Many n u))) → Fine made (Finds p types u) (elim b [ true ↦ Done (record { allocation = h.0; path = k ∷ [] }) s | false ↦ stop BoundsFault s ])
      at false e x = tt
      at true e (inl z) =
          let none : nat_lt k (array_length s.heap 0) ≡ true = subst (λ r. nat_lt k (array_length s.heap r) ≡ true) z e in
          let less : k < 0 = ltb-true k 0 none in
          absurd (let q : ⊥ = omega (arith, less) in q)
      at true e (inr m) =
          let less : k < array_length s.heap h.0 = ltb-true k (array_length s.heap h.0) e in
          (made, extends_refl made, (g, record { kept = Many m.0 u; made_so = m.1; way = (subst (λ n. k < n) (array_long made s.heap h.0 m.0 u g.0 m.1) less, refl) }))

  pub fine_allocate : (made : List Kept) (k : Kept) (t : Ty) (a : Tree) (s : State) → IsState p types made s → IsObject p (made ++ k ∷ []) k a → ((r : ℕ) → IsMade (made ++ k ∷ []) r k → Is p (made ++ k ∷ []) t (Ref r)) → Fine made (Gives p types t) (allocate a s)
  fine_allocate made k t a s g o is =
      let new = made ++ k ∷ [] in
      let e : Extends made new = (k ∷ [], refl) in
      let here : slice_get new (length s.heap) ≡ Some k = ap (slice_get new) (same_length p made made s.heap g.0) ∙ get_last made k in
      (new, e, ((objects_add p new made s.heap k a (objects_more p made new e made s.heap g.0) o, are_more p made new e types s.locals g.1), is (suc (length s.heap)) here))

  pub fine_length : (made : List Kept) (u : Ty) (v : Value) (s : State) → IsState p types made s → Is p made (ArrayTy u) v → Is p made IntTy (Number (pos (array_length s.heap (as_ref v))))
  fine_length made u v s g h = subst (λ x. Is p made IntTy (Number (pos (array_length s.heap (as_ref x))))) (sym h.1) (at h.0 h.2)
    where
      at : (r : ℕ) → ((r ≡ 0) ⊎ ((n : ℕ) × IsMade made r (Many n u))) → Is p made IntTy (Number (pos (array_length s.heap r)))
      at r (inl z) = subst (λ x. Is p made IntTy (Number (pos (array_length s.heap x)))) (sym z) (pos 0, refl, fits_signed_from_abs w32 (pos 0) (omega arith))
      at r (inr m) =
          let o = allocated_object p made s.heap r (Many m.0 u) g.0 m.1 in
          (pos (array_length s.heap r), refl, subst (λ n. FitsSigned w32 (pos n)) (sym (array_long made s.heap r m.0 u g.0 m.1)) o.3)

  -- the locals of the caller are there again
  pub called : (made : List Kept) (u : State) (o : Outcome Value) (f : Function) → IsState p types made u → Fine made (λ new v t. Is p new f.result v × IsHeap p new t.heap × (t.locals ≡ u.locals)) o → Fine made (Gives p types f.result) o
  called made u (Stopped x out) f g h = tt
  called made u (Cut out) f g h = tt
  called made u (Done v t) f g h =
      (h.0, h.1, ((h.2.1, subst (λ l. AreAll p h.0 types l) (sym h.2.2) (are_more p made h.0 h.1 types u.locals g.1)), h.2.0))

  module _ (structs : List Tree) (fresh : FreshFits p structs) (run : ℕ → List Value → State → Outcome Value) (calls : CallsFit p run) where
    pub fine_array : (made : List Kept) (u : Ty) (v : Value) (s : State) → IsHeld (length p.structs) u → IsState p types made s → Is p made IntTy v → Fine made (Gives p types (ArrayTy u)) (allocate_array (default structs u) (as_number v) s)
    fine_array made u v s held g h = at (as_number v) (number_fits p made v h)
      where
        at : (z : ℤ) → FitsSigned w32 z → Fine made (Gives p types (ArrayTy u)) (allocate_array (default structs u) z s)
        at (negsuc n) f = tt
        at (pos n) f =
            let new = made ++ Many n u ∷ [] in
            fine_allocate made (Many n u) (ArrayTy u) (Node (copies n (default structs u))) s g
            (copies n (default structs u), refl, count_copies n, f, each_copies p new u n (default structs u) (fresh new u held))
            (λ r m. (r, refl, inr (n, m)))
          where
            count_copies : (k : ℕ) → count (copies k (default structs u)) ≡ k
            count_copies zero = refl
            count_copies (suc k) = ap suc (count_copies k)

    mutual
      fine_eval : (e : Exp) (t : Ty) (made : List Kept) (s : State) → Has p types e t → IsState p types made s → Fine made (Gives p types t) (eval structs run e s)
      fine_eval (Constant v) t made s h g = done made t v s g (constant_is made t v h)
      fine_eval (Null u) t made s h g = as_type made t (PointerTy u) (Done (Ref 0) s) h (done made (PointerTy u) (Ref 0) s g (0, refl, inl refl))
      fine_eval (Local x) t made s h g = done made t (local x s) s g (local_is p made types s.locals x t g.1 h)
      fine_eval (Unary o a) t made s h g =
          as_type made t (unary_type o) _ h.0
          (fine_then made (Gives p types (unary_type o)) (Gives p types (unary_type o)) _ _ (fine_eval a (unary_type o) made s h.1 g)
          (λ new v u e q. done new (unary_type o) (unary_value o v) u q.0 (unary_is new o v q.1)))
      fine_eval (Binary o a b) t made s h g =
          as_type made t IntTy _ h.0
          (fine_then made (Gives p types IntTy) (Gives p types IntTy) _ _ (fine_eval a IntTy made s h.1 g) (λ new v u e q.
          fine_then new (Gives p types IntTy) (Gives p types IntTy) _ _ (fine_eval b IntTy new u h.2 q.0) (λ more w x d k.
          fine_binary more o v w x k.0 (is_more p new more d IntTy v q.1) k.1)))
      fine_eval (Compare c r a b) t made s h g =
          as_type made t BoolTy _ h.0
          (fine_then made (Gives p types c) (Gives p types BoolTy) _ _ (fine_eval a c made s h.2 g) (λ new v u e q.
          fine_then new (Gives p types c) (Gives p types BoolTy) _ _ (fine_eval b c new u h.3 q.0) (λ more w x d k.
          done more BoolTy (Truth (relation_value r v w)) x k.0 (relation_value r v w, refl))))
      fine_eval (And a b) t made s h g =
          as_type made t BoolTy _ h.0
          (fine_then made (Gives p types BoolTy) (Gives p types BoolTy) _ _ (fine_eval a BoolTy made s h.1 g) (λ new v u e q.
          fine_if new (Gives p types BoolTy) v _ _ (fine_eval b BoolTy new u h.2 q.0) (done new BoolTy v u q.0 q.1)))
      fine_eval (Or a b) t made s h g =
          as_type made t BoolTy _ h.0
          (fine_then made (Gives p types BoolTy) (Gives p types BoolTy) _ _ (fine_eval a BoolTy made s h.1 g) (λ new v u e q.
          fine_if new (Gives p types BoolTy) v _ _ (done new BoolTy v u q.0 q.1) (fine_eval b BoolTy new u h.2 q.0)))
      fine_eval (Choose w c a b) t made s h g =
          as_type made t w _ h.0
          (fine_then made (Gives p types BoolTy) (Gives p types w) _ _ (fine_eval c BoolTy made s h.1 g) (λ new v u e q.
          fine_if new (Gives p types w) v _ _ (fine_eval a w new u h.2 q.0) (fine_eval b w new u h.3 q.0)))
      fine_eval (Call f args) t made s h g =
          as_type made t h.0.result _ h.2
          (fine_then made (GivesAll p types h.0.parameters) (Gives p types h.0.result) _ _ (fine_evals args h.0.parameters made s h.3 g) (λ new vs u e q.
          called new u (run f vs u) h.0 q.0 (calls f h.0 new vs u h.1 q.1 q.0.0)))
      fine_eval (Out o args) t made s h g =
          as_type made t VoidTy _ h.0
          (fine_then made (GivesAll p types (output_types o)) (Gives p types VoidTy) _ _ (fine_evals args (output_types o) made s h.1 g) (λ new vs u e q.
          (new, extends_refl new, (q.0, refl))))
      fine_eval (Load w q) t made s h g =
          as_type made t w _ h.0
          (fine_then made (Finds p types w) (Gives p types w) _ _ (fine_locate q w made s h.2 g) (λ new at u e k.
          done new w (load u.heap at) u k.0 (load_is p new u.heap w at k.0.0 k.1 h.1)))
      fine_eval (Alloc u) t made s h g =
          as_type made t (PointerTy u) (allocate (default structs u) s) h.0
          (fine_allocate made (One u) (PointerTy u) (default structs u) s g (fresh (made ++ One u ∷ []) u h.1) (λ r m. (r, refl, inr m)))
      fine_eval (AllocArray u n) t made s h g =
          as_type made t (ArrayTy u) _ h.0
          (fine_then made (Gives p types IntTy) (Gives p types (ArrayTy u)) _ _ (fine_eval n IntTy made s h.2 g) (λ new v x e q. fine_array new u v x h.1 q.0 q.1))
      fine_eval (Length w a) t made s h g =
          as_type made t IntTy _ h.0
          (fine_then made (Gives p types (ArrayTy w)) (Gives p types IntTy) _ _ (fine_eval a (ArrayTy w) made s h.1 g) (λ new v u e q.
          done new IntTy _ u q.0 (fine_length new w v u q.0 q.1)))

      fine_evals : (es : Exps) (ts : List Ty) (made : List Kept) (s : State) → HasAll p types es ts → IsState p types made s → Fine made (GivesAll p types ts) (evals structs run es s)
      fine_evals NoExp [] made s h g = (made, extends_refl made, (g, tt))
      fine_evals NoExp (t ∷ ts) made s h g = absurd h
      fine_evals (More a rest) [] made s h g = absurd h
      fine_evals (More a rest) (t ∷ ts) made s h g =
          fine_then made (Gives p types t) (GivesAll p types (t ∷ ts)) _ _ (fine_eval a t made s h.0 g) (λ new v u e q.
          fine_then new (GivesAll p types ts) (GivesAll p types (t ∷ ts)) _ _ (fine_evals rest ts new u h.1 q.0) (λ more vs x d k.
          (more, extends_refl more, (k.0, (is_more p new more d t v q.1, k.1)))))

      fine_locate : (q : Place) (t : Ty) (made : List Kept) (s : State) → Holds p types q t → IsState p types made s → Fine made (Finds p types t) (locate structs run q s)
      fine_locate (Deref u a) t made s h g =
          as_place made t u _ h.0
          (fine_then made (Gives p types (PointerTy u)) (Finds p types u) _ _ (fine_eval a (PointerTy u) made s h.1 g) (λ new v x e q. fine_pointed new u v x q.0 q.1))
      fine_locate (Index u a i) t made s h g =
          as_place made t u _ h.0
          (fine_then made (Gives p types (ArrayTy u)) (Finds p types u) _ _ (fine_eval a (ArrayTy u) made s h.1 g) (λ new v x e q.
          fine_then new (Gives p types IntTy) (Finds p types u) _ _ (fine_eval i IntTy new x h.2 q.0) (λ more k y d j.
          fine_element more u v (as_number k) y j.0 (is_more p new more d (ArrayTy u) v q.1))))
      fine_locate (Field j q k) t made s h g =
          fine_then made (Finds p types (StructTy j)) (Finds p types t) _ _ (fine_locate q (StructTy j) made s h.0 g) (λ new at u e x.
          (new, extends_refl new, (x.0, record { kept = x.1.kept; made_so = x.1.made_so; way = way_in_on p x.1.kept at.path j k t x.1.way h.1 })))

    -- ---- statements

    fine_and : (made : List Kept) (o : Outcome Way) (go : State → Outcome Way) → Fine made (Leaves p types) o → ((new : List Kept) (s : State) → Extends made new → IsState p types new s → Fine new (Leaves p types) (go s)) → Fine made (Leaves p types) (and_then o go)
    fine_and made o go h k = fine_then made (Leaves p types) (Leaves p types) o _ h at
      where
        at : (new : List Kept) (w : Way) (s : State) → Extends made new → IsState p types new s → Fine new (Leaves p types) (elim w [ Next ↦ go s | Returned ↦ Done Returned s | Broken ↦ Done Broken s | Continued ↦ Done Continued s ])
        at new Next s e g = k new s e g
        at new Returned s e g = (new, extends_refl new, g)
        at new Broken s e g = (new, extends_refl new, g)
        at new Continued s e g = (new, extends_refl new, g)

    fine_body : (made : List Kept) (o : Outcome Way) (go : State → Outcome Way) → Fine made (Leaves p types) o → ((new : List Kept) (s : State) → Extends made new → IsState p types new s → Fine new (Leaves p types) (go s)) → Fine made (Leaves p types) (after_body o go)
    fine_body made o go h k = fine_then made (Leaves p types) (Leaves p types) o _ h at
      where
        at : (new : List Kept) (w : Way) (s : State) → Extends made new → IsState p types new s → Fine new (Leaves p types) (elim w [ Next ↦ go s | Returned ↦ Done Returned s | Broken ↦ Done Next s | Continued ↦ go s ])
        at new Next s e g = k new s e g
        at new Returned s e g = (new, extends_refl new, g)
        at new Broken s e g = (new, extends_refl new, g)
        at new Continued s e g = k new s e g

    fine_holds : (made : List Kept) (v : Value) (s : State) → IsState p types made s → Fine made (Leaves p types) (holds v s)
    fine_holds made v s g = fine_if made (Leaves p types) v (Done Next s) (stop AssertFailed s) (made, extends_refl made, g) tt

    abbrev StepsFine : (State → Outcome Way) → Type 0
    StepsFine go = (made : List Kept) (s : State) → IsState p types made s → Fine made (Leaves p types) (go s)

    abbrev TestFine : (State → Outcome Value) → Type 0
    TestFine go = (made : List Kept) (s : State) → IsState p types made s → Fine made (Gives p types BoolTy) (go s)

    module _ (inv : State → Outcome Way) (test : State → Outcome Value) (body step : State → Outcome Way) (fi : StepsFine inv) (ft : TestFine test) (fb : StepsFine body) (fs : StepsFine step) where
      fine_loop : (k : ℕ) → StepsFine (loop inv test body step k)
      fine_loop zero made s g =
          fine_and made _ _ (fi made s g) (λ new t e h.
          fine_then new (Gives p types BoolTy) (Leaves p types) _ _ (ft new t h) (λ more v u d q.
          fine_if more (Leaves p types) v (Cut u.output) (Done Next u) tt (more, extends_refl more, q.0)))
      fine_loop (suc k) made s g =
          fine_and made _ _ (fi made s g) (λ new t e h.
          fine_then new (Gives p types BoolTy) (Leaves p types) _ _ (ft new t h) (λ more v u d q.
          fine_if more (Leaves p types) v _ (Done Next u)
          (fine_turn more (Leaves p types) u (λ x. after_body (body x) (λ y. and_then (step y) (loop inv test body step k))) (λ n. fine_body more _ _ (fb more (record u { turns = n }) q.0) (λ l x c y. fine_and l _ _ (fs l x y) (λ m z b i. fine_loop k m z i))))
          (more, extends_refl more, q.0)))

    module _ (checks : Bool) where
      fine_all : (es : Exps) → AllBool p types es → StepsFine (all_hold checks structs run es)
      fine_all NoExp h made s g = (made, extends_refl made, g)
      fine_all (More a rest) h made s g =
          fine_and made _ _
          (fine_then made (Gives p types BoolTy) (Leaves p types) _ _ (fine_eval a BoolTy made s h.0 g) (λ new v u e q. fine_holds new v u q.0))
          (λ new t e q. fine_all rest h.1 new t q)

      fine_checked : (es : Exps) → AllBool p types es → StepsFine (checked checks structs run es)
      fine_checked es h made s g = at checks
        where
          at : (b : Bool) → Fine made (Leaves p types) (elim b [ true ↦ all_hold checks structs run es s | false ↦ Done Next s ])
          at true = fine_all es h made s g
          at false = (made, extends_refl made, g)

      fine_exec : (b : Stmt) → Fits p types b → StepsFine (exec checks structs run b)
      fine_exec Skip h made s g = (made, extends_refl made, g)
      fine_exec (Seq a b) h made s g = fine_and made _ _ (fine_exec a h.0 made s g) (λ new t e q. fine_exec b h.1 new t q)
      fine_exec (Set x a) h made s g =
          fine_then made (Gives p types h.0) (Leaves p types) _ _ (fine_eval a h.0 made s h.2 g) (λ new v u e q.
          (new, extends_refl new, (q.0.0, set_is p new types u.locals x h.0 v q.0.1 h.1 q.1)))
      fine_exec (Update x o a) h made s g =
          fine_then made (Gives p types IntTy) (Leaves p types) _ _ (fine_eval a IntTy made s h.1 g) (λ new v u e q.
          fine_then new (Gives p types IntTy) (Leaves p types) _ _
          (fine_binary new o (local x s) v u q.0 (is_more p made new e IntTy (local x s) (local_is p made types s.locals x IntTy g.1 h.0)) q.1)
          (λ more w y d k. (more, extends_refl more, (k.0.0, set_is p more types y.locals x IntTy w k.0.1 h.0 k.1))))
      fine_exec (Store q a) h made s g =
          fine_then made (Finds p types h.0) (Leaves p types) _ _ (fine_locate q h.0 made s h.2 g) (λ new at u e k.
          fine_then new (Gives p types h.0) (Leaves p types) _ _ (fine_eval a h.0 new u h.3 k.0) (λ more v x d j.
          (more, extends_refl more, (store_is p more x.heap h.0 at v j.0.0 (place_more p new more d h.0 at k.1) h.1 j.1, j.0.1))))
      fine_exec (StoreUpdate q o a) h made s g =
          fine_then made (Finds p types IntTy) (Leaves p types) _ _ (fine_locate q IntTy made s h.0 g) (λ new at u e k.
          fine_then new (Gives p types IntTy) (Leaves p types) _ _ (fine_eval a IntTy new u h.1 k.0) (λ more v x d j.
          fine_then more (Gives p types IntTy) (Leaves p types) _ _
          (fine_binary more o (load u.heap at) v x j.0 (is_more p new more d IntTy (load u.heap at) (load_is p new u.heap IntTy at k.0.0 k.1 tt)) j.1)
          (λ last w y c i. (last, extends_refl last, (store_is p last y.heap IntTy at w i.0.0 (place_more p more last c IntTy at (place_more p new more d IntTy at k.1)) tt i.1, i.0.1)))))
      fine_exec (Do a) h made s g =
          fine_then made (Gives p types h.0) (Leaves p types) _ _ (fine_eval a h.0 made s h.1 g) (λ new v u e q. (new, extends_refl new, q.0))
      fine_exec (If c a b) h made s g =
          fine_then made (Gives p types BoolTy) (Leaves p types) _ _ (fine_eval c BoolTy made s h.0 g) (λ new v u e q.
          fine_if new (Leaves p types) v _ _ (fine_exec a h.1 new u q.0) (fine_exec b h.2 new u q.0))
      fine_exec (Loop es c body step) h made s g =
          fine_loop (checked checks structs run es) (eval structs run c) (exec checks structs run body) (exec checks structs run step)
          (fine_checked es h.0) (λ new u q. fine_eval c BoolTy new u h.1 q) (fine_exec body h.2) (fine_exec step h.3) s.turns made s g
      fine_exec Return h made s g = (made, extends_refl made, g)
      fine_exec Break h made s g = (made, extends_refl made, g)
      fine_exec Continue h made s g = (made, extends_refl made, g)
      fine_exec (ReturnValue a) h made s g =
          fine_then made (Gives p types h.0) (Leaves p types) _ _ (fine_eval a h.0 made s h.2 g) (λ new v u e q.
          (new, extends_refl new, (q.0.0, set_is p new types u.locals 0 h.0 v q.0.1 h.1 q.1)))
      fine_exec (Assert a) h made s g =
          fine_then made (Gives p types BoolTy) (Leaves p types) _ _ (fine_eval a BoolTy made s h g) (λ new v u e q. fine_holds new v u q.0)
      fine_exec (Error a) h made s g =
          fine_then made (Gives p types TextTy) (Leaves p types) _ _ (fine_eval a TextTy made s h g) (λ new v u e q. tt)
      fine_exec (Check es) h made s g = fine_checked es h made s g

-- ---- functions

pub blank_is : (p : Program) (made : List Kept) (t : Ty) → IsSmall t → Is p made t (blank t)
blank_is p made VoidTy h = absurd h
blank_is p made IntTy h = (pos 0, refl, fits_signed_from_abs w32 (pos 0) (omega arith))
blank_is p made BoolTy h = (false, refl)
blank_is p made CharTy h = (0, refl, omega arith)
blank_is p made TextTy h = ([], refl, inl refl)
blank_is p made (StructTy k) h = absurd h
blank_is p made (PointerTy t) h = (0, refl, inl refl)
blank_is p made (ArrayTy t) h = (0, refl, inl refl)

pub blanks_are : (p : Program) (made : List Kept) (ts us : List Ty) (vs : List Value) → AreAll p made ts vs → AreSmall us → AreAll p made (ts ++ us) (vs ++ map blank us)
blanks_are p made [] [] [] a h = tt
blanks_are p made [] (u ∷ us) [] a h = (blank_is p made u h.0, blanks_are p made [] us [] tt h.1)
blanks_are p made [] us (v ∷ vs) a h = absurd a
blanks_are p made (t ∷ ts) us [] a h = absurd a
blanks_are p made (t ∷ ts) us (v ∷ vs) a h = (a.0, blanks_are p made ts us vs a.1 h)

pub result_blank : (p : Program) (made : List Kept) (t : Ty) → IsResult t → Is p made t (blank t)
result_blank p made t (inl z) = subst (λ u. Is p made u (blank u)) (sym z) refl
result_blank p made t (inr s) = blank_is p made t s

-- what a call leaves
abbrev Back : Program → Function → State → List Kept → Value → State → Type 0
Back p f s new v t = Is p new f.result v × IsHeap p new t.heap × (t.locals ≡ s.locals)

module _ (ops : OpsFit) (nots : NotFits) (p : Program) (structs : List Tree) (fresh : FreshFits p structs) (run : ℕ → List Value → State → Outcome Value) (calls : CallsFit p run) (checks : Bool) where
  fine_function : (f : Function) (args : List Value) (made : List Kept) (s : State) → FitsFunction p f → AreAll p made f.parameters args → IsHeap p made s.heap → Fine made (Back p f s) (in_function checks structs run f args s)
  fine_function f args made s h a g =
      let types = local_types f in
      let begin : IsState p types made (record s { locals = locals_at_entry f args }) = (g, (result_blank p made f.result h.0, blanks_are p made f.parameters f.locals args a h.2)) in
      fine_then made (Leaves p types) (Back p f s) _ _
      (fine_and ops nots p types structs fresh run calls made _ _
      (fine_checked ops nots p types structs fresh run calls checks f.requires h.3 made (record s { locals = locals_at_entry f args }) begin)
      (λ new t e q. fine_exec ops nots p types structs fresh run calls checks f.body h.5 new t q))
      (λ new way t e q.
      fine_then new (Leaves p types) (Back p f s) _ _ (fine_checked ops nots p types structs fresh run calls checks f.ensures h.4 new t q) (λ more way u d k.
      (more, extends_refl more, (local_is p more types u.locals 0 f.result k.1 refl, k.0, refl))))

-- ---- fresh memory

-- a struct's default has its type, for each struct that has one already
abbrev DefaultsFit : Program → List Tree → Type 0
DefaultsFit p ds = (made : List Kept) (k : ℕ) (a : Tree) → slice_get ds k ≡ Some a → Grown p made (StructTy k) a

default_fits : (p : Program) (ds : List Tree) → DefaultsFit p ds → (made : List Kept) (t : Ty) → IsHeld (length ds) t → Grown p made t (default ds t)
default_fits p ds f made VoidTy h = absurd h
default_fits p ds f made IntTy h = (tt, (pos 0, refl, fits_signed_from_abs w32 (pos 0) (omega arith)))
default_fits p ds f made BoolTy h = (tt, (false, refl))
default_fits p ds f made CharTy h = (tt, (0, refl, omega arith))
default_fits p ds f made TextTy h = (tt, ([], refl, inl refl))
default_fits p ds f made (StructTy k) h = f made k (get_or ds k (Leaf Void)) (slice_get-get_or ds k (Leaf Void) h)
default_fits p ds f made (PointerTy t) h = (tt, (0, refl, inl refl))
default_fits p ds f made (ArrayTy t) h = (tt, (0, refl, inl refl))

fields_fit : (p : Program) (ds : List Tree) → DefaultsFit p ds → (made : List Kept) (ts : List Ty) → AreHeld (length ds) ts → GrownAll p made ts (fields ds ts)
fields_fit p ds f made [] h = tt
fields_fit p ds f made (t ∷ ts) h = (default_fits p ds f made t h.0, fields_fit p ds f made ts h.1)

last_or : {A : Type 0} (xs : List A) (y : A) (k : ℕ) (a : A) → slice_get (xs ++ y ∷ []) k ≡ Some a → (slice_get xs k ≡ Some a) ⊎ ((k ≡ length xs) × (a ≡ y))
last_or [] y zero a e = inr (refl, cc e)
last_or [] y (suc k) a e = absurd (cc e)
last_or (x ∷ xs) y zero a e = inl e
last_or (x ∷ xs) y (suc k) a e = at (last_or xs y k a e)
  where
    at : ((slice_get xs k ≡ Some a) ⊎ ((k ≡ length xs) × (a ≡ y))) → (slice_get xs k ≡ Some a) ⊎ ((suc k ≡ suc (length xs)) × (a ≡ y))
    at (inl z) = inl z
    at (inr z) = inr (ap suc z.0, z.1)

defaults_add : (p : Program) (ds : List Tree) (ts : List Ty) → DefaultsFit p ds → AreHeld (length ds) ts → slice_get p.structs (length ds) ≡ Some ts → DefaultsFit p (ds ++ Node (fields ds ts) ∷ [])
defaults_add p ds ts f h e made k a g = at (last_or ds (Node (fields ds ts)) k a g)
  where
    at : ((slice_get ds k ≡ Some a) ⊎ ((k ≡ length ds) × (a ≡ Node (fields ds ts)))) → Grown p made (StructTy k) a
    at (inl z) = f made k a z
    at (inr z) = subst (λ x. Grown p made (StructTy k) x) (sym z.1) (k, ts, refl, ap (slice_get p.structs) z.0 ∙ e, fields_fit p ds f made ts h)

struct_defaults_fit : (p : Program) (before rest : List (List Ty)) (ds : List Tree) → p.structs ≡ before ++ rest → length ds ≡ length before → DefaultsFit p ds → FitsStructs (length ds) rest → DefaultsFit p (struct_defaults ds rest) × (length (struct_defaults ds rest) ≡ length p.structs)
struct_defaults_fit p before [] ds e l f h = (f, l ∙ ap length (sym (append-nil before)) ∙ ap length (sym e))
struct_defaults_fit p before (ts ∷ rest) ds e l f h =
    let longer : length (ds ++ Node (fields ds ts) ∷ []) ≡ suc (length ds) = length-append ds (Node (fields ds ts) ∷ []) ∙ omega arith in
    let long_before : length (before ++ ts ∷ []) ≡ suc (length before) = length-append before (ts ∷ []) ∙ omega arith in
    let e' : p.structs ≡ (before ++ ts ∷ []) ++ rest = e ∙ sym (append_assoc before (ts ∷ []) rest) in
    let here : slice_get p.structs (length ds) ≡ Some ts = ap (λ k. slice_get p.structs k) l ∙ ap (λ q. slice_get q (length before)) e' ∙ get_more (before ++ ts ∷ []) rest (length before) ts (get_last before ts) in
    struct_defaults_fit p (before ++ ts ∷ []) rest (ds ++ Node (fields ds ts) ∷ []) e' (longer ∙ ap suc l ∙ sym long_before) (defaults_add p ds ts f h.0 here) (subst (λ n. FitsStructs n rest) (sym longer) h.1)

pub fresh_fits : (p : Program) → FitsProgram p → FreshFits p (struct_defaults [] p.structs)
fresh_fits p fp made t h =
    let all = struct_defaults_fit p [] p.structs [] refl refl (λ made k a e. absurd (cc e)) fp.structs in
    default_fits p (struct_defaults [] p.structs) all.0 made t (subst (λ n. IsHeld n t) (sym all.1) h)

-- ---- programs

module _ (ops : OpsFit) (nots : NotFits) where
  pub call_sound : CallSound
  call_sound p fp checks zero f g made args s e a h = tt
  call_sound p fp checks (suc d) f g made args s e a h =
      let same : get_or p.functions f no_function ≡ g = get_or_from_slice_get p.functions f g no_function e in
      fine_turn made (Back p g s) s (in_function checks (struct_defaults [] p.structs) (call checks p d) (get_or p.functions f no_function) args) (λ n.
      subst (λ z. Fine made (Back p g s) (in_function checks (struct_defaults [] p.structs) (call checks p d) z args (record s { turns = n }))) (sym same)
      (fine_function ops nots p (struct_defaults [] p.structs) (fresh_fits p fp) (call checks p d) (call_sound p fp checks d) checks g args made (record s { turns = n }) (fp.functions f g e) a h))

  pub eval_sound : EvalSound
  eval_sound p fp checks d types e t made s h g = fine_eval ops nots p types (struct_defaults [] p.structs) (fresh_fits p fp) (call checks p d) (call_sound p fp checks d) e t made s h g

  pub locate_sound : LocateSound
  locate_sound p fp checks d types q t made s h g = fine_locate ops nots p types (struct_defaults [] p.structs) (fresh_fits p fp) (call checks p d) (call_sound p fp checks d) q t made s h g

  pub exec_sound : ExecSound
  exec_sound p fp checks d types b made s h g = fine_exec ops nots p types (struct_defaults [] p.structs) (fresh_fits p fp) (call checks p d) (call_sound p fp checks d) checks b h made s g

  pub main_sound : MainSound
  main_sound p fp checks n =
      let f = fp.main.0 in
      let a : AreAll p [] f.parameters [] = subst (λ ts. AreAll p [] ts []) (sym fp.main.2) tt in
      let start : State = record { turns = n; heap = []; locals = []; output = [] } in
      ended start (call checks p n p.main [] start) (call_sound p fp checks n p.main f [] [] start fp.main.1 a tt)
    where
      ended : (start : State) (o : Outcome Value) → Fine [] (Back p fp.main.0 start) o → Fine [] (λ made v t. Is p made IntTy v × IsHeap p made t.heap) o
      ended start (Done v t) h = (h.0, h.1, (subst (λ u. Is p h.0 u v) fp.main.3 h.2.0, h.2.1))
      ended start (Stopped x out) h = tt
      ended start (Cut out) h = tt
