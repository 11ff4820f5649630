-- More turns change nothing where the program has ended, and else print more.
use Rattle.std.proofs.Common.{◌≡◌, ℕ, zero, suc, ◌≤◌, List, [], ◌∷◌, ◌++◌, get_or, refl, sym, ap, ◌∙◌, subst, arith, append_assoc, append-nil, Bool, true, false, Option, Some, None, ℤ, pos, negsuc}
use Rattle.std.specs.Prelude.{nat_lt}
use Rattle.c0_typed.specs.Values.{Value, Ref, Tree, Spot, as_ref, as_number, as_truth, array_length, load}
use Rattle.c0_typed.specs.Trees.{Exp, Constant, Null, Local, Unary, Binary, Compare, And, Or, Choose, Call, Out, Load, Alloc, AllocArray, Length, Exps, NoExp, More, Place, Deref, Index, Field, Stmt, Skip, Seq, Set, Update, Store, StoreUpdate, Do, If, Loop, Return, ReturnValue, Break, Continue, Assert, Error, Check, Function, Program}
use Rattle.cells.specs.Stops.{Stop, ArithFault, NullFault, BoundsFault, AssertFailed}
use Rattle.cells.specs.Outcomes.{Done, Stopped, Cut, then_do}
use Rattle.c0_typed.specs.Meaning.{State, Outcome, stop, value_or, if_true, turn, local, binary_value, printed, default, allocate_array, pointed, element, eval, evals, locate, Way, Next, Returned, Broken, Continued, and_then, after_body, holds, loop, all_hold, checked, exec, locals_at_entry, in_function, no_function, struct_defaults, call, told}
use Rattle.cells.specs.Outcomes.{IsPrefix, KeepsEnd}
use Rattle.c0_typed.specs.More.{MoreTurnsExtend}

abbrev more : ℕ → State → State
more n s = record s { turns = n }

pub prefix_refl : (xs : List ℕ) → IsPrefix xs xs
prefix_refl xs = ([], append-nil xs)

prefix_trans : (xs ys zs : List ℕ) → IsPrefix xs ys → IsPrefix ys zs → IsPrefix xs zs
prefix_trans xs ys zs a b = (a.0 ++ b.0, sym (append_assoc xs a.0 b.0) ∙ ap (λ l. l ++ b.0) a.1 ∙ b.1)

-- the output grows
abbrev Grows : {A : Type 0} → List ℕ → Outcome A → Type 0
Grows out (Done a t) = IsPrefix out t.output
Grows out (Stopped x o) = IsPrefix out o
Grows out (Cut o) = IsPrefix out o

-- the second outcome is the first with more turns, of which at most n are left
abbrev Extends : {A : Type 0} → ℕ → Outcome A → Outcome A → Type 0
Extends n (Done a t) o = (m : ℕ) × (t.turns ≤ m) × (m ≤ n) × (o ≡ Done a (more m t))
Extends n (Stopped x out) o = o ≡ Stopped x out
Extends n (Cut out) o = Grows out o

grow_from : {A : Type 0} (xs ys : List ℕ) (o : Outcome A) → IsPrefix xs ys → Grows ys o → Grows xs o
grow_from xs ys (Done a t) h g = prefix_trans xs ys t.output h g
grow_from xs ys (Stopped x out) h g = prefix_trans xs ys out h g
grow_from xs ys (Cut out) h g = prefix_trans xs ys out h g

grow_then : {A B : Type 0} (out : List ℕ) (o : Outcome A) (go : A → State → Outcome B) → Grows out o → ((a : A) (t : State) → Grows t.output (go a t)) → Grows out (then_do o go)
grow_then out (Done a t) go h k = grow_from out t.output (go a t) h (k a t)
grow_then out (Stopped x o) go h k = h
grow_then out (Cut o) go h k = h

ext_weaker : {A : Type 0} (m n : ℕ) (o o' : Outcome A) → m ≤ n → Extends m o o' → Extends n o o'
ext_weaker m n (Done a t) o' h e = (e.0, e.1, omega (arith, e.2), e.3)
ext_weaker m n (Stopped x out) o' h e = e
ext_weaker m n (Cut out) o' h e = e

ext_done : {A : Type 0} (m : ℕ) (a : A) (t : State) → t.turns ≤ m → Extends m (Done a t) (Done a (more m t))
ext_done m a t h = (m, h, omega arith, refl)

ext_then : {A B : Type 0} (n : ℕ) (o o' : Outcome A) (go go' : A → State → Outcome B) → Extends n o o' → ((a : A) (t : State) (m : ℕ) → t.turns ≤ m → m ≤ n → Extends m (go a t) (go' a (more m t))) → ((a : A) (t : State) → Grows t.output (go' a t)) → Extends n (then_do o go) (then_do o' go')
ext_then n (Done a t) o' go go' h k g =
    subst (λ x. Extends n (go a t) (then_do x go')) (sym h.3) (ext_weaker h.0 n (go a t) (go' a (more h.0 t)) h.2 (k a t h.0 h.1 h.2))
ext_then n (Stopped x out) o' go go' h k g = ap (λ y. then_do y go') h
ext_then n (Cut out) o' go go' h k g = grow_then out o' go' h g

grow_if : {A : Type 0} (out : List ℕ) (v : Value) (a b : Outcome A) → Grows out a → Grows out b → Grows out (if_true v a b)
grow_if out v a b h k = at (as_truth v)
  where
    at : (c : Bool) → Grows out (elim c [ true ↦ a | false ↦ b ])
    at true = h
    at false = k

ext_if : {A : Type 0} (n : ℕ) (v : Value) (a b a' b' : Outcome A) → Extends n a a' → Extends n b b' → Extends n (if_true v a b) (if_true v a' b')
ext_if n v a b a' b' h k = at (as_truth v)
  where
    at : (c : Bool) → Extends n (elim c [ true ↦ a | false ↦ b ]) (elim c [ true ↦ a' | false ↦ b' ])
    at true = h
    at false = k

abbrev turn_at : {A : Type 0} → State → (State → Outcome A) → ℕ → Outcome A
turn_at {A} s go k = elim k as (λ n. Outcome A) [ zero ↦ Cut s.output | suc n ↦ go (more n s) ]

grow_turn : {A : Type 0} (s : State) (go : State → Outcome A) → ((t : State) → Grows t.output (go t)) → Grows s.output (turn s go)
grow_turn s go h = at s.turns
  where
    at : (k : ℕ) → Grows s.output (turn_at s go k)
    at zero = prefix_refl s.output
    at (suc n) = h (more n s)

ext_turn : {A : Type 0} (s : State) (m : ℕ) (go go' : State → Outcome A) → s.turns ≤ m → ((j i : ℕ) → j ≤ i → suc i ≤ m → Extends i (go (more j s)) (go' (more i s))) → ((t : State) → Grows t.output (go' t)) → Extends m (turn s go) (turn (more m s) go')
ext_turn s m go go' h k g = at s.turns m h k
  where
    at : (j i : ℕ) → j ≤ i → ((x y : ℕ) → x ≤ y → suc y ≤ i → Extends y (go (more x s)) (go' (more y s))) → Extends i (turn_at s go j) (turn_at s go' i)
    at zero i h k = grow_turn (more i s) go' g
    at (suc j) zero h k = absurd (let q : ⊥ = omega arith in q)
    at (suc j) (suc i) h k = ext_weaker i (suc i) (go (more j s)) (go' (more i s)) (omega arith) (k j i (omega arith) (omega arith))

-- ---- the steps that look at the state

grow_value_or : (x : Stop) (o : Option Value) (s : State) → Grows s.output (value_or x o s)
grow_value_or x None s = prefix_refl s.output
grow_value_or x (Some v) s = prefix_refl s.output

ext_value_or : (x : Stop) (o : Option Value) (s : State) (m : ℕ) → s.turns ≤ m → Extends m (value_or x o s) (value_or x o (more m s))
ext_value_or x None s m h = refl
ext_value_or x (Some v) s m h = ext_done m v s h

grow_array : (t : Tree) (z : ℤ) (s : State) → Grows s.output (allocate_array t z s)
grow_array t (pos n) s = prefix_refl s.output
grow_array t (negsuc n) s = prefix_refl s.output

ext_array : (t : Tree) (z : ℤ) (s : State) (m : ℕ) → s.turns ≤ m → Extends m (allocate_array t z s) (allocate_array t z (more m s))
ext_array t (pos n) s m h = (m, h, omega arith, refl)
ext_array t (negsuc n) s m h = refl

grow_pointed : (v : Value) (s : State) → Grows s.output (pointed v s)
grow_pointed v s = at (as_ref v)
  where
    at : (r : ℕ) → Grows {A = Spot} s.output (elim r [ zero ↦ stop NullFault s | suc k ↦ Done (record { allocation = suc k; path = [] }) s ])
    at zero = prefix_refl s.output
    at (suc k) = prefix_refl s.output

ext_pointed : (v : Value) (s : State) (m : ℕ) → s.turns ≤ m → Extends m (pointed v s) (pointed v (more m s))
ext_pointed v s m h = at (as_ref v)
  where
    at : (r : ℕ) → Extends {A = Spot} m (elim r [ zero ↦ stop NullFault s | suc k ↦ Done (record { allocation = suc k; path = [] }) s ]) (elim r [ zero ↦ stop NullFault (more m s) | suc k ↦ Done (record { allocation = suc k; path = [] }) (more m s) ])
    at zero = refl
    at (suc k) = (m, h, omega arith, refl)

abbrev element_at : Value → ℕ → State → Bool → Outcome Spot
element_at v k s b = elim b [ true ↦ Done (record { allocation = as_ref v; path = k ∷ [] }) s | false ↦ stop BoundsFault s ]

grow_element : (v : Value) (z : ℤ) (s : State) → Grows s.output (element v z s)
grow_element v (pos k) s = at (nat_lt k (array_length s.heap (as_ref v)))
  where
    at : (b : Bool) → Grows s.output (element_at v k s b)
    at true = prefix_refl s.output
    at false = prefix_refl s.output
grow_element v (negsuc k) s = prefix_refl s.output

ext_element : (v : Value) (z : ℤ) (s : State) (m : ℕ) → s.turns ≤ m → Extends m (element v z s) (element v z (more m s))
ext_element v (pos k) s m h = at (nat_lt k (array_length s.heap (as_ref v)))
  where
    at : (b : Bool) → Extends m (element_at v k s b) (element_at v k (more m s) b)
    at true = (m, h, omega arith, refl)
    at false = refl
ext_element v (negsuc k) s m h = refl

-- ---- expressions

abbrev Calls : Type 0
Calls = ℕ → List Value → State → Outcome Value

abbrev CallsGrow : Calls → Type 0
CallsGrow f = (k : ℕ) (vs : List Value) (s : State) → Grows s.output (f k vs s)

-- g is f with more turns, for states with at most cap of them
abbrev CallsExtend : ℕ → Calls → Calls → Type 0
CallsExtend cap f g = (k : ℕ) (vs : List Value) (s : State) (m : ℕ) → s.turns ≤ m → m ≤ cap → Extends m (f k vs s) (g k vs (more m s))

module _ (structs : List Tree) (g : Calls) (grow : CallsGrow g) where
  mutual
    grow_eval : (e : Exp) (s : State) → Grows s.output (eval structs g e s)
    grow_eval (Constant v) s = prefix_refl s.output
    grow_eval (Null ty) s = prefix_refl s.output
    grow_eval (Local x) s = prefix_refl s.output
    grow_eval (Unary o a) s = grow_then _ _ _ (grow_eval a s) (λ v t. prefix_refl t.output)
    grow_eval (Binary o a b) s = grow_then _ _ _ (grow_eval a s) (λ v t. grow_then _ _ _ (grow_eval b t) (λ w u. grow_value_or ArithFault (binary_value o v w) u))
    grow_eval (Compare ty r a b) s = grow_then _ _ _ (grow_eval a s) (λ v t. grow_then _ _ _ (grow_eval b t) (λ w u. prefix_refl u.output))
    grow_eval (And a b) s = grow_then _ _ _ (grow_eval a s) (λ v t. grow_if _ v _ _ (grow_eval b t) (prefix_refl t.output))
    grow_eval (Or a b) s = grow_then _ _ _ (grow_eval a s) (λ v t. grow_if _ v _ _ (prefix_refl t.output) (grow_eval b t))
    grow_eval (Choose ty c a b) s = grow_then _ _ _ (grow_eval c s) (λ v t. grow_if _ v _ _ (grow_eval a t) (grow_eval b t))
    grow_eval (Call f args) s = grow_then _ _ _ (grow_evals args s) (λ vs t. grow f vs t)
    grow_eval (Out o args) s = grow_then _ _ _ (grow_evals args s) (λ vs t. (printed o vs, refl))
    grow_eval (Load ty p) s = grow_then _ _ _ (grow_locate p s) (λ at t. prefix_refl t.output)
    grow_eval (Alloc ty) s = prefix_refl s.output
    grow_eval (AllocArray ty n) s = grow_then _ _ _ (grow_eval n s) (λ v t. grow_array (default structs ty) (as_number v) t)
    grow_eval (Length ty a) s = grow_then _ _ _ (grow_eval a s) (λ v t. prefix_refl t.output)

    grow_evals : (es : Exps) (s : State) → Grows s.output (evals structs g es s)
    grow_evals NoExp s = prefix_refl s.output
    grow_evals (More a rest) s = grow_then _ _ _ (grow_eval a s) (λ v t. grow_then _ _ _ (grow_evals rest t) (λ vs u. prefix_refl u.output))

    grow_locate : (p : Place) (s : State) → Grows s.output (locate structs g p s)
    grow_locate (Deref ty a) s = grow_then _ _ _ (grow_eval a s) (λ v t. grow_pointed v t)
    grow_locate (Index ty a i) s = grow_then _ _ _ (grow_eval a s) (λ v t. grow_then _ _ _ (grow_eval i t) (λ k u. grow_element v (as_number k) u))
    grow_locate (Field j p k) s = grow_then _ _ _ (grow_locate p s) (λ at t. prefix_refl t.output)

module _ (structs : List Tree) (f g : Calls) (cap : ℕ) (grow : CallsGrow g) (extend : CallsExtend cap f g) where
  mutual
    ext_eval : (e : Exp) (s : State) (m : ℕ) → s.turns ≤ m → m ≤ cap → Extends m (eval structs f e s) (eval structs g e (more m s))
    ext_eval (Constant v) s m h c = ext_done m v s h
    ext_eval (Null ty) s m h c = ext_done m (Ref 0) s h
    ext_eval (Local x) s m h c = ext_done m (local x s) s h
    ext_eval (Unary o a) s m h c = ext_then _ _ _ _ _ (ext_eval a s m h c) (λ v t n k l. ext_done n _ t k) (λ v t. prefix_refl t.output)
    ext_eval (Binary o a b) s m h c =
        ext_then _ _ _ _ _ (ext_eval a s m h c)
        (λ v t n k l. ext_then _ _ _ _ _ (ext_eval b t n k (omega arith)) (λ w u i x y. ext_value_or ArithFault (binary_value o v w) u i x) (λ w u. grow_value_or ArithFault (binary_value o v w) u))
        (λ v t. grow_then _ _ _ (grow_eval structs g grow b t) (λ w u. grow_value_or ArithFault (binary_value o v w) u))
    ext_eval (Compare ty r a b) s m h c =
        ext_then _ _ _ _ _ (ext_eval a s m h c)
        (λ v t n k l. ext_then _ _ _ _ _ (ext_eval b t n k (omega arith)) (λ w u i x y. ext_done i _ u x) (λ w u. prefix_refl u.output))
        (λ v t. grow_then _ _ _ (grow_eval structs g grow b t) (λ w u. prefix_refl u.output))
    ext_eval (And a b) s m h c =
        ext_then _ _ _ _ _ (ext_eval a s m h c) (λ v t n k l. ext_if n v _ _ _ _ (ext_eval b t n k (omega arith)) (ext_done n v t k)) (λ v t. grow_if _ v _ _ (grow_eval structs g grow b t) (prefix_refl t.output))
    ext_eval (Or a b) s m h c =
        ext_then _ _ _ _ _ (ext_eval a s m h c) (λ v t n k l. ext_if n v _ _ _ _ (ext_done n v t k) (ext_eval b t n k (omega arith))) (λ v t. grow_if _ v _ _ (prefix_refl t.output) (grow_eval structs g grow b t))
    ext_eval (Choose ty q a b) s m h c =
        ext_then _ _ _ _ _ (ext_eval q s m h c) (λ v t n k l. ext_if n v _ _ _ _ (ext_eval a t n k (omega arith)) (ext_eval b t n k (omega arith))) (λ v t. grow_if _ v _ _ (grow_eval structs g grow a t) (grow_eval structs g grow b t))
    ext_eval (Call i args) s m h c = ext_then _ _ _ _ _ (ext_evals args s m h c) (λ vs t n k l. extend i vs t n k (omega arith)) (λ vs t. grow i vs t)
    ext_eval (Out o args) s m h c =
        ext_then _ _ _ _ _ (ext_evals args s m h c) (λ vs t n k l. (n, k, omega arith, refl)) (λ vs t. (printed o vs, refl))
    ext_eval (Load ty p) s m h c = ext_then _ _ _ _ _ (ext_locate p s m h c) (λ at t n k l. ext_done n _ t k) (λ at t. prefix_refl t.output)
    ext_eval (Alloc ty) s m h c = (m, h, omega arith, refl)
    ext_eval (AllocArray ty a) s m h c =
        ext_then _ _ _ _ _ (ext_eval a s m h c) (λ v t n k l. ext_array (default structs ty) (as_number v) t n k) (λ v t. grow_array (default structs ty) (as_number v) t)
    ext_eval (Length ty a) s m h c = ext_then _ _ _ _ _ (ext_eval a s m h c) (λ v t n k l. ext_done n _ t k) (λ v t. prefix_refl t.output)

    ext_evals : (es : Exps) (s : State) (m : ℕ) → s.turns ≤ m → m ≤ cap → Extends m (evals structs f es s) (evals structs g es (more m s))
    ext_evals NoExp s m h c = (m, h, omega arith, refl)
    ext_evals (More a rest) s m h c =
        ext_then _ _ _ _ _ (ext_eval a s m h c)
        (λ v t n k l. ext_then _ _ _ _ _ (ext_evals rest t n k (omega arith)) (λ vs u i x y. ext_done i _ u x) (λ vs u. prefix_refl u.output))
        (λ v t. grow_then _ _ _ (grow_evals structs g grow rest t) (λ vs u. prefix_refl u.output))

    ext_locate : (p : Place) (s : State) (m : ℕ) → s.turns ≤ m → m ≤ cap → Extends m (locate structs f p s) (locate structs g p (more m s))
    ext_locate (Deref ty a) s m h c = ext_then _ _ _ _ _ (ext_eval a s m h c) (λ v t n k l. ext_pointed v t n k) (λ v t. grow_pointed v t)
    ext_locate (Index ty a i) s m h c =
        ext_then _ _ _ _ _ (ext_eval a s m h c)
        (λ v t n k l. ext_then _ _ _ _ _ (ext_eval i t n k (omega arith)) (λ w u j x y. ext_element v (as_number w) u j x) (λ w u. grow_element v (as_number w) u))
        (λ v t. grow_then _ _ _ (grow_eval structs g grow i t) (λ w u. grow_element v (as_number w) u))
    ext_locate (Field j p k) s m h c = ext_then _ _ _ _ _ (ext_locate p s m h c) (λ at t n i l. ext_done n _ t i) (λ at t. prefix_refl t.output)

-- ---- statements

abbrev Steps : Type 0
Steps = State → Outcome Way

abbrev StepsGrow : {A : Type 0} → (State → Outcome A) → Type 0
StepsGrow f = (s : State) → Grows s.output (f s)

abbrev StepsExtend : {A : Type 0} → ℕ → (State → Outcome A) → (State → Outcome A) → Type 0
StepsExtend cap f g = (s : State) (m : ℕ) → s.turns ≤ m → m ≤ cap → Extends m (f s) (g (more m s))

grow_and : (out : List ℕ) (o : Outcome Way) (go : Steps) → Grows out o → StepsGrow go → Grows out (and_then o go)
grow_and out o go h k = grow_then out o (λ way s. elim way [ Next ↦ go s | Returned ↦ Done Returned s | Broken ↦ Done Broken s | Continued ↦ Done Continued s ]) h at
  where
    at : (way : Way) (t : State) → Grows t.output (elim way [ Next ↦ go t | Returned ↦ Done Returned t | Broken ↦ Done Broken t | Continued ↦ Done Continued t ])
    at Next t = k t
    at Returned t = prefix_refl t.output
    at Broken t = prefix_refl t.output
    at Continued t = prefix_refl t.output

ext_and : (n : ℕ) (o o' : Outcome Way) (go go' : Steps) → Extends n o o' → StepsExtend n go go' → StepsGrow go' → Extends n (and_then o go) (and_then o' go')
ext_and n o o' go go' h k g =
    ext_then n o o' (λ way s. elim way [ Next ↦ go s | Returned ↦ Done Returned s | Broken ↦ Done Broken s | Continued ↦ Done Continued s ]) (λ way s. elim way [ Next ↦ go' s | Returned ↦ Done Returned s | Broken ↦ Done Broken s | Continued ↦ Done Continued s ]) h at by
  where
    at : (way : Way) (t : State) (m : ℕ) → t.turns ≤ m → m ≤ n → Extends m (elim way [ Next ↦ go t | Returned ↦ Done Returned t | Broken ↦ Done Broken t | Continued ↦ Done Continued t ]) (elim way [ Next ↦ go' (more m t) | Returned ↦ Done Returned (more m t) | Broken ↦ Done Broken (more m t) | Continued ↦ Done Continued (more m t) ])
    at Next t m x y = k t m x y
    at Returned t m x y = ext_done m Returned t x
    at Broken t m x y = ext_done m Broken t x
    at Continued t m x y = ext_done m Continued t x

    by : (way : Way) (t : State) → Grows t.output (elim way [ Next ↦ go' t | Returned ↦ Done Returned t | Broken ↦ Done Broken t | Continued ↦ Done Continued t ])
    by Next t = g t
    by Returned t = prefix_refl t.output
    by Broken t = prefix_refl t.output
    by Continued t = prefix_refl t.output

-- the same behind the body of a loop
grow_body : (out : List ℕ) (o : Outcome Way) (go : Steps) → Grows out o → StepsGrow go → Grows out (after_body o go)
grow_body out o go h k = grow_then out o (λ way s. elim way [ Next ↦ go s | Returned ↦ Done Returned s | Broken ↦ Done Next s | Continued ↦ go s ]) h at
  where
    at : (way : Way) (t : State) → Grows t.output (elim way [ Next ↦ go t | Returned ↦ Done Returned t | Broken ↦ Done Next t | Continued ↦ go t ])
    at Next t = k t
    at Returned t = prefix_refl t.output
    at Broken t = prefix_refl t.output
    at Continued t = k t

ext_body : (n : ℕ) (o o' : Outcome Way) (go go' : Steps) → Extends n o o' → StepsExtend n go go' → StepsGrow go' → Extends n (after_body o go) (after_body o' go')
ext_body n o o' go go' h k g =
    ext_then n o o' (λ way s. elim way [ Next ↦ go s | Returned ↦ Done Returned s | Broken ↦ Done Next s | Continued ↦ go s ]) (λ way s. elim way [ Next ↦ go' s | Returned ↦ Done Returned s | Broken ↦ Done Next s | Continued ↦ go' s ]) h at by
  where
    at : (way : Way) (t : State) (m : ℕ) → t.turns ≤ m → m ≤ n → Extends m (elim way [ Next ↦ go t | Returned ↦ Done Returned t | Broken ↦ Done Next t | Continued ↦ go t ]) (elim way [ Next ↦ go' (more m t) | Returned ↦ Done Returned (more m t) | Broken ↦ Done Next (more m t) | Continued ↦ go' (more m t) ])
    at Next t m x y = k t m x y
    at Returned t m x y = ext_done m Returned t x
    at Broken t m x y = ext_done m Next t x
    at Continued t m x y = k t m x y

    by : (way : Way) (t : State) → Grows t.output (elim way [ Next ↦ go' t | Returned ↦ Done Returned t | Broken ↦ Done Next t | Continued ↦ go' t ])
    by Next t = g t
    by Returned t = prefix_refl t.output
    by Broken t = prefix_refl t.output
    by Continued t = g t

grow_holds : (v : Value) (s : State) → Grows s.output (holds v s)
grow_holds v s = grow_if s.output v (Done Next s) (stop AssertFailed s) (prefix_refl s.output) (prefix_refl s.output)

ext_holds : (v : Value) (s : State) (m : ℕ) → s.turns ≤ m → Extends m (holds v s) (holds v (more m s))
ext_holds v s m h = ext_if m v (Done Next s) (stop AssertFailed s) (Done Next (more m s)) (stop AssertFailed (more m s)) (ext_done m Next s h) refl

-- ---- loops

module _ (inv : Steps) (test : State → Outcome Value) (body step : Steps) (gi : StepsGrow inv) (gt : StepsGrow test) (gb : StepsGrow body) (gs : StepsGrow step) where
  grow_loop : (k : ℕ) (s : State) → Grows s.output (loop inv test body step k s)
  grow_loop zero s =
      grow_and _ _ _ (gi s) (λ t. grow_then _ _ _ (gt t) (λ v u. grow_if _ v (Cut u.output) (Done Next u) (prefix_refl u.output) (prefix_refl u.output)))
  grow_loop (suc k) s =
      grow_and _ _ _ (gi s) (λ t. grow_then _ _ _ (gt t) (λ v u.
      grow_if _ v _ (Done Next u) (grow_turn u _ (λ w. grow_body _ _ _ (gb w) (λ x. grow_and _ _ _ (gs x) (λ y. grow_loop k y)))) (prefix_refl u.output)))

-- one time round
abbrev round : (body step again : Steps) → Steps
round body step again w = after_body (body w) (λ x. and_then (step x) again)

module _ (cap : ℕ) (inv inv' : Steps) (test test' : State → Outcome Value) (body body' step step' : Steps) (gi : StepsGrow inv') (gt : StepsGrow test') (gb : StepsGrow body') (gs : StepsGrow step') (ei : StepsExtend cap inv inv') (et : StepsExtend cap test test') (eb : StepsExtend cap body body') (es : StepsExtend cap step step') where
  -- the tests of a loop, and what the rest of it must do
  ext_front : (s : State) (m : ℕ) (go go' : Steps) → s.turns ≤ m → m ≤ cap → StepsExtend m go go' → StepsGrow go'
      → Extends m (and_then (inv s) (λ t. then_do (test t) (λ v u. if_true v (go u) (Done Next u)))) (and_then (inv' (more m s)) (λ t. then_do (test' t) (λ v u. if_true v (go' u) (Done Next u))))
  ext_front s m go go' h c e g =
      ext_and _ _ _ _ _ (ei s m h c)
      (λ t n k l. ext_then _ _ _ _ _ (et t n k (omega arith)) (λ v u i x y. ext_if i v _ _ _ _ (e u i x (omega arith)) (ext_done i Next u x)) (λ v u. grow_if _ v (go' u) (Done Next u) (g u) (prefix_refl u.output)))
      (λ t. grow_then _ _ _ (gt t) (λ v u. grow_if _ v (go' u) (Done Next u) (g u) (prefix_refl u.output)))

  ext_loop : (k k' : ℕ) (s : State) (m : ℕ) → s.turns ≤ m → m ≤ k' → m ≤ cap → Extends m (loop inv test body step k s) (loop inv' test' body' step' k' (more m s))
  ext_loop zero zero s m h l c = ext_front s m (λ u. Cut u.output) (λ u. Cut u.output) h c (λ u n x y. prefix_refl u.output) (λ u. prefix_refl u.output)
  ext_loop zero (suc k') s m h l c =
      ext_front s m (λ u. Cut u.output) (λ u. turn u (round body' step' (loop inv' test' body' step' k'))) h c
      (λ u n x y. grow_turn (more n u) _ (λ w. grow_body _ _ _ (gb w) (λ z. grow_and _ _ _ (gs z) (λ y. grow_loop inv' test' body' step' gi gt gb gs k' y))))
      (λ u. grow_turn u _ (λ w. grow_body _ _ _ (gb w) (λ z. grow_and _ _ _ (gs z) (λ y. grow_loop inv' test' body' step' gi gt gb gs k' y))))
  ext_loop (suc k) zero s m h l c =
      ext_front s m (λ u. turn u (round body step (loop inv test body step k))) (λ u. Cut u.output) h c
      (λ u n x y. none u n x (omega arith)) (λ u. prefix_refl u.output)
    where
      none : (u : State) (n : ℕ) → u.turns ≤ n → n ≤ 0 → Extends n (turn u (round body step (loop inv test body step k))) (Cut u.output)
      none u n x y = at u.turns (omega arith)
        where
          at : (j : ℕ) → j ≤ 0 → Extends {A = Way} n (turn_at u (round body step (loop inv test body step k)) j) (Cut u.output)
          at zero q = prefix_refl u.output
          at (suc j) q = absurd (let r : ⊥ = omega arith in r)
  ext_loop (suc k) (suc k') s m h l c =
      ext_front s m (λ u. turn u (round body step (loop inv test body step k))) (λ u. turn u (round body' step' (loop inv' test' body' step' k'))) h c
      (λ u n x y. ext_turn u n (round body step (loop inv test body step k)) (round body' step' (loop inv' test' body' step' k')) x
      (λ j i p q. ext_body _ _ _ _ _ (eb (more j u) i p (omega arith))
      (λ a b d e. ext_and _ _ _ _ _ (es a b d (omega arith)) (λ z w v t. ext_loop k k' z w v (omega arith) (omega arith)) (λ z. grow_loop inv' test' body' step' gi gt gb gs k' z))
      (λ a. grow_and _ _ _ (gs a) (λ z. grow_loop inv' test' body' step' gi gt gb gs k' z)))
      (λ w. grow_body _ _ _ (gb w) (λ z. grow_and _ _ _ (gs z) (λ y. grow_loop inv' test' body' step' gi gt gb gs k' y))))
      (λ u. grow_turn u _ (λ w. grow_body _ _ _ (gb w) (λ z. grow_and _ _ _ (gs z) (λ y. grow_loop inv' test' body' step' gi gt gb gs k' y))))

-- ---- statements

module _ (checks : Bool) (structs : List Tree) (g : Calls) (grow : CallsGrow g) where
  grow_all : (es : Exps) (s : State) → Grows s.output (all_hold checks structs g es s)
  grow_all NoExp s = prefix_refl s.output
  grow_all (More a rest) s = grow_and _ _ _ (grow_then _ _ _ (grow_eval structs g grow a s) grow_holds) (grow_all rest)

  grow_checked : (es : Exps) (s : State) → Grows s.output (checked checks structs g es s)
  grow_checked es s = at checks
    where
      at : (b : Bool) → Grows s.output (elim b [ true ↦ all_hold checks structs g es s | false ↦ Done Next s ])
      at true = grow_all es s
      at false = prefix_refl s.output

  grow_exec : (b : Stmt) (s : State) → Grows s.output (exec checks structs g b s)
  grow_exec Skip s = prefix_refl s.output
  grow_exec (Seq a b) s = grow_and _ _ _ (grow_exec a s) (grow_exec b)
  grow_exec (Set x a) s = grow_then _ _ _ (grow_eval structs g grow a s) (λ v t. prefix_refl t.output)
  grow_exec (Update x o a) s =
      grow_then _ _ _ (grow_eval structs g grow a s) (λ v t. grow_then _ _ _ (grow_value_or ArithFault (binary_value o (local x s) v) t) (λ w u. prefix_refl u.output))
  grow_exec (Store p a) s =
      grow_then _ _ _ (grow_locate structs g grow p s) (λ at t. grow_then _ _ _ (grow_eval structs g grow a t) (λ v u. prefix_refl u.output))
  grow_exec (StoreUpdate p o a) s =
      grow_then _ _ _ (grow_locate structs g grow p s) (λ at t. grow_then _ _ _ (grow_eval structs g grow a t) (λ v u.
      grow_then _ _ _ (grow_value_or ArithFault (binary_value o (load t.heap at) v) u) (λ w x. prefix_refl x.output)))
  grow_exec (Do a) s = grow_then _ _ _ (grow_eval structs g grow a s) (λ v t. prefix_refl t.output)
  grow_exec (If c a b) s = grow_then _ _ _ (grow_eval structs g grow c s) (λ v t. grow_if _ v _ _ (grow_exec a t) (grow_exec b t))
  grow_exec (Loop es c body step) s =
      grow_loop (checked checks structs g es) (eval structs g c) (exec checks structs g body) (exec checks structs g step) (grow_checked es) (grow_eval structs g grow c) (grow_exec body) (grow_exec step) s.turns s
  grow_exec Return s = prefix_refl s.output
  grow_exec Break s = prefix_refl s.output
  grow_exec Continue s = prefix_refl s.output
  grow_exec (ReturnValue a) s = grow_then _ _ _ (grow_eval structs g grow a s) (λ v t. prefix_refl t.output)
  grow_exec (Assert a) s = grow_then _ _ _ (grow_eval structs g grow a s) grow_holds
  grow_exec (Error a) s = grow_then _ _ _ (grow_eval structs g grow a s) (λ v t. prefix_refl t.output)
  grow_exec (Check es) s = grow_checked es s

  grow_function : (fn : Function) (args : List Value) (s : State) → Grows s.output (in_function checks structs g fn args s)
  grow_function fn args s =
      grow_then _ _ _ (grow_and _ _ _ (grow_checked fn.requires (record s { locals = locals_at_entry fn args })) (grow_exec fn.body))
      (λ way t. grow_then _ _ _ (grow_checked fn.ensures t) (λ way u. prefix_refl u.output))

module _ (checks : Bool) (structs : List Tree) (f g : Calls) (cap : ℕ) (grow : CallsGrow g) (extend : CallsExtend cap f g) where
  ext_all : (es : Exps) (s : State) (m : ℕ) → s.turns ≤ m → m ≤ cap → Extends m (all_hold checks structs f es s) (all_hold checks structs g es (more m s))
  ext_all NoExp s m h c = ext_done m Next s h
  ext_all (More a rest) s m h c =
      ext_and _ _ _ _ _ (ext_then _ _ _ _ _ (ext_eval structs f g cap grow extend a s m h c) (λ v t n k l. ext_holds v t n k) grow_holds)
      (λ t n k l. ext_all rest t n k (omega arith)) (grow_all checks structs g grow rest)

  ext_checked : (es : Exps) (s : State) (m : ℕ) → s.turns ≤ m → m ≤ cap → Extends m (checked checks structs f es s) (checked checks structs g es (more m s))
  ext_checked es s m h c = at checks
    where
      at : (b : Bool) → Extends m (elim b [ true ↦ all_hold checks structs f es s | false ↦ Done Next s ]) (elim b [ true ↦ all_hold checks structs g es (more m s) | false ↦ Done Next (more m s) ])
      at true = ext_all es s m h c
      at false = ext_done m Next s h

  ext_exec : (b : Stmt) (s : State) (m : ℕ) → s.turns ≤ m → m ≤ cap → Extends m (exec checks structs f b s) (exec checks structs g b (more m s))
  ext_exec Skip s m h c = ext_done m Next s h
  ext_exec (Seq a b) s m h c = ext_and _ _ _ _ _ (ext_exec a s m h c) (λ t n k l. ext_exec b t n k (omega arith)) (grow_exec checks structs g grow b)
  ext_exec (Set x a) s m h c = ext_then _ _ _ _ _ (ext_eval structs f g cap grow extend a s m h c) (λ v t n k l. (n, k, omega arith, refl)) (λ v t. prefix_refl t.output)
  ext_exec (Update x o a) s m h c =
      ext_then _ _ _ _ _ (ext_eval structs f g cap grow extend a s m h c)
      (λ v t n k l. ext_then _ _ _ _ _ (ext_value_or ArithFault (binary_value o (local x s) v) t n k) (λ w u i y z. (i, y, omega arith, refl)) (λ w u. prefix_refl u.output))
      (λ v t. grow_then _ _ _ (grow_value_or ArithFault (binary_value o (local x s) v) t) (λ w u. prefix_refl u.output))
  ext_exec (Store p a) s m h c =
      ext_then _ _ _ _ _ (ext_locate structs f g cap grow extend p s m h c)
      (λ at t n k l. ext_then _ _ _ _ _ (ext_eval structs f g cap grow extend a t n k (omega arith)) (λ v u i y z. (i, y, omega arith, refl)) (λ v u. prefix_refl u.output))
      (λ at t. grow_then _ _ _ (grow_eval structs g grow a t) (λ v u. prefix_refl u.output))
  ext_exec (StoreUpdate p o a) s m h c =
      ext_then _ _ _ _ _ (ext_locate structs f g cap grow extend p s m h c)
      (λ at t n k l. ext_then _ _ _ _ _ (ext_eval structs f g cap grow extend a t n k (omega arith))
      (λ v u i y z. ext_then _ _ _ _ _ (ext_value_or ArithFault (binary_value o (load t.heap at) v) u i y) (λ w x j b d. (j, b, omega arith, refl)) (λ w x. prefix_refl x.output))
      (λ v u. grow_then _ _ _ (grow_value_or ArithFault (binary_value o (load t.heap at) v) u) (λ w x. prefix_refl x.output)))
      (λ at t. grow_then _ _ _ (grow_eval structs g grow a t) (λ v u. grow_then _ _ _ (grow_value_or ArithFault (binary_value o (load t.heap at) v) u) (λ w x. prefix_refl x.output)))
  ext_exec (Do a) s m h c = ext_then _ _ _ _ _ (ext_eval structs f g cap grow extend a s m h c) (λ v t n k l. ext_done n Next t k) (λ v t. prefix_refl t.output)
  ext_exec (If q a b) s m h c =
      ext_then _ _ _ _ _ (ext_eval structs f g cap grow extend q s m h c) (λ v t n k l. ext_if n v _ _ _ _ (ext_exec a t n k (omega arith)) (ext_exec b t n k (omega arith)))
      (λ v t. grow_if _ v _ _ (grow_exec checks structs g grow a t) (grow_exec checks structs g grow b t))
  ext_exec (Loop es q body step) s m h c =
      ext_loop cap (checked checks structs f es) (checked checks structs g es) (eval structs f q) (eval structs g q) (exec checks structs f body) (exec checks structs g body) (exec checks structs f step) (exec checks structs g step)
      (grow_checked checks structs g grow es) (grow_eval structs g grow q) (grow_exec checks structs g grow body) (grow_exec checks structs g grow step)
      (ext_checked es) (ext_eval structs f g cap grow extend q) (ext_exec body) (ext_exec step) s.turns m s m h (omega arith) c
  ext_exec Return s m h c = ext_done m Returned s h
  ext_exec Break s m h c = ext_done m Broken s h
  ext_exec Continue s m h c = ext_done m Continued s h
  ext_exec (ReturnValue a) s m h c = ext_then _ _ _ _ _ (ext_eval structs f g cap grow extend a s m h c) (λ v t n k l. (n, k, omega arith, refl)) (λ v t. prefix_refl t.output)
  ext_exec (Assert a) s m h c = ext_then _ _ _ _ _ (ext_eval structs f g cap grow extend a s m h c) (λ v t n k l. ext_holds v t n k) grow_holds
  ext_exec (Error a) s m h c = ext_then _ _ _ _ _ (ext_eval structs f g cap grow extend a s m h c) (λ v t n k l. refl) (λ v t. prefix_refl t.output)
  ext_exec (Check es) s m h c = ext_checked es s m h c

  ext_function : (fn : Function) (args : List Value) (s : State) (m : ℕ) → s.turns ≤ m → m ≤ cap → Extends m (in_function checks structs f fn args s) (in_function checks structs g fn args (more m s))
  ext_function fn args s m h c =
      ext_then _ _ _ _ _
      (ext_and _ _ _ _ _ (ext_checked fn.requires (record s { locals = locals_at_entry fn args }) m h c) (λ t n k l. ext_exec fn.body t n k (omega arith)) (grow_exec checks structs g grow fn.body))
      (λ way t n k l. ext_then _ _ _ _ _ (ext_checked fn.ensures t n k (omega arith)) (λ way u i y z. (i, y, omega arith, refl)) (λ way u. prefix_refl u.output))
      (λ way t. grow_then _ _ _ (grow_checked checks structs g grow fn.ensures t) (λ way u. prefix_refl u.output))

-- ---- programs

grow_call : (checks : Bool) (p : Program) (d : ℕ) → CallsGrow (call checks p d)
grow_call checks p zero k vs s = prefix_refl s.output
grow_call checks p (suc d) k vs s =
    grow_turn s _ (λ t. grow_function checks (struct_defaults [] p.structs) (call checks p d) (grow_call checks p d) (get_or p.functions k no_function) vs t)

ext_call : (checks : Bool) (p : Program) (d d' : ℕ) → CallsExtend d' (call checks p d) (call checks p d')
ext_call checks p zero d' k vs s m h c = grow_call checks p d' k vs (more m s)
ext_call checks p (suc d) zero k vs s m h c = none s.turns (omega arith)
  where
    none : (j : ℕ) → j ≤ 0 → Extends {A = Value} m (turn_at s (in_function checks (struct_defaults [] p.structs) (call checks p d) (get_or p.functions k no_function) vs) j) (Cut s.output)
    none zero q = prefix_refl s.output
    none (suc j) q = absurd (let r : ⊥ = omega arith in r)
ext_call checks p (suc d) (suc d') k vs s m h c =
    let fn = get_or p.functions k no_function in
    let structs = struct_defaults [] p.structs in
    ext_turn s m (in_function checks structs (call checks p d) fn vs) (in_function checks structs (call checks p d') fn vs) h
    (λ j i x y. ext_function checks structs (call checks p d) (call checks p d') d' (grow_call checks p d') (ext_call checks p d d') fn vs (more j s) i x (omega arith))
    (grow_function checks structs (call checks p d') (grow_call checks p d') fn vs)

end_kept : (n : ℕ) (o o' : Outcome Value) → Extends n o o' → KeepsEnd (told o) (told o')
end_kept n (Done v s) o' h = (ap (λ x. (told x).stop) h.3, ap (λ x. (told x).output) h.3)
end_kept n (Stopped x out) o' h = (ap (λ x. (told x).stop) h, ap (λ x. (told x).output) h)
end_kept n (Cut out) o' h = at o' h
  where
    at : (x : Outcome Value) → Grows out x → IsPrefix out (told x).output
    at (Done v s) g = g
    at (Stopped y o) g = g
    at (Cut o) g = g

pub more_turns_extend : MoreTurnsExtend
more_turns_extend p checks n m h =
    end_kept m _ _ (ext_call checks p n m p.main [] (record { turns = n; heap = []; locals = []; output = [] }) m h (omega arith))
