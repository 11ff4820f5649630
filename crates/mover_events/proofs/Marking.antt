-- Single events of an evacuator.
use Rattle.std.proofs.Common.{◌≡◌, ℕ, ◌<◌, Bool, true, false, cond, List, [], ◌∷◌, ◌++◌, length, Option, Some, None, refl, sym, ap, subst, arith}
use Rattle.std.proofs.lemmas.Bool.{eq-eqb, lt-ltb, le-ltb}
use Rattle.pointer_word.specs.Words.{Away, Here, Leaving, Word, counted}
use Rattle.pointer_word.specs.Hands.{Hand, blank, upd}
use Rattle.pointer_word.specs.Machine.{Far, Kept, Never, Unknown, Nobody, State, after_abort, after_commit, after_copy, after_leave, after_mark, after_put, after_release}
use Rattle.pointer_word.specs.Legal.{copied_below}
use Rattle.world_semantics.specs.declared.event.Choice.{Choice}
use Rattle.world_semantics.specs.declared.event.Choice.TheVariants as choice
use Rattle.world_semantics.specs.Programs.{Copying, Eviction, Freed, NotStored, Refused, Stored}
use Rattle.world_semantics.specs.Turns.{Answer, evacuator_turn, taken}
use Rattle.mover_events.specs.Going.{Event, Goes}

-- a state in which each object has this word, each store cell keeps this, and each mover has this in hand
abbrev pub there : Word → Far → Hand → State
there w far x = record { word = λ _. w; frame = λ _. 0; cell = λ _ _. 0; far = λ _. far; hand = λ _. x; note = λ _. blank; who = λ _. Nobody }

-- the store answers so
abbrev pub answers : Bool → Answer
answers b = record { stored = b; read = None; grew = true }

pub upd_same : {A : Type 0} (f : ℕ → A) (k : ℕ) (v : A) → upd f k v k ≡ v
upd_same f k v = ap (λ b. cond b v (f k)) (eq-eqb k k refl)

-- some events of an evacuator lead there
abbrev pub Reaches : ℕ → ℕ → Option Eviction → Hand → Option Eviction → Hand → Type 0
Reaches n m d x e z = (vs : List Event) × Goes n m (evacuator_turn n m) d x vs e z

-- one event, and then others
pub and_then : (n m : ℕ) (d c e : Option Eviction) (x y z : Hand) (s t : State) (k : Choice) (b : Bool) →
    s.hand m ≡ x → taken n s (evacuator_turn n m d k (answers b)) ≡ Some (t, c) → t.hand m ≡ y → Reaches n m c y e z → Reaches n m d x e z
and_then n m d c e x y z s t k b at does hand rest =
    (record { state = s; choice = k; answer = answers b } ∷ rest.0, (at, (t, c, does, subst (λ h. Goes n m (evacuator_turn n m) c h rest.0 e z) (sym hand) rest.1)))

-- an object that is in the frame with no hold is marked
pub marks : (n m o f : ℕ) (x : Hand) → x.leaving ≡ None → let s : State = there (counted 0 (Here f false)) Never x in
    taken n s (evacuator_turn n m None (choice.Mark o f) (answers true)) ≡ Some (after_mark s m o f, Some (Copying o f []))
marks n m o f x h = simp (h, eq-eqb f f refl, eq-eqb m m refl, eq-eqb o o refl) refl

-- a clean object that is in the frame with no hold leaves
pub leaves : (n m o f : ℕ) (x : Hand) → x.freed ≡ None → let s : State = there (counted 0 (Here f true)) Never x in
    taken n s (evacuator_turn n m None (choice.Leave o f) (answers true)) ≡ Some (after_leave s m o f, Some (Freed f))
leaves n m o f x h = simp (h, eq-eqb f f refl, eq-eqb m m refl) refl

-- the next cell is copied, which holds 0
pub copies : (n m o f : ℕ) (x : Hand) (words : List ℕ) → length words < n → x.leaving ≡ Some o → x.source ≡ f → let s : State = there (counted 0 (Leaving f m true)) Never x in
    taken n s (evacuator_turn n m (Some (Copying o f words)) choice.Next (answers true)) ≡ Some (after_copy s m f (length words), Some (Copying o f (words ++ 0 ∷ [])))
copies n m o f x words l h e = simp (lt-ltb (length words) n l, h, e, eq-eqb f f refl) refl

-- the words of all cells are put, which succeeds or fails
pub puts : (n m o f : ℕ) (x : Hand) (words : List ℕ) → length words ≡ n → x.leaving ≡ Some o → let s : State = there (counted 0 (Leaving f m true)) Never x in
    taken n s (evacuator_turn n m (Some (Copying o f words)) choice.Next (answers true)) ≡ Some (after_put s o (Kept words), Some (Stored o f))
puts n m o f x words l h = simp (le-ltb (length words) n (omega (arith, l)), eq-eqb (length words) n l, h, eq-eqb o o refl) refl

pub puts_in_vain : (n m o f : ℕ) (x : Hand) (words : List ℕ) → length words ≡ n → x.leaving ≡ Some o → let s : State = there (counted 0 (Leaving f m true)) Never x in
    taken n s (evacuator_turn n m (Some (Copying o f words)) choice.Next (answers false)) ≡ Some (after_put s o Unknown, Some (NotStored o f))
puts_in_vain n m o f x words l h = simp (le-ltb (length words) n (omega (arith, l)), h, eq-eqb o o refl) refl

-- the object is still marked with no hold, and leaves
pub commits : (n m o f : ℕ) (x : Hand) (words : List ℕ) → x.leaving ≡ Some o → x.source ≡ f → x.freed ≡ None → copied_below n x words ≡ true → let s : State = there (counted 0 (Leaving f m true)) (Kept words) x in
    taken n s (evacuator_turn n m (Some (Stored o f)) choice.Next (answers true)) ≡ Some (after_commit s m o f, Some (Freed f))
commits n m o f x words h e k c = simp (h, e, k, c, eq-eqb f f refl, eq-eqb m m refl, eq-eqb o o refl) refl

-- it is not, and stays
pub commits_in_vain : (n m o f : ℕ) (x : Hand) (words : List ℕ) → x.leaving ≡ Some o → x.source ≡ f → x.freed ≡ None → copied_below n x words ≡ true → let s : State = there (counted 1 Away) (Kept words) x in
    taken n s (evacuator_turn n m (Some (Stored o f)) choice.Next (answers true)) ≡ Some (s, Some (Refused o f))
commits_in_vain n m o f x words h e k c = simp (h, e, k, c, eq-eqb f f refl, eq-eqb o o refl) refl

-- the object is given up, behind a commit or a put that failed
pub aborts : (n m o f : ℕ) (x : Hand) → x.leaving ≡ Some o → x.source ≡ f → let s : State = there (counted 0 (Leaving f m true)) Never x in
    taken n s (evacuator_turn n m (Some (Refused o f)) choice.Next (answers true)) ≡ Some (after_abort s m o f, None)
aborts n m o f x h e = simp (h, e, eq-eqb f f refl, eq-eqb o o refl) refl

pub aborts_unstored : (n m o f : ℕ) (x : Hand) → x.leaving ≡ Some o → x.source ≡ f → let s : State = there (counted 0 (Leaving f m true)) Never x in
    taken n s (evacuator_turn n m (Some (NotStored o f)) choice.Next (answers true)) ≡ Some (after_abort s m o f, None)
aborts_unstored n m o f x h e = simp (h, e, eq-eqb f f refl, eq-eqb o o refl) refl

-- the frame is given up
pub releases : (n m f : ℕ) (x : Hand) → x.freed ≡ Some f → let s : State = there (counted 0 Away) Never x in
    taken n s (evacuator_turn n m (Some (Freed f)) choice.Next (answers true)) ≡ Some (after_release s m f, None)
releases n m f x h = simp (h, eq-eqb f f refl) refl
