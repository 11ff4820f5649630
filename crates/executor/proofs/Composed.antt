-- Tasks, seats and ends of programs, put together.
use Rattle.std.proofs.Common.{◌≡◌, ◌<◌, ◌+◌, ◌⊎◌, refl, ℕ, zero, suc, List, [], ◌∷◌, ◌++◌, Option, Some, None, is_some, false, length, map, sym, ap, ◌∙◌, subst, slice_get, slice_index_or, set, inl, inr, ⊎_elim, arith, append_assoc, append-nil}
use Rattle.std.specs.Bool.{◌==◌}
use Rattle.std.proofs.lemmas.List.{length-map, length-set}
use Rattle.std.proofs.lemmas.List.FromFn.{length-range_with_len}
use Rattle.std.specs.List.{All, remove}
use Rattle.program_run.specs.Executed.{IsExecutedOver}
use Rattle.program_run.specs.declared.run.Finished.{Finished}
use Rattle.program_run.specs.Runs.{RunView}
use Rattle.scope_verifier.specs.declared.acceptance.Verified.{Verified}
use Rattle.object_lock.specs.Fresh.{AreNumbered, IsFreshMover}
use Rattle.object_lock.specs.SeatViews.{SeatView, TableView}
use Rattle.pointer_word.specs.Asked.{HasNothing}
use Rattle.pointer_word.specs.Hands.{Hand}
use Rattle.region.specs.Admission.{image_at}
use Rattle.task_queue.specs.Queues.{QueueView}
use Rattle.task_queue.specs.Tasked.{IsTask}
use Rattle.task_queue.specs.declared.rule.Roster.{Roster}
use Rattle.executor.specs.Ends.{AreAllDone, AreEnds, AreFiled, AreFinished, AreSame, DoneView, IsDone, IsDoneAt, IsEndOf, IsSeatOf, end_of}
use mathlib.Core.Path.{Path}

-- what is done and what is left, with one more done
pub more : {A : Type 0} (done left rest all : List A) (x : A) → done ++ left ≡ all → left ≡ x ∷ rest → (done ++ x ∷ []) ++ rest ≡ all
more done left rest all x e is = append_assoc done (x ∷ []) rest ∙ ap (λ l. done ++ l) (sym is) ∙ e

-- nothing is left
pub none : {A : Type 0} (done left all : List A) → done ++ left ≡ all → length left ≡ 0 → done ≡ all
none done [] all e is = sym (append-nil done) ∙ e
none done (x ∷ left) all e is = absurd (omega arith)

-- what holds of all holds of the first, and of the others
pub all_first : {X : Type 0} (P : X → Type 0) (xs rest : List X) (x : X) → xs ≡ x ∷ rest → All P xs → P x
all_first P xs rest x e all = let every : All P (x ∷ rest) = subst (All P) e all in every 0 x (omega arith)

pub all_rest : {X : Type 0} (P : X → Type 0) (xs rest : List X) (x : X) → xs ≡ x ∷ rest → All P xs → All P rest
all_rest P xs rest x e all = λ k d low. let every : All P (x ∷ rest) = subst (All P) e all in every (suc k) d (omega arith)

-- ... and of one in the midst
pub all_at : {X : Type 0} (P : X → Type 0) (done rest : List X) (x : X) → All P (done ++ x ∷ rest) → P x
all_at P [] rest x all = all 0 x (omega arith)
all_at P (d ∷ ds) rest x all = all_at P ds rest x (λ k e low. all (suc k) e (omega arith))

-- a number that is not 0
pub some_left : (n : ℕ) → false ≡ (n == 0) → 0 < n
some_left zero e = absurd (let no : ⊥ = cc e in no)
some_left (suc n) e = omega arith

-- the first of two lists that are equal
heads : (x y : ℕ) (xs ys : List ℕ) → x ∷ xs ≡ y ∷ ys → x ≡ y
heads x y xs ys e = cc

tails : (x y : ℕ) (xs ys : List ℕ) → x ∷ xs ≡ y ∷ ys → xs ≡ ys
tails x y xs ys e = cc

-- the number of the seat behind so many others
pub numbered_at : {W C : Type 0} (n a : ℕ) (done rest : List (SeatView W C)) (x : SeatView W C) → AreNumbered a n (done ++ x ∷ rest) → (x.view.number ≡ a + length done) × (length done < n)
numbered_at zero a [] rest x e = absurd (let no : ⊥ = cc e in no)
numbered_at zero a (d ∷ ds) rest x e = absurd (let no : ⊥ = cc e in no)
numbered_at (suc n) a [] rest x e = (heads _ _ _ _ e ∙ sym (omega arith), omega arith)
numbered_at (suc n) a (d ∷ ds) rest x e = let later = numbered_at n (a + 1) ds rest x (tails _ _ _ _ e) in let number = later.0 in let low = later.1 in (omega arith, omega arith)

-- a fresh seat has nothing in hand, and has done nothing
pub seat_is_free : {W C : Type 0} (t : TableView) (s : SeatView W C) → IsFreshMover t s → IsSeatOf t s
seat_is_free t s fresh = let hand = fresh.0.1 in (fresh.0.0, subst HasNothing (sym hand) (refl, refl, (refl, refl)), ap (λ (x : Hand). x.past) hand, fresh.0.6)

-- how many there are
pub numbered_count : {W C : Type 0} (a n : ℕ) (seats : List (SeatView W C)) → AreNumbered a n seats → length seats ≡ n
numbered_count a n seats e = sym (length-map seats (λ s. s.view.number)) ∙ ap length e ∙ length-range_with_len a n

-- what holds of the elements at each place, and of one more
pub each_more : {A : Type 0} (P : ℕ → A → Type 0) (xs : List A) (x : A) → ((k : ℕ) (e : A) → slice_get xs k ≡ Some e → P k e) → P (length xs) x → (k : ℕ) (e : A) → slice_get (xs ++ x ∷ []) k ≡ Some e → P k e
each_more P [] x all last zero e at = let same : x ≡ e = cc at in subst (P 0) same last
each_more P [] x all last (suc k) e at = absurd (let no : ⊥ = cc at in no)
each_more P (d ∷ ds) x all last zero e at = all zero e at
each_more P (d ∷ ds) x all last (suc k) e at = each_more (λ j. P (suc j)) ds x (λ j f there. all (suc j) f there) last k e at

-- there is none yet
pub none_there : {A : Type 0} (P : Type 0) (k : ℕ) (e : A) → slice_get [] k ≡ Some e → P
none_there P k e at = absurd (let no : ⊥ = cc at in no)

-- ends that are told with numbers are ends
ends_from : (honest reliable : Type 0) (objects : ℕ) (programs : List Verified) (all : List Finished) → length all ≡ length programs
    → ((k : ℕ) (e : Finished) → slice_get all k ≡ Some e → honest → IsExecutedOver reliable objects (image_at programs k) e.end) → AreEnds honest reliable objects programs (map end_of all)
ends_from honest reliable objects [] [] count each = tt
ends_from honest reliable objects [] (f ∷ fs) count each = absurd (let no : ⊥ = omega arith in no)
ends_from honest reliable objects (v ∷ vs) [] count each = absurd (let no : ⊥ = omega arith in no)
ends_from honest reliable objects (v ∷ vs) (f ∷ fs) count each = (λ good. each 0 f refl good, ends_from honest reliable objects vs fs (omega arith) (λ k e at. each (suc k) e at))

pub ends_alone : (honest reliable : Type 0) (objects : ℕ) (programs : List Verified) (all : List Finished) → AreFinished honest reliable objects programs all → AreEnds honest reliable objects programs (map end_of all)
ends_alone honest reliable objects programs all h = ends_from honest reliable objects programs all h.count (λ k e at good. (h.each k e at good).executed)

-- ends that are told with their seats are ends
pub finished : {W C : Type 0} (honest reliable : Type 0) (r : Roster) (before seats : List (SeatView W C)) (ends : List Finished) → AreAllDone honest reliable r before ends seats → AreFinished honest reliable r.objects r.programs ends
finished {W} {C} honest reliable r before seats ends all = record {
  count = ap length all.these ∙ (length-map all.done (λ (d : DoneView W C). d.end) ∙ all.count);
  each = λ k e at. let found = told_in all.done k e (ap (λ (l : List Finished). slice_get l k) (sym all.these) ∙ at) in
      subst (λ (f : Finished). IsEndOf honest reliable r k f) found.2 (all.each k found.0 found.1).0;
}
  where
    told_in : (done : List (DoneView W C)) (k : ℕ) (e : Finished) → slice_get (map (λ (d : DoneView W C). d.end) done) k ≡ Some e → (d : DoneView W C) × (slice_get done k ≡ Some d) × (d.end ≡ e)
    told_in [] k e at = absurd (let no : ⊥ = cc at in no)
    told_in (d ∷ ds) zero e at = (d, refl, let same : d.end ≡ e = cc at in same)
    told_in (d ∷ ds) (suc k) e at = told_in ds k e at

-- what is read of places of which one was filled
set_at : {A : Type 0} (places : List (Option A)) (n k : ℕ) (end e : A) → slice_get (set places n (Some end)) k ≡ Some (Some e) → ((k ≡ n) × (end ≡ e)) ⊎ (slice_get places k ≡ Some (Some e))
set_at [] n k end e at = inr at
set_at (p ∷ ps) zero zero end e at = inl (refl, let same : end ≡ e = cc at in same)
set_at (p ∷ ps) zero (suc k) end e at = inr at
set_at (p ∷ ps) (suc n) zero end e at = inr at
set_at {A} (p ∷ ps) (suc n) (suc k) end e at = ⊎_elim (λ (x : (k ≡ n) × Path A end e). inl (ap suc x.0, x.1)) (λ (x : slice_get ps k ≡ Some (Some e)). inr x) (set_at ps n k end e at)

module _ {W C : Type 0} where
  -- an end is filed
  filed : (honest reliable : Type 0) (r : Roster) (places : List (Option (DoneView W C))) (d : DoneView W C) → IsDone honest reliable r d → AreFiled honest reliable r places → AreFiled honest reliable r (set places d.number (Some d))
  filed honest reliable r places d done all = record {
    count = length-set places d.number (Some d) ∙ all.count;
    each = λ k e at.
        ⊎_elim
        (λ (x : (k ≡ d.number) × Path (DoneView W C) d e). subst (λ (n : ℕ × DoneView W C). IsDoneAt honest reliable r n.0 n.1) (λ i. (sym x.0 i, x.1 i)) done.1)
        (λ (x : slice_get places k ≡ Some (Some e)). all.each k e x)
        (set_at places d.number k d e at);
  }

  pub filed_at : (honest reliable : Type 0) (r : Roster) (places : List (Option (DoneView W C))) (d : DoneView W C) (n : ℕ) → n ≡ d.number → IsDone honest reliable r d → AreFiled honest reliable r places → AreFiled honest reliable r (set places n (Some d))
  filed_at honest reliable r places d n is done all = subst (λ (k : ℕ). AreFiled honest reliable r (set places k (Some d))) (sym is) (filed honest reliable r places d done all)

  -- no place has an end yet
  pub unfiled : (honest reliable : Type 0) (r : Roster) (places : List (Option (DoneView W C))) → length places ≡ length r.programs → All (λ p. p ≡ None) places → AreFiled honest reliable r places
  unfiled honest reliable r places count none = record { count = count; each = λ k e at. absurd (empty places k e none at) }
    where
      empty : (places : List (Option (DoneView W C))) (k : ℕ) (e : DoneView W C) → All (λ p. p ≡ None) places → slice_get places k ≡ Some (Some e) → ⊥
      empty [] k e none at = let no : ⊥ = cc at in no
      empty (p ∷ ps) zero e none at = let is = none 0 p (omega arith) in let no : ⊥ = cc (at, is) in no
      empty (p ∷ ps) (suc k) e none at = empty ps k e (λ j d l. none (suc j) d (omega arith)) at

-- what is in each place
pub placed : {A : Type 0} (done : List A) (k : ℕ) (d : A) → slice_get done k ≡ Some d → slice_get (map Some done) k ≡ Some (Some d)
placed [] k d at = absurd (let no : ⊥ = cc at in no)
placed (x ∷ xs) zero d at = ap Some at
placed (x ∷ xs) (suc k) d at = placed xs k d at

-- the first of some tasks, and the others
pub first_task : (r : Roster) (tasks : List RunView) (x : RunView) → 0 < length tasks → x ≡ slice_index_or tasks 0 x → All (IsTask r) tasks → IsTask r x × All (IsTask r) (remove tasks 0)
first_task r [] x some at all = absurd (omega arith)
first_task r (t ∷ ts) x some at all = (subst (IsTask r) (sym at) (all 0 t (omega arith)), λ k d low. all (suc k) d (omega arith))

-- all workers are with the queue with which they were
pub all_same : (q : QueueView) (old new : List QueueView) → AreSame old new → All (λ w. w ≡ q) old → All (λ w. w ≡ q) new
all_same q old new same all = λ k d low. let count = same.count in same.each k d (omega arith) ∙ all k d (omega arith)

-- what is not there
pub not_some : {A : Type 0} (o : Option A) → is_some o ≡ false → o ≡ None
not_some None e = refl
not_some (Some x) e = absurd (let no : ⊥ = cc e in no)

-- one more of what a function makes of each
mapped_push : {A B : Type 0} (f : A → B) (done : List A) (x : A) → map f (done ++ x ∷ []) ≡ map f done ++ f x ∷ []
mapped_push f [] x = refl
mapped_push f (d ∷ ds) x = ap (λ l. f d ∷ l) (mapped_push f ds x)

pub mapped_more : {A B : Type 0} (f : A → B) (done : List A) (x : A) (ends new : List B) → ends ≡ map f done → new ≡ ends ++ f x ∷ [] → new ≡ map f (done ++ x ∷ [])
mapped_more f done x ends new is pushed = pushed ∙ ap (λ l. l ++ f x ∷ []) is ∙ sym (mapped_push f done x)

-- ... behind what stood there before
pub behind_more : {A B : Type 0} (f : A → B) (before : List B) (done : List A) (x : A) (old new : List B) → old ≡ before ++ map f done → new ≡ old ++ f x ∷ [] → new ≡ before ++ map f (done ++ x ∷ [])
behind_more f before done x old new is pushed = pushed ∙ ap (λ l. l ++ f x ∷ []) is ∙ append_assoc before (map f done) (f x ∷ []) ∙ ap (λ l. before ++ l) (sym (mapped_push f done x))

-- ... and of all, where nothing is left
pub mapped_all : {A B : Type 0} (f : A → B) (done left all : List A) (ends : List B) → done ++ left ≡ all → length left ≡ 0 → ends ≡ map f done → ends ≡ map f all
mapped_all f done left all ends e is made = made ∙ ap (map f) (none done left all e is)

-- what holds of the pairs of two rows, and of one more pair
pub each_pair : {A B : Type 0} (P : A → B → Type 0) (xs : List A) (ys : List B) (x : A) (y : B) → length ys ≡ length xs → ((i : ℕ) (a : A) (b : B) → slice_get xs i ≡ Some a → slice_get ys i ≡ Some b → P a b) → P x y
    → (i : ℕ) (a : A) (b : B) → slice_get (xs ++ x ∷ []) i ≡ Some a → slice_get (ys ++ y ∷ []) i ≡ Some b → P a b
each_pair {A} {B} P [] [] x y many all last zero a b at there = let first : Path A x a = cc at in let second : Path B y b = cc there in subst (λ (t : A × B). P t.0 t.1) (λ i. (first i, second i)) last
each_pair P [] [] x y many all last (suc i) a b at there = absurd (let no : ⊥ = cc at in no)
each_pair P [] (d ∷ ys) x y many all last i a b at there = absurd (let no : ⊥ = omega arith in no)
each_pair P (d ∷ xs) [] x y many all last i a b at there = absurd (let no : ⊥ = omega arith in no)
each_pair P (d ∷ xs) (e ∷ ys) x y many all last zero a b at there = all zero a b at there
each_pair P (d ∷ xs) (e ∷ ys) x y many all last (suc i) a b at there = each_pair P xs ys x y (omega arith) (λ j c f h k. all (suc j) c f h k) last i a b at there

-- the one behind those that were there, and those
pub at_behind : {A : Type 0} (xs : List A) (x : A) → slice_get (xs ++ x ∷ []) (length xs) ≡ Some x
at_behind [] x = refl
at_behind (d ∷ xs) x = at_behind xs x

pub at_before : {A : Type 0} (xs : List A) (x : A) (i : ℕ) (a : A) → slice_get xs i ≡ Some a → slice_get (xs ++ x ∷ []) i ≡ Some a
at_before [] x i a at = absurd (let no : ⊥ = cc at in no)
at_before (d ∷ xs) x zero a at = at
at_before (d ∷ xs) x (suc i) a at = at_before xs x i a at

-- rows that are the same in each place are equal
pub same_rows : {A : Type 0} (old new : List A) → AreSame old new → new ≡ old
same_rows [] [] same = refl
same_rows [] (y ∷ ys) same = absurd (let count = same.count in let no : ⊥ = omega arith in no)
same_rows (x ∷ xs) [] same = absurd (let count = same.count in let no : ⊥ = omega arith in no)
same_rows {A} (x ∷ xs) (y ∷ ys) same =
    let first : y ≡ x = same.each 0 x (omega arith) in
    let count = same.count in
    let rest : ys ≡ xs = same_rows xs ys (record { count = omega arith; each = λ k q low. same.each (suc k) q (omega arith) }) in
    λ i. first i ∷ rest i
