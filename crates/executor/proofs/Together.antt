-- All programs and movers of a region, in one state of its table.
use Rattle.std.proofs.Common.{◌≡◌, ◌<◌, ◌≤◌, ◌+◌, ◌-◌, ◌∙◌, ℕ, zero, suc, List, [], ◌∷◌, ◌++◌, Option, Some, None, ap, arith, length, map, refl, slice_get, subst, sym}
use Rattle.std.proofs.lemmas.List.{length-append, length-map}
use Rattle.std.proofs.lemmas.List.Elements.{All-append, All-cons, All-nil}
use Rattle.std.specs.List.{All}
use native.Mathlib.Decide.{dec_le}
use mathlib.Core.Option.{some}
use lib.ListN.{get_elem?}
use Rattle.object_lock.specs.Joining.{AreTogether, IsPlaced, seated_as}
use Rattle.object_lock.specs.Logs.{Seated}
use Rattle.object_lock.specs.Seats.{Sizes, View}
use Rattle.object_lock.specs.SeatViews.{HasNoBerth, IsSeat, SeatView, TableView}
use Rattle.object_moves.specs.Taken.{IsQuiet}
use Rattle.pointer_word.specs.Asked.{HasNothing}
use Rattle.object_moves.specs.Ways.{did_of}
use Rattle.evacuator.specs.Rounds.{HasMadeRounds}
use Rattle.fetcher.specs.Serving.{HasServed}
use Rattle.program_run.specs.Acting.{IsLeft, IsLeftBy, share_by}
use Rattle.program_run.specs.declared.run.Finished.{Finished}
use Rattle.region.specs.Admission.{image_at}
use Rattle.scope_verifier.specs.declared.acceptance.Verified.{Verified}
use Rattle.executor.specs.Together.{HasRunTogether}
use Rattle.task_queue.specs.Tasked.{roster}
use Rattle.task_queue.specs.declared.rule.Roster.{Roster}
use Rattle.executor.specs.Ends.{AreAllDone, DoneView, IsDoneAt}
use Rattle.executor.specs.Given.{AreGivenBack, AreMovers, IsGivenBack, numbered}
use Rattle.executor.specs.Movers.{MoverView}
use Rattle.executor.specs.declared.movers.Mover.{Mover}
use Rattle.executor.specs.declared.movers.Mover.TheVariants.{Evacuates, Fetches}
use Rattle.executor.proofs.Composed.{at_before, at_behind}

-- ---- movers one behind the other

-- no mover yet
pub no_movers : {W C : Type 0} (t : TableView) (first evacuators : ℕ) → AreMovers {W = W} {C = C} t first evacuators 0 []
no_movers t first evacuators = record { many = refl; evacuate = λ i low. absurd (omega arith); fetch = λ i low. absurd (omega arith) }

module _ {W C : Type 0} (t : TableView) (first evacuators n : ℕ) (ms : List (Mover W C)) (are : AreMovers t first evacuators n ms) (v : MoverView) (is : v ≡ numbered t (first + n)) where
  behind : (m : Mover W C) (i : ℕ) → i ≡ n → slice_get (ms ++ m ∷ []) i ≡ Some m
  behind m i e = ap (slice_get (ms ++ m ∷ [])) (e ∙ sym are.many) ∙ at_behind ms m

  pub one_evacuates : n < evacuators → AreMovers t first evacuators (n + 1) (ms ++ Evacuates v ∷ [])
  one_evacuates low = record {
    many = let many = are.many in let long = length-append' ms (Evacuates v) in omega arith;
    evacuate = λ i less of. go i less of (dec_le (suc i) n);
    fetch = λ i less of. at_before ms (Evacuates v) i (Fetches (numbered t (first + i))) (are.fetch i (omega arith) of);
  }
    where
      length-append' : (xs : List (Mover W C)) (m : Mover W C) → length (xs ++ m ∷ []) ≡ length xs + 1
      length-append' [] m = refl
      length-append' (x ∷ xs) m = let rest = length-append' xs m in omega arith

      go : (i : ℕ) → i < n + 1 → i < evacuators → Dec (suc i ≤ n) → slice_get (ms ++ Evacuates v ∷ []) i ≡ Some (Evacuates (numbered t (first + i)))
      go i less of (yes l) = at_before ms (Evacuates v) i (Evacuates (numbered t (first + i))) (are.evacuate i l of)
      go i less of (no d) = let e : i ≡ n = omega arith in behind (Evacuates v) i e ∙ ap (λ (w : MoverView). Some (Evacuates w)) (is ∙ ap (λ (k : ℕ). numbered t (first + k)) (sym e))

  pub one_fetches : evacuators ≤ n → AreMovers t first evacuators (n + 1) (ms ++ Fetches v ∷ [])
  one_fetches low = record {
    many = let many = are.many in let long = length-append' ms (Fetches v) in omega arith;
    evacuate = λ i less of. at_before ms (Fetches v) i (Evacuates (numbered t (first + i))) (are.evacuate i (omega arith) of);
    fetch = λ i less of. go i less of (dec_le (suc i) n);
  }
    where
      length-append' : (xs : List (Mover W C)) (m : Mover W C) → length (xs ++ m ∷ []) ≡ length xs + 1
      length-append' [] m = refl
      length-append' (x ∷ xs) m = let rest = length-append' xs m in omega arith

      go : (i : ℕ) → i < n + 1 → evacuators ≤ i → Dec (suc i ≤ n) → slice_get (ms ++ Fetches v ∷ []) i ≡ Some (Fetches (numbered t (first + i)))
      go i less of (yes l) = at_before ms (Fetches v) i (Fetches (numbered t (first + i))) (are.fetch i l of)
      go i less of (no d) = let e : i ≡ n = omega arith in behind (Fetches v) i e ∙ ap (λ (w : MoverView). Some (Fetches w)) (is ∙ ap (λ (k : ℕ). numbered t (first + k)) (sym e))

-- ---- rows

-- what stands in a row that a function made of another
mapped_at : {A B : Type 0} (f : A → B) (xs : List A) (k : ℕ) (b : B) → slice_get (map f xs) k ≡ Some b → (a : A) × (slice_get xs k ≡ Some a) × (f a ≡ b)
mapped_at f [] k b at = absurd (let no : ⊥ = cc at in no)
mapped_at {A} {B} f (x ∷ xs) zero b at = (x, refl, let same : f x ≡ b = cc at in same)
mapped_at f (x ∷ xs) (suc k) b at = mapped_at f xs k b at

-- there is something at each place of a row
there_is : {A : Type 0} (xs : List A) (k : ℕ) → k < length xs → (a : A) × (slice_get xs k ≡ Some a)
there_is [] k low = absurd (omega arith)
there_is (x ∷ xs) zero low = (x, refl)
there_is (x ∷ xs) (suc k) low = there_is xs k (omega arith)

-- what holds of all that a function made of a row
made_at : {A B : Type 0} (P : B → Type 0) (f : A → B) (xs : List A) (k : ℕ) (a : A) → All P (map f xs) → slice_get xs k ≡ Some a → P (f a)
made_at P f [] k a all at = absurd (let no : ⊥ = cc at in no)
made_at {A} P f (x ∷ xs) zero a all at = let same : x ≡ a = cc at in subst (λ (y : A). P (f y)) same (all 0 (f x) (omega arith))
made_at P f (x ∷ xs) (suc k) a all at = made_at P f xs k a (λ j d low. all (suc j) d (omega arith)) at

-- of two rows, one behind the other
in_first : {A : Type 0} (xs ys : List A) (k : ℕ) (a : A) → slice_get xs k ≡ Some a → slice_get (xs ++ ys) k ≡ Some a
in_first [] ys k a at = absurd (let no : ⊥ = cc at in no)
in_first (x ∷ xs) ys zero a at = at
in_first (x ∷ xs) ys (suc k) a at = in_first xs ys k a at

in_second : {A : Type 0} (xs ys : List A) (j k : ℕ) (a : A) → j ≡ length xs + k → slice_get ys k ≡ Some a → slice_get (xs ++ ys) j ≡ Some a
in_second [] ys j k a is at = let same : j ≡ k = omega arith in ap (slice_get ys) same ∙ at
in_second (x ∷ xs) ys zero k a is at = absurd (let no : ⊥ = omega arith in no)
in_second (x ∷ xs) ys (suc j) k a is at = in_second xs ys j k a (omega arith) at

-- what a function makes of what stands in a row
map_there : {A B : Type 0} (f : A → B) (xs : List A) (k : ℕ) (a : A) → slice_get xs k ≡ Some a → slice_get (map f xs) k ≡ Some (f a)
map_there f [] k a at = absurd (let no : ⊥ = cc at in no)
map_there {A} {B} f (x ∷ xs) zero a at = ap (λ (o : Option A). mapped o) at
  where
    mapped : Option A → Option B
    mapped None = None
    mapped (Some y) = Some (f y)
map_there f (x ∷ xs) (suc k) a at = map_there f xs k a at

-- what holds at each place of a row holds of all of it
all_rows : {A : Type 0} (P : A → Type 0) (xs : List A) → ((i : ℕ) (x : A) → slice_get xs i ≡ Some x → P x) → All P xs
all_rows P [] each = All-nil P
all_rows P (x ∷ xs) each = All-cons P x xs (each 0 x refl) (all_rows P xs (λ i y at. each (suc i) y at))

-- ---- the seats that came back

module _ {W C : Type 0} (honest reliable : Type 0) (t : TableView) (programs : List Verified) (share first evacuators count : ℕ) (r : Roster) (before seats : List (SeatView W C)) (ends : List Finished) (ms : List (Mover W C)) (of : r ≡ roster t programs share)
    (all : AreAllDone honest reliable r before ends seats) (given : AreGivenBack reliable ms before) (are : AreMovers t first evacuators count ms) where
  -- the seat of a mover is one of the table, with nothing in hand
  of_movers : (i : ℕ) (x : SeatView W C) → slice_get before i ≡ Some x → IsSeat t x × HasNothing x.view.hand
  of_movers i x at = go (dec_le (suc i) evacuators)
    where
      below : {A : Type 0} (xs : List A) (j : ℕ) (a : A) → slice_get xs j ≡ Some a → j < length xs
      below [] j a there = absurd (let no : ⊥ = cc there in no)
      below (y ∷ ys) zero a there = omega arith
      below (y ∷ ys) (suc j) a there = let low = below ys j a there in omega arith

      low : i < count
      low = let few = below before i x at in let back = given.count in let many = are.many in omega arith

      go : Dec (suc i ≤ evacuators) → IsSeat t x × HasNothing x.view.hand
      go (yes l) = let g = given.each i (Evacuates (numbered t (first + i))) x (are.evacuate i low l) at in (g.0.0, g.0.1)
      go (no n) = let g = given.each i (Fetches (numbered t (first + i))) x (are.fetch i low (let l : evacuators ≤ i = omega arith in l)) at in (g.0.0, g.0.1)

  -- so is that of a program
  of_programs : (k : ℕ) (x : SeatView W C) → slice_get (map (λ (d : DoneView W C). d.seat) all.done) k ≡ Some x → IsSeat t x × IsQuiet x.view
  of_programs k x at =
      let found = mapped_at (λ (d : DoneView W C). d.seat) all.done k x at in
      let left = (all.each k found.0 found.1).1 in
      subst (λ (y : SeatView W C). IsSeat t y × IsQuiet y.view) found.2 (subst (λ (q : TableView). IsSeat q found.0.seat) (ap (λ (q : Roster). q.table) of) left.seat, left.quiet)

  -- and of all of them
  both_of : (P : SeatView W C → Type 0) → ((i : ℕ) (x : SeatView W C) → slice_get before i ≡ Some x → P x) → ((k : ℕ) (x : SeatView W C) → slice_get (map (λ (d : DoneView W C). d.seat) all.done) k ≡ Some x → P x) → All P seats
  both_of P movers others = subst (All P) (sym all.behind) (All-append P before (map (λ (d : DoneView W C). d.seat) all.done) (all_rows P before movers) (all_rows P (map (λ (d : DoneView W C). d.seat) all.done) others))

  pub seats_are : All (IsSeat t) seats
  seats_are = both_of (IsSeat t) (λ i x at. (of_movers i x at).0) (λ k x at. (of_programs k x at).0)

  pub without_berths : All HasNoBerth seats
  without_berths = both_of HasNoBerth (λ i x at. let h = (of_movers i x at).1 in (h.0, h.1)) (λ k x at. let q = (of_programs k x at).1 in (q.0, q.1))

  pub some_seats : 0 < length programs → 0 < length seats
  some_seats any =
      let count = all.count in let same = ap (λ (q : Roster). length q.programs) of in let long = ap length all.behind in let parts = length-append before (map (λ (d : DoneView W C). d.seat) all.done) in
      let made = length-map all.done (λ (d : DoneView W C). d.seat) in omega arith

-- ---- all of them

module _ {S W C : Type 0} (kept : S → ℕ → List ℕ → Type 0) (there : S → Type 0) (honest reliable : Type 0) (t : TableView) (programs : List Verified) (share evacuators count : ℕ) (r : Roster) (before seats : List (SeatView W C)) (ends : List Finished) (ms : List (Mover W C))
    (of : r ≡ roster t programs share) (all : AreAllDone honest reliable r before ends seats) (given : AreGivenBack reliable ms before) (are : AreMovers t (length programs + 1) evacuators count ms)
    (meet : AreTogether kept there honest t.sizes (map seated_as seats)) (room : t.sizes.seats ≡ length programs + count) (enough : evacuators ≤ count) (sure : honest) where
  -- a seat is at its place in the state of the table
  there_at : (j n : ℕ) (x : SeatView W C) → slice_get seats j ≡ Some x → x.view.number ≡ suc n → get_elem? meet.table.views n ≡ some (seated_as x)
  there_at j n x at number =
      let placed : IsPlaced meet.table.views (seated_as x) = made_at (IsPlaced meet.table.views) seated_as seats j x meet.each at in
      let same : x.view.number - 1 ≡ n = omega arith in
      subst (λ (k : ℕ). get_elem? meet.table.views k ≡ some (seated_as x)) same placed

  table_is : r.table ≡ t
  table_is = ap (λ (q : Roster). q.table) of

  of_program : (k : ℕ) (e : Finished) → slice_get ends k ≡ Some e → (v : Seated) × (get_elem? meet.table.views k ≡ some v) × (v.view.sizes ≡ t.sizes) × IsLeftBy reliable (share_by k share) (image_at programs k) e v
  of_program k e at =
      let found = mapped_at (λ (d : DoneView W C). d.end) all.done k e (ap (λ (l : List Finished). slice_get l k) (sym all.these) ∙ at) in
      let d = found.0 in
      let is : IsDoneAt honest reliable (roster t programs share) k d = subst (λ (q : Roster). IsDoneAt honest reliable q k d) of (all.each k d found.1) in
      let left = is.1 in
      let by = left.by sure in
      let place : slice_get seats (length before + k) ≡ Some d.seat =
      ap (λ (l : List (SeatView W C)). slice_get l (length before + k)) all.behind ∙ in_second before (map (λ (x : DoneView W C). x.seat) all.done) (length before + k) k d.seat refl (map_there (λ (x : DoneView W C). x.seat) all.done k d found.1) in
      let number : d.seat.view.number ≡ suc k = ap (λ (v : Seated). v.view.number) by.1 ∙ by.0.mover in
      (seated_as d.seat, there_at (length before + k) k d.seat place number, left.seat.1, subst (λ (f : Finished). IsLeftBy reliable (share_by k share) (image_at programs k) f (seated_as d.seat)) found.2 by)

  -- the seat that mover i gave back
  of_mover : (i : ℕ) (m : Mover W C) → i < count → slice_get ms i ≡ Some m → (x : SeatView W C) × (slice_get seats i ≡ Some x) × IsGivenBack reliable m x
  of_mover i m low at =
      let many = are.many in let back = given.count in
      let x = there_is before i (omega arith) in
      (x.0, ap (λ (l : List (SeatView W C)). slice_get l i) all.behind ∙ in_first before (map (λ (y : DoneView W C). y.seat) all.done) i x.0 x.1, given.each i m x.0 at x.1)

  pub together : HasRunTogether kept there honest reliable t.sizes share (length programs) evacuators (count - evacuators) (image_at programs) ends
  together = record {
    table = meet.table;
    rule = meet.rule;
    few = (let room' = meet.rule.rule.room in let views = length-map meet.table.views (λ (v : Seated). v.view) in omega arith);
    of_programs = of_program;
    of_evacuators = λ k low.
        let m = of_mover k (Evacuates (numbered t (length programs + 1 + k))) (omega arith) (are.evacuate k (omega arith) low) in
        let number : length programs + 1 + k ≡ suc (length programs + k) = omega arith in
        (seated_as m.0, there_at k (length programs + k) m.0 m.1 (m.2.0.2 ∙ number), (did_of m.0, refl, subst (λ (n : ℕ). HasMadeRounds reliable t.sizes n (did_of m.0)) number m.2.1));
    of_fetchers = λ k low.
        let m = of_mover (evacuators + k) (Fetches (numbered t (length programs + 1 + (evacuators + k)))) (omega arith) (are.fetch (evacuators + k) (omega arith) (omega arith)) in
        let number : length programs + 1 + (evacuators + k) ≡ suc (length programs + evacuators + k) = omega arith in
        (seated_as m.0, there_at (evacuators + k) (length programs + evacuators + k) m.0 m.1 (m.2.0.2 ∙ number), (did_of m.0, refl, subst (λ (n : ℕ). HasServed reliable t.sizes n (did_of m.0)) number m.2.1));
  }
