-- the scopes of a program hold what those of its code's run do, but for what an instruction under way has shut or opened
use Rattle.std.proofs.Common.{◌≡◌, ◌≢◌, ◌⊎◌, inl, inr, ℕ, zero, suc, ◌+◌, ◌<◌, Bool, true, false, cond, not, ◌&&◌, List, [], ◌∷◌, length, Option, Some, None, refl, sym, ap, ◌∙◌, subst, arith}
use Rattle.std.specs.Prelude.{◌==◌, ◌%◌, nat_lt, nat_le, slice_set}
use Rattle.std.proofs.lemmas.Bool.Decides.{nat_tests}
use Rattle.std.proofs.lemmas.List.{get_or-set_same, get_or-set_other}
use Rattle.cells.specs.declared.ending.Want.TheVariants.{OutOfMemory}
use Rattle.code_form.specs.declared.touch.Cell.{Cell}
use Rattle.code_form.specs.declared.touch.Touch.{Touch}
use Rattle.code_form.specs.declared.touch.Touch.TheVariants as touch
use Rattle.code_form.specs.Effects.{Effect, Plain, Hints, Aims, Loads, Stores, Leaves as LeavesOf, Allocs, Ends, Wrong, Nothing}
use Rattle.code_form.specs.Code.{Core, effect, held, is_blocked}
use Rattle.code_form.specs.Placed.{pieces, object_at}
use Rattle.code_form.specs.Touches.{cell_option, resumed, touch_of}
use Rattle.code_form.specs.Tracked.{HoldsSame, HoldsSameBut, IsTracked}
use Rattle.pointer_word.specs.Hands.{known}
use Rattle.pointer_word.specs.Machine.{Far, Never, Kept, Unknown, State}
use Rattle.pointer_word.specs.Calls.{Opens, Begins, Claims, Marks, Leaves, act}
use Rattle.pointer_word.specs.Legal.{holds}
use Rattle.pointer_word.proofs.Upd.{same_or}
use Rattle.world_semantics.specs.declared.event.Choice.{Choice}
use Rattle.world_semantics.specs.declared.event.Choice.TheVariants as choice
use Rattle.world_semantics.specs.Fetchers as fetching
use Rattle.world_semantics.specs.Fetchers.{as_mode}
use Rattle.world_semantics.specs.Programs.{Eviction, Copying, Stored, NotStored, Refused, Freed, Hold, Mode, Ready, Missing, Bringing, Reading, Filling, Evicting, Releasing, Retreating, Closing, Wanted, Program, Setting, cells_in, next_touch, object_of, object_or_none, next_free, hold_at, holding, in_mode, finished, first_hold, behind, may_grow, rest_of}
use Rattle.world_semantics.specs.Turns.{Answer, NotEnabled, Calls, evicts, grows, closes, found, aims_at, loads_from, loads_by, stores_to, stores_by, leaves_by, ends_by, ready, began, to_fill, seeks, read_so, program_brings, closed_so, gives_up, by_mode, program_turn}
use Rattle.world_semantics.specs.Scopes.{IsNext, IsAiming, AimsIn, object_in, IsAsCode, Shuts, IsShut, IsAimed, ScopeFits}
use Rattle.world_semantics.proofs.Counting.{hold_there, first_at}
use Rattle.world_semantics.proofs.Following.{Laws, Within1, Tidies, tidy_next}
use Rattle.world_semantics.proofs.Going.{Leads, leads_cond, leads_next}
use Rattle.world_semantics.proofs.Moving.{below}

equal : (a b : ℕ) → (a == b) ≡ true → a ≡ b
equal a b e = grind (arith, nat_tests)

-- ---- lists of scopes

other_hold : (hs : List (Option Hold)) (k j : ℕ) (x : Option Hold) → j ≢ k → hold_at (slice_set hs k x) j ≡ hold_at hs j
other_hold hs k j x d = get_or-set_other hs k j x None d

same_hold : (hs : List (Option Hold)) (k : ℕ) (x : Option Hold) → k < length hs → hold_at (slice_set hs k x) k ≡ x
same_hold hs k x l = get_or-set_same hs k x None l

none_behind : (x : Option (ℕ × Hold)) → behind x ≡ None → x ≡ None
none_behind None e = refl
none_behind (Some q) e = cc

-- no scope holds anything where none is the lowest that does
pub first_none : (hs : List (Option Hold)) → first_hold hs ≡ None → (k : ℕ) → hold_at hs k ≡ None
first_none [] e k = refl
first_none (None ∷ hs) e zero = refl
first_none (None ∷ hs) e (suc k) = first_none hs (none_behind (first_hold hs) e) k
first_none (Some x ∷ hs) e k = cc

none_in : (x : Option Hold) → object_in x ≡ None → x ≡ None
none_in None e = refl
none_in (Some x) e = cc

-- ---- what an instruction changes of the scopes of the code's run

abbrev Tracks : Touch → Core → Core → Type 0
Tracks touch.Plain c d = HoldsSame d c
Tracks (touch.Hints w) c d = HoldsSame d c
Tracks (touch.Aims k w) c d = (cell_option (held d k) ≡ w) × HoldsSameBut k d c
Tracks (touch.Loads k x) c d = HoldsSame d c
Tracks (touch.Stores k x v) c d = HoldsSame d c
Tracks (touch.Leaves k) c d = (held d k ≡ None) × HoldsSameBut k d c
Tracks (touch.Allocs n) c d = (t : ℕ) → (held c t ≡ None) × (held d t ≡ None)
Tracks touch.Ends c d = (t : ℕ) → held d t ≡ None
Tracks touch.Wrong c d = Unit {0}
Tracks touch.Nothing c d = Unit {0}

tracks : (c : Core) (e : Effect Core) (v : ℕ) → IsTracked c e → Tracks (touch_of e) c (resumed e c v)
tracks c (Plain d) v t = t
tracks c (Hints w d) v t = t
tracks c (Aims s w d) v t = (ap cell_option t.0, t.1)
tracks c (Loads s r x k) v t = t.1 v
tracks c (Stores s r x w d) v t = t.1
tracks c (LeavesOf s d) v t = t
tracks c (Allocs n d) v t = t
tracks c (Ends d) v t = t
tracks c (Wrong d) v t = tt
tracks c Nothing v t = tt

module _ (laws : Laws) (g : Setting) (some : 0 < g.size) (s : State) (p : Program) (a : Answer) (is : Within1 g p) where
  -- the program behind its next instruction, whose load gave v, where the scopes hold this
  abbrev Done : List (Option Hold) → ℕ → Program
  Done hs v = finished g (record p { holds = hs }) v

  tracked : (x : Touch) (hs : List (Option Hold)) (v : ℕ) → IsNext g p x → Tracks x p.core (Done hs v).core
  tracked x hs v next = subst (λ (y : Touch). Tracks y p.core (Done hs v).core) next.0 (tracks p.core (effect g.image p.core) v (laws.tracked g.image p.core is.waits next.1))

  tidied : (x : Touch) (hs : List (Option Hold)) (v : ℕ) → IsNext g p x → Tidies x p.core (Done hs v).core
  tidied x hs v next = tidy_next laws g some s p s (Done hs v) v x next.0 refl

  object_same : (q : Program) (x : Option Cell) → cells_in q ≡ cells_in p → object_or_none g q x ≡ object_or_none g p x
  object_same q None e = refl
  object_same q (Some x) e = ap (λ (cells : List ℕ). Some (object_at g.size g.base cells x.reference x.index)) e

  -- a scope that holds the same, as the scope of the code's run does
  as_same : (q : Program) (k : ℕ) → cells_in q ≡ cells_in p → held q.core k ≡ held p.core k → hold_at q.holds k ≡ hold_at p.holds k → IsAsCode g p k → IsAsCode g q k
  as_same q k cells same hold as_code = ap object_in hold ∙ (as_code ∙ (sym (object_same q (cell_option (held p.core k)) cells) ∙ sym (ap (λ (y : Option (ℕ × ℕ)). object_or_none g q (cell_option y)) same)))

  as_none : (q : Program) (k : ℕ) → held q.core k ≡ None → hold_at q.holds k ≡ None → IsAsCode g q k
  as_none q k none hold = ap object_in hold ∙ sym (ap (λ (y : Option (ℕ × ℕ)). object_or_none g q (cell_option y)) none)

  -- a scope that the next instruction doesn't shut is as the code's
  settled : (x : Touch) → IsNext g p x → (k : ℕ) → (Shuts x k → ⊥) → IsAsCode g p k ⊎ IsShut g p k → IsAsCode g p k
  settled x next k keeps (inl as_code) = as_code
  settled x next k keeps (inr shut) = absurd (keeps (subst (λ (y : Touch). Shuts y k) next.0 shut.1))

  abbrev Q : State → Program → Type 0
  Q t q = (k : ℕ) → ScopeFits g q q.mode k

  chosen : (t : State) (b : Bool) (x y : Program) → (b ≡ true → Q t x) → (b ≡ false → Q t y) → Q t (cond b x y)
  chosen t true x y e f = e refl
  chosen t false x y e f = f refl

  -- ---- an instruction is completed

  done_aims : (k : ℕ) (w : Option Cell) (hs : List (Option Hold)) → IsNext g p (touch.Aims k w) → object_in (hold_at hs k) ≡ object_or_none g p w → ((j : ℕ) → j ≢ k → hold_at hs j ≡ hold_at p.holds j)
      → ((j : ℕ) → j ≢ k → IsAsCode g p j) → (j : ℕ) → IsAsCode g (Done hs 0) j
  done_aims k w hs next here others before j =
      let q : Program = Done hs 0 in
      let tr : Tracks (touch.Aims k w) p.core q.core = tracked (touch.Aims k w) hs 0 next in
      let cells : cells_in q ≡ cells_in p = tidied (touch.Aims k w) hs 0 next in
      elim (same_or j k) [
        | inl e ↦ subst (IsAsCode g q) (sym e) (here ∙ (sym (object_same q w cells) ∙ sym (ap (object_or_none g q) tr.0)))
        | inr d ↦ as_same q j cells (tr.1 j d) (others j d) (before j d)
      ]

  done_leaves : (k : ℕ) (hs : List (Option Hold)) → IsNext g p (touch.Leaves k) → hold_at hs k ≡ None → ((j : ℕ) → j ≢ k → hold_at hs j ≡ hold_at p.holds j) → ((j : ℕ) → IsAsCode g p j)
      → (j : ℕ) → IsAsCode g (Done hs 0) j
  done_leaves k hs next here others before j =
      let q : Program = Done hs 0 in
      let tr : Tracks (touch.Leaves k) p.core q.core = tracked (touch.Leaves k) hs 0 next in
      let cells : cells_in q ≡ cells_in p = tidied (touch.Leaves k) hs 0 next in
      elim (same_or j k) [
        | inl e ↦ subst (IsAsCode g q) (sym e) (as_none q k tr.0 here)
        | inr d ↦ as_same q j cells (tr.1 j d) (others j d) (before j)
      ]

  module _ (before : (k : ℕ) → IsAsCode g p k ⊎ IsShut g p k) where
    grows_s : Q s (finished g p 0) → Q s (grows g p a)
    grows_s done = chosen s (not a.grew && may_grow (next_touch g p) (rest_of p.core)) (in_mode p (Wanted OutOfMemory)) (finished g p 0) (λ _. before) (λ _. done)

    done_plain : IsNext g p touch.Plain → Q s (finished g p 0)
    done_plain next k = inl (as_same (Done p.holds 0) k (tidied touch.Plain p.holds 0 next) (tracked touch.Plain p.holds 0 next k) refl (settled touch.Plain next k (λ x. x) (before k)))

    done_hints : (w : Option Cell) → IsNext g p (touch.Hints w) → Q s (finished g p 0)
    done_hints w next k = inl (as_same (Done p.holds 0) k (tidied (touch.Hints w) p.holds 0 next) (tracked (touch.Hints w) p.holds 0 next k) refl (settled (touch.Hints w) next k (λ x. x) (before k)))

    done_load : (k : ℕ) (x : Cell) (v : ℕ) → IsNext g p (touch.Loads k x) → Q s (finished g p v)
    done_load k x v next j = inl (as_same (Done p.holds v) j (tidied (touch.Loads k x) p.holds v next).0 (tracked (touch.Loads k x) p.holds v next j) refl (settled (touch.Loads k x) next j (λ x. x) (before j)))

    done_store : (t : State) (k : ℕ) (x : Cell) (v : ℕ) → IsNext g p (touch.Stores k x v) → Q t (finished g p 0)
    done_store t k x v next j = inl (as_same (Done p.holds 0) j (tidied (touch.Stores k x v) p.holds 0 next).0 (tracked (touch.Stores k x v) p.holds 0 next j) refl (settled (touch.Stores k x v) next j (λ x. x) (before j)))

    done_allocs : (n : ℕ) → IsNext g p (touch.Allocs n) → Q s (finished g p 0)
    done_allocs n next k =
        let tr = tracked (touch.Allocs n) p.holds 0 next k in
        let as_code : IsAsCode g p k = settled (touch.Allocs n) next k (λ x. x) (before k) in
        inl (as_none (Done p.holds 0) k tr.1 (none_in (hold_at p.holds k) (as_code ∙ ap (λ (y : Option (ℕ × ℕ)). object_or_none g p (cell_option y)) tr.0)))

    done_ends : IsNext g p touch.Ends → first_hold p.holds ≡ None → Q s (finished g p 0)
    done_ends next none k = inl (as_none (Done p.holds 0) k (tracked touch.Ends p.holds 0 next k) (first_none p.holds none k))

    -- a scope that the next instruction shuts is shut
    closes_s : (k : ℕ) (x : Hold) → hold_at p.holds k ≡ Some x → Shuts (next_touch g p) k → p.mode ≡ Ready → Leads s Q (closes p k x)
    closes_s k x here shuts m j =
        let q : Program = holding p k None in
        subst (λ y. ScopeFits g q y j) (sym m) (elim (same_or j k) [
          | inl e ↦ inr (ap (hold_at q.holds) e ∙ same_hold p.holds k None (hold_there p.holds k x here), subst (Shuts (next_touch g p)) (sym e) shuts)
          | inr d ↦ elim (before j) [
            | inl as_code ↦ inl (as_same q j refl refl (other_hold p.holds k j None d) as_code)
            | inr shut ↦ inr (other_hold p.holds k j None d ∙ shut.0, shut.1)
          ]
        ])

    others_settled : (k : ℕ) (w : Option Cell) → IsNext g p (touch.Aims k w) → (j : ℕ) → j ≢ k → IsAsCode g p j
    others_settled k w next j d = settled (touch.Aims k w) next j (λ e. d (sym e)) (before j)

    shuts_aimed : (k : ℕ) (w : Option Cell) → IsNext g p (touch.Aims k w) → Shuts (next_touch g p) k
    shuts_aimed k w next = subst (λ (y : Touch). Shuts y k) (sym next.0) refl

    aims_none_s : (k : ℕ) (x : Option Hold) → hold_at p.holds k ≡ x → IsNext g p (touch.Aims k None) → p.mode ≡ Ready → Leads s Q (aims_at g p k x None)
    aims_none_s k None e next m = λ j. inl (done_aims k None p.holds next (ap object_in e) (λ j d. refl) (others_settled k None next) j)
    aims_none_s k (Some x) e next m = closes_s k x e (shuts_aimed k None next) m

    aims_some_s : (k : ℕ) (x : Option Hold) (w : Cell) → hold_at p.holds k ≡ x → k < length p.holds → IsNext g p (touch.Aims k (Some w)) → p.mode ≡ Ready → Leads s Q (aims_at g p k x (Some (object_of g p w)))
    aims_some_s k None w e l next m =
        let o : ℕ = object_of g p w in
        let y : Hold = record { object = o; writes = false } in
        let t : State = act s (Opens o) in
        let q : Program = holding p k (Some y) in
        let here : hold_at q.holds k ≡ Some y = same_hold p.holds k (Some y) l in
        chosen t (known (t.note o).frame) (finished g q 0) (in_mode q (Missing o))
        (λ _ j. inl (done_aims k (Some w) q.holds next (ap object_in here) (λ j d. other_hold p.holds k j (Some y) d) (others_settled k (Some w) next) j))
        (λ _ j. elim (same_or j k) [
          | inl e ↦ inr (record { scope = k; cell = w; is = next; object = refl; holds = here }, sym e)
          | inr d ↦ inl (as_same (in_mode q (Missing o)) j refl refl (other_hold p.holds k j (Some y) d) (others_settled k (Some w) next j d))
        ])
    aims_some_s k (Some x) w e l next m = leads_cond s Q (x.object == object_of g p w) _ _
        (λ b j. inl (done_aims k (Some w) p.holds next (ap object_in e ∙ ap Some (equal x.object (object_of g p w) b)) (λ j d. refl) (others_settled k (Some w) next) j))
        (λ _. closes_s k x e (shuts_aimed k (Some w) next) m)

    aims_s : (k : ℕ) (w : Option Cell) → k < length p.holds → IsNext g p (touch.Aims k w) → p.mode ≡ Ready → Leads s Q (aims_at g p k (hold_at p.holds k) (object_or_none g p w))
    aims_s k None l next m = aims_none_s k (hold_at p.holds k) refl next m
    aims_s k (Some w) l next m = aims_some_s k (hold_at p.holds k) w refl l next m

    loads_from_s : (k : ℕ) (x : Cell) (f : Option ℕ) (i : ℕ) → IsNext g p (touch.Loads k x) → Leads s Q (loads_from g s p f i)
    loads_from_s k x None i next = tt
    loads_from_s k x (Some f) i next = done_load k x (s.cell f i) next

    loads_s : (k : ℕ) (x : Cell) (y : Option Hold) (o i : ℕ) → IsNext g p (touch.Loads k x) → Leads s Q (loads_by g s p y o i)
    loads_s k x None o i next = tt
    loads_s k x (Some y) o i next = leads_cond s Q (y.object == o) _ _ (λ _. loads_from_s k x (s.note o).frame i next) (λ _. tt)

    stores_to_s : (k : ℕ) (x : Cell) (f : Option ℕ) (o i v w : ℕ) → IsNext g p (touch.Stores k x w) → Leads s Q (stores_to g p f o i v)
    stores_to_s k x None o i v w next = tt
    stores_to_s k x (Some f) o i v w next = done_store s k x w next

    -- a hold that may write
    writes_s : (k : ℕ) (x : Cell) (v o : ℕ) (y : Hold) → hold_at p.holds k ≡ Some y → y.object ≡ o → IsNext g p (touch.Stores k x v) → p.mode ≡ Ready
        → (j : ℕ) → ScopeFits g (holding p k (Some (record { object = o; writes = true }))) p.mode j
    writes_s k x v o y here same next m j =
        let z : Hold = record { object = o; writes = true } in
        let q : Program = holding p k (Some z) in
        let as_code : IsAsCode g p j = settled (touch.Stores k x v) next j (λ x. x) (before j) in
        subst (λ y. ScopeFits g q y j) (sym m) (elim (same_or j k) [
          | inl e ↦ inl (ap (λ i. object_in (hold_at q.holds i)) e ∙ (ap object_in (same_hold p.holds k (Some z) (hold_there p.holds k y here)) ∙ (ap Some (sym same) ∙ (sym (ap object_in here) ∙ (ap (λ i. object_in (hold_at p.holds i)) (sym e) ∙ as_code)))))
          | inr d ↦ inl (as_same q j refl refl (other_hold p.holds k j (Some z) d) as_code)
        ])

    stores_s : (k : ℕ) (x : Cell) (v w : ℕ) (y : Option Hold) (o i : ℕ) → hold_at p.holds k ≡ y → IsNext g p (touch.Stores k x w) → p.mode ≡ Ready → Leads s Q (stores_by g s p k y o i v)
    stores_s k x v w None o i e next m = tt
    stores_s k x v w (Some y) o i e next m = leads_cond s Q (y.object == o) _ _
        (λ b. leads_cond s Q y.writes _ _ (λ _. stores_to_s k x (s.note o).frame o i v w next) (λ _. writes_s k x w o y e (equal y.object o b) next m)) (λ _. tt)

    leaves_s : (k : ℕ) (x : Option Hold) → hold_at p.holds k ≡ x → IsNext g p (touch.Leaves k) → Leads s Q (leaves_by g p k x)
    leaves_s k None e next = λ j. inl (done_leaves k p.holds next e (λ j d. refl) (λ j. settled (touch.Leaves k) next j (λ x. x) (before j)) j)
    leaves_s k (Some x) e next = λ j.
        inl (done_leaves k (holding p k None).holds next (same_hold p.holds k None (hold_there p.holds k x e)) (λ j d. other_hold p.holds k j None d) (λ j. settled (touch.Leaves k) next j (λ x. x) (before j)) j)

    ends_s : (q : Option (ℕ × Hold)) → first_hold p.holds ≡ q → IsNext g p touch.Ends → p.mode ≡ Ready → Leads s Q (ends_by g p a q)
    ends_s None e next m = grows_s (done_ends next e)
    ends_s (Some q) e next m = closes_s q.0 q.1 (first_at p.holds q e) (subst (λ (y : Touch). Shuts y q.0) (sym next.0) tt) m

    ready_s : (x : Touch) → IsNext g p x → p.mode ≡ Ready → Leads s Q (ready g s p a x)
    ready_s touch.Plain next m = grows_s (done_plain next)
    ready_s (touch.Hints w) next m = done_hints w next
    ready_s (touch.Aims k w) next m = leads_cond s Q (nat_lt k (length p.holds)) _ _ (λ l. aims_s k w (below k (length p.holds) l) next m) (λ _. tt)
    ready_s (touch.Loads k x) next m = loads_s k x (hold_at p.holds k) (object_of g p x) (x.index % g.size) next
    ready_s (touch.Stores k x v) next m = stores_s k x v v (hold_at p.holds k) (object_of g p x) (x.index % g.size) refl next m
    ready_s (touch.Leaves k) next m = leaves_s k (hold_at p.holds k) refl next
    ready_s (touch.Allocs cells) next m = leads_cond s Q (nat_le (next_free g p + pieces g.size cells) g.limit) _ _ (λ _. grows_s (done_allocs cells next)) (λ _. before)
    ready_s touch.Ends next m = ends_s (first_hold p.holds) refl next m
    ready_s touch.Wrong next m = tt
    ready_s touch.Nothing next m = tt

  -- ---- within an aim

  module _ (o : ℕ) (aiming : IsAiming g p o) (before : (k : ℕ) → IsAsCode g p k ⊎ IsAimed g p o k) where
    -- the program in another mode of the aim
    carried : (y : Mode) (k : ℕ) → IsAsCode g (in_mode p y) k ⊎ IsAimed g (in_mode p y) o k
    carried y k = elim (before k) [
      | inl as_code ↦ inl as_code
      | inr x ↦ inr (record { scope = x.0.scope; cell = x.0.cell; is = x.0.is; object = x.0.object; holds = x.0.holds }, x.1)
    ]

    one_scope : (j k : ℕ) (v w : Cell) → next_touch g p ≡ touch.Aims j (Some v) → next_touch g p ≡ touch.Aims k (Some w) → j ≡ k
    one_scope j k v w e f = let q : touch.Aims j (Some v) ≡ touch.Aims k (Some w) = sym e ∙ f in cc

    rest_as_code : (j : ℕ) → j ≢ aiming.scope → IsAsCode g p j
    rest_as_code j d = elim (before j) [ inl as_code ↦ as_code | inr x ↦ absurd (d (sym x.1 ∙ one_scope x.0.scope aiming.scope x.0.cell aiming.cell x.0.is.0 aiming.is.0)) ]

    aim_done : (t : State) → Q t (finished g p 0)
    aim_done t j = inl (done_aims aiming.scope (Some aiming.cell) p.holds aiming.is (ap object_in aiming.holds ∙ ap Some (sym aiming.object)) (λ j d. refl) rest_as_code j)

    found_s : (t : State) → Q t (found g p o t)
    found_s t = chosen t (known (t.note o).frame) (finished g p 0) (in_mode p (Missing o)) (λ _. aim_done t) (λ _. carried (Missing o))

    missing_s : Leads s Q (Calls (Begins g.mover o (s.note o).count true) (began g p o))
    missing_s =
        let t : State = act s (Begins g.mover o (s.note o).count true) in
        chosen t (holds (t.hand g.mover).bringing o) (in_mode p (Bringing o)) (found g p o t) (λ _. carried (Bringing o)) (λ _. found_s t)

    fill_s : (f : ℕ) (y : Far) (k : ℕ) → ScopeFits g (in_mode p (as_mode (to_fill o f y))) (as_mode (to_fill o f y)) k
    fill_s f Never k = carried (Filling o f [] 0) k
    fill_s f (Kept words) k = carried (Reading o f) k
    fill_s f Unknown k = carried (Reading o f) k

    -- a try that was refused
    stays_s : (t : State) → p.mode ≡ Bringing o → Q t p
    stays_s t m k = subst (λ y. ScopeFits g p y k) (sym m) (before k)

    seeks_s : (c : Choice) → p.mode ≡ Bringing o → Leads s Q (seeks g p o c)
    seeks_s choice.Next m = tt
    seeks_s (choice.Begin v) m = tt
    seeks_s (choice.Look f) m = stays_s s m
    seeks_s (choice.Claim f) m =
        let t : State = act s (Claims g.mover o f) in
        chosen t (holds (t.hand g.mover).claimed f) (in_mode p (as_mode (to_fill o f (t.far o)))) p (λ _. fill_s f (t.far o)) (λ _. stays_s t m)
    seeks_s (choice.Mark v f) m =
        let t : State = act s (Marks g.mover v f) in
        chosen t (holds (t.hand g.mover).leaving v) (in_mode p (Evicting o (Copying v f []))) p (λ _. carried (Evicting o (Copying v f []))) (λ _. stays_s t m)
    seeks_s (choice.Leave v f) m =
        let t : State = act s (Leaves g.mover v f) in
        chosen t (holds (t.hand g.mover).freed f) (in_mode p (Evicting o (Freed f))) p (λ _. carried (Evicting o (Freed f))) (λ _. stays_s t m)

    read_s : (f : ℕ) (read : Option (List ℕ)) → Q s (in_mode p (as_mode (read_so o f read)))
    read_s f None = carried (Releasing o f)
    read_s f (Some words) = carried (Filling o f words 0)

    fills_s : (f : ℕ) (words : List ℕ) (k : ℕ) → Leads s Q (program_brings g p a (fetching.Filling o f words k))
    fills_s f words k = leads_cond s Q (nat_lt k g.size) _ _ (λ _. carried (Filling o f words (suc k))) (λ _. aim_done s)

    evicts_s : (d : Eviction) → Leads s Q (evicts g.size g.mover a d (λ x. in_mode p (Evicting o x)) (in_mode p (Bringing o)) (in_mode p (Retreating o)))
    evicts_s (Copying v f words) = leads_cond s Q (nat_lt (length words) g.size) _ _ (λ _. carried _) (λ _. carried _)
    evicts_s (Stored v f) = carried _
    evicts_s (NotStored v f) = carried (Retreating o)
    evicts_s (Refused v f) = carried (Bringing o)
    evicts_s (Freed f) = carried (Bringing o)

    retreats_s : (k : ℕ) → ScopeFits g (in_mode p Closing) Closing k
    retreats_s k = elim (carried Closing k) [ inl as_code ↦ inl as_code | inr x ↦ inr (inr (o, x)) ]

  -- ---- giving up

  closed_s : (k : ℕ) (x : Hold) (t : State) (q : Option (ℕ × Hold)) → hold_at p.holds k ≡ Some x → first_hold (holding p k None).holds ≡ q → p.mode ≡ Closing → ((j : ℕ) → ScopeFits g p Closing j) → Q t (closed_so (holding p k None) q)
  closed_s k x t None here e m before j = first_none (holding p k None).holds e j
  closed_s k x t (Some q) here e m before j =
      let r : Program = holding p k None in
      subst (λ y. ScopeFits g r y j) (sym m) (elim (same_or j k) [
        | inl i ↦ inr (inl (ap (hold_at r.holds) i ∙ same_hold p.holds k None (hold_there p.holds k x here)))
        | inr d ↦ elim (before j) [
          | inl as_code ↦ inl (as_same r j refl refl (other_hold p.holds k j None d) as_code)
          | inr w ↦ elim w [
            | inl none ↦ inr (inl (other_hold p.holds k j None d ∙ none))
            | inr y ↦ inr (inr (
              y.0,
              (
                record { scope = y.1.0.scope; cell = y.1.0.cell; is = y.1.0.is; object = y.1.0.object; holds = other_hold p.holds k y.1.0.scope None (λ i. d (sym y.1.1 ∙ i)) ∙ y.1.0.holds },
                y.1.1,
              ),
            ))
          ]
        ]
      ])

  gives_up_s : (q : Option (ℕ × Hold)) → first_hold p.holds ≡ q → p.mode ≡ Closing → ((j : ℕ) → ScopeFits g p Closing j) → Leads s Q (gives_up p q)
  gives_up_s None e m before = first_none p.holds e
  gives_up_s (Some q) e m before = closed_s q.0 q.1 s (first_hold (holding p q.0 None).holds) (first_at p.holds q e) refl m before

  mode_s : (y : Mode) → p.mode ≡ y → AimsIn g p y → ((k : ℕ) → ScopeFits g p y k) → (c : Choice) → Leads s Q (by_mode g s p y c a)
  mode_s Ready m aims before c = leads_next s Q c _ (leads_cond s Q (is_blocked p.core) NotEnabled (ready g s p a (next_touch g p)) (λ _. tt) (λ b. ready_s before (next_touch g p) (refl, b) m))
  mode_s (Missing o) m aims before c = leads_next s Q c _ (missing_s o aims before)
  mode_s (Bringing o) m aims before c = seeks_s o aims before c m
  mode_s (Reading o f) m aims before c = leads_next s Q c _ (read_s o aims before f a.read)
  mode_s (Filling o f words k) m aims before c = leads_next s Q c _ (fills_s o aims before f words k)
  mode_s (Evicting o d) m aims before c = leads_next s Q c _ (evicts_s o aims before d)
  mode_s (Releasing o f) m aims before c = leads_next s Q c _ (carried o aims before (Retreating o))
  mode_s (Retreating o) m aims before c = leads_next s Q c _ (retreats_s o aims before)
  mode_s Closing m aims before c = leads_next s Q c _ (gives_up_s (first_hold p.holds) refl m before)
  mode_s (Wanted w) m aims before c = tt

-- a program's turn leaves its scopes so
pub scopes_lead : Laws → (g : Setting) → 0 < g.size → (s : State) (p : Program) (c : Choice) (a : Answer) → Within1 g p → ((k : ℕ) → ScopeFits g p p.mode k)
    → Leads s (λ (t : State) (q : Program). (k : ℕ) → ScopeFits g q q.mode k) (program_turn g s p c a)
scopes_lead laws g some s p c a is before = mode_s laws g some s p a is p.mode refl is.aims before c
