-- the words count what the scopes of programs hold
use Rattle.std.proofs.Common.{◌≡◌, inl, inr, ℕ, ◌+◌, ◌-◌, ◌<◌, ◌≤◌, Bool, true, false, cond, not, ◌&&◌, List, length, Option, Some, None, refl, sym, ap, ◌∙◌, subst, arith}
use Rattle.std.specs.Prelude.{◌==◌, ◌%◌, nat_lt, nat_le, slice_set}
use Rattle.std.proofs.lemmas.Bool.Decides.{nat_tests}
use Rattle.std.proofs.lemmas.List.{get_or-set_same, get_or-set_other}
use Rattle.code_form.specs.declared.touch.Cell.{Cell}
use Rattle.code_form.specs.declared.touch.Touch.{Touch}
use Rattle.code_form.specs.declared.touch.Touch.TheVariants as touch
use Rattle.code_form.specs.declared.allocation.Allocation.{Allocation}
use Rattle.code_form.specs.Effects.{Effect, Plain, Hints, Aims, Loads, Stores as StoresOf, Leaves as LeavesOf, Allocs, Ends, Wrong, Nothing}
use Rattle.code_form.specs.Code.{Core, Running, Stopped, Stuck, Scope, Shut, Aimed, Stale, allocations_of, cells_of, code, effect, held, held_by, is_blocked, sizes}
use Rattle.code_form.specs.Placed.{pieces}
use Rattle.code_form.specs.Touches.{cell, cell_option, touch_of}
use Rattle.code_form.specs.Tracked.{IsTidy, IsTracked}
use Rattle.pointer_word.specs.Hands.{known, listed}
use Rattle.pointer_word.specs.Machine.{State}
use Rattle.pointer_word.specs.Calls.{Call, Opens, Closes, Clears, Stores, Begins, Claims, Fills, Arrives, Unclaims, Retreats, Marks, Copies, Puts, Commits, Aborts, Leaves, Releases, act}
use Rattle.pointer_word.specs.Legal.{holds}
use Rattle.pointer_word.proofs.Upd.{same_or}
use Rattle.std.specs.Prelude.{slice_get}
use Rattle.world_semantics.specs.declared.event.Choice.{Choice}
use Rattle.world_semantics.specs.declared.event.Choice.TheVariants as choice
use Rattle.world_semantics.specs.Fetchers as fetching
use Rattle.world_semantics.specs.Programs.{Eviction, Copying, Stored, NotStored, Refused, Freed, Hold, Mode, Ready, Missing, Bringing, Reading, Filling, Evicting, Releasing, Retreating, Closing, Wanted, Program, Setting, cells_in, next_touch, object_of, object_or_none, next_free, hold_at, holding, in_mode, first_hold, may_grow, rest_of}
use Rattle.world_semantics.specs.Turns.{Answer, NotEnabled, Calls, put_of, evicts, grows, closes, aims_at, loads_from, loads_by, stores_to, stores_by, leaves_by, ends_by, ready, began, seeks, program_brings, closed_so, gives_up, by_mode}
use Rattle.world_semantics.specs.Holding.{one, count_of}
use Rattle.world_semantics.proofs.Counting.{is_counting, keeps_count, one_other, opens_count, closes_count, count_set, hold_there, first_at}
use Rattle.world_semantics.specs.Scopes.{IsNext}
use Rattle.world_semantics.proofs.Going.{Leads, leads_cond, leads_next}
use Rattle.world_semantics.proofs.Following.{Laws, Within1, base_object}

-- no hold is opened or closed
abbrev pub CountsStay : State → State → Type 0
CountsStay s t = (o : ℕ) → (t.note o).count ≡ (s.note o).count

-- an object of the share
abbrev pub InShare : Setting → ℕ → Type 0
InShare g o = (g.base ≤ o) × (o < g.limit)

-- what a turn does to the holds: nothing; one is opened by a scope that held nothing; one is closed; one may write
pub data Held (g : Setting) (s : State) (p : Program) (t : State) (q : Program) : Type 0 where
  Kept : q.holds ≡ p.holds → CountsStay s t → Held g s p t q
  Opened : (k : ℕ) → (h : Hold) → k < length p.holds → hold_at p.holds k ≡ None → InShare g h.object → q.holds ≡ slice_set p.holds k (Some h) → ((o : ℕ) → (t.note o).count ≡ (s.note o).count + one o (Some h)) → Held g s p t q
  Closed : (k : ℕ) → (h : Hold) → hold_at p.holds k ≡ Some h → q.holds ≡ slice_set p.holds k None → ((o : ℕ) → (t.note o).count ≡ (s.note o).count - one o (Some h)) → Held g s p t q
  Written : (k : ℕ) → (h : Hold) → hold_at p.holds k ≡ Some h → q.holds ≡ slice_set p.holds k (Some (record { object = h.object; writes = true })) → CountsStay s t → Held g s p t q

-- ---- an aim's cell is in its allocation

less : (a b : ℕ) → nat_lt a b ≡ true → a < b
less a b e = grind (arith, nat_tests)

equal : (a b : ℕ) → (a == b) ≡ true → a ≡ b
equal a b e = grind (arith, nat_tests)

wanted_there : (al : List Allocation) (q x : ℕ) (a : ℕ × ℕ) (b : Bool) → nat_lt x (cells_of (sizes al) q) ≡ b → cond b (Some (q, x)) None ≡ Some a → a.1 < cells_of (sizes al) a.0
wanted_there al q x a true l e =
    let same : (q, x) ≡ a = (let k : Some (q, x) ≡ Some a = e in cc) in
    subst (λ (z : ℕ × ℕ). z.1 < cells_of (sizes al) z.0) same (less x (cells_of (sizes al) q) l)
wanted_there al q x a false l e = cc

scope_there : (al : List Allocation) (z : Option Scope) (a : ℕ × ℕ) → held_by al z ≡ Some a → a.1 < cells_of (sizes al) a.0
scope_there al None a e = cc
scope_there al (Some Shut) a e = cc
scope_there al (Some (Aimed r off i q x)) a e = wanted_there al q x a (nat_lt x (cells_of (sizes al) q)) refl e
scope_there al (Some (Stale q x)) a e = wanted_there al q x a (nat_lt x (cells_of (sizes al) q)) refl e

held_there : (d : Core) (k : ℕ) (a : ℕ × ℕ) → held d k ≡ Some a → a.1 < cells_of (sizes (allocations_of d)) a.0
held_there (Running f st al o) k a e = scope_there al (slice_get f.scopes k) a e
held_there (Stopped r al o) k a e = cc
held_there (Stuck al o) k a e = cc

aimed_at : (s : ℕ) (d : Core) (cells : List ℕ) (v : Option (ℕ × ℕ)) (k : ℕ) (w : Cell) → held d s ≡ v → sizes (allocations_of d) ≡ cells → touch.Aims s (cell_option v) ≡ touch.Aims k (Some w) → w.index < cells_of cells w.reference
aimed_at s d cells None k w h t e = cc
aimed_at s d cells (Some a) k w h t e =
    let same : cell a.0 a.1 ≡ w = cc in
    subst (λ (y : Cell). y.index < cells_of cells y.reference) same (subst (λ (z : List ℕ). a.1 < cells_of z a.0) t (held_there d s a h))

effect_there : (x : Effect Core) (cells : List ℕ) (k : ℕ) (w : Cell) → touch_of x ≡ touch.Aims k (Some w)
    → ((s : ℕ) (v : Option (ℕ × ℕ)) (d : Core) → x ≡ Aims s v d → (held d s ≡ v) × (sizes (allocations_of d) ≡ cells)) → w.index < cells_of cells w.reference
effect_there (Plain d) cells k w e so = cc
effect_there (Hints v d) cells k w e so = cc
effect_there (Aims s v d) cells k w e so = let b = so s v d refl in aimed_at s d cells v k w b.0 b.1 e
effect_there (Loads s r x n) cells k w e so = cc
effect_there (StoresOf s r x v d) cells k w e so = cc
effect_there (LeavesOf s d) cells k w e so = cc
effect_there (Allocs n d) cells k w e so = cc
effect_there (Ends d) cells k w e so = cc
effect_there (Wrong d) cells k w e so = cc
effect_there Nothing cells k w e so = cc

pub aims_there : Laws → (g : Setting) → 0 < g.size → (p : Program) → Within1 g p → (k : ℕ) (w : Cell) → IsNext g p (touch.Aims k (Some w)) → InShare g (object_of g p w)
aims_there laws g some p is k w next =
    let c : Core = p.core in
    let x : Effect Core = effect g.image c in
    let tracked : IsTracked c x = laws.tracked g.image c is.waits next.1 in
    let tidy : IsTidy (code g.image) c x = laws.tidy g.image c in
    let l : w.index < cells_of (cells_in p) w.reference =
    effect_there x (cells_in p) k w next.0
    (λ j v d e. ((subst (IsTracked c) e tracked).0, subst (IsTidy (code g.image) c) e tidy)) in
    let low : g.base ≤ object_of g p w = base_object g.size g.base (cells_in p) w.reference w.index in
    let high : object_of g p w < next_free g p = (laws.addresses g.size g.base (cells_in p) some).inside w.reference w.index l in
    let room : next_free g p ≤ g.limit = is.room in
    (low, omega arith)

-- ---- a turn

module _ (g : Setting) (s : State) (p : Program) (a : Answer) (there : (k : ℕ) (w : Cell) → IsNext g p (touch.Aims k (Some w)) → InShare g (object_of g p w)) where
  abbrev Q : State → Program → Type 0
  Q = Held g s p

  same : (q : Program) → q.holds ≡ p.holds → Q s q
  same q e = Kept e (λ o. refl)

  by_call : (c : Call) (q : Program) → is_counting c ≡ false → q.holds ≡ p.holds → Q (act s c) q
  by_call c q r e = Kept e (keeps_count s c r)

  chosen : (t : State) (b : Bool) (x y : Program) → Q t x → Q t y → Q t (cond b x y)
  chosen t true x y e f = e
  chosen t false x y e f = f

  grows_h : Q s (grows g p a)
  grows_h = chosen s (not a.grew && may_grow (next_touch g p) (rest_of p.core)) _ _ (same _ refl) (same _ refl)

  closes_h : (k : ℕ) (h : Hold) → hold_at p.holds k ≡ Some h → Leads s Q (closes p k h)
  closes_h k h e = Closed k h e refl (closes_count s h)

  aims_none : (k : ℕ) (x : Option Hold) → hold_at p.holds k ≡ x → Leads s Q (aims_at g p k x None)
  aims_none k None e = same _ refl
  aims_none k (Some h) e = closes_h k h e

  aims_some : (k : ℕ) (x : Option Hold) (w : Cell) → hold_at p.holds k ≡ x → k < length p.holds → IsNext g p (touch.Aims k (Some w)) → Leads s Q (aims_at g p k x (Some (object_of g p w)))
  aims_some k None w e l is =
      let o : ℕ = object_of g p w in
      let h : Hold = record { object = o; writes = false } in
      let t : State = act s (Opens o) in
      chosen t (known (t.note o).frame) _ _ (Opened k h l e (there k w is) refl (opens_count s h)) (Opened k h l e (there k w is) refl (opens_count s h))
  aims_some k (Some h) w e l is = leads_cond s Q (h.object == object_of g p w) _ _ (λ _. same _ refl) (λ _. closes_h k h e)

  aims_h : (k : ℕ) (w : Option Cell) → k < length p.holds → IsNext g p (touch.Aims k w) → Leads s Q (aims_at g p k (hold_at p.holds k) (object_or_none g p w))
  aims_h k None l is = aims_none k (hold_at p.holds k) refl
  aims_h k (Some w) l is = aims_some k (hold_at p.holds k) w refl l is

  loads_from_h : (f : Option ℕ) (i : ℕ) → Leads s Q (loads_from g s p f i)
  loads_from_h None i = tt
  loads_from_h (Some f) i = same _ refl

  loads_h : (x : Option Hold) (o i : ℕ) → Leads s Q (loads_by g s p x o i)
  loads_h None o i = tt
  loads_h (Some h) o i = leads_cond s Q (h.object == o) _ _ (λ _. loads_from_h (s.note o).frame i) (λ _. tt)

  stores_to_h : (f : Option ℕ) (o i v : ℕ) → Leads s Q (stores_to g p f o i v)
  stores_to_h None o i v = tt
  stores_to_h (Some f) o i v = by_call (Stores o f i v) _ refl refl

  stores_h : (k : ℕ) (x : Option Hold) (o i v : ℕ) → hold_at p.holds k ≡ x → Leads s Q (stores_by g s p k x o i v)
  stores_h k None o i v e = tt
  stores_h k (Some h) o i v e = leads_cond s Q (h.object == o) _ _
      (λ b. leads_cond s Q h.writes _ _ (λ _. stores_to_h (s.note o).frame o i v)
      (λ _. Written k h e (ap (λ (n : ℕ). slice_set p.holds k (Some (record { object = n; writes = true }))) (sym (equal h.object o b))) (keeps_count s (Clears o) refl)))
      (λ _. tt)

  leaves_h : (k : ℕ) (x : Option Hold) → hold_at p.holds k ≡ x → Leads s Q (leaves_by g p k x)
  leaves_h k None e = same _ refl
  leaves_h k (Some h) e = Closed k h e refl (closes_count s h)

  ends_h : (x : Option (ℕ × Hold)) → first_hold p.holds ≡ x → Leads s Q (ends_by g p a x)
  ends_h None e = grows_h
  ends_h (Some q) e = closes_h q.0 q.1 (first_at p.holds q e)

  ready_h : (x : Touch) → IsNext g p x → Leads s Q (ready g s p a x)
  ready_h touch.Plain is = grows_h
  ready_h (touch.Hints w) is = same _ refl
  ready_h (touch.Aims k w) is = leads_cond s Q (nat_lt k (length p.holds)) _ _ (λ l. aims_h k w (less k (length p.holds) l) is) (λ _. tt)
  ready_h (touch.Loads k x) is = loads_h (hold_at p.holds k) (object_of g p x) (x.index % g.size)
  ready_h (touch.Stores k x v) is = stores_h k (hold_at p.holds k) (object_of g p x) (x.index % g.size) v refl
  ready_h (touch.Leaves k) is = leaves_h k (hold_at p.holds k) refl
  ready_h (touch.Allocs cells) is = leads_cond s Q (nat_le (next_free g p + pieces g.size cells) g.limit) _ _ (λ _. grows_h) (λ _. same _ refl)
  ready_h touch.Ends is = ends_h (first_hold p.holds) refl
  ready_h touch.Wrong is = tt
  ready_h touch.Nothing is = tt

  seeks_h : (o : ℕ) (c : Choice) → Leads s Q (seeks g p o c)
  seeks_h o choice.Next = tt
  seeks_h o (choice.Begin v) = tt
  seeks_h o (choice.Look f) = same p refl
  seeks_h o (choice.Claim f) =
      let c : Call = Claims g.mover o f in
      chosen (act s c) (holds ((act s c).hand g.mover).claimed f) _ _ (by_call c _ refl refl) (by_call c _ refl refl)
  seeks_h o (choice.Mark v f) =
      let c : Call = Marks g.mover v f in
      chosen (act s c) (holds ((act s c).hand g.mover).leaving v) _ _ (by_call c _ refl refl) (by_call c _ refl refl)
  seeks_h o (choice.Leave v f) =
      let c : Call = Leaves g.mover v f in
      chosen (act s c) (holds ((act s c).hand g.mover).freed f) _ _ (by_call c _ refl refl) (by_call c _ refl refl)

  missing_h : (o : ℕ) → Leads s Q (Calls (Begins g.mover o (s.note o).count true) (began g p o))
  missing_h o =
      let c : Call = Begins g.mover o (s.note o).count true in
      let t : State = act s c in
      chosen t (holds (t.hand g.mover).bringing o) _ _ (by_call c _ refl refl) (chosen t (known (t.note o).frame) _ _ (by_call c _ refl refl) (by_call c _ refl refl))

  fills_h : (o f : ℕ) (words : List ℕ) (k : ℕ) → Leads s Q (program_brings g p a (fetching.Filling o f words k))
  fills_h o f words k = leads_cond s Q (nat_lt k g.size) _ _ (λ _. by_call (Fills g.mover f k (listed words k)) _ refl refl) (λ _. by_call (Arrives g.mover o f true) _ refl refl)

  evicts_h : (o : ℕ) (d : Eviction) → Leads s Q (evicts g.size g.mover a d (λ x. in_mode p (Evicting o x)) (in_mode p (Bringing o)) (in_mode p (Retreating o)))
  evicts_h o (Copying v f words) = leads_cond s Q (nat_lt (length words) g.size) _ _
      (λ _. by_call (Copies g.mover f (length words)) _ refl refl) (λ _. by_call (Puts g.mover v (put_of a.stored words)) _ refl refl)
  evicts_h o (Stored v f) = by_call (Commits g.mover v f) _ refl refl
  evicts_h o (NotStored v f) = by_call (Aborts g.mover v f) _ refl refl
  evicts_h o (Refused v f) = by_call (Aborts g.mover v f) _ refl refl
  evicts_h o (Freed f) = by_call (Releases g.mover f) _ refl refl

  closed_h : (k : ℕ) (h : Hold) (x : Option (ℕ × Hold)) → hold_at p.holds k ≡ Some h → Q (act s (Closes h.object)) (closed_so (holding p k None) x)
  closed_h k h None e = Closed k h e refl (closes_count s h)
  closed_h k h (Some q) e = Closed k h e refl (closes_count s h)

  closing_h : (x : Option (ℕ × Hold)) → first_hold p.holds ≡ x → Leads s Q (gives_up p x)
  closing_h None e = same _ refl
  closing_h (Some q) e = closed_h q.0 q.1 (first_hold (holding p q.0 None).holds) (first_at p.holds q e)

  pub mode_h : (y : Mode) (c : Choice) → Leads s Q (by_mode g s p y c a)
  mode_h Ready c = leads_next s Q c _ (leads_cond s Q (is_blocked p.core) NotEnabled (ready g s p a (next_touch g p)) (λ _. tt) (λ b. ready_h (next_touch g p) (refl, b)))
  mode_h (Missing o) c = leads_next s Q c _ (missing_h o)
  mode_h (Bringing o) c = seeks_h o c
  mode_h (Reading o f) c = leads_next s Q c _ (same _ refl)
  mode_h (Filling o f words k) c = leads_next s Q c _ (fills_h o f words k)
  mode_h (Evicting o d) c = leads_next s Q c _ (evicts_h o d)
  mode_h (Releasing o f) c = leads_next s Q c _ (by_call (Unclaims g.mover f) _ refl refl)
  mode_h (Retreating o) c = leads_next s Q c _ (by_call (Retreats g.mover o) _ refl refl)
  mode_h Closing c = leads_next s Q c _ (closing_h (first_hold p.holds) refl)
  mode_h (Wanted w) c = tt

-- moving an object out opens and closes nothing
pub evicts_counts : {A : Type 0} (n : ℕ) (s : State) (m : ℕ) (a : Answer) (go : Eviction → A) (done failed : A) (d : Eviction) → Leads s (λ t x. CountsStay s t) (evicts n m a d go done failed)
evicts_counts n s m a go done failed (Copying o f words) = leads_cond s (λ t x. CountsStay s t) (nat_lt (length words) n) _ _
    (λ _. keeps_count s (Copies m f (length words)) refl) (λ _. keeps_count s (Puts m o (put_of a.stored words)) refl)
evicts_counts n s m a go done failed (Stored o f) = keeps_count s (Commits m o f) refl
evicts_counts n s m a go done failed (NotStored o f) = keeps_count s (Aborts m o f) refl
evicts_counts n s m a go done failed (Refused o f) = keeps_count s (Aborts m o f) refl
evicts_counts n s m a go done failed (Freed f) = keeps_count s (Releases m f) refl

-- ---- what the scopes hold

pub record Holds1 (g : Setting) (s : State) (p : Program) : Type 0 where
  pub own : (k : ℕ) (h : Hold) → hold_at p.holds k ≡ Some h → InShare g h.object
  pub counted : (o : ℕ) → InShare g o → (s.note o).count ≡ count_of o p.holds

own_set : (g : Setting) (hs : List (Option Hold)) (k : ℕ) (x : Option Hold) → k < length hs → ((h : Hold) → x ≡ Some h → InShare g h.object) → ((j : ℕ) (h : Hold) → hold_at hs j ≡ Some h → InShare g h.object)
    → (j : ℕ) (h : Hold) → hold_at (slice_set hs k x) j ≡ Some h → InShare g h.object
own_set g hs k x l here there j h e = elim (same_or j k) [
  | inl i ↦ here h (sym (get_or-set_same hs k x None l) ∙ (ap (hold_at (slice_set hs k x)) (sym i) ∙ e))
  | inr d ↦ there j h (sym (get_or-set_other hs k j x None d) ∙ e)
]

pub holds_on : (g : Setting) (s : State) (p : Program) (t : State) (q : Program) → Holds1 g s p → Held g s p t q → Holds1 g t q
holds_on g s p t q is (Kept e stay) = record {
  own = subst (λ (hs : List (Option Hold)). (k : ℕ) (h : Hold) → hold_at hs k ≡ Some h → InShare g h.object) (sym e) is.own;
  counted = λ o b. stay o ∙ (is.counted o b ∙ ap (count_of o) (sym e));
}
holds_on g s p t q is (Opened k h l none share e more) = record {
  own = subst (λ (hs : List (Option Hold)). (k : ℕ) (h : Hold) → hold_at hs k ≡ Some h → InShare g h.object) (sym e)
      (own_set g p.holds k (Some h) l (λ x i. let same : h ≡ x = (let z : Some h ≡ Some x = i in cc) in subst (λ (y : Hold). InShare g y.object) same share) is.own);
  counted = λ o b.
      let a : count_of o (slice_set p.holds k (Some h)) + one o (hold_at p.holds k) ≡ count_of o p.holds + one o (Some h) = count_set o p.holds k (Some h) l in
      let c : one o (hold_at p.holds k) ≡ 0 = ap (one o) none in
      let d : count_of o q.holds ≡ count_of o (slice_set p.holds k (Some h)) = ap (count_of o) e in
      let m : (t.note o).count ≡ (s.note o).count + one o (Some h) = more o in
      let i : (s.note o).count ≡ count_of o p.holds = is.counted o b in
      omega arith;
}
holds_on g s p t q is (Closed k h there e less) = record {
  own = subst (λ (hs : List (Option Hold)). (k : ℕ) (h : Hold) → hold_at hs k ≡ Some h → InShare g h.object) (sym e) (own_set g p.holds k None (hold_there p.holds k h there) (λ x i. cc) is.own);
  counted = λ o b.
      let a : count_of o (slice_set p.holds k None) + one o (hold_at p.holds k) ≡ count_of o p.holds + 0 = count_set o p.holds k None (hold_there p.holds k h there) in
      let c : one o (hold_at p.holds k) ≡ one o (Some h) = ap (one o) there in
      let d : count_of o q.holds ≡ count_of o (slice_set p.holds k None) = ap (count_of o) e in
      let m : (t.note o).count ≡ (s.note o).count - one o (Some h) = less o in
      let i : (s.note o).count ≡ count_of o p.holds = is.counted o b in
      omega arith;
}
holds_on g s p t q is (Written k h there e stay) =
    let x : Hold = record { object = h.object; writes = true } in
    record {
      own = subst (λ (hs : List (Option Hold)). (k : ℕ) (h : Hold) → hold_at hs k ≡ Some h → InShare g h.object) (sym e)
          (own_set g p.holds k (Some x) (hold_there p.holds k h there) (λ y i. let same : x ≡ y = (let z : Some x ≡ Some y = i in cc) in subst (λ (y : Hold). InShare g y.object) same (is.own k h there)) is.own);
      counted = λ o b.
          let a : count_of o (slice_set p.holds k (Some x)) + one o (hold_at p.holds k) ≡ count_of o p.holds + one o (Some x) = count_set o p.holds k (Some x) (hold_there p.holds k h there) in
          let c : one o (hold_at p.holds k) ≡ one o (Some x) = ap (one o) there in
          let d : count_of o q.holds ≡ count_of o (slice_set p.holds k (Some x)) = ap (count_of o) e in
          let m : (t.note o).count ≡ (s.note o).count = stay o in
          let i : (s.note o).count ≡ count_of o p.holds = is.counted o b in
          omega arith;
    }

-- the counts of objects outside the share stay
pub counts_outside : (g : Setting) (s : State) (p : Program) (t : State) (q : Program) → Holds1 g s p → Held g s p t q → (o : ℕ) → (InShare g o → ⊥) → (t.note o).count ≡ (s.note o).count
counts_outside g s p t q is (Kept e stay) o out = stay o
counts_outside g s p t q is (Opened k h l none share e more) o out =
    let c : one o (Some h) ≡ 0 = one_other h o (λ i. out (subst (InShare g) (sym i) share)) in
    let m : (t.note o).count ≡ (s.note o).count + one o (Some h) = more o in
    omega arith
counts_outside g s p t q is (Closed k h there e less) o out =
    let c : one o (Some h) ≡ 0 = one_other h o (λ i. out (subst (InShare g) (sym i) (is.own k h there))) in
    let m : (t.note o).count ≡ (s.note o).count - one o (Some h) = less o in
    omega arith
counts_outside g s p t q is (Written k h there e stay) o out = stay o
