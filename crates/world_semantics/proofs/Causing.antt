-- each want has its cause
use Rattle.std.proofs.Common.{◌≡◌, ◌≢◌, ◌⊎◌, inl, inr, ℕ, ◌+◌, ◌<◌, ◌≤◌, Bool, true, false, cond, not, ◌&&◌, List, [], ◌∷◌, length, Option, Some, None, refl, sym, ap, subst, arith}
use Rattle.std.specs.Prelude.{◌==◌, ◌%◌, nat_lt, nat_le}
use Rattle.std.proofs.lemmas.Bool.Decides.{nat_tests}
use Rattle.cells.specs.declared.ending.Want.{Want}
use Rattle.cells.specs.declared.ending.Want.TheVariants.{OutOfMemory, NoObjects, StoreFailed}
use Rattle.code_form.specs.declared.touch.Touch.{Touch}
use Rattle.code_form.specs.declared.touch.Touch.TheVariants as touch
use Rattle.code_form.specs.Code.{is_blocked}
use Rattle.code_form.specs.Form.{Image}
use Rattle.code_form.specs.Placed.{pieces}
use Rattle.pointer_word.specs.Hands.{known, upd}
use Rattle.pointer_word.specs.Machine.{Far, Never, Kept, Unknown, State}
use Rattle.pointer_word.specs.Calls.{Opens, Closes, Begins, Claims, Marks, Commits, Leaves, act}
use Rattle.pointer_word.specs.Legal.{holds}
use Rattle.pointer_word.proofs.Upd.{upd-same, upd-other, same_or}
use Rattle.world_semantics.specs.declared.event.Actor.{Actor}
use Rattle.world_semantics.specs.declared.event.Actor.TheVariants as actor
use Rattle.world_semantics.specs.declared.event.Choice.{Choice}
use Rattle.world_semantics.specs.declared.event.Choice.TheVariants as choice
use Rattle.world_semantics.specs.Fetchers as fetching
use Rattle.world_semantics.specs.Fetchers.{Fetching, as_mode}
use Rattle.world_semantics.specs.Programs.{Eviction, Copying, Stored, NotStored, Refused, Freed, Hold, Mode, Ready, Missing, Bringing, Reading, Filling, Evicting, Releasing, Retreating, Closing, Wanted, Program, Setting, next_touch, object_of, object_or_none, next_free, hold_at, holding, in_mode, first_hold, may_grow, rest_of}
use Rattle.world_semantics.specs.Turns.{Answer, NotEnabled, Calls, taken, put_so, committed_so, evicts, grows, closes, aims_at, loads_from, loads_by, stores_to, stores_by, leaves_by, ends_by, ready, began, to_fill, seeks, read_so, program_brings, closed_so, gives_up, by_mode, program_turn}
use Rattle.world_semantics.specs.Worlds.{Sizes, World, Event, Follows, setting, start, in_range, is_actor, with_program, with_evacuator, with_fetcher, acted, event}
use Rattle.world_semantics.specs.Causes.{HasFailed, IsRefused, IsCaused, CauseOf, LeadsTo, HasCause}
use Rattle.world_semantics.proofs.Going.{Leads, leads_cond, leads_next}
use Rattle.world_semantics.proofs.Reached.{leads_taken}
use Rattle.world_semantics.proofs.Stepping.{enabled}

both : (a b : Bool) → (a && b) ≡ true → (a ≡ true) × (b ≡ true)
both true b e = (refl, e)
both false b e = cc

not_true : (b : Bool) → not b ≡ true → b ≡ false
not_true true e = cc
not_true false e = refl

less : (a b : ℕ) → nat_le a b ≡ false → b < a
less a b e = grind (arith, nat_tests)

not_less : (a b : ℕ) → nat_lt a b ≡ false → b ≤ a
not_less a b e = grind (arith, nat_tests)

module _ (g : Setting) (s : State) (p : Program) (a : Answer) where
  abbrev Q : State → Program → Type 0
  Q t q = IsCaused g p a q.mode

  chosen : (t : State) (b : Bool) (x y : Program) → (b ≡ true → Q t x) → (b ≡ false → Q t y) → Q t (cond b x y)
  chosen t true x y e f = e refl
  chosen t false x y e f = f refl

  grows_so : Q s (grows g p a)
  grows_so = chosen s (not a.grew && may_grow (next_touch g p) (rest_of p.core)) _ _ (λ e. let b = both (not a.grew) _ e in (not_true a.grew b.0, b.1)) (λ _. tt)

  closes_so : (k : ℕ) (x : Hold) → p.mode ≡ Ready → Leads s Q (closes p k x)
  closes_so k x e = subst (IsCaused g p a) (sym e) tt

  aims_so : (k : ℕ) (h : Option Hold) (w : Option ℕ) → p.mode ≡ Ready → Leads s Q (aims_at g p k h w)
  aims_so k None None e = tt
  aims_so k None (Some o) e = chosen (act s (Opens o)) (known ((act s (Opens o)).note o).frame) _ _ (λ _. tt) (λ _. tt)
  aims_so k (Some h) None e = closes_so k h e
  aims_so k (Some h) (Some o) e = leads_cond s Q (h.object == o) _ _ (λ _. tt) (λ _. closes_so k h e)

  loads_from_so : (f : Option ℕ) (i : ℕ) → Leads s Q (loads_from g s p f i)
  loads_from_so None i = tt
  loads_from_so (Some f) i = tt

  loads_so : (h : Option Hold) (o i : ℕ) → Leads s Q (loads_by g s p h o i)
  loads_so None o i = tt
  loads_so (Some h) o i = leads_cond s Q (h.object == o) _ _ (λ _. loads_from_so (s.note o).frame i) (λ _. tt)

  stores_to_so : (f : Option ℕ) (o i v : ℕ) → Leads s Q (stores_to g p f o i v)
  stores_to_so None o i v = tt
  stores_to_so (Some f) o i v = tt

  stores_so : (k : ℕ) (h : Option Hold) (o i v : ℕ) → p.mode ≡ Ready → Leads s Q (stores_by g s p k h o i v)
  stores_so k None o i v e = tt
  stores_so k (Some h) o i v e = leads_cond s Q (h.object == o) _ _ (λ _. leads_cond s Q h.writes _ _ (λ _. stores_to_so (s.note o).frame o i v) (λ _. subst (IsCaused g p a) (sym e) tt)) (λ _. tt)

  leaves_so : (k : ℕ) (h : Option Hold) → Leads s Q (leaves_by g p k h)
  leaves_so k None = tt
  leaves_so k (Some h) = tt

  ends_so : (q : Option (ℕ × Hold)) → p.mode ≡ Ready → Leads s Q (ends_by g p a q)
  ends_so None e = grows_so
  ends_so (Some q) e = closes_so q.0 q.1 e

  ready_so : (x : Touch) → next_touch g p ≡ x → p.mode ≡ Ready → Leads s Q (ready g s p a x)
  ready_so touch.Plain is e = grows_so
  ready_so (touch.Hints w) is e = tt
  ready_so (touch.Aims k w) is e = leads_cond s Q (nat_lt k (length p.holds)) _ _ (λ _. aims_so k (hold_at p.holds k) (object_or_none g p w) e) (λ _. tt)
  ready_so (touch.Loads k x) is e = loads_so (hold_at p.holds k) (object_of g p x) (x.index % g.size)
  ready_so (touch.Stores k x v) is e = stores_so k (hold_at p.holds k) (object_of g p x) (x.index % g.size) v e
  ready_so (touch.Leaves k) is e = leaves_so k (hold_at p.holds k)
  ready_so (touch.Allocs cells) is e =
      leads_cond s Q (nat_le (next_free g p + pieces g.size cells) g.limit) _ _ (λ _. grows_so) (λ f. (cells, is, less (next_free g p + pieces g.size cells) g.limit f))
  ready_so touch.Ends is e = ends_so (first_hold p.holds) e
  ready_so touch.Wrong is e = tt
  ready_so touch.Nothing is e = tt

  -- what leads to StoreFailed goes on from such a mode
  failed : (y : Mode) → p.mode ≡ y → HasFailed y → HasFailed p.mode ⊎ IsRefused g.size p.mode a
  failed y e is = inl (subst HasFailed (sym e) is)

  refused : (y : Mode) → p.mode ≡ y → IsRefused g.size y a → HasFailed p.mode ⊎ IsRefused g.size p.mode a
  refused y e is = inr (subst (λ (m : Mode). IsRefused g.size m a) (sym e) is)

  missing_so : (o : ℕ) → p.mode ≡ Missing o → Leads s Q (Calls (Begins g.mover o (s.note o).count true) (began g p o))
  missing_so o e =
      let t : State = act s (Begins g.mover o (s.note o).count true) in
      chosen t (holds (t.hand g.mover).bringing o) _ _ (λ _. tt) (λ _. chosen t (known (t.note o).frame) _ _ (λ _. tt) (λ _. tt))

  fill_so : (o f : ℕ) (y : Far) → IsCaused g p a (as_mode (to_fill o f y))
  fill_so o f Never = tt
  fill_so o f (Kept words) = tt
  fill_so o f Unknown = tt

  seeks_so : (o : ℕ) (c : Choice) → p.mode ≡ Bringing o → Leads s Q (seeks g p o c)
  seeks_so o choice.Next e = tt
  seeks_so o (choice.Begin v) e = tt
  seeks_so o (choice.Look f) e = subst (IsCaused g p a) (sym e) tt
  seeks_so o (choice.Claim f) e =
      let t : State = act s (Claims g.mover o f) in
      chosen t (holds (t.hand g.mover).claimed f) _ _ (λ _. fill_so o f (t.far o)) (λ _. subst (IsCaused g p a) (sym e) tt)
  seeks_so o (choice.Mark v f) e =
      let t : State = act s (Marks g.mover v f) in
      chosen t (holds (t.hand g.mover).leaving v) _ _ (λ _. tt) (λ _. subst (IsCaused g p a) (sym e) tt)
  seeks_so o (choice.Leave v f) e =
      let t : State = act s (Leaves g.mover v f) in
      chosen t (holds (t.hand g.mover).freed f) _ _ (λ _. tt) (λ _. subst (IsCaused g p a) (sym e) tt)

  read_caused : (o f : ℕ) (read : Option (List ℕ)) → a.read ≡ read → p.mode ≡ Reading o f → Q s (in_mode p (as_mode (read_so o f read)))
  read_caused o f None r e = refused (Reading o f) e r
  read_caused o f (Some words) r e = tt

  put_caused : (o v f : ℕ) (words : List ℕ) (stored : Bool) → a.stored ≡ stored → g.size ≤ length words → p.mode ≡ Evicting o (Copying v f words) → IsCaused g p a (Evicting o (put_so stored v f))
  put_caused o v f words true r l e = tt
  put_caused o v f words false r l e = refused (Evicting o (Copying v f words)) e (l, r)

  commit_caused : (o v f : ℕ) (b : Bool) → IsCaused g p a (Evicting o (committed_so b v f))
  commit_caused o v f true = tt
  commit_caused o v f false = tt

  evicts_so : (o : ℕ) (d : Eviction) → p.mode ≡ Evicting o d
      → Leads s Q (evicts g.size g.mover a d (λ x. in_mode p (Evicting o x)) (in_mode p (Bringing o)) (in_mode p (Retreating o)))
  evicts_so o (Copying v f words) e = leads_cond s Q (nat_lt (length words) g.size) _ _ (λ _. tt) (λ l. put_caused o v f words a.stored refl (not_less (length words) g.size l) e)
  evicts_so o (Stored v f) e = commit_caused o v f (known ((act s (Commits g.mover v f)).hand g.mover).freed)
  evicts_so o (NotStored v f) e = failed (Evicting o (NotStored v f)) e tt
  evicts_so o (Refused v f) e = tt
  evicts_so o (Freed f) e = tt

  fills_so : (o f : ℕ) (words : List ℕ) (k : ℕ) → Leads s Q (program_brings g p a (fetching.Filling o f words k))
  fills_so o f words k = leads_cond s Q (nat_lt k g.size) _ _ (λ _. tt) (λ _. tt)

  closed_caused : (t : State) (r : Program) (q : Option (ℕ × Hold)) → r.mode ≡ Closing → p.mode ≡ Closing → Q t (closed_so r q)
  closed_caused t r None m e = failed Closing e tt
  closed_caused t r (Some q) m e = subst (IsCaused g p a) (sym m) (failed Closing e tt)

  closing_so : (q : Option (ℕ × Hold)) → p.mode ≡ Closing → Leads s Q (gives_up p q)
  closing_so None e = failed Closing e tt
  closing_so (Some q) e = closed_caused (act s (Closes q.1.object)) (holding p q.0 None) (first_hold (holding p q.0 None).holds) e e

  mode_so : (y : Mode) → p.mode ≡ y → (c : Choice) → Leads s Q (by_mode g s p y c a)
  mode_so Ready e c = leads_next s Q c _ (leads_cond s Q (is_blocked p.core) NotEnabled (ready g s p a (next_touch g p)) (λ _. tt) (λ _. ready_so (next_touch g p) refl e))
  mode_so (Missing o) e c = leads_next s Q c _ (missing_so o e)
  mode_so (Bringing o) e c = seeks_so o c e
  mode_so (Reading o f) e c = leads_next s Q c _ (read_caused o f a.read refl e)
  mode_so (Filling o f words k) e c = leads_next s Q c _ (fills_so o f words k)
  mode_so (Evicting o d) e c = leads_next s Q c _ (evicts_so o d e)
  mode_so (Releasing o f) e c = leads_next s Q c _ (failed (Releasing o f) e tt)
  mode_so (Retreating o) e c = leads_next s Q c _ (failed (Retreating o) e tt)
  mode_so Closing e c = leads_next s Q c _ (closing_so (first_hold p.holds) e)
  mode_so (Wanted w) e c = tt

-- the mode tells that the want has had its cause
abbrev pub Tells : Want → Mode → Type 0
Tells OutOfMemory m = m ≡ Wanted OutOfMemory
Tells NoObjects m = m ≡ Wanted NoObjects
Tells StoreFailed m = HasFailed m

-- an event of a program's own has its cause
pub turn_caused : (g : Setting) (s : State) (p : Program) (c : Choice) (a : Answer) (r : State × Program) → taken g.size s (program_turn g s p c a) ≡ Some r → IsCaused g p a r.1.mode
turn_caused g s p c a r e = leads_taken g.size s (λ (t : State) (y : Program). IsCaused g p a y.mode) (program_turn g s p c a) r e (mode_so g s p a p.mode refl c)

from_caused : (g : Setting) (p : Program) (a : Answer) (y : Mode) → IsCaused g p a y → HasFailed y → HasFailed p.mode ⊎ IsRefused g.size p.mode a
from_caused g p a (Evicting o (NotStored v f)) is has = is
from_caused g p a (Evicting o (Copying v f words)) is has = absurd has
from_caused g p a (Evicting o (Stored v f)) is has = absurd has
from_caused g p a (Evicting o (Refused v f)) is has = absurd has
from_caused g p a (Evicting o (Freed f)) is has = absurd has
from_caused g p a (Releasing o f) is has = is
from_caused g p a (Retreating o) is has = is
from_caused g p a Closing is has = is
from_caused g p a (Wanted StoreFailed) is has = is
from_caused g p a (Wanted OutOfMemory) is has = absurd has
from_caused g p a (Wanted NoObjects) is has = absurd has
from_caused g p a Ready is has = absurd has
from_caused g p a (Missing o) is has = absurd has
from_caused g p a (Bringing o) is has = absurd has
from_caused g p a (Reading o f) is has = absurd has
from_caused g p a (Filling o f words k) is has = absurd has

-- what led to a mode that tells it is the cause, or it was told before
pub one_caused : (want : Want) (g : Setting) (p : Program) (a : Answer) (y : Mode) → IsCaused g p a y → Tells want y → Tells want p.mode ⊎ CauseOf g want p a
one_caused OutOfMemory g p a y is so = inr (subst (IsCaused g p a) so is)
one_caused NoObjects g p a y is so = inr (subst (IsCaused g p a) so is)
one_caused StoreFailed g p a y is so = from_caused g p a y is so

pub leads_to : (want : Want) (m : Mode) → Tells want m → LeadsTo want m
leads_to OutOfMemory m so = so
leads_to NoObjects m so = so
leads_to StoreFailed m so = tt

pub nothing_yet : (want : Want) → Tells want Ready → ⊥
nothing_yet OutOfMemory so = cc
nothing_yet NoObjects so = cc
nothing_yet StoreFailed so = so

pub tells : (want : Want) (y : Mode) → y ≡ Wanted want → Tells want y
tells OutOfMemory y e = e
tells NoObjects y e = e
tells StoreFailed y e = subst HasFailed (sym e) tt

-- ---- events

module _ (z : Sizes) (images : ℕ → Image) where
  by_program : (w u : World) (k : ℕ) (c : Choice) (a : Answer) (x : Option (State × Program))
      → taken z.cells w.lock (program_turn (setting z images k) w.lock (w.programs k) c a) ≡ x → with_program w k x ≡ Some u → IsCaused (setting z images k) (w.programs k) a (u.programs k).mode
  by_program w u k c a None e q = cc
  by_program w u k c a (Some r) e q =
      let g = setting z images k in
      let p = w.programs k in
      let v : World = record w { lock = r.0; programs = upd w.programs k r.1 } in
      let same : v ≡ u = (let s : Some v ≡ Some u = q in cc) in
      subst (λ (y : World). IsCaused g p a (y.programs k).mode) same
      (subst (λ (y : Program). IsCaused g p a y.mode) (sym (upd-same w.programs k r.1 k refl))
      (turn_caused g w.lock p c a r e))

  pub caused : (w u : World) (e : Event) (k : ℕ) → event z images w e ≡ Some u → e.actor ≡ actor.Program k → IsCaused (setting z images k) (w.programs k) e.answer (u.programs k).mode
  caused w u e k b own =
      let there = (enabled (is_actor z e.actor && in_range z e.choice) (acted z images w e.actor e.choice e.answer) u b).1 in
      by_program w u k e.choice e.answer _ refl (subst (λ (who : Actor). acted z images w who e.choice e.answer ≡ Some u) own there)

  by_other : (w u : World) (j k : ℕ) → k ≢ j → (x : Option (State × Program)) → with_program w j x ≡ Some u → u.programs k ≡ w.programs k
  by_other w u j k d None q = cc
  by_other w u j k d (Some r) q =
      let v : World = record w { lock = r.0; programs = upd w.programs j r.1 } in
      let same : v ≡ u = (let s : Some v ≡ Some u = q in cc) in
      subst (λ (y : World). y.programs k ≡ w.programs k) same (upd-other w.programs j r.1 k d)

  by_evacuator : (w u : World) (j k : ℕ) (x : Option (State × Option Eviction)) → with_evacuator w j x ≡ Some u → u.programs k ≡ w.programs k
  by_evacuator w u j k None q = cc
  by_evacuator w u j k (Some r) q =
      let v : World = record w { lock = r.0; evacuators = upd w.evacuators j r.1 } in
      let same : v ≡ u = (let s : Some v ≡ Some u = q in cc) in
      subst (λ (y : World). y.programs k ≡ w.programs k) same refl

  by_fetcher : (w u : World) (j k : ℕ) (x : Option (State × Option Fetching)) → with_fetcher w j x ≡ Some u → u.programs k ≡ w.programs k
  by_fetcher w u j k None q = cc
  by_fetcher w u j k (Some r) q =
      let v : World = record w { lock = r.0; fetchers = upd w.fetchers j r.1 } in
      let same : v ≡ u = (let s : Some v ≡ Some u = q in cc) in
      subst (λ (y : World). y.programs k ≡ w.programs k) same refl

  -- an event of another leaves the program
  other_program : (w u : World) (who : Actor) (c : Choice) (a : Answer) (k : ℕ) → acted z images w who c a ≡ Some u → (who ≡ actor.Program k) ⊎ (u.programs k ≡ w.programs k)
  other_program w u (actor.Program j) c a k e = elim (same_or k j) [ inl d ↦ inl (ap actor.Program (sym d)) | inr d ↦ inr (by_other w u j k d _ e) ]
  other_program w u (actor.Evacuator j) c a k e = inr (by_evacuator w u j k _ e)
  other_program w u (actor.Fetcher j) c a k e = inr (by_fetcher w u j k _ e)

  one : (want : Want) (w u : World) (e : Event) (k : ℕ) → event z images w e ≡ Some u → Tells want (u.programs k).mode
      → Tells want (w.programs k).mode ⊎ ((e.actor ≡ actor.Program k) × CauseOf (setting z images k) want (w.programs k) e.answer)
  one want w u e k b so =
      let there = (enabled (is_actor z e.actor && in_range z e.choice) (acted z images w e.actor e.choice e.answer) u b).1 in
      elim (other_program w u e.actor e.choice e.answer k there) [
        | inl own ↦ elim (one_caused want (setting z images k) (w.programs k) e.answer (u.programs k).mode (caused w u e k b own) so) [ inl f ↦ inl f | inr r ↦ inr (own, r) ]
        | inr same ↦ inl (subst (λ (y : Program). Tells want y.mode) same so)
      ]

  some_caused : (h : Type 0) (k : ℕ) (want : Want) (w v : World) (es : List Event) → Follows h z images w es v → Tells want (v.programs k).mode → Tells want (w.programs k).mode ⊎ HasCause h z images k want w es
  some_caused h k want w v [] f so = inl (subst (λ (y : World). Tells want (y.programs k).mode) f so)
  some_caused h k want w v (e ∷ es) f so = elim (some_caused h k want f.0 v es f.3 so) [
    | inl there ↦ elim (one want w f.0 e k f.1 there) [
      | inl here ↦ inl here
      | inr r ↦ inr (record { before = []; event = e; after = es; at = w; next = f.0; among = refl; follows = refl; own = r.0; cause = r.1; happens = f.1; leads = leads_to want (f.0.programs k).mode there })
    ]
    | inr r ↦ inr (record { before = e ∷ r.before; event = r.event; after = r.after; at = r.at; next = r.next; among = ap (λ ys. e ∷ ys) r.among; follows = (f.0, f.1, f.2, r.follows); own = r.own; cause = r.cause; happens = r.happens; leads = r.leads })
  ]

  has_cause : (h : Type 0) (k : ℕ) (want : Want) (v : World) (es : List Event) → Follows h z images (start images) es v → Tells want (v.programs k).mode → HasCause h z images k want (start images) es
  has_cause h k want v es f so = elim (some_caused h k want (start images) v es f so) [ inl none ↦ absurd (nothing_yet want none) | inr r ↦ r ]

  -- a program that wants something has a cause
  pub wanted : (h : Type 0) (k : ℕ) (want : Want) (v : World) (es : List Event) → Follows h z images (start images) es v → (v.programs k).mode ≡ Wanted want → HasCause h z images k want (start images) es
  wanted h k want v es f m = has_cause h k want v es f (tells want (v.programs k).mode m)

  -- a program in such a mode was refused by the store itself
  pub was_refused : (h : Type 0) (k : ℕ) (v : World) (es : List Event) → Follows h z images (start images) es v → HasFailed (v.programs k).mode → HasCause h z images k StoreFailed (start images) es
  was_refused h k v es f has = has_cause h k StoreFailed v es f has
