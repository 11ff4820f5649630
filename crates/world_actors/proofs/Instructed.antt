-- a program's turns by its next instruction, as code takes them
use Rattle.std.proofs.Common.{◌≡◌, inl, inr, ℕ, ◌+◌, ◌%◌, ◌<◌, ◌≤◌, Bool, true, false, cond, List, length, Option, Some, None, refl, sym, ap, ◌∙◌, subst, arith, eq-eqb}
use Rattle.std.specs.Prelude.{◌==◌, nat_lt, nat_le, option_map, slice_set}
use Rattle.std.proofs.lemmas.Bool.Decides.{eqb_tells, nat_tests}
use Rattle.cells.specs.declared.ending.Want.TheVariants.{OutOfMemory, NoObjects, StoreFailed}
use Rattle.code_form.specs.declared.touch.Cell.{Cell}
use Rattle.code_form.specs.declared.touch.Touch.{Touch}
use Rattle.code_form.specs.declared.touch.Touch.TheVariants as touch
use Rattle.code_form.specs.Code.{allocations_of, effect, is_blocked, sizes}
use Rattle.code_form.specs.Placed.{next_object, pieces, object_at as object_at_cell}
use Rattle.code_form.specs.Touches.{touch_of}
use Rattle.pointer_word.specs.Words.{Word, framed}
use Rattle.pointer_word.specs.Hands.{Note, added, known, opened, upd}
use Rattle.pointer_word.specs.Machine.{State, after_clear, after_close, after_open}
use Rattle.pointer_word.specs.Calls.{Clears, Closes, Opens, Stores}
use Rattle.pointer_word.specs.Legal.{holds, legal}
use Rattle.pointer_word.proofs.Legal.{may_legal}
use Rattle.pointer_word.proofs.Upd.{upd-same}
use Rattle.world_memory.specs.Berths.{Berths}
use Rattle.world_semantics.specs.declared.event.Step.{Step}
use Rattle.world_semantics.specs.declared.event.Step.TheVariants as step
use Rattle.world_actors.specs.declared.program.Mode.TheVariants as m
use Rattle.world_actors.specs.Acting.{Goes, IsProgram, Seated}
use Rattle.world_semantics.specs.declared.hold.Hold.{Hold}
use Rattle.world_semantics.specs.Programs.{Missing, Wanted, Program, Setting, finished as finished_as, first_hold, hold_at, holding, in_mode, may_grow, next_free, object_of, object_or_none, rest_of, next_touch as touch_next}
use Rattle.world_actors.specs.Seats.{Seat, finished, next_touch}
use Rattle.world_memory.specs.Shown.{AreTables, Shown}
use Rattle.world_memory.specs.Tables.{Tables, cell_at, object_at, place_of}
use Rattle.world_semantics.specs.Turns.{Answer, Turn, NotEnabled, Alone, Calls, aims_at, closed_so, closes, ends_by, found, gives_up, grows, leaves_by, loads_by, loads_from, ready, stores_by, stores_to, taken}
use Rattle.world_semantics.specs.Worlds.{Sizes}
use Rattle.world_actors.proofs.Acting.{told_inside}
use Rattle.world_actors.proofs.BroughtIn.{TurnsTo, alone_to, calls_to, held_inside, note_count, program_finished, program_mode, reads_none}
use Rattle.world_memory.proofs.Showing.{history_set}

-- the same turn, said otherwise
pub goes_turn : {A : Type 0} (n : ℕ) (s : State) (turn turn' : Answer → Turn A) (honest : Answer → Type 0) (Q : State → A → Type 0) (same : Type 0) (r : Step) → ((a : Answer) → turn' a ≡ turn a)
    → Goes n s turn honest Q same r → Goes n s turn' honest Q same r
goes_turn n s turn turn' honest Q same step.Took e g = (g.0, g.1, (g.2.0, ap (taken n s) (e g.0) ∙ g.2.1, g.2.2))
goes_turn n s turn turn' honest Q same step.NotEnabled e g = ((λ a. ap (taken n s) (e a) ∙ g.0 a), g.1)

same_object : (h : Hold) (o : ℕ) → h.object ≡ o → (h.object == o) ≡ true
same_object h o e = eq-eqb h.object o e

other_object : (h : Hold) (o : ℕ) → (h.object ≡ o → ⊥) → (h.object == o) ≡ false
other_object h o d = elim (eqb_tells h.object o) [ inl k ↦ absurd (d k.1) | inr k ↦ k.0 ]

-- ---- what a turn is, by what the scope holds

pub loads_held : (g : Setting) (s : State) (p : Program) (y : Option Hold) (h : Hold) (o i : ℕ) → Some h ≡ y → h.object ≡ o → loads_by g s p y o i ≡ loads_from g s p (s.note o).frame i
loads_held g s p y h o i e q = ap (λ k. loads_by g s p k o i) (sym e) ∙ ap (λ b. cond b (loads_from g s p (s.note o).frame i) NotEnabled) (same_object h o q)

pub stores_held : (g : Setting) (s : State) (p : Program) (k : ℕ) (y : Option Hold) (h : Hold) (o i v : ℕ) → Some h ≡ y → h.object ≡ o → h.writes ≡ true
    → stores_by g s p k y o i v ≡ stores_to g p (s.note o).frame o i v
stores_held g s p k y h o i v e q w =
    let clear : Turn Program = Calls (Clears o) (λ t. holding p k (Some (record { object = o; writes = true }))) in
    let there = stores_to g p (s.note o).frame o i v in
    ap (λ j. stores_by g s p k j o i v) (sym e) ∙ (ap (λ b. cond b (cond h.writes there clear) NotEnabled) (same_object h o q) ∙ ap (λ b. cond b there clear) w)

pub stores_first : (g : Setting) (s : State) (p : Program) (k : ℕ) (y : Option Hold) (h : Hold) (o i v : ℕ) → Some h ≡ y → h.object ≡ o → h.writes ≡ false
    → stores_by g s p k y o i v ≡ Calls (Clears o) (λ t. holding p k (Some (record { object = o; writes = true })))
stores_first g s p k y h o i v e q w =
    let clear : Turn Program = Calls (Clears o) (λ t. holding p k (Some (record { object = o; writes = true }))) in
    let there = stores_to g p (s.note o).frame o i v in
    ap (λ j. stores_by g s p k j o i v) (sym e) ∙ (ap (λ b. cond b (cond h.writes there clear) NotEnabled) (same_object h o q) ∙ ap (λ b. cond b there clear) w)

pub leaves_none : (g : Setting) (p : Program) (k : ℕ) (y : Option Hold) → None ≡ y → leaves_by g p k y ≡ Alone (finished_as g p 0)
leaves_none g p k y e = ap (leaves_by g p k) (sym e)

pub aims_same : (g : Setting) (p : Program) (k : ℕ) (y : Option Hold) (w : Option ℕ) (h : Hold) (o : ℕ) → Some h ≡ y → w ≡ Some o → h.object ≡ o → aims_at g p k y w ≡ Alone (finished_as g p 0)
aims_same g p k y w h o e q r = ap (λ j. aims_at g p k j w) (sym e) ∙ (ap (aims_at g p k (Some h)) q ∙ ap (λ b. cond b (Alone (finished_as g p 0)) (closes p k h)) (same_object h o r))

pub aims_other : (g : Setting) (p : Program) (k : ℕ) (y : Option Hold) (w : Option ℕ) (h : Hold) (o : ℕ) → Some h ≡ y → w ≡ Some o → (h.object ≡ o → ⊥) → aims_at g p k y w ≡ closes p k h
aims_other g p k y w h o e q r = ap (λ j. aims_at g p k j w) (sym e) ∙ (ap (aims_at g p k (Some h)) q ∙ ap (λ b. cond b (Alone (finished_as g p 0)) (closes p k h)) (other_object h o r))

pub aims_so : (g : Setting) (p : Program) (k : ℕ) (y y' : Option Hold) (w w' : Option ℕ) → y' ≡ y → w ≡ w' → aims_at g p k y w ≡ aims_at g p k y' w'
aims_so g p k y y' w w' e q = ap (λ j. aims_at g p k j w) (sym e) ∙ ap (aims_at g p k y') q

-- ---- a program with a hold changed

pub program_holding : (x x' : Seat) (p : Program) (k : ℕ) (y : Option Hold) → IsProgram x p → x' ≡ record x { holds = slice_set x.holds k y } → IsProgram x' (holding p k y)
program_holding x x' p k y is e = subst (λ (j : Seat). IsProgram j (holding p k y)) (sym e) (record { core = is.core; holds = ap (λ (l : List (Option Hold)). slice_set l k y) is.holds; mode = is.mode; completed = is.completed })

below_four : (c : ℕ) → c < 4 → nat_lt c 4 ≡ true
below_four c l = grind (arith, nat_tests)

above_zero : (c : ℕ) → 0 < c → nat_lt 0 c ≡ true
above_zero c l = grind (arith, nat_tests)

module _ {C : Type 0} (content : C → Option (List ℕ)) (h : Type 0) (z : Sizes) (t : Tables) (berths : Berths C) (x : Seat) (s : State) (p : Program) (is : Seated content h z t berths x s p) where
  pub close_legal : (o : ℕ) → 0 < (object_at t o).count → legal z.cells s (Closes o) ≡ true
  close_legal o l = above_zero (s.note o).count (subst (λ n. 0 < n) (sym (note_count content h z t berths x s p is o)) l)

  pub closed : (k : ℕ) (y : Hold) (t' : Tables) (x' : Seat) → 0 < (object_at t y.object).count → (Shown z t s → Shown z t' (after_close s y.object)) → x' ≡ record x { holds = slice_set x.holds k None }
      → TurnsTo content h z t berths x s p is (λ a. closes p k y) t' berths x'
  closed k y t' x' l shown same =
      calls_to content h z t berths x s p is (λ a. closes p k y) t' berths x' (Closes y.object) (λ u. holding p k None) refl (close_legal y.object l)
      (record { tables = shown is.shows.tables; far = is.shows.far; many = is.shows.many; objects_few = is.shows.objects_few; frames_few = is.shows.frames_few; size = is.shows.size })
      (program_holding x x' p k None is.program same) (ap (λ (j : Seat). j.setting) same)

  pub left : (k : ℕ) (y : Option Hold) (d : Hold) (t' : Tables) (x1 x' : Seat) → Some d ≡ y → 0 < (object_at t d.object).count → (Shown z t s → Shown z t' (after_close s d.object))
      → x1 ≡ record x { holds = slice_set x.holds k None } → x' ≡ finished x1 0 → TurnsTo content h z t berths x s p is (λ a. leaves_by x.setting p k y) t' berths x'
  left k y d t' x1 x' e l shown one same =
      let setting : x1.setting ≡ x.setting = ap (λ (j : Seat). j.setting) one in
      let now : IsProgram x' (finished_as x.setting (holding p k None) 0) = subst (λ (g : Setting). IsProgram x' (finished_as g (holding p k None) 0)) setting (program_finished x1 x' (holding p k None) 0 (program_holding x x1 p k None is.program one) same) in
      calls_to content h z t berths x s p is (λ a. leaves_by x.setting p k y) t' berths x' (Closes d.object) (λ u. finished_as x.setting (holding p k None) 0) (ap (leaves_by x.setting p k) (sym e)) (close_legal d.object l)
      (record { tables = shown is.shows.tables; far = is.shows.far; many = is.shows.many; objects_few = is.shows.objects_few; frames_few = is.shows.frames_few; size = is.shows.size })
      now (ap (λ (j : Seat). j.setting) same ∙ setting)

  pub cleared : (k o : ℕ) (t' : Tables) (x' : Seat) → 0 < (object_at t o).count → (Shown z t s → o < z.objects → Shown z t' (after_clear s o))
      → x' ≡ record x { holds = slice_set x.holds k (Some (record { object = o; writes = true })) }
      → TurnsTo content h z t berths x s p is (λ a. Calls (Clears o) (λ u. holding p k (Some (record { object = o; writes = true })))) t' berths x'
  cleared k o t' x' l shown same =
      let y : Option Hold = Some (record { object = o; writes = true }) in
      calls_to content h z t berths x s p is (λ a. Calls (Clears o) (λ u. holding p k y)) t' berths x' (Clears o) (λ u. holding p k y) refl (close_legal o l)
      (record { tables = shown is.shows.tables (held_inside content h z t berths x s p is o l); far = is.shows.far; many = is.shows.many; objects_few = is.shows.objects_few; frames_few = is.shows.frames_few; size = is.shows.size })
      (program_holding x x' p k y is.program same) (ap (λ (j : Seat). j.setting) same)

  pub opens : (k o : ℕ) (f : Option ℕ) (t' : Tables) (x1 x' : Seat) → o < x.setting.limit → (object_at t o).count < 4 → (Shown z t s → o < z.objects → Shown z t' (after_open s o))
      → x1 ≡ record x { holds = slice_set x.holds k (Some (record { object = o; writes = false })) } → f ≡ framed (place_of (object_at t o).place)
      → ((q : Program) → IsProgram x1 q → IsProgram x' (cond (known f) (finished_as x1.setting q 0) (in_mode q (Missing o)))) → x'.setting ≡ x1.setting
      → TurnsTo content h z t berths x s p is (λ a. aims_at x.setting p k None (Some o)) t' berths x'
  opens k o f t' x1 x' own l shown one frame told same =
      let y : Option Hold = Some (record { object = o; writes = false }) in
      let q : Program = holding p k y in
      let u : State = after_open s o in
      let setting : x1.setting ≡ x.setting = ap (λ (j : Seat). j.setting) one in
      let place : (s.word o).place ≡ place_of (object_at t o).place = ap (λ (w : Word). w.place) (is.shows.tables.objects o).word in
      let n : Note = opened (s.note o) (framed (s.word o).place) in
      let noted : (u.note o).frame ≡ f = ap (λ (j : Note). j.frame) (upd-same s.note o n o refl) ∙ (ap framed place ∙ sym frame) in
      let goes : found x.setting q o u ≡ cond (known f) (finished_as x.setting q 0) (in_mode q (Missing o)) = ap (λ j. cond (known j) (finished_as x.setting q 0) (in_mode q (Missing o))) noted in
      let now : IsProgram x' (cond (known f) (finished_as x.setting q 0) (in_mode q (Missing o))) = subst (λ (g : Setting). IsProgram x' (cond (known f) (finished_as g q 0) (in_mode q (Missing o)))) setting (told q (program_holding x x1 p k y is.program one)) in
      let room = is.limit in
      calls_to content h z t berths x s p is (λ a. aims_at x.setting p k None (Some o)) t' berths x' (Opens o) (found x.setting q o) refl
      (below_four (s.note o).count (subst (λ c. c < 4) (sym (note_count content h z t berths x s p is o)) l))
      (record { tables = shown is.shows.tables (omega arith); far = is.shows.far; many = is.shows.many; objects_few = is.shows.objects_few; frames_few = is.shows.frames_few; size = is.shows.size })
      (subst (IsProgram x') (sym goes) now) (same ∙ setting)

  pub completed : (x' : Seat) → x' ≡ finished x 0 → TurnsTo content h z t berths x s p is (λ a. Alone (finished_as x.setting p 0)) t berths x'
  completed x' same = alone_to content h z t berths x s p is (λ a. Alone (finished_as x.setting p 0)) x' (finished_as x.setting p 0) refl (program_finished x x' p 0 is.program same) (ap (λ (j : Seat). j.setting) same)

  pub loaded : (o i f v : ℕ) (x' : Seat) → (object_at t o).told ≡ Some f → v ≡ cell_at t f i → x' ≡ finished x v
      → TurnsTo content h z t berths x s p is (λ a. loads_from x.setting s p (s.note o).frame i) t berths x'
  loaded o i f v x' e value same =
      let there : (s.note o).frame ≡ Some f = (is.shows.tables.objects o).told ∙ e in
      let read : s.cell f i ≡ v = is.shows.tables.cells f i ∙ sym value in
      alone_to content h z t berths x s p is (λ a. loads_from x.setting s p (s.note o).frame i) x' (finished_as x.setting p v)
      (ap (λ j. loads_from x.setting s p j i) there ∙ ap (λ n. Alone (finished_as x.setting p n)) read) (program_finished x x' p v is.program same) (ap (λ (j : Seat). j.setting) same)

  holds_true : (y : Option ℕ) (f : ℕ) → y ≡ Some f → holds y f ≡ true
  holds_true y f e = ap (λ j. holds j f) e ∙ eq-eqb f f refl

  pub stored : (o i f v : ℕ) (t' : Tables) (x' : Seat) → (object_at t o).told ≡ Some f → (object_at t o).writing ≡ true
      → (Shown z t s → f < z.frames → AreTables z t' s.word s.note s.frame (upd s.cell f (upd (s.cell f) i v))) → x' ≡ finished x 0
      → TurnsTo content h z t berths x s p is (λ a. stores_to x.setting p (s.note o).frame o i v) t' berths x'
  stored o i f v t' x' e w shown same =
      let there : (s.note o).frame ≡ Some f = (is.shows.tables.objects o).told ∙ e in
      let writing : (s.note o).writing ≡ true = (is.shows.tables.objects o).writing ∙ w in
      let inside = told_inside h z t s o f is.inv is.shows.tables there in
      let can : legal z.cells s (Stores o f i v) ≡ true = may_legal h z.cells s (Stores o f i v) (there, writing) in
      calls_to content h z t berths x s p is (λ a. stores_to x.setting p (s.note o).frame o i v) t' berths x' (Stores o f i v) (λ u. finished_as x.setting p 0) (ap (λ j. stores_to x.setting p j o i v) there) can
      (record {
        tables = history_set z t' s.word s.note s.frame (upd s.cell f (upd (s.cell f) i v)) o (added (s.note o) i v) (shown is.shows.tables inside) refl refl refl;
        far = is.shows.far;
        many = is.shows.many;
        objects_few = is.shows.objects_few;
        frames_few = is.shows.frames_few;
        size = is.shows.size;
      })
      (program_finished x x' p 0 is.program same) (ap (λ (j : Seat). j.setting) same)

  -- ---- what the next instruction touches

  core_is : p.core ≡ x.core
  core_is = is.program.core

  cell_object : (c : Cell) → object_of x.setting p c ≡ object_at_cell x.setting.size x.setting.base (sizes (allocations_of x.core)) c.reference c.index
  cell_object c = ap (λ k. object_at_cell x.setting.size x.setting.base (sizes (allocations_of k)) c.reference c.index) core_is

  wanted_object : (w : Option Cell) → object_or_none x.setting p w ≡ option_map (λ (c : Cell). object_at_cell x.setting.size x.setting.base (sizes (allocations_of x.core)) c.reference c.index) w
  wanted_object None = refl
  wanted_object (Some c) = ap Some (cell_object c)

  held_now : (k : ℕ) → hold_at p.holds k ≡ hold_at x.holds k
  held_now k = ap (λ (l : List (Option Hold)). hold_at l k) is.program.holds

  is_below : (a b : ℕ) → a < b → nat_lt a b ≡ true
  is_below a b l = grind (arith, nat_tests)

  pub aim_turn : (k : ℕ) (w : Option Cell) (o : Option ℕ) (a : Answer) → k < length x.holds → o ≡ option_map (λ (c : Cell). object_at_cell x.setting.size x.setting.base (sizes (allocations_of x.core)) c.reference c.index) w
      → ready x.setting s p a (touch.Aims k w) ≡ aims_at x.setting p k (hold_at x.holds k) o
  aim_turn k w o a l e =
      let there : nat_lt k (length p.holds) ≡ true = ap (λ (y : List (Option Hold)). nat_lt k (length y)) is.program.holds ∙ is_below k (length x.holds) l in
      ap (λ b. cond b (aims_at x.setting p k (hold_at p.holds k) (object_or_none x.setting p w)) NotEnabled) there ∙
      (ap (λ y. aims_at x.setting p k y (object_or_none x.setting p w)) (held_now k) ∙ ap (aims_at x.setting p k (hold_at x.holds k)) (wanted_object w ∙ sym e))

  pub load_turn : (k : ℕ) (c : Cell) (o i : ℕ) (a : Answer) → o ≡ object_at_cell x.setting.size x.setting.base (sizes (allocations_of x.core)) c.reference c.index → i ≡ c.index % x.setting.size
      → ready x.setting s p a (touch.Loads k c) ≡ loads_by x.setting s p (hold_at x.holds k) o i
  load_turn k c o i a e q =
      ap (λ y. loads_by x.setting s p y (object_of x.setting p c) (c.index % x.setting.size)) (held_now k) ∙
      ap (λ y. loads_by x.setting s p (hold_at x.holds k) y (c.index % x.setting.size)) (cell_object c ∙ sym e) ∙ ap (loads_by x.setting s p (hold_at x.holds k) o) (sym q)

  pub store_turn : (k : ℕ) (c : Cell) (v o i : ℕ) (a : Answer) → o ≡ object_at_cell x.setting.size x.setting.base (sizes (allocations_of x.core)) c.reference c.index → i ≡ c.index % x.setting.size
      → ready x.setting s p a (touch.Stores k c v) ≡ stores_by x.setting s p k (hold_at x.holds k) o i v
  store_turn k c v o i a e q =
      ap (λ y. stores_by x.setting s p k y (object_of x.setting p c) (c.index % x.setting.size) v) (held_now k) ∙
      ap (λ y. stores_by x.setting s p k (hold_at x.holds k) y (c.index % x.setting.size) v) (cell_object c ∙ sym e) ∙ ap (λ n. stores_by x.setting s p k (hold_at x.holds k) o n v) (sym q)

  pub leave_turn : (k : ℕ) (a : Answer) → ready x.setting s p a (touch.Leaves k) ≡ leaves_by x.setting p k (hold_at x.holds k)
  leave_turn k a = ap (leaves_by x.setting p k) (held_now k)

  pub end_turn : (q : Option (ℕ × Hold)) (a : Answer) → q ≡ first_hold x.holds → ready x.setting s p a touch.Ends ≡ ends_by x.setting p a q
  end_turn q a e = ap (ends_by x.setting p a) (ap first_hold is.program.holds ∙ sym e)

  -- the next instruction, which isn't blocked
  pub next_turn : (y : Touch) (a : Answer) → is_blocked x.core ≡ false → y ≡ next_touch x → cond (is_blocked p.core) NotEnabled (ready x.setting s p a (touch_next x.setting p)) ≡ ready x.setting s p a y
  next_turn y a b e =
      ap (λ c. cond (is_blocked c) NotEnabled (ready x.setting s p a (touch_of (effect x.setting.image c)))) core_is ∙
      (ap (λ j. cond j NotEnabled (ready x.setting s p a (next_touch x))) b ∙ ap (ready x.setting s p a) (sym e))

  pub goes_on : (x' : Seat) → x' ≡ finished x 0 → TurnsTo content h z t berths x s p is (λ a. Alone (grows x.setting p a)) t berths x'
  goes_on x' same = alone_to content h z t berths x s p is (λ a. Alone (grows x.setting p a)) x' (finished_as x.setting p 0) refl (program_finished x x' p 0 is.program same) (ap (λ (j : Seat). j.setting) same)

  -- memory is refused to an instruction that touches nothing
  pub plain_refused : (x' : Seat) → next_touch x ≡ touch.Plain → may_grow touch.Plain (rest_of x.core) ≡ true → x' ≡ record x { mode = m.Wanted OutOfMemory }
      → TurnsTo content h z t berths x s p is (λ a. Alone (grows x.setting p a)) t berths x'
  plain_refused x' next grow same =
      let a : Answer = record { stored = true; read = None; grew = false } in
      let touches : touch_next x.setting p ≡ touch.Plain = ap (λ c. touch_of (effect x.setting.image c)) core_is ∙ next in
      let q : Program = in_mode p (Wanted OutOfMemory) in
      let f : Program = finished_as x.setting p 0 in
      let grew : grows x.setting p a ≡ q =
      ap (λ y. cond (may_grow y (rest_of p.core)) q f) touches ∙ (ap (λ c. cond (may_grow touch.Plain (rest_of c)) q f) core_is ∙ ap (λ b. cond b q f) grow) in (
        a,
        (λ _. reads_none z.cells s p.mode),
        (
          (s, q),
          ap (taken z.cells s) (ap Alone grew),
          (is.shows, program_mode x x' p (m.Wanted OutOfMemory) (Wanted OutOfMemory) is.program same refl, ap (λ (j : Seat). j.setting) same),
        ),
      )

  -- ---- an allocation

  fits_is : (n cells : ℕ) (b : Bool) → n ≡ next_object x.setting.size x.setting.base (sizes (allocations_of x.core)) → nat_le (n + pieces x.setting.size cells) x.setting.limit ≡ b
      → nat_le (next_free x.setting p + pieces x.setting.size cells) x.setting.limit ≡ b
  fits_is n cells b e q =
      ap (λ k. nat_le (next_object x.setting.size x.setting.base (sizes (allocations_of k)) + pieces x.setting.size cells) x.setting.limit) core_is ∙
      (ap (λ k. nat_le (k + pieces x.setting.size cells) x.setting.limit) (sym e) ∙ q)

  le_true : (a b : ℕ) → a ≤ b → nat_le a b ≡ true
  le_true a b l = grind (arith, nat_tests)

  le_false : (a b : ℕ) → b < a → nat_le a b ≡ false
  le_false a b l = grind (arith, nat_tests)

  pub allocates_so : (n k cells : ℕ) (x' : Seat) → n ≡ next_object x.setting.size x.setting.base (sizes (allocations_of x.core)) → k ≡ pieces x.setting.size cells → n + k ≤ x.setting.limit → x' ≡ finished x 0
      → TurnsTo content h z t berths x s p is (λ a. ready x.setting s p a (touch.Allocs cells)) t berths x'
  allocates_so n k cells x' e many room same =
      alone_to content h z t berths x s p is (λ a. ready x.setting s p a (touch.Allocs cells)) x' (finished_as x.setting p 0)
      (ap (λ b. cond b (Alone (finished_as x.setting p 0)) (Alone (in_mode p (Wanted NoObjects)))) (fits_is n cells true e (le_true (n + pieces x.setting.size cells) x.setting.limit (omega arith))))
      (program_finished x x' p 0 is.program same) (ap (λ (j : Seat). j.setting) same)

  pub allocates_not : (n k cells : ℕ) (x' : Seat) → n ≡ next_object x.setting.size x.setting.base (sizes (allocations_of x.core)) → k ≡ pieces x.setting.size cells → x.setting.limit < n + k
      → x' ≡ record x { mode = m.Wanted NoObjects } → TurnsTo content h z t berths x s p is (λ a. ready x.setting s p a (touch.Allocs cells)) t berths x'
  allocates_not n k cells x' e many room same =
      alone_to content h z t berths x s p is (λ a. ready x.setting s p a (touch.Allocs cells)) x' (in_mode p (Wanted NoObjects))
      (ap (λ b. cond b (Alone (finished_as x.setting p 0)) (Alone (in_mode p (Wanted NoObjects)))) (fits_is n cells false e (le_false (n + pieces x.setting.size cells) x.setting.limit (omega arith))))
      (program_mode x x' p (m.Wanted NoObjects) (Wanted NoObjects) is.program same refl) (ap (λ (j : Seat). j.setting) same)

  -- memory is refused to it
  pub allocates_refused : (n k cells : ℕ) (x' : Seat) → next_touch x ≡ touch.Allocs cells → n ≡ next_object x.setting.size x.setting.base (sizes (allocations_of x.core)) → k ≡ pieces x.setting.size cells → n + k ≤ x.setting.limit
      → x' ≡ record x { mode = m.Wanted OutOfMemory } → TurnsTo content h z t berths x s p is (λ a. ready x.setting s p a (touch.Allocs cells)) t berths x'
  allocates_refused n k cells x' next e many room same =
      let a : Answer = record { stored = true; read = None; grew = false } in
      let touches : touch_next x.setting p ≡ touch.Allocs cells = ap (λ c. touch_of (effect x.setting.image c)) core_is ∙ next in
      let q : Program = in_mode p (Wanted OutOfMemory) in
      let grew : grows x.setting p a ≡ q = ap (λ y. cond (may_grow y (rest_of p.core)) q (finished_as x.setting p 0)) touches in (
        a,
        (λ _. reads_none z.cells s p.mode),
        (
          (s, q),
          ap (taken z.cells s)
              (ap (λ b. cond b (Alone (grows x.setting p a)) (Alone (in_mode p (Wanted NoObjects)))) (fits_is n cells true e (le_true (n + pieces x.setting.size cells) x.setting.limit (omega arith))) ∙ ap Alone grew),
          (is.shows, program_mode x x' p (m.Wanted OutOfMemory) (Wanted OutOfMemory) is.program same refl, ap (λ (j : Seat). j.setting) same),
        ),
      )

  -- ---- giving up

  pub gives_none : (x' : Seat) → None ≡ first_hold x.holds → x' ≡ record x { mode = m.Wanted StoreFailed } → TurnsTo content h z t berths x s p is (λ a. gives_up p (first_hold p.holds)) t berths x'
  gives_none x' e same =
      alone_to content h z t berths x s p is (λ a. gives_up p (first_hold p.holds)) x' (in_mode p (Wanted StoreFailed)) (ap (gives_up p) (ap first_hold is.program.holds ∙ sym e))
      (program_mode x x' p (m.Wanted StoreFailed) (Wanted StoreFailed) is.program same refl) (ap (λ (j : Seat). j.setting) same)

  pub gives_one : (k : ℕ) (y : Hold) (t' : Tables) (x1 x' : Seat) → Some (k, y) ≡ first_hold x.holds → 0 < (object_at t y.object).count → (Shown z t s → Shown z t' (after_close s y.object))
      → x1 ≡ record x { holds = slice_set x.holds k None } → ((q : Program) → IsProgram x1 q → IsProgram x' (closed_so q (first_hold q.holds))) → x'.setting ≡ x1.setting
      → TurnsTo content h z t berths x s p is (λ a. gives_up p (first_hold p.holds)) t' berths x'
  gives_one k y t' x1 x' e l shown one told same =
      let q : Program = holding p k None in
      calls_to content h z t berths x s p is (λ a. gives_up p (first_hold p.holds)) t' berths x' (Closes y.object) (λ u. closed_so q (first_hold q.holds)) (ap (gives_up p) (ap first_hold is.program.holds ∙ sym e)) (close_legal y.object l)
      (record { tables = shown is.shows.tables; far = is.shows.far; many = is.shows.many; objects_few = is.shows.objects_few; frames_few = is.shows.frames_few; size = is.shows.size })
      (told q (program_holding x x1 p k None is.program one)) (same ∙ ap (λ (j : Seat). j.setting) one)
