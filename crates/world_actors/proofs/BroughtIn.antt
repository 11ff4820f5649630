-- a program's turns as it brings an object in, as code takes them
use Rattle.std.proofs.Common.{◌≡◌, ℕ, suc, ◌+◌, ◌%◌, ◌<◌, ◌≤◌, Bool, true, false, cond, List, [], length, Option, Some, None, refl, sym, ap, ◌∙◌, subst, arith, eq-eqb}
use Rattle.std.specs.Prelude.{◌==◌, is_none, nat_lt}
use Rattle.std.proofs.lemmas.Bool.Decides.{nat_tests}
use Rattle.code_form.specs.Code.{effect}
use Rattle.code_form.specs.Touches.{resumed}
use Rattle.pointer_word.specs.Words.{Away, Coming, Here, Word, counted, framed}
use Rattle.pointer_word.specs.Hands.{Hand, Note, bringing, claiming, known, listed, upd, told as told_as}
use Rattle.pointer_word.specs.Machine.{Far, Never, Kept, Unknown, State, after_arrive, after_begin, after_claim, after_told, content_or, content as far_content}
use Rattle.pointer_word.specs.Calls.{Call, Arrives, Begins, Claims, Fills, Leaves, Marks, May, Retreats, Unclaims, act, begin_at, told_where}
use Rattle.pointer_word.specs.Legal.{holds, legal}
use Rattle.pointer_word.proofs.Legal.{agrees_anyway, legal_may, may_legal}
use Rattle.pointer_word.proofs.Ordered.{filled_all}
use Rattle.pointer_word.proofs.Upd.{upd-same}
use Rattle.world_memory.specs.Berths.{Berths}
use Rattle.remote_store.specs.declared.port.Port.{Port}
use Rattle.world_memory.specs.declared.memory.Object.{Object}
use Rattle.world_memory.specs.declared.memory.ObjectPlace.{ObjectPlace}
use Rattle.world_memory.specs.declared.memory.ObjectPlace.TheVariants as placed
use Rattle.world_actors.specs.declared.program.Eviction.{Eviction as RustEviction}
use Rattle.world_actors.specs.declared.program.Mode.{Mode as RustMode}
use Rattle.world_actors.specs.declared.program.Mode.TheVariants as m
use Rattle.world_actors.specs.Acting.{Done, Failed, IsProgram, Leads, Moves, On, Outcome, Seated, Shows, UnreadSo, resumes}
use Rattle.world_memory.specs.Answered.{AnswersSo, Nothing, reading}
use Rattle.world_actors.specs.Asking.{asked_in}
use Rattle.world_semantics.specs.InHand.{FitsMode, OnlyBrings, WasPut}
use Rattle.world_semantics.specs.Fetchers.{as_mode}
use Rattle.world_semantics.specs.Programs.{Copying, Freed, Mode, Ready, Missing, Bringing, Reading, Filling, Evicting, Releasing, Retreating, Closing, Wanted, Program, finished as finished_as, in_mode}
use Rattle.world_actors.specs.Seats.{Seat, eviction_of, finished, mode_of}
use Rattle.world_memory.specs.Shown.{AreTables, IsNew, Shown}
use Rattle.world_memory.specs.Tables.{Tables, frame_at, frame_word, is_away_at, object_at, place_of}
use Rattle.world_semantics.specs.Turns.{Answer, Turn, Alone, Calls, began, evicts, found, left_so, marked_so, program_claimed, read_so, taken, to_fill}
use Rattle.world_semantics.specs.Worlds.{IsHonestRead, ReadsHonestly, Sizes}
use Rattle.world_actors.proofs.Acting.{bringing_inside, claimed_inside, leads_call, plain, refused_call}
use Rattle.world_actors.proofs.Answered.{unasked}
use Rattle.world_actors.proofs.MovedOut.{leads_on}
use Rattle.world_memory.proofs.Showing.{in_objects}

honest_none : (n : ℕ) (far : Far) → IsHonestRead n far None
honest_none n Never = tt
honest_none n (Kept words) = tt
honest_none n Unknown = tt

-- where nothing is read, nothing is read wrong
pub reads_none : (n : ℕ) (s : State) (mode : Mode) → ReadsHonestly n s mode None
reads_none n s Ready = tt
reads_none n s (Missing o) = tt
reads_none n s (Bringing o) = tt
reads_none n s (Reading o f) = honest_none n (s.far o)
reads_none n s (Filling o f words k) = tt
reads_none n s (Evicting o e) = tt
reads_none n s (Releasing o f) = tt
reads_none n s (Retreating o) = tt
reads_none n s Closing = tt
reads_none n s (Wanted w) = tt

-- ---- what the tables tell of a word

pub away : (x : ObjectPlace) → is_away_at x ≡ true → place_of x ≡ Away
away placed.Away e = refl
away (placed.Coming j) e = cc
away (placed.Here f k) e = cc
away (placed.Leaving f j k) e = cc

not_zero : (o : ℕ) → (suc o == 0) ≡ false
not_zero o = grind (arith, nat_tests)

pub word_is : (y : Option ℕ) (b : Bool) → is_none y ≡ b → (frame_word y == 0) ≡ b
word_is None b e = e
word_is (Some o) b e = not_zero o ∙ e

-- ---- a program that code holds, with one thing changed

pub program_mode : (x x' : Seat) (p : Program) (mode : RustMode) (m : Mode) → IsProgram x p → x' ≡ record x { mode = mode } → m ≡ mode_of mode x.words → IsProgram x' (in_mode p m)
program_mode x x' p mode m is e q = subst (λ (y : Seat). IsProgram y (in_mode p m)) (sym e) (record { core = is.core; holds = is.holds; mode = q; completed = is.completed })

count_mod : (c d : ℕ) → c ≡ d % 18446744073709551616 → (c + 1) % 18446744073709551616 ≡ (suc d) % 18446744073709551616
count_mod c d e = omega arith

pub program_finished : (x x' : Seat) (p : Program) (v : ℕ) → IsProgram x p → x' ≡ finished x v → IsProgram x' (finished_as x.setting p v)
program_finished x x' p v is e = subst (λ (y : Seat). IsProgram y (finished_as x.setting p v)) (sym e) (record {
  core = ap (λ c. resumed (effect x.setting.image c) c v) is.core;
  holds = is.holds;
  mode = refl;
  completed = count_mod x.completed p.completed is.completed;
})

module _ {C : Type 0} (content : C → Option (List ℕ)) (h : Type 0) (z : Sizes) (t : Tables) (berths : Berths C) (x : Seat) (s : State) (p : Program) (is : Seated content h z t berths x s p) where
  -- a turn leads to what the tables, the berths and the program are now
  abbrev pub TurnsTo : (Answer → Turn Program) → Tables → Berths C → Seat → Type 0
  TurnsTo turn t' berths' x' = Leads z.cells s turn (λ a. h → ReadsHonestly z.cells s p.mode a.read) (λ u q. Shows content z t' berths' u × IsProgram x' q × (x'.setting ≡ x.setting))

  pub calls_to : (turn : Answer → Turn Program) (t' : Tables) (berths' : Berths C) (x' : Seat) (c : Call) (go : State → Program) → turn plain ≡ Calls c go → legal z.cells s c ≡ true
      → Shows content z t' berths' (act s c) → IsProgram x' (go (act s c)) → x'.setting ≡ x.setting → TurnsTo turn t' berths' x'
  calls_to turn t' berths' x' c go e l shows program same =
      leads_call z.cells s turn (λ a. h → ReadsHonestly z.cells s p.mode a.read) (λ u q. Shows content z t' berths' u × IsProgram x' q × (x'.setting ≡ x.setting)) plain c go
      (λ _. reads_none z.cells s p.mode) e l (shows, program, same)

  -- the same, where the store answered so
  abbrev pub TurnsToSo : (Answer → Type 0) → (Answer → Turn Program) → Tables → Berths C → Seat → Type 0
  TurnsToSo told turn t' berths' x' = Leads z.cells s turn (λ a. (h → ReadsHonestly z.cells s p.mode a.read) × told a) (λ u q. Shows content z t' berths' u × IsProgram x' q × (x'.setting ≡ x.setting))

  pub alone_to : (turn : Answer → Turn Program) (x' : Seat) (q : Program) → turn plain ≡ Alone q → IsProgram x' q → x'.setting ≡ x.setting → TurnsTo turn t berths x'
  alone_to turn x' q e program same = (plain, (λ _. reads_none z.cells s p.mode), ((s, q), ap (taken z.cells s) e, (is.shows, program, same)))

  pub mode_is : (mode : RustMode) → x.mode ≡ mode → p.mode ≡ mode_of mode x.words
  mode_is mode e = is.program.mode ∙ ap (λ y. mode_of y x.words) e

  pub fits_as : (mode : RustMode) → x.mode ≡ mode → FitsMode h z.cells s.far (s.hand x.setting.mover) (mode_of mode x.words)
  fits_as mode e = subst (FitsMode h z.cells s.far (s.hand x.setting.mover)) (mode_is mode e) is.fits

  pub word_count : (o : ℕ) → (s.word o).count ≡ (object_at t o).count
  word_count o = ap (λ (w : Word). w.count) (is.shows.tables.objects o).word

  pub word_place : (o : ℕ) → (s.word o).place ≡ place_of (object_at t o).place
  word_place o = ap (λ (w : Word). w.place) (is.shows.tables.objects o).word

  pub note_count : (o : ℕ) → (s.note o).count ≡ (object_at t o).count
  note_count o = (is.shows.tables.objects o).count

  -- an object with a hold is in the table
  pub held_inside : (o : ℕ) → 0 < (object_at t o).count → o < z.objects
  held_inside o l =
      let many = is.shows.tables.objects_many in
      let inside : o < length t.objects = in_objects t o (λ r. let none : (object_at t o).count ≡ 0 = ap (λ (y : Object). y.count) r in absurd (omega arith)) in
      omega arith

  holds_lt : (c : ℕ) → 0 < c → nat_lt 0 c ≡ true
  holds_lt c l = grind (arith, nat_tests)

  -- ---- beginning

  begin_legal : (o : ℕ) → x.mode ≡ m.Missing o → 0 < (object_at t o).count → legal z.cells s (Begins x.setting.mover o (s.note o).count true) ≡ true
  begin_legal o e l = may_legal h z.cells s (Begins x.setting.mover o (s.note o).count true) ((fits_as (m.Missing o) e).0, λ _. subst (λ n. 0 < n) (sym (note_count o)) l)

  not_away : (o c : ℕ) (y : ObjectPlace) → is_away_at y ≡ false → begin_at s x.setting.mover o c true (place_of y) ≡ after_told s o
  not_away o c placed.Away e = cc
  not_away o c (placed.Coming j) e = refl
  not_away o c (placed.Here f k) e = refl
  not_away o c (placed.Leaving f j k) e = refl

  pub begins_away : (o : ℕ) (t' : Tables) (x' : Seat) → x.mode ≡ m.Missing o → 0 < (object_at t o).count → is_away_at (object_at t o).place ≡ true
      → (Shown z t s → o < z.objects → AreTables z t' (upd s.word o (counted (s.word o).count (Coming x.setting.mover))) s.note s.frame s.cell) → x' ≡ record x { mode = m.Bringing o }
      → TurnsTo (λ a. Calls (Begins x.setting.mover o (s.note o).count true) (began x.setting p o)) t' berths x'
  begins_away o t' x' e l there shown same =
      let j = x.setting.mover in
      let c = (s.note o).count in
      let u : State = after_begin s j o in
      let y : Hand = bringing (s.hand j) o (content_or (far_content (s.far o))) in
      let hand : u.hand j ≡ y = upd-same s.hand j y j refl in
      let counts : ((s.word o).count == c) ≡ true = eq-eqb (s.word o).count c (word_count o ∙ sym (note_count o)) in
      let after : act s (Begins j o c true) ≡ u = ap (begin_at s j o c true) (word_place o ∙ away (object_at t o).place there) ∙ ap (λ b. cond b u (told_where true s o)) counts in
      let held : holds (u.hand j).bringing o ≡ true = ap (λ (k : Hand). holds k.bringing o) hand ∙ eq-eqb o o refl in
      let goes : began x.setting p o u ≡ in_mode p (Bringing o) = ap (λ b. cond b (in_mode p (Bringing o)) (found x.setting p o u)) held in
      calls_to (λ a. Calls (Begins j o c true) (began x.setting p o)) t' berths x' (Begins j o c true) (began x.setting p o) refl (begin_legal o e l)
      (subst (λ (v : State). Shows content z t' berths v) (sym after) (record { tables = shown is.shows.tables (held_inside o l); far = is.shows.far; many = is.shows.many; objects_few = is.shows.objects_few; frames_few = is.shows.frames_few; size = is.shows.size }))
      (subst (λ (v : State). IsProgram x' (began x.setting p o v)) (sym after) (subst (IsProgram x') (sym goes) (program_mode x x' p (m.Bringing o) (Bringing o) is.program same refl)))
      (ap (λ (k : Seat). k.setting) same)

  pub begins_elsewhere : (o : ℕ) (f : Option ℕ) (t' : Tables) (x' : Seat) → x.mode ≡ m.Missing o → 0 < (object_at t o).count → is_away_at (object_at t o).place ≡ false
      → (Shown z t s → o < z.objects → Shown z t' (after_told s o)) → f ≡ framed (place_of (object_at t o).place)
      → (IsProgram x p → IsProgram x' (cond (known f) (finished_as x.setting p 0) (in_mode p (Missing o)))) → x'.setting ≡ x.setting
      → TurnsTo (λ a. Calls (Begins x.setting.mover o (s.note o).count true) (began x.setting p o)) t' berths x'
  begins_elsewhere o f t' x' e l there shown frame told same =
      let j = x.setting.mover in
      let c = (s.note o).count in
      let u : State = after_told s o in
      let after : act s (Begins j o c true) ≡ u = ap (begin_at s j o c true) (word_place o) ∙ not_away o c (object_at t o).place there in
      let free : holds (u.hand j).bringing o ≡ false = ap (λ y. holds y o) (fits_as (m.Missing o) e).0 in
      let noted : (u.note o).frame ≡ f = ap (λ (y : Note). y.frame) (upd-same s.note o (told_as (s.note o) (framed (s.word o).place)) o refl) ∙ (ap framed (word_place o) ∙ sym frame) in
      let goes : began x.setting p o u ≡ cond (known f) (finished_as x.setting p 0) (in_mode p (Missing o)) =
      ap (λ b. cond b (in_mode p (Bringing o)) (found x.setting p o u)) free ∙ ap (λ y. cond (known y) (finished_as x.setting p 0) (in_mode p (Missing o))) noted in
      calls_to (λ a. Calls (Begins j o c true) (began x.setting p o)) t' berths x' (Begins j o c true) (began x.setting p o) refl (begin_legal o e l)
      (subst (λ (v : State). Shows content z t' berths v) (sym after) (record { tables = shown is.shows.tables (held_inside o l); far = is.shows.far; many = is.shows.many; objects_few = is.shows.objects_few; frames_few = is.shows.frames_few; size = is.shows.size }))
      (subst (λ (v : State). IsProgram x' (began x.setting p o v)) (sym after) (subst (IsProgram x') (sym goes) (told is.program))) same

  -- ---- seeking a frame

  pub only : (o : ℕ) → x.mode ≡ m.Bringing o → OnlyBrings o (s.hand x.setting.mover)
  only o e = fits_as (m.Bringing o) e

  claim_legal : (o f : ℕ) → x.mode ≡ m.Bringing o → legal z.cells s (Claims x.setting.mover o f) ≡ true
  claim_legal o f e = may_legal h z.cells s (Claims x.setting.mover o f) (only o e).2.0

  pub claims_free : (o f : ℕ) (t' : Tables) (x' : Seat) (new : Bool) → x.mode ≡ m.Bringing o → f < z.frames → is_none (frame_at t f) ≡ true
      → (Shown z t s → f < z.frames → AreTables z t' s.word s.note (upd s.frame f (suc o)) s.cell) → IsNew new (s.far o)
      → ((far : Far) (p : Program) → IsNew new far → IsProgram x p → IsProgram x' (in_mode p (as_mode (to_fill o f far)))) → x'.setting ≡ x.setting
      → TurnsTo (λ a. Calls (Claims x.setting.mover o f) (program_claimed x.setting p o f)) t' berths x'
  claims_free o f t' x' new e inside none shown far starts same =
      let j = x.setting.mover in
      let u : State = after_claim s j o f in
      let y : Hand = claiming (s.hand j) f in
      let hand : u.hand j ≡ y = upd-same s.hand j y j refl in
      let zero : (s.frame f == 0) ≡ true = ap (λ n. n == 0) (is.shows.tables.frames f) ∙ word_is (frame_at t f) true none in
      let after : act s (Claims j o f) ≡ u = ap (λ b. cond b u s) zero in
      let held : holds (u.hand j).claimed f ≡ true = ap (λ (k : Hand). holds k.claimed f) hand ∙ eq-eqb f f refl in
      let goes : program_claimed x.setting p o f u ≡ in_mode p (as_mode (to_fill o f (s.far o))) = ap (λ b. cond b (in_mode p (as_mode (to_fill o f (s.far o)))) p) held in
      calls_to (λ a. Calls (Claims j o f) (program_claimed x.setting p o f)) t' berths x' (Claims j o f) (program_claimed x.setting p o f) refl (claim_legal o f e)
      (subst (λ (v : State). Shows content z t' berths v) (sym after) (record { tables = shown is.shows.tables inside; far = is.shows.far; many = is.shows.many; objects_few = is.shows.objects_few; frames_few = is.shows.frames_few; size = is.shows.size }))
      (subst (λ (v : State). IsProgram x' (program_claimed x.setting p o f v)) (sym after) (subst (IsProgram x') (sym goes) (starts (s.far o) p far is.program))) same

  pub claims_held : (o f : ℕ) → x.mode ≡ m.Bringing o → is_none (frame_at t f) ≡ false → TurnsTo (λ a. Calls (Claims x.setting.mover o f) (program_claimed x.setting p o f)) t berths x
  claims_held o f e none =
      let j = x.setting.mover in
      let zero : (s.frame f == 0) ≡ false = ap (λ n. n == 0) (is.shows.tables.frames f) ∙ word_is (frame_at t f) false none in
      let after : act s (Claims j o f) ≡ s = ap (λ b. cond b (after_claim s j o f) s) zero in
      let free : holds (s.hand j).claimed f ≡ false = ap (λ y. holds y f) (only o e).2.0 in
      let goes : program_claimed x.setting p o f s ≡ p = ap (λ b. cond b (in_mode p (as_mode (to_fill o f (s.far o)))) p) free in
      calls_to (λ a. Calls (Claims j o f) (program_claimed x.setting p o f)) t berths x (Claims j o f) (program_claimed x.setting p o f) refl (claim_legal o f e)
      (subst (λ (v : State). Shows content z t berths v) (sym after) is.shows)
      (subst (λ (v : State). IsProgram x (program_claimed x.setting p o f v)) (sym after) (subst (IsProgram x) (sym goes) is.program)) refl

  pub marks_other : (o v f : ℕ) (t' : Tables) (berths' : Berths C) (x' : Seat) (b : Bool) → x.mode ≡ m.Bringing o
      → Shows content z t' berths' (act s (Marks x.setting.mover v f)) × (holds ((act s (Marks x.setting.mover v f)).hand x.setting.mover).leaving v ≡ b)
      → IsProgram x' (cond b (in_mode p (Evicting o (Copying v f []))) p) → x'.setting ≡ x.setting → TurnsTo (λ a. Calls (Marks x.setting.mover v f) (marked_so x.setting p o v f)) t' berths' x'
  marks_other o v f t' berths' x' b e so program same =
      let j = x.setting.mover in
      let u : State = act s (Marks j v f) in
      let goes : marked_so x.setting p o v f u ≡ cond b (in_mode p (Evicting o (Copying v f []))) p = ap (λ y. cond y (in_mode p (Evicting o (Copying v f []))) p) so.1 in
      calls_to (λ a. Calls (Marks j v f) (marked_so x.setting p o v f)) t' berths' x' (Marks j v f) (marked_so x.setting p o v f) refl (may_legal h z.cells s (Marks j v f) (only o e).1)
      so.0 (subst (IsProgram x') (sym goes) program) same

  pub leaves_other : (o v f : ℕ) (t' : Tables) (berths' : Berths C) (x' : Seat) (b : Bool) → x.mode ≡ m.Bringing o
      → Shows content z t' berths' (act s (Leaves x.setting.mover v f)) × (holds ((act s (Leaves x.setting.mover v f)).hand x.setting.mover).freed f ≡ b)
      → IsProgram x' (cond b (in_mode p (Evicting o (Freed f))) p) → x'.setting ≡ x.setting → TurnsTo (λ a. Calls (Leaves x.setting.mover v f) (left_so x.setting p o f)) t' berths' x'
  leaves_other o v f t' berths' x' b e so program same =
      let j = x.setting.mover in
      let u : State = act s (Leaves j v f) in
      let goes : left_so x.setting p o f u ≡ cond b (in_mode p (Evicting o (Freed f))) p = ap (λ y. cond y (in_mode p (Evicting o (Freed f))) p) so.1 in
      calls_to (λ a. Calls (Leaves j v f) (left_so x.setting p o f)) t' berths' x' (Leaves j v f) (left_so x.setting p o f) refl (may_legal h z.cells s (Leaves j v f) (only o e).2.1)
      so.0 (subst (IsProgram x') (sym goes) program) same

  -- ---- reading and filling

  -- the object that it brings in was put before
  pub was_put : (o f : ℕ) → x.mode ≡ m.Reading o f → WasPut (s.far o)
  was_put o f e = (fits_as (m.Reading o f) e).1

  -- what it asks of the store
  pub asked_as_mode : (mode : RustMode) → x.mode ≡ mode → asked_in z.cells p.mode ≡ asked_in z.cells (mode_of mode x.words)
  asked_as_mode mode e = ap (asked_in z.cells) (mode_is mode e)

  pub unasked_in : {S : Type 0} (reliable : Type 0) (failures : S → ℕ) (gives : S → C → List ℕ → S → Type 0) (q : Port S C) (a : Answer) (mode : RustMode) → x.mode ≡ mode → asked_in z.cells (mode_of mode x.words) ≡ Nothing
      → AnswersSo reliable failures gives z.cells berths.items q q s.far (asked_in z.cells p.mode) a
  unasked_in reliable failures gives q a mode e none = unasked reliable failures gives z.cells berths.items q q s.far a (asked_in z.cells p.mode) (asked_as_mode mode e ∙ none) refl

  pub reads : (o f : ℕ) (words : List ℕ) (x' : Seat) (told : Answer → Type 0) → told (reading true words) → x.mode ≡ m.Reading o f → (h → IsHonestRead z.cells (s.far o) (Some words)) → x' ≡ record x { words = words; mode = m.Filling o f 0 }
      → TurnsToSo told (λ a. Alone (in_mode p (as_mode (read_so o f a.read)))) t berths x'
  reads o f words x' told answered e honest same =
      let a : Answer = reading true words in (
        a,
        ((λ k. subst (λ (y : Mode). ReadsHonestly z.cells s y (Some words)) (sym (mode_is (m.Reading o f) e)) (honest k)), answered),
        (
          (s, in_mode p (Filling o f words 0)),
          refl,
          (
            is.shows,
            subst (λ (y : Seat). IsProgram y (in_mode p (Filling o f words 0))) (sym same) (record { core = is.program.core; holds = is.program.holds; mode = refl; completed = is.program.completed }),
            ap (λ (k : Seat). k.setting) same,
          ),
        ),
      )

  pub reads_not : (o f : ℕ) (words : List ℕ) (x' : Seat) (told : Answer → Type 0) → told (reading false words) → x' ≡ record x { words = words; mode = m.Releasing o f }
      → TurnsToSo told (λ a. Alone (in_mode p (as_mode (read_so o f a.read)))) t berths x'
  reads_not o f words x' told answered same = (
    reading false words,
    ((λ _. reads_none z.cells s p.mode), answered),
    (
      (s, in_mode p (Releasing o f)),
      refl,
      (
        is.shows,
        subst (λ (y : Seat). IsProgram y (in_mode p (Releasing o f))) (sym same) (record { core = is.program.core; holds = is.program.holds; mode = refl; completed = is.program.completed }),
        ap (λ (k : Seat). k.setting) same,
      ),
    ),
  )

  pub filling : (o f : ℕ) (words : List ℕ) (k : ℕ) → mode_of x.mode x.words ≡ Filling o f words k → FitsMode h z.cells s.far (s.hand x.setting.mover) (Filling o f words k)
  filling o f words k e = subst (FitsMode h z.cells s.far (s.hand x.setting.mover)) (is.program.mode ∙ e) is.fits

  pub fills_one : (o f k v : ℕ) (words : List ℕ) (next : RustMode) (t' : Tables) (x' : Seat) → mode_of x.mode x.words ≡ Filling o f words k → v ≡ listed words k → Filling o f words (suc k) ≡ mode_of next x.words
      → (Shown z t s → f < z.frames → AreTables z t' s.word s.note s.frame (upd s.cell f (upd (s.cell f) k v))) → x' ≡ record x { mode = next }
      → TurnsTo (λ a. Calls (Fills x.setting.mover f k (listed words k)) (λ u. in_mode p (Filling o f words (suc k)))) t' berths x'
  fills_one o f k v words next t' x' e value becomes shown same =
      let j = x.setting.mover in
      let fits = filling o f words k e in
      let claimed = fits.0.2 in
      let inside = claimed_inside h z t s j f is.inv is.shows.tables claimed in
      let tables : AreTables z t' s.word s.note s.frame (upd s.cell f (upd (s.cell f) k (listed words k))) =
      subst (λ n. AreTables z t' s.word s.note s.frame (upd s.cell f (upd (s.cell f) k n))) value (shown is.shows.tables inside) in
      calls_to (λ a. Calls (Fills j f k (listed words k)) (λ u. in_mode p (Filling o f words (suc k)))) t' berths x' (Fills j f k (listed words k)) (λ u. in_mode p (Filling o f words (suc k))) refl
      (may_legal h z.cells s (Fills j f k (listed words k)) claimed)
      (record { tables = tables; far = is.shows.far; many = is.shows.many; objects_few = is.shows.objects_few; frames_few = is.shows.frames_few; size = is.shows.size })
      (program_mode x x' p next (Filling o f words (suc k)) is.program same becomes) (ap (λ (k : Seat). k.setting) same)

  -- ---- arriving

  arrive_may : (o f k : ℕ) (words : List ℕ) → mode_of x.mode x.words ≡ Filling o f words k → x.setting.size ≤ k → 0 < (s.note o).count → May h z.cells s (Arrives x.setting.mover o f true)
  arrive_may o f k words e full some =
      let fits = filling o f words k e in
      let size = is.size in
      (fits.0.0, fits.0.2, filled_all h z.cells (s.hand x.setting.mover) words fits.2 (λ i l. fits.1 i (omega arith)), (λ _. some))

  pub arrives_not : (o f : ℕ) (q : Program) → (object_at t o).count ≡ 0 → (a : Answer) → taken z.cells s (Calls (Arrives x.setting.mover o f true) (λ u. q)) ≡ None
  arrives_not o f q none a = refused_call z.cells s (Arrives x.setting.mover o f true) (λ u. q) (by_test (legal z.cells s (Arrives x.setting.mover o f true)) refl)
    where
      by_test : (b : Bool) → legal z.cells s (Arrives x.setting.mover o f true) ≡ b → legal z.cells s (Arrives x.setting.mover o f true) ≡ false
      by_test false e = e
      by_test true e =
          let may = legal_may ⊥ z.cells s (Arrives x.setting.mover o f true) e (agrees_anyway z.cells s (Arrives x.setting.mover o f true)) in
          let l : 0 < (s.note o).count = may.3 refl in
          let c = note_count o in
          absurd (omega arith)

  pub arrives_there : (o f k : ℕ) (words : List ℕ) (t1 t2 : Tables) (x' : Seat) → mode_of x.mode x.words ≡ Filling o f words k → x.setting.size ≤ k → 0 < (object_at t o).count
      → (Shown z t s → o < z.objects → AreTables z t1 (upd s.word o (counted (s.word o).count (Here f true))) s.note s.frame s.cell)
      → ((s : State) → Shown z t1 s → o < z.objects → Shown z t2 (after_told s o)) → x' ≡ finished x 0
      → TurnsTo (λ a. Calls (Arrives x.setting.mover o f true) (λ u. finished_as x.setting p 0)) t2 berths x'
  arrives_there o f k words t1 t2 x' e full some shown told same =
      let j = x.setting.mover in
      let inside = held_inside o some in
      let v : State = after_arrive s j o f in
      calls_to (λ a. Calls (Arrives j o f true) (λ u. finished_as x.setting p 0)) t2 berths x' (Arrives j o f true) (λ u. finished_as x.setting p 0) refl
      (may_legal h z.cells s (Arrives j o f true) (arrive_may o f k words e full (subst (λ n. 0 < n) (sym (note_count o)) some)))
      (record { tables = told v (shown is.shows.tables inside) inside; far = is.shows.far; many = is.shows.many; objects_few = is.shows.objects_few; frames_few = is.shows.frames_few; size = is.shows.size })
      (program_finished x x' p 0 is.program same) (ap (λ (k : Seat). k.setting) same)

  -- ---- giving up

  pub releases : (o f : ℕ) (t' : Tables) (x' : Seat) → x.mode ≡ m.Releasing o f → (Shown z t s → f < z.frames → AreTables z t' s.word s.note (upd s.frame f 0) s.cell) → x' ≡ record x { mode = m.Retreating o }
      → TurnsTo (λ a. Calls (Unclaims x.setting.mover f) (λ u. in_mode p (Retreating o))) t' berths x'
  releases o f t' x' e shown same =
      let j = x.setting.mover in
      let claimed = (fits_as (m.Releasing o f) e).2 in
      calls_to (λ a. Calls (Unclaims j f) (λ u. in_mode p (Retreating o))) t' berths x' (Unclaims j f) (λ u. in_mode p (Retreating o)) refl (may_legal h z.cells s (Unclaims j f) claimed)
      (record { tables = shown is.shows.tables (claimed_inside h z t s j f is.inv is.shows.tables claimed); far = is.shows.far; many = is.shows.many; objects_few = is.shows.objects_few; frames_few = is.shows.frames_few; size = is.shows.size })
      (program_mode x x' p (m.Retreating o) (Retreating o) is.program same refl) (ap (λ (k : Seat). k.setting) same)

  pub retreats : (o : ℕ) (t' : Tables) (x' : Seat) → x.mode ≡ m.Retreating o → (Shown z t s → o < z.objects → AreTables z t' (upd s.word o (counted (s.word o).count Away)) s.note s.frame s.cell) → x' ≡ record x { mode = m.Closing }
      → TurnsTo (λ a. Calls (Retreats x.setting.mover o) (λ u. in_mode p Closing)) t' berths x'
  retreats o t' x' e shown same =
      let j = x.setting.mover in
      let brings = (fits_as (m.Retreating o) e).0 in
      calls_to (λ a. Calls (Retreats j o) (λ u. in_mode p Closing)) t' berths x' (Retreats j o) (λ u. in_mode p Closing) refl (may_legal h z.cells s (Retreats j o) brings)
      (record { tables = shown is.shows.tables (bringing_inside h z t s j o is.inv is.shows.tables brings); far = is.shows.far; many = is.shows.many; objects_few = is.shows.objects_few; frames_few = is.shows.frames_few; size = is.shows.size })
      (program_mode x x' p m.Closing Closing is.program same refl) (ap (λ (k : Seat). k.setting) same)

  -- ---- moving another object out

  pub moving : (o : ℕ) (y : RustEviction) → x.mode ≡ m.Evicting o y → Moves content h z t berths x.setting.mover (eviction_of y x.words) s
  moving o y e = record { shows = is.shows; inv = is.inv; fits = (fits_as (m.Evicting o y) e).2 }

  pub moves_on : (o : ℕ) (y : RustEviction) (r : Outcome) (t' : Tables) (berths' : Berths C) (words : List ℕ) (mode : RustMode) (x' : Seat) (told : Answer → Type 0)
      → Leads z.cells s (λ a. evicts z.cells x.setting.mover a (eviction_of y x.words) On Done Failed) (UnreadSo told) (λ u q. Shows content z t' berths' u × (q ≡ r))
      → mode_of mode words ≡ resumes (λ d. Evicting o d) (Bringing o) (Retreating o) r → x' ≡ record x { words = words; mode = mode }
      → TurnsToSo told (λ a. evicts x.setting.size x.setting.mover a (eviction_of y x.words) (λ d. in_mode p (Evicting o d)) (in_mode p (Bringing o)) (in_mode p (Retreating o))) t' berths' x'
  moves_on o y r t' berths' words mode x' told l so same =
      let go : Outcome → Program = resumes (λ d. in_mode p (Evicting o d)) (in_mode p (Bringing o)) (in_mode p (Retreating o)) in
      let k = leads_on z.cells x.setting.mover s (eviction_of y x.words) (UnreadSo told) (λ d. in_mode p (Evicting o d)) (in_mode p (Bringing o)) (in_mode p (Retreating o)) (Shows content z t' berths') r (go r) refl l in (
        k.0,
        ((λ _. subst (ReadsHonestly z.cells s p.mode) (sym k.1.0) (reads_none z.cells s p.mode)), k.1.1),
        (
          k.2.0,
          ap (λ n. taken z.cells s (evicts n x.setting.mover k.0 (eviction_of y x.words) (λ d. in_mode p (Evicting o d)) (in_mode p (Bringing o)) (in_mode p (Retreating o)))) is.size ∙ k.2.1,
          (
            k.2.2.0,
            subst (IsProgram x') (sym k.2.2.1) (subst (λ (y : Seat). IsProgram y (go r)) (sym same) (becomes r so)),
            ap (λ (k : Seat). k.setting) same,
          ),
        ),
      )
    where
      becomes : (r : Outcome) → mode_of mode words ≡ resumes (λ d. Evicting o d) (Bringing o) (Retreating o) r
          → IsProgram (record x { words = words; mode = mode }) (resumes (λ d. in_mode p (Evicting o d)) (in_mode p (Bringing o)) (in_mode p (Retreating o)) r)
      becomes (On d) e = record { core = is.program.core; holds = is.program.holds; mode = sym e; completed = is.program.completed }
      becomes Done e = record { core = is.program.core; holds = is.program.holds; mode = sym e; completed = is.program.completed }
      becomes Failed e = record { core = is.program.core; holds = is.program.holds; mode = sym e; completed = is.program.completed }
