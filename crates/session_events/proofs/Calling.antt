-- Single calls of a program, each at every machine to which its seat may come with it.
use Rattle.std.proofs.Common.{◌≡◌, ℕ, ◌<◌, Bool, true, cond, List, [], ◌∷◌, inl, refl, sym, ap, ap₂, ◌∙◌, eq-eqb}
use Rattle.std.specs.Prelude.{◌==◌, Option, Some, None}
use Rattle.code_form.specs.Form.{Image}
use Rattle.code_form.specs.declared.touch.Touch.{Touch}
use Rattle.pointer_word.specs.Calls.{Begins, Call, Clears, Closes, Opens, Stores, act, begin_at, told_where}
use Rattle.pointer_word.specs.Hands.{Hand, Note, added, closed, known, opened, told, upd, writable}
use Rattle.pointer_word.specs.Legal.{holds}
use Rattle.pointer_word.specs.Machine.{State, after_begin, after_told}
use Rattle.pointer_word.specs.Sound.{Inv}
use Rattle.pointer_word.specs.Words.{Away, Coming, Fits as Small, Here, Leaving, Place, Word, frame_of, framed, pack}
use Rattle.pointer_word.proofs.Bits.{is_away}
use Rattle.pointer_word.proofs.Fields.{state_bits, told as fields_told}
use Rattle.pointer_word.proofs.Upd.{upd-same}
use Rattle.object_lock.specs.Logs.{AreCallsAt, Deed, deed}
use Rattle.object_lock.specs.Plays.{Found as IsFound}
use Rattle.object_lock.specs.Seats.{Sizes}
use Rattle.object_lock.proofs.Mover.{plain}
use Rattle.object_moves.specs.Deeds.{begins}
use Rattle.world_semantics.specs.declared.event.Choice.TheVariants as choice
use Rattle.world_semantics.specs.Programs.{Bringing, Missing, Program, Setting, finished, in_mode}
use Rattle.world_semantics.specs.Turns.{Calls, began, found, program_turn, ready, taken}
use Rattle.mover_events.specs.Making.{MayCome}
use Rattle.mover_events.proofs.Making.{turned}
use Rattle.session_events.specs.Knowing.{Fits, IsOwn, Known, learned}
use Rattle.session_events.proofs.Listing.{Leads, Notes, noted, step}
use Rattle.session_events.proofs.Ready.{IsReady, answers, turn_of}

-- what a program runs on, at a table of these sizes
abbrev pub set_by : Sizes → ℕ → ℕ → ℕ → Image → Setting
set_by z low high number C = record { size = z.cells; base = low; limit = high; mover = number; image = C }

-- ---- a number tells of one word alone where its object is

framed_by : (p : Place) → framed p ≡ cond (state_bits p == 2) (Some (frame_of p)) None
framed_by Away = refl
framed_by (Coming m) = refl
framed_by (Here f k) = refl
framed_by (Leaving f m k) = refl

pub same_frame : (n : ℕ) (v w : Word) → Small v → Small w → n ≡ pack v → n ≡ pack w → framed v.place ≡ framed w.place
same_frame n v w a b e d =
    let x = fields_told v.place v.count n a.0 a.1 e in let y = fields_told w.place w.count n b.0 b.1 d in
    let bits : state_bits v.place ≡ state_bits w.place = sym x.3 ∙ y.3 in let frame : frame_of v.place ≡ frame_of w.place = sym x.4 ∙ y.4 in
    framed_by v.place ∙ ap₂ (λ (s f : ℕ). cond (s == 2) (Some f) None) bits frame ∙ sym (framed_by w.place)

-- ---- what a try to begin leaves

begin_found : (x : State) (m o c f : ℕ) (p : Place) → framed p ≡ Some f → begin_at x m o c true p ≡ after_told x o
begin_found x m o c f Away e = absurd (cc)
begin_found x m o c f (Coming j) e = absurd (cc)
begin_found x m o c f (Here g k) e = refl
begin_found x m o c f (Leaving g j k) e = refl

begin_own : (x : State) (m o c : ℕ) → (x.word o).place ≡ Away → (x.word o).count ≡ c → begin_at x m o c true (x.word o).place ≡ after_begin x m o
begin_own x m o c p e = ap (begin_at x m o c true) p ∙ ap (λ (b : Bool). cond b (after_begin x m o) (told_where true x o)) (eq-eqb (x.word o).count c e)

module _ (reliable honest : Type 0) (z : Sizes) (low high number : ℕ) (C : Image) where
  abbrev g : Setting
  g = set_by z low high number C

  abbrev Then : Known → Program → List Deed → Program → (Known → Type 0) → Type 0
  Then k p ds q so = Leads reliable honest z g k p ds q so

  -- one call by one turn, by what is so of each machine to which the seat may come with it
  pub calls : (k : Known) (p e : Program) (w n : ℕ) (c : Call) (so : Known → Type 0)
      → ((x : State) → MayCome honest z x (deed w n c) → AreCallsAt z number w (c ∷ []) → Inv honest z.cells x → Fits g k x → (go : State → Program) × (program_turn g x p choice.Next (answers true) ≡ Calls c go) × (go (act x c) ≡ e) × so (learned g (act x c)))
      → Then k p (deed w n c ∷ []) e so
  calls k p e w n c so makes = step reliable honest z g k p e (deed w n c) so (λ x may at inv fits.
      let r = makes x may at inv fits in
      (inl (e, (choice.Next, answers true, tt, refl, ap (taken z.cells x) r.1 ∙ turned honest z.cells x c r.0 e may.may.0 r.2), refl), r.3))

  -- a call of the next instruction, behind which the program is so whatever the machine is
  pub calls_next : (k : Known) (p e : Program) (t : Touch) (w n o : ℕ) (c : Call) (change : Note → Note) → IsReady g p t → ((x : State) → Fits g k x → ready g x p (answers true) t ≡ Calls c (λ m. e))
      → ((x : State) → (act x c).note ≡ upd x.note o (change (x.note o))) → Then k p (deed w n c ∷ []) e (Notes g (upd k.notes o (change (k.notes o))))
  calls_next k p e t w n o c change r turn notes = calls k p e w n c (Notes g (upd k.notes o (change (k.notes o)))) (λ x may at inv fits. (
    λ m. e,
    turn_of g x p (answers true) t r ∙ turn x fits,
    refl,
    noted g k x o change (act x c) fits (notes x),
  ))

  pub closes_next : (k : Known) (p e : Program) (t : Touch) (o n : ℕ) → IsReady g p t → ((x : State) → ready g x p (answers true) t ≡ Calls (Closes o) (λ m. e)) → Then k p (deed o n (Closes o) ∷ []) e (Notes g (upd k.notes o (closed (k.notes o))))
  closes_next k p e t o n r turn = calls_next k p e t o n o (Closes o) closed r (λ x fits. turn x) (λ x. refl)

  pub clears_next : (k : Known) (p e : Program) (t : Touch) (o n : ℕ) → IsReady g p t → ((x : State) → ready g x p (answers true) t ≡ Calls (Clears o) (λ m. e)) → Then k p (deed o n (Clears o) ∷ []) e (Notes g (upd k.notes o (writable (k.notes o))))
  clears_next k p e t o n r turn = calls_next k p e t o n o (Clears o) writable r (λ x fits. turn x) (λ x. refl)

  pub stores_next : (k : Known) (p e : Program) (t : Touch) (w n o f i v : ℕ) → IsReady g p t → ((x : State) → Fits g k x → ready g x p (answers true) t ≡ Calls (Stores o f i v) (λ m. e)) → Then k p (deed w n (Stores o f i v) ∷ []) e (Notes g (upd k.notes o (added (k.notes o) i v)))
  stores_next k p e t w n o f i v r turn = calls_next k p e t w n o (Stores o f i v) (λ y. added y i v) r turn (λ x. refl)

  -- the word that was found is the machine's
  word_found : (x : State) (o n : ℕ) (c : Call) (w : Word) → MayCome honest z x (deed o n c) → o < z.objects → IsFound z w n → framed (x.word o).place ≡ framed w.place
  word_found x o n c w may near is = let shown = may.shown.object near in same_frame n (x.word o) w shown.1 is.1.0 shown.0 is.0

  -- how the program is that was told this of where the object is
  abbrev pub told_at : Program → ℕ → Option ℕ → Program
  told_at p o at = cond (known at) (finished g p 0) (in_mode p (Missing o))

  -- a hold is opened of an object of which this word was found
  pub opens_next : (k : Known) (p c : Program) (t : Touch) (o n : ℕ) (w : Word) → IsReady g p t → ((x : State) → ready g x p (answers true) t ≡ Calls (Opens o) (found g c o)) → IsFound z w n
      → Then k p (deed o n (Opens o) ∷ []) (told_at c o (framed w.place)) (Notes g (upd k.notes o (opened (k.notes o) (framed w.place))))
  opens_next k p c t o n w r turn is = calls k p (told_at c o (framed w.place)) o n (Opens o) (Notes g (upd k.notes o (opened (k.notes o) (framed w.place)))) (λ x may at inv fits.
      let there : framed (x.word o).place ≡ framed w.place = word_found x o n (Opens o) w may at.1 is in
      let note : (act x (Opens o)).note o ≡ opened (x.note o) (framed w.place) = upd-same x.note o _ o refl ∙ ap (opened (x.note o)) there in (
        found g c o,
        turn_of g x p (answers true) t r ∙ turn x,
        ap (λ (y : Note). told_at c o y.frame) note,
        noted g k x o (λ y. opened y (framed w.place)) (act x (Opens o)) fits (ap (λ (at : Option ℕ). upd x.note o (opened (x.note o) at)) there),
      ))

  -- an object that its program misses is found in a frame
  pub begins_found : (k : Known) (p : Program) (o n c f : ℕ) (w : Word) → IsOwn g o → (k.notes o).count ≡ c → IsFound z w n → framed w.place ≡ Some f
      → Then k (in_mode p (Missing o)) (deed o n (Begins number o c true) ∷ []) (finished g p 0) (Notes g (upd k.notes o (told (k.notes o) (Some f))))
  begins_found k p o n c f w own count is at_f = calls k (in_mode p (Missing o)) (finished g p 0) o n (Begins number o c true) (Notes g (upd k.notes o (told (k.notes o) (Some f)))) (λ x may at inv fits.
      let there : framed (x.word o).place ≡ Some f = word_found x o n (Begins number o c true) w may at.1.1 is ∙ at_f in
      let acts : act x (Begins number o c true) ≡ after_told x o = begin_found x number o c f (x.word o).place there in
      let many : (x.note o).count ≡ c = ap (λ (y : Note). y.count) (fits.1 o own) ∙ count in
      let note : ((after_told x o).note o).frame ≡ Some f = ap (λ (y : Note). y.frame) (upd-same x.note o _ o refl) ∙ there in
      let empty : (x.hand number).bringing ≡ None = may.may.0.0 in (
        began g (in_mode p (Missing o)) o,
        ap (λ (i : ℕ). Calls (Begins number o i true) (began g (in_mode p (Missing o)) o)) many,
        ap (began g (in_mode p (Missing o)) o) acts ∙ ap (λ (b : Option ℕ). cond (holds b o) (in_mode p (Bringing o)) (found g (in_mode p (Missing o)) o (after_told x o))) empty ∙ ap (λ (b : Option ℕ). told_at (in_mode p (Missing o)) o b) note,
        noted g k x o (λ y. told y (Some f)) (act x (Begins number o c true)) fits (ap (λ (t : State). t.note) acts ∙ ap (λ (b : Option ℕ). upd x.note o (told (x.note o) b)) there),
      ))

  -- or is begun
  pub begins_away : (k : Known) (p : Program) (o c : ℕ) → IsOwn g o → (k.notes o).count ≡ c → c < 65536 → Then k (in_mode p (Missing o)) (begins number o c true ∷ []) (in_mode p (Bringing o)) (Notes g k.notes)
  begins_away k p o c own count few = calls k (in_mode p (Missing o)) (in_mode p (Bringing o)) o c (Begins number o c true) (Notes g k.notes) (λ x may at inv fits.
      let shown = may.shown.object at.1.1 in
      let away = is_away (x.word o).place (x.word o).count c shown.1.1 shown.1.0 few (sym shown.0 ∙ plain c) in
      let acts : act x (Begins number o c true) ≡ after_begin x number o = begin_own x number o c away.0 away.1 in
      let many : (x.note o).count ≡ c = ap (λ (y : Note). y.count) (fits.1 o own) ∙ count in
      let hand : ((after_begin x number o).hand number).bringing ≡ Some o = ap (λ (y : Hand). y.bringing) (upd-same x.hand number _ number refl) in
      let held : holds ((after_begin x number o).hand number).bringing o ≡ true = ap (λ (b : Option ℕ). holds b o) hand ∙ eq-eqb o o refl in (
        began g (in_mode p (Missing o)) o,
        ap (λ (i : ℕ). Calls (Begins number o i true) (began g (in_mode p (Missing o)) o)) many,
        ap (began g (in_mode p (Missing o)) o) acts ∙ ap (λ (b : Bool). cond b (in_mode p (Bringing o)) (found g (in_mode p (Missing o)) o (after_begin x number o))) held,
        λ q mine. ap (λ (t : State). t.note q) acts ∙ fits.1 q mine,
      ))
