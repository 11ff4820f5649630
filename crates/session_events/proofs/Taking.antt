-- The steps by which a program comes to an object, as its turns.
use Rattle.std.proofs.Common.{◌≡◌, ℕ, zero, suc, ◌<◌, ◌≤◌, Bool, true, cond, List, [], ◌∷◌, ◌++◌, append_assoc, inl, inr, refl, sym, ap, ◌∙◌, subst, arith}
use Rattle.std.specs.Prelude.{Option, Some, None}
use Rattle.std.proofs.lemmas.Bool.Decides.{eqb_tells}
use Rattle.code_form.specs.Form.{Image}
use Rattle.code_form.specs.declared.touch.Touch.{Touch}
use Rattle.pointer_word.specs.Calls.{Begins, Fills, Opens}
use Rattle.pointer_word.specs.Hands.{Note, known as known_at, listed, opened, told, upd}
use Rattle.pointer_word.specs.Machine.{State}
use Rattle.pointer_word.specs.Words.{Here, Word, counted, framed}
use Rattle.pointer_word.proofs.Upd.{upd-same}
use Rattle.object_lock.specs.Logs.{Deed, act_all, deed}
use Rattle.object_lock.specs.Seats.{Sizes, cell_word}
use Rattle.object_moves.specs.Deeds.{arrives, begins, claims, fills}
use Rattle.object_moves.specs.Visits.{AreServed, Visit, VisitsLogged}
use Rattle.object_moves.specs.Ways.{BehindOpen, Begun, BroughtIn, CourseLogged, Found, LeadsTo, NotRead, NotWritten, TakeLogged, Way, WayLogged}
use Rattle.world_semantics.specs.Fetchers.{as_mode}
use Rattle.world_semantics.specs.Programs.{Bringing, Evicting, Missing, Program, Retreating, Setting, finished, in_mode}
use Rattle.world_semantics.specs.Turns.{Calls, found, program_turn, ready}
use Rattle.mover_events.proofs.Making.{HaveNoOwner, MovesObjects, both_no_owner, none_some, visits_so}
use Rattle.mover_events.proofs.Parts.{makes_them}
use Rattle.mover_events.proofs.Served.{BringsObjects, brought, map_apart, only_one}
use Rattle.session_events.specs.Knowing.{IsOwn, Known, learned}
use Rattle.session_events.specs.Listed.{reads_of}
use Rattle.session_events.proofs.Calling.{begins_away, begins_found, opens_next, set_by}
use Rattle.session_events.proofs.Listing.{Comes, Leads, Notes, behind, behind_both, comes_apart, hand_steps, noted, notes_left, on, own_steps, so_there}
use Rattle.session_events.proofs.Ready.{IsReady, answers}

fills_no_owner : (z : Sizes) (m f : ℕ) (ws : List ℕ) (found : ℕ → ℕ) (k : ℕ) → HaveNoOwner (fills z m f ws found k)
fills_no_owner z m f ws found zero = tt
fills_no_owner z m f ws found (suc k) = both_no_owner (fills z m f ws found k) (deed (cell_word z f k) (found k) (Fills m f k (listed ws k)) ∷ []) (fills_no_owner z m f ws found k) ((none_some, tt), tt)

-- a change of a note, where the notes before it were these
pub notes_along : (g : Setting) (k l y : Known) (o : ℕ) (change : Note → Note) → Notes g k.notes l → Notes g (upd l.notes o (change (l.notes o))) y → Notes g (upd k.notes o (change (k.notes o))) y
notes_along g k l y o change same is = λ p own. is p own ∙ elim (eqb_tells p o) [
  | inl q ↦
      let here : l.notes o ≡ k.notes o = subst (λ (i : ℕ). l.notes i ≡ k.notes i) q.1 (same p own) in
      ap (λ (b : Bool). cond b (change (l.notes o)) (l.notes p)) q.0 ∙ ap change here ∙ ap (λ (b : Bool). cond b (change (k.notes o)) (k.notes p)) (sym q.0)
  | inr q ↦ ap (λ (b : Bool). cond b (change (l.notes o)) (l.notes p)) q.0 ∙ same p own ∙ ap (λ (b : Bool). cond b (change (k.notes o)) (k.notes p)) (sym q.0)
]

-- one change behind another
notes_twice : (g : Setting) (k l y : Known) (o : ℕ) (first then : Note → Note) → Notes g (upd k.notes o (first (k.notes o))) l → Notes g (upd l.notes o (then (l.notes o))) y → Notes g (upd k.notes o (then (first (k.notes o)))) y
notes_twice g k l y o first then a b = λ p own. b p own ∙ elim (eqb_tells p o) [
  | inl q ↦
      let here : l.notes o ≡ first (k.notes o) = subst (λ (i : ℕ). l.notes i ≡ upd k.notes o (first (k.notes o)) i) q.1 (a p own) ∙ upd-same k.notes o (first (k.notes o)) o refl in
      ap (λ (c : Bool). cond c (then (l.notes o)) (l.notes p)) q.0 ∙ ap then here ∙ ap (λ (c : Bool). cond c (then (first (k.notes o))) (k.notes p)) (sym q.0)
  | inr q ↦
      ap (λ (c : Bool). cond c (then (l.notes o)) (l.notes p)) q.0 ∙ a p own ∙ ap (λ (c : Bool). cond c (first (k.notes o)) (k.notes p)) q.0 ∙ ap (λ (c : Bool). cond c (then (first (k.notes o))) (k.notes p)) (sym q.0)
]

module _ (reliable honest : Type 0) (sure : honest) (z : Sizes) (low high number : ℕ) (C : Image) (narrow : z.frames ≤ 1048576) (low_mover : number < 65536) where
  abbrev g : Setting
  g = set_by z low high number C

  abbrev Then : Known → Program → List Deed → Program → (Known → Type 0) → Type 0
  Then k p ds q so = Leads reliable honest z g k p ds q so

  so_then : (k : Known) (p q : Program) (ds : List Deed) (so then : Known → Type 0) → Then k p ds q so → ((l : Known) → so l → then l) → Then k p ds q then
  so_then k p q ds so then first follows = so_there reliable honest z g k p q q ds so then first refl follows

  program_moves : (p : Program) (o : ℕ) → MovesObjects z.cells number (program_turn g) (λ e. in_mode p (Evicting o e)) (in_mode p (Bringing o)) (in_mode p (Retreating o))
  program_moves p o = record { next = λ x e a. refl; mark = λ x v f a. refl; leave = λ x v f a. refl }

  program_brings : (p : Program) → BringsObjects z.cells number true (program_turn g) (reads_of g) (λ d. in_mode p (as_mode d)) (finished g p 0)
  program_brings p = record { claim = λ x o f a. refl; read = λ x o f a. refl; may_read = λ x o f r is. is; fill = λ x o f words k a. refl }

  -- room is made by visits
  visits_then : (p : Program) (o : ℕ) (vs : List Visit) (old new : List Deed) → AreServed vs → VisitsLogged z number vs old new
      → (ds : List Deed) × (new ≡ old ++ ds) × ((k : Known) → Then k (in_mode p (Bringing o)) ds (in_mode p (Bringing o)) (Notes g k.notes))
  visits_then p o vs old new served l =
      let all = visits_so z number (program_turn g) (reads_of g) (λ e. in_mode p (Evicting o e)) (in_mode p (Bringing o)) (in_mode p (Retreating o)) (program_moves p o) reliable honest narrow low_mover vs old new (λ so. served) (inl served) l in (
        all.0,
        all.1,
        λ k ps e come. (
          own_steps reliable honest z g k (in_mode p (Bringing o)) (in_mode p (Bringing o)) ps
              (makes_them z (program_turn g) (reads_of g) reliable honest number (in_mode p (Bringing o)) (in_mode p (Bringing o)) k.hand (behind g k ps).hand all.0 ps all.2 (hand_steps reliable honest z g k ps come) e),
          notes_left reliable honest z g k all.0 ps all.3 e come,
        ),
      )

  -- a frame is claimed and filled, and the object arrives
  brought_then : (p : Program) (o f n : ℕ) (ws : List ℕ) (numbers : ℕ → ℕ) (k : Known)
      → Then k (in_mode p (Bringing o)) (claims z number o f ∷ (fills z number f ws numbers z.cells ++ arrives number o f true n ∷ [])) (finished g p 0) (Notes g (upd k.notes o (told (k.notes o) (Some f))))
  brought_then p o f n ws numbers k = λ ps e come.
      let first : List Deed = claims z number o f ∷ fills z number f ws numbers z.cells in
      let parts = map_apart first (arrives number o f true n ∷ []) ps e in let last = only_one (arrives number o f true n) parts.1 parts.4 in let s = last.0 in
      let split = comes_apart reliable honest z g k parts.0 parts.1 (subst (Comes reliable honest z g k) parts.2 come) in
      let y : Known = behind g k parts.0 in
      let here = notes_left reliable honest z g k first parts.0 ((none_some, tt), fills_no_owner z number f ws numbers z.cells) parts.3 split.0 in
      let at_last = subst (Comes reliable honest z g y) last.1 split.1 in
      let acts : (act_all s.0 s.1.calls).note ≡ upd s.0.note o (told (s.0.note o) (Some f)) = ap (λ (d : Deed). (act_all s.0 d.calls).note) last.2
      ∙ ap (λ (w : Word). upd s.0.note o (told (s.0.note o) (framed w.place))) (upd-same s.0.word o (counted (s.0.word o).count (Here f true)) o refl) in
      let known = notes_along g k y (learned g (act_all s.0 s.1.calls)) o (λ x. told x (Some f)) here (noted g y s.0 o (λ x. told x (Some f)) (act_all s.0 s.1.calls) at_last.3 acts) in
      let whole : behind g k ps ≡ learned g (act_all s.0 s.1.calls) = ap (behind g k) parts.2 ∙ behind_both reliable honest z g k parts.0 parts.1 ∙ ap (behind g y) last.1 in (
        own_steps reliable honest z g k (in_mode p (Bringing o)) (finished g p 0) ps
            (brought reliable honest z number true (program_turn g) (reads_of g) (λ d. in_mode p (as_mode d)) (finished g p 0) (program_brings p) sure o f n ws numbers ps k.hand (behind g k ps).hand e (hand_steps reliable honest z g k ps come)),
        subst (Notes g (upd k.notes o (told (k.notes o) (Some f)))) (sym whole) known,
      )

  -- how it goes on that has begun the object
  course_then : (p : Program) (o f : ℕ) (vs : List Visit) (old new : List Deed) → AreServed vs → CourseLogged z number o (BroughtIn vs f) old new
      → (ds : List Deed) × (new ≡ old ++ ds) × ((k : Known) → Then k (in_mode p (Bringing o)) ds (finished g p 0) (Notes g (upd k.notes o (told (k.notes o) (Some f)))))
  course_then p o f vs old new served l =
      let room = visits_then p o vs old l.0 served l.2 in let b = l.3 in
      let rest : List Deed = claims z number o f ∷ (fills z number f l.1 b.1 z.cells ++ arrives number o f true b.2 ∷ []) in (
        room.0 ++ rest,
        b.3 ∙ append_assoc l.0 (claims z number o f ∷ []) _ ∙ ap (λ (ds : List Deed). ds ++ rest) room.1 ∙ append_assoc old room.0 rest,
        λ k. on reliable honest z g k (in_mode p (Bringing o)) (in_mode p (Bringing o)) (finished g p 0) room.0 rest (Notes g k.notes) (Notes g (upd k.notes o (told (k.notes o) (Some f)))) (room.2 k)
            (λ y same. so_then y (in_mode p (Bringing o)) (finished g p 0) rest (Notes g (upd y.notes o (told (y.notes o) (Some f)))) (Notes g (upd k.notes o (told (k.notes o) (Some f)))) (brought_then p o f b.2 l.1 b.1 y)
            (λ u is. notes_along g k y u o (λ x. told x (Some f)) same is)),
      )

  -- a program that misses its object comes to it
  way_then : (p : Program) (o c f : ℕ) (w : Way) (old new : List Deed) → IsOwn g o → c < 65536 → LeadsTo w (Some f) → WayLogged z number o c (Some f) w old new
      → (ds : List Deed) × (new ≡ old ++ ds) × ((k : Known) → (k.notes o).count ≡ c → Then k (in_mode p (Missing o)) ds (finished g p 0) (Notes g (upd k.notes o (told (k.notes o) (Some f)))))
  way_then p o c f Found old new own few leads l =
      (deed o l.0 (Begins number o c true) ∷ [], l.1, λ k count. begins_found reliable honest z low high number C k p o l.0 c f l.2.0 own count l.2.1 l.2.2)
  way_then p o c f (Begun (BroughtIn vs j)) old new own few leads l =
      let then = course_then p o f vs (old ++ begins number o c true ∷ []) new leads.0 (subst (λ (i : ℕ). CourseLogged z number o (BroughtIn vs i) (old ++ begins number o c true ∷ []) new) (sym leads.1) l) in (
        begins number o c true ∷ then.0,
        then.1 ∙ append_assoc old (begins number o c true ∷ []) then.0,
        λ k count. on reliable honest z g k (in_mode p (Missing o)) (in_mode p (Bringing o)) (finished g p 0) (begins number o c true ∷ []) then.0 (Notes g k.notes) (Notes g (upd k.notes o (told (k.notes o) (Some f))))
            (begins_away reliable honest z low high number C k p o c own count few)
            (λ y same. so_then y (in_mode p (Bringing o)) (finished g p 0) then.0 (Notes g (upd y.notes o (told (y.notes o) (Some f)))) (Notes g (upd k.notes o (told (k.notes o) (Some f)))) (then.2 y) (λ u is. notes_along g k y u o (λ x. told x (Some f)) same is)),
      )
  way_then p o c f (Begun (NotRead vs j)) old new own few leads l = absurd leads
  way_then p o c f (Begun (NotWritten vs v j)) old new own few leads l = absurd leads

  -- a program that is to open a hold of an object does so, and comes to it
  pub take_then : (p q : Program) (t : Touch) (o c f : ℕ) (w : Way) (old new : List Deed) → IsReady g p t → ((x : State) → ready g x p (answers true) t ≡ Calls (Opens o) (found g q o)) → IsOwn g o → c < 65535
      → LeadsTo w (Some f) → TakeLogged z number o c (Some f) w old new
      → (ds : List Deed) × (new ≡ old ++ ds) × ((k : Known) → (k.notes o).count ≡ c → Then k p ds (finished g q 0) (Notes g (upd k.notes o (opened (k.notes o) (Some f)))))
  take_then p q t o c f w old new r turn own few leads l = by_place (framed l.1.place) refl l.4
    where
      by_place : (at : Option ℕ) → framed l.1.place ≡ at → BehindOpen z number o c at (Some f) w (old ++ deed o l.0 (Opens o) ∷ []) new
          → (ds : List Deed) × (new ≡ old ++ ds) × ((k : Known) → (k.notes o).count ≡ c → Then k p ds (finished g q 0) (Notes g (upd k.notes o (opened (k.notes o) (Some f)))))
      by_place (Some h) e b =
          let there : framed l.1.place ≡ Some f = e ∙ sym b.0 in (
            deed o l.0 (Opens o) ∷ [],
            b.2,
            λ k count. subst (λ (at : Option ℕ). Then k p (deed o l.0 (Opens o) ∷ []) (cond (known_at at) (finished g q 0) (in_mode q (Missing o))) (Notes g (upd k.notes o (opened (k.notes o) at)))) there
                (opens_next reliable honest z low high number C k p q t o l.0 l.1 r turn l.2),
          )
      by_place None e b =
          let then = way_then q o (suc c) f w (old ++ deed o l.0 (Opens o) ∷ []) new own (omega (arith, few)) leads b in (
            deed o l.0 (Opens o) ∷ then.0,
            then.1 ∙ append_assoc old (deed o l.0 (Opens o) ∷ []) then.0,
            λ k count.
                let first = subst (λ (at : Option ℕ). Then k p (deed o l.0 (Opens o) ∷ []) (cond (known_at at) (finished g q 0) (in_mode q (Missing o))) (Notes g (upd k.notes o (opened (k.notes o) at)))) e
                (opens_next reliable honest z low high number C k p q t o l.0 l.1 r turn l.2) in
                on reliable honest z g k p (in_mode q (Missing o)) (finished g q 0) (deed o l.0 (Opens o) ∷ []) then.0 (Notes g (upd k.notes o (opened (k.notes o) None))) (Notes g (upd k.notes o (opened (k.notes o) (Some f)))) first
                (λ y is.
                let note : y.notes o ≡ opened (k.notes o) None = is o own ∙ upd-same k.notes o (opened (k.notes o) None) o refl in
                let more : (y.notes o).count ≡ suc c = let n = ap (λ (x : Note). x.count) note in omega arith in
                so_then y (in_mode q (Missing o)) (finished g q 0) then.0 (Notes g (upd y.notes o (told (y.notes o) (Some f)))) (Notes g (upd k.notes o (opened (k.notes o) (Some f)))) (then.2 y more)
                (λ u done. notes_twice g k y u o (λ x. opened x None) (λ x. told x (Some f)) is done)),
          )
