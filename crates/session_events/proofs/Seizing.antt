-- The events by which a scope is shut, and an object taken for it.
use Rattle.std.proofs.Common.{◌≡◌, ℕ, suc, ◌+◌, ◌<◌, Bool, true, false, cond, List, [], ◌∷◌, ◌++◌, append_assoc, length, map, refl, sym, ap, ◌∙◌, subst, inl, inr, arith, ne_eqb, add-one}
use Rattle.std.specs.Prelude.{◌==◌, Option, Some, None, slice_index_or, slice_set}
use Rattle.std.proofs.lemmas.Bool.{eq-eqb}
use Rattle.std.proofs.lemmas.List.{map-set}
use lib.ListN.{get_or-map}
use Rattle.cells.specs.declared.ending.Want.{Want}
use Rattle.pointer_word.specs.Asked.{HasNothing}
use Rattle.pointer_word.specs.Calls.{Closes}
use Rattle.pointer_word.specs.Words.{Away, Here, counted}
use Rattle.pointer_word.specs.Hands.{Arrived, Began, Claimed, Hand, Note, arriving, blank, bringing, claiming, closed, known, opened, told, upd}
use Rattle.pointer_word.specs.Machine.{Never, State}
use Rattle.code_form.specs.Form.{Image}
use Rattle.code_form.specs.Code.{effect}
use Rattle.code_form.specs.Touches.{resumed}
use Rattle.code_form.specs.declared.touch.Touch.{Touch}
use Rattle.object_lock.specs.Seats.{Owns, View, note}
use Rattle.object_lock.specs.Seats as seats
use Rattle.object_moves.proofs.Visiting.{nothing_more}
use Rattle.object_moves.specs.Visits.{moves_in}
use Rattle.object_moves.specs.Ways.{Begun, BroughtIn, Course, Found, LeadsTo, NotRead, NotWritten, Way, moves_on}
use Rattle.session.specs.declared.hold.Hold as own
use Rattle.session.specs.Keeping.{IsHolding, a_hold, shut, shut_at}
use Rattle.session.specs.Keeping as keeping
use Rattle.session.specs.State as session
use Rattle.session.proofs.Holding.{hold_counts, note_set, owned_here}
use Rattle.world_semantics.specs.declared.hold.Hold.{Hold}
use Rattle.world_semantics.specs.Programs.{Missing, Program, Ready, Setting, finished, hold_at, holding, in_mode}
use Rattle.world_semantics.specs.Turns.{Calls, aims_at, closes, found, ready}
use Rattle.mover_events.specs.Going.{Event}
use Rattle.mover_events.proofs.Serving.{filled_with}
use Rattle.session_events.specs.Knowing.{Goes, Known}
use Rattle.session_events.specs.Laws.{IsKnown, hold_seen, mode_of, program_of}
use Rattle.session_events.proofs.Fetching.{HasOnly, arrived_then, begun_then, behind_visits, past_visits, still_only, visited_then, with_arrived}
use Rattle.session_events.proofs.Ready.{IsReady, Reaches, answers, closing, opening, stage, upd_same, with_closed, with_hand, with_note, with_opened}

-- ---- the program of a session between two instructions

abbrev pub ready_of : session.State → Program
ready_of s = record { core = s.core; holds = map hold_seen s.holds; mode = Ready; completed = s.completed }

pub seen_at : (hs : List (Option own.Hold)) (k : ℕ) → hold_at (map hold_seen hs) k ≡ hold_seen (session.hold_at hs k)
seen_at hs k = get_or-map hold_seen hs k None

pub holding_seen : (s : session.State) (k : ℕ) (x : Option own.Hold) → holding (ready_of s) k (hold_seen x) ≡ record (ready_of s) { holds = map hold_seen (slice_set s.holds k x) }
holding_seen s k x = ap (λ (hs : List (Option Hold)). record (ready_of s) { holds = hs }) (sym (map-set hold_seen s.holds k x))

pub going_is : (s : session.State) → s.want ≡ None → ready_of s ≡ program_of s
going_is s none = ap (λ (w : Option Want). record (ready_of s) { mode = mode_of w }) (sym none)

pub finished_is : (g : Setting) (s : session.State) (v : ℕ) → s.want ≡ None → g.image ≡ s.image → finished g (ready_of s) v ≡ program_of (keeping.finished s v)
finished_is g s v none image =
    ap (λ (i : Image). record (ready_of s) { core = resumed (effect i s.core) s.core v; completed = suc s.completed }) image
    ∙ ap (λ (n : ℕ). record (ready_of s) { core = resumed (effect s.image s.core) s.core v; completed = n }) (sym (add-one s.completed))
    ∙ ap (λ (w : Option Want). record (ready_of s) { core = resumed (effect s.image s.core) s.core v; completed = s.completed + 1; mode = mode_of w }) (sym none)

-- ---- what the seat knows

-- with one note that is so
pub known_noted : (v : View) (k : Known) (o : ℕ) (n m : Note) → o < length v.notes → IsKnown v k → n ≡ m → IsKnown (seats.with_note v o m) (with_note k o n)
known_noted v k o n m here is e = record {
  nothing = is.nothing;
  past = is.past;
  notes = λ p w. elim (note_set v o m p here) [
    | inl q ↦ ap (λ (b : Bool). cond b n (k.notes p)) (eq-eqb p o q.0) ∙ e ∙ sym q.1
    | inr q ↦ ap (λ (b : Bool). cond b n (k.notes p)) (ne_eqb p o q.0) ∙ is.notes p w ∙ sym q.1
  ];
}

-- some events of the program lead to where the session is at t
abbrev pub ComesTo : Setting → Program → Known → session.State → Type 0
ComesTo g p k t = (es : List Event) × (l : Known) × Goes g p k es (program_of t) l × IsKnown t.view l

pub at_last : (g : Setting) (p : Program) (k : Known) (t : session.State) → program_of t ≡ p → IsKnown t.view k → ComesTo g p k t
at_last g p k t e is = ([], k, (e, refl, λ o w. refl), is)

pub before : (g : Setting) (p c : Program) (k y : Known) (t : session.State) → ((l : Known) → Reaches g c y (program_of t) l → Reaches g p k (program_of t) l) → ComesTo g c y t → ComesTo g p k t
before g p c k y t f r = let x = f r.1 (r.0, r.2) in (x.0, r.1, x.1, r.3)

-- ---- a scope is shut

pub closed_then : (g : Setting) (s t : session.State) (n : Known) (k : ℕ) (h : own.Hold) (x : Touch) → IsReady g (ready_of s) x → IsHolding s → session.hold_at s.holds k ≡ Some h → IsKnown s.view n
    → ((m : State) → ready g m (ready_of s) (answers true) x ≡ closes (ready_of s) k (record { object = h.object; writes = h.writes }))
    → (IsKnown (shut_at s k (Some h)).view (with_closed n h.object) → ComesTo g (ready_of (shut_at s k (Some h))) (with_closed n h.object) t) → ComesTo g (ready_of s) n t
closed_then g s t n k h x r ok e is turn rest =
    let o : ℕ = h.object in
    let own = (ok.held k h e).owns in
    let here = owned_here s o ok own in
    let some : 0 < (n.notes o).count = subst (λ (y : Note). 0 < y.count) (sym (is.notes o own)) (hold_counts s k h ok e) in
    let after = known_noted s.view n o (closed (n.notes o)) (closed (note s.view o)) here is (ap closed (is.notes o own)) in
    before g (ready_of s) (ready_of (shut_at s k (Some h))) n (with_closed n o) t
    (λ l goes. closing g (ready_of s) (ready_of (shut_at s k (Some h))) (program_of t) n l x o r
    (turn (stage (counted 0 Away) Never 0 n) ∙ ap (λ (c : Program). Calls (Closes o) (λ (m : State). c)) (holding_seen s k None)) some goes)
    (rest after)

-- ---- an object is taken

-- the hand behind the way on which an owner came to an object
abbrev pub behind_course : Setting → Hand → ℕ → Course → Hand
behind_course g x o (BroughtIn vs f) = arriving (filled_with (claiming (behind_visits g.size (bringing x o []) vs) f) g.size)
behind_course g x o (NotRead vs f) = x
behind_course g x o (NotWritten vs v f) = x

abbrev pub behind_way : Setting → Hand → ℕ → Way → Hand
behind_way g x o Found = x
behind_way g x o (Begun c) = behind_course g x o c

-- what is known then, where the object is in the frame f
abbrev note_begun : Known → ℕ → ℕ → ℕ → Note
note_begun k o f = upd (upd k.notes o (opened (k.notes o) None)) o (told (upd k.notes o (opened (k.notes o) None) o) (Some f))

abbrev pub behind_taking : Setting → Known → ℕ → Way → ℕ → Known
behind_taking g k o Found f = with_opened k o (Some f)
behind_taking g k o (Begun c) f = record { hand = behind_course g k.hand o c; notes = note_begun k o f }

notes_taken : (g : Setting) (k : Known) (o f p : ℕ) (w : Way) → (behind_taking g k o w f).notes p ≡ upd k.notes o (opened (k.notes o) (Some f)) p
notes_taken g k o f p Found = refl
notes_taken g k o f p (Begun c) =
    let a : Note = opened (k.notes o) None in
    elim (p == o) as (λ b. cond b (told (upd k.notes o a o) (Some f)) (cond b a (k.notes p)) ≡ cond b (opened (k.notes o) (Some f)) (k.notes p))
    [ true ↦ ap (λ (z : Note). told z (Some f)) (upd_same k.notes o a) | false ↦ refl ]

-- it has nothing in hand then, and what it did has come to what it had done
hand_taken : (g : Setting) (k : Known) (o f : ℕ) (w : Way) → LeadsTo w (Some f) → HasNothing k.hand → HasNothing (behind_taking g k o w f).hand × ((behind_taking g k o w f).hand.past ≡ k.hand.past ++ moves_on o w)
hand_taken g k o f Found leads h = (h, nothing_more k.hand.past)
hand_taken g k o f (Begun (BroughtIn vs j)) leads h =
    let x : Hand = bringing k.hand o [] in
    let only : HasOnly o x = (refl, h.1, h.2.0, h.2.1) in
    let still = still_only g.size o vs x leads.0 only in
    let past = past_visits g.size vs x leads.0 in (
      (refl, still.1, (refl, still.3)),
      ap (λ ms. (ms ++ Claimed j ∷ []) ++ Arrived ∷ []) past ∙ append_assoc (x.past ++ moves_in vs) (Claimed j ∷ []) (Arrived ∷ []) ∙ append_assoc x.past (moves_in vs) (Claimed j ∷ Arrived ∷ [])
          ∙ append_assoc k.hand.past (Began o ∷ []) (moves_in vs ++ Claimed j ∷ Arrived ∷ []),
    )
hand_taken g k o f (Begun (NotRead vs j)) leads h = absurd leads
hand_taken g k o f (Begun (NotWritten vs v j)) leads h = absurd leads

-- the events by which it is taken for scope k, which holds nothing
taken_by : (g : Setting) (p : Program) (n l : Known) (q : Program) (k o f : ℕ) (x : Touch) (w : Way) → IsReady g p x → LeadsTo w (Some f) → HasNothing n.hand → (n.notes o).count < 4
    → ((m : State) → ready g m p (answers true) x ≡ aims_at g p k None (Some o))
    → Reaches g (finished g (holding p k (Some (record { object = o; writes = false }))) 0) (behind_taking g n o w f) q l → Reaches g p n q l
taken_by g p n l q k o f x Found r leads nothing few turn goes =
    let c : Program = holding p k (Some (record { object = o; writes = false })) in
    let word = counted 0 (Here f false) in
    opening g p (finished g c 0) q n l x o word (found g c o) r (turn (stage word Never 0 n)) few
    (ap (λ (z : Note). cond (known z.frame) (finished g c 0) (in_mode c (Missing o))) (upd_same n.notes o (opened (n.notes o) (Some f)))) goes
taken_by g p n l q k o f x (Begun (BroughtIn vs j)) r leads nothing few turn goes =
    let c : Program = holding p k (Some (record { object = o; writes = false })) in
    let word = counted 0 Away in
    let a : Note = opened (n.notes o) None in
    let y : Known = with_opened n o None in
    let z : Known = with_hand y (bringing y.hand o []) in
    let only : HasOnly o z.hand = (refl, nothing.1, nothing.2.0, nothing.2.1) in
    let u : Known = with_hand z (behind_visits g.size z.hand vs) in
    let there : upd n.notes o a o ≡ a = upd_same n.notes o a in
    let some : 0 < (y.notes o).count = subst (λ (b : Note). 0 < b.count) (sym there) (omega arith) in
    let same : with_arrived g o u u.hand j ≡ behind_taking g n o (Begun (BroughtIn vs j)) f = ap (λ (i : ℕ). record { hand = behind_course g n.hand o (BroughtIn vs j); notes = note_begun n o i }) (sym leads.1) in
    opening g p (in_mode c (Missing o)) q n l x o word (found g c o) r (turn (stage word Never 0 n)) few
    (ap (λ (b : Note). cond (known b.frame) (finished g c 0) (in_mode c (Missing o))) there)
    (begun_then g c o y l q nothing.0 some
    (visited_then g c o vs z l q leads.0 only
    (arrived_then g c o u l q j (still_only g.size o vs z.hand leads.0 only) some (subst (λ (b : Known). Reaches g (finished g c 0) b q l) (sym same) goes))))
taken_by g p n l q k o f x (Begun (NotRead vs j)) r leads nothing few turn goes = absurd leads
taken_by g p n l q k o f x (Begun (NotWritten vs v j)) r leads nothing few turn goes = absurd leads

-- what is known of a seat that took the object
pub known_taken : (g : Setting) (v w : View) (n : Known) (o f : ℕ) (y : Way) → LeadsTo y (Some f) → o < length v.notes → IsKnown v n → w.notes ≡ (seats.with_note v o (opened (note v o) (Some f))).notes → w.low ≡ v.low → w.high ≡ v.high
    → w.hand.past ≡ v.hand.past ++ moves_on o y → Owns v o → IsKnown w (behind_taking g n o y f)
known_taken g v w n o f y leads here is notes low high did own =
    let hand = hand_taken g n o f y leads is.nothing in
    let noted = known_noted v n o (opened (n.notes o) (Some f)) (opened (note v o) (Some f)) here is (ap (λ (z : Note). opened z (Some f)) (is.notes o own)) in
    record {
      nothing = hand.0;
      past = hand.1 ∙ ap (λ ms. ms ++ moves_on o y) is.past ∙ sym did;
      notes = λ p a. notes_taken g n o f p y ∙ noted.notes p (let b = a.0 in omega arith, let b = a.1 in omega arith) ∙ ap (λ (ns : List Note). slice_index_or ns p blank) (sym notes);
    }

-- the object is taken for scope k of the session, which holds nothing
pub took_then : (g : Setting) (s t : session.State) (n : Known) (k o f : ℕ) (w : View) (x : Touch) (y : Way) → IsReady g (ready_of s) x → LeadsTo y (Some f) → IsKnown s.view n → (n.notes o).count < 4
    → ((m : State) → ready g m (ready_of s) (answers true) x ≡ aims_at g (ready_of s) k None (Some o))
    → ComesTo g (finished g (ready_of (record s { holds = slice_set s.holds k (Some (a_hold o f false)); view = w })) 0) (behind_taking g n o y f) t → ComesTo g (ready_of s) n t
took_then g s t n k o f w x y r leads is few turn rest =
    let u : session.State = record s { holds = slice_set s.holds k (Some (a_hold o f false)); view = w } in
    before g (ready_of s) (finished g (ready_of u) 0) n (behind_taking g n o y f) t
    (λ l goes. taken_by g (ready_of s) n l (program_of t) k o f x y r leads is.nothing few turn
    (subst (λ (c : Program). Reaches g (finished g c 0) (behind_taking g n o y f) (program_of t) l) (sym (holding_seen s k (Some (a_hold o f false)))) goes)) rest
