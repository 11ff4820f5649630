-- The events of an aim for which the store refuses a call.
use Rattle.std.proofs.Common.{◌≡◌, ◌≢◌, ℕ, zero, suc, ◌+◌, ◌<◌, ◌≤◌, true, false, cond, List, [], ◌∷◌, ◌++◌, append_assoc, length, map, take, refl, sym, ap, ◌∙◌, subst, inl, inr, arith, ne_eqb, eq-eqb}
use Rattle.std.specs.Prelude.{Option, Some, None, slice_index_or, slice_set}
use Rattle.std.proofs.lemmas.Bool.Decides.{eqb_tells}
use Rattle.std.proofs.lemmas.List.{get_or-set_same, get_or-set_other, length-map, length-set, map-set}
use Rattle.cells.specs.declared.ending.Want.TheVariants.{StoreFailed}
use Rattle.pointer_word.specs.Asked.{HasNothing}
use Rattle.pointer_word.specs.Hands.{Aborted, Began, Claimed, Hand, Marked, Note, Retreated, Unclaimed, aborting, blank, bringing, claiming, closed, known, opened, retreating, unclaiming, upd}
use Rattle.pointer_word.specs.Machine.{Never, State}
use Rattle.pointer_word.specs.Words.{Away, counted}
use Rattle.code_form.specs.declared.touch.Touch.{Touch}
use Rattle.object_lock.specs.Seats.{Owns, View, note}
use Rattle.object_lock.specs.Seats as seats
use Rattle.object_moves.specs.Visits.{moves_in}
use Rattle.object_moves.specs.Ways.{Begun, BroughtIn, Course, Leads, NotRead, NotWritten, moves_on}
use Rattle.session.specs.declared.hold.Hold as own
use Rattle.session.specs.Keeping.{IsHolding, Misses, a_hold, count_of, one, shut_at, wants}
use Rattle.session.specs.Performing.{shut_all, shut_first}
use Rattle.session.specs.State as session
use Rattle.session.proofs.CountsOf.{count-set}
use Rattle.session.proofs.Holding.{note_set, owned_here}
use Rattle.world_semantics.specs.declared.hold.Hold.{Hold}
use Rattle.world_semantics.specs.Programs.{Bringing, Closing, Missing, Program, Setting, Wanted, first_hold, finished, holding, in_mode}
use Rattle.world_semantics.specs.Turns.{aims_at, found, ready}
use Rattle.mover_events.proofs.Visiting.{after_copies}
use Rattle.session_events.specs.Knowing.{Known}
use Rattle.session_events.specs.Laws.{IsKnown, hold_seen, program_of}
use Rattle.session_events.proofs.Closing.{after_closings, all_none, all_open, closed_more, closed_times, closings, hand_stays, nones, notes_closed, some_held, with_holds}
use Rattle.session_events.proofs.Ending.{first_none, first_stays, freed, shut_others}
use Rattle.session_events.proofs.Fetching.{HasOnly, begun_then, behind_visits, not_read_then, not_written_then, past_visits, still_only, visited_then}
use Rattle.session_events.proofs.Ready.{IsReady, Reaches, answers, opening, stage, upd_same, with_hand, with_opened}
use Rattle.session_events.proofs.Seizing.{ComesTo, at_last, before, ready_of}

-- ---- the object is given up

-- the hand of an owner that began an object and gave it up
abbrev lost_hand : Setting → Hand → ℕ → Course → Hand
lost_hand g x o (BroughtIn vs f) = x
lost_hand g x o (NotRead vs f) = retreating (unclaiming (claiming (behind_visits g.size (bringing x o []) vs) f))
lost_hand g x o (NotWritten vs v f) = retreating (aborting (after_copies (behind_visits g.size (bringing x o []) vs) v f g.size))

hand_lost : (g : Setting) (x : Hand) (o : ℕ) (c : Course) → Leads c None → HasNothing x → HasNothing (lost_hand g x o c) × ((lost_hand g x o c).past ≡ x.past ++ moves_on o (Begun c))
hand_lost g x o (BroughtIn vs f) leads h = absurd leads
hand_lost g x o (NotRead vs f) leads h =
    let y : Hand = bringing x o [] in
    let only : HasOnly o y = (refl, h.1, h.2.0, h.2.1) in
    let still = still_only g.size o vs y leads only in (
      (refl, still.1, (refl, still.3)),
      ap (λ ms. ((ms ++ Claimed f ∷ []) ++ Unclaimed ∷ []) ++ Retreated ∷ []) (past_visits g.size vs y leads) ∙ append_assoc ((y.past ++ moves_in vs) ++ Claimed f ∷ []) (Unclaimed ∷ []) (Retreated ∷ [])
          ∙ append_assoc (y.past ++ moves_in vs) (Claimed f ∷ []) (Unclaimed ∷ Retreated ∷ []) ∙ append_assoc y.past (moves_in vs) (Claimed f ∷ Unclaimed ∷ Retreated ∷ [])
          ∙ append_assoc x.past (Began o ∷ []) (moves_in vs ++ Claimed f ∷ Unclaimed ∷ Retreated ∷ []),
    )
hand_lost g x o (NotWritten vs v f) leads h =
    let y : Hand = bringing x o [] in
    let only : HasOnly o y = (refl, h.1, h.2.0, h.2.1) in
    let still = still_only g.size o vs y leads only in (
      (refl, refl, (still.2, still.3)),
      ap (λ ms. ((ms ++ Marked v f ∷ []) ++ Aborted ∷ []) ++ Retreated ∷ []) (past_visits g.size vs y leads) ∙ append_assoc ((y.past ++ moves_in vs) ++ Marked v f ∷ []) (Aborted ∷ []) (Retreated ∷ [])
          ∙ append_assoc (y.past ++ moves_in vs) (Marked v f ∷ []) (Aborted ∷ Retreated ∷ []) ∙ append_assoc y.past (moves_in vs) (Marked v f ∷ Aborted ∷ Retreated ∷ [])
          ∙ append_assoc x.past (Began o ∷ []) (moves_in vs ++ Marked v f ∷ Aborted ∷ Retreated ∷ []),
    )

-- what is known as the holds are to be closed
abbrev with_lost : Setting → Known → ℕ → Course → Known
with_lost g n o c = record { hand = lost_hand g n.hand o c; notes = upd n.notes o (opened (n.notes o) None) }

-- the events by which it is given up, of a program whose scope k holds nothing
lost_by : (g : Setting) (p : Program) (n l : Known) (q : Program) (k o : ℕ) (x : Touch) (c : Course) → IsReady g p x → Leads c None → HasNothing n.hand → (n.notes o).count < 4
    → ((m : State) → ready g m p (answers true) x ≡ aims_at g p k None (Some o))
    → Reaches g (in_mode (holding p k (Some (record { object = o; writes = false }))) Closing) (with_lost g n o c) q l → Reaches g p n q l
lost_by g p n l q k o x c r leads nothing few turn goes =
    let d : Program = holding p k (Some (record { object = o; writes = false })) in
    let word = counted 0 Away in
    let a : Note = opened (n.notes o) None in
    let y : Known = with_opened n o None in
    let there : upd n.notes o a o ≡ a = upd_same n.notes o a in
    let some : 0 < (y.notes o).count = subst (λ (b : Note). 0 < b.count) (sym there) (omega arith) in
    opening g p (in_mode d (Missing o)) q n l x o word (found g d o) r (turn (stage word Never 0 n)) few
    (ap (λ (b : Note). cond (known b.frame) (finished g d 0) (in_mode d (Missing o))) there)
    (begun_then g d o y l q nothing.0 some (goes_on c leads goes))
  where
    goes_on : (c : Course) → Leads c None → Reaches g (in_mode (holding p k (Some (record { object = o; writes = false }))) Closing) (with_lost g n o c) q l
        → Reaches g (in_mode (holding p k (Some (record { object = o; writes = false }))) (Bringing o)) (with_hand (with_opened n o None) (bringing n.hand o [])) q l
    goes_on (BroughtIn vs f) leads goes = absurd leads
    goes_on (NotRead vs f) leads goes =
        let d : Program = holding p k (Some (record { object = o; writes = false })) in
        let z : Known = with_hand (with_opened n o None) (bringing n.hand o []) in
        let only : HasOnly o z.hand = (refl, nothing.1, nothing.2.0, nothing.2.1) in
        visited_then g d o vs z l q leads only (not_read_then g d o (with_hand z (behind_visits g.size z.hand vs)) l q f (still_only g.size o vs z.hand leads only) goes)
    goes_on (NotWritten vs v f) leads goes =
        let d : Program = holding p k (Some (record { object = o; writes = false })) in
        let z : Known = with_hand (with_opened n o None) (bringing n.hand o []) in
        let only : HasOnly o z.hand = (refl, nothing.1, nothing.2.0, nothing.2.1) in
        visited_then g d o vs z l q leads only (not_written_then g d o (with_hand z (behind_visits g.size z.hand vs)) l q v f (still_only g.size o vs z.hand leads only) goes)

-- ---- what a session knows behind all of its closes

count_take : (hs : List (Option own.Hold)) (j p : ℕ) → count_of p (take (suc j) hs) ≡ count_of p (take j hs) + one p (session.hold_at hs j)
count_take [] zero p = refl
count_take [] (suc j) p = refl
count_take (x ∷ hs) zero p = omega arith
count_take (x ∷ hs) (suc j) p = let e = count_take hs j p in omega arith

take_whole : (hs : List (Option own.Hold)) → take (length hs) hs ≡ hs
take_whole [] = refl
take_whole (x ∷ hs) = ap (λ l. x ∷ l) (take_whole hs)

-- where the first j scopes were shut, the others hold what they did
others_hold : (j : ℕ) (u : session.State) (i : ℕ) → j ≤ i → session.hold_at (shut_first j u).holds i ≡ session.hold_at u.holds i
others_hold zero u i l = refl
others_hold (suc j) u i l = shut_others (shut_first j u) j i (session.hold_at (shut_first j u).holds j) (λ e. absurd (omega arith)) ∙ others_hold j u i (omega arith)

notes_long : (j : ℕ) (u : session.State) → length (shut_first j u).view.notes ≡ length u.view.notes
notes_long zero u = refl
notes_long (suc j) u = by_hold (session.hold_at (shut_first j u).holds j) ∙ notes_long j u
  where
    by_hold : (x : Option own.Hold) → length (shut_at (shut_first j u) j x).view.notes ≡ length (shut_first j u).view.notes
    by_hold None = refl
    by_hold (Some h) = length-set (shut_first j u).view.notes h.object (closed (note (shut_first j u).view h.object))

shut_notes : (j : ℕ) (u : session.State) (p : ℕ) → ((k : ℕ) (h : own.Hold) → session.hold_at u.holds k ≡ Some h → h.object < length u.view.notes)
    → note (shut_first j u).view p ≡ closed_times (count_of p (take j u.holds)) (note u.view p)
shut_notes zero u p wide = refl
shut_notes (suc j) u p wide = by_hold (shut_notes j u p wide) (session.hold_at u.holds j) refl
  where
    by_hold : note (shut_first j u).view p ≡ closed_times (count_of p (take j u.holds)) (note u.view p) → (x : Option own.Hold) → session.hold_at u.holds j ≡ x
        → note (shut_first (suc j) u).view p ≡ closed_times (count_of p (take (suc j) u.holds)) (note u.view p)
    by_hold on None d =
        let v : session.State = shut_first j u in
        let same : shut_first (suc j) u ≡ v = ap (shut_at v j) (others_hold j u j (omega arith) ∙ d) in
        let none : one p (session.hold_at u.holds j) ≡ 0 = ap (one p) d in
        let many : count_of p (take j u.holds) ≡ count_of p (take (suc j) u.holds) = let a = count_take u.holds j p in omega arith in
        ap (λ (y : session.State). note y.view p) same ∙ on ∙ ap (λ c. closed_times c (note u.view p)) many
    by_hold on (Some h) d =
        let v : session.State = shut_first j u in
        let o : ℕ = h.object in
        let same : shut_first (suc j) u ≡ shut_at v j (Some h) = ap (shut_at v j) (others_hold j u j (omega arith) ∙ d) in
        let is : one p (session.hold_at u.holds j) ≡ one p (Some h) = ap (one p) d in
        let low : o < length v.view.notes = let a = wide j h d in let b = notes_long j u in omega arith in
        let a = count_take u.holds j p in
        let c : ℕ = count_of p (take j u.holds) in
        elim (note_set v.view o (closed (note v.view o)) p low) [
          | inl e ↦
              let here : one p (Some h) ≡ 1 = ap (λ b. cond b 1 0) (eq-eqb h.object p (sym e.0)) in
              let many : suc c ≡ count_of p (take (suc j) u.holds) = omega arith in
              ap (λ (y : session.State). note y.view p) same ∙ e.1 ∙ ap (λ i. closed (note v.view i)) (sym e.0) ∙ ap closed on ∙ sym (closed_more c (note u.view p)) ∙ ap (λ i. closed_times i (note u.view p)) many
          | inr e ↦
              let elsewhere : one p (Some h) ≡ 0 = ap (λ b. cond b 1 0) (ne_eqb h.object p (λ z. e.0 (sym z))) in
              let many : c ≡ count_of p (take (suc j) u.holds) = omega arith in
              ap (λ (y : session.State). note y.view p) same ∙ e.1 ∙ on ∙ ap (λ i. closed_times i (note u.view p)) many
        ]

all_shut_notes : (u : session.State) (p : ℕ) → ((k : ℕ) (h : own.Hold) → session.hold_at u.holds k ≡ Some h → h.object < length u.view.notes) → note (shut_all u).view p ≡ closed_times (count_of p u.holds) (note u.view p)
all_shut_notes u p wide = shut_notes (length u.holds) u p wide ∙ ap (λ hs. closed_times (count_of p hs) (note u.view p)) (take_whole u.holds)

-- all scopes hold nothing then
first_free : (j : ℕ) (u : session.State) → j ≤ length u.holds → (k : ℕ) → k < j → session.hold_at (shut_first j u).holds k ≡ None
first_free zero u l k h = absurd (omega arith)
first_free (suc j) u l k h =
    let v : session.State = shut_first j u in
    let many = (first_stays j u).many in
    freed v j (session.hold_at v.holds j) (omega arith) (first_free j u (omega arith)) refl k h

shut_holds : (u : session.State) → map hold_seen (shut_all u).holds ≡ nones (length u.holds)
shut_holds u =
    let v : session.State = shut_all u in
    let many = (first_stays (length u.holds) u).many in
    let none : first_hold (map hold_seen v.holds) ≡ None = first_none v.holds (λ i l. first_free (length u.holds) u (omega arith) i (omega arith)) in
    all_none (map hold_seen v.holds) none ∙ ap nones (length-map v.holds hold_seen ∙ many)

-- no scope holds an object of which no frame is known
count_zero : (hs : List (Option own.Hold)) (o : ℕ) → ((k : ℕ) (h : own.Hold) → session.hold_at hs k ≡ Some h → h.object ≢ o) → count_of o hs ≡ 0
count_zero [] o none = refl
count_zero (None ∷ hs) o none = let a = count_zero hs o (λ k h e. none (suc k) h e) in omega arith
count_zero (Some x ∷ hs) o none =
    let a = count_zero hs o (λ k h e. none (suc k) h e) in
    let b : one o (Some x) ≡ 0 = ap (λ c. cond c 1 0) (ne_eqb x.object o (none 0 x refl)) in
    omega arith

-- ---- the store refuses a call for an object that scope k, which holds nothing, was to hold

module _ (reliable : Type 0) (s u t : session.State) (k o : ℕ) (n : Known) (c : Course) (low : k < length s.holds) (free : session.hold_at s.holds k ≡ None) (ok : IsHolding s) (mine : Owns s.view o) (m : Misses reliable o s u)
    (leads : Leads c None) (did : u.view.hand.past ≡ s.view.hand.past ++ moves_on o (Begun c)) (e : t ≡ wants (shut_all u) StoreFailed) (is : IsKnown s.view n) (g : Setting) where
  -- what its scopes hold as they are to be closed
  abbrev held_then : List (Option own.Hold)
  held_then = slice_set s.holds k (Some (a_hold o 0 false))

  counts : (p : ℕ) → count_of p held_then ≡ count_of p s.holds + one p (Some (a_hold o 0 false))
  counts p =
      let a = count-set p s.holds k (Some (a_hold o 0 false)) low in
      let b : one p (session.hold_at s.holds k) ≡ 0 = ap (one p) free in
      omega arith

  none_before : count_of o s.holds ≡ 0
  none_before = count_zero s.holds o (λ j h d z.
      let here : (note s.view o).frame ≡ Some h.frame = ap (λ i. (note s.view i).frame) (sym z) ∙ (ok.held j h d).here in
      let clash : None ≡ Some h.frame = sym m.gives.unknown ∙ here in
      cc)

  owned_then : (j : ℕ) (h : own.Hold) → session.hold_at held_then j ≡ Some h → Owns s.view h.object
  owned_then j h d =
      elim (eqb_tells j k) [
        | inl q ↦
            let same : Some (a_hold o 0 false) ≡ Some h = sym (get_or-set_same s.holds k (Some (a_hold o 0 false)) None low) ∙ ap (session.hold_at held_then) (sym q.1) ∙ d in
            let is_it : a_hold o 0 false ≡ h = cc in
            subst (λ (y : own.Hold). Owns s.view y.object) is_it mine
        | inr q ↦ (ok.held j h (sym (get_or-set_other s.holds k j (Some (a_hold o 0 false)) None q.1) ∙ d)).owns
      ]

  enough_then : (p : ℕ) → Owns s.view p → count_of p held_then ≤ ((with_lost g n o c).notes p).count
  enough_then p w =
      let a = counts p in
      let b = ok.counted p w in
      let d = ap (λ (y : Note). y.count) (is.notes p w) in
      elim (eqb_tells p o) [
        | inl q ↦
            let x : one p (Some (a_hold o 0 false)) ≡ 1 = ap (λ b. cond b 1 0) (eq-eqb o p (sym q.1)) in
            let y : ((with_lost g n o c).notes p).count ≡ (n.notes o).count + 1 = ap (λ b. (cond b (opened (n.notes o) None) (n.notes p)).count) q.0 in
            let z : (n.notes o).count ≡ (n.notes p).count = ap (λ i. (n.notes i).count) (sym q.1) in
            omega arith
        | inr q ↦
            let x : one p (Some (a_hold o 0 false)) ≡ 0 = ap (λ b. cond b 1 0) (ne_eqb o p (λ z. q.1 (sym z))) in
            let y : ((with_lost g n o c).notes p).count ≡ (n.notes p).count = ap (λ b. (cond b (opened (n.notes o) None) (n.notes p)).count) q.0 in
            omega arith
      ]

  here_then : o < length s.view.notes
  here_then = owned_here s o ok mine

  wide_then : (j : ℕ) (h : own.Hold) → session.hold_at u.holds j ≡ Some h → h.object < length u.view.notes
  wide_then j h d =
      let same : session.hold_at s.holds j ≡ Some h = ap (λ (y : session.State). session.hold_at y.holds j) (sym m.same) ∙ d in
      let a = owned_here s h.object ok (ok.held j h same).owns in
      let b : length u.view.notes ≡ length s.view.notes = ap length m.gives.notes ∙ length-set s.view.notes o (closed (opened (note s.view o) None)) in
      omega arith

  note_lost : (p : ℕ) → note u.view p ≡ note (seats.with_note s.view o (closed (opened (note s.view o) None))) p
  note_lost p = ap (λ (ns : List Note). slice_index_or ns p blank) m.gives.notes

  notes_lost : (p : ℕ) → Owns s.view p → (after_closings held_then (with_lost g n o c)).notes p ≡ note (shut_all u).view p
  notes_lost p w =
      let l : Known = with_lost g n o c in
      let world = notes_closed held_then l p in
      let there = all_shut_notes u p wide_then in
      let holds : count_of p u.holds ≡ count_of p s.holds = ap (λ (y : session.State). count_of p y.holds) m.same in
      let a = counts p in
      elim (note_set s.view o (closed (opened (note s.view o) None)) p here_then) [
        | inl q ↦
            let x : one p (Some (a_hold o 0 false)) ≡ 1 = ap (λ b. cond b 1 0) (eq-eqb o p (sym q.0)) in
            let zero_p : count_of p s.holds ≡ 0 = ap (λ i. count_of i s.holds) q.0 ∙ none_before in
            let one_p : count_of p held_then ≡ 1 = omega arith in
            let none_p : 0 ≡ count_of p u.holds = omega arith in
            let at : l.notes p ≡ opened (note s.view o) None = ap (λ b. cond b (opened (n.notes o) None) (n.notes p)) (eq-eqb p o q.0) ∙ ap (λ (y : Note). opened y None) (is.notes o mine) in
            world ∙ ap (λ i. closed_times i (l.notes p)) one_p ∙ ap closed at ∙ sym q.1 ∙ sym (note_lost p) ∙ ap (λ i. closed_times i (note u.view p)) none_p ∙ sym there
        | inr q ↦
            let x : one p (Some (a_hold o 0 false)) ≡ 0 = ap (λ b. cond b 1 0) (ne_eqb o p (λ z. q.0 (sym z))) in
            let same_p : count_of p held_then ≡ count_of p u.holds = omega arith in
            let at : l.notes p ≡ note u.view p = ap (λ b. cond b (opened (n.notes o) None) (n.notes p)) (ne_eqb p o q.0) ∙ is.notes p w ∙ sym q.1 ∙ sym (note_lost p) in
            world ∙ ap (λ i. closed_times i (l.notes p)) same_p ∙ ap (closed_times (count_of p u.holds)) at ∙ sym there
      ]

  known_lost : IsKnown t.view (after_closings held_then (with_lost g n o c))
  known_lost =
      let l : Known = with_lost g n o c in
      let stays = first_stays (length u.holds) u in
      let hand = hand_lost g n.hand o c leads is.nothing in
      let same = hand_stays held_then l in
      subst (λ (y : session.State). IsKnown y.view (after_closings held_then l)) (sym e) (record {
        nothing = subst HasNothing (sym same) hand.0;
        past = ap (λ (x : Hand). x.past) same ∙ hand.1 ∙ ap (λ ms. ms ++ moves_on o (Begun c)) is.past ∙ sym did ∙ ap (λ (x : Hand). x.past) (sym stays.hand);
        notes = λ p w. notes_lost p (let a = w.0 in let b = stays.low in let d = m.gives.low in omega arith, let a = w.1 in let b = stays.high in let d = m.gives.high in omega arith);
      })

  program_lost : program_of t ≡ with_holds (ready_of s) (nones (0 + length held_then)) (Wanted StoreFailed)
  program_lost =
      let stays = first_stays (length u.holds) u in
      let many : length u.holds ≡ 0 + length held_then = let a = ap (λ (y : session.State). length y.holds) m.same in let b = length-set s.holds k (Some (a_hold o 0 false)) in omega arith in
      ap program_of e
      ∙ ap (λ hs. record (program_of t) { core = (shut_all u).core; holds = hs; mode = Wanted StoreFailed; completed = (shut_all u).completed }) (shut_holds u ∙ ap nones many)
      ∙ ap (λ d. record (program_of t) { core = d; holds = nones (0 + length held_then); mode = Wanted StoreFailed; completed = (shut_all u).completed }) (stays.core ∙ ap (λ (y : session.State). y.core) m.same)
      ∙ ap (λ d. record (program_of t) { core = s.core; holds = nones (0 + length held_then); mode = Wanted StoreFailed; completed = d }) (stays.completed ∙ ap (λ (y : session.State). y.completed) m.same)

  pub lost_then : (x : Touch) → IsReady g (ready_of s) x → (n.notes o).count < 4 → ((y : State) → ready g y (ready_of s) (answers true) x ≡ aims_at g (ready_of s) k None (Some o)) → ComesTo g (ready_of s) n t
  lost_then x r few turn =
      let l : Known = with_lost g n o c in
      let p : Program = with_holds (ready_of s) (nones (0 + length held_then)) (Wanted StoreFailed) in
      let seen_so = map-set hold_seen s.holds k (Some (a_hold o 0 false)) in
      before g (ready_of s) p n (after_closings held_then l) t
      (λ y goes. lost_by g (ready_of s) n y (program_of t) k o x c r leads is.nothing few turn
      (subst (λ (hs : List (Option Hold)). Reaches g (with_holds (ready_of s) hs Closing) l (program_of t) y) seen_so
      (closings g (ready_of s) y (program_of t) held_then 0 l (all_open (Owns s.view) held_then l owned_then enough_then)
      (some_held held_then k (a_hold o 0 false) (get_or-set_same s.holds k (Some (a_hold o 0 false)) None low)) goes)))
      (at_last g p (after_closings held_then l) t program_lost known_lost)
