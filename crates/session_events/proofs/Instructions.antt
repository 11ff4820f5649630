-- The events of each instruction, and of instructions one behind the other.
use Rattle.std.proofs.Common.{◌≡◌, ℕ, ◌+◌, ◌<◌, ◌≤◌, ◌%◌, Bool, true, false, cond, List, [], ◌∷◌, ◌++◌, length, refl, sym, ap, ◌∙◌, subst, inl, inr, arith}
use Rattle.std.specs.Prelude.{◌==◌, Option, Some, None, slice_set}
use Rattle.std.proofs.lemmas.Bool.{le-leb}
use Rattle.std.proofs.lemmas.Bool.Decides.{eqb_tells}
use Rattle.std.proofs.lemmas.List.{get_or-set_same, length-map, length-set}
use Rattle.pointer_word.specs.Hands.{Note, added, closed, known, writable}
use Rattle.pointer_word.specs.Machine.{Never, State}
use Rattle.pointer_word.specs.Words.{Away, counted}
use Rattle.atomic_table.specs.Seated.{TableId}
use Rattle.cells.specs.declared.ending.Want.TheVariants.{NoObjects}
use Rattle.code_form.specs.Code.{most_scopes}
use Rattle.pointer_word.specs.Calls.{Clears, Closes, Stores}
use Rattle.code_form.specs.Placed.{next_object, pieces}
use Rattle.code_form.specs.declared.touch.Cell.{Cell}
use Rattle.code_form.specs.declared.touch.Touch.{Touch}
use Rattle.code_form.specs.declared.touch.Touch.TheVariants as touch
use Rattle.object_lock.specs.Seats.{Owns, View, note}
use Rattle.session.specs.declared.hold.Hold as own
use Rattle.session.specs.Keeping.{Holds, IsHolding, IsNext, a_hold, cleared, count_of, extended, has_object, shut, shut_at, written}
use Rattle.session.specs.Keeping as keeping
use Rattle.session.specs.Performing.{Performs, PerformsBy, writing_by}
use Rattle.session.specs.State as session
use Rattle.session.proofs.Holding.{hold_counts, holding_shut, owned_here}
use Rattle.session.proofs.Places.{next_is}
use Rattle.session.proofs.Writing.{may_open}
use Rattle.world_semantics.specs.declared.hold.Hold.{Hold}
use Rattle.world_semantics.specs.Programs.{Program, Setting, Wanted, finished, in_mode, object_of}
use Rattle.world_semantics.specs.Turns.{Alone, Calls, grows, program_turn, ready, stores_to, taken}
use Rattle.mover_events.specs.Going.{Event}
use Rattle.session_events.specs.Knowing.{Goes, Known, learned}
use Rattle.session_events.specs.Laws.{DoesByEvents, IsKnown, hold_seen, program_of, setting_of}
use Rattle.session_events.proofs.Ready.{IsReady, aims_elsewhere, aims_held, aims_turn, alone, answers, clearing, closing, leaves_turn, loads_turn, stage, store_or_clear, stores_turn, storing, upd_same, with_closed, with_note}
use Rattle.session_events.proofs.Seizing.{ComesTo, at_last, before, behind_taking, closed_then, finished_is, going_is, holding_seen, known_noted, known_taken, ready_of, seen_at, took_then}
use Rattle.session_events.proofs.Ending.{ready_along, shuts_all}
use Rattle.session_events.proofs.Stated.{Took, stated, took_so}

-- a state that the seat's knowledge makes, whose cells are 0
abbrev at_rest : Known → State
at_rest n = stage (counted 0 Away) Never 0 n

-- the instruction is done at u, by events that led there
done_at : (g : Setting) (u t : session.State) (v : ℕ) (n : Known) → u.want ≡ None → g.image ≡ u.image → t ≡ keeping.finished u v → IsKnown u.view n → ComesTo g (finished g (ready_of u) v) n t
done_at g u t v n none image e is =
    at_last g (finished g (ready_of u) v) n t (ap program_of e ∙ sym (finished_is g u v none image)) (subst (λ (y : session.State). IsKnown y.view n) (sym e) is)

-- the instruction makes no call
alone_at : (g : Setting) (s t : session.State) (v : ℕ) (n : Known) (x : Touch) → IsReady g (ready_of s) x → s.want ≡ None → g.image ≡ s.image → t ≡ keeping.finished s v → IsKnown s.view n
    → ready g (stage (counted 0 Away) Never v n) (ready_of s) (answers true) x ≡ Alone (finished g (ready_of s) v) → ComesTo g (ready_of s) n t
alone_at g s t v n x r none image e is turn =
    before g (ready_of s) (finished g (ready_of s) v) n n t (λ l goes. alone g (ready_of s) (finished g (ready_of s) v) (program_of t) n l v x r turn goes) (done_at g s t v n none image e is)

-- ---- aims

held_by : (x : Option own.Hold) (o : ℕ) → has_object x o ≡ true → (h : own.Hold) × (x ≡ Some h) × (h.object ≡ o)
held_by None o e = absurd (cc)
held_by (Some h) o e = elim (eqb_tells h.object o) [ inl q ↦ (h, refl, q.1) | inr q ↦ absurd (let d : true ≡ false = sym e ∙ q.0 in cc) ]

pub not_held : (s : session.State) (k o : ℕ) (h : own.Hold) → session.hold_at s.holds k ≡ Some h → has_object (session.hold_at s.holds k) o ≡ false → (h.object == o) ≡ false
not_held s k o h e f = sym (ap (λ y. has_object y o) e) ∙ f

-- a scope that holds nothing comes to hold nothing
aims_at_none : (g : Setting) (s t : session.State) (k : ℕ) (n : Known) → let x = touch.Aims k None in IsReady g (ready_of s) x → k < length s.holds → s.want ≡ None → g.image ≡ s.image → session.hold_at s.holds k ≡ None
    → t ≡ keeping.finished s 0 → IsKnown s.view n → ComesTo g (ready_of s) n t
aims_at_none g s t k n r low none image e done is =
    alone_at g s t 0 n (touch.Aims k None) r none image done is
    (aims_turn g (at_rest n) (ready_of s) (answers true) k None None None (omega (arith, length-map s.holds hold_seen)) (seen_at s.holds k ∙ ap hold_seen e) refl)

-- a scope that holds nothing takes the object of the cell
takes_object : (g : Setting) (s u t : session.State) (k : ℕ) (a : Cell) (n : Known) → let x = touch.Aims k (Some a) in let o = object_of g (ready_of s) a in IsReady g (ready_of s) x → k < length s.holds → s.want ≡ None → g.image ≡ s.image
    → session.hold_at s.holds k ≡ None → IsHolding s → Owns s.view o → Holds k o s u → t ≡ keeping.finished u 0 → IsKnown s.view n → ComesTo g (ready_of s) n t
takes_object g s u t k a n r low none image free ok own h done is =
    let o = object_of g (ready_of s) a in
    let x = touch.Aims k (Some a) in
    let f = h.frame in
    let w = h.came.way in
    let few = (may_open s k o ok low free own) in
    let count : (n.notes o).count < 4 = let a = few.1 in let b = few.2 in let c = ap (λ (y : Note). y.count) (is.notes o own) in omega arith in
    let v : session.State = record s { holds = slice_set s.holds k (Some (a_hold o f false)); view = u.view } in
    let known = known_taken g s.view u.view n o f w h.came.leads (owned_here s o ok own) is h.takes.notes h.takes.low h.takes.high h.came.did own in
    took_then g s t n k o f u.view x w r h.came.leads is count
    (λ m. aims_turn g m (ready_of s) (answers true) k (Some a) None (Some o) (omega (arith, length-map s.holds hold_seen)) (seen_at s.holds k ∙ ap hold_seen free) refl)
    (done_at g v t 0 (behind_taking g n o w f) none image (done ∙ ap (λ y. keeping.finished y 0) h.same) known)

abbrev pub seen : own.Hold → Hold
seen h = record { object = h.object; writes = h.writes }

-- what scope k holds is let go, and then it is ready for the same instruction
pub shut_ready : (g : Setting) (s : session.State) (k : ℕ) (h : own.Hold) (x : Touch) → IsReady g (ready_of s) x → IsReady g (ready_of (shut_at s k (Some h))) x
shut_ready g s k h x r = ready_along g s (shut_at s k (Some h)) x refl r

aims_none : (g : Setting) (s u t : session.State) (k : ℕ) (n : Known) → IsReady g (ready_of s) (touch.Aims k None) → k < length s.holds → s.want ≡ None → g.image ≡ s.image → IsHolding s → u ≡ shut s k → t ≡ keeping.finished u 0
    → IsKnown s.view n → ComesTo g (ready_of s) n t
aims_none g s u t k n r low none image ok e done is = by_hold (session.hold_at s.holds k) refl
  where
    by_hold : (y : Option own.Hold) → session.hold_at s.holds k ≡ y → ComesTo g (ready_of s) n t
    by_hold None d = aims_at_none g s t k n r low none image d (done ∙ ap (λ z. keeping.finished z 0) (e ∙ ap (shut_at s k) d)) is
    by_hold (Some h) d =
        let v : session.State = shut_at s k (Some h) in
        let x : Touch = touch.Aims k None in
        let less : k < length v.holds = let z = length-set s.holds k None in omega arith in
        closed_then g s t n k h x r ok d is
        (λ m. aims_turn g m (ready_of s) (answers true) k None (Some (seen h)) None (omega (arith, length-map s.holds hold_seen)) (seen_at s.holds k ∙ ap hold_seen d) refl)
        (λ known. aims_at_none g v t k (with_closed n h.object) (shut_ready g s k h x r) less none image (get_or-set_same s.holds k None None low) (done ∙ ap (λ z. keeping.finished z 0) (e ∙ ap (shut_at s k) d)) known)

aims_some : (g : Setting) (s u t : session.State) (k : ℕ) (a : Cell) (n : Known) → let o : ℕ = object_of g (ready_of s) a in IsReady g (ready_of s) (touch.Aims k (Some a)) → k < length s.holds → s.want ≡ None → g.image ≡ s.image → IsHolding s
    → Took k o s u → t ≡ keeping.finished u 0 → IsKnown s.view n → ComesTo g (ready_of s) n t
aims_some g s u t k a n r low none image ok (inl b) done is =
    let o : ℕ = object_of g (ready_of s) a in
    let x : Touch = touch.Aims k (Some a) in
    let y = held_by (session.hold_at s.holds k) o b.0 in
    alone_at g s t 0 n x r none image (done ∙ ap (λ z. keeping.finished z 0) b.1) is
    (aims_turn g (at_rest n) (ready_of s) (answers true) k (Some a) (Some (seen y.0)) (Some o) (omega (arith, length-map s.holds hold_seen)) (seen_at s.holds k ∙ ap hold_seen y.1) refl ∙ aims_held g (ready_of s) k o (seen y.0) y.2)
aims_some g s u t k a n r low none image ok (inr b) done is = by_hold (session.hold_at s.holds k) refl
  where
    by_hold : (y : Option own.Hold) → session.hold_at s.holds k ≡ y → ComesTo g (ready_of s) n t
    by_hold None d = takes_object g s u t k a n r low none image d ok b.1 (subst (λ (z : session.State). Holds k (object_of g (ready_of s) a) z u) (ap (shut_at s k) d) b.2) done is
    by_hold (Some h) d =
        let o : ℕ = object_of g (ready_of s) a in
        let x : Touch = touch.Aims k (Some a) in
        let v : session.State = shut_at s k (Some h) in
        let less : k < length v.holds = let z = length-set s.holds k None in omega arith in
        closed_then g s t n k h x r ok d is
        (λ m. aims_turn g m (ready_of s) (answers true) k (Some a) (Some (seen h)) (Some o) (omega (arith, length-map s.holds hold_seen)) (seen_at s.holds k ∙ ap hold_seen d) refl
        ∙ aims_elsewhere g (ready_of s) k o (seen h) (not_held s k o h d b.0))
        (λ known. takes_object g v u t k a (with_closed n h.object) (shut_ready g s k h x r) less none image (get_or-set_same s.holds k None None low) (holding_shut s k (Some h) d ok low) b.1
        (subst (λ (z : session.State). Holds k o z u) (ap (shut_at s k) d) b.2) done known)

-- ---- leaves, loads and stores

leaves_so : (g : Setting) (s t : session.State) (k : ℕ) (n : Known) → IsReady g (ready_of s) (touch.Leaves k) → k < length s.holds → s.want ≡ None → g.image ≡ s.image → IsHolding s → t ≡ keeping.finished (shut s k) 0
    → IsKnown s.view n → ComesTo g (ready_of s) n t
leaves_so g s t k n r low none image ok done is = by_hold (session.hold_at s.holds k) refl
  where
    by_hold : (y : Option own.Hold) → session.hold_at s.holds k ≡ y → ComesTo g (ready_of s) n t
    by_hold None d = alone_at g s t 0 n (touch.Leaves k) r none image (done ∙ ap (λ z. keeping.finished z 0) (ap (shut_at s k) d)) is (leaves_turn g (at_rest n) (ready_of s) (answers true) k None (seen_at s.holds k ∙ ap hold_seen d))
    by_hold (Some h) d =
        let v : session.State = shut_at s k (Some h) in
        let o : ℕ = h.object in
        let own = (ok.held k h d).owns in
        let some : 0 < (n.notes o).count = subst (λ (y : Note). 0 < y.count) (sym (is.notes o own)) (hold_counts s k h ok d) in
        let known = known_noted s.view n o (closed (n.notes o)) (closed (note s.view o)) (owned_here s o ok own) is (ap closed (is.notes o own)) in
        before g (ready_of s) (finished g (ready_of v) 0) n (with_closed n o) t
        (λ l goes. closing g (ready_of s) (finished g (ready_of v) 0) (program_of t) n l (touch.Leaves k) o r
        (leaves_turn g (at_rest n) (ready_of s) (answers true) k (Some (seen h)) (seen_at s.holds k ∙ ap hold_seen d) ∙ ap (λ (c : Program). Calls (Closes o) (λ (m : State). finished g c 0)) (holding_seen s k None)) some goes)
        (done_at g v t 0 (with_closed n o) none image (done ∙ ap (λ z. keeping.finished z 0) (ap (shut_at s k) d)) known)

loads_so : (g : Setting) (s t : session.State) (k : ℕ) (a : Cell) (v : ℕ) (h : own.Hold) (n : Known) → IsReady g (ready_of s) (touch.Loads k a) → s.want ≡ None → g.image ≡ s.image → IsHolding s → session.hold_at s.holds k ≡ Some h
    → object_of g (ready_of s) a ≡ h.object → t ≡ keeping.finished s v → IsKnown s.view n → ComesTo g (ready_of s) n t
loads_so g s t k a v h n r none image ok d same done is =
    let held = ok.held k h d in
    let there : (n.notes h.object).frame ≡ Some h.frame = ap (λ (y : Note). y.frame) (is.notes h.object held.owns) ∙ held.here in
    alone_at g s t v n (touch.Loads k a) r none image done is (loads_turn g (stage (counted 0 Away) Never v n) (ready_of s) (answers true) k h.object h.frame a (seen h) (seen_at s.holds k ∙ ap hold_seen d) refl same there)

-- the object is written by a hold that is one for writing
writes_so : (g : Setting) (s t : session.State) (k : ℕ) (a : Cell) (v o f i : ℕ) (n : Known) → IsReady g (ready_of s) (touch.Stores k a v) → s.want ≡ None → g.image ≡ s.image → session.hold_at s.holds k ≡ Some (a_hold o f true)
    → object_of g (ready_of s) a ≡ o → i ≡ a.index % g.size → Owns s.view o → o < length s.view.notes → (n.notes o).frame ≡ Some f → (n.notes o).writing ≡ true → t ≡ keeping.finished (written s (a_hold o f true) i v) 0 → IsKnown s.view n
    → ComesTo g (ready_of s) n t
writes_so g s t k a v o f i n r none image d same place own here there writes done is =
    let u : session.State = written s (a_hold o f true) i v in
    let known = known_noted s.view n o (added (n.notes o) i v) (added (note s.view o) i v) here is (ap (λ (y : Note). added y i v) (is.notes o own)) in
    before g (ready_of s) (finished g (ready_of u) 0) n (with_note n o (added (n.notes o) i v)) t
    (λ l goes. storing g (ready_of s) (finished g (ready_of u) 0) (program_of t) n l (touch.Stores k a v) o f i v r
    (stores_turn g (at_rest n) (ready_of s) (answers true) k o a v (seen (a_hold o f true)) (seen_at s.holds k ∙ ap hold_seen d) refl same
    ∙ ap (λ y. stores_to g (ready_of s) y o (a.index % g.size) v) there ∙ ap (λ j. Calls (Stores o f j v) (λ (m : State). finished g (ready_of s) 0)) (sym place)) there writes goes)
    (done_at g u t 0 (with_note n o (added (n.notes o) i v)) none image done known)

-- the hold of scope k, by whether it is one for writing
held_for : (h : own.Hold) (b : Bool) → h.writes ≡ b → h ≡ a_hold h.object h.frame b
held_for h b e = ap (λ c. a_hold h.object h.frame c) e

stores_so : (g : Setting) (s t : session.State) (k : ℕ) (a : Cell) (v : ℕ) (h : own.Hold) (n : Known) → IsReady g (ready_of s) (touch.Stores k a v) → k < length s.holds → s.want ≡ None → g.image ≡ s.image → IsHolding s → session.hold_at s.holds k ≡ Some h
    → object_of g (ready_of s) a ≡ h.object → g.size ≡ s.view.sizes.cells → t ≡ keeping.finished (written (writing_by s k h) h (a.index % s.view.sizes.cells) v) 0 → IsKnown s.view n → ComesTo g (ready_of s) n t
stores_so g s t k a v h n r low none image ok d same size done is = by_way h.writes refl
  where
    by_way : (b : Bool) → h.writes ≡ b → ComesTo g (ready_of s) n t
    by_way true e =
        let o : ℕ = h.object in
        let f : ℕ = h.frame in
        let i : ℕ = a.index % s.view.sizes.cells in
        let held = ok.held k h d in
        let noted = is.notes o held.owns in
        let exact : t ≡ keeping.finished (written s (a_hold o f true) i v) 0 = done ∙ ap (λ b. keeping.finished (written (cond b s (cleared s k h)) h i v) 0) e in
        writes_so g s t k a v o f i n r none image (d ∙ ap Some (held_for h true e)) same (ap (λ m. a.index % m) (sym size)) held.owns (owned_here s o ok held.owns)
        (ap (λ (y : Note). y.frame) noted ∙ held.here) (ap (λ (y : Note). y.writing) noted ∙ held.writing e) exact is
    by_way false e =
        let o : ℕ = h.object in
        let f : ℕ = h.frame in
        let i : ℕ = a.index % s.view.sizes.cells in
        let held = ok.held k h d in
        let noted = is.notes o held.owns in
        let here = owned_here s o ok held.owns in
        let u : session.State = cleared s k h in
        let y : Known = with_note n o (writable (n.notes o)) in
        let there : (n.notes o).frame ≡ Some f = ap (λ (z : Note). z.frame) noted ∙ held.here in
        let some : 0 < (n.notes o).count = subst (λ (z : Note). 0 < z.count) (sym noted) (hold_counts s k h ok d) in
        let after = known_noted s.view n o (writable (n.notes o)) (writable (note s.view o)) here is (ap writable noted) in
        let now : y.notes o ≡ writable (n.notes o) = upd_same n.notes o (writable (n.notes o)) in
        let exact : t ≡ keeping.finished (written u (a_hold o f true) i v) 0 = done ∙ ap (λ b. keeping.finished (written (cond b s (cleared s k h)) h i v) 0) e in
        let less : o < length u.view.notes = let z = length-set s.view.notes o (writable (note s.view o)) in omega arith in
        before g (ready_of s) (ready_of u) n y t
        (λ l goes. clearing g (ready_of s) (ready_of u) (program_of t) n l (touch.Stores k a v) o r
        (stores_turn g (at_rest n) (ready_of s) (answers true) k o a v (seen h) (seen_at s.holds k ∙ ap hold_seen d) refl same
        ∙ ap (λ (b : Bool). store_or_clear g (at_rest n) (ready_of s) k o (a.index % g.size) v b) e ∙ ap (λ (c : Program). Calls (Clears o) (λ (m : State). c)) (holding_seen s k (Some (a_hold o f true)))) some goes)
        (writes_so g u t k a v o f i y (ready_along g s u (touch.Stores k a v) refl r) none image (get_or-set_same s.holds k (Some (a_hold o f true)) None low) same (ap (λ m. a.index % m) (sym size)) held.owns less
        (ap (λ (z : Note). z.frame) now ∙ there) (ap (λ (z : Note). z.writing) now ∙ ap known there) exact after)

-- ---- allocations

allocates_so : (g : Setting) (s t : session.State) (many : ℕ) (n : Known) → IsReady g (ready_of s) (touch.Allocs many) → s.want ≡ None → g.image ≡ s.image → g.size ≡ s.view.sizes.cells → g.base ≡ s.view.low → g.limit ≡ s.view.high → IsHolding s
    → s.next + pieces s.view.sizes.cells many ≤ s.view.high → t ≡ extended s many → IsKnown s.view n → ComesTo g (ready_of s) n t
allocates_so g s t many n r none image size base limit ok room done is =
    let behind = next_is s.view.sizes.cells s.view.low (session.cells_in s) s.firsts s.next ok.placed in
    let next : next_object g.size g.base (session.cells_in s) ≡ s.next = ap (λ z. next_object z g.base (session.cells_in s)) size ∙ ap (λ z. next_object s.view.sizes.cells z (session.cells_in s)) base ∙ sym behind in
    let cells : pieces g.size many ≡ pieces s.view.sizes.cells many = ap (λ z. pieces z many) size in
    let fits : next_object g.size g.base (session.cells_in s) + pieces g.size many ≤ g.limit = omega arith in
    before g (ready_of s) (finished g (ready_of s) 0) n n t
    (λ l goes. alone g (ready_of s) (finished g (ready_of s) 0) (program_of t) n l 0 (touch.Allocs many) r
    (ap (λ b. cond b (Alone (grows g (ready_of s) (answers true))) (Alone (in_mode (ready_of s) (Wanted NoObjects)))) (le-leb (next_object g.size g.base (session.cells_in s) + pieces g.size many) g.limit fits)) goes)
    (at_last g (finished g (ready_of s) 0) n t (ap program_of done ∙ sym (finished_is g s 0 none image)) (subst (λ (y : session.State). IsKnown y.view n) (sym done) is))

-- ---- one instruction

-- the scope of an instruction is one of four
pub scope_low : (s : session.State) (k : ℕ) → IsHolding s → k < most_scopes s.image.functions → k < length s.holds
scope_low s k h l = let a = h.four in let b = h.few in omega arith

one : (honest : Type 0) (s t : session.Logged) (x : Touch) (n : Known) → IsHolding s.state → s.state.want ≡ None → IsNext x s.state → Performs honest x s t → IsKnown s.state.view n → ComesTo (setting_of s.state) (ready_of s.state) n t.state
one honest s t touch.Plain n ok none next done is = alone_at (setting_of s.state) s.state t.state 0 n touch.Plain (record { mode = refl; free = next.free; is = next.is }) none refl (ap stated done) is refl
one honest s t (touch.Hints w) n ok none next done is = alone_at (setting_of s.state) s.state t.state 0 n (touch.Hints w) (record { mode = refl; free = next.free; is = next.is }) none refl (ap stated done) is refl
one honest s t (touch.Aims k None) n ok none next done is =
    aims_none (setting_of s.state) s.state done.0.state t.state k n (record { mode = refl; free = next.free; is = next.is }) (scope_low s.state k ok next.within.0) none refl ok done.1.0 (ap stated done.2) is
one honest s t (touch.Aims k (Some a)) n ok none next done is =
    aims_some (setting_of s.state) s.state done.0.state t.state k a n (record { mode = refl; free = next.free; is = next.is }) (scope_low s.state k ok next.within.0) none refl ok
    (took_so k (session.object_of s.state a) s done.0 done.1) (ap stated done.2) is
one honest s t (touch.Loads k a) n ok none next done is =
    loads_so (setting_of s.state) s.state t.state k a done.3.0 done.0 n (record { mode = refl; free = next.free; is = next.is }) none refl ok done.1 (sym done.2) (ap stated done.3.2) is
one honest s t (touch.Stores k a v) n ok none next done is =
    stores_so (setting_of s.state) s.state t.state k a v done.0 n (record { mode = refl; free = next.free; is = next.is }) (scope_low s.state k ok next.within.0) none refl ok done.1 (sym done.2) refl done.3 is
one honest s t (touch.Leaves k) n ok none next done is =
    leaves_so (setting_of s.state) s.state t.state k n (record { mode = refl; free = next.free; is = next.is }) (scope_low s.state k ok next.within) none refl ok
    (ap stated done.2 ∙ ap (λ (y : session.State). keeping.finished y 0) done.1.0) is
one honest s t (touch.Allocs many) n ok none next done is =
    allocates_so (setting_of s.state) s.state t.state many n (record { mode = refl; free = next.free; is = next.is }) none refl refl refl refl ok done.0 (ap stated done.1) is
one honest s t touch.Ends n ok none next done is =
    shuts_all (setting_of s.state) s.state t.state (record { mode = refl; free = next.free; is = next.is }) refl none (ap stated done.2 ∙ ap (λ (y : session.State). keeping.finished y 0) done.1.0) n ok is
one honest s t touch.Wrong n ok none next done is = absurd done
one honest s t touch.Nothing n ok none next done is = absurd done

-- ---- one behind the other

pub same_setting : (s t : session.State) → session.SameProgram s t → setting_of t ≡ setting_of s
same_setting s t e =
    let size : t.view.sizes.cells ≡ s.view.sizes.cells = ap (λ (v : TableId × View). v.1.sizes.cells) e.3 in
    let number : t.view.number ≡ s.view.number = ap (λ (v : TableId × View). v.1.number) e.3 in
    ap (λ i. record (setting_of t) { image = i }) e.0 ∙ ap (λ z. record (setting_of t) { image = s.image; base = z }) e.1 ∙ ap (λ z. record (setting_of t) { image = s.image; base = s.view.low; limit = z }) e.2
    ∙ ap (λ z. record (setting_of t) { image = s.image; base = s.view.low; limit = s.view.high; size = z }) size ∙ ap (λ z. record (setting_of s) { mover = z }) number

-- events behind events
pub goes_on : (g : Setting) (p q r : Program) (k l m : Known) (es fs : List Event) → Goes g p k es q l → Goes g q l fs r m → Goes g p k (es ++ fs) r m
goes_on g p q r k l m [] fs a b = first_known fs b
  where
    first_known : (fs : List Event) → Goes g q l fs r m → Goes g p k fs r m
    first_known [] b = (b.0 ∙ a.0, b.1 ∙ a.1, λ o w. b.2 o w ∙ a.2 o w)
    first_known (f ∷ fs) b = ((b.0.0 ∙ a.1, λ o w. b.0.1 o w ∙ a.2 o w), (b.1.0, b.1.1, subst (λ (c : Program). taken g.size f.state (program_turn g f.state c f.choice f.answer) ≡ Some (b.1.0, b.1.1)) a.0 b.1.2, b.1.3))
goes_on g p q r k l m (e ∷ es) fs a b = (a.0, (a.1.0, a.1.1, a.1.2, goes_on g a.1.1 q r (learned g a.1.0) l m es fs a.1.3 b))

pub all : (honest : Type 0) (us : List session.Logged) (s t : session.Logged) → PerformsBy honest us s t → DoesByEvents s.state t.state
all honest [] s t e = λ k is. ([], k, (ap (λ (y : session.Logged). program_of y.state) e, refl, λ o w. refl), subst (λ (y : session.Logged). IsKnown y.state.view k) (sym e) is)
all honest (u ∷ us) s t d = λ k is.
    let first = one honest s u d.0.touch k d.0.safe.holding d.0.going.1 d.0.next d.0.performed is in
    let rest = all honest us u t d.1 first.1 first.3 in
    let goes : Goes (setting_of s.state) (program_of s.state) k first.0 (program_of u.state) first.1 = subst (λ (p : Program). Goes (setting_of s.state) p k first.0 (program_of u.state) first.1) (going_is s.state d.0.going.1) first.2 in
    let on : Goes (setting_of s.state) (program_of u.state) first.1 rest.0 (program_of t.state) rest.1 = subst (λ g. Goes g (program_of u.state) first.1 rest.0 (program_of t.state) rest.1) (same_setting s.state u.state d.0.same) rest.2 in
    (first.0 ++ rest.0, rest.1, goes_on (setting_of s.state) (program_of s.state) (program_of u.state) (program_of t.state) k first.1 rest.1 first.0 rest.0 goes on, rest.3)
