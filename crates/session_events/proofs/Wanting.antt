-- The events of a run, and of what it came to want.
use Rattle.std.proofs.Common.{◌≡◌, ◌≢◌, ℕ, ◌+◌, ◌<◌, true, false, cond, List, ◌∷◌, [], ◌++◌, length, refl, sym, ap, ◌∙◌, subst, inl, inr, arith}
use Rattle.std.specs.Prelude.{◌⊎◌, None, Option, Some}
use Rattle.std.proofs.lemmas.Bool.{le-leb, lt-leb}
use Rattle.std.proofs.lemmas.List.{get_or-set_same, length-map, length-set}
use Rattle.cells.specs.declared.ending.Run as ending
use Rattle.cells.specs.declared.ending.Run.TheVariants as Run
use Rattle.cells.specs.declared.ending.Want.{Want}
use Rattle.cells.specs.declared.ending.Want.TheVariants.{NoObjects, OutOfMemory, StoreFailed}
use Rattle.code_form.specs.Code.{Core, effect, is_blocked}
use Rattle.code_form.specs.Form.{Image}
use Rattle.code_form.specs.Growth.{may_grow, rest_of}
use Rattle.code_form.specs.Placed.{next_object, pieces}
use Rattle.code_form.specs.Touches.{touch_of}
use Rattle.code_form.specs.declared.touch.Cell.{Cell}
use Rattle.code_form.specs.declared.touch.Touch.{Touch}
use Rattle.code_form.specs.declared.touch.Touch.TheVariants as touch
use Rattle.pointer_word.specs.Hands.{Note}
use Rattle.pointer_word.specs.Machine.{Never, State}
use Rattle.pointer_word.specs.Words.{Away, counted}
use Rattle.object_lock.specs.Seats.{Owns}
use Rattle.object_moves.specs.Ways.{Begun, Found, LeadsTo, Way, moves_on}
use Rattle.session.specs.declared.hold.Hold as own
use Rattle.session.specs.Keeping.{IsHolding, IsNext, Misses, shut_at, wants}
use Rattle.session.specs.Performing.{Acts, GivesIn, LosesAt, PerformsBy, WantsNext, shut_all}
use Rattle.session.specs.State as session
use Rattle.session.proofs.Holding.{holding_shut}
use Rattle.session.proofs.Writing.{may_open}
use Rattle.world_semantics.specs.declared.event.Choice.TheVariants as choice
use Rattle.world_semantics.specs.Programs.{Program, Setting, Wanted, finished, in_mode, object_of}
use Rattle.world_semantics.specs.Turns.{Alone, Answer, grows, ready, taken}
use Rattle.session_events.specs.Knowing.{Goes, Known}
use Rattle.session_events.specs.Laws.{DoesByEvents, IsKnown, hold_seen, program_of, setting_of}
use Rattle.session_events.proofs.Ending.{first_stays}
use Rattle.session_events.proofs.Instructions.{all, goes_on, not_held, same_setting, scope_low, seen, shut_ready}
use Rattle.session_events.proofs.Losing.{lost_then}
use Rattle.session_events.proofs.Ready.{IsReady, aims_elsewhere, aims_turn, answers, stage, step, turn_of, with_closed}
use Rattle.session_events.proofs.Seizing.{ComesTo, at_last, before, closed_then, going_is, ready_of, seen_at}
use Rattle.session_events.proofs.Stated.{Missed, gave_in, missed_so, stated}

-- memory does not grow
abbrev pub refuses : Answer
refuses = record { stored = true; read = None; grew = false }

-- one event, with no call, by which the program comes to want something
wanted_by : (g : Setting) (s t : session.State) (w : Want) (n : Known) (x : Touch) → IsReady g (ready_of s) x → t ≡ wants s w → IsKnown s.view n
    → ready g (stage (counted 0 Away) Never 0 n) (ready_of s) refuses x ≡ Alone (in_mode (ready_of s) (Wanted w)) → ComesTo g (ready_of s) n t
wanted_by g s t w n x r e is turn =
    let m : State = stage (counted 0 Away) Never 0 n in
    let c : Program = in_mode (ready_of s) (Wanted w) in
    before g (ready_of s) c n n t
    (λ l goes. step g (ready_of s) c (program_of t) n n l m m choice.Next refuses refl refl (ap (taken g.size m) (turn_of g m (ready_of s) refuses x r ∙ turn)) refl refl goes)
    (at_last g c n t (ap program_of e) (subst (λ (y : session.State). IsKnown y.view n) (sym e) is))

-- memory is refused to an instruction for which it may have to grow
refused_at : (s : session.State) → may_grow (session.next_touch s) (rest_of s.core) ≡ true → grows (setting_of s) (ready_of s) refuses ≡ in_mode (ready_of s) (Wanted OutOfMemory)
refused_at s grow = ap (λ b. cond b (in_mode (ready_of s) (Wanted OutOfMemory)) (finished (setting_of s) (ready_of s) 0)) grow

-- which turn it takes, but for a stop
pub refused_turn : (s : session.State) (m : State) (x : Touch) → may_grow (session.next_touch s) (rest_of s.core) ≡ true → may_grow x (rest_of s.core) ≡ true → session.HasRoom s x → x ≢ touch.Ends
    → ready (setting_of s) m (ready_of s) refuses x ≡ Alone (in_mode (ready_of s) (Wanted OutOfMemory))
refused_turn s m touch.Plain grow here room other = ap Alone (refused_at s grow)
refused_turn s m (touch.Allocs n) grow here room other =
    let size : ℕ = s.view.sizes.cells in
    ap (λ b. cond b (Alone (grows (setting_of s) (ready_of s) refuses)) (Alone (in_mode (ready_of s) (Wanted NoObjects)))) (le-leb (next_object size s.view.low (session.cells_in s) + pieces size n) s.view.high room)
    ∙ ap Alone (refused_at s grow)
refused_turn s m touch.Ends grow here room other = absurd (other refl)
refused_turn s m (touch.Hints w) grow here room other = absurd (cc here)
refused_turn s m (touch.Aims k w) grow here room other = absurd (cc here)
refused_turn s m (touch.Loads k a) grow here room other = absurd (cc here)
refused_turn s m (touch.Stores k a v) grow here room other = absurd (cc here)
refused_turn s m (touch.Leaves k) grow here room other = absurd (cc here)
refused_turn s m touch.Wrong grow here room other = absurd (cc here)
refused_turn s m touch.Nothing grow here room other = absurd (cc here)

-- the pieces of an allocation do not fit
pub full_turn : (s : session.State) (m : State) (n : ℕ) → s.view.high < next_object s.view.sizes.cells s.view.low (session.cells_in s) + pieces s.view.sizes.cells n
    → ready (setting_of s) m (ready_of s) refuses (touch.Allocs n) ≡ Alone (in_mode (ready_of s) (Wanted NoObjects))
full_turn s m n full =
    let size : ℕ = s.view.sizes.cells in
    ap (λ b. cond b (Alone (grows (setting_of s) (ready_of s) refuses)) (Alone (in_mode (ready_of s) (Wanted NoObjects)))) (lt-leb (next_object size s.view.low (session.cells_in s) + pieces size n) s.view.high full)

pub same_next : (s t : session.State) (w : Want) → t ≡ wants s w → session.next_touch t ≡ session.next_touch s
same_next s t w e = ap session.next_touch e

-- ---- the store refuses a call

-- the object of the cell was to be taken for scope k, which holds nothing
loses_object : (reliable : Type 0) (g : Setting) (s u t : session.State) (k : ℕ) (a : Cell) (n : Known) → let o : ℕ = object_of g (ready_of s) a in IsReady g (ready_of s) (touch.Aims k (Some a)) → k < length s.holds → session.hold_at s.holds k ≡ None
    → IsHolding s → Owns s.view o → Misses reliable o s u → t ≡ wants (shut_all u) StoreFailed → IsKnown s.view n → ComesTo g (ready_of s) n t
loses_object reliable g s u t k a n r low free ok mine m e is = by_way m.came.way m.came.leads m.came.did
  where
    by_way : (w : Way) → LeadsTo w None → u.view.hand.past ≡ s.view.hand.past ++ moves_on (object_of g (ready_of s) a) w → ComesTo g (ready_of s) n t
    by_way Found leads did = absurd leads
    by_way (Begun c) leads did =
        let o : ℕ = object_of g (ready_of s) a in
        let few = may_open s k o ok low free mine in
        let count : (n.notes o).count < 4 = let x = few.1 in let y = few.2 in let z = ap (λ (b : Note). b.count) (is.notes o mine) in omega arith in
        lost_then reliable s u t k o n c low free ok mine m leads did e is g (touch.Aims k (Some a)) r count
        (λ b. aims_turn g b (ready_of s) (answers true) k (Some a) None (Some o) (omega (arith, length-map s.holds hold_seen)) (seen_at s.holds k ∙ ap hold_seen free) refl)

loses_some : (reliable : Type 0) (g : Setting) (s u t : session.State) (k : ℕ) (a : Cell) (n : Known) → let o : ℕ = object_of g (ready_of s) a in IsReady g (ready_of s) (touch.Aims k (Some a)) → k < length s.holds → IsHolding s → Missed reliable k o s u
    → t ≡ wants (shut_all u) StoreFailed → IsKnown s.view n → ComesTo g (ready_of s) n t
loses_some reliable g s u t k a n r low ok b e is = by_hold (session.hold_at s.holds k) refl
  where
    by_hold : (y : Option own.Hold) → session.hold_at s.holds k ≡ y → ComesTo g (ready_of s) n t
    by_hold None d = loses_object reliable g s u t k a n r low d ok b.1 (subst (λ (z : session.State). Misses reliable (object_of g (ready_of s) a) z u) (ap (shut_at s k) d) b.2) e is
    by_hold (Some h) d =
        let o : ℕ = object_of g (ready_of s) a in
        let x : Touch = touch.Aims k (Some a) in
        let v : session.State = shut_at s k (Some h) in
        let less : k < length v.holds = let z = length-set s.holds k None in omega arith in
        closed_then g s t n k h x r ok d is
        (λ m. aims_turn g m (ready_of s) (answers true) k (Some a) (Some (seen h)) (Some o) (omega (arith, length-map s.holds hold_seen)) (seen_at s.holds k ∙ ap hold_seen d) refl
        ∙ aims_elsewhere g (ready_of s) k o (seen h) (not_held s k o h d b.0))
        (λ known. loses_object reliable g v u t k a (with_closed n h.object) (shut_ready g s k h x r) less (get_or-set_same s.holds k None None low) (holding_shut s k (Some h) d ok low) b.1
        (subst (λ (z : session.State). Misses reliable o z u) (ap (shut_at s k) d) b.2) e known)

lost_so : (reliable : Type 0) (x : Touch) (s u t : session.Logged) (n : Known) → IsHolding s.state → IsNext x s.state → LosesAt reliable x s u → GivesIn u t → IsKnown s.state.view n → ComesTo (setting_of s.state) (ready_of s.state) n t.state
lost_so reliable (touch.Aims k (Some a)) s u t n ok next lost e is =
    loses_some reliable (setting_of s.state) s.state u.state t.state k a n (record { mode = refl; free = next.free; is = next.is }) (scope_low s.state k ok next.within.0) ok
    (missed_so reliable k (session.object_of s.state a) s u lost) (gave_in u t e) is
lost_so reliable (touch.Aims k None) s u t n ok next lost e is = absurd lost
lost_so reliable touch.Plain s u t n ok next lost e is = absurd lost
lost_so reliable (touch.Hints w) s u t n ok next lost e is = absurd lost
lost_so reliable (touch.Loads k a) s u t n ok next lost e is = absurd lost
lost_so reliable (touch.Stores k a v) s u t n ok next lost e is = absurd lost
lost_so reliable (touch.Leaves k) s u t n ok next lost e is = absurd lost
lost_so reliable (touch.Allocs m) s u t n ok next lost e is = absurd lost
lost_so reliable touch.Ends s u t n ok next lost e is = absurd lost
lost_so reliable touch.Wrong s u t n ok next lost e is = absurd lost
lost_so reliable touch.Nothing s u t n ok next lost e is = absurd lost

-- where the code was halted it is so behind the closes
halted_still : (s t : session.State) → t ≡ wants (shut_all s) StoreFailed → session.IsHalted s → session.IsHalted t
halted_still s t e h =
    let a = first_stays (length s.holds) s in
    let there : session.IsHalted (shut_all s) =
    subst (λ (i : Image). (touch_of (effect i (shut_all s).core) ≡ touch.Wrong) ⊎ ((touch_of (effect i (shut_all s).core) ≡ touch.Nothing) ⊎ (is_blocked (shut_all s).core ≡ true))) (sym a.image)
    (subst (λ (c : Core). (touch_of (effect s.image c) ≡ touch.Wrong) ⊎ ((touch_of (effect s.image c) ≡ touch.Nothing) ⊎ (is_blocked c ≡ true))) (sym a.core) h) in
    subst (λ (y : session.State). session.IsHalted y) (sym e) there

-- what is wanted for a cause
wanted_so : (reliable : Type 0) (w : Want) (s t : session.Logged) → WantsNext reliable w s t → (w ≡ StoreFailed → session.IsHalted t.state → ⊥) → (w ≡ OutOfMemory → session.next_touch t.state ≢ touch.Ends) → DoesByEvents s.state t.state
wanted_so reliable NoObjects s t d other text = λ k is.
    let c = d.came in
    let full = c.1.1 in
    let z : session.State = s.state in
    let r : IsReady (setting_of z) (ready_of z) (touch.Allocs full.0) = record { mode = refl; free = c.0; is = full.1 } in
    subst (λ (p : Program). ComesTo (setting_of z) p k t.state) (going_is z d.going.1)
    (wanted_by (setting_of z) z t.state NoObjects k (touch.Allocs full.0) r (ap stated c.2) is (full_turn z (stage (counted 0 Away) Never 0 k) full.0 full.2))
wanted_so reliable OutOfMemory s t d other text = λ k is.
    let c = d.came in
    let z : session.State = s.state in
    let x : Touch = session.next_touch z in
    let not_text : x ≢ touch.Ends = λ e. text refl (same_next z t.state OutOfMemory (ap stated c.2) ∙ e) in
    let r : IsReady (setting_of z) (ready_of z) x = record { mode = refl; free = c.0; is = refl } in
    subst (λ (p : Program). ComesTo (setting_of z) p k t.state) (going_is z d.going.1)
    (wanted_by (setting_of z) z t.state OutOfMemory k x r (ap stated c.2) is (refused_turn z (stage (counted 0 Away) Never 0 k) x c.1.1 c.1.1 c.1.2 not_text))
wanted_so reliable StoreFailed s t d other text = λ k is.
    elim d.came [
      | inl b ↦ subst (λ (p : Program). ComesTo (setting_of s.state) p k t.state) (going_is s.state d.going.1) (lost_so reliable b.0 s b.1 t k d.safe.holding b.2 b.3 b.4 is)
      | inr b ↦ absurd (other refl (halted_still s.state t.state (gave_in s t b.1) b.0))
    ]

-- events behind events
does_both : (s u t : session.State) → setting_of u ≡ setting_of s → DoesByEvents s u → DoesByEvents u t → DoesByEvents s t
does_both s u t same first then = λ k is.
    let a = first k is in
    let b = then a.1 a.3 in
    let on = subst (λ g. Goes g (program_of u) a.1 b.0 (program_of t) b.1) same b.2 in
    (a.0 ++ b.0, b.1, goes_on (setting_of s) (program_of s) (program_of u) (program_of t) k a.1 b.1 a.0 b.0 a.2 on, b.3)

pub settings_stay : (honest : Type 0) (us : List session.Logged) (s t : session.Logged) → PerformsBy honest us s t → setting_of t.state ≡ setting_of s.state
settings_stay honest [] s t e = ap (λ (y : session.Logged). setting_of y.state) e
settings_stay honest (u ∷ us) s t d = settings_stay honest us u t d.1 ∙ same_setting s.state u.state d.0.same

pub runs : (honest reliable : Type 0) (s t : session.Logged) (r : ending.Run) → Acts honest reliable s t r → (r ≡ Run.Wanted StoreFailed → session.IsHalted t.state → ⊥) → (r ≡ Run.Wanted OutOfMemory → session.next_touch t.state ≢ touch.Ends) → DoesByEvents s.state t.state
runs honest reliable s t Run.Running d other text = all honest d.0 s t d.1
runs honest reliable s t (Run.Stopped x) d other text = all honest d.0 s t d.1
runs honest reliable s t (Run.Wanted w) d other text =
    does_both s.state d.0.state t.state (settings_stay honest d.1.0 s d.0 d.1.1) (all honest d.1.0 s d.0 d.1.1) (wanted_so reliable w d.0 t d.2 (λ e. other (ap Run.Wanted e)) (λ e. text (ap Run.Wanted e)))
