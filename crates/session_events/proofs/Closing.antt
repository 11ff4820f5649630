-- The events by which a program whose store failed closes what its scopes hold.
use Rattle.std.proofs.Common.{◌≡◌, ◌≢◌, ℕ, zero, suc, ◌+◌, ◌<◌, ◌≤◌, true, cond, List, [], ◌∷◌, ◌++◌, length, map, refl, sym, ap, ◌∙◌, subst, inl, inr, arith, ne_eqb, eq-eqb, zero-add}
use Rattle.std.specs.Prelude.{Option, Some, None, slice_set}
use Rattle.std.proofs.lemmas.Bool.{lt-ltb}
use Rattle.std.proofs.lemmas.Bool.Decides.{eqb_tells}
use Rattle.std.proofs.lemmas.List.{length-map}
use Rattle.cells.specs.declared.ending.Want.TheVariants.{StoreFailed}
use Rattle.pointer_word.specs.Calls.{Closes}
use Rattle.pointer_word.specs.Hands.{Note, closed}
use Rattle.pointer_word.specs.Machine.{Never, State, after_close}
use Rattle.pointer_word.specs.Words.{Away, counted}
use Rattle.session.specs.declared.hold.Hold as own
use Rattle.session.specs.Keeping.{count_of, one}
use Rattle.session.specs.State as session
use Rattle.world_semantics.specs.declared.event.Choice.TheVariants as choice
use Rattle.world_semantics.specs.declared.hold.Hold.{Hold}
use Rattle.world_semantics.specs.Programs.{Closing, Mode, Program, Setting, Wanted, behind, first_hold}
use Rattle.world_semantics.specs.Turns.{Calls, closed_so, gives_up, taken}
use Rattle.session_events.specs.Knowing.{Known}
use Rattle.session_events.specs.Laws.{hold_seen}
use Rattle.session_events.proofs.Ready.{Reaches, answers, stage, step, with_closed}

-- ---- lists of scopes that hold nothing at first

abbrev pub nones : ℕ → List (Option Hold)
nones zero = []
nones (suc j) = None ∷ nones j

abbrev pub with_holds : Program → List (Option Hold) → Mode → Program
with_holds p hs m = record p { holds = hs; mode = m }

first_behind : (j : ℕ) (h : Hold) (r : List (Option Hold)) → first_hold (nones j ++ Some h ∷ r) ≡ Some (j, h)
first_behind zero h r = refl
first_behind (suc j) h r = ap behind (first_behind j h r)

first_nothing : (j : ℕ) (r : List (Option Hold)) → first_hold r ≡ None → first_hold (nones j ++ r) ≡ None
first_nothing zero r e = e
first_nothing (suc j) r e = ap behind (first_nothing j r e)

first_something : (j : ℕ) (r : List (Option Hold)) (x : ℕ × Hold) → first_hold r ≡ Some x → (y : ℕ × Hold) × (first_hold (nones j ++ r) ≡ Some y)
first_something zero r x e = (x, e)
first_something (suc j) r x e = let z = first_something j r x e in ((suc z.0.0, z.0.1), ap behind z.1)

set_behind : (j : ℕ) (h : Hold) (r : List (Option Hold)) → slice_set (nones j ++ Some h ∷ r) j None ≡ nones j ++ None ∷ r
set_behind zero h r = refl
set_behind (suc j) h r = ap (λ l. None ∷ l) (set_behind j h r)

none_more : (j : ℕ) (r : List (Option Hold)) → nones j ++ None ∷ r ≡ nones (suc j) ++ r
none_more zero r = refl
none_more (suc j) r = ap (λ l. None ∷ l) (none_more j r)

behind_none : (x : Option (ℕ × Hold)) → behind x ≡ None → x ≡ None
behind_none None e = refl
behind_none (Some q) e = absurd (cc e)

pub all_none : (r : List (Option Hold)) → first_hold r ≡ None → r ≡ nones (length r)
all_none [] e = refl
all_none (None ∷ r) e = ap (λ l. None ∷ l) (all_none r (behind_none (first_hold r) e))
all_none (Some h ∷ r) e = absurd (cc e)

nones_both : (j k : ℕ) → nones j ++ nones k ≡ nones (j + k)
nones_both zero k = ap nones (sym (zero-add k))
nones_both (suc j) k = ap (λ l. None ∷ l) (nones_both j k) ∙ ap nones (let e : suc (j + k) ≡ suc j + k = omega arith in e)

-- a scope that holds something is found
pub some_held : (hs : List (Option own.Hold)) (k : ℕ) (h : own.Hold) → session.hold_at hs k ≡ Some h → first_hold (map hold_seen hs) ≢ None
some_held [] k h e = λ n. let d : None ≡ Some h = e in cc
some_held (Some x ∷ hs) k h e = λ n. absurd (cc n)
some_held (None ∷ hs) zero h e = λ n. let d : None ≡ Some h = e in cc
some_held (None ∷ hs) (suc k) h e = λ n. some_held hs k h e (behind_none (first_hold (map hold_seen hs)) n)

-- ---- holds that are closed, one behind the other

abbrev pub after_closings : List (Option own.Hold) → Known → Known
after_closings [] n = n
after_closings (None ∷ r) n = after_closings r n
after_closings (Some h ∷ r) n = after_closings r (with_closed n h.object)

-- each is one of its object's as it is closed
abbrev pub AreOpen : List (Option own.Hold) → Known → Type 0
AreOpen [] n = Unit {0}
AreOpen (None ∷ r) n = AreOpen r n
AreOpen (Some h ∷ r) n = (0 < (n.notes h.object).count) × AreOpen r (with_closed n h.object)

-- nothing is closed where nothing is held
none_left : (r : List (Option own.Hold)) (n : Known) → first_hold (map hold_seen r) ≡ None → after_closings r n ≡ n
none_left [] n e = refl
none_left (None ∷ r) n e = none_left r n (behind_none (first_hold (map hold_seen r)) e)
none_left (Some h ∷ r) n e = absurd (cc e)

closes_at : (n o : ℕ) (k : Known) (c : State → Program) → 0 < (k.notes o).count → let s : State = stage (counted 0 Away) Never 0 k in
    taken n s (Calls (Closes o) c) ≡ Some (after_close s o, c (after_close s o))
closes_at n o k c some = simp (lt-ltb 0 (k.notes o).count some) refl

module _ (g : Setting) (p : Program) (l : Known) (q : Program) where
  -- the lowest hold is closed
  closed_first : (j : ℕ) (h : Hold) (r : List (Option Hold)) (n : Known) (c : Program) → 0 < (n.notes h.object).count → closed_so (with_holds p (nones j ++ None ∷ r) Closing) (first_hold (nones j ++ None ∷ r)) ≡ c
      → Reaches g c (with_closed n h.object) q l → Reaches g (with_holds p (nones j ++ Some h ∷ r) Closing) n q l
  closed_first j h r n c some is goes =
      let hs : List (Option Hold) = nones j ++ Some h ∷ r in
      let d : Program = with_holds p hs Closing in
      let s : State = stage (counted 0 Away) Never 0 n in
      let go : List (Option Hold) → Program = λ xs. closed_so (with_holds p xs Closing) (first_hold xs) in
      step g d c q n (with_closed n h.object) l s (after_close s h.object) choice.Next (answers true) refl refl
      (ap (taken g.size s) (ap (gives_up d) (first_behind j h r)) ∙ closes_at g.size h.object n (λ t. go (slice_set hs j None)) some
      ∙ ap (λ x. Some (after_close s h.object, x)) (ap go (set_behind j h r) ∙ is)) refl refl goes

  pub closings : (r : List (Option own.Hold)) (j : ℕ) (n : Known) → AreOpen r n → first_hold (map hold_seen r) ≢ None
      → Reaches g (with_holds p (nones (j + length r)) (Wanted StoreFailed)) (after_closings r n) q l → Reaches g (with_holds p (nones j ++ map hold_seen r) Closing) n q l
  closings [] j n opened_so some goes = absurd (some refl)
  closings (None ∷ r) j n opened_so some goes =
      let e : j + suc (length r) ≡ suc j + length r = omega arith in
      subst (λ hs. Reaches g (with_holds p hs Closing) n q l) (sym (none_more j (map hold_seen r)))
      (closings r (suc j) n opened_so (λ d. some (ap behind d)) (subst (λ i. Reaches g (with_holds p (nones i) (Wanted StoreFailed)) (after_closings r n) q l) e goes))
  closings (Some h ∷ r) j n opened_so some goes = by_rest (closings r (suc j) (with_closed n h.object) opened_so.1) (first_hold (map hold_seen r)) refl
    where
      by_rest : (first_hold (map hold_seen r) ≢ None → Reaches g (with_holds p (nones (suc j + length r)) (Wanted StoreFailed)) (after_closings r (with_closed n h.object)) q l
          → Reaches g (with_holds p (nones (suc j) ++ map hold_seen r) Closing) (with_closed n h.object) q l)
          → (x : Option (ℕ × Hold)) → first_hold (map hold_seen r) ≡ x → Reaches g (with_holds p (nones j ++ map hold_seen (Some h ∷ r)) Closing) n q l
      by_rest on None d =
          let rest : List (Option Hold) = map hold_seen r in
          let many : length rest ≡ length r = length-map r hold_seen in
          let e : j + suc (length rest) ≡ j + suc (length r) = omega arith in
          let last : nones j ++ None ∷ rest ≡ nones (j + suc (length r)) = ap (λ l. nones j ++ None ∷ l) (all_none rest d) ∙ nones_both j (suc (length rest)) ∙ ap nones e in
          closed_first j (record { object = h.object; writes = h.writes }) rest n (with_holds p (nones (j + suc (length r))) (Wanted StoreFailed)) opened_so.0
          (ap (closed_so (with_holds p (nones j ++ None ∷ rest) Closing)) (first_nothing j (None ∷ rest) (ap behind d)) ∙ ap (λ hs. with_holds p hs (Wanted StoreFailed)) last)
          (subst (λ m. Reaches g (with_holds p (nones (j + suc (length r))) (Wanted StoreFailed)) m q l) (none_left r (with_closed n h.object) d) goes)
      by_rest on (Some x) d =
          let rest : List (Option Hold) = map hold_seen r in
          let e : j + suc (length r) ≡ suc j + length r = omega arith in
          let more = first_something j (None ∷ rest) (suc x.0, x.1) (ap behind d) in
          closed_first j (record { object = h.object; writes = h.writes }) rest n (with_holds p (nones j ++ None ∷ rest) Closing) opened_so.0
          (ap (closed_so (with_holds p (nones j ++ None ∷ rest) Closing)) more.1)
          (subst (λ hs. Reaches g (with_holds p hs Closing) (with_closed n h.object) q l) (sym (none_more j rest))
          (on (λ z. let y : Some x ≡ None = sym d ∙ z in cc) (subst (λ i. Reaches g (with_holds p (nones i) (Wanted StoreFailed)) (after_closings r (with_closed n h.object)) q l) e goes)))

-- ---- what is known behind them

abbrev pub closed_times : ℕ → Note → Note
closed_times zero x = x
closed_times (suc c) x = closed_times c (closed x)

pub closed_more : (c : ℕ) (x : Note) → closed_times (suc c) x ≡ closed (closed_times c x)
closed_more zero x = refl
closed_more (suc c) x = closed_more c (closed x)

pub hand_stays : (r : List (Option own.Hold)) (n : Known) → (after_closings r n).hand ≡ n.hand
hand_stays [] n = refl
hand_stays (None ∷ r) n = hand_stays r n
hand_stays (Some h ∷ r) n = hand_stays r (with_closed n h.object)

one_here : (p : ℕ) (h : own.Hold) → p ≡ h.object → one p (Some h) ≡ 1
one_here p h e = ap (λ b. cond b 1 0) (eq-eqb h.object p (sym e))

one_elsewhere : (p : ℕ) (h : own.Hold) → p ≢ h.object → one p (Some h) ≡ 0
one_elsewhere p h ne = ap (λ b. cond b 1 0) (ne_eqb h.object p (λ e. ne (sym e)))

note_here : (n : Known) (p : ℕ) (h : own.Hold) → p ≡ h.object → (with_closed n h.object).notes p ≡ closed (n.notes p)
note_here n p h e = ap (λ b. cond b (closed (n.notes h.object)) (n.notes p)) (eq-eqb p h.object e) ∙ ap (λ o. closed (n.notes o)) (sym e)

note_elsewhere : (n : Known) (p : ℕ) (h : own.Hold) → p ≢ h.object → (with_closed n h.object).notes p ≡ n.notes p
note_elsewhere n p h ne = ap (λ b. cond b (closed (n.notes h.object)) (n.notes p)) (ne_eqb p h.object ne)

pub notes_closed : (r : List (Option own.Hold)) (n : Known) (p : ℕ) → (after_closings r n).notes p ≡ closed_times (count_of p r) (n.notes p)
notes_closed [] n p = refl
notes_closed (None ∷ r) n p = notes_closed r n p ∙ ap (λ c. closed_times c (n.notes p)) (sym (zero-add (count_of p r)))
notes_closed (Some h ∷ r) n p =
    elim (eqb_tells p h.object) [
      | inl e ↦
          let many : suc (count_of p r) ≡ one p (Some h) + count_of p r = let a = one_here p h e.1 in omega arith in
          notes_closed r (with_closed n h.object) p ∙ ap (closed_times (count_of p r)) (note_here n p h e.1) ∙ ap (λ c. closed_times c (n.notes p)) many
      | inr e ↦
          let many : count_of p r ≡ one p (Some h) + count_of p r = let a = one_elsewhere p h e.1 in omega arith in
          notes_closed r (with_closed n h.object) p ∙ ap (closed_times (count_of p r)) (note_elsewhere n p h e.1) ∙ ap (λ c. closed_times c (n.notes p)) many
    ]

-- where each object has as many holds as scopes hold it
pub all_open : (Own : ℕ → Type 0) (r : List (Option own.Hold)) (n : Known) → ((k : ℕ) (h : own.Hold) → session.hold_at r k ≡ Some h → Own h.object) → ((p : ℕ) → Own p → count_of p r ≤ (n.notes p).count) → AreOpen r n
all_open Own [] n owned enough = tt
all_open Own (None ∷ r) n owned enough = all_open Own r n (λ k h e. owned (suc k) h e) (λ p w. let a = enough p w in omega arith)
all_open Own (Some h ∷ r) n owned enough =
    let mine = enough h.object (owned 0 h refl) in
    let here = one_here h.object h refl in
    let some : 0 < (n.notes h.object).count = omega arith in (
      some,
      all_open Own r (with_closed n h.object) (λ k x e. owned (suc k) x e) (λ p w.
          let a = enough p w in
          elim (eqb_tells p h.object) [
            | inl e ↦ let b = one_here p h e.1 in let c = ap (λ (x : Note). x.count) (note_here n p h e.1) in omega arith
            | inr e ↦ let b = one_elsewhere p h e.1 in let c = ap (λ (x : Note). x.count) (note_elsewhere n p h e.1) in omega arith
          ]),
    )
