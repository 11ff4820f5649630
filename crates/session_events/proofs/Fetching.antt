-- The events by which a program brings an object in, and makes room for it.
use Rattle.std.proofs.Common.{◌≡◌, ℕ, zero, suc, ◌+◌, ◌<◌, true, false, List, [], ◌∷◌, ◌++◌, append_assoc, length, refl, ap, ◌∙◌, subst, arith}
use Rattle.std.specs.Prelude.{Some, None}
use Rattle.std.proofs.lemmas.Bool.{eq-eqb, lt-ltb, le-ltb}
use Rattle.pointer_word.specs.Legal.{copied_below, filled_below}
use Rattle.object_moves.proofs.Visiting.{nothing_more}
use Rattle.pointer_word.specs.Words.{Away, Coming, Here, Leaving, Word, counted, framed}
use Rattle.pointer_word.specs.Hands.{Hand, aborting, arriving, bringing, claiming, committing, copying, filling, leaving, marking, releasing, retreating, told, unclaiming, upd}
use Rattle.pointer_word.specs.Machine.{Kept, Never, State, Unknown, after_abort, after_arrive, after_begin, after_claim, after_commit, after_copy, after_fill, after_leave, after_mark, after_put, after_release, after_retreat, after_told, after_unclaim}
use Rattle.object_moves.specs.Visits.{AreServed, LetsLeave, MovesOut, Visit, moves_at, moves_in}
use Rattle.object_moves.specs.declared.moved.Moved.TheVariants as M
use Rattle.world_semantics.specs.declared.event.Choice.TheVariants as choice
use Rattle.world_semantics.specs.Programs.{Bringing, Closing, Copying, Evicting, Filling, Freed, Missing, NotStored, Program, Reading, Refused, Releasing, Retreating, Setting, Stored, finished, in_mode}
use Rattle.world_semantics.specs.Turns.{program_turn, taken}
use Rattle.mover_events.proofs.Visiting.{after_copies, all_copied, long, zeros}
use Rattle.mover_events.proofs.Serving.{filled_with, pairs_filled}
use Rattle.session_events.specs.Knowing.{Known}
use Rattle.session_events.proofs.Ready.{Reaches, answers, stage, step, upd_same, with_hand}

-- the object is being brought in, and nothing else is in hand
abbrev pub HasOnly : ℕ → Hand → Type 0
HasOnly o x = (x.bringing ≡ Some o) × (x.leaving ≡ None) × (x.claimed ≡ None) × (x.freed ≡ None)

-- the hand behind a visit at which the store refused nothing
abbrev pub behind_visit : ℕ → Hand → Visit → Hand
behind_visit n x (MovesOut v f M.Left) = releasing (committing (after_copies x v f n) f)
behind_visit n x (MovesOut v f M.Stayed) = aborting (after_copies x v f n)
behind_visit n x (MovesOut v f M.Failed) = x
behind_visit n x (LetsLeave f) = releasing (leaving x f)

-- the hand behind some visits
abbrev pub behind_visits : ℕ → Hand → List Visit → Hand
behind_visits n x [] = x
behind_visits n x (v ∷ vs) = behind_visits n (behind_visit n x v) vs

pub still_only : (n o : ℕ) (vs : List Visit) (x : Hand) → AreServed vs → HasOnly o x → HasOnly o (behind_visits n x vs)
still_only n o [] x served h = h
still_only n o (MovesOut v f M.Left ∷ vs) x served h = still_only n o vs (behind_visit n x (MovesOut v f M.Left)) served (h.0, refl, h.2, refl)
still_only n o (MovesOut v f M.Stayed ∷ vs) x served h = still_only n o vs (behind_visit n x (MovesOut v f M.Stayed)) served (h.0, refl, h.2, h.3)
still_only n o (MovesOut v f M.Failed ∷ vs) x served h = absurd served
still_only n o (LetsLeave f ∷ vs) x served h = still_only n o vs (behind_visit n x (LetsLeave f)) served (h.0, h.1, h.2, refl)

past_visit : (n : ℕ) (x : Hand) (v : Visit) (vs : List Visit) → AreServed (v ∷ vs) → (behind_visit n x v).past ≡ x.past ++ moves_at v
past_visit n x (MovesOut v f M.Left) vs served = append_assoc (x.past ++ _) _ _ ∙ append_assoc x.past _ _
past_visit n x (MovesOut v f M.Stayed) vs served = append_assoc x.past _ _
past_visit n x (MovesOut v f M.Failed) vs served = absurd served
past_visit n x (LetsLeave f) vs served = append_assoc x.past _ _

rest_served : (v : Visit) (vs : List Visit) → AreServed (v ∷ vs) → AreServed vs
rest_served (MovesOut v f M.Left) vs served = served
rest_served (MovesOut v f M.Stayed) vs served = served
rest_served (MovesOut v f M.Failed) vs served = absurd served
rest_served (LetsLeave f) vs served = served

pub past_visits : (n : ℕ) (vs : List Visit) (x : Hand) → AreServed vs → (behind_visits n x vs).past ≡ x.past ++ moves_in vs
past_visits n [] x served = nothing_more x.past
past_visits n (v ∷ vs) x served =
    past_visits n vs (behind_visit n x v) (rest_served v vs served) ∙ ap (λ ms. ms ++ moves_in vs) (past_visit n x v vs served) ∙ append_assoc x.past (moves_at v) (moves_in vs)

-- what is known of the object that was brought into the frame
abbrev pub with_arrived : Setting → ℕ → Known → Hand → ℕ → Known
with_arrived g o k x f = record { hand = arriving (filled_with (claiming x f) g.size); notes = upd k.notes o (told (k.notes o) (Some f)) }

module _ (g : Setting) (p : Program) (o : ℕ) where
  -- ---- it begins

  begins_at : (k : Known) → k.hand.bringing ≡ None → 0 < (k.notes o).count → let s : State = stage (counted (k.notes o).count Away) Never 0 k in
      taken g.size s (program_turn g s (in_mode p (Missing o)) choice.Next (answers true)) ≡ Some (after_begin s g.mover o, in_mode p (Bringing o))
  begins_at k empty some =
      simp (empty, lt-ltb 0 (k.notes o).count some, eq-eqb (k.notes o).count (k.notes o).count refl, eq-eqb g.mover g.mover refl, eq-eqb o o refl) refl

  pub begun_then : (k l : Known) (q : Program) → k.hand.bringing ≡ None → 0 < (k.notes o).count
      → Reaches g (in_mode p (Bringing o)) (with_hand k (bringing k.hand o [])) q l → Reaches g (in_mode p (Missing o)) k q l
  begun_then k l q empty some rest =
      let s : State = stage (counted (k.notes o).count Away) Never 0 k in
      step g (in_mode p (Missing o)) (in_mode p (Bringing o)) q k (with_hand k (bringing k.hand o [])) l s (after_begin s g.mover o) choice.Next (answers true)
      refl refl (begins_at k empty some) (upd_same s.hand g.mover (bringing k.hand o [])) refl rest

  -- ---- it makes room

  marks_at : (k : Known) (v f : ℕ) → k.hand.leaving ≡ None → let s : State = stage (counted 0 (Here f false)) Never 0 k in
      taken g.size s (program_turn g s (in_mode p (Bringing o)) (choice.Mark v f) (answers true)) ≡ Some (after_mark s g.mover v f, in_mode p (Evicting o (Copying v f [])))
  marks_at k v f h = simp (h, eq-eqb f f refl, eq-eqb g.mover g.mover refl, eq-eqb v v refl) refl

  leaves_at : (k : Known) (v f : ℕ) → k.hand.freed ≡ None → let s : State = stage (counted 0 (Here f true)) Never 0 k in
      taken g.size s (program_turn g s (in_mode p (Bringing o)) (choice.Leave v f) (answers true)) ≡ Some (after_leave s g.mover v f, in_mode p (Evicting o (Freed f)))
  leaves_at k v f h = simp (h, eq-eqb f f refl, eq-eqb g.mover g.mover refl) refl

  copies_at : (k : Known) (v f : ℕ) (words : List ℕ) → length words < g.size → k.hand.leaving ≡ Some v → k.hand.source ≡ f → let s : State = stage (counted 0 (Leaving f g.mover true)) Never 0 k in
      taken g.size s (program_turn g s (in_mode p (Evicting o (Copying v f words))) choice.Next (answers true))
      ≡ Some (after_copy s g.mover f (length words), in_mode p (Evicting o (Copying v f (words ++ 0 ∷ []))))
  copies_at k v f words l h e = simp (lt-ltb (length words) g.size l, h, e, eq-eqb f f refl) refl

  puts_at : (k : Known) (v f : ℕ) (words : List ℕ) → length words ≡ g.size → k.hand.leaving ≡ Some v → let s : State = stage (counted 0 (Leaving f g.mover true)) Never 0 k in
      taken g.size s (program_turn g s (in_mode p (Evicting o (Copying v f words))) choice.Next (answers true)) ≡ Some (after_put s v (Kept words), in_mode p (Evicting o (Stored v f)))
  puts_at k v f words l h = simp (le-ltb (length words) g.size (omega (arith, l)), eq-eqb (length words) g.size l, h, eq-eqb v v refl) refl

  commits_at : (k : Known) (v f : ℕ) (words : List ℕ) → k.hand.leaving ≡ Some v → k.hand.source ≡ f → k.hand.freed ≡ None → copied_below g.size k.hand words ≡ true
      → let s : State = stage (counted 0 (Leaving f g.mover true)) (Kept words) 0 k in
      taken g.size s (program_turn g s (in_mode p (Evicting o (Stored v f))) choice.Next (answers true)) ≡ Some (after_commit s g.mover v f, in_mode p (Evicting o (Freed f)))
  commits_at k v f words h e d c = simp (h, e, d, c, eq-eqb f f refl, eq-eqb g.mover g.mover refl, eq-eqb v v refl) refl

  commits_in_vain_at : (k : Known) (v f : ℕ) (words : List ℕ) → k.hand.leaving ≡ Some v → k.hand.source ≡ f → k.hand.freed ≡ None → copied_below g.size k.hand words ≡ true
      → let s : State = stage (counted 1 Away) (Kept words) 0 k in
      taken g.size s (program_turn g s (in_mode p (Evicting o (Stored v f))) choice.Next (answers true)) ≡ Some (s, in_mode p (Evicting o (Refused v f)))
  commits_in_vain_at k v f words h e d c = simp (h, e, d, c, eq-eqb f f refl, eq-eqb v v refl) refl

  aborts_at : (k : Known) (v f : ℕ) → k.hand.leaving ≡ Some v → k.hand.source ≡ f → let s : State = stage (counted 0 (Leaving f g.mover true)) Never 0 k in
      taken g.size s (program_turn g s (in_mode p (Evicting o (Refused v f))) choice.Next (answers true)) ≡ Some (after_abort s g.mover v f, in_mode p (Bringing o))
  aborts_at k v f h e = simp (h, e, eq-eqb f f refl, eq-eqb v v refl) refl

  releases_at : (k : Known) (f : ℕ) → k.hand.freed ≡ Some f → let s : State = stage (counted 0 Away) Never 0 k in
      taken g.size s (program_turn g s (in_mode p (Evicting o (Freed f))) choice.Next (answers true)) ≡ Some (after_release s g.mover f, in_mode p (Bringing o))
  releases_at k f h = simp (h, eq-eqb f f refl) refl

  -- from j copies on to all
  copies_on : (k l : Known) (q : Program) (v f i j : ℕ) → j + i ≡ g.size → Reaches g (in_mode p (Evicting o (Copying v f (zeros g.size)))) (with_hand k (after_copies k.hand v f g.size)) q l
      → Reaches g (in_mode p (Evicting o (Copying v f (zeros j)))) (with_hand k (after_copies k.hand v f j)) q l
  copies_on k l q v f zero j h goes =
      let same : g.size ≡ j = omega (arith, h) in
      subst (λ i. Reaches g (in_mode p (Evicting o (Copying v f (zeros i)))) (with_hand k (after_copies k.hand v f i)) q l) same goes
  copies_on k l q v f (suc i) j h goes =
      let y : Known = with_hand k (after_copies k.hand v f j) in
      let s : State = stage (counted 0 (Leaving f g.mover true)) Never 0 y in
      step g (in_mode p (Evicting o (Copying v f (zeros j)))) (in_mode p (Evicting o (Copying v f (zeros (suc j))))) q y (with_hand k (after_copies k.hand v f (suc j))) l s
      (after_copy s g.mover f (length (zeros j))) choice.Next (answers true) refl refl (copies_at y v f (zeros j) (omega (arith, h, long j)) refl refl)
      (upd_same s.hand g.mover (copying y.hand (length (zeros j)) 0)) refl (copies_on k l q v f i (suc j) (omega (arith, h)) goes)

  -- the mark of an object, and the copies, before what comes then
  marked_then : (k l : Known) (q : Program) (v f : ℕ) → k.hand.leaving ≡ None → Reaches g (in_mode p (Evicting o (Copying v f (zeros g.size)))) (with_hand k (after_copies k.hand v f g.size)) q l
      → Reaches g (in_mode p (Bringing o)) k q l
  marked_then k l q v f h goes =
      let s : State = stage (counted 0 (Here f false)) Never 0 k in
      step g (in_mode p (Bringing o)) (in_mode p (Evicting o (Copying v f []))) q k (with_hand k (after_copies k.hand v f 0)) l s (after_mark s g.mover v f) (choice.Mark v f) (answers true)
      refl refl (marks_at k v f h) (upd_same s.hand g.mover (marking k.hand v f)) refl (copies_on k l q v f g.size 0 (omega arith) goes)

  left_then : (k l : Known) (q : Program) (v f : ℕ) → HasOnly o k.hand → Reaches g (in_mode p (Bringing o)) (with_hand k (behind_visit g.size k.hand (MovesOut v f M.Left))) q l → Reaches g (in_mode p (Bringing o)) k q l
  left_then k l q v f h goes =
      let x : Hand = after_copies k.hand v f g.size in
      let y : Known = with_hand k x in
      let w : Known = with_hand k (committing x f) in
      let z : Known = with_hand k (releasing (committing x f)) in
      let copied : State = stage (counted 0 (Leaving f g.mover true)) Never 0 y in
      let kept : State = stage (counted 0 (Leaving f g.mover true)) (Kept (zeros g.size)) 0 y in
      let freed : State = stage (counted 0 Away) Never 0 w in
      marked_then k l q v f h.1
      (step g (in_mode p (Evicting o (Copying v f (zeros g.size)))) (in_mode p (Evicting o (Stored v f))) q y y l copied (after_put copied v (Kept (zeros g.size))) choice.Next (answers true)
      refl refl (puts_at y v f (zeros g.size) (long g.size) refl) refl refl
      (step g (in_mode p (Evicting o (Stored v f))) (in_mode p (Evicting o (Freed f))) q y w l kept (after_commit kept g.mover v f) choice.Next (answers true)
      refl refl (commits_at y v f (zeros g.size) refl refl h.3 (all_copied k.hand v f g.size g.size (omega arith))) (upd_same kept.hand g.mover (committing x f)) refl
      (step g (in_mode p (Evicting o (Freed f))) (in_mode p (Bringing o)) q w z l freed (after_release freed g.mover f) choice.Next (answers true)
      refl refl (releases_at w f refl) (upd_same freed.hand g.mover (releasing (committing x f))) refl goes)))

  stayed_then : (k l : Known) (q : Program) (v f : ℕ) → HasOnly o k.hand → Reaches g (in_mode p (Bringing o)) (with_hand k (behind_visit g.size k.hand (MovesOut v f M.Stayed))) q l → Reaches g (in_mode p (Bringing o)) k q l
  stayed_then k l q v f h goes =
      let x : Hand = after_copies k.hand v f g.size in
      let y : Known = with_hand k x in
      let z : Known = with_hand k (aborting x) in
      let copied : State = stage (counted 0 (Leaving f g.mover true)) Never 0 y in
      let used : State = stage (counted 1 Away) (Kept (zeros g.size)) 0 y in
      marked_then k l q v f h.1
      (step g (in_mode p (Evicting o (Copying v f (zeros g.size)))) (in_mode p (Evicting o (Stored v f))) q y y l copied (after_put copied v (Kept (zeros g.size))) choice.Next (answers true)
      refl refl (puts_at y v f (zeros g.size) (long g.size) refl) refl refl
      (step g (in_mode p (Evicting o (Stored v f))) (in_mode p (Evicting o (Refused v f))) q y y l used used choice.Next (answers true)
      refl refl (commits_in_vain_at y v f (zeros g.size) refl refl h.3 (all_copied k.hand v f g.size g.size (omega arith))) refl refl
      (step g (in_mode p (Evicting o (Refused v f))) (in_mode p (Bringing o)) q y z l copied (after_abort copied g.mover v f) choice.Next (answers true)
      refl refl (aborts_at y v f refl refl) (upd_same copied.hand g.mover (aborting x)) refl goes)))

  clean_then : (k l : Known) (q : Program) (f : ℕ) → HasOnly o k.hand → Reaches g (in_mode p (Bringing o)) (with_hand k (behind_visit g.size k.hand (LetsLeave f))) q l → Reaches g (in_mode p (Bringing o)) k q l
  clean_then k l q f h goes =
      let w : Known = with_hand k (leaving k.hand f) in
      let z : Known = with_hand k (releasing (leaving k.hand f)) in
      let clean : State = stage (counted 0 (Here f true)) Never 0 k in
      let freed : State = stage (counted 0 Away) Never 0 w in
      step g (in_mode p (Bringing o)) (in_mode p (Evicting o (Freed f))) q k w l clean (after_leave clean g.mover 0 f) (choice.Leave 0 f) (answers true)
      refl refl (leaves_at k 0 f h.3) (upd_same clean.hand g.mover (leaving k.hand f)) refl
      (step g (in_mode p (Evicting o (Freed f))) (in_mode p (Bringing o)) q w z l freed (after_release freed g.mover f) choice.Next (answers true)
      refl refl (releases_at w f refl) (upd_same freed.hand g.mover (releasing (leaving k.hand f))) refl goes)

  pub visited_then : (vs : List Visit) (k l : Known) (q : Program) → AreServed vs → HasOnly o k.hand → Reaches g (in_mode p (Bringing o)) (with_hand k (behind_visits g.size k.hand vs)) q l → Reaches g (in_mode p (Bringing o)) k q l
  visited_then [] k l q served h goes = goes
  visited_then (MovesOut v f M.Left ∷ vs) k l q served h goes =
      let x : Hand = behind_visit g.size k.hand (MovesOut v f M.Left) in left_then k l q v f h (visited_then vs (with_hand k x) l q served (h.0, refl, h.2, refl) goes)
  visited_then (MovesOut v f M.Stayed ∷ vs) k l q served h goes =
      let x : Hand = behind_visit g.size k.hand (MovesOut v f M.Stayed) in stayed_then k l q v f h (visited_then vs (with_hand k x) l q served (h.0, refl, h.2, h.3) goes)
  visited_then (MovesOut v f M.Failed ∷ vs) k l q served h goes = absurd served
  visited_then (LetsLeave f ∷ vs) k l q served h goes =
      let x : Hand = behind_visit g.size k.hand (LetsLeave f) in clean_then k l q f h (visited_then vs (with_hand k x) l q served (h.0, h.1, h.2, refl) goes)

  -- ---- it claims a frame, fills it, and arrives

  claims_at : (k : Known) (f : ℕ) → k.hand.claimed ≡ None → let s : State = stage (counted 0 (Coming g.mover)) Never 0 k in
      taken g.size s (program_turn g s (in_mode p (Bringing o)) (choice.Claim f) (answers true)) ≡ Some (after_claim s g.mover o f, in_mode p (Filling o f [] 0))
  claims_at k f h = simp (h, eq-eqb g.mover g.mover refl, eq-eqb f f refl) refl

  fills_at : (k : Known) (f j : ℕ) → j < g.size → k.hand.claimed ≡ Some f → let s : State = stage (counted 0 (Coming g.mover)) Never 0 k in
      taken g.size s (program_turn g s (in_mode p (Filling o f [] j)) choice.Next (answers true)) ≡ Some (after_fill s g.mover f j 0, in_mode p (Filling o f [] (suc j)))
  fills_at k f j l h = simp (lt-ltb j g.size l, h, eq-eqb f f refl) refl

  arrives_at : (k : Known) (f : ℕ) → k.hand.bringing ≡ Some o → k.hand.claimed ≡ Some f → filled_below g.size k.hand ≡ true → 0 < (k.notes o).count → let s : State = stage (counted 0 (Coming g.mover)) Never 0 k in
      taken g.size s (program_turn g s (in_mode p (Filling o f [] g.size)) choice.Next (answers true)) ≡ Some (after_told (after_arrive s g.mover o f) o, finished g p 0)
  arrives_at k f b c a some = simp (le-ltb g.size g.size (omega arith), b, c, a, lt-ltb 0 (k.notes o).count some, eq-eqb f f refl, eq-eqb o o refl) refl

  fills_on : (k l : Known) (q : Program) (f i j : ℕ) → k.hand.claimed ≡ Some f → j + i ≡ g.size → Reaches g (in_mode p (Filling o f [] g.size)) (with_hand k (filled_with k.hand g.size)) q l
      → Reaches g (in_mode p (Filling o f [] j)) (with_hand k (filled_with k.hand j)) q l
  fills_on k l q f zero j c h goes =
      let same : g.size ≡ j = omega (arith, h) in
      subst (λ i. Reaches g (in_mode p (Filling o f [] i)) (with_hand k (filled_with k.hand i)) q l) same goes
  fills_on k l q f (suc i) j c h goes =
      let y : Known = with_hand k (filled_with k.hand j) in
      let s : State = stage (counted 0 (Coming g.mover)) Never 0 y in
      step g (in_mode p (Filling o f [] j)) (in_mode p (Filling o f [] (suc j))) q y (with_hand k (filled_with k.hand (suc j))) l s (after_fill s g.mover f j 0) choice.Next (answers true)
      refl refl (fills_at y f j (omega (arith, h)) c) (upd_same s.hand g.mover (filling y.hand j 0)) refl (fills_on k l q f i (suc j) c (omega (arith, h)) goes)

  told_there : (k : Known) (f : ℕ) → let s : State = stage (counted 0 (Coming g.mover)) Never 0 k in
      (after_told (after_arrive s g.mover o f) o).note ≡ upd k.notes o (told (k.notes o) (Some f))
  told_there k f = ap (λ (w : Word). upd k.notes o (told (k.notes o) (framed w.place))) (upd_same (λ _. counted 0 (Coming g.mover)) o (counted 0 (Here f true)))

  pub arrived_then : (k l : Known) (q : Program) (f : ℕ) → HasOnly o k.hand → 0 < (k.notes o).count → Reaches g (finished g p 0) (with_arrived g o k k.hand f) q l → Reaches g (in_mode p (Bringing o)) k q l
  arrived_then k l q f h some goes =
      let x : Hand = claiming k.hand f in
      let y : Known = with_hand k x in
      let z : Known = with_hand k (filled_with x g.size) in
      let coming : State = stage (counted 0 (Coming g.mover)) Never 0 k in
      let full : State = stage (counted 0 (Coming g.mover)) Never 0 z in
      step g (in_mode p (Bringing o)) (in_mode p (Filling o f [] 0)) q k (with_hand k (filled_with x 0)) l coming (after_claim coming g.mover o f) (choice.Claim f) (answers true)
      refl refl (claims_at k f h.2) (upd_same coming.hand g.mover x) refl
      (fills_on y l q f g.size 0 refl (omega arith)
      (step g (in_mode p (Filling o f [] g.size)) (finished g p 0) q z (with_arrived g o k k.hand f) l full (after_told (after_arrive full g.mover o f) o) choice.Next (answers true)
      refl refl (arrives_at z f h.0 refl (pairs_filled x g.size g.size (omega arith)) some) (upd_same full.hand g.mover (arriving (filled_with x g.size))) (told_there z f) goes))

  -- ---- or the store refuses a call

  claims_to_read_at : (k : Known) (f : ℕ) → k.hand.claimed ≡ None → let s : State = stage (counted 0 (Coming g.mover)) Unknown 0 k in
      taken g.size s (program_turn g s (in_mode p (Bringing o)) (choice.Claim f) (answers true)) ≡ Some (after_claim s g.mover o f, in_mode p (Reading o f))
  claims_to_read_at k f h = simp (h, eq-eqb g.mover g.mover refl, eq-eqb f f refl) refl

  reads_in_vain_at : (k : Known) (f : ℕ) → let s : State = stage (counted 0 (Coming g.mover)) Unknown 0 k in
      taken g.size s (program_turn g s (in_mode p (Reading o f)) choice.Next (answers true)) ≡ Some (s, in_mode p (Releasing o f))
  reads_in_vain_at k f = refl

  unclaims_at : (k : Known) (f : ℕ) → k.hand.claimed ≡ Some f → let s : State = stage (counted 0 (Coming g.mover)) Never 0 k in
      taken g.size s (program_turn g s (in_mode p (Releasing o f)) choice.Next (answers true)) ≡ Some (after_unclaim s g.mover f, in_mode p (Retreating o))
  unclaims_at k f h = simp (h, eq-eqb f f refl) refl

  retreats_at : (k : Known) → k.hand.bringing ≡ Some o → let s : State = stage (counted 0 (Coming g.mover)) Never 0 k in
      taken g.size s (program_turn g s (in_mode p (Retreating o)) choice.Next (answers true)) ≡ Some (after_retreat s g.mover o, in_mode p Closing)
  retreats_at k h = simp (h, eq-eqb o o refl) refl

  puts_in_vain_at : (k : Known) (v f : ℕ) (words : List ℕ) → length words ≡ g.size → k.hand.leaving ≡ Some v → let s : State = stage (counted 0 (Leaving f g.mover true)) Never 0 k in
      taken g.size s (program_turn g s (in_mode p (Evicting o (Copying v f words))) choice.Next (answers false)) ≡ Some (after_put s v Unknown, in_mode p (Evicting o (NotStored v f)))
  puts_in_vain_at k v f words l h = simp (le-ltb (length words) g.size (omega (arith, l)), h, eq-eqb v v refl) refl

  aborts_unstored_at : (k : Known) (v f : ℕ) → k.hand.leaving ≡ Some v → k.hand.source ≡ f → let s : State = stage (counted 0 (Leaving f g.mover true)) Never 0 k in
      taken g.size s (program_turn g s (in_mode p (Evicting o (NotStored v f))) choice.Next (answers true)) ≡ Some (after_abort s g.mover v f, in_mode p (Retreating o))
  aborts_unstored_at k v f h e = simp (h, e, eq-eqb f f refl, eq-eqb v v refl) refl

  -- it gives the object up, and closes what its scopes hold then
  retreated_then : (k l : Known) (q : Program) → k.hand.bringing ≡ Some o → Reaches g (in_mode p Closing) (with_hand k (retreating k.hand)) q l → Reaches g (in_mode p (Retreating o)) k q l
  retreated_then k l q b goes =
      let s : State = stage (counted 0 (Coming g.mover)) Never 0 k in
      step g (in_mode p (Retreating o)) (in_mode p Closing) q k (with_hand k (retreating k.hand)) l s (after_retreat s g.mover o) choice.Next (answers true)
      refl refl (retreats_at k b) (upd_same s.hand g.mover (retreating k.hand)) refl goes

  pub not_read_then : (k l : Known) (q : Program) (f : ℕ) → HasOnly o k.hand → Reaches g (in_mode p Closing) (with_hand k (retreating (unclaiming (claiming k.hand f)))) q l → Reaches g (in_mode p (Bringing o)) k q l
  not_read_then k l q f h goes =
      let x : Hand = claiming k.hand f in
      let y : Known = with_hand k x in
      let z : Known = with_hand k (unclaiming x) in
      let coming : State = stage (counted 0 (Coming g.mover)) Unknown 0 k in
      let reading : State = stage (counted 0 (Coming g.mover)) Unknown 0 y in
      let releasing : State = stage (counted 0 (Coming g.mover)) Never 0 y in
      step g (in_mode p (Bringing o)) (in_mode p (Reading o f)) q k y l coming (after_claim coming g.mover o f) (choice.Claim f) (answers true)
      refl refl (claims_to_read_at k f h.2) (upd_same coming.hand g.mover x) refl
      (step g (in_mode p (Reading o f)) (in_mode p (Releasing o f)) q y y l reading reading choice.Next (answers true) refl refl (reads_in_vain_at y f) refl refl
      (step g (in_mode p (Releasing o f)) (in_mode p (Retreating o)) q y z l releasing (after_unclaim releasing g.mover f) choice.Next (answers true)
      refl refl (unclaims_at y f refl) (upd_same releasing.hand g.mover (unclaiming x)) refl (retreated_then z l q h.0 goes)))

  pub not_written_then : (k l : Known) (q : Program) (v f : ℕ) → HasOnly o k.hand → Reaches g (in_mode p Closing) (with_hand k (retreating (aborting (after_copies k.hand v f g.size)))) q l
      → Reaches g (in_mode p (Bringing o)) k q l
  not_written_then k l q v f h goes =
      let x : Hand = after_copies k.hand v f g.size in
      let y : Known = with_hand k x in
      let z : Known = with_hand k (aborting x) in
      let copied : State = stage (counted 0 (Leaving f g.mover true)) Never 0 y in
      marked_then k l q v f h.1
      (step g (in_mode p (Evicting o (Copying v f (zeros g.size)))) (in_mode p (Evicting o (NotStored v f))) q y y l copied (after_put copied v Unknown) choice.Next (answers false)
      refl refl (puts_in_vain_at y v f (zeros g.size) (long g.size) refl) refl refl
      (step g (in_mode p (Evicting o (NotStored v f))) (in_mode p (Retreating o)) q y z l copied (after_abort copied g.mover v f) choice.Next (answers true)
      refl refl (aborts_unstored_at y v f refl refl) (upd_same copied.hand g.mover (aborting x)) refl (retreated_then z l q h.0 goes)))
