-- The steps by which objects are brought in as turns of an actor that does so, as a fetcher does, at the machines in which they came.
use Rattle.std.specs.Prelude.{nat_lt}
use Rattle.std.proofs.Common.{◌≡◌, inl, inr, ℕ, zero, suc, ◌<◌, ◌≤◌, Bool, true, false, cond, List, [], ◌∷◌, ◌++◌, append_assoc, map, Option, Some, None, refl, sym, ap, ◌∙◌, subst, arith, eq-eqb}
use Rattle.std.proofs.lemmas.Bool.{lt-ltb, le-ltb}
use Rattle.std.proofs.lemmas.Bool.Decides.{eqb_tells}
use Rattle.pointer_word.specs.Words.{Away}
use Rattle.pointer_word.specs.Hands.{Hand, claiming, filling, listed, seen}
use Rattle.pointer_word.specs.Machine.{Far, Kept, Never, State as Machine, Unknown, after_claim, content}
use Rattle.pointer_word.specs.Calls.{Arrives, Begins, Call, Claims, Fills, May, Retreats, act}
use Rattle.pointer_word.specs.Legal.{holds}
use Rattle.pointer_word.specs.Sound.{Inv, PlaceOk}
use Rattle.pointer_word.proofs.Bits.{is_away}
use Rattle.pointer_word.proofs.Upd.{upd-same}
use Rattle.object_lock.specs.Seats.{Sizes}
use Rattle.object_lock.specs.Logs.{AreCallsAt, Deed, act_all, deed}
use Rattle.object_lock.proofs.Mover.{begin_hits, plain}
use Rattle.object_moves.specs.Deeds.{arrives, begins, claims, fills, retreats}
use Rattle.world_semantics.specs.declared.event.Choice.{Choice}
use Rattle.world_semantics.specs.declared.event.Choice.TheVariants as choice
use Rattle.world_semantics.specs.Fetchers.{Bringing, Fetching, Filling, Reading}
use Rattle.world_semantics.specs.Worlds.{FetchesHonestly, IsHonestRead}
use Rattle.world_semantics.specs.Turns.{Alone, Answer, Calls, Turn, claimed_so, fetcher_turn, read_so, taken, to_fill}
use Rattle.fetcher.specs.Serving.{AreRead, BringsTo, GivesUp, ReadsNothing, Service, ServicesLogged}
use Rattle.mover_events.specs.Making.{MakesCall, MakesStep, MayCome}
use Rattle.mover_events.specs.Parts.{AreSteps, FetcherMakesThem, MakesThem}
use Rattle.mover_events.proofs.Making.{answers, turned}
use Rattle.mover_events.proofs.Visiting.{later_last}

-- what a read of the store gives
abbrev gives : List ℕ → Answer
gives ws = record { stored = true; read = Some ws; grew = true }

-- An actor brings objects in as the mover m of pieces of n cells, as their owner or not: so it is at each point of that, and so where it is done
pub record BringsObjects {A : Type 0} (n m : ℕ) (own : Bool) (turn : Machine → A → Choice → Answer → Turn A) (reads : Machine → A → Option (List ℕ) → Type 0) (at : Fetching → A) (done : A) : Type 0 where
  pub claim : (x : Machine) (o f : ℕ) (a : Answer) → turn x (at (Bringing o)) (choice.Claim f) a ≡ Calls (Claims m o f) (claimed_so m o f at (at (Bringing o)))
  pub read : (x : Machine) (o f : ℕ) (a : Answer) → turn x (at (Reading o f)) choice.Next a ≡ Alone (at (read_so o f a.read))
  pub may_read : (x : Machine) (o f : ℕ) (r : Option (List ℕ)) → IsHonestRead n (x.far o) r → reads x (at (Reading o f)) r
  pub fill : (x : Machine) (o f : ℕ) (words : List ℕ) (k : ℕ) (a : Answer) → turn x (at (Filling o f words k)) choice.Next a
      ≡ cond (nat_lt k n) (Calls (Fills m f k (listed words k)) (λ t. at (Filling o f words (suc k)))) (Calls (Arrives m o f own) (λ t. done))

-- ---- single turns of such an actor

module _ {A : Type 0} (z : Sizes) (m : ℕ) (own : Bool) (turn : Machine → A → Choice → Answer → Turn A) (reads : Machine → A → Option (List ℕ) → Type 0) (at : Fetching → A) (done : A) (brings : BringsObjects z.cells m own turn reads at done) (h : Type 0) (x : Machine) where
  abbrev Makes : A → Call → A → Type 0
  Makes a c b = MakesCall z turn a x c b

  -- the next fill, and the arrival behind the last
  abbrev fill_turn : ℕ → ℕ → List ℕ → ℕ → Turn A
  fill_turn o f words k = Calls (Fills m f k (listed words k)) (λ t. at (Filling o f words (suc k)))

  abbrev arrive_turn : ℕ → ℕ → Turn A
  arrive_turn o f = Calls (Arrives m o f own) (λ t. done)

  fills_there : (o f k v : ℕ) (words : List ℕ) → k < z.cells → listed words k ≡ v → May h z.cells x (Fills m f k v) → Makes (at (Filling o f words k)) (Fills m f k v) (at (Filling o f words (suc k)))
  fills_there o f k v words low is may =
      let turn_is : turn x (at (Filling o f words k)) choice.Next (answers true) ≡ Calls (Fills m f k v) (λ t. at (Filling o f words (suc k))) =
      brings.fill x o f words k (answers true) ∙ ap (λ (b : Bool). cond b (fill_turn o f words k) (arrive_turn o f)) (lt-ltb k z.cells low)
      ∙ ap (λ (w : ℕ). Calls (Fills m f k w) (λ (t : Machine). at (Filling o f words (suc k)))) is in
      (choice.Next, answers true, tt, refl, ap (taken z.cells x) turn_is ∙ turned h z.cells x (Fills m f k v) _ (at (Filling o f words (suc k))) may refl)

  arrives_there : (o f : ℕ) (words : List ℕ) → May h z.cells x (Arrives m o f own) → Makes (at (Filling o f words z.cells)) (Arrives m o f own) done
  arrives_there o f words may =
      let turn_is : turn x (at (Filling o f words z.cells)) choice.Next (answers true) ≡ Calls (Arrives m o f own) (λ t. done) =
      brings.fill x o f words z.cells (answers true) ∙ ap (λ (b : Bool). cond b (fill_turn o f words z.cells) (arrive_turn o f)) (le-ltb z.cells z.cells (omega arith)) in
      (choice.Next, answers true, tt, refl, ap (taken z.cells x) turn_is ∙ turned h z.cells x (Arrives m o f own) _ done may refl)

  -- what it is behind a claim, by what the store cell has
  claimed_then : (o f : ℕ) → f < z.frames → May h z.cells x (Claims m o f) → x.frame f ≡ 0 → (far : Far) → x.far o ≡ far → Makes (at (Bringing o)) (Claims m o f) (at (to_fill o f far))
  claimed_then o f low may free far is =
      let acts : act x (Claims m o f) ≡ after_claim x m o f = ap (λ (b : Bool). cond b (after_claim x m o f) x) (eq-eqb (x.frame f) 0 free) in
      let hand : ((act x (Claims m o f)).hand m).claimed ≡ Some f = ap (λ (t : Machine). (t.hand m).claimed) acts ∙ ap (λ (y : Hand). y.claimed) (upd-same x.hand m _ m refl) in
      let held : holds ((act x (Claims m o f)).hand m).claimed f ≡ true = ap (λ (p : Option ℕ). holds p f) hand ∙ eq-eqb f f refl in
      let same : (act x (Claims m o f)).far o ≡ far = ap (λ (t : Machine). t.far o) acts ∙ is in (
        choice.Claim f,
        answers true,
        low,
        refl,
        ap (taken z.cells x) (brings.claim x o f (answers true))
            ∙ turned h z.cells x (Claims m o f) _ (at (to_fill o f far)) may (ap (λ (b : Bool). cond b (at (to_fill o f ((act x (Claims m o f)).far o))) (at (Bringing o))) held ∙ ap (λ (q : Far). at (to_fill o f q)) same),
      )

-- ---- steps, one behind the other

-- the first steps, and the rest
pub map_apart : (ds es : List Deed) (ps : List (Machine × Deed)) → map (λ p. p.1) ps ≡ ds ++ es → (qs rs : List (Machine × Deed)) × (ps ≡ qs ++ rs) × (map (λ p. p.1) qs ≡ ds) × (map (λ p. p.1) rs ≡ es)
map_apart [] es ps e = ([], ps, refl, refl, e)
map_apart (d ∷ ds) es [] e = absurd (cc)
map_apart (d ∷ ds) es (p ∷ ps) e =
    let first : p.1 ≡ d = cc in let rest : map (λ q. q.1) ps ≡ ds ++ es = cc in let r = map_apart ds es ps rest in
    (p ∷ r.0, r.1, ap (λ (qs : List (Machine × Deed)). p ∷ qs) r.2, ap (λ (q : List Deed). p.1 ∷ q) r.3 ∙ ap (λ (q : Deed). q ∷ ds) first, r.4)

-- the only step
pub only_one : (d : Deed) (ps : List (Machine × Deed)) → map (λ p. p.1) ps ≡ d ∷ [] → (p : Machine × Deed) × (ps ≡ p ∷ []) × (p.1 ≡ d)
only_one d [] e = absurd (cc)
only_one d (p ∷ []) e = let first : p.1 ≡ d = cc in (p, refl, first)
only_one d (p ∷ q ∷ ps) e = absurd (cc)

-- some steps, and then others
pub steps_apart : (honest : Type 0) (z : Sizes) (m : ℕ) (ps qs : List (Machine × Deed)) (x y : Hand) → AreSteps honest z m x (ps ++ qs) y → (h : Hand) × AreSteps honest z m x ps h × AreSteps honest z m h qs y
steps_apart honest z m [] qs x y s = (x, refl, s)
steps_apart honest z m (p ∷ ps) qs x y s = let r = steps_apart honest z m ps qs _ y s.4 in (r.0, (s.0, s.1, s.2, s.3, r.1), r.2)

pub makes_both : {A : Type 0} (reliable : Type 0) (z : Sizes) (turn : Machine → A → Choice → Answer → Turn A) (reads : Machine → A → Option (List ℕ) → Type 0) (ps qs : List (Machine × Deed)) (a b c : A) → MakesThem reliable z turn reads a ps b → MakesThem reliable z turn reads b qs c → MakesThem reliable z turn reads a (ps ++ qs) c
makes_both {A} reliable z turn reads [] qs a b c first then = subst (λ (d : A). MakesThem reliable z turn reads d qs c) first then
makes_both reliable z turn reads (p ∷ ps) qs a b c first then = (first.0, first.1, makes_both reliable z turn reads ps qs first.0 b c first.2 then)

-- one call by one turn, of a step that is this one
pub one_call : {A : Type 0} (reliable : Type 0) (z : Sizes) (turn : Machine → A → Choice → Answer → Turn A) (reads : Machine → A → Option (List ℕ) → Type 0) (a b : A) (p : Machine × Deed) (k i : ℕ) (c : Call) → p.1 ≡ deed k i c → MakesCall z turn a p.0 c b → MakesStep z turn reads reliable a p.0 p.1 b
one_call reliable z turn reads a b p k i c is made = subst (λ (d : Deed). MakesStep z turn reads reliable a p.0 d b) (sym is) (inl (b, made, refl))

-- ---- the cells that are filled

-- the hand behind so many fills with these words
abbrev hand_by : Hand → List ℕ → ℕ → Hand
hand_by x ws zero = x
hand_by x ws (suc k) = filling (hand_by x ws k) k (listed ws k)

promised_still : (x : Hand) (ws : List ℕ) (k : ℕ) → (hand_by x ws k).promised ≡ x.promised
promised_still x ws zero = refl
promised_still x ws (suc k) = promised_still x ws k

brings_still : (x : Hand) (ws : List ℕ) (k : ℕ) → (hand_by x ws k).bringing ≡ x.bringing
brings_still x ws zero = refl
brings_still x ws (suc k) = brings_still x ws k

seen_by : (x : Hand) (ws : List ℕ) (k i : ℕ) → x.filled ≡ [] → i < k → seen (hand_by x ws k).filled i ≡ Some (listed ws i)
seen_by x ws zero i none l = absurd (let q : ⊥ = omega arith in q)
seen_by x ws (suc k) i none l = later_last None (hand_by x ws k).filled (k, listed ws k) i ∙ elim (eqb_tells k i) [
  | inl same ↦ ap (λ (b : Bool). cond b (Some (listed ws k)) (seen (hand_by x ws k).filled i)) same.0 ∙ ap (λ (q : ℕ). Some (listed ws q)) same.1
  | inr other ↦ ap (λ (b : Bool). cond b (Some (listed ws k)) (seen (hand_by x ws k).filled i)) other.0 ∙ seen_by x ws k i none (let ne = other.1 in omega arith)
]

module _ {A : Type 0} (reliable honest : Type 0) (z : Sizes) (m : ℕ) (own : Bool) (turn : Machine → A → Choice → Answer → Turn A) (reads : Machine → A → Option (List ℕ) → Type 0) (at : Fetching → A) (done : A) (brings : BringsObjects z.cells m own turn reads at done) where
  abbrev Steps : Hand → List (Machine × Deed) → Hand → Type 0
  Steps x ps y = AreSteps honest z m x ps y

  abbrev Makes_them : A → List (Machine × Deed) → A → Type 0
  Makes_them a ps b = MakesThem reliable z turn reads a ps b

  abbrev Makes_step : A → Machine → Deed → A → Type 0
  Makes_step a x d b = MakesStep z turn reads reliable a x d b

  both : (ps qs : List (Machine × Deed)) (a b c : A) → Makes_them a ps b → Makes_them b qs c → Makes_them a (ps ++ qs) c
  both = makes_both reliable z turn reads

  call : (a b : A) (p : Machine × Deed) (k i : ℕ) (c : Call) → p.1 ≡ deed k i c → MakesCall z turn a p.0 c b → Makes_step a p.0 p.1 b
  call = one_call reliable z turn reads

  fills_part : (f : ℕ) (ws : List ℕ) (found : ℕ → ℕ) (k : ℕ) (ps : List (Machine × Deed)) (x y : Hand) → map (λ p. p.1) ps ≡ fills z m f ws found k → Steps x ps y
      → (y ≡ hand_by x ws k) × ((o : ℕ) (words : List ℕ) → k ≤ z.cells → ((i : ℕ) → i < k → listed words i ≡ listed ws i) → Makes_them (at (Filling o f words 0)) ps (at (Filling o f words k)))
  fills_part f ws found zero [] x y e s = (s, λ o words l same. refl)
  fills_part f ws found zero (p ∷ ps) x y e s = absurd (cc)
  fills_part f ws found (suc k) ps x y e s =
      let d : Deed = deed _ (found k) (Fills m f k (listed ws k)) in
      let parts = map_apart (fills z m f ws found k) (d ∷ []) ps e in let last = only_one d parts.1 parts.4 in
      let whole : ps ≡ parts.0 ++ last.0 ∷ [] = parts.2 ∙ ap (λ (qs : List (Machine × Deed)). parts.0 ++ qs) last.1 in
      let split = steps_apart honest z m parts.0 (last.0 ∷ []) x y (subst (λ (qs : List (Machine × Deed)). Steps x qs y) whole s) in
      let before = fills_part f ws found k parts.0 x split.0 parts.3 split.1 in let p = last.0 in let q = split.2 in
      let may : May honest z.cells p.0 (Fills m f k (listed ws k)) = (subst (λ (g : Deed). MayCome honest z p.0 g) last.2 q.0).may.0 in
      let left : (act_all p.0 p.1.calls).hand m ≡ filling (p.0.hand m) k (listed ws k) = ap (λ (g : Deed). (act_all p.0 g.calls).hand m) last.2 ∙ upd-same p.0.hand m _ m refl in (
        q.4 ∙ left ∙ ap (λ (g : Hand). filling g k (listed ws k)) (q.3 ∙ before.0),
        λ o words l same.
            let first = before.1 o words (omega arith) (λ i low. same i (omega arith)) in
            let then : Makes_them (at (Filling o f words k)) (p ∷ []) (at (Filling o f words (suc k))) =
            (at (Filling o f words (suc k)), call (at (Filling o f words k)) (at (Filling o f words (suc k))) p _ (found k) (Fills m f k (listed ws k)) last.2 (fills_there z m own turn reads at done brings honest p.0 o f k (listed ws k) words (omega arith) (same k (omega arith)) may), refl) in
            subst (λ (qs : List (Machine × Deed)). Makes_them (at (Filling o f words 0)) qs (at (Filling o f words (suc k)))) (sym whole) (both parts.0 (p ∷ []) (at (Filling o f words 0)) (at (Filling o f words k)) (at (Filling o f words (suc k))) first then),
      )

  -- a claim, behind which it has the words that it fills the frame with
  claimed : (o f : ℕ) (ws : List ℕ) (x : Machine) → f < z.frames → Inv honest z.cells x → (x.hand m).bringing ≡ Some o → May honest z.cells x (Claims m o f) → x.frame f ≡ 0 → ((i : ℕ) → i < z.cells → listed ws i ≡ listed (x.hand m).promised i)
      → (words : List ℕ) × ((i : ℕ) → i < z.cells → listed words i ≡ listed ws i) × Makes_step (at (Bringing o)) x (claims z m o f) (at (Filling o f words 0))
  claimed o f ws x low inv coming may free same = go (x.far o) refl
    where
      there : content (x.far o) ≡ Some (x.hand m).promised
      there = (subst (PlaceOk honest z.cells x o) ((inv.mover m).brings o coming) (inv.object o)).2

      go : (far : Far) → x.far o ≡ far → (words : List ℕ) × ((i : ℕ) → i < z.cells → listed words i ≡ listed ws i) × Makes_step (at (Bringing o)) x (claims z m o f) (at (Filling o f words 0))
      go Never is =
          let none : Some [] ≡ Some (x.hand m).promised = ap content (sym is) ∙ there in let empty : (x.hand m).promised ≡ [] = cc in
          ([], (λ i l. sym (same i l ∙ ap (λ (us : List ℕ). listed us i) empty)), inl (at (Filling o f [] 0), claimed_then z m own turn reads at done brings honest x o f low may free Never is, refl))
      go (Kept us) is =
          let both : Some us ≡ Some (x.hand m).promised = ap content (sym is) ∙ there in let promised : (x.hand m).promised ≡ us = cc in
          let behind : Machine = act x (Claims m o f) in
          let kept : behind.far o ≡ Kept us = ap (λ (t : Machine). t.far o) (ap (λ (b : Bool). cond b (after_claim x m o f) x) (eq-eqb (x.frame f) 0 free)) ∙ is in
          let honest_read = brings.may_read behind o f (Some ws) (subst (λ (q : Far). IsHonestRead z.cells q (Some ws)) (sym kept) (λ i l. same i l ∙ ap (λ (vs : List ℕ). listed vs i) promised)) in (
            ws,
            (λ i l. refl),
            inr (inr (
              at (Reading o f),
              (at (Reading o f), claimed_then z m own turn reads at done brings honest x o f low may free (Kept us) is, refl),
              (gives ws, honest_read, ap (taken z.cells behind) (brings.read behind o f (gives ws))),
            )),
          )
      go Unknown is = absurd (let none : None ≡ Some (x.hand m).promised = ap content (sym is) ∙ there in cc)

  -- an object that is brought in: the steps behind the claim tell what was promised
  filled_as_promised : honest → (o f n : ℕ) (ws : List ℕ) (found : ℕ → ℕ) (ps : List (Machine × Deed)) (x y : Hand) → x.filled ≡ [] → map (λ p. p.1) ps ≡ fills z m f ws found z.cells ++ arrives m o f own n ∷ [] → Steps x ps y
      → (x.bringing ≡ Some o) × ((i : ℕ) → i < z.cells → listed ws i ≡ listed x.promised i) × ((words : List ℕ) → ((i : ℕ) → i < z.cells → listed words i ≡ listed ws i) → Makes_them (at (Filling o f words 0)) ps done)
  filled_as_promised sure o f n ws found ps x y empty e s =
      let parts = map_apart (fills z m f ws found z.cells) (arrives m o f own n ∷ []) ps e in let last = only_one (arrives m o f own n) parts.1 parts.4 in let p = last.0 in
      let whole : ps ≡ parts.0 ++ p ∷ [] = parts.2 ∙ ap (λ (qs : List (Machine × Deed)). parts.0 ++ qs) last.1 in
      let split = steps_apart honest z m parts.0 (p ∷ []) x y (subst (λ (qs : List (Machine × Deed)). Steps x qs y) whole s) in
      let filled = fills_part f ws found z.cells parts.0 x split.0 parts.3 split.1 in
      let may : May honest z.cells p.0 (Arrives m o f own) = (subst (λ (g : Deed). MayCome honest z p.0 g) last.2 split.2.0).may.0 in
      let hand : p.0.hand m ≡ hand_by x ws z.cells = split.2.3 ∙ filled.0 in (
        sym (brings_still x ws z.cells) ∙ ap (λ (g : Hand). g.bringing) (sym hand) ∙ may.0,
        λ i l.
            let told = may.2 i l in
            let word : Some told.0 ≡ Some (listed ws i) = sym told.1 ∙ ap (λ (g : Hand). seen g.filled i) hand ∙ seen_by x ws z.cells i empty l in
            let same : told.0 ≡ listed ws i = cc in
            sym same ∙ told.2 sure ∙ ap (λ (g : Hand). listed g.promised i) hand ∙ ap (λ (us : List ℕ). listed us i) (promised_still x ws z.cells),
        λ words same.
            let then : Makes_them (at (Filling o f words z.cells)) (p ∷ []) done = (done, call (at (Filling o f words z.cells)) done p o n (Arrives m o f own) last.2 (arrives_there z m own turn reads at done brings honest p.0 o f words may), refl) in
            subst (λ (qs : List (Machine × Deed)). Makes_them (at (Filling o f words 0)) qs done) (sym whole) (both parts.0 (p ∷ []) (at (Filling o f words 0)) (at (Filling o f words z.cells)) done (filled.1 o words (omega arith) same) then),
      )

  -- a frame is claimed and filled, and the object arrives
  pub brought : honest → (o f n : ℕ) (ws : List ℕ) (found : ℕ → ℕ) (ps : List (Machine × Deed)) (x y : Hand) → map (λ p. p.1) ps ≡ claims z m o f ∷ (fills z m f ws found z.cells ++ arrives m o f own n ∷ []) → Steps x ps y → Makes_them (at (Bringing o)) ps done
  brought sure o f n ws found [] x y e s = absurd (cc)
  brought sure o f n ws found (q ∷ ps) x y e t =
      let second : q.1 ≡ claims z m o f = cc in let rest : map (λ r. r.1) ps ≡ fills z m f ws found z.cells ++ arrives m o f own n ∷ [] = cc in
      let come = subst (λ (g : Deed). MayCome honest z q.0 g) second t.0 in let there = subst (λ (g : Deed). AreCallsAt z m g.word g.calls) second t.1 in
      let free : q.0.frame f ≡ 0 = sym (come.shown.frame f there.1.1 there.1.0) in
      let left : (act_all q.0 q.1.calls).hand m ≡ claiming (q.0.hand m) f = ap (λ (g : Deed). (act_all q.0 g.calls).hand m) second
      ∙ ap (λ (b : Bool). (cond b (after_claim q.0 m o f) q.0).hand m) (eq-eqb (q.0.frame f) 0 free) ∙ upd-same q.0.hand m _ m refl in
      let told = filled_as_promised sure o f n ws found ps (claiming (q.0.hand m) f) y refl rest (subst (λ (g : Hand). Steps g ps y) left t.4) in
      let then = claimed o f ws q.0 there.1.1 t.2 told.0 come.may.0 free told.1 in
      (at (Filling o f then.0 0), subst (λ (d : Deed). Makes_step (at (Bringing o)) q.0 d (at (Filling o f then.0 0))) (sym second) then.2, told.2 then.0 then.1)

-- ---- a fetcher

-- a fetcher brings objects in, of which it is not the owner
pub fetcher_brings : (n m : ℕ) → BringsObjects n m false (λ x. fetcher_turn n m) (FetchesHonestly n) Some None
fetcher_brings n m = record { claim = λ x o f a. refl; read = λ x o f a. refl; may_read = λ x o f r is. is; fill = λ x o f words k a. refl }

module _ (reliable honest : Type 0) (z : Sizes) (m : ℕ) where
  abbrev Comes : Hand → List (Machine × Deed) → Hand → Type 0
  Comes x ps y = AreSteps honest z m x ps y

  abbrev Does_them : Option Fetching → List (Machine × Deed) → Option Fetching → Type 0
  Does_them a ps b = FetcherMakesThem reliable z m a ps b

  abbrev Does_step : Option Fetching → Machine → Deed → Option Fetching → Type 0
  Does_step a x d b = MakesStep z (λ x. fetcher_turn z.cells m) (FetchesHonestly z.cells) reliable a x d b

  do_both : (ps qs : List (Machine × Deed)) (a b c : Option Fetching) → Does_them a ps b → Does_them b qs c → Does_them a (ps ++ qs) c
  do_both = makes_both reliable z (λ x. fetcher_turn z.cells m) (FetchesHonestly z.cells)

  do_call : (a b : Option Fetching) (p : Machine × Deed) (k i : ℕ) (c : Call) → p.1 ≡ deed k i c → MakesCall z (λ x. fetcher_turn z.cells m) a p.0 c b → Does_step a p.0 p.1 b
  do_call = one_call reliable z (λ x. fetcher_turn z.cells m) (FetchesHonestly z.cells)

  begins_there : (x : Machine) (o : ℕ) → o < z.objects → May honest z.cells x (Begins m o 0 false) → (x.word o).place ≡ Away → (x.word o).count ≡ 0 → MakesCall z (λ x. fetcher_turn z.cells m) None x (Begins m o 0 false) (Some (Bringing o))
  begins_there x o near may place count =
      let hand : ((act x (Begins m o 0 false)).hand m).bringing ≡ Some o = ap (λ (t : Machine). (t.hand m).bringing) (begin_hits x m o 0 place count) ∙ ap (λ (y : Hand). y.bringing) (upd-same x.hand m _ m refl) in
      let held : holds ((act x (Begins m o 0 false)).hand m).bringing o ≡ true = ap (λ (p : Option ℕ). holds p o) hand ∙ eq-eqb o o refl in
      (choice.Begin o, answers true, near, refl, turned honest z.cells x (Begins m o 0 false) _ (Some (Bringing o)) may (ap (λ (b : Bool). cond b (Some (Bringing o)) None) held))

  retreats_there : (x : Machine) (o : ℕ) → May honest z.cells x (Retreats m o) → MakesCall z (λ x. fetcher_turn z.cells m) (Some (Bringing o)) x (Retreats m o) None
  retreats_there x o may = (choice.Next, answers true, tt, refl, turned honest z.cells x (Retreats m o) _ None may refl)

  -- ---- services

  -- a step that began the object: what it is then, and what it has in hand
  began : (o : ℕ) (p : Machine × Deed) (x y : Hand) → p.1 ≡ begins m o 0 false → Comes x (p ∷ []) y → Does_step None p.0 p.1 (Some (Bringing o))
  began o p x y is s =
      let come = subst (λ (g : Deed). MayCome honest z p.0 g) is s.0 in let at = subst (λ (g : Deed). AreCallsAt z m g.word g.calls) is s.1 in
      let shown = come.shown.object at.1.1 in
      let away = is_away (p.0.word o).place (p.0.word o).count 0 shown.1.1 shown.1.0 (omega arith) (sym shown.0 ∙ plain 0) in
      do_call None (Some (Bringing o)) p o 0 (Begins m o 0 false) is (begins_there p.0 o at.1.1 come.may.0 away.0 away.1)

  gives_up : (o n : ℕ) (ps : List (Machine × Deed)) (x y : Hand) → map (λ p. p.1) ps ≡ begins m o 0 false ∷ retreats m o n ∷ [] → Comes x ps y → Does_them None ps None
  gives_up o n [] x y e s = absurd (cc)
  gives_up o n (p ∷ ps) x y e s =
      let first : p.1 ≡ begins m o 0 false = cc in let rest : map (λ q. q.1) ps ≡ retreats m o n ∷ [] = cc in let last = only_one (retreats m o n) ps rest in
      let next = subst (λ (qs : List (Machine × Deed)). Comes ((act_all p.0 p.1.calls).hand m) qs y) last.1 s.4 in let q = last.0 in
      let may = (subst (λ (g : Deed). MayCome honest z q.0 g) last.2 next.0).may.0 in
      let begun = began o p x _ first (s.0, s.1, s.2, s.3, refl) in
      let then : Does_them (Some (Bringing o)) (q ∷ []) None = (None, do_call (Some (Bringing o)) None q o n (Retreats m o) last.2 (retreats_there q.0 o may), refl) in
      (Some (Bringing o), begun, subst (λ (qs : List (Machine × Deed)). Does_them (Some (Bringing o)) qs None) (sym last.1) then)

  brings_to : honest → (o f n : ℕ) (ws : List ℕ) (found : ℕ → ℕ) (ps : List (Machine × Deed)) (x y : Hand) → map (λ p. p.1) ps ≡ begins m o 0 false ∷ claims z m o f ∷ (fills z m f ws found z.cells ++ arrives m o f false n ∷ []) → Comes x ps y → Does_them None ps None
  brings_to sure o f n ws found [] x y e s = absurd (cc)
  brings_to sure o f n ws found (p ∷ ps) x y e s =
      let first : p.1 ≡ begins m o 0 false = cc in let rest : map (λ r. r.1) ps ≡ claims z m o f ∷ (fills z m f ws found z.cells ++ arrives m o f false n ∷ []) = cc in
      (Some (Bringing o), began o p x _ first (s.0, s.1, s.2, s.3, refl), brought reliable honest z m false (λ x. fetcher_turn z.cells m) (FetchesHonestly z.cells) Some None (fetcher_brings z.cells m) sure o f n ws found ps _ y rest s.4)

  -- the log grew by steps that an idle fetcher makes wherever they come one behind the other
  abbrev Grows : List Deed → List Deed → Type 0
  Grows old new = (ds : List Deed) × (new ≡ old ++ ds) × ((ps : List (Machine × Deed)) (x y : Hand) → map (λ p. p.1) ps ≡ ds → Comes x ps y → Does_them None ps None)

  -- and then by others
  and_rest : (old mid new : List Deed) → Grows old mid → Grows mid new → Grows old new
  and_rest old mid new first rest = (
    first.0 ++ rest.0,
    rest.1 ∙ ap (λ (ds : List Deed). ds ++ rest.0) first.1 ∙ append_assoc old first.0 rest.0,
    λ ps x y e s.
        let parts = map_apart first.0 rest.0 ps e in let split = steps_apart honest z m parts.0 parts.1 x y (subst (λ (qs : List (Machine × Deed)). Comes x qs y) parts.2 s) in
        subst (λ (qs : List (Machine × Deed)). Does_them None qs None) (sym parts.2) (do_both parts.0 parts.1 None None None (first.2 parts.0 x split.0 parts.3 split.1) (rest.2 parts.1 split.0 y parts.4 split.2)),
  )

  pub services_so : honest → (xs : List Service) (old new : List Deed) → AreRead xs → ServicesLogged z m xs old new → Grows old new
  services_so sure [] old new read l = ([], l ∙ nothing_behind old, idle)
    where
      nothing_behind : (ds : List Deed) → ds ≡ ds ++ []
      nothing_behind [] = refl
      nothing_behind (d ∷ ds) = ap (λ (es : List Deed). d ∷ es) (nothing_behind ds)

      idle : (ps : List (Machine × Deed)) (x y : Hand) → map (λ p. p.1) ps ≡ [] → Comes x ps y → Does_them None ps None
      idle [] x y e s = refl
      idle (p ∷ ps) x y e s = absurd (cc)
  services_so sure (GivesUp o ∷ xs) old new read l = and_rest old l.0 new (begins m o 0 false ∷ retreats m o l.1.0 ∷ [], l.1.1 ∙ append_assoc old _ _, gives_up o l.1.0) (services_so sure xs l.0 new read l.2)
  services_so sure (ReadsNothing o f ∷ xs) old new read l = absurd read
  services_so sure (BringsTo o f ∷ xs) old new read l =
      let b = l.1.1 in
      and_rest old l.0 new (begins m o 0 false ∷ claims z m o f ∷ (fills z m f l.1.0 b.1 z.cells ++ arrives m o f false b.2 ∷ []), b.3 ∙ append_assoc (old ++ begins m o 0 false ∷ []) _ _ ∙ append_assoc old _ _, brings_to sure o f b.2 l.1.0 b.1)
      (services_so sure xs l.0 new read l.2)
