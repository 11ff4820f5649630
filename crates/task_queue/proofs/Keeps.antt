-- Each move keeps the rule of the tasks.
use Rattle.std.proofs.Common.{◌≡◌, ◌≢◌, ◌<◌, ◌≤◌, ◌+◌, ◌-◌, ℕ, zero, suc, Bool, true, false, true≢false, List, [], ◌∷◌, ◌++◌, All, Option, Some, None, sym, refl, ap, ◌∙◌, subst, ⊎_elim, set, length, length-append, inl, inr, arith}
use Rattle.std.specs.Prelude.{⊤}
use mathlib.Core.Option.{some, some-injective, some-ne-none}
use lib.ListN.{get_elem?}
use Rattle.std.proofs.lemmas.List.Elements.{All-push}
use Rattle.crossbeam_queue.specs.Fifo.{Pushes, Pops, Forks, Learns}
use Rattle.crossbeam_queue.proofs.Lists.{at_set, at_snoc}
use Rattle.program_run.specs.Runs.{RunView}
use Rattle.task_queue.specs.declared.rule.KnowsRoster.{KnowsRoster}
use Rattle.task_queue.specs.declared.rule.Roster.{Roster}
use Rattle.task_queue.specs.Tasked.{AllKnow, AreTasks, IsTask, all_in_hand, knows, roster_in, roster_of, roster_or_none, unknown}

abbrev is_known : Option Roster → Bool
is_known None = false
is_known (Some n) = true

-- a pass that knows a roster is not the first one before the roster is known
apart : {X : Type 0} (r : Roster) (v : KnowsRoster) → v.roster ≡ Some r → v ≡ unknown → X
apart r v e is = absurd (true≢false (sym (ap is_known e) ∙ ap (λ (u : KnowsRoster). is_known u.roster) is))

set_one : (views : List KnowsRoster) (pass : ℕ) (r : Roster) (w : KnowsRoster) → AllKnow r views → w.roster ≡ Some r → AllKnow r (set views pass w)
set_one views pass r w all is j u e =
    ⊎_elim (λ (x : (j ≡ pass) × (w ≡ u)). ap (λ (k : KnowsRoster). k.roster) (sym x.1) ∙ is) (λ (x : (j ≢ pass) × (get_elem? views j ≡ some u)). all j u x.1) (at_set views pass j w u e)

-- what is in hand when one pass changes
hand_set : (views : List KnowsRoster) (pass : ℕ) (v w : KnowsRoster) → get_elem? views pass ≡ some v → all_in_hand (set views pass w) + v.in_hand ≡ all_in_hand views + w.in_hand
hand_set [] pass v w at = absurd (some-ne-none v (sym at))
hand_set (u ∷ us) zero v w at = let same : u.in_hand ≡ v.in_hand = ap (λ (k : KnowsRoster). k.in_hand) (some-injective u v at) in omega arith
hand_set (u ∷ us) (suc pass) v w at = let rest = hand_set us pass v w at in omega arith

-- no pass has more in hand than all have
hand_of : (views : List KnowsRoster) (pass : ℕ) (v : KnowsRoster) → get_elem? views pass ≡ some v → v.in_hand ≤ all_in_hand views
hand_of [] pass v at = absurd (some-ne-none v (sym at))
hand_of (u ∷ us) zero v at = let same : u.in_hand ≡ v.in_hand = ap (λ (k : KnowsRoster). k.in_hand) (some-injective u v at) in omega arith
hand_of (u ∷ us) (suc pass) v at = let rest = hand_of us pass v at in omega arith

hand_more : (views : List KnowsRoster) (w : KnowsRoster) → all_in_hand (views ++ w ∷ []) ≡ all_in_hand views + w.in_hand
hand_more [] w = omega arith
hand_more (u ∷ us) w = let rest = hand_more us w in omega arith

-- of one view alone
only : (v w : KnowsRoster) (pass : ℕ) → get_elem? (v ∷ []) pass ≡ some w → (w ≡ v) × (pass ≡ 0)
only v w zero e = (sym (some-injective v w e), refl)
only v w (suc pass) e = absurd (some-ne-none w (sym e))

first_only : (views : List KnowsRoster) (v : KnowsRoster) (pass : ℕ) → views ≡ unknown ∷ [] → get_elem? views pass ≡ some v → (v ≡ unknown) × (pass ≡ 0)
first_only views v pass is at = only unknown v pass (ap (λ l. get_elem? l pass) (sym is) ∙ at)

one : (r : Roster) (n : ℕ) → AllKnow r (knows r n ∷ [])
one r n pass v at = ap (λ (k : KnowsRoster). k.roster) (only (knows r n) v pass at).0

pub begins : AreTasks [] (unknown ∷ [])
begins = inl (refl, refl)

-- a task in hand is put by a pass that knows the roster
pub pushes : (n pass : ℕ) (v : KnowsRoster) (r : Roster) (x : RunView) → v.roster ≡ Some r → 0 < v.in_hand → IsTask r x → Pushes AreTasks n pass v x (λ w. w ≡ record v { in_hand = v.in_hand - 1 })
pushes n pass v r x is any good items views room (inl h) at = apart r v is (first_only views v pass h.0 at).0
pushes n pass v r x is any good items views room (inr h) at =
    let w : KnowsRoster = record v { in_hand = v.in_hand - 1 } in
    let mine : v.roster ≡ Some h.0 = h.1 pass v at in
    let one : r ≡ h.0 = ap roster_or_none (sym is ∙ mine) in
    let hands = hand_set views pass v w at in
    let long = length-append items (x ∷ []) in
    let whole = h.3 in (
      w,
      inr (h.0, set_one views pass h.0 w h.1 mine, All-push (IsTask h.0) items x h.2 (subst (λ k. IsTask k x) one good), omega arith),
      refl,
    )

-- the first task brings the roster
pub founds : (n pass : ℕ) (v : KnowsRoster) (x : RunView) → v ≡ unknown → IsTask (roster_of x) x → Pushes AreTasks n pass v x (λ w. w ≡ knows (roster_of x) (length x.programs - 1))
founds n pass v x is good items views room (inl h) at =
    let r = roster_of x in
    let n : ℕ = length x.programs - 1 in
    let named = good.named in
    let place : pass ≡ 0 = (first_only views v pass h.0 at).1 in
    let after : set views pass (knows r n) ≡ knows r n ∷ [] = ap (λ p. set views p (knows r n)) place ∙ ap (λ l. set l 0 (knows r n)) h.0 in
    let hands : all_in_hand (set views pass (knows r n)) ≡ n + 0 = ap all_in_hand after in
    let long : length (items ++ x ∷ []) ≡ 1 = ap (λ l. length (l ++ x ∷ [])) h.1 in (
      knows r n,
      inr (
        r,
        subst (AllKnow r) (sym after) (one r n),
        subst (λ l. All (IsTask r) (l ++ x ∷ [])) (sym h.1) (All-push (IsTask r) [] x (λ k d l. absurd (omega arith)) good),
        omega arith,
      ),
      refl,
    )
founds n pass v x is good items views room (inr h) at = apart h.0 v (h.1 pass v at) is

pub pops : (pass : ℕ) (v : KnowsRoster) → Pops AreTasks pass v (λ x w. (w ≡ record v { in_hand = v.in_hand + 1 }) × IsTask (roster_in v) x × (w.in_hand ≤ length (roster_in v).programs))
pops pass v x items views (inl h) at = let e : suc (length items) ≡ 0 = ap length h.1 in absurd (omega arith)
pops pass v x items views (inr h) at =
    let w : KnowsRoster = record v { in_hand = v.in_hand + 1 } in
    let mine : v.roster ≡ Some h.0 = h.1 pass v at in
    let hands = hand_set views pass v w at in
    let whole = h.3 in
    let few : v.in_hand ≤ all_in_hand views = hand_of views pass v at in
    let most : v.in_hand + 1 ≤ length h.0.programs = omega arith in (
      w,
      inr (h.0, set_one views pass h.0 w h.1 mine, λ k d l. h.2 (suc k) d (omega arith), omega arith),
      (refl, subst (λ m. IsTask m x) (sym (ap roster_or_none mine)) (h.2 0 x (omega arith)), subst (λ (m : Roster). v.in_hand + 1 ≤ length m.programs) (sym (ap roster_or_none mine)) most),
    )

pub forks : (pass : ℕ) (v : KnowsRoster) (r : Roster) → v.roster ≡ Some r → Forks AreTasks pass v v (record v { in_hand = 0 })
forks pass v r is items views (inl h) at = apart r v is (first_only views v pass h.0 at).0
forks pass v r is items views (inr h) at =
    let mine : v.roster ≡ Some h.0 = h.1 pass v at in
    let new : KnowsRoster = record v { in_hand = 0 } in
    let hands = hand_set views pass v v at in
    let more = hand_more (set views pass v) new in
    let whole = h.3 in
    inr (
      h.0,
      (λ j u e.
          ⊎_elim (λ (x : get_elem? (set views pass v) j ≡ some u). set_one views pass h.0 v h.1 mine j u x) (λ (x : new ≡ u). ap (λ (k : KnowsRoster). k.roster) (sym x) ∙ mine) (at_snoc (set views pass v) new u j e)),
      h.2,
      omega arith,
    )

-- the tasks in the queue and those in hand with a pass that knows the roster are no more than the programs
pub few : (pass : ℕ) (v : KnowsRoster) (r : Roster) → v.roster ≡ Some r → Learns AreTasks pass v (λ items. v.in_hand + length items ≤ length (roster_in v).programs)
few pass v r is items views (inl h) at = apart r v is (first_only views v pass h.0 at).0
few pass v r is items views (inr h) at =
    let mine : v.roster ≡ Some h.0 = h.1 pass v at in
    let own : v.in_hand ≤ all_in_hand views = hand_of views pass v at in
    let whole = h.3 in
    let most : v.in_hand + length items ≤ length h.0.programs = omega arith in
    subst (λ (m : Roster). v.in_hand + length items ≤ length m.programs) (sym (ap roster_or_none mine)) most

pub learns : (pass : ℕ) (v : KnowsRoster) → Learns AreTasks pass v (λ items. ⊤)
learns pass v items views h at = tt
