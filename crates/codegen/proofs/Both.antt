-- Both directions, from what the machine does at each number of turns.
use Rattle.std.proofs.Common.{◌≡◌, ℕ, zero, suc, ◌+◌, ◌-◌, ◌≤◌, false, List, [], ◌∷◌, ◌++◌, Option, Some, None, refl, sym, ap, ◌∙◌, subst, arith}
use Rattle.cells.specs.Outcomes.{IsPrefix, KeepsEnd, Meant}
use Rattle.cells.specs.Stops.{Stop}
use Rattle.code_form.specs.declared.allocation.Allocation.{Allocation}
use Rattle.code_form.specs.Form.{Image}
use Rattle.code_form.specs.Effects.{Heap, steps}
use Rattle.code_form.specs.Code.{Core, IsStuck, Running, Stopped, Stuck, code, output_of, stop_of}
use Rattle.code_form.specs.Laws.{OutputGrows, StoppedStays, StuckStays}
use Rattle.middle_form.specs.Scoped.{Program}
use Rattle.middle_form.specs.ScopedMeaning.{scoped_means}
use Rattle.codegen.specs.Correct.{IsSafe, Keeps, ran}
use Rattle.codegen.specs.Generated.{generated}
use Rattle.codegen.proofs.Lands.{IsRunning, Machine, steps-add}
use Rattle.codegen.proofs.Whole.{Ends, EndsAs, begun, follows}

nil_right : (o : List ℕ) → o ++ [] ≡ o
nil_right [] = refl
nil_right (x ∷ o) = ap (λ l. x ∷ l) (nil_right o)

same : (o : List ℕ) → IsPrefix o o
same o = ([], nil_right o)

some_same : {A : Type 0} {x y : A} → Some x ≡ Some y → x ≡ y
some_same e = cc e

-- what a state is told as
abbrev told_as : Core → Meant
told_as a = record { stop = stop_of a; output = output_of a }

module _ (stopped_stays : StoppedStays) (stuck_stays : StuckStays) (grows : OutputGrows) (C : Image) (c : Machine) where
  -- the state behind k steps
  abbrev after : ℕ → Core
  after k = (steps (code C) k c).0

  -- a state that stays
  abbrev Stays : Core → Type 0
  Stays a = (h : Heap) (i : ℕ) → (steps (code C) i (a, h)).0 ≡ a

  ends_stay : (s : Stop) (al : List Allocation) (o : List ℕ) → Stays (Stopped s al o)
  ends_stay s al o h i = ap (λ (z : Machine). z.0) (stopped_stays C s al o h i)

  stuck_stay : (al : List Allocation) (o : List ℕ) → Stays (Stuck al o)
  stuck_stay al o h i = ap (λ (z : Machine). z.0) (stuck_stays C al o h i)

  -- so it is there at every later number
  later : (a : Core) (j k : ℕ) → Stays a → j ≤ k → after j ≡ a → after k ≡ a
  later a j k stays le e =
      let split : k ≡ j + (k - j) = omega arith in
      let h : Heap = (steps (code C) j c).1 in
      ap after split ∙ ap (λ (z : Machine). z.0) (steps-add C j (k - j) c) ∙ ap (λ (d : Core). (steps (code C) (k - j) (d, h)).0) e ∙ stays h (k - j)

  -- one run has one end
  same_end : (a b : Core) (j k : ℕ) → Stays a → Stays b → after j ≡ a → after k ≡ b → a ≡ b
  same_end a b j k sa sb ea eb = sym (later a j (j + k) sa (omega arith) ea) ∙ later b k (j + k) sb (omega arith) eb

  running_output : (a : Core) (o : List ℕ) → IsRunning a o → output_of a ≡ o
  running_output (Running f st al p) o r = r
  running_output (Stopped s al p) o r = absurd r
  running_output (Stuck al p) o r = absurd r

  not_running : (a b : Core) (o : List ℕ) → (IsRunning b o → ⊥) → a ≡ b → IsRunning a o → ⊥
  not_running a b o never_so e r = never_so (subst (λ (z : Core). IsRunning z o) e r)

  output_later : (k j : ℕ) → k ≤ j → IsPrefix (output_of (after k)) (output_of (after j))
  output_later k j le =
      let split : j ≡ k + (j - k) = omega arith in
      subst (λ (z : Machine). IsPrefix (output_of (after k)) (output_of z.0)) (sym (ap (λ n. steps (code C) n c) split ∙ steps-add C k (j - k) c)) (grows C (j - k) (steps (code C) k c))

  prints : (k p : ℕ) (x : Option Stop) (o : List ℕ) → k ≤ p → EndsAs C c p x o → IsPrefix (output_of (after k)) o
  prints k p None o le h =
      let least = h.least in
      subst (λ l. IsPrefix (output_of (after k)) l) (running_output _ o h.runs) (output_later k h.many (omega arith))
  prints k p (Some s) o le h =
      let end = later (Stopped s h.al o) h.many (k + h.many) (ends_stay s h.al o) (omega arith) h.eq in
      subst (λ l. IsPrefix (output_of (after k)) l) (ap output_of end) (output_later k (k + h.many) (omega arith))

  stops : (k p : ℕ) (x : Option Stop) (o : List ℕ) (s : Stop) (al : List Allocation) (q : List ℕ) → k ≤ p → EndsAs C c p x o → after k ≡ Stopped s al q → (x ≡ Some s) × (o ≡ q)
  stops k p None o s al q le h e =
      let least = h.least in
      absurd (not_running _ (Stopped s al q) o (λ r. r) (later (Stopped s al q) k h.many (ends_stay s al q) (omega arith) e) h.runs)
  stops k p (Some t) o s al q le h e = let z = same_end (Stopped t h.al o) (Stopped s al q) h.many k (ends_stay t h.al o) (ends_stay s al q) h.eq e in (cc, cc)

  never : (k p : ℕ) (x : Option Stop) (o : List ℕ) (al : List Allocation) (q : List ℕ) → k ≤ p → EndsAs C c p x o → after k ≡ Stuck al q → ⊥
  never k p None o al q le h e =
      let least = h.least in
      not_running _ (Stuck al q) o (λ r. r) (later (Stuck al q) k h.many (stuck_stay al q) (omega arith) e) h.runs
  never k p (Some t) o al q le h e = let z = same_end (Stopped t h.al o) (Stuck al q) h.many k (ends_stay t h.al o) (stuck_stay al q) h.eq e in cc

  -- from the machine to what is meant
  meant_so : (k p : ℕ) (m : Meant) → k ≤ p → EndsAs C c p m.stop m.output → (a : Core) → after k ≡ a → KeepsEnd (told_as a) m
  meant_so k p m le h (Running f st al q) e = subst (λ (z : Core). IsPrefix (output_of z) m.output) e (prints k p m.stop m.output le h)
  meant_so k p m le h (Stopped s al q) e = stops k p m.stop m.output s al q le h e
  meant_so k p m le h (Stuck al q) e = absurd (never k p m.stop m.output al q le h e)

  not_stuck : (k p : ℕ) (m : Meant) → k ≤ p → EndsAs C c p m.stop m.output → (a : Core) → after k ≡ a → IsStuck a ≡ false
  not_stuck k p m le h (Running f st al q) e = refl
  not_stuck k p m le h (Stopped s al q) e = refl
  not_stuck k p m le h (Stuck al q) e = absurd (never k p m.stop m.output al q le h e)

  -- and back
  reaches : (p : ℕ) (x : Option Stop) (o : List ℕ) → EndsAs C c p x o → (k : ℕ) × KeepsEnd (record { stop = x; output = o }) (told_as (after k))
  reaches p None o h = (h.many, subst (λ l. IsPrefix o l) (sym (running_output _ o h.runs)) (same o))
  reaches p (Some t) o h = (h.many, (ap stop_of h.eq, ap output_of h.eq))

-- what the machine does within k steps is meant with k + 1 turns
ends_at : (cells : ℕ) (P : Program) → IsSafe P → (k : ℕ) → (m : Meant) × (scoped_means P (suc k) ≡ Some m) × EndsAs (generated cells P) (begun cells P) k m.stop m.output
ends_at cells P safe k = by_meaning (scoped_means P (suc k)) refl
  where
    by_meaning : (o : Option Meant) → scoped_means P (suc k) ≡ o → (m : Meant) × (scoped_means P (suc k) ≡ Some m) × EndsAs (generated cells P) (begun cells P) k m.stop m.output
    by_meaning None e = absurd (safe (suc k) e)
    by_meaning (Some m) e = (m, e, subst (Ends (generated cells P) (begun cells P) k) e (follows cells P k))

pub keeps : StoppedStays → StuckStays → OutputGrows → (cells : ℕ) (P : Program) → IsSafe P → Keeps P (generated cells P)
keeps stopped stuck grows cells P safe = record {
  runs = λ k. let z = ends_at cells P safe k in (suc k, z.0, z.1, meant_so stopped stuck grows (generated cells P) (begun cells P) k k z.0 (omega arith) z.2 _ refl);
  follows = by_turns;
  never_stuck = λ k. let z = ends_at cells P safe k in not_stuck stopped stuck grows (generated cells P) (begun cells P) k k z.0 (omega arith) z.2 _ refl;
}
  where
    by_turns : (n : ℕ) (m : Meant) → scoped_means P n ≡ Some m → (k : ℕ) × KeepsEnd m (ran (generated cells P) k)
    by_turns zero m e = (0, subst (λ (a : Meant). KeepsEnd a (ran (generated cells P) 0)) (some_same e) (output_of (begun cells P).0, refl))
    by_turns (suc d) m e = reaches stopped stuck grows (generated cells P) (begun cells P) d m.stop m.output (subst (Ends (generated cells P) (begun cells P) d) e (follows cells P d))
