-- A run of the meaning and one of the code, side by side: both come to what belongs together, or both end in the same way.
use Rattle.std.proofs.Common.{◌≡◌, ℕ, zero, suc, List, [], ◌∷◌, ◌++◌, refl, sym, ap, ◌∙◌, subst, Bool, true, false}
use Rattle.cells.specs.Outcomes.{Done, Stopped, Cut, then_do}
use Rattle.c0_typed.specs.Values.{Value, as_truth}
use Rattle.c0_typed.specs.Meaning.{State, Outcome, if_true, turn}
use Rattle.c0_typed.specs.Typing.{Kept, Extends}
use Rattle.c0_typed.proofs.Soundness.{extends_refl, extends_trans}
use Rattle.code_form.specs.Code.{if_zero, of_bool}
use Rattle.middle_form.specs.Form.{Code, Program}
use Rattle.middle_form.specs.Form as f
use Rattle.middle_form.specs.Meaning as m
use Rattle.lower_expressions.specs.Expressions.{sequence}

-- the code is done too, with what belongs to this, and with more made
abbrev pub Lands : {A B : Type 0} → List Kept → (List Kept → A → State → B → m.State → Type 0) → A → State → m.Outcome B → Type 0
Lands made R a s (m.Done b w) = (new : List Kept) × Extends made new × R new a s b w
Lands made R a s (m.Stopped x out) = ⊥
Lands made R a s (m.Cut out) = ⊥
Lands made R a s m.Stuck = ⊥

-- the two come to the same
abbrev pub Joint : {A B : Type 0} → List Kept → (List Kept → A → State → B → m.State → Type 0) → Outcome A → m.Outcome B → Type 0
Joint made R (Done a s) n = Lands made R a s n
Joint made R (Stopped x out) n = n ≡ m.Stopped x out
Joint made R (Cut out) n = n ≡ m.Cut out

pub joint_done : {A B : Type 0} (made : List Kept) (R : List Kept → A → State → B → m.State → Type 0) (a : A) (s : State) (b : B) (w : m.State) → R made a s b w → Joint made R (Done a s) (m.Done b w)
joint_done made R a s b w r = (made, extends_refl made, r)

pub joint_from : {A B : Type 0} (old new : List Kept) (R : List Kept → A → State → B → m.State → Type 0) (o : Outcome A) (n : m.Outcome B) → Extends old new → Joint new R o n → Joint old R o n
joint_from old new R (Done a s) (m.Done b w) e h = (h.0, extends_trans old new h.0 e h.1, h.2)
joint_from old new R (Done a s) (m.Stopped x out) e h = absurd h
joint_from old new R (Done a s) (m.Cut out) e h = absurd h
joint_from old new R (Done a s) m.Stuck e h = absurd h
joint_from old new R (Stopped x out) n e h = h
joint_from old new R (Cut out) n e h = h

-- one behind the other, on both sides
pub joint_then : {A B C D : Type 0} (made : List Kept) (R : List Kept → A → State → B → m.State → Type 0) (S : List Kept → C → State → D → m.State → Type 0) (o : Outcome A) (n : m.Outcome B) (go : A → State → Outcome C) (on : B → m.State → m.Outcome D)
    → Joint made R o n → ((new : List Kept) (a : A) (s : State) (b : B) (w : m.State) → Extends made new → R new a s b w → Joint new S (go a s) (on b w)) → Joint made S (then_do o go) (m.then_do n on)
joint_then made R S (Done a s) (m.Done b w) go on h k = joint_from made h.0 S (go a s) (on b w) h.1 (k h.0 a s b w h.1 h.2)
joint_then made R S (Done a s) (m.Stopped x out) go on h k = absurd h
joint_then made R S (Done a s) (m.Cut out) go on h k = absurd h
joint_then made R S (Done a s) m.Stuck go on h k = absurd h
joint_then made R S (Stopped x out) n go on h k = ap (λ z. m.then_do z on) h
joint_then made R S (Cut out) n go on h k = ap (λ z. m.then_do z on) h

-- the code alone goes on
pub joint_on : {A B D : Type 0} (made : List Kept) (R : List Kept → A → State → B → m.State → Type 0) (S : List Kept → A → State → D → m.State → Type 0) (o : Outcome A) (n : m.Outcome B) (on : B → m.State → m.Outcome D)
    → Joint made R o n → ((new : List Kept) (a : A) (s : State) (b : B) (w : m.State) → Extends made new → R new a s b w → Lands new S a s (on b w)) → Joint made S o (m.then_do n on)
joint_on made R S (Done a s) (m.Done b w) on h k = joint_from made h.0 S (Done a s) (on b w) h.1 (k h.0 a s b w h.1 h.2)
joint_on made R S (Done a s) (m.Stopped x out) on h k = absurd h
joint_on made R S (Done a s) (m.Cut out) on h k = absurd h
joint_on made R S (Done a s) m.Stuck on h k = absurd h
joint_on made R S (Stopped x out) n on h k = ap (λ z. m.then_do z on) h
joint_on made R S (Cut out) n on h k = ap (λ z. m.then_do z on) h

-- the meaning alone goes on
pub joint_then_done : {A B C : Type 0} (made : List Kept) (R : List Kept → A → State → B → m.State → Type 0) (S : List Kept → C → State → B → m.State → Type 0) (o : Outcome A) (n : m.Outcome B) (go : A → State → C) (after : A → State → State)
    → Joint made R o n → ((new : List Kept) (a : A) (s : State) (b : B) (w : m.State) → Extends made new → R new a s b w → S new (go a s) (after a s) b w) → Joint made S (then_do o (λ a s. Done (go a s) (after a s))) n
joint_then_done made R S (Done a s) (m.Done b w) go after h k = (h.0, h.1, k h.0 a s b w h.1 h.2)
joint_then_done made R S (Done a s) (m.Stopped x out) go after h k = absurd h
joint_then_done made R S (Done a s) (m.Cut out) go after h k = absurd h
joint_then_done made R S (Done a s) m.Stuck go after h k = absurd h
joint_then_done made R S (Stopped x out) n go after h k = h
joint_then_done made R S (Cut out) n go after h k = h

-- one of two by a truth value and by its cell
pub joint_if : {A B : Type 0} (made : List Kept) (R : List Kept → A → State → B → m.State → Type 0) (v : Value) (cell : ℕ) (x y : Outcome A) (a b : m.Outcome B) → cell ≡ of_bool (as_truth v)
    → Joint made R x a → Joint made R y b → Joint made R (if_true v x y) (if_zero cell b a)
joint_if made R v cell x y a b e h k = subst (λ z. Joint made R (if_true v x y) (if_zero z b a)) (sym e) (at (as_truth v))
  where
    at : (c : Bool) → Joint made R (elim c [ true ↦ x | false ↦ y ]) (if_zero (of_bool c) b a)
    at true = h
    at false = k

-- a turn on both sides
pub joint_turn : {A B : Type 0} (made : List Kept) (R : List Kept → A → State → B → m.State → Type 0) (s : State) (w : m.State) (go : State → Outcome A) (on : m.State → m.Outcome B) → s.turns ≡ w.turns → s.output ≡ w.output
    → ((n : ℕ) → Joint made R (go (record s { turns = n })) (on (record w { turns = n }))) → Joint made R (turn s go) (m.turn w on)
joint_turn {A} {B} made R s w go on e o h = subst (λ z. Joint made R (turn s go) (elim z as (λ n. m.Outcome B) [ zero ↦ m.Cut w.output | suc n ↦ on (record w { turns = n }) ])) e (at s.turns)
  where
    at : (k : ℕ) → Joint made R (elim k as (λ n. Outcome A) [ zero ↦ Cut s.output | suc n ↦ go (record s { turns = n }) ]) (elim k as (λ n. m.Outcome B) [ zero ↦ m.Cut w.output | suc n ↦ on (record w { turns = n }) ])
    at zero = ap m.Cut (sym o)
    at (suc n) = h n

-- ---- sequences

module _ (P : Program) (call : ℕ → List ℕ → m.State → m.Outcome ℕ) (ks : _) where
  -- a sequence is run one part behind the other
  pub run_append : (xs ys : List Code) (rs : List ℕ) (w : m.State) → m.run P call ks (sequence (xs ++ ys)) rs w ≡ m.then_do (m.run P call ks (sequence xs) rs w) (m.falls (m.run P call ks (sequence ys)))
  run_append [] ys rs w = refl
  run_append (x ∷ xs) ys rs w = at (m.run P call ks x rs w) (λ qs t. run_append xs ys qs t)
    where
      at : (o : m.Outcome m.Left) → ((qs : List ℕ) (t : m.State) → m.run P call ks (sequence (xs ++ ys)) qs t ≡ m.then_do (m.run P call ks (sequence xs) qs t) (m.falls (m.run P call ks (sequence ys)))) → m.then_do o (m.falls (m.run P call ks (sequence (xs ++ ys)))) ≡ m.then_do (m.then_do o (m.falls (m.run P call ks (sequence xs)))) (m.falls (m.run P call ks (sequence ys)))
      at (m.Done (zero, qs) t) h = h qs t
      at (m.Done (suc k, qs) t) h = refl
      at (m.Stopped x out) h = refl
      at (m.Cut out) h = refl
      at m.Stuck h = refl

  -- one alone
  pub run_one : (x : Code) (rs : List ℕ) (w : m.State) → m.run P call ks (sequence (x ∷ [])) rs w ≡ m.run P call ks x rs w
  run_one x rs w = at (m.run P call ks x rs w)
    where
      at : (o : m.Outcome m.Left) → m.then_do o (m.falls (λ qs t. m.on qs t)) ≡ o
      at (m.Done (zero, qs) t) = refl
      at (m.Done (suc k, qs) t) = refl
      at (m.Stopped x out) = refl
      at (m.Cut out) = refl
      at m.Stuck = refl
