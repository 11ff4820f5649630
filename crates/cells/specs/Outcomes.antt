-- The base of every bounded meaning of structured code: what an evaluation comes to, and how a program is told of.
use Rattle.std.specs.Prelude.{◌≡◌, ℕ, Option, Some, None, List, ◌++◌}
use Rattle.cells.specs.Stops.{Stop}

-- An evaluation is done with a value and a state, or the program has stopped, or it wanted a turn where none was left. The
-- last two tell what was printed
pub data Outcome (State A : Type 0) : Type 0 where
  Done : A → State → Outcome State A
  Stopped : Stop → List ℕ → Outcome State A
  Cut : List ℕ → Outcome State A

-- one evaluation, and another behind it where it is done
abbrev pub then_do : {State A B : Type 0} → Outcome State A → (A → State → Outcome State B) → Outcome State B
then_do (Done a s) go = go a s
then_do (Stopped x out) go = Stopped x out
then_do (Cut out) go = Cut out

-- how a program ended, or none where it was cut, and what it printed
pub record Meant : Type 0 where
  pub stop : Option Stop
  pub output : List ℕ

-- a program that printed this and stopped so
abbrev pub stops_with : Stop → List ℕ → Meant
stops_with x out = record { stop = Some x; output = out }

-- a list begins another
abbrev pub IsPrefix : List ℕ → List ℕ → Type 0
IsPrefix a b = (rest : List ℕ) × (a ++ rest ≡ b)

-- an end is kept, and an output without one is a beginning
abbrev pub KeepsEnd : Meant → Meant → Type 0
KeepsEnd a b = elim a.stop [ None ↦ IsPrefix a.output b.output | Some x ↦ (b.stop ≡ Some x) × (b.output ≡ a.output) ]
