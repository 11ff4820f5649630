-- The state of the plain run as a state of the meaning, and how an answer of the code agrees with an outcome.
use Rattle.std.specs.Prelude.{◌≡◌, ℕ, suc, ℤ, pos, negsuc, List, [], ◌∷◌, ◌++◌, map, Option, Some, None, Result, Ok, Err}
use Rattle.cells.specs.Stops.{stop_of}
use Rattle.cells.specs.Outcomes as o
use Rattle.c0_typed.specs.Values as v
use Rattle.c0_typed.specs.Trees as t
use Rattle.c0_typed.specs.Meaning as m
use Rattle.c0_typed.specs.Views.{text_at}
use Rattle.c0_values.specs.declared.value.Value.{Value}
use Rattle.c0_values.specs.declared.value.Value.TheVariants.{Number, Truth, Letter, Text, Reference, Void}
use Rattle.c0_values.specs.declared.heap.Tree.{Tree, Leaf, Node', Row_of-Tree, end_of-Tree, more_of-Tree}
use Rattle.c0_values.specs.declared.heap.Spot.{Spot}
use Rattle.c0_values.specs.declared.plain_state.Halt.{Halt}
use Rattle.c0_values.specs.declared.plain_state.Halt.TheVariants.{Stopped, Cut, Memory}
use Rattle.c0_values.specs.declared.plain_state.PlainState.{PlainState}

-- a number that is not below 0
abbrev pub natural : ℤ → Option ℕ
natural (pos n) = Some n
natural (negsuc n) = None

-- the texts of a program
abbrev pub Texts : Type 0
Texts = List (List ℕ)

-- a list of parts
abbrev pub parts_in_order : List v.Tree → v.Trees
parts_in_order [] = v.Nil
parts_in_order (t ∷ ts) = v.Cons t (parts_in_order ts)

-- Over the texts of the program
module _ (texts : Texts) where
  -- a value
  abbrev pub value_of : Value → v.Value
  value_of (Number z) = v.Number z
  value_of (Truth b) = v.Truth b
  value_of (Letter c) = v.Letter c
  value_of (Text k) = v.Text (text_at texts k)
  value_of (Reference r) = v.Ref r
  value_of Void = v.Void

  abbrev mutual
    -- what an allocation holds
    pub tree_of : Tree → v.Tree
    tree_of (Leaf a) = v.Leaf (value_of a)
    tree_of (Node' shape parts) = v.Node (row_of parts)

    -- its parts
    pub row_of : {m : _} → Row_of-Tree m → v.Trees
    row_of end_of-Tree = v.Nil
    row_of (more_of-Tree t rest) = v.Cons (tree_of t) (row_of rest)

  -- parts in order
  abbrev pub trees_of : List Tree → v.Trees
  trees_of ts = parts_in_order (map tree_of ts)

  -- the state
  abbrev pub state_of : PlainState → m.State
  state_of a = record { turns = a.turns; heap = map tree_of a.heap.items; locals = map value_of a.locals.items; output = a.output.items }

-- what is left to the next statement
abbrev pub next_of : Unit {0} → m.Way
next_of x = m.Next

-- where the call of `main` begins
abbrev pub opening : ℕ → m.State
opening turns = record { turns = turns; heap = []; locals = []; output = [] }

-- what is done without a value
abbrev pub nothing_of : Unit {0} → v.Value
nothing_of x = v.Void

-- what a call of the library does
abbrev pub prints : t.Output → List v.Value → m.State → m.Outcome v.Value
prints out vs s = o.Done v.Void (record s { output = s.output ++ m.printed out vs })

-- a place
abbrev pub spot_of : Spot → v.Spot
spot_of at = record { allocation = suc at.index; path = at.path.items }

-- a place, and a field of it
abbrev pub field_of : v.Spot → ℕ → v.Spot
field_of at k = record at { path = at.path ++ k ∷ [] }

-- The answer is the outcome's, and the state is the outcome's. Where memory ran out, nothing is said
abbrev pub Agrees : {T A : Type 0} → (T → A) → Result T Halt → m.Outcome A → m.State → Type 0
Agrees view (Ok x) outcome s = outcome ≡ o.Done (view x) s
Agrees view (Err (Stopped x)) outcome s = outcome ≡ o.Stopped (stop_of x) s.output
Agrees view (Err Cut) outcome s = outcome ≡ o.Cut s.output
Agrees view (Err Memory) outcome s = Unit {0}

-- Ok: a turn was there, and one less is; Err: none was there
abbrev pub TakesTurn : Result (Unit {0}) Halt → m.State → m.State → Type 0
TakesTurn (Ok x) s t = (s.turns ≡ suc t.turns) × (t ≡ record s { turns = t.turns })
TakesTurn (Err Cut) s t = (s.turns ≡ 0) × (t ≡ s)
TakesTurn (Err _) s t = ⊥
