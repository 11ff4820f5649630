-- Seats that were joined to one: it stands for all of them, each as it was then.
use Rattle.std.specs.Prelude.{◌≡◌, ℕ, ◌-◌, List, [], ◌∷◌, ◌++◌, length}
use Rattle.std.specs.List.{All}
use mathlib.Core.Option.{some}
use lib.ListN.{get_elem?}
use Rattle.atomic_table.specs.Table.{State, Me, Step}
use Rattle.object_lock.specs.Seats.{Sizes, View, newcomer}
use Rattle.object_lock.specs.Logs.{Deed, Seated, newly_seated}
use Rattle.object_lock.specs.Rule.{LoggedRule}
use Rattle.object_lock.specs.SeatViews.{SeatView}

-- what a seat knows and did itself, and the seats that were joined to it, each as it was then
pub record Joined : Type 0 where
  pub view : View
  pub log : List Deed
  pub others : List Seated

-- the seat itself
abbrev pub itself : Joined → Seated
itself v = record { view = v.view; log = v.log }

-- the seat itself, and the slots that are out with it
abbrev pub own_seat : {S : Type 0} → Me S Joined → Me S Seated
own_seat m = (itself m.0, m.1)

-- what the seat itself knows, and the slots that are out, without what it did
abbrev pub own_view : {S : Type 0} → Me S Joined → Me S View
own_view m = (m.0.view, m.1)

-- all seats for which it stands, itself first
abbrev pub all_of : Joined → List Seated
all_of v = itself v ∷ v.others

-- a seat that stands for itself alone
abbrev pub alone : Seated → Joined
alone v = record { view = v.view; log = v.log; others = [] }

-- what the table keeps of a seat that was joined to another: a seat of no table, as none has so many frames
abbrev pub spent : Joined
spent = alone (newly_seated (newcomer (record { objects = 0; frames = 1048577; cells = 0; seats = 0 }) 0 0))

-- the first seat stands for both, and for all that had been joined to either
abbrev pub both : Joined → Joined → Joined
both v w = record { view = v.view; log = v.log; others = itself w ∷ v.others ++ w.others }

-- the seat keeps what it did, and has this of its view
abbrev pub keeping_joined : (View → View) → Joined → Joined
keeping_joined f v = record { view = f v.view; log = v.log; others = v.others }

-- a new seat with this of the other's view
abbrev pub beginning_alone : (View → View) → Joined → Joined
beginning_alone f v = alone (newly_seated (f v.view))

-- the seat is one of these, and the table keeps nothing of it but that it was joined to another
abbrev pub IsJoined : List Joined → List Seated → Seated → Type 0
IsJoined views seats w = (k : ℕ) × (get_elem? seats k ≡ some w) × (get_elem? views k ≡ some spent)

-- so is each of them
abbrev pub AreJoined : List Joined → List Seated → List Seated → Type 0
AreJoined views seats [] = Unit {0}
AreJoined views seats (w ∷ ws) = IsJoined views seats w × AreJoined views seats ws

-- the seat is at its place among these, by its number
abbrev pub IsPlaced : List Seated → Seated → Type 0
IsPlaced seats w = get_elem? seats (w.view.number - 1) ≡ some w

-- the seat of a table, as its holder sees it
abbrev pub seated_as : {W C : Type 0} → SeatView W C → Seated
seated_as x = record { view = x.view; log = x.log }

-- the seat is one of those for which this one stands
abbrev pub IsAmong : Joined → Seated → Type 0
IsAmong v w = (i : ℕ) × (get_elem? (all_of v) i ≡ some w)

module _ {S : Type 0} (kept : S → ℕ → List ℕ → Type 0) (there : S → Type 0) (honest : Type 0) (z : Sizes) where
  -- The rule of a table whose seats may be joined: its words, its berths at home and all its seats, those too that were joined, are as the rule of seats that keep what they did has it
  pub record JoinedRule (s : State S Joined) : Type 0 where
    pub seats : List Seated
    pub rule : LoggedRule kept there honest z (record { words = s.words; homes = s.homes; views = seats })
    pub count : length seats ≡ length s.views
    pub own : (j : ℕ) (v : Joined) → get_elem? s.views j ≡ some v → v.view.sizes ≡ z → get_elem? seats j ≡ some (itself v)
    pub joined : (j : ℕ) (v : Joined) → get_elem? s.views j ≡ some v → AreJoined s.views seats v.others

  -- one state of a table, which keeps the rule, and in which each of these seats is at its place as it is here
  pub record AreTogether (seats : List Seated) : Type 0 where
    pub table : State S Seated
    pub rule : LoggedRule kept there honest z table
    pub each : All (IsPlaced table.views) seats

module _ {S : Type 0} where
  -- what a step tells of the seat itself; for which others it stands stays
  abbrev pub Itself : (Step S → Me S Seated → ℕ → Me S Seated → Type 0) → Step S → Me S Joined → ℕ → Me S Joined → Type 0
  Itself told st m n m' = told st (own_seat m) n (own_seat m') × (m'.0.others ≡ m.0.others)

  -- a look of a seat that stands for several: all of them are in one state of the table
  abbrev pub Meets : (S → ℕ → List ℕ → Type 0) → (S → Type 0) → Type 0 → Sizes → Step S → Me S Joined → ℕ → Me S Joined → Type 0
  Meets kept there honest z st m n m' = AreTogether kept there honest z (all_of m.0)
