-- What the rule of a table says of its words and berths while no mover has made a call, as when it was made.
use Rattle.std.specs.Prelude.{◌≡◌, ℕ, ◌<◌, ◌≤◌, true, List, [], map, slice_index_or}
use Rattle.std.specs.List.{All}
use mathlib.Core.Option.{some}
use lib.ListN.{get_elem?}
use Rattle.atomic_table.specs.Table.{State}
use Rattle.pointer_word.specs.Hands.{empty_handed}
use Rattle.object_lock.specs.Seats.{Sizes, View, Owns, note, frame_word, cell_word}
use Rattle.object_lock.specs.Rule.{Rule}
use Rattle.object_lock.specs.SeatViews.{SeatView}

-- no seat has anything in hand, nor has made a call of a mover
abbrev pub AreEmptyHanded : {S : Type 0} → State S View → Type 0
AreEmptyHanded s = (j : ℕ) (v : View) → get_elem? s.views j ≡ some v → v.hand ≡ empty_handed

-- these seats are at the table: what it knows of each is what the seat says
abbrev pub AreAtTable : {S W C : Type 0} → State S View → List (SeatView W C) → Type 0
AreAtTable s seats = All (λ x. get_elem? s.views x.id ≡ some x.view) seats

-- these are all seats of a table, in the order of their numbers, and what it knows of each is what the seat says
abbrev pub AreSeats : {S W C : Type 0} → State S View → List (SeatView W C) → Type 0
AreSeats s seats = s.views ≡ map (λ x. x.view) seats

module _ {S : Type 0} (kept : S → ℕ → List ℕ → Type 0) where
  -- Each object is away: its word is the count of its holds, which its owner knows; an object behind those of the last seat, which no seat owns, has none; its
  -- berth is at home, and nothing was put there; each frame is free, and its cells are 0
  pub record AllAway (z : Sizes) (s : State S View) : Type 0 where
    pub few : (o : ℕ) → o < z.objects → slice_index_or s.words o 0 ≤ 4
    pub holds : (j : ℕ) (v : View) (o : ℕ) → get_elem? s.views j ≡ some v → Owns v o → slice_index_or s.words o 0 ≡ (note v o).count
    pub left : (j : ℕ) (v : View) (o : ℕ) → get_elem? s.views j ≡ some v → v.last ≡ true → v.high ≤ o → o < z.objects → slice_index_or s.words o 0 ≡ 0
    pub berths : (o : ℕ) → o < z.objects → (b : S) × (get_elem? s.homes o ≡ some (some b)) × kept b o []
    pub frames : (f : ℕ) → f < z.frames → slice_index_or s.words (frame_word z f) 0 ≡ 0
    pub cells : (f i : ℕ) → f < z.frames → i < z.cells → slice_index_or s.words (cell_word z f i) 0 ≡ 0

  -- whatever a table is, the rule says so of it
  abbrev pub NewTable : (S → Type 0) → Type 0 → Type 0
  NewTable there honest = (z : Sizes) (s : State S View) → Rule kept there honest z s → AreEmptyHanded s → AllAway z s

  -- while these seats are as they are, they are all seats of a table of these sizes, and all of it is away
  abbrev pub BeginsAway : {W C : Type 0} → (S → Type 0) → Type 0 → Sizes → List (SeatView W C) → Type 0
  BeginsAway there honest z seats = (s : State S View) → Rule kept there honest z s → AreAtTable s seats → AreSeats s seats × AllAway z s
