-- What a table is to its callers, and a seat with its port.
use Rattle.std.specs.Prelude.{◌≡◌, ℕ, ◌<◌, ◌≤◌, true, List, [], ◌∷◌, length, Option, Some, None}
use Rattle.atomic_table.specs.Seated.{TableId}
use Rattle.cells.specs.Pieces.{is_piece}
use Rattle.remote_store.specs.declared.berth.Berth.{Berth}
use Rattle.remote_store.specs.declared.port.Refusals.{Refusals}
use Rattle.object_lock.specs.Seats.{Sizes, View}
use Rattle.object_lock.specs.Logs.{Deed}
use Rattle.object_lock.specs.Kept.{berth_fits, berth_keeps}

-- a table, and its numbers
pub record TableView : Type 0 where
  pub id : TableId
  pub sizes : Sizes

-- The table of a seat and its number there, what the seat knows, what it did, in order, the berth of the object that it is bringing in, the berth of the object that it is
-- moving out, its way to the store as it is now, and what was refused through its port
pub record SeatView (W C : Type 0) : Type 0 where
  pub table : TableId
  pub id : ℕ
  pub view : View
  pub log : List Deed
  pub brought : Option (Berth C)
  pub taken : Option (Berth C)
  pub store : W
  pub refusals : Refusals

-- The numbers of a table are within the limits, and its frames are of a piece's size
abbrev pub IsTable : TableView → Type 0
IsTable t = (t.sizes.objects ≤ 16777216) × (t.sizes.frames ≤ 1048576) × (is_piece t.sizes.cells ≡ true)

-- The seat is one of the table, whose numbers are within the limits; its own objects are among the table's, and it has a note of each
abbrev pub IsSeat : {W C : Type 0} → TableView → SeatView W C → Type 0
IsSeat t s = (s.table ≡ t.id) × (s.view.sizes ≡ t.sizes) × (s.view.high ≤ t.sizes.objects) × (s.view.high ≤ length s.view.notes) × IsTable t

-- the seat has no berth in hand: it is bringing no object in, and moving none out
abbrev pub HasNoBerth : {W C : Type 0} → SeatView W C → Type 0
HasNoBerth s = (s.view.hand.bringing ≡ None) × (s.view.hand.leaving ≡ None)

-- the slots that are out: the berths themselves lie in the seat
abbrev pub carried : {C : Type 0} → Option ℕ → Option ℕ → List (ℕ × Option (Berth C))
carried (Some q) (Some p) = (q, None) ∷ (p, None) ∷ []
carried (Some q) None = (q, None) ∷ []
carried None (Some p) = (p, None) ∷ []
carried None None = []

module _ {C : Type 0} (fits : C → ℕ → Type 0) where
  -- the berth of the object that is moved out is in hand, and for pieces of n cells
  abbrev pub Matches : ℕ → Option ℕ → Option (Berth C) → Type 0
  Matches n None None = Unit {0}
  Matches n (Some o) (Some b) = berth_fits fits n b
  Matches n None (Some b) = ⊥
  Matches n (Some o) None = ⊥

module _ {C : Type 0} (fits : C → ℕ → Type 0) (content : C → Option (List ℕ)) where
  -- the berth of the object that is brought in is in hand, for pieces of n cells, and keeps what was promised
  abbrev pub Promises : ℕ → Option ℕ → List ℕ → Option (Berth C) → Type 0
  Promises n None ws None = Unit {0}
  Promises n (Some o) ws (Some b) = berth_keeps fits content n b o ws
  Promises n None ws (Some b) = ⊥
  Promises n (Some o) ws None = ⊥

  -- what the seat has in its hands is what its view says
  abbrev pub InHand : ℕ → ℕ → ℕ → ℕ → View → List (ℕ × Option (Berth C)) → Option (Berth C) → Option (Berth C) → Type 0
  InHand number low high source v slots brought taken = (number ≡ v.number) × (number < 65536) × (low ≡ v.low) × (high ≡ v.high)
      × (slots ≡ carried v.hand.leaving v.hand.bringing) × Promises v.sizes.cells v.hand.bringing v.hand.promised brought × Matches fits v.sizes.cells v.hand.leaving taken × (source ≡ v.hand.source) × (source < 16777216)

-- the version of the berth in hand, 0 where there is none
abbrev pub version_of : {C : Type 0} → Option (Berth C) → ℕ
version_of None = 0
version_of (Some b) = b.version
