-- Seats as a table is made with them.
use Rattle.std.specs.Prelude.{◌≡◌, ℕ, suc, ◌+◌, ◌-◌, ◌*◌, ◌<◌, ◌≤◌, true, List, [], ◌∷◌, map, replicate, None}
use Rattle.std.specs.List.{range_with_len}
use Rattle.remote_store.specs.Refusing.{no_refusals}
use Rattle.pointer_word.specs.Hands.{empty_handed, blank}
use Rattle.object_lock.specs.Seats.{Sizes}
use Rattle.object_lock.specs.SeatViews.{TableView, SeatView, IsSeat}

-- a seat of the table that has no holds, has stored nothing, has nothing in hand, has done nothing, and through whose port nothing was refused
abbrev pub IsFresh : {W C : Type 0} → TableView → SeatView W C → Type 0
IsFresh t s = IsSeat t s × (s.view.hand ≡ empty_handed) × (s.view.notes ≡ replicate t.sizes.objects blank) × (s.brought ≡ None) × (s.taken ≡ None) × (s.refusals ≡ no_refusals) × (s.log ≡ [])

-- a program's seat: program k is mover k + 1 and owns the objects from k * share on, share of them
abbrev pub IsFreshOwner : {W C : Type 0} → TableView → ℕ → SeatView W C → Type 0
IsFreshOwner t share s = IsFresh t s × (s.view.low ≡ (s.view.number - 1) * share) × (s.view.high ≡ s.view.low + share)

-- the seat of a mover that owns nothing
abbrev pub IsFreshMover : {W C : Type 0} → TableView → SeatView W C → Type 0
IsFreshMover t s = IsFresh t s × (s.view.high ≡ s.view.low)

-- these are seats of the movers from first on, count of them
abbrev pub AreNumbered : {W C : Type 0} → ℕ → ℕ → List (SeatView W C) → Type 0
AreNumbered first count seats = map (λ s. s.view.number) seats ≡ range_with_len first count

-- the last of these is the last seat of its table
abbrev pub EndWithLast : {W C : Type 0} → List (SeatView W C) → Type 0
EndWithLast [] = ⊥
EndWithLast (s ∷ []) = s.view.last ≡ true
EndWithLast (s ∷ t ∷ ts) = EndWithLast (t ∷ ts)

-- the numbers of a table of this many objects and frames, with pieces of n cells, and with so many seats at most
abbrev pub sizes_of : ℕ → ℕ → ℕ → ℕ → Sizes
sizes_of objects frames n seats = record { objects = objects; frames = frames; cells = n; seats = seats }

-- The last seat of a table that is being made, which may make more: it is fresh, and that of program k; the objects of all programs from k on are its own
abbrev pub IsLastOwner : {W C : Type 0} → TableView → ℕ → ℕ → ℕ → SeatView W C → Type 0
IsLastOwner t share programs k s = IsFresh t s × (s.view.number ≡ suc k) × (s.view.low ≡ k * share) × (s.view.high ≡ programs * share) × (s.view.share ≡ share) × (s.view.last ≡ true)

-- the last seat of a table that is being made, that of a mover of this number
abbrev pub IsLastMover : {W C : Type 0} → TableView → ℕ → SeatView W C → Type 0
IsLastMover t number s = IsFreshMover t s × (s.view.number ≡ number) × (s.view.last ≡ true)

-- how many programs, frames, objects, evacuators and fetchers a system may have
abbrev pub IsWithinLimits : ℕ → ℕ → ℕ → ℕ → ℕ → Type 0
IsWithinLimits programs frames objects evacuators fetchers = (0 < programs) × (programs ≤ 256) × (0 < frames) × (frames ≤ 1048576) × (0 < objects) × (objects ≤ 16777216) × (evacuators ≤ 64) × (fetchers ≤ 64)
