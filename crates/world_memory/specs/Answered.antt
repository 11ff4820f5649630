-- What the store answered where it was asked something, by the way to it before and after.
use Rattle.std.specs.Prelude.{◌≡◌, ◌≢◌, ℕ, ◌+◌, ◌%◌, Bool, true, false, List, Option, Some, None, slice_get}
use Rattle.pointer_word.specs.Machine.{Far, Kept}
use Rattle.remote_store.specs.Kept.{RefusedFor, Took}
use Rattle.remote_store.specs.declared.berth.Berth.{Berth}
use Rattle.remote_store.specs.declared.port.Port.{Port}
use Rattle.remote_store.specs.declared.port.Refusal.{Refusal}
use Rattle.world_semantics.specs.Turns.{Answer}

-- what an event asks of the store: nothing, or to put an object's words, or to get them
pub data Asked : Type 0 where
  Nothing : Asked
  Puts : ℕ → Asked
  Gets : ℕ → Asked

-- `failures` counts the calls of the store that failed, `gives` tells what a read of a cell gave, by the store before it and after it
module _ {S C : Type 0} (reliable : Type 0) (failures : S → ℕ) (gives : S → C → List ℕ → S → Type 0) where
  -- nothing was refused, and nothing failed
  abbrev pub NoneRefused : Port S C → Port S C → Type 0
  NoneRefused p q = (q.refusals ≡ p.refusals) × (failures q.store ≡ failures p.store)

  -- one call failed
  abbrev pub HasFailed : Port S C → Port S C → Type 0
  HasFailed p q = failures q.store ≡ (failures p.store + 1) % 18446744073709551616

  -- what was refused is counted
  abbrev pub IsCounted : Port S C → Port S C → Type 0
  IsCounted p q = q.refusals.count ≡ (p.refusals.count + 1) % 18446744073709551616

  -- a put succeeds, or the store failed
  abbrev pub PutSo : Bool → Port S C → Port S C → Type 0
  PutSo true p q = NoneRefused p q
  PutSo false p q = IsCounted p q × HasFailed p q

  -- a get from the berth of the object o, of a piece of n cells, takes the words that the store gave behind the berth's header, or the store failed, or gave another header
  abbrev pub GetSo : ℕ → ℕ → Berth C → Option (List ℕ) → Port S C → Port S C → Type 0
  GetSo n o b (Some words) p q = NoneRefused p q × Took n (λ row. gives p.store b.cell row q.store) b.version o words
  GetSo n o b None p q = IsCounted p q × ((why : Refusal) × RefusedFor n (HasFailed p q) (λ row. gives p.store b.cell row q.store × (failures q.store ≡ failures p.store)) b.version o why)

  -- The store with these berths, of pieces of n cells, answered so, by the actor's way to it before and after. A reliable store refuses no put, and no get of what was put
  abbrev pub AnswersSo : ℕ → List (Berth C) → Port S C → Port S C → (ℕ → Far) → Asked → Answer → Type 0
  AnswersSo n berths p q far Nothing a = q ≡ p
  AnswersSo n berths p q far (Puts o) a = PutSo a.stored p q × (reliable → a.stored ≡ true)
  AnswersSo n berths p q far (Gets o) a = ((b : Berth C) → slice_get berths o ≡ Some b → GetSo n o b a.read p q) × (reliable → (words : List ℕ) → far o ≡ Kept words → a.read ≢ None)

-- the answer to a put
abbrev pub storing : Bool → Answer
storing b = record { stored = b; read = None; grew = true }

-- the answer to a get
abbrev pub reading : Bool → List ℕ → Answer
reading true words = record { stored = true; read = Some words; grew = true }
reading false words = record { stored = true; read = None; grew = true }
