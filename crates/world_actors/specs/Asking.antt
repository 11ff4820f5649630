-- What a turn asks of the store.
use Rattle.std.specs.Prelude.{ℕ, cond, nat_lt, length, Option, Some, None}
use Rattle.world_memory.specs.Answered.{Asked, Nothing, Puts, Gets}
use Rattle.world_semantics.specs.Programs.{Eviction, Copying, Stored, NotStored, Refused, Freed, Mode, Ready, Missing, Bringing, Reading, Filling, Evicting, Releasing, Retreating, Closing, Wanted}

-- a mover that moves an object out puts it behind the copies of the n cells of a piece
abbrev pub asked_out : ℕ → Eviction → Asked
asked_out n (Copying o f words) = cond (nat_lt (length words) n) Nothing (Puts o)
asked_out n (Stored o f) = Nothing
asked_out n (NotStored o f) = Nothing
asked_out n (Refused o f) = Nothing
asked_out n (Freed f) = Nothing

-- a program gets an object where it reads the store, and puts one where it moves it out
abbrev pub asked_in : ℕ → Mode → Asked
asked_in n Ready = Nothing
asked_in n (Missing o) = Nothing
asked_in n (Bringing o) = Nothing
asked_in n (Reading o f) = Gets o
asked_in n (Filling o f words k) = Nothing
asked_in n (Evicting o e) = asked_out n e
asked_in n (Releasing o f) = Nothing
asked_in n (Retreating o) = Nothing
asked_in n Closing = Nothing
asked_in n (Wanted w) = Nothing

-- an evacuator puts an object where it moves one out
abbrev pub asked_idly : ℕ → Option Eviction → Asked
asked_idly n None = Nothing
asked_idly n (Some e) = asked_out n e
