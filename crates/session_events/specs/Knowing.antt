-- What a program does in events of a world, beside what its seat knows.
use Rattle.std.specs.Prelude.{◌≡◌, ℕ, ◌<◌, ◌≤◌, List, [], ◌∷◌, Some}
use Rattle.pointer_word.specs.Hands.{Hand, Note}
use Rattle.pointer_word.specs.Machine.{State}
use Rattle.world_semantics.specs.Programs.{Program, Setting}
use Rattle.world_semantics.specs.Turns.{program_turn, taken}
use Rattle.mover_events.specs.Going.{Event}

-- what an owner's seat knows: what it has in hand, and of each object its note
pub record Known : Type 0 where
  pub hand : Hand
  pub notes : ℕ → Note

-- the object is one of the program's own
abbrev pub IsOwn : Setting → ℕ → Type 0
IsOwn g o = (g.base ≤ o) × (o < g.limit)

-- what the program's seat knows is so at this state of the lock's machine
abbrev pub Fits : Setting → Known → State → Type 0
Fits g k x = (x.hand g.mover ≡ k.hand) × ((o : ℕ) → IsOwn g o → x.note o ≡ k.notes o)

-- what its seat knows of this state
abbrev pub learned : Setting → State → Known
learned g x = record { hand = x.hand g.mover; notes = x.note }

-- By these events the program goes from p, where its seat knows k, to q, where it knows l. Each event is one that it may do at the state in which it comes, which fits what
-- its seat knew; what others do in between is not told
abbrev pub Goes : Setting → Program → Known → List Event → Program → Known → Type 0
Goes g p k [] q l = (q ≡ p) × (l.hand ≡ k.hand) × ((o : ℕ) → IsOwn g o → l.notes o ≡ k.notes o)
Goes g p k (e ∷ es) q l = Fits g k e.state × ((t : State) × (c : Program) × (taken g.size e.state (program_turn g e.state p e.choice e.answer) ≡ Some (t, c)) × Goes g c (learned g t) es q l)
