-- How the lines of a schedule are written.
use Rattle.std.specs.Prelude.{◌≡◌, ◌≢◌, ℕ, ◌<◌, ◌≤◌, ◌^◌, List, [], ◌∷◌, ◌++◌, codes, decimal}
use Rattle.world_semantics.specs.declared.event.Actor.{Actor}
use Rattle.world_semantics.specs.declared.event.Actor.TheVariants as actor
use Rattle.world_semantics.specs.declared.event.Choice.{Choice}
use Rattle.world_semantics.specs.declared.event.Choice.TheVariants as choice

-- an actor: a letter and its number
abbrev pub spell_actor : Actor → List ℕ
spell_actor (actor.Program k) = codes "p" ++ decimal k
spell_actor (actor.Evacuator k) = codes "e" ++ decimal k
spell_actor (actor.Fetcher k) = codes "f" ++ decimal k

-- a choice: nothing for what is next, else a verb and its numbers
abbrev pub spell_choice : Choice → List ℕ
spell_choice choice.Next = []
spell_choice (choice.Look f) = codes " look " ++ decimal f
spell_choice (choice.Claim f) = codes " claim " ++ decimal f
spell_choice (choice.Mark o f) = codes " mark " ++ (decimal o ++ (codes " " ++ decimal f))
spell_choice (choice.Leave o f) = codes " leave " ++ (decimal o ++ (codes " " ++ decimal f))
spell_choice (choice.Begin o) = codes " begin " ++ decimal o

-- who acts, and what it chooses
pub record Line : Type 0 where
  pub actor : Actor
  pub choice : Choice

-- the number of an actor fits in 32 bits
abbrev pub IsActor32 : Actor → Type 0
IsActor32 (actor.Program k) = k < 2 ^ 32
IsActor32 (actor.Evacuator k) = k < 2 ^ 32
IsActor32 (actor.Fetcher k) = k < 2 ^ 32

-- the numbers of a choice fit in 32 bits
abbrev pub IsChoice32 : Choice → Type 0
IsChoice32 choice.Next = Unit {0}
IsChoice32 (choice.Look f) = f < 2 ^ 32
IsChoice32 (choice.Claim f) = f < 2 ^ 32
IsChoice32 (choice.Mark o f) = (o < 2 ^ 32) × (f < 2 ^ 32)
IsChoice32 (choice.Leave o f) = (o < 2 ^ 32) × (f < 2 ^ 32)
IsChoice32 (choice.Begin o) = o < 2 ^ 32

-- a line, with its newline
abbrev pub spell : Line → List ℕ
spell x = spell_actor x.actor ++ (spell_choice x.choice ++ codes "\n")

-- no decimal digit stands first
abbrev pub IsNoDigit : List ℕ → Type 0
IsNoDigit [] = Unit {0}
IsNoDigit (b ∷ bs) = (48 ≤ b) → (b ≤ 57) → ⊥

-- a line's numbers fit in 32 bits
abbrev pub IsLine32 : Line → Type 0
IsLine32 x = IsActor32 x.actor × IsChoice32 x.choice

-- the text is this line, and then the rest
abbrev pub IsLine : Line → List ℕ → List ℕ → Type 0
IsLine x rest text = IsLine32 x × (text ≡ spell x ++ rest)

-- the text begins with no line
abbrev pub IsNoLine : List ℕ → Type 0
IsNoLine text = (x : Line) (rest : List ℕ) → IsLine32 x → text ≢ spell x ++ rest
