-- From what is computed of a text to what holds of it.
use Rattle.std.proofs.Common.{◌≡◌, ℕ, List, Result, Ok, Err, subst}
use Rattle.c0_source.specs.declared.fault.FaultKind.{FaultKind}
use Rattle.c0_source.specs.Spelling.{Lexeme, Stops}
use Rattle.c0_source.specs.Terminals.{Terminal, terminals}
use Rattle.c0_source.specs.Scanning.{answer}
use Rattle.c0_source.specs.Laws.{Right, SpellsAs}
use Rattle.c0_source.proofs.Scanned.{right}

-- what the grammar sees of what is computed
abbrev pub seen : Result (List Lexeme) (FaultKind × ℕ) → Result (List Terminal) (FaultKind × ℕ)
seen (Ok ts) = Ok (terminals ts)
seen (Err x) = Err x

spells_by : (bytes : List ℕ) (us : List Terminal) (r : Result (List Lexeme) (FaultKind × ℕ)) → Right bytes r → seen r ≡ Ok us → SpellsAs bytes us
spells_by bytes us (Ok ts) h e = record { tokens = ts; spelled = h; terminals = cc }
spells_by bytes us (Err x) h e = absurd cc

pub spells_as : (bytes : List ℕ) (us : List Terminal) → seen (answer bytes) ≡ Ok us → SpellsAs bytes us
spells_as bytes us e = spells_by bytes us (answer bytes) (right bytes) e

stops_by : (bytes : List ℕ) (fault : FaultKind) (at : ℕ) (r : Result (List Lexeme) (FaultKind × ℕ)) → Right bytes r → r ≡ Err (fault, at) → Stops bytes fault at
stops_by bytes fault at (Ok ts) h e = absurd cc
stops_by bytes fault at (Err x) h e =
    let pair : x ≡ (fault, at) = cc in
    subst (λ (y : FaultKind × ℕ). Stops bytes y.0 y.1) pair h

pub stops_at : (bytes : List ℕ) (fault : FaultKind) (at : ℕ) → answer bytes ≡ Err (fault, at) → Stops bytes fault at
stops_at bytes fault at e = stops_by bytes fault at (answer bytes) (right bytes) e
