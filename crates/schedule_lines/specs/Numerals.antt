-- What stands at the beginning of a line: decimal numbers, an actor, a choice.
use Rattle.std.specs.Prelude.{◌≡◌, ◌≢◌, ℕ, ◌+◌, ◌-◌, ◌*◌, ◌<◌, ◌≤◌, ◌^◌, ◌==◌, nat_lt, Bool, cond, List, [], ◌∷◌, ◌++◌, codes, decimal}
use Rattle.world_semantics.specs.declared.event.Actor.{Actor}
use Rattle.world_semantics.specs.declared.event.Choice.{Choice}
use Rattle.schedule_lines.specs.Lines.{IsActor32, IsChoice32, IsNoDigit, spell_actor, spell_choice}

-- all of these bytes are decimal digits
abbrev pub AreDigits : List ℕ → Type 0
AreDigits [] = Unit {0}
AreDigits (b ∷ bs) = (48 ≤ b) × (b ≤ 57) × AreDigits bs

-- the number that digits write behind those of n
abbrev pub value_behind : ℕ → List ℕ → ℕ
value_behind n [] = n
value_behind n (b ∷ bs) = value_behind (n * 10 + (b - 48)) bs

-- the text begins with digits, that write v behind those of n, and then comes the rest
abbrev pub HasDigits : ℕ → List ℕ → ℕ → List ℕ → Type 0
HasDigits n text v rest = (ds : List ℕ) × (text ≡ ds ++ rest) × AreDigits ds × IsNoDigit rest × (v ≡ value_behind n ds)

-- all digits at the beginning of the text, behind those of n, write a number of more than 32 bits
abbrev pub IsTooGreat : ℕ → List ℕ → Type 0
IsTooGreat n text = (ds rest : List ℕ) → text ≡ ds ++ rest → AreDigits ds → IsNoDigit rest → 2 ^ 32 ≤ value_behind n ds

-- so many digits at the beginning of the text are a number as it is printed: some, and a 0 alone
abbrev pub is_plain : List ℕ → ℕ → Bool
is_plain [] n = nat_lt 0 n
is_plain (b ∷ bs) n = cond (b == 48) (n == 1) (nat_lt 0 n)

-- the text is what is printed of n, and then the rest, which begins with no digit
abbrev pub IsNumber : ℕ → List ℕ → List ℕ → Type 0
IsNumber n rest text = (n < 2 ^ 32) × (text ≡ decimal n ++ rest) × IsNoDigit rest

-- the text begins with no number of 32 bits
abbrev pub IsNoNumber : List ℕ → Type 0
IsNoNumber text = (n : ℕ) (rest : List ℕ) → n < 2 ^ 32 → IsNoDigit rest → text ≢ decimal n ++ rest

-- the text is the word, then what is printed of n, and then the rest, which begins with no digit
abbrev pub IsNumbered : List ℕ → ℕ → List ℕ → List ℕ → Type 0
IsNumbered word n rest text = (n < 2 ^ 32) × (text ≡ word ++ (decimal n ++ rest)) × IsNoDigit rest

-- the text is no such word with a number
abbrev pub IsNotNumbered : List ℕ → List ℕ → Type 0
IsNotNumbered word text = (n : ℕ) (rest : List ℕ) → n < 2 ^ 32 → IsNoDigit rest → text ≢ word ++ (decimal n ++ rest)

-- the text is the word, then what is printed of n, then a newline, and then the rest
abbrev pub IsLast : List ℕ → ℕ → List ℕ → List ℕ → Type 0
IsLast word n rest text = (n < 2 ^ 32) × (text ≡ word ++ (decimal n ++ (codes "\n" ++ rest)))

-- the text is no such word with a number at the end of a line
abbrev pub IsNotLast : List ℕ → List ℕ → Type 0
IsNotLast word text = (n : ℕ) (rest : List ℕ) → n < 2 ^ 32 → text ≢ word ++ (decimal n ++ (codes "\n" ++ rest))

-- the text is the word, then what is printed of o, a blank, what is printed of f, a newline, and then the rest
abbrev pub IsPair : List ℕ → ℕ → ℕ → List ℕ → List ℕ → Type 0
IsPair word o f rest text = (o < 2 ^ 32) × (f < 2 ^ 32) × (text ≡ (word ++ (decimal o ++ (codes " " ++ decimal f))) ++ (codes "\n" ++ rest))

-- the text is no such word with two numbers at the end of a line
abbrev pub IsNoPair : List ℕ → List ℕ → Type 0
IsNoPair word text = (o f : ℕ) (rest : List ℕ) → o < 2 ^ 32 → f < 2 ^ 32 → text ≢ (word ++ (decimal o ++ (codes " " ++ decimal f))) ++ (codes "\n" ++ rest)

-- the text is this choice to the end of its line, and then the rest
abbrev pub IsChosen : Choice → List ℕ → List ℕ → Type 0
IsChosen c rest text = IsChoice32 c × (text ≡ spell_choice c ++ (codes "\n" ++ rest))

-- the text begins with no choice and the end of a line
abbrev pub IsNotChosen : List ℕ → Type 0
IsNotChosen text = (c : Choice) (rest : List ℕ) → IsChoice32 c → text ≢ spell_choice c ++ (codes "\n" ++ rest)

-- the text is this actor, and then the rest, which begins with no digit
abbrev pub IsNamed : Actor → List ℕ → List ℕ → Type 0
IsNamed a rest text = IsActor32 a × (text ≡ spell_actor a ++ rest) × IsNoDigit rest

-- the text begins with no actor
abbrev pub IsNotNamed : List ℕ → Type 0
IsNotNamed text = (a : Actor) (rest : List ℕ) → IsActor32 a → IsNoDigit rest → text ≢ spell_actor a ++ rest
