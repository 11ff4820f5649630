-- What a store that lies gives in place of the words of a cell.
use Rattle.std.specs.Prelude.{◌≡◌, ℕ, ◌+◌, ◌%◌, ◌==◌, nat_lt, ◌&&◌, ◌⊎◌, Bool, true, not, cond, List, length, Option, Some, None, slice_index_or, slice_set}
use Rattle.remote_store.specs.declared.lying.Lie.{Lie}
use Rattle.remote_store.specs.declared.lying.Lie.TheVariants as L

-- the word of a row at this place, 0 behind its end
abbrev pub word_at : List ℕ → ℕ → ℕ
word_at row i = slice_index_or row i 0

-- whether two rows have the same three first words
abbrev pub same_header : List ℕ → List ℕ → Bool
same_header a b = (word_at a 0 == word_at b 0) && (word_at a 1 == word_at b 1) && (word_at a 2 == word_at b 2)

-- what a cell keeps whose last write that succeeded put a row with the header of this one: what the store below keeps there, where that has this header
abbrev pub kept_behind : List ℕ → Option (List ℕ) → Option (List ℕ)
kept_behind last None = None
kept_behind last (Some ws) = cond (same_header ws last) (Some ws) None

-- whether a row may stand for what was given: it is as long, and its three first words differ from those of the row that was written last
abbrev pub may_stand : List ℕ → List ℕ → List ℕ → Bool
may_stand last other given = (length other == length given) && not (same_header other last)

-- whether a row with 10 as its third word may stand for what was given
abbrev pub may_shorten : List ℕ → List ℕ → Bool
may_shorten last given = nat_lt 2 (length given) && may_stand last (slice_set given 2 10) given

-- the words of a lie about a cell that held the row `older` before its last one, told by a way that last met the row `met`, where the store below gave these
abbrev pub lie_words : Lie → List ℕ → List ℕ → List ℕ → List ℕ
lie_words L.OlderVersion older met given = older
lie_words L.OtherObject older met given = met
lie_words L.ShortCell older met given = slice_set given 2 10

-- whether the lie is told: it may stand for what was given, and that of another object has another first word than the row that was written last
abbrev pub is_told : Lie → List ℕ → List ℕ → List ℕ → List ℕ → Bool
is_told L.OlderVersion last older met given = may_stand last older given
is_told L.OtherObject last older met given = not (word_at met 0 == word_at last 0) && may_stand last met given
is_told L.ShortCell last older met given = may_shorten last given

-- what is given where a lie is wanted: the lie, or what the store below gave
abbrev pub told : Lie → List ℕ → List ℕ → List ℕ → List ℕ → List ℕ
told lie last older met given = cond (is_told lie last older met given) (lie_words lie older met given) given

-- what was given where a lie may have been wanted, and how the count of lies went on: what the store below gave, and it stayed; or the lie, and it is one more
abbrev pub Answered : Lie → List ℕ → List ℕ → List ℕ → List ℕ → List ℕ → ℕ → ℕ → Type 0
Answered lie last older met given row before after = ((row ≡ given) × (after ≡ before))
    ⊎ ((is_told lie last older met given ≡ true) × (row ≡ lie_words lie older met given) × (after ≡ (before + 1) % 18446744073709551616))
