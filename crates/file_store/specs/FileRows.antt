-- The bytes of a row of words in a file, and what an honest folder reads of a file.
use Rattle.std.specs.Prelude.{◌≡◌, ◌≢◌, ◌⊎◌, ℕ, ◌≤◌, Bool, cond, List, [], ◌∷◌, length, take, Option, Some, None}
use Rattle.std.specs.Int.{w64, from_le_bytes, to_le_bytes}
use Rattle.std.specs.List.{flat_map}
use Rattle.std.specs.Str.{bytes_eq}
use Rattle.remote_store.specs.declared.raw.TheConstants.{MOST_WORDS}

-- as many words as the longest row has, or fewer
abbrev pub HasRoom : ℕ → Type 0
HasRoom n = n ≤ MOST_WORDS

-- the bytes of words: eight for each, the lowest first
abbrev pub word_bytes : List ℕ → List ℕ
word_bytes words = flat_map (to_le_bytes w64) words

-- the words whose bytes stand one after the other; fewer than eight bytes at the end are no word
unfoldable pub words_in : List ℕ → List ℕ
words_in (a ∷ b ∷ c ∷ d ∷ e ∷ f ∷ g ∷ h ∷ rest) = from_le_bytes w64 (a ∷ b ∷ c ∷ d ∷ e ∷ f ∷ g ∷ h ∷ []) ∷ words_in rest
words_in _ = []

-- these are the bytes of a row: just those of its words
abbrev pub is_row : List ℕ → Bool
is_row bytes = bytes_eq (word_bytes (words_in bytes)) bytes

-- the row whose bytes a file holds, where it holds those of one
unfoldable pub row_in : Option (List ℕ) → Option (List ℕ)
row_in None = None
row_in (Some bytes) = cond (is_row bytes) (Some (words_in bytes)) None

-- what an honest folder reads of a file whose last write put these bytes: just them, or another number of bytes, or other
-- bytes at the front, where a row has its header of three words
abbrev pub ReadsBytes : List ℕ → List ℕ → Type 0
ReadsBytes held found = (found ≡ held) ⊎ ((length found ≢ length held) ⊎ (take 24 found ≢ take 24 held))
