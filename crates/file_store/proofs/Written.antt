-- The bytes of words tell the words, and what is read of a row's bytes is what a row reads as.
use Rattle.std.proofs.Common.{◌≡◌, ◌≢◌, ◌⊎◌, ℕ, zero, suc, ◌+◌, ◌*◌, ◌^◌, ◌<◌, ◌≤◌, ◌==◌, Bool, true, false, cond, min, List, [], ◌∷◌, ◌++◌, length, take, drop, get_or, refl, sym, ap, subst, ◌∙◌, ⊎_elim, inl, inr, arith}
use Rattle.std.proofs.lemmas.Bool.{cases_lt}
use Rattle.std.proofs.lemmas.List.{drop-drop, get_or-drop, length-drop, length-take-le, take-append-drop, take_all}
use Rattle.std.proofs.lemmas.Nat.{from_le_bytes-to_le_bytes_8, le_bytes_8}
use Rattle.std.proofs.lemmas.Slice.{take-put_mid}
use Rattle.std.proofs.lemmas.Slice.Eq.{bytes_eq-Decides}
use Rattle.std.specs.Int.{w64, from_le_bytes, to_le_bytes}
use Rattle.std.specs.Prelude.{Option, Some, None}
use Rattle.std.specs.Str.{bytes_eq}
use borrow.Rule.Slice.PartMut.{put_mid}
use Rattle.byteorder.specs.Endian.{little_number}
use Rattle.remote_store.specs.Kept.{Keeps, Reads, next_version}
use Rattle.file_store.specs.FileRows.{ReadsBytes, row_in, word_bytes, words_in}

-- ---- words and their bytes

-- there are eight bytes for each word
pub length-word_bytes : (words : List ℕ) → length (word_bytes words) ≡ 8 * length words
length-word_bytes [] = refl
length-word_bytes (x ∷ xs) = let e = length-word_bytes xs in omega (arith, e)

-- the bytes of words tell the words
pub words_back : (words : List ℕ) → ((k : ℕ) → get_or words k 0 < 2 ^ 64) → words_in (word_bytes words) ≡ words
unfolding words_in
words_back [] fit = refl
words_back (x ∷ xs) fit =
    let here : from_le_bytes w64 (to_le_bytes w64 x) ≡ x = from_le_bytes-to_le_bytes_8 x (fit 0) in
    let rest : words_in (word_bytes xs) ≡ xs = words_back xs (λ k. fit (suc k)) in
    (λ i. here i ∷ rest i)

-- the bytes of the first words are the first bytes
pub take-word_bytes : (n : ℕ) (words : List ℕ) → take (8 * n) (word_bytes words) ≡ word_bytes (take n words)
take-word_bytes zero words = refl
take-word_bytes (suc n) [] = let e : 8 * suc n ≡ suc (7 + 8 * n) = omega arith in rw e refl
take-word_bytes (suc n) (x ∷ xs) =
    let e : 8 * suc n ≡ suc (suc (suc (suc (suc (suc (suc (suc (8 * n)))))))) = omega arith in
    rw e (ap (λ (rest : List ℕ). to_le_bytes w64 x ++ rest) (take-word_bytes n xs))

-- the first of small numbers are small
front-small : (n : ℕ) (bytes : List ℕ) → ((i : ℕ) → get_or bytes i 0 < 256) → (i : ℕ) → get_or (take n bytes) i 0 < 256
front-small zero bytes small i = omega arith
front-small (suc n) [] small i = omega arith
front-small (suc n) (b ∷ bs) small zero = small 0
front-small (suc n) (b ∷ bs) small (suc i) = front-small n bs (λ k. small (suc k)) i

-- the word that is read of the first eight bytes has these bytes
first_word : (bytes : List ℕ) (x : ℕ) → 8 ≤ length bytes → ((i : ℕ) → get_or bytes i 0 < 256) → x ≡ little_number 8 bytes → to_le_bytes w64 x ≡ take 8 bytes
first_word (a ∷ b ∷ c ∷ d ∷ e ∷ f ∷ g ∷ h ∷ rest) x room small is =
    let front : (i : ℕ) → get_or (a ∷ b ∷ c ∷ d ∷ e ∷ f ∷ g ∷ h ∷ []) i 0 < 256 = front-small 8 (a ∷ b ∷ c ∷ d ∷ e ∷ f ∷ g ∷ h ∷ rest) small in
    let read : x ≡ from_le_bytes w64 (a ∷ b ∷ c ∷ d ∷ e ∷ f ∷ g ∷ h ∷ []) = omega arith in
    le_bytes_8 (a ∷ b ∷ c ∷ d ∷ e ∷ f ∷ g ∷ h ∷ []) x refl front read
first_word _ x room small is = absurd (omega arith)

-- words that were read of bytes, eight for each, have these bytes
pub taken : (words bytes : List ℕ) → length bytes ≡ 8 * length words → ((i : ℕ) → get_or bytes i 0 < 256)
    → ((k : ℕ) → k < length words → get_or words k 0 ≡ little_number 8 (drop (8 * k) bytes)) → word_bytes words ≡ bytes
taken [] [] size small read = refl
taken [] (b ∷ bs) size small read = absurd (omega arith)
taken (x ∷ xs) bytes size small read =
    let first : to_le_bytes w64 x ≡ take 8 bytes = first_word bytes x (omega arith) small (read 0 (omega arith)) in
    let moved : (k : ℕ) → drop (8 * suc k) bytes ≡ drop (8 * k) (drop 8 bytes) = λ k. let e : 8 * suc k ≡ 8 + 8 * k = omega arith in ap (λ (n : ℕ). drop n bytes) e ∙ sym (drop-drop (8 * k) 8 bytes) in
    let below : (i : ℕ) → get_or (drop 8 bytes) i 0 < 256 = λ i. let e : get_or (drop 8 bytes) i 0 ≡ get_or bytes (8 + i) 0 = get_or-drop 8 bytes i 0 in let s : get_or bytes (8 + i) 0 < 256 = small (8 + i) in omega (arith, e, s) in
    let rest : word_bytes xs ≡ drop 8 bytes = taken xs (drop 8 bytes) (omega (arith, length-drop 8 bytes)) below (λ k lt. read (suc k) (omega arith) ∙ ap (little_number 8) (moved k)) in
    (λ i. first i ++ rest i) ∙ take-append-drop 8 bytes

-- ---- rows

-- a test that holds chooses
choose : (b : Bool) (x y : List ℕ) → b ≡ true → x ≡ y → cond b (Some x) None ≡ Some y
choose true x y p e = ap (λ (z : List ℕ). Some z) e
choose false x y p e = (cc)

-- what is chosen was chosen by a test that holds
chosen : (b : Bool) (x y : List ℕ) → cond b (Some x) None ≡ Some y → (b ≡ true) × (x ≡ y)
chosen true x y e = (refl, (cc))
chosen false x y e = absurd (cc)

-- a file that holds the bytes of a row's words holds the row
pub row_written : (held : Option (List ℕ)) (bytes words : List ℕ) → held ≡ Some bytes → bytes ≡ word_bytes words → words_in bytes ≡ words → row_in held ≡ Some words
unfolding row_in
row_written held bytes words is made back =
    let same : word_bytes (words_in bytes) ≡ bytes = ap word_bytes back ∙ sym made in
    ap row_in is ∙ choose (bytes_eq (word_bytes (words_in bytes)) bytes) (words_in bytes) words ((bytes_eq-Decides (word_bytes (words_in bytes)) bytes).1 same) back

-- what is known of a file that holds a row
pub record IsHeld (held : Option (List ℕ)) (words : List ℕ) : Type 0 where
  pub whole : held ≡ Some (word_bytes words)
  pub back : words_in (word_bytes words) ≡ words

pub row_held : (held : Option (List ℕ)) (words : List ℕ) → row_in held ≡ Some words → IsHeld held words
unfolding row_in
row_held None words e = absurd (cc)
row_held (Some bytes) words e =
    let c = chosen (bytes_eq (word_bytes (words_in bytes)) bytes) (words_in bytes) words e in
    let same : word_bytes (words_in bytes) ≡ bytes = (bytes_eq-Decides (word_bytes (words_in bytes)) bytes).0 c.0 in
    let made : bytes ≡ word_bytes words = sym same ∙ ap word_bytes c.1 in
    record { whole = ap (λ (b : List ℕ). Some b) made; back = ap words_in (sym made) ∙ c.1 }

-- what an honest folder reads of a row's file, where it gives as many bytes, is what an honest store reads of the row
row_read : (held : Option (List ℕ)) (found words new : List ℕ) → ((bytes : List ℕ) → held ≡ Some bytes → ReadsBytes bytes found)
    → length found ≡ 8 * length words → word_bytes new ≡ found → words_in found ≡ new → row_in held ≡ Some words → Reads words new
row_read held found words new reads size made back e =
    let is : IsHeld held words = row_held held words e in
    ⊎_elim (λ (same : found ≡ word_bytes words). inl (sym back ∙ ap words_in same ∙ is.back))
    (λ (other : (length found ≢ length (word_bytes words)) ⊎ (take 24 found ≢ take 24 (word_bytes words))). ⊎_elim
    (λ (longer : length found ≢ length (word_bytes words)). absurd (longer (size ∙ sym (length-word_bytes words))))
    (λ (differs : take 24 found ≢ take 24 (word_bytes words)). inr (λ (same : take 3 new ≡ take 3 words).
    absurd (differs (ap (take 24) (sym made) ∙ take-word_bytes 3 new ∙ ap word_bytes same ∙ sym (take-word_bytes 3 words)))))
    other)
    (reads (word_bytes words) is.whole)

-- the same of bytes that were read into a longer room
pub row_taken : (held : Option (List ℕ)) (room words new : List ℕ) (count n : ℕ) → ((bytes : List ℕ) → held ≡ Some bytes → ReadsBytes bytes (take count room))
    → 8 * n ≤ length room → count ≡ 8 * n → word_bytes new ≡ take (8 * n) room → words_in (take (8 * n) room) ≡ new → row_in held ≡ Some words → length words ≡ n → Reads words new
row_taken held room words new count n reads len whole made back e same =
    row_read held (take (8 * n) room) words new (λ bytes is. subst (λ (k : ℕ). ReadsBytes bytes (take k room)) whole (reads bytes is)) (length-take-le (8 * n) room len ∙ omega arith) made back e

-- ---- files in memory

-- what was copied to the front stands there
pub put_front : (held room front : List ℕ) (count : ℕ) → count ≤ length held → count ≤ length room → front ≡ take count held → take count (put_mid 0 count room front) ≡ take count held
put_front held room front count fits below is =
    let size : length front ≡ count = ap length is ∙ length-take-le count held fits in
    take-put_mid 0 count room front count (omega arith) (omega arith) ∙ is

-- as many first bytes as there is room for are just those of a file, or another number of them
pub front_read : (items new held : List ℕ) (count : ℕ) → count ≡ min (length items) (length new) → take count new ≡ take count items → Some items ≡ Some held → ReadsBytes held (take count new)
front_read items new held count least front is =
    let same : items ≡ held = (cc) in
    let size : length (take count new) ≡ count = length-take-le count new (omega arith) in
    elim (cases_lt (length new) (length items)) [
      | inl longer ↦ inr (inl (λ (e : length (take count new) ≡ length held). let l : length items ≡ length held = ap length same in absurd (omega arith)))
      | inr fits ↦ inl (front ∙ take_all count items (omega arith) ∙ same)
    ]

-- they are the first bytes of the file
pub front_given : (items new : List ℕ) (count : ℕ) → count ≤ length new → take count new ≡ take count items → take count new ≡ take (length (take count new)) items
front_given items new count fits front =
    let size : count ≡ length (take count new) = sym (length-take-le count new fits) in
    front ∙ ap (λ (n : ℕ). take n items) size

-- ---- berths

-- the next version is none at which nothing was put
later : (b : Bool) (v : ℕ) → cond b 1 (v + 1) ≢ 0
later true v e = omega arith
later false v e = omega arith

-- the file of a berth into which something was put holds the bytes of its row
pub kept_whole : (n version before : ℕ) (held : Option (List ℕ)) (o : ℕ) (ws : List ℕ) → version ≡ next_version before → Keeps n version (row_in held) o ws → held ≡ Some (word_bytes (o ∷ version ∷ n ∷ ws))
kept_whole n version before held o ws next keeps =
    ⊎_elim (λ (z : (version ≡ 0) × ((i : ℕ) → i < n → get_or ws i 0 ≡ 0)). absurd (later (before == 18446744073709551615) before (sym next ∙ z.0)))
    (λ (p : (0 < version) × (length ws ≡ n) × (row_in held ≡ Some (o ∷ version ∷ n ∷ ws))). (row_held held (o ∷ version ∷ n ∷ ws) p.2).whole)
    keeps
