-- A number that is written is read as the number.
use Rattle.std.proofs.Common.{◌≡◌, ℕ, zero, suc, ◌+◌, ◌*◌, ◌^◌, ◌<◌, ◌≤◌, Bool, true, false, ◌&&◌, ◌==◌, cond, List, [], ◌∷◌, ◌++◌, length, Some, None, refl, sym, subst, ◌∙◌, rules, arith}
use Rattle.std.proofs.lemmas.Bool.{ne_eqb, leb-true, ltb-true, ltb-false, le-leb, lt-leb, lt-ltb}
use Rattle.std.proofs.lemmas.Fmt.{digits_is_IsNumeral, digits_decimal, digits_value-decimal, first_decimal, decimal_digit}
use Rattle.std.proofs.lemmas.Str.Parse.{IsNumeralModel, numerals_by_fold}
use Rattle.std.specs.Prelude.{nat_le, nat_lt, codes}
use lib.ListN.{get_or}
use Rattle.std.specs.Fmt.{decimal, digits}
use Rattle.std.specs.Char.{digit_value}
use Rattle.std.specs.Str.Parse.{AllDigits, digits_value_after}
use Rattle.c0_source.specs.declared.kind.Kind.TheVariants as k
use Rattle.c0_source.specs.declared.kind.Mode.{Mode}
use Rattle.c0_source.specs.declared.kind.Piece.{Piece}
use Rattle.c0_source.specs.declared.kind.Piece.TheVariants as p
use Rattle.c0_source.specs.Bytes.{is_blank, is_letter, is_digit, is_hex, all_of}
use Rattle.c0_source.specs.Spelling.{value_from, hex_from, hex_digit, decimal_of, hex_of, number_of, piece_of}
use Rattle.c0_syntax.specs.Spellings.{number_text}
use Rattle.c0_syntax.specs.Printing.{first_of}
use Rattle.c0_syntax.proofs.Ends.{both}

-- a byte between two others
between : (lo hi b : ℕ) → (nat_le lo b && nat_le b hi) ≡ true → (lo ≤ b) × (b ≤ hi)
between lo hi b e = let q = both (nat_le lo b) (nat_le b hi) e in (leb-true lo b q.0, leb-true b hi q.1)

below : (lo hi b : ℕ) → b < lo → (nat_le lo b && nat_le b hi) ≡ false
below lo hi b lt = rw (lt-leb lo b lt) refl

above_by : (lo hi b : ℕ) (c : Bool) → nat_le lo b ≡ c → hi < b → (c && nat_le b hi) ≡ false
above_by lo hi b true e lt = lt-leb b hi lt
above_by lo hi b false e lt = refl

above : (lo hi b : ℕ) → hi < b → (nat_le lo b && nat_le b hi) ≡ false
above lo hi b lt = above_by lo hi b (nat_le lo b) refl lt

-- a digit begins a number
digit_no_blank : (b : ℕ) → is_digit b ≡ true → is_blank b ≡ false
digit_no_blank b e = let q = between 48 57 b e in rw (ne_eqb b 32 (omega (arith, q)), above 9 13 b (omega (arith, q))) refl

digit_no_letter : (b : ℕ) → is_digit b ≡ true → is_letter b ≡ false
digit_no_letter b e = let q = between 48 57 b e in rw (below 97 122 b (omega (arith, q)), below 65 90 b (omega (arith, q)), ne_eqb b 95 (omega (arith, q))) refl

number_piece : (mode : Mode) (b : ℕ) (bs : List ℕ) (what : Piece) → is_digit b ≡ true → number_of b bs ≡ Some what → piece_of mode (b ∷ bs) ≡ Some what
number_piece mode b bs what e h = rw (digit_no_blank b e, digit_no_letter b e, e) h

-- Decimal numbers.

own : IsNumeralModel (λ (ds : List ℕ). all_of is_digit ds ≡ true) (value_from 0)
own = numerals_by_fold _ (search rules) value_from (search rules)

decimal_number : (b : ℕ) (bs : List ℕ) (n : ℕ) → all_of is_digit bs ≡ true → (b == 48) ≡ false → value_from 0 (b ∷ bs) ≡ n → n ≤ 2 ^ 31 → decimal_of b bs ≡ Some (p.Token (k.Number n))
decimal_number b bs n digits first value small = rw (digits, first, value, le-leb n (2 ^ 31) small) refl

number_if : (b : ℕ) (bs : List ℕ) → (b == 48) ≡ false → number_of b bs ≡ decimal_of b bs
number_if b [] e = refl
number_if b (x ∷ bs) e = rw e refl

decimal_by : (mode : Mode) (ds : List ℕ) (n : ℕ) → all_of is_digit ds ≡ true → value_from 0 ds ≡ n → n ≤ 2 ^ 31 → 48 < get_or ds 0 0 → (piece_of mode ds ≡ Some (p.Token (k.Number n))) × (is_digit (first_of ds) ≡ true)
decimal_by mode [] n digits value small first = absurd (omega (arith, first))
decimal_by mode (b ∷ bs) n digits value small first =
    let q = both (is_digit b) (all_of is_digit bs) digits in
    let e = ne_eqb b 48 (omega (arith, first)) in
    (number_piece mode b bs (p.Token (k.Number n)) q.0 (number_if b bs e ∙ decimal_number b bs n q.1 e value small), q.0)

-- Hexadecimal numbers.

hex_one : (c : ℕ) (c1 c2 c3 c4 c5 c6 : Bool) → nat_lt c 48 ≡ c1 → nat_lt c 58 ≡ c2 → nat_lt c 65 ≡ c3 → nat_lt c 91 ≡ c4 → nat_lt c 97 ≡ c5 → nat_lt c 123 ≡ c6 → digit_value c < 16 → (is_hex c ≡ true) × (hex_digit c ≡ digit_value c)
hex_one c true c2 c3 c4 c5 c6 e1 e2 e3 e4 e5 e6 h = absurd (let g = rw e1 at h in omega (arith, g))
hex_one c false true c3 c4 c5 c6 e1 e2 e3 e4 e5 e6 h =
    let lo = ltb-false c 48 e1 in let hi = ltb-true c 58 e2 in
    (rw (le-leb 48 c lo, le-leb c 57 (omega (arith, hi))) refl, rw (e1, e2, lt-leb 97 c (omega (arith, hi)), lt-leb 65 c (omega (arith, hi))) refl)
hex_one c false false true c4 c5 c6 e1 e2 e3 e4 e5 e6 h = absurd (let g = rw (e1, e2, e3) at h in omega (arith, g))
hex_one c false false false true c5 c6 e1 e2 e3 e4 e5 e6 h =
    let g = rw (e1, e2, e3, e4) at h in
    let lo = ltb-false c 65 e3 in let hi = ltb-true c 91 e4 in (
      rw (above 48 57 c (omega (arith, lo)), below 97 102 c (omega (arith, hi)), le-leb 65 c lo, le-leb c 70 (omega (arith, g, lo))) refl,
      rw (e1, e2, e3, e4, lt-leb 97 c (omega (arith, hi)), le-leb 65 c lo) refl,
    )
hex_one c false false false false true c6 e1 e2 e3 e4 e5 e6 h = absurd (let g = rw (e1, e2, e3, e4, e5) at h in omega (arith, g))
hex_one c false false false false false true e1 e2 e3 e4 e5 e6 h =
    let g = rw (e1, e2, e3, e4, e5, e6) at h in
    let lo = ltb-false c 97 e5 in
    (rw (above 48 57 c (omega (arith, lo)), le-leb 97 c lo, le-leb c 102 (omega (arith, g, lo))) refl, rw (e1, e2, e3, e4, e5, e6, le-leb 97 c lo) refl)
hex_one c false false false false false false e1 e2 e3 e4 e5 e6 h = absurd (let g = rw (e1, e2, e3, e4, e5, e6) at h in omega (arith, g))

hex_all : (n : ℕ) (cs : List ℕ) → AllDigits 16 cs → (all_of is_hex cs ≡ true) × (hex_from n cs ≡ digits_value_after 16 n cs)
hex_all n [] h = (refl, refl)
hex_all n (c ∷ cs) h =
    let one = hex_one c _ _ _ _ _ _ refl refl refl refl refl refl h.0 in
    let same : 16 * n + hex_digit c ≡ n * 16 + digit_value c = omega (arith, one.1) in
    let others = hex_all (n * 16 + digit_value c) cs h.1 in
    (rw (one.0, others.0) refl, rw same others.1)

hex_by : (hs : List ℕ) (n : ℕ) → 0 < length hs → all_of is_hex hs ≡ true → hex_from 0 hs ≡ n → n < 2 ^ 32 → hex_of hs ≡ Some (p.Token (k.Number n))
hex_by [] n some digits value small = absurd (omega (arith, some))
hex_by (h ∷ hs) n some digits value small = rw (digits, value, lt-ltb n (2 ^ 32) small) refl

-- All numbers.

text_by : (mode : Mode) (n : ℕ) (c : Bool) → nat_le n (2 ^ 31) ≡ c → n < 2 ^ 32 → (text : List ℕ) × (cond c (decimal n) (codes "0x" ++ digits 16 false n) ≡ text) × (piece_of mode text ≡ Some (p.Token (k.Number n))) × (is_digit (first_of text) ≡ true)
text_by mode zero true e h = (48 ∷ [], decimal_digit 0 (omega arith), refl, refl)
text_by mode (suc n) true e h =
    let big : suc n < 2 ^ 64 = omega (arith, h) in
    let d = decimal_by mode (decimal (suc n)) (suc n) (digits_decimal own (suc n) big) (digits_value-decimal own (suc n) big) (leb-true _ _ e) (first_decimal (suc n) (omega arith) big) in
    (decimal (suc n), refl, d.0, d.1)
text_by mode n false e h =
    let d = digits_is_IsNumeral 16 false (omega arith) (omega arith) n (omega (arith, h)) in
    let all = hex_all 0 (digits 16 false n) d.0.1 in
    (48 ∷ 120 ∷ digits 16 false n, refl, hex_by (digits 16 false n) n d.0.0 all.0 (all.1 ∙ d.1) h, refl)

-- what is written of a number is the number, and begins with a digit
pub number_written : (mode : Mode) (n : ℕ) → n < 2 ^ 32 → (piece_of mode (number_text n) ≡ Some (p.Token (k.Number n))) × (is_digit (first_of (number_text n)) ≡ true)
number_written mode n h =
    let t = text_by mode n (nat_le n (2 ^ 31)) refl h in
    (subst (λ (s : List ℕ). piece_of mode s ≡ Some (p.Token (k.Number n))) (sym t.1) t.2, subst (λ (s : List ℕ). is_digit (first_of s) ≡ true) (sym t.1) t.3)

value_by : (c : Bool) (v n : ℕ) (most : ℕ) → (v < most) → cond c (Some (p.Token (k.Number v))) None ≡ Some (p.Token (k.Number n)) → n < most
value_by true v n most lt e = let same : v ≡ n = cc in subst (λ (x : ℕ). x < most) same lt
value_by false v n most lt e = absurd cc
