-- A text or a character that is written is read as what it was.
use Rattle.std.proofs.Common.{◌≡◌, ◌≢◌, ℕ, Bool, true, false, ◌&&◌, ◌||◌, ◌==◌, List, [], ◌∷◌, ◌++◌, length, Some, refl, sym, ap, subst, ◌∙◌, arith}
use Rattle.std.proofs.lemmas.Bool.{eqb-true, eqb-false, leb-true, lt-ltb}
use Rattle.std.specs.Prelude.{nat_le, nat_lt}
use Rattle.c0_source.specs.Bytes.{is_printable, all_of, escape}
use Rattle.c0_source.specs.Spelling.{text_value, letter_value}
use Rattle.c0_syntax.specs.Spellings.{escaped, all_escaped}
use Rattle.c0_syntax.proofs.Ends.{both, with_some}

-- a byte that a text may have: printable, or one that an escape stands for
abbrev pub writable : ℕ → Bool
writable b = is_printable b || (nat_le 7 b && nat_le b 13)

abbrev Written : ℕ → Type 0
Written b = (bs v : List ℕ) → text_value false bs ≡ Some v → text_value false (escaped b ++ bs) ≡ Some (b ∷ v)

at_value : (b c : ℕ) → (b == c) ≡ true → Written c → Written b
at_value b c e w = subst Written (sym (eqb-true b c e)) w

is_10 : Written 10
is_10 bs v h = rw h refl

is_9 : Written 9
is_9 bs v h = rw h refl

is_11 : Written 11
is_11 bs v h = rw h refl

is_8 : Written 8
is_8 bs v h = rw h refl

is_13 : Written 13
is_13 bs v h = rw h refl

is_12 : Written 12
is_12 bs v h = rw h refl

is_7 : Written 7
is_7 bs v h = rw h refl

is_92 : Written 92
is_92 bs v h = rw h refl

is_39 : Written 39
is_39 bs v h = rw h refl

is_34 : Written 34
is_34 bs v h = rw h refl

-- a byte that stands for itself
plain_by : (b : ℕ) (c : Bool) → is_printable b ≡ c → (c || (nat_le 7 b && nat_le b 13)) ≡ true → (nat_le 7 b && nat_le b 13) ≡ false → is_printable b ≡ true
plain_by b true e h g = e
plain_by b false e h g = absurd (let t : true ≡ false = sym h ∙ g in cc)

plain : (b : ℕ) (bs v : List ℕ) → (b == 34) ≡ false → (b == 92) ≡ false → is_printable b ≡ true → text_value false bs ≡ Some v → text_value false (b ∷ bs) ≡ Some (b ∷ v)
plain b bs v e1 e2 e3 h = rw (e1, e2, e3, h) refl

low_by : (b : ℕ) → b ≢ 7 → b ≢ 8 → b ≢ 9 → b ≢ 10 → b ≢ 11 → b ≢ 12 → b ≢ 13 → (c d : Bool) → nat_le 7 b ≡ c → nat_le b 13 ≡ d → (c && d) ≡ false
low_by b n7 n8 n9 n10 n11 n12 n13 false d e g = refl
low_by b n7 n8 n9 n10 n11 n12 n13 true false e g = refl
low_by b n7 n8 n9 n10 n11 n12 n13 true true e g = absurd (let lo = leb-true _ _ e in let hi = leb-true _ _ g in grind (arith, lo, hi, n7, n8, n9, n10, n11, n12, n13))

below_128 : (b : ℕ) → is_printable b ≡ true → nat_lt b 128 ≡ true
below_128 b e = let q = both (nat_le 32 b) (nat_le b 126) e in lt-ltb b 128 (omega (arith, leb-true b 126 q.1))

written_by : (b : ℕ) (c0 c10 c9 c11 c8 c13 c12 c7 c92 c39 c34 : Bool) → (b == 0) ≡ c0 → (b == 10) ≡ c10 → (b == 9) ≡ c9 → (b == 11) ≡ c11 → (b == 8) ≡ c8 → (b == 13) ≡ c13 → (b == 12) ≡ c12 → (b == 7) ≡ c7
    → (b == 92) ≡ c92 → (b == 39) ≡ c39 → (b == 34) ≡ c34 → writable b ≡ true → Written b
written_by b true c10 c9 c11 c8 c13 c12 c7 c92 c39 c34 e0 e10 e9 e11 e8 e13 e12 e7 e92 e39 e34 w =
    absurd (let z : writable 0 ≡ true = subst (λ (x : ℕ). writable x ≡ true) (eqb-true b 0 e0) w in cc)
written_by b false true c9 c11 c8 c13 c12 c7 c92 c39 c34 e0 e10 e9 e11 e8 e13 e12 e7 e92 e39 e34 w = at_value b 10 e10 is_10
written_by b false false true c11 c8 c13 c12 c7 c92 c39 c34 e0 e10 e9 e11 e8 e13 e12 e7 e92 e39 e34 w = at_value b 9 e9 is_9
written_by b false false false true c8 c13 c12 c7 c92 c39 c34 e0 e10 e9 e11 e8 e13 e12 e7 e92 e39 e34 w = at_value b 11 e11 is_11
written_by b false false false false true c13 c12 c7 c92 c39 c34 e0 e10 e9 e11 e8 e13 e12 e7 e92 e39 e34 w = at_value b 8 e8 is_8
written_by b false false false false false true c12 c7 c92 c39 c34 e0 e10 e9 e11 e8 e13 e12 e7 e92 e39 e34 w = at_value b 13 e13 is_13
written_by b false false false false false false true c7 c92 c39 c34 e0 e10 e9 e11 e8 e13 e12 e7 e92 e39 e34 w = at_value b 12 e12 is_12
written_by b false false false false false false false true c92 c39 c34 e0 e10 e9 e11 e8 e13 e12 e7 e92 e39 e34 w = at_value b 7 e7 is_7
written_by b false false false false false false false false true c39 c34 e0 e10 e9 e11 e8 e13 e12 e7 e92 e39 e34 w = at_value b 92 e92 is_92
written_by b false false false false false false false false false true c34 e0 e10 e9 e11 e8 e13 e12 e7 e92 e39 e34 w = at_value b 39 e39 is_39
written_by b false false false false false false false false false false true e0 e10 e9 e11 e8 e13 e12 e7 e92 e39 e34 w = at_value b 34 e34 is_34
written_by b false false false false false false false false false false false e0 e10 e9 e11 e8 e13 e12 e7 e92 e39 e34 w = λ bs v h.
    let low = low_by b (eqb-false b 7 e7) (eqb-false b 8 e8) (eqb-false b 9 e9) (eqb-false b 10 e10) (eqb-false b 11 e11) (eqb-false b 12 e12) (eqb-false b 13 e13) _ _ refl refl in
    let printable = plain_by b (is_printable b) refl w low in
    rw (e0, e10, e9, e11, e8, e13, e12, e7, e92, e39, e34, below_128 b printable) (plain b bs v e34 e92 printable h)

written_byte : (b : ℕ) → writable b ≡ true → Written b
written_byte b w = written_by b _ _ _ _ _ _ _ _ _ _ _ refl refl refl refl refl refl refl refl refl refl refl w

assoc : (xs ys zs : List ℕ) → (xs ++ ys) ++ zs ≡ xs ++ (ys ++ zs)
assoc [] ys zs = refl
assoc (x ∷ xs) ys zs = ap (λ (t : List ℕ). x ∷ t) (assoc xs ys zs)

-- The value of a text that is written is the text.
pub text_written : (bs : List ℕ) → all_of writable bs ≡ true → text_value false (all_escaped bs ++ 34 ∷ []) ≡ Some bs
text_written [] w = refl
text_written (b ∷ bs) w =
    let q = both (writable b) (all_of writable bs) w in
    let ih = text_written bs q.1 in
    rw (assoc (escaped b) (all_escaped bs) (34 ∷ [])) (written_byte b q.0 (all_escaped bs ++ 34 ∷ []) bs ih)

-- What a text can hold is writable.

holds : (b v : ℕ) → writable b ≡ true → Some b ≡ Some v → writable v ≡ true
holds b v e h = let is : b ≡ v = cc in subst (λ (x : ℕ). writable x ≡ true) is e

escape_by : (b v : ℕ) (c1 c2 c3 c4 c5 c6 c7 c8 c9 c10 : Bool) → (b == 110) ≡ c1 → (b == 116) ≡ c2 → (b == 118) ≡ c3 → (b == 98) ≡ c4 → (b == 114) ≡ c5 → (b == 102) ≡ c6 → (b == 97) ≡ c7 → (b == 92) ≡ c8 → (b == 39) ≡ c9 → (b == 34) ≡ c10
    → escape b ≡ Some v → writable v ≡ true
escape_by b v true c2 c3 c4 c5 c6 c7 c8 c9 c10 e1 e2 e3 e4 e5 e6 e7 e8 e9 e10 h = let g = rw e1 at h in holds 10 v refl g
escape_by b v false true c3 c4 c5 c6 c7 c8 c9 c10 e1 e2 e3 e4 e5 e6 e7 e8 e9 e10 h = let g = rw (e1, e2) at h in holds 9 v refl g
escape_by b v false false true c4 c5 c6 c7 c8 c9 c10 e1 e2 e3 e4 e5 e6 e7 e8 e9 e10 h = let g = rw (e1, e2, e3) at h in holds 11 v refl g
escape_by b v false false false true c5 c6 c7 c8 c9 c10 e1 e2 e3 e4 e5 e6 e7 e8 e9 e10 h = let g = rw (e1, e2, e3, e4) at h in holds 8 v refl g
escape_by b v false false false false true c6 c7 c8 c9 c10 e1 e2 e3 e4 e5 e6 e7 e8 e9 e10 h = let g = rw (e1, e2, e3, e4, e5) at h in holds 13 v refl g
escape_by b v false false false false false true c7 c8 c9 c10 e1 e2 e3 e4 e5 e6 e7 e8 e9 e10 h = let g = rw (e1, e2, e3, e4, e5, e6) at h in holds 12 v refl g
escape_by b v false false false false false false true c8 c9 c10 e1 e2 e3 e4 e5 e6 e7 e8 e9 e10 h = let g = rw (e1, e2, e3, e4, e5, e6, e7) at h in holds 7 v refl g
escape_by b v false false false false false false false true c9 c10 e1 e2 e3 e4 e5 e6 e7 e8 e9 e10 h =
    let g = rw (e1, e2, e3, e4, e5, e6, e7, e8) at h in holds b v (subst (λ (x : ℕ). writable x ≡ true) (sym (eqb-true b 92 e8)) refl) g
escape_by b v false false false false false false false false true c10 e1 e2 e3 e4 e5 e6 e7 e8 e9 e10 h =
    let g = rw (e1, e2, e3, e4, e5, e6, e7, e8, e9) at h in holds b v (subst (λ (x : ℕ). writable x ≡ true) (sym (eqb-true b 39 e9)) refl) g
escape_by b v false false false false false false false false false true e1 e2 e3 e4 e5 e6 e7 e8 e9 e10 h =
    let g = rw (e1, e2, e3, e4, e5, e6, e7, e8, e9, e10) at h in holds b v (subst (λ (x : ℕ). writable x ≡ true) (sym (eqb-true b 34 e10)) refl) g
escape_by b v false false false false false false false false false false e1 e2 e3 e4 e5 e6 e7 e8 e9 e10 h = absurd (let g = rw (e1, e2, e3, e4, e5, e6, e7, e8, e9, e10) at h in cc)

escape_writable : (b v : ℕ) → escape b ≡ Some v → writable v ≡ true
escape_writable b v h = escape_by b v _ _ _ _ _ _ _ _ _ _ refl refl refl refl refl refl refl refl refl refl h

printable_writable : (b : ℕ) → is_printable b ≡ true → writable b ≡ true
printable_writable b e = rw e refl

abbrev Held : List ℕ → Type 0
Held bs = (after : Bool) (v : List ℕ) → text_value after bs ≡ Some v → all_of writable v ≡ true

held_cons : (b : ℕ) (w v : List ℕ) → writable b ≡ true → all_of writable w ≡ true → v ≡ b ∷ w → all_of writable v ≡ true
held_cons b w v e g is = rw (is, e, g) refl

held_by : (b : ℕ) (bs v : List ℕ) (c1 c2 c3 c4 : Bool) → (b == 34) ≡ c1 → (b == 92) ≡ c2 → is_printable b ≡ c3 → (length bs == 0) ≡ c4 → Held bs → text_value false (b ∷ bs) ≡ Some v → all_of writable v ≡ true
held_by b bs v true c2 c3 true e1 e2 e3 e4 ih h = let g = rw (e1, e4) at h in let is : [] ≡ v = cc in subst (λ (x : List ℕ). all_of writable x ≡ true) is refl
held_by b bs v true c2 c3 false e1 e2 e3 e4 ih h = absurd (let g = rw (e1, e4) at h in cc)
held_by b bs v false true c3 c4 e1 e2 e3 e4 ih h = let g = rw (e1, e2) at h in ih true v g
held_by b bs v false false true c4 e1 e2 e3 e4 ih h =
    let g = rw (e1, e2, e3) at h in
    let w = with_some (Some b) (text_value false bs) v g in
    let same : b ≡ w.0 = cc in
    held_cons w.0 w.1 v (subst (λ (x : ℕ). writable x ≡ true) same (printable_writable b e3)) (ih false w.1 w.3) w.4
held_by b bs v false false false c4 e1 e2 e3 e4 ih h = absurd (let g = rw (e1, e2, e3) at h in cc)

-- what a text holds is writable
pub held : (bs : List ℕ) → Held bs
held [] true v h = absurd cc
held [] false v h = absurd cc
held (b ∷ bs) true v h =
    let w = with_some (escape b) (text_value false bs) v h in
    held_cons w.0 w.1 v (escape_writable b w.0 w.2) (held bs false w.1 w.3) w.4
held (b ∷ bs) false v h = held_by b bs v (b == 34) (b == 92) (is_printable b) (length bs == 0) refl refl refl refl (λ after v h. held bs after v h) h

-- Characters.

abbrev Reads : ℕ → Type 0
Reads c = letter_value (escaped c ++ 39 ∷ []) ≡ Some c

as_value : (b c : ℕ) → (b == c) ≡ true → Reads c → Reads b
as_value b c e w = subst Reads (sym (eqb-true b c e)) w

plain_character : (c : ℕ) → is_printable c ≡ true → (c == 39) ≡ false → (c == 92) ≡ false → letter_value (c ∷ 39 ∷ []) ≡ Some c
plain_character c e g h = rw (e, g, h) refl

reads_by : (b : ℕ) (c0 c10 c9 c11 c8 c13 c12 c7 c92 c39 c34 : Bool) → (b == 0) ≡ c0 → (b == 10) ≡ c10 → (b == 9) ≡ c9 → (b == 11) ≡ c11 → (b == 8) ≡ c8 → (b == 13) ≡ c13 → (b == 12) ≡ c12 → (b == 7) ≡ c7
    → (b == 92) ≡ c92 → (b == 39) ≡ c39 → (b == 34) ≡ c34 → (c0 || writable b) ≡ true → Reads b
reads_by b true c10 c9 c11 c8 c13 c12 c7 c92 c39 c34 e0 e10 e9 e11 e8 e13 e12 e7 e92 e39 e34 w = as_value b 0 e0 refl
reads_by b false true c9 c11 c8 c13 c12 c7 c92 c39 c34 e0 e10 e9 e11 e8 e13 e12 e7 e92 e39 e34 w = as_value b 10 e10 refl
reads_by b false false true c11 c8 c13 c12 c7 c92 c39 c34 e0 e10 e9 e11 e8 e13 e12 e7 e92 e39 e34 w = as_value b 9 e9 refl
reads_by b false false false true c8 c13 c12 c7 c92 c39 c34 e0 e10 e9 e11 e8 e13 e12 e7 e92 e39 e34 w = as_value b 11 e11 refl
reads_by b false false false false true c13 c12 c7 c92 c39 c34 e0 e10 e9 e11 e8 e13 e12 e7 e92 e39 e34 w = as_value b 8 e8 refl
reads_by b false false false false false true c12 c7 c92 c39 c34 e0 e10 e9 e11 e8 e13 e12 e7 e92 e39 e34 w = as_value b 13 e13 refl
reads_by b false false false false false false true c7 c92 c39 c34 e0 e10 e9 e11 e8 e13 e12 e7 e92 e39 e34 w = as_value b 12 e12 refl
reads_by b false false false false false false false true c92 c39 c34 e0 e10 e9 e11 e8 e13 e12 e7 e92 e39 e34 w = as_value b 7 e7 refl
reads_by b false false false false false false false false true c39 c34 e0 e10 e9 e11 e8 e13 e12 e7 e92 e39 e34 w = as_value b 92 e92 refl
reads_by b false false false false false false false false false true c34 e0 e10 e9 e11 e8 e13 e12 e7 e92 e39 e34 w = as_value b 39 e39 refl
reads_by b false false false false false false false false false false true e0 e10 e9 e11 e8 e13 e12 e7 e92 e39 e34 w = as_value b 34 e34 refl
reads_by b false false false false false false false false false false false e0 e10 e9 e11 e8 e13 e12 e7 e92 e39 e34 w =
    let low = low_by b (eqb-false b 7 e7) (eqb-false b 8 e8) (eqb-false b 9 e9) (eqb-false b 10 e10) (eqb-false b 11 e11) (eqb-false b 12 e12) (eqb-false b 13 e13) _ _ refl refl in
    let printable = plain_by b (is_printable b) refl w low in
    rw (e0, e10, e9, e11, e8, e13, e12, e7, e92, e39, e34, below_128 b printable) (plain_character b printable e39 e92)

-- a character that is written is the character
pub character_written : (b : ℕ) → (b == 0 || writable b) ≡ true → letter_value (escaped b ++ 39 ∷ []) ≡ Some b
character_written b w = reads_by b _ _ _ _ _ _ _ _ _ _ _ refl refl refl refl refl refl refl refl refl refl refl w

or_left : (a b : Bool) → b ≡ true → (a || b) ≡ true
or_left true b e = refl
or_left false b e = e

two_by : (b q c : ℕ) (c1 c2 c3 c4 : Bool) → (q == 39) ≡ c1 → is_printable b ≡ c2 → (b == 39) ≡ c3 → (b == 92) ≡ c4 → letter_value (b ∷ q ∷ []) ≡ Some c → writable c ≡ true
two_by b q c true true false false e1 e2 e3 e4 h = let g = rw (e1, e2, e3, e4) at h in holds b c (printable_writable b e2) g
two_by b q c true true false true e1 e2 e3 e4 h = absurd (let g = rw (e1, e2, e3, e4) at h in cc)
two_by b q c true true true c4 e1 e2 e3 e4 h = absurd (let g = rw (e1, e2, e3) at h in cc)
two_by b q c true false c3 c4 e1 e2 e3 e4 h = absurd (let g = rw (e1, e2) at h in cc)
two_by b q c false c2 c3 c4 e1 e2 e3 e4 h = absurd (let g = rw e1 at h in cc)

three_by : (s b q c : ℕ) (c1 c2 : Bool) → (q == 39 && s == 92) ≡ c1 → (b == 48) ≡ c2 → letter_value (s ∷ b ∷ q ∷ []) ≡ Some c → (c == 0 || writable c) ≡ true
three_by s b q c true true e1 e2 h = let g = rw (e1, e2) at h in let is : 0 ≡ c = cc in subst (λ (x : ℕ). (x == 0 || writable x) ≡ true) is refl
three_by s b q c true false e1 e2 h = let g = rw (e1, e2) at h in or_left (c == 0) (writable c) (escape_writable b c g)
three_by s b q c false c2 e1 e2 h = absurd (let g = rw e1 at h in cc)

-- what a character can be is 0 or writable
pub letter_held : (bs : List ℕ) (c : ℕ) → letter_value bs ≡ Some c → (c == 0 || writable c) ≡ true
letter_held [] c h = absurd cc
letter_held (b ∷ []) c h = absurd cc
letter_held (b ∷ q ∷ []) c h = or_left (c == 0) (writable c) (two_by b q c _ _ _ _ refl refl refl refl h)
letter_held (s ∷ b ∷ q ∷ []) c h = three_by s b q c _ _ refl refl h
letter_held (s ∷ b ∷ q ∷ x ∷ bs) c h = absurd cc
