-- A blank ends every token: no longer text is a piece.
use Rattle.std.proofs.Common.{◌≡◌, ℕ, zero, suc, ◌<◌, ◌≤◌, Bool, true, false, not, ◌&&◌, ◌||◌, ◌==◌, cond, List, [], ◌∷◌, ◌++◌, length, take, drop, Option, Some, None, refl, sym, ap, subst, ◌∙◌, arith}
use Rattle.std.proofs.lemmas.Bool.{ne_eqb}
use Rattle.std.proofs.lemmas.Slice.Eq.{bytes_eq-Decides}
use Rattle.std.specs.Str.{bytes_eq}
use Rattle.std.specs.Prelude.{codes}
use Rattle.c0_source.specs.declared.kind.Kind.{Kind}
use Rattle.c0_source.specs.declared.kind.Kind.TheVariants as k
use Rattle.c0_source.specs.declared.kind.Operator.TheVariants as o
use Rattle.c0_source.specs.declared.kind.Mode.{Mode}
use Rattle.c0_source.specs.declared.kind.Mode.TheVariants as m
use Rattle.c0_source.specs.declared.kind.Piece.{Piece}
use Rattle.c0_source.specs.declared.kind.Piece.TheVariants as p
use Rattle.c0_source.specs.Bytes.{is_letter, is_blank, not_newline, is_digit, is_hex, is_word, is_printable, all_of, escape}
use Rattle.c0_source.specs.Laws.{NotGap}
use Rattle.c0_source.specs.Spelling.{when, with_byte, text_value, letter_value, decimal_of, hex_of, number_of, begins_annotation, slash_of, Table, lookup, signs, sign_of, backslash_of, at_of, angled, quoted, use_value, use_of, is_some, letter_piece, begun_by, piece_of, apart, Cut}

and_false : (c : Bool) → (c && false) ≡ false
and_false true = refl
and_false false = refl

pub all_blank : (f : ℕ → Bool) (bs us : List ℕ) → f 32 ≡ false → all_of f (bs ++ 32 ∷ us) ≡ false
all_blank f [] us e = rw e refl
all_blank f (b ∷ bs) us e = let ih = all_blank f bs us e in rw ih (and_false (f b))

pub not_empty : (bs us : List ℕ) → (length (bs ++ 32 ∷ us) == 0) ≡ false
not_empty [] us = ne_eqb _ _ (omega arith)
not_empty (b ∷ bs) us = ne_eqb _ _ (omega arith)

-- Numbers.

pub decimal_ends : (b : ℕ) (bs us : List ℕ) → decimal_of b (bs ++ 32 ∷ us) ≡ None
decimal_ends b bs us = rw (all_blank is_digit bs us refl) refl

pub hex_ends : (bs us : List ℕ) → hex_of (bs ++ 32 ∷ us) ≡ None
hex_ends [] us = refl
hex_ends (b ∷ bs) us = let e = all_blank is_hex (b ∷ bs) us refl in rw e refl

number_by : (c : Bool) (b : ℕ) (x : ℕ) (bs us : List ℕ) → cond c (hex_of (bs ++ 32 ∷ us)) (decimal_of b (x ∷ bs ++ 32 ∷ us)) ≡ None
number_by true b x bs us = hex_ends bs us
number_by false b x bs us = decimal_ends b (x ∷ bs) us

zero_by : (c : Bool) (b : ℕ) (us : List ℕ) → cond (c && false) (hex_of us) (decimal_of b (32 ∷ us)) ≡ None
zero_by true b us = decimal_ends b [] us
zero_by false b us = decimal_ends b [] us

pub number_ends : (b : ℕ) (bs us : List ℕ) → number_of b (bs ++ 32 ∷ us) ≡ None
number_ends b [] us = zero_by (b == 48) b us
number_ends b (x ∷ bs) us = number_by (b == 48 && (x == 120 || x == 88)) b x bs us

-- Texts and characters.

with_none : (o : Option ℕ) → with_byte o None ≡ None
with_none None = refl
with_none (Some b) = refl

with_some : (o : Option ℕ) (t : Option (List ℕ)) (v : List ℕ) → with_byte o t ≡ Some v → (w : List ℕ) × (t ≡ Some w)
with_some (Some b) (Some w) v e = (w, refl)
with_some (Some b) None v e = absurd cc
with_some None (Some w) v e = absurd cc
with_some None None v e = absurd cc

abbrev TextEnds : List ℕ → Type 0
TextEnds bs = (after : Bool) (v us : List ℕ) → text_value after bs ≡ Some v → text_value after (bs ++ 32 ∷ us) ≡ None

text_by : (b : ℕ) (bs us v : List ℕ) (c1 c2 c3 : Bool) → (b == 34) ≡ c1 → (b == 92) ≡ c2 → is_printable b ≡ c3 → TextEnds bs → text_value false (b ∷ bs) ≡ Some v → text_value false (b ∷ bs ++ 32 ∷ us) ≡ None
text_by b bs us v true c2 c3 e1 e2 e3 ih h = let n = not_empty bs us in rw (e1, n) refl
text_by b bs us v false true c3 e1 e2 e3 ih h = let g = rw (e1, e2) at h in rw (e1, e2) (ih true v us g)
text_by b bs us v false false true e1 e2 e3 ih h =
    let g = rw (e1, e2, e3) at h in
    let w = with_some (Some b) (text_value false bs) v g in
    rw (e1, e2, e3, ih false w.0 us w.1) refl
text_by b bs us v false false false e1 e2 e3 ih h = rw (e1, e2, e3) refl

pub text_ends : (bs : List ℕ) → TextEnds bs
text_ends [] true v us h = absurd cc
text_ends [] false v us h = absurd cc
text_ends (b ∷ bs) true v us h =
    let w = with_some (escape b) (text_value false bs) v h in
    let ih = text_ends bs false w.0 us w.1 in
    rw ih (with_none (escape b))
text_ends (b ∷ bs) false v us h = text_by b bs us v (b == 34) (b == 92) (is_printable b) refl refl refl (λ after v us h. text_ends bs after v us h) h

pub letter_ends : (bs us : List ℕ) (c : ℕ) → letter_value bs ≡ Some c → letter_value (bs ++ 32 ∷ us) ≡ None
letter_ends [] us c h = absurd cc
letter_ends (b ∷ []) us c h = absurd cc
letter_ends (b ∷ q ∷ []) [] c h = refl
letter_ends (b ∷ q ∷ []) (u ∷ us) c h = refl
letter_ends (s ∷ b ∷ q ∷ []) us c h = refl
letter_ends (s ∷ b ∷ q ∷ x ∷ bs) us c h = absurd cc

-- Tables.

abbrev has_blank : List ℕ → Bool
has_blank [] = false
has_blank (b ∷ bs) = b == 32 || has_blank bs

or_true : (c : Bool) → (c || true) ≡ true
or_true true = refl
or_true false = refl

blank_in : (bs us : List ℕ) → has_blank (bs ++ 32 ∷ us) ≡ true
blank_in [] us = refl
blank_in (b ∷ bs) us = rw (blank_in bs us) (or_true (b == 32))

differ_by : (xs ys : List ℕ) (c : Bool) → bytes_eq xs ys ≡ c → (has_blank xs ≡ has_blank ys → ⊥) → c ≡ false
differ_by xs ys false e no_blank = refl
differ_by xs ys true e no_blank = absurd (no_blank (ap has_blank ((bytes_eq-Decides xs ys).0 e)))

differ : (xs ys : List ℕ) → (has_blank xs ≡ has_blank ys → ⊥) → bytes_eq xs ys ≡ false
differ xs ys h = differ_by xs ys (bytes_eq xs ys) refl h

unequal : (a b : Bool) → a ≡ true → b ≡ false → a ≡ b → ⊥
unequal a b e f g = let t : true ≡ false = sym e ∙ (g ∙ f) in cc

abbrev clean : Table → Bool
clean [] = true
clean (s ∷ ss) = not (has_blank s.0) && clean ss

lookup_by : (s : List ℕ × Kind) (ss : Table) (text : List ℕ) (c : Bool) → has_blank s.0 ≡ c → has_blank text ≡ true → (not c && clean ss) ≡ true → (clean ss ≡ true → lookup ss text ≡ None) → lookup (s ∷ ss) text ≡ None
lookup_by s ss text true e h g ih = absurd cc
lookup_by s ss text false e h g ih =
    let d = differ s.0 text (λ q. unequal (has_blank text) (has_blank s.0) h e (sym q)) in
    rw d (ih g)

-- what has a blank is in no table of words without one
lookup_ends : (ss : Table) (text : List ℕ) → has_blank text ≡ true → clean ss ≡ true → lookup ss text ≡ None
lookup_ends [] text h g = refl
lookup_ends (s ∷ ss) text h g = lookup_by s ss text (has_blank s.0) refl h g (λ q. lookup_ends ss text h q)

pub sign_ends : (bs us : List ℕ) → sign_of (bs ++ 32 ∷ us) ≡ None
unfolding sign_of
sign_ends bs us = rw (lookup_ends signs (bs ++ 32 ∷ us) (blank_in bs us) refl) refl

word_differs : (bs us w : List ℕ) → has_blank w ≡ false → bytes_eq (bs ++ 32 ∷ us) w ≡ false
word_differs bs us w e = differ (bs ++ 32 ∷ us) w (λ q. unequal (has_blank (bs ++ 32 ∷ us)) (has_blank w) (blank_in bs us) e q)

pub backslash_ends : (mode : Mode) (bs us : List ℕ) → backslash_of mode (bs ++ 32 ∷ us) ≡ None
backslash_ends m.Plain bs us = refl
backslash_ends m.Line bs us = rw (word_differs bs us (codes "result") refl, word_differs bs us (codes "length") refl) refl
backslash_ends m.Block bs us = rw (word_differs bs us (codes "result") refl, word_differs bs us (codes "length") refl) refl

pub at_ends : (mode : Mode) (bs us : List ℕ) → at_of mode (bs ++ 32 ∷ us) ≡ None
at_ends m.Plain bs us = refl
at_ends m.Line bs us = refl
at_ends m.Block bs us = rw (word_differs bs us (codes "*/") refl) refl

-- `#use`.

angled_by : (name : List ℕ) (b : ℕ) (bs us : List ℕ) (c1 c2 : Bool) → (b == 62) ≡ c1 → (is_word b && not (length name == 0 && is_digit b)) ≡ c2 → ((n : List ℕ) → angled n (bs ++ 32 ∷ us) ≡ None) → angled name (b ∷ bs ++ 32 ∷ us) ≡ None
angled_by name b bs us true c2 e1 e2 ih = rw (e1, not_empty bs us) refl
angled_by name b bs us false true e1 e2 ih = rw (e1, e2) (ih (name ++ b ∷ []))
angled_by name b bs us false false e1 e2 ih = rw (e1, e2) refl

angled_ends : (bs us name : List ℕ) → angled name (bs ++ 32 ∷ us) ≡ None
angled_ends [] us name = refl
angled_ends (b ∷ bs) us name = angled_by name b bs us (b == 62) (is_word b && not (length name == 0 && is_digit b)) refl refl (λ n. angled_ends bs us n)

quoted_some : (t : Option (List ℕ)) (x : Bool × List ℕ) → quoted t ≡ Some x → (v : List ℕ) × (t ≡ Some v)
quoted_some None x e = absurd cc
quoted_some (Some v) x e = (v, refl)

use_by : (b : ℕ) (bs us : List ℕ) (x : Bool × List ℕ) (c1 c2 c3 : Bool) → (is_blank b && not_newline b) ≡ c1 → (b == 60) ≡ c2 → (b == 34) ≡ c3 → ((y : Bool × List ℕ) → use_value bs ≡ Some y → use_value (bs ++ 32 ∷ us) ≡ None)
    → use_value (b ∷ bs) ≡ Some x → use_value (b ∷ bs ++ 32 ∷ us) ≡ None
use_by b bs us x true c2 c3 e1 e2 e3 ih h = let g = rw e1 at h in rw e1 (ih x g)
use_by b bs us x false true c3 e1 e2 e3 ih h = rw (e1, e2) (angled_ends bs us [])
use_by b bs us x false false true e1 e2 e3 ih h =
    let g = rw (e1, e2, e3) at h in
    let v = quoted_some (text_value false bs) x g in
    rw (e1, e2, e3, text_ends bs false v.0 us v.1) refl
use_by b bs us x false false false e1 e2 e3 ih h = rw (e1, e2, e3) refl

use_value_ends : (bs us : List ℕ) (x : Bool × List ℕ) → use_value bs ≡ Some x → use_value (bs ++ 32 ∷ us) ≡ None
use_value_ends [] us x h = absurd cc
use_value_ends (b ∷ bs) us x h = use_by b bs us x (is_blank b && not_newline b) (b == 60) (b == 34) refl refl refl (λ y g. use_value_ends bs us y g) h

use_of_by : (u s e : ℕ) (bs us : List ℕ) (x : Bool × List ℕ) (c : Bool) → bytes_eq (u ∷ s ∷ e ∷ []) (codes "use") ≡ c → use_of (u ∷ s ∷ e ∷ bs) ≡ Some x → use_of (u ∷ s ∷ e ∷ bs ++ 32 ∷ us) ≡ None
use_of_by u s e bs us x true q h = let g = rw q at h in rw q (use_value_ends bs us x g)
use_of_by u s e bs us x false q h = rw q refl

pub use_ends : (bs us : List ℕ) (x : Bool × List ℕ) → use_of bs ≡ Some x → use_of (bs ++ 32 ∷ us) ≡ None
use_ends [] us x h = absurd cc
use_ends (u ∷ []) us x h = absurd cc
use_ends (u ∷ s ∷ []) us x h = absurd cc
use_ends (u ∷ s ∷ e ∷ bs) us x h = use_of_by u s e bs us x (bytes_eq (u ∷ s ∷ e ∷ []) (codes "use")) refl h

-- Slashes.

when_is : (c : Bool) (x w : Piece) → when c x ≡ Some w → x ≡ w
when_is true x w e = cc
when_is false x w e = absurd cc

no_gap : (c : Bool) (w : Piece) → when c p.Gap ≡ Some w → NotGap w → ⊥
no_gap c w e n = subst NotGap (sym (when_is c p.Gap w e)) n

-- an annotation's opening with a blank behind it is longer than one
longer_open : (mode : Mode) (bs us : List ℕ) → begins_annotation mode bs ≡ true → (begins_annotation mode (bs ++ 32 ∷ us) ≡ true) × ((length (bs ++ 32 ∷ us) == 1) ≡ false)
longer_open m.Plain [] us e = absurd cc
longer_open m.Plain (b ∷ []) us e = (e, ne_eqb _ _ (omega arith))
longer_open m.Plain (b ∷ c ∷ bs) us e = (e, ne_eqb _ _ (omega arith))
longer_open m.Line bs us e = absurd cc
longer_open m.Block bs us e = absurd cc

slash_by : (mode : Mode) (b : ℕ) (bs us : List ℕ) (what : Piece) (c1 c2 c3 a : Bool) → (b == 47) ≡ c1 → (b == 42) ≡ c2 → (b == 61) ≡ c3 → begins_annotation mode bs ≡ a → slash_of mode (b ∷ bs) ≡ Some what → NotGap what → slash_of mode (b ∷ bs ++ 32 ∷ us) ≡ None
slash_by mode b bs us what true c2 c3 true e1 e2 e3 e4 h n = let l = longer_open mode bs us e4 in rw (e1, l.0, l.1) refl
slash_by mode b bs us what true c2 c3 false e1 e2 e3 e4 h n = absurd (no_gap _ what (let g = rw (e1, e4) at h in g) n)
slash_by mode b bs us what false true c3 true e1 e2 e3 e4 h n = let l = longer_open mode bs us e4 in rw (e1, e2, l.0, l.1) refl
slash_by mode b bs us what false true c3 false e1 e2 e3 e4 h n = absurd (no_gap _ what (let g = rw (e1, e2, e4) at h in g) n)
slash_by mode b bs us what false false true a e1 e2 e3 e4 h n = rw (e1, e2, e3, not_empty bs us) refl
slash_by mode b bs us what false false false a e1 e2 e3 e4 h n = rw (e1, e2, e3) refl

pub slash_ends : (mode : Mode) (bs us : List ℕ) (what : Piece) → slash_of mode bs ≡ Some what → NotGap what → slash_of mode (bs ++ 32 ∷ us) ≡ None
slash_ends mode [] us what h n = refl
slash_ends mode (b ∷ bs) us what h n = slash_by mode b bs us what (b == 47) (b == 42) (b == 61) (begins_annotation mode bs) refl refl refl refl h n

-- All pieces.

some_of : {A : Type 0} (t : Option A) (x w : Piece) → when (is_some t) x ≡ Some w → (v : A) × (t ≡ Some v)
some_of None x w e = absurd cc
some_of (Some v) x w e = (v, refl)

letter_of : (t : Option ℕ) (w : Piece) → letter_piece t ≡ Some w → (c : ℕ) × (t ≡ Some c)
letter_of None w e = absurd cc
letter_of (Some c) w e = (c, refl)

begun_ends : (mode : Mode) (b : ℕ) (bs us : List ℕ) (what : Piece) (c1 c2 c3 c4 c5 c6 c7 c8 c9 : Bool)
    → is_blank b ≡ c1 → is_letter b ≡ c2 → is_digit b ≡ c3 → (b == 47) ≡ c4 → (b == 34) ≡ c5 → (b == 39) ≡ c6 → (b == 92) ≡ c7 → (b == 35) ≡ c8 → (b == 64) ≡ c9
    → begun_by mode b bs ≡ Some what → NotGap what → begun_by mode b (bs ++ 32 ∷ us) ≡ None
begun_ends mode b bs us what true c2 c3 c4 c5 c6 c7 c8 c9 e1 e2 e3 e4 e5 e6 e7 e8 e9 h n = rw (e1, not_empty bs us) refl
begun_ends mode b bs us what false true c3 c4 c5 c6 c7 c8 c9 e1 e2 e3 e4 e5 e6 e7 e8 e9 h n = rw (e1, e2, all_blank is_word bs us refl) refl
begun_ends mode b bs us what false false true c4 c5 c6 c7 c8 c9 e1 e2 e3 e4 e5 e6 e7 e8 e9 h n = rw (e1, e2, e3) (number_ends b bs us)
begun_ends mode b bs us what false false false true c5 c6 c7 c8 c9 e1 e2 e3 e4 e5 e6 e7 e8 e9 h n =
    let g = rw (e1, e2, e3, e4) at h in
    rw (e1, e2, e3, e4) (slash_ends mode bs us what g n)
begun_ends mode b bs us what false false false false true c6 c7 c8 c9 e1 e2 e3 e4 e5 e6 e7 e8 e9 h n =
    let g = rw (e1, e2, e3, e4, e5) at h in
    let v = some_of (text_value false bs) _ what g in
    rw (e1, e2, e3, e4, e5, text_ends bs false v.0 us v.1) refl
begun_ends mode b bs us what false false false false false true c7 c8 c9 e1 e2 e3 e4 e5 e6 e7 e8 e9 h n =
    let g = rw (e1, e2, e3, e4, e5, e6) at h in
    let v = letter_of (letter_value bs) what g in
    rw (e1, e2, e3, e4, e5, e6, letter_ends bs us v.0 v.1) refl
begun_ends mode b bs us what false false false false false false true c8 c9 e1 e2 e3 e4 e5 e6 e7 e8 e9 h n = rw (e1, e2, e3, e4, e5, e6, e7) (backslash_ends mode bs us)
begun_ends mode b bs us what false false false false false false false true c9 e1 e2 e3 e4 e5 e6 e7 e8 e9 h n =
    let g = rw (e1, e2, e3, e4, e5, e6, e7, e8) at h in
    let v = some_of (use_of bs) _ what g in
    rw (e1, e2, e3, e4, e5, e6, e7, e8, use_ends bs us v.0 v.1) refl
begun_ends mode b bs us what false false false false false false false false true e1 e2 e3 e4 e5 e6 e7 e8 e9 h n = rw (e1, e2, e3, e4, e5, e6, e7, e8, e9) (at_ends mode bs us)
begun_ends mode b bs us what false false false false false false false false false e1 e2 e3 e4 e5 e6 e7 e8 e9 h n = rw (e1, e2, e3, e4, e5, e6, e7, e8, e9) (sign_ends (b ∷ bs) us)

-- no text that goes on with a blank behind a token is a piece
pub piece_ends : (mode : Mode) (s us : List ℕ) (what : Piece) → piece_of mode s ≡ Some what → NotGap what → piece_of mode (s ++ 32 ∷ us) ≡ None
piece_ends mode [] us what h n = absurd cc
piece_ends mode (b ∷ bs) us what h n = begun_ends mode b bs us what _ _ _ _ _ _ _ _ _ refl refl refl refl refl refl refl refl refl h n

-- Cuts.

take_front : (s rest : List ℕ) → take (length s) (s ++ rest) ≡ s
take_front [] rest = refl
take_front (b ∷ s) rest = ap (λ (t : List ℕ). b ∷ t) (take_front s rest)

drop_front : (s rest : List ℕ) → drop (length s) (s ++ rest) ≡ rest
drop_front [] rest = refl
drop_front (b ∷ s) rest = drop_front s rest

take_past : (s rest : List ℕ) (n : ℕ) → length s < n → (us : List ℕ) × (take n (s ++ 32 ∷ rest) ≡ s ++ 32 ∷ us)
take_past s rest zero lt = absurd (omega arith)
take_past [] rest (suc n) lt = (take n rest, refl)
take_past (b ∷ s) rest (suc n) lt = let t = take_past s rest n (omega arith) in (t.0, ap (λ (x : List ℕ). b ∷ x) t.1)

longer_front : (s rest : List ℕ) → length s ≤ length (s ++ rest)
longer_front [] rest = omega arith
longer_front (b ∷ s) rest = omega (arith, longer_front s rest)

apart_blank : (what : Piece) (rest : List ℕ) → apart what (32 ∷ rest) ≡ true
apart_blank (p.Token (k.Number n)) rest = refl
apart_blank (p.Token (k.Infix o.Divide)) rest = refl
apart_blank _ rest = refl

not_nothing : (mode : Mode) (s : List ℕ) (what : Piece) → piece_of mode s ≡ Some what → 0 < length s
not_nothing mode [] what h = absurd cc
not_nothing mode (b ∷ s) what h = omega arith

-- A token with a blank behind it is cut as it is.
pub blank_cuts : (mode : Mode) (s rest : List ℕ) (what : Piece) → piece_of mode s ≡ Some what → NotGap what → Cut mode (s ++ 32 ∷ rest) (length s) what
blank_cuts mode s rest what h n = record {
  some = not_nothing mode s what h;
  within = longer_front s (32 ∷ rest);
  shape = rw (take_front s (32 ∷ rest)) h;
  longest = λ i lt le. let t = take_past s rest i lt in rw t.1 (piece_ends mode s t.0 what h n);
  stands = rw (drop_front s (32 ∷ rest)) (apart_blank what rest);
}

gap_longer : (mode : Mode) (rest : List ℕ) (i : ℕ) → 1 < i → i ≤ suc (length rest) → piece_of mode (take i (32 ∷ rest)) ≡ None
gap_longer mode rest zero lt le = absurd (omega arith)
gap_longer mode rest (suc zero) lt le = absurd (omega arith)
gap_longer mode [] (suc (suc i)) lt le = absurd (omega arith)
gap_longer mode (b ∷ rest) (suc (suc i)) lt le =
    let some : (length (b ∷ take i rest) == 0) ≡ false = ne_eqb _ _ (omega arith) in
    rw some refl

-- ... and then the blank
pub gap_cuts : (mode : Mode) (rest : List ℕ) → Cut mode (32 ∷ rest) 1 p.Gap
gap_cuts mode rest = record {
  some = omega arith;
  within = omega arith;
  shape = refl;
  longest = λ i lt le. gap_longer mode rest i lt le;
  stands = refl;
}
