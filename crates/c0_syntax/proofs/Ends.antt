-- A byte that may not read on with a token ends it: no longer text is a piece.
use Rattle.std.proofs.Common.{◌≡◌, ℕ, zero, suc, ◌<◌, ◌≤◌, Bool, true, false, not, ◌&&◌, ◌||◌, ◌==◌, cond, List, [], ◌∷◌, ◌++◌, length, take, drop, Option, Some, None, refl, sym, ap, subst, ◌∙◌, lit≤, arith}
use Rattle.std.proofs.lemmas.Bool.{ne_eqb, eqb-true, leb-true, le-leb}
use Rattle.std.proofs.lemmas.Slice.Eq.{bytes_eq-Decides}
use Rattle.std.specs.Str.{bytes_eq}
use Rattle.std.specs.Prelude.{codes, nat_le}
use Rattle.c0_source.specs.declared.kind.Kind.{Kind}
use Rattle.c0_source.specs.declared.kind.Kind.TheVariants as k
use Rattle.c0_source.specs.declared.kind.Mode.{Mode}
use Rattle.c0_source.specs.declared.kind.Mode.TheVariants as m
use Rattle.c0_source.specs.declared.kind.Piece.{Piece}
use Rattle.c0_source.specs.declared.kind.Piece.TheVariants as p
use Rattle.c0_source.specs.Bytes.{is_letter, is_blank, not_newline, is_digit, is_hex, is_word, is_printable, all_of, escape}
use Rattle.c0_source.specs.Laws.{NotGap}
use Rattle.c0_source.specs.Spelling.{when, with_byte, text_value, letter_value, decimal_of, hex_of, number_of, begins_annotation, slash_of, Table, lookup, signs, sign_of, backslash_of, at_of, angled, quoted, use_value, use_of, is_some, letter_piece, begun_by, piece_of}
use Rattle.c0_syntax.specs.Printing.{joins, doubles}

-- Truth values.

pub and_false : (c : Bool) → (c && false) ≡ false
and_false true = refl
and_false false = refl

pub or_false : (a b : Bool) → (a || b) ≡ false → (a ≡ false) × (b ≡ false)
or_false true b e = absurd cc
or_false false b e = (refl, e)

pub both : (a b : Bool) → (a && b) ≡ true → (a ≡ true) × (b ≡ true)
both true b e = (refl, e)
both false b e = absurd cc

pub not_both : (a b : Bool) → (a && b) ≡ false → b ≡ true → a ≡ false
not_both true b e g = absurd (let t : true ≡ false = sym g ∙ e in cc)
not_both false b e g = refl

pub opposite : (a : Bool) → a ≡ true → a ≡ false → ⊥
opposite a e g = let t : true ≡ false = sym e ∙ g in cc

-- a test that a byte fails whose kind another byte has
pub differs_by : (f : ℕ → Bool) (x c : ℕ) (r : Bool) → (x == c) ≡ r → f x ≡ false → f c ≡ true → r ≡ false
differs_by f x c true e g h = absurd (opposite (f c) h (subst (λ (y : ℕ). f y ≡ false) (eqb-true x c e) g))
differs_by f x c false e g h = refl

pub differs : (f : ℕ → Bool) (x c : ℕ) → f x ≡ false → f c ≡ true → (x == c) ≡ false
differs f x c g h = differs_by f x c (x == c) refl g h

pub all_false : (f : ℕ → Bool) (bs us : List ℕ) (x : ℕ) → f x ≡ false → all_of f (bs ++ x ∷ us) ≡ false
all_false f [] us x e = rw e refl
all_false f (b ∷ bs) us x e = let ih = all_false f bs us x e in rw ih (and_false (f b))

pub not_empty : (bs us : List ℕ) (x : ℕ) → (length (bs ++ x ∷ us) == 0) ≡ false
not_empty [] us x = ne_eqb _ _ (omega arith)
not_empty (b ∷ bs) us x = ne_eqb _ _ (omega arith)

-- What may not read on.

pub record Ending (b x : ℕ) : Type 0 where
  pub words : (is_word x && is_word b) ≡ false
  pub equals : (x == 61) ≡ false
  pub double : (doubles x && b == x) ≡ false
  pub arrow : (x == 62 && b == 45) ≡ false
  pub comment : (x == 42 && b == 47) ≡ false

pub ending : (b x : ℕ) → joins b x ≡ false → Ending b x
ending b x e =
    let q1 = or_false ((is_word x && is_word b) || x == 61 || (doubles x && b == x) || (x == 62 && b == 45)) (x == 42 && b == 47) e in
    let q2 = or_false ((is_word x && is_word b) || x == 61 || (doubles x && b == x)) (x == 62 && b == 45) q1.0 in
    let q3 = or_false ((is_word x && is_word b) || x == 61) (doubles x && b == x) q2.0 in
    let q4 = or_false (is_word x && is_word b) (x == 61) q3.0 in
    record { words = q4.0; equals = q4.1; double = q3.1; arrow = q2.1; comment = q1.1 }

-- Classes of bytes.

letter_by : (b : ℕ) (l d : Bool) → l ≡ true → (l || d) ≡ true
letter_by b true d e = refl
letter_by b false d e = absurd cc

pub letter_is_word : (b : ℕ) → is_letter b ≡ true → is_word b ≡ true
letter_is_word b e = letter_by b (is_letter b) (is_digit b) e

digit_by : (l d : Bool) → d ≡ true → (l || d) ≡ true
digit_by true d e = refl
digit_by false d e = e

pub digit_is_word : (b : ℕ) → is_digit b ≡ true → is_word b ≡ true
digit_is_word b e = digit_by (is_letter b) (is_digit b) e

-- a narrower range has no byte that a wider one hasn't
narrower : (lo hi wide x : ℕ) (a b c : Bool) → nat_le lo x ≡ a → nat_le x hi ≡ b → nat_le x wide ≡ c → hi ≤ wide → (a && c) ≡ false → (a && b) ≡ false
narrower lo hi wide x false b c e g h le q = refl
narrower lo hi wide x true false c e g h le q = refl
narrower lo hi wide x true true true e g h le q = q
narrower lo hi wide x true true false e g h le q = absurd (opposite (nat_le x wide) (le-leb x wide (omega (arith, le, leb-true x hi g))) h)

hex_if_word : (x : ℕ) → is_word x ≡ false → is_hex x ≡ false
hex_if_word x e =
    let w = or_false (is_letter x) (is_digit x) e in
    let l = or_false ((nat_le 97 x && nat_le x 122) || (nat_le 65 x && nat_le x 90)) (x == 95) w.0 in
    let u = or_false (nat_le 97 x && nat_le x 122) (nat_le 65 x && nat_le x 90) l.0 in
    let low = narrower 97 102 122 x _ _ _ refl refl refl (lit≤ tt) u.0 in
    let high = narrower 65 70 90 x _ _ _ refl refl refl (lit≤ tt) u.1 in
    rw (w.1, low, high) refl

digit_if_word : (x : ℕ) → is_word x ≡ false → is_digit x ≡ false
digit_if_word x e = (or_false (is_letter x) (is_digit x) e).1

-- Numbers.

decimal_ends : (b : ℕ) (bs us : List ℕ) (x : ℕ) → is_word x ≡ false → decimal_of b (bs ++ x ∷ us) ≡ None
decimal_ends b bs us x w = rw (all_false is_digit bs us x (digit_if_word x w)) refl

hex_ends : (bs us : List ℕ) (x : ℕ) → is_word x ≡ false → hex_of (bs ++ x ∷ us) ≡ None
hex_ends [] us x w = let e = all_false is_hex [] us x (hex_if_word x w) in rw e refl
hex_ends (b ∷ bs) us x w = let e = all_false is_hex (b ∷ bs) us x (hex_if_word x w) in rw e refl

number_by : (c : Bool) (b y : ℕ) (bs us : List ℕ) (x : ℕ) → is_word x ≡ false → cond c (hex_of (bs ++ x ∷ us)) (decimal_of b (y ∷ bs ++ x ∷ us)) ≡ None
number_by true b y bs us x w = hex_ends bs us x w
number_by false b y bs us x w = decimal_ends b (y ∷ bs) us x w

number_ends : (b : ℕ) (bs us : List ℕ) (x : ℕ) → is_word x ≡ false → number_of b (bs ++ x ∷ us) ≡ None
number_ends b [] us x w = rw (differs is_word x 120 w refl, differs is_word x 88 w refl, and_false (b == 48)) (decimal_ends b [] us x w)
number_ends b (y ∷ bs) us x w = number_by (b == 48 && (y == 120 || y == 88)) b y bs us x w

-- Texts and characters.

with_none : (o : Option ℕ) → with_byte o None ≡ None
with_none None = refl
with_none (Some b) = refl

pub with_some : (o : Option ℕ) (t : Option (List ℕ)) (v : List ℕ) → with_byte o t ≡ Some v → (b : ℕ) × (w : List ℕ) × (o ≡ Some b) × (t ≡ Some w) × (v ≡ b ∷ w)
with_some (Some b) (Some w) v e = (b, w, refl, refl, cc)
with_some (Some b) None v e = absurd cc
with_some None (Some w) v e = absurd cc
with_some None None v e = absurd cc

abbrev TextEnds : List ℕ → Type 0
TextEnds bs = (after : Bool) (v us : List ℕ) (x : ℕ) → text_value after bs ≡ Some v → text_value after (bs ++ x ∷ us) ≡ None

text_by : (b : ℕ) (bs us v : List ℕ) (x : ℕ) (c1 c2 c3 : Bool) → (b == 34) ≡ c1 → (b == 92) ≡ c2 → is_printable b ≡ c3 → TextEnds bs → text_value false (b ∷ bs) ≡ Some v → text_value false (b ∷ bs ++ x ∷ us) ≡ None
text_by b bs us v x true c2 c3 e1 e2 e3 ih h = let n = not_empty bs us x in rw (e1, n) refl
text_by b bs us v x false true c3 e1 e2 e3 ih h = let g = rw (e1, e2) at h in rw (e1, e2) (ih true v us x g)
text_by b bs us v x false false true e1 e2 e3 ih h =
    let g = rw (e1, e2, e3) at h in
    let w = with_some (Some b) (text_value false bs) v g in
    rw (e1, e2, e3, ih false w.1 us x w.3) refl
text_by b bs us v x false false false e1 e2 e3 ih h = rw (e1, e2, e3) refl

text_ends : (bs : List ℕ) → TextEnds bs
text_ends [] true v us x h = absurd cc
text_ends [] false v us x h = absurd cc
text_ends (b ∷ bs) true v us x h =
    let w = with_some (escape b) (text_value false bs) v h in
    let ih = text_ends bs false w.1 us x w.3 in
    rw ih (with_none (escape b))
text_ends (b ∷ bs) false v us x h = text_by b bs us v x (b == 34) (b == 92) (is_printable b) refl refl refl (λ after v us x h. text_ends bs after v us x h) h

-- a character that stands for itself is no `\`
plain_by : (b q c : ℕ) (r : Bool) → (b == 92) ≡ r → letter_value (b ∷ q ∷ []) ≡ Some c → (b == 92) ≡ false
plain_by b q c false e h = e
plain_by b q c true e h = absurd (let z = and_false (q == 39 && is_printable b && not (b == 39)) in let g = rw (e, z) at h in cc)

letter_ends : (bs us : List ℕ) (x c : ℕ) → letter_value bs ≡ Some c → letter_value (bs ++ x ∷ us) ≡ None
letter_ends [] us x c h = absurd cc
letter_ends (b ∷ []) us x c h = absurd cc
letter_ends (b ∷ q ∷ []) [] x c h = rw (plain_by b q c (b == 92) refl h, and_false (x == 39)) refl
letter_ends (b ∷ q ∷ []) (u ∷ us) x c h = refl
letter_ends (s ∷ b ∷ q ∷ []) us x c h = refl
letter_ends (s ∷ b ∷ q ∷ y ∷ bs) us x c h = absurd cc

-- Signs.

-- each byte behind the first reads on with it
abbrev covers : List ℕ → Bool
covers [] = true
covers (b ∷ bs) = all_of (joins b) bs

abbrev covered : Table → Bool
covered [] = true
covered (s ∷ ss) = covers s.0 && covered ss

lookup_by : (s : List ℕ × Kind) (ss : Table) (b : ℕ) (bs us : List ℕ) (x : ℕ) (c : Bool) → bytes_eq s.0 (b ∷ bs ++ x ∷ us) ≡ c → joins b x ≡ false → covers s.0 ≡ true → lookup ss (b ∷ bs ++ x ∷ us) ≡ None → lookup (s ∷ ss) (b ∷ bs ++ x ∷ us) ≡ None
lookup_by s ss b bs us x true e j g ih =
    let is = (bytes_eq-Decides s.0 (b ∷ bs ++ x ∷ us)).0 e in
    absurd (opposite (covers s.0) g (subst (λ (t : List ℕ). covers t ≡ false) (sym is) (all_false (joins b) bs us x j)))
lookup_by s ss b bs us x false e j g ih = rw e ih

lookup_ends : (ss : Table) (b : ℕ) (bs us : List ℕ) (x : ℕ) → joins b x ≡ false → covered ss ≡ true → lookup ss (b ∷ bs ++ x ∷ us) ≡ None
lookup_ends [] b bs us x j g = refl
lookup_ends (s ∷ ss) b bs us x j g =
    let q = both (covers s.0) (covered ss) g in
    lookup_by s ss b bs us x (bytes_eq s.0 (b ∷ bs ++ x ∷ us)) refl j q.0 (lookup_ends ss b bs us x j q.1)

sign_ends : (b : ℕ) (bs us : List ℕ) (x : ℕ) → joins b x ≡ false → sign_of (b ∷ bs ++ x ∷ us) ≡ None
unfolding sign_of
sign_ends b bs us x j = rw (lookup_ends signs b bs us x j refl) refl

-- Words behind `\` and `@`.

backslash_by : (bs us : List ℕ) (x : ℕ) (what : Piece) (c1 c2 : Bool) → bytes_eq bs (codes "result") ≡ c1 → bytes_eq bs (codes "length") ≡ c2 → backslash_of m.Block bs ≡ Some what → backslash_of m.Block (bs ++ x ∷ us) ≡ None
backslash_by bs us x what true c2 e1 e2 h = let is = (bytes_eq-Decides bs (codes "result")).0 e1 in subst (λ (t : List ℕ). backslash_of m.Block (t ++ x ∷ us) ≡ None) (sym is) refl
backslash_by bs us x what false true e1 e2 h = let is = (bytes_eq-Decides bs (codes "length")).0 e2 in subst (λ (t : List ℕ). backslash_of m.Block (t ++ x ∷ us) ≡ None) (sym is) refl
backslash_by bs us x what false false e1 e2 h = absurd (let g = rw (e1, e2) at h in cc)

backslash_ends : (mode : Mode) (bs us : List ℕ) (x : ℕ) (what : Piece) → backslash_of mode bs ≡ Some what → backslash_of mode (bs ++ x ∷ us) ≡ None
backslash_ends m.Plain bs us x what h = refl
backslash_ends m.Line bs us x what h = backslash_by bs us x what _ _ refl refl h
backslash_ends m.Block bs us x what h = backslash_by bs us x what _ _ refl refl h

at_by : (bs us : List ℕ) (x : ℕ) (what : Piece) (c : Bool) → bytes_eq bs (codes "*/") ≡ c → at_of m.Block bs ≡ Some what → at_of m.Block (bs ++ x ∷ us) ≡ None
at_by bs us x what true e h = let is = (bytes_eq-Decides bs (codes "*/")).0 e in subst (λ (t : List ℕ). at_of m.Block (t ++ x ∷ us) ≡ None) (sym is) refl
at_by bs us x what false e h = absurd (let g = rw e at h in cc)

at_ends : (mode : Mode) (bs us : List ℕ) (x : ℕ) (what : Piece) → at_of mode bs ≡ Some what → at_of mode (bs ++ x ∷ us) ≡ None
at_ends m.Plain bs us x what h = refl
at_ends m.Line bs us x what h = refl
at_ends m.Block bs us x what h = at_by bs us x what _ refl h

-- `#use`.

angled_by : (name : List ℕ) (b : ℕ) (bs us : List ℕ) (x : ℕ) (v : Bool × List ℕ) (c1 c2 : Bool) → (b == 62) ≡ c1 → (is_word b && not (length name == 0 && is_digit b)) ≡ c2
    → ((n : List ℕ) → angled n bs ≡ Some v → angled n (bs ++ x ∷ us) ≡ None) → angled name (b ∷ bs) ≡ Some v → angled name (b ∷ bs ++ x ∷ us) ≡ None
angled_by name b bs us x v true c2 e1 e2 ih h = rw (e1, not_empty bs us x) refl
angled_by name b bs us x v false true e1 e2 ih h = let g = rw (e1, e2) at h in rw (e1, e2) (ih (name ++ b ∷ []) g)
angled_by name b bs us x v false false e1 e2 ih h = rw (e1, e2) refl

angled_ends : (bs us : List ℕ) (x : ℕ) (v : Bool × List ℕ) (name : List ℕ) → angled name bs ≡ Some v → angled name (bs ++ x ∷ us) ≡ None
angled_ends [] us x v name h = absurd cc
angled_ends (b ∷ bs) us x v name h = angled_by name b bs us x v (b == 62) (is_word b && not (length name == 0 && is_digit b)) refl refl (λ n g. angled_ends bs us x v n g) h

pub quoted_some : (t : Option (List ℕ)) (x : Bool × List ℕ) → quoted t ≡ Some x → (v : List ℕ) × (t ≡ Some v) × (x ≡ (false, v))
quoted_some None x e = absurd cc
quoted_some (Some v) x e = (v, refl, cc)

use_by : (b : ℕ) (bs us : List ℕ) (x : ℕ) (v : Bool × List ℕ) (c1 c2 c3 : Bool) → (is_blank b && not_newline b) ≡ c1 → (b == 60) ≡ c2 → (b == 34) ≡ c3 → ((y : Bool × List ℕ) → use_value bs ≡ Some y → use_value (bs ++ x ∷ us) ≡ None)
    → use_value (b ∷ bs) ≡ Some v → use_value (b ∷ bs ++ x ∷ us) ≡ None
use_by b bs us x v true c2 c3 e1 e2 e3 ih h = let g = rw e1 at h in rw e1 (ih v g)
use_by b bs us x v false true c3 e1 e2 e3 ih h = let g = rw (e1, e2) at h in rw (e1, e2) (angled_ends bs us x v [] g)
use_by b bs us x v false false true e1 e2 e3 ih h =
    let g = rw (e1, e2, e3) at h in
    let w = quoted_some (text_value false bs) v g in
    rw (e1, e2, e3, text_ends bs false w.0 us x w.1) refl
use_by b bs us x v false false false e1 e2 e3 ih h = rw (e1, e2, e3) refl

use_value_ends : (bs us : List ℕ) (x : ℕ) (v : Bool × List ℕ) → use_value bs ≡ Some v → use_value (bs ++ x ∷ us) ≡ None
use_value_ends [] us x v h = absurd cc
use_value_ends (b ∷ bs) us x v h = use_by b bs us x v (is_blank b && not_newline b) (b == 60) (b == 34) refl refl refl (λ y g. use_value_ends bs us x y g) h

use_of_by : (u s e : ℕ) (bs us : List ℕ) (x : ℕ) (v : Bool × List ℕ) (c : Bool) → bytes_eq (u ∷ s ∷ e ∷ []) (codes "use") ≡ c → use_of (u ∷ s ∷ e ∷ bs) ≡ Some v → use_of (u ∷ s ∷ e ∷ bs ++ x ∷ us) ≡ None
use_of_by u s e bs us x v true q h = let g = rw q at h in rw q (use_value_ends bs us x v g)
use_of_by u s e bs us x v false q h = rw q refl

use_ends : (bs us : List ℕ) (x : ℕ) (v : Bool × List ℕ) → use_of bs ≡ Some v → use_of (bs ++ x ∷ us) ≡ None
use_ends [] us x v h = absurd cc
use_ends (u ∷ []) us x v h = absurd cc
use_ends (u ∷ s ∷ []) us x v h = absurd cc
use_ends (u ∷ s ∷ e ∷ bs) us x v h = use_of_by u s e bs us x v (bytes_eq (u ∷ s ∷ e ∷ []) (codes "use")) refl h

-- Slashes.

pub when_is : (c : Bool) (x w : Piece) → when c x ≡ Some w → (c ≡ true) × (x ≡ w)
when_is true x w e = (refl, cc)
when_is false x w e = absurd cc

no_gap : (c : Bool) (w : Piece) → when c p.Gap ≡ Some w → NotGap w → ⊥
no_gap c w e n = subst NotGap (sym (when_is c p.Gap w e).1) n

-- an annotation's opening with a byte behind it is longer than one
longer_open : (mode : Mode) (bs us : List ℕ) (x : ℕ) → begins_annotation mode bs ≡ true → (begins_annotation mode (bs ++ x ∷ us) ≡ true) × ((length (bs ++ x ∷ us) == 1) ≡ false)
longer_open m.Plain [] us x e = absurd cc
longer_open m.Plain (b ∷ []) us x e = (e, ne_eqb _ _ (omega arith))
longer_open m.Plain (b ∷ c ∷ bs) us x e = (e, ne_eqb _ _ (omega arith))
longer_open m.Line bs us x e = absurd cc
longer_open m.Block bs us x e = absurd cc

slash_by : (mode : Mode) (b : ℕ) (bs us : List ℕ) (x : ℕ) (what : Piece) (c1 c2 c3 a : Bool) → (b == 47) ≡ c1 → (b == 42) ≡ c2 → (b == 61) ≡ c3 → begins_annotation mode bs ≡ a → slash_of mode (b ∷ bs) ≡ Some what → NotGap what → slash_of mode (b ∷ bs ++ x ∷ us) ≡ None
slash_by mode b bs us x what true c2 c3 true e1 e2 e3 e4 h n = let l = longer_open mode bs us x e4 in rw (e1, l.0, l.1) refl
slash_by mode b bs us x what true c2 c3 false e1 e2 e3 e4 h n = absurd (no_gap _ what (let g = rw (e1, e4) at h in g) n)
slash_by mode b bs us x what false true c3 true e1 e2 e3 e4 h n = let l = longer_open mode bs us x e4 in rw (e1, e2, l.0, l.1) refl
slash_by mode b bs us x what false true c3 false e1 e2 e3 e4 h n = absurd (no_gap _ what (let g = rw (e1, e2, e4) at h in g) n)
slash_by mode b bs us x what false false true a e1 e2 e3 e4 h n = rw (e1, e2, e3, not_empty bs us x) refl
slash_by mode b bs us x what false false false a e1 e2 e3 e4 h n = rw (e1, e2, e3) refl

slash_ends : (mode : Mode) (bs us : List ℕ) (x : ℕ) (what : Piece) → joins 47 x ≡ false → slash_of mode bs ≡ Some what → NotGap what → slash_of mode (bs ++ x ∷ us) ≡ None
slash_ends mode [] us x what j h n = rw (differs (joins 47) x 47 j refl, differs (joins 47) x 42 j refl, differs (joins 47) x 61 j refl) refl
slash_ends mode (b ∷ bs) us x what j h n = slash_by mode b bs us x what (b == 47) (b == 42) (b == 61) (begins_annotation mode bs) refl refl refl refl h n

-- All pieces.

pub some_of : {A : Type 0} (t : Option A) (x w : Piece) → when (is_some t) x ≡ Some w → (v : A) × (t ≡ Some v) × (x ≡ w)
some_of None x w e = absurd cc
some_of (Some v) x w e = (v, refl, cc)

pub letter_of : (t : Option ℕ) (w : Piece) → letter_piece t ≡ Some w → (c : ℕ) × (t ≡ Some c) × (w ≡ p.Token (k.Character c))
letter_of None w e = absurd cc
letter_of (Some c) w e = (c, refl, cc)

begun_ends : (mode : Mode) (b : ℕ) (bs us : List ℕ) (x : ℕ) (what : Piece) (c1 c2 c3 c4 c5 c6 c7 c8 c9 : Bool)
    → is_blank b ≡ c1 → is_letter b ≡ c2 → is_digit b ≡ c3 → (b == 47) ≡ c4 → (b == 34) ≡ c5 → (b == 39) ≡ c6 → (b == 92) ≡ c7 → (b == 35) ≡ c8 → (b == 64) ≡ c9
    → joins b x ≡ false → begun_by mode b bs ≡ Some what → NotGap what → begun_by mode b (bs ++ x ∷ us) ≡ None
begun_ends mode b bs us x what true c2 c3 c4 c5 c6 c7 c8 c9 e1 e2 e3 e4 e5 e6 e7 e8 e9 j h n = rw (e1, not_empty bs us x) refl
begun_ends mode b bs us x what false true c3 c4 c5 c6 c7 c8 c9 e1 e2 e3 e4 e5 e6 e7 e8 e9 j h n =
    let w = not_both (is_word x) (is_word b) (ending b x j).words (letter_is_word b e2) in
    rw (e1, e2, all_false is_word bs us x w) refl
begun_ends mode b bs us x what false false true c4 c5 c6 c7 c8 c9 e1 e2 e3 e4 e5 e6 e7 e8 e9 j h n =
    let w = not_both (is_word x) (is_word b) (ending b x j).words (digit_is_word b e3) in
    rw (e1, e2, e3) (number_ends b bs us x w)
begun_ends mode b bs us x what false false false true c5 c6 c7 c8 c9 e1 e2 e3 e4 e5 e6 e7 e8 e9 j h n =
    let g = rw (e1, e2, e3, e4) at h in
    let slash = subst (λ (y : ℕ). joins y x ≡ false) (eqb-true b 47 e4) j in
    rw (e1, e2, e3, e4) (slash_ends mode bs us x what slash g n)
begun_ends mode b bs us x what false false false false true c6 c7 c8 c9 e1 e2 e3 e4 e5 e6 e7 e8 e9 j h n =
    let g = rw (e1, e2, e3, e4, e5) at h in
    let v = some_of (text_value false bs) _ what g in
    rw (e1, e2, e3, e4, e5, text_ends bs false v.0 us x v.1) refl
begun_ends mode b bs us x what false false false false false true c7 c8 c9 e1 e2 e3 e4 e5 e6 e7 e8 e9 j h n =
    let g = rw (e1, e2, e3, e4, e5, e6) at h in
    let v = letter_of (letter_value bs) what g in
    rw (e1, e2, e3, e4, e5, e6, letter_ends bs us x v.0 v.1) refl
begun_ends mode b bs us x what false false false false false false true c8 c9 e1 e2 e3 e4 e5 e6 e7 e8 e9 j h n =
    let g = rw (e1, e2, e3, e4, e5, e6, e7) at h in
    rw (e1, e2, e3, e4, e5, e6, e7) (backslash_ends mode bs us x what g)
begun_ends mode b bs us x what false false false false false false false true c9 e1 e2 e3 e4 e5 e6 e7 e8 e9 j h n =
    let g = rw (e1, e2, e3, e4, e5, e6, e7, e8) at h in
    let v = some_of (use_of bs) _ what g in
    rw (e1, e2, e3, e4, e5, e6, e7, e8, use_ends bs us x v.0 v.1) refl
begun_ends mode b bs us x what false false false false false false false false true e1 e2 e3 e4 e5 e6 e7 e8 e9 j h n =
    let g = rw (e1, e2, e3, e4, e5, e6, e7, e8, e9) at h in
    rw (e1, e2, e3, e4, e5, e6, e7, e8, e9) (at_ends mode bs us x what g)
begun_ends mode b bs us x what false false false false false false false false false e1 e2 e3 e4 e5 e6 e7 e8 e9 j h n = rw (e1, e2, e3, e4, e5, e6, e7, e8, e9) (sign_ends b bs us x j)

-- no text that goes on behind a token with a byte that may not read on is a piece
pub piece_ends : (mode : Mode) (b : ℕ) (bs us : List ℕ) (x : ℕ) (what : Piece) → joins b x ≡ false → piece_of mode (b ∷ bs) ≡ Some what → NotGap what → piece_of mode (b ∷ bs ++ x ∷ us) ≡ None
piece_ends mode b bs us x what j h n = begun_ends mode b bs us x what _ _ _ _ _ _ _ _ _ refl refl refl refl refl refl refl refl refl j h n

-- Cuts.

pub take_front : (s rest : List ℕ) → take (length s) (s ++ rest) ≡ s
take_front [] rest = refl
take_front (b ∷ s) rest = ap (λ (t : List ℕ). b ∷ t) (take_front s rest)

pub drop_front : (s rest : List ℕ) → drop (length s) (s ++ rest) ≡ rest
drop_front [] rest = refl
drop_front (b ∷ s) rest = drop_front s rest

pub take_past : (s rest : List ℕ) (x n : ℕ) → length s < n → (us : List ℕ) × (take n (s ++ x ∷ rest) ≡ s ++ x ∷ us)
take_past s rest x zero lt = absurd (omega arith)
take_past [] rest x (suc n) lt = (take n rest, refl)
take_past (b ∷ s) rest x (suc n) lt = let t = take_past s rest x n (omega arith) in (t.0, ap (λ (y : List ℕ). b ∷ y) t.1)

pub longer_front : (s rest : List ℕ) → length s ≤ length (s ++ rest)
longer_front [] rest = omega arith
longer_front (b ∷ s) rest = omega (arith, longer_front s rest)
