-- Each token of a text is read again from what is written of it.
use Rattle.std.proofs.Common.{◌≡◌, ℕ, ◌^◌, ◌<◌, Bool, true, false, not, ◌&&◌, ◌||◌, ◌==◌, cond, List, [], ◌∷◌, ◌++◌, length, drop, Option, Some, None, refl, sym, ap, subst, ◌∙◌, arith}
use Rattle.std.proofs.lemmas.Bool.{eqb-true, leb-true, ltb-true}
use Rattle.std.proofs.lemmas.List.{append_assoc}
use Rattle.std.proofs.lemmas.Slice.Eq.{bytes_eq-Decides}
use Rattle.std.specs.Str.{bytes_eq}
use Rattle.std.specs.Prelude.{codes, nat_le, nat_lt}
use Rattle.c0_source.specs.declared.kind.Kind.{Kind}
use Rattle.c0_source.specs.declared.kind.Kind.TheVariants as k
use Rattle.c0_source.specs.declared.kind.Operator.TheVariants as o
use Rattle.c0_source.specs.declared.kind.Mode.{Mode}
use Rattle.c0_source.specs.declared.kind.Mode.TheVariants as m
use Rattle.c0_source.specs.declared.kind.Piece.{Piece}
use Rattle.c0_source.specs.declared.kind.Piece.TheVariants as p
use Rattle.c0_source.specs.Bytes.{is_letter, is_blank, not_newline, is_digit, is_hex, is_word, all_of}
use Rattle.c0_source.specs.Spelling.{when, text_value, letter_value, value_from, hex_from, decimal_of, hex_of, number_of, begins_annotation, slash_of, Table, lookup, or_name, words_of, word_kind, signs, sign_of, token_of, backslash_of, at_of, angled, quoted, use_value, use_of, is_some, letter_piece, newline_of, closes, begun_by, piece_of, apart}
use Rattle.c0_source.specs.Terminals.{Sign, terminal_by}
use Rattle.c0_syntax.specs.Spellings.{spelling, kind_text, number_text, use_text, all_escaped}
use Rattle.c0_syntax.specs.Printing.{joins, first_of}
use Rattle.c0_syntax.proofs.Ends.{both, not_both, differs, digit_is_word, ending, when_is, some_of, letter_of, quoted_some}
use Rattle.c0_syntax.proofs.Numbers.{number_written}
use Rattle.c0_syntax.proofs.Texts.{text_written, held, character_written, letter_held}

-- the mode in which a token is written: an annotation of a line becomes one that `@*/` ends
abbrev pub blocked : Mode → Mode
blocked m.Plain = m.Plain
blocked _ = m.Block

-- what is written of a token of this kind and text is read as the token
pub record Again (mode : Mode) (kind : Kind) (s : List ℕ) : Type 0 where
  pub shape : piece_of mode (spelling (terminal_by kind s)) ≡ Some (p.Token kind)
  pub same : terminal_by kind (spelling (terminal_by kind s)) ≡ terminal_by kind s
  pub stands : (x : ℕ) (us : List ℕ) → joins (first_of (spelling (terminal_by kind s))) x ≡ false → apart (p.Token kind) (x ∷ us) ≡ true

-- ... of a piece; an annotation opens outside of annotations alone
abbrev pub Rewritten : Mode → List ℕ → Piece → Type 0
Rewritten mode s p.Gap = Unit {0}
Rewritten mode s (p.Opens next) = (mode ≡ m.Plain) × (blocked next ≡ m.Block)
Rewritten mode s (p.Token kind) = Again (blocked mode) kind s

become : (mode : Mode) (s : List ℕ) (kind : Kind) (what : Piece) → Again (blocked mode) kind s → p.Token kind ≡ what → Rewritten mode s what
become mode s kind what a e = subst (Rewritten mode s) e a

-- Words and signs of tables.

-- no kind whose tokens differ in their bytes, and none that something may not follow
abbrev free : Kind → Bool
free k.Name = false
free k.Text = false
free k.Use = false
free (k.Number n) = false
free (k.Infix o.Divide) = false
free _ = true

free_sign : (kind : Kind) (s : List ℕ) → free kind ≡ true → terminal_by kind s ≡ Sign kind
free_sign k.Name s e = absurd cc
free_sign k.Text s e = absurd cc
free_sign k.Use s e = absurd cc
free_sign _ s e = refl

free_apart : (kind : Kind) (rest : List ℕ) → free kind ≡ true → apart (p.Token kind) rest ≡ true
free_apart (k.Number n) rest e = absurd cc
free_apart (k.Infix o.Divide) rest e = absurd cc
free_apart _ rest e = refl

abbrev faithful : Table → Bool
faithful [] = true
faithful (e ∷ es) = (bytes_eq (kind_text e.1) e.0 && free e.1) && faithful es

-- a token that is written as it stood
record Kept (kind : Kind) (s : List ℕ) : Type 0 where
  spelled : spelling (terminal_by kind s) ≡ s
  stands : (rest : List ℕ) → apart (p.Token kind) rest ≡ true

kept_free : (kind : Kind) (s : List ℕ) → kind_text kind ≡ s → free kind ≡ true → Kept kind s
kept_free kind s e f = record { spelled = ap spelling (free_sign kind s f) ∙ e; stands = λ rest. free_apart kind rest f }

found_by : (w : List ℕ) (one kind : Kind) (ss : Table) (s : List ℕ) (c : Bool) → bytes_eq w s ≡ c → bytes_eq (kind_text one) w ≡ true → free one ≡ true → cond c (Some one) (lookup ss s) ≡ Some kind → (lookup ss s ≡ Some kind → Kept kind s) → Kept kind s
found_by w one kind ss s true e g f h ih =
    let is : one ≡ kind = cc in
    let spelled : kind_text one ≡ s = (bytes_eq-Decides (kind_text one) w).0 g ∙ (bytes_eq-Decides w s).0 e in
    subst (λ (x : Kind). Kept x s) is (kept_free one s spelled f)
found_by w one kind ss s false e g f h ih = ih h

found : (ss : Table) (s : List ℕ) (kind : Kind) → faithful ss ≡ true → lookup ss s ≡ Some kind → Kept kind s
found [] s kind f h = absurd cc
found (e ∷ es) s kind f h =
    let q = both (bytes_eq (kind_text e.1) e.0 && free e.1) (faithful es) f in
    let r = both (bytes_eq (kind_text e.1) e.0) (free e.1) q.0 in
    found_by e.0 e.1 kind es s (bytes_eq e.0 s) refl r.0 r.1 h (λ g. found es s kind q.1 g)

faithful_words : (mode : Mode) → faithful (words_of mode) ≡ true
faithful_words m.Plain = refl
faithful_words m.Line = refl
faithful_words m.Block = refl

word_by : (s : List ℕ) (mode : Mode) (r : Option Kind) → lookup (words_of mode) s ≡ r → Kept (or_name r) s
word_by s mode None e = record { spelled = refl; stands = λ rest. refl }
word_by s mode (Some kind) e = found (words_of mode) s kind (faithful_words mode) e

word_kept : (mode : Mode) (s : List ℕ) → Kept (word_kind mode s) s
unfolding word_kind
word_kept mode s = word_by s mode (lookup (words_of mode) s) refl

same_words : (mode : Mode) (s : List ℕ) → word_kind (blocked mode) s ≡ word_kind mode s
unfolding word_kind
same_words m.Plain s = refl
same_words m.Line s = refl
same_words m.Block s = refl

again_kept : (mode : Mode) (kind : Kind) (s : List ℕ) → Kept kind s → piece_of mode s ≡ Some (p.Token kind) → Again mode kind s
again_kept mode kind s c h = record {
  shape = subst (λ (t : List ℕ). piece_of mode t ≡ Some (p.Token kind)) (sym c.spelled) h;
  same = ap (terminal_by kind) c.spelled;
  stands = λ x us j. c.stands (x ∷ us);
}

word_piece : (mode : Mode) (b : ℕ) (bs : List ℕ) → is_blank b ≡ false → is_letter b ≡ true → all_of is_word bs ≡ true → piece_of mode (b ∷ bs) ≡ Some (p.Token (word_kind mode (b ∷ bs)))
word_piece mode b bs e1 e2 e3 = rw (e1, e2, e3) refl

word_again : (mode : Mode) (b : ℕ) (bs : List ℕ) → is_blank b ≡ false → is_letter b ≡ true → all_of is_word bs ≡ true → Again (blocked mode) (word_kind mode (b ∷ bs)) (b ∷ bs)
word_again mode b bs e1 e2 e3 =
    subst (λ (kind : Kind). Again (blocked mode) kind (b ∷ bs)) (same_words mode (b ∷ bs))
    (again_kept (blocked mode) (word_kind (blocked mode) (b ∷ bs)) (b ∷ bs) (word_kept (blocked mode) (b ∷ bs)) (word_piece (blocked mode) b bs e1 e2 e3))

sign_by : (s : List ℕ) (r : Option Kind) (what : Piece) → lookup signs s ≡ r → token_of r ≡ Some what → (kind : Kind) × (p.Token kind ≡ what) × Kept kind s
sign_by s None what e h = absurd cc
sign_by s (Some kind) what e h = (kind, cc, found signs s kind refl e)

sign_kept : (s : List ℕ) (what : Piece) → sign_of s ≡ Some what → (kind : Kind) × (p.Token kind ≡ what) × Kept kind s
unfolding sign_of
sign_kept s what h = sign_by s (lookup signs s) what refl h

-- Numbers.

number_again : (mode : Mode) (n : ℕ) (s : List ℕ) → n < 2 ^ 32 → Again mode (k.Number n) s
number_again mode n s h =
    let w = number_written mode n h in
    record {
      shape = w.0;
      same = refl;
      stands = λ x us j. let e = not_both (is_word x) (is_word (first_of (number_text n))) (ending (first_of (number_text n)) x j).words (digit_is_word (first_of (number_text n)) w.1) in rw e refl;
    }

abbrev IsNumber : Piece → Type 0
IsNumber what = (n : ℕ) × (p.Token (k.Number n) ≡ what) × (n < 2 ^ 32)

number_if : (c : Bool) (n : ℕ) (what : Piece) → (c ≡ true → n < 2 ^ 32) → cond c (Some (p.Token (k.Number n))) None ≡ Some what → IsNumber what
number_if true n what f h = (n, cc, f refl)
number_if false n what f h = absurd cc

decimal_small : (b : ℕ) (bs : List ℕ) (what : Piece) → decimal_of b bs ≡ Some what → IsNumber what
decimal_small b bs what h =
    number_if (all_of is_digit bs && (not (b == 48) || length bs == 0) && nat_le (value_from 0 (b ∷ bs)) (2 ^ 31)) (value_from 0 (b ∷ bs)) what
    (λ e. let q = both (all_of is_digit bs && (not (b == 48) || length bs == 0)) (nat_le (value_from 0 (b ∷ bs)) (2 ^ 31)) e in omega (arith, leb-true (value_from 0 (b ∷ bs)) (2 ^ 31) q.1)) h

hex_small : (bs : List ℕ) (what : Piece) → hex_of bs ≡ Some what → IsNumber what
hex_small [] what h = absurd cc
hex_small (b ∷ bs) what h =
    number_if (all_of is_hex (b ∷ bs) && nat_lt (hex_from 0 (b ∷ bs)) (2 ^ 32)) (hex_from 0 (b ∷ bs)) what
    (λ e. let q = both (all_of is_hex (b ∷ bs)) (nat_lt (hex_from 0 (b ∷ bs)) (2 ^ 32)) e in ltb-true (hex_from 0 (b ∷ bs)) (2 ^ 32) q.1) h

small_by : (c : Bool) (b x : ℕ) (bs : List ℕ) (what : Piece) → cond c (hex_of bs) (decimal_of b (x ∷ bs)) ≡ Some what → IsNumber what
small_by true b x bs what h = hex_small bs what h
small_by false b x bs what h = decimal_small b (x ∷ bs) what h

number_small : (b : ℕ) (bs : List ℕ) (what : Piece) → number_of b bs ≡ Some what → IsNumber what
number_small b [] what h = decimal_small b [] what h
number_small b (x ∷ bs) what h = small_by (b == 48 && (x == 120 || x == 88)) b x bs what h

-- Texts, characters, `#use`.

when_some : {A : Type 0} (t : Option A) (v : A) (what : Piece) → t ≡ Some v → when (is_some t) what ≡ Some what
when_some None v what e = absurd cc
when_some (Some x) v what e = refl

text_again : (mode : Mode) (bs v : List ℕ) → text_value false bs ≡ Some v → Again mode k.Text (34 ∷ bs)
text_again mode bs v e =
    let w = text_written v (held bs false v e) in
    record {
      shape = rw e (when_some (text_value false (all_escaped v ++ 34 ∷ [])) v (p.Token k.Text) w);
      same = rw (e, w) refl;
      stands = λ x us j. refl;
    }

character_again : (mode : Mode) (bs s : List ℕ) (c : ℕ) → letter_value bs ≡ Some c → Again mode (k.Character c) s
character_again mode bs s c e =
    let w = character_written c (letter_held bs c e) in
    record { shape = ap letter_piece w; same = refl; stands = λ x us j. refl }

abbrev UseAgain : Bool × List ℕ → Type 0
UseAgain v = use_of (drop 1 (use_text v.0 v.1)) ≡ Some v

append_nothing : (name : List ℕ) → name ++ [] ≡ name
append_nothing [] = refl
append_nothing (b ∷ name) = ap (λ (t : List ℕ). b ∷ t) (append_nothing name)

-- a name that `>` ended is a name that `>` ends
abbrev NameAgain : List ℕ → Bool × List ℕ → Type 0
NameAgain name v = (tail : List ℕ) × (v ≡ (true, name ++ tail)) × (angled name (tail ++ 62 ∷ []) ≡ Some (true, name ++ tail))

ended_by : (name : List ℕ) (v : Bool × List ℕ) (c : Bool) (d : Bool) → (length name == 0) ≡ d → cond (c && not d) (Some (true, name)) None ≡ Some v → NameAgain name v
ended_by name v true true e h = absurd cc
ended_by name v true false e h =
    let is : v ≡ (true, name) = cc in
    ([], is ∙ ap (λ (t : List ℕ). (true, t)) (sym (append_nothing name)), let nothing = append_nothing name in rw (e, nothing) refl)
ended_by name v false d e h = absurd cc

name_further : (name : List ℕ) (b : ℕ) (v : Bool × List ℕ) → (b == 62) ≡ false → (is_word b && not (length name == 0 && is_digit b)) ≡ true → NameAgain (name ++ b ∷ []) v → NameAgain name v
name_further name b v e1 e2 r =
    let whole = append_assoc name (b ∷ []) r.0 in
    (b ∷ r.0, r.1 ∙ ap (λ (t : List ℕ). (true, t)) whole, rw (e1, e2) (r.2 ∙ ap (λ (t : List ℕ). Some (true, t)) whole))

name_by : (name : List ℕ) (b : ℕ) (bs : List ℕ) (v : Bool × List ℕ) (c1 c2 : Bool) → (b == 62) ≡ c1 → (is_word b && not (length name == 0 && is_digit b)) ≡ c2
    → ((n : List ℕ) → angled n bs ≡ Some v → NameAgain n v) → angled name (b ∷ bs) ≡ Some v → NameAgain name v
name_by name b bs v true c2 e1 e2 ih h = let g = rw e1 at h in ended_by name v (length bs == 0) (length name == 0) refl g
name_by name b bs v false true e1 e2 ih h =
    let g = rw (e1, e2) at h in name_further name b v e1 e2 (ih (name ++ b ∷ []) g)
name_by name b bs v false false e1 e2 ih h = absurd (let g = rw (e1, e2) at h in cc)

name_again : (bs : List ℕ) (v : Bool × List ℕ) (name : List ℕ) → angled name bs ≡ Some v → NameAgain name v
name_again [] v name h = absurd cc
name_again (b ∷ bs) v name h = name_by name b bs v (b == 62) (is_word b && not (length name == 0 && is_digit b)) refl refl (λ n g. name_again bs v n g) h

use_name : (v : Bool × List ℕ) → NameAgain [] v → UseAgain v
use_name v r = subst UseAgain (sym r.1) r.2

use_quoted : (bs v : List ℕ) → text_value false bs ≡ Some v → UseAgain (false, v)
use_quoted bs v e = ap quoted (text_written v (held bs false v e))

value_by : (b : ℕ) (bs : List ℕ) (v : Bool × List ℕ) (c1 c2 c3 : Bool) → (is_blank b && not_newline b) ≡ c1 → (b == 60) ≡ c2 → (b == 34) ≡ c3 → (use_value bs ≡ Some v → UseAgain v) → use_value (b ∷ bs) ≡ Some v → UseAgain v
value_by b bs v true c2 c3 e1 e2 e3 ih h = let g = rw e1 at h in ih g
value_by b bs v false true c3 e1 e2 e3 ih h = let g = rw (e1, e2) at h in use_name v (name_again bs v [] g)
value_by b bs v false false true e1 e2 e3 ih h =
    let g = rw (e1, e2, e3) at h in
    let w = quoted_some (text_value false bs) v g in
    subst UseAgain (sym w.2) (use_quoted bs w.0 w.1)
value_by b bs v false false false e1 e2 e3 ih h = absurd (let g = rw (e1, e2, e3) at h in cc)

value_again : (bs : List ℕ) (v : Bool × List ℕ) → use_value bs ≡ Some v → UseAgain v
value_again [] v h = absurd cc
value_again (b ∷ bs) v h = value_by b bs v (is_blank b && not_newline b) (b == 60) (b == 34) refl refl refl (λ g. value_again bs v g) h

use_by : (u s e : ℕ) (bs : List ℕ) (v : Bool × List ℕ) (c : Bool) → bytes_eq (u ∷ s ∷ e ∷ []) (codes "use") ≡ c → use_of (u ∷ s ∷ e ∷ bs) ≡ Some v → UseAgain v
use_by u s e bs v true q h = let g = rw q at h in value_again bs v g
use_by u s e bs v false q h = absurd (let g = rw q at h in cc)

use_again_of : (bs : List ℕ) (v : Bool × List ℕ) → use_of bs ≡ Some v → UseAgain v
use_again_of [] v h = absurd cc
use_again_of (u ∷ []) v h = absurd cc
use_again_of (u ∷ s ∷ []) v h = absurd cc
use_again_of (u ∷ s ∷ e ∷ bs) v h = use_by u s e bs v (bytes_eq (u ∷ s ∷ e ∷ []) (codes "use")) refl h

use_shape : (mode : Mode) (angle : Bool) (x : List ℕ) (v : Bool × List ℕ) → use_of (drop 1 (use_text angle x)) ≡ Some v → piece_of mode (use_text angle x) ≡ Some (p.Token k.Use)
use_shape mode true x v h = when_some (use_of (drop 1 (use_text true x))) v (p.Token k.Use) h
use_shape mode false x v h = when_some (use_of (drop 1 (use_text false x))) v (p.Token k.Use) h

use_again : (mode : Mode) (bs : List ℕ) (v : Bool × List ℕ) → use_of bs ≡ Some v → Again mode k.Use (35 ∷ bs)
use_again mode bs v e =
    let w = use_again_of bs v e in
    record {
      shape = rw e (use_shape mode v.0 v.1 v w);
      same = rw (e, w) refl;
      stands = λ x us j. refl;
    }

-- Tokens that are always written in one way.

end_again : (s : List ℕ) → Again m.Block k.End s
end_again s = record { shape = refl; same = refl; stands = λ x us j. refl }

divide_again : (mode : Mode) (s : List ℕ) → Again mode (k.Infix o.Divide) s
divide_again mode s = record { shape = refl; same = refl; stands = λ x us j. let e = differs (joins 47) x 42 j refl in rw e refl }

divided_again : (mode : Mode) (s : List ℕ) → Again mode (k.Update o.Divide) s
divided_again mode s = record { shape = refl; same = refl; stands = λ x us j. refl }

result_again : (s : List ℕ) → Again m.Block k.Result s
result_again s = record { shape = refl; same = refl; stands = λ x us j. refl }

length_again : (s : List ℕ) → Again m.Block k.Length s
length_again s = record { shape = refl; same = refl; stands = λ x us j. refl }

-- All pieces.

blank_by : (mode : Mode) (s : List ℕ) (a c : Bool) (what : Piece) → when a (cond c (newline_of mode) p.Gap) ≡ Some what → Rewritten mode s what
blank_by m.Line s true true what h = become m.Line s k.End what (end_again s) cc
blank_by m.Plain s true true what h = let e : p.Gap ≡ what = cc in subst (Rewritten m.Plain s) e tt
blank_by m.Block s true true what h = let e : p.Gap ≡ what = cc in subst (Rewritten m.Block s) e tt
blank_by mode s true false what h = let e : p.Gap ≡ what = cc in subst (Rewritten mode s) e tt
blank_by mode s false c what h = absurd cc

opens_by : (mode : Mode) (s bs : List ℕ) (next : Mode) (what : Piece) → begins_annotation mode bs ≡ true → blocked next ≡ m.Block → p.Opens next ≡ what → Rewritten mode s what
opens_by m.Plain s bs next what e n is = subst (Rewritten m.Plain s) is (refl, n)
opens_by m.Line s bs next what e n is = absurd cc
opens_by m.Block s bs next what e n is = absurd cc

slash_by : (mode : Mode) (s : List ℕ) (b : ℕ) (bs : List ℕ) (what : Piece) (c1 c2 c3 a : Bool) → (b == 47) ≡ c1 → (b == 42) ≡ c2 → (b == 61) ≡ c3 → begins_annotation mode bs ≡ a → slash_of mode (b ∷ bs) ≡ Some what → Rewritten mode s what
slash_by mode s b bs what true c2 c3 true e1 e2 e3 e4 h = let g = rw (e1, e4) at h in opens_by mode s bs m.Line what e4 refl (when_is (length bs == 1) (p.Opens m.Line) what g).1
slash_by mode s b bs what true c2 c3 false e1 e2 e3 e4 h = let g = rw (e1, e4) at h in subst (Rewritten mode s) (when_is (all_of not_newline bs) p.Gap what g).1 tt
slash_by mode s b bs what false true c3 true e1 e2 e3 e4 h = let g = rw (e1, e2, e4) at h in opens_by mode s bs m.Block what e4 refl (when_is (length bs == 1) (p.Opens m.Block) what g).1
slash_by mode s b bs what false true c3 false e1 e2 e3 e4 h = let g = rw (e1, e2, e4) at h in subst (Rewritten mode s) (when_is (closes 0 0 bs) p.Gap what g).1 tt
slash_by mode s b bs what false false true a e1 e2 e3 e4 h =
    let g = rw (e1, e2, e3) at h in become mode s (k.Update o.Divide) what (divided_again (blocked mode) s) (when_is (length bs == 0) (p.Token (k.Update o.Divide)) what g).1
slash_by mode s b bs what false false false a e1 e2 e3 e4 h = absurd (let g = rw (e1, e2, e3) at h in cc)

slash_rewritten : (mode : Mode) (s bs : List ℕ) (what : Piece) → slash_of mode bs ≡ Some what → Rewritten mode s what
slash_rewritten mode s [] what h = become mode s (k.Infix o.Divide) what (divide_again (blocked mode) s) cc
slash_rewritten mode s (b ∷ bs) what h = slash_by mode s b bs what (b == 47) (b == 42) (b == 61) (begins_annotation mode bs) refl refl refl refl h

backslash_if : (mode : Mode) (s : List ℕ) (c d : Bool) (what : Piece) → blocked mode ≡ m.Block → cond c (Some (p.Token k.Result)) (when d (p.Token k.Length)) ≡ Some what → Rewritten mode s what
backslash_if mode s true d what e h = become mode s k.Result what (subst (λ (x : Mode). Again x k.Result s) (sym e) (result_again s)) cc
backslash_if mode s false d what e h = become mode s k.Length what (subst (λ (x : Mode). Again x k.Length s) (sym e) (length_again s)) (when_is d (p.Token k.Length) what h).1

backslash_rewritten : (mode : Mode) (s bs : List ℕ) (what : Piece) → backslash_of mode bs ≡ Some what → Rewritten mode s what
backslash_rewritten m.Plain s bs what h = absurd cc
backslash_rewritten m.Line s bs what h = backslash_if m.Line s (bytes_eq bs (codes "result")) (bytes_eq bs (codes "length")) what refl h
backslash_rewritten m.Block s bs what h = backslash_if m.Block s (bytes_eq bs (codes "result")) (bytes_eq bs (codes "length")) what refl h

at_rewritten : (mode : Mode) (s bs : List ℕ) (what : Piece) → at_of mode bs ≡ Some what → Rewritten mode s what
at_rewritten m.Plain s bs what h = absurd cc
at_rewritten m.Line s bs what h = absurd cc
at_rewritten m.Block s bs what h = become m.Block s k.End what (end_again s) (when_is (bytes_eq bs (codes "*/")) (p.Token k.End) what h).1

sign_rewritten : (mode : Mode) (b : ℕ) (bs : List ℕ) (what : Piece)
    → is_blank b ≡ false → is_letter b ≡ false → is_digit b ≡ false → (b == 47) ≡ false → (b == 34) ≡ false → (b == 39) ≡ false → (b == 92) ≡ false → (b == 35) ≡ false → (b == 64) ≡ false
    → sign_of (b ∷ bs) ≡ Some what → Rewritten mode (b ∷ bs) what
sign_rewritten mode b bs what e1 e2 e3 e4 e5 e6 e7 e8 e9 g =
    let v = sign_kept (b ∷ bs) what g in
    let is = g ∙ ap (λ (x : Piece). Some x) (sym v.1) in
    become mode (b ∷ bs) v.0 what (again_kept (blocked mode) v.0 (b ∷ bs) v.2 (rw (e1, e2, e3, e4, e5, e6, e7, e8, e9) is)) v.1

rewritten_by : (mode : Mode) (b : ℕ) (bs : List ℕ) (what : Piece) (c1 c2 c3 c4 c5 c6 c7 c8 c9 : Bool)
    → is_blank b ≡ c1 → is_letter b ≡ c2 → is_digit b ≡ c3 → (b == 47) ≡ c4 → (b == 34) ≡ c5 → (b == 39) ≡ c6 → (b == 92) ≡ c7 → (b == 35) ≡ c8 → (b == 64) ≡ c9
    → begun_by mode b bs ≡ Some what → Rewritten mode (b ∷ bs) what
rewritten_by mode b bs what true c2 c3 c4 c5 c6 c7 c8 c9 e1 e2 e3 e4 e5 e6 e7 e8 e9 h = let g = rw e1 at h in blank_by mode (b ∷ bs) (length bs == 0) (b == 10) what g
rewritten_by mode b bs what false true c3 c4 c5 c6 c7 c8 c9 e1 e2 e3 e4 e5 e6 e7 e8 e9 h =
    let g = rw (e1, e2) at h in
    let w = when_is (all_of is_word bs) (p.Token (word_kind mode (b ∷ bs))) what g in
    become mode (b ∷ bs) (word_kind mode (b ∷ bs)) what (word_again mode b bs e1 e2 w.0) w.1
rewritten_by mode b bs what false false true c4 c5 c6 c7 c8 c9 e1 e2 e3 e4 e5 e6 e7 e8 e9 h =
    let g = rw (e1, e2, e3) at h in
    let n = number_small b bs what g in
    become mode (b ∷ bs) (k.Number n.0) what (number_again (blocked mode) n.0 (b ∷ bs) n.2) n.1
rewritten_by mode b bs what false false false true c5 c6 c7 c8 c9 e1 e2 e3 e4 e5 e6 e7 e8 e9 h = let g = rw (e1, e2, e3, e4) at h in slash_rewritten mode (b ∷ bs) bs what g
rewritten_by mode b bs what false false false false true c6 c7 c8 c9 e1 e2 e3 e4 e5 e6 e7 e8 e9 h =
    let g = rw (e1, e2, e3, e4, e5) at h in
    let v = some_of (text_value false bs) (p.Token k.Text) what g in
    become mode (b ∷ bs) k.Text what (subst (λ (x : ℕ). Again (blocked mode) k.Text (x ∷ bs)) (sym (eqb-true b 34 e5)) (text_again (blocked mode) bs v.0 v.1)) v.2
rewritten_by mode b bs what false false false false false true c7 c8 c9 e1 e2 e3 e4 e5 e6 e7 e8 e9 h =
    let g = rw (e1, e2, e3, e4, e5, e6) at h in
    let v = letter_of (letter_value bs) what g in
    become mode (b ∷ bs) (k.Character v.0) what (character_again (blocked mode) bs (b ∷ bs) v.0 v.1) (sym v.2)
rewritten_by mode b bs what false false false false false false true c8 c9 e1 e2 e3 e4 e5 e6 e7 e8 e9 h = let g = rw (e1, e2, e3, e4, e5, e6, e7) at h in backslash_rewritten mode (b ∷ bs) bs what g
rewritten_by mode b bs what false false false false false false false true c9 e1 e2 e3 e4 e5 e6 e7 e8 e9 h =
    let g = rw (e1, e2, e3, e4, e5, e6, e7, e8) at h in
    let v = some_of (use_of bs) (p.Token k.Use) what g in
    become mode (b ∷ bs) k.Use what (subst (λ (x : ℕ). Again (blocked mode) k.Use (x ∷ bs)) (sym (eqb-true b 35 e8)) (use_again (blocked mode) bs v.0 v.1)) v.2
rewritten_by mode b bs what false false false false false false false false true e1 e2 e3 e4 e5 e6 e7 e8 e9 h = let g = rw (e1, e2, e3, e4, e5, e6, e7, e8, e9) at h in at_rewritten mode (b ∷ bs) bs what g
rewritten_by mode b bs what false false false false false false false false false e1 e2 e3 e4 e5 e6 e7 e8 e9 h =
    let g = rw (e1, e2, e3, e4, e5, e6, e7, e8, e9) at h in
    sign_rewritten mode b bs what e1 e2 e3 e4 e5 e6 e7 e8 e9 g

-- each piece of a text is read again from what is written of it
pub rewritten : (mode : Mode) (s : List ℕ) (what : Piece) → piece_of mode s ≡ Some what → Rewritten mode s what
rewritten mode [] what h = absurd cc
rewritten mode (b ∷ bs) what h = rewritten_by mode b bs what _ _ _ _ _ _ _ _ _ refl refl refl refl refl refl refl refl refl h
