-- Where a piece ends: which beginnings of a text pass a test.
use Rattle.std.proofs.Common.{◌≡◌, ℕ, zero, suc, ◌+◌, ◌-◌, ◌<◌, ◌≤◌, Bool, true, false, not, ◌&&◌, ◌==◌, cond, List, [], ◌∷◌, ◌++◌, length, take, Option, Some, None, refl, ◌∙◌, arith}
use Rattle.std.proofs.lemmas.Bool.{ne_eqb}
use Rattle.std.proofs.lemmas.List.{length-take-le}
use Rattle.c0_source.specs.Bytes.{is_blank, is_digit, is_word, is_printable, not_newline, escape}
use Rattle.c0_source.specs.Spelling.{closes, with_byte, text_value, is_some, angled, quoted, use_value}
use Rattle.c0_lexer.specs.Ends.{comment_end, text_end, name_end, use_end}

-- the longest beginning that passes, of a text that begins at `at`, ends at `n`
pub record EndsBy (f : List ℕ → Bool) (at : ℕ) (bs : List ℕ) (n : ℕ) : Type 0 where
  pub size : ℕ
  pub place : n ≡ at + size
  pub within : size ≤ length bs
  pub whole : f (take size bs) ≡ true
  pub longest : (m : ℕ) → size < m → m ≤ length bs → f (take m bs) ≡ false

-- where the longest beginning that passes ends, or that none passes
abbrev pub EndsAt : (List ℕ → Bool) → ℕ → List ℕ → Option ℕ → Type 0
EndsAt f at bs None = (m : ℕ) → f (take m bs) ≡ false
EndsAt f at bs (Some n) = EndsBy f at bs n

later_none : (f g : List ℕ → Bool) (b : ℕ) (bs : List ℕ) → ((xs : List ℕ) → f (b ∷ xs) ≡ g xs) → f [] ≡ false → ((m : ℕ) → g (take m bs) ≡ false) → (m : ℕ) → f (take m (b ∷ bs)) ≡ false
later_none f g b bs step empty h zero = empty
later_none f g b bs step empty h (suc m) = step (take m bs) ∙ h m

later_longest : (f g : List ℕ → Bool) (at b n : ℕ) (bs : List ℕ) → ((xs : List ℕ) → f (b ∷ xs) ≡ g xs) → (h : EndsBy g at bs n) → (m : ℕ) → suc h.size < m → m ≤ suc (length bs) → f (take m (b ∷ bs)) ≡ false
later_longest f g at b n bs step h zero lt le = absurd (omega arith)
later_longest f g at b n bs step h (suc m) lt le = step (take m bs) ∙ h.longest m (omega arith) (omega arith)

-- the test of a text whose first byte doesn't decide it
later : (f g : List ℕ → Bool) (at b : ℕ) (bs : List ℕ) (o : Option ℕ) → ((xs : List ℕ) → f (b ∷ xs) ≡ g xs) → f [] ≡ false → EndsAt g (at + 1) bs o → EndsAt f at (b ∷ bs) o
later f g at b bs None step empty h = later_none f g b bs step empty h
later f g at b bs (Some n) step empty h = record {
  size = suc h.size;
  place = omega (arith, h.place);
  within = omega (arith, h.within);
  whole = step (take h.size bs) ∙ h.whole;
  longest = λ m lt le. later_longest f g (at + 1) b n bs step h m lt le;
}

here_longest : (f : List ℕ → Bool) (b : ℕ) (bs : List ℕ) → ((xs : List ℕ) → f (b ∷ xs) ≡ (length xs == 0)) → (m : ℕ) → 1 < m → m ≤ suc (length bs) → f (take m (b ∷ bs)) ≡ false
here_longest f b bs step zero lt le = absurd (omega arith)
here_longest f b bs step (suc m) lt le = step (take m bs) ∙ ne_eqb _ _ (omega (arith, length-take-le m bs (omega arith)))

-- the first byte is all that passes
here : (f : List ℕ → Bool) (at b : ℕ) (bs : List ℕ) → ((xs : List ℕ) → f (b ∷ xs) ≡ (length xs == 0)) → EndsAt f at (b ∷ bs) (Some (at + 1))
here f at b bs step = record {
  size = 1;
  place = refl;
  within = omega arith;
  whole = step [];
  longest = λ m lt le. here_longest f b bs step m lt le;
}

-- nothing that begins with the first byte passes
dead : (f : List ℕ → Bool) (at b : ℕ) (bs : List ℕ) → ((xs : List ℕ) → f (b ∷ xs) ≡ false) → f [] ≡ false → EndsAt f at (b ∷ bs) None
dead f at b bs step empty zero = empty
dead f at b bs step empty (suc m) = step (take m bs)

nothing : (f : List ℕ → Bool) (at : ℕ) → f [] ≡ false → EndsAt f at [] None
nothing f at empty zero = empty
nothing f at empty (suc m) = empty

-- Comments.

CommentKnown : List ℕ → Type 0
CommentKnown bs = (d before at : ℕ) → EndsAt (closes d before) at bs (comment_end d before at bs)

comment_closed : (b : ℕ) (bs : List ℕ) (d before at : ℕ) → CommentKnown bs → (before == 42 && b == 47) ≡ true → (c : Bool) → (d == 0) ≡ c → EndsAt (closes d before) at (b ∷ bs) (cond c (Some (at + 1)) (comment_end (d - 1) 0 (at + 1) bs))
unfolding CommentKnown
comment_closed b bs d before at known e true is = here (closes d before) at b bs (λ xs. rw (e, is) refl)
comment_closed b bs d before at known e false is = later (closes d before) (closes (d - 1) 0) at b bs (comment_end (d - 1) 0 (at + 1) bs) (λ xs. rw (e, is) refl) refl (known (d - 1) 0 (at + 1))

comment_open : (b : ℕ) (bs : List ℕ) (d before at : ℕ) → CommentKnown bs → (before == 42 && b == 47) ≡ false → (c : Bool) → (before == 47 && b == 42) ≡ c → EndsAt (closes d before) at (b ∷ bs) (cond c (comment_end (suc d) 0 (at + 1) bs) (comment_end d b (at + 1) bs))
unfolding CommentKnown
comment_open b bs d before at known e true is = later (closes d before) (closes (suc d) 0) at b bs (comment_end (suc d) 0 (at + 1) bs) (λ xs. rw (e, is) refl) refl (known (suc d) 0 (at + 1))
comment_open b bs d before at known e false is = later (closes d before) (closes d b) at b bs (comment_end d b (at + 1) bs) (λ xs. rw (e, is) refl) refl (known d b (at + 1))

comment_by : (b : ℕ) (bs : List ℕ) (d before at : ℕ) → CommentKnown bs → (c : Bool) → (before == 42 && b == 47) ≡ c
    → EndsAt (closes d before) at (b ∷ bs) (cond c (cond (d == 0) (Some (at + 1)) (comment_end (d - 1) 0 (at + 1) bs)) (cond (before == 47 && b == 42) (comment_end (suc d) 0 (at + 1) bs) (comment_end d b (at + 1) bs)))
comment_by b bs d before at known true is = comment_closed b bs d before at known is (d == 0) refl
comment_by b bs d before at known false is = comment_open b bs d before at known is (before == 47 && b == 42) refl

pub comment_ends : (bs : List ℕ) (d before at : ℕ) → EndsAt (closes d before) at bs (comment_end d before at bs)
unfolding CommentKnown
comment_ends [] d before at = nothing (closes d before) at refl
comment_ends (b ∷ bs) d before at = comment_by b bs d before at (comment_ends bs) (before == 42 && b == 47) refl

-- Texts.

-- whether these bytes are the rest of a text
abbrev pub is_text : Bool → List ℕ → Bool
is_text escaped bs = is_some (text_value escaped bs)

some_behind : (o : Option ℕ) (t : Option (List ℕ)) → is_some o ≡ true → is_some (with_byte o t) ≡ is_some t
some_behind (Some b) (Some bs) e = refl
some_behind (Some b) None e = refl
some_behind None t e = absurd cc

none_behind : (o : Option ℕ) (t : Option (List ℕ)) → is_some o ≡ false → is_some (with_byte o t) ≡ false
none_behind (Some b) t e = absurd cc
none_behind None (Some bs) e = refl
none_behind None None e = refl

TextKnown : List ℕ → Type 0
TextKnown bs = (escaped : Bool) (at : ℕ) → EndsAt (is_text escaped) at bs (text_end escaped at bs)

escape_by : (b at : ℕ) (bs : List ℕ) → TextKnown bs → (c : Bool) → is_some (escape b) ≡ c → EndsAt (is_text true) at (b ∷ bs) (cond c (text_end false (at + 1) bs) None)
unfolding TextKnown
escape_by b at bs known true e = later (is_text true) (is_text false) at b bs (text_end false (at + 1) bs) (λ xs. some_behind (escape b) (text_value false xs) e) refl (known false (at + 1))
escape_by b at bs known false e = dead (is_text true) at b bs (λ xs. none_behind (escape b) (text_value false xs) e) refl

last_by : (c : Bool) (v : List ℕ) → is_some (cond c (Some v) None) ≡ c
last_by true v = refl
last_by false v = refl

text_by : (b at : ℕ) (bs : List ℕ) → TextKnown bs → (c1 c2 c3 : Bool) → (b == 34) ≡ c1 → (b == 92) ≡ c2 → is_printable b ≡ c3
    → EndsAt (is_text false) at (b ∷ bs) (cond c1 (Some (at + 1)) (cond c2 (text_end true (at + 1) bs) (cond c3 (text_end false (at + 1) bs) None)))
unfolding TextKnown
text_by b at bs known true c2 c3 e1 e2 e3 = here (is_text false) at b bs (λ xs. rw e1 (last_by (length xs == 0) []))
text_by b at bs known false true c3 e1 e2 e3 = later (is_text false) (is_text true) at b bs (text_end true (at + 1) bs) (λ xs. rw (e1, e2) refl) refl (known true (at + 1))
text_by b at bs known false false true e1 e2 e3 = later (is_text false) (is_text false) at b bs (text_end false (at + 1) bs) (λ xs. rw (e1, e2, e3) (some_behind (Some b) (text_value false xs) refl)) refl (known false (at + 1))
text_by b at bs known false false false e1 e2 e3 = dead (is_text false) at b bs (λ xs. rw (e1, e2, e3) refl) refl

pub text_ends : (bs : List ℕ) (escaped : Bool) (at : ℕ) → EndsAt (is_text escaped) at bs (text_end escaped at bs)
unfolding TextKnown
text_ends [] true at = nothing (is_text true) at refl
text_ends [] false at = nothing (is_text false) at refl
text_ends (b ∷ bs) true at = escape_by b at bs (text_ends bs) (is_some (escape b)) refl
text_ends (b ∷ bs) false at = text_by b at bs (text_ends bs) (b == 34) (b == 92) (is_printable b) refl refl refl

-- What `#use` names.

-- whether these bytes are the rest of a name and `>`
abbrev pub is_angled : List ℕ → List ℕ → Bool
is_angled name bs = is_some (angled name bs)

NameKnown : List ℕ → Type 0
NameKnown bs = (name : List ℕ) (begun : Bool) (at : ℕ) → (length name == 0) ≡ not begun → EndsAt (is_angled name) at bs (name_end begun at bs)

angled_last : (c : Bool) (name : List ℕ) → is_some {A = Bool × List ℕ} (cond (c && true) (Some (true, name)) None) ≡ c
angled_last true name = refl
angled_last false name = refl

angled_first : (c : Bool) (name : List ℕ) → is_some {A = Bool × List ℕ} (cond (c && false) (Some (true, name)) None) ≡ false
angled_first true name = refl
angled_first false name = refl

longer : (name : List ℕ) (b : ℕ) → (length (name ++ b ∷ []) == 0) ≡ false
longer [] b = refl
longer (a ∷ name) b = ne_eqb _ _ (omega arith)

name_by : (b at : ℕ) (bs name : List ℕ) (begun : Bool) → NameKnown bs → (length name == 0) ≡ not begun → (c1 c2 : Bool) → (b == 62) ≡ c1 → (is_word b && not (not begun && is_digit b)) ≡ c2
    → EndsAt (is_angled name) at (b ∷ bs) (cond c1 (cond begun (Some (at + 1)) None) (cond c2 (name_end true (at + 1) bs) None))
unfolding NameKnown
name_by b at bs name true known e true c2 e1 e2 = here (is_angled name) at b bs (λ xs. rw (e1, e) (angled_last (length xs == 0) name))
name_by b at bs name false known e true c2 e1 e2 = dead (is_angled name) at b bs (λ xs. rw (e1, e) (angled_first (length xs == 0) name)) refl
name_by b at bs name begun known e false true e1 e2 = later (is_angled name) (is_angled (name ++ b ∷ [])) at b bs (name_end true (at + 1) bs) (λ xs. rw (e1, e, e2) refl) refl (known (name ++ b ∷ []) true (at + 1) (longer name b))
name_by b at bs name begun known e false false e1 e2 = dead (is_angled name) at b bs (λ xs. rw (e1, e, e2) refl) refl

pub name_ends : (bs name : List ℕ) (begun : Bool) (at : ℕ) → (length name == 0) ≡ not begun → EndsAt (is_angled name) at bs (name_end begun at bs)
unfolding NameKnown
name_ends [] name begun at e = nothing (is_angled name) at refl
name_ends (b ∷ bs) name begun at e = name_by b at bs name begun (name_ends bs) e (b == 62) (is_word b && not (not begun && is_digit b)) refl refl

-- whether these bytes are what `#use` names
abbrev pub is_used : List ℕ → Bool
is_used bs = is_some (use_value bs)

some_quoted : (t : Option (List ℕ)) → is_some (quoted t) ≡ is_some t
some_quoted None = refl
some_quoted (Some v) = refl

use_by : (b at : ℕ) (bs : List ℕ) → EndsAt is_used (at + 1) bs (use_end (at + 1) bs) → (c1 c2 c3 : Bool) → (is_blank b && not_newline b) ≡ c1 → (b == 60) ≡ c2 → (b == 34) ≡ c3
    → EndsAt is_used at (b ∷ bs) (cond c1 (use_end (at + 1) bs) (cond c2 (name_end false (at + 1) bs) (cond c3 (text_end false (at + 1) bs) None)))
use_by b at bs known true c2 c3 e1 e2 e3 = later is_used is_used at b bs (use_end (at + 1) bs) (λ xs. rw e1 refl) refl known
use_by b at bs known false true c3 e1 e2 e3 = later is_used (is_angled []) at b bs (name_end false (at + 1) bs) (λ xs. rw (e1, e2) refl) refl (name_ends bs [] false (at + 1) refl)
use_by b at bs known false false true e1 e2 e3 = later is_used (is_text false) at b bs (text_end false (at + 1) bs) (λ xs. rw (e1, e2, e3) (some_quoted (text_value false xs))) refl (text_ends bs false (at + 1))
use_by b at bs known false false false e1 e2 e3 = dead is_used at b bs (λ xs. rw (e1, e2, e3) refl) refl

pub use_ends : (bs : List ℕ) (at : ℕ) → EndsAt is_used at bs (use_end at bs)
use_ends [] at = nothing is_used at refl
use_ends (b ∷ bs) at = use_by b at bs (use_ends bs (at + 1)) (is_blank b && not_newline b) (b == 60) (b == 34) refl refl refl
