-- The longest entry of a table that a text begins with.
use Rattle.std.proofs.Common.{◌≡◌, ℕ, zero, suc, ◌<◌, ◌≤◌, Bool, true, false, cond, ◌&&◌, List, [], ◌∷◌, length, take, drop, Option, Some, None, refl, sym, ap, subst, ◌∙◌, arith}
use Rattle.std.specs.Prelude.{nat_le}
use Rattle.std.specs.Str.{bytes_eq}
use Rattle.std.proofs.lemmas.Bool.{and_parts, leb-true}
use Rattle.std.proofs.lemmas.List.{length-take, length-take-le}
use Rattle.std.proofs.lemmas.Slice.Eq.{bytes_eq-Decides}
use Rattle.c0_source.specs.declared.kind.Kind.{Kind}
use Rattle.c0_source.specs.declared.kind.Kind.TheVariants as k
use Rattle.c0_source.specs.declared.kind.Operator.TheVariants as o
use Rattle.c0_source.specs.declared.kind.Mode.{Mode}
use Rattle.c0_source.specs.declared.kind.Piece.{Piece}
use Rattle.c0_source.specs.declared.kind.Piece.TheVariants as p
use Rattle.c0_source.specs.Spelling.{Table, lookup, token_of, piece_of, apart, NoCut}
use Rattle.c0_lexer.specs.declared.longest.LongestPiece.{LongestPiece}
use Rattle.c0_lexer.specs.Tables.{first_entry, found}
use Rattle.c0_lexer.specs.Pieces.{Gives}

-- no entry is longer than n
abbrev pub up_to : ℕ → Table → Bool
up_to n [] = true
up_to n (s ∷ ss) = nat_le (length s.0) n && up_to n ss

-- no entry is longer than one before it
abbrev pub falls : Table → Bool
falls [] = true
falls (s ∷ ss) = up_to (length s.0) ss && falls ss

same_length : (xs ys : List ℕ) → bytes_eq xs ys ≡ true → length xs ≡ length ys
same_length xs ys e = ap length ((bytes_eq-Decides xs ys).0 e)

differ_by : (xs ys : List ℕ) (c : Bool) → bytes_eq xs ys ≡ c → (bytes_eq xs ys ≡ true → ⊥) → bytes_eq xs ys ≡ false
differ_by xs ys true e h = absurd (h e)
differ_by xs ys false e h = e

differ : (xs ys : List ℕ) → (bytes_eq xs ys ≡ true → ⊥) → bytes_eq xs ys ≡ false
differ xs ys h = differ_by xs ys (bytes_eq xs ys) refl h

equal : (xs : List ℕ) → bytes_eq xs xs ≡ true
equal xs = (bytes_eq-Decides xs xs).1 refl

-- a text that is longer than all entries is none of them
lookup_long : (ss : Table) (text : List ℕ) (n : ℕ) → up_to n ss ≡ true → n < length text → lookup ss text ≡ None
lookup_long [] text n short lt = refl
lookup_long (s ∷ ss) text n short lt =
    let parts = and_parts (nat_le (length s.0) n) (up_to n ss) short in
    let le : length s.0 ≤ n = leb-true (length s.0) n parts.0 in
    let d = differ s.0 text (λ e. let l = same_length s.0 text e in omega arith) in
    rw d (lookup_long ss text n parts.1 lt)

record IsFirst (ss : Table) (text : List ℕ) (x : ℕ × Piece) : Type 0 where
  kind : Kind
  token : x.1 ≡ p.Token kind
  within : x.0 ≤ length text
  whole : lookup ss (take x.0 text) ≡ Some kind
  longest : (i : ℕ) → x.0 < i → i ≤ length text → lookup ss (take i text) ≡ None

abbrev FirstOr : Table → List ℕ → Option (ℕ × Piece) → Type 0
FirstOr ss text None = (i : ℕ) → i ≤ length text → lookup ss (take i text) ≡ None
FirstOr ss text (Some x) = IsFirst ss text x

entry_length : (s : List ℕ) (text : List ℕ) → bytes_eq s (take (length s) text) ≡ true → length s ≤ length text
entry_length s text e = let l = same_length s (take (length s) text) e in omega (arith, length-take (length s) text)

-- an entry that the text doesn't begin with is no beginning of it
not_begun : (s : List ℕ) (text : List ℕ) (i : ℕ) → bytes_eq s (take (length s) text) ≡ false → i ≤ length text → bytes_eq s (take i text) ≡ false
not_begun s text i e le =
    differ s (take i text) (λ t. let same = (bytes_eq-Decides s (take i text)).0 t in
    let size : length s ≡ i = ap length same ∙ length-take-le i text le in
    let all : bytes_eq s (take (length s) text) ≡ true = rw size t in
    cc)

first_by : (s : List ℕ × Kind) (ss : Table) (text : List ℕ) (o : Option (ℕ × Piece)) (c : Bool) → bytes_eq s.0 (take (length s.0) text) ≡ c → up_to (length s.0) ss ≡ true → FirstOr ss text o
    → FirstOr (s ∷ ss) text (cond c (Some (length s.0, p.Token s.1)) o)
first_by s ss text o true e short h = record {
  kind = s.1;
  token = refl;
  within = entry_length s.0 text e;
  whole = rw e refl;
  longest = λ i lt le. let size = length-take-le i text le in
      let d = differ s.0 (take i text) (λ t. let l = same_length s.0 (take i text) t in omega arith) in
      rw d (lookup_long ss (take i text) (length s.0) short (omega arith));
}
first_by s ss text None false e short h = λ i le. rw (not_begun s.0 text i e le) (h i le)
first_by s ss text (Some x) false e short h = record {
  kind = h.kind;
  token = h.token;
  within = h.within;
  whole = rw (not_begun s.0 text x.0 e h.within) h.whole;
  longest = λ i lt le. rw (not_begun s.0 text i e le) (h.longest i lt le);
}

first_or : (ss : Table) (text : List ℕ) → falls ss ≡ true → FirstOr ss text (first_entry ss text)
first_or [] text f = λ i le. refl
first_or (s ∷ ss) text f =
    let parts = and_parts (up_to (length s.0) ss) (falls ss) f in
    first_by s ss text (first_entry ss text) (bytes_eq s.0 (take (length s.0) text)) refl parts.0 (first_or ss text parts.1)

-- the kind is no number and not `/`, so that anything may follow it
abbrev pub is_plain : Kind → Bool
is_plain (k.Number n) = false
is_plain (k.Infix o.Divide) = false
is_plain _ = true

abbrev pub all_plain : Table → Bool
all_plain [] = true
all_plain (s ∷ ss) = is_plain s.1 && all_plain ss

pub apart_plain : (kind : Kind) (rest : List ℕ) → is_plain kind ≡ true → apart (p.Token kind) rest ≡ true
apart_plain (k.Number n) rest e = absurd cc
apart_plain (k.Infix o.Divide) rest e = absurd cc
apart_plain _ rest e = refl

plain_by : (s : List ℕ × Kind) (ss : Table) (text : List ℕ) (kind : Kind) (c : Bool) → (is_plain s.1 ≡ true) × (all_plain ss ≡ true) → (lookup ss text ≡ Some kind → is_plain kind ≡ true) → cond c (Some s.1) (lookup ss text) ≡ Some kind → is_plain kind ≡ true
plain_by s ss text kind true parts ih e = let same : s.1 ≡ kind = cc in subst (λ (q : Kind). is_plain q ≡ true) same parts.0
plain_by s ss text kind false parts ih e = ih e

-- what stands in a table of plain kinds is plain
pub lookup_plain : (ss : Table) (text : List ℕ) (kind : Kind) → all_plain ss ≡ true → lookup ss text ≡ Some kind → is_plain kind ≡ true
lookup_plain [] text kind all e = absurd cc
lookup_plain (s ∷ ss) text kind all e =
    let parts = and_parts (is_plain s.1) (all_plain ss) all in
    plain_by s ss text kind (bytes_eq s.0 text) parts (λ h. lookup_plain ss text kind parts.1 h) e

-- what a table has to be, for the longest of its entries to be the longest piece of a text in a mode
pub record Fits (mode : Mode) (ss : Table) (text : List ℕ) : Type 0 where
  pub order : falls ss ≡ true
  pub plain : all_plain ss ≡ true
  pub empty : lookup ss [] ≡ None
  pub pieces : (i : ℕ) → 0 < i → piece_of mode (take i text) ≡ token_of (lookup ss (take i text))

some_bytes : (ss : Table) (text : List ℕ) (n : ℕ) (kind : Kind) → lookup ss [] ≡ None → lookup ss (take n text) ≡ Some kind → 0 < n
some_bytes ss text zero kind empty e = absurd cc
some_bytes ss text (suc n) kind empty e = omega arith

pub none_gives : (mode : Mode) (text : List ℕ) → ((i : ℕ) → 0 < i → i ≤ length text → piece_of mode (take i text) ≡ None) → NoCut mode text
none_gives mode text h n what c = let none = h n c.some c.within in let some = c.shape in cc

table_by : (mode : Mode) (ss : Table) (text : List ℕ) (o : Option LongestPiece) → Fits mode ss text → FirstOr ss text (found o) → Gives mode text o
table_by mode ss text None fits h = none_gives mode text (λ i lt le. rw (fits.pieces i lt, h i le) refl)
table_by mode ss text (Some x) fits h =
    let lt = some_bytes ss text x.length h.kind fits.empty h.whole in
    rw h.token (record {
      some = lt;
      within = h.within;
      shape = rw (fits.pieces x.length lt, h.whole) refl;
      longest = λ i more le. rw (fits.pieces i (omega arith), h.longest i more le) refl;
      stands = apart_plain h.kind (drop x.length text) (lookup_plain ss (take x.length text) h.kind fits.plain h.whole);
    })

pub table_gives : (mode : Mode) (ss : Table) (text : List ℕ) (o : Option LongestPiece) → Fits mode ss text → found o ≡ first_entry ss text → Gives mode text o
table_gives mode ss text o fits e = table_by mode ss text o fits (subst (FirstOr ss text) (sym e) (first_or ss text fits.order))
