-- Tokens that are written with their gaps are cut as they were written.
use Rattle.std.proofs.Common.{◌≡◌, ℕ, zero, suc, ◌+◌, ◌<◌, ◌≤◌, Bool, true, false, ◌||◌, ◌==◌, List, [], ◌∷◌, ◌++◌, length, take, map, Option, Some, None, refl, sym, subst, arith}
use Rattle.std.proofs.lemmas.Bool.{ne_eqb, eqb-true}
use Rattle.c0_source.specs.declared.kind.Kind.{Kind}
use Rattle.c0_source.specs.declared.kind.Mode.{Mode}
use Rattle.c0_source.specs.declared.kind.Mode.TheVariants as m
use Rattle.c0_source.specs.declared.kind.Piece.{Piece}
use Rattle.c0_source.specs.declared.kind.Piece.TheVariants as p
use Rattle.c0_source.specs.Bytes.{is_blank, all_of}
use Rattle.c0_source.specs.Laws.{NotGap}
use Rattle.c0_source.specs.Spelling.{Pieces, Leads, Cut, piece_of, apart, after, kind_of_piece, lexemes, add_lexeme, Lexeme}
use Rattle.c0_source.specs.Terminals.{Terminal, terminal_by, terminals}
use Rattle.c0_syntax.specs.declared.mark.Gap.{Gap}
use Rattle.c0_syntax.specs.declared.mark.Gap.TheVariants as g
use Rattle.c0_syntax.specs.Spellings.{spelling}
use Rattle.c0_syntax.specs.Layouts.{Mark}
use Rattle.c0_syntax.specs.Printing.{joins, first_of, indentation, gap_text, rendered}
use Rattle.c0_syntax.proofs.Ends.{both, piece_ends, take_front, drop_front, take_past, longer_front}

-- A token is read from its spelling, in this mode.
pub record Written (mode : Mode) (t : Terminal) : Type 0 where
  pub what : Piece
  pub kind : Kind
  pub shape : piece_of mode (spelling t) ≡ Some what
  pub token : kind_of_piece what ≡ Some kind
  pub same : terminal_by kind (spelling t) ≡ t
  pub stands : (x : ℕ) (us : List ℕ) → joins (first_of (spelling t)) x ≡ false → apart what (x ∷ us) ≡ true

-- no newline ends an annotation
abbrev pub NotLine : Mode → Type 0
NotLine m.Line = ⊥
NotLine _ = Unit {0}

-- ... each token, and no annotation is open behind the last one
abbrev pub AllWritten : Mode → List Terminal → Type 0
AllWritten mode [] = mode ≡ m.Plain
AllWritten mode (t ∷ ts) = NotLine mode × (w : Written mode t) × AllWritten (after mode w.what) ts

-- bytes that are cut into pieces, with these tokens among them
pub record Chain (mode : Mode) (bytes : List ℕ) (ts : List Terminal) : Type 0 where
  pub pieces : Pieces
  pub leads : Leads mode bytes pieces m.Plain []
  pub told : (at : ℕ) → terminals (lexemes at bytes pieces) ≡ ts

-- Gaps.

abbrev pub gap_byte : ℕ → Bool
gap_byte b = b == 32 || b == 10

gap_longer : (mode : Mode) (b : ℕ) (rest : List ℕ) (i : ℕ) → is_blank b ≡ true → 1 < i → i ≤ suc (length rest) → piece_of mode (take i (b ∷ rest)) ≡ None
gap_longer mode b rest zero e lt le = absurd (omega arith)
gap_longer mode b rest (suc zero) e lt le = absurd (omega arith)
gap_longer mode b [] (suc (suc i)) e lt le = absurd (omega arith)
gap_longer mode b (c ∷ rest) (suc (suc i)) e lt le =
    let some : (length (c ∷ take i rest) == 0) ≡ false = ne_eqb _ _ (omega arith) in
    rw (e, some) refl

gap_cut : (mode : Mode) (b : ℕ) (rest : List ℕ) → is_blank b ≡ true → piece_of mode (b ∷ []) ≡ Some p.Gap → Cut mode (b ∷ rest) 1 p.Gap
gap_cut mode b rest e shape = record {
  some = omega arith;
  within = omega arith;
  shape = shape;
  longest = λ i lt le. gap_longer mode b rest i e lt le;
  stands = refl;
}

newline_shape : (mode : Mode) → NotLine mode → piece_of mode (10 ∷ []) ≡ Some p.Gap
newline_shape m.Plain n = refl
newline_shape m.Block n = refl
newline_shape m.Line n = absurd n

gap_by : (mode : Mode) (b : ℕ) (rest : List ℕ) (c : Bool) → (b == 32) ≡ c → NotLine mode → (c || b == 10) ≡ true → Cut mode (b ∷ rest) 1 p.Gap
gap_by mode b rest true e n h = subst (λ (y : ℕ). Cut mode (y ∷ rest) 1 p.Gap) (sym (eqb-true b 32 e)) (gap_cut mode 32 rest refl refl)
gap_by mode b rest false e n h = subst (λ (y : ℕ). Cut mode (y ∷ rest) 1 p.Gap) (sym (eqb-true b 10 h)) (gap_cut mode 10 rest refl (newline_shape mode n))

add_gap : (mode : Mode) (b : ℕ) (rest : List ℕ) (ts : List Terminal) → NotLine mode → gap_byte b ≡ true → Chain mode rest ts → Chain mode (b ∷ rest) ts
add_gap mode b rest ts n h c = record {
  pieces = (1, p.Gap) ∷ c.pieces;
  leads = (gap_by mode b rest (b == 32) refl n h, c.leads);
  told = λ at. c.told (at + 1);
}

add_gaps : (mode : Mode) (bs rest : List ℕ) (ts : List Terminal) → NotLine mode → all_of gap_byte bs ≡ true → Chain mode rest ts → Chain mode (bs ++ rest) ts
add_gaps mode [] rest ts n h c = c
add_gaps mode (b ∷ bs) rest ts n h c =
    let q = both (gap_byte b) (all_of gap_byte bs) h in
    add_gap mode b (bs ++ rest) ts n q.0 (add_gaps mode bs rest ts n q.1 c)

indents : (level : ℕ) → all_of gap_byte (indentation level) ≡ true
indents zero = refl
indents (suc level) = indents level

gap_bytes : (gap : Gap) (joined : Bool) → all_of gap_byte (gap_text gap joined) ≡ true
gap_bytes g.Touching true = refl
gap_bytes g.Touching false = refl
gap_bytes g.Blank joined = refl
gap_bytes (g.Line level) joined = indents level
gap_bytes g.EmptyLine joined = refl

-- Tokens.

not_gap : (what : Piece) (kind : Kind) → kind_of_piece what ≡ Some kind → NotGap what
not_gap p.Gap kind e = absurd cc
not_gap (p.Opens mode) kind e = tt
not_gap (p.Token other) kind e = tt

-- what a text begins with, where that doesn't read on with what stands before it
record Front (before : ℕ) (bytes : List ℕ) : Type 0 where
  first : ℕ
  others : List ℕ
  is : bytes ≡ first ∷ others
  apart : joins before first ≡ false

cut_by : (mode : Mode) (s : List ℕ) (x : ℕ) (us : List ℕ) (what : Piece) → piece_of mode s ≡ Some what → NotGap what → joins (first_of s) x ≡ false → apart what (x ∷ us) ≡ true → Cut mode (s ++ x ∷ us) (length s) what
cut_by mode [] x us what h n j a = absurd cc
cut_by mode (b ∷ bs) x us what h n j a = record {
  some = omega arith;
  within = longer_front (b ∷ bs) (x ∷ us);
  shape = subst (λ (t : List ℕ). piece_of mode t ≡ Some what) (sym (take_front (b ∷ bs) (x ∷ us))) h;
  longest = λ i lt le. let t = take_past (b ∷ bs) us x i lt in rw t.1 (piece_ends mode b bs t.0 x what j h n);
  stands = subst (λ (t : List ℕ). apart what t ≡ true) (sym (drop_front (b ∷ bs) (x ∷ us))) a;
}

token_cut : (mode : Mode) (t : Terminal) (w : Written mode t) (rest : List ℕ) → Front (first_of (spelling t)) rest → Cut mode (spelling t ++ rest) (length (spelling t)) w.what
token_cut mode t w rest f =
    subst (λ (r : List ℕ). Cut mode (spelling t ++ r) (length (spelling t)) w.what) (sym f.is)
    (cut_by mode (spelling t) f.first f.others w.what w.shape (not_gap w.what w.kind w.token) f.apart (w.stands f.first f.others f.apart))

lexed : (w : Option Kind) (kind : Kind) (s : List ℕ) (at : ℕ) (ls : List Lexeme) (t : Terminal) (ts : List Terminal) → w ≡ Some kind → terminal_by kind s ≡ t → terminals ls ≡ ts
    → terminals (add_lexeme w s at ls) ≡ t ∷ ts
lexed w kind s at ls t ts e same h = rw (e, same, h) refl

add_token : (mode : Mode) (t : Terminal) (w : Written mode t) (rest : List ℕ) (ts : List Terminal) → Front (first_of (spelling t)) rest → Chain (after mode w.what) rest ts → Chain mode (spelling t ++ rest) (t ∷ ts)
add_token mode t w rest ts f c = record {
  pieces = (length (spelling t), w.what) ∷ c.pieces;
  leads = (token_cut mode t w rest f, subst (λ (r : List ℕ). Leads (after mode w.what) r c.pieces m.Plain []) (sym (drop_front (spelling t) rest)) c.leads);
  told = λ at. rw (take_front (spelling t) rest, drop_front (spelling t) rest) (lexed (kind_of_piece w.what) w.kind (spelling t) at (lexemes (at + length (spelling t)) rest c.pieces) t ts w.token w.same (c.told (at + length (spelling t))));
}

-- All of them.

begins_by : (before : ℕ) (s rest : List ℕ) (mode : Mode) (what : Piece) (c : Bool) → joins before (first_of s) ≡ c → piece_of mode s ≡ Some what → Front before (gap_text g.Touching c ++ (s ++ rest))
begins_by before s rest mode what true e h = record { first = 32; others = s ++ rest; is = refl; apart = refl }
begins_by before [] rest mode what false e h = absurd cc
begins_by before (b ∷ bs) rest mode what false e h = record { first = b; others = bs ++ rest; is = refl; apart = e }

begins_gap : (before : ℕ) (gap : Gap) (s rest : List ℕ) (mode : Mode) (what : Piece) → piece_of mode s ≡ Some what → Front before (gap_text gap (joins before (first_of s)) ++ (s ++ rest))
begins_gap before g.Touching s rest mode what h = begins_by before s rest mode what (joins before (first_of s)) refl h
begins_gap before g.Blank s rest mode what h = record { first = 32; others = s ++ rest; is = refl; apart = refl }
begins_gap before (g.Line level) s rest mode what h = record { first = 10; others = indentation level ++ (s ++ rest); is = refl; apart = refl }
begins_gap before g.EmptyLine s rest mode what h = record { first = 10; others = 10 ∷ s ++ rest; is = refl; apart = refl }

begins : (before : ℕ) (ms : List Mark) (mode : Mode) → AllWritten mode (map (λ (x : Mark). x.token) ms) → Front before (rendered before ms)
begins before [] mode h = record { first = 10; others = []; is = refl; apart = refl }
begins before (x ∷ ms) mode h = begins_gap before x.gap (spelling x.token) (rendered (first_of (spelling x.token)) ms) mode h.1.what h.1.shape

-- what is written of these tokens spells them
pub chain : (before : ℕ) (ms : List Mark) (mode : Mode) → AllWritten mode (map (λ (x : Mark). x.token) ms) → Chain mode (rendered before ms) (map (λ (x : Mark). x.token) ms)
chain before [] mode h =
    let nothing : Chain m.Plain [] [] = record { pieces = []; leads = (refl, refl); told = λ at. refl } in
    subst (λ (y : Mode). Chain y (10 ∷ []) []) (sym h) (add_gap m.Plain 10 [] [] tt refl nothing)
chain before (x ∷ ms) mode h =
    let rest = rendered (first_of (spelling x.token)) ms in
    let tail = chain (first_of (spelling x.token)) ms (after mode h.1.what) h.2 in
    let front = begins (first_of (spelling x.token)) ms (after mode h.1.what) h.2 in
    add_gaps mode (gap_text x.gap (joins before (first_of (spelling x.token)))) (spelling x.token ++ rest) (map (λ (y : Mark). y.token) (x ∷ ms)) h.0
    (gap_bytes x.gap (joins before (first_of (spelling x.token))))
    (add_token mode x.token h.1 rest (map (λ (y : Mark). y.token) ms) front tail)
