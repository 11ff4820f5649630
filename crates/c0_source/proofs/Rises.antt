-- The tokens of a text are parts of it, one behind the other.
use Rattle.std.proofs.Common.{◌≡◌, ℕ, ◌+◌, ◌≤◌, List, [], ◌∷◌, ◌++◌, length, take, drop, Option, Some, None, refl, sym, ap, subst, ◌∙◌, arith}
use Rattle.std.proofs.lemmas.List.{length-drop, length-take-le, drop-drop}
use Rattle.c0_source.specs.declared.kind.Kind.{Kind}
use Rattle.c0_source.specs.declared.kind.Mode.{Mode}
use Rattle.c0_source.specs.declared.kind.Mode.TheVariants as m
use Rattle.c0_source.specs.Spelling.{after, Pieces, Lexeme, kind_of_piece, add_lexeme, lexemes, Leads, ending, Spells, AreSlices, Rise, extent}

add_append : (o : Option Kind) (text : List ℕ) (at : ℕ) (xs ts : List Lexeme) → add_lexeme o text at xs ++ ts ≡ add_lexeme o text at (xs ++ ts)
add_append None text at xs ts = refl
add_append (Some kind) text at xs ts = refl

slices_by : (whole bytes : List ℕ) (at n : ℕ) (kind : Option Kind) (ts : List Lexeme) → drop at whole ≡ bytes → n ≤ length bytes → AreSlices whole ts → AreSlices whole (add_lexeme kind (take n bytes) at ts)
slices_by whole bytes at n None ts e le h = h
slices_by whole bytes at n (Some kind) ts e le h = (rw (length-take-le n bytes le, e) refl, h)

rest_of : (whole bytes : List ℕ) (at n : ℕ) → drop at whole ≡ bytes → drop (at + n) whole ≡ drop n bytes
rest_of whole bytes at n e = sym (drop-drop n at whole) ∙ ap (drop n) e

-- the tokens among pieces are parts of the text
slices_of : (whole : List ℕ) (ps : Pieces) (mode last : Mode) (at : ℕ) (bytes rest : List ℕ) (ts : List Lexeme) → drop at whole ≡ bytes → Leads mode bytes ps last rest → AreSlices whole ts → AreSlices whole (lexemes at bytes ps ++ ts)
slices_of whole [] mode last at bytes rest ts e h t = t
slices_of whole (x ∷ ps) mode last at bytes rest ts e h t =
    let others = slices_of whole ps (after mode x.1) last (at + x.0) (drop x.0 bytes) rest ts (rest_of whole bytes at x.0 e) h.1 t in
    rw (add_append (kind_of_piece x.1) (take x.0 bytes) at (lexemes (at + x.0) (drop x.0 bytes) ps) ts) (slices_by whole bytes at x.0 (kind_of_piece x.1) _ e h.0.within others)

rise_from : (a b end : ℕ) (ts : List Lexeme) → a ≤ b → Rise b end ts → Rise a end ts
rise_from a b end [] le h = omega (arith, h)
rise_from a b end (t ∷ ts) le h = (omega (arith, h.0), h.1)

rise_by : (bytes : List ℕ) (at n end : ℕ) (kind : Option Kind) (ts : List Lexeme) → n ≤ length bytes → Rise (at + n) end ts → Rise at end (add_lexeme kind (take n bytes) at ts)
rise_by bytes at n end None ts le h = rise_from at (at + n) end ts (omega arith) h
rise_by bytes at n end (Some kind) ts le h = (omega arith, rw (length-take-le n bytes le) h)

-- the tokens among pieces rise, and those behind the pieces after them
rises_of : (ps : Pieces) (mode last : Mode) (at end : ℕ) (bytes rest : List ℕ) (ts : List Lexeme) → Leads mode bytes ps last rest → Rise (at + extent ps) end ts → Rise at end (lexemes at bytes ps ++ ts)
rises_of [] mode last at end bytes rest ts h t = rise_from at (at + 0) end ts (omega arith) t
rises_of (x ∷ ps) mode last at end bytes rest ts h t =
    let place : at + (x.0 + extent ps) ≡ (at + x.0) + extent ps = omega arith in
    let others = rises_of ps (after mode x.1) last (at + x.0) end (drop x.0 bytes) rest ts h.1 (subst (λ (i : ℕ). Rise i end ts) place t) in
    rw (add_append (kind_of_piece x.1) (take x.0 bytes) at (lexemes (at + x.0) (drop x.0 bytes) ps) ts) (rise_by bytes at x.0 end (kind_of_piece x.1) _ h.0.within others)

-- what pieces leave stands behind as many bytes as they have
pub extent_is : (ps : Pieces) (mode last : Mode) (bytes rest : List ℕ) → Leads mode bytes ps last rest → extent ps + length rest ≡ length bytes
extent_is [] mode last bytes rest h = let e = ap length h.1 in omega arith
extent_is (x ∷ ps) mode last bytes rest h = omega (arith, extent_is ps (after mode x.1) last (drop x.0 bytes) rest h.1, length-drop x.0 bytes, h.0.within)

ending_slices : (mode : Mode) (bytes : List ℕ) → AreSlices bytes (ending mode (length bytes))
ending_slices m.Plain bytes = tt
ending_slices m.Line bytes = (refl, tt)
ending_slices m.Block bytes = tt

ending_rises : (mode : Mode) (n : ℕ) → Rise n n (ending mode n)
ending_rises m.Plain n = omega arith
ending_rises m.Line n = (omega arith, omega arith)
ending_rises m.Block n = omega arith

pub tokens_rise : (bytes : List ℕ) (ts : List Lexeme) → Spells bytes ts → AreSlices bytes ts × Rise 0 (length bytes) ts
tokens_rise bytes ts s =
    let size : 0 + extent s.pieces ≡ length bytes = omega (arith, extent_is s.pieces m.Plain s.last bytes [] s.leads) in
    let behind : Rise (0 + extent s.pieces) (length bytes) (ending s.last (length bytes)) = subst (λ (i : ℕ). Rise i (length bytes) (ending s.last (length bytes))) (sym size) (ending_rises s.last (length bytes)) in
    rw s.tokens (slices_of bytes s.pieces m.Plain s.last 0 bytes [] (ending s.last (length bytes)) refl s.leads (ending_slices s.last bytes), rises_of s.pieces m.Plain s.last 0 (length bytes) bytes [] (ending s.last (length bytes)) s.leads behind)
