-- How far a text is cut into pieces.
use Rattle.std.proofs.Common.{◌≡◌, ℕ, ◌+◌, ◌<◌, ◌≤◌, Bool, true, false, ◌==◌, List, [], ◌∷◌, ◌++◌, length, take, drop, Option, Some, None, Result, Ok, Err, refl, sym, ap, subst, ◌∙◌, arith}
use Rattle.std.specs.Prelude.{map, Vec, IfOk, IfErr}
use Rattle.std.specs.declared.alloc.Global.{Global}
use Rattle.std.proofs.lemmas.Bool.{ne_eqb}
use Rattle.std.proofs.lemmas.List.{drop-drop, drop_all, length-drop}
use Rattle.c0_source.specs.declared.kind.Kind.{Kind}
use Rattle.c0_source.specs.declared.kind.Mode.{Mode}
use Rattle.c0_source.specs.declared.kind.Mode.TheVariants as m
use Rattle.c0_source.specs.declared.kind.Piece.{Piece}
use Rattle.c0_source.specs.declared.kind.Piece.TheVariants as p
use Rattle.c0_source.specs.declared.fault.Fault.{Fault}
use Rattle.c0_source.specs.declared.fault.FaultKind.{FaultKind}
use Rattle.c0_source.specs.declared.fault.FaultKind.TheVariants as f
use Rattle.c0_source.specs.FaultNumbers.{byte_fault, memory_fault}
use Rattle.c0_source.specs.Spelling.{Cut, NoCut, Cause, Leads, Pieces, Lexeme, Spells, Ends, AreSlices, Rise, after, add_lexeme, begins_comment, end_of_text, ending, extent, kind_of_piece, lexemes, opening, opening_by}
use Rattle.c0_source.proofs.Rises.{tokens_rise}
use Rattle.c0_source.proofs.Once.{fault_excludes, no_cut, one_spelling}
use Rattle.c0_lexer.specs.declared.token.Token.{Token}
use Rattle.c0_lexer.specs.Lexed.{Answers, IsFault, IsLexed, StopsAt, lexeme, open_place, rest_fault}

-- One more piece.

leads_push : (ps : Pieces) (mode last : Mode) (bytes rest : List ℕ) (n : ℕ) (what : Piece) → Leads mode bytes ps last rest → Cut last rest n what → Leads mode bytes (ps ++ (n, what) ∷ []) (after last what) (drop n rest)
leads_push [] mode last bytes rest n what h c = rw (h.0, h.1) (c, (refl, refl))
leads_push (x ∷ ps) mode last bytes rest n what h c = (h.0, leads_push ps (after mode x.1) last (drop x.0 bytes) rest n what h.1 c)

extent_push : (ps : Pieces) (n : ℕ) (what : Piece) → extent (ps ++ (n, what) ∷ []) ≡ extent ps + n
extent_push [] n what = omega arith
extent_push (x ∷ ps) n what = omega (arith, extent_push ps n what)

opening_push : (ps : Pieces) (so_far at n : ℕ) (what : Piece) → opening so_far at (ps ++ (n, what) ∷ []) ≡ opening_by what (at + extent ps) (opening so_far at ps)
opening_push [] so_far at n what =
    let z : at + 0 ≡ at = omega arith in
    rw z refl
opening_push (x ∷ ps) so_far at n what =
    let place : at + (x.0 + extent ps) ≡ (at + x.0) + extent ps = omega arith in
    rw place (opening_push ps (opening_by x.1 at so_far) (at + x.0) n what)

add_append : (o : Option Kind) (text : List ℕ) (at : ℕ) (xs ts : List Lexeme) → add_lexeme o text at (xs ++ ts) ≡ add_lexeme o text at xs ++ ts
add_append None text at xs ts = refl
add_append (Some kind) text at xs ts = refl

lexemes_push : (ps : Pieces) (at : ℕ) (bytes : List ℕ) (n : ℕ) (what : Piece) → lexemes at bytes (ps ++ (n, what) ∷ []) ≡ lexemes at bytes ps ++ add_lexeme (kind_of_piece what) (take n (drop (extent ps) bytes)) (at + extent ps) []
lexemes_push [] at bytes n what =
    let z : at + 0 ≡ at = omega arith in
    rw z refl
lexemes_push (x ∷ ps) at bytes n what =
    let place : at + (x.0 + extent ps) ≡ (at + x.0) + extent ps = omega arith in
    let rest : drop (extent ps) (drop x.0 bytes) ≡ drop (x.0 + extent ps) bytes = drop-drop (extent ps) x.0 bytes in
    let ih = lexemes_push ps (at + x.0) (drop x.0 bytes) n what in
    rw (place, ← rest) (ap (add_lexeme (kind_of_piece x.1) (take x.0 bytes) at) ih ∙ add_append (kind_of_piece x.1) (take x.0 bytes) at (lexemes (at + x.0) (drop x.0 bytes) ps) _)

-- These bytes are cut into pieces up to `at`, where the mode is this one and the last annotation opened at `opens`, and these are the tokens.
pub record Reached (bytes : List ℕ) (mode : Mode) (opens at : ℕ) (ts : List Lexeme) : Type 0 where
  pub within : at ≤ length bytes
  pub pieces : Pieces
  pub place : extent pieces ≡ at
  pub opened : opening 0 0 pieces ≡ opens
  pub leads : Leads m.Plain bytes pieces mode (drop at bytes)
  pub tokens : ts ≡ lexemes 0 bytes pieces

pub reached_none : (bytes : List ℕ) → Reached bytes m.Plain 0 0 []
reached_none bytes = record { within = omega arith; pieces = []; place = refl; opened = refl; leads = (refl, refl); tokens = refl }

pub reached_more : (bytes : List ℕ) (mode : Mode) (opens at n : ℕ) (what : Piece) (ts us : List Lexeme) → Reached bytes mode opens at ts → Cut mode (drop at bytes) n what
    → us ≡ ts ++ add_lexeme (kind_of_piece what) (take n (drop at bytes)) at [] → Reached bytes (after mode what) (opening_by what at opens) (at + n) us
reached_more bytes mode opens at n what ts us h c same = record {
  within = omega (arith, h.within, c.within, length-drop at bytes);
  pieces = h.pieces ++ (n, what) ∷ [];
  place = extent_push h.pieces n what ∙ ap (λ (i : ℕ). i + n) h.place;
  opened = let here : 0 + extent h.pieces ≡ at = omega (arith, h.place) in
      opening_push h.pieces 0 0 n what ∙ (ap (λ (i : ℕ). opening_by what i (opening 0 0 h.pieces)) here ∙ ap (opening_by what at) h.opened);
  leads = subst (λ (rest : List ℕ). Leads m.Plain bytes (h.pieces ++ (n, what) ∷ []) (after mode what) rest) (drop-drop n at bytes) (leads_push h.pieces m.Plain mode bytes (drop at bytes) n what h.leads c);
  tokens = let here : 0 + extent h.pieces ≡ at = omega (arith, h.place) in
      let push = lexemes_push h.pieces 0 bytes n what in
      let moved : lexemes 0 bytes (h.pieces ++ (n, what) ∷ []) ≡ lexemes 0 bytes h.pieces ++ add_lexeme (kind_of_piece what) (take n (drop at bytes)) at [] = push ∙ (ap (λ (i : ℕ). lexemes 0 bytes h.pieces ++ add_lexeme (kind_of_piece what) (take n (drop i bytes)) (0 + extent h.pieces) []) h.place ∙ ap (λ (i : ℕ). lexemes 0 bytes h.pieces ++ add_lexeme (kind_of_piece what) (take n (drop at bytes)) i []) here) in
      same ∙ (ap (λ (xs : List Lexeme). xs ++ add_lexeme (kind_of_piece what) (take n (drop at bytes)) at []) h.tokens ∙ sym moved);
}

opening_by_within : (what : Piece) (at so_far : ℕ) → so_far ≤ at → opening_by what at so_far ≤ at
opening_by_within (p.Opens mode) at so_far le = omega arith
opening_by_within p.Gap at so_far le = le
opening_by_within (p.Token kind) at so_far le = le

opening_within : (ps : Pieces) (so_far at : ℕ) → so_far ≤ at → opening so_far at ps ≤ at + extent ps
opening_within [] so_far at le = omega arith
opening_within (x ∷ ps) so_far at le =
    let here = opening_by_within x.1 at so_far le in
    omega (arith, opening_within ps (opening_by x.1 at so_far) (at + x.0) (omega arith))

-- an annotation opens before the place that is reached
pub opens_before : (bytes : List ℕ) (mode : Mode) (opens at : ℕ) (ts : List Lexeme) → Reached bytes mode opens at ts → opens ≤ at
opens_before bytes mode opens at ts h = omega (arith, opening_within h.pieces 0 0 (omega arith), h.place, h.opened)

-- The end of a text.

ends_not_block : (mode : Mode) → (mode ≡ m.Block → ⊥) → Ends mode
ends_not_block m.Plain ne = tt
ends_not_block m.Line ne = tt
ends_not_block m.Block ne = ne refl

-- a text that is cut to its end spells the tokens among its pieces
pub reached_end : (bytes : List ℕ) (mode : Mode) (opens at : ℕ) (ts us : List Lexeme) → Reached bytes mode opens at ts → length bytes ≤ at → (mode ≡ m.Block → ⊥)
    → us ≡ ts ++ ending mode (length bytes) ++ end_of_text bytes ∷ [] → IsLexed bytes us
reached_end bytes mode opens at ts us h all ne same = record {
  all = lexemes 0 bytes h.pieces ++ ending mode (length bytes);
  spelled = record {
    pieces = h.pieces;
    last = mode;
    leads = subst (λ (rest : List ℕ). Leads m.Plain bytes h.pieces mode rest) (drop_all at bytes all) h.leads;
    ends = ends_not_block mode ne;
    tokens = refl;
  };
  given = same ∙ ap (λ (xs : List Lexeme). xs ++ ending mode (length bytes) ++ end_of_text bytes ∷ []) h.tokens;
}

-- Faults.

bad_token : (bytes : List ℕ) (mode : Mode) (opens at : ℕ) (ts : List Lexeme) → Reached bytes mode opens at ts → NoCut mode (drop at bytes) → 0 < length (drop at bytes) → begins_comment (drop at bytes) ≡ false → StopsAt bytes f.BadToken (byte_fault f.BadToken at).span
bad_token bytes mode opens at ts h dead some e = record {
  cause = record { pieces = h.pieces; last = mode; rest = drop at bytes; leads = h.leads; cause = (sym h.place, some, dead, e) };
  end = refl;
}

open_cause : (mode : Mode) (opens at : ℕ) (ps : Pieces) (rest : List ℕ) → extent ps ≡ at → opening 0 0 ps ≡ opens → NoCut mode rest → begins_comment rest ≡ true → Cause f.OpenComment (open_place mode opens at) mode ps rest
open_cause m.Plain opens at ps rest place opened dead e = (sym place, dead, e)
open_cause m.Line opens at ps rest place opened dead e = (sym place, dead, e)
open_cause m.Block opens at ps rest place opened dead e = (sym opened, dead, λ _. e)

open_comment : (bytes : List ℕ) (mode : Mode) (opens at : ℕ) (ts : List Lexeme) → Reached bytes mode opens at ts → NoCut mode (drop at bytes) → begins_comment (drop at bytes) ≡ true → StopsAt bytes f.OpenComment (byte_fault f.OpenComment (open_place mode opens at)).span
open_comment bytes mode opens at ts h dead e = record {
  cause = record { pieces = h.pieces; last = mode; rest = drop at bytes; leads = h.leads; cause = open_cause mode opens at h.pieces (drop at bytes) h.place h.opened dead e };
  end = refl;
}

stuck_by : (bytes : List ℕ) (mode : Mode) (opens at : ℕ) (ts : List Lexeme) (fault : Fault) (c : Bool) → Reached bytes mode opens at ts → NoCut mode (drop at bytes) → 0 < length (drop at bytes) → begins_comment (drop at bytes) ≡ c
    → fault ≡ rest_fault mode opens at (drop at bytes) → IsFault fault.kind bytes fault
stuck_by bytes mode opens at ts fault true h dead some e is =
    let known : fault ≡ byte_fault f.OpenComment (open_place mode opens at) = is ∙ rw e refl in
    rw known (open_comment bytes mode opens at ts h dead e)
stuck_by bytes mode opens at ts fault false h dead some e is =
    let more : (length (drop at bytes) == 0) ≡ false = ne_eqb _ _ (omega arith) in
    let known : fault ≡ byte_fault f.BadToken at = is ∙ rw (e, more) refl in
    rw known (bad_token bytes mode opens at ts h dead some e)

-- where no piece stands, the text has its fault
pub stuck : (bytes : List ℕ) (mode : Mode) (opens at : ℕ) (ts : List Lexeme) (fault : Fault) → Reached bytes mode opens at ts → NoCut mode (drop at bytes) → at < length bytes
    → fault ≡ rest_fault mode opens at (drop at bytes) → IsFault fault.kind bytes fault
stuck bytes mode opens at ts fault h dead lt is = stuck_by bytes mode opens at ts fault (begins_comment (drop at bytes)) h dead (omega (arith, length-drop at bytes)) refl is

-- an annotation of a block that is open at the end of the text
pub open_at_end : (bytes : List ℕ) (opens at : ℕ) (ts : List Lexeme) (fault : Fault) → Reached bytes m.Block opens at ts → length bytes ≤ at → fault ≡ rest_fault m.Block opens at (drop at bytes) → IsFault fault.kind bytes fault
open_at_end bytes opens at ts fault h all is =
    let nothing = drop_all at bytes all in
    let known : fault ≡ byte_fault f.OpenComment opens = is ∙ rw nothing refl in
    let leads : Leads m.Plain bytes h.pieces m.Block [] = subst (λ (rest : List ℕ). Leads m.Plain bytes h.pieces m.Block rest) nothing h.leads in
    let stops : StopsAt bytes f.OpenComment (byte_fault f.OpenComment opens).span = record {
      cause = record { pieces = h.pieces; last = m.Block; rest = []; leads = leads; cause = (sym h.opened, no_cut m.Block, λ lt. absurd (omega arith)) };
      end = refl;
    } in
    rw known stops

-- want of memory
pub out_of_memory : (bytes : List ℕ) (fault : Fault) → fault ≡ memory_fault → IsFault fault.kind bytes fault
out_of_memory bytes fault is = subst (λ (g : Fault). IsFault g.kind bytes g) (sym is) refl

-- What is spelled is given.

only_fault : (bytes : List ℕ) (ts : List Lexeme) (kind : FaultKind) (fault : Fault) → IsFault kind bytes fault → Spells bytes ts → fault ≡ memory_fault
only_fault bytes ts f.BadToken fault h s = absurd (fault_excludes bytes f.BadToken fault.span.start ts h.cause s)
only_fault bytes ts f.OpenComment fault h s = absurd (fault_excludes bytes f.OpenComment fault.span.start ts h.cause s)
only_fault bytes ts f.OutOfMemory fault h s = h
only_fault bytes ts _ fault h s = absurd h

pub only : (bytes : List ℕ) (r : Result (Vec Token Global) Fault) (ts : List Lexeme) → IfOk r (λ v. IsLexed bytes (map lexeme v.items)) → IfErr r (λ x. IsFault x.kind bytes x) → Spells bytes ts → Answers bytes ts r
only bytes (Ok v) ts ok err s = ok.given ∙ ap (λ (us : List Lexeme). us ++ end_of_text bytes ∷ []) (one_spelling bytes ok.all ts ok.spelled s)
only bytes (Err fault) ts ok err s = only_fault bytes ts fault.kind fault err s

-- The tokens are parts of the text, one behind the other.

slices_end : (bytes : List ℕ) (ts : List Lexeme) → AreSlices bytes ts → AreSlices bytes (ts ++ end_of_text bytes ∷ [])
slices_end bytes [] h = (refl, tt)
slices_end bytes (t ∷ ts) h = (h.0, slices_end bytes ts h.1)

rise_end : (bytes : List ℕ) (from : ℕ) (ts : List Lexeme) → Rise from (length bytes) ts → Rise from (length bytes) (ts ++ end_of_text bytes ∷ [])
rise_end bytes from [] h = (h, omega arith)
rise_end bytes from (t ∷ ts) h = (h.0, rise_end bytes (t.start + length t.text) ts h.1)

pub lexed_parts : (bytes : List ℕ) (us : List Lexeme) → IsLexed bytes us → AreSlices bytes us
lexed_parts bytes us h = rw h.given (slices_end bytes h.all (tokens_rise bytes h.all h.spelled).0)

pub lexed_rise : (bytes : List ℕ) (us : List Lexeme) → IsLexed bytes us → Rise 0 (length bytes) us
lexed_rise bytes us h = rw h.given (rise_end bytes 0 h.all (tokens_rise bytes h.all h.spelled).1)

pub result_parts : (bytes : List ℕ) (r : Result (Vec Token Global) Fault) → IfOk r (λ v. IsLexed bytes (map lexeme v.items)) → IfOk r (λ v. AreSlices bytes (map lexeme v.items))
result_parts bytes (Ok v) h = lexed_parts bytes (map lexeme v.items) h
result_parts bytes (Err fault) h = tt

pub result_rise : (bytes : List ℕ) (r : Result (Vec Token Global) Fault) → IfOk r (λ v. IsLexed bytes (map lexeme v.items)) → IfOk r (λ v. Rise 0 (length bytes) (map lexeme v.items))
result_rise bytes (Ok v) h = lexed_rise bytes (map lexeme v.items) h
result_rise bytes (Err fault) h = tt
