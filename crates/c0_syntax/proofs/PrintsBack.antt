-- What is printed of a program reads back.
use Rattle.std.proofs.Common.{◌≡◌, ℕ, ◌+◌, Bool, List, [], ◌∷◌, ◌++◌, length, take, drop, map, refl, sym, ap, subst, ◌∙◌}
use Rattle.c0_source.specs.declared.kind.Kind.{Kind}
use Rattle.c0_source.specs.declared.kind.Kind.TheVariants as k
use Rattle.c0_source.specs.declared.kind.Mode.{Mode}
use Rattle.c0_source.specs.declared.kind.Mode.TheVariants as m
use Rattle.c0_source.specs.declared.kind.Piece.{Piece}
use Rattle.c0_source.specs.declared.kind.Piece.TheVariants as p
use Rattle.c0_source.specs.Spelling.{Pieces, Leads, Ends, ending, after, kind_of_piece, add_lexeme, lexemes, Lexeme}
use Rattle.c0_source.specs.Terminals.{Terminal, Sign, terminal_by, terminals}
use Rattle.c0_syntax.specs.declared.mark.Gap.TheVariants as g
use Rattle.c0_syntax.specs.Trees.{Program}
use Rattle.c0_syntax.specs.Programs.{Reads}
use Rattle.c0_syntax.specs.Layouts.{Mark, layout_program}
use Rattle.c0_syntax.specs.Printing.{printed, ReadsBack, PrintsBack}
use Rattle.c0_syntax.proofs.Again.{blocked, Again, Rewritten, rewritten}
use Rattle.c0_syntax.proofs.Chains.{Written, NotLine, AllWritten, Chain, chain}
use Rattle.c0_syntax.proofs.Tokens.{tokens_of_layout}

not_line : (mode : Mode) → NotLine (blocked mode)
not_line m.Plain = tt
not_line m.Line = tt
not_line m.Block = tt

after_token : (mode : Mode) (kind : Kind) → after (blocked mode) (p.Token kind) ≡ blocked (after mode (p.Token kind))
after_token mode k.End = refl
after_token mode _ = refl

begin_written : Written m.Plain (Sign k.Begin)
begin_written = record { what = p.Opens m.Block; kind = k.Begin; shape = refl; token = refl; same = refl; stands = λ x us j. refl }

end_written : Written m.Block (Sign k.End)
end_written = record { what = p.Token k.End; kind = k.End; shape = refl; token = refl; same = refl; stands = λ x us j. refl }

token_written : (mode : Mode) (kind : Kind) (s : List ℕ) → Again mode kind s → Written mode (terminal_by kind s)
token_written mode kind s a = record { what = p.Token kind; kind = kind; shape = a.shape; token = refl; same = a.same; stands = a.stands }

piece_written : (mode : Mode) (s : List ℕ) (what : Piece) (at : ℕ) (ls behind : List Lexeme) → Rewritten mode s what → AllWritten (blocked (after mode what)) (terminals (ls ++ behind))
    → AllWritten (blocked mode) (terminals (add_lexeme (kind_of_piece what) s at ls ++ behind))
unfolding begin_written token_written
piece_written mode s p.Gap at ls behind r h = h
piece_written mode s (p.Opens next) at ls behind r h =
    let inner : AllWritten m.Block (terminals (ls ++ behind)) = subst (λ (x : Mode). AllWritten x (terminals (ls ++ behind))) r.1 h in
    let whole : AllWritten m.Plain (Sign k.Begin ∷ terminals (ls ++ behind)) = (tt, begin_written, inner) in
    subst (λ (x : Mode). AllWritten (blocked x) (Sign k.Begin ∷ terminals (ls ++ behind))) (sym r.0) whole
piece_written mode s (p.Token kind) at ls behind r h =
    (not_line mode, token_written (blocked mode) kind s r, subst (λ (x : Mode). AllWritten x (terminals (ls ++ behind))) (sym (after_token mode kind)) h)

last_written : (last : Mode) (at : ℕ) → Ends last → AllWritten (blocked last) (terminals (ending last at))
unfolding end_written
last_written m.Plain at e = refl
last_written m.Line at e = (tt, end_written, refl)
last_written m.Block at e = absurd e

-- the tokens of a text can be written one by one
all_written : (mode : Mode) (bytes : List ℕ) (ps : Pieces) (last : Mode) (at end : ℕ) → Leads mode bytes ps last [] → Ends last → AllWritten (blocked mode) (terminals (lexemes at bytes ps ++ ending last end))
all_written mode bytes [] last at end l e = subst (λ (x : Mode). AllWritten (blocked x) (terminals (ending last end))) (sym l.0) (last_written last end e)
all_written mode bytes (x ∷ ps) last at end l e =
    piece_written mode (take x.0 bytes) x.1 at (lexemes (at + x.0) (drop x.0 bytes) ps) (ending last end) (rewritten mode (take x.0 bytes) x.1 l.0.shape)
    (all_written (after mode x.1) (drop x.0 bytes) ps last (at + x.0) end l.1 e)

append_nothing : (ls : List Lexeme) → ls ++ [] ≡ ls
append_nothing [] = refl
append_nothing (x ∷ ls) = ap (λ (t : List Lexeme). x ∷ t) (append_nothing ls)

spelled_by : (loops : Bool) (program : Program) (bytes : List ℕ) (ts : List Terminal) → Chain m.Plain bytes ts → Reads loops ts program → ReadsBack loops bytes program
spelled_by loops program bytes ts c r = record {
  tokens = lexemes 0 bytes c.pieces;
  spelled = record { pieces = c.pieces; last = m.Plain; leads = c.leads; ends = tt; tokens = sym (append_nothing (lexemes 0 bytes c.pieces)) };
  reads = subst (λ (us : List Terminal). Reads loops us program) (sym (c.told 0)) r;
}

pub prints_back : (program : Program) → PrintsBack (printed program) program
prints_back program loops bytes r =
    let s = r.spelled in
    let seen : AllWritten m.Plain (terminals r.tokens) = subst (λ (ls : List Lexeme). AllWritten m.Plain (terminals ls)) (sym s.tokens) (all_written m.Plain bytes s.pieces s.last 0 (length bytes) s.leads s.ends) in
    let same : terminals r.tokens ≡ map (λ (x : Mark). x.token) (layout_program g.Touching program) = r.reads.spelled ∙ sym (tokens_of_layout g.Touching program) in
    let laid = subst (AllWritten m.Plain) same seen in
    let reads = subst (λ (us : List Terminal). Reads loops us program) same r.reads in
    spelled_by loops program (printed program) (map (λ (x : Mark). x.token) (layout_program g.Touching program)) (chain 0 (layout_program g.Touching program) m.Plain laid) reads
