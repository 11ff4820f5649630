use Rattle.std.proofs.Common.{◌≡◌, ℕ, ◌+◌, ◌-◌, List, [], ◌∷◌, ◌++◌, length, take, drop, map, ap, subst, ◌∙◌, arith}
use Rattle.std.proofs.lemmas.List.{take_rest}
use Rattle.c0_source.specs.Spelling.{Cut, NoCut, add_lexeme, end_at, ending, kind_of_piece}
use Rattle.c0_lexer.specs.Lexed.{lexeme, rest_fault}
use Rattle.c0_lexer.proofs.Reached.{reached_more, reached_end, opens_before, stuck}
use Rattle.c0_lexer.proofs.lex.tokens_of.Goals as goal

pub fault_at-requires-clause-before : goal.fault_at-requires-clause-before
fault_at-requires-clause-before c = opens_before c.args.text.now c.loop-at.mode c.loop-at.opening c.loop-at.at (map lexeme c.loop-at.tokens.items) c.loop-at.invariant

pub fault_at-requires-in-Block-clause-before : goal.fault_at-requires-in-Block-clause-before
fault_at-requires-in-Block-clause-before c = opens_before c.args.text.now c.loop-at.mode c.loop-at.opening c.loop-at.at (map lexeme c.loop-at.tokens.items) c.loop-at.invariant

pub returns-in_default-clause-fault : goal.returns-in_default-clause-fault
returns-in_default-clause-fault c =
    let text = c.args.text.now in
    let rest = take_rest text c.loop-at.at in
    let dead = subst (NoCut c.loop-at.mode) rest c.in_default.ensures in
    let told = c.fault_at.ensures ∙ ap (rest_fault c.loop-at.mode c.loop-at.opening c.loop-at.at) rest in
    stuck text c.loop-at.mode c.loop-at.opening c.loop-at.at (map lexeme c.loop-at.tokens.items) c.fault_at.result c.loop-at.invariant dead c.loop-at-test.true told

pub loop-at-preserved : goal.loop-at-preserved
loop-at-preserved c =
    let text = c.args.text.now in
    let at = c.loop-at.at in
    let n = c.in-Some.longest.length in
    let what = c.in-Some.longest.piece in
    let ts = map lexeme c.loop-at.tokens.items in
    let cut = subst (λ (bytes : List ℕ). Cut c.loop-at.mode bytes n what) (take_rest text at) c.in-Some.ensures in
    let size : (at + n) - at ≡ n = omega arith in
    let pushed = c.in_ok-push_piece.ensures.ok ∙ ap (λ (k : ℕ). ts ++ add_lexeme (kind_of_piece what) (take k (drop at text)) at []) size in
    rw (c.mode_after-mode.ensures, c.opening_after-opening.ensures) (reached_more text c.loop-at.mode c.loop-at.opening at n what ts (map lexeme c.push_piece.new.tokens.items) c.loop-at.invariant cut pushed)

pub returns-clause-spelled : goal.returns-clause-spelled
returns-clause-spelled c =
    let text = c.args.text.now in
    let within = c.loop-at.invariant.within in
    let ts = map lexeme c.loop-at.tokens.items in
    let end : c.loop-at.at ≡ length text = omega arith in
    let pushed = c.in_ok-push_ends-in_default-mode.ensures.ok ∙ ap (λ (at : ℕ). ts ++ ending c.loop-at.mode at ++ end_at at ∷ []) end in
    reached_end text c.loop-at.mode c.loop-at.opening c.loop-at.at ts (map lexeme c.push_ends.new.tokens.items) c.loop-at.invariant c.loop-at-test.false c.in_default-mode.not-Block pushed
