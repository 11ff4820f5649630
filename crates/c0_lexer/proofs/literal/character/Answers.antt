use Rattle.std.proofs.Common.{sym, ◌∙◌}
use Rattle.c0_lexer.proofs.Literals.{escaped_front, no_escaped, plain_front, no_plain}
use Rattle.c0_lexer.proofs.literal.character.Goals as goal

pub returns-in_err-code : goal.returns-in_err-code
returns-in_err-code c =
    let none = sym c.escaped_code.ensures ∙ c.in_err-code.was in
    let second = sym c.byte_at.ensures ∙ c.if-byte_at-eq92.true in
    rw c.from_residual.ensures (no_escaped c.args.mode c.args.text.now c.requires second none)

pub returns-then-byte_at-eq92 : goal.returns-then-byte_at-eq92
returns-then-byte_at-eq92 c =
    let some = sym c.escaped_code.ensures ∙ c.in_ok-code.was in
    let second = sym c.byte_at.ensures ∙ c.if-byte_at-eq92.true in
    escaped_front c.args.mode c.args.text.now c.in_ok-code.code c.requires second some

pub returns-in_err-code-2 : goal.returns-in_err-code-2
returns-in_err-code-2 c =
    let none = sym c.plain_code.ensures ∙ c.in_err-code-2.was in
    rw c.from_residual-in_err-code-2.ensures (no_plain c.args.mode c.args.text.now c.requires (λ e. c.if-byte_at-eq92.false (c.byte_at.ensures ∙ e)) none)

pub returns : goal.returns
returns c =
    let some = sym c.plain_code.ensures ∙ c.in_ok-code-2.was in
    plain_front c.args.mode c.args.text.now c.in_ok-code-2.code c.requires (λ e. c.if-byte_at-eq92.false (c.byte_at.ensures ∙ e)) some
