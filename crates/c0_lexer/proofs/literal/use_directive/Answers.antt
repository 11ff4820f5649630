use Rattle.std.proofs.Common.{sym, ◌∙◌, ap}
use Rattle.std.proofs.lemmas.List.{take_rest}
use Rattle.c0_lexer.specs.Ends.{use_end}
use Rattle.c0_lexer.proofs.Literals.{use_front, no_use, not_use}
use Rattle.c0_lexer.proofs.literal.use_directive.Goals as goal

pub returns-then-not-starts_with : goal.returns-then-not-starts_with
returns-then-not-starts_with c = not_use c.args.mode c.args.text.now c.requires (sym c.starts_with.ensures.value ∙ c.if-not-starts_with.true)

pub returns-in_err-length : goal.returns-in_err-length
returns-in_err-length c =
    let begins = sym c.starts_with.ensures.value ∙ c.if-not-starts_with.false in
    let none = sym (c.used_length.ensures.value ∙ ap (use_end 0) (take_rest c.args.text.now 4)) ∙ c.in_err-length.was in
    rw c.from_residual.ensures (no_use c.args.mode c.args.text.now begins none)

pub returns : goal.returns
returns c =
    let begins = sym c.starts_with.ensures.value ∙ c.if-not-starts_with.false in
    let end = sym (c.used_length.ensures.value ∙ ap (use_end 0) (take_rest c.args.text.now 4)) ∙ c.in_ok-length.was in
    use_front c.args.mode c.args.text.now c.in_ok-length.length begins end
