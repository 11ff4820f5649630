use Rattle.std.proofs.Common.{sym, ◌∙◌, arith}
use Rattle.c0_lexer.proofs.Numbers.{digits_over}
use Rattle.c0_lexer.proofs.number.decimal_value.Goals as goal

pub returns-then-value-gt-LARGEST_DECIMAL : goal.returns-then-value-gt-LARGEST_DECIMAL
returns-then-value-gt-LARGEST_DECIMAL c =
    let digit = sym c.is_digit.ensures ∙ c.if-not-is_digit.false in
    sym (digits_over c.loop-b.value c.loop-b.b-index c.args.digits.now c.loop-b-test.true digit (omega (arith, c.from.ensures))) ∙ c.loop-b.invariant.rest
