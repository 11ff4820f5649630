use Rattle.std.proofs.Common.{◌+◌, ◌*◌, sym, ◌∙◌}
use Rattle.std.proofs.Common.{drop}
use Rattle.c0_lexer.proofs.Numbers.{hex_beyond, hex_next}
use Rattle.c0_lexer.proofs.number.hexadecimal_value.Goals as goal

pub returns-then-value-gt-LARGEST_HEXADECIMAL : goal.returns-then-value-gt-LARGEST_HEXADECIMAL
returns-then-value-gt-LARGEST_HEXADECIMAL c =
    let digits = c.args.digits.now in
    let next = hex_next c.loop-b.value c.loop-b.b-index c.in_ok-digit.digit digits c.loop-b-test.true (sym c.hex_digit.ensures ∙ c.in_ok-digit.was) in
    let over = hex_beyond (c.loop-b.value * 16 + c.in_ok-digit.digit) (drop (c.loop-b.b-index + 1) digits) c.if-value-gt-LARGEST_HEXADECIMAL.true in
    sym (next ∙ over) ∙ c.loop-b.invariant.rest

pub loop-b-preserved : goal.loop-b-preserved
loop-b-preserved c =
    let next = hex_next c.loop-b.value c.loop-b.b-index c.in_ok-digit.digit c.args.digits.now c.loop-b-test.true (sym c.hex_digit.ensures ∙ c.in_ok-digit.was) in
    record { rest = sym next ∙ c.loop-b.invariant.rest; most = c.if-value-gt-LARGEST_HEXADECIMAL.false }
