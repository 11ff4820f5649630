use Rattle.std.proofs.Common.{None, Some}
use Rattle.std.proofs.lemmas.Bool.{MatchBool-at_false, MatchBool-at_true}
use Rattle.schedule_lines.proofs.Numbers.{behind, no_digits, no_more, not_digit, too_great_with}
use Rattle.schedule_lines.proofs.line.digits_of.Goals as goal

pub returns-then-not-is_ascii_digit : goal.returns-then-not-is_ascii_digit
returns-then-not-is_ascii_digit c =
    let rest = c.loop-rest.rest.now in
    let ends = not_digit rest c.in-len1-up.len_at_least (MatchBool-at_false _ _ c.if-not-is_ascii_digit.true c.is_ascii_digit.ensures.cases) in
    c.loop-rest.invariant (Some (c.loop-rest.number, c.loop-rest.rest)) (no_digits c.loop-rest.number rest ends)

pub returns-in_default-with_digit : goal.returns-in_default-with_digit
returns-in_default-with_digit c =
    let digit = MatchBool-at_true _ _ c.if-not-is_ascii_digit.false c.is_ascii_digit.ensures.cases in
    c.loop-rest.invariant None (too_great_with c.loop-rest.number c.loop-rest.rest.now c.in-len1-up.len_at_least digit c.in_default-with_digit.ensures)

pub loop-rest-preserved : goal.loop-rest-preserved
loop-rest-preserved c =
    let digit = MatchBool-at_true _ _ c.if-not-is_ascii_digit.false c.is_ascii_digit.ensures.cases in
    (λ r told. c.loop-rest.invariant r (behind c.loop-rest.number _ c.loop-rest.rest.now r c.in-len1-up.len_at_least digit c.in-Some.ensures told))

pub returns : goal.returns
returns c = c.loop-rest.invariant (Some (c.loop-rest.number, c.loop-rest.rest)) (no_digits c.loop-rest.number c.loop-rest.rest.now (no_more c.loop-rest.rest.now c.in_default.len_below))
