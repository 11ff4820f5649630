use Rattle.std.proofs.Common.{◌∙◌, string_bytes}
use Rattle.c0_values.proofs.Heaps.{text_is}
use Rattle.c0_values.proofs.plain_state.text_at.Goals as goal

pub returns-in-Some : goal.returns-in-Some
returns-in-Some c =
    let found = c.in-Some.ensures.lookup.3 in
    let x = c.in-Some.text.now in
    c.as_str.ensures.value ∙ text_is string_bytes c.args.texts.now c.args.number x c.if-number-eq0.false found.0 (found.1 x)
