use Rattle.std.proofs.Common.{◌∙◌, ap, sym}
use Rattle.command_line.specs.Shell.{is_signed}
use Rattle.command_line.proofs.Numbers.{no_number, number_read}
use Rattle.command_line.proofs.line.number.Goals as goal

pub returns-then-has_plus : goal.returns-then-has_plus
returns-then-has_plus c = no_number c.args.text.now (ap is_signed (sym c.as_bytes.ensures.value) ∙ sym c.has_plus.ensures ∙ c.if-has_plus.true)

pub returns : goal.returns
returns c =
    let plain = ap is_signed (sym c.as_bytes.ensures.value) ∙ sym c.has_plus.ensures ∙ c.if-has_plus.false in
    c.ok.ensures.value ∙ number_read c.args.text.now c.parse.result plain c.parse.ensures.value.0
