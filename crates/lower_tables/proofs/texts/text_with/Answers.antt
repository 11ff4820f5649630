use Rattle.std.proofs.Common.{◌≡◌, ◌-◌, ◌<◌, [], arith, sym, ap, ◌∙◌, length, get_or, map}
use Rattle.std.specs.Prelude.{string_bytes}
use Rattle.std.proofs.lemmas.List.{get_or-map}
use Rattle.lower_tables.proofs.TextNumbers.{text_above}
use Rattle.lower_tables.proofs.texts.text_with.Goals as goal

pub returns-in-Some : goal.returns-in-Some
returns-in-Some c =
    let texts = c.args.texts.now in
    let found = c.in-Some.ensures.lookup.3 in
    let text = c.in-Some.text.now in
    let here : text ≡ get_or texts (c.args.number - 1) text = found.1 text in
    let within : c.args.number - 1 < length texts = found.0 in
    c.as_str.ensures.value ∙ ap string_bytes here ∙ sym (get_or-map string_bytes texts (c.args.number - 1) text [] within) ∙ sym (text_above (map string_bytes texts) c.args.number (omega arith))
