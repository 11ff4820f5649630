use Rattle.std.proofs.Common.{◌≡◌, ℕ, suc, ◌-◌, ◌<◌, [], List, rules, arith, sym, ap, ◌∙◌, length, get_or, drop, map}
use Rattle.std.specs.Prelude.{string_bytes}
use Rattle.std.specs.BTreeMap.{get_by_text}
use Rattle.std.proofs.lemmas.List.{get_or-map, length-map}
use Rattle.lower_tables.specs.Texts.{number_from}
use Rattle.lower_tables.proofs.TextNumbers.{one_more}
use Rattle.lower_tables.proofs.texts.text_numbers.Goals as goal

pub loop-i-preserved : goal.loop-i-preserved
loop-i-preserved c =
    let texts = map string_bytes c.args.texts.now in
    let i = c.loop-i.i - 1 in
    let up : c.loop-i.i ≡ suc i = omega arith in
    let known : (bytes : List ℕ) → get_by_text c.loop-i.numbers bytes ≡ number_from (suc (suc i)) (drop (suc i) texts) bytes = λ bytes. c.loop-i.invariant bytes ∙ ap (λ n. number_from (suc n) (drop n texts) bytes) up in
    let within : i < length texts = omega (arith, length-map c.args.texts.now string_bytes) in
    let cloned : string_bytes c.in_ok-key.key ≡ string_bytes c.index-texts-i.result = search rules in
    let key : string_bytes c.in_ok-key.key ≡ get_or texts i [] =
    cloned ∙ ap string_bytes c.index-texts-i.is ∙ sym (get_or-map string_bytes c.args.texts.now i c.index-texts-i.result [] (omega arith)) in
    one_more texts i (string_bytes c.in_ok-key.key) c.loop-i.numbers c.insert.new.self _ within key known c.in_ok-insert.ensures.updates (omega arith)
