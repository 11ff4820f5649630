use Rattle.std.proofs.Common.{sym, ap, ◌∙◌}
use Rattle.c0_typed.specs.Trees.{Constant}
use Rattle.c0_typed.specs.Values.{Text}
use Rattle.c0_rules.specs.Expressions.{Has}
use Rattle.c0_rules.specs.Types.{StringType}
use Rattle.c0_types_places.proofs.Texts.{text_missing, text_there}
use Rattle.c0_types_places.proofs.names.text.Goals as goal

pub unreachable-requires : goal.unreachable-requires
unreachable-requires c = text_missing c.args.terms.now.texts.now c.args.text.now c.requires (sym c.get.ensures.place ∙ c.in-None.is)

pub returns : goal.returns
returns c =
    ap (λ z. Has StringType (Constant (Text z))) (text_there c.args.terms.now.texts.now c.args.text.now c.in-Some.number c.requires (sym c.get.ensures.place ∙ c.in-Some.is))
