use Rattle.std.proofs.Common.{◌∙◌, ap, sym}
use Rattle.std.specs.Prelude.{◌||◌, is_some}
use Rattle.c0_rules.specs.Types.{is_among}
use Rattle.c0_types_tables.proofs.Numbers.{placed_is}
use Rattle.c0_types_tables.proofs.environment.Environment.has_definition.Goals as goal

pub returns-else-is_output : goal.returns-else-is_output
returns-else-is_output c =
    c.is_some.ensures ∙ ap is_some c.get.ensures.place ∙ placed_is 0 c.args.self.now.function_names c.args.name.now
    ∙ sym (ap (λ b. b || is_among c.args.name.now c.args.self.now.function_names) (sym c.is_output.ensures ∙ c.if-is_output.false))
