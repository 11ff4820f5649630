use Rattle.std.proofs.Common.{map, ◌∙◌}
use Rattle.c0_syntax.specs.Views.{declaration_of}
use Rattle.c0_rules.specs.Mentions.{program_mentions}
use Rattle.c0_types_flow.proofs.Collected.{texts_are}
use Rattle.c0_types_flow.proofs.mentioned.check_texts.Goals as goal

pub returns-clause-answers : goal.returns-clause-answers
returns-clause-answers c = c.check_declarations.ensures.answers ∙ texts_are (program_mentions (map declaration_of c.args.declarations.now))
