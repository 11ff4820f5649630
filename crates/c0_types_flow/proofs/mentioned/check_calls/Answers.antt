use Rattle.std.proofs.Common.{map, ◌∙◌, subst}
use Rattle.std.proofs.lemmas.Result.{IfErr-weaker}
use Rattle.c0_source.specs.declared.fault.FaultKind.TheVariants.{NotDefined}
use Rattle.c0_syntax.specs.Views.{declaration_of}
use Rattle.c0_rules.specs.FaultPrograms.{NamedAmong}
use Rattle.c0_rules.specs.Mentions.{program_mentions}
use Rattle.c0_types_tables.specs.Views.{environment_of}
use Rattle.c0_types_flow.proofs.Collected.{calls_are, all_unknown}
use Rattle.c0_types_flow.proofs.mentioned.check_calls.Goals as goal

pub returns-clause-answers : goal.returns-clause-answers
returns-clause-answers c = c.check_declarations.ensures.answers ∙ calls_are (environment_of c.args.environment.now) (program_mentions (map declaration_of c.args.declarations.now))

pub returns-clause-cause : goal.returns-clause-cause
returns-clause-cause c =
    IfErr-weaker c.check_declarations.result _ _ (λ f h. subst (λ test. NamedAmong f test NotDefined c.args.declarations.now) (all_unknown (environment_of c.args.environment.now) f) h) c.check_declarations.ensures.cause
