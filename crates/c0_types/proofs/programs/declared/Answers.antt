use Rattle.std.proofs.Common.{map, sym, subst}
use Rattle.c0_syntax.specs.Views.{declaration_of}
use Rattle.c0_types.specs.FunctionViews.{DeclarationsHaveTexts}
use Rattle.c0_types.proofs.TextSteps.{program_has}
use Rattle.c0_types.proofs.programs.declared.Goals as goal

pub declarations-requires : goal.declarations-requires
declarations-requires c =
    let program = map declaration_of c.args.declarations.now in
    subst (λ texts. DeclarationsHaveTexts texts program) (sym c.in_ok-texts.ensures) (program_has program)
