use Rattle.std.proofs.Common.{◌≡◌, List, Some, inr, map, subst}
use Rattle.std.specs.Prelude.{true}
use Rattle.std.proofs.lemmas.Result.{err_from_is_err_and}
use Rattle.c0_syntax.specs.Views.{declaration_of}
use Rattle.c0_syntax.specs.declared.program.Declaration.{Declaration}
use Rattle.c0_types.specs.DeclareViews.{elaboration_of}
use Rattle.c0_rules.proofs.Programs.{DefinedThere, defined_there}
use Rattle.c0_rules.proofs.Rules.{some_has}
use Rattle.c0_rules.specs.Programs.{beginning, function_names_of, main_name, typed_declarations}
use Rattle.c0_rules.specs.Types.{is_among}
use Rattle.c0_types.proofs.programs.checked.Goals as goal

pub check_whole-requires : goal.check_whole-requires
check_whole-requires c = λ defined.
    let program = map declaration_of c.deref.result.now in
    let made = elaboration_of c.in_ok-elaborated.field-0.texts c.in_ok-elaborated.field-0.elaborated in
    let there = some_has (DefinedThere program) (typed_declarations program (beginning program)) made (defined_there program) c.in_ok-elaborated.ensures.answers main_name defined in
    subst (λ (xs : List Declaration). is_among main_name (function_names_of (map declaration_of xs)) ≡ true) c.deref.ensures.value there

pub returns-in_err-check_whole-clause-cause : goal.returns-in_err-check_whole-clause-cause
returns-in_err-check_whole-clause-cause c =
    let made = elaboration_of c.in_ok-elaborated.field-0.texts c.in_ok-elaborated.field-0.elaborated in
    let is = subst (λ (xs : List Declaration). typed_declarations (map declaration_of xs) (beginning (map declaration_of xs)) ≡ Some made) c.deref.ensures.value c.in_ok-elaborated.ensures.answers in
    let p = err_from_is_err_and c.from_residual-in_err-check_whole.result c.from_residual-in_err-check_whole.ensures.1 in
    rw (p.1, p.2) (inr (inr (made, is, c.in_err-check_whole.ensures.cause)))
