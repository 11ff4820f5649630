use Rattle.std.proofs.Common.{◌≡◌, false, rules}
use Rattle.c0_syntax.specs.Views.{expression_of}
use Rattle.c0_rules.specs.Expressions.{typed_expression}
use Rattle.c0_rules.specs.FaultExpressions.{is_value}
use Rattle.c0_types_terms.specs.Terms.{context_of, env_of, typing_of}
use Rattle.c0_types_terms.proofs.Causes.{among}
use Rattle.c0_types_expressions.proofs.Operands.{void_told}
use Rattle.c0_types_expressions.proofs.terms.forms.required.Goals as goal

pub returns-then-not-is_void-clause-cause : goal.returns-then-not-is_void-clause-cause
returns-then-not-is_void-clause-cause c =
    let s = c.args.terms.now in
    let void : is_value (typing_of s.texts.now c.args.typing) ≡ false = search rules in
    among (void_told (typed_expression (env_of s) (context_of s) (expression_of c.args.e.now)) (typing_of s.texts.now c.args.typing) c.requires void (λ e h. c.void_use.ensures e h))
