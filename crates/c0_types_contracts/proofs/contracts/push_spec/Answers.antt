use Rattle.std.proofs.Common.{rules, ◌≡◌, ◌++◌, ◌∷◌, [], ◌∙◌}
use Rattle.std.proofs.lemmas.Result.{err_from_is_err_and}
use Rattle.c0_source.specs.declared.kind.Clause.TheVariants as k
use Rattle.c0_syntax.specs.declared.statement.SpecKind.TheVariants as p
use Rattle.c0_typed.specs.Views.{exps_of}
use Rattle.c0_types_terms.specs.Terms.{context_of, env_of}
use Rattle.c0_types_contracts.specs.ContractViews.{conditions_of}
use Rattle.c0_types_contracts.proofs.ContractSteps.{ensures_cause, ensures_more, ensures_none, requires_more}
use Rattle.c0_types_contracts.proofs.contracts.push_spec.Goals as goal

pub returns-in_err-found-in-Contract-Ensures-clause-answers : goal.returns-in_err-found-in-Contract-Ensures-clause-answers
returns-in_err-found-in-Contract-Ensures-clause-answers c =
    let before = c.args.before.now in
    let behind = c.args.behind.now in
    let is : c.args.spec.now.kind ≡ p.Contract k.Ensures = search rules in
    let result = c.from_residual-in_err-found-in-Contract-Ensures in
    let q = err_from_is_err_and result.result result.ensures.1 in
    rw (q.1, q.2) (ensures_none (env_of before) (context_of before) (context_of behind) c.args.spec.now is (env_of behind) c.requires.environment (conditions_of before.texts.now c.args.conditions.now) c.in_err-found-in-Contract-Ensures.ensures.answers)

pub returns-in_err-found-in-Contract-Ensures-clause-cause : goal.returns-in_err-found-in-Contract-Ensures-clause-cause
returns-in_err-found-in-Contract-Ensures-clause-cause c =
    let before = c.args.before.now in
    let behind = c.args.behind.now in
    let is : c.args.spec.now.kind ≡ p.Contract k.Ensures = search rules in
    let result = c.from_residual-in_err-found-in-Contract-Ensures in
    let q = err_from_is_err_and result.result result.ensures.1 in
    rw (q.1, q.2) (ensures_cause (env_of before) (context_of before) (context_of behind) c.args.spec.now is (env_of behind) c.requires.environment c.in_err-found-in-Contract-Ensures.field-0.0 c.in_err-found-in-Contract-Ensures.ensures.cause)

pub returns-in_ok-push-in-Contract-Requires-clause-answers : goal.returns-in_ok-push-in-Contract-Requires-clause-answers
returns-in_ok-push-in-Contract-Requires-clause-answers c =
    let before = c.args.before.now in
    let so_far = c.args.conditions.now in
    let is : c.args.spec.now.kind ≡ p.Contract k.Requires = search rules in
    let found = c.in_ok-found-in-Contract-Requires in
    let items : c.push.new.self.items ≡ so_far.preconditions.items ++ found.found ∷ [] = c.in_ok-push-in-Contract-Requires.ensures.items in
    requires_more (env_of before) (context_of before) (context_of c.args.behind.now) c.args.spec.now is before.texts.now so_far.preconditions.items (exps_of before.texts.now so_far.postconditions.items) found.found found.ensures.answers
    ∙ rw items

pub returns-in_ok-push-in-Contract-Ensures-clause-answers : goal.returns-in_ok-push-in-Contract-Ensures-clause-answers
returns-in_ok-push-in-Contract-Ensures-clause-answers c =
    let before = c.args.before.now in
    let behind = c.args.behind.now in
    let so_far = c.args.conditions.now in
    let is : c.args.spec.now.kind ≡ p.Contract k.Ensures = search rules in
    let found = c.in_ok-found-in-Contract-Ensures in
    let items : c.push-in-Contract-Ensures.new.self.items ≡ so_far.postconditions.items ++ found.found ∷ [] = c.in_ok-push-in-Contract-Ensures.ensures.items in
    ensures_more (env_of before) (context_of before) (context_of behind) c.args.spec.now is (env_of behind) c.requires.environment before.texts.now behind.texts.now c.requires.texts (exps_of before.texts.now so_far.preconditions.items) so_far.postconditions.items found.found found.ensures.answers
    ∙ rw items
