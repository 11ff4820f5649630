use Rattle.std.proofs.Common.{◌≡◌, drop, map}
use Rattle.c0_syntax.specs.Views.{spec_of}
use Rattle.c0_types_terms.specs.Terms.{context_of, env_of}
use Rattle.c0_types_contracts.specs.ContractViews.{conditions_of, specs_added}
use Rattle.c0_types_contracts.proofs.contracts.push_specs.Given as goal

-- the conditions so far, with those of the specs that are left
abbrev pub invariant-loop-spec : goal.invariant-loop-spec
invariant-loop-spec l =
    specs_added (env_of l.before) (context_of l.before) (context_of l.behind) (map spec_of (drop l.spec-index l.specs)) (conditions_of l.before.texts.now l.conditions)
    ≡ specs_added (env_of l.before) (context_of l.before) (context_of l.behind) (map spec_of l.specs) (conditions_of l.before.texts.now l.fn.conditions)
