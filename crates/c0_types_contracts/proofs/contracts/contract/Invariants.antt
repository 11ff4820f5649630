use Rattle.std.proofs.Common.{◌≡◌, drop, map}
use Rattle.c0_syntax.specs.Views.{annotation_of}
use Rattle.c0_rules.specs.Mentions.{specs_in}
use Rattle.c0_types_terms.specs.Terms.{context_of, env_of}
use Rattle.c0_types_contracts.specs.ContractViews.{conditions_of, contract_of, specs_added}
use Rattle.c0_types_contracts.proofs.contracts.contract.Given as goal

-- the conditions so far, with those of the annotations that are left
abbrev pub invariant-loop-annotation : goal.invariant-loop-annotation
invariant-loop-annotation l =
    specs_added (env_of l.before) (context_of l.before) (context_of l.behind) (specs_in (map annotation_of (drop l.annotation-index l.annotations))) (conditions_of l.before.texts.now l.conditions)
    ≡ contract_of (env_of l.before) (context_of l.before) (context_of l.behind) (specs_in (map annotation_of l.annotations))
