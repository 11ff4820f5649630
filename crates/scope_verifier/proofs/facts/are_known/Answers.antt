use Rattle.std.proofs.Common.{arith}
use Rattle.code_form.specs.declared.form.Fact.TheVariants.{Nonnull}
use Rattle.scope_verifier.proofs.Steps.{all_known, one_known, one_unknown}
use Rattle.scope_verifier.proofs.facts.are_known.Goals as goal

pub returns-then-not-is_known : goal.returns-then-not-is_known
returns-then-not-is_known c = λ R S k h. one_unknown k c.args.facts.now c.loop-fact.fact-index (Nonnull 0) c.is_known.result (omega arith) (c.is_known.ensures R S k h) (c.loop-fact.invariant R S k h) c.if-not-is_known.true

pub loop-fact-preserved : goal.loop-fact-preserved
loop-fact-preserved c = λ R S k h. one_known k c.args.facts.now c.loop-fact.fact-index (Nonnull 0) c.is_known.result (omega arith) (c.is_known.ensures R S k h) (c.loop-fact.invariant R S k h) c.if-not-is_known.false

pub returns : goal.returns
returns c = λ R S k h. all_known k c.args.facts.now c.loop-fact.fact-index (omega arith) (c.loop-fact.invariant R S k h)
