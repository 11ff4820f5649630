use Rattle.std.proofs.Common.{rules, subst, sym}
use Rattle.cells.specs.declared.ending.Run.TheVariants.{Stopped, Wanted}
use Rattle.cells.specs.declared.ending.Want.TheVariants.{StoreFailed}
use Rattle.session.specs.Performing.{PerformsSome}
use Rattle.session.specs.State.{Logged}
use Rattle.session.proofs.Performing.{acts_then, performs_both, performs_more}
use Rattle.session.proofs.program.SeatedProgram.run.Goals as goal

pub returns-in-Failed-clause-acts : goal.returns-in-Failed-clause-acts
returns-in-Failed-clause-acts g c = λ q.
    let u = c.run_plain-left.new.self in
    let before = performs_both g.S.RawStore.honest c.args.self.now c.loop-left.self u c.loop-left.invariant.6 c.run_plain-left.ensures.performed in
    acts_then g.S.RawStore.honest g.S.RawStore.reliable c.args.self.now u c.step_in_scope.new.self (Wanted StoreFailed) before c.in-Failed.ensures.2

pub returns-in-Stopped-clause-acts : goal.returns-in-Stopped-clause-acts
returns-in-Stopped-clause-acts g c = λ q.
    let u = c.run_plain-left.new.self in
    let w = c.step_in_scope.new.self in
    let first = performs_both g.S.RawStore.honest c.args.self.now c.loop-left.self u c.loop-left.invariant.6 c.run_plain-left.ensures.performed in
    let before = subst (λ (x : Logged). PerformsSome g.S.RawStore.honest c.args.self.now x) (sym c.in-Other.ensures.0) first in
    acts_then g.S.RawStore.honest g.S.RawStore.reliable c.args.self.now w c.step.new.self (Stopped c.in-Stopped.stop) before c.in-Stopped.ensures.acts

pub returns-in-Wanted-clause-acts : goal.returns-in-Wanted-clause-acts
returns-in-Wanted-clause-acts g c = λ q.
    let u = c.run_plain-left.new.self in
    let w = c.step_in_scope.new.self in
    let first = performs_both g.S.RawStore.honest c.args.self.now c.loop-left.self u c.loop-left.invariant.6 c.run_plain-left.ensures.performed in
    let before = subst (λ (x : Logged). PerformsSome g.S.RawStore.honest c.args.self.now x) (sym c.in-Other.ensures.0) first in
    acts_then g.S.RawStore.honest g.S.RawStore.reliable c.args.self.now w c.step.new.self (Wanted c.in-Wanted.want) before c.in-Wanted.ensures.acts

pub returns-then-left-eq0-clause-acts : goal.returns-then-left-eq0-clause-acts
returns-then-left-eq0-clause-acts g c = λ q. performs_both g.S.RawStore.honest c.args.self.now c.loop-left.self c.run_plain-left.new.self c.loop-left.invariant.6 c.run_plain-left.ensures.performed

pub loop-left-preserved-in-Completed : goal.loop-left-preserved-in-Completed
loop-left-preserved-in-Completed g c =
    let u = c.run_plain-left.new.self in
    let before = performs_both g.S.RawStore.honest c.args.self.now c.loop-left.self u c.loop-left.invariant.6 c.run_plain-left.ensures.performed in (
      search rules,
      search rules,
      search rules,
      search rules,
      search rules,
      search rules,
      performs_more g.S.RawStore.honest c.args.self.now u c.step_in_scope.new.self before c.in-Completed.ensures.2,
    )

pub loop-left-preserved : goal.loop-left-preserved
loop-left-preserved g c =
    let u = c.run_plain-left.new.self in
    let w = c.step_in_scope.new.self in
    let first = performs_both g.S.RawStore.honest c.args.self.now c.loop-left.self u c.loop-left.invariant.6 c.run_plain-left.ensures.performed in
    let before = subst (λ (x : Logged). PerformsSome g.S.RawStore.honest c.args.self.now x) (sym c.in-Other.ensures.0) first in (
      search rules,
      search rules,
      search rules,
      search rules,
      search rules,
      search rules,
      performs_more g.S.RawStore.honest c.args.self.now w c.step.new.self before c.in-Running.ensures.acts,
    )
