use Rattle.std.proofs.Common.{◌≡◌, ◌+◌, ◌≤◌}
use Rattle.session.specs.Keeping.{IsRun}
use Rattle.session.specs.Performing.{PerformsSome}
use Rattle.session.specs.State.{IsGoing, SameProgram}
use Rattle.session.proofs.program.SeatedProgram.run.Given as goal

abbrev pub invariant-loop-left : goal.invariant-loop-left
invariant-loop-left g l = IsRun g.S.RawStore.honest l.self.state × IsGoing l.self.state × SameProgram l.initial.self.state l.self.state × (l.self.state.completed + l.left ≡ l.initial.self.state.completed + l.limit) × (l.initial.self.state.completed ≤ l.self.state.completed) × (l.self.state.refusals ≡ l.initial.self.state.refusals) × PerformsSome g.S.RawStore.honest l.initial.self l.self

abbrev pub decreases-loop-left : goal.decreases-loop-left
decreases-loop-left g l = l.left
