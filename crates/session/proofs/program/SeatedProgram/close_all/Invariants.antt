use Rattle.std.proofs.Common.{◌≡◌, ℕ, ◌<◌, length}
use Rattle.std.specs.Prelude.{None}
use Rattle.session.specs.Keeping.{Closes, IsHolding}
use Rattle.session.specs.Performing.{FirstLogged, shut_first}
use Rattle.session.specs.State.{hold_at}
use Rattle.session.proofs.program.SeatedProgram.close_all.Given as goal

abbrev pub invariant-loop-scope : goal.invariant-loop-scope
invariant-loop-scope g l = IsHolding l.self.state × Closes l.initial.self.state l.self.state × (length l.self.state.holds ≡ length l.initial.self.state.holds) × ((j : ℕ) → j < l.scope → hold_at l.self.state.holds j ≡ None) × (l.self.state ≡ shut_first l.scope l.initial.self.state) × FirstLogged l.scope l.initial.self.state l.initial.self.log l.self.log
