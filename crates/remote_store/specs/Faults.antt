-- Which calls of a store fail by a plan.
use Rattle.std.specs.Prelude.{◌≡◌, ◌≢◌, ℕ, ◌≤◌}
use Rattle.remote_store.specs.declared.fault.FaultPlan.{FaultPlan}
use Rattle.remote_store.specs.declared.fault.FaultPlan.TheVariants as P

-- the call of this number fails by the plan: no call at 0
abbrev pub FailsAt : FaultPlan → ℕ → Type 0
FailsAt P.Never call = ⊥
FailsAt (P.Only number) call = (number ≢ 0) × (call ≡ number)
FailsAt (P.From first) call = (first ≢ 0) × (first ≤ call)

-- some call fails by the plan
abbrev pub MayFail : FaultPlan → Type 0
MayFail plan = (call : ℕ) × FailsAt plan call
