use Rattle.std.proofs.Common.{◌≡◌, drop}
use Rattle.c0_syntax.specs.Views.{statements_of}
use Rattle.c0_rules.specs.Assignment as a
use Rattle.c0_types_flow.specs.FlowViews.{behind_of, flow_of}
use Rattle.c0_types_flow.proofs.flow.after.+after.Given as goal

-- what is left leads on from what stands before it
abbrev pub invariant-after_statements-loop-statement : goal.invariant-after_statements-loop-statement
invariant-after_statements-loop-statement l =
    a.after_statements (statements_of (drop l.statement-index l.body)) (behind_of (flow_of l.flow) l.behind) ≡ a.after_statements (statements_of l.body) (flow_of l.flow)
