use Rattle.std.proofs.Common.{◌≡◌, drop}
use Rattle.c0_source.specs.declared.fault.Fault.{Fault}
use Rattle.c0_syntax.specs.Views.{statements_of}
use Rattle.c0_rules.specs.Assignment as a
use Rattle.c0_rules.specs.FaultPaths.{ReadInBody}
use Rattle.c0_types_flow.specs.FlowViews.{behind_of, flow_of}
use Rattle.c0_types_flow.proofs.flow.statements.+flow.Given as goal

-- what is left decides, from what stands before it
abbrev pub invariant-behind_statements-loop-statement : goal.invariant-behind_statements-loop-statement
invariant-behind_statements-loop-statement l = record {
  answer : a.flow_of_statements (statements_of (drop l.statement-index l.body)) (behind_of (flow_of l.flow) l.behind) ≡ a.flow_of_statements (statements_of l.body) (flow_of l.flow);
  cause : (f : Fault) → ReadInBody f (behind_of (flow_of l.flow) l.behind) (drop l.statement-index l.body) → ReadInBody f (flow_of l.flow) l.body;
}
