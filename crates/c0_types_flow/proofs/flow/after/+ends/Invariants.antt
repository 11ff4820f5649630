use Rattle.std.proofs.Common.{◌≡◌, drop}
use Rattle.c0_syntax.specs.Views.{statements_of}
use Rattle.c0_rules.specs.Assignment as a
use Rattle.c0_types_flow.specs.FlowViews.{behind_of, flow_of}
use Rattle.c0_types_flow.proofs.flow.after.+ends.Given as goal

-- what is left leads on from what stands before it, and meets what met so far
abbrev pub invariant-ends_of_all-loop-statement : goal.invariant-ends_of_all-loop-statement
invariant-ends_of_all-loop-statement l = record {
  behind : a.after_statements (statements_of (drop l.statement-index l.body)) (behind_of (flow_of l.flow) l.behind) ≡ a.after_statements (statements_of l.body) (flow_of l.flow);
  continued : a.some_continued (flow_of l.start) (statements_of (drop l.statement-index l.body)) (behind_of (flow_of l.flow) l.behind) (flow_of l.met)
      ≡ a.some_continued (flow_of l.start) (statements_of l.body) (flow_of l.flow) (flow_of l.fn.met);
}
