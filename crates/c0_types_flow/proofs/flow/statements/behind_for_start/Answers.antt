use Rattle.std.proofs.Common.{Some, inl, inr, ap, sym, ◌∙◌}
use Rattle.std.proofs.lemmas.Result.{err_from_is_err_and}
use Rattle.c0_types_flow.specs.FlowViews.{flow_of}
use Rattle.c0_types_flow.proofs.flow.statements.behind_for_start.Goals as goal

pub returns-in_err-check_reads-clause-cause : goal.returns-in_err-check_reads-clause-cause
returns-in_err-check_reads-clause-cause c =
    let p = err_from_is_err_and c.from_residual-in_err-check_reads.result c.from_residual-in_err-check_reads.ensures.1 in
    rw (p.1, p.2) (inr (inr (flow_of c.over-inner.result.now, c.in_ok-start.ensures.answers ∙ ap Some (sym c.over-inner.ensures), inl c.in_err-check_reads.ensures.cause)))
