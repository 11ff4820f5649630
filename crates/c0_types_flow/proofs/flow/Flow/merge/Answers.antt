use Rattle.std.proofs.Common.{◌≡◌, false, ap, sym, ◌∙◌}
use Rattle.std.specs.Prelude.{◌&&◌, ◌||◌, filter}
use Rattle.c0_rules.specs.Assignment as a
use Rattle.c0_rules.specs.Types.{is_among}
use Rattle.c0_types_flow.specs.FlowViews.{flow_of, letters_of}
use Rattle.c0_types_flow.proofs.Flows.{merged, first_leads, second_leads}
use Rattle.c0_types_flow.proofs.flow.Flow.merge.Goals as goal
use Rattle.c0_types_flow.proofs.flow.Flow.merge.Goals.{else-has_ended-via-then-has_ended+else-has_ended-2, else-has_ended-via-else-has_ended}

pub returns-in_ok-lacked-in-Reached : goal.returns-in_ok-lacked-in-Reached
returns-in_ok-lacked-in-Reached c =
    let first = flow_of c.args.first.now in
    let second = flow_of c.args.second.now in
    let us = letters_of c.unassigned.result.now in
    let vs = letters_of c.unassigned-in-Reached.result.now in
    let leads : (a.has_ended first && a.has_ended second) ≡ false = elim c.else-has_ended.branch [
      | else-has_ended-via-then-has_ended+else-has_ended-2 w ↦ second_leads (a.has_ended first) (sym w.has_ended-then-has_ended.ensures ∙ w.if-has_ended-2.false)
      | else-has_ended-via-else-has_ended w ↦ first_leads (a.has_ended second) (sym c.has_ended.ensures ∙ w.if-has_ended.false)
    ] in
    let kept = c.in_ok-lacked-in-Reached.ensures ∙ ap (λ z. filter (λ n. is_among n us || is_among n vs) (letters_of z)) c.deref.ensures.value in
    merged (letters_of c.in-Reached.names.items) (letters_of c.in_ok-lacked-in-Reached.lacked.items) us vs first second leads c.unassigned.ensures c.unassigned-in-Reached.ensures kept
    ∙ ap (λ z. a.joined (flow_of z) first second) (sym c.in-Reached.is)
