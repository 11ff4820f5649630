use Rattle.std.proofs.Common.{◌≡◌, [], Bool, false, true, refl, sym, ap, ◌∙◌, inr, Some}
use Rattle.std.specs.Prelude.{◌||◌}
use Rattle.c0_syntax.specs.Views.{statements_of}
use Rattle.c0_rules.specs.Assignment as a
use Rattle.c0_rules.specs.Types.{Signature, VoidType, same_type}
use Rattle.c0_types_flow.specs.FlowViews.{behind_of, flow_of, letters_of}
use Rattle.c0_types_flow.proofs.Ends.{path_open, paths_lead, void_ends}
use Rattle.c0_types_flow.proofs.flow.paths.check_paths.Goals as goal
use Rattle.c0_types_flow.proofs.flow.paths.check_paths.Goals.{else-not-is_void-via-then-not-is_void+else-not-has_ended, else-not-is_void-via-else-not-is_void}

pub returns-then-not-has_ended-clause-answers : goal.returns-then-not-has_ended-clause-answers
returns-then-not-has_ended-clause-answers c =
    let body = statements_of c.args.body.now in
    let start : letters_of c.new.result.items ≡ [] = ap letters_of c.new.ensures.items in
    let led : flow_of c.over.result.now ≡ a.after_statements body (a.Reached []) = c.over.ensures ∙ c.in_ok-behind.ensures ∙ ap (λ z. a.after_statements body (a.Reached z)) start in
    let open_end : a.has_ended (a.after_statements body (a.Reached [])) ≡ false = ap a.has_ended (sym led) ∙ sym c.has_ended.ensures ∙ c.if-not-has_ended.true in
    λ f v. inr (path_open f body open_end (v ∙ c.if-not-is_void.true))

pub returns-clause-answers : goal.returns-clause-answers
returns-clause-answers c =
    let body = statements_of c.args.body.now in
    let start : letters_of c.new.result.items ≡ [] = ap letters_of c.new.ensures.items in
    let led : behind_of (a.Reached (letters_of c.new.result.items)) c.in_ok-behind.behind ≡ a.after_statements body (a.Reached []) = c.in_ok-behind.ensures ∙ ap (λ z. a.after_statements body (a.Reached z)) start in
    λ f v. paths_lead f body _ (ap (λ z. a.flow_of_statements body (a.Reached z)) (sym start) ∙ c.in_ok-behind_statements.ensures.answers) (elim c.else-not-is_void.branch [
      | else-not-is_void-via-then-not-is_void+else-not-has_ended w ↦ ap (λ z. z || same_type f.result VoidType) (ap a.has_ended (sym led) ∙ ap a.has_ended (sym w.over.ensures) ∙ sym w.has_ended.ensures ∙ w.if-not-has_ended.false)
      | else-not-is_void-via-else-not-is_void w ↦ void_ends (a.has_ended (a.after_statements body (a.Reached []))) (same_type f.result VoidType) (v ∙ w.if-not-is_void.false)
    ])
