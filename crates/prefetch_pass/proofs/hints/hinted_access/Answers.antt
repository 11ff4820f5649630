use Rattle.std.proofs.Common.{◌≡◌, ◌+◌, ◌∙◌, [], ◌∷◌, ◌++◌, Some, ap, List}
use Rattle.code_form.specs.declared.form.Operation.TheVariants.{Prefetch}
use Rattle.middle_form.specs.declared.scoped.ScopedCode.{ScopedCode, Do}
use Rattle.scoped_building.proofs.Rows.{scoped_sequence_is}
use Rattle.scoped_building.specs.Building.{codes, in_order}
use Rattle.prefetch_pass.proofs.hints.hinted_access.Goals as goal

pub returns : goal.returns
returns c =
    let made = c.push-2.new.self in
    let hint : ScopedCode = Do (Prefetch c.args.register (Some c.args.offset) (c.args.displacement + c.args.ahead)) in
    let two : made.items ≡ c.args.access ∷ hint ∷ [] =
    c.in_ok-push-2.ensures.items ∙ ap (λ (l : List ScopedCode). l ++ hint ∷ []) (c.in_ok-push.ensures.items ∙ ap (λ (l : List ScopedCode). l ++ c.args.access ∷ []) c.new-parts.ensures.items) in
    scoped_sequence_is made ∙ ap (λ (l : List ScopedCode). in_order (codes l)) two
