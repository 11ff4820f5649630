use Rattle.std.proofs.Common.{List, ◌++◌, ◌∙◌, ap, sym}
use Rattle.middle_form.specs.Scoped.{Code}
use Rattle.scoped_building.specs.Building.{codes}
use Rattle.guard_hoisting.proofs.Parts.{moved_alone}
use Rattle.guard_hoisting.proofs.moving.move_straight.Goals as goal

pub returns-in_ok-put-in_default : goal.returns-in_ok-put-in_default
returns-in_ok-put-in_default c h =
    let d = c.in_default in
    c.in_ok-put-in_default.ensures ∙ ap (λ (xs : List Code). codes c.args.parts.now.items ++ xs) (sym (moved_alone c.args.ways.now c.args.code d.not-Load d.not-Store d.not-Leave h))
