use Rattle.std.proofs.Common.{ℕ, List, refl}
use Rattle.help_pages.proofs.Unlike.{unlike}
use Rattle.command_line.proofs.options.required.Goals as goal

-- other commands want no option
pub returns-in_default : goal.returns-in_default
returns-in_default c =
    let name : List ℕ = c.args.name.now in
    rw (unlike name _ c.in_default.not-build, unlike name _ c.in_default.not-mean, unlike name _ c.in_default.not-replay) refl
