use Rattle.std.proofs.Common.{ℕ, List, refl}
use Rattle.help_pages.proofs.Unlike.{unlike}
use Rattle.help_pages.proofs.topics.named_page.Goals as goal

-- the page of all commands is shown of no command's name
pub returns-in_default : goal.returns-in_default
returns-in_default c =
    let name : List ℕ = c.args.name.now in
    rw (unlike name _ c.in_default.not-build, unlike name _ c.in_default.not-check, unlike name _ c.in_default.not-faults, unlike name _ c.in_default.not-images, unlike name _ c.in_default.not-list, unlike name _ c.in_default.not-mean, unlike name _ c.in_default.not-replay, unlike name _ c.in_default.not-run, unlike name _ c.in_default.not-stops) refl
