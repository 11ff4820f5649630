use Rattle.std.proofs.Common.{inr, refl, ap, sym, ◌∙◌, subst}
use Rattle.c0_rules.specs.FaultPrograms.{MainAmong}
use Rattle.c0_rules.specs.Programs.{is_defined}
use Rattle.c0_types.proofs.programs.check_main.Goals as goal

pub returns-in-Some-main_header-clause-cause : goal.returns-in-Some-main_header-clause-cause
returns-in-Some-main_header-clause-cause c =
    let defined = ap is_defined (sym c.in-Some.ensures) ∙ c.if-main.true in
    let other = sym c.has_main.ensures ∙ c.if-has_main.false in
    let among = c.in-Some-main_header.ensures.there _ (refl, refl) in
    inr (defined, other, subst (MainAmong _) c.deref.ensures.value among)
