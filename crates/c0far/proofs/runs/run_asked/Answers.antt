use Rattle.std.proofs.Common.{List, subst}
use Rattle.std.proofs.lemmas.Result.{IfErr-weaker}
use Rattle.region.specs.Admission.{IsAdmitted}
use Rattle.scope_verifier.specs.declared.acceptance.Verified.{Verified}
use Rattle.c0far.proofs.Ran.{always_told, denied}
use Rattle.c0far.proofs.runs.run_asked.Goals as goal

pub returns-clause-admitted : goal.returns-clause-admitted
returns-clause-admitted g c =
    let a = c.args.asked in let fits = c.in_ok-fits_asked.ensures in
    always_told c.run_programs.result _ (subst (λ (l : List Verified). IsAdmitted l a.memory.frames a.memory.objects a.evacuators a.fetchers) c.deref.ensures.value fits.0, fits.1)

pub returns-clause-refused : goal.returns-clause-refused
returns-clause-refused g c =
    let a = c.args.asked in let fits = c.in_ok-fits_asked.ensures in
    let admitted = subst (λ (l : List Verified). IsAdmitted l a.memory.frames a.memory.objects a.evacuators a.fetchers) c.deref.ensures.value fits.0 in
    IfErr-weaker c.run_programs.result _ _ (λ fault told. denied _ _ _ _ _ _ _ fault admitted fits.1 told) c.run_programs.ensures.refused
