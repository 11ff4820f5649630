use Rattle.std.proofs.Common.{List, subst}
use Rattle.region.specs.Admission.{IsAdmitted}
use Rattle.scope_verifier.specs.declared.acceptance.Verified.{Verified}
use Rattle.streams.specs.Streams.{writes}
use Rattle.c0far.proofs.Lived.{more_told}
use Rattle.c0far.proofs.Ran.{always_told}
use Rattle.c0far.proofs.lives.live_asked.Goals as goal

pub returns-in-Ok-clause-admitted : goal.returns-in-Ok-clause-admitted
returns-in-Ok-clause-admitted g c =
    let a = c.args.asked in let fits = c.in-Ok.ensures in
    always_told c.live_program.result _ (subst (λ (l : List Verified). IsAdmitted l a.memory.frames a.memory.objects a.evacuators a.fetchers) c.deref.ensures.value fits.0, fits.1)

pub returns-in-Ok-clause-left : goal.returns-in-Ok-clause-left
returns-in-Ok-clause-left g c =
    let a = c.args.asked in let fits = c.in-Ok.ensures in
    let admitted = subst (λ (l : List Verified). IsAdmitted l a.memory.frames a.memory.objects a.evacuators a.fetchers) c.deref.ensures.value fits.0 in
    more_told a c.args.programs.items (writes g.O.Stream.contents g.O.Stream.failures c.args.out.now c.live_program.new.out) c.live_program.result admitted fits.1 c.live_program.ensures.broken
