use Rattle.std.proofs.Common.{◌≡◌, ℕ, ◌/◌, ◌∙◌, List, ap, length, subst, sym}
use Rattle.std.specs.List.{All}
use Rattle.object_lock.specs.Fresh.{AreNumbered, IsFreshOwner}
use Rattle.scope_verifier.specs.declared.acceptance.Verified.{Verified}
use Rattle.region.specs.Admission.{IsAdmitted}
use Rattle.region.proofs.region.admit.Goals as goal

pub returns-in-Ok-clause-owners : goal.returns-in-Ok-clause-owners
returns-in-Ok-clause-owners g c =
    let made = c.in-Ok.ensures.made in
    let Seated : ℕ → Type 0 = λ n. AreNumbered 1 n c.in-Ok.owners.items × All (IsFreshOwner c.in-Ok.table (c.args.config.objects / n)) c.in-Ok.owners.items in
    let same : c.len-count.result ≡ length c.args.programs.items = c.len-count.ensures ∙ (sym c.deref.ensures.len ∙ ap (λ (l : List Verified). length l) c.deref.ensures.value) in
    subst Seated same (made.1, made.2)

pub returns-in-Ok-clause-admitted : goal.returns-in-Ok-clause-admitted
returns-in-Ok-clause-admitted g c =
    let config = c.args.config in
    subst (λ (l : List Verified). IsAdmitted l config.frames config.objects config.evacuators config.fetchers) c.deref.ensures.value c.in_ok-fits.ensures.0
