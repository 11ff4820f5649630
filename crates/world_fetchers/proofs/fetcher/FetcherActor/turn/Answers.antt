use Rattle.std.proofs.Common.{◌≡◌, refl, true, subst}
use Rattle.world_semantics.specs.declared.event.Choice.{Choice}
use Rattle.world_semantics.specs.declared.event.Step.TheVariants as step
use Rattle.world_semantics.specs.Worlds.{in_range}
use Rattle.world_fetchers.specs.Fetching.{fetching_in}
use Rattle.world_actors.proofs.Acting.{goes_same, goes_with}
use Rattle.world_actors.proofs.Evacuating.{frame_inside}
use Rattle.world_fetchers.proofs.Bringing.{reads_honestly, told_idle, told_none, told_on, turn_claims, turn_else, turn_idle, turn_on}
use Rattle.world_fetchers.proofs.fetcher.FetcherActor.turn.Goals as goal

pub returns-in-None-clause-goes : goal.returns-in-None-clause-goes
returns-in-None-clause-goes g c z s inside is =
    let p = c.args.port.now in
    let x = c.args.self.now in
    goes_with z.cells s _ _ _ _ _ c.seek.result
    (λ a k. (reads_honestly z.cells g.S.RawStore.honest s (fetching_in x) a k, told_idle g.S.RawStore.reliable g.S.RawStore.failures g.S.RawStore.read_gives z.cells c.args.lock.now.berths.items p s.far a x c.in-None.ensures))
    (turn_idle z.cells x s c.args.choice _ _ _ c.seek.result c.in-None.ensures (goes_same z.cells s _ _ _ _ _ c.seek.result (λ k. (k.0, refl, k.1)) (c.seek.ensures.goes z s inside is)))

pub returns-in-Next-clause-goes : goal.returns-in-Next-clause-goes
returns-in-Next-clause-goes g c z s inside is =
    let p = c.args.port.now in
    let q = c.go_on.new.port in
    let x = c.args.self.now in
    let e = c.in-Some.fetching in
    goes_with z.cells s _ _ _ _ (Unit {0}) step.Took (told_on g.S.RawStore.reliable g.S.RawStore.failures g.S.RawStore.read_gives z.cells c.args.lock.now.berths.items g.S.RawStore.honest s p q x e c.in-Some.ensures)
    (turn_on z.cells x s c.args.choice e _ _ c.in-Next.is c.in-Some.ensures (c.go_on.ensures.leads z s is))

pub returns-in-Claim-clause-goes : goal.returns-in-Claim-clause-goes
returns-in-Claim-clause-goes g c z s inside is =
    let p = c.args.port.now in
    let x = c.args.self.now in
    let e = c.in-Some.fetching in
    let f = c.in-Claim.frame in
    let there = frame_inside z f (subst (λ (y : Choice). in_range z y ≡ true) c.in-Claim.is inside) in
    goes_with z.cells s _ _ _ _ _ c.try_claim.result
    (λ a k. (reads_honestly z.cells g.S.RawStore.honest s (fetching_in x) a k.0, told_none g.S.RawStore.reliable g.S.RawStore.failures g.S.RawStore.read_gives z.cells c.args.lock.now.berths.items p s.far a x e c.in-Some.ensures k.1))
    (turn_claims z.cells x s c.args.choice f e _ _ _ c.try_claim.result c.in-Claim.is c.in-Some.ensures (goes_same z.cells s _ _ _ _ _ c.try_claim.result (λ k. (k.0, refl, k.1)) (c.try_claim.ensures.goes z s there is)))

pub returns-in_default-clause-goes : goal.returns-in_default-clause-goes
returns-in_default-clause-goes g c z s inside is =
    let x = c.args.self.now in
    ((λ a. turn_else z.cells x s c.args.choice c.in-Some.fetching a c.in-Some.ensures c.in_default.not-Next c.in_default.not-Claim), (refl, refl, refl))
