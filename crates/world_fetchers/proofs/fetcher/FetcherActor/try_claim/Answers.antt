use Rattle.std.proofs.Common.{◌≡◌, ap, refl}
use Rattle.world_actors.specs.Acting.{Shows, Unread, UnreadSo}
use Rattle.world_actors.specs.Asking.{asked_in}
use Rattle.world_fetchers.specs.Fetching.{fetching_in}
use Rattle.world_memory.specs.Answered.{Nothing}
use Rattle.world_semantics.specs.Fetchers.{Bringing, as_mode}
use Rattle.world_semantics.specs.Turns.{fetcher_claims, taken}
use Rattle.world_actors.proofs.Acting.{leads_with}
use Rattle.world_fetchers.proofs.Bringing.{not_seeking}
use Rattle.world_fetchers.proofs.fetcher.FetcherActor.try_claim.Goals as goal

pub returns-in-Bringing-clause-goes : goal.returns-in-Bringing-clause-goes
returns-in-Bringing-clause-goes g c = rw c.in-Bringing.is (λ z s inside is.
    let o = c.in-Bringing.object in
    let now = c.claim.new.lock in
    leads_with z.cells s (λ a. fetcher_claims c.args.self.now.mover c.args.frame (Bringing o)) Unread (UnreadSo (λ a. asked_in z.cells (as_mode (Bringing o)) ≡ Nothing))
    (λ u d. Shows g.S.RawStore.content z now.memory now.berths u × (d ≡ fetching_in c.claim.new.self)) (λ a k. (k, refl)) (c.claim.ensures.leads z s inside is))

pub returns-in_default-clause-goes : goal.returns-in_default-clause-goes
returns-in_default-clause-goes g c z s inside is =
    let x = c.args.self.now in
    ((λ a. ap (taken z.cells s) (not_seeking x.mover c.args.frame c.args.fetching x.words.items c.in_default.not-Bringing)), (refl, refl))
