use Rattle.std.proofs.Common.{true, false, Some, sym, ap}
use Rattle.std.specs.Prelude.{option_map}
use Rattle.world_fetchers.specs.Fetching.{fetching_in, fetching_of}
use Rattle.world_fetchers.specs.declared.fetch.Fetching.TheVariants as d
use Rattle.world_fetchers.proofs.Bringing.{fits_as, seeker_claims}
use Rattle.world_fetchers.proofs.fetcher.FetcherActor.claim.Goals as goal

pub returns-then-claim-clause-leads : goal.returns-then-claim-clause-leads
returns-then-claim-clause-leads g c z s inside is =
    let h : Type 0 = g.S.RawStore.honest in
    let old = c.args.lock.now in
    let x = c.args.self.now in
    let o = c.args.object in
    let f = c.args.frame in
    seeker_claims g.S.RawStore.content h z old.memory old.berths x s is o f c.claim.new.lock.memory c.claim.new.lock.berths true _ c.requires
    (c.if-claim.ensures x.mover z s inside (fits_as g.S.RawStore.content h z old.memory old.berths x s is (Some (d.Bringing o)) c.requires).2.0 is.shows) (sym (ap Some (c.begun.ensures (s.far o) x.words.items (c.is_new-is_new.ensures z.cells s.far is.shows.far))))

pub returns-else-claim-clause-leads : goal.returns-else-claim-clause-leads
returns-else-claim-clause-leads g c z s inside is =
    let h : Type 0 = g.S.RawStore.honest in
    let old = c.args.lock.now in
    let x = c.args.self.now in
    let o = c.args.object in
    let f = c.args.frame in
    seeker_claims g.S.RawStore.content h z old.memory old.berths x s is o f c.claim.new.lock.memory c.claim.new.lock.berths false (fetching_in x) c.requires
    (c.if-claim.ensures x.mover z s inside (fits_as g.S.RawStore.content h z old.memory old.berths x s is (Some (d.Bringing o)) c.requires).2.0 is.shows) (sym (ap (option_map (λ e. fetching_of e x.words.items)) c.requires))
