use Rattle.std.proofs.Common.{length, ap, sym, ◌∙◌}
use Rattle.std.proofs.lemmas.List.{with_items_is}
use Rattle.world_fetchers.proofs.Bringing.{fetches_on}
use Rattle.world_fetchers.proofs.fetcher.FetcherActor.go_on.Goals as goal

pub returns-clause-leads : goal.returns-clause-leads
returns-clause-leads g c z s is =
    let old = c.args.lock.now in
    let x = c.args.self.now in
    let led = rw c.deref_mut.ensures.value at (c.bring-self.ensures x.mover z s) in
    let back = with_items_is x.words c.bring-self.new.words (c.bring-self.auto.words ∙ (ap length c.deref_mut.ensures.value ∙ sym x.words.ok.0)) in
    rw back (led is.wide (fetches_on g.S.RawStore.content g.S.RawStore.honest z old.memory old.berths x s is c.args.fetching c.requires))
