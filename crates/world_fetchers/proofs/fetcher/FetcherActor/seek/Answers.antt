use Rattle.std.proofs.Common.{true, false, sym, ap, refl}
use Rattle.std.specs.Prelude.{option_map}
use Rattle.world_fetchers.specs.Fetching.{fetching_in, fetching_of}
use Rattle.world_fetchers.proofs.Bringing.{begin_inside, idle_begins, idle_fits}
use Rattle.world_fetchers.proofs.fetcher.FetcherActor.seek.Goals as goal

pub returns-then-begin-clause-goes : goal.returns-then-begin-clause-goes
returns-then-begin-clause-goes g c = rw c.in-Begin.is (λ z s inside is.
    let h : Type 0 = g.S.RawStore.honest in
    let old = c.args.lock.now in
    let x = c.args.self.now in
    let o = c.in-Begin.object in
    idle_begins g.S.RawStore.content h z old.memory old.berths x s is o c.begin.new.lock.memory c.begin.new.lock.berths true _ c.requires
    (c.if-begin.ensures z s (begin_inside z o inside) (idle_fits g.S.RawStore.content h z old.memory old.berths x s is c.requires).0 is.shows) refl)

pub returns-else-begin-clause-goes : goal.returns-else-begin-clause-goes
returns-else-begin-clause-goes g c = rw c.in-Begin.is (λ z s inside is.
    let h : Type 0 = g.S.RawStore.honest in
    let old = c.args.lock.now in
    let x = c.args.self.now in
    let o = c.in-Begin.object in
    idle_begins g.S.RawStore.content h z old.memory old.berths x s is o c.begin.new.lock.memory c.begin.new.lock.berths false (fetching_in x) c.requires
    (c.if-begin.ensures z s (begin_inside z o inside) (idle_fits g.S.RawStore.content h z old.memory old.berths x s is c.requires).0 is.shows) (sym (ap (option_map (λ e. fetching_of e x.words.items)) c.requires)))
