use Rattle.std.proofs.Common.{[], None, Some, refl}
use Rattle.std.specs.Prelude.{option_map}
use Rattle.world_memory.specs.Answered.{AnswersSo, Nothing}
use Rattle.world_semantics.specs.Fetchers.{Bringing, Filling, Releasing, Retreating}
use Rattle.world_fetchers.specs.Fetching.{fetching_of}
use Rattle.world_fetchers.proofs.Bringing.{gave_up, released, retreated, told_so}
use Rattle.world_fetchers.proofs.fetch.bring.Goals as goal

pub returns-in-Reading : goal.returns-in-Reading
returns-in-Reading g c = rw c.in-Reading.is (λ m z s l is. c.read.ensures m z s l is)

pub returns-in-Filling : goal.returns-in-Filling
returns-in-Filling g c = rw c.in-Filling.is (λ m z s l is.
    let lock = c.args.lock.now in
    let p = c.args.port.now in
    let words = c.args.words.now in
    let now = c.fill_next.new.lock in
    told_so g.S.RawStore.content g.S.RawStore.honest z lock.memory lock.berths m s (AnswersSo g.S.RawStore.reliable g.S.RawStore.failures g.S.RawStore.read_gives z.cells lock.berths.items p p s.far Nothing) (Filling c.in-Filling.object c.in-Filling.frame words c.in-Filling.at) now.memory now.berths
    (option_map (λ e. fetching_of e words) c.fill_next.result) (λ a. refl) (c.fill_next.ensures m z s l is))

pub returns-in-Clearing : goal.returns-in-Clearing
returns-in-Clearing g c = rw c.in-Clearing.is (λ m z s l is.
    let lock = c.args.lock.now in
    let p = c.args.port.now in
    let words = c.args.words.now in
    let now = c.clear_next.new.lock in
    told_so g.S.RawStore.content g.S.RawStore.honest z lock.memory lock.berths m s (AnswersSo g.S.RawStore.reliable g.S.RawStore.failures g.S.RawStore.read_gives z.cells lock.berths.items p p s.far Nothing) (Filling c.in-Clearing.object c.in-Clearing.frame [] c.in-Clearing.at) now.memory now.berths
    (option_map (λ e. fetching_of e words) c.clear_next.result) (λ a. refl) (c.clear_next.ensures words m z s is))

pub returns-in-Releasing : goal.returns-in-Releasing
returns-in-Releasing g c = rw c.in-Releasing.is (λ m z s l is.
    let lock = c.args.lock.now in
    let p = c.args.port.now in
    let o = c.in-Releasing.object in
    let f = c.in-Releasing.frame in
    let now = c.release.new.lock in
    told_so g.S.RawStore.content g.S.RawStore.honest z lock.memory lock.berths m s (AnswersSo g.S.RawStore.reliable g.S.RawStore.failures g.S.RawStore.read_gives z.cells lock.berths.items p p s.far Nothing) (Releasing o f) now.memory now.berths (Some (Retreating o)) (λ a. refl)
    (released g.S.RawStore.content g.S.RawStore.honest z lock.memory lock.berths m s o f now.memory now.berths is (c.release.ensures m z s is.inv is.fits.2 is.shows)))

pub returns-in-Bringing : goal.returns-in-Bringing
returns-in-Bringing g c = rw c.in-Bringing.is (λ m z s l is.
    let lock = c.args.lock.now in
    let p = c.args.port.now in
    let o = c.in-Bringing.object in
    let now = c.retreat.new.lock in
    told_so g.S.RawStore.content g.S.RawStore.honest z lock.memory lock.berths m s (AnswersSo g.S.RawStore.reliable g.S.RawStore.failures g.S.RawStore.read_gives z.cells lock.berths.items p p s.far Nothing) (Bringing o) now.memory now.berths None (λ a. refl)
    (gave_up g.S.RawStore.content g.S.RawStore.honest z lock.memory lock.berths m s o now.memory now.berths is (c.retreat.ensures m z s is.inv is.fits.0 is.shows)))

pub returns-in-Retreating : goal.returns-in-Retreating
returns-in-Retreating g c = rw c.in-Retreating.is (λ m z s l is.
    let lock = c.args.lock.now in
    let p = c.args.port.now in
    let o = c.in-Retreating.object in
    let now = c.retreat-in-Retreating.new.lock in
    told_so g.S.RawStore.content g.S.RawStore.honest z lock.memory lock.berths m s (AnswersSo g.S.RawStore.reliable g.S.RawStore.failures g.S.RawStore.read_gives z.cells lock.berths.items p p s.far Nothing) (Retreating o) now.memory now.berths None (λ a. refl)
    (retreated g.S.RawStore.content g.S.RawStore.honest z lock.memory lock.berths m s o now.memory now.berths is (c.retreat-in-Retreating.ensures m z s is.inv is.fits.0 is.shows)))
