use Rattle.std.proofs.Common.{refl, take}
use Rattle.world_actors.specs.Acting.{Done, Failed, outcome_of}
use Rattle.world_memory.specs.Answered.{AnswersSo, Nothing, Puts}
use Rattle.world_actors.specs.Asking.{asked_out}
use Rattle.world_semantics.specs.Programs.{Copying, Freed, NotStored, Refused, Stored}
use Rattle.world_actors.proofs.Answered.{asked_as, copy_asks, put_asks, unasked}
use Rattle.world_actors.proofs.MovedOut.{freed, not_stored, refused, told_as, told_so}
use Rattle.world_actors.proofs.evict.evict.Goals as goal

pub returns-then-at-words : goal.returns-then-at-words
returns-then-at-words g c = rw c.in-Copying.is (λ z s l is.
    let lock = c.args.lock.now in
    let p = c.args.port.now in
    let o = c.in-Copying.object in
    let f = c.in-Copying.frame in
    let k = c.in-Copying.at in
    let words = c.args.words.now in
    let e = Copying o f (take k words) in
    told_so g.S.RawStore.content g.S.RawStore.honest z lock.memory lock.berths c.args.mover s (AnswersSo g.S.RawStore.reliable g.S.RawStore.failures g.S.RawStore.read_gives z.cells lock.berths.items p p s.far (asked_out z.cells e)) e lock.memory lock.berths (outcome_of c.copy.result c.copy.new.words)
    (λ a. unasked g.S.RawStore.reliable g.S.RawStore.failures g.S.RawStore.read_gives z.cells lock.berths.items p p s.far a (asked_out z.cells e) (copy_asks z.cells o f k words l c.if-at-words.true) refl) (c.copy.ensures c.args.mover z s l is))

pub returns-else-at-words : goal.returns-else-at-words
returns-else-at-words g c = rw c.in-Copying.is (λ z s l is.
    let lock = c.args.lock.now in
    let p = c.args.port.now in
    let q = c.put.new.port in
    let o = c.in-Copying.object in
    let f = c.in-Copying.frame in
    let k = c.in-Copying.at in
    let words = c.args.words.now in
    let e = Copying o f (take k words) in
    told_as g.S.RawStore.content g.S.RawStore.honest z lock.memory lock.berths c.args.mover s (AnswersSo g.S.RawStore.reliable g.S.RawStore.failures g.S.RawStore.read_gives z.cells lock.berths.items p q s.far (Puts o)) (AnswersSo g.S.RawStore.reliable g.S.RawStore.failures g.S.RawStore.read_gives z.cells lock.berths.items p q s.far (asked_out z.cells e)) e c.put.new.lock.memory c.put.new.lock.berths (outcome_of c.put.result words)
    (λ a. asked_as g.S.RawStore.reliable g.S.RawStore.failures g.S.RawStore.read_gives z.cells lock.berths.items p q s.far a (Puts o) (asked_out z.cells e) (put_asks z.cells o f k words l c.if-at-words.false)) (c.put.ensures c.args.mover z s l is))

pub returns-in-Stored : goal.returns-in-Stored
returns-in-Stored g c = rw c.in-Stored.is (λ z s l is.
    let lock = c.args.lock.now in
    let p = c.args.port.now in
    told_so g.S.RawStore.content g.S.RawStore.honest z lock.memory lock.berths c.args.mover s (AnswersSo g.S.RawStore.reliable g.S.RawStore.failures g.S.RawStore.read_gives z.cells lock.berths.items p p s.far Nothing) (Stored c.in-Stored.object c.in-Stored.frame) c.commit.new.lock.memory c.commit.new.lock.berths (outcome_of c.commit.result c.args.words.now) (λ a. refl)
    (c.commit.ensures c.args.words.now z s is))

pub returns-in-NotStored : goal.returns-in-NotStored
returns-in-NotStored g c = rw c.in-NotStored.is (λ z s l is.
    let lock = c.args.lock.now in
    let p = c.args.port.now in
    let o = c.in-NotStored.object in
    let f = c.in-NotStored.frame in
    let now = c.abort.new.lock in
    told_so g.S.RawStore.content g.S.RawStore.honest z lock.memory lock.berths c.args.mover s (AnswersSo g.S.RawStore.reliable g.S.RawStore.failures g.S.RawStore.read_gives z.cells lock.berths.items p p s.far Nothing) (NotStored o f) now.memory now.berths Failed (λ a. refl)
    (not_stored g.S.RawStore.content g.S.RawStore.honest z lock.memory lock.berths c.args.mover s o f now.memory now.berths is (c.abort.ensures c.args.mover z s is.inv is.fits is.shows)))

pub returns-in-Refused : goal.returns-in-Refused
returns-in-Refused g c = rw c.in-Refused.is (λ z s l is.
    let lock = c.args.lock.now in
    let p = c.args.port.now in
    let o = c.in-Refused.object in
    let f = c.in-Refused.frame in
    let now = c.abort-in-Refused.new.lock in
    told_so g.S.RawStore.content g.S.RawStore.honest z lock.memory lock.berths c.args.mover s (AnswersSo g.S.RawStore.reliable g.S.RawStore.failures g.S.RawStore.read_gives z.cells lock.berths.items p p s.far Nothing) (Refused o f) now.memory now.berths Done (λ a. refl)
    (refused g.S.RawStore.content g.S.RawStore.honest z lock.memory lock.berths c.args.mover s o f now.memory now.berths is (c.abort-in-Refused.ensures c.args.mover z s is.inv is.fits is.shows)))

pub returns-in-Freed : goal.returns-in-Freed
returns-in-Freed g c = rw c.in-Freed.is (λ z s l is.
    let lock = c.args.lock.now in
    let p = c.args.port.now in
    let f = c.in-Freed.frame in
    let now = c.release.new.lock in
    told_so g.S.RawStore.content g.S.RawStore.honest z lock.memory lock.berths c.args.mover s (AnswersSo g.S.RawStore.reliable g.S.RawStore.failures g.S.RawStore.read_gives z.cells lock.berths.items p p s.far Nothing) (Freed f) now.memory now.berths Done (λ a. refl)
    (freed g.S.RawStore.content g.S.RawStore.honest z lock.memory lock.berths c.args.mover s f now.memory now.berths is (c.release.ensures c.args.mover z s is.inv is.fits.1 is.shows)))
