use Rattle.std.proofs.Common.{◌≡◌, ◌<◌, length, ap, sym, subst}
use Rattle.world_memory.specs.Berths.{Berths}
use Rattle.world_memory.specs.Shown.{AreFar}
use Rattle.world_memory.proofs.Berthed.{far_put}
use Rattle.world_memory.proofs.lock.Berths.put.Goals as goal

pub returns-then-words-self-clause-far : goal.returns-then-words-self-clause-far
returns-then-words-self-clause-far g c = λ n far e l all inside.
    let same : c.args.self.now.items ≡ c.self.inside.items.items = sym (ap (λ (b : Berths _). b.items) c.self.view_is) in
    far_put g.S.RawStore.content n c.self.inside.items.items far c.args.object c.index_mut-berth.result.now.version c.args.words.now c.put.new.self c.put.result c.is_ok.result
    c.is_ok.ensures.value c.put.ensures.version c.put.ensures.put l (subst (λ berths. AreFar g.S.RawStore.content n berths far) same all) (subst (λ berths. c.args.object < length berths) same inside)
