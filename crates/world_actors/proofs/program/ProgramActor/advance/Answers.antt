use Rattle.std.proofs.Common.{ap, refl, ◌∙◌}
use Rattle.world_semantics.specs.declared.event.Choice.TheVariants as choice
use Rattle.world_semantics.specs.declared.event.Step.TheVariants as step
use Rattle.world_actors.specs.Seats.{eviction_of, mode_of}
use Rattle.world_semantics.specs.Turns.{by_mode}
use Rattle.world_actors.proofs.Acting.{goes_same, goes_with}
use Rattle.world_actors.proofs.BroughtIn.{unasked_in}
use Rattle.world_actors.proofs.Instructed.{goes_turn}
use Rattle.world_actors.proofs.program.ProgramActor.advance.Goals as goal

pub returns-in-Ready : goal.returns-in-Ready
returns-in-Ready g c z s p _ is =
    let old = c.args.lock.now in
    let x = c.args.self.now in
    goes_with z.cells s _ _ _ _ _ c.instruct.result (λ a k. (k, unasked_in g.S.RawStore.content g.S.RawStore.honest z old.memory old.berths x s p is g.S.RawStore.reliable g.S.RawStore.failures g.S.RawStore.read_gives c.args.port.now a _ (c.requires.mode ∙ c.in-Ready.is) refl))
    (goes_same z.cells s _ _ _ _ _ c.instruct.result (λ k. (k.0, refl, k.1)) (goes_turn z.cells s _ _ _ _ _ c.instruct.result (λ a. ap (λ y. by_mode x.setting s p (mode_of y x.words) choice.Next a) c.in-Ready.is) (c.instruct.ensures z s p is)))

pub returns-in-Missing : goal.returns-in-Missing
returns-in-Missing g c z s p _ is =
    let old = c.args.lock.now in
    let x = c.args.self.now in
    goes_with z.cells s _ _ _ _ _ c.begin.result (λ a k. (k, unasked_in g.S.RawStore.content g.S.RawStore.honest z old.memory old.berths x s p is g.S.RawStore.reliable g.S.RawStore.failures g.S.RawStore.read_gives c.args.port.now a _ (c.requires.mode ∙ c.in-Missing.is) refl))
    (goes_same z.cells s _ _ _ _ _ c.begin.result (λ k. (k.0, refl, k.1)) (goes_turn z.cells s _ _ _ _ _ c.begin.result (λ a. ap (λ y. by_mode x.setting s p (mode_of y x.words) choice.Next a) c.in-Missing.is) (c.begin.ensures z s p is)))

pub returns-in-Filling : goal.returns-in-Filling
returns-in-Filling g c z s p _ is =
    let old = c.args.lock.now in
    let x = c.args.self.now in
    goes_with z.cells s _ _ _ _ _ c.fill_next.result (λ a k. (k, unasked_in g.S.RawStore.content g.S.RawStore.honest z old.memory old.berths x s p is g.S.RawStore.reliable g.S.RawStore.failures g.S.RawStore.read_gives c.args.port.now a _ (c.requires.mode ∙ c.in-Filling.is) refl))
    (goes_same z.cells s _ _ _ _ _ c.fill_next.result (λ k. (k.0, refl, k.1)) (goes_turn z.cells s _ _ _ _ _ c.fill_next.result (λ a. ap (λ y. by_mode x.setting s p (mode_of y x.words) choice.Next a) c.in-Filling.is) (c.fill_next.ensures z s p is)))

pub returns-in-Clearing : goal.returns-in-Clearing
returns-in-Clearing g c z s p _ is =
    let old = c.args.lock.now in
    let x = c.args.self.now in
    goes_with z.cells s _ _ _ _ _ c.clear_next.result (λ a k. (k, unasked_in g.S.RawStore.content g.S.RawStore.honest z old.memory old.berths x s p is g.S.RawStore.reliable g.S.RawStore.failures g.S.RawStore.read_gives c.args.port.now a _ (c.requires.mode ∙ c.in-Clearing.is) refl))
    (goes_same z.cells s _ _ _ _ _ c.clear_next.result (λ k. (k.0, refl, k.1)) (goes_turn z.cells s _ _ _ _ _ c.clear_next.result (λ a. ap (λ y. by_mode x.setting s p (mode_of y x.words) choice.Next a) c.in-Clearing.is) (c.clear_next.ensures z s p is)))

pub returns-in-Closing : goal.returns-in-Closing
returns-in-Closing g c z s p _ is =
    let old = c.args.lock.now in
    let x = c.args.self.now in
    goes_with z.cells s _ _ _ _ _ c.give_up.result (λ a k. (k, unasked_in g.S.RawStore.content g.S.RawStore.honest z old.memory old.berths x s p is g.S.RawStore.reliable g.S.RawStore.failures g.S.RawStore.read_gives c.args.port.now a _ (c.requires.mode ∙ c.in-Closing.is) refl))
    (goes_same z.cells s _ _ _ _ _ c.give_up.result (λ k. (k.0, refl, k.1)) (goes_turn z.cells s _ _ _ _ _ c.give_up.result (λ a. ap (λ y. by_mode x.setting s p (mode_of y x.words) choice.Next a) c.in-Closing.is) (c.give_up.ensures z s p is)))

pub returns-in-Reading : goal.returns-in-Reading
returns-in-Reading g c z s p _ is =
    let x = c.args.self.now in
    goes_turn z.cells s _ _ _ _ (Unit {0}) step.Took (λ a. ap (λ y. by_mode x.setting s p (mode_of y x.words) choice.Next a) c.in-Reading.is) (c.read.ensures z s p tt is)

pub returns-in-Releasing : goal.returns-in-Releasing
returns-in-Releasing g c z s p _ is =
    let old = c.args.lock.now in
    let x = c.args.self.now in
    goes_with z.cells s _ _ _ _ (Unit {0}) step.Took (λ a k. (k, unasked_in g.S.RawStore.content g.S.RawStore.honest z old.memory old.berths x s p is g.S.RawStore.reliable g.S.RawStore.failures g.S.RawStore.read_gives c.args.port.now a _ (c.requires.mode ∙ c.in-Releasing.is) refl))
    (goes_turn z.cells s _ _ _ _ (Unit {0}) step.Took (λ a. ap (λ y. by_mode x.setting s p (mode_of y x.words) choice.Next a) c.in-Releasing.is) (c.release.ensures z s p is))

pub returns-in-Retreating : goal.returns-in-Retreating
returns-in-Retreating g c z s p _ is =
    let old = c.args.lock.now in
    let x = c.args.self.now in
    goes_with z.cells s _ _ _ _ (Unit {0}) step.Took (λ a k. (k, unasked_in g.S.RawStore.content g.S.RawStore.honest z old.memory old.berths x s p is g.S.RawStore.reliable g.S.RawStore.failures g.S.RawStore.read_gives c.args.port.now a _ (c.requires.mode ∙ c.in-Retreating.is) refl))
    (goes_turn z.cells s _ _ _ _ (Unit {0}) step.Took (λ a. ap (λ y. by_mode x.setting s p (mode_of y x.words) choice.Next a) c.in-Retreating.is) (c.retreat.ensures z s p is))

pub returns-in-Evicting : goal.returns-in-Evicting
returns-in-Evicting g c z s p _ is =
    let x = c.args.self.now in
    let o = c.in-Evicting.object in
    let e = eviction_of c.in-Evicting.eviction x.words in
    goes_turn z.cells s _ _ _ _ (Unit {0}) step.Took (λ a. ap (λ y. by_mode x.setting s p (mode_of y x.words) choice.Next a) c.in-Evicting.is) (c.move_out.ensures z s p tt is)
