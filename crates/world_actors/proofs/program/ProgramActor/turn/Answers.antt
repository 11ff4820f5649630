use Rattle.std.proofs.Common.{refl, sym, ap, ◌∙◌}
use Rattle.world_semantics.specs.declared.event.Choice.TheVariants as choice
use Rattle.world_actors.specs.declared.program.Mode.TheVariants as m
use Rattle.world_semantics.specs.Turns.{program_turn}
use Rattle.world_actors.proofs.Acting.{goes_same, goes_with}
use Rattle.world_actors.proofs.BroughtIn.{unasked_in}
use Rattle.world_actors.proofs.Dispatched.{not_enabled, turn_is}
use Rattle.world_actors.proofs.Instructed.{goes_turn}
use Rattle.world_actors.proofs.program.ProgramActor.turn.Goals as goal

pub returns-in-Bringing : goal.returns-in-Bringing
returns-in-Bringing g c z s p inside is =
    let old = c.args.lock.now in
    let x = c.args.self.now in
    goes_with z.cells s _ _ _ _ _ c.seek.result
    (λ a k. (k, unasked_in g.S.RawStore.content g.S.RawStore.honest z old.memory old.berths x s p is g.S.RawStore.reliable g.S.RawStore.failures g.S.RawStore.read_gives c.args.port.now a (m.Bringing c.in-Bringing.object) (sym c.in-Bringing.ensures.value) refl))
    (goes_same z.cells s _ _ _ _ _ c.seek.result (λ k. (k.0, refl, k.1)) (goes_turn z.cells s _ _ _ _ _ c.seek.result (λ a. turn_is x s p (m.Bringing c.in-Bringing.object) c.args.choice a is.program c.in-Bringing.ensures.value) (c.seek.ensures z s p inside is)))

pub returns-in-Next : goal.returns-in-Next
returns-in-Next g c z s p inside is =
    let x = c.args.self.now in
    goes_turn z.cells s _ _ _ _ _ c.advance.result (λ a. ap (λ y. program_turn x.setting s p y a) c.in-Next.is ∙ turn_is x s p c.mode.result choice.Next a is.program c.mode.ensures.value) (c.advance.ensures z s p tt is)

pub returns-in_default-choice : goal.returns-in_default-choice
returns-in_default-choice g c z s p inside is =
    let x = c.args.self.now in
    ((λ a. not_enabled z.cells x s p c.mode.result c.args.choice a is.program c.mode.ensures.value c.in_default.not-Bringing c.in_default-choice.not-Next), (refl, refl, refl))
