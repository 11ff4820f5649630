use Rattle.std.proofs.Common.{◌≡◌, ℕ, suc, ◌+◌, ◌<◌, ◌≤◌, subst, [], ap, refl, arith}
use Rattle.world_semantics.specs.declared.event.Step.TheVariants as step
use Rattle.world_semantics.specs.Programs.{Filling}
use Rattle.world_actors.specs.Seats.{mode_of}
use Rattle.world_actors.proofs.Dispatched.{fills_all, fills_cell}
use Rattle.world_actors.proofs.Instructed.{goes_turn}
use Rattle.world_actors.proofs.program.ProgramActor.clear_next.Goals as goal

next : (k : ℕ) → suc k ≡ k + 1
next k = omega arith

pub returns-then-index-size : goal.returns-then-index-size
returns-then-index-size g c z s p is =
    let x = c.args.self.now in
    let low : c.args.index < x.setting.size = subst (λ n. c.args.index < n) c.size.ensures.value c.if-index-size.true in
    let mode = ap (λ y. mode_of y x.words) c.requires.mode in
    goes_turn z.cells s _ _ _ _ (Unit {0}) step.Took (λ a. fills_cell x.setting p a c.args.object c.args.frame c.args.index [] low) (c.fill.ensures [] mode refl (ap (Filling c.args.object c.args.frame []) (next c.args.index)) z s p is)

pub returns-else-index-size : goal.returns-else-index-size
returns-else-index-size g c z s p is =
    let x = c.args.self.now in
    let full : x.setting.size ≤ c.args.index = subst (λ n. n ≤ c.args.index) c.size.ensures.value c.if-index-size.false in
    let mode = ap (λ y. mode_of y x.words) c.requires.mode in
    goes_turn z.cells s _ _ _ _ _ c.arrive.result (λ a. fills_all x.setting p a c.args.object c.args.frame c.args.index [] full) (c.arrive.ensures [] c.args.index mode full z s p is)
