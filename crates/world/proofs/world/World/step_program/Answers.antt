use Rattle.std.proofs.Common.{arith}
use Rattle.world.specs.Parts.{parts}
use Rattle.world.proofs.Happening.{at_index, program_back, program_stepped, program_told, same_berths, same_memory, seated, set_back}
use Rattle.world.proofs.world.World.step_program.Goals as goal

pub returns-then-number-len : goal.returns-then-number-len
returns-then-number-len g c z images w inside is =
    let h : Type 0 = g.S.RawStore.honest in
    let old = c.args.self.now in
    let x = parts old in
    let k = c.args.number in
    let y = c.index_mut.result.now in
    let now = c.turn.new.lock in
    let here = at_index x.programs k y (omega (arith, old.programs.ok.0)) c.index_mut.ensures.value in
    program_stepped g.S.RawStore.content h z images x w is k y here c.args.choice now.memory now.berths c.turn.new.self c.turn.new.port _ _ _ _ c.turn.result inside
    (program_told g.S.RawStore.reliable g.S.RawStore.failures g.S.RawStore.read_gives z w x k now.memory now.berths y c.turn.new.self c.turn.new.port here)
    (λ e. program_back x now.memory now.berths (same_memory now old.lock e.0) (same_berths now old.lock e.0) _ (set_back x.programs k y c.turn.new.self c.turn.new.port c.index_mut.ensures.value e.2 e.1))
    (c.turn.ensures z w.lock (w.programs k) inside (seated g.S.RawStore.content h z images x w is k y here))
