use Rattle.std.proofs.Common.{arith, ◌∙◌, ◌<◌, length, sym}
use Rattle.world.specs.Parts.{parts}
use Rattle.world.proofs.Happening.{at_index}
use Rattle.world.proofs.Starving.{wants_so}
use Rattle.world.proofs.world.World.wants_memory.Goals as goal

pub returns : goal.returns
returns g c z images w is =
    let x = parts c.args.self.now in
    let k = c.in-Program.number in
    let y = c.index.result.now in
    let less : k < length x.programs = omega (arith, c.if-number-len.false, c.len.ensures) in
    wants_so g.S.RawStore.content g.S.RawStore.honest z images w x is k y (at_index x.programs k y less c.index.ensures) less c.args.actor c.in-Program.is _
    (λ t. sym c.mode.ensures.value ∙ c.lacks_memory.ensures.0 t, λ q. c.lacks_memory.ensures.1 (c.mode.ensures.value ∙ q))
