use Rattle.std.proofs.Common.{ap, ◌∙◌}
use Rattle.pointer_word.specs.Words.{framed}
use Rattle.world_memory.specs.declared.memory.Object.{Object}
use Rattle.world_memory.specs.Tables.{place_of}
use Rattle.world.specs.Parts.{parts}
use Rattle.world.proofs.Opened.{no_cell, the_cell}
use Rattle.world.proofs.world.World.cell.Goals as goal

pub returns-in-Some : goal.returns-in-Some
returns-in-Some g c z images w is =
    let now = c.args.self.now in
    the_cell g.S.RawStore.content g.S.RawStore.honest z images (parts now) w is c.args.object c.args.index c.in-Some.frame c.cell.result
    (c.in-Some.ensures ∙ ap (λ (y : Object). framed (place_of y.place)) c.object.ensures) c.cell.ensures

pub returns-in-None : goal.returns-in-None
returns-in-None g c z images w is =
    let now = c.args.self.now in
    no_cell g.S.RawStore.content g.S.RawStore.honest z images (parts now) w is c.args.object c.args.index
    (c.in-None.ensures ∙ ap (λ (y : Object). framed (place_of y.place)) c.object.ensures)
