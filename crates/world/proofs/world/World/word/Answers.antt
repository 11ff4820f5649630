use Rattle.std.proofs.Common.{sym, subst, ap, ◌∙◌}
use Rattle.pointer_word.specs.Words.{pack}
use Rattle.world_memory.specs.declared.memory.Object.{Object}
use Rattle.world_memory.specs.Tables.{FrameFits, place_of, word_of}
use Rattle.world.specs.Parts.{parts}
use Rattle.world.proofs.Opened.{frame_fits}
use Rattle.world.proofs.world.World.word.Goals as goal

pub returns : goal.returns
returns g c z images w is =
    let now = c.args.self.now in
    let o = c.args.object in
    let fits = frame_fits g.S.RawStore.content g.S.RawStore.honest z images (parts now) w is o in
    c.word.ensures (subst (λ (y : Object). FrameFits (place_of y.place)) (sym c.object.ensures) fits) ∙ (ap (λ (y : Object). pack (word_of y)) c.object.ensures ∙ ap pack (sym (is.shows.tables.objects o).word))
