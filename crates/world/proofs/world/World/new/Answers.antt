use Rattle.std.proofs.Common.{◌≡◌, ◌∙◌, ℕ, length, get_or, ap, sym, subst}
use Rattle.cells.specs.Pieces.{cells_in}
use Rattle.code_form.specs.Form.{Image}
use Rattle.code_form.specs.declared.form.Image.{Image as RustImage}
use Rattle.cells.proofs.Pieces.{is_a_piece}
use Rattle.world.specs.Opened.{images_of, sizes_of}
use Rattle.world_semantics.specs.Pieces.{piece_of}
use Rattle.world.specs.Parts.{Parts}
use Rattle.world.specs.Stepped.{IsWorld}
use Rattle.world.proofs.Opened.{image_at, opens_world}
use Rattle.world_semantics.specs.Worlds.{start}
use Rattle.world.proofs.world.World.new.Goals as goal

pub returns-clause-opens : goal.returns-clause-opens
returns-clause-opens g c =
    let config = c.args.config.now in
    let images = c.args.images.now in
    let read = c.index-images-0.is in
    let one : RustImage = get_or images 0 c.index-images-0.result in
    let n : ℕ = cells_in one.piece in
    let first : n ≡ piece_of (images_of images) = ap (λ (i : RustImage). cells_in i.piece) (sym read) ∙ ap (λ (i : Image). i.piece) (image_at images 0 c.index-images-0.result c.requires.images.0 read) in
    let made = c.in_ok-berths.ensures.made in
    let x : Parts g.row.S.Denot g.row.S-Cell.Denot = record { tables = c.in-Ok.memory; berths = c.in_ok-berths.berths; programs = c.in_ok-programs.programs.items; evacuators = c.in_ok-evacuators.evacuators.items; fetchers = c.in_ok-fetchers.fetchers.items } in
    subst (λ (n : ℕ). IsWorld g.S.RawStore.content g.S.RawStore.honest (sizes_of (length images) config.frames config.objects config.evacuators config.fetchers n) (images_of images) x (start (images_of images))) first
    (opens_world g.S.RawStore.content g.S.RawStore.honest images config.frames config.objects config.evacuators config.fetchers n x (is_a_piece one.piece) c.requires.pieces (sym first)
    c.in-Ok.ensures c.requires.objects.1 c.requires.frames.1 made.0 made.1 (made.2 n) c.in_ok-programs.ensures.made.0 c.in_ok-programs.ensures.made.1 c.in_ok-evacuators.ensures.made.0
    c.in_ok-evacuators.ensures.made.1 c.in_ok-fetchers.ensures.made.0 c.in_ok-fetchers.ensures.made.1)
