use Rattle.std.proofs.Common.{List, length, subst}
use Rattle.code_form.specs.declared.form.Image.{Image}
use Rattle.world.specs.Opened.{images_of, sizes_of}
use Rattle.world_semantics.specs.Pieces.{piece_of}
use Rattle.world.specs.Reports.{IsRefusal, IsReport}
use Rattle.world_semantics.specs.Worlds.{start}
use Rattle.world.proofs.Starving.{refused_from}
use Rattle.world.proofs.schedule.replay.Goals as goal

pub returns-in-Ok-ends : goal.returns-in-Ok-ends
returns-in-Ok-ends g c =
    let now = c.args.config.now in
    let given : List Image = c.deref.result.now in
    let images = images_of given in
    let z = sizes_of (length given) now.frames now.objects now.evacuators now.fetchers (piece_of images) in
    let led = c.in_default-follow.ensures z images (start images) c.in-Ok.ensures.opens in
    let told = c.in-Ok-ends.ensures z images led.0 led.2 in
    subst (λ (xs : List Image). IsReport g.M.S.RawStore.honest g.M.S.RawStore.reliable g.M.S.RawStore.failures g.M.S.RawStore.read_gives (sizes_of (length xs) now.frames now.objects now.evacuators now.fetchers (piece_of (images_of xs))) (images_of xs) c.args.schedule.now c.in-Ok-ends.ended.items) c.deref.ensures.value
    (record { opening = _; world = led.0; closing = _; led = led.1; all = told.0; ended = told.1 })

pub returns-in-Some : goal.returns-in-Some
returns-in-Some g c =
    let now = c.args.config.now in
    let given : List Image = c.deref.result.now in
    let images = images_of given in
    let z = sizes_of (length given) now.frames now.objects now.evacuators now.fetchers (piece_of images) in
    let stuck = c.in-Some.ensures z images (start images) c.in-Ok.ensures.opens in
    subst (λ (xs : List Image). IsRefusal g.M.S.RawStore.honest g.M.S.RawStore.reliable g.M.S.RawStore.failures g.M.S.RawStore.read_gives (sizes_of (length xs) now.frames now.objects now.evacuators now.fetchers (piece_of (images_of xs))) (images_of xs)
    c.args.schedule.now c.in-Some.refused) c.deref.ensures.value
    (refused_from g.M.S.RawStore.honest g.M.S.RawStore.reliable g.M.S.RawStore.failures g.M.S.RawStore.read_gives z images _ c.args.schedule.now c.in-Some.refused stuck)
