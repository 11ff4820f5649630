use Rattle.std.proofs.Common.{◌≡◌, ◌*◌, ◌<◌, ◌≤◌, arith, length, refl}
use Rattle.object_lock.specs.Fresh.{IsWithinLimits}
use Rattle.region.specs.Admission.{image_at, needed}
use Rattle.world_semantics.specs.Enough.{scopes_below}
use Rattle.region.proofs.Sums.{few_below}
use Rattle.region.proofs.admission.fits.Goals as goal

pub returns-then-have-need : goal.returns-then-have-need
returns-then-have-need g c =
    let programs = c.args.programs.now in
    let config = c.args.config.now in
    let within : IsWithinLimits (length programs) config.frames config.objects config.evacuators config.fetchers = c.if-not-is_within_limits.ensures.within refl in
    let few : scopes_below (image_at programs) (length programs) ≤ length programs * 4 = few_below c.accepted_is_verified.ensures.verified programs (length programs) in
    let exact : c.need-need.result ≡ needed programs config.evacuators config.fetchers = omega (arith, c.need-need.ensures, few, within.1, within.6, within.7) in
    let have : c.from-have.result ≡ config.frames = c.from-have.ensures in
    let less : config.frames < needed programs config.evacuators config.fetchers = omega (arith, exact, have, c.if-have-need.true) in
    (within, c.if-not-is_within_work.ensures.within refl, c.in_default.ensures, exact, have, less)
