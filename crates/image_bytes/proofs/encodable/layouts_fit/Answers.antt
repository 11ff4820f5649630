use Rattle.std.proofs.Common.{subst, sym}
use Rattle.image_bytes.specs.Encodable.{LayoutFits}
use Rattle.image_bytes.proofs.Fitting.{unfit_at}
use Rattle.image_bytes.proofs.encodable.layouts_fit.Goals as goal

pub returns-then-not-layout_fits : goal.returns-then-not-layout_fits
returns-then-not-layout_fits c = unfit_at LayoutFits (λ l. l.items) c.args.layouts.now c.loop-layout.layout-index c.layout-item.result c.loop-layout-test.true c.layout-item.is (λ h. c.if-not-layout_fits.ensures.1 (subst LayoutFits (sym c.deref.ensures.value) h))
