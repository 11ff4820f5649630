use Rattle.std.proofs.Common.{subst, sym}
use Rattle.std.specs.Prelude.{string_bytes}
use Rattle.image_bytes.specs.Encodable.{TextFits}
use Rattle.image_bytes.proofs.Fitting.{unfit_at}
use Rattle.image_bytes.proofs.encodable.texts_fit.Goals as goal

pub returns-then-not-letters_fit : goal.returns-then-not-letters_fit
returns-then-not-letters_fit c = unfit_at TextFits string_bytes c.args.texts.now c.loop-text.text-index c.text-item.result c.loop-text-test.true c.text-item.is (λ h. c.if-not-letters_fit.ensures.1 (subst TextFits (sym c.as_bytes.ensures.value) h))
