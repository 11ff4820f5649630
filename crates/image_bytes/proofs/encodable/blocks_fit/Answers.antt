use Rattle.code_form.specs.Form.{block_of}
use Rattle.image_bytes.specs.Encodable.{BlockFits}
use Rattle.image_bytes.proofs.Fitting.{unfit_at}
use Rattle.image_bytes.proofs.encodable.blocks_fit.Goals as goal

pub returns-then-not-block_fits : goal.returns-then-not-block_fits
returns-then-not-block_fits c = unfit_at BlockFits block_of c.args.blocks.now c.loop-block.block-index c.block-item.result c.loop-block-test.true c.block-item.is c.if-not-block_fits.ensures.1
