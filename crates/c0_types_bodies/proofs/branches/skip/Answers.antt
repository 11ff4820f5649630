use Rattle.std.proofs.Common.{ap, ◌∙◌}
use Rattle.c0_typed.specs.Views.{block_of}
use Rattle.c0_types_bodies.proofs.BodyRows.{typed_block_is}
use Rattle.c0_types_bodies.proofs.branches.skip.Goals as goal

pub returns : goal.returns
returns c = λ texts. typed_block_is texts c.new.result ∙ ap (block_of texts) c.new.ensures.items
