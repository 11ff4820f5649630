use Rattle.lower_tables.specs.Gathered.{singles_of}
use Rattle.lower.specs.Lowered.{lowered}
use Rattle.scope_placement.specs.Placed.{placed_program}
use Rattle.codegen.specs.Generated.{generated}
use Rattle.c0_well_formed.specs.Passes.{behind}
use Rattle.c0_well_formed.proofs.Passes.{image_named, image_verified}
use Rattle.c0_well_formed.proofs.laws.passes_are_accepted.Goals as goal

pub returns : goal.returns
returns c checks cells typed passes fits =
    let C = generated cells (behind passes (placed_program (lowered (singles_of typed) checks typed))) in
    let whole = image_verified cells checks typed passes fits in
    (whole, c.verified_is_accepted.ensures C whole (image_named cells checks typed passes fits))
