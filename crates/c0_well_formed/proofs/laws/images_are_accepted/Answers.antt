use Rattle.std.specs.Prelude.{[], ◌∷◌}
use Rattle.c0_well_formed.specs.Images.{image_of_tree}
use Rattle.c0_well_formed.specs.Passes.{Hoist, Prefetch}
use Rattle.c0_well_formed.proofs.Images.{images_ok}
use Rattle.c0_well_formed.proofs.Passes.{image_named}
use Rattle.c0_well_formed.proofs.laws.images_are_accepted.Goals as goal

pub returns : goal.returns
returns c checks cells typed fits =
    c.verified_is_accepted.ensures (image_of_tree checks cells typed) (images_ok checks cells typed fits) (image_named cells checks typed (Hoist ∷ Prefetch cells ∷ []) fits)
