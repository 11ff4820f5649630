use Rattle.std.proofs.Common.{◌≡◌, ◌++◌, take}
use Rattle.std.specs.Prelude.{string_bytes}
use Rattle.std.specs.List.{flat_map}
use Rattle.image_listing.specs.Parts.{later_argument}
use Rattle.image_listing.proofs.listing.put_later.Given as goal

abbrev pub invariant-loop-argument : goal.invariant-loop-argument
invariant-loop-argument l = string_bytes l.text ≡ string_bytes l.fn.text ++ flat_map later_argument (take l.argument-index l.arguments)
