use Rattle.std.proofs.Common.{◌≡◌, ℕ, length}
use Rattle.code_form.specs.Form.{Image}
use Rattle.world.specs.Parts.{parts}
use Rattle.world.specs.Stepped.{IsWorld}
use Rattle.world.specs.Reports.{AreEnds}
use Rattle.world_semantics.specs.Worlds.{Sizes}
use Rattle.world_semantics.specs.Worlds.{World as DefinedWorld}
use Rattle.world.proofs.world.World.ends.Given as goal

abbrev pub invariant-loop-program : goal.invariant-loop-program
invariant-loop-program g l =
    (length l.ends.items ≡ l.program)
    × ((z : Sizes) (images : ℕ → Image) (w : DefinedWorld)
    → IsWorld g.S.RawStore.content g.S.RawStore.honest z images (parts l.self) w
    → AreEnds w.programs 0 l.ends.items)
