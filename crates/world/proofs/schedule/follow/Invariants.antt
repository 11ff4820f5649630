use Rattle.std.proofs.Common.{ℕ, suc, ◌+◌, ◌≤◌, length}
use Rattle.code_form.specs.Form.{Image}
use Rattle.world.specs.Parts.{parts}
use Rattle.world.specs.Stepped.{IsWorld}
use Rattle.world.specs.Reports.{HasCome}
use Rattle.world_semantics.specs.Worlds.{Sizes}
use Rattle.world_semantics.specs.Worlds.{World as Defined}
use Rattle.world.proofs.schedule.follow.Given as goal

abbrev pub invariant-loop-rest : goal.invariant-loop-rest
invariant-loop-rest g l =
    (l.line + length l.rest ≤ suc (length l.schedule))
    × ((z : Sizes) (images : ℕ → Image) (w : Defined)
    → IsWorld g.S.RawStore.content g.S.RawStore.honest z images (parts l.fn.world) w
    → (v : Defined) × HasCome g.S.RawStore.honest g.S.RawStore.reliable g.S.RawStore.failures g.S.RawStore.read_gives z images w
    (parts l.fn.world) l.schedule l.rest l.line v
    (parts l.world)
    × IsWorld g.S.RawStore.content g.S.RawStore.honest z images (parts l.world) v)

abbrev pub decreases-loop-rest : goal.decreases-loop-rest
decreases-loop-rest g l = length l.rest
