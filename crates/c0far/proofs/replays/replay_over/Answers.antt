use Rattle.std.proofs.Common.{arith}
use Rattle.command_line.specs.Shell.{replayed_of}
use Rattle.c0far.proofs.Replayed.{replays_less}
use Rattle.c0far.proofs.replays.replay_over.Goals as goal

pub returns-then-asked-eq0-clause-done : goal.returns-then-asked-eq0-clause-done
returns-then-asked-eq0-clause-done g c =
    λ names codes. replays_less _ _ _ _ (λ so. so) (λ never. never.0) (replayed_of c.args.asked) names (g.F.Files.holds c.args.files.now) _ _ _ (c.replay_with.ensures.done names codes)

pub returns-in-Ok-clause-done : goal.returns-in-Ok-clause-done
returns-in-Ok-clause-done g c =
    λ names codes. replays_less _ _ _ _ (λ so. so) (λ never. absurd (let no : ⊥ = omega (arith, c.if-asked-eq0.false, never.1) in no)) (replayed_of c.args.asked) names (g.F.Files.holds c.args.files.now) _ _ _
    (c.replay_with-in-Ok.ensures.done names codes)
