use Rattle.std.proofs.Common.{◌+◌, ℕ, subst}
use Rattle.world.specs.Opened.{sizes_of}
use Rattle.schedule_replay.proofs.Forgetting.{one_piece, programs_replayed, programs_unreplayed, same_piece}
use Rattle.schedule_replay.proofs.replay.replay_admitted.Goals as goal

pub returns-in-Ok-replay : goal.returns-in-Ok-replay
returns-in-Ok-replay g c =
    let config = c.args.config.now in
    programs_replayed _ _ _ _ c.in-Ok.images.items c.args.programs.items (λ n piece. sizes_of n config.frames config.objects config.evacuators config.fetchers piece) c.in-Ok.ensures c.args.schedule.now c.in-Ok-replay.report.ended.items c.in-Ok-replay.ensures

pub returns-in-Err : goal.returns-in-Err
returns-in-Err g c =
    let config = c.args.config.now in
    programs_unreplayed _ _ _ _ c.in-Ok.images.items c.args.programs.items (λ n piece. sizes_of n config.frames config.objects config.evacuators config.fetchers piece) c.in-Ok.ensures c.args.schedule.now c.in-Err.refused c.in-Err.ensures

pub replay-requires-clause-pieces : goal.replay-requires-clause-pieces
replay-requires-clause-pieces g c lifetimes lives = one_piece c.in-Ok.images.items c.args.programs.items c.in-Ok.ensures c.requires.admitted.2

pub replay-requires-clause-store : goal.replay-requires-clause-store
replay-requires-clause-store g c lifetimes lives =
    subst (λ (n : ℕ). g.M.Stores.makes c.args.config.now.stores (n + 3)) (same_piece c.in-Ok.images.items c.args.programs.items c.in-Ok.ensures) c.requires.store
