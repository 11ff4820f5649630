use Rattle.std.proofs.Common.{rules, ◌≡◌, []}
use Rattle.clap.specs.Words.{app_of}
use Rattle.command_line.specs.Shell.{shell, top_shape}
use Rattle.command_line.proofs.line.command.Goals as goal

pub returns : goal.returns
unfolding shell
returns c =
    let top : app_of c.subcommand_required.result ≡ record { top = top_shape; subs = [] } = search rules in
    let first = c.with_below-first.ensures _ _ top c.build.ensures.shape c.build.ensures.local in
    let second = c.with_below-second.ensures _ _ first c.check.ensures.shape c.check.ensures.local in
    let third = c.with_below-third.ensures _ _ second c.list.ensures.shape c.list.ensures.local in
    let fourth = c.with_below-fourth.ensures _ _ third c.mean.ensures.shape c.mean.ensures.local in
    let fifth = c.with_below-fifth.ensures _ _ fourth c.replay.ensures.shape c.replay.ensures.local in
    c.with_below.ensures _ _ fifth c.run.ensures.shape c.run.ensures.local
