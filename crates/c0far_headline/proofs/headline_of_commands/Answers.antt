use Rattle.c0far_headline.proofs.Shown.{replay_shows, run_shows}
use Rattle.c0far_headline.proofs.headline_of_commands.Goals as goal

pub returns-clause-runs : goal.returns-clause-runs
returns-clause-runs c = run_shows (record {
  one = c.one_image.ensures;
  more = c.more_turns.ensures;
  add = c.run_laws.ensures.add;
  stays = c.run_laws.ensures.stopped;
  at = c.programs_follow.ensures.at;
  wanted = c.wants.ensures.wanted;
})

pub returns-clause-replays : goal.returns-clause-replays
returns-clause-replays c = replay_shows c.headline_of_replays.ensures
