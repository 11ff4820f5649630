use Rattle.c0far_headline.proofs.Shown.{headline_of}
use Rattle.c0far_headline.proofs.headline_of_runs.Goals as goal

pub returns : goal.returns
returns c = headline_of (record {
  one = c.one_image.ensures;
  more = c.more_turns.ensures;
  add = c.run_laws.ensures.add;
  stays = c.run_laws.ensures.stopped;
  at = c.programs_follow.ensures.at;
  wanted = c.wants.ensures.wanted;
})
