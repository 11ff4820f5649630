use Rattle.c0far_headline.proofs.Headlines.{composed}
use Rattle.c0far_headline.proofs.headline.Goals as goal

pub returns : goal.returns
returns c = composed (record {
  one = c.one_image.ensures;
  more = c.more_turns.ensures;
  add = c.run_laws.ensures.add;
  stays = c.run_laws.ensures.stopped;
  at = c.programs_follow.ensures.at;
  wanted = c.wants.ensures.wanted;
})
