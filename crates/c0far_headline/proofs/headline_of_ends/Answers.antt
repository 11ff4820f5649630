use Rattle.c0far_headline.proofs.Ran.{ran, settled}
use Rattle.c0far_headline.proofs.headline_of_ends.Goals as goal

pub returns-clause-ends : goal.returns-clause-ends
returns-clause-ends c = ran (record {
  one = c.one_image.ensures;
  more = c.more_turns.ensures;
  add = c.run_laws.ensures.add;
  stays = c.run_laws.ensures.stopped;
  at = c.programs_follow.ensures.at;
  wanted = c.wants.ensures.wanted;
})

pub returns-clause-settled : goal.returns-clause-settled
returns-clause-settled c = settled c.headline.ensures
