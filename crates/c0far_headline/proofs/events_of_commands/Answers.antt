use Rattle.c0far_headline.proofs.Shown.{run_shows_events}
use Rattle.c0far_headline.proofs.events_of_commands.Goals as goal

pub returns : goal.returns
returns c = λ asked files held out err result did k f too. run_shows_events asked files held out err result did k f too
