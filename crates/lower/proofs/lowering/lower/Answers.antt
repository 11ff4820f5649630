use Rattle.std.proofs.Common.{◌≡◌, ℕ, sym, subst}
use Rattle.c0_typed.specs.Views.{program_of}
use Rattle.c0_typed.specs.Meaning.{mean}
use Rattle.lower_tables.specs.Gathered.{singles_of}
use Rattle.lower.specs.Laws.{MeansTheSame}
use Rattle.lower.proofs.lowering.lower.Goals as goal

pub returns-clause-same : goal.returns-clause-same
returns-clause-same c =
    let made = c.in_ok-lowered.ensures in
    subst (MeansTheSame c.args.typed.now c.args.checks) (sym made.1) (c.lowered_means_the_same.ensures (singles_of c.args.typed.now) c.args.checks c.args.typed.now c.requires made.0)
