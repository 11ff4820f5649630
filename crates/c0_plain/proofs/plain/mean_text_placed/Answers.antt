use Rattle.std.proofs.Common.{◌∙◌, ap}
use Rattle.c0_typed.specs.Meaning.{mean as mean_of}
use Rattle.c0_plain.proofs.plain.mean_text_placed.Goals as goal

pub returns-in-Ok-mean_placed-clause-every : goal.returns-in-Ok-mean_placed-clause-every
returns-in-Ok-mean_placed-clause-every c = λ p typed. c.in-Ok-mean_placed.ensures ∙ ap (λ q. mean_of q c.args.checks c.args.turns) (c.in-Ok.ensures.every p typed)
