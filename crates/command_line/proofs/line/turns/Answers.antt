use Rattle.std.proofs.Common.{◌∙◌, ap, sym}
use Rattle.std.specs.Prelude.{codes, option_and_then}
use Rattle.clap.specs.Words.{found_of}
use Rattle.command_line.specs.Shell.{number_in}
use Rattle.command_line.proofs.Found.{first_is}
use Rattle.command_line.proofs.line.turns.Goals as goal

pub returns-in-Some : goal.returns-in-Some
returns-in-Some c = c.number.ensures ∙ ap (option_and_then number_in) (c.in-Some.ensures ∙ sym (first_is (found_of c.args.matches.now) (codes "turns")))

pub returns-in-None : goal.returns-in-None
returns-in-None c = ap (option_and_then number_in) (c.in-None.ensures ∙ sym (first_is (found_of c.args.matches.now) (codes "turns")))
