use Rattle.std.proofs.Common.{rules, ◌∙◌}
use Rattle.codegen.proofs.Images.{closed_block}
use Rattle.codegen.proofs.image.close.Goals as goal

pub returns : goal.returns
returns c = closed_block c.args.entry.now _ c.args.code.items _ (search rules) (c.in_ok-code.ensures ∙ c.reverse.ensures.items)
