use Rattle.std.proofs.Common.{codes}
use Rattle.std.proofs.lemmas.Str.Pattern.{ends_text}
use Rattle.c0far.proofs.code.is_image_name.Goals as goal

pub returns : goal.returns
returns c = ends_text c.ends_with.result (codes ".c0i") c.args.file.now c.ends_with.ensures.cases
