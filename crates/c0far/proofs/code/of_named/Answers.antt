use Rattle.std.proofs.lemmas.Result.{IfErr-weaker}
use Rattle.c0_syntax.specs.Levels.{has_loops}
use Rattle.c0far.proofs.NoCode.{no_text}
use Rattle.c0far.proofs.code.of_named.Goals as goal

pub returns-else-is_image_name-clause-refused : goal.returns-else-is_image_name-clause-refused
returns-else-is_image_name-clause-refused g c =
    IfErr-weaker c.of_text.result _ _ (λ status h held out has quiet. no_text (has_loops c.args.compiling.texts.level) c.args.file.now held out _ status c.if-is_image_name.ensures (h held out has quiet)) c.of_text.ensures.refused
