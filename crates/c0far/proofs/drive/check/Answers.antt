use Rattle.c0_syntax.specs.Levels.{has_loops}
use Rattle.c0far.proofs.NoCode.{checks_image, checks_text}
use Rattle.c0far.proofs.drive.check.Goals as goal

pub returns-then-is_image_name-clause-done : goal.returns-then-is_image_name-clause-done
returns-then-is_image_name-clause-done g c = checks_image (has_loops c.args.level) c.args.file.now _ _ _ _ c.if-is_image_name.ensures c.check_image.ensures.done

pub returns-else-is_image_name-clause-done : goal.returns-else-is_image_name-clause-done
returns-else-is_image_name-clause-done g c = checks_text (has_loops c.args.level) c.args.file.now _ _ _ _ c.if-is_image_name.ensures c.check_text_of.ensures.done
