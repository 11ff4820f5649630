use Rattle.std.proofs.Common.{ap, take, ◌∙◌, arith}
use Rattle.file_store.proofs.Written.{front_given, front_read}
use Rattle.file_store.proofs.memory.MemFolderFolder.read.Goals as goal

pub returns-clause-got : goal.returns-clause-got
returns-clause-got c = λ u held is. front_read c.args.file.now.bytes.items c.copy_front-count.new.bytes held _ (omega arith) (c.copy_front-count.ensures.front ∙ ap (take c.copy_front-count.result) c.deref.ensures.value) is

pub returns-clause-gave : goal.returns-clause-gave
returns-clause-gave c = front_given c.args.file.now.bytes.items c.copy_front-count.new.bytes _ (omega arith) (c.copy_front-count.ensures.front ∙ ap (take c.copy_front-count.result) c.deref.ensures.value)
