use Rattle.std.proofs.Common.{arith}
use Rattle.file_store.proofs.Written.{put_front}
use Rattle.file_store.proofs.memory.copy_front.Goals as goal

pub returns-clause-front : goal.returns-clause-front
returns-clause-front c = put_front c.args.held.now c.args.bytes.now _ _ (omega arith) (omega arith) c.copy_from_slice.ensures.after
