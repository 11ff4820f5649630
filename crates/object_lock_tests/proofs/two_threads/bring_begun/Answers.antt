use Rattle.object_lock_tests.proofs.Zeros.{zeros}
use Rattle.object_lock_tests.proofs.two_threads.bring_begun.Goals as goal

pub read_words-requires-clause-zeros : goal.read_words-requires-clause-zeros
read_words-requires-clause-zeros g c κs within = zeros _ 256
