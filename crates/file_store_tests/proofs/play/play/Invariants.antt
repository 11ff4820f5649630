use Rattle.std.proofs.Common.{length}
use Rattle.file_store_tests.proofs.play.play.Given as goal

abbrev pub invariant-loop-line : goal.invariant-loop-line
invariant-loop-line g l = g.W.Way.takes l.bench.way (length l.bench.words.items) × g.W.Way.takes l.bench.other (length l.bench.words.items)
