use Rattle.std.proofs.Common.{◌≡◌, take}
use Rattle.std.specs.List.{filter}
use Rattle.test_rows.specs.Rows.{is_kept}
use Rattle.test_rows.proofs.reading.without_blanks.Given as goal

abbrev pub invariant-loop-byte : goal.invariant-loop-byte
invariant-loop-byte l = l.kept.items ≡ filter is_kept (take l.byte-index l.text)
