use Rattle.std.proofs.Common.{take}
use Rattle.std.specs.List.{AllByRecursion}
use Rattle.image_bytes.specs.Encodable.{IsLetter}
use Rattle.image_bytes.proofs.encodable.letters_fit.Given as goal

abbrev pub invariant-loop-letter : goal.invariant-loop-letter
invariant-loop-letter l = AllByRecursion IsLetter (take l.letter-index l.letters)
