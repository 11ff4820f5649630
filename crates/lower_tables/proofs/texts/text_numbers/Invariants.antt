use Rattle.std.proofs.Common.{◌≡◌, ℕ, suc, List, drop, map}
use Rattle.std.specs.Prelude.{string_bytes}
use Rattle.std.specs.BTreeMap.{get_by_text}
use Rattle.lower_tables.specs.Texts.{number_from}
use Rattle.lower_tables.proofs.texts.text_numbers.Given as goal

-- the map has the numbers of the texts from here on
abbrev pub invariant-loop-i : goal.invariant-loop-i
invariant-loop-i l = (bytes : List ℕ) → get_by_text l.numbers bytes ≡ number_from (suc l.i) (drop l.i (map string_bytes l.texts)) bytes
