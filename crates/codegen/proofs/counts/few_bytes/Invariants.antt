use Rattle.std.proofs.Common.{◌≡◌, drop, map, string_bytes}
use Rattle.std.specs.List.{list_all}
use Rattle.code_form.specs.Counts.{is_few}
use Rattle.codegen.proofs.counts.few_bytes.Given as goal

abbrev pub invariant-loop-text : goal.invariant-loop-text
invariant-loop-text l = list_all is_few (map string_bytes l.texts) ≡ list_all is_few (map string_bytes (drop l.text-index l.texts))
