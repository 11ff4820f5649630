use Rattle.std.proofs.Common.{◌≡◌, drop, map}
use Rattle.std.specs.List.{list_all}
use Rattle.code_form.specs.Counts.{few_arguments}
use Rattle.code_form.specs.Form.{instruction_of}
use Rattle.codegen.proofs.counts.few_in_code.Given as goal

abbrev pub invariant-loop-instruction : goal.invariant-loop-instruction
invariant-loop-instruction l = list_all few_arguments (map instruction_of l.code) ≡ list_all few_arguments (map instruction_of (drop l.instruction-index l.code))
