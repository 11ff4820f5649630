use Rattle.std.proofs.Common.{◌≡◌, ◌++◌, map, drop}
use Rattle.middle_form.specs.Views.{function_of}
use Rattle.lower.specs.Building.{function_code}
use Rattle.lower.proofs.program.functions.Given as goal

-- what is made, and then what comes from the rest
abbrev pub invariant-loop-source : goal.invariant-loop-source
invariant-loop-source l =
    map (function_code l.context) l.context.typed.now.functions.items ≡ map function_of l.made.items ++ map (function_code l.context) (drop l.source-index l.context.typed.now.functions.items)
