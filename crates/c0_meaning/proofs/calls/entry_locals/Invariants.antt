use Rattle.std.proofs.Common.{◌≡◌, ◌∷◌, ◌++◌, map, take}
use Rattle.c0_typed.specs.Meaning.{blank}
use Rattle.c0_typed.specs.Views.{type_of}
use Rattle.c0_values.specs.PlainStates.{Texts, value_of}
use Rattle.c0_meaning.proofs.calls.entry_locals.Given as goal

abbrev pub invariant-loop-ty : goal.invariant-loop-ty
invariant-loop-ty l =
    (l.ty-items ≡ l.function.locals.items)
    × ((texts : Texts) → map (value_of texts) l.given.items ≡ blank (type_of l.function.result) ∷ map (value_of texts) l.fn.given.items ++ map blank (map type_of (take l.ty-index l.ty-items)))
