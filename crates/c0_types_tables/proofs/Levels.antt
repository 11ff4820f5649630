-- Types within pointers and arrays, by number.
use Rattle.std.proofs.Common.{◌≡◌, List, [], ◌∷◌, refl, ap}
use Rattle.c0_typed.specs.Trees as y
use Rattle.c0_typed.specs.Views.{Level, PointerLevel, ArrayLevel, within}
use Rattle.c0_rules.specs.Types.{Name, ResolvedType, numbered}
use Rattle.c0_types_tables.specs.Views.{resolved_within}

-- what stands round a type stands round its number
pub numbered_within : (names : List Name) (levels : List Level) (a : ResolvedType) → numbered names (resolved_within levels a) ≡ within levels (numbered names a)
numbered_within names [] a = refl
numbered_within names (PointerLevel ∷ levels) a = ap y.PointerTy (numbered_within names levels a)
numbered_within names (ArrayLevel ∷ levels) a = ap y.ArrayTy (numbered_within names levels a)
