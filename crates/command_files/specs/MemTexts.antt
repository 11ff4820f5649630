-- What files in memory hold.
use Rattle.std.specs.Prelude.{ℕ, List, Some, option_map, string_bytes}
use Rattle.std.specs.Ordering.{is_eq, nat_cmp}
use Rattle.std.specs.Cmp.Lexicographic.{slice_cmp}
use Rattle.std.specs.declared.alloc.Global.{Global}
use Rattle.std.specs.declared.string.String.{String}
use Rattle.std.specs.declared.vec.Vec.{Vec}
use Rattle.std.specs.Map.{lookup}
use Rattle.command_files.specs.FileTexts.{Known}

-- the bytes under a name, among these
abbrev pub held_in : List (String Global × Vec ℕ Global) → List ℕ → Known
held_in entries name = Some (option_map (λ (v : Vec ℕ Global). v.items) (lookup (λ (k : String Global). is_eq (slice_cmp nat_cmp name (string_bytes k))) entries))
