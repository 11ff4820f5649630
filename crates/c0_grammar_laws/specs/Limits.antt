-- Programs within other limits than the language's own, and lists of signs alone.
use Rattle.std.specs.Prelude.{◌≡◌, ℕ, suc, ◌⊎◌, ◌≤◌, Bool, List, [], ◌∷◌}
use Rattle.c0_source.specs.Terminals.{Terminal, Word, Text, Use, Sign}
use Rattle.c0_syntax.specs.Trees.{Program}
use Rattle.c0_syntax.specs.Programs.{emit_program, FormedProgram, height_declaration, locals_declaration, defined_functions}

-- at most so many nodes on a path, at most so many locals with parameters in a function
abbrev pub Within : ℕ → ℕ → Program → Type 0
Within nodes locals [] = Unit {0}
Within nodes locals (d ∷ ds) = (height_declaration d ≤ nodes) × (locals_declaration d ≤ locals) × Within nodes locals ds

-- these tokens, all of them, read as this program where the limits are these
pub record ReadsWithin (nodes locals functions : ℕ) (loops : Bool) (ts : List Terminal) (program : Program) : Type 0 where
  pub spelled : ts ≡ emit_program program
  pub formed : FormedProgram [] loops program
  pub within : Within nodes locals program
  pub few : defined_functions program ≤ functions

-- none of the tokens is a name, a text or a use
abbrev pub AreSigns : List Terminal → Type 0
AreSigns [] = Unit {0}
AreSigns (Word x ∷ ts) = ⊥
AreSigns (Text x ∷ ts) = ⊥
AreSigns (Use angle x ∷ ts) = ⊥
AreSigns (Sign kind ∷ ts) = AreSigns ts

-- how many locals with parameters the last declaration has
abbrev pub last_locals : Program → ℕ
last_locals [] = 0
last_locals (d ∷ []) = locals_declaration d
last_locals (d ∷ e ∷ ds) = last_locals (e ∷ ds)

-- the last declaration has one local too many, or there is one function too many
abbrev pub OneTooMany : ℕ → Program → Type 0
OneTooMany functions program = (last_locals program ≡ 1025) ⊎ (defined_functions program ≡ suc functions)
