-- What a `#use` names, as code holds it.
use Rattle.std.specs.Prelude.{ℕ, Bool, true, false, List, [], Option, Some, None, if◌then◌else◌, ◌==◌}
use Rattle.std.specs.String.{string_bytes}
use Rattle.c0_source.specs.Spelling.{angled, quoted, text_value}
use Rattle.c0_syntax.specs.Trees.{Declaration, UseLibrary}
use Rattle.c0_parser_cursor.specs.declared.directives.Used.{Used}
use Rattle.c0_parser_cursor.specs.declared.directives.Used.TheVariants as u

-- what a `#use` names, as code holds it
abbrev pub used_of : Used → Bool × List ℕ
used_of (u.Name text) = (true, string_bytes text)
used_of (u.Text text) = (false, string_bytes text)

-- what is used where this byte stands first, and these behind it
abbrev pub used_first : ℕ → List ℕ → Option (Bool × List ℕ)
used_first b bs = if b == 60 then angled [] bs else (if b == 34 then quoted (text_value false bs) else None)

-- a `#use` that names this
abbrev pub used_declaration : Option (Bool × List ℕ) → Declaration
used_declaration None = UseLibrary false []
used_declaration (Some x) = UseLibrary x.0 x.1
