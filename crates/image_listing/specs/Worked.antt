-- A small image, and its listing.
use Rattle.std.specs.Prelude.{ℕ, ◌++◌, codes, pos, List, [], ◌∷◌, Some}
use Rattle.code_form.specs.declared.form.Kind.TheVariants.{Int}
use Rattle.code_form.specs.declared.form.Operation.TheVariants.{Const}
use Rattle.code_form.specs.Form.{Simple, Return, Image}

-- one function without parameters and scopes, which returns 0
abbrev pub returns_zero : Image
returns_zero = record {
  piece = 64;
  head = record { texts = []; layouts = [] };
  functions = record {
    result = Some Int;
    parameters = 0;
    kinds = Int ∷ [];
    scopes = 0;
    blocks = record { facts = []; code = Simple (Const 0 (pos 0)) ∷ Return 0 ∷ [] } ∷ [];
  } ∷ [];
}

-- its listing
abbrev pub lines_of_returns_zero : List ℕ
lines_of_returns_zero = codes "f0 b0 0: const r0, 0\n" ++ codes "f0 b0 1: ret r0\n"
