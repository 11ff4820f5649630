-- A small image, and its bytes.
use Rattle.std.specs.Prelude.{ℕ, pos, List, [], ◌∷◌, Some}
use Rattle.code_form.specs.declared.form.Kind.{Kind}
use Rattle.code_form.specs.declared.form.Kind.TheVariants.{Int}
use Rattle.code_form.specs.declared.form.Operation.TheVariants.{Const}
use Rattle.code_form.specs.Form.{Simple, Return, Instruction, Image}

-- one function without parameters and scopes, which returns 0
abbrev pub returns_zero : Image
returns_zero = record {
  piece = 64;
  head = record { texts = []; layouts = [] };
  functions = record {
    result = Some Int;
    parameters = 0;
    kinds = Int ∷ [];
    scopes = 0;
    blocks = record { facts = []; code = Simple (Const 0 (pos 0)) ∷ Return 0 ∷ [] } ∷ [];
  } ∷ [];
}

-- its 57 bytes
abbrev pub bytes_of_returns_zero : List ℕ
bytes_of_returns_zero =
    67 ∷ 48 ∷ 70 ∷ 73 ∷ 2 ∷ 0 ∷ 64 ∷ 0
    ∷ 0 ∷ 0 ∷ 0 ∷ 0 ∷ 0 ∷ 0 ∷ 0 ∷ 0 ∷ 1 ∷ 0 ∷ 0 ∷ 0
    ∷ 1 ∷ 0 ∷ 0 ∷ 0 ∷ 0 ∷ 1 ∷ 0 ∷ 0 ∷ 0 ∷ 1 ∷ 0 ∷ 1 ∷ 0 ∷ 0 ∷ 0
    ∷ 0 ∷ 0 ∷ 0 ∷ 0 ∷ 2 ∷ 0 ∷ 0 ∷ 0
    ∷ 1 ∷ 0 ∷ 0 ∷ 0 ∷ 0 ∷ 0 ∷ 0 ∷ 0 ∷ 0
    ∷ 98 ∷ 0 ∷ 0 ∷ 0 ∷ 0 ∷ []

-- its 55 bytes in version 1
abbrev pub first_bytes_of_returns_zero : List ℕ
first_bytes_of_returns_zero =
    67 ∷ 48 ∷ 70 ∷ 73 ∷ 1 ∷ 0
    ∷ 0 ∷ 0 ∷ 0 ∷ 0 ∷ 0 ∷ 0 ∷ 0 ∷ 0 ∷ 1 ∷ 0 ∷ 0 ∷ 0
    ∷ 1 ∷ 0 ∷ 0 ∷ 0 ∷ 0 ∷ 1 ∷ 0 ∷ 0 ∷ 0 ∷ 1 ∷ 0 ∷ 1 ∷ 0 ∷ 0 ∷ 0
    ∷ 0 ∷ 0 ∷ 0 ∷ 0 ∷ 2 ∷ 0 ∷ 0 ∷ 0
    ∷ 1 ∷ 0 ∷ 0 ∷ 0 ∷ 0 ∷ 0 ∷ 0 ∷ 0 ∷ 0
    ∷ 98 ∷ 0 ∷ 0 ∷ 0 ∷ 0 ∷ []

-- the same image with a text of one byte
abbrev pub with_byte : ℕ → Image
with_byte byte = record returns_zero { head = record { texts = (byte ∷ []) ∷ []; layouts = [] } }

-- ... with a layout of one cell
abbrev pub with_cell : Kind → Image
with_cell kind = record returns_zero { head = record { texts = []; layouts = (kind ∷ []) ∷ [] } }

-- ... with another first instruction
abbrev pub with_first : Instruction → Image
with_first i = record returns_zero {
  functions = record {
    result = Some Int;
    parameters = 0;
    kinds = Int ∷ [];
    scopes = 0;
    blocks = record { facts = []; code = i ∷ Return 0 ∷ [] } ∷ [];
  } ∷ [];
}
