-- Small images, of which one is consistent and each other is not for one cause.
use Rattle.std.specs.Prelude.{ℕ, List, [], ◌∷◌, Some, None, codes, pos, replicate}
use Rattle.code_form.specs.declared.form.Kind.{Kind}
use Rattle.code_form.specs.declared.form.Kind.TheVariants as kind
use Rattle.code_form.specs.declared.form.Fact.{Fact}
use Rattle.code_form.specs.declared.form.Fact.TheVariants as fact
use Rattle.code_form.specs.declared.form.Operation.{Operation}
use Rattle.code_form.specs.declared.form.Operation.TheVariants as op
use Rattle.code_form.specs.Form.{Image, Aim, Leave, Return, Simple}

-- an image of one function, which does one thing and returns its first register, with these facts at its entry
abbrev pub with_facts : List (List ℕ) → List (List Kind) → ℕ → List Kind → ℕ → Operation → List Fact → Image
with_facts texts layouts parameters kinds scopes o facts = record {
  piece = 64;
  head = record { texts = texts; layouts = layouts };
  functions = record { result = Some kind.Int; parameters = parameters; kinds = kinds; scopes = scopes; blocks = record { facts = facts; code = Simple o ∷ Return 0 ∷ [] } ∷ [] } ∷ [];
}

-- the same without facts
abbrev pub with_one : List (List ℕ) → List (List Kind) → ℕ → List Kind → ℕ → Operation → Image
with_one texts layouts parameters kinds scopes o = with_facts texts layouts parameters kinds scopes o []

-- a text, a layout, and registers that fit them
abbrev pub consistent_image : Image
consistent_image = with_facts (codes "no" ∷ []) ((kind.Int ∷ kind.Ptr 0 ∷ []) ∷ []) 1 (kind.Int ∷ kind.Ptr 0 ∷ kind.Off 0 ∷ []) 1 (op.Const 0 (pos 7)) (fact.Nonnull 1 ∷ fact.Shut 0 ∷ [])

-- the first of these for pieces of so many cells
abbrev pub with_pieces : ℕ → Image
with_pieces n = record consistent_image { piece = n }

-- so many texts
abbrev pub with_texts : ℕ → Image
with_texts n = with_one (replicate n []) [] 0 (kind.Int ∷ []) 0 (op.Const 0 (pos 7))

-- a register names a layout that is not there
abbrev pub without_layout : Image
without_layout = with_one [] [] 0 (kind.Int ∷ kind.Ptr 0 ∷ []) 0 (op.Const 0 (pos 7))

-- a cell is an offset
abbrev pub offset_in_layout : Image
offset_in_layout = with_one [] ((kind.Off 0 ∷ []) ∷ []) 0 (kind.Int ∷ []) 0 (op.Const 0 (pos 7))

-- a parameter is an offset
abbrev pub offset_as_parameter : Image
offset_as_parameter = with_one [] ((kind.Int ∷ []) ∷ []) 1 (kind.Off 0 ∷ []) 0 (op.Const 0 (pos 7))

-- a fifth scope
abbrev pub five_scopes : Image
five_scopes = with_one [] [] 0 (kind.Int ∷ []) 5 (op.Const 0 (pos 7))

-- a text beyond ASCII
abbrev pub large_byte : Image
large_byte = with_one ((128 ∷ []) ∷ []) [] 0 (kind.Int ∷ []) 0 (op.Const 0 (pos 7))

-- a character beyond ASCII
abbrev pub large_character : Image
large_character = with_one [] [] 0 (kind.Int ∷ kind.Char ∷ []) 0 (op.CharOf 1 128)

-- a number of 33 bits
abbrev pub large_number : Image
large_number = with_one [] [] 0 (kind.Int ∷ []) 0 (op.Const 0 (pos 2147483648))

-- a displacement of 33 bits
abbrev pub large_displacement : Image
large_displacement = with_one [] ((kind.Int ∷ []) ∷ []) 0 (kind.Int ∷ kind.Ptr 0 ∷ []) 0 (op.Prefetch 1 None 4294967296)

-- a scope is aimed 2^32 cells behind a pointer, and left: no cell is read there, so that the verifier does not ask for one
abbrev pub far_aim : Image
far_aim = record {
  piece = 64;
  head = record { texts = []; layouts = (kind.Int ∷ []) ∷ [] };
  functions = record {
    result = Some kind.Int;
    parameters = 0;
    kinds = kind.Int ∷ kind.Ptr 0 ∷ [];
    scopes = 1;
    blocks = record { facts = fact.Shut 0 ∷ []; code = Aim 0 1 None 4294967296 ∷ Leave 0 ∷ Return 0 ∷ [] } ∷ [];
  } ∷ [];
}

-- a fact of a scope that is aimed so far
abbrev pub far_fact : Image
far_fact = with_facts [] ((kind.Int ∷ []) ∷ []) 0 (kind.Int ∷ kind.Ptr 0 ∷ []) 1 (op.Const 0 (pos 7)) (fact.Aimed 0 1 None 4294967296 ∷ [])

-- a fact of a scope that is not there
abbrev pub missing_scope : Image
missing_scope = with_facts [] [] 0 (kind.Int ∷ []) 1 (op.Const 0 (pos 7)) (fact.Shut 1 ∷ [])
