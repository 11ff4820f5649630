-- Kinds and where they stand in a list, as an index has it.
use Rattle.std.specs.Prelude.{◌≡◌, ℕ, suc, nat_lt, cond, List, length, get_or}
use Rattle.code_form.specs.declared.form.Kind.{Kind}
use Rattle.code_form.specs.declared.form.Kind.TheVariants as kind
use Rattle.lower_tables.specs.declared.index.Index.{Index}
use Rattle.lower_tables.specs.Kinds.{position}

-- the number that an index has for a kind; 0 where it has none
abbrev pub slot : Index → Kind → ℕ
slot x kind.Int = get_or x.basic.items 0 0
slot x kind.Bool = get_or x.basic.items 1 0
slot x kind.Char = get_or x.basic.items 2 0
slot x kind.Text = get_or x.basic.items 3 0
slot x (kind.Ptr l) = get_or x.pointers.items l 0
slot x (kind.Arr l) = get_or x.arrays.items l 0
slot x (kind.Off l) = get_or x.offsets.items l 0

-- how many kinds of a list there are up to this one and with it; 0 where it is not among them
abbrev pub found : Kind → List Kind → ℕ
found k ks = cond (nat_lt (position k ks) (length ks)) (suc (position k ks)) 0

-- an index has that for each kind
abbrev pub IsIndexed : Index → List Kind → Type 0
IsIndexed x ks = (k : Kind) → slot x k ≡ found k ks
