-- Which verified images have no fault.
use Rattle.std.specs.Prelude.{◌≡◌, ℕ, true, All, length}
use Rattle.code_form.specs.Form.{Function, Image}
use Rattle.scope_verifier_laws.specs.Numbers.{is_cell_kind, is_result_kind, names_layout}

-- the kinds of a function's registers and of its result name one of so many layouts, and its result is no offset
pub record NamesLayouts (count : ℕ) (f : Function) : Type 0 where
  pub kinds : All (λ k. names_layout count k ≡ true) f.kinds
  pub result : is_result_kind count f.result ≡ true

-- each kind of an image names a layout that is there, and offsets stand in registers alone
pub record NamesItsLayouts (C : Image) : Type 0 where
  pub layouts : All (All (λ k. is_cell_kind (length C.head.layouts) k ≡ true)) C.head.layouts
  pub functions : All (NamesLayouts (length C.head.layouts)) C.functions
