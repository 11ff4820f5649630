-- What is there has a number that the format has bytes for, where no list has 2^32 items.
use Rattle.std.proofs.Common.{◌≡◌, ℕ, zero, suc, ◌<◌, true, Option, Some, None, List, [], ◌∷◌, length, arith}
use Rattle.std.specs.Prelude.{nat_lt, slice_get}
use Rattle.std.specs.List.{list_all}
use Rattle.std.proofs.lemmas.Bool.{eqb-true, ltb-true}
use Rattle.code_form.specs.declared.form.Kind.{Kind}
use Rattle.code_form.specs.declared.form.Kind.TheVariants as kind
use Rattle.code_form.specs.Form.{Head, Image}
use Rattle.code_form.specs.Code.{and_then, has_size, is_size, layout_of}
use Rattle.code_form.specs.Counts.{few_in_function, has_few_items, is_few}
use Rattle.image_bytes.specs.Encodable.{CellFits, IsWord, KindFits, OptionalFits, ResultFits}
use Rattle.scope_verifier_laws.specs.Numbers.{is_cell_kind, is_result_kind, is_value, names_layout}
use Rattle.scope_verifier_laws.proofs.Firsts.{both_true}

-- ---- lists

pub count_fits : {A : Type 0} (xs : List A) → is_few xs ≡ true → IsWord (length xs)
count_fits xs few = ltb-true (length xs) 4294967296 few

-- the number of an item
pub item_fits : {A : Type 0} (xs : List A) (i : ℕ) → is_few xs ≡ true → nat_lt i (length xs) ≡ true → IsWord i
item_fits xs i few h =
    let n : length xs < 4294967296 = count_fits xs few in
    let l : i < length xs = ltb-true i (length xs) h in
    omega (arith, n, l)

-- ... leaves 2^32 - 1 for none
pub optional_fits : {A : Type 0} (xs : List A) (i : ℕ) → is_few xs ≡ true → nat_lt i (length xs) ≡ true → OptionalFits (Some i)
optional_fits xs i few h =
    let n : length xs < 4294967296 = count_fits xs few in
    let l : i < length xs = ltb-true i (length xs) h in
    omega (arith, n, l)

-- ---- kinds

-- of so many layouts
module _ (count : ℕ) (few : IsWord count) where
  layout_fits : (l : ℕ) → nat_lt l count ≡ true → IsWord l
  layout_fits l h = let q : l < count = ltb-true l count h in omega (arith, few, q)

  pub kind_fits : (k : Kind) → names_layout count k ≡ true → KindFits k
  kind_fits kind.Int h = tt
  kind_fits kind.Bool h = tt
  kind_fits kind.Char h = tt
  kind_fits kind.Text h = tt
  kind_fits (kind.Ptr l) h = layout_fits l h
  kind_fits (kind.Arr l) h = layout_fits l h
  kind_fits (kind.Off l) h = layout_fits l h

  pub cell_fits : (k : Kind) → is_cell_kind count k ≡ true → CellFits k
  cell_fits kind.Int h = tt
  cell_fits kind.Bool h = tt
  cell_fits kind.Char h = tt
  cell_fits kind.Text h = tt
  cell_fits (kind.Ptr l) h = layout_fits l (both_true (nat_lt l count) true h).0
  cell_fits (kind.Arr l) h = layout_fits l (both_true (nat_lt l count) true h).0
  cell_fits (kind.Off l) h = absurd (cc ((both_true (nat_lt l count) (is_value (kind.Off l)) h).1))

  pub result_fits : (o : Option Kind) → is_result_kind count o ≡ true → ResultFits o
  result_fits None h = tt
  result_fits (Some k) h = kind_fits k (both_true (names_layout count k) (is_value k) h).0

-- ---- the cells of layouts

-- the length of one of these layouts
size_near : (ls : List (List Kind)) (l size : ℕ) → list_all is_few ls ≡ true → is_size size (slice_get ls l) ≡ true → IsWord size
size_near [] l size few h = absurd (cc h)
size_near (cs ∷ ls) zero size few h =
    let n : length cs < 4294967296 = count_fits cs (both_true (is_few cs) (list_all is_few ls) few).0 in
    let same : length cs ≡ size = eqb-true (length cs) size h in
    omega (arith, n, same)
size_near (cs ∷ ls) (suc l) size few h = size_near ls l size (both_true (is_few cs) (list_all is_few ls) few).1 h

module _ (H : Head) (few : list_all is_few H.layouts ≡ true) where
  -- of what a register refers to
  pub size_fits : (size : ℕ) (o : Option Kind) → has_size H size o ≡ true → IsWord size
  size_fits size None h = absurd (cc h)
  size_fits size (Some k) h = of_layout (layout_of k) h
    where
      of_layout : (o : Option ℕ) → is_size size (and_then o (λ l. slice_get H.layouts l)) ≡ true → IsWord size
      of_layout None e = absurd (cc e)
      of_layout (Some l) e = size_near H.layouts l size few e

-- ---- the lists of an image

-- each has few items
pub record HasFew (C : Image) : Type 0 where
  pub texts : is_few C.head.texts ≡ true
  pub each_text : list_all is_few C.head.texts ≡ true
  pub layouts : is_few C.head.layouts ≡ true
  pub each_layout : list_all is_few C.head.layouts ≡ true
  pub functions : is_few C.functions ≡ true
  pub each_function : list_all few_in_function C.functions ≡ true

pub has_few : (C : Image) → has_few_items C ≡ true → HasFew C
has_few C h =
    let texts = both_true (is_few C.head.texts) _ h in
    let each_text = both_true (list_all is_few C.head.texts) _ texts.1 in
    let layouts = both_true (is_few C.head.layouts) _ each_text.1 in
    let each_layout = both_true (list_all is_few C.head.layouts) _ layouts.1 in
    let functions = both_true (is_few C.functions) (list_all few_in_function C.functions) each_layout.1 in
    record { texts = texts.0; each_text = each_text.0; layouts = layouts.0; each_layout = each_layout.0; functions = functions.0; each_function = functions.1 }
