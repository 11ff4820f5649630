-- Layouts of types: the kinds of their cells, and where their parts begin.
use Rattle.std.proofs.Common.{◌≡◌, ℕ, zero, suc, ◌+◌, ◌<◌, ◌≤◌, Bool, true, false, cond, List, [], ◌∷◌, ◌++◌, length, map, get_or, take, refl, sym, ap, ◌∙◌, subst, arith, append_assoc, append-nil, Some, option_map}
use Rattle.std.specs.Prelude.{nat_lt, slice_get}
use Rattle.std.proofs.lemmas.Bool.{eq-eqb, eqb-true, lt-ltb, ltb-false, ltb-true}
use Rattle.std.proofs.lemmas.List.{get_or_past, length-append}
use Rattle.std.proofs.lemmas.Option.{get_or_from_slice_get, slice_get-get_or, slice_get-map}
use Rattle.c0_typed.specs.Trees.{Ty, VoidTy, IntTy, BoolTy, CharTy, TextTy, StructTy, PointerTy, ArrayTy, Program}
use Rattle.c0_typed.specs.Typing.{IsSmall, IsHeld, AreHeld, IsField, FitsStructs, FitsProgram, IsWay}
use Rattle.code_form.specs.declared.form.Kind.{Kind}
use Rattle.code_form.specs.declared.form.Kind.TheVariants as kind
use Rattle.code_form.specs.Code.{same_kind}
use Rattle.lower_tables.specs.Kinds.{position, layout_number, single_layout, kind_of, cell_kinds, field_kinds, struct_layouts, layouts_of, cells_of, field_offset}
use Rattle.lower.specs.Coded.{type_offset}
use Rattle.lower_tables.proofs.Positions.{position_there, single_there}
use Rattle.lower.proofs.Lists.{get_front, get_behind, get_or_front, get_last, length_more}

-- ---- layouts of structs

module _ (n : ℕ) (singles : List Kind) where
  -- the kinds of a type's cells stay when more structs are laid out
  held_more : (before more : List (List Kind)) (t : Ty) → IsHeld (length before) t → cell_kinds n singles before t ≡ cell_kinds n singles (before ++ more) t
  held_more before more VoidTy h = absurd h
  held_more before more (StructTy j) h = sym (get_or_front before more j [] h)
  held_more before more IntTy h = refl
  held_more before more BoolTy h = refl
  held_more before more CharTy h = refl
  held_more before more TextTy h = refl
  held_more before more (PointerTy t) h = refl
  held_more before more (ArrayTy t) h = refl

  fields_more : (before more : List (List Kind)) (ts : List Ty) → AreHeld (length before) ts → field_kinds n singles before ts ≡ field_kinds n singles (before ++ more) ts
  fields_more before more [] h = refl
  fields_more before more (t ∷ ts) h =
      ap (λ (l : List Kind). l ++ field_kinds n singles before ts) (held_more before more t h.0)
      ∙ ap (λ (l : List Kind). cell_kinds n singles (before ++ more) t ++ l) (fields_more before more ts h.1)

  layouts_grow : (before : List (List Kind)) (rest : List (List Ty)) → (more : List (List Kind)) × (struct_layouts n singles before rest ≡ before ++ more)
  layouts_grow before [] = ([], sym (append-nil before))
  layouts_grow before (ts ∷ rest) =
      let new : List Kind = field_kinds n singles before ts in
      let inner = layouts_grow (before ++ new ∷ []) rest in
      (new ∷ inner.0, inner.1 ∙ append_assoc before (new ∷ []) inner.0)

  pub layouts_length : (before : List (List Kind)) (rest : List (List Ty)) → length (struct_layouts n singles before rest) ≡ length before + length rest
  layouts_length before [] = omega arith
  layouts_length before (ts ∷ rest) =
      let new : List Kind = field_kinds n singles before ts in
      let one : length (before ++ new ∷ []) ≡ suc (length before) = length_more before new in
      layouts_length (before ++ new ∷ []) rest ∙ (let z : length (before ++ new ∷ []) + length rest ≡ length before + suc (length rest) = omega (arith, one) in z)

  -- each struct has the cells of its fields
  struct_laid : (before : List (List Kind)) (rest : List (List Ty)) (j : ℕ) (fs : List Ty) → FitsStructs (length before) rest → slice_get rest j ≡ Some fs
      → slice_get (struct_layouts n singles before rest) (length before + j) ≡ Some (field_kinds n singles (struct_layouts n singles before rest) fs)
  struct_laid before [] j fs f e = absurd (cc e)
  struct_laid before (ts ∷ rest) zero fs f e =
      let new : List Kind = field_kinds n singles before ts in
      let inner = layouts_grow (before ++ new ∷ []) rest in
      let all : struct_layouts n singles before (ts ∷ rest) ≡ before ++ (new ∷ inner.0) = inner.1 ∙ append_assoc before (new ∷ []) inner.0 in
      let same : ts ≡ fs = cc e in
      let here : slice_get (struct_layouts n singles before (ts ∷ rest)) (length before) ≡ Some new =
      ap (λ (l : List (List Kind)). slice_get l (length before)) inner.1 ∙ get_front (before ++ new ∷ []) inner.0 (length before) new (get_last before new) in
      let kinds : new ≡ field_kinds n singles (struct_layouts n singles before (ts ∷ rest)) fs =
      fields_more before (new ∷ inner.0) ts f.0 ∙ ap (λ (l : List (List Kind)). field_kinds n singles l ts) (sym all) ∙ ap (field_kinds n singles (struct_layouts n singles before (ts ∷ rest))) same in
      ap (slice_get (struct_layouts n singles before (ts ∷ rest))) (let z : length before + 0 ≡ length before = omega arith in z) ∙ here ∙ ap Some kinds
  struct_laid before (ts ∷ rest) (suc j) fs f e =
      let new : List Kind = field_kinds n singles before ts in
      let one : length (before ++ new ∷ []) ≡ suc (length before) = length_more before new in
      ap (slice_get (struct_layouts n singles before (ts ∷ rest))) (let z : length before + suc j ≡ length (before ++ new ∷ []) + j = omega (arith, one) in z)
      ∙ struct_laid (before ++ new ∷ []) rest j fs (subst (λ m. FitsStructs m rest) (sym one) f.1) e

  -- a cell of a field is one of the struct's
  fields_there : (before : List (List Kind)) (fs : List Ty) (k : ℕ) (t : Ty) (x : ℕ) (a : Kind) → slice_get fs k ≡ Some t → slice_get (cell_kinds n singles before t) x ≡ Some a
      → slice_get (field_kinds n singles before fs) (length (field_kinds n singles before (take k fs)) + x) ≡ Some a
  fields_there before [] k t x a e h = absurd (cc e)
  fields_there before (f ∷ fs) zero t x a e h =
      let same : f ≡ t = cc e in
      ap (slice_get (field_kinds n singles before (f ∷ fs))) (let z : 0 + x ≡ x = omega arith in z)
      ∙ get_front (cell_kinds n singles before f) (field_kinds n singles before fs) x a (ap (λ z. slice_get (cell_kinds n singles before z) x) same ∙ h)
  fields_there before (f ∷ fs) (suc k) t x a e h =
      let first : List Kind = cell_kinds n singles before f in
      let next : List Kind = field_kinds n singles before (take k fs) in
      let long : length (first ++ next) ≡ length first + length next = length-append first next in
      ap (slice_get (field_kinds n singles before (f ∷ fs))) (let z : length (first ++ next) + x ≡ length first + (length next + x) = omega (arith, long) in z)
      ∙ get_behind first (field_kinds n singles before fs) (length next + x) ∙ fields_there before fs k t x a e h

-- ---- the layouts of a program

-- the kinds of the cells of these fields
abbrev pub kinds_of_fields : List (List Ty) → List Kind → List Ty → List Kind
kinds_of_fields structs singles ts = field_kinds (length structs) singles (struct_layouts (length structs) singles [] structs) ts

pub struct_cells : (structs : List (List Ty)) (singles : List Kind) (j : ℕ) (fs : List Ty) → FitsStructs 0 structs → slice_get structs j ≡ Some fs → cells_of structs singles (StructTy j) ≡ kinds_of_fields structs singles fs
struct_cells structs singles j fs f e =
    let all : List (List Kind) = struct_layouts (length structs) singles [] structs in
    get_or_from_slice_get all j (kinds_of_fields structs singles fs) []
    (ap (slice_get all) (let z : j ≡ 0 + j = omega arith in z) ∙ struct_laid (length structs) singles [] structs j fs f e)

-- what is no struct has one cell
pub small_cells : (structs : List (List Ty)) (singles : List Kind) (t : Ty) → IsSmall t → cells_of structs singles t ≡ kind_of (length structs) singles t ∷ []
small_cells structs singles VoidTy s = absurd s
small_cells structs singles (StructTy j) s = absurd s
small_cells structs singles IntTy s = refl
small_cells structs singles BoolTy s = refl
small_cells structs singles CharTy s = refl
small_cells structs singles TextTy s = refl
small_cells structs singles (PointerTy t) s = refl
small_cells structs singles (ArrayTy t) s = refl

-- the layout of a kind that the list has
single_known : (structs : List (List Ty)) (singles : List Kind) (a : Kind) → position a singles < length singles → slice_get (layouts_of structs singles) (single_layout (length structs) singles a) ≡ Some (a ∷ [])
single_known structs singles a l =
    let all : List (List Kind) = struct_layouts (length structs) singles [] structs in
    let rest : List (List Kind) = map (λ k. k ∷ []) singles in
    let long : length all ≡ 0 + length structs = layouts_length (length structs) singles [] structs in
    ap (slice_get (layouts_of structs singles)) (single_there (length structs) singles a l ∙ (let z : suc (length structs + position a singles) ≡ length all + suc (position a singles) = omega (arith, long) in z))
    ∙ get_behind all ([] ∷ rest) (suc (position a singles)) ∙ slice_get-map (λ k. k ∷ []) singles (position a singles) ∙ ap (option_map (λ k. k ∷ [])) (position_there a singles l)

-- behind the structs' layouts stands one without cells
none_known : (structs : List (List Ty)) (singles : List Kind) → slice_get (layouts_of structs singles) (length structs) ≡ Some []
none_known structs singles =
    let all : List (List Kind) = struct_layouts (length structs) singles [] structs in
    let long : length all ≡ 0 + length structs = layouts_length (length structs) singles [] structs in
    ap (slice_get (layouts_of structs singles)) (let z : length structs ≡ length all + 0 = omega (arith, long) in z) ∙ get_behind all ([] ∷ map (λ k. k ∷ []) singles) 0

struct_known : (structs : List (List Ty)) (singles : List Kind) (j : ℕ) → slice_get (layouts_of structs singles) (layout_number (length structs) singles (StructTy j)) ≡ Some (cells_of structs singles (StructTy j))
struct_known structs singles j = by (nat_lt j (length structs)) refl
  where
    all : List (List Kind)
    all = struct_layouts (length structs) singles [] structs

    long : length all ≡ 0 + length structs
    long = layouts_length (length structs) singles [] structs

    by : (b : Bool) → nat_lt j (length structs) ≡ b → slice_get (layouts_of structs singles) (cond b j (length structs)) ≡ Some (get_or all j [])
    by true e =
        let within : j < length structs = ltb-true j (length structs) e in
        get_front all ([] ∷ map (λ k. k ∷ []) singles) j (get_or all j []) (slice_get-get_or all j [] (omega (arith, long, within)))
    by false e =
        let past : length structs ≤ j = ltb-false j (length structs) e in
        none_known structs singles ∙ ap Some (sym (get_or_past all j [] (omega (arith, long, past))))

-- a layout has its cells, where the kind of what is no struct is in the list
pub number_known : (structs : List (List Ty)) (singles : List Kind) (t : Ty) → (IsSmall t → position (kind_of (length structs) singles t) singles < length singles)
    → slice_get (layouts_of structs singles) (layout_number (length structs) singles t) ≡ Some (cells_of structs singles t)
number_known structs singles VoidTy s = none_known structs singles
number_known structs singles (StructTy j) s = struct_known structs singles j
number_known structs singles IntTy s = single_known structs singles kind.Int (s tt)
number_known structs singles BoolTy s = single_known structs singles kind.Bool (s tt)
number_known structs singles CharTy s = single_known structs singles kind.Char (s tt)
number_known structs singles TextTy s = single_known structs singles kind.Text (s tt)
number_known structs singles (PointerTy t) s = single_known structs singles (kind.Ptr (layout_number (length structs) singles t)) (s tt)
number_known structs singles (ArrayTy t) s = single_known structs singles (kind.Arr (layout_number (length structs) singles t)) (s tt)

-- ---- the ends of ways

-- the cells in front of a field, by the fields before it
pub field_offset_is : (structs : List (List Ty)) (singles : List Kind) (j k : ℕ) (fs : List Ty) → slice_get structs j ≡ Some fs → field_offset structs singles j k ≡ length (kinds_of_fields structs singles (take k fs))
field_offset_is structs singles j k fs e = ap (λ (l : List Ty). length (kinds_of_fields structs singles (take k l))) (get_or_from_slice_get structs j fs [] e)

-- the first step of a way
pub type_offset_step : (structs : List (List Ty)) (singles : List Kind) (t : Ty) (j k : ℕ) (w : Ty) (path : List ℕ) → t ≡ StructTy j → IsField structs j k w
    → type_offset structs singles t (k ∷ path) ≡ field_offset structs singles j k + type_offset structs singles w path
type_offset_step structs singles t j k w path e f =
    let fields : get_or structs j [] ≡ f.0 = get_or_from_slice_get structs j f.0 [] f.1 in
    let field : get_or (get_or structs j []) k VoidTy ≡ w = ap (λ (l : List Ty). get_or l k VoidTy) fields ∙ get_or_from_slice_get f.0 k w VoidTy f.2 in
    ap (λ z. type_offset structs singles z (k ∷ path)) e ∙ ap (λ z. field_offset structs singles j k + type_offset structs singles z path) field

module _ (p : Program) (singles : List Kind) where
  -- one step more
  pub type_offset_on : (path : List ℕ) (t : Ty) (j i : ℕ) → IsWay p t path (StructTy j)
      → type_offset p.structs singles t (path ++ i ∷ []) ≡ type_offset p.structs singles t path + field_offset p.structs singles j i
  type_offset_on [] t j i w =
      ap (λ z. type_offset p.structs singles z (i ∷ [])) w ∙ (let z : field_offset p.structs singles j i + 0 ≡ 0 + field_offset p.structs singles j i = omega arith in z)
  type_offset_on (k ∷ path) t j i w =
      let first : ℕ = field_offset p.structs singles w.0 k in
      let last : ℕ = field_offset p.structs singles j i in
      let inner : ℕ = type_offset p.structs singles w.1 path in
      type_offset_step p.structs singles t w.0 k w.1 (path ++ i ∷ []) w.2 w.3 ∙ ap (λ z. first + z) (type_offset_on path w.1 j i w.4)
      ∙ (let z : first + (inner + last) ≡ first + inner + last = omega arith in z) ∙ ap (λ z. z + last) (sym (type_offset_step p.structs singles t w.0 k w.1 path w.2 w.3))

  -- the kind of the cell at the end of a way
  pub kind_there : FitsProgram p → (path : List ℕ) (t u : Ty) → IsWay p t path u → IsSmall u
      → slice_get (cells_of p.structs singles t) (type_offset p.structs singles t path) ≡ Some (kind_of (length p.structs) singles u)
  kind_there fp [] t u w s = ap (λ z. slice_get (cells_of p.structs singles z) 0) w ∙ ap (λ (l : List Kind). slice_get l 0) (small_cells p.structs singles u s)
  kind_there fp (k ∷ path) t u w s =
      let fs : List Ty = w.3.0 in
      let inner = kind_there fp path w.1 u w.4 s in
      let all : List (List Kind) = struct_layouts (length p.structs) singles [] p.structs in
      let there = fields_there (length p.structs) singles all fs k w.1 (type_offset p.structs singles w.1 path) (kind_of (length p.structs) singles u) w.3.2 inner in
      let cells : cells_of p.structs singles t ≡ kinds_of_fields p.structs singles fs = ap (cells_of p.structs singles) w.2 ∙ struct_cells p.structs singles w.0 fs fp.structs w.3.1 in
      let place : type_offset p.structs singles t (k ∷ path) ≡ length (kinds_of_fields p.structs singles (take k fs)) + type_offset p.structs singles w.1 path =
      type_offset_step p.structs singles t w.0 k w.1 path w.2 w.3 ∙ ap (λ z. z + type_offset p.structs singles w.1 path) (field_offset_is p.structs singles w.0 k fs w.3.1) in
      ap (λ (l : List Kind). slice_get l (type_offset p.structs singles t (k ∷ path))) cells ∙ ap (slice_get (kinds_of_fields p.structs singles fs)) place ∙ there
