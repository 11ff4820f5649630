-- The image of a well-typed program is consistent.
use Rattle.std.proofs.Common.{◌≡◌, ℕ, suc, ◌+◌, ◌<◌, Bool, true, List, [], ◌∷◌, ◌++◌, length, map, take, Option, Some, refl, sym, subst, arith}
use Rattle.std.specs.Prelude.{◌&&◌, nat_lt, All, slice_get}
use Rattle.std.specs.List.{list_all}
use Rattle.std.proofs.lemmas.List.{length-append, length-map}
use Rattle.c0_typed.specs.Trees.{Ty, VoidTy, IntTy, BoolTy, CharTy, TextTy, StructTy, PointerTy, ArrayTy}
use Rattle.c0_typed.specs.Typing.{FitsProgram}
use Rattle.c0_typed.specs.declared.tree.Typed.{Typed}
use Rattle.c0_typed.specs.Views.{function_of as typed_function, program_of, struct_of, texts_of, type_of}
use Rattle.c0_typed.specs.declared.tree.Constant.{Constant as ConstantValue}
use Rattle.c0_typed.specs.declared.tree.Constant.TheVariants as c
use Rattle.c0_typed.specs.declared.tree.UnaryOperator.{UnaryOperator}
use Rattle.c0_typed.specs.declared.tree.UnaryOperator.TheVariants as u
use Rattle.c0_typed.specs.declared.tree.ValueType.{ValueType}
use Rattle.c0_typed.specs.declared.tree.Expression.{Expression, Row_of-Expression, end_of-Expression, more_of-Expression, At', Constant, Null, Local, Unary', Binary', Compare', And', Or', Choose', Call', Print', Load', Alloc, AllocArray', Length'}
use Rattle.c0_typed.specs.declared.tree.Place.{Place, Deref', Index', Field'}
use Rattle.c0_typed.specs.declared.tree.Statement.{Statement, Row_of-Statement, end_of-Statement, more_of-Statement, Block', Set, Update, Store, StoreUpdate, Do, If', Loop', Return, ReturnValue, Break, Continue, Assert, Error, Check}
use Rattle.c0_typed.specs.declared.tree.Function.{Function}
use Rattle.code_form.specs.declared.form.Fact.{Fact}
use Rattle.code_form.specs.declared.form.Kind.{Kind}
use Rattle.code_form.specs.Counts.{has_few_items, is_few}
use Rattle.code_form.specs.Form as image
use Rattle.middle_form.specs.Form as f
use Rattle.middle_form.specs.WellFormed.{all_fit, code_fits, function_fits, main_fits, result_fits}
use Rattle.lower_tables.specs.Gathered.{singles_of, types_of_functions}
use Rattle.lower_tables.specs.Kinds as k
use Rattle.lower_tables.specs.Kinds.{layouts_of}
use Rattle.lower_expressions.specs.Expressions as parts
use Rattle.lower.specs.Lowered as l
use Rattle.lower.specs.Lowered.{lowered, result_kind, with_main_first}
use Rattle.lower_expressions.specs.Expressions.{checked, constant_kind, unary_kind}
use Rattle.lower.proofs.Layouts.{layouts_length}
use Rattle.middle_form.specs.Scoped as scoped
use Rattle.scope_placement.specs.Placed.{placed_function, whole}
use Rattle.scope_placement.proofs.Disciplined.{few}
use Rattle.guard_hoisting.specs.Hoisted.{hoisted_function}
use Rattle.guard_hoisting.proofs.Aimed.{keeps_the_places}
use Rattle.prefetch_pass.specs.Prefetched.{prefetched_function}
use Rattle.prefetch_pass.specs.Raised.{offsets_with}
use Rattle.prefetch_pass.proofs.Scopes as hints
use Rattle.codegen.specs.Generated.{blocks, blocks_with, facts_of, function_of}
use Rattle.c0_well_formed.specs.Images.{image_of_tree}
use Rattle.scope_verifier_laws.specs.Numbers.{is_result_kind, names_layout}
use Rattle.c0_well_formed.specs.Laws.{ImagesAreConsistent, IsConsistentFunction, NamesNumbers, TellsNumber}
use Rattle.c0_well_formed.proofs.Functions.{lowered_ok}
use Rattle.c0_well_formed.proofs.Images.{images_ok}
use Rattle.c0_well_formed.proofs.Near.{Near, whole_near}
use Rattle.c0_well_formed.proofs.Told.{blocks_told, facts_told}
use Rattle.c0_well_formed.proofs.Tests.{both_true}
use Rattle.c0_well_formed.proofs.Ordered.{in_order}
use Rattle.c0_well_formed.proofs.Numbers.{CodeNames, function_names}
use Rattle.c0_well_formed.proofs.ScopedNumbers.{blocks_names, whole_names}
use Rattle.c0_well_formed.proofs.HoistedNumbers.{few_scopes, hoisted_names}
use Rattle.c0_well_formed.proofs.HintedNumbers.{hinted_names}
use Rattle.c0_well_formed.proofs.CellKinds.{Each, IsCellKind, all_sound, each_all, each_append, each_as, kind_good, kind_named, number_named, singles_good, structs_good}

-- the kinds of a function's registers and of its result name one of so many layouts
abbrev pub NamesKinds : ℕ → f.Function → Type 0
NamesKinds count g = All (λ x. names_layout count x ≡ true) g.kinds × (is_result_kind count g.result ≡ true)

module _ (structs : List (List Ty)) (singles : List Kind) (texts : List (List ℕ)) (functions : List Function) (main : ℕ) (checks : Bool) where
  abbrev n : ℕ
  n = length structs

  abbrev count : ℕ
  count = suc (n + length singles)

  abbrev Named : Kind → Type 0
  Named x = names_layout count x ≡ true

  here : (ty : ValueType) → Named (k.kind_of n singles (type_of ty))
  here ty = kind_named n singles (type_of ty)

  number : (ty : ValueType) → nat_lt (k.layout_number n singles (type_of ty)) count ≡ true
  number ty = number_named n singles (type_of ty)

  constant_named : (x : ConstantValue) → Named (constant_kind x)
  constant_named (c.Number z) = refl
  constant_named (c.Truth b) = refl
  constant_named (c.Letter x) = refl
  constant_named (c.Text i) = refl

  unary_named : (o : UnaryOperator) → Named (unary_kind o)
  unary_named u.Negate = refl
  unary_named u.Complement = refl
  unary_named u.Not = refl

  abbrev exp_kinds : Expression → List Kind
  exp_kinds a = parts.exp_kinds structs singles texts functions main a

  abbrev row_kinds : {m : _} → Row_of-Expression m → List Kind
  row_kinds es = parts.row_kinds structs singles texts functions main es

  abbrev place_kinds : Place → List Kind
  place_kinds q = parts.place_kinds structs singles texts functions main q

  abbrev conditions_kinds : List Expression → List Kind
  conditions_kinds es = parts.conditions_kinds structs singles texts functions main es

  abbrev stmt_kinds : Statement → List Kind
  stmt_kinds a = l.stmt_kinds structs singles texts functions main checks a

  abbrev block_kinds : {m : _} → Row_of-Statement m → List Kind
  block_kinds all = l.block_kinds structs singles texts functions main checks all

  abbrev body_kinds : List Statement → List Kind
  body_kinds all = l.body_kinds structs singles texts functions main checks all

  mutual
    exp_named : (a : Expression) → Each Named (exp_kinds a)
    exp_named (At' here q e) = exp_named e
    exp_named (Constant x) = (constant_named x, tt)
    exp_named (Null ty) = (number ty, tt)
    exp_named (Local x) = tt
    exp_named (Unary' o w a) = (unary_named o, exp_named a)
    exp_named (Binary' o w a s b) = (refl, each_append Named (exp_kinds a) (exp_kinds b) (exp_named a) (exp_named b))
    exp_named (Compare' ty o w a s b) = (refl, each_append Named (exp_kinds a) (exp_kinds b) (exp_named a) (exp_named b))
    exp_named (And' w a s b) = (refl, each_append Named (exp_kinds a) (exp_kinds b) (exp_named a) (exp_named b))
    exp_named (Or' w a s b) = (refl, each_append Named (exp_kinds a) (exp_kinds b) (exp_named a) (exp_named b))
    exp_named (Choose' ty w a q b s e) =
        (here ty, each_append Named (exp_kinds a) (exp_kinds b ++ exp_kinds e) (exp_named a) (each_append Named (exp_kinds b) (exp_kinds e) (exp_named b) (exp_named e)))
    exp_named (Call' i shape es) = (kind_named n singles (parts.type_given structs singles texts functions main functions i), row_named es)
    exp_named (Print' out shape es) = (refl, row_named es)
    exp_named (Load' ty w q) = (here ty, place_named q)
    exp_named (Alloc ty) = (number ty, tt)
    exp_named (AllocArray' ty w a) = (number ty, exp_named a)
    exp_named (Length' ty w a) = (refl, exp_named a)

    row_named : {m : _} (es : Row_of-Expression m) → Each Named (row_kinds es)
    row_named end_of-Expression = tt
    row_named (more_of-Expression a rest) = each_append Named (exp_kinds a) (row_kinds rest) (exp_named a) (row_named rest)

    place_named : (q : Place) → Each Named (place_kinds q)
    place_named (Deref' ty w a) = exp_named a
    place_named (Index' ty w a s i) = (number ty, each_append Named (exp_kinds a) (exp_kinds i) (exp_named a) (exp_named i))
    place_named (Field' j w q i) = place_named q

  conditions_named : (es : List Expression) → Each Named (conditions_kinds es)
  conditions_named [] = tt
  conditions_named (a ∷ rest) = each_append Named (exp_kinds a) (conditions_kinds rest) (exp_named a) (conditions_named rest)

  mutual
    stmt_named : (a : Statement) → Each Named (stmt_kinds a)
    stmt_named (Block' shape all) = block_named all
    stmt_named (Set x a) = exp_named a
    stmt_named (Update x o a) = exp_named a
    stmt_named (Store q a) = each_append Named (place_kinds q) (exp_kinds a) (place_named q) (exp_named a)
    stmt_named (StoreUpdate q o a) = (refl, each_append Named (place_kinds q) (exp_kinds a) (place_named q) (exp_named a))
    stmt_named (Do a) = exp_named a
    stmt_named (If' a w b q s) = each_append Named (exp_kinds a) (stmt_kinds b ++ stmt_kinds s) (exp_named a) (each_append Named (stmt_kinds b) (stmt_kinds s) (stmt_named b) (stmt_named s))
    stmt_named (Loop' invariants a w body q step) =
        each_append Named (conditions_kinds (checked checks invariants.items)) (exp_kinds a ++ (stmt_kinds body ++ stmt_kinds step)) (conditions_named (checked checks invariants.items))
        (each_append Named (exp_kinds a) (stmt_kinds body ++ stmt_kinds step) (exp_named a) (each_append Named (stmt_kinds body) (stmt_kinds step) (stmt_named body) (stmt_named step)))
    stmt_named Return = tt
    stmt_named Break = tt
    stmt_named Continue = tt
    stmt_named (ReturnValue a) = exp_named a
    stmt_named (Assert a) = exp_named a
    stmt_named (Error a) = exp_named a
    stmt_named (Check es) = conditions_named (checked checks es.items)

    block_named : {m : _} (all : Row_of-Statement m) → Each Named (block_kinds all)
    block_named end_of-Statement = tt
    block_named (more_of-Statement a rest) = each_append Named (stmt_kinds a) (block_kinds rest) (stmt_named a) (block_named rest)

  body_named : (all : List Statement) → Each Named (body_kinds all)
  body_named [] = tt
  body_named (a ∷ rest) = each_append Named (stmt_kinds a) (body_kinds rest) (stmt_named a) (body_named rest)

  -- ---- functions

  blocks_named : (ws : List (List Fact)) (bs : List (List image.Instruction)) → Each (Each NamesNumbers) bs → Each (λ (b : image.Block). All NamesNumbers b.code) (blocks_with ws bs)
  blocks_named ws [] h = tt
  blocks_named [] (b ∷ bs) h = (each_all NamesNumbers b h.0, blocks_named [] bs h.1)
  blocks_named (w ∷ ws) (b ∷ bs) h = (each_all NamesNumbers b h.0, blocks_named ws bs h.1)

  abbrev kind_at : ValueType → Kind
  kind_at ty = parts.kind_at structs singles texts functions main ty

  locals_named : (ts : List ValueType) → Each Named (map kind_at ts)
  locals_named [] = tt
  locals_named (ty ∷ ts) = (here ty, locals_named ts)

  first_good : (ts : List ValueType) (rest : List Kind) → Each (IsCellKind count) (take (length ts) (map kind_at ts ++ rest))
  first_good [] rest = tt
  first_good (ty ∷ ts) rest = (kind_good n singles (type_of ty), first_good ts rest)

  result_good : (ty : Ty) → is_result_kind count (result_kind n singles ty) ≡ true
  result_good VoidTy = refl
  result_good IntTy = kind_good n singles IntTy
  result_good BoolTy = kind_good n singles BoolTy
  result_good CharTy = kind_good n singles CharTy
  result_good TextTy = kind_good n singles TextTy
  result_good (StructTy j) = kind_good n singles (StructTy j)
  result_good (PointerTy ty) = kind_good n singles (PointerTy ty)
  result_good (ArrayTy ty) = kind_good n singles (ArrayTy ty)

  abbrev code : Function → f.Function
  code h = l.function_code structs singles texts functions main checks h

  -- the kinds of the parts of its expressions
  abbrev inner_kinds : Function → List Kind
  inner_kinds h = conditions_kinds (checked checks h.preconditions.items) ++ (body_kinds h.body.items ++ conditions_kinds (checked checks h.postconditions.items))

  kinds_good : (h : Function) → All Named (code h).kinds
  kinds_good h =
      let before = conditions_kinds (checked checks h.preconditions.items) in
      let inside = body_kinds h.body.items in
      let behind = conditions_kinds (checked checks h.postconditions.items) in
      let named : Each Named (inner_kinds h) =
      each_append Named before (inside ++ behind) (conditions_named (checked checks h.preconditions.items))
      (each_append Named inside behind (body_named h.body.items) (conditions_named (checked checks h.postconditions.items))) in
      each_all Named (code h).kinds (each_append Named (map kind_at h.parameters.items) _ (locals_named h.parameters.items)
      (each_append Named (map kind_at h.locals.items) (kind_at h.result ∷ inner_kinds h) (locals_named h.locals.items) (here h.result, named)))

  pub functions_named : (fs : List Function) → Each (NamesKinds count) (map code fs)
  functions_named [] = tt
  functions_named (h ∷ rest) = ((kinds_good h, result_good (type_of h.result)), functions_named rest)

  function_consistent : (cells : ℕ) (h : Function) → CodeNames (code h).body → Near (whole (code h).body) → IsConsistentFunction count (function_of (prefetched_function cells (hoisted_function (placed_function (code h)))))
  function_consistent cells h names near =
      let placed : scoped.Function = placed_function (code h) in
      let hoisted : scoped.Function = hoisted_function placed in
      let with_scopes : scoped.Function = prefetched_function cells hoisted in
      let offsets : List ℕ = offsets_with hoisted.body [] [] in
      let in_range : ℕ → Option ℕ → ℕ → Bool = λ r off disp. nat_lt disp 4294967296 in
      let aims : Near with_scopes.body = hints.keeps_the_places cells in_range offsets hoisted.body (keeps_the_places in_range placed.kinds placed.body near) in
      record {
        kinds = kinds_good h;
        parameters = each_all (IsCellKind count) _ (first_good h.parameters.items (map kind_at h.locals.items ++ (kind_at h.result ∷ inner_kinds h)));
        result = result_good (type_of h.result);
        scopes = few_scopes placed (few (code h).body [] (omega arith));
        numbers = each_all (λ (b : image.Block). All NamesNumbers b.code) (blocks_with (facts_of with_scopes) (blocks with_scopes))
            (blocks_named (facts_of with_scopes) (blocks with_scopes) (blocks_names with_scopes (hinted_names cells offsets hoisted.body (hoisted_names placed.kinds placed.body (whole_names (code h).body names))) aims));
        told = each_all (λ (b : image.Block). All TellsNumber b.facts) (blocks_with (facts_of with_scopes) (blocks with_scopes))
            (blocks_told (facts_of with_scopes) (blocks with_scopes) (facts_told with_scopes aims));
      }

  -- the code of a function that fits
  fitting_near : (P : f.Program) → list_all is_few P.head.layouts ≡ true → (g : f.Function) → function_fits P g ≡ true → Near (whole g.body)
  fitting_near P few g h =
      let inside = both_true (nat_lt g.parameters (suc (length g.kinds))) (code_fits P g.kinds 0 g.body && result_fits g) h in
      whole_near P few g.kinds g.body (both_true (code_fits P g.kinds 0 g.body) (result_fits g) inside.1).0

  functions_consistent : (cells : ℕ) (P : f.Program) → list_all is_few P.head.layouts ≡ true → (fs : List Function) → all_fit P (map code fs) ≡ true → Each (λ h. CodeNames (code h).body) fs
      → Each (IsConsistentFunction count) (map function_of (map (prefetched_function cells) (map hoisted_function (map placed_function (map code fs)))))
  functions_consistent cells P few [] fit names = tt
  functions_consistent cells P few (h ∷ rest) fit names =
      let q = both_true (function_fits P (code h)) (all_fit P (map code rest)) fit in
      (function_consistent cells h names.0 (fitting_near P few (code h) q.0), functions_consistent cells P few rest q.1 names.1)

-- ---- layouts and texts

layouts_count : (structs : List (List Ty)) (singles : List Kind) → length (layouts_of structs singles) ≡ suc (length structs + length singles)
layouts_count structs singles =
    let all : List (List Kind) = k.struct_layouts (length structs) singles [] structs in
    let rest : List (List Kind) = map (λ x. x ∷ []) singles in
    let first : length all ≡ 0 + length structs = layouts_length (length structs) singles [] structs in
    let long : length (all ++ [] ∷ rest) ≡ length all + length ([] ∷ rest) = length-append all ([] ∷ rest) in
    let same : length rest ≡ length singles = length-map singles (λ x. x ∷ []) in
    omega (arith, first, long, same)

layouts_good : (structs : List (List Ty)) (singles : List Kind) → Each (IsCellKind (suc (length structs + length singles))) singles → Each (Each (IsCellKind (suc (length structs + length singles)))) (layouts_of structs singles)
layouts_good structs singles h =
    each_append (Each (IsCellKind (suc (length structs + length singles)))) (k.struct_layouts (length structs) singles [] structs) _ (structs_good (length structs) singles [] structs tt) (tt, singles_good (length structs) singles singles h)

each_text : (texts : List (List ℕ)) → ((i : ℕ) (text : List ℕ) → slice_get texts i ≡ Some text → All (λ b. b < 128) text) → Each (All (λ b. b < 128)) texts
each_text [] h = tt
each_text (x ∷ rest) h = (h 0 x refl, each_text rest (λ i text e. h (suc i) text e))

-- no layout of an image has 2^32 cells, where none of its lists has 2^32 items
few_cells : (C : image.Image) → has_few_items C ≡ true → list_all is_few C.head.layouts ≡ true
few_cells C h =
    let texts = both_true (is_few C.head.texts) _ h in
    let each_text = both_true (list_all is_few C.head.texts) _ texts.1 in
    let layouts = both_true (is_few C.head.layouts) _ each_text.1 in
    (both_true (list_all is_few C.head.layouts) _ layouts.1).0

-- ---- functions in the order of the code

each_function : (Q : Function → Type 0) (texts : List (List ℕ)) (fs : List Function) → ((i : ℕ) (h : Function) → slice_get (map (typed_function texts) fs) i ≡ Some (typed_function texts h) → Q h) → Each Q fs
each_function Q texts [] go = tt
each_function Q texts (x ∷ rest) go = (go 0 x refl, each_function Q texts rest (λ i h e. go (suc i) h e))

-- the layouts of an image of a program that fits
pub layouts_consistent : (checks : Bool) (cells : ℕ) (typed : Typed) → All (All (IsCellKind (length (image_of_tree checks cells typed).head.layouts))) (image_of_tree checks cells typed).head.layouts
layouts_consistent checks cells typed =
    let structs = (program_of typed).structs in
    let singles = singles_of typed in
    let count = layouts_count structs singles in
    let same : length typed.structs.items ≡ length structs = sym (length-map typed.structs.items struct_of) in
    let sound : Each (IsCellKind (suc (length structs + length singles))) singles =
    subst (λ i. Each (IsCellKind (suc (i + length singles))) singles) same (all_sound (length typed.structs.items) [] (types_of_functions typed.functions.items) tt) in
    subst (λ i. All (All (IsCellKind i)) (layouts_of structs singles)) (sym count)
    (each_all (All (IsCellKind (suc (length structs + length singles)))) (layouts_of structs singles)
    (each_as (Each (IsCellKind (suc (length structs + length singles)))) (All (IsCellKind (suc (length structs + length singles)))) (each_all (IsCellKind (suc (length structs + length singles)))) (layouts_of structs singles) (layouts_good structs singles sound)))

-- its functions, where no list of it has 2^32 items
pub all_consistent : (checks : Bool) (cells : ℕ) (typed : Typed) → FitsProgram (program_of typed) → has_few_items (image_of_tree checks cells typed) ≡ true
    → All (IsConsistentFunction (length (image_of_tree checks cells typed).head.layouts)) (image_of_tree checks cells typed).functions
all_consistent checks cells typed fp few =
    let P : f.Program = lowered (singles_of typed) checks typed in
    let structs = (program_of typed).structs in
    let singles = singles_of typed in
    let count = layouts_count structs singles in
    subst (λ i. All (IsConsistentFunction i) (image_of_tree checks cells typed).functions) (sym count)
    (each_all (IsConsistentFunction (suc (length structs + length singles))) (image_of_tree checks cells typed).functions
    (functions_consistent structs singles (texts_of typed) typed.functions.items typed.main checks cells P (few_cells (image_of_tree checks cells typed) few) (with_main_first typed.main typed.functions.items)
    (both_true (main_fits P.functions) (all_fit P P.functions) (lowered_ok checks typed fp)).1
    (in_order (λ h. CodeNames (l.function_code structs singles (texts_of typed) typed.functions.items typed.main checks h).body) typed.main typed.functions.items
    (each_function (λ h. CodeNames (l.function_code structs singles (texts_of typed) typed.functions.items typed.main checks h).body) (texts_of typed) typed.functions.items
    (λ i h e. function_names typed singles checks h (fp.functions i (typed_function (texts_of typed) h) e))))))

-- the kinds of structured code
pub lowered_named : (checks : Bool) (typed : Typed) → Each (NamesKinds (length (lowered (singles_of typed) checks typed).head.layouts)) (lowered (singles_of typed) checks typed).functions
lowered_named checks typed =
    let structs = (program_of typed).structs in
    let singles = singles_of typed in
    subst (λ i. Each (NamesKinds i) (lowered singles checks typed).functions) (sym (layouts_count structs singles))
    (functions_named structs singles (texts_of typed) typed.functions.items typed.main checks (with_main_first typed.main typed.functions.items))

pub images_consistent : ImagesAreConsistent
images_consistent checks cells typed is fp few = record {
  pieces = is;
  few = few;
  texts = each_all (All (λ b. b < 128)) (texts_of typed) (each_text (texts_of typed) fp.ascii);
  layouts = layouts_consistent checks cells typed;
  functions = all_consistent checks cells typed fp few;
  facts = (images_ok checks cells typed fp).facts;
}
