-- The code of a function fits, and so does that of a program.
use Rattle.std.proofs.Common.{◌≡◌, ℕ, suc, ◌+◌, ◌<◌, Bool, true, List, [], ◌∷◌, ◌++◌, length, Some, None, refl, sym, ap, ◌∙◌, subst, arith}
use Rattle.std.specs.Prelude.{slice_get, map}
use Rattle.std.proofs.lemmas.Bool.{lt-ltb}
use Rattle.std.proofs.lemmas.List.{length-append, length-map}
use Rattle.std.proofs.lemmas.Option.{slice_get-map}
use Rattle.c0_typed.specs.Trees as t
use Rattle.c0_typed.specs.Trees.{Program, Ty, VoidTy, IntTy, BoolTy, CharTy, TextTy, StructTy, PointerTy, ArrayTy}
use Rattle.c0_typed.specs.Typing.{FitsFunction, FitsProgram, local_types}
use Rattle.c0_typed.specs.Views.{function_of, program_of, texts_of, type_of}
use Rattle.c0_typed.specs.declared.tree.Function.{Function}
use Rattle.c0_typed.specs.declared.tree.Typed.{Typed}
use Rattle.code_form.specs.declared.form.Kind.{Kind}
use Rattle.code_form.specs.declared.form.Kind.TheVariants as kind
use Rattle.code_form.specs.Code.{call_fits, has}
use Rattle.middle_form.specs.Form.{Code}
use Rattle.middle_form.specs.Form as f
use Rattle.middle_form.specs.WellFormed.{all_fit, function_fits, is_well_formed, main_fits}
use Rattle.lower_tables.specs.Gathered.{all_learned, singles_of, types_of_functions}
use Rattle.lower_tables.specs.Kinds as k
use Rattle.lower_tables.specs.Known.{KnowsFunction, KnowsFunctions}
use Rattle.lower_expressions.specs.Expressions as parts
use Rattle.lower.specs.Lowered as l
use Rattle.lower.specs.Lowered.{lowered, result_kind, with_main_first}
use Rattle.lower_expressions.specs.Expressions.{checked}
use Rattle.lower.proofs.Calling.{its_code}
use Rattle.lower_tables.proofs.CodeKnown.{all_known, knows_functions}
use Rattle.lower.proofs.Entry.{at_behind, locals_kinds}
use Rattle.lower.proofs.Order.{first}
use Rattle.lower.proofs.Registers.{At, and_true, at_left, at_right, at_tail, has_it}
use Rattle.lower.proofs.Values.{LocalsAt, function_there}
use Rattle.c0_well_formed.proofs.CellKinds.{Each}
use Rattle.c0_well_formed.proofs.Ordered.{in_order}
use Rattle.c0_well_formed.proofs.Fits.{AllFit, fit_append, fit_then}
use Rattle.c0_well_formed.proofs.Statements as s
use Rattle.middle_form.specs.Guarded.{uses_pointers}
use Rattle.c0_well_formed.specs.Laws.{LoweredIsWellFormed}

module _ (typed : Typed) (singles : List Kind) (checks : Bool) (fp : FitsProgram (program_of typed)) where
  abbrev p : Program
  p = program_of typed

  abbrev P : f.Program
  P = lowered singles checks typed

  abbrev n : ℕ
  n = length p.structs

  -- the result stands in its register
  result_there : (ks : List Kind) (d : ℕ) (ty : Ty) → slice_get ks d ≡ Some (k.kind_of n singles ty) → (elim (result_kind n singles ty) [ None ↦ true | Some a ↦ has ks d a ]) ≡ true
  result_there ks d VoidTy e = refl
  result_there ks d IntTy e = has_it ks d _ e
  result_there ks d BoolTy e = has_it ks d _ e
  result_there ks d CharTy e = has_it ks d _ e
  result_there ks d TextTy e = has_it ks d _ e
  result_there ks d (StructTy j) e = has_it ks d _ e
  result_there ks d (PointerTy ty) e = has_it ks d _ e
  result_there ks d (ArrayTy ty) e = has_it ks d _ e

  module _ (h : Function) (fits : FitsFunction p (function_of (texts_of typed) h)) (known : KnowsFunction n singles h) where
    abbrev types : List Ty
    types = local_types (function_of (texts_of typed) h)

    abbrev locals : ℕ
    locals = length h.parameters.items + length h.locals.items

    abbrev ks : List Kind
    ks = (its_code typed singles checks h).kinds

    abbrev before : List Kind
    before = parts.conditions_kinds p.structs singles (texts_of typed) typed.functions.items typed.main (checked checks h.preconditions.items)

    abbrev inside : List Kind
    inside = l.body_kinds p.structs singles (texts_of typed) typed.functions.items typed.main checks h.body.items

    abbrev behind : List Kind
    behind = parts.conditions_kinds p.structs singles (texts_of typed) typed.functions.items typed.main (checked checks h.postconditions.items)

    abbrev kind_here : Kind
    kind_here = parts.kind_at p.structs singles (texts_of typed) typed.functions.items typed.main h.result

    locals_at : LocalsAt typed singles types locals ks
    locals_at = locals_kinds typed singles h (before ++ (inside ++ behind))

    at_rest : At ks (suc locals) (before ++ (inside ++ behind))
    at_rest = at_tail ks locals kind_here (before ++ (inside ++ behind)) (at_behind typed singles h.parameters.items h.locals.items (kind_here ∷ (before ++ (inside ++ behind))))

    entered : At ks (suc locals) before
    entered = at_left ks (suc locals) before (inside ++ behind) at_rest

    at_body : At ks (suc locals + length before) (inside ++ behind)
    at_body = at_right ks (suc locals) before (inside ++ behind) at_rest

    body_here : AllFit P ks 1 (l.body_code p.structs singles (texts_of typed) typed.functions.items typed.main locals checks h.body.items (suc locals + length before))
    body_here = s.body_fits typed singles checks fp types locals ks locals_at h.body.items (suc locals + length before) (at_left ks (suc locals + length before) inside behind at_body) known.1 fits.5

    code_here : AllFit P ks 0 (parts.conditions_code p.structs singles (texts_of typed) typed.functions.items typed.main locals (checked checks h.preconditions.items) (suc locals)
        ++ (f.Block (parts.sequence (l.body_code p.structs singles (texts_of typed) typed.functions.items typed.main locals checks h.body.items (suc locals + length before)))
        ∷ parts.conditions_code p.structs singles (texts_of typed) typed.functions.items typed.main locals (checked checks h.postconditions.items) (suc locals + length before + length inside)))
    code_here =
        fit_append P ks 0 _ _ (s.checked_fit typed singles checks fp types locals ks locals_at 0 h.preconditions.items (suc locals) entered known.0 fits.3)
        (fit_then P ks 0 _ _ body_here.fits body_here.pointers
        (s.checked_fit typed singles checks fp types locals ks locals_at 0 h.postconditions.items (suc locals + length before + length inside) (at_right ks (suc locals + length before) inside behind at_body) known.2 fits.4))

    few : (its_code typed singles checks h).parameters < suc (length ks)
    few =
        let first : List Kind = map (λ ty. parts.kind_at p.structs singles (texts_of typed) typed.functions.items typed.main ty) h.parameters.items in
        let rest : List Kind = map (λ ty. parts.kind_at p.structs singles (texts_of typed) typed.functions.items typed.main ty) h.locals.items ++ (kind_here ∷ (before ++ (inside ++ behind))) in
        let long : length (first ++ rest) ≡ length first + length rest = length-append first rest in
        let same : length first ≡ length h.parameters.items = length-map h.parameters.items (λ ty. parts.kind_at p.structs singles (texts_of typed) typed.functions.items typed.main ty) in
        omega (arith, long, same)

    pub function_ok : function_fits P (its_code typed singles checks h) ≡ true
    function_ok =
        and_true _ _ (lt-ltb (its_code typed singles checks h).parameters (suc (length ks)) few)
        (and_true _ _ code_here.fits (result_there ks locals (type_of h.result) (locals_at 0 (type_of h.result) refl)))

    pub function_pointers : uses_pointers ks (its_code typed singles checks h).body ≡ true
    function_pointers = code_here.pointers

  -- ---- all functions

  -- a function of the text has code that fits
  abbrev HasCode : Function → Type 0
  HasCode h = function_fits P (its_code typed singles checks h) ≡ true

  each_fits : (fs : List Function) → ((i : ℕ) (g : t.Function) → slice_get (map (function_of (texts_of typed)) fs) i ≡ Some g → FitsFunction p g) → KnowsFunctions n singles fs → Each HasCode fs
  each_fits [] fits known = tt
  each_fits (h ∷ rest) fits known = (function_ok h (fits 0 (function_of (texts_of typed) h) refl) known.0, each_fits rest (λ i g e. fits (suc i) g e) known.1)

  all_of : (fs : List Function) → Each HasCode fs → all_fit P (map (its_code typed singles checks) fs) ≡ true
  all_of [] h = refl
  all_of (x ∷ rest) h = and_true _ _ h.0 (all_of rest h.1)

  main_of : (gs : List f.Function) (g : f.Function) → slice_get gs 0 ≡ Some g → call_fits (kind.Int ∷ []) g.result g.parameters g.kinds (Some 0) [] ≡ true → main_fits gs ≡ true
  main_of [] g e h = absurd (cc e)
  main_of (x ∷ gs) g e h = let same : x ≡ g = cc e in subst (λ (z : f.Function). call_fits (kind.Int ∷ []) z.result z.parameters z.kinds (Some 0) [] ≡ true) (sym same) h

  -- a function that takes nothing and gives a number may be called so
  main_called : (h : Function) → map type_of h.parameters.items ≡ [] → type_of h.result ≡ IntTy
      → call_fits (kind.Int ∷ []) (its_code typed singles checks h).result (its_code typed singles checks h).parameters (its_code typed singles checks h).kinds (Some 0) [] ≡ true
  main_called h none gives =
      let count : length h.parameters.items ≡ 0 = sym (length-map h.parameters.items type_of) ∙ ap length none in
      ap (λ z. call_fits (kind.Int ∷ []) (result_kind n singles z) (its_code typed singles checks h).parameters (its_code typed singles checks h).kinds (Some 0) []) gives
      ∙ ap (λ z. call_fits (kind.Int ∷ []) (Some kind.Int) z (its_code typed singles checks h).kinds (Some 0) []) count

  pub program_ok : KnowsFunctions n singles typed.functions.items → is_well_formed P ≡ true
  program_ok known =
      let main = fp.main in
      let h = function_there (texts_of typed) typed.functions.items typed.main main.0 main.1 in
      let there : slice_get P.functions 0 ≡ Some (its_code typed singles checks h.0) =
      slice_get-map (its_code typed singles checks) (with_main_first typed.main typed.functions.items) 0
      ∙ ap (λ z. elim z [ None ↦ None | Some x ↦ Some (its_code typed singles checks x) ]) (first typed.main typed.functions.items h.0 h.1) in
      and_true (main_fits P.functions) (all_fit P P.functions)
      (main_of P.functions (its_code typed singles checks h.0) there (main_called h.0 (ap (λ (z : t.Function). z.parameters) (sym h.2) ∙ main.2) (ap (λ (z : t.Function). z.result) (sym h.2) ∙ main.3)))
      (all_of (with_main_first typed.main typed.functions.items) (in_order HasCode typed.main typed.functions.items (each_fits typed.functions.items fp.functions known)))

-- the kinds of single cells that a program gathers know each of its functions
pub program_known : (typed : Typed) → KnowsFunctions (length (program_of typed).structs) (singles_of typed) typed.functions.items
program_known typed =
    let same : length typed.structs.items ≡ length (program_of typed).structs = sym (length-map typed.structs.items _) in
    subst (λ i. KnowsFunctions i (all_learned (length typed.structs.items) [] (types_of_functions typed.functions.items)) typed.functions.items) same
    (knows_functions (length typed.structs.items) (all_learned (length typed.structs.items) [] (types_of_functions typed.functions.items)) typed.functions.items (all_known (length typed.structs.items) [] (types_of_functions typed.functions.items)))

pub lowered_ok : LoweredIsWellFormed
lowered_ok checks typed fp = program_ok typed (singles_of typed) checks fp (program_known typed)
