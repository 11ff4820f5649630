-- The code of expressions, places and conditions is guarded.
use Rattle.std.proofs.Common.{◌≡◌, ℕ, suc, ◌+◌, ◌<◌, ◌≤◌, ◌⊎◌, inl, inr, Bool, true, false, List, [], ◌∷◌, length, Some, None, refl, arith}
use Rattle.c0_typed.specs.Trees as t
use Rattle.c0_typed.specs.Trees.{VoidTy, IntTy, BoolTy, CharTy, TextTy, StructTy, PointerTy, ArrayTy}
use Rattle.c0_typed.specs.declared.tree.Constant.{Constant as ConstantValue}
use Rattle.c0_typed.specs.declared.tree.Constant.TheVariants as c
use Rattle.c0_typed.specs.declared.tree.Output.{Output}
use Rattle.c0_typed.specs.declared.tree.Output.TheVariants as o
use Rattle.c0_typed.specs.declared.tree.Expression.{Expression, Row_of-Expression, end_of-Expression, more_of-Expression, At', Constant, Null, Local, Unary', Binary', Compare', And', Or', Choose', Call', Print', Load', Alloc, AllocArray', Length'}
use Rattle.c0_typed.specs.declared.tree.Place.{Place, Deref', Index', Field'}
use Rattle.c0_typed.specs.declared.tree.Function.{Function}
use Rattle.code_form.specs.declared.form.Kind.{Kind}
use Rattle.code_form.specs.declared.form.Fact.{Fact}
use Rattle.code_form.specs.declared.form.Fact.TheVariants as fact
use Rattle.middle_form.specs.Form.{Code}
use Rattle.middle_form.specs.Form as f
use Rattle.lower_expressions.specs.Expressions as parts
use Rattle.lower_expressions.specs.Expressions.{checked, constant_code, moved, print_code, result_register, sequence, value_at}
use Rattle.middle_form.specs.Guarded.{is_kept, place_check, without_check}
use Rattle.c0_well_formed.proofs.CellKinds.{Each}
use Rattle.c0_well_formed.proofs.GuardedCode.{Guards, IsBelow, One, each_taken, each_without, guard_append, guard_none, guard_one, guard_then, kept_below, one_choose, same_place}

-- In a function with so many locals, where each fact that is asked is a P
module _ (structs : List (List t.Ty)) (singles : List Kind) (texts : List (List ℕ)) (functions : List Function) (main locals : ℕ) (P : Fact → Type 0) where
  abbrev kinds : Expression → List Kind
  kinds a = parts.exp_kinds structs singles texts functions main a

  abbrev code : Expression → ℕ → List Code
  code a d = parts.exp_code structs singles texts functions main locals a d

  abbrev code_row : {i : _} → Row_of-Expression i → ℕ → List Code
  code_row es d = parts.row_code structs singles texts functions main locals es d

  abbrev code_place : Place → ℕ → List Code
  code_place q d = parts.place_code structs singles texts functions main locals q d

  abbrev at_row : {i : _} → Row_of-Expression i → ℕ → List ℕ
  at_row es d = parts.row_at structs singles texts functions main locals es d

  abbrev code_all : List Expression → ℕ → List Code
  code_all es d = parts.conditions_code structs singles texts functions main locals es d

  -- the check of a place
  abbrev pub check_at : Place → ℕ → Fact
  check_at q d = place_check (parts.base_at structs singles texts functions main locals q d) (parts.offset_at structs singles texts functions main locals q d)

  -- this check, or one that is asked further on
  abbrev pub Near : Place → ℕ → Fact → Type 0
  Near q d g = (check_at q d ≡ g) ⊎ P g

  -- each names only registers below d
  abbrev pub Low : ℕ → Type 0
  Low d = (g : Fact) → P g → IsBelow d g

  above : (d e : ℕ) → d ≤ e → Low d → Low e
  above d e le low g p r n = let q : r < d = low g p r n in omega arith

  next : (d : ℕ) → Low d → Low (suc d)
  next d low = above d (suc d) (omega arith) low

  beyond : (d i : ℕ) → Low d → Low (suc d + i)
  beyond d i low = above d (suc d + i) (omega arith) low

  far : (d i j : ℕ) → Low d → Low (suc d + i + j)
  far d i j low = above d (suc d + i + j) (omega arith) low

  unchanged : (w : List Fact) → Each P w → Each P w × (true ≡ true)
  unchanged w h = (h, refl)

  written : (d : ℕ) → Low d → (w : List Fact) → Each P w → Each P w × (is_kept (Some d) w ≡ true)
  written d low w h = (h, kept_below P d low w h)

  constant_written : (x : ConstantValue) (d : ℕ) → Low d → One P P (f.Do (constant_code texts x d))
  constant_written (c.Number z) d low = written d low
  constant_written (c.Truth b) d low = written d low
  constant_written (c.Letter x) d low = written d low
  constant_written (c.Text i) d low = written d low

  result_written : (ty : t.Ty) (d : ℕ) → Low d → (w : List Fact) → Each P w → Each P w × (is_kept (result_register ty d) w ≡ true)
  result_written VoidTy d low = unchanged
  result_written IntTy d low = written d low
  result_written BoolTy d low = written d low
  result_written CharTy d low = written d low
  result_written TextTy d low = written d low
  result_written (StructTy j) d low = written d low
  result_written (PointerTy ty) d low = written d low
  result_written (ArrayTy ty) d low = written d low

  printed : (out : Output) (regs : List ℕ) → One P P (f.Do (print_code out regs))
  printed o.Print [] = unchanged
  printed o.Print (a ∷ rest) = unchanged
  printed o.Println [] = unchanged
  printed o.Println (a ∷ rest) = unchanged
  printed o.Printint [] = unchanged
  printed o.Printint (a ∷ rest) = unchanged
  printed o.Printbool [] = unchanged
  printed o.Printbool (a ∷ rest) = unchanged
  printed o.Printchar [] = unchanged
  printed o.Printchar (a ∷ rest) = unchanged
  printed o.Flush regs = unchanged

  near_all : (q : Place) (d : ℕ) (w : List Fact) → Each P w → Each (Near q d) w
  near_all q d [] h = tt
  near_all q d (g ∷ w) h = (inr h.0, near_all q d w h.1)

  loaded : (q : Place) (e d disp : ℕ) → Low d → One (Near q e) P (f.Load d (parts.base_at structs singles texts functions main locals q e) (parts.offset_at structs singles texts functions main locals q e) disp)
  loaded q e d disp low w h = ((inl refl, each_without (Near q e) (check_at q e) w (near_all q e w h)), kept_below P d low w h)

  moved_guards : (b : Expression) (e d : ℕ) → Low d → Guards P P (code b e) → Guards P P (moved locals b (code b e) e d)
  moved_guards b e d low h = guard_append (code b e) _ h (guard_one _ (written d low))

  mutual
    pub exp_guards : (a : Expression) (d : ℕ) → Low d → Guards P P (code a d)
    exp_guards (At' here q e) d low = exp_guards e d low
    exp_guards (Constant x) d low = guard_one _ (constant_written x d low)
    exp_guards (Null w) d low = guard_one _ (written d low)
    exp_guards (Local x) d low = guard_none
    exp_guards (Unary' i w a) d low = guard_append (code a (suc d)) _ (exp_guards a (suc d) (next d low)) (guard_one _ (written d low))
    exp_guards (Binary' i w a s b) d low =
        guard_append (code a (suc d)) _ (exp_guards a (suc d) (next d low))
        (guard_append (code b (suc d + length (kinds a))) _ (exp_guards b (suc d + length (kinds a)) (beyond d (length (kinds a)) low)) (guard_one _ (written d low)))
    exp_guards (Compare' w i v a s b) d low =
        guard_append (code a (suc d)) _ (exp_guards a (suc d) (next d low))
        (guard_append (code b (suc d + length (kinds a))) _ (exp_guards b (suc d + length (kinds a)) (beyond d (length (kinds a)) low)) (guard_one _ (written d low)))
    exp_guards (And' w a s b) d low =
        let other = moved_guards b (suc d + length (kinds a)) d low (exp_guards b (suc d + length (kinds a)) (beyond d (length (kinds a)) low)) in
        guard_append (code a (suc d)) _ (exp_guards a (suc d) (next d low))
        (guard_then _ _ (written d low) (guard_one _ (one_choose P P d (sequence (moved locals b (code b (suc d + length (kinds a))) (suc d + length (kinds a)) d)) f.Nothing other.go unchanged)))
    exp_guards (Or' w a s b) d low =
        let other = moved_guards b (suc d + length (kinds a)) d low (exp_guards b (suc d + length (kinds a)) (beyond d (length (kinds a)) low)) in
        guard_append (code a (suc d)) _ (exp_guards a (suc d) (next d low))
        (guard_then _ _ (written d low) (guard_one _ (one_choose P P d f.Nothing (sequence (moved locals b (code b (suc d + length (kinds a))) (suc d + length (kinds a)) d)) unchanged other.go)))
    exp_guards (Choose' w v a q b s e) d low =
        let second = suc d + length (kinds a) in
        let third = suc d + length (kinds a) + length (kinds b) in
        let one = moved_guards b second d low (exp_guards b second (beyond d (length (kinds a)) low)) in
        let other = moved_guards e third d low (exp_guards e third (far d (length (kinds a)) (length (kinds b)) low)) in
        guard_append (code a (suc d)) _ (exp_guards a (suc d) (next d low))
        (guard_one _ (one_choose P P (value_at locals a (suc d)) (sequence (moved locals b (code b second) second d)) (sequence (moved locals e (code e third) third d)) one.go other.go))
    exp_guards (Call' i shape es) d low =
        guard_append (code_row es (suc d)) _ (row_guards es (suc d) (next d low)) (guard_one _ (result_written (parts.type_given structs singles texts functions main functions i) d low))
    exp_guards (Print' out shape es) d low = guard_append (code_row es (suc d)) _ (row_guards es (suc d) (next d low)) (guard_one _ (printed out (at_row es (suc d))))
    exp_guards (Load' w v q) d low = guard_append (code_place q (suc d)) _ (place_guards q (suc d) (next d low)) (guard_one _ (loaded q (suc d) d (parts.displacement structs singles texts functions main locals q) low))
    exp_guards (Alloc w) d low = guard_one _ (written d low)
    exp_guards (AllocArray' w v a) d low = guard_append (code a (suc d)) _ (exp_guards a (suc d) (next d low)) (guard_one _ (written d low))
    exp_guards (Length' w v a) d low = guard_append (code a (suc d)) _ (exp_guards a (suc d) (next d low)) (guard_one _ (written d low))

    row_guards : {i : _} (es : Row_of-Expression i) (d : ℕ) → Low d → Guards P P (code_row es d)
    row_guards end_of-Expression d low = guard_none
    row_guards (more_of-Expression a rest) d low =
        guard_append (code a d) _ (exp_guards a d low) (row_guards rest (d + length (kinds a)) (above d (d + length (kinds a)) (omega arith) low))

    -- the check of the place may be asked behind its code
    pub place_guards : (q : Place) (d : ℕ) → Low d → Guards P (Near q d) (code_place q d)
    place_guards (Deref' w v a) d low =
        let r = value_at locals a d in
        guard_append (code a d) _ (exp_guards a d low) (guard_one _ (λ w h. (each_taken P (fact.Nonnull r) (same_place r None) w h, refl)))
    place_guards (Index' w v a s i) d low =
        let r = value_at locals a (suc d) in
        guard_append (code a (suc d)) _ (exp_guards a (suc d) (next d low))
        (guard_append (code i (suc d + length (kinds a))) _ (exp_guards i (suc d + length (kinds a)) (beyond d (length (kinds a)) low))
        (guard_one _ (λ w h. written d low (without_check (fact.Inside d r) w) (each_taken P (fact.Inside d r) (same_place r (Some d)) w h))))
    place_guards (Field' j v q i) d low = place_guards q d low

  conditions_guards : (es : List Expression) (d : ℕ) → Low d → Guards P P (code_all es d)
  conditions_guards [] d low = guard_none
  conditions_guards (a ∷ rest) d low =
      guard_append (code a d) _ (exp_guards a d low) (guard_then _ _ unchanged (conditions_guards rest (d + length (kinds a)) (above d (d + length (kinds a)) (omega arith) low)))

  -- those of them that are looked at
  pub checked_guards : (checks : Bool) (es : List Expression) (d : ℕ) → Low d → Guards P P (code_all (checked checks es) d)
  checked_guards true es d low = conditions_guards es d low
  checked_guards false es d low = guard_none
