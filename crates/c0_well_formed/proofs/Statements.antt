-- The code of statements fits.
use Rattle.std.proofs.Common.{◌≡◌, ℕ, suc, ◌+◌, ◌<◌, Bool, true, false, List, [], ◌∷◌, ◌++◌, length, Some, refl, arith}
use Rattle.std.specs.Prelude.{nat_lt, slice_get}
use Rattle.std.proofs.lemmas.Bool.{lt-ltb}
use Rattle.c0_typed.specs.Trees.{Program, Ty, IntTy, BoolTy, TextTy}
use Rattle.c0_typed.specs.Typing.{AllBool, Fits, FitsProgram, Has}
use Rattle.c0_typed.specs.Views.{block_of, block_row, exp_of, exps_of, program_of, stmt_of, texts_of}
use Rattle.c0_typed.specs.declared.tree.Expression.{Expression}
use Rattle.c0_typed.specs.declared.tree.Place.{Place}
use Rattle.c0_typed.specs.declared.tree.Statement.{Statement, Row_of-Statement, end_of-Statement, more_of-Statement, Block', Set, Update, Store, StoreUpdate, Do, If', Loop', Return, ReturnValue, Break, Continue, Assert, Error, Check}
use Rattle.c0_typed.specs.declared.tree.Typed.{Typed}
use Rattle.code_form.specs.declared.form.Kind.{Kind}
use Rattle.code_form.specs.declared.form.Kind.TheVariants as kind
use Rattle.code_form.specs.Code.{has}
use Rattle.middle_form.specs.Form.{Code}
use Rattle.middle_form.specs.Form as f
use Rattle.lower_tables.specs.Kinds as k
use Rattle.lower_tables.specs.Known.{Knows, KnowsAll, KnowsBlock, KnowsBody, KnowsStatement}
use Rattle.lower_expressions.specs.Expressions as parts
use Rattle.lower.specs.Exits.{WaysOut, deeper, has_continue, inside, whole}
use Rattle.lower.specs.Lowered as l
use Rattle.lower.specs.Lowered.{lowered}
use Rattle.lower_expressions.specs.Expressions.{checked, local_register, value_at}
use Rattle.lower.proofs.Registers.{At, and_true, at_head, at_left, at_right, at_tail, has_it}
use Rattle.lower.proofs.Values.{LocalsAt}
use Rattle.c0_well_formed.proofs.Fits.{AllFit, fit_append, fit_none, fit_one, fit_then}
use Rattle.c0_well_formed.proofs.Expressions as e

module _ (typed : Typed) (singles : List Kind) (checks : Bool) (fp : FitsProgram (program_of typed)) (types : List Ty) (locals : ℕ) (ks : List Kind) (locals_at : LocalsAt typed singles types locals ks) where
  abbrev p : Program
  p = program_of typed

  abbrev P : f.Program
  P = lowered singles checks typed

  abbrev n : ℕ
  n = length p.structs

  abbrev texts : List (List ℕ)
  texts = texts_of typed

  abbrev kinds : Expression → List Kind
  kinds a = e.kinds typed singles checks fp types locals ks locals_at a

  abbrev kinds_place : Place → List Kind
  kinds_place q = e.kinds_place typed singles checks fp types locals ks locals_at q

  abbrev code : Expression → ℕ → List Code
  code a d = e.code typed singles checks fp types locals ks locals_at a d

  abbrev code_place : Place → ℕ → List Code
  code_place q d = e.code_place typed singles checks fp types locals ks locals_at q d

  abbrev pub kinds_all : List Expression → List Kind
  kinds_all es = parts.conditions_kinds p.structs singles (texts_of typed) typed.functions.items typed.main es

  abbrev pub code_all : List Expression → ℕ → List Code
  code_all es d = parts.conditions_code p.structs singles (texts_of typed) typed.functions.items typed.main locals es d

  abbrev kinds_stmt : Statement → List Kind
  kinds_stmt a = l.stmt_kinds p.structs singles (texts_of typed) typed.functions.items typed.main checks a

  abbrev kinds_block : {m : _} → Row_of-Statement m → List Kind
  kinds_block all = l.block_kinds p.structs singles (texts_of typed) typed.functions.items typed.main checks all

  abbrev pub kinds_body : List Statement → List Kind
  kinds_body all = l.body_kinds p.structs singles (texts_of typed) typed.functions.items typed.main checks all

  abbrev code_stmt : Statement → ℕ → WaysOut → List Code
  code_stmt a d out = l.stmt_code p.structs singles (texts_of typed) typed.functions.items typed.main locals checks a d out

  abbrev code_block : {m : _} → Row_of-Statement m → ℕ → WaysOut → List Code
  code_block all d out = l.block_code p.structs singles (texts_of typed) typed.functions.items typed.main locals checks all d out

  abbrev pub code_body : List Statement → ℕ → List Code
  code_body all d = l.body_code p.structs singles (texts_of typed) typed.functions.items typed.main locals checks all d

  exp_fits : (around : ℕ) (a : Expression) (ty : Ty) (d : ℕ) → At ks d (kinds a) → Knows n singles a → Has p types (exp_of texts a) ty → AllFit P ks around (code a d)
  exp_fits around a ty d at known h = e.exp_fits typed singles checks fp types locals ks locals_at around a ty d at known h

  has_kind : (a : Expression) (ty : Ty) (d : ℕ) → At ks d (kinds a) → Has p types (exp_of texts a) ty → has ks (value_at locals a d) (k.kind_of n singles ty) ≡ true
  has_kind a ty d at h = e.has_kind typed singles checks fp types locals ks locals_at a ty d at h

  kind_is : (a : Expression) (ty : Ty) (d : ℕ) → At ks d (kinds a) → Has p types (exp_of texts a) ty → slice_get ks (value_at locals a d) ≡ Some (k.kind_of n singles ty)
  kind_is a ty d at h = e.kind_is typed singles checks fp types locals ks locals_at a ty d at h

  -- conditions, and those of them that are looked at
  conditions_fit : (around : ℕ) (es : List Expression) (d : ℕ) → At ks d (kinds_all es) → KnowsAll n singles es → AllBool p types (exps_of texts es) → AllFit P ks around (code_all es d)
  conditions_fit around [] d at known h = fit_none P ks around
  conditions_fit around (a ∷ rest) d at known h =
      let here = at_left ks d (kinds a) (kinds_all rest) at in
      fit_append P ks around (code a d) _ (exp_fits around a BoolTy d here known.0 h.0)
      (fit_then P ks around _ _ (has_kind a BoolTy d here h.0) refl (conditions_fit around rest (d + length (kinds a)) (at_right ks d (kinds a) (kinds_all rest) at) known.1 h.1))

  pub checked_fit : (around : ℕ) (es : List Expression) (d : ℕ) → At ks d (kinds_all (checked checks es)) → KnowsAll n singles es → AllBool p types (exps_of texts es) → AllFit P ks around (code_all (checked checks es) d)
  checked_fit around es d at known h = by checks at
    where
      by : (b : Bool) → At ks d (kinds_all (checked b es)) → AllFit P ks around (code_all (checked b es) d)
      by true at = conditions_fit around es d at known h
      by false at = fit_none P ks around

  -- each exit leads behind one of so many loops and blocks
  abbrev Inside : ℕ → WaysOut → Type 0
  Inside n out = (out.returns < n) × (out.breaks < n) × (out.continues < n)

  deeper_inside : (n : ℕ) (out : WaysOut) → Inside n out → Inside (suc n) (deeper out)
  deeper_inside n out i = (omega (arith, i.0), omega (arith, i.1), omega (arith, i.2))

  exit_fits : (k n : ℕ) → k < n → nat_lt k n ≡ true
  exit_fits k n l = lt-ltb k n l

  -- the body of a loop
  turn_fits : (b : Bool) (n : ℕ) (out : WaysOut) (code : WaysOut → List Code) → Inside n out → ((m : ℕ) (e : WaysOut) → Inside m e → AllFit P ks m (code e)) → AllFit P ks (suc n) (l.turn_code b (code (inside b out)))
  turn_fits true n out code i go = let inner = go (suc (suc n)) (inside true out) (omega (arith, i.0), omega arith, omega arith) in fit_one P ks (suc n) _ inner.fits inner.pointers
  turn_fits false n out code i go = go (suc n) (inside false out) (omega (arith, i.0), omega arith, omega arith)

  mutual
    pub stmt_fits : (a : Statement) (d : ℕ) (out : WaysOut) (around : ℕ) → Inside around out → At ks d (kinds_stmt a) → KnowsStatement n singles a → Fits p types (stmt_of texts a) → AllFit P ks around (code_stmt a d out)
    stmt_fits (Block' shape all) d out around in_them at known h = block_fits all d out around in_them at known h
    stmt_fits (Set x a) d out around in_them at known h =
        fit_append P ks around (code a d) _ (exp_fits around a h.0 d at known h.2)
        (fit_one P ks around _ (e.move_fits typed singles checks fp types locals ks locals_at (local_register locals x) (value_at locals a d) (k.kind_of n singles h.0) (kind_is a h.0 d at h.2) (locals_at x h.0 h.1)) refl)
    stmt_fits (Update x o a) d out around in_them at known h =
        let here = has_it ks (local_register locals x) kind.Int (locals_at x IntTy h.0) in
        fit_append P ks around (code a d) _ (exp_fits around a IntTy d at known h.1) (fit_one P ks around _ (and_true _ _ here (and_true _ _ here (has_kind a IntTy d at h.1))) refl)
    stmt_fits (Store q a) d out around in_them at known h =
        let left = at_left ks d (kinds_place q) (kinds a) at in
        let right = at_right ks d (kinds_place q) (kinds a) at in
        let place = e.place_is typed singles checks fp types locals ks locals_at q h.0 d left known.0 h.2 in
        fit_append P ks around (code_place q d) _ (e.place_fits_there typed singles checks fp types locals ks locals_at around q h.0 d left known.0 h.2)
        (fit_append P ks around (code a (d + length (kinds_place q))) _ (exp_fits around a h.0 (d + length (kinds_place q)) right known.1 h.3)
        (fit_one P ks around _ (e.access typed singles checks fp types locals ks locals_at q h.0 d (value_at locals a (d + length (kinds_place q))) place h.1 (kind_is a h.0 (d + length (kinds_place q)) right h.3)) place.by_pointer))
    stmt_fits (StoreUpdate q o a) d out around in_them at known h =
        let here = at_head ks d kind.Int (kinds_place q ++ kinds a) at in
        let behind = at_tail ks d kind.Int (kinds_place q ++ kinds a) at in
        let left = at_left ks (suc d) (kinds_place q) (kinds a) behind in
        let right = at_right ks (suc d) (kinds_place q) (kinds a) behind in
        let place = e.place_is typed singles checks fp types locals ks locals_at q IntTy (suc d) left known.0 h.0 in
        let may = e.access typed singles checks fp types locals ks locals_at q IntTy (suc d) d place tt here in
        fit_append P ks around (code_place q (suc d)) _ (e.place_fits_there typed singles checks fp types locals ks locals_at around q IntTy (suc d) left known.0 h.0)
        (fit_then P ks around _ _ may place.by_pointer
        (fit_append P ks around (code a (suc d + length (kinds_place q))) _ (exp_fits around a IntTy (suc d + length (kinds_place q)) right known.1 h.1)
        (fit_then P ks around _ _ (and_true _ _ (has_it ks d kind.Int here) (and_true _ _ (has_it ks d kind.Int here) (has_kind a IntTy (suc d + length (kinds_place q)) right h.1))) refl (fit_one P ks around _ may place.by_pointer))))
    stmt_fits (Do a) d out around in_them at known h = exp_fits around a h.0 d at known h.1
    stmt_fits (If' a w b q s) d out around in_them at known h =
        let first = at_left ks d (kinds a) (kinds_stmt b ++ kinds_stmt s) at in
        let rest = at_right ks d (kinds a) (kinds_stmt b ++ kinds_stmt s) at in
        let one = stmt_fits b (d + length (kinds a)) out around in_them (at_left ks (d + length (kinds a)) (kinds_stmt b) (kinds_stmt s) rest) known.1 h.1 in
        let other = stmt_fits s (d + length (kinds a) + length (kinds_stmt b)) out around in_them (at_right ks (d + length (kinds a)) (kinds_stmt b) (kinds_stmt s) rest) known.2 h.2 in
        fit_append P ks around (code a d) _ (exp_fits around a BoolTy d first known.0 h.0)
        (fit_one P ks around _ (and_true _ _ (has_kind a BoolTy d first h.0) (and_true _ _ one.fits other.fits)) (and_true _ _ one.pointers other.pointers))
    stmt_fits (Loop' invariants a w body q step) d out around in_them at known h =
        let before = kinds_all (checked checks invariants.items) in
        let first = at_left ks d before (kinds a ++ (kinds_stmt body ++ kinds_stmt step)) at in
        let rest = at_right ks d before (kinds a ++ (kinds_stmt body ++ kinds_stmt step)) at in
        let here = at_left ks (d + length before) (kinds a) (kinds_stmt body ++ kinds_stmt step) rest in
        let within = at_right ks (d + length before) (kinds a) (kinds_stmt body ++ kinds_stmt step) rest in
        let test = fit_append P ks (suc around) (code_all (checked checks invariants.items) d) (code a (d + length before)) (checked_fit (suc around) invariants.items d first known.0 h.0) (exp_fits (suc around) a BoolTy (d + length before) here known.1 h.1) in
        let turn = l.turn_code (has_continue body) (code_stmt body (d + length before + length (kinds a)) (inside (has_continue body) out)) in
        let round = fit_append P ks (suc around) turn (code_stmt step (d + length before + length (kinds a) + length (kinds_stmt body)) (deeper out))
        (turn_fits (has_continue body) around out (code_stmt body (d + length before + length (kinds a))) in_them (λ m e i. stmt_fits body (d + length before + length (kinds a)) e m i (at_left ks (d + length before + length (kinds a)) (kinds_stmt body) (kinds_stmt step) within) known.2 h.2))
        (stmt_fits step (d + length before + length (kinds a) + length (kinds_stmt body)) (deeper out) (suc around) (deeper_inside around out in_them) (at_right ks (d + length before + length (kinds a)) (kinds_stmt body) (kinds_stmt step) within) known.3 h.3) in
        fit_one P ks around _ (and_true _ _ (has_kind a BoolTy (d + length before) here h.1) (and_true _ _ test.fits round.fits)) (and_true _ _ test.pointers round.pointers)
    stmt_fits Return d out around in_them at known h = fit_one P ks around _ (exit_fits out.returns around in_them.0) refl
    stmt_fits Break d out around in_them at known h = fit_one P ks around _ (exit_fits out.breaks around in_them.1) refl
    stmt_fits Continue d out around in_them at known h = fit_one P ks around _ (exit_fits out.continues around in_them.2) refl
    stmt_fits (ReturnValue a) d out around in_them at known h =
        fit_append P ks around (code a d) _ (exp_fits around a h.0 d at known h.2)
        (fit_then P ks around _ _ (e.move_fits typed singles checks fp types locals ks locals_at (local_register locals 0) (value_at locals a d) (k.kind_of n singles h.0) (kind_is a h.0 d at h.2) (locals_at 0 h.0 h.1)) refl (fit_one P ks around _ (exit_fits out.returns around in_them.0) refl))
    stmt_fits (Assert a) d out around in_them at known h = fit_append P ks around (code a d) _ (exp_fits around a BoolTy d at known h) (fit_one P ks around _ (has_kind a BoolTy d at h) refl)
    stmt_fits (Error a) d out around in_them at known h = fit_append P ks around (code a d) _ (exp_fits around a TextTy d at known h) (fit_one P ks around _ (has_kind a TextTy d at h) refl)
    stmt_fits (Check es) d out around in_them at known h = checked_fit around es.items d at known h

    block_fits : {m : _} (all : Row_of-Statement m) (d : ℕ) (out : WaysOut) (around : ℕ) → Inside around out → At ks d (kinds_block all) → KnowsBlock n singles all → Fits p types (block_row texts all) → AllFit P ks around (code_block all d out)
    block_fits end_of-Statement d out around in_them at known h = fit_none P ks around
    block_fits (more_of-Statement a rest) d out around in_them at known h =
        fit_append P ks around (code_stmt a d out) _ (stmt_fits a d out around in_them (at_left ks d (kinds_stmt a) (kinds_block rest) at) known.0 h.0)
        (block_fits rest (d + length (kinds_stmt a)) out around in_them (at_right ks d (kinds_stmt a) (kinds_block rest) at) known.1 h.1)

  pub body_fits : (all : List Statement) (d : ℕ) → At ks d (kinds_body all) → KnowsBody n singles all → Fits p types (block_of texts all) → AllFit P ks 1 (code_body all d)
  body_fits [] d at known h = fit_none P ks 1
  body_fits (a ∷ rest) d at known h =
      fit_append P ks 1 (code_stmt a d whole) _ (stmt_fits a d whole 1 (omega arith, omega arith, omega arith) (at_left ks d (kinds_stmt a) (kinds_body rest) at) known.0 h.0)
      (body_fits rest (d + length (kinds_stmt a)) (at_right ks d (kinds_stmt a) (kinds_body rest) at) known.1 h.1)
