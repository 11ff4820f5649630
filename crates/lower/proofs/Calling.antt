-- A call of a function, behind its arguments.
use Rattle.std.proofs.Common.{◌≡◌, ℕ, zero, suc, ◌<◌, ◌≤◌, Bool, true, false, List, [], ◌∷◌, ◌++◌, length, Option, Some, None, refl, sym, ap, ◌∙◌, subst, arith}
use Rattle.std.specs.Prelude.{◌&&◌, slice_get, slice_index, slice_set, map}
use Rattle.std.proofs.lemmas.Option.{slice_get-map}
use Rattle.cells.specs.Outcomes.{Done, Stopped, Cut}
use Rattle.c0_typed.specs.Values.{Value, Void}
use Rattle.c0_typed.specs.Trees as t
use Rattle.c0_typed.specs.Trees.{Program, Ty, VoidTy, IntTy, BoolTy, CharTy, TextTy, StructTy, PointerTy, ArrayTy}
use Rattle.c0_typed.specs.Meaning.{State, Outcome}
use Rattle.c0_typed.specs.Typing.{AreAll, Extends, Is, IsHeap, IsState, Kept}
use Rattle.c0_typed.specs.Views.{function_of, program_of, texts_of, type_of}
use Rattle.c0_typed.proofs.Soundness.{are_more, extends_refl}
use Rattle.c0_typed.specs.declared.tree.ValueType.{ValueType}
use Rattle.c0_typed.specs.declared.tree.Function.{Function}
use Rattle.c0_typed.specs.declared.tree.Typed.{Typed}
use Rattle.code_form.specs.declared.form.Kind.{Kind}
use Rattle.code_form.specs.Code.{args_fit, call_fits, has, result_fits}
use Rattle.code_form.specs.Form.{Head}
use Rattle.middle_form.specs.Form as f
use Rattle.middle_form.specs.Meaning as m
use Rattle.lower.specs.Coded.{Coded}
use Rattle.lower_tables.specs.Kinds.{kind_of}
use Rattle.lower.specs.Lowered.{function_code, lowered, result_kind, with_main_first}
use Rattle.lower_expressions.specs.Expressions.{kind_at, result_register, swapped, type_given}
use Rattle.lower.proofs.Arguments.{AllCoded, CallsOk, Returned, Rowed}
use Rattle.lower.proofs.Joint.{Joint, Lands, joint_on}
use Rattle.lower.proofs.Order.{order}
use Rattle.lower.proofs.Registers.{Matched, and_true, has_it, keeps_less}
use Rattle.lower.proofs.Running.{going_less, set_valued}
use Rattle.lower.proofs.Sides.{Alike, Going, Valued}
use Rattle.lower.proofs.Values.{AreOf, function_there, given_type}

module _ (typed : Typed) (singles : List Kind) (checks : Bool) where
  abbrev p : Program
  p = program_of typed

  abbrev P : f.Program
  P = lowered singles checks typed

  abbrev H : Head
  H = P.head

  abbrev n : ℕ
  n = length p.structs

  -- the code of a function of the text
  abbrev pub its_code : Function → f.Function
  its_code h = function_code p.structs singles (texts_of typed) typed.functions.items typed.main checks h

  -- a function of the text, and its code
  abbrev pub FunctionAt : ℕ → t.Function → Type 0
  FunctionAt k g = (h : Function) × (slice_get typed.functions.items k ≡ Some h) × (g ≡ function_of (texts_of typed) h) × (slice_get P.functions (swapped typed.main k) ≡ Some (its_code h))

  -- it is there
  pub function_at : (k : ℕ) (g main : t.Function) → slice_get p.functions p.main ≡ Some main → slice_get p.functions k ≡ Some g
      → FunctionAt k g
  function_at k g main m e =
      let h = function_there (texts_of typed) typed.functions.items k g e in
      let i = function_there (texts_of typed) typed.functions.items typed.main main m in
      (h.0, h.1, h.2, slice_get-map its_code (with_main_first typed.main typed.functions.items) (swapped typed.main k) ∙ ap (λ z. elim z [ None ↦ None | Some x ↦ Some (its_code x) ]) (order typed.main typed.functions.items k h.0 i.0 i.1 h.1))

  module _ (types : List Ty) (locals : ℕ) (ks : List Kind) where
    args_ok : (ts : List ValueType) (rest : List Kind) (regs : List ℕ) → AreOf typed singles types locals ks (map type_of ts) regs
        → args_fit ks (map (kind_at p.structs singles (texts_of typed) typed.functions.items typed.main) ts ++ rest) (length ts) regs ≡ true
    args_ok [] rest [] h = refl
    args_ok [] rest (a ∷ regs) h = absurd h
    args_ok (x ∷ ts) rest [] h = absurd h
    args_ok (x ∷ ts) rest (a ∷ regs) h = and_true _ _ (has_it ks a (kind_of n singles (type_of x)) h.0) (args_ok ts rest regs h.1)

    result_ok : (ty : Ty) (d : ℕ) → slice_get ks d ≡ Some (kind_of n singles ty) → result_fits ks (result_kind n singles ty) (result_register ty d) ≡ true
    result_ok VoidTy d h = refl
    result_ok IntTy d h = has_it ks d _ h
    result_ok BoolTy d h = has_it ks d _ h
    result_ok CharTy d h = has_it ks d _ h
    result_ok TextTy d h = has_it ks d _ h
    result_ok (StructTy j) d h = has_it ks d _ h
    result_ok (PointerTy u) d h = has_it ks d _ h
    result_ok (ArrayTy u) d h = has_it ks d _ h

    given : (ty : Ty) (d b : ℕ) (v : Value) (cell : ℕ) (made : List Kept) (s : State) (rs xs : List ℕ) (w : m.State) → suc locals ≤ d → d ≤ b → d < length rs → Going p H types locals b rs made s xs w → Is p made ty v → Coded H v cell
        → Valued p H types locals d ty d rs made v s (0, m.gives (result_register ty d) cell xs) w
    given VoidTy d b v cell made s rs xs w low le sh g i c = record { falls = refl; is = i; coded = subst (λ z. Coded H z (slice_index xs d)) (sym i) tt; going = going_less p H types locals d b rs xs made s w le g }
    given IntTy d b v cell made s rs xs w low le sh g i c = set_valued p H types locals d b rs xs IntTy v cell made s w low le sh g i c
    given BoolTy d b v cell made s rs xs w low le sh g i c = set_valued p H types locals d b rs xs BoolTy v cell made s w low le sh g i c
    given CharTy d b v cell made s rs xs w low le sh g i c = set_valued p H types locals d b rs xs CharTy v cell made s w low le sh g i c
    given TextTy d b v cell made s rs xs w low le sh g i c = set_valued p H types locals d b rs xs TextTy v cell made s w low le sh g i c
    given (StructTy j) d b v cell made s rs xs w low le sh g i c = absurd i
    given (PointerTy u) d b v cell made s rs xs w low le sh g i c = set_valued p H types locals d b rs xs (PointerTy u) v cell made s w low le sh g i c
    given (ArrayTy u) d b v cell made s rs xs w low le sh g i c = set_valued p H types locals d b rs xs (ArrayTy u) v cell made s w low le sh g i c

    -- a call of a function with these arguments
    pub called_ok : (call : ℕ → List Value → State → Outcome Value) (call' : ℕ → List ℕ → m.State → m.Outcome ℕ) → CallsOk typed singles checks call call' → (main : t.Function) → slice_get p.functions p.main ≡ Some main → (k : ℕ) (g : t.Function) (regs : List ℕ) (d : ℕ) (vs : List Value) (made : List Kept) (s : State) (rs xs : List ℕ) (w : m.State)
        → suc locals ≤ d → d < length rs → slice_get p.functions k ≡ Some g → slice_get ks d ≡ Some (kind_of n singles g.result) → AreOf typed singles types locals ks g.parameters regs → Rowed typed singles checks types locals ks g.parameters regs (suc d) rs made vs s (0, xs) w
        → Joint made (Valued p H types locals d g.result d rs) (call k vs s) (m.run P call' ks (f.Call (result_register (type_given p.structs singles (texts_of typed) typed.functions.items typed.main typed.functions.items k) d) (swapped typed.main k) regs) xs w)
    called_ok call call' calls_ok main ism k g regs d vs made s rs xs w low sh e kd are h =
        subst (λ z. Joint made (Valued p H types locals d g.result d rs) (call k vs s) (m.run P call' ks (f.Call (result_register z d) (swapped typed.main k) regs) xs w)) (sym (given_type typed singles types locals ks typed.functions.items k g e))
        (subst (λ z. Joint made (Valued p H types locals d g.result d rs) (call k vs s) z) (sym runs)
        (joint_on made (Returned typed singles checks g s) (Valued p H types locals d g.result d rs) (call k vs s) (call' (swapped typed.main k) (map (slice_index xs) regs) w) (λ v y. m.on (m.gives (result_register g.result d) v xs) y)
        (calls_ok k g made vs (map (slice_index xs) regs) s w e h.are h.coded h.going.state.0 h.going.alike)
        (λ new v u cell y ex r. (new, extends_refl new, given g.result d (suc d) v cell new u rs xs y low (omega arith) sh (behind new v u cell y ex r) r.is r.coded))))
      where
        there : FunctionAt k g
        there = function_at k g main ism e

        fits : call_fits ks (its_code there.0).result (its_code there.0).parameters (its_code there.0).kinds (result_register g.result d) regs ≡ true
        fits =
            and_true _ _ (args_ok there.0.parameters.items _ regs (subst (λ (z : t.Function). AreOf typed singles types locals ks z.parameters regs) there.2 are))
            (subst (λ (z : t.Function). result_fits ks (result_kind n singles z.result) (result_register g.result d) ≡ true) there.2 (result_ok g.result d kd))

        runs : m.run P call' ks (f.Call (result_register g.result d) (swapped typed.main k) regs) xs w ≡ m.then_do (call' (swapped typed.main k) (map (slice_index xs) regs) w) (λ v y. m.on (m.gives (result_register g.result d) v xs) y)
        runs =
            ap (λ z. m.called P call' ks z (result_register g.result d) (swapped typed.main k) regs xs w) there.3
            ∙ ap (λ z. m.where_so z (m.then_do (call' (swapped typed.main k) (map (slice_index xs) regs) w) (λ v y. m.on (m.gives (result_register g.result d) v xs) y))) fits

        behind : (new : List Kept) (v : Value) (u : State) (cell : ℕ) (y : m.State) → Extends made new → Returned typed singles checks g s new v u cell y → Going p H types locals (suc d) rs new u xs y
        behind new v u cell y ex r = record {
          state = (r.heap, subst (λ l. AreAll p new types l) (sym r.locals) (are_more p made new ex types s.locals h.going.state.1));
          keeps = h.going.keeps;
          long = h.going.long;
          matched = subst (λ l. Matched H locals l xs) (sym r.locals) h.going.matched;
          alike = r.alike;
        }
