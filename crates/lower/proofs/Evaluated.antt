-- By induction: each expression, each row of arguments and each place comes to the same as its code.
use Rattle.std.proofs.Common.{Box, Global, Vec, ◌≡◌, ◌≢◌, ℕ, zero, suc, ◌+◌, ◌<◌, ◌≤◌, inl, inr, Bool, true, false, List, [], ◌∷◌, ◌++◌, length, Option, Some, None, pos, refl, sym, ap, ◌∙◌, subst, arith}
use Rattle.std.specs.Prelude.{slice_get, slice_index, map}
use Rattle.std.proofs.lemmas.List.{length-append}
use Rattle.cells.specs.Outcomes.{Done, Stopped, Cut, then_do}
use Rattle.c0_typed.specs.Values.{Value, Number, Ref, Void, Tree, Spot, array_length, as_number, as_ref, as_truth, load}
use Rattle.c0_typed.specs.Trees as t
use Rattle.c0_typed.specs.Trees.{Program, Ty, VoidTy, IntTy, BoolTy, StructTy, PointerTy, ArrayTy}
use Rattle.c0_typed.specs.Meaning.{State, Outcome, allocate, allocate_array, default, element, pointed, printed, eval, evals, if_true, local, locate, struct_defaults}
use Rattle.c0_typed.specs.Typing.{AreAll, Extends, FitsProgram, FreshSound, Has, HasAll, Holds, Is, IsPlace, Kept, output_types, unary_type}
use Rattle.c0_typed.specs.Views.{exp_of, output_of, place_of, program_of, relation_of, row_of, texts_of, type_of, unary_of}
use Rattle.c0_typed.proofs.Soundness.{are_more, extends_refl, is_more, local_is}
use Rattle.cells.specs.declared.int32.Int32Op.{Int32Op}
use Rattle.c0_typed.specs.declared.tree.Constant.{Constant as ConstantValue}
use Rattle.c0_typed.specs.declared.tree.Output.{Output}
use Rattle.c0_typed.specs.declared.tree.Relation.{Relation}
use Rattle.c0_typed.specs.declared.tree.UnaryOperator.{UnaryOperator}
use Rattle.c0_typed.specs.declared.tree.ValueType.{ValueType}
use Rattle.c0_typed.specs.declared.tree.Expression.{Expression, Row_of-Expression, end_of-Expression, more_of-Expression, At', Constant, Null, Local, Unary', Binary', Compare', And', Or', Choose', Call', Print', Load', Alloc, AllocArray', Length'}
use Rattle.c0_typed.specs.declared.tree.Place.{Place, Deref', Index', Field'}
use Rattle.c0_typed.specs.declared.tree.Typed.{Typed}
use Rattle.code_form.specs.declared.form.Kind.{Kind}
use Rattle.code_form.specs.declared.form.Kind.TheVariants as kind
use Rattle.code_form.specs.declared.form.Operation.TheVariants as op
use Rattle.code_form.specs.Code.{if_zero, is_reference, on_kind, op_fits}
use Rattle.code_form.specs.Form.{Head}
use Rattle.middle_form.specs.Form.{Code}
use Rattle.middle_form.specs.Form as f
use Rattle.middle_form.specs.Meaning as m
use Rattle.lower.specs.Coded.{Coded}
use Rattle.lower_tables.specs.Kinds as k
use Rattle.lower_tables.specs.Known.{Knows, KnowsPlace, KnowsRow}
use Rattle.lower.specs.Lowered.{lowered}
use Rattle.lower_expressions.specs.Expressions.{code_relation, layout_at, local_register, moved, place_code, place_kinds, print_code, result_register, row_at, row_code, row_kinds, sequence, swapped, type_given, value_at}
use Rattle.lower.proofs.Joint.{Joint, joint_done, joint_from, joint_if, joint_on, joint_then, joint_then_done, run_append, run_one}
use Rattle.lower.proofs.Operators.{coded_truth}
use Rattle.lower.proofs.Registers.{At, Matched, and_true, has_it, at_head, at_left, at_right, at_tail, matched_keep}
use Rattle.lower.proofs.Running.{going_less, going_start, going_then}
use Rattle.lower.proofs.Sides.{Alike, Going, HeapFacts, Valued, joint_valued}
use Rattle.lower.proofs.Values.{AreOf, LocalsAt, local_there, row_of_kinds, value_apart, value_before, value_kind}
use Rattle.lower.proofs.Arguments.{AllCoded, CallsOk, Rowed, output_ok}
use Rattle.lower.proofs.Calling.{called_ok}
use Rattle.lower.proofs.Accesses.{alloc_ok, array_ok, field_ok, length_ok, load_ok}
use Rattle.lower.proofs.Expressions as e
use Rattle.lower.proofs.Evaluating as v
use Rattle.lower.proofs.Places as places
use Rattle.lower.proofs.Places.{Placed, element_ok, pointed_ok}

module _ (typed : Typed) (singles : List Kind) (checks : Bool) (call : ℕ → List Value → State → Outcome Value) (call' : ℕ → List ℕ → m.State → m.Outcome ℕ) (types : List Ty) (locals : ℕ) (ks : List Kind)
    (locals_at : LocalsAt typed singles types locals ks) (long_types : length types ≡ suc locals) (fp : FitsProgram (program_of typed)) (fresh : FreshSound) (facts : HeapFacts (program_of typed) singles (lowered singles checks typed).head)
    (calls_ok : CallsOk typed singles checks call call') where
  abbrev p : Program
  p = program_of typed

  abbrev P : f.Program
  P = lowered singles checks typed

  abbrev H : Head
  H = P.head

  abbrev n : ℕ
  n = length p.structs

  abbrev ds : List Tree
  ds = struct_defaults [] p.structs

  abbrev texts : List (List ℕ)
  texts = texts_of typed

  abbrev kinds : Expression → List Kind
  kinds a = e.kinds typed singles checks call call' types locals ks a

  abbrev kinds_row : {i : _} → Row_of-Expression i → List Kind
  kinds_row es = row_kinds p.structs singles (texts_of typed) typed.functions.items typed.main es

  abbrev pub kinds_place : Place → List Kind
  kinds_place q = place_kinds p.structs singles (texts_of typed) typed.functions.items typed.main q

  abbrev code : Expression → ℕ → List Code
  code a d = e.code typed singles checks call call' types locals ks a d

  abbrev code_row : {i : _} → Row_of-Expression i → ℕ → List Code
  code_row es d = row_code p.structs singles (texts_of typed) typed.functions.items typed.main locals es d

  abbrev pub code_place : Place → ℕ → List Code
  code_place q d = place_code p.structs singles (texts_of typed) typed.functions.items typed.main locals q d

  abbrev at_row : {i : _} → Row_of-Expression i → ℕ → List ℕ
  at_row es d = row_at p.structs singles (texts_of typed) typed.functions.items typed.main locals es d

  abbrev Runs : List Code → List ℕ → m.State → m.Outcome m.Left
  Runs cs rs w = m.run P call' ks (sequence cs) rs w

  abbrev Goes : ℕ → List ℕ → List Kept → State → List ℕ → m.State → Type 0
  Goes d rs made s xs w = Going p H types locals d rs made s xs w

  abbrev Gives : ℕ → Ty → ℕ → List ℕ → List Kept → Value → State → m.Left → m.State → Type 0
  Gives r t d rs made v s x w = Valued p H types locals r t d rs made v s x w

  abbrev Rows : List Ty → List ℕ → ℕ → List ℕ → List Kept → List Value → State → m.Left → m.State → Type 0
  Rows ts regs d rs made vs s x w = Rowed typed singles checks types locals ks ts regs d rs made vs s x w

  abbrev pub Finds : Place → Ty → ℕ → List ℕ → List Kept → Spot → State → m.Left → m.State → Type 0
  Finds q u d rs made at s x w = Placed typed singles checks call call' types locals ks q u d rs made at s x w

  abbrev pub ExpOk : Expression → Type 0
  ExpOk a = e.ExpOk typed singles checks call call' types locals ks a

  abbrev RowOk : {i : _} → Row_of-Expression i → Type 0
  RowOk es = (ts : List Ty) (d : ℕ) (made : List Kept) (s : State) (rs : List ℕ) (w : m.State) → suc locals ≤ d → At ks d (kinds_row es) → length rs ≡ length ks → KnowsRow n singles es → HasAll p types (row_of texts es) ts → Goes d rs made s rs w
      → Joint made (Rows ts (at_row es d) d rs) (evals ds call (row_of texts es) s) (Runs (code_row es d) rs w)

  abbrev pub PlaceOk : Place → Type 0
  PlaceOk q = (u : Ty) (d : ℕ) (made : List Kept) (s : State) (rs : List ℕ) (w : m.State) → suc locals ≤ d → At ks d (kinds_place q) → length rs ≡ length ks → KnowsPlace n singles q → Holds p types (place_of texts q) u → Goes d rs made s rs w
      → Joint made (Finds q u d rs) (locate ds call (place_of texts q) s) (Runs (code_place q d) rs w)

  -- one expression behind another
  then_exp : {C : Type 0} (a : Expression) (t : Ty) (d : ℕ) (made : List Kept) (s : State) (rs : List ℕ) (w : m.State) (rest : List Code) (go : Value → State → Outcome C) (S : List Kept → C → State → m.Left → m.State → Type 0)
      → Joint made (Gives (value_at locals a d) t d rs) (eval ds call (exp_of texts a) s) (Runs (code a d) rs w)
      → ((new : List Kept) (x : Value) (y : State) (xs : List ℕ) (z : m.State) → Extends made new → Is p new t x → Coded H x (slice_index xs (value_at locals a d)) → Goes d rs new y xs z → Joint new S (go x y) (Runs rest xs z))
      → Joint made S (then_do (eval ds call (exp_of texts a) s) go) (Runs (code a d ++ rest) rs w)
  then_exp a t d made s rs w rest go S h next = e.exp_then typed singles checks call call' types locals ks a t d made s rs w rest go S h next

  -- a row, and what follows it
  then_row : {C : Type 0} {i : _} (es : Row_of-Expression i) (ts : List Ty) (d : ℕ) (made : List Kept) (s : State) (rs : List ℕ) (w : m.State) (rest : List Code) (go : List Value → State → Outcome C) (S : List Kept → C → State → m.Left → m.State → Type 0)
      → Joint made (Rows ts (at_row es d) d rs) (evals ds call (row_of texts es) s) (Runs (code_row es d) rs w)
      → ((new : List Kept) (x : List Value) (y : State) (xs : List ℕ) (z : m.State) → Extends made new → Rows ts (at_row es d) d rs new x y (0, xs) z → Joint new S (go x y) (Runs rest xs z))
      → Joint made S (then_do (evals ds call (row_of texts es) s) go) (Runs (code_row es d ++ rest) rs w)
  then_row es ts d made s rs w rest go S h next =
      subst (λ z. Joint made S (then_do (evals ds call (row_of texts es) s) go) z) (sym (run_append P call' ks (code_row es d) rest rs w))
      (joint_then made (Rows ts (at_row es d) d rs) S _ _ go (m.falls (m.run P call' ks (sequence rest))) h (λ new x y b z ex r. on new x y b z ex r))
    where
      on : (new : List Kept) (x : List Value) (y : State) (b : m.Left) (z : m.State) → Extends made new → Rows ts (at_row es d) d rs new x y b z → Joint new S (go x y) (m.falls (m.run P call' ks (sequence rest)) b z)
      on new x y (zero, xs) z ex r = next new x y xs z ex r
      on new x y (suc i, xs) z ex r = let q = r.falls in absurd (cc q)

  -- a place, and what follows it
  pub then_place : {C : Type 0} (q : Place) (u : Ty) (d : ℕ) (made : List Kept) (s : State) (rs : List ℕ) (w : m.State) (rest : List Code) (go : Spot → State → Outcome C) (S : List Kept → C → State → m.Left → m.State → Type 0)
      → Joint made (Finds q u d rs) (locate ds call (place_of texts q) s) (Runs (code_place q d) rs w)
      → ((new : List Kept) (x : Spot) (y : State) (xs : List ℕ) (z : m.State) → Extends made new → Finds q u d rs new x y (0, xs) z → Joint new S (go x y) (Runs rest xs z))
      → Joint made S (then_do (locate ds call (place_of texts q) s) go) (Runs (code_place q d ++ rest) rs w)
  then_place q u d made s rs w rest go S h next =
      subst (λ z. Joint made S (then_do (locate ds call (place_of texts q) s) go) z) (sym (run_append P call' ks (code_place q d) rest rs w))
      (joint_then made (Finds q u d rs) S _ _ go (m.falls (m.run P call' ks (sequence rest))) h (λ new x y b z ex r. on new x y b z ex r))
    where
      on : (new : List Kept) (x : Spot) (y : State) (b : m.Left) (z : m.State) → Extends made new → Finds q u d rs new x y b z → Joint new S (go x y) (m.falls (m.run P call' ks (sequence rest)) b z)
      on new x y (zero, xs) z ex r = next new x y xs z ex r
      on new x y (suc i, xs) z ex r = let j = r.falls in absurd (cc j)

  short : (d : ℕ) (x : Kind) (rest : List Kind) (rs : List ℕ) → At ks d (x ∷ rest) → length rs ≡ length ks → d < length rs
  short d x rest rs a long = e.short typed singles checks call call' types locals ks d x rest rs a long

  kind_at : (a : Expression) (t : Ty) (d : ℕ) → At ks d (kinds a) → Has p types (exp_of texts a) t → slice_get ks (value_at locals a d) ≡ Some (k.kind_of n singles t)
  kind_at a t d at h = value_kind typed singles types locals ks locals_at a t d at h

  start : (d b : ℕ) (rs xs : List ℕ) (made : List Kept) (s : State) (w : m.State) → Goes d rs made s xs w → Goes b xs made s xs w
  start d b rs xs made s w g = going_start p H types locals d b rs xs made s w g

  as_type : (made : List Kept) (t u : Ty) (r d : ℕ) (rs : List ℕ) (o : Outcome Value) (x : m.Outcome m.Left) → t ≡ u → Joint made (Gives r u d rs) o x → Joint made (Gives r t d rs) o x
  as_type made t u r d rs o x q h = subst (λ z. Joint made (Gives r z d rs) o x) (sym q) h

  as_place : (made : List Kept) (u t : Ty) (q : Place) (d : ℕ) (rs : List ℕ) (o : Outcome Spot) (x : m.Outcome m.Left) → u ≡ t → Joint made (Finds q t d rs) o x → Joint made (Finds q u d rs) o x
  as_place made u t q d rs o x e h = subst (λ z. Joint made (Finds q z d rs) o x) (sym e) h

  -- one part of code alone
  one_last : {A : Type 0} (made : List Kept) (S : List Kept → A → State → m.Left → m.State → Type 0) (o : Outcome A) (x : Code) (xs : List ℕ) (w : m.State) → Joint made S o (m.run P call' ks x xs w) → Joint made S o (Runs (x ∷ []) xs w)
  one_last made S o x xs w h = subst (λ z. Joint made S o z) (sym (run_one P call' ks x xs w)) h

  constant_case : (x : ConstantValue) → ExpOk (Constant x)
  constant_case x t d made s rs w low at long kn h g = v.constant_ok typed singles checks call call' types locals ks locals_at long_types x t d made s rs w low at long h g

  null_case : (ty : ValueType) → ExpOk (Null ty)
  null_case ty t d made s rs w low at long kn h g =
      as_type made t (PointerTy (type_of ty)) d d rs (Done (Ref 0) s) (Runs (code (Null ty) d) rs w) h
      (e.sets_last typed singles checks call call' types locals ks (op.Null d) (PointerTy (type_of ty)) d d (Ref 0) 0 made s rs rs w low (omega arith) (short d _ [] rs at long) g (0, refl, inl refl) refl (ap (on_kind is_reference) (at_head ks d _ [] at)) refl)

  local_value_case : (x : ℕ) → ExpOk (Local x)
  local_value_case x t d made s rs w low at long kn h g =
      joint_done made (Gives (local_register locals x) t d rs) (local x s) s (0, rs) w
      (record { falls = refl; is = local_is p made types s.locals x t g.state.1 h; coded = g.matched x (local_there typed singles types locals ks long_types x t h); going = g })

  unary_case : (o : UnaryOperator) (q : Box (Unit {0}) Global) (b : Expression) → ExpOk b → ExpOk (Unary' o q b)
  unary_case o q b ok_b t d made s rs w low at long kn h g =
      let after = at_tail ks d _ (kinds b) at in
      as_type made t (unary_type (unary_of o)) d d rs _ _ h.0
      (then_exp b (unary_type (unary_of o)) (suc d) made s rs w _ _ (Gives d (unary_type (unary_of o)) d rs) (ok_b (unary_type (unary_of o)) (suc d) made s rs w (omega arith) after long kn h.1 (start d (suc d) rs rs made s w g))
      (λ new x y xs z ex i c r. v.unary_last typed singles checks call call' types locals ks locals_at long_types o b d x new y rs xs z low at long h.1 r i c))

  binary_case : (o : Int32Op) (q : Box (Unit {0}) Global) (a : Expression) (r : Box (Unit {0}) Global) (b : Expression) → ExpOk a → ExpOk b → ExpOk (Binary' o q a r b)
  binary_case o q a r b ok_a ok_b t d made s rs w low at long kn h g =
      let b' : ℕ = suc d + length (kinds a) in
      let after = at_tail ks d _ (kinds a ++ kinds b) at in
      let at_a = at_left ks (suc d) (kinds a) (kinds b) after in
      let at_b = at_right ks (suc d) (kinds a) (kinds b) after in
      as_type made t IntTy d d rs _ _ h.0
      (then_exp a IntTy (suc d) made s rs w _ _ (Gives d IntTy d rs) (ok_a IntTy (suc d) made s rs w (omega arith) at_a long kn.0 h.1 (start d (suc d) rs rs made s w g)) (λ new x y xs z ex i c g1.
      then_exp b IntTy b' new y xs z _ _ (Gives d IntTy d rs) (ok_b IntTy b' new y xs z (omega arith) at_b (g1.long ∙ long) kn.1 h.2 (start (suc d) b' rs xs new y z g1)) (λ more x2 y2 ys z2 ex2 i2 c2 g2.
      e.binary_last typed singles checks call call' types locals ks o d (suc d) (value_at locals a (suc d)) (value_at locals b b') x x2 more y2 rs ys z2 low (omega arith) (short d _ (kinds a ++ kinds b) rs at long)
      (going_then p H types locals (suc d) b' rs xs ys new more y y2 z z2 (omega arith) g1 g2) (is_more p new more ex2 IntTy x i) i2 (v.still typed singles checks call call' types locals ks locals_at long_types a IntTy (suc d) x more y2 xs ys z2 (omega arith) h.1 c g2) c2
      (and_true _ _ (has_it ks d kind.Int (at_head ks d kind.Int _ at)) (and_true _ _ (has_it ks _ kind.Int (kind_at a IntTy (suc d) at_a h.1)) (has_it ks _ kind.Int (kind_at b IntTy b' at_b h.2)))))))

  compare_case : (ty : ValueType) (o : Relation) (q : Box (Unit {0}) Global) (a : Expression) (r : Box (Unit {0}) Global) (b : Expression) → ExpOk a → ExpOk b → ExpOk (Compare' ty o q a r b)
  compare_case ty o q a r b ok_a ok_b t d made s rs w low at long kn h g =
      let u : Ty = type_of ty in
      let b' : ℕ = suc d + length (kinds a) in
      let after = at_tail ks d _ (kinds a ++ kinds b) at in
      let at_a = at_left ks (suc d) (kinds a) (kinds b) after in
      let at_b = at_right ks (suc d) (kinds a) (kinds b) after in
      as_type made t BoolTy d d rs _ _ h.0
      (then_exp a u (suc d) made s rs w _ _ (Gives d BoolTy d rs) (ok_a u (suc d) made s rs w (omega arith) at_a long kn.0 h.2 (start d (suc d) rs rs made s w g)) (λ new x y xs z ex i c g1.
      then_exp b u b' new y xs z _ _ (Gives d BoolTy d rs) (ok_b u b' new y xs z (omega arith) at_b (g1.long ∙ long) kn.1 h.3 (start (suc d) b' rs xs new y z g1)) (λ more x2 y2 ys z2 ex2 i2 c2 g2.
      v.compare_last typed singles checks call call' types locals ks locals_at long_types o u d (suc d) (value_at locals a (suc d)) (value_at locals b b') x x2 more y2 rs ys z2 low (omega arith) (short d _ (kinds a ++ kinds b) rs at long)
      (at_head ks d kind.Bool _ at) (kind_at a u (suc d) at_a h.2) (kind_at b u b' at_b h.3) h.1
      (going_then p H types locals (suc d) b' rs xs ys new more y y2 z z2 (omega arith) g1 g2) (is_more p new more ex2 u x i) i2 (v.still typed singles checks call call' types locals ks locals_at long_types a u (suc d) x more y2 xs ys z2 (omega arith) h.2 c g2) c2)))

  and_case : (q : Box (Unit {0}) Global) (a : Expression) (r : Box (Unit {0}) Global) (b : Expression) → ExpOk a → ExpOk b → ExpOk (And' q a r b)
  and_case q a r b ok_a ok_b t d made s rs w low at long kn h g =
      let b' : ℕ = suc d + length (kinds a) in
      let after = at_tail ks d _ (kinds a ++ kinds b) at in
      let at_a = at_left ks (suc d) (kinds a) (kinds b) after in
      let at_b = at_right ks (suc d) (kinds a) (kinds b) after in
      as_type made t BoolTy d d rs _ _ h.0
      (then_exp a BoolTy (suc d) made s rs w _ _ (Gives d BoolTy d rs) (ok_a BoolTy (suc d) made s rs w (omega arith) at_a long kn.0 h.1 (start d (suc d) rs rs made s w g)) (λ new x y xs z ex i c g1.
      v.and_ok typed singles checks call call' types locals ks locals_at long_types (value_at locals a (suc d)) b d b' x new y rs xs z (ok_b) low (omega arith) (short d _ (kinds a ++ kinds b) rs at long) long (at_head ks d kind.Bool _ at) (kind_at a BoolTy (suc d) at_a h.1) at_b kn.1 h.2 g1 i c))

  or_case : (q : Box (Unit {0}) Global) (a : Expression) (r : Box (Unit {0}) Global) (b : Expression) → ExpOk a → ExpOk b → ExpOk (Or' q a r b)
  or_case q a r b ok_a ok_b t d made s rs w low at long kn h g =
      let b' : ℕ = suc d + length (kinds a) in
      let after = at_tail ks d _ (kinds a ++ kinds b) at in
      let at_a = at_left ks (suc d) (kinds a) (kinds b) after in
      let at_b = at_right ks (suc d) (kinds a) (kinds b) after in
      as_type made t BoolTy d d rs _ _ h.0
      (then_exp a BoolTy (suc d) made s rs w _ _ (Gives d BoolTy d rs) (ok_a BoolTy (suc d) made s rs w (omega arith) at_a long kn.0 h.1 (start d (suc d) rs rs made s w g)) (λ new x y xs z ex i c g1.
      v.or_ok typed singles checks call call' types locals ks locals_at long_types (value_at locals a (suc d)) b d b' x new y rs xs z (ok_b) low (omega arith) (short d _ (kinds a ++ kinds b) rs at long) long (at_head ks d kind.Bool _ at) (kind_at a BoolTy (suc d) at_a h.1) at_b kn.1 h.2 g1 i c))

  conditional_case : (ty : ValueType) (q : Box (Unit {0}) Global) (a : Expression) (r : Box (Unit {0}) Global) (b : Expression) (x : Box (Unit {0}) Global) (c : Expression) → ExpOk a → ExpOk b → ExpOk c → ExpOk (Choose' ty q a r b x c)
  conditional_case ty q a r b x c ok_a ok_b ok_c t d made s rs w low at long kn h g =
      let u : Ty = type_of ty in
      let b' : ℕ = suc d + length (kinds a) in
      let c' : ℕ = suc d + length (kinds a) + length (kinds b) in
      let after = at_tail ks d _ (kinds a ++ (kinds b ++ kinds c)) at in
      let at_a = at_left ks (suc d) (kinds a) (kinds b ++ kinds c) after in
      let behind = at_right ks (suc d) (kinds a) (kinds b ++ kinds c) after in
      let at_b = at_left ks b' (kinds b) (kinds c) behind in
      let at_c = at_right ks b' (kinds b) (kinds c) behind in
      let sh = short d _ (kinds a ++ (kinds b ++ kinds c)) rs at long in
      let kd = at_head ks d _ (kinds a ++ (kinds b ++ kinds c)) at in
      as_type made t u d d rs _ _ h.0
      (then_exp a BoolTy (suc d) made s rs w _ _ (Gives d u d rs) (ok_a BoolTy (suc d) made s rs w (omega arith) at_a long kn.0 h.1 (start d (suc d) rs rs made s w g)) (λ new y y1 xs z ex i co g1.
      let less = going_less p H types locals d (suc d) rs xs new y1 z (omega arith) g1 in
      subst (λ o. Joint new (Gives d u d rs) (if_true y (eval ds call (exp_of texts b) y1) (eval ds call (exp_of texts c) y1)) o)
      (sym (v.choose_runs typed singles checks call call' types locals ks locals_at long_types (value_at locals a (suc d)) (sequence (moved locals b (code b b') b' d)) (sequence (moved locals c (code c c') c' d)) xs z (kind_at a BoolTy (suc d) at_a h.1)))
      (joint_if new (Gives d u d rs) y (slice_index xs (value_at locals a (suc d))) _ _ (Runs (moved locals b (code b b') b' d) xs z) (Runs (moved locals c (code c c') c' d) xs z) (coded_truth H p new y (slice_index xs (value_at locals a (suc d))) i co)
      (v.arm_ok typed singles checks call call' types locals ks locals_at long_types b u d b' new y1 rs xs z (ok_b) low (omega arith) sh long kd at_b kn.1 h.2 less)
      (v.arm_ok typed singles checks call call' types locals ks locals_at long_types c u d c' new y1 rs xs z (ok_c) low (omega arith) sh long kd at_c kn.2 h.3 less))))

  call_of_case : (i : ℕ) (shape : Vec (Unit {0}) Global) (es : Row_of-Expression _) → RowOk es → ExpOk (Call' i shape es)
  call_of_case i shape es ok t d made s rs w low at long kn h g =
      let after = at_tail ks d _ (kinds_row es) at in
      as_type made t h.0.result d d rs _ _ h.2
      (then_row es h.0.parameters (suc d) made s rs w _ _ (Gives d h.0.result d rs) (ok h.0.parameters (suc d) made s rs w (omega arith) after long kn h.3 (start d (suc d) rs rs made s w g)) (λ new x y xs z ex r.
      one_last new (Gives d h.0.result d rs) (call i x y) (f.Call (result_register (type_given p.structs singles (texts_of typed) typed.functions.items typed.main typed.functions.items i) d) (swapped typed.main i) (at_row es (suc d))) xs z
      (called_ok typed singles checks types locals ks call call' calls_ok fp.main.0 fp.main.1 i h.0 (at_row es (suc d)) d x new y rs xs z low (short d _ (kinds_row es) rs at long) h.1
      (kind_at (Call' i shape es) h.0.result d at (h.0, h.1, refl, h.3)) (row_of_kinds typed singles types locals ks locals_at es h.0.parameters (suc d) after h.3) r)))

  print_case : (out : Output) (shape : Vec (Unit {0}) Global) (es : Row_of-Expression _) → RowOk es → ExpOk (Print' out shape es)
  print_case out shape es ok t d made s rs w low at long kn h g =
      let after = at_tail ks d _ (kinds_row es) at in
      as_type made t VoidTy d d rs _ _ h.0
      (then_row es (output_types (output_of out)) (suc d) made s rs w _ _ (Gives d VoidTy d rs) (ok (output_types (output_of out)) (suc d) made s rs w (omega arith) after long kn h.1 (start d (suc d) rs rs made s w g)) (λ new x y xs z ex r.
      one_last new (Gives d VoidTy d rs) (Done Void (record y { output = y.output ++ printed (output_of out) x })) (f.Do (print_code out (at_row es (suc d)))) xs z
      (output_ok typed singles checks types locals ks call' out (at_row es (suc d)) d x new y rs xs z (row_of_kinds typed singles types locals ks locals_at es (output_types (output_of out)) (suc d) after h.1) r)))

  read_case : (ty : ValueType) (q : Box (Unit {0}) Global) (pl : Place) → PlaceOk pl → ExpOk (Load' ty q pl)
  read_case ty q pl ok_pl t d made s rs w low at long kn h g =
      let u : Ty = type_of ty in
      as_type made t u d d rs _ _ h.0
      (then_place pl u (suc d) made s rs w _ _ (Gives d u d rs) (ok_pl u (suc d) made s rs w (omega arith) (at_tail ks d _ (kinds_place pl) at) long kn h.2 (start d (suc d) rs rs made s w g)) (λ new x y xs z ex r.
      one_last new (Gives d u d rs) (Done (load y.heap x) y) (f.Load d (places.base typed singles checks call call' types locals ks pl (suc d)) (places.off typed singles checks call call' types locals ks pl (suc d)) (places.shift typed singles checks call call' types locals ks pl)) xs z
      (load_ok typed singles checks call call' types locals ks facts pl u (suc d) 0 d rs xs new x y z low (omega arith) (short d _ (kinds_place pl) rs at long) h.1 (at_head ks d _ (kinds_place pl) at) r)))

  alloc_case : (ty : ValueType) → ExpOk (Alloc ty)
  alloc_case ty t d made s rs w low at long kn h g =
      as_type made t (PointerTy (type_of ty)) d d rs (allocate (default ds (type_of ty)) s) (Runs (code (Alloc ty) d) rs w) h.0
      (one_last made (Gives d (PointerTy (type_of ty)) d rs) (allocate (default ds (type_of ty)) s) (f.Do (op.Alloc d (k.layout_number n singles (type_of ty)))) rs w
      (alloc_ok typed singles checks call call' types locals ks facts fresh fp ty d rs rs made s w low (short d _ [] rs at long) h.1 kn (at_head ks d _ [] at) g))

  alloc_array_case : (ty : ValueType) (q : Box (Unit {0}) Global) (a : Expression) → ExpOk a → ExpOk (AllocArray' ty q a)
  alloc_array_case ty q a ok_a t d made s rs w low at long kn h g =
      let after = at_tail ks d _ (kinds a) at in
      as_type made t (ArrayTy (type_of ty)) d d rs _ _ h.0
      (then_exp a IntTy (suc d) made s rs w _ _ (Gives d (ArrayTy (type_of ty)) d rs) (ok_a IntTy (suc d) made s rs w (omega arith) after long kn.1 h.2 (start d (suc d) rs rs made s w g)) (λ new x y xs z ex i c g1.
      one_last new (Gives d (ArrayTy (type_of ty)) d rs) (allocate_array (default ds (type_of ty)) (as_number x) y) (f.Do (op.AllocArray d (k.layout_number n singles (type_of ty)) (value_at locals a (suc d)))) xs z
      (array_ok typed singles checks call call' types locals ks facts fresh fp ty d (suc d) (value_at locals a (suc d)) x rs xs new y z low (omega arith) (short d _ (kinds a) rs at long) h.1 kn.0 (at_head ks d _ (kinds a) at) (kind_at a IntTy (suc d) after h.2) g1 i c)))

  length_of_case : (ty : ValueType) (q : Box (Unit {0}) Global) (a : Expression) → ExpOk a → ExpOk (Length' ty q a)
  length_of_case ty q a ok_a t d made s rs w low at long kn h g =
      let after = at_tail ks d _ (kinds a) at in
      as_type made t IntTy d d rs _ _ h.0
      (then_exp a (ArrayTy (type_of ty)) (suc d) made s rs w _ _ (Gives d IntTy d rs) (ok_a (ArrayTy (type_of ty)) (suc d) made s rs w (omega arith) after long kn h.1 (start d (suc d) rs rs made s w g)) (λ new x y xs z ex i c g1.
      one_last new (Gives d IntTy d rs) (Done (Number (pos (array_length y.heap (as_ref x)))) y) (f.Do (op.Len d (value_at locals a (suc d)))) xs z
      (length_ok typed singles checks call call' types locals ks facts (type_of ty) d (suc d) (value_at locals a (suc d)) x rs xs new y z low (omega arith) (short d _ (kinds a) rs at long) (at_head ks d _ (kinds a) at) (kind_at a (ArrayTy (type_of ty)) (suc d) after h.1) g1 i c)))

  deref_case : (ty : ValueType) (q : Box (Unit {0}) Global) (a : Expression) → ExpOk a → PlaceOk (Deref' ty q a)
  deref_case ty q a ok_a u d made s rs w low at long kn h g =
      as_place made u (type_of ty) (Deref' ty q a) d rs (locate ds call (place_of texts (Deref' ty q a)) s) (Runs (code_place (Deref' ty q a) d) rs w) h.0
      (then_exp a (PointerTy (type_of ty)) d made s rs w (f.Do (op.CheckNull (value_at locals a d)) ∷ []) pointed (Finds (Deref' ty q a) (type_of ty) d rs) (ok_a (PointerTy (type_of ty)) d made s rs w low at long kn.1 h.1 g) (λ new x y xs z ex i c g1.
      pointed_ok typed singles checks call call' types locals ks ty q a d x new y rs xs z kn.0 (kind_at a (PointerTy (type_of ty)) d at h.1) g1 i c))

  index_case : (ty : ValueType) (q : Box (Unit {0}) Global) (a : Expression) (r : Box (Unit {0}) Global) (b : Expression) → ExpOk a → ExpOk b → PlaceOk (Index' ty q a r b)
  index_case ty q a r b ok_a ok_b u d made s rs w low at long kn h g =
      let t : Ty = type_of ty in
      let b' : ℕ = suc d + length (kinds a) in
      let after = at_tail ks d _ (kinds a ++ kinds b) at in
      let at_a = at_left ks (suc d) (kinds a) (kinds b) after in
      let at_b = at_right ks (suc d) (kinds a) (kinds b) after in
      as_place made u t (Index' ty q a r b) d rs (locate ds call (place_of texts (Index' ty q a r b)) s) (Runs (code_place (Index' ty q a r b) d) rs w) h.0
      (then_exp a (ArrayTy t) (suc d) made s rs w (code b b' ++ (f.Do (op.CheckIndex d (value_at locals a (suc d)) (value_at locals b b') (length (k.cells_of p.structs singles t))) ∷ [])) (λ x y. then_do (eval ds call (exp_of texts b) y) (λ o z. element x (as_number o) z)) (Finds (Index' ty q a r b) t d rs) (ok_a (ArrayTy t) (suc d) made s rs w (omega arith) at_a long kn.1 h.1 (start d (suc d) rs rs made s w g)) (λ new x y xs z ex i c g1.
      then_exp b IntTy b' new y xs z (f.Do (op.CheckIndex d (value_at locals a (suc d)) (value_at locals b b') (length (k.cells_of p.structs singles t))) ∷ []) (λ o z. element x (as_number o) z) (Finds (Index' ty q a r b) t d rs) (ok_b IntTy b' new y xs z (omega arith) at_b (g1.long ∙ long) kn.2 h.2 (start (suc d) b' rs xs new y z g1)) (λ more x2 y2 ys z2 ex2 i2 c2 g2.
      element_ok typed singles checks call call' types locals ks facts ty q a r b d (value_at locals b b') x x2 more y2 rs ys z2 low (short d _ (kinds a ++ kinds b) rs at long) kn.0
      (at_head ks d _ (kinds a ++ kinds b) at) (kind_at a (ArrayTy t) (suc d) at_a h.1) (kind_at b IntTy b' at_b h.2) (value_apart typed singles types locals ks long_types a (ArrayTy t) d (suc d) low (omega arith) h.1)
      (going_then p H types locals (suc d) b' rs xs ys new more y y2 z z2 (omega arith) g1 g2) (is_more p new more ex2 (ArrayTy t) x i) i2 (v.still typed singles checks call call' types locals ks locals_at long_types a (ArrayTy t) (suc d) x more y2 xs ys z2 (omega arith) h.1 c g2) c2)))

  field_case : (j : ℕ) (q : Box (Unit {0}) Global) (pl : Place) (i : ℕ) → PlaceOk pl → PlaceOk (Field' j q pl i)
  field_case j q pl i ok_pl u d made s rs w low at long kn h g =
      joint_then_done made (Finds pl (StructTy j) d rs) (Finds (Field' j q pl i) u d rs) _ _ (λ x y. record x { path = x.path ++ i ∷ [] }) (λ x y. y)
      (ok_pl (StructTy j) d made s rs w low at long kn h.0 g) (λ new x y b z ex r. field_ok typed singles checks call call' types locals ks facts j q pl i u d rs new x y b z h.1 r)

  end_case : RowOk end_of-Expression
  end_case [] d made s rs w low at long kn h g = joint_done made (Rows [] [] d rs) [] s (0, rs) w (record { falls = refl; are = tt; coded = tt; going = g })
  end_case (t ∷ ts) d made s rs w low at long kn h g = absurd h

  more_case : {i : _} (a : Expression) (rest : Row_of-Expression i) → ExpOk a → RowOk rest → RowOk (more_of-Expression a rest)
  more_case a rest ok_a ok_rest [] d made s rs w low at long kn h g = absurd h
  more_case a rest ok_a ok_rest (t ∷ ts) d made s rs w low at long kn h g =
      let b' : ℕ = d + length (kinds a) in
      let at_a = at_left ks d (kinds a) (kinds_row rest) at in
      let at_b = at_right ks d (kinds a) (kinds_row rest) at in
      then_exp a t d made s rs w _ _ (Rows (t ∷ ts) (at_row (more_of-Expression a rest) d) d rs) (ok_a t d made s rs w low at_a long kn.0 h.0 g) (λ new x y xs z ex i c g1.
      joint_then_done new (Rows ts (at_row rest b') b' xs) (Rows (t ∷ ts) (at_row (more_of-Expression a rest) d) d rs) _ _ (λ vs u. x ∷ vs) (λ vs u. u)
      (ok_rest ts b' new y xs z (omega arith) at_b (g1.long ∙ long) kn.1 h.1 (start d b' rs xs new y z g1))
      (λ more vs y2 b z2 ex2 r. record {
        falls = r.falls;
        are = (is_more p new more ex2 t x i, r.are);
        coded = (v.still typed singles checks call call' types locals ks locals_at long_types a t d x more y2 xs b.1 z2 low h.0 c r.going, r.coded);
        going = going_then p H types locals d b' rs xs b.1 new more y y2 z z2 (omega arith) g1 r.going;
      }))

  mutual
    pub exp_ok : (a : Expression) → ExpOk a
    exp_ok (At' here q e) = exp_ok e
    exp_ok (Constant x) = constant_case x
    exp_ok (Null ty) = null_case ty
    exp_ok (Local x) = local_value_case x
    exp_ok (Unary' o q b) = unary_case o q b (exp_ok b)
    exp_ok (Binary' o q a r b) = binary_case o q a r b (exp_ok a) (exp_ok b)
    exp_ok (Compare' ty o q a r b) = compare_case ty o q a r b (exp_ok a) (exp_ok b)
    exp_ok (And' q a r b) = and_case q a r b (exp_ok a) (exp_ok b)
    exp_ok (Or' q a r b) = or_case q a r b (exp_ok a) (exp_ok b)
    exp_ok (Choose' ty q a r b x c) = conditional_case ty q a r b x c (exp_ok a) (exp_ok b) (exp_ok c)
    exp_ok (Call' i shape es) = call_of_case i shape es (row_ok es)
    exp_ok (Print' out shape es) = print_case out shape es (row_ok es)
    exp_ok (Load' ty q pl) = read_case ty q pl (place_ok pl)
    exp_ok (Alloc ty) = alloc_case ty
    exp_ok (AllocArray' ty q a) = alloc_array_case ty q a (exp_ok a)
    exp_ok (Length' ty q a) = length_of_case ty q a (exp_ok a)

    row_ok : {i : _} (es : Row_of-Expression i) → RowOk es
    row_ok end_of-Expression = end_case
    row_ok (more_of-Expression a rest) = more_case a rest (exp_ok a) (row_ok rest)

    pub place_ok : (q : Place) → PlaceOk q
    place_ok (Deref' ty q a) = deref_case ty q a (exp_ok a)
    place_ok (Index' ty q a r b) = index_case ty q a r b (exp_ok a) (exp_ok b)
    place_ok (Field' j q pl i) = field_case j q pl i (place_ok pl)
