-- Each expression, row of arguments and place, and its code, come to the same.
use Rattle.std.proofs.Common.{◌≡◌, ◌≢◌, ℕ, zero, suc, ◌+◌, ◌*◌, ◌-◌, ◌<◌, ◌≤◌, ◌⊎◌, inl, inr, Bool, true, false, List, [], ◌∷◌, ◌++◌, length, get_or, Option, Some, None, ℤ, pos, negsuc, FitsSigned, refl, sym, ap, ◌∙◌, subst, arith, cond}
use Rattle.std.specs.Prelude.{◌&&◌, slice_get, slice_index, slice_set, map, nat_le, nat_lt, neg_ℤ, not, codes, string_bytes}
use Rattle.std.proofs.lemmas.List.{length-map, append-nil}
use Rattle.std.proofs.lemmas.Bool.{lt-ltb}
use Rattle.cells.specs.Stops.{ArithFault, BoundsFault, LengthFault, NullFault}
use Rattle.cells.specs.Outcomes.{Done, Stopped, Cut, then_do}
use Rattle.c0_typed.specs.Values.{Value, Number, Truth, Letter, Text, Ref, Void, Tree, Spot, as_number, as_truth, as_ref, load}
use Rattle.c0_typed.specs.Trees as t
use Rattle.c0_typed.specs.Trees.{Program, Ty, VoidTy, IntTy, BoolTy, CharTy, TextTy, StructTy, PointerTy, ArrayTy}
use Rattle.c0_typed.specs.Meaning.{State, Outcome, binary_value, default, eval, evals, if_true, local, locate, relation_value, struct_defaults, unary_value, value_or}
use Rattle.c0_typed.specs.Typing.{AreAll, Extends, Has, HasAll, Holds, Is, IsCompared, IsConstant, IsHeap, IsPlace, IsSmall, IsState, Kept, One, Many, output_types, unary_type}
use Rattle.c0_typed.specs.Views.{constant_of, exp_of, function_of, output_of, place_of, program_of, relation_of, row_of, texts_of, type_of, unary_of}
use Rattle.c0_typed.specs.Views as view
use Rattle.c0_typed.proofs.Ops.{not_fits, ops_fit}
use Rattle.c0_typed.proofs.Soundness.{are_more, constant_is, extends_refl, is_more, local_is, unary_is}
use Rattle.c0_typed.specs.declared.tree.Constant.{Constant as ConstantValue}
use Rattle.c0_typed.specs.declared.tree.Constant.TheVariants as c
use Rattle.c0_typed.specs.declared.tree.UnaryOperator.{UnaryOperator}
use Rattle.c0_typed.specs.declared.tree.UnaryOperator.TheVariants as u
use Rattle.c0_typed.specs.declared.tree.Relation.{Relation}
use Rattle.c0_typed.specs.declared.tree.Relation.TheVariants as r
use Rattle.c0_typed.specs.declared.tree.Expression.{Expression, Row_of-Expression, end_of-Expression, more_of-Expression, Constant, Null, Local, Unary', Binary', Compare', And', Or', Choose', Call', Print', Load', Alloc, AllocArray', Length'}
use Rattle.c0_typed.specs.declared.tree.Place.{Place, Deref', Index', Field'}
use Rattle.c0_typed.specs.declared.tree.Typed.{Typed}
use Rattle.code_form.specs.declared.form.Kind.{Kind}
use Rattle.code_form.specs.declared.form.Kind.TheVariants as kind
use Rattle.code_form.specs.declared.form.Relation.{Relation as CodeRelation}
use Rattle.code_form.specs.declared.form.Relation.TheVariants as relation
use Rattle.code_form.specs.declared.form.Operation.{Operation}
use Rattle.code_form.specs.declared.form.Operation.TheVariants as op
use Rattle.code_form.specs.Code.{Sets, compares, has, if_zero, is_compared, is_reference, of_bool, of_int, on_kind, op_does, op_fits}
use Rattle.code_form.specs.Form.{Head}
use Rattle.middle_form.specs.Form.{Code}
use Rattle.middle_form.specs.Form as f
use Rattle.middle_form.specs.Meaning as m
use Rattle.lower.specs.Coded.{Coded}
use Rattle.lower_tables.specs.Kinds.{kind_of}
use Rattle.lower_tables.specs.Known.{Knows, KnowsPlace, KnowsRow}
use Rattle.lower_tables.specs.Texts.{number_among}
use Rattle.lower.specs.Lowered.{lowered}
use Rattle.lower_expressions.specs.Expressions.{code_relation, constant_code, moved, row_at, row_code, row_kinds, sequence, unary_kind, unary_operator, value_at}
use Rattle.lower.proofs.Joint.{Joint, Lands, joint_done, joint_if, joint_on, joint_then, run_append, run_one}
use Rattle.lower.proofs.Leaves.{unary_cell}
use Rattle.lower_tables.proofs.TextNumbers.{text_in, text_there}
use Rattle.lower.proofs.Operators.{coded_truth, compared}
use Rattle.lower.proofs.Registers.{At, and_true, at_head, at_left, at_right, at_tail, has_it, put_same}
use Rattle.lower.proofs.Running.{going_less, going_set, going_start, going_then, set_valued, sets_then}
use Rattle.lower.proofs.Sides.{Alike, Going, HeapFacts, Valued, joint_valued}
use Rattle.lower.proofs.Values.{LocalsAt, local_there, value_before, value_kind}
use Rattle.lower.proofs.Expressions as e

module _ (typed : Typed) (singles : List Kind) (checks : Bool) (call : ℕ → List Value → State → Outcome Value) (call' : ℕ → List ℕ → m.State → m.Outcome ℕ) (types : List Ty) (locals : ℕ) (ks : List Kind)
    (locals_at : LocalsAt typed singles types locals ks) (long_types : length types ≡ suc locals) where
  abbrev p : Program
  p = program_of typed

  abbrev H : Head
  H = e.H typed singles checks call call' types locals ks

  abbrev n : ℕ
  n = length p.structs

  abbrev ds : List Tree
  ds = struct_defaults [] p.structs

  abbrev kinds : Expression → List Kind
  kinds a = e.kinds typed singles checks call call' types locals ks a

  abbrev code : Expression → ℕ → List Code
  code a d = e.code typed singles checks call call' types locals ks a d

  abbrev Runs : List Code → List ℕ → m.State → m.Outcome m.Left
  Runs cs rs w = e.Runs typed singles checks call call' types locals ks cs rs w

  abbrev Goes : ℕ → List ℕ → List Kept → State → List ℕ → m.State → Type 0
  Goes d rs made s xs w = Going p H types locals d rs made s xs w

  abbrev Gives : ℕ → Ty → ℕ → List ℕ → List Kept → Value → State → m.Left → m.State → Type 0
  Gives r t d rs made v s x w = Valued p H types locals r t d rs made v s x w

  abbrev ExpOk : Expression → Type 0
  ExpOk a = e.ExpOk typed singles checks call call' types locals ks a

  -- the kind of a value's register
  pub kind_at : (a : Expression) (t : Ty) (d : ℕ) → At ks d (kinds a) → Has p types (exp_of (texts_of typed) a) t → slice_get ks (value_at locals a d) ≡ Some (kind_of n singles t)
  kind_at a t d at h = value_kind typed singles types locals ks locals_at a t d at h

  -- a value that stands stays while what follows it runs
  pub still : (a : Expression) (t : Ty) (d : ℕ) (v : Value) (made : List Kept) (s : State) (xs ys : List ℕ) (w : m.State) → suc locals ≤ d → Has p types (exp_of (texts_of typed) a) t → Coded H v (slice_index xs (value_at locals a d))
      → Goes (d + length (kinds a)) xs made s ys w → Coded H v (slice_index ys (value_at locals a d))
  still a t d v made s xs ys w low h c g = subst (Coded H v) (sym (g.keeps (value_at locals a d) (value_before typed singles types locals ks long_types a t d low h))) c

  pub constant_ok : (x : ConstantValue) (t : Ty) (d : ℕ) (made : List Kept) (s : State) (rs : List ℕ) (w : m.State) → suc locals ≤ d → At ks d (kinds (Constant x)) → length rs ≡ length ks → IsConstant p.texts (constant_of (texts_of typed) x) t → Goes d rs made s rs w
      → Joint made (Gives d t d rs) (Done (constant_of (texts_of typed) x) s) (Runs (code (Constant x) d) rs w)
  constant_ok x t d made s rs w low a long h g = at x a h
    where
      last : (o : Operation) (v : Value) (k : Kind) (cell : ℕ) → At ks d (k ∷ []) → IsConstant p.texts v t → Coded H v cell → op_fits H ks o ≡ true → op_does H w.allocations rs o ≡ Sets d cell → Joint made (Gives d t d rs) (Done v s) (Runs (f.Do o ∷ []) rs w)
      last o v k cell a h c fits sets =
          e.sets_last typed singles checks call call' types locals ks o t d d v cell made s rs rs w low (omega arith) (e.short typed singles checks call call' types locals ks d k [] rs a long) g
          (constant_is ops_fit not_fits p types made t v h) c fits sets

      at : (x : ConstantValue) → At ks d (kinds (Constant x)) → IsConstant p.texts (constant_of (texts_of typed) x) t → Joint made (Gives d t d rs) (Done (constant_of (texts_of typed) x) s) (Runs (code (Constant x) d) rs w)
      at (c.Number z) a h = last (op.Const d z) (Number z) kind.Int (of_int z) a h refl (has_it ks d kind.Int (at_head ks d kind.Int [] a)) refl
      at (c.Truth b) a h = last (op.BoolOf d b) (Truth b) kind.Bool (of_bool b) a h refl (has_it ks d kind.Bool (at_head ks d kind.Bool [] a)) refl
      at (c.Letter l) a h = last (op.CharOf d l) (Letter l) kind.Char l a h refl (has_it ks d kind.Char (at_head ks d kind.Char [] a)) refl
      at (c.Text k) a h =
          let bytes : List ℕ = view.text_at (texts_of typed) k in
          let number : ℕ = number_among (texts_of typed) bytes in
          let l : number ≤ length H.texts = text_in (texts_of typed) bytes in
          last (op.TextOf d number) (Text bytes) kind.Text number a h (text_there H k)
          (and_true _ _ (has_it ks d kind.Text (at_head ks d kind.Text [] a)) (lt-ltb number (suc (length H.texts)) (omega (arith, l)))) refl

  -- an operator on one value
  pub unary_last : (o : UnaryOperator) (a : Expression) (d : ℕ) (v : Value) (made : List Kept) (s : State) (rs xs : List ℕ) (w : m.State) → suc locals ≤ d → At ks d (unary_kind o ∷ kinds a) → length rs ≡ length ks → Has p types (exp_of (texts_of typed) a) (unary_type (unary_of o))
      → Goes (suc d) rs made s xs w → Is p made (unary_type (unary_of o)) v → Coded H v (slice_index xs (value_at locals a (suc d)))
      → Joint made (Gives d (unary_type (unary_of o)) d rs) (Done (unary_value (unary_of o) v) s) (Runs (f.Do (op.Unary (unary_operator o) d (value_at locals a (suc d))) ∷ []) xs w)
  unary_last o a d v made s rs xs w low at long h g i c =
      let cell = unary_cell H p made o v w.allocations xs d (value_at locals a (suc d)) i c in
      e.sets_last typed singles checks call call' types locals ks (op.Unary (unary_operator o) d (value_at locals a (suc d))) (unary_type (unary_of o)) d (suc d) (unary_value (unary_of o) v) cell.0 made s rs xs w low (omega arith)
      (e.short typed singles checks call call' types locals ks d _ (kinds a) rs at long) g (unary_is ops_fit not_fits p types made (unary_of o) v i) cell.2 (fits o at h) cell.1
    where
      fits : (o : UnaryOperator) → At ks d (unary_kind o ∷ kinds a) → Has p types (exp_of (texts_of typed) a) (unary_type (unary_of o)) → op_fits H ks (op.Unary (unary_operator o) d (value_at locals a (suc d))) ≡ true
      fits u.Negate at h = and_true _ _ (has_it ks d kind.Int (at_head ks d kind.Int (kinds a) at)) (has_it ks _ kind.Int (kind_at a IntTy (suc d) (at_tail ks d kind.Int (kinds a) at) h))
      fits u.Complement at h = and_true _ _ (has_it ks d kind.Int (at_head ks d kind.Int (kinds a) at)) (has_it ks _ kind.Int (kind_at a IntTy (suc d) (at_tail ks d kind.Int (kinds a) at) h))
      fits u.Not at h = and_true _ _ (has_it ks d kind.Bool (at_head ks d kind.Bool (kinds a) at)) (has_it ks _ kind.Bool (kind_at a BoolTy (suc d) (at_tail ks d kind.Bool (kinds a) at) h))

  is_compared_so : (o : Relation) (ty : Ty) → IsCompared (relation_of o) ty → is_compared (code_relation o) (kind_of n singles ty) ≡ true
  is_compared_so r.Equal VoidTy h = absurd h
  is_compared_so r.Equal IntTy h = refl
  is_compared_so r.Equal BoolTy h = refl
  is_compared_so r.Equal CharTy h = refl
  is_compared_so r.Equal TextTy h = absurd h
  is_compared_so r.Equal (StructTy j) h = absurd h
  is_compared_so r.Equal (PointerTy x) h = refl
  is_compared_so r.Equal (ArrayTy x) h = refl
  is_compared_so r.Unequal VoidTy h = absurd h
  is_compared_so r.Unequal IntTy h = refl
  is_compared_so r.Unequal BoolTy h = refl
  is_compared_so r.Unequal CharTy h = refl
  is_compared_so r.Unequal TextTy h = absurd h
  is_compared_so r.Unequal (StructTy j) h = absurd h
  is_compared_so r.Unequal (PointerTy x) h = refl
  is_compared_so r.Unequal (ArrayTy x) h = refl
  is_compared_so r.Below IntTy h = refl
  is_compared_so r.Below CharTy h = refl
  is_compared_so r.AtMost IntTy h = refl
  is_compared_so r.AtMost CharTy h = refl
  is_compared_so r.Above IntTy h = refl
  is_compared_so r.Above CharTy h = refl
  is_compared_so r.AtLeast IntTy h = refl
  is_compared_so r.AtLeast CharTy h = refl
  is_compared_so _ _ h = absurd h

  -- a comparison of two values
  pub compare_last : (o : Relation) (ty : Ty) (d q ra rb : ℕ) (v u : Value) (made : List Kept) (s : State) (rs xs : List ℕ) (w : m.State) → suc locals ≤ d → d ≤ q → d < length rs → slice_get ks d ≡ Some kind.Bool
      → slice_get ks ra ≡ Some (kind_of n singles ty) → slice_get ks rb ≡ Some (kind_of n singles ty) → IsCompared (relation_of o) ty → Goes q rs made s xs w → Is p made ty v → Is p made ty u → Coded H v (slice_index xs ra) → Coded H u (slice_index xs rb)
      → Joint made (Gives d BoolTy d rs) (Done (Truth (relation_value (relation_of o) v u)) s) (Runs (f.Do (op.Compare (code_relation o) d ra rb) ∷ []) xs w)
  compare_last o ty d q ra rb v u made s rs xs w low le sh kd ka kb h g i j c k =
      e.sets_last typed singles checks call call' types locals ks (op.Compare (code_relation o) d ra rb) BoolTy d q (Truth (relation_value (relation_of o) v u)) (of_bool (compares (code_relation o) (slice_index xs ra) (slice_index xs rb))) made s rs xs w low le sh g
      (relation_value (relation_of o) v u, refl) (ap of_bool (compared H p made o ty v u (slice_index xs ra) (slice_index xs rb) h i j c k))
      (and_true _ _ (has_it ks d kind.Bool kd) (ap (on_kind (λ x. is_compared (code_relation o) x && has ks rb x)) ka ∙ and_true _ _ (is_compared_so o ty h) (has_it ks rb (kind_of n singles ty) kb))) refl

  -- a choice by a register
  pub choose_runs : (a : ℕ) (b x : Code) (rs : List ℕ) (w : m.State) → slice_get ks a ≡ Some kind.Bool
      → Runs (f.Choose a b x ∷ []) rs w ≡ if_zero (slice_index rs a) (m.run (lowered singles checks typed) call' ks x rs w) (m.run (lowered singles checks typed) call' ks b rs w)
  choose_runs a b x rs w h =
      run_one (lowered singles checks typed) call' ks (f.Choose a b x) rs w
      ∙ ap (λ z. m.where_so z (if_zero (slice_index rs a) (m.run (lowered singles checks typed) call' ks x rs w) (m.run (lowered singles checks typed) call' ks b rs w))) (has_it ks a kind.Bool h)

  -- the second operand of && and || is wanted
  pub second_ok : (b : Expression) (d q : ℕ) (v : Value) (made : List Kept) (s : State) (rs xs : List ℕ) (w : m.State) → ExpOk b → suc locals ≤ d → suc d ≤ q → d < length rs → length rs ≡ length ks → slice_get ks d ≡ Some kind.Bool → At ks q (kinds b)
      → Knows n singles b → Has p types (exp_of (texts_of typed) b) BoolTy → Goes d rs made s xs w
      → Joint made (Gives d BoolTy d rs) (eval ds call (exp_of (texts_of typed) b) s) (Runs (moved locals b (code b q) q d) xs w)
  second_ok b d q v made s rs xs w ok low le sh long kd at k h g =
      e.moved_ok typed singles checks call call' types locals ks b BoolTy d q made s rs xs w _ low (omega arith) sh g.long g kd (kind_at b BoolTy q at h)
      (ok BoolTy q made s xs w (omega arith) at (g.long ∙ long) k h (going_start p H types locals d q rs xs made s w g))

  -- && and || behind their first operand
  pub and_ok : (ra : ℕ) (b : Expression) (d q : ℕ) (v : Value) (made : List Kept) (s : State) (rs xs : List ℕ) (w : m.State) → ExpOk b → suc locals ≤ d → suc d ≤ q → d < length rs → length rs ≡ length ks → slice_get ks d ≡ Some kind.Bool → slice_get ks ra ≡ Some kind.Bool
      → At ks q (kinds b) → Knows n singles b → Has p types (exp_of (texts_of typed) b) BoolTy → Goes (suc d) rs made s xs w → Is p made BoolTy v → Coded H v (slice_index xs ra)
      → Joint made (Gives d BoolTy d rs) (if_true v (eval ds call (exp_of (texts_of typed) b) s) (Done v s)) (Runs (f.Do (op.Move d ra) ∷ (f.Choose d (sequence (moved locals b (code b q) q d)) f.Nothing ∷ [])) xs w)
  and_ok ra b d q v made s rs xs w ok low le sh long kd ka at k h g i c =
      let zs : List ℕ = slice_set xs d (slice_index xs ra) in
      let here : Gives d BoolTy d rs made v s (0, zs) w = set_valued p H types locals d (suc d) rs xs BoolTy v (slice_index xs ra) made s w low (omega arith) sh g i c in
      subst (λ z. Joint made (Gives d BoolTy d rs) (if_true v (eval ds call (exp_of (texts_of typed) b) s) (Done v s)) z)
      (sym (sets_then (lowered singles checks typed) call' ks (op.Move d ra) (f.Choose d (sequence (moved locals b (code b q) q d)) f.Nothing ∷ []) xs w d (slice_index xs ra) (ap (on_kind (λ x. has ks d x)) ka ∙ has_it ks d kind.Bool kd) refl ∙ choose_runs d (sequence (moved locals b (code b q) q d)) f.Nothing zs w kd))
      (joint_if made (Gives d BoolTy d rs) v (slice_index zs d) _ _ (Runs (moved locals b (code b q) q d) zs w) (m.Done (0, zs) w) (coded_truth H p made v (slice_index zs d) i here.coded)
      (second_ok b d q v made s rs zs w ok low le sh long kd at k h here.going)
      (joint_done made (Gives d BoolTy d rs) v s (0, zs) w here))

  pub or_ok : (ra : ℕ) (b : Expression) (d q : ℕ) (v : Value) (made : List Kept) (s : State) (rs xs : List ℕ) (w : m.State) → ExpOk b → suc locals ≤ d → suc d ≤ q → d < length rs → length rs ≡ length ks → slice_get ks d ≡ Some kind.Bool → slice_get ks ra ≡ Some kind.Bool
      → At ks q (kinds b) → Knows n singles b → Has p types (exp_of (texts_of typed) b) BoolTy → Goes (suc d) rs made s xs w → Is p made BoolTy v → Coded H v (slice_index xs ra)
      → Joint made (Gives d BoolTy d rs) (if_true v (Done v s) (eval ds call (exp_of (texts_of typed) b) s)) (Runs (f.Do (op.Move d ra) ∷ (f.Choose d f.Nothing (sequence (moved locals b (code b q) q d)) ∷ [])) xs w)
  or_ok ra b d q v made s rs xs w ok low le sh long kd ka at k h g i c =
      let zs : List ℕ = slice_set xs d (slice_index xs ra) in
      let here : Gives d BoolTy d rs made v s (0, zs) w = set_valued p H types locals d (suc d) rs xs BoolTy v (slice_index xs ra) made s w low (omega arith) sh g i c in
      subst (λ z. Joint made (Gives d BoolTy d rs) (if_true v (Done v s) (eval ds call (exp_of (texts_of typed) b) s)) z)
      (sym (sets_then (lowered singles checks typed) call' ks (op.Move d ra) (f.Choose d f.Nothing (sequence (moved locals b (code b q) q d)) ∷ []) xs w d (slice_index xs ra) (ap (on_kind (λ x. has ks d x)) ka ∙ has_it ks d kind.Bool kd) refl ∙ choose_runs d f.Nothing (sequence (moved locals b (code b q) q d)) zs w kd))
      (joint_if made (Gives d BoolTy d rs) v (slice_index zs d) _ _ (m.Done (0, zs) w) (Runs (moved locals b (code b q) q d) zs w) (coded_truth H p made v (slice_index zs d) i here.coded)
      (joint_done made (Gives d BoolTy d rs) v s (0, zs) w here)
      (second_ok b d q v made s rs zs w ok low le sh long kd at k h here.going))

  -- an arm of a conditional
  pub arm_ok : (b : Expression) (ty : Ty) (d q : ℕ) (made : List Kept) (s : State) (rs xs : List ℕ) (w : m.State) → ExpOk b → suc locals ≤ d → suc d ≤ q → d < length rs → length rs ≡ length ks → slice_get ks d ≡ Some (kind_of n singles ty) → At ks q (kinds b)
      → Knows n singles b → Has p types (exp_of (texts_of typed) b) ty → Goes d rs made s xs w
      → Joint made (Gives d ty d rs) (eval ds call (exp_of (texts_of typed) b) s) (Runs (moved locals b (code b q) q d) xs w)
  arm_ok b ty d q made s rs xs w ok low le sh long kd at k h g =
      e.moved_ok typed singles checks call call' types locals ks b ty d q made s rs xs w _ low (omega arith) sh g.long g kd (kind_at b ty q at h)
      (ok ty q made s xs w (omega arith) at (g.long ∙ long) k h (going_start p H types locals d q rs xs made s w g))
