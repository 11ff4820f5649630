-- An expression and its code come to the same.
use Rattle.std.proofs.Common.{◌≡◌, ◌≢◌, ℕ, zero, suc, ◌+◌, ◌-◌, ◌<◌, ◌≤◌, ◌⊎◌, inl, inr, Bool, true, false, List, [], ◌∷◌, ◌++◌, length, get_or, Option, Some, None, ℤ, pos, negsuc, FitsSigned, refl, sym, ap, ◌∙◌, subst, arith, cond}
use Rattle.std.specs.Prelude.{◌&&◌, slice_get, slice_index, slice_set, map, nat_le, nat_lt, neg_ℤ, not, codes}
use Rattle.std.specs.Fmt.{signed_decimal}
use Rattle.std.specs.Int.{int_bit_not, w32}
use Rattle.cells.specs.declared.int32.Int32Op.{Int32Op}
use Rattle.cells.specs.Numbers.{op_value, wrap32}
use Rattle.cells.specs.Stops.{ArithFault}
use Rattle.cells.specs.Outcomes.{Done, Stopped, Cut, then_do}
use Rattle.c0_typed.specs.Values.{Value, Number, Truth, Letter, Text, Ref, Void, Tree, Spot, as_number, as_truth, as_ref, load}
use Rattle.c0_typed.specs.Trees as t
use Rattle.c0_typed.specs.Trees.{Program, Ty, VoidTy, IntTy, BoolTy, CharTy, TextTy, StructTy, PointerTy, ArrayTy}
use Rattle.c0_typed.specs.Meaning.{State, Outcome, Way, binary_value, eval, evals, if_true, local, locate, relation_value, struct_defaults, unary_value, value_or}
use Rattle.c0_typed.specs.Typing.{AreAll, Extends, Has, HasAll, Holds, Is, IsConstant, IsHeap, IsPlace, IsSmall, IsState, Kept, One, Many, output_types, unary_type}
use Rattle.c0_typed.specs.Views.{constant_of, exp_of, function_of, output_of, place_of, program_of, relation_of, row_of, text_at, texts_of, type_of, unary_of}
use Rattle.c0_typed.proofs.Ops.{not_fits, ops_fit}
use Rattle.c0_typed.proofs.Soundness.{constant_is, extends_refl, is_more, local_is, number_fits, unary_is}
use Rattle.c0_typed.specs.declared.tree.Expression.{Expression, Row_of-Expression, end_of-Expression, more_of-Expression, Constant, Null, Local, Unary', Binary', Compare', And', Or', Choose', Call', Print', Load', Alloc, AllocArray', Length'}
use Rattle.c0_typed.specs.declared.tree.Place.{Place, Deref', Index', Field'}
use Rattle.c0_typed.specs.declared.tree.Typed.{Typed}
use Rattle.code_form.specs.declared.form.Kind.{Kind}
use Rattle.code_form.specs.declared.form.Kind.TheVariants as kind
use Rattle.code_form.specs.Code.{Did, Sets, Stops, has, if_zero, int_of, of_bool, of_int, on_kind, op_does, op_fits, sets_some}
use Rattle.code_form.specs.declared.form.Operation.{Operation}
use Rattle.code_form.specs.Form.{Head}
use Rattle.code_form.specs.declared.form.Operation.TheVariants as op
use Rattle.middle_form.specs.Form.{Code}
use Rattle.middle_form.specs.Form as f
use Rattle.middle_form.specs.Meaning as m
use Rattle.lower.specs.Coded.{Coded}
use Rattle.lower_tables.specs.Kinds.{kind_of}
use Rattle.lower_tables.specs.Known.{Knows, KnowsPlace, KnowsRow}
use Rattle.lower.specs.Lowered.{lowered}
use Rattle.lower_expressions.specs.Expressions.{exp_code, exp_kinds, moved, place_code, place_kinds, row_at, row_code, row_kinds, sequence, unary_operator, value_at}
use Rattle.lower.proofs.Joint.{Joint, Lands, joint_done, joint_from, joint_if, joint_on, joint_then, run_append, run_one}
use Rattle.lower.proofs.Operators.{coded_number, coded_truth, compared}
use Rattle.lower.proofs.Registers.{At, and_true, at_head, at_left, at_right, at_tail, has_it, put_same}
use Rattle.lower.proofs.Running.{does, does_last, goes_then, going_set, going_start, going_then, set_valued, sets_then}
use Rattle.lower.proofs.Sides.{Alike, Going, HeapFacts, Valued, joint_valued}
use Rattle.lower.proofs.Values.{LocalsAt, local_there, value_before, value_kind}

module _ (typed : Typed) (singles : List Kind) (checks : Bool) (call : ℕ → List Value → State → Outcome Value) (call' : ℕ → List ℕ → m.State → m.Outcome ℕ) (types : List Ty) (locals : ℕ) (ks : List Kind) where
  abbrev pub p : Program
  p = program_of typed

  abbrev pub P : f.Program
  P = lowered singles checks typed

  abbrev pub H : Head
  H = P.head

  abbrev pub n : ℕ
  n = length p.structs

  abbrev pub ds : List Tree
  ds = struct_defaults [] p.structs

  abbrev pub kinds : Expression → List Kind
  kinds e = exp_kinds p.structs singles (texts_of typed) typed.functions.items typed.main e

  abbrev pub code : Expression → ℕ → List Code
  code e d = exp_code p.structs singles (texts_of typed) typed.functions.items typed.main locals e d

  abbrev pub Runs : List Code → List ℕ → m.State → m.Outcome m.Left
  Runs cs rs w = m.run P call' ks (sequence cs) rs w

  abbrev pub Goes : ℕ → List ℕ → List Kept → State → List ℕ → m.State → Type 0
  Goes d rs made s xs w = Going p H types locals d rs made s xs w

  abbrev pub Gives : ℕ → Ty → ℕ → List ℕ → List Kept → Value → State → m.Left → m.State → Type 0
  Gives r t d rs made v s x w = Valued p H types locals r t d rs made v s x w

  -- what an expression and its code come to
  abbrev pub ExpOk : Expression → Type 0
  ExpOk e = (t : Ty) (d : ℕ) (made : List Kept) (s : State) (rs : List ℕ) (w : m.State) → suc locals ≤ d → At ks d (kinds e) → length rs ≡ length ks → Knows n singles e → Has p types (exp_of (texts_of typed) e) t → Goes d rs made s rs w
      → Joint made (Gives (value_at locals e d) t d rs) (eval ds call (exp_of (texts_of typed) e) s) (Runs (code e d) rs w)

  pub short : (d : ℕ) (k : Kind) (rest : List Kind) (rs : List ℕ) → At ks d (k ∷ rest) → length rs ≡ length ks → d < length rs
  short d k rest rs a long = subst (λ z. d < z) (sym long) (within ks d k (at_head ks d k rest a))
    where
      within : (xs : List Kind) (d : ℕ) (k : Kind) → slice_get xs d ≡ Some k → d < length xs
      within [] d k e = absurd (cc e)
      within (x ∷ xs) zero k e = omega arith
      within (x ∷ xs) (suc d) k e = let l = within xs d k e in omega arith

  -- an expression, and what follows it
  pub exp_then : {C : Type 0} (e : Expression) (t : Ty) (d : ℕ) (made : List Kept) (s : State) (rs : List ℕ) (w : m.State) (rest : List Code) (go : Value → State → Outcome C) (S : List Kept → C → State → m.Left → m.State → Type 0)
      → Joint made (Gives (value_at locals e d) t d rs) (eval ds call (exp_of (texts_of typed) e) s) (Runs (code e d) rs w)
      → ((new : List Kept) (v : Value) (u : State) (xs : List ℕ) (y : m.State) → Extends made new → Is p new t v → Coded H v (slice_index xs (value_at locals e d)) → Goes d rs new u xs y → Joint new S (go v u) (Runs rest xs y))
      → Joint made S (then_do (eval ds call (exp_of (texts_of typed) e) s) go) (Runs (code e d ++ rest) rs w)
  exp_then e t d made s rs w rest go S h k =
      subst (λ z. Joint made S (then_do (eval ds call (exp_of (texts_of typed) e) s) go) z) (sym (run_append P call' ks (code e d) rest rs w))
      (joint_valued p H types locals made (value_at locals e d) t d rs _ _ go (m.run P call' ks (sequence rest)) S h k)

  -- the last operation sets the register of the value
  pub sets_last : (o : Operation) (t : Ty) (d e : ℕ) (v : Value) (value : ℕ) (made : List Kept) (s : State) (rs xs : List ℕ) (w : m.State) → suc locals ≤ d → d ≤ e → d < length rs → Goes e rs made s xs w → Is p made t v → Coded H v value
      → op_fits H ks o ≡ true → op_does H w.allocations xs o ≡ Sets d value → Joint made (Gives d t d rs) (Done v s) (Runs (f.Do o ∷ []) xs w)
  sets_last o t d e v value made s rs xs w low le sh g i c fits sets =
      subst (λ z. Joint made (Gives d t d rs) (Done v s) z) (sym (sets_then P call' ks o [] xs w d value fits sets))
      (joint_done made (Gives d t d rs) v s (0, slice_set xs d value) w (set_valued p H types locals d e rs xs t v value made s w low le sh g i c))

  pub as_type : (made : List Kept) (t u : Ty) (r d : ℕ) (rs : List ℕ) (o : Outcome Value) (x : m.Outcome m.Left) → t ≡ u → Joint made (Gives r u d rs) o x → Joint made (Gives r t d rs) o x
  as_type made t u r d rs o x e h = subst (λ z. Joint made (Gives r z d rs) o x) (sym e) h

  -- an operator on two numbers
  pub binary_last : (o : Int32Op) (d e : ℕ) (ra rb : ℕ) (v u : Value) (made : List Kept) (s : State) (rs xs : List ℕ) (w : m.State) → suc locals ≤ d → d ≤ e → d < length rs → Goes e rs made s xs w → Is p made IntTy v → Is p made IntTy u
      → Coded H v (slice_index xs ra) → Coded H u (slice_index xs rb) → op_fits H ks (op.Binary o d ra rb) ≡ true
      → Joint made (Gives d IntTy d rs) (value_or ArithFault (binary_value o v u) s) (Runs (f.Do (op.Binary o d ra rb) ∷ []) xs w)
  binary_last o d e ra rb v u made s rs xs w low le sh g i j c k fits =
      subst (λ z. Joint made (Gives d IntTy d rs) (value_or ArithFault (binary_value o v u) s) z) (sym (does_last P call' ks (op.Binary o d ra rb) xs w fits))
      (subst (λ z. Joint made (Gives d IntTy d rs) (value_or ArithFault (binary_value o v u) s) (m.operated (sets_some d z) xs w)) (sym same) (at (op_value o (as_number v) (as_number u)) refl))
    where
      same : op_value o (int_of (slice_index xs ra)) (int_of (slice_index xs rb)) ≡ op_value o (as_number v) (as_number u)
      same = ap (λ z. op_value o z (int_of (slice_index xs rb))) (coded_number H p made v (slice_index xs ra) i c) ∙ ap (λ z. op_value o (as_number v) z) (coded_number H p made u (slice_index xs rb) j k)

      at : (z : Option ℤ) → op_value o (as_number v) (as_number u) ≡ z → Joint made (Gives d IntTy d rs) (value_or ArithFault (elim z [ None ↦ None | Some y ↦ Some (Number y) ]) s) (m.operated (sets_some d z) xs w)
      at None q = ap (m.Stopped ArithFault) (sym g.alike.output)
      at (Some z) q =
          joint_done made (Gives d IntTy d rs) (Number z) s (0, slice_set xs d (of_int z)) w
          (set_valued p H types locals d e rs xs IntTy (Number z) (of_int z) made s w low le sh g (z, refl, ops_fit o (as_number v) (as_number u) z (number_fits p made v i) (number_fits p made u j) q) refl)

  -- a value is moved to another register
  pub moved_ok : (e : Expression) (t : Ty) (d b : ℕ) (made : List Kept) (s : State) (rs xs : List ℕ) (w : m.State) (o : Outcome Value) → suc locals ≤ d → d ≤ b → d < length rs → length xs ≡ length rs → Goes d rs made s xs w
      → slice_get ks d ≡ Some (kind_of n singles t) → slice_get ks (value_at locals e b) ≡ Some (kind_of n singles t)
      → Joint made (Gives (value_at locals e b) t b xs) o (Runs (code e b) xs w) → Joint made (Gives d t d rs) o (Runs (moved locals e (code e b) b d) xs w)
  moved_ok e t d b made s rs xs w o low le sh long g here there h =
      subst (λ z. Joint made (Gives d t d rs) o z) (sym (run_append P call' ks (code e b) (f.Do (op.Move d (value_at locals e b)) ∷ []) xs w))
      (joint_on made (Gives (value_at locals e b) t b xs) (Gives d t d rs) o _ (m.falls (m.run P call' ks (sequence (f.Do (op.Move d (value_at locals e b)) ∷ [])))) h
      (λ new v u x y ex r. land new v u x y r))
    where
      fits : op_fits H ks (op.Move d (value_at locals e b)) ≡ true
      fits = ap (on_kind (λ k. has ks d k)) there ∙ has_it ks d (kind_of n singles t) here

      land : (new : List Kept) (v : Value) (u : State) (x : m.Left) (y : m.State) → Gives (value_at locals e b) t b xs new v u x y → Lands new (Gives d t d rs) v u (m.falls (m.run P call' ks (sequence (f.Do (op.Move d (value_at locals e b)) ∷ []))) x y)
      land new v u (zero, ys) y r =
          sets_last (op.Move d (value_at locals e b)) t d d v (slice_index ys (value_at locals e b)) new u rs ys y low (omega arith) sh
          (going_then p H types locals d b rs xs ys made new s u w y le g r.going) r.is r.coded fits refl
      land new v u (suc i, ys) y r = let z = r.falls in absurd (cc z)
