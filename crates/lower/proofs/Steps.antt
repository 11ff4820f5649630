-- Statements one behind the other, and what single ones come to.
use Rattle.std.proofs.Common.{◌≡◌, ◌≢◌, ℕ, zero, suc, ◌+◌, ◌<◌, ◌≤◌, inl, inr, Bool, true, false, List, [], ◌∷◌, ◌++◌, length, get_or, set, Option, Some, None, ℤ, refl, sym, ap, ◌∙◌, subst, arith, append_assoc, cond}
use Rattle.std.specs.Prelude.{◌&&◌, slice_get, slice_index, slice_set, map}
use Rattle.std.proofs.lemmas.List.{length-set}
use Rattle.std.proofs.lemmas.Option.{slice_get_within}
use Rattle.cells.specs.declared.int32.Int32Op.{Int32Op}
use Rattle.cells.specs.Numbers.{op_value}
use Rattle.cells.specs.Stops.{ArithFault, AssertFailed, ErrorCalled}
use Rattle.cells.specs.Outcomes.{Done, Stopped, Cut, then_do}
use Rattle.c0_typed.specs.Values.{Value, Number, Void, Tree, Spot, as_number, as_text, as_truth, load, store}
use Rattle.c0_typed.specs.Trees.{Program, Ty, IntTy, BoolTy, TextTy}
use Rattle.c0_typed.specs.Meaning.{State, Outcome, Way, Next, Returned, Broken, Continued, after_body, and_then, binary_value, eval, holds, if_true, local, set_local, stop, struct_defaults, value_or}
use Rattle.c0_typed.specs.Typing.{AreAll, Extends, Has, Is, IsHeap, IsState, Kept}
use Rattle.c0_typed.specs.Views.{exp_of, program_of, texts_of}
use Rattle.c0_typed.proofs.Ops.{not_fits, ops_fit}
use Rattle.c0_typed.proofs.Soundness.{extends_refl, is_more, local_is, number_fits, set_is}
use Rattle.c0_typed.specs.declared.tree.Expression.{Expression}
use Rattle.c0_typed.specs.declared.tree.Typed.{Typed}
use Rattle.code_form.specs.declared.form.Kind.{Kind}
use Rattle.code_form.specs.declared.form.Kind.TheVariants as kind
use Rattle.code_form.specs.declared.form.Operation.TheVariants as op
use Rattle.code_form.specs.Code.{Goes, Sets, Stops, has, if_zero, int_of, of_bool, of_int, on_kind, op_does, op_fits, sets_some, text_at}
use Rattle.code_form.specs.Form.{Head}
use Rattle.middle_form.specs.Form.{Code}
use Rattle.middle_form.specs.Form as f
use Rattle.middle_form.specs.Meaning as m
use Rattle.lower.specs.Coded.{Coded}
use Rattle.lower_tables.specs.Kinds.{kind_of}
use Rattle.lower.specs.Exits.{deeper, inside}
use Rattle.lower.specs.declared.exits.Exits.{Exits}
use Rattle.lower.specs.Lowered.{lowered}
use Rattle.lower_expressions.specs.Expressions.{local_register, sequence, value_at}
use Rattle.lower.proofs.Continues.{NotContinued}
use Rattle.lower.proofs.Joint.{Joint, Lands, joint_done, joint_from, joint_if, joint_on, run_append, run_one}
use Rattle.lower.proofs.Operators.{coded_number, coded_truth}
use Rattle.lower.proofs.Registers.{and_true, has_it, keeps_refl, Matched, matched_set}
use Rattle.lower.proofs.Running.{does, does_last, going_less, sets_then}
use Rattle.lower.proofs.Sides.{Alike, Going, Valued}
use Rattle.lower.proofs.Values.{LocalsAt}

-- how code is left, for each way that a statement is left
abbrev pub FlowIs : Exits → Way → ℕ → Type 0
FlowIs out Next x = x ≡ 0
FlowIs out Returned x = x ≡ suc out.returns
FlowIs out Broken x = x ≡ suc out.breaks
FlowIs out Continued x = x ≡ suc out.continues

-- ... and the body of a loop: `continue` goes where its end does
abbrev pub BodyFlow : Exits → Way → ℕ → Type 0
BodyFlow out Next x = x ≡ 0
BodyFlow out Returned x = x ≡ suc (suc out.returns)
BodyFlow out Broken x = x ≡ 1
BodyFlow out Continued x = x ≡ 0

-- behind a loop or a block
abbrev pub one_less : ℕ → ℕ
one_less zero = zero
one_less (suc x) = x

-- ... and the turns of a loop: `break` goes where their end does
abbrev pub TurnsFlow : Exits → Way → ℕ → Type 0
TurnsFlow out way x = FlowIs out way (one_less x)

-- values are as many as their types
pub are_long : (p : Program) (made : List Kept) (ts : List Ty) (vs : List Value) → AreAll p made ts vs → length vs ≡ length ts
are_long p made [] [] h = refl
are_long p made [] (v ∷ vs) h = absurd h
are_long p made (t ∷ ts) [] h = absurd h
are_long p made (t ∷ ts) (v ∷ vs) h = ap suc (are_long p made ts vs h.1)

module _ (p : Program) (H : Head) (types : List Ty) (locals : ℕ) where
  -- behind a statement
  pub record MetBy (F : Way → ℕ → Type 0) (rs : List ℕ) (made : List Kept) (way : Way) (s : State) (x : m.Left) (w : m.State) : Type 0 where
    pub flow : F way x.0
    pub going : Going p H types locals 0 rs made s x.1 w

  abbrev pub Met : Exits → List ℕ → List Kept → Way → State → m.Left → m.State → Type 0
  Met out rs made way s x w = MetBy (FlowIs out) rs made way s x w

  -- one statement behind another
  pub met_then : (out : Exits) (rs : List ℕ) (made : List Kept) (o : Outcome Way) (n : m.Outcome m.Left) (go : State → Outcome Way) (on : List ℕ → m.State → m.Outcome m.Left)
      → Joint made (MetBy (FlowIs out) rs) o n → ((new : List Kept) (s : State) (xs : List ℕ) (w : m.State) → Extends made new → Going p H types locals 0 rs new s xs w → Joint new (MetBy (FlowIs out) rs) (go s) (on xs w)) → Joint made (MetBy (FlowIs out) rs) (and_then o go) (m.then_do n (m.falls on))
  met_then out rs made (Done Next s) (m.Done (zero, xs) w) go on h k = joint_from made h.0 (MetBy (FlowIs out) rs) (go s) (on xs w) h.1 (k h.0 s xs w h.1 h.2.going)
  met_then out rs made (Done Next s) (m.Done (suc i, xs) w) go on h k = let z = h.2.flow in absurd (cc z)
  met_then out rs made (Done Returned s) (m.Done (zero, xs) w) go on h k = let z = h.2.flow in absurd (cc z)
  met_then out rs made (Done Returned s) (m.Done (suc i, xs) w) go on h k = h
  met_then out rs made (Done Broken s) (m.Done (zero, xs) w) go on h k = let z = h.2.flow in absurd (cc z)
  met_then out rs made (Done Broken s) (m.Done (suc i, xs) w) go on h k = h
  met_then out rs made (Done Continued s) (m.Done (zero, xs) w) go on h k = let z = h.2.flow in absurd (cc z)
  met_then out rs made (Done Continued s) (m.Done (suc i, xs) w) go on h k = h
  met_then out rs made (Done way s) (m.Stopped x o) go on h k = absurd h
  met_then out rs made (Done way s) (m.Cut o) go on h k = absurd h
  met_then out rs made (Done way s) m.Stuck go on h k = absurd h
  met_then out rs made (Stopped x o) n go on h k = ap (λ z. m.then_do z (m.falls on)) h
  met_then out rs made (Cut o) n go on h k = ap (λ z. m.then_do z (m.falls on)) h

  -- the third part of a loop, and what follows
  pub turned_then : (out : Exits) (rs : List ℕ) (made : List Kept) (o : Outcome Way) (n : m.Outcome m.Left) (go : State → Outcome Way) (on : List ℕ → m.State → m.Outcome m.Left)
      → Joint made (MetBy (FlowIs (deeper out)) rs) o n → ((new : List Kept) (s : State) (xs : List ℕ) (w : m.State) → Extends made new → Going p H types locals 0 rs new s xs w → Joint new (MetBy (TurnsFlow out) rs) (go s) (on xs w)) → Joint made (MetBy (TurnsFlow out) rs) (and_then o go) (m.then_do n (m.falls on))
  turned_then out rs made (Done Next s) (m.Done (zero, xs) w) go on h k = joint_from made h.0 (MetBy (TurnsFlow out) rs) (go s) (on xs w) h.1 (k h.0 s xs w h.1 h.2.going)
  turned_then out rs made (Done Next s) (m.Done (suc i, xs) w) go on h k = let z = h.2.flow in absurd (cc z)
  turned_then out rs made (Done Returned s) (m.Done (zero, xs) w) go on h k = let z = h.2.flow in absurd (cc z)
  turned_then out rs made (Done Returned s) (m.Done (suc i, xs) w) go on h k = (h.0, h.1, record { flow = (let z = h.2.flow in cc z); going = h.2.going })
  turned_then out rs made (Done Broken s) (m.Done (zero, xs) w) go on h k = let z = h.2.flow in absurd (cc z)
  turned_then out rs made (Done Broken s) (m.Done (suc i, xs) w) go on h k = (h.0, h.1, record { flow = (let z = h.2.flow in cc z); going = h.2.going })
  turned_then out rs made (Done Continued s) (m.Done (zero, xs) w) go on h k = let z = h.2.flow in absurd (cc z)
  turned_then out rs made (Done Continued s) (m.Done (suc i, xs) w) go on h k = (h.0, h.1, record { flow = (let z = h.2.flow in cc z); going = h.2.going })
  turned_then out rs made (Done way s) (m.Stopped x o) go on h k = absurd h
  turned_then out rs made (Done way s) (m.Cut o) go on h k = absurd h
  turned_then out rs made (Done way s) m.Stuck go on h k = absurd h
  turned_then out rs made (Stopped x o) n go on h k = ap (λ z. m.then_do z (m.falls on)) h
  turned_then out rs made (Cut o) n go on h k = ap (λ z. m.then_do z (m.falls on)) h

  -- the body of a loop, and what follows
  pub body_then : (out : Exits) (rs : List ℕ) (made : List Kept) (o : Outcome Way) (n : m.Outcome m.Left) (go : State → Outcome Way) (on : List ℕ → m.State → m.Outcome m.Left)
      → Joint made (MetBy (BodyFlow out) rs) o n → ((new : List Kept) (s : State) (xs : List ℕ) (w : m.State) → Extends made new → Going p H types locals 0 rs new s xs w → Joint new (MetBy (TurnsFlow out) rs) (go s) (on xs w)) → Joint made (MetBy (TurnsFlow out) rs) (after_body o go) (m.then_do n (m.falls on))
  body_then out rs made (Done Next s) (m.Done (zero, xs) w) go on h k = joint_from made h.0 (MetBy (TurnsFlow out) rs) (go s) (on xs w) h.1 (k h.0 s xs w h.1 h.2.going)
  body_then out rs made (Done Next s) (m.Done (suc i, xs) w) go on h k = let z = h.2.flow in absurd (cc z)
  body_then out rs made (Done Returned s) (m.Done (zero, xs) w) go on h k = let z = h.2.flow in absurd (cc z)
  body_then out rs made (Done Returned s) (m.Done (suc i, xs) w) go on h k = (h.0, h.1, record { flow = (let z = h.2.flow in cc z); going = h.2.going })
  body_then out rs made (Done Broken s) (m.Done (zero, xs) w) go on h k = let z = h.2.flow in absurd (cc z)
  body_then out rs made (Done Broken s) (m.Done (suc i, xs) w) go on h k = (h.0, h.1, record { flow = (let z = h.2.flow in cc z); going = h.2.going })
  body_then out rs made (Done Continued s) (m.Done (zero, xs) w) go on h k = joint_from made h.0 (MetBy (TurnsFlow out) rs) (go s) (on xs w) h.1 (k h.0 s xs w h.1 h.2.going)
  body_then out rs made (Done Continued s) (m.Done (suc i, xs) w) go on h k = let z = h.2.flow in absurd (cc z)
  body_then out rs made (Done way s) (m.Stopped x o) go on h k = absurd h
  body_then out rs made (Done way s) (m.Cut o) go on h k = absurd h
  body_then out rs made (Done way s) m.Stuck go on h k = absurd h
  body_then out rs made (Stopped x o) n go on h k = ap (λ z. m.then_do z (m.falls on)) h
  body_then out rs made (Cut o) n go on h k = ap (λ z. m.then_do z (m.falls on)) h

  -- the body of a loop that stands in a block
  pub in_block : (out : Exits) (rs : List ℕ) (made : List Kept) (o : Outcome Way) (n : m.Outcome m.Left) → Joint made (Met (inside true out) rs) o n → Joint made (MetBy (BodyFlow out) rs) o (m.then_do n m.behind)
  in_block out rs made o n h = joint_on made (Met (inside true out) rs) (MetBy (BodyFlow out) rs) o n m.behind h (λ new way s b w ex q. land new way s b w q)
    where
      land : (new : List Kept) (way : Way) (s : State) (b : m.Left) (w : m.State) → Met (inside true out) rs new way s b w → Lands new (MetBy (BodyFlow out) rs) way s (m.behind b w)
      land new Next s (zero, xs) w q = (new, extends_refl new, record { flow = refl; going = q.going })
      land new Next s (suc i, xs) w q = let z = q.flow in absurd (cc z)
      land new Returned s (zero, xs) w q = let z = q.flow in absurd (cc z)
      land new Returned s (suc i, xs) w q = (new, extends_refl new, record { flow = (let z = q.flow in cc z); going = q.going })
      land new Broken s (zero, xs) w q = let z = q.flow in absurd (cc z)
      land new Broken s (suc i, xs) w q = (new, extends_refl new, record { flow = (let z = q.flow in cc z); going = q.going })
      land new Continued s (zero, xs) w q = let z = q.flow in absurd (cc z)
      land new Continued s (suc i, xs) w q = (new, extends_refl new, record { flow = (let z = q.flow in cc z); going = q.going })

  -- one that has no `continue`
  pub in_none : (out : Exits) (rs : List ℕ) (made : List Kept) (o : Outcome Way) (n : m.Outcome m.Left) → NotContinued o → Joint made (Met (inside false out) rs) o n → Joint made (MetBy (BodyFlow out) rs) o n
  in_none out rs made (Done Next s) (m.Done x w) c h = (h.0, h.1, record { flow = h.2.flow; going = h.2.going })
  in_none out rs made (Done Returned s) (m.Done x w) c h = (h.0, h.1, record { flow = h.2.flow; going = h.2.going })
  in_none out rs made (Done Broken s) (m.Done x w) c h = (h.0, h.1, record { flow = h.2.flow; going = h.2.going })
  in_none out rs made (Done Continued s) n c h = absurd c
  in_none out rs made (Done Next s) (m.Stopped y o) c h = absurd h
  in_none out rs made (Done Next s) (m.Cut o) c h = absurd h
  in_none out rs made (Done Next s) m.Stuck c h = absurd h
  in_none out rs made (Done Returned s) (m.Stopped y o) c h = absurd h
  in_none out rs made (Done Returned s) (m.Cut o) c h = absurd h
  in_none out rs made (Done Returned s) m.Stuck c h = absurd h
  in_none out rs made (Done Broken s) (m.Stopped y o) c h = absurd h
  in_none out rs made (Done Broken s) (m.Cut o) c h = absurd h
  in_none out rs made (Done Broken s) m.Stuck c h = absurd h
  in_none out rs made (Stopped y o) n c h = h
  in_none out rs made (Cut o) n c h = h

  -- the same, from other registers
  pub met_by_from : (F : Way → ℕ → Type 0) (rs xs : List ℕ) (made : List Kept) (o : Outcome Way) (n : m.Outcome m.Left) → length xs ≡ length rs → Joint made (MetBy F xs) o n → Joint made (MetBy F rs) o n
  met_by_from F rs xs made (Done way s) (m.Done x w) e h = (h.0, h.1, record { flow = h.2.flow; going = record { state = h.2.going.state; keeps = λ r l. absurd (let q : ⊥ = omega (arith, l) in q); long = h.2.going.long ∙ e; matched = h.2.going.matched; alike = h.2.going.alike } })
  met_by_from F rs xs made (Done way s) (m.Stopped x o) e h = absurd h
  met_by_from F rs xs made (Done way s) (m.Cut o) e h = absurd h
  met_by_from F rs xs made (Done way s) m.Stuck e h = absurd h
  met_by_from F rs xs made (Stopped x o) n e h = h
  met_by_from F rs xs made (Cut o) n e h = h

  pub met_from : (out : Exits) (rs xs : List ℕ) (made : List Kept) (o : Outcome Way) (n : m.Outcome m.Left) → length xs ≡ length rs → Joint made (Met out xs) o n → Joint made (Met out rs) o n
  met_from out rs xs made o n e h = met_by_from (FlowIs out) rs xs made o n e h

  -- a local is given a value
  pub going_local : (rs xs : List ℕ) (x : ℕ) (t : Ty) (v : Value) (cell : ℕ) (made : List Kept) (s : State) (w : m.State) → x ≤ locals → length types ≡ suc locals → slice_get types x ≡ Some t → local_register locals x < length xs
      → Going p H types locals 0 rs made s xs w → Is p made t v → Coded H v cell → Going p H types locals 0 rs made (set_local x v s) (slice_set xs (local_register locals x) cell) w
  going_local rs xs x t v cell made s w le long e short g i c = record {
    state = (g.state.0, set_is p made types s.locals x t v g.state.1 e i);
    keeps = λ r l. absurd (let q : ⊥ = omega (arith, l) in q);
    long = length-set xs (local_register locals x) cell ∙ g.long;
    matched = matched_set H locals s.locals xs x v cell le (let l = are_long p made types s.locals g.state.1 in omega (arith, l, long, le)) short g.matched c;
    alike = record { turns = g.alike.turns; output = g.alike.output; heap = g.alike.heap };
  }

module _ (typed : Typed) (singles : List Kind) (checks : Bool) (call : ℕ → List Value → State → Outcome Value) (call' : ℕ → List ℕ → m.State → m.Outcome ℕ) (types : List Ty) (locals : ℕ) (ks : List Kind)
    (locals_at : LocalsAt typed singles types locals ks) (long_types : length types ≡ suc locals) where
  abbrev p : Program
  p = program_of typed

  abbrev P : f.Program
  P = lowered singles checks typed

  abbrev H : Head
  H = P.head

  abbrev n : ℕ
  n = length p.structs

  abbrev Runs : List Code → List ℕ → m.State → m.Outcome m.Left
  Runs cs rs w = m.run P call' ks (sequence cs) rs w

  abbrev Meets : Exits → List ℕ → List Kept → Way → State → m.Left → m.State → Type 0
  Meets out rs made way s x w = Met p H types locals out rs made way s x w

  abbrev Goes_on : ℕ → List ℕ → List Kept → State → List ℕ → m.State → Type 0
  Goes_on d rs made s xs w = Going p H types locals d rs made s xs w

  -- statements in order
  pub seq_ok : (out : Exits) (rs : List ℕ) (w : m.State) (made : List Kept) (o : Outcome Way) (xs ys : List Code) (go : State → Outcome Way) → Joint made (Meets out rs) o (Runs xs rs w)
      → ((new : List Kept) (s : State) (qs : List ℕ) (y : m.State) → Extends made new → Goes_on 0 rs new s qs y → Joint new (Meets out rs) (go s) (Runs ys qs y)) → Joint made (Meets out rs) (and_then o go) (Runs (xs ++ ys) rs w)
  seq_ok out rs w made o xs ys go h k = subst (λ z. Joint made (Meets out rs) (and_then o go) z) (sym (run_append P call' ks xs ys rs w)) (met_then p H types locals out rs made o _ go (m.run P call' ks (sequence ys)) h k)

  local_short : (x : ℕ) (t : Ty) (xs rs : List ℕ) → slice_get types x ≡ Some t → length xs ≡ length rs → length rs ≡ length ks → local_register locals x < length xs
  local_short x t xs rs e a b = subst (λ z. local_register locals x < z) (sym (a ∙ b)) (slice_get_within ks (local_register locals x) _ (locals_at x t e))

  there : (x : ℕ) (t : Ty) → slice_get types x ≡ Some t → x ≤ locals
  there x t e = let l = slice_get_within types x t e in omega (arith, l, long_types)

  -- a local gets the value in a register, and other code follows
  pub set_ok : (x : ℕ) (t : Ty) (d ra : ℕ) (v : Value) (rest : List Code) (made : List Kept) (s : State) (rs xs : List ℕ) (w : m.State) → slice_get types x ≡ Some t → slice_get ks ra ≡ Some (kind_of n singles t) → length rs ≡ length ks → Goes_on d rs made s xs w → Is p made t v → Coded H v (slice_index xs ra)
      → (Runs (f.Do (op.Move (local_register locals x) ra) ∷ rest) xs w ≡ Runs rest (slice_set xs (local_register locals x) (slice_index xs ra)) w)
      × Goes_on 0 rs made (set_local x v s) (slice_set xs (local_register locals x) (slice_index xs ra)) w
  set_ok x t d ra v rest made s rs xs w e ka long g i c = (
    sets_then P call' ks (op.Move (local_register locals x) ra) rest xs w (local_register locals x) (slice_index xs ra) (ap (on_kind (λ k. has ks (local_register locals x) k)) ka ∙ has_it ks (local_register locals x) (kind_of n singles t) (locals_at x t e)) refl,
    going_local p H types locals rs xs x t v (slice_index xs ra) made s w (there x t e) long_types e (local_short x t xs rs e g.long long) (going_less p H types locals 0 d rs xs made s w (omega arith) g) i c,
  )

  -- a local gets an operator's value
  pub update_ok : (x : ℕ) (o : Int32Op) (out : Exits) (d ra : ℕ) (old v : Value) (made : List Kept) (s : State) (rs xs : List ℕ) (w : m.State) → slice_get types x ≡ Some IntTy → slice_get ks ra ≡ Some kind.Int → length rs ≡ length ks → Goes_on d rs made s xs w
      → Is p made IntTy old → Coded H old (slice_index xs (local_register locals x)) → Is p made IntTy v → Coded H v (slice_index xs ra)
      → Joint made (Meets out rs) (then_do (value_or ArithFault (binary_value o old v) s) (λ z u. Done Next (set_local x z u))) (Runs (f.Do (op.Binary o (local_register locals x) (local_register locals x) ra) ∷ []) xs w)
  update_ok x o out d ra old v made s rs xs w e ka long g io co i c =
      subst (λ z. Joint made (Meets out rs) (then_do (value_or ArithFault (binary_value o old v) s) (λ z u. Done Next (set_local x z u))) z) (sym (does_last P call' ks (op.Binary o rx rx ra) xs w fits))
      (subst (λ z. Joint made (Meets out rs) (then_do (value_or ArithFault (binary_value o old v) s) (λ z u. Done Next (set_local x z u))) (m.operated (sets_some rx z) xs w)) (sym same) (at (op_value o (as_number old) (as_number v)) refl))
    where
      rx : ℕ
      rx = local_register locals x

      fits : op_fits H ks (op.Binary o rx rx ra) ≡ true
      fits = and_true _ _ (has_it ks rx kind.Int (locals_at x IntTy e)) (and_true _ _ (has_it ks rx kind.Int (locals_at x IntTy e)) (has_it ks ra kind.Int ka))

      same : op_value o (int_of (slice_index xs rx)) (int_of (slice_index xs ra)) ≡ op_value o (as_number old) (as_number v)
      same = ap (λ z. op_value o z (int_of (slice_index xs ra))) (coded_number H p made old (slice_index xs rx) io co) ∙ ap (λ z. op_value o (as_number old) z) (coded_number H p made v (slice_index xs ra) i c)

      at : (z : Option ℤ) → op_value o (as_number old) (as_number v) ≡ z
          → Joint made (Meets out rs) (then_do (value_or ArithFault (elim z [ None ↦ None | Some y ↦ Some (Number y) ]) s) (λ z u. Done Next (set_local x z u))) (m.operated (sets_some rx z) xs w)
      at None q = ap (m.Stopped ArithFault) (sym g.alike.output)
      at (Some z) q =
          joint_done made (Meets out rs) Next (set_local x (Number z) s) (0, slice_set xs rx (of_int z)) w
          (record {
            flow = refl;
            going = going_local p H types locals rs xs x IntTy (Number z) (of_int z) made s w (there x IntTy e) long_types e (local_short x IntTy xs rs e g.long long) (going_less p H types locals 0 d rs xs made s w (omega arith) g)
                (z, refl, ops_fit o (as_number old) (as_number v) z (number_fits p made old io) (number_fits p made v i) q) refl;
          })

  -- a condition that must hold
  pub assert_ok : (out : Exits) (d ra : ℕ) (v : Value) (made : List Kept) (s : State) (rs xs : List ℕ) (w : m.State) → slice_get ks ra ≡ Some kind.Bool → Goes_on d rs made s xs w → Is p made BoolTy v → Coded H v (slice_index xs ra)
      → Joint made (Meets out rs) (holds v s) (Runs (f.Do (op.Assert ra) ∷ []) xs w)
  assert_ok out d ra v made s rs xs w ka g i c =
      subst (λ z. Joint made (Meets out rs) (holds v s) z) (sym (does_last P call' ks (op.Assert ra) xs w (has_it ks ra kind.Bool ka)))
      (subst (λ z. Joint made (Meets out rs) (holds v s) (m.operated (if_zero z (Stops AssertFailed) Goes) xs w)) (sym (coded_truth H p made v (slice_index xs ra) i c)) (at (as_truth v)))
    where
      at : (b : Bool) → Joint made (Meets out rs) (elim b [ true ↦ Done Next s | false ↦ stop AssertFailed s ]) (m.operated (if_zero (of_bool b) (Stops AssertFailed) Goes) xs w)
      at true = joint_done made (Meets out rs) Next s (0, xs) w (record { flow = refl; going = going_less p H types locals 0 d rs xs made s w (omega arith) g })
      at false = ap (m.Stopped AssertFailed) (sym g.alike.output)

  -- the program stops with a text
  pub error_ok : (out : Exits) (d ra : ℕ) (v : Value) (made : List Kept) (s : State) (rs xs : List ℕ) (w : m.State) → slice_get ks ra ≡ Some kind.Text → Goes_on d rs made s xs w → Is p made TextTy v → Coded H v (slice_index xs ra)
      → Joint made (Meets out rs) (stop (ErrorCalled (as_text v)) s) (Runs (f.Fail ra ∷ []) xs w)
  error_ok out d ra v made s rs xs w ka g i c =
      run_one P call' ks (f.Fail ra) xs w
      ∙ ap (λ z. m.where_so z (m.failed (text_at H (slice_index xs ra)) w)) (has_it ks ra kind.Text ka)
      ∙ ap (λ z. m.failed z w) (subst (λ y. Coded H y (slice_index xs ra)) i.1 c)
      ∙ ap (λ z. m.Stopped (ErrorCalled z) w.output) (sym (ap as_text i.1)) ∙ ap (m.Stopped (ErrorCalled (as_text v))) (sym g.alike.output)
