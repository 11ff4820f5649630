-- Conditions of contracts, and loops.
use Rattle.std.proofs.Common.{◌≡◌, ◌≢◌, ℕ, zero, suc, ◌+◌, ◌<◌, ◌≤◌, Bool, true, false, List, [], ◌∷◌, ◌++◌, length, Option, Some, None, refl, sym, ap, ◌∙◌, subst, arith, append_assoc, cond}
use Rattle.std.specs.Prelude.{slice_get, slice_index, slice_set, map}
use Rattle.cells.specs.Outcomes.{Done, Stopped, Cut, then_do}
use Rattle.c0_typed.specs.Values.{Value, Tree, as_truth}
use Rattle.c0_typed.specs.Trees.{Program, Ty, BoolTy}
use Rattle.c0_typed.specs.Meaning.{State, Outcome, Way, Next, Returned, after_body, all_hold, and_then, checked, eval, holds, if_true, loop, struct_defaults, turn}
use Rattle.c0_typed.specs.Typing.{AllBool, Extends, FitsProgram, FreshSound, Has, Is, Kept}
use Rattle.c0_typed.specs.Views.{exp_of, exps_of, program_of, texts_of}
use Rattle.c0_typed.proofs.Soundness.{extends_refl}
use Rattle.c0_typed.specs.declared.tree.Expression.{Expression}
use Rattle.c0_typed.specs.declared.tree.Typed.{Typed}
use Rattle.code_form.specs.declared.form.Kind.{Kind}
use Rattle.code_form.specs.declared.form.Kind.TheVariants as kind
use Rattle.code_form.specs.declared.form.Operation.TheVariants as op
use Rattle.code_form.specs.Code.{has, if_zero, of_bool}
use Rattle.code_form.specs.Form.{Head}
use Rattle.middle_form.specs.Form.{Code}
use Rattle.middle_form.specs.Form as f
use Rattle.middle_form.specs.Meaning as m
use Rattle.lower.specs.Coded.{Coded}
use Rattle.lower_tables.specs.Known.{Knows, KnowsAll}
use Rattle.lower_expressions.specs.Expressions as parts
use Rattle.lower.specs.Exits.{deeper}
use Rattle.lower.specs.declared.exits.Exits.{Exits}
use Rattle.lower.specs.Lowered.{lowered}
use Rattle.lower_expressions.specs.Expressions.{conditions_code, conditions_kinds, sequence, value_at}
use Rattle.lower.proofs.Joint.{Joint, Lands, joint_done, joint_from, joint_if, joint_on, joint_turn, run_append, run_one}
use Rattle.lower.proofs.Operators.{coded_truth}
use Rattle.lower.proofs.Registers.{At, at_left, at_right, has_it, keeps_refl}
use Rattle.lower.proofs.Running.{going_less, going_start}
use Rattle.lower.proofs.Sides.{Going, HeapFacts, Valued, joint_valued}
use Rattle.lower.proofs.Values.{LocalsAt, value_kind}
use Rattle.lower.proofs.Arguments.{CallsOk}
use Rattle.lower.proofs.Expressions as e
use Rattle.lower.proofs.Evaluated as v
use Rattle.lower.proofs.Steps.{BodyFlow, FlowIs, Met, MetBy, TurnsFlow, assert_ok, body_then, met_by_from, met_from, met_then, seq_ok, turned_then}

module _ (typed : Typed) (singles : List Kind) (checks : Bool) (call : ℕ → List Value → State → Outcome Value) (call' : ℕ → List ℕ → m.State → m.Outcome ℕ) (types : List Ty) (locals : ℕ) (ks : List Kind)
    (locals_at : LocalsAt typed singles types locals ks) (long_types : length types ≡ suc locals) (fp : FitsProgram (program_of typed)) (fresh : FreshSound) (facts : HeapFacts (program_of typed) singles (lowered singles checks typed).head)
    (calls_ok : CallsOk typed singles checks call call') where
  abbrev p : Program
  p = program_of typed

  abbrev P : f.Program
  P = lowered singles checks typed

  abbrev H : Head
  H = P.head

  abbrev n : ℕ
  n = length p.structs

  abbrev ds : List Tree
  ds = struct_defaults [] p.structs

  abbrev texts : List (List ℕ)
  texts = texts_of typed

  abbrev kinds : Expression → List Kind
  kinds a = e.kinds typed singles checks call call' types locals ks a

  abbrev pub kinds_all : List Expression → List Kind
  kinds_all es = conditions_kinds p.structs singles (texts_of typed) typed.functions.items typed.main es

  abbrev code : Expression → ℕ → List Code
  code a d = e.code typed singles checks call call' types locals ks a d

  abbrev pub code_all : List Expression → ℕ → List Code
  code_all es d = conditions_code p.structs singles (texts_of typed) typed.functions.items typed.main locals es d

  abbrev Runs : List Code → List ℕ → m.State → m.Outcome m.Left
  Runs cs rs w = m.run P call' ks (sequence cs) rs w

  abbrev Meets : Exits → List ℕ → List Kept → Way → State → m.Left → m.State → Type 0
  Meets out rs made way s x w = Met p H types locals out rs made way s x w

  abbrev Goes : ℕ → List ℕ → List Kept → State → List ℕ → m.State → Type 0
  Goes d rs made s xs w = Going p H types locals d rs made s xs w

  -- a condition and its check
  pub condition_ok : (a : Expression) (out : Exits) (d : ℕ) (made : List Kept) (s : State) (rs : List ℕ) (w : m.State) → suc locals ≤ d → At ks d (kinds a) → length rs ≡ length ks → Knows n singles a → Has p types (exp_of texts a) BoolTy → Goes 0 rs made s rs w
      → Joint made (Meets out rs) (then_do (eval ds call (exp_of texts a) s) holds) (Runs (code a d ++ (f.Do (op.Assert (value_at locals a d)) ∷ [])) rs w)
  condition_ok a out d made s rs w low at long kn h g =
      e.exp_then typed singles checks call call' types locals ks a BoolTy d made s rs w (f.Do (op.Assert (value_at locals a d)) ∷ []) holds (Meets out rs)
      (v.exp_ok typed singles checks call call' types locals ks locals_at long_types fp fresh facts calls_ok a BoolTy d made s rs w low at long kn h (going_start p H types locals 0 d rs rs made s w g)) (λ new x y xs z ex i c g1.
      assert_ok typed singles checks call call' types locals ks locals_at long_types out d (value_at locals a d) x new y rs xs z (value_kind typed singles types locals ks locals_at a BoolTy d at h) g1 i c)

  fresh_going : (rs xs : List ℕ) (made : List Kept) (s : State) (w : m.State) → Goes 0 rs made s xs w → Goes 0 xs made s xs w
  fresh_going rs xs made s w g = going_start p H types locals 0 0 rs xs made s w g

  -- conditions in order
  pub conditions_ok : (es : List Expression) (out : Exits) (d : ℕ) (made : List Kept) (s : State) (rs : List ℕ) (w : m.State) → suc locals ≤ d → At ks d (kinds_all es) → length rs ≡ length ks → KnowsAll n singles es → AllBool p types (exps_of texts es) → Goes 0 rs made s rs w
      → Joint made (Meets out rs) (all_hold checks ds call (exps_of texts es) s) (Runs (code_all es d) rs w)
  conditions_ok [] out d made s rs w low at long kn h g = joint_done made (Meets out rs) Next s (0, rs) w (record { flow = refl; going = g })
  conditions_ok (a ∷ es) out d made s rs w low at long kn h g =
      let first : List Code = code a d ++ (f.Do (op.Assert (value_at locals a d)) ∷ []) in
      let rest : List Code = code_all es (d + length (kinds a)) in
      let same : first ++ rest ≡ code a d ++ (f.Do (op.Assert (value_at locals a d)) ∷ rest) = append_assoc (code a d) (f.Do (op.Assert (value_at locals a d)) ∷ []) rest in
      subst (λ z. Joint made (Meets out rs) (all_hold checks ds call (exps_of texts (a ∷ es)) s) (Runs z rs w)) same
      (seq_ok typed singles checks call call' types locals ks locals_at long_types out rs w made (then_do (eval ds call (exp_of texts a) s) holds) first rest (all_hold checks ds call (exps_of texts es))
      (condition_ok a out d made s rs w low (at_left ks d (kinds a) (kinds_all es) at) long kn.0 h.0 g) (λ new y xs z ex g1.
      met_from p H types locals out rs xs new _ _ g1.long (conditions_ok es out (d + length (kinds a)) new y xs z (omega arith) (at_right ks d (kinds a) (kinds_all es) at) (g1.long ∙ long) kn.1 h.1 (fresh_going rs xs new y z g1))))

  -- those that are looked at
  pub checked_ok : (es : List Expression) (out : Exits) (d : ℕ) (made : List Kept) (s : State) (rs : List ℕ) (w : m.State) → suc locals ≤ d → At ks d (kinds_all (parts.checked checks es)) → length rs ≡ length ks → KnowsAll n singles es → AllBool p types (exps_of texts es) → Goes 0 rs made s rs w
      → Joint made (Meets out rs) (checked checks ds call (exps_of texts es) s) (Runs (code_all (parts.checked checks es) d) rs w)
  checked_ok es out d made s rs w low at long kn h g = by checks refl
    where
      by : (c : Bool) → checks ≡ c → Joint made (Meets out rs) (elim c [ true ↦ all_hold checks ds call (exps_of texts es) s | false ↦ Done Next s ]) (Runs (code_all (cond c es []) d) rs w)
      by true q = conditions_ok es out d made s rs w low (subst (λ c. At ks d (kinds_all (cond c es []))) q at) long kn h g
      by false q = joint_done made (Meets out rs) Next s (0, rs) w (record { flow = refl; going = g })

  -- ---- loops

  falls_twice : (o : m.Outcome m.Left) (a b : List ℕ → m.State → m.Outcome m.Left) → m.then_do (m.then_do o (m.falls a)) (m.falls b) ≡ m.then_do o (m.falls (λ xs w. m.then_do (a xs w) (m.falls b)))
  falls_twice (m.Done (zero, xs) w) a b = refl
  falls_twice (m.Done (suc i, xs) w) a b = refl
  falls_twice (m.Stopped x o) a b = refl
  falls_twice (m.Cut o) a b = refl
  falls_twice m.Stuck a b = refl

  -- one sequence behind the other, and what follows
  appended : (xs ys : List Code) (on : List ℕ → m.State → m.Outcome m.Left) (rs : List ℕ) (w : m.State) → m.then_do (Runs (xs ++ ys) rs w) (m.falls on) ≡ m.then_do (Runs xs rs w) (m.falls (λ qs y. m.then_do (Runs ys qs y) (m.falls on)))
  appended xs ys on rs w = ap (λ z. m.then_do z (m.falls on)) (run_append P call' ks xs ys rs w) ∙ falls_twice (Runs xs rs w) (m.run P call' ks (sequence ys)) on

  -- A loop: what must hold before its condition, its condition, and what is done where it holds
  module _ (es : List Expression) (c : Expression) (out : Exits) (d : ℕ) (low : suc locals ≤ d) (at_es : At ks d (kinds_all (parts.checked checks es))) (at_c : At ks (d + length (kinds_all (parts.checked checks es))) (kinds c))
      (kn_es : KnowsAll n singles es) (kn_c : Knows n singles c) (has_es : AllBool p types (exps_of texts es)) (has_c : Has p types (exp_of texts c) BoolTy) where
    b : ℕ
    b = d + length (kinds_all (parts.checked checks es))

    rc : ℕ
    rc = value_at locals c (d + length (kinds_all (parts.checked checks es)))

    abbrev Turns : List ℕ → List Kept → Way → State → m.Left → m.State → Type 0
    Turns rs made way s x w = MetBy p H types locals (TurnsFlow out) rs made way s x w

    test : List Code
    test = code_all (parts.checked checks es) d ++ code c (d + length (kinds_all (parts.checked checks es)))

    -- one turn
    turn_ok : (more : State → Outcome Way) (more' : List ℕ → m.State → m.Outcome m.Left) → ((made : List Kept) (s : State) (rs : List ℕ) (w : m.State) → length rs ≡ length ks → Goes 0 rs made s rs w → Joint made (Turns rs) (more s) (more' rs w))
        → (made : List Kept) (s : State) (rs : List ℕ) (w : m.State) → length rs ≡ length ks → Goes 0 rs made s rs w
        → Joint made (Turns rs) (and_then (checked checks ds call (exps_of texts es) s) (λ y. then_do (eval ds call (exp_of texts c) y) (λ v u. if_true v (more u) (Done Next u))))
        (m.then_do (Runs (code_all (parts.checked checks es) d ++ code c (d + length (kinds_all (parts.checked checks es)))) rs w) (m.falls (λ qs y. if_zero (slice_index qs (value_at locals c (d + length (kinds_all (parts.checked checks es))))) (m.on qs y) (more' qs y))))
    turn_ok more more' more_ok made s rs w long g =
        subst (λ z. Joint made (Turns rs) (and_then (checked checks ds call (exps_of texts es) s) (λ y. then_do (eval ds call (exp_of texts c) y) (λ v u. if_true v (more u) (Done Next u)))) z)
        (sym (appended (code_all (parts.checked checks es) d) (code c (d + length (kinds_all (parts.checked checks es)))) (λ qs y. if_zero (slice_index qs (value_at locals c (d + length (kinds_all (parts.checked checks es))))) (m.on qs y) (more' qs y)) rs w))
        (turned_then p H types locals out rs made (checked checks ds call (exps_of texts es) s) (Runs (code_all (parts.checked checks es) d) rs w) (λ y. then_do (eval ds call (exp_of texts c) y) (λ v u. if_true v (more u) (Done Next u)))
        (λ qs y. m.then_do (Runs (code c (d + length (kinds_all (parts.checked checks es)))) qs y) (m.falls (λ qs y. if_zero (slice_index qs (value_at locals c (d + length (kinds_all (parts.checked checks es))))) (m.on qs y) (more' qs y))))
        (checked_ok es (deeper out) d made s rs w low at_es long kn_es has_es g) (λ new y xs z ex g1.
        let place : ℕ = d + length (kinds_all (parts.checked checks es)) in
        met_by_from p H types locals (TurnsFlow out) rs xs new (then_do (eval ds call (exp_of texts c) y) (λ v u. if_true v (more u) (Done Next u))) _ g1.long
        (joint_valued p H types locals new (value_at locals c place) BoolTy place xs (eval ds call (exp_of texts c) y) (Runs (code c place) xs z) (λ v u. if_true v (more u) (Done Next u)) (λ qs y. if_zero (slice_index qs (value_at locals c place)) (m.on qs y) (more' qs y)) (Turns xs)
        (v.exp_ok typed singles checks call call' types locals ks locals_at long_types fp fresh facts calls_ok c BoolTy place new y xs z (omega arith) at_c (g1.long ∙ long) kn_c has_c (going_start p H types locals 0 place rs xs new y z g1)) (λ last x u ys y2 ex2 i co g2.
        joint_if last (Turns xs) x (slice_index ys (value_at locals c place)) (more u) (Done Next u) (more' ys y2) (m.on ys y2) (coded_truth H p last x (slice_index ys (value_at locals c place)) i co)
        (met_by_from p H types locals (TurnsFlow out) xs ys last (more u) (more' ys y2) g2.long (more_ok last u ys y2 (g2.long ∙ g1.long ∙ long) (going_start p H types locals place 0 xs ys last u y2 g2)))
        (joint_done last (Turns xs) Next u (0, ys) y2 (record { flow = refl; going = going_less p H types locals 0 place xs ys last u y2 (omega arith) g2 }))))))

    -- so many turns
    pub loop_ok : (body step : State → Outcome Way) (bs ss : List Code)
        → ((made : List Kept) (s : State) (rs : List ℕ) (w : m.State) → length rs ≡ length ks → Goes 0 rs made s rs w → Joint made (MetBy p H types locals (BodyFlow out) rs) (body s) (Runs bs rs w))
        → ((made : List Kept) (s : State) (rs : List ℕ) (w : m.State) → length rs ≡ length ks → Goes 0 rs made s rs w → Joint made (Meets (deeper out) rs) (step s) (Runs ss rs w))
        → (k : ℕ) (made : List Kept) (s : State) (rs : List ℕ) (w : m.State) → length rs ≡ length ks → Goes 0 rs made s rs w
        → Joint made (Turns rs) (loop (checked checks ds call (exps_of texts es)) (eval ds call (exp_of texts c)) body step k s)
        (m.loop (m.run P call' ks (sequence (code_all (parts.checked checks es) d ++ code c (d + length (kinds_all (parts.checked checks es)))))) (value_at locals c (d + length (kinds_all (parts.checked checks es)))) (m.run P call' ks (sequence (bs ++ ss))) k rs w)
    loop_ok body step bs ss body_ok step_ok zero made s rs w long g = turn_ok (λ u. Cut u.output) (λ qs y. m.Cut y.output) (λ made s rs w long g. ap m.Cut (sym g.alike.output)) made s rs w long g
    loop_ok body step bs ss body_ok step_ok (suc k) made s rs w long g =
        turn_ok (λ u. turn u (λ w. after_body (body w) (λ x. and_then (step x) (loop (checked checks ds call (exps_of texts es)) (eval ds call (exp_of texts c)) body step k))))
        (λ qs y. m.turn y (λ u. m.then_do (Runs (bs ++ ss) qs u) (m.falls (m.loop (m.run P call' ks (sequence (code_all (parts.checked checks es) d ++ code c (d + length (kinds_all (parts.checked checks es)))))) (value_at locals c (d + length (kinds_all (parts.checked checks es)))) (m.run P call' ks (sequence (bs ++ ss))) k))))
        (λ made s rs w long g. again made s rs w long g (loop_ok body step bs ss body_ok step_ok k)) made s rs w long g
      where
        Rest : Type 0
        Rest = (made : List Kept) (s : State) (rs : List ℕ) (w : m.State) → length rs ≡ length ks → Goes 0 rs made s rs w
            → Joint made (Turns rs) (loop (checked checks ds call (exps_of texts es)) (eval ds call (exp_of texts c)) body step k s)
            (m.loop (m.run P call' ks (sequence (code_all (parts.checked checks es) d ++ code c (d + length (kinds_all (parts.checked checks es)))))) (value_at locals c (d + length (kinds_all (parts.checked checks es)))) (m.run P call' ks (sequence (bs ++ ss))) k rs w)

        again : (made : List Kept) (s : State) (rs : List ℕ) (w : m.State) → length rs ≡ length ks → Goes 0 rs made s rs w → Rest
            → Joint made (Turns rs) (turn s (λ w. after_body (body w) (λ x. and_then (step x) (loop (checked checks ds call (exps_of texts es)) (eval ds call (exp_of texts c)) body step k))))
            (m.turn w (λ u. m.then_do (Runs (bs ++ ss) rs u) (m.falls (m.loop (m.run P call' ks (sequence (code_all (parts.checked checks es) d ++ code c (d + length (kinds_all (parts.checked checks es)))))) (value_at locals c (d + length (kinds_all (parts.checked checks es)))) (m.run P call' ks (sequence (bs ++ ss))) k))))
        again made s rs w long g rest =
            joint_turn made (Turns rs) s w (λ w. after_body (body w) (λ x. and_then (step x) (loop (checked checks ds call (exps_of texts es)) (eval ds call (exp_of texts c)) body step k))) (λ u. m.then_do (Runs (bs ++ ss) rs u) (m.falls (m.loop (m.run P call' ks (sequence (code_all (parts.checked checks es) d ++ code c (d + length (kinds_all (parts.checked checks es)))))) (value_at locals c (d + length (kinds_all (parts.checked checks es)))) (m.run P call' ks (sequence (bs ++ ss))) k))) g.alike.turns g.alike.output (λ i.
            let s1 : State = record s { turns = i } in
            let w1 : m.State = record w { turns = i } in
            let g1 : Goes 0 rs made s1 rs w1 = record { state = g.state; keeps = g.keeps; long = g.long; matched = g.matched; alike = record { turns = refl; output = g.alike.output; heap = g.alike.heap } } in
            subst (λ z. Joint made (Turns rs) (after_body (body s1) (λ x. and_then (step x) (loop (checked checks ds call (exps_of texts es)) (eval ds call (exp_of texts c)) body step k))) z) (sym (appended bs ss (m.loop (m.run P call' ks (sequence (code_all (parts.checked checks es) d ++ code c (d + length (kinds_all (parts.checked checks es)))))) (value_at locals c (d + length (kinds_all (parts.checked checks es)))) (m.run P call' ks (sequence (bs ++ ss))) k) rs w1))
            (body_then p H types locals out rs made (body s1) (Runs bs rs w1) (λ x. and_then (step x) (loop (checked checks ds call (exps_of texts es)) (eval ds call (exp_of texts c)) body step k)) (λ qs y. m.then_do (Runs ss qs y) (m.falls (m.loop (m.run P call' ks (sequence (code_all (parts.checked checks es) d ++ code c (d + length (kinds_all (parts.checked checks es)))))) (value_at locals c (d + length (kinds_all (parts.checked checks es)))) (m.run P call' ks (sequence (bs ++ ss))) k))) (body_ok made s1 rs w1 long g1) (λ new y xs z ex g2.
            met_by_from p H types locals (TurnsFlow out) rs xs new (and_then (step y) (loop (checked checks ds call (exps_of texts es)) (eval ds call (exp_of texts c)) body step k)) _ g2.long
            (turned_then p H types locals out xs new (step y) (Runs ss xs z) (loop (checked checks ds call (exps_of texts es)) (eval ds call (exp_of texts c)) body step k) (m.loop (m.run P call' ks (sequence (code_all (parts.checked checks es) d ++ code c (d + length (kinds_all (parts.checked checks es)))))) (value_at locals c (d + length (kinds_all (parts.checked checks es)))) (m.run P call' ks (sequence (bs ++ ss))) k) (step_ok new y xs z (g2.long ∙ long) (fresh_going rs xs new y z g2)) (λ last u ys y2 ex2 g3.
            met_by_from p H types locals (TurnsFlow out) xs ys last (loop (checked checks ds call (exps_of texts es)) (eval ds call (exp_of texts c)) body step k u) _ g3.long (rest last u ys y2 (g3.long ∙ g2.long ∙ long) (fresh_going xs ys last u y2 g3)))))))
