-- By induction: each statement comes to the same as its code.
use Rattle.std.proofs.Common.{Box, Global, Vec, ◌≡◌, ◌≢◌, ℕ, zero, suc, ◌+◌, ◌<◌, ◌≤◌, Bool, true, false, List, [], ◌∷◌, ◌++◌, length, Option, Some, None, refl, sym, ap, ◌∙◌, subst, arith}
use Rattle.std.specs.Prelude.{slice_get, slice_index, slice_set, map}
use Rattle.cells.specs.declared.int32.Int32Op.{Int32Op}
use Rattle.cells.specs.Outcomes.{Done, Stopped, Cut, then_do}
use Rattle.c0_typed.specs.Values.{Value, Tree, as_text}
use Rattle.cells.specs.Stops.{ArithFault, ErrorCalled}
use Rattle.c0_typed.specs.Trees.{Program, Ty, IntTy, BoolTy, TextTy}
use Rattle.c0_typed.specs.Meaning.{State, Outcome, Way, Next, Returned, Broken, Continued, and_then, binary_value, checked, eval, exec, holds, if_true, local, loop, set_local, stop, struct_defaults, value_or}
use Rattle.c0_typed.specs.Typing.{AllBool, Extends, Fits, FitsProgram, FreshSound, Has, Is, Kept}
use Rattle.c0_typed.specs.Views.{block_row, exp_of, exps_of, place_of, program_of, stmt_of, texts_of}
use Rattle.c0_typed.proofs.Soundness.{extends_refl, is_more, local_is}
use Rattle.c0_typed.specs.declared.tree.Expression.{Expression}
use Rattle.c0_typed.specs.declared.tree.Place.{Place}
use Rattle.c0_typed.specs.declared.tree.Statement.{Statement, Row_of-Statement, end_of-Statement, more_of-Statement, Block', Set, Update, Store, StoreUpdate, Do, If', Loop', Return, ReturnValue, Break, Continue, Assert, Error, Check}
use Rattle.c0_typed.specs.declared.tree.Typed.{Typed}
use Rattle.code_form.specs.declared.form.Kind.{Kind}
use Rattle.code_form.specs.declared.form.Kind.TheVariants as kind
use Rattle.code_form.specs.declared.form.Operation.TheVariants as op
use Rattle.code_form.specs.Code.{has}
use Rattle.code_form.specs.Form.{Head}
use Rattle.middle_form.specs.Form.{Code}
use Rattle.middle_form.specs.Form as f
use Rattle.middle_form.specs.Meaning as m
use Rattle.lower.specs.Coded.{Coded}
use Rattle.lower_tables.specs.Known.{Knows, KnowsAll, KnowsBlock, KnowsPlace, KnowsStatement}
use Rattle.lower_expressions.specs.Expressions as parts
use Rattle.lower.specs.Exits.{deeper, has_continue, inside}
use Rattle.lower.specs.declared.exits.Exits.{Exits}
use Rattle.lower.specs.Lowered.{block_code, block_kinds, lowered, stmt_code, stmt_kinds, turn_code}
use Rattle.lower_expressions.specs.Expressions.{local_register, sequence, value_at}
use Rattle.lower.proofs.Joint.{Joint, Lands, joint_done, joint_if, joint_on, joint_then_done, run_one}
use Rattle.lower.proofs.Operators.{coded_truth}
use Rattle.lower.proofs.Registers.{At, at_left, at_right, has_it}
use Rattle.lower.proofs.Running.{going_less, going_start}
use Rattle.lower.proofs.Sides.{Going, HeapFacts, Valued}
use Rattle.lower.proofs.Values.{LocalsAt, local_there, value_kind}
use Rattle.lower.proofs.Arguments.{CallsOk}
use Rattle.lower.proofs.Continues.{never_continues}
use Rattle.lower.proofs.Expressions as e
use Rattle.lower.proofs.Evaluating as r
use Rattle.lower.proofs.Evaluated as v
use Rattle.lower.proofs.Loops as loops
use Rattle.lower.proofs.Loops.{checked_ok, condition_ok, loop_ok}
use Rattle.lower.proofs.Steps.{BodyFlow, FlowIs, Met, MetBy, TurnsFlow, error_ok, in_block, in_none, met_from, seq_ok, set_ok, update_ok}
use Rattle.lower.proofs.Storing.{store_case, store_update_case}

module _ (typed : Typed) (singles : List Kind) (checks : Bool) (call : ℕ → List Value → State → Outcome Value) (call' : ℕ → List ℕ → m.State → m.Outcome ℕ) (types : List Ty) (locals : ℕ) (ks : List Kind)
    (locals_at : LocalsAt typed singles types locals ks) (long_types : length types ≡ suc locals) (fp : FitsProgram (program_of typed)) (fresh : FreshSound) (facts : HeapFacts (program_of typed) singles (lowered singles checks typed).head)
    (calls_ok : CallsOk typed singles checks call call') where
  abbrev p : Program
  p = program_of typed

  abbrev P : f.Program
  P = lowered singles checks typed

  abbrev H : Head
  H = P.head

  abbrev n : ℕ
  n = length p.structs

  abbrev ds : List Tree
  ds = struct_defaults [] p.structs

  abbrev texts : List (List ℕ)
  texts = texts_of typed

  abbrev kinds : Expression → List Kind
  kinds a = e.kinds typed singles checks call call' types locals ks a

  abbrev kinds_all : List Expression → List Kind
  kinds_all es = loops.kinds_all typed singles checks call call' types locals ks locals_at long_types fp fresh facts calls_ok es

  abbrev pub kinds_stmt : Statement → List Kind
  kinds_stmt b = stmt_kinds p.structs singles (texts_of typed) typed.functions.items typed.main checks b

  abbrev pub kinds_block : {i : _} → Row_of-Statement i → List Kind
  kinds_block bs = block_kinds p.structs singles (texts_of typed) typed.functions.items typed.main checks bs

  abbrev code : Expression → ℕ → List Code
  code a d = e.code typed singles checks call call' types locals ks a d

  abbrev code_all : List Expression → ℕ → List Code
  code_all es d = loops.code_all typed singles checks call call' types locals ks locals_at long_types fp fresh facts calls_ok es d

  abbrev pub code_stmt : Statement → ℕ → Exits → List Code
  code_stmt b d out = stmt_code p.structs singles (texts_of typed) typed.functions.items typed.main locals checks b d out

  abbrev pub code_block : {i : _} → Row_of-Statement i → ℕ → Exits → List Code
  code_block bs d out = block_code p.structs singles (texts_of typed) typed.functions.items typed.main locals checks bs d out

  abbrev Runs : List Code → List ℕ → m.State → m.Outcome m.Left
  Runs cs rs w = m.run P call' ks (sequence cs) rs w

  abbrev Meets : Exits → List ℕ → List Kept → Way → State → m.Left → m.State → Type 0
  Meets out rs made way s x w = Met p H types locals out rs made way s x w

  abbrev Goes : ℕ → List ℕ → List Kept → State → List ℕ → m.State → Type 0
  Goes d rs made s xs w = Going p H types locals d rs made s xs w

  abbrev Gives : ℕ → Ty → ℕ → List ℕ → List Kept → Value → State → m.Left → m.State → Type 0
  Gives r t d rs made v s x w = Valued p H types locals r t d rs made v s x w

  abbrev pub StmtOk : Statement → Type 0
  StmtOk b = (out : Exits) (d : ℕ) (made : List Kept) (s : State) (rs : List ℕ) (w : m.State) → suc locals ≤ d → At ks d (kinds_stmt b) → length rs ≡ length ks → KnowsStatement n singles b → Fits p types (stmt_of texts b) → Goes 0 rs made s rs w
      → Joint made (Meets out rs) (exec checks ds call (stmt_of texts b) s) (Runs (code_stmt b d out) rs w)

  abbrev pub BlockOk : {i : _} → Row_of-Statement i → Type 0
  BlockOk bs = (out : Exits) (d : ℕ) (made : List Kept) (s : State) (rs : List ℕ) (w : m.State) → suc locals ≤ d → At ks d (kinds_block bs) → length rs ≡ length ks → KnowsBlock n singles bs → Fits p types (block_row texts bs) → Goes 0 rs made s rs w
      → Joint made (Meets out rs) (exec checks ds call (block_row texts bs) s) (Runs (code_block bs d out) rs w)

  exp_ok : (a : Expression) → e.ExpOk typed singles checks call call' types locals ks a
  exp_ok a = v.exp_ok typed singles checks call call' types locals ks locals_at long_types fp fresh facts calls_ok a

  start : (d b : ℕ) (rs xs : List ℕ) (made : List Kept) (s : State) (w : m.State) → Goes d rs made s xs w → Goes b xs made s xs w
  start d b rs xs made s w g = going_start p H types locals d b rs xs made s w g

  less : (d : ℕ) (rs xs : List ℕ) (made : List Kept) (s : State) (w : m.State) → Goes d rs made s xs w → Goes 0 rs made s xs w
  less d rs xs made s w g = going_less p H types locals 0 d rs xs made s w (omega arith) g

  then_exp : {C : Type 0} (a : Expression) (t : Ty) (d : ℕ) (made : List Kept) (s : State) (rs : List ℕ) (w : m.State) (rest : List Code) (go : Value → State → Outcome C) (S : List Kept → C → State → m.Left → m.State → Type 0)
      → Joint made (Gives (value_at locals a d) t d rs) (eval ds call (exp_of texts a) s) (Runs (code a d) rs w)
      → ((new : List Kept) (x : Value) (y : State) (xs : List ℕ) (z : m.State) → Extends made new → Is p new t x → Coded H x (slice_index xs (value_at locals a d)) → Goes d rs new y xs z → Joint new S (go x y) (Runs rest xs z))
      → Joint made S (then_do (eval ds call (exp_of texts a) s) go) (Runs (code a d ++ rest) rs w)
  then_exp a t d made s rs w rest go S h next = e.exp_then typed singles checks call call' types locals ks a t d made s rs w rest go S h next

  set_case : (x : ℕ) (a : Expression) → StmtOk (Set x a)
  set_case x a out d made s rs w low at long kn h g =
      then_exp a h.0 d made s rs w (f.Do (op.Move (local_register locals x) (value_at locals a d)) ∷ []) (λ v t. Done Next (set_local x v t)) (Meets out rs) (exp_ok a h.0 d made s rs w low at long kn h.2 (start 0 d rs rs made s w g)) (λ new y u xs z ex i c g1.
      let done = set_ok typed singles checks call call' types locals ks locals_at long_types x h.0 d (value_at locals a d) y [] new u rs xs z h.1 (value_kind typed singles types locals ks locals_at a h.0 d at h.2) long g1 i c in
      subst (λ o. Joint new (Meets out rs) (Done Next (set_local x y u)) o) (sym done.0)
      (joint_done new (Meets out rs) Next (set_local x y u) (0, slice_set xs (local_register locals x) (slice_index xs (value_at locals a d))) z (record { flow = refl; going = done.1 })))

  update_case : (x : ℕ) (o : Int32Op) (a : Expression) → StmtOk (Update x o a)
  update_case x o a out d made s rs w low at long kn h g =
      then_exp a IntTy d made s rs w (f.Do (op.Binary o (local_register locals x) (local_register locals x) (value_at locals a d)) ∷ []) (λ v t. then_do (value_or ArithFault (binary_value o (local x s) v) t) (λ w u. Done Next (set_local x w u))) (Meets out rs)
      (exp_ok a IntTy d made s rs w low at long kn h.1 (start 0 d rs rs made s w g)) (λ new y u xs z ex i c g1.
      let le : x ≤ locals = local_there typed singles types locals ks long_types x IntTy h.0 in
      let below : local_register locals x ≤ locals = low_register x le in
      let short : local_register locals x < d = omega arith in
      update_ok typed singles checks call call' types locals ks locals_at long_types x o out d (value_at locals a d) (local x s) y new u rs xs z h.0 (value_kind typed singles types locals ks locals_at a IntTy d at h.1) long g1
      (is_more p made new ex IntTy (local x s) (local_is p made types s.locals x IntTy g.state.1 h.0)) (subst (Coded H (local x s)) (sym (g1.keeps (local_register locals x) short)) (g.matched x le)) i c)
    where
      low_register : (x : ℕ) → x ≤ locals → local_register locals x ≤ locals
      low_register zero l = omega arith
      low_register (suc x) l = omega arith

  do_case : (a : Expression) → StmtOk (Do a)
  do_case a out d made s rs w low at long kn h g =
      joint_then_done made (Gives (value_at locals a d) h.0 d rs) (Meets out rs) (eval ds call (exp_of texts a) s) (Runs (code a d) rs w) (λ v t. Next) (λ v t. t) (exp_ok a h.0 d made s rs w low at long kn h.1 (start 0 d rs rs made s w g)) (λ new x y b z ex q.
      record { flow = q.falls; going = less d rs b.1 new y z q.going })

  if_case : (a : Expression) (q : Box (Unit {0}) Global) (b : Statement) (r' : Box (Unit {0}) Global) (c : Statement) → StmtOk b → StmtOk c → StmtOk (If' a q b r' c)
  if_case a q b r' c ok_b ok_c out d made s rs w low at long kn h g =
      let b' : ℕ = d + length (kinds a) in
      let c' : ℕ = d + length (kinds a) + length (kinds_stmt b) in
      let at_a = at_left ks d (kinds a) (kinds_stmt b ++ kinds_stmt c) at in
      let behind = at_right ks d (kinds a) (kinds_stmt b ++ kinds_stmt c) at in
      let at_b = at_left ks b' (kinds_stmt b) (kinds_stmt c) behind in
      let at_c = at_right ks b' (kinds_stmt b) (kinds_stmt c) behind in
      then_exp a BoolTy d made s rs w (f.Choose (value_at locals a d) (sequence (code_stmt b b' out)) (sequence (code_stmt c c' out)) ∷ []) (λ v t. if_true v (exec checks ds call (stmt_of texts b) t) (exec checks ds call (stmt_of texts c) t)) (Meets out rs)
      (exp_ok a BoolTy d made s rs w low at_a long kn.0 h.0 (start 0 d rs rs made s w g)) (λ new y u xs z ex i co g1.
      let g2 = start d 0 rs xs new u z g1 in
      subst (λ o. Joint new (Meets out rs) (if_true y (exec checks ds call (stmt_of texts b) u) (exec checks ds call (stmt_of texts c) u)) o)
      (sym (r.choose_runs typed singles checks call call' types locals ks locals_at long_types (value_at locals a d) (sequence (code_stmt b b' out)) (sequence (code_stmt c c' out)) xs z (value_kind typed singles types locals ks locals_at a BoolTy d at_a h.0)))
      (joint_if new (Meets out rs) y (slice_index xs (value_at locals a d)) (exec checks ds call (stmt_of texts b) u) (exec checks ds call (stmt_of texts c) u) (Runs (code_stmt b b' out) xs z) (Runs (code_stmt c c' out) xs z) (coded_truth H p new y (slice_index xs (value_at locals a d)) i co)
      (met_from p H types locals out rs xs new (exec checks ds call (stmt_of texts b) u) (Runs (code_stmt b b' out) xs z) g1.long (ok_b out b' new u xs z (omega arith) at_b (g1.long ∙ long) kn.1 h.1 g2))
      (met_from p H types locals out rs xs new (exec checks ds call (stmt_of texts c) u) (Runs (code_stmt c c' out) xs z) g1.long (ok_c out c' new u xs z (omega arith) at_c (g1.long ∙ long) kn.2 h.2 g2))))

  -- behind a loop
  pub behind_ok : (out : Exits) (rs : List ℕ) (made : List Kept) (o : Outcome Way) (x : m.Outcome m.Left) → Joint made (MetBy p H types locals (TurnsFlow out) rs) o x → Joint made (Meets out rs) o (m.then_do x m.behind)
  behind_ok out rs made o x h = joint_on made (MetBy p H types locals (TurnsFlow out) rs) (Meets out rs) o x m.behind h (λ new way s b w ex q. land new way s b w q)
    where
      land : (new : List Kept) (way : Way) (s : State) (b : m.Left) (w : m.State) → MetBy p H types locals (TurnsFlow out) rs new way s b w → Lands new (Meets out rs) way s (m.behind b w)
      land new way s (zero, xs) w q = (new, extends_refl new, record { flow = q.flow; going = q.going })
      land new way s (suc i, xs) w q = (new, extends_refl new, record { flow = q.flow; going = q.going })

  -- the body of a loop
  body_case : (b : Statement) → StmtOk b → (out : Exits) (d : ℕ) (made : List Kept) (s : State) (rs : List ℕ) (w : m.State) → suc locals ≤ d → At ks d (kinds_stmt b) → length rs ≡ length ks → KnowsStatement n singles b → Fits p types (stmt_of texts b) → Goes 0 rs made s rs w
      → Joint made (MetBy p H types locals (BodyFlow out) rs) (exec checks ds call (stmt_of texts b) s) (Runs (turn_code (has_continue b) (code_stmt b d (inside (has_continue b) out))) rs w)
  body_case b ok_b out d made s rs w low at long kn h g = by (has_continue b) refl
    where
      by : (c : Bool) → has_continue b ≡ c → Joint made (MetBy p H types locals (BodyFlow out) rs) (exec checks ds call (stmt_of texts b) s) (Runs (turn_code c (code_stmt b d (inside c out))) rs w)
      by true q =
          subst (λ z. Joint made (MetBy p H types locals (BodyFlow out) rs) (exec checks ds call (stmt_of texts b) s) z) (sym (run_one P call' ks (f.Block (sequence (code_stmt b d (inside true out)))) rs w))
          (in_block p H types locals out rs made (exec checks ds call (stmt_of texts b) s) (Runs (code_stmt b d (inside true out)) rs w) (ok_b (inside true out) d made s rs w low at long kn h g))
      by false q =
          in_none p H types locals out rs made (exec checks ds call (stmt_of texts b) s) (Runs (code_stmt b d (inside false out)) rs w) (never_continues checks ds call texts b q s) (ok_b (inside false out) d made s rs w low at long kn h g)

  loop_case : (es : Vec Expression Global) (a : Expression) (q : Box (Unit {0}) Global) (b : Statement) (r' : Box (Unit {0}) Global) (c : Statement) → StmtOk b → StmtOk c → StmtOk (Loop' es a q b r' c)
  loop_case es a q b r' c ok_b ok_c out d made s rs w low at long kn h g =
      let k0 : List Kind = kinds_all (parts.checked checks es.items) in
      let a' : ℕ = d + length k0 in
      let b' : ℕ = d + length k0 + length (kinds a) in
      let c' : ℕ = d + length k0 + length (kinds a) + length (kinds_stmt b) in
      let at_es = at_left ks d k0 (kinds a ++ (kinds_stmt b ++ kinds_stmt c)) at in
      let rest = at_right ks d k0 (kinds a ++ (kinds_stmt b ++ kinds_stmt c)) at in
      let at_a = at_left ks a' (kinds a) (kinds_stmt b ++ kinds_stmt c) rest in
      let rest2 = at_right ks a' (kinds a) (kinds_stmt b ++ kinds_stmt c) rest in
      let at_b = at_left ks b' (kinds_stmt b) (kinds_stmt c) rest2 in
      let at_c = at_right ks b' (kinds_stmt b) (kinds_stmt c) rest2 in
      let test : Code = sequence (code_all (parts.checked checks es.items) d ++ code a a') in
      let body : Code = sequence (turn_code (has_continue b) (code_stmt b b' (inside (has_continue b) out)) ++ code_stmt c c' (deeper out)) in
      let meant : Outcome Way = loop (checked checks ds call (exps_of texts es.items)) (eval ds call (exp_of texts a)) (exec checks ds call (stmt_of texts b)) (exec checks ds call (stmt_of texts c)) s.turns s in
      subst (λ o. Joint made (Meets out rs) meant o)
      (sym (run_one P call' ks (f.Loop test (value_at locals a a') body) rs w ∙ ap (λ z. m.where_so z (m.then_do (m.loop (m.run P call' ks test) (value_at locals a a') (m.run P call' ks body) w.turns rs w) m.behind)) (has_it ks (value_at locals a a') kind.Bool (value_kind typed singles types locals ks locals_at a BoolTy a' at_a h.1))))
      (behind_ok out rs made meant (m.loop (m.run P call' ks test) (value_at locals a a') (m.run P call' ks body) w.turns rs w)
      (subst (λ i. Joint made (MetBy p H types locals (TurnsFlow out) rs) meant (m.loop (m.run P call' ks test) (value_at locals a a') (m.run P call' ks body) i rs w)) g.alike.turns
      (loop_ok typed singles checks call call' types locals ks locals_at long_types fp fresh facts calls_ok es.items a out d low at_es at_a kn.0 kn.1 h.0 h.1 (exec checks ds call (stmt_of texts b)) (exec checks ds call (stmt_of texts c)) (turn_code (has_continue b) (code_stmt b b' (inside (has_continue b) out))) (code_stmt c c' (deeper out))
      (λ made s rs w long g. body_case b ok_b out b' made s rs w (omega arith) at_b long kn.2 h.2 g) (λ made s rs w long g. ok_c (deeper out) c' made s rs w (omega arith) at_c long kn.3 h.3 g) s.turns made s rs w long g)))

  return_case : StmtOk Return
  return_case out d made s rs w low at long kn h g =
      subst (λ o. Joint made (Meets out rs) (Done Returned s) o) (sym (run_one P call' ks (f.Exit out.returns) rs w)) (joint_done made (Meets out rs) Returned s (suc out.returns, rs) w (record { flow = refl; going = g }))

  break_case : StmtOk Break
  break_case out d made s rs w low at long kn h g =
      subst (λ o. Joint made (Meets out rs) (Done Broken s) o) (sym (run_one P call' ks (f.Exit out.breaks) rs w)) (joint_done made (Meets out rs) Broken s (suc out.breaks, rs) w (record { flow = refl; going = g }))

  continue_case : StmtOk Continue
  continue_case out d made s rs w low at long kn h g =
      subst (λ o. Joint made (Meets out rs) (Done Continued s) o) (sym (run_one P call' ks (f.Exit out.continues) rs w)) (joint_done made (Meets out rs) Continued s (suc out.continues, rs) w (record { flow = refl; going = g }))

  return_value_case : (a : Expression) → StmtOk (ReturnValue a)
  return_value_case a out d made s rs w low at long kn h g =
      then_exp a h.0 d made s rs w (f.Do (op.Move (local_register locals 0) (value_at locals a d)) ∷ (f.Exit out.returns ∷ [])) (λ v t. Done Returned (set_local 0 v t)) (Meets out rs) (exp_ok a h.0 d made s rs w low at long kn h.2 (start 0 d rs rs made s w g)) (λ new y u xs z ex i c g1.
      let done = set_ok typed singles checks call call' types locals ks locals_at long_types 0 h.0 d (value_at locals a d) y (f.Exit out.returns ∷ []) new u rs xs z h.1 (value_kind typed singles types locals ks locals_at a h.0 d at h.2) long g1 i c in
      let zs : List ℕ = slice_set xs (local_register locals 0) (slice_index xs (value_at locals a d)) in
      subst (λ o. Joint new (Meets out rs) (Done Returned (set_local 0 y u)) o) (sym (done.0 ∙ run_one P call' ks (f.Exit out.returns) zs z))
      (joint_done new (Meets out rs) Returned (set_local 0 y u) (suc out.returns, zs) z (record { flow = refl; going = done.1 })))

  error_case : (a : Expression) → StmtOk (Error a)
  error_case a out d made s rs w low at long kn h g =
      then_exp a TextTy d made s rs w (f.Fail (value_at locals a d) ∷ []) (λ v t. stop (ErrorCalled (as_text v)) t) (Meets out rs) (exp_ok a TextTy d made s rs w low at long kn h (start 0 d rs rs made s w g)) (λ new y u xs z ex i c g1.
      error_ok typed singles checks call call' types locals ks locals_at long_types out d (value_at locals a d) y new u rs xs z (value_kind typed singles types locals ks locals_at a TextTy d at h) g1 i c)

  end_case : BlockOk end_of-Statement
  end_case out d made s rs w low at long kn h g = joint_done made (Meets out rs) Next s (0, rs) w (record { flow = refl; going = g })

  more_case : {i : _} (b : Statement) (bs : Row_of-Statement i) → StmtOk b → BlockOk bs → BlockOk (more_of-Statement b bs)
  more_case b bs ok_b ok_bs out d made s rs w low at long kn h g =
      let b' : ℕ = d + length (kinds_stmt b) in
      seq_ok typed singles checks call call' types locals ks locals_at long_types out rs w made (exec checks ds call (stmt_of texts b) s) (code_stmt b d out) (code_block bs b' out) (exec checks ds call (block_row texts bs)) (ok_b out d made s rs w low (at_left ks d (kinds_stmt b) (kinds_block bs) at) long kn.0 h.0 g) (λ new y xs z ex g1.
      met_from p H types locals out rs xs new (exec checks ds call (block_row texts bs) y) (Runs (code_block bs b' out) xs z) g1.long
      (ok_bs out b' new y xs z (omega arith) (at_right ks d (kinds_stmt b) (kinds_block bs) at) (g1.long ∙ long) kn.1 h.1 (start 0 0 rs xs new y z g1)))

  mutual
    pub stmt_ok : (b : Statement) → StmtOk b
    stmt_ok (Block' shape all) = block_ok all
    stmt_ok (Set x a) = set_case x a
    stmt_ok (Update x o a) = update_case x o a
    stmt_ok (Store q a) = λ out d made s rs w low at long kn h g. store_case typed singles checks call call' types locals ks locals_at long_types fp fresh facts calls_ok q a (v.place_ok typed singles checks call call' types locals ks locals_at long_types fp fresh facts calls_ok q) (exp_ok a) h.0 out d made s rs w low at long kn.0 kn.1 h.1 h.2 h.3 g
    stmt_ok (StoreUpdate q o a) = λ out d made s rs w low at long kn h g. store_update_case typed singles checks call call' types locals ks locals_at long_types fp fresh facts calls_ok o q a (v.place_ok typed singles checks call call' types locals ks locals_at long_types fp fresh facts calls_ok q) (exp_ok a) out d made s rs w low at long kn.0 kn.1 h.0 h.1 g
    stmt_ok (Do a) = do_case a
    stmt_ok (If' a q b r' c) = if_case a q b r' c (stmt_ok b) (stmt_ok c)
    stmt_ok (Loop' es a q b r' c) = loop_case es a q b r' c (stmt_ok b) (stmt_ok c)
    stmt_ok Return = return_case
    stmt_ok Break = break_case
    stmt_ok Continue = continue_case
    stmt_ok (ReturnValue a) = return_value_case a
    stmt_ok (Assert a) = λ out d made s rs w low at long kn h g. condition_ok typed singles checks call call' types locals ks locals_at long_types fp fresh facts calls_ok a out d made s rs w low at long kn h g
    stmt_ok (Error a) = error_case a
    stmt_ok (Check es) = λ out d made s rs w low at long kn h g. checked_ok typed singles checks call call' types locals ks locals_at long_types fp fresh facts calls_ok es.items out d made s rs w low at long kn h g

    pub block_ok : {i : _} (bs : Row_of-Statement i) → BlockOk bs
    block_ok end_of-Statement = end_case
    block_ok (more_of-Statement b bs) = more_case b bs (stmt_ok b) (block_ok bs)
