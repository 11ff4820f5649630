-- Functions: a call enters the code of its function, which comes to what its body does.
use Rattle.std.proofs.Common.{◌≡◌, ◌≢◌, ℕ, zero, suc, ◌+◌, ◌-◌, ◌<◌, ◌≤◌, Bool, true, false, List, [], ◌∷◌, ◌++◌, length, get_or, Option, Some, None, refl, sym, ap, ◌∙◌, subst, arith, append_assoc, cond}
use Rattle.std.specs.Prelude.{slice_get, slice_index, map}
use Rattle.std.proofs.lemmas.List.{length-append, length-map}
use Rattle.std.proofs.lemmas.Option.{get_or_from_slice_get}
use Rattle.cells.specs.Stops.{AssertFailed}
use Rattle.cells.specs.Outcomes.{Done, Stopped, Cut, then_do}
use Rattle.c0_typed.specs.Values.{Value, Void, Tree, as_truth}
use Rattle.c0_typed.specs.Trees as t
use Rattle.c0_typed.specs.Trees.{Program, Ty, VoidTy, IntTy, BoolTy, CharTy, TextTy, StructTy, PointerTy, ArrayTy, Exps, NoExp, More}
use Rattle.c0_typed.specs.Meaning.{State, Outcome, Way, Next, Returned, Broken, Continued, all_hold, and_then, blank, checked, eval, exec, give, holds, if_true, in_function, local, locals_at_entry, stop, struct_defaults}
use Rattle.c0_typed.specs.Typing.{AllBool, AreAll, Extends, Fits, FitsFunction, FitsProgram, FreshSound, Has, Is, IsHeap, Kept, local_types}
use Rattle.c0_typed.specs.Views.{block_of, exp_of, exps_of, function_of, program_of, stmt_of, texts_of, type_of}
use Rattle.c0_typed.proofs.Soundness.{blanks_are, extends_refl, local_is, result_blank}
use Rattle.c0_typed.specs.declared.tree.Expression.{Expression}
use Rattle.c0_typed.specs.declared.tree.Statement.{Statement}
use Rattle.c0_typed.specs.declared.tree.Function.{Function}
use Rattle.c0_typed.specs.declared.tree.Typed.{Typed}
use Rattle.code_form.specs.declared.form.Kind.{Kind}
use Rattle.code_form.specs.Code.{has}
use Rattle.code_form.specs.Form.{Head}
use Rattle.middle_form.specs.Form.{Code}
use Rattle.middle_form.specs.Form as f
use Rattle.middle_form.specs.Meaning as m
use Rattle.lower.specs.Coded.{Coded}
use Rattle.lower_tables.specs.Kinds as k
use Rattle.lower_tables.specs.Known.{KnowsAll, KnowsBody, KnowsFunction}
use Rattle.lower_expressions.specs.Expressions as parts
use Rattle.lower.specs.Exits.{whole}
use Rattle.lower.specs.declared.exits.Exits.{Exits}
use Rattle.lower.specs.Lowered as l
use Rattle.lower.specs.Lowered.{body_code, body_kinds, lowered}
use Rattle.lower_expressions.specs.Expressions.{sequence}
use Rattle.lower.proofs.Joint.{Joint, Lands, joint_done, joint_from, joint_then, run_append, run_one}
use Rattle.lower.proofs.Registers.{At, at_head, at_left, at_right, at_tail, has_it, keeps_refl}
use Rattle.lower.proofs.Running.{going_start}
use Rattle.lower.proofs.Sides.{Alike, Going, HeapFacts}
use Rattle.lower.proofs.Values.{LocalsAt}
use Rattle.lower.proofs.Arguments.{AllCoded, CallsOk}
use Rattle.lower.proofs.Arguments as args
use Rattle.lower.proofs.Calling.{its_code}
use Rattle.lower.proofs.Entry.{at_behind, coded_long, filled_long, locals_kinds, matched_entry, types_long, zeros}
use Rattle.lower.proofs.Executed as x
use Rattle.lower.proofs.Loops as loops
use Rattle.lower.proofs.Steps.{Met, are_long, met_from, seq_ok}

-- a statement that was done goes on to the next
abbrev NotReturned : Outcome Way → Type 0
NotReturned (Done Next s) = Unit {0}
NotReturned (Done Returned s) = ⊥
NotReturned (Done Broken s) = ⊥
NotReturned (Done Continued s) = ⊥
NotReturned (Stopped z o) = Unit {0}
NotReturned (Cut o) = Unit {0}

module _ (checks : Bool) (ds : List Tree) (call : ℕ → List Value → State → Outcome Value) where
  goes_on : (o : Outcome Way) (go : State → Outcome Way) → NotReturned o → ((s : State) → NotReturned (go s)) → NotReturned (and_then o go)
  goes_on (Done Next s) go h k = k s
  goes_on (Done Returned s) go h k = absurd h
  goes_on (Done Broken s) go h k = absurd h
  goes_on (Done Continued s) go h k = absurd h
  goes_on (Stopped z o) go h k = tt
  goes_on (Cut o) go h k = tt

  held : (o : Outcome Value) → NotReturned (then_do o holds)
  held (Done v s) = at (as_truth v)
    where
      at : (b : Bool) → NotReturned (elim b [ true ↦ Done Next s | false ↦ stop AssertFailed s ])
      at true = tt
      at false = tt
  held (Stopped z o) = tt
  held (Cut o) = tt

  all_go_on : (es : Exps) (s : State) → NotReturned (all_hold checks ds call es s)
  all_go_on NoExp s = tt
  all_go_on (More a rest) s = goes_on (then_do (eval ds call a s) holds) (all_hold checks ds call rest) (held (eval ds call a s)) (all_go_on rest)

  checked_goes_on : (es : Exps) (s : State) → NotReturned (checked checks ds call es s)
  checked_goes_on es s = at checks
    where
      at : (c : Bool) → NotReturned (elim c [ true ↦ all_hold checks ds call es s | false ↦ Done Next s ])
      at true = all_go_on es s
      at false = tt

module _ (typed : Typed) (singles : List Kind) (checks : Bool) (call : ℕ → List Value → State → Outcome Value) (call' : ℕ → List ℕ → m.State → m.Outcome ℕ)
    (fp : FitsProgram (program_of typed)) (fresh : FreshSound) (facts : HeapFacts (program_of typed) singles (lowered singles checks typed).head) (calls_ok : CallsOk typed singles checks call call')
    (h : Function) (fits : FitsFunction (program_of typed) (function_of (texts_of typed) h)) (known : KnowsFunction (length (program_of typed).structs) singles h) where
  abbrev p : Program
  p = program_of typed

  abbrev P : f.Program
  P = lowered singles checks typed

  abbrev H : Head
  H = P.head

  abbrev n : ℕ
  n = length p.structs

  abbrev ds : List Tree
  ds = struct_defaults [] p.structs

  abbrev texts : List (List ℕ)
  texts = texts_of typed

  abbrev g : t.Function
  g = function_of texts h

  abbrev types : List Ty
  types = local_types g

  abbrev locals : ℕ
  locals = length h.parameters.items + length h.locals.items

  abbrev ks : List Kind
  ks = (its_code typed singles checks h).kinds

  abbrev kinds_all : List Expression → List Kind
  kinds_all es = parts.conditions_kinds p.structs singles (texts_of typed) typed.functions.items typed.main es

  abbrev code_all : List Expression → ℕ → List Code
  code_all es d = parts.conditions_code p.structs singles (texts_of typed) typed.functions.items typed.main locals es d

  abbrev kinds_body : List Statement → List Kind
  kinds_body bs = body_kinds p.structs singles (texts_of typed) typed.functions.items typed.main checks bs

  abbrev code_body : List Statement → ℕ → List Code
  code_body bs d = body_code p.structs singles (texts_of typed) typed.functions.items typed.main locals checks bs d

  abbrev before : List Kind
  before = kinds_all (parts.checked checks h.preconditions.items)

  abbrev inside : List Kind
  inside = kinds_body h.body.items

  abbrev behind : List Kind
  behind = kinds_all (parts.checked checks h.postconditions.items)

  abbrev Runs : List Code → List ℕ → m.State → m.Outcome m.Left
  Runs cs rs w = m.run P call' ks (sequence cs) rs w

  abbrev Meets : Exits → List ℕ → List Kept → Way → State → m.Left → m.State → Type 0
  Meets out rs made way s x w = Met p H types locals out rs made way s x w

  abbrev Goes : ℕ → List ℕ → List Kept → State → List ℕ → m.State → Type 0
  Goes d rs made s xs w = Going p H types locals d rs made s xs w

  locals_at : LocalsAt typed singles types locals ks
  locals_at = locals_kinds typed singles h (before ++ (inside ++ behind))

  long_types : length types ≡ suc locals
  long_types = types_long typed singles h

  at_rest : At ks (suc locals) (before ++ (inside ++ behind))
  at_rest = at_tail ks locals (parts.kind_at p.structs singles (texts_of typed) typed.functions.items typed.main h.result) (before ++ (inside ++ behind)) (at_behind typed singles h.parameters.items h.locals.items (parts.kind_at p.structs singles (texts_of typed) typed.functions.items typed.main h.result ∷ (before ++ (inside ++ behind))))

  -- the statements of a body
  body_ok : (bs : List Statement) (d : ℕ) (made : List Kept) (s : State) (rs : List ℕ) (w : m.State) → suc locals ≤ d → At ks d (kinds_body bs) → length rs ≡ length ks → KnowsBody n singles bs → Fits p types (block_of texts bs) → Goes 0 rs made s rs w
      → Joint made (Meets whole rs) (exec checks ds call (block_of texts bs) s) (Runs (code_body bs d) rs w)
  body_ok [] d made s rs w low at long kn fit go = joint_done made (Meets whole rs) Next s (0, rs) w (record { flow = refl; going = go })
  body_ok (b ∷ bs) d made s rs w low at long kn fit go =
      let kinds_b : List Kind = l.stmt_kinds p.structs singles (texts_of typed) typed.functions.items typed.main checks b in
      let next : ℕ = d + length kinds_b in
      seq_ok typed singles checks call call' types locals ks locals_at long_types whole rs w made (exec checks ds call (stmt_of texts b) s) (l.stmt_code p.structs singles (texts_of typed) typed.functions.items typed.main locals checks b d whole) (code_body bs next) (exec checks ds call (block_of texts bs))
      (x.stmt_ok typed singles checks call call' types locals ks locals_at long_types fp fresh facts calls_ok b whole d made s rs w low (at_left ks d kinds_b (kinds_body bs) at) long kn.0 fit.0 go) (λ new y xs z ex g1.
      met_from p H types locals whole rs xs new (exec checks ds call (block_of texts bs) y) (Runs (code_body bs next) xs z) g1.long
      (body_ok bs next new y xs z (omega arith) (at_right ks d kinds_b (kinds_body bs) at) (g1.long ∙ long) kn.1 fit.1 (going_start p H types locals 0 0 rs xs new y z g1)))

  -- code that falls through, however the statement was left
  pub record Past (rs : List ℕ) (made : List Kept) (way : Way) (s : State) (x : m.Left) (w : m.State) : Type 0 where
    pub falls : x.0 ≡ 0
    pub going : Goes 0 rs made s x.1 w

  -- behind a block
  past_block : (rs : List ℕ) (made : List Kept) (o : Outcome Way) (z : m.Outcome m.Left) → Joint made (Meets whole rs) o z → Joint made (Past rs) o (m.then_do z m.behind)
  past_block rs made (Done Next s) (m.Done (zero, xs) w) j = (j.0, j.1, record { falls = refl; going = j.2.going })
  past_block rs made (Done Next s) (m.Done (suc i, xs) w) j = let q = j.2.flow in absurd (cc q)
  past_block rs made (Done Returned s) (m.Done (zero, xs) w) j = let q = j.2.flow in absurd (cc q)
  past_block rs made (Done Broken s) (m.Done (zero, xs) w) j = let q = j.2.flow in absurd (cc q)
  past_block rs made (Done Continued s) (m.Done (zero, xs) w) j = let q = j.2.flow in absurd (cc q)
  past_block rs made (Done Returned s) (m.Done (suc i, xs) w) j = (j.0, j.1, record { falls = (let q = j.2.flow in cc q); going = j.2.going })
  past_block rs made (Done Broken s) (m.Done (suc i, xs) w) j = (j.0, j.1, record { falls = (let q = j.2.flow in cc q); going = j.2.going })
  past_block rs made (Done Continued s) (m.Done (suc i, xs) w) j = (j.0, j.1, record { falls = (let q = j.2.flow in cc q); going = j.2.going })
  past_block rs made (Done way s) (m.Stopped y o) j = absurd j
  past_block rs made (Done way s) (m.Cut o) j = absurd j
  past_block rs made (Done way s) m.Stuck j = absurd j
  past_block rs made (Stopped y o) z j = ap (λ i. m.then_do i m.behind) j
  past_block rs made (Cut o) z j = ap (λ i. m.then_do i m.behind) j

  -- conditions, and what follows
  past_then : (S : List Kept → Way → State → m.Left → m.State → Type 0) (rs : List ℕ) (made : List Kept) (o : Outcome Way) (z : m.Outcome m.Left) (go : State → Outcome Way) (on : List ℕ → m.State → m.Outcome m.Left) → NotReturned o → Joint made (Meets whole rs) o z
      → ((new : List Kept) (s : State) (xs : List ℕ) (w : m.State) → Extends made new → Goes 0 rs new s xs w → Joint new S (go s) (on xs w)) → Joint made S (and_then o go) (m.then_do z (m.falls on))
  past_then S rs made (Done Next s) (m.Done (zero, xs) w) go on q j k = joint_from made j.0 S (go s) (on xs w) j.1 (k j.0 s xs w j.1 j.2.going)
  past_then S rs made (Done Next s) (m.Done (suc i, xs) w) go on q j k = let y = j.2.flow in absurd (cc y)
  past_then S rs made (Done Returned s) z go on q j k = absurd q
  past_then S rs made (Done Broken s) z go on q j k = absurd q
  past_then S rs made (Done Continued s) z go on q j k = absurd q
  past_then S rs made (Done Next s) (m.Stopped y o) go on q j k = absurd j
  past_then S rs made (Done Next s) (m.Cut o) go on q j k = absurd j
  past_then S rs made (Done Next s) m.Stuck go on q j k = absurd j
  past_then S rs made (Stopped y o) z go on q j k = ap (λ i. m.then_do i (m.falls on)) j
  past_then S rs made (Cut o) z go on q j k = ap (λ i. m.then_do i (m.falls on)) j

  -- they fall through
  past_from : (rs : List ℕ) (made : List Kept) (o : Outcome Way) (z : m.Outcome m.Left) → NotReturned o → Joint made (Meets whole rs) o z → Joint made (Past rs) o z
  past_from rs made (Done Next s) (m.Done (zero, xs) w) q j = (j.0, j.1, record { falls = refl; going = j.2.going })
  past_from rs made (Done Next s) (m.Done (suc i, xs) w) q j = let y = j.2.flow in absurd (cc y)
  past_from rs made (Done Returned s) z q j = absurd q
  past_from rs made (Done Broken s) z q j = absurd q
  past_from rs made (Done Continued s) z q j = absurd q
  past_from rs made (Done Next s) (m.Stopped y o) q j = absurd j
  past_from rs made (Done Next s) (m.Cut o) q j = absurd j
  past_from rs made (Done Next s) m.Stuck q j = absurd j
  past_from rs made (Stopped y o) z q j = j
  past_from rs made (Cut o) z q j = j

  abbrev before_at : ℕ
  before_at = suc locals

  abbrev inside_at : ℕ
  inside_at = suc locals + length before

  abbrev behind_at : ℕ
  behind_at = suc locals + length before + length inside

  abbrev block : Code
  block = f.Block (sequence (code_body h.body.items inside_at))

  abbrev entry_code : List Code
  entry_code = code_all (parts.checked checks h.preconditions.items) before_at

  abbrev end_code : List Code
  end_code = code_all (parts.checked checks h.postconditions.items) behind_at

  -- up to the end of the body
  entry_ok : (made : List Kept) (s : State) (rs : List ℕ) (w : m.State) → length rs ≡ length ks → Goes 0 rs made s rs w
      → Joint made (Past rs) (and_then (checked checks ds call g.requires s) (exec checks ds call g.body)) (Runs (entry_code ++ (block ∷ [])) rs w)
  entry_ok made s rs w long go =
      let at_before = at_left ks before_at before (inside ++ behind) at_rest in
      let at_inside = at_left ks inside_at inside behind (at_right ks before_at before (inside ++ behind) at_rest) in
      subst (λ z. Joint made (Past rs) (and_then (checked checks ds call g.requires s) (exec checks ds call g.body)) z) (sym (run_append P call' ks entry_code (block ∷ []) rs w))
      (past_then (Past rs) rs made (checked checks ds call g.requires s) (Runs entry_code rs w) (exec checks ds call g.body) (m.run P call' ks (sequence (block ∷ []))) (checked_goes_on checks ds call g.requires s)
      (loops.checked_ok typed singles checks call call' types locals ks locals_at long_types fp fresh facts calls_ok h.preconditions.items whole before_at made s rs w (omega arith) at_before long known.0 fits.3 go) (λ new y xs z ex g1.
      subst (λ i. Joint new (Past rs) (exec checks ds call g.body y) i) (sym (run_one P call' ks block xs z))
      (past_block rs new (exec checks ds call g.body y) (Runs (code_body h.body.items inside_at) xs z)
      (met_from p H types locals whole rs xs new (exec checks ds call g.body y) (Runs (code_body h.body.items inside_at) xs z) g1.long
      (body_ok h.body.items inside_at new y xs z (omega arith) at_inside (g1.long ∙ long) known.1 fits.5 (going_start p H types locals 0 0 rs xs new y z g1))))))

  abbrev Back : State → List Kept → Value → State → ℕ → m.State → Type 0
  Back s made v u cell w = args.Returned typed singles checks g s made v u cell w

  -- the result stands in its register
  result_ok : (s : State) (rs xs : List ℕ) (made : List Kept) (u : State) (w : m.State) → Goes 0 rs made u xs w → Joint made (Back s) (give checks ds call s.locals u) (m.result_of (its_code typed singles checks h) (0, xs) w)
  result_ok s rs xs made u w go = by (type_of h.result) refl
    where
      is : Is p made (type_of h.result) (local 0 u)
      is = local_is p made types u.locals 0 (type_of h.result) go.state.1 refl

      back : (cell : ℕ) → Coded H (local 0 u) cell → Back s made (local 0 u) (record u { locals = s.locals }) cell w
      back cell c = record { is = is; heap = go.state.0; locals = refl; coded = c; alike = record { turns = go.alike.turns; output = go.alike.output; heap = go.alike.heap } }

      held_by : (ty : Ty) → type_of h.result ≡ ty → has ks locals (k.kind_of n singles ty) ≡ true
      held_by ty e = has_it ks locals (k.kind_of n singles ty) (locals_at 0 (type_of h.result) refl ∙ ap (λ z. Some (k.kind_of n singles z)) e)

      some : (ty : Ty) → type_of h.result ≡ ty → Joint made (Back s) (give checks ds call s.locals u) (m.where_so (has ks locals (k.kind_of n singles ty)) (m.Done (slice_index xs locals) w))
      some ty e =
          subst (λ z. Joint made (Back s) (give checks ds call s.locals u) (m.where_so z (m.Done (slice_index xs locals) w))) (sym (held_by ty e))
          (joint_done made (Back s) (local 0 u) (record u { locals = s.locals }) (slice_index xs locals) w (back (slice_index xs locals) (go.matched 0 (omega arith))))

      by : (ty : Ty) → type_of h.result ≡ ty → Joint made (Back s) (give checks ds call s.locals u) (elim (l.result_kind n singles ty) as (λ z. m.Outcome ℕ) [ None ↦ m.Done 0 w | Some z ↦ m.where_so (has ks locals z) (m.Done (slice_index xs locals) w) ])
      by VoidTy e = joint_done made (Back s) (local 0 u) (record u { locals = s.locals }) 0 w (back 0 (subst (λ z. Coded H z 0) (sym (subst (λ z. Is p made z (local 0 u)) e is)) tt))
      by IntTy e = some IntTy e
      by BoolTy e = some BoolTy e
      by CharTy e = some CharTy e
      by TextTy e = some TextTy e
      by (StructTy j) e = some (StructTy j) e
      by (PointerTy z) e = some (PointerTy z) e
      by (ArrayTy z) e = some (ArrayTy z) e

  -- the whole of a function, from its first registers
  pub function_ok : (made : List Kept) (s start : State) (rs : List ℕ) (w : m.State) → length rs ≡ length ks → Goes 0 rs made start rs w
      → Joint made (Back s) (then_do (and_then (checked checks ds call g.requires start) (exec checks ds call g.body)) (λ way y. then_do (checked checks ds call g.ensures y) (λ way u. give checks ds call s.locals u)))
      (m.then_do (m.run P call' ks (its_code typed singles checks h).body rs w) (m.result_of (its_code typed singles checks h)))
  function_ok made s start rs w long go =
      subst (λ i. Joint made (Back s) meant (m.then_do (m.run P call' ks (sequence i) rs w) result)) (append_assoc entry_code (block ∷ []) end_code)
      (subst (λ i. Joint made (Back s) meant i) (sym (ap (λ i. m.then_do i result) (run_append P call' ks (entry_code ++ (block ∷ [])) end_code rs w) ∙ twice (Runs (entry_code ++ (block ∷ [])) rs w)))
      (joint_then made (Past rs) (Back s) (and_then (checked checks ds call g.requires start) (exec checks ds call g.body)) (Runs (entry_code ++ (block ∷ [])) rs w) after (λ b y. m.then_do (m.falls (m.run P call' ks (sequence end_code)) b y) result)
      (entry_ok made start rs w long go) (λ new way y b z ex q. ends new way y b z q)))
    where
      result : m.Left → m.State → m.Outcome ℕ
      result = m.result_of (its_code typed singles checks h)

      after : Way → State → Outcome Value
      after way y = then_do (checked checks ds call g.ensures y) (λ way u. give checks ds call s.locals u)

      meant : Outcome Value
      meant = then_do (and_then (checked checks ds call g.requires start) (exec checks ds call g.body)) after

      twice : (o : m.Outcome m.Left) → m.then_do (m.then_do o (m.falls (m.run P call' ks (sequence end_code)))) result ≡ m.then_do o (λ b y. m.then_do (m.falls (m.run P call' ks (sequence end_code)) b y) result)
      twice (m.Done b y) = refl
      twice (m.Stopped z o) = refl
      twice (m.Cut o) = refl
      twice m.Stuck = refl

      given : (new : List Kept) (xs : List ℕ) (way : Way) (u : State) (b : m.Left) (z : m.State) → Past xs new way u b z → Joint new (Back s) (give checks ds call s.locals u) (result b z)
      given new xs way u (zero, ys) z q = result_ok s xs ys new u z q.going
      given new xs way u (suc i, ys) z q = let e = q.falls in absurd (cc e)

      ends : (new : List Kept) (way : Way) (y : State) (b : m.Left) (z : m.State) → Past rs new way y b z → Joint new (Back s) (after way y) (m.then_do (m.falls (m.run P call' ks (sequence end_code)) b z) result)
      ends new way y (suc i, xs) z q = let e = q.falls in absurd (cc e)
      ends new way y (zero, xs) z q =
          let at_end = at_right ks inside_at inside behind (at_right ks before_at before (inside ++ behind) at_rest) in
          let g1 = q.going in
          joint_then new (Past xs) (Back s) (checked checks ds call g.ensures y) (Runs end_code xs z) (λ way u. give checks ds call s.locals u) result
          (past_from xs new (checked checks ds call g.ensures y) (Runs end_code xs z) (checked_goes_on checks ds call g.ensures y)
          (loops.checked_ok typed singles checks call call' types locals ks locals_at long_types fp fresh facts calls_ok h.postconditions.items whole behind_at new y xs z (omega arith) at_end (g1.long ∙ long) known.2 fits.4 (going_start p H types locals 0 0 rs xs new y z g1)))
          (λ last way u b z2 ex2 q2. given last xs way u b z2 q2)
