-- The code of statements is guarded, and asks for nothing before it.
use Rattle.std.proofs.Common.{◌≡◌, ℕ, suc, ◌+◌, ◌<◌, inl, Bool, true, false, List, [], ◌∷◌, ◌++◌, length, Option, Some, refl, arith}
use Rattle.c0_typed.specs.Trees.{Program, Ty, IntTy}
use Rattle.c0_typed.specs.Typing.{Fits}
use Rattle.c0_typed.specs.Views.{block_of, block_row, program_of, stmt_of, texts_of}
use Rattle.c0_typed.specs.declared.tree.Expression.{Expression}
use Rattle.c0_typed.specs.declared.tree.Place.{Place}
use Rattle.c0_typed.specs.declared.tree.Statement.{Statement, Row_of-Statement, end_of-Statement, more_of-Statement, Block', Set, Update, Store, StoreUpdate, Do, If', Loop', Return, ReturnValue, Break, Continue, Assert, Error, Check}
use Rattle.c0_typed.specs.declared.tree.Typed.{Typed}
use Rattle.code_form.specs.declared.form.Kind.{Kind}
use Rattle.code_form.specs.declared.form.Fact.{Fact}
use Rattle.middle_form.specs.Form.{Code}
use Rattle.middle_form.specs.Form as f
use Rattle.lower_expressions.specs.Expressions as parts
use Rattle.lower_expressions.specs.Expressions.{checked, sequence, value_at}
use Rattle.lower.specs.Exits.{WaysOut, deeper, has_continue, inside, whole}
use Rattle.lower.specs.Lowered as l
use Rattle.middle_form.specs.Guarded.{is_kept}
use Rattle.c0_well_formed.proofs.CellKinds.{Each}
use Rattle.c0_well_formed.proofs.GuardedCode.{one_block, Guards, IsBelow, NoFact, One, each_without, guard_append, guard_none, guard_one, guard_then, kept_away, one_choose, one_loop, one_store}
use Rattle.c0_well_formed.proofs.GuardedExpressions as e
use Rattle.c0_well_formed.proofs.GuardedPlaces.{AreThere, near_away, near_below}

module _ (typed : Typed) (singles : List Kind) (checks : Bool) (types : List Ty) (locals : ℕ) (there : AreThere types locals) where
  abbrev p : Program
  p = program_of typed

  abbrev texts : List (List ℕ)
  texts = texts_of typed

  abbrev kinds : Expression → List Kind
  kinds a = parts.exp_kinds p.structs singles (texts_of typed) typed.functions.items typed.main a

  abbrev kinds_place : Place → List Kind
  kinds_place q = parts.place_kinds p.structs singles (texts_of typed) typed.functions.items typed.main q

  abbrev kinds_all : List Expression → List Kind
  kinds_all es = parts.conditions_kinds p.structs singles (texts_of typed) typed.functions.items typed.main es

  abbrev kinds_stmt : Statement → List Kind
  kinds_stmt a = l.stmt_kinds p.structs singles (texts_of typed) typed.functions.items typed.main checks a

  abbrev code : Expression → ℕ → List Code
  code a d = parts.exp_code p.structs singles (texts_of typed) typed.functions.items typed.main locals a d

  abbrev code_place : Place → ℕ → List Code
  code_place q d = parts.place_code p.structs singles (texts_of typed) typed.functions.items typed.main locals q d

  abbrev base : Place → ℕ → ℕ
  base q d = parts.base_at p.structs singles (texts_of typed) typed.functions.items typed.main locals q d

  abbrev off : Place → ℕ → Option ℕ
  off q d = parts.offset_at p.structs singles (texts_of typed) typed.functions.items typed.main locals q d

  abbrev shift : Place → ℕ
  shift q = parts.displacement p.structs singles (texts_of typed) typed.functions.items typed.main locals q

  abbrev code_all : List Expression → ℕ → List Code
  code_all es d = parts.conditions_code p.structs singles (texts_of typed) typed.functions.items typed.main locals es d

  abbrev code_stmt : Statement → ℕ → WaysOut → List Code
  code_stmt a d out = l.stmt_code p.structs singles (texts_of typed) typed.functions.items typed.main locals checks a d out

  abbrev code_block : {m : _} → Row_of-Statement m → ℕ → WaysOut → List Code
  code_block all d out = l.block_code p.structs singles (texts_of typed) typed.functions.items typed.main locals checks all d out

  abbrev code_body : List Statement → ℕ → List Code
  code_body all d = l.body_code p.structs singles (texts_of typed) typed.functions.items typed.main locals checks all d

  abbrev Near : Place → ℕ → Fact → Type 0
  Near q d = e.Near p.structs singles (texts_of typed) typed.functions.items typed.main locals NoFact q d

  none_below : (d : ℕ) (g : Fact) → NoFact g → IsBelow d g
  none_below d g z = absurd z

  exp_guards : (a : Expression) (d : ℕ) → Guards NoFact NoFact (code a d)
  exp_guards a d = e.exp_guards p.structs singles (texts_of typed) typed.functions.items typed.main locals NoFact a d (none_below d)

  pub checked_guards : (es : List Expression) (d : ℕ) → Guards NoFact NoFact (code_all (checked checks es) d)
  checked_guards es d = e.checked_guards p.structs singles (texts_of typed) typed.functions.items typed.main locals NoFact checks es d (none_below d)

  place_guards : (q : Place) (d : ℕ) → Guards NoFact (Near q d) (code_place q d)
  place_guards q d = e.place_guards p.structs singles (texts_of typed) typed.functions.items typed.main locals NoFact q d (none_below d)

  -- a value that is evaluated behind a place
  value_guards : (q : Place) (d : ℕ) (a : Expression) (b : ℕ) → ((g : Fact) → Near q d g → IsBelow b g) → Guards (Near q d) (Near q d) (code a b)
  value_guards q d a b low = e.exp_guards p.structs singles (texts_of typed) typed.functions.items typed.main locals (Near q d) a b low

  written : (r : ℕ) (w : List Fact) → Each NoFact w → Each NoFact w × (is_kept (Some r) w ≡ true)
  written r w h = (h, kept_away NoFact r (λ g z n. absurd z) w h)

  unchanged : (w : List Fact) → Each NoFact w → Each NoFact w × (true ≡ true)
  unchanged w h = (h, refl)

  left : (w : List Fact) → Each NoFact w → Each NoFact [] × (true ≡ true)
  left w h = (tt, refl)

  stored : (q : Place) (d from : ℕ) → One (Near q d) NoFact (f.Store (base q d) (off q d) (shift q) from)
  stored q d from = one_store (Near q d) (base q d) (off q d) (shift q) from (inl refl)

  turn_guards : (b : Bool) (cs : List Code) → Guards NoFact NoFact cs → Guards NoFact NoFact (l.turn_code b cs)
  turn_guards true cs g = guard_one _ (one_block (sequence cs) g.go)
  turn_guards false cs g = g

  mutual
    -- its registers stand behind those of the locals
    pub stmt_guards : (a : Statement) (d : ℕ) (out : WaysOut) → locals < d → Fits p types (stmt_of texts a) → Guards NoFact NoFact (code_stmt a d out)
    stmt_guards (Block' shape all) d out low h = block_guards all d out low h
    stmt_guards (Set x a) d out low h = guard_append (code a d) _ (exp_guards a d) (guard_one _ (written _))
    stmt_guards (Update x i a) d out low h = guard_append (code a d) _ (exp_guards a d) (guard_one _ (written _))
    stmt_guards (Store q a) d out low h =
        guard_append (code_place q d) _ (place_guards q d)
        (guard_append (code a (d + length (kinds_place q))) _ (value_guards q d a (d + length (kinds_place q)) (near_below typed singles types locals there q h.0 d low h.2)) (guard_one _ (stored q d (value_at locals a (d + length (kinds_place q))))))
    stmt_guards (StoreUpdate q i a) d out low h =
        let behind : locals < suc d = omega arith in
        let kept = λ (w : List Fact) (k : Each (Near q (suc d)) w). kept_away (Near q (suc d)) d (near_away typed singles types locals there q IntTy d low h.0) w k in
        guard_append (code_place q (suc d)) _ (place_guards q (suc d))
        (guard_then _ _ (λ w k. ((inl refl, each_without (Near q (suc d)) _ w k), kept w k))
        (guard_append (code a (suc d + length (kinds_place q))) _ (value_guards q (suc d) a (suc d + length (kinds_place q)) (near_below typed singles types locals there q IntTy (suc d) behind h.0))
        (guard_then _ _ (λ w k. (k, kept w k)) (guard_one _ (stored q (suc d) d)))))
    stmt_guards (Do a) d out low h = exp_guards a d
    stmt_guards (If' a w b q s) d out low h =
        let first = d + length (kinds a) in
        let second = d + length (kinds a) + length (kinds_stmt b) in
        guard_append (code a d) _ (exp_guards a d)
        (guard_one _ (one_choose NoFact NoFact (value_at locals a d) (sequence (code_stmt b first out)) (sequence (code_stmt s second out)) (stmt_guards b first out (omega arith) h.1).go (stmt_guards s second out (omega arith) h.2).go))
    stmt_guards (Loop' invariants a w body q step) d out low h =
        let inner = d + length (kinds_all (checked checks invariants.items)) in
        let third = inner + length (kinds a) in
        let fourth = third + length (kinds_stmt body) in
        let test = guard_append (code_all (checked checks invariants.items) d) (code a inner) (checked_guards invariants.items d) (exp_guards a inner) in
        let turn = l.turn_code (has_continue body) (code_stmt body third (inside (has_continue body) out)) in
        let round = guard_append turn (code_stmt step fourth (deeper out)) (turn_guards (has_continue body) (code_stmt body third (inside (has_continue body) out)) (stmt_guards body third (inside (has_continue body) out) (omega arith) h.2))
        (stmt_guards step fourth (deeper out) (omega arith) h.3) in
        guard_one _ (one_loop (sequence (code_all (checked checks invariants.items) d ++ code a inner)) (value_at locals a inner) (sequence (l.turn_code (has_continue body) (code_stmt body third (inside (has_continue body) out)) ++ code_stmt step fourth (deeper out))) test.go round.go)
    stmt_guards Return d out low h = guard_one _ left
    stmt_guards Break d out low h = guard_one _ left
    stmt_guards Continue d out low h = guard_one _ left
    stmt_guards (ReturnValue a) d out low h = guard_append (code a d) _ (exp_guards a d) (guard_then _ _ (written _) (guard_one _ left))
    stmt_guards (Assert a) d out low h = guard_append (code a d) _ (exp_guards a d) (guard_one _ unchanged)
    stmt_guards (Error a) d out low h = guard_append (code a d) _ (exp_guards a d) (guard_one _ left)
    stmt_guards (Check es) d out low h = checked_guards es.items d

    block_guards : {m : _} (all : Row_of-Statement m) (d : ℕ) (out : WaysOut) → locals < d → Fits p types (block_row texts all) → Guards NoFact NoFact (code_block all d out)
    block_guards end_of-Statement d out low h = guard_none
    block_guards (more_of-Statement a rest) d out low h =
        guard_append (code_stmt a d out) _ (stmt_guards a d out low h.0) (block_guards rest (d + length (kinds_stmt a)) out (omega arith) h.1)

  pub body_guards : (all : List Statement) (d : ℕ) → locals < d → Fits p types (block_of texts all) → Guards NoFact NoFact (code_body all d)
  body_guards [] d low h = guard_none
  body_guards (a ∷ rest) d low h = guard_append (code_stmt a d whole) _ (stmt_guards a d whole low h.0) (body_guards rest (d + length (kinds_stmt a)) (omega arith) h.1)
