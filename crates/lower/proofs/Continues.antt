-- A statement without a `continue` of its own never ends a turn of the loop round it.
use Rattle.std.proofs.Common.{Box, Global, Vec, ◌≡◌, ℕ, zero, suc, Bool, true, false, List, Option, Some, None, refl, arith}
use Rattle.std.specs.Prelude.{◌||◌}
use Rattle.cells.specs.Outcomes.{Done, Stopped, Cut, then_do}
use Rattle.cells.specs.Stops.{AssertFailed, ErrorCalled, ArithFault}
use Rattle.c0_typed.specs.Values.{Value, Tree, as_truth, load, store}
use Rattle.c0_typed.specs.Trees.{Exps, NoExp, More}
use Rattle.c0_typed.specs.Meaning.{State, Outcome, Way, Next, Returned, Broken, Continued, after_body, all_hold, and_then, binary_value, checked, eval, exec, holds, if_true, local, locate, loop, set_local, stop, turn, value_or}
use Rattle.c0_typed.specs.Views.{block_row, exp_of, exps_of, place_of, stmt_of}
use Rattle.c0_typed.specs.declared.tree.Expression.{Expression}
use Rattle.c0_typed.specs.declared.tree.Statement.{Statement, Row_of-Statement, end_of-Statement, more_of-Statement, Block', Set, Update, Store, StoreUpdate, Do, If', Loop', Return, ReturnValue, Break, Continue, Assert, Error, Check}
use Rattle.lower.specs.Exits.{has_continue, some_continue}

-- a statement that was done did not end a turn of a loop
abbrev pub NotContinued : Outcome Way → Type 0
NotContinued (Done Next s) = Unit {0}
NotContinued (Done Returned s) = Unit {0}
NotContinued (Done Broken s) = Unit {0}
NotContinued (Done Continued s) = ⊥
NotContinued (Stopped z o) = Unit {0}
NotContinued (Cut o) = Unit {0}

neither : (a b : Bool) → (a || b) ≡ false → (a ≡ false) × (b ≡ false)
neither true b h = absurd (cc h)
neither false b h = (refl, h)

behind : {A : Type 0} (o : Outcome A) (go : A → State → Outcome Way) → ((a : A) (s : State) → NotContinued (go a s)) → NotContinued (then_do o go)
behind (Done a s) go k = k a s
behind (Stopped z o) go k = tt
behind (Cut o) go k = tt

in_turn : (o : Outcome Way) (go : State → Outcome Way) → NotContinued o → ((s : State) → NotContinued (go s)) → NotContinued (and_then o go)
in_turn (Done Next s) go h k = k s
in_turn (Done Returned s) go h k = tt
in_turn (Done Broken s) go h k = tt
in_turn (Done Continued s) go h k = absurd h
in_turn (Stopped z o) go h k = tt
in_turn (Cut o) go h k = tt

behind_body : (o : Outcome Way) (go : State → Outcome Way) → ((s : State) → NotContinued (go s)) → NotContinued (after_body o go)
behind_body (Done Next s) go k = k s
behind_body (Done Returned s) go k = tt
behind_body (Done Broken s) go k = tt
behind_body (Done Continued s) go k = k s
behind_body (Stopped z o) go k = tt
behind_body (Cut o) go k = tt

either : (v : Value) (a b : Outcome Way) → NotContinued a → NotContinued b → NotContinued (if_true v a b)
either v a b h k = at (as_truth v)
  where
    at : (c : Bool) → NotContinued (elim c [ true ↦ a | false ↦ b ])
    at true = h
    at false = k

held : (v : Value) (s : State) → NotContinued (holds v s)
held v s = either v (Done Next s) (stop AssertFailed s) tt tt

taken : (s : State) (go : State → Outcome Way) → ((t : State) → NotContinued (go t)) → NotContinued (turn s go)
taken s go k = at s.turns
  where
    at : (n : ℕ) → NotContinued (elim n as (λ i. Outcome Way) [ zero ↦ Cut s.output | suc i ↦ go (record s { turns = i }) ])
    at zero = tt
    at (suc i) = k (record s { turns = i })

module _ (inv : State → Outcome Way) (test : State → Outcome Value) (body step : State → Outcome Way) (hi : (s : State) → NotContinued (inv s)) (hs : (s : State) → NotContinued (step s)) where
  looped : (k : ℕ) (s : State) → NotContinued (loop inv test body step k s)
  looped zero s = in_turn (inv s) _ (hi s) (λ t. behind (test t) _ (λ v u. either v (Cut u.output) (Done Next u) tt tt))
  looped (suc k) s =
      in_turn (inv s) _ (hi s) (λ t. behind (test t) _ (λ v u.
      either v _ (Done Next u) (taken u _ (λ w. behind_body (body w) _ (λ x. in_turn (step x) _ (hs x) (looped k)))) tt))

module _ (checks : Bool) (ds : List Tree) (call : ℕ → List Value → State → Outcome Value) (texts : List (List ℕ)) where
  all_held : (es : Exps) (s : State) → NotContinued (all_hold checks ds call es s)
  all_held NoExp s = tt
  all_held (More a rest) s = in_turn (then_do (eval ds call a s) holds) (all_hold checks ds call rest) (behind (eval ds call a s) holds held) (all_held rest)

  checked_held : (es : Exps) (s : State) → NotContinued (checked checks ds call es s)
  checked_held es s = at checks
    where
      at : (c : Bool) → NotContinued (elim c [ true ↦ all_hold checks ds call es s | false ↦ Done Next s ])
      at true = all_held es s
      at false = tt

  mutual
    pub never_continues : (b : Statement) → has_continue b ≡ false → (s : State) → NotContinued (exec checks ds call (stmt_of texts b) s)
    never_continues (Block' shape all) h s = block_never all h s
    never_continues (Set x a) h s = behind (eval ds call (exp_of texts a) s) _ (λ v t. tt)
    never_continues (Update x o a) h s =
        behind (eval ds call (exp_of texts a) s) (λ v t. then_do (value_or ArithFault (binary_value o (local x s) v) t) (λ w u. Done Next (set_local x w u)))
        (λ v t. behind (value_or ArithFault (binary_value o (local x s) v) t) (λ w u. Done Next (set_local x w u)) (λ w u. tt))
    never_continues (Store q a) h s =
        behind (locate ds call (place_of texts q) s) (λ at t. then_do (eval ds call (exp_of texts a) t) (λ v u. Done Next (record u { heap = store u.heap at v })))
        (λ at t. behind (eval ds call (exp_of texts a) t) (λ v u. Done Next (record u { heap = store u.heap at v })) (λ v u. tt))
    never_continues (StoreUpdate q o a) h s =
        behind (locate ds call (place_of texts q) s)
        (λ at t. then_do (eval ds call (exp_of texts a) t) (λ v u. then_do (value_or ArithFault (binary_value o (load t.heap at) v) u) (λ w x. Done Next (record x { heap = store x.heap at w }))))
        (λ at t. behind (eval ds call (exp_of texts a) t) (λ v u. then_do (value_or ArithFault (binary_value o (load t.heap at) v) u) (λ w x. Done Next (record x { heap = store x.heap at w })))
        (λ v u. behind (value_or ArithFault (binary_value o (load t.heap at) v) u) (λ w x. Done Next (record x { heap = store x.heap at w })) (λ w x. tt)))
    never_continues (Do a) h s = behind (eval ds call (exp_of texts a) s) _ (λ v t. tt)
    never_continues (If' a p b q c) h s =
        let z = neither (has_continue b) (has_continue c) h in
        behind (eval ds call (exp_of texts a) s) _ (λ v t. either v _ _ (never_continues b z.0 t) (never_continues c z.1 t))
    never_continues (Loop' es a p body q step) h s =
        looped (checked checks ds call (exps_of texts es.items)) (eval ds call (exp_of texts a)) (exec checks ds call (stmt_of texts body)) (exec checks ds call (stmt_of texts step))
        (checked_held (exps_of texts es.items)) (never_continues step h) s.turns s
    never_continues Return h s = tt
    never_continues (ReturnValue a) h s = behind (eval ds call (exp_of texts a) s) _ (λ v t. tt)
    never_continues Break h s = tt
    never_continues Continue h s = absurd (cc h)
    never_continues (Assert a) h s = behind (eval ds call (exp_of texts a) s) holds held
    never_continues (Error a) h s = behind (eval ds call (exp_of texts a) s) _ (λ v t. tt)
    never_continues (Check es) h s = checked_held (exps_of texts es.items) s

    block_never : {n : _} (all : Row_of-Statement n) → some_continue all ≡ false → (s : State) → NotContinued (exec checks ds call (block_row texts all) s)
    block_never end_of-Statement h s = tt
    block_never (more_of-Statement b rest) h s =
        let z = neither (has_continue b) (some_continue rest) h in
        in_turn (exec checks ds call (stmt_of texts b) s) _ (never_continues b z.0 s) (block_never rest z.1)
