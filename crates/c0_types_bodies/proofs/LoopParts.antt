-- Loops, by their parts in the order of the text.
use Rattle.std.proofs.Common.{◌≡◌, ℕ, List, length, take, refl, sym, ap, subst, ◌∙◌, Bool, true, false, Option, Some, None, Result, Ok, Err, inl, inr}
use Rattle.std.specs.Prelude.{◌⊎◌, IfErr, IfOk, MatchResult, not}
use Rattle.std.specs.declared.alloc.Global.{Global}
use Rattle.std.specs.declared.vec.Vec.{Vec}
use Rattle.c0_source.specs.declared.fault.Fault.{Fault}
use Rattle.c0_syntax.specs.Trees.{Expression, Spec, SimpleStatement, Declare, Initialize, Assign, Update, Step, Evaluate, Statement, For, While}
use Rattle.c0_typed.specs.Trees as t
use Rattle.c0_typed.specs.Views.{exp_of, exps_of, stmt_of}
use Rattle.c0_typed.specs.declared.tree.Expression.{Expression as TypedExpression}
use Rattle.c0_typed.specs.declared.tree.Statement as d
use Rattle.c0_types_bodies.specs.Bodies.{Gives, Head, head_of, turn_in_scope, loop_behind, loop_head, scope_of, step_of as third_of_loop}
use Rattle.c0_types_bodies.specs.declared.loops.LoopHead.{LoopHead}
use Rattle.c0_types_bodies.specs.declared.scope.Scope as code
use Rattle.c0_rules.specs.Answers.{Answers}
use Rattle.c0_rules.specs.Expressions.{operator_rule, typed_expression}
use Rattle.c0_rules.specs.Mentions.{as_variable, specs_in}
use Rattle.c0_rules.specs.Statements.{Invariant, Scope, Checked, in_body, leave, within, Destination, ToLocal, ToPlace, change_of, step_of, declares, one, expression_as, conditions_of_all, destination, destination_by, assigned, updated, evaluated, next, typed_part, typed_statement}
use Rattle.c0_rules.specs.Types.{and_so, provided, same_type, is_small, Name, IntType, BoolType, Environment}
use Rattle.c0_rules.proofs.Rules.{some_has}
use Rattle.c0_types_bodies.proofs.InnerStatements.{so_assoc, so_none, so_same, while_is}
use Rattle.c0_types_bodies.proofs.Scopes.{Keeps, keeps_on, left, loop_keeps, part_keeps, stays}

-- the parts of a loop beside its body
abbrev made : t.Exp → t.Stmt → t.Exps → Option Head
made z w xs = Some (record { condition = z; third = w; invariants = xs })

-- a loop, and the scope behind its body, before the loop is put behind the first part of its `for`
in_order : (third : Option Checked) (notes : Option t.Exps) (body : Option Checked) (z : t.Exp) (x s : Scope) (b : t.Stmt)
    → and_so (and_so (and_so third (λ w. Some w.statement)) (λ w. and_so notes (λ xs. made z w xs))) (λ h. and_so (and_so body (λ y. next y.statement (leave x y.scope))) (λ v. next (t.Seq b (t.Seq (t.Loop h.invariants h.condition v.statement h.third) t.Skip)) (leave s v.scope)))
    ≡ and_so notes (λ xs. and_so body (λ y. and_so (and_so third (λ w. next w.statement (leave x y.scope))) (λ w. next (t.Seq b (t.Seq (t.Loop xs z y.statement w.statement) t.Skip)) (leave s w.scope))))
in_order None None body z x s b = refl
in_order None (Some xs) None z x s b = refl
in_order None (Some xs) (Some y) z x s b = refl
in_order (Some w) None body z x s b = refl
in_order (Some w) (Some xs) None z x s b = refl
in_order (Some w) (Some xs) (Some y) z x s b = refl

module _ (env : Environment) where
  -- ---- what declares no local is the same where more stands behind the locals

  assigned_moves : (s u : Scope) (e : Expression) (q : Destination) → assigned env (leave s u) e q ≡ and_so (assigned env s e q) (λ w. next w.statement (leave s u))
  assigned_moves s u e (ToLocal l) = sym (so_assoc (expression_as env l.resolved s e) (λ x. next (t.Set l.number x) s) (λ w. next w.statement (leave s u)))
  assigned_moves s u e (ToPlace q) = at (is_small q.resolved)
    where
      at : (b : Bool) → provided b (and_so (expression_as env q.resolved s e) (λ x. next (t.Store q.place x) (leave s u)))
          ≡ and_so (provided b (and_so (expression_as env q.resolved s e) (λ x. next (t.Store q.place x) s))) (λ w. next w.statement (leave s u))
      at true = sym (so_assoc (expression_as env q.resolved s e) (λ x. next (t.Store q.place x) s) (λ w. next w.statement (leave s u)))
      at false = refl

  updated_moves : (s u : Scope) (o : _) (x : t.Exp) (q : Destination) → updated env (leave s u) o x q ≡ and_so (updated env s o x q) (λ w. next w.statement (leave s u))
  updated_moves s u o x (ToLocal l) = at (same_type l.resolved IntType)
    where
      at : (b : Bool) → provided b (next (t.Update l.number o x) (leave s u)) ≡ and_so (provided b (next (t.Update l.number o x) s)) (λ w. next w.statement (leave s u))
      at true = refl
      at false = refl
  updated_moves s u o x (ToPlace q) = at (same_type q.resolved IntType)
    where
      at : (b : Bool) → provided b (next (t.StoreUpdate q.place o x) (leave s u)) ≡ and_so (provided b (next (t.StoreUpdate q.place o x) s)) (λ w. next w.statement (leave s u))
      at true = refl
      at false = refl

  moves_by : (s u : Scope) (d : Expression) (o : Option Name) → destination_by env o (leave s u) d ≡ destination_by env o s d
  moves_by s u d (Some n) = refl
  moves_by s u d None = refl

  destination_moves : (s u : Scope) (d : Expression) → destination env (leave s u) d ≡ destination env s d
  destination_moves s u d = moves_by s u d (as_variable d)

  update_moves : (s u : Scope) (o : _) (e : Expression) (q : Destination) → and_so (change_of (operator_rule o)) (λ k. and_so (expression_as env IntType s e) (λ x. updated env (leave s u) k x q))
      ≡ and_so (and_so (change_of (operator_rule o)) (λ k. and_so (expression_as env IntType s e) (λ x. updated env s k x q))) (λ w. next w.statement (leave s u))
  update_moves s u o e q =
      so_same (change_of (operator_rule o)) (λ k. and_so (expression_as env IntType s e) (λ x. updated env (leave s u) k x q)) (λ k. and_so (and_so (expression_as env IntType s e) (λ x. updated env s k x q)) (λ w. next w.statement (leave s u)))
      (λ k. so_same (expression_as env IntType s e) (λ x. updated env (leave s u) k x q) (λ x. and_so (updated env s k x q) (λ w. next w.statement (leave s u))) (λ x. updated_moves s u k x q)
      ∙ sym (so_assoc (expression_as env IntType s e) (λ x. updated env s k x q) (λ w. next w.statement (leave s u))))
      ∙ sym (so_assoc (change_of (operator_rule o)) (λ k. and_so (expression_as env IntType s e) (λ x. updated env s k x q)) (λ w. next w.statement (leave s u)))

  part_moves : (a : Option SimpleStatement) (s u : Scope) → declares a ≡ false → typed_part env a (leave s u) ≡ and_so (typed_part env a s) (λ w. next w.statement (leave s u))
  part_moves None s u h = refl
  part_moves (Some (Declare a n)) s u h = absurd (cc h)
  part_moves (Some (Initialize a n e)) s u h = absurd (cc h)
  part_moves (Some (Assign d e)) s u h =
      ap (λ o. and_so o (assigned env (leave s u) e)) (destination_moves s u d)
      ∙ so_same (destination env s d) (assigned env (leave s u) e) (λ q. and_so (assigned env s e q) (λ w. next w.statement (leave s u))) (λ q. assigned_moves s u e q)
      ∙ sym (so_assoc (destination env s d) (assigned env s e) (λ w. next w.statement (leave s u)))
  part_moves (Some (Update d o e)) s u h =
      ap (λ r. and_so r (λ q. and_so (change_of (operator_rule o)) (λ k. and_so (expression_as env IntType s e) (λ x. updated env (leave s u) k x q)))) (destination_moves s u d)
      ∙ so_same (destination env s d) (λ q. and_so (change_of (operator_rule o)) (λ k. and_so (expression_as env IntType s e) (λ x. updated env (leave s u) k x q)))
      (λ q. and_so (and_so (change_of (operator_rule o)) (λ k. and_so (expression_as env IntType s e) (λ x. updated env s k x q))) (λ w. next w.statement (leave s u))) (λ q. update_moves s u o e q)
      ∙ sym (so_assoc (destination env s d) (λ q. and_so (change_of (operator_rule o)) (λ k. and_so (expression_as env IntType s e) (λ x. updated env s k x q))) (λ w. next w.statement (leave s u)))
  part_moves (Some (Step d way)) s u h =
      ap (λ o. and_so o (updated env (leave s u) (step_of way) one)) (destination_moves s u d)
      ∙ so_same (destination env s d) (updated env (leave s u) (step_of way) one) (λ q. and_so (updated env s (step_of way) one q) (λ w. next w.statement (leave s u))) (λ q. updated_moves s u (step_of way) one q)
      ∙ sym (so_assoc (destination env s d) (updated env s (step_of way) one) (λ w. next w.statement (leave s u)))
  part_moves (Some (Evaluate e)) s u h = sym (so_assoc (and_so (typed_expression env (within s) e) (evaluated env e)) (λ x. next (t.Do x) s) (λ w. next w.statement (leave s u)))

  -- ---- a `for` is its first part and its loop

  -- the loop and the first part before it, in the rules' order
  abbrev behind_of : Option SimpleStatement → t.Exp → t.Exps → t.Stmt → Scope → Scope → Checked → Bool → Option Checked
  behind_of third z xs b x s y declared =
      provided (not declared) (and_so (typed_part env third (leave x y.scope)) (λ w. next (t.Seq b (t.Seq (t.Loop xs z y.statement w.statement) t.Skip)) (leave s w.scope)))

  loop_is : (third : Option SimpleStatement) (notes : Option t.Exps) (a : Statement) (z : t.Exp) (x s : Scope) (b : t.Stmt) (declared : Bool) → declares third ≡ declared
      → and_so (and_so (provided (not declared) (and_so (typed_part env third x) (λ w. Some w.statement))) (λ w. and_so notes (λ xs. made z w xs))) (λ h. and_so (turn_in_scope env a x) (λ v. next (t.Seq b (t.Seq (t.Loop h.invariants h.condition v.statement h.third) t.Skip)) (leave s v.scope)))
      ≡ and_so notes (λ xs. and_so (typed_statement env a (in_body x)) (λ y. behind_of third z xs b x s y declared))
  loop_is third notes a z x s b true h = sym (so_none notes _ (λ xs. so_none (typed_statement env a (in_body x)) _ (λ y. refl)))
  loop_is third notes a z x s b false h =
      in_order (typed_part env third x) notes (typed_statement env a (in_body x)) z x s b
      ∙ so_same notes _ _ (λ xs. so_same (typed_statement env a (in_body x)) _ _ (λ y. ap (λ o. and_so o (λ w. next (t.Seq b (t.Seq (t.Loop xs z y.statement w.statement) t.Skip)) (leave s w.scope))) (sym (part_moves third x y.scope h))))

  for_is : (first : Option SimpleStatement) (c : Expression) (third : Option SimpleStatement) (notes : List (List Spec)) (a : Statement) (s : Scope)
      → and_so (typed_part env first s) (λ x. and_so (loop_behind env c third notes a x.scope) (λ w. next (t.Seq x.statement (t.Seq w.statement t.Skip)) (leave s w.scope))) ≡ typed_statement env (For first c third notes a) s
  for_is first c third notes a s =
      so_same (typed_part env first s) _ _ (λ x.
      so_assoc (loop_head env c third notes x.scope) _ _
      ∙ so_same (loop_head env c third notes x.scope) _ _ (λ h. so_assoc (turn_in_scope env a x.scope) _ _)
      ∙ so_assoc (expression_as env BoolType x.scope c) _ _
      ∙ so_same (expression_as env BoolType x.scope c) _ _ (λ z. loop_is third (conditions_of_all env Invariant (within x.scope) (specs_in notes)) a z x.scope s x.statement (declares third) refl))

  for_leaves : (first : Option SimpleStatement) (c : Expression) (third : Option SimpleStatement) (notes : List (List Spec)) (a : Statement) (s : Scope) (x w : Checked) → typed_part env first s ≡ Some x
      → loop_behind env c third notes a x.scope ≡ Some w → typed_statement env (For first c third notes a) s ≡ Some (record { statement = t.Seq x.statement (t.Seq w.statement t.Skip); scope = leave s w.scope })
  for_leaves first c third notes a s x w e k =
      sym (for_is first c third notes a s)
      ∙ ap (λ o. and_so o (λ z. and_so (loop_behind env c third notes a z.scope) (λ v. next (t.Seq z.statement (t.Seq v.statement t.Skip)) (leave s v.scope)))) e
      ∙ ap (λ o. and_so o (λ v. next (t.Seq x.statement (t.Seq v.statement t.Skip)) (leave s v.scope))) k

  -- ... and at the end of its scope
  pub for_gives : (first : Option SimpleStatement) (c : Expression) (third : Option SimpleStatement) (notes : List (List Spec)) (a : Statement) (s : Scope) (x w : Checked) → typed_part env first s ≡ Some x
      → loop_behind env c third notes a x.scope ≡ Some w → (count : ℕ) (behind : Scope) → count ≡ length s.locals → behind ≡ record w.scope { locals = take count w.scope.locals }
      → typed_statement env (For first c third notes a) s ≡ Some (record { statement = t.Seq x.statement (t.Seq w.statement t.Skip); scope = behind })
  for_gives first c third notes a s x w e k count behind size l =
      let kept = keeps_on s x w (some_has (Keeps s) (typed_part env first s) x (part_keeps env first s) e) (some_has (Keeps x.scope) (loop_behind env c third notes a x.scope) w (loop_keeps env c third notes a x.scope) k) in
      for_leaves first c third notes a s x w e k
      ∙ ap (λ z. Some (record { statement = t.Seq x.statement (t.Seq w.statement t.Skip); scope = z })) (sym (l ∙ ap (λ m. record w.scope { locals = take m w.scope.locals }) size ∙ left s w kept))

  pub for_none : {K : Type 0} (first : Option SimpleStatement) (c : Expression) (third : Option SimpleStatement) (notes : List (List Spec)) (a : Statement) (s : Scope) (x : Checked) → typed_part env first s ≡ Some x
      → K ⊎ (loop_behind env c third notes a x.scope ≡ None) → K ⊎ (typed_statement env (For first c third notes a) s ≡ None)
  for_none first c third notes a s x e (inl k) = inl k
  for_none first c third notes a s x e (inr k) =
      inr (sym (for_is first c third notes a s)
      ∙ ap (λ o. and_so o (λ z. and_so (loop_behind env c third notes a z.scope) (λ v. next (t.Seq z.statement (t.Seq v.statement t.Skip)) (leave s v.scope)))) e
      ∙ ap (λ o. and_so o (λ v. next (t.Seq x.statement (t.Seq v.statement t.Skip)) (leave s v.scope))) k)

  pub first_none : {K : Type 0} (first : Option SimpleStatement) (c : Expression) (third : Option SimpleStatement) (notes : List (List Spec)) (a : Statement) (s : Scope) → K ⊎ (typed_part env first s ≡ None)
      → K ⊎ (typed_statement env (For first c third notes a) s ≡ None)
  first_none first c third notes a s (inl k) = inl k
  first_none first c third notes a s (inr k) =
      inr (sym (for_is first c third notes a s) ∙ ap (λ o. and_so o (λ z. and_so (loop_behind env c third notes a z.scope) (λ v. next (t.Seq z.statement (t.Seq v.statement t.Skip)) (leave s v.scope)))) k)

  -- ---- a loop is its head and its body

  pub loop_gives : (c : Expression) (third : Option SimpleStatement) (notes : List (List Spec)) (a : Statement) (s : Scope) (h : Head) (x : Checked) → loop_head env c third notes s ≡ Some h → turn_in_scope env a s ≡ Some x
      → loop_behind env c third notes a s ≡ Some (record { statement = t.Loop h.invariants h.condition x.statement h.third; scope = x.scope })
  loop_gives c third notes a s h x e k =
      ap (λ o. and_so o (λ h. and_so (turn_in_scope env a s) (λ x. next (t.Loop h.invariants h.condition x.statement h.third) x.scope))) e
      ∙ ap (λ o. and_so o (λ x. next (t.Loop h.invariants h.condition x.statement h.third) x.scope)) k

  pub head_none : {K : Type 0} (c : Expression) (third : Option SimpleStatement) (notes : List (List Spec)) (a : Statement) (s : Scope) → K ⊎ (loop_head env c third notes s ≡ None) → K ⊎ (loop_behind env c third notes a s ≡ None)
  head_none c third notes a s (inl k) = inl k
  head_none c third notes a s (inr h) = inr (ap (λ o. and_so o (λ h. and_so (turn_in_scope env a s) (λ x. next (t.Loop h.invariants h.condition x.statement h.third) x.scope))) h)

  pub loop_none : {K : Type 0} (c : Expression) (third : Option SimpleStatement) (notes : List (List Spec)) (a : Statement) (s : Scope) → K ⊎ (turn_in_scope env a s ≡ None) → K ⊎ (loop_behind env c third notes a s ≡ None)
  loop_none c third notes a s (inl k) = inl k
  loop_none c third notes a s (inr h) = inr (so_none (loop_head env c third notes s) _ (λ z. ap (λ o. and_so o (λ x. next (t.Loop z.invariants z.condition x.statement z.third) x.scope)) h))

  -- ---- a `while` is a loop with no third part

  pub while_behind : (c : Expression) (notes : List (List Spec)) (a : Statement) (s : Scope) → loop_behind env c None notes a s ≡ typed_statement env (While c notes a) s
  while_behind c notes a s =
      so_assoc (expression_as env BoolType s c) _ _
      ∙ so_same (expression_as env BoolType s c) _ _ (λ z. so_assoc (conditions_of_all env Invariant (within s) (specs_in notes)) (λ xs. made z t.Skip xs) (λ h. and_so (turn_in_scope env a s) (λ x. next (t.Loop h.invariants h.condition x.statement h.third) x.scope)))
      ∙ while_is env c notes a s

  pub while_headless : {K : Type 0} (c : Expression) (notes : List (List Spec)) (a : Statement) (s : Scope) → K ⊎ (loop_head env c None notes s ≡ None) → K ⊎ (typed_statement env (While c notes a) s ≡ None)
  while_headless {K = K} c notes a s h = subst (λ o. K ⊎ (o ≡ None)) (while_behind c notes a s) (head_none c None notes a s h)

  -- ---- a head is its parts

  pub head_gives : (c : Expression) (third : Option SimpleStatement) (notes : List (List Spec)) (s : Scope) (z : t.Exp) (w : t.Stmt) (xs : t.Exps) → expression_as env BoolType s c ≡ Some z → third_of_loop env third s ≡ Some w
      → conditions_of_all env Invariant (within s) (specs_in notes) ≡ Some xs → loop_head env c third notes s ≡ made z w xs
  head_gives c third notes s z w xs e k i =
      ap (λ o. and_so o (λ z. and_so (third_of_loop env third s) (λ w. and_so (conditions_of_all env Invariant (within s) (specs_in notes)) (λ xs. made z w xs)))) e
      ∙ ap (λ o. and_so o (λ w. and_so (conditions_of_all env Invariant (within s) (specs_in notes)) (λ xs. made z w xs))) k
      ∙ ap (λ o. and_so o (λ xs. made z w xs)) i

  pub condition_none : {K : Type 0} (c : Expression) (third : Option SimpleStatement) (notes : List (List Spec)) (s : Scope) → K ⊎ (expression_as env BoolType s c ≡ None) → K ⊎ (loop_head env c third notes s ≡ None)
  condition_none c third notes s (inl k) = inl k
  condition_none c third notes s (inr h) =
      inr (ap (λ o. and_so o (λ z. and_so (third_of_loop env third s) (λ w. and_so (conditions_of_all env Invariant (within s) (specs_in notes)) (λ xs. made z w xs)))) h)

  pub step_none : {K : Type 0} (c : Expression) (third : Option SimpleStatement) (notes : List (List Spec)) (s : Scope) → K ⊎ (third_of_loop env third s ≡ None) → K ⊎ (loop_head env c third notes s ≡ None)
  step_none c third notes s (inl k) = inl k
  step_none c third notes s (inr h) =
      inr (so_none (expression_as env BoolType s c) _ (λ z. ap (λ o. and_so o (λ w. and_so (conditions_of_all env Invariant (within s) (specs_in notes)) (λ xs. made z w xs))) h))

  pub notes_none : {K : Type 0} (c : Expression) (third : Option SimpleStatement) (notes : List (List Spec)) (s : Scope) → K ⊎ (conditions_of_all env Invariant (within s) (specs_in notes) ≡ None) → K ⊎ (loop_head env c third notes s ≡ None)
  notes_none c third notes s (inl k) = inl k
  notes_none c third notes s (inr h) =
      inr (so_none (expression_as env BoolType s c) _ (λ z. so_none (third_of_loop env third s) _ (λ w. ap (λ o. and_so o (λ xs. made z w xs)) h)))

  -- the answer that the parts make together
  abbrev pub IsHeaded : TypedExpression → d.Statement → Result (Vec TypedExpression Global) Fault → Result LoopHead Fault → Type 0
  IsHeaded z w notes made = MatchResult made (λ h. (h.condition ≡ z) × (h.third ≡ w) × (notes ≡ Ok h.invariants)) (λ f. notes ≡ Err f)

  pub head_answers : (texts : List Name) (c : Expression) (third : Option SimpleStatement) (notes : List (List Spec)) (s : Scope) (z : TypedExpression) (w : d.Statement) (found : Result (Vec TypedExpression Global) Fault)
      (made : Result LoopHead Fault) → expression_as env BoolType s c ≡ Some (exp_of texts z) → third_of_loop env third s ≡ Some (stmt_of texts w)
      → Answers (λ v. exps_of texts v.items) found (conditions_of_all env Invariant (within s) (specs_in notes)) → IsHeaded z w found made → Answers (head_of texts) made (loop_head env c third notes s)
  head_answers texts c third notes s z w found (Ok h) e k i m =
      head_gives c third notes s (exp_of texts h.condition) (stmt_of texts h.third) (exps_of texts h.invariants.items)
      (subst (λ q. expression_as env BoolType s c ≡ Some (exp_of texts q)) (sym m.0) e) (subst (λ q. third_of_loop env third s ≡ Some (stmt_of texts q)) (sym m.1) k)
      (subst (λ q. Answers (λ v. exps_of texts v.items) q (conditions_of_all env Invariant (within s) (specs_in notes))) m.2 i)
  head_answers texts c third notes s z w found (Err f) e k i m =
      notes_none c third notes s (subst (λ q. Answers (λ v. exps_of texts v.items) q (conditions_of_all env Invariant (within s) (specs_in notes))) m i)

  pub head_cause : (X : Fault → Type 0) (z : TypedExpression) (w : d.Statement) (found : Result (Vec TypedExpression Global) Fault) (made : Result LoopHead Fault) → IsHeaded z w found made → IfErr found X → IfErr made X
  head_cause X z w found (Ok h) m told = tt
  head_cause X z w found (Err f) m told = subst (λ q. IfErr q X) m told

  -- ---- a third part

  pub declares_none : (third : Option SimpleStatement) (s : Scope) → declares third ≡ true → third_of_loop env third s ≡ None
  declares_none third s h = ap (λ b. provided (not b) (and_so (typed_part env third s) (λ w. Some w.statement))) h

  third_is : (third : Option SimpleStatement) (s : Scope) → declares third ≡ false → third_of_loop env third s ≡ and_so (typed_part env third s) (λ w. Some w.statement)
  third_is third s h = ap (λ b. provided (not b) (and_so (typed_part env third s) (λ w. Some w.statement))) h

  pub third_answers : (texts : List Name) (behind : code.Scope) (r : Result d.Statement Fault) (third : Option SimpleStatement) (s : Scope) → declares third ≡ false → Gives texts behind r (typed_part env third s)
      → Answers (stmt_of texts) r (third_of_loop env third s)
  third_answers texts behind (Ok b) third s h e = third_is third s h ∙ ap (λ o. and_so o (λ w. Some w.statement)) e
  third_answers texts behind (Err f) third s h (inl k) = inl k
  third_answers texts behind (Err f) third s h (inr e) = inr (third_is third s h ∙ ap (λ o. and_so o (λ w. Some w.statement)) e)

  pub third_stays : (texts : List Name) (behind : code.Scope) (r : Result d.Statement Fault) (third : Option SimpleStatement) (s : Scope) → declares third ≡ false → Gives texts behind r (typed_part env third s)
      → IfOk r (λ b. scope_of behind ≡ s)
  third_stays texts behind (Ok b) third s h e = stays env third s (record { statement = stmt_of texts b; scope = scope_of behind }) h e
  third_stays texts behind (Err f) third s h e = tt
