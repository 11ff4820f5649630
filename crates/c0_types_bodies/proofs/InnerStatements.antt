-- Statements with others in them: what the rules give of each, by what they give of its parts.
use Rattle.std.proofs.Common.{◌≡◌, ℕ, zero, suc, ◌+◌, ◌<◌, ◌≤◌, List, [], ◌∷◌, ◌++◌, length, get_or, take, drop, refl, sym, ap, subst, ◌∙◌, true, false, Option, Some, None, arith, inl, inr}
use Rattle.std.specs.Prelude.{◌⊎◌, not}
use Rattle.std.proofs.lemmas.List.{at_drop_all, drop_more}
use Rattle.c0_source.specs.declared.fault.Fault.{Fault}
use Rattle.c0_syntax.specs.declared.statement.Statement as n
use Rattle.c0_syntax.specs.Trees.{Expression, Spec, SimpleStatement, Statement, If, IfElse, While, For, Statements, also}
use Rattle.c0_syntax.specs.Views.{statement_of, statements_of}
use Rattle.c0_typed.specs.Trees as t
use Rattle.c0_typed.specs.Views.{block_of, stmt_of}
use Rattle.c0_typed.specs.declared.tree.Statement as d
use Rattle.c0_types_bodies.specs.Bodies.{StatementHasTexts, StatementsHaveTexts, block_in_scope, in_scope, turn_in_scope, loop_behind}
use Rattle.c0_rules.specs.FaultStatements.{InBody, InStatement}
use Rattle.c0_rules.specs.Mentions.{specs_in}
use Rattle.c0_rules.specs.Statements.{Invariant, Scope, Checked, in_body, leave, within, declares, expression_as, conditions_of_all, next, typed_part, typed_statement, typed_statements}
use Rattle.c0_rules.specs.Types.{and_so, provided, Name, BoolType, Environment}
use Rattle.c0_rules.proofs.Rules.{some_has}
use Rattle.c0_types_bodies.proofs.Scopes.{Keeps, keeps_on, left, turn_left, loop_keeps, part_keeps, statement_keeps, statements_keep}

-- ---- rules in a row

pub so_same : {A B : Type 0} (o : Option A) (f g : A → Option B) → ((x : A) → f x ≡ g x) → and_so o f ≡ and_so o g
so_same None f g h = refl
so_same (Some x) f g h = h x

pub so_assoc : {A B C : Type 0} (o : Option A) (f : A → Option B) (g : B → Option C) → and_so (and_so o f) g ≡ and_so o (λ x. and_so (f x) g)
so_assoc None f g = refl
so_assoc (Some x) f g = refl

pub so_none : {A B : Type 0} (o : Option A) (f : A → Option B) → ((x : A) → f x ≡ None) → and_so o f ≡ None
so_none None f h = refl
so_none (Some x) f h = h x

module _ (env : Environment) where
  pub if_is : (c : Expression) (a : Statement) (s : Scope)
      → and_so (expression_as env BoolType s c) (λ z. and_so (in_scope env a s) (λ x. next (t.If z x.statement t.Skip) x.scope)) ≡ typed_statement env (If c a) s
  if_is c a s = so_same (expression_as env BoolType s c) _ _ (λ z. so_assoc (typed_statement env a s) _ _)

  pub if_else_is : (c : Expression) (a b : Statement) (s : Scope)
      → and_so (expression_as env BoolType s c) (λ z. and_so (in_scope env a s) (λ x. and_so (in_scope env b x.scope) (λ y. next (t.If z x.statement y.statement) y.scope))) ≡ typed_statement env (IfElse c a b) s
  if_else_is c a b s =
      so_same (expression_as env BoolType s c) _ _ (λ z.
      so_assoc (typed_statement env a s) _ _ ∙ so_same (typed_statement env a s) _ _ (λ x. so_assoc (typed_statement env b (leave s x.scope)) _ _))

  pub while_is : (c : Expression) (notes : List (List Spec)) (a : Statement) (s : Scope)
      → and_so (expression_as env BoolType s c) (λ z. and_so (conditions_of_all env Invariant (within s) (specs_in notes)) (λ xs. and_so (turn_in_scope env a s) (λ x. next (t.Loop xs z x.statement t.Skip) x.scope)))
      ≡ typed_statement env (While c notes a) s
  while_is c notes a s =
      so_same (expression_as env BoolType s c) _ _ (λ z. so_same (conditions_of_all env Invariant (within s) (specs_in notes)) _ _ (λ xs. so_assoc (typed_statement env a (in_body s)) _ _))

  -- ---- the end of a scope

  pub nested_gives : (b : Statement) (s : Scope) (x : Checked) (count : ℕ) (behind : Scope) → count ≡ length s.locals → typed_statement env b s ≡ Some x → behind ≡ record x.scope { locals = take count x.scope.locals }
      → in_scope env b s ≡ Some (record { statement = x.statement; scope = behind })
  nested_gives b s x count behind e h k =
      ap (λ o. and_so o (λ z. next z.statement (leave s z.scope))) h
      ∙ ap (λ z. Some (record { statement = x.statement; scope = z })) (sym (k ∙ ap (λ m. record x.scope { locals = take m x.scope.locals }) e ∙ left s x (some_has (Keeps s) (typed_statement env b s) x (statement_keeps env b s) h)))

  -- ... and of the body of a loop
  pub turn_gives : (b : Statement) (s : Scope) (x : Checked) (count : ℕ) (behind : Scope) → count ≡ length s.locals → typed_statement env b (in_body s) ≡ Some x → behind ≡ record x.scope { locals = take count x.scope.locals }
      → turn_in_scope env b s ≡ Some (record { statement = x.statement; scope = record behind { in_loop = s.in_loop } })
  turn_gives b s x count behind e h k =
      ap (λ o. and_so o (λ z. next z.statement (leave s z.scope))) h
      ∙ ap (λ z. Some (record { statement = x.statement; scope = z }))
      (sym (ap (λ (z : Scope). record z { in_loop = s.in_loop }) k ∙ ap (λ m. record x.scope { locals = take m x.scope.locals; in_loop = s.in_loop }) e
      ∙ turn_left s x (some_has (Keeps (in_body s)) (typed_statement env b (in_body s)) x (statement_keeps env b (in_body s)) h)))

  pub block_gives : (ss : Statements) (s : Scope) (x : Checked) (count : ℕ) (behind : Scope) → count ≡ length s.locals → typed_statements env ss s ≡ Some x → behind ≡ record x.scope { locals = take count x.scope.locals }
      → block_in_scope env ss s ≡ Some (record { statement = x.statement; scope = behind })
  block_gives ss s x count behind e h k =
      ap (λ o. and_so o (λ z. next z.statement (leave s z.scope))) h
      ∙ ap (λ z. Some (record { statement = x.statement; scope = z })) (sym (k ∙ ap (λ m. record x.scope { locals = take m x.scope.locals }) e ∙ left s x (some_has (Keeps s) (typed_statements env ss s) x (statements_keep env ss s) h)))

  -- ---- statements in order

  pub gives_at : (xs : List n.Statement) (i : ℕ) (x : n.Statement) → i < length xs → x ≡ get_or xs i x → (s : Scope)
      → typed_statements env (statements_of (drop i xs)) s ≡ and_so (typed_statement env (statement_of x) s) (λ z. and_so (typed_statements env (statements_of (drop (i + 1) xs)) z.scope) (λ y. next (t.Seq z.statement y.statement) y.scope))
  gives_at xs i x l e s =
      ap (λ z. typed_statements env (statements_of z) s) (drop_more xs i x l)
      ∙ ap (λ q. typed_statements env (also (statement_of q) (statements_of (drop (i + 1) xs))) s) (sym e)

-- the statements so far, before another one
abbrev pub block_before : List Name → List d.Statement → t.Stmt → t.Stmt
block_before texts [] b = b
block_before texts (x ∷ rest) b = t.Seq (stmt_of texts x) (block_before texts rest b)

-- ... before what the rules give
abbrev pub after_all : List Name → List d.Statement → Option Checked → Option Checked
after_all texts all o = and_so o (λ x. next (block_before texts all x.statement) x.scope)

before_push : (texts : List Name) (all : List d.Statement) (x : d.Statement) (b : t.Stmt) → block_before texts (all ++ x ∷ []) b ≡ block_before texts all (t.Seq (stmt_of texts x) b)
before_push texts [] x b = refl
before_push texts (y ∷ all) x b = ap (t.Seq (stmt_of texts y)) (before_push texts all x b)

before_skip : (texts : List Name) (all : List d.Statement) → block_before texts all t.Skip ≡ block_of texts all
before_skip texts [] = refl
before_skip texts (x ∷ all) = ap (t.Seq (stmt_of texts x)) (before_skip texts all)

pub after_none : (texts : List Name) (o : Option Checked) → after_all texts [] o ≡ o
after_none texts None = refl
after_none texts (Some x) = refl

after_push : (texts : List Name) (all : List d.Statement) (x : d.Statement) (o : Option Checked) → after_all texts (all ++ x ∷ []) o ≡ after_all texts all (and_so o (λ y. next (t.Seq (stmt_of texts x) y.statement) y.scope))
after_push texts all x None = refl
after_push texts all x (Some y) = ap (λ b. Some (record { statement = b; scope = y.scope })) (before_push texts all x y.statement)

module _ (env : Environment) (texts : List Name) where
  pub statement_none : {K : Type 0} (all : List d.Statement) (xs : List n.Statement) (i : ℕ) (x : n.Statement) → i < length xs → x ≡ get_or xs i x → (s : Scope) (total : Option Checked)
      → K ⊎ (typed_statement env (statement_of x) s ≡ None) → after_all texts all (typed_statements env (statements_of (drop i xs)) s) ≡ total → K ⊎ (total ≡ None)
  statement_none all xs i x l e s total (inl k) so_far = inl k
  statement_none all xs i x l e s total (inr h) so_far =
      inr (sym so_far ∙ ap (after_all texts all) (gives_at env xs i x l e s ∙ ap (λ o. and_so o (λ z. and_so (typed_statements env (statements_of (drop (i + 1) xs)) z.scope) (λ y. next (t.Seq z.statement y.statement) y.scope))) h))

  pub statement_more : (all : List d.Statement) (found : d.Statement) (xs : List n.Statement) (i : ℕ) (x : n.Statement) → i < length xs → x ≡ get_or xs i x → (s behind : Scope) (total : Option Checked)
      → typed_statement env (statement_of x) s ≡ Some (record { statement = stmt_of texts found; scope = behind }) → after_all texts all (typed_statements env (statements_of (drop i xs)) s) ≡ total
      → after_all texts (all ++ found ∷ []) (typed_statements env (statements_of (drop (i + 1) xs)) behind) ≡ total
  statement_more all found xs i x l e s behind total h so_far =
      after_push texts all found (typed_statements env (statements_of (drop (i + 1) xs)) behind)
      ∙ ap (after_all texts all) (sym (gives_at env xs i x l e s ∙ ap (λ o. and_so o (λ z. and_so (typed_statements env (statements_of (drop (i + 1) xs)) z.scope) (λ y. next (t.Seq z.statement y.statement) y.scope))) h))
      ∙ so_far

  pub statements_done : (all : List d.Statement) (xs : List n.Statement) (i : ℕ) → length xs ≤ i → (s : Scope) (total : Option Checked) → after_all texts all (typed_statements env (statements_of (drop i xs)) s) ≡ total
      → total ≡ Some (record { statement = block_of texts all; scope = s })
  statements_done all xs i l s total so_far =
      sym so_far ∙ at_drop_all (λ z. after_all texts all (typed_statements env (statements_of z) s)) xs i l ∙ ap (λ b. Some (record { statement = b; scope = s })) (before_skip texts all)

  pub body_has : (xs : List n.Statement) (i : ℕ) (x : n.Statement) → i < length xs → x ≡ get_or xs i x → StatementsHaveTexts texts (statements_of xs) → StatementHasTexts texts (statement_of x)
  body_has [] i x l e h = absurd (omega arith)
  body_has (y ∷ xs) zero x l e h = subst (λ z. StatementHasTexts texts (statement_of z)) (sym e) h.0
  body_has (y ∷ xs) (suc i) x l e h = body_has xs i x (omega arith) e h.1

-- ---- causes

module _ (env : Environment) (f : Fault) where
  rest_cause : (s : Scope) (xs : List n.Statement) (i : ℕ) (x : n.Statement) → i < length xs → x ≡ get_or xs i x → InBody env f s (x ∷ drop (i + 1) xs) → InBody env f s (drop i xs)
  rest_cause s xs i x l e h = subst (InBody env f s) (ap (λ z. z ∷ drop (i + 1) xs) e ∙ sym (drop_more xs i x l)) h

  pub body_cause : {K T : Type 0} (s : Scope) (xs : List n.Statement) (i : ℕ) (x : n.Statement) → i < length xs → x ≡ get_or xs i x → (InBody env f s (drop i xs) → T) → K ⊎ InStatement env f s x.kind x.span → K ⊎ T
  body_cause s xs i x l e so_far (inl k) = inl k
  body_cause s xs i x l e so_far (inr h) = inr (so_far (rest_cause s xs i x l e (inl h)))

  pub body_step : {T : Type 0} (s : Scope) (xs : List n.Statement) (i : ℕ) (x : n.Statement) → i < length xs → x ≡ get_or xs i x → (z : Checked) → typed_statement env (statement_of x) s ≡ Some z
      → (InBody env f s (drop i xs) → T) → InBody env f z.scope (drop (i + 1) xs) → T
  body_step s xs i x l e z h so_far there = so_far (rest_cause s xs i x l e (inr (z, h, there)))

-- ---- what each gives, and what it lacks

module _ (env : Environment) where
  -- of two rules in a row, where both give something
  from_both : {A B : Type 0} (o : Option A) (go : A → Option B) (y : B) → and_so o go ≡ Some y → (x : A) × (o ≡ Some x) × (go x ≡ Some y)
  from_both None go y e = absurd (cc e)
  from_both (Some x) go y e = (x, refl, e)

  pub if_gives : (c : Expression) (a : Statement) (s : Scope) (z : t.Exp) (x : Checked) (b : t.Stmt) → expression_as env BoolType s c ≡ Some z → in_scope env a s ≡ Some x → b ≡ t.If z x.statement t.Skip
      → typed_statement env (If c a) s ≡ Some (record { statement = b; scope = x.scope })
  if_gives c a s z x b e k same =
      sym (if_is env c a s)
      ∙ ap (λ o. and_so o (λ w. and_so (in_scope env a s) (λ v. next (t.If w v.statement t.Skip) v.scope))) e
      ∙ ap (λ o. and_so o (λ v. next (t.If z v.statement t.Skip) v.scope)) k
      ∙ ap (λ w. Some (record { statement = w; scope = x.scope })) (sym same)

  pub if_none : {K : Type 0} (c : Expression) (a : Statement) (s : Scope) → K ⊎ (in_scope env a s ≡ None) → K ⊎ (typed_statement env (If c a) s ≡ None)
  if_none c a s (inl k) = inl k
  if_none c a s (inr h) = inr (sym (if_is env c a s) ∙ so_none (expression_as env BoolType s c) _ (λ z. ap (λ o. and_so o (λ v. next (t.If z v.statement t.Skip) v.scope)) h))

  pub if_else_gives : (c : Expression) (a d : Statement) (s : Scope) (z : t.Exp) (x y : Checked) (b : t.Stmt) → expression_as env BoolType s c ≡ Some z → in_scope env a s ≡ Some x → in_scope env d x.scope ≡ Some y
      → b ≡ t.If z x.statement y.statement → typed_statement env (IfElse c a d) s ≡ Some (record { statement = b; scope = y.scope })
  if_else_gives c a d s z x y b e k l same =
      sym (if_else_is env c a d s)
      ∙ ap (λ o. and_so o (λ w. and_so (in_scope env a s) (λ v. and_so (in_scope env d v.scope) (λ u. next (t.If w v.statement u.statement) u.scope)))) e
      ∙ ap (λ o. and_so o (λ v. and_so (in_scope env d v.scope) (λ u. next (t.If z v.statement u.statement) u.scope))) k
      ∙ ap (λ o. and_so o (λ u. next (t.If z x.statement u.statement) u.scope)) l
      ∙ ap (λ w. Some (record { statement = w; scope = y.scope })) (sym same)

  pub if_else_none : {K : Type 0} (c : Expression) (a d : Statement) (s : Scope) → K ⊎ (in_scope env a s ≡ None) → K ⊎ (typed_statement env (IfElse c a d) s ≡ None)
  if_else_none c a d s (inl k) = inl k
  if_else_none c a d s (inr h) =
      inr (sym (if_else_is env c a d s) ∙ so_none (expression_as env BoolType s c) _ (λ z. ap (λ o. and_so o (λ v. and_so (in_scope env d v.scope) (λ u. next (t.If z v.statement u.statement) u.scope))) h))

  pub else_none : {K : Type 0} (c : Expression) (a d : Statement) (s : Scope) (x : Checked) → in_scope env a s ≡ Some x → K ⊎ (in_scope env d x.scope ≡ None) → K ⊎ (typed_statement env (IfElse c a d) s ≡ None)
  else_none c a d s x k (inl h) = inl h
  else_none c a d s x k (inr h) =
      inr (sym (if_else_is env c a d s) ∙ so_none (expression_as env BoolType s c) _ (λ z.
      ap (λ o. and_so o (λ v. and_so (in_scope env d v.scope) (λ u. next (t.If z v.statement u.statement) u.scope))) k ∙ ap (λ o. and_so o (λ u. next (t.If z x.statement u.statement) u.scope)) h))

  pub while_none : {K : Type 0} (c : Expression) (notes : List (List Spec)) (a : Statement) (s : Scope) → K ⊎ (turn_in_scope env a s ≡ None) → K ⊎ (typed_statement env (While c notes a) s ≡ None)
  while_none c notes a s (inl k) = inl k
  while_none c notes a s (inr h) =
      inr (sym (while_is env c notes a s) ∙ so_none (expression_as env BoolType s c) _ (λ z. so_none (conditions_of_all env Invariant (within s) (specs_in notes)) _ (λ xs. ap (λ o. and_so o (λ v. next (t.Loop xs z v.statement t.Skip) v.scope)) h)))

  -- what holds behind a statement with a scope of its own
  pub scope_cause : (P : Scope → Type 0) (a : Statement) (s : Scope) (x : Checked) → in_scope env a s ≡ Some x → P x.scope → (z : Checked) × (typed_statement env a s ≡ Some z) × P (leave s z.scope)
  scope_cause P a s x e h =
      let both = from_both (typed_statement env a s) (λ v. next v.statement (leave s v.scope)) x e in
      let same : x.scope ≡ leave s both.0.scope = cc (both.2) in
      (both.0, both.1, subst P same h)

  -- the last of three or of four sorts of causes
  pub third_of : {K A B C D : Type 0} → K ⊎ C → (C → D) → K ⊎ A ⊎ B ⊎ D
  third_of (inl k) f = inl k
  third_of (inr h) f = inr (inr (inr (f h)))
