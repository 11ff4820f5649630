-- What a statement leaves in scope begins with the locals that stood before it.
use Rattle.std.proofs.Common.{◌≡◌, ℕ, zero, suc, List, [], ◌∷◌, ◌++◌, length, map, take, refl, sym, ap, ◌∙◌, append_assoc, append-nil, Bool, true, false, Option, Some, None}
use Rattle.std.specs.Prelude.{not, cond, find, option_map}
use Rattle.c0_syntax.specs.Trees.{Expression, Spec, SimpleStatement, Declare, Initialize, Assign, Update, Step, Evaluate, Statement, Simple, Block, Annotation, Return, ReturnValue, If, IfElse, While, For, Assert, Error, Break, Continue, Statements, nothing, also}
use Rattle.c0_typed.specs.Trees as t
use Rattle.c0_types_bodies.specs.Bodies.{turn_in_scope, loop_behind, loop_head}
use Rattle.c0_rules.specs.Types.{and_so, Name, ResolvedType, VoidType, IntType, BoolType, StringType, same_type, is_small, small_type, Environment}
use Rattle.c0_rules.specs.Mentions.{specs_in}
use Rattle.c0_rules.specs.Expressions.{operator_rule, Local, typed_expression}
use Rattle.c0_rules.specs.Statements.{Invariant, Assertion, Scope, Checked, in_body, leave, within, Destination, ToLocal, ToPlace, change_of, step_of, declares, one, expression_as, conditions_of_all, is_taken, declared, destination, assigned, updated, evaluated, typed_simple, typed_part, typed_statement, typed_statements}
use Rattle.c0_rules.proofs.Rules.{AllSome, all_so, all_go, all_if, some_has}

pub map_take : {A B : Type 0} (f : A → B) (n : ℕ) (xs : List A) → map f (take n xs) ≡ take n (map f xs)
map_take f zero xs = refl
map_take f (suc n) [] = refl
map_take f (suc n) (x ∷ xs) = ap (λ l. f x ∷ l) (map_take f n xs)

pub find_mapped : {A B : Type 0} (f : A → B) (test : B → Bool) (xs : List A) → option_map f (find (λ x. test (f x)) xs) ≡ find test (map f xs)
find_mapped f test [] = refl
find_mapped f test (x ∷ xs) = at (test (f x)) (find_mapped f test xs)
  where
    at : (b : Bool) → option_map f (find (λ x. test (f x)) xs) ≡ find test (map f xs)
        → option_map f (cond b (Some x) (find (λ x. test (f x)) xs)) ≡ cond b (Some (f x)) (find test (map f xs))
    at true e = refl
    at false e = e

-- what is found, viewed once or in two steps
pub option_map_twice : {A B C : Type 0} (f : A → B) (g : B → C) (o : Option A) → option_map (λ x. g (f x)) o ≡ option_map g (option_map f o)
option_map_twice f g None = refl
option_map_twice f g (Some x) = refl

take_front : {A : Type 0} (xs ys : List A) → take (length xs) (xs ++ ys) ≡ xs
take_front [] ys = refl
take_front (x ∷ xs) ys = ap (λ l. x ∷ l) (take_front xs ys)

-- the locals begin with those, and it is in a loop where it was
abbrev pub Keeps : Scope → Checked → Type 0
Keeps s x = (more : List Local) × (x.scope.locals ≡ s.locals ++ more) × (x.scope.in_loop ≡ s.in_loop)

same : (s : Scope) → (more : List Local) × (s.locals ≡ s.locals ++ more) × (s.in_loop ≡ s.in_loop)
same s = ([], sym (append-nil s.locals), refl)

-- what is kept twice
pub keeps_on : (s : Scope) (x y : Checked) → Keeps s x → Keeps x.scope y → Keeps s y
keeps_on s x y g i = (g.0 ++ i.0, i.1 ∙ ap (λ l. l ++ i.0) g.1 ∙ append_assoc s.locals g.0 i.0, i.2 ∙ g.2)

module _ (env : Environment) where
  assigned_keeps : (s : Scope) (e : _) (d : Destination) → AllSome (Keeps s) (assigned env s e d)
  assigned_keeps s e (ToLocal l) = all_go (Keeps s) (expression_as env l.resolved s e) _ (λ x q. same s)
  assigned_keeps s e (ToPlace d) = all_if (Keeps s) (is_small d.resolved) _ (λ z. all_go (Keeps s) (expression_as env d.resolved s e) _ (λ x q. same s))

  updated_keeps : (s : Scope) (o : _) (x : t.Exp) (d : Destination) → AllSome (Keeps s) (updated env s o x d)
  updated_keeps s o x (ToLocal l) = all_if (Keeps s) (same_type l.resolved IntType) _ (λ z. same s)
  updated_keeps s o x (ToPlace d) = all_if (Keeps s) (same_type d.resolved IntType) _ (λ z. same s)

  declared_keeps : (n : Name) (a : ResolvedType) (s : Scope) → AllSome (λ k. (more : List Local) × (k.locals ≡ s.locals ++ more) × (k.in_loop ≡ s.in_loop)) (declared env n a s)
  declared_keeps n a s = all_if _ (not (is_taken env s n)) _ (λ e. (_, refl, refl))

  pub simple_keeps : (a : SimpleStatement) (s : Scope) → AllSome (Keeps s) (typed_simple env a s)
  simple_keeps (Declare a n) s = all_go (Keeps s) (small_type env.typedefs a) _ (λ r e. all_so _ (Keeps s) (declared env n r s) _ (declared_keeps n r s) (λ k d. d))
  simple_keeps (Initialize a n e) s =
      all_go (Keeps s) (small_type env.typedefs a) _ (λ r q. all_go (Keeps s) (expression_as env r s e) _ (λ x i. all_so _ (Keeps s) (declared env n r s) _ (declared_keeps n r s) (λ k d. d)))
  simple_keeps (Assign d e) s = all_go (Keeps s) (destination env s d) _ (λ q i. assigned_keeps s e q)
  simple_keeps (Update d o e) s =
      all_go (Keeps s) (destination env s d) _ (λ q f. all_go (Keeps s) (change_of (operator_rule o)) _ (λ k i. all_go (Keeps s) (expression_as env IntType s e) _ (λ x j. updated_keeps s k x q)))
  simple_keeps (Step d way) s = all_go (Keeps s) (destination env s d) _ (λ q f. updated_keeps s (step_of way) one q)
  simple_keeps (Evaluate e) s = all_go (Keeps s) (and_so (typed_expression env (within s) e) (evaluated env e)) _ (λ x q. same s)

  pub part_keeps : (a : Option SimpleStatement) (s : Scope) → AllSome (Keeps s) (typed_part env a s)
  part_keeps None s = same s
  part_keeps (Some a) s = simple_keeps a s

  pub statement_keeps : (b : Statement) (s : Scope) → AllSome (Keeps s) (typed_statement env b s)
  statement_keeps (Simple a) s = simple_keeps a s
  statement_keeps (Block rest) s = all_go (Keeps s) (typed_statements env rest s) _ (λ x g. same s)
  statement_keeps (Annotation specs) s = all_go (Keeps s) (conditions_of_all env Assertion (within s) specs) _ (λ xs q. same s)
  statement_keeps Return s = all_if (Keeps s) (same_type s.result VoidType) _ (λ z. same s)
  statement_keeps (ReturnValue e) s = all_if (Keeps s) (not (same_type s.result VoidType)) _ (λ z. all_go (Keeps s) (expression_as env s.result s e) _ (λ x q. same s))
  statement_keeps (If c a) s = all_go (Keeps s) (expression_as env BoolType s c) _ (λ z q. all_go (Keeps s) (typed_statement env a s) _ (λ x g. same s))
  statement_keeps (IfElse c a b) s =
      all_go (Keeps s) (expression_as env BoolType s c) _ (λ z q. all_go (Keeps s) (typed_statement env a s) _ (λ x g. all_go (Keeps s) (typed_statement env b (leave s x.scope)) _ (λ y i. same s)))
  statement_keeps (While c notes a) s =
      all_go (Keeps s) (expression_as env BoolType s c) _ (λ z q. all_go (Keeps s) (conditions_of_all env Invariant (within s) (specs_in notes)) _ (λ xs r.
      all_go (Keeps s) (typed_statement env a (in_body s)) _ (λ x g. same s)))
  statement_keeps (For first c third notes a) s =
      all_go (Keeps s) (typed_part env first s) _ (λ x gx. all_go (Keeps s) (expression_as env BoolType x.scope c) _ (λ z q.
      all_go (Keeps s) (conditions_of_all env Invariant (within x.scope) (specs_in notes)) _ (λ xs r. all_go (Keeps s) (typed_statement env a (in_body x.scope)) _ (λ y gy.
      all_if (Keeps s) (not (declares third)) _ (λ e. all_go (Keeps s) (typed_part env third (leave x.scope y.scope)) _ (λ w gw. same s))))))
  statement_keeps (Assert e) s = all_go (Keeps s) (expression_as env BoolType s e) _ (λ x q. same s)
  statement_keeps (Error e) s = all_go (Keeps s) (expression_as env StringType s e) _ (λ x q. same s)
  statement_keeps Break s = all_if (Keeps s) s.in_loop _ (λ z. same s)
  statement_keeps Continue s = all_if (Keeps s) s.in_loop _ (λ z. same s)

  pub statements_keep : (ss : Statements) (s : Scope) → AllSome (Keeps s) (typed_statements env ss s)
  statements_keep nothing s = same s
  statements_keep (also a rest) s =
      all_so (Keeps s) (Keeps s) (typed_statement env a s) _ (statement_keeps a s) (λ x g.
      all_so (Keeps x.scope) (Keeps s) (typed_statements env rest x.scope) _ (statements_keep rest x.scope) (λ y i. keeps_on s x y g i))

  pub loop_keeps : (c : Expression) (third : Option SimpleStatement) (notes : List (List Spec)) (a : Statement) (s : Scope) → AllSome (Keeps s) (loop_behind env c third notes a s)
  loop_keeps c third notes a s =
      all_go (Keeps s) (loop_head env c third notes s) _ (λ h q. all_so (Keeps s) (Keeps s) (turn_in_scope env a s) _ (all_go (Keeps s) (typed_statement env a (in_body s)) _ (λ x g. same s)) (λ x g. g))

  -- ---- what declares no local leaves the scope as it is

  abbrev Stays : Scope → Checked → Type 0
  Stays s x = x.scope ≡ s

  assigned_stays : (s : Scope) (e : _) (d : Destination) → AllSome (Stays s) (assigned env s e d)
  assigned_stays s e (ToLocal l) = all_go (Stays s) (expression_as env l.resolved s e) _ (λ x q. refl)
  assigned_stays s e (ToPlace d) = all_if (Stays s) (is_small d.resolved) _ (λ z. all_go (Stays s) (expression_as env d.resolved s e) _ (λ x q. refl))

  updated_stays : (s : Scope) (o : _) (x : t.Exp) (d : Destination) → AllSome (Stays s) (updated env s o x d)
  updated_stays s o x (ToLocal l) = all_if (Stays s) (same_type l.resolved IntType) _ (λ z. refl)
  updated_stays s o x (ToPlace d) = all_if (Stays s) (same_type d.resolved IntType) _ (λ z. refl)

  part_stays : (a : Option SimpleStatement) (s : Scope) → declares a ≡ false → AllSome (Stays s) (typed_part env a s)
  part_stays None s h = refl
  part_stays (Some (Declare a n)) s h = absurd (cc h)
  part_stays (Some (Initialize a n e)) s h = absurd (cc h)
  part_stays (Some (Assign d e)) s h = all_go (Stays s) (destination env s d) _ (λ q i. assigned_stays s e q)
  part_stays (Some (Update d o e)) s h =
      all_go (Stays s) (destination env s d) _ (λ q f. all_go (Stays s) (change_of (operator_rule o)) _ (λ k i. all_go (Stays s) (expression_as env IntType s e) _ (λ x j. updated_stays s k x q)))
  part_stays (Some (Step d way)) s h = all_go (Stays s) (destination env s d) _ (λ q f. updated_stays s (step_of way) one q)
  part_stays (Some (Evaluate e)) s h = all_go (Stays s) (and_so (typed_expression env (within s) e) (evaluated env e)) _ (λ x q. refl)

  pub stays : (a : Option SimpleStatement) (s : Scope) (x : Checked) → declares a ≡ false → typed_part env a s ≡ Some x → x.scope ≡ s
  stays a s x h e = some_has (Stays s) (typed_part env a s) x (part_stays a s h) e

-- so the end of a scope is found by the number of the locals
pub left : (s : Scope) (x : Checked) → Keeps s x → record x.scope { locals = take (length s.locals) x.scope.locals } ≡ leave s x.scope
left s x k =
    ap (λ l. record x.scope { locals = l }) (ap (take (length s.locals)) k.1 ∙ take_front s.locals k.0) ∙ ap (λ b. record x.scope { locals = s.locals; in_loop = b }) k.2

-- the same behind the body of a loop
pub turn_left : (s : Scope) (x : Checked) → Keeps (in_body s) x → record x.scope { locals = take (length s.locals) x.scope.locals; in_loop = s.in_loop } ≡ leave s x.scope
turn_left s x k = ap (λ l. record x.scope { locals = l; in_loop = s.in_loop }) (ap (take (length s.locals)) k.1 ∙ take_front s.locals k.0)
