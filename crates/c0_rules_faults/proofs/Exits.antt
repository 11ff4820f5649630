-- What the static rules take has each `break` and `continue` in a loop.
use Rattle.std.proofs.Common.{◌≡◌, List, [], ◌∷◌, length, refl, subst, Bool, true, false, Option, Some, None}
use Rattle.std.specs.Prelude.{◌&&◌, not}
use Rattle.std.specs.List.{list_all}
use Rattle.cells.specs.declared.int32.Int32Op.{Int32Op}
use Rattle.c0_syntax.specs.Trees as tree
use Rattle.c0_typed.specs.Trees as t
use Rattle.c0_rules.specs.Types.{and_so, Name, ResolvedType, VoidType, IntType, BoolType, StringType, same_type, is_small, small_type, Signature, Environment}
use Rattle.c0_rules.specs.Mentions.{specs_in}
use Rattle.c0_rules.specs.Expressions.{operator_rule, typed_expression}
use Rattle.c0_rules.specs.Statements.{Precondition, Postcondition, Invariant, Assertion, Scope, Checked, in_body, leave, within, next_number, Destination, ToLocal, ToPlace, change_of, step_of, declares, one, expression_as, conditions, conditions_of_all, is_taken, declared, destination, assigned, updated, evaluated, next, typed_simple, typed_part, typed_statement, typed_statements}
use Rattle.c0_rules.specs.Programs.{parameters_from, signature, with_function, result_of, are_contracts, keeps_parameters, paths_agree, Parts, typed_parts, typed_function, Elaboration, typed_declaration, typed_declarations, beginning, whole_agrees, typed_program}
use Rattle.c0_rules.proofs.Rules.{AllSome, all_so, all_go, all_if, all_map, some_has}
use Rattle.c0_rules_faults.specs.Exits.{exits_in_loops, all_exits_in_loops, declared_in_loops, ExitsStandInLoops}

both : (a b : Bool) → a ≡ true → b ≡ true → (a && b) ≡ true
both true b h k = k
both false b h k = h

always : {A : Type 0} (o : Option A) → AllSome (λ z. true ≡ true) o
always None = tt
always (Some a) = refl

module _ (env : Environment) where
  -- ---- statements

  -- behind a statement one is in a loop where one was before it
  abbrev Stays : Scope → Checked → Type 0
  Stays s z = z.scope.in_loop ≡ s.in_loop

  declared_stays : (x : Name) (r : ResolvedType) (s : Scope) (b : t.Stmt) → AllSome (Stays s) (and_so (declared env x r s) (next b))
  declared_stays x r s b =
      all_so (λ (z : Scope). z.in_loop ≡ s.in_loop) (Stays s) (declared env x r s) (next b) (all_if (λ (z : Scope). z.in_loop ≡ s.in_loop) (not (is_taken env s x)) _ (λ q. refl)) (λ z m. m)

  assigned_stays : (s : Scope) (e : tree.Expression) (q : Destination) → AllSome (Stays s) (assigned env s e q)
  assigned_stays s e (ToLocal l) = all_go (Stays s) (expression_as env l.resolved s e) _ (λ x q. refl)
  assigned_stays s e (ToPlace p) = all_if (Stays s) (is_small p.resolved) _ (λ b. all_go (Stays s) (expression_as env p.resolved s e) _ (λ x q. refl))

  updated_stays : (s : Scope) (op : Int32Op) (x : t.Exp) (q : Destination) → AllSome (Stays s) (updated env s op x q)
  updated_stays s op x (ToLocal l) = all_if (Stays s) (same_type l.resolved IntType) _ (λ b. refl)
  updated_stays s op x (ToPlace p) = all_if (Stays s) (same_type p.resolved IntType) _ (λ b. refl)

  simple_stays : (x : tree.SimpleStatement) (s : Scope) → AllSome (Stays s) (typed_simple env x s)
  simple_stays (tree.Declare ty x) s = all_go (Stays s) (small_type env.typedefs ty) _ (λ r q. declared_stays x r s t.Skip)
  simple_stays (tree.Initialize ty x e) s = all_go (Stays s) (small_type env.typedefs ty) _ (λ r q. all_go (Stays s) (expression_as env r s e) _ (λ y w. declared_stays x r s (t.Set (next_number s) y)))
  simple_stays (tree.Assign d e) s = all_go (Stays s) (destination env s d) _ (λ q w. assigned_stays s e q)
  simple_stays (tree.Update d op e) s =
      all_go (Stays s) (destination env s d) _ (λ q w. all_go (Stays s) (change_of (operator_rule op)) _ (λ c v. all_go (Stays s) (expression_as env IntType s e) _ (λ x y. updated_stays s c x q)))
  simple_stays (tree.Step d way) s = all_go (Stays s) (destination env s d) _ (λ q w. updated_stays s (step_of way) one q)
  simple_stays (tree.Evaluate e) s = all_go (Stays s) (and_so (typed_expression env (within s) e) (evaluated env e)) _ (λ x q. refl)

  -- ... and each exit in it stands in a loop
  abbrev Kept : tree.Statement → Scope → Checked → Type 0
  Kept a s z = (exits_in_loops s.in_loop a ≡ true) × Stays s z

  mutual
    statement_exits : (a : tree.Statement) (s : Scope) → AllSome (Kept a s) (typed_statement env a s)
    statement_exits (tree.Simple a) s = all_map (Stays s) (Kept (tree.Simple a) s) (typed_simple env a s) (simple_stays a s) (λ z q. (refl, q))
    statement_exits (tree.Block rest) s =
        all_so (λ z. all_exits_in_loops s.in_loop rest ≡ true) (Kept (tree.Block rest) s) (typed_statements env rest s) _ (statements_exit rest s) (λ x q. (q, refl))
    statement_exits (tree.Annotation specs) s = all_go (Kept (tree.Annotation specs) s) (conditions_of_all env Assertion (within s) specs) _ (λ x q. (refl, refl))
    statement_exits tree.Return s = all_if (Kept tree.Return s) (same_type s.result VoidType) _ (λ b. (refl, refl))
    statement_exits (tree.ReturnValue e) s =
        all_if (Kept (tree.ReturnValue e) s) (not (same_type s.result VoidType)) _ (λ b. all_go (Kept (tree.ReturnValue e) s) (expression_as env s.result s e) _ (λ x q. (refl, refl)))
    statement_exits (tree.If c a) s =
        all_go (Kept (tree.If c a) s) (expression_as env BoolType s c) _ (λ z q. all_so (Kept a s) (Kept (tree.If c a) s) (typed_statement env a s) _ (statement_exits a s) (λ x k. (k.0, refl)))
    statement_exits (tree.IfElse c a b) s =
        all_go (Kept (tree.IfElse c a b) s) (expression_as env BoolType s c) _ (λ z q.
        all_so (Kept a s) (Kept (tree.IfElse c a b) s) (typed_statement env a s) _ (statement_exits a s) (λ x k.
        all_so (Kept b (leave s x.scope)) (Kept (tree.IfElse c a b) s) (typed_statement env b (leave s x.scope)) _ (statement_exits b (leave s x.scope)) (λ y m. (both _ _ k.0 m.0, refl))))
    statement_exits (tree.While c notes a) s =
        all_go (Kept (tree.While c notes a) s) (expression_as env BoolType s c) _ (λ z q.
        all_go (Kept (tree.While c notes a) s) (conditions_of_all env Invariant (within s) (specs_in notes)) _ (λ xs r.
        all_so (Kept a (in_body s)) (Kept (tree.While c notes a) s) (typed_statement env a (in_body s)) _ (statement_exits a (in_body s)) (λ x k. (k.0, refl))))
    statement_exits (tree.For first c third notes a) s =
        all_go (Kept (tree.For first c third notes a) s) (typed_part env first s) _ (λ x g.
        all_go (Kept (tree.For first c third notes a) s) (expression_as env BoolType x.scope c) _ (λ z q.
        all_go (Kept (tree.For first c third notes a) s) (conditions_of_all env Invariant (within x.scope) (specs_in notes)) _ (λ xs r.
        all_so (Kept a (in_body x.scope)) (Kept (tree.For first c third notes a) s) (typed_statement env a (in_body x.scope)) _ (statement_exits a (in_body x.scope)) (λ y k.
        all_if (Kept (tree.For first c third notes a) s) (not (declares third)) _ (λ e.
        all_go (Kept (tree.For first c third notes a) s) (typed_part env third (leave x.scope y.scope)) _ (λ w m. (k.0, refl)))))))
    statement_exits (tree.Assert e) s = all_go (Kept (tree.Assert e) s) (expression_as env BoolType s e) _ (λ x q. (refl, refl))
    statement_exits (tree.Error e) s = all_go (Kept (tree.Error e) s) (expression_as env StringType s e) _ (λ x q. (refl, refl))
    statement_exits tree.Break s = all_if (Kept tree.Break s) s.in_loop _ (λ h. (h, refl))
    statement_exits tree.Continue s = all_if (Kept tree.Continue s) s.in_loop _ (λ h. (h, refl))

    statements_exit : (ss : tree.Statements) (s : Scope) → AllSome (λ z. all_exits_in_loops s.in_loop ss ≡ true) (typed_statements env ss s)
    statements_exit tree.nothing s = refl
    statements_exit (tree.also a rest) s =
        all_so (Kept a s) (λ z. all_exits_in_loops s.in_loop (tree.also a rest) ≡ true) (typed_statement env a s) _ (statement_exits a s) (λ x k.
        all_so (λ z. all_exits_in_loops x.scope.in_loop rest ≡ true) (λ z. all_exits_in_loops s.in_loop (tree.also a rest) ≡ true) (typed_statements env rest x.scope) _ (statements_exit rest x.scope) (λ y m.
        both _ _ k.0 (subst (λ b. all_exits_in_loops b rest ≡ true) k.1 m)))

  -- ---- functions

  parts_exit : (f : Signature) (h : tree.Header) (body : tree.Statements) → AllSome (λ z. all_exits_in_loops false body ≡ true) (typed_parts env f h body)
  parts_exit f h body =
      let locals = parameters_from 1 h.parameters f.parameters in
      let specs = specs_in h.annotations in
      let begins : Scope = record { locals = locals; parameters = length f.parameters; declared = []; result = f.result; in_loop = false } in
      all_if (λ (z : Parts). all_exits_in_loops false body ≡ true) (keeps_parameters h body) _ (λ q. all_if (λ (z : Parts). all_exits_in_loops false body ≡ true) (are_contracts specs) _ (λ r.
      all_go (λ (z : Parts). all_exits_in_loops false body ≡ true) (conditions env Precondition (record { locals = locals; result = None }) specs) _ (λ before e.
      all_go (λ (z : Parts). all_exits_in_loops false body ≡ true) (conditions env Postcondition (record { locals = locals; result = result_of f.result }) specs) _ (λ behind g.
      all_so (λ (z : Checked). all_exits_in_loops false body ≡ true) (λ (z : Parts). all_exits_in_loops false body ≡ true) (typed_statements env body begins) _ (statements_exit body begins) (λ x k. k)))))

  function_exits : (f : Signature) (h : tree.Header) (body : tree.Statements) → AllSome (λ z. all_exits_in_loops false body ≡ true) (typed_function env f h body)
  function_exits f h body =
      all_so (λ (z : Parts). all_exits_in_loops false body ≡ true) (λ (z : t.Function). all_exits_in_loops false body ≡ true) (typed_parts env f h body) _ (parts_exit f h body) (λ x k.
      all_if (λ (z : t.Function). all_exits_in_loops false body ≡ true) (paths_agree f body) _ (λ q. k))

-- ---- programs

declaration_exits : (d : tree.Declaration) (e : Elaboration) → AllSome (λ z. declared_in_loops d ≡ true) (typed_declaration d e)
declaration_exits (tree.DefineFunction h body) e =
    all_go (λ (z : Elaboration). all_exits_in_loops false body ≡ true) (signature e.environment true h) _ (λ f q.
    all_so (λ (z : t.Function). all_exits_in_loops false body ≡ true) (λ (z : Elaboration). all_exits_in_loops false body ≡ true) (typed_function (with_function f e.environment) f h body) _
    (function_exits (with_function f e.environment) f h body) (λ g k. k))
declaration_exits d e = always (typed_declaration d e)

declarations_exit : (ds : List tree.Declaration) (e : Elaboration) → AllSome (λ z. list_all declared_in_loops ds ≡ true) (typed_declarations ds e)
declarations_exit [] e = refl
declarations_exit (d ∷ rest) e =
    all_so (λ (z : Elaboration). declared_in_loops d ≡ true) (λ (z : Elaboration). list_all declared_in_loops (d ∷ rest) ≡ true) (typed_declaration d e) _ (declaration_exits d e) (λ z k.
    all_map (λ (y : Elaboration). list_all declared_in_loops rest ≡ true) (λ (y : Elaboration). list_all declared_in_loops (d ∷ rest) ≡ true) (typed_declarations rest z) (declarations_exit rest z) (λ y m. both _ _ k m))

pub exits_stand_in_loops : ExitsStandInLoops
exits_stand_in_loops program h =
    some_has (λ (z : t.Program). list_all declared_in_loops program ≡ true) (typed_program program) h.0
    (all_so (λ (z : Elaboration). list_all declared_in_loops program ≡ true) (λ (z : t.Program). list_all declared_in_loops program ≡ true) (typed_declarations program (beginning program)) _
    (declarations_exit program (beginning program)) (λ e k. all_if (λ (z : t.Program). list_all declared_in_loops program ≡ true) (whole_agrees program e) _ (λ q. k)))
    h.1
