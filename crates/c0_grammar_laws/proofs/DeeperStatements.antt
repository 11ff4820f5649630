-- Reading annotations and statements of more levels gives the same, unless a tree was too deep.
use Rattle.std.proofs.Common.{ℕ, zero, suc, ◌≤◌, Bool, List, ◌∷◌, length, Option, Ok, refl, arith}
use Rattle.c0_source.specs.declared.kind.Kind.{Kind}
use Rattle.c0_source.specs.declared.kind.Kind.TheVariants as k
use Rattle.c0_syntax.specs.declared.operator.Change.TheVariants as c
use Rattle.c0_source.specs.Terminals.{Terminal}
use Rattle.c0_syntax.specs.Trees.{Expression, Spec, Contract, Asserts, SimpleStatement, Initialize, Assign, Update, Step, Statement, Simple, Block, Annotation, ReturnValue, IfElse, While, For, Assert, Error, Break, Continue, Statements, also}
use Rattle.c0_syntax.specs.Expressions.{begins_star}
use Rattle.c0_grammar_laws.specs.Outcome.{Outcome, ◌>>=◌, Read, kind_at, plain_at, next, lparen, rparen, semi, new_name}
use Rattle.c0_grammar_laws.specs.ReadExpressions.{ReadType, ReadExpression, read_type, read_expression}
use Rattle.c0_grammar_laws.specs.ReadStatements.{Counted, spec_by, read_spec, specs_by, read_specs, annotations_by, read_annotations, value_by, room_by, local_declaration, step_by, behind_by, simple_by, read_simple, given, first_by, third_by, read_condition, call_of, with_semi, return_by, leave_by, else_by, statements_by, read_statements, if_of, Body, loop_body, while_of, ForEnd, for_end, ForTest, for_test, for_of, statement_by, read_statement}
use Rattle.c0_grammar_laws.proofs.Turns.{Names}
use Rattle.c0_grammar_laws.proofs.Deeper.{Deeper, same, both, one, type_deeper, expression_deeper}

module _ (types : Names) where
  -- ---- annotations

  spec_deeper_by : (d e : ℕ) → d ≤ e → (kind : Kind) (ts : List Terminal) → Deeper (spec_by types d kind ts) (spec_by types e kind ts)
  spec_deeper_by d e le (k.Clause x) ts =
      let f : ReadExpression → Outcome (Read Spec) = λ a. semi a.rest >>= λ rest. Ok (record { value = Contract x a.tree; rest = rest }) in
      both (read_expression types d 1 (next ts)) (read_expression types e 1 (next ts)) f f (expression_deeper types d e le 1 (next ts)) (λ a. same (f a))
  spec_deeper_by d e le k.Assert ts =
      let f : ReadExpression → Outcome (Read Spec) = λ a. semi a.rest >>= λ rest. Ok (record { value = Asserts a.tree; rest = rest }) in
      both (read_expression types d 1 (next ts)) (read_expression types e 1 (next ts)) f f (expression_deeper types d e le 1 (next ts)) (λ a. same (f a))
  spec_deeper_by d e le _ ts = refl

  spec_deeper : (d e : ℕ) → d ≤ e → (ts : List Terminal) → Deeper (read_spec types d ts) (read_spec types e ts)
  unfolding read_spec
  spec_deeper zero e le ts = tt
  spec_deeper (suc d) zero le ts = absurd (omega arith)
  spec_deeper (suc d) (suc e) le ts = spec_deeper_by d e (omega arith) (plain_at ts) ts

  specs_deeper_by : (d e : ℕ) → d ≤ e → (go others : List Terminal → Outcome (Read (List Spec))) → ((ts : List Terminal) → Deeper (go ts) (others ts)) → (kind : Kind) (ts : List Terminal) → Deeper (specs_by types d go kind ts) (specs_by types e others kind ts)
  specs_deeper_by d e le go others goes k.End ts = refl
  specs_deeper_by d e le go others goes _ ts =
      let f : Read Spec → Read (List Spec) → Outcome (Read (List Spec)) = λ s ss. Ok (record { value = s.value ∷ ss.value; rest = ss.rest }) in
      both (read_spec types d ts) (read_spec types e ts) (λ s. go s.rest >>= f s) (λ s. others s.rest >>= f s) (spec_deeper d e le ts) (λ s. both (go s.rest) (others s.rest) (f s) (f s) (goes s.rest) (λ ss. refl))

  specs_deeper : (d e : ℕ) → d ≤ e → (n : ℕ) (ts : List Terminal) → Deeper (read_specs types d n ts) (read_specs types e n ts)
  unfolding read_specs
  specs_deeper d e le zero ts = refl
  specs_deeper d e le (suc n) ts = specs_deeper_by d e le (read_specs types d n) (read_specs types e n) (specs_deeper d e le n) (plain_at ts) ts

  notes_deeper_by : (d e : ℕ) → d ≤ e → (go others : List Terminal → Outcome (Read (List (List Spec)))) → ((ts : List Terminal) → Deeper (go ts) (others ts)) → (kind : Kind) (ts : List Terminal) → Deeper (annotations_by types d go kind ts) (annotations_by types e others kind ts)
  notes_deeper_by d e le go others goes k.Begin ts =
      let f : Read (List Spec) → Read (List (List Spec)) → Outcome (Read (List (List Spec))) = λ a ns. Ok (record { value = a.value ∷ ns.value; rest = ns.rest }) in
      both (read_specs types d (length ts) (next ts)) (read_specs types e (length ts) (next ts)) (λ a. go a.rest >>= f a) (λ a. others a.rest >>= f a) (specs_deeper d e le (length ts) (next ts)) (λ a. both (go a.rest) (others a.rest) (f a) (f a) (goes a.rest) (λ ns. refl))
  notes_deeper_by d e le go others goes _ ts = refl

  pub notes_deeper : (d e : ℕ) → d ≤ e → (n : ℕ) (ts : List Terminal) → Deeper (read_annotations types d n ts) (read_annotations types e n ts)
  unfolding read_annotations
  notes_deeper d e le zero ts = refl
  notes_deeper d e le (suc n) ts = notes_deeper_by d e le (read_annotations types d n) (read_annotations types e n) (notes_deeper d e le n) (plain_at ts) ts

  -- ---- simple statements

  value_deeper : (d e : ℕ) → d ≤ e → (room : ℕ) (kind : Kind) (t : ReadType) (x : Read (List ℕ)) → Deeper (value_by types d room kind t.value_type x) (value_by types e room kind t.value_type x)
  value_deeper d e le room k.Assign t x =
      let f : ReadExpression → Outcome (Counted SimpleStatement) = λ a. Ok (record { value = Initialize t.value_type x.value a.tree; room = room; rest = a.rest }) in
      both (read_expression types d 1 (next x.rest)) (read_expression types e 1 (next x.rest)) f f (expression_deeper types d e le 1 (next x.rest)) (λ a. refl)
  value_deeper d e le room _ t x = refl

  room_deeper : (room : ℕ) (ts : List Terminal) (f g : ℕ → Outcome (Counted SimpleStatement)) → ((left : ℕ) → Deeper (f left) (g left)) → Deeper (room_by room ts f) (room_by room ts g)
  room_deeper zero ts f g go = refl
  room_deeper (suc left) ts f g go = go left

  local_deeper : (d e : ℕ) → d ≤ e → (room : ℕ) (ts : List Terminal) → Deeper (local_declaration types d room ts) (local_declaration types e room ts)
  unfolding local_declaration
  local_deeper d e le room ts =
      let f : ℕ → ReadType → Read (List ℕ) → Outcome (Counted SimpleStatement) = λ d t x. room_by room t.rest (λ left. value_by types d left (plain_at x.rest) t.value_type x) in
      both (read_type types d ts) (read_type types e ts) (λ t. new_name types t.rest >>= f d t) (λ t. new_name types t.rest >>= f e t) (type_deeper types d e le ts) (λ t.
      one (new_name types t.rest) (f d t) (f e t) (λ x.
      room_deeper room t.rest (λ left. value_by types d left (plain_at x.rest) t.value_type x) (λ left. value_by types e left (plain_at x.rest) t.value_type x) (λ left. value_deeper d e le left (plain_at x.rest) t x)))

  behind_deeper : (d e : ℕ) → d ≤ e → (room : ℕ) (kind : Kind) (a : ReadExpression) → Deeper (behind_by types d room kind a) (behind_by types e room kind a)
  behind_deeper d e le room k.Assign a =
      let f : ReadExpression → Outcome (Counted SimpleStatement) = λ b. Ok (record { value = Assign a.tree b.tree; room = room; rest = b.rest }) in
      both (read_expression types d 1 (next a.rest)) (read_expression types e 1 (next a.rest)) f f (expression_deeper types d e le 1 (next a.rest)) (λ b. refl)
  behind_deeper d e le room (k.Update op) a =
      let f : ReadExpression → Outcome (Counted SimpleStatement) = λ b. Ok (record { value = Update a.tree op b.tree; room = room; rest = b.rest }) in
      both (read_expression types d 1 (next a.rest)) (read_expression types e 1 (next a.rest)) f f (expression_deeper types d e le 1 (next a.rest)) (λ b. refl)
  behind_deeper d e le room k.PlusPlus a = same (step_by room (begins_star a.tree) (Step a.tree c.Increment) a)
  behind_deeper d e le room k.MinusMinus a = same (step_by room (begins_star a.tree) (Step a.tree c.Decrement) a)
  behind_deeper d e le room _ a = refl

  simple_deeper_by : (d e : ℕ) → d ≤ e → (room : ℕ) (kind : Kind) (ts : List Terminal) → Deeper (simple_by types d room kind ts) (simple_by types e room kind ts)
  simple_deeper_by d e le room (k.Base b) ts = local_deeper d e le room ts
  simple_deeper_by d e le room k.Struct ts = local_deeper d e le room ts
  simple_deeper_by d e le room k.TypeName ts = local_deeper d e le room ts
  simple_deeper_by d e le room _ ts =
      both (read_expression types d 1 ts) (read_expression types e 1 ts) (λ a. behind_by types d room (plain_at a.rest) a) (λ a. behind_by types e room (plain_at a.rest) a) (expression_deeper types d e le 1 ts) (λ a. behind_deeper d e le room (plain_at a.rest) a)

  simple_deeper : (d e : ℕ) → d ≤ e → (room : ℕ) (ts : List Terminal) → Deeper (read_simple types d room ts) (read_simple types e room ts)
  unfolding read_simple
  simple_deeper zero e le room ts = tt
  simple_deeper (suc d) zero le room ts = absurd (omega arith)
  simple_deeper (suc d) (suc e) le room ts = simple_deeper_by d e (omega arith) room (kind_at types ts) ts

  given_deeper : (d e : ℕ) → d ≤ e → (room : ℕ) (ts : List Terminal) → Deeper (read_simple types d room ts >>= λ s. Ok (given s)) (read_simple types e room ts >>= λ s. Ok (given s))
  given_deeper d e le room ts = both (read_simple types d room ts) (read_simple types e room ts) (λ s. Ok (given s)) (λ s. Ok (given s)) (simple_deeper d e le room ts) (λ s. refl)

  first_deeper : (d e : ℕ) → d ≤ e → (room : ℕ) (kind : Kind) (ts : List Terminal) → Deeper (first_by types d room kind ts) (first_by types e room kind ts)
  first_deeper d e le room k.Semi ts = refl
  first_deeper d e le room _ ts = given_deeper d e le room ts

  third_deeper : (d e : ℕ) → d ≤ e → (room : ℕ) (kind : Kind) (ts : List Terminal) → Deeper (third_by types d room kind ts) (third_by types e room kind ts)
  third_deeper d e le room k.RParen ts = refl
  third_deeper d e le room _ ts = given_deeper d e le room ts

  -- ---- statements

  test_deeper : (d e : ℕ) → d ≤ e → (ts : List Terminal) → Deeper (read_condition types d ts) (read_condition types e ts)
  unfolding read_condition
  test_deeper d e le ts =
      let f : ReadExpression → Outcome (Read Expression) = λ a. rparen a.rest >>= λ rest. Ok (record { value = a.tree; rest = rest }) in
      one (lparen ts) (λ us. read_expression types d 1 us >>= f) (λ us. read_expression types e 1 us >>= f) (λ us. both (read_expression types d 1 us) (read_expression types e 1 us) f f (expression_deeper types d e le 1 us) (λ a. same (f a)))

  call_deeper : (d e : ℕ) → d ≤ e → (ts : List Terminal) → Deeper (call_of types d ts) (call_of types e ts)
  unfolding call_of
  call_deeper d e le ts =
      let f : Read Expression → Outcome (Read Expression) = λ a. semi a.rest >>= λ rest. Ok (record { value = a.value; rest = rest }) in
      both (read_condition types d ts) (read_condition types e ts) f f (test_deeper d e le ts) (λ a. same (f a))

  return_deeper : (d e : ℕ) → d ≤ e → (room : ℕ) (kind : Kind) (ts : List Terminal) → Deeper (return_by types d room kind ts) (return_by types e room kind ts)
  return_deeper d e le room k.Semi ts = refl
  return_deeper d e le room _ ts =
      let f : ReadExpression → Outcome (Counted Statement) = λ a. with_semi (ReturnValue a.tree) room a.rest in
      both (read_expression types d 1 ts) (read_expression types e 1 ts) f f (expression_deeper types d e le 1 ts) (λ a. same (f a))

  -- inner, other: a statement of one level less
  module _ (loops : Bool) (inner other : ℕ → List Terminal → Outcome (Counted Statement)) (ih : (room : ℕ) (ts : List Terminal) → Deeper (inner room ts) (other room ts)) (d e : ℕ) (le : d ≤ e) where
    else_deeper : (kind : Kind) (x : Expression) (a : Counted Statement) → Deeper (else_by types loops inner d kind x a) (else_by types loops other e kind x a)
    else_deeper k.Else x a =
        let f : Counted Statement → Outcome (Counted Statement) = λ b. Ok (record { value = IfElse x a.value b.value; room = b.room; rest = b.rest }) in
        both (inner a.room (next a.rest)) (other a.room (next a.rest)) f f (ih a.room (next a.rest)) (λ b. refl)
    else_deeper _ x a = refl

    statements_deeper_by : (kind : Kind) (go others : ℕ → List Terminal → Outcome (Counted Statements)) → ((room : ℕ) (ts : List Terminal) → Deeper (go room ts) (others room ts)) → (room : ℕ) (ts : List Terminal) → Deeper (statements_by types loops inner d kind go room ts) (statements_by types loops other e kind others room ts)
    statements_deeper_by k.RBrace go others goes room ts = refl
    statements_deeper_by _ go others goes room ts =
        let f : Counted Statement → Counted Statements → Outcome (Counted Statements) = λ s ss. Ok (record { value = also s.value ss.value; room = ss.room; rest = ss.rest }) in
        both (inner room ts) (other room ts) (λ s. go s.room s.rest >>= f s) (λ s. others s.room s.rest >>= f s) (ih room ts) (λ s. both (go s.room s.rest) (others s.room s.rest) (f s) (f s) (goes s.room s.rest) (λ ss. refl))

    pub statements_deeper : (n room : ℕ) (ts : List Terminal) → Deeper (read_statements types loops inner d n room ts) (read_statements types loops other e n room ts)
    unfolding read_statements
    statements_deeper zero room ts = refl
    statements_deeper (suc n) room ts = statements_deeper_by (plain_at ts) (read_statements types loops inner d n) (read_statements types loops other e n) (statements_deeper n) room ts

    if_deeper : (room : ℕ) (ts : List Terminal) → Deeper (if_of types loops inner d room ts) (if_of types loops other e room ts)
    unfolding if_of
    if_deeper room ts =
        both (read_condition types d ts) (read_condition types e ts) (λ x. inner room x.rest >>= λ a. else_by types loops inner d (plain_at a.rest) x.value a) (λ x. other room x.rest >>= λ a. else_by types loops other e (plain_at a.rest) x.value a) (test_deeper d e le ts) (λ x.
        both (inner room x.rest) (other room x.rest) (λ a. else_by types loops inner d (plain_at a.rest) x.value a) (λ a. else_by types loops other e (plain_at a.rest) x.value a) (ih room x.rest) (λ a. else_deeper (plain_at a.rest) x.value a))

    body_deeper : (room : ℕ) (ts : List Terminal) → Deeper (loop_body types loops inner d room ts) (loop_body types loops other e room ts)
    unfolding loop_body
    body_deeper room ts =
        let f : Read (List (List Spec)) → Counted Statement → Outcome Body = λ ns s. Ok (record { annotations = ns.value; body = s.value; room = s.room; rest = s.rest }) in
        both (read_annotations types d (suc (length ts)) ts) (read_annotations types e (suc (length ts)) ts) (λ ns. inner room ns.rest >>= f ns) (λ ns. other room ns.rest >>= f ns) (notes_deeper d e le (suc (length ts)) ts) (λ ns.
        both (inner room ns.rest) (other room ns.rest) (f ns) (f ns) (ih room ns.rest) (λ s. refl))

    while_deeper : (room : ℕ) (ts : List Terminal) → Deeper (while_of types loops inner d room ts) (while_of types loops other e room ts)
    unfolding while_of
    while_deeper room ts =
        let f : Read Expression → Body → Outcome (Counted Statement) = λ x b. Ok (record { value = While x.value b.annotations b.body; room = b.room; rest = b.rest }) in
        both (read_condition types d ts) (read_condition types e ts) (λ x. loop_body types loops inner d room x.rest >>= f x) (λ x. loop_body types loops other e room x.rest >>= f x) (test_deeper d e le ts) (λ x.
        both (loop_body types loops inner d room x.rest) (loop_body types loops other e room x.rest) (f x) (f x) (body_deeper room x.rest) (λ b. refl))

    end_deeper : (room : ℕ) (ts : List Terminal) → Deeper (for_end types loops inner d room ts) (for_end types loops other e room ts)
    unfolding for_end
    end_deeper room ts =
        let made : Counted (Option SimpleStatement) → Body → Outcome ForEnd = λ n b. Ok (record { step = n.value; body = b }) in
        let f : Counted (Option SimpleStatement) → List Terminal → Outcome ForEnd = λ n us. loop_body types loops inner d n.room us >>= made n in
        let g : Counted (Option SimpleStatement) → List Terminal → Outcome ForEnd = λ n us. loop_body types loops other e n.room us >>= made n in
        both (third_by types d room (plain_at ts) ts) (third_by types e room (plain_at ts) ts) (λ n. rparen n.rest >>= f n) (λ n. rparen n.rest >>= g n) (third_deeper d e le room (plain_at ts) ts) (λ n.
        one (rparen n.rest) (f n) (g n) (λ us. both (loop_body types loops inner d n.room us) (loop_body types loops other e n.room us) (made n) (made n) (body_deeper n.room us) (λ b. refl)))

    for_test_deeper : (room : ℕ) (ts : List Terminal) → Deeper (for_test types loops inner d room ts) (for_test types loops other e room ts)
    unfolding for_test
    for_test_deeper room ts =
        let made : ReadExpression → ForEnd → Outcome ForTest = λ a x. Ok (record { test = a.tree; end = x }) in
        let f : ReadExpression → List Terminal → Outcome ForTest = λ a us. for_end types loops inner d room us >>= made a in
        let g : ReadExpression → List Terminal → Outcome ForTest = λ a us. for_end types loops other e room us >>= made a in
        both (read_expression types d 1 ts) (read_expression types e 1 ts) (λ a. semi a.rest >>= f a) (λ a. semi a.rest >>= g a) (expression_deeper types d e le 1 ts) (λ a.
        one (semi a.rest) (f a) (g a) (λ us. both (for_end types loops inner d room us) (for_end types loops other e room us) (made a) (made a) (end_deeper room us) (λ x. refl)))

    for_deeper : (room : ℕ) (ts : List Terminal) → Deeper (for_of types loops inner d room ts) (for_of types loops other e room ts)
    unfolding for_of
    for_deeper room ts =
        let made : Counted (Option SimpleStatement) → ForTest → Outcome (Counted Statement) = λ i t. Ok (record { value = For i.value t.test t.end.step t.end.body.annotations t.end.body.body; room = t.end.body.room; rest = t.end.body.rest }) in
        let f : Counted (Option SimpleStatement) → List Terminal → Outcome (Counted Statement) = λ i vs. for_test types loops inner d i.room vs >>= made i in
        let g : Counted (Option SimpleStatement) → List Terminal → Outcome (Counted Statement) = λ i vs. for_test types loops other e i.room vs >>= made i in
        one (lparen ts) (λ us. first_by types d room (plain_at us) us >>= λ i. semi i.rest >>= f i) (λ us. first_by types e room (plain_at us) us >>= λ i. semi i.rest >>= g i) (λ us.
        both (first_by types d room (plain_at us) us) (first_by types e room (plain_at us) us) (λ i. semi i.rest >>= f i) (λ i. semi i.rest >>= g i) (first_deeper d e le room (plain_at us) us) (λ i.
        one (semi i.rest) (f i) (g i) (λ vs. both (for_test types loops inner d i.room vs) (for_test types loops other e i.room vs) (made i) (made i) (for_test_deeper i.room vs) (λ t. refl))))

    statement_deeper_by : (kind : Kind) (room : ℕ) (ts : List Terminal) → Deeper (statement_by types loops inner d kind room ts) (statement_by types loops other e kind room ts)
    statement_deeper_by k.LBrace room ts =
        let f : Counted Statements → Outcome (Counted Statement) = λ ss. Ok (record { value = Block ss.value; room = ss.room; rest = ss.rest }) in
        both (read_statements types loops inner d (length ts) room (next ts)) (read_statements types loops other e (length ts) room (next ts)) f f (statements_deeper (length ts) room (next ts)) (λ ss. refl)
    statement_deeper_by k.Begin room ts =
        let f : Read (List Spec) → Outcome (Counted Statement) = λ a. Ok (record { value = Annotation a.value; room = room; rest = a.rest }) in
        both (read_specs types d (length ts) (next ts)) (read_specs types e (length ts) (next ts)) f f (specs_deeper d e le (length ts) (next ts)) (λ a. refl)
    statement_deeper_by k.Return room ts = return_deeper d e le room (plain_at (next ts)) (next ts)
    statement_deeper_by k.If room ts = if_deeper room (next ts)
    statement_deeper_by k.While room ts = while_deeper room (next ts)
    statement_deeper_by k.For room ts = for_deeper room (next ts)
    statement_deeper_by k.Assert room ts =
        let f : Read Expression → Outcome (Counted Statement) = λ x. Ok (record { value = Assert x.value; room = room; rest = x.rest }) in
        both (call_of types d (next ts)) (call_of types e (next ts)) f f (call_deeper d e le (next ts)) (λ x. refl)
    statement_deeper_by k.Error room ts =
        let f : Read Expression → Outcome (Counted Statement) = λ x. Ok (record { value = Error x.value; room = room; rest = x.rest }) in
        both (call_of types d (next ts)) (call_of types e (next ts)) f f (call_deeper d e le (next ts)) (λ x. refl)
    statement_deeper_by k.Break room ts = same (leave_by loops Break room ts)
    statement_deeper_by k.Continue room ts = same (leave_by loops Continue room ts)
    statement_deeper_by _ room ts =
        let f : Counted SimpleStatement → Outcome (Counted Statement) = λ s. with_semi (Simple s.value) s.room s.rest in
        both (read_simple types (suc d) room ts) (read_simple types (suc e) room ts) f f (simple_deeper (suc d) (suc e) (omega arith) room ts) (λ s. same (f s))

  pub statement_deeper : (loops : Bool) (d e : ℕ) → d ≤ e → (room : ℕ) (ts : List Terminal) → Deeper (read_statement types loops d room ts) (read_statement types loops e room ts)
  unfolding read_statement
  statement_deeper loops zero e le room ts = tt
  statement_deeper loops (suc d) zero le room ts = absurd (omega arith)
  statement_deeper loops (suc d) (suc e) le room ts =
      let below : d ≤ e = omega arith in
      statement_deeper_by loops (read_statement types loops d) (read_statement types loops e) (λ room ts. statement_deeper loops d e below room ts) d e below (plain_at ts) room ts
