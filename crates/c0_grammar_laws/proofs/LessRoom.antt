-- Reading with less room for locals gives the same as with more, or one name too many.
use Rattle.std.proofs.Common.{◌≡◌, ℕ, zero, suc, ◌+◌, Bool, true, false, List, length, Option, Ok, Err, refl, sym, ap, subst, arith}
use Rattle.c0_source.specs.declared.kind.Kind.{Kind}
use Rattle.c0_source.specs.declared.kind.Kind.TheVariants as k
use Rattle.c0_syntax.specs.declared.operator.Change.TheVariants as c
use Rattle.c0_source.specs.Terminals.{Terminal}
use Rattle.c0_syntax.specs.Trees.{Expression, Spec, SimpleStatement, Initialize, Assign, Update, Step, Statement, Simple, Block, Annotation, ReturnValue, IfElse, While, For, Assert, Error, Break, Continue, Statements, also}
use Rattle.c0_syntax.specs.Expressions.{begins_star}
use Rattle.c0_grammar_laws.specs.declared.read_error.ReadError.{ReadError}
use Rattle.c0_grammar_laws.specs.declared.read_error.ReadError.TheVariants.{OutOfMemory, Syntax, TooDeep, TooLarge}
use Rattle.c0_grammar_laws.specs.Outcome.{Outcome, ◌>>=◌, Read, kind_at, plain_at, next, lparen, rparen, semi, new_name}
use Rattle.c0_grammar_laws.specs.ReadExpressions.{ReadType, ReadExpression, read_type, read_expression}
use Rattle.c0_grammar_laws.specs.ReadStatements.{Counted, read_specs, read_annotations, value_by, room_by, local_declaration, step_by, behind_by, simple_by, read_simple, given, first_by, third_by, read_condition, call_of, with_semi, return_by, leave_by, else_by, statements_by, read_statements, if_of, Body, loop_body, while_of, ForEnd, for_end, ForTest, for_test, for_of, statement_by, read_statement}
use Rattle.c0_grammar_laws.proofs.Turns.{Names}

-- what the first reading gives is what the other gives, but for what `raise` changes, or it met a name too many
abbrev pub Less : {A : Type 0} → (A → A) → Outcome A → Outcome A → Type 0
Less raise (Ok r) q = q ≡ Ok (raise r)
Less raise (Err OutOfMemory) q = q ≡ Err OutOfMemory
Less raise (Err (Syntax n)) q = q ≡ Err (Syntax n)
Less raise (Err (TooDeep n)) q = q ≡ Err (TooDeep n)
Less raise (Err (TooLarge n)) q = Unit {0}

same : {A : Type 0} (raise : A → A) (e : ReadError) → Less raise (Err e) (Err e)
same raise OutOfMemory = refl
same raise (Syntax n) = refl
same raise (TooDeep n) = refl
same raise (TooLarge n) = tt

-- reading on with what both readings gave
bind_less : {A B : Type 0} (up : A → A) (raise : B → B) (o q : Outcome A) (f g : A → Outcome B) → Less up o q → ((r : A) → Less raise (f r) (g (up r))) → Less raise (o >>= f) (q >>= g)
bind_less up raise (Ok r) q f g a go = subst (λ (z : Outcome _). Less raise (f r) (z >>= g)) (sym a) (go r)
bind_less up raise (Err OutOfMemory) q f g a go = ap (λ (z : Outcome _). z >>= g) a
bind_less up raise (Err (Syntax n)) q f g a go = ap (λ (z : Outcome _). z >>= g) a
bind_less up raise (Err (TooDeep n)) q f g a go = ap (λ (z : Outcome _). z >>= g) a
bind_less up raise (Err (TooLarge n)) q f g a go = tt

-- ... with what one reading gave
bind_on : {A B : Type 0} (raise : B → B) (o : Outcome A) (f g : A → Outcome B) → ((r : A) → Less raise (f r) (g r)) → Less raise (o >>= f) (o >>= g)
bind_on raise (Ok r) f g go = go r
bind_on raise (Err e) f g go = same raise e

-- extra: how many more locals the other reading may declare
module _ (types : Names) (extra : ℕ) where
  abbrev pub more : {A : Type 0} → Counted A → Counted A
  more r = record { value = r.value; room = r.room + extra; rest = r.rest }

  abbrev more_body : Body → Body
  more_body r = record { annotations = r.annotations; body = r.body; room = r.room + extra; rest = r.rest }

  abbrev more_end : ForEnd → ForEnd
  more_end r = record { step = r.step; body = more_body r.body }

  abbrev more_test : ForTest → ForTest
  more_test r = record { test = r.test; end = more_end r.end }

  abbrev raise : Counted SimpleStatement → Counted SimpleStatement
  raise r = more r

  abbrev raise_option : Counted (Option SimpleStatement) → Counted (Option SimpleStatement)
  raise_option r = more r

  abbrev raise_statement : Counted Statement → Counted Statement
  raise_statement r = more r

  abbrev pub raise_statements : Counted Statements → Counted Statements
  raise_statements r = more r

  -- ---- simple statements

  room_less : (all : ℕ) (ts : List Terminal) (f : ℕ → Outcome (Counted SimpleStatement)) → ((left : ℕ) → Less raise (f left) (f (left + extra))) → Less raise (room_by all ts f) (room_by (all + extra) ts f)
  room_less zero ts f go = tt
  room_less (suc left) ts f go = let e : suc left + extra ≡ suc (left + extra) = omega arith in rw e (go left)

  value_less : (d : ℕ) (kind : Kind) (t : ReadType) (x : Read (List ℕ)) (room : ℕ) → Less raise (value_by types d room kind t.value_type x) (value_by types d (room + extra) kind t.value_type x)
  value_less d k.Assign t x room =
      let f : ℕ → ReadExpression → Outcome (Counted SimpleStatement) = λ room e. Ok (record { value = Initialize t.value_type x.value e.tree; room = room; rest = e.rest }) in
      bind_on raise (read_expression types d 1 (next x.rest)) (f room) (f (room + extra)) (λ r. refl)
  value_less d _ t x room = refl

  local_less : (d room : ℕ) (ts : List Terminal) → Less raise (local_declaration types d room ts) (local_declaration types d (room + extra) ts)
  unfolding local_declaration
  local_less d room ts =
      let g : ℕ → ReadType → Read (List ℕ) → Outcome (Counted SimpleStatement) = λ room t x. room_by room t.rest (λ left. value_by types d left (plain_at x.rest) t.value_type x) in
      bind_on raise (read_type types d ts) (λ t. new_name types t.rest >>= g room t) (λ t. new_name types t.rest >>= g (room + extra) t) (λ t.
      bind_on raise (new_name types t.rest) (g room t) (g (room + extra) t) (λ x.
      room_less room t.rest (λ left. value_by types d left (plain_at x.rest) t.value_type x) (λ left. value_less d (plain_at x.rest) t x left)))

  step_less : (room : ℕ) (b : Bool) (s : SimpleStatement) (e : ReadExpression) → Less raise (step_by room b s e) (step_by (room + extra) b s e)
  step_less room true s e = refl
  step_less room false s e = refl

  behind_less : (d room : ℕ) (kind : Kind) (a : ReadExpression) → Less raise (behind_by types d room kind a) (behind_by types d (room + extra) kind a)
  behind_less d room k.Assign a =
      let f : ℕ → ReadExpression → Outcome (Counted SimpleStatement) = λ room b. Ok (record { value = Assign a.tree b.tree; room = room; rest = b.rest }) in
      bind_on raise (read_expression types d 1 (next a.rest)) (f room) (f (room + extra)) (λ r. refl)
  behind_less d room (k.Update op) a =
      let f : ℕ → ReadExpression → Outcome (Counted SimpleStatement) = λ room b. Ok (record { value = Update a.tree op b.tree; room = room; rest = b.rest }) in
      bind_on raise (read_expression types d 1 (next a.rest)) (f room) (f (room + extra)) (λ r. refl)
  behind_less d room k.PlusPlus a = step_less room (begins_star a.tree) (Step a.tree c.Increment) a
  behind_less d room k.MinusMinus a = step_less room (begins_star a.tree) (Step a.tree c.Decrement) a
  behind_less d room _ a = refl

  simple_less_by : (d room : ℕ) (kind : Kind) (ts : List Terminal) → Less raise (simple_by types d room kind ts) (simple_by types d (room + extra) kind ts)
  simple_less_by d room (k.Base b) ts = local_less d room ts
  simple_less_by d room k.Struct ts = local_less d room ts
  simple_less_by d room k.TypeName ts = local_less d room ts
  simple_less_by d room _ ts =
      let f : ℕ → ReadExpression → Outcome (Counted SimpleStatement) = λ room e. behind_by types d room (plain_at e.rest) e in
      bind_on raise (read_expression types d 1 ts) (f room) (f (room + extra)) (λ e. behind_less d room (plain_at e.rest) e)

  simple_less : (d room : ℕ) (ts : List Terminal) → Less raise (read_simple types d room ts) (read_simple types d (room + extra) ts)
  unfolding read_simple
  simple_less zero room ts = refl
  simple_less (suc d) room ts = simple_less_by d room (kind_at types ts) ts

  given_less : (d room : ℕ) (ts : List Terminal) → Less raise_option (read_simple types d room ts >>= λ s. Ok (given s)) (read_simple types d (room + extra) ts >>= λ s. Ok (given s))
  given_less d room ts = bind_less raise raise_option (read_simple types d room ts) (read_simple types d (room + extra) ts) (λ s. Ok (given s)) (λ s. Ok (given s)) (simple_less d room ts) (λ r. refl)

  first_less : (d room : ℕ) (kind : Kind) (ts : List Terminal) → Less raise_option (first_by types d room kind ts) (first_by types d (room + extra) kind ts)
  first_less d room k.Semi ts = refl
  first_less d room _ ts = given_less d room ts

  third_less : (d room : ℕ) (kind : Kind) (ts : List Terminal) → Less raise_option (third_by types d room kind ts) (third_by types d (room + extra) kind ts)
  third_less d room k.RParen ts = refl
  third_less d room _ ts = given_less d room ts

  -- ---- statements

  semi_less : (s : Statement) (room : ℕ) (ts : List Terminal) → Less raise_statement (with_semi s room ts) (with_semi s (room + extra) ts)
  semi_less s room ts =
      let f : ℕ → List Terminal → Outcome (Counted Statement) = λ room rest. Ok (record { value = s; room = room; rest = rest }) in
      bind_on raise_statement (semi ts) (f room) (f (room + extra)) (λ r. refl)

  return_less : (d room : ℕ) (kind : Kind) (ts : List Terminal) → Less raise_statement (return_by types d room kind ts) (return_by types d (room + extra) kind ts)
  return_less d room k.Semi ts = refl
  return_less d room _ ts =
      bind_on raise_statement (read_expression types d 1 ts) (λ e. with_semi (ReturnValue e.tree) room e.rest) (λ e. with_semi (ReturnValue e.tree) (room + extra) e.rest) (λ e. semi_less (ReturnValue e.tree) room e.rest)

  leave_less : (b : Bool) (s : Statement) (room : ℕ) (ts : List Terminal) → Less raise_statement (leave_by b s room ts) (leave_by b s (room + extra) ts)
  leave_less true s room ts = semi_less s room (next ts)
  leave_less false s room ts = refl

  -- inner: a statement of one level less
  module _ (loops : Bool) (inner : ℕ → List Terminal → Outcome (Counted Statement)) (d : ℕ) (lesser : (room : ℕ) (ts : List Terminal) → Less raise_statement (inner room ts) (inner (room + extra) ts)) where
    else_less : (kind : Kind) (e : Expression) (a : Counted Statement) → Less raise_statement (else_by types loops inner d kind e a) (else_by types loops inner d kind e (raise_statement a))
    else_less k.Else e a =
        let f : Counted Statement → Outcome (Counted Statement) = λ b. Ok (record { value = IfElse e a.value b.value; room = b.room; rest = b.rest }) in
        bind_less raise_statement raise_statement (inner a.room (next a.rest)) (inner (a.room + extra) (next a.rest)) f f (lesser a.room (next a.rest)) (λ r. refl)
    else_less _ e a = refl

    statements_less_by : (kind : Kind) (go : ℕ → List Terminal → Outcome (Counted Statements)) → ((room : ℕ) (ts : List Terminal) → Less raise_statements (go room ts) (go (room + extra) ts))
        → (room : ℕ) (ts : List Terminal) → Less raise_statements (statements_by types loops inner d kind go room ts) (statements_by types loops inner d kind go (room + extra) ts)
    statements_less_by k.RBrace go goes room ts = refl
    statements_less_by _ go goes room ts =
        let made : Counted Statement → Counted Statements → Outcome (Counted Statements) = λ s ss. Ok (record { value = also s.value ss.value; room = ss.room; rest = ss.rest }) in
        let f : Counted Statement → Outcome (Counted Statements) = λ s. go s.room s.rest >>= made s in
        bind_less raise_statement raise_statements (inner room ts) (inner (room + extra) ts) f f (lesser room ts) (λ s.
        bind_less raise_statements raise_statements (go s.room s.rest) (go (s.room + extra) s.rest) (made s) (made (raise_statement s)) (goes s.room s.rest) (λ ss. refl))

    pub statements_less : (n room : ℕ) (ts : List Terminal) → Less raise_statements (read_statements types loops inner d n room ts) (read_statements types loops inner d n (room + extra) ts)
    unfolding read_statements
    statements_less zero room ts = refl
    statements_less (suc n) room ts = statements_less_by (plain_at ts) (read_statements types loops inner d n) (statements_less n) room ts

    if_less : (room : ℕ) (ts : List Terminal) → Less raise_statement (if_of types loops inner d room ts) (if_of types loops inner d (room + extra) ts)
    unfolding if_of
    if_less room ts =
        let f : Read Expression → Counted Statement → Outcome (Counted Statement) = λ e a. else_by types loops inner d (plain_at a.rest) e.value a in
        bind_on raise_statement (read_condition types d ts) (λ e. inner room e.rest >>= f e) (λ e. inner (room + extra) e.rest >>= f e) (λ e.
        bind_less raise_statement raise_statement (inner room e.rest) (inner (room + extra) e.rest) (f e) (f e) (lesser room e.rest) (λ a. else_less (plain_at a.rest) e.value a))

    body_less : (room : ℕ) (ts : List Terminal) → Less more_body (loop_body types loops inner d room ts) (loop_body types loops inner d (room + extra) ts)
    unfolding loop_body
    body_less room ts =
        let f : Read (List (List Spec)) → Counted Statement → Outcome Body = λ ns s. Ok (record { annotations = ns.value; body = s.value; room = s.room; rest = s.rest }) in
        bind_on more_body (read_annotations types d (suc (length ts)) ts) (λ ns. inner room ns.rest >>= f ns) (λ ns. inner (room + extra) ns.rest >>= f ns) (λ ns.
        bind_less raise_statement more_body (inner room ns.rest) (inner (room + extra) ns.rest) (f ns) (f ns) (lesser room ns.rest) (λ s. refl))

    while_less : (room : ℕ) (ts : List Terminal) → Less raise_statement (while_of types loops inner d room ts) (while_of types loops inner d (room + extra) ts)
    unfolding while_of
    while_less room ts =
        let f : Read Expression → Body → Outcome (Counted Statement) = λ e b. Ok (record { value = While e.value b.annotations b.body; room = b.room; rest = b.rest }) in
        bind_on raise_statement (read_condition types d ts) (λ e. loop_body types loops inner d room e.rest >>= f e) (λ e. loop_body types loops inner d (room + extra) e.rest >>= f e) (λ e.
        bind_less more_body raise_statement (loop_body types loops inner d room e.rest) (loop_body types loops inner d (room + extra) e.rest) (f e) (f e) (body_less room e.rest) (λ b. refl))

    end_less : (room : ℕ) (ts : List Terminal) → Less more_end (for_end types loops inner d room ts) (for_end types loops inner d (room + extra) ts)
    unfolding for_end
    end_less room ts =
        let made : Counted (Option SimpleStatement) → Body → Outcome ForEnd = λ n b. Ok (record { step = n.value; body = b }) in
        let f : Counted (Option SimpleStatement) → List Terminal → Outcome ForEnd = λ n us. loop_body types loops inner d n.room us >>= made n in
        bind_less raise_option more_end (third_by types d room (plain_at ts) ts) (third_by types d (room + extra) (plain_at ts) ts) (λ n. rparen n.rest >>= f n) (λ n. rparen n.rest >>= f n) (third_less d room (plain_at ts) ts) (λ n.
        bind_on more_end (rparen n.rest) (f n) (f (raise_option n)) (λ us.
        bind_less more_body more_end (loop_body types loops inner d n.room us) (loop_body types loops inner d (n.room + extra) us) (made n) (made (raise_option n)) (body_less n.room us) (λ b. refl)))

    test_less : (room : ℕ) (ts : List Terminal) → Less more_test (for_test types loops inner d room ts) (for_test types loops inner d (room + extra) ts)
    unfolding for_test
    test_less room ts =
        let made : ReadExpression → ForEnd → Outcome ForTest = λ e x. Ok (record { test = e.tree; end = x }) in
        let f : ℕ → ReadExpression → List Terminal → Outcome ForTest = λ room e us. for_end types loops inner d room us >>= made e in
        bind_on more_test (read_expression types d 1 ts) (λ e. semi e.rest >>= f room e) (λ e. semi e.rest >>= f (room + extra) e) (λ e.
        bind_on more_test (semi e.rest) (f room e) (f (room + extra) e) (λ us.
        bind_less more_end more_test (for_end types loops inner d room us) (for_end types loops inner d (room + extra) us) (made e) (made e) (end_less room us) (λ x. refl)))

    for_less : (room : ℕ) (ts : List Terminal) → Less raise_statement (for_of types loops inner d room ts) (for_of types loops inner d (room + extra) ts)
    unfolding for_of
    for_less room ts =
        let made : Counted (Option SimpleStatement) → ForTest → Outcome (Counted Statement) = λ i t. Ok (record { value = For i.value t.test t.end.step t.end.body.annotations t.end.body.body; room = t.end.body.room; rest = t.end.body.rest }) in
        let f : Counted (Option SimpleStatement) → List Terminal → Outcome (Counted Statement) = λ i vs. for_test types loops inner d i.room vs >>= made i in
        let g : ℕ → List Terminal → Outcome (Counted Statement) = λ room us. first_by types d room (plain_at us) us >>= λ i. semi i.rest >>= f i in
        bind_on raise_statement (lparen ts) (g room) (g (room + extra)) (λ us.
        bind_less raise_option raise_statement (first_by types d room (plain_at us) us) (first_by types d (room + extra) (plain_at us) us) (λ i. semi i.rest >>= f i) (λ i. semi i.rest >>= f i) (first_less d room (plain_at us) us) (λ i.
        bind_on raise_statement (semi i.rest) (f i) (f (raise_option i)) (λ vs.
        bind_less more_test raise_statement (for_test types loops inner d i.room vs) (for_test types loops inner d (i.room + extra) vs) (made i) (made (raise_option i)) (test_less i.room vs) (λ t. refl))))

    statement_less_by : (kind : Kind) (room : ℕ) (ts : List Terminal) → Less raise_statement (statement_by types loops inner d kind room ts) (statement_by types loops inner d kind (room + extra) ts)
    statement_less_by k.LBrace room ts =
        let f : Counted Statements → Outcome (Counted Statement) = λ ss. Ok (record { value = Block ss.value; room = ss.room; rest = ss.rest }) in
        bind_less raise_statements raise_statement (read_statements types loops inner d (length ts) room (next ts)) (read_statements types loops inner d (length ts) (room + extra) (next ts)) f f (statements_less (length ts) room (next ts)) (λ ss. refl)
    statement_less_by k.Begin room ts =
        let f : ℕ → Read (List Spec) → Outcome (Counted Statement) = λ room a. Ok (record { value = Annotation a.value; room = room; rest = a.rest }) in
        bind_on raise_statement (read_specs types d (length ts) (next ts)) (f room) (f (room + extra)) (λ a. refl)
    statement_less_by k.Return room ts = return_less d room (plain_at (next ts)) (next ts)
    statement_less_by k.If room ts = if_less room (next ts)
    statement_less_by k.While room ts = while_less room (next ts)
    statement_less_by k.For room ts = for_less room (next ts)
    statement_less_by k.Assert room ts =
        let f : ℕ → Read Expression → Outcome (Counted Statement) = λ room e. Ok (record { value = Assert e.value; room = room; rest = e.rest }) in
        bind_on raise_statement (call_of types d (next ts)) (f room) (f (room + extra)) (λ e. refl)
    statement_less_by k.Error room ts =
        let f : ℕ → Read Expression → Outcome (Counted Statement) = λ room e. Ok (record { value = Error e.value; room = room; rest = e.rest }) in
        bind_on raise_statement (call_of types d (next ts)) (f room) (f (room + extra)) (λ e. refl)
    statement_less_by k.Break room ts = leave_less loops Break room ts
    statement_less_by k.Continue room ts = leave_less loops Continue room ts
    statement_less_by _ room ts =
        let f : Counted SimpleStatement → Outcome (Counted Statement) = λ s. with_semi (Simple s.value) s.room s.rest in
        bind_less raise raise_statement (read_simple types (suc d) room ts) (read_simple types (suc d) (room + extra) ts) f f (simple_less (suc d) room ts) (λ s. semi_less (Simple s.value) s.room s.rest)

  pub statement_less : (loops : Bool) (d room : ℕ) (ts : List Terminal) → Less raise_statement (read_statement types loops d room ts) (read_statement types loops d (room + extra) ts)
  unfolding read_statement
  statement_less loops zero room ts = refl
  statement_less loops (suc d) room ts = statement_less_by loops (read_statement types loops d) d (statement_less loops d) (plain_at ts) room ts
