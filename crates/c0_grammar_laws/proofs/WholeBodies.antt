-- Where reading a statement meets a fault, the tokens before it begin a statement, with as many locals as were read.
use Rattle.std.proofs.Common.{◌≡◌, ℕ, zero, suc, ◌+◌, ◌≤◌, ◌⊎◌, Bool, true, false, List, [], ◌∷◌, length, Option, None, Ok, Err, refl, sym, subst, inl, inr, arith}
use Rattle.c0_source.specs.declared.kind.Kind.{Kind}
use Rattle.c0_source.specs.declared.kind.Kind.TheVariants as k
use Rattle.c0_source.specs.Terminals.{Terminal, Sign}
use Rattle.c0_syntax.specs.Trees.{Expression, Number, Spec, SimpleStatement, Statement, Simple, Block, Annotation, ReturnValue, If, IfElse, While, For, Assert, Error, Break, Continue, Statements, nothing, also}
use Rattle.c0_syntax.specs.Expressions.{emit_expression, FormedExpression, height_expression}
use Rattle.c0_syntax.specs.Statements.{emit_annotations, FormedAnnotations, height_annotations, locals_simple, emit_option, FormedOption, height_option, locals_option, emit_statement, emit_statements, IsLoopBody, FormedStatement, FormedStatements, height_statement, height_statements, locals_statement, locals_statements}
use Rattle.c0_grammar_laws.specs.declared.read_error.ReadError.{ReadError}
use Rattle.c0_grammar_laws.specs.Limits.{AreSigns}
use Rattle.c0_grammar_laws.specs.Outcome.{Outcome, ◌>>=◌, refuse, plain_at, next, lparen, rparen, semi}
use Rattle.c0_grammar_laws.specs.ReadExpressions.{read_expression}
use Rattle.c0_grammar_laws.specs.ReadStatements.{Counted, read_specs, read_annotations, read_simple, first_by, third_by, read_condition, call_of, with_semi, return_by, leave_by, else_by, statements_by, read_statements, if_of, loop_body, while_of, for_end, for_test, for_of, statement_by, read_statement}
use Rattle.c0_grammar_laws.proofs.Basics.{sign_at, lparen_ok, rparen_ok, semi_ok}
use Rattle.c0_grammar_laws.proofs.Turns.{Names}
use Rattle.c0_grammar_laws.proofs.Begins.{BeginsBody}
use Rattle.c0_grammar_laws.proofs.Sound.{read_sound}
use Rattle.c0_grammar_laws.proofs.SoundStatements.{Inner, IsSound, read_annotations_sound, read_simple_sound, first_sound, third_sound, test_sound, read_statement_sound}
use Rattle.c0_grammar_laws.proofs.Whole.{failed, bind_err, Goes, at_refuse, at_deep, lparen_stops, rparen_stops, semi_stops, step, along, under_expression, under_annotations, under_simple, under_option, under_statement}
use Rattle.c0_grammar_laws.proofs.WholeExpressions.{expression_whole}
use Rattle.c0_grammar_laws.proofs.WholeStatements.{Counts, counted, later, as_many, specs_whole, annotations_whole, simple_whole, first_whole, third_whole, test_whole, call_whole, semi_whole}

pub record WholeStatement (types : Names) (loops : Bool) (d all : ℕ) (e : ReadError) (ts end : List Terminal) : Type 0 where
  pub tree : Statement
  pub formed : FormedStatement types loops tree
  pub low : height_statement tree ≤ suc d
  pub counts : Counts e all (locals_statement tree)
  pub is_body : BeginsBody (plain_at ts) → IsLoopBody tree
  pub goes : Goes e ts (emit_statement tree end)

abbrev IsWhole : Names → Bool → ℕ → Inner → Type 0
IsWhole types loops d inner = (all : ℕ) (e : ReadError) (ts : List Terminal) → inner all ts ≡ Err e → (end : List Terminal) → AreSigns end → WholeStatement types loops d all e ts end

pub record WholeStatements (types : Names) (loops : Bool) (d all : ℕ) (e : ReadError) (ts end : List Terminal) : Type 0 where
  pub tree : Statements
  pub formed : FormedStatements types loops tree
  pub low : height_statements tree ≤ suc d
  pub counts : Counts e all (locals_statements tree)
  pub goes : Goes e ts (emit_statements tree end)

-- the annotations and the body of a loop
record WholeBody (types : Names) (loops : Bool) (d all : ℕ) (e : ReadError) (ts end : List Terminal) : Type 0 where
  notes : List (List Spec)
  tree : Statement
  noted : FormedAnnotations types notes
  formed : FormedStatement types loops tree
  is_body : IsLoopBody tree
  flat : height_annotations notes ≤ suc d
  low : height_statement tree ≤ suc d
  counts : Counts e all (locals_statement tree)
  goes : Goes e ts (emit_annotations notes (emit_statement tree end))

-- a `for` from its third part on
record WholeEnd (types : Names) (loops : Bool) (d all : ℕ) (e : ReadError) (ts end : List Terminal) : Type 0 where
  third : Option SimpleStatement
  notes : List (List Spec)
  tree : Statement
  third_formed : FormedOption types third
  noted : FormedAnnotations types notes
  formed : FormedStatement types loops tree
  is_body : IsLoopBody tree
  third_low : height_option third ≤ suc d
  flat : height_annotations notes ≤ suc d
  low : height_statement tree ≤ suc d
  counts : Counts e all (locals_option third + locals_statement tree)
  goes : Goes e ts (emit_option third (Sign k.RParen ∷ emit_annotations notes (emit_statement tree end)))

-- a `for` from its condition on
record WholeForTest (types : Names) (loops : Bool) (d all : ℕ) (e : ReadError) (ts end : List Terminal) : Type 0 where
  test : Expression
  third : Option SimpleStatement
  notes : List (List Spec)
  tree : Statement
  layered : FormedExpression types 1 test
  third_formed : FormedOption types third
  noted : FormedAnnotations types notes
  formed : FormedStatement types loops tree
  is_body : IsLoopBody tree
  test_low : height_expression test ≤ suc d
  third_low : height_option third ≤ suc d
  flat : height_annotations notes ≤ suc d
  low : height_statement tree ≤ suc d
  counts : Counts e all (locals_option third + locals_statement tree)
  goes : Goes e ts (emit_expression test (Sign k.Semi ∷ emit_option third (Sign k.RParen ∷ emit_annotations notes (emit_statement tree end))))

-- inner: a statement of one level less, which is sound and meets its faults behind what begins a statement
module _ (types : Names) (loops : Bool) (d : ℕ) (inner : Inner) (sound : IsSound types loops d inner) (wholly : IsWhole types loops d inner) (e : ReadError) where
  -- `{ }`
  abbrev empty : Statement
  empty = Block nothing

  abbrev Whole : ℕ → List Terminal → List Terminal → Type 0
  Whole all ts end = WholeStatement types loops (suc d) all e ts end

  begins_here : (kind : Kind) (ts : List Terminal) → plain_at ts ≡ kind → (BeginsBody kind → ⊥) → BeginsBody (plain_at ts) → ⊥
  begins_here kind ts is never b = never (subst BeginsBody is b)

  -- ---- `if`

  else_err : (kind : Kind) (c : Expression) (a : Counted Statement) → else_by types loops inner d kind c a ≡ Err e
      → (kind ≡ k.Else) × ((inner a.room (next a.rest) >>= λ b. Ok (record { value = IfElse c a.value b.value; room = b.room; rest = b.rest })) ≡ failed (Counted Statement) e)
  else_err k.Else c a h = (refl, h)
  else_err _ c a h = absurd cc

  if_whole : (all : ℕ) (ts end : List Terminal) → AreSigns end → plain_at ts ≡ k.If → if_of types loops inner d all (next ts) ≡ Err e → Whole all ts end
  unfolding if_of
  if_whole all ts end signs is h =
      let begun = sign_at ts k.If is tt in
      elim (bind_err (read_condition types d (next ts)) (λ c. inner all c.rest >>= λ a. else_by types loops inner d (plain_at a.rest) c.value a) e h) [
        | inl g ↦
            let w = test_whole types d e (next ts) (Sign k.LBrace ∷ Sign k.RBrace ∷ end) g in
            record { tree = If w.tree empty; formed = (w.layered, tt); low = omega (arith, w.low); counts = counted e all 0 w.plain (omega arith); is_body = λ _. tt; goes = along begun (step (Sign k.If) w.goes) }
        | inr g ↦
            let t = test_sound types d (next ts) g.0 g.1 in
            elim (bind_err (inner all g.0.rest) (λ a. else_by types loops inner d (plain_at a.rest) g.0.value a) e g.2) [
              | inl r ↦
                  let w = wholly all e g.0.rest r end signs in
                  record { tree = If g.0.value w.tree; formed = (t.layered, w.formed); low = omega (arith, t.shallow, w.low); counts = w.counts; is_body = λ _. tt; goes = along begun (step (Sign k.If) (along t.spelled (step (Sign k.LParen) (under_expression g.0.value (step (Sign k.RParen) w.goes))))) }
              | inr r ↦
                  let s = sound all g.0.rest r.0 r.1 in
                  let f = else_err (plain_at r.0.rest) g.0.value r.0 r.2 in
                  let between = sign_at r.0.rest k.Else f.0 tt in
                  elim (bind_err (inner r.0.room (next r.0.rest)) (λ b. Ok (record { value = IfElse g.0.value r.0.value b.value; room = b.room; rest = b.rest })) e f.1) [
                    | inl q ↦
                        let w = wholly r.0.room e (next r.0.rest) q end signs in
                        record {
                          tree = IfElse g.0.value r.0.value w.tree;
                          formed = (t.layered, s.formed, s.ends f.0, w.formed);
                          low = omega (arith, t.shallow, s.shallow, w.low);
                          counts = later e all r.0.room (locals_statement r.0.value) (locals_statement w.tree) w.counts s.rooms;
                          is_body = λ _. tt;
                          goes = along begun (step (Sign k.If) (along t.spelled (step (Sign k.LParen) (under_expression g.0.value (step (Sign k.RParen) (along s.spelled (under_statement r.0.value (along between (step (Sign k.Else) w.goes)))))))));
                        }
                    | inr q ↦ absurd (let bad = q.2 in cc)
                  ]
            ]
      ]

  -- ---- loops

  body_whole : (all : ℕ) (ts end : List Terminal) → AreSigns end → loop_body types loops inner d all ts ≡ Err e → WholeBody types loops d all e ts end
  unfolding loop_body
  body_whole all ts end signs h =
      elim (bind_err (read_annotations types d (suc (length ts)) ts) (λ ns. inner all ns.rest >>= λ s. Ok (record { annotations = ns.value; body = s.value; room = s.room; rest = s.rest })) e h) [
        | inl g ↦
            let w = annotations_whole types d e (suc (length ts)) ts (Sign k.LBrace ∷ Sign k.RBrace ∷ end) g in
            record { notes = w.tree; tree = empty; noted = w.formed; formed = tt; is_body = tt; flat = w.low; low = omega arith; counts = counted e all 0 w.plain (omega arith); goes = w.goes }
        | inr g ↦
            let n = read_annotations_sound types d (suc (length ts)) ts g.0 g.1 in
            elim (bind_err (inner all g.0.rest) (λ s. Ok (record { annotations = g.0.value; body = s.value; room = s.room; rest = s.rest })) e g.2) [
              | inl r ↦
                  let w = wholly all e g.0.rest r end signs in
                  record { notes = g.0.value; tree = w.tree; noted = n.formed; formed = w.formed; is_body = w.is_body n.ends; flat = omega (arith, n.shallow); low = w.low; counts = w.counts; goes = along n.spelled (under_annotations g.0.value w.goes) }
              | inr r ↦ absurd (let bad = r.2 in cc)
            ]
      ]

  while_whole : (all : ℕ) (ts end : List Terminal) → AreSigns end → plain_at ts ≡ k.While → while_of types loops inner d all (next ts) ≡ Err e → Whole all ts end
  unfolding while_of
  while_whole all ts end signs is h =
      let begun = sign_at ts k.While is tt in
      elim (bind_err (read_condition types d (next ts)) (λ c. loop_body types loops inner d all c.rest >>= λ b. Ok (record { value = While c.value b.annotations b.body; room = b.room; rest = b.rest })) e h) [
        | inl g ↦
            let w = test_whole types d e (next ts) (Sign k.LBrace ∷ Sign k.RBrace ∷ end) g in
            record { tree = While w.tree [] empty; formed = (w.layered, tt, tt, tt); low = omega (arith, w.low); counts = counted e all 0 w.plain (omega arith); is_body = λ _. tt; goes = along begun (step (Sign k.While) w.goes) }
        | inr g ↦
            let t = test_sound types d (next ts) g.0 g.1 in
            elim (bind_err (loop_body types loops inner d all g.0.rest) (λ b. Ok (record { value = While g.0.value b.annotations b.body; room = b.room; rest = b.rest })) e g.2) [
              | inl r ↦
                  let w = body_whole all g.0.rest end signs r in
                  record { tree = While g.0.value w.notes w.tree; formed = (t.layered, w.noted, w.formed, w.is_body); low = omega (arith, t.shallow, w.flat, w.low); counts = w.counts; is_body = λ _. tt; goes = along begun (step (Sign k.While) (along t.spelled (step (Sign k.LParen) (under_expression g.0.value (step (Sign k.RParen) w.goes))))) }
              | inr r ↦ absurd (let bad = r.2 in cc)
            ]
      ]

  end_whole : (all : ℕ) (ts end : List Terminal) → AreSigns end → for_end types loops inner d all ts ≡ Err e → WholeEnd types loops d all e ts end
  unfolding for_end
  end_whole all ts end signs h =
      elim (bind_err (third_by types d all (plain_at ts) ts) (λ n. rparen n.rest >>= λ us. loop_body types loops inner d n.room us >>= λ b. Ok (record { step = n.value; body = b })) e h) [
        | inl g ↦
            let w = third_whole types d all e (plain_at ts) ts (Sign k.RParen ∷ Sign k.LBrace ∷ Sign k.RBrace ∷ end) signs g in
            record {
              third = w.tree;
              notes = [];
              tree = empty;
              third_formed = w.formed;
              noted = tt;
              formed = tt;
              is_body = tt;
              third_low = w.low;
              flat = omega arith;
              low = omega arith;
              counts = as_many e all (locals_option w.tree) (locals_option w.tree + 0) w.counts (omega arith);
              goes = w.goes;
            }
        | inr g ↦
            let n = third_sound types d all (plain_at ts) ts g.0 g.1 in
            elim (bind_err (rparen g.0.rest) (λ us. loop_body types loops inner d g.0.room us >>= λ b. Ok (record { step = g.0.value; body = b })) e g.2) [
              | inl r ↦
                  let q = rparen_stops e g.0.rest (Sign k.RParen ∷ Sign k.LBrace ∷ Sign k.RBrace ∷ end) r in
                  record {
                    third = g.0.value;
                    notes = [];
                    tree = empty;
                    third_formed = n.formed;
                    noted = tt;
                    formed = tt;
                    is_body = tt;
                    third_low = omega (arith, n.shallow);
                    flat = omega arith;
                    low = omega arith;
                    counts = counted e all (locals_option g.0.value + 0) q.0 (omega (arith, n.rooms));
                    goes = along n.spelled (under_option g.0.value q.1);
                  }
              | inr r ↦
                  let closed = rparen_ok g.0.rest r.0 r.1 in
                  elim (bind_err (loop_body types loops inner d g.0.room r.0) (λ b. Ok (record { step = g.0.value; body = b })) e r.2) [
                    | inl q ↦
                        let w = body_whole g.0.room r.0 end signs q in
                        record {
                          third = g.0.value;
                          notes = w.notes;
                          tree = w.tree;
                          third_formed = n.formed;
                          noted = w.noted;
                          formed = w.formed;
                          is_body = w.is_body;
                          third_low = omega (arith, n.shallow);
                          flat = w.flat;
                          low = w.low;
                          counts = later e all g.0.room (locals_option g.0.value) (locals_statement w.tree) w.counts n.rooms;
                          goes = along n.spelled (under_option g.0.value (along closed (step (Sign k.RParen) w.goes)));
                        }
                    | inr q ↦ absurd (let bad = q.2 in cc)
                  ]
            ]
      ]

  for_test_whole : (all : ℕ) (ts end : List Terminal) → AreSigns end → for_test types loops inner d all ts ≡ Err e → WholeForTest types loops d all e ts end
  unfolding for_test
  for_test_whole all ts end signs h =
      elim (bind_err (read_expression types d 1 ts) (λ c. semi c.rest >>= λ us. for_end types loops inner d all us >>= λ x. Ok (record { test = c.tree; end = x })) e h) [
        | inl g ↦
            let w = expression_whole types d 1 e ts (omega arith) (omega arith) g (Sign k.Semi ∷ Sign k.RParen ∷ Sign k.LBrace ∷ Sign k.RBrace ∷ end) in
            record {
              test = w.tree;
              third = None;
              notes = [];
              tree = empty;
              layered = w.layered;
              third_formed = tt;
              noted = tt;
              formed = tt;
              is_body = tt;
              test_low = w.low;
              third_low = omega arith;
              flat = omega arith;
              low = omega arith;
              counts = counted e all 0 w.plain (omega arith);
              goes = w.goes;
            }
        | inr g ↦
            let c = read_sound types d 1 ts g.0 (omega arith) (omega arith) g.1 in
            elim (bind_err (semi g.0.rest) (λ us. for_end types loops inner d all us >>= λ x. Ok (record { test = g.0.tree; end = x })) e g.2) [
              | inl r ↦
                  let q = semi_stops e g.0.rest (Sign k.Semi ∷ Sign k.RParen ∷ Sign k.LBrace ∷ Sign k.RBrace ∷ end) r in
                  record {
                    test = g.0.tree;
                    third = None;
                    notes = [];
                    tree = empty;
                    layered = c.layered;
                    third_formed = tt;
                    noted = tt;
                    formed = tt;
                    is_body = tt;
                    test_low = omega (arith, c.shallow);
                    third_low = omega arith;
                    flat = omega arith;
                    low = omega arith;
                    counts = counted e all 0 q.0 (omega arith);
                    goes = along c.spelled (under_expression g.0.tree q.1);
                  }
              | inr r ↦
                  let behind = semi_ok g.0.rest r.0 r.1 in
                  elim (bind_err (for_end types loops inner d all r.0) (λ x. Ok (record { test = g.0.tree; end = x })) e r.2) [
                    | inl q ↦
                        let w = end_whole all r.0 end signs q in
                        record {
                          test = g.0.tree;
                          third = w.third;
                          notes = w.notes;
                          tree = w.tree;
                          layered = c.layered;
                          third_formed = w.third_formed;
                          noted = w.noted;
                          formed = w.formed;
                          is_body = w.is_body;
                          test_low = omega (arith, c.shallow);
                          third_low = w.third_low;
                          flat = w.flat;
                          low = w.low;
                          counts = w.counts;
                          goes = along c.spelled (under_expression g.0.tree (along behind (step (Sign k.Semi) w.goes)));
                        }
                    | inr q ↦ absurd (let bad = q.2 in cc)
                  ]
            ]
      ]

  for_whole : (all : ℕ) (ts end : List Terminal) → AreSigns end → plain_at ts ≡ k.For → for_of types loops inner d all (next ts) ≡ Err e → Whole all ts end
  unfolding for_of
  for_whole all ts end signs is h =
      let begun = sign_at ts k.For is tt in
      let zero_on : List Terminal = Sign (k.Number 0) ∷ Sign k.Semi ∷ Sign k.RParen ∷ Sign k.LBrace ∷ Sign k.RBrace ∷ end in
      elim (bind_err (lparen (next ts)) (λ us. first_by types d all (plain_at us) us >>= λ i. semi i.rest >>= λ vs. for_test types loops inner d i.room vs >>= λ t. Ok (record { value = For i.value t.test t.end.step t.end.body.annotations t.end.body.body; room = t.end.body.room; rest = t.end.body.rest })) e h) [
        | inl g ↦
            let q = lparen_stops e (next ts) (Sign k.LParen ∷ Sign k.Semi ∷ zero_on) g in
            record { tree = For None (Number 0) None [] empty; formed = (tt, tt, tt, tt, tt, tt); low = omega arith; counts = counted e all 0 q.0 (omega arith); is_body = λ _. tt; goes = along begun (step (Sign k.For) q.1) }
        | inr g ↦
            let opened = lparen_ok (next ts) g.0 g.1 in
            elim (bind_err (first_by types d all (plain_at g.0) g.0) (λ i. semi i.rest >>= λ vs. for_test types loops inner d i.room vs >>= λ t. Ok (record { value = For i.value t.test t.end.step t.end.body.annotations t.end.body.body; room = t.end.body.room; rest = t.end.body.rest })) e g.2) [
              | inl r ↦
                  let w = first_whole types d all e (plain_at g.0) g.0 (Sign k.Semi ∷ zero_on) signs r in
                  record {
                    tree = For w.tree (Number 0) None [] empty;
                    formed = (w.formed, tt, tt, tt, tt, tt);
                    low = omega (arith, w.low);
                    counts = as_many e all (locals_option w.tree) (locals_option w.tree + (0 + 0)) w.counts (omega arith);
                    is_body = λ _. tt;
                    goes = along begun (step (Sign k.For) (along opened (step (Sign k.LParen) w.goes)));
                  }
              | inr r ↦
                  let i = first_sound types d all (plain_at g.0) g.0 r.0 r.1 in
                  elim (bind_err (semi r.0.rest) (λ vs. for_test types loops inner d r.0.room vs >>= λ t. Ok (record { value = For r.0.value t.test t.end.step t.end.body.annotations t.end.body.body; room = t.end.body.room; rest = t.end.body.rest })) e r.2) [
                    | inl q ↦
                        let s = semi_stops e r.0.rest (Sign k.Semi ∷ zero_on) q in
                        record {
                          tree = For r.0.value (Number 0) None [] empty;
                          formed = (i.formed, tt, tt, tt, tt, tt);
                          low = omega (arith, i.shallow);
                          counts = counted e all (locals_option r.0.value + (0 + 0)) s.0 (omega (arith, i.rooms));
                          is_body = λ _. tt;
                          goes = along begun (step (Sign k.For) (along opened (step (Sign k.LParen) (along i.spelled (under_option r.0.value s.1)))));
                        }
                    | inr q ↦
                        let between = semi_ok r.0.rest q.0 q.1 in
                        elim (bind_err (for_test types loops inner d r.0.room q.0) (λ t. Ok (record { value = For r.0.value t.test t.end.step t.end.body.annotations t.end.body.body; room = t.end.body.room; rest = t.end.body.rest })) e q.2) [
                          | inl f ↦
                              let w = for_test_whole r.0.room q.0 end signs f in
                              record {
                                tree = For r.0.value w.test w.third w.notes w.tree;
                                formed = (i.formed, w.layered, w.third_formed, w.noted, w.formed, w.is_body);
                                low = omega (arith, i.shallow, w.test_low, w.third_low, w.flat, w.low);
                                counts = later e all r.0.room (locals_option r.0.value) (locals_option w.third + locals_statement w.tree) w.counts i.rooms;
                                is_body = λ _. tt;
                                goes = along begun (step (Sign k.For) (along opened (step (Sign k.LParen) (along i.spelled (under_option r.0.value (along between (step (Sign k.Semi) w.goes)))))));
                              }
                          | inr f ↦ absurd (let bad = f.2 in cc)
                        ]
                  ]
            ]
      ]

  -- ---- the others

  return_err : (all : ℕ) (kind : Kind) (ts : List Terminal) → return_by types d all kind ts ≡ Err e → (read_expression types d 1 ts >>= λ a. with_semi (ReturnValue a.tree) all a.rest) ≡ Err e
  return_err all k.Semi ts h = absurd cc
  return_err all _ ts h = h

  return_whole : (all : ℕ) (ts end : List Terminal) → plain_at ts ≡ k.Return → return_by types d all (plain_at (next ts)) (next ts) ≡ Err e → Whole all ts end
  return_whole all ts end is h =
      let begun = sign_at ts k.Return is tt in
      elim (bind_err (read_expression types d 1 (next ts)) (λ a. with_semi (ReturnValue a.tree) all a.rest) e (return_err all (plain_at (next ts)) (next ts) h)) [
        | inl g ↦
            let w = expression_whole types d 1 e (next ts) (omega arith) (omega arith) g (Sign k.Semi ∷ end) in
            record { tree = ReturnValue w.tree; formed = w.layered; low = omega (arith, w.low); counts = counted e all 0 w.plain (omega arith); is_body = λ _. tt; goes = along begun (step (Sign k.Return) w.goes) }
        | inr g ↦
            let s = read_sound types d 1 (next ts) g.0 (omega arith) (omega arith) g.1 in
            let q = semi_stops e g.0.rest (Sign k.Semi ∷ end) (semi_whole (ReturnValue g.0.tree) all e g.0.rest g.2) in
            record { tree = ReturnValue g.0.tree; formed = s.layered; low = omega (arith, s.shallow); counts = counted e all 0 q.0 (omega arith); is_body = λ _. tt; goes = along begun (step (Sign k.Return) (along s.spelled (under_expression g.0.tree q.1))) }
      ]

  leave_err : (b : Bool) (s : Statement) (all : ℕ) (ts : List Terminal) → leave_by b s all ts ≡ Err e → ((b ≡ true) × (with_semi s all (next ts) ≡ Err e)) ⊎ (refuse {A = Counted Statement} ts ≡ Err e)
  leave_err true s all ts h = inl (refl, h)
  leave_err false s all ts h = inr h

  -- a statement that stops at its first token
  stops_first : (all : ℕ) (ts end : List Terminal) → refuse {A = Counted Statement} ts ≡ Err e → Whole all ts end
  stops_first all ts end h =
      let q = at_refuse {A = Counted Statement} e ts (Sign k.LBrace ∷ Sign k.RBrace ∷ end) h in
      record { tree = empty; formed = tt; low = omega arith; counts = counted e all 0 q.0 (omega arith); is_body = λ _. tt; goes = q.1 }

  statements_err : (kind : Kind) (go_on : ℕ → List Terminal → Outcome (Counted Statements)) (all : ℕ) (ts : List Terminal) → statements_by types loops inner d kind go_on all ts ≡ Err e
      → (inner all ts >>= λ s. go_on s.room s.rest >>= λ ss. Ok (record { value = also s.value ss.value; room = ss.room; rest = ss.rest })) ≡ failed (Counted Statements) e
  statements_err k.RBrace go_on all ts h = absurd cc
  statements_err _ go_on all ts h = h

  pub statements_whole : (n all : ℕ) (ts end : List Terminal) → AreSigns end → read_statements types loops inner d n all ts ≡ Err e → WholeStatements types loops d all e ts end
  unfolding read_statements
  statements_whole zero all ts end signs h =
      let q = at_refuse {A = Counted Statements} e ts (Sign k.RBrace ∷ end) h in
      record { tree = nothing; formed = tt; low = omega arith; counts = counted e all 0 q.0 (omega arith); goes = q.1 }
  statements_whole (suc n) all ts end signs h =
      let f = statements_err (plain_at ts) (read_statements types loops inner d n) all ts h in
      elim (bind_err (inner all ts) (λ s. read_statements types loops inner d n s.room s.rest >>= λ ss. Ok (record { value = also s.value ss.value; room = ss.room; rest = ss.rest })) e f) [
        | inl g ↦
            let w = wholly all e ts g (Sign k.RBrace ∷ end) signs in
            record { tree = also w.tree nothing; formed = (w.formed, tt); low = omega (arith, w.low); counts = as_many e all (locals_statement w.tree) (locals_statement w.tree + 0) w.counts (omega arith); goes = w.goes }
        | inr g ↦
            let s = sound all ts g.0 g.1 in
            elim (bind_err (read_statements types loops inner d n g.0.room g.0.rest) (λ ss. Ok (record { value = also g.0.value ss.value; room = ss.room; rest = ss.rest })) e g.2) [
              | inl r ↦
                  let w = statements_whole n g.0.room g.0.rest end signs r in
                  record {
                    tree = also g.0.value w.tree;
                    formed = (s.formed, w.formed);
                    low = omega (arith, s.shallow, w.low);
                    counts = later e all g.0.room (locals_statement g.0.value) (locals_statements w.tree) w.counts s.rooms;
                    goes = along s.spelled (under_statement g.0.value w.goes);
                  }
              | inr r ↦ absurd (let bad = r.2 in cc)
            ]
      ]

  -- `break;` or `continue;`
  leave_whole : (s : Statement) (word : Kind) (all : ℕ) (ts end : List Terminal) → ts ≡ Sign word ∷ next ts → emit_statement s end ≡ Sign word ∷ Sign k.Semi ∷ end → (loops ≡ true → FormedStatement types loops s) → height_statement s ≤ 1 → locals_statement s ≤ 0 → IsLoopBody s
      → leave_by loops s all ts ≡ Err e → Whole all ts end
  leave_whole s word all ts end begun spelled formed low none body h =
      elim (leave_err loops s all ts h) [
        | inl g ↦
            let q = semi_stops e (next ts) (Sign k.Semi ∷ end) (semi_whole s all e (next ts) g.1) in
            record { tree = s; formed = formed g.0; low = omega arith; counts = counted e all (locals_statement s) q.0 (omega arith); is_body = λ _. body; goes = subst (λ (us : List Terminal). Goes e ts us) (sym spelled) (along begun (step (Sign word) q.1)) }
        | inr g ↦ stops_first all ts end g
      ]

  statement_whole_by : (kind : Kind) (all : ℕ) (ts end : List Terminal) → AreSigns end → plain_at ts ≡ kind → statement_by types loops inner d kind all ts ≡ Err e → Whole all ts end
  statement_whole_by k.LBrace all ts end signs is h =
      elim (bind_err (read_statements types loops inner d (length ts) all (next ts)) (λ ss. Ok (record { value = Block ss.value; room = ss.room; rest = ss.rest })) e h) [
        | inl g ↦
            let w = statements_whole (length ts) all (next ts) end signs g in
            record { tree = Block w.tree; formed = w.formed; low = omega (arith, w.low); counts = w.counts; is_body = λ _. tt; goes = along (sign_at ts k.LBrace is tt) (step (Sign k.LBrace) w.goes) }
        | inr g ↦ absurd (let bad = g.2 in cc)
      ]
  statement_whole_by k.Begin all ts end signs is h =
      elim (bind_err (read_specs types d (length ts) (next ts)) (λ a. Ok (record { value = Annotation a.value; room = all; rest = a.rest })) e h) [
        | inl g ↦
            let w = specs_whole types d e (length ts) (next ts) end g in
            record { tree = Annotation w.tree; formed = w.formed; low = omega (arith, w.low); counts = counted e all 0 w.plain (omega arith); is_body = λ b. begins_here k.Begin ts is (λ x. x) b; goes = along (sign_at ts k.Begin is tt) (step (Sign k.Begin) w.goes) }
        | inr g ↦ absurd (let bad = g.2 in cc)
      ]
  statement_whole_by k.Return all ts end signs is h = return_whole all ts end is h
  statement_whole_by k.If all ts end signs is h = if_whole all ts end signs is h
  statement_whole_by k.While all ts end signs is h = while_whole all ts end signs is h
  statement_whole_by k.For all ts end signs is h = for_whole all ts end signs is h
  statement_whole_by k.Assert all ts end signs is h =
      elim (bind_err (call_of types d (next ts)) (λ x. Ok (record { value = Assert x.value; room = all; rest = x.rest })) e h) [
        | inl g ↦
            let w = call_whole types d e (next ts) end g in
            record { tree = Assert w.tree; formed = w.layered; low = omega (arith, w.low); counts = counted e all 0 w.plain (omega arith); is_body = λ _. tt; goes = along (sign_at ts k.Assert is tt) (step (Sign k.Assert) w.goes) }
        | inr g ↦ absurd (let bad = g.2 in cc)
      ]
  statement_whole_by k.Error all ts end signs is h =
      elim (bind_err (call_of types d (next ts)) (λ x. Ok (record { value = Error x.value; room = all; rest = x.rest })) e h) [
        | inl g ↦
            let w = call_whole types d e (next ts) end g in
            record { tree = Error w.tree; formed = w.layered; low = omega (arith, w.low); counts = counted e all 0 w.plain (omega arith); is_body = λ _. tt; goes = along (sign_at ts k.Error is tt) (step (Sign k.Error) w.goes) }
        | inr g ↦ absurd (let bad = g.2 in cc)
      ]
  statement_whole_by k.Break all ts end signs is h = leave_whole Break k.Break all ts end (sign_at ts k.Break is tt) refl (λ b. b) (omega arith) (omega arith) tt h
  statement_whole_by k.Continue all ts end signs is h = leave_whole Continue k.Continue all ts end (sign_at ts k.Continue is tt) refl (λ b. b) (omega arith) (omega arith) tt h
  statement_whole_by _ all ts end signs is h =
      elim (bind_err (read_simple types (suc d) all ts) (λ s. with_semi (Simple s.value) s.room s.rest) e h) [
        | inl g ↦
            let w = simple_whole types d all e ts (Sign k.Semi ∷ end) signs g in
            record { tree = Simple w.tree; formed = w.formed; low = w.low; counts = w.counts; is_body = λ _. tt; goes = w.goes }
        | inr g ↦
            let s = read_simple_sound types (suc d) all ts g.0 g.1 in
            let q = semi_stops e g.0.rest (Sign k.Semi ∷ end) (semi_whole (Simple g.0.value) g.0.room e g.0.rest g.2) in
            record { tree = Simple g.0.value; formed = s.formed; low = omega (arith, s.shallow); counts = counted e all (locals_simple g.0.value) q.0 (omega (arith, s.rooms)); is_body = λ _. tt; goes = along s.spelled (under_simple g.0.value q.1) }
      ]

pub statement_whole : (types : Names) (loops : Bool) (d : ℕ) → IsWhole types loops d (read_statement types loops d)
unfolding read_statement
statement_whole types loops zero all e ts h end signs =
    let q = at_deep {A = Counted Statement} e ts (Sign k.LBrace ∷ Sign k.RBrace ∷ end) h in
    record { tree = Block nothing; formed = tt; low = omega arith; counts = counted e all 0 q.0 (omega arith); is_body = λ _. tt; goes = q.1 }
statement_whole types loops (suc d) all e ts h end signs =
    statement_whole_by types loops d (read_statement types loops d) (read_statement_sound types loops d) (statement_whole types loops d) e (plain_at ts) all ts end signs refl h
