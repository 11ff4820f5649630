-- Annotations and statements, read from left to right.
use Rattle.std.specs.Prelude.{ℕ, zero, suc, Bool, true, false, List, [], ◌∷◌, length, Option, Some, None, Ok}
use Rattle.c0_source.specs.declared.kind.Kind.{Kind}
use Rattle.c0_source.specs.declared.kind.Kind.TheVariants as k
use Rattle.c0_syntax.specs.declared.operator.Change.TheVariants as c
use Rattle.c0_source.specs.Terminals.{Terminal}
use Rattle.c0_syntax.specs.Trees.{ValueType, Expression, Spec, Contract, Asserts, SimpleStatement, Declare, Initialize, Assign, Update, Step, Evaluate, Statement, Simple, Block, Annotation, Return, ReturnValue, If, IfElse, While, For, Assert, Error, Break, Continue, Statements, nothing, also}
use Rattle.c0_syntax.specs.Expressions.{begins_star}
use Rattle.c0_grammar_laws.specs.Outcome.{Outcome, ◌>>=◌, Read, refuse, too_deep, too_large, kind_at, plain_at, next, lparen, rparen, semi, new_name}
use Rattle.c0_grammar_laws.specs.ReadExpressions.{read_type, ReadExpression, read_expression}

-- what was read, how many more locals there may be, and the tokens after it
pub record Counted (A : Type 0) : Type 0 where
  pub value : A
  pub room : ℕ
  pub rest : List Terminal

-- ---- annotations

-- a spec, by the kind of its word
abbrev pub spec_by : List (List ℕ) → ℕ → Kind → List Terminal → Outcome (Read Spec)
spec_by types d (k.Clause c) ts = read_expression types d 1 (next ts) >>= λ e. semi e.rest >>= λ rest. Ok (record { value = Contract c e.tree; rest = rest })
spec_by types d k.Assert ts = read_expression types d 1 (next ts) >>= λ e. semi e.rest >>= λ rest. Ok (record { value = Asserts e.tree; rest = rest })
spec_by types d _ ts = refuse ts

-- a spec of at most so many nodes on a path
unfoldable pub read_spec : List (List ℕ) → ℕ → List Terminal → Outcome (Read Spec)
read_spec types zero ts = too_deep ts
read_spec types (suc d) ts = spec_by types d (plain_at ts) ts

-- specs, by the kind of the next token: an annotation's end ends them
abbrev pub specs_by : List (List ℕ) → ℕ → (List Terminal → Outcome (Read (List Spec))) → Kind → List Terminal → Outcome (Read (List Spec))
specs_by types d go_on k.End ts = Ok (record { value = []; rest = next ts })
specs_by types d go_on _ ts = read_spec types d ts >>= λ s. go_on s.rest >>= λ ss. Ok (record { value = s.value ∷ ss.value; rest = ss.rest })

-- specs of at most `d` levels, with the annotation's end
unfoldable pub read_specs : List (List ℕ) → ℕ → ℕ → List Terminal → Outcome (Read (List Spec))
read_specs types d zero ts = refuse ts
read_specs types d (suc n) ts = specs_by types d (read_specs types d n) (plain_at ts) ts

-- annotations, by the kind of the next token
abbrev pub annotations_by : List (List ℕ) → ℕ → (List Terminal → Outcome (Read (List (List Spec)))) → Kind → List Terminal → Outcome (Read (List (List Spec)))
annotations_by types d go_on k.Begin ts = read_specs types d (length ts) (next ts) >>= λ a. go_on a.rest >>= λ ns. Ok (record { value = a.value ∷ ns.value; rest = ns.rest })
annotations_by types d go_on _ ts = Ok (record { value = []; rest = ts })

-- as many annotations as stand here
unfoldable pub read_annotations : List (List ℕ) → ℕ → ℕ → List Terminal → Outcome (Read (List (List Spec)))
read_annotations types d zero ts = refuse ts
read_annotations types d (suc n) ts = annotations_by types d (read_annotations types d n) (plain_at ts) ts

-- ---- simple statements

-- the value of a local, by the kind of the token behind its name
abbrev pub value_by : List (List ℕ) → ℕ → ℕ → Kind → ValueType → Read (List ℕ) → Outcome (Counted SimpleStatement)
value_by types d room k.Assign t x = read_expression types d 1 (next x.rest) >>= λ e. Ok (record { value = Initialize t x.value e.tree; room = room; rest = e.rest })
value_by types d room _ t x = Ok (record { value = Declare t x.value; room = room; rest = x.rest })

-- one of the locals that there may be
abbrev pub room_by : ℕ → List Terminal → (ℕ → Outcome (Counted SimpleStatement)) → Outcome (Counted SimpleStatement)
room_by zero ts go_on = too_large ts
room_by (suc room) ts go_on = go_on room

-- the declaration of a local
unfoldable pub local_declaration : List (List ℕ) → ℕ → ℕ → List Terminal → Outcome (Counted SimpleStatement)
local_declaration types d room ts =
    read_type types d ts >>= λ t. new_name types t.rest >>= λ x. room_by room t.rest (λ left. value_by types d left (plain_at x.rest) t.value_type x)

-- `++` or `--`, where it is told whether the destination begins with `*`
abbrev pub step_by : ℕ → Bool → SimpleStatement → ReadExpression → Outcome (Counted SimpleStatement)
step_by room true s e = refuse e.rest
step_by room false s e = Ok (record { value = s; room = room; rest = next e.rest })

-- a simple statement that begins with an expression, by the kind of the token behind that
abbrev pub behind_by : List (List ℕ) → ℕ → ℕ → Kind → ReadExpression → Outcome (Counted SimpleStatement)
behind_by types d room k.Assign a = read_expression types d 1 (next a.rest) >>= λ b. Ok (record { value = Assign a.tree b.tree; room = room; rest = b.rest })
behind_by types d room (k.Update op) a = read_expression types d 1 (next a.rest) >>= λ b. Ok (record { value = Update a.tree op b.tree; room = room; rest = b.rest })
behind_by types d room k.PlusPlus a = step_by room (begins_star a.tree) (Step a.tree c.Increment) a
behind_by types d room k.MinusMinus a = step_by room (begins_star a.tree) (Step a.tree c.Decrement) a
behind_by types d room _ a = Ok (record { value = Evaluate a.tree; room = room; rest = a.rest })

-- a simple statement, by the kind of its first token
abbrev pub simple_by : List (List ℕ) → ℕ → ℕ → Kind → List Terminal → Outcome (Counted SimpleStatement)
simple_by types d room (k.Base b) ts = local_declaration types d room ts
simple_by types d room k.Struct ts = local_declaration types d room ts
simple_by types d room k.TypeName ts = local_declaration types d room ts
simple_by types d room _ ts = read_expression types d 1 ts >>= λ e. behind_by types d room (plain_at e.rest) e

-- a simple statement of at most so many nodes on a path, where so many more locals may be declared
unfoldable pub read_simple : List (List ℕ) → ℕ → ℕ → List Terminal → Outcome (Counted SimpleStatement)
read_simple types zero room ts = too_deep ts
read_simple types (suc d) room ts = simple_by types d room (kind_at types ts) ts

-- a part of `for` that is there
abbrev pub given : Counted SimpleStatement → Counted (Option SimpleStatement)
given s = record { value = Some s.value; room = s.room; rest = s.rest }

-- the first part of `for`, which a semicolon may stand for
abbrev pub first_by : List (List ℕ) → ℕ → ℕ → Kind → List Terminal → Outcome (Counted (Option SimpleStatement))
first_by types d room k.Semi ts = Ok (record { value = None; room = room; rest = ts })
first_by types d room _ ts = read_simple types d room ts >>= λ s. Ok (given s)

-- the third part, which `)` may stand for
abbrev pub third_by : List (List ℕ) → ℕ → ℕ → Kind → List Terminal → Outcome (Counted (Option SimpleStatement))
third_by types d room k.RParen ts = Ok (record { value = None; room = room; rest = ts })
third_by types d room _ ts = read_simple types d room ts >>= λ s. Ok (given s)

-- ---- statements

-- `(` exp `)`
unfoldable pub read_condition : List (List ℕ) → ℕ → List Terminal → Outcome (Read Expression)
read_condition types d ts = lparen ts >>= λ us. read_expression types d 1 us >>= λ e. rparen e.rest >>= λ rest. Ok (record { value = e.tree; rest = rest })

-- `(` exp `)` `;`
unfoldable pub call_of : List (List ℕ) → ℕ → List Terminal → Outcome (Read Expression)
call_of types d ts = read_condition types d ts >>= λ e. semi e.rest >>= λ rest. Ok (record { value = e.value; rest = rest })

-- a statement whose semicolon stands next
abbrev pub with_semi : Statement → ℕ → List Terminal → Outcome (Counted Statement)
with_semi s room ts = semi ts >>= λ rest. Ok (record { value = s; room = room; rest = rest })

-- what stands behind `return`, by the kind of its first token
abbrev pub return_by : List (List ℕ) → ℕ → ℕ → Kind → List Terminal → Outcome (Counted Statement)
return_by types d room k.Semi ts = Ok (record { value = Return; room = room; rest = next ts })
return_by types d room _ ts = read_expression types d 1 ts >>= λ e. with_semi (ReturnValue e.tree) room e.rest

-- `break` and `continue`, where there are any
abbrev pub leave_by : Bool → Statement → ℕ → List Terminal → Outcome (Counted Statement)
leave_by true s room ts = with_semi s room (next ts)
leave_by false s room ts = refuse ts

-- the annotations and the body of a loop
pub record Body : Type 0 where
  pub annotations : List (List Spec)
  pub body : Statement
  pub room : ℕ
  pub rest : List Terminal

-- a `for` from its third part on
pub record ForEnd : Type 0 where
  pub step : Option SimpleStatement
  pub body : Body

-- a `for` from its condition on
pub record ForTest : Type 0 where
  pub test : Expression
  pub end : ForEnd

-- inner: a statement of one level less; d: those levels
module _ (types : List (List ℕ)) (loops : Bool) (inner : ℕ → List Terminal → Outcome (Counted Statement)) (d : ℕ) where
  -- an `if` behind its first statement, by the kind of the next token
  abbrev pub else_by : Kind → Expression → Counted Statement → Outcome (Counted Statement)
  else_by k.Else c a = inner a.room (next a.rest) >>= λ b. Ok (record { value = IfElse c a.value b.value; room = b.room; rest = b.rest })
  else_by _ c a = Ok (record { value = If c a.value; room = a.room; rest = a.rest })

  -- statements, by the kind of the next token: a closing brace ends them
  abbrev pub statements_by : Kind → (ℕ → List Terminal → Outcome (Counted Statements)) → ℕ → List Terminal → Outcome (Counted Statements)
  statements_by k.RBrace go_on room ts = Ok (record { value = nothing; room = room; rest = next ts })
  statements_by _ go_on room ts = inner room ts >>= λ s. go_on s.room s.rest >>= λ ss. Ok (record { value = also s.value ss.value; room = ss.room; rest = ss.rest })

  -- statements and the closing brace, at most `n` tokens of them
  unfoldable pub read_statements : ℕ → ℕ → List Terminal → Outcome (Counted Statements)
  read_statements zero room ts = refuse ts
  read_statements (suc n) room ts = statements_by (plain_at ts) (read_statements n) room ts

  -- what stands behind `if`
  unfoldable pub if_of : ℕ → List Terminal → Outcome (Counted Statement)
  if_of room ts = read_condition types d ts >>= λ c. inner room c.rest >>= λ a. else_by (plain_at a.rest) c.value a

  -- the annotations of a loop, and its body
  unfoldable pub loop_body : ℕ → List Terminal → Outcome Body
  loop_body room ts = read_annotations types d (suc (length ts)) ts >>= λ ns. inner room ns.rest >>= λ s. Ok (record { annotations = ns.value; body = s.value; room = s.room; rest = s.rest })

  -- what stands behind `while`
  unfoldable pub while_of : ℕ → List Terminal → Outcome (Counted Statement)
  while_of room ts = read_condition types d ts >>= λ c. loop_body room c.rest >>= λ b. Ok (record { value = While c.value b.annotations b.body; room = b.room; rest = b.rest })

  -- `for` behind its second semicolon, and behind its first
  unfoldable pub for_end : ℕ → List Terminal → Outcome ForEnd
  for_end room ts = third_by types d room (plain_at ts) ts >>= λ n. rparen n.rest >>= λ us. loop_body n.room us >>= λ b. Ok (record { step = n.value; body = b })

  -- a `for` behind its first semicolon
  unfoldable pub for_test : ℕ → List Terminal → Outcome ForTest
  for_test room ts = read_expression types d 1 ts >>= λ c. semi c.rest >>= λ us. for_end room us >>= λ e. Ok (record { test = c.tree; end = e })

  -- what stands behind `for`
  unfoldable pub for_of : ℕ → List Terminal → Outcome (Counted Statement)
  for_of room ts =
      lparen ts >>= λ us. first_by types d room (plain_at us) us >>= λ i. semi i.rest >>= λ vs. for_test i.room vs
      >>= λ t. Ok (record { value = For i.value t.test t.end.step t.end.body.annotations t.end.body.body; room = t.end.body.room; rest = t.end.body.rest })

  -- a statement, by the kind of its first token
  abbrev pub statement_by : Kind → ℕ → List Terminal → Outcome (Counted Statement)
  statement_by k.LBrace room ts = read_statements (length ts) room (next ts) >>= λ ss. Ok (record { value = Block ss.value; room = ss.room; rest = ss.rest })
  statement_by k.Begin room ts = read_specs types d (length ts) (next ts) >>= λ a. Ok (record { value = Annotation a.value; room = room; rest = a.rest })
  statement_by k.Return room ts = return_by types d room (plain_at (next ts)) (next ts)
  statement_by k.If room ts = if_of room (next ts)
  statement_by k.While room ts = while_of room (next ts)
  statement_by k.For room ts = for_of room (next ts)
  statement_by k.Assert room ts = call_of types d (next ts) >>= λ e. Ok (record { value = Assert e.value; room = room; rest = e.rest })
  statement_by k.Error room ts = call_of types d (next ts) >>= λ e. Ok (record { value = Error e.value; room = room; rest = e.rest })
  statement_by k.Break room ts = leave_by loops Break room ts
  statement_by k.Continue room ts = leave_by loops Continue room ts
  statement_by _ room ts = read_simple types (suc d) room ts >>= λ s. with_semi (Simple s.value) s.room s.rest

-- a statement of at most `depth` levels
unfoldable pub read_statement : List (List ℕ) → Bool → ℕ → ℕ → List Terminal → Outcome (Counted Statement)
read_statement types loops zero room ts = too_deep ts
read_statement types loops (suc d) room ts = statement_by types loops (read_statement types loops d) d (plain_at ts) room ts

-- the body of a function, behind its opening brace
abbrev pub read_body : List (List ℕ) → Bool → ℕ → ℕ → List Terminal → Outcome (Counted Statements)
read_body types loops d room ts = read_statements types loops (read_statement types loops d) d (suc (length ts)) room ts
