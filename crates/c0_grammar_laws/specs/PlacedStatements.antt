-- Which tokens of a text are those of an annotation or a statement, and that each of its parts stands where they do.
use Rattle.std.specs.Prelude.{◌≡◌, List, [], ◌∷◌, map, Option, Some, None, option_map}
use Rattle.c0_source.specs.declared.fault.Span.{Span}
use Rattle.c0_syntax.specs.Trees as t
use Rattle.c0_syntax.specs.Views.{annotation_of, expression_of, simple_of, spec_of, statement_of, statement_of_kind, statements_of, type_of}
use Rattle.c0_syntax.specs.declared.expression.Expression.{Expression}
use Rattle.c0_syntax.specs.declared.statement.Spec.{Spec}
use Rattle.c0_syntax.specs.declared.statement.Annotation.{Annotation}
use Rattle.c0_syntax.specs.declared.statement.SimpleStatement.{SimpleStatement}
use Rattle.c0_syntax.specs.declared.statement.SimpleKind.{SimpleKind}
use Rattle.c0_syntax.specs.declared.statement.SimpleKind.TheVariants as s
use Rattle.c0_syntax.specs.declared.statement.Statement.{Statement}
use Rattle.c0_syntax.specs.declared.statement.StatementKind.{StatementKind, Row_of-Statement, end_of-Statement, more_of-Statement, Simple, Block', Annotated, ReturnValue, If', IfElse', While', For', Assert, Error}
use Rattle.c0_grammar_laws.specs.Places.{IsPlaced, PlacedExpression, PlacedName, PlacedType, Position, after_expression, after_type, skip}

-- ---- annotations

-- the position behind a spec
abbrev pub after_spec : t.Spec → Position → Position
after_spec (t.Contract clause e) p = skip (after_expression e (skip p))
after_spec (t.Asserts e) p = skip (after_expression e (skip p))

-- ... behind specs
abbrev pub after_each_spec : List t.Spec → Position → Position
after_each_spec [] p = p
after_each_spec (x ∷ xs) p = after_each_spec xs (after_spec x p)

-- ... behind an annotation
abbrev pub after_annotation : List t.Spec → Position → Position
after_annotation xs p = skip (after_each_spec xs (skip p))

-- ... behind annotations
abbrev pub after_annotations : List (List t.Spec) → Position → Position
after_annotations [] p = p
after_annotations (x ∷ xs) p = after_annotations xs (after_annotation x p)

-- each part of a spec has the place of its tokens, and so has its word
abbrev pub PlacedSpec : Position → Spec → Type 0
PlacedSpec p x = IsPlaced x.span p (after_spec (spec_of x) p) × IsPlaced x.word p (skip p) × PlacedExpression (skip p) x.condition

-- ... of specs
abbrev pub PlacedSpecs : Position → List Spec → Type 0
PlacedSpecs p [] = Unit {0}
PlacedSpecs p (x ∷ xs) = PlacedSpec p x × PlacedSpecs (after_spec (spec_of x) p) xs

-- ... of an annotation
abbrev pub PlacedAnnotation : Position → Annotation → Type 0
PlacedAnnotation p x = IsPlaced x.span p (after_annotation (annotation_of x) p) × PlacedSpecs (skip p) x.specs.items

-- ... of annotations
abbrev pub PlacedAnnotations : Position → List Annotation → Type 0
PlacedAnnotations p [] = Unit {0}
PlacedAnnotations p (x ∷ xs) = PlacedAnnotation p x × PlacedAnnotations (after_annotation (annotation_of x) p) xs

-- ---- simple statements

-- the position behind a simple statement
abbrev pub after_simple : t.SimpleStatement → Position → Position
after_simple (t.Declare ty x) p = skip (after_type ty p)
after_simple (t.Initialize ty x e) p = after_expression e (skip (skip (after_type ty p)))
after_simple (t.Assign a b) p = after_expression b (skip (after_expression a p))
after_simple (t.Update a op b) p = after_expression b (skip (after_expression a p))
after_simple (t.Step a way) p = skip (after_expression a p)
after_simple (t.Evaluate e) p = after_expression e p

-- ... if it is there
abbrev pub after_option : Option t.SimpleStatement → Position → Position
after_option None p = p
after_option (Some x) p = after_simple x p

-- each part of a simple statement by its kind has the place of its tokens
abbrev pub PlacedSimpleKind : Position → SimpleKind → Type 0
PlacedSimpleKind p (s.Declare ty x) = PlacedType p ty × PlacedName (after_type (type_of ty) p) x
PlacedSimpleKind p (s.Initialize ty x e) = PlacedType p ty × PlacedName (after_type (type_of ty) p) x × PlacedExpression (skip (skip (after_type (type_of ty) p))) e
PlacedSimpleKind p (s.Assign a b) = PlacedExpression p a × PlacedExpression (skip (after_expression (expression_of a) p)) b
PlacedSimpleKind p (s.Update a op b) = PlacedExpression p a × PlacedExpression (skip (after_expression (expression_of a) p)) b
PlacedSimpleKind p (s.Step a way) = PlacedExpression p a
PlacedSimpleKind p (s.Evaluate e) = PlacedExpression p e

-- ... and the simple statement itself
abbrev pub PlacedSimple : Position → SimpleStatement → Type 0
PlacedSimple p x = IsPlaced x.span p (after_simple (simple_of x) p) × PlacedSimpleKind p x.kind

-- ... if it is there
abbrev pub PlacedOption : Position → Option SimpleStatement → Type 0
PlacedOption p None = Unit {0}
PlacedOption p (Some x) = PlacedSimple p x

-- ---- statements

-- the position behind a condition in parentheses, whose `(` is the next token
abbrev pub after_condition : t.Expression → Position → Position
after_condition e p = skip (after_expression e (skip p))

abbrev mutual
  -- the position behind a statement
  pub after_statement : t.Statement → Position → Position
  after_statement (t.Simple x) p = skip (after_simple x p)
  after_statement (t.Block ss) p = after_statements ss (skip p)
  after_statement (t.Annotation a) p = after_annotation a p
  after_statement t.Return p = skip (skip p)
  after_statement (t.ReturnValue e) p = skip (after_expression e (skip p))
  after_statement (t.If c a) p = after_statement a (after_condition c (skip p))
  after_statement (t.IfElse c a b) p = after_statement b (skip (after_statement a (after_condition c (skip p))))
  after_statement (t.While c ns a) p = after_statement a (after_annotations ns (after_condition c (skip p)))
  after_statement (t.For i c n ns a) p = after_statement a (after_annotations ns (skip (after_option n (skip (after_expression c (skip (after_option i (skip (skip p)))))))))
  after_statement (t.Assert e) p = skip (after_condition e (skip p))
  after_statement (t.Error e) p = skip (after_condition e (skip p))
  after_statement t.Break p = skip (skip p)
  after_statement t.Continue p = skip (skip p)

  -- ... behind statements and the closing brace
  pub after_statements : t.Statements → Position → Position
  after_statements t.nothing p = skip p
  after_statements (t.also x xs) p = after_statements xs (after_statement x p)

-- ... behind statements without the brace
abbrev pub after_each_statement : t.Statements → Position → Position
after_each_statement t.nothing p = p
after_each_statement (t.also x xs) p = after_each_statement xs (after_statement x p)

-- the position behind the first part of a `for` that begins here, and the semicolon behind it
abbrev pub after_first : Option t.SimpleStatement → Position → Position
after_first i p = skip (after_option i (skip (skip p)))

-- ... behind its condition, and the semicolon behind that
abbrev pub after_test : Option t.SimpleStatement → t.Expression → Position → Position
after_test i c p = skip (after_expression c (after_first i p))

-- ... behind its third part, and the closing parenthesis
abbrev pub after_third : Option t.SimpleStatement → t.Expression → Option t.SimpleStatement → Position → Position
after_third i c n p = skip (after_option n (after_test i c p))

-- the place of a statement by its kind is that of its tokens
abbrev pub StatementSpans : Position → StatementKind → Span → Type 0
StatementSpans p kind span = IsPlaced span p (after_statement (statement_of_kind kind) p)

abbrev mutual
  -- each part of a statement by its kind has the place of its tokens
  pub PlacedStatementKind : Position → StatementKind → Type 0
  PlacedStatementKind p (Simple x) = PlacedSimple p x
  PlacedStatementKind p (Block' shape ss) = PlacedStatementRow (skip p) ss
  PlacedStatementKind p (Annotated a) = PlacedAnnotation p a
  PlacedStatementKind p (ReturnValue e) = PlacedExpression (skip p) e
  PlacedStatementKind p (If' c q a at) = PlacedExpression (skip (skip p)) c × (StatementSpans (after_condition (expression_of c) (skip p)) a at × PlacedStatementKind (after_condition (expression_of c) (skip p)) a)
  PlacedStatementKind p (IfElse' c q a at r b here) =
      PlacedExpression (skip (skip p)) c × (StatementSpans (after_condition (expression_of c) (skip p)) a at × PlacedStatementKind (after_condition (expression_of c) (skip p)) a)
      × (StatementSpans (skip (after_statement (statement_of_kind a) (after_condition (expression_of c) (skip p)))) b here × PlacedStatementKind (skip (after_statement (statement_of_kind a) (after_condition (expression_of c) (skip p)))) b)
  PlacedStatementKind p (While' c ns q a at) =
      PlacedExpression (skip (skip p)) c × PlacedAnnotations (after_condition (expression_of c) (skip p)) ns.items
      × (StatementSpans (after_annotations (map annotation_of ns.items) (after_condition (expression_of c) (skip p))) a at × PlacedStatementKind (after_annotations (map annotation_of ns.items) (after_condition (expression_of c) (skip p))) a)
  PlacedStatementKind p (For' i c n ns q a at) =
      PlacedOption (skip (skip p)) i × PlacedExpression (after_first (option_map simple_of i) p) c × PlacedOption (after_test (option_map simple_of i) (expression_of c) p) n
      × PlacedAnnotations (after_third (option_map simple_of i) (expression_of c) (option_map simple_of n) p) ns.items
      × (StatementSpans (after_annotations (map annotation_of ns.items) (after_third (option_map simple_of i) (expression_of c) (option_map simple_of n) p)) a at × PlacedStatementKind (after_annotations (map annotation_of ns.items) (after_third (option_map simple_of i) (expression_of c) (option_map simple_of n) p)) a)
  PlacedStatementKind p (Assert e) = PlacedExpression (skip (skip p)) e
  PlacedStatementKind p (Error e) = PlacedExpression (skip (skip p)) e
  PlacedStatementKind p _ = Unit {0}

  -- ... and each statement of a block
  pub PlacedStatementRow : {m : _} → Position → Row_of-Statement m → Type 0
  PlacedStatementRow p end_of-Statement = Unit {0}
  PlacedStatementRow p (more_of-Statement x at rest) = (StatementSpans p x at × PlacedStatementKind p x) × PlacedStatementRow (after_statement (statement_of_kind x) p) rest

-- each part of a statement has the place of its tokens, the first of which is the next one
abbrev pub PlacedStatement : Position → Statement → Type 0
PlacedStatement p x = StatementSpans p x.kind x.span × PlacedStatementKind p x.kind

-- ... of statements in order
abbrev pub PlacedStatements : Position → List Statement → Type 0
PlacedStatements p [] = Unit {0}
PlacedStatements p (x ∷ xs) = PlacedStatement p x × PlacedStatements (after_statement (statement_of x) p) xs

-- ---- trees between two positions

-- a spec is all that stands between these positions
abbrev pub SpecStands : Position → Spec → Position → Type 0
SpecStands p x q = PlacedSpec p x × (after_spec (spec_of x) p ≡ q)

-- ... specs and the end of their annotation
abbrev pub SpecsStand : Position → List Spec → Position → Type 0
SpecsStand p xs q = PlacedSpecs p xs × (skip (after_each_spec (map spec_of xs) p) ≡ q)

-- ... an annotation
abbrev pub AnnotationStands : Position → Annotation → Position → Type 0
AnnotationStands p x q = PlacedAnnotation p x × (after_annotation (annotation_of x) p ≡ q)

-- ... annotations
abbrev pub AnnotationsStand : Position → List Annotation → Position → Type 0
AnnotationsStand p xs q = PlacedAnnotations p xs × (after_annotations (map annotation_of xs) p ≡ q)

-- ... a simple statement
abbrev pub SimpleStands : Position → SimpleStatement → Position → Type 0
SimpleStands p x q = PlacedSimple p x × (after_simple (simple_of x) p ≡ q)

-- ... one that may be there
abbrev pub OptionStands : Position → Option SimpleStatement → Position → Type 0
OptionStands p x q = PlacedOption p x × (after_option (option_map simple_of x) p ≡ q)

-- ... a condition in parentheses
abbrev pub ConditionStands : Position → Expression → Position → Type 0
ConditionStands p e q = PlacedExpression (skip p) e × (after_condition (expression_of e) p ≡ q)

-- ... a statement
abbrev pub StatementStands : Position → Statement → Position → Type 0
StatementStands p x q = PlacedStatement p x × (after_statement (statement_of x) p ≡ q)

-- ... statements and the closing brace
abbrev pub StatementsStand : Position → List Statement → Position → Type 0
StatementsStand p xs q = PlacedStatements p xs × (after_statements (statements_of xs) p ≡ q)
