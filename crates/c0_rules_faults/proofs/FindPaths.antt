-- The kind of a fault at a name or a text of one sort, and its cause.
use Rattle.std.proofs.Common.{◌≡◌, ◌⊎◌, inl, inr, List, [], ◌∷◌, map, subst, Bool, true, Option, Some, None}
use Rattle.std.specs.Prelude.{option_map}
use Rattle.std.specs.String.{string_bytes}
use Rattle.c0_source.specs.declared.fault.FaultKind.{FaultKind}
use Rattle.c0_source.specs.declared.fault.Span.{Span}
use Rattle.c0_syntax.specs.declared.expression.Expression as e
use Rattle.c0_syntax.specs.declared.expression.ExpressionKind.{ExpressionKind, Row_of-Expression, end_of-Expression, more_of-Expression, Number, Character, Truth, Null, Text, Variable, Parenthesized', Call', Alloc, AllocArray', Result, Length', Index', Field', PointerField', Unary', Binary', Conditional'}
use Rattle.c0_syntax.specs.declared.statement.Spec as p
use Rattle.c0_syntax.specs.declared.statement.Annotation.{Annotation}
use Rattle.c0_syntax.specs.declared.statement.SimpleStatement.{SimpleStatement}
use Rattle.c0_syntax.specs.declared.statement.SimpleKind.{SimpleKind}
use Rattle.c0_syntax.specs.declared.statement.SimpleKind.TheVariants as d
use Rattle.c0_syntax.specs.declared.statement.Statement as a
use Rattle.c0_syntax.specs.declared.statement.StatementKind.{StatementKind, Row_of-Statement, end_of-Statement, more_of-Statement, Simple, Block', Annotated, Return, ReturnValue, If', IfElse', While', For', Assert, Error, Break, Continue}
use Rattle.c0_syntax.specs.Trees as s
use Rattle.c0_syntax.specs.Views.{name_of, expression_of, expression_of_kind, row_of, spec_of, annotation_of, simple_of, simple_of_kind, statement_of, statement_of_kind, statement_row, statements_of}
use Rattle.c0_rules.specs.Mentions.{Mention, OfVariable, OfFunction, OfText, condition_of}
use Rattle.c0_rules.specs.FaultExpressions.{Told}
use Rattle.c0_rules.specs.FaultPaths.{NamedIn, NamedInRow, NamedInSpecs, NamedInAnnotations, NamedInSimple, NamedInPart, NamedInStatement, NamedInBlock, NamedInBody}
use Rattle.c0_rules_faults.proofs.Find.{At, here, when, or_else, either, when_is}
use Rattle.c0_rules_faults.proofs.FindStatements.{condition_is}

-- ---- names in expressions

module _ (test : Mention → Bool) (told : FaultKind) where
  abbrev mutual
    pub named : s.Expression → Option FaultKind
    named (s.Variable x) = when (test (OfVariable x)) told
    named (s.Text x) = when (test (OfText x)) told
    named (s.Parenthesized e) = named e
    named (s.Call x es) = or_else (when (test (OfFunction x)) told) (named_arguments es)
    named (s.AllocArray ty e) = named e
    named (s.Length e) = named e
    named (s.Index a i) = or_else (named a) (named i)
    named (s.Field a x) = named a
    named (s.PointerField a x) = named a
    named (s.Unary op e) = named e
    named (s.Binary op a b) = or_else (named a) (named b)
    named (s.Conditional c a b) = or_else (named c) (or_else (named a) (named b))
    named e = None

    named_arguments : s.Expressions → Option FaultKind
    named_arguments s.none = None
    named_arguments (s.more e rest) = or_else (named e) (named_arguments rest)

  abbrev pub named_specs : List s.Spec → Option FaultKind
  named_specs [] = None
  named_specs (x ∷ rest) = or_else (named (condition_of x)) (named_specs rest)

  abbrev pub named_notes : List (List s.Spec) → Option FaultKind
  named_notes [] = None
  named_notes (x ∷ rest) = or_else (named_specs x) (named_notes rest)

  abbrev named_simple : s.SimpleStatement → Option FaultKind
  named_simple (s.Declare ty x) = None
  named_simple (s.Initialize ty x e) = named e
  named_simple (s.Assign a e) = or_else (named a) (named e)
  named_simple (s.Update a op e) = or_else (named a) (named e)
  named_simple (s.Step a way) = named a
  named_simple (s.Evaluate e) = named e

  abbrev named_part : Option s.SimpleStatement → Option FaultKind
  named_part None = None
  named_part (Some x) = named_simple x

  abbrev mutual
    named_statement : s.Statement → Option FaultKind
    named_statement (s.Simple x) = named_simple x
    named_statement (s.Block rest) = named_statements rest
    named_statement (s.Annotation x) = named_specs x
    named_statement (s.ReturnValue e) = named e
    named_statement (s.If c a) = or_else (named c) (named_statement a)
    named_statement (s.IfElse c a b) = or_else (named c) (or_else (named_statement a) (named_statement b))
    named_statement (s.While c notes a) = or_else (named c) (or_else (named_notes notes) (named_statement a))
    named_statement (s.For first c third notes a) = or_else (named_part first) (or_else (named c) (or_else (named_part third) (or_else (named_notes notes) (named_statement a))))
    named_statement (s.Assert e) = named e
    named_statement (s.Error e) = named e
    named_statement x = None

    pub named_statements : s.Statements → Option FaultKind
    named_statements s.nothing = None
    named_statements (s.also a rest) = or_else (named_statement a) (named_statements rest)

  -- ---- their causes

  name_found : (m : Mention) (span : Span) (kind : FaultKind) → when (test m) told ≡ Some kind → At kind (λ f. (test m ≡ true) × Told told span f)
  name_found m span kind h = let v = when_is (test m) told kind h in (span, (v.0, here told kind span v.1))

  mutual
    pub named_found : (e : ExpressionKind) (span : Span) (kind : FaultKind) → named (expression_of_kind e) ≡ Some kind → At kind (λ f. NamedIn test told f e span)
    named_found (Variable x) span kind h = name_found (OfVariable (name_of x)) x.span kind h
    named_found (Text text) span kind h = name_found (OfText (string_bytes text)) span kind h
    named_found (Parenthesized' p e at) span kind h = named_found e at kind h
    named_found (Call' x shape es) span kind h = elim (either (when (test (OfFunction (name_of x))) told) (named_arguments (row_of es)) kind h) [
      | inl q ↦ (let w = name_found (OfFunction (name_of x)) x.span kind q in (w.0, inl w.1))
      | inr q ↦ (let w = named_row_found es kind q in (w.0, inr w.1))
    ]
    named_found (AllocArray' ty p e at) span kind h = named_found e at kind h
    named_found (Length' p e at) span kind h = named_found e at kind h
    named_found (Index' p a at q i here) span kind h = elim (either (named (expression_of_kind a)) (named (expression_of_kind i)) kind h) [
      | inl z ↦ (let w = named_found a at kind z in (w.0, inl w.1))
      | inr z ↦ (let w = named_found i here kind z in (w.0, inr w.1))
    ]
    named_found (Field' p a at x) span kind h = named_found a at kind h
    named_found (PointerField' p a at x) span kind h = named_found a at kind h
    named_found (Unary' op p e at) span kind h = named_found e at kind h
    named_found (Binary' op p a at q b here) span kind h = elim (either (named (expression_of_kind a)) (named (expression_of_kind b)) kind h) [
      | inl z ↦ (let w = named_found a at kind z in (w.0, inl w.1))
      | inr z ↦ (let w = named_found b here kind z in (w.0, inr w.1))
    ]
    named_found (Conditional' p c at q a here r b there) span kind h = elim (either (named (expression_of_kind c)) _ kind h) [
      | inl z ↦ (let w = named_found c at kind z in (w.0, inl w.1))
      | inr z ↦ elim (either (named (expression_of_kind a)) (named (expression_of_kind b)) kind z) [
        | inl m ↦ (let w = named_found a here kind m in (w.0, inr (inl w.1)))
        | inr m ↦ (let w = named_found b there kind m in (w.0, inr (inr w.1)))
      ]
    ]
    named_found (Number m) span kind h = absurd (cc h)
    named_found (Character c) span kind h = absurd (cc h)
    named_found (Truth b) span kind h = absurd (cc h)
    named_found Null span kind h = absurd (cc h)
    named_found (Alloc ty) span kind h = absurd (cc h)
    named_found Result span kind h = absurd (cc h)

    named_row_found : {m : _} (es : Row_of-Expression m) (kind : FaultKind) → named_arguments (row_of es) ≡ Some kind → At kind (λ f. NamedInRow test told f es)
    named_row_found end_of-Expression kind h = absurd (cc h)
    named_row_found (more_of-Expression e at rest) kind h = elim (either (named (expression_of_kind e)) (named_arguments (row_of rest)) kind h) [
      | inl z ↦ (let w = named_found e at kind z in (w.0, inl w.1))
      | inr z ↦ (let w = named_row_found rest kind z in (w.0, inr w.1))
    ]

  -- an expression with its place
  whole_found : (x : e.Expression) (kind : FaultKind) → named (expression_of x) ≡ Some kind → At kind (λ f. NamedIn test told f x.kind x.span)
  whole_found x kind h = named_found x.kind x.span kind h

  pub named_specs_found : (specs : List p.Spec) (kind : FaultKind) → named_specs (map spec_of specs) ≡ Some kind → At kind (λ f. NamedInSpecs test told f specs)
  named_specs_found [] kind h = absurd (cc h)
  named_specs_found (x ∷ rest) kind h = elim (either (named (condition_of (spec_of x))) (named_specs (map spec_of rest)) kind h) [
    | inl z ↦ (let w = whole_found x.condition kind (subst (λ (c : s.Expression). named c ≡ Some kind) (condition_is x.kind (expression_of x.condition)) z) in (w.0, inl w.1))
    | inr z ↦ (let w = named_specs_found rest kind z in (w.0, inr w.1))
  ]

  pub named_notes_found : (notes : List Annotation) (kind : FaultKind) → named_notes (map annotation_of notes) ≡ Some kind → At kind (λ f. NamedInAnnotations test told f notes)
  named_notes_found [] kind h = absurd (cc h)
  named_notes_found (x ∷ rest) kind h = elim (either (named_specs (annotation_of x)) (named_notes (map annotation_of rest)) kind h) [
    | inl z ↦ (let w = named_specs_found x.specs.items kind z in (w.0, inl w.1))
    | inr z ↦ (let w = named_notes_found rest kind z in (w.0, inr w.1))
  ]

  two_found : (a e : e.Expression) (kind : FaultKind) → or_else (named (expression_of a)) (named (expression_of e)) ≡ Some kind → At kind (λ f. NamedIn test told f a.kind a.span ⊎ NamedIn test told f e.kind e.span)
  two_found a e kind h = elim (either (named (expression_of a)) (named (expression_of e)) kind h) [
    | inl z ↦ (let w = whole_found a kind z in (w.0, inl w.1))
    | inr z ↦ (let w = whole_found e kind z in (w.0, inr w.1))
  ]

  named_simple_found : (x : SimpleKind) (kind : FaultKind) → named_simple (simple_of_kind x) ≡ Some kind → At kind (λ f. NamedInSimple test told f x)
  named_simple_found (d.Declare ty x) kind h = absurd (cc h)
  named_simple_found (d.Initialize ty x e) kind h = whole_found e kind h
  named_simple_found (d.Assign a e) kind h = two_found a e kind h
  named_simple_found (d.Update a op e) kind h = two_found a e kind h
  named_simple_found (d.Step a way) kind h = whole_found a kind h
  named_simple_found (d.Evaluate e) kind h = whole_found e kind h

  named_part_found : (o : Option SimpleStatement) (kind : FaultKind) → named_part (option_map simple_of o) ≡ Some kind → At kind (λ f. NamedInPart test told f o)
  named_part_found None kind h = absurd (cc h)
  named_part_found (Some x) kind h = named_simple_found x.kind kind h

  mutual
    named_statement_found : (x : StatementKind) (kind : FaultKind) → named_statement (statement_of_kind x) ≡ Some kind → At kind (λ f. NamedInStatement test told f x)
    named_statement_found (Simple x) kind h = named_simple_found x.kind kind h
    named_statement_found (Block' shape rest) kind h = named_block_found rest kind h
    named_statement_found (Annotated x) kind h = named_specs_found x.specs.items kind h
    named_statement_found Return kind h = absurd (cc h)
    named_statement_found (ReturnValue e) kind h = whole_found e kind h
    named_statement_found (If' c p a at) kind h = elim (either (named (expression_of c)) (named_statement (statement_of_kind a)) kind h) [
      | inl z ↦ (let w = whole_found c kind z in (w.0, inl w.1))
      | inr z ↦ (let w = named_statement_found a kind z in (w.0, inr w.1))
    ]
    named_statement_found (IfElse' c p a at q b here) kind h = elim (either (named (expression_of c)) _ kind h) [
      | inl z ↦ (let w = whole_found c kind z in (w.0, inl w.1))
      | inr z ↦ elim (either (named_statement (statement_of_kind a)) (named_statement (statement_of_kind b)) kind z) [
        | inl m ↦ (let w = named_statement_found a kind m in (w.0, inr (inl w.1)))
        | inr m ↦ (let w = named_statement_found b kind m in (w.0, inr (inr w.1)))
      ]
    ]
    named_statement_found (While' c notes p a at) kind h = elim (either (named (expression_of c)) _ kind h) [
      | inl z ↦ (let w = whole_found c kind z in (w.0, inl w.1))
      | inr z ↦ elim (either (named_notes (map annotation_of notes.items)) (named_statement (statement_of_kind a)) kind z) [
        | inl m ↦ (let w = named_notes_found notes.items kind m in (w.0, inr (inl w.1)))
        | inr m ↦ (let w = named_statement_found a kind m in (w.0, inr (inr w.1)))
      ]
    ]
    named_statement_found (For' first c third notes p a at) kind h = elim (either (named_part (option_map simple_of first)) _ kind h) [
      | inl z ↦ (let w = named_part_found first kind z in (w.0, inl w.1))
      | inr z ↦ elim (either (named (expression_of c)) _ kind z) [
        | inl m ↦ (let w = whole_found c kind m in (w.0, inr (inl w.1)))
        | inr m ↦ elim (either (named_part (option_map simple_of third)) _ kind m) [
          | inl r ↦ (let w = named_part_found third kind r in (w.0, inr (inr (inl w.1))))
          | inr r ↦ elim (either (named_notes (map annotation_of notes.items)) (named_statement (statement_of_kind a)) kind r) [
            | inl v ↦ (let w = named_notes_found notes.items kind v in (w.0, inr (inr (inr (inl w.1)))))
            | inr v ↦ (let w = named_statement_found a kind v in (w.0, inr (inr (inr (inr w.1)))))
          ]
        ]
      ]
    ]
    named_statement_found (Assert e) kind h = whole_found e kind h
    named_statement_found (Error e) kind h = whole_found e kind h
    named_statement_found Break kind h = absurd (cc h)
    named_statement_found Continue kind h = absurd (cc h)

    named_block_found : {m : _} (rest : Row_of-Statement m) (kind : FaultKind) → named_statements (statement_row rest) ≡ Some kind → At kind (λ f. NamedInBlock test told f rest)
    named_block_found end_of-Statement kind h = absurd (cc h)
    named_block_found (more_of-Statement a at rest) kind h = elim (either (named_statement (statement_of_kind a)) (named_statements (statement_row rest)) kind h) [
      | inl z ↦ (let w = named_statement_found a kind z in (w.0, inl w.1))
      | inr z ↦ (let w = named_block_found rest kind z in (w.0, inr w.1))
    ]

  pub named_body_found : (body : List a.Statement) (kind : FaultKind) → named_statements (statements_of body) ≡ Some kind → At kind (λ f. NamedInBody test told f body)
  named_body_found [] kind h = absurd (cc h)
  named_body_found (x ∷ rest) kind h = elim (either (named_statement (statement_of x)) (named_statements (statements_of rest)) kind h) [
    | inl z ↦ (let w = named_statement_found x.kind kind z in (w.0, inl w.1))
    | inr z ↦ (let w = named_body_found rest kind z in (w.0, inr w.1))
  ]
