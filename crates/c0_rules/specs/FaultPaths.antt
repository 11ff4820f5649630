-- What is wrong with a name or a text where it stands, once types are right: a local that is not assigned, an assigned
-- parameter in `ensures`, a function without a definition, a text beyond ASCII.
use Rattle.std.specs.Prelude.{◌≡◌, ◌⊎◌, Bool, true, false, List, [], ◌∷◌, Option, Some, None, option_map}
use Rattle.std.specs.String.{string_bytes}
use Rattle.c0_source.specs.declared.fault.Fault.{Fault}
use Rattle.c0_source.specs.declared.fault.FaultKind.{FaultKind}
use Rattle.c0_source.specs.declared.fault.FaultKind.TheVariants as k
use Rattle.c0_source.specs.declared.fault.Span.{Span}
use Rattle.c0_syntax.specs.declared.expression.Expression as e
use Rattle.c0_syntax.specs.declared.expression.ExpressionKind.{ExpressionKind, Row_of-Expression, end_of-Expression, more_of-Expression, Text, Variable, Parenthesized', Call', AllocArray', Length', Index', Field', PointerField', Unary', Binary', Conditional'}
use Rattle.c0_syntax.specs.declared.statement.Spec as p
use Rattle.c0_syntax.specs.declared.statement.Annotation.{Annotation}
use Rattle.c0_syntax.specs.declared.statement.SimpleStatement.{SimpleStatement}
use Rattle.c0_syntax.specs.declared.statement.SimpleKind.{SimpleKind}
use Rattle.c0_syntax.specs.declared.statement.SimpleKind.TheVariants as d
use Rattle.c0_syntax.specs.declared.statement.Statement as a
use Rattle.c0_syntax.specs.declared.statement.StatementKind.{StatementKind, Row_of-Statement, end_of-Statement, more_of-Statement, Simple, Block', Annotated, ReturnValue, If', IfElse', While', For', Assert, Error}
use Rattle.c0_syntax.specs.Views.{name_of, expression_of, simple_of, statement_of, statement_of_kind}
use Rattle.c0_rules.specs.Types.{is_among}
use Rattle.c0_rules.specs.Mentions.{Mention, OfVariable, OfFunction, OfText, as_variable}
use Rattle.c0_rules.specs.Assignment.{Flow, Reached, after_body, flow_of_part, flow_of_statement}
use Rattle.c0_rules.specs.FaultExpressions.{Told}

-- ---- names in expressions

module _ (test : Mention → Bool) (kind : FaultKind) (fault : Fault) where
  -- the fault stands at a name or a text of this sort
  abbrev pub AtName : Mention → Span → Type 0
  AtName m span = (test m ≡ true) × Told kind span fault

  abbrev mutual
    -- ... somewhere in this expression
    pub NamedIn : ExpressionKind → Span → Type 0
    NamedIn (Variable x) span = AtName (OfVariable (name_of x)) x.span
    NamedIn (Text text) span = AtName (OfText (string_bytes text)) span
    NamedIn (Parenthesized' p e at) span = NamedIn e at
    NamedIn (Call' x shape es) span = AtName (OfFunction (name_of x)) x.span ⊎ NamedInRow es
    NamedIn (AllocArray' ty p e at) span = NamedIn e at
    NamedIn (Length' p e at) span = NamedIn e at
    NamedIn (Index' p a at q i here) span = NamedIn a at ⊎ NamedIn i here
    NamedIn (Field' p a at x) span = NamedIn a at
    NamedIn (PointerField' p a at x) span = NamedIn a at
    NamedIn (Unary' op p e at) span = NamedIn e at
    NamedIn (Binary' op p a at q b here) span = NamedIn a at ⊎ NamedIn b here
    NamedIn (Conditional' p c at q a here r b there) span = NamedIn c at ⊎ NamedIn a here ⊎ NamedIn b there
    NamedIn _ span = ⊥

    -- ... in one of these arguments
    pub NamedInRow : {m : _} → Row_of-Expression m → Type 0
    NamedInRow end_of-Expression = ⊥
    NamedInRow (more_of-Expression e at rest) = NamedIn e at ⊎ NamedInRow rest

  -- ... in one of these specs
  abbrev pub NamedInSpecs : List p.Spec → Type 0
  NamedInSpecs [] = ⊥
  NamedInSpecs (x ∷ rest) = NamedIn x.condition.kind x.condition.span ⊎ NamedInSpecs rest

  -- ... in one of these annotations
  abbrev pub NamedInAnnotations : List Annotation → Type 0
  NamedInAnnotations [] = ⊥
  NamedInAnnotations (x ∷ rest) = NamedInSpecs x.specs.items ⊎ NamedInAnnotations rest

  -- ... in a simple statement
  abbrev pub NamedInSimple : SimpleKind → Type 0
  NamedInSimple (d.Declare ty x) = ⊥
  NamedInSimple (d.Initialize ty x e) = NamedIn e.kind e.span
  NamedInSimple (d.Assign a e) = NamedIn a.kind a.span ⊎ NamedIn e.kind e.span
  NamedInSimple (d.Update a op e) = NamedIn a.kind a.span ⊎ NamedIn e.kind e.span
  NamedInSimple (d.Step a way) = NamedIn a.kind a.span
  NamedInSimple (d.Evaluate e) = NamedIn e.kind e.span

  -- ... in a part of a `for`
  abbrev pub NamedInPart : Option SimpleStatement → Type 0
  NamedInPart None = ⊥
  NamedInPart (Some x) = NamedInSimple x.kind

  abbrev mutual
    -- ... in a statement
    pub NamedInStatement : StatementKind → Type 0
    NamedInStatement (Simple x) = NamedInSimple x.kind
    NamedInStatement (Block' shape rest) = NamedInBlock rest
    NamedInStatement (Annotated x) = NamedInSpecs x.specs.items
    NamedInStatement (ReturnValue e) = NamedIn e.kind e.span
    NamedInStatement (If' c p a at) = NamedIn c.kind c.span ⊎ NamedInStatement a
    NamedInStatement (IfElse' c p a at q b here) = NamedIn c.kind c.span ⊎ NamedInStatement a ⊎ NamedInStatement b
    NamedInStatement (While' c notes p a at) = NamedIn c.kind c.span ⊎ NamedInAnnotations notes.items ⊎ NamedInStatement a
    NamedInStatement (For' first c third notes p a at) = NamedInPart first ⊎ NamedIn c.kind c.span ⊎ NamedInPart third ⊎ NamedInAnnotations notes.items ⊎ NamedInStatement a
    NamedInStatement (Assert e) = NamedIn e.kind e.span
    NamedInStatement (Error e) = NamedIn e.kind e.span
    NamedInStatement _ = ⊥

    -- ... in a block
    pub NamedInBlock : {m : _} → Row_of-Statement m → Type 0
    NamedInBlock end_of-Statement = ⊥
    NamedInBlock (more_of-Statement a at rest) = NamedInStatement a ⊎ NamedInBlock rest

  -- ... in a body
  abbrev pub NamedInBody : List a.Statement → Type 0
  NamedInBody [] = ⊥
  NamedInBody (x ∷ rest) = NamedInStatement x.kind ⊎ NamedInBody rest

-- ---- locals that are not assigned

-- whether a name is that of a local that some path has not assigned
abbrev pub is_unassigned : Flow → Mention → Bool
is_unassigned (Reached names) (OfVariable x) = is_among x names
is_unassigned _ _ = false

module _ (fault : Fault) where
  -- an expression reads a local that is not assigned
  abbrev pub ReadIn : Flow → e.Expression → Type 0
  ReadIn flow x = NamedIn (is_unassigned flow) k.NotAssigned fault x.kind x.span

  -- one of these specs does
  abbrev pub ReadInSpecs : Flow → List p.Spec → Type 0
  ReadInSpecs flow specs = NamedInSpecs (is_unassigned flow) k.NotAssigned fault specs

  -- one of these annotations does
  abbrev pub ReadInAnnotations : Flow → List Annotation → Type 0
  ReadInAnnotations flow notes = NamedInAnnotations (is_unassigned flow) k.NotAssigned fault notes

  -- a destination does; a local that is given a value is not read
  abbrev pub ReadInDestination : Flow → e.Expression → Type 0
  ReadInDestination flow x = elim (as_variable (expression_of x)) as (λ o. Type 0) [ None ↦ ReadIn flow x | Some v ↦ ⊥ ]

  -- a simple statement does
  abbrev pub ReadInSimple : Flow → SimpleKind → Type 0
  ReadInSimple flow (d.Declare ty x) = ⊥
  ReadInSimple flow (d.Initialize ty x e) = ReadIn flow e
  ReadInSimple flow (d.Assign a e) = ReadInDestination flow a ⊎ ReadIn flow e
  ReadInSimple flow (d.Update a op e) = ReadIn flow a ⊎ ReadIn flow e
  ReadInSimple flow (d.Step a way) = ReadIn flow a
  ReadInSimple flow (d.Evaluate e) = ReadIn flow e

  -- a part of a `for` does
  abbrev pub ReadInPart : Flow → Option SimpleStatement → Type 0
  ReadInPart flow None = ⊥
  ReadInPart flow (Some x) = ReadInSimple flow x.kind

  abbrev mutual
    -- A statement does, by what is assigned before it. The third part of a `for` sees what its body assigns, whatever that reads.
    pub ReadInStatement : Flow → StatementKind → Type 0
    ReadInStatement flow (Simple x) = ReadInSimple flow x.kind
    ReadInStatement flow (Block' shape rest) = ReadInBlock flow rest
    ReadInStatement flow (Annotated x) = ReadInSpecs flow x.specs.items
    ReadInStatement flow (ReturnValue e) = ReadIn flow e
    ReadInStatement flow (If' c p a at) = ReadIn flow c ⊎ ReadInStatement flow a
    ReadInStatement flow (IfElse' c p a at q b here) = ReadIn flow c ⊎ ReadInStatement flow a ⊎ ReadInStatement flow b
    ReadInStatement flow (While' c notes p a at) = ReadIn flow c ⊎ ReadInAnnotations flow notes.items ⊎ ReadInStatement flow a
    ReadInStatement flow (For' first c third notes p a at) =
        ReadInPart flow first
        ⊎ ((g : Flow) × (flow_of_part (option_map simple_of first) flow ≡ Some g)
        × (ReadIn g c ⊎ ReadInPart (after_body (statement_of_kind a) g) third ⊎ ReadInAnnotations g notes.items ⊎ ReadInStatement g a))
    ReadInStatement flow (Assert e) = ReadIn flow e
    ReadInStatement flow (Error e) = ReadIn flow e
    ReadInStatement flow _ = ⊥

    -- a block does
    pub ReadInBlock : {m : _} → Flow → Row_of-Statement m → Type 0
    ReadInBlock flow end_of-Statement = ⊥
    ReadInBlock flow (more_of-Statement a at rest) = ReadInStatement flow a ⊎ ((g : Flow) × (flow_of_statement (statement_of_kind a) flow ≡ Some g) × ReadInBlock g rest)

  -- a body does
  abbrev pub ReadInBody : Flow → List a.Statement → Type 0
  ReadInBody flow [] = ⊥
  ReadInBody flow (x ∷ rest) = ReadInStatement flow x.kind ⊎ ((g : Flow) × (flow_of_statement (statement_of x) flow ≡ Some g) × ReadInBody g rest)
