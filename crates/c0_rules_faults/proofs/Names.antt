-- What stands at a name or a text is among the mentions.
use Rattle.std.proofs.Common.{◌≡◌, inl, inr, List, [], ◌∷◌, ◌++◌, refl, sym, ap, ◌∙◌, subst, append_assoc, Bool, true, Option, Some, None}
use Rattle.std.specs.Prelude.{map, option_map}
use Rattle.std.specs.List.{list_any}
use Rattle.c0_source.specs.declared.fault.Fault.{Fault}
use Rattle.c0_source.specs.declared.fault.FaultKind.{FaultKind}
use Rattle.c0_source.specs.declared.fault.Span.{Span}
use Rattle.c0_syntax.specs.declared.expression.ExpressionKind.{ExpressionKind, Row_of-Expression, end_of-Expression, more_of-Expression, Text, Variable, Parenthesized', Call', AllocArray', Length', Index', Field', PointerField', Unary', Binary', Conditional'}
use Rattle.c0_syntax.specs.declared.statement.Spec as p
use Rattle.c0_syntax.specs.declared.statement.Annotation.{Annotation}
use Rattle.c0_syntax.specs.declared.statement.SimpleStatement.{SimpleStatement}
use Rattle.c0_syntax.specs.declared.statement.SimpleKind.{SimpleKind}
use Rattle.c0_syntax.specs.declared.statement.SimpleKind.TheVariants as d
use Rattle.c0_syntax.specs.declared.statement.Statement as a
use Rattle.c0_syntax.specs.declared.statement.StatementKind.{StatementKind, Row_of-Statement, end_of-Statement, more_of-Statement, Simple, Block', Annotated, ReturnValue, If', IfElse', While', For', Assert, Error}
use Rattle.c0_syntax.specs.Trees as tree
use Rattle.c0_syntax.specs.Views.{expression_of, expression_of_kind, row_of, spec_of, annotation_of, simple_of, simple_of_kind, statement_of_kind, statement_row, statements_of}
use Rattle.c0_rules.specs.Mentions.{Mention, mentions, argument_mentions, condition_of, spec_mentions, specs_in, simple_mentions, part_mentions, statement_mentions, statements_mentions}
use Rattle.c0_rules.specs.FaultPaths.{NamedIn, NamedInRow, NamedInSpecs, NamedInAnnotations, NamedInSimple, NamedInPart, NamedInStatement, NamedInBlock, NamedInBody}
use Rattle.c0_rules_faults.proofs.Tests.{true_or, or_true, any_front, any_back}
use Rattle.c0_rules_faults.proofs.Specs.{spec_condition}

pub mentions_append : (xs ys : List tree.Spec) → spec_mentions (xs ++ ys) ≡ spec_mentions xs ++ spec_mentions ys
mentions_append [] ys = refl
mentions_append (x ∷ xs) ys = ap (λ z. mentions (condition_of x) ++ z) (mentions_append xs ys) ∙ sym (append_assoc (mentions (condition_of x)) (spec_mentions xs) (spec_mentions ys))

module _ (test : Mention → Bool) (kind : FaultKind) (fault : Fault) where
  mutual
    pub named : (e : ExpressionKind) (span : Span) → NamedIn test kind fault e span → list_any test (mentions (expression_of_kind e)) ≡ true
    named (Variable x) span h = true_or _ _ h.0
    named (Text text) span h = true_or _ _ h.0
    named (Parenthesized' p e at) span h = named e at h
    named (Call' x shape es) span (inl h) = true_or _ _ h.0
    named (Call' x shape es) span (inr h) = or_true _ _ (named_row es h)
    named (AllocArray' ty p e at) span h = named e at h
    named (Length' p e at) span h = named e at h
    named (Index' p a at q i here) span (inl h) = any_front test (mentions (expression_of_kind a)) _ (named a at h)
    named (Index' p a at q i here) span (inr h) = any_back test (mentions (expression_of_kind a)) _ (named i here h)
    named (Field' p a at x) span h = named a at h
    named (PointerField' p a at x) span h = named a at h
    named (Unary' op p e at) span h = named e at h
    named (Binary' op p a at q b here) span (inl h) = any_front test (mentions (expression_of_kind a)) _ (named a at h)
    named (Binary' op p a at q b here) span (inr h) = any_back test (mentions (expression_of_kind a)) _ (named b here h)
    named (Conditional' p c at q a here r b there) span (inl h) =
        any_front test (mentions (expression_of_kind c) ++ mentions (expression_of_kind a)) _ (any_front test (mentions (expression_of_kind c)) _ (named c at h))
    named (Conditional' p c at q a here r b there) span (inr (inl h)) =
        any_front test (mentions (expression_of_kind c) ++ mentions (expression_of_kind a)) _ (any_back test (mentions (expression_of_kind c)) _ (named a here h))
    named (Conditional' p c at q a here r b there) span (inr (inr h)) =
        any_back test (mentions (expression_of_kind c) ++ mentions (expression_of_kind a)) _ (named b there h)
    named _ span h = absurd h

    named_row : {m : _} (es : Row_of-Expression m) → NamedInRow test kind fault es → list_any test (argument_mentions (row_of es)) ≡ true
    named_row end_of-Expression h = absurd h
    named_row (more_of-Expression e at rest) (inl h) = any_front test (mentions (expression_of_kind e)) _ (named e at h)
    named_row (more_of-Expression e at rest) (inr h) = any_back test (mentions (expression_of_kind e)) _ (named_row rest h)

  -- a spec names what its condition does
  pub named_spec : (x : p.Spec) → NamedIn test kind fault x.condition.kind x.condition.span → list_any test (mentions (condition_of (spec_of x))) ≡ true
  named_spec x h = subst (λ e. list_any test (mentions e) ≡ true) (sym (spec_condition x)) (named x.condition.kind x.condition.span h)

  named_specs : (xs : List p.Spec) → NamedInSpecs test kind fault xs → list_any test (spec_mentions (map spec_of xs)) ≡ true
  named_specs [] h = absurd h
  named_specs (x ∷ rest) (inl h) = any_front test (mentions (condition_of (spec_of x))) _ (named_spec x h)
  named_specs (x ∷ rest) (inr h) = any_back test (mentions (condition_of (spec_of x))) _ (named_specs rest h)

  pub named_annotations : (xs : List Annotation) → NamedInAnnotations test kind fault xs → list_any test (spec_mentions (specs_in (map annotation_of xs))) ≡ true
  named_annotations [] h = absurd h
  named_annotations (x ∷ rest) (inl h) =
      subst (λ ms. list_any test ms ≡ true) (sym (mentions_append (annotation_of x) (specs_in (map annotation_of rest)))) (any_front test (spec_mentions (annotation_of x)) _ (named_specs x.specs.items h))
  named_annotations (x ∷ rest) (inr h) =
      subst (λ ms. list_any test ms ≡ true) (sym (mentions_append (annotation_of x) (specs_in (map annotation_of rest)))) (any_back test (spec_mentions (annotation_of x)) _ (named_annotations rest h))

  named_simple : (x : SimpleKind) → NamedInSimple test kind fault x → list_any test (simple_mentions (simple_of_kind x)) ≡ true
  named_simple (d.Declare ty x) h = absurd h
  named_simple (d.Initialize ty x e) h = named e.kind e.span h
  named_simple (d.Assign a e) (inl h) = any_front test (mentions (expression_of a)) _ (named a.kind a.span h)
  named_simple (d.Assign a e) (inr h) = any_back test (mentions (expression_of a)) _ (named e.kind e.span h)
  named_simple (d.Update a op e) (inl h) = any_front test (mentions (expression_of a)) _ (named a.kind a.span h)
  named_simple (d.Update a op e) (inr h) = any_back test (mentions (expression_of a)) _ (named e.kind e.span h)
  named_simple (d.Step a way) h = named a.kind a.span h
  named_simple (d.Evaluate e) h = named e.kind e.span h

  named_part : (x : Option SimpleStatement) → NamedInPart test kind fault x → list_any test (part_mentions (option_map simple_of x)) ≡ true
  named_part None h = absurd h
  named_part (Some x) h = named_simple x.kind h

  mutual
    named_statement : (x : StatementKind) → NamedInStatement test kind fault x → list_any test (statement_mentions (statement_of_kind x)) ≡ true
    named_statement (Simple x) h = named_simple x.kind h
    named_statement (Block' shape rest) h = named_block rest h
    named_statement (Annotated x) h = named_specs x.specs.items h
    named_statement (ReturnValue e) h = named e.kind e.span h
    named_statement (If' c p a at) (inl h) = any_front test (mentions (expression_of c)) _ (named c.kind c.span h)
    named_statement (If' c p a at) (inr h) = any_back test (mentions (expression_of c)) _ (named_statement a h)
    named_statement (IfElse' c p a at q b here) (inl h) =
        any_front test (mentions (expression_of c) ++ statement_mentions (statement_of_kind a)) _ (any_front test (mentions (expression_of c)) _ (named c.kind c.span h))
    named_statement (IfElse' c p a at q b here) (inr (inl h)) =
        any_front test (mentions (expression_of c) ++ statement_mentions (statement_of_kind a)) _ (any_back test (mentions (expression_of c)) _ (named_statement a h))
    named_statement (IfElse' c p a at q b here) (inr (inr h)) =
        any_back test (mentions (expression_of c) ++ statement_mentions (statement_of_kind a)) _ (named_statement b h)
    named_statement (While' c notes p a at) (inl h) =
        any_front test (mentions (expression_of c) ++ spec_mentions (specs_in (map annotation_of notes.items))) _ (any_front test (mentions (expression_of c)) _ (named c.kind c.span h))
    named_statement (While' c notes p a at) (inr (inl h)) =
        any_front test (mentions (expression_of c) ++ spec_mentions (specs_in (map annotation_of notes.items))) _ (any_back test (mentions (expression_of c)) _ (named_annotations notes.items h))
    named_statement (While' c notes p a at) (inr (inr h)) =
        any_back test (mentions (expression_of c) ++ spec_mentions (specs_in (map annotation_of notes.items))) _ (named_statement a h)
    named_statement (For' first c third notes p a at) (inl h) =
        any_front test (part_mentions (option_map simple_of first) ++ mentions (expression_of c) ++ part_mentions (option_map simple_of third) ++ spec_mentions (specs_in (map annotation_of notes.items))) _
        (any_front test (part_mentions (option_map simple_of first) ++ mentions (expression_of c) ++ part_mentions (option_map simple_of third)) _
        (any_front test (part_mentions (option_map simple_of first) ++ mentions (expression_of c)) _ (any_front test (part_mentions (option_map simple_of first)) _ (named_part first h))))
    named_statement (For' first c third notes p a at) (inr (inl h)) =
        any_front test (part_mentions (option_map simple_of first) ++ mentions (expression_of c) ++ part_mentions (option_map simple_of third) ++ spec_mentions (specs_in (map annotation_of notes.items))) _
        (any_front test (part_mentions (option_map simple_of first) ++ mentions (expression_of c) ++ part_mentions (option_map simple_of third)) _
        (any_front test (part_mentions (option_map simple_of first) ++ mentions (expression_of c)) _ (any_back test (part_mentions (option_map simple_of first)) _ (named c.kind c.span h))))
    named_statement (For' first c third notes p a at) (inr (inr (inl h))) =
        any_front test (part_mentions (option_map simple_of first) ++ mentions (expression_of c) ++ part_mentions (option_map simple_of third) ++ spec_mentions (specs_in (map annotation_of notes.items))) _
        (any_front test (part_mentions (option_map simple_of first) ++ mentions (expression_of c) ++ part_mentions (option_map simple_of third)) _
        (any_back test (part_mentions (option_map simple_of first) ++ mentions (expression_of c)) _ (named_part third h)))
    named_statement (For' first c third notes p a at) (inr (inr (inr (inl h)))) =
        any_front test (part_mentions (option_map simple_of first) ++ mentions (expression_of c) ++ part_mentions (option_map simple_of third) ++ spec_mentions (specs_in (map annotation_of notes.items))) _
        (any_back test (part_mentions (option_map simple_of first) ++ mentions (expression_of c) ++ part_mentions (option_map simple_of third)) _ (named_annotations notes.items h))
    named_statement (For' first c third notes p a at) (inr (inr (inr (inr h)))) =
        any_back test (part_mentions (option_map simple_of first) ++ mentions (expression_of c) ++ part_mentions (option_map simple_of third) ++ spec_mentions (specs_in (map annotation_of notes.items))) _
        (named_statement a h)
    named_statement (Assert e) h = named e.kind e.span h
    named_statement (Error e) h = named e.kind e.span h
    named_statement _ h = absurd h

    named_block : {m : _} (xs : Row_of-Statement m) → NamedInBlock test kind fault xs → list_any test (statements_mentions (statement_row xs)) ≡ true
    named_block end_of-Statement h = absurd h
    named_block (more_of-Statement x at rest) (inl h) = any_front test (statement_mentions (statement_of_kind x)) _ (named_statement x h)
    named_block (more_of-Statement x at rest) (inr h) = any_back test (statement_mentions (statement_of_kind x)) _ (named_block rest h)

  pub named_body : (xs : List a.Statement) → NamedInBody test kind fault xs → list_any test (statements_mentions (statements_of xs)) ≡ true
  named_body [] h = absurd h
  named_body (x ∷ rest) (inl h) = any_front test (statement_mentions (statement_of_kind x.kind)) _ (named_statement x.kind h)
  named_body (x ∷ rest) (inr h) = any_back test (statement_mentions (statement_of_kind x.kind)) _ (named_body rest h)
