-- Where a mention is of a sort, a name or a text of that sort stands somewhere.
use Rattle.std.proofs.Common.{◌≡◌, ◌⊎◌, inl, inr, List, [], ◌∷◌, ◌++◌, refl, subst, Bool, true, false, Option, Some, None}
use Rattle.std.specs.Prelude.{◌&&◌, ◌||◌, map, option_map, filter_map}
use Rattle.std.specs.List.{list_all, list_any}
use Rattle.c0_source.specs.declared.fault.FaultKind.{FaultKind}
use Rattle.c0_source.specs.declared.fault.Span.{Span}
use Rattle.c0_syntax.specs.declared.expression.ExpressionKind.{ExpressionKind, Row_of-Expression, end_of-Expression, more_of-Expression, Text, Variable, Parenthesized', Call', AllocArray', Length', Index', Field', PointerField', Unary', Binary', Conditional'}
use Rattle.c0_syntax.specs.declared.statement.Spec as p
use Rattle.c0_syntax.specs.declared.statement.Annotation.{Annotation}
use Rattle.c0_syntax.specs.declared.statement.SimpleStatement.{SimpleStatement}
use Rattle.c0_syntax.specs.declared.statement.SimpleKind.{SimpleKind}
use Rattle.c0_syntax.specs.declared.statement.SimpleKind.TheVariants as d
use Rattle.c0_syntax.specs.declared.statement.Statement as a
use Rattle.c0_syntax.specs.declared.statement.StatementKind.{StatementKind, Row_of-Statement, end_of-Statement, more_of-Statement, Simple, Block', Annotated, ReturnValue, If', IfElse', While', For', Assert, Error}
use Rattle.c0_syntax.specs.Views.{expression_of, expression_of_kind, row_of, spec_of, annotation_of, simple_of, simple_of_kind, statement_of_kind, statement_row, statements_of}
use Rattle.c0_rules.specs.Types.{Name}
use Rattle.c0_rules.specs.Mentions.{Mention, OfVariable, OfFunction, OfText, mentions, argument_mentions, condition_of, spec_mentions, specs_in, simple_mentions, part_mentions, statement_mentions, statements_mentions, variable_of, function_of, text_of}
use Rattle.c0_rules.specs.FaultPaths.{NamedIn, NamedInRow, NamedInSpecs, NamedInAnnotations, NamedInSimple, NamedInPart, NamedInStatement, NamedInBlock, NamedInBody}
use Rattle.c0_rules_faults.proofs.Causes.{Caused, told, split_and}
use Rattle.c0_rules_faults.proofs.Names.{mentions_append}
use Rattle.c0_rules_faults.proofs.Specs.{spec_condition}
use Rattle.c0_rules_faults.proofs.Tests.{true_or, or_true, one_is}

pub any_split : {A : Type 0} (test : A → Bool) (xs ys : List A) → list_any test (xs ++ ys) ≡ true → (list_any test xs ≡ true) ⊎ (list_any test ys ≡ true)
any_split test [] ys h = inr h
any_split test (x ∷ xs) ys h = elim (one_is (test x) (list_any test (xs ++ ys)) h) [
  | inl q ↦ inl (true_or (test x) _ q)
  | inr q ↦ elim (any_split test xs ys q) [ inl w ↦ inl (or_true (test x) _ w) | inr w ↦ inr w ]
]

pub all_split : {A : Type 0} (test : A → Bool) (xs ys : List A) → list_all test (xs ++ ys) ≡ false → (list_all test xs ≡ false) ⊎ (list_all test ys ≡ false)
all_split test [] ys h = inr h
all_split test (x ∷ xs) ys h = by (test x) (all_split test xs ys) h
  where
    by : (b : Bool) → (list_all test (xs ++ ys) ≡ false → (list_all test xs ≡ false) ⊎ (list_all test ys ≡ false)) → (b && list_all test (xs ++ ys)) ≡ false → ((b && list_all test xs) ≡ false) ⊎ (list_all test ys ≡ false)
    by true go q = go q
    by false go q = inl refl

one_of : (a : Bool) → (a || false) ≡ true → a ≡ true
one_of true h = refl
one_of false h = absurd (cc h)

-- ---- of one sort

pub variable_mentioned : (test : Mention → Bool) (is : Name → Bool) → ((x : Name) → is x ≡ true → test (OfVariable x) ≡ true) → (ms : List Mention) → list_any is (filter_map variable_of ms) ≡ true → list_any test ms ≡ true
variable_mentioned test is v [] h = absurd (cc h)
variable_mentioned test is v (OfVariable x ∷ ms) h = elim (one_is (is x) (list_any is (filter_map variable_of ms)) h) [
  | inl q ↦ true_or (test (OfVariable x)) _ (v x q)
  | inr q ↦ or_true (test (OfVariable x)) _ (variable_mentioned test is v ms q)
]
variable_mentioned test is v (OfFunction x ∷ ms) h = or_true (test (OfFunction x)) _ (variable_mentioned test is v ms h)
variable_mentioned test is v (OfText x ∷ ms) h = or_true (test (OfText x)) _ (variable_mentioned test is v ms h)

pub function_mentioned : (test : Mention → Bool) (is : Name → Bool) → ((x : Name) → is x ≡ false → test (OfFunction x) ≡ true) → (ms : List Mention) → list_all is (filter_map function_of ms) ≡ false → list_any test ms ≡ true
function_mentioned test is f [] h = absurd (cc h)
function_mentioned test is f (OfFunction x ∷ ms) h = elim (split_and (is x) (list_all is (filter_map function_of ms)) h) [
  | inl q ↦ true_or (test (OfFunction x)) _ (f x q)
  | inr q ↦ or_true (test (OfFunction x)) _ (function_mentioned test is f ms q)
]
function_mentioned test is f (OfVariable x ∷ ms) h = or_true (test (OfVariable x)) _ (function_mentioned test is f ms h)
function_mentioned test is f (OfText x ∷ ms) h = or_true (test (OfText x)) _ (function_mentioned test is f ms h)

pub text_mentioned : (test : Mention → Bool) (is : Name → Bool) → ((x : Name) → is x ≡ false → test (OfText x) ≡ true) → (ms : List Mention) → list_all is (filter_map text_of ms) ≡ false → list_any test ms ≡ true
text_mentioned test is t [] h = absurd (cc h)
text_mentioned test is t (OfText x ∷ ms) h = elim (split_and (is x) (list_all is (filter_map text_of ms)) h) [
  | inl q ↦ true_or (test (OfText x)) _ (t x q)
  | inr q ↦ or_true (test (OfText x)) _ (text_mentioned test is t ms q)
]
text_mentioned test is t (OfVariable x ∷ ms) h = or_true (test (OfVariable x)) _ (text_mentioned test is t ms h)
text_mentioned test is t (OfFunction x ∷ ms) h = or_true (test (OfFunction x)) _ (text_mentioned test is t ms h)

-- ---- where they stand

module _ (test : Mention → Bool) (kind : FaultKind) where
  mutual
    pub named_cause : (e : ExpressionKind) (span : Span) → list_any test (mentions (expression_of_kind e)) ≡ true → Caused (λ f. NamedIn test kind f e span)
    named_cause (Variable x) span h = let f = told kind x.span in (f.0, (one_of _ h, f.1))
    named_cause (Text text) span h = let f = told kind span in (f.0, (one_of _ h, f.1))
    named_cause (Parenthesized' p e at) span h = named_cause e at h
    named_cause (Call' x shape es) span h = elim (one_is _ _ h) [ inl q ↦ (let f = told kind x.span in (f.0, inl (q, f.1))) | inr q ↦ (let f = named_row es q in (f.0, inr f.1)) ]
    named_cause (AllocArray' ty p e at) span h = named_cause e at h
    named_cause (Length' p e at) span h = named_cause e at h
    named_cause (Index' p a at q i here) span h =
        elim (any_split test (mentions (expression_of_kind a)) (mentions (expression_of_kind i)) h) [ inl w ↦ (let f = named_cause a at w in (f.0, inl f.1)) | inr w ↦ (let f = named_cause i here w in (f.0, inr f.1)) ]
    named_cause (Field' p a at x) span h = named_cause a at h
    named_cause (PointerField' p a at x) span h = named_cause a at h
    named_cause (Unary' op p e at) span h = named_cause e at h
    named_cause (Binary' op p a at q b here) span h =
        elim (any_split test (mentions (expression_of_kind a)) (mentions (expression_of_kind b)) h) [ inl w ↦ (let f = named_cause a at w in (f.0, inl f.1)) | inr w ↦ (let f = named_cause b here w in (f.0, inr f.1)) ]
    named_cause (Conditional' p c at q a here r b there) span h =
        elim (any_split test (mentions (expression_of_kind c) ++ mentions (expression_of_kind a)) (mentions (expression_of_kind b)) h) [
          | inl w ↦ elim (any_split test (mentions (expression_of_kind c)) (mentions (expression_of_kind a)) w) [ inl z ↦ (let f = named_cause c at z in (f.0, inl f.1)) | inr z ↦ (let f = named_cause a here z in (f.0, inr (inl f.1))) ]
          | inr w ↦ (let f = named_cause b there w in (f.0, inr (inr f.1)))
        ]
    named_cause _ span h = absurd (cc h)

    named_row : {m : _} (es : Row_of-Expression m) → list_any test (argument_mentions (row_of es)) ≡ true → Caused (λ f. NamedInRow test kind f es)
    named_row end_of-Expression h = absurd (cc h)
    named_row (more_of-Expression e at rest) h =
        elim (any_split test (mentions (expression_of_kind e)) (argument_mentions (row_of rest)) h) [ inl w ↦ (let f = named_cause e at w in (f.0, inl f.1)) | inr w ↦ (let f = named_row rest w in (f.0, inr f.1)) ]

  pub spec_named : (x : p.Spec) → list_any test (mentions (condition_of (spec_of x))) ≡ true → Caused (λ f. NamedIn test kind f x.condition.kind x.condition.span)
  spec_named x h = named_cause x.condition.kind x.condition.span (subst (λ e. list_any test (mentions e) ≡ true) (spec_condition x) h)

  specs_named : (xs : List p.Spec) → list_any test (spec_mentions (map spec_of xs)) ≡ true → Caused (λ f. NamedInSpecs test kind f xs)
  specs_named [] h = absurd (cc h)
  specs_named (x ∷ rest) h =
      elim (any_split test (mentions (condition_of (spec_of x))) (spec_mentions (map spec_of rest)) h) [ inl w ↦ (let f = spec_named x w in (f.0, inl f.1)) | inr w ↦ (let f = specs_named rest w in (f.0, inr f.1)) ]

  pub annotations_named : (xs : List Annotation) → list_any test (spec_mentions (specs_in (map annotation_of xs))) ≡ true → Caused (λ f. NamedInAnnotations test kind f xs)
  annotations_named [] h = absurd (cc h)
  annotations_named (x ∷ rest) h =
      elim (any_split test (spec_mentions (annotation_of x)) (spec_mentions (specs_in (map annotation_of rest)))
      (subst (λ ms. list_any test ms ≡ true) (mentions_append (annotation_of x) (specs_in (map annotation_of rest))) h)) [
        | inl w ↦ (let f = specs_named x.specs.items w in (f.0, inl f.1))
        | inr w ↦ (let f = annotations_named rest w in (f.0, inr f.1))
      ]

  simple_named : (x : SimpleKind) → list_any test (simple_mentions (simple_of_kind x)) ≡ true → Caused (λ f. NamedInSimple test kind f x)
  simple_named (d.Declare ty x) h = absurd (cc h)
  simple_named (d.Initialize ty x e) h = named_cause e.kind e.span h
  simple_named (d.Assign a e) h =
      elim (any_split test (mentions (expression_of a)) (mentions (expression_of e)) h) [ inl w ↦ (let f = named_cause a.kind a.span w in (f.0, inl f.1)) | inr w ↦ (let f = named_cause e.kind e.span w in (f.0, inr f.1)) ]
  simple_named (d.Update a op e) h =
      elim (any_split test (mentions (expression_of a)) (mentions (expression_of e)) h) [ inl w ↦ (let f = named_cause a.kind a.span w in (f.0, inl f.1)) | inr w ↦ (let f = named_cause e.kind e.span w in (f.0, inr f.1)) ]
  simple_named (d.Step a way) h = named_cause a.kind a.span h
  simple_named (d.Evaluate e) h = named_cause e.kind e.span h

  part_named : (x : Option SimpleStatement) → list_any test (part_mentions (option_map simple_of x)) ≡ true → Caused (λ f. NamedInPart test kind f x)
  part_named None h = absurd (cc h)
  part_named (Some x) h = simple_named x.kind h

  mutual
    statement_named : (x : StatementKind) → list_any test (statement_mentions (statement_of_kind x)) ≡ true → Caused (λ f. NamedInStatement test kind f x)
    statement_named (Simple x) h = simple_named x.kind h
    statement_named (Block' shape rest) h = block_named rest h
    statement_named (Annotated x) h = specs_named x.specs.items h
    statement_named (ReturnValue e) h = named_cause e.kind e.span h
    statement_named (If' c p x at) h =
        elim (any_split test (mentions (expression_of c)) (statement_mentions (statement_of_kind x)) h) [ inl w ↦ (let f = named_cause c.kind c.span w in (f.0, inl f.1)) | inr w ↦ (let f = statement_named x w in (f.0, inr f.1)) ]
    statement_named (IfElse' c p x at q y here) h =
        elim (any_split test (mentions (expression_of c) ++ statement_mentions (statement_of_kind x)) (statement_mentions (statement_of_kind y)) h) [
          | inl w ↦ elim (any_split test (mentions (expression_of c)) (statement_mentions (statement_of_kind x)) w) [ inl z ↦ (let f = named_cause c.kind c.span z in (f.0, inl f.1)) | inr z ↦ (let f = statement_named x z in (f.0, inr (inl f.1))) ]
          | inr w ↦ (let f = statement_named y w in (f.0, inr (inr f.1)))
        ]
    statement_named (While' c notes p x at) h =
        elim (any_split test (mentions (expression_of c) ++ spec_mentions (specs_in (map annotation_of notes.items))) (statement_mentions (statement_of_kind x)) h) [
          | inl w ↦ elim (any_split test (mentions (expression_of c)) (spec_mentions (specs_in (map annotation_of notes.items))) w) [
            | inl z ↦ (let f = named_cause c.kind c.span z in (f.0, inl f.1))
            | inr z ↦ (let f = annotations_named notes.items z in (f.0, inr (inl f.1)))
          ]
          | inr w ↦ (let f = statement_named x w in (f.0, inr (inr f.1)))
        ]
    statement_named (For' first c third notes p x at) h =
        elim (any_split test (part_mentions (option_map simple_of first) ++ mentions (expression_of c) ++ part_mentions (option_map simple_of third) ++ spec_mentions (specs_in (map annotation_of notes.items))) (statement_mentions (statement_of_kind x)) h) [
          | inl w ↦ elim (any_split test (part_mentions (option_map simple_of first) ++ mentions (expression_of c) ++ part_mentions (option_map simple_of third)) (spec_mentions (specs_in (map annotation_of notes.items))) w) [
            | inl z ↦ elim (any_split test (part_mentions (option_map simple_of first) ++ mentions (expression_of c)) (part_mentions (option_map simple_of third)) z) [
              | inl y ↦ elim (any_split test (part_mentions (option_map simple_of first)) (mentions (expression_of c)) y) [
                | inl v ↦ (let f = part_named first v in (f.0, inl f.1))
                | inr v ↦ (let f = named_cause c.kind c.span v in (f.0, inr (inl f.1)))
              ]
              | inr y ↦ (let f = part_named third y in (f.0, inr (inr (inl f.1))))
            ]
            | inr z ↦ (let f = annotations_named notes.items z in (f.0, inr (inr (inr (inl f.1)))))
          ]
          | inr w ↦ (let f = statement_named x w in (f.0, inr (inr (inr (inr f.1)))))
        ]
    statement_named (Assert e) h = named_cause e.kind e.span h
    statement_named (Error e) h = named_cause e.kind e.span h
    statement_named _ h = absurd (cc h)

    block_named : {m : _} (xs : Row_of-Statement m) → list_any test (statements_mentions (statement_row xs)) ≡ true → Caused (λ f. NamedInBlock test kind f xs)
    block_named end_of-Statement h = absurd (cc h)
    block_named (more_of-Statement x at rest) h =
        elim (any_split test (statement_mentions (statement_of_kind x)) (statements_mentions (statement_row rest)) h) [ inl w ↦ (let f = statement_named x w in (f.0, inl f.1)) | inr w ↦ (let f = block_named rest w in (f.0, inr f.1)) ]

  pub body_named : (xs : List a.Statement) → list_any test (statements_mentions (statements_of xs)) ≡ true → Caused (λ f. NamedInBody test kind f xs)
  body_named [] h = absurd (cc h)
  body_named (x ∷ rest) h =
      elim (any_split test (statement_mentions (statement_of_kind x.kind)) (statements_mentions (statements_of rest)) h) [ inl w ↦ (let f = statement_named x.kind w in (f.0, inl f.1)) | inr w ↦ (let f = body_named rest w in (f.0, inr f.1)) ]
