-- A function whose paths break a rule has a cause in it.
use Rattle.std.proofs.Common.{◌≡◌, ◌⊎◌, inl, inr, List, [], ◌∷◌, ◌++◌, refl, sym, ap, subst, ◌∙◌, Bool, true, false, Option, Some, None}
use Rattle.std.specs.Prelude.{◌&&◌, ◌||◌, map, option_map}
use Rattle.std.specs.List.{list_any}
use Rattle.c0_source.specs.declared.fault.FaultKind.TheVariants as k
use Rattle.c0_syntax.specs.declared.expression.Expression as e
use Rattle.c0_syntax.specs.declared.statement.Spec as p
use Rattle.c0_syntax.specs.declared.statement.Annotation.{Annotation}
use Rattle.c0_syntax.specs.declared.statement.SimpleStatement.{SimpleStatement}
use Rattle.c0_syntax.specs.declared.statement.SimpleKind.{SimpleKind}
use Rattle.c0_syntax.specs.declared.statement.SimpleKind.TheVariants as d
use Rattle.c0_syntax.specs.declared.statement.Statement as a
use Rattle.c0_syntax.specs.declared.statement.StatementKind.{StatementKind, Row_of-Statement, end_of-Statement, more_of-Statement, Simple, Block', Annotated, Return, ReturnValue, If', IfElse', While', For', Assert, Error, Break, Continue}
use Rattle.c0_syntax.specs.declared.program.TypedName.{TypedName}
use Rattle.c0_syntax.specs.declared.program.Header.{Header}
use Rattle.c0_syntax.specs.Trees as tree
use Rattle.c0_syntax.specs.Views.{expression_of, spec_of, annotation_of, simple_of, simple_of_kind, statement_of, statement_of_kind, statement_row, statements_of, typed_name_of, header_of}
use Rattle.c0_rules.specs.Types.{Name, is_among, any_among, VoidType, same_type, Signature}
use Rattle.c0_rules.specs.Mentions.{Mention, mentions, variables_in, condition_of, specs_in, statements_assign, as_variable}
use Rattle.c0_rules.specs.Assignment.{Flow, Ended, Reached, reads_assigned, specs_read_assigned, has_ended, after_body, continued, joined, after_statements, flow_of_assignment, flow_of_simple, flow_of_part, flow_of_statement, flow_of_statements}
use Rattle.c0_rules.specs.Statements.{Postcondition, role_of, same_role}
use Rattle.c0_rules.specs.Programs.{names_of, names_in_ensures, is_assigned_parameter, keeps_parameters, paths_agree}
use Rattle.c0_rules.specs.FaultPaths.{is_unassigned, ReadIn, ReadInSpecs, ReadInAnnotations, ReadInSimple, ReadInPart, ReadInStatement, ReadInBlock, ReadInBody}
use Rattle.c0_rules.specs.FaultPrograms.{is_assigned_in, AssignedParameter, AssignedParameters, InPaths}
use Rattle.c0_rules.proofs.Assigned.{after_is, statements_after}
use Rattle.c0_rules.proofs.Rules.{AllSome}
use Rattle.c0_rules_faults.proofs.Causes.{Caused, told, split, split_if, split_and, not_false_is}
use Rattle.c0_rules_faults.proofs.NameCauses.{all_split, any_split, named_cause, spec_named, variable_mentioned}
use Rattle.c0_rules_faults.proofs.Tests.{any_front as front, any_back as behind}

read_early : (flow : Flow) (x : tree.Expression) → reads_assigned flow x ≡ false → list_any (is_unassigned flow) (mentions x) ≡ true
read_early Ended x h = absurd (cc h)
read_early (Reached names) x h = variable_mentioned (is_unassigned (Reached names)) (λ v. is_among v names) (λ v q. q) (mentions x) (not_false_is (any_among (variables_in x) names) h)

read_cause : (flow : Flow) (x : e.Expression) → reads_assigned flow (expression_of x) ≡ false → Caused (λ f. ReadIn f flow x)
read_cause flow x h = named_cause (is_unassigned flow) k.NotAssigned x.kind x.span (read_early flow (expression_of x) h)

specs_cause : (flow : Flow) (xs : List p.Spec) → specs_read_assigned flow (map spec_of xs) ≡ false → Caused (λ f. ReadInSpecs f flow xs)
specs_cause flow [] h = absurd (cc h)
specs_cause flow (x ∷ rest) h = elim (split_and (reads_assigned flow (condition_of (spec_of x))) (specs_read_assigned flow (map spec_of rest)) h) [
  | inl q ↦ (let f = spec_named (is_unassigned flow) k.NotAssigned x (read_early flow (condition_of (spec_of x)) q) in (f.0, inl f.1))
  | inr q ↦ (let f = specs_cause flow rest q in (f.0, inr f.1))
]

notes_cause : (flow : Flow) (xs : List Annotation) → specs_read_assigned flow (specs_in (map annotation_of xs)) ≡ false → Caused (λ f. ReadInAnnotations f flow xs)
notes_cause flow [] h = absurd (cc h)
notes_cause flow (x ∷ rest) h = elim (all_split (λ s. reads_assigned flow (condition_of s)) (annotation_of x) (specs_in (map annotation_of rest)) h) [
  | inl q ↦ (let f = specs_cause flow x.specs.items q in (f.0, inl f.1))
  | inr q ↦ (let f = notes_cause flow rest q in (f.0, inr f.1))
]

assigned_cause : (flow : Flow) (x v : e.Expression) (o : Option Name) → flow_of_assignment o (expression_of x) (expression_of v) flow ≡ None
    → Caused (λ f. (elim o as (λ o. Type 0) [ None ↦ ReadIn f flow x | Some w ↦ ⊥ ]) ⊎ ReadIn f flow v)
assigned_cause flow x v None h = elim (split_if (reads_assigned flow (expression_of x) && reads_assigned flow (expression_of v)) _ h) [
  | inl q ↦ elim (split_and (reads_assigned flow (expression_of x)) (reads_assigned flow (expression_of v)) q) [ inl w ↦ (let f = read_cause flow x w in (f.0, inl f.1)) | inr w ↦ (let f = read_cause flow v w in (f.0, inr f.1)) ]
  | inr q ↦ absurd (cc q.1)
]
assigned_cause flow x v (Some w) h = elim (split_if (reads_assigned flow (expression_of v)) _ h) [ inl q ↦ (let f = read_cause flow v q in (f.0, inr f.1)) | inr q ↦ absurd (cc q.1) ]

simple_cause : (flow : Flow) (x : SimpleKind) → flow_of_simple (simple_of_kind x) flow ≡ None → Caused (λ f. ReadInSimple f flow x)
simple_cause flow (d.Declare ty x) h = absurd (cc h)
simple_cause flow (d.Initialize ty x v) h = elim (split_if (reads_assigned flow (expression_of v)) _ h) [ inl q ↦ read_cause flow v q | inr q ↦ absurd (cc q.1) ]
simple_cause flow (d.Assign x v) h = assigned_cause flow x v (as_variable (expression_of x)) h
simple_cause flow (d.Update x op v) h = elim (split_if (reads_assigned flow (expression_of x) && reads_assigned flow (expression_of v)) _ h) [
  | inl q ↦ elim (split_and (reads_assigned flow (expression_of x)) (reads_assigned flow (expression_of v)) q) [ inl w ↦ (let f = read_cause flow x w in (f.0, inl f.1)) | inr w ↦ (let f = read_cause flow v w in (f.0, inr f.1)) ]
  | inr q ↦ absurd (cc q.1)
]
simple_cause flow (d.Step x way) h = elim (split_if (reads_assigned flow (expression_of x)) _ h) [ inl q ↦ read_cause flow x q | inr q ↦ absurd (cc q.1) ]
simple_cause flow (d.Evaluate x) h = elim (split_if (reads_assigned flow (expression_of x)) _ h) [ inl q ↦ read_cause flow x q | inr q ↦ absurd (cc q.1) ]

part_cause : (flow : Flow) (x : Option SimpleStatement) → flow_of_part (option_map simple_of x) flow ≡ None → Caused (λ f. ReadInPart f flow x)
part_cause flow None h = absurd (cc h)
part_cause flow (Some x) h = simple_cause flow x.kind h

-- the third part of a `for`, behind the body
third_cause : (flow g : Flow) (x : Option SimpleStatement) (body : tree.Statement) → flow_of_statement body flow ≡ Some g → flow_of_part (option_map simple_of x) (joined flow g (continued flow body flow Ended)) ≡ None
    → Caused (λ f. ReadInPart f (after_body body flow) x)
third_cause flow g x body e h = part_cause (after_body body flow) x (subst (λ z. flow_of_part (option_map simple_of x) (joined flow z (continued flow body flow Ended)) ≡ None) (after_is body flow g e) h)

mutual
  statement_cause : (flow : Flow) (x : StatementKind) → flow_of_statement (statement_of_kind x) flow ≡ None → Caused (λ f. ReadInStatement f flow x)
  statement_cause flow (Simple x) h = simple_cause flow x.kind h
  statement_cause flow (Block' shape rest) h = elim (split (flow_of_statements (statement_row rest) flow) _ h) [ inl q ↦ block_cause flow rest q | inr q ↦ absurd (cc q.2) ]
  statement_cause flow (Annotated x) h = elim (split_if (specs_read_assigned flow (annotation_of x)) _ h) [ inl q ↦ specs_cause flow x.specs.items q | inr q ↦ absurd (cc q.1) ]
  statement_cause flow Return h = absurd (cc h)
  statement_cause flow (ReturnValue x) h = elim (split_if (reads_assigned flow (expression_of x)) _ h) [ inl q ↦ read_cause flow x q | inr q ↦ absurd (cc q.1) ]
  statement_cause flow (If' c p x at) h = elim (split_if (reads_assigned flow (expression_of c)) _ h) [
    | inl q ↦ (let f = read_cause flow c q in (f.0, inl f.1))
    | inr q ↦ elim (split (flow_of_statement (statement_of_kind x) flow) _ q.1) [ inl w ↦ (let f = statement_cause flow x w in (f.0, inr f.1)) | inr w ↦ absurd (cc w.2) ]
  ]
  statement_cause flow (IfElse' c p x at q y here) h = elim (split_if (reads_assigned flow (expression_of c)) _ h) [
    | inl w ↦ (let f = read_cause flow c w in (f.0, inl f.1))
    | inr w ↦ elim (split (flow_of_statement (statement_of_kind x) flow) _ w.1) [
      | inl z ↦ (let f = statement_cause flow x z in (f.0, inr (inl f.1)))
      | inr z ↦ elim (split (flow_of_statement (statement_of_kind y) flow) _ z.2) [ inl v ↦ (let f = statement_cause flow y v in (f.0, inr (inr f.1))) | inr v ↦ absurd (cc v.2) ]
    ]
  ]
  statement_cause flow (While' c notes p x at) h = elim (split_if (reads_assigned flow (expression_of c) && specs_read_assigned flow (specs_in (map annotation_of notes.items))) _ h) [
    | inl q ↦ elim (split_and (reads_assigned flow (expression_of c)) (specs_read_assigned flow (specs_in (map annotation_of notes.items))) q) [
      | inl w ↦ (let f = read_cause flow c w in (f.0, inl f.1))
      | inr w ↦ (let f = notes_cause flow notes.items w in (f.0, inr (inl f.1)))
    ]
    | inr q ↦ elim (split (flow_of_statement (statement_of_kind x) flow) _ q.1) [ inl w ↦ (let f = statement_cause flow x w in (f.0, inr (inr f.1))) | inr w ↦ absurd (cc w.2) ]
  ]
  statement_cause flow (For' first c third notes p x at) h = elim (split (flow_of_part (option_map simple_of first) flow) _ h) [
    | inl q ↦ (let f = part_cause flow first q in (f.0, inl f.1))
    | inr q ↦ elim (split_if (reads_assigned q.0 (expression_of c) && specs_read_assigned q.0 (specs_in (map annotation_of notes.items))) _ q.2) [
      | inl w ↦ elim (split_and (reads_assigned q.0 (expression_of c)) (specs_read_assigned q.0 (specs_in (map annotation_of notes.items))) w) [
        | inl z ↦ (let f = read_cause q.0 c z in (f.0, inr (q.0, q.1, inl f.1)))
        | inr z ↦ (let f = notes_cause q.0 notes.items z in (f.0, inr (q.0, q.1, inr (inr (inl f.1)))))
      ]
      | inr w ↦ elim (split (flow_of_statement (statement_of_kind x) q.0) _ w.1) [
        | inl z ↦ (let f = statement_cause q.0 x z in (f.0, inr (q.0, q.1, inr (inr (inr f.1)))))
        | inr z ↦ elim (split (flow_of_part (option_map simple_of third) (joined q.0 z.0 (continued q.0 (statement_of_kind x) q.0 Ended))) _ z.2) [
          | inl v ↦ (let f = third_cause q.0 z.0 third (statement_of_kind x) z.1 v in (f.0, inr (q.0, q.1, inr (inl f.1))))
          | inr v ↦ absurd (cc v.2)
        ]
      ]
    ]
  ]
  statement_cause flow (Assert x) h = elim (split_if (reads_assigned flow (expression_of x)) _ h) [ inl q ↦ read_cause flow x q | inr q ↦ absurd (cc q.1) ]
  statement_cause flow (Error x) h = elim (split_if (reads_assigned flow (expression_of x)) _ h) [ inl q ↦ read_cause flow x q | inr q ↦ absurd (cc q.1) ]
  statement_cause flow Break h = absurd (cc h)
  statement_cause flow Continue h = absurd (cc h)

  block_cause : {m : _} (flow : Flow) (xs : Row_of-Statement m) → flow_of_statements (statement_row xs) flow ≡ None → Caused (λ f. ReadInBlock f flow xs)
  block_cause flow end_of-Statement h = absurd (cc h)
  block_cause flow (more_of-Statement x at rest) h = elim (split (flow_of_statement (statement_of_kind x) flow) _ h) [
    | inl q ↦ (let f = statement_cause flow x q in (f.0, inl f.1))
    | inr q ↦ (let f = block_cause q.0 rest q.2 in (f.0, inr (q.0, q.1, f.1)))
  ]

body_cause : (flow : Flow) (xs : List a.Statement) → flow_of_statements (statements_of xs) flow ≡ None → Caused (λ f. ReadInBody f flow xs)
body_cause flow [] h = absurd (cc h)
body_cause flow (x ∷ rest) h = elim (split (flow_of_statement (statement_of x) flow) _ h) [
  | inl q ↦ (let f = statement_cause flow x.kind q in (f.0, inl f.1))
  | inr q ↦ (let f = body_cause q.0 rest q.2 in (f.0, inr (q.0, q.1, f.1)))
]

-- ---- parameters that `ensures` reads

module _ (parameters : List TypedName) (body : List a.Statement) where
  -- whether a name is that of a parameter that the body assigns to
  abbrev is : Name → Bool
  is = is_assigned_parameter (names_of (map typed_name_of parameters)) (statements_assign (statements_of body))

  -- whether a mention is; no fault is told yet
  abbrev test : Mention → Bool
  test m = is_assigned_in (told k.BadContract (record { start = 0; end = 0 })).0 parameters body m

  ensures_split : (xs ys : List tree.Spec) → list_any is (names_in_ensures (xs ++ ys)) ≡ true → (list_any is (names_in_ensures xs) ≡ true) ⊎ (list_any is (names_in_ensures ys) ≡ true)
  ensures_split [] ys h = inr h
  ensures_split (x ∷ xs) ys h = elim (any_split is (elim (same_role Postcondition (role_of x)) [ true ↦ variables_in (condition_of x) | false ↦ [] ]) (names_in_ensures (xs ++ ys)) h) [
    | inl q ↦ inl (front is _ (names_in_ensures xs) q)
    | inr q ↦ elim (ensures_split xs ys q) [ inl w ↦ inl (behind is (elim (same_role Postcondition (role_of x)) [ true ↦ variables_in (condition_of x) | false ↦ [] ]) _ w) | inr w ↦ inr w ]
  ]

  spec_assigned : (x : p.Spec) (rest : List p.Spec) (b : Bool) → same_role Postcondition (role_of (spec_of x)) ≡ b → list_any is (elim b [ true ↦ variables_in (condition_of (spec_of x)) | false ↦ [] ]) ≡ true
      → Caused (λ f. AssignedParameter f (is_assigned_in f parameters body) (x ∷ rest))
  spec_assigned x rest true q h =
      let f = spec_named test k.BadContract x (variable_mentioned test is (λ v w. w) (mentions (condition_of (spec_of x))) h) in
      (f.0, inl (q, inl f.1))
  spec_assigned x rest false q h = absurd (cc h)

  specs_assigned : (xs : List p.Spec) → list_any is (names_in_ensures (map spec_of xs)) ≡ true → Caused (λ f. AssignedParameter f (is_assigned_in f parameters body) xs)
  specs_assigned [] h = absurd (cc h)
  specs_assigned (x ∷ rest) h = elim (any_split is (elim (same_role Postcondition (role_of (spec_of x))) [ true ↦ variables_in (condition_of (spec_of x)) | false ↦ [] ]) (names_in_ensures (map spec_of rest)) h) [
    | inl q ↦ spec_assigned x rest (same_role Postcondition (role_of (spec_of x))) refl q
    | inr q ↦ (let f = specs_assigned rest q in (f.0, inr f.1))
  ]

  pub notes_assigned : (xs : List Annotation) → list_any is (names_in_ensures (specs_in (map annotation_of xs))) ≡ true → Caused (λ f. AssignedParameters f (is_assigned_in f parameters body) xs)
  notes_assigned [] h = absurd (cc h)
  notes_assigned (x ∷ rest) h = elim (ensures_split (annotation_of x) (specs_in (map annotation_of rest)) h) [
    | inl q ↦ (let f = specs_assigned x.specs.items q in (f.0, inl f.1))
    | inr q ↦ (let f = notes_assigned rest q in (f.0, inr f.1))
  ]

-- some parameter that `ensures` reads is assigned
pub kept_cause : (h : Header) (body : List a.Statement) → keeps_parameters (header_of h) (statements_of body) ≡ false → Caused (λ f. AssignedParameters f (is_assigned_in f h.parameters.items body) h.annotations.items)
kept_cause h body q =
    notes_assigned h.parameters.items body h.annotations.items
    (not_false_is (list_any (is_assigned_parameter (names_of (map typed_name_of h.parameters.items)) (statements_assign (statements_of body))) (names_in_ensures (specs_in (map annotation_of h.annotations.items)))) q)

-- ---- a function

neither : (a b : Bool) → (a || b) ≡ false → (a ≡ false) × (b ≡ false)
neither true b h = absurd (cc h)
neither false b h = (refl, h)

pub paths_cause : (f : Signature) (h : Header) (body : List a.Statement) → paths_agree f (statements_of body) ≡ false → Caused (λ t. InPaths t f h body)
paths_cause f h body q = by (flow_of_statements (statements_of body) (Reached [])) refl (statements_after (statements_of body) (Reached [])) q
  where
    by : (o : Option Flow) → flow_of_statements (statements_of body) (Reached []) ≡ o → AllSome (λ g. g ≡ after_statements (statements_of body) (Reached [])) o
        → (elim o [ None ↦ false | Some flow ↦ has_ended flow || same_type f.result VoidType ]) ≡ false → Caused (λ t. InPaths t f h body)
    by None e w v = let t = body_cause (Reached []) body e in (t.0, inr t.1)
    by (Some flow) e w v = let z = neither (has_ended flow) (same_type f.result VoidType) v in let t = told k.NoReturn h.name.span in (t.0, inl (ap has_ended (sym w) ∙ z.0, z.1, t.1))
