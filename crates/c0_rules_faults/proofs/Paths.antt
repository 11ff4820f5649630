-- A function of which a path reads what is not assigned, or that breaks a rule of its paths, is refused.
use Rattle.std.proofs.Common.{◌≡◌, ◌⊎◌, inl, inr, List, [], ◌∷◌, ◌++◌, refl, sym, ap, ◌∙◌, subst, Bool, true, false, Option, Some, None}
use Rattle.std.specs.Prelude.{◌&&◌, ◌||◌, not, map, option_map}
use Rattle.std.specs.List.{list_any}
use Rattle.c0_source.specs.declared.fault.Fault.{Fault}
use Rattle.c0_source.specs.declared.fault.FaultKind.TheVariants as k
use Rattle.c0_syntax.specs.declared.expression.Expression as e
use Rattle.c0_syntax.specs.declared.statement.Spec as p
use Rattle.c0_syntax.specs.declared.statement.Annotation.{Annotation}
use Rattle.c0_syntax.specs.declared.statement.SimpleStatement.{SimpleStatement}
use Rattle.c0_syntax.specs.declared.statement.SimpleKind.{SimpleKind}
use Rattle.c0_syntax.specs.declared.statement.SimpleKind.TheVariants as d
use Rattle.c0_syntax.specs.declared.statement.Statement as a
use Rattle.c0_syntax.specs.declared.statement.StatementKind.{StatementKind, Row_of-Statement, end_of-Statement, more_of-Statement, Simple, Block', Annotated, ReturnValue, If', IfElse', While', For', Assert, Error}
use Rattle.c0_syntax.specs.declared.program.TypedName.{TypedName}
use Rattle.c0_syntax.specs.declared.program.Header.{Header}
use Rattle.c0_syntax.specs.Trees as tree
use Rattle.c0_syntax.specs.Views.{expression_of, spec_of, annotation_of, simple_of, simple_of_kind, statement_of, statement_of_kind, statement_row, statements_of, typed_name_of, header_of}
use Rattle.c0_rules.specs.Types.{Name, is_among, VoidType, same_type, Signature}
use Rattle.c0_rules.specs.Mentions.{Mention, mentions, variables_in, condition_of, specs_in, statements_assign, as_variable}
use Rattle.c0_rules.specs.Assignment.{Flow, Ended, Reached, reads_assigned, specs_read_assigned, has_ended, after_body, continued, joined, after_statements, flow_of_assignment, flow_of_simple, flow_of_part, flow_of_statement, flow_of_statements}
use Rattle.c0_rules.specs.Statements.{Postcondition, role_of, same_role}
use Rattle.c0_rules.specs.Programs.{names_of, names_in_ensures, is_assigned_parameter, keeps_parameters, paths_agree}
use Rattle.c0_rules.specs.FaultPaths.{NamedInSpecs, is_unassigned, ReadIn, ReadInSpecs, ReadInAnnotations, ReadInSimple, ReadInPart, ReadInStatement, ReadInBlock, ReadInBody}
use Rattle.c0_rules.specs.FaultPrograms.{is_assigned_in, AssignedParameter, AssignedParameters, InPaths}
use Rattle.c0_rules.proofs.Assigned.{after_is, statements_after}
use Rattle.c0_rules.proofs.Rules.{AllSome}
use Rattle.c0_rules_faults.proofs.Refused.{and_none, and_each, and_at, provided_none, provided_false, and_false, false_and}
use Rattle.c0_rules_faults.proofs.Tests.{any_front, any_back, all_front, all_back, variables_among}
use Rattle.c0_rules_faults.proofs.Names.{named, named_spec}

-- nothing is read too early behind the end of a path
never_read : (ms : List Mention) → list_any (is_unassigned Ended) ms ≡ true → ⊥
never_read [] h = cc h
never_read (m ∷ ms) h = never_read ms h

not_read : (flow : Flow) (x : tree.Expression) → list_any (is_unassigned flow) (mentions x) ≡ true → reads_assigned flow x ≡ false
not_read Ended x h = absurd (never_read (mentions x) h)
not_read (Reached names) x h = ap not (variables_among (is_unassigned (Reached names)) (λ v. is_among v names) (λ v q. q) (λ v. refl) (λ v. refl) (mentions x) h)

module _ (fault : Fault) where
  read_none : (flow : Flow) (x : e.Expression) → ReadIn fault flow x → reads_assigned flow (expression_of x) ≡ false
  read_none flow x h = not_read flow (expression_of x) (named (is_unassigned flow) k.NotAssigned fault x.kind x.span h)

  specs_read : (flow : Flow) (xs : List p.Spec) → ReadInSpecs fault flow xs → specs_read_assigned flow (map spec_of xs) ≡ false
  specs_read flow [] h = absurd h
  specs_read flow (x ∷ rest) (inl h) =
      false_and (reads_assigned flow (condition_of (spec_of x))) _ (not_read flow (condition_of (spec_of x)) (named_spec (is_unassigned flow) k.NotAssigned fault x h))
  specs_read flow (x ∷ rest) (inr h) = and_false (reads_assigned flow (condition_of (spec_of x))) _ (specs_read flow rest h)

  notes_read : (flow : Flow) (xs : List Annotation) → ReadInAnnotations fault flow xs → specs_read_assigned flow (specs_in (map annotation_of xs)) ≡ false
  notes_read flow [] h = absurd h
  notes_read flow (x ∷ rest) (inl h) = all_front (λ s. reads_assigned flow (condition_of s)) (annotation_of x) _ (specs_read flow x.specs.items h)
  notes_read flow (x ∷ rest) (inr h) = all_back (λ s. reads_assigned flow (condition_of s)) (annotation_of x) _ (notes_read flow rest h)

  assigned_flow : (flow : Flow) (x v : e.Expression) (o : Option Name) → (elim o as (λ o. Type 0) [ None ↦ ReadIn fault flow x | Some w ↦ ⊥ ]) ⊎ ReadIn fault flow v
      → flow_of_assignment o (expression_of x) (expression_of v) flow ≡ None
  assigned_flow flow x v None (inl h) = provided_false _ _ (false_and (reads_assigned flow (expression_of x)) _ (read_none flow x h))
  assigned_flow flow x v None (inr h) = provided_false _ _ (and_false (reads_assigned flow (expression_of x)) _ (read_none flow v h))
  assigned_flow flow x v (Some w) (inl h) = absurd h
  assigned_flow flow x v (Some w) (inr h) = provided_false _ _ (read_none flow v h)

  simple_flow : (flow : Flow) (x : SimpleKind) → ReadInSimple fault flow x → flow_of_simple (simple_of_kind x) flow ≡ None
  simple_flow flow (d.Declare ty x) h = absurd h
  simple_flow flow (d.Initialize ty x v) h = provided_false _ _ (read_none flow v h)
  simple_flow flow (d.Assign x v) h = assigned_flow flow x v (as_variable (expression_of x)) h
  simple_flow flow (d.Update x op v) (inl h) = provided_false _ _ (false_and (reads_assigned flow (expression_of x)) _ (read_none flow x h))
  simple_flow flow (d.Update x op v) (inr h) = provided_false _ _ (and_false (reads_assigned flow (expression_of x)) _ (read_none flow v h))
  simple_flow flow (d.Step x way) h = provided_false _ _ (read_none flow x h)
  simple_flow flow (d.Evaluate x) h = provided_false _ _ (read_none flow x h)

  part_flow : (flow : Flow) (x : Option SimpleStatement) → ReadInPart fault flow x → flow_of_part (option_map simple_of x) flow ≡ None
  part_flow flow None h = absurd h
  part_flow flow (Some x) h = simple_flow flow x.kind h

  -- the third part of a `for`, behind the body
  third_flow : (f g : Flow) (x : Option SimpleStatement) (body : tree.Statement) → flow_of_statement body f ≡ Some g → ReadInPart fault (after_body body f) x
      → flow_of_part (option_map simple_of x) (joined f g (continued f body f Ended)) ≡ None
  third_flow f g x body e h = subst (λ z. flow_of_part (option_map simple_of x) (joined f z (continued f body f Ended)) ≡ None) (sym (after_is body f g e)) (part_flow (after_body body f) x h)

  mutual
    statement_flow : (flow : Flow) (x : StatementKind) → ReadInStatement fault flow x → flow_of_statement (statement_of_kind x) flow ≡ None
    statement_flow flow (Simple x) h = simple_flow flow x.kind h
    statement_flow flow (Block' shape rest) h = and_none _ _ (block_flow flow rest h)
    statement_flow flow (Annotated x) h = provided_false _ _ (specs_read flow x.specs.items h)
    statement_flow flow (ReturnValue x) h = provided_false _ _ (read_none flow x h)
    statement_flow flow (If' c p x at) (inl h) = provided_false _ _ (read_none flow c h)
    statement_flow flow (If' c p x at) (inr h) = provided_none (reads_assigned flow (expression_of c)) _ (and_none _ _ (statement_flow flow x h))
    statement_flow flow (IfElse' c p x at q y here) (inl h) = provided_false _ _ (read_none flow c h)
    statement_flow flow (IfElse' c p x at q y here) (inr (inl h)) = provided_none (reads_assigned flow (expression_of c)) _ (and_none _ _ (statement_flow flow x h))
    statement_flow flow (IfElse' c p x at q y here) (inr (inr h)) =
        provided_none (reads_assigned flow (expression_of c)) _ (and_each (flow_of_statement (statement_of_kind x) flow) _ (λ g w. and_none _ _ (statement_flow flow y h)))
    statement_flow flow (While' c notes p x at) (inl h) = provided_false _ _ (false_and (reads_assigned flow (expression_of c)) _ (read_none flow c h))
    statement_flow flow (While' c notes p x at) (inr (inl h)) = provided_false _ _ (and_false (reads_assigned flow (expression_of c)) _ (notes_read flow notes.items h))
    statement_flow flow (While' c notes p x at) (inr (inr h)) =
        provided_none (reads_assigned flow (expression_of c) && specs_read_assigned flow (specs_in (map annotation_of notes.items))) _ (and_none _ _ (statement_flow flow x h))
    statement_flow flow (For' first c third notes p x at) (inl h) = and_none _ _ (part_flow flow first h)
    statement_flow flow (For' first c third notes p x at) (inr h) =
        and_at (flow_of_part (option_map simple_of first) flow) h.0 _ h.1 (elim h.2 [
          | inl q ↦ provided_false _ _ (false_and (reads_assigned h.0 (expression_of c)) _ (read_none h.0 c q))
          | inr (inl q) ↦
              provided_none (reads_assigned h.0 (expression_of c) && specs_read_assigned h.0 (specs_in (map annotation_of notes.items))) _
              (and_each (flow_of_statement (statement_of_kind x) h.0) _ (λ g w. and_none _ _ (third_flow h.0 g third (statement_of_kind x) w q)))
          | inr (inr (inl q)) ↦ provided_false _ _ (and_false (reads_assigned h.0 (expression_of c)) _ (notes_read h.0 notes.items q))
          | inr (inr (inr q)) ↦
              provided_none (reads_assigned h.0 (expression_of c) && specs_read_assigned h.0 (specs_in (map annotation_of notes.items))) _ (and_none _ _ (statement_flow h.0 x q))
        ])
    statement_flow flow (Assert x) h = provided_false _ _ (read_none flow x h)
    statement_flow flow (Error x) h = provided_false _ _ (read_none flow x h)
    statement_flow flow _ h = absurd h

    block_flow : {m : _} (flow : Flow) (xs : Row_of-Statement m) → ReadInBlock fault flow xs → flow_of_statements (statement_row xs) flow ≡ None
    block_flow flow end_of-Statement h = absurd h
    block_flow flow (more_of-Statement x at rest) (inl h) = and_none _ _ (statement_flow flow x h)
    block_flow flow (more_of-Statement x at rest) (inr h) = and_at (flow_of_statement (statement_of_kind x) flow) h.0 _ h.1 (block_flow h.0 rest h.2)

  body_flow : (flow : Flow) (xs : List a.Statement) → ReadInBody fault flow xs → flow_of_statements (statements_of xs) flow ≡ None
  body_flow flow [] h = absurd h
  body_flow flow (x ∷ rest) (inl h) = and_none _ _ (statement_flow flow x.kind h)
  body_flow flow (x ∷ rest) (inr h) = and_at (flow_of_statement (statement_of x) flow) h.0 _ h.1 (body_flow h.0 rest h.2)

  -- ---- parameters that `ensures` reads

  -- the variables of one spec, where it is an `ensures`
  abbrev pub read_by : tree.Spec → List Name
  read_by s = elim (same_role Postcondition (role_of s)) [ true ↦ variables_in (condition_of s) | false ↦ [] ]

  ensures_back : (is : Name → Bool) (xs ys : List tree.Spec) → list_any is (names_in_ensures ys) ≡ true → list_any is (names_in_ensures (xs ++ ys)) ≡ true
  ensures_back is [] ys h = h
  ensures_back is (x ∷ xs) ys h = any_back is (read_by x) (names_in_ensures (xs ++ ys)) (ensures_back is xs ys h)

  module _ (parameters : List TypedName) (body : List a.Statement) where
    -- whether a name is that of an assigned parameter, and whether a mention is
    abbrev is : Name → Bool
    is = is_assigned_parameter (names_of (map typed_name_of parameters)) (statements_assign (statements_of body))

    abbrev test : Mention → Bool
    test = is_assigned_in fault parameters body

    ensures_one : (x : p.Spec) (rest : List tree.Spec) → same_role Postcondition (role_of (spec_of x)) ≡ true → NamedInSpecs test k.BadContract fault (x ∷ []) → list_any is (names_in_ensures (spec_of x ∷ rest)) ≡ true
    ensures_one x rest q (inl h) =
        any_front is (read_by (spec_of x)) (names_in_ensures rest)
        (subst (λ b. list_any is (elim b [ true ↦ variables_in (condition_of (spec_of x)) | false ↦ [] ]) ≡ true) (sym q)
        (variables_among test is (λ v w. w) (λ v. refl) (λ v. refl) (mentions (condition_of (spec_of x))) (named_spec test k.BadContract fault x h)))
    ensures_one x rest q (inr h) = absurd h

    ensures_specs : (xs : List p.Spec) (rest : List tree.Spec) → AssignedParameter fault test xs → list_any is (names_in_ensures (map spec_of xs ++ rest)) ≡ true
    ensures_specs [] rest h = absurd h
    ensures_specs (x ∷ xs) rest (inl h) = ensures_one x (map spec_of xs ++ rest) h.0 h.1
    ensures_specs (x ∷ xs) rest (inr h) = ensures_back is (spec_of x ∷ []) (map spec_of xs ++ rest) (ensures_specs xs rest h)

    pub ensures_notes : (xs : List Annotation) → AssignedParameters fault test xs → list_any is (names_in_ensures (specs_in (map annotation_of xs))) ≡ true
    ensures_notes [] h = absurd h
    ensures_notes (x ∷ rest) (inl h) = ensures_specs x.specs.items (specs_in (map annotation_of rest)) h
    ensures_notes (x ∷ rest) (inr h) = ensures_back is (annotation_of x) (specs_in (map annotation_of rest)) (ensures_notes rest h)

  -- an assigned parameter that `ensures` reads is not kept
  pub kept_none : (h : Header) (body : List a.Statement) → AssignedParameters fault (is_assigned_in fault h.parameters.items body) h.annotations.items → keeps_parameters (header_of h) (statements_of body) ≡ false
  kept_none h body q = ap not (ensures_notes h.parameters.items body h.annotations.items q)

  -- ---- a function

  neither : (a b : Bool) → a ≡ false → b ≡ false → (a || b) ≡ false
  neither true b h q = absurd (cc h)
  neither false b h q = q

  -- what is behind its body
  abbrev ends_well : Signature → Option Flow → Bool
  ends_well f o = elim o [ None ↦ false | Some flow ↦ has_ended flow || same_type f.result VoidType ]

  pub paths_none : (f : Signature) (h : Header) (body : List a.Statement) → InPaths fault f h body → paths_agree f (statements_of body) ≡ false
  paths_none f h body (inl q) = by (flow_of_statements (statements_of body) (Reached [])) (statements_after (statements_of body) (Reached []))
    where
      by : (o : Option Flow) → AllSome (λ g. g ≡ after_statements (statements_of body) (Reached [])) o → ends_well f o ≡ false
      by None e = refl
      by (Some g) e = neither (has_ended g) (same_type f.result VoidType) (ap has_ended e ∙ q.0) q.1
  paths_none f h body (inr q) = ap (ends_well f) (body_flow (Reached []) body q)
