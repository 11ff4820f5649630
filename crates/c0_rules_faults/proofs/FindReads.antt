-- The kind of a fault where a local is read before it is assigned, and its cause.
use Rattle.std.proofs.Common.{◌≡◌, inl, inr, List, [], ◌∷◌, map, Option, Some, None}
use Rattle.std.specs.Prelude.{option_map}
use Rattle.c0_source.specs.declared.fault.FaultKind.{FaultKind}
use Rattle.c0_source.specs.declared.fault.FaultKind.TheVariants as k
use Rattle.c0_syntax.specs.declared.expression.Expression as e
use Rattle.c0_syntax.specs.declared.statement.Spec as p
use Rattle.c0_syntax.specs.declared.statement.Annotation.{Annotation}
use Rattle.c0_syntax.specs.declared.statement.SimpleStatement.{SimpleStatement}
use Rattle.c0_syntax.specs.declared.statement.SimpleKind.{SimpleKind}
use Rattle.c0_syntax.specs.declared.statement.SimpleKind.TheVariants as d
use Rattle.c0_syntax.specs.declared.statement.Statement as a
use Rattle.c0_syntax.specs.declared.statement.StatementKind.{StatementKind, Row_of-Statement, end_of-Statement, more_of-Statement, Simple, Block', Annotated, Return, ReturnValue, If', IfElse', While', For', Assert, Error, Break, Continue}
use Rattle.c0_syntax.specs.Trees as s
use Rattle.c0_syntax.specs.Views.{expression_of, spec_of, annotation_of, simple_of, simple_of_kind, statement_of, statement_of_kind, statement_row, statements_of}
use Rattle.c0_rules.specs.Types.{and_so, Name}
use Rattle.c0_rules.specs.Mentions.{as_variable}
use Rattle.c0_rules.specs.Assignment.{Flow, after_body, flow_of_part, flow_of_statement}
use Rattle.c0_rules.specs.FaultPaths.{is_unassigned, ReadIn, ReadInSpecs, ReadInAnnotations, ReadInDestination, ReadInSimple, ReadInPart, ReadInStatement, ReadInBlock, ReadInBody}
use Rattle.c0_rules_faults.proofs.Find.{At, or_else, either, with_some}
use Rattle.c0_rules_faults.proofs.FindPaths.{named, named_specs, named_notes, named_found, named_specs_found, named_notes_found}

abbrev read : Flow → s.Expression → Option FaultKind
read flow x = named (is_unassigned flow) k.NotAssigned x

abbrev read_by : Option Name → Flow → s.Expression → Option FaultKind
read_by None flow x = read flow x
read_by (Some v) flow x = None

abbrev read_specs : Flow → List s.Spec → Option FaultKind
read_specs flow x = named_specs (is_unassigned flow) k.NotAssigned x

abbrev read_notes : Flow → List (List s.Spec) → Option FaultKind
read_notes flow x = named_notes (is_unassigned flow) k.NotAssigned x

abbrev read_simple : Flow → s.SimpleStatement → Option FaultKind
read_simple flow (s.Declare ty x) = None
read_simple flow (s.Initialize ty x e) = read flow e
read_simple flow (s.Assign a e) = or_else (read_by (as_variable a) flow a) (read flow e)
read_simple flow (s.Update a op e) = or_else (read flow a) (read flow e)
read_simple flow (s.Step a way) = read flow a
read_simple flow (s.Evaluate e) = read flow e

abbrev read_part : Flow → Option s.SimpleStatement → Option FaultKind
read_part flow None = None
read_part flow (Some x) = read_simple flow x

abbrev mutual
  read_statement : Flow → s.Statement → Option FaultKind
  read_statement flow (s.Simple x) = read_simple flow x
  read_statement flow (s.Block rest) = read_statements flow rest
  read_statement flow (s.Annotation x) = read_specs flow x
  read_statement flow (s.ReturnValue e) = read flow e
  read_statement flow (s.If c a) = or_else (read flow c) (read_statement flow a)
  read_statement flow (s.IfElse c a b) = or_else (read flow c) (or_else (read_statement flow a) (read_statement flow b))
  read_statement flow (s.While c notes a) = or_else (read flow c) (or_else (read_notes flow notes) (read_statement flow a))
  read_statement flow (s.For first c third notes a) =
      or_else (read_part flow first) (and_so (flow_of_part first flow) (λ g. or_else (read g c) (or_else (read_part (after_body a g) third) (or_else (read_notes g notes) (read_statement g a)))))
  read_statement flow (s.Assert e) = read flow e
  read_statement flow (s.Error e) = read flow e
  read_statement flow x = None

  pub read_statements : Flow → s.Statements → Option FaultKind
  read_statements flow s.nothing = None
  read_statements flow (s.also a rest) = or_else (read_statement flow a) (and_so (flow_of_statement a flow) (λ g. read_statements g rest))

-- ---- their causes

read_found : (flow : Flow) (x : e.Expression) (kind : FaultKind) → read flow (expression_of x) ≡ Some kind → At kind (λ f. ReadIn f flow x)
read_found flow x kind h = named_found (is_unassigned flow) k.NotAssigned x.kind x.span kind h

read_specs_found : (flow : Flow) (specs : List p.Spec) (kind : FaultKind) → read_specs flow (map spec_of specs) ≡ Some kind → At kind (λ f. ReadInSpecs f flow specs)
read_specs_found flow specs kind h = named_specs_found (is_unassigned flow) k.NotAssigned specs kind h

read_notes_found : (flow : Flow) (notes : List Annotation) (kind : FaultKind) → read_notes flow (map annotation_of notes) ≡ Some kind → At kind (λ f. ReadInAnnotations f flow notes)
read_notes_found flow notes kind h = named_notes_found (is_unassigned flow) k.NotAssigned notes kind h

read_by_found : (o : Option Name) (flow : Flow) (x : e.Expression) (kind : FaultKind) → read_by o flow (expression_of x) ≡ Some kind → At kind (λ f. elim o as (λ o. Type 0) [ None ↦ ReadIn f flow x | Some v ↦ ⊥ ])
read_by_found None flow x kind h = read_found flow x kind h
read_by_found (Some v) flow x kind h = absurd (cc h)

read_destination_found : (flow : Flow) (x : e.Expression) (kind : FaultKind) → read_by (as_variable (expression_of x)) flow (expression_of x) ≡ Some kind → At kind (λ f. ReadInDestination f flow x)
read_destination_found flow x kind h = read_by_found (as_variable (expression_of x)) flow x kind h

read_simple_found : (flow : Flow) (x : SimpleKind) (kind : FaultKind) → read_simple flow (simple_of_kind x) ≡ Some kind → At kind (λ f. ReadInSimple f flow x)
read_simple_found flow (d.Declare ty x) kind h = absurd (cc h)
read_simple_found flow (d.Initialize ty x e) kind h = read_found flow e kind h
read_simple_found flow (d.Assign a e) kind h = elim (either (read_by (as_variable (expression_of a)) flow (expression_of a)) (read flow (expression_of e)) kind h) [
  | inl z ↦ (let w = read_destination_found flow a kind z in (w.0, inl w.1))
  | inr z ↦ (let w = read_found flow e kind z in (w.0, inr w.1))
]
read_simple_found flow (d.Update a op e) kind h = elim (either (read flow (expression_of a)) (read flow (expression_of e)) kind h) [
  | inl z ↦ (let w = read_found flow a kind z in (w.0, inl w.1))
  | inr z ↦ (let w = read_found flow e kind z in (w.0, inr w.1))
]
read_simple_found flow (d.Step a way) kind h = read_found flow a kind h
read_simple_found flow (d.Evaluate e) kind h = read_found flow e kind h

read_part_found : (flow : Flow) (o : Option SimpleStatement) (kind : FaultKind) → read_part flow (option_map simple_of o) ≡ Some kind → At kind (λ f. ReadInPart f flow o)
read_part_found flow None kind h = absurd (cc h)
read_part_found flow (Some x) kind h = read_simple_found flow x.kind kind h

mutual
  read_statement_found : (flow : Flow) (x : StatementKind) (kind : FaultKind) → read_statement flow (statement_of_kind x) ≡ Some kind → At kind (λ f. ReadInStatement f flow x)
  read_statement_found flow (Simple x) kind h = read_simple_found flow x.kind kind h
  read_statement_found flow (Block' shape rest) kind h = read_block_found flow rest kind h
  read_statement_found flow (Annotated x) kind h = read_specs_found flow x.specs.items kind h
  read_statement_found flow Return kind h = absurd (cc h)
  read_statement_found flow (ReturnValue e) kind h = read_found flow e kind h
  read_statement_found flow (If' c p a at) kind h = elim (either (read flow (expression_of c)) (read_statement flow (statement_of_kind a)) kind h) [
    | inl z ↦ (let w = read_found flow c kind z in (w.0, inl w.1))
    | inr z ↦ (let w = read_statement_found flow a kind z in (w.0, inr w.1))
  ]
  read_statement_found flow (IfElse' c p a at q b here) kind h = elim (either (read flow (expression_of c)) _ kind h) [
    | inl z ↦ (let w = read_found flow c kind z in (w.0, inl w.1))
    | inr z ↦ elim (either (read_statement flow (statement_of_kind a)) (read_statement flow (statement_of_kind b)) kind z) [
      | inl m ↦ (let w = read_statement_found flow a kind m in (w.0, inr (inl w.1)))
      | inr m ↦ (let w = read_statement_found flow b kind m in (w.0, inr (inr w.1)))
    ]
  ]
  read_statement_found flow (While' c notes p a at) kind h = elim (either (read flow (expression_of c)) _ kind h) [
    | inl z ↦ (let w = read_found flow c kind z in (w.0, inl w.1))
    | inr z ↦ elim (either (read_notes flow (map annotation_of notes.items)) (read_statement flow (statement_of_kind a)) kind z) [
      | inl m ↦ (let w = read_notes_found flow notes.items kind m in (w.0, inr (inl w.1)))
      | inr m ↦ (let w = read_statement_found flow a kind m in (w.0, inr (inr w.1)))
    ]
  ]
  read_statement_found flow (For' first c third notes p a at) kind h = elim (either (read_part flow (option_map simple_of first)) _ kind h) [
    | inl z ↦ (let w = read_part_found flow first kind z in (w.0, inl w.1))
    | inr z ↦
        (let inside : Flow → Option FaultKind = λ g. or_else (read g (expression_of c)) (or_else (read_part (after_body (statement_of_kind a) g) (option_map simple_of third)) (or_else (read_notes g (map annotation_of notes.items)) (read_statement g (statement_of_kind a)))) in
        let v = with_some (flow_of_part (option_map simple_of first) flow) inside kind z in
        elim (either (read v.0 (expression_of c)) _ kind v.2) [
          | inl m ↦ (let w = read_found v.0 c kind m in (w.0, inr (v.0, v.1, inl w.1)))
          | inr m ↦ elim (either (read_part (after_body (statement_of_kind a) v.0) (option_map simple_of third)) _ kind m) [
            | inl r ↦ (let w = read_part_found (after_body (statement_of_kind a) v.0) third kind r in (w.0, inr (v.0, v.1, inr (inl w.1))))
            | inr r ↦ elim (either (read_notes v.0 (map annotation_of notes.items)) (read_statement v.0 (statement_of_kind a)) kind r) [
              | inl y ↦ (let w = read_notes_found v.0 notes.items kind y in (w.0, inr (v.0, v.1, inr (inr (inl w.1)))))
              | inr y ↦ (let w = read_statement_found v.0 a kind y in (w.0, inr (v.0, v.1, inr (inr (inr w.1)))))
            ]
          ]
        ])
  ]
  read_statement_found flow (Assert e) kind h = read_found flow e kind h
  read_statement_found flow (Error e) kind h = read_found flow e kind h
  read_statement_found flow Break kind h = absurd (cc h)
  read_statement_found flow Continue kind h = absurd (cc h)

  read_block_found : {m : _} (flow : Flow) (rest : Row_of-Statement m) (kind : FaultKind) → read_statements flow (statement_row rest) ≡ Some kind → At kind (λ f. ReadInBlock f flow rest)
  read_block_found flow end_of-Statement kind h = absurd (cc h)
  read_block_found flow (more_of-Statement a at rest) kind h = elim (either (read_statement flow (statement_of_kind a)) _ kind h) [
    | inl z ↦ (let w = read_statement_found flow a kind z in (w.0, inl w.1))
    | inr z ↦
        (let v = with_some (flow_of_statement (statement_of_kind a) flow) (λ g. read_statements g (statement_row rest)) kind z in
        let w = read_block_found v.0 rest kind v.2 in
        (w.0, inr (v.0, v.1, w.1)))
  ]

pub read_body_found : (flow : Flow) (body : List a.Statement) (kind : FaultKind) → read_statements flow (statements_of body) ≡ Some kind → At kind (λ f. ReadInBody f flow body)
read_body_found flow [] kind h = absurd (cc h)
read_body_found flow (x ∷ rest) kind h = elim (either (read_statement flow (statement_of x)) _ kind h) [
  | inl z ↦ (let w = read_statement_found flow x.kind kind z in (w.0, inl w.1))
  | inr z ↦
      (let v = with_some (flow_of_statement (statement_of x) flow) (λ g. read_statements g (statements_of rest)) kind z in
      let w = read_body_found v.0 rest kind v.2 in
      (w.0, inr (v.0, v.1, w.1)))
]
