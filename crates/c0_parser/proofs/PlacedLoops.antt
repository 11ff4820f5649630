-- Where the parts that loops read stand.
use Rattle.std.proofs.Common.{◌≡◌, List, [], ◌∷◌, ◌++◌, map, ap, sym, ◌∙◌}
use Rattle.c0_syntax.specs.declared.statement.Spec.{Spec}
use Rattle.c0_syntax.specs.declared.statement.Annotation.{Annotation}
use Rattle.c0_syntax.specs.declared.statement.Statement.{Statement}
use Rattle.c0_syntax.specs.declared.program.TypedName.{TypedName}
use Rattle.c0_syntax.specs.declared.program.Declaration.{Declaration}
use Rattle.c0_syntax.specs.Views.{annotation_of, declaration_of, spec_of, statement_of, statements_of, typed_name_of}
use Rattle.c0_grammar_laws.specs.Places.{Position, skip}
use Rattle.c0_grammar_laws.specs.PlacedStatements.{AnnotationStands, PlacedAnnotations, PlacedSpecs, PlacedStatements, SpecStands, StatementStands, StatementsStand, after_annotation, after_annotations, after_each_spec, after_each_statement, after_spec, after_statement}
use Rattle.c0_grammar_laws.specs.PlacedPrograms.{DeclarationStands, PlacedDeclarations, PlacedTypedNames, TypedNameStands, after_declaration, after_parameters, after_typed_name, after_typed_names}
use Rattle.c0_grammar_laws.proofs.PlacedLists.{after_annotation_push, after_declaration_push, after_declarations, after_name_push, after_some_parameters, after_spec_push, after_statement_push, annotations_placed_push, behind_statements, declarations_placed_push, names_placed_push, specs_placed_push, statements_placed_push}
use Rattle.c0_parser.specs.Stands.{FieldStands, ParametersStand}

pub specs_grow : (p m q : Position) (xs all : List Spec) (x : Spec) → all ≡ xs ++ x ∷ [] → PlacedSpecs p xs × (after_each_spec (map spec_of xs) p ≡ m) → SpecStands m x q → PlacedSpecs p all × (after_each_spec (map spec_of all) p ≡ q)
specs_grow p m q xs all x same so_far stands = rw same (specs_placed_push p m xs x so_far.0 so_far.1 stands.0, after_spec_push p xs x ∙ (ap (after_spec (spec_of x)) so_far.1 ∙ stands.1))

pub annotations_grow : (p m q : Position) (xs all : List Annotation) (x : Annotation) → all ≡ xs ++ x ∷ [] → PlacedAnnotations p xs × (after_annotations (map annotation_of xs) p ≡ m) → AnnotationStands m x q → PlacedAnnotations p all × (after_annotations (map annotation_of all) p ≡ q)
annotations_grow p m q xs all x same so_far stands = rw same (annotations_placed_push p m xs x so_far.0 so_far.1 stands.0, after_annotation_push p xs x ∙ (ap (after_annotation (annotation_of x)) so_far.1 ∙ stands.1))

pub statements_grow : (p m q : Position) (xs all : List Statement) (x : Statement) → all ≡ xs ++ x ∷ [] → PlacedStatements p xs × (after_each_statement (statements_of xs) p ≡ m) → StatementStands m x q → PlacedStatements p all × (after_each_statement (statements_of all) p ≡ q)
statements_grow p m q xs all x same so_far stands = rw same (statements_placed_push p m xs x so_far.0 so_far.1 stands.0, after_statement_push p xs x ∙ (ap (after_statement (statement_of x)) so_far.1 ∙ stands.1))

pub statements_stand : (p m q : Position) (xs : List Statement) → PlacedStatements p xs × (after_each_statement (statements_of xs) p ≡ m) → skip m ≡ q → StatementsStand p xs q
statements_stand p m q xs so_far last = (so_far.0, behind_statements p (statements_of xs) ∙ (ap skip so_far.1 ∙ last))

pub declarations_grow : (p m q : Position) (xs all : List Declaration) (x : Declaration) → all ≡ xs ++ x ∷ [] → PlacedDeclarations p xs × (after_declarations (map declaration_of xs) p ≡ m) → DeclarationStands m x q → PlacedDeclarations p all × (after_declarations (map declaration_of all) p ≡ q)
declarations_grow p m q xs all x same so_far stands = rw same (declarations_placed_push p m xs x so_far.0 so_far.1 stands.0, after_declaration_push p xs x ∙ (ap (after_declaration (declaration_of x)) so_far.1 ∙ stands.1))

pub fields_grow : (p m q : Position) (xs all : List TypedName) (x : TypedName) → all ≡ xs ++ x ∷ [] → PlacedTypedNames p xs × (after_typed_names (map typed_name_of xs) p ≡ m) → FieldStands m x q → PlacedTypedNames p all × (after_typed_names (map typed_name_of all) p ≡ q)
fields_grow p m q xs all x same so_far stands = rw same (names_placed_push p m xs x so_far.0 so_far.1 stands.0, after_name_push p xs x ∙ (ap (λ o. skip (after_typed_name (typed_name_of x) o)) so_far.1 ∙ stands.1))

pub parameters_grow : (p m n q : Position) (xs all : List TypedName) (x : TypedName) → all ≡ xs ++ x ∷ [] → PlacedTypedNames p xs × (after_typed_names (map typed_name_of xs) p ≡ m) → TypedNameStands m x n → skip n ≡ q → PlacedTypedNames p all × (after_typed_names (map typed_name_of all) p ≡ q)
parameters_grow p m n q xs all x same so_far stands last = fields_grow p m q xs all x same so_far (stands.0, ap skip stands.1 ∙ last)

pub parameters_stand : (p m n q : Position) (xs all : List TypedName) (x : TypedName) → all ≡ xs ++ x ∷ [] → PlacedTypedNames p xs × (after_typed_names (map typed_name_of xs) p ≡ m) → TypedNameStands m x n → skip n ≡ q → ParametersStand p all q
parameters_stand p m n q xs all x same so_far stands last =
    let grown = parameters_grow p m n q xs all x same so_far stands last in
    (grown.0, ap (λ ys. after_parameters (map typed_name_of ys) p) same ∙ (after_some_parameters p xs x ∙ (sym (ap (λ ys. after_typed_names (map typed_name_of ys) p) same) ∙ grown.1)))
