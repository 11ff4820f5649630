-- Statements, specs, annotations, fields and declarations one by one, and statements as the tree of a block holds them.
use Rattle.std.proofs.Common.{◌≡◌, Option, Some, None, List, [], ◌∷◌, ◌++◌, map, refl, subst, sym, rules}
use Rattle.std.specs.declared.vec.Vec.{Vec}
use Rattle.std.specs.declared.alloc.Global.{Global}
use Rattle.c0_syntax.specs.declared.statement.Spec.{Spec}
use Rattle.c0_syntax.specs.declared.statement.Annotation.{Annotation}
use Rattle.c0_syntax.specs.declared.statement.Statement.{Statement}
use Rattle.c0_syntax.specs.declared.statement.StatementKind.{StatementKind, Block', Row_of-Statement, end_of-Statement, more_of-Statement, items-the_row-Statement, the_lemmas as statement_lemmas}
use Rattle.c0_syntax.specs.declared.statement.StatementKind.TheViews.{Block}
use Rattle.c0_syntax.specs.declared.program.TypedName.{TypedName}
use Rattle.c0_syntax.specs.declared.program.Declaration.{Declaration}
use Rattle.c0_syntax.specs.Trees as t
use Rattle.c0_syntax.specs.Views.{annotation_of, declaration_of, spec_of, statement_of, statements_of, typed_name_of}
use Rattle.c0_grammar_laws.specs.Places.{Position, skip}
use Rattle.c0_grammar_laws.specs.PlacedStatements.{PlacedAnnotation, PlacedAnnotations, PlacedSpec, PlacedSpecs, PlacedStatement, PlacedStatementKind, PlacedStatementRow, PlacedStatements, after_annotation, after_annotations, after_each_spec, after_each_statement, after_spec, after_statement, after_statements}
use Rattle.c0_grammar_laws.specs.PlacedPrograms.{PlacedDeclaration, PlacedDeclarations, PlacedTypedName, PlacedTypedNames, after_declaration, after_parameters, after_typed_name, after_typed_names}
use Rattle.c0_grammar_laws.proofs.Placed.{some_same}

-- ---- statements

placed_row : {n : _} (p : Position) (r : Row_of-Statement n) → PlacedStatementRow p r ≡ PlacedStatements p (items-the_row-Statement n r)
placed_row p end_of-Statement = refl
placed_row p (more_of-Statement x at rest) = rw (placed_row (after_statement (statement_of (record { kind = x; span = at })) p) rest) refl

-- the statements of a block
block_in : StatementKind → Option (List Statement)
block_in (Block' shape row) = Some (items-the_row-Statement _ row)
block_in _ = None

block_parts : (all : Vec Statement Global) → block_in (Block all) ≡ Some all.items
unfolding block_in
block_parts all = search (rules, statement_lemmas)

placed_by : (p : Position) (x : StatementKind) (xs : List Statement) → block_in x ≡ Some xs → PlacedStatements (skip p) xs → PlacedStatementKind p x
unfolding block_in
placed_by p (Block' shape row) xs is placed = rw (placed_row (skip p) row) (subst (PlacedStatements (skip p)) (sym (some_same (items-the_row-Statement _ row) xs is)) placed)
placed_by p _ xs is placed = absurd (cc is)

pub placed_block : (p : Position) (all : Vec Statement Global) → PlacedStatements (skip p) all.items → PlacedStatementKind p (Block all)
placed_block p all placed = placed_by p (Block all) all.items (block_parts all) placed

pub statements_placed_push : (p q : Position) (xs : List Statement) (x : Statement) → PlacedStatements p xs → after_each_statement (statements_of xs) p ≡ q → PlacedStatement q x → PlacedStatements p (xs ++ x ∷ [])
statements_placed_push p q [] x placed along stands = (subst (λ o. PlacedStatement o x) (sym along) stands, tt)
statements_placed_push p q (y ∷ xs) x placed along stands = (placed.0, statements_placed_push (after_statement (statement_of y) p) q xs x placed.1 along stands)

pub after_statement_push : (p : Position) (xs : List Statement) (x : Statement) → after_each_statement (statements_of (xs ++ x ∷ [])) p ≡ after_statement (statement_of x) (after_each_statement (statements_of xs) p)
after_statement_push p [] x = refl
after_statement_push p (y ∷ xs) x = after_statement_push (after_statement (statement_of y) p) xs x

pub behind_statements : (p : Position) (xs : t.Statements) → after_statements xs p ≡ skip (after_each_statement xs p)
behind_statements p t.nothing = refl
behind_statements p (t.also x xs) = behind_statements (after_statement x p) xs

-- ---- specs and annotations

pub specs_placed_push : (p q : Position) (xs : List Spec) (x : Spec) → PlacedSpecs p xs → after_each_spec (map spec_of xs) p ≡ q → PlacedSpec q x → PlacedSpecs p (xs ++ x ∷ [])
specs_placed_push p q [] x placed along stands = (subst (λ o. PlacedSpec o x) (sym along) stands, tt)
specs_placed_push p q (y ∷ xs) x placed along stands = (placed.0, specs_placed_push (after_spec (spec_of y) p) q xs x placed.1 along stands)

pub after_spec_push : (p : Position) (xs : List Spec) (x : Spec) → after_each_spec (map spec_of (xs ++ x ∷ [])) p ≡ after_spec (spec_of x) (after_each_spec (map spec_of xs) p)
after_spec_push p [] x = refl
after_spec_push p (y ∷ xs) x = after_spec_push (after_spec (spec_of y) p) xs x

pub annotations_placed_push : (p q : Position) (xs : List Annotation) (x : Annotation) → PlacedAnnotations p xs → after_annotations (map annotation_of xs) p ≡ q → PlacedAnnotation q x → PlacedAnnotations p (xs ++ x ∷ [])
annotations_placed_push p q [] x placed along stands = (subst (λ o. PlacedAnnotation o x) (sym along) stands, tt)
annotations_placed_push p q (y ∷ xs) x placed along stands = (placed.0, annotations_placed_push (after_annotation (annotation_of y) p) q xs x placed.1 along stands)

pub after_annotation_push : (p : Position) (xs : List Annotation) (x : Annotation) → after_annotations (map annotation_of (xs ++ x ∷ [])) p ≡ after_annotation (annotation_of x) (after_annotations (map annotation_of xs) p)
after_annotation_push p [] x = refl
after_annotation_push p (y ∷ xs) x = after_annotation_push (after_annotation (annotation_of y) p) xs x

-- ---- fields, parameters and declarations

pub names_placed_push : (p q : Position) (xs : List TypedName) (x : TypedName) → PlacedTypedNames p xs → after_typed_names (map typed_name_of xs) p ≡ q → PlacedTypedName q x → PlacedTypedNames p (xs ++ x ∷ [])
names_placed_push p q [] x placed along stands = (subst (λ o. PlacedTypedName o x) (sym along) stands, tt)
names_placed_push p q (y ∷ xs) x placed along stands = (placed.0, names_placed_push (skip (after_typed_name (typed_name_of y) p)) q xs x placed.1 along stands)

pub after_name_push : (p : Position) (xs : List TypedName) (x : TypedName) → after_typed_names (map typed_name_of (xs ++ x ∷ [])) p ≡ skip (after_typed_name (typed_name_of x) (after_typed_names (map typed_name_of xs) p))
after_name_push p [] x = refl
after_name_push p (y ∷ xs) x = after_name_push (skip (after_typed_name (typed_name_of y) p)) xs x

-- one parameter or more
pub after_some_parameters : (p : Position) (xs : List TypedName) (x : TypedName) → after_parameters (map typed_name_of (xs ++ x ∷ [])) p ≡ after_typed_names (map typed_name_of (xs ++ x ∷ [])) p
after_some_parameters p [] x = refl
after_some_parameters p (y ∷ xs) x = refl

-- the position behind declarations
abbrev pub after_declarations : List t.Declaration → Position → Position
after_declarations [] p = p
after_declarations (x ∷ xs) p = after_declarations xs (after_declaration x p)

pub declarations_placed_push : (p q : Position) (xs : List Declaration) (x : Declaration) → PlacedDeclarations p xs → after_declarations (map declaration_of xs) p ≡ q → PlacedDeclaration q x → PlacedDeclarations p (xs ++ x ∷ [])
declarations_placed_push p q [] x placed along stands = (subst (λ o. PlacedDeclaration o x) (sym along) stands, tt)
declarations_placed_push p q (y ∷ xs) x placed along stands = (placed.0, declarations_placed_push (after_declaration (declaration_of y) p) q xs x placed.1 along stands)

pub after_declaration_push : (p : Position) (xs : List Declaration) (x : Declaration) → after_declarations (map declaration_of (xs ++ x ∷ [])) p ≡ after_declaration (declaration_of x) (after_declarations (map declaration_of xs) p)
after_declaration_push p [] x = refl
after_declaration_push p (y ∷ xs) x = after_declaration_push (after_declaration (declaration_of y) p) xs x
