-- Which tokens of a text are those of a declaration, and that each of its parts stands where they do.
use Rattle.std.specs.Prelude.{◌≡◌, List, [], ◌∷◌}
use Rattle.c0_source.specs.Spelling.{Lexeme}
use Rattle.c0_syntax.specs.Trees as t
use Rattle.c0_syntax.specs.Views.{declaration_of, header_of, type_of, typed_name_of}
use Rattle.c0_syntax.specs.declared.program.TypedName.{TypedName}
use Rattle.c0_syntax.specs.declared.program.Header.{Header}
use Rattle.c0_syntax.specs.declared.program.DeclarationKind.{DeclarationKind}
use Rattle.c0_syntax.specs.declared.program.DeclarationKind.TheVariants as d
use Rattle.c0_syntax.specs.declared.program.Declaration.{Declaration}
use Rattle.c0_syntax.specs.declared.program.Program.{Program}
use Rattle.c0_grammar_laws.specs.Places.{IsPlaced, PlacedName, PlacedType, Position, after_type, skip}
use Rattle.c0_grammar_laws.specs.PlacedStatements.{PlacedAnnotations, PlacedStatements, after_annotations, after_statements}

-- the position behind a type and a name
abbrev pub after_typed_name : t.TypedName → Position → Position
after_typed_name x p = skip (after_type x.value_type p)

-- ... behind fields or parameters, each with the token behind it
abbrev pub after_typed_names : List t.TypedName → Position → Position
after_typed_names [] p = p
after_typed_names (x ∷ xs) p = after_typed_names xs (skip (after_typed_name x p))

-- ... behind parameters and the closing parenthesis
abbrev pub after_parameters : List t.TypedName → Position → Position
after_parameters [] p = skip p
after_parameters (x ∷ xs) p = after_typed_names (x ∷ xs) p

-- ... behind a function's result, name and parameters
abbrev pub after_parentheses : t.Header → Position → Position
after_parentheses h p = after_parameters h.parameters (skip (skip (after_type h.result p)))

-- ... behind a function up to its body
abbrev pub after_header : t.Header → Position → Position
after_header h p = after_annotations h.annotations (after_parentheses h p)

-- ... behind a declaration
abbrev pub after_declaration : t.Declaration → Position → Position
after_declaration (t.UseLibrary angle x) p = skip p
after_declaration (t.DeclareStruct x) p = skip (skip (skip p))
after_declaration (t.DefineStruct x fs) p = skip (skip (after_typed_names fs (skip (skip (skip p)))))
after_declaration (t.Typedef ty x) p = skip (skip (after_type ty (skip p)))
after_declaration (t.DeclareFunction h) p = skip (after_header h p)
after_declaration (t.DefineFunction h body) p = after_statements body (skip (after_header h p))

-- a type and a name have the places of their tokens
abbrev pub PlacedTypedName : Position → TypedName → Type 0
PlacedTypedName p x = PlacedType p x.value_type × PlacedName (after_type (type_of x.value_type) p) x.name

-- ... each of them, which has one token behind it
abbrev pub PlacedTypedNames : Position → List TypedName → Type 0
PlacedTypedNames p [] = Unit {0}
PlacedTypedNames p (x ∷ xs) = PlacedTypedName p x × PlacedTypedNames (skip (after_typed_name (typed_name_of x) p)) xs

-- the parts of a header have the places of their tokens, and it has that from its result to the closing parenthesis
abbrev pub PlacedHeader : Position → Header → Type 0
PlacedHeader p h =
    IsPlaced h.span p (after_parentheses (header_of h) p) × PlacedType p h.result × PlacedName (after_type (type_of h.result) p) h.name
    × PlacedTypedNames (skip (skip (after_type (type_of h.result) p))) h.parameters.items × PlacedAnnotations (after_parentheses (header_of h) p) h.annotations.items

-- each part of a declaration by its kind has the place of its tokens
abbrev pub PlacedDeclarationKind : Position → DeclarationKind → Type 0
PlacedDeclarationKind p (d.UseName text) = Unit {0}
PlacedDeclarationKind p (d.UseText text) = Unit {0}
PlacedDeclarationKind p (d.DeclareStruct x) = PlacedName (skip p) x
PlacedDeclarationKind p (d.DefineStruct x fs) = PlacedName (skip p) x × PlacedTypedNames (skip (skip (skip p))) fs.items
PlacedDeclarationKind p (d.Typedef ty x) = PlacedType (skip p) ty × PlacedName (after_type (type_of ty) (skip p)) x
PlacedDeclarationKind p (d.DeclareFunction h) = PlacedHeader p h
PlacedDeclarationKind p (d.DefineFunction h body) = PlacedHeader p h × PlacedStatements (skip (after_header (header_of h) p)) body.items

-- ... and the declaration itself
abbrev pub PlacedDeclaration : Position → Declaration → Type 0
PlacedDeclaration p x = IsPlaced x.span p (after_declaration (declaration_of x) p) × PlacedDeclarationKind p x.kind

-- ... of declarations in order
abbrev pub PlacedDeclarations : Position → List Declaration → Type 0
PlacedDeclarations p [] = Unit {0}
PlacedDeclarations p (x ∷ xs) = PlacedDeclaration p x × PlacedDeclarations (after_declaration (declaration_of x) p) xs

-- each part of a program begins where the first of its tokens does, and ends where the last one does
abbrev pub PlacedIn : List Lexeme → Program → Type 0
PlacedIn tokens program = PlacedDeclarations (record { tokens = tokens; end = 0 }) program.declarations.items

-- ---- trees between two positions

-- a type and a name are all that stands between these positions
abbrev pub TypedNameStands : Position → TypedName → Position → Type 0
TypedNameStands p x q = PlacedTypedName p x × (after_typed_name (typed_name_of x) p ≡ q)

-- ... a header
abbrev pub HeaderStands : Position → Header → Position → Type 0
HeaderStands p h q = PlacedHeader p h × (after_header (header_of h) p ≡ q)

-- ... a declaration
abbrev pub DeclarationStands : Position → Declaration → Position → Type 0
DeclarationStands p x q = PlacedDeclaration p x × (after_declaration (declaration_of x) p ≡ q)
