-- What is wrong with a declaration or a program, and at which place.
use Rattle.std.specs.Prelude.{◌≡◌, ◌⊎◌, nat_le, Bool, true, false, ◌&&◌, ◌||◌, not, List, [], ◌∷◌, map, length, Option, Some, None, is_some}
use Rattle.std.specs.String.{string_bytes}
use Rattle.c0_source.specs.declared.fault.Fault.{Fault}
use Rattle.c0_source.specs.declared.fault.FaultKind.{FaultKind}
use Rattle.c0_source.specs.declared.fault.FaultKind.TheVariants as k
use Rattle.c0_source.specs.declared.fault.Span.{Span}
use Rattle.c0_syntax.specs.declared.name.Name as n
use Rattle.c0_syntax.specs.declared.statement.Spec as p
use Rattle.c0_syntax.specs.declared.statement.Annotation.{Annotation}
use Rattle.c0_syntax.specs.declared.statement.Statement.{Statement}
use Rattle.c0_syntax.specs.declared.program.TypedName.{TypedName}
use Rattle.c0_syntax.specs.declared.program.Header.{Header}
use Rattle.c0_syntax.specs.declared.program.DeclarationKind.{DeclarationKind}
use Rattle.c0_syntax.specs.declared.program.DeclarationKind.TheVariants as d
use Rattle.c0_syntax.specs.declared.program.Declaration.{Declaration}
use Rattle.c0_syntax.specs.declared.program.Program.{Program}
use Rattle.c0_syntax.specs.Views.{name_of, spec_of, statements_of, typed_name_of, header_of, declaration_of, program_of}
use Rattle.c0_rules.specs.Types.{Name, is_among, ResolvedType, VoidType, same_type, result_type, FieldEntry, Signature, Environment, output_named, is_ascii}
use Rattle.c0_rules.specs.Mentions.{Mention, OfVariable, OfFunction, OfText, statements_assign}
use Rattle.c0_rules.specs.Expressions.{Context}
use Rattle.c0_rules.specs.Assignment.{Reached, has_ended, after_statements}
use Rattle.c0_rules.specs.Statements.{Precondition, Postcondition, role_of, same_role}
use Rattle.c0_rules.specs.Programs.{names_of, parameter_types, parameters_from, same_signature, names_function, is_assigned_parameter, signature, with_function, result_of, Parts, typed_parts, fields_of, cells_in, cell_limit, Elaboration, is_conio, typed_declaration, typed_declarations, beginning, main_name, is_defined, is_main, is_callable}
use Rattle.c0_rules.specs.FaultExpressions.{Told, TypeCause, SmallTypeCause, ResultTypeCause, HeldTypeCause}
use Rattle.c0_rules.specs.FaultStatements.{InCondition, InBody}
use Rattle.c0_rules.specs.FaultPaths.{NamedInSpecs, NamedInAnnotations, NamedInBody, ReadInBody}

module _ (fault : Fault) where
  -- ---- headers

  -- a name that stands among these, or twice in the list
  abbrev pub SecondName : List Name → List TypedName → Type 0
  SecondName seen [] = ⊥
  SecondName seen (x ∷ rest) = ((is_among (name_of x.name) seen ≡ true) × Told k.DuplicateName x.name.span fault) ⊎ SecondName (name_of x.name ∷ seen) rest

  -- a parameter of a wrong type
  abbrev pub ParameterCause : Environment → List TypedName → Type 0
  ParameterCause env [] = ⊥
  ParameterCause env (x ∷ rest) = SmallTypeCause env.typedefs fault x.value_type ⊎ ParameterCause env rest

  -- a name that is that of an output call in use, or of a function that is defined a second time
  abbrev pub NameCause : Environment → Bool → n.Name → Type 0
  NameCause env defined x =
      ((is_some (output_named env.conio (name_of x)) || (defined && is_defined (env.functions (name_of x)))) ≡ true) × Told k.DuplicateName x.span fault

  -- a parameter of a definition whose name is that of a function, of its own function, or of an output call in use
  abbrev pub FunctionParameter : Environment → Name → List TypedName → Type 0
  FunctionParameter env own [] = ⊥
  FunctionParameter env own (x ∷ rest) = ((names_function env own (name_of x.name) ≡ true) × Told k.DuplicateName x.name.span fault) ⊎ FunctionParameter env own rest

  -- a declaration with other types than an earlier one; a second definition is told as one
  abbrev pub OtherTypesCause : Signature → Signature → Span → Type 0
  OtherTypesCause f old span = ((f.defined && old.defined) ≡ false) × (same_signature f old ≡ false) × Told k.DeclMismatch span fault

  -- A header. Names are looked at whatever the types are that stand behind them; that two declarations differ shows once all types are right.
  abbrev pub InHeader : Environment → Bool → Header → Type 0
  InHeader env defined h =
      ResultTypeCause env.typedefs fault h.result ⊎ NameCause env defined h.name ⊎ ParameterCause env h.parameters.items ⊎ SecondName [] h.parameters.items
      ⊎ ((defined ≡ true) × FunctionParameter env (name_of h.name) h.parameters.items)
      ⊎ ((r : ResolvedType) × (rs : List ResolvedType) × (old : Signature)
      × (result_type env.typedefs ((header_of h).result) ≡ Some r) × (parameter_types env.typedefs ((header_of h).parameters) ≡ Some rs) × (env.functions (name_of h.name) ≡ Some old)
      × OtherTypesCause (record { name = name_of h.name; result = r; parameters = rs; defined = defined }) old h.name.span)

  -- ---- contracts and bodies

  -- a spec that is neither `requires` nor `ensures`, or that has a fault in it
  abbrev pub InContract : Environment → Context → Context → List p.Spec → Type 0
  InContract env before behind [] = ⊥
  InContract env before behind (x ∷ rest) =
      (((same_role Precondition (role_of (spec_of x)) || same_role Postcondition (role_of (spec_of x))) ≡ false) × Told k.BadContract x.word fault)
      ⊎ ((same_role Precondition (role_of (spec_of x)) ≡ true) × InCondition env fault before x.condition)
      ⊎ ((same_role Postcondition (role_of (spec_of x)) ≡ true) × InCondition env fault behind x.condition)
      ⊎ InContract env before behind rest

  -- the same in annotations
  abbrev pub InContracts : Environment → Context → Context → List Annotation → Type 0
  InContracts env before behind [] = ⊥
  InContracts env before behind (x ∷ rest) = InContract env before behind x.specs.items ⊎ InContracts env before behind rest

  -- any spec, where there may be none
  abbrev pub AnySpec : List p.Spec → Type 0
  AnySpec [] = ⊥
  AnySpec (x ∷ rest) = Told k.BadContract x.word fault ⊎ AnySpec rest

  -- the same in annotations
  abbrev pub AnySpecs : List Annotation → Type 0
  AnySpecs [] = ⊥
  AnySpecs (x ∷ rest) = AnySpec x.specs.items ⊎ AnySpecs rest

  -- an assigned parameter that `ensures` reads
  abbrev pub AssignedParameter : (Mention → Bool) → List p.Spec → Type 0
  AssignedParameter test [] = ⊥
  AssignedParameter test (x ∷ rest) =
      ((same_role Postcondition (role_of (spec_of x)) ≡ true) × NamedInSpecs test k.BadContract fault (x ∷ [])) ⊎ AssignedParameter test rest

  -- the same in annotations
  abbrev pub AssignedParameters : (Mention → Bool) → List Annotation → Type 0
  AssignedParameters test [] = ⊥
  AssignedParameters test (x ∷ rest) = AssignedParameter test x.specs.items ⊎ AssignedParameters test rest

  -- whether a name is that of a parameter that the body assigns to
  abbrev pub is_assigned_in : List TypedName → List Statement → Mention → Bool
  is_assigned_in parameters body (OfVariable x) = is_assigned_parameter (names_of (map typed_name_of parameters)) (statements_assign (statements_of body)) x
  is_assigned_in parameters body _ = false

  -- a path of a function that doesn't end in `return` or `error`, whatever it reads
  abbrev pub NoReturnCause : Signature → Header → List Statement → Type 0
  NoReturnCause f h body =
      (has_ended (after_statements (statements_of body) (Reached [])) ≡ false) × (same_type f.result VoidType ≡ false) × Told k.NoReturn h.name.span fault

  -- the paths of a function
  abbrev pub InPaths : Signature → Header → List Statement → Type 0
  InPaths f h body = NoReturnCause f h body ⊎ ReadInBody fault (Reached []) body

  -- the contract and the types of a function; what its contract reads is looked at whatever the types of its body are
  abbrev pub InTypes : Environment → Signature → Header → List Statement → Type 0
  InTypes env f h body =
      let locals = parameters_from 1 ((header_of h).parameters) f.parameters in
      InContracts env (record { locals = locals; result = None }) (record { locals = locals; result = result_of f.result }) h.annotations.items
      ⊎ AssignedParameters (is_assigned_in h.parameters.items body) h.annotations.items
      ⊎ InBody env fault (record { locals = locals; parameters = length f.parameters; declared = []; result = f.result; in_loop = false }) body

  -- a function with its body, in an environment with its own name
  abbrev pub InFunction : Environment → Signature → Header → List Statement → Type 0
  InFunction env f h body = InTypes env f h body ⊎ ((x : Parts) × (typed_parts env f (header_of h) (statements_of body) ≡ Some x) × InPaths f h body)

  -- ---- declarations

  -- a field of a wrong type
  abbrev pub InFields : Environment → List TypedName → Type 0
  InFields env [] = ⊥
  InFields env (x ∷ rest) = HeldTypeCause env fault x.value_type ⊎ InFields env rest

  -- a struct of too many cells
  abbrev pub LargeCause : Environment → List TypedName → Span → Type 0
  LargeCause env items span =
      (fields : List FieldEntry) × (fields_of env (map typed_name_of items) ≡ Some fields) × (nat_le (cells_in env.structs fields) cell_limit ≡ false) × Told k.TooLarge span fault

  -- a `#use` of another library, or behind a declaration
  abbrev pub UseCause : Elaboration → Bool → Name → Span → Type 0
  UseCause e in_brackets library span = ((is_conio in_brackets library && not e.begun) ≡ false) × Told k.BadUse span fault

  -- the fault has its cause in this declaration
  abbrev pub InDeclaration : Elaboration → DeclarationKind → Span → Type 0
  InDeclaration e (d.UseName text) span = UseCause e true (string_bytes text) span
  InDeclaration e (d.UseText text) span = UseCause e false (string_bytes text) span
  InDeclaration e (d.DeclareStruct x) span = ⊥
  InDeclaration e (d.DefineStruct x fields) span =
      ((is_some (e.environment.structs (name_of x)) ≡ true) × Told k.DuplicateName x.span fault)
      ⊎ SecondName [] fields.items ⊎ InFields e.environment fields.items ⊎ LargeCause e.environment fields.items x.span
  InDeclaration e (d.Typedef ty x) span = TypeCause e.environment.typedefs fault ty.kind ty.span
  InDeclaration e (d.DeclareFunction h) span = InHeader e.environment false h ⊎ AnySpecs h.annotations.items
  InDeclaration e (d.DefineFunction h body) span =
      InHeader e.environment true h
      ⊎ ((f : Signature) × (signature e.environment true (header_of h) ≡ Some f) × InFunction (with_function f e.environment) f h body.items)

  -- ... in one of these declarations
  abbrev pub InDeclarations : Elaboration → List Declaration → Type 0
  InDeclarations e [] = ⊥
  InDeclarations e (x ∷ rest) =
      InDeclaration e x.kind x.span ⊎ ((next : Elaboration) × (typed_declaration (declaration_of x) e ≡ Some next) × InDeclarations next rest)

  -- ---- the whole program

  -- a definition of `main`
  abbrev pub MainDefined : DeclarationKind → Type 0
  MainDefined (d.DefineFunction h body) = (name_of h.name ≡ main_name) × Told k.BadMain h.span fault
  MainDefined _ = ⊥

  -- ... among these declarations
  abbrev pub MainAmong : List Declaration → Type 0
  MainAmong [] = ⊥
  MainAmong (x ∷ rest) = MainDefined x.kind ⊎ MainAmong rest

  -- no `main` is defined, or one that is not `int main()`
  abbrev pub MainCause : Span → List Declaration → Option Signature → Type 0
  MainCause ending declarations o =
      ((is_defined o ≡ false) × Told k.BadMain ending fault)
      ⊎ ((is_defined o ≡ true) × (is_main o ≡ false) × MainAmong declarations)

  -- whether a name is called that has no definition
  abbrev pub is_undefined : Environment → Mention → Bool
  is_undefined env (OfFunction x) = not (is_callable env x)
  is_undefined env _ = false

  -- whether a text goes beyond ASCII
  abbrev pub is_beyond : Mention → Bool
  is_beyond (OfText x) = not (is_ascii x)
  is_beyond _ = false

  -- a name or a text of this sort, in the contract or the body of a definition
  abbrev pub NamedInDefinition : (Mention → Bool) → FaultKind → DeclarationKind → Type 0
  NamedInDefinition test kind (d.DefineFunction h body) = NamedInAnnotations test kind fault h.annotations.items ⊎ NamedInBody test kind fault body.items
  NamedInDefinition test kind _ = ⊥

  -- ... in one of these declarations
  abbrev pub NamedAmong : (Mention → Bool) → FaultKind → List Declaration → Type 0
  NamedAmong test kind [] = ⊥
  NamedAmong test kind (x ∷ rest) = NamedInDefinition test kind x.kind ⊎ NamedAmong test kind rest

  -- `main`, a call of a function without a definition, or a text that no source can hold
  abbrev pub InWhole : Span → Environment → List Declaration → Type 0
  InWhole ending env declarations =
      MainCause ending declarations (env.functions main_name) ⊎ NamedAmong (is_undefined env) k.NotDefined declarations ⊎ NamedAmong is_beyond k.BadToken declarations

-- the place behind a program's text
abbrev pub ending : Program → Span
ending program = record { start = program.end; end = program.end }

-- The fault has its cause in this program, at its place. Each declaration is looked at behind those before it; what is
-- looked at in the whole program comes behind all of them.
abbrev pub FaultAt : Program → Fault → Type 0
FaultAt program fault =
    InDeclarations fault (beginning (program_of program)) program.declarations.items
    ⊎ ((e : Elaboration) × (typed_declarations (program_of program) (beginning (program_of program)) ≡ Some e)
    × InWhole fault (ending program) e.environment program.declarations.items)
