-- The static rules of declarations and programs.
use Rattle.std.specs.Prelude.{◌≡◌, ℕ, suc, ◌+◌, nat_le, Bool, true, false, ◌&&◌, ◌||◌, not, List, [], ◌∷◌, ◌++◌, map, length, Option, Some, None, is_some, bytes_eq, flat_map, filter_map, codes}
use Rattle.std.specs.List.{list_all, list_any}
use Rattle.c0_syntax.specs.Trees.{Spec, Statements, TypedName, Header, Declaration, UseLibrary, DeclareStruct, DefineStruct, Typedef, DeclareFunction, DefineFunction, Program}
use Rattle.c0_typed.specs.Trees as t
use Rattle.c0_rules.specs.Types.{and_so, provided, Name, is_among, are_distinct, number_in, no_names, with_name, ResolvedType, VoidType, IntType, same_type, same_types, Table, resolved_type, small_type, result_type, FieldEntry, StructEntry, field_of, Signature, Environment, cells_of, output_named, is_ascii}
use Rattle.c0_rules.specs.Mentions.{variables_in, condition_of, specs_in, statements_assign, texts_of, calls_of}
use Rattle.c0_rules.specs.Expressions.{Local, num}
use Rattle.c0_rules.specs.Assignment.{Reached, has_ended, flow_of_statements}
use Rattle.c0_rules.specs.Statements.{Precondition, Postcondition, role_of, same_role, Checked, conditions, is_function, typed_statements}

-- ---- functions

-- the types of parameters
abbrev pub parameter_types : Table ResolvedType → List TypedName → Option (List ResolvedType)
parameter_types typedefs [] = Some []
parameter_types typedefs (x ∷ rest) = and_so (small_type typedefs x.value_type) (λ r. and_so (parameter_types typedefs rest) (λ rs. Some (r ∷ rs)))

-- the names of parameters or of fields
abbrev pub names_of : List TypedName → List Name
names_of items = map (λ x. x.name) items

-- the parameters as locals, numbered from k
abbrev pub parameters_from : ℕ → List TypedName → List ResolvedType → List Local
parameters_from k (x ∷ rest) (r ∷ rs) = record { name = x.name; number = k; resolved = r } ∷ parameters_from (suc k) rest rs
parameters_from k _ _ = []

-- whether results and parameters are equal
abbrev pub same_signature : Signature → Signature → Bool
same_signature f g = same_type f.result g.result && same_types f.parameters g.parameters

-- whether a declaration may stand behind what was declared of its name: equal types, and no second definition
abbrev pub agrees : Signature → Option Signature → Bool
agrees f None = true
agrees f (Some g) = same_signature f g && not (f.defined && g.defined)

-- whether a function of this name has been defined
abbrev pub is_defined : Option Signature → Bool
is_defined None = false
is_defined (Some g) = g.defined

-- whether a name is that of a function in scope, of the one whose header this is, or of an output call in use
abbrev pub names_function : Environment → Name → Name → Bool
names_function env own n = is_function env n || bytes_eq n own

-- whether no parameter has such a name; those of a declaration alone are no locals, and may
abbrev pub are_locals : Environment → Bool → Name → List Name → Bool
are_locals env defined own names = not defined || list_all (λ n. not (names_function env own n)) names

-- whether a header's names may stand where they do
abbrev pub names_agree : Environment → Header → Signature → Bool
names_agree env h f =
    are_distinct (names_of h.parameters) && not (is_some (output_named env.conio h.name)) && agrees f (env.functions h.name)
    && are_locals env f.defined h.name (names_of h.parameters)

-- what a header declares
abbrev pub signature : Environment → Bool → Header → Option Signature
signature env defined h =
    and_so (result_type env.typedefs h.result) (λ r. and_so (parameter_types env.typedefs h.parameters) (λ rs.
    let f : Signature = record { name = h.name; result = r; parameters = rs; defined = defined } in
    provided (names_agree env h f) (Some f)))

-- behind the declaration of a function: it is in scope, and defined once it has been
abbrev pub with_function : Signature → Environment → Environment
with_function f env = record env { functions = with_name f.name (record f { defined = f.defined || is_defined (env.functions f.name) }) env.functions }

-- the type of `\result`; a void function has none
abbrev pub result_of : ResolvedType → Option ResolvedType
result_of VoidType = None
result_of r = Some r

-- whether specs are all `requires` or `ensures`
abbrev pub are_contracts : List Spec → Bool
are_contracts specs = list_all (λ s. same_role Precondition (role_of s) || same_role Postcondition (role_of s)) specs

-- the variables that `ensures` reads
abbrev pub names_in_ensures : List Spec → List Name
names_in_ensures specs = flat_map (λ s. elim (same_role Postcondition (role_of s)) [ true ↦ variables_in (condition_of s) | false ↦ [] ]) specs

-- whether a name is one of these parameters, and one of the names that are assigned
abbrev pub is_assigned_parameter : List Name → List Name → Name → Bool
is_assigned_parameter parameters assigned n = is_among n parameters && is_among n assigned

-- whether the body assigns to no parameter that `ensures` reads
abbrev pub keeps_parameters : Header → Statements → Bool
keeps_parameters h body = not (list_any (is_assigned_parameter (names_of h.parameters) (statements_assign body)) (names_in_ensures (specs_in h.annotations)))

-- whether the rules hold that look at a function's paths, once its types are right
abbrev pub paths_agree : Signature → Statements → Bool
paths_agree f body = elim (flow_of_statements body (Reached [])) [ None ↦ false | Some flow ↦ has_ended flow || same_type f.result VoidType ]

-- the parts of a function: its contract, and its body with what is in scope behind it
pub record Parts : Type 0 where
  pub requires : t.Exps
  pub ensures : t.Exps
  pub checked : Checked

-- The parts of a function by the rules of names, contracts and types, where its own name is in scope. Its parameters are locals.
abbrev pub typed_parts : Environment → Signature → Header → Statements → Option Parts
typed_parts env f h body =
    let specs = specs_in h.annotations in
    let locals = parameters_from 1 h.parameters f.parameters in
    provided (keeps_parameters h body) (provided (are_contracts specs) (
    and_so (conditions env Precondition (record { locals = locals; result = None }) specs) (λ before.
    and_so (conditions env Postcondition (record { locals = locals; result = result_of f.result }) specs) (λ behind.
    and_so (typed_statements env body (record { locals = locals; parameters = length f.parameters; declared = []; result = f.result; in_loop = false })) (λ x.
    Some (record { requires = before; ensures = behind; checked = x }))))))

-- a function of a typed tree
abbrev pub function_from : Environment → Signature → Parts → t.Function
function_from env f x = record {
  result = num env f.result;
  parameters = map (num env) f.parameters;
  locals = map (num env) x.checked.scope.declared;
  requires = x.requires;
  ensures = x.ensures;
  body = x.checked.statement;
}

-- a function
abbrev pub typed_function : Environment → Signature → Header → Statements → Option t.Function
typed_function env f h body =
    and_so (typed_parts env f h body) (λ x. provided (paths_agree f body) (Some (function_from env f x)))

-- ---- structs

-- the fields of a struct, each of a type that memory can hold here
abbrev pub fields_of : Environment → List TypedName → Option (List FieldEntry)
fields_of env [] = Some []
fields_of env (x ∷ rest) =
    and_so (resolved_type env.typedefs x.value_type) (λ r. and_so (cells_of env.structs r) (λ c.
    and_so (fields_of env rest) (λ fields. Some (record { name = x.name; resolved = r } ∷ fields))))

-- the cells of a field
abbrev pub field_cells : Table StructEntry → FieldEntry → ℕ
field_cells structs f = elim (cells_of structs f.resolved) [ None ↦ 0 | Some c ↦ c ]

-- the cells of all fields
abbrev pub cells_in : Table StructEntry → List FieldEntry → ℕ
cells_in structs [] = 0
cells_in structs (f ∷ fields) = field_cells structs f + cells_in structs fields

-- the types of fields
abbrev pub field_types : List FieldEntry → List ResolvedType
field_types fields = map (λ f. f.resolved) fields

-- the most cells of a struct
abbrev pub cell_limit : ℕ
cell_limit = 4096

-- ---- declarations

-- What stands before a declaration: its environment, whether anything but `#use` stands there, and the structs and functions that are defined.
pub record Elaboration : Type 0 where
  pub environment : Environment
  pub begun : Bool
  pub structs : List (List t.Ty)
  pub functions : List t.Function

-- with a new struct
abbrev pub with_struct : Name → List FieldEntry → Elaboration → Elaboration
with_struct n fields e = record e {
  begun = true;
  environment = record e.environment { structs = with_name n (record { fields = field_of 0 fields; cells = cells_in e.environment.structs fields }) e.environment.structs };
  structs = e.structs ++ map (num e.environment) (field_types fields) ∷ [];
}

-- with a new typedef
abbrev pub with_typedef : Name → ResolvedType → Elaboration → Elaboration
with_typedef n r e = record e { begun = true; environment = record e.environment { typedefs = with_name n r e.environment.typedefs } }

-- whether `#use` names the one library that there is
abbrev pub is_conio : Bool → Name → Bool
is_conio in_brackets n = in_brackets && bytes_eq n (codes "conio")

-- whether there are no specs
abbrev pub are_none : List Spec → Bool
are_none [] = true
are_none (s ∷ specs) = false

-- a declaration
abbrev pub typed_declaration : Declaration → Elaboration → Option Elaboration
typed_declaration (UseLibrary in_brackets n) e = provided (is_conio in_brackets n && not e.begun) (Some e)
typed_declaration (DeclareStruct n) e = Some (record e { begun = true })
typed_declaration (DefineStruct n items) e =
    provided (not (is_some (e.environment.structs n)) && are_distinct (names_of items)) (
    and_so (fields_of e.environment items) (λ fields.
    provided (nat_le (cells_in e.environment.structs fields) cell_limit) (Some (with_struct n fields e))))
typed_declaration (Typedef a n) e = and_so (resolved_type e.environment.typedefs a) (λ r. Some (with_typedef n r e))
typed_declaration (DeclareFunction h) e =
    and_so (signature e.environment false h) (λ f.
    provided (are_none (specs_in h.annotations)) (Some (record e { begun = true; environment = with_function f e.environment })))
typed_declaration (DefineFunction h body) e =
    and_so (signature e.environment true h) (λ f. and_so (typed_function (with_function f e.environment) f h body) (λ g.
    Some (record e { begun = true; environment = with_function f e.environment; functions = e.functions ++ g ∷ [] })))

-- declarations in order
abbrev pub typed_declarations : List Declaration → Elaboration → Option Elaboration
typed_declarations [] e = Some e
typed_declarations (d ∷ rest) e = and_so (typed_declaration d e) (typed_declarations rest)

-- ---- programs

-- the struct that a declaration defines
abbrev pub struct_defined : Declaration → Option Name
struct_defined (DefineStruct n items) = Some n
struct_defined _ = None

-- the function that a declaration defines
abbrev pub function_defined : Declaration → Option Name
function_defined (DefineFunction h body) = Some h.name
function_defined _ = None

-- whether conio is used before the first declaration that is no `#use`
abbrev pub begins_with_conio : Program → Bool
begins_with_conio (UseLibrary in_brackets n ∷ rest) = is_conio in_brackets n || begins_with_conio rest
begins_with_conio _ = false

-- the names of the structs that a program defines, in order
abbrev pub struct_names_of : Program → List Name
struct_names_of program = filter_map struct_defined program

-- the names of the functions that a program defines, in order
abbrev pub function_names_of : Program → List Name
function_names_of program = filter_map function_defined program

-- what is known at the beginning of a program
abbrev pub environment_of : Program → Environment
environment_of program = record {
  conio = begins_with_conio program;
  struct_names = struct_names_of program;
  function_names = function_names_of program;
  typedefs = no_names;
  structs = no_names;
  functions = no_names;
}

-- before the first declaration
abbrev pub beginning : Program → Elaboration
beginning program = record { environment = environment_of program; begun = false; structs = []; functions = [] }

-- the name of the function that a program begins with
abbrev pub main_name : Name
main_name = codes "main"

-- whether this is `int main()`, defined
abbrev pub is_main : Option Signature → Bool
is_main None = false
is_main (Some f) = f.defined && same_type f.result IntType && same_types f.parameters []

-- whether what is called has a definition: in the program, or as an output call in use
abbrev pub is_callable : Environment → Name → Bool
is_callable env n = is_some (output_named env.conio n) || is_among n env.function_names

-- whether the rules hold that look at the whole program: `main`, what is called, and its texts
abbrev pub whole_agrees : Program → Elaboration → Bool
whole_agrees program e =
    is_main (e.environment.functions main_name)
    && list_all (is_callable e.environment) (calls_of program)
    && list_all is_ascii (texts_of program)

-- the typed tree of what is declared
abbrev pub program_from : Program → Elaboration → t.Program
program_from program e = record {
  structs = e.structs;
  functions = e.functions;
  texts = texts_of program;
  main = number_in e.environment.function_names main_name;
}

-- the typed tree of a program, or none where it breaks a rule
abbrev pub typed_program : Program → Option t.Program
typed_program program =
    and_so (typed_declarations program (beginning program)) (λ e. provided (whole_agrees program e) (Some (program_from program e)))

-- a program keeps all the static rules
abbrev pub WellTyped : Program → Type 0
WellTyped program = (p : t.Program) × (typed_program program ≡ Some p)
