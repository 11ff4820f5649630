-- What expressions and statements name: variables that they read, functions that they call, texts that they write.
use Rattle.std.specs.Prelude.{List, [], ◌∷◌, ◌++◌, Option, Some, None, flat_map, filter_map}
use Rattle.c0_syntax.specs.Trees.{Expression, Text, Variable, Parenthesized, Call, AllocArray, Length, Index, Field, PointerField, Unary, Binary, Conditional, Expressions, none, more, Spec, Contract, Asserts, SimpleStatement, Declare, Initialize, Assign, Update, Step, Evaluate, Statement, Simple, Block, Annotation, ReturnValue, If, IfElse, While, For, Assert, Error, Statements, nothing, also, Declaration, DefineFunction, Program}
use Rattle.c0_rules.specs.Types.{Name}

-- a variable that is read, a function that is called, or a text that is written
pub data Mention : Type 0 where
  OfVariable : Name → Mention
  OfFunction : Name → Mention
  OfText : Name → Mention

abbrev mutual
  -- what an expression names, in order
  pub mentions : Expression → List Mention
  mentions (Text x) = OfText x ∷ []
  mentions (Variable n) = OfVariable n ∷ []
  mentions (Parenthesized a) = mentions a
  mentions (Call n arguments) = OfFunction n ∷ argument_mentions arguments
  mentions (AllocArray u a) = mentions a
  mentions (Length a) = mentions a
  mentions (Index a b) = mentions a ++ mentions b
  mentions (Field a n) = mentions a
  mentions (PointerField a n) = mentions a
  mentions (Unary o a) = mentions a
  mentions (Binary o a b) = mentions a ++ mentions b
  mentions (Conditional c a b) = mentions c ++ mentions a ++ mentions b
  mentions _ = []

  -- the same of arguments
  pub argument_mentions : Expressions → List Mention
  argument_mentions none = []
  argument_mentions (more a rest) = mentions a ++ argument_mentions rest

-- the condition of a spec
abbrev pub condition_of : Spec → Expression
condition_of (Contract clause e) = e
condition_of (Asserts e) = e

-- what specs name
abbrev pub spec_mentions : List Spec → List Mention
spec_mentions specs = flat_map (λ s. mentions (condition_of s)) specs

-- the specs of some annotations, in order
abbrev pub specs_in : List (List Spec) → List Spec
specs_in notes = flat_map (λ specs. specs) notes

-- what a simple statement names
abbrev pub simple_mentions : SimpleStatement → List Mention
simple_mentions (Declare a n) = []
simple_mentions (Initialize a n e) = mentions e
simple_mentions (Assign d e) = mentions d ++ mentions e
simple_mentions (Update d o e) = mentions d ++ mentions e
simple_mentions (Step d way) = mentions d
simple_mentions (Evaluate e) = mentions e

-- the same of a part of a `for`
abbrev pub part_mentions : Option SimpleStatement → List Mention
part_mentions None = []
part_mentions (Some a) = simple_mentions a

abbrev mutual
  -- what a statement names, in order
  pub statement_mentions : Statement → List Mention
  statement_mentions (Simple a) = simple_mentions a
  statement_mentions (Block rest) = statements_mentions rest
  statement_mentions (Annotation specs) = spec_mentions specs
  statement_mentions (ReturnValue e) = mentions e
  statement_mentions (If c a) = mentions c ++ statement_mentions a
  statement_mentions (IfElse c a b) = mentions c ++ statement_mentions a ++ statement_mentions b
  statement_mentions (While c notes a) = mentions c ++ spec_mentions (specs_in notes) ++ statement_mentions a
  statement_mentions (For first c third notes a) =
      part_mentions first ++ mentions c ++ part_mentions third ++ spec_mentions (specs_in notes) ++ statement_mentions a
  statement_mentions (Assert e) = mentions e
  statement_mentions (Error e) = mentions e
  statement_mentions _ = []

  -- the same of statements in order
  pub statements_mentions : Statements → List Mention
  statements_mentions nothing = []
  statements_mentions (also a rest) = statement_mentions a ++ statements_mentions rest

-- what a definition of a function names, with its contract
abbrev pub declaration_mentions : Declaration → List Mention
declaration_mentions (DefineFunction h body) = spec_mentions (specs_in h.annotations) ++ statements_mentions body
declaration_mentions _ = []

-- what a program names
abbrev pub program_mentions : Program → List Mention
program_mentions program = flat_map declaration_mentions program

-- ---- of one sort

-- the variable that is read
abbrev pub variable_of : Mention → Option Name
variable_of (OfVariable n) = Some n
variable_of _ = None

-- the function that is called
abbrev pub function_of : Mention → Option Name
function_of (OfFunction n) = Some n
function_of _ = None

-- the text that is written
abbrev pub text_of : Mention → Option Name
text_of (OfText x) = Some x
text_of _ = None

-- the variables that an expression reads
abbrev pub variables_in : Expression → List Name
variables_in e = filter_map variable_of (mentions e)

-- the texts that a program writes, in order
abbrev pub texts_of : Program → List Name
texts_of program = filter_map text_of (program_mentions program)

-- the functions that a program calls, in order
abbrev pub calls_of : Program → List Name
calls_of program = filter_map function_of (program_mentions program)

-- ---- assigned variables

-- a variable, or one in parentheses
abbrev pub as_variable : Expression → Option Name
as_variable (Variable n) = Some n
as_variable (Parenthesized e) = as_variable e
as_variable _ = None

-- the variable that a destination is
abbrev pub destination_names : Expression → List Name
destination_names d = elim (as_variable d) [ None ↦ [] | Some n ↦ n ∷ [] ]

-- the variables that a simple statement assigns to; a declaration assigns to none that stands before it
abbrev pub simple_assigns : SimpleStatement → List Name
simple_assigns (Assign d e) = destination_names d
simple_assigns (Update d o e) = destination_names d
simple_assigns (Step d way) = destination_names d
simple_assigns _ = []

-- the same of a part of a `for`
abbrev pub part_assigns : Option SimpleStatement → List Name
part_assigns None = []
part_assigns (Some a) = simple_assigns a

abbrev mutual
  -- the variables that a statement assigns to
  pub statement_assigns : Statement → List Name
  statement_assigns (Simple a) = simple_assigns a
  statement_assigns (Block rest) = statements_assign rest
  statement_assigns (If c a) = statement_assigns a
  statement_assigns (IfElse c a b) = statement_assigns a ++ statement_assigns b
  statement_assigns (While c notes a) = statement_assigns a
  statement_assigns (For first c third notes a) = part_assigns first ++ part_assigns third ++ statement_assigns a
  statement_assigns _ = []

  -- the same of statements in order
  pub statements_assign : Statements → List Name
  statements_assign nothing = []
  statements_assign (also a rest) = statement_assigns a ++ statements_assign rest
