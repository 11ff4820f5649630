-- Definite assignment, and where a path ends.
use Rattle.std.specs.Prelude.{Bool, true, false, ◌&&◌, ◌||◌, not, List, ◌∷◌, Option, Some, None, filter, bytes_eq}
use Rattle.std.specs.List.{list_all}
use Rattle.c0_syntax.specs.Trees.{Expression, Spec, SimpleStatement, Declare, Initialize, Assign, Update, Step, Evaluate, Statement, Simple, Block, Annotation, Return, ReturnValue, If, IfElse, While, For, Assert, Error, Break, Continue, Statements, nothing, also}
use Rattle.c0_rules.specs.Types.{and_so, provided, Name, is_among, any_among}
use Rattle.c0_rules.specs.Mentions.{variables_in, condition_of, specs_in, as_variable}

-- What stands before a statement. Behind `return`, `error`, `break` and `continue` everything counts as assigned; else some path leads
-- here, and these locals in scope are those that some such path has not assigned.
pub data Flow : Type 0 where
  Ended : Flow
  Reached : (unassigned : List Name) → Flow

-- whether an expression reads assigned locals alone
abbrev pub reads_assigned : Flow → Expression → Bool
reads_assigned Ended e = true
reads_assigned (Reached names) e = not (any_among (variables_in e) names)

-- the same of each spec
abbrev pub specs_read_assigned : Flow → List Spec → Bool
specs_read_assigned f specs = list_all (λ s. reads_assigned f (condition_of s)) specs

-- whether no path leads here
abbrev pub has_ended : Flow → Bool
has_ended Ended = true
has_ended (Reached names) = false

-- behind the declaration of a local without a value
abbrev pub declared_only : Name → Flow → Flow
declared_only n Ended = Ended
declared_only n (Reached names) = Reached (n ∷ names)

-- behind an assignment to this local
abbrev pub assigned_to : Name → Flow → Flow
assigned_to n Ended = Ended
assigned_to n (Reached names) = Reached (filter (λ m. not (bytes_eq n m)) names)

-- behind a choice: what each of both ways assigns, and no locals of scopes that end with it
abbrev pub joined : Flow → Flow → Flow → Flow
joined (Reached names) (Reached first) (Reached second) = Reached (filter (λ n. is_among n first || is_among n second) names)
joined (Reached names) Ended (Reached second) = Reached (filter (λ n. is_among n second) names)
joined (Reached names) (Reached first) Ended = Reached (filter (λ n. is_among n first) names)
joined before first second = Ended

-- at the end of a scope that began here
abbrev pub left_scope : Flow → Flow → Flow
left_scope before inner = joined before inner inner

-- an assignment: a local that is given a value is not read; of any other destination, all its parts are
abbrev pub flow_of_assignment : Option Name → Expression → Expression → Flow → Option Flow
flow_of_assignment (Some n) d e f = provided (reads_assigned f e) (Some (assigned_to n f))
flow_of_assignment None d e f = provided (reads_assigned f d && reads_assigned f e) (Some f)

-- behind a simple statement, or none where it reads a local that is not assigned
abbrev pub flow_of_simple : SimpleStatement → Flow → Option Flow
flow_of_simple (Declare a n) f = Some (declared_only n f)
flow_of_simple (Initialize a n e) f = provided (reads_assigned f e) (Some f)
flow_of_simple (Assign d e) f = flow_of_assignment (as_variable d) d e f
flow_of_simple (Update d o e) f = provided (reads_assigned f d && reads_assigned f e) (Some f)
flow_of_simple (Step d way) f = provided (reads_assigned f d) (Some f)
flow_of_simple (Evaluate e) f = provided (reads_assigned f e) (Some f)

-- the same of the first or the third part of a `for`
abbrev pub flow_of_part : Option SimpleStatement → Flow → Option Flow
flow_of_part None f = Some f
flow_of_part (Some a) f = flow_of_simple a f

-- ---- whatever is read

-- behind an assignment to this destination: only a local is assigned by it
abbrev pub after_assignment : Option Name → Flow → Flow
after_assignment None f = f
after_assignment (Some n) f = assigned_to n f

-- behind a simple statement, whatever it reads; `op=`, `++` and `--` assign as `=` does
abbrev pub after_simple : SimpleStatement → Flow → Flow
after_simple (Declare a n) f = declared_only n f
after_simple (Initialize a n e) f = f
after_simple (Assign d e) f = after_assignment (as_variable d) f
after_simple (Update d o e) f = after_assignment (as_variable d) f
after_simple (Step d way) f = after_assignment (as_variable d) f
after_simple (Evaluate e) f = f

-- the same of a part of a `for`
abbrev pub after_part : Option SimpleStatement → Flow → Flow
after_part None f = f
after_part (Some a) f = after_simple a f

abbrev mutual
  -- Behind a statement, whatever it reads. Behind a loop it is as where its condition is first evaluated.
  pub after_statement : Statement → Flow → Flow
  after_statement (Simple a) f = after_simple a f
  after_statement (Block rest) f = left_scope f (after_statements rest f)
  after_statement Return f = Ended
  after_statement (ReturnValue e) f = Ended
  after_statement (If c a) f = joined f (after_statement a f) f
  after_statement (IfElse c a b) f = joined f (after_statement a f) (after_statement b f)
  after_statement (For first c third notes a) f = left_scope f (after_part first f)
  after_statement (Error e) f = Ended
  after_statement Break f = Ended
  after_statement Continue f = Ended
  after_statement _ f = f

  -- the same of statements in order
  pub after_statements : Statements → Flow → Flow
  after_statements nothing f = f
  after_statements (also a rest) f = after_statements rest (after_statement a f)

abbrev mutual
  -- Where the paths meet on which `continue` ends a turn of a loop whose body begins at `start`, with those that met before; nowhere counts as ended.
  -- A loop in the statement has its own.
  pub continued : (start : Flow) → Statement → Flow → (met : Flow) → Flow
  continued start Continue f met = joined start met f
  continued start (Block rest) f met = some_continued start rest f met
  continued start (If c a) f met = continued start a f met
  continued start (IfElse c a b) f met = continued start b f (continued start a f met)
  continued start _ f met = met

  -- the same of statements in order
  pub some_continued : (start : Flow) → Statements → Flow → (met : Flow) → Flow
  some_continued start nothing f met = met
  some_continued start (also a rest) f met = some_continued start rest (after_statement a f) (continued start a f met)

-- where the third part of a `for` stands, whose body begins here: where the scope of the body ends, and each `continue` of it leads
abbrev pub after_body : Statement → Flow → Flow
after_body a f = joined f (after_statement a f) (continued f a f Ended)

-- ---- where what is read is assigned

abbrev mutual
  -- Behind a statement, or none where it reads a local that is not assigned. Behind a loop it is as where its condition is first evaluated, and a loop ends no path.
  pub flow_of_statement : Statement → Flow → Option Flow
  flow_of_statement (Simple a) f = flow_of_simple a f
  flow_of_statement (Block rest) f = and_so (flow_of_statements rest f) (λ g. Some (left_scope f g))
  flow_of_statement (Annotation specs) f = provided (specs_read_assigned f specs) (Some f)
  flow_of_statement Return f = Some Ended
  flow_of_statement (ReturnValue e) f = provided (reads_assigned f e) (Some Ended)
  flow_of_statement (If c a) f = provided (reads_assigned f c) (and_so (flow_of_statement a f) (λ g. Some (joined f g f)))
  flow_of_statement (IfElse c a b) f =
      provided (reads_assigned f c) (and_so (flow_of_statement a f) (λ g. and_so (flow_of_statement b f) (λ h. Some (joined f g h))))
  flow_of_statement (While c notes a) f =
      provided (reads_assigned f c && specs_read_assigned f (specs_in notes)) (and_so (flow_of_statement a f) (λ g. Some f))
  flow_of_statement (For first c third notes a) f =
      and_so (flow_of_part first f) (λ g. provided (reads_assigned g c && specs_read_assigned g (specs_in notes)) (
      and_so (flow_of_statement a g) (λ h. and_so (flow_of_part third (joined g h (continued g a g Ended))) (λ k. Some (left_scope f g)))))
  flow_of_statement (Assert e) f = provided (reads_assigned f e) (Some f)
  flow_of_statement (Error e) f = provided (reads_assigned f e) (Some Ended)
  flow_of_statement Break f = Some Ended
  flow_of_statement Continue f = Some Ended

  -- the same of statements in order
  pub flow_of_statements : Statements → Flow → Option Flow
  flow_of_statements nothing f = Some f
  flow_of_statements (also a rest) f = and_so (flow_of_statement a f) (flow_of_statements rest)
