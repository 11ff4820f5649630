-- What code holds of the paths of a function, and of what no name may be, read as the definitions have it.
use Rattle.std.specs.Prelude.{Bool, false, ◌&&◌, not, List, map, Option, Some, is_some, ℕ}
use Rattle.std.specs.Borrow.{Bor}
use Rattle.c0_source.specs.declared.fault.FaultKind.{FaultKind}
use Rattle.c0_source.specs.declared.fault.FaultKind.TheVariants as k
use Rattle.c0_syntax.specs.declared.program.TypedName.{TypedName}
use Rattle.c0_syntax.specs.declared.statement.Statement.{Statement}
use Rattle.c0_syntax.specs.Trees as s
use Rattle.c0_syntax.specs.Views.{statements_of, typed_name_of}
use Rattle.c0_rules.specs.Types.{Environment, Name, and_so, provided, is_ascii}
use Rattle.c0_rules.specs.Programs.{names_of, is_assigned_parameter, is_callable}
use Rattle.c0_types_tables.specs.Views.{environment_of}
use Rattle.c0_rules.specs.Mentions.{Mention, OfVariable, OfFunction, OfText, specs_in, statements_assign}
use Rattle.c0_rules.specs.Assignment as a
use Rattle.c0_rules.specs.FaultPaths.{is_unassigned}
use Rattle.c0_types_flow.specs.declared.flow.Flow.{Flow}
use Rattle.c0_types_flow.specs.declared.flow.Flow.TheVariants.{Ended, Reached}
use Rattle.c0_types_flow.specs.declared.flow.Behind.{Behind}
use Rattle.c0_types_flow.specs.declared.flow.Behind.TheVariants.{Same, Changed}
use Rattle.c0_types_flow.specs.declared.mentioned.Refused.{Refused}
use Rattle.c0_types_flow.specs.declared.mentioned.Refused.TheVariants.{Unassigned, AssignedIn, Uncallable, BeyondAscii}

-- names by their letters
abbrev pub letters_of : List (Bor (List ℕ)) → List Name
letters_of names = map (λ n. n.now) names

-- what stands before a statement
abbrev pub flow_of : Flow → a.Flow
flow_of Ended = a.Ended
flow_of (Reached names) = a.Reached (letters_of names.items)

-- what stands behind a statement, where this stands before it
abbrev pub behind_of : a.Flow → Behind → a.Flow
behind_of before Same = before
behind_of before (Changed flow) = flow_of flow

-- whether the third part of a `for`, whose body begins here, reads assigned locals alone
abbrev pub third_reads : Option s.SimpleStatement → s.Statement → a.Flow → Bool
third_reads third body f = is_some (a.flow_of_part third (a.after_body body f))

-- where the condition of a `for` is evaluated first, or none where what stands before its body reads a local that is not assigned
abbrev pub for_start : Option s.SimpleStatement → s.Expression → Option s.SimpleStatement → List (List s.Spec) → s.Statement → a.Flow → Option a.Flow
for_start first c third notes body f =
    and_so (a.flow_of_part first f) (λ g. provided (a.reads_assigned g c && third_reads third body g && a.specs_read_assigned g (specs_in notes)) (Some g))

-- whether a name is called that may not be
abbrev pub is_unknown_to : Environment → Mention → Bool
is_unknown_to env (OfFunction n) = not (is_callable env n)
is_unknown_to env _ = false

-- whether a name is that of one of these parameters, to which these statements assign
abbrev pub is_assigned_by : List TypedName → List Statement → Mention → Bool
is_assigned_by parameters body (OfVariable n) = is_assigned_parameter (names_of (map typed_name_of parameters)) (statements_assign (statements_of body)) n
is_assigned_by parameters body _ = false

-- whether a text goes beyond ASCII
abbrev pub is_beyond_ascii : Mention → Bool
is_beyond_ascii (OfText text) = not (is_ascii text)
is_beyond_ascii _ = false

-- whether a name or a text is one that is refused
abbrev pub refused_by : Refused → Mention → Bool
refused_by (Unassigned flow) = is_unassigned (flow_of flow.now)
refused_by (AssignedIn parameters body) = is_assigned_by parameters.now body.now
refused_by (Uncallable x) = is_unknown_to (environment_of x.now)
refused_by BeyondAscii = is_beyond_ascii

-- what is told of it
abbrev pub told_of : Refused → FaultKind
told_of (Unassigned flow) = k.NotAssigned
told_of (AssignedIn parameters body) = k.BadContract
told_of (Uncallable x) = k.NotDefined
told_of BeyondAscii = k.BadToken
