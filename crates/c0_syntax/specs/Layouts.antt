-- How a program is laid out: its tokens in order, each with the gap before it.
use Rattle.std.specs.Prelude.{ℕ, ◌+◌, Bool, true, false, if◌then◌else◌, nat_lt, List, [], ◌∷◌, ◌++◌, Option, Some, None}
use Rattle.c0_source.specs.declared.kind.Kind.{Kind}
use Rattle.c0_source.specs.declared.kind.Kind.TheVariants as k
use Rattle.c0_source.specs.declared.kind.Operator.TheVariants as o
use Rattle.c0_source.specs.Terminals.{Terminal, Word, Text as TextToken, Use, Sign}
use Rattle.c0_syntax.specs.declared.mark.Gap.{Gap}
use Rattle.c0_syntax.specs.declared.mark.Gap.TheVariants as g
use Rattle.c0_syntax.specs.Trees.{ValueType, Basic, StructType, NamedType, Pointer, Array, Expression, Number, Character, Truth, Null, Text, Variable, Parenthesized, Call, Alloc, AllocArray, Result, Length, Index, Field, PointerField, Unary, Binary, Conditional, Expressions, none, more, Spec, Contract, Asserts, SimpleStatement, Declare, Initialize, Assign, Update, Step, Evaluate, Statement, Simple, Block, Annotation, Return, ReturnValue, If, IfElse, While, For, Assert, Error, Break, Continue, Statements, nothing, also, TypedName, Header, Declaration, UseLibrary, DeclareStruct, DefineStruct, Typedef, DeclareFunction, DefineFunction, Program}
use Rattle.c0_syntax.specs.Expressions.{prefix_sign}
use Rattle.c0_syntax.specs.Statements.{change_sign}

-- a token, and the gap before it
pub record Mark : Type 0 where
  pub gap : Gap
  pub token : Terminal

-- a token behind a gap
abbrev pub behind : Gap → Terminal → Mark
behind gap token = record { gap = gap; token = token }

-- a sign behind no gap
abbrev pub touching : Kind → Mark
touching kind = behind g.Touching (Sign kind)

-- a sign behind a blank
abbrev pub spaced : Kind → Mark
spaced kind = behind g.Blank (Sign kind)

-- a type, its first token behind this gap
abbrev pub layout_type : Gap → ValueType → List Mark
layout_type gap (Basic b) = behind gap (Sign (k.Base b)) ∷ []
layout_type gap (StructType x) = behind gap (Sign k.Struct) ∷ behind g.Blank (Word x) ∷ []
layout_type gap (NamedType x) = behind gap (Word x) ∷ []
layout_type gap (Pointer t) = layout_type gap t ++ touching (k.Infix o.Multiply) ∷ []
layout_type gap (Array t) = layout_type gap t ++ touching k.LBracket ∷ touching k.RBracket ∷ []

-- a comma before what isn't the first of a list
abbrev pub comma_unless : Bool → List Mark
comma_unless true = []
comma_unless false = touching k.Comma ∷ []

-- the gap before the first of a list, or behind a comma
abbrev pub gap_of_item : Bool → Gap
gap_of_item true = g.Touching
gap_of_item false = g.Blank

abbrev mutual
  -- an expression, its first token behind this gap
  pub layout_expression : Gap → Expression → List Mark
  layout_expression gap (Number n) = behind gap (Sign (k.Number n)) ∷ []
  layout_expression gap (Character c) = behind gap (Sign (k.Character c)) ∷ []
  layout_expression gap (Truth b) = behind gap (Sign (k.Truth b)) ∷ []
  layout_expression gap Null = behind gap (Sign k.Null) ∷ []
  layout_expression gap (Text bs) = behind gap (TextToken bs) ∷ []
  layout_expression gap (Variable x) = behind gap (Word x) ∷ []
  layout_expression gap (Parenthesized e) = behind gap (Sign k.LParen) ∷ layout_expression g.Touching e ++ touching k.RParen ∷ []
  layout_expression gap (Call f es) = behind gap (Word f) ∷ touching k.LParen ∷ layout_arguments true es
  layout_expression gap (Alloc t) = behind gap (Sign k.Alloc) ∷ touching k.LParen ∷ layout_type g.Touching t ++ touching k.RParen ∷ []
  layout_expression gap (AllocArray t e) =
      behind gap (Sign k.AllocArray) ∷ touching k.LParen ∷ layout_type g.Touching t ++ touching k.Comma ∷ layout_expression g.Blank e ++ touching k.RParen ∷ []
  layout_expression gap Result = behind gap (Sign k.Result) ∷ []
  layout_expression gap (Length e) = behind gap (Sign k.Length) ∷ touching k.LParen ∷ layout_expression g.Touching e ++ touching k.RParen ∷ []
  layout_expression gap (Index a i) = layout_expression gap a ++ touching k.LBracket ∷ layout_expression g.Touching i ++ touching k.RBracket ∷ []
  layout_expression gap (Field a x) = layout_expression gap a ++ touching k.Dot ∷ behind g.Touching (Word x) ∷ []
  layout_expression gap (PointerField a x) = layout_expression gap a ++ touching k.Arrow ∷ behind g.Touching (Word x) ∷ []
  layout_expression gap (Unary op e) = behind gap (Sign (prefix_sign op)) ∷ layout_expression g.Touching e
  layout_expression gap (Binary op a b) = layout_expression gap a ++ spaced (k.Infix op) ∷ layout_expression g.Blank b
  layout_expression gap (Conditional c a b) =
      layout_expression gap c ++ spaced k.Question ∷ layout_expression g.Blank a ++ spaced k.Colon ∷ layout_expression g.Blank b

  -- arguments from the first on, or behind it, and the closing parenthesis
  pub layout_arguments : Bool → Expressions → List Mark
  layout_arguments first none = touching k.RParen ∷ []
  layout_arguments first (more e es) = comma_unless first ++ layout_expression (gap_of_item first) e ++ layout_arguments false es

-- the word of a spec and its condition
abbrev pub layout_condition : Kind → Expression → List Mark
layout_condition word e = spaced word ∷ layout_expression g.Blank e ++ touching k.Semi ∷ []

-- a spec
abbrev pub layout_spec : Spec → List Mark
layout_spec (Contract c e) = layout_condition (k.Clause c) e
layout_spec (Asserts e) = layout_condition k.Assert e

-- specs, and the end of their annotation
abbrev pub layout_specs : List Spec → List Mark
layout_specs [] = spaced k.End ∷ []
layout_specs (s ∷ ss) = layout_spec s ++ layout_specs ss

-- annotations, each on a line of its own with this indentation
abbrev pub layout_annotations : ℕ → List (List Spec) → List Mark
layout_annotations level [] = []
layout_annotations level (a ∷ notes) = behind (g.Line level) (Sign k.Begin) ∷ layout_specs a ++ layout_annotations level notes

-- a simple statement, its first token behind this gap
abbrev pub layout_simple : Gap → SimpleStatement → List Mark
layout_simple gap (Declare t x) = layout_type gap t ++ behind g.Blank (Word x) ∷ []
layout_simple gap (Initialize t x e) = layout_type gap t ++ behind g.Blank (Word x) ∷ spaced k.Assign ∷ layout_expression g.Blank e
layout_simple gap (Assign a b) = layout_expression gap a ++ spaced k.Assign ∷ layout_expression g.Blank b
layout_simple gap (Update a op b) = layout_expression gap a ++ spaced (k.Update op) ∷ layout_expression g.Blank b
layout_simple gap (Step a way) = layout_expression gap a ++ touching (change_sign way) ∷ []
layout_simple gap (Evaluate e) = layout_expression gap e

-- ... or nothing
abbrev pub layout_option : Gap → Option SimpleStatement → List Mark
layout_option gap None = []
layout_option gap (Some s) = layout_simple gap s

-- one level more, up to 200: no tree that is read has more
abbrev pub deeper : ℕ → ℕ
deeper level = if nat_lt level 200 then level + 1 else level

-- the gap before what stands in a statement of this level: a block goes on in the line, another statement has a line of its own
abbrev pub gap_of_body : ℕ → Statement → Gap
gap_of_body level (Block ss) = g.Blank
gap_of_body level _ = g.Line (deeper level)

-- ... and its level
abbrev pub level_of_body : ℕ → Statement → ℕ
level_of_body level (Block ss) = level
level_of_body level _ = deeper level

-- behind annotations a block has a line of its own, too
abbrev pub gap_of_loop_body : ℕ → List (List Spec) → Statement → Gap
gap_of_loop_body level [] s = gap_of_body level s
gap_of_loop_body level (a ∷ notes) s = g.Line (level_of_body level s)

-- the gap before `else`: in the line of the brace before it, or on a line of its own
abbrev pub gap_of_else : ℕ → Statement → Gap
gap_of_else level (Block ss) = g.Blank
gap_of_else level _ = g.Line level

-- the gap before what stands behind `else`: an `if` goes on in the line, too
abbrev pub gap_behind_else : ℕ → Statement → Gap
gap_behind_else level (If c a) = g.Blank
gap_behind_else level (IfElse c a b) = g.Blank
gap_behind_else level s = gap_of_body level s

-- ... and its level
abbrev pub level_behind_else : ℕ → Statement → ℕ
level_behind_else level (If c a) = level
level_behind_else level (IfElse c a b) = level
level_behind_else level s = level_of_body level s

-- `assert` or `error`, with its operand
abbrev pub layout_check : Gap → Kind → Expression → List Mark
layout_check gap word e = behind gap (Sign word) ∷ touching k.LParen ∷ layout_expression g.Touching e ++ touching k.RParen ∷ touching k.Semi ∷ []

-- `if` or `while`, with its condition
abbrev pub layout_test : Gap → Kind → Expression → List Mark
layout_test gap word c = behind gap (Sign word) ∷ spaced k.LParen ∷ layout_expression g.Touching c ++ touching k.RParen ∷ []

-- `for`, with the first part of its header
abbrev pub layout_for_start : Gap → Option SimpleStatement → List Mark
layout_for_start gap first = behind gap (Sign k.For) ∷ spaced k.LParen ∷ layout_option g.Touching first ++ touching k.Semi ∷ []

-- the other parts
abbrev pub layout_for_end : Expression → Option SimpleStatement → List Mark
layout_for_end c third = layout_expression g.Blank c ++ touching k.Semi ∷ layout_option g.Blank third ++ touching k.RParen ∷ []

abbrev mutual
  -- a statement of this level, its first token behind this gap
  pub layout_statement : Gap → ℕ → Statement → List Mark
  layout_statement gap level (Simple s) = layout_simple gap s ++ touching k.Semi ∷ []
  layout_statement gap level (Block ss) = behind gap (Sign k.LBrace) ∷ layout_statements level ss
  layout_statement gap level (Annotation a) = behind gap (Sign k.Begin) ∷ layout_specs a
  layout_statement gap level Return = behind gap (Sign k.Return) ∷ touching k.Semi ∷ []
  layout_statement gap level (ReturnValue e) = behind gap (Sign k.Return) ∷ layout_expression g.Blank e ++ touching k.Semi ∷ []
  layout_statement gap level (If c a) = layout_test gap k.If c ++ layout_statement (gap_of_body level a) (level_of_body level a) a
  layout_statement gap level (IfElse c a b) =
      layout_test gap k.If c ++ layout_statement (gap_of_body level a) (level_of_body level a) a
      ++ behind (gap_of_else level a) (Sign k.Else) ∷ layout_statement (gap_behind_else level b) (level_behind_else level b) b
  layout_statement gap level (While c notes s) =
      layout_test gap k.While c ++ layout_annotations (deeper level) notes ++ layout_statement (gap_of_loop_body level notes s) (level_of_body level s) s
  layout_statement gap level (For first c third notes s) =
      layout_for_start gap first ++ layout_for_end c third ++ layout_annotations (deeper level) notes ++ layout_statement (gap_of_loop_body level notes s) (level_of_body level s) s
  layout_statement gap level (Assert e) = layout_check gap k.Assert e
  layout_statement gap level (Error e) = layout_check gap k.Error e
  layout_statement gap level Break = behind gap (Sign k.Break) ∷ touching k.Semi ∷ []
  layout_statement gap level Continue = behind gap (Sign k.Continue) ∷ touching k.Semi ∷ []

  -- the statements of a block, each on lines of its own, and the closing brace
  pub layout_statements : ℕ → Statements → List Mark
  layout_statements level nothing = behind (g.Line level) (Sign k.RBrace) ∷ []
  layout_statements level (also s ss) = layout_statement (g.Line (deeper level)) (deeper level) s ++ layout_statements level ss

-- a type and a name
abbrev pub layout_typed_name : Gap → TypedName → List Mark
layout_typed_name gap x = layout_type gap x.value_type ++ behind g.Blank (Word x.name) ∷ []

-- fields, each on a line of its own, and the closing brace
abbrev pub layout_fields : List TypedName → List Mark
layout_fields [] = behind (g.Line 0) (Sign k.RBrace) ∷ []
layout_fields (x ∷ xs) = layout_typed_name (g.Line 1) x ++ touching k.Semi ∷ layout_fields xs

-- parameters from the first on, or behind it, and the closing parenthesis
abbrev pub layout_parameters : Bool → List TypedName → List Mark
layout_parameters first [] = touching k.RParen ∷ []
layout_parameters first (x ∷ xs) = comma_unless first ++ layout_typed_name (gap_of_item first) x ++ layout_parameters false xs

-- a function up to its body, its first token behind this gap
abbrev pub layout_header : Gap → Header → List Mark
layout_header gap h =
    layout_type gap h.result ++ behind g.Blank (Word h.name) ∷ touching k.LParen ∷ layout_parameters true h.parameters ++ layout_annotations 1 h.annotations

-- the gap before a function's body: in the line of its header, or behind annotations on a line of its own
abbrev pub gap_of_function_body : List (List Spec) → Gap
gap_of_function_body [] = g.Blank
gap_of_function_body (a ∷ notes) = g.Line 0

-- a declaration, its first token behind this gap
abbrev pub layout_declaration : Gap → Declaration → List Mark
layout_declaration gap (UseLibrary angle x) = behind gap (Use angle x) ∷ []
layout_declaration gap (DeclareStruct x) = behind gap (Sign k.Struct) ∷ behind g.Blank (Word x) ∷ touching k.Semi ∷ []
layout_declaration gap (DefineStruct x fields) = behind gap (Sign k.Struct) ∷ behind g.Blank (Word x) ∷ spaced k.LBrace ∷ layout_fields fields ++ touching k.Semi ∷ []
layout_declaration gap (Typedef t x) = behind gap (Sign k.Typedef) ∷ layout_type g.Blank t ++ behind g.Blank (Word x) ∷ touching k.Semi ∷ []
layout_declaration gap (DeclareFunction h) = layout_header gap h ++ touching k.Semi ∷ []
layout_declaration gap (DefineFunction h body) = layout_header gap h ++ behind (gap_of_function_body h.annotations) (Sign k.LBrace) ∷ layout_statements 0 body

-- the declarations of a program, with an empty line before each but the first
abbrev pub layout_program : Gap → Program → List Mark
layout_program gap [] = []
layout_program gap (d ∷ ds) = layout_declaration gap d ++ layout_program g.EmptyLine ds
