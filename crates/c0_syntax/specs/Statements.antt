-- Annotations and statements: which tokens they read from.
use Rattle.std.specs.Prelude.{◌≡◌, ℕ, suc, ◌+◌, max, Bool, true, false, List, [], ◌∷◌, Option, Some, None}
use Rattle.c0_source.specs.declared.kind.Kind.{Kind}
use Rattle.c0_source.specs.declared.kind.Kind.TheVariants as k
use Rattle.c0_syntax.specs.declared.operator.Change.{Change}
use Rattle.c0_syntax.specs.declared.operator.Change.TheVariants as c
use Rattle.c0_source.specs.Terminals.{Terminal, Word, Sign}
use Rattle.c0_syntax.specs.Trees.{Spec, Contract, Asserts, SimpleStatement, Declare, Initialize, Assign, Update, Step, Evaluate, Statement, Simple, Block, Annotation, Return, ReturnValue, If, IfElse, While, For, Assert, Error, Break, Continue, Statements, nothing, also}
use Rattle.c0_syntax.specs.Expressions.{is_type_name, emit_type, emit_expression, FormedType, FormedExpression, height_type, height_expression, begins_star}

-- a spec, with its semicolon
abbrev pub emit_spec : Spec → List Terminal → List Terminal
emit_spec (Contract c e) rest = Sign (k.Clause c) ∷ emit_expression e (Sign k.Semi ∷ rest)
emit_spec (Asserts e) rest = Sign k.Assert ∷ emit_expression e (Sign k.Semi ∷ rest)

-- specs, and the end of their annotation
abbrev pub emit_specs : List Spec → List Terminal → List Terminal
emit_specs [] rest = Sign k.End ∷ rest
emit_specs (s ∷ ss) rest = emit_spec s (emit_specs ss rest)

-- annotations, one behind the other
abbrev pub emit_annotations : List (List Spec) → List Terminal → List Terminal
emit_annotations [] rest = rest
emit_annotations (a ∷ ns) rest = Sign k.Begin ∷ emit_specs a (emit_annotations ns rest)

-- the condition is formed
abbrev pub FormedSpec : List (List ℕ) → Spec → Type 0
FormedSpec types (Contract c e) = FormedExpression types 1 e
FormedSpec types (Asserts e) = FormedExpression types 1 e

-- ... of each spec
abbrev pub FormedSpecs : List (List ℕ) → List Spec → Type 0
FormedSpecs types [] = Unit {0}
FormedSpecs types (s ∷ ss) = FormedSpec types s × FormedSpecs types ss

-- ... of each spec of each annotation
abbrev pub FormedAnnotations : List (List ℕ) → List (List Spec) → Type 0
FormedAnnotations types [] = Unit {0}
FormedAnnotations types (a ∷ ns) = FormedSpecs types a × FormedAnnotations types ns

-- how many nodes are on the longest path of a spec
abbrev pub height_spec : Spec → ℕ
height_spec (Contract c e) = suc (height_expression e)
height_spec (Asserts e) = suc (height_expression e)

-- ... of the highest spec
abbrev pub height_specs : List Spec → ℕ
height_specs [] = 0
height_specs (s ∷ ss) = max (height_spec s) (height_specs ss)

-- ... of the highest spec of all annotations; an annotation is no node
abbrev pub height_annotations : List (List Spec) → ℕ
height_annotations [] = 0
height_annotations (a ∷ ns) = max (height_specs a) (height_annotations ns)

-- `++` or `--`
abbrev pub change_sign : Change → Kind
change_sign c.Increment = k.PlusPlus
change_sign c.Decrement = k.MinusMinus

-- a simple statement, without a semicolon
abbrev pub emit_simple : SimpleStatement → List Terminal → List Terminal
emit_simple (Declare t x) rest = emit_type t (Word x ∷ rest)
emit_simple (Initialize t x e) rest = emit_type t (Word x ∷ Sign k.Assign ∷ emit_expression e rest)
emit_simple (Assign a b) rest = emit_expression a (Sign k.Assign ∷ emit_expression b rest)
emit_simple (Update a op b) rest = emit_expression a (Sign (k.Update op) ∷ emit_expression b rest)
emit_simple (Step a way) rest = emit_expression a (Sign (change_sign way) ∷ rest)
emit_simple (Evaluate e) rest = emit_expression e rest

-- No local has the name of a type. Before `++` and `--` what begins with `*` stands in parentheses.
abbrev pub FormedSimple : List (List ℕ) → SimpleStatement → Type 0
FormedSimple types (Declare t x) = FormedType types t × (is_type_name types x ≡ false)
FormedSimple types (Initialize t x e) = FormedType types t × (is_type_name types x ≡ false) × FormedExpression types 1 e
FormedSimple types (Assign a b) = FormedExpression types 1 a × FormedExpression types 1 b
FormedSimple types (Update a op b) = FormedExpression types 1 a × FormedExpression types 1 b
FormedSimple types (Step a way) = FormedExpression types 1 a × (begins_star a ≡ false)
FormedSimple types (Evaluate e) = FormedExpression types 1 e

-- how many nodes are on the longest path of a simple statement
abbrev pub height_simple : SimpleStatement → ℕ
height_simple (Declare t x) = suc (height_type t)
height_simple (Initialize t x e) = suc (max (height_type t) (height_expression e))
height_simple (Assign a b) = suc (max (height_expression a) (height_expression b))
height_simple (Update a op b) = suc (max (height_expression a) (height_expression b))
height_simple (Step a way) = suc (height_expression a)
height_simple (Evaluate e) = suc (height_expression e)

-- how many locals it declares
abbrev pub locals_simple : SimpleStatement → ℕ
locals_simple (Declare t x) = 1
locals_simple (Initialize t x e) = 1
locals_simple _ = 0

-- a simple statement, or nothing
abbrev pub emit_option : Option SimpleStatement → List Terminal → List Terminal
emit_option None rest = rest
emit_option (Some s) rest = emit_simple s rest

-- ... is formed, if it is there
abbrev pub FormedOption : List (List ℕ) → Option SimpleStatement → Type 0
FormedOption types None = Unit {0}
FormedOption types (Some s) = FormedSimple types s

-- ... and its height, or 0
abbrev pub height_option : Option SimpleStatement → ℕ
height_option None = 0
height_option (Some s) = height_simple s

-- ... and how many locals it declares
abbrev pub locals_option : Option SimpleStatement → ℕ
locals_option None = 0
locals_option (Some s) = locals_simple s

abbrev mutual
  -- the tokens of a statement, and after them `rest`
  pub emit_statement : Statement → List Terminal → List Terminal
  emit_statement (Simple s) rest = emit_simple s (Sign k.Semi ∷ rest)
  emit_statement (Block ss) rest = Sign k.LBrace ∷ emit_statements ss rest
  emit_statement (Annotation a) rest = Sign k.Begin ∷ emit_specs a rest
  emit_statement Return rest = Sign k.Return ∷ Sign k.Semi ∷ rest
  emit_statement (ReturnValue e) rest = Sign k.Return ∷ emit_expression e (Sign k.Semi ∷ rest)
  emit_statement (If c a) rest = Sign k.If ∷ Sign k.LParen ∷ emit_expression c (Sign k.RParen ∷ emit_statement a rest)
  emit_statement (IfElse c a b) rest = Sign k.If ∷ Sign k.LParen ∷ emit_expression c (Sign k.RParen ∷ emit_statement a (Sign k.Else ∷ emit_statement b rest))
  emit_statement (While c ns s) rest = Sign k.While ∷ Sign k.LParen ∷ emit_expression c (Sign k.RParen ∷ emit_annotations ns (emit_statement s rest))
  emit_statement (For i c n ns s) rest =
      Sign k.For ∷ Sign k.LParen ∷ emit_option i (Sign k.Semi ∷ emit_expression c (Sign k.Semi ∷ emit_option n (Sign k.RParen ∷ emit_annotations ns (emit_statement s rest))))
  emit_statement (Assert e) rest = Sign k.Assert ∷ Sign k.LParen ∷ emit_expression e (Sign k.RParen ∷ Sign k.Semi ∷ rest)
  emit_statement (Error e) rest = Sign k.Error ∷ Sign k.LParen ∷ emit_expression e (Sign k.RParen ∷ Sign k.Semi ∷ rest)
  emit_statement Break rest = Sign k.Break ∷ Sign k.Semi ∷ rest
  emit_statement Continue rest = Sign k.Continue ∷ Sign k.Semi ∷ rest

  -- statements, and the closing brace
  pub emit_statements : Statements → List Terminal → List Terminal
  emit_statements nothing rest = Sign k.RBrace ∷ rest
  emit_statements (also s ss) rest = emit_statement s (emit_statements ss rest)

-- no `else` behind the statement would go to an `if` in it
abbrev pub TakesNoElse : Statement → Type 0
TakesNoElse (If c a) = ⊥
TakesNoElse (IfElse c a b) = TakesNoElse b
TakesNoElse (While c ns s) = TakesNoElse s
TakesNoElse (For i c n ns s) = TakesNoElse s
TakesNoElse _ = Unit {0}

-- a loop's body is no annotation: those behind the header are the loop's
abbrev pub IsLoopBody : Statement → Type 0
IsLoopBody (Annotation a) = ⊥
IsLoopBody _ = Unit {0}

-- Each `else` belongs to the nearest `if`. `loops`: whether there are `break` and `continue`.
abbrev mutual
  -- Each `else` belongs to the nearest `if`. `loops`: whether there are `break` and `continue`.
  pub FormedStatement : List (List ℕ) → Bool → Statement → Type 0
  FormedStatement types loops (Simple s) = FormedSimple types s
  FormedStatement types loops (Block ss) = FormedStatements types loops ss
  FormedStatement types loops (Annotation a) = FormedSpecs types a
  FormedStatement types loops Return = Unit {0}
  FormedStatement types loops (ReturnValue e) = FormedExpression types 1 e
  FormedStatement types loops (If c a) = FormedExpression types 1 c × FormedStatement types loops a
  FormedStatement types loops (IfElse c a b) = FormedExpression types 1 c × FormedStatement types loops a × TakesNoElse a × FormedStatement types loops b
  FormedStatement types loops (While c ns s) = FormedExpression types 1 c × FormedAnnotations types ns × FormedStatement types loops s × IsLoopBody s
  FormedStatement types loops (For i c n ns s) = FormedOption types i × FormedExpression types 1 c × FormedOption types n × FormedAnnotations types ns × FormedStatement types loops s × IsLoopBody s
  FormedStatement types loops (Assert e) = FormedExpression types 1 e
  FormedStatement types loops (Error e) = FormedExpression types 1 e
  FormedStatement types loops Break = loops ≡ true
  FormedStatement types loops Continue = loops ≡ true

  -- ... each of them
  pub FormedStatements : List (List ℕ) → Bool → Statements → Type 0
  FormedStatements types loops nothing = Unit {0}
  FormedStatements types loops (also s ss) = FormedStatement types loops s × FormedStatements types loops ss

abbrev mutual
  -- how many nodes are on the longest path of a statement; a simple one is one node, with its semicolon or in the header of a `for`
  pub height_statement : Statement → ℕ
  height_statement (Simple s) = height_simple s
  height_statement (Block ss) = suc (height_statements ss)
  height_statement (Annotation a) = suc (height_specs a)
  height_statement Return = 1
  height_statement (ReturnValue e) = suc (height_expression e)
  height_statement (If c a) = suc (max (height_expression c) (height_statement a))
  height_statement (IfElse c a b) = suc (max (height_expression c) (max (height_statement a) (height_statement b)))
  height_statement (While c ns s) = suc (max (height_expression c) (max (height_annotations ns) (height_statement s)))
  height_statement (For i c n ns s) = suc (max (height_option i) (max (height_expression c) (max (height_option n) (max (height_annotations ns) (height_statement s)))))
  height_statement (Assert e) = suc (height_expression e)
  height_statement (Error e) = suc (height_expression e)
  height_statement Break = 1
  height_statement Continue = 1

  -- ... of the highest statement
  pub height_statements : Statements → ℕ
  height_statements nothing = 0
  height_statements (also s ss) = max (height_statement s) (height_statements ss)

abbrev mutual
  -- how many locals a statement declares, those of statements in it too
  pub locals_statement : Statement → ℕ
  locals_statement (Simple s) = locals_simple s
  locals_statement (Block ss) = locals_statements ss
  locals_statement (If c a) = locals_statement a
  locals_statement (IfElse c a b) = locals_statement a + locals_statement b
  locals_statement (While c ns s) = locals_statement s
  locals_statement (For i c n ns s) = locals_option i + (locals_option n + locals_statement s)
  locals_statement _ = 0

  -- ... all of these
  pub locals_statements : Statements → ℕ
  locals_statements nothing = 0
  locals_statements (also s ss) = locals_statement s + locals_statements ss
