-- The tokens of a layout are those that the tree reads from.
use Rattle.std.proofs.Common.{◌≡◌, ℕ, true, false, List, [], ◌∷◌, ◌++◌, map, Option, Some, None, refl, sym, ap, ◌∙◌, rules}
use Rattle.c0_source.specs.declared.kind.Kind.TheVariants as k
use Rattle.c0_source.specs.declared.kind.Kind.{Kind}
use Rattle.c0_source.specs.Terminals.{Terminal, Sign}
use Rattle.c0_syntax.specs.declared.mark.Gap.{Gap}
use Rattle.c0_syntax.specs.declared.mark.Gap.TheVariants as g
use Rattle.c0_syntax.specs.Trees.{ValueType, Basic, StructType, NamedType, Pointer, Array, Expression, Number, Character, Truth, Null, Text, Variable, Parenthesized, Call, Alloc, AllocArray, Result, Length, Index, Field, PointerField, Unary, Binary, Conditional, Expressions, none, more, Spec, Contract, Asserts, SimpleStatement, Declare, Initialize, Assign, Update, Step, Evaluate, Statement, Simple, Block, Annotation, Return, ReturnValue, If, IfElse, While, For, Assert, Error, Break, Continue, Statements, nothing, also, TypedName, Header, Declaration, UseLibrary, DeclareStruct, DefineStruct, Typedef, DeclareFunction, DefineFunction, Program}
use Rattle.c0_syntax.specs.Expressions.{emit_type, emit_expression, emit_arguments, emit_more_arguments}
use Rattle.c0_syntax.specs.Statements.{emit_spec, emit_specs, emit_annotations, emit_simple, emit_option, emit_statement, emit_statements}
use Rattle.c0_syntax.specs.Programs.{emit_typed_name, emit_fields, emit_parameters, emit_more_parameters, emit_header, emit_declaration, emit_program}
use Rattle.c0_syntax.specs.Layouts.{Mark, behind, layout_type, layout_expression, layout_arguments, layout_condition, layout_spec, layout_specs, layout_annotations, layout_simple, layout_option, gap_of_body, level_of_body, gap_of_loop_body, gap_of_else, gap_behind_else, level_behind_else, deeper, layout_check, layout_test, layout_for_start, layout_for_end, layout_statement, layout_statements, layout_typed_name, layout_fields, layout_parameters, layout_header, layout_declaration, layout_program}

-- the tokens of marks, and after them `rest`
abbrev pub into : List Mark → List Terminal → List Terminal
into [] rest = rest
into (x ∷ ms) rest = x.token ∷ into ms rest

into_append : (xs ys : List Mark) (rest : List Terminal) → into (xs ++ ys) rest ≡ into xs (into ys rest)
into_append [] ys rest = refl
into_append (x ∷ xs) ys rest = ap (λ (t : List Terminal). x.token ∷ t) (into_append xs ys rest)

pub into_nothing : (xs : List Mark) → into xs [] ≡ map (λ (x : Mark). x.token) xs
into_nothing [] = refl
into_nothing (x ∷ xs) = ap (λ (t : List Terminal). x.token ∷ t) (into_nothing xs)

into_type : (gap : Gap) (t : ValueType) (rest : List Terminal) → into (layout_type gap t) rest ≡ emit_type t rest
into_type gap (Basic b) rest = refl
into_type gap (StructType x) rest = refl
into_type gap (NamedType x) rest = refl
into_type gap (Pointer t) rest = let ih = into_type gap t in search (rules, into_append, ih)
into_type gap (Array t) rest = let ih = into_type gap t in search (rules, into_append, ih)

mutual
  into_expression : (gap : Gap) (e : Expression) (rest : List Terminal) → into (layout_expression gap e) rest ≡ emit_expression e rest
  into_expression gap (Number n) rest = refl
  into_expression gap (Character c) rest = refl
  into_expression gap (Truth b) rest = refl
  into_expression gap Null rest = refl
  into_expression gap (Text bs) rest = refl
  into_expression gap (Variable x) rest = refl
  into_expression gap (Parenthesized e) rest = let ih = into_expression g.Touching e in search (rules, into_append, ih)
  into_expression gap (Call f es) rest = let ih = into_first es in search (rules, into_append, ih)
  into_expression gap (Alloc t) rest = search (rules, into_append, into_type)
  into_expression gap (AllocArray t e) rest = let ih = into_expression g.Blank e in search (rules, into_append, into_type, ih)
  into_expression gap Result rest = refl
  into_expression gap (Length e) rest = let ih = into_expression g.Touching e in search (rules, into_append, ih)
  into_expression gap (Index a i) rest = let ih1 = into_expression gap a in let ih2 = into_expression g.Touching i in search (rules, into_append, ih1, ih2)
  into_expression gap (Field a x) rest = let ih = into_expression gap a in search (rules, into_append, ih)
  into_expression gap (PointerField a x) rest = let ih = into_expression gap a in search (rules, into_append, ih)
  into_expression gap (Unary op e) rest = let ih = into_expression g.Touching e in search (rules, into_append, ih)
  into_expression gap (Binary op a b) rest = let ih1 = into_expression gap a in let ih2 = into_expression g.Blank b in search (rules, into_append, ih1, ih2)
  into_expression gap (Conditional c a b) rest =
      let ih1 = into_expression gap c in let ih2 = into_expression g.Blank a in let ih3 = into_expression g.Blank b in search (rules, into_append, ih1, ih2, ih3)

  into_first : (es : Expressions) (rest : List Terminal) → into (layout_arguments true es) rest ≡ emit_arguments es rest
  into_first none rest = refl
  into_first (more e es) rest = let ih1 = into_expression g.Touching e in let ih2 = into_others es in search (rules, into_append, ih1, ih2)

  into_others : (es : Expressions) (rest : List Terminal) → into (layout_arguments false es) rest ≡ emit_more_arguments es rest
  into_others none rest = refl
  into_others (more e es) rest = let ih1 = into_expression g.Blank e in let ih2 = into_others es in search (rules, into_append, ih1, ih2)

into_condition : (word : Kind) (e : Expression) (rest : List Terminal) → into (layout_condition word e) rest ≡ Sign word ∷ emit_expression e (Sign k.Semi ∷ rest)
into_condition word e rest = search (rules, into_append, into_expression)

into_spec : (s : Spec) (rest : List Terminal) → into (layout_spec s) rest ≡ emit_spec s rest
into_spec (Contract c e) rest = into_condition (k.Clause c) e rest
into_spec (Asserts e) rest = into_condition k.Assert e rest

into_specs : (ss : List Spec) (rest : List Terminal) → into (layout_specs ss) rest ≡ emit_specs ss rest
into_specs [] rest = refl
into_specs (s ∷ ss) rest = let ih = into_specs ss in search (rules, into_append, into_spec, ih)

into_annotations : (level : ℕ) (notes : List (List Spec)) (rest : List Terminal) → into (layout_annotations level notes) rest ≡ emit_annotations notes rest
into_annotations level [] rest = refl
into_annotations level (a ∷ notes) rest = let ih = into_annotations level notes in search (rules, into_append, into_specs, ih)

into_simple : (gap : Gap) (s : SimpleStatement) (rest : List Terminal) → into (layout_simple gap s) rest ≡ emit_simple s rest
into_simple gap (Declare t x) rest = search (rules, into_append, into_type)
into_simple gap (Initialize t x e) rest = search (rules, into_append, into_type, into_expression)
into_simple gap (Assign a b) rest = search (rules, into_append, into_expression)
into_simple gap (Update a op b) rest = search (rules, into_append, into_expression)
into_simple gap (Step a way) rest = search (rules, into_append, into_expression)
into_simple gap (Evaluate e) rest = into_expression gap e rest

into_option : (gap : Gap) (s : Option SimpleStatement) (rest : List Terminal) → into (layout_option gap s) rest ≡ emit_option s rest
into_option gap None rest = refl
into_option gap (Some s) rest = into_simple gap s rest

into_check : (gap : Gap) (word : Kind) (e : Expression) (rest : List Terminal) → into (layout_check gap word e) rest ≡ Sign word ∷ Sign k.LParen ∷ emit_expression e (Sign k.RParen ∷ Sign k.Semi ∷ rest)
into_check gap word e rest = search (rules, into_append, into_expression)

into_test : (gap : Gap) (word : Kind) (e : Expression) (rest : List Terminal) → into (layout_test gap word e) rest ≡ Sign word ∷ Sign k.LParen ∷ emit_expression e (Sign k.RParen ∷ rest)
into_test gap word e rest = search (rules, into_append, into_expression)

into_for_start : (gap : Gap) (first : Option SimpleStatement) (rest : List Terminal) → into (layout_for_start gap first) rest ≡ Sign k.For ∷ Sign k.LParen ∷ emit_option first (Sign k.Semi ∷ rest)
into_for_start gap first rest = search (rules, into_append, into_option)

into_for_end : (c : Expression) (third : Option SimpleStatement) (rest : List Terminal) → into (layout_for_end c third) rest ≡ emit_expression c (Sign k.Semi ∷ emit_option third (Sign k.RParen ∷ rest))
into_for_end c third rest = search (rules, into_append, into_expression, into_option)

into_three : (a b c : List Mark) (rest : List Terminal) → into (a ++ b ++ c) rest ≡ into a (into b (into c rest))
into_three a b c rest = search (rules, into_append)

into_four : (a b c d : List Mark) (rest : List Terminal) → into (a ++ b ++ c ++ d) rest ≡ into a (into b (into c (into d rest)))
into_four a b c d rest = search (rules, into_append)

into_branches : (test a b : List Mark) (x : Mark) (rest : List Terminal) → into (test ++ a ++ x ∷ b) rest ≡ into test (into a (x.token ∷ into b rest))
into_branches test a b x rest = search (rules, into_append)

mutual
  into_statement : (gap : Gap) (level : ℕ) (s : Statement) (rest : List Terminal) → into (layout_statement gap level s) rest ≡ emit_statement s rest
  into_statement gap level (Simple s) rest = search (rules, into_append, into_simple)
  into_statement gap level (Block ss) rest = let ih = into_statements level ss in search (rules, into_append, ih)
  into_statement gap level (Annotation a) rest = search (rules, into_append, into_specs)
  into_statement gap level Return rest = refl
  into_statement gap level (ReturnValue e) rest = search (rules, into_append, into_expression)
  into_statement gap level (If c a) rest = let ih = into_statement (gap_of_body level a) (level_of_body level a) a in search (rules, into_append, into_test, ih)
  into_statement gap level (IfElse c a b) rest =
      let first = into_statement (gap_of_body level a) (level_of_body level a) a in
      let second = into_statement (gap_behind_else level b) (level_behind_else level b) b in
      into_branches (layout_test gap k.If c) (layout_statement (gap_of_body level a) (level_of_body level a) a) (layout_statement (gap_behind_else level b) (level_behind_else level b) b) (behind (gap_of_else level a) (Sign k.Else)) rest
      ∙ into_test gap k.If c (into (layout_statement (gap_of_body level a) (level_of_body level a) a) (Sign k.Else ∷ into (layout_statement (gap_behind_else level b) (level_behind_else level b) b) rest))
      ∙ ap (λ (t : List Terminal). Sign k.If ∷ Sign k.LParen ∷ emit_expression c (Sign k.RParen ∷ t))
      (first (Sign k.Else ∷ into (layout_statement (gap_behind_else level b) (level_behind_else level b) b) rest) ∙ ap (λ (t : List Terminal). emit_statement a (Sign k.Else ∷ t)) (second rest))
  into_statement gap level (While c notes s) rest =
      let body = layout_statement (gap_of_loop_body level notes s) (level_of_body level s) s in
      let ih = into_statement (gap_of_loop_body level notes s) (level_of_body level s) s in
      into_three (layout_test gap k.While c) (layout_annotations (deeper level) notes) body rest
      ∙ into_test gap k.While c (into (layout_annotations (deeper level) notes) (into body rest))
      ∙ ap (λ (t : List Terminal). Sign k.While ∷ Sign k.LParen ∷ emit_expression c (Sign k.RParen ∷ t))
      (into_annotations (deeper level) notes (into body rest) ∙ ap (emit_annotations notes) (ih rest))
  into_statement gap level (For first c third notes s) rest =
      let body = layout_statement (gap_of_loop_body level notes s) (level_of_body level s) s in
      let ih = into_statement (gap_of_loop_body level notes s) (level_of_body level s) s in
      into_four (layout_for_start gap first) (layout_for_end c third) (layout_annotations (deeper level) notes) body rest
      ∙ into_for_start gap first (into (layout_for_end c third) (into (layout_annotations (deeper level) notes) (into body rest)))
      ∙ ap (λ (t : List Terminal). Sign k.For ∷ Sign k.LParen ∷ emit_option first (Sign k.Semi ∷ t))
      (into_for_end c third (into (layout_annotations (deeper level) notes) (into body rest))
      ∙ ap (λ (t : List Terminal). emit_expression c (Sign k.Semi ∷ emit_option third (Sign k.RParen ∷ t)))
      (into_annotations (deeper level) notes (into body rest) ∙ ap (emit_annotations notes) (ih rest)))
  into_statement gap level (Assert e) rest = into_check gap k.Assert e rest
  into_statement gap level (Error e) rest = into_check gap k.Error e rest
  into_statement gap level Break rest = refl
  into_statement gap level Continue rest = refl

  into_statements : (level : ℕ) (ss : Statements) (rest : List Terminal) → into (layout_statements level ss) rest ≡ emit_statements ss rest
  into_statements level nothing rest = refl
  into_statements level (also s ss) rest =
      let ih1 = into_statement (g.Line (deeper level)) (deeper level) s in let ih2 = into_statements level ss in search (rules, into_append, ih1, ih2)

into_typed_name : (gap : Gap) (x : TypedName) (rest : List Terminal) → into (layout_typed_name gap x) rest ≡ emit_typed_name x rest
into_typed_name gap x rest = search (rules, into_append, into_type)

into_fields : (xs : List TypedName) (rest : List Terminal) → into (layout_fields xs) rest ≡ emit_fields xs rest
into_fields [] rest = refl
into_fields (x ∷ xs) rest = let ih = into_fields xs in search (rules, into_append, into_typed_name, ih)

into_more_parameters : (xs : List TypedName) (rest : List Terminal) → into (layout_parameters false xs) rest ≡ emit_more_parameters xs rest
into_more_parameters [] rest = refl
into_more_parameters (x ∷ xs) rest = let ih = into_more_parameters xs in search (rules, into_append, into_typed_name, ih)

into_parameters : (xs : List TypedName) (rest : List Terminal) → into (layout_parameters true xs) rest ≡ emit_parameters xs rest
into_parameters [] rest = refl
into_parameters (x ∷ xs) rest = search (rules, into_append, into_typed_name, into_more_parameters)

into_header : (gap : Gap) (h : Header) (rest : List Terminal) → into (layout_header gap h) rest ≡ emit_header h rest
into_header gap h rest = search (rules, into_append, into_type, into_parameters, into_annotations)

into_declaration : (gap : Gap) (d : Declaration) (rest : List Terminal) → into (layout_declaration gap d) rest ≡ emit_declaration d rest
into_declaration gap (UseLibrary angle x) rest = refl
into_declaration gap (DeclareStruct x) rest = refl
into_declaration gap (DefineStruct x fields) rest = search (rules, into_append, into_fields)
into_declaration gap (Typedef t x) rest = search (rules, into_append, into_type)
into_declaration gap (DeclareFunction h) rest = search (rules, into_append, into_header)
into_declaration gap (DefineFunction h body) rest = search (rules, into_append, into_header, into_statements)

into_program : (gap : Gap) (p : Program) → into (layout_program gap p) [] ≡ emit_program p
into_program gap [] = refl
into_program gap (d ∷ ds) = let ih = into_program g.EmptyLine ds in search (rules, into_append, into_declaration, ih)

-- a layout has the tokens of its program
pub tokens_of_layout : (gap : Gap) (p : Program) → map (λ (x : Mark). x.token) (layout_program gap p) ≡ emit_program p
tokens_of_layout gap p = sym (into_nothing (layout_program gap p)) ∙ into_program gap p
