-- The parts of a tree that stand in a vector, as a list.
use Rattle.std.proofs.Common.{◌≡◌, refl, ap, subst, sym, rules, List, Bool, ℕ, suc, zero, ◌∷◌, [], ◌<◌, length, get_or, drop, arith, inl, inr}
use Rattle.std.proofs.lemmas.List.{drop_more}
use Rattle.std.specs.Prelude.{◌⊎◌}
use Rattle.std.specs.List.{Any}
use Rattle.std.specs.declared.vec.Vec.{Vec}
use Rattle.std.specs.declared.alloc.Global.{Global}
use Rattle.c0_source.specs.declared.fault.Fault.{Fault}
use Rattle.c0_source.specs.declared.fault.FaultKind.{FaultKind}
use Rattle.c0_source.specs.declared.fault.Span.{Span}
use Rattle.c0_syntax.specs.declared.name.Name.{Name}
use Rattle.c0_syntax.specs.declared.expression.Expression.{Expression}
use Rattle.c0_syntax.specs.declared.expression.ExpressionKind.{ExpressionKind, Call', Row_of-Expression, end_of-Expression, more_of-Expression, items-the_row-Expression, the_lemmas as expression_lemmas}
use Rattle.c0_syntax.specs.declared.expression.ExpressionKind.TheViews.{Call}
use Rattle.c0_syntax.specs.declared.statement.Statement.{Statement}
use Rattle.c0_syntax.specs.declared.statement.StatementKind.{StatementKind, Block', Row_of-Statement, end_of-Statement, more_of-Statement, items-the_row-Statement, the_lemmas as statement_lemmas}
use Rattle.c0_syntax.specs.declared.statement.StatementKind.TheViews.{Block}
use Rattle.c0_syntax.specs.Trees as t
use Rattle.c0_syntax.specs.Views.{name_of, expression_of_kind, row_of, expressions_of, statement_of_kind, statement_row, statements_of}
use Rattle.c0_rules.specs.Mentions.{Mention}
use Rattle.c0_rules.specs.Assignment.{Flow}
use Rattle.c0_rules.specs.FaultPaths.{NamedIn, NamedInRow, NamedInStatement, NamedInBlock, NamedInBody, ReadInStatement, ReadInBlock, ReadInBody}

pub expressions_row : {n : _} (r : Row_of-Expression n) → row_of r ≡ expressions_of (items-the_row-Expression n r)
expressions_row end_of-Expression = refl
expressions_row (more_of-Expression e at rest) = ap (t.more (expression_of_kind e)) (expressions_row rest)

pub call_is : (f : Name) (all : Vec Expression Global) → expression_of_kind (Call f all) ≡ t.Call (name_of f) (expressions_of all.items)
call_is f all = search (rules, expression_lemmas, expressions_row)

pub statements_row : {n : _} (r : Row_of-Statement n) → statement_row r ≡ statements_of (items-the_row-Statement n r)
statements_row end_of-Statement = refl
statements_row (more_of-Statement s at rest) = ap (t.also (statement_of_kind s)) (statements_row rest)

pub block_is : (all : Vec Statement Global) → statement_of_kind (Block all) ≡ t.Block (statements_of all.items)
block_is all = search (rules, statement_lemmas, statements_row)

-- ---- faults in the parts

any_cases : {A : Type 0} (P : A → Type 0) (x : A) (xs : List A) → Any P (x ∷ xs) → P x ⊎ Any P xs
any_cases P x xs (zero, y, l, e, h) = inl (subst P (sym e) h)
any_cases P x xs (suc k, y, l, e, h) = inr (k, y, omega arith, e, h)

-- the arguments of a call
arguments_in : ExpressionKind → List Expression
arguments_in (Call' x shape es) = items-the_row-Expression _ es
arguments_in _ = []

call_items : (x : Name) (all : Vec Expression Global) → arguments_in (Call x all) ≡ all.items
unfolding arguments_in
call_items x all = search (rules, expression_lemmas)

-- the statements of a block
statements_in : StatementKind → List Statement
statements_in (Block' shape rest) = items-the_row-Statement _ rest
statements_in _ = []

block_items : (all : Vec Statement Global) → statements_in (Block all) ≡ all.items
unfolding statements_in
block_items all = search (rules, statement_lemmas)

module _ (test : Mention → Bool) (kind : FaultKind) (fault : Fault) where
  abbrev pub NamedAt : Expression → Type 0
  NamedAt e = NamedIn test kind fault e.kind e.span

  pub named_row : {n : _} (r : Row_of-Expression n) → Any NamedAt (items-the_row-Expression n r) → NamedInRow test kind fault r
  named_row end_of-Expression (k, y, l, e, h) = absurd (omega arith)
  named_row (more_of-Expression e at rest) h =
      elim (any_cases NamedAt _ _ h) [ inl p ↦ inl p | inr p ↦ inr (named_row rest p) ]

  named_arguments : (e : ExpressionKind) (span : Span) → Any NamedAt (arguments_in e) → NamedIn test kind fault e span
  unfolding arguments_in
  named_arguments (Call' x shape es) span h = inr (named_row es h)
  named_arguments _ span (k, y, l, e, h) = absurd (omega arith)

  pub named_call : (x : Name) (all : Vec Expression Global) (span : Span) → Any NamedAt all.items → NamedIn test kind fault (Call x all) span
  named_call x all span h = named_arguments (Call x all) span (subst (Any NamedAt) (sym (call_items x all)) h)

  pub named_block_row : {n : _} (r : Row_of-Statement n) → NamedInBody test kind fault (items-the_row-Statement n r) → NamedInBlock test kind fault r
  named_block_row end_of-Statement h = h
  named_block_row (more_of-Statement a at rest) (inl p) = inl p
  named_block_row (more_of-Statement a at rest) (inr p) = inr (named_block_row rest p)

  named_statements : (s : StatementKind) → NamedInBody test kind fault (statements_in s) → NamedInStatement test kind fault s
  unfolding statements_in
  named_statements (Block' shape rest) h = named_block_row rest h
  named_statements _ h = absurd h

  pub named_block : (all : Vec Statement Global) → NamedInBody test kind fault all.items → NamedInStatement test kind fault (Block all)
  named_block all h = named_statements (Block all) (subst (NamedInBody test kind fault) (sym (block_items all)) h)

module _ (fault : Fault) where
  pub read_row : (flow : Flow) {n : _} (r : Row_of-Statement n) → ReadInBody fault flow (items-the_row-Statement n r) → ReadInBlock fault flow r
  read_row flow end_of-Statement h = h
  read_row flow (more_of-Statement a at rest) (inl p) = inl p
  read_row flow (more_of-Statement a at rest) (inr (g, e, p)) = inr (g, e, read_row g rest p)

  read_statements : (flow : Flow) (s : StatementKind) → ReadInBody fault flow (statements_in s) → ReadInStatement fault flow s
  unfolding statements_in
  read_statements flow (Block' shape rest) h = read_row flow rest h
  read_statements flow _ h = absurd h

  pub read_block : (flow : Flow) (all : Vec Statement Global) → ReadInBody fault flow all.items → ReadInStatement fault flow (Block all)
  read_block flow all h = read_statements flow (Block all) (subst (ReadInBody fault flow) (sym (block_items all)) h)

  pub block_cause : {K : Type 0} (flow : Flow) (all : Vec Statement Global) → K ⊎ ReadInBody fault flow all.items → K ⊎ ReadInStatement fault flow (Block all)
  block_cause flow all (inl h) = inl h
  block_cause flow all (inr h) = inr (read_block flow all h)

  -- the statement at a place, where what follows from that of the rest is known
  pub body_cause : {K : Type 0} (whole : Type 0) (flow : Flow) (xs : List Statement) (i : ℕ) (x : Statement) → i < length xs → x ≡ get_or xs i x → (ReadInBody fault flow (drop i xs) → whole)
      → K ⊎ ReadInStatement fault flow x.kind → K ⊎ whole
  body_cause whole flow xs i x l e go (inl h) = inl h
  body_cause whole flow xs i x l e go (inr h) =
      inr (go (subst (ReadInBody fault flow) (sym (drop_more xs i x l)) (inl (subst (λ y. ReadInStatement fault flow y.kind) e h))))
