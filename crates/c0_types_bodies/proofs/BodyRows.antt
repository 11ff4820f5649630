-- Statements in a vector within a tree, as a list; and facts of one place said of another that is equal.
use Rattle.std.proofs.Common.{◌≡◌, refl, sym, ap, subst, List, [], rules, inl, inr}
use Rattle.std.specs.Prelude.{◌⊎◌}
use Rattle.std.specs.declared.vec.Vec.{Vec}
use Rattle.std.specs.declared.alloc.Global.{Global}
use Rattle.c0_source.specs.declared.fault.Fault.{Fault}
use Rattle.c0_source.specs.declared.fault.Span.{Span}
use Rattle.c0_syntax.specs.declared.statement.Statement as n
use Rattle.c0_syntax.specs.declared.statement.StatementKind as k
use Rattle.c0_syntax.specs.declared.statement.StatementKind.TheViews as w
use Rattle.c0_syntax.specs.Trees as s
use Rattle.c0_syntax.specs.Views.{statement_of_kind, statement_row, statements_of}
use Rattle.c0_typed.specs.Trees as t
use Rattle.c0_typed.specs.Views.{stmt_of, block_row, block_of}
use Rattle.c0_typed.specs.declared.tree.Statement.{Statement, Row_of-Statement, end_of-Statement, more_of-Statement, items-the_row-Statement, the_lemmas as statement_lemmas}
use Rattle.c0_typed.specs.declared.tree.Statement.TheViews.{Block}
use Rattle.c0_rules.specs.FaultStatements.{InBody, InRow, InStatement}
use Rattle.c0_rules.specs.Statements.{Scope}
use Rattle.c0_rules.specs.Types.{Name, Environment}

rows : (texts : List Name) {n : _} (r : Row_of-Statement n) → block_row texts r ≡ block_of texts (items-the_row-Statement n r)
rows texts end_of-Statement = refl
rows texts (more_of-Statement s rest) = ap (t.Seq (stmt_of texts s)) (rows texts rest)

pub typed_block_is : (texts : List Name) (all : Vec Statement Global) → stmt_of texts (Block all) ≡ block_of texts all.items
typed_block_is texts all = search (rules, statement_lemmas, rows texts)

-- ---- as they were read

syntax_rows : {m : _} (r : k.Row_of-Statement m) → statement_row r ≡ statements_of (k.items-the_row-Statement m r)
syntax_rows k.end_of-Statement = refl
syntax_rows (k.more_of-Statement a at rest) = ap (s.also (statement_of_kind a)) (syntax_rows rest)

pub block_is : (all : Vec n.Statement Global) → statement_of_kind (w.Block all) ≡ s.Block (statements_of all.items)
block_is all = search (rules, k.the_lemmas, syntax_rows)

statements_in : k.StatementKind → List n.Statement
statements_in (k.Block' shape rest) = k.items-the_row-Statement _ rest
statements_in _ = []

block_items : (all : Vec n.Statement Global) → statements_in (w.Block all) ≡ all.items
unfolding statements_in
block_items all = search (rules, k.the_lemmas)

module _ (env : Environment) (f : Fault) where
  row_cause : (at : Scope) {m : _} (r : k.Row_of-Statement m) → InBody env f at (k.items-the_row-Statement m r) → InRow env f at r
  row_cause at k.end_of-Statement h = h
  row_cause at (k.more_of-Statement a here rest) (inl p) = inl p
  row_cause at (k.more_of-Statement a here rest) (inr (z, e, p)) = inr (z, e, row_cause z.scope rest p)

  in_statements : (at : Scope) (kind : k.StatementKind) (span : Span) → InBody env f at (statements_in kind) → InStatement env f at kind span
  unfolding statements_in
  in_statements at (k.Block' shape rest) span h = row_cause at rest h
  in_statements at _ span h = absurd h

  pub block_cause : (at : Scope) (all : Vec n.Statement Global) (span : Span) → InBody env f at all.items → InStatement env f at (w.Block all) span
  block_cause at all span h = in_statements at (w.Block all) span (subst (InBody env f at) (sym (block_items all)) h)

  pub block_told : {K : Type 0} (at : Scope) (all : Vec n.Statement Global) (span : Span) → K ⊎ InBody env f at all.items → K ⊎ InStatement env f at (w.Block all) span
  block_told at all span (inl k) = inl k
  block_told at all span (inr h) = inr (block_cause at all span h)

-- ---- equal places

pub along : {A B C : Type 0} (P : A → B → C → Type 0) {a d : A} {b e : B} {c f : C} → a ≡ d → b ≡ e → c ≡ f → P a b c → P d e f
along P {a = a} {d = d} {b = b} {e = e} {c = c} {f = f} p q r h = subst (λ x. P d e x) r (subst (λ x. P d x c) q (subst (λ x. P x b c) p h))
