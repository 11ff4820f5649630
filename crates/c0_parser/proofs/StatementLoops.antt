-- Statements of one level less, and the loop over statements.
use Rattle.std.proofs.Common.{◌≡◌, ℕ, zero, suc, ◌-◌, ◌<◌, Bool, List, [], ◌∷◌, ◌++◌, Ok, Err, refl, sym, ap, ◌∙◌, arith}
use Rattle.c0_source.specs.declared.kind.Kind.{Kind}
use Rattle.c0_source.specs.declared.kind.Kind.TheVariants as k
use Rattle.c0_source.specs.Terminals.{Terminal}
use Rattle.c0_syntax.specs.declared.statement.Statement.{Statement as Node}
use Rattle.c0_syntax.specs.Trees.{Statement, Statements, nothing, also}
use Rattle.c0_syntax.specs.Views.{statement_of, statements_of}
use Rattle.c0_grammar_laws.specs.declared.read_error.ReadError.{ReadError}
use Rattle.c0_grammar_laws.specs.Outcome.{Outcome, ◌>>=◌, Fails, kind_at, plain_at, next, refuse, too_deep}
use Rattle.c0_grammar_laws.specs.ReadStatements.{Counted, read_simple, simple_by, read_statement, statement_by, read_statements, statements_by}
use Rattle.c0_parser_cursor.proofs.Turned.{fails_along, fails_bind}

pub simple_none : (types : List (List ℕ)) (d room : ℕ) (ts : List Terminal) → d ≡ 0 → read_simple types d room ts ≡ too_deep ts
unfolding read_simple
simple_none types d room ts e = rw e refl

pub simple_some : (types : List (List ℕ)) (d room : ℕ) (ts : List Terminal) → 0 < d → simple_by types (d - 1) room (kind_at types ts) ts ≡ read_simple types d room ts
unfolding read_simple
simple_some types zero room ts lt = absurd (omega arith)
simple_some types (suc d) room ts lt = let e : suc d - 1 ≡ d = omega arith in rw e refl

pub statement_none : (types : List (List ℕ)) (loops : Bool) (d room : ℕ) (ts : List Terminal) → d ≡ 0 → read_statement types loops d room ts ≡ too_deep ts
unfolding read_statement
statement_none types loops d room ts e = rw e refl

pub statement_some : (types : List (List ℕ)) (loops : Bool) (d room : ℕ) (ts : List Terminal) → 0 < d → statement_by types loops (read_statement types loops (d - 1)) (d - 1) (plain_at ts) room ts ≡ read_statement types loops d room ts
unfolding read_statement
statement_some types loops zero room ts lt = absurd (omega arith)
statement_some types loops (suc d) room ts lt = let e : suc d - 1 ≡ d = omega arith in rw e refl

-- ---- the loop over statements

abbrev pub join_statements : Statements → Statements → Statements
join_statements nothing ys = ys
join_statements (also x xs) ys = also x (join_statements xs ys)

join_statements_assoc : (xs : Statements) (y : Statement) (ys : Statements) → join_statements xs (also y ys) ≡ join_statements (join_statements xs (also y nothing)) ys
join_statements_assoc nothing y ys = refl
join_statements_assoc (also x xs) y ys = ap (also x) (join_statements_assoc xs y ys)

join_nothing : (xs : Statements) → join_statements xs nothing ≡ xs
join_nothing nothing = refl
join_nothing (also x xs) = ap (also x) (join_nothing xs)

pub statements_push : (xs : List Node) (x : Node) → statements_of (xs ++ x ∷ []) ≡ join_statements (statements_of xs) (also (statement_of x) nothing)
statements_push [] x = refl
statements_push (y ∷ xs) x = ap (also (statement_of y)) (statements_push xs x)

-- the statements read before, with those that are read from here on
abbrev pub with_statements : Statements → Outcome (Counted Statements) → Outcome (Counted Statements)
with_statements front o = o >>= λ r. Ok (record { value = join_statements front r.value; room = r.room; rest = r.rest })

pub no_statements : (o : Outcome (Counted Statements)) → with_statements nothing o ≡ o
no_statements (Ok r) = refl
no_statements (Err e) = refl

-- one statement before the others
abbrev before_others : Statement → Counted Statements → Counted Statements
before_others x xs = record { value = also x xs.value; room = xs.room; rest = xs.rest }

regroup : (front : Statements) (x : Statement) (o : Outcome (Counted Statements)) → with_statements front (o >>= λ xs. Ok (before_others x xs)) ≡ with_statements (join_statements front (also x nothing)) o
regroup front x (Ok r) = rw (join_statements_assoc front x r.value) refl
regroup front x (Err e) = refl

module _ (types : List (List ℕ)) (loops : Bool) (inner : ℕ → List Terminal → Outcome (Counted Statement)) (d : ℕ) where
  statements_other : (kind : Kind) (go_on : ℕ → List Terminal → Outcome (Counted Statements)) (room : ℕ) (ts : List Terminal) → (kind ≡ k.RBrace → ⊥)
      → statements_by types loops inner d kind go_on room ts ≡ (inner room ts >>= λ s. go_on s.room s.rest >>= λ ss. Ok (before_others s.value ss))
  statements_other k.RBrace go_on room ts h = absurd (h refl)
  statements_other _ go_on room ts h = refl

  statements_step : (m n room : ℕ) (ts : List Terminal) → m ≡ suc n → (plain_at ts ≡ k.RBrace → ⊥)
      → read_statements types loops inner d m room ts ≡ (inner room ts >>= λ s. read_statements types loops inner d n s.room s.rest >>= λ ss. Ok (before_others s.value ss))
  unfolding read_statements
  statements_step m n room ts e h = rw e (statements_other (plain_at ts) (read_statements types loops inner d n) room ts h)

  pub statements_more : (front : Statements) (m n room : ℕ) (ts : List Terminal) (x : Counted Statement) (total : Outcome (Counted Statements)) → m ≡ suc n → (plain_at ts ≡ k.RBrace → ⊥) → inner room ts ≡ Ok x
      → with_statements front (read_statements types loops inner d m room ts) ≡ total → with_statements (join_statements front (also x.value nothing)) (read_statements types loops inner d n x.room x.rest) ≡ total
  statements_more front m n room ts x total e h ok so_far =
      let one : with_statements front (read_statements types loops inner d m room ts) ≡ with_statements front (read_statements types loops inner d n x.room x.rest >>= λ ss. Ok (before_others x.value ss)) = rw (statements_step m n room ts e h, ok) refl in
      sym (regroup front x.value (read_statements types loops inner d n x.room x.rest)) ∙ (sym one ∙ so_far)

  pub statements_fail : (front : Statements) (m n room : ℕ) (ts : List Terminal) (f : ReadError) (total : Outcome (Counted Statements)) → m ≡ suc n → (plain_at ts ≡ k.RBrace → ⊥) → Fails f (inner room ts)
      → with_statements front (read_statements types loops inner d m room ts) ≡ total → Fails f total
  statements_fail front m n room ts f total e h bad so_far =
      let go = λ (s : Counted Statement). read_statements types loops inner d n s.room s.rest >>= λ ss. Ok (before_others s.value ss) in
      let one : with_statements front (read_statements types loops inner d m room ts) ≡ with_statements front (inner room ts >>= go) = rw (statements_step m n room ts e h) refl in
      fails_along f _ total (sym one ∙ so_far) (fails_bind f (inner room ts >>= go) (λ r. Ok (record { value = join_statements front r.value; room = r.room; rest = r.rest })) (fails_bind f (inner room ts) go bad))

  pub statements_done : (front : Statements) (m n room : ℕ) (ts : List Terminal) (total : Outcome (Counted Statements)) → m ≡ suc n → plain_at ts ≡ k.RBrace
      → with_statements front (read_statements types loops inner d m room ts) ≡ total → total ≡ Ok (record { value = front; room = room; rest = next ts })
  unfolding read_statements
  statements_done front m n room ts total e is so_far =
      let one : with_statements front (read_statements types loops inner d m room ts) ≡ Ok (record { value = front; room = room; rest = next ts }) = rw (e, is, join_nothing front) refl in
      sym so_far ∙ one

  pub statements_none : (front : Statements) (m room : ℕ) (ts : List Terminal) (total : Outcome (Counted Statements)) → m ≡ 0
      → with_statements front (read_statements types loops inner d m room ts) ≡ total → total ≡ refuse ts
  unfolding read_statements
  statements_none front m room ts total e so_far =
      let one : with_statements front (read_statements types loops inner d m room ts) ≡ refuse ts = rw e refl in
      sym so_far ∙ one
