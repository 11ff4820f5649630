-- The loops over operators, indexes and arguments.
use Rattle.std.proofs.Common.{◌≡◌, ℕ, zero, suc, ◌-◌, ◌<◌, ◌≤◌, max, true, false, cond, ltb, List, [], ◌∷◌, ◌++◌, Ok, Err, refl, sym, ap, subst, ◌∙◌, arith}
use Rattle.std.proofs.lemmas.Bool.{lt-ltb, le-ltb}
use Rattle.c0_source.specs.declared.kind.Kind.{Kind}
use Rattle.c0_source.specs.declared.kind.Kind.TheVariants as k
use Rattle.c0_source.specs.Terminals.{Terminal}
use Rattle.c0_syntax.specs.declared.expression.Expression.{Expression}
use Rattle.c0_syntax.specs.Trees.{Expressions, none, more}
use Rattle.c0_syntax.specs.Expressions.{precedence}
use Rattle.c0_syntax.specs.Views.{expression_of, expressions_of}
use Rattle.c0_grammar_laws.specs.declared.read_error.ReadError.{ReadError}
use Rattle.c0_parser_expressions.specs.declared.found.FoundExpression.{FoundExpression}
use Rattle.c0_parser_expressions.specs.declared.found.ExpressionStep.{ExpressionStep}
use Rattle.c0_parser_expressions.specs.declared.found.ExpressionStep.TheVariants as e
use Rattle.c0_grammar_laws.specs.Outcome.{Outcome, ◌>>=◌, Fails, plain_at, next, refuse, too_deep}
use Rattle.c0_grammar_laws.specs.ReadExpressions.{ReadType, ReadExpression, ReadArguments, add_first, after_argument, arguments, climb, join, postfix, postfix_by, read_expression, read_type, unary, whole}
use Rattle.c0_grammar_laws.specs.Places.{ArgumentsStand, ExpressionStands, PlacedArguments, Position, after_arguments, after_each, after_expression, skip}
use Rattle.c0_grammar_laws.proofs.Placed.{after_push, after_some, arguments_push}
use Rattle.c0_parser_expressions.specs.Found.{GivesExpression, expression_of_step, found_expression, height_of_expression_step}
use Rattle.c0_parser_cursor.proofs.Turned.{fails_along, fails_bind}

abbrev Inner : Type 0
Inner = ℕ → List Terminal → Outcome ReadExpression

abbrev InnerType : Type 0
InnerType = List Terminal → Outcome ReadType

abbrev Names : Type 0
Names = List (List ℕ)

-- ---- an expression

pub expression_none : (types : Names) (d least : ℕ) (ts : List Terminal) → d ≡ 0 → read_expression types d least ts ≡ too_deep ts
unfolding read_expression
expression_none types zero least ts e = refl
expression_none types (suc d) least ts e = absurd (omega arith)

pub expression_some : (types : Names) (d least : ℕ) (ts : List Terminal) → 0 < d
    → (unary types (read_expression types (d - 1)) (read_type types (d - 1)) d ts >>= climb types (read_expression types (d - 1)) (read_type types (d - 1)) d least d) ≡ read_expression types d least ts
unfolding read_expression whole
expression_some types zero least ts lt = absurd (omega arith)
expression_some types (suc d) least ts lt =
    let e : suc d - 1 ≡ d = omega arith in
    rw e refl

-- ---- a turn of the loop over indexes and fields

pub expression_done : (go_on : ReadExpression → Outcome ReadExpression) (rest : List Terminal) (step : ExpressionStep) (f : FoundExpression) (read : Outcome ReadExpression) → step ≡ e.Done f → GivesExpression go_on rest (Ok step) read → read ≡ Ok (found_expression rest f)
expression_done go_on rest step f read e h = subst (λ s. GivesExpression go_on rest (Ok s) read) e h

pub expression_more : (go_on : ReadExpression → Outcome ReadExpression) (rest : List Terminal) (step : ExpressionStep) (f : FoundExpression) (read : Outcome ReadExpression) → step ≡ e.More f → GivesExpression go_on rest (Ok step) read → read ≡ go_on (found_expression rest f)
expression_more go_on rest step f read e h = subst (λ s. GivesExpression go_on rest (Ok s) read) e h

pub expression_low : (d : ℕ) (step : ExpressionStep) (f : FoundExpression) → step ≡ e.More f → height_of_expression_step step ≤ d → f.height ≤ d
expression_low d step f e h = subst (λ s. height_of_expression_step s ≤ d) e h

pub expression_stands : (first last : Position) (step : ExpressionStep) (f : FoundExpression) → step ≡ e.Done f → ExpressionStands first (expression_of_step step) last → ExpressionStands first f.expression last
expression_stands first last step f e h = subst (λ s. ExpressionStands first (expression_of_step s) last) e h

pub expression_grows : (first last : Position) (step : ExpressionStep) (f : FoundExpression) → step ≡ e.More f → ExpressionStands first (expression_of_step step) last → ExpressionStands first f.expression last
expression_grows first last step f e h = subst (λ s. ExpressionStands first (expression_of_step s) last) e h

module _ (types : Names) (inner : Inner) (inner_type : InnerType) where
  pub postfix_turn : (limit m n : ℕ) (a : ReadExpression) (total : Outcome ReadExpression) → m ≡ suc n → postfix types inner inner_type limit m a ≡ total
      → postfix_by types inner inner_type limit (postfix types inner inner_type limit n) (plain_at a.rest) a ≡ total
  unfolding postfix
  postfix_turn limit m n a total e so_far =
      let one : postfix types inner inner_type limit m a ≡ postfix_by types inner inner_type limit (postfix types inner inner_type limit n) (plain_at a.rest) a = rw e refl in
      sym one ∙ so_far

  pub postfix_end : (limit m : ℕ) (a : ReadExpression) (total : Outcome ReadExpression) → m ≡ 0 → postfix types inner inner_type limit m a ≡ total → total ≡ too_deep a.rest
  unfolding postfix
  postfix_end limit m a total e so_far =
      let one : postfix types inner inner_type limit m a ≡ too_deep a.rest = rw e refl in
      sym so_far ∙ one

  -- ---- the loop over operators

  climb_step : (limit least m n : ℕ) (a : ReadExpression) → m ≡ suc n → climb types inner inner_type limit least m a
      ≡ cond (ltb (precedence (plain_at a.rest)) least) (Ok a) (cond (ltb a.height limit) (join types inner inner_type a >>= climb types inner inner_type limit least n) (too_deep a.rest))
  unfolding climb
  climb_step limit least m n a e = rw e refl

  pub climb_stop : (limit least m n : ℕ) (a : ReadExpression) (total : Outcome ReadExpression) → m ≡ suc n → precedence (plain_at a.rest) < least → climb types inner inner_type limit least m a ≡ total → total ≡ Ok a
  climb_stop limit least m n a total e weak so_far =
      let t : ltb (precedence (plain_at a.rest)) least ≡ true = lt-ltb _ _ weak in
      let one : climb types inner inner_type limit least m a ≡ Ok a = rw (climb_step limit least m n a e, t) refl in
      sym so_far ∙ one

  pub climb_deep : (limit least m n : ℕ) (a : ReadExpression) (total : Outcome ReadExpression) → m ≡ suc n → least ≤ precedence (plain_at a.rest) → limit ≤ a.height → climb types inner inner_type limit least m a ≡ total → total ≡ too_deep a.rest
  climb_deep limit least m n a total e strong high so_far =
      let s : ltb (precedence (plain_at a.rest)) least ≡ false = le-ltb _ _ strong in
      let t : ltb a.height limit ≡ false = le-ltb _ _ high in
      let one : climb types inner inner_type limit least m a ≡ too_deep a.rest = rw (climb_step limit least m n a e, s, t) refl in
      sym so_far ∙ one

  pub climb_turn : (limit least m n : ℕ) (a : ReadExpression) (total : Outcome ReadExpression) → m ≡ suc n → least ≤ precedence (plain_at a.rest) → a.height < limit → climb types inner inner_type limit least m a ≡ total
      → (join types inner inner_type a >>= climb types inner inner_type limit least n) ≡ total
  climb_turn limit least m n a total e strong low so_far =
      let s : ltb (precedence (plain_at a.rest)) least ≡ false = le-ltb _ _ strong in
      let t : ltb a.height limit ≡ true = lt-ltb _ _ low in
      let one : climb types inner inner_type limit least m a ≡ (join types inner inner_type a >>= climb types inner inner_type limit least n) = rw (climb_step limit least m n a e, s, t) refl in
      sym one ∙ so_far

  pub climb_more : (limit least n : ℕ) (a b : ReadExpression) (total : Outcome ReadExpression) → join types inner inner_type a ≡ Ok b → (join types inner inner_type a >>= climb types inner inner_type limit least n) ≡ total → climb types inner inner_type limit least n b ≡ total
  climb_more limit least n a b total joined so_far =
      let go : (join types inner inner_type a >>= climb types inner inner_type limit least n) ≡ climb types inner inner_type limit least n b = rw joined refl in
      sym go ∙ so_far

  pub climb_fails : (limit least n : ℕ) (a : ReadExpression) (total : Outcome ReadExpression) (f : ReadError) → Fails f (join types inner inner_type a) → (join types inner inner_type a >>= climb types inner inner_type limit least n) ≡ total → Fails f total
  climb_fails limit least n a total f h so_far = fails_along f _ total so_far (fails_bind f (join types inner inner_type a) (climb types inner inner_type limit least n) h)

  pub climb_end : (limit least m : ℕ) (a : ReadExpression) (total : Outcome ReadExpression) → m ≡ 0 → climb types inner inner_type limit least m a ≡ total → total ≡ too_deep a.rest
  unfolding climb
  climb_end limit least m a total e so_far =
      let one : climb types inner inner_type limit least m a ≡ too_deep a.rest = rw e refl in
      sym so_far ∙ one

-- ---- the loop over arguments

abbrev pub join_trees : Expressions → Expressions → Expressions
join_trees none ys = ys
join_trees (more x xs) ys = more x (join_trees xs ys)

join_trees_assoc : (xs : Expressions) (y : _) (ys : Expressions) → join_trees xs (more y ys) ≡ join_trees (join_trees xs (more y none)) ys
join_trees_assoc none y ys = refl
join_trees_assoc (more x xs) y ys = ap (more x) (join_trees_assoc xs y ys)

pub expressions_push : (xs : List Expression) (x : Expression) → expressions_of (xs ++ x ∷ []) ≡ join_trees (expressions_of xs) (more (expression_of x) none)
expressions_push [] x = refl
expressions_push (y ∷ xs) x = ap (more (expression_of y)) (expressions_push xs x)

-- the trees read before, with those that are read from here on
abbrev pub front_of : Expressions → ℕ → ReadArguments → ReadArguments
front_of front height r = record { trees = join_trees front r.trees; height = max height r.height; rest = r.rest }

abbrev pub with_front : Expressions → ℕ → Outcome ReadArguments → Outcome ReadArguments
with_front front height read = read >>= λ r. Ok (front_of front height r)

pub no_front : (o : Outcome ReadArguments) → with_front none 0 o ≡ o
no_front (Ok r) = let m : max 0 r.height ≡ r.height = omega arith in rw m refl
no_front (Err e) = refl

regroup : (front : Expressions) (h : ℕ) (x : ReadExpression) (o : Outcome ReadArguments) → with_front front h (o >>= λ xs. Ok (add_first x xs)) ≡ with_front (join_trees front (more x.tree none)) (max x.height h) o
regroup front h x (Ok r) =
    let m : max h (max x.height r.height) ≡ max (max x.height h) r.height = omega arith in
    rw (m, join_trees_assoc front x.tree r.trees) refl
regroup front h x (Err e) = refl

after_other : (types : Names) (inner : Inner) (inner_type : InnerType) (others : List Terminal → Outcome ReadArguments) (kind : Kind) (x : ReadExpression) → (kind ≡ k.Comma → ⊥) → (kind ≡ k.RParen → ⊥) → after_argument types inner inner_type others kind x ≡ refuse x.rest
after_other types inner inner_type others k.Comma x p q = absurd (p refl)
after_other types inner inner_type others k.RParen x p q = absurd (q refl)
after_other types inner inner_type others _ x p q = refl

module _ (types : Names) (inner : Inner) (inner_type : InnerType) (front : Expressions) (h : ℕ) where
  pub arguments_fail : (m n : ℕ) (ts : List Terminal) (total : Outcome ReadArguments) (f : ReadError) → m ≡ suc n → Fails f (inner 1 ts) → with_front front h (arguments types inner inner_type m ts) ≡ total → Fails f total
  unfolding arguments
  arguments_fail m n ts total f e bad so_far =
      let one : with_front front h (arguments types inner inner_type m ts) ≡ with_front front h (inner 1 ts >>= λ x. after_argument types inner inner_type (arguments types inner inner_type n) (plain_at x.rest) x) = rw e refl in
      fails_along f _ total (sym one ∙ so_far) (fails_bind f _ (λ r. Ok (front_of front h r)) (fails_bind f (inner 1 ts) (λ x. after_argument types inner inner_type (arguments types inner inner_type n) (plain_at x.rest) x) bad))

  pub arguments_more : (m n : ℕ) (ts us : List Terminal) (x : ReadExpression) (total : Outcome ReadArguments) → m ≡ suc n → inner 1 ts ≡ Ok x → plain_at x.rest ≡ k.Comma → us ≡ next x.rest → with_front front h (arguments types inner inner_type m ts) ≡ total
      → with_front (join_trees front (more x.tree none)) (max x.height h) (arguments types inner inner_type n us) ≡ total
  unfolding arguments
  arguments_more m n ts us x total e ok comma after so_far =
      let one : with_front front h (arguments types inner inner_type m ts) ≡ with_front front h (arguments types inner inner_type n us >>= λ xs. Ok (add_first x xs)) = rw (e, ok, comma, after) refl in
      sym (regroup front h x (arguments types inner inner_type n us)) ∙ (sym one ∙ so_far)

  pub arguments_done : (m n : ℕ) (ts us : List Terminal) (x : ReadExpression) (total : Outcome ReadArguments) → m ≡ suc n → inner 1 ts ≡ Ok x → plain_at x.rest ≡ k.RParen → us ≡ next x.rest → with_front front h (arguments types inner inner_type m ts) ≡ total
      → total ≡ Ok (record { trees = join_trees front (more x.tree none); height = max x.height h; rest = us })
  unfolding arguments
  arguments_done m n ts us x total e ok closed after so_far =
      let s : max h x.height ≡ max x.height h = omega arith in
      let one : with_front front h (arguments types inner inner_type m ts) ≡ Ok (record { trees = join_trees front (more x.tree none); height = max x.height h; rest = us }) = rw (e, ok, closed, after, s) refl in
      sym so_far ∙ one

  pub arguments_refuse : (m n : ℕ) (ts : List Terminal) (x : ReadExpression) (total : Outcome ReadArguments) → m ≡ suc n → inner 1 ts ≡ Ok x → (plain_at x.rest ≡ k.Comma → ⊥) → (plain_at x.rest ≡ k.RParen → ⊥) → with_front front h (arguments types inner inner_type m ts) ≡ total → total ≡ refuse x.rest
  unfolding arguments
  arguments_refuse m n ts x total e ok p q so_far =
      let one : with_front front h (arguments types inner inner_type m ts) ≡ refuse x.rest = rw (e, ok, after_other types inner inner_type (arguments types inner inner_type n) (plain_at x.rest) x p q) refl in
      sym so_far ∙ one

  pub arguments_end : (m : ℕ) (ts : List Terminal) (total : Outcome ReadArguments) → m ≡ 0 → with_front front h (arguments types inner inner_type m ts) ≡ total → total ≡ refuse ts
  unfolding arguments
  arguments_end m ts total e so_far =
      let one : with_front front h (arguments types inner inner_type m ts) ≡ refuse ts = rw e refl in
      sym so_far ∙ one

-- ---- where the arguments stand

pub arguments_grow : (p m n q : Position) (es all : List Expression) (e : Expression) → all ≡ es ++ e ∷ [] → PlacedArguments p es × (after_each (expressions_of es) p ≡ m) → ExpressionStands m e n → skip n ≡ q
    → PlacedArguments p all × (after_each (expressions_of all) p ≡ q)
arguments_grow p m n q es all e same so_far stands last =
    rw same (arguments_push p m es e so_far.0 so_far.1 stands.0, after_push p es e ∙ (ap (λ o. skip (after_expression (expression_of e) o)) so_far.1 ∙ (ap skip stands.1 ∙ last)))

pub arguments_stand : (p m n q : Position) (es all : List Expression) (e : Expression) → all ≡ es ++ e ∷ [] → PlacedArguments p es × (after_each (expressions_of es) p ≡ m) → ExpressionStands m e n → skip n ≡ q → ArgumentsStand p all q
arguments_stand p m n q es all e same so_far stands last =
    let grown = arguments_grow p m n q es all e same so_far stands last in
    (grown.0, ap (λ xs. after_arguments (expressions_of xs) p) same ∙ (after_some p es e ∙ (sym (ap (λ xs. after_each (expressions_of xs) p) same) ∙ grown.1)))
