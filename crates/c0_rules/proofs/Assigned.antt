-- What stands behind a statement that reads assigned locals alone stands behind it whatever it reads.
use Rattle.std.proofs.Common.{◌≡◌, List, [], ◌∷◌, refl, sym, ap, ◌∙◌, Bool, true, false, cond, Option, Some, None}
use Rattle.std.specs.Prelude.{◌&&◌, ◌||◌, not, filter, bytes_eq}
use Rattle.c0_syntax.specs.Trees.{Expression, Variable, Parenthesized, SimpleStatement, Declare, Initialize, Assign, Update, Step, Evaluate, Statement, Simple, Block, Annotation, Return, ReturnValue, If, IfElse, While, For, Assert, Error, Break, Continue, Statements, nothing, also}
use Rattle.c0_rules.specs.Types.{Name, is_among}
use Rattle.c0_rules.specs.Mentions.{specs_in, as_variable}
use Rattle.c0_rules.specs.Assignment.{Flow, Ended, Reached, continued, joined, left_scope, reads_assigned, specs_read_assigned, after_assignment, after_simple, after_part, after_statement, after_statements, flow_of_assignment, flow_of_simple, flow_of_part, flow_of_statement, flow_of_statements}
use Rattle.c0_rules.proofs.Rules.{AllSome, all_so, all_go, all_if, all_map, both_true, some_has}

-- a name that is not there is not missed
pub none_lost : (n : Name) (names : List Name) → is_among n names ≡ false → filter (λ m. not (bytes_eq n m)) names ≡ names
none_lost n [] e = refl
none_lost n (m ∷ names) e = at (bytes_eq n m) e (none_lost n names)
  where
    at : (b : Bool) → (b || is_among n names) ≡ false → (is_among n names ≡ false → filter (λ m. not (bytes_eq n m)) names ≡ names)
        → cond (not b) (m ∷ filter (λ m. not (bytes_eq n m)) names) (filter (λ m. not (bytes_eq n m)) names) ≡ m ∷ names
    at true e k = absurd (cc e)
    at false e k = ap (λ z. m ∷ z) (k e)

-- ---- an assignment to a local that has been assigned changes nothing

not_among : (b : Bool) → not (b || false) ≡ true → b ≡ false
not_among true e = absurd (cc e)
not_among false e = refl

behind_ended : (o : Option Name) → Ended ≡ after_assignment o Ended
behind_ended None = refl
behind_ended (Some n) = refl

assigned_among : (names : List Name) (d : Expression) → reads_assigned (Reached names) d ≡ true → Reached names ≡ after_assignment (as_variable d) (Reached names)
assigned_among names (Variable n) r = ap Reached (sym (none_lost n names (not_among (is_among n names) r)))
assigned_among names (Parenthesized d) r = assigned_among names d r
assigned_among names _ r = refl

assigned_before : (d : Expression) (f : Flow) → reads_assigned f d ≡ true → f ≡ after_assignment (as_variable d) f
assigned_before d Ended r = behind_ended (as_variable d)
assigned_before d (Reached names) r = assigned_among names d r

-- ---- statements

assigned_after : (o : Option Name) (d e : Expression) (f : Flow) → AllSome (λ g. g ≡ after_assignment o f) (flow_of_assignment o d e f)
assigned_after None d e f = all_if (λ g. g ≡ f) (reads_assigned f d && reads_assigned f e) (Some f) (λ q. refl)
assigned_after (Some n) d e f = all_if (λ g. g ≡ after_assignment (Some n) f) (reads_assigned f e) (Some (after_assignment (Some n) f)) (λ q. refl)

simple_after : (a : SimpleStatement) (f : Flow) → AllSome (λ g. g ≡ after_simple a f) (flow_of_simple a f)
simple_after (Declare u n) f = refl
simple_after (Initialize u n e) f = all_if (λ g. g ≡ f) (reads_assigned f e) (Some f) (λ q. refl)
simple_after (Assign d e) f = assigned_after (as_variable d) d e f
simple_after (Update d o e) f =
    all_if (λ g. g ≡ after_assignment (as_variable d) f) (reads_assigned f d && reads_assigned f e) (Some f) (λ q. assigned_before d f (both_true (reads_assigned f d) (reads_assigned f e) q).0)
simple_after (Step d way) f = all_if (λ g. g ≡ after_assignment (as_variable d) f) (reads_assigned f d) (Some f) (λ q. assigned_before d f q)
simple_after (Evaluate e) f = all_if (λ g. g ≡ f) (reads_assigned f e) (Some f) (λ q. refl)

part_after : (a : Option SimpleStatement) (f : Flow) → AllSome (λ g. g ≡ after_part a f) (flow_of_part a f)
part_after None f = refl
part_after (Some a) f = simple_after a f

mutual
  pub statement_after : (a : Statement) (f : Flow) → AllSome (λ g. g ≡ after_statement a f) (flow_of_statement a f)
  statement_after (Simple a) f = simple_after a f
  statement_after (Block rest) f =
      all_so (λ g. g ≡ after_statements rest f) (λ g. g ≡ after_statement (Block rest) f) (flow_of_statements rest f) _ (statements_after rest f) (λ g q. ap (left_scope f) q)
  statement_after (Annotation specs) f = all_if (λ g. g ≡ f) (specs_read_assigned f specs) (Some f) (λ q. refl)
  statement_after Return f = refl
  statement_after (ReturnValue e) f = all_if (λ g. g ≡ Ended) (reads_assigned f e) (Some Ended) (λ q. refl)
  statement_after (If c a) f =
      all_if (λ g. g ≡ after_statement (If c a) f) (reads_assigned f c) _ (λ r.
      all_so (λ g. g ≡ after_statement a f) (λ g. g ≡ after_statement (If c a) f) (flow_of_statement a f) _ (statement_after a f) (λ g q. ap (λ z. joined f z f) q))
  statement_after (IfElse c a b) f =
      all_if (λ g. g ≡ after_statement (IfElse c a b) f) (reads_assigned f c) _ (λ r.
      all_so (λ g. g ≡ after_statement a f) (λ g. g ≡ after_statement (IfElse c a b) f) (flow_of_statement a f) _ (statement_after a f) (λ g q.
      all_so (λ h. h ≡ after_statement b f) (λ h. h ≡ after_statement (IfElse c a b) f) (flow_of_statement b f) _ (statement_after b f) (λ h w.
      ap (λ z. joined f z h) q ∙ ap (joined f (after_statement a f)) w)))
  statement_after (While c notes a) f =
      all_if (λ g. g ≡ f) (reads_assigned f c && specs_read_assigned f (specs_in notes)) _ (λ r. all_go (λ g. g ≡ f) (flow_of_statement a f) _ (λ g q. refl))
  statement_after (For first c third notes a) f =
      all_so (λ g. g ≡ after_part first f) (λ g. g ≡ left_scope f (after_part first f)) (flow_of_part first f) _ (part_after first f) (λ g q.
      all_if (λ h. h ≡ left_scope f (after_part first f)) (reads_assigned g c && specs_read_assigned g (specs_in notes)) _ (λ r.
      all_go (λ h. h ≡ left_scope f (after_part first f)) (flow_of_statement a g) _ (λ h w.
      all_go (λ k. k ≡ left_scope f (after_part first f)) (flow_of_part third (joined g h (continued g a g Ended))) _ (λ k v. ap (left_scope f) q))))
  statement_after (Assert e) f = all_if (λ g. g ≡ f) (reads_assigned f e) (Some f) (λ q. refl)
  statement_after (Error e) f = all_if (λ g. g ≡ Ended) (reads_assigned f e) (Some Ended) (λ q. refl)
  statement_after Break f = refl
  statement_after Continue f = refl

  pub statements_after : (rest : Statements) (f : Flow) → AllSome (λ g. g ≡ after_statements rest f) (flow_of_statements rest f)
  statements_after nothing f = refl
  statements_after (also a rest) f =
      all_so (λ g. g ≡ after_statement a f) (λ g. g ≡ after_statements (also a rest) f) (flow_of_statement a f) _ (statement_after a f) (λ g q.
      all_map (λ h. h ≡ after_statements rest g) (λ h. h ≡ after_statements (also a rest) f) (flow_of_statements rest g) (statements_after rest g) (λ h w. w ∙ ap (after_statements rest) q))

pub after_is : (a : Statement) (f g : Flow) → flow_of_statement a f ≡ Some g → g ≡ after_statement a f
after_is a f g e = some_has (λ g. g ≡ after_statement a f) (flow_of_statement a f) g (statement_after a f) e
