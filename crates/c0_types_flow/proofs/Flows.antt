-- What stands before and behind statements.
use Rattle.std.proofs.Common.{◌≡◌, ◌⊎◌, List, [], ◌∷◌, map, refl, sym, ap, ◌∙◌, subst, inl, inr, Bool, true, false, cond, Option, Some, None, option_map}
use Rattle.std.specs.Prelude.{◌&&◌, ◌||◌, not, filter, filter_map, bytes_eq, is_some}
use Rattle.std.specs.List.{list_any}
use Rattle.std.proofs.lemmas.Bool.{eq-eqb}
use Rattle.std.proofs.lemmas.List.Folds.{list_any-append}
use Rattle.c0_source.specs.declared.fault.Fault.{Fault}
use Rattle.c0_syntax.specs.Trees as t
use Rattle.c0_syntax.specs.declared.expression.Expression.{Expression}
use Rattle.c0_syntax.specs.declared.statement.Annotation.{Annotation}
use Rattle.c0_syntax.specs.declared.statement.SimpleStatement.{SimpleStatement}
use Rattle.c0_syntax.specs.declared.statement.StatementKind.{StatementKind}
use Rattle.c0_syntax.specs.Views.{annotation_of, expression_of, simple_of, statement_of_kind}
use Rattle.c0_rules.specs.Types.{and_so, provided, Name, is_among, any_among}
use Rattle.c0_rules.specs.Mentions.{Mention, OfVariable, OfFunction, OfText, variable_of, mentions, spec_mentions, condition_of, specs_in}
use Rattle.c0_rules.specs.Assignment.{Flow, Ended, Reached, continued, has_ended, joined, left_scope, reads_assigned, specs_read_assigned, after_body, after_statement, flow_of_part, flow_of_statement, flow_of_statements}
use Rattle.c0_rules.specs.FaultPaths.{is_unassigned, ReadIn, ReadInAnnotations, ReadInPart, ReadInStatement}
use Rattle.c0_rules.proofs.Assigned.{statement_after}
use Rattle.c0_rules.proofs.Rules.{AllSome}
use Rattle.c0_types_flow.specs.FlowViews.{for_start, third_reads}

-- what passes a test of its view
pub filter_of_map : {A B : Type 0} (test : B → Bool) (view : A → B) (xs : List A) → map view (filter (λ x. test (view x)) xs) ≡ filter test (map view xs)
filter_of_map test view [] = refl
filter_of_map test view (x ∷ xs) = at (test (view x)) (filter_of_map test view xs)
  where
    at : (b : Bool) → map view (filter (λ x. test (view x)) xs) ≡ filter test (map view xs)
        → map view (cond b (x ∷ filter (λ x. test (view x)) xs) (filter (λ x. test (view x)) xs)) ≡ cond b (view x ∷ filter test (map view xs)) (filter test (map view xs))
    at true e = ap (λ z. view x ∷ z) e
    at false e = e

or_false : (b : Bool) → b ≡ (b || false)
or_false true = refl
or_false false = refl

-- behind a choice of which one way leads on
pub joined_reached : (names : List Name) (first second : Flow) → (has_ended first && has_ended second) ≡ false
    → joined (Reached names) first second ≡ Reached (filter (λ n. is_unassigned first (OfVariable n) || is_unassigned second (OfVariable n)) names)
joined_reached names Ended Ended e = absurd (cc e)
joined_reached names Ended (Reached second) e = refl
joined_reached names (Reached first) Ended e = λ i. Reached (filter (λ n. or_false (is_among n first) i) names)
joined_reached names (Reached first) (Reached second) e = refl

-- which of them does
pub first_leads : {a : Bool} (b : Bool) → a ≡ false → (a && b) ≡ false
first_leads b e = ap (λ z. z && b) e

pub second_leads : (a : Bool) {b : Bool} → b ≡ false → (a && b) ≡ false
second_leads true e = e
second_leads false e = refl

-- the same, of what each way lacks
pub merged : (names those us vs : List Name) (first second : Flow) → (has_ended first && has_ended second) ≡ false
    → ((n : Name) → is_among n us ≡ is_unassigned first (OfVariable n)) → ((n : Name) → is_among n vs ≡ is_unassigned second (OfVariable n))
    → those ≡ filter (λ n. is_among n us || is_among n vs) names → Reached those ≡ joined (Reached names) first second
merged names those us vs first second leads d e h =
    ap Reached h ∙ (λ i. Reached (filter (λ n. d n i || e n i) names)) ∙ sym (joined_reached names first second leads)

-- ---- reads

any_variable : (names : List Name) (ms : List Mention) → list_any (is_unassigned (Reached names)) ms ≡ any_among (filter_map variable_of ms) names
any_variable names [] = refl
any_variable names (OfVariable n ∷ ms) = ap (λ z. is_among n names || z) (any_variable names ms)
any_variable names (OfFunction n ∷ ms) = any_variable names ms
any_variable names (OfText n ∷ ms) = any_variable names ms

none_ended : (ms : List Mention) → list_any (is_unassigned Ended) ms ≡ false
none_ended [] = refl
none_ended (m ∷ ms) = none_ended ms

-- what reads no unassigned local reads assigned ones
pub reads_are : (flow : Flow) (e : t.Expression) → not (list_any (is_unassigned flow) (mentions e)) ≡ reads_assigned flow e
reads_are Ended e = ap not (none_ended (mentions e))
reads_are (Reached names) e = ap not (any_variable names (mentions e))

neither : (a b : Bool) → not (a || b) ≡ (not a && not b)
neither true b = refl
neither false b = refl

pub spec_reads_are : (flow : Flow) (specs : List t.Spec) → not (list_any (is_unassigned flow) (spec_mentions specs)) ≡ specs_read_assigned flow specs
spec_reads_are flow [] = refl
spec_reads_are flow (s ∷ specs) =
    ap not (list_any-append (is_unassigned flow) (mentions (condition_of s)) (spec_mentions specs))
    ∙ neither (list_any (is_unassigned flow) (mentions (condition_of s))) (list_any (is_unassigned flow) (spec_mentions specs))
    ∙ ap (λ z. z && not (list_any (is_unassigned flow) (spec_mentions specs))) (reads_are flow (condition_of s))
    ∙ ap (λ z. reads_assigned flow (condition_of s) && z) (spec_reads_are flow specs)

-- ---- a choice with one way

same_self : (n : Name) → bytes_eq n n ≡ true
same_self [] = refl
same_self (a ∷ n) = ap (λ z. z && bytes_eq n n) (eq-eqb a a refl) ∙ same_self n

or_true : (b : Bool) → (b || true) ≡ true
or_true true = refl
or_true false = refl

all_pass : (p : Name → Bool) (names : List Name) → ((n : Name) → is_among n names ≡ true → p n ≡ true) → filter p names ≡ names
all_pass p [] h = refl
all_pass p (n ∷ names) h =
    ap (λ z. cond z (n ∷ filter p names) (filter p names)) (h n (ap (λ z. z || is_among n names) (same_self n)))
    ∙ ap (λ z. n ∷ z) (all_pass p names (λ m e. h m (ap (λ z. bytes_eq m n || z) e ∙ or_true (bytes_eq m n))))

-- behind an `if` without `else` it is as before
pub joined_before : (f g : Flow) → joined f g f ≡ f
joined_before Ended g = refl
joined_before (Reached names) Ended = ap Reached (all_pass (λ n. is_among n names) names (λ n e. e))
joined_before (Reached names) (Reached first) =
    ap Reached (all_pass (λ n. is_among n first || is_among n names) names (λ n e. ap (λ z. is_among n first || z) e ∙ or_true (is_among n first)))

-- ... and so where the other way changes nothing
pub joined_first : (f h : Flow) → joined f f h ≡ f
joined_first Ended h = refl
joined_first (Reached names) Ended = ap Reached (all_pass (λ n. is_among n names) names (λ n e. e))
joined_first (Reached names) (Reached second) =
    ap Reached (all_pass (λ n. is_among n names || is_among n second) names (λ n e. ap (λ z. z || is_among n second) e))

-- ---- rules in a row

provided_so : {A : Type 0} (b : Bool) (o : Option A) → true ≡ b → provided b o ≡ o
provided_so true o e = refl
provided_so false o e = absurd (cc e)

none_so : {A B : Type 0} (o : Option A) (go : A → Option B) → o ≡ None → and_so o go ≡ None
none_so o go e = ap (λ z. and_so z go) e

both_so : (a b : Bool) → true ≡ a → true ≡ b → true ≡ (a && b)
both_so true b e h = h
both_so false b e h = absurd (cc e)

split_so : {A : Type 0} (o : Option A) (b : A → Bool) (x : A) → and_so o (λ g. provided (b g) (Some g)) ≡ Some x → (o ≡ Some x) × (true ≡ b x)
split_so None b x e = absurd (cc e)
split_so (Some g) b x e = at (b g) refl e
  where
    at : (r : Bool) → r ≡ b g → provided r (Some g) ≡ Some x → (Some g ≡ Some x) × (true ≡ b x)
    at true q h = (h, q ∙ ap b (let k : g ≡ x = cc h in k))
    at false q h = absurd (cc h)

none_either : {A B : Type 0} (o : Option A) (b : A → Bool) (go : A → Option B) → and_so o (λ g. provided (b g) (Some g)) ≡ None → and_so o (λ g. provided (b g) (go g)) ≡ None
none_either None b go e = refl
none_either (Some g) b go e = at (b g) e
  where
    at : (r : Bool) → provided r (Some g) ≡ None → provided r (go g) ≡ None
    at true h = absurd (cc h)
    at false h = refl

-- ---- behind a block

module _ (rest : t.Statements) (f : Flow) where
  pub block_leads : (g out : Flow) → flow_of_statements rest f ≡ Some g → out ≡ left_scope f g → flow_of_statement (t.Block rest) f ≡ Some out
  block_leads g out e o = ap (λ z. and_so z (λ g. Some (left_scope f g))) e ∙ ap Some (sym o)

  pub block_refused : {K : Type 0} → K ⊎ (flow_of_statements rest f ≡ None) → K ⊎ (flow_of_statement (t.Block rest) f ≡ None)
  block_refused (inl h) = inl h
  block_refused (inr h) = inr (none_so (flow_of_statements rest f) (λ g. Some (left_scope f g)) h)

-- ---- behind an `if`

pub if_leads : (c : t.Expression) (a : t.Statement) (f g : Flow) → true ≡ reads_assigned f c → flow_of_statement a f ≡ Some g → flow_of_statement (t.If c a) f ≡ Some f
if_leads c a f g r e =
    provided_so (reads_assigned f c) (and_so (flow_of_statement a f) (λ g. Some (joined f g f))) r
    ∙ ap (λ z. and_so z (λ g. Some (joined f g f))) e
    ∙ ap Some (joined_before f g)

pub if_else_leads : (c : t.Expression) (a b : t.Statement) (f g h : Flow) → true ≡ reads_assigned f c → flow_of_statement a f ≡ Some g → flow_of_statement b f ≡ Some h
    → flow_of_statement (t.IfElse c a b) f ≡ Some (joined f g h)
if_else_leads c a b f g h r e k =
    provided_so (reads_assigned f c) (and_so (flow_of_statement a f) (λ g. and_so (flow_of_statement b f) (λ h. Some (joined f g h)))) r
    ∙ ap (λ z. and_so z (λ g. and_so (flow_of_statement b f) (λ h. Some (joined f g h)))) e
    ∙ ap (λ z. and_so z (λ h. Some (joined f g h))) k

-- ---- behind a `for`

none_provided : {A : Type 0} (b : Bool) (o : Option A) → o ≡ None → provided b o ≡ None
none_provided true o e = e
none_provided false o e = refl

each_so : {A B : Type 0} (o : Option A) (go ho : A → Option B) → ((a : A) → go a ≡ ho a) → and_so o go ≡ and_so o ho
each_so None go ho k = refl
each_so (Some a) go ho k = k a

module _ (first : Option t.SimpleStatement) (c : t.Expression) (third : Option t.SimpleStatement) (notes : List (List t.Spec)) (a : t.Statement) (f : Flow) where
  abbrev reads : Flow → Bool
  reads g = reads_assigned g c && third_reads third a g && specs_read_assigned g (specs_in notes)

  abbrev inside : Flow → Option Flow
  inside g = and_so (flow_of_statement a g) (λ h. Some (left_scope f g))

  met : (s : Bool) (o : Option Flow) (out : Flow) → provided s (and_so o (λ k. Some out)) ≡ provided (is_some o && s) (Some out)
  met s None out = none_provided s None refl
  met s (Some k) out = refl

  -- the third part sees what the body assigns
  turn : (r s : Bool) (g out : Flow) (o : Option Flow) → AllSome (λ h. h ≡ after_statement a g) o
      → provided (r && s) (and_so o (λ h. and_so (flow_of_part third (joined g h (continued g a g Ended))) (λ k. Some out))) ≡ provided (r && third_reads third a g && s) (and_so o (λ h. Some out))
  turn false s g out o e = refl
  turn true s g out None e = none_provided s None refl ∙ sym (none_provided (third_reads third a g && s) None refl)
  turn true s g out (Some h) e = ap (λ z. provided s (and_so (flow_of_part third (joined g z (continued g a g Ended))) (λ k. Some out))) e ∙ met s (flow_of_part third (after_body a g)) out

  for_is : flow_of_statement (t.For first c third notes a) f ≡ and_so (flow_of_part first f) (λ g. provided (reads g) (inside g))
  for_is = each_so (flow_of_part first f) _ _ (λ g. turn (reads_assigned g c) (specs_read_assigned g (specs_in notes)) g (left_scope f g) (flow_of_statement a g) (statement_after a g))

  pub start_refused : {K : Type 0} → K ⊎ (for_start first c third notes a f ≡ None) → K ⊎ (flow_of_statement (t.For first c third notes a) f ≡ None)
  start_refused (inl h) = inl h
  start_refused (inr h) = inr (for_is ∙ none_either (flow_of_part first f) reads inside h)

  module _ (g : Flow) (start : for_start first c third notes a f ≡ Some g) where
    started : (flow_of_part first f ≡ Some g) × (true ≡ reads g)
    started = split_so (flow_of_part first f) reads g start

    from_start : flow_of_statement (t.For first c third notes a) f ≡ inside g
    from_start = for_is ∙ ap (λ z. and_so z (λ g. provided (reads g) (inside g))) started.0 ∙ provided_so (reads g) (inside g) started.1

    pub for_body_refused : {K : Type 0} (b : Flow) → b ≡ g → K ⊎ (flow_of_statement a b ≡ None) → K ⊎ (flow_of_statement (t.For first c third notes a) f ≡ None)
    for_body_refused b q (inl h) = inl h
    for_body_refused b q (inr h) = inr (from_start ∙ none_so (flow_of_statement a g) _ (ap (flow_of_statement a) (sym q) ∙ h))

    pub for_leads : (b h : Flow) → b ≡ g → flow_of_statement a b ≡ Some h → (out : Flow) → out ≡ left_scope f g → flow_of_statement (t.For first c third notes a) f ≡ Some out
    for_leads b h q body out o = from_start ∙ ap (λ z. and_so z (λ h. Some (left_scope f g))) (ap (flow_of_statement a) (sym q) ∙ body) ∙ ap Some (sym o)

-- ---- causes

-- the third of three
pub third_cause : {K C : Type 0} (A B : Type 0) → K ⊎ C → K ⊎ (A ⊎ B ⊎ C)
third_cause A B (inl h) = inl h
third_cause A B (inr h) = inr (inr (inr h))

module _ (fault : Fault) (first : Option SimpleStatement) (c : Expression) (third : Option SimpleStatement) (notes : List Annotation) (a : StatementKind) (f : Flow) where
  -- what is wrong in a `for`, as the rules have it
  abbrev pub InFor : Type 0
  InFor =
      ReadInPart fault f first
      ⊎ ((g : Flow) × (flow_of_part (option_map simple_of first) f ≡ Some g)
      × (ReadIn fault g c ⊎ ReadInPart fault (after_body (statement_of_kind a) g) third ⊎ ReadInAnnotations fault g notes ⊎ ReadInStatement fault g a))

  pub start_cause : {K : Type 0}
      → K ⊎ ReadInPart fault f first
      ⊎ ((g : Flow) × (flow_of_part (option_map simple_of first) f ≡ Some g) × (ReadIn fault g c ⊎ ReadInPart fault (after_body (statement_of_kind a) g) third ⊎ ReadInAnnotations fault g notes))
      → K ⊎ InFor
  start_cause (inl h) = inl h
  start_cause (inr (inl h)) = inr (inl h)
  start_cause (inr (inr (g, e, inl h))) = inr (inr (g, e, inl h))
  start_cause (inr (inr (g, e, inr (inl h)))) = inr (inr (g, e, inr (inl h)))
  start_cause (inr (inr (g, e, inr (inr h)))) = inr (inr (g, e, inr (inr (inl h))))

  pub inside_cause : {K : Type 0} (g : Flow) → for_start (option_map simple_of first) (expression_of c) (option_map simple_of third) (map annotation_of notes) (statement_of_kind a) f ≡ Some g
      → (inner : Flow) → inner ≡ g → K ⊎ ReadInStatement fault inner a → K ⊎ InFor
  inside_cause g start inner q (inl h) = inl h
  inside_cause g start inner q (inr h) =
      inr (inr (
        g,
        (started (option_map simple_of first) (expression_of c) (option_map simple_of third) (map annotation_of notes) (statement_of_kind a) f g start).0,
        inr (inr (inr (subst (λ z. ReadInStatement fault z a) q h))),
      ))
