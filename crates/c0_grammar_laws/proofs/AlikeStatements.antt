-- Annotations and statements read from tokens that are alike up to a place.
use Rattle.std.proofs.Common.{◌≡◌, ℕ, zero, suc, ◌≤◌, Bool, true, false, List, [], ◌∷◌, length, Option, None, Ok, refl, arith}
use Rattle.c0_source.specs.declared.kind.Kind.{Kind}
use Rattle.c0_source.specs.declared.kind.Kind.TheVariants as k
use Rattle.c0_syntax.specs.declared.operator.Change.TheVariants as n
use Rattle.c0_source.specs.Terminals.{Terminal}
use Rattle.c0_syntax.specs.Trees.{ValueType, Expression, Spec, Contract, Asserts, SimpleStatement, Declare, Initialize, Assign, Update, Step, Evaluate, Statement, Simple, Block, Annotation, Return, ReturnValue, If, IfElse, While, For, Assert, Error, Break, Continue, Statements, nothing, also}
use Rattle.c0_syntax.specs.Expressions.{begins_star}
use Rattle.c0_grammar_laws.specs.Outcome.{Outcome, ◌>>=◌, Read, refuse, plain_at, next, lparen, rparen, semi, new_name}
use Rattle.c0_grammar_laws.specs.ReadExpressions.{ReadType, ReadExpression, read_type, read_expression}
use Rattle.c0_grammar_laws.specs.ReadStatements.{Counted, spec_by, read_spec, specs_by, read_specs, annotations_by, read_annotations, value_by, room_by, local_declaration, step_by, behind_by, simple_by, read_simple, given, first_by, third_by, read_condition, call_of, with_semi, return_by, leave_by, Body, ForEnd, ForTest, else_by, statements_by, read_statements, if_of, loop_body, while_of, for_end, for_test, for_of, statement_by, read_statement, read_body}
use Rattle.c0_grammar_laws.proofs.Alike.{Form, tokens, Left, Alike, bind, done, refused, deep, large, on_next, by_plain, by_kind, wider, weaker, nothing_left, nothing_left_there, bind_at, each, one_less, Enough, loop, Loops, looped_more, looped_next}
use Rattle.c0_grammar_laws.proofs.AlikeTypes.{simple, read_form, type_form, Reads, lparen_alike, rparen_alike, semi_alike, new_name_alike, type_alike}
use Rattle.c0_grammar_laws.proofs.AlikeExpressions.{expression_form, expression_alike}

abbrev pub counted_form : (A : Type 0) → Form (Counted A)
counted_form A = simple (λ r. r.rest) (λ r p. record r { rest = p })

abbrev pub body_form : Form Body
body_form = simple (λ r. r.rest) (λ r p. record r { rest = p })

abbrev pub end_form : Form ForEnd
end_form = simple (λ r. r.body.rest) (λ r p. record r { body = record r.body { rest = p } })

abbrev pub test_form : Form ForTest
test_form = simple (λ r. r.end.body.rest) (λ r p. record r { end = record r.end { body = record r.end.body { rest = p } } })

module _ (b c : List Terminal) where
  module _ (types : List (List ℕ)) (d : ℕ) where
    exp : ℕ → List Terminal → Outcome ReadExpression
    exp = read_expression types d

    exp_alike : (least : ℕ) → Reads b c expression_form (read_expression types d least)
    exp_alike = expression_alike b c types d

    -- ---- annotations

    ended : (make : Expression → Spec) (w : Bool) (l m : ℕ) (e : ReadExpression) (p : List Terminal) → Left b c w l m e.rest p
        → Alike b c (read_form Spec) w l m (semi e.rest >>= λ rest. Ok (record { value = make e.tree; rest = rest })) (semi p >>= λ rest. Ok (record { value = make e.tree; rest = rest }))
    ended make w l m e p h =
        bind b c tokens (read_form Spec) w l m (semi e.rest) (semi p) (λ rest. Ok (record { value = make e.tree; rest = rest })) (λ rest. Ok (record { value = make e.tree; rest = rest }))
        (semi_alike b c w l m e.rest p (wider b c w l m e.rest p h)) (λ u xs ys _ z. done b c (read_form Spec) u l m (record { value = make e.tree; rest = xs }) ys tt z)

    spec_alike_as : (make : Expression → Spec) (w : Bool) (l m : ℕ) (ts us : List Terminal) → Left b c w (suc l) (suc m) ts us
        → Alike b c (read_form Spec) w l m (read_expression types d 1 (next ts) >>= λ e. semi e.rest >>= λ rest. Ok (record { value = make e.tree; rest = rest }))
        (read_expression types d 1 (next us) >>= λ e. semi e.rest >>= λ rest. Ok (record { value = make e.tree; rest = rest }))
    spec_alike_as make w l m ts us h =
        let g : ReadExpression → Outcome (Read Spec) = λ e. semi e.rest >>= λ rest. Ok (record { value = make e.tree; rest = rest }) in
        on_next b c (read_form Spec) w l m ts us (λ z. read_expression types d 1 z >>= g) (λ z. read_expression types d 1 z >>= g) h (λ v xs ys q.
        bind b c expression_form (read_form Spec) v l m (read_expression types d 1 xs) (read_expression types d 1 ys) g g (exp_alike 1 v l m xs ys (wider b c v l m xs ys q)) (λ u e p _ z. ended make u l m e p z))

    spec_alike_by : (w : Bool) (l m : ℕ) (ts us : List Terminal) → Left b c w (suc l) (suc m) ts us → (kind : Kind) → Alike b c (read_form Spec) w l m (spec_by types d kind ts) (spec_by types d kind us)
    spec_alike_by w l m ts us h (k.Clause x) = spec_alike_as (Contract x) w l m ts us h
    spec_alike_by w l m ts us h k.Assert = spec_alike_as Asserts w l m ts us h
    spec_alike_by w l m ts us h _ = refused b c (read_form Spec) w l m (suc l) (suc m) ts us h

  spec_alike : (types : List (List ℕ)) (d : ℕ) → Reads b c (read_form Spec) (read_spec types d)
  unfolding read_spec
  spec_alike types zero w l m ts us h = deep b c (read_form Spec) w l m (suc l) (suc m) ts us h
  spec_alike types (suc d) w l m ts us h = by_plain b c (read_form Spec) w l m (suc l) (suc m) ts us (λ z. spec_by types d z ts) (λ z. spec_by types d z us) h (spec_alike_by types d w l m ts us h)

  module _ (types : List (List ℕ)) (d : ℕ) where
    specs_alike_by : (go other : List Terminal → Outcome (Read (List Spec))) (w : Bool) (l m : ℕ)
        → ((v : Bool) (xs ys : List Terminal) → Left b c v l m xs ys → Alike b c (read_form (List Spec)) v l m (go xs) (other ys))
        → (ts us : List Terminal) → Left b c w (suc l) (suc m) ts us → (kind : Kind) → Alike b c (read_form (List Spec)) w l m (specs_by types d go kind ts) (specs_by types d other kind us)
    specs_alike_by go other w l m goes ts us h k.End =
        on_next b c (read_form (List Spec)) w l m ts us (λ z. Ok (record { value = []; rest = z })) (λ z. Ok (record { value = []; rest = z })) h (λ v xs ys q.
        done b c (read_form (List Spec)) v l m (record { value = []; rest = xs }) ys tt q)
    specs_alike_by go other w l m goes ts us h _ =
        bind b c (read_form Spec) (read_form (List Spec)) w l m (read_spec types d ts) (read_spec types d us) (λ s. go s.rest >>= λ ss. Ok (record { value = s.value ∷ ss.value; rest = ss.rest }))
        (λ s. other s.rest >>= λ ss. Ok (record { value = s.value ∷ ss.value; rest = ss.rest })) (spec_alike types d w l m ts us h) (λ v s p _ q.
        bind b c (read_form (List Spec)) (read_form (List Spec)) v l m (go s.rest) (other p) (λ ss. Ok (record { value = s.value ∷ ss.value; rest = ss.rest })) (λ ss. Ok (record { value = s.value ∷ ss.value; rest = ss.rest }))
        (goes v s.rest p q) (λ u r x _ z. done b c (read_form (List Spec)) u l m (record { value = s.value ∷ r.value; rest = r.rest }) x tt z))

    specs_turn : (n k : ℕ) (w : Bool) (l m : ℕ) → ((x : Unit {0}) (v : Bool) (xs ys : List Terminal) → Left b c v l m xs ys → Alike b c (read_form (List Spec)) v l m (read_specs types d n xs) (read_specs types d k ys))
        → (x : Unit {0}) (ts us : List Terminal) → Left b c w (suc l) (suc m) ts us → Alike b c (read_form (List Spec)) w l m (read_specs types d (suc n) ts) (read_specs types d (suc k) us)
    unfolding read_specs
    specs_turn n k w l m goes x ts us h =
        by_plain b c (read_form (List Spec)) w l m (suc l) (suc m) ts us (λ z. specs_by types d (read_specs types d n) z ts) (λ z. specs_by types d (read_specs types d k) z us) h
        (specs_alike_by (read_specs types d n) (read_specs types d k) w l m (λ v xs ys q. goes tt v xs ys q) ts us h)

    no_specs : (x : Unit {0}) (ts : List Terminal) → read_specs types d 0 ts ≡ refuse ts
    unfolding read_specs
    no_specs x ts = refl

    specs_loop : Loops b c (read_form (List Spec)) (read_specs types d)
    specs_loop n k w l m ts us e f h = loop b c (read_form (List Spec)) (λ n x. read_specs types d n) no_specs specs_turn n k w l m tt ts us e f h

    -- an annotation behind the sign that begins it
    annotation_alike : (w : Bool) (l m : ℕ) (ts us : List Terminal) → Left b c w (suc l) (suc m) ts us
        → Alike b c (read_form (List Spec)) w l m (read_specs types d (length ts) (next ts)) (read_specs types d (length us) (next us))
    annotation_alike w l m ts us h = looped_next b c (read_form (List Spec)) (read_specs types d) specs_loop w l m ts us h

    note_alike : (go other : List Terminal → Outcome (Read (List (List Spec)))) (w : Bool) (l m : ℕ)
        → ((v : Bool) (xs ys : List Terminal) → Left b c v l m xs ys → Alike b c (read_form (List (List Spec))) v l m (go xs) (other ys))
        → (ts us : List Terminal) → Left b c w (suc l) (suc m) ts us → Alike b c (read_form (List (List Spec))) w l m (annotations_by types d go k.Begin ts) (annotations_by types d other k.Begin us)
    note_alike go other w l m goes ts us h =
        bind b c (read_form (List Spec)) (read_form (List (List Spec))) w l m (read_specs types d (length ts) (next ts)) (read_specs types d (length us) (next us))
        (λ a. go a.rest >>= λ ns. Ok (record { value = a.value ∷ ns.value; rest = ns.rest })) (λ a. other a.rest >>= λ ns. Ok (record { value = a.value ∷ ns.value; rest = ns.rest })) (annotation_alike w l m ts us h) (λ v a p _ q.
        bind b c (read_form (List (List Spec))) (read_form (List (List Spec))) v l m (go a.rest) (other p) (λ ns. Ok (record { value = a.value ∷ ns.value; rest = ns.rest })) (λ ns. Ok (record { value = a.value ∷ ns.value; rest = ns.rest }))
        (goes v a.rest p q) (λ u r x _ z. done b c (read_form (List (List Spec))) u l m (record { value = a.value ∷ r.value; rest = r.rest }) x tt z))

    note_or_none : (go other : List Terminal → Outcome (Read (List (List Spec)))) (w : Bool) (l m i j : ℕ) → l ≤ i → m ≤ j
        → ((v : Bool) (xs ys : List Terminal) → Left b c v l m xs ys → Alike b c (read_form (List (List Spec))) v l m (go xs) (other ys))
        → (ts us : List Terminal) → Left b c w (suc l) (suc m) ts us → Left b c w i j ts us → (kind : Kind) → Alike b c (read_form (List (List Spec))) w i j (annotations_by types d go kind ts) (annotations_by types d other kind us)
    note_or_none go other w l m i j x y goes ts us h q k.Begin =
        weaker b c (read_form (List (List Spec))) w l m i j (annotations_by types d go k.Begin ts) (annotations_by types d other k.Begin us) x y (note_alike go other w l m goes ts us h)
    note_or_none go other w l m i j x y goes ts us h q _ = done b c (read_form (List (List Spec))) w i j (record { value = []; rest = ts }) us tt q

    notes_alike : (n k : ℕ) (w : Bool) (l m : ℕ) (ts us : List Terminal) → Enough b c w (suc l) n → Enough b c w (suc m) k → Left b c w l m ts us
        → Alike b c (read_form (List (List Spec))) w l m (read_annotations types d n ts) (read_annotations types d k us)
    unfolding read_annotations
    notes_alike zero k true l m ts us e f h = h.0
    notes_alike zero k false l m ts us e f h = absurd (omega (arith, e))
    notes_alike (suc n) k true l m ts us e f h =
        by_plain b c (read_form (List (List Spec))) true 0 0 0 0 ts ts (λ z. annotations_by types d (read_annotations types d n) z ts) (λ z. annotations_by types d (read_annotations types d n) z ts) (h.0, refl) (
        note_or_none (read_annotations types d n) (read_annotations types d n) true 0 0 0 0 (omega arith) (omega arith) (λ v xs ys q.
        each b c (read_form (List (List Spec))) 0 0 (read_annotations types d n) (read_annotations types d n) (λ xs ys q. notes_alike n n true 0 0 xs ys tt tt q) (λ xs ys q. absurd (nothing_left b c xs ys q.0 q.1)) v xs ys q) ts ts (h.0, refl) (h.0, refl))
    notes_alike (suc n) zero false l m ts us e f h = absurd (omega (arith, f))
    notes_alike (suc n) (suc k) false zero m ts us e f h = absurd (nothing_left b c ts us h.0 h.1)
    notes_alike (suc n) (suc k) false (suc l) zero ts us e f h = absurd (nothing_left_there b c ts us h.0 h.2)
    notes_alike (suc n) (suc k) false (suc l) (suc m) ts us e f h =
        by_plain b c (read_form (List (List Spec))) false (suc l) (suc m) (suc l) (suc m) ts us (λ z. annotations_by types d (read_annotations types d n) z ts) (λ z. annotations_by types d (read_annotations types d k) z us) h (
        note_or_none (read_annotations types d n) (read_annotations types d k) false l m (suc l) (suc m) (omega arith) (omega arith) (λ v xs ys q.
        each b c (read_form (List (List Spec))) l m (read_annotations types d n) (read_annotations types d k) (λ xs ys q. notes_alike n k true l m xs ys tt tt q) (λ xs ys q. notes_alike n k false l m xs ys (one_less (suc l) n e) (one_less (suc m) k f) q) v xs ys q) ts us h h)

    -- as many annotations as stand here
    pub all_notes : (w : Bool) (l m : ℕ) (ts us : List Terminal) → Left b c w l m ts us
        → Alike b c (read_form (List (List Spec))) w l m (read_annotations types d (suc (length ts)) ts) (read_annotations types d (suc (length us)) us)
    all_notes true l m ts us h = notes_alike (suc (length ts)) (suc (length us)) true l m ts us tt tt h
    all_notes false l m ts us h =
        weaker b c (read_form (List (List Spec))) false (length ts) (length us) l m (read_annotations types d (suc (length ts)) ts) (read_annotations types d (suc (length us)) us) h.1 h.2
        (notes_alike (suc (length ts)) (suc (length us)) false (length ts) (length us) ts us (omega arith) (omega arith) (h.0, omega arith, omega arith))

    -- ---- simple statements

    value_alike : (room : ℕ) (w : Bool) (l m : ℕ) (t : ValueType) (x : Read (List ℕ)) (p : List Terminal) → Left b c w l m x.rest p → (kind : Kind)
        → Alike b c (counted_form SimpleStatement) w l m (value_by types d room kind t x) (value_by types d room kind t (record x { rest = p }))
    value_alike room w l m t x p h k.Assign =
        let g : ReadExpression → Outcome (Counted SimpleStatement) = λ e. Ok (record { value = Initialize t x.value e.tree; room = room; rest = e.rest }) in
        on_next b c (counted_form SimpleStatement) w l m x.rest p (λ z. read_expression types d 1 z >>= g) (λ z. read_expression types d 1 z >>= g) (wider b c w l m x.rest p h) (λ v xs ys q.
        bind b c expression_form (counted_form SimpleStatement) v l m (read_expression types d 1 xs) (read_expression types d 1 ys) g g (exp_alike types d 1 v l m xs ys (wider b c v l m xs ys q)) (λ u e s _ z.
        done b c (counted_form SimpleStatement) u l m (record { value = Initialize t x.value e.tree; room = room; rest = e.rest }) s tt z))
    value_alike room w l m t x p h _ = done b c (counted_form SimpleStatement) w l m (record { value = Declare t x.value; room = room; rest = x.rest }) p tt h

    with_room : (room : ℕ) (u : Bool) (l m : ℕ) (t : ReadType) (p : List Terminal) (x : Read (List ℕ)) (s : List Terminal) → Left b c u l m x.rest s
        → Alike b c (counted_form SimpleStatement) u l m (room_by room t.rest (λ left. value_by types d left (plain_at x.rest) t.value_type x)) (room_by room p (λ left. value_by types d left (plain_at s) t.value_type (record x { rest = s })))
    with_room zero u l m t p x s z = large b c (counted_form SimpleStatement) u l m (length t.rest) (length p)
    with_room (suc room) u l m t p x s z =
        by_plain b c (counted_form SimpleStatement) u l m l m x.rest s (λ k. value_by types d room k t.value_type x) (λ k. value_by types d room k t.value_type (record x { rest = s })) z (value_alike room u l m t.value_type x s z)

    local_alike : (room : ℕ) → Reads b c (counted_form SimpleStatement) (local_declaration types d room)
    unfolding local_declaration
    local_alike room w l m ts us h =
        bind b c type_form (counted_form SimpleStatement) w l m (read_type types d ts) (read_type types d us) (λ t. new_name types t.rest >>= λ x. room_by room t.rest (λ left. value_by types d left (plain_at x.rest) t.value_type x))
        (λ t. new_name types t.rest >>= λ x. room_by room t.rest (λ left. value_by types d left (plain_at x.rest) t.value_type x)) (type_alike b c types d w l m ts us h) (λ v t p _ q.
        bind b c (read_form (List ℕ)) (counted_form SimpleStatement) v l m (new_name types t.rest) (new_name types p) (λ x. room_by room t.rest (λ left. value_by types d left (plain_at x.rest) t.value_type x))
        (λ x. room_by room p (λ left. value_by types d left (plain_at x.rest) t.value_type x)) (new_name_alike b c types v l m t.rest p (wider b c v l m t.rest p q)) (λ u x s _ z.
        with_room room u l m t p x s z))

    step_alike : (room : ℕ) (stars : Bool) (s : SimpleStatement) (w : Bool) (l m : ℕ) (e : ReadExpression) (p : List Terminal) → Left b c w l m e.rest p
        → Alike b c (counted_form SimpleStatement) w l m (step_by room stars s e) (step_by room stars s (record e { rest = p }))
    step_alike room true s w l m e p h = refused b c (counted_form SimpleStatement) w l m l m e.rest p h
    step_alike room false s w l m e p h =
        on_next b c (counted_form SimpleStatement) w l m e.rest p (λ z. Ok (record { value = s; room = room; rest = z })) (λ z. Ok (record { value = s; room = room; rest = z })) (wider b c w l m e.rest p h) (λ v xs ys q.
        done b c (counted_form SimpleStatement) v l m (record { value = s; room = room; rest = xs }) ys tt q)

    assigned_alike : (room : ℕ) (make : Expression → SimpleStatement) (w : Bool) (l m : ℕ) (a : ReadExpression) (p : List Terminal) → Left b c w l m a.rest p
        → Alike b c (counted_form SimpleStatement) w l m (read_expression types d 1 (next a.rest) >>= λ x. Ok (record { value = make x.tree; room = room; rest = x.rest })) (read_expression types d 1 (next p) >>= λ x. Ok (record { value = make x.tree; room = room; rest = x.rest }))
    assigned_alike room make w l m a p h =
        let g : ReadExpression → Outcome (Counted SimpleStatement) = λ x. Ok (record { value = make x.tree; room = room; rest = x.rest }) in
        on_next b c (counted_form SimpleStatement) w l m a.rest p (λ z. read_expression types d 1 z >>= g) (λ z. read_expression types d 1 z >>= g) (wider b c w l m a.rest p h) (λ v xs ys q.
        bind b c expression_form (counted_form SimpleStatement) v l m (read_expression types d 1 xs) (read_expression types d 1 ys) g g (exp_alike types d 1 v l m xs ys (wider b c v l m xs ys q)) (λ u e s _ z.
        done b c (counted_form SimpleStatement) u l m (record { value = make e.tree; room = room; rest = e.rest }) s tt z))

    behind_alike : (room : ℕ) (w : Bool) (l m : ℕ) (a : ReadExpression) (p : List Terminal) → Left b c w l m a.rest p → (kind : Kind)
        → Alike b c (counted_form SimpleStatement) w l m (behind_by types d room kind a) (behind_by types d room kind (record a { rest = p }))
    behind_alike room w l m a p h k.Assign = assigned_alike room (Assign a.tree) w l m a p h
    behind_alike room w l m a p h (k.Update op) = assigned_alike room (Update a.tree op) w l m a p h
    behind_alike room w l m a p h k.PlusPlus = step_alike room (begins_star a.tree) (Step a.tree n.Increment) w l m a p h
    behind_alike room w l m a p h k.MinusMinus = step_alike room (begins_star a.tree) (Step a.tree n.Decrement) w l m a p h
    behind_alike room w l m a p h _ = done b c (counted_form SimpleStatement) w l m (record { value = Evaluate a.tree; room = room; rest = a.rest }) p tt h

    evaluated_alike : (room : ℕ) (w : Bool) (l m : ℕ) (ts us : List Terminal) → Left b c w (suc l) (suc m) ts us
        → Alike b c (counted_form SimpleStatement) w l m (read_expression types d 1 ts >>= λ e. behind_by types d room (plain_at e.rest) e) (read_expression types d 1 us >>= λ e. behind_by types d room (plain_at e.rest) e)
    evaluated_alike room w l m ts us h =
        bind b c expression_form (counted_form SimpleStatement) w l m (read_expression types d 1 ts) (read_expression types d 1 us) (λ e. behind_by types d room (plain_at e.rest) e) (λ e. behind_by types d room (plain_at e.rest) e)
        (exp_alike types d 1 w l m ts us h) (λ v e p _ q.
        by_plain b c (counted_form SimpleStatement) v l m l m e.rest p (λ z. behind_by types d room z e) (λ z. behind_by types d room z (record e { rest = p })) q (behind_alike room v l m e p q))

    simple_alike_by : (room : ℕ) (w : Bool) (l m : ℕ) (ts us : List Terminal) → Left b c w (suc l) (suc m) ts us → (kind : Kind)
        → Alike b c (counted_form SimpleStatement) w l m (simple_by types d room kind ts) (simple_by types d room kind us)
    simple_alike_by room w l m ts us h (k.Base x) = local_alike room w l m ts us h
    simple_alike_by room w l m ts us h k.Struct = local_alike room w l m ts us h
    simple_alike_by room w l m ts us h k.TypeName = local_alike room w l m ts us h
    simple_alike_by room w l m ts us h _ = evaluated_alike room w l m ts us h

  simple_alike : (types : List (List ℕ)) (d room : ℕ) → Reads b c (counted_form SimpleStatement) (read_simple types d room)
  unfolding read_simple
  simple_alike types zero room w l m ts us h = deep b c (counted_form SimpleStatement) w l m (suc l) (suc m) ts us h
  simple_alike types (suc d) room w l m ts us h =
      by_kind b c (counted_form SimpleStatement) types w l m (suc l) (suc m) ts us (λ z. simple_by types d room z ts) (λ z. simple_by types d room z us) h (simple_alike_by types d room w l m ts us h)

  given_alike : (types : List (List ℕ)) (d room : ℕ) (w : Bool) (l m : ℕ) (ts us : List Terminal) → Left b c w l m ts us
      → Alike b c (counted_form (Option SimpleStatement)) w l m (read_simple types d room ts >>= λ s. Ok (given s)) (read_simple types d room us >>= λ s. Ok (given s))
  given_alike types d room w l m ts us h =
      bind b c (counted_form SimpleStatement) (counted_form (Option SimpleStatement)) w l m (read_simple types d room ts) (read_simple types d room us) (λ s. Ok (given s)) (λ s. Ok (given s))
      (simple_alike types d room w l m ts us (wider b c w l m ts us h)) (λ v s p _ q. done b c (counted_form (Option SimpleStatement)) v l m (given s) p tt q)

  first_alike : (types : List (List ℕ)) (d room : ℕ) (w : Bool) (l m : ℕ) (ts us : List Terminal) → Left b c w l m ts us → (kind : Kind)
      → Alike b c (counted_form (Option SimpleStatement)) w l m (first_by types d room kind ts) (first_by types d room kind us)
  first_alike types d room w l m ts us h k.Semi = done b c (counted_form (Option SimpleStatement)) w l m (record { value = None; room = room; rest = ts }) us tt h
  first_alike types d room w l m ts us h _ = given_alike types d room w l m ts us h

  third_alike : (types : List (List ℕ)) (d room : ℕ) (w : Bool) (l m : ℕ) (ts us : List Terminal) → Left b c w l m ts us → (kind : Kind)
      → Alike b c (counted_form (Option SimpleStatement)) w l m (third_by types d room kind ts) (third_by types d room kind us)
  third_alike types d room w l m ts us h k.RParen = done b c (counted_form (Option SimpleStatement)) w l m (record { value = None; room = room; rest = ts }) us tt h
  third_alike types d room w l m ts us h _ = given_alike types d room w l m ts us h

  -- ---- statements

  condition_alike : (types : List (List ℕ)) (d : ℕ) → Reads b c (read_form Expression) (read_condition types d)
  unfolding read_condition
  condition_alike types d w l m ts us h =
      let g : ReadExpression → Outcome (Read Expression) = λ e. rparen e.rest >>= λ rest. Ok (record { value = e.tree; rest = rest }) in
      bind b c tokens (read_form Expression) w l m (lparen ts) (lparen us) (λ z. read_expression types d 1 z >>= g) (λ z. read_expression types d 1 z >>= g) (lparen_alike b c w l m ts us h) (λ v xs ys _ q.
      bind b c expression_form (read_form Expression) v l m (read_expression types d 1 xs) (read_expression types d 1 ys) g g (exp_alike types d 1 v l m xs ys (wider b c v l m xs ys q)) (λ u e p _ z.
      bind b c tokens (read_form Expression) u l m (rparen e.rest) (rparen p) (λ rest. Ok (record { value = e.tree; rest = rest })) (λ rest. Ok (record { value = e.tree; rest = rest })) (rparen_alike b c u l m e.rest p (wider b c u l m e.rest p z)) (λ v zs bs _ y.
      done b c (read_form Expression) v l m (record { value = e.tree; rest = zs }) bs tt y)))

  call_alike : (types : List (List ℕ)) (d : ℕ) → Reads b c (read_form Expression) (call_of types d)
  unfolding call_of
  call_alike types d w l m ts us h =
      let g : Read Expression → Outcome (Read Expression) = λ e. semi e.rest >>= λ rest. Ok (record { value = e.value; rest = rest }) in
      bind b c (read_form Expression) (read_form Expression) w l m (read_condition types d ts) (read_condition types d us) g g (condition_alike types d w l m ts us h) (λ v e p _ q.
      bind b c tokens (read_form Expression) v l m (semi e.rest) (semi p) (λ rest. Ok (record { value = e.value; rest = rest })) (λ rest. Ok (record { value = e.value; rest = rest })) (semi_alike b c v l m e.rest p (wider b c v l m e.rest p q)) (λ u zs bs _ y.
      done b c (read_form Expression) u l m (record { value = e.value; rest = zs }) bs tt y))

  with_semi_alike : (s : Statement) (room : ℕ) (w : Bool) (l m : ℕ) (ts us : List Terminal) → Left b c w l m ts us → Alike b c (counted_form Statement) w l m (with_semi s room ts) (with_semi s room us)
  with_semi_alike s room w l m ts us h =
      bind b c tokens (counted_form Statement) w l m (semi ts) (semi us) (λ rest. Ok (record { value = s; room = room; rest = rest })) (λ rest. Ok (record { value = s; room = room; rest = rest })) (semi_alike b c w l m ts us (wider b c w l m ts us h)) (λ u zs bs _ y.
      done b c (counted_form Statement) u l m (record { value = s; room = room; rest = zs }) bs tt y)

  return_alike : (types : List (List ℕ)) (d room : ℕ) (w : Bool) (l m : ℕ) (ts us : List Terminal) → Left b c w l m ts us → (kind : Kind)
      → Alike b c (counted_form Statement) w l m (return_by types d room kind ts) (return_by types d room kind us)
  return_alike types d room w l m ts us h k.Semi =
      on_next b c (counted_form Statement) w l m ts us (λ z. Ok (record { value = Return; room = room; rest = z })) (λ z. Ok (record { value = Return; room = room; rest = z })) (wider b c w l m ts us h) (λ v xs ys q.
      done b c (counted_form Statement) v l m (record { value = Return; room = room; rest = xs }) ys tt q)
  return_alike types d room w l m ts us h _ =
      bind b c expression_form (counted_form Statement) w l m (read_expression types d 1 ts) (read_expression types d 1 us) (λ e. with_semi (ReturnValue e.tree) room e.rest) (λ e. with_semi (ReturnValue e.tree) room e.rest)
      (exp_alike types d 1 w l m ts us (wider b c w l m ts us h)) (λ v e p _ q. with_semi_alike (ReturnValue e.tree) room v l m e.rest p q)

  leave_alike : (loops : Bool) (s : Statement) (room : ℕ) → Reads b c (counted_form Statement) (leave_by loops s room)
  leave_alike true s room w l m ts us h = on_next b c (counted_form Statement) w l m ts us (with_semi s room) (with_semi s room) h (λ v xs ys q. with_semi_alike s room v l m xs ys q)
  leave_alike false s room w l m ts us h = refused b c (counted_form Statement) w l m (suc l) (suc m) ts us h

  module _ (types : List (List ℕ)) (loops : Bool) (inner : ℕ → List Terminal → Outcome (Counted Statement)) (d : ℕ) (ih : (room : ℕ) → Reads b c (counted_form Statement) (inner room)) where
    else_alike : (x : Expression) (w : Bool) (l m : ℕ) (a : Counted Statement) (p : List Terminal) → Left b c w l m a.rest p → (kind : Kind)
        → Alike b c (counted_form Statement) w l m (else_by types loops inner d kind x a) (else_by types loops inner d kind x (record a { rest = p }))
    else_alike x w l m a p h k.Else =
        let g : Counted Statement → Outcome (Counted Statement) = λ y. Ok (record { value = IfElse x a.value y.value; room = y.room; rest = y.rest }) in
        on_next b c (counted_form Statement) w l m a.rest p (λ z. inner a.room z >>= g) (λ z. inner a.room z >>= g) (wider b c w l m a.rest p h) (λ v xs ys q.
        bind b c (counted_form Statement) (counted_form Statement) v l m (inner a.room xs) (inner a.room ys) g g (ih a.room v l m xs ys (wider b c v l m xs ys q)) (λ u y s _ z.
        done b c (counted_form Statement) u l m (record { value = IfElse x a.value y.value; room = y.room; rest = y.rest }) s tt z))
    else_alike x w l m a p h _ = done b c (counted_form Statement) w l m (record { value = If x a.value; room = a.room; rest = a.rest }) p tt h

    statements_alike_by : (go other : ℕ → List Terminal → Outcome (Counted Statements)) (w : Bool) (l m : ℕ)
        → ((room : ℕ) (v : Bool) (xs ys : List Terminal) → Left b c v l m xs ys → Alike b c (counted_form Statements) v l m (go room xs) (other room ys))
        → (room : ℕ) (ts us : List Terminal) → Left b c w (suc l) (suc m) ts us → (kind : Kind)
        → Alike b c (counted_form Statements) w l m (statements_by types loops inner d kind go room ts) (statements_by types loops inner d kind other room us)
    statements_alike_by go other w l m goes room ts us h k.RBrace =
        on_next b c (counted_form Statements) w l m ts us (λ z. Ok (record { value = nothing; room = room; rest = z })) (λ z. Ok (record { value = nothing; room = room; rest = z })) h (λ v xs ys q.
        done b c (counted_form Statements) v l m (record { value = nothing; room = room; rest = xs }) ys tt q)
    statements_alike_by go other w l m goes room ts us h _ =
        bind b c (counted_form Statement) (counted_form Statements) w l m (inner room ts) (inner room us) (λ s. go s.room s.rest >>= λ ss. Ok (record { value = also s.value ss.value; room = ss.room; rest = ss.rest }))
        (λ s. other s.room s.rest >>= λ ss. Ok (record { value = also s.value ss.value; room = ss.room; rest = ss.rest })) (ih room w l m ts us h) (λ v s p _ q.
        bind b c (counted_form Statements) (counted_form Statements) v l m (go s.room s.rest) (other s.room p) (λ ss. Ok (record { value = also s.value ss.value; room = ss.room; rest = ss.rest })) (λ ss. Ok (record { value = also s.value ss.value; room = ss.room; rest = ss.rest }))
        (goes s.room v s.rest p q) (λ u r x _ z. done b c (counted_form Statements) u l m (record { value = also s.value r.value; room = r.room; rest = r.rest }) x tt z))

    statements_turn : (n k : ℕ) (w : Bool) (l m : ℕ) → ((room : ℕ) (v : Bool) (xs ys : List Terminal) → Left b c v l m xs ys → Alike b c (counted_form Statements) v l m (read_statements types loops inner d n room xs) (read_statements types loops inner d k room ys))
        → (room : ℕ) (ts us : List Terminal) → Left b c w (suc l) (suc m) ts us → Alike b c (counted_form Statements) w l m (read_statements types loops inner d (suc n) room ts) (read_statements types loops inner d (suc k) room us)
    unfolding read_statements
    statements_turn n k w l m goes room ts us h =
        by_plain b c (counted_form Statements) w l m (suc l) (suc m) ts us (λ z. statements_by types loops inner d z (read_statements types loops inner d n) room ts) (λ z. statements_by types loops inner d z (read_statements types loops inner d k) room us) h
        (statements_alike_by (read_statements types loops inner d n) (read_statements types loops inner d k) w l m goes room ts us h)

    no_statements : (room : ℕ) (ts : List Terminal) → read_statements types loops inner d 0 room ts ≡ refuse ts
    unfolding read_statements
    no_statements room ts = refl

    pub statements_loop : (room : ℕ) → Loops b c (counted_form Statements) (λ n. read_statements types loops inner d n room)
    statements_loop room n k w l m ts us e f h = loop b c (counted_form Statements) (read_statements types loops inner d) no_statements statements_turn n k w l m room ts us e f h

    if_alike : (room : ℕ) → Reads b c (counted_form Statement) (if_of types loops inner d room)
    unfolding if_of
    if_alike room w l m ts us h =
        let g : Read Expression → Counted Statement → Outcome (Counted Statement) = λ x a. else_by types loops inner d (plain_at a.rest) x.value a in
        bind b c (read_form Expression) (counted_form Statement) w l m (read_condition types d ts) (read_condition types d us) (λ x. inner room x.rest >>= g x) (λ x. inner room x.rest >>= g x) (condition_alike types d w l m ts us h) (λ v x p _ q.
        bind b c (counted_form Statement) (counted_form Statement) v l m (inner room x.rest) (inner room p) (g x) (g (record x { rest = p })) (ih room v l m x.rest p (wider b c v l m x.rest p q)) (λ u a s _ z.
        by_plain b c (counted_form Statement) u l m l m a.rest s (λ k. else_by types loops inner d k x.value a) (λ k. else_by types loops inner d k x.value (record a { rest = s })) z (else_alike x.value u l m a s z)))

    body_alike : (room : ℕ) → Reads b c body_form (loop_body types loops inner d room)
    unfolding loop_body
    body_alike room w l m ts us h =
        let g : Read (List (List Spec)) → Outcome Body = λ ns. inner room ns.rest >>= λ s. Ok (record { annotations = ns.value; body = s.value; room = s.room; rest = s.rest }) in
        bind_at b c (read_form (List (List Spec))) body_form w (suc l) (suc m) l m (read_annotations types d (suc (length ts)) ts) (read_annotations types d (suc (length us)) us) g g (all_notes types d w (suc l) (suc m) ts us h) (λ v ns p _ q.
        bind b c (counted_form Statement) body_form v l m (inner room ns.rest) (inner room p) (λ s. Ok (record { annotations = ns.value; body = s.value; room = s.room; rest = s.rest })) (λ s. Ok (record { annotations = ns.value; body = s.value; room = s.room; rest = s.rest }))
        (ih room v l m ns.rest p q) (λ u s x _ z. done b c body_form u l m (record { annotations = ns.value; body = s.value; room = s.room; rest = s.rest }) x tt z))

    while_alike : (room : ℕ) → Reads b c (counted_form Statement) (while_of types loops inner d room)
    unfolding while_of
    while_alike room w l m ts us h =
        let g : Read Expression → Body → Outcome (Counted Statement) = λ x y. Ok (record { value = While x.value y.annotations y.body; room = y.room; rest = y.rest }) in
        bind b c (read_form Expression) (counted_form Statement) w l m (read_condition types d ts) (read_condition types d us) (λ x. loop_body types loops inner d room x.rest >>= g x) (λ x. loop_body types loops inner d room x.rest >>= g x) (condition_alike types d w l m ts us h) (λ v x p _ q.
        bind b c body_form (counted_form Statement) v l m (loop_body types loops inner d room x.rest) (loop_body types loops inner d room p) (g x) (g (record x { rest = p })) (body_alike room v l m x.rest p (wider b c v l m x.rest p q)) (λ u y s _ z.
        done b c (counted_form Statement) u l m (record { value = While x.value y.annotations y.body; room = y.room; rest = y.rest }) s tt z))

    for_end_alike : (room : ℕ) → Reads b c end_form (for_end types loops inner d room)
    unfolding for_end
    for_end_alike room w l m ts us h =
        let f : Counted (Option SimpleStatement) → Outcome ForEnd = λ n. rparen n.rest >>= λ us. loop_body types loops inner d n.room us >>= λ y. Ok (record { step = n.value; body = y }) in
        bind_at b c (counted_form (Option SimpleStatement)) end_form w (suc l) (suc m) l m (third_by types d room (plain_at ts) ts) (third_by types d room (plain_at us) us) f f
        (by_plain b c (counted_form (Option SimpleStatement)) w (suc l) (suc m) (suc l) (suc m) ts us (λ k. third_by types d room k ts) (λ k. third_by types d room k us) h (third_alike types d room w (suc l) (suc m) ts us h)) (λ v n p _ q.
        bind b c tokens end_form v l m (rparen n.rest) (rparen p) (λ us. loop_body types loops inner d n.room us >>= λ y. Ok (record { step = n.value; body = y })) (λ us. loop_body types loops inner d n.room us >>= λ y. Ok (record { step = n.value; body = y }))
        (rparen_alike b c v l m n.rest p q) (λ u xs ys _ z.
        bind b c body_form end_form u l m (loop_body types loops inner d n.room xs) (loop_body types loops inner d n.room ys) (λ y. Ok (record { step = n.value; body = y })) (λ y. Ok (record { step = n.value; body = y })) (body_alike n.room u l m xs ys (wider b c u l m xs ys z)) (λ v y s _ k.
        done b c end_form v l m (record { step = n.value; body = y }) s tt k)))

    for_test_alike : (room : ℕ) → Reads b c test_form (for_test types loops inner d room)
    unfolding for_test
    for_test_alike room w l m ts us h =
        let g : ReadExpression → Outcome ForTest = λ x. semi x.rest >>= λ us. for_end types loops inner d room us >>= λ e. Ok (record { test = x.tree; end = e }) in
        bind b c expression_form test_form w l m (read_expression types d 1 ts) (read_expression types d 1 us) g g (exp_alike types d 1 w l m ts us h) (λ v x p _ q.
        bind b c tokens test_form v l m (semi x.rest) (semi p) (λ us. for_end types loops inner d room us >>= λ e. Ok (record { test = x.tree; end = e })) (λ us. for_end types loops inner d room us >>= λ e. Ok (record { test = x.tree; end = e })) (semi_alike b c v l m x.rest p (wider b c v l m x.rest p q)) (λ u xs ys _ z.
        bind b c end_form test_form u l m (for_end types loops inner d room xs) (for_end types loops inner d room ys) (λ e. Ok (record { test = x.tree; end = e })) (λ e. Ok (record { test = x.tree; end = e })) (for_end_alike room u l m xs ys (wider b c u l m xs ys z)) (λ v e s _ k.
        done b c test_form v l m (record { test = x.tree; end = e }) s tt k)))

    for_alike : (room : ℕ) → Reads b c (counted_form Statement) (for_of types loops inner d room)
    unfolding for_of
    for_alike room w l m ts us h =
        let made : Counted (Option SimpleStatement) → ForTest → Outcome (Counted Statement) = λ i t. Ok (record { value = For i.value t.test t.end.step t.end.body.annotations t.end.body.body; room = t.end.body.room; rest = t.end.body.rest }) in
        let f : Counted (Option SimpleStatement) → Outcome (Counted Statement) = λ i. semi i.rest >>= λ vs. for_test types loops inner d i.room vs >>= made i in
        let g : List Terminal → Outcome (Counted Statement) = λ us. first_by types d room (plain_at us) us >>= f in
        bind b c tokens (counted_form Statement) w l m (lparen ts) (lparen us) g g (lparen_alike b c w l m ts us h) (λ v xs ys _ q.
        bind b c (counted_form (Option SimpleStatement)) (counted_form Statement) v l m (first_by types d room (plain_at xs) xs) (first_by types d room (plain_at ys) ys) f f
        (by_plain b c (counted_form (Option SimpleStatement)) v l m l m xs ys (λ k. first_by types d room k xs) (λ k. first_by types d room k ys) q (first_alike types d room v l m xs ys q)) (λ u i p _ z.
        bind b c tokens (counted_form Statement) u l m (semi i.rest) (semi p) (λ vs. for_test types loops inner d i.room vs >>= made i) (λ vs. for_test types loops inner d i.room vs >>= made i) (semi_alike b c u l m i.rest p (wider b c u l m i.rest p z)) (λ v zs bs _ y.
        bind b c test_form (counted_form Statement) v l m (for_test types loops inner d i.room zs) (for_test types loops inner d i.room bs) (made i) (made i) (for_test_alike i.room v l m zs bs (wider b c v l m zs bs y)) (λ u t s _ k.
        done b c (counted_form Statement) u l m (record { value = For i.value t.test t.end.step t.end.body.annotations t.end.body.body; room = t.end.body.room; rest = t.end.body.rest }) s tt k))))

    plain_alike : (room : ℕ) (w : Bool) (l m : ℕ) (ts us : List Terminal) → Left b c w (suc l) (suc m) ts us
        → Alike b c (counted_form Statement) w l m (read_simple types (suc d) room ts >>= λ s. with_semi (Simple s.value) s.room s.rest) (read_simple types (suc d) room us >>= λ s. with_semi (Simple s.value) s.room s.rest)
    plain_alike room w l m ts us h =
        bind b c (counted_form SimpleStatement) (counted_form Statement) w l m (read_simple types (suc d) room ts) (read_simple types (suc d) room us) (λ s. with_semi (Simple s.value) s.room s.rest) (λ s. with_semi (Simple s.value) s.room s.rest)
        (simple_alike types (suc d) room w l m ts us h) (λ v s p _ q. with_semi_alike (Simple s.value) s.room v l m s.rest p q)

    said_alike : (make : Expression → Statement) (room : ℕ) (w : Bool) (l m : ℕ) (ts us : List Terminal) → Left b c w (suc l) (suc m) ts us
        → Alike b c (counted_form Statement) w l m (call_of types d (next ts) >>= λ e. Ok (record { value = make e.value; room = room; rest = e.rest })) (call_of types d (next us) >>= λ e. Ok (record { value = make e.value; room = room; rest = e.rest }))
    said_alike make room w l m ts us h =
        let g : Read Expression → Outcome (Counted Statement) = λ e. Ok (record { value = make e.value; room = room; rest = e.rest }) in
        on_next b c (counted_form Statement) w l m ts us (λ z. call_of types d z >>= g) (λ z. call_of types d z >>= g) h (λ v xs ys q.
        bind b c (read_form Expression) (counted_form Statement) v l m (call_of types d xs) (call_of types d ys) g g (call_alike types d v l m xs ys (wider b c v l m xs ys q)) (λ u e p _ z.
        done b c (counted_form Statement) u l m (record { value = make e.value; room = room; rest = e.rest }) p tt z))

    statement_alike_by : (room : ℕ) (w : Bool) (l m : ℕ) (ts us : List Terminal) → Left b c w (suc l) (suc m) ts us → (kind : Kind)
        → Alike b c (counted_form Statement) w l m (statement_by types loops inner d kind room ts) (statement_by types loops inner d kind room us)
    statement_alike_by room w l m ts us h k.LBrace =
        let g : Counted Statements → Outcome (Counted Statement) = λ ss. Ok (record { value = Block ss.value; room = ss.room; rest = ss.rest }) in
        bind b c (counted_form Statements) (counted_form Statement) w l m (read_statements types loops inner d (length ts) room (next ts)) (read_statements types loops inner d (length us) room (next us)) g g
        (looped_next b c (counted_form Statements) (λ n. read_statements types loops inner d n room) (statements_loop room) w l m ts us h) (λ v ss p _ q.
        done b c (counted_form Statement) v l m (record { value = Block ss.value; room = ss.room; rest = ss.rest }) p tt q)
    statement_alike_by room w l m ts us h k.Begin =
        let g : Read (List Spec) → Outcome (Counted Statement) = λ a. Ok (record { value = Annotation a.value; room = room; rest = a.rest }) in
        bind b c (read_form (List Spec)) (counted_form Statement) w l m (read_specs types d (length ts) (next ts)) (read_specs types d (length us) (next us)) g g (annotation_alike types d w l m ts us h) (λ v a p _ q.
        done b c (counted_form Statement) v l m (record { value = Annotation a.value; room = room; rest = a.rest }) p tt q)
    statement_alike_by room w l m ts us h k.Return =
        on_next b c (counted_form Statement) w l m ts us (λ z. return_by types d room (plain_at z) z) (λ z. return_by types d room (plain_at z) z) h (λ v xs ys q.
        by_plain b c (counted_form Statement) v l m l m xs ys (λ k. return_by types d room k xs) (λ k. return_by types d room k ys) q (return_alike types d room v l m xs ys q))
    statement_alike_by room w l m ts us h k.If =
        on_next b c (counted_form Statement) w l m ts us (if_of types loops inner d room) (if_of types loops inner d room) h (λ v xs ys q. if_alike room v l m xs ys (wider b c v l m xs ys q))
    statement_alike_by room w l m ts us h k.While =
        on_next b c (counted_form Statement) w l m ts us (while_of types loops inner d room) (while_of types loops inner d room) h (λ v xs ys q. while_alike room v l m xs ys (wider b c v l m xs ys q))
    statement_alike_by room w l m ts us h k.For =
        on_next b c (counted_form Statement) w l m ts us (for_of types loops inner d room) (for_of types loops inner d room) h (λ v xs ys q. for_alike room v l m xs ys (wider b c v l m xs ys q))
    statement_alike_by room w l m ts us h k.Assert = said_alike Assert room w l m ts us h
    statement_alike_by room w l m ts us h k.Error = said_alike Error room w l m ts us h
    statement_alike_by room w l m ts us h k.Break = leave_alike loops Break room w l m ts us h
    statement_alike_by room w l m ts us h k.Continue = leave_alike loops Continue room w l m ts us h
    statement_alike_by room w l m ts us h _ = plain_alike room w l m ts us h

  pub statement_alike : (types : List (List ℕ)) (loops : Bool) (d room : ℕ) → Reads b c (counted_form Statement) (read_statement types loops d room)
  unfolding read_statement
  statement_alike types loops zero room w l m ts us h = deep b c (counted_form Statement) w l m (suc l) (suc m) ts us h
  statement_alike types loops (suc d) room w l m ts us h =
      by_plain b c (counted_form Statement) w l m (suc l) (suc m) ts us (λ z. statement_by types loops (read_statement types loops d) d z room ts) (λ z. statement_by types loops (read_statement types loops d) d z room us) h
      (statement_alike_by types loops (read_statement types loops d) d (statement_alike types loops d) room w l m ts us h)

  -- the body of a function, behind its opening brace
  pub function_body_alike : (types : List (List ℕ)) (loops : Bool) (d room : ℕ) (w : Bool) (l m : ℕ) (ts us : List Terminal) → Left b c w l m ts us
      → Alike b c (counted_form Statements) w l m (read_body types loops d room ts) (read_body types loops d room us)
  function_body_alike types loops d room w l m ts us h =
      looped_more b c (counted_form Statements) (λ n. read_statements types loops (read_statement types loops d) d n room) (statements_loop types loops (read_statement types loops d) d (statement_alike types loops d) room) w l m ts us h
