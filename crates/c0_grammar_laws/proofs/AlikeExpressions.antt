-- Expressions read from tokens that are alike up to a place.
use Rattle.std.proofs.Common.{◌≡◌, ℕ, zero, suc, max, Bool, List, Option, Some, None, Ok, refl, sym, subst}
use Rattle.std.specs.Prelude.{nat_lt, if◌then◌else◌}
use Rattle.c0_source.specs.declared.kind.Kind.{Kind}
use Rattle.c0_source.specs.declared.kind.Kind.TheVariants as k
use Rattle.c0_source.specs.declared.kind.Operator.{Operator}
use Rattle.c0_syntax.specs.declared.operator.PrefixOperator.{PrefixOperator}
use Rattle.c0_source.specs.Terminals.{Terminal}
use Rattle.c0_syntax.specs.Trees.{Expression, Number, Character, Truth, Null, Text, Variable, Parenthesized, Call, Alloc, AllocArray, Result, Length, Index, Field, PointerField, Unary, Binary, Conditional, none, more}
use Rattle.c0_syntax.specs.Expressions.{operator_precedence, precedence}
use Rattle.c0_grammar_laws.specs.Outcome.{Outcome, ◌>>=◌, Read, refuse, too_deep, plain_at, bytes_at, next, lparen, rparen, rbracket, comma, colon, any_name}
use Rattle.c0_grammar_laws.specs.ReadExpressions.{ReadType, ReadExpression, ReadArguments, leaf, prefix_of, operator_of, add_first, after_argument, arguments, arguments_by, named_by, parenthesized, alloc, alloc_array, length_of, primary_by, primary, index, field, pointer_field, postfix_by, postfix, unary_by, unary, join_by, join, climb, whole, read_type, read_expression}
use Rattle.c0_grammar_laws.proofs.Alike.{Form, tokens, Left, Alike, bind, done, refused, deep, on_next, same_bytes, by_plain, by_kind, wider, loop, Loops, looped}
use Rattle.c0_grammar_laws.proofs.AlikeTypes.{simple, read_form, type_form, Reads, Goes, pick, lparen_alike, rparen_alike, rbracket_alike, comma_alike, colon_alike, any_name_alike, type_alike}

abbrev pub expression_form : Form ReadExpression
expression_form = simple (λ r. r.rest) (λ r p. record r { rest = p })

abbrev pub arguments_form : Form ReadArguments
arguments_form = simple (λ r. r.rest) (λ r p. record r { rest = p })

module _ (b c : List Terminal) where
  -- ---- over what is read within

  module _ (types : List (List ℕ)) (inner : ℕ → List Terminal → Outcome ReadExpression) (inner_type : List Terminal → Outcome ReadType)
      (ih : (least : ℕ) → Reads b c expression_form (inner least)) (ih_type : Reads b c type_form inner_type) where
    leaf_alike : (w : Bool) (l m : ℕ) (t : Expression) (ts us : List Terminal) → Left b c w l m ts us → Alike b c expression_form w l m (leaf t ts) (leaf t us)
    leaf_alike w l m t ts us h = done b c expression_form w l m (record { tree = t; height = 1; rest = ts }) us tt h

    next_leaf : (w : Bool) (l m : ℕ) (t : Expression) (ts us : List Terminal) → Left b c w (suc l) (suc m) ts us → Alike b c expression_form w l m (leaf t (next ts)) (leaf t (next us))
    next_leaf w l m t ts us h = on_next b c expression_form w l m ts us (leaf t) (leaf t) h (λ v xs ys q. leaf_alike v l m t xs ys q)

    after_alike : (go other : List Terminal → Outcome ReadArguments) (w : Bool) (l m : ℕ)
        → ((v : Bool) (xs ys : List Terminal) → Left b c v l m xs ys → Alike b c arguments_form v l m (go xs) (other ys))
        → (x : ReadExpression) (p : List Terminal) → Left b c w l m x.rest p → (kind : Kind)
        → Alike b c arguments_form w l m (after_argument types inner inner_type go kind x) (after_argument types inner inner_type other kind (record x { rest = p }))
    after_alike go other w l m goes x p h k.Comma =
        on_next b c arguments_form w l m x.rest p (λ z. go z >>= λ xs. Ok (add_first x xs)) (λ z. other z >>= λ xs. Ok (add_first (record x { rest = p }) xs)) (wider b c w l m x.rest p h) (λ v xs ys q.
        bind b c arguments_form arguments_form v l m (go xs) (other ys) (λ r. Ok (add_first x r)) (λ r. Ok (add_first (record x { rest = p }) r)) (goes v xs ys q) (λ u r s _ z.
        done b c arguments_form u l m (add_first x r) s tt z))
    after_alike go other w l m goes x p h k.RParen =
        let f : List Terminal → Outcome ReadArguments = λ z. Ok (record { trees = more x.tree none; height = x.height; rest = z }) in
        on_next b c arguments_form w l m x.rest p f f (wider b c w l m x.rest p h) (λ v xs ys q.
        done b c arguments_form v l m (record { trees = more x.tree none; height = x.height; rest = xs }) ys tt q)
    after_alike go other w l m goes x p h _ = refused b c arguments_form w l m l m x.rest p h

    turn : (n k : ℕ) (w : Bool) (l m : ℕ) → ((x : Unit {0}) (v : Bool) (xs ys : List Terminal) → Left b c v l m xs ys → Alike b c arguments_form v l m (arguments types inner inner_type n xs) (arguments types inner inner_type k ys))
        → (x : Unit {0}) (ts us : List Terminal) → Left b c w (suc l) (suc m) ts us → Alike b c arguments_form w l m (arguments types inner inner_type (suc n) ts) (arguments types inner inner_type (suc k) us)
    unfolding arguments
    turn n k w l m goes x ts us h =
        let go : List Terminal → Outcome ReadArguments = arguments types inner inner_type n in
        let other : List Terminal → Outcome ReadArguments = arguments types inner inner_type k in
        bind b c expression_form arguments_form w l m (inner 1 ts) (inner 1 us) (λ x. after_argument types inner inner_type go (plain_at x.rest) x) (λ x. after_argument types inner inner_type other (plain_at x.rest) x)
        (ih 1 w l m ts us h) (λ v x p _ q.
        by_plain b c arguments_form v l m l m x.rest p (λ z. after_argument types inner inner_type go z x) (λ z. after_argument types inner inner_type other z (record x { rest = p })) q
        (after_alike go other v l m (λ u xs ys z. goes tt u xs ys z) x p q))

    no_turn : (x : Unit {0}) (ts : List Terminal) → arguments types inner inner_type 0 ts ≡ refuse ts
    unfolding arguments
    no_turn x ts = refl

    arguments_loop : Loops b c arguments_form (arguments types inner inner_type)
    arguments_loop n k w l m ts us e f h = loop b c arguments_form (λ n x. arguments types inner inner_type n) no_turn turn n k w l m tt ts us e f h

    first_alike : (w : Bool) (l m : ℕ) (ts us : List Terminal) → Left b c w l m ts us → (kind : Kind)
        → Alike b c arguments_form w l m (arguments_by types inner inner_type kind ts) (arguments_by types inner inner_type kind us)
    first_alike w l m ts us h k.RParen =
        let f : List Terminal → Outcome ReadArguments = λ z. Ok (record { trees = none; height = 0; rest = z }) in
        on_next b c arguments_form w l m ts us f f (wider b c w l m ts us h) (λ v xs ys q. done b c arguments_form v l m (record { trees = none; height = 0; rest = xs }) ys tt q)
    first_alike w l m ts us h _ = looped b c arguments_form (arguments types inner inner_type) arguments_loop w l m ts us h

    named_alike : (w : Bool) (l m : ℕ) (x : List ℕ) (ts us : List Terminal) → Left b c w l m ts us → (kind : Kind)
        → Alike b c expression_form w l m (named_by types inner inner_type kind x ts) (named_by types inner inner_type kind x us)
    named_alike w l m x ts us h k.LParen =
        let g : ReadArguments → Outcome ReadExpression = λ es. Ok (record { tree = Call x es.trees; height = suc es.height; rest = es.rest }) in
        let f : List Terminal → Outcome ReadExpression = λ z. arguments_by types inner inner_type (plain_at z) z >>= g in
        on_next b c expression_form w l m ts us f f (wider b c w l m ts us h) (λ v xs ys q.
        bind b c arguments_form expression_form v l m (arguments_by types inner inner_type (plain_at xs) xs) (arguments_by types inner inner_type (plain_at ys) ys) g g
        (by_plain b c arguments_form v l m l m xs ys (λ z. arguments_by types inner inner_type z xs) (λ z. arguments_by types inner inner_type z ys) q (first_alike v l m xs ys q)) (λ u r p _ z.
        done b c expression_form u l m (record { tree = Call x r.trees; height = suc r.height; rest = r.rest }) p tt z))
    named_alike w l m x ts us h _ = leaf_alike w l m (Variable x) ts us h

    closed : (w : Bool) (l m : ℕ) (e : ReadExpression → List Terminal → ReadExpression) (r : ReadExpression) (p : List Terminal)
        → ((xs ys : List Terminal) → record (e r xs) { rest = ys } ≡ e (record r { rest = p }) ys) → ((xs : List Terminal) → (e r xs).rest ≡ xs) → Left b c w l m r.rest p
        → Alike b c expression_form w l m (rparen r.rest >>= λ rest. Ok (e r rest)) (rparen p >>= λ rest. Ok (e (record r { rest = p }) rest))
    closed w l m e r p same own h =
        bind b c tokens expression_form w l m (rparen r.rest) (rparen p) (λ rest. Ok (e r rest)) (λ rest. Ok (e (record r { rest = p }) rest))
        (rparen_alike b c w l m r.rest p (wider b c w l m r.rest p h)) (λ u xs ys _ z.
        subst (λ (q : ReadExpression). Alike b c expression_form u l m (Ok (e r xs)) (Ok q)) (same xs ys)
        (done b c expression_form u l m (e r xs) ys tt (subst (λ (q : List Terminal). Left b c u l m q ys) (sym (own xs)) z)))

    parenthesized_alike : Reads b c expression_form (parenthesized types inner inner_type)
    unfolding parenthesized
    parenthesized_alike w l m ts us h =
        bind b c expression_form expression_form w l m (inner 1 ts) (inner 1 us) (λ e. rparen e.rest >>= λ rest. Ok (record { tree = Parenthesized e.tree; height = suc e.height; rest = rest }))
        (λ e. rparen e.rest >>= λ rest. Ok (record { tree = Parenthesized e.tree; height = suc e.height; rest = rest })) (ih 1 w l m ts us h) (λ v r p _ q.
        closed v l m (λ e rest. record { tree = Parenthesized e.tree; height = suc e.height; rest = rest }) r p (λ xs ys. refl) (λ xs. refl) q)

    length_alike : Reads b c expression_form (length_of types inner inner_type)
    unfolding length_of
    length_alike w l m ts us h =
        let g : ReadExpression → Outcome ReadExpression = λ e. rparen e.rest >>= λ rest. Ok (record { tree = Length e.tree; height = suc e.height; rest = rest }) in
        bind b c tokens expression_form w l m (lparen ts) (lparen us) (λ z. inner 1 z >>= g) (λ z. inner 1 z >>= g) (lparen_alike b c w l m ts us h) (λ v xs ys _ q.
        bind b c expression_form expression_form v l m (inner 1 xs) (inner 1 ys) g g (ih 1 v l m xs ys (wider b c v l m xs ys q)) (λ u r p _ z.
        closed u l m (λ e rest. record { tree = Length e.tree; height = suc e.height; rest = rest }) r p (λ xs ys. refl) (λ xs. refl) z))

    alloc_alike : Reads b c expression_form (alloc types inner inner_type)
    unfolding alloc
    alloc_alike w l m ts us h =
        let g : ReadType → Outcome ReadExpression = λ t. rparen t.rest >>= λ rest. Ok (record { tree = Alloc t.value_type; height = suc t.height; rest = rest }) in
        bind b c tokens expression_form w l m (lparen ts) (lparen us) (λ z. inner_type z >>= g) (λ z. inner_type z >>= g) (lparen_alike b c w l m ts us h) (λ v xs ys _ q.
        bind b c type_form expression_form v l m (inner_type xs) (inner_type ys) g g (ih_type v l m xs ys (wider b c v l m xs ys q)) (λ u t p _ z.
        bind b c tokens expression_form u l m (rparen t.rest) (rparen p) (λ rest. Ok (record { tree = Alloc t.value_type; height = suc t.height; rest = rest })) (λ rest. Ok (record { tree = Alloc t.value_type; height = suc t.height; rest = rest }))
        (rparen_alike b c u l m t.rest p (wider b c u l m t.rest p z)) (λ v zs bs _ y.
        done b c expression_form v l m (record { tree = Alloc t.value_type; height = suc t.height; rest = zs }) bs tt y)))

    alloc_array_alike : Reads b c expression_form (alloc_array types inner inner_type)
    unfolding alloc_array
    alloc_array_alike w l m ts us h =
        let made : ReadType → ReadExpression → List Terminal → Outcome ReadExpression = λ t e rest. Ok (record { tree = AllocArray t.value_type e.tree; height = suc (max t.height e.height); rest = rest }) in
        let ended : ReadType → ReadExpression → Outcome ReadExpression = λ t e. rparen e.rest >>= made t e in
        let g : ReadType → Outcome ReadExpression = λ t. comma t.rest >>= λ vs. inner 1 vs >>= ended t in
        bind b c tokens expression_form w l m (lparen ts) (lparen us) (λ z. inner_type z >>= g) (λ z. inner_type z >>= g) (lparen_alike b c w l m ts us h) (λ v xs ys _ q.
        bind b c type_form expression_form v l m (inner_type xs) (inner_type ys) g g (ih_type v l m xs ys (wider b c v l m xs ys q)) (λ u t p _ z.
        bind b c tokens expression_form u l m (comma t.rest) (comma p) (λ vs. inner 1 vs >>= ended t) (λ vs. inner 1 vs >>= ended t) (comma_alike b c u l m t.rest p (wider b c u l m t.rest p z)) (λ v zs bs _ y.
        bind b c expression_form expression_form v l m (inner 1 zs) (inner 1 bs) (ended t) (ended t) (ih 1 v l m zs bs (wider b c v l m zs bs y)) (λ u r s _ x.
        closed u l m (λ e rest. record { tree = AllocArray t.value_type e.tree; height = suc (max t.height e.height); rest = rest }) r s (λ xs ys. refl) (λ xs. refl) x))))

    primary_alike_by : (w : Bool) (l m : ℕ) (ts us : List Terminal) → Left b c w (suc l) (suc m) ts us → (kind : Kind)
        → Alike b c expression_form w l m (primary_by types inner inner_type kind ts) (primary_by types inner inner_type kind us)
    primary_alike_by w l m ts us h (k.Number n) = next_leaf w l m (Number n) ts us h
    primary_alike_by w l m ts us h (k.Character x) = next_leaf w l m (Character x) ts us h
    primary_alike_by w l m ts us h (k.Truth x) = next_leaf w l m (Truth x) ts us h
    primary_alike_by w l m ts us h k.Null = next_leaf w l m Null ts us h
    primary_alike_by w l m ts us h k.Text =
        subst (λ (z : List ℕ). Alike b c expression_form w l m (leaf (Text (bytes_at ts)) (next ts)) (leaf (Text z) (next us))) (same_bytes b c w (suc l) (suc m) ts us h) (next_leaf w l m (Text (bytes_at ts)) ts us h)
    primary_alike_by w l m ts us h k.Name =
        let f : List Terminal → Outcome ReadExpression = λ z. named_by types inner inner_type (plain_at z) (bytes_at ts) z in
        subst (λ (z : List ℕ). Alike b c expression_form w l m (named_by types inner inner_type (plain_at (next ts)) (bytes_at ts) (next ts)) (named_by types inner inner_type (plain_at (next us)) z (next us))) (same_bytes b c w (suc l) (suc m) ts us h) (
        on_next b c expression_form w l m ts us f f h (λ v xs ys q.
        by_plain b c expression_form v l m l m xs ys (λ z. named_by types inner inner_type z (bytes_at ts) xs) (λ z. named_by types inner inner_type z (bytes_at ts) ys) q (named_alike v l m (bytes_at ts) xs ys q)))
    primary_alike_by w l m ts us h k.LParen =
        on_next b c expression_form w l m ts us (parenthesized types inner inner_type) (parenthesized types inner inner_type) h (λ v xs ys q. parenthesized_alike v l m xs ys (wider b c v l m xs ys q))
    primary_alike_by w l m ts us h k.Alloc =
        on_next b c expression_form w l m ts us (alloc types inner inner_type) (alloc types inner inner_type) h (λ v xs ys q. alloc_alike v l m xs ys (wider b c v l m xs ys q))
    primary_alike_by w l m ts us h k.AllocArray =
        on_next b c expression_form w l m ts us (alloc_array types inner inner_type) (alloc_array types inner inner_type) h (λ v xs ys q. alloc_array_alike v l m xs ys (wider b c v l m xs ys q))
    primary_alike_by w l m ts us h k.Result = next_leaf w l m Result ts us h
    primary_alike_by w l m ts us h k.Length =
        on_next b c expression_form w l m ts us (length_of types inner inner_type) (length_of types inner inner_type) h (λ v xs ys q. length_alike v l m xs ys (wider b c v l m xs ys q))
    primary_alike_by w l m ts us h _ = refused b c expression_form w l m (suc l) (suc m) ts us h

    primary_alike : Reads b c expression_form (primary types inner inner_type)
    unfolding primary
    primary_alike w l m ts us h =
        by_kind b c expression_form types w l m (suc l) (suc m) ts us (λ z. primary_by types inner inner_type z ts) (λ z. primary_by types inner inner_type z us) h (primary_alike_by w l m ts us h)

    -- ---- behind an expression

    index_alike : Goes b c expression_form (index types inner inner_type)
    index_alike w l m a p _ h =
        let g : ReadExpression → List Terminal → Outcome ReadExpression = λ i rest. Ok (record { tree = Index a.tree i.tree; height = suc (max a.height i.height); rest = rest }) in
        let f : List Terminal → Outcome ReadExpression = λ z. inner 1 z >>= λ i. rbracket i.rest >>= g i in
        on_next b c expression_form w l m a.rest p f f (wider b c w l m a.rest p h) (λ v xs ys q.
        bind b c expression_form expression_form v l m (inner 1 xs) (inner 1 ys) (λ i. rbracket i.rest >>= g i) (λ i. rbracket i.rest >>= g i) (ih 1 v l m xs ys (wider b c v l m xs ys q)) (λ u i s _ z.
        bind b c tokens expression_form u l m (rbracket i.rest) (rbracket s) (g i) (g (record i { rest = s })) (rbracket_alike b c u l m i.rest s (wider b c u l m i.rest s z)) (λ v zs bs _ y.
        done b c expression_form v l m (record { tree = Index a.tree i.tree; height = suc (max a.height i.height); rest = zs }) bs tt y)))

    field_alike : Goes b c expression_form (field types inner inner_type)
    field_alike w l m a p _ h =
        let g : Read (List ℕ) → Outcome ReadExpression = λ x. Ok (record { tree = Field a.tree x.value; height = suc a.height; rest = x.rest }) in
        on_next b c expression_form w l m a.rest p (λ z. any_name z >>= g) (λ z. any_name z >>= g) (wider b c w l m a.rest p h) (λ v xs ys q.
        bind b c (read_form (List ℕ)) expression_form v l m (any_name xs) (any_name ys) g g (any_name_alike b c v l m xs ys (wider b c v l m xs ys q)) (λ u x s _ z.
        done b c expression_form u l m (record { tree = Field a.tree x.value; height = suc a.height; rest = x.rest }) s tt z))

    pointer_field_alike : Goes b c expression_form (pointer_field types inner inner_type)
    pointer_field_alike w l m a p _ h =
        let g : Read (List ℕ) → Outcome ReadExpression = λ x. Ok (record { tree = PointerField a.tree x.value; height = suc a.height; rest = x.rest }) in
        on_next b c expression_form w l m a.rest p (λ z. any_name z >>= g) (λ z. any_name z >>= g) (wider b c w l m a.rest p h) (λ v xs ys q.
        bind b c (read_form (List ℕ)) expression_form v l m (any_name xs) (any_name ys) g g (any_name_alike b c v l m xs ys (wider b c v l m xs ys q)) (λ u x s _ z.
        done b c expression_form u l m (record { tree = PointerField a.tree x.value; height = suc a.height; rest = x.rest }) s tt z))

    postfix_alike_by : (limit : ℕ) (go : ReadExpression → Outcome ReadExpression) → Goes b c expression_form go → (w : Bool) (l m : ℕ) (a : ReadExpression) (p : List Terminal) → Left b c w l m a.rest p → (kind : Kind)
        → Alike b c expression_form w l m (postfix_by types inner inner_type limit go kind a) (postfix_by types inner inner_type limit go kind (record a { rest = p }))
    postfix_alike_by limit go goes w l m a p h k.LBracket =
        pick b c expression_form w l m (nat_lt a.height limit) (index types inner inner_type a >>= go) (too_deep a.rest) (index types inner inner_type (record a { rest = p }) >>= go) (too_deep p)
        (bind b c expression_form expression_form w l m (index types inner inner_type a) (index types inner inner_type (record a { rest = p })) go go (index_alike w l m a p tt h) (λ v r s f z. goes v l m r s f z))
        (deep b c expression_form w l m l m a.rest p h)
    postfix_alike_by limit go goes w l m a p h k.Dot =
        pick b c expression_form w l m (nat_lt a.height limit) (field types inner inner_type a >>= go) (too_deep a.rest) (field types inner inner_type (record a { rest = p }) >>= go) (too_deep p)
        (bind b c expression_form expression_form w l m (field types inner inner_type a) (field types inner inner_type (record a { rest = p })) go go (field_alike w l m a p tt h) (λ v r s f z. goes v l m r s f z))
        (deep b c expression_form w l m l m a.rest p h)
    postfix_alike_by limit go goes w l m a p h k.Arrow =
        pick b c expression_form w l m (nat_lt a.height limit) (pointer_field types inner inner_type a >>= go) (too_deep a.rest) (pointer_field types inner inner_type (record a { rest = p }) >>= go) (too_deep p)
        (bind b c expression_form expression_form w l m (pointer_field types inner inner_type a) (pointer_field types inner inner_type (record a { rest = p })) go go (pointer_field_alike w l m a p tt h) (λ v r s f z. goes v l m r s f z))
        (deep b c expression_form w l m l m a.rest p h)
    postfix_alike_by limit go goes w l m a p h _ = done b c expression_form w l m a p tt h

    postfix_alike : (limit n : ℕ) → Goes b c expression_form (postfix types inner inner_type limit n)
    unfolding postfix
    postfix_alike limit zero w l m a p _ h = deep b c expression_form w l m l m a.rest p h
    postfix_alike limit (suc n) w l m a p _ h =
        by_plain b c expression_form w l m l m a.rest p (λ z. postfix_by types inner inner_type limit (postfix types inner inner_type limit n) z a)
        (λ z. postfix_by types inner inner_type limit (postfix types inner inner_type limit n) z (record a { rest = p })) h (postfix_alike_by limit (postfix types inner inner_type limit n) (postfix_alike limit n) w l m a p h)

    unary_alike_by : (limit : ℕ) (w : Bool) (l m : ℕ) (ts us : List Terminal) → Left b c w (suc l) (suc m) ts us → (o : Option PrefixOperator)
        → Alike b c expression_form w l m (unary_by types inner inner_type limit o ts) (unary_by types inner inner_type limit o us)
    unary_alike_by limit w l m ts us h (Some x) =
        let g : ReadExpression → Outcome ReadExpression = λ r. Ok (record { tree = Unary x r.tree; height = suc r.height; rest = r.rest }) in
        on_next b c expression_form w l m ts us (λ z. inner 12 z >>= g) (λ z. inner 12 z >>= g) h (λ v xs ys q.
        bind b c expression_form expression_form v l m (inner 12 xs) (inner 12 ys) g g (ih 12 v l m xs ys (wider b c v l m xs ys q)) (λ u r p _ z.
        done b c expression_form u l m (record { tree = Unary x r.tree; height = suc r.height; rest = r.rest }) p tt z))
    unary_alike_by limit w l m ts us h None =
        bind b c expression_form expression_form w l m (primary types inner inner_type ts) (primary types inner inner_type us) (postfix types inner inner_type limit limit) (postfix types inner inner_type limit limit)
        (primary_alike w l m ts us h) (λ v r p f z. postfix_alike limit limit v l m r p f z)

    unary_alike : (limit : ℕ) → Reads b c expression_form (unary types inner inner_type limit)
    unfolding unary
    unary_alike limit w l m ts us h =
        by_plain b c expression_form w l m (suc l) (suc m) ts us (λ z. unary_by types inner inner_type limit (prefix_of z) ts) (λ z. unary_by types inner inner_type limit (prefix_of z) us) h (λ z. unary_alike_by limit w l m ts us h (prefix_of z))

    join_alike_by : (w : Bool) (l m : ℕ) (a : ReadExpression) (p : List Terminal) → Left b c w l m a.rest p → (o : Option Operator)
        → Alike b c expression_form w l m (join_by types inner inner_type o a) (join_by types inner inner_type o (record a { rest = p }))
    join_alike_by w l m a p h (Some x) =
        let g : ReadExpression → Outcome ReadExpression = λ r. Ok (record { tree = Binary x a.tree r.tree; height = suc (max a.height r.height); rest = r.rest }) in
        let n = suc (operator_precedence x) in
        on_next b c expression_form w l m a.rest p (λ z. inner n z >>= g) (λ z. inner n z >>= g) (wider b c w l m a.rest p h) (λ v xs ys q.
        bind b c expression_form expression_form v l m (inner n xs) (inner n ys) g g (ih n v l m xs ys (wider b c v l m xs ys q)) (λ u r s _ z.
        done b c expression_form u l m (record { tree = Binary x a.tree r.tree; height = suc (max a.height r.height); rest = r.rest }) s tt z))
    join_alike_by w l m a p h None =
        let g : ReadExpression → ReadExpression → Outcome ReadExpression = λ x y. Ok (record { tree = Conditional a.tree x.tree y.tree; height = suc (max a.height (max x.height y.height)); rest = y.rest }) in
        let f : List Terminal → Outcome ReadExpression = λ z. inner 1 z >>= λ x. colon x.rest >>= λ vs. inner 1 vs >>= g x in
        on_next b c expression_form w l m a.rest p f f (wider b c w l m a.rest p h) (λ v xs ys q.
        bind b c expression_form expression_form v l m (inner 1 xs) (inner 1 ys) (λ x. colon x.rest >>= λ vs. inner 1 vs >>= g x) (λ x. colon x.rest >>= λ vs. inner 1 vs >>= g x) (ih 1 v l m xs ys (wider b c v l m xs ys q)) (λ u x s _ z.
        bind b c tokens expression_form u l m (colon x.rest) (colon s) (λ vs. inner 1 vs >>= g x) (λ vs. inner 1 vs >>= g (record x { rest = s })) (colon_alike b c u l m x.rest s (wider b c u l m x.rest s z)) (λ v zs bs _ y.
        bind b c expression_form expression_form v l m (inner 1 zs) (inner 1 bs) (g x) (g (record x { rest = s })) (ih 1 v l m zs bs (wider b c v l m zs bs y)) (λ u r e _ k.
        done b c expression_form u l m (record { tree = Conditional a.tree x.tree r.tree; height = suc (max a.height (max x.height r.height)); rest = r.rest }) e tt k))))

    join_alike : Goes b c expression_form (join types inner inner_type)
    unfolding join
    join_alike w l m a p _ h =
        by_plain b c expression_form w l m l m a.rest p (λ z. join_by types inner inner_type (operator_of z) a) (λ z. join_by types inner inner_type (operator_of z) (record a { rest = p })) h (λ z. join_alike_by w l m a p h (operator_of z))

    climb_alike : (limit least n : ℕ) → Goes b c expression_form (climb types inner inner_type limit least n)
    unfolding climb
    climb_alike limit least zero w l m a p _ h = deep b c expression_form w l m l m a.rest p h
    climb_alike limit least (suc n) w l m a p _ h =
        let go : ReadExpression → Outcome ReadExpression = climb types inner inner_type limit least n in
        let on : ReadExpression → Outcome ReadExpression = λ a. if nat_lt a.height limit then join types inner inner_type a >>= go else too_deep a.rest in
        let q = record a { rest = p } in
        by_plain b c expression_form w l m l m a.rest p (λ z. if nat_lt (precedence z) least then Ok a else on a) (λ z. if nat_lt (precedence z) least then Ok q else on q) h (λ z.
        pick b c expression_form w l m (nat_lt (precedence z) least) (Ok a) (on a) (Ok q) (on q) (done b c expression_form w l m a p tt h) (
        pick b c expression_form w l m (nat_lt a.height limit) (join types inner inner_type a >>= go) (too_deep a.rest) (join types inner inner_type q >>= go) (too_deep p)
        (bind b c expression_form expression_form w l m (join types inner inner_type a) (join types inner inner_type q) go go (join_alike w l m a p tt h) (λ v r s f k. climb_alike limit least n v l m r s f k))
        (deep b c expression_form w l m l m a.rest p h)))

    whole_alike : (limit least : ℕ) → Reads b c expression_form (whole types inner inner_type limit least)
    unfolding whole
    whole_alike limit least w l m ts us h =
        bind b c expression_form expression_form w l m (unary types inner inner_type limit ts) (unary types inner inner_type limit us) (climb types inner inner_type limit least limit) (climb types inner inner_type limit least limit)
        (unary_alike limit w l m ts us h) (λ v r p f k. climb_alike limit least limit v l m r p f k)

  pub expression_alike : (types : List (List ℕ)) (d least : ℕ) → Reads b c expression_form (read_expression types d least)
  unfolding read_expression
  expression_alike types zero least w l m ts us h = deep b c expression_form w l m (suc l) (suc m) ts us h
  expression_alike types (suc d) least w l m ts us h =
      whole_alike types (read_expression types d) (read_type types d) (expression_alike types d) (type_alike b c types d) (suc d) least w l m ts us h
