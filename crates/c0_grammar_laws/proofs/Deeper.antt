-- Reading types and expressions of more levels gives the same, unless a tree was too deep.
use Rattle.std.proofs.Common.{◌≡◌, ℕ, zero, suc, ◌≤◌, max, ltb, Bool, true, false, List, length, Option, Some, None, Ok, Err, refl, sym, ap, subst, arith}
use Rattle.std.specs.Prelude.{if◌then◌else◌}
use Rattle.std.proofs.lemmas.Bool.{ltb-true, lt-ltb}
use Rattle.c0_source.specs.declared.kind.Kind.{Kind}
use Rattle.c0_source.specs.declared.kind.Kind.TheVariants as k
use Rattle.c0_source.specs.declared.kind.Operator.{Operator}
use Rattle.c0_source.specs.declared.kind.Operator.TheVariants as o
use Rattle.c0_syntax.specs.declared.operator.PrefixOperator.{PrefixOperator}
use Rattle.c0_source.specs.Terminals.{Terminal}
use Rattle.c0_syntax.specs.Trees.{Parenthesized, Call, Alloc, AllocArray, Length, Index, Unary, Binary, Conditional}
use Rattle.c0_syntax.specs.Expressions.{operator_precedence, precedence}
use Rattle.c0_grammar_laws.specs.declared.read_error.ReadError.TheVariants.{OutOfMemory, Syntax, TooDeep, TooLarge}
use Rattle.c0_grammar_laws.specs.Outcome.{Outcome, ◌>>=◌, too_deep, kind_at, plain_at, bytes_at, next, lparen, rparen, rbracket, comma, colon}
use Rattle.c0_grammar_laws.specs.ReadExpressions.{ReadType, base_by, pointer_to, array_of, suffix_by, suffixes, read_type, ReadExpression, ReadArguments, add_first, prefix_of, operator_of, after_argument, arguments, arguments_by, named_by, parenthesized, alloc, alloc_array, length_of, primary_by, primary, index, field, pointer_field, postfix_by, postfix, unary_by, unary, join_by, join, climb, whole, read_expression}
use Rattle.c0_grammar_laws.proofs.Turns.{Names, Inner, InnerType}

-- the second reading gives what the first does, unless that met a tree that is too deep
abbrev pub Deeper : {A : Type 0} → Outcome A → Outcome A → Type 0
Deeper (Ok r) q = q ≡ Ok r
Deeper (Err OutOfMemory) q = q ≡ Err OutOfMemory
Deeper (Err (Syntax n)) q = q ≡ Err (Syntax n)
Deeper (Err (TooDeep n)) q = Unit {0}
Deeper (Err (TooLarge n)) q = q ≡ Err (TooLarge n)

pub same : {A : Type 0} (o : Outcome A) → Deeper o o
same (Ok r) = refl
same (Err OutOfMemory) = refl
same (Err (Syntax n)) = refl
same (Err (TooDeep n)) = tt
same (Err (TooLarge n)) = refl

-- reading on with what both readings gave
pub both : {A B : Type 0} (o q : Outcome A) (f g : A → Outcome B) → Deeper o q → ((r : A) → Deeper (f r) (g r)) → Deeper (o >>= f) (q >>= g)
both (Ok r) q f g a go = subst (λ (z : Outcome _). Deeper (f r) (z >>= g)) (sym a) (go r)
both (Err OutOfMemory) q f g a go = ap (λ (z : Outcome _). z >>= g) a
both (Err (Syntax n)) q f g a go = ap (λ (z : Outcome _). z >>= g) a
both (Err (TooDeep n)) q f g a go = tt
both (Err (TooLarge n)) q f g a go = ap (λ (z : Outcome _). z >>= g) a

-- ... with what one reading gave
pub one : {A B : Type 0} (o : Outcome A) (f g : A → Outcome B) → ((r : A) → Deeper (f r) (g r)) → Deeper (o >>= f) (o >>= g)
one o f g go = both o o f g (same o) go

-- where there is a level more for a node, or one of these has too many
pick : {A : Type 0} (b c : Bool) (o q : Outcome A) (ts us : List Terminal) → (b ≡ true → c ≡ true) → Deeper o q → Deeper (if b then o else too_deep ts) (if c then q else too_deep us)
pick true true o q ts us h a = a
pick true false o q ts us h a = absurd (let bad = h refl in cc)
pick false c o q ts us h a = tt

choose : {A : Type 0} (b : Bool) (o q u v : Outcome A) → Deeper o u → Deeper q v → Deeper (if b then o else q) (if b then u else v)
choose true o q u v a d = a
choose false o q u v a d = d

lower : (h l m : ℕ) → l ≤ m → ltb h l ≡ true → ltb h m ≡ true
lower h l m le e = lt-ltb _ _ (omega (arith, ltb-true h l e))

-- ---- types

suffix_deeper : (l m : ℕ) → l ≤ m → (go other : ReadType → Outcome ReadType) → ((t : ReadType) → Deeper (go t) (other t)) → (kind : Kind) (t : ReadType) → Deeper (suffix_by l go kind t) (suffix_by m other kind t)
suffix_deeper l m le go other goes (k.Infix o.Multiply) t = pick (ltb t.height l) (ltb t.height m) (go (pointer_to t)) (other (pointer_to t)) t.rest t.rest (lower t.height l m le) (goes (pointer_to t))
suffix_deeper l m le go other goes k.LBracket t =
    let f : List Terminal → Outcome ReadType = λ rest. go (array_of t rest) in
    let g : List Terminal → Outcome ReadType = λ rest. other (array_of t rest) in
    pick (ltb t.height l) (ltb t.height m) (rbracket (next t.rest) >>= f) (rbracket (next t.rest) >>= g) t.rest t.rest (lower t.height l m le) (one (rbracket (next t.rest)) f g (λ rest. goes (array_of t rest)))
suffix_deeper l m le go other goes _ t = refl

suffixes_deeper : (l m n j : ℕ) → l ≤ m → n ≤ j → (t : ReadType) → Deeper (suffixes l n t) (suffixes m j t)
unfolding suffixes
suffixes_deeper l m zero j le fuel t = tt
suffixes_deeper l m (suc n) zero le fuel t = absurd (omega arith)
suffixes_deeper l m (suc n) (suc j) le fuel t = suffix_deeper l m le (suffixes l n) (suffixes m j) (λ t. suffixes_deeper l m n j le (omega arith) t) (plain_at t.rest) t

pub type_deeper : (types : Names) (d e : ℕ) → d ≤ e → (ts : List Terminal) → Deeper (read_type types d ts) (read_type types e ts)
unfolding read_type
type_deeper types zero e le ts = tt
type_deeper types (suc d) zero le ts = absurd (omega arith)
type_deeper types (suc d) (suc e) le ts = one (base_by (kind_at types ts) ts) (suffixes (suc d) (suc d)) (suffixes (suc e) (suc e)) (λ t. suffixes_deeper (suc d) (suc e) (suc d) (suc e) le le t)

-- ---- expressions

module _ (types : Names) (inner other : Inner) (ih : (least : ℕ) (ts : List Terminal) → Deeper (inner least ts) (other least ts)) (inner_type other_type : InnerType) (ih_type : (ts : List Terminal) → Deeper (inner_type ts) (other_type ts)) where
  after_deeper : (go others : List Terminal → Outcome ReadArguments) → ((ts : List Terminal) → Deeper (go ts) (others ts)) → (kind : Kind) (x : ReadExpression) → Deeper (after_argument types inner inner_type go kind x) (after_argument types other other_type others kind x)
  after_deeper go others goes k.Comma x =
      let f : ReadArguments → Outcome ReadArguments = λ xs. Ok (add_first x xs) in
      both (go (next x.rest)) (others (next x.rest)) f f (goes (next x.rest)) (λ xs. refl)
  after_deeper go others goes k.RParen x = refl
  after_deeper go others goes _ x = refl

  arguments_deeper : (n : ℕ) (ts : List Terminal) → Deeper (arguments types inner inner_type n ts) (arguments types other other_type n ts)
  unfolding arguments
  arguments_deeper zero ts = refl
  arguments_deeper (suc n) ts =
      both (inner 1 ts) (other 1 ts) (λ x. after_argument types inner inner_type (arguments types inner inner_type n) (plain_at x.rest) x) (λ x. after_argument types other other_type (arguments types other other_type n) (plain_at x.rest) x) (ih 1 ts)
      (λ x. after_deeper (arguments types inner inner_type n) (arguments types other other_type n) (arguments_deeper n) (plain_at x.rest) x)

  arguments_by_deeper : (kind : Kind) (ts : List Terminal) → Deeper (arguments_by types inner inner_type kind ts) (arguments_by types other other_type kind ts)
  arguments_by_deeper k.RParen ts = refl
  arguments_by_deeper _ ts = arguments_deeper (length ts) ts

  named_deeper : (kind : Kind) (x : List ℕ) (ts : List Terminal) → Deeper (named_by types inner inner_type kind x ts) (named_by types other other_type kind x ts)
  named_deeper k.LParen x ts =
      let f : ReadArguments → Outcome ReadExpression = λ es. Ok (record { tree = Call x es.trees; height = suc es.height; rest = es.rest }) in
      both (arguments_by types inner inner_type (plain_at (next ts)) (next ts)) (arguments_by types other other_type (plain_at (next ts)) (next ts)) f f (arguments_by_deeper (plain_at (next ts)) (next ts)) (λ es. refl)
  named_deeper _ x ts = refl

  inside_deeper : (ts : List Terminal) → Deeper (parenthesized types inner inner_type ts) (parenthesized types other other_type ts)
  unfolding parenthesized
  inside_deeper ts =
      let f : ReadExpression → Outcome ReadExpression = λ e. rparen e.rest >>= λ rest. Ok (record { tree = Parenthesized e.tree; height = suc e.height; rest = rest }) in
      both (inner 1 ts) (other 1 ts) f f (ih 1 ts) (λ e. same (f e))

  alloc_deeper : (ts : List Terminal) → Deeper (alloc types inner inner_type ts) (alloc types other other_type ts)
  unfolding alloc
  alloc_deeper ts =
      let f : ReadType → Outcome ReadExpression = λ t. rparen t.rest >>= λ rest. Ok (record { tree = Alloc t.value_type; height = suc t.height; rest = rest }) in
      one (lparen ts) (λ us. inner_type us >>= f) (λ us. other_type us >>= f) (λ us. both (inner_type us) (other_type us) f f (ih_type us) (λ t. same (f t)))

  array_deeper : (ts : List Terminal) → Deeper (alloc_array types inner inner_type ts) (alloc_array types other other_type ts)
  unfolding alloc_array
  array_deeper ts =
      let made : ReadType → ReadExpression → Outcome ReadExpression = λ t e. rparen e.rest >>= λ rest. Ok (record { tree = AllocArray t.value_type e.tree; height = suc (max t.height e.height); rest = rest }) in
      let f : Inner → ReadType → List Terminal → Outcome ReadExpression = λ read t vs. read 1 vs >>= made t in
      one (lparen ts) (λ us. inner_type us >>= λ t. comma t.rest >>= f inner t) (λ us. other_type us >>= λ t. comma t.rest >>= f other t) (λ us.
      both (inner_type us) (other_type us) (λ t. comma t.rest >>= f inner t) (λ t. comma t.rest >>= f other t) (ih_type us) (λ t.
      one (comma t.rest) (f inner t) (f other t) (λ vs. both (inner 1 vs) (other 1 vs) (made t) (made t) (ih 1 vs) (λ e. same (made t e)))))

  length_deeper : (ts : List Terminal) → Deeper (length_of types inner inner_type ts) (length_of types other other_type ts)
  unfolding length_of
  length_deeper ts =
      let f : ReadExpression → Outcome ReadExpression = λ e. rparen e.rest >>= λ rest. Ok (record { tree = Length e.tree; height = suc e.height; rest = rest }) in
      one (lparen ts) (λ us. inner 1 us >>= f) (λ us. other 1 us >>= f) (λ us. both (inner 1 us) (other 1 us) f f (ih 1 us) (λ e. same (f e)))

  primary_deeper_by : (kind : Kind) (ts : List Terminal) → Deeper (primary_by types inner inner_type kind ts) (primary_by types other other_type kind ts)
  primary_deeper_by k.Name ts = named_deeper (plain_at (next ts)) (bytes_at ts) (next ts)
  primary_deeper_by k.LParen ts = inside_deeper (next ts)
  primary_deeper_by k.Alloc ts = alloc_deeper (next ts)
  primary_deeper_by k.AllocArray ts = array_deeper (next ts)
  primary_deeper_by k.Length ts = length_deeper (next ts)
  primary_deeper_by _ ts = refl

  primary_deeper : (ts : List Terminal) → Deeper (primary types inner inner_type ts) (primary types other other_type ts)
  unfolding primary
  primary_deeper ts = primary_deeper_by (kind_at types ts) ts

  index_deeper : (a : ReadExpression) → Deeper (index types inner inner_type a) (index types other other_type a)
  index_deeper a =
      let f : ReadExpression → Outcome ReadExpression = λ i. rbracket i.rest >>= λ rest. Ok (record { tree = Index a.tree i.tree; height = suc (max a.height i.height); rest = rest }) in
      both (inner 1 (next a.rest)) (other 1 (next a.rest)) f f (ih 1 (next a.rest)) (λ i. same (f i))

  postfix_deeper_by : (l m : ℕ) → l ≤ m → (go others : ReadExpression → Outcome ReadExpression) → ((a : ReadExpression) → Deeper (go a) (others a)) → (kind : Kind) (a : ReadExpression) → Deeper (postfix_by types inner inner_type l go kind a) (postfix_by types other other_type m others kind a)
  postfix_deeper_by l m le go others goes k.LBracket a =
      pick (ltb a.height l) (ltb a.height m) (index types inner inner_type a >>= go) (index types other other_type a >>= others) a.rest a.rest (lower a.height l m le) (both (index types inner inner_type a) (index types other other_type a) go others (index_deeper a) goes)
  postfix_deeper_by l m le go others goes k.Dot a =
      pick (ltb a.height l) (ltb a.height m) (field types inner inner_type a >>= go) (field types other other_type a >>= others) a.rest a.rest (lower a.height l m le) (one (field types inner inner_type a) go others goes)
  postfix_deeper_by l m le go others goes k.Arrow a =
      pick (ltb a.height l) (ltb a.height m) (pointer_field types inner inner_type a >>= go) (pointer_field types other other_type a >>= others) a.rest a.rest (lower a.height l m le) (one (pointer_field types inner inner_type a) go others goes)
  postfix_deeper_by l m le go others goes _ a = refl

  postfix_deeper : (l m n j : ℕ) → l ≤ m → n ≤ j → (a : ReadExpression) → Deeper (postfix types inner inner_type l n a) (postfix types other other_type m j a)
  unfolding postfix
  postfix_deeper l m zero j le fuel a = tt
  postfix_deeper l m (suc n) zero le fuel a = absurd (omega arith)
  postfix_deeper l m (suc n) (suc j) le fuel a =
      postfix_deeper_by l m le (postfix types inner inner_type l n) (postfix types other other_type m j) (λ a. postfix_deeper l m n j le (omega arith) a) (plain_at a.rest) a

  unary_deeper_by : (l m : ℕ) → l ≤ m → (u : Option PrefixOperator) (ts : List Terminal) → Deeper (unary_by types inner inner_type l u ts) (unary_by types other other_type m u ts)
  unary_deeper_by l m le (Some u) ts =
      let f : ReadExpression → Outcome ReadExpression = λ r. Ok (record { tree = Unary u r.tree; height = suc r.height; rest = r.rest }) in
      both (inner 12 (next ts)) (other 12 (next ts)) f f (ih 12 (next ts)) (λ r. refl)
  unary_deeper_by l m le None ts =
      both (primary types inner inner_type ts) (primary types other other_type ts) (postfix types inner inner_type l l) (postfix types other other_type m m) (primary_deeper ts) (λ a. postfix_deeper l m l m le le a)

  join_deeper_by : (op : Option Operator) (a : ReadExpression) → Deeper (join_by types inner inner_type op a) (join_by types other other_type op a)
  join_deeper_by (Some op) a =
      let f : ReadExpression → Outcome ReadExpression = λ x. Ok (record { tree = Binary op a.tree x.tree; height = suc (max a.height x.height); rest = x.rest }) in
      both (inner (suc (operator_precedence op)) (next a.rest)) (other (suc (operator_precedence op)) (next a.rest)) f f (ih (suc (operator_precedence op)) (next a.rest)) (λ r. refl)
  join_deeper_by None c =
      let made : ReadExpression → ReadExpression → Outcome ReadExpression = λ a y. Ok (record { tree = Conditional c.tree a.tree y.tree; height = suc (max c.height (max a.height y.height)); rest = y.rest }) in
      let f : Inner → ReadExpression → List Terminal → Outcome ReadExpression = λ read a us. read 1 us >>= made a in
      both (inner 1 (next c.rest)) (other 1 (next c.rest)) (λ a. colon a.rest >>= f inner a) (λ a. colon a.rest >>= f other a) (ih 1 (next c.rest)) (λ a.
      one (colon a.rest) (f inner a) (f other a) (λ us. both (inner 1 us) (other 1 us) (made a) (made a) (ih 1 us) (λ y. refl)))

  climb_deeper : (l m least n j : ℕ) → l ≤ m → n ≤ j → (a : ReadExpression) → Deeper (climb types inner inner_type l least n a) (climb types other other_type m least j a)
  unfolding climb join
  climb_deeper l m least zero j le fuel a = tt
  climb_deeper l m least (suc n) zero le fuel a = absurd (omega arith)
  climb_deeper l m least (suc n) (suc j) le fuel a =
      let go : ReadExpression → Outcome ReadExpression = climb types inner inner_type l least n in
      let others : ReadExpression → Outcome ReadExpression = climb types other other_type m least j in
      choose (ltb (precedence (plain_at a.rest)) least) (Ok a) (if ltb a.height l then join types inner inner_type a >>= go else too_deep a.rest) (Ok a) (if ltb a.height m then join types other other_type a >>= others else too_deep a.rest) refl
      (pick (ltb a.height l) (ltb a.height m) (join types inner inner_type a >>= go) (join types other other_type a >>= others) a.rest a.rest (lower a.height l m le)
      (both (join types inner inner_type a) (join types other other_type a) go others (join_deeper_by (operator_of (plain_at a.rest)) a) (λ a. climb_deeper l m least n j le (omega arith) a)))

  whole_deeper : (l m least : ℕ) → l ≤ m → (ts : List Terminal) → Deeper (whole types inner inner_type l least ts) (whole types other other_type m least ts)
  unfolding whole unary
  whole_deeper l m least le ts =
      both (unary types inner inner_type l ts) (unary types other other_type m ts) (climb types inner inner_type l least l) (climb types other other_type m least m) (unary_deeper_by l m le (prefix_of (plain_at ts)) ts) (λ a. climb_deeper l m least l m le le a)

pub expression_deeper : (types : Names) (d e : ℕ) → d ≤ e → (least : ℕ) (ts : List Terminal) → Deeper (read_expression types d least ts) (read_expression types e least ts)
unfolding read_expression
expression_deeper types zero e le least ts = tt
expression_deeper types (suc d) zero le least ts = absurd (omega arith)
expression_deeper types (suc d) (suc e) le least ts =
    let below : d ≤ e = omega arith in
    whole_deeper types (read_expression types d) (read_expression types e) (λ least ts. expression_deeper types d e below least ts) (read_type types d) (read_type types e) (λ ts. type_deeper types d e below ts) (suc d) (suc e) least le ts
