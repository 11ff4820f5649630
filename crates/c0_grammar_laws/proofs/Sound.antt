-- What is read as an expression reads as it.
use Rattle.std.proofs.Common.{◌≡◌, ℕ, zero, suc, ◌<◌, ◌≤◌, ◌⊎◌, max, ltb, List, ◌∷◌, length, Option, Some, None, Ok, refl, sym, ap, subst, ◌∙◌, inl, inr, arith}
use Rattle.std.proofs.lemmas.Bool.{ltb-true, ltb-false}
use Rattle.c0_source.specs.declared.kind.Kind.{Kind}
use Rattle.c0_source.specs.declared.kind.Kind.TheVariants as k
use Rattle.c0_source.specs.declared.kind.Operator.{Operator}
use Rattle.c0_source.specs.declared.kind.Operator.TheVariants as o
use Rattle.c0_syntax.specs.declared.operator.PrefixOperator.{PrefixOperator}
use Rattle.c0_syntax.specs.declared.operator.PrefixOperator.TheVariants as p
use Rattle.c0_source.specs.Terminals.{Terminal, Word, Sign}
use Rattle.c0_syntax.specs.Trees as t
use Rattle.c0_syntax.specs.Trees.{ValueType, Expression, Number, Character, Truth, Null, Variable, Parenthesized, Call, Alloc, AllocArray, Length, Index, Field, PointerField, Unary, Binary, Conditional, Expressions, none, more}
use Rattle.c0_syntax.specs.Expressions.{emit_type, emit_expression, emit_arguments, emit_more_arguments, prefix_sign, operator_precedence, precedence, FormedExpression, FormedArguments, height_expression, height_arguments}
use Rattle.c0_grammar_laws.specs.Outcome.{Outcome, ◌>>=◌, kind_at, plain_at, bytes_at, next, lparen, rparen, rbracket, comma, colon, any_name}
use Rattle.c0_grammar_laws.specs.ReadExpressions.{ReadType, ReadExpression, ReadArguments, add_first, read_type, prefix_of, operator_of, after_argument, arguments, arguments_by, named_by, parenthesized, alloc, alloc_array, length_of, primary_by, primary, index, field, pointer_field, postfix_by, postfix, unary_by, unary, join_by, join, climb, whole, read_expression}
use Rattle.c0_grammar_laws.proofs.Basics.{bind_ok, ok_is, chosen, IsSign, sign_at, kind_sign, free_at, text_at, lparen_ok, rparen_ok, rbracket_ok, comma_ok, colon_ok, any_name_ok}
use Rattle.c0_grammar_laws.proofs.Types.{SoundType, read_type_sound}
use Rattle.c0_grammar_laws.proofs.Turns.{Names, Inner, InnerType, precedence_lt, precedence_ge, weaker}

-- ---- what a kind means

pub prefix_is : (kind : Kind) (u : PrefixOperator) → prefix_of kind ≡ Some u → (kind ≡ prefix_sign u) × IsSign kind
prefix_is k.Bang u e = let f : p.Not ≡ u = cc in (ap prefix_sign f, tt)
prefix_is k.Tilde u e = let f : p.Complement ≡ u = cc in (ap prefix_sign f, tt)
prefix_is (k.Infix o.Subtract) u e = let f : p.Negate ≡ u = cc in (ap prefix_sign f, tt)
prefix_is (k.Infix o.Multiply) u e = let f : p.Dereference ≡ u = cc in (ap prefix_sign f, tt)
prefix_is _ u e = absurd cc

pub operator_is : (kind : Kind) (op : Operator) → operator_of kind ≡ Some op → kind ≡ k.Infix op
operator_is (k.Infix f) op e = let same : f ≡ op = cc in ap k.Infix same
operator_is _ op e = absurd cc

-- a sign that binds and is no operator
pub question_is : (kind : Kind) → operator_of kind ≡ None → 0 < precedence kind → kind ≡ k.Question
question_is k.Question e lt = refl
question_is (k.Infix f) e lt = absurd cc
question_is _ e lt = absurd (omega arith)

-- how strong the expression before a token has to be
abbrev pub left_of : Kind → ℕ
left_of k.Question = 2
left_of kind = precedence kind

pub left_of-le : (kind : Kind) (m : ℕ) → 2 ≤ m → precedence kind ≤ m → left_of kind ≤ m
left_of-le k.Question m ge le = ge
left_of-le kind m ge le = le

left_of-lt : (kind : Kind) → left_of kind ≤ 12
left_of-lt k.Question = omega arith
left_of-lt (k.Infix f) = omega (arith, precedence_lt f)
left_of-lt _ = omega arith

pub left_of-zero : (kind : Kind) → precedence kind < 1 → left_of kind ≤ 1
left_of-zero k.Question lt = absurd (omega arith)
left_of-zero kind lt = omega arith

-- ---- what was read

-- the tokens of a tree, and then others
pub record Spans (types : Names) (d least : ℕ) (ts : List Terminal) (r : ReadExpression) : Type 0 where
  pub spelled : ts ≡ emit_expression r.tree r.rest
  pub layered : FormedExpression types least r.tree
  pub tall : r.height ≡ height_expression r.tree
  pub shallow : height_expression r.tree ≤ d

-- ... that don't go on with it
pub record Sound (types : Names) (d least : ℕ) (ts : List Terminal) (r : ReadExpression) : Type 0 where
  pub spelled : ts ≡ emit_expression r.tree r.rest
  pub layered : FormedExpression types least r.tree
  pub tall : r.height ≡ height_expression r.tree
  pub shallow : height_expression r.tree ≤ d
  pub stops : precedence (plain_at r.rest) < least

abbrev pub IsSound : Names → ℕ → Inner → Type 0
IsSound types d inner = (least : ℕ) (ts : List Terminal) (r : ReadExpression) → 0 < least → least < 13 → inner least ts ≡ Ok r → Sound types d least ts r

abbrev pub IsSoundType : Names → ℕ → InnerType → Type 0
IsSoundType types d inner_type = (ts : List Terminal) (r : ReadType) → inner_type ts ≡ Ok r → SoundType types d ts r

abbrev after : Kind → List Terminal → List Terminal
after kind us = Sign kind ∷ us

-- ---- one case a production

inside_spans : (types : Names) (d : ℕ) (inner : Inner) (inner_type : InnerType) → IsSound types d inner → (ts : List Terminal) (r : ReadExpression) → kind_at types ts ≡ k.LParen → parenthesized types inner inner_type (next ts) ≡ Ok r → Spans types (suc d) 13 ts r
unfolding parenthesized
inside_spans types d inner inner_type sound ts r is e =
    let b = bind_ok (inner 1 (next ts)) (λ e. rparen e.rest >>= λ rest. Ok (record { tree = Parenthesized e.tree; height = suc e.height; rest = rest })) r e in
    let s = sound 1 (next ts) b.0 (omega arith) (omega arith) b.1 in
    let c = bind_ok (rparen b.0.rest) (λ rest. Ok (record { tree = Parenthesized b.0.tree; height = suc b.0.height; rest = rest })) r b.2 in
    let closed = rparen_ok b.0.rest c.0 c.1 in
    let spelled : ts ≡ emit_expression (Parenthesized b.0.tree) c.0 = kind_sign types ts k.LParen is tt ∙ ap (after k.LParen) (s.spelled ∙ ap (emit_expression b.0.tree) closed) in
    subst (Spans types (suc d) 13 ts) (ok_is _ r c.2) (record { spelled = spelled; layered = s.layered; tall = ap suc s.tall; shallow = omega (arith, s.shallow) })

length_spans : (types : Names) (d : ℕ) (inner : Inner) (inner_type : InnerType) → IsSound types d inner → (ts : List Terminal) (r : ReadExpression) → kind_at types ts ≡ k.Length → length_of types inner inner_type (next ts) ≡ Ok r → Spans types (suc d) 13 ts r
unfolding length_of
length_spans types d inner inner_type sound ts r is e =
    let a = bind_ok (lparen (next ts)) (λ us. inner 1 us >>= λ e. rparen e.rest >>= λ rest. Ok (record { tree = Length e.tree; height = suc e.height; rest = rest })) r e in
    let b = bind_ok (inner 1 a.0) (λ e. rparen e.rest >>= λ rest. Ok (record { tree = Length e.tree; height = suc e.height; rest = rest })) r a.2 in
    let s = sound 1 a.0 b.0 (omega arith) (omega arith) b.1 in
    let c = bind_ok (rparen b.0.rest) (λ rest. Ok (record { tree = Length b.0.tree; height = suc b.0.height; rest = rest })) r b.2 in
    let closed = rparen_ok b.0.rest c.0 c.1 in
    let opened = lparen_ok (next ts) a.0 a.1 in
    let spelled : ts ≡ emit_expression (Length b.0.tree) c.0 = kind_sign types ts k.Length is tt ∙ ap (after k.Length) (opened ∙ ap (after k.LParen) (s.spelled ∙ ap (emit_expression b.0.tree) closed)) in
    subst (Spans types (suc d) 13 ts) (ok_is _ r c.2) (record { spelled = spelled; layered = s.layered; tall = ap suc s.tall; shallow = omega (arith, s.shallow) })

alloc_spans : (types : Names) (d : ℕ) (inner : Inner) (inner_type : InnerType) → IsSoundType types d inner_type → (ts : List Terminal) (r : ReadExpression) → kind_at types ts ≡ k.Alloc → alloc types inner inner_type (next ts) ≡ Ok r → Spans types (suc d) 13 ts r
unfolding alloc
alloc_spans types d inner inner_type sound ts r is e =
    let a = bind_ok (lparen (next ts)) (λ us. inner_type us >>= λ t. rparen t.rest >>= λ rest. Ok (record { tree = Alloc t.value_type; height = suc t.height; rest = rest })) r e in
    let b = bind_ok (inner_type a.0) (λ t. rparen t.rest >>= λ rest. Ok (record { tree = Alloc t.value_type; height = suc t.height; rest = rest })) r a.2 in
    let s = (sound a.0 b.0 b.1).spans in
    let c = bind_ok (rparen b.0.rest) (λ rest. Ok (record { tree = Alloc b.0.value_type; height = suc b.0.height; rest = rest })) r b.2 in
    let closed = rparen_ok b.0.rest c.0 c.1 in
    let opened = lparen_ok (next ts) a.0 a.1 in
    let spelled : ts ≡ emit_expression (Alloc b.0.value_type) c.0 = kind_sign types ts k.Alloc is tt ∙ ap (after k.Alloc) (opened ∙ ap (after k.LParen) (s.spelled ∙ ap (emit_type b.0.value_type) closed)) in
    subst (Spans types (suc d) 13 ts) (ok_is _ r c.2) (record { spelled = spelled; layered = s.formed; tall = ap suc s.tall; shallow = omega (arith, s.shallow) })

alloc_array_spans : (types : Names) (d : ℕ) (inner : Inner) (inner_type : InnerType) → IsSound types d inner → IsSoundType types d inner_type → (ts : List Terminal) (r : ReadExpression) → kind_at types ts ≡ k.AllocArray → alloc_array types inner inner_type (next ts) ≡ Ok r → Spans types (suc d) 13 ts r
unfolding alloc_array
alloc_array_spans types d inner inner_type sound sound_type ts r is e =
    let a = bind_ok (lparen (next ts)) (λ us. inner_type us >>= λ t. comma t.rest >>= λ vs. inner 1 vs >>= λ e. rparen e.rest >>= λ rest. Ok (record { tree = AllocArray t.value_type e.tree; height = suc (max t.height e.height); rest = rest })) r e in
    let b = bind_ok (inner_type a.0) (λ t. comma t.rest >>= λ vs. inner 1 vs >>= λ e. rparen e.rest >>= λ rest. Ok (record { tree = AllocArray t.value_type e.tree; height = suc (max t.height e.height); rest = rest })) r a.2 in
    let s = (sound_type a.0 b.0 b.1).spans in
    let c = bind_ok (comma b.0.rest) (λ vs. inner 1 vs >>= λ e. rparen e.rest >>= λ rest. Ok (record { tree = AllocArray b.0.value_type e.tree; height = suc (max b.0.height e.height); rest = rest })) r b.2 in
    let f = bind_ok (inner 1 c.0) (λ e. rparen e.rest >>= λ rest. Ok (record { tree = AllocArray b.0.value_type e.tree; height = suc (max b.0.height e.height); rest = rest })) r c.2 in
    let q = sound 1 c.0 f.0 (omega arith) (omega arith) f.1 in
    let g = bind_ok (rparen f.0.rest) (λ rest. Ok (record { tree = AllocArray b.0.value_type f.0.tree; height = suc (max b.0.height f.0.height); rest = rest })) r f.2 in
    let closed = rparen_ok f.0.rest g.0 g.1 in
    let between = comma_ok b.0.rest c.0 c.1 in
    let opened = lparen_ok (next ts) a.0 a.1 in
    let behind : b.0.rest ≡ Sign k.Comma ∷ emit_expression f.0.tree (Sign k.RParen ∷ g.0) = between ∙ ap (after k.Comma) (q.spelled ∙ ap (emit_expression f.0.tree) closed) in
    let spelled : ts ≡ emit_expression (AllocArray b.0.value_type f.0.tree) g.0 = kind_sign types ts k.AllocArray is tt ∙ ap (after k.AllocArray) (opened ∙ ap (after k.LParen) (s.spelled ∙ ap (emit_type b.0.value_type) behind)) in
    subst (Spans types (suc d) 13 ts) (ok_is _ r g.2) (record { spelled = spelled; layered = (s.formed, q.layered); tall = omega (arith, s.tall, q.tall); shallow = omega (arith, s.shallow, q.shallow) })

pub index_spans : (types : Names) (d : ℕ) (inner : Inner) (inner_type : InnerType) → IsSound types d inner → (start : List Terminal) (a r : ReadExpression) → Spans types (suc d) 13 start a → a.height < suc d → plain_at a.rest ≡ k.LBracket
    → index types inner inner_type a ≡ Ok r → Spans types (suc d) 13 start r
index_spans types d inner inner_type sound start a r left lt is e =
    let b = bind_ok (inner 1 (next a.rest)) (λ i. rbracket i.rest >>= λ rest. Ok (record { tree = Index a.tree i.tree; height = suc (max a.height i.height); rest = rest })) r e in
    let s = sound 1 (next a.rest) b.0 (omega arith) (omega arith) b.1 in
    let c = bind_ok (rbracket b.0.rest) (λ rest. Ok (record { tree = Index a.tree b.0.tree; height = suc (max a.height b.0.height); rest = rest })) r b.2 in
    let opened = sign_at a.rest k.LBracket is tt in
    let closed = rbracket_ok b.0.rest c.0 c.1 in
    let behind : a.rest ≡ Sign k.LBracket ∷ emit_expression b.0.tree (Sign k.RBracket ∷ c.0) = opened ∙ ap (after k.LBracket) (s.spelled ∙ ap (emit_expression b.0.tree) closed) in
    let tall : suc (max a.height b.0.height) ≡ suc (max (height_expression a.tree) (height_expression b.0.tree)) = omega (arith, left.tall, s.tall) in
    let low : height_expression a.tree < suc d = omega (arith, left.tall) in
    subst (Spans types (suc d) 13 start) (ok_is _ r c.2) (record { spelled = left.spelled ∙ ap (emit_expression a.tree) behind; layered = (left.layered, s.layered); tall = tall; shallow = omega (arith, s.shallow) })

pub field_spans : (types : Names) (d : ℕ) (inner : Inner) (inner_type : InnerType) (start : List Terminal) (a r : ReadExpression) → Spans types (suc d) 13 start a → a.height < suc d → plain_at a.rest ≡ k.Dot → field types inner inner_type a ≡ Ok r → Spans types (suc d) 13 start r
field_spans types d inner inner_type start a r left lt is e =
    let b = bind_ok (any_name (next a.rest)) (λ x. Ok (record { tree = Field a.tree x.value; height = suc a.height; rest = x.rest })) r e in
    let behind : a.rest ≡ Sign k.Dot ∷ Word b.0.value ∷ b.0.rest = sign_at a.rest k.Dot is tt ∙ ap (after k.Dot) (any_name_ok (next a.rest) b.0 b.1) in
    let low : height_expression a.tree < suc d = omega (arith, left.tall) in
    subst (Spans types (suc d) 13 start) (ok_is _ r b.2) (record { spelled = left.spelled ∙ ap (emit_expression a.tree) behind; layered = left.layered; tall = ap suc left.tall; shallow = omega arith })

pub through_spans : (types : Names) (d : ℕ) (inner : Inner) (inner_type : InnerType) (start : List Terminal) (a r : ReadExpression) → Spans types (suc d) 13 start a → a.height < suc d → plain_at a.rest ≡ k.Arrow → pointer_field types inner inner_type a ≡ Ok r → Spans types (suc d) 13 start r
through_spans types d inner inner_type start a r left lt is e =
    let b = bind_ok (any_name (next a.rest)) (λ x. Ok (record { tree = PointerField a.tree x.value; height = suc a.height; rest = x.rest })) r e in
    let behind : a.rest ≡ Sign k.Arrow ∷ Word b.0.value ∷ b.0.rest = sign_at a.rest k.Arrow is tt ∙ ap (after k.Arrow) (any_name_ok (next a.rest) b.0 b.1) in
    let low : height_expression a.tree < suc d = omega (arith, left.tall) in
    subst (Spans types (suc d) 13 start) (ok_is _ r b.2) (record { spelled = left.spelled ∙ ap (emit_expression a.tree) behind; layered = left.layered; tall = ap suc left.tall; shallow = omega arith })

-- one more step, or none
abbrev StepOf : Names → Inner → InnerType → ℕ → (ReadExpression → Outcome ReadExpression) → Kind → ReadExpression → ReadExpression → Type 0
StepOf types inner inner_type limit go_on kind a r =
    ((kind ≡ k.LBracket) × (a.height < limit) × ((index types inner inner_type a >>= go_on) ≡ Ok r))
    ⊎ (((kind ≡ k.Dot) × (a.height < limit) × ((field types inner inner_type a >>= go_on) ≡ Ok r))
    ⊎ (((kind ≡ k.Arrow) × (a.height < limit) × ((pointer_field types inner inner_type a >>= go_on) ≡ Ok r)) ⊎ (a ≡ r)))

postfix_ok : (types : Names) (inner : Inner) (inner_type : InnerType) (limit : ℕ) (go_on : ReadExpression → Outcome ReadExpression) (kind : Kind) (a r : ReadExpression) → postfix_by types inner inner_type limit go_on kind a ≡ Ok r → StepOf types inner inner_type limit go_on kind a r
postfix_ok types inner inner_type limit go_on k.LBracket a r e =
    elim (chosen (ltb a.height limit) _ _ _ e) [
      | inl h ↦ inl (refl, ltb-true _ _ h.0, h.1)
      | inr h ↦ absurd (let bad = h.1 in cc)
    ]
postfix_ok types inner inner_type limit go_on k.Dot a r e =
    elim (chosen (ltb a.height limit) _ _ _ e) [
      | inl h ↦ inr (inl (refl, ltb-true _ _ h.0, h.1))
      | inr h ↦ absurd (let bad = h.1 in cc)
    ]
postfix_ok types inner inner_type limit go_on k.Arrow a r e =
    elim (chosen (ltb a.height limit) _ _ _ e) [
      | inl h ↦ inr (inr (inl (refl, ltb-true _ _ h.0, h.1)))
      | inr h ↦ absurd (let bad = h.1 in cc)
    ]
postfix_ok types inner inner_type limit go_on _ a r e = inr (inr (inr (ok_is _ _ e)))

pub postfix_spans : (types : Names) (d : ℕ) (inner : Inner) (inner_type : InnerType) → IsSound types d inner → (f : ℕ) (start : List Terminal) (a r : ReadExpression) → Spans types (suc d) 13 start a → postfix types inner inner_type (suc d) f a ≡ Ok r → Spans types (suc d) 13 start r
unfolding postfix
postfix_spans types d inner inner_type sound zero start a r left e = absurd cc
postfix_spans types d inner inner_type sound (suc f) start a r left e =
    elim (postfix_ok types inner inner_type (suc d) (postfix types inner inner_type (suc d) f) (plain_at a.rest) a r e) [
      | inl h ↦
          let b = bind_ok (index types inner inner_type a) (postfix types inner inner_type (suc d) f) r h.2 in
          postfix_spans types d inner inner_type sound f start b.0 r (index_spans types d inner inner_type sound start a b.0 left h.1 h.0 b.1) b.2
      | inr (inl h) ↦
          let b = bind_ok (field types inner inner_type a) (postfix types inner inner_type (suc d) f) r h.2 in
          postfix_spans types d inner inner_type sound f start b.0 r (field_spans types d inner inner_type start a b.0 left h.1 h.0 b.1) b.2
      | inr (inr (inl h)) ↦
          let b = bind_ok (pointer_field types inner inner_type a) (postfix types inner inner_type (suc d) f) r h.2 in
          postfix_spans types d inner inner_type sound f start b.0 r (through_spans types d inner inner_type start a b.0 left h.1 h.0 b.1) b.2
      | inr (inr (inr h)) ↦ subst (Spans types (suc d) 13 start) h left
    ]

-- ---- arguments

record SpansFirst (types : Names) (d : ℕ) (ts : List Terminal) (r : ReadArguments) : Type 0 where
  spelled : ts ≡ emit_arguments r.trees r.rest
  layered : FormedArguments types r.trees
  tall : r.height ≡ height_arguments r.trees
  shallow : height_arguments r.trees ≤ d

after_ok : (types : Names) (inner : Inner) (inner_type : InnerType) (others : List Terminal → Outcome ReadArguments) (kind : Kind) (x : ReadExpression) (r : ReadArguments) → after_argument types inner inner_type others kind x ≡ Ok r
    → ((kind ≡ k.Comma) × ((others (next x.rest) >>= λ xs. Ok (add_first x xs)) ≡ Ok r)) ⊎ ((kind ≡ k.RParen) × (record { trees = more x.tree none; height = x.height; rest = next x.rest } ≡ r))
after_ok types inner inner_type others k.Comma x r e = inl (refl, e)
after_ok types inner inner_type others k.RParen x r e = inr (refl, ok_is _ _ e)
after_ok types inner inner_type others _ x r e = absurd cc

add_spans : (types : Names) (d : ℕ) (ts : List Terminal) (x : ReadExpression) (xs : ReadArguments) → Sound types d 1 ts x → SpansFirst types d (next x.rest) xs → plain_at x.rest ≡ k.Comma → (y : Expression) (ys : Expressions) → xs.trees ≡ more y ys → SpansFirst types d ts (add_first x xs)
add_spans types d ts x xs s o comma y ys is =
    let here = sign_at x.rest k.Comma comma tt in
    let others : emit_more_arguments xs.trees xs.rest ≡ Sign k.Comma ∷ emit_arguments xs.trees xs.rest = rw is refl in
    let behind : x.rest ≡ emit_more_arguments xs.trees xs.rest = here ∙ (ap (after k.Comma) o.spelled ∙ sym others) in
    record { spelled = s.spelled ∙ ap (emit_expression x.tree) behind; layered = (s.layered, o.layered); tall = omega (arith, s.tall, o.tall); shallow = omega (arith, s.shallow, o.shallow) }

-- at least one
record SpansSome (types : Names) (d : ℕ) (ts : List Terminal) (r : ReadArguments) : Type 0 where
  whole : SpansFirst types d ts r
  head : Expression
  tail : Expressions
  is : r.trees ≡ more head tail

arguments_spans : (types : Names) (d : ℕ) (inner : Inner) (inner_type : InnerType) → IsSound types d inner → (n : ℕ) (ts : List Terminal) (r : ReadArguments) → arguments types inner inner_type n ts ≡ Ok r → SpansSome types d ts r
unfolding arguments
arguments_spans types d inner inner_type sound zero ts r e = absurd cc
arguments_spans types d inner inner_type sound (suc n) ts r e =
    let b = bind_ok (inner 1 ts) (λ x. after_argument types inner inner_type (arguments types inner inner_type n) (plain_at x.rest) x) r e in
    let s = sound 1 ts b.0 (omega arith) (omega arith) b.1 in
    elim (after_ok types inner inner_type (arguments types inner inner_type n) (plain_at b.0.rest) b.0 r b.2) [
      | inl h ↦
          let c = bind_ok (arguments types inner inner_type n (next b.0.rest)) (λ xs. Ok (add_first b.0 xs)) r h.1 in
          let o = arguments_spans types d inner inner_type sound n (next b.0.rest) c.0 c.1 in
          subst (SpansSome types d ts) (ok_is (add_first b.0 c.0) r c.2) (record { whole = add_spans types d ts b.0 c.0 s o.whole h.0 o.head o.tail o.is; head = b.0.tree; tail = c.0.trees; is = refl })
      | inr h ↦
          let closed = sign_at b.0.rest k.RParen h.0 tt in
          let one : SpansFirst types d ts (record { trees = more b.0.tree none; height = b.0.height; rest = next b.0.rest }) =
          record { spelled = s.spelled ∙ ap (emit_expression b.0.tree) closed; layered = (s.layered, tt); tall = omega (arith, s.tall); shallow = omega (arith, s.shallow) } in
          subst (SpansSome types d ts) h.1 (record { whole = one; head = b.0.tree; tail = none; is = refl })
    ]

arguments_by_ok : (types : Names) (inner : Inner) (inner_type : InnerType) (kind : Kind) (ts : List Terminal) (r : ReadArguments) → arguments_by types inner inner_type kind ts ≡ Ok r
    → ((kind ≡ k.RParen) × (record { trees = none; height = 0; rest = next ts } ≡ r)) ⊎ (arguments types inner inner_type (length ts) ts ≡ Ok r)
arguments_by_ok types inner inner_type k.RParen ts r e = inl (refl, ok_is _ _ e)
arguments_by_ok types inner inner_type _ ts r e = inr e

first_spans : (types : Names) (d : ℕ) (inner : Inner) (inner_type : InnerType) → IsSound types d inner → (ts : List Terminal) (r : ReadArguments) → arguments_by types inner inner_type (plain_at ts) ts ≡ Ok r → SpansFirst types d ts r
first_spans types d inner inner_type sound ts r e =
    elim (arguments_by_ok types inner inner_type (plain_at ts) ts r e) [
      | inl h ↦ subst (SpansFirst types d ts) h.1 (record { spelled = sign_at ts k.RParen h.0 tt; layered = tt; tall = refl; shallow = omega arith })
      | inr h ↦ (arguments_spans types d inner inner_type sound (length ts) ts r h).whole
    ]

-- ---- primaries

named_ok : (types : Names) (inner : Inner) (inner_type : InnerType) (kind : Kind) (x : List ℕ) (ts : List Terminal) (r : ReadExpression) → named_by types inner inner_type kind x ts ≡ Ok r
    → ((kind ≡ k.LParen) × ((arguments_by types inner inner_type (plain_at (next ts)) (next ts) >>= λ es. Ok (record { tree = Call x es.trees; height = suc es.height; rest = es.rest })) ≡ Ok r))
    ⊎ (record { tree = Variable x; height = 1; rest = ts } ≡ r)
named_ok types inner inner_type k.LParen x ts r e = inl (refl, e)
named_ok types inner inner_type _ x ts r e = inr (ok_is _ _ e)

named_spans : (types : Names) (d : ℕ) (inner : Inner) (inner_type : InnerType) → IsSound types d inner → (ts : List Terminal) (r : ReadExpression) → kind_at types ts ≡ k.Name → named_by types inner inner_type (plain_at (next ts)) (bytes_at ts) (next ts) ≡ Ok r → Spans types (suc d) 13 ts r
named_spans types d inner inner_type sound ts r is e =
    let word = free_at types ts is in
    elim (named_ok types inner inner_type (plain_at (next ts)) (bytes_at ts) (next ts) r e) [
      | inl h ↦
          let us = next (next ts) in
          let b = bind_ok (arguments_by types inner inner_type (plain_at us) us) (λ es. Ok (record { tree = Call (bytes_at ts) es.trees; height = suc es.height; rest = es.rest })) r h.1 in
          let s = first_spans types d inner inner_type sound us b.0 b.1 in
          let opened = sign_at (next ts) k.LParen h.0 tt in
          let spelled : ts ≡ Word (bytes_at ts) ∷ Sign k.LParen ∷ emit_arguments b.0.trees b.0.rest =
          word.0 ∙ ap (λ (vs : List Terminal). Word (bytes_at ts) ∷ vs) (opened ∙ ap (after k.LParen) s.spelled) in
          subst (Spans types (suc d) 13 ts) (ok_is _ r b.2) (record { spelled = spelled; layered = (word.1, s.layered); tall = ap suc s.tall; shallow = omega (arith, s.shallow) })
      | inr h ↦ subst (Spans types (suc d) 13 ts) h (record { spelled = word.0; layered = word.1; tall = refl; shallow = omega arith })
    ]

abbrev leaf_of : Expression → List Terminal → ReadExpression
leaf_of t rest = record { tree = t; height = 1; rest = rest }

pub primary_spans_by : (types : Names) (d : ℕ) (inner : Inner) (inner_type : InnerType) → IsSound types d inner → IsSoundType types d inner_type → (kind : Kind) (ts : List Terminal) (r : ReadExpression) → kind_at types ts ≡ kind → primary_by types inner inner_type kind ts ≡ Ok r → Spans types (suc d) 13 ts r
primary_spans_by types d inner inner_type sound sound_type (k.Number n) ts r is e =
    subst (Spans types (suc d) 13 ts) (ok_is (leaf_of (Number n) (next ts)) r e) (record { spelled = kind_sign types ts (k.Number n) is tt; layered = tt; tall = refl; shallow = omega arith })
primary_spans_by types d inner inner_type sound sound_type (k.Character c) ts r is e =
    subst (Spans types (suc d) 13 ts) (ok_is (leaf_of (Character c) (next ts)) r e) (record { spelled = kind_sign types ts (k.Character c) is tt; layered = tt; tall = refl; shallow = omega arith })
primary_spans_by types d inner inner_type sound sound_type (k.Truth b) ts r is e =
    subst (Spans types (suc d) 13 ts) (ok_is (leaf_of (Truth b) (next ts)) r e) (record { spelled = kind_sign types ts (k.Truth b) is tt; layered = tt; tall = refl; shallow = omega arith })
primary_spans_by types d inner inner_type sound sound_type k.Null ts r is e =
    subst (Spans types (suc d) 13 ts) (ok_is (leaf_of Null (next ts)) r e) (record { spelled = kind_sign types ts k.Null is tt; layered = tt; tall = refl; shallow = omega arith })
primary_spans_by types d inner inner_type sound sound_type k.Text ts r is e =
    subst (Spans types (suc d) 13 ts) (ok_is (leaf_of (t.Text (bytes_at ts)) (next ts)) r e) (record { spelled = text_at types ts is; layered = tt; tall = refl; shallow = omega arith })
primary_spans_by types d inner inner_type sound sound_type k.Result ts r is e =
    subst (Spans types (suc d) 13 ts) (ok_is (leaf_of t.Result (next ts)) r e) (record { spelled = kind_sign types ts k.Result is tt; layered = tt; tall = refl; shallow = omega arith })
primary_spans_by types d inner inner_type sound sound_type k.Name ts r is e = named_spans types d inner inner_type sound ts r is e
primary_spans_by types d inner inner_type sound sound_type k.LParen ts r is e = inside_spans types d inner inner_type sound ts r is e
primary_spans_by types d inner inner_type sound sound_type k.Alloc ts r is e = alloc_spans types d inner inner_type sound_type ts r is e
primary_spans_by types d inner inner_type sound sound_type k.AllocArray ts r is e = alloc_array_spans types d inner inner_type sound sound_type ts r is e
primary_spans_by types d inner inner_type sound sound_type k.Length ts r is e = length_spans types d inner inner_type sound ts r is e
primary_spans_by types d inner inner_type sound sound_type _ ts r is e = absurd cc

-- ---- operands

-- an operand that the next operator may have on its left
pub record Left (types : Names) (d least : ℕ) (ts : List Terminal) (r : ReadExpression) : Type 0 where
  pub spelled : ts ≡ emit_expression r.tree r.rest
  pub layered : FormedExpression types least r.tree
  pub before : FormedExpression types (left_of (plain_at r.rest)) r.tree
  pub tall : r.height ≡ height_expression r.tree
  pub shallow : height_expression r.tree ≤ d

pub unary_left_by : (types : Names) (d least : ℕ) (inner : Inner) (inner_type : InnerType) → IsSound types d inner → IsSoundType types d inner_type → least < 13 → (o : Option PrefixOperator) (ts : List Terminal) (r : ReadExpression) → prefix_of (plain_at ts) ≡ o → unary_by types inner inner_type (suc d) o ts ≡ Ok r → Left types (suc d) least ts r
unfolding primary
unary_left_by types d least inner inner_type sound sound_type lt (Some u) ts r is e =
    let q = prefix_is (plain_at ts) u is in
    let b = bind_ok (inner 12 (next ts)) (λ a. Ok (record { tree = Unary u a.tree; height = suc a.height; rest = a.rest })) r e in
    let s = sound 12 (next ts) b.0 (omega arith) (omega arith) b.1 in
    let begun = sign_at ts (prefix_sign u) q.0 (subst IsSign q.0 q.1) in
    let spelled : ts ≡ Sign (prefix_sign u) ∷ emit_expression b.0.tree b.0.rest = begun ∙ ap (after (prefix_sign u)) s.spelled in
    subst (Left types (suc d) least ts) (ok_is _ r b.2) (record { spelled = spelled; layered = (omega arith, s.layered); before = (left_of-lt (plain_at b.0.rest), s.layered); tall = ap suc s.tall; shallow = omega (arith, s.shallow) })
unary_left_by types d least inner inner_type sound sound_type lt None ts r is e =
    let b = bind_ok (primary types inner inner_type ts) (postfix types inner inner_type (suc d) (suc d)) r e in
    let p = primary_spans_by types d inner inner_type sound sound_type (kind_at types ts) ts b.0 refl b.1 in
    let s = postfix_spans types d inner inner_type sound (suc d) ts b.0 r p b.2 in
    record { spelled = s.spelled; layered = weaker types r.tree least 13 (omega arith) s.layered; before = weaker types r.tree (left_of (plain_at r.rest)) 13 (omega (arith, left_of-lt (plain_at r.rest))) s.layered; tall = s.tall; shallow = s.shallow }

-- ---- operators

pub join_left : (types : Names) (d least : ℕ) (inner : Inner) (inner_type : InnerType) → IsSound types d inner → (o : Option Operator) (start : List Terminal) (a r : ReadExpression) → Left types (suc d) least start a → a.height < suc d → 0 < least → least ≤ precedence (plain_at a.rest)
    → operator_of (plain_at a.rest) ≡ o → join_by types inner inner_type o a ≡ Ok r → Left types (suc d) least start r
join_left types d least inner inner_type sound (Some op) start a r left lt pos le is e =
    let q = operator_is (plain_at a.rest) op is in
    let b = bind_ok (inner (suc (operator_precedence op)) (next a.rest)) (λ x. Ok (record { tree = Binary op a.tree x.tree; height = suc (max a.height x.height); rest = x.rest })) r e in
    let begun = sign_at a.rest (k.Infix op) q tt in
    let same : precedence (plain_at a.rest) ≡ operator_precedence op = ap precedence q in
    let s = sound (suc (operator_precedence op)) (next a.rest) b.0 (omega arith) (omega (arith, precedence_lt op)) b.1 in
    let left_same : left_of (plain_at a.rest) ≡ operator_precedence op = ap left_of q in
    let behind : a.rest ≡ Sign (k.Infix op) ∷ emit_expression b.0.tree b.0.rest = begun ∙ ap (after (k.Infix op)) s.spelled in
    let layered_a : FormedExpression types (operator_precedence op) a.tree = subst (λ (m : ℕ). FormedExpression types m a.tree) left_same left.before in
    let follows = left_of-le (plain_at b.0.rest) (operator_precedence op) (precedence_ge op) (omega (arith, s.stops)) in
    subst (Left types (suc d) least start) (ok_is _ r b.2) (record {
      spelled = left.spelled ∙ ap (emit_expression a.tree) behind;
      layered = (omega (arith, same), layered_a, s.layered);
      before = (follows, layered_a, s.layered);
      tall = omega (arith, left.tall, s.tall);
      shallow = omega (arith, s.shallow, left.tall);
    })
join_left types d least inner inner_type sound None start c r left lt pos le is e =
    let q = question_is (plain_at c.rest) is (omega arith) in
    let ba = bind_ok (inner 1 (next c.rest)) (λ a. colon a.rest >>= λ us. inner 1 us >>= λ b. Ok (record { tree = Conditional c.tree a.tree b.tree; height = suc (max c.height (max a.height b.height)); rest = b.rest })) r e in
    let sa = sound 1 (next c.rest) ba.0 (omega arith) (omega arith) ba.1 in
    let bc = bind_ok (colon ba.0.rest) (λ us. inner 1 us >>= λ b. Ok (record { tree = Conditional c.tree ba.0.tree b.tree; height = suc (max c.height (max ba.0.height b.height)); rest = b.rest })) r ba.2 in
    let bb = bind_ok (inner 1 bc.0) (λ b. Ok (record { tree = Conditional c.tree ba.0.tree b.tree; height = suc (max c.height (max ba.0.height b.height)); rest = b.rest })) r bc.2 in
    let sb = sound 1 bc.0 bb.0 (omega arith) (omega arith) bb.1 in
    let begun = sign_at c.rest k.Question q tt in
    let between = colon_ok ba.0.rest bc.0 bc.1 in
    let behind_a : ba.0.rest ≡ Sign k.Colon ∷ emit_expression bb.0.tree bb.0.rest = between ∙ ap (after k.Colon) sb.spelled in
    let behind : c.rest ≡ Sign k.Question ∷ emit_expression ba.0.tree (Sign k.Colon ∷ emit_expression bb.0.tree bb.0.rest) = begun ∙ ap (after k.Question) (sa.spelled ∙ ap (emit_expression ba.0.tree) behind_a) in
    let layered_c : FormedExpression types 2 c.tree = subst (λ (m : ℕ). FormedExpression types m c.tree) (ap left_of q) left.before in
    let one : precedence (plain_at c.rest) ≡ 1 = ap precedence q in
    subst (Left types (suc d) least start) (ok_is _ r bb.2) (record {
      spelled = left.spelled ∙ ap (emit_expression c.tree) behind;
      layered = (omega (arith, one), layered_c, sa.layered, sb.layered);
      before = (left_of-zero (plain_at bb.0.rest) sb.stops, layered_c, sa.layered, sb.layered);
      tall = omega (arith, left.tall, sa.tall, sb.tall);
      shallow = omega (arith, sa.shallow, sb.shallow, left.tall);
    })

climb_sound : (types : Names) (d least : ℕ) (inner : Inner) (inner_type : InnerType) → IsSound types d inner → 0 < least → (f : ℕ) (start : List Terminal) (a r : ReadExpression) → Left types (suc d) least start a → climb types inner inner_type (suc d) least f a ≡ Ok r → Sound types (suc d) least start r
unfolding climb join
climb_sound types d least inner inner_type sound pos zero start a r left e = absurd cc
climb_sound types d least inner inner_type sound pos (suc f) start a r left e =
    elim (chosen (ltb (precedence (plain_at a.rest)) least) _ _ _ e) [
      | inl h ↦
          let stops = ltb-true _ _ h.0 in
          subst (Sound types (suc d) least start) (ok_is a r h.1) (record { spelled = left.spelled; layered = left.layered; tall = left.tall; shallow = left.shallow; stops = stops })
      | inr h ↦
          let le = ltb-false _ _ h.0 in
          elim (chosen (ltb a.height (suc d)) _ _ _ h.1) [
            | inl g ↦
                let b = bind_ok (join types inner inner_type a) (climb types inner inner_type (suc d) least f) r g.1 in
                climb_sound types d least inner inner_type sound pos f start b.0 r (join_left types d least inner inner_type sound (operator_of (plain_at a.rest)) start a b.0 left (ltb-true _ _ g.0) pos le refl b.1) b.2
            | inr g ↦ absurd (let bad = g.1 in cc)
          ]
    ]

whole_sound : (types : Names) (d least : ℕ) (inner : Inner) (inner_type : InnerType) → IsSound types d inner → IsSoundType types d inner_type → 0 < least → least < 13 → (ts : List Terminal) (r : ReadExpression) → whole types inner inner_type (suc d) least ts ≡ Ok r → Sound types (suc d) least ts r
unfolding whole unary
whole_sound types d least inner inner_type sound sound_type pos lt ts r e =
    let b = bind_ok (unary types inner inner_type (suc d) ts) (climb types inner inner_type (suc d) least (suc d)) r e in
    let left = unary_left_by types d least inner inner_type sound sound_type lt (prefix_of (plain_at ts)) ts b.0 refl b.1 in
    climb_sound types d least inner inner_type sound pos (suc d) ts b.0 r left b.2

pub read_sound : (types : Names) (d : ℕ) → IsSound types d (read_expression types d)
unfolding read_expression
read_sound types zero least ts r pos lt e = absurd cc
read_sound types (suc d) least ts r pos lt e = whole_sound types d least (read_expression types d) (read_type types d) (read_sound types d) (read_type_sound types d) pos lt ts r e
