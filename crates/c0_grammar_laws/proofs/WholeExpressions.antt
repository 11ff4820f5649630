-- Where reading an expression meets a fault, the tokens before it begin an expression.
use Rattle.std.proofs.Common.{◌≡◌, ℕ, zero, suc, ◌<◌, ◌≤◌, ◌⊎◌, max, ltb, List, [], ◌∷◌, length, Option, Some, None, Ok, Err, refl, ap, subst, inl, inr, arith}
use Rattle.std.proofs.lemmas.Bool.{ltb-true, ltb-false}
use Rattle.c0_source.specs.declared.kind.Base.TheVariants as b
use Rattle.c0_source.specs.declared.kind.Kind.{Kind}
use Rattle.c0_source.specs.declared.kind.Kind.TheVariants as k
use Rattle.c0_source.specs.declared.kind.Operator.{Operator}
use Rattle.c0_syntax.specs.declared.operator.PrefixOperator.{PrefixOperator}
use Rattle.c0_source.specs.Terminals.{Terminal, Word, Sign}
use Rattle.c0_syntax.specs.Trees.{Basic, Expression, Number, Parenthesized, Call, Alloc, AllocArray, Length, Index, Field, PointerField, Unary, Binary, Conditional, Expressions, none, more}
use Rattle.c0_syntax.specs.Expressions.{emit_expression, emit_arguments, prefix_sign, operator_precedence, precedence, FormedExpression, FormedArguments, height_expression, height_arguments}
use Rattle.c0_grammar_laws.specs.declared.read_error.ReadError.{ReadError}
use Rattle.c0_grammar_laws.specs.Outcome.{Outcome, ◌>>=◌, refuse, too_deep, kind_at, plain_at, bytes_at, next, lparen, rparen, rbracket, comma, colon, any_name}
use Rattle.c0_grammar_laws.specs.ReadExpressions.{ReadType, ReadExpression, ReadArguments, add_first, read_type, prefix_of, operator_of, after_argument, arguments, arguments_by, named_by, parenthesized, alloc, alloc_array, length_of, primary_by, primary, index, field, pointer_field, postfix_by, postfix, unary_by, unary, join_by, join, climb, whole, read_expression}
use Rattle.c0_grammar_laws.proofs.Basics.{IsSign, sign_at, kind_sign, free_at, lparen_ok, comma_ok, colon_ok}
use Rattle.c0_grammar_laws.proofs.Types.{read_type_sound}
use Rattle.c0_grammar_laws.proofs.Turns.{Names, Inner, InnerType, precedence_lt, weaker}
use Rattle.c0_grammar_laws.proofs.Sound.{prefix_is, operator_is, question_is, left_of, Spans, IsSound, IsSoundType, Left, index_spans, field_spans, through_spans, primary_spans_by, unary_left_by, join_left, read_sound}
use Rattle.c0_grammar_laws.proofs.Whole.{failed, bind_err, chosen_err, NotLarge, Goes, at_refuse, at_deep, lparen_stops, rparen_stops, rbracket_stops, comma_stops, colon_stops, any_name_stops, step, along, under_type, under_expression}
use Rattle.c0_grammar_laws.proofs.WholeTypes.{IsWholeType, type_whole}

-- an expression that goes on with `end`, and whose tokens are these up to the fault
pub record WholeExpression (types : Names) (d least : ℕ) (e : ReadError) (ts end : List Terminal) : Type 0 where
  pub tree : Expression
  pub layered : FormedExpression types least tree
  pub low : height_expression tree ≤ suc d
  pub plain : NotLarge e
  pub goes : Goes e ts (emit_expression tree end)

abbrev pub IsWhole : Names → ℕ → Inner → Type 0
IsWhole types d inner = (least : ℕ) (e : ReadError) (ts : List Terminal) → 0 < least → least < 13 → inner least ts ≡ Err e → (end : List Terminal) → WholeExpression types d least e ts end

-- one argument or more, and the closing parenthesis
record WholeArguments (types : Names) (d : ℕ) (e : ReadError) (ts end : List Terminal) : Type 0 where
  head : Expression
  tail : Expressions
  layered : FormedArguments types (more head tail)
  low : height_arguments (more head tail) ≤ suc d
  plain : NotLarge e
  goes : Goes e ts (emit_arguments (more head tail) end)

-- the others: reading with at most `d` levels, and that it is sound and meets its faults behind what begins an expression
module _ (types : Names) (d : ℕ) (inner : Inner) (inner_type : InnerType) (sound : IsSound types d inner) (sound_type : IsSoundType types d inner_type) (wholly : IsWhole types d inner) (wholly_type : IsWholeType types d inner_type) (e : ReadError) where
  -- an operand of a tree of one level more
  abbrev Primary : List Terminal → List Terminal → Type 0
  Primary ts end = WholeExpression types (suc d) 13 e ts end

  -- an expression that was read, and its closing sign that is missing
  inside_whole : (ts end : List Terminal) → kind_at types ts ≡ k.LParen → parenthesized types inner inner_type (next ts) ≡ Err e → Primary ts end
  unfolding parenthesized
  inside_whole ts end is h =
      let begun = kind_sign types ts k.LParen is tt in
      elim (bind_err (inner 1 (next ts)) (λ x. rparen x.rest >>= λ rest. Ok (record { tree = Parenthesized x.tree; height = suc x.height; rest = rest })) e h) [
        | inl g ↦
            let w = wholly 1 e (next ts) (omega arith) (omega arith) g (Sign k.RParen ∷ end) in
            record { tree = Parenthesized w.tree; layered = w.layered; low = omega (arith, w.low); plain = w.plain; goes = along begun (step (Sign k.LParen) w.goes) }
        | inr g ↦
            let s = sound 1 (next ts) g.0 (omega arith) (omega arith) g.1 in
            elim (bind_err (rparen g.0.rest) (λ rest. Ok (record { tree = Parenthesized g.0.tree; height = suc g.0.height; rest = rest })) e g.2) [
              | inl r ↦
                  let c = rparen_stops e g.0.rest (Sign k.RParen ∷ end) r in
                  record { tree = Parenthesized g.0.tree; layered = s.layered; low = omega (arith, s.shallow); plain = c.0; goes = along begun (step (Sign k.LParen) (along s.spelled (under_expression g.0.tree c.1))) }
              | inr r ↦ absurd (let bad = r.2 in cc)
            ]
      ]

  length_whole : (ts end : List Terminal) → kind_at types ts ≡ k.Length → length_of types inner inner_type (next ts) ≡ Err e → Primary ts end
  unfolding length_of
  length_whole ts end is h =
      let begun = kind_sign types ts k.Length is tt in
      elim (bind_err (lparen (next ts)) (λ us. inner 1 us >>= λ x. rparen x.rest >>= λ rest. Ok (record { tree = Length x.tree; height = suc x.height; rest = rest })) e h) [
        | inl g ↦
            let c = lparen_stops e (next ts) (Sign k.LParen ∷ Sign (k.Number 0) ∷ Sign k.RParen ∷ end) g in
            record { tree = Length (Number 0); layered = tt; low = omega arith; plain = c.0; goes = along begun (step (Sign k.Length) c.1) }
        | inr a ↦
            let opened = lparen_ok (next ts) a.0 a.1 in
            elim (bind_err (inner 1 a.0) (λ x. rparen x.rest >>= λ rest. Ok (record { tree = Length x.tree; height = suc x.height; rest = rest })) e a.2) [
              | inl g ↦
                  let w = wholly 1 e a.0 (omega arith) (omega arith) g (Sign k.RParen ∷ end) in
                  record { tree = Length w.tree; layered = w.layered; low = omega (arith, w.low); plain = w.plain; goes = along begun (step (Sign k.Length) (along opened (step (Sign k.LParen) w.goes))) }
              | inr g ↦
                  let s = sound 1 a.0 g.0 (omega arith) (omega arith) g.1 in
                  elim (bind_err (rparen g.0.rest) (λ rest. Ok (record { tree = Length g.0.tree; height = suc g.0.height; rest = rest })) e g.2) [
                    | inl r ↦
                        let c = rparen_stops e g.0.rest (Sign k.RParen ∷ end) r in
                        record { tree = Length g.0.tree; layered = s.layered; low = omega (arith, s.shallow); plain = c.0; goes = along begun (step (Sign k.Length) (along opened (step (Sign k.LParen) (along s.spelled (under_expression g.0.tree c.1))))) }
                    | inr r ↦ absurd (let bad = r.2 in cc)
                  ]
            ]
      ]

  alloc_whole : (ts end : List Terminal) → kind_at types ts ≡ k.Alloc → alloc types inner inner_type (next ts) ≡ Err e → Primary ts end
  unfolding alloc
  alloc_whole ts end is h =
      let begun = kind_sign types ts k.Alloc is tt in
      elim (bind_err (lparen (next ts)) (λ us. inner_type us >>= λ t. rparen t.rest >>= λ rest. Ok (record { tree = Alloc t.value_type; height = suc t.height; rest = rest })) e h) [
        | inl g ↦
            let c = lparen_stops e (next ts) (Sign k.LParen ∷ Sign (k.Base b.Int) ∷ Sign k.RParen ∷ end) g in
            record { tree = Alloc (Basic b.Int); layered = tt; low = omega arith; plain = c.0; goes = along begun (step (Sign k.Alloc) c.1) }
        | inr a ↦
            let opened = lparen_ok (next ts) a.0 a.1 in
            elim (bind_err (inner_type a.0) (λ t. rparen t.rest >>= λ rest. Ok (record { tree = Alloc t.value_type; height = suc t.height; rest = rest })) e a.2) [
              | inl g ↦
                  let w = wholly_type e a.0 g (Sign k.RParen ∷ end) in
                  record { tree = Alloc w.tree; layered = w.formed; low = omega (arith, w.low); plain = w.plain; goes = along begun (step (Sign k.Alloc) (along opened (step (Sign k.LParen) w.goes))) }
              | inr g ↦
                  let s = (sound_type a.0 g.0 g.1).spans in
                  elim (bind_err (rparen g.0.rest) (λ rest. Ok (record { tree = Alloc g.0.value_type; height = suc g.0.height; rest = rest })) e g.2) [
                    | inl r ↦
                        let c = rparen_stops e g.0.rest (Sign k.RParen ∷ end) r in
                        record { tree = Alloc g.0.value_type; layered = s.formed; low = omega (arith, s.shallow); plain = c.0; goes = along begun (step (Sign k.Alloc) (along opened (step (Sign k.LParen) (along s.spelled (under_type g.0.value_type c.1))))) }
                    | inr r ↦ absurd (let bad = r.2 in cc)
                  ]
            ]
      ]

  -- behind the comma of `alloc_array`
  count_whole : (t : ReadType) (ts end : List Terminal) → (inner 1 ts >>= λ x. rparen x.rest >>= λ rest. Ok (record { tree = AllocArray t.value_type x.tree; height = suc (max t.height x.height); rest = rest })) ≡ failed ReadExpression e → WholeExpression types d 1 e ts (Sign k.RParen ∷ end)
  count_whole t ts end h =
      elim (bind_err (inner 1 ts) (λ x. rparen x.rest >>= λ rest. Ok (record { tree = AllocArray t.value_type x.tree; height = suc (max t.height x.height); rest = rest })) e h) [
        | inl g ↦ wholly 1 e ts (omega arith) (omega arith) g (Sign k.RParen ∷ end)
        | inr g ↦
            let s = sound 1 ts g.0 (omega arith) (omega arith) g.1 in
            elim (bind_err (rparen g.0.rest) (λ rest. Ok (record { tree = AllocArray t.value_type g.0.tree; height = suc (max t.height g.0.height); rest = rest })) e g.2) [
              | inl r ↦
                  let c = rparen_stops e g.0.rest (Sign k.RParen ∷ end) r in
                  record { tree = g.0.tree; layered = s.layered; low = omega (arith, s.shallow); plain = c.0; goes = along s.spelled (under_expression g.0.tree c.1) }
              | inr r ↦ absurd (let bad = r.2 in cc)
            ]
      ]

  alloc_array_whole : (ts end : List Terminal) → kind_at types ts ≡ k.AllocArray → alloc_array types inner inner_type (next ts) ≡ Err e → Primary ts end
  unfolding alloc_array
  alloc_array_whole ts end is h =
      let begun = kind_sign types ts k.AllocArray is tt in
      elim (bind_err (lparen (next ts)) (λ us. inner_type us >>= λ t. comma t.rest >>= λ vs. inner 1 vs >>= λ x. rparen x.rest >>= λ rest. Ok (record { tree = AllocArray t.value_type x.tree; height = suc (max t.height x.height); rest = rest })) e h) [
        | inl g ↦
            let c = lparen_stops e (next ts) (Sign k.LParen ∷ Sign (k.Base b.Int) ∷ Sign k.Comma ∷ Sign (k.Number 0) ∷ Sign k.RParen ∷ end) g in
            record { tree = AllocArray (Basic b.Int) (Number 0); layered = (tt, tt); low = omega arith; plain = c.0; goes = along begun (step (Sign k.AllocArray) c.1) }
        | inr a ↦
            let opened = lparen_ok (next ts) a.0 a.1 in
            elim (bind_err (inner_type a.0) (λ t. comma t.rest >>= λ vs. inner 1 vs >>= λ x. rparen x.rest >>= λ rest. Ok (record { tree = AllocArray t.value_type x.tree; height = suc (max t.height x.height); rest = rest })) e a.2) [
              | inl g ↦
                  let w = wholly_type e a.0 g (Sign k.Comma ∷ Sign (k.Number 0) ∷ Sign k.RParen ∷ end) in
                  record { tree = AllocArray w.tree (Number 0); layered = (w.formed, tt); low = omega (arith, w.low); plain = w.plain; goes = along begun (step (Sign k.AllocArray) (along opened (step (Sign k.LParen) w.goes))) }
              | inr g ↦
                  let s = (sound_type a.0 g.0 g.1).spans in
                  elim (bind_err (comma g.0.rest) (λ vs. inner 1 vs >>= λ x. rparen x.rest >>= λ rest. Ok (record { tree = AllocArray g.0.value_type x.tree; height = suc (max g.0.height x.height); rest = rest })) e g.2) [
                    | inl r ↦
                        let c = comma_stops e g.0.rest (Sign k.Comma ∷ Sign (k.Number 0) ∷ Sign k.RParen ∷ end) r in
                        record { tree = AllocArray g.0.value_type (Number 0); layered = (s.formed, tt); low = omega (arith, s.shallow); plain = c.0; goes = along begun (step (Sign k.AllocArray) (along opened (step (Sign k.LParen) (along s.spelled (under_type g.0.value_type c.1))))) }
                    | inr r ↦
                        let between = comma_ok g.0.rest r.0 r.1 in
                        let w = count_whole g.0 r.0 end r.2 in
                        record { tree = AllocArray g.0.value_type w.tree; layered = (s.formed, w.layered); low = omega (arith, s.shallow, w.low); plain = w.plain; goes = along begun (step (Sign k.AllocArray) (along opened (step (Sign k.LParen) (along s.spelled (under_type g.0.value_type (along between (step (Sign k.Comma) w.goes))))))) }
                  ]
            ]
      ]

  -- ---- behind an expression

  index_whole : (start end : List Terminal) (a : ReadExpression) → Spans types (suc d) 13 start a → a.height < suc d → plain_at a.rest ≡ k.LBracket → index types inner inner_type a ≡ Err e → Primary start end
  index_whole start end a left lt is h =
      let opened = sign_at a.rest k.LBracket is tt in
      let low : height_expression a.tree < suc d = omega (arith, left.tall) in
      elim (bind_err (inner 1 (next a.rest)) (λ i. rbracket i.rest >>= λ rest. Ok (record { tree = Index a.tree i.tree; height = suc (max a.height i.height); rest = rest })) e h) [
        | inl g ↦
            let w = wholly 1 e (next a.rest) (omega arith) (omega arith) g (Sign k.RBracket ∷ end) in
            record { tree = Index a.tree w.tree; layered = (left.layered, w.layered); low = omega (arith, w.low); plain = w.plain; goes = along left.spelled (under_expression a.tree (along opened (step (Sign k.LBracket) w.goes))) }
        | inr g ↦
            let s = sound 1 (next a.rest) g.0 (omega arith) (omega arith) g.1 in
            elim (bind_err (rbracket g.0.rest) (λ rest. Ok (record { tree = Index a.tree g.0.tree; height = suc (max a.height g.0.height); rest = rest })) e g.2) [
              | inl r ↦
                  let c = rbracket_stops e g.0.rest (Sign k.RBracket ∷ end) r in
                  record { tree = Index a.tree g.0.tree; layered = (left.layered, s.layered); low = omega (arith, s.shallow); plain = c.0; goes = along left.spelled (under_expression a.tree (along opened (step (Sign k.LBracket) (along s.spelled (under_expression g.0.tree c.1))))) }
              | inr r ↦ absurd (let bad = r.2 in cc)
            ]
      ]

  field_whole : (start end : List Terminal) (a : ReadExpression) → Spans types (suc d) 13 start a → a.height < suc d → plain_at a.rest ≡ k.Dot → field types inner inner_type a ≡ Err e → Primary start end
  field_whole start end a left lt is h =
      let opened = sign_at a.rest k.Dot is tt in
      let low : height_expression a.tree < suc d = omega (arith, left.tall) in
      elim (bind_err (any_name (next a.rest)) (λ x. Ok (record { tree = Field a.tree x.value; height = suc a.height; rest = x.rest })) e h) [
        | inl g ↦
            let c = any_name_stops e (next a.rest) (Word [] ∷ end) g in
            record { tree = Field a.tree []; layered = left.layered; low = omega arith; plain = c.0; goes = along left.spelled (under_expression a.tree (along opened (step (Sign k.Dot) c.1))) }
        | inr g ↦ absurd (let bad = g.2 in cc)
      ]

  through_whole : (start end : List Terminal) (a : ReadExpression) → Spans types (suc d) 13 start a → a.height < suc d → plain_at a.rest ≡ k.Arrow → pointer_field types inner inner_type a ≡ Err e → Primary start end
  through_whole start end a left lt is h =
      let opened = sign_at a.rest k.Arrow is tt in
      let low : height_expression a.tree < suc d = omega (arith, left.tall) in
      elim (bind_err (any_name (next a.rest)) (λ x. Ok (record { tree = PointerField a.tree x.value; height = suc a.height; rest = x.rest })) e h) [
        | inl g ↦
            let c = any_name_stops e (next a.rest) (Word [] ∷ end) g in
            record { tree = PointerField a.tree []; layered = left.layered; low = omega arith; plain = c.0; goes = along left.spelled (under_expression a.tree (along opened (step (Sign k.Arrow) c.1))) }
        | inr g ↦ absurd (let bad = g.2 in cc)
      ]

  -- one more step that fails, or one level too many
  postfix_err : (limit : ℕ) (go_on : ReadExpression → Outcome ReadExpression) (kind : Kind) (a : ReadExpression) → postfix_by types inner inner_type limit go_on kind a ≡ Err e
      → ((kind ≡ k.LBracket) × (a.height < limit) × ((index types inner inner_type a >>= go_on) ≡ Err e))
      ⊎ (((kind ≡ k.Dot) × (a.height < limit) × ((field types inner inner_type a >>= go_on) ≡ Err e))
      ⊎ (((kind ≡ k.Arrow) × (a.height < limit) × ((pointer_field types inner inner_type a >>= go_on) ≡ Err e)) ⊎ (too_deep {A = ReadExpression} a.rest ≡ Err e)))
  postfix_err limit go_on k.LBracket a h =
      elim (chosen_err (ltb a.height limit) _ _ _ h) [
        | inl g ↦ inl (refl, ltb-true _ _ g.0, g.1)
        | inr g ↦ inr (inr (inr g.1))
      ]
  postfix_err limit go_on k.Dot a h =
      elim (chosen_err (ltb a.height limit) _ _ _ h) [
        | inl g ↦ inr (inl (refl, ltb-true _ _ g.0, g.1))
        | inr g ↦ inr (inr (inr g.1))
      ]
  postfix_err limit go_on k.Arrow a h =
      elim (chosen_err (ltb a.height limit) _ _ _ h) [
        | inl g ↦ inr (inr (inl (refl, ltb-true _ _ g.0, g.1)))
        | inr g ↦ inr (inr (inr g.1))
      ]
  postfix_err limit go_on _ a h = absurd cc

  deep_whole : (start end : List Terminal) (a : ReadExpression) → Spans types (suc d) 13 start a → too_deep {A = ReadExpression} a.rest ≡ Err e → Primary start end
  deep_whole start end a left h =
      let c = at_deep {A = ReadExpression} e a.rest end h in
      record { tree = a.tree; layered = left.layered; low = omega (arith, left.shallow); plain = c.0; goes = along left.spelled (under_expression a.tree c.1) }

  postfix_whole : (f : ℕ) (start end : List Terminal) (a : ReadExpression) → Spans types (suc d) 13 start a → postfix types inner inner_type (suc d) f a ≡ Err e → Primary start end
  unfolding postfix
  postfix_whole zero start end a left h = deep_whole start end a left h
  postfix_whole (suc f) start end a left h =
      elim (postfix_err (suc d) (postfix types inner inner_type (suc d) f) (plain_at a.rest) a h) [
        | inl g ↦ elim (bind_err (index types inner inner_type a) (postfix types inner inner_type (suc d) f) e g.2) [
          | inl r ↦ index_whole start end a left g.1 g.0 r
          | inr r ↦ postfix_whole f start end r.0 (index_spans types d inner inner_type sound start a r.0 left g.1 g.0 r.1) r.2
        ]
        | inr (inl g) ↦ elim (bind_err (field types inner inner_type a) (postfix types inner inner_type (suc d) f) e g.2) [
          | inl r ↦ field_whole start end a left g.1 g.0 r
          | inr r ↦ postfix_whole f start end r.0 (field_spans types d inner inner_type start a r.0 left g.1 g.0 r.1) r.2
        ]
        | inr (inr (inl g)) ↦ elim (bind_err (pointer_field types inner inner_type a) (postfix types inner inner_type (suc d) f) e g.2) [
          | inl r ↦ through_whole start end a left g.1 g.0 r
          | inr r ↦ postfix_whole f start end r.0 (through_spans types d inner inner_type start a r.0 left g.1 g.0 r.1) r.2
        ]
        | inr (inr (inr g)) ↦ deep_whole start end a left g
      ]

  -- ---- arguments

  -- behind an argument
  after_err : (others : List Terminal → Outcome ReadArguments) (kind : Kind) (x : ReadExpression) → after_argument types inner inner_type others kind x ≡ Err e
      → ((kind ≡ k.Comma) × ((others (next x.rest) >>= λ xs. Ok (add_first x xs)) ≡ Err e)) ⊎ (refuse {A = ReadArguments} x.rest ≡ Err e)
  after_err others k.Comma x h = inl (refl, h)
  after_err others k.RParen x h = absurd cc
  after_err others _ x h = inr h

  arguments_whole : (n : ℕ) (ts end : List Terminal) → arguments types inner inner_type n ts ≡ Err e → WholeArguments types d e ts end
  unfolding arguments
  arguments_whole zero ts end h =
      let c = at_refuse {A = ReadArguments} e ts (Sign (k.Number 0) ∷ Sign k.RParen ∷ end) h in
      record { head = Number 0; tail = none; layered = (tt, tt); low = omega arith; plain = c.0; goes = c.1 }
  arguments_whole (suc n) ts end h =
      elim (bind_err (inner 1 ts) (λ x. after_argument types inner inner_type (arguments types inner inner_type n) (plain_at x.rest) x) e h) [
        | inl g ↦
            let w = wholly 1 e ts (omega arith) (omega arith) g (Sign k.RParen ∷ end) in
            record { head = w.tree; tail = none; layered = (w.layered, tt); low = omega (arith, w.low); plain = w.plain; goes = w.goes }
        | inr g ↦
            let s = sound 1 ts g.0 (omega arith) (omega arith) g.1 in
            elim (after_err (arguments types inner inner_type n) (plain_at g.0.rest) g.0 g.2) [
              | inl r ↦ elim (bind_err (arguments types inner inner_type n (next g.0.rest)) (λ xs. Ok (add_first g.0 xs)) e r.1) [
                | inl q ↦
                    let w = arguments_whole n (next g.0.rest) end q in
                    let comma = sign_at g.0.rest k.Comma r.0 tt in
                    record { head = g.0.tree; tail = more w.head w.tail; layered = (s.layered, w.layered); low = omega (arith, s.shallow, w.low); plain = w.plain; goes = along s.spelled (under_expression g.0.tree (along comma (step (Sign k.Comma) w.goes))) }
                | inr q ↦ absurd (let bad = q.2 in cc)
              ]
              | inr r ↦
                  let c = at_refuse {A = ReadArguments} e g.0.rest (Sign k.RParen ∷ end) r in
                  record { head = g.0.tree; tail = none; layered = (s.layered, tt); low = omega (arith, s.shallow); plain = c.0; goes = along s.spelled (under_expression g.0.tree c.1) }
            ]
      ]

  arguments_by_err : (kind : Kind) (ts : List Terminal) → arguments_by types inner inner_type kind ts ≡ Err e → arguments types inner inner_type (length ts) ts ≡ Err e
  arguments_by_err k.RParen ts h = absurd cc
  arguments_by_err _ ts h = h

  named_err : (kind : Kind) (x : List ℕ) (ts : List Terminal) → named_by types inner inner_type kind x ts ≡ Err e
      → (kind ≡ k.LParen) × ((arguments_by types inner inner_type (plain_at (next ts)) (next ts) >>= λ es. Ok (record { tree = Call x es.trees; height = suc es.height; rest = es.rest })) ≡ failed ReadExpression e)
  named_err k.LParen x ts h = (refl, h)
  named_err _ x ts h = absurd cc

  named_whole : (ts end : List Terminal) → kind_at types ts ≡ k.Name → named_by types inner inner_type (plain_at (next ts)) (bytes_at ts) (next ts) ≡ Err e → Primary ts end
  named_whole ts end is h =
      let word = free_at types ts is in
      let g = named_err (plain_at (next ts)) (bytes_at ts) (next ts) h in
      let us = next (next ts) in
      let opened = sign_at (next ts) k.LParen g.0 tt in
      elim (bind_err (arguments_by types inner inner_type (plain_at us) us) (λ es. Ok (record { tree = Call (bytes_at ts) es.trees; height = suc es.height; rest = es.rest })) e g.1) [
        | inl r ↦
            let w = arguments_whole (length us) us end (arguments_by_err (plain_at us) us r) in
            record { tree = Call (bytes_at ts) (more w.head w.tail); layered = (word.1, w.layered); low = omega (arith, w.low); plain = w.plain; goes = along word.0 (step (Word (bytes_at ts)) (along opened (step (Sign k.LParen) w.goes))) }
        | inr r ↦ absurd (let bad = r.2 in cc)
      ]

  -- ---- operands

  primary_whole : (kind : Kind) (ts end : List Terminal) → kind_at types ts ≡ kind → primary_by types inner inner_type kind ts ≡ Err e → Primary ts end
  primary_whole (k.Number n) ts end is h = absurd cc
  primary_whole (k.Character x) ts end is h = absurd cc
  primary_whole (k.Truth x) ts end is h = absurd cc
  primary_whole k.Null ts end is h = absurd cc
  primary_whole k.Text ts end is h = absurd cc
  primary_whole k.Result ts end is h = absurd cc
  primary_whole k.Name ts end is h = named_whole ts end is h
  primary_whole k.LParen ts end is h = inside_whole ts end is h
  primary_whole k.Alloc ts end is h = alloc_whole ts end is h
  primary_whole k.AllocArray ts end is h = alloc_array_whole ts end is h
  primary_whole k.Length ts end is h = length_whole ts end is h
  primary_whole _ ts end is h =
      let c = at_refuse {A = ReadExpression} e ts (Sign (k.Number 0) ∷ end) h in
      record { tree = Number 0; layered = tt; low = omega arith; plain = c.0; goes = c.1 }

  weak_whole : (least : ℕ) (ts end : List Terminal) → least < 13 → Primary ts end → WholeExpression types (suc d) least e ts end
  weak_whole least ts end lt w = record { tree = w.tree; layered = weaker types w.tree least 13 (omega arith) w.layered; low = w.low; plain = w.plain; goes = w.goes }

  unary_whole : (least : ℕ) → least < 13 → (o : Option PrefixOperator) (ts end : List Terminal) → prefix_of (plain_at ts) ≡ o → unary_by types inner inner_type (suc d) o ts ≡ Err e → WholeExpression types (suc d) least e ts end
  unfolding primary
  unary_whole least lt (Some u) ts end is h =
      let q = prefix_is (plain_at ts) u is in
      let begun = sign_at ts (prefix_sign u) q.0 (subst IsSign q.0 q.1) in
      elim (bind_err (inner 12 (next ts)) (λ a. Ok (record { tree = Unary u a.tree; height = suc a.height; rest = a.rest })) e h) [
        | inl g ↦
            let w = wholly 12 e (next ts) (omega arith) (omega arith) g end in
            record { tree = Unary u w.tree; layered = (omega arith, w.layered); low = omega (arith, w.low); plain = w.plain; goes = along begun (step (Sign (prefix_sign u)) w.goes) }
        | inr g ↦ absurd (let bad = g.2 in cc)
      ]
  unary_whole least lt None ts end is h =
      elim (bind_err (primary types inner inner_type ts) (postfix types inner inner_type (suc d) (suc d)) e h) [
        | inl g ↦ weak_whole least ts end lt (primary_whole (kind_at types ts) ts end refl g)
        | inr g ↦ weak_whole least ts end lt (postfix_whole (suc d) ts end g.0 (primary_spans_by types d inner inner_type sound sound_type (kind_at types ts) ts g.0 refl g.1) g.2)
      ]

  -- ---- operators

  -- the second and the third operand of `? :`
  arms_whole : (least : ℕ) (start end : List Terminal) (c : ReadExpression) → Left types (suc d) least start c → c.height < suc d → 0 < least → least ≤ precedence (plain_at c.rest) → plain_at c.rest ≡ k.Question
      → (inner 1 (next c.rest) >>= λ a. colon a.rest >>= λ us. inner 1 us >>= λ y. Ok (record { tree = Conditional c.tree a.tree y.tree; height = suc (max c.height (max a.height y.height)); rest = y.rest })) ≡ failed ReadExpression e
      → WholeExpression types (suc d) least e start end
  arms_whole least start end c left lt pos le q h =
      let begun = sign_at c.rest k.Question q tt in
      let layered_c : FormedExpression types 2 c.tree = subst (λ (m : ℕ). FormedExpression types m c.tree) (ap left_of q) left.before in
      let one : precedence (plain_at c.rest) ≡ 1 = ap precedence q in
      let low : height_expression c.tree < suc d = omega (arith, left.tall) in
      elim (bind_err (inner 1 (next c.rest)) (λ a. colon a.rest >>= λ us. inner 1 us >>= λ y. Ok (record { tree = Conditional c.tree a.tree y.tree; height = suc (max c.height (max a.height y.height)); rest = y.rest })) e h) [
        | inl g ↦
            let w = wholly 1 e (next c.rest) (omega arith) (omega arith) g (Sign k.Colon ∷ Sign (k.Number 0) ∷ end) in
            record { tree = Conditional c.tree w.tree (Number 0); layered = (omega (arith, one), layered_c, w.layered, tt); low = omega (arith, w.low); plain = w.plain; goes = along left.spelled (under_expression c.tree (along begun (step (Sign k.Question) w.goes))) }
        | inr g ↦
            let s = sound 1 (next c.rest) g.0 (omega arith) (omega arith) g.1 in
            elim (bind_err (colon g.0.rest) (λ us. inner 1 us >>= λ y. Ok (record { tree = Conditional c.tree g.0.tree y.tree; height = suc (max c.height (max g.0.height y.height)); rest = y.rest })) e g.2) [
              | inl r ↦
                  let s2 = colon_stops e g.0.rest (Sign k.Colon ∷ Sign (k.Number 0) ∷ end) r in
                  record { tree = Conditional c.tree g.0.tree (Number 0); layered = (omega (arith, one), layered_c, s.layered, tt); low = omega (arith, s.shallow); plain = s2.0; goes = along left.spelled (under_expression c.tree (along begun (step (Sign k.Question) (along s.spelled (under_expression g.0.tree s2.1))))) }
              | inr r ↦ elim (bind_err (inner 1 r.0) (λ y. Ok (record { tree = Conditional c.tree g.0.tree y.tree; height = suc (max c.height (max g.0.height y.height)); rest = y.rest })) e r.2) [
                | inl p ↦
                    let w = wholly 1 e r.0 (omega arith) (omega arith) p end in
                    let between = colon_ok g.0.rest r.0 r.1 in
                    record { tree = Conditional c.tree g.0.tree w.tree; layered = (omega (arith, one), layered_c, s.layered, w.layered); low = omega (arith, s.shallow, w.low); plain = w.plain; goes = along left.spelled (under_expression c.tree (along begun (step (Sign k.Question) (along s.spelled (under_expression g.0.tree (along between (step (Sign k.Colon) w.goes))))))) }
                | inr p ↦ absurd (let bad = p.2 in cc)
              ]
            ]
      ]

  join_whole : (least : ℕ) (o : Option Operator) (start end : List Terminal) (a : ReadExpression) → Left types (suc d) least start a → a.height < suc d → 0 < least → least ≤ precedence (plain_at a.rest)
      → operator_of (plain_at a.rest) ≡ o → join_by types inner inner_type o a ≡ Err e → WholeExpression types (suc d) least e start end
  join_whole least (Some op) start end a left lt pos le is h =
      let q = operator_is (plain_at a.rest) op is in
      let begun = sign_at a.rest (k.Infix op) q tt in
      let same : precedence (plain_at a.rest) ≡ operator_precedence op = ap precedence q in
      let layered_a : FormedExpression types (operator_precedence op) a.tree = subst (λ (m : ℕ). FormedExpression types m a.tree) (ap left_of q) left.before in
      let low : height_expression a.tree < suc d = omega (arith, left.tall) in
      elim (bind_err (inner (suc (operator_precedence op)) (next a.rest)) (λ x. Ok (record { tree = Binary op a.tree x.tree; height = suc (max a.height x.height); rest = x.rest })) e h) [
        | inl g ↦
            let w = wholly (suc (operator_precedence op)) e (next a.rest) (omega arith) (omega (arith, precedence_lt op)) g end in
            record { tree = Binary op a.tree w.tree; layered = (omega (arith, same), layered_a, w.layered); low = omega (arith, w.low); plain = w.plain; goes = along left.spelled (under_expression a.tree (along begun (step (Sign (k.Infix op)) w.goes))) }
        | inr g ↦ absurd (let bad = g.2 in cc)
      ]
  join_whole least None start end a left lt pos le is h = arms_whole least start end a left lt pos le (question_is (plain_at a.rest) is (omega arith)) h

  climb_whole : (least : ℕ) → 0 < least → (f : ℕ) (start end : List Terminal) (a : ReadExpression) → Left types (suc d) least start a → climb types inner inner_type (suc d) least f a ≡ Err e → WholeExpression types (suc d) least e start end
  unfolding climb join
  climb_whole least pos zero start end a left h =
      let c = at_deep {A = ReadExpression} e a.rest end h in
      record { tree = a.tree; layered = left.layered; low = omega (arith, left.shallow); plain = c.0; goes = along left.spelled (under_expression a.tree c.1) }
  climb_whole least pos (suc f) start end a left h =
      elim (chosen_err (ltb (precedence (plain_at a.rest)) least) _ _ _ h) [
        | inl g ↦ absurd (let bad = g.1 in cc)
        | inr g ↦
            let le = ltb-false _ _ g.0 in
            elim (chosen_err (ltb a.height (suc d)) _ _ _ g.1) [
              | inl r ↦ elim (bind_err (join types inner inner_type a) (climb types inner inner_type (suc d) least f) e r.1) [
                | inl q ↦ join_whole least (operator_of (plain_at a.rest)) start end a left (ltb-true _ _ r.0) pos le refl q
                | inr q ↦ climb_whole least pos f start end q.0 (join_left types d least inner inner_type sound (operator_of (plain_at a.rest)) start a q.0 left (ltb-true _ _ r.0) pos le refl q.1) q.2
              ]
              | inr r ↦
                  let c = at_deep {A = ReadExpression} e a.rest end r.1 in
                  record { tree = a.tree; layered = left.layered; low = omega (arith, left.shallow); plain = c.0; goes = along left.spelled (under_expression a.tree c.1) }
            ]
      ]

  operators_whole : (least : ℕ) → 0 < least → least < 13 → (ts end : List Terminal) → whole types inner inner_type (suc d) least ts ≡ Err e → WholeExpression types (suc d) least e ts end
  unfolding whole unary
  operators_whole least pos lt ts end h =
      elim (bind_err (unary types inner inner_type (suc d) ts) (climb types inner inner_type (suc d) least (suc d)) e h) [
        | inl g ↦ unary_whole least lt (prefix_of (plain_at ts)) ts end refl g
        | inr g ↦ climb_whole least pos (suc d) ts end g.0 (unary_left_by types d least inner inner_type sound sound_type lt (prefix_of (plain_at ts)) ts g.0 refl g.1) g.2
      ]

pub expression_whole : (types : Names) (d : ℕ) → IsWhole types d (read_expression types d)
unfolding read_expression
expression_whole types zero least e ts pos lt h end =
    let c = at_deep {A = ReadExpression} e ts (Sign (k.Number 0) ∷ end) h in
    record { tree = Number 0; layered = tt; low = omega arith; plain = c.0; goes = c.1 }
expression_whole types (suc d) least e ts pos lt h end =
    operators_whole types d (read_expression types d) (read_type types d) (read_sound types d) (read_type_sound types d) (expression_whole types d) (type_whole types d) e least pos lt ts end h
