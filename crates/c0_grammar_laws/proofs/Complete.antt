-- What reads as an expression is read as it, whatever follows it that doesn't go on with it.
use Rattle.std.proofs.Common.{◌≡◌, ℕ, zero, suc, ◌+◌, ◌-◌, ◌<◌, ◌≤◌, max, Bool, List, ◌∷◌, length, Ok, refl, ap, ◌∙◌, arith}
use Rattle.c0_source.specs.declared.kind.Kind.{Kind}
use Rattle.c0_source.specs.declared.kind.Kind.TheVariants as k
use Rattle.c0_source.specs.declared.kind.Operator.{Operator}
use Rattle.c0_syntax.specs.declared.operator.PrefixOperator.{PrefixOperator}
use Rattle.c0_source.specs.Terminals.{Terminal, Word, Sign}
use Rattle.c0_syntax.specs.Trees as t
use Rattle.c0_syntax.specs.Trees.{ValueType, Expression, Number, Character, Truth, Null, Variable, Parenthesized, Call, Alloc, AllocArray, Length, Index, Field, PointerField, Unary, Binary, Conditional, Expressions, none, more}
use Rattle.c0_syntax.specs.Expressions.{emit_expression, emit_arguments, emit_more_arguments, operator_precedence, FormedExpression, FormedArguments, height_expression, height_arguments}
use Rattle.c0_grammar_laws.specs.Outcome.{◌>>=◌, plain_at}
use Rattle.c0_grammar_laws.specs.ReadExpressions.{read_type, named_by, arguments, arguments_by, parenthesized, alloc, alloc_array, length_of, primary, postfix, unary, climb, whole, read_expression}
use Rattle.c0_grammar_laws.proofs.Types.{complete_type}
use Rattle.c0_grammar_laws.proofs.Turns.{pull_by, pull, reach, found, Names, Inner, InnerType, precedence_lt, precedence_ge, prefix_of-sign, weaker, reach_above, least-le_reach, one-le_height, no_prefix, begins, longer, count, count-lt, postfix_done, climb_done, index_turn, field_turn, through_turn, binary_turn, choice_turn}

-- reading a tree leads to the loop over operators with that tree
abbrev Climbs : Names → Expression → Type 0
Climbs types t = (d least : ℕ) (rest : List Terminal) → FormedExpression types least t → height_expression t ≤ suc d → pull rest < reach t
    → (f : ℕ) × (suc d < f + height_expression t) × (whole types (read_expression types d) (read_type types d) (suc d) least (emit_expression t rest) ≡ climb types (read_expression types d) (read_type types d) (suc d) least f (found t rest))

-- reading a primary leads to the loop over what stands behind it
abbrev Steps : Names → Expression → Type 0
Steps types t = (d : ℕ) (rest : List Terminal) → FormedExpression types 13 t → height_expression t ≤ suc d → pull rest < 14
    → (f : ℕ) × (suc d < f + height_expression t) × ((primary types (read_expression types d) (read_type types d) (emit_expression t rest) >>= postfix types (read_expression types d) (read_type types d) (suc d) (suc d)) ≡ postfix types (read_expression types d) (read_type types d) (suc d) f (found t rest))

abbrev pub Complete : Names → Expression → Type 0
Complete types t = (d least : ℕ) (rest : List Terminal) → FormedExpression types least t → height_expression t ≤ d → pull rest < least → least < 13 → read_expression types d least (emit_expression t rest) ≡ Ok (found t rest)

complete_of : (types : Names) (t : Expression) → Climbs types t → Complete types t
unfolding read_expression
complete_of types t climbs zero least rest l h lt le = absurd (omega (arith, one-le_height t))
complete_of types t climbs (suc d) least rest l h lt le =
    let c = climbs d least rest l h (omega (arith, least-le_reach types t least le l)) in
    c.2 ∙ climb_done types (read_expression types d) (read_type types d) (suc d) least c.0 (found t rest) (omega (arith, c.1)) lt

-- a primary, with what stands behind it, is a whole operand
climbs_of : (types : Names) (t : Expression) → (reach t ≡ 13) → ((least : ℕ) → FormedExpression types least t → FormedExpression types 13 t) → Steps types t → Climbs types t
unfolding whole unary
climbs_of types t is_primary layers steps d least rest l h lt =
    let s = steps d rest (layers least l) h (omega arith) in
    let bare = no_prefix types t rest (layers least l) in
    let done = s.2 ∙ postfix_done types (read_expression types d) (read_type types d) (suc d) s.0 (found t rest) (omega (arith, s.1)) (omega arith) in
    (suc d, omega (arith, one-le_height t), rw (bare, done) refl)

-- ---- one case a production

steps_number : (types : Names) (n : ℕ) → Steps types (Number n)
unfolding primary
steps_number types n d rest l h lt = (suc d, omega arith, refl)

steps_letter : (types : Names) (n : ℕ) → Steps types (Character n)
unfolding primary
steps_letter types n d rest l h lt = (suc d, omega arith, refl)

steps_truth : (types : Names) (b : Bool) → Steps types (Truth b)
unfolding primary
steps_truth types b d rest l h lt = (suc d, omega arith, refl)

steps_null : (types : Names) → Steps types Null
unfolding primary
steps_null types d rest l h lt = (suc d, omega arith, refl)

steps_text : (types : Names) (bs : List ℕ) → Steps types (t.Text bs)
unfolding primary
steps_text types bs d rest l h lt = (suc d, omega arith, refl)

steps_result : (types : Names) → Steps types t.Result
unfolding primary
steps_result types d rest l h lt = (suc d, omega arith, refl)

bare_name : (types : Names) (inner : Inner) (inner_type : InnerType) (kind : Kind) (x : List ℕ) (ts : List Terminal) → pull_by kind < 14 → named_by types inner inner_type kind x ts ≡ Ok (found (Variable x) ts)
bare_name types inner inner_type k.LParen x ts lt = absurd (omega arith)
bare_name types inner inner_type _ x ts lt = refl

steps_variable : (types : Names) (x : List ℕ) → Steps types (Variable x)
unfolding primary
steps_variable types x d rest l h lt = let r = bare_name types (read_expression types d) (read_type types d) (plain_at rest) x rest lt in (suc d, omega arith, rw (l, r) refl)

steps_inside : (types : Names) (e : Expression) → Complete types e → Steps types (Parenthesized e)
unfolding primary parenthesized
steps_inside types e complete d rest l h lt =
    let r = complete d 1 (Sign k.RParen ∷ rest) l (omega arith) (omega arith) (omega arith) in
    (suc d, omega arith, rw r refl)

steps_alloc : (types : Names) (t : ValueType) → Steps types (Alloc t)
unfolding primary alloc
steps_alloc types t d rest l h lt =
    let r = complete_type types t d (Sign k.RParen ∷ rest) l (omega arith) tt in
    (suc d, omega arith, rw r refl)

steps_alloc_array : (types : Names) (t : ValueType) (e : Expression) → Complete types e → Steps types (AllocArray t e)
unfolding primary alloc_array
steps_alloc_array types t e complete d rest l h lt =
    let r = complete_type types t d (Sign k.Comma ∷ emit_expression e (Sign k.RParen ∷ rest)) l.0 (omega arith) tt in
    let q = complete d 1 (Sign k.RParen ∷ rest) l.1 (omega arith) (omega arith) (omega arith) in
    (suc d, omega arith, rw (r, q) refl)

steps_length : (types : Names) (e : Expression) → Complete types e → Steps types (Length e)
unfolding primary length_of
steps_length types e complete d rest l h lt =
    let r = complete d 1 (Sign k.RParen ∷ rest) l (omega arith) (omega arith) (omega arith) in
    (suc d, omega arith, rw r refl)

abbrev First : Names → Expressions → Type 0
First types es = (d : ℕ) (rest : List Terminal) → FormedArguments types es → height_arguments es ≤ d
    → arguments_by types (read_expression types d) (read_type types d) (plain_at (emit_arguments es rest)) (emit_arguments es rest) ≡ Ok (record { trees = es; height = height_arguments es; rest = rest })

steps_call : (types : Names) (f : List ℕ) (es : Expressions) → First types es → Steps types (Call f es)
unfolding primary
steps_call types f es first d rest l h lt =
    let r = first d rest l.1 (omega arith) in
    (suc d, omega arith, rw (l.0, r) refl)

steps_index_at : (types : Names) (a i : Expression) (d f : ℕ) (rest : List Terminal) → height_expression (Index a i) ≤ suc d → suc d < f + height_expression a
    → read_expression types d 1 (emit_expression i (Sign k.RBracket ∷ rest)) ≡ Ok (found i (Sign k.RBracket ∷ rest))
    → (g : ℕ) × (suc d < g + height_expression (Index a i)) × (postfix types (read_expression types d) (read_type types d) (suc d) f (found a (Sign k.LBracket ∷ emit_expression i (Sign k.RBracket ∷ rest))) ≡ postfix types (read_expression types d) (read_type types d) (suc d) g (found (Index a i) rest))
steps_index_at types a i d zero rest h lt r = absurd (omega arith)
steps_index_at types a i d (suc f) rest h lt r =
    (f, omega arith, index_turn types (read_expression types d) (read_type types d) (suc d) f a i (height_expression a) (height_expression i) (emit_expression i (Sign k.RBracket ∷ rest)) rest (omega arith) r)

steps_index : (types : Names) (a i : Expression) → Steps types a → Complete types i → Steps types (Index a i)
steps_index types a i steps complete d rest l h lt =
    let r = complete d 1 (Sign k.RBracket ∷ rest) l.1 (omega arith) (omega arith) (omega arith) in
    let s = steps d (Sign k.LBracket ∷ emit_expression i (Sign k.RBracket ∷ rest)) l.0 (omega arith) (omega arith) in
    let t = steps_index_at types a i d s.0 rest h s.1 r in
    (t.0, t.1, s.2 ∙ t.2)

steps_field_at : (types : Names) (a : Expression) (x : List ℕ) (d f : ℕ) (rest : List Terminal) → height_expression (Field a x) ≤ suc d → suc d < f + height_expression a
    → (g : ℕ) × (suc d < g + height_expression (Field a x)) × (postfix types (read_expression types d) (read_type types d) (suc d) f (found a (Sign k.Dot ∷ Word x ∷ rest)) ≡ postfix types (read_expression types d) (read_type types d) (suc d) g (found (Field a x) rest))
steps_field_at types a x d zero rest h lt = absurd (omega arith)
steps_field_at types a x d (suc f) rest h lt = (f, omega arith, field_turn types (read_expression types d) (read_type types d) (suc d) f a x (height_expression a) rest (omega arith))

steps_field : (types : Names) (a : Expression) (x : List ℕ) → Steps types a → Steps types (Field a x)
steps_field types a x steps d rest l h lt =
    let s = steps d (Sign k.Dot ∷ Word x ∷ rest) l (omega arith) (omega arith) in
    let t = steps_field_at types a x d s.0 rest h s.1 in
    (t.0, t.1, s.2 ∙ t.2)

steps_through_at : (types : Names) (a : Expression) (x : List ℕ) (d f : ℕ) (rest : List Terminal) → height_expression (PointerField a x) ≤ suc d → suc d < f + height_expression a
    → (g : ℕ) × (suc d < g + height_expression (PointerField a x)) × (postfix types (read_expression types d) (read_type types d) (suc d) f (found a (Sign k.Arrow ∷ Word x ∷ rest)) ≡ postfix types (read_expression types d) (read_type types d) (suc d) g (found (PointerField a x) rest))
steps_through_at types a x d zero rest h lt = absurd (omega arith)
steps_through_at types a x d (suc f) rest h lt = (f, omega arith, through_turn types (read_expression types d) (read_type types d) (suc d) f a x (height_expression a) rest (omega arith))

steps_through : (types : Names) (a : Expression) (x : List ℕ) → Steps types a → Steps types (PointerField a x)
steps_through types a x steps d rest l h lt =
    let s = steps d (Sign k.Arrow ∷ Word x ∷ rest) l (omega arith) (omega arith) in
    let t = steps_through_at types a x d s.0 rest h s.1 in
    (t.0, t.1, s.2 ∙ t.2)

climbs_unary : (types : Names) (u : PrefixOperator) (e : Expression) → Complete types e → Climbs types (Unary u e)
unfolding whole unary
climbs_unary types u e complete d least rest l h lt =
    let r = complete d 12 rest l.1 (omega arith) lt (omega arith) in
    (suc d, omega arith, rw (prefix_of-sign u, r) refl)

climbs_binary_at : (types : Names) (op : Operator) (a b : Expression) (d least f : ℕ) (rest : List Terminal) → height_expression (Binary op a b) ≤ suc d → suc d < f + height_expression a → least ≤ operator_precedence op
    → read_expression types d (suc (operator_precedence op)) (emit_expression b rest) ≡ Ok (found b rest)
    → (g : ℕ) × (suc d < g + height_expression (Binary op a b)) × (climb types (read_expression types d) (read_type types d) (suc d) least f (found a (Sign (k.Infix op) ∷ emit_expression b rest)) ≡ climb types (read_expression types d) (read_type types d) (suc d) least g (found (Binary op a b) rest))
climbs_binary_at types op a b d least zero rest h lt le r = absurd (omega arith)
climbs_binary_at types op a b d least (suc f) rest h lt le r =
    (f, omega arith, binary_turn types (read_expression types d) (read_type types d) (suc d) least f op a b (height_expression a) (height_expression b) (emit_expression b rest) rest (omega arith) le r)

climbs_binary : (types : Names) (op : Operator) (a b : Expression) → Climbs types a → Complete types b → Climbs types (Binary op a b)
climbs_binary types op a b climbs complete d least rest l h lt =
    let ge = precedence_ge op in
    let below = precedence_lt op in
    let r = complete d (suc (operator_precedence op)) rest l.2 (omega arith) lt (omega arith) in
    let above = reach_above types a (operator_precedence op) ge below l.1 in
    let c = climbs d least (Sign (k.Infix op) ∷ emit_expression b rest) (weaker types a least (operator_precedence op) l.0 l.1) (omega arith) above in
    let t = climbs_binary_at types op a b d least c.0 rest h c.1 l.0 r in
    (t.0, t.1, c.2 ∙ t.2)

climbs_choice_at : (types : Names) (c a b : Expression) (d least f : ℕ) (rest : List Terminal) → height_expression (Conditional c a b) ≤ suc d → suc d < f + height_expression c → least ≤ 1
    → read_expression types d 1 (emit_expression a (Sign k.Colon ∷ emit_expression b rest)) ≡ Ok (found a (Sign k.Colon ∷ emit_expression b rest)) → read_expression types d 1 (emit_expression b rest) ≡ Ok (found b rest)
    → (g : ℕ) × (suc d < g + height_expression (Conditional c a b)) × (climb types (read_expression types d) (read_type types d) (suc d) least f (found c (Sign k.Question ∷ emit_expression a (Sign k.Colon ∷ emit_expression b rest))) ≡ climb types (read_expression types d) (read_type types d) (suc d) least g (found (Conditional c a b) rest))
climbs_choice_at types c a b d least zero rest h lt le ra rb = absurd (omega arith)
climbs_choice_at types c a b d least (suc f) rest h lt le ra rb =
    (f, omega arith, choice_turn types (read_expression types d) (read_type types d) (suc d) least f c a b (height_expression c) (height_expression a) (height_expression b) (emit_expression a (Sign k.Colon ∷ emit_expression b rest)) (emit_expression b rest) rest (omega arith) le ra rb)

climbs_choice : (types : Names) (c a b : Expression) → Climbs types c → Complete types a → Complete types b → Climbs types (Conditional c a b)
climbs_choice types c a b climbs first second d least rest l h lt =
    let ra = first d 1 (Sign k.Colon ∷ emit_expression b rest) l.2 (omega arith) (omega arith) (omega arith) in
    let rb = second d 1 rest l.3 (omega arith) lt (omega arith) in
    let above = reach_above types c 2 (omega arith) (omega arith) l.1 in
    let x = climbs d least (Sign k.Question ∷ emit_expression a (Sign k.Colon ∷ emit_expression b rest)) (weaker types c least 2 (omega (arith, l.0)) l.1) (omega arith) (omega arith) in
    let t = climbs_choice_at types c a b d least x.0 rest h x.1 l.0 ra rb in
    (t.0, t.1, x.2 ∙ t.2)

-- ---- arguments

abbrev Others : Names → Expressions → Type 0
Others types es = (x : Expression) → Complete types x → (d n : ℕ) (rest : List Terminal) → FormedExpression types 1 x → FormedArguments types es → height_expression x ≤ d → height_arguments es ≤ d → count es ≤ n
    → arguments types (read_expression types d) (read_type types d) (suc n) (emit_expression x (emit_more_arguments es rest)) ≡ Ok (record { trees = more x es; height = max (height_expression x) (height_arguments es); rest = rest })

others_none : (types : Names) → Others types none
unfolding arguments
others_none types x complete d n rest lx les hx hes le =
    let r = complete d 1 (Sign k.RParen ∷ rest) lx hx (omega arith) (omega arith) in
    let m : height_expression x ≡ max (height_expression x) 0 = omega arith in
    rw r (ap (λ (h : ℕ). Ok (record { trees = more x none; height = h; rest = rest })) m)

others_more : (types : Names) (y : Expression) (ys : Expressions) → Complete types y → Others types ys → Others types (more y ys)
unfolding arguments
others_more types y ys complete_y others x complete d zero rest lx les hx hes le = absurd (omega arith)
others_more types y ys complete_y others x complete d (suc n) rest lx les hx hes le =
    let r = complete d 1 (Sign k.Comma ∷ emit_expression y (emit_more_arguments ys rest)) lx hx (omega arith) (omega arith) in
    let o = others y complete_y d n rest les.0 les.1 (omega arith) (omega arith) (omega arith) in
    rw (r, o) refl

first_none : (types : Names) → First types none
first_none types d rest l h = refl

first_more : (types : Names) (e : Expression) (es : Expressions) → Complete types e → Others types es → First types (more e es)
first_more types e es complete others d rest l h =
    let ts = emit_expression e (emit_more_arguments es rest) in
    let long : suc (length ts - 1) ≡ length ts = omega (arith, longer e (emit_more_arguments es rest)) in
    let o = others e complete d (length ts - 1) rest l.0 l.1 (omega arith) (omega arith) (omega (arith, longer e (emit_more_arguments es rest), count-lt es rest)) in
    begins types (read_expression types d) (read_type types d) e (emit_more_arguments es rest) ts ∙ rw (← long) o

-- ---- all trees

abbrev Both : Names → Expression → Type 0
Both types t = Climbs types t × Steps types t

by_steps : (types : Names) (t : Expression) → (reach t ≡ 13) → ((least : ℕ) → FormedExpression types least t → FormedExpression types 13 t) → Steps types t → Both types t
by_steps types t is_primary layers steps = (climbs_of types t is_primary layers steps, steps)

mutual
  both : (types : Names) (t : Expression) → Both types t
  both types (Number n) = by_steps types (Number n) refl (λ _ l. l) (steps_number types n)
  both types (Character c) = by_steps types (Character c) refl (λ _ l. l) (steps_letter types c)
  both types (Truth b) = by_steps types (Truth b) refl (λ _ l. l) (steps_truth types b)
  both types Null = by_steps types Null refl (λ _ l. l) (steps_null types)
  both types (t.Text bs) = by_steps types (t.Text bs) refl (λ _ l. l) (steps_text types bs)
  both types (Variable x) = by_steps types (Variable x) refl (λ _ l. l) (steps_variable types x)
  both types (Parenthesized e) = by_steps types (Parenthesized e) refl (λ _ l. l) (steps_inside types e (complete_of types e (both types e).0))
  both types (Call f es) = by_steps types (Call f es) refl (λ _ l. l) (steps_call types f es (first types es))
  both types (Alloc t) = by_steps types (Alloc t) refl (λ _ l. l) (steps_alloc types t)
  both types (AllocArray t e) = by_steps types (AllocArray t e) refl (λ _ l. l) (steps_alloc_array types t e (complete_of types e (both types e).0))
  both types t.Result = by_steps types t.Result refl (λ _ l. l) (steps_result types)
  both types (Length e) = by_steps types (Length e) refl (λ _ l. l) (steps_length types e (complete_of types e (both types e).0))
  both types (Index a i) = by_steps types (Index a i) refl (λ _ l. l) (steps_index types a i (both types a).1 (complete_of types i (both types i).0))
  both types (Field a x) = by_steps types (Field a x) refl (λ _ l. l) (steps_field types a x (both types a).1)
  both types (PointerField a x) = by_steps types (PointerField a x) refl (λ _ l. l) (steps_through types a x (both types a).1)
  both types (Unary u e) = (climbs_unary types u e (complete_of types e (both types e).0), λ d rest l h lt. absurd (omega (arith, l.0)))
  both types (Binary op a b) = (climbs_binary types op a b (both types a).0 (complete_of types b (both types b).0), λ d rest l h lt. absurd (omega (arith, l.0, precedence_lt op)))
  both types (Conditional c a b) = (climbs_choice types c a b (both types c).0 (complete_of types a (both types a).0) (complete_of types b (both types b).0), λ d rest l h lt. absurd (omega (arith, l.0)))

  first : (types : Names) (es : Expressions) → First types es
  first types none = first_none types
  first types (more e es) = first_more types e es (complete_of types e (both types e).0) (others types es)

  others : (types : Names) (es : Expressions) → Others types es
  others types none = others_none types
  others types (more y ys) = others_more types y ys (complete_of types y (both types y).0) (others types ys)

pub complete : (types : Names) (t : Expression) → Complete types t
complete types t = complete_of types t (both types t).0
