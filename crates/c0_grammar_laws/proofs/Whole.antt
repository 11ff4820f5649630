-- Tokens up to a fault, and tokens that begin with the same ones and are whole.
use Rattle.std.proofs.Common.{◌≡◌, ℕ, zero, suc, ◌+◌, ◌≤◌, ◌⊎◌, Bool, true, false, cond, List, [], ◌∷◌, ◌++◌, length, Option, Some, None, Ok, Err, refl, ap, subst, ◌∙◌, inl, inr, arith}
use Rattle.std.specs.Str.{bytes_eq}
use Rattle.std.proofs.lemmas.Slice.Eq.{bytes_eq-Decides}
use Rattle.c0_source.specs.declared.kind.Kind.{Kind}
use Rattle.c0_source.specs.declared.kind.Kind.TheVariants as k
use Rattle.c0_source.specs.declared.kind.Operator.TheVariants as o
use Rattle.c0_source.specs.Terminals.{Terminal, Word, Sign}
use Rattle.c0_syntax.specs.Trees.{ValueType, Basic, StructType, NamedType, Pointer, Array, Expression, Parenthesized, Call, Alloc, AllocArray, Length, Index, Field, PointerField, Unary, Binary, Conditional, Expressions, none, more, Spec, Contract, Asserts, SimpleStatement, Declare, Initialize, Assign, Update, Step, Evaluate, Statement, Simple, Block, Annotation, Return, ReturnValue, If, IfElse, While, For, Assert, Error, Break, Continue, Statements, nothing, also}
use Rattle.c0_syntax.specs.Expressions.{is_type_name, emit_type, emit_expression, emit_arguments, emit_more_arguments, prefix_sign}
use Rattle.c0_syntax.specs.Statements.{emit_spec, emit_specs, emit_annotations, change_sign, emit_simple, emit_option, emit_statement, emit_statements}
use Rattle.c0_grammar_laws.specs.declared.read_error.ReadError.{ReadError}
use Rattle.c0_grammar_laws.specs.declared.read_error.ReadError.TheVariants.{OutOfMemory, Syntax, TooDeep, TooLarge}
use Rattle.c0_grammar_laws.specs.Limits.{AreSigns}
use Rattle.c0_grammar_laws.specs.Outcome.{Outcome, ◌>>=◌, refuse, too_deep, kind_at, plain_at, lparen_by, rparen_by, rbracket_by, semi_by, comma_by, colon_by, name_by, lparen, rparen, rbracket, semi, comma, colon, any_name, new_name}

-- ---- faults

-- a fault in place of what is read
abbrev pub failed : (A : Type 0) → ReadError → Outcome A
failed A e = Err e

pub bind_err : {A B : Type 0} (m : Outcome A) (f : A → Outcome B) (e : ReadError) → (m >>= f) ≡ Err e → (m ≡ Err e) ⊎ ((x : A) × (m ≡ Ok x) × (f x ≡ Err e))
bind_err (Ok x) f e h = inr (x, refl, h)
bind_err (Err d) f e h = let same : d ≡ e = cc in inl (ap (λ (z : ReadError). Err z) same)

-- one of two readings, by a test
pub chosen_err : {A : Type 0} (b : Bool) (x y z : Outcome A) → cond b x y ≡ z → ((b ≡ true) × (x ≡ z)) ⊎ ((b ≡ false) × (y ≡ z))
chosen_err true x y z e = inl (refl, e)
chosen_err false x y z e = inr (refl, e)

abbrev pub NotLarge : ReadError → Type 0
NotLarge OutOfMemory = Unit {0}
NotLarge (Syntax n) = Unit {0}
NotLarge (TooDeep n) = Unit {0}
NotLarge (TooLarge n) = ⊥

-- the fault is told of the first of these tokens; a name too many stands there, and only signs come behind it in the others
abbrev pub IsThere : ReadError → List Terminal → List Terminal → Type 0
IsThere OutOfMemory behind others = ⊥
IsThere (Syntax n) behind others = n ≡ length behind
IsThere (TooDeep n) behind others = n ≡ length behind
IsThere (TooLarge n) behind others = (x : List ℕ) × (us : List Terminal) × (vs : List Terminal) × (n ≡ length behind) × (behind ≡ Word x ∷ us) × (others ≡ Word x ∷ vs) × AreSigns vs

-- two lists of tokens that are the same up to a fault of the first
pub record Goes (e : ReadError) (ts us : List Terminal) : Type 0 where
  pub before : List Terminal
  pub behind : List Terminal
  pub others : List Terminal
  pub left : ts ≡ before ++ behind
  pub right : us ≡ before ++ others
  pub there : IsThere e behind others

abbrev pub Stops : ReadError → List Terminal → List Terminal → Type 0
Stops e ts us = NotLarge e × Goes e ts us

pub at_refuse : {A : Type 0} (e : ReadError) (ts us : List Terminal) → refuse {A = A} ts ≡ Err e → Stops e ts us
at_refuse e ts us h =
    let same : Syntax (length ts) ≡ e = cc in
    subst (λ (z : ReadError). Stops z ts us) same (tt, record { before = []; behind = ts; others = us; left = refl; right = refl; there = refl })

pub at_deep : {A : Type 0} (e : ReadError) (ts us : List Terminal) → too_deep {A = A} ts ≡ Err e → Stops e ts us
at_deep e ts us h =
    let same : TooDeep (length ts) ≡ e = cc in
    subst (λ (z : ReadError). Stops z ts us) same (tt, record { before = []; behind = ts; others = us; left = refl; right = refl; there = refl })

pub at_large : (e : ReadError) (n : ℕ) (x : List ℕ) (ts us vs : List Terminal) → TooLarge n ≡ e → n ≡ length ts → ts ≡ Word x ∷ us → AreSigns vs → Goes e ts (Word x ∷ vs)
at_large e n x ts us vs same is begun signs =
    subst (λ (z : ReadError). Goes z ts (Word x ∷ vs)) same (record { before = []; behind = ts; others = Word x ∷ vs; left = refl; right = refl; there = (x, us, vs, is, begun, refl, signs) })

-- ---- a token that must stand here

pub lparen_stops : (e : ReadError) (ts us : List Terminal) → lparen ts ≡ Err e → Stops e ts us
lparen_stops e ts us h = at (plain_at ts) h
  where
    at : (kind : Kind) → lparen_by kind ts ≡ Err e → Stops e ts us
    at k.LParen h = absurd cc
    at _ h = at_refuse e ts us h

pub rparen_stops : (e : ReadError) (ts us : List Terminal) → rparen ts ≡ Err e → Stops e ts us
rparen_stops e ts us h = at (plain_at ts) h
  where
    at : (kind : Kind) → rparen_by kind ts ≡ Err e → Stops e ts us
    at k.RParen h = absurd cc
    at _ h = at_refuse e ts us h

pub rbracket_stops : (e : ReadError) (ts us : List Terminal) → rbracket ts ≡ Err e → Stops e ts us
rbracket_stops e ts us h = at (plain_at ts) h
  where
    at : (kind : Kind) → rbracket_by kind ts ≡ Err e → Stops e ts us
    at k.RBracket h = absurd cc
    at _ h = at_refuse e ts us h

pub semi_stops : (e : ReadError) (ts us : List Terminal) → semi ts ≡ Err e → Stops e ts us
semi_stops e ts us h = at (plain_at ts) h
  where
    at : (kind : Kind) → semi_by kind ts ≡ Err e → Stops e ts us
    at k.Semi h = absurd cc
    at _ h = at_refuse e ts us h

pub comma_stops : (e : ReadError) (ts us : List Terminal) → comma ts ≡ Err e → Stops e ts us
comma_stops e ts us h = at (plain_at ts) h
  where
    at : (kind : Kind) → comma_by kind ts ≡ Err e → Stops e ts us
    at k.Comma h = absurd cc
    at _ h = at_refuse e ts us h

pub colon_stops : (e : ReadError) (ts us : List Terminal) → colon ts ≡ Err e → Stops e ts us
colon_stops e ts us h = at (plain_at ts) h
  where
    at : (kind : Kind) → colon_by kind ts ≡ Err e → Stops e ts us
    at k.Colon h = absurd cc
    at _ h = at_refuse e ts us h

name_stops : (e : ReadError) (kind : Kind) (ts us : List Terminal) → name_by kind ts ≡ Err e → Stops e ts us
name_stops e k.Name ts us h = absurd cc
name_stops e _ ts us h = at_refuse e ts us h

pub any_name_stops : (e : ReadError) (ts us : List Terminal) → any_name ts ≡ Err e → Stops e ts us
any_name_stops e ts us h = name_stops e (plain_at ts) ts us h

pub new_name_stops : (types : List (List ℕ)) (e : ReadError) (ts us : List Terminal) → new_name types ts ≡ Err e → Stops e ts us
new_name_stops types e ts us h = name_stops e (kind_at types ts) ts us h

-- ---- a name that is no type's

abbrev letters : List (List ℕ) → ℕ
letters [] = 0
letters (y ∷ ys) = length y + letters ys

abbrev long_name : ℕ → List ℕ
long_name zero = []
long_name (suc n) = 97 ∷ long_name n

long_length : (n : ℕ) → length (long_name n) ≡ n
long_length zero = refl
long_length (suc n) = ap suc (long_length n)

other_bytes : (xs ys : List ℕ) (b : Bool) → (b ≡ true → xs ≡ ys) → (xs ≡ ys → ⊥) → b ≡ false
other_bytes xs ys true f never = absurd (never (f refl))
other_bytes xs ys false f never = refl

differs : (xs ys : List ℕ) → suc (length xs) ≤ length ys → bytes_eq xs ys ≡ false
differs xs ys lt = other_bytes xs ys (bytes_eq xs ys) (bytes_eq-Decides xs ys).0 (λ e. let q : length xs ≡ length ys = ap length e in omega arith)

none_among : (ys : List (List ℕ)) (x : List ℕ) → suc (letters ys) ≤ length x → is_type_name ys x ≡ false
none_among [] x lt = refl
none_among (y ∷ ys) x lt =
    let first : bytes_eq y x ≡ false = differs y x (omega arith) in
    let others : is_type_name ys x ≡ false = none_among ys x (omega arith) in
    rw (first, others) refl

abbrev pub fresh : List (List ℕ) → List ℕ
fresh types = long_name (suc (letters types))

pub fresh_is : (types : List (List ℕ)) → is_type_name types (fresh types) ≡ false
fresh_is types = none_among types (fresh types) (omega (arith, long_length (suc (letters types))))

-- ---- the same tokens before

module _ {e : ReadError} where
  pub step : (t : Terminal) {ts us : List Terminal} → Goes e ts us → Goes e (t ∷ ts) (t ∷ us)
  step t g = record { before = t ∷ g.before; behind = g.behind; others = g.others; left = ap (λ (z : List Terminal). t ∷ z) g.left; right = ap (λ (z : List Terminal). t ∷ z) g.right; there = g.there }

  pub along : {ts us vs : List Terminal} → ts ≡ us → Goes e us vs → Goes e ts vs
  along same g = record { before = g.before; behind = g.behind; others = g.others; left = same ∙ g.left; right = g.right; there = g.there }

  pub under_type : (t : ValueType) {ts us : List Terminal} → Goes e ts us → Goes e (emit_type t ts) (emit_type t us)
  under_type (Basic b) g = step (Sign (k.Base b)) g
  under_type (StructType x) g = step (Sign k.Struct) (step (Word x) g)
  under_type (NamedType x) g = step (Word x) g
  under_type (Pointer t) g = under_type t (step (Sign (k.Infix o.Multiply)) g)
  under_type (Array t) g = under_type t (step (Sign k.LBracket) (step (Sign k.RBracket) g))

  mutual
    pub under_expression : (x : Expression) {ts us : List Terminal} → Goes e ts us → Goes e (emit_expression x ts) (emit_expression x us)
    under_expression (Parenthesized a) g = step (Sign k.LParen) (under_expression a (step (Sign k.RParen) g))
    under_expression (Call f es) g = step (Word f) (step (Sign k.LParen) (under_arguments es g))
    under_expression (Alloc t) g = step (Sign k.Alloc) (step (Sign k.LParen) (under_type t (step (Sign k.RParen) g)))
    under_expression (AllocArray t a) g = step (Sign k.AllocArray) (step (Sign k.LParen) (under_type t (step (Sign k.Comma) (under_expression a (step (Sign k.RParen) g)))))
    under_expression (Length a) g = step (Sign k.Length) (step (Sign k.LParen) (under_expression a (step (Sign k.RParen) g)))
    under_expression (Index a i) g = under_expression a (step (Sign k.LBracket) (under_expression i (step (Sign k.RBracket) g)))
    under_expression (Field a x) g = under_expression a (step (Sign k.Dot) (step (Word x) g))
    under_expression (PointerField a x) g = under_expression a (step (Sign k.Arrow) (step (Word x) g))
    under_expression (Unary u a) g = step (Sign (prefix_sign u)) (under_expression a g)
    under_expression (Binary op a b) g = under_expression a (step (Sign (k.Infix op)) (under_expression b g))
    under_expression (Conditional c a b) g = under_expression c (step (Sign k.Question) (under_expression a (step (Sign k.Colon) (under_expression b g))))
    under_expression _ g = step _ g

    under_arguments : (es : Expressions) {ts us : List Terminal} → Goes e ts us → Goes e (emit_arguments es ts) (emit_arguments es us)
    under_arguments none g = step (Sign k.RParen) g
    under_arguments (more a es) g = under_expression a (under_more_arguments es g)

    under_more_arguments : (es : Expressions) {ts us : List Terminal} → Goes e ts us → Goes e (emit_more_arguments es ts) (emit_more_arguments es us)
    under_more_arguments none g = step (Sign k.RParen) g
    under_more_arguments (more a es) g = step (Sign k.Comma) (under_expression a (under_more_arguments es g))

  pub under_spec : (s : Spec) {ts us : List Terminal} → Goes e ts us → Goes e (emit_spec s ts) (emit_spec s us)
  under_spec (Contract c a) g = step (Sign (k.Clause c)) (under_expression a (step (Sign k.Semi) g))
  under_spec (Asserts a) g = step (Sign k.Assert) (under_expression a (step (Sign k.Semi) g))

  pub under_specs : (ss : List Spec) {ts us : List Terminal} → Goes e ts us → Goes e (emit_specs ss ts) (emit_specs ss us)
  under_specs [] g = step (Sign k.End) g
  under_specs (s ∷ ss) g = under_spec s (under_specs ss g)

  pub under_annotations : (ns : List (List Spec)) {ts us : List Terminal} → Goes e ts us → Goes e (emit_annotations ns ts) (emit_annotations ns us)
  under_annotations [] g = g
  under_annotations (a ∷ ns) g = step (Sign k.Begin) (under_specs a (under_annotations ns g))

  pub under_simple : (s : SimpleStatement) {ts us : List Terminal} → Goes e ts us → Goes e (emit_simple s ts) (emit_simple s us)
  under_simple (Declare t x) g = under_type t (step (Word x) g)
  under_simple (Initialize t x a) g = under_type t (step (Word x) (step (Sign k.Assign) (under_expression a g)))
  under_simple (Assign a b) g = under_expression a (step (Sign k.Assign) (under_expression b g))
  under_simple (Update a op b) g = under_expression a (step (Sign (k.Update op)) (under_expression b g))
  under_simple (Step a way) g = under_expression a (step (Sign (change_sign way)) g)
  under_simple (Evaluate a) g = under_expression a g

  pub under_option : (s : Option SimpleStatement) {ts us : List Terminal} → Goes e ts us → Goes e (emit_option s ts) (emit_option s us)
  under_option None g = g
  under_option (Some s) g = under_simple s g

  mutual
    pub under_statement : (s : Statement) {ts us : List Terminal} → Goes e ts us → Goes e (emit_statement s ts) (emit_statement s us)
    under_statement (Simple s) g = under_simple s (step (Sign k.Semi) g)
    under_statement (Block ss) g = step (Sign k.LBrace) (under_statements ss g)
    under_statement (Annotation a) g = step (Sign k.Begin) (under_specs a g)
    under_statement Return g = step (Sign k.Return) (step (Sign k.Semi) g)
    under_statement (ReturnValue a) g = step (Sign k.Return) (under_expression a (step (Sign k.Semi) g))
    under_statement (If c a) g = step (Sign k.If) (step (Sign k.LParen) (under_expression c (step (Sign k.RParen) (under_statement a g))))
    under_statement (IfElse c a b) g = step (Sign k.If) (step (Sign k.LParen) (under_expression c (step (Sign k.RParen) (under_statement a (step (Sign k.Else) (under_statement b g))))))
    under_statement (While c ns s) g = step (Sign k.While) (step (Sign k.LParen) (under_expression c (step (Sign k.RParen) (under_annotations ns (under_statement s g)))))
    under_statement (For i c n ns s) g =
        step (Sign k.For) (step (Sign k.LParen) (under_option i (step (Sign k.Semi) (under_expression c (step (Sign k.Semi) (under_option n (step (Sign k.RParen) (under_annotations ns (under_statement s g)))))))))
    under_statement (Assert a) g = step (Sign k.Assert) (step (Sign k.LParen) (under_expression a (step (Sign k.RParen) (step (Sign k.Semi) g))))
    under_statement (Error a) g = step (Sign k.Error) (step (Sign k.LParen) (under_expression a (step (Sign k.RParen) (step (Sign k.Semi) g))))
    under_statement Break g = step (Sign k.Break) (step (Sign k.Semi) g)
    under_statement Continue g = step (Sign k.Continue) (step (Sign k.Semi) g)

    pub under_statements : (ss : Statements) {ts us : List Terminal} → Goes e ts us → Goes e (emit_statements ss ts) (emit_statements ss us)
    under_statements nothing g = step (Sign k.RBrace) g
    under_statements (also s ss) g = under_statement s (under_statements ss g)
