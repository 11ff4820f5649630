-- What the static rules give of an expression is well typed.
use Rattle.std.proofs.Common.{◌≡◌, ℕ, suc, ◌+◌, ◌<◌, List, [], ◌∷◌, ◌++◌, length, refl, sym, ap, subst, arith, Bool, true, false, Option, Some, None, pos}
use Rattle.std.specs.Prelude.{◌&&◌, ◌||◌, nat_lt, slice_get, map, bytes_eq, is_some, option_map}
use Rattle.std.specs.Int.{w32}
use Rattle.std.proofs.lemmas.Int.{SFits-int_wrap}
use Rattle.std.proofs.lemmas.Bool.{ltb-true}
use Rattle.std.proofs.lemmas.Option.{slice_get_within}
use Rattle.c0_syntax.specs.declared.operator.PrefixOperator.{PrefixOperator}
use Rattle.c0_syntax.specs.declared.operator.PrefixOperator.TheVariants as before
use Rattle.c0_syntax.specs.Trees.{ValueType, Expression, Number, Character, Truth, Null, Text, Variable, Parenthesized, Call, Alloc, AllocArray, Result, Length, Index, Field, PointerField, Unary, Binary, Conditional, Expressions, none, more}
use Rattle.c0_typed.specs.Trees as t
use Rattle.c0_typed.specs.Typing as ty
use Rattle.c0_rules.specs.Types.{and_so, Name, is_among, number_in, ResolvedType, IntType, BoolType, CharType, StringType, StructNamed, PointerTo, ArrayOf, same_type, resolved_type, is_small, FieldEntry, StructEntry, Signature, Environment, field_of, numbered, cells_of, output_takes, output_named}
use Rattle.c0_rules.specs.Mentions.{Mention, OfVariable, OfFunction, OfText, mentions, argument_mentions}
use Rattle.c0_rules.specs.Expressions.{OperatorRule, OnNumbers, Compares, Conjunction, Disjunction, operator_rule, is_compared, is_equality, Typing, Has, IsNull, Place, Local, Context, local_of, retyped, Callee, ToOutput, ToFunction, takes, gives, call_of, num, null_as, as_wanted, wanted, paired, compared, operated, chosen, pointed, indexed, field_at, fielded, read_of, dereferenced, prefixed, lengthed, held_type, callee_or, callee, typed_expression, typed_place, typed_arguments}
use Rattle.c0_rules.specs.Programs.{field_types, is_callable}
use Rattle.c0_rules.proofs.Rules.{both_true, same_type_is, AllSome, all_so, all_go, all_if}

pub small_is : (names : List Name) (a : ResolvedType) → is_small a ≡ true → ty.IsSmall (numbered names a)
small_is names IntType e = tt
small_is names BoolType e = tt
small_is names CharType e = tt
small_is names StringType e = tt
small_is names (PointerTo a) e = tt
small_is names (ArrayOf a) e = tt
small_is names _ e = absurd (cc e)

compared_is : (names : List Name) (r : t.Relation) (a : ResolvedType) → is_compared r a ≡ true → ty.IsCompared r (numbered names a)
compared_is names t.Equal IntType e = tt
compared_is names t.Equal BoolType e = tt
compared_is names t.Equal CharType e = tt
compared_is names t.Equal (PointerTo a) e = tt
compared_is names t.Equal (ArrayOf a) e = tt
compared_is names t.Unequal IntType e = tt
compared_is names t.Unequal BoolType e = tt
compared_is names t.Unequal CharType e = tt
compared_is names t.Unequal (PointerTo a) e = tt
compared_is names t.Unequal (ArrayOf a) e = tt
compared_is names t.Below IntType e = tt
compared_is names t.AtMost IntType e = tt
compared_is names t.Above IntType e = tt
compared_is names t.AtLeast IntType e = tt
compared_is names t.Below CharType e = tt
compared_is names t.AtMost CharType e = tt
compared_is names t.Above CharType e = tt
compared_is names t.AtLeast CharType e = tt
compared_is names _ _ e = absurd (cc e)

equality_is : (r : t.Relation) (u : t.Ty) → is_equality r ≡ true → ty.IsCompared r (t.PointerTy u)
equality_is t.Equal u e = tt
equality_is t.Unequal u e = tt
equality_is _ u e = absurd (cc e)

-- ---- what stands behind the names

-- the struct's types stand in the table, each at its field's number
abbrev pub HasFields : List Name → List (List t.Ty) → Name → StructEntry → Type 0
HasFields names structs n d =
    (ts : List t.Ty) × (slice_get structs (number_in names n) ≡ Some ts) × ((m : Name) (f : ℕ × ResolvedType) → d.fields m ≡ Some f → slice_get ts f.0 ≡ Some (numbered names f.1))

-- the program's tables hold what the environment says
pub record Knows (p : t.Program) (env : Environment) : Type 0 where
  pub structs : (n : Name) (d : StructEntry) → env.structs n ≡ Some d → HasFields env.struct_names p.structs n d
  pub functions : (n : Name) (f : Signature) → env.functions n ≡ Some f → is_among n env.function_names ≡ true
      → (g : t.Function) × (slice_get p.functions (number_in env.function_names n) ≡ Some g) × (g.result ≡ num env f.result) × (g.parameters ≡ map (num env) f.parameters)

-- what is named is known to the program: a text is in its table, and what is called has a definition
abbrev pub IsNamed : t.Program → Environment → Mention → Type 0
IsNamed p env (OfVariable n) = Unit {0}
IsNamed p env (OfFunction n) = is_callable env n ≡ true
IsNamed p env (OfText x) = ty.IsText p.texts x

-- the same, one by one
abbrev pub AreNamed : t.Program → Environment → List Mention → Type 0
AreNamed p env [] = Unit {0}
AreNamed p env (m ∷ rest) = IsNamed p env m × AreNamed p env rest

pub named_left : (p : t.Program) (env : Environment) (some rest : List Mention) → AreNamed p env (some ++ rest) → AreNamed p env some
named_left p env [] rest h = tt
named_left p env (m ∷ some) rest h = (h.0, named_left p env some rest h.1)

pub named_right : (p : t.Program) (env : Environment) (some rest : List Mention) → AreNamed p env (some ++ rest) → AreNamed p env rest
named_right p env [] rest h = h
named_right p env (m ∷ some) rest h = named_right p env some rest h.1

-- the locals in scope are those of these types
pub record Sees (env : Environment) (types : List t.Ty) (at : Context) : Type 0 where
  pub locals : (n : Name) (l : Local) → local_of at.locals n ≡ Some l → slice_get types l.number ≡ Some (num env l.resolved)
  pub result : (a : ResolvedType) → at.result ≡ Some a → slice_get types 0 ≡ Some (num env a)

output_takes_are : (env : Environment) (o : t.Output) → map (num env) (output_takes o) ≡ ty.output_types o
output_takes_are env t.Print = refl
output_takes_are env t.Println = refl
output_takes_are env t.Printint = refl
output_takes_are env t.Printbool = refl
output_takes_are env t.Printchar = refl
output_takes_are env t.Flush = refl

pub field_is : (names : List Name) (fields : List FieldEntry) (k : ℕ) (n : Name) (f : ℕ × ResolvedType) → field_of k fields n ≡ Some f
    → (i : ℕ) × (f.0 ≡ k + i) × (slice_get (map (numbered names) (field_types fields)) i ≡ Some (numbered names f.1))
field_is names [] k n f e = absurd (cc e)
field_is names (g ∷ fields) k n f e = at (bytes_eq n g.name) e (λ h. field_is names fields (suc k) n f h)
  where
    at : (b : Bool) → (elim b [ true ↦ Some (k, g.resolved) | false ↦ field_of (suc k) fields n ]) ≡ Some f
        → (field_of (suc k) fields n ≡ Some f → (i : ℕ) × (f.0 ≡ suc k + i) × (slice_get (map (numbered names) (field_types fields)) i ≡ Some (numbered names f.1)))
        → (i : ℕ) × (f.0 ≡ k + i) × (slice_get (map (numbered names) (field_types (g ∷ fields))) i ≡ Some (numbered names f.1))
    at true h go = let q : (k, g.resolved) ≡ f = cc h in (0, (let x : f.0 ≡ k = sym (ap (λ z. z.0) q) in omega (arith, x)), ap (λ z. Some (numbered names z.1)) q)
    at false h go = let r = go h in (suc r.0, omega (arith, r.1), r.2)

module _ (p : t.Program) (env : Environment) (knows : Knows p env) (types : List t.Ty) (at : Context) (sees : Sees env types at) where
  -- an expression has its type; one of NULL's own type has every pointer type
  abbrev pub IsTyped : Typing → Type 0
  IsTyped (Has a x) = ty.Has p types x (num env a)
  IsTyped (IsNull x) = (u : t.Ty) → ty.Has p types (retyped u x) (t.PointerTy u)

  -- a place holds its type
  abbrev pub IsPlace : Place → Type 0
  IsPlace q = ty.Holds p types q.place (num env q.resolved)

  -- an expression has this type
  abbrev pub IsOf : ResolvedType → t.Exp → Type 0
  IsOf a x = ty.Has p types x (num env a)

  null_as_ok : (a : ResolvedType) (x : t.Exp) → IsTyped (IsNull x) → AllSome (IsOf a) (null_as env a x)
  null_as_ok (PointerTo b) x h = h (num env b)
  null_as_ok _ x h = tt

  pub as_wanted_ok : (a : ResolvedType) (x : Typing) → IsTyped x → AllSome (IsOf a) (as_wanted env a x)
  as_wanted_ok a (Has b x) h = all_if (IsOf a) (same_type b a) (Some x) (λ e. subst (λ z. ty.Has p types x (num env z)) (same_type_is b a e) h)
  as_wanted_ok a (IsNull x) h = null_as_ok a x h

  pub wanted_ok : (a : ResolvedType) (o : Option Typing) → AllSome IsTyped o → AllSome (IsOf a) (wanted env a o)
  wanted_ok a o h = all_so IsTyped (IsOf a) o _ h (as_wanted_ok a)

  paired_ok : (want result : ResolvedType) (build : t.Exp → t.Exp → t.Exp) (x y : Typing) → IsTyped x → IsTyped y → ((a b : t.Exp) → IsOf want a → IsOf want b → IsOf result (build a b))
      → AllSome IsTyped (paired env want result build x y)
  paired_ok want result build x y h k go =
      all_so (IsOf want) IsTyped (as_wanted env want x) _ (as_wanted_ok want x h) (λ a f.
      all_so (IsOf want) IsTyped (as_wanted env want y) _ (as_wanted_ok want y k) (λ b g. go a b f g))

  compared_ok : (r : t.Relation) (x y : Typing) → IsTyped x → IsTyped y → AllSome IsTyped (compared env r x y)
  compared_ok r (Has a x) (Has b y) h k =
      all_if IsTyped (same_type a b && is_compared r a) _ (λ e.
      let q = both_true (same_type a b) (is_compared r a) e in
      (refl, compared_is env.struct_names r a q.1, h, subst (λ z. ty.Has p types y (num env z)) (sym (same_type_is a b q.0)) k))
  compared_ok r (Has a x) (IsNull y) h k = all_if IsTyped (is_equality r) _ (λ e. by_type a h e)
    where
      by_type : (a : ResolvedType) → ty.Has p types x (num env a) → is_equality r ≡ true → AllSome IsTyped (and_so (null_as env a y) (λ z. Some (Has BoolType (t.Compare (num env a) r x z))))
      by_type (PointerTo b) h e = (refl, equality_is r (num env b) e, h, k (num env b))
      by_type _ h e = tt
  compared_ok r (IsNull x) (Has b y) h k = all_if IsTyped (is_equality r) _ (λ e. by_type b k e)
    where
      by_type : (b : ResolvedType) → ty.Has p types y (num env b) → is_equality r ≡ true → AllSome IsTyped (and_so (null_as env b x) (λ z. Some (Has BoolType (t.Compare (num env b) r z y))))
      by_type (PointerTo a) k e = (refl, equality_is r (num env a) e, h (num env a), k)
      by_type _ k e = tt
  compared_ok r (IsNull x) (IsNull y) h k = all_if IsTyped (is_equality r) _ (λ e. (refl, equality_is r t.IntTy e, h t.IntTy, k t.IntTy))

  operated_ok : (o : OperatorRule) (x y : Typing) → IsTyped x → IsTyped y → AllSome IsTyped (operated env o x y)
  operated_ok (OnNumbers o) x y h k = paired_ok IntType IntType (t.Binary o) x y h k (λ a b f g. (refl, f, g))
  operated_ok (Compares r) x y h k = compared_ok r x y h k
  operated_ok Conjunction x y h k = paired_ok BoolType BoolType t.And x y h k (λ a b f g. (refl, f, g))
  operated_ok Disjunction x y h k = paired_ok BoolType BoolType t.Or x y h k (λ a b f g. (refl, f, g))

  chosen_ok : (c : t.Exp) (x y : Typing) → IsOf BoolType c → IsTyped x → IsTyped y → AllSome IsTyped (chosen env c x y)
  chosen_ok c (Has a x) (Has b y) g h k =
      all_if IsTyped (same_type a b && is_small a) _ (λ e.
      let q = both_true (same_type a b) (is_small a) e in
      (refl, g, h, subst (λ z. ty.Has p types y (num env z)) (sym (same_type_is a b q.0)) k))
  chosen_ok c (Has a x) (IsNull y) g h k = all_so (IsOf a) IsTyped (null_as env a y) _ (null_as_ok a y k) (λ z i. (refl, g, h, i))
  chosen_ok c (IsNull x) (Has b y) g h k = all_so (IsOf b) IsTyped (null_as env b x) _ (null_as_ok b x h) (λ z i. (refl, g, i, k))
  chosen_ok c (IsNull x) (IsNull y) g h k = λ u. (refl, g, h u, k u)

  pointed_ok : (x : Typing) → IsTyped x → AllSome IsPlace (pointed env x)
  pointed_ok (Has (PointerTo a) e) h = (refl, h)
  pointed_ok _ h = tt

  indexed_ok : (x : Typing) (i : t.Exp) → IsTyped x → IsOf IntType i → AllSome IsPlace (indexed env x i)
  indexed_ok (Has (ArrayOf a) e) i h k = all_go IsPlace (cells_of env.structs a) _ (λ c q. (refl, h, k))
  indexed_ok _ i h k = tt

  field_at_ok : (a : ResolvedType) (q : t.Place) (n : Name) → ty.Holds p types q (num env a) → AllSome IsPlace (field_at env a q n)
  field_at_ok (StructNamed s) q n h =
      all_go IsPlace (env.structs s) _ (λ d e. all_go IsPlace (d.fields n) _ (λ f g. let has = knows.structs s d e in (h, (has.0, has.1, has.2 n f g))))
  field_at_ok _ q n h = tt

  read_ok : (q : Place) → IsPlace q → AllSome IsTyped (read_of env q)
  read_ok q h = all_if IsTyped (is_small q.resolved) _ (λ e. (refl, small_is env.struct_names q.resolved e, h))

  dereferenced_ok : (o : PrefixOperator) (x : Typing) → IsTyped x → AllSome IsPlace (dereferenced env o x)
  dereferenced_ok before.Dereference x h = pointed_ok x h
  dereferenced_ok _ x h = tt

  prefixed_ok : (o : PrefixOperator) (x : Typing) → IsTyped x → AllSome IsTyped (prefixed env o x)
  prefixed_ok before.Not x h = all_so (IsOf BoolType) IsTyped (as_wanted env BoolType x) _ (as_wanted_ok BoolType x h) (λ a k. (refl, k))
  prefixed_ok before.Complement x h = all_so (IsOf IntType) IsTyped (as_wanted env IntType x) _ (as_wanted_ok IntType x h) (λ a k. (refl, k))
  prefixed_ok before.Negate x h = all_so (IsOf IntType) IsTyped (as_wanted env IntType x) _ (as_wanted_ok IntType x h) (λ a k. (refl, k))
  prefixed_ok before.Dereference x h = all_so IsPlace IsTyped (pointed env x) _ (pointed_ok x h) read_ok

  lengthed_ok : (x : Typing) → IsTyped x → AllSome IsTyped (lengthed env x)
  lengthed_ok (Has (ArrayOf a) e) h = (refl, h)
  lengthed_ok _ h = tt

  abbrev IsCallee : Callee → Type 0
  IsCallee (ToOutput o) = Unit {0}
  IsCallee (ToFunction k f) = (g : t.Function) × (slice_get p.functions k ≡ Some g) × (g.result ≡ num env f.result) × (g.parameters ≡ map (num env) f.parameters)

  callee_ok : (n : Name) (o : Option t.Output) → (is_some o || is_among n env.function_names) ≡ true → AllSome IsCallee (callee_or env n o)
  callee_ok n (Some o) e = tt
  callee_ok n None e = all_go IsCallee (env.functions n) _ (λ f q. knows.functions n f q e)

  call_ok : (c : Callee) (xs : t.Exps) → IsCallee c → ty.HasAll p types xs (map (num env) (takes c)) → IsOf (gives c) (call_of c xs)
  call_ok (ToOutput o) xs g h = (refl, subst (ty.HasAll p types xs) (output_takes_are env o) h)
  call_ok (ToFunction k f) xs g h = (g.0, g.1, sym g.2, subst (ty.HasAll p types xs) (sym g.3) h)

  held : (b : ResolvedType) (c : ℕ) → cells_of env.structs b ≡ Some c → ty.IsHeld (length p.structs) (num env b)
  held IntType c e = tt
  held BoolType c e = tt
  held CharType c e = tt
  held StringType c e = tt
  held (PointerTo a) c e = tt
  held (ArrayOf a) c e = tt
  held (StructNamed n) c e = by_struct (env.structs n) refl e
    where
      by_struct : (o : Option StructEntry) → env.structs n ≡ o → option_map (λ d. d.cells) o ≡ Some c → number_in env.struct_names n < length p.structs
      by_struct None q h = absurd (cc h)
      by_struct (Some d) q h = slice_get_within p.structs (number_in env.struct_names n) _ (knows.structs n d q).1
  held _ c e = absurd (cc e)

  abbrev IsHeldHere : ResolvedType → Type 0
  IsHeldHere r = ty.IsHeld (length p.structs) (num env r)

  held_ok : (a : ValueType) → AllSome IsHeldHere (held_type env a)
  held_ok a = all_go IsHeldHere (resolved_type env.typedefs a) _ (λ r e. all_go IsHeldHere (cells_of env.structs r) _ (λ c q. held r c q))

  mutual
    pub expression_ok : (e : Expression) → AreNamed p env (mentions e) → AllSome IsTyped (typed_expression env at e)
    expression_ok (Number n) m = (refl, SFits-int_wrap w32 (pos n))
    expression_ok (Character c) m = all_if IsTyped (nat_lt c 128) _ (λ e. (refl, ltb-true c 128 e))
    expression_ok (Truth b) m = refl
    expression_ok Null m = λ u. refl
    expression_ok (Text x) m = (refl, m.0)
    expression_ok (Variable n) m = all_go IsTyped (local_of at.locals n) _ (λ l e. sees.locals n l e)
    expression_ok (Parenthesized a) m = expression_ok a m
    expression_ok (Call n es) m =
        all_so IsCallee IsTyped (callee env n) _ (callee_ok n (output_named env.conio n) m.0) (λ c g.
        all_so (λ xs. ty.HasAll p types xs (map (num env) (takes c))) IsTyped (typed_arguments env at es (takes c)) _ (arguments_ok es (takes c) m.1) (λ xs h. call_ok c xs g h))
    expression_ok (Alloc a) m = all_so IsHeldHere IsTyped (held_type env a) _ (held_ok a) (λ r h. (refl, h))
    expression_ok (AllocArray a n) m =
        all_so IsHeldHere IsTyped (held_type env a) _ (held_ok a) (λ r h.
        all_so (IsOf IntType) IsTyped (wanted env IntType (typed_expression env at n)) _ (wanted_ok IntType _ (expression_ok n m)) (λ x k. (refl, h, k)))
    expression_ok Result m = all_go IsTyped at.result _ (λ a e. sees.result a e)
    expression_ok (Length a) m = all_so IsTyped IsTyped (typed_expression env at a) _ (expression_ok a m) lengthed_ok
    expression_ok (Index a i) m =
        all_so IsPlace IsTyped (and_so (typed_expression env at a) (λ x. and_so (wanted env IntType (typed_expression env at i)) (indexed env x))) _
        (all_so IsTyped IsPlace (typed_expression env at a) _ (expression_ok a (named_left p env (mentions a) _ m)) (λ x h.
        all_so (IsOf IntType) IsPlace (wanted env IntType (typed_expression env at i)) _ (wanted_ok IntType _ (expression_ok i (named_right p env (mentions a) _ m))) (λ y k. indexed_ok x y h k)))
        read_ok
    expression_ok (Field a n) m =
        all_so IsPlace IsTyped (and_so (typed_place env at a) (fielded env n)) _
        (all_so IsPlace IsPlace (typed_place env at a) _ (place_ok a m) (λ q h. field_at_ok q.resolved q.place n h)) read_ok
    expression_ok (PointerField a n) m =
        all_so IsPlace IsTyped (and_so (and_so (typed_expression env at a) (pointed env)) (fielded env n)) _
        (all_so IsPlace IsPlace (and_so (typed_expression env at a) (pointed env)) _ (all_so IsTyped IsPlace (typed_expression env at a) _ (expression_ok a m) pointed_ok) (λ q h. field_at_ok q.resolved q.place n h)) read_ok
    expression_ok (Unary o a) m = all_so IsTyped IsTyped (typed_expression env at a) _ (expression_ok a m) (prefixed_ok o)
    expression_ok (Binary o a b) m =
        all_so IsTyped IsTyped (typed_expression env at a) _ (expression_ok a (named_left p env (mentions a) _ m)) (λ x h.
        all_so IsTyped IsTyped (typed_expression env at b) _ (expression_ok b (named_right p env (mentions a) _ m)) (λ y k. operated_ok (operator_rule o) x y h k))
    expression_ok (Conditional c a b) m =
        let first = named_left p env (mentions c ++ mentions a) (mentions b) m in
        all_so (IsOf BoolType) IsTyped (wanted env BoolType (typed_expression env at c)) _ (wanted_ok BoolType _ (expression_ok c (named_left p env (mentions c) _ first))) (λ z g.
        all_so IsTyped IsTyped (typed_expression env at a) _ (expression_ok a (named_right p env (mentions c) _ first)) (λ x h.
        all_so IsTyped IsTyped (typed_expression env at b) _ (expression_ok b (named_right p env (mentions c ++ mentions a) _ m)) (λ y k. chosen_ok z x y g h k)))

    pub place_ok : (e : Expression) → AreNamed p env (mentions e) → AllSome IsPlace (typed_place env at e)
    place_ok (Parenthesized a) m = place_ok a m
    place_ok (Index a i) m =
        all_so IsTyped IsPlace (typed_expression env at a) _ (expression_ok a (named_left p env (mentions a) _ m)) (λ x h.
        all_so (IsOf IntType) IsPlace (wanted env IntType (typed_expression env at i)) _ (wanted_ok IntType _ (expression_ok i (named_right p env (mentions a) _ m))) (λ y k. indexed_ok x y h k))
    place_ok (Field a n) m = all_so IsPlace IsPlace (typed_place env at a) _ (place_ok a m) (λ q h. field_at_ok q.resolved q.place n h)
    place_ok (PointerField a n) m =
        all_so IsPlace IsPlace (and_so (typed_expression env at a) (pointed env)) _ (all_so IsTyped IsPlace (typed_expression env at a) _ (expression_ok a m) pointed_ok) (λ q h. field_at_ok q.resolved q.place n h)
    place_ok (Unary o a) m = all_so IsTyped IsPlace (typed_expression env at a) _ (expression_ok a m) (dereferenced_ok o)
    place_ok _ m = tt

    pub arguments_ok : (es : Expressions) (us : List ResolvedType) → AreNamed p env (argument_mentions es) → AllSome (λ xs. ty.HasAll p types xs (map (num env) us)) (typed_arguments env at es us)
    arguments_ok none [] m = tt
    arguments_ok (more a rest) (u ∷ us) m =
        all_so (IsOf u) (λ xs. ty.HasAll p types xs (map (num env) (u ∷ us))) (wanted env u (typed_expression env at a)) _ (wanted_ok u _ (expression_ok a (named_left p env (mentions a) _ m))) (λ x h.
        all_so (λ xs. ty.HasAll p types xs (map (num env) us)) (λ xs. ty.HasAll p types xs (map (num env) (u ∷ us))) (typed_arguments env at rest us) _ (arguments_ok rest us (named_right p env (mentions a) _ m)) (λ xs k. (h, k)))
    arguments_ok _ _ m = tt
