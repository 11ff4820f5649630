-- What the static rules give of statements is well typed.
use Rattle.std.proofs.Common.{◌≡◌, suc, ◌+◌, List, [], ◌∷◌, ◌++◌, length, refl, sym, ap, ◌∙◌, subst, arith, append_assoc, append-nil, Bool, true, false, Option, Some, None, pos}
use Rattle.std.specs.Prelude.{◌&&◌, ◌||◌, slice_get, map, not, cond, bytes_eq}
use Rattle.std.specs.Int.{w32}
use Rattle.std.proofs.lemmas.Int.{fits_signed_from_abs}
use Rattle.std.proofs.lemmas.List.{length-append}
use Rattle.cells.specs.declared.int32.Int32Op.{Int32Op}
use Rattle.c0_syntax.specs.Trees.{ValueType, Expression, Spec, SimpleStatement, Declare, Initialize, Assign, Update, Step, Evaluate, Statement, Simple, Block, Annotation, Return, ReturnValue, If, IfElse, While, For, Assert, Error, Break, Continue, Statements, nothing, also}
use Rattle.c0_typed.specs.Trees as t
use Rattle.c0_typed.specs.Typing as ty
use Rattle.c0_rules.specs.Types.{and_so, Name, ResolvedType, VoidType, IntType, BoolType, StringType, same_type, is_small, Table, resolved_type, small_type, Environment}
use Rattle.c0_rules.specs.Mentions.{mentions, condition_of, spec_mentions, specs_in, simple_mentions, part_mentions, statement_mentions, statements_mentions, as_variable}
use Rattle.c0_rules.specs.Expressions.{operator_rule, Typing, Has, IsNull, Local, Context, local_of, num, wanted, typed_expression, typed_place}
use Rattle.c0_rules.specs.Statements.{Role, Invariant, Assertion, role_of, same_role, all_are, Scope, Checked, in_body, leave, within, next_number, with_local, Destination, ToLocal, ToPlace, change_of, step_of, is_call, declares, one, expression_as, conditions, conditions_of_all, is_taken, declared, destination_by, destination, assigned, updated, evaluated, typed_simple, typed_part, typed_statement, typed_statements}
use Rattle.c0_rules.proofs.Rules.{same_type_is, AllSome, all_so, all_go, all_if, some_has}
use Rattle.c0_rules.proofs.Expressions.{small_is, Knows, Sees, AreNamed, named_left, named_right, IsTyped, IsPlace, IsOf, expression_ok, place_ok, wanted_ok}

pub small_of : (typedefs : Table ResolvedType) (a : ValueType) (b : ResolvedType) → small_type typedefs a ≡ Some b → is_small b ≡ true
small_of typedefs a b e =
    some_has (λ z. is_small z ≡ true) (small_type typedefs a) b (all_go (λ z. is_small z ≡ true) (resolved_type typedefs a) _ (λ c q. all_if (λ z. is_small z ≡ true) (is_small c) (Some c) (λ h. h))) e

-- types that are all small
abbrev pub AllSmall : List ResolvedType → Type 0
AllSmall [] = Unit {0}
AllSmall (a ∷ rest) = (is_small a ≡ true) × AllSmall rest

small_append : (xs ys : List ResolvedType) → AllSmall xs → AllSmall ys → AllSmall (xs ++ ys)
small_append [] ys h k = k
small_append (x ∷ xs) ys h k = (h.0, small_append xs ys h.1 k)

pub slice_behind : (xs : List t.Ty) (y : t.Ty) (ys : List t.Ty) → slice_get (xs ++ (y ∷ ys)) (length xs) ≡ Some y
slice_behind [] y ys = refl
slice_behind (x ∷ xs) y ys = slice_behind xs y ys

pub map_long : {A B : Type 0} (f : A → B) (xs : List A) → length (map f xs) ≡ length xs
map_long f [] = refl
map_long f (x ∷ xs) = ap suc (map_long f xs)

module _ (p : t.Program) (env : Environment) (knows : Knows p env) (types : List t.Ty) where
  -- the locals in scope have their types
  abbrev pub Scoped : List Local → Type 0
  Scoped [] = Unit {0}
  Scoped (l ∷ ls) = (slice_get types l.number ≡ Some (num env l.resolved)) × Scoped ls

  -- what is declared so far stands in the types
  abbrev pub Within : Scope → Type 0
  Within s = (parameters : List t.Ty) × (rest : List t.Ty) × (types ≡ num env s.result ∷ parameters ++ map (num env) s.declared ++ rest) × (length parameters ≡ s.parameters)

  -- more is declared
  abbrev pub Grows : Scope → Scope → Type 0
  Grows s k = (more : List ResolvedType) × (k.declared ≡ s.declared ++ more) × (k.parameters ≡ s.parameters) × (k.result ≡ s.result) × AllSmall more

  grows_refl : (s : Scope) → Grows s s
  grows_refl s = ([], sym (append-nil s.declared), refl, refl, tt)

  grows_trans : (a b c : Scope) → Grows a b → Grows b c → Grows a c
  grows_trans a b c x y = (x.0 ++ y.0, y.1 ∙ ap (λ l. l ++ y.0) x.1 ∙ append_assoc a.declared x.0 y.0, y.2 ∙ x.2, y.3 ∙ x.3, small_append x.0 y.0 x.4 y.4)

  map_append : (xs ys : List ResolvedType) → map (num env) (xs ++ ys) ≡ map (num env) xs ++ map (num env) ys
  map_append [] ys = refl
  map_append (x ∷ xs) ys = ap (λ l. num env x ∷ l) (map_append xs ys)

  within_back : (s k : Scope) → Grows s k → Within k → Within s
  within_back s k g v =
      let ds : map (num env) k.declared ≡ map (num env) s.declared ++ map (num env) g.0 = ap (map (num env)) g.1 ∙ map_append s.declared g.0 in (
        v.0,
        map (num env) g.0 ++ v.1,
        v.2 ∙ ap (λ r. num env r ∷ v.0 ++ map (num env) k.declared ++ v.1) g.3 ∙ ap (λ l. num env s.result ∷ v.0 ++ l ++ v.1) ds
            ∙ ap (λ l. num env s.result ∷ l ++ v.1) (sym (append_assoc v.0 (map (num env) s.declared) (map (num env) g.0)))
            ∙ ap (λ l. num env s.result ∷ l) (append_assoc (v.0 ++ map (num env) s.declared) (map (num env) g.0) v.1),
        v.3 ∙ g.2,
      )

  -- the next local is found at its number
  fresh_local : (s : Scope) (n : Name) (b : ResolvedType) → Within (with_local n b s) → slice_get types (next_number s) ≡ Some (num env b)
  fresh_local s n b v =
      let all = num env s.result ∷ v.0 ++ map (num env) s.declared in
      let e : types ≡ all ++ num env b ∷ v.1 =
      v.2 ∙ ap (λ l. num env s.result ∷ v.0 ++ l ++ v.1) (map_append s.declared (b ∷ []))
      ∙ ap (λ l. num env s.result ∷ l ++ v.1) (sym (append_assoc v.0 (map (num env) s.declared) (num env b ∷ [])))
      ∙ ap (λ l. num env s.result ∷ l) (append_assoc (v.0 ++ map (num env) s.declared) (num env b ∷ []) v.1) in
      let long : length all ≡ next_number s =
      ap suc (length-append v.0 (map (num env) s.declared) ∙ ap (λ n. n + length (map (num env) s.declared)) v.3 ∙ ap (λ n. s.parameters + n) (map_long (num env) s.declared)) in
      ap (λ k. slice_get types k) (sym long) ∙ ap (λ l. slice_get l (length all)) e ∙ slice_behind all (num env b) v.1

  result_there : (s : Scope) → Within s → slice_get types 0 ≡ Some (num env s.result)
  result_there s v = ap (λ l. slice_get l 0) v.2

  pub local_found : (ls : List Local) (n : Name) (l : Local) → Scoped ls → local_of ls n ≡ Some l → slice_get types l.number ≡ Some (num env l.resolved)
  local_found [] n l s e = absurd (cc e)
  local_found (m ∷ ls) n l s e = at (bytes_eq n m.name) e (λ q. local_found ls n l s.1 q)
    where
      at : (b : Bool) → cond b (Some m) (local_of ls n) ≡ Some l → (local_of ls n ≡ Some l → slice_get types l.number ≡ Some (num env l.resolved)) → slice_get types l.number ≡ Some (num env l.resolved)
      at true q go = let same : m ≡ l = cc q in subst (λ z. slice_get types z.number ≡ Some (num env z.resolved)) same s.0
      at false q go = go q

  sees : (s : Scope) → Scoped s.locals → Sees env types (within s)
  sees s sc = record { locals = λ n l e. local_found s.locals n l sc e; result = λ a e. absurd (cc e) }

  scoped_add : (ls : List Local) (l : Local) → Scoped ls → slice_get types l.number ≡ Some (num env l.resolved) → Scoped (ls ++ l ∷ [])
  scoped_add [] l s e = (e, tt)
  scoped_add (m ∷ ls) l s e = (s.0, scoped_add ls l s.1 e)

  expression_has : (a : ResolvedType) (s : Scope) (e : Expression) (x : t.Exp) → AreNamed p env (mentions e) → Scoped s.locals → expression_as env a s e ≡ Some x → ty.Has p types x (num env a)
  expression_has a s e x m sc q =
      some_has (IsOf p env knows types (within s) (sees s sc) a) (expression_as env a s e) x
      (wanted_ok p env knows types (within s) (sees s sc) a (typed_expression env (within s) e) (expression_ok p env knows types (within s) (sees s sc) e m)) q

  pub conditions_ok : (role : Role) (at : Context) (sees : Sees env types at) (specs : List Spec) → AreNamed p env (spec_mentions specs) → AllSome (ty.AllBool p types) (conditions env role at specs)
  conditions_ok role at sees [] m = tt
  conditions_ok role at sees (s ∷ specs) m = by_role (same_role role (role_of s)) (conditions_ok role at sees specs (named_right p env (mentions (condition_of s)) _ m))
    where
      by_role : (b : Bool) → AllSome (ty.AllBool p types) (conditions env role at specs)
          → AllSome (ty.AllBool p types) (elim b [
            | true ↦ and_so (wanted env BoolType (typed_expression env at (condition_of s))) (λ x. and_so (conditions env role at specs) (λ xs. Some (t.More x xs)))
            | false ↦ conditions env role at specs
          ])
      by_role true h =
          all_so (IsOf p env knows types at sees BoolType) (ty.AllBool p types) (wanted env BoolType (typed_expression env at (condition_of s))) _
          (wanted_ok p env knows types at sees BoolType _ (expression_ok p env knows types at sees (condition_of s) (named_left p env (mentions (condition_of s)) _ m))) (λ x f.
          all_so (ty.AllBool p types) (ty.AllBool p types) (conditions env role at specs) _ h (λ xs i. (f, i)))
      by_role false h = h

  conditions_have : (role : Role) (s : Scope) (specs : List Spec) (xs : t.Exps) → AreNamed p env (spec_mentions specs) → Scoped s.locals → conditions_of_all env role (within s) specs ≡ Some xs → ty.AllBool p types xs
  conditions_have role s specs xs m sc q =
      some_has (ty.AllBool p types) (conditions_of_all env role (within s) specs) xs
      (all_if (ty.AllBool p types) (all_are role specs) _ (λ e. conditions_ok role (within s) (sees s sc) specs m)) q

  -- what is known of a statement that stands here
  abbrev pub Good : Scope → Checked → Type 0
  Good s x = Grows s x.scope × (Within x.scope → Scoped s.locals → ty.Fits p types x.statement × Scoped x.scope.locals)

  -- the destination is found
  abbrev IsDestination : Scope → Destination → Type 0
  IsDestination s (ToLocal l) = Scoped s.locals → slice_get types l.number ≡ Some (num env l.resolved)
  IsDestination s (ToPlace q) = Scoped s.locals → ty.Holds p types q.place (num env q.resolved)

  destination_ok : (o : Option Name) (s : Scope) (d : Expression) → AreNamed p env (mentions d) → AllSome (IsDestination s) (destination_by env o s d)
  destination_ok (Some n) s d m = all_go (IsDestination s) (local_of s.locals n) _ (λ l q sc. local_found s.locals n l sc q)
  destination_ok None s d m =
      all_go (IsDestination s) (typed_place env (within s) d) _ (λ x q sc.
      some_has (IsPlace p env knows types (within s) (sees s sc)) _ x (place_ok p env knows types (within s) (sees s sc) d m) q)

  assigned_ok : (s : Scope) (e : Expression) → AreNamed p env (mentions e) → (d : Destination) → IsDestination s d → AllSome (Good s) (assigned env s e d)
  assigned_ok s e m (ToLocal l) f =
      all_go (Good s) (expression_as env l.resolved s e) _ (λ x q. (grows_refl s, λ v sc. ((num env l.resolved, f sc, expression_has l.resolved s e x m sc q), sc)))
  assigned_ok s e m (ToPlace d) f =
      all_if (Good s) (is_small d.resolved) _ (λ z. all_go (Good s) (expression_as env d.resolved s e) _ (λ x q.
      (grows_refl s, λ v sc. ((num env d.resolved, small_is env.struct_names d.resolved z, f sc, expression_has d.resolved s e x m sc q), sc))))

  updated_ok : (s : Scope) (o : Int32Op) (x : t.Exp) → (Scoped s.locals → ty.Has p types x t.IntTy) → (d : Destination) → IsDestination s d → AllSome (Good s) (updated env s o x d)
  updated_ok s o x h (ToLocal l) f =
      all_if (Good s) (same_type l.resolved IntType) _ (λ z. (grows_refl s, λ v sc. ((f sc ∙ ap (λ r. Some (num env r)) (same_type_is l.resolved IntType z), h sc), sc)))
  updated_ok s o x h (ToPlace d) f =
      all_if (Good s) (same_type d.resolved IntType) _ (λ z. (grows_refl s, λ v sc. ((subst (ty.Holds p types d.place) (ap (num env) (same_type_is d.resolved IntType z)) (f sc), h sc), sc)))

  evaluated_ok : (s : Scope) (e : Expression) → AreNamed p env (mentions e) → Scoped s.locals → AllSome (λ z. (u : t.Ty) × ty.Has p types z u) (and_so (typed_expression env (within s) e) (evaluated env e))
  evaluated_ok s e m sc =
      all_so (IsTyped p env knows types (within s) (sees s sc)) (λ z. (u : t.Ty) × ty.Has p types z u) (typed_expression env (within s) e) (evaluated env e) (expression_ok p env knows types (within s) (sees s sc) e m) by_typing
    where
      by_typing : (x : Typing) → IsTyped p env knows types (within s) (sees s sc) x → AllSome (λ z. (u : t.Ty) × ty.Has p types z u) (evaluated env e x)
      by_typing (Has a x) g = all_if (λ z. (u : t.Ty) × ty.Has p types z u) (is_small a || (is_call e && same_type a VoidType)) (Some x) (λ q. (num env a, g))
      by_typing (IsNull x) g = (t.PointerTy t.IntTy, g t.IntTy)

  -- a declaration: the locals grow by one of the next number
  declared_ok : (n : Name) (b : ResolvedType) (s : Scope) → is_small b ≡ true
      → AllSome (λ k. Grows s k × (Within k → (slice_get types (next_number s) ≡ Some (num env b)) × (Scoped s.locals → Scoped k.locals))) (declared env n b s)
  declared_ok n b s h =
      all_if _ (not (is_taken env s n)) _ (λ e. ((b ∷ [], refl, refl, refl, (h, tt)), (λ v. let f = fresh_local s n b v in (f, λ sc. scoped_add s.locals _ sc f))))

  one_has : ty.Has p types one t.IntTy
  one_has = (refl, fits_signed_from_abs w32 (pos 1) (omega arith))

  simple_ok : (a : SimpleStatement) (s : Scope) → AreNamed p env (simple_mentions a) → AllSome (Good s) (typed_simple env a s)
  simple_ok (Declare a n) s m =
      all_go (Good s) (small_type env.typedefs a) _ (λ r e. all_so _ (Good s) (declared env n r s) _ (declared_ok n r s (small_of env.typedefs a r e)) (λ k d. (d.0, λ v sc. (tt, (d.1 v).1 sc))))
  simple_ok (Initialize a n e) s m =
      all_go (Good s) (small_type env.typedefs a) _ (λ r q. all_go (Good s) (expression_as env r s e) _ (λ x i.
      all_so _ (Good s) (declared env n r s) _ (declared_ok n r s (small_of env.typedefs a r q)) (λ k d.
      (d.0, λ v sc. ((num env r, (d.1 v).0, expression_has r s e x m sc i), (d.1 v).1 sc)))))
  simple_ok (Assign d e) s m =
      all_so (IsDestination s) (Good s) (destination env s d) _ (destination_ok (as_variable d) s d (named_left p env (mentions d) _ m)) (assigned_ok s e (named_right p env (mentions d) _ m))
  simple_ok (Update d o e) s m =
      all_so (IsDestination s) (Good s) (destination env s d) _ (destination_ok (as_variable d) s d (named_left p env (mentions d) _ m)) (λ q f.
      all_go (Good s) (change_of (operator_rule o)) _ (λ k i. all_go (Good s) (expression_as env IntType s e) _ (λ x j.
      updated_ok s k x (λ sc. expression_has IntType s e x (named_right p env (mentions d) _ m) sc j) q f)))
  simple_ok (Step d way) s m =
      all_so (IsDestination s) (Good s) (destination env s d) _ (destination_ok (as_variable d) s d m) (updated_ok s (step_of way) one (λ sc. one_has))
  simple_ok (Evaluate e) s m =
      all_go (Good s) (and_so (typed_expression env (within s) e) (evaluated env e)) _ (λ x q.
      (grows_refl s, λ v sc. (some_has (λ z. (u : t.Ty) × ty.Has p types z u) _ x (evaluated_ok s e m sc) q, sc)))

  part_ok : (a : Option SimpleStatement) (s : Scope) → AreNamed p env (part_mentions a) → AllSome (Good s) (typed_part env a s)
  part_ok None s m = (grows_refl s, λ v sc. (tt, sc))
  part_ok (Some a) s m = simple_ok a s m

  mutual
    statement_ok : (b : Statement) (s : Scope) → AreNamed p env (statement_mentions b) → AllSome (Good s) (typed_statement env b s)
    statement_ok (Simple a) s m = simple_ok a s m
    statement_ok (Block rest) s m = all_so (Good s) (Good s) (typed_statements env rest s) _ (statements_ok rest s m) (λ x g. (g.0, λ v sc. ((g.1 v sc).0, sc)))
    statement_ok (Annotation specs) s m = all_go (Good s) (conditions_of_all env Assertion (within s) specs) _ (λ xs q. (grows_refl s, λ v sc. (conditions_have Assertion s specs xs m sc q, sc)))
    statement_ok Return s m = all_if (Good s) (same_type s.result VoidType) _ (λ z. (grows_refl s, λ v sc. (tt, sc)))
    statement_ok (ReturnValue e) s m =
        all_if (Good s) (not (same_type s.result VoidType)) _ (λ z. all_go (Good s) (expression_as env s.result s e) _ (λ x q.
        (grows_refl s, λ v sc. ((num env s.result, result_there s v, expression_has s.result s e x m sc q), sc))))
    statement_ok (If c a) s m =
        all_go (Good s) (expression_as env BoolType s c) _ (λ z q. all_so (Good s) (Good s) (typed_statement env a s) _ (statement_ok a s (named_right p env (mentions c) _ m)) (λ x g.
        (g.0, λ v sc. ((expression_has BoolType s c z (named_left p env (mentions c) _ m) sc q, (g.1 v sc).0, tt), sc))))
    statement_ok (IfElse c a b) s m =
        let first = named_left p env (mentions c ++ statement_mentions a) (statement_mentions b) m in
        all_go (Good s) (expression_as env BoolType s c) _ (λ z q. all_so (Good s) (Good s) (typed_statement env a s) _ (statement_ok a s (named_right p env (mentions c) _ first)) (λ x g.
        all_so (Good (leave s x.scope)) (Good s) (typed_statement env b (leave s x.scope)) _ (statement_ok b (leave s x.scope) (named_right p env (mentions c ++ statement_mentions a) _ m)) (λ y i. (
          grows_trans s x.scope y.scope g.0 i.0,
          λ v sc. ((expression_has BoolType s c z (named_left p env (mentions c) _ first) sc q, (g.1 (within_back x.scope y.scope i.0 v) sc).0, (i.1 v sc).0), sc),
        ))))
    statement_ok (While c notes a) s m =
        let first = named_left p env (mentions c ++ spec_mentions (specs_in notes)) (statement_mentions a) m in
        all_go (Good s) (expression_as env BoolType s c) _ (λ z q. all_go (Good s) (conditions_of_all env Invariant (within s) (specs_in notes)) _ (λ xs r.
        all_so (Good (in_body s)) (Good s) (typed_statement env a (in_body s)) _ (statement_ok a (in_body s) (named_right p env (mentions c ++ spec_mentions (specs_in notes)) _ m)) (λ x g.
        (g.0, λ v sc. ((conditions_have Invariant s (specs_in notes) xs (named_right p env (mentions c) _ first) sc r, expression_has BoolType s c z (named_left p env (mentions c) _ first) sc q, (g.1 v sc).0, tt), sc)))))
    statement_ok (For first c third notes a) s m =
        let m1 = part_mentions first in
        let m2 = m1 ++ mentions c in
        let m3 = m2 ++ part_mentions third in
        let m4 = m3 ++ spec_mentions (specs_in notes) in
        let n4 = named_left p env m4 (statement_mentions a) m in
        let n3 = named_left p env m3 (spec_mentions (specs_in notes)) n4 in
        let n2 = named_left p env m2 (part_mentions third) n3 in
        all_so (Good s) (Good s) (typed_part env first s) _ (part_ok first s (named_left p env m1 (mentions c) n2)) (λ x gx.
        all_go (Good s) (expression_as env BoolType x.scope c) _ (λ z q. all_go (Good s) (conditions_of_all env Invariant (within x.scope) (specs_in notes)) _ (λ xs r.
        all_so (Good (in_body x.scope)) (Good s) (typed_statement env a (in_body x.scope)) _ (statement_ok a (in_body x.scope) (named_right p env m4 (statement_mentions a) m)) (λ y gy.
        all_if (Good s) (not (declares third)) _ (λ e.
        all_so (Good (leave x.scope y.scope)) (Good s) (typed_part env third (leave x.scope y.scope)) _ (part_ok third (leave x.scope y.scope) (named_right p env m2 (part_mentions third) n3)) (λ w gw. (
          grows_trans s x.scope w.scope gx.0 (grows_trans x.scope y.scope w.scope gy.0 gw.0),
          λ v sc.
              let vy = within_back (leave x.scope y.scope) w.scope gw.0 v in
              let vx = within_back x.scope y.scope gy.0 vy in
              let fx = gx.1 vx sc in
              let fy = gy.1 vy fx.1 in (
                (
                  fx.0,
                  (
                    (
                      conditions_have Invariant x.scope (specs_in notes) xs (named_right p env m3 (spec_mentions (specs_in notes)) n4) fx.1 r,
                      expression_has BoolType x.scope c z (named_right p env m1 (mentions c) n2) fx.1 q,
                      fy.0,
                      (gw.1 v fx.1).0,
                    ),
                    tt,
                  ),
                ),
                sc,
              ),
        )))))))
    statement_ok (Assert e) s m = all_go (Good s) (expression_as env BoolType s e) _ (λ x q. (grows_refl s, λ v sc. (expression_has BoolType s e x m sc q, sc)))
    statement_ok (Error e) s m = all_go (Good s) (expression_as env StringType s e) _ (λ x q. (grows_refl s, λ v sc. (expression_has StringType s e x m sc q, sc)))
    statement_ok Break s m = all_if (Good s) s.in_loop _ (λ z. (grows_refl s, λ v sc. (tt, sc)))
    statement_ok Continue s m = all_if (Good s) s.in_loop _ (λ z. (grows_refl s, λ v sc. (tt, sc)))

    pub statements_ok : (ss : Statements) (s : Scope) → AreNamed p env (statements_mentions ss) → AllSome (Good s) (typed_statements env ss s)
    statements_ok nothing s m = (grows_refl s, λ v sc. (tt, sc))
    statements_ok (also a rest) s m =
        all_so (Good s) (Good s) (typed_statement env a s) _ (statement_ok a s (named_left p env (statement_mentions a) _ m)) (λ x g.
        all_so (Good x.scope) (Good s) (typed_statements env rest x.scope) _ (statements_ok rest x.scope (named_right p env (statement_mentions a) _ m)) (λ y i.
        (grows_trans s x.scope y.scope g.0 i.0, λ v sc. let f = g.1 (within_back x.scope y.scope i.0 v) sc in let k = i.1 v f.1 in ((f.0, k.0), k.1))))
