-- Steps of a run: what comes of it is the same behind each.
use Rattle.std.proofs.Common.{◌≡◌, ◌++◌, refl, sym, ap, ◌∙◌, subst, ℕ, Bool, true, false, List, [], ◌∷◌, map, Bor, Box, Result, Ok, Err}
use Rattle.std.specs.declared.vec.Vec.{Vec}
use Rattle.std.specs.declared.alloc.Global.{Global}
use Rattle.cells.specs.Stops.{ArithFault, AssertFailed}
use Rattle.cells.specs.declared.int32.Int32Op.{Int32Op}
use Rattle.cells.specs.Outcomes as o
use Rattle.cells.specs.Outcomes.{then_do}
use Rattle.c0_typed.specs.Values as v
use Rattle.c0_typed.specs.Trees as t
use Rattle.c0_typed.specs.Meaning as m
use Rattle.c0_typed.specs.Views.{block_of, exp_of, exps_of, function_of, place_of, type_of}
use Rattle.c0_typed.specs.declared.tree.Expression.{Expression}
use Rattle.c0_typed.specs.declared.tree.Function.{Function}
use Rattle.c0_typed.specs.declared.tree.Place.{Place, Deref, Index, Field}
use Rattle.c0_typed.specs.declared.tree.Statement.{Statement}
use Rattle.c0_typed.specs.declared.tree.ValueType.{ValueType}
use Rattle.c0_values.specs.declared.value.Value.{Value}
use Rattle.c0_meaning.specs.declared.context.Context.{Context}
use Rattle.c0_meaning.specs.declared.pending.PlainRun.{PlainRun}
use Rattle.c0_values.specs.declared.plain_state.Halt.{Halt}
use Rattle.c0_values.specs.declared.plain_state.Halt.TheVariants.{Stopped, Cut, Memory}
use Rattle.c0_meaning.specs.declared.task.Callee.{Callee}
use Rattle.c0_meaning.specs.declared.task.Task.{Task}
use Rattle.c0_meaning.specs.declared.task.Task.TheVariants as task
use Rattle.c0_values.specs.PlainStates.{Agrees, Texts, value_of}
use Rattle.c0_meaning.specs.Run.{Calls, structs_in, texts_in, values_of}
use Rattle.c0_meaning.specs.Pendings.{Combines, Completes, Extends, Gives, Reaches, Pending, Rest, Steps, behind, called, calling, calls_at, checked, completes, evaluates, executes, giving, leaving, means, pending_of, state_in}

-- the rest of an expression that is this one
pub combines_as : (c : Context) (x y : t.Exp) (r : PlainRun) (result : Result (Unit {0}) Halt) (s : PlainRun) → x ≡ y → Combines c y r result s → Combines c x r result s
combines_as c x y r result s e h = subst (λ z. Combines c z r result s) (sym e) h

-- the rest of a statement that is this one
pub completes_as : (c : Context) (x y : t.Stmt) (r : PlainRun) (result : Result (Unit {0}) Halt) (s : PlainRun) → x ≡ y → Completes c y r result s → Completes c x r result s
completes_as c x y r result s e h = subst (λ z. Completes c z r result s) (sym e) h

-- the rest of a place that is this one
pub reaches_as : (c : Context) (x y : t.Place) (r : PlainRun) (result : Result (Unit {0}) Halt) (s : PlainRun) → x ≡ y → Reaches c y r result s → Reaches c x r result s
reaches_as c x y r result s e h = subst (λ z. Reaches c z r result s) (sym e) h

pub reaches_deref : (c : Context) (place : Place) (ty : ValueType) (e : Box Expression Global) (r : PlainRun) (result : Result (Unit {0}) Halt) (s : PlainRun) → place ≡ Deref ty e
    → ((ty : t.Ty) (a : t.Exp) → Reaches c (t.Deref ty a) r result s) → Reaches c (place_of (texts_in c) place) r result s
reaches_deref c place ty e r result s is h = reaches_as c _ _ r result s (ap (place_of (texts_in c)) is) (h (type_of ty) (exp_of (texts_in c) e.value))

pub reaches_index : (c : Context) (place : Place) (ty : ValueType) (e i : Box Expression Global) (r : PlainRun) (result : Result (Unit {0}) Halt) (s : PlainRun) → place ≡ Index ty e i
    → ((ty : t.Ty) (a b : t.Exp) → Reaches c (t.Index ty a b) r result s) → Reaches c (place_of (texts_in c) place) r result s
reaches_index c place ty e i r result s is h = reaches_as c _ _ r result s (ap (place_of (texts_in c)) is) (h (type_of ty) (exp_of (texts_in c) e.value) (exp_of (texts_in c) i.value))

pub reaches_field : (c : Context) (place : Place) (j : ℕ) (inner : Box Place Global) (k : ℕ) (r : PlainRun) (result : Result (Unit {0}) Halt) (s : PlainRun) → place ≡ Field j inner k
    → ((j : ℕ) (p : t.Place) → Reaches c (t.Field j p k) r result s) → Reaches c (place_of (texts_in c) place) r result s
reaches_field c place j inner k r result s is h = reaches_as c _ _ r result s (ap (place_of (texts_in c)) is) (h j (place_of (texts_in c) inner.value))

-- a step that halts as an evaluation does
pub halts_so : (c : Context) (texts : Texts) (h : Halt) (x : m.Outcome v.Value) (p : Pending) → Agrees (value_of texts) (Err h) x (state_in c p) → Steps c (Err h) x p
halts_so c texts (Stopped y) x p e = e
halts_so c texts Cut x p e = e
halts_so c texts Memory x p e = tt

-- a step that comes to the same
pub steps_as : (c : Context) (result : Result (Unit {0}) Halt) (x y : m.Outcome v.Value) (p : Pending) → x ≡ y → Steps c result y p → Steps c result x p
steps_as c result x y p e h = subst (λ z. Steps c result z p) (sym e) h

-- tasks that stand for what is to come of the run
pub extends_steps : (c : Context) (result : Result (Unit {0}) Halt) (ts : List Task) (r s : PlainRun) (x : m.Outcome v.Value) → Extends result ts r s
    → x ≡ means c (record (pending_of r) { tasks = ts ++ (pending_of r).tasks }) → Steps c result x (pending_of s)
extends_steps c (Ok u) ts r s x e h = h ∙ ap (means c) (sym e)
extends_steps c (Err u) ts r s x e h = subst (λ k. Steps c (Err k) x (pending_of s)) (sym e) tt

-- a value that is given to what is to come of the run
pub gives_steps : (c : Context) (result : Result (Unit {0}) Halt) (a : Value) (r s : PlainRun) (x : m.Outcome v.Value) → Gives result a r s
    → x ≡ means c (record (pending_of r) { values = a ∷ (pending_of r).values }) → Steps c result x (pending_of s)
gives_steps c (Ok u) a r s x e h = h ∙ ap (means c) (sym e)
gives_steps c (Err u) a r s x e h = subst (λ k. Steps c (Err k) x (pending_of s)) (sym e) tt

-- a list of values with one more
pub map_push : {A B : Type 0} (f : A → B) (xs : List A) (x : A) → map f (xs ++ x ∷ []) ≡ map f xs ++ f x ∷ []
map_push f [] x = refl
map_push f (y ∷ ys) x = ap (λ l. f y ∷ l) (map_push f ys x)

-- ---- `local op= value`

module _ (p : v.Value → m.State → m.Outcome v.Value) (f : v.Value → m.State → m.State) (go : m.Way → m.State → m.Outcome v.Value) where
  second_of : (e : m.Outcome v.Value) → then_do (then_do e (λ a s. o.Done m.Next (f a s))) go ≡ then_do e (λ a s. go m.Next (f a s))
  second_of (o.Done a s) = refl
  second_of (o.Stopped x out) = refl
  second_of (o.Cut out) = refl

  both_of : (e : m.Outcome v.Value) → then_do (then_do e (λ a s. then_do (p a s) (λ b u. o.Done m.Next (f b u)))) go ≡ then_do e (λ a s. then_do (p a s) (λ b u. go m.Next (f b u)))
  both_of (o.Done a s) = second_of (p a s)
  both_of (o.Stopped x out) = refl
  both_of (o.Cut out) = refl

-- what the local holds is given before the value
pub update_given : (c : Context) (k : Rest) (d : ℕ) (vs : List v.Value) (ps : List v.Spot) (x : ℕ) (op : Int32Op) (e : t.Exp) (s : m.State)
    → leaving c k d vs ps (executes c d (t.Update x op e) s) ≡ then_do (evaluates c d e s) (λ a u. completes c (t.Update x op e) k d (a ∷ m.local x s ∷ vs) ps u)
update_given c k d vs ps x op e s =
    both_of (λ a u. m.value_or ArithFault (m.binary_value op (m.local x s) a) u) (m.set_local x) (λ way u. k way d vs ps u) (evaluates c d e s)

-- ---- arguments

join_one : (xs ys : List v.Value) (a : v.Value) → xs ++ (a ∷ ys) ≡ (xs ++ a ∷ []) ++ ys
join_one [] ys a = refl
join_one (x ∷ xs) ys a = ap (λ l. x ∷ l) (join_one xs ys a)

module _ (given : List v.Value) (go : List v.Value → m.State → m.Outcome v.Value) where
  others_of : (a : v.Value) (p : m.Outcome (List v.Value))
      → then_do (then_do p (λ ws u. o.Done (a ∷ ws) u)) (λ xs u. go (given ++ xs) u) ≡ then_do p (λ ws u. go ((given ++ a ∷ []) ++ ws) u)
  others_of a (o.Done ws u) = ap (λ l. go l u) (join_one given ws a)
  others_of a (o.Stopped x out) = refl
  others_of a (o.Cut out) = refl

  first_of : (e : m.Outcome v.Value) (more : m.State → m.Outcome (List v.Value))
      → then_do (then_do e (λ a s. then_do (more s) (λ ws u. o.Done (a ∷ ws) u))) (λ xs u. go (given ++ xs) u)
      ≡ then_do e (λ a s. then_do (more s) (λ ws u. go ((given ++ a ∷ []) ++ ws) u))
  first_of (o.Done a s) more = others_of a (more s)
  first_of (o.Stopped x out) more = refl
  first_of (o.Cut out) more = refl

-- the first of the arguments that are left, and then the others
pub calling_more : (c : Context) (k : Rest) (d : ℕ) (vs : List v.Value) (ps : List v.Spot) (e : Expression) (rest : List Expression) (given : List v.Value) (f : Callee) (s : m.State)
    → calling c k d vs ps (e ∷ rest) given f s ≡ then_do (evaluates c d (exp_of (texts_in c) e) s) (λ a u. calling c k d vs ps rest (given ++ a ∷ []) f u)
calling_more c k d vs ps e rest given f s =
    first_of given (λ xs u. giving c k d vs ps (called c d f xs u)) (evaluates c d (exp_of (texts_in c) e) s) (m.evals (structs_in c) (calls_at c d) (exps_of (texts_in c) rest))

all_of : (p : m.Outcome (List v.Value)) (call : List v.Value → m.State → m.Outcome v.Value) (go : v.Value → m.State → m.Outcome v.Value)
    → then_do (then_do p call) go ≡ then_do p (λ ws u. then_do (call ws u) go)
all_of (o.Done ws u) call go = refl
all_of (o.Stopped x out) call go = refl
all_of (o.Cut out) call go = refl

-- a call behind its arguments, none of which is given
pub calling_all : (c : Context) (k : Rest) (d : ℕ) (vs : List v.Value) (ps : List v.Spot) (es : List Expression) (f : Callee) (s : m.State)
    → giving c k d vs ps (then_do (m.evals (structs_in c) (calls_at c d) (exps_of (texts_in c) es) s) (called c d f)) ≡ calling c k d vs ps es [] f s
calling_all c k d vs ps es f s = all_of (m.evals (structs_in c) (calls_at c d) (exps_of (texts_in c) es) s) (called c d f) (λ a u. k m.Next d (a ∷ vs) ps u)

-- ---- calls

-- it was not left by a return
abbrev IsNext : m.Outcome m.Way → Type 0
IsNext (o.Done m.Returned s) = ⊥
IsNext (o.Done m.Broken s) = ⊥
IsNext (o.Done m.Continued s) = ⊥
IsNext _ = Unit {0}

-- conditions of a contract return nothing
holds_next : (e : m.Outcome v.Value) (go : m.State → m.Outcome m.Way) → ((s : m.State) → IsNext (go s)) → IsNext (m.and_then (then_do e m.holds) go)
holds_next (o.Done a s) go h =
    let at : Bool → m.Outcome m.Way = λ b. m.and_then (elim b as (λ _. m.Outcome m.Way) [ true ↦ o.Done m.Next s | false ↦ m.stop AssertFailed s ]) go in
    elim (v.as_truth a) as (λ b. IsNext (at b)) [ true ↦ h s | false ↦ tt ]
holds_next (o.Stopped x out) go h = tt
holds_next (o.Cut out) go h = tt

all_next : (checks : Bool) (structs : List v.Tree) (call : Calls) (es : t.Exps) (s : m.State) → IsNext (m.all_hold checks structs call es s)
all_next checks structs call t.NoExp s = tt
all_next checks structs call (t.More e rest) s = holds_next (m.eval structs call e s) (m.all_hold checks structs call rest) (all_next checks structs call rest)

checked_next : (checks : Bool) (structs : List v.Tree) (call : Calls) (es : t.Exps) (s : m.State) → IsNext (m.checked checks structs call es s)
checked_next true structs call es s = all_next true structs call es s
checked_next false structs call es s = tt

module _ (c : Context) (tasks : List Task) (d n : ℕ) (vs : List v.Value) (ps : List v.Spot) (outer : Vec Value Global) (post : Bor (List Expression)) where
  abbrev ends : m.State → m.Outcome v.Value
  ends x = o.Done (m.local 0 x) (record x { locals = values_of (texts_in c) outer })

  abbrev goes : v.Value → m.State → m.Outcome v.Value
  goes a s = behind c tasks m.Next d (a ∷ vs) ps s

  call_ends : (w : m.Outcome m.Way) → IsNext w → then_do (then_do w (λ way x. ends x)) goes ≡ then_do w (λ way x. behind c (task.EndCall outer d ∷ tasks) way n vs ps x)
  call_ends (o.Done m.Next x) h = refl
  call_ends (o.Done m.Returned x) h = absurd h
  call_ends (o.Done m.Broken x) h = absurd h
  call_ends (o.Done m.Continued x) h = absurd h
  call_ends (o.Stopped x out) h = refl
  call_ends (o.Cut out) h = refl

  abbrev post_holds : m.State → m.Outcome m.Way
  post_holds s = checked c n (exps_of (texts_in c) post.now) s

  body_ends : (w : m.Outcome m.Way)
      → then_do (then_do w (λ way s. then_do (post_holds s) (λ way x. ends x))) goes
      ≡ then_do w (λ way s. behind c (task.EndBody ∷ task.Check post ∷ task.EndCall outer d ∷ tasks) way n vs ps s)
  body_ends (o.Done m.Next s) = call_ends (post_holds s) (checked_next c.checks (structs_in c) (calls_at c n) (exps_of (texts_in c) post.now) s)
  body_ends (o.Done m.Returned s) = call_ends (post_holds s) (checked_next c.checks (structs_in c) (calls_at c n) (exps_of (texts_in c) post.now) s)
  body_ends (o.Done m.Broken s) = call_ends (post_holds s) (checked_next c.checks (structs_in c) (calls_at c n) (exps_of (texts_in c) post.now) s)
  body_ends (o.Done m.Continued s) = call_ends (post_holds s) (checked_next c.checks (structs_in c) (calls_at c n) (exps_of (texts_in c) post.now) s)
  body_ends (o.Stopped x out) = refl
  body_ends (o.Cut out) = refl

  body_begins : (body : Bor (List Statement)) (w : m.Outcome m.Way)
      → then_do (then_do (m.and_then w (executes c n (block_of (texts_in c) body.now))) (λ way s. then_do (post_holds s) (λ way x. ends x))) goes
      ≡ then_do w (λ way s. behind c (task.ExecuteAll body ∷ task.EndBody ∷ task.Check post ∷ task.EndCall outer d ∷ tasks) way n vs ps s)
  body_begins body (o.Done m.Next s) = body_ends (executes c n (block_of (texts_in c) body.now) s)
  body_begins body (o.Done m.Returned s) = body_ends (o.Done m.Returned s)
  body_begins body (o.Done m.Broken s) = body_ends (o.Done m.Broken s)
  body_begins body (o.Done m.Continued s) = body_ends (o.Done m.Continued s)
  body_begins body (o.Stopped x out) = refl
  body_begins body (o.Cut out) = refl

-- the call of a function that is there: its conditions and its body are pending
pub entering : (c : Context) (tasks : List Task) (d n : ℕ) (vs : List v.Value) (ps : List v.Spot) (outer : Vec Value Global) (pre post : Bor (List Expression)) (body : Bor (List Statement))
    (f : Function) (args : List v.Value) (u : m.State)
    → pre.now ≡ f.preconditions.items → post.now ≡ f.postconditions.items → body.now ≡ f.body.items → u.locals ≡ values_of (texts_in c) outer
    → giving c (behind c tasks) d vs ps (m.in_function c.checks (structs_in c) (calls_at c n) (function_of (texts_in c) f) args u)
    ≡ behind c (task.Check pre ∷ task.ExecuteAll body ∷ task.EndBody ∷ task.Check post ∷ task.EndCall outer d ∷ tasks) m.Next n vs ps (record u { locals = m.locals_at_entry (function_of (texts_in c) f) args })
entering c tasks d n vs ps outer pre post body f args u e1 e2 e3 e4 =
    let texts = texts_in c in
    let begun : m.State = record u { locals = m.locals_at_entry (function_of texts f) args } in
    let form : List Expression → List Expression → List Statement → List v.Value → m.Outcome v.Value = λ a b all ls.
    then_do (then_do (m.and_then (checked c n (exps_of texts a) begun) (executes c n (block_of texts all))) (λ way s. then_do (checked c n (exps_of texts b) s) (λ way x. o.Done (m.local 0 x) (record x { locals = ls }))))
    (λ a s. behind c tasks m.Next d (a ∷ vs) ps s) in
    ap (λ a. form a f.postconditions.items f.body.items u.locals) (sym e1)
    ∙ ap (λ b. form pre.now b f.body.items u.locals) (sym e2)
    ∙ ap (λ all. form pre.now post.now all u.locals) (sym e3)
    ∙ ap (form pre.now post.now body.now) e4
    ∙ body_begins c tasks d n vs ps outer post body (checked c n (exps_of texts pre.now) begun)
