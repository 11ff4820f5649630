-- Functions from their parts, and their order.
use Rattle.std.proofs.Common.{◌≡◌, refl, ap, ◌∙◌, sym, subst, arith, rules, List, [], ◌∷◌, ◌++◌, ℕ, zero, suc, ◌+◌, ◌<◌, ◌≤◌, length, map, set, get_or, drop, Option, Some, None, append_assoc, length-append}
use Rattle.std.specs.Prelude.{slice_get}
use Rattle.std.specs.List.{swap}
use Rattle.std.proofs.lemmas.List.{get_or-map, map-set, length-map}
use Rattle.std.specs.declared.vec.Vec.{Vec}
use Rattle.std.specs.declared.alloc.Global.{Global}
use Rattle.c0_typed.specs.Views.{texts_of, type_of}
use Rattle.c0_typed.specs.declared.tree.Function.{Function}
use Rattle.code_form.specs.declared.form.Kind.{Kind}
use Rattle.middle_form.specs.Form as m
use Rattle.lower_expressions.specs.Expressions as parts
use Rattle.lower.specs.Exits.{whole}
use Rattle.lower.specs.Lowered as l
use Rattle.lower.specs.Building.{body_kinds, block_code, function_code, locals_of}
use Rattle.lower_expressions.specs.Building.{conditions_code, conditions_kinds, kind_at, structs_in}
use Rattle.lower_expressions.specs.declared.context.Context.{Context}
use Rattle.lower.proofs.StatementRows.{body_code_is}

-- registers: parameters, locals, the result, and those of what must hold on entry, of the body and of what must hold at the end
pub kinds_in_order : (k0 k1 k2 k3 k4 k5 k6 p q a b e : List Kind) (k : Kind) → k0 ≡ [] → k1 ≡ k0 ++ p → k2 ≡ k1 ++ q → k3 ≡ k2 ++ k ∷ [] → k4 ≡ k3 ++ a → k5 ≡ k4 ++ b → k6 ≡ k5 ++ e → k6 ≡ p ++ (q ++ (k ∷ (a ++ (b ++ e))))
kinds_in_order k0 k1 k2 k3 k4 k5 k6 p q a b e k e0 e1 e2 e3 e4 e5 e6 =
    let s1 : k1 ≡ p = e1 ∙ ap (λ x. x ++ p) e0 in
    let s2 : k2 ≡ p ++ q = e2 ∙ ap (λ x. x ++ q) s1 in
    let s3 : k3 ≡ (p ++ q) ++ k ∷ [] = e3 ∙ ap (λ x. x ++ k ∷ []) s2 in
    let s4 : k4 ≡ ((p ++ q) ++ k ∷ []) ++ a = e4 ∙ ap (λ x. x ++ a) s3 in
    let s5 : k5 ≡ (((p ++ q) ++ k ∷ []) ++ a) ++ b = e5 ∙ ap (λ x. x ++ b) s4 in
    e6 ∙ ap (λ x. x ++ e) s5 ∙ regroup p q a b e k
  where
    regroup : (p q a b e : List Kind) (k : Kind) → ((((p ++ q) ++ k ∷ []) ++ a) ++ b) ++ e ≡ p ++ (q ++ (k ∷ (a ++ (b ++ e))))
    regroup p q a b e k = simp append_assoc

-- how many there are before the body
pub before_body : (k0 k1 k2 k3 p q : List Kind) (k : Kind) → k0 ≡ [] → k1 ≡ k0 ++ p → k2 ≡ k1 ++ q → k3 ≡ k2 ++ k ∷ [] → (length k2 ≡ length p + length q) × (length k3 ≡ suc (length p + length q))
before_body k0 k1 k2 k3 p q k e0 e1 e2 e3 =
    let l2 : length k2 ≡ length p + length q = omega (arith, ap length e0, ap length e1, ap length e2, length-append k0 p, length-append k1 q) in
    (l2, omega (arith, l2, ap length e3, length-append k2 (k ∷ [])))

-- the code of a function whose result stands in register n
abbrev pub built : Context → ℕ → Function → m.Function
built c n f = record {
  result = l.result_kind (length (structs_in c)) c.singles.now (type_of f.result);
  parameters = length f.parameters.items;
  kinds = map (kind_at c) f.parameters.items ++ (map (kind_at c) f.locals.items ++ (kind_at c f.result ∷ (conditions_kinds c f.preconditions.items ++ (body_kinds c f.body.items ++ conditions_kinds c f.postconditions.items))));
  body = parts.sequence (parts.conditions_code (structs_in c) c.singles.now (texts_of c.typed.now) c.typed.now.functions.items c.typed.now.main n (parts.checked c.checks f.preconditions.items) (suc n)
      ++ (m.Block (parts.sequence (l.body_code (structs_in c) c.singles.now (texts_of c.typed.now) c.typed.now.functions.items c.typed.now.main n c.checks f.body.items (suc n + length (conditions_kinds c f.preconditions.items))))
      ∷ parts.conditions_code (structs_in c) c.singles.now (texts_of c.typed.now) c.typed.now.functions.items c.typed.now.main n (parts.checked c.checks f.postconditions.items) (suc n + length (conditions_kinds c f.preconditions.items) + length (body_kinds c f.body.items))));
  value = n;
}

pub function_is : (c : Context) (f : Function) → c.locals ≡ locals_of f → built c c.locals f ≡ function_code c f
function_is c f e = ap (λ n. built c n f) e

-- from its parts
pub parts_are : (c : Context) (f : Function) (g : m.Function) → g.result ≡ l.result_kind (length (structs_in c)) c.singles.now (type_of f.result) → g.parameters ≡ length f.parameters.items
    → g.kinds ≡ map (kind_at c) f.parameters.items ++ (map (kind_at c) f.locals.items ++ (kind_at c f.result ∷ (conditions_kinds c f.preconditions.items ++ (body_kinds c f.body.items ++ conditions_kinds c f.postconditions.items))))
    → g.body ≡ parts.sequence (conditions_code c f.preconditions.items (suc c.locals) ++ (m.Block (parts.sequence (block_code c f.body.items (suc c.locals + length (conditions_kinds c f.preconditions.items)) whole))
    ∷ conditions_code c f.postconditions.items (suc c.locals + length (conditions_kinds c f.preconditions.items) + length (body_kinds c f.body.items))))
    → g.value ≡ c.locals → g ≡ built c c.locals f
parts_are c f g er ep ek eb ev =
    let w = built c c.locals f in
    let d = suc c.locals + length (conditions_kinds c f.preconditions.items) in
    let last = conditions_code c f.postconditions.items (d + length (body_kinds c f.body.items)) in
    let body : g.body ≡ w.body = eb ∙ ap (λ b. parts.sequence (conditions_code c f.preconditions.items (suc c.locals) ++ (m.Block (parts.sequence b) ∷ last))) (sym (body_code_is c f.body.items d)) in
    ap (λ x. let y : m.Function = record { result = x; parameters = g.parameters; kinds = g.kinds; body = g.body; value = g.value } in y) er
    ∙ ap (λ x. let y : m.Function = record { result = w.result; parameters = x; kinds = g.kinds; body = g.body; value = g.value } in y) ep
    ∙ ap (λ x. let y : m.Function = record { result = w.result; parameters = w.parameters; kinds = x; body = g.body; value = g.value } in y) ek
    ∙ ap (λ x. let y : m.Function = record { result = w.result; parameters = w.parameters; kinds = w.kinds; body = x; value = g.value } in y) body
    ∙ ap (λ x. let y : m.Function = record { result = w.result; parameters = w.parameters; kinds = w.kinds; body = w.body; value = x } in y) ev

-- the code before the body, the body, and the code behind it
pub code_in_order : (c0 c1 c2 c3 a b : List m.Code) (x : m.Code) → c0 ≡ [] → c1 ≡ c0 ++ a → c2 ≡ c1 ++ x ∷ [] → c3 ≡ c2 ++ b → c3 ≡ a ++ (x ∷ b)
code_in_order c0 c1 c2 c3 a b x e0 e1 e2 e3 =
    e3 ∙ ap (λ l. l ++ b) (e2 ∙ ap (λ l. l ++ x ∷ []) (e1 ∙ ap (λ l. l ++ a) e0)) ∙ append_assoc a (x ∷ []) b

-- ---- the order of functions

abbrev pick : ℕ → Function → List Function → Option Function → List Function
pick k f rest o = elim o [ None ↦ f ∷ rest | Some g ↦ g ∷ set rest k f ]

get_some : (xs : List Function) (k : ℕ) (d : Function) → k < length xs → slice_get xs k ≡ Some (get_or xs k d)
get_some [] k d h = absurd (let q : ⊥ = omega arith in q)
get_some (x ∷ xs) zero d h = refl
get_some (x ∷ xs) (suc k) d h = get_some xs k d (omega arith)

get_none : (xs : List Function) (k : ℕ) → length xs ≤ k → slice_get xs k ≡ None
get_none [] k h = refl
get_none (x ∷ xs) zero h = absurd (let q : ⊥ = omega arith in q)
get_none (x ∷ xs) (suc k) h = get_none xs k (omega arith)

module _ {B : Type 0} (F : Function → B) where
  swapped_is : (k : ℕ) (fs : List Function) → k < length fs → swap (map F fs) 0 k ≡ map F (l.with_main_first k fs)
  swapped_is k [] h = absurd (let q : ⊥ = omega arith in q)
  swapped_is zero (f ∷ rest) h = refl
  swapped_is (suc k) (f ∷ rest) h =
      let here : k < length rest = omega arith in
      ap (λ g. g ∷ set (map F rest) k (F f)) (get_or-map F rest k f (F f) here) ∙ ap (λ gs. F (get_or rest k f) ∷ gs) (sym (map-set F rest k f))
      ∙ ap (λ o. map F (pick k f rest o)) (sym (get_some rest k f here))

  pub main_swapped : (k : ℕ) (fs : List Function) (xs ys : List B) → map F fs ≡ xs → ys ≡ swap xs 0 k → k < length fs → ys ≡ map F (l.with_main_first k fs)
  main_swapped k fs xs ys e s h = s ∙ ap (λ l. swap l 0 k) (sym e) ∙ swapped_is k fs h

  stays : (k : ℕ) (fs : List Function) → length fs ≤ k → map F fs ≡ map F (l.with_main_first k fs)
  stays zero fs h = refl
  stays (suc k) [] h = refl
  stays (suc k) (f ∷ rest) h = ap (λ o. map F (pick k f rest o)) (sym (get_none rest k (omega arith)))

  pub main_stays : (k : ℕ) (fs : List Function) (xs : List B) → map F fs ≡ xs → length fs ≤ k → xs ≡ map F (l.with_main_first k fs)
  main_stays k fs xs e h = sym e ∙ stays k fs h

-- ---- all functions

drop_past : {A : Type 0} (xs : List A) (i : ℕ) → length xs ≤ i → drop i xs ≡ []
drop_past [] zero h = refl
drop_past [] (suc i) h = refl
drop_past (x ∷ xs) zero h = absurd (let q : ⊥ = omega arith in q)
drop_past (x ∷ xs) (suc i) h = drop_past xs i (omega arith)

none_behind : {A : Type 0} (xs : List A) → xs ++ [] ≡ xs
none_behind [] = refl
none_behind (x ∷ xs) = ap (λ l. x ∷ l) (none_behind xs)

pub made_all : {A B : Type 0} (F : A → B) (fs : List A) (xs : List B) (i : ℕ) → length fs ≤ i → map F fs ≡ xs ++ map F (drop i fs) → map F fs ≡ xs
made_all F fs xs i h e = e ∙ ap (λ l. xs ++ map F l) (drop_past fs i h) ∙ none_behind xs

pub map_swap : {A B : Type 0} (G : A → B) (xs : List A) (k : ℕ) → k < length xs → map G (swap xs 0 k) ≡ swap (map G xs) 0 k
map_swap G [] k h = absurd (let q : ⊥ = omega arith in q)
map_swap G (x ∷ xs) zero h = refl
map_swap G (x ∷ xs) (suc k) h =
    let here : k < length xs = omega arith in
    ap (λ l. G (get_or xs k x) ∷ l) (map-set G xs k x) ∙ ap (λ y. y ∷ set (map G xs) k (G x)) (sym (get_or-map G xs k x (G x) here))
