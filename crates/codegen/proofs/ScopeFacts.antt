-- What is known of one scope at the entries of blocks, and the facts that tell it.
use Rattle.std.proofs.Common.{◌≡◌, ℕ, suc, Option, Some, None, List, [], ◌∷◌, ◌++◌, length, refl, sym, ap, ◌∙◌, arith, append_assoc}
use Rattle.std.specs.Prelude.{map, reverse, slice_index_or}
use Rattle.std.specs.declared.vec.Vec.{Vec}
use Rattle.std.specs.declared.alloc.Global.{Global}
use Rattle.std.proofs.lemmas.List.{map-append, reverse-append}
use Rattle.code_form.specs.declared.form.Fact.{Fact}
use Rattle.code_form.specs.Known.{Knows, Unknown, KnownShut, written_by}
use Rattle.middle_form.specs.Scoped.{Code, Nothing, Do, LoadBy, StoreBy, Loose, Fail, Then, Choose, Loop, Block, Exit, Function}
use Rattle.middle_form.specs.Scoped as scoped
use Rattle.middle_form.specs.Discipline.{Table, after, at_entry, join}
use Rattle.middle_form.specs.Discipline as table
use Rattle.codegen.specs.declared.known.Knows.{Knows as RustKnows}
use Rattle.codegen.specs.Building.{in_front, known_back, knows_of, lists, of_scope}
use Rattle.codegen.specs.Generated.{asked_of, entry_facts, known_inside, known_of, listed, scope_fact}
use Rattle.codegen.proofs.Entries.{length-asked, length-known}
use Rattle.codegen.proofs.Paired.{lists_push}

pub knows_push : (ks : List RustKnows) (k : RustKnows) → map knows_of (ks ++ k ∷ []) ≡ map knows_of ks ++ knows_of k ∷ []
knows_push ks k = map-append knows_of ks (k ∷ [])

-- ---- a scope for itself

one_wrote : (d : Option ℕ) (k : Table) (s : ℕ) → table.wrote d k s ≡ table.wrote d (λ _. k s) s
one_wrote None k s = refl
one_wrote (Some d) k s = refl

-- what is known of a scope behind code depends on what is known of it before
pub one_after : (a : Code) (k : Table) (s : ℕ) → after a k s ≡ after a (λ _. k s) s
one_after Nothing k s = refl
one_after (Do o) k s = one_wrote (written_by o) k s
one_after (scoped.Load to z r off disp) k s = refl
one_after (scoped.Store z r off disp from) k s = refl
one_after (LoadBy to z r off disp) k s = refl
one_after (StoreBy z r off disp from) k s = refl
one_after (scoped.Aim z r off disp) k s = refl
one_after (scoped.Leave z) k s = refl
one_after (Loose z) k s = refl
one_after (scoped.Call to f args) k s = one_wrote to k s
one_after (Fail a) k s = refl
one_after (Then a c) k s =
    one_after c (after a k) s ∙ ap (λ (x : Knows). after c (λ _. x) s) (one_after a k s) ∙ sym (one_after c (after a (λ _. k s)) s)
one_after (Choose r a c) k s = refl
one_after (Loop test r body) k s = refl
one_after (Block a) k s = refl
one_after (Exit j) k s = refl

-- ---- the last block's first

reverse_cons : (x : Knows) (xs : List Knows) → reverse (x ∷ xs) ≡ reverse xs ++ x ∷ []
reverse_cons x xs = reverse-append (x ∷ []) xs

choose_turned : (h x y : Knows) (ls cs : List Knows) → reverse (x ∷ (cs ++ (y ∷ (ls ++ h ∷ [])))) ≡ h ∷ (reverse ls ++ (y ∷ (reverse cs ++ x ∷ [])))
choose_turned h x y ls cs =
    reverse_cons x (cs ++ (y ∷ (ls ++ h ∷ [])))
    ∙ ap (λ (l : List Knows). l ++ x ∷ []) (reverse-append cs (y ∷ (ls ++ h ∷ [])) ∙ ap (λ (l : List Knows). l ++ reverse cs) (reverse_cons y (ls ++ h ∷ []) ∙ ap (λ (l : List Knows). l ++ y ∷ []) (reverse-append ls (h ∷ []))))
    ∙ ap (λ (l : List Knows). h ∷ l) (append_assoc (reverse ls ++ y ∷ []) (reverse cs) (x ∷ []) ∙ append_assoc (reverse ls) (y ∷ []) (reverse cs ++ x ∷ []))

loop_turned : (h g t : Knows) (ts bs : List Knows) → reverse (ts ++ (t ∷ (bs ++ (h ∷ g ∷ [])))) ≡ g ∷ h ∷ (reverse bs ++ (t ∷ reverse ts))
loop_turned h g t ts bs =
    reverse-append ts (t ∷ (bs ++ (h ∷ g ∷ [])))
    ∙ ap (λ (l : List Knows). l ++ reverse ts) (reverse_cons t (bs ++ (h ∷ g ∷ [])) ∙ ap (λ (l : List Knows). l ++ t ∷ []) (reverse-append bs (h ∷ g ∷ [])))
    ∙ ap (λ (l : List Knows). g ∷ h ∷ l) (append_assoc (reverse bs) (t ∷ []) (reverse ts))

pub turned : (s : ℕ) (a : Code) (k : Table) → reverse (known_back s a (k s)) ≡ map (of_scope s) (known_inside a k)
turned s Nothing k = refl
turned s (Do o) k = refl
turned s (scoped.Load to z r off disp) k = refl
turned s (scoped.Store z r off disp from) k = refl
turned s (LoadBy to z r off disp) k = refl
turned s (StoreBy z r off disp from) k = refl
turned s (scoped.Aim z r off disp) k = refl
turned s (scoped.Leave z) k = refl
turned s (Loose z) k = refl
turned s (scoped.Call to f args) k = refl
turned s (Fail a) k = refl
turned s (Then a c) k =
    reverse-append (known_back s a (k s)) (known_back s c (after a (λ _. k s) s))
    ∙ ap (λ (x : Knows). reverse (known_back s c x) ++ reverse (known_back s a (k s))) (sym (one_after a k s))
    ∙ ap (λ (l : List Knows). l ++ reverse (known_back s a (k s))) (turned s c (after a k))
    ∙ ap (λ (l : List Knows). map (of_scope s) (known_inside c (after a k)) ++ l) (turned s a k)
    ∙ sym (map-append (of_scope s) (known_inside c (after a k)) (known_inside a k))
turned s (Choose r a c) k =
    let h = join (Choose r a c) k s in
    let ks : List Table = k ∷ [] in
    choose_turned h (k s) (k s) (known_back s a (k s)) (known_back s c (k s))
    ∙ ap (λ (l : List Knows). h ∷ (l ++ (k s ∷ (reverse (known_back s c (k s)) ++ k s ∷ [])))) (turned s a k)
    ∙ ap (λ (l : List Knows). h ∷ (map (of_scope s) (known_inside a k) ++ (k s ∷ (l ++ k s ∷ [])))) (turned s c k)
    ∙ ap (λ (l : List Knows). h ∷ (map (of_scope s) (known_inside a k) ++ (k s ∷ l))) (sym (map-append (of_scope s) (known_inside c k) ks))
    ∙ ap (λ (l : List Knows). h ∷ l) (sym (map-append (of_scope s) (known_inside a k) (k ∷ (known_inside c k ++ ks))))
turned s (Loop test r body) k =
    let J = join (Loop test r body) k in
    let h = J s in
    let E = after test J in
    let e = after test (λ _. h) s in
    let same : e ≡ E s = sym (one_after test J s) in
    loop_turned h h e (known_back s test h) (known_back s body e)
    ∙ ap (λ (x : Knows). h ∷ h ∷ (reverse (known_back s body x) ++ (x ∷ reverse (known_back s test h)))) same
    ∙ ap (λ (l : List Knows). h ∷ h ∷ (l ++ (E s ∷ reverse (known_back s test h)))) (turned s body E)
    ∙ ap (λ (l : List Knows). h ∷ h ∷ (map (of_scope s) (known_inside body E) ++ (E s ∷ l))) (turned s test J)
    ∙ ap (λ (l : List Knows). h ∷ h ∷ l) (sym (map-append (of_scope s) (known_inside body E) (E ∷ known_inside test J)))
turned s (Block a) k =
    let h = join (Block a) k s in
    reverse-append (known_back s a (k s)) (h ∷ []) ∙ ap (λ (l : List Knows). h ∷ l) (turned s a k)
turned s (Exit j) k = refl

-- of a whole function, whose scopes are shut at its entry
pub whole_turned : (s : ℕ) (g : Function) → reverse (known_back s g.body KnownShut ++ KnownShut ∷ []) ≡ map (of_scope s) (known_of g)
whole_turned s g = reverse-append (known_back s g.body KnownShut) (KnownShut ∷ []) ∙ ap (λ (l : List Knows). KnownShut ∷ l) (turned s g.body at_entry)

-- ---- the parts of a sequence

pub followed_after : (p rest q : Code) (x y all : Knows) (s : ℕ) → q ≡ Then p rest → y ≡ after p (λ _. x) s → after q (λ _. x) s ≡ all → after rest (λ _. y) s ≡ all
followed_after p rest q x y all s eq ey h =
    ap (λ (z : Knows). after rest (λ _. z) s) ey ∙ sym (one_after rest (after p (λ _. x)) s) ∙ sym (ap (λ (c : Code). after c (λ _. x) s) eq) ∙ h

pub followed_added : (p rest q : Code) (x y : Knows) (old m all : List Knows) (s : ℕ) → q ≡ Then p rest → y ≡ after p (λ _. x) s → m ≡ old ++ known_back s p x → old ++ known_back s q x ≡ all → m ++ known_back s rest y ≡ all
followed_added p rest q x y old m all s eq ey em h =
    ap (λ (l : List Knows). l ++ known_back s rest y) em ∙ append_assoc old (known_back s p x) (known_back s rest y)
    ∙ ap (λ (z : Knows). old ++ (known_back s p x ++ known_back s rest z)) ey ∙ sym (ap (λ (c : Code). old ++ known_back s c x) eq) ∙ h

regroup : (o ts bs : List Knows) (t h g : Knows) → ((((o ++ ts) ++ t ∷ []) ++ bs) ++ h ∷ []) ++ g ∷ [] ≡ o ++ (ts ++ (t ∷ (bs ++ (h ∷ g ∷ []))))
regroup o ts bs t h g = simp append_assoc

-- a loop: its test's blocks, its body and the body's blocks, and what follows and the test itself, where ways join
pub loop_followed : (s : ℕ) (test body q : Code) (r : ℕ) (x head turn : Knows) (old m1 m2 m3 m4 m5 : List Knows) → q ≡ Loop test r body → head ≡ join q (λ _. x) s → m1 ≡ old ++ known_back s test head → turn ≡ after test (λ _. head) s
    → m2 ≡ m1 ++ turn ∷ [] → m3 ≡ m2 ++ known_back s body turn → m4 ≡ m3 ++ head ∷ [] → m5 ≡ m4 ++ head ∷ [] → m5 ≡ old ++ known_back s q x
loop_followed s test body q r x head turn old m1 m2 m3 m4 m5 eq eh e1 et e2 e3 e4 e5 =
    let joins : head ≡ join (Loop test r body) (λ _. x) s = eh ∙ ap (λ (c : Code). join c (λ _. x) s) eq in
    e5 ∙ ap (λ (l : List Knows). l ++ head ∷ []) (e4 ∙ ap (λ (l : List Knows). l ++ head ∷ []) (e3 ∙ ap (λ (l : List Knows). l ++ known_back s body turn) (e2 ∙ ap (λ (l : List Knows). l ++ turn ∷ []) e1)))
    ∙ regroup old (known_back s test head) (known_back s body turn) turn head head
    ∙ ap (λ (t : Knows). old ++ (known_back s test head ++ (t ∷ (known_back s body t ++ (head ∷ head ∷ []))))) et
    ∙ ap (λ (h : Knows). old ++ (known_back s test h ++ (after test (λ _. h) s ∷ (known_back s body (after test (λ _. h) s) ++ (h ∷ h ∷ []))))) joins
    ∙ ap (λ (c : Code). old ++ known_back s c x) (sym eq)

-- ---- facts

-- those of one block more
in_front_push : (s : ℕ) (xs : List Knows) (ws : List (List Fact)) (w : List Fact) → in_front s xs (ws ++ w ∷ []) ≡ in_front s xs ws ++ (scope_fact s (slice_index_or xs (length ws) Unknown) ++ w) ∷ []
in_front_push s [] [] w = refl
in_front_push s (x ∷ xs) [] w = refl
in_front_push s [] (v ∷ ws) w = ap (λ (l : List (List Fact)). v ∷ l) (in_front_push s [] ws w)
in_front_push s (x ∷ xs) (v ∷ ws) w = ap (λ (l : List (List Fact)). (scope_fact s x ++ v) ∷ l) (in_front_push s xs ws w)

length_lists : (ws : List (Vec Fact Global)) → length (lists ws) ≡ length ws
length_lists [] = refl
length_lists (w ∷ ws) = ap suc (length_lists ws)

pub front_push : (s : ℕ) (xs : List Knows) (yielded fronted : List (Vec Fact Global)) (facts new : Vec Fact Global) (x : Knows)
    → lists fronted ≡ in_front s xs (lists yielded) → length fronted ≡ length yielded → x ≡ slice_index_or xs (length fronted) Unknown → new.items ≡ scope_fact s x ++ facts.items
    → lists (fronted ++ new ∷ []) ≡ in_front s xs (lists (yielded ++ facts ∷ []))
front_push s xs yielded fronted facts new x h k e n =
    lists_push fronted new ∙ ap (λ (l : List (List Fact)). l ++ new.items ∷ []) h
    ∙ ap (λ (l : List Fact). in_front s xs (lists yielded) ++ l ∷ []) (n ∙ ap (λ (y : Knows). scope_fact s y ++ facts.items) (e ∙ ap (λ (i : ℕ). slice_index_or xs i Unknown) (k ∙ sym (length_lists yielded))))
    ∙ sym (ap (in_front s xs) (lists_push yielded facts) ∙ in_front_push s xs (lists yielded) facts.items)

-- of one scope more
pub one_scope_more : (n : ℕ) (ks : List Table) (ws : List (List Fact)) → in_front n (map (of_scope n) ks) (entry_facts n ks ws) ≡ entry_facts (suc n) ks ws
one_scope_more n [] ws = refl
one_scope_more n (k ∷ ks) [] = refl
one_scope_more n (k ∷ ks) (w ∷ ws) =
    ap (λ (l : List Fact). l ∷ in_front n (map (of_scope n) ks) (entry_facts n ks ws)) (sym (append_assoc (scope_fact n (k n)) (listed n k) w))
    ∙ ap (λ (l : List (List Fact)). ((scope_fact n (k n) ++ listed n k) ++ w) ∷ l) (one_scope_more n ks ws)

-- of none
none_told : (ks : List Table) (ws : List (List Fact)) → length ks ≡ length ws → entry_facts 0 ks ws ≡ ws
none_told [] [] l = refl
none_told [] (w ∷ ws) l = absurd (let z : ⊥ = omega arith in z)
none_told (k ∷ ks) [] l = absurd (let z : ⊥ = omega arith in z)
none_told (k ∷ ks) (w ∷ ws) l = ap (λ (x : List (List Fact)). w ∷ x) (none_told ks ws (omega arith))

pub first_told : (g : Function) → entry_facts 0 (known_of g) (asked_of g) ≡ asked_of g
first_told g = none_told (known_of g) (asked_of g) (ap suc (length-known g.body at_entry ∙ sym (length-asked g.body [])))
