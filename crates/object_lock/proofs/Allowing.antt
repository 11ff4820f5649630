-- A step that carries the rule is allowed, and the log of its seat grows.
use Rattle.std.proofs.Common.{◌≡◌, ◌≢◌, ⊎_elim, ℕ, zero, suc, ◌+◌, ◌*◌, ◌<◌, ◌≤◌, Bool, cond, ◌++◌, List, [], ◌∷◌, length, map, get_or, set, sym, refl, ap, ◌∙◌, subst, arith, eq-eqb, ne_eqb, length-set, append-nil, append_assoc}
use Rattle.std.specs.Prelude.{◌==◌, None, Some}
use mathlib.Core.Path.{Path}
use mathlib.Core.Option.{some}
use lib.ListN.{get_elem?}
use Rattle.atomic_table.specs.Table.{State, Me, Allows, homes_after}
use Rattle.atomic_table.proofs.Lists.{at_map, at_set}
use Rattle.pointer_word.specs.Machine.{State as Machine, opening}
use Rattle.pointer_word.specs.Calls.{Call}
use Rattle.object_lock.specs.Seats.{Owns, Sizes, View, cell_word, frame_word}
use Rattle.object_lock.specs.Logs.{AreCallsAt, AreOf, AreOwn, AreOwners, IsCellWord, IsFrameWord, Deed, Seated, IsShown, IsLogged, Follows, kept_of, log_of, calls_of, act_all, unlogged, bare}
use Rattle.object_lock.specs.Rule.{HandIn, Rule, LoggedRule}
use Rattle.object_lock.specs.Plays.{frame_at, index_at}
use Rattle.object_lock.specs.Carrying.{Carries, RuleOf}
use Rattle.object_lock.proofs.Moved.{below_length, fitted}

-- the views of seats, one of which is changed
pub map_set : {A B : Type 0} (f : A → B) (l : List A) (i : ℕ) (a : A) → map f (set l i a) ≡ set (map f l) i (f a)
map_set f [] i a = refl
map_set f (x ∷ xs) zero a = refl
map_set {A} {B} f (x ∷ xs) (suc i) a = ap (λ (ys : List B). f x ∷ ys) (map_set f xs i a)

calls_on : (ds : List (ℕ × Deed)) (d : ℕ × Deed) → calls_of (ds ++ d ∷ []) ≡ calls_of ds ++ d.1.calls
calls_on [] d = append-nil d.1.calls
calls_on (e ∷ ds) d = ap (λ (cs : List Call). e.1.calls ++ cs) (calls_on ds d) ∙ sym (append_assoc e.1.calls (calls_of ds) d.1.calls)

log_on : (j : ℕ) (ds : List (ℕ × Deed)) (d : ℕ × Deed) → log_of j (ds ++ d ∷ []) ≡ log_of j ds ++ cond (d.0 == j) (kept_of d.1) []
log_on j [] d = append-nil (cond (d.0 == j) (kept_of d.1) [])
log_on j (e ∷ ds) d = ap (λ (xs : List Deed). cond (e.0 == j) (kept_of e.1) [] ++ xs) (log_on j ds d) ∙ sym (append_assoc (cond (e.0 == j) (kept_of e.1) []) (log_of j ds) (cond (d.0 == j) (kept_of d.1) []))

own_on : (z : Sizes) (ds : List (ℕ × Deed)) (d : ℕ × Deed) → AreOwn z ds → AreCallsAt z (suc d.0) d.1.word d.1.calls → AreOwn z (ds ++ d ∷ [])
own_on z [] d own by = (by, tt)
own_on z (e ∷ ds) d own by = (own.0, own_on z ds d own.1 by)

log_of_own : (j : ℕ) (ds : List (ℕ × Deed)) (d : Deed) → log_of j (ds ++ (j, d) ∷ []) ≡ log_of j ds ++ kept_of d
log_of_own j ds d = log_on j ds (j, d) ∙ ap (λ (b : Bool). log_of j ds ++ cond b (kept_of d) []) (eq-eqb j j refl)

log_of_other : (j k : ℕ) (ds : List (ℕ × Deed)) (d : Deed) → k ≢ j → log_of j (ds ++ (k, d) ∷ []) ≡ log_of j ds
log_of_other j k ds d ne = log_on j ds (k, d) ∙ (ap (λ (b : Bool). log_of j ds ++ cond b (kept_of d) []) (ne_eqb k j ne) ∙ append-nil (log_of j ds))

owners_on : (owner : ℕ → ℕ) (ds : List (ℕ × Deed)) (d : ℕ × Deed) → AreOwners owner ds → AreOf (λ o. owner o ≡ d.0) d.1.calls → AreOwners owner (ds ++ d ∷ [])
owners_on owner [] d own by = ((λ kept. by), tt)
owners_on owner (e ∷ ds) d own by = (own.0, owners_on owner ds d own.1 by)

-- what is so of the objects of owners' calls is what follows from it
pub are_of : (mine other : ℕ → Type 0) (cs : List Call) → ((o : ℕ) → mine o → other o) → AreOf mine cs → AreOf other cs
are_of mine other [] so own = tt
are_of mine other (c ∷ cs) so own = ((λ o e. so o (own.0 o e)), are_of mine other cs so own.1)

-- of a call that an owner makes of its object o, and of any other call
pub own_object : (mine : ℕ → Type 0) (o p : ℕ) → mine o → Some o ≡ Some p → mine p
own_object mine o p own q = let e : o ≡ p = cc in subst mine e own

pub no_object : (mine : ℕ → Type 0) (p : ℕ) → None ≡ Some p → mine p
no_object mine p q = absurd (cc q)

module _ (z : Sizes) where
  follow_on : (ds : List (ℕ × Deed)) (x t : Machine) (d : ℕ × Deed) → Follows z x ds t → IsShown z t d.1.word d.1.found → Follows z x (ds ++ d ∷ []) (act_all t d.1.calls)
  follow_on [] x t d e is = (subst (λ (y : Machine). IsShown z y d.1.word d.1.found) e is, ap (λ (y : Machine). act_all y d.1.calls) e)
  follow_on (e ∷ ds) x t d f is = (f.0, follow_on ds (act_all x e.1.calls) t d f.1 is)

  -- one step more of the seat id
  one_more : (cs : List Call) (x : Machine) (views : List Seated) (id : ℕ) (v : Seated) (d : Deed) (w : View) → get_elem? views id ≡ some v → IsShown z x d.word d.found → AreCallsAt z (suc id) d.word d.calls → IsLogged z cs x views
      → IsLogged z (cs ++ d.calls) (act_all x d.calls) (set views id (record { view = w; log = v.log ++ kept_of d }))
  one_more cs x views id v d w at is by l =
      let w' : Seated = record { view = w; log = v.log ++ kept_of d } in record {
        steps = l.steps ++ (id, d) ∷ [];
        made = calls_on l.steps (id, d) ∙ ap (λ (ds : List Call). ds ++ d.calls) l.made;
        follows = follow_on l.steps opening x (id, d) l.follows is;
        own = own_on z l.steps (id, d) l.own by;
        logs = λ j u e. ⊎_elim
            (λ (q : (j ≡ id) × Path Seated w' u). sym (ap (λ (y : Seated). y.log) q.1) ∙ (ap (λ (ds : List Deed). ds ++ kept_of d) (l.logs id v at) ∙ (sym (log_of_own id l.steps d) ∙ ap (λ (k : ℕ). log_of k (l.steps ++ (id, d) ∷ [])) (sym q.0))))
            (λ (q : (j ≢ id) × (get_elem? views j ≡ some u)). l.logs j u q.1 ∙ sym (log_of_other j id l.steps d (λ h. q.0 (sym h))))
            (at_set views id j w' u e);
        none = λ j few. let a = length-set views id w' in let b = below_length views id v at in log_of_other j id l.steps d (λ h. omega arith) ∙ l.none j (let g : length views ≤ j = omega arith in g);
      }

module _ {S : Type 0} (kept : S → ℕ → List ℕ → Type 0) (there : S → Type 0) (honest : Type 0) (z : Sizes) where
  -- a word of the table is what its machine shows
  shown : (s : State S View) (r : Rule kept there honest z s) (i : ℕ) → IsShown z r.machine i (get_or s.words i 0)
  shown s r i = record {
    object = λ l. let q = r.objects i l in (q.word, (fitted z z refl (r.machine.word i) r.framed q.few q.inside).0);
    frame = λ f l e. ap (λ (k : ℕ). get_or s.words k 0) e ∙ (r.frames f l).word;
    cell = λ f j l m e. ap (λ (k : ℕ). get_or s.words k 0) e ∙ (r.frames f l).cells j m;
  }

-- the calls are such ones at the word k of a seat, by what the rule says of it
abbrev pub CallsAt : Sizes → View → ℕ → List Call → Type 0
CallsAt z v k made = v.sizes ≡ z → v.high ≤ z.objects → HandIn z v.hand → AreCallsAt z v.number k made

-- the frame of a frame's word, and the index of a cell's word, lead back to it
pub frame_again : (v : View) (z : Sizes) (k g : ℕ) → v.sizes ≡ z → k ≡ frame_word v.sizes g → g < z.frames → IsFrameWord z k (frame_at v k)
frame_again v z k g e at low =
    let far : ℕ = v.sizes.objects in let same : frame_at v k ≡ g = omega arith in
    (at ∙ ap (λ (q : Sizes). frame_word q g) e ∙ ap (frame_word z) (sym same), subst (λ (i : ℕ). i < z.frames) (sym same) low)

pub cell_again : (v : View) (z : Sizes) (k f i : ℕ) → v.sizes ≡ z → k ≡ cell_word v.sizes f i → IsCellWord z k f (index_at v f k)
cell_again v z k f i e at =
    let far : ℕ = v.sizes.objects + v.sizes.frames in let before : ℕ = f * v.sizes.cells in let same : index_at v f k ≡ i = omega arith in
    at ∙ ap (λ (q : Sizes). cell_word q f i) e ∙ ap (cell_word z f) (sym same)

pub allowed : {S : Type 0} (kept : S → ℕ → List ℕ → Type 0) (there : S → Type 0) (honest : Type 0) (z : Sizes) (slots id : ℕ) (me : Me S Seated) (i : ℕ) (f : ℕ → ℕ) (made : List Call) (then : ℕ → Me S View → Type 0)
    → Carries kept there honest z slots id (bare me) i f made then → CallsAt z me.0.view i made → AreOf (Owns me.0.view) made
    → Allows (LoggedRule kept there honest z) slots id me i f (λ n m. then n (bare m) × (m.0.log ≡ me.0.log ++ kept_of (record { word = i; found = n; calls = made })))
unfolding one_more
allowed {S} kept there honest z slots id me i f made then c by mine s r wide at bound =
    let seat = r.rule.seats id me.0.view (at_map (λ (v : Seated). v.view) s.views id me.0 at) in let own = subst (λ (n : ℕ). AreCallsAt z n i made) seat.numbered (by seat.sized seat.within seat.inside) in
    let k = c (unlogged s) r.rule wide (at_map (λ (v : Seated). v.view) s.views id me.0 at) bound in
    let n : ℕ = get_or s.words i 0 in let d : Deed = record { word = i; found = n; calls = made } in
    let w : Seated = record { view = k.0; log = me.0.log ++ kept_of d } in let views = set s.views id w in
    let same : map (λ (v : Seated). v.view) views ≡ set (map (λ (v : Seated). v.view) s.views) id k.0 = map_set (λ (v : Seated). v.view) s.views id w in
    let q = subst (λ (vs : List View). RuleOf kept there honest z (record { words = set s.words i (f n); homes = homes_after s.homes me.1 k.1; views = vs }) (act_all r.rule.machine made) (r.rule.led.0 ++ made) r.rule.owner) (sym same) k.3 in
    let grown = one_more z r.rule.led.0 r.rule.machine s.views id me.0 d k.0 at (shown kept there honest z (unlogged s) r.rule i) own r.logged in
    let held = owners_on r.rule.owner r.logged.steps (id, d) r.owners (are_of (Owns me.0.view) (λ o. r.rule.owner o ≡ id) made seat.owned mine) in
    let both = subst (λ (y : List Call × Machine × (ℕ → ℕ)). (l : IsLogged z y.0 y.1 views) × AreOwners y.2 l.steps) (λ j. (sym q.2 j, sym q.1 j, sym q.3 j)) (grown, held) in
    (w, k.1, k.2, record { rule = q.0; logged = both.0; owners = both.1 }, (k.4, refl))

-- what is allowed may tell less
pub telling : {S V : Type 0} (holds : State S V → Type 0) (slots id : ℕ) (me : Me S V) (i : ℕ) (f : ℕ → ℕ) (then then' : ℕ → Me S V → Type 0) → ((n : ℕ) (m : Me S V) → then n m → then' n m) → Allows holds slots id me i f then → Allows holds slots id me i f then'
telling holds slots id me i f then then' g a s r wide at bound = let k = a s r wide at bound in (k.0, k.1, k.2, k.3, g _ _ k.4)

-- a look leaves the log
pub looks_only : {S : Type 0} (kept : S → ℕ → List ℕ → Type 0) (there : S → Type 0) (honest : Type 0) (z : Sizes) (slots id : ℕ) (me : Me S Seated) (i : ℕ) (f : ℕ → ℕ) (then : ℕ → Me S View → Type 0)
    → Carries kept there honest z slots id (bare me) i f [] then → Allows (LoggedRule kept there honest z) slots id me i f (λ n m. then n (bare m) × (m.0.log ≡ me.0.log))
looks_only kept there honest z slots id me i f then c s r wide at bound = let k = allowed kept there honest z slots id me i f [] then c (λ _ _ _. tt) tt s r wide at bound in (k.0, k.1, k.2, k.3, (k.4.0, k.4.1 ∙ append-nil me.0.log))
