-- Scoped code that keeps the discipline means what it means without its scopes.
use Rattle.std.proofs.Common.{◌≡◌, ◌≢◌, ◌⊎◌, inl, inr, ℕ, zero, suc, ◌+◌, ◌*◌, ◌<◌, Bool, true, false, cond, Option, Some, None, List, [], ◌∷◌, length, refl, sym, ap, ◌∙◌, subst, arith, length-set}
use Rattle.std.specs.Prelude.{◌==◌, ◌&&◌, ◌||◌, ℤ, map, nat_lt, replicate, slice_get, slice_index, slice_set, slice_index_or}
use Rattle.std.specs.Option.{option_map}
use Rattle.std.proofs.lemmas.Bool.{eqb-false, lt-ltb}
use Rattle.std.proofs.lemmas.Bool.Decides.{eqb_tells}
use Rattle.std.proofs.lemmas.Option.{get_or_from_slice_get, slice_get-get_or, slice_get-map, slice_get_within}
use Rattle.cells.specs.Stops.{Stop, BoundsFault}
use Rattle.code_form.specs.declared.allocation.Allocation.{Allocation}
use Rattle.code_form.specs.declared.form.Kind.{Kind}
use Rattle.code_form.specs.declared.form.Kind.TheVariants as kind
use Rattle.code_form.specs.declared.form.UnaryOperator.TheVariants as operator
use Rattle.code_form.specs.declared.form.Operation.{Operation}
use Rattle.code_form.specs.declared.form.Operation.TheVariants.{Const, TextOf, BoolOf, CharOf, Null, Move, Binary, Unary, Compare, CheckNull, CheckIndex, Len, Prefetch, Alloc, AllocArray, Print, Println, Printint, Printbool, Printchar, Flush, Assert}
use Rattle.code_form.specs.Form.{Head}
use Rattle.code_form.specs.Effects.{with_cell, upd}
use Rattle.code_form.specs.Code.{Did, Goes, Tells, Sets, Makes, Prints, Stops, Fails, Scope, Shut, Aimed, Stale, call_fits, can_use, has, if_zero, indexes, int_of, is_register, length_of, makes, natural, offset, op_did, op_does, op_fits, place_fits, prints_text, sets_some, text_at, written}
use Rattle.code_form.specs.Known.{Knows, Unknown, KnownShut, KnownAimed, forget, written_by}
use Rattle.middle_form.specs.Meaning.{Outcome, Done, Stopped, Cut, Stuck, Registers, State, means, opening, then_do, told, turn, where_so}
use Rattle.middle_form.specs.Meaning as m
use Rattle.middle_form.specs.Scoped.{Code, Nothing, Do, Load, Store, LoadBy, StoreBy, Aim, Leave, Loose, Call, Fail, Then, Choose, Loop, Block, Exit, Function, Program, plain, plain_function, plain_program}
use Rattle.middle_form.specs.ScopedMeaning.{Local, scoped_means}
use Rattle.middle_form.specs.ScopedMeaning as s
use Rattle.middle_form.specs.Discipline.{Brings, IsDisciplined, IsKnownAs, IsScoped, IsScopedFunction, Table, after, at_entry, is_lost, join, stays, touches, writes, wrote}

or_left : (a b : Bool) → (a || b) ≡ false → a ≡ false
or_left true b h = absurd (cc h)
or_left false b h = refl

or_right : (a b : Bool) → (a || b) ≡ false → b ≡ false
or_right true b h = absurd (cc h)
or_right false b h = h

-- ---- what is known of one scope

-- a scope that is there is as it is known, where the registers hold this
abbrev ScopeIs : Registers → Option Scope → Knows → Type 0
ScopeIs rs None k = Unit {0}
ScopeIs rs (Some z) Unknown = Unit {0}
ScopeIs rs (Some z) KnownShut = z ≡ Shut
ScopeIs rs (Some z) (KnownAimed r off disp) = z ≡ Aimed r off disp (slice_index rs r) (offset rs off + disp)

unknown_is : (rs : Registers) (z : Option Scope) → ScopeIs rs z Unknown
unknown_is rs None = tt
unknown_is rs (Some z) = tt

less_is : (rs : Registers) (z : Option Scope) (asked known : Knows) → IsKnownAs asked known → ScopeIs rs z known → ScopeIs rs z asked
less_is rs None asked known q h = tt
less_is rs (Some z) Unknown known q h = tt
less_is rs (Some z) KnownShut known q h = subst (ScopeIs rs (Some z)) q h
less_is rs (Some z) (KnownAimed r off disp) known q h = subst (ScopeIs rs (Some z)) q h

stays_is : (rs : Registers) (z : Option Scope) (touched : Bool) (lost : ℕ → Bool) (k : Knows) → ScopeIs rs z k → ScopeIs rs z (stays touched lost k)
stays_is rs None touched lost k h = tt
stays_is rs (Some z) touched lost Unknown h = tt
stays_is rs (Some z) touched lost KnownShut h = h
stays_is rs (Some z) touched lost (KnownAimed r off disp) h = by_test (touched || is_lost lost r off)
  where
    by_test : (b : Bool) → ScopeIs rs (Some z) (cond b Unknown (KnownAimed r off disp))
    by_test true = tt
    by_test false = h

index_kept : (rs : Registers) (d v r : ℕ) → d ≢ r → slice_index (slice_set rs d v) r ≡ slice_index rs r
index_kept [] d v r n = refl
index_kept (x ∷ rs) zero v zero n = absurd (n refl)
index_kept (x ∷ rs) zero v (suc r) n = refl
index_kept (x ∷ rs) (suc d) v zero n = refl
index_kept (x ∷ rs) (suc d) v (suc r) n = index_kept rs d v r (λ e. n (ap suc e))

offset_kept : (rs : Registers) (d v : ℕ) (off : Option ℕ) → is_register d off ≡ false → offset (slice_set rs d v) off ≡ offset rs off
offset_kept rs d v None e = refl
offset_kept rs d v (Some r) e = index_kept rs d v r (eqb-false d r e)

-- a register is written
wrote_is : (rs : Registers) (d v : ℕ) (z : Option Scope) (k : Knows) → ScopeIs rs z k → ScopeIs (slice_set rs d v) (option_map (written d) z) (forget d k)
wrote_is rs d v None k h = tt
wrote_is rs d v (Some z) Unknown h = tt
wrote_is rs d v (Some z) KnownShut h = ap (written d) h
wrote_is rs d v (Some z) (KnownAimed r off disp) h = by_test ((d == r) || is_register d off) refl
  where
    by_test : (b : Bool) → ((d == r) || is_register d off) ≡ b → ScopeIs (slice_set rs d v) (Some (written d z)) (cond b Unknown (KnownAimed r off disp))
    by_test true e = tt
    by_test false e =
        ap (written d) h
        ∙ ap (λ b. cond b (Stale (slice_index rs r) (offset rs off + disp)) (Aimed r off disp (slice_index rs r) (offset rs off + disp))) e
        ∙ ap (λ q. Aimed r off disp q (offset rs off + disp)) (sym (index_kept rs d v r (eqb-false d r (or_left _ _ e))))
        ∙ ap (λ x. Aimed r off disp (slice_index (slice_set rs d v) r) (x + disp)) (sym (offset_kept rs d v off (or_right (d == r) _ e)))

-- one scope is set
scope_here : (rs : Registers) (zs : List Scope) (t : ℕ) (y : Scope) (k : Knows) → ScopeIs rs (Some y) k → ScopeIs rs (slice_get (slice_set zs t y) t) k
scope_here rs [] t y k h = tt
scope_here rs (z ∷ zs) zero y k h = h
scope_here rs (z ∷ zs) (suc t) y k h = scope_here rs zs t y k h

scope_other : (zs : List Scope) (t u : ℕ) (y : Scope) → u ≢ t → slice_get (slice_set zs t y) u ≡ slice_get zs u
scope_other [] t u y n = refl
scope_other (z ∷ zs) zero zero y n = absurd (n refl)
scope_other (z ∷ zs) zero (suc u) y n = refl
scope_other (z ∷ zs) (suc t) zero y n = refl
scope_other (z ∷ zs) (suc t) (suc u) y n = scope_other zs t u y (λ e. n (ap suc e))

scope_set : (zs : List Scope) (t : ℕ) (y : Scope) → t < length zs → slice_get (slice_set zs t y) t ≡ Some y
scope_set [] t y lt = absurd (omega arith)
scope_set (z ∷ zs) zero y lt = refl
scope_set (z ∷ zs) (suc t) y lt = scope_set zs t y (omega arith)

length_written : (d : ℕ) (zs : List Scope) → length (map (written d) zs) ≡ length zs
length_written d [] = refl
length_written d (z ∷ zs) = ap suc (length_written d zs)

-- ---- what is known of all

-- there are n scopes, and each is as it is known
abbrev Holds : ℕ → Table → Registers → List Scope → Type 0
Holds n k rs zs = (length zs ≡ n) × ((u : ℕ) → ScopeIs rs (slice_get zs u) (k u))

holds_less : (n : ℕ) (k l : Table) (rs : Registers) (zs : List Scope) → Brings k l → Holds n k rs zs → Holds n l rs zs
holds_less n k l rs zs p h = (h.0, λ u. less_is rs (slice_get zs u) (l u) (k u) (p u) (h.1 u))

holds_join : (n : ℕ) (a : Code) (k : Table) (rs : Registers) (zs : List Scope) → Holds n k rs zs → Holds n (join a k) rs zs
holds_join n a k rs zs h = (h.0, λ u. stays_is rs (slice_get zs u) (touches a u) (writes a) (k u) (h.1 u))

holds_wrote : (n : ℕ) (k : Table) (rs : Registers) (zs : List Scope) (d v : ℕ) → Holds n k rs zs → Holds n (wrote (Some d) k) (slice_set rs d v) (map (written d) zs)
holds_wrote n k rs zs d v h =
    (length_written d zs ∙ h.0, λ u. subst (λ z. ScopeIs (slice_set rs d v) z (forget d (k u))) (sym (slice_get-map (written d) zs u)) (wrote_is rs d v (slice_get zs u) (k u) (h.1 u)))

holds_scope : (n : ℕ) (k : Table) (rs : Registers) (zs : List Scope) (t : ℕ) (y : Scope) (x : Knows) → ScopeIs rs (Some y) x → Holds n k rs zs → Holds n (upd k t x) rs (slice_set zs t y)
holds_scope n k rs zs t y x here h = (length-set zs t y ∙ h.0, λ u. by_place u (eqb_tells u t))
  where
    by_place : (u : ℕ) → (((u == t) ≡ true) × (u ≡ t)) ⊎ (((u == t) ≡ false) × (u ≢ t)) → ScopeIs rs (slice_get (slice_set zs t y) u) (cond (u == t) x (k u))
    by_place u (inl e) =
        subst (λ b. ScopeIs rs (slice_get (slice_set zs t y) u) (cond b x (k u))) (sym e.0) (subst (λ w. ScopeIs rs (slice_get (slice_set zs t y) w) x) (sym e.1) (scope_here rs zs t y x here))
    by_place u (inr e) =
        subst (λ b. ScopeIs rs (slice_get (slice_set zs t y) u) (cond b x (k u))) (sym e.0) (subst (λ z. ScopeIs rs z (k u)) (sym (scope_other zs t u y e.1)) (h.1 u))

holds_loose : (n : ℕ) (k : Table) (rs : Registers) (zs : List Scope) (t : ℕ) → Holds n k rs zs → Holds n (upd k t Unknown) rs zs
holds_loose n k rs zs t h = (h.0, λ u. by_test (u == t) u)
  where
    by_test : (b : Bool) (u : ℕ) → ScopeIs rs (slice_get zs u) (cond b Unknown (k u))
    by_test true u = unknown_is rs (slice_get zs u)
    by_test false u = h.1 u

-- a write behind an aim of a scope of which nothing is known then
holds_load : (n : ℕ) (k : Table) (rs : Registers) (zs : List Scope) (t d v : ℕ) (y : Scope) → Holds n k rs zs → Holds n (upd (wrote (Some d) k) t Unknown) (slice_set rs d v) (map (written d) (slice_set zs t y))
holds_load n k rs zs t d v y h =
    let set = holds_wrote n (upd k t Unknown) rs (slice_set zs t y) d v (holds_scope n k rs zs t y Unknown tt h) in
    (set.0, λ u. subst (ScopeIs (slice_set rs d v) (slice_get (map (written d) (slice_set zs t y)) u)) (swap (u == t) (k u)) (set.1 u))
  where
    swap : (b : Bool) (x : Knows) → forget d (cond b Unknown x) ≡ cond b Unknown (forget d x)
    swap true x = refl
    swap false x = refl

-- a scope that is known to be aimed
aim_is : (n : ℕ) (k : Table) (rs : Registers) (zs : List Scope) (t r : ℕ) (off : Option ℕ) (disp : ℕ) → t < n → k t ≡ KnownAimed r off disp → Holds n k rs zs → slice_get zs t ≡ Some (s.aimed r off disp rs)
aim_is n k rs zs t r off disp lt e h =
    let there : slice_get zs t ≡ Some (slice_index_or zs t Shut) = slice_get-get_or zs t Shut (subst (λ x. t < x) (sym h.0) lt) in
    there ∙ ap Some (subst (ScopeIs rs (Some (slice_index_or zs t Shut))) e (subst (λ o. ScopeIs rs o (k t)) there (h.1 t)))

-- ---- the same outcome, with scopes as they are known

-- how code is left: to what stands behind it, or to a way out
abbrev Ways : ℕ → List Table → Table → ℕ → Registers → List Scope → Type 0
Ways n es k zero rs zs = Holds n k rs zs
Ways n es k (suc j) rs zs = (e : Table) → slice_get es j ≡ Some e → Holds n e rs zs

abbrev both : Registers → List Scope → Local
both rs zs = record { registers = rs; scopes = zs }

abbrev Agrees : (ℕ → Registers → List Scope → Type 0) → Outcome s.Left → Outcome m.Left → Type 0
Agrees W o (Done (way, rs) t) = (zs : List Scope) × (o ≡ Done (way, both rs zs) t) × W way rs zs
Agrees W o (Stopped x out) = o ≡ Stopped x out
Agrees W o (Cut out) = o ≡ Cut out
Agrees W o Stuck = o ≡ Stuck

agrees_less : (V W : ℕ → Registers → List Scope → Type 0) (o : Outcome s.Left) (p : Outcome m.Left) → ((way : ℕ) (rs : Registers) (zs : List Scope) → V way rs zs → W way rs zs) → Agrees V o p → Agrees W o p
agrees_less V W o (Done (way, rs) t) f h = (h.0, h.1, f way rs h.0 h.2)
agrees_less V W o (Stopped x out) f h = h
agrees_less V W o (Cut out) f h = h
agrees_less V W o Stuck f h = h

ways_less : (n : ℕ) (es : List Table) (k l : Table) → Brings k l → (way : ℕ) (rs : Registers) (zs : List Scope) → Ways n es k way rs zs → Ways n es l way rs zs
ways_less n es k l p zero rs zs h = holds_less n k l rs zs p h
ways_less n es k l p (suc j) rs zs h = h

agrees_then : (V W : ℕ → Registers → List Scope → Type 0) (o : Outcome s.Left) (p : Outcome m.Left) (f : s.Left → State → Outcome s.Left) (g : m.Left → State → Outcome m.Left)
    → Agrees V o p → ((way : ℕ) (rs : Registers) (zs : List Scope) (t : State) → V way rs zs → Agrees W (f (way, both rs zs) t) (g (way, rs) t)) → Agrees W (then_do o f) (then_do p g)
agrees_then V W o (Done (way, rs) t) f g h k = subst (λ x. Agrees W (then_do x f) (g (way, rs) t)) (sym h.1) (k way rs h.0 t h.2)
agrees_then V W o (Stopped x out) f g h k = ap (λ y. then_do y f) h
agrees_then V W o (Cut out) f g h k = ap (λ y. then_do y f) h
agrees_then V W o Stuck f g h k = ap (λ y. then_do y f) h

-- what stands behind goes on from what is known there; a way out is left alone
agrees_falls : (n : ℕ) (es : List Table) (k : Table) (W : ℕ → Registers → List Scope → Type 0) (f : Local → State → Outcome s.Left) (g : Registers → State → Outcome m.Left)
    → ((rs : Registers) (zs : List Scope) (t : State) → Holds n k rs zs → Agrees W (f (both rs zs) t) (g rs t)) → ((j : ℕ) (rs : Registers) (zs : List Scope) → Ways n es k (suc j) rs zs → W (suc j) rs zs)
    → (way : ℕ) (rs : Registers) (zs : List Scope) (t : State) → Ways n es k way rs zs → Agrees W (s.falls f (way, both rs zs) t) (m.falls g (way, rs) t)
agrees_falls n es k W f g h out zero rs zs t v = h rs zs t v
agrees_falls n es k W f g h out (suc j) rs zs t v = (zs, refl, out j rs zs v)

-- one loop or block less
agrees_behind : (n : ℕ) (es : List Table) (l : Table) (way : ℕ) (rs : Registers) (zs : List Scope) (t : State) → Ways n (l ∷ es) l way rs zs → Agrees (Ways n es l) (s.behind (way, both rs zs) t) (m.behind (way, rs) t)
agrees_behind n es l zero rs zs t v = (zs, refl, v)
agrees_behind n es l (suc zero) rs zs t v = (zs, refl, v l refl)
agrees_behind n es l (suc (suc j)) rs zs t v = (zs, refl, v)

where_agrees : (W : ℕ → Registers → List Scope → Type 0) (b : Bool) (o : Outcome s.Left) (p : Outcome m.Left) → Agrees W o p → Agrees W (where_so b o) (where_so b p)
where_agrees W true o p h = h
where_agrees W false o p h = refl

zero_agrees : (W : ℕ → Registers → List Scope → Type 0) (c : ℕ) (o q : Outcome s.Left) (p r : Outcome m.Left) → Agrees W o p → Agrees W q r → Agrees W (if_zero c o q) (if_zero c p r)
zero_agrees W zero o q p r h k = h
zero_agrees W (suc c) o q p r h k = k

turn_agrees : (W : ℕ → Registers → List Scope → Type 0) (t : State) (f : State → Outcome s.Left) (g : State → Outcome m.Left) → ((u : State) → Agrees W (f u) (g u)) → Agrees W (turn t f) (turn t g)
turn_agrees W t f g h = by_turns t.turns
  where
    by_turns : (left : ℕ)
        → Agrees W (elim left as (λ x. Outcome s.Left) [ zero ↦ Cut t.output | suc x ↦ f (record t { turns = x }) ]) (elim left as (λ x. Outcome m.Left) [ zero ↦ Cut t.output | suc x ↦ g (record t { turns = x }) ])
    by_turns zero = refl
    by_turns (suc x) = h (record t { turns = x })

where_both : (b c : Bool) (o : Outcome m.Left) → where_so (b && c) o ≡ where_so b (where_so c o)
where_both true c o = refl
where_both false c o = refl

-- ---- simple instructions

-- what an instruction that writes so much comes to
abbrev Writes : Option ℕ → Did → Type 0
Writes w Goes = w ≡ None
Writes w (Tells x) = w ≡ None
Writes w (Sets d v) = w ≡ Some d
Writes w (Makes d a) = w ≡ Some d
Writes w (Prints bytes) = w ≡ None
Writes w (Stops x) = Unit {0}
Writes w Fails = Unit {0}

some_writes : (d : ℕ) (z : Option ℤ) → Writes (Some d) (sets_some d z)
some_writes d None = tt
some_writes d (Some z) = refl

test_writes : (x : ℕ) (stop : Stop) → Writes None (if_zero x (Stops stop) Goes)
test_writes zero stop = tt
test_writes (suc x) stop = refl

index_writes : (d : ℕ) (i : Option ℕ) (n size : ℕ) → Writes (Some d) (indexes d i n size)
index_writes d None n size = tt
index_writes d (Some i) n size = by_test (nat_lt i n)
  where
    by_test : (b : Bool) → Writes (Some d) (cond b (Sets d (i * size)) (Stops BoundsFault))
    by_test true = refl
    by_test false = tt

make_writes : (d l : ℕ) (n : Option ℕ) (ks : Option (List Kind)) → Writes (Some d) (makes d l n ks)
make_writes d l n None = tt
make_writes d l None (Some ks) = tt
make_writes d l (Some n) (Some ks) = refl

text_writes : (text : Option (List ℕ)) (more : List ℕ) → Writes None (prints_text text more)
text_writes None more = tt
text_writes (Some text) more = refl

does_write : (H : Head) (al : List Allocation) (rs : List ℕ) (o : Operation) → Writes (written_by o) (op_does H al rs o)
does_write H al rs (Const d z) = refl
does_write H al rs (TextOf d n) = refl
does_write H al rs (BoolOf d b) = refl
does_write H al rs (CharOf d c) = refl
does_write H al rs (Null d) = refl
does_write H al rs (Move d a) = refl
does_write H al rs (Binary o d a b) = some_writes d _
does_write H al rs (Unary operator.Negate d a) = refl
does_write H al rs (Unary operator.Complement d a) = refl
does_write H al rs (Unary operator.Not d a) = refl
does_write H al rs (Compare r d a b) = refl
does_write H al rs (CheckNull r) = test_writes (slice_index rs r) _
does_write H al rs (CheckIndex d r i size) = index_writes d (natural (int_of (slice_index rs i))) (length_of al (slice_index rs r)) size
does_write H al rs (Len d r) = refl
does_write H al rs (Prefetch r off disp) = refl
does_write H al rs (Alloc d l) = make_writes d l (Some 1) (slice_get H.layouts l)
does_write H al rs (AllocArray d l n) = make_writes d l (natural (int_of (slice_index rs n))) (slice_get H.layouts l)
does_write H al rs (Print a) = text_writes _ _
does_write H al rs (Println a) = text_writes _ _
does_write H al rs (Printint a) = refl
does_write H al rs (Printbool a) = refl
does_write H al rs (Printchar a) = refl
does_write H al rs Flush = refl
does_write H al rs (Assert a) = test_writes (slice_index rs a) _

did_write : (H : Head) (ks : List Kind) (al : List Allocation) (rs : List ℕ) (o : Operation) → Writes (written_by o) (op_did H ks al rs o)
did_write H ks al rs o = by_test (op_fits H ks o)
  where
    by_test : (b : Bool) → Writes (written_by o) (cond b (op_does H al rs o) Fails)
    by_test true = does_write H al rs o
    by_test false = tt

-- what is known where nothing was written
none_wrote : (n : ℕ) (w : Option ℕ) (k : Table) (rs : Registers) (zs : List Scope) → w ≡ None → Holds n k rs zs → Holds n (wrote w k) rs zs
none_wrote n w k rs zs e h = subst (λ x. Holds n (wrote x k) rs zs) (sym e) h

-- ... and where register d was
some_wrote : (n : ℕ) (w : Option ℕ) (k : Table) (rs : Registers) (zs : List Scope) (d v : ℕ) → w ≡ Some d → Holds n k rs zs → Holds n (wrote w k) (slice_set rs d v) (map (written d) zs)
some_wrote n w k rs zs d v e h = subst (λ x. Holds n (wrote x k) (slice_set rs d v) (map (written d) zs)) (sym e) (holds_wrote n k rs zs d v h)

operated_agrees : (n : ℕ) (es : List Table) (k : Table) (w : Option ℕ) (x : Did) (rs : Registers) (zs : List Scope) (t : State) → Writes w x → Holds n k rs zs → Agrees (Ways n es (wrote w k)) (s.operated x (both rs zs) t) (m.operated x rs t)
operated_agrees n es k w Goes rs zs t e h = (zs, refl, none_wrote n w k rs zs e h)
operated_agrees n es k w (Tells c) rs zs t e h = (zs, refl, none_wrote n w k rs zs e h)
operated_agrees n es k w (Sets d v) rs zs t e h = (map (written d) zs, refl, some_wrote n w k rs zs d v e h)
operated_agrees n es k w (Makes d a) rs zs t e h = (map (written d) zs, refl, some_wrote n w k rs zs d (suc (length t.allocations)) e h)
operated_agrees n es k w (Prints bytes) rs zs t e h = (zs, refl, none_wrote n w k rs zs e h)
operated_agrees n es k w (Stops x) rs zs t e h = refl
operated_agrees n es k w Fails rs zs t e h = refl

-- ---- code of a function with registers of these kinds and n scopes

module _ (P : Program) (call : ℕ → List ℕ → State → Outcome ℕ) (ks : List Kind) (n : ℕ) where
  -- code with its scopes, and without them
  abbrev R : Code → Local → State → Outcome s.Left
  R a = s.run P call ks a

  abbrev M : Code → Registers → State → Outcome m.Left
  M a = m.run (plain_program P) call ks (plain a)

  -- a scope is aimed, and then used
  aims_agree : (W : ℕ → Registers → List Scope → Type 0) (z r : ℕ) (off : Option ℕ) (disp : ℕ) (rs : Registers) (zs : List Scope) (t : State) (go : Local → State → Outcome s.Left) (p : Outcome m.Left) → z < length zs
      → Agrees W (go (both rs (slice_set zs z (s.aimed r off disp rs))) t) p → Agrees W (then_do (s.aims ks z r off disp (both rs zs) t) (s.falls go)) (where_so (place_fits ks r off) p)
  aims_agree W z r off disp rs zs t go p lt h = by_place (place_fits ks r off)
    where
      by_place : (b : Bool) → Agrees W (then_do (where_so (b && nat_lt z (length zs)) (s.on (both rs (slice_set zs z (s.aimed r off disp rs))) t)) (s.falls go)) (where_so b p)
      by_place true =
          subst (λ c. Agrees W (then_do (where_so c (s.on (both rs (slice_set zs z (s.aimed r off disp rs))) t)) (s.falls go)) p) (sym (lt-ltb z (length zs) lt)) h
      by_place false = refl

  -- a load by an aimed scope
  loads_agree : (W : ℕ → Registers → List Scope → Type 0) (to r : ℕ) (off : Option ℕ) (disp : ℕ) (rs : Registers) (zs : List Scope) (t : State) (z : Option Scope) → z ≡ Some (s.aimed r off disp rs)
      → W 0 (slice_set rs to (t.heap (slice_index rs r) (m.cell_at rs off disp))) (map (written to) zs)
      → Agrees W (s.loads P.head ks to z (both rs zs) t) (where_so (can_use P.head ks t.allocations to r disp (slice_index rs r) (m.cell_at rs off disp)) (m.on (slice_set rs to (t.heap (slice_index rs r) (m.cell_at rs off disp))) t))
  loads_agree W to r off disp rs zs t z e h =
      let q = slice_index rs r in
      let x = m.cell_at rs off disp in
      let p : Outcome m.Left = m.on (slice_set rs to (t.heap q x)) t in
      subst (λ o. Agrees W (s.loads P.head ks to o (both rs zs) t) (where_so (can_use P.head ks t.allocations to r disp q x) p)) (sym e)
      (where_agrees W (can_use P.head ks t.allocations to r disp q x) (s.on (s.set_to to (t.heap q x) (both rs zs)) t) p (map (written to) zs, refl, h))

  -- a store by one
  stores_agree : (W : ℕ → Registers → List Scope → Type 0) (r : ℕ) (off : Option ℕ) (disp from : ℕ) (rs : Registers) (zs : List Scope) (t : State) (z : Option Scope) → z ≡ Some (s.aimed r off disp rs)
      → W 0 rs zs
      → Agrees W (s.stores P.head ks z from (both rs zs) t) (where_so (can_use P.head ks t.allocations from r disp (slice_index rs r) (m.cell_at rs off disp)) (m.on rs (record t { heap = with_cell t.heap (slice_index rs r) (m.cell_at rs off disp) (slice_index rs from) })))
  stores_agree W r off disp from rs zs t z e h =
      let q = slice_index rs r in
      let x = m.cell_at rs off disp in
      let u : State = record t { heap = with_cell t.heap q x (slice_index rs from) } in
      subst (λ o. Agrees W (s.stores P.head ks o from (both rs zs) t) (where_so (can_use P.head ks t.allocations from r disp q x) (m.on rs u))) (sym e)
      (where_agrees W (can_use P.head ks t.allocations from r disp q x) (s.on (both rs zs) u) (m.on rs u) (zs, refl, h))

  load_sound : (to z r : ℕ) (off : Option ℕ) (disp : ℕ) (k : Table) (es : List Table) (rs : Registers) (zs : List Scope) (t : State) → z < n → Holds n k rs zs
      → Agrees (Ways n es (after (Load to z r off disp) k)) (R (Load to z r off disp) (both rs zs) t) (M (Load to z r off disp) rs t)
  load_sound to z r off disp k es rs zs t lt h =
      let W = Ways n es (after (Load to z r off disp) k) in
      let v = t.heap (slice_index rs r) (m.cell_at rs off disp) in
      let ys = slice_set zs z (s.aimed r off disp rs) in
      let inside : z < length zs = subst (λ x. z < x) (sym h.0) lt in
      subst (Agrees W (R (Load to z r off disp) (both rs zs) t)) (sym (where_both (place_fits ks r off) (can_use P.head ks t.allocations to r disp (slice_index rs r) (m.cell_at rs off disp)) (m.on (slice_set rs to v) t)))
      (aims_agree W z r off disp rs zs t (λ l u. s.loads P.head ks to (slice_get l.scopes z) l u) _ inside
      (loads_agree W to r off disp rs ys t (slice_get ys z) (scope_set zs z (s.aimed r off disp rs) inside) (holds_load n k rs zs z to v (s.aimed r off disp rs) h)))

  store_sound : (z r : ℕ) (off : Option ℕ) (disp from : ℕ) (k : Table) (es : List Table) (rs : Registers) (zs : List Scope) (t : State) → z < n → Holds n k rs zs
      → Agrees (Ways n es (after (Store z r off disp from) k)) (R (Store z r off disp from) (both rs zs) t) (M (Store z r off disp from) rs t)
  store_sound z r off disp from k es rs zs t lt h =
      let W = Ways n es (after (Store z r off disp from) k) in
      let x = m.cell_at rs off disp in
      let ys = slice_set zs z (s.aimed r off disp rs) in
      let u : State = record t { heap = with_cell t.heap (slice_index rs r) x (slice_index rs from) } in
      let inside : z < length zs = subst (λ x. z < x) (sym h.0) lt in
      subst (Agrees W (R (Store z r off disp from) (both rs zs) t)) (sym (where_both (place_fits ks r off) (can_use P.head ks t.allocations from r disp (slice_index rs r) x) (m.on rs u)))
      (aims_agree W z r off disp rs zs t (λ l u. s.stores P.head ks (slice_get l.scopes z) from l u) _ inside
      (stores_agree W r off disp from rs ys t (slice_get ys z) (scope_set zs z (s.aimed r off disp rs) inside) (holds_scope n k rs zs z (s.aimed r off disp rs) Unknown tt h)))

  load_by_sound : (to z r : ℕ) (off : Option ℕ) (disp : ℕ) (k : Table) (es : List Table) (rs : Registers) (zs : List Scope) (t : State) → z < n → place_fits ks r off ≡ true → k z ≡ KnownAimed r off disp → Holds n k rs zs
      → Agrees (Ways n es (wrote (Some to) k)) (R (LoadBy to z r off disp) (both rs zs) t) (M (LoadBy to z r off disp) rs t)
  load_by_sound to z r off disp k es rs zs t lt fits e h =
      let W = Ways n es (wrote (Some to) k) in
      let v = t.heap (slice_index rs r) (m.cell_at rs off disp) in
      let usable = can_use P.head ks t.allocations to r disp (slice_index rs r) (m.cell_at rs off disp) in
      subst (λ b. Agrees W (R (LoadBy to z r off disp) (both rs zs) t) (where_so (b && usable) (m.on (slice_set rs to v) t))) (sym fits)
      (loads_agree W to r off disp rs zs t (slice_get zs z) (aim_is n k rs zs z r off disp lt e h) (holds_wrote n k rs zs to v h))

  store_by_sound : (z r : ℕ) (off : Option ℕ) (disp from : ℕ) (k : Table) (es : List Table) (rs : Registers) (zs : List Scope) (t : State) → z < n → place_fits ks r off ≡ true → k z ≡ KnownAimed r off disp → Holds n k rs zs
      → Agrees (Ways n es k) (R (StoreBy z r off disp from) (both rs zs) t) (M (StoreBy z r off disp from) rs t)
  store_by_sound z r off disp from k es rs zs t lt fits e h =
      let W = Ways n es k in
      let x = m.cell_at rs off disp in
      let usable = can_use P.head ks t.allocations from r disp (slice_index rs r) x in
      let u : State = record t { heap = with_cell t.heap (slice_index rs r) x (slice_index rs from) } in
      subst (λ b. Agrees W (R (StoreBy z r off disp from) (both rs zs) t) (where_so (b && usable) (m.on rs u))) (sym fits)
      (stores_agree W r off disp from rs zs t (slice_get zs z) (aim_is n k rs zs z r off disp lt e h) h)

  aim_sound : (z r : ℕ) (off : Option ℕ) (disp : ℕ) (k : Table) (es : List Table) (rs : Registers) (zs : List Scope) (t : State) → z < n → place_fits ks r off ≡ true → Holds n k rs zs
      → Agrees (Ways n es (upd k z (KnownAimed r off disp))) (s.aims ks z r off disp (both rs zs) t) (m.on rs t)
  aim_sound z r off disp k es rs zs t lt fits h =
      let W = Ways n es (upd k z (KnownAimed r off disp)) in
      let ys = slice_set zs z (s.aimed r off disp rs) in
      let inside : z < length zs = subst (λ x. z < x) (sym h.0) lt in
      subst (λ b. Agrees W (where_so (b && nat_lt z (length zs)) (s.on (both rs ys) t)) (m.on rs t)) (sym fits)
      (subst (λ b. Agrees W (where_so b (s.on (both rs ys) t)) (m.on rs t)) (sym (lt-ltb z (length zs) inside))
      (ys, refl, holds_scope n k rs zs z (s.aimed r off disp rs) (KnownAimed r off disp) refl h))

  leave_sound : (z : ℕ) (k : Table) (es : List Table) (rs : Registers) (zs : List Scope) (t : State) → z < n → Holds n k rs zs → Agrees (Ways n es (upd k z KnownShut)) (s.leaves z (both rs zs) t) (m.on rs t)
  leave_sound z k es rs zs t lt h =
      let W = Ways n es (upd k z KnownShut) in
      let inside : z < length zs = subst (λ x. z < x) (sym h.0) lt in
      subst (λ b. Agrees W (where_so b (s.on (both rs (slice_set zs z Shut)) t)) (m.on rs t)) (sym (lt-ltb z (length zs) inside))
      (slice_set zs z Shut, refl, holds_scope n k rs zs z Shut KnownShut refl h)

  -- a result goes to the register that wants it
  given_agrees : (to : Option ℕ) (o : Outcome ℕ) (k : Table) (es : List Table) (rs : Registers) (zs : List Scope) → Holds n k rs zs
      → Agrees (Ways n es (wrote to k)) (then_do o (λ v u. s.on (s.gives to v (both rs zs)) u)) (then_do o (λ v u. m.on (m.gives to v rs) u))
  given_agrees None (Done v u) k es rs zs h = (zs, refl, h)
  given_agrees (Some d) (Done v u) k es rs zs h = (map (written d) zs, refl, holds_wrote n k rs zs d v h)
  given_agrees to (Stopped x out) k es rs zs h = refl
  given_agrees to (Cut out) k es rs zs h = refl
  given_agrees to Stuck k es rs zs h = refl

  called_agrees : (g : Option Function) (to : Option ℕ) (f : ℕ) (args : List ℕ) (k : Table) (es : List Table) (rs : Registers) (zs : List Scope) (t : State) → Holds n k rs zs
      → Agrees (Ways n es (wrote to k)) (s.called P call ks g to f args (both rs zs) t) (m.called (plain_program P) call ks (option_map plain_function g) to f args rs t)
  called_agrees None to f args k es rs zs t h = refl
  called_agrees (Some g) to f args k es rs zs t h =
      where_agrees (Ways n es (wrote to k)) (call_fits ks g.result g.parameters g.kinds to args) _ _ (given_agrees to (call f (map (slice_index rs) args) t) k es rs zs h)

  call_sound : (to : Option ℕ) (f : ℕ) (args : List ℕ) (k : Table) (es : List Table) (rs : Registers) (zs : List Scope) (t : State) → Holds n k rs zs
      → Agrees (Ways n es (wrote to k)) (R (Call to f args) (both rs zs) t) (M (Call to f args) rs t)
  call_sound to f args k es rs zs t h =
      subst (λ g. Agrees (Ways n es (wrote to k)) (R (Call to f args) (both rs zs) t) (m.called (plain_program P) call ks g to f args rs t)) (sym (slice_get-map plain_function P.functions f))
      (called_agrees (slice_get P.functions f) to f args k es rs zs t h)

  fail_sound : (text : Option (List ℕ)) (W : ℕ → Registers → List Scope → Type 0) (t : State) → Agrees W (s.failed text t) (m.failed text t)
  fail_sound None W t = refl
  fail_sound (Some text) W t = refl

  -- what a part of code does, from what is known before it
  abbrev Follows : Code → List Table → Table → Type 0
  Follows a es k = (rs : Registers) (zs : List Scope) (t : State) → Holds n k rs zs → Agrees (Ways n es (after a k)) (R a (both rs zs) t) (M a rs t)

  -- a loop's ways out
  loop_sound : (a b : Code) (r : ℕ) (l : Table) (es : List Table) → Follows a (l ∷ es) l → Brings (after a l) l → Follows b (l ∷ es) (after a l) → Brings (after b (after a l)) l
      → (fuel : ℕ) (rs : Registers) (zs : List Scope) (t : State) → Holds n l rs zs → Agrees (Ways n (l ∷ es) l) (s.loop (R a) r (R b) fuel (both rs zs) t) (m.loop (M a) r (M b) fuel rs t)
  loop_sound a b r l es test p body q zero rs zs t h =
      let W = Ways n (l ∷ es) l in
      agrees_then (Ways n (l ∷ es) (after a l)) W (R a (both rs zs) t) (M a rs t) _ _ (test rs zs t h)
      (agrees_falls n (l ∷ es) (after a l) W _ _ (λ qs ys u k. zero_agrees W (slice_index qs r) (s.on (both qs ys) u) (Cut u.output) (m.on qs u) (Cut u.output) (ys, refl, holds_less n (after a l) l qs ys p k) refl) (λ j qs ys v. v))
  loop_sound a b r l es test p body q (suc fuel) rs zs t h =
      let W = Ways n (l ∷ es) l in
      let again = loop_sound a b r l es test p body q fuel in
      agrees_then (Ways n (l ∷ es) (after a l)) W (R a (both rs zs) t) (M a rs t) _ _ (test rs zs t h)
      (agrees_falls n (l ∷ es) (after a l) W _ _
      (λ qs ys u k. zero_agrees W (slice_index qs r) (s.on (both qs ys) u) (turn u (λ w. then_do (R b (both qs ys) w) (s.falls (s.loop (R a) r (R b) fuel)))) (m.on qs u) (turn u (λ w. then_do (M b qs w) (m.falls (m.loop (M a) r (M b) fuel))))
      (ys, refl, holds_less n (after a l) l qs ys p k)
      (turn_agrees W u (λ w. then_do (R b (both qs ys) w) (s.falls (s.loop (R a) r (R b) fuel))) (λ w. then_do (M b qs w) (m.falls (m.loop (M a) r (M b) fuel)))
      (λ w. agrees_then (Ways n (l ∷ es) (after b (after a l))) W (R b (both qs ys) w) (M b qs w) (s.falls (s.loop (R a) r (R b) fuel)) (m.falls (m.loop (M a) r (M b) fuel)) (body qs ys w k)
      (agrees_falls n (l ∷ es) (after b (after a l)) W (s.loop (R a) r (R b) fuel) (m.loop (M a) r (M b) fuel) (λ os xs v i. again os xs v (holds_less n (after b (after a l)) l os xs q i)) (λ j os xs v. v)))))
      (λ j qs ys v. v))

  sound : (a : Code) (k : Table) (es : List Table) (rs : Registers) (zs : List Scope) (t : State) → IsDisciplined ks n es a k → Holds n k rs zs → Agrees (Ways n es (after a k)) (R a (both rs zs) t) (M a rs t)
  sound Nothing k es rs zs t p h = (zs, refl, h)
  sound (Do o) k es rs zs t p h = operated_agrees n es k (written_by o) (op_did P.head ks t.allocations rs o) rs zs t (did_write P.head ks t.allocations rs o) h
  sound (Load to z r off disp) k es rs zs t p h = load_sound to z r off disp k es rs zs t p h
  sound (Store z r off disp from) k es rs zs t p h = store_sound z r off disp from k es rs zs t p h
  sound (LoadBy to z r off disp) k es rs zs t p h = load_by_sound to z r off disp k es rs zs t p.0 p.1 p.2 h
  sound (StoreBy z r off disp from) k es rs zs t p h = store_by_sound z r off disp from k es rs zs t p.0 p.1 p.2 h
  sound (Aim z r off disp) k es rs zs t p h = aim_sound z r off disp k es rs zs t p.0 p.1 h
  sound (Leave z) k es rs zs t p h = leave_sound z k es rs zs t p h
  sound (Loose z) k es rs zs t p h = (zs, refl, holds_loose n k rs zs z h)
  sound (Call to f args) k es rs zs t p h = call_sound to f args k es rs zs t h
  sound (Fail a) k es rs zs t p h =
      where_agrees (Ways n es k) (has ks a kind.Text) _ _ (fail_sound (text_at P.head (slice_index rs a)) (Ways n es k) t)
  sound (Then a b) k es rs zs t p h =
      agrees_then (Ways n es (after a k)) (Ways n es (after b (after a k))) (R a (both rs zs) t) (M a rs t) _ _ (sound a k es rs zs t p.0 h)
      (agrees_falls n es (after a k) (Ways n es (after b (after a k))) (R b) (M b) (λ qs ys u v. sound b (after a k) es qs ys u p.1 v) (λ j qs ys v. v))
  sound (Choose c a b) k es rs zs t p h =
      let l = join (Choose c a b) k in
      where_agrees (Ways n es l) (has ks c kind.Bool) _ _ (zero_agrees (Ways n es l) (slice_index rs c) (R b (both rs zs) t) (R a (both rs zs) t) (M b rs t) (M a rs t)
      (agrees_less (Ways n es (after b k)) (Ways n es l) (R b (both rs zs) t) (M b rs t) (ways_less n es (after b k) l p.3) (sound b k es rs zs t p.2 h))
      (agrees_less (Ways n es (after a k)) (Ways n es l) (R a (both rs zs) t) (M a rs t) (ways_less n es (after a k) l p.1) (sound a k es rs zs t p.0 h)))
  sound (Loop a r b) k es rs zs t p h =
      let l = join (Loop a r b) k in
      where_agrees (Ways n es l) (has ks r kind.Bool) _ _ (agrees_then (Ways n (l ∷ es) l) (Ways n es l) (s.loop (R a) r (R b) t.turns (both rs zs) t) (m.loop (M a) r (M b) t.turns rs t) s.behind m.behind
      (loop_sound a b r l es (λ qs ys u v. sound a l (l ∷ es) qs ys u p.0 v) p.1 (λ qs ys u v. sound b (after a l) (l ∷ es) qs ys u p.2 v) p.3 t.turns rs zs t (holds_join n (Loop a r b) k rs zs h))
      (agrees_behind n es l))
  sound (Block a) k es rs zs t p h =
      let l = join (Block a) k in
      agrees_then (Ways n (l ∷ es) l) (Ways n es l) (R a (both rs zs) t) (M a rs t) s.behind m.behind
      (agrees_less (Ways n (l ∷ es) (after a k)) (Ways n (l ∷ es) l) (R a (both rs zs) t) (M a rs t) (ways_less n (l ∷ es) (after a k) l p.1) (sound a k (l ∷ es) rs zs t p.0 h))
      (agrees_behind n es l)
  sound (Exit j) k es rs zs t p h = (zs, refl, λ e q. holds_less n k e rs zs (p e q) h)

-- ---- functions and programs

same_result : (g : Function) (W : ℕ → Registers → List Scope → Type 0) (o : Outcome s.Left) (p : Outcome m.Left) → Agrees W o p → then_do o (s.result_of g) ≡ then_do p (m.result_of (plain_function g))
same_result g W o (Done (zero, rs) t) h = ap (λ x. then_do x (s.result_of g)) h.1
same_result g W o (Done (suc j, rs) t) h = ap (λ x. then_do x (s.result_of g)) h.1
same_result g W o (Stopped x out) h = ap (λ y. then_do y (s.result_of g)) h
same_result g W o (Cut out) h = ap (λ y. then_do y (s.result_of g)) h
same_result g W o Stuck h = ap (λ y. then_do y (s.result_of g)) h

length_shut : (n : ℕ) → length (replicate n Shut) ≡ n
length_shut zero = refl
length_shut (suc n) = ap suc (length_shut n)

all_shut : (rs : Registers) (n u : ℕ) → ScopeIs rs (slice_get (replicate n Shut) u) KnownShut
all_shut rs zero u = tt
all_shut rs (suc n) zero = refl
all_shut rs (suc n) (suc u) = all_shut rs n u

module _ (P : Program) (kept : IsScoped P) where
  entered_same : (call : ℕ → List ℕ → State → Outcome ℕ) (f : ℕ) (o : Option Function) → slice_get P.functions f ≡ o → (args : List ℕ) (t : State)
      → s.entered P call o args t ≡ m.entered (plain_program P) call (option_map plain_function o) args t
  entered_same call f None e args t = refl
  entered_same call f (Some g) e args t =
      let rs = m.first_registers (plain_function g) args in
      let zs = replicate g.scopes Shut in
      let p : IsScopedFunction g = subst IsScopedFunction (get_or_from_slice_get P.functions f g g e) (kept f g (slice_get_within P.functions f g e)) in
      same_result g (Ways g.scopes [] (after g.body at_entry)) (s.run P call g.kinds g.body (both rs zs) t) (m.run (plain_program P) call g.kinds (plain g.body) rs t)
      (sound P call g.kinds g.scopes g.body at_entry [] rs zs t p.body (length_shut g.scopes, all_shut rs g.scopes))

  turn_same : (t : State) (f g : State → Outcome ℕ) → ((u : State) → f u ≡ g u) → turn t f ≡ turn t g
  turn_same t f g h = let p : ◌≡◌ {A = State → Outcome ℕ} f g = λ i u. h u i in ap (turn t) p

  call_same : (d f : ℕ) (args : List ℕ) (t : State) → s.call P d f args t ≡ m.call (plain_program P) d f args t
  call_same zero f args t = refl
  call_same (suc d) f args t =
      let Q = plain_program P in
      let inner : ◌≡◌ {A = ℕ → List ℕ → State → Outcome ℕ} (s.call P d) (m.call Q d) = λ i f args t. call_same d f args t i in
      turn_same t (s.entered P (s.call P d) (slice_get P.functions f) args) (m.entered Q (m.call Q d) (slice_get Q.functions f) args)
      (λ u. ap (λ c. s.entered P c (slice_get P.functions f) args u) inner ∙ entered_same (m.call Q d) f (slice_get P.functions f) refl args u
      ∙ ap (λ o. m.entered Q (m.call Q d) o args u) (sym (slice_get-map plain_function P.functions f)))

pub means_same : (P : Program) → IsScoped P → (n : ℕ) → scoped_means P n ≡ means (plain_program P) n
means_same P kept n = ap told (call_same P kept n 0 [] (opening n))
