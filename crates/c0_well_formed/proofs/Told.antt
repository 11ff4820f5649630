-- What the entry facts of an image tell of aims is what its code aims at: displacements of 32 bits, where those of the code are.
use Rattle.std.proofs.Common.{ℕ, zero, suc, Bool, true, false, cond, List, [], ◌∷◌, Option, Some, None, ◌<◌}
use Rattle.std.specs.Prelude.{◌==◌, ◌||◌, All, not}
use Rattle.std.proofs.lemmas.Bool.{ltb-true}
use Rattle.std.proofs.lemmas.List.Elements.{All-append, All-cons, All-filter, All-head, All-nil, All-tail}
use Rattle.code_form.specs.declared.form.Fact.{Fact}
use Rattle.code_form.specs.declared.form.Fact.TheVariants as fact
use Rattle.code_form.specs.declared.form.Operation.{Operation}
use Rattle.code_form.specs.declared.form.Operation.TheVariants as op
use Rattle.code_form.specs.Form as image
use Rattle.code_form.specs.Code.{is_register}
use Rattle.code_form.specs.Effects.{upd}
use Rattle.code_form.specs.Known.{Knows, Unknown, KnownShut, KnownAimed, forget, written_by}
use Rattle.middle_form.specs.Form as f
use Rattle.middle_form.specs.Scoped as s
use Rattle.middle_form.specs.Scoped.{plain}
use Rattle.middle_form.specs.Discipline.{Table, after, at_entry, is_lost, join, stays, touches, writes, wrote}
use Rattle.middle_form.specs.Guarded.{asked_before, asked_inside, asks, is_same_check, joined, place_check, with_check, without_check}
use Rattle.codegen.specs.Generated as g
use Rattle.codegen.specs.Generated.{blocks_with, entry_facts, facts_of, known_inside, listed, scope_fact}
use Rattle.c0_well_formed.specs.Laws.{TellsNumber}
use Rattle.c0_well_formed.proofs.CellKinds.{Each, each_append}
use Rattle.c0_well_formed.proofs.Near.{Near}

-- ---- what is known of scopes

-- an aim that is known of a scope is at a displacement of 32 bits
abbrev IsNear : Knows → Type 0
IsNear (KnownAimed r off disp) = disp < 4294967296
IsNear _ = Unit {0}

abbrev KnowsNear : Table → Type 0
KnowsNear k = (z : ℕ) → IsNear (k z)

lost_or_near : (b : Bool) (z : Knows) → IsNear z → IsNear (cond b Unknown z)
lost_or_near true z h = tt
lost_or_near false z h = h

forget_near : (d : ℕ) (z : Knows) → IsNear z → IsNear (forget d z)
forget_near d Unknown h = tt
forget_near d KnownShut h = tt
forget_near d (KnownAimed r off disp) h = lost_or_near ((d == r) || is_register d off) (KnownAimed r off disp) h

stays_near : (touched : Bool) (written : ℕ → Bool) (z : Knows) → IsNear z → IsNear (stays touched written z)
stays_near touched written Unknown h = tt
stays_near touched written KnownShut h = tt
stays_near touched written (KnownAimed r off disp) h = lost_or_near (touched || is_lost written r off) (KnownAimed r off disp) h

join_near : (a : s.Code) (k : Table) → KnowsNear k → KnowsNear (join a k)
join_near a k h z = stays_near (touches a z) (writes a) (k z) (h z)

wrote_near : (d : Option ℕ) (k : Table) → KnowsNear k → KnowsNear (wrote d k)
wrote_near None k h = h
wrote_near (Some d) k h = λ z. forget_near d (k z) (h z)

upd_near : (k : Table) (t : ℕ) (x : Knows) → KnowsNear k → IsNear x → KnowsNear (upd k t x)
upd_near k t x h n z = by (z == t)
  where
    by : (b : Bool) → IsNear (cond b x (k z))
    by true = n
    by false = h z

after_near : (a : s.Code) (k : Table) → Near a → KnowsNear k → KnowsNear (after a k)
after_near s.Nothing k n h = h
after_near (s.Do o) k n h = wrote_near (written_by o) k h
after_near (s.Load to z r off disp) k n h = upd_near (wrote (Some to) k) z Unknown (wrote_near (Some to) k h) tt
after_near (s.Store z r off disp from) k n h = upd_near k z Unknown h tt
after_near (s.LoadBy to z r off disp) k n h = wrote_near (Some to) k h
after_near (s.StoreBy z r off disp from) k n h = h
after_near (s.Aim z r off disp) k n h = upd_near k z (KnownAimed r off disp) h (ltb-true disp 4294967296 n)
after_near (s.Leave z) k n h = upd_near k z KnownShut h tt
after_near (s.Loose z) k n h = upd_near k z Unknown h tt
after_near (s.Call to i args) k n h = wrote_near to k h
after_near (s.Fail a) k n h = h
after_near (s.Then a b) k n h = after_near b (after a k) n.1 (after_near a k n.0 h)
after_near (s.Choose r a b) k n h = join_near (s.Choose r a b) k h
after_near (s.Loop test r body) k n h = join_near (s.Loop test r body) k h
after_near (s.Block a) k n h = join_near (s.Block a) k h
after_near (s.Exit i) k n h = h

known_near : (a : s.Code) (k : Table) → Near a → KnowsNear k → Each KnowsNear (known_inside a k)
known_near (s.Then a b) k n h = each_append KnowsNear (known_inside b (after a k)) (known_inside a k) (known_near b (after a k) n.1 (after_near a k n.0 h)) (known_near a k n.0 h)
known_near (s.Choose r a b) k n h =
    (join_near (s.Choose r a b) k h, each_append KnowsNear (known_inside a k) _ (known_near a k n.0 h) (h, each_append KnowsNear (known_inside b k) _ (known_near b k n.1 h) (h, tt)))
known_near (s.Loop test r body) k n h =
    let head = join (s.Loop test r body) k in
    let at_head = join_near (s.Loop test r body) k h in
    let turn = after test head in
    let at_turn = after_near test head n.0 at_head in
    (at_head, (at_head, each_append KnowsNear (known_inside body turn) _ (known_near body turn n.1 at_turn) (at_turn, known_near test head n.0 at_head)))
known_near (s.Block a) k n h = (join_near (s.Block a) k h, known_near a k n h)
known_near _ k n h = tt

-- ---- checks that are asked, none of which tells of an aim

abbrev TellNumbers : List Fact → Type 0
TellNumbers w = All TellsNumber w

without_told : (x : Fact) (w : List Fact) → TellNumbers w → TellNumbers (without_check x w)
without_told x w h = All-filter (λ (y : Fact). not (is_same_check x y)) TellsNumber w h

with_told : (x : Fact) (w : List Fact) → TellsNumber x → TellNumbers w → TellNumbers (with_check x w)
with_told x w n h = All-cons TellsNumber x (without_check x w) n (without_told x w h)

joined_told : (v w : List Fact) → TellNumbers v → TellNumbers w → TellNumbers (joined v w)
joined_told [] w h k = k
joined_told (x ∷ v) w h k = with_told x (joined v w) (All-head TellsNumber x v h) (joined_told v w (All-tail TellsNumber x v h) k)

before_told : (o : Operation) (w : List Fact) → TellNumbers w → TellNumbers (asked_before o w)
before_told (op.CheckNull r) w h = without_told (fact.Nonnull r) w h
before_told (op.CheckIndex d r i size) w h = without_told (fact.Inside d r) w h
before_told _ w h = h

place_told : (r : ℕ) (off : Option ℕ) → TellsNumber (place_check r off)
place_told r None = tt
place_told r (Some d) = tt

nothing_told : TellNumbers []
nothing_told = All-nil TellsNumber

asks_told : (a : f.Code) (w : List Fact) → TellNumbers w → TellNumbers (asks a w)
asks_told f.Nothing w h = h
asks_told (f.Do o) w h = before_told o w h
asks_told (f.Load to r off disp) w h = with_told (place_check r off) w (place_told r off) h
asks_told (f.Store r off disp from) w h = with_told (place_check r off) w (place_told r off) h
asks_told (f.Call to i args) w h = h
asks_told (f.Fail a) w h = nothing_told
asks_told (f.Then a b) w h = asks_told a (asks b w) (asks_told b w h)
asks_told (f.Choose r a b) w h = joined_told (asks a w) (asks b w) (asks_told a w h) (asks_told b w h)
asks_told (f.Loop test r body) w h = nothing_told
asks_told (f.Block a) w h = asks_told a [] nothing_told
asks_told (f.Exit i) w h = nothing_told

asked_told : (a : f.Code) (w : List Fact) → TellNumbers w → Each TellNumbers (asked_inside a w)
asked_told (f.Then a b) w h = each_append TellNumbers (asked_inside b w) (asked_inside a (asks b w)) (asked_told b w h) (asked_told a (asks b w) (asks_told b w h))
asked_told (f.Choose r a b) w h =
    (h, each_append TellNumbers (asked_inside a w) _ (asked_told a w h) (asks_told a w h, each_append TellNumbers (asked_inside b w) _ (asked_told b w h) (asks_told b w h, tt)))
asked_told (f.Loop test r body) w h =
    (nothing_told, (h, each_append TellNumbers (asked_inside body []) _ (asked_told body [] nothing_told) (asks_told body [] nothing_told, asked_told test [] nothing_told)))
asked_told (f.Block a) w h = (h, asked_told a [] nothing_told)
asked_told _ w h = tt

-- ---- entry facts

scope_told : (n : ℕ) (z : Knows) → IsNear z → TellNumbers (scope_fact n z)
scope_told n Unknown h = nothing_told
scope_told n KnownShut h = All-cons TellsNumber (fact.Shut n) [] tt nothing_told
scope_told n (KnownAimed r off disp) h = All-cons TellsNumber (fact.Aimed n r off disp) [] h nothing_told

listed_told : (n : ℕ) (k : Table) → KnowsNear k → TellNumbers (listed n k)
listed_told zero k h = nothing_told
listed_told (suc n) k h = All-append TellsNumber (scope_fact n (k n)) (listed n k) (scope_told n (k n) (h n)) (listed_told n k h)

entries_told : (n : ℕ) (ks : List Table) (ws : List (List Fact)) → Each KnowsNear ks → Each TellNumbers ws → Each TellNumbers (entry_facts n ks ws)
entries_told n [] ws h k = tt
entries_told n (x ∷ ks) [] h k = tt
entries_told n (x ∷ ks) (w ∷ ws) h k = (All-append TellsNumber (listed n x) w (listed_told n x h.0) k.0, entries_told n ks ws h.1 k.1)

pub facts_told : (x : s.Function) → Near x.body → Each TellNumbers (facts_of x)
facts_told x near =
    let shut : KnowsNear at_entry = λ z. tt in
    let known : Each KnowsNear (g.known_of x) = (shut, known_near x.body at_entry near shut) in
    let asked : Each TellNumbers (g.asked_of x) = (asks_told (plain x.body) [] nothing_told, asked_told (plain x.body) [] nothing_told) in
    entries_told x.scopes (g.known_of x) (g.asked_of x) known asked

pub blocks_told : (ws : List (List Fact)) (bs : List (List image.Instruction)) → Each TellNumbers ws → Each (λ (b : image.Block). All TellsNumber b.facts) (blocks_with ws bs)
blocks_told ws [] h = tt
blocks_told [] (b ∷ bs) h = (nothing_told, blocks_told [] bs tt)
blocks_told (w ∷ ws) (b ∷ bs) h = (h.0, blocks_told ws bs h.1)
