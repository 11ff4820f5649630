-- Each kind of instruction keeps the scopes' holds as its program's scopes have them.
use Rattle.std.proofs.Common.{◌≡◌, ◌≢◌, inl, inr, ℕ, ◌+◌, ◌%◌, ◌<◌, ◌≤◌, Bool, true, false, cond, List, [], ◌∷◌, ◌++◌, length, refl, sym, ap, ◌∙◌, subst, arith}
use Rattle.cells.proofs.Pieces.{piece_some}
use Rattle.std.specs.Prelude.{◌==◌, Option, Some, None}
use Rattle.std.proofs.lemmas.Bool.Decides.{eqb_tells}
use Rattle.std.proofs.lemmas.List.{append-nil, get_or-set_same, get_or-set_other}
use Rattle.call_execution.specs.declared.plan.Plan.{Plan}
use Rattle.call_execution.specs.Planning.{Plans}
use Rattle.code_form.specs.Form.{Image}
use Rattle.code_form.specs.Effects.{upd}
use Rattle.code_form.specs.Code.{Core, allocations_of, effect, held, most_scopes, sizes}
use Rattle.code_form.specs.Placed.{object_at, pieces}
use Rattle.code_form.specs.Touches.{cell_option, cells_asked, resumed}
use Rattle.code_form.specs.Tracked.{HoldsSameBut, WaitsShut}
use Rattle.code_form.specs.declared.touch.Cell.{Cell}
use Rattle.code_form.specs.declared.touch.Touch.{Touch}
use Rattle.code_form.specs.declared.touch.Touch.TheVariants as touch
use Rattle.pointer_word.specs.Hands.{Note, added, blank, latest_of, or_zero}
use Rattle.std.proofs.Math.Nat.{mod-lt}
use Rattle.object_lock.specs.Seats.{Owns, View, note, with_note}
use Rattle.atomic_table.specs.Seated.{TableId}
use Rattle.session.specs.declared.hold.Hold.{Hold}
use Rattle.session.specs.State.{AllShut, Matches, State, cells_in, hold_at, latest_in, next_touch, object_of, seat_in}
use Rattle.session.specs.Keeping.{Changes, Closes, HasWriter, IsHolding, IsNext, IsPlaced, IsSafe, Moves, a_hold, extended, finished, shut, shut_at, written}
use Rattle.object_moves.proofs.Filling.{seen_else, seen_here}
use Rattle.session.proofs.Holding.{owned_here}
use Rattle.session.proofs.Laws.{Does, Laws, does}
use Rattle.session.proofs.Writing.{holding_written}

-- ---- what stays where only the program went on

holding_finished : (t u : State) (v : ℕ) → u ≡ finished t v → cells_in u ≡ cells_in t → IsHolding t → IsHolding u
holding_finished t u v e cells h =
    let same : cells_in (finished t v) ≡ cells_in t = ap cells_in (sym e) ∙ cells in
    subst IsHolding (sym e) (record {
      low = h.low;
      room = h.room;
      wide = h.wide;
      small = h.small;
      cells = h.cells;
      placed = subst (λ ns. IsPlaced t.view.sizes.cells t.view.low ns t.firsts t.next) (sym same) h.placed;
      held = h.held;
      counted = h.counted;
      four = h.four;
      few = h.few;
      quiet = h.quiet;
    })

object_same : (s u : State) → u.view.sizes.cells ≡ s.view.sizes.cells → u.view.low ≡ s.view.low → cells_in u ≡ cells_in s → (a : Cell) → object_of u a ≡ object_of s a
object_same s u size low cells a =
    ap (λ c. object_at c u.view.low (cells_in u) a.reference a.index) size ∙
    (ap (λ n. object_at s.view.sizes.cells n (cells_in u) a.reference a.index) low ∙ ap (λ ns. object_at s.view.sizes.cells s.view.low ns a.reference a.index) cells)

matches_same : (s u : State) → u.view.sizes.cells ≡ s.view.sizes.cells → u.view.low ≡ s.view.low → cells_in u ≡ cells_in s → (x : Option Cell) (h : Option Hold) → Matches s x h → Matches u x h
matches_same s u size low cells None None m = tt
matches_same s u size low cells None (Some h) m = m
matches_same s u size low cells (Some a) None m = m
matches_same s u size low cells (Some a) (Some h) m = m ∙ sym (object_same s u size low cells a)

safe_with : (s u : State) → IsHolding u → u.view.sizes.cells ≡ s.view.sizes.cells → u.view.low ≡ s.view.low → cells_in u ≡ cells_in s → WaitsShut u.core
    → ((k : ℕ) → Matches s (cell_option (held u.core k)) (hold_at u.holds k)) → IsSafe u
safe_with s u holding size low cells waits scopes = record { holding = holding; scopes = λ k. matches_same s u size low cells _ _ (scopes k); waits = waits }

-- a program that goes on from t, which differs from s in holds only, goes on from s
core_of_changed : (s t u : State) (v : ℕ) → t.image ≡ s.image → t.core ≡ s.core → u ≡ finished t v → u.core ≡ resumed (effect s.image s.core) s.core v
core_of_changed s t u v image core e =
    ap (λ (x : State). x.core) e ∙ (ap (λ c. resumed (effect t.image c) c v) core ∙ ap (λ i. resumed (effect i s.core) s.core v) image)

-- what was planned is still so where the program stayed
pub plan_stays : (p : Plan) (s t : State) → t.image ≡ s.image → t.core ≡ s.core → Plans p s.image s.core → Plans p t.image t.core
plan_stays p s t image core h = subst (λ (C : Image). Plans p C t.core) (sym image) (subst (λ (k : Core). Plans p s.image k) (sym core) h)

touch_same : (s t : State) → t.image ≡ s.image → t.core ≡ s.core → next_touch t ≡ next_touch s
touch_same s t image core = ap (λ c. Rattle.code_form.specs.Touches.touch_of (effect t.image c)) core ∙ ap (λ i. Rattle.code_form.specs.Touches.touch_of (effect i s.core)) image

-- the instruction is no allocation
pub may_finish : (s t : State) (x : Touch) → t.image ≡ s.image → t.core ≡ s.core → next_touch s ≡ x → cells_asked x ≡ None → cells_asked (next_touch t) ≡ None
may_finish s t x image core e none = ap cells_asked (touch_same s t image core ∙ e) ∙ none

-- what is known of u, where s became t by holds and t became u by finishing
module _ (laws : Laws) (s t u : State) (x : Touch) (v : ℕ) (safe : IsSafe s) (next : IsNext x s) (ok : IsHolding t) (image : t.image ≡ s.image) (core : t.core ≡ s.core)
    (low : t.view.low ≡ s.view.low) (size : t.view.sizes.cells ≡ s.view.sizes.cells) (e : u ≡ finished t v) where
  pub core_is : u.core ≡ resumed (effect s.image s.core) s.core v
  core_is = core_of_changed s t u v image core e

  pub did : Does x s.core u.core
  did = subst (λ (d : Core). Does x s.core d) (sym core_is) (does laws s x v safe.waits next)

  pub safe_after : cells_in u ≡ cells_in s → ((k : ℕ) → Matches s (cell_option (held u.core k)) (hold_at t.holds k)) → IsSafe u
  safe_after cells scopes =
      let view : u.view ≡ t.view = ap (λ (y : State). y.view) e in
      let holds : u.holds ≡ t.holds = ap (λ (y : State). y.holds) e in
      let cells_t : cells_in u ≡ cells_in t = cells ∙ sym (ap (λ (c : Core). sizes (allocations_of c)) core) in
      safe_with s u (holding_finished t u v e cells_t ok) (ap (λ (y : View). y.sizes.cells) view ∙ size) (ap (λ (y : View). y.low) view ∙ low) cells did.waits
      (λ k. subst (λ hs. Matches s (cell_option (held u.core k)) (hold_at hs k)) (sym holds) (scopes k))

-- ---- holds that stay

same_match : (s : State) (d : Core) (k : ℕ) (h : Option Hold) → held d k ≡ held s.core k → h ≡ hold_at s.holds k → Matches s (cell_option (held s.core k)) (hold_at s.holds k)
    → Matches s (cell_option (held d k)) h
same_match s d k h e f m =
    subst (λ z. Matches s (cell_option z) h) (sym e) (subst (λ z. Matches s (cell_option (held s.core k)) z) (sym f) m)

pub safe_plain : Laws → (s u : State) → IsSafe s → IsNext touch.Plain s → u ≡ finished s 0 → IsSafe u
safe_plain laws s u safe next e =
    let d = did laws s s u touch.Plain 0 safe next safe.holding refl refl refl refl e in
    safe_after laws s s u touch.Plain 0 safe next safe.holding refl refl refl refl e d.tidies (λ k. same_match s u.core k _ (d.tracks k) refl (safe.scopes k))

pub safe_hinted : Laws → (s u : State) (w : Option Cell) → IsSafe s → IsNext (touch.Hints w) s → u ≡ finished s 0 → IsSafe u
safe_hinted laws s u w safe next e =
    let x = touch.Hints w in
    let d = did laws s s u x 0 safe next safe.holding refl refl refl refl e in
    safe_after laws s s u x 0 safe next safe.holding refl refl refl refl e d.tidies (λ k. same_match s u.core k _ (d.tracks k) refl (safe.scopes k))

pub safe_loaded : Laws → (s u : State) (k : ℕ) (a : Cell) (v : ℕ) → IsSafe s → IsNext (touch.Loads k a) s → u ≡ finished s v → IsSafe u
safe_loaded laws s u k a v safe next e =
    let x = touch.Loads k a in
    let d = did laws s s u x v safe next safe.holding refl refl refl refl e in
    safe_after laws s s u x v safe next safe.holding refl refl refl refl e d.tidies (λ j. same_match s u.core j _ (d.tracks.1 j) refl (safe.scopes j))

-- ---- a hold that changes

-- one scope's hold is of this cell, and the others' stay
one_match : (s t : State) (d : Core) (k : ℕ) (w : Option Cell) → IsSafe s → Changes k s t → cell_option (held d k) ≡ w → HoldsSameBut k d s.core → Matches s w (hold_at t.holds k)
    → (j : ℕ) → Matches s (cell_option (held d j)) (hold_at t.holds j)
one_match s t d k w safe ch here others m j =
    elim (eqb_tells j k) [
      | inl q ↦ subst (λ i. Matches s (cell_option (held d i)) (hold_at t.holds i)) (sym q.1) (subst (λ z. Matches s z (hold_at t.holds k)) (sym here) m)
      | inr q ↦ same_match s d j (hold_at t.holds j) (others j q.1) (ch.others j q.1) (safe.scopes j)
    ]

pub safe_aimed : Laws → (s t u : State) (k : ℕ) (w : Option Cell) → IsSafe s → IsNext (touch.Aims k w) s → IsHolding t → Changes k s t → Matches s w (hold_at t.holds k) → u ≡ finished t 0 → IsSafe u
safe_aimed laws s t u k w safe next ok ch m e =
    let x = touch.Aims k w in
    let d = did laws s t u x 0 safe next ok ch.image ch.core ch.low (ap (λ (y : TableId × View). y.1.sizes.cells) ch.seat) e in
    safe_after laws s t u x 0 safe next ok ch.image ch.core ch.low (ap (λ (y : TableId × View). y.1.sizes.cells) ch.seat) e d.tidies (one_match s t u.core k w safe ch d.tracks.0 d.tracks.1 m)

shut_none : (s : State) (k : ℕ) (x : Option Hold) → k < length s.holds → hold_at s.holds k ≡ x → hold_at (shut_at s k x).holds k ≡ None
shut_none s k None l e = e
shut_none s k (Some h) l e = get_or-set_same s.holds k None None l

pub safe_left : Laws → (s t u : State) (k : ℕ) → IsSafe s → IsNext (touch.Leaves k) s → IsHolding t → Changes k s t → k < length s.holds → t ≡ shut s k → u ≡ finished t 0 → IsSafe u
safe_left laws s t u k safe next ok ch l after e =
    let x = touch.Leaves k in
    let none : Option Cell = None in
    let d = did laws s t u x 0 safe next ok ch.image ch.core ch.low (ap (λ (y : TableId × View). y.1.sizes.cells) ch.seat) e in
    let gone : hold_at t.holds k ≡ None = ap (λ (y : State). hold_at y.holds k) after ∙ shut_none s k (hold_at s.holds k) l refl in
    safe_after laws s t u x 0 safe next ok ch.image ch.core ch.low (ap (λ (y : TableId × View). y.1.sizes.cells) ch.seat) e d.tidies
    (one_match s t u.core k none safe ch (ap cell_option d.tracks.0) d.tracks.1 (subst (λ h. Matches s none h) (sym gone) tt))

-- ---- loads and stores

-- the scope of a load or a store holds the cell's object
match_object : (s : State) (a : Cell) (x : Option Hold) → Matches s (Some a) x → (h : Hold) × (x ≡ Some h) × (h.object ≡ object_of s a)
match_object s a None m = absurd m
match_object s a (Some h) m = (h, refl, m)

used_hold : (s : State) (k : ℕ) (a : Cell) → IsSafe s → cell_option (held s.core k) ≡ Some a → (h : Hold) × (hold_at s.holds k ≡ Some h) × (h.object ≡ object_of s a)
used_hold s k a safe e = match_object s a (hold_at s.holds k) (subst (λ z. Matches s z (hold_at s.holds k)) e (safe.scopes k))

pub loads_cell : Laws → (s : State) (k : ℕ) (a : Cell) → IsSafe s → IsNext (touch.Loads k a) s → cell_option (held s.core k) ≡ Some a
loads_cell laws s k a safe next = (does laws s (touch.Loads k a) 0 safe.waits next).tracks.0

pub stores_cell : Laws → (s : State) (k : ℕ) (a : Cell) (v : ℕ) → IsSafe s → IsNext (touch.Stores k a v) s → cell_option (held s.core k) ≡ Some a
stores_cell laws s k a v safe next = (does laws s (touch.Stores k a v) 0 safe.waits next).tracks.0

is_some_hold : (x : Option Hold) (h : Hold) → x ≡ Some h → x ≢ None
is_some_hold x h e = λ n. let z : Some h ≡ None = sym e ∙ n in cc

pub load_held : Laws → (s : State) (k : ℕ) (a : Cell) → IsSafe s → IsNext (touch.Loads k a) s → hold_at s.holds k ≢ None
load_held laws s k a safe next = let h = used_hold s k a safe (loads_cell laws s k a safe next) in is_some_hold (hold_at s.holds k) h.0 h.1

pub store_held : Laws → (s : State) (k : ℕ) (a : Cell) (v : ℕ) → IsSafe s → IsNext (touch.Stores k a v) s → hold_at s.holds k ≢ None
store_held laws s k a v safe next = let h = used_hold s k a safe (stores_cell laws s k a v safe next) in is_some_hold (hold_at s.holds k) h.0 h.1

pub object_is : (s : State) (k : ℕ) (a : Cell) (h : Hold) → IsSafe s → cell_option (held s.core k) ≡ Some a → hold_at s.holds k ≡ Some h → h.object ≡ object_of s a
object_is s k a h safe c e =
    let z = used_hold s k a safe c in
    let there = z.1 in
    let same : h ≡ z.0 = cc in
    ap (λ (y : Hold). y.object) same ∙ z.2

-- the scope of an instruction is one of four
pub scope_low : (s : State) (k : ℕ) → IsHolding s → k < most_scopes s.image.functions → k < length s.holds
scope_low s k h l = let a = h.four in let b = h.few in omega arith

-- a load or a store within the piece, where its object is
pub cell_low : (s : State) (k : ℕ) (h : Hold) (x : ℕ) → IsHolding s → hold_at s.holds k ≡ Some h → (h.frame < s.view.sizes.frames) × (x % s.view.sizes.cells < s.view.sizes.cells)
cell_low s k h x ok e = ((ok.held k h e).room, mod-lt x (piece_some _ ok.cells))

pub load_low : (s : State) (k : ℕ) (h : Hold) (x i : ℕ) → IsHolding s → hold_at s.holds k ≡ Some h → i ≡ x % s.view.sizes.cells → (h.frame < s.view.sizes.frames) × (i < s.view.sizes.cells)
load_low s k h x i ok e p = let a = cell_low s k h x ok e in (a.0, subst (λ n. n < s.view.sizes.cells) (sym p) a.1)

pub load_may : (s : State) (k : ℕ) (h : Hold) → IsHolding s → hold_at s.holds k ≡ Some h → Owns s.view h.object × ((note s.view h.object).frame ≡ Some h.frame)
load_may s k h ok e = let a = ok.held k h e in (a.owns, a.here)

pub store_low : (t : State) (k : ℕ) (h : Hold) (x i : ℕ) → IsHolding t → HasWriter t k h → i ≡ x % t.view.sizes.cells → (h.frame < t.view.sizes.frames) × (i < t.view.sizes.cells)
store_low t k h x i ok w p = load_low t k (a_hold h.object h.frame true) x i ok w p

pub store_may : (t : State) (k : ℕ) (h : Hold) → IsHolding t → HasWriter t k h → Owns t.view h.object × ((note t.view h.object).frame ≡ Some h.frame) × ((note t.view h.object).writing ≡ true)
store_may t k h ok w = let a = ok.held k (a_hold h.object h.frame true) w in (a.owns, a.here, a.writing refl)

pub safe_stored : Laws → (s t v u : State) (k : ℕ) (a : Cell) (n i : ℕ) (h : Hold) → IsSafe s → IsNext (touch.Stores k a n) s → k < length s.holds → hold_at s.holds k ≡ Some h → IsHolding t → Changes k s t → HasWriter t k h
    → v ≡ written t h i n → u ≡ finished v 0 → IsSafe u
safe_stored laws s t v u k a n i h safe next l e ok ch w d f =
    let x = touch.Stores k a n in
    let lt : k < length t.holds = let z = ch.many in omega arith in
    let hv : IsHolding v = holding_written t v k h i n ok lt w d in
    let image : v.image ≡ s.image = ap (λ (y : State). y.image) d ∙ ch.image in
    let core : v.core ≡ s.core = ap (λ (y : State). y.core) d ∙ ch.core in
    let low : v.view.low ≡ s.view.low = ap (λ (y : State). y.view.low) d ∙ ch.low in
    let size : v.view.sizes.cells ≡ s.view.sizes.cells = ap (λ (y : State). y.view.sizes.cells) d ∙ ap (λ (y : TableId × View). y.1.sizes.cells) ch.seat in
    let holds : v.holds ≡ t.holds = ap (λ (y : State). y.holds) d in
    let p = did laws s v u x 0 safe next hv image core low size f in
    let o = object_is s k a h safe (stores_cell laws s k a n safe next) e in
    let mine : Matches s (cell_option (held s.core k)) (hold_at v.holds k) =
    subst (λ z. Matches s z (hold_at v.holds k)) (sym (stores_cell laws s k a n safe next))
    (subst (λ z. Matches s (Some a) z) (sym (ap (λ hs. hold_at hs k) holds ∙ w)) o) in
    safe_after laws s v u x 0 safe next hv image core low size f p.tidies
    (λ j. subst (λ z. Matches s (cell_option z) (hold_at v.holds j)) (sym (p.tracks.1 j)) (kept v mine holds j))
  where
    kept : (v' : State) → Matches s (cell_option (held s.core k)) (hold_at v'.holds k) → v'.holds ≡ t.holds → (j : ℕ) → Matches s (cell_option (held s.core j)) (hold_at v'.holds j)
    kept v' mine holds j =
        elim (eqb_tells j k) [
          | inl q ↦ subst (λ z. Matches s (cell_option (held s.core z)) (hold_at v'.holds z)) (sym q.1) mine
          | inr q ↦ subst (λ z. Matches s (cell_option (held s.core j)) z) (sym (ap (λ hs. hold_at hs j) holds ∙ ch.others j q.1)) (safe.scopes j)
        ]

-- ---- ends and allocations

pub safe_ended : Laws → (s t u : State) → IsSafe s → IsNext touch.Ends s → IsHolding t → Closes s t → AllShut t → u ≡ finished t 0 → IsSafe u
safe_ended laws s t u safe next ok ch all e =
    let d = did laws s t u touch.Ends 0 safe next ok ch.image ch.core ch.low (ap (λ (y : TableId × View). y.1.sizes.cells) ch.seat) e in
    safe_after laws s t u touch.Ends 0 safe next ok ch.image ch.core ch.low (ap (λ (y : TableId × View). y.1.sizes.cells) ch.seat) e d.tidies
    (λ k. subst (λ z. Matches s (cell_option z) (hold_at t.holds k)) (sym (d.tracks k)) (subst (λ z. Matches s None z) (sym (all k)) tt))

no_match : (s u : State) (x : Option Cell) (h : Option Hold) → x ≡ None → Matches s x h → Matches u None h
no_match s u None None e m = tt
no_match s u None (Some h) e m = m
no_match s u (Some a) h e m = absurd (cc)

pub safe_extended : Laws → (s u : State) (n : ℕ) → IsSafe s → IsNext (touch.Allocs n) s → s.next + pieces s.view.sizes.cells n ≤ s.view.high → u ≡ extended s n → IsSafe u
safe_extended laws s u n safe next room e =
    let h = safe.holding in
    let d = does laws s (touch.Allocs n) 0 safe.waits next in
    subst IsSafe (sym e) (record {
      holding = record {
        low = let a = h.low in omega arith;
        room = room;
        wide = h.wide;
        small = h.small;
        cells = h.cells;
        placed = subst (λ ns. IsPlaced s.view.sizes.cells s.view.low ns (s.next ∷ s.firsts) (s.next + pieces s.view.sizes.cells n)) (sym d.tidies) (refl, h.placed);
        held = h.held;
        counted = h.counted;
        four = h.four;
        few = h.few;
        quiet = h.quiet;
      };
      scopes = λ k. subst (λ z. Matches (extended s n) (cell_option z) (hold_at s.holds k)) (sym (d.tracks k).1)
          (no_match s (extended s n) (cell_option (held s.core k)) (hold_at s.holds k) (ap cell_option (d.tracks k).0) (safe.scopes k));
      waits = d.waits;
    })

-- ---- what was done

same_latest : (v w : View) → ((o : ℕ) → (note w o).history ≡ (note v o).history) → (o i : ℕ) → latest_in w o i ≡ latest_in v o i
same_latest v w h o i = ap (λ ps. latest_of ps i) (h o)

pub moves_plain : (honest : Type 0) (s u : State) → u ≡ finished s 0 → Moves honest touch.Plain s u
moves_plain honest s u e = subst (λ (y : State). Moves honest touch.Plain s y) (sym e) (record { image = refl; want = refl; refusals = refl; value = 0; core = refl; loads = λ _. tt; stores = λ o i. refl; added = λ o. sym (append-nil (note s.view o).history); low = refl; high = refl; seat = refl; completed = refl })

pub moves_hinted : (honest : Type 0) (s u : State) (w : Option Cell) → u ≡ finished s 0 → Moves honest (touch.Hints w) s u
moves_hinted honest s u w e = subst (λ (y : State). Moves honest (touch.Hints w) s y) (sym e) (record { image = refl; want = refl; refusals = refl; value = 0; core = refl; loads = λ _. tt; stores = λ o i. refl; added = λ o. sym (append-nil (note s.view o).history); low = refl; high = refl; seat = refl; completed = refl })

pub moves_loaded : (honest : Type 0) → Laws → (s u : State) (k : ℕ) (a : Cell) (v i : ℕ) (h : Hold) → IsSafe s → IsNext (touch.Loads k a) s → hold_at s.holds k ≡ Some h → i ≡ a.index % s.view.sizes.cells
    → (honest → v ≡ latest_in s.view h.object i) → u ≡ finished s v → Moves honest (touch.Loads k a) s u
moves_loaded honest laws s u k a v i h safe next e p got f =
    let o = object_is s k a h safe (loads_cell laws s k a safe next) e in
    subst (λ (y : State). Moves honest (touch.Loads k a) s y) (sym f)
    (record { image = refl; want = refl; refusals = refl; value = v; core = refl; loads = λ q. got q ∙ (ap (λ z. latest_in s.view z i) o ∙ ap (latest_in s.view (object_of s a)) p); stores = λ o i. refl; added = λ o. sym (append-nil (note s.view o).history); low = refl; high = refl; seat = refl; completed = refl })

module _ (honest : Type 0) (s t u : State) (k : ℕ) (ch : Changes k s t) (e : u ≡ finished t 0) where
  pub moves_aimed : (w : Option Cell) → Moves honest (touch.Aims k w) s u
  moves_aimed w = record {
    image = ap (λ (y : State). y.image) e ∙ ch.image;
    want = ap (λ (y : State). y.want) e ∙ ch.want;
    refusals = ap (λ (y : State). y.refusals) e ∙ ch.refusals;
    value = 0;
    core = core_of_changed s t u 0 ch.image ch.core e;
    loads = λ _. tt;
    stores = λ o i. ap (λ (y : State). latest_in y.view o i) e ∙ same_latest s.view t.view ch.stored o i;
    added = λ o. ap (λ (y : State). (note y.view o).history) e ∙ (ch.stored o ∙ sym (append-nil (note s.view o).history));
    low = ap (λ (y : State). y.view.low) e ∙ ch.low;
    high = ap (λ (y : State). y.view.high) e ∙ ch.high;
    seat = ap seat_in e ∙ ch.seat;
    completed = ap (λ (y : State). y.completed) e ∙ ap (λ n. n + 1) ch.completed;
  }

  pub moves_left : Moves honest (touch.Leaves k) s u
  moves_left = record {
    image = ap (λ (y : State). y.image) e ∙ ch.image;
    want = ap (λ (y : State). y.want) e ∙ ch.want;
    refusals = ap (λ (y : State). y.refusals) e ∙ ch.refusals;
    value = 0;
    core = core_of_changed s t u 0 ch.image ch.core e;
    loads = λ _. tt;
    stores = λ o i. ap (λ (y : State). latest_in y.view o i) e ∙ same_latest s.view t.view ch.stored o i;
    added = λ o. ap (λ (y : State). (note y.view o).history) e ∙ (ch.stored o ∙ sym (append-nil (note s.view o).history));
    low = ap (λ (y : State). y.view.low) e ∙ ch.low;
    high = ap (λ (y : State). y.view.high) e ∙ ch.high;
    seat = ap seat_in e ∙ ch.seat;
    completed = ap (λ (y : State). y.completed) e ∙ ap (λ n. n + 1) ch.completed;
  }

pub moves_ended : (honest : Type 0) (s t u : State) → Closes s t → u ≡ finished t 0 → Moves honest touch.Ends s u
moves_ended honest s t u ch e = record {
  image = ap (λ (y : State). y.image) e ∙ ch.image;
  want = ap (λ (y : State). y.want) e ∙ ch.want;
  refusals = ap (λ (y : State). y.refusals) e ∙ ch.refusals;
  value = 0;
  core = core_of_changed s t u 0 ch.image ch.core e;
  loads = λ _. tt;
  stores = λ o i. ap (λ (y : State). latest_in y.view o i) e ∙ same_latest s.view t.view ch.stored o i;
  added = λ o. ap (λ (y : State). (note y.view o).history) e ∙ (ch.stored o ∙ sym (append-nil (note s.view o).history));
  low = ap (λ (y : State). y.view.low) e ∙ ch.low;
  high = ap (λ (y : State). y.view.high) e ∙ ch.high;
  seat = ap seat_in e ∙ ch.seat;
  completed = ap (λ (y : State). y.completed) e ∙ ap (λ n. n + 1) ch.completed;
}

pub moves_extended : (honest : Type 0) (s u : State) (n : ℕ) → u ≡ extended s n → Moves honest (touch.Allocs n) s u
moves_extended honest s u n e = subst (λ (y : State). Moves honest (touch.Allocs n) s y) (sym e) (record { image = refl; want = refl; refusals = refl; value = 0; core = refl; loads = λ _. tt; stores = λ o i. refl; added = λ o. sym (append-nil (note s.view o).history); low = refl; high = refl; seat = refl; completed = refl })

-- the latest stores, with one more
latest_added : (v : View) (o x n : ℕ) → o < length v.notes → (p i : ℕ)
    → latest_in (with_note v o (added (note v o) x n)) p i ≡ upd (latest_in v) o (upd (latest_in v o) x n) p i
latest_added v o x n l p i =
    elim (eqb_tells p o) [
      | inl q ↦
          let new : (note (with_note v o (added (note v o) x n)) p).history ≡ (note v o).history ++ (x, n) ∷ [] =
          ap (λ z. (note (with_note v o (added (note v o) x n)) z).history) q.1 ∙ ap (λ (y : Note). y.history) (get_or-set_same v.notes o (added (note v o) x n) blank l) in
          ap (λ ps. latest_of ps i) new ∙ (at_place ∙ sym (ap (λ (b : Bool). cond b (upd (latest_in v o) x n) (latest_in v p) i) q.0))
      | inr q ↦
          let old : (note (with_note v o (added (note v o) x n)) p).history ≡ (note v p).history = ap (λ (y : Note). y.history) (get_or-set_other v.notes o p (added (note v o) x n) blank q.1) in
          ap (λ ps. latest_of ps i) old ∙ sym (ap (λ (b : Bool). cond b (upd (latest_in v o) x n) (latest_in v p) i) q.0)
    ]
  where
    at_place : latest_of ((note v o).history ++ (x, n) ∷ []) i ≡ upd (latest_in v o) x n i
    at_place =
        elim (eqb_tells i x) [
          | inl q ↦ ap (λ z. latest_of ((note v o).history ++ (x, n) ∷ []) z) q.1 ∙ (ap or_zero (seen_here (note v o).history x n) ∙ sym (ap (λ (b : Bool). cond b n (latest_in v o i)) q.0))
          | inr q ↦ ap or_zero (seen_else (note v o).history x i n q.1) ∙ sym (ap (λ (b : Bool). cond b n (latest_in v o i)) q.0)
        ]

-- what was stored in each object, with one store more
history_added : (v : View) (o x n : ℕ) → o < length v.notes → (p : ℕ) → (note (with_note v o (added (note v o) x n)) p).history ≡ (note v p).history ++ cond (p == o) ((x, n) ∷ []) []
history_added v o x n l p =
    elim (eqb_tells p o) [
      | inl q ↦
          let new : (note (with_note v o (added (note v o) x n)) p).history ≡ (note v o).history ++ (x, n) ∷ [] =
          ap (λ z. (note (with_note v o (added (note v o) x n)) z).history) q.1 ∙ ap (λ (y : Note). y.history) (get_or-set_same v.notes o (added (note v o) x n) blank l) in
          new ∙ (ap (λ z. (note v z).history ++ (x, n) ∷ []) (sym q.1) ∙ ap (λ (b : Bool). (note v p).history ++ cond b ((x, n) ∷ []) []) (sym q.0))
      | inr q ↦
          let old : (note (with_note v o (added (note v o) x n)) p).history ≡ (note v p).history = ap (λ (y : Note). y.history) (get_or-set_other v.notes o p (added (note v o) x n) blank q.1) in
          old ∙ (sym (append-nil (note v p).history) ∙ ap (λ (b : Bool). (note v p).history ++ cond b ((x, n) ∷ []) []) (sym q.0))
    ]

upd_same : (f g : ℕ → ℕ → ℕ) (o x n : ℕ) → ((p i : ℕ) → f p i ≡ g p i) → (p i : ℕ) → upd f o (upd (f o) x n) p i ≡ upd g o (upd (g o) x n) p i
upd_same f g o x n h p i =
    elim (p == o) as (λ b. cond b (upd (f o) x n) (f p) i ≡ cond b (upd (g o) x n) (g p) i) [
      | true ↦ elim (i == x) as (λ b. cond b n (f o i) ≡ cond b n (g o i)) [ true ↦ refl | false ↦ h o i ]
      | false ↦ h p i
    ]

pub moves_stored : (honest : Type 0) → Laws → (s t v u : State) (k : ℕ) (a : Cell) (n i : ℕ) (h : Hold) → IsSafe s → IsNext (touch.Stores k a n) s → hold_at s.holds k ≡ Some h → IsHolding t → Changes k s t → HasWriter t k h
    → i ≡ a.index % t.view.sizes.cells → v ≡ written t h i n → u ≡ finished v 0 → Moves honest (touch.Stores k a n) s u
moves_stored honest laws s t v u k a n i h safe next e ok ch w at d f =
    let p : i ≡ a.index % s.view.sizes.cells = at ∙ ap (λ (y : TableId × View). a.index % y.1.sizes.cells) ch.seat in
    let image : v.image ≡ s.image = ap (λ (y : State). y.image) d ∙ ch.image in
    let core : v.core ≡ s.core = ap (λ (y : State). y.core) d ∙ ch.core in
    let o = object_is s k a h safe (stores_cell laws s k a n safe next) e in
    let here = owned_here t h.object ok (ok.held k (a_hold h.object h.frame true) w).owns in
    record {
      image = ap (λ (y : State). y.image) f ∙ image;
      want = ap (λ (y : State). y.want) f ∙ (ap (λ (y : State). y.want) d ∙ ch.want);
      refusals = ap (λ (y : State). y.refusals) f ∙ (ap (λ (y : State). y.refusals) d ∙ ch.refusals);
      value = 0;
      core = core_of_changed s v u 0 image core f;
      loads = λ _. tt;
      stores = λ q j.
          ap (λ (y : State). latest_in y.view q j) f ∙ (ap (λ (y : State). latest_in y.view q j) d ∙ (latest_added t.view h.object i n here q j ∙
          (upd_same (latest_in t.view) (latest_in s.view) h.object i n (same_latest s.view t.view ch.stored) q j ∙
          (ap (λ z. upd (latest_in s.view) z (upd (latest_in s.view z) i n) q j) o ∙ ap (λ z. upd (latest_in s.view) (object_of s a) (upd (latest_in s.view (object_of s a)) z n) q j) p))));
      added = λ q.
          ap (λ (y : State). (note y.view q).history) f ∙ (ap (λ (y : State). (note y.view q).history) d ∙ (history_added t.view h.object i n here q ∙
          (ap (λ (l : List (ℕ × ℕ)). l ++ cond (q == h.object) ((i, n) ∷ []) []) (ch.stored q) ∙
          (ap (λ z. (note s.view q).history ++ cond (q == z) ((i, n) ∷ []) []) o ∙ ap (λ z. (note s.view q).history ++ cond (q == object_of s a) ((z, n) ∷ []) []) p))));
      low = ap (λ (y : State). y.view.low) f ∙ (ap (λ (y : State). y.view.low) d ∙ ch.low);
      high = ap (λ (y : State). y.view.high) f ∙ (ap (λ (y : State). y.view.high) d ∙ ch.high);
      seat = ap seat_in f ∙ (ap seat_in d ∙ ch.seat);
      completed = ap (λ (y : State). y.completed) f ∙ (ap (λ (y : State). y.completed + 1) d ∙ ap (λ n. n + 1) ch.completed);
    }

pub loaded_from : (s t u : State) (v : ℕ) → t ≡ s → u ≡ finished t v → u ≡ finished s v
loaded_from s t u v e f = f ∙ ap (λ (y : State). finished y v) e

pub extended_so : (honest : Type 0) → Laws → (s u : State) (n : ℕ) → IsSafe s → IsNext (touch.Allocs n) s → s.next + pieces s.view.sizes.cells n ≤ s.view.high → u ≡ extended s n
    → IsSafe u × Moves honest (touch.Allocs n) s u
extended_so honest laws s u n safe next room e = (safe_extended laws s u n safe next room e, moves_extended honest s u n e)
