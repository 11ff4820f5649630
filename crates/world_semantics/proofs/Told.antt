-- the owner was told a frame of each object that its scopes hold, but for one whose aim is under way
use Rattle.std.proofs.Common.{◌≡◌, ◌⊎◌, inl, inr, ℕ, ◌+◌, ◌<◌, Bool, true, false, cond, not, ◌&&◌, List, [], length, Option, Some, None, refl, sym, ap, ◌∙◌, subst, arith}
use Rattle.std.specs.Prelude.{◌==◌, ◌%◌, nat_lt, nat_le, slice_set}
use Rattle.std.proofs.lemmas.Bool.Decides.{nat_tests}
use Rattle.std.proofs.lemmas.List.{get_or-set_same, get_or-set_other}
use Rattle.cells.specs.declared.ending.Want.TheVariants.{OutOfMemory, NoObjects}
use Rattle.code_form.specs.declared.touch.Touch.{Touch}
use Rattle.code_form.specs.declared.touch.Touch.TheVariants as touch
use Rattle.code_form.specs.Code.{is_blocked}
use Rattle.code_form.specs.Placed.{pieces}
use Rattle.pointer_word.specs.Hands.{known, listed}
use Rattle.pointer_word.specs.Machine.{Far, Never, Kept, Unknown, State}
use Rattle.pointer_word.specs.Calls.{Call, Opens, Closes, Clears, Stores, Begins, Claims, Fills, Arrives, Unclaims, Marks, Copies, Puts, Commits, Aborts, Leaves, Releases, act}
use Rattle.pointer_word.specs.Legal.{holds}
use Rattle.pointer_word.specs.Sound.{Inv}
use Rattle.pointer_word.proofs.Upd.{same_or}
use Rattle.world_semantics.specs.declared.event.Choice.{Choice}
use Rattle.world_semantics.specs.declared.event.Choice.TheVariants as choice
use Rattle.world_semantics.specs.Fetchers as fetching
use Rattle.world_semantics.specs.Fetchers.{as_mode}
use Rattle.world_semantics.specs.Programs.{Eviction, Copying, Stored, NotStored, Refused, Freed, Hold, Mode, Ready, Missing, Bringing, Reading, Filling, Evicting, Releasing, Retreating, Closing, Wanted, Program, Setting, next_touch, object_of, object_or_none, next_free, hold_at, holding, in_mode, finished, first_hold, may_grow, rest_of}
use Rattle.world_semantics.specs.Turns.{Answer, NotEnabled, Calls, put_of, evicts, grows, closes, found, aims_at, loads_from, loads_by, stores_to, stores_by, leaves_by, ends_by, ready, began, to_fill, seeks, read_so, program_brings, closed_so, gives_up, by_mode, program_turn}
use Rattle.world_semantics.proofs.Asking.{HoldTold, IsOpened, IsPending, ToldFit}
use Rattle.world_semantics.proofs.Counting.{hold_there, first_at}
use Rattle.world_semantics.proofs.Going.{Leads, leads_cond, leads_next}
use Rattle.world_semantics.proofs.Moving.{below}
use Rattle.world_semantics.proofs.Notes.{keeps_told, arrived_frame, cleared_told}

equal : (a b : ℕ) → (a == b) ≡ true → a ≡ b
equal a b e = grind (arith, nat_tests)

-- what a scope holds where one scope was set
from_set : (hs : List (Option Hold)) (k j : ℕ) (y : Option Hold) (x : Hold) → k < length hs → hold_at (slice_set hs k y) j ≡ Some x → (y ≡ Some x) ⊎ (hold_at hs j ≡ Some x)
from_set hs k j y x l e = elim (same_or j k) [
  | inl i ↦ inl (sym (get_or-set_same hs k y None l) ∙ (ap (hold_at (slice_set hs k y)) (sym i) ∙ e))
  | inr d ↦ inr (sym (get_or-set_other hs k j y None d) ∙ e)
]

-- the frame that was told of a hold that was just opened
opened_told : (t : State) (o : ℕ) (x : Hold) → IsOpened o x → known (t.note o).frame ≡ true → HoldTold t x
opened_told t o x e k = subst (HoldTold t) (sym e) (k, (λ w. cc))

module _ (h : Type 0) (g : Setting) (s : State) (p : Program) (a : Answer) (inv : Inv h g.size s) where
  -- where a hold is left
  abbrev Q : State → Program → Type 0
  Q t q = (j : ℕ) (x : Hold) → hold_at q.holds j ≡ Some x → 0 < (t.note x.object).count → HoldTold t x ⊎ IsPending q.mode x

  chosen : (t : State) (b : Bool) (x y : Program) → (b ≡ true → Q t x) → (b ≡ false → Q t y) → Q t (cond b x y)
  chosen t true x y e f = e refl
  chosen t false x y e f = f refl

  still : (c : Call) (x : Hold) → HoldTold s x → 0 < ((act s c).note x.object).count → HoldTold (act s c) x
  still c x told n = let k = keeps_told h g.size s c x.object inv in (k.frame told.0 n, (λ w. k.writing told.0 n (told.1 w)))

  module _ (told : (j : ℕ) (x : Hold) → hold_at p.holds j ≡ Some x → HoldTold s x) where
    same : (q : Program) → q.holds ≡ p.holds → Q s q
    same q e j x f n = inl (told j x (ap (λ (hs : List (Option Hold)). hold_at hs j) (sym e) ∙ f))

    by_call : (c : Call) (q : Program) → q.holds ≡ p.holds → Q (act s c) q
    by_call c q e j x f n = inl (still c x (told j x (ap (λ (hs : List (Option Hold)). hold_at hs j) (sym e) ∙ f)) n)

    -- a scope is shut
    shut : (c : Call) (q : Program) (k : ℕ) → k < length p.holds → q.holds ≡ slice_set p.holds k None → Q (act s c) q
    shut c q k l e j x f n = elim (from_set p.holds k j None x l (ap (λ (hs : List (Option Hold)). hold_at hs j) (sym e) ∙ f)) [
      | inl none ↦ cc
      | inr before ↦ inl (still c x (told j x before) n)
    ]

    grows_t : Q s (grows g p a)
    grows_t = chosen s (not a.grew && may_grow (next_touch g p) (rest_of p.core)) (in_mode p (Wanted OutOfMemory)) (finished g p 0) (λ _. same (in_mode p (Wanted OutOfMemory)) refl) (λ _. same (finished g p 0) refl)

    closes_t : (k : ℕ) (x : Hold) → hold_at p.holds k ≡ Some x → Leads s Q (closes p k x)
    closes_t k x e = shut (Closes x.object) (holding p k None) k (hold_there p.holds k x e) refl

    aims_none_t : (k : ℕ) (x : Option Hold) → hold_at p.holds k ≡ x → Leads s Q (aims_at g p k x None)
    aims_none_t k None e = same (finished g p 0) refl
    aims_none_t k (Some x) e = closes_t k x e

    aims_some_t : (k o : ℕ) (x : Option Hold) → hold_at p.holds k ≡ x → k < length p.holds → Leads s Q (aims_at g p k x (Some o))
    aims_some_t k o None e l =
        let y : Hold = record { object = o; writes = false } in
        let c : Call = Opens o in
        let t : State = act s c in
        let q : Program = holding p k (Some y) in
        chosen t (known (t.note o).frame) (finished g q 0) (in_mode q (Missing o))
        (λ b j x f n. elim (from_set p.holds k j (Some y) x l f) [
          | inl i ↦ inl (opened_told t o x (let z : Some y ≡ Some x = i in cc) b)
          | inr before ↦ inl (still c x (told j x before) n)
        ])
        (λ _ j x f n. elim (from_set p.holds k j (Some y) x l f) [
          | inl i ↦ inr (let z : Some y ≡ Some x = i in cc)
          | inr before ↦ inl (still c x (told j x before) n)
        ])
    aims_some_t k o (Some x) e l = leads_cond s Q (x.object == o) _ _ (λ _. same (finished g p 0) refl) (λ _. closes_t k x e)

    aims_t : (k : ℕ) (w : Option ℕ) → k < length p.holds → Leads s Q (aims_at g p k (hold_at p.holds k) w)
    aims_t k None l = aims_none_t k (hold_at p.holds k) refl
    aims_t k (Some o) l = aims_some_t k o (hold_at p.holds k) refl l

    loads_from_t : (f : Option ℕ) (i : ℕ) → Leads s Q (loads_from g s p f i)
    loads_from_t None i = tt
    loads_from_t (Some f) i = same (finished g p (s.cell f i)) refl

    loads_t : (x : Option Hold) (o i : ℕ) → Leads s Q (loads_by g s p x o i)
    loads_t None o i = tt
    loads_t (Some x) o i = leads_cond s Q (x.object == o) _ _ (λ _. loads_from_t (s.note o).frame i) (λ _. tt)

    stores_to_t : (f : Option ℕ) (o i v : ℕ) → Leads s Q (stores_to g p f o i v)
    stores_to_t None o i v = tt
    stores_to_t (Some f) o i v = by_call (Stores o f i v) (finished g p 0) refl

    -- a hold that may write
    writes_t : (k o : ℕ) (x : Hold) → hold_at p.holds k ≡ Some x → x.object ≡ o → Q (act s (Clears o)) (holding p k (Some (record { object = o; writes = true })))
    writes_t k o x e i j y f n =
        let z : Hold = record { object = o; writes = true } in
        let c : Call = Clears o in
        elim (from_set p.holds k j (Some z) y (hold_there p.holds k x e) f) [
          | inl r ↦
              let same : z ≡ y = (let v : Some z ≡ Some y = r in cc) in
              let was : known (s.note o).frame ≡ true = subst (λ m. known (s.note m).frame ≡ true) i (told k x e).0 in
              let count : 0 < ((act s c).note o).count = subst (λ (v : Hold). 0 < ((act s c).note v.object).count) (sym same) n in
              inl (subst (HoldTold (act s c)) same ((keeps_told h g.size s c o inv).frame was count, (λ w. cleared_told s o was)))
          | inr before ↦ inl (still c y (told j y before) n)
        ]

    stores_t : (k : ℕ) (x : Option Hold) (o i v : ℕ) → hold_at p.holds k ≡ x → Leads s Q (stores_by g s p k x o i v)
    stores_t k None o i v e = tt
    stores_t k (Some x) o i v e = leads_cond s Q (x.object == o) _ _ (λ b. leads_cond s Q x.writes _ _ (λ _. stores_to_t (s.note o).frame o i v) (λ _. writes_t k o x e (equal x.object o b))) (λ _. tt)

    leaves_t : (k : ℕ) (x : Option Hold) → hold_at p.holds k ≡ x → Leads s Q (leaves_by g p k x)
    leaves_t k None e = same (finished g p 0) refl
    leaves_t k (Some x) e = shut (Closes x.object) (finished g (holding p k None) 0) k (hold_there p.holds k x e) refl

    ends_t : (q : Option (ℕ × Hold)) → first_hold p.holds ≡ q → Leads s Q (ends_by g p a q)
    ends_t None e = grows_t
    ends_t (Some q) e = closes_t q.0 q.1 (first_at p.holds q e)

    ready_t : (x : Touch) → Leads s Q (ready g s p a x)
    ready_t touch.Plain = grows_t
    ready_t (touch.Hints w) = same (finished g p 0) refl
    ready_t (touch.Aims k w) = leads_cond s Q (nat_lt k (length p.holds)) _ _ (λ l. aims_t k (object_or_none g p w) (below k (length p.holds) l)) (λ _. tt)
    ready_t (touch.Loads k x) = loads_t (hold_at p.holds k) (object_of g p x) (x.index % g.size)
    ready_t (touch.Stores k x v) = stores_t k (hold_at p.holds k) (object_of g p x) (x.index % g.size) v refl
    ready_t (touch.Leaves k) = leaves_t k (hold_at p.holds k) refl
    ready_t (touch.Allocs cells) = leads_cond s Q (nat_le (next_free g p + pieces g.size cells) g.limit) _ _ (λ _. grows_t) (λ _. same (in_mode p (Wanted NoObjects)) refl)
    ready_t touch.Ends = ends_t (first_hold p.holds) refl
    ready_t touch.Wrong = tt
    ready_t touch.Nothing = tt

  -- ---- within an aim

  module _ (o : ℕ) (told : (j : ℕ) (x : Hold) → hold_at p.holds j ≡ Some x → HoldTold s x ⊎ IsOpened o x) where
    -- behind a call, in another mode of the aim
    on : (c : Call) (j : ℕ) (x : Hold) → hold_at p.holds j ≡ Some x → 0 < ((act s c).note x.object).count → HoldTold (act s c) x ⊎ IsOpened o x
    on c j x f n = elim (told j x f) [ inl t ↦ inl (still c x t n) | inr pending ↦ inr pending ]

    -- where the owner is told a frame of the object
    settled : (c : Call) → known ((act s c).note o).frame ≡ true → (j : ℕ) (x : Hold) → hold_at p.holds j ≡ Some x → 0 < ((act s c).note x.object).count → HoldTold (act s c) x
    settled c k j x f n = elim (told j x f) [ inl t ↦ still c x t n | inr pending ↦ opened_told (act s c) o x pending k ]

    found_t : (c : Call) → Q (act s c) (found g p o (act s c))
    found_t c = chosen (act s c) (known ((act s c).note o).frame) (finished g p 0) (in_mode p (Missing o)) (λ b j x f n. inl (settled c b j x f n)) (λ _. on c)

    missing_t : Leads s Q (Calls (Begins g.mover o (s.note o).count true) (began g p o))
    missing_t =
        let c : Call = Begins g.mover o (s.note o).count true in
        chosen (act s c) (holds ((act s c).hand g.mover).bringing o) (in_mode p (Bringing o)) (found g p o (act s c)) (λ _. on c) (λ _. found_t c)

    fill_t : (c : Call) (f : ℕ) (y : Far) → Q (act s c) (in_mode p (as_mode (to_fill o f y)))
    fill_t c f Never = on c
    fill_t c f (Kept words) = on c
    fill_t c f Unknown = on c

    -- a try that was refused
    refused : (c : Call) → p.mode ≡ Bringing o → Q (act s c) p
    refused c m j x f n = elim (on c j x f n) [ inl t ↦ inl t | inr pending ↦ inr (subst (λ y. IsPending y x) (sym m) pending) ]

    seeks_t : (c : Choice) → p.mode ≡ Bringing o → Leads s Q (seeks g p o c)
    seeks_t choice.Next m = tt
    seeks_t (choice.Begin v) m = tt
    seeks_t (choice.Look f) m = λ j x e n. elim (told j x e) [ inl t ↦ inl t | inr pending ↦ inr (subst (λ y. IsPending y x) (sym m) pending) ]
    seeks_t (choice.Claim f) m =
        let c : Call = Claims g.mover o f in
        chosen (act s c) (holds ((act s c).hand g.mover).claimed f) (in_mode p (as_mode (to_fill o f ((act s c).far o)))) p (λ _. fill_t c f ((act s c).far o)) (λ _. refused c m)
    seeks_t (choice.Mark v f) m =
        let c : Call = Marks g.mover v f in
        chosen (act s c) (holds ((act s c).hand g.mover).leaving v) (in_mode p (Evicting o (Copying v f []))) p (λ _. on c) (λ _. refused c m)
    seeks_t (choice.Leave v f) m =
        let c : Call = Leaves g.mover v f in
        chosen (act s c) (holds ((act s c).hand g.mover).freed f) (in_mode p (Evicting o (Freed f))) p (λ _. on c) (λ _. refused c m)

    read_t : (f : ℕ) (read : Option (List ℕ)) → Q s (in_mode p (as_mode (read_so o f read)))
    read_t f None = λ j x e n. told j x e
    read_t f (Some words) = λ j x e n. told j x e

    fills_t : (f : ℕ) (words : List ℕ) (k : ℕ) → Leads s Q (program_brings g p a (fetching.Filling o f words k))
    fills_t f words k = leads_cond s Q (nat_lt k g.size) _ _ (λ _. on (Fills g.mover f k (listed words k)))
        (λ _ j x e n. inl (settled (Arrives g.mover o f true) (arrived_frame s g.mover o f) j x e n))

    evicts_t : (d : Eviction) → Leads s Q (evicts g.size g.mover a d (λ x. in_mode p (Evicting o x)) (in_mode p (Bringing o)) (in_mode p (Retreating o)))
    evicts_t (Copying v f words) = leads_cond s Q (nat_lt (length words) g.size) _ _ (λ _. on (Copies g.mover f (length words))) (λ _. on (Puts g.mover v (put_of a.stored words)))
    evicts_t (Stored v f) = on (Commits g.mover v f)
    evicts_t (NotStored v f) = on (Aborts g.mover v f)
    evicts_t (Refused v f) = on (Aborts g.mover v f)
    evicts_t (Freed f) = on (Releases g.mover f)

  -- ---- giving up

  closed_t : (t : State) (k : ℕ) (q : Option (ℕ × Hold)) → p.mode ≡ Closing → Q t (closed_so (holding p k None) q)
  closed_t t k None m j x e n = inr tt
  closed_t t k (Some q) m j x e n = inr (subst (λ y. IsPending y x) (sym m) tt)

  gives_up_t : (q : Option (ℕ × Hold)) → p.mode ≡ Closing → Leads s Q (gives_up p q)
  gives_up_t None m = λ j x e n. inr tt
  gives_up_t (Some q) m = closed_t (act s (Closes q.1.object)) q.0 (first_hold (holding p q.0 None).holds) m

  all_told : ToldFit s p Ready → (j : ℕ) (x : Hold) → hold_at p.holds j ≡ Some x → HoldTold s x
  all_told told j x e = elim (told j x e) [ inl t ↦ t | inr pending ↦ absurd pending ]

  mode_t : (y : Mode) → p.mode ≡ y → ToldFit s p y → (c : Choice) → Leads s Q (by_mode g s p y c a)
  mode_t Ready m told c = leads_next s Q c _ (leads_cond s Q (is_blocked p.core) NotEnabled (ready g s p a (next_touch g p)) (λ _. tt) (λ _. ready_t (all_told told) (next_touch g p)))
  mode_t (Missing o) m told c = leads_next s Q c _ (missing_t o told)
  mode_t (Bringing o) m told c = seeks_t o told c m
  mode_t (Reading o f) m told c = leads_next s Q c _ (read_t o told f a.read)
  mode_t (Filling o f words k) m told c = leads_next s Q c _ (fills_t o told f words k)
  mode_t (Evicting o d) m told c = leads_next s Q c _ (evicts_t o told d)
  mode_t (Releasing o f) m told c = leads_next s Q c _ (on o told (Unclaims g.mover f))
  mode_t (Retreating o) m told c = leads_next s Q c _ (λ j x e n. inr tt)
  mode_t Closing m told c = leads_next s Q c _ (gives_up_t (first_hold p.holds) m)
  mode_t (Wanted w) m told c = tt

-- a program's turn leaves its holds so, where they are counted
pub told_leads : (h : Type 0) (g : Setting) (s : State) (p : Program) (c : Choice) (a : Answer) → Inv h g.size s → ToldFit s p p.mode
    → Leads s (λ (t : State) (q : Program). (j : ℕ) (x : Hold) → hold_at q.holds j ≡ Some x → 0 < (t.note x.object).count → HoldTold t x ⊎ IsPending q.mode x) (program_turn g s p c a)
told_leads h g s p c a inv told = mode_t h g s p a inv p.mode refl told c
