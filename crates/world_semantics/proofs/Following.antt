-- a program of the world stays where the run of its code is
use Rattle.std.proofs.Common.{◌≡◌, ◌≢◌, ◌⊎◌, inl, inr, ℕ, zero, suc, ◌+◌, ◌*◌, ◌%◌, ◌<◌, ◌≤◌, Bool, true, false, cond, List, [], ◌∷◌, length, refl, sym, ap, ◌∙◌, subst, arith}
use Rattle.std.specs.Prelude.{◌==◌}
use Rattle.std.proofs.Math.Nat.{mod-lt, mul-le-mul_right}
use Rattle.code_form.specs.declared.touch.Touch.{Touch}
use Rattle.code_form.specs.declared.touch.Touch.TheVariants as touch
use Rattle.code_form.specs.Form.{Image}
use Rattle.code_form.specs.Effects.{Effect, Plain, Hints, Aims, Loads, Stores, Leaves, Allocs, Ends, Wrong, Nothing, Heap, code_run, run_effect, with_cell}
use Rattle.code_form.specs.Code.{Core, allocations_of, cells_of, code, effect, most_scopes, sizes}
use Rattle.code_form.specs.Laws.{StepsSuc}
use Rattle.code_form.specs.Placed.{HaveAddresses, HeapAllocated, HeapStored, SameHeap, first_object, next_object, object_at}
use Rattle.code_form.specs.Touches.{heap_after, loaded, resumed, touch_of}
use Rattle.code_form.specs.Tracked.{AlwaysTidy, AlwaysTracked, AlwaysWaitsShut, IsTidy, WaitsShut}
use Rattle.pointer_word.specs.Hands.{upd}
use Rattle.pointer_word.specs.Machine.{State, latest}
use Rattle.pointer_word.specs.Sound.{Inv}
use Rattle.pointer_word.proofs.Upd.{upd-other}
use Rattle.pointer_word.proofs.Owning.{load_is_latest}
use Rattle.world_semantics.specs.Programs.{Program, Setting, cells_in, next_free, next_touch, object_of}
use Rattle.world_semantics.specs.Scopes.{AimsIn}
use Rattle.world_semantics.proofs.Few.{FewScopes, few_resumed}
use Rattle.world_semantics.proofs.Going.{Finishes, Goes, IsMoving, LoadsSo, RoomFor, Stays, StoresSo}

-- what is known of images
pub record Laws : Type 0 where
  pub tidy : AlwaysTidy
  pub tracked : AlwaysTracked
  pub waits : AlwaysWaitsShut
  pub addresses : HaveAddresses
  pub stored : HeapStored
  pub allocated : HeapAllocated
  pub next : StepsSuc

-- the allocations of a program fit in its share, the calls that wait have their scopes shut, no call has more scopes than some function, and a mode within
-- an aim is of its next instruction
pub record Within1 (g : Setting) (p : Program) : Type 0 where
  pub room : next_free g p ≤ g.limit
  pub waits : WaitsShut p.core
  pub few : FewScopes (most_scopes g.image.functions) p.core
  pub aims : AimsIn g p p.mode

-- a program is where the run of its code is
pub record Follows1 (g : Setting) (s : State) (p : Program) : Type 0 where
  pub core : p.core ≡ (code_run (code g.image) p.completed).0
  pub heap : SameHeap g.size g.base g.limit (cells_in p) (latest s) (code_run (code g.image) p.completed).1
  pub within : Within1 g p

-- ---- addresses

base_next : (n base : ℕ) (cells : List ℕ) → base ≤ next_object n base cells
base_next n base [] = omega arith
base_next n base (c ∷ cells) = let k : base ≤ next_object n base cells = base_next n base cells in omega arith

least : (a : ℕ) (b : Bool) (x y : ℕ) → a ≤ x → a ≤ y → a ≤ cond b x y
least a true x y l m = l
least a false x y l m = m

base_first : (n base : ℕ) (cells : List ℕ) (r : ℕ) → base ≤ first_object n base cells r
base_first n base [] r = omega arith
base_first n base (c ∷ cells) r = least base (r == suc (length cells)) (next_object n base cells) (first_object n base cells r) (base_next n base cells) (base_first n base cells r)

pub base_object : (n base : ℕ) (cells : List ℕ) (r x : ℕ) → base ≤ object_at n base cells r x
base_object n base cells r x = let k : base ≤ first_object n base cells r = base_first n base cells r in omega arith

-- ---- one instruction of the code

parts : (e : Effect Core) (c : Core) (h : Heap) → run_effect e c h ≡ (resumed e c (loaded h (touch_of e)), heap_after h (touch_of e))
parts (Plain d) c h = refl
parts (Hints w d) c h = refl
parts (Aims s w d) c h = refl
parts (Loads s r x k) c h = refl
parts (Stores s r x v d) c h = refl
parts (Leaves s d) c h = refl
parts (Allocs n d) c h = refl
parts (Ends d) c h = refl
parts (Wrong d) c h = refl
parts Nothing c h = refl

-- only a load depends on what was loaded
abbrev SameValue : Touch → ℕ → ℕ → Type 0
SameValue (touch.Loads k a) v w = v ≡ w
SameValue _ v w = Unit {0}

same_value : (e : Effect Core) (c : Core) (v w : ℕ) → SameValue (touch_of e) v w → resumed e c v ≡ resumed e c w
same_value (Plain d) c v w q = refl
same_value (Hints a d) c v w q = refl
same_value (Aims s a d) c v w q = refl
same_value (Loads s r x k) c v w q = ap k q
same_value (Stores s r x n d) c v w q = refl
same_value (Leaves s d) c v w q = refl
same_value (Allocs n d) c v w q = refl
same_value (Ends d) c v w q = refl
same_value (Wrong d) c v w q = refl
same_value Nothing c v w q = refl

next_run : StepsSuc → (C : Image) (j : ℕ) (c : Core) (x : Touch) → c ≡ (code_run (code C) j).0 → touch_of (effect C c) ≡ x
    → code_run (code C) (suc j) ≡ (resumed (effect C c) c (loaded (code_run (code C) j).1 x), heap_after (code_run (code C) j).1 x)
next_run next C j c x e t =
    let h : Heap = (code_run (code C) j).1 in
    next (code C) j ((code C).start, λ _ _. 0) ∙ (ap (λ d. run_effect (effect C d) d h) (sym e) ∙
    (parts (effect C c) c h ∙ ap (λ (y : Touch). (resumed (effect C c) c (loaded h y), heap_after h y)) t))

-- what an instruction changes of the allocations, and where its cell is
abbrev pub Tidies : Touch → Core → Core → Type 0
Tidies (touch.Allocs n) c d = sizes (allocations_of d) ≡ n ∷ sizes (allocations_of c)
Tidies (touch.Loads k a) c d = (sizes (allocations_of d) ≡ sizes (allocations_of c)) × (a.index < cells_of (sizes (allocations_of c)) a.reference)
Tidies (touch.Stores k a v) c d = (sizes (allocations_of d) ≡ sizes (allocations_of c)) × (a.index < cells_of (sizes (allocations_of c)) a.reference)
Tidies touch.Wrong c d = Unit {0}
Tidies touch.Nothing c d = Unit {0}
Tidies _ c d = sizes (allocations_of d) ≡ sizes (allocations_of c)

tidies : (C : Image) (c : Core) (e : Effect Core) (v : ℕ) → IsTidy (code C) c e → Tidies (touch_of e) c (resumed e c v)
tidies C c (Plain d) v t = t
tidies C c (Hints w d) v t = t
tidies C c (Aims s w d) v t = t
tidies C c (Loads s r x k) v t = (t.0 v, t.1)
tidies C c (Stores s r x w d) v t = (t.0, t.1)
tidies C c (Leaves s d) v t = t
tidies C c (Allocs n d) v t = t
tidies C c (Ends d) v t = t
tidies C c (Wrong d) v t = tt
tidies C c Nothing v t = tt

-- ---- heaps

heap_along : (n low high : ℕ) (cells cells' : List ℕ) (l l' : ℕ → ℕ → ℕ) (h : Heap) → cells' ≡ cells → ((o i : ℕ) → l' o i ≡ l o i) → SameHeap n low high cells l h → SameHeap n low high cells' l' h
heap_along n low high cells cells' l l' h ec same ok = subst (λ z. SameHeap n low high z l' h) (sym ec) (record {
  cell = λ r x w. same (object_at n low cells r x) (x % n) ∙ ok.cell r x w;
  fresh = λ o i a b. same o i ∙ ok.fresh o i a b;
  new = ok.new;
})

-- stores outside a share leave its heap
heap_apart : (n low high : ℕ) (cells : List ℕ) (l l' : ℕ → ℕ → ℕ) (h : Heap) → HaveAddresses → 0 < n → next_object n low cells ≤ high → ((o i : ℕ) → low ≤ o → o < high → l' o i ≡ l o i)
    → SameHeap n low high cells l h → SameHeap n low high cells l' h
heap_apart n low high cells l l' h ad some room same ok = record {
  cell = λ r x w.
      let o : ℕ = object_at n low cells r x in
      let a : low ≤ o = base_object n low cells r x in
      let b : o < next_object n low cells = (ad n low cells some).inside r x w in
      same o (x % n) a (omega arith) ∙ ok.cell r x w;
  fresh = λ o i a b. let c : low ≤ next_object n low cells = base_next n low cells in same o i (omega arith) b ∙ ok.fresh o i a b;
  new = ok.new;
}

module _ (laws : Laws) (g : Setting) (some : 0 < g.size) (s : State) (p : Program) (t : State) (q : Program) where
  heap_moves : (x : Touch) (h : Heap) → IsMoving x → Tidies x p.core q.core → StoresSo g s p t x → RoomFor g p x
      → SameHeap g.size g.base g.limit (cells_in p) (latest s) h → SameHeap g.size g.base g.limit (cells_in q) (latest t) (heap_after h x)
  heap_moves touch.Plain h m tidy st room ok = heap_along g.size _ _ _ _ _ _ h tidy st ok
  heap_moves (touch.Hints a) h m tidy st room ok = heap_along g.size _ _ _ _ _ _ h tidy st ok
  heap_moves (touch.Aims k a) h m tidy st room ok = heap_along g.size _ _ _ _ _ _ h tidy st ok
  heap_moves (touch.Loads k a) h m tidy st room ok = heap_along g.size _ _ _ _ _ _ h tidy.0 st ok
  heap_moves (touch.Stores k a v) h m tidy st room ok =
      heap_along g.size _ _ _ _ _ _ (with_cell h a.reference a.index v) tidy.0 st (laws.stored g.size g.base g.limit (cells_in p) (latest s) h a.reference a.index v some tidy.1 ok)
  heap_moves (touch.Leaves k) h m tidy st room ok = heap_along g.size _ _ _ _ _ _ h tidy st ok
  heap_moves (touch.Allocs c) h m tidy st room ok = heap_along g.size _ _ _ _ _ _ h tidy st (laws.allocated g.size g.base g.limit (cells_in p) (latest s) h c some room ok)
  heap_moves touch.Ends h m tidy st room ok = heap_along g.size _ _ _ _ _ _ h tidy st ok
  heap_moves touch.Wrong h m tidy st room ok = absurd m
  heap_moves touch.Nothing h m tidy st room ok = absurd m

  room_after : (x : Touch) → IsMoving x → Tidies x p.core q.core → RoomFor g p x → next_free g p ≤ g.limit → next_free g q ≤ g.limit
  room_after touch.Plain m tidy room k = subst (λ (z : List ℕ). next_object g.size g.base z ≤ g.limit) (sym tidy) k
  room_after (touch.Hints a) m tidy room k = subst (λ (z : List ℕ). next_object g.size g.base z ≤ g.limit) (sym tidy) k
  room_after (touch.Aims s a) m tidy room k = subst (λ (z : List ℕ). next_object g.size g.base z ≤ g.limit) (sym tidy) k
  room_after (touch.Loads s a) m tidy room k = subst (λ (z : List ℕ). next_object g.size g.base z ≤ g.limit) (sym tidy.0) k
  room_after (touch.Stores s a v) m tidy room k = subst (λ (z : List ℕ). next_object g.size g.base z ≤ g.limit) (sym tidy.0) k
  room_after (touch.Leaves s) m tidy room k = subst (λ (z : List ℕ). next_object g.size g.base z ≤ g.limit) (sym tidy) k
  room_after (touch.Allocs c) m tidy room k = subst (λ (z : List ℕ). next_object g.size g.base z ≤ g.limit) (sym tidy) room
  room_after touch.Ends m tidy room k = subst (λ (z : List ℕ). next_object g.size g.base z ≤ g.limit) (sym tidy) k
  room_after touch.Wrong m tidy room k = absurd m
  room_after touch.Nothing m tidy room k = absurd m

  -- what the machine loads is what the code's run loads
  value_is : (h : Type 0) → h → Inv h g.size s → (x : Touch) (heap : Heap) (v : ℕ) → LoadsSo g s p x v → Tidies x p.core q.core → SameHeap g.size g.base g.limit (cells_in p) (latest s) heap → SameValue x v (loaded heap x)
  value_is h sure inv touch.Plain heap v l tidy ok = tt
  value_is h sure inv (touch.Hints a) heap v l tidy ok = tt
  value_is h sure inv (touch.Aims k a) heap v l tidy ok = tt
  value_is h sure inv (touch.Loads k a) heap v l tidy ok =
      l.2 ∙ (load_is_latest h g.size s (object_of g p a) l.0 (a.index % g.size) l.1 (mod-lt a.index some) sure inv ∙ ok.cell a.reference a.index tidy.1)
  value_is h sure inv (touch.Stores k a u) heap v l tidy ok = tt
  value_is h sure inv (touch.Leaves k) heap v l tidy ok = tt
  value_is h sure inv (touch.Allocs c) heap v l tidy ok = tt
  value_is h sure inv touch.Ends heap v l tidy ok = tt
  value_is h sure inv touch.Wrong heap v l tidy ok = tt
  value_is h sure inv touch.Nothing heap v l tidy ok = tt

  pub tidy_next : (v : ℕ) (x : Touch) → next_touch g p ≡ x → q.core ≡ resumed (effect g.image p.core) p.core v → Tidies x p.core q.core
  tidy_next v x is e =
      subst (λ (y : Touch). Tidies y p.core q.core) is (subst (λ (d : Core). Tidies (next_touch g p) p.core d) (sym e) (tidies g.image p.core (effect g.image p.core) v (laws.tidy g.image p.core)))

  -- a turn keeps a program within its share and its instruction
  within_finishes : Within1 g p → Finishes g s p t q → Within1 g q
  within_finishes is did =
      let tidy : Tidies did.touch p.core q.core = tidy_next did.value did.touch did.is.0 did.core in
      record {
        room = room_after did.touch did.moving tidy did.room is.room;
        waits = subst WaitsShut (sym did.core) (laws.waits g.image p.core did.value is.waits did.is.1);
        few = subst (FewScopes (most_scopes g.image.functions)) (sym did.core) (few_resumed g.image p.core did.value is.few);
        aims = subst (AimsIn g q) (sym did.ready) tt;
      }

  within_stays : Within1 g p → Stays s p t q → AimsIn g q q.mode → Within1 g q
  within_stays is did aims =
      let same : cells_in q ≡ cells_in p = ap (λ (c : Core). sizes (allocations_of c)) did.core in
      record {
        room = subst (λ (z : List ℕ). next_object g.size g.base z ≤ g.limit) (sym same) is.room;
        waits = subst WaitsShut (sym did.core) is.waits;
        few = subst (FewScopes (most_scopes g.image.functions)) (sym did.core) is.few;
        aims = aims;
      }

  pub goes_within : Within1 g p → Goes g s p t q → Within1 g q
  goes_within is (inl did) = within_stays is did.0 did.1
  goes_within is (inr did) = within_finishes is did

  finishes : (h : Type 0) → h → Inv h g.size s → Follows1 g s p → Finishes g s p t q → Follows1 g t q
  finishes h sure inv is did =
      let x : Touch = did.touch in
      let e : Effect Core = effect g.image p.core in
      let heap : Heap = (code_run (code g.image) p.completed).1 in
      let tidy : Tidies x p.core q.core = tidy_next did.value x did.is.0 did.core in
      let there : code_run (code g.image) q.completed ≡ (resumed e p.core (loaded heap x), heap_after heap x) =
      ap (code_run (code g.image)) did.completed ∙ next_run laws.next g.image p.completed p.core x is.core did.is.0 in
      let value : SameValue (touch_of e) did.value (loaded heap x) = subst (λ (y : Touch). SameValue y did.value (loaded heap x)) (sym did.is.0) (value_is h sure inv x heap did.value did.loads tidy is.heap) in
      record {
        core = did.core ∙ (same_value e p.core did.value (loaded heap x) value ∙ sym (ap (λ z. z.0) there));
        heap = subst (λ (z : Heap). SameHeap g.size g.base g.limit (cells_in q) (latest t) z) (sym (ap (λ z. z.1) there)) (heap_moves x heap did.moving tidy did.stores did.room is.heap);
        within = within_finishes is.within did;
      }

  stays : Follows1 g s p → Stays s p t q → AimsIn g q q.mode → Follows1 g t q
  stays is did aims =
      let same : cells_in q ≡ cells_in p = ap (λ (c : Core). sizes (allocations_of c)) did.core in
      record {
        core = did.core ∙ (is.core ∙ ap (λ (j : ℕ). (code_run (code g.image) j).0) (sym did.completed));
        heap = subst (λ (j : ℕ). SameHeap g.size g.base g.limit (cells_in q) (latest t) (code_run (code g.image) j).1) (sym did.completed)
            (heap_along g.size g.base g.limit (cells_in p) (cells_in q) (latest s) (latest t) (code_run (code g.image) p.completed).1 same did.latest is.heap);
        within = within_stays is.within did aims;
      }

  -- a turn keeps a program where the run of its code is
  pub goes_on : (h : Type 0) → h → Inv h g.size s → Follows1 g s p → Goes g s p t q → Follows1 g t q
  goes_on h sure inv is (inl did) = stays is did.0 did.1
  goes_on h sure inv is (inr did) = finishes h sure inv is did

  outside : (x : Touch) → Tidies x p.core q.core → StoresSo g s p t x → next_free g p ≤ g.limit → (o i : ℕ) → (o < g.base) ⊎ (g.limit ≤ o) → latest t o i ≡ latest s o i
  outside touch.Plain tidy st room o i out = st o i
  outside (touch.Hints a) tidy st room o i out = st o i
  outside (touch.Aims k a) tidy st room o i out = st o i
  outside (touch.Loads k a) tidy st room o i out = st o i
  outside (touch.Stores k a v) tidy st room o i out =
      let u : ℕ = object_of g p a in
      let low : g.base ≤ u = base_object g.size g.base (cells_in p) a.reference a.index in
      let high : u < next_free g p = (laws.addresses g.size g.base (cells_in p) some).inside a.reference a.index tidy.1 in
      let other : o ≢ u = (λ e. elim out [ inl b ↦ absurd (omega arith) | inr b ↦ absurd (omega arith) ]) in
      st o i ∙ ap (λ (f : ℕ → ℕ). f i) (upd-other (latest s) u (upd (latest s u) (a.index % g.size) v) o other)
  outside (touch.Leaves k) tidy st room o i out = st o i
  outside (touch.Allocs c) tidy st room o i out = st o i
  outside touch.Ends tidy st room o i out = st o i
  outside touch.Wrong tidy st room o i out = st o i
  outside touch.Nothing tidy st room o i out = st o i

  -- a turn stores nothing outside the program's share
  pub goes_outside : next_free g p ≤ g.limit → Goes g s p t q → (o i : ℕ) → (o < g.base) ⊎ (g.limit ≤ o) → latest t o i ≡ latest s o i
  goes_outside room (inl did) o i out = did.0.latest o i
  goes_outside room (inr did) o i out = outside did.touch (tidy_next did.value did.touch did.is.0 did.core) did.stores room o i out

-- stores outside a program's share leave it where it is
pub apart_from : Laws → (g : Setting) → 0 < g.size → (s t : State) (p : Program) → ((o i : ℕ) → g.base ≤ o → o < g.limit → latest t o i ≡ latest s o i) → Follows1 g s p → Follows1 g t p
apart_from laws g some s t p same is = record {
  core = is.core;
  heap = heap_apart g.size g.base g.limit (cells_in p) (latest s) (latest t) (code_run (code g.image) p.completed).1 laws.addresses some is.within.room same is.heap;
  within = is.within;
}

-- ---- shares

before : (S j k : ℕ) → j < k → j * S + S ≤ k * S
before S j k l =
    let a : suc j * S ≤ k * S = mul-le-mul_right S l in
    let b : suc j * S ≡ j * S + S = omega arith in
    omega arith

-- no object is in two shares
pub not_in_both : (S j k o : ℕ) → j ≢ k → j * S ≤ o → o < j * S + S → (o < k * S) ⊎ (k * S + S ≤ o)
not_in_both S j k o d a b = elim (less_or j k d) [
  | inl l ↦ (let e : j * S + S ≤ k * S = before S j k l in inl (omega arith))
  | inr l ↦ (let e : k * S + S ≤ j * S = before S k j l in inr (omega arith))
]
  where
    less_or : (j k : ℕ) → j ≢ k → (j < k) ⊎ (k < j)
    less_or zero zero d = absurd (d refl)
    less_or zero (suc k) d = inl (omega arith)
    less_or (suc j) zero d = inr (omega arith)
    less_or (suc j) (suc k) d = elim (less_or j k (λ e. d (ap suc e))) [ inl l ↦ inl (omega arith) | inr l ↦ inr (omega arith) ]
