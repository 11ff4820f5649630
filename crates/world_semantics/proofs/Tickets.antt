-- each frame that is held has a ticket of its own: of a scope, of an aim that is under way, of an evacuator or of a fetcher
use Rattle.std.proofs.Common.{◌≡◌, ◌≢◌, ◌⊎◌, inl, inr, ℕ, zero, suc, ◌+◌, ◌-◌, ◌*◌, ◌<◌, ◌≤◌, Bool, true, false, cond, not, ◌&&◌, List, [], ◌∷◌, Option, Some, None, refl, sym, ap, ◌∙◌, subst, arith, ne_eqb}
use Rattle.std.specs.Prelude.{◌==◌, ◌/◌, ◌%◌}
use Rattle.std.proofs.Math.Nat.{mod-lt}
use Rattle.std.proofs.lemmas.Nat.{div-add-mod'}
use Rattle.std.proofs.lemmas.Bool.Decides.{nat_tests}
use Rattle.cells.specs.declared.ending.Want.TheVariants.{OutOfMemory, NoObjects, StoreFailed}
use Rattle.code_form.specs.Form.{Image}
use Rattle.code_form.specs.Code.{held as held_in, most_scopes}
use Rattle.code_form.specs.Touches.{cell_option}
use Rattle.pointer_word.specs.Words.{Place, Away, Coming, Here, Leaving, counted, framed}
use Rattle.pointer_word.specs.Hands.{Hand, empty_handed}
use Rattle.pointer_word.specs.Machine.{Far, Holder, Nobody, Object, Claimer, Freer, State}
use Rattle.pointer_word.specs.Asked.{HasNothing}
use Rattle.pointer_word.specs.Sound.{PlaceOk, FrameOk}
use Rattle.pointer_word.proofs.Upd.{same_or}
use Rattle.world_semantics.specs.Fetchers as fetching
use Rattle.world_semantics.specs.Fetchers.{Fetching}
use Rattle.world_semantics.specs.Programs.{Eviction, Copying, Stored, NotStored, Refused, Freed, Hold, Mode, Ready, Missing, Bringing, Reading, Filling, Evicting, Releasing, Retreating, Closing, Wanted, Program, Setting, object_or_none, hold_at}
use Rattle.world_semantics.specs.Worlds.{Sizes, World, share, setting}
use Rattle.world_semantics.specs.InHand.{FitsEviction, OnlyBrings, BringsInto, FitsMode, FitsEvacuator, FitsFetcher}
use Rattle.world_semantics.specs.Steps.{IsSound}
use Rattle.world_semantics.specs.Holding.{one, count_of}
use Rattle.world_semantics.specs.Scopes.{IsAiming, AimsIn, object_in, IsAsCode, IsShut, IsAimed, ScopeFits}
use Rattle.world_semantics.specs.Enough.{scopes_below, need, IsUnheld}
use Rattle.world_semantics.proofs.Enough.{Ticketed, enough}
use Rattle.world_semantics.proofs.Few.{FewScopes, few_aimed, few_held}
use Rattle.world_semantics.proofs.Fitting.{AllFit}
use Rattle.world_semantics.proofs.Idle.{IsNobody, Rests}
use Rattle.world_semantics.proofs.Ranged.{AreRanged, lt_or}

-- ---- what movers have in hand of a frame

-- the mover claimed the frame, moves an object out of it, or freed it
abbrev HasFrame : Hand → ℕ → Type 0
HasFrame x f = (x.claimed ≡ Some f) ⊎ (((o : ℕ) × (x.leaving ≡ Some o) × (x.source ≡ f)) ⊎ (x.freed ≡ Some f))

abbrev OnlyFrame : Hand → ℕ → Type 0
OnlyFrame x f = (g : ℕ) → HasFrame x g → g ≡ f

no_frame : (x : Hand) (f : ℕ) → x.claimed ≡ None → x.leaving ≡ None → x.freed ≡ None → HasFrame x f → ⊥
no_frame x f c l d (inl e) = let k : None ≡ Some f = sym c ∙ e in cc
no_frame x f c l d (inr (inl y)) = let k : None ≡ Some y.0 = sym l ∙ y.1 in cc
no_frame x f c l d (inr (inr e)) = let k : None ≡ Some f = sym d ∙ e in cc

claimed_only : (x : Hand) (f : ℕ) → x.claimed ≡ Some f → x.leaving ≡ None → x.freed ≡ None → OnlyFrame x f
claimed_only x f c l d g (inl e) = let k : Some f ≡ Some g = sym c ∙ e in cc
claimed_only x f c l d g (inr (inl y)) = let k : None ≡ Some y.0 = sym l ∙ y.1 in cc
claimed_only x f c l d g (inr (inr e)) = let k : None ≡ Some g = sym d ∙ e in cc

leaving_only : (x : Hand) (f : ℕ) → x.claimed ≡ None → x.source ≡ f → x.freed ≡ None → OnlyFrame x f
leaving_only x f c s d g (inl e) = let k : None ≡ Some g = sym c ∙ e in cc
leaving_only x f c s d g (inr (inl y)) = sym y.2 ∙ s
leaving_only x f c s d g (inr (inr e)) = let k : None ≡ Some g = sym d ∙ e in cc

freed_only : (x : Hand) (f : ℕ) → x.claimed ≡ None → x.leaving ≡ None → x.freed ≡ Some f → OnlyFrame x f
freed_only x f c l d g (inl e) = let k : None ≡ Some g = sym c ∙ e in cc
freed_only x f c l d g (inr (inl y)) = let k : None ≡ Some y.0 = sym l ∙ y.1 in cc
freed_only x f c l d g (inr (inr e)) = let k : Some f ≡ Some g = sym d ∙ e in cc

eviction_only : (n : ℕ) (far : ℕ → Far) (x : Hand) (e : Eviction) → x.claimed ≡ None → FitsEviction n far x e → (f : ℕ) × OnlyFrame x f
eviction_only n far x (Copying o f words) c fits = (f, leaving_only x f c fits.0.1 fits.0.2)
eviction_only n far x (Stored o f) c fits = (f, leaving_only x f c fits.0.1 fits.0.2)
eviction_only n far x (NotStored o f) c fits = (f, leaving_only x f c fits.1 fits.2)
eviction_only n far x (Refused o f) c fits = (f, leaving_only x f c fits.1 fits.2)
eviction_only n far x (Freed f) c fits = (f, freed_only x f c fits.0 fits.1)

has_only : (x : Hand) (f g : ℕ) → HasFrame x f → OnlyFrame x g → OnlyFrame x f
has_only x f g has only = subst (OnlyFrame x) (sym (only f has)) only

none_in_hand : (x : Hand) (f : ℕ) → HasNothing x → HasFrame x f → ⊥
none_in_hand x f nothing has = no_frame x f nothing.2.0 nothing.1 nothing.2.1 has

-- an evacuator's
evacuator_only : (n : ℕ) (far : ℕ → Far) (x : Hand) (d : Option Eviction) (f : ℕ) → FitsEvacuator n far x d → HasFrame x f → OnlyFrame x f
evacuator_only n far x None f fits has = absurd (none_in_hand x f fits has)
evacuator_only n far x (Some e) f fits has = let k = eviction_only n far x e fits.1 fits.2 in has_only x f k.0 has k.1

-- a program's, which an aim is under way for
record ForAim (g : Setting) (p : Program) (x : Hand) (f : ℕ) : Type 0 where
  pub object : ℕ
  pub aiming : IsAiming g p object
  pub brings : x.bringing ≡ Some object
  pub only : OnlyFrame x f

only_brings : (x : Hand) (o f : ℕ) → OnlyBrings o x → HasFrame x f → ⊥
only_brings x o f only has = no_frame x f only.2.0 only.1 only.2.1 has

into_only : (x : Hand) (o f g : ℕ) → BringsInto o f x → HasFrame x g → OnlyFrame x g
into_only x o f g into has = has_only x g f has (claimed_only x f into.2 into.1 into.3)

-- a fetcher's
fetcher_only : (h : Type 0) (n : ℕ) (far : ℕ → Far) (x : Hand) (d : Option Fetching) (f : ℕ) → FitsFetcher h n far x d → HasFrame x f → OnlyFrame x f
fetcher_only h n far x None f fits has = absurd (none_in_hand x f fits has)
fetcher_only h n far x (Some (fetching.Bringing o)) f fits has = absurd (only_brings x o f fits has)
fetcher_only h n far x (Some (fetching.Reading o i)) f fits has = into_only x o i f fits.0 has
fetcher_only h n far x (Some (fetching.Filling o i words k)) f fits has = into_only x o i f fits.0 has
fetcher_only h n far x (Some (fetching.Releasing o i)) f fits has = into_only x o i f fits has
fetcher_only h n far x (Some (fetching.Retreating o)) f fits has = absurd (only_brings x o f fits has)

for_aim : (h : Type 0) (g : Setting) (p : Program) (far : ℕ → Far) (x : Hand) (y : Mode) (f : ℕ) → FitsMode h g.size far x y → AimsIn g p y → HasFrame x f → ForAim g p x f
for_aim h g p far x Ready f fits aims has = absurd (none_in_hand x f fits has)
for_aim h g p far x (Missing o) f fits aims has = absurd (none_in_hand x f fits has)
for_aim h g p far x (Bringing o) f fits aims has = absurd (only_brings x o f fits has)
for_aim h g p far x (Reading o i) f fits aims has = record { object = o; aiming = aims; brings = fits.0.0; only = into_only x o i f fits.0 has }
for_aim h g p far x (Filling o i words k) f fits aims has = record { object = o; aiming = aims; brings = fits.0.0; only = into_only x o i f fits.0 has }
for_aim h g p far x (Evicting o e) f fits aims has = let k = eviction_only g.size far x e fits.1 fits.2 in record { object = o; aiming = aims; brings = fits.0; only = has_only x f k.0 has k.1 }
for_aim h g p far x (Releasing o i) f fits aims has = record { object = o; aiming = aims; brings = fits.0; only = into_only x o i f fits has }
for_aim h g p far x (Retreating o) f fits aims has = absurd (only_brings x o f fits has)
for_aim h g p far x Closing f fits aims has = absurd (none_in_hand x f fits has)
for_aim h g p far x (Wanted w) f fits aims has = absurd (none_in_hand x f fits has)

-- ---- scopes

module _ (g : Setting) (p : Program) (few : FewScopes (most_scopes g.image.functions) p.core) (s : ℕ) (x : Hold) (there : hold_at p.holds s ≡ Some x) where
  as_few : (v : Option (ℕ × ℕ)) → held_in p.core s ≡ v → IsAsCode g p s → s < most_scopes g.image.functions
  as_few None e as_code =
      let k : Some x.object ≡ None = sym (ap object_in there) ∙ (as_code ∙ ap (λ (y : Option (ℕ × ℕ)). object_or_none g p (cell_option y)) e) in cc
  as_few (Some a) e as_code = few_held (most_scopes g.image.functions) p.core s a few e

  shut_few : hold_at p.holds s ≡ None → s < most_scopes g.image.functions
  shut_few none = let k : Some x ≡ None = sym there ∙ none in cc

  aimed_few : (o : ℕ) → IsAimed g p o s → s < most_scopes g.image.functions
  aimed_few o a = subst (λ i. i < most_scopes g.image.functions) a.1 (few_aimed g.image p.core a.0.scope (Some a.0.cell) few a.0.is.0)

  by_code : IsAsCode g p s ⊎ IsShut g p s → s < most_scopes g.image.functions
  by_code (inl as_code) = as_few (held_in p.core s) refl as_code
  by_code (inr shut) = shut_few shut.0

  by_aim : (o : ℕ) → IsAsCode g p s ⊎ IsAimed g p o s → s < most_scopes g.image.functions
  by_aim o (inl as_code) = as_few (held_in p.core s) refl as_code
  by_aim o (inr a) = aimed_few o a

  -- a scope that holds something is one of those of a function
  scope_few : (y : Mode) → ScopeFits g p y s → s < most_scopes g.image.functions
  scope_few Ready fits = by_code fits
  scope_few (Missing o) fits = by_aim o fits
  scope_few (Bringing o) fits = by_aim o fits
  scope_few (Reading o f) fits = by_aim o fits
  scope_few (Filling o f words k) fits = by_aim o fits
  scope_few (Evicting o e) fits = by_aim o fits
  scope_few (Releasing o f) fits = by_aim o fits
  scope_few (Retreating o) fits = by_aim o fits
  scope_few Closing fits = elim fits [ inl as_code ↦ as_few (held_in p.core s) refl as_code | inr w ↦ elim w [ inl none ↦ shut_few none | inr a ↦ aimed_few a.0 a.1 ] ]
  scope_few (Wanted OutOfMemory) fits = by_code fits
  scope_few (Wanted NoObjects) fits = by_code fits
  scope_few (Wanted StoreFailed) fits = shut_few fits

-- ---- numbers of scopes

more_below : (images : ℕ → Image) (j k : ℕ) → j ≤ k → scopes_below images j ≤ scopes_below images k
more_below images j zero l = let e : j ≡ 0 = omega arith in subst (λ i. scopes_below images i ≤ 0) (sym e) (omega arith)
more_below images j (suc k) l = elim (same_or j (suc k)) [
  | inl e ↦ subst (λ i. scopes_below images i ≤ scopes_below images (suc k)) (sym e) (omega arith)
  | inr d ↦ let m : scopes_below images j ≤ scopes_below images k = more_below images j k (omega arith) in omega arith
]

abbrev slot : (ℕ → Image) → ℕ → ℕ → ℕ
slot images k s = scopes_below images k + s

slot_before : (images : ℕ → Image) (j s k t : ℕ) → j < k → s < most_scopes (images j).functions → slot images j s < slot images k t
slot_before images j s k t l b = let m : scopes_below images (suc j) ≤ scopes_below images k = more_below images (suc j) k (omega arith) in omega arith

less_or : (j k : ℕ) → j ≢ k → (j < k) ⊎ (k < j)
less_or zero zero d = absurd (d refl)
less_or zero (suc k) d = inl (omega arith)
less_or (suc j) zero d = inr (omega arith)
less_or (suc j) (suc k) d = elim (less_or j k (λ e. d (ap suc e))) [ inl l ↦ inl (omega arith) | inr l ↦ inr (omega arith) ]

-- each scope has a number of its own
one_slot : (images : ℕ → Image) (j s k t : ℕ) → s < most_scopes (images j).functions → t < most_scopes (images k).functions → slot images j s ≡ slot images k t → (j ≡ k) × (s ≡ t)
one_slot images j s k t b c e = elim (same_or j k) [
  | inl q ↦ (q, (let m : scopes_below images j ≡ scopes_below images k = ap (scopes_below images) q in omega arith))
  | inr d ↦ elim (less_or j k d) [
    | inl l ↦ (let m : slot images j s < slot images k t = slot_before images j s k t l b in absurd (omega arith))
    | inr l ↦ (let m : slot images k t < slot images j s = slot_before images k t j s l c in absurd (omega arith))
  ]
]

-- ---- a hold of an object that is counted

none_counted : (o : ℕ) → count_of o (None ∷ None ∷ None ∷ None ∷ []) ≡ 0
none_counted o = refl

find_hold : (o : ℕ) (hs : List (Option Hold)) → 0 < count_of o hs → (s : ℕ) × (x : Hold) × (hold_at hs s ≡ Some x) × (x.object ≡ o)
find_hold o [] l = absurd (omega arith)
find_hold o (None ∷ hs) l = let r = find_hold o hs (omega arith) in (suc r.0, r.1, r.2, r.3)
find_hold o (Some x ∷ hs) l = elim (same_or x.object o) [
  | inl e ↦ (0, x, refl, e)
  | inr d ↦ (let z : one o (Some x) ≡ 0 = ap (λ (b : Bool). cond b 1 0) (ne_eqb x.object o d) in let r = find_hold o hs (omega arith) in (suc r.0, r.1, r.2, r.3))
]

-- ---- what is held

-- the object is in a frame, and in no mover's hands
abbrev is_here : Place → Bool
is_here Away = false
is_here (Coming m) = false
is_here (Here f k) = true
is_here (Leaving f m k) = false

-- a frame of this holder can't be had: the holder is a mover, or an object that has a hold or is in a mover's hands
abbrev is_taken : State → Holder → Bool
is_taken s Nobody = false
is_taken s (Object o) = not (((s.word o).count == 0) && is_here (s.word o).place)
is_taken s (Claimer m) = true
is_taken s (Freer m) = true

not_true : (b : Bool) → not b ≡ true → b ≡ false
not_true true e = cc
not_true false e = refl

not_none : (n : ℕ) → (n == 0) ≡ false → 0 < n
not_none n e = grind (arith, nat_tests)

none_is : (n : ℕ) → (n == 0) ≡ true → n ≡ 0
none_is n e = grind (arith, nat_tests)

not_taken : (a b : Bool) → not (a && b) ≡ false → (a ≡ true) × (b ≡ true)
not_taken true true e = (refl, refl)
not_taken true false e = cc
not_taken false b e = cc

-- ---- tickets

module _ (h : Type 0) (z : Sizes) (images : ℕ → Image) (w : World) (sound : IsSound h z w) (all : AllFit z images w) (rests : Rests z images w) (ranged : AreRanged z w) (room : 0 < share z) where
  abbrev hands : ℕ → Hand
  hands m = w.lock.hand m

  data IsTicket (f t : ℕ) : Type 0 where
    ByScope : (k s : ℕ) → (x : Hold) → k < z.programs → hold_at (w.programs k).holds s ≡ Some x → framed (w.lock.word x.object).place ≡ Some f → t ≡ slot images k s → IsTicket f t
    ByAim : (k : ℕ) → k < z.programs → (a : ForAim (setting z images k) (w.programs k) (w.lock.hand (suc k)) f) → HasFrame (w.lock.hand (suc k)) f → t ≡ slot images k a.aiming.scope → IsTicket f t
    -- evacuators, and behind them fetchers
    ByMover : (e : ℕ) → e < z.evacuators + z.fetchers → OnlyFrame (w.lock.hand (suc (z.programs + e))) f → HasFrame (w.lock.hand (suc (z.programs + e))) f → t ≡ scopes_below images z.programs + e → IsTicket f t

  below_scopes : (k s : ℕ) (x : Hold) → hold_at (w.programs k).holds s ≡ Some x → s < most_scopes (images k).functions
  below_scopes k s x e = scope_few (setting z images k) (w.programs k) (all k).within.few s x e (w.programs k).mode ((all k).scopes s)

  aim_below : (k o : ℕ) → (a : IsAiming (setting z images k) (w.programs k) o) → a.scope < most_scopes (images k).functions
  aim_below k o a = below_scopes k a.scope (record { object = o; writes = false }) a.holds

  slot_below : (k s : ℕ) → k < z.programs → s < most_scopes (images k).functions → slot images k s < scopes_below images z.programs
  slot_below k s l b = let m : scopes_below images (suc k) ≤ scopes_below images z.programs = more_below images (suc k) z.programs (omega arith) in omega arith

  ticket_below : (f t : ℕ) → IsTicket f t → t < need z images
  ticket_below f t (ByScope k s x l e there i) = let b : slot images k s < scopes_below images z.programs = slot_below k s l (below_scopes k s x e) in omega arith
  ticket_below f t (ByAim k l a has i) = let b : slot images k a.aiming.scope < scopes_below images z.programs = slot_below k a.aiming.scope l (aim_below k a.object a.aiming) in omega arith
  ticket_below f t (ByMover e l only has i) = omega arith

  -- the object that an aim is under way for is in no frame
  aim_frameless : (k o f : ℕ) → (hands (suc k)).bringing ≡ Some o → framed (w.lock.word o).place ≡ Some f → ⊥
  aim_frameless k o f brings there =
      let place : (w.lock.word o).place ≡ Coming (suc k) = (sound.lock.mover (suc k)).brings o brings in
      let q : None ≡ Some f = sym (ap framed place) ∙ there in cc

  -- a scope that holds an object in a frame is not that of an aim that is under way
  scope_aim : (j s k o f : ℕ) (x : Hold) → (a : IsAiming (setting z images k) (w.programs k) o) → hold_at (w.programs j).holds s ≡ Some x → framed (w.lock.word x.object).place ≡ Some f
      → (hands (suc k)).bringing ≡ Some o → slot images j s ≡ slot images k a.scope → ⊥
  scope_aim j s k o f x a here there brings e =
      let q = one_slot images j s k a.scope (below_scopes j s x here) (aim_below k o a) e in
      let y : Hold = record { object = o; writes = false } in
      let again : hold_at (w.programs k).holds a.scope ≡ Some x = subst (λ i. hold_at (w.programs k).holds i ≡ Some x) q.1 (subst (λ i. hold_at (w.programs i).holds s ≡ Some x) q.0 here) in
      let both : Some x ≡ Some y = sym again ∙ a.holds in
      let same : x.object ≡ o = (let v : x ≡ y = cc in ap (λ (i : Hold). i.object) v) in
      aim_frameless k o f brings (subst (λ i. framed (w.lock.word i).place ≡ Some f) same there)

  scope_scope : (j s k u f g : ℕ) (x y : Hold) → hold_at (w.programs j).holds s ≡ Some x → framed (w.lock.word x.object).place ≡ Some f → hold_at (w.programs k).holds u ≡ Some y
      → framed (w.lock.word y.object).place ≡ Some g → slot images j s ≡ slot images k u → f ≡ g
  scope_scope j s k u f g x y here there also too e =
      let q = one_slot images j s k u (below_scopes j s x here) (below_scopes k u y also) e in
      let again : hold_at (w.programs k).holds u ≡ Some x = subst (λ i. hold_at (w.programs k).holds i ≡ Some x) q.1 (subst (λ i. hold_at (w.programs i).holds s ≡ Some x) q.0 here) in
      let both : Some x ≡ Some y = sym again ∙ also in
      let same : x ≡ y = cc in
      let r : Some f ≡ Some g = sym there ∙ (ap (λ (i : Hold). framed (w.lock.word i.object).place) same ∙ too) in cc

  aim_aim : (j k f g : ℕ) (a : ForAim (setting z images j) (w.programs j) (hands (suc j)) f) (b : ForAim (setting z images k) (w.programs k) (hands (suc k)) g) → HasFrame (hands (suc j)) f
      → slot images j a.aiming.scope ≡ slot images k b.aiming.scope → f ≡ g
  aim_aim j k f g a b has e =
      let q = one_slot images j a.aiming.scope k b.aiming.scope (aim_below j a.object a.aiming) (aim_below k b.object b.aiming) e in
      b.only f (subst (λ i. HasFrame (hands (suc i)) f) q.0 has)

  ticket_apart : (f g t : ℕ) → IsTicket f t → IsTicket g t → f ≡ g
  ticket_apart f g t (ByScope j s x l e there i) (ByScope k u y m d too n) = scope_scope j s k u f g x y e there d too (sym i ∙ n)
  ticket_apart f g t (ByScope j s x l e there i) (ByAim k m b has n) = absurd (scope_aim j s k b.object f x b.aiming e there b.brings (sym i ∙ n))
  ticket_apart f g t (ByScope j s x l e there i) (ByMover k m only has n) = let b : slot images j s < scopes_below images z.programs = slot_below j s l (below_scopes j s x e) in absurd (omega arith)
  ticket_apart f g t (ByAim j l a has i) (ByScope k u y m d too n) = absurd (scope_aim k u j a.object g y a.aiming d too a.brings (sym n ∙ i))
  ticket_apart f g t (ByAim j l a has i) (ByAim k m b too n) = aim_aim j k f g a b has (sym i ∙ n)
  ticket_apart f g t (ByAim j l a has i) (ByMover k m only too n) =
      let b : slot images j a.aiming.scope < scopes_below images z.programs = slot_below j a.aiming.scope l (aim_below j a.object a.aiming) in absurd (omega arith)
  ticket_apart f g t (ByMover j l only has i) (ByScope k u y m d too n) = let b : slot images k u < scopes_below images z.programs = slot_below k u m (below_scopes k u y d) in absurd (omega arith)
  ticket_apart f g t (ByMover j l only has i) (ByAim k m b too n) =
      let c : slot images k b.aiming.scope < scopes_below images z.programs = slot_below k b.aiming.scope m (aim_below k b.object b.aiming) in absurd (omega arith)
  ticket_apart f g t (ByMover j l only has i) (ByMover k m also too n) =
      let same : j ≡ k = omega arith in also f (subst (λ e. HasFrame (hands (suc (z.programs + e))) f) same has)

  -- ---- every frame that is taken has one

  by_program : (k f : ℕ) → k < z.programs → HasFrame (hands (suc k)) f → (t : ℕ) × IsTicket f t
  by_program k f l has =
      let a : ForAim (setting z images k) (w.programs k) (hands (suc k)) f =
      for_aim h (setting z images k) (w.programs k) w.lock.far (hands (suc k)) (w.programs k).mode f (sound.hands.program k l) (all k).within.aims has in
      (slot images k a.aiming.scope, ByAim k l a has refl)

  by_evacuator : (e f : ℕ) → e < z.evacuators → HasFrame (hands (suc (z.programs + e))) f → (t : ℕ) × IsTicket f t
  by_evacuator e f l has =
      (scopes_below images z.programs + e, ByMover e (omega arith) (evacuator_only z.cells w.lock.far (hands (suc (z.programs + e))) (w.evacuators e) f (sound.hands.evacuator e l) has) has refl)

  by_fetcher : (q f : ℕ) → q < z.fetchers → HasFrame (hands (suc (z.programs + z.evacuators + q))) f → (t : ℕ) × IsTicket f t
  by_fetcher q f l has =
      let e : ℕ = z.evacuators + q in
      let same : suc (z.programs + z.evacuators + q) ≡ suc (z.programs + e) = omega arith in
      let only = fetcher_only h z.cells w.lock.far (hands (suc (z.programs + z.evacuators + q))) (w.fetchers q) f (sound.hands.fetcher q l) has in
      (scopes_below images z.programs + e, ByMover e (omega arith) (subst (λ m. OnlyFrame (hands m) f) same only) (subst (λ m. HasFrame (hands m) f) same has) refl)

  by_nobody : (m f : ℕ) → IsNobody z m → HasFrame (hands m) f → ⊥
  by_nobody m f nobody has = no_frame empty_handed f refl refl refl (subst (λ (x : Hand). HasFrame x f) (rests.hands m nobody) has)

  by_other : (k f : ℕ) → z.programs ≤ k → HasFrame (hands (suc k)) f → (t : ℕ) × IsTicket f t
  by_other k f l has =
      let e : ℕ = k - z.programs in
      let same : suc k ≡ suc (z.programs + e) = omega arith in
      elim (lt_or e z.evacuators) [
        | inl b ↦ by_evacuator e f b (subst (λ m. HasFrame (hands m) f) same has)
        | inr b ↦
            let q : ℕ = e - z.evacuators in
            let same : suc k ≡ suc (z.programs + z.evacuators + q) = omega arith in
            elim (lt_or q z.fetchers) [
              | inl c ↦ by_fetcher q f c (subst (λ m. HasFrame (hands m) f) same has)
              | inr c ↦ absurd (by_nobody (suc k) f (inr (omega arith)) has)
            ]
      ]

  by_mover : (m f : ℕ) → HasFrame (hands m) f → (t : ℕ) × IsTicket f t
  by_mover zero f has = absurd (by_nobody 0 f (inl refl) has)
  by_mover (suc k) f has = elim (lt_or k z.programs) [ inl l ↦ by_program k f l has | inr l ↦ by_other k f l has ]

  by_hold : (o f : ℕ) → framed (w.lock.word o).place ≡ Some f → 0 < (w.lock.word o).count → (t : ℕ) × IsTicket f t
  by_hold o f there l =
      let S : ℕ = share z in
      let j : ℕ = o / S in
      let cut : j * S + o % S ≡ o = div-add-mod' o S in
      let rest : o % S < S = mod-lt o room in
      let counts : (w.lock.word o).count ≡ (w.lock.note o).count = (sound.lock.owner o).counts in
      let counted : (w.lock.note o).count ≡ count_of o (w.programs j).holds = (all j).holds.counted o (omega arith, omega arith) in
      elim (lt_or j z.programs) [
        | inl b ↦
            let r = find_hold o (w.programs j).holds (omega arith) in
            (slot images j r.0, ByScope j r.0 r.1 b r.2 (subst (λ i. framed (w.lock.word i).place ≡ Some f) (sym r.3) there) refl)
        | inr b ↦
            let e : count_of o (w.programs j).holds ≡ 0 = ap (λ (p : Program). count_of o p.holds) (rests.programs j b) in
            absurd (omega arith)
      ]

  leaving_at : (o f : ℕ) (p : Place) → (w.lock.word o).place ≡ p → framed p ≡ Some f → is_here p ≡ false → PlaceOk h z.cells w.lock o p → (t : ℕ) × IsTicket f t
  leaving_at o f Away e there out ok = cc
  leaving_at o f (Coming m) e there out ok = cc
  leaving_at o f (Here g k) e there out ok = cc
  leaving_at o f (Leaving g m k) e there out ok =
      let same : g ≡ f = cc in
      by_mover m f (inr (inl (o, ok.2, ok.3 ∙ same)))

  object_by : (o f : ℕ) (b : Bool) → ((w.lock.word o).count == 0) ≡ b → framed (w.lock.word o).place ≡ Some f → not (b && is_here (w.lock.word o).place) ≡ true → (t : ℕ) × IsTicket f t
  object_by o f false e there taken = by_hold o f there (not_none (w.lock.word o).count e)
  object_by o f true e there taken = leaving_at o f (w.lock.word o).place refl there (not_true (is_here (w.lock.word o).place) taken) (sound.lock.object o)

  taken_by : (f : ℕ) (x : Holder) → FrameOk w.lock f x → is_taken w.lock x ≡ true → (t : ℕ) × IsTicket f t
  taken_by f Nobody ok taken = cc
  taken_by f (Object o) ok taken = object_by o f ((w.lock.word o).count == 0) refl ok.1 taken
  taken_by f (Claimer m) ok taken = by_mover m f (inl ok.1)
  taken_by f (Freer m) ok taken = by_mover m f (inr (inr ok.1))

  -- ---- a frame that isn't taken is unheld

  -- an object in a frame is one of the objects
  framed_below : (o f : ℕ) (k : Bool) → (w.lock.word o).place ≡ Here f k → o < z.objects
  framed_below o f k e = elim (lt_or o z.objects) [ inl l ↦ l | inr far ↦ (let no : Here f k ≡ Away = sym e ∙ ranged.away o far in cc) ]

  here_at : (o f : ℕ) (p : Place) → (w.lock.word o).place ≡ p → framed p ≡ Some f → is_here p ≡ true → (w.lock.word o).count ≡ 0 → IsUnheld z w.lock f
  here_at o f Away e there here none = cc
  here_at o f (Coming m) e there here none = cc
  here_at o f (Leaving g m k) e there here none = cc
  here_at o f (Here g k) e there here none =
      let same : g ≡ f = cc in
      inr (o, framed_below o g k e, k, ap (λ (i : ℕ). counted i (w.lock.word o).place) none ∙ (ap (counted 0) e ∙ ap (λ i. counted 0 (Here i k)) same))

  unheld_by : (f : ℕ) (x : Holder) → FrameOk w.lock f x → is_taken w.lock x ≡ false → IsUnheld z w.lock f
  unheld_by f Nobody ok free = inl ok
  unheld_by f (Object o) ok free =
      let b = not_taken ((w.lock.word o).count == 0) (is_here (w.lock.word o).place) free in
      here_at o f (w.lock.word o).place refl ok.1 b.1 (none_is (w.lock.word o).count b.0)
  unheld_by f (Claimer m) ok free = cc
  unheld_by f (Freer m) ok free = cc

  -- ---- a program that seeks a frame

  -- the ticket of a frame, where it is taken
  abbrev pick : (f : ℕ) (b : Bool) → (b ≡ true → (t : ℕ) × IsTicket f t) → ℕ
  pick f true has = (has refl).0
  pick f false has = 0

  picked : (f : ℕ) (b : Bool) (has : b ≡ true → (t : ℕ) × IsTicket f t) → b ≡ true → IsTicket f (pick f b has)
  picked f true has e = (has refl).1
  picked f false has e = cc

  spare : (k o : ℕ) → (a : IsAiming (setting z images k) (w.programs k) o) → OnlyBrings o (hands (suc k)) → k < z.programs → (f t : ℕ) → IsTicket f t → t ≢ slot images k a.scope
  spare k o a only l f t (ByScope j s x b e there i) q = scope_aim j s k o f x a e there only.0 (sym i ∙ q)
  spare k o a only l f t (ByAim j b c has i) q =
      let r = one_slot images j c.aiming.scope k a.scope (aim_below j c.object c.aiming) (aim_below k o a) (sym i ∙ q) in
      only_brings (hands (suc k)) o f only (subst (λ m. HasFrame (hands (suc m)) f) r.0 has)
  spare k o a only l f t (ByMover e b c has i) q = let m : slot images k a.scope < scopes_below images z.programs = slot_below k a.scope l (aim_below k o a) in absurd (omega arith)

  seeks : (k o : ℕ) → k < z.programs → (w.programs k).mode ≡ Bringing o → need z images ≤ z.frames → (f : ℕ) × (f < z.frames) × IsUnheld z w.lock f
  seeks k o l m fits =
      let has : (f : ℕ) → is_taken w.lock (w.lock.who f) ≡ true → (t : ℕ) × IsTicket f t = λ f e. taken_by f (w.lock.who f) (sound.lock.frame f) e in
      let held : ℕ → Bool = λ f. is_taken w.lock (w.lock.who f) in
      let ticket : ℕ → ℕ = λ f. pick f (is_taken w.lock (w.lock.who f)) (has f) in
      let is : (f : ℕ) → held f ≡ true → IsTicket f (ticket f) = λ f e. picked f (is_taken w.lock (w.lock.who f)) (has f) e in
      let aiming : IsAiming (setting z images k) (w.programs k) o = subst (AimsIn (setting z images k) (w.programs k)) m (all k).within.aims in
      let only : OnlyBrings o (hands (suc k)) = subst (FitsMode h z.cells w.lock.far (hands (suc k))) m (sound.hands.program k l) in
      let tickets : Ticketed z.frames (need z images) held ticket = record {
        below = λ f b e. ticket_below f (ticket f) (is f e);
        apart = λ f g b c e d q. ticket_apart f g (ticket g) (subst (IsTicket f) q (is f e)) (is g d);
      } in
      let unused : slot images k aiming.scope < need z images = (let b : slot images k aiming.scope < scopes_below images z.programs = slot_below k aiming.scope l (aim_below k o aiming) in omega arith) in
      let r = enough z.frames (need z images) held ticket (slot images k aiming.scope) fits tickets unused (λ f b e. spare k o aiming only l f (ticket f) (is f e)) in
      (r.0, r.1, unheld_by r.0 (w.lock.who r.0) (sound.lock.frame r.0) r.2)

-- a program that seeks a frame has objects
some_share : (z : Sizes) (images : ℕ → Image) (w : World) (k o : ℕ) → AllFit z images w → (w.programs k).mode ≡ Bringing o → 0 < share z
some_share z images w k o all m =
    let aiming : IsAiming (setting z images k) (w.programs k) o = subst (AimsIn (setting z images k) (w.programs k)) m (all k).within.aims in
    let there = (all k).holds.own aiming.scope (record { object = o; writes = false }) aiming.holds in
    let low : k * share z ≤ o = there.0 in
    let high : o < k * share z + share z = there.1 in
    omega arith

-- where there are enough frames, one is unheld wherever a program seeks one
pub some_unheld : (h : Type 0) (z : Sizes) (images : ℕ → Image) (w : World) → IsSound h z w → AllFit z images w → Rests z images w → AreRanged z w → (k o : ℕ) → k < z.programs → (w.programs k).mode ≡ Bringing o → need z images ≤ z.frames
    → (f : ℕ) × (f < z.frames) × IsUnheld z w.lock f
some_unheld h z images w sound all rests ranged k o l m fits = seeks h z images w sound all rests ranged (some_share z images w k o all m) k o l m fits
