-- the call of an actor's turn meets what is asked of its caller
use Rattle.std.proofs.Common.{◌≡◌, ◌⊎◌, inl, inr, ℕ, zero, suc, ◌+◌, ◌<◌, ◌≤◌, Bool, true, false, cond, List, [], ◌∷◌, length, Option, Some, None, refl, sym, ap, ◌∙◌, subst, arith}
use Rattle.std.specs.Prelude.{◌==◌, ◌%◌, nat_lt, nat_le}
use Rattle.std.proofs.Math.Nat.{mod-lt}
use Rattle.std.proofs.lemmas.Bool.Decides.{nat_tests}
use Rattle.code_form.specs.declared.touch.Cell.{Cell}
use Rattle.code_form.specs.declared.touch.Touch.{Touch}
use Rattle.code_form.specs.declared.touch.Touch.TheVariants as touch
use Rattle.code_form.specs.Code.{is_blocked}
use Rattle.code_form.specs.Placed.{pieces}
use Rattle.pointer_word.specs.Hands.{known, listed}
use Rattle.pointer_word.specs.Machine.{State}
use Rattle.pointer_word.specs.Calls.{Puts}
use Rattle.pointer_word.specs.Asked.{HasNothing}
use Rattle.pointer_word.specs.Ordered.{IsFilled}
use Rattle.pointer_word.proofs.Asking.{asked_may}
use Rattle.pointer_word.proofs.Legal.{may_legal}
use Rattle.world_semantics.specs.declared.event.Choice.{Choice}
use Rattle.world_semantics.specs.declared.event.Choice.TheVariants as choice
use Rattle.world_semantics.specs.Fetchers as fetching
use Rattle.world_semantics.specs.Fetchers.{Fetching, as_mode}
use Rattle.world_semantics.specs.Programs.{Eviction, Copying, Stored, NotStored, Refused, Freed, Hold, Mode, Ready, Missing, Bringing, Reading, Filling, Evicting, Releasing, Retreating, Closing, Wanted, Program, Setting, next_touch, object_of, object_or_none, next_free, hold_at, in_mode, finished, first_hold}
use Rattle.world_semantics.specs.Turns.{Answer, Turn, NotEnabled, Alone, Calls, as_next, put_of, put_so, evicts, evacuator_idle, evacuator_turn, aims_at, loads_from, loads_by, stores_to, stores_by, leaves_by, ends_by, ready, seeks, brings, fetcher_idle, fetcher_claims, fetches, fetcher_turn, program_brings, gives_up, by_mode}
use Rattle.world_semantics.specs.InHand.{MovesOut, FitsEviction, OnlyBrings, BringsInto, IsPromised, FitsMode, FitsEvacuator, FitsFetcher}
use Rattle.world_semantics.specs.Holding.{one, count_of}
use Rattle.world_semantics.specs.Enabled.{AsksTurn, is_turn}
use Rattle.world_semantics.specs.Scopes.{IsNext, IsAiming, AimsIn}
use Rattle.world_semantics.proofs.Able.{able}
use Rattle.world_semantics.proofs.Counting.{one_same, first_at}
use Rattle.world_semantics.proofs.Holding.{InShare, Holds1}
use Rattle.world_semantics.proofs.Moving.{below, not_below}

-- such a turn leads somewhere wherever there is something to do
pub asked_able : {A : Type 0} (owner : ℕ → ℕ) (h : Type 0) (n : ℕ) (s : State) (m : ℕ) (x : Turn A) → AsksTurn owner h n s m x → able n s x ≡ is_turn x
asked_able owner h n s m NotEnabled k = refl
asked_able owner h n s m (Alone a) k = refl
asked_able owner h n s m (Calls c go) k = may_legal h n s c (asked_may owner h n s m c k)

asks_cond : {A : Type 0} (owner : ℕ → ℕ) (h : Type 0) (n : ℕ) (s : State) (m : ℕ) (b : Bool) (x y : Turn A)
    → (b ≡ true → AsksTurn owner h n s m x) → (b ≡ false → AsksTurn owner h n s m y) → AsksTurn owner h n s m (cond b x y)
asks_cond owner h n s m true x y e f = e refl
asks_cond owner h n s m false x y e f = f refl

asks_next : {A : Type 0} (owner : ℕ → ℕ) (h : Type 0) (n : ℕ) (s : State) (m : ℕ) (c : Choice) (x : Turn A) → AsksTurn owner h n s m x → AsksTurn owner h n s m (as_next c x)
asks_next owner h n s m choice.Next x k = k
asks_next owner h n s m (choice.Look f) x k = tt
asks_next owner h n s m (choice.Claim f) x k = tt
asks_next owner h n s m (choice.Mark o f) x k = tt
asks_next owner h n s m (choice.Leave o f) x k = tt
asks_next owner h n s m (choice.Begin o) x k = tt

equal : (a b : ℕ) → (a == b) ≡ true → a ≡ b
equal a b e = grind (arith, nat_tests)

-- ---- counting holds

-- an object that a scope holds is counted
pub counts_one : (hs : List (Option Hold)) (k : ℕ) (x : Hold) → hold_at hs k ≡ Some x → 0 < count_of x.object hs
counts_one [] k x e = cc
counts_one (y ∷ hs) zero x e = let a : one x.object y ≡ 1 = ap (one x.object) e ∙ one_same x x.object refl in omega arith
counts_one (y ∷ hs) (suc k) x e = let a : 0 < count_of x.object hs = counts_one hs k x e in omega arith

at_most_one : (o : ℕ) (x : Option Hold) → one o x ≤ 1
at_most_one o None = omega arith
at_most_one o (Some x) = by_test (x.object == o)
  where
    by_test : (b : Bool) → cond b 1 0 ≤ 1
    by_test true = omega arith
    by_test false = omega arith

no_more : (o : ℕ) (hs : List (Option Hold)) → count_of o hs ≤ length hs
no_more o [] = omega arith
no_more o (x ∷ hs) = let a : count_of o hs ≤ length hs = no_more o hs in let b : one o x ≤ 1 = at_most_one o x in omega arith

-- where a scope holds nothing, fewer holds than scopes are counted
pub counts_fewer : (o : ℕ) (hs : List (Option Hold)) (k : ℕ) → k < length hs → hold_at hs k ≡ None → count_of o hs < length hs
counts_fewer o [] k l e = absurd (omega arith)
counts_fewer o (x ∷ hs) zero l e = let a : one o x ≡ 0 = ap (one o) e in let b : count_of o hs ≤ length hs = no_more o hs in omega arith
counts_fewer o (x ∷ hs) (suc k) l e = let a : count_of o hs < length hs = counts_fewer o hs k (omega arith) e in let b : one o x ≤ 1 = at_most_one o x in omega arith

-- ---- what a hold says of its object

-- the owner was told a frame of the object, and may write there where the hold says so
abbrev pub HoldTold : State → Hold → Type 0
HoldTold s x = (known (s.note x.object).frame ≡ true) × (x.writes ≡ true → (s.note x.object).writing ≡ true)

-- a hold of this object was opened by the aim that is under way
abbrev pub IsOpened : ℕ → Hold → Type 0
IsOpened o x = x ≡ record { object = o; writes = false }

-- a hold of which the owner need not have been told a frame
abbrev pub IsPending : Mode → Hold → Type 0
IsPending Ready x = ⊥
IsPending (Missing o) x = IsOpened o x
IsPending (Bringing o) x = IsOpened o x
IsPending (Reading o f) x = IsOpened o x
IsPending (Filling o f words k) x = IsOpened o x
IsPending (Evicting o e) x = IsOpened o x
IsPending (Releasing o f) x = IsOpened o x
IsPending (Retreating o) x = IsOpened o x
IsPending Closing x = Unit {0}
IsPending (Wanted w) x = Unit {0}

-- the holds of a program in a mode
abbrev pub ToldFit : State → Program → Mode → Type 0
ToldFit s p y = (k : ℕ) (x : Hold) → hold_at p.holds k ≡ Some x → HoldTold s x ⊎ IsPending y x

-- ---- moving out

module _ {A : Type 0} (owner : ℕ → ℕ) (h : Type 0) (n : ℕ) (s : State) (m : ℕ) (a : Answer) (go : Eviction → A) (done failed : A) (claims : (s.hand m).claimed ≡ None) where
  asks_put : (stored : Bool) (o f : ℕ) (words : List ℕ) → MovesOut o f (s.hand m) → length words ≡ n → AsksTurn owner h n s m (Calls (Puts m o (put_of stored words)) (λ t. go (put_so stored o f)))
  asks_put true o f words moves all = (refl, (moves.0, all))
  asks_put false o f words moves all = (refl, (moves.0, tt))

  pub asks_evicts : (e : Eviction) → FitsEviction n s.far (s.hand m) e → AsksTurn owner h n s m (evicts n m a e go done failed)
  asks_evicts (Copying o f words) fits =
      asks_cond owner h n s m (nat_lt (length words) n) _ _ (λ e. (refl, below (length words) n e, (o, fits.0.0, fits.0.1)))
      (λ e. let k : n ≤ length words = not_below (length words) n e in let l : length words ≤ n = fits.2 in asks_put a.stored o f words fits.0 (omega arith))
  asks_evicts (Stored o f) fits = (refl, claims, (fits.0.0, fits.0.1, fits.0.2, fits.1))
  asks_evicts (NotStored o f) fits = (refl, (fits.0, fits.1))
  asks_evicts (Refused o f) fits = (refl, (fits.0, fits.1))
  asks_evicts (Freed f) fits = (refl, fits.1)

-- ---- bringing in

module _ {A : Type 0} (owner : ℕ → ℕ) (h : Type 0) (n : ℕ) (s : State) (m : ℕ) (own : Bool) (a : Answer) (go : Fetching → A) (done failed : A) where
  asks_fill : (o f : ℕ) (words : List ℕ) (k : ℕ) → (own ≡ true → (owner o ≡ m) × (0 < (s.note o).count)) → BringsInto o f (s.hand m) → IsFilled (s.hand m) words k → (h → IsPromised n (s.hand m) words)
      → AsksTurn owner h n s m (brings n m own a (fetching.Filling o f words k) go done failed)
  asks_fill o f words k mine into is same = asks_cond owner h n s m (nat_lt k n) _ _
      (λ e. (refl, below k n e, into.2))
      (λ e. let far : n ≤ k = not_below k n e in
      (refl, (λ q. (mine q).0), (into.0, into.2, (λ i l. (listed words i, is i (omega arith), λ y. same y i l)), (λ q. (mine q).1))))

  -- an owner has a hold of what it brings in
  pub asks_brings : (d : Fetching) → ((o : ℕ) → (s.hand m).bringing ≡ Some o → own ≡ true → (owner o ≡ m) × (0 < (s.note o).count)) → FitsMode h n s.far (s.hand m) (as_mode d)
      → AsksTurn owner h n s m (brings n m own a d go done failed)
  asks_brings (fetching.Bringing o) mine fits = (refl, fits.2.0, fits.0)
  asks_brings (fetching.Reading o f) mine fits = tt
  asks_brings (fetching.Filling o f words k) mine fits = asks_fill o f words k (mine o fits.0.0) fits.0 fits.1 fits.2
  asks_brings (fetching.Releasing o f) mine fits = (refl, fits.2)
  asks_brings (fetching.Retreating o) mine fits = (refl, fits.2.0, fits.0)

-- ---- a program

module _ (owner : ℕ → ℕ) (h : Type 0) (g : Setting) (s : State) (p : Program) (a : Answer) (some : 0 < g.size) (own : (o : ℕ) → InShare g o → owner o ≡ g.mover) (holds : Holds1 g s p)
    (four : length p.holds ≡ 4) (there : (k : ℕ) (w : Cell) → IsNext g p (touch.Aims k (Some w)) → InShare g (object_of g p w)) where
  abbrev Asks : Turn Program → Type 0
  Asks x = AsksTurn owner h g.size s g.mover x

  asks_if : (b : Bool) (x y : Turn Program) → (b ≡ true → Asks x) → (b ≡ false → Asks y) → Asks (cond b x y)
  asks_if = asks_cond owner h g.size s g.mover

  -- a scope holds the object: it is the program's, and has a hold
  held : (k : ℕ) (x : Hold) → hold_at p.holds k ≡ Some x → (owner x.object ≡ g.mover) × (0 < (s.note x.object).count)
  held k x e =
      let q : (s.note x.object).count ≡ count_of x.object p.holds = holds.counted x.object (holds.own k x e) in
      let c : 0 < count_of x.object p.holds = counts_one p.holds k x e in
      (own x.object (holds.own k x e), omega arith)

  held_so : (k : ℕ) (x : Hold) (o : ℕ) → hold_at p.holds k ≡ Some x → x.object ≡ o → (owner o ≡ g.mover) × (0 < (s.note o).count)
  held_so k x o e q = subst (λ i. (owner i ≡ g.mover) × (0 < (s.note i).count)) q (held k x e)

  fewer : (k : ℕ) (o : ℕ) → k < length p.holds → hold_at p.holds k ≡ None → InShare g o → (s.note o).count < 4
  fewer k o l e share = let q : (s.note o).count ≡ count_of o p.holds = holds.counted o share in let c : count_of o p.holds < length p.holds = counts_fewer o p.holds k l e in omega arith

  asks_none : (k : ℕ) (x : Option Hold) → hold_at p.holds k ≡ x → Asks (aims_at g p k x None)
  asks_none k None e = tt
  asks_none k (Some x) e = held k x e

  asks_some : (k : ℕ) (x : Option Hold) (w : Cell) → hold_at p.holds k ≡ x → k < length p.holds → IsNext g p (touch.Aims k (Some w)) → Asks (aims_at g p k x (Some (object_of g p w)))
  asks_some k None w e l is = let share = there k w is in (own (object_of g p w) share, fewer k (object_of g p w) l e share)
  asks_some k (Some x) w e l is = asks_if (x.object == object_of g p w) _ _ (λ _. tt) (λ _. held k x e)

  asks_aims : (k : ℕ) (w : Option Cell) → k < length p.holds → IsNext g p (touch.Aims k w) → Asks (aims_at g p k (hold_at p.holds k) (object_or_none g p w))
  asks_aims k None l is = asks_none k (hold_at p.holds k) refl
  asks_aims k (Some w) l is = asks_some k (hold_at p.holds k) w refl l is

  asks_load : (x : Option Hold) (f : Option ℕ) (o i : ℕ) → (s.note o).frame ≡ f → Asks (loads_by g s p x o i)
  asks_load None f o i e = tt
  asks_load (Some x) f o i e = asks_if (x.object == o) _ _ (λ _. from (s.note o).frame) (λ _. tt)
    where
      from : (f : Option ℕ) → Asks (loads_from g s p f i)
      from None = tt
      from (Some f) = tt

  asks_store_to : (f : Option ℕ) (o i v : ℕ) → (s.note o).frame ≡ f → owner o ≡ g.mover → (s.note o).writing ≡ true → i < g.size → Asks (stores_to g p f o i v)
  asks_store_to None o i v e mine may l = tt
  asks_store_to (Some f) o i v e mine may l = (mine, l, (e, may))

  -- a hold of a program that is ready
  ready_told : (k : ℕ) (x : Hold) → ToldFit s p Ready → hold_at p.holds k ≡ Some x → HoldTold s x
  ready_told k x told e = elim (told k x e) [ inl t ↦ t | inr pending ↦ absurd pending ]

  asks_store : (k : ℕ) (x : Option Hold) (o i v : ℕ) → ToldFit s p Ready → hold_at p.holds k ≡ x → i < g.size → Asks (stores_by g s p k x o i v)
  asks_store k None o i v told e l = tt
  asks_store k (Some x) o i v told e l = asks_if (x.object == o) _ _
      (λ b. asks_if x.writes _ _
      (λ w. asks_store_to (s.note o).frame o i v refl (held_so k x o e (equal x.object o b)).0 (subst (λ j. (s.note j).writing ≡ true) (equal x.object o b) ((ready_told k x told e).1 w)) l)
      (λ _. held_so k x o e (equal x.object o b)))
      (λ _. tt)

  asks_leave : (k : ℕ) (x : Option Hold) → hold_at p.holds k ≡ x → Asks (leaves_by g p k x)
  asks_leave k None e = tt
  asks_leave k (Some x) e = held k x e

  asks_end : (q : Option (ℕ × Hold)) → first_hold p.holds ≡ q → Asks (ends_by g p a q)
  asks_end None e = tt
  asks_end (Some q) e = held q.0 q.1 (first_at p.holds q e)

  asks_ready : (x : Touch) → IsNext g p x → ToldFit s p Ready → Asks (ready g s p a x)
  asks_ready touch.Plain is told = tt
  asks_ready (touch.Hints w) is told = tt
  asks_ready (touch.Aims k w) is told = asks_if (nat_lt k (length p.holds)) _ _ (λ l. asks_aims k w (below k (length p.holds) l) is) (λ _. tt)
  asks_ready (touch.Loads k x) is told = asks_load (hold_at p.holds k) (s.note (object_of g p x)).frame (object_of g p x) (x.index % g.size) refl
  asks_ready (touch.Stores k x v) is told = asks_store k (hold_at p.holds k) (object_of g p x) (x.index % g.size) v told refl (mod-lt x.index some)
  asks_ready (touch.Leaves k) is told = asks_leave k (hold_at p.holds k) refl
  asks_ready (touch.Allocs cells) is told = asks_if (nat_le (next_free g p + pieces g.size cells) g.limit) _ _ (λ _. tt) (λ _. tt)
  asks_ready touch.Ends is told = asks_end (first_hold p.holds) refl
  asks_ready touch.Wrong is told = tt
  asks_ready touch.Nothing is told = tt

  -- the aim that is under way has a hold
  aimed : (o : ℕ) → IsAiming g p o → (owner o ≡ g.mover) × (0 < (s.note o).count)
  aimed o aiming = held aiming.scope (record { object = o; writes = false }) aiming.holds

  asks_seek : (o : ℕ) (c : Choice) → IsAiming g p o → OnlyBrings o (s.hand g.mover) → Asks (seeks g p o c)
  asks_seek o choice.Next aiming only = tt
  asks_seek o (choice.Begin v) aiming only = tt
  asks_seek o (choice.Look f) aiming only = tt
  asks_seek o (choice.Claim f) aiming only = (refl, only.0, only.1, only.2)
  asks_seek o (choice.Mark v f) aiming only =
      (refl, (only.1, only.2, (λ q e. let same : o ≡ q = (let k : Some o ≡ Some q = sym only.0 ∙ e in cc) in subst (λ i. owner i ≡ g.mover) same (aimed o aiming).0)))
  asks_seek o (choice.Leave v f) aiming only =
      (refl, (only.1, only.2, (λ q e. let same : o ≡ q = (let k : Some o ≡ Some q = sym only.0 ∙ e in cc) in subst (λ i. owner i ≡ g.mover) same (aimed o aiming).0)))

  brings_own : (o : ℕ) → IsAiming g p o → (s.hand g.mover).bringing ≡ Some o → (q : ℕ) → (s.hand g.mover).bringing ≡ Some q → true ≡ true → (owner q ≡ g.mover) × (0 < (s.note q).count)
  brings_own o aiming only q e r = let same : o ≡ q = (let k : Some o ≡ Some q = sym only ∙ e in cc) in subst (λ i. (owner i ≡ g.mover) × (0 < (s.note i).count)) same (aimed o aiming)

  asks_bring : (d : Fetching) (o : ℕ) → IsAiming g p o → (s.hand g.mover).bringing ≡ Some o → FitsMode h g.size s.far (s.hand g.mover) (as_mode d) → Asks (program_brings g p a d)
  asks_bring d o aiming only fits = asks_brings owner h g.size s g.mover true a (λ e. in_mode p (as_mode e)) (finished g p 0) (in_mode p Closing) d (brings_own o aiming only) fits

  asks_giving_up : (q : Option (ℕ × Hold)) → first_hold p.holds ≡ q → Asks (gives_up p q)
  asks_giving_up None e = tt
  asks_giving_up (Some q) e = held q.0 q.1 (first_at p.holds q e)

  pub asks_program : (y : Mode) (c : Choice) → FitsMode h g.size s.far (s.hand g.mover) y → AimsIn g p y → ToldFit s p y → Asks (by_mode g s p y c a)
  asks_program Ready c fits aims told = asks_next owner h g.size s g.mover c _ (asks_if (is_blocked p.core) NotEnabled (ready g s p a (next_touch g p)) (λ _. tt) (λ b. asks_ready (next_touch g p) (refl, b) told))
  asks_program (Missing o) c fits aims told =
      asks_next owner h g.size s g.mover c _ (refl, fits, (λ _. ((aimed o aims).0, (aimed o aims).1, refl)), (λ other. cc))
  asks_program (Bringing o) c fits aims told = asks_seek o c aims fits
  asks_program (Reading o f) c fits aims told = asks_next owner h g.size s g.mover c _ (asks_bring (fetching.Reading o f) o aims fits.0.0 fits)
  asks_program (Filling o f words k) c fits aims told = asks_next owner h g.size s g.mover c _ (asks_bring (fetching.Filling o f words k) o aims fits.0.0 fits)
  asks_program (Evicting o d) c fits aims told =
      asks_next owner h g.size s g.mover c _ (asks_evicts owner h g.size s g.mover a (λ d. in_mode p (Evicting o d)) (in_mode p (Bringing o)) (in_mode p (Retreating o)) fits.1 d fits.2)
  asks_program (Releasing o f) c fits aims told = asks_next owner h g.size s g.mover c _ (asks_bring (fetching.Releasing o f) o aims fits.0 fits)
  asks_program (Retreating o) c fits aims told = asks_next owner h g.size s g.mover c _ (asks_bring (fetching.Retreating o) o aims fits.0 fits)
  asks_program Closing c fits aims told = asks_next owner h g.size s g.mover c _ (asks_giving_up (first_hold p.holds) refl)
  asks_program (Wanted w) c fits aims told = tt

-- ---- an evacuator

asks_idle : (owner : ℕ → ℕ) (h : Type 0) (n : ℕ) (s : State) (m : ℕ) (c : Choice) → HasNothing (s.hand m) → AsksTurn owner h n s m (evacuator_idle m c)
asks_idle owner h n s m choice.Next has = tt
asks_idle owner h n s m (choice.Look f) has = tt
asks_idle owner h n s m (choice.Claim f) has = tt
asks_idle owner h n s m (choice.Begin o) has = tt
asks_idle owner h n s m (choice.Mark o f) has = (refl, (has.1, has.2, (λ q e. let k : None ≡ Some q = sym has.0 ∙ e in cc)))
asks_idle owner h n s m (choice.Leave o f) has = (refl, (has.1, has.2, (λ q e. let k : None ≡ Some q = sym has.0 ∙ e in cc)))

pub asks_evacuator : (owner : ℕ → ℕ) (h : Type 0) (n : ℕ) (s : State) (m : ℕ) (d : Option Eviction) (c : Choice) (a : Answer) → FitsEvacuator n s.far (s.hand m) d → AsksTurn owner h n s m (evacuator_turn n m d c a)
asks_evacuator owner h n s m None c a fits = asks_idle owner h n s m c fits
asks_evacuator owner h n s m (Some e) c a fits = asks_next owner h n s m c _ (asks_evicts owner h n s m a Some None None fits.1 e fits.2)

-- ---- a fetcher

module _ (owner : ℕ → ℕ) (h : Type 0) (n : ℕ) (s : State) (m : ℕ) where
  asks_begin : (c : Choice) → HasNothing (s.hand m) → AsksTurn owner h n s m (fetcher_idle m c)
  asks_begin choice.Next has = tt
  asks_begin (choice.Look f) has = tt
  asks_begin (choice.Claim f) has = tt
  asks_begin (choice.Mark o f) has = tt
  asks_begin (choice.Leave o f) has = tt
  asks_begin (choice.Begin o) has = (refl, has, (λ own. cc), (λ other. refl))

  asks_claim : (f : ℕ) (d : Fetching) → FitsMode h n s.far (s.hand m) (as_mode d) → AsksTurn owner h n s m (fetcher_claims m f d)
  asks_claim f (fetching.Bringing o) fits = (refl, fits.0, fits.1, fits.2)
  asks_claim f (fetching.Reading o g) fits = tt
  asks_claim f (fetching.Filling o g words k) fits = tt
  asks_claim f (fetching.Releasing o g) fits = tt
  asks_claim f (fetching.Retreating o) fits = tt

  asks_fetches : (d : Fetching) (c : Choice) (a : Answer) → FitsMode h n s.far (s.hand m) (as_mode d) → AsksTurn owner h n s m (fetches n m d c a)
  asks_fetches d choice.Next a fits = asks_brings owner h n s m false a Some None None d (λ o e own. cc) fits
  asks_fetches d (choice.Look f) a fits = tt
  asks_fetches d (choice.Claim f) a fits = asks_claim f d fits
  asks_fetches d (choice.Mark o f) a fits = tt
  asks_fetches d (choice.Leave o f) a fits = tt
  asks_fetches d (choice.Begin o) a fits = tt

  pub asks_fetcher : (d : Option Fetching) (c : Choice) (a : Answer) → FitsFetcher h n s.far (s.hand m) d → AsksTurn owner h n s m (fetcher_turn n m d c a)
  asks_fetcher None c a fits = asks_begin c fits
  asks_fetcher (Some d) c a fits = asks_fetches d c a fits
