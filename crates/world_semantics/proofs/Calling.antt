-- what a call leaves of its own mover's hand, of other hands, and of the store cells
use Rattle.std.proofs.Common.{◌≡◌, ◌≢◌, ◌⊎◌, inl, inr, ℕ, Bool, true, false, cond, ◌&&◌, Option, Some, None, refl, sym, ap, ◌∙◌, subst}
use Rattle.std.specs.Prelude.{◌==◌}
use Rattle.pointer_word.specs.Words.{Place, Away, Coming, Here, Leaving}
use Rattle.pointer_word.specs.Hands.{Hand, bringing, claiming, filling, arriving, unclaiming, retreating, marking, copying, committing, leaving, aborting, releasing}
use Rattle.pointer_word.specs.Machine.{Far, Never, Kept, Unknown, content, content_or, State, after_begin, after_claim, after_mark, after_commit, after_leave}
use Rattle.pointer_word.specs.Calls.{Call, Opens, Closes, Clears, Stores, Begins, Claims, Fills, Arrives, Unclaims, Retreats, Marks, Copies, Puts, Commits, Aborts, Leaves, Releases, May, IsPut, Copied, told_where, begin_at, mark_at, commit_at, leave_at, act}
use Rattle.pointer_word.specs.Sound.{Inv}
use Rattle.world_semantics.specs.Programs.{Eviction, Copying, Stored, NotStored, Refused, Freed, Mode, Ready, Missing, Bringing, Reading, Filling, Evicting, Releasing, Retreating, Closing, Wanted}
use Rattle.world_semantics.specs.Steps.{maker}
use Rattle.world_semantics.specs.Fetchers.{Fetching, as_mode}
use Rattle.world_semantics.specs.InHand.{WasPut, FitsEviction, FitsMode, FitsEvacuator, FitsFetcher}
use Rattle.pointer_word.proofs.Upd.{upd-same, upd-other, upd_kept}

-- the mover m has x in hand, and the store cells are as before
pub record After (m : ℕ) (s t : State) (x : Hand) : Type 0 where
  pub hand : t.hand m ≡ x
  pub far : t.far ≡ s.far

-- a try leaves the hand as it was, or with what was tried for
pub record Tried (m : ℕ) (s t : State) (x : Hand) : Type 0 where
  pub hand : (t.hand m ≡ x) ⊎ (t.hand m ≡ s.hand m)
  pub far : t.far ≡ s.far

tried_cond : (m : ℕ) (s u : State) (x : Hand) (b : Bool) → u.hand m ≡ x → u.far ≡ s.far → Tried m s (cond b u s) x
tried_cond m s u x true e f = record { hand = inl e; far = f }
tried_cond m s u x false e f = record { hand = inr refl; far = refl }

tried_not : (m : ℕ) (s : State) (x : Hand) → Tried m s s x
tried_not m s x = record { hand = inr refl; far = refl }

told_as : (m : ℕ) (s : State) (x : Hand) (own : Bool) (o : ℕ) → Tried m s (told_where own s o) x
told_as m s x true o = record { hand = inr refl; far = refl }
told_as m s x false o = record { hand = inr refl; far = refl }

begin_cond : (m : ℕ) (s u : State) (x : Hand) (b own : Bool) (o : ℕ) → u.hand m ≡ x → u.far ≡ s.far → Tried m s (cond b u (told_where own s o)) x
begin_cond m s u x true own o e f = record { hand = inl e; far = f }
begin_cond m s u x false own o e f = told_as m s x own o

begins_at : (s : State) (m o c : ℕ) (own : Bool) (p : Place) → Tried m s (begin_at s m o c own p) (bringing (s.hand m) o (content_or (content (s.far o))))
begins_at s m o c own Away = begin_cond m s (after_begin s m o) (bringing (s.hand m) o (content_or (content (s.far o)))) ((s.word o).count == c) own o (upd-same s.hand m _ m refl) refl
begins_at s m o c own (Coming j) = told_as m s _ own o
begins_at s m o c own (Here f k) = told_as m s _ own o
begins_at s m o c own (Leaving f j k) = told_as m s _ own o

pub begins : (s : State) (m o c : ℕ) (own : Bool) → Tried m s (act s (Begins m o c own)) (bringing (s.hand m) o (content_or (content (s.far o))))
begins s m o c own = begins_at s m o c own (s.word o).place

pub claims : (s : State) (m o f : ℕ) → Tried m s (act s (Claims m o f)) (claiming (s.hand m) f)
claims s m o f = tried_cond m s (after_claim s m o f) (claiming (s.hand m) f) (s.frame f == 0) (upd-same s.hand m _ m refl) refl

marks_at : (s : State) (m o f : ℕ) (p : Place) → Tried m s (mark_at s m o f p) (marking (s.hand m) o f)
marks_at s m o f Away = tried_not m s _
marks_at s m o f (Coming j) = tried_not m s _
marks_at s m o f (Here g true) = tried_not m s _
marks_at s m o f (Here g false) = tried_cond m s (after_mark s m o f) (marking (s.hand m) o f) ((g == f) && ((s.word o).count == 0)) (upd-same s.hand m _ m refl) refl
marks_at s m o f (Leaving g j k) = tried_not m s _

pub marks : (s : State) (m o f : ℕ) → Tried m s (act s (Marks m o f)) (marking (s.hand m) o f)
marks s m o f = marks_at s m o f (s.word o).place

commits_at : (s : State) (m o f : ℕ) (p : Place) → Tried m s (commit_at s m o f p) (committing (s.hand m) f)
commits_at s m o f Away = tried_not m s _
commits_at s m o f (Coming j) = tried_not m s _
commits_at s m o f (Here g k) = tried_not m s _
commits_at s m o f (Leaving g j false) = tried_not m s _
commits_at s m o f (Leaving g j true) = tried_cond m s (after_commit s m o f) (committing (s.hand m) f) ((g == f) && ((j == m) && ((s.word o).count == 0))) (upd-same s.hand m _ m refl) refl

pub commits : (s : State) (m o f : ℕ) → Tried m s (act s (Commits m o f)) (committing (s.hand m) f)
commits s m o f = commits_at s m o f (s.word o).place

leaves_at : (s : State) (m o f : ℕ) (p : Place) → Tried m s (leave_at s m o f p) (leaving (s.hand m) f)
leaves_at s m o f Away = tried_not m s _
leaves_at s m o f (Coming j) = tried_not m s _
leaves_at s m o f (Here g false) = tried_not m s _
leaves_at s m o f (Here g true) = tried_cond m s (after_leave s m o f) (leaving (s.hand m) f) ((g == f) && ((s.word o).count == 0)) (upd-same s.hand m _ m refl) refl
leaves_at s m o f (Leaving g j k) = tried_not m s _

pub leaves : (s : State) (m o f : ℕ) → Tried m s (act s (Leaves m o f)) (leaving (s.hand m) f)
leaves s m o f = leaves_at s m o f (s.word o).place

pub fills_one : (s : State) (m f i v : ℕ) → After m s (act s (Fills m f i v)) (filling (s.hand m) i v)
fills_one s m f i v = record { hand = upd-same s.hand m _ m refl; far = refl }

pub arrives : (s : State) (m o f : ℕ) (own : Bool) → After m s (act s (Arrives m o f own)) (arriving (s.hand m))
arrives s m o f true = record { hand = upd-same s.hand m _ m refl; far = refl }
arrives s m o f false = record { hand = upd-same s.hand m _ m refl; far = refl }

pub unclaims : (s : State) (m f : ℕ) → After m s (act s (Unclaims m f)) (unclaiming (s.hand m))
unclaims s m f = record { hand = upd-same s.hand m _ m refl; far = refl }

pub retreats : (s : State) (m o : ℕ) → After m s (act s (Retreats m o)) (retreating (s.hand m))
retreats s m o = record { hand = upd-same s.hand m _ m refl; far = refl }

pub copies : (s : State) (m f i : ℕ) → After m s (act s (Copies m f i)) (copying (s.hand m) i (s.cell f i))
copies s m f i = record { hand = upd-same s.hand m _ m refl; far = refl }

pub aborts : (s : State) (m o f : ℕ) → After m s (act s (Aborts m o f)) (aborting (s.hand m))
aborts s m o f = record { hand = upd-same s.hand m _ m refl; far = refl }

pub releases : (s : State) (m f : ℕ) → After m s (act s (Releases m f)) (releasing (s.hand m))
releases s m f = record { hand = upd-same s.hand m _ m refl; far = refl }

-- ---- the hands of others

other_cond : (j : ℕ) (s u v : State) (b : Bool) → u.hand j ≡ s.hand j → v.hand j ≡ s.hand j → (cond b u v).hand j ≡ s.hand j
other_cond j s u v true e f = e
other_cond j s u v false e f = f

other_told : (j : ℕ) (s : State) (own : Bool) (o : ℕ) → (told_where own s o).hand j ≡ s.hand j
other_told j s true o = refl
other_told j s false o = refl

other_begin : (j : ℕ) (s : State) (m o c : ℕ) (own : Bool) (p : Place) → j ≢ m → (begin_at s m o c own p).hand j ≡ s.hand j
other_begin j s m o c own Away d = other_cond j s (after_begin s m o) (told_where own s o) ((s.word o).count == c) (upd-other s.hand m _ j d) (other_told j s own o)
other_begin j s m o c own (Coming _) d = other_told j s own o
other_begin j s m o c own (Here _ _) d = other_told j s own o
other_begin j s m o c own (Leaving _ _ _) d = other_told j s own o

other_mark : (j : ℕ) (s : State) (m o f : ℕ) (p : Place) → j ≢ m → (mark_at s m o f p).hand j ≡ s.hand j
other_mark j s m o f Away d = refl
other_mark j s m o f (Coming _) d = refl
other_mark j s m o f (Here g true) d = refl
other_mark j s m o f (Here g false) d = other_cond j s (after_mark s m o f) s ((g == f) && ((s.word o).count == 0)) (upd-other s.hand m _ j d) refl
other_mark j s m o f (Leaving _ _ _) d = refl

other_commit : (j : ℕ) (s : State) (m o f : ℕ) (p : Place) → j ≢ m → (commit_at s m o f p).hand j ≡ s.hand j
other_commit j s m o f Away d = refl
other_commit j s m o f (Coming _) d = refl
other_commit j s m o f (Here _ _) d = refl
other_commit j s m o f (Leaving g i false) d = refl
other_commit j s m o f (Leaving g i true) d = other_cond j s (after_commit s m o f) s ((g == f) && ((i == m) && ((s.word o).count == 0))) (upd-other s.hand m _ j d) refl

other_leave : (j : ℕ) (s : State) (m o f : ℕ) (p : Place) → j ≢ m → (leave_at s m o f p).hand j ≡ s.hand j
other_leave j s m o f Away d = refl
other_leave j s m o f (Coming _) d = refl
other_leave j s m o f (Here g false) d = refl
other_leave j s m o f (Here g true) d = other_cond j s (after_leave s m o f) s ((g == f) && ((s.word o).count == 0)) (upd-other s.hand m _ j d) refl
other_leave j s m o f (Leaving _ _ _) d = refl

apart : (m j : ℕ) → Some m ≢ Some j → j ≢ m
apart m j d e = d (ap Some (sym e))

-- a call that the mover j doesn't make leaves it its hand
pub other_hand : (j : ℕ) (s : State) (c : Call) → maker c ≢ Some j → (act s c).hand j ≡ s.hand j
other_hand j s (Opens o) d = refl
other_hand j s (Closes o) d = refl
other_hand j s (Clears o) d = refl
other_hand j s (Stores o f i v) d = refl
other_hand j s (Begins m o c own) d = other_begin j s m o c own (s.word o).place (apart m j d)
other_hand j s (Claims m o f) d = other_cond j s (after_claim s m o f) s (s.frame f == 0) (upd-other s.hand m _ j (apart m j d)) refl
other_hand j s (Fills m f i v) d = upd-other s.hand m _ j (apart m j d)
other_hand j s (Arrives m o f true) d = upd-other s.hand m _ j (apart m j d)
other_hand j s (Arrives m o f false) d = upd-other s.hand m _ j (apart m j d)
other_hand j s (Unclaims m f) d = upd-other s.hand m _ j (apart m j d)
other_hand j s (Retreats m o) d = upd-other s.hand m _ j (apart m j d)
other_hand j s (Marks m o f) d = other_mark j s m o f (s.word o).place (apart m j d)
other_hand j s (Copies m f i) d = upd-other s.hand m _ j (apart m j d)
other_hand j s (Puts m o x) d = refl
other_hand j s (Commits m o f) d = other_commit j s m o f (s.word o).place (apart m j d)
other_hand j s (Aborts m o f) d = upd-other s.hand m _ j (apart m j d)
other_hand j s (Leaves m o f) d = other_leave j s m o f (s.word o).place (apart m j d)
other_hand j s (Releases m f) d = upd-other s.hand m _ j (apart m j d)

-- ---- the store cells

-- the store cells that the mover j goes by stay: that of the object that it moves out, and that something was put into one
pub record StoresStay (j : ℕ) (s t : State) : Type 0 where
  pub leaving : (o : ℕ) → (s.hand j).leaving ≡ Some o → t.far o ≡ s.far o
  pub put : (o : ℕ) → WasPut (s.far o) → WasPut (t.far o)

stay_same : (j : ℕ) (s t : State) → t.far ≡ s.far → StoresStay j s t
stay_same j s t e = record { leaving = λ o q. ap (λ (g : ℕ → Far). g o) e; put = λ o p. subst (λ (g : ℕ → Far). WasPut (g o)) (sym e) p }

was_put : (n : ℕ) (x : Far) → IsPut n x → WasPut x
was_put n Never is = is
was_put n (Kept words) is = tt
was_put n Unknown is = tt

-- two movers don't move out one object
one_mover : (h : Type 0) (n : ℕ) (s : State) (m j o : ℕ) → Inv h n s → (s.hand m).leaving ≡ Some o → (s.hand j).leaving ≡ Some o → j ≡ m
one_mover h n s m j o inv a b =
    let p = (inv.mover m).leaves o a in
    let q = (inv.mover j).leaves o b in
    let e : Leaving (s.hand m).source m p.0 ≡ Leaving (s.hand j).source j q.0 = sym p.1 ∙ q.1 in
    cc

pub stores_stay : (h : Type 0) (n j : ℕ) (s : State) (c : Call) → May h n s c → Inv h n s → maker c ≢ Some j → StoresStay j s (act s c)
stores_stay h n j s (Opens o) may inv d = stay_same j s (act s (Opens o)) refl
stores_stay h n j s (Closes o) may inv d = stay_same j s (act s (Closes o)) refl
stores_stay h n j s (Clears o) may inv d = stay_same j s (act s (Clears o)) refl
stores_stay h n j s (Stores o f i v) may inv d = stay_same j s (act s (Stores o f i v)) refl
stores_stay h n j s (Begins m o c own) may inv d = stay_same j s (act s (Begins m o c own)) (begins s m o c own).far
stores_stay h n j s (Claims m o f) may inv d = stay_same j s (act s (Claims m o f)) (claims s m o f).far
stores_stay h n j s (Fills m f i v) may inv d = stay_same j s (act s (Fills m f i v)) refl
stores_stay h n j s (Arrives m o f true) may inv d = stay_same j s (act s (Arrives m o f true)) refl
stores_stay h n j s (Arrives m o f false) may inv d = stay_same j s (act s (Arrives m o f false)) refl
stores_stay h n j s (Unclaims m f) may inv d = stay_same j s (act s (Unclaims m f)) refl
stores_stay h n j s (Retreats m o) may inv d = stay_same j s (act s (Retreats m o)) refl
stores_stay h n j s (Marks m o f) may inv d = stay_same j s (act s (Marks m o f)) (marks s m o f).far
stores_stay h n j s (Copies m f i) may inv d = stay_same j s (act s (Copies m f i)) refl
stores_stay h n j s (Puts m o x) may inv d = record {
  leaving = λ p q. upd-other s.far o x p (λ e. apart m j d (one_mover h n s m j o inv may.0 (subst (λ r. (s.hand j).leaving ≡ Some r) e q)));
  put = λ p q. upd_kept WasPut s.far o x p (λ _. was_put n x may.1) q;
}
stores_stay h n j s (Commits m o f) may inv d = stay_same j s (act s (Commits m o f)) (commits s m o f).far
stores_stay h n j s (Aborts m o f) may inv d = stay_same j s (act s (Aborts m o f)) refl
stores_stay h n j s (Leaves m o f) may inv d = stay_same j s (act s (Leaves m o f)) (leaves s m o f).far
stores_stay h n j s (Releases m f) may inv d = stay_same j s (act s (Releases m f)) refl

-- ---- what an actor has in hand stays under the calls of others

eviction_stays : (n j : ℕ) (s t : State) (x : Hand) (e : Eviction) → StoresStay j s t → s.hand j ≡ x → FitsEviction n s.far x e → FitsEviction n t.far x e
eviction_stays n j s t x (Copying o f words) stay is fits = fits
eviction_stays n j s t x (Stored o f) stay is fits = (fits.0, subst (λ (y : Far). Copied n x y) (sym (stay.leaving o (ap (λ (y : Hand). y.leaving) is ∙ fits.0.0))) fits.1)
eviction_stays n j s t x (NotStored o f) stay is fits = fits
eviction_stays n j s t x (Refused o f) stay is fits = fits
eviction_stays n j s t x (Freed f) stay is fits = fits

pub mode_stays : (h : Type 0) (n j : ℕ) (s t : State) (x : Hand) (m : Mode) → StoresStay j s t → s.hand j ≡ x → FitsMode h n s.far x m → FitsMode h n t.far x m
mode_stays h n j s t x Ready stay is fits = fits
mode_stays h n j s t x (Missing o) stay is fits = fits
mode_stays h n j s t x (Bringing o) stay is fits = fits
mode_stays h n j s t x (Reading o f) stay is fits = (fits.0, stay.put o fits.1)
mode_stays h n j s t x (Filling o f words k) stay is fits = fits
mode_stays h n j s t x (Evicting o e) stay is fits = (fits.0, fits.1, eviction_stays n j s t x e stay is fits.2)
mode_stays h n j s t x (Releasing o f) stay is fits = fits
mode_stays h n j s t x (Retreating o) stay is fits = fits
mode_stays h n j s t x Closing stay is fits = fits
mode_stays h n j s t x (Wanted w) stay is fits = fits

pub evacuator_stays : (n j : ℕ) (s t : State) (x : Hand) (e : Option Eviction) → StoresStay j s t → s.hand j ≡ x → FitsEvacuator n s.far x e → FitsEvacuator n t.far x e
evacuator_stays n j s t x None stay is fits = fits
evacuator_stays n j s t x (Some e) stay is fits = (fits.0, fits.1, eviction_stays n j s t x e stay is fits.2)

pub fetcher_stays : (h : Type 0) (n j : ℕ) (s t : State) (x : Hand) (d : Option Fetching) → StoresStay j s t → s.hand j ≡ x → FitsFetcher h n s.far x d → FitsFetcher h n t.far x d
fetcher_stays h n j s t x None stay is fits = fits
fetcher_stays h n j s t x (Some d) stay is fits = mode_stays h n j s t x (as_mode d) stay is fits
