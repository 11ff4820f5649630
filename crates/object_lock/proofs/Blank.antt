-- Until a mover has claimed a frame, no cell of a frame is written.
use Rattle.std.proofs.Common.{◌≡◌, ℕ, ◌+◌, Bool, true, false, cond, ◌&&◌, List, [], ◌∷◌, Option, Some, None, refl, sym, ap, ◌∙◌, subst, arith}
use Rattle.std.specs.Prelude.{◌==◌}
use mathlib.Core.Path.{Path}
use Rattle.pointer_word.specs.Words.{Place, Away, Coming, Here, Leaving, framed}
use Rattle.pointer_word.specs.Hands.{Hand, upd, bringing, claiming, filling, arriving, unclaiming, retreating, marking, copying, committing, aborting, leaving, releasing}
use Rattle.pointer_word.specs.Machine.{State as Machine, opening, content, content_or, after_begin, after_claim, after_arrive, after_mark, after_commit, after_leave}
use Rattle.pointer_word.specs.Sound.{Inv, IsOutside}
use Rattle.pointer_word.specs.Calls.{Call, Opens, Closes, Clears, Stores, Begins, Claims, Fills, Arrives, Unclaims, Retreats, Marks, Copies, Puts, Commits, Aborts, Leaves, Releases, May, Runs, act, told_where, begin_at, mark_at, commit_at, leave_at}
use Rattle.pointer_word.proofs.Upd.{upd-same, upd_like}
use Rattle.pointer_word.proofs.Runs.{keeps_act, opens_well}

-- what a mover has claimed, how often it claimed a frame, and how often it arrived
abbrev claimed_by : Hand → Option ℕ × ℕ × ℕ
claimed_by y = (y.claimed, y.claims, y.arrivals)

-- nothing was claimed, and no cell written
record Alike (x t : Machine) : Type 0 where
  hands : (j : ℕ) → Path (Option ℕ × ℕ × ℕ) (claimed_by (t.hand j)) (claimed_by (x.hand j))
  cells : (f i : ℕ) → t.cell f i ≡ x.cell f i

-- where no mover has claimed a frame, none has one, none has arrived, and the cells are as at first
abbrev IsBlank : Machine → Type 0
IsBlank x = ((j : ℕ) → (x.hand j).claims ≡ 0) → ((j : ℕ) → Path (Option ℕ) (x.hand j).claimed None) × ((j : ℕ) → (x.hand j).arrivals ≡ 0) × ((f i : ℕ) → x.cell f i ≡ 0)

stays : (x t : Machine) → Alike x t → IsBlank x → IsBlank t
stays x t a w none =
    let before = w (λ j. sym (ap (λ (q : Option ℕ × ℕ × ℕ). q.1) (a.hands j)) ∙ none j) in
    (λ j. ap (λ (q : Option ℕ × ℕ × ℕ). q.0) (a.hands j) ∙ before.0 j, λ j. ap (λ (q : Option ℕ × ℕ × ℕ). q.2) (a.hands j) ∙ before.1 j, λ f i. a.cells f i ∙ before.2 f i)

self : (x : Machine) → Alike x x
self x = record { hands = λ _. refl; cells = λ _ _. refl }

-- one mover's hand was changed, but not of what it claimed
one_hand : (x t : Machine) (m : ℕ) (y : Hand) → ((j : ℕ) → t.hand j ≡ upd x.hand m y j) → Path (Option ℕ × ℕ × ℕ) (claimed_by y) (claimed_by (x.hand m)) → ((f i : ℕ) → t.cell f i ≡ x.cell f i) → Alike x t
one_hand x t m y is same cells = record { hands = λ j. ap claimed_by (is j) ∙ upd_like claimed_by x.hand m y j (claimed_by (x.hand j)) same refl; cells = cells }

either_alike : (b : Bool) (x t u : Machine) → Alike x t → Alike x u → Alike x (cond b t u)
either_alike true x t u a k = a
either_alike false x t u a k = k

told_alike : (own : Bool) (x : Machine) (o : ℕ) → Alike x (told_where own x o)
told_alike true x o = record { hands = λ _. refl; cells = λ _ _. refl }
told_alike false x o = self x

begin_alike : (x : Machine) (m o c : ℕ) (own : Bool) (p : Place) → Alike x (begin_at x m o c own p)
begin_alike x m o c own Away = either_alike ((x.word o).count == c) x (after_begin x m o) (told_where own x o)
    (one_hand x (after_begin x m o) m (bringing (x.hand m) o (content_or (content (x.far o)))) (λ _. refl) refl (λ _ _. refl)) (told_alike own x o)
begin_alike x m o c own (Coming _) = told_alike own x o
begin_alike x m o c own (Here _ _) = told_alike own x o
begin_alike x m o c own (Leaving _ _ _) = told_alike own x o

mark_alike : (x : Machine) (m o f : ℕ) (p : Place) → Alike x (mark_at x m o f p)
mark_alike x m o f Away = self x
mark_alike x m o f (Coming _) = self x
mark_alike x m o f (Here g true) = self x
mark_alike x m o f (Here g false) = either_alike ((g == f) && ((x.word o).count == 0)) x (after_mark x m o f) x (one_hand x (after_mark x m o f) m (marking (x.hand m) o f) (λ _. refl) refl (λ _ _. refl)) (self x)
mark_alike x m o f (Leaving _ _ _) = self x

commit_alike : (x : Machine) (m o f : ℕ) (p : Place) → Alike x (commit_at x m o f p)
commit_alike x m o f Away = self x
commit_alike x m o f (Coming _) = self x
commit_alike x m o f (Here _ _) = self x
commit_alike x m o f (Leaving g j false) = self x
commit_alike x m o f (Leaving g j true) = either_alike ((g == f) && ((j == m) && ((x.word o).count == 0))) x (after_commit x m o f) x (one_hand x (after_commit x m o f) m (committing (x.hand m) f) (λ _. refl) refl (λ _ _. refl)) (self x)

leave_alike : (x : Machine) (m o f : ℕ) (p : Place) → Alike x (leave_at x m o f p)
leave_alike x m o f Away = self x
leave_alike x m o f (Coming _) = self x
leave_alike x m o f (Here g false) = self x
leave_alike x m o f (Here g true) = either_alike ((g == f) && ((x.word o).count == 0)) x (after_leave x m o f) x (one_hand x (after_leave x m o f) m (leaving (x.hand m) f) (λ _. refl) refl (λ _ _. refl)) (self x)
leave_alike x m o f (Leaving _ _ _) = self x

-- a mover that had claimed a frame had claimed before
had_claimed : (x t : Machine) (m f : ℕ) → ((j : ℕ) → (t.hand j).claims ≡ (x.hand j).claims) → (x.hand m).claimed ≡ Some f → IsBlank x → IsBlank t
had_claimed x t m f same has w none = let empty = (w (λ j. sym (same j) ∙ none j)).0 m in absurd (let clash : None ≡ Some f = sym empty ∙ has in cc)

claim_blank : (b : Bool) (x : Machine) (m o f : ℕ) → IsBlank x → IsBlank (cond b (after_claim x m o f) x)
claim_blank true x m o f w none =
    let once : (x.hand m).claims + 1 ≡ 0 = sym (ap (λ (y : Hand). y.claims) (upd-same x.hand m (claiming (x.hand m) f) m refl)) ∙ none m in absurd (omega arith)
claim_blank false x m o f w none = w none

arrive_claims : (own : Bool) (x : Machine) (m o f j : ℕ) → ((told_where own (after_arrive x m o f) o).hand j).claims ≡ (x.hand j).claims
arrive_claims true x m o f j = upd_like (λ (y : Hand). y.claims) x.hand m (arriving (x.hand m)) j (x.hand j).claims refl refl
arrive_claims false x m o f j = upd_like (λ (y : Hand). y.claims) x.hand m (arriving (x.hand m)) j (x.hand j).claims refl refl

in_none : (p : Place) (f : ℕ) → IsOutside p → framed p ≡ Some f → ⊥
in_none Away f out e = cc
in_none (Coming m) f out e = cc
in_none (Here g k) f out e = out
in_none (Leaving g m k) f out e = out

act_blank : (h : Type 0) (n : ℕ) (x : Machine) (c : Call) → Inv h n x → May h n x c → IsBlank x → IsBlank (act x c)
act_blank h n x (Opens o) inv may w = w
act_blank h n x (Closes o) inv may w = w
act_blank h n x (Clears o) inv may w = w
act_blank h n x (Stores o f i v) inv may w = λ none. absurd (in_none (x.word o).place f (inv.untouched (w none).1 o).0 ((inv.owner o).placed f may.0).0)
act_blank h n x (Begins m o c own) inv may w = stays x (act x (Begins m o c own)) (begin_alike x m o c own (x.word o).place) w
act_blank h n x (Claims m o f) inv may w = claim_blank (x.frame f == 0) x m o f w
act_blank h n x (Fills m f i v) inv may w = had_claimed x (act x (Fills m f i v)) m f (λ j. upd_like (λ (y : Hand). y.claims) x.hand m (filling (x.hand m) i v) j (x.hand j).claims refl refl) may w
act_blank h n x (Arrives m o f own) inv may w = had_claimed x (act x (Arrives m o f own)) m f (arrive_claims own x m o f) may.1 w
act_blank h n x (Unclaims m f) inv may w = had_claimed x (act x (Unclaims m f)) m f (λ j. upd_like (λ (y : Hand). y.claims) x.hand m (unclaiming (x.hand m)) j (x.hand j).claims refl refl) may w
act_blank h n x (Retreats m o) inv may w = stays x (act x (Retreats m o)) (one_hand x (act x (Retreats m o)) m (retreating (x.hand m)) (λ _. refl) refl (λ _ _. refl)) w
act_blank h n x (Marks m o f) inv may w = stays x (act x (Marks m o f)) (mark_alike x m o f (x.word o).place) w
act_blank h n x (Copies m f i) inv may w = stays x (act x (Copies m f i)) (one_hand x (act x (Copies m f i)) m (copying (x.hand m) i (x.cell f i)) (λ _. refl) refl (λ _ _. refl)) w
act_blank h n x (Puts m o y) inv may w = w
act_blank h n x (Commits m o f) inv may w = stays x (act x (Commits m o f)) (commit_alike x m o f (x.word o).place) w
act_blank h n x (Aborts m o f) inv may w = stays x (act x (Aborts m o f)) (one_hand x (act x (Aborts m o f)) m (aborting (x.hand m)) (λ _. refl) refl (λ _ _. refl)) w
act_blank h n x (Leaves m o f) inv may w = stays x (act x (Leaves m o f)) (leave_alike x m o f (x.word o).place) w
act_blank h n x (Releases m f) inv may w = stays x (act x (Releases m f)) (one_hand x (act x (Releases m f)) m (releasing (x.hand m)) (λ _. refl) refl (λ _ _. refl)) w

runs_blank : (h : Type 0) (n : ℕ) (cs : List Call) (x t : Machine) → Runs h n x cs t → Inv h n x → IsBlank x → IsBlank t
runs_blank h n [] x t r inv w = subst IsBlank (sym r) w
runs_blank h n (c ∷ cs) x t r inv w = runs_blank h n cs (act x c) t r.1 (keeps_act h n x c r.0 inv) (act_blank h n x c inv r.0 w)

-- calls led to this machine, and no mover has claimed a frame: then each cell of a frame is 0
pub blank_cells : (h : Type 0) (n : ℕ) (cs : List Call) (t : Machine) → Runs h n opening cs t → ((j : ℕ) → (t.hand j).claims ≡ 0) → (f i : ℕ) → t.cell f i ≡ 0
blank_cells h n cs t r none = (runs_blank h n cs opening t r (opens_well h n) (λ _. (λ _. refl, λ _. refl, λ _ _. refl)) none).2
