-- what a call leaves of the holds that are counted: only opens and closes change them
use Rattle.std.proofs.Common.{◌≡◌, ◌≢◌, inl, inr, ℕ, zero, suc, ◌+◌, ◌-◌, ◌<◌, Bool, true, false, cond, ◌&&◌, List, [], ◌∷◌, length, Option, Some, None, refl, sym, ap, subst, arith, eq-eqb, ne_eqb}
use Rattle.std.specs.Prelude.{◌==◌, slice_set}
use Rattle.pointer_word.specs.Words.{Place, Away, Coming, Here, Leaving, framed}
use Rattle.pointer_word.specs.Hands.{Note, upd, opened, closed, writable, told, added}
use Rattle.pointer_word.specs.Machine.{State, after_begin, after_claim, after_mark, after_commit, after_leave, after_arrive}
use Rattle.pointer_word.specs.Calls.{Call, Opens, Closes, Clears, Stores, Begins, Claims, Fills, Arrives, Unclaims, Retreats, Marks, Copies, Puts, Commits, Aborts, Leaves, Releases, told_where, begin_at, mark_at, commit_at, leave_at, act}
use Rattle.pointer_word.proofs.Upd.{upd-same, upd-other, upd_like, same_or}
use Rattle.world_semantics.specs.Programs.{Hold, hold_at, first_hold, behind}
use Rattle.world_semantics.specs.Holding.{one, count_of}

-- a call that opens or closes a hold
abbrev pub is_counting : Call → Bool
is_counting (Opens o) = true
is_counting (Closes o) = true
is_counting _ = false

abbrev holds : State → ℕ → ℕ
holds s o = (s.note o).count

noted : (s : State) (v : ℕ) (x : Note) (o : ℕ) → x.count ≡ (s.note v).count → (upd s.note v x o).count ≡ holds s o
noted s v x o e = upd_like (λ (y : Note). y.count) s.note v x o (holds s o) e refl

told_holds : (own : Bool) (s : State) (v o : ℕ) → holds (told_where own s v) o ≡ holds s o
told_holds true s v o = noted s v (told (s.note v) (framed (s.word v).place)) o refl
told_holds false s v o = refl

cond_holds : (b : Bool) (t u s : State) (o : ℕ) → holds t o ≡ holds s o → holds u o ≡ holds s o → holds (cond b t u) o ≡ holds s o
cond_holds true t u s o e d = e
cond_holds false t u s o e d = d

begin_holds : (s : State) (m v c : ℕ) (own : Bool) (p : Place) (o : ℕ) → holds (begin_at s m v c own p) o ≡ holds s o
begin_holds s m v c own Away o = cond_holds ((s.word v).count == c) (after_begin s m v) (told_where own s v) s o refl (told_holds own s v o)
begin_holds s m v c own (Coming j) o = told_holds own s v o
begin_holds s m v c own (Here g k) o = told_holds own s v o
begin_holds s m v c own (Leaving g j k) o = told_holds own s v o

mark_holds : (s : State) (m v f : ℕ) (p : Place) (o : ℕ) → holds (mark_at s m v f p) o ≡ holds s o
mark_holds s m v f Away o = refl
mark_holds s m v f (Coming j) o = refl
mark_holds s m v f (Here g true) o = refl
mark_holds s m v f (Here g false) o = cond_holds ((g == f) && ((s.word v).count == 0)) (after_mark s m v f) s s o refl refl
mark_holds s m v f (Leaving g j k) o = refl

commit_holds : (s : State) (m v f : ℕ) (p : Place) (o : ℕ) → holds (commit_at s m v f p) o ≡ holds s o
commit_holds s m v f Away o = refl
commit_holds s m v f (Coming j) o = refl
commit_holds s m v f (Here g k) o = refl
commit_holds s m v f (Leaving g j false) o = refl
commit_holds s m v f (Leaving g j true) o = cond_holds ((g == f) && ((j == m) && ((s.word v).count == 0))) (after_commit s m v f) s s o refl refl

leave_holds : (s : State) (m v f : ℕ) (p : Place) (o : ℕ) → holds (leave_at s m v f p) o ≡ holds s o
leave_holds s m v f Away o = refl
leave_holds s m v f (Coming j) o = refl
leave_holds s m v f (Here g false) o = refl
leave_holds s m v f (Here g true) o = cond_holds ((g == f) && ((s.word v).count == 0)) (after_leave s m v f) s s o refl refl
leave_holds s m v f (Leaving g j k) o = refl

pub keeps_count : (s : State) (c : Call) → is_counting c ≡ false → (o : ℕ) → ((act s c).note o).count ≡ (s.note o).count
keeps_count s (Opens v) e o = cc
keeps_count s (Closes v) e o = cc
keeps_count s (Clears v) e o = noted s v (writable (s.note v)) o refl
keeps_count s (Stores v f i a) e o = noted s v (added (s.note v) i a) o refl
keeps_count s (Begins m v c own) e o = begin_holds s m v c own (s.word v).place o
keeps_count s (Claims m v f) e o = cond_holds (s.frame f == 0) (after_claim s m v f) s s o refl refl
keeps_count s (Fills m f i v) e o = refl
keeps_count s (Arrives m v f own) e o = told_holds own (after_arrive s m v f) v o
keeps_count s (Unclaims m f) e o = refl
keeps_count s (Retreats m v) e o = refl
keeps_count s (Marks m v f) e o = mark_holds s m v f (s.word v).place o
keeps_count s (Copies m f i) e o = refl
keeps_count s (Puts m v x) e o = refl
keeps_count s (Commits m v f) e o = commit_holds s m v f (s.word v).place o
keeps_count s (Aborts m v f) e o = refl
keeps_count s (Leaves m v f) e o = leave_holds s m v f (s.word v).place o
keeps_count s (Releases m f) e o = refl

pub one_same : (h : Hold) (v : ℕ) → v ≡ h.object → one v (Some h) ≡ 1
one_same h v e = ap (λ (b : Bool). cond b 1 0) (eq-eqb h.object v (sym e))

pub one_other : (h : Hold) (v : ℕ) → v ≢ h.object → one v (Some h) ≡ 0
one_other h v d = ap (λ (b : Bool). cond b 1 0) (ne_eqb h.object v (λ e. d (sym e)))

pub opens_count : (s : State) (h : Hold) (v : ℕ) → ((act s (Opens h.object)).note v).count ≡ (s.note v).count + one v (Some h)
opens_count s h v = elim (same_or v h.object) [
  | inl e ↦
      let a : ((act s (Opens h.object)).note v).count ≡ (s.note h.object).count + 1 = ap (λ (y : Note). y.count) (upd-same s.note h.object (opened (s.note h.object) (framed (s.word h.object).place)) v e) in
      let b : (s.note h.object).count ≡ (s.note v).count = ap (λ o. (s.note o).count) (sym e) in
      let c : one v (Some h) ≡ 1 = one_same h v e in
      omega arith
  | inr d ↦
      let a : ((act s (Opens h.object)).note v).count ≡ (s.note v).count = ap (λ (y : Note). y.count) (upd-other s.note h.object (opened (s.note h.object) (framed (s.word h.object).place)) v d) in
      let c : one v (Some h) ≡ 0 = one_other h v d in
      omega arith
]

pub closes_count : (s : State) (h : Hold) (v : ℕ) → ((act s (Closes h.object)).note v).count ≡ (s.note v).count - one v (Some h)
closes_count s h v = elim (same_or v h.object) [
  | inl e ↦
      let a : ((act s (Closes h.object)).note v).count ≡ (s.note h.object).count - 1 = ap (λ (y : Note). y.count) (upd-same s.note h.object (closed (s.note h.object)) v e) in
      let b : (s.note h.object).count ≡ (s.note v).count = ap (λ o. (s.note o).count) (sym e) in
      let c : one v (Some h) ≡ 1 = one_same h v e in
      omega arith
  | inr d ↦
      let a : ((act s (Closes h.object)).note v).count ≡ (s.note v).count = ap (λ (y : Note). y.count) (upd-other s.note h.object (closed (s.note h.object)) v d) in
      let c : one v (Some h) ≡ 0 = one_other h v d in
      omega arith
]

-- ---- scopes

pub count_set : (o : ℕ) (hs : List (Option Hold)) (k : ℕ) (h : Option Hold) → k < length hs → count_of o (slice_set hs k h) + one o (hold_at hs k) ≡ count_of o hs + one o h
count_set o [] k h l = absurd (omega arith)
count_set o (x ∷ hs) zero h l = omega arith
count_set o (x ∷ hs) (suc k) h l = let r : count_of o (slice_set hs k h) + one o (hold_at hs k) ≡ count_of o hs + one o h = count_set o hs k h (omega arith) in omega arith

pub hold_there : (hs : List (Option Hold)) (k : ℕ) (h : Hold) → hold_at hs k ≡ Some h → k < length hs
hold_there [] k h e = cc
hold_there (x ∷ hs) zero h e = omega arith
hold_there (x ∷ hs) (suc k) h e = let r : k < length hs = hold_there hs k h e in omega arith

first_behind : (x : Option (ℕ × Hold)) (hs : List (Option Hold)) → ((r : ℕ × Hold) → x ≡ Some r → hold_at hs r.0 ≡ Some r.1) → (q : ℕ × Hold) → behind x ≡ Some q → hold_at (None ∷ hs) q.0 ≡ Some q.1
first_behind None hs rest q e = cc
first_behind (Some r) hs rest q e =
    let same : (suc r.0, r.1) ≡ q = (let k : Some (suc r.0, r.1) ≡ Some q = e in cc) in
    subst (λ (z : ℕ × Hold). hold_at (None ∷ hs) z.0 ≡ Some z.1) same (rest r refl)

pub first_at : (hs : List (Option Hold)) (q : ℕ × Hold) → first_hold hs ≡ Some q → hold_at hs q.0 ≡ Some q.1
first_at [] q e = cc
first_at (None ∷ hs) q e = first_behind (first_hold hs) hs (first_at hs) q e
first_at (Some h ∷ hs) q e =
    let same : (0, h) ≡ q = (let k : Some (0, h) ≡ Some q = e in cc) in
    subst (λ (z : ℕ × Hold). hold_at (Some h ∷ hs) z.0 ≡ Some z.1) same refl
