-- what a call leaves of what the owners of objects know
use Rattle.std.proofs.Common.{◌≡◌, ◌≢◌, ◌⊎◌, inl, inr, ℕ, ◌-◌, ◌<◌, Bool, true, false, cond, ◌&&◌, Option, Some, None, refl, sym, ap, ◌∙◌, subst, arith, ne_eqb}
use Rattle.std.specs.Prelude.{◌==◌}
use Rattle.pointer_word.specs.Words.{Place, Away, Coming, Here, Leaving, Word, counted, framed}
use Rattle.pointer_word.specs.Hands.{Note, known, opened, closed, writable, told, added}
use Rattle.pointer_word.specs.Machine.{State, after_begin, after_claim, after_mark, after_commit, after_leave, after_arrive}
use Rattle.pointer_word.specs.Calls.{Call, Opens, Closes, Clears, Stores, Begins, Claims, Fills, Arrives, Unclaims, Retreats, Marks, Copies, Puts, Commits, Aborts, Leaves, Releases, told_where, begin_at, mark_at, commit_at, leave_at, act}
use Rattle.pointer_word.specs.Asked.{Asked}
use Rattle.pointer_word.specs.Sound.{Inv}
use Rattle.pointer_word.proofs.Upd.{upd-same, upd-other, same_or}

-- the object whose owner knows something else behind the call
abbrev pub noted : Call → Option ℕ
noted (Opens o) = Some o
noted (Closes o) = Some o
noted (Clears o) = Some o
noted (Stores o f i v) = Some o
noted (Begins m o c own) = cond own (Some o) None
noted (Arrives m o f own) = cond own (Some o) None
noted _ = None

apart : (o v : ℕ) → Some o ≢ Some v → v ≢ o
apart o v d e = d (ap Some (sym e))

cond_note : (b : Bool) (s t u : State) (v : ℕ) → t.note v ≡ s.note v → u.note v ≡ s.note v → (cond b t u).note v ≡ s.note v
cond_note true s t u v e d = e
cond_note false s t u v e d = d

told_note : (own : Bool) (s : State) (o v : ℕ) → cond own (Some o) None ≢ Some v → (told_where own s o).note v ≡ s.note v
told_note true s o v d = upd-other s.note o (told (s.note o) (framed (s.word o).place)) v (apart o v d)
told_note false s o v d = refl

begin_note : (s : State) (m o c : ℕ) (own : Bool) (p : Place) (v : ℕ) → cond own (Some o) None ≢ Some v → (begin_at s m o c own p).note v ≡ s.note v
begin_note s m o c own Away v d = cond_note ((s.word o).count == c) s (after_begin s m o) (told_where own s o) v refl (told_note own s o v d)
begin_note s m o c own (Coming j) v d = told_note own s o v d
begin_note s m o c own (Here g k) v d = told_note own s o v d
begin_note s m o c own (Leaving g j k) v d = told_note own s o v d

mark_note : (s : State) (m o f : ℕ) (p : Place) (v : ℕ) → (mark_at s m o f p).note v ≡ s.note v
mark_note s m o f Away v = refl
mark_note s m o f (Coming j) v = refl
mark_note s m o f (Here g true) v = refl
mark_note s m o f (Here g false) v = cond_note ((g == f) && ((s.word o).count == 0)) s (after_mark s m o f) s v refl refl
mark_note s m o f (Leaving g j k) v = refl

commit_note : (s : State) (m o f : ℕ) (p : Place) (v : ℕ) → (commit_at s m o f p).note v ≡ s.note v
commit_note s m o f Away v = refl
commit_note s m o f (Coming j) v = refl
commit_note s m o f (Here g k) v = refl
commit_note s m o f (Leaving g j false) v = refl
commit_note s m o f (Leaving g j true) v = cond_note ((g == f) && ((j == m) && ((s.word o).count == 0))) s (after_commit s m o f) s v refl refl

leave_note : (s : State) (m o f : ℕ) (p : Place) (v : ℕ) → (leave_at s m o f p).note v ≡ s.note v
leave_note s m o f Away v = refl
leave_note s m o f (Coming j) v = refl
leave_note s m o f (Here g false) v = refl
leave_note s m o f (Here g true) v = cond_note ((g == f) && ((s.word o).count == 0)) s (after_leave s m o f) s v refl refl
leave_note s m o f (Leaving g j k) v = refl

-- what is known of each other object stays
pub note_stays : (s : State) (c : Call) (v : ℕ) → noted c ≢ Some v → (act s c).note v ≡ s.note v
note_stays s (Opens o) v d = upd-other s.note o _ v (apart o v d)
note_stays s (Closes o) v d = upd-other s.note o _ v (apart o v d)
note_stays s (Clears o) v d = upd-other s.note o _ v (apart o v d)
note_stays s (Stores o f i x) v d = upd-other s.note o _ v (apart o v d)
note_stays s (Begins m o c own) v d = begin_note s m o c own (s.word o).place v d
note_stays s (Claims m o f) v d = cond_note (s.frame f == 0) s (after_claim s m o f) s v refl refl
note_stays s (Fills m f i x) v d = refl
note_stays s (Arrives m o f own) v d = told_note own (after_arrive s m o f) o v d
note_stays s (Unclaims m f) v d = refl
note_stays s (Retreats m o) v d = refl
note_stays s (Marks m o f) v d = mark_note s m o f (s.word o).place v
note_stays s (Copies m f i) v d = refl
note_stays s (Puts m o x) v d = refl
note_stays s (Commits m o f) v d = commit_note s m o f (s.word o).place v
note_stays s (Aborts m o f) v d = refl
note_stays s (Leaves m o f) v d = leave_note s m o f (s.word o).place v
note_stays s (Releases m f) v d = refl

none_noted : (own : Bool) (o v : ℕ) → cond own (Some o) None ≡ Some v → (own ≡ true) × (o ≡ v)
none_noted true o v e = (refl, cc)
none_noted false o v e = cc

-- a call that meets what is asked of its caller is of an object of the caller's own
pub noted_own : (owner : ℕ → ℕ) (h : Type 0) (n : ℕ) (s : State) (m : ℕ) (c : Call) (v : ℕ) → Asked owner h n s m c → noted c ≡ Some v → owner v ≡ m
noted_own owner h n s m (Opens o) v k e = let q : o ≡ v = cc in subst (λ i. owner i ≡ m) q k.0
noted_own owner h n s m (Closes o) v k e = let q : o ≡ v = cc in subst (λ i. owner i ≡ m) q k.0
noted_own owner h n s m (Clears o) v k e = let q : o ≡ v = cc in subst (λ i. owner i ≡ m) q k.0
noted_own owner h n s m (Stores o f i x) v k e = let q : o ≡ v = cc in subst (λ i. owner i ≡ m) q k.0
noted_own owner h n s m (Begins j o c own) v k e = let q = none_noted own o v e in subst (λ i. owner i ≡ m) q.1 (k.2 q.0).0
noted_own owner h n s m (Arrives j o f own) v k e = let q = none_noted own o v e in subst (λ i. owner i ≡ m) q.1 (k.1 q.0)
noted_own owner h n s m (Claims j o f) v k e = cc
noted_own owner h n s m (Fills j f i x) v k e = cc
noted_own owner h n s m (Unclaims j f) v k e = cc
noted_own owner h n s m (Retreats j o) v k e = cc
noted_own owner h n s m (Marks j o f) v k e = cc
noted_own owner h n s m (Copies j f i) v k e = cc
noted_own owner h n s m (Puts j o x) v k e = cc
noted_own owner h n s m (Commits j o f) v k e = cc
noted_own owner h n s m (Aborts j o f) v k e = cc
noted_own owner h n s m (Leaves j o f) v k e = cc
noted_own owner h n s m (Releases j f) v k e = cc

-- ---- the frame that an owner was told

-- where a hold is left, the owner who was told a frame is so still, and may write where it might
pub record KeepsTold (s t : State) (v : ℕ) : Type 0 where
  pub frame : known (s.note v).frame ≡ true → 0 < (t.note v).count → known (t.note v).frame ≡ true
  pub writing : known (s.note v).frame ≡ true → 0 < (t.note v).count → (s.note v).writing ≡ true → (t.note v).writing ≡ true

same_told : (s t : State) (v : ℕ) → t.note v ≡ s.note v → KeepsTold s t v
same_told s t v e = record {
  frame = λ k c. ap (λ (y : Note). known y.frame) e ∙ k;
  writing = λ k c w. ap (λ (y : Note). y.writing) e ∙ w;
}

to_told : (s t : State) (v : ℕ) (x : Note) → t.note v ≡ x → (known (s.note v).frame ≡ true → known x.frame ≡ true) → ((s.note v).writing ≡ true → x.writing ≡ true) → KeepsTold s t v
to_told s t v x e f w = record {
  frame = λ k c. ap (λ (y : Note). known y.frame) e ∙ f k;
  writing = λ k c u. ap (λ (y : Note). y.writing) e ∙ w u;
}

known_is : (x : Option ℕ) → known x ≡ true → (i : ℕ) × (x ≡ Some i)
known_is None e = cc
known_is (Some i) e = (i, refl)

still_framed : (h : Type 0) (n : ℕ) (s : State) (o : ℕ) → Inv h n s → known (s.note o).frame ≡ true → known (framed (s.word o).place) ≡ true
still_framed h n s o inv k = let f = known_is (s.note o).frame k in ap known ((inv.owner o).placed f.0 f.1).0

closed_told : (s : State) (o : ℕ) → KeepsTold s (act s (Closes o)) o
closed_told s o =
    let x : Note = s.note o in
    let e : (act s (Closes o)).note o ≡ closed x = upd-same s.note o (closed x) o refl in
    let many : 0 < ((act s (Closes o)).note o).count → (x.count == 1) ≡ false =
    λ c. (let d : ((act s (Closes o)).note o).count ≡ x.count - 1 = ap (λ (y : Note). y.count) e in ne_eqb x.count 1 (λ q. absurd (omega arith))) in
    record {
      frame = λ k c. ap (λ (y : Note). known y.frame) e ∙ (ap (λ (b : Bool). known (cond b None x.frame)) (many c) ∙ k);
      writing = λ k c w. ap (λ (y : Note). y.writing) e ∙ (ap (λ (b : Bool). cond b false x.writing) (many c) ∙ w);
    }

told_told : (h : Type 0) (n : ℕ) (s : State) (o : ℕ) (own : Bool) → Inv h n s → KeepsTold s (told_where own s o) o
told_told h n s o true inv = to_told s (told_where true s o) o (told (s.note o) (framed (s.word o).place)) (upd-same s.note o _ o refl) (still_framed h n s o inv) (λ w. w)
told_told h n s o false inv = same_told s s o refl

begun_cond : (h : Type 0) (n : ℕ) (s : State) (m o : ℕ) (own b : Bool) → Inv h n s → KeepsTold s (cond b (after_begin s m o) (told_where own s o)) o
begun_cond h n s m o own true inv = same_told s (after_begin s m o) o refl
begun_cond h n s m o own false inv = told_told h n s o own inv

begun_told : (h : Type 0) (n : ℕ) (s : State) (m o c : ℕ) (own : Bool) (p : Place) → Inv h n s → KeepsTold s (begin_at s m o c own p) o
begun_told h n s m o c own Away inv = begun_cond h n s m o own ((s.word o).count == c) inv
begun_told h n s m o c own (Coming j) inv = told_told h n s o own inv
begun_told h n s m o c own (Here g k) inv = told_told h n s o own inv
begun_told h n s m o c own (Leaving g j k) inv = told_told h n s o own inv

-- an owner that arrives is told the frame
pub arrived_frame : (s : State) (m o f : ℕ) → known ((act s (Arrives m o f true)).note o).frame ≡ true
arrived_frame s m o f =
    let t : State = after_arrive s m o f in
    let x : Note = told (s.note o) (framed (t.word o).place) in
    let e : (act s (Arrives m o f true)).note o ≡ x = upd-same s.note o x o refl in
    let d : t.word o ≡ counted (s.word o).count (Here f true) = upd-same s.word o _ o refl in
    ap (λ (y : Note). known y.frame) e ∙ ap (λ (w : Word). known (framed w.place)) d

arrived_told : (s : State) (m o f : ℕ) (own : Bool) → KeepsTold s (act s (Arrives m o f own)) o
arrived_told s m o f true =
    let t : State = after_arrive s m o f in
    let x : Note = told (s.note o) (framed (t.word o).place) in
    let e : (act s (Arrives m o f true)).note o ≡ x = upd-same s.note o x o refl in
    record { frame = λ q c. arrived_frame s m o f; writing = λ q c w. ap (λ (y : Note). y.writing) e ∙ w }
arrived_told s m o f false = same_told s (act s (Arrives m o f false)) o refl

-- an owner that clears may write
pub cleared_told : (s : State) (o : ℕ) → known (s.note o).frame ≡ true → ((act s (Clears o)).note o).writing ≡ true
cleared_told s o k = ap (λ (y : Note). y.writing) (upd-same s.note o (writable (s.note o)) o refl) ∙ k

own_told : (h : Type 0) (n : ℕ) (s : State) (c : Call) (o : ℕ) → Inv h n s → noted c ≡ Some o → KeepsTold s (act s c) o
own_told h n s (Opens o) v inv e =
    let q : o ≡ v = cc in
    subst (KeepsTold s (act s (Opens o))) q (to_told s (act s (Opens o)) o (opened (s.note o) (framed (s.word o).place)) (upd-same s.note o _ o refl) (still_framed h n s o inv) (λ w. w))
own_told h n s (Closes o) v inv e = let q : o ≡ v = cc in subst (KeepsTold s (act s (Closes o))) q (closed_told s o)
own_told h n s (Clears o) v inv e =
    let q : o ≡ v = cc in
    let t : State = act s (Clears o) in
    subst (KeepsTold s t) q (record {
      frame = λ k c. ap (λ (y : Note). known y.frame) (upd-same s.note o (writable (s.note o)) o refl) ∙ k;
      writing = λ k c w. cleared_told s o k;
    })
own_told h n s (Stores o f i x) v inv e =
    let q : o ≡ v = cc in
    subst (KeepsTold s (act s (Stores o f i x))) q (to_told s (act s (Stores o f i x)) o (added (s.note o) i x) (upd-same s.note o _ o refl) (λ k. k) (λ w. w))
own_told h n s (Begins m o c own) v inv e = subst (KeepsTold s (act s (Begins m o c own))) (none_noted own o v e).1 (begun_told h n s m o c own (s.word o).place inv)
own_told h n s (Arrives m o f own) v inv e = subst (KeepsTold s (act s (Arrives m o f own))) (none_noted own o v e).1 (arrived_told s m o f own)
own_told h n s (Claims m o f) v inv e = cc
own_told h n s (Fills m f i x) v inv e = cc
own_told h n s (Unclaims m f) v inv e = cc
own_told h n s (Retreats m o) v inv e = cc
own_told h n s (Marks m o f) v inv e = cc
own_told h n s (Copies m f i) v inv e = cc
own_told h n s (Puts m o x) v inv e = cc
own_told h n s (Commits m o f) v inv e = cc
own_told h n s (Aborts m o f) v inv e = cc
own_told h n s (Leaves m o f) v inv e = cc
own_told h n s (Releases m f) v inv e = cc

some_or : (x : Option ℕ) (v : ℕ) → (x ≡ Some v) ⊎ (x ≢ Some v)
some_or None v = inr (λ e. cc)
some_or (Some o) v = elim (same_or o v) [ inl e ↦ inl (ap Some e) | inr d ↦ inr (λ e. d cc) ]

pub keeps_told : (h : Type 0) (n : ℕ) (s : State) (c : Call) (v : ℕ) → Inv h n s → KeepsTold s (act s c) v
keeps_told h n s c v inv = elim (some_or (noted c) v) [ inl e ↦ own_told h n s c v inv e | inr d ↦ same_told s (act s c) v (note_stays s c v d) ]
