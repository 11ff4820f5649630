-- what a call leaves of the latest stores: only a store changes them
use Rattle.std.proofs.Common.{◌≡◌, inl, inr, ℕ, Bool, true, false, cond, ◌&&◌, List, [], ◌∷◌, ◌++◌, refl, sym, ap, ◌∙◌}
use Rattle.std.specs.Prelude.{◌==◌}
use Rattle.pointer_word.specs.Words.{Place, Away, Coming, Here, Leaving, framed}
use Rattle.pointer_word.specs.Hands.{Note, upd, latest_of, opened, closed, writable, told, added}
use Rattle.pointer_word.specs.Machine.{State, latest, after_begin, after_claim, after_mark, after_commit, after_leave, after_arrive}
use Rattle.pointer_word.specs.Calls.{Call, Opens, Closes, Clears, Stores, Begins, Claims, Fills, Arrives, Unclaims, Retreats, Marks, Copies, Puts, Commits, Aborts, Leaves, Releases, told_where, begin_at, mark_at, commit_at, leave_at, act}
use Rattle.pointer_word.proofs.Upd.{upd-same, upd-other, upd_like, same_or}
use Rattle.pointer_word.proofs.Owning.{latest_here, latest_else}

-- a call that is no store
abbrev pub is_store : Call → Bool
is_store (Stores o f i v) = true
is_store _ = false

abbrev past : State → ℕ → List (ℕ × ℕ)
past s o = (s.note o).history

noted : (s : State) (v : ℕ) (x : Note) (o : ℕ) → x.history ≡ (s.note v).history → (upd s.note v x o).history ≡ past s o
noted s v x o e = upd_like (λ (y : Note). y.history) s.note v x o (past s o) e refl

told_past : (own : Bool) (s : State) (v o : ℕ) → past (told_where own s v) o ≡ past s o
told_past true s v o = noted s v (told (s.note v) (framed (s.word v).place)) o refl
told_past false s v o = refl

cond_past : (b : Bool) (t u s : State) (o : ℕ) → past t o ≡ past s o → past u o ≡ past s o → past (cond b t u) o ≡ past s o
cond_past true t u s o e d = e
cond_past false t u s o e d = d

begin_past : (s : State) (m v c : ℕ) (own : Bool) (p : Place) (o : ℕ) → past (begin_at s m v c own p) o ≡ past s o
begin_past s m v c own Away o = cond_past ((s.word v).count == c) (after_begin s m v) (told_where own s v) s o refl (told_past own s v o)
begin_past s m v c own (Coming j) o = told_past own s v o
begin_past s m v c own (Here g k) o = told_past own s v o
begin_past s m v c own (Leaving g j k) o = told_past own s v o

mark_past : (s : State) (m v f : ℕ) (p : Place) (o : ℕ) → past (mark_at s m v f p) o ≡ past s o
mark_past s m v f Away o = refl
mark_past s m v f (Coming j) o = refl
mark_past s m v f (Here g true) o = refl
mark_past s m v f (Here g false) o = cond_past ((g == f) && ((s.word v).count == 0)) (after_mark s m v f) s s o refl refl
mark_past s m v f (Leaving g j k) o = refl

commit_past : (s : State) (m v f : ℕ) (p : Place) (o : ℕ) → past (commit_at s m v f p) o ≡ past s o
commit_past s m v f Away o = refl
commit_past s m v f (Coming j) o = refl
commit_past s m v f (Here g k) o = refl
commit_past s m v f (Leaving g j false) o = refl
commit_past s m v f (Leaving g j true) o = cond_past ((g == f) && ((j == m) && ((s.word v).count == 0))) (after_commit s m v f) s s o refl refl

leave_past : (s : State) (m v f : ℕ) (p : Place) (o : ℕ) → past (leave_at s m v f p) o ≡ past s o
leave_past s m v f Away o = refl
leave_past s m v f (Coming j) o = refl
leave_past s m v f (Here g false) o = refl
leave_past s m v f (Here g true) o = cond_past ((g == f) && ((s.word v).count == 0)) (after_leave s m v f) s s o refl refl
leave_past s m v f (Leaving g j k) o = refl

keeps_past : (s : State) (c : Call) (o : ℕ) → is_store c ≡ false → past (act s c) o ≡ past s o
keeps_past s (Opens v) o e = noted s v (opened (s.note v) (framed (s.word v).place)) o refl
keeps_past s (Closes v) o e = noted s v (closed (s.note v)) o refl
keeps_past s (Clears v) o e = noted s v (writable (s.note v)) o refl
keeps_past s (Stores v f i a) o e = cc
keeps_past s (Begins m v c own) o e = begin_past s m v c own (s.word v).place o
keeps_past s (Claims m v f) o e = cond_past (s.frame f == 0) (after_claim s m v f) s s o refl refl
keeps_past s (Fills m f i v) o e = refl
keeps_past s (Arrives m v f own) o e = told_past own (after_arrive s m v f) v o
keeps_past s (Unclaims m f) o e = refl
keeps_past s (Retreats m v) o e = refl
keeps_past s (Marks m v f) o e = mark_past s m v f (s.word v).place o
keeps_past s (Copies m f i) o e = refl
keeps_past s (Puts m v x) o e = refl
keeps_past s (Commits m v f) o e = commit_past s m v f (s.word v).place o
keeps_past s (Aborts m v f) o e = refl
keeps_past s (Leaves m v f) o e = leave_past s m v f (s.word v).place o
keeps_past s (Releases m f) o e = refl

pub keeps_latest : (s : State) (c : Call) → is_store c ≡ false → (o i : ℕ) → latest (act s c) o i ≡ latest s o i
keeps_latest s c e o i = ap (λ (l : List (ℕ × ℕ)). latest_of l i) (keeps_past s c o e)

-- a store is the latest at its object and index
pub stores_latest : (s : State) (o f i v p j : ℕ) → latest (act s (Stores o f i v)) p j ≡ upd (latest s) o (upd (latest s o) i v) p j
stores_latest s o f i v p j = elim (same_or p o) [
  | inl e ↦
      let row : latest (act s (Stores o f i v)) p j ≡ latest_of ((s.note o).history ++ (i, v) ∷ []) j = ap (λ (y : Note). latest_of y.history j) (upd-same s.note o (added (s.note o) i v) p e) in
      let want : upd (latest s) o (upd (latest s o) i v) p j ≡ upd (latest s o) i v j = ap (λ (f : ℕ → ℕ). f j) (upd-same (latest s) o (upd (latest s o) i v) p e) in
      elim (same_or j i) [
        | inl d ↦ row ∙ (latest_here (s.note o).history i v j d ∙ sym (want ∙ upd-same (latest s o) i v j d))
        | inr d ↦ row ∙ (latest_else (s.note o).history i v j d ∙ sym (want ∙ upd-other (latest s o) i v j d))
      ]
  | inr e ↦ ap (λ (y : Note). latest_of y.history j) (upd-other s.note o (added (s.note o) i v) p e) ∙ sym (ap (λ (f : ℕ → ℕ). f j) (upd-other (latest s) o (upd (latest s o) i v) p e))
]
