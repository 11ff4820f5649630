-- an object's history is the list of what was stored in it
use Rattle.std.proofs.Common.{◌≡◌, inl, inr, ℕ, Bool, true, false, cond, ◌&&◌, List, [], ◌∷◌, ◌++◌, refl, sym, ap, ◌∙◌, eq-eqb, ne_eqb}
use Rattle.std.specs.Prelude.{◌==◌}
use Rattle.std.proofs.lemmas.List.{append-nil, append_assoc}
use Rattle.pointer_word.specs.Words.{Place, Away, Coming, Here, Leaving, framed}
use Rattle.pointer_word.specs.Hands.{Note, upd, opened, closed, writable, told, added}
use Rattle.pointer_word.specs.Machine.{State, opening, after_arrive, after_begin, after_mark, after_commit, after_leave, after_claim}
use Rattle.pointer_word.specs.Calls.{Call, Opens, Closes, Clears, Stores, Begins, Claims, Fills, Arrives, Unclaims, Retreats, Marks, Copies, Puts, Commits, Aborts, Leaves, Releases, told_where, begin_at, mark_at, commit_at, leave_at, act, Runs, stored}
use Rattle.pointer_word.proofs.Upd.{same_or, upd-same, upd-other, upd_like}

abbrev past : State → ℕ → List (ℕ × ℕ)
past s o = (s.note o).history

-- a note that keeps its history
noted : (s : State) (v : ℕ) (x : Note) (o : ℕ) → x.history ≡ (s.note v).history → (upd s.note v x o).history ≡ past s o
noted s v x o e = upd_like (λ (y : Note). y.history) s.note v x o (past s o) e refl

told_past : (own : Bool) (s : State) (v o : ℕ) → past (told_where own s v) o ≡ past s o
told_past true s v o = noted s v (told (s.note v) (framed (s.word v).place)) o refl
told_past false s v o = refl

cond_past : (b : Bool) (t u s : State) (o : ℕ) → past t o ≡ past s o → past u o ≡ past s o → past (cond b t u) o ≡ past s o
cond_past true t u s o e d = e
cond_past false t u s o e d = d

begin_past : (s : State) (m v c : ℕ) (own : Bool) (p : Place) (o : ℕ) → past (begin_at s m v c own p) o ≡ past s o
begin_past s m v c own Away o = cond_past ((s.word v).count == c) (after_begin s m v) (told_where own s v) s o refl (told_past own s v o)
begin_past s m v c own (Coming j) o = told_past own s v o
begin_past s m v c own (Here g k) o = told_past own s v o
begin_past s m v c own (Leaving g j k) o = told_past own s v o

mark_past : (s : State) (m v f : ℕ) (p : Place) (o : ℕ) → past (mark_at s m v f p) o ≡ past s o
mark_past s m v f Away o = refl
mark_past s m v f (Coming j) o = refl
mark_past s m v f (Here g true) o = refl
mark_past s m v f (Here g false) o = cond_past ((g == f) && ((s.word v).count == 0)) (after_mark s m v f) s s o refl refl
mark_past s m v f (Leaving g j k) o = refl

commit_past : (s : State) (m v f : ℕ) (p : Place) (o : ℕ) → past (commit_at s m v f p) o ≡ past s o
commit_past s m v f Away o = refl
commit_past s m v f (Coming j) o = refl
commit_past s m v f (Here g k) o = refl
commit_past s m v f (Leaving g j false) o = refl
commit_past s m v f (Leaving g j true) o = cond_past ((g == f) && ((j == m) && ((s.word v).count == 0))) (after_commit s m v f) s s o refl refl

leave_past : (s : State) (m v f : ℕ) (p : Place) (o : ℕ) → past (leave_at s m v f p) o ≡ past s o
leave_past s m v f Away o = refl
leave_past s m v f (Coming j) o = refl
leave_past s m v f (Here g false) o = refl
leave_past s m v f (Here g true) o = cond_past ((g == f) && ((s.word v).count == 0)) (after_leave s m v f) s s o refl refl
leave_past s m v f (Leaving g j k) o = refl

-- a call adds what it stores
adds : (s : State) (c : Call) (o : ℕ) → past (act s c) o ≡ past s o ++ stored o (c ∷ [])
adds s (Opens v) o = noted s v (opened (s.note v) (framed (s.word v).place)) o refl ∙ sym (append-nil (past s o))
adds s (Closes v) o = noted s v (closed (s.note v)) o refl ∙ sym (append-nil (past s o))
adds s (Clears v) o = noted s v (writable (s.note v)) o refl ∙ sym (append-nil (past s o))
adds s (Stores v f i a) o = elim (same_or o v) [
  | inl q ↦ ap (λ (y : Note). y.history) (upd-same s.note v (added (s.note v) i a) o q) ∙ (ap (λ (j : ℕ). past s j ++ (i, a) ∷ []) (sym q) ∙ ap (λ (b : Bool). past s o ++ cond b ((i, a) ∷ []) []) (sym (eq-eqb o v q)))
  | inr d ↦ ap (λ (y : Note). y.history) (upd-other s.note v (added (s.note v) i a) o d) ∙ (sym (append-nil (past s o)) ∙ ap (λ (b : Bool). past s o ++ cond b ((i, a) ∷ []) []) (sym (ne_eqb o v d)))
]
adds s (Begins m v c own) o = begin_past s m v c own (s.word v).place o ∙ sym (append-nil (past s o))
adds s (Claims m v f) o = cond_past (s.frame f == 0) (after_claim s m v f) s s o refl refl ∙ sym (append-nil (past s o))
adds s (Fills m f i a) o = sym (append-nil (past s o))
adds s (Arrives m v f own) o = told_past own (after_arrive s m v f) v o ∙ sym (append-nil (past s o))
adds s (Unclaims m f) o = sym (append-nil (past s o))
adds s (Retreats m v) o = sym (append-nil (past s o))
adds s (Marks m v f) o = mark_past s m v f (s.word v).place o ∙ sym (append-nil (past s o))
adds s (Copies m f i) o = sym (append-nil (past s o))
adds s (Puts m v x) o = sym (append-nil (past s o))
adds s (Commits m v f) o = commit_past s m v f (s.word v).place o ∙ sym (append-nil (past s o))
adds s (Aborts m v f) o = sym (append-nil (past s o))
adds s (Leaves m v f) o = leave_past s m v f (s.word v).place o ∙ sym (append-nil (past s o))
adds s (Releases m f) o = sym (append-nil (past s o))

cond_on : (b : Bool) (p : ℕ × ℕ) (xs : List (ℕ × ℕ)) → cond b (p ∷ xs) xs ≡ cond b (p ∷ []) [] ++ xs
cond_on true p xs = refl
cond_on false p xs = refl

stored_on : (o : ℕ) (c : Call) (cs : List Call) → stored o (c ∷ cs) ≡ stored o (c ∷ []) ++ stored o cs
stored_on o (Opens v) cs = refl
stored_on o (Closes v) cs = refl
stored_on o (Clears v) cs = refl
stored_on o (Stores v f i a) cs = cond_on (o == v) (i, a) (stored o cs)
stored_on o (Begins m v c own) cs = refl
stored_on o (Claims m v f) cs = refl
stored_on o (Fills m f i a) cs = refl
stored_on o (Arrives m v f own) cs = refl
stored_on o (Unclaims m f) cs = refl
stored_on o (Retreats m v) cs = refl
stored_on o (Marks m v f) cs = refl
stored_on o (Copies m f i) cs = refl
stored_on o (Puts m v x) cs = refl
stored_on o (Commits m v f) cs = refl
stored_on o (Aborts m v f) cs = refl
stored_on o (Leaves m v f) cs = refl
stored_on o (Releases m f) cs = refl

runs_add : (h : Type 0) (n : ℕ) (cs : List Call) (s t : State) (o : ℕ) → Runs h n s cs t → past t o ≡ past s o ++ stored o cs
runs_add h n [] s t o r = ap (λ (u : State). past u o) r ∙ sym (append-nil (past s o))
runs_add h n (c ∷ cs) s t o r = runs_add h n cs (act s c) t o r.1 ∙ (ap (λ (xs : List (ℕ × ℕ)). xs ++ stored o cs) (adds s c o)
    ∙ (append_assoc (past s o) (stored o (c ∷ [])) (stored o cs) ∙ ap (λ (xs : List (ℕ × ℕ)). past s o ++ xs) (sym (stored_on o c cs))))

pub history_is : (h : Type 0) (n : ℕ) (cs : List Call) (t : State) → Runs h n opening cs t → (o : ℕ) → (t.note o).history ≡ stored o cs
history_is h n cs t r o = runs_add h n cs opening t o r
