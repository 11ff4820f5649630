-- The past of a hand, and of an object's note, is what its seat did by the calls that led here.
use Rattle.std.proofs.Common.{◌≡◌, inl, inr, ℕ, Bool, true, false, cond, ◌&&◌, List, [], ◌∷◌, ◌++◌, refl, sym, ap, ◌∙◌, eq-eqb, ne_eqb}
use Rattle.std.specs.Prelude.{◌==◌}
use Rattle.std.proofs.lemmas.List.{append-nil, append_assoc}
use Rattle.pointer_word.specs.Words.{Place, Away, Coming, Here, Leaving, framed}
use Rattle.pointer_word.specs.Hands.{Hand, Note, Move, Began, Claimed, Arrived, Unclaimed, Retreated, Marked, Committed, Aborted, Left, Released, Use, Held, LetGo, ToWrite, Stored, upd, opened, closed, writable, told, added, bringing, claiming, filling, arriving, unclaiming, retreating, marking, copying, committing, aborting, leaving, releasing}
use Rattle.pointer_word.specs.Machine.{State, opening, content, content_or, after_arrive, after_begin, after_mark, after_commit, after_leave, after_claim}
use Rattle.pointer_word.specs.Calls.{Call, Opens, Closes, Clears, Stores, Begins, Claims, Fills, Arrives, Unclaims, Retreats, Marks, Copies, Puts, Commits, Aborts, Leaves, Releases, told_where, begin_at, mark_at, commit_at, leave_at, act, Runs}
use Rattle.pointer_word.specs.Pasts.{done, begun, marked, committed, left, deed, is_by, moves, use_of, uses}
use Rattle.pointer_word.proofs.Upd.{same_or, upd-same, upd-other, upd_like}

abbrev past : State → ℕ → List Move
past s m = (s.hand m).past

none_either : (b : Bool) → Path (List Move) (cond b [] []) []
none_either true = refl
none_either false = refl

-- the hand j did this
grows : (s : State) (j : ℕ) (x : Hand) (d : Move) (m : ℕ) → x.past ≡ past s j ++ d ∷ [] → (upd s.hand j x m).past ≡ past s m ++ cond (m == j) (d ∷ []) []
grows s j x d m e = elim (same_or m j) [
  | inl q ↦ ap (λ (y : Hand). y.past) (upd-same s.hand j x m q) ∙ (e ∙ (ap (λ (k : ℕ). past s k ++ d ∷ []) (sym q) ∙ ap (λ (b : Bool). past s m ++ cond b (d ∷ []) []) (sym (eq-eqb m j q))))
  | inr n ↦ ap (λ (y : Hand). y.past) (upd-other s.hand j x m n) ∙ (sym (append-nil (past s m)) ∙ ap (λ (b : Bool). past s m ++ cond b (d ∷ []) []) (sym (ne_eqb m j n)))
]

-- the hand j did nothing
stays : (s : State) (b : Bool) (m : ℕ) → past s m ≡ past s m ++ cond b [] []
stays s b m = sym (append-nil (past s m)) ∙ ap (λ (l : List Move). past s m ++ l) (sym (none_either b))

-- a hand with the same past
kept : (s : State) (j : ℕ) (x : Hand) (m : ℕ) → x.past ≡ past s j → (upd s.hand j x m).past ≡ past s m ++ cond (m == j) [] []
kept s j x m e = upd_like (λ (y : Hand). y.past) s.hand j x m (past s m) e refl ∙ stays s (m == j) m

told_past : (own : Bool) (s : State) (o m : ℕ) → past (told_where own s o) m ≡ past s m
told_past true s o m = refl
told_past false s o m = refl

-- a try
tried : (b : Bool) (t u s : State) (j m : ℕ) (d : Move) → past t m ≡ past s m ++ cond (m == j) (d ∷ []) [] → past u m ≡ past s m → past (cond b t u) m ≡ past s m ++ cond (m == j) (done b d) []
tried true t u s j m d hit miss = hit
tried false t u s j m d hit miss = miss ∙ stays s (m == j) m

refused : (own : Bool) (s : State) (o j m : ℕ) → past (told_where own s o) m ≡ past s m ++ cond (m == j) [] []
refused own s o j m = told_past own s o m ∙ stays s (m == j) m

begin_did : (s : State) (j o c : ℕ) (own : Bool) (p : Place) (m : ℕ) → past (begin_at s j o c own p) m ≡ past s m ++ cond (m == j) (begun s o c p) []
begin_did s j o c own Away m = tried ((s.word o).count == c) (after_begin s j o) (told_where own s o) s j m (Began o) (grows s j (bringing (s.hand j) o (content_or (content (s.far o)))) (Began o) m refl) (told_past own s o m)
begin_did s j o c own (Coming k) m = refused own s o j m
begin_did s j o c own (Here g k) m = refused own s o j m
begin_did s j o c own (Leaving g i k) m = refused own s o j m

mark_did : (s : State) (j o f : ℕ) (p : Place) (m : ℕ) → past (mark_at s j o f p) m ≡ past s m ++ cond (m == j) (marked s o f p) []
mark_did s j o f Away m = stays s (m == j) m
mark_did s j o f (Coming k) m = stays s (m == j) m
mark_did s j o f (Here g true) m = stays s (m == j) m
mark_did s j o f (Here g false) m = tried ((g == f) && ((s.word o).count == 0)) (after_mark s j o f) s s j m (Marked o f) (grows s j (marking (s.hand j) o f) (Marked o f) m refl) refl
mark_did s j o f (Leaving g i k) m = stays s (m == j) m

commit_did : (s : State) (j o f : ℕ) (p : Place) (m : ℕ) → past (commit_at s j o f p) m ≡ past s m ++ cond (m == j) (committed s j o f p) []
commit_did s j o f Away m = stays s (m == j) m
commit_did s j o f (Coming k) m = stays s (m == j) m
commit_did s j o f (Here g k) m = stays s (m == j) m
commit_did s j o f (Leaving g i false) m = stays s (m == j) m
commit_did s j o f (Leaving g i true) m = tried ((g == f) && ((i == j) && ((s.word o).count == 0))) (after_commit s j o f) s s j m (Committed f) (grows s j (committing (s.hand j) f) (Committed f) m refl) refl

leave_did : (s : State) (j o f : ℕ) (p : Place) (m : ℕ) → past (leave_at s j o f p) m ≡ past s m ++ cond (m == j) (left s o f p) []
leave_did s j o f Away m = stays s (m == j) m
leave_did s j o f (Coming k) m = stays s (m == j) m
leave_did s j o f (Here g false) m = stays s (m == j) m
leave_did s j o f (Here g true) m = tried ((g == f) && ((s.word o).count == 0)) (after_leave s j o f) s s j m (Left f) (grows s j (leaving (s.hand j) f) (Left f) m refl) refl
leave_did s j o f (Leaving g i k) m = stays s (m == j) m

-- a call adds what its mover did by it
did : (s : State) (c : Call) (m : ℕ) → past (act s c) m ≡ past s m ++ cond (is_by m c) (deed s c) []
did s (Opens o) m = sym (append-nil (past s m))
did s (Closes o) m = sym (append-nil (past s m))
did s (Clears o) m = sym (append-nil (past s m))
did s (Stores o f i v) m = sym (append-nil (past s m))
did s (Begins j o c own) m = begin_did s j o c own (s.word o).place m
did s (Claims j o f) m = tried (s.frame f == 0) (after_claim s j o f) s s j m (Claimed f) (grows s j (claiming (s.hand j) f) (Claimed f) m refl) refl
did s (Fills j f i v) m = kept s j (filling (s.hand j) i v) m refl
did s (Arrives j o f own) m = told_past own (after_arrive s j o f) o m ∙ grows s j (arriving (s.hand j)) Arrived m refl
did s (Unclaims j f) m = grows s j (unclaiming (s.hand j)) Unclaimed m refl
did s (Retreats j o) m = grows s j (retreating (s.hand j)) Retreated m refl
did s (Marks j o f) m = mark_did s j o f (s.word o).place m
did s (Copies j f i) m = kept s j (copying (s.hand j) i (s.cell f i)) m refl
did s (Puts j o x) m = stays s (m == j) m
did s (Commits j o f) m = commit_did s j o f (s.word o).place m
did s (Aborts j o f) m = grows s j (aborting (s.hand j)) Aborted m refl
did s (Leaves j o f) m = leave_did s j o f (s.word o).place m
did s (Releases j f) m = grows s j (releasing (s.hand j)) Released m refl

runs_move : (h : Type 0) (n : ℕ) (cs : List Call) (s t : State) (m : ℕ) → Runs h n s cs t → past t m ≡ past s m ++ moves m s cs
runs_move h n [] s t m r = ap (λ (u : State). past u m) r ∙ sym (append-nil (past s m))
runs_move h n (c ∷ cs) s t m r = runs_move h n cs (act s c) t m r.1 ∙ (ap (λ (xs : List Move). xs ++ moves m (act s c) cs) (did s c m) ∙ append_assoc (past s m) (cond (is_by m c) (deed s c) []) (moves m (act s c) cs))

pub moves_are : (h : Type 0) (n : ℕ) (cs : List Call) (t : State) → Runs h n opening cs t → (m : ℕ) → (t.hand m).past ≡ moves m opening cs
moves_are h n cs t r m = runs_move h n cs opening t m r

abbrev used : State → ℕ → List Use
used s o = (s.note o).past

-- the note v has this use more
more : (s : State) (v : ℕ) (x : Note) (u : Use) (o : ℕ) → x.past ≡ used s v ++ u ∷ [] → (upd s.note v x o).past ≡ used s o ++ cond (o == v) (u ∷ []) []
more s v x u o e = elim (same_or o v) [
  | inl q ↦ ap (λ (y : Note). y.past) (upd-same s.note v x o q) ∙ (e ∙ (ap (λ (k : ℕ). used s k ++ u ∷ []) (sym q) ∙ ap (λ (b : Bool). used s o ++ cond b (u ∷ []) []) (sym (eq-eqb o v q))))
  | inr n ↦ ap (λ (y : Note). y.past) (upd-other s.note v x o n) ∙ (sym (append-nil (used s o)) ∙ ap (λ (b : Bool). used s o ++ cond b (u ∷ []) []) (sym (ne_eqb o v n)))
]

told_used : (own : Bool) (s : State) (v o : ℕ) → used (told_where own s v) o ≡ used s o
told_used true s v o = upd_like (λ (y : Note). y.past) s.note v (told (s.note v) (framed (s.word v).place)) o (used s o) refl refl
told_used false s v o = refl

either_used : (b : Bool) (t u s : State) (o : ℕ) → used t o ≡ used s o → used u o ≡ used s o → used (cond b t u) o ≡ used s o
either_used true t u s o e d = e
either_used false t u s o e d = d

begin_used : (s : State) (j v c : ℕ) (own : Bool) (p : Place) (o : ℕ) → used (begin_at s j v c own p) o ≡ used s o
begin_used s j v c own Away o = either_used ((s.word v).count == c) (after_begin s j v) (told_where own s v) s o refl (told_used own s v o)
begin_used s j v c own (Coming k) o = told_used own s v o
begin_used s j v c own (Here g k) o = told_used own s v o
begin_used s j v c own (Leaving g i k) o = told_used own s v o

mark_used : (s : State) (j v f : ℕ) (p : Place) (o : ℕ) → used (mark_at s j v f p) o ≡ used s o
mark_used s j v f Away o = refl
mark_used s j v f (Coming k) o = refl
mark_used s j v f (Here g true) o = refl
mark_used s j v f (Here g false) o = either_used ((g == f) && ((s.word v).count == 0)) (after_mark s j v f) s s o refl refl
mark_used s j v f (Leaving g i k) o = refl

commit_used : (s : State) (j v f : ℕ) (p : Place) (o : ℕ) → used (commit_at s j v f p) o ≡ used s o
commit_used s j v f Away o = refl
commit_used s j v f (Coming k) o = refl
commit_used s j v f (Here g k) o = refl
commit_used s j v f (Leaving g i false) o = refl
commit_used s j v f (Leaving g i true) o = either_used ((g == f) && ((i == j) && ((s.word v).count == 0))) (after_commit s j v f) s s o refl refl

leave_used : (s : State) (j v f : ℕ) (p : Place) (o : ℕ) → used (leave_at s j v f p) o ≡ used s o
leave_used s j v f Away o = refl
leave_used s j v f (Coming k) o = refl
leave_used s j v f (Here g false) o = refl
leave_used s j v f (Here g true) o = either_used ((g == f) && ((s.word v).count == 0)) (after_leave s j v f) s s o refl refl
leave_used s j v f (Leaving g i k) o = refl

-- a call adds what the owner did by it
adds : (s : State) (c : Call) (o : ℕ) → used (act s c) o ≡ used s o ++ use_of o c
adds s (Opens v) o = more s v (opened (s.note v) (framed (s.word v).place)) Held o refl
adds s (Closes v) o = more s v (closed (s.note v)) LetGo o refl
adds s (Clears v) o = more s v (writable (s.note v)) ToWrite o refl
adds s (Stores v f i a) o = more s v (added (s.note v) i a) (Stored i a) o refl
adds s (Begins j v c own) o = begin_used s j v c own (s.word v).place o ∙ sym (append-nil (used s o))
adds s (Claims j v f) o = either_used (s.frame f == 0) (after_claim s j v f) s s o refl refl ∙ sym (append-nil (used s o))
adds s (Fills j f i a) o = sym (append-nil (used s o))
adds s (Arrives j v f own) o = told_used own (after_arrive s j v f) v o ∙ sym (append-nil (used s o))
adds s (Unclaims j f) o = sym (append-nil (used s o))
adds s (Retreats j v) o = sym (append-nil (used s o))
adds s (Marks j v f) o = mark_used s j v f (s.word v).place o ∙ sym (append-nil (used s o))
adds s (Copies j f i) o = sym (append-nil (used s o))
adds s (Puts j v x) o = sym (append-nil (used s o))
adds s (Commits j v f) o = commit_used s j v f (s.word v).place o ∙ sym (append-nil (used s o))
adds s (Aborts j v f) o = sym (append-nil (used s o))
adds s (Leaves j v f) o = leave_used s j v f (s.word v).place o ∙ sym (append-nil (used s o))
adds s (Releases j f) o = sym (append-nil (used s o))

runs_use : (h : Type 0) (n : ℕ) (cs : List Call) (s t : State) (o : ℕ) → Runs h n s cs t → used t o ≡ used s o ++ uses o cs
runs_use h n [] s t o r = ap (λ (u : State). used u o) r ∙ sym (append-nil (used s o))
runs_use h n (c ∷ cs) s t o r = runs_use h n cs (act s c) t o r.1 ∙ (ap (λ (xs : List Use). xs ++ uses o cs) (adds s c o) ∙ append_assoc (used s o) (use_of o c) (uses o cs))

pub uses_are : (h : Type 0) (n : ℕ) (cs : List Call) (t : State) → Runs h n opening cs t → (o : ℕ) → (t.note o).past ≡ uses o cs
uses_are h n cs t r o = runs_use h n cs opening t o r
