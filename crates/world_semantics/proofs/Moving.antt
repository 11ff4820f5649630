-- a mover that moves an object out may make its calls, and has in hand what it says
use Rattle.std.proofs.Common.{◌≡◌, inl, inr, ℕ, suc, ◌+◌, ◌<◌, ◌≤◌, Bool, true, false, cond, List, [], ◌∷◌, ◌++◌, length, Option, None, refl, sym, ap, subst, arith}
use Rattle.std.specs.Prelude.{nat_lt}
use Rattle.std.proofs.lemmas.Bool.Decides.{nat_tests}
use Rattle.std.proofs.lemmas.List.{length_push}
use Rattle.pointer_word.specs.Hands.{Hand, known, copying}
use Rattle.pointer_word.specs.Machine.{Far, Kept, Unknown, State}
use Rattle.pointer_word.specs.Calls.{Call, Opens, Closes, Clears, Stores, Begins, Claims, Fills, Arrives, Unclaims, Retreats, Marks, Copies, Puts, Commits, Aborts, Leaves, Releases, May, Copied, act}
use Rattle.pointer_word.specs.Legal.{legal, Agrees}
use Rattle.pointer_word.specs.Asked.{HasNoFrame}
use Rattle.pointer_word.specs.Ordered.{IsCopied}
use Rattle.pointer_word.proofs.Upd.{upd-same}
use Rattle.pointer_word.proofs.Legal.{legal_may}
use Rattle.pointer_word.proofs.Ordered.{copied_one}
use Rattle.world_semantics.specs.Programs.{Eviction, Copying, Stored, NotStored, Refused, Freed}
use Rattle.world_semantics.specs.Turns.{Answer, Turn, NotEnabled, Alone, Calls, put_of, put_so, committed_so, evicts}
use Rattle.world_semantics.specs.Steps.{maker, or_self}
use Rattle.world_semantics.specs.InHand.{MovesOut, FitsEviction}
use Rattle.world_semantics.proofs.Calling.{commits, copies, aborts, releases}

-- what an actor's mode and hand say of its call: a mover's may be made; of those that ask for a hold the rest is the machine's own test
abbrev pub Granted : Type 0 → ℕ → State → Call → Type 0
Granted h n s (Opens o) = Unit {0}
Granted h n s (Closes o) = Unit {0}
Granted h n s (Clears o) = Unit {0}
Granted h n s (Stores o f i v) = Unit {0}
Granted h n s (Begins m o c own) = Unit {0}
Granted h n s (Arrives m o f own) = Agrees h n s (Arrives m o f own)
Granted h n s c = May h n s c

pub granted_may : (h : Type 0) (n : ℕ) (s : State) (c : Call) → legal n s c ≡ true → Granted h n s c → May h n s c
granted_may h n s (Opens o) e g = legal_may h n s (Opens o) e tt
granted_may h n s (Closes o) e g = legal_may h n s (Closes o) e tt
granted_may h n s (Clears o) e g = legal_may h n s (Clears o) e tt
granted_may h n s (Stores o f i v) e g = legal_may h n s (Stores o f i v) e tt
granted_may h n s (Begins m o c own) e g = legal_may h n s (Begins m o c own) e tt
granted_may h n s (Arrives m o f own) e g = legal_may h n s (Arrives m o f own) e g
granted_may h n s (Claims m o f) e g = g
granted_may h n s (Fills m f i v) e g = g
granted_may h n s (Unclaims m f) e g = g
granted_may h n s (Retreats m o) e g = g
granted_may h n s (Marks m o f) e g = g
granted_may h n s (Copies m f i) e g = g
granted_may h n s (Puts m o x) e g = g
granted_may h n s (Commits m o f) e g = g
granted_may h n s (Aborts m o f) e g = g
granted_may h n s (Leaves m o f) e g = g
granted_may h n s (Releases m f) e g = g

-- a turn of the mover m: its call is granted, and it leads to what Q says
abbrev pub TurnOk : {A : Type 0} → Type 0 → ℕ → State → ℕ → (State → A → Type 0) → Turn A → Type 0
TurnOk h n s m Q NotEnabled = Unit {0}
TurnOk h n s m Q (Alone a) = Q s a
TurnOk h n s m Q (Calls c go) = Granted h n s c × (or_self (maker c) m ≡ m) × Q (act s c) (go (act s c))

pub turn_cond : {A : Type 0} (h : Type 0) (n : ℕ) (s : State) (m : ℕ) (Q : State → A → Type 0) (b : Bool) (x y : Turn A)
    → (b ≡ true → TurnOk h n s m Q x) → (b ≡ false → TurnOk h n s m Q y) → TurnOk h n s m Q (cond b x y)
turn_cond h n s m Q true x y f g = f refl
turn_cond h n s m Q false x y f g = g refl

pub below : (a b : ℕ) → nat_lt a b ≡ true → a < b
below a b e = grind (arith, nat_tests)

pub not_below : (a b : ℕ) → nat_lt a b ≡ false → b ≤ a
not_below a b e = grind (arith, nat_tests)

-- a mover with this berth of an object that it brings in, while it moves another out
abbrev pub Carries : Option ℕ → ℕ → (ℕ → Far) → Hand → Eviction → Type 0
Carries b n far x e = (x.bringing ≡ b) × (x.claimed ≡ None) × FitsEviction n far x e

-- the same, when it has moved it out
abbrev pub Left : Option ℕ → Hand → Type 0
Left b x = (x.bringing ≡ b) × (x.leaving ≡ None) × HasNoFrame x

module _ {A : Type 0} (h : Type 0) (n : ℕ) (s : State) (m : ℕ) (a : Answer) (go : Eviction → A) (done failed : A) (Q : State → A → Type 0) (b : Option ℕ)
    (goes : (t : State) (d : Eviction) → Carries b n t.far (t.hand m) d → Q t (go d))
    (ends : (t : State) → Left b (t.hand m) → Q t done)
    (fails : (t : State) → Left b (t.hand m) → Q t failed)
    (brings : (s.hand m).bringing ≡ b) (claims : (s.hand m).claimed ≡ None) where
  put_ok : (stored : Bool) (o f : ℕ) (words : List ℕ) → MovesOut o f (s.hand m) → IsCopied (s.hand m) words n → length words ≡ n
      → TurnOk h n s m Q (Calls (Puts m o (put_of stored words)) (λ t. go (put_so stored o f)))
  put_ok true o f words moves is all =
      let t : State = act s (Puts m o (Kept words)) in
      ((moves.0, all), refl, goes t (Stored o f) (brings, claims, (moves, subst (λ (y : Far). Copied n (s.hand m) y) (sym (upd-same s.far o (Kept words) o refl)) (words, refl, is))))
  put_ok false o f words moves is all = ((moves.0, tt), refl, goes (act s (Puts m o Unknown)) (NotStored o f) (brings, claims, moves))

  copy_ok : (o f : ℕ) (words : List ℕ) → MovesOut o f (s.hand m) → IsCopied (s.hand m) words (length words) → length words < n
      → TurnOk h n s m Q (Calls (Copies m f (length words)) (λ t. go (Copying o f (words ++ t.cell f (length words) ∷ []))))
  copy_ok o f words moves is l =
      let v : ℕ = s.cell f (length words) in
      let x : Hand = s.hand m in
      let y : Hand = copying x (length words) v in
      let d : Eviction = Copying o f (words ++ v ∷ []) in
      let e : length (words ++ v ∷ []) ≡ suc (length words) = (let k : length (words ++ v ∷ []) ≡ length words + 1 = length_push words v in omega arith) in
      let more : IsCopied y (words ++ v ∷ []) (length (words ++ v ∷ [])) = subst (λ k. IsCopied y (words ++ v ∷ []) k) (sym e) (copied_one x words v is) in
      let after = copies s m f (length words) in
      let t : State = act s (Copies m f (length words)) in
      ((o, moves.0, moves.1), refl, goes t d (subst (λ (z : Hand). Carries b n s.far z d) (sym after.hand) (brings, claims, (moves, more, omega arith))))

  commit_ok : (o f : ℕ) → MovesOut o f (s.hand m) → Copied n (s.hand m) (s.far o)
      → TurnOk h n s m Q (Calls (Commits m o f) (λ t. go (committed_so (known (t.hand m).freed) o f)))
  commit_ok o f moves is =
      let t : State = act s (Commits m o f) in
      let x : Hand = s.hand m in
      let carries : Hand → Type 0 = λ (z : Hand). Carries b n t.far z (committed_so (known z.freed) o f) in
      let fits : carries (t.hand m) = elim (commits s m o f).hand [
        | inl e ↦ subst carries (sym e) (brings, claims, (refl, refl))
        | inr e ↦ subst carries (sym e) (brings, claims, subst (λ q. FitsEviction n t.far x (committed_so q o f)) (sym (ap known moves.2)) moves)
      ] in
      ((moves.0, moves.1, moves.2, is), refl, goes t (committed_so (known (t.hand m).freed) o f) fits)

  pub evicts_ok : (e : Eviction) → FitsEviction n s.far (s.hand m) e → TurnOk h n s m Q (evicts n m a e go done failed)
  evicts_ok (Copying o f words) fits =
      turn_cond h n s m Q (nat_lt (length words) n) _ _ (λ e. copy_ok o f words fits.0 fits.1 (below (length words) n e))
      (λ e. let k : n ≤ length words = not_below (length words) n e in let l : length words ≤ n = fits.2 in
      let all : length words ≡ n = omega arith in
      put_ok a.stored o f words fits.0 (subst (λ k. IsCopied (s.hand m) words k) all fits.1) all)
  evicts_ok (Stored o f) fits = commit_ok o f fits.0 fits.1
  evicts_ok (NotStored o f) fits =
      ((fits.0, fits.1), refl, fails (act s (Aborts m o f)) (subst (Left b) (sym (aborts s m o f).hand) (brings, refl, (claims, fits.2))))
  evicts_ok (Refused o f) fits =
      ((fits.0, fits.1), refl, ends (act s (Aborts m o f)) (subst (Left b) (sym (aborts s m o f).hand) (brings, refl, (claims, fits.2))))
  evicts_ok (Freed f) fits =
      (fits.1, refl, ends (act s (Releases m f)) (subst (Left b) (sym (releases s m f).hand) (brings, fits.0, (claims, refl))))
