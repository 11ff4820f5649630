-- Reading tokens that are alike up to a place: what is read before that place, and where a fault is met there, are the same.
use Rattle.std.proofs.Common.{◌≡◌, ℕ, zero, suc, ◌+◌, ◌≤◌, ◌⊎◌, Bool, true, false, List, [], ◌∷◌, ◌++◌, length, Ok, Err, refl, sym, ap, subst, ◌∙◌, inl, inr, arith}
use Rattle.c0_source.specs.declared.kind.Kind.{Kind}
use Rattle.c0_source.specs.Terminals.{Terminal, Word, Text, Use, Sign}
use Rattle.c0_grammar_laws.specs.declared.read_error.ReadError.TheVariants.{OutOfMemory, Syntax, TooDeep, TooLarge}
use Rattle.c0_grammar_laws.specs.Outcome.{Outcome, ◌>>=◌, refuse, too_deep, plain_at, kind_at, bytes_at, next}

-- Of what a reading gives: the tokens that are left, what may differ where other tokens are left, and those tokens.
pub record Form (A : Type 0) : Type 1 where
  pub get : A → List Terminal
  pub P : Type 0
  pub put : A → P → A
  pub tail : P → List Terminal
  pub fits : A → P → Type 0
  pub own : A → P
  pub own_fits : (r : A) → fits r (own r)
  pub own_tail : (r : A) → tail (own r) ≡ get r

-- only the tokens that are left
abbrev pub tokens : Form (List Terminal)
tokens = record {
  get = λ r. r;
  P = List Terminal;
  put = λ r p. p;
  tail = λ p. p;
  fits = λ r p. Unit {0};
  own = λ r. r;
  own_fits = λ r. tt;
  own_tail = λ r. refl;
}

pub long : (xs ys : List Terminal) → length (xs ++ ys) ≡ length xs + length ys
long [] ys = omega arith
long (x ∷ xs) ys = omega (arith, long xs ys)

equal_low : (n : ℕ) → n ≤ n
equal_low n = omega arith

pub one_less : (n l : ℕ) → suc n ≤ suc l → n ≤ l
one_less n l e = omega (arith, e)

next_low : (ts : List Terminal) → length (next ts) ≤ length ts
next_low [] = omega arith
next_low (t ∷ ts) = omega arith

module _ (b c : List Terminal) where
  -- tokens that are the same before these, one at least
  abbrev pub Twin : List Terminal → List Terminal → Type 0
  Twin ts us = (t : Terminal) × (p : List Terminal) × (ts ≡ t ∷ (p ++ b)) × (us ≡ t ∷ (p ++ c))

  -- tokens that are left: none before the place (true), or such ones
  abbrev pub Left : Bool → ℕ → ℕ → List Terminal → List Terminal → Type 0
  Left true l m ts us = (length ts ≤ length b) × (us ≡ ts)
  Left false l m ts us = Twin ts us × (length ts ≤ l) × (length us ≤ m)

  -- nothing before the place is left, or the fault is met there or behind it
  abbrev pub Short : {A : Type 0} → Form A → Outcome A → Type 0
  Short F (Ok r) = length (F.get r) ≤ length b
  Short F (Err OutOfMemory) = Unit {0}
  Short F (Err (Syntax n)) = n ≤ length b
  Short F (Err (TooDeep n)) = n ≤ length b
  Short F (Err (TooLarge n)) = Unit {0}

  -- the same is read, or the same fault is met at the same token
  abbrev pub Same : {A : Type 0} (F : Form A) → ℕ → ℕ → Outcome A → Outcome A → Type 0
  Same F l m (Ok r) o = (p : F.P) × (o ≡ Ok (F.put r p)) × F.fits r p × Left false l m (F.get r) (F.tail p)
  Same F l m (Err OutOfMemory) o = Unit {0}
  Same F l m (Err (Syntax n)) o = (k : ℕ) × (n ≡ suc (k + length b)) × (o ≡ Err (Syntax (suc (k + length c))))
  Same F l m (Err (TooDeep n)) o = (k : ℕ) × (n ≡ suc (k + length b)) × (o ≡ Err (TooDeep (suc (k + length c))))
  Same F l m (Err (TooLarge n)) o = Unit {0}

  abbrev pub Alike : {A : Type 0} → Form A → Bool → ℕ → ℕ → Outcome A → Outcome A → Type 0
  Alike F true l m o q = Short F o
  Alike F false l m o q = Short F o ⊎ Same F l m o q

  -- reading on with what was read; less may be left then
  pub bind_at : {A B : Type 0} (F : Form A) (G : Form B) (w : Bool) (i j l m : ℕ) (o q : Outcome A) (f g : A → Outcome B) → Alike F w i j o q
      → ((v : Bool) (r : A) (p : F.P) → F.fits r p → Left v i j (F.get r) (F.tail p) → Alike G v l m (f r) (g (F.put r p)))
      → Alike G w l m (o >>= f) (q >>= g)
  bind_at F G true i j l m (Ok r) q f g a go = go true r (F.own r) (F.own_fits r) (a, F.own_tail r)
  bind_at F G true i j l m (Err OutOfMemory) q f g a go = tt
  bind_at F G true i j l m (Err (Syntax n)) q f g a go = a
  bind_at F G true i j l m (Err (TooDeep n)) q f g a go = a
  bind_at F G true i j l m (Err (TooLarge n)) q f g a go = tt
  bind_at F G false i j l m (Ok r) q f g (inl a) go = inl (go true r (F.own r) (F.own_fits r) (a, F.own_tail r))
  bind_at F G false i j l m (Ok r) q f g (inr a) go = subst (λ (z : Outcome _). Alike G false l m (f r) (z >>= g)) (sym a.1) (go false r a.0 a.2 a.3)
  bind_at F G false i j l m (Err OutOfMemory) q f g a go = inl tt
  bind_at F G false i j l m (Err (Syntax n)) q f g (inl a) go = inl a
  bind_at F G false i j l m (Err (Syntax n)) q f g (inr a) go = inr (a.0, a.1, ap (λ (z : Outcome _). z >>= g) a.2)
  bind_at F G false i j l m (Err (TooDeep n)) q f g (inl a) go = inl a
  bind_at F G false i j l m (Err (TooDeep n)) q f g (inr a) go = inr (a.0, a.1, ap (λ (z : Outcome _). z >>= g) a.2)
  bind_at F G false i j l m (Err (TooLarge n)) q f g a go = inl tt

  pub bind : {A B : Type 0} (F : Form A) (G : Form B) (w : Bool) (l m : ℕ) (o q : Outcome A) (f g : A → Outcome B) → Alike F w l m o q
      → ((v : Bool) (r : A) (p : F.P) → F.fits r p → Left v l m (F.get r) (F.tail p) → Alike G v l m (f r) (g (F.put r p)))
      → Alike G w l m (o >>= f) (q >>= g)
  bind F G w l m o q f g a go = bind_at F G w l m l m o q f g a go

  pub done : {A : Type 0} (F : Form A) (v : Bool) (l m : ℕ) (r : A) (p : F.P) → F.fits r p → Left v l m (F.get r) (F.tail p) → Alike F v l m (Ok r) (Ok (F.put r p))
  done F true l m r p f h = h.0
  done F false l m r p f h = inr (p, refl, f, h)

  twin_long : (ts us : List Terminal) (h : Twin ts us) → (length ts ≡ suc (length h.1 + length b)) × (length us ≡ suc (length h.1 + length c))
  twin_long ts us h = (ap length h.2 ∙ ap suc (long h.1 b), ap length h.3 ∙ ap suc (long h.1 c))

  pub refused : {A : Type 0} (F : Form A) (w : Bool) (l m i j : ℕ) (ts us : List Terminal) → Left w i j ts us → Alike F w l m (refuse ts) (refuse us)
  refused F true l m i j ts us h = h.0
  refused F false l m i j ts us h = let e = twin_long ts us h.0 in inr (length h.0.1, e.0, ap (λ (z : ℕ). Err (Syntax z)) e.1)

  pub deep : {A : Type 0} (F : Form A) (w : Bool) (l m i j : ℕ) (ts us : List Terminal) → Left w i j ts us → Alike F w l m (too_deep ts) (too_deep us)
  deep F true l m i j ts us h = h.0
  deep F false l m i j ts us h = let e = twin_long ts us h.0 in inr (length h.0.1, e.0, ap (λ (z : ℕ). Err (TooDeep z)) e.1)

  passed_by : (l m : ℕ) (t : Terminal) (p : List Terminal) → length (t ∷ (p ++ b)) ≤ suc l → length (t ∷ (p ++ c)) ≤ suc m → Alike tokens false l m (Ok (p ++ b)) (Ok (p ++ c))
  passed_by l m t [] x y = inl (equal_low (length b))
  passed_by l m t (u ∷ p) x y = inr ((u ∷ p) ++ c, refl, tt, ((u, p, refl, refl), one_less (length ((u ∷ p) ++ b)) l x, one_less (length ((u ∷ p) ++ c)) m y))

  pub passed : (w : Bool) (l m : ℕ) (ts us : List Terminal) → Left w (suc l) (suc m) ts us → Alike tokens w l m (Ok (next ts)) (Ok (next us))
  passed true l m ts us h = omega (arith, h.0, next_low ts)
  passed false l m ts us h =
      subst (λ (x : List Terminal). Alike tokens false l m (Ok (next x)) (Ok (next us))) (sym h.0.2) (
      subst (λ (y : List Terminal). Alike tokens false l m (Ok (h.0.1 ++ b)) (Ok (next y))) (sym h.0.3) (
      passed_by l m h.0.0 h.0.1 (subst (λ (x : List Terminal). length x ≤ suc l) h.0.2 h.1) (subst (λ (y : List Terminal). length y ≤ suc m) h.0.3 h.2)))

  -- behind the next token
  pub on_next : {B : Type 0} (G : Form B) (w : Bool) (l m : ℕ) (ts us : List Terminal) (f g : List Terminal → Outcome B) → Left w (suc l) (suc m) ts us
      → ((v : Bool) (xs ys : List Terminal) → Left v l m xs ys → Alike G v l m (f xs) (g ys)) → Alike G w l m (f (next ts)) (g (next us))
  on_next G w l m ts us f g h go = bind tokens G w l m (Ok (next ts)) (Ok (next us)) f g (passed w l m ts us h) (λ v r p _ k. go v r p k)

  plain_head : (t : Terminal) (xs ys : List Terminal) → plain_at (t ∷ xs) ≡ plain_at (t ∷ ys)
  plain_head (Word x) xs ys = refl
  plain_head (Text x) xs ys = refl
  plain_head (Use a x) xs ys = refl
  plain_head (Sign k) xs ys = refl

  kind_head : (types : List (List ℕ)) (t : Terminal) (xs ys : List Terminal) → kind_at types (t ∷ xs) ≡ kind_at types (t ∷ ys)
  kind_head types (Word x) xs ys = refl
  kind_head types (Text x) xs ys = refl
  kind_head types (Use a x) xs ys = refl
  kind_head types (Sign k) xs ys = refl

  bytes_head : (t : Terminal) (xs ys : List Terminal) → bytes_at (t ∷ xs) ≡ bytes_at (t ∷ ys)
  bytes_head (Word x) xs ys = refl
  bytes_head (Text x) xs ys = refl
  bytes_head (Use a x) xs ys = refl
  bytes_head (Sign k) xs ys = refl

  pub same_bytes : (w : Bool) (l m : ℕ) (ts us : List Terminal) → Left w l m ts us → bytes_at ts ≡ bytes_at us
  same_bytes true l m ts us h = sym (ap bytes_at h.1)
  same_bytes false l m ts us h = ap bytes_at h.0.2 ∙ bytes_head h.0.0 (h.0.1 ++ b) (h.0.1 ++ c) ∙ sym (ap bytes_at h.0.3)

  pub by_plain : {A : Type 0} (F : Form A) (w : Bool) (l m i j : ℕ) (ts us : List Terminal) (f g : Kind → Outcome A) → Left w i j ts us
      → ((kind : Kind) → Alike F w l m (f kind) (g kind)) → Alike F w l m (f (plain_at ts)) (g (plain_at us))
  by_plain F true l m i j ts us f g h go = go (plain_at ts)
  by_plain F false l m i j ts us f g h go =
      subst (λ (z : Kind). Alike F false l m (f (plain_at ts)) (g z)) (ap plain_at h.0.2 ∙ plain_head h.0.0 (h.0.1 ++ b) (h.0.1 ++ c) ∙ sym (ap plain_at h.0.3)) (go (plain_at ts))

  pub by_kind : {A : Type 0} (F : Form A) (types : List (List ℕ)) (w : Bool) (l m i j : ℕ) (ts us : List Terminal) (f g : Kind → Outcome A) → Left w i j ts us
      → ((kind : Kind) → Alike F w l m (f kind) (g kind)) → Alike F w l m (f (kind_at types ts)) (g (kind_at types us))
  by_kind F types true l m i j ts us f g h go = go (kind_at types ts)
  by_kind F types false l m i j ts us f g h go =
      subst (λ (z : Kind). Alike F false l m (f (kind_at types ts)) (g z)) (ap (kind_at types) h.0.2 ∙ kind_head types h.0.0 (h.0.1 ++ b) (h.0.1 ++ c) ∙ sym (ap (kind_at types) h.0.3)) (go (kind_at types ts))

  pub wider : (w : Bool) (l m : ℕ) (ts us : List Terminal) → Left w l m ts us → Left w (suc l) (suc m) ts us
  wider true l m ts us h = h
  wider false l m ts us h = (h.0, omega (arith, h.1), omega (arith, h.2))

  pub weaker : {A : Type 0} (F : Form A) (w : Bool) (l m i j : ℕ) (o q : Outcome A) → l ≤ i → m ≤ j → Alike F w l m o q → Alike F w i j o q
  weaker F true l m i j o q x y a = a
  weaker F false l m i j o q x y (inl a) = inl a
  weaker F false l m i j (Ok r) q x y (inr a) = inr (a.0, a.1, a.2, (a.3.0, omega (arith, x, a.3.1), omega (arith, y, a.3.2)))
  weaker F false l m i j (Err OutOfMemory) q x y (inr a) = inl tt
  weaker F false l m i j (Err (Syntax n)) q x y (inr a) = inr a
  weaker F false l m i j (Err (TooDeep n)) q x y (inr a) = inr a
  weaker F false l m i j (Err (TooLarge n)) q x y (inr a) = inl tt

  pub large : {A : Type 0} (F : Form A) (w : Bool) (l m n k : ℕ) → Alike F w l m (Err (TooLarge n)) (Err (TooLarge k))
  large F true l m n k = tt
  large F false l m n k = inl tt

  pub nothing_left : (ts us : List Terminal) → Twin ts us → length ts ≤ 0 → ⊥
  nothing_left ts us h e = omega (arith, e, (twin_long ts us h).0)

  pub nothing_left_there : (ts us : List Terminal) → Twin ts us → length us ≤ 0 → ⊥
  nothing_left_there ts us h e = omega (arith, e, (twin_long ts us h).1)

  -- room for as many turns as there are tokens before the place
  abbrev pub Enough : Bool → ℕ → ℕ → Type 0
  Enough true l n = Unit {0}
  Enough false l n = l ≤ n

  pub each : {A : Type 0} (F : Form A) (l m : ℕ) (f g : List Terminal → Outcome A) → ((xs ys : List Terminal) → Left true l m xs ys → Alike F true l m (f xs) (g ys)) → ((xs ys : List Terminal) → Left false l m xs ys → Alike F false l m (f xs) (g ys))
      → (v : Bool) (xs ys : List Terminal) → Left v l m xs ys → Alike F v l m (f xs) (g ys)
  each F l m f g short twin true xs ys q = short xs ys q
  each F l m f g short twin false xs ys q = twin xs ys q

  -- a loop each of whose turns takes a token
  pub loop : {X A : Type 0} (F : Form A) (R : ℕ → X → List Terminal → Outcome A) → ((x : X) (ts : List Terminal) → R zero x ts ≡ refuse ts)
      → ((n k : ℕ) (w : Bool) (l m : ℕ) → ((x : X) (v : Bool) (xs ys : List Terminal) → Left v l m xs ys → Alike F v l m (R n x xs) (R k x ys))
      → (x : X) (ts us : List Terminal) → Left w (suc l) (suc m) ts us → Alike F w l m (R (suc n) x ts) (R (suc k) x us))
      → (n k : ℕ) (w : Bool) (l m : ℕ) (x : X) (ts us : List Terminal) → Enough w l n → Enough w m k → Left w l m ts us → Alike F w l m (R n x ts) (R k x us)
  loop F R none step zero k true l m x ts us e f h = subst (λ (o : Outcome _). Short F o) (sym (none x ts)) h.0
  loop F R none step zero k false l m x ts us e f h = absurd (nothing_left ts us h.0 (omega (arith, e, h.1)))
  loop F R none step (suc n) k true l m x ts us e f h = step n n true 0 0 (λ y v xs ys q.
      each F 0 0 (R n y) (R n y) (λ xs ys q. loop F R none step n n true 0 0 y xs ys tt tt q) (λ xs ys q. absurd (nothing_left xs ys q.0 q.1)) v xs ys q) x ts ts (h.0, refl)
  loop F R none step (suc n) zero false l m x ts us e f h = absurd (nothing_left_there ts us h.0 (omega (arith, f, h.2)))
  loop F R none step (suc n) (suc k) false zero m x ts us e f h = absurd (nothing_left ts us h.0 h.1)
  loop F R none step (suc n) (suc k) false (suc l) zero x ts us e f h = absurd (nothing_left_there ts us h.0 h.2)
  loop F R none step (suc n) (suc k) false (suc l) (suc m) x ts us e f h =
      weaker F false l m (suc l) (suc m) (R (suc n) x ts) (R (suc k) x us) (omega arith) (omega arith) (step n k false l m (λ y v xs ys q.
      each F l m (R n y) (R k y) (λ xs ys q. loop F R none step n k true l m y xs ys tt tt q) (λ xs ys q. loop F R none step n k false l m y xs ys (one_less l n e) (one_less m k f) q) v xs ys q) x ts us h)

  -- a reading with room for so many turns
  abbrev pub Loops : {A : Type 0} → Form A → (ℕ → List Terminal → Outcome A) → Type 0
  Loops F R = (n k : ℕ) (w : Bool) (l m : ℕ) (ts us : List Terminal) → Enough w l n → Enough w m k → Left w l m ts us → Alike F w l m (R n ts) (R k us)

  -- ... for as many as there are tokens
  pub looped : {A : Type 0} (F : Form A) (R : ℕ → List Terminal → Outcome A) → Loops F R → (w : Bool) (l m : ℕ) (ts us : List Terminal) → Left w l m ts us → Alike F w l m (R (length ts) ts) (R (length us) us)
  looped F R ih true l m ts us h = ih (length ts) (length us) true l m ts us tt tt h
  looped F R ih false l m ts us h =
      weaker F false (length ts) (length us) l m (R (length ts) ts) (R (length us) us) h.1 h.2 (ih (length ts) (length us) false (length ts) (length us) ts us (omega arith) (omega arith) (h.0, omega arith, omega arith))

  -- ... for one more
  pub looped_more : {A : Type 0} (F : Form A) (R : ℕ → List Terminal → Outcome A) → Loops F R → (w : Bool) (l m : ℕ) (ts us : List Terminal) → Left w l m ts us → Alike F w l m (R (suc (length ts)) ts) (R (suc (length us)) us)
  looped_more F R ih true l m ts us h = ih (suc (length ts)) (suc (length us)) true l m ts us tt tt h
  looped_more F R ih false l m ts us h =
      weaker F false (length ts) (length us) l m (R (suc (length ts)) ts) (R (suc (length us)) us) h.1 h.2 (ih (suc (length ts)) (suc (length us)) false (length ts) (length us) ts us (omega arith) (omega arith) (h.0, omega arith, omega arith))

  -- ... behind the first of them
  pub looped_next : {A : Type 0} (F : Form A) (R : ℕ → List Terminal → Outcome A) → Loops F R → (w : Bool) (l m : ℕ) (ts us : List Terminal) → Left w (suc l) (suc m) ts us → Alike F w l m (R (length ts) (next ts)) (R (length us) (next us))
  looped_next F R ih true l m ts us h = ih (length ts) (length ts) true l m (next ts) (next ts) tt tt (omega (arith, h.0, next_low ts), refl)
  looped_next F R ih false l m ts us h = at (length ts) (length us) refl refl
    where
      at : (i j : ℕ) → length ts ≡ i → length us ≡ j → Alike F false l m (R i (next ts)) (R j (next us))
      at zero j x y = absurd (nothing_left ts us h.0 (omega (arith, x)))
      at (suc i) zero x y = absurd (nothing_left_there ts us h.0 (omega (arith, y)))
      at (suc i) (suc j) x y =
          weaker F false i j l m (R (suc i) (next ts)) (R (suc j) (next us)) (omega (arith, x, h.1)) (omega (arith, y, h.2)) (
          on_next F false i j ts us (R (suc i)) (R (suc j)) (h.0, omega (arith, x), omega (arith, y)) (λ v xs ys q. on v i j xs ys q))
        where
          on : (v : Bool) (i j : ℕ) (xs ys : List Terminal) → Left v i j xs ys → Alike F v i j (R (suc i) xs) (R (suc j) ys)
          on true i j xs ys q = ih (suc i) (suc j) true i j xs ys tt tt q
          on false i j xs ys q = ih (suc i) (suc j) false i j xs ys (omega arith) (omega arith) q

  pub by_plain_is : {A : Type 0} (F : Form A) (l m : ℕ) (ts us : List Terminal) (f g : Kind → Outcome A) → Twin ts us
      → ((kind : Kind) → plain_at ts ≡ kind → Alike F false l m (f kind) (g kind)) → Alike F false l m (f (plain_at ts)) (g (plain_at us))
  by_plain_is F l m ts us f g h go =
      subst (λ (z : Kind). Alike F false l m (f (plain_at ts)) (g z)) (ap plain_at h.2 ∙ plain_head h.0 (h.1 ++ b) (h.1 ++ c) ∙ sym (ap plain_at h.3)) (go (plain_at ts) refl)
