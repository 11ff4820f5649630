-- What stays known, and what the checks that are asked for come to.
use Rattle.std.proofs.Common.{◌≡◌, ℕ, zero, suc, Bool, true, false, cond, Option, Some, None, List, [], ◌∷◌, ◌++◌, refl, sym, ap, ◌∙◌, subst, arith}
use Rattle.std.specs.Prelude.{◌&&◌, ◌||◌, ◌<◌, ◌==◌, All, not, slice_get}
use Rattle.std.specs.List.{Contains, filter, list_all}
use Rattle.std.proofs.lemmas.Bool.{eqb-false, eqb-true}
use Rattle.std.proofs.lemmas.List.Elements.{All-cons, All-filter, All-head, All-tail}
use Rattle.code_form.specs.declared.form.Fact.{Fact}
use Rattle.code_form.specs.declared.form.Fact.TheVariants as fact
use Rattle.code_form.specs.declared.form.Kind.{Kind}
use Rattle.code_form.specs.declared.form.Operation.{Operation}
use Rattle.code_form.specs.declared.form.Operation.TheVariants as op
use Rattle.code_form.specs.Code.{is_array_of, is_pointer, is_register, on_kind, place_fits}
use Rattle.code_form.specs.Effects.{upd}
use Rattle.code_form.specs.Known.{Known, Knows, Unknown, KnownAimed, KnownShut, AreKnown, IsKnown, after_operation, facts_known, forget, with_inside, with_nonnull, with_scope, written_by, wrote, wrote_some}
use Rattle.code_form.specs.Asked.{IsChecked}
use Rattle.codegen.specs.Generated.{listed, scope_fact}
use Rattle.middle_form.specs.Discipline.{IsKnownAs, Brings, Table, is_lost, join, stays, touches, writes}
use Rattle.middle_form.specs.Discipline as table
use Rattle.middle_form.specs.Scoped.{Code}
use Rattle.middle_form.specs.Guarded.{asked_before, is_by_pointer, is_kept, is_same_check, joined, names, place_check, with_check, without_check}

pub and_left : (a b : Bool) → (a && b) ≡ true → a ≡ true
and_left true b h = refl
and_left false b h = h

pub and_right : (a b : Bool) → (a && b) ≡ true → b ≡ true
and_right true b h = h
and_right false b h = absurd (cc h)

-- ---- what is known of scopes

pub same_scope : (s : ℕ) (z y : Knows) → cond (s == s) z y ≡ z
same_scope s z y = by (s == s) refl
  where
    by : (b : Bool) → (s == s) ≡ b → cond b z y ≡ z
    by true e = refl
    by false e = absurd (eqb-false s s e refl)

pub as_same : (z : Knows) → IsKnownAs z z
as_same Unknown = tt
as_same KnownShut = refl
as_same (KnownAimed r off disp) = refl

pub as_on : (x y z : Knows) → IsKnownAs x y → IsKnownAs y z → IsKnownAs x z
as_on Unknown y z h k = tt
as_on KnownShut y z h k = subst (λ w. IsKnownAs w z) h k
as_on (KnownAimed r off disp) y z h k = subst (λ w. IsKnownAs w z) h k

as_forget : (d : ℕ) (x y : Knows) → IsKnownAs x y → IsKnownAs (forget d x) (forget d y)
as_forget d Unknown y h = tt
as_forget d KnownShut y h = ap (forget d) h
as_forget d (KnownAimed r off disp) y h = subst (λ w. IsKnownAs (forget d (KnownAimed r off disp)) (forget d w)) (sym h) (as_same (forget d (KnownAimed r off disp)))

-- of so many scopes is known what a table tells
abbrev pub Holds : ℕ → Table → Known → Type 0
Holds n t k = (s : ℕ) → s < n → IsKnownAs (t s) (k.scope s)

pub holds_brings : (n : ℕ) (t u : Table) (k : Known) → Brings t u → Holds n t k → Holds n u k
holds_brings n t u k b h s l = as_on (u s) (t s) (k.scope s) (b s) (h s l)

pub brings_same : (t : Table) → Brings t t
brings_same t s = as_same (t s)

-- what is known where ways join was known before
pub brings_join : (a : Code) (t : Table) → Brings t (join a t)
brings_join a t s = by (touches a s) (t s)
  where
    by : (touched : Bool) (z : Knows) → IsKnownAs (stays touched (writes a) z) z
    by touched Unknown = tt
    by touched KnownShut = refl
    by touched (KnownAimed r off disp) = by_loss (touched || is_lost (writes a) r off)
      where
        by_loss : (b : Bool) → IsKnownAs (cond b Unknown (KnownAimed r off disp)) (KnownAimed r off disp)
        by_loss true = tt
        by_loss false = refl

holds_wrote : (n d : ℕ) (t : Table) (k : Known) → Holds n t k → Holds n (table.wrote (Some d) t) (wrote d k)
holds_wrote n d t k h s l = as_forget d (t s) (k.scope s) (h s l)

pub holds_wrote_some : (n : ℕ) (d : Option ℕ) (t : Table) (k : Known) → Holds n t k → Holds n (table.wrote d t) (wrote_some d k)
holds_wrote_some n None t k h = h
holds_wrote_some n (Some d) t k h = holds_wrote n d t k h

-- behind a simple instruction
pub holds_after : (n : ℕ) (o : Operation) (t : Table) (k : Known) → Holds n t k → Holds n (table.wrote (written_by o) t) (after_operation o k)
holds_after n (op.Const d z) t k h = holds_wrote n d t k h
holds_after n (op.TextOf d x) t k h = holds_wrote n d t k h
holds_after n (op.BoolOf d b) t k h = holds_wrote n d t k h
holds_after n (op.CharOf d c) t k h = holds_wrote n d t k h
holds_after n (op.Null d) t k h = holds_wrote n d t k h
holds_after n (op.Move d a) t k h = holds_wrote n d t k h
holds_after n (op.Binary o d a b) t k h = holds_wrote n d t k h
holds_after n (op.Unary u d a) t k h = holds_wrote n d t k h
holds_after n (op.Compare r d a b) t k h = holds_wrote n d t k h
holds_after n (op.CheckNull r) t k h = h
holds_after n (op.CheckIndex d r i size) t k h = holds_wrote n d t k h
holds_after n (op.Len d r) t k h = holds_wrote n d t k h
holds_after n (op.Prefetch r off disp) t k h = h
holds_after n (op.Alloc d l) t k h = holds_wrote n d t k h
holds_after n (op.AllocArray d l x) t k h = holds_wrote n d t k h
holds_after n (op.Print a) t k h = h
holds_after n (op.Println a) t k h = h
holds_after n (op.Printint a) t k h = h
holds_after n (op.Printbool a) t k h = h
holds_after n (op.Printchar a) t k h = h
holds_after n op.Flush t k h = h
holds_after n (op.Assert a) t k h = h

-- this of one scope
pub holds_scope : (n s : ℕ) (z : Knows) (t : Table) (k : Known) → Holds n t k → Holds n (upd t s z) (with_scope s z k)
holds_scope n s z t k h u l = by (u == s)
  where
    by : (b : Bool) → IsKnownAs (cond b z (t u)) (cond b z (k.scope u))
    by true = as_same z
    by false = h u l

-- nothing any more of one scope
pub holds_less : (n s : ℕ) (t : Table) (k : Known) → Holds n t k → Holds n (upd t s Unknown) k
holds_less n s t k h u l = by (u == s)
  where
    by : (b : Bool) → IsKnownAs (cond b Unknown (t u)) (k.scope u)
    by true = tt
    by false = h u l

-- behind a store that aims its scope
pub holds_store : (n s : ℕ) (z : Knows) (t : Table) (k : Known) → Holds n t k → Holds n (upd t s Unknown) (with_scope s z k)
holds_store n s z t k h u l = by (u == s)
  where
    by : (b : Bool) → IsKnownAs (cond b Unknown (t u)) (cond b z (k.scope u))
    by true = tt
    by false = h u l

-- behind such a load
pub holds_load : (n d s : ℕ) (z : Knows) (t : Table) (k : Known) → Holds n t k → Holds n (upd (table.wrote (Some d) t) s Unknown) (wrote d (with_scope s z k))
holds_load n d s z t k h u l = by (u == s)
  where
    by : (b : Bool) → IsKnownAs (cond b Unknown (forget d (t u))) (forget d (cond b z (k.scope u)))
    by true = tt
    by false = as_forget d (t u) (k.scope u) (h u l)

-- where so much is known of so many scopes, and these checks made, so are the entry facts that say it
pub append_known : (n : ℕ) (t : Table) (w : List Fact) (k : Known) → Holds n t k → AreKnown k w → AreKnown k (listed n t ++ w)
append_known zero t w k h c = c
append_known (suc n) t w k h c = by (t n) (h n (omega arith)) (append_known n t w k (λ s l. h s (omega arith)) c)
  where
    by : (z : Knows) → IsKnownAs z (k.scope n) → AreKnown k (listed n t ++ w) → AreKnown k ((scope_fact n z ++ listed n t) ++ w)
    by Unknown e rest = rest
    by KnownShut e rest = (e, rest)
    by (KnownAimed r off disp) e rest = (e, rest)

-- and the other way
pub entry_holds : (n : ℕ) (t : Table) (w : List Fact) → Holds n t (facts_known (listed n t ++ w))
entry_holds zero t w s l = absurd (let z : ⊥ = omega arith in z)
entry_holds (suc n) t w s l = by (t n) refl (s == n) refl (entry_holds n t w s)
  where
    by : (z : Knows) → t n ≡ z → (b : Bool) → (s == n) ≡ b → (s < n → IsKnownAs (t s) ((facts_known (listed n t ++ w)).scope s)) → IsKnownAs (t s) ((facts_known ((scope_fact n z ++ listed n t) ++ w)).scope s)
    by Unknown e true f rest = subst (λ x. IsKnownAs x ((facts_known (listed n t ++ w)).scope s)) (sym (ap t (eqb-true s n f) ∙ e)) tt
    by Unknown e false f rest = rest (let other : s ≡ n → ⊥ = eqb-false s n f in omega (arith, other))
    by KnownShut e true f rest = subst (λ x. IsKnownAs x (cond (s == n) KnownShut ((facts_known (listed n t ++ w)).scope s))) (sym (ap t (eqb-true s n f) ∙ e)) (ap (λ b. cond b KnownShut ((facts_known (listed n t ++ w)).scope s)) f)
    by KnownShut e false f rest =
        subst (λ (b : Bool). IsKnownAs (t s) (cond b KnownShut ((facts_known (listed n t ++ w)).scope s))) (sym f) (rest (let other : s ≡ n → ⊥ = eqb-false s n f in omega (arith, other)))
    by (KnownAimed r off disp) e true f rest =
        subst (λ x. IsKnownAs x (cond (s == n) (KnownAimed r off disp) ((facts_known (listed n t ++ w)).scope s))) (sym (ap t (eqb-true s n f) ∙ e)) (ap (λ b. cond b (KnownAimed r off disp) ((facts_known (listed n t ++ w)).scope s)) f)
    by (KnownAimed r off disp) e false f rest =
        subst (λ (b : Bool). IsKnownAs (t s) (cond b (KnownAimed r off disp) ((facts_known (listed n t ++ w)).scope s))) (sym f) (rest (let other : s ≡ n → ⊥ = eqb-false s n f in omega (arith, other)))

-- ---- checks of registers that are there

-- a check names registers of the right kinds
abbrev pub FitsCheck : List Kind → Fact → Type 0
FitsCheck ks (fact.Nonnull r) = on_kind is_pointer (slice_get ks r) ≡ true
FitsCheck ks (fact.Inside d r) = is_array_of (slice_get ks d) (slice_get ks r) ≡ true
FitsCheck ks (fact.Aimed s r off disp) = ⊥
FitsCheck ks (fact.Shut s) = ⊥

-- so does each of these
abbrev pub AllFit : List Kind → List Fact → Type 0
AllFit ks w = All (FitsCheck ks) w

-- ---- checks that stay known

contains_more : {X : Type 0} (y : X) (xs : List X) (x : X) → Contains xs x → Contains (y ∷ xs) x
contains_more y xs x h = let l = h.1 in (suc h.0, omega arith, h.2)

contains_first : {X : Type 0} (xs : List X) (x : X) → Contains (x ∷ xs) x
contains_first xs x = (0, omega arith, refl)

contains_filter : {X : Type 0} (p : X → Bool) (xs : List X) (x : X) → Contains xs x → p x ≡ true → Contains (filter p xs) x
contains_filter p [] x (k, l, e) t = absurd (let z : ⊥ = omega arith in z)
contains_filter p (y ∷ ys) x (zero, l, e) t = subst (λ (b : Bool). Contains (cond b (y ∷ filter p ys) (filter p ys)) x) (sym (ap p e ∙ t)) (0, omega arith, e)
contains_filter p (y ∷ ys) x (suc k, l, e) t = by (p y) (contains_filter p ys x (k, omega arith, e) t)
  where
    by : (b : Bool) → Contains (filter p ys) x → Contains (cond b (y ∷ filter p ys) (filter p ys)) x
    by true h = contains_more y (filter p ys) x h
    by false h = h

-- a write of a register that a fact does not name
fact_kept : (d : ℕ) (k : Known) (f : Fact) → not (names d f) ≡ true → IsKnown k f → IsKnown (wrote d k) f
fact_kept d k (fact.Nonnull r) e h = contains_filter (λ (q : ℕ). not (d == q)) k.nonnull r h e
fact_kept d k (fact.Inside o r) e h = contains_filter (λ (p : ℕ × ℕ). not ((d == p.0) || (d == p.1))) k.inside (o, r) h e
fact_kept d k (fact.Aimed s r off disp) e h = ap (forget d) h ∙ by ((d == r) || is_register d off) e
  where
    by : (b : Bool) → not b ≡ true → cond b Unknown (KnownAimed r off disp) ≡ KnownAimed r off disp
    by true x = absurd (cc x)
    by false x = refl
fact_kept d k (fact.Shut s) e h = ap (forget d) h

checks_kept : (d : ℕ) (k : Known) (w : List Fact) → list_all (λ (f : Fact). not (names d f)) w ≡ true → AreKnown k w → AreKnown (wrote d k) w
checks_kept d k [] e h = tt
checks_kept d k (f ∷ w) e h = (fact_kept d k f (and_left (not (names d f)) _ e) h.0, checks_kept d k w (and_right (not (names d f)) _ e) h.1)

pub checks_kept_some : (d : Option ℕ) (k : Known) (w : List Fact) → is_kept d w ≡ true → AreKnown k w → AreKnown (wrote_some d k) w
checks_kept_some None k w e h = h
checks_kept_some (Some d) k w e h = checks_kept d k w e h

nonnull_more : (r : ℕ) (k : Known) (w : List Fact) → AreKnown k w → AreKnown (with_nonnull r k) w
nonnull_more r k [] h = tt
nonnull_more r k (f ∷ w) h = (by f h.0, nonnull_more r k w h.1)
  where
    by : (g : Fact) → IsKnown k g → IsKnown (with_nonnull r k) g
    by (fact.Nonnull q) z = contains_more r k.nonnull q z
    by (fact.Inside d q) z = z
    by (fact.Aimed s q off disp) z = z
    by (fact.Shut s) z = z

inside_more : (d r : ℕ) (k : Known) (w : List Fact) → AreKnown k w → AreKnown (with_inside d r k) w
inside_more d r k [] h = tt
inside_more d r k (f ∷ w) h = (by f h.0, inside_more d r k w h.1)
  where
    by : (g : Fact) → IsKnown k g → IsKnown (with_inside d r k) g
    by (fact.Nonnull q) z = z
    by (fact.Inside e q) z = contains_more (d, r) k.inside (e, q) z
    by (fact.Aimed s q off disp) z = z
    by (fact.Shut s) z = z

-- ---- the same check

same_known : (k : Known) (f g : Fact) → is_same_check f g ≡ true → IsKnown k f → IsKnown k g
same_known k (fact.Nonnull r) (fact.Nonnull q) e h = subst (λ (x : ℕ). Contains k.nonnull x) (eqb-true r q e) h
same_known k (fact.Nonnull r) (fact.Inside d q) e h = absurd (cc e)
same_known k (fact.Nonnull r) (fact.Aimed s q off disp) e h = absurd (cc e)
same_known k (fact.Nonnull r) (fact.Shut s) e h = absurd (cc e)
same_known k (fact.Inside d r) (fact.Nonnull q) e h = absurd (cc e)
same_known k (fact.Inside d r) (fact.Inside o q) e h =
    let same : (d, r) ≡ (o, q) = λ i. (eqb-true d o (and_left (d == o) _ e) i, eqb-true r q (and_right (d == o) _ e) i) in
    subst (λ (x : ℕ × ℕ). Contains k.inside x) same h
same_known k (fact.Inside d r) (fact.Aimed s q off disp) e h = absurd (cc e)
same_known k (fact.Inside d r) (fact.Shut s) e h = absurd (cc e)
same_known k (fact.Aimed s r off disp) g e h = absurd (cc e)
same_known k (fact.Shut s) g e h = absurd (cc e)

-- a check is known, and all but it
back : (f : Fact) (k : Known) (w : List Fact) → IsKnown k f → AreKnown k (without_check f w) → AreKnown k w
back f k [] z h = tt
back f k (g ∷ w) z h = by (is_same_check f g) refl h (back f k w z)
  where
    by : (b : Bool) → is_same_check f g ≡ b → AreKnown k (cond (not b) (g ∷ without_check f w) (without_check f w)) → (AreKnown k (without_check f w) → AreKnown k w) → AreKnown k (g ∷ w)
    by true e q rest = (same_known k f g e z, rest q)
    by false e q rest = (q.0, rest q.1)

pub with_known : (f : Fact) (k : Known) (w : List Fact) → AreKnown k (with_check f w) → IsKnown k f × AreKnown k w
with_known f k w h = (h.0, back f k w h.0 h.1)

pub joined_known : (k : Known) (a w : List Fact) → AreKnown k (joined a w) → AreKnown k a × AreKnown k w
joined_known k [] w h = (tt, h)
joined_known k (f ∷ a) w h = let q = with_known f k (joined a w) h in let z = joined_known k a w q.1 in ((q.0, z.0), z.1)

-- behind a simple instruction what is asked behind it is known
pub checks_after : (o : Operation) (w : List Fact) (k : Known) → is_kept (written_by o) (asked_before o w) ≡ true → AreKnown k (asked_before o w) → AreKnown (after_operation o k) w
checks_after (op.Const d z) w k e h = checks_kept d k w e h
checks_after (op.TextOf d x) w k e h = checks_kept d k w e h
checks_after (op.BoolOf d b) w k e h = checks_kept d k w e h
checks_after (op.CharOf d c) w k e h = checks_kept d k w e h
checks_after (op.Null d) w k e h = checks_kept d k w e h
checks_after (op.Move d a) w k e h = checks_kept d k w e h
checks_after (op.Binary o d a b) w k e h = checks_kept d k w e h
checks_after (op.Unary u d a) w k e h = checks_kept d k w e h
checks_after (op.Compare r d a b) w k e h = checks_kept d k w e h
checks_after (op.CheckNull r) w k e h =
    back (fact.Nonnull r) (with_nonnull r k) w (contains_first k.nonnull r) (nonnull_more r k (without_check (fact.Nonnull r) w) h)
checks_after (op.CheckIndex d r i size) w k e h =
    back (fact.Inside d r) (with_inside d r (wrote d k)) w (contains_first (wrote d k).inside (d, r)) (inside_more d r (wrote d k) (without_check (fact.Inside d r) w) (checks_kept d k (without_check (fact.Inside d r) w) e h))
checks_after (op.Len d r) w k e h = checks_kept d k w e h
checks_after (op.Prefetch r off disp) w k e h = h
checks_after (op.Alloc d l) w k e h = checks_kept d k w e h
checks_after (op.AllocArray d l x) w k e h = checks_kept d k w e h
checks_after (op.Print a) w k e h = h
checks_after (op.Println a) w k e h = h
checks_after (op.Printint a) w k e h = h
checks_after (op.Printbool a) w k e h = h
checks_after (op.Printchar a) w k e h = h
checks_after op.Flush w k e h = h
checks_after (op.Assert a) w k e h = h

pub checked : (r : ℕ) (off : Option ℕ) (k : Known) → IsKnown k (place_check r off) → IsChecked k r off
checked r None k h = h
checked r (Some d) k h = h

-- what is known of scopes does not bear on checks
pub checks_at_scope : (ks : List Kind) (s : ℕ) (z : Knows) (k : Known) (w : List Fact) → All (FitsCheck ks) w → AreKnown k w → AreKnown (with_scope s z k) w
checks_at_scope ks s z k [] f h = tt
checks_at_scope ks s z k (g ∷ w) f h = (by g (All-head (FitsCheck ks) g w f) h.0, checks_at_scope ks s z k w (All-tail (FitsCheck ks) g w f) h.1)
  where
    by : (g : Fact) → FitsCheck ks g → IsKnown k g → IsKnown (with_scope s z k) g
    by (fact.Nonnull r) q x = x
    by (fact.Inside d r) q x = x
    by (fact.Aimed t r off disp) q x = absurd q
    by (fact.Shut t) q x = absurd q

-- ---- checks that are asked for

pub fit_without : (ks : List Kind) (f : Fact) (w : List Fact) → AllFit ks w → AllFit ks (without_check f w)
fit_without ks f w h = All-filter (λ (g : Fact). not (is_same_check f g)) (FitsCheck ks) w h

pub fit_with : (ks : List Kind) (f : Fact) (w : List Fact) → FitsCheck ks f → AllFit ks w → AllFit ks (with_check f w)
fit_with ks f w z h = All-cons (FitsCheck ks) f (without_check f w) z (fit_without ks f w h)

pub fit_joined : (ks : List Kind) (a w : List Fact) → AllFit ks a → AllFit ks w → AllFit ks (joined a w)
fit_joined ks [] w f h = h
fit_joined ks (g ∷ a) w f h = fit_with ks g (joined a w) (All-head (FitsCheck ks) g a f) (fit_joined ks a w (All-tail (FitsCheck ks) g a f) h)

pub fit_before : (ks : List Kind) (o : Operation) (w : List Fact) → AllFit ks w → AllFit ks (asked_before o w)
fit_before ks (op.CheckNull r) w h = fit_without ks (fact.Nonnull r) w h
fit_before ks (op.CheckIndex d r i size) w h = fit_without ks (fact.Inside d r) w h
fit_before ks (op.Const d z) w h = h
fit_before ks (op.TextOf d x) w h = h
fit_before ks (op.BoolOf d b) w h = h
fit_before ks (op.CharOf d c) w h = h
fit_before ks (op.Null d) w h = h
fit_before ks (op.Move d a) w h = h
fit_before ks (op.Binary o d a b) w h = h
fit_before ks (op.Unary u d a) w h = h
fit_before ks (op.Compare r d a b) w h = h
fit_before ks (op.Len d r) w h = h
fit_before ks (op.Prefetch r off disp) w h = h
fit_before ks (op.Alloc d l) w h = h
fit_before ks (op.AllocArray d l x) w h = h
fit_before ks (op.Print a) w h = h
fit_before ks (op.Println a) w h = h
fit_before ks (op.Printint a) w h = h
fit_before ks (op.Printbool a) w h = h
fit_before ks (op.Printchar a) w h = h
fit_before ks op.Flush w h = h
fit_before ks (op.Assert a) w h = h

pub fit_place : (ks : List Kind) (r : ℕ) (off : Option ℕ) → is_by_pointer ks r off ≡ true → place_fits ks r off ≡ true → FitsCheck ks (place_check r off)
fit_place ks r None e h = e
fit_place ks r (Some d) e h = h

-- the checks that the entry facts of a block tell are known there
pub entry_checks : (ks : List Kind) (n : ℕ) (t : Table) (w : List Fact) → AllFit ks w → AreKnown (facts_known (listed n t ++ w)) w
entry_checks ks zero t w f = own w f
  where
    own : (w : List Fact) → AllFit ks w → AreKnown (facts_known w) w
    own [] f = tt
    own (fact.Nonnull r ∷ w) f = (contains_first (facts_known w).nonnull r, nonnull_more r (facts_known w) w (own w (All-tail (FitsCheck ks) (fact.Nonnull r) w f)))
    own (fact.Inside d r ∷ w) f = (contains_first (facts_known w).inside (d, r), inside_more d r (facts_known w) w (own w (All-tail (FitsCheck ks) (fact.Inside d r) w f)))
    own (fact.Aimed s r off disp ∷ w) f = absurd (All-head (FitsCheck ks) (fact.Aimed s r off disp) w f)
    own (fact.Shut s ∷ w) f = absurd (All-head (FitsCheck ks) (fact.Shut s) w f)
entry_checks ks (suc n) t w f = by (t n) (entry_checks ks n t w f)
  where
    by : (z : Knows) → AreKnown (facts_known (listed n t ++ w)) w → AreKnown (facts_known ((scope_fact n z ++ listed n t) ++ w)) w
    by Unknown h = h
    by KnownShut h = checks_at_scope ks n KnownShut (facts_known (listed n t ++ w)) w f h
    by (KnownAimed r off disp) h = checks_at_scope ks n (KnownAimed r off disp) (facts_known (listed n t ++ w)) w f h
