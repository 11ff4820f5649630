-- What is known, as tests and as facts.
use Rattle.std.proofs.Common.{◌≡◌, inl, inr, ℕ, zero, suc, ◌<◌, Bool, true, Option, Some, None, List, [], ◌∷◌, get_or, refl, ap, sym, subst, ◌∙◌, arith}
use Rattle.std.specs.Prelude.{◌==◌, ◌&&◌, nat_lt}
use Rattle.std.specs.Bool.{Decides}
use Rattle.std.specs.List.{Contains, list_any}
use Rattle.std.proofs.lemmas.Bool.{cases_lt}
use Rattle.std.proofs.lemmas.Bool.Decides.{Decides-eqb, Decides-ltb}
use Rattle.std.proofs.lemmas.List.Folds.{Any-from_list_any, list_any_at}
use Rattle.code_form.specs.declared.form.Kind.{Kind}
use Rattle.code_form.specs.declared.form.Fact.{Fact}
use Rattle.code_form.specs.declared.form.Fact.TheVariants as fact
use Rattle.code_form.specs.Code.{place_fits}
use Rattle.code_form.specs.Known.{AreKnown, IsKnown, Known, KnownAimed, KnownShut, Knows, Unknown}
use Rattle.code_form.specs.Asked.{IsChecked}
use Rattle.code_verification.specs.Verified.{NamesFact}
use Rattle.scope_verifier_laws.specs.Decided.{are_known, are_shut, is_aimed, is_checked, is_inside, is_known, is_nonnull, is_offset, is_shut, names_fact}
use Rattle.scope_verifier_laws.proofs.Firsts.{and_true, both_true}

pub eq : (a b : ℕ) → a == b ≡ true → a ≡ b
eq a b = (Decides-eqb a b).0

pub same : (a : ℕ) → a == a ≡ true
same a = (Decides-eqb a a).1 refl

pub less : (a b : ℕ) → nat_lt a b ≡ true → a < b
less a b = (Decides-ltb a b).0

pub is_less : (a b : ℕ) → a < b → nat_lt a b ≡ true
is_less a b = (Decides-ltb a b).1

found : {A : Type 0} (test : A → Bool) (xs : List A) (x : A) → ((y : A) → test y ≡ true → y ≡ x) → list_any test xs ≡ true → Contains xs x
found {A = A} test xs x h e =
    let a = Any-from_list_any test xs e in
    let y : A = a.1 in
    let s : y ≡ x = h y a.4 in
    (a.0, a.2, subst (λ (z : A). get_or xs a.0 z ≡ z) s a.3)

finds : {A : Type 0} (test : A → Bool) (xs : List A) (x : A) → test x ≡ true → Contains xs x → list_any test xs ≡ true
finds {A = A} test xs x p h = list_any_at test xs h.0 x h.1 (subst (λ (z : A). test z ≡ true) (sym h.2) p)

pub nonnull_decides : (k : Known) (r : ℕ) → Decides (is_nonnull k r) (Contains k.nonnull r)
nonnull_decides k r = (found (λ x. x == r) k.nonnull r (λ y. eq y r), finds (λ x. x == r) k.nonnull r (same r))

pair_is : (d r : ℕ) (p : ℕ × ℕ) → (p.0 == d) && (p.1 == r) ≡ true → p ≡ (d, r)
pair_is d r p e =
    let q = both_true (p.0 == d) (p.1 == r) e in
    let a : p.0 ≡ d = eq p.0 d q.0 in
    let b : p.1 ≡ r = eq p.1 r q.1 in
    ap (λ (x : ℕ). (x, p.1)) a ∙ ap (λ (y : ℕ). (d, y)) b

pub inside_decides : (k : Known) (d r : ℕ) → Decides (is_inside k d r) (Contains k.inside (d, r))
inside_decides k d r = (
  found (λ (p : ℕ × ℕ). (p.0 == d) && (p.1 == r)) k.inside (d, r) (pair_is d r),
  finds (λ (p : ℕ × ℕ). (p.0 == d) && (p.1 == r)) k.inside (d, r) (and_true (d == d) (r == r) (same d) (same r)),
)

offset_is : (e off : Option ℕ) → is_offset e off ≡ true → e ≡ off
offset_is None None h = refl
offset_is None (Some d) h = absurd (cc h)
offset_is (Some e) None h = absurd (cc h)
offset_is (Some e) (Some d) h = ap Some (eq e d h)

same_offset : (off : Option ℕ) → is_offset off off ≡ true
same_offset None = refl
same_offset (Some d) = same d

aimed_is : (r : ℕ) (off : Option ℕ) (disp : ℕ) (z : Knows) → is_aimed r off disp z ≡ true → z ≡ KnownAimed r off disp
aimed_is r off disp Unknown h = absurd (cc h)
aimed_is r off disp KnownShut h = absurd (cc h)
aimed_is r off disp (KnownAimed q e i) h =
    let x = both_true (q == r) (is_offset e off && (i == disp)) h in
    let y = both_true (is_offset e off) (i == disp) x.1 in
    let a : q ≡ r = eq q r x.0 in
    let b : e ≡ off = offset_is e off y.0 in
    let c : i ≡ disp = eq i disp y.1 in
    ap (λ (n : ℕ). KnownAimed n e i) a ∙ ap (λ (n : Option ℕ). KnownAimed r n i) b ∙ ap (λ (n : ℕ). KnownAimed r off n) c

aims_itself : (r : ℕ) (off : Option ℕ) (disp : ℕ) → is_aimed r off disp (KnownAimed r off disp) ≡ true
aims_itself r off disp = and_true (r == r) (is_offset off off && (disp == disp)) (same r) (and_true (is_offset off off) (disp == disp) (same_offset off) (same disp))

pub aimed_decides : (r : ℕ) (off : Option ℕ) (disp : ℕ) (z : Knows) → Decides (is_aimed r off disp z) (z ≡ KnownAimed r off disp)
aimed_decides r off disp z = (aimed_is r off disp z, λ e. subst (λ (y : Knows). is_aimed r off disp y ≡ true) (sym e) (aims_itself r off disp))

shut_is : (z : Knows) → is_shut z ≡ true → z ≡ KnownShut
shut_is Unknown h = absurd (cc h)
shut_is KnownShut h = refl
shut_is (KnownAimed q e i) h = absurd (cc h)

pub shut_decides : (z : Knows) → Decides (is_shut z) (z ≡ KnownShut)
shut_decides z = (shut_is z, λ e. subst (λ (y : Knows). is_shut y ≡ true) (sym e) refl)

pub known_decides : (k : Known) (x : Fact) → Decides (is_known k x) (IsKnown k x)
known_decides k (fact.Nonnull r) = nonnull_decides k r
known_decides k (fact.Inside d r) = inside_decides k d r
known_decides k (fact.Aimed s r off disp) = aimed_decides r off disp (k.scope s)
known_decides k (fact.Shut s) = shut_decides (k.scope s)

known : (k : Known) (facts : List Fact) → are_known k facts ≡ true → AreKnown k facts
known k [] e = tt
known k (x ∷ facts) e = let q = both_true (is_known k x) (are_known k facts) e in ((known_decides k x).0 q.0, known k facts q.1)

tested : (k : Known) (facts : List Fact) → AreKnown k facts → are_known k facts ≡ true
tested k [] h = refl
tested k (x ∷ facts) h = and_true (is_known k x) (are_known k facts) ((known_decides k x).1 h.0) (tested k facts h.1)

pub all_decides : (k : Known) (facts : List Fact) → Decides (are_known k facts) (AreKnown k facts)
all_decides k facts = (known k facts, tested k facts)

pub checked_decides : (k : Known) (r : ℕ) (off : Option ℕ) → Decides (is_checked k r off) (IsChecked k r off)
checked_decides k r None = nonnull_decides k r
checked_decides k r (Some d) = inside_decides k d r

pub shut_below : (k : Known) (n : ℕ) → are_shut k n ≡ true → (s : ℕ) → s < n → k.scope s ≡ KnownShut
shut_below k zero e s l = absurd (let z : ⊥ = omega arith in z)
shut_below k (suc n) e s l =
    let q = both_true (are_shut k n) (is_shut (k.scope n)) e in
    elim (cases_lt s n) [
      | inl m ↦ shut_below k n q.0 s m
      | inr m ↦ let same : n ≡ s = omega arith in subst (λ (t : ℕ). k.scope t ≡ KnownShut) same (shut_is (k.scope n) q.1)
    ]

pub below_shut : (k : Known) (n : ℕ) → ((s : ℕ) → s < n → k.scope s ≡ KnownShut) → are_shut k n ≡ true
below_shut k zero h = refl
below_shut k (suc n) h = and_true (are_shut k n) (is_shut (k.scope n)) (below_shut k n (λ s l. h s (omega arith))) ((shut_decides (k.scope n)).1 (h n (omega arith)))

pub names_decides : (ks : List Kind) (scopes : ℕ) (x : Fact) → Decides (names_fact ks scopes x) (NamesFact ks scopes x)
names_decides ks scopes (fact.Nonnull r) = ((λ h. h), (λ h. h))
names_decides ks scopes (fact.Inside d r) = ((λ h. h), (λ h. h))
names_decides ks scopes (fact.Aimed s r off disp) = (
  λ h. let q = both_true (nat_lt s scopes) (place_fits ks r off) h in (less s scopes q.0, q.1),
  λ h. and_true (nat_lt s scopes) (place_fits ks r off) (is_less s scopes h.0) h.1,
)
names_decides ks scopes (fact.Shut s) = (less s scopes, is_less s scopes)
