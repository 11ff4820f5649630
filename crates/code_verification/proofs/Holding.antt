-- What is known holds after a write, a check and an allocation, and at the entry of a block.
use Rattle.std.proofs.Common.{◌≡◌, ◌≢◌, ◌⊎◌, inl, inr, ℕ, zero, suc, ◌+◌, ◌<◌, Bool, true, false, cond, Option, Some, None, List, [], ◌∷◌, length, get_or, refl, sym, ap, ◌∙◌, subst, arith}
use Rattle.std.specs.Prelude.{◌==◌, ◌||◌, map, not, slice_get, slice_index, slice_set}
use Rattle.std.specs.List.{Contains, filter}
use Rattle.std.specs.Option.{option_map}
use Rattle.std.proofs.lemmas.Bool.Decides.{eqb_tells}
use Rattle.std.proofs.lemmas.List.{get_or-set_other, length-map}
use Rattle.std.proofs.lemmas.List.Elements.{All-contains, All-contains_itself, All-filter, filter_passes}
use Rattle.std.proofs.lemmas.Option.{slice_get-map}
use Rattle.code_form.specs.declared.form.Kind.{Kind}
use Rattle.code_form.specs.declared.form.Fact.{Fact}
use Rattle.code_form.specs.declared.form.Fact.TheVariants as fact
use Rattle.code_form.specs.Form.{Head}
use Rattle.code_form.specs.declared.allocation.Allocation.{Allocation}
use Rattle.code_form.specs.Code.{Scope, Aimed, Stale, is_pointer, is_register, length_of, offset, on_kind, written}
use Rattle.code_form.specs.Known.{Known, Knows, Unknown, KnownShut, KnownAimed, AreKnown, facts_known, forget, with_inside, with_nonnull, with_scope, wrote}
use Rattle.code_verification.proofs.States.{Holds, IsOffset, ScopeIs}
use Rattle.code_verification.proofs.SameKinds.{apart}
use Rattle.code_verification.proofs.Allocations.{length_grown}

-- ---- lists

-- what stands in a list is the first, or one of the others
in_front : {A : Type 0} (y x : A) (xs : List A) (k : ℕ) → k < length (y ∷ xs) → get_or (y ∷ xs) k x ≡ x → (y ≡ x) ⊎ Contains xs x
in_front y x xs zero l e = inl e
in_front y x xs (suc k) l e = inr (k, omega arith, e)

pub cases : {A : Type 0} (y x : A) (xs : List A) → Contains (y ∷ xs) x → (y ≡ x) ⊎ Contains xs x
cases y x xs h = in_front y x xs h.0 h.1 h.2

-- what is kept stood there, and passes the test
kept : {A : Type 0} (p : A → Bool) (xs : List A) (x : A) → Contains (filter p xs) x → Contains xs x × (p x ≡ true)
kept p xs x h = (
  All-contains (Contains xs) (filter p xs) x (All-filter p (Contains xs) xs (All-contains_itself xs)) h,
  All-contains (λ y. p y ≡ true) (filter p xs) x (filter_passes p xs) h,
)

pub none : {A : Type 0} (x : A) → Contains [] x → ⊥
none x h = let l = h.1 in omega (arith, l)

not_true : (b : Bool) → not b ≡ true → b ≡ false
not_true true e = absurd (cc e)
not_true false e = refl

neither : (a b : Bool) → a || b ≡ false → (a ≡ false) × (b ≡ false)
neither true b e = absurd (cc e)
neither false b e = (refl, e)

-- ---- a register is written

register_other : (rs : List ℕ) (d v r : ℕ) → r ≢ d → slice_index (slice_set rs d v) r ≡ slice_index rs r
register_other rs d v r n = get_or-set_other rs d r v 0 n

offset_other : (rs : List ℕ) (d v : ℕ) (off : Option ℕ) → is_register d off ≡ false → offset (slice_set rs d v) off ≡ offset rs off
offset_other rs d v None e = refl
offset_other rs d v (Some r) e = register_other rs d v r (λ s. apart d r e (sym s))

scope_written : (rs : List ℕ) (d v : ℕ) (z : Knows) (x : Option Scope) → ScopeIs rs z x → ScopeIs (slice_set rs d v) (forget d z) (option_map (written d) x)
scope_written rs d v Unknown x h = tt
scope_written rs d v KnownShut x h = ap (option_map (written d)) h
scope_written rs d v (KnownAimed r off i) x h = by_test ((d == r) || is_register d off) refl
  where
    by_test : (b : Bool) → ((d == r) || is_register d off) ≡ b → ScopeIs (slice_set rs d v) (cond b Unknown (KnownAimed r off i)) (option_map (written d) x)
    by_test true e = tt
    by_test false e =
        let n = neither (d == r) (is_register d off) e in
        ap (option_map (written d)) h
        ∙ ap (λ b. Some (cond b (Stale (slice_index rs r) (offset rs off + i)) (Aimed r off i (slice_index rs r) (offset rs off + i)))) e
        ∙ ap (λ q. Some (Aimed r off i q (offset rs off + i))) (sym (register_other rs d v r (λ s. apart d r n.0 (sym s))))
        ∙ ap (λ y. Some (Aimed r off i (slice_index (slice_set rs d v) r) (y + i))) (sym (offset_other rs d v off n.1))

module _ (H : Head) (al : List Allocation) (ks : List Kind) where
  offset_written : (rs : List ℕ) (d v e r : ℕ) → e ≢ d → r ≢ d → IsOffset H al ks rs e r → IsOffset H al ks (slice_set rs d v) e r
  offset_written rs d v e r n m z = record {
    layout = z.layout;
    cells = z.cells;
    index = z.index;
    array = z.array;
    offsets = z.offsets;
    element = z.element;
    place = register_other rs d v e n ∙ z.place;
    inside = subst (λ q. z.index < length_of al q) (sym (register_other rs d v r m)) z.inside;
  }

  pub holds_written : (rs : List ℕ) (scopes : List Scope) (k : Known) (d v : ℕ) → Holds H al ks rs scopes k → Holds H al ks (slice_set rs d v) (map (written d) scopes) (wrote d k)
  holds_written rs scopes k d v h = record {
    nonnull = λ r c.
        let n = kept (λ (q : ℕ). not (d == q)) k.nonnull r c in
        let z = h.nonnull r n.0 in
        (z.0, subst (λ q. q ≢ 0) (sym (register_other rs d v r (λ s. apart d r (not_true (d == r) n.1) (sym s)))) z.1);
    inside = λ e r c.
        let n = kept (λ (p : ℕ × ℕ). not ((d == p.0) || (d == p.1))) k.inside (e, r) c in
        let m = neither (d == e) (d == r) (not_true ((d == e) || (d == r)) n.1) in
        offset_written rs d v e r (λ s. apart d e m.0 (sym s)) (λ s. apart d r m.1 (sym s)) (h.inside e r n.0);
    scope = λ s l.
        subst (ScopeIs (slice_set rs d v) (forget d (k.scope s))) (sym (slice_get-map (written d) scopes s))
        (scope_written rs d v (k.scope s) (slice_get scopes s) (h.scope s (let same = length-map scopes (written d) in omega (arith, l, same))));
  }

  -- ---- checks

  pub holds_nonnull : (rs : List ℕ) (scopes : List Scope) (k : Known) (r : ℕ) → (on_kind is_pointer (slice_get ks r) ≡ true) × (slice_index rs r ≢ 0) → Holds H al ks rs scopes k → Holds H al ks rs scopes (with_nonnull r k)
  holds_nonnull rs scopes k r n h = record {
    nonnull = λ q c. elim (cases r q k.nonnull c) [
      | inl s ↦ subst (λ x. (on_kind is_pointer (slice_get ks x) ≡ true) × (slice_index rs x ≢ 0)) s n
      | inr t ↦ h.nonnull q t
    ];
    inside = h.inside;
    scope = h.scope;
  }

  pub holds_inside : (rs : List ℕ) (scopes : List Scope) (k : Known) (d r : ℕ) → IsOffset H al ks rs d r → Holds H al ks rs scopes k → Holds H al ks rs scopes (with_inside d r k)
  holds_inside rs scopes k d r n h = record {
    nonnull = h.nonnull;
    inside = λ e q c. elim (cases (d, r) (e, q) k.inside c) [
      | inl s ↦ subst (λ (x : ℕ × ℕ). IsOffset H al ks rs x.0 x.1) s n
      | inr t ↦ h.inside e q t
    ];
    scope = h.scope;
  }

  -- ---- entries

  -- a scope is as it is told
  holds_told : (rs : List ℕ) (scopes : List Scope) (k : Known) (s : ℕ) (z : Knows) → (s < length scopes → ScopeIs rs z (slice_get scopes s)) → Holds H al ks rs scopes k → Holds H al ks rs scopes (with_scope s z k)
  holds_told rs scopes k s z n h = record {
    nonnull = h.nonnull;
    inside = h.inside;
    scope = λ t l. elim (eqb_tells t s) [
      | inl f ↦ subst (λ b. ScopeIs rs (cond b z (k.scope t)) (slice_get scopes t)) (sym f.0)
          (subst (λ q. ScopeIs rs z (slice_get scopes q)) (sym f.1) (n (subst (λ q. q < length scopes) f.1 l)))
      | inr f ↦ subst (λ b. ScopeIs rs (cond b z (k.scope t)) (slice_get scopes t)) (sym f.0) (h.scope t l)
    ];
  }

  -- where all entry facts are known, all that they tell holds
  pub holds_entered : (rs : List ℕ) (scopes : List Scope) (k : Known) (facts : List Fact) → AreKnown k facts → Holds H al ks rs scopes k → Holds H al ks rs scopes (facts_known facts)
  holds_entered rs scopes k [] a h = record { nonnull = λ r c. absurd (none r c); inside = λ d r c. absurd (none (d, r) c); scope = λ s l. tt }
  holds_entered rs scopes k (fact.Nonnull r ∷ rest) a h = holds_nonnull rs scopes (facts_known rest) r (h.nonnull r a.0) (holds_entered rs scopes k rest a.1 h)
  holds_entered rs scopes k (fact.Inside d r ∷ rest) a h = holds_inside rs scopes (facts_known rest) d r (h.inside d r a.0) (holds_entered rs scopes k rest a.1 h)
  holds_entered rs scopes k (fact.Aimed s r off disp ∷ rest) a h =
      holds_told rs scopes (facts_known rest) s (KnownAimed r off disp) (λ l. subst (λ z. ScopeIs rs z (slice_get scopes s)) a.0 (h.scope s l)) (holds_entered rs scopes k rest a.1 h)
  holds_entered rs scopes k (fact.Shut s ∷ rest) a h =
      holds_told rs scopes (facts_known rest) s KnownShut (λ l. subst (λ z. ScopeIs rs z (slice_get scopes s)) a.0 (h.scope s l)) (holds_entered rs scopes k rest a.1 h)

-- ---- allocations

pub holds_grown : (H : Head) (b : Allocation) (al : List Allocation) (ks : List Kind) (rs : List ℕ) (scopes : List Scope) (k : Known) → Holds H al ks rs scopes k → Holds H (b ∷ al) ks rs scopes k
holds_grown H b al ks rs scopes k h = record {
  nonnull = h.nonnull;
  inside = λ d r c.
      let z = h.inside d r c in
      record { layout = z.layout; cells = z.cells; index = z.index; array = z.array; offsets = z.offsets; element = z.element; place = z.place; inside = length_grown b al (slice_index rs r) z.index z.inside };
  scope = h.scope;
}
