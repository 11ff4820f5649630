-- What is shown is what is known: at the head of a block, and behind each change.
use Rattle.std.proofs.Common.{◌≡◌, ◌≢◌, ◌⊎◌, inl, inr, ℕ, ◌+◌, ◌<◌, ◌≤◌, Bool, true, false, Option, Some, None, List, [], ◌∷◌, ◌++◌, length, get_or, refl, sym, ap, ◌∙◌, subst, arith}
use Rattle.std.specs.Prelude.{◌==◌, ◌&&◌, ◌||◌, All, cond, nat_le, not, slice_index, slice_index_or, slice_set}
use Rattle.std.specs.List.{filter, list_any}
use Rattle.std.specs.declared.vec.Vec.{Vec}
use Rattle.std.specs.declared.alloc.Global.{Global}
use Rattle.std.proofs.lemmas.Bool.{cases_lt, le-leb}
use Rattle.std.proofs.lemmas.Bool.Decides.{eqb_tells, leb_tells}
use Rattle.std.proofs.lemmas.List.{get_or-set_other, get_or-set_same, get_or_past, length-map, length-set}
use Rattle.std.proofs.lemmas.List.Elements.{All-append, All-cons, All-filter, All-get_or, All-nil, All-set, All-weaker}
use Rattle.std.proofs.lemmas.List.Folds.{list_any-append, list_any_none}
use Rattle.code_form.specs.Code.{is_register}
use Rattle.code_form.specs.Known.{Known, KnownAimed, Unknown, forget, nothing, with_inside, with_nonnull, with_scope, wrote}
use Rattle.scope_verifier_laws.specs.Decided.{is_inside, is_nonnull}
use Rattle.scope_verifier.specs.declared.knowledge.Check.{Check}
use Rattle.scope_verifier.specs.declared.knowledge.Knowledge.{Knowledge}
use Rattle.scope_verifier.specs.declared.knowledge.ScopeState.{ScopeState}
use Rattle.scope_verifier.specs.declared.knowledge.ScopeState.TheVariants as state
use Rattle.scope_verifier.specs.declared.knowledge.Told.{Told}
use Rattle.scope_verifier.specs.Shown.{IsReady, Shows, checks, is_check, is_fresh, kept, never, offset_fresh, shows_inside, shows_nonnull, shows_scope, state_of, told_now}
use Rattle.scope_verifier.proofs.Lists.{any_dropped, any_kept}

-- ---- tests

late : (a b : ℕ) → b < a → nat_le a b ≡ false
late a b l = elim (leb_tells a b) [
  | inl e ↦ absurd (let m = e.1 in let z : ⊥ = omega (arith, l, m) in z)
  | inr e ↦ e.0
]

eq : (a b : ℕ) → a == b ≡ true → a ≡ b
eq a b e = elim (eqb_tells a b) [
  | inl h ↦ h.1
  | inr h ↦ absurd (let f = h.0 in cc (e, f))
]

apart : (a b : ℕ) → a == b ≡ false → a ≢ b
apart a b e = elim (eqb_tells a b) [
  | inl h ↦ absurd (let f = h.0 in cc (e, f))
  | inr h ↦ h.1
]

same : (a : ℕ) → a == a ≡ true
same a = elim (eqb_tells a a) [
  | inl h ↦ h.0
  | inr h ↦ absurd (h.1 refl)
]

second_false : (a b : Bool) → b ≡ false → a && b ≡ false
second_false true b e = e
second_false false b e = refl

both : (a b : Bool) → a ≡ true → b ≡ true → a && b ≡ true
both true b e f = f
both false b e f = absurd (cc e)

halves : (a b : Bool) → a && b ≡ true → (a ≡ true) × (b ≡ true)
halves true b e = (refl, e)
halves false b e = absurd (cc e)

neither : (a b : Bool) → a || b ≡ false → (a ≡ false) × (b ≡ false)
neither true b e = absurd (cc e)
neither false b e = (refl, e)

either : (a b : Bool) → a || b ≡ true → (a ≡ true) ⊎ (b ≡ true)
either true b e = inl refl
either false b e = inr e

turned : (a b : Bool) → a || (b || false) ≡ b || a
turned true true = refl
turned true false = refl
turned false true = refl
turned false false = refl

-- ---- times

below : (c : ℕ) (xs : List ℕ) → All (λ t. t ≤ c) xs → (r : ℕ) → slice_index xs r ≤ c
below c xs h r = elim (cases_lt r (length xs)) [
  | inl l ↦ All-get_or (λ t. t ≤ c) xs r 0 l h
  | inr l ↦ let e : get_or xs r 0 ≡ 0 = get_or_past xs r 0 l in omega (arith, e)
]

checks_below : (c : ℕ) (xs : List (List Check)) → All (All (λ (x : Check). x.at ≤ c)) xs → (d : ℕ) → All (λ (x : Check). x.at ≤ c) (get_or xs d [])
checks_below c xs h d = elim (cases_lt d (length xs)) [
  | inl l ↦ All-get_or (All (λ (x : Check). x.at ≤ c)) xs d [] l h
  | inr l ↦ subst (All (λ (x : Check). x.at ≤ c)) (sym (get_or_past xs d [] l)) (All-nil (λ (x : Check). x.at ≤ c))
]

told_below : (c : ℕ) (xs : List Told) → All (λ (t : Told). t.at ≤ c) xs → (s : ℕ) → (get_or xs s never).at ≤ c
told_below c xs h s = elim (cases_lt s (length xs)) [
  | inl l ↦ All-get_or (λ (t : Told). t.at ≤ c) xs s never l h
  | inr l ↦ subst (λ (t : Told). t.at ≤ c) (sym (get_or_past xs s never l)) (omega arith)
]

module _ (R S : ℕ) (n : Knowledge) where
  abbrev written : List ℕ
  written = n.written.items

  -- ---- a block begins

  module _ (t : ℕ) (now : t ≡ n.clock + 1) (h : IsReady R S n) where
    abbrev begun : Knowledge
    begun = record n { clock = t; since = t }

    later : (x : ℕ) → x ≤ n.clock → x ≤ t
    later x l = omega (arith, l, now)

    begun_ready : IsReady R S begun
    begun_ready = record {
      since = omega arith;
      written = All-weaker (λ x. x ≤ n.clock) (λ x. x ≤ t) later n.written.items h.written;
      nonnull = All-weaker (λ x. x ≤ n.clock) (λ x. x ≤ t) later n.nonnull.items h.nonnull;
      inside = All-weaker (All (λ (c : Check). c.at ≤ n.clock)) (All (λ (c : Check). c.at ≤ t))
          (λ xs a. All-weaker (λ (c : Check). c.at ≤ n.clock) (λ (c : Check). c.at ≤ t) (λ c l. later c.at l) xs a) (checks n.inside.items) h.inside;
      told = All-weaker (λ (x : Told). x.at ≤ n.clock) (λ (x : Told). x.at ≤ t) (λ x l. later x.at l) n.scopes.items h.told;
      written_all = h.written_all;
      nonnull_all = h.nonnull_all;
      inside_all = h.inside_all;
      scopes_all = h.scopes_all;
    }

    past : (x : ℕ) → x ≤ n.clock → nat_le t x ≡ false
    past x l = late t x (omega (arith, l, now))

    no_nonnull : (r : ℕ) → shows_nonnull begun r ≡ false
    no_nonnull r = ap (λ b. b && nat_le (slice_index written r) (slice_index n.nonnull.items r)) (past (slice_index n.nonnull.items r) (below n.clock n.nonnull.items h.nonnull r))

    no_check : (d r : ℕ) (c : Check) → c.at ≤ n.clock → is_check t (slice_index written d) (slice_index written r) r c ≡ false
    no_check d r c l =
        second_false (c.array == r) (is_fresh t (slice_index written d) c.at && nat_le (slice_index written r) c.at)
        (ap (λ b. (b && nat_le (slice_index written d) c.at) && nat_le (slice_index written r) c.at) (past c.at l))

    no_inside : (d r : ℕ) → shows_inside begun d r ≡ false
    no_inside d r =
        let list = slice_index_or (checks n.inside.items) d [] in
        let test = is_check t (slice_index written d) (slice_index written r) r in
        list_any_none test list (All-weaker (λ (c : Check). c.at ≤ n.clock) (λ c. test c ≡ false) (no_check d r) list (checks_below n.clock (checks n.inside.items) h.inside d))

    no_scope : (s : ℕ) → shows_scope begun s ≡ Unknown
    no_scope s =
        let x = slice_index_or n.scopes.items s never in
        ap (λ b. cond b (kept written x.at x.state) Unknown) (past x.at (told_below n.clock n.scopes.items h.told s))

    pub began : Shows R S (record n { clock = t; since = t }) nothing
    began = record { ready = begun_ready; nonnull = no_nonnull; inside = no_inside; scope = no_scope }

  -- ---- a register is written

  module _ (t : ℕ) (w : Vec ℕ Global) (d : ℕ) (k : Known) (now : t ≡ n.clock + 1) (is : w.items ≡ slice_set n.written.items d t) (there : d < R) (h : Shows R S n k) where
    abbrev changed : Knowledge
    changed = record n { clock = t; written = w }

    latest : (x : ℕ) → x ≤ n.clock → x ≤ t
    latest x l = omega (arith, l, now)

    written_here : (r : ℕ) → d ≡ r → slice_index w.items r ≡ t
    written_here r e =
        let long : d < length n.written.items = let a = h.ready.written_all in omega (arith, a, there) in
        ap (λ (x : List ℕ). slice_index x r) is ∙ ap (slice_index (slice_set n.written.items d t)) (sym e) ∙ get_or-set_same n.written.items d t 0 long

    written_there : (r : ℕ) → d ≢ r → slice_index w.items r ≡ slice_index written r
    written_there r a = ap (λ (x : List ℕ). slice_index x r) is ∙ get_or-set_other n.written.items d r t 0 (λ e. a (sym e))

    -- what was learned before the write of a register does not hold of it any more
    stale : (r x : ℕ) → d ≡ r → x ≤ n.clock → nat_le (slice_index w.items r) x ≡ false
    stale r x e l = ap (λ y. nat_le y x) (written_here r e) ∙ late t x (omega (arith, l, now))

    nonnull_here : (r : ℕ) → d == r ≡ true → shows_nonnull changed r ≡ is_nonnull (wrote d k) r
    nonnull_here r e =
        let at = slice_index n.nonnull.items r in
        second_false (nat_le n.since at) (nat_le (slice_index w.items r) at) (stale r at (eq d r e) (below n.clock n.nonnull.items h.ready.nonnull r))
        ∙ sym (any_dropped (λ x. x == r) (λ x. not (d == x)) k.nonnull (λ x f. ap not (ap (λ y. d == y) (eq x r f) ∙ e)))

    nonnull_there : (r : ℕ) → d == r ≡ false → shows_nonnull changed r ≡ is_nonnull (wrote d k) r
    nonnull_there r e =
        let at = slice_index n.nonnull.items r in
        ap (λ y. is_fresh n.since y at) (written_there r (apart d r e))
        ∙ h.nonnull r
        ∙ sym (any_kept (λ x. x == r) (λ x. not (d == x)) k.nonnull (λ x f. ap not (ap (λ y. d == y) (eq x r f) ∙ e)))

    nonnull_by : (r : ℕ) (b : Bool) → d == r ≡ b → shows_nonnull changed r ≡ is_nonnull (wrote d k) r
    nonnull_by r true e = nonnull_here r e
    nonnull_by r false e = nonnull_there r e

    -- a pair that names the register
    abbrev names : ℕ × ℕ → Bool
    names p = (d == p.0) || (d == p.1)

    abbrev pair : ℕ → ℕ → ℕ × ℕ → Bool
    pair o r p = (p.0 == o) && (p.1 == r)

    same_pair : (o r : ℕ) (p : ℕ × ℕ) → pair o r p ≡ true → names p ≡ (d == o) || (d == r)
    same_pair o r p e =
        let q = halves (p.0 == o) (p.1 == r) e in
        ap (λ y. (d == y) || (d == p.1)) (eq p.0 o q.0) ∙ ap (λ y. (d == o) || (d == y)) (eq p.1 r q.1)

    no_check_now : (o r : ℕ) → (d == o) || (d == r) ≡ true → (c : Check) → c.at ≤ n.clock → is_check n.since (slice_index w.items o) (slice_index w.items r) r c ≡ false
    no_check_now o r e c l = second_false (c.array == r) (is_fresh n.since (slice_index w.items o) c.at && nat_le (slice_index w.items r) c.at) (elim (either (d == o) (d == r) e) [
      | inl f ↦ ap (λ b. (nat_le n.since c.at && b) && nat_le (slice_index w.items r) c.at) (stale o c.at (eq d o f) l) ∙ ap (λ b. b && nat_le (slice_index w.items r) c.at) (second_false (nat_le n.since c.at) false refl)
      | inr f ↦ second_false (is_fresh n.since (slice_index w.items o) c.at) (nat_le (slice_index w.items r) c.at) (stale r c.at (eq d r f) l)
    ])

    inside_by : (o r : ℕ) (b : Bool) → (d == o) || (d == r) ≡ b → shows_inside changed o r ≡ is_inside (wrote d k) o r
    inside_by o r true e =
        let list = slice_index_or (checks n.inside.items) o [] in
        let test = is_check n.since (slice_index w.items o) (slice_index w.items r) r in
        list_any_none test list (All-weaker (λ (c : Check). c.at ≤ n.clock) (λ c. test c ≡ false) (no_check_now o r e) list (checks_below n.clock (checks n.inside.items) h.ready.inside o))
        ∙ sym (any_dropped (pair o r) (λ p. not (names p)) k.inside (λ p f. ap not (same_pair o r p f ∙ e)))
    inside_by o r false e =
        let list = slice_index_or (checks n.inside.items) o [] in
        let q = neither (d == o) (d == r) e in
        ap (λ y. list_any (is_check n.since y (slice_index w.items r) r) list) (written_there o (apart d o q.0))
        ∙ ap (λ y. list_any (is_check n.since (slice_index written o) y r) list) (written_there r (apart d r q.1))
        ∙ h.inside o r
        ∙ sym (any_kept (pair o r) (λ p. not (names p)) k.inside (λ p f. ap not (same_pair o r p f ∙ e)))

    -- the offset of an aim
    offset_stale : (off : Option ℕ) (x : ℕ) → is_register d off ≡ true → x ≤ n.clock → offset_fresh w.items off x ≡ false
    offset_stale None x e l = absurd (cc e)
    offset_stale (Some o) x e l = stale o x (eq d o e) l

    offset_there : (off : Option ℕ) (x : ℕ) → is_register d off ≡ false → offset_fresh w.items off x ≡ offset_fresh written off x
    offset_there None x e = refl
    offset_there (Some o) x e = ap (λ y. nat_le y x) (written_there o (apart d o e))

    forgotten : (r : ℕ) (off : Option ℕ) (disp : ℕ) (b : Bool) → (d == r) || is_register d off ≡ true → Unknown ≡ forget d (cond b (KnownAimed r off disp) Unknown)
    forgotten r off disp true e = ap (λ c. cond c Unknown (KnownAimed r off disp)) (sym e)
    forgotten r off disp false e = refl

    remembered : (r : ℕ) (off : Option ℕ) (disp : ℕ) (b : Bool) → (d == r) || is_register d off ≡ false → cond b (KnownAimed r off disp) Unknown ≡ forget d (cond b (KnownAimed r off disp) Unknown)
    remembered r off disp true e = ap (λ c. cond c Unknown (KnownAimed r off disp)) (sym e)
    remembered r off disp false e = refl

    aim_by : (at r : ℕ) (off : Option ℕ) (disp : ℕ) (b : Bool) → at ≤ n.clock → (d == r) || is_register d off ≡ b → kept w.items at (state.Aimed r off disp) ≡ forget d (kept written at (state.Aimed r off disp))
    aim_by at r off disp true l e =
        let none : nat_le (slice_index w.items r) at && offset_fresh w.items off at ≡ false = elim (either (d == r) (is_register d off) e) [
          | inl f ↦ ap (λ b. b && offset_fresh w.items off at) (stale r at (eq d r f) l)
          | inr f ↦ second_false (nat_le (slice_index w.items r) at) (offset_fresh w.items off at) (offset_stale off at f l)
        ] in
        ap (λ b. cond b (KnownAimed r off disp) Unknown) none ∙ forgotten r off disp (nat_le (slice_index written r) at && offset_fresh written off at) e
    aim_by at r off disp false l e =
        let q = neither (d == r) (is_register d off) e in
        ap (λ y. cond (nat_le y at && offset_fresh w.items off at) (KnownAimed r off disp) Unknown) (written_there r (apart d r q.0))
        ∙ ap (λ b. cond (nat_le (slice_index written r) at && b) (KnownAimed r off disp) Unknown) (offset_there off at q.1)
        ∙ remembered r off disp (nat_le (slice_index written r) at && offset_fresh written off at) e

    state_kept : (at : ℕ) (x : ScopeState) → at ≤ n.clock → kept w.items at x ≡ forget d (kept written at x)
    state_kept at state.Unknown l = refl
    state_kept at state.Shut l = refl
    state_kept at (state.Aimed r off disp) l = aim_by at r off disp ((d == r) || is_register d off) l refl

    told_by : (x : Told) (b : Bool) → x.at ≤ n.clock → cond b (kept w.items x.at x.state) Unknown ≡ forget d (cond b (kept written x.at x.state) Unknown)
    told_by x true l = state_kept x.at x.state l
    told_by x false l = refl

    changed_ready : IsReady R S changed
    changed_ready = record {
      since = latest n.since h.ready.since;
      written = subst (All (λ x. x ≤ t)) (sym is) (All-set (λ x. x ≤ t) n.written.items d t (omega arith) (All-weaker (λ x. x ≤ n.clock) (λ x. x ≤ t) latest n.written.items h.ready.written));
      nonnull = All-weaker (λ x. x ≤ n.clock) (λ x. x ≤ t) latest n.nonnull.items h.ready.nonnull;
      inside = All-weaker (All (λ (c : Check). c.at ≤ n.clock)) (All (λ (c : Check). c.at ≤ t))
          (λ xs a. All-weaker (λ (c : Check). c.at ≤ n.clock) (λ (c : Check). c.at ≤ t) (λ c l. latest c.at l) xs a) (checks n.inside.items) h.ready.inside;
      told = All-weaker (λ (x : Told). x.at ≤ n.clock) (λ (x : Told). x.at ≤ t) (λ x l. latest x.at l) n.scopes.items h.ready.told;
      written_all = ap (length {A = ℕ}) is ∙ length-set n.written.items d t ∙ h.ready.written_all;
      nonnull_all = h.ready.nonnull_all;
      inside_all = h.ready.inside_all;
      scopes_all = h.ready.scopes_all;
    }

    pub written_shows : Shows R S (record n { clock = t; written = w }) (wrote d k)
    written_shows = record {
      ready = changed_ready;
      nonnull = λ r. nonnull_by r (d == r) refl;
      inside = λ o r. inside_by o r ((d == o) || (d == r)) refl;
      scope = λ s. let x = slice_index_or n.scopes.items s never in told_by x (nat_le n.since x.at) (told_below n.clock n.scopes.items h.ready.told s) ∙ ap (forget d) (h.scope s);
    }

  -- ---- a register is found not to be NULL

  module _ (v : Vec ℕ Global) (q : ℕ) (k : Known) (is : v.items ≡ slice_set n.nonnull.items q n.clock) (there : q < R) (h : Shows R S n k) where
    abbrev found : Knowledge
    found = record n { nonnull = v }

    found_by : (r : ℕ) (b : Bool) → q == r ≡ b → shows_nonnull found r ≡ b || is_nonnull k r
    found_by r true e =
        let long : q < length n.nonnull.items = let a = h.ready.nonnull_all in omega (arith, a, there) in
        let at : slice_index v.items r ≡ n.clock = ap (λ (x : List ℕ). slice_index x r) is ∙ ap (slice_index (slice_set n.nonnull.items q n.clock)) (sym (eq q r e)) ∙ get_or-set_same n.nonnull.items q n.clock 0 long in
        ap (is_fresh n.since (slice_index written r)) at
        ∙ both (nat_le n.since n.clock) (nat_le (slice_index written r) n.clock) (le-leb n.since n.clock h.ready.since) (le-leb (slice_index written r) n.clock (below n.clock n.written.items h.ready.written r))
    found_by r false e =
        let at : slice_index v.items r ≡ slice_index n.nonnull.items r = ap (λ (x : List ℕ). slice_index x r) is ∙ get_or-set_other n.nonnull.items q r n.clock 0 (λ f. apart q r e (sym f)) in
        ap (is_fresh n.since (slice_index written r)) at ∙ h.nonnull r

    found_ready : IsReady R S found
    found_ready = record {
      since = h.ready.since;
      written = h.ready.written;
      nonnull = subst (All (λ x. x ≤ n.clock)) (sym is) (All-set (λ x. x ≤ n.clock) n.nonnull.items q n.clock (omega arith) h.ready.nonnull);
      inside = h.ready.inside;
      told = h.ready.told;
      written_all = h.ready.written_all;
      nonnull_all = ap (length {A = ℕ}) is ∙ length-set n.nonnull.items q n.clock ∙ h.ready.nonnull_all;
      inside_all = h.ready.inside_all;
      scopes_all = h.ready.scopes_all;
    }

    pub found_shows : Shows R S (record n { nonnull = v }) (with_nonnull q k)
    found_shows = record { ready = found_ready; nonnull = λ r. found_by r (q == r) refl; inside = h.inside; scope = h.scope }

  -- ---- an offset is found to be that of an element

  module _ (v : Vec (Vec Check Global) Global) (o a : ℕ) (k : Known) where
    abbrev list : List Check
    list = slice_index_or (checks n.inside.items) o []

    abbrev here : Check
    here = record { array = a; at = n.clock }

    abbrev fresh : Check → Bool
    fresh c = is_fresh n.since (slice_index written o) c.at

    module _ (is : checks v.items ≡ slice_set (checks n.inside.items) o (filter fresh list ++ here ∷ [])) (there : o < R) (h : Shows R S n k) where
      abbrev more : Knowledge
      more = record n { inside = v }

      long : o < length (checks n.inside.items)
      long = let x = h.ready.inside_all in let y = length-map n.inside.items (λ (l : Vec Check Global). l.items) in omega (arith, x, y, there)

      now_here : (r : ℕ) → is_check n.since (slice_index written o) (slice_index written r) r here ≡ (a == r)
      now_here r =
          let since : nat_le n.since n.clock ≡ true = le-leb n.since n.clock h.ready.since in
          let mine : nat_le (slice_index written o) n.clock ≡ true = le-leb (slice_index written o) n.clock (below n.clock n.written.items h.ready.written o) in
          let its : nat_le (slice_index written r) n.clock ≡ true = le-leb (slice_index written r) n.clock (below n.clock n.written.items h.ready.written r) in
          ap (λ b. (a == r) && b) (both (is_fresh n.since (slice_index written o) n.clock) (nat_le (slice_index written r) n.clock) (both (nat_le n.since n.clock) (nat_le (slice_index written o) n.clock) since mine) its) ∙ whole (a == r)
        where
          whole : (b : Bool) → b && true ≡ b
          whole true = refl
          whole false = refl

      more_by : (d r : ℕ) (b : Bool) → o == d ≡ b → shows_inside more d r ≡ (b && (a == r)) || is_inside k d r
      more_by d r true e =
          let s : o ≡ d = eq o d e in
          subst (λ (x : ℕ). shows_inside more x r ≡ (a == r) || is_inside k x r) s (
          let test = is_check n.since (slice_index written o) (slice_index written r) r in
          ap (λ (x : List (List Check)). list_any test (slice_index_or x o [])) is
          ∙ ap (list_any test) (get_or-set_same (checks n.inside.items) o (filter fresh list ++ here ∷ []) [] long)
          ∙ list_any-append test (filter fresh list) (here ∷ [])
          ∙ ap (λ b. b || (test here || false)) (any_kept test fresh list (λ c f. (halves (fresh c) (nat_le (slice_index written r) c.at) (halves (c.array == r) (fresh c && nat_le (slice_index written r) c.at) f).1).0) ∙ h.inside o r)
          ∙ ap (λ b. is_inside k o r || (b || false)) (now_here r)
          ∙ turned (is_inside k o r) (a == r))
      more_by d r false e =
          let test = is_check n.since (slice_index written d) (slice_index written r) r in
          ap (λ (x : List (List Check)). list_any test (slice_index_or x d [])) is
          ∙ ap (list_any test) (get_or-set_other (checks n.inside.items) o d (filter fresh list ++ here ∷ []) [] (λ f. apart o d e (sym f)))
          ∙ h.inside d r

      more_ready : IsReady R S more
      more_ready = record {
        since = h.ready.since;
        written = h.ready.written;
        nonnull = h.ready.nonnull;
        inside = subst (All (All (λ (c : Check). c.at ≤ n.clock))) (sym is)
            (All-set (All (λ (c : Check). c.at ≤ n.clock)) (checks n.inside.items) o (filter fresh list ++ here ∷ [])
            (All-append (λ (c : Check). c.at ≤ n.clock) (filter fresh list) (here ∷ []) (All-filter fresh (λ (c : Check). c.at ≤ n.clock) list (checks_below n.clock (checks n.inside.items) h.ready.inside o))
            (All-cons (λ (c : Check). c.at ≤ n.clock) here [] (omega arith) (All-nil (λ (c : Check). c.at ≤ n.clock)))) h.ready.inside);
        told = h.ready.told;
        written_all = h.ready.written_all;
        nonnull_all = h.ready.nonnull_all;
        inside_all = sym (length-map v.items (λ (l : Vec Check Global). l.items)) ∙ ap (length {A = List Check}) is ∙ length-set (checks n.inside.items) o (filter fresh list ++ here ∷ []) ∙ length-map n.inside.items (λ (l : Vec Check Global). l.items) ∙ h.ready.inside_all;
        scopes_all = h.ready.scopes_all;
      }

      pub more_shows : Shows R S (record n { inside = v }) (with_inside o a k)
      more_shows = record { ready = more_ready; nonnull = h.nonnull; inside = λ d r. more_by d r (o == d) refl; scope = h.scope }

  -- ---- a scope is aimed or shut

  module _ (v : Vec Told Global) (s : ℕ) (x : ScopeState) (k : Known) (is : v.items ≡ slice_set n.scopes.items s (record { state = x; at = n.clock })) (there : s < S) (h : Shows R S n k) where
    abbrev aimed : Knowledge
    aimed = record n { scopes = v }

    offset_now : (off : Option ℕ) → offset_fresh written off n.clock ≡ true
    offset_now None = refl
    offset_now (Some o) = le-leb (slice_index written o) n.clock (below n.clock n.written.items h.ready.written o)

    all_kept : (y : ScopeState) → kept written n.clock y ≡ state_of y
    all_kept state.Unknown = refl
    all_kept state.Shut = refl
    all_kept (state.Aimed r off disp) = ap (λ b. cond b (KnownAimed r off disp) Unknown)
        (both (nat_le (slice_index written r) n.clock) (offset_fresh written off n.clock) (le-leb (slice_index written r) n.clock (below n.clock n.written.items h.ready.written r)) (offset_now off))

    aimed_by : (q : ℕ) (b : Bool) → q == s ≡ b → shows_scope aimed q ≡ cond b (state_of x) (k.scope q)
    aimed_by q true e =
        let long : s < length n.scopes.items = let a = h.ready.scopes_all in omega (arith, a, there) in
        ap (λ (y : List Told). told_now n.since written (slice_index_or y q never)) is
        ∙ ap (λ y. told_now n.since written (slice_index_or (slice_set n.scopes.items s (record { state = x; at = n.clock })) y never)) (eq q s e)
        ∙ ap (told_now n.since written) (get_or-set_same n.scopes.items s (record { state = x; at = n.clock }) never long)
        ∙ ap (λ b. cond b (kept written n.clock x) Unknown) (le-leb n.since n.clock h.ready.since)
        ∙ all_kept x
    aimed_by q false e =
        ap (λ (y : List Told). told_now n.since written (slice_index_or y q never)) is
        ∙ ap (told_now n.since written) (get_or-set_other n.scopes.items s q (record { state = x; at = n.clock }) never (apart q s e))
        ∙ h.scope q

    aimed_ready : IsReady R S aimed
    aimed_ready = record {
      since = h.ready.since;
      written = h.ready.written;
      nonnull = h.ready.nonnull;
      inside = h.ready.inside;
      told = subst (All (λ (t : Told). t.at ≤ n.clock)) (sym is) (All-set (λ (t : Told). t.at ≤ n.clock) n.scopes.items s (record { state = x; at = n.clock }) (omega arith) h.ready.told);
      written_all = h.ready.written_all;
      nonnull_all = h.ready.nonnull_all;
      inside_all = h.ready.inside_all;
      scopes_all = ap (length {A = Told}) is ∙ length-set n.scopes.items s (record { state = x; at = n.clock }) ∙ h.ready.scopes_all;
    }

    pub aimed_shows : Shows R S (record n { scopes = v }) (with_scope s (state_of x) k)
    aimed_shows = record { ready = aimed_ready; nonnull = h.nonnull; inside = h.inside; scope = λ q. aimed_by q (q == s) refl }
