-- The rule of a table whose seats may be joined, from the rule of seats that keep what they did.
use Rattle.std.proofs.Common.{◌≡◌, ◌≢◌, ⊎_elim, ℕ, zero, suc, ◌+◌, ◌-◌, ◌≤◌, List, [], ◌∷◌, ◌++◌, length, set, sym, refl, ap, ◌∙◌, subst, arith, length-set, length-append}
use Rattle.std.specs.List.{All}
use Rattle.std.proofs.lemmas.List.Elements.{All-cons, All-nil}
use mathlib.Core.Path.{Path}
use mathlib.Core.Option.{some, some-injective, some-ne-none}
use lib.ListN.{get_elem?}
use Rattle.atomic_table.specs.Table.{State, Me, Allows, Joins, Splits, opening}
use Rattle.atomic_table.proofs.Lists.{at_last, at_longer, at_map, at_set, set_else, set_here}
use Rattle.object_lock.specs.Seats.{Sizes}
use Rattle.object_lock.specs.Logs.{Seated}
use Rattle.object_lock.specs.Rule.{LoggedRule}
use Rattle.object_lock.specs.Joining.{AreJoined, AreTogether, IsPlaced, Joined, JoinedRule, all_of, alone, both, itself, own_seat, spent}
use Rattle.object_lock.proofs.Moved.{below_length}
use Rattle.object_lock.proofs.Shares.{at_end}

-- the one seat of a row of one
only : {V : Type 0} (v u : V) (j : ℕ) → get_elem? (v ∷ []) j ≡ some u → (j ≡ 0) × Path V v u
only v u zero e = (refl, some-injective v u e)
only v u (suc j) e = absurd (some-ne-none u (sym e))

-- seats that were joined are so still where another place has another view
pub still : (views : List Joined) (seats : List Seated) (i : ℕ) (x : Joined) (ws : List Seated) → ((k : ℕ) → get_elem? views k ≡ some spent → k ≢ i) → AreJoined views seats ws → AreJoined (set views i x) seats ws
still views seats i x [] apart are = tt
still views seats i x (w ∷ ws) apart are = let one = are.0 in ((one.0, one.1, set_else views i one.0 x (apart one.0 one.2) ∙ one.2), still views seats i x ws apart are.1)

-- and another seat
still_there : (views : List Joined) (seats : List Seated) (i : ℕ) (x : Joined) (u : Seated) (ws : List Seated) → ((k : ℕ) → get_elem? views k ≡ some spent → k ≢ i) → AreJoined views seats ws → AreJoined (set views i x) (set seats i u) ws
still_there views seats i x u [] apart are = tt
still_there views seats i x u (w ∷ ws) apart are =
    let one = are.0 in let ne = apart one.0 one.2 in
    ((one.0, set_else seats i one.0 u ne ∙ one.1, set_else views i one.0 x ne ∙ one.2), still_there views seats i x u ws apart are.1)

-- and where there is one seat more
longer : (views more_views : List Joined) (seats more_seats : List Seated) (ws : List Seated) → AreJoined views seats ws → AreJoined (views ++ more_views) (seats ++ more_seats) ws
longer views more_views seats more_seats [] are = tt
longer views more_views seats more_seats (w ∷ ws) are =
    let one = are.0 in ((one.0, at_longer seats more_seats one.0 w one.1, at_longer views more_views one.0 spent one.2), longer views more_views seats more_seats ws are.1)

-- those of two rows
both_joined : (views : List Joined) (seats : List Seated) (vs ws : List Seated) → AreJoined views seats vs → AreJoined views seats ws → AreJoined views seats (vs ++ ws)
both_joined views seats [] ws v w = w
both_joined views seats (x ∷ vs) ws v w = (v.0, both_joined views seats vs ws v.1 w)

module _ {S : Type 0} (kept : S → ℕ → List ℕ → Type 0) (there : S → Type 0) (honest : Type 0) (z : Sizes) where
  abbrev Ruled : State S Joined → Type 0
  Ruled = JoinedRule kept there honest z

  -- a seat of no table is not one of this table's sizes
  not_spent : (v : Joined) → z.frames ≤ 1048576 → v.view.sizes ≡ z → spent ≢ v
  not_spent v few sized e =
      let frames : 1048577 ≡ z.frames = ap (λ (y : Joined). y.view.sizes.frames) e ∙ ap (λ (q : Sizes). q.frames) sized in omega arith

  -- nor is its place that of one
  apart : (views : List Joined) (i : ℕ) (v : Joined) → z.frames ≤ 1048576 → v.view.sizes ≡ z → get_elem? views i ≡ some v → (k : ℕ) → get_elem? views k ≡ some spent → k ≢ i
  apart views i v few sized at k is h = not_spent v few sized (some-injective spent v (sym is ∙ (ap (λ (q : ℕ). get_elem? views q) h ∙ at)))

  -- what is allowed a seat that keeps what it did is allowed it where seats may be joined
  pub joined_allows : (slots id : ℕ) (me : Me S Joined) (i : ℕ) (f : ℕ → ℕ) (then : ℕ → Me S Seated → Type 0) → me.0.view.sizes ≡ z
      → Allows (LoggedRule kept there honest z) slots id (own_seat me) i f then → Allows Ruled slots id me i f (λ n m. then n (own_seat m) × (m.0.others ≡ me.0.others))
  joined_allows slots id me i f then sized a s r wide at bound =
      let here = r.own id me.0 at sized in let low = below_length r.seats id (itself me.0) here in
      let k = a (record { words = s.words; homes = s.homes; views = r.seats }) r.rule wide here bound in
      let w : Joined = record { view = k.0.view; log = k.0.log; others = me.0.others } in
      let away = apart s.views id me.0 r.rule.rule.framed sized at in (
        w,
        k.1,
        k.2,
        record {
          seats = set r.seats id k.0;
          rule = k.3;
          count = length-set r.seats id k.0 ∙ (r.count ∙ sym (length-set s.views id w));
          own = λ j v e is. ⊎_elim
              (λ (q : (j ≡ id) × Path Joined w v). subst (λ (t : ℕ × Joined). get_elem? (set r.seats id k.0) t.0 ≡ some (itself t.1)) (λ l. (sym q.0 l, q.1 l)) (set_here r.seats id k.0 low))
              (λ (q : (j ≢ id) × (get_elem? s.views j ≡ some v)). set_else r.seats id j k.0 q.0 ∙ r.own j v q.1 is)
              (at_set s.views id j w v e);
          joined = λ j v e. ⊎_elim
              (λ (q : (j ≡ id) × Path Joined w v). subst (λ (u : Joined). AreJoined (set s.views id w) (set r.seats id k.0) u.others) q.1 (still_there s.views r.seats id w k.0 me.0.others away (r.joined id me.0 at)))
              (λ (q : (j ≢ id) × (get_elem? s.views j ≡ some v)). still_there s.views r.seats id w k.0 v.others away (r.joined j v q.1))
              (at_set s.views id j w v e);
        },
        (k.4, refl),
      )

  -- and a look tells that all seats for which it stands are in one state of the table
  pub joined_meets : (slots id : ℕ) (me : Me S Joined) (i : ℕ) (f : ℕ → ℕ) (then : ℕ → Me S Seated → Type 0) → me.0.view.sizes ≡ z
      → Allows (LoggedRule kept there honest z) slots id (own_seat me) i f then → Allows Ruled slots id me i f (λ n m. AreTogether kept there honest z (all_of me.0))
  joined_meets slots id me i f then sized a s r wide at bound =
      let k = joined_allows slots id me i f then sized a s r wide at bound in
      let placed : (w : Seated) (j : ℕ) → get_elem? r.seats j ≡ some w → IsPlaced r.seats w = λ w j is.
      let number = (r.rule.rule.seats j w.view (at_map (λ (u : Seated). u.view) r.seats j w is)).numbered in
      let same : w.view.number - 1 ≡ j = omega arith in subst (λ (q : ℕ). get_elem? r.seats q ≡ some w) (sym same) is in (
        k.0,
        k.1,
        k.2,
        k.3,
        record {
          table = record { words = s.words; homes = s.homes; views = r.seats };
          rule = r.rule;
          each = All-cons (IsPlaced r.seats) (itself me.0) me.0.others (placed (itself me.0) id (r.own id me.0 at sized)) (all_placed s.views r.seats placed me.0.others (r.joined id me.0 at));
        },
      )
    where
      all_placed : (views : List Joined) (seats : List Seated) → ((w : Seated) (j : ℕ) → get_elem? seats j ≡ some w → IsPlaced seats w) → (ws : List Seated) → AreJoined views seats ws → All (IsPlaced seats) ws
      all_placed views seats placed [] are = All-nil (IsPlaced seats)
      all_placed views seats placed (w ∷ ws) are = All-cons (IsPlaced seats) w ws (placed w are.0.0 are.0.1) (all_placed views seats placed ws are.1)

  -- a seat may be split, and a new seat was joined to none
  pub joined_splits : (id : ℕ) (v : Joined) (left right : Seated) → v.view.sizes ≡ z → Splits (LoggedRule kept there honest z) id (itself v) left right
      → Splits Ruled id v (record { view = left.view; log = left.log; others = v.others }) (alone right)
  joined_splits id v left right sized sp s r at =
      let here = r.own id v at sized in let low = below_length r.seats id (itself v) here in
      let w : Joined = record { view = left.view; log = left.log; others = v.others } in
      let views = set s.views id w in let seats = set r.seats id left in
      let count : length seats ≡ length views = length-set r.seats id left ∙ (r.count ∙ sym (length-set s.views id w)) in
      let away = apart s.views id v r.rule.rule.framed sized at in
      let moved : (ws : List Seated) → AreJoined s.views r.seats ws → AreJoined (views ++ alone right ∷ []) (seats ++ right ∷ []) ws = λ ws are.
      longer views (alone right ∷ []) seats (right ∷ []) ws (still_there s.views r.seats id w left ws away are) in
      record {
        seats = seats ++ right ∷ [];
        rule = sp (record { words = s.words; homes = s.homes; views = r.seats }) r.rule here;
        count = length-append seats (right ∷ []) ∙ (ap (λ (n : ℕ). n + 1) count ∙ sym (length-append views (alone right ∷ [])));
        own = λ j u e is. ⊎_elim
            (λ (h : get_elem? views j ≡ some u). at_longer seats (right ∷ []) j (itself u) (⊎_elim
            (λ (q : (j ≡ id) × Path Joined w u). subst (λ (t : ℕ × Joined). get_elem? seats t.0 ≡ some (itself t.1)) (λ l. (sym q.0 l, q.1 l)) (set_here r.seats id left low))
            (λ (q : (j ≢ id) × (get_elem? s.views j ≡ some u)). set_else r.seats id j left q.0 ∙ r.own j u q.1 is)
            (at_set s.views id j w u h)))
            (λ (h : (j ≡ length views) × Path Joined (alone right) u). subst (λ (t : ℕ × Joined). get_elem? (seats ++ right ∷ []) t.0 ≡ some (itself t.1)) (λ l. (sym h.0 l, h.1 l)) (at_last seats right (length views) count))
            (at_end views (alone right) u j e);
        joined = λ j u e. ⊎_elim
            (λ (h : get_elem? views j ≡ some u). ⊎_elim
            (λ (q : (j ≡ id) × Path Joined w u). subst (λ (y : Joined). AreJoined (views ++ alone right ∷ []) (seats ++ right ∷ []) y.others) q.1 (moved v.others (r.joined id v at)))
            (λ (q : (j ≢ id) × (get_elem? s.views j ≡ some u)). moved u.others (r.joined j u q.1))
            (at_set s.views id j w u h))
            (λ (h : (j ≡ length views) × Path Joined (alone right) u). subst (λ (y : Joined). AreJoined (views ++ alone right ∷ []) (seats ++ right ∷ []) y.others) h.1 tt)
            (at_end views (alone right) u j e);
      }

  -- the table as it is made, whose one seat stands for itself alone
  pub joined_opens : (ws : List ℕ) (xs : List S) (v : Seated) → LoggedRule kept there honest z (opening ws xs v) → Ruled (opening ws xs (alone v))
  joined_opens ws xs v q = record {
    seats = v ∷ [];
    rule = q;
    count = refl;
    own = λ j u e is. let o = only (alone v) u j e in subst (λ (t : ℕ × Joined). get_elem? (v ∷ []) t.0 ≡ some (itself t.1)) (λ l. (sym o.0 l, o.1 l)) refl;
    joined = λ j u e. let o = only (alone v) u j e in subst (λ (y : Joined). AreJoined (alone v ∷ []) (v ∷ []) y.others) o.1 tt;
  }

  -- a seat may be joined to another
  pub joins : (id other : ℕ) (v w : Joined) → v.view.sizes ≡ z → w.view.sizes ≡ z → Joins Ruled id v other w (both v w) spent
  joins id other v w sized of s r at ne at' =
      let few = r.rule.rule.framed in let b : Joined = both v w in let views = set s.views id b in
      let there_too : get_elem? s.views other ≡ some w = sym (set_else s.views id other b ne) ∙ at' in
      let low = below_length views other w at' in
      let moved : (ws : List Seated) → AreJoined s.views r.seats ws → AreJoined (set views other spent) r.seats ws = λ ws are.
      still views r.seats other spent ws (apart views other w few of at') (still s.views r.seats id b ws (apart s.views id v few sized at) are) in
      record {
        seats = r.seats;
        rule = r.rule;
        count = r.count ∙ sym (length-set views other spent ∙ length-set s.views id b);
        own = λ j u e is. ⊎_elim
            (λ (q : (j ≡ other) × Path Joined spent u). absurd (not_spent u few is q.1))
            (λ (q : (j ≢ other) × (get_elem? views j ≡ some u)). ⊎_elim
            (λ (p : (j ≡ id) × Path Joined b u). subst (λ (t : ℕ × Joined). get_elem? r.seats t.0 ≡ some (itself t.1)) (λ l. (sym p.0 l, p.1 l)) (r.own id v at sized))
            (λ (p : (j ≢ id) × (get_elem? s.views j ≡ some u)). r.own j u p.1 is)
            (at_set s.views id j b u q.1))
            (at_set views other j spent u e);
        joined = λ j u e. ⊎_elim
            (λ (q : (j ≡ other) × Path Joined spent u). subst (λ (y : Joined). AreJoined (set views other spent) r.seats y.others) q.1 tt)
            (λ (q : (j ≢ other) × (get_elem? views j ≡ some u)). ⊎_elim
            (λ (p : (j ≡ id) × Path Joined b u). subst (λ (y : Joined). AreJoined (set views other spent) r.seats y.others) p.1
            ((other, r.own other w there_too of, set_here views other spent low), both_joined (set views other spent) r.seats v.others w.others (moved v.others (r.joined id v at)) (moved w.others (r.joined other w there_too))))
            (λ (p : (j ≢ id) × (get_elem? s.views j ≡ some u)). moved u.others (r.joined j u p.1))
            (at_set s.views id j b u q.1))
            (at_set views other j spent u e);
      }
