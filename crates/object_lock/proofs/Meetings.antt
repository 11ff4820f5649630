-- Seats that are joined one after the other, and what a look through all of them tells.
use Rattle.std.proofs.Common.{◌≡◌, ℕ, zero, suc, List, [], ◌∷◌, ◌++◌, append-nil, length, map, sym, ap, ◌∙◌, subst, arith}
use Rattle.std.specs.List.{All}
use Rattle.std.proofs.lemmas.List.Elements.{All-head, All-map, All-push, All-same, All-tail, All-weaker}
use mathlib.Core.Option.{some, some-injective, some-ne-none}
use lib.ListN.{get_elem?}
use Rattle.atomic_table.specs.Seated.{TableId}
use Rattle.atomic_table.proofs.Lists.{at_longer}
use Rattle.object_lock.specs.Seats.{Sizes}
use Rattle.object_lock.specs.Logs.{Seated}
use Rattle.object_lock.specs.Joining.{AreTogether, IsAmong, IsPlaced, Joined, all_of, both, itself, seated_as}
use Rattle.object_lock.specs.Seating.{IsToken}
use Rattle.object_lock.specs.SeatViews.{SeatView, TableView, IsSeat}

-- what holds of all holds of the one at this place
all_at : {X : Type 0} (P : X → Type 0) (xs : List X) (i : ℕ) (x : X) → All P xs → get_elem? xs i ≡ some x → P x
all_at P [] i x all at = absurd (some-ne-none x (sym at))
all_at P (y ∷ ys) zero x all at = subst P (some-injective y x at) (All-head P y ys all)
all_at P (y ∷ ys) (suc i) x all at = all_at P ys i x (All-tail P y ys all) at

-- one that a seat stands for, it stands for once another is joined to it
still_among : (v w : Joined) (x : Seated) (i : ℕ) → get_elem? (all_of v) i ≡ some x → IsAmong (both v w) x
still_among v w x zero at = (0, at)
still_among v w x (suc i) at = (suc (suc i), at_longer v.others w.others i x at)

-- a seat of the table, by what its holder has in it
pub token_of : {W C : Type 0} (t : TableView) (id : TableId) (v : Joined) (s : SeatView W C) → id ≡ s.table → itself v ≡ seated_as s → IsSeat t s → IsToken t.id t.sizes id v.view
token_of t id v s e same is = subst (λ (q : TableId × Seated). IsToken t.id t.sizes q.0 q.1.view) (λ k. (sym e k, sym same k)) (is.0, is.1, is.2)

module _ {W C : Type 0} where
  -- a seat of the table that stands for the first, and for each of these
  abbrev pub Stands : TableView → TableId → Joined → Seated → List (SeatView W C) → Type 0
  Stands t id v first done = IsToken t.id t.sizes id v.view × IsAmong v first × All (λ x. IsAmong v (seated_as x)) done

  -- and for one more, once that is joined to it
  pub stands_on : (t : TableView) (id id' : TableId) (v w u : Joined) (first : Seated) (done : List (SeatView W C)) (s : SeatView W C)
      → id' ≡ id → u ≡ both v w → itself w ≡ seated_as s → Stands t id v first done → Stands t id' u first (done ++ s ∷ [])
  stands_on t id id' v w u first done s same is own st =
      let both_stand : Stands t id (both v w) first (done ++ s ∷ []) = (
        st.0,
        still_among v w first st.1.0 st.1.1,
        All-push (λ y. IsAmong (both v w) (seated_as y)) done s (λ k d low. let h = st.2 k d low in still_among v w _ h.0 h.1) (1, ap some own),
      ) in subst (λ (q : TableId × Joined). Stands t q.0 q.1 first (done ++ s ∷ [])) (λ k. (sym same k, sym is k)) both_stand

  -- all that were given are the first and these
  pub all_among : (v : Joined) (first : Seated) (done left given all : List (SeatView W C)) (last : SeatView W C)
      → done ++ left ≡ given → length left ≡ 0 → all ≡ given ++ last ∷ [] → first ≡ seated_as last → IsAmong v first → All (λ x. IsAmong v (seated_as x)) done → All (λ x. IsAmong v (seated_as x)) all
  all_among v first done [] given all last e empty is same among each =
      let P : SeatView W C → Type 0 = λ x. IsAmong v (seated_as x) in let read : given ≡ done = sym e ∙ append-nil done in
      All-same P all (done ++ last ∷ []) (is ∙ ap (λ (xs : List (SeatView W C)). xs ++ last ∷ []) read) (All-push P done last each (subst (IsAmong v) same among))
  all_among v first done (x ∷ left) given all last e empty is same among each = absurd (omega arith)

module _ {S : Type 0} (kept : S → ℕ → List ℕ → Type 0) (there : S → Type 0) (honest : Type 0) (z : Sizes) where
  -- those for which a seat stands are together, so these of them are
  pub among_together : {W C : Type 0} (v : Joined) (xs : List (SeatView W C)) → AreTogether kept there honest z (all_of v) → All (λ x. IsAmong v (seated_as x)) xs → AreTogether kept there honest z (map seated_as xs)
  among_together v xs one among =
      let P : Seated → Type 0 = IsPlaced one.table.views in record {
        table = one.table;
        rule = one.rule;
        each = All-map P seated_as xs (All-weaker (λ x. IsAmong v (seated_as x)) (λ x. P (seated_as x)) (λ x h. all_at P (all_of v) h.0 (seated_as x) one.each h.1) xs among);
      }
