-- What a mover's view is when it has arrived, with or without a hold.
use Rattle.std.proofs.Common.{◌≡◌, ℕ, zero, suc, List, length, set, sym, refl, ap, ◌∙◌, arith, length-set}
use Rattle.std.specs.Prelude.{Some}
use Rattle.atomic_table.specs.Table.{Step, Me, rest}
use Rattle.pointer_word.specs.Hands.{Note, arriving, told}
use Rattle.object_lock.specs.Seats.{View, note}
use Rattle.object_lock.specs.Plays.{Holds, IsUnheld, told_arrive_any}
use Rattle.object_lock.proofs.Either.{has_hold}
use Rattle.object_lock.proofs.Exact.{arrives_exactly, brings_exactly}

-- it changed its hand and its notes
abbrev IsArrived : {S : Type 0} → Me S View → Me S View → Type 0
IsArrived m m' = (m' ≡ (record m.0 { hand = arriving m.0.hand; notes = m'.0.notes }, rest m.1)) × (length m'.0.notes ≡ length m.0.notes)

unheld : (v : View) (o : ℕ) → (Holds v o → ⊥) → IsUnheld v o
unheld v o none own = go (note v o).count refl
  where
    go : (c : ℕ) → (note v o).count ≡ c → (note v o).count ≡ 0
    go zero e = e
    go (suc c) e = absurd (none (own, omega arith))

arrived : {S : Type 0} (honest : Type 0) (kept : S → ℕ → List ℕ → Type 0) (there : S → Type 0) (st : Step S) (m : Me S View) (r : ℕ) (m' : Me S View) (f : ℕ) → m.0.hand.claimed ≡ Some f → told_arrive_any honest kept there st m r m' → IsArrived m m'
arrived {S} honest kept there st m r m' f mine_is told_any = go (has_hold m.0 st.word)
  where
    go : Dec (Holds m.0 st.word) → IsArrived m m'
    go (yes h) =
        let t = arrives_exactly honest kept there st m r m' f h.0 mine_is (told_any.0 h) in
        let ns : m'.0.notes ≡ set m.0.notes st.word (told (note m.0 st.word) (Some f)) = ap (λ (v : View). v.notes) t.0 in
        ((λ i. ((t.0 ∙ ap (λ (ns : List Note). record m.0 { hand = arriving m.0.hand; notes = ns }) (sym ns)) i, t.1 i)), ap length ns ∙ length-set m.0.notes st.word (told (note m.0 st.word) (Some f)))
    go (no n) =
        let t = brings_exactly honest st m r m' (told_any.1 (unheld m.0 st.word n)) in let ns : m'.0.notes ≡ m.0.notes = ap (λ (v : View). v.notes) t.0 in
        ((λ i. ((t.0 ∙ ap (λ (ns : List Note). record m.0 { hand = arriving m.0.hand; notes = ns }) (sym ns)) i, t.1 i)), ap length ns)

pub arrives_kept : {S : Type 0} (honest : Type 0) (kept : S → ℕ → List ℕ → Type 0) (there : S → Type 0) (st : Step S) (m : Me S View) (r : ℕ) (m' : Me S View) (f : ℕ) → m.0.hand.claimed ≡ Some f → told_arrive_any honest kept there st m r m'
    → m' ≡ (record m.0 { hand = arriving m.0.hand; notes = m'.0.notes }, rest m.1)
arrives_kept honest kept there st m r m' f mine_is told_any = (arrived honest kept there st m r m' f mine_is told_any).0

pub arrives_notes : {S : Type 0} (honest : Type 0) (kept : S → ℕ → List ℕ → Type 0) (there : S → Type 0) (st : Step S) (m : Me S View) (r : ℕ) (m' : Me S View) (f : ℕ) → m.0.hand.claimed ≡ Some f → told_arrive_any honest kept there st m r m'
    → length m'.0.notes ≡ length m.0.notes
arrives_notes honest kept there st m r m' f mine_is told_any = (arrived honest kept there st m r m' f mine_is told_any).1
