-- The words of a frame that is being copied.
use Rattle.std.proofs.Common.{◌≡◌, ℕ, ◌+◌, ◌<◌, List, [], ◌∷◌, ◌++◌, length, set, sym, ap, subst, ◌∙◌, arith, below_more}
use Rattle.std.specs.Prelude.{Option, Some}
use mathlib.Core.Path.{Path}
use Rattle.remote_store.specs.declared.berth.Berth.{Berth}
use Rattle.object_lock.specs.Kept.{berth_keeps}
use Rattle.object_lock.specs.Telling.{HasPut}
use Rattle.std.proofs.lemmas.List.{get_or-set_same, get_or-set_other}
use Rattle.pointer_word.specs.Hands.{copying, listed, seen}
use Rattle.pointer_word.specs.Ordered.{IsCopied}
use Rattle.object_lock.specs.Seats.{with_hand}
use Rattle.object_lock.specs.SeatViews.{SeatView}
use Rattle.object_lock.specs.Seating.{IsMovingOut}
use Rattle.object_moves.specs.Taken.{CopiesOnly, MovesOut}
use Rattle.object_moves.proofs.Filling.{seen_else, seen_here}

copied_more : (ps : List (ℕ × ℕ)) (ws : List ℕ) (i n : ℕ) → i < length ws → ((j : ℕ) → j < i → seen ps j ≡ Some (listed ws j)) → (j : ℕ) → j < i + 1 → seen (ps ++ (i, n) ∷ []) j ≡ Some (listed (set ws i n) j)
copied_more ps ws i n l h = below_more _ _
    (λ k l. seen_else ps i k n (λ e. absurd (omega arith)) ∙ (h k l ∙ ap Some (sym (get_or-set_other ws i k n 0 (λ e. absurd (omega arith))))))
    (seen_here ps i n ∙ ap Some (sym (get_or-set_same ws i n 0 l)))

-- one cell more was copied
pub copy_more : {W C : Type 0} (s t u : SeatView W C) (ws : List ℕ) (i n : ℕ) → i < length ws → CopiesOnly s t → IsCopied t.view.hand ws i → u ≡ record t { view = with_hand t.view (copying t.view.hand i n); log = u.log }
    → CopiesOnly s u × IsCopied u.view.hand (set ws i n) (i + 1)
copy_more {W} {C} s t u ws i n l same below d =
    let a : u.view.hand.copied ≡ t.view.hand.copied ++ (i, n) ∷ [] = ap (λ (x : SeatView W C). x.view.hand.copied) d in
    let put : SeatView W C → List (ℕ × ℕ) → SeatView W C = λ x ps. record x { view = with_hand x.view (record x.view.hand { copied = ps }); log = u.log } in
    (d ∙ ap (put t) (sym a) ∙ ap (λ (x : SeatView W C). put x u.view.hand.copied) same, (λ j m. ap (λ (ps : List (ℕ × ℕ)). seen ps j) a ∙ copied_more t.view.hand.copied ws i n l below j m))

-- while it copies, the owner is moving the object out
pub moving : {W C : Type 0} (s t : SeatView W C) (o f : ℕ) → CopiesOnly s t → MovesOut o f s.view.hand → IsMovingOut t.view.hand f
moving {W} {C} s t o f same m = (o, ap (λ (x : SeatView W C). x.view.hand.leaving) same ∙ m.0, ap (λ (x : SeatView W C). x.view.hand.source) same ∙ m.1)

-- what was copied and put is what the berth keeps
pub has_put : {W C : Type 0} (fits : C → ℕ → Type 0) (content : C → Option (List ℕ)) (n m o : ℕ) (s t : SeatView W C) (ws : List ℕ) → IsCopied s.view.hand ws n → t ≡ record s { taken = t.taken; store = t.store; refusals = t.refusals } → m ≡ n
    → (b : Berth C) × Path (Option (Berth C)) t.taken (Some b) × berth_keeps fits content m b o ws → HasPut fits content n o t
has_put {W} {C} fits content n m o s t ws copied same e k = (k.0, ws, k.1, subst (λ (j : ℕ). berth_keeps fits content j k.0 o ws) e k.2, λ i l. ap (λ (x : SeatView W C). seen x.view.hand.copied i) same ∙ copied i l)
