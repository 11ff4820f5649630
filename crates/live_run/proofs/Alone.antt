-- The one program of its region.
use Rattle.std.proofs.Common.{◌≡◌, ◌∙◌, ◌+◌, ◌-◌, ◌*◌, ◌/◌, ◌++◌, ◌∷◌, ℕ, suc, List, [], Result, Ok, Err, ap, ap₂, arith, length, subst, sym, zero-mul}
use Rattle.std.proofs.Math.Nat.{div-one}
use Rattle.std.specs.List.{All}
use Rattle.std.specs.Prelude.{IfOk}
use Rattle.code_form.specs.Form.{Image}
use Rattle.object_lock.specs.Fresh.{AreNumbered, IsFreshOwner}
use Rattle.object_lock.specs.SeatViews.{SeatView, TableView}
use Rattle.object_lock.specs.Seats.{View}
use Rattle.region.specs.Admission.{image_at}
use Rattle.program_run.specs.Acting.{Share, share_at, share_by}
use Rattle.program_run.specs.declared.run.Finished.{Finished}
use Rattle.scope_verifier.specs.declared.acceptance.Verified.{Verified}
use Rattle.live_run.specs.declared.live.LiveError.{LiveError}

-- what holds of all holds of the last
all_last : {X : Type 0} (P : X → Type 0) (before : List X) (x : X) → All P (before ++ x ∷ []) → P x
all_last P [] x all = all 0 x (omega arith)
all_last P (d ∷ ds) x all = all_last P ds x (λ k e low. all (suc k) e (omega arith))

-- the number of the one seat
number_of_one : {W C : Type 0} (before : List (SeatView W C)) (s : SeatView W C) → AreNumbered 1 1 (before ++ s ∷ []) → s.view.number ≡ 1
number_of_one [] s are = cc
number_of_one (r ∷ []) s are = absurd (let no : ⊥ = cc are in no)
number_of_one (r ∷ (x ∷ xs)) s are = absurd (let no : ⊥ = cc are in no)

-- the one seat is that of the first program
pub seat_alone : {W C : Type 0} (t : TableView) (n share : ℕ) (seats before : List (SeatView W C)) (s : SeatView W C) → n ≡ 1 → seats ≡ before ++ s ∷ [] → AreNumbered 1 n seats → All (IsFreshOwner t share) seats
    → (s.view.number ≡ 1) × IsFreshOwner t share s
seat_alone t n share seats before s one items numbered own =
    (number_of_one before s (subst (AreNumbered 1 1) items (subst (λ m. AreNumbered 1 m seats) one numbered)), all_last (IsFreshOwner t share) before s (subst (All (IsFreshOwner t share)) items own))

abbrev owned : ℕ → ℕ → ℕ → Share
owned k a n = record { program = k; first = a; objects = n }

-- its share is all objects, and its image that of the one program: what is so of its end is so with these
pub ends_alone : (Q : Share → Image → Finished → Type 0) (objects : ℕ) (programs now : List Verified) (v : View) (r : Result Finished LiveError) → length programs ≡ 1 → now ≡ programs → v.number ≡ 1
    → v.low ≡ (v.number - 1) * (objects / length programs) → v.high ≡ v.low + objects / length programs → IfOk r (λ f. Q (share_at v) (image_at now (v.number - 1)) f) → IfOk r (λ f. Q (share_by 0 objects) (image_at programs 0) f)
ends_alone Q objects programs now v (Ok f) one same first begins end ends =
    let number = v.number in
    let low = v.low in
    let high = v.high in
    let share : high - low ≡ objects / length programs = omega arith in
    let all : high - low ≡ objects = share ∙ ap (λ n. objects / n) one ∙ div-one objects in
    let image : image_at now (number - 1) ≡ image_at programs 0 = ap₂ image_at same (ap (λ n. n - 1) first) in
    let zero : low ≡ 0 * objects = begins ∙ ap (λ n. (n - 1) * (objects / length programs)) first ∙ zero-mul (objects / length programs) ∙ sym (zero-mul objects) in
    let mine : share_at v ≡ share_by 0 objects = ap (λ k. owned k low (high - low)) (ap (λ n. n - 1) first) ∙ ap (λ a. owned 0 a (high - low)) zero ∙ ap (owned 0 (0 * objects)) all in
    subst (λ (C : Image). Q (share_by 0 objects) C f) image (subst (λ w. Q w (image_at now (number - 1)) f) mine ends)
ends_alone Q objects programs now v (Err e) one same first begins end ends = tt
