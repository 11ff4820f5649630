-- What holds of the last of a list, and of the last seats of a region with one program.
use Rattle.std.proofs.Common.{◌≡◌, ◌<◌, ◌+◌, ℕ, List, [], ◌∷◌, ◌++◌, length, get_or, map, ap, ◌∙◌, sym, subst, arith}
use Rattle.std.proofs.lemmas.List.{get_or_append_left, length-append, map-append}
use Rattle.std.proofs.Math.Seq.{get_or-append_seam}
use Rattle.std.specs.List.{All, range_with_len}
use Rattle.object_lock.specs.Fresh.{AreNumbered}
use Rattle.object_lock.specs.SeatViews.{SeatView}

-- what holds of all elements holds of the last
pub last_of_all : {X : Type 0} (P : X → Type 0) (xs front : List X) (x : X) → xs ≡ front ++ x ∷ [] → All P xs → P x
last_of_all P xs front x e all =
    let long : length xs ≡ length front + 1 = ap length e ∙ length-append front (x ∷ []) in
    let inside : length front < length xs = omega arith in
    subst P (ap (λ ys. get_or ys (length front) x) e ∙ get_or-append_seam front x [] x) (all (length front) x inside)

-- ... and of the others
pub all_before : {X : Type 0} (P : X → Type 0) (xs front : List X) (x : X) → xs ≡ front ++ x ∷ [] → All P xs → All P front
all_before P xs front x e all = λ k d low.
    let long = length-append front (x ∷ []) in
    let every = subst (All P) e all in
    subst P (get_or_append_left front (x ∷ []) d k low) (every k d (omega arith))

one_number : (x : ℕ) (xs ys : List ℕ) → xs ++ x ∷ [] ≡ 1 ∷ [] → x ≡ 1
one_number x [] ys e = cc e
one_number x (y ∷ []) ys e = absurd (let no : ⊥ = cc e in no)
one_number x (y ∷ (z ∷ zs)) ys e = absurd (let no : ⊥ = cc e in no)

-- the one seat of a program has the number 1
pub only_number : {W C : Type 0} (n : ℕ) (seats front : List (SeatView W C)) (s : SeatView W C) → n ≡ 1 → seats ≡ front ++ s ∷ [] → AreNumbered 1 n seats → s.view.number ≡ 1
only_number {W = W} {C = C} n seats front s one e numbered =
    let number : SeatView W C → ℕ = λ t. t.view.number in
    let list : map number seats ≡ map number front ++ s.view.number ∷ [] = ap (map number) e ∙ map-append number front (s ∷ []) in
    one_number s.view.number (map number front) [] (sym list ∙ (numbered ∙ ap (range_with_len 1) one))
