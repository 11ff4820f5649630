-- All that a fetcher did with hints, one behind the other.
use Rattle.std.proofs.Common.{◌≡◌, ℕ, List, [], ◌∷◌, ◌++◌, append_assoc, append-nil, refl, sym, ap, ◌∙◌, subst, inl, inr}
use Rattle.fetcher.specs.declared.served.Served.{Served}
use Rattle.fetcher.specs.declared.served.Served.TheVariants as S
use Rattle.fetcher.specs.Serving.{AreRead, BringsTo, GivesUp, HasServed, ReadsNothing, Service, ServiceLogged, ServicesLogged, ServesOne, hand_given_up, hand_released, hand_served, moves_for, moves_serving}
use Rattle.object_lock.specs.Logs.{Deed}
use Rattle.object_lock.specs.Seats.{Sizes}
use Rattle.object_lock.specs.SeatViews.{SeatView}
use Rattle.object_moves.specs.Ways.{Did, did_of}
use Rattle.pointer_word.specs.Hands.{Hand}

pub moves_in_order : (xs ys : List Service) → moves_serving (xs ++ ys) ≡ moves_serving xs ++ moves_serving ys
moves_in_order [] ys = refl
moves_in_order (x ∷ xs) ys = ap (λ ms. moves_for x ++ ms) (moves_in_order xs ys) ∙ sym (append_assoc (moves_for x) (moves_serving xs) (moves_serving ys))

logged_behind : (z : Sizes) (m : ℕ) (xs : List Service) (x : Service) (old mid new : List Deed) → ServicesLogged z m xs old mid → ServiceLogged z m x mid new → ServicesLogged z m (xs ++ x ∷ []) old new
logged_behind z m [] x old mid new a b = (new, subst (λ (ds : List Deed). ServiceLogged z m x ds new) a b, refl)
logged_behind z m (y ∷ ys) x old mid new a b = (a.0, a.1, logged_behind z m ys x a.0 mid new a.2 b)

pub none_served : (reliable : Type 0) (z : Sizes) (m : ℕ) (did : Did) → did.past ≡ [] → did.log ≡ [] → HasServed reliable z m did
none_served reliable z m did e l = ([], e, l, λ sure. tt)

read_behind : (xs : List Service) (x : Service) → AreRead xs → AreRead (x ∷ []) → AreRead (xs ++ x ∷ [])
read_behind [] x a b = b
read_behind (GivesUp o ∷ xs) x a b = read_behind xs x a b
read_behind (ReadsNothing o f ∷ xs) x a b = absurd a
read_behind (BringsTo o f ∷ xs) x a b = read_behind xs x a b

-- one hint more
one_more : (reliable : Type 0) (z : Sizes) (m : ℕ) (did after : Did) (x : Service) → HasServed reliable z m did → after.past ≡ did.past ++ moves_for x → ServiceLogged z m x did.log after.log → (reliable → AreRead (x ∷ []))
    → HasServed reliable z m after
one_more reliable z m did after x served e l read = (
  served.0 ++ x ∷ [],
  e ∙ ap (λ ms. ms ++ moves_for x) served.1 ∙ ap (λ ms. moves_serving served.0 ++ ms) (sym (append-nil (moves_for x))) ∙ sym (moves_in_order served.0 (x ∷ [])),
  logged_behind z m served.0 x [] did.log after.log served.2 l,
  λ sure. read_behind served.0 x (served.3 sure) (read sure),
)

pub past_given_up : (x : Hand) (o : ℕ) (ws : List ℕ) → (hand_given_up x o ws).past ≡ x.past ++ moves_for (GivesUp o)
past_given_up x o ws = append_assoc x.past _ _

pub past_released : (x : Hand) (o f : ℕ) (ws : List ℕ) → (hand_released x o f ws).past ≡ x.past ++ moves_for (ReadsNothing o f)
past_released x o f ws = append_assoc ((x.past ++ _) ++ _) _ _ ∙ append_assoc (x.past ++ _) _ _ ∙ append_assoc x.past _ _

pub past_served : (x : Hand) (o f : ℕ) (ws : List ℕ) (ps : List (ℕ × ℕ)) → (hand_served x o f ws ps).past ≡ x.past ++ moves_for (BringsTo o f)
past_served x o f ws ps = append_assoc (x.past ++ _) _ _ ∙ append_assoc x.past _ _

-- what became of a hint comes to what was served before
pub served_one : {W C : Type 0} (reliable : Type 0) (objects : ℕ) (s t : SeatView W C) (r : Served) → ServesOne reliable objects s t r → HasServed reliable s.view.sizes s.view.number (did_of s) → HasServed reliable s.view.sizes s.view.number (did_of t)
served_one reliable objects s t S.Nothing told served = subst (λ x. HasServed reliable s.view.sizes s.view.number (did_of x)) (sym told) served
served_one reliable objects s t S.Dropped told served = elim told.2 [
  | inl same ↦ subst (λ x. HasServed reliable s.view.sizes s.view.number (did_of x)) (sym same) served
  | inr given ↦ one_more reliable s.view.sizes s.view.number (did_of s) (did_of t) (GivesUp told.0) served (ap (λ x. x.view.hand.past) given.1 ∙ past_given_up s.view.hand told.0 given.0) given.2 (λ sure. tt)
]
served_one reliable objects s t S.Brought told served =
    let b = told.2 in
    one_more reliable s.view.sizes s.view.number (did_of s) (did_of t) (BringsTo told.0 b.0) served (ap (λ x. x.view.hand.past) b.3 ∙ past_served s.view.hand told.0 b.0 b.1 b.2) b.5 (λ sure. tt)
served_one reliable objects s t S.Failed told served =
    let b = told.2 in
    one_more reliable s.view.sizes s.view.number (did_of s) (did_of t) (ReadsNothing told.0 b.0) served (ap (λ x. x.view.hand.past) b.2 ∙ past_released s.view.hand told.0 b.0 b.1) b.4 (λ sure. absurd (b.3.2 sure))

-- a fetcher's number stays
pub same_seat : {W C : Type 0} (reliable : Type 0) (objects : ℕ) (s t : SeatView W C) (r : Served) → ServesOne reliable objects s t r → t.view.number ≡ s.view.number
same_seat reliable objects s t S.Nothing told = ap (λ x. x.view.number) told
same_seat reliable objects s t S.Dropped told = elim told.2 [
  | inl same ↦ ap (λ x. x.view.number) same
  | inr given ↦ ap (λ x. x.view.number) given.1
]
same_seat reliable objects s t S.Brought told = ap (λ x. x.view.number) told.2.3
same_seat reliable objects s t S.Failed told = ap (λ x. x.view.number) told.2.2
