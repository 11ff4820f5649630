-- Each move keeps the rule of the hints.
use Rattle.std.proofs.Common.{◌≡◌, ◌≢◌, ◌<◌, ℕ, zero, suc, Bool, true, false, true≢false, List, [], ◌∷◌, ◌++◌, All, Option, Some, None, sym, refl, ap, ◌∙◌, subst, ⊎_elim, set, length, inl, inr, arith}
use Rattle.std.specs.Prelude.{⊤}
use mathlib.Core.Option.{some, some-injective, some-ne-none}
use lib.ListN.{get_elem?}
use Rattle.std.proofs.lemmas.List.Elements.{All-push}
use Rattle.crossbeam_queue.specs.Fifo.{Pushes, Pops, Forks, Learns}
use Rattle.crossbeam_queue.proofs.Lists.{at_set, at_snoc}
use Rattle.hint_queue.specs.declared.rule.KnowsObjects.{KnowsObjects}
use Rattle.hint_queue.specs.Named.{AllKnow, AllNamed, knows, number, unknown}

abbrev is_known : Option ℕ → Bool
is_known None = false
is_known (Some n) = true

-- a pass that knows the number is not the first one before the number is known
apart : {X : Type 0} (n : ℕ) → knows n ≡ unknown → X
apart n e = absurd (true≢false (ap (λ (v : KnowsObjects). is_known v.objects) e))

set_one : (views : List KnowsObjects) (pass : ℕ) (n : ℕ) (w : KnowsObjects) → AllKnow n views → w ≡ knows n → AllKnow n (set views pass w)
set_one views pass n w all is j u e = ⊎_elim (λ (x : (j ≡ pass) × (w ≡ u)). sym x.1 ∙ is) (λ (x : (j ≢ pass) × (get_elem? views j ≡ some u)). all j u x.1) (at_set views pass j w u e)

-- of one view alone
only : (v w : KnowsObjects) (pass : ℕ) → get_elem? (v ∷ []) pass ≡ some w → (w ≡ v) × (pass ≡ 0)
only v w zero e = (sym (some-injective v w e), refl)
only v w (suc pass) e = absurd (some-ne-none w (sym e))

first_only : (views : List KnowsObjects) (v : KnowsObjects) (pass : ℕ) → views ≡ unknown ∷ [] → get_elem? views pass ≡ some v → (v ≡ unknown) × (pass ≡ 0)
first_only views v pass is at = only unknown v pass (ap (λ l. get_elem? l pass) (sym is) ∙ at)

one : (n : ℕ) → AllKnow n (knows n ∷ [])
one n pass v at = (only (knows n) v pass at).0

pub begins : AllNamed [] (unknown ∷ [])
begins = inl (refl, refl)

pub pushes : (n pass : ℕ) (v : KnowsObjects) (m x : ℕ) → v ≡ knows m → x < m → Pushes AllNamed n pass v x (λ w. w ≡ v)
pushes n pass v m x is low items views room (inl h) at = apart m (sym is ∙ (first_only views v pass h.0 at).0)
pushes n pass v m x is low items views room (inr h) at =
    let mine : v ≡ knows h.0 = h.1 pass v at in
    let same : m ≡ h.0 = ap number (sym is ∙ mine) in (
      v,
      inr (h.0, set_one views pass h.0 v h.1 mine, All-push (λ y. y < h.0) items x h.2 (subst (λ k. x < k) same low)),
      refl,
    )

pub founds : (n pass : ℕ) (v : KnowsObjects) (x : ℕ) → v ≡ unknown → Pushes AllNamed n pass v x (λ w. w ≡ knows (suc x))
founds n pass v x is items views room (inl h) at =
    let place : pass ≡ 0 = (first_only views v pass h.0 at).1 in
    let after : set views pass (knows (suc x)) ≡ knows (suc x) ∷ [] = ap (λ p. set views p (knows (suc x))) place ∙ ap (λ l. set l 0 (knows (suc x))) h.0 in (
      knows (suc x),
      inr (
        suc x,
        subst (AllKnow (suc x)) (sym after) (one (suc x)),
        subst (λ l. All (λ y. y < suc x) (l ++ x ∷ [])) (sym h.1) (All-push (λ y. y < suc x) [] x (λ k d l. absurd (omega arith)) (omega arith)),
      ),
      refl,
    )
founds n pass v x is items views room (inr h) at = apart h.0 (sym (h.1 pass v at) ∙ is)

pub pops : (pass : ℕ) (v : KnowsObjects) → Pops AllNamed pass v (λ x w. (w ≡ v) × (x < number v))
pops pass v x items views (inl h) at = let e : suc (length items) ≡ 0 = ap length h.1 in absurd (omega arith)
pops pass v x items views (inr h) at =
    let mine : v ≡ knows h.0 = h.1 pass v at in (
      v,
      inr (h.0, set_one views pass h.0 v h.1 mine, λ k d l. h.2 (suc k) d (omega arith)),
      (refl, subst (λ m. x < m) (ap number (sym mine)) (h.2 0 x (omega arith))),
    )

pub forks : (pass : ℕ) (v : KnowsObjects) → Forks AllNamed pass v (knows (number v)) (knows (number v))
forks pass v items views (inl h) at =
    let first = first_only views v pass h.0 at in
    let zero_of : number v ≡ 0 = ap number first.0 in
    let after : set views pass (knows (number v)) ≡ knows 0 ∷ [] = ap (λ p. set views p (knows (number v))) first.1 ∙ (ap (λ l. set l 0 (knows (number v))) h.0 ∙ ap (λ m. knows m ∷ []) zero_of) in
    inr (
      0,
      (λ j u e. ⊎_elim (λ (x : get_elem? (set views pass (knows (number v))) j ≡ some u). subst (AllKnow 0) (sym after) (one 0) j u x) (λ (x : knows (number v) ≡ u). sym x ∙ ap knows zero_of) (at_snoc (set views pass (knows (number v))) (knows (number v)) u j e)),
      subst (All (λ y. y < 0)) (sym h.1) (λ k d l. absurd (omega arith)),
    )
forks pass v items views (inr h) at =
    let mine : v ≡ knows h.0 = h.1 pass v at in
    let same : knows (number v) ≡ knows h.0 = ap (λ u. knows (number u)) mine in
    inr (
      h.0,
      (λ j u e. ⊎_elim (λ (x : get_elem? (set views pass (knows (number v))) j ≡ some u). set_one views pass h.0 (knows (number v)) h.1 same j u x) (λ (x : knows (number v) ≡ u). sym x ∙ same) (at_snoc (set views pass (knows (number v))) (knows (number v)) u j e)),
      h.2,
    )

pub learns : (pass : ℕ) (v : KnowsObjects) → Learns AllNamed pass v (λ items. ⊤)
learns pass v items views h at = tt
