-- What a session did, without what its log gained.
use Rattle.std.proofs.Common.{◌≡◌, ℕ, true, false, ap, ◌∙◌, subst, inl, inr}
use Rattle.std.specs.Prelude.{◌⊎◌}
use Rattle.cells.specs.declared.ending.Want.TheVariants.{StoreFailed}
use Rattle.object_lock.specs.Seats.{Owns}
use Rattle.session.specs.Keeping.{Holds, Misses, has_object, shut, wants}
use Rattle.session.specs.Performing.{GivesIn, Loses, Seizes, shut_all}
use Rattle.session.specs.State.{Logged, State, hold_at}

abbrev pub stated : Logged → State
stated y = y.state

-- scope k holds the object o
abbrev pub Took : ℕ → ℕ → State → State → Type 0
Took k o s t = ((has_object (hold_at s.holds k) o ≡ true) × (t ≡ s)) ⊎ ((has_object (hold_at s.holds k) o ≡ false) × Owns s.view o × Holds k o (shut s k) t)

pub took_so : (k o : ℕ) (s t : Logged) → Seizes k o s t → Took k o s.state t.state
took_so k o s t d = elim d [ inl b ↦ inl (b.0, ap stated b.1) | inr b ↦ inr (b.0, b.1, subst (λ (y : State). Holds k o y t.state) b.2.1.0 b.2.2.0) ]

-- it does not, as the store refused a call
abbrev pub Missed : Type 0 → ℕ → ℕ → State → State → Type 0
Missed reliable k o s t = (has_object (hold_at s.holds k) o ≡ false) × Owns s.view o × Misses reliable o (shut s k) t

pub missed_so : (reliable : Type 0) (k o : ℕ) (s t : Logged) → Loses reliable k o s t → Missed reliable k o s.state t.state
missed_so reliable k o s t b = (b.0, b.1, subst (λ (y : State). Misses reliable o y t.state) b.2.1.0 b.2.2.0)

-- all scopes were shut, and the store is wanted
pub gave_in : (u t : Logged) → GivesIn u t → t.state ≡ wants (shut_all u.state) StoreFailed
gave_in u t g = ap stated g.2 ∙ ap (λ (y : State). wants y StoreFailed) g.1.0
