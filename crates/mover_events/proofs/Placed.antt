-- What a mover's seat kept of the one list is what its actor does from its beginning on.
use Rattle.std.proofs.Common.{◌≡◌, ◌⊎◌, ℕ, suc, ◌<◌, ◌≤◌, List, [], ◌∷◌, map, inl, inr, None, refl, sym, ◌∙◌, subst}
use Rattle.pointer_word.specs.Calls.{Runs}
use Rattle.pointer_word.specs.Machine.{State as Machine, opening}
use Rattle.pointer_word.proofs.Runs.{opens_well}
use Rattle.object_lock.specs.Seats.{Sizes}
use Rattle.object_lock.specs.Logs.{AreOwn, Deed, Follows, calls_of, log_of}
use Rattle.object_moves.specs.Ways.{Did}
use Rattle.world_semantics.specs.Turns.{evacuator_turn}
use Rattle.evacuator.specs.Rounds.{HasMadeRounds}
use Rattle.evacuator.proofs.Visits.{visits_served}
use Rattle.fetcher.specs.Serving.{AreRead, HasServed}
use Rattle.mover_events.specs.Making.{EvacuatorMakes, reads_nothing}
use Rattle.mover_events.specs.Parts.{EvacuatorMakesThem, FetcherMakesThem, kept_at}
use Rattle.mover_events.proofs.Making.{visits_made}
use Rattle.mover_events.proofs.Parts.{makes_them, parts_are}
use Rattle.mover_events.proofs.Served.{services_so}

pub rounds_placed : (reliable honest : Type 0) (z : Sizes) (j : ℕ) (steps : List (ℕ × Deed)) (t : Machine) (did : Did) → z.frames ≤ 1048576 → suc j < 65536 → Follows z opening steps t → Runs honest z.cells opening (calls_of steps) t → AreOwn z steps
    → did.log ≡ log_of j steps → HasMadeRounds reliable z (suc j) did → EvacuatorMakesThem reliable z (suc j) None (kept_at j opening steps) None
rounds_placed rel honest z j steps t did narrow low follows runs own is made =
    let all = visits_made rel honest z (suc j) narrow low made.1.visits [] did.log (λ sure. visits_served z (suc j) _ did made.0 made.1 (made.2 sure)) made.1.logged in
    let log = subst (EvacuatorMakes rel honest z (suc j)) (sym all.1) all.2 in
    let parts = parts_are honest z j steps opening t (opens_well honest z.cells) follows runs own in
    makes_them z (λ x. evacuator_turn z.cells (suc j)) reads_nothing rel honest (suc j) None None _ _ did.log (kept_at j opening steps) log parts.1 (parts.0 ∙ sym is)

pub services_placed : (reliable honest : Type 0) (z : Sizes) (j : ℕ) (steps : List (ℕ × Deed)) (t : Machine) (did : Did) → honest → Follows z opening steps t → Runs honest z.cells opening (calls_of steps) t → AreOwn z steps
    → did.log ≡ log_of j steps → (served : HasServed reliable z (suc j) did) → reliable ⊎ AreRead served.0 → FetcherMakesThem reliable z (suc j) None (kept_at j opening steps) None
services_placed reliable honest z j steps t did sure follows runs own is served read =
    let none_refused : AreRead served.0 = elim read [ inl so ↦ served.3 so | inr so ↦ so ] in
    let all = services_so reliable honest z (suc j) sure served.0 [] did.log none_refused served.2 in
    let parts = parts_are honest z j steps opening t (opens_well honest z.cells) follows runs own in
    all.2 (kept_at j opening steps) _ _ (parts.0 ∙ sym is ∙ all.1) parts.1

-- a seat that kept no step has none at any machine
pub nothing_kept : (honest : Type 0) (z : Sizes) (j : ℕ) (steps : List (ℕ × Deed)) (t : Machine) → Follows z opening steps t → Runs honest z.cells opening (calls_of steps) t → AreOwn z steps → log_of j steps ≡ [] → kept_at j opening steps ≡ []
nothing_kept honest z j steps t follows runs own e = none_of (kept_at j opening steps) ((parts_are honest z j steps opening t (opens_well honest z.cells) follows runs own).0 ∙ e)
  where
    none_of : (ps : List (Machine × Deed)) → map (λ p. p.1) ps ≡ [] → ps ≡ []
    none_of [] e = refl
    none_of (p ∷ ps) e = absurd (cc)
