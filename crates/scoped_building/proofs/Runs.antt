-- What code does, one behind another, in a choice, in a loop and in a block.
use Rattle.std.proofs.Common.{◌≡◌, ℕ, zero, suc, List, refl, ap}
use Rattle.std.specs.Prelude.{slice_index}
use Rattle.code_form.specs.declared.form.Kind.{Kind}
use Rattle.code_form.specs.declared.form.Kind.TheVariants as kind
use Rattle.code_form.specs.Code.{has, if_zero}
use Rattle.middle_form.specs.Meaning.{Outcome, Done, Stopped, Cut, Stuck, Registers, State, Left, behind, falls, loop, on, then_do, turn, where_so}

abbrev pub Run : Type 0
Run = Registers → State → Outcome Left

abbrev pub then_run : Run → Run → Run
then_run f g rs t = then_do (f rs t) (falls g)

pub then_on : (o : Outcome Left) → then_do o (falls on) ≡ o
then_on (Done (zero, rs) t) = refl
then_on (Done (suc k, rs) t) = refl
then_on (Stopped x out) = refl
then_on (Cut out) = refl
then_on Stuck = refl

pub then_nothing : (f : Run) → ◌≡◌ {A = Run} (then_run f on) f
then_nothing f = λ i rs t. then_on (f rs t) i

pub then_again : (o : Outcome Left) (f g : Run) → then_do o (falls (then_run f g)) ≡ then_do (then_do o (falls f)) (falls g)
then_again (Done (zero, rs) t) f g = refl
then_again (Done (suc k, rs) t) f g = refl
then_again (Stopped x out) f g = refl
then_again (Cut out) f g = refl
then_again Stuck f g = refl

pub then_regroup : (e f g : Run) → ◌≡◌ {A = Run} (then_run e (then_run f g)) (then_run (then_run e f) g)
then_regroup e f g = λ i rs t. then_again (e rs t) f g i

pub then_same : (f f' g g' : Run) → ◌≡◌ {A = Run} f f' → ◌≡◌ {A = Run} g g' → ◌≡◌ {A = Run} (then_run f g) (then_run f' g')
then_same f f' g g' p q = λ i. then_run (p i) (q i)

abbrev pub choose_run : List Kind → ℕ → Run → Run → Run
choose_run ks c f g rs t = where_so (has ks c kind.Bool) (if_zero (slice_index rs c) (g rs t) (f rs t))

pub choose_same : (ks : List Kind) (c : ℕ) (f f' g g' : Run) → ◌≡◌ {A = Run} f f' → ◌≡◌ {A = Run} g g' → ◌≡◌ {A = Run} (choose_run ks c f g) (choose_run ks c f' g')
choose_same ks c f f' g g' p q = λ i. choose_run ks c (p i) (q i)

abbrev pub loop_run : List Kind → ℕ → Run → Run → Run
loop_run ks c f g rs t = where_so (has ks c kind.Bool) (then_do (loop f c g t.turns rs t) behind)

pub loop_same : (ks : List Kind) (c : ℕ) (f f' g g' : Run) → ◌≡◌ {A = Run} f f' → ◌≡◌ {A = Run} g g' → ◌≡◌ {A = Run} (loop_run ks c f g) (loop_run ks c f' g')
loop_same ks c f f' g g' p q = λ i. loop_run ks c (p i) (q i)

abbrev pub block_run : Run → Run
block_run f rs t = then_do (f rs t) behind

pub block_same : (f f' : Run) → ◌≡◌ {A = Run} f f' → ◌≡◌ {A = Run} (block_run f) (block_run f')
block_same f f' p = λ i. block_run (p i)

pub turn_same : (t : State) (f g : State → Outcome ℕ) → ((u : State) → f u ≡ g u) → turn t f ≡ turn t g
turn_same t f g h = let p : ◌≡◌ {A = State → Outcome ℕ} f g = λ i u. h u i in ap (turn t) p
