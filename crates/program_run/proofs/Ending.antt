-- The end of a run.
use Rattle.std.proofs.Common.{◌⊎◌, ⊎_elim, ◌%◌, ◌≡◌, true, refl, ◌<◌, ◌≤◌, ◌+◌, ℕ, List, [], ◌∷◌, sym, ap, ◌∙◌, subst, arith}
use Rattle.std.specs.declared.vec.Vec.{Vec}
use Rattle.std.specs.declared.alloc.Global.{Global}
use Rattle.cells.specs.declared.ending.Run.{Run}
use Rattle.cells.specs.declared.ending.Run.TheVariants.{Running, Stopped, Wanted}
use Rattle.cells.specs.declared.ending.Want.{Want}
use Rattle.cells.specs.declared.ending.Want.TheVariants.{OutOfMemory, NoObjects, StoreFailed}
use Rattle.code_form.specs.Form.{Image}
use Rattle.code_form.specs.Effects.{code_run}
use Rattle.code_form.specs.Code.{Core, allocations_of, code, output_of, sizes, stop_of}
use Rattle.code_form.specs.Placed.{next_object, pieces}
use Rattle.object_moves.specs.Taken.{Refused}
use Rattle.remote_store.specs.Refusing.{no_refusals}
use Rattle.remote_store.specs.declared.port.Refusals.{Refusals}
use Rattle.session.specs.State.{Caused, HasRoom as HasRoomFor, IsAt, IsGoing, IsUntold, Ran, State, cells_in}
use Rattle.program_run.specs.Executed.{EndsAs, HasRefused, IsExecutedOver, IsOver, WantsFor, objects_of}
use Rattle.program_run.specs.Runs.{HasCome, is_over}

-- objects are counted from a program's first one on
from_zero : (n base : ℕ) (cells : List ℕ) → next_object n base cells ≡ base + next_object n 0 cells
from_zero n base [] = omega arith
from_zero n base (c ∷ older) = let rest = from_zero n base older in omega arith

-- why a session with so many objects wants something
wants_for : (reliable : Type 0) (objects : ℕ) (before : Refusals) (t : State) (w : Want) → (w ≡ StoreFailed → reliable → ⊥) → t.view.sizes.cells ≡ t.image.piece → t.view.high ≡ t.view.low + objects → Caused reliable before t w → WantsFor reliable objects t.image t.core w
wants_for reliable objects before t NoObjects other size share c =
    let p : ℕ = t.view.sizes.cells in
    let from : next_object p t.view.low (cells_in t) ≡ t.view.low + next_object p 0 (cells_in t) = from_zero p t.view.low (cells_in t) in
    let n : ℕ = c.1.0 in
    let full : t.view.high < next_object p t.view.low (cells_in t) + pieces p n = c.1.2 in
    let more : objects < next_object p 0 (cells_in t) + pieces p n = omega arith in
    (n, c.1.1, subst (λ q. objects < next_object q 0 (cells_in t) + pieces q n) size more)
wants_for reliable objects before t OutOfMemory other size share c =
    let p : ℕ = t.view.sizes.cells in
    let from : next_object p t.view.low (cells_in t) ≡ t.view.low + next_object p 0 (cells_in t) = from_zero p t.view.low (cells_in t) in (
      c.1,
      λ n next.
          let room : next_object p t.view.low (cells_in t) + pieces p n ≤ t.view.high = subst (HasRoomFor t) next c.2 in
          let less : next_object p 0 (cells_in t) + pieces p n ≤ objects = omega arith in
          subst (λ q. next_object q 0 (cells_in t) + pieces q n ≤ objects) size less,
    )
wants_for reliable objects before t StoreFailed other size share c = other refl

ends_as : (reliable : Type 0) (objects : ℕ) (before : Refusals) (t : State) (r : Run) → (r ≡ Wanted StoreFailed → reliable → ⊥) → t.view.sizes.cells ≡ t.image.piece → t.view.high ≡ t.view.low + objects → IsOver reliable before t r → EndsAs reliable objects t.image t.core r
ends_as reliable objects before t Running other size share over = over
ends_as reliable objects before t (Stopped x) other size share over = over
ends_as reliable objects before t (Wanted w) other size share over = (over.0, wants_for reliable objects before t w (λ e. other (ap Wanted e)) size share over.1)

-- where a session's program is, the code's run is
pub reached : (C : Image) (t : State) (n : ℕ) → t.image ≡ C → IsAt t → n ≡ t.completed → t.core ≡ (code_run (code C) n).0
reached C t n image at count = at.core ∙ ap (λ D. (code_run (code D) t.completed).0) image ∙ ap (λ k. (code_run (code C) k).0) (sym count)

-- what a session came to is what the code's run came to
pub executed : (reliable : Type 0) (objects : ℕ) (before : Refusals) (C : Image) (t : State) (out : Vec ℕ Global) (r : Run) (n : ℕ) → t.image ≡ C → t.view.sizes.cells ≡ t.image.piece → t.view.high ≡ t.view.low + objects → IsAt t → out.items ≡ output_of t.core → n ≡ t.completed → IsOver reliable before t r → (r ≡ Wanted StoreFailed → reliable → ⊥)
    → IsExecutedOver reliable objects C (record { output = out; run = r; completed = n })
executed reliable objects before C t out r n image size share at printed count over other =
    let there : t.core ≡ (code_run (code C) n).0 = reached C t n image at count in
    let p : ℕ = t.view.sizes.cells in
    let from : next_object p t.view.low (cells_in t) ≡ t.view.low + next_object p 0 (cells_in t) = from_zero p t.view.low (cells_in t) in
    let fits : next_object p t.view.low (cells_in t) ≤ t.view.high = at.fits in
    let less : next_object p 0 (cells_in t) ≤ objects = omega arith in
    let OfImage : Image → Type 0 = λ D. EndsAs reliable objects D t.core r in
    let OfCore : Core → Type 0 = λ c. EndsAs reliable objects C c r in
    record {
      going = λ k less. ap (λ D. stop_of (code_run (code D) k).0) (sym image) ∙ at.going k (subst (λ j. k < j) count less);
      few = subst (λ (c : Core). objects_of C (sizes (allocations_of c)) ≤ objects) there (subst (λ q. next_object q 0 (cells_in t) ≤ objects) (size ∙ ap (λ (D : Image). D.piece) image) less);
      output = printed ∙ ap output_of there;
      ends = subst OfCore there (subst OfImage image (ends_as reliable objects before t r other size share over));
    }

-- a run that is over has come to its end
pub has_come : (reliable : Type 0) (t : State) (r : Run) → is_over r ≡ true → HasCome reliable t r → IsOver reliable no_refusals t r
has_come reliable t Running over h = absurd (let no : ⊥ = cc over in no)
has_come reliable t (Stopped x) over h = h
has_come reliable t (Wanted w) over h = h

-- a run that is not over goes on
pub goes_on : (reliable : Type 0) (t : State) → HasCome reliable t Running → IsGoing t
goes_on reliable t h = h.0

-- what a session came to on being run on, where nothing had been refused before
pub comes : (reliable : Type 0) (before : Refusals) (t : State) (r : Run) → before ≡ no_refusals → IsOver reliable before t r → HasCome reliable t r
comes reliable before t Running none h = absurd h
comes reliable before t (Stopped x) none h = h
comes reliable before t (Wanted w) none h = (h.0, subst (λ b. Caused reliable b t w) none h.1)

-- what was refused where the run wants something
refused_for : (reliable : Type 0) (s t : State) (w : Want) → s.refusals ≡ no_refusals → Caused reliable s.refusals t w → (w ≡ StoreFailed → Refused reliable s.refusals t.refusals) → HasRefused (Wanted w) t.refusals
refused_for reliable s t NoObjects none c failed = c.0 ∙ none
refused_for reliable s t OutOfMemory none c failed = c.0 ∙ none
refused_for reliable s t StoreFailed none c failed = let f = failed refl in (f.0 ∙ ap (λ (r : Refusals). (r.count + 1) % 18446744073709551616) none, f.1)

-- where a text is not told memory is wanted, and nothing is changed
untold_none : (s t : State) (r : Run) → s.refusals ≡ no_refusals → IsUntold s t r → HasRefused r t.refusals
untold_none s t r none u = subst (λ (q : Run). HasRefused q t.refusals) (sym u.2) (ap (λ (x : State). x.refusals) u.0 ∙ none)

ran_refused : (reliable : Type 0) (n : ℕ) (s t : State) (r : Run) → IsGoing s → s.refusals ≡ no_refusals → Ran reliable n s t r → (r ≡ Wanted StoreFailed → Refused reliable s.refusals t.refusals) → HasRefused r t.refusals
ran_refused reliable n s t Running going none ran failed = ran.3 ∙ none
ran_refused reliable n s t (Stopped x) going none ran failed = ran.3 ∙ none
ran_refused reliable n s t (Wanted w) going none ran failed = refused_for reliable s t w none (ran.4 going) (λ e. failed (ap Wanted e))

-- of a session through whose port nothing had been refused: one call is, where it comes to want the store, and else none
pub refused_own : (reliable : Type 0) (n : ℕ) (s t : State) (r : Run) → IsGoing s → s.refusals ≡ no_refusals → Ran reliable n s t r ⊎ IsUntold s t r → (r ≡ Wanted StoreFailed → Refused reliable s.refusals t.refusals) → HasRefused r t.refusals
refused_own reliable n s t r going none told failed = ⊎_elim (λ (ran : Ran reliable n s t r). ran_refused reliable n s t r going none ran failed) (λ (u : IsUntold s t r). untold_none s t r none u) told
