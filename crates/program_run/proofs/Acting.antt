-- What a session did in turns, one behind the other.
use Rattle.std.proofs.Common.{◌≡◌, ◌∙◌, inl, inr, List, [], ◌∷◌, Some, None, ap, subst, sym}
use Rattle.cells.specs.declared.ending.Run.{Run}
use Rattle.cells.specs.declared.ending.Run.TheVariants.{Running, Stopped, Wanted}
use Rattle.cells.specs.declared.ending.Want.{Want}
use Rattle.cells.specs.declared.ending.Want.TheVariants.{NoObjects, OutOfMemory, StoreFailed}
use Rattle.code_form.specs.Form.{Image}
use Rattle.code_form.specs.declared.touch.Touch.{Touch}
use Rattle.code_form.specs.declared.touch.Touch.TheVariants as touch
use Rattle.session.specs.Performing.{Acts, ComesToWant, LosesAt, Performs, PerformsBy, PerformsSome}
use Rattle.session.specs.State.{Logged, SameProgram, State, begin}
use Rattle.atomic_table.specs.Seated.{TableId}
use Rattle.object_lock.specs.Seats.{View}
use Rattle.remote_store.specs.Refusing.{no_refusals}
use Rattle.program_run.specs.Acting.{HasActed, IsActedOver, IsUnused, Share, session_begun}
use Rattle.program_run.specs.declared.run.Finished.{Finished}

-- instructions were completed, and then others
performs_on : (honest : Type 0) (us : List Logged) (s u t : Logged) → PerformsBy honest us s u → PerformsSome honest u t → PerformsSome honest s t
performs_on honest [] s u t first more = subst (λ (x : Logged). PerformsSome honest x t) first more
performs_on honest (x ∷ us) s u t first more = let rest = performs_on honest us x u t first.1 more in (x ∷ rest.0, (first.0, rest.1))

acts_on : (honest reliable : Type 0) (s u t : Logged) (r : Run) → PerformsSome honest s u → Acts honest reliable u t r → Acts honest reliable s t r
acts_on honest reliable s u t Running first more = performs_on honest first.0 s u t first.1 more
acts_on honest reliable s u t (Stopped x) first more = performs_on honest first.0 s u t first.1 more
acts_on honest reliable s u t (Wanted w) first more = (more.0, performs_on honest first.0 s u more.0 first.1 more.1, more.2)

same_on : (s u t : State) → SameProgram s u → SameProgram u t → SameProgram s t
same_on s u t first more = (more.0 ∙ first.0, more.1 ∙ first.1, more.2 ∙ first.2, more.3 ∙ first.3)

-- what a session did that went on, and then one turn more
pub acted_on : (honest reliable : Type 0) (u t : Logged) (r : Run) → HasActed honest reliable u.state.image u Running → Acts honest reliable u t r → SameProgram u.state t.state → HasActed honest reliable t.state.image t r
acted_on honest reliable u t r was more same =
    let table : u.state.table ≡ t.state.table = sym (ap (λ (z : TableId × View). z.0) same.3) in
    let s : TableId → Logged = λ z. session_begun z u.state.image was.0 in
    subst (λ (D : Image). HasActed honest reliable D t r) (sym same.0) (subst
    (λ (z : TableId). (v : View) × IsUnused v × SameProgram (begin z u.state.image v no_refusals) t.state × Acts honest reliable (session_begun z u.state.image v) t r) table
    (was.0, was.1, same_on (s u.state.table).state u.state t.state was.2 same, acts_on honest reliable (s u.state.table) u t r was.3 more))

-- ---- a store that is honest

performs_honest : (h g : Type 0) (x : Touch) (s t : Logged) → (g → h) → Performs h x s t → Performs g x s t
performs_honest h g touch.Plain s t so d = d
performs_honest h g (touch.Hints w) s t so d = d
performs_honest h g (touch.Aims k w) s t so d = d
performs_honest h g (touch.Loads k a) s t so d = (d.0, d.1, d.2, (d.3.0, (λ q. d.3.1 (so q)), d.3.2))
performs_honest h g (touch.Stores k a v) s t so d = d
performs_honest h g (touch.Leaves k) s t so d = d
performs_honest h g (touch.Allocs n) s t so d = d
performs_honest h g touch.Ends s t so d = d
performs_honest h g touch.Wrong s t so d = d
performs_honest h g touch.Nothing s t so d = d

by_honest : (h g : Type 0) (us : List Logged) (s t : Logged) → (g → h) → PerformsBy h us s t → PerformsBy g us s t
by_honest h g [] s t so d = d
by_honest h g (u ∷ us) s t so d =
    let n = d.0 in
    (record { touch = n.touch; safe = n.safe; going = n.going; next = n.next; performed = performs_honest h g n.touch s u so n.performed; same = n.same }, by_honest h g us u t so d.1)

acts_honest : (h g reliable : Type 0) (s t : Logged) (r : Run) → (g → h) → Acts h reliable s t r → Acts g reliable s t r
acts_honest h g reliable s t Running so d = (d.0, by_honest h g d.0 s t so d.1)
acts_honest h g reliable s t (Stopped x) so d = (d.0, by_honest h g d.0 s t so d.1)
acts_honest h g reliable s t (Wanted w) so d = (d.0, (d.1.0, by_honest h g d.1.0 s d.0 so d.1.1), d.2)

-- what a session did over a store that is honest
pub acted_honest : (honest reliable : Type 0) (C : Image) (t : Logged) (r : Run) → honest → HasActed honest reliable C t r → HasActed (Unit {0}) reliable C t r
acted_honest honest reliable C t r is a = (a.0, a.1, a.2, acts_honest honest (Unit {0}) reliable (session_begun t.state.table C a.0) t r (λ q. is) a.3)

-- and over one that may be honest or not
pub acted_so : (honest reliable : Type 0) (C : Image) (t : Logged) (r : Run) → HasActed (Unit {0}) reliable C t r → HasActed honest reliable C t r
acted_so honest reliable C t r a = (a.0, a.1, a.2, acts_honest (Unit {0}) honest reliable (session_begun t.state.table C a.0) t r (λ q. tt) a.3)

-- ---- a store of which less is asked

loses_less : (r q : Type 0) (x : Touch) (s t : Logged) → (q → r) → LosesAt r x s t → LosesAt q x s t
loses_less r q (touch.Aims k (Some a)) s t less lost =
    let m = lost.2.2 in
    let n = m.0 in
    (lost.0, lost.1, (lost.2.0, lost.2.1, (record { gives = n.gives; came = n.came; refused = (n.refused.0, n.refused.1, λ sure. n.refused.2 (less sure)); same = n.same }, m.1)))
loses_less r q (touch.Aims k None) s t less lost = absurd lost
loses_less r q touch.Plain s t less lost = absurd lost
loses_less r q (touch.Hints w) s t less lost = absurd lost
loses_less r q (touch.Loads k a) s t less lost = absurd lost
loses_less r q (touch.Stores k a v) s t less lost = absurd lost
loses_less r q (touch.Leaves k) s t less lost = absurd lost
loses_less r q (touch.Allocs n) s t less lost = absurd lost
loses_less r q touch.Ends s t less lost = absurd lost
loses_less r q touch.Wrong s t less lost = absurd lost
loses_less r q touch.Nothing s t less lost = absurd lost

comes_less : (r q : Type 0) (w : Want) (s t : Logged) → (q → r) → ComesToWant r w s t → ComesToWant q w s t
comes_less r q NoObjects s t less c = c
comes_less r q OutOfMemory s t less c = c
comes_less r q StoreFailed s t less c = elim c [
  | inl b ↦ inl (b.0, b.1, b.2, loses_less r q b.0 s b.1 less b.3, b.4)
  | inr b ↦ inr b
]

acts_less : (h r q : Type 0) (s t : Logged) (run : Run) → (q → r) → Acts h r s t run → Acts h q s t run
acts_less h r q s t Running less d = d
acts_less h r q s t (Stopped x) less d = d
acts_less h r q s t (Wanted w) less d = (d.0, d.1, record { safe = d.2.safe; going = d.2.going; came = comes_less r q w d.0 t less d.2.came })

-- what a session did over a store it did over one of which less is asked
pub acted_less : (r q : Type 0) (w : Share) (C : Image) (f : Finished) → (q → r) → IsActedOver r w C f → IsActedOver q w C f
acted_less r q w C f less a =
    let s = session_begun a.last.state.table C a.acted.0 in
    record {
      last = a.last;
      acted = (a.acted.0, a.acted.1, a.acted.2, acts_less (Unit {0}) r q s a.last f.end.run less a.acted.3);
      core = a.core;
      cells = a.cells;
      mover = a.mover;
      first = a.first;
      share = a.share;
      printed = a.printed;
      completed = a.completed;
      refusals = a.refusals;
    }
