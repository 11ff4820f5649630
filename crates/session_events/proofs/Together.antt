-- The seats of all programs that have run together, as those of a world's programs.
use Rattle.std.proofs.Common.{◌≡◌, ◌≢◌, ℕ, ◌+◌, ◌*◌, ◌/◌, ◌<◌, List, inl, inr, refl, sym, ap, ◌∙◌, subst, arith}
use Rattle.std.specs.Prelude.{None, Option, Some, slice_get}
use Rattle.std.proofs.lemmas.Option.{none-some, same_Some, slice_get_cases}
use mathlib.Core.Option.{some}
use lib.ListN.{get_elem?}
use Rattle.cells.specs.declared.ending.Run.{Run}
use Rattle.cells.specs.declared.ending.Run.TheVariants.{Running, Stopped, Wanted}
use Rattle.cells.specs.declared.ending.Want.{Want}
use Rattle.cells.specs.declared.ending.Want.TheVariants.{NoObjects, OutOfMemory, StoreFailed}
use Rattle.code_form.specs.Code.{Core, code, effect}
use Rattle.code_form.specs.Effects.{code_run}
use Rattle.code_form.specs.Form.{Image}
use Rattle.code_form.specs.Touches.{touch_of}
use Rattle.object_lock.specs.Logs.{Seated}
use Rattle.object_lock.specs.Seats.{Sizes}
use Rattle.session.specs.Performing.{Acts}
use Rattle.session.specs.State.{Logged, next_touch}
use Rattle.program_run.specs.Acting.{IsLeftBy, session_begun, share_by}
use Rattle.program_run.specs.Executed.{EndsAs}
use Rattle.program_run.specs.declared.run.Finished.{Finished}
use Rattle.program_run.proofs.Acting.{acted_so}
use Rattle.world_semantics.specs.Programs.{Program, begun}
use Rattle.session_events.specs.Laws.{IsAtEnd, mode_of, program_of}
use Rattle.session_events.specs.OneWorld.{HasRunAs, world_sizes}
use Rattle.session_events.specs.Together.{IsEndedAt, IsTold, RunsAreSeats}
use Rattle.session_events.proofs.Told.{all_keep, wants_so}

-- ---- where a program is at its end

-- what it wants then
acted_wants : (honest reliable : Type 0) (s t : Logged) (r : Run) (w : Want) → Acts honest reliable s t r → r ≡ Wanted w → t.state.want ≡ Some w
acted_wants honest reliable s t r w d e = let a : Acts honest reliable s t (Wanted w) = subst (λ (x : Run). Acts honest reliable s t x) e d in wants_so reliable w a.0 t a.2

-- it has stopped so, or wants this
at_end : (honest reliable : Type 0) (objects : ℕ) (C : Image) (s t : Logged) (r : Run) → s.state.want ≡ None → Acts honest reliable s t r → EndsAs reliable objects C t.state.core r → IsAtEnd C (program_of t.state) r
at_end honest reliable objects C s t Running none d ends = absurd ends
at_end honest reliable objects C s t (Stopped x) none d ends = (ap mode_of ((all_keep honest d.0 s t d.1).want ∙ none), ends)
at_end honest reliable objects C s t (Wanted NoObjects) none d ends = ap mode_of (wants_so reliable NoObjects d.0 t d.2)
at_end honest reliable objects C s t (Wanted OutOfMemory) none d ends = inl (ap mode_of (wants_so reliable OutOfMemory d.0 t d.2))
at_end honest reliable objects C s t (Wanted StoreFailed) none d ends = ap mode_of (wants_so reliable StoreFailed d.0 t d.2)

-- a reliable store ends no program
never_wanted : (reliable : Type 0) (objects : ℕ) (C : Image) (c : Core) (r : Run) → reliable → EndsAs reliable objects C c r → r ≢ Wanted StoreFailed
never_wanted reliable objects C c r never ends at = (subst (λ (x : Run). EndsAs reliable objects C c x) at ends).1 never

module _ (honest reliable : Type 0) (z : Sizes) (objects programs evacuators fetchers : ℕ) (images : ℕ → Image) (many : objects ≡ z.objects / programs) where
  module _ (k : ℕ) (e : Finished) (v : Seated) (sizes : v.view.sizes ≡ z) (left : IsLeftBy reliable (share_by k objects) (images k) e v) where
    run_as : e.end.run ≢ Wanted StoreFailed → IsTold (images k) e → HasRunAs honest reliable z (world_sizes z programs evacuators fetchers) images k v (program_of left.0.last.state)
    run_as stored told =
        let a = left.0 in
        let s = a.last.state in
        let image : s.image ≡ images k = a.acted.2.0 in
        let next : next_touch s ≡ touch_of (effect (images k) (code_run (code (images k)) e.end.completed).0) = ap (λ (i : Image). touch_of (effect i s.core)) image ∙ ap (λ (c : Core). touch_of (effect (images k) c)) a.core in
        let is : s.view.sizes ≡ z = sym (ap (λ (x : Seated). x.view.sizes) left.1) ∙ sizes in
        let cells : s.view.sizes.cells ≡ z.cells = ap (λ (x : Sizes). x.cells) is in
        let base : s.view.low ≡ k * (z.objects / programs) = a.first ∙ ap (λ (n : ℕ). k * n) many in
        let limit : s.view.high ≡ k * (z.objects / programs) + z.objects / programs = a.share ∙ ap (λ (n : ℕ). n + objects) a.first ∙ ap (λ (n : ℕ). k * n + n) many in
        record {
          session = a.last;
          run = e.end.run;
          acted = acted_so honest reliable (images k) a.last e.end.run a.acted;
          stored = stored;
          told = λ wants ends. told wants (sym next ∙ ends);
          seated = left.1;
          sizes = is;
          setting_is = λ i. record { size = cells i; base = base i; limit = limit i; mover = a.mover i; image = image i };
          at = refl;
        }

    ended_at : EndsAs reliable objects (images k) (code_run (code (images k)) e.end.completed).0 e.end.run → IsEndedAt (images k) e (program_of left.0.last.state)
    ended_at ends =
        let a = left.0 in
        let here : EndsAs reliable objects (images k) a.last.state.core e.end.run = subst (λ (c : Core). EndsAs reliable objects (images k) c e.end.run) (sym a.core) ends in
        record {
          completed = sym a.completed;
          printed = sym a.printed;
          ended = at_end (Unit {0}) reliable objects (images k) (session_begun a.last.state.table (images k) a.acted.0) a.last e.end.run refl a.acted.3 here;
          wants = λ w wants. ap mode_of (acted_wants (Unit {0}) reliable (session_begun a.last.state.table (images k) a.acted.0) a.last e.end.run w a.acted.3 wants);
        }

pub runs_are : {S : Type 0} (kept : S → ℕ → List ℕ → Type 0) (there : S → Type 0) (honest reliable : Type 0) → RunsAreSeats kept there honest reliable
runs_are {S} kept there honest reliable z objects programs evacuators fetchers images ends sure served many all over told run = (
  λ k. (placed k (slice_get ends k) refl).0,
  record {
    of_programs = λ k few. (placed k (slice_get ends k) refl).1 few;
    of_evacuators = run.of_evacuators;
    of_fetchers = run.of_fetchers;
    of_nobody = run.few;
  },
  λ k e is. (placed k (slice_get ends k) refl).2 e is,
)
  where
    -- each program has an end
    has_end : (k : ℕ) → k < programs → slice_get ends k ≡ None → ⊥
    has_end k few is = elim (slice_get_cases ends k).1 [ inl b ↦ none-some b.0 (sym is ∙ b.2) | inr b ↦ let past = b.0 in omega (arith, all) ]

    -- where program k is, by what is told of it
    placed : (k : ℕ) (o : Option Finished) → slice_get ends k ≡ o → (q : Program) × (k < programs → (v : Seated) × (get_elem? run.table.views k ≡ some v) × HasRunAs honest reliable z (world_sizes z programs evacuators fetchers) images k v q)
        × ((e : Finished) → slice_get ends k ≡ Some e → IsEndedAt (images k) e q)
    placed k None is = (begun (images k), (λ few. absurd (has_end k few is)), λ e at. absurd (none-some e (sym is ∙ at)))
    placed k (Some e) is =
        let p = run.of_programs k e is in
        let ends = (over k e is).executed.ends in
        let stored = never_wanted reliable objects (images k) (code_run (code (images k)) e.end.completed).0 e.end.run served ends in (
          program_of p.3.0.last.state,
          (λ few. (p.0, p.1, run_as honest reliable z objects programs evacuators fetchers images many k e p.0 p.2 p.3 stored (told k e is))),
          λ f at. subst (λ (x : Finished). IsEndedAt (images k) x (program_of p.3.0.last.state)) (same_Some e f (sym is ∙ at)) (ended_at honest reliable z objects programs evacuators fetchers images many k e p.0 p.2 p.3 ends),
        )
