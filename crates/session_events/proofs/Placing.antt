-- What a seat kept of the one list is what its program does from its beginning on.
use Rattle.std.proofs.Common.{◌≡◌, ◌≢◌, ℕ, suc, ◌<◌, ◌≤◌, List, [], ◌∷◌, sym, ap, ◌∙◌, subst}
use Rattle.std.specs.Prelude.{slice_index_or}
use Rattle.cells.specs.declared.ending.Run.{Run}
use Rattle.cells.specs.declared.ending.Run.TheVariants.{Wanted}
use Rattle.cells.specs.declared.ending.Want.TheVariants.{OutOfMemory, StoreFailed}
use Rattle.code_form.specs.Form.{Image}
use Rattle.code_form.specs.declared.touch.Touch.TheVariants.{Ends}
use Rattle.pointer_word.specs.Calls.{Runs}
use Rattle.pointer_word.specs.Hands.{Hand, Note, blank}
use Rattle.pointer_word.specs.Machine.{State, opening}
use Rattle.pointer_word.proofs.Runs.{opens_well}
use Rattle.object_lock.specs.Logs.{AreCallsAt, AreOwn, AreOwners, Deed, Follows, act_all, calls_of, log_of}
use Rattle.object_lock.specs.Seats.{Owns, Sizes, View}
use Rattle.session.specs.Performing.{Acts}
use Rattle.session.specs.State.{Logged, next_touch}
use Rattle.session.proofs.Alike.{at_all}
use Rattle.program_run.specs.Acting.{IsUnused, session_begun}
use Rattle.world_semantics.specs.Programs.{Setting, begun}
use Rattle.mover_events.specs.Parts.{AreSteps, NotesStay, kept_at}
use Rattle.mover_events.proofs.Notes.{notes_stay}
use Rattle.mover_events.proofs.Parts.{parts_are}
use Rattle.session_events.specs.Knowing.{IsOwn, Known, learned}
use Rattle.session_events.specs.Laws.{program_of, setting_of, unused}
use Rattle.session_events.specs.Listed.{MakesOwn}
use Rattle.session_events.proofs.Completing.{Noted, acted}
use Rattle.session_events.proofs.Listing.{Comes}

-- its steps at their machines, where nobody else changes what it has in hand, nor what it knows of its objects
comes_of : (reliable honest : Type 0) (z : Sizes) (g : Setting) (owner : ℕ → ℕ) (j : ℕ) → g.mover ≡ suc j → ((o : ℕ) → IsOwn g o → owner o ≡ j) → (k : Known) (ps : List (State × Deed)) (y : Hand) (last : ℕ → Note)
    → AreSteps honest z (suc j) k.hand ps y → NotesStay owner j k.notes ps last → Comes reliable honest z g k ps
comes_of reliable honest z g owner j is mine k [] y last s n = tt
comes_of reliable honest z g owner j is mine k (p ∷ ps) y last s n = (
  s.0,
  subst (λ (i : ℕ). AreCallsAt z i p.1.word p.1.calls) (sym is) s.1,
  s.2,
  (ap p.0.hand is ∙ s.3, λ o own. n.0 o (mine o own)),
  comes_of reliable honest z g owner j is mine (learned g (act_all p.0 p.1.calls)) ps y last (subst (λ (i : ℕ). AreSteps honest z (suc j) ((act_all p.0 p.1.calls).hand i) ps y) (sym is) s.4) n.1,
)

pub placed : (reliable honest : Type 0) (owner : ℕ → ℕ) (j : ℕ) (steps : List (ℕ × Deed)) (t : State) (C : Image) (v : View) (s : Logged) (r : Run) → honest → v.sizes.frames ≤ 1048576 → suc j < 65536 → v.number ≡ suc j → IsUnused v → ((o : ℕ) → Owns v o → owner o ≡ j)
    → Follows v.sizes opening steps t → Runs honest v.sizes.cells opening (calls_of steps) t → AreOwn v.sizes steps → AreOwners owner steps → Acts honest reliable (session_begun s.state.table C v) s r → r ≢ Wanted StoreFailed → (r ≡ Wanted OutOfMemory → next_touch s.state ≢ Ends) → s.log ≡ log_of j steps
    → MakesOwn reliable honest v.sizes (setting_of (session_begun s.state.table C v).state) unused (begun C) (kept_at j opening steps) (program_of s.state)
placed reliable honest owner j steps t C v s r sure narrow low number is owned follows runs own owners done stored text log =
    let g : Setting = setting_of (session_begun s.state.table C v).state in
    let parts = parts_are honest v.sizes j steps opening t (opens_well honest v.sizes.cells) follows runs own in
    let notes = notes_stay honest v.sizes owner j steps opening t (opens_well honest v.sizes.cells) follows runs own owners in
    let come = comes_of reliable honest v.sizes g owner j number owned unused (kept_at j opening steps) (t.hand (suc j)) t.note parts.1 notes in
    let did = acted reliable honest sure (session_begun s.state.table C v) s r narrow (subst (λ (i : ℕ). i < 65536) (sym number) low) done stored text in
    let known : Noted v unused = λ o mine. sym (ap (λ (ns : List Note). slice_index_or ns o blank) is.1 ∙ at_all blank v.sizes.objects o) in
    (did.2 unused known (kept_at j opening steps) (parts.0 ∙ sym log ∙ did.1) come).0
