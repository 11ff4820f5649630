-- No program's own call of a store that never fails is refused.
use Rattle.std.proofs.Common.{◌≡◌, ◌≢◌, ◌∙◌, ℕ, zero, suc, ◌+◌, ◌<◌, ◌≤◌, true, false, cond, nat_lt, List, [], ◌∷◌, ◌++◌, Some, None, length, refl, sym, ap, subst, slice_index_or, arith}
use Rattle.std.specs.List.{All}
use Rattle.cells.specs.declared.ending.Ended.{Ended}
use Rattle.cells.specs.declared.ending.Run.TheVariants.{Wanted as RunWanted}
use Rattle.cells.specs.declared.ending.Want.{Want}
use Rattle.cells.specs.declared.ending.Want.TheVariants.{StoreFailed}
use Rattle.code_form.specs.Form.{Image}
use Rattle.pointer_word.specs.Words.{Coming}
use Rattle.pointer_word.specs.Machine.{State, Far, Never, Kept, Unknown, content}
use Rattle.pointer_word.specs.Sound.{Inv, PlaceOk}
use Rattle.world.specs.Reports.{AreEnds, IsEnded, RunsAs}
use Rattle.world.specs.Telling.{asked_by}
use Rattle.world_actors.specs.Asking.{asked_in}
use Rattle.world_memory.specs.Answered.{Asked, Nothing, Puts, Gets}
use Rattle.world_semantics.specs.Causes.{HasCause, IsRefused}
use Rattle.world_semantics.specs.InHand.{FitsMode, WasPut}
use Rattle.world_semantics.specs.Programs.{Program, Mode, Copying, Stored, NotStored, Refused, Freed, Ready, Missing, Bringing, Reading, Filling, Evicting, Releasing, Retreating, Closing, Wanted}
use Rattle.world_semantics.specs.Steps.{IsSound}
use Rattle.world_semantics.specs.Turns.{Answer}
use Rattle.world_semantics.specs.Worlds.{Event, Follows, Sizes, World, event, start}
use Rattle.world_semantics.specs.declared.event.Actor.TheVariants as actor
use Rattle.schedule_replay.specs.Reliable.{NeverFails}
use Rattle.schedule_replay.specs.Replayed.{IsReplayed, NoneIsRefused, RefusesNone}

abbrev pub Sound : Type 0
Sound = (z : Sizes) (images : ℕ → Image) (events : List Event) (v : World) → Follows (Unit {0}) z images (start images) events v → IsSound (Unit {0}) z v

abbrev pub Wants : Type 0
Wants = (z : Sizes) (images : ℕ → Image) (events : List Event) (v : World) (k : ℕ) (want : Want) → Follows (Unit {0}) z images (start images) events v → (v.programs k).mode ≡ Wanted want → HasCause (Unit {0}) z images k want (start images) events

-- behind some events the store refuses nothing either
skip : (z : Sizes) (images : ℕ → Image) (w at : World) (before rest : List Event) → Follows (Unit {0}) z images w before at → NoneIsRefused (Unit {0}) z images w (before ++ rest) → NoneIsRefused (Unit {0}) z images at rest
skip z images w at [] rest led none = subst (λ (u : World). NoneIsRefused (Unit {0}) z images u rest) (sym led) none
skip z images w at (e ∷ es) rest led none = skip z images led.0 at es rest led.3 (none.1 led.0 led.1)

kept : (x : Far) → WasPut x → (ws : List ℕ) → content x ≡ Some ws → (words : List ℕ) × (x ≡ Kept words)
kept Never put ws is = absurd put
kept (Kept words) put ws is = (words, refl)
kept Unknown put ws is = absurd (let no : ⊥ = cc in no)

-- what is brought in and was put is kept
far_kept : (n : ℕ) (s : State) (m o : ℕ) → Inv (Unit {0}) n s → (s.hand m).bringing ≡ Some o → WasPut (s.far o) → (words : List ℕ) × (s.far o ≡ Kept words)
far_kept n s m o inv brings put =
    let at : (s.word o).place ≡ Coming m = (inv.mover m).brings o brings in
    let ok : PlaceOk (Unit {0}) n s o (Coming m) = subst (PlaceOk (Unit {0}) n s o) at (inv.object o) in
    kept (s.far o) put ok.0.0 ok.0.1

-- a number that is not less
not_less : (x n : ℕ) → n ≤ x → nat_lt x n ≡ false
not_less x n le = grind arith

-- no call of a program in this mode is refused
refused_not : (n : ℕ) (s : State) (j : ℕ) (m : Mode) (a : Answer) → Inv (Unit {0}) n s → FitsMode (Unit {0}) n s.far (s.hand j) m → IsRefused n m a → RefusesNone s.far (asked_in n m) a → ⊥
refused_not n s j Ready a inv fits is none = is
refused_not n s j (Missing o) a inv fits is none = is
refused_not n s j (Bringing o) a inv fits is none = is
refused_not n s j (Reading o f) a inv fits is none = let w = far_kept n s j o inv fits.0.0 fits.1 in none w.0 w.1 is
refused_not n s j (Filling o f words k) a inv fits is none = is
refused_not n s j (Evicting o (Copying v f words)) a inv fits is none =
    let asks : cond (nat_lt (length words) n) Nothing (Puts v) ≡ Puts v = ap (λ b. cond b Nothing (Puts v)) (not_less (length words) n is.0) in
    let stored : a.stored ≡ true = subst (λ (q : Asked). RefusesNone s.far q a) asks none in
    absurd (let clash : true ≡ false = sym stored ∙ is.1 in cc)
refused_not n s j (Evicting o (Stored v f)) a inv fits is none = is
refused_not n s j (Evicting o (NotStored v f)) a inv fits is none = is
refused_not n s j (Evicting o (Refused v f)) a inv fits is none = is
refused_not n s j (Evicting o (Freed f)) a inv fits is none = is
refused_not n s j (Releasing o f) a inv fits is none = is
refused_not n s j (Retreating o) a inv fits is none = is
refused_not n s j Closing a inv fits is none = is
refused_not n s j (Wanted w) a inv fits is none = is

-- no program comes to want the store
never_wanted : Sound → Wants → (z : Sizes) (images : ℕ → Image) (events : List Event) (v : World) (k : ℕ) → k < z.programs → Follows (Unit {0}) z images (start images) events v → NoneIsRefused (Unit {0}) z images (start images) events
    → (v.programs k).mode ≢ Wanted StoreFailed
never_wanted sound wants z images events v k low led all mode =
    let c = wants z images events v k StoreFailed led mode in
    let cut : NoneIsRefused (Unit {0}) z images (start images) (c.before ++ c.event ∷ c.after) = subst (λ (es : List Event). NoneIsRefused (Unit {0}) z images (start images) es) c.among all in
    let none = skip z images (start images) c.at c.before (c.event ∷ c.after) c.follows cut in
    let s : IsSound (Unit {0}) z c.at = sound z images c.before c.at c.follows in
    let OfActor : Type 0 = RefusesNone c.at.lock.far (asked_in z.cells (c.at.programs k).mode) c.event.answer in
    let own : OfActor = subst (λ x. RefusesNone c.at.lock.far (asked_by z c.at x) c.event.answer) c.own (none.0 tt) in
    refused_not z.cells c.at.lock (suc k) (c.at.programs k).mode c.event.answer s.lock (s.hands.program k low) c.cause own

-- the end of one program
end_at : (programs : ℕ → Program) (j : ℕ) (ends : List Ended) (k n : ℕ) (d : Ended) → AreEnds programs j ends → n ≡ j + k → k < length ends → IsEnded (programs n) (slice_index_or ends k d)
end_at programs j [] k n d h is low = absurd (omega arith)
end_at programs j (e ∷ es) zero n d h is low = let same : j ≡ n = omega arith in subst (λ (m : ℕ). IsEnded (programs m) e) same h.0
end_at programs j (e ∷ es) (suc k) n d h is low = end_at programs (suc j) es k n d h.1 (omega arith) (omega arith)

pub never : Sound → Wants → NeverFails
never sound wants z images schedule ends rep = λ k d low failed.
    let count = rep.all in
    let end : IsEnded (rep.world.programs k) (slice_index_or ends k d) = end_at rep.world.programs 0 ends k k d rep.ended (omega arith) low in
    let runs : RunsAs (rep.world.programs k) (RunWanted StoreFailed) = subst (RunsAs (rep.world.programs k)) failed end.runs in
    never_wanted sound wants z images rep.events rep.world k (omega arith) rep.leads.follows rep.leads.none_refused runs.1
