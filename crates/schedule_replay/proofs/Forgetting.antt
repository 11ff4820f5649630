-- A replay without what the store answered.
use Rattle.std.proofs.Common.{◌≡◌, ◌∙◌, ℕ, zero, suc, List, [], ◌∷◌, length, Some, map, refl, ap, subst, sym}
use Rattle.std.specs.Prelude.{slice_index_or}
use Rattle.cells.specs.declared.ending.Ended.{Ended}
use Rattle.code_form.specs.Form.{Image, image_of}
use Rattle.code_form.specs.declared.form.Image.{Image as RustImage}
use Rattle.region.specs.Admission.{image_at}
use Rattle.pointer_word.specs.Machine.{Far}
use Rattle.remote_store.specs.declared.berth.Berth.{Berth}
use Rattle.remote_store.specs.declared.port.Port.{Port}
use Rattle.schedule_lines.specs.Lines.{Line}
use Rattle.schedule_replay.specs.Replayed.{IsReplayed, IsUnreplayed, Leads, NoneIsRefused, RefusesNone, line_of}
use Rattle.scope_verifier.specs.declared.acceptance.Verified.{Verified}
use Rattle.world.specs.Opened.{images_of, no_image}
use Rattle.world_semantics.specs.Pieces.{HaveOnePiece, piece_of}
use Rattle.world.specs.Parts.{Parts}
use Rattle.world.specs.Reports.{AreLines, IsRefusal, IsReport, LinesLead, event_of}
use Rattle.world.specs.Telling.{asked_by}
use Rattle.world.specs.declared.schedule.Refused.{Refused}
use Rattle.world.specs.declared.schedule.Refused.TheVariants as refused
use Rattle.world_memory.specs.Answered.{AnswersSo, Asked, Nothing, Puts, Gets}
use Rattle.world_semantics.specs.Turns.{Answer}
use Rattle.world_semantics.specs.Worlds.{Event, Follows, Sizes, World, event, start}

-- ---- the images of programs

at_each : (images : List RustImage) (programs : List Verified) → map image_of images ≡ map (λ (p : Verified). image_of p.image) programs → (k : ℕ) → images_of images k ≡ image_at programs k
at_each images programs same k = ap (λ (xs : List Image). slice_index_or xs k no_image) same ∙ by_list programs k
  where
    by_list : (ps : List Verified) (k : ℕ) → slice_index_or (map (λ (p : Verified). image_of p.image) ps) k no_image ≡ image_at ps k
    by_list [] k = refl
    by_list (p ∷ ps) zero = refl
    by_list (p ∷ ps) (suc k) = by_list ps k

pub images_are : (images : List RustImage) (programs : List Verified) → map image_of images ≡ map (λ (p : Verified). image_of p.image) programs → images_of images ≡ image_at programs
images_are images programs same = λ i k. at_each images programs same k i

-- as many images as programs
pub as_many : (images : List RustImage) (programs : List Verified) → map image_of images ≡ map (λ (p : Verified). image_of p.image) programs → length images ≡ length programs
as_many images programs same = sym (mapped image_of images) ∙ ap length same ∙ mapped (λ (p : Verified). image_of p.image) programs
  where
    mapped : {X : Type 0} (f : X → Image) (xs : List X) → length (map f xs) ≡ length xs
    mapped f [] = refl
    mapped f (x ∷ xs) = ap suc (mapped f xs)

-- they have pieces of one size, as the programs have
pub one_piece : (images : List RustImage) (programs : List Verified) → map image_of images ≡ map (λ (p : Verified). image_of p.image) programs → HaveOnePiece (image_at programs) (length programs)
    → HaveOnePiece (images_of images) (length images)
one_piece images programs same one =
    subst (λ (f : ℕ → Image). HaveOnePiece f (length images)) (sym (images_are images programs same)) (subst (λ n. HaveOnePiece (image_at programs) n) (sym (as_many images programs same)) one)

-- of as many cells
pub same_piece : (images : List RustImage) (programs : List Verified) → map image_of images ≡ map (λ (p : Verified). image_of p.image) programs → piece_of (image_at programs) ≡ piece_of (images_of images)
same_piece images programs same = ap piece_of (sym (images_are images programs same))

-- ---- what the store answered

-- an event has one world behind it
one_world : (z : Sizes) (images : ℕ → Image) (w u v : World) (e : Event) → event z images w e ≡ Some u → event z images w e ≡ Some v → u ≡ v
one_world z images w u v e is also = cc

module _ {S C : Type 0} (h r : Type 0) (failures : S → ℕ) (gives : S → C → List ℕ → S → Type 0) (z : Sizes) (images : ℕ → Image) where
  -- what a reliable store answers
  refuses_none : (berths : List (Berth C)) (p q : Port S C) (far : ℕ → Far) (asked : Asked) (a : Answer) → AnswersSo r failures gives z.cells berths p q far asked a → r → RefusesNone far asked a
  refuses_none berths p q far Nothing a answers reliable = tt
  refuses_none berths p q far (Puts o) a answers reliable = answers.1 reliable
  refuses_none berths p q far (Gets o) a answers reliable = answers.1 reliable

  -- the events of lines that lead on
  pub events_of : (w v : World) (x y : Parts S C) (ls : List Line) → LinesLead h r failures gives z images w x ls v y
      → (events : List Event) × (map line_of events ≡ ls) × Follows h z images w events v × NoneIsRefused r z images w events
  events_of w v x y [] led = ([], refl, led.0, tt)
  events_of w v x y (l ∷ ls) led =
      let rest = events_of led.1 v led.2 y ls led.6 in
      let told = led.5 in (
        event_of l led.0 ∷ rest.0,
        ap (λ (xs : List Line). l ∷ xs) rest.1,
        (led.1, led.3, led.4, rest.2),
        (
          refuses_none x.berths.items told.before told.after w.lock.far (asked_by z w l.actor) led.0 told.answered,
          λ u is. subst (λ (t : World). NoneIsRefused r z images t rest.0) (one_world z images w led.1 u (event_of l led.0) led.3 is) rest.3,
        ),
      )

  pub leads_of : (text : List ℕ) (v : World) (x y : Parts S C) (ls : List Line) → AreLines ls text → LinesLead h r failures gives z images (start images) x ls v y
      → (events : List Event) × (map line_of events ≡ ls) × Leads h r z images text events v
  leads_of text v x y ls are led =
      let found = events_of (start images) v x y ls led in
      (found.0, found.1, record { lines = subst (λ (xs : List Line). AreLines xs text) (sym found.1) are; follows = found.2; none_refused = found.3 })

  pub replayed : (schedule : List ℕ) (ends : List Ended) → IsReport h r failures gives z images schedule ends → IsReplayed h r z images schedule ends
  replayed schedule ends report =
      let found = leads_of schedule report.world report.opening report.closing report.led.0 report.led.1 report.led.2 in
      record { events = found.0; world = report.world; leads = found.2; all = report.all; ended = report.ended }

  long : (events : List Event) → length (map line_of events) ≡ length events
  long [] = refl
  long (e ∷ es) = ap suc (long es)

  pub unreplayed : (schedule : List ℕ) (why : Refused) → IsRefusal h r failures gives z images schedule why → IsUnreplayed h r z images schedule why
  unreplayed schedule (refused.Line line) why =
      let at = why.1 in
      let come = at.3 in
      let found = leads_of come.text at.0 why.0 at.1 come.before come.lines come.leads in
      record {
        text = come.text;
        rest = at.2;
        cut = come.cut;
        events = found.0;
        world = at.0;
        leads = found.2;
        count = come.count ∙ ap (λ (ls : List Line). suc (length ls)) (sym found.1) ∙ ap suc (long found.0);
        more = at.4;
        stuck = at.5;
      }
  unreplayed schedule refused.OutOfMemory why = tt

-- ---- of programs

module _ {S C : Type 0} (h r : Type 0) (failures : S → ℕ) (gives : S → C → List ℕ → S → Type 0) (images : List RustImage) (programs : List Verified) (sizes : ℕ → ℕ → Sizes)
    (same : map image_of images ≡ map (λ (p : Verified). image_of p.image) programs) where
  pub programs_replayed : (schedule : List ℕ) (ends : List Ended) → IsReport h r failures gives (sizes (length images) (piece_of (images_of images))) (images_of images) schedule ends → IsReplayed h r (sizes (length programs) (piece_of (image_at programs))) (image_at programs) schedule ends
  programs_replayed schedule ends report =
      subst (λ (n : ℕ). IsReplayed h r (sizes n (piece_of (image_at programs))) (image_at programs) schedule ends) (as_many images programs same)
      (subst (λ (f : ℕ → Image). IsReplayed h r (sizes (length images) (piece_of f)) f schedule ends) (images_are images programs same)
      (replayed h r failures gives (sizes (length images) (piece_of (images_of images))) (images_of images) schedule ends report))

  pub programs_unreplayed : (schedule : List ℕ) (why : Refused) → IsRefusal h r failures gives (sizes (length images) (piece_of (images_of images))) (images_of images) schedule why → IsUnreplayed h r (sizes (length programs) (piece_of (image_at programs))) (image_at programs) schedule why
  programs_unreplayed schedule why refusal =
      subst (λ (n : ℕ). IsUnreplayed h r (sizes n (piece_of (image_at programs))) (image_at programs) schedule why) (as_many images programs same)
      (subst (λ (f : ℕ → Image). IsUnreplayed h r (sizes (length images) (piece_of f)) f schedule why) (images_are images programs same)
      (unreplayed h r failures gives (sizes (length images) (piece_of (images_of images))) (images_of images) schedule why refusal))
