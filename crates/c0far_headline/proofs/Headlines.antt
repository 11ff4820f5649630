-- what every interleaving leaves of a program, from what the compiler, the meaning and the world promise
use Rattle.std.proofs.Common.{◌≡◌, ℕ, zero, suc, ◌+◌, ◌-◌, ◌<◌, ◌≤◌, Bool, true, false, Option, Some, None, List, [], ◌∷◌, ◌++◌, refl, sym, ap, ◌∙◌, subst, arith, append_assoc}
use Rattle.cells.specs.declared.ending.Want.{Want}
use Rattle.cells.specs.Stops.{Stop}
use Rattle.cells.specs.Outcomes.{Meant, IsPrefix, KeepsEnd, stops_with}
use Rattle.c0_typed.specs.Trees.{Program as Typed}
use Rattle.c0_typed.specs.Meaning.{mean}
use Rattle.c0_typed.specs.More.{MoreTurnsExtend}
use Rattle.code_form.specs.Form.{Image}
use Rattle.code_form.specs.Effects.{Heap, code_run, steps}
use Rattle.code_form.specs.declared.allocation.Allocation.{Allocation}
use Rattle.code_form.specs.Code.{Core, Running, Stopped, Stuck, code, output_of, stop_of}
use Rattle.code_form.specs.Laws.{StepsAdd, StoppedStays}
use Rattle.world_semantics.specs.Causes.{HasCause}
use Rattle.world_semantics.specs.Following.{IsAt}
use Rattle.world_semantics.specs.Programs.{Wanted}
use Rattle.world_semantics.specs.Worlds.{Event, Follows, Sizes, World, start}
use Rattle.c0_image.specs.Compiled.{OneImage}
use Rattle.c0_image.specs.Correct.{Behaves}
use Rattle.c0far_headline.specs.Headline.{EndsSo, Headline, IsRun, Promised, StopsAt}

-- what the compiler, the meaning, the code's run and the world promise
pub record Laws : Type 0 where
  pub one : OneImage
  pub more : MoreTurnsExtend
  pub add : StepsAdd
  pub stays : StoppedStays
  pub at : (z : Sizes) (images : ℕ → Image) (events : List Event) (v : World) → 0 < z.cells → Follows (Unit {0}) z images (start images) events v → (k : ℕ) → IsAt z images v k
  pub wanted : (z : Sizes) (images : ℕ → Image) (events : List Event) (v : World) (k : ℕ) (want : Want) → Follows (Unit {0}) z images (start images) events v → (v.programs k).mode ≡ Wanted want
      → HasCause (Unit {0}) z images k want (start images) events

-- a beginning of a beginning
further : (a b c : List ℕ) → IsPrefix a b → IsPrefix b c → IsPrefix a c
further a b c p q = (p.0 ++ q.0, sym (append_assoc a p.0 q.0) ∙ ap (λ l. l ++ q.0) p.1 ∙ q.1)

nil_right : (a : List ℕ) → a ++ [] ≡ a
nil_right [] = refl
nil_right (x ∷ a) = ap (λ l. x ∷ l) (nil_right a)

-- more turns print more, or the same
kept_prints : (a b : Meant) → KeepsEnd a b → IsPrefix a.output b.output
kept_prints a b h = by_stop a.stop h
  where
    by_stop : (x : Option Stop) → elim x as (λ (y : Option Stop). Type 0) [ None ↦ IsPrefix a.output b.output | Some x ↦ (b.stop ≡ Some x) × (b.output ≡ a.output) ] → IsPrefix a.output b.output
    by_stop None h = h
    by_stop (Some s) h = ([], nil_right a.output ∙ sym h.1)

meant_is : (m : Meant) (s : Option Stop) (o : List ℕ) → m.stop ≡ s → m.output ≡ o → m ≡ record { stop = s; output = o }
meant_is m s o a b =
    let with_stop : Option Stop → Meant = λ x. record { stop = x; output = m.output } in
    let with_output : List ℕ → Meant = λ x. record { stop = s; output = x } in
    ap with_stop a ∙ ap with_output b

-- an end is kept
kept_stops : (a b : Meant) (s : Stop) (o : List ℕ) → a ≡ stops_with s o → KeepsEnd a b → b ≡ stops_with s o
kept_stops a b s o e h =
    let k : (b.stop ≡ Some s) × (b.output ≡ o) = subst (λ (z : Meant). KeepsEnd z b) e h in
    meant_is b (Some s) o k.0 k.1

-- the first number at which a test holds
least : (p : ℕ → Bool) (k : ℕ) → p k ≡ true → (j : ℕ) × (p j ≡ true) × (j ≤ k) × ((i : ℕ) → i < j → p i ≡ false)
least p zero e = (0, e, omega arith, λ i lt. absurd (omega arith))
least p (suc k) e = by_first (p 0) refl (least (λ i. p (suc i)) k e)
  where
    below : (j : ℕ) → p 0 ≡ false → ((i : ℕ) → i < j → p (suc i) ≡ false) → (i : ℕ) → i < suc j → p i ≡ false
    below j f h zero lt = f
    below j f h (suc i) lt = h i (omega arith)

    by_first : (b : Bool) → p 0 ≡ b → ((j : ℕ) × (p (suc j) ≡ true) × (j ≤ k) × ((i : ℕ) → i < j → p (suc i) ≡ false)) → (j : ℕ) × (p j ≡ true) × (j ≤ suc k) × ((i : ℕ) → i < j → p i ≡ false)
    by_first true f z = (0, f, omega arith, λ i lt. absurd (omega arith))
    by_first false f z = let le = z.2 in (suc z.0, z.1, omega arith, below z.0 f z.3)

abbrev has_stopped : Core → Bool
has_stopped c = elim (stop_of c) [ None ↦ false | Some s ↦ true ]

none_of : (x : Option Stop) → elim x as (λ (y : Option Stop). Bool) [ None ↦ false | Some s ↦ true ] ≡ false → x ≡ None
none_of None e = refl
none_of (Some s) e = cc

stopped_is : (c : Core) → has_stopped c ≡ true → (s : Stop) × (al : List Allocation) × (o : List ℕ) × (c ≡ Stopped s al o)
stopped_is (Running f st al o) e = absurd (cc e)
stopped_is (Stopped s al o) e = (s, al, o, refl)
stopped_is (Stuck al o) e = absurd (cc e)

-- the code of this image is stopped so at so many completed instructions, and not before; they leave each program of it stopped so
abbrev SettledAt : ℕ → Image → Stop → List ℕ → Type 0
SettledAt j C s o = StopsAt C j s o
    × ((z : Sizes) (images : ℕ → Image) (events : List Event) (v : World) (k : ℕ) → IsRun z images events v → images k ≡ C
    → j ≤ (v.programs k).completed → (al : List Allocation) × ((v.programs k).core ≡ Stopped s al o))

-- where the meaning ends, some number of completed instructions leaves each program of this image stopped so
abbrev SettlesAs : Typed → Bool → Image → Type 0
SettlesAs P checks C = (s : Stop) (o : List ℕ) → EndsSo P checks s o → (j : ℕ) × SettledAt j C s o

module _ (laws : Laws) where
  -- once stopped, the code's run is stopped at every later number
  stays_stopped : (C : Image) (j k : ℕ) (s : Stop) (al : List Allocation) (o : List ℕ) → j ≤ k → (code_run (code C) j).0 ≡ Stopped s al o → (code_run (code C) k).0 ≡ Stopped s al o
  stays_stopped C j k s al o le e =
      let split : k ≡ j + (k - j) = omega arith in
      let start : Core × Heap = ((code C).start, λ _ _. 0) in
      let h : Heap = (code_run (code C) j).1 in
      ap (λ n. (steps (code C) n start).0) split ∙ ap (λ (z : Core × Heap). z.0) (laws.add (code C) j (k - j) start)
      ∙ ap (λ (c : Core). (steps (code C) (k - j) (c, h)).0) e ∙ ap (λ (z : Core × Heap). z.0) (laws.stays C s al o h (k - j))

  -- the code's run stops first at some number
  first_stop : (C : Image) (k : ℕ) (s : Stop) (al : List Allocation) (o : List ℕ) → (code_run (code C) k).0 ≡ Stopped s al o
      → (j : ℕ) × ((code_run (code C) j).0 ≡ Stopped s al o) × ((i : ℕ) → i < j → stop_of (code_run (code C) i).0 ≡ None)
  first_stop C k s al o e =
      let z = least (λ i. has_stopped (code_run (code C) i).0) k (ap has_stopped e) in
      let le = z.2 in
      let so = stopped_is (code_run (code C) z.0).0 z.1 in
      (z.0, so.3 ∙ sym (stays_stopped C z.0 k so.0 so.1 so.2 (omega arith) so.3) ∙ e, λ i lt. none_of (stop_of (code_run (code C) i).0) (z.3 i lt))

  module _ (P : Typed) (checks : Bool) (C : Image) (behaves : Behaves P checks C) where
    pub at_beginning : (c : Core) (j : ℕ) → c ≡ (code_run (code C) j).0 → (n : ℕ) × ((m : ℕ) → n ≤ m → IsPrefix (output_of c) (mean P checks m).output)
    at_beginning c j e =
        let b = behaves.runs j in
        (b.0, λ m le. further _ _ _ (subst (λ (d : Core). IsPrefix (output_of d) (mean P checks b.0).output) (sym e) b.1) (kept_prints _ _ (laws.more P checks b.0 m le)))

    pub at_stop : (c : Core) (j : ℕ) → c ≡ (code_run (code C) j).0 → (s : Stop) (al : List Allocation) (o : List ℕ) → c ≡ Stopped s al o → EndsSo P checks s o
    at_stop c j e s al o is_stopped =
        let b = behaves.runs j in
        (b.0, λ m le. kept_stops _ _ s o (b.2 s al o (sym e ∙ is_stopped)) (laws.more P checks b.0 m le))

    run_of : (z : Sizes) (images : ℕ → Image) (events : List Event) (v : World) (k : ℕ) → IsRun z images events v → images k ≡ C
        → (v.programs k).core ≡ (code_run (code C) (v.programs k).completed).0
    run_of z images events v k run is = (laws.at z images events v run.0 run.1 k).core ∙ ap (λ D. (code_run (code D) (v.programs k).completed).0) is

    promised : (z : Sizes) (images : ℕ → Image) (events : List Event) (v : World) (k : ℕ) → IsRun z images events v → images k ≡ C
        → Promised P checks (v.programs k) (λ want. HasCause (Unit {0}) z images k want (start images) events)
    promised z images events v k run is =
        let e = run_of z images events v k run is in
        record {
          beginning = at_beginning (v.programs k).core (v.programs k).completed e;
          stopped = at_stop (v.programs k).core (v.programs k).completed e;
          wanting = λ want m. laws.wanted z images events v k want run.1 m;
        }

    settles : SettlesAs P checks C
    settles s o ends =
        let b = behaves.means ends.0 in
        let meant = ends.1 ends.0 (omega arith) in
        let there = b.2 s (ap (λ (m : Meant). m.stop) meant) in
        let first = first_stop C b.0 s there.0 o (there.1 ∙ ap (λ (m : Meant). Stopped s there.0 m.output) meant) in (
          first.0,
          (
            (first.2, (there.0, first.1)),
            λ z images events v k run is le.
                (there.0, run_of z images events v k run is ∙ stays_stopped C first.0 (v.programs k).completed s there.0 o le first.1),
          ),
        )

  pub composed : Headline
  composed loops text checks cells C compiled meant means =
      let same : compiled.program ≡ meant = sym (compiled.only meant means) in
      let behaves : Behaves meant checks C = subst (λ (p : Typed). Behaves p checks C) same compiled.behaves in
      let settled : SettlesAs meant checks C = settles meant checks C behaves in (
        promised meant checks C behaves,
        λ s o ends. ((settled s o ends).0, λ D compiled_too. subst (λ (E : Image). SettledAt (settled s o ends).0 E s o) (laws.one loops text checks cells C D compiled compiled_too) (settled s o ends).1),
      )
