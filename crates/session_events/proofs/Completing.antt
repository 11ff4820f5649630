-- The steps of each instruction, and of instructions one behind the other, as turns of the program.
use Rattle.std.proofs.Common.{◌≡◌, ◌≢◌, ℕ, zero, suc, ◌+◌, ◌%◌, ◌<◌, ◌≤◌, Bool, true, false, cond, List, [], ◌∷◌, ◌++◌, append_assoc, length, map, inl, inr, refl, sym, ap, ◌∙◌, subst, arith, eq-eqb, mod-lt, ne_eqb}
use Rattle.std.specs.Prelude.{Option, Some, None, slice_index_or, slice_set}
use Rattle.std.proofs.lemmas.Bool.{le-leb}
use Rattle.std.proofs.lemmas.Bool.Decides.{eqb_tells}
use Rattle.std.proofs.lemmas.List.{get_or-set_same, length-map, length-set}
use Rattle.atomic_table.specs.Seated.{TableId}
use Rattle.cells.proofs.Pieces.{piece_some}
use Rattle.cells.specs.declared.ending.Run.{Run}
use Rattle.cells.specs.declared.ending.Run.TheVariants as ending
use Rattle.cells.specs.declared.ending.Want.{Want}
use Rattle.cells.specs.declared.ending.Want.TheVariants.{NoObjects, OutOfMemory, StoreFailed}
use Rattle.code_form.specs.Placed.{next_object, pieces}
use Rattle.code_form.specs.declared.touch.Cell.{Cell}
use Rattle.code_form.specs.declared.touch.Touch.{Touch}
use Rattle.code_form.specs.declared.touch.Touch.TheVariants as touch
use Rattle.pointer_word.specs.Calls.{Clears, Closes, Stores}
use Rattle.pointer_word.specs.Hands.{Note, added, blank, closed, known, latest_of, opened, upd, writable}
use Rattle.pointer_word.specs.Machine.{State}
use Rattle.pointer_word.specs.Sound.{Inv}
use Rattle.pointer_word.proofs.Owning.{load_is_latest}
use Rattle.object_lock.specs.Logs.{Deed, deed}
use Rattle.object_lock.specs.Seats.{Owns, Sizes, View, cell_word, note}
use Rattle.object_lock.specs.Seats as seats
use Rattle.session.specs.declared.hold.Hold as own
use Rattle.session.specs.Keeping.{Holds, IsHolding, IsNext, a_hold, cleared, count_of, extended, has_object, shut_at, written}
use Rattle.session.specs.Keeping as keeping
use Rattle.session.specs.Performing.{Acts, FirstLogged, Performs, PerformsBy, Seizes, ShutLogged, Shuts, StoreLogged, WantsNext, WritingLogged, done_with, shut_all, shut_first, wanting, writing_by}
use Rattle.session.specs.State as session
use Rattle.session.proofs.Holding.{holding_shut, note_set, owned_here}
use Rattle.session.proofs.Places.{next_is}
use Rattle.session.proofs.Writing.{may_open}
use Rattle.object_moves.specs.Ways.{TakeLogged}
use Rattle.world_semantics.specs.Programs.{Program, Setting, Wanted, finished, in_mode, object_of}
use Rattle.world_semantics.specs.Turns.{Alone, Calls, closes, ends_by, grows, ready, stores_to, taken}
use Rattle.session_events.specs.Knowing.{Fits, Known}
use Rattle.session_events.specs.Laws.{hold_seen, program_of, setting_of}
use Rattle.session_events.proofs.Calling.{clears_next, closes_next, stores_next}
use Rattle.session_events.proofs.Ending.{first_none, first_some, first_stays, freed, ready_along}
use Rattle.session_events.proofs.Instructions.{not_held, same_setting, scope_low, seen}
use Rattle.session_events.proofs.Listing.{Leads, Notes, on, so_there, stays, wait}
use Rattle.session_events.proofs.Ready.{IsReady, aims_elsewhere, aims_held, aims_turn, answers, leaves_turn, loads_turn, store_or_clear, stores_turn, turn_of}
use Rattle.session_events.proofs.Seizing.{finished_is, going_is, holding_seen, ready_of, seen_at}
use Rattle.session_events.proofs.Stated.{stated}
use Rattle.session_events.proofs.Taking.{take_then}
use Rattle.session_events.proofs.Wanting.{full_turn, refused_turn, refuses, same_next, settings_stay}

pub nothing_behind : (ds : List Deed) → ds ≡ ds ++ []
nothing_behind [] = refl
nothing_behind (d ∷ ds) = ap (λ (es : List Deed). d ∷ es) (nothing_behind ds)

-- the seat of this view knows the notes of its own objects
abbrev pub Noted : View → Known → Type 0
Noted v l = (o : ℕ) → Owns v o → l.notes o ≡ note v o

-- a change of one note is the view's
noted_in : (g : Setting) (v : View) (n l : Known) (o : ℕ) (change : Note → Note) → g.base ≡ v.low → g.limit ≡ v.high → o < length v.notes → Noted v n → Notes g (upd n.notes o (change (n.notes o))) l → Noted (seats.with_note v o (change (note v o))) l
noted_in g v n l o change base limit here is known = λ p own.
    let a = own.0 in let b = own.1 in
    known p (omega arith, omega arith) ∙ elim (note_set v o (change (note v o)) p here) [
      | inl q ↦ ap (λ (c : Bool). cond c (change (n.notes o)) (n.notes p)) (eq-eqb p o q.0) ∙ ap change (is o (subst (Owns v) q.0 own)) ∙ sym q.1
      | inr q ↦ ap (λ (c : Bool). cond c (change (n.notes o)) (n.notes p)) (ne_eqb p o q.0) ∙ is p own ∙ sym q.1
    ]

held_by : (x : Option own.Hold) (o : ℕ) → has_object x o ≡ true → (h : own.Hold) × (x ≡ Some h) × (h.object ≡ o)
held_by None o e = absurd (cc)
held_by (Some h) o e = elim (eqb_tells h.object o) [ inl q ↦ (h, refl, q.1) | inr q ↦ absurd (let d : true ≡ false = sym e ∙ q.0 in cc) ]

module _ (reliable honest : Type 0) (sure : honest) (s : session.State) where
  abbrev g : Setting
  g = setting_of s

  abbrev Then : Known → Program → List Deed → Program → (Known → Type 0) → Type 0
  Then k p ds q so = Leads reliable honest s.view.sizes g k p ds q so

  -- the log grew by steps by which the program goes from where it is at u to where it is at t
  abbrev Does : session.State → List Deed → session.State → List Deed → Program → Type 0
  Does u old t new q = (ds : List Deed) × (new ≡ old ++ ds) × ((k : Known) → Noted u.view k → Then k (ready_of u) ds q (Noted t.view))

  -- by none
  does_nothing : (u t : session.State) (old new : List Deed) (q : Program) → new ≡ old → ((k : Known) → Noted u.view k → Then k (ready_of u) [] q (Noted t.view)) → Does u old t new q
  does_nothing u t old new q e then = ([], e ∙ nothing_behind old, then)

  -- and then by others
  does_both : (u v t : session.State) (old mid new : List Deed) (q : Program) → Does u old v mid (ready_of v) → Does v mid t new q → Does u old t new q
  does_both u v t old mid new q a b = (
    a.0 ++ b.0,
    b.1 ∙ ap (λ (ds : List Deed). ds ++ b.0) a.1 ∙ append_assoc old a.0 b.0,
    λ k is. on reliable honest s.view.sizes g k (ready_of u) (ready_of v) q a.0 b.0 (Noted v.view) (Noted t.view) (a.2 k is) b.2,
  )

  -- ---- an instruction that makes no call

  -- the instruction is done at u
  done_at : (u t : session.State) (v : ℕ) (k : Known) → u.want ≡ None → g.image ≡ u.image → t ≡ keeping.finished u v → Noted u.view k → Then k (finished g (ready_of u) v) [] (program_of t) (Noted t.view)
  done_at u t v k none image e is = stays reliable honest s.view.sizes g k (finished g (ready_of u) v) (program_of t) (Noted t.view) (ap program_of e ∙ sym (finished_is g u v none image)) (subst (λ (y : session.State). Noted y.view k) (sym e) is)

  alone_at : (u t : session.State) (v : ℕ) (x : Touch) (k : Known) → IsReady g (ready_of u) x → u.want ≡ None → g.image ≡ u.image → t ≡ keeping.finished u v → Noted u.view k
      → ((m : State) → Inv honest g.size m → Fits g k m → ready g m (ready_of u) (answers true) x ≡ Alone (finished g (ready_of u) v)) → Then k (ready_of u) [] (program_of t) (Noted t.view)
  alone_at u t v x k r none image e is turn = wait reliable honest s.view.sizes g k (ready_of u) (finished g (ready_of u) v) (program_of t) [] (Noted t.view)
      (answers true, refl, λ m inv fits. ap (taken g.size m) (turn_of g m (ready_of u) (answers true) x r ∙ turn m inv fits)) (done_at u t v k none image e is)

  -- ---- a scope is shut

  closes_at : (u : session.State) (k : ℕ) (h : own.Hold) (x : Touch) (i : ℕ) (n : Known) → IsReady g (ready_of u) x → IsHolding u → g.base ≡ u.view.low → g.limit ≡ u.view.high → session.hold_at u.holds k ≡ Some h → Noted u.view n
      → ((m : State) → ready g m (ready_of u) (answers true) x ≡ Calls (Closes h.object) (λ y. ready_of (shut_at u k (Some h)))) → Then n (ready_of u) (deed h.object i (Closes h.object) ∷ []) (ready_of (shut_at u k (Some h))) (Noted (shut_at u k (Some h)).view)
  closes_at u k h x i n r ok base limit e is turn =
      let v : session.State = shut_at u k (Some h) in let here = owned_here u h.object ok (ok.held k h e).owns in
      so_there reliable honest s.view.sizes g n (ready_of u) (ready_of v) (ready_of v) (deed h.object i (Closes h.object) ∷ []) (Notes g (upd n.notes h.object (closed (n.notes h.object)))) (Noted v.view)
      (closes_next reliable honest s.view.sizes s.view.low s.view.high s.view.number s.image n (ready_of u) (ready_of v) x h.object i r turn) refl (λ l known. noted_in g u.view n l h.object closed base limit here is known)

  -- by whether the scope holds something
  abbrev Letting : ℕ → Option own.Hold → Touch → Type 0
  Letting k y x = (h : own.Hold) → y ≡ Some h → (m : State) → ready g m (ready_of s) (answers true) x ≡ Calls (Closes h.object) (λ c. ready_of (shut_at s k (Some h)))

  shuts_at : (k : ℕ) (x : Touch) (old mid : List Deed) → IsReady g (ready_of s) x → IsHolding s → (y : Option own.Hold) → session.hold_at s.holds k ≡ y → ShutLogged y old mid → Letting k y x → Does s old (shut_at s k y) mid (ready_of (shut_at s k y))
  shuts_at k x old mid r ok None e l turn = does_nothing s s old mid (ready_of s) l (λ n is. stays reliable honest s.view.sizes g n (ready_of s) (ready_of s) (Noted s.view) refl is)
  shuts_at k x old mid r ok (Some h) e l turn = (deed h.object l.0 (Closes h.object) ∷ [], l.1, λ n is. closes_at s k h x l.0 n r ok refl refl e is (turn h refl))

  -- what is behind it is ready for the same instruction
  still_ready : (k : ℕ) (y : Option own.Hold) (x : Touch) → IsReady g (ready_of s) x → IsReady g (ready_of (shut_at s k y)) x
  still_ready k None x r = r
  still_ready k (Some h) x r = ready_along g s (shut_at s k (Some h)) x refl r

  still_none : (k : ℕ) (y : Option own.Hold) → k < length s.holds → session.hold_at s.holds k ≡ y → session.hold_at (shut_at s k y).holds k ≡ None
  still_none k None low e = e
  still_none k (Some h) low e = get_or-set_same s.holds k None None low

  still_many : (k : ℕ) (y : Option own.Hold) → length (shut_at s k y).holds ≡ length s.holds
  still_many k None = refl
  still_many k (Some h) = length-set s.holds k None

  still_so : (k : ℕ) (y : Option own.Hold) → ((shut_at s k y).want ≡ s.want) × (s.image ≡ (shut_at s k y).image)
  still_so k None = (refl, refl)
  still_so k (Some h) = (refl, refl)

  -- ---- aims

  -- a scope that holds nothing comes to hold nothing
  aims_none : (u t : session.State) (k : ℕ) (log : List Deed) (new : List Deed) → IsReady g (ready_of u) (touch.Aims k None) → k < length u.holds → u.want ≡ None → g.image ≡ u.image → session.hold_at u.holds k ≡ None → t ≡ keeping.finished u 0 → new ≡ log
      → Does u log t new (program_of t)
  aims_none u t k log new r low none image free e same = does_nothing u t log new (program_of t) same (λ n is. alone_at u t 0 (touch.Aims k None) n r none image e is
      (λ m inv fits. aims_turn g m (ready_of u) (answers true) k None None None (omega (arith, length-map u.holds hold_seen)) (seen_at u.holds k ∙ ap hold_seen free) refl))

  -- a scope that holds nothing takes the object of the cell
  takes_at : (v u t : session.State) (k : ℕ) (a : Cell) (old new : List Deed) → s.view.sizes.frames ≤ 1048576 → s.view.number < 65536 → IsReady g (ready_of v) (touch.Aims k (Some a)) → k < length v.holds → v.want ≡ None → g.image ≡ v.image
      → session.hold_at v.holds k ≡ None → IsHolding v → g.base ≡ v.view.low → g.limit ≡ v.view.high → let o : ℕ = object_of g (ready_of v) a in Owns v.view o → (h : Holds k o v u)
      → TakeLogged s.view.sizes s.view.number o (note v.view o).count (Some h.frame) h.came.way old new → t ≡ keeping.finished u 0 → Does v old t new (program_of t)
  takes_at v u t k a old new narrow low_mover r low none image free ok base limit own h l done =
      let o : ℕ = object_of g (ready_of v) a in
      let f : ℕ = h.frame in
      let w : session.State = record v { holds = slice_set v.holds k (Some (a_hold o f false)); view = u.view } in
      let few = may_open v k o ok low free own in
      let some : (note v.view o).count < 65535 = let b = few.1 in let c = few.2 in omega arith in
      let q : Program = record (ready_of v) { holds = slice_set (map hold_seen v.holds) k (Some (record { object = o; writes = false })) } in
      let mine : (s.view.low ≤ o) × (o < s.view.high) = let b = own.0 in let c = own.1 in (omega arith, omega arith) in
      let take = take_then reliable honest sure s.view.sizes s.view.low s.view.high s.view.number s.image narrow low_mover (ready_of v) q (touch.Aims k (Some a)) o (note v.view o).count f h.came.way old new r
      (λ m. aims_turn g m (ready_of v) (answers true) k (Some a) None (Some o) (omega (arith, length-map v.holds hold_seen)) (seen_at v.holds k ∙ ap hold_seen free) refl) mine some h.came.leads l in
      let exact : t ≡ keeping.finished w 0 = done ∙ ap (λ y. keeping.finished y 0) h.same in
      let there : finished g q 0 ≡ program_of t = ap (λ (p : Program). finished g p 0) (holding_seen v k (Some (a_hold o f false))) ∙ finished_is g w 0 none image ∙ ap program_of (sym exact) in
      let lower : u.view.low ≡ v.view.low = h.takes.low in let higher : u.view.high ≡ v.view.high = h.takes.high in (
        take.0,
        take.1,
        λ n is. so_there reliable honest s.view.sizes g n (ready_of v) (finished g q 0) (program_of t) take.0 (Notes g (upd n.notes o (opened (n.notes o) (Some f)))) (Noted t.view) (take.2 n (ap (λ (y : Note). y.count) (is o own))) there (λ y known.
            let set = noted_in g v.view n y o (λ x. opened x (Some f)) base limit (owned_here v o ok own) is known in
            subst (λ (x : session.State). Noted x.view y) (sym done) (λ p at. let b = at.0 in let c = at.1 in set p (omega arith, omega arith) ∙ ap (λ (ns : List Note). slice_index_or ns p blank) (sym h.takes.notes))),
      )

  -- ---- loads

  loads_at : (t : session.State) (k : ℕ) (a : Cell) (v : ℕ) (h : own.Hold) (log new : List Deed) → IsReady g (ready_of s) (touch.Loads k a) → s.want ≡ None → IsHolding s → session.hold_at s.holds k ≡ Some h → object_of g (ready_of s) a ≡ h.object
      → v ≡ session.latest_in s.view h.object (a.index % s.view.sizes.cells) → t ≡ keeping.finished s v → new ≡ log → Does s log t new (program_of t)
  loads_at t k a v h log new r none ok d same value done e = does_nothing s t log new (program_of t) e (λ n is. alone_at s t v (touch.Loads k a) n r none refl done is (λ m inv fits.
      let i : ℕ = a.index % s.view.sizes.cells in
      let held = ok.held k h d in
      let noted : m.note h.object ≡ note s.view h.object = fits.1 h.object held.owns ∙ is h.object held.owns in
      let there : (m.note h.object).frame ≡ Some h.frame = ap (λ (y : Note). y.frame) noted ∙ held.here in
      let found : m.cell h.frame i ≡ v = load_is_latest honest s.view.sizes.cells m h.object h.frame i there (mod-lt a.index (piece_some s.view.sizes.cells ok.cells)) sure inv ∙ ap (λ (y : Note). latest_of y.history i) noted ∙ sym value in
      loads_turn g m (ready_of s) (answers true) k h.object h.frame a (seen h) (seen_at s.holds k ∙ ap hold_seen d) refl same there ∙ ap (λ (x : ℕ). Alone (finished g (ready_of s) x)) found))

  -- ---- stores

  -- by a hold that is one for writing
  writes_at : (u t : session.State) (k : ℕ) (a : Cell) (v o f : ℕ) (log new : List Deed) → IsReady g (ready_of u) (touch.Stores k a v) → u.want ≡ None → g.image ≡ u.image → session.hold_at u.holds k ≡ Some (a_hold o f true) → object_of g (ready_of u) a ≡ o
      → g.base ≡ u.view.low → g.limit ≡ u.view.high → Owns u.view o → o < length u.view.notes → (note u.view o).frame ≡ Some f → t ≡ keeping.finished (written u (a_hold o f true) (a.index % s.view.sizes.cells) v) 0
      → (n : ℕ) → new ≡ log ++ deed (cell_word s.view.sizes f (a.index % s.view.sizes.cells)) n (Stores o f (a.index % s.view.sizes.cells) v) ∷ [] → Does u log t new (program_of t)
  writes_at u t k a v o f log new r none image d same base limit own here there done i e =
      let j : ℕ = a.index % s.view.sizes.cells in
      let w : session.State = written u (a_hold o f true) j v in
      let mine : (s.view.low ≤ o) × (o < s.view.high) = let b = own.0 in let c = own.1 in (omega arith, omega arith) in (
        deed (cell_word s.view.sizes f j) i (Stores o f j v) ∷ [],
        e,
        λ n is. so_there reliable honest s.view.sizes g n (ready_of u) (finished g (ready_of u) 0) (program_of t) (deed (cell_word s.view.sizes f j) i (Stores o f j v) ∷ []) (Notes g (upd n.notes o (added (n.notes o) j v))) (Noted t.view)
            (stores_next reliable honest s.view.sizes s.view.low s.view.high s.view.number s.image n (ready_of u) (finished g (ready_of u) 0) (touch.Stores k a v) (cell_word s.view.sizes f j) i o f j v r (λ m fits.
            let noted : (m.note o).frame ≡ Some f = ap (λ (y : Note). y.frame) (fits.1 o mine ∙ is o own) ∙ there in
            stores_turn g m (ready_of u) (answers true) k o a v (seen (a_hold o f true)) (seen_at u.holds k ∙ ap hold_seen d) refl same ∙ ap (λ y. stores_to g (ready_of u) y o j v) noted))
            (finished_is g w 0 none image ∙ ap program_of (sym done))
            (λ y known. subst (λ (x : session.State). Noted x.view y) (sym done) (noted_in g u.view n y o (λ x. added x j v) base limit here is known)),
      )

  -- the hold of scope k, by whether it is one for writing
  held_for : (h : own.Hold) (b : Bool) → h.writes ≡ b → h ≡ a_hold h.object h.frame b
  held_for h b e = ap (λ c. a_hold h.object h.frame c) e

  stores_at : (t : session.State) (k : ℕ) (a : Cell) (v : ℕ) (h : own.Hold) (log new : List Deed) → IsReady g (ready_of s) (touch.Stores k a v) → k < length s.holds → s.want ≡ None → IsHolding s → session.hold_at s.holds k ≡ Some h → object_of g (ready_of s) a ≡ h.object
      → t ≡ keeping.finished (written (writing_by s k h) h (a.index % s.view.sizes.cells) v) 0 → StoreLogged s h (a.index % s.view.sizes.cells) v log new → Does s log t new (program_of t)
  stores_at t k a v h log new r low none ok d same done l = by_way h.writes refl l.1
    where
      by_way : (b : Bool) → h.writes ≡ b → WritingLogged b h.object log l.0 → Does s log t new (program_of t)
      by_way true e same_log =
          let i : ℕ = a.index % s.view.sizes.cells in
          let held = ok.held k h d in
          let exact : t ≡ keeping.finished (written s (a_hold h.object h.frame true) i v) 0 = done ∙ ap (λ b. keeping.finished (written (cond b s (cleared s k h)) h i v) 0) e in
          writes_at s t k a v h.object h.frame log new r none refl (d ∙ ap Some (held_for h true e)) same refl refl held.owns (owned_here s h.object ok held.owns) held.here exact l.2.0
          (l.2.1 ∙ ap (λ (ds : List Deed). ds ++ deed (cell_word s.view.sizes h.frame i) l.2.0 (Stores h.object h.frame i v) ∷ []) same_log)
      by_way false e more =
          let o : ℕ = h.object in
          let i : ℕ = a.index % s.view.sizes.cells in
          let held = ok.held k h d in
          let here = owned_here s o ok held.owns in
          let u : session.State = cleared s k h in
          let less : o < length u.view.notes = let z = length-set s.view.notes o (writable (note s.view o)) in omega arith in
          let exact : t ≡ keeping.finished (written u (a_hold o h.frame true) i v) 0 = done ∙ ap (λ b. keeping.finished (written (cond b s (cleared s k h)) h i v) 0) e in
          let frame : (note u.view o).frame ≡ Some h.frame = elim (note_set s.view o (writable (note s.view o)) o here) [ inl q ↦ ap (λ (y : Note). y.frame) q.1 ∙ held.here | inr q ↦ absurd (q.0 refl) ] in
          let first : Does s log u l.0 (ready_of u) = (
            deed o more.0 (Clears o) ∷ [],
            more.1,
            λ n is. so_there reliable honest s.view.sizes g n (ready_of s) (ready_of u) (ready_of u) (deed o more.0 (Clears o) ∷ []) (Notes g (upd n.notes o (writable (n.notes o)))) (Noted u.view)
                (clears_next reliable honest s.view.sizes s.view.low s.view.high s.view.number s.image n (ready_of s) (ready_of u) (touch.Stores k a v) o more.0 r (λ m.
                stores_turn g m (ready_of s) (answers true) k o a v (seen h) (seen_at s.holds k ∙ ap hold_seen d) refl same ∙ ap (λ (b : Bool). store_or_clear g m (ready_of s) k o i v b) e
                ∙ ap (λ (c : Program). Calls (Clears o) (λ (y : State). c)) (holding_seen s k (Some (a_hold o h.frame true))))) refl
                (λ y known. noted_in g s.view n y o writable refl refl here is known),
          ) in
          does_both s u t log l.0 new (program_of t) first
          (writes_at u t k a v o h.frame l.0 new (ready_along g s u (touch.Stores k a v) refl r) none refl (get_or-set_same s.holds k (Some (a_hold o h.frame true)) None low) same refl refl held.owns less frame exact l.2.0 l.2.1)

  -- ---- allocations

  allocates_at : (t : session.State) (many : ℕ) (log new : List Deed) → IsReady g (ready_of s) (touch.Allocs many) → s.want ≡ None → IsHolding s → s.next + pieces s.view.sizes.cells many ≤ s.view.high → t ≡ extended s many → new ≡ log → Does s log t new (program_of t)
  allocates_at t many log new r none ok room done e =
      let next : next_object s.view.sizes.cells s.view.low (session.cells_in s) ≡ s.next = sym (next_is s.view.sizes.cells s.view.low (session.cells_in s) s.firsts s.next ok.placed) in
      let fits : next_object g.size g.base (session.cells_in s) + pieces g.size many ≤ g.limit = omega arith in
      does_nothing s t log new (program_of t) e (λ n is. wait reliable honest s.view.sizes g n (ready_of s) (finished g (ready_of s) 0) (program_of t) [] (Noted t.view) (
        answers true,
        refl,
        λ m inv known. ap (taken g.size m) (turn_of g m (ready_of s) (answers true) (touch.Allocs many) r
            ∙ ap (λ b. cond b (Alone (grows g (ready_of s) (answers true))) (Alone (in_mode (ready_of s) (Wanted NoObjects)))) (le-leb (next_object g.size g.base (session.cells_in s) + pieces g.size many) g.limit fits)),
      )
      (stays reliable honest s.view.sizes g n (finished g (ready_of s) 0) (program_of t) (Noted t.view) (ap program_of done ∙ sym (finished_is g s 0 none refl)) (subst (λ (y : session.State). Noted y.view n) (sym done) is)))

  -- ---- all scopes

  module _ (r : IsReady g (ready_of s) touch.Ends) (ok : IsHolding s) where
    -- the first scopes were shut, and hold nothing
    firsts_shut : (j : ℕ) → j ≤ length s.holds → IsHolding (shut_first j s) × ((i : ℕ) → i < j → session.hold_at (shut_first j s).holds i ≡ None)
    firsts_shut zero l = (ok, λ i low. absurd (omega arith))
    firsts_shut (suc j) l =
        let u : session.State = shut_first j s in let before = firsts_shut j (omega arith) in let many = (first_stays j s).many in let y : Option own.Hold = session.hold_at u.holds j in
        (holding_shut u j y refl before.0 (omega arith), freed u j y (omega arith) before.1 refl)

    shuts_first : (j : ℕ) (log new : List Deed) → j ≤ length s.holds → FirstLogged j s log new → Does s log (shut_first j s) new (ready_of (shut_first j s))
    shuts_first zero log new l f = does_nothing s s log new (ready_of s) f (λ n is. stays reliable honest s.view.sizes g n (ready_of s) (ready_of s) (Noted s.view) refl is)
    shuts_first (suc j) log new l f = by_hold (session.hold_at (shut_first j s).holds j) refl f.2 (shuts_first j log f.0 (omega arith) f.1)
      where
        u : session.State
        u = shut_first j s

        by_hold : (y : Option own.Hold) → session.hold_at u.holds j ≡ y → ShutLogged y f.0 new → Does s log u f.0 (ready_of u) → Does s log (shut_at u j (session.hold_at u.holds j)) new (ready_of (shut_at u j (session.hold_at u.holds j)))
        by_hold None e same before = subst (λ (y : Option own.Hold). Does s log (shut_at u j y) new (ready_of (shut_at u j y))) (sym e) (before.0, same ∙ before.1, before.2)
        by_hold (Some h) e more before =
            let a = first_stays j s in let so = firsts_shut j (omega arith) in
            let rest : Does u f.0 (shut_at u j (Some h)) new (ready_of (shut_at u j (Some h))) = (
              deed h.object more.0 (Closes h.object) ∷ [],
              more.1,
              λ n is. closes_at u j h touch.Ends more.0 n (ready_along g s u touch.Ends a.core r) so.0 (sym a.low) (sym a.high) e is
                  (λ m. ap (ends_by g (ready_of u) (answers true)) (first_some u.holds j h so.1 e) ∙ ap (λ (c : Program). Calls (Closes h.object) (λ (y : State). c)) (holding_seen u j None)),
            ) in
            subst (λ (y : Option own.Hold). Does s log (shut_at u j y) new (ready_of (shut_at u j y))) (sym e) (does_both s u (shut_at u j (Some h)) log f.0 new (ready_of (shut_at u j (Some h))) before rest)

    ends_at : (t : session.State) (log mid new : List Deed) → s.want ≡ None → FirstLogged (length s.holds) s log mid → t ≡ keeping.finished (shut_all s) 0 → new ≡ mid → Does s log t new (program_of t)
    ends_at t log mid new none f done e =
        let u : session.State = shut_all s in let a = first_stays (length s.holds) s in let so = firsts_shut (length s.holds) (omega arith) in
        does_both s u t log mid new (program_of t) (shuts_first (length s.holds) log mid (omega arith) f)
        (does_nothing u t mid new (program_of t) e (λ n is. alone_at u t 0 touch.Ends n (ready_along g s u touch.Ends a.core r) (a.want ∙ none) (sym a.image) done is
        (λ m inv fits. ap (ends_by g (ready_of u) (answers true)) (first_none u.holds (λ k l. so.1 k (let many = a.many in omega arith))))))

-- ---- one instruction

module _ (reliable honest : Type 0) (sure : honest) (s t : session.Logged) (narrow : s.state.view.sizes.frames ≤ 1048576) (low_mover : s.state.view.number < 65536) (ok : IsHolding s.state) (none : s.state.want ≡ None) where
  abbrev Done : Type 0
  Done = Does reliable honest sure s.state s.state s.log t.state t.log (program_of t.state)

  ready_for : (x : Touch) → IsNext x s.state → IsReady (setting_of s.state) (ready_of s.state) x
  ready_for x next = record { mode = refl; free = next.free; is = next.is }

  -- an instruction that makes no call and leaves the log
  quiet : (x : Touch) → IsNext x s.state → t ≡ done_with s 0 → ((m : State) → ready (setting_of s.state) m (ready_of s.state) (answers true) x ≡ Alone (finished (setting_of s.state) (ready_of s.state) 0)) → Done
  quiet x next done turn = does_nothing reliable honest sure s.state s.state t.state s.log t.log (program_of t.state) (ap (λ (y : session.Logged). y.log) done)
      (λ n is. alone_at reliable honest sure s.state s.state t.state 0 x n (ready_for x next) none refl (ap stated done) is (λ m inv fits. turn m))

  -- what the next instruction does to a scope that it is to let go
  letting : (k : ℕ) (x : Touch) (w : Option Cell) (o : Option ℕ) (y : Option own.Hold) → session.hold_at s.state.holds k ≡ y → ((h : own.Hold) → y ≡ Some h → (m : State) → ready (setting_of s.state) m (ready_of s.state) (answers true) x ≡ closes (ready_of s.state) k (seen h)) → Letting reliable honest sure s.state k y x
  letting k x w o y e turn = λ h d m. turn h d m ∙ ap (λ (c : Program). Calls (Closes h.object) (λ (z : State). c)) (holding_seen s.state k None)

  aims_at_none : (k : ℕ) → IsNext (touch.Aims k None) s.state → (u : session.Logged) → Shuts k s u → t ≡ done_with u 0 → Done
  aims_at_none k next u shut done = by_hold (session.hold_at s.state.holds k) refl shut.1
    where
      by_hold : (y : Option own.Hold) → session.hold_at s.state.holds k ≡ y → ShutLogged y s.log u.log → Done
      by_hold y e l =
          let x : Touch = touch.Aims k None in let low = scope_low s.state k ok next.within.0 in let r = ready_for x next in
          let v : session.State = shut_at s.state k y in let so = still_so reliable honest sure s.state k y in
          let less : k < length v.holds = let z = still_many reliable honest sure s.state k y in omega arith in
          let turn : Letting reliable honest sure s.state k y x = letting k x None None y e (λ h d m. aims_turn (setting_of s.state) m (ready_of s.state) (answers true) k None (Some (seen h)) None (omega (arith, length-map s.state.holds hold_seen)) (seen_at s.state.holds k ∙ ap hold_seen (e ∙ d)) refl) in
          does_both reliable honest sure s.state s.state v t.state s.log u.log t.log (program_of t.state)
          (shuts_at reliable honest sure s.state k x s.log u.log r ok y e l turn)
          (aims_none reliable honest sure s.state v t.state k u.log t.log (still_ready reliable honest sure s.state k y x r) less (so.0 ∙ none) so.1 (still_none reliable honest sure s.state k y low e)
          (ap stated done ∙ ap (λ z. keeping.finished z 0) (shut.0 ∙ ap (shut_at s.state k) e)) (ap (λ (z : session.Logged). z.log) done))

  -- the scope that is let go, and what it takes then
  abbrev Taken : ℕ → ℕ → session.Logged → session.Logged → session.State → Type 0
  Taken k o w u v = (h : Holds k o v u.state) × TakeLogged v.view.sizes v.view.number o (note v.view o).count (Some h.frame) h.came.way w.log t.log

  aims_at_some : (k : ℕ) (a : Cell) → IsNext (touch.Aims k (Some a)) s.state → (u : session.Logged) → Seizes k (session.object_of s.state a) s u → t ≡ done_with u 0 → Done
  aims_at_some k a next u takes done = elim takes [
    | inl b ↦
        let held = held_by (session.hold_at s.state.holds k) (session.object_of s.state a) b.0 in
        let here : t ≡ done_with s 0 = done ∙ ap (λ (y : session.Logged). done_with y 0) b.1 in
        quiet (touch.Aims k (Some a)) next here (λ m.
        aims_turn (setting_of s.state) m (ready_of s.state) (answers true) k (Some a) (Some (seen held.0)) (Some (session.object_of s.state a)) (omega (arith, length-map s.state.holds hold_seen, scope_low s.state k ok next.within.0))
        (seen_at s.state.holds k ∙ ap hold_seen held.1) refl ∙ aims_held (setting_of s.state) (ready_of s.state) k (session.object_of s.state a) (seen held.0) held.2)
    | inr b ↦
        let log : t.log ≡ u.log = ap (λ (z : session.Logged). z.log) done in
        let came : Taken k (session.object_of s.state a) b.2.0 u b.2.0.state = (b.2.2.0, subst (λ (new : List Deed). TakeLogged b.2.0.state.view.sizes b.2.0.state.view.number (session.object_of s.state a) (note b.2.0.state.view (session.object_of s.state a)).count (Some b.2.2.0.frame) b.2.2.0.came.way b.2.0.log new) (sym log) b.2.2.1) in
        by_hold b.2.0 b.0 b.1 b.2.1.0 came (session.hold_at s.state.holds k) refl b.2.1.1
  ]
    where
      by_hold : (w : session.Logged) → has_object (session.hold_at s.state.holds k) (session.object_of s.state a) ≡ false → Owns s.state.view (session.object_of s.state a) → w.state ≡ shut_at s.state k (session.hold_at s.state.holds k)
          → Taken k (session.object_of s.state a) w u w.state → (y : Option own.Hold) → session.hold_at s.state.holds k ≡ y → ShutLogged y s.log w.log → Done
      by_hold w other owned is came None e l =
          let x : Touch = touch.Aims k (Some a) in let low = scope_low s.state k ok next.within.0 in let r = ready_for x next in
          let c = subst (Taken k (session.object_of s.state a) w u) (is ∙ ap (shut_at s.state k) e) came in
          takes_at reliable honest sure s.state s.state u.state t.state k a s.log t.log narrow low_mover r low none refl e ok refl refl owned c.0
          (subst (λ (old : List Deed). TakeLogged s.state.view.sizes s.state.view.number (session.object_of s.state a) (note s.state.view (session.object_of s.state a)).count (Some c.0.frame) c.0.came.way old t.log) l c.1) (ap stated done)
      by_hold w other owned is came (Some h) e l =
          let x : Touch = touch.Aims k (Some a) in let low = scope_low s.state k ok next.within.0 in let r = ready_for x next in
          let v : session.State = shut_at s.state k (Some h) in let o : ℕ = session.object_of s.state a in
          let c = subst (Taken k o w u) (is ∙ ap (shut_at s.state k) e) came in
          let less : k < length v.holds = let z = length-set s.state.holds k None in omega arith in
          let turn : Letting reliable honest sure s.state k (Some h) x = letting k x (Some a) (Some o) (Some h) e (λ i d m.
          aims_turn (setting_of s.state) m (ready_of s.state) (answers true) k (Some a) (Some (seen i)) (Some o) (omega (arith, length-map s.state.holds hold_seen)) (seen_at s.state.holds k ∙ ap hold_seen (e ∙ d)) refl
          ∙ aims_elsewhere (setting_of s.state) (ready_of s.state) k o (seen i) (not_held s.state k o i (e ∙ d) other)) in
          does_both reliable honest sure s.state s.state v t.state s.log w.log t.log (program_of t.state) (shuts_at reliable honest sure s.state k x s.log w.log r ok (Some h) e l turn)
          (takes_at reliable honest sure s.state v u.state t.state k a w.log t.log narrow low_mover (still_ready reliable honest sure s.state k (Some h) x r) less none refl (get_or-set_same s.state.holds k None None low) (holding_shut s.state k (Some h) e ok low) refl refl owned c.0 c.1 (ap stated done))

  leaves_at : (k : ℕ) → IsNext (touch.Leaves k) s.state → (u : session.Logged) → Shuts k s u → t ≡ done_with u 0 → Done
  leaves_at k next u shut done = by_hold (session.hold_at s.state.holds k) refl shut.1
    where
      by_hold : (y : Option own.Hold) → session.hold_at s.state.holds k ≡ y → ShutLogged y s.log u.log → Done
      by_hold None e l =
          let exact : t.state ≡ keeping.finished s.state 0 = ap stated done ∙ ap (λ z. keeping.finished z 0) (shut.0 ∙ ap (shut_at s.state k) e) in
          does_nothing reliable honest sure s.state s.state t.state s.log t.log (program_of t.state) (ap (λ (z : session.Logged). z.log) done ∙ l) (λ n is.
          alone_at reliable honest sure s.state s.state t.state 0 (touch.Leaves k) n (ready_for (touch.Leaves k) next) none refl exact is
          (λ m inv fits. leaves_turn (setting_of s.state) m (ready_of s.state) (answers true) k None (seen_at s.state.holds k ∙ ap hold_seen e)))
      by_hold (Some h) e l =
          let v : session.State = shut_at s.state k (Some h) in let o : ℕ = h.object in let g : Setting = setting_of s.state in
          let here = owned_here s.state o ok (ok.held k h e).owns in
          let exact : t.state ≡ keeping.finished v 0 = ap stated done ∙ ap (λ z. keeping.finished z 0) (shut.0 ∙ ap (shut_at s.state k) e) in (
            deed o l.0 (Closes o) ∷ [],
            ap (λ (z : session.Logged). z.log) done ∙ l.1,
            λ n is. so_there reliable honest s.state.view.sizes g n (ready_of s.state) (finished g (ready_of v) 0) (program_of t.state) (deed o l.0 (Closes o) ∷ []) (Notes g (upd n.notes o (closed (n.notes o)))) (Noted t.state.view)
                (closes_next reliable honest s.state.view.sizes s.state.view.low s.state.view.high s.state.view.number s.state.image n (ready_of s.state) (finished g (ready_of v) 0) (touch.Leaves k) o l.0 (ready_for (touch.Leaves k) next)
                (λ m. leaves_turn g m (ready_of s.state) (answers true) k (Some (seen h)) (seen_at s.state.holds k ∙ ap hold_seen e) ∙ ap (λ (c : Program). Calls (Closes o) (λ (z : State). finished g c 0)) (holding_seen s.state k None)))
                (finished_is g v 0 none refl ∙ ap program_of (sym exact)) (λ y known. subst (λ (z : session.State). Noted z.view y) (sym exact) (noted_in g s.state.view n y o closed refl refl here is known)),
          )

  one : (x : Touch) → IsNext x s.state → Performs honest x s t → Done
  one touch.Plain next done = quiet touch.Plain next done (λ m. refl)
  one (touch.Hints w) next done = quiet (touch.Hints w) next done (λ m. refl)
  one (touch.Aims k None) next done = aims_at_none k next done.0 done.1 done.2
  one (touch.Aims k (Some a)) next done = aims_at_some k a next done.0 done.1 done.2
  one (touch.Loads k a) next done =
      loads_at reliable honest sure s.state t.state k a done.3.0 done.0 s.log t.log (ready_for (touch.Loads k a) next) none ok done.1 (sym done.2) (done.3.1 sure) (ap stated done.3.2) (ap (λ (z : session.Logged). z.log) done.3.2)
  one (touch.Stores k a v) next done =
      stores_at reliable honest sure s.state t.state k a v done.0 s.log t.log (ready_for (touch.Stores k a v) next) (scope_low s.state k ok next.within.0) none ok done.1 (sym done.2) done.3 done.4
  one (touch.Leaves k) next done = leaves_at k next done.0 done.1 done.2
  one (touch.Allocs many) next done = allocates_at reliable honest sure s.state t.state many s.log t.log (ready_for (touch.Allocs many) next) none ok done.0 (ap stated done.1) (ap (λ (z : session.Logged). z.log) done.1)
  one touch.Ends next done =
      ends_at reliable honest sure s.state (ready_for touch.Ends next) ok t.state s.log done.0.log t.log none done.1.1 (ap stated done.2 ∙ ap (λ (y : session.State). keeping.finished y 0) done.1.0) (ap (λ (z : session.Logged). z.log) done.2)
  one touch.Wrong next done = absurd done
  one touch.Nothing next done = absurd done

-- ---- one behind the other

-- the log of a session grew by steps by which its program goes from where it was to where it is
abbrev pub Performed : Type 0 → Type 0 → session.Logged → session.Logged → Type 0
Performed reliable honest s t = (ds : List Deed) × (t.log ≡ s.log ++ ds)
    × ((k : Known) → Noted s.state.view k → Leads reliable honest s.state.view.sizes (setting_of s.state) k (program_of s.state) ds (program_of t.state) (Noted t.state.view))

-- and then by others
performed_both : (reliable honest : Type 0) (s u t : session.Logged) → u.state.view.sizes ≡ s.state.view.sizes → setting_of u.state ≡ setting_of s.state → Performed reliable honest s u → Performed reliable honest u t → Performed reliable honest s t
performed_both reliable honest s u t sizes same first rest = (
  first.0 ++ rest.0,
  rest.1 ∙ ap (λ (ds : List Deed). ds ++ rest.0) first.1 ∙ append_assoc s.log first.0 rest.0,
  λ k is. on reliable honest s.state.view.sizes (setting_of s.state) k (program_of s.state) (program_of u.state) (program_of t.state) first.0 rest.0 (Noted u.state.view) (Noted t.state.view) (first.2 k is) (λ l known.
      subst (λ g. Leads reliable honest s.state.view.sizes g l (program_of u.state) rest.0 (program_of t.state) (Noted t.state.view)) same
      (subst (λ (z : Sizes). Leads reliable honest z (setting_of u.state) l (program_of u.state) rest.0 (program_of t.state) (Noted t.state.view)) sizes (rest.2 l known))),
)

all : (reliable honest : Type 0) → honest → (us : List session.Logged) (s t : session.Logged) → s.state.view.sizes.frames ≤ 1048576 → s.state.view.number < 65536 → PerformsBy honest us s t → Performed reliable honest s t
all reliable honest sure [] s t narrow low e = (
  [],
  ap (λ (y : session.Logged). y.log) e ∙ nothing_behind s.log,
  λ k is. stays reliable honest s.state.view.sizes (setting_of s.state) k (program_of s.state) (program_of t.state) (Noted t.state.view) (ap (λ (y : session.Logged). program_of y.state) e) (subst (λ (y : session.Logged). Noted y.state.view k) (sym e) is),
)
all reliable honest sure (u ∷ us) s t narrow low d =
    let sizes : u.state.view.sizes ≡ s.state.view.sizes = ap (λ (v : TableId × View). v.1.sizes) d.0.same.3 in
    let number : u.state.view.number ≡ s.state.view.number = ap (λ (v : TableId × View). v.1.number) d.0.same.3 in
    let first = one reliable honest sure s u narrow low d.0.safe.holding d.0.going.1 d.0.touch d.0.next d.0.performed in
    let rest = all reliable honest sure us u t (subst (λ (z : Sizes). z.frames ≤ 1048576) (sym sizes) narrow) (subst (λ i. i < 65536) (sym number) low) d.1 in
    performed_both reliable honest s u t sizes (same_setting s.state u.state d.0.same)
    (first.0, first.1, λ k is. subst (λ (p : Program). Leads reliable honest s.state.view.sizes (setting_of s.state) k p first.0 (program_of u.state) (Noted u.state.view)) (going_is s.state d.0.going.1) (first.2 k is)) rest

-- ---- and a want at last

sizes_stay : (honest : Type 0) (us : List session.Logged) (s t : session.Logged) → PerformsBy honest us s t → t.state.view.sizes ≡ s.state.view.sizes
sizes_stay honest [] s t e = ap (λ (y : session.Logged). y.state.view.sizes) e
sizes_stay honest (u ∷ us) s t d = sizes_stay honest us u t d.1 ∙ ap (λ (v : TableId × View). v.1.sizes) d.0.same.3

-- it comes to want this by a turn without a call
wanted_by : (reliable honest : Type 0) (s t : session.Logged) (w : Want) (x : Touch) → IsReady (setting_of s.state) (ready_of s.state) x → s.state.want ≡ None → t ≡ wanting s w
    → ((m : State) → ready (setting_of s.state) m (ready_of s.state) refuses x ≡ Alone (in_mode (ready_of s.state) (Wanted w))) → Performed reliable honest s t
wanted_by reliable honest s t w x r none e turn =
    let z : session.State = s.state in let g : Setting = setting_of z in (
      [],
      ap (λ (y : session.Logged). y.log) e ∙ nothing_behind s.log,
      λ k is. subst (λ (p : Program). Leads reliable honest z.view.sizes g k p [] (program_of t.state) (Noted t.state.view)) (going_is z none)
          (wait reliable honest z.view.sizes g k (ready_of z) (in_mode (ready_of z) (Wanted w)) (program_of t.state) [] (Noted t.state.view) (refuses, refl, λ m inv fits. ap (taken g.size m) (turn_of g m (ready_of z) refuses x r ∙ turn m))
          (stays reliable honest z.view.sizes g k (in_mode (ready_of z) (Wanted w)) (program_of t.state) (Noted t.state.view) (ap program_of (ap stated e)) (subst (λ (y : session.Logged). Noted y.state.view k) (sym e) is))),
    )

wanted_so : (reliable honest : Type 0) (w : Want) (s t : session.Logged) → WantsNext reliable w s t → w ≢ StoreFailed → (w ≡ OutOfMemory → session.next_touch t.state ≢ touch.Ends) → Performed reliable honest s t
wanted_so reliable honest NoObjects s t d stored text =
    let c = d.came in let full = c.1.1 in
    wanted_by reliable honest s t NoObjects (touch.Allocs full.0) (record { mode = refl; free = c.0; is = full.1 }) d.going.1 c.2 (λ m. full_turn s.state m full.0 full.2)
wanted_so reliable honest OutOfMemory s t d stored text =
    let c = d.came in let x : Touch = session.next_touch s.state in
    let not_text : x ≢ touch.Ends = λ e. text refl (same_next s.state t.state OutOfMemory (ap stated c.2) ∙ e) in
    wanted_by reliable honest s t OutOfMemory x (record { mode = refl; free = c.0; is = refl }) d.going.1 c.2 (λ m. refused_turn s.state m x c.1.1 c.1.1 c.1.2 not_text)
wanted_so reliable honest StoreFailed s t d stored text = absurd (stored refl)

-- what a session did in a run that no call of the store ended
pub acted : (reliable honest : Type 0) → honest → (s t : session.Logged) (r : Run) → s.state.view.sizes.frames ≤ 1048576 → s.state.view.number < 65536 → Acts honest reliable s t r → r ≢ ending.Wanted StoreFailed → (r ≡ ending.Wanted OutOfMemory → session.next_touch t.state ≢ touch.Ends)
    → Performed reliable honest s t
acted reliable honest sure s t ending.Running narrow low d stored text = all reliable honest sure d.0 s t narrow low d.1
acted reliable honest sure s t (ending.Stopped x) narrow low d stored text = all reliable honest sure d.0 s t narrow low d.1
acted reliable honest sure s t (ending.Wanted w) narrow low d stored text =
    performed_both reliable honest s d.0 t (sizes_stay honest d.1.0 s d.0 d.1.1) (settings_stay honest d.1.0 s d.0 d.1.1) (all reliable honest sure d.1.0 s d.0 narrow low d.1.1)
    (wanted_so reliable honest w d.0 t d.2 (λ e. stored (ap ending.Wanted e)) (λ e. text (ap ending.Wanted e)))
