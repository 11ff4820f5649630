-- Steps of a program at their machines, one behind the other, and what its seat knows behind them.
use Rattle.std.proofs.Common.{◌≡◌, ℕ, Bool, cond, List, [], ◌∷◌, ◌++◌, map, inl, inr, refl, sym, ap, ◌∙◌, subst}
use Rattle.std.proofs.lemmas.Bool.Decides.{eqb_tells}
use Rattle.pointer_word.specs.Hands.{Note, upd}
use Rattle.pointer_word.specs.Machine.{State}
use Rattle.pointer_word.specs.Sound.{Inv}
use Rattle.object_lock.specs.Logs.{AreCallsAt, Deed, act_all}
use Rattle.object_lock.specs.Seats.{Sizes}
use Rattle.world_semantics.specs.Programs.{Program, Setting}
use Rattle.world_semantics.specs.Turns.{program_turn}
use Rattle.mover_events.specs.Making.{MayCome}
use Rattle.mover_events.specs.Parts.{AreSteps, MakesThem}
use Rattle.mover_events.proofs.Making.{HaveNoOwner}
use Rattle.mover_events.proofs.Notes.{step_note}
use Rattle.mover_events.proofs.Served.{map_apart, only_one}
use Rattle.session_events.specs.Knowing.{Fits, IsOwn, Known, learned}
use Rattle.session_events.specs.Listed.{MakesOne, MakesOwn, Waits, WaitsOn, reads_of}

-- what a seat knows behind these steps
abbrev pub behind : Setting → Known → List (State × Deed) → Known
behind g k [] = k
behind g k (p ∷ ps) = behind g (learned g (act_all p.0 p.1.calls)) ps

-- the notes of the objects of its own are these
abbrev pub Notes : Setting → (ℕ → Note) → Known → Type 0
Notes g y l = (o : ℕ) → IsOwn g o → l.notes o ≡ y o

module _ (reliable honest : Type 0) (z : Sizes) (g : Setting) where
  -- the seat came to these steps one behind the other, each at its machine, which is sound and fits what it knew
  abbrev pub Comes : Known → List (State × Deed) → Type 0
  Comes k [] = Unit {0}
  Comes k (p ∷ ps) = MayCome honest z p.0 p.1 × AreCallsAt z g.mover p.1.word p.1.calls × Inv honest z.cells p.0 × Fits g k p.0 × Comes (learned g (act_all p.0 p.1.calls)) ps

  abbrev pub Makes : Known → Program → List (State × Deed) → Program → Type 0
  Makes k p ps q = MakesOwn reliable honest z g k p ps q

  -- wherever these steps come, the program goes from p to q by them, and of what its seat knows then this is so
  abbrev pub Leads : Known → Program → List Deed → Program → (Known → Type 0) → Type 0
  Leads k p ds q so = (ps : List (State × Deed)) → map (λ s. s.1) ps ≡ ds → Comes k ps → Makes k p ps q × so (behind g k ps)

  -- ---- turns without a call

  waits_both : (k : Known) (cs es : List Program) (p c q : Program) → WaitsOn honest g k p cs c → WaitsOn honest g k c es q → WaitsOn honest g k p (cs ++ es) q
  waits_both k [] es p c q a b = subst (λ (x : Program). WaitsOn honest g k x es q) a b
  waits_both k (x ∷ cs) es p c q a b = (a.0, waits_both k cs es x c q a.1 b)

  waits_first : (k : Known) (cs : List Program) (p c q : Program) (ps : List (State × Deed)) → WaitsOn honest g k p cs c → Makes k c ps q → Makes k p ps q
  waits_first k cs p c q [] w m = (cs ++ m.0, waits_both k cs m.0 p c q w m.1)
  waits_first k cs p c q (s ∷ ps) w m = (cs ++ m.0, m.1, m.2, waits_both k cs m.0 p c m.1 w m.3, m.4, m.5)

  pub wait : (k : Known) (p c q : Program) (ds : List Deed) (so : Known → Type 0) → Waits honest g k p c → Leads k c ds q so → Leads k p ds q so
  wait k p c q ds so w then = λ ps e come. let r = then ps e come in (waits_first k (c ∷ []) p c q ps (w, refl) r.0, r.1)

  pub stays : (k : Known) (p q : Program) (so : Known → Type 0) → q ≡ p → so k → Leads k p [] q so
  stays k p q so same known = go
    where
      go : Leads k p [] q so
      go [] e come = (([], same), known)
      go (s ∷ ps) e come = absurd (cc)

  -- by the same steps it comes to the same program, and what follows is so
  pub so_there : (k : Known) (p c q : Program) (ds : List Deed) (so then : Known → Type 0) → Leads k p ds c so → c ≡ q → ((l : Known) → so l → then l) → Leads k p ds q then
  so_there k p c q ds so then first same follows = λ ps e come. let r = first ps e come in (subst (Makes k p ps) same r.0, follows (behind g k ps) r.1)

  -- ---- steps behind steps

  pub comes_apart : (k : Known) (ps qs : List (State × Deed)) → Comes k (ps ++ qs) → Comes k ps × Comes (behind g k ps) qs
  comes_apart k [] qs c = (tt, c)
  comes_apart k (p ∷ ps) qs c = let r = comes_apart (learned g (act_all p.0 p.1.calls)) ps qs c.4 in ((c.0, c.1, c.2, c.3, r.0), r.1)

  pub behind_both : (k : Known) (ps qs : List (State × Deed)) → behind g k (ps ++ qs) ≡ behind g (behind g k ps) qs
  behind_both k [] qs = refl
  behind_both k (p ∷ ps) qs = behind_both (learned g (act_all p.0 p.1.calls)) ps qs

  makes_both : (k : Known) (p c q : Program) (ps qs : List (State × Deed)) → Makes k p ps c → Makes (behind g k ps) c qs q → Makes k p (ps ++ qs) q
  makes_both k p c q [] qs a b = waits_first k a.0 p c q qs a.1 b
  makes_both k p c q (s ∷ ps) qs a b = (a.0, a.1, a.2, a.3, a.4, makes_both (learned g (act_all s.0 s.1.calls)) a.2 c q ps qs a.5 b)

  pub on : (k : Known) (p c q : Program) (ds es : List Deed) (so then : Known → Type 0) → Leads k p ds c so → ((l : Known) → so l → Leads l c es q then) → Leads k p (ds ++ es) q then
  on k p c q ds es so then first rest = λ ps e come.
      let parts = map_apart ds es ps e in let split = comes_apart k parts.0 parts.1 (subst (Comes k) parts.2 come) in
      let a = first parts.0 parts.3 split.0 in let b = rest (behind g k parts.0) a.1 parts.1 parts.4 split.1 in (
        subst (λ (xs : List (State × Deed)). Makes k p xs q) (sym parts.2) (makes_both k p c q parts.0 parts.1 a.0 b.0),
        subst (λ (xs : List (State × Deed)). then (behind g k xs)) (sym parts.2) (subst then (sym (behind_both k parts.0 parts.1)) b.1),
      )

  -- one step, which the program makes at every machine to which its seat may come with it
  pub step : (k : Known) (p e : Program) (d : Deed) (so : Known → Type 0)
      → ((x : State) → MayCome honest z x d → AreCallsAt z g.mover d.word d.calls → Inv honest z.cells x → Fits g k x → MakesOne reliable z g p x d e × so (learned g (act_all x d.calls))) → Leads k p (d ∷ []) e so
  step k p e d so makes = λ ps is come.
      let one = only_one d ps is in
      let c = subst (Comes k) one.1 come in let s = one.0 in
      let m = makes s.0 (subst (MayCome honest z s.0) one.2 c.0) (subst (λ (y : Deed). AreCallsAt z g.mover y.word y.calls) one.2 c.1) c.2 c.3 in
      let made : MakesOne reliable z g p s.0 s.1 e = subst (λ (y : Deed). MakesOne reliable z g p s.0 y e) (sym one.2) m.0 in
      let known : so (learned g (act_all s.0 s.1.calls)) = subst (λ (y : Deed). so (learned g (act_all s.0 y.calls))) (sym one.2) m.1 in (
        subst (λ (xs : List (State × Deed)). Makes k p xs e) (sym one.1) ([], p, e, refl, made, ([], refl)),
        subst (λ (xs : List (State × Deed)). so (behind g k xs)) (sym one.1) known,
      )

  -- ---- steps that were made without a turn between them

  pub own_steps : (k : Known) (p q : Program) (ps : List (State × Deed)) → MakesThem reliable z (program_turn g) (reads_of g) p ps q → Makes k p ps q
  own_steps k p q [] m = ([], m)
  own_steps k p q (s ∷ ps) m = ([], p, m.0, refl, m.1, own_steps (learned g (act_all s.0 s.1.calls)) m.0 q ps m.2)

  -- what the seat has in hand at each
  pub hand_steps : (k : Known) (ps : List (State × Deed)) → Comes k ps → AreSteps honest z g.mover k.hand ps (behind g k ps).hand
  hand_steps k [] c = refl
  hand_steps k (p ∷ ps) c = (c.0, c.1, c.2, c.3.0, hand_steps (learned g (act_all p.0 p.1.calls)) ps c.4)

  -- steps that no owner makes leave the notes
  pub notes_left : (k : Known) (ds : List Deed) (ps : List (State × Deed)) → HaveNoOwner ds → map (λ s. s.1) ps ≡ ds → Comes k ps → Notes g k.notes (behind g k ps)
  notes_left k ds [] none e c = λ o own. refl
  notes_left k [] (p ∷ ps) none e c = absurd (cc)
  notes_left k (d ∷ ds) (p ∷ ps) none e c =
      let first : p.1 ≡ d = cc in let rest : map (λ s. s.1) ps ≡ ds = cc in
      let y : Known = learned g (act_all p.0 p.1.calls) in let on = notes_left y ds ps none.1 rest c.4 in
      λ o own. on o own ∙ ap (λ (x : Deed). (act_all p.0 x.calls).note o) first ∙ step_note (λ q. ⊥) o (λ q bad. absurd bad) d.calls p.0 none.0 ∙ c.3.1 o own

-- a change of the note of an object is the same of the machine's note and of what the seat knew
pub noted : (g : Setting) (k : Known) (x : State) (o : ℕ) (change : Note → Note) (t : State) → Fits g k x → t.note ≡ upd x.note o (change (x.note o)) → Notes g (upd k.notes o (change (k.notes o))) (learned g t)
noted g k x o change t fits e = λ p own. ap (λ (ns : ℕ → Note). ns p) e ∙ elim (eqb_tells p o) [
  | inl q ↦
      let same : x.note o ≡ k.notes o = subst (λ (i : ℕ). x.note i ≡ k.notes i) q.1 (fits.1 p own) in
      ap (λ (b : Bool). cond b (change (x.note o)) (x.note p)) q.0 ∙ ap change same ∙ ap (λ (b : Bool). cond b (change (k.notes o)) (k.notes p)) (sym q.0)
  | inr q ↦ ap (λ (b : Bool). cond b (change (x.note o)) (x.note p)) q.0 ∙ fits.1 p own ∙ ap (λ (b : Bool). cond b (change (k.notes o)) (k.notes p)) (sym q.0)
]
