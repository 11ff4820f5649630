-- the lines of a schedule, one after another
use Rattle.std.proofs.Common.{◌≡◌, ◌&&◌, inl, inr, Bool, true, false, ℕ, suc, ◌+◌, ◌<◌, List, [], ◌∷◌, ◌++◌, length, Option, Some, None, append_assoc, append-nil, length-append, refl, sym, ap, ◌∙◌, subst, arith}
use Rattle.std.specs.Prelude.{codes, cond, nat_lt, slice_get}
use Rattle.std.proofs.lemmas.Bool.{ltb-true}
use Rattle.std.proofs.lemmas.Option.{slice_get_cases}
use Rattle.cells.specs.declared.ending.Ended.{Ended}
use Rattle.code_form.specs.Form.{Image}
use Rattle.world_semantics.specs.declared.event.Actor.{Actor}
use Rattle.world_semantics.specs.declared.event.Actor.TheVariants as actor
use Rattle.world_semantics.specs.Programs.{Program}
use Rattle.schedule_lines.specs.Lines.{Line, IsLine, IsLine32, spell, spell_actor, spell_choice}
use Rattle.world.specs.Parts.{Parts}
use Rattle.world.specs.Stepped.{IsWorld}
use Rattle.world.specs.Telling.{IsPortOf, StoreTold}
use Rattle.remote_store.specs.declared.port.Port.{Port}
use Rattle.world_semantics.specs.declared.event.Choice.{Choice}
use Rattle.world.specs.Reports.{event_of, AreEnds, AreLines, HasCome, HasLed, IsEnded, LinesLead, Told}
use Rattle.world_semantics.specs.Turns.{Answer}
use Rattle.world_semantics.specs.Worlds.{IsHonest, Sizes, World, event}

-- one line more
pub line_more : (xs : List Line) (x : Line) (text : List ℕ) → AreLines xs text → IsLine32 x → AreLines (xs ++ x ∷ []) (text ++ spell x)
line_more [] x text are small = (small, ([], ap (λ t. t ++ spell x) are ∙ sym (append-nil (spell x)), refl))
line_more (y ∷ ys) x text are small =
    let rest = are.1.0 in
    (are.0, (rest ++ spell x, ap (λ t. t ++ spell x) are.1.1 ∙ append_assoc (spell y) rest (spell x), line_more ys x rest are.1.2 small))

pub many_more : (xs : List Line) (x : Line) → length (xs ++ x ∷ []) ≡ suc (length xs)
many_more [] x = refl
many_more (y ∷ ys) x = ap suc (many_more ys x)

-- ---- a schedule

module _ {S C : Type 0} (honest reliable : Type 0) (failures : S → ℕ) (gives : S → C → List ℕ → S → Type 0) where
  -- one event more
  pub leads_more : (z : Sizes) (images : ℕ → Image) (w v u : World) (x y t : Parts S C) (ls : List Line) (l : Line) (a : Answer) → LinesLead honest reliable failures gives z images w x ls v y
      → event z images v (event_of l a) ≡ Some u → (honest → IsHonest z v l.actor a) → Told honest reliable failures gives z v y t l.actor a
      → LinesLead honest reliable failures gives z images w x (ls ++ l ∷ []) u t
  leads_more z images w v u x y t [] l a led is honestly told =
      subst (λ (p : Parts S C). LinesLead honest reliable failures gives z images w p (l ∷ []) u t) led.1
      (subst (λ (p : World). LinesLead honest reliable failures gives z images p y (l ∷ []) u t) led.0 (a, u, t, is, honestly, told, (refl, refl)))
  leads_more z images w v u x y t (k ∷ ks) l a led is honestly told =
      (led.0, led.1, led.2, led.3, led.4, led.5, leads_more z images led.1 v u led.2 y t ks l a led.6 is honestly told)

  pub comes : (z : Sizes) (images : ℕ → Image) (w : World) (x : Parts S C) (schedule : List ℕ) → HasCome honest reliable failures gives z images w x schedule schedule 1 w x
  comes z images w x schedule = record { before = []; text = []; cut = refl; lines = refl; count = refl; leads = (refl, refl) }

  pub come_more : (z : Sizes) (images : ℕ → Image) (w v u : World) (x y t : Parts S C) (schedule rest others : List ℕ) (line : ℕ) (l : Line) (a : Answer)
      → HasCome honest reliable failures gives z images w x schedule rest line v y → IsLine l others rest → event z images v (event_of l a) ≡ Some u → (honest → IsHonest z v l.actor a)
      → Told honest reliable failures gives z v y t l.actor a → HasCome honest reliable failures gives z images w x schedule others (line + 1) u t
  come_more z images w v u x y t schedule rest others line l a come is e honestly told = record {
    before = come.before ++ l ∷ [];
    text = come.text ++ spell l;
    cut = come.cut ∙ ap (λ p. come.text ++ p) is.1 ∙ sym (append_assoc come.text (spell l) others);
    lines = line_more come.before l come.text come.lines is.0;
    count = omega (arith, come.count, many_more come.before l);
    leads = leads_more z images w v u x y t come.before l a come.leads e honestly told;
  }

  pub has_led : (z : Sizes) (images : ℕ → Image) (w v : World) (x y : Parts S C) (schedule rest : List ℕ) (line : ℕ)
      → HasCome honest reliable failures gives z images w x schedule rest line v y → length rest ≡ 0 → HasLed honest reliable failures gives z images w x schedule v y
  has_led z images w v x y schedule [] line come none = (come.before, subst (AreLines come.before) (sym (come.cut ∙ append-nil come.text)) come.lines, come.leads)
  has_led z images w v x y schedule (b ∷ rest) line come none = absurd (omega (arith, none))

-- an actor of an event is there
is_there : (b c : Bool) (o : Option World) (u : World) → cond (b && c) o None ≡ Some u → b ≡ true
is_there true c o u is = refl
is_there false c o u is = cc

-- each actor of an event has a way to the store
way_at : {A P : Type 0} (xs : List (A × P)) (k n : ℕ) → length xs ≡ n → nat_lt k n ≡ true → (p : P) × (x : A) × (slice_get xs k ≡ Some (x, p))
way_at {A} {P} xs k n many less = elim (slice_get_cases xs k).1 [
  | inl r ↦ (r.0.1, r.0.0, r.2)
  | inr r ↦ absurd (let below : k < n = ltb-true k n less in omega (arith, r.0, below, many))
]

pub way_of : {S C : Type 0} (z : Sizes) (images : ℕ → Image) (w u : World) (x : Parts S C) (who : Actor) (c : Choice) (a : Answer) → length x.programs ≡ z.programs → length x.evacuators ≡ z.evacuators → length x.fetchers ≡ z.fetchers
    → event z images w (record { actor = who; choice = c; answer = a }) ≡ Some u → (p : Port S C) × IsPortOf x who p
way_of z images w u x (actor.Program k) c a programs evacuators fetchers is = let r = way_at x.programs k z.programs programs (is_there _ _ _ u is) in (r.0, (r.1, r.2))
way_of z images w u x (actor.Evacuator k) c a programs evacuators fetchers is = let r = way_at x.evacuators k z.evacuators evacuators (is_there _ _ _ u is) in (r.0, (r.1, r.2))
way_of z images w u x (actor.Fetcher k) c a programs evacuators fetchers is = let r = way_at x.fetchers k z.fetchers fetchers (is_there _ _ _ u is) in (r.0, (r.1, r.2))

module _ {S C : Type 0} (content : C → Option (List ℕ)) (honest reliable : Type 0) (failures : S → ℕ) (gives : S → C → List ℕ → S → Type 0) where
  -- what the store answered in an event of worlds that code holds, by their ways
  pub told_by : (z : Sizes) (images : ℕ → Image) (w u : World) (x y : Parts S C) (who : Actor) (c : Choice) (a : Answer) → IsWorld content honest z images x w → IsWorld content honest z images y u
      → event z images w (record { actor = who; choice = c; answer = a }) ≡ Some u → StoreTold reliable failures gives z w x y who a → Told honest reliable failures gives z w x y who a
  told_by z images w u x y who c a is will happens told =
      let p = way_of z images w u x who c a is.programs_many is.evacuators_many is.fetchers_many happens in
      let q = way_of z images w u y who c a will.programs_many will.evacuators_many will.fetchers_many happens in
      record { many = is.shows.many; before = p.0; after = q.0; from = p.1; to = q.1; answered = told p.0 q.0 p.1 q.1 }

-- a line has a byte at least
some_actor : (a : Actor) → 0 < length (spell_actor a)
some_actor (actor.Program k) = omega arith
some_actor (actor.Evacuator k) = omega arith
some_actor (actor.Fetcher k) = omega arith

pub shorter : (x : Line) (others rest : List ℕ) → IsLine x others rest → length others < length rest
shorter x others rest is =
    omega (arith, ap length is.1, length-append (spell x) others, length-append (spell_actor x.actor) (spell_choice x.choice ++ codes "\n"), some_actor x.actor)

-- ---- ends

pub ends_more : (programs : ℕ → Program) (k : ℕ) (es : List Ended) (e : Ended) → AreEnds programs k es → IsEnded (programs (k + length es)) e → AreEnds programs k (es ++ e ∷ [])
ends_more programs k [] e are is = (subst (λ (j : ℕ). IsEnded (programs j) e) (omega arith) is, tt)
ends_more programs k (f ∷ es) e are is = (are.0, ends_more programs (suc k) es e are.1 (subst (λ (j : ℕ). IsEnded (programs j) e) (omega arith) is))
