-- a program that is ready goes on, where its code does
use Rattle.std.proofs.Common.{◌≡◌, ◌⊎◌, inl, inr, ℕ, ◌+◌, ◌<◌, Bool, true, false, cond, ◌&&◌, length, Option, Some, None, refl, sym, ap, ◌∙◌, subst, arith, eq-eqb}
use Rattle.std.specs.Prelude.{◌==◌, ◌%◌, is_some, nat_lt, nat_le}
use Rattle.std.proofs.lemmas.Bool.Decides.{nat_tests}
use Rattle.code_form.specs.declared.touch.Cell.{Cell}
use Rattle.code_form.specs.declared.touch.Touch.{Touch}
use Rattle.code_form.specs.declared.touch.Touch.TheVariants as touch
use Rattle.code_form.specs.Form.{Image}
use Rattle.code_form.specs.Effects.{Effect, Plain, Hints, Aims, Loads, Stores, Leaves, Allocs, Ends, Wrong, Nothing}
use Rattle.code_form.specs.Code.{Core, effect, held, is_blocked}
use Rattle.code_form.specs.Placed.{pieces}
use Rattle.code_form.specs.Touches.{cell, cell_option, touch_of}
use Rattle.code_form.specs.Tracked.{IsTracked}
use Rattle.pointer_word.specs.Hands.{known}
use Rattle.pointer_word.specs.Machine.{State}
use Rattle.world_semantics.specs.declared.event.Actor.TheVariants as actor
use Rattle.world_semantics.specs.declared.event.Choice.TheVariants as choice
use Rattle.world_semantics.specs.Programs.{Hold, Ready, Program, Setting, next_touch, object_of, object_or_none, next_free, hold_at, first_hold}
use Rattle.world_semantics.specs.Turns.{Answer, Turn, NotEnabled, aims_at, loads_from, loads_by, stores_to, stores_by, leaves_by, ends_by, ready, by_mode, program_turn}
use Rattle.world_semantics.specs.Worlds.{Sizes, World, setting, event}
use Rattle.world_semantics.specs.Steps.{IsSound}
use Rattle.world_semantics.specs.Enabled.{is_turn, CanGo}
use Rattle.world_semantics.specs.Scopes.{IsNext, object_in, IsAsCode, Shuts, IsShut, ScopeFits}
use Rattle.world_semantics.proofs.Asking.{ToldFit}
use Rattle.world_semantics.proofs.Fitting.{AllFit, event_open}
use Rattle.world_semantics.proofs.Following.{Laws, Within1}

either : {A : Type 0} (b : Bool) (x y : Turn A) → is_turn x ≡ true → is_turn y ≡ true → is_turn (cond b x y) ≡ true
either true x y e f = e
either false x y e f = f

first : {A : Type 0} (b : Bool) (x y : Turn A) → b ≡ true → is_turn x ≡ true → is_turn (cond b x y) ≡ true
first true x y q e = e
first false x y q e = cc

second : {A : Type 0} (b : Bool) (x y : Turn A) → b ≡ false → is_turn y ≡ true → is_turn (cond b x y) ≡ true
second true x y q e = cc
second false x y q e = e

below_so : (a b : ℕ) → a < b → nat_lt a b ≡ true
below_so a b l = grind (arith, nat_tests)

-- what a load or a store is by
held_load : (c : Core) (e : Effect Core) (k : ℕ) (x : Cell) → touch_of e ≡ touch.Loads k x → IsTracked c e → cell_option (held c k) ≡ Some x
held_load c (Loads s r i n) k x e t = let same : s ≡ k = cc in let also : cell r i ≡ x = cc in ap (λ j. cell_option (held c j)) (sym same) ∙ (ap cell_option t.0 ∙ ap Some also)
held_load c (Plain d) k x e t = cc
held_load c (Hints w d) k x e t = cc
held_load c (Aims s w d) k x e t = cc
held_load c (Stores s r i v d) k x e t = cc
held_load c (Leaves s d) k x e t = cc
held_load c (Allocs n d) k x e t = cc
held_load c (Ends d) k x e t = cc
held_load c (Wrong d) k x e t = cc
held_load c Nothing k x e t = cc

held_store : (c : Core) (e : Effect Core) (k : ℕ) (x : Cell) (v : ℕ) → touch_of e ≡ touch.Stores k x v → IsTracked c e → cell_option (held c k) ≡ Some x
held_store c (Stores s r i u d) k x v e t = let same : s ≡ k = cc in let also : cell r i ≡ x = cc in ap (λ j. cell_option (held c j)) (sym same) ∙ (ap cell_option t.0 ∙ ap Some also)
held_store c (Plain d) k x v e t = cc
held_store c (Hints w d) k x v e t = cc
held_store c (Aims s w d) k x v e t = cc
held_store c (Loads s r i n) k x v e t = cc
held_store c (Leaves s d) k x v e t = cc
held_store c (Allocs n d) k x v e t = cc
held_store c (Ends d) k x v e t = cc
held_store c (Wrong d) k x v e t = cc
held_store c Nothing k x v e t = cc

module _ (laws : Laws) (g : Setting) (s : State) (p : Program) (a : Answer) (is : Within1 g p) (four : length p.holds ≡ 4) (scopes : (k : ℕ) → ScopeFits g p Ready k) (told : ToldFit s p Ready) where
  settled : (x : Touch) → IsNext g p x → (k : ℕ) → (Shuts x k → ⊥) → IsAsCode g p k ⊎ IsShut g p k → IsAsCode g p k
  settled x next k keeps (inl as_code) = as_code
  settled x next k keeps (inr shut) = absurd (keeps (subst (λ (y : Touch). Shuts y k) next.0 shut.1))

  known_so : (k : ℕ) (y : Hold) → hold_at p.holds k ≡ Some y → known (s.note y.object).frame ≡ true
  known_so k y e = elim (told k y e) [ inl t ↦ t.0 | inr pending ↦ absurd pending ]

  load_from : (f : Option ℕ) (i : ℕ) → known f ≡ true → is_turn (loads_from g s p f i) ≡ true
  load_from None i e = cc
  load_from (Some f) i e = refl

  load_turn : (k : ℕ) (y : Option Hold) (o i : ℕ) → hold_at p.holds k ≡ y → object_in y ≡ Some o → is_turn (loads_by g s p y o i) ≡ true
  load_turn k None o i e here = cc
  load_turn k (Some y) o i e here =
      let same : y.object ≡ o = cc in
      first (y.object == o) (loads_from g s p (s.note o).frame i) NotEnabled (eq-eqb y.object o same) (load_from (s.note o).frame i (subst (λ j. known (s.note j).frame ≡ true) same (known_so k y e)))

  store_to : (f : Option ℕ) (o i v : ℕ) → known f ≡ true → is_turn (stores_to g p f o i v) ≡ true
  store_to None o i v e = cc
  store_to (Some f) o i v e = refl

  store_turn : (k : ℕ) (y : Option Hold) (o i v : ℕ) → hold_at p.holds k ≡ y → object_in y ≡ Some o → is_turn (stores_by g s p k y o i v) ≡ true
  store_turn k None o i v e here = cc
  store_turn k (Some y) o i v e here =
      let same : y.object ≡ o = cc in
      first (y.object == o) _ NotEnabled (eq-eqb y.object o same)
      (either y.writes _ _ (store_to (s.note o).frame o i v (subst (λ j. known (s.note j).frame ≡ true) same (known_so k y e))) refl)

  object_there : (k : ℕ) (x : Cell) → cell_option (held p.core k) ≡ Some x → IsAsCode g p k → object_in (hold_at p.holds k) ≡ Some (object_of g p x)
  object_there k x e as_code = as_code ∙ ap (object_or_none g p) e

  aim_turn : (k : ℕ) (y : Option Hold) (w : Option ℕ) → is_turn (aims_at g p k y w) ≡ true
  aim_turn k None None = refl
  aim_turn k None (Some o) = refl
  aim_turn k (Some y) None = refl
  aim_turn k (Some y) (Some o) = either (y.object == o) _ _ refl refl

  leave_turn : (k : ℕ) (y : Option Hold) → is_turn (leaves_by g p k y) ≡ true
  leave_turn k None = refl
  leave_turn k (Some y) = refl

  end_turn : (q : Option (ℕ × Hold)) → is_turn (ends_by g p a q) ≡ true
  end_turn None = refl
  end_turn (Some q) = refl

  ready_turn : (x : Touch) → IsNext g p x → CanGo x → is_turn (ready g s p a x) ≡ true
  ready_turn touch.Plain next can = refl
  ready_turn (touch.Hints w) next can = refl
  ready_turn (touch.Aims k w) next can =
      let l : k < length p.holds = omega arith in
      first (nat_lt k (length p.holds)) _ NotEnabled (below_so k (length p.holds) l) (aim_turn k (hold_at p.holds k) (object_or_none g p w))
  ready_turn (touch.Loads k x) next can =
      let e = held_load p.core (effect g.image p.core) k x next.0 (laws.tracked g.image p.core is.waits next.1) in
      load_turn k (hold_at p.holds k) (object_of g p x) (x.index % g.size) refl (object_there k x e (settled (touch.Loads k x) next k (λ y. y) (scopes k)))
  ready_turn (touch.Stores k x v) next can =
      let e = held_store p.core (effect g.image p.core) k x v next.0 (laws.tracked g.image p.core is.waits next.1) in
      store_turn k (hold_at p.holds k) (object_of g p x) (x.index % g.size) v refl (object_there k x e (settled (touch.Stores k x v) next k (λ y. y) (scopes k)))
  ready_turn (touch.Leaves k) next can = leave_turn k (hold_at p.holds k)
  ready_turn (touch.Allocs cells) next can = either (nat_le (next_free g p + pieces g.size cells) g.limit) _ _ refl refl
  ready_turn touch.Ends next can = end_turn (first_hold p.holds)
  ready_turn touch.Wrong next can = absurd can
  ready_turn touch.Nothing next can = absurd can

-- in its own event
pub goes_on : Laws → (h : Type 0) (z : Sizes) (images : ℕ → Image) (w : World) (k : ℕ) (a : Answer) → 0 < z.cells → IsSound h z w → AllFit z images w → k < z.programs → (w.programs k).mode ≡ Ready
    → is_blocked (w.programs k).core ≡ false → CanGo (next_touch (setting z images k) (w.programs k)) → is_some (event z images w (record { actor = actor.Program k; choice = choice.Next; answer = a })) ≡ true
goes_on laws h z images w k a some sound all l m unblocked can =
    let g = setting z images k in
    let p : Program = w.programs k in
    let is = all k in
    let turn : is_turn (ready g w.lock p a (next_touch g p)) ≡ true =
    ready_turn laws g w.lock p a is.within is.four (λ s. subst (λ y. ScopeFits g p y s) m (is.scopes s)) (subst (ToldFit w.lock p) m is.told) (next_touch g p) (refl, unblocked) can in
    let next : is_turn (program_turn g w.lock p choice.Next a) ≡ true =
    subst (λ y. is_turn (by_mode g w.lock p y choice.Next a) ≡ true) (sym m) (second (is_blocked p.core) NotEnabled (ready g w.lock p a (next_touch g p)) unblocked turn) in
    event_open laws h z images some w (record { actor = actor.Program k; choice = choice.Next; answer = a }) sound all
    ∙ (ap (λ (b : Bool). (b && true) && is_turn (program_turn g w.lock p choice.Next a)) (below_so k z.programs l) ∙ next)
