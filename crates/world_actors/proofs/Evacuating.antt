-- the turns of an evacuator that code holds
use Rattle.std.proofs.Common.{◌≡◌, ℕ, ◌<◌, Bool, true, false, cond, ◌&&◌, List, [], Option, Some, None, refl, sym, ap, ◌∙◌, subst}
use Rattle.std.specs.Prelude.{option_map, nat_lt}
use Rattle.pointer_word.specs.Machine.{Far, State}
use Rattle.pointer_word.specs.Calls.{Leaves, Marks}
use Rattle.pointer_word.specs.Legal.{holds}
use Rattle.pointer_word.proofs.Legal.{may_legal}
use Rattle.remote_store.specs.declared.berth.Berth.{Berth}
use Rattle.remote_store.specs.declared.port.Port.{Port}
use Rattle.world_memory.specs.Answered.{AnswersSo}
use Rattle.world_memory.specs.Berths.{Berths}
use Rattle.world_actors.specs.Asking.{asked_idly, asked_out}
use Rattle.world_actors.specs.declared.evacuator.EvacuatorActor.{EvacuatorActor}
use Rattle.world_semantics.specs.declared.event.Choice.{Choice}
use Rattle.world_semantics.specs.declared.event.Choice.TheVariants as choice
use Rattle.world_semantics.specs.declared.event.Step.{Step}
use Rattle.world_actors.specs.declared.program.Eviction.{Eviction as RustEviction}
use Rattle.world_actors.specs.Acting.{Evacuates, Goes, Leads, Moves, Shows, Unread, UnreadSo, eviction_in}
use Rattle.world_semantics.specs.InHand.{FitsEvacuator}
use Rattle.world_semantics.specs.Programs.{Eviction, Copying, Freed}
use Rattle.world_actors.specs.Seats.{eviction_of}
use Rattle.world_memory.specs.Tables.{Tables}
use Rattle.world_semantics.specs.Turns.{Answer, evacuator_idle, evacuator_turn, evicts}
use Rattle.world_semantics.specs.Worlds.{Sizes, in_range}
use Rattle.world_actors.proofs.Acting.{leads_call, plain}
use Rattle.world_semantics.proofs.Moving.{below}
use Rattle.world_actors.proofs.MovedOut.{LeftSo, MarkedSo}

both : (a b : Bool) → (a && b) ≡ true → (a ≡ true) × (b ≡ true)
both true b e = (refl, e)
both false b e = cc

-- a choice in range names an object that is there
pub mark_inside : (z : Sizes) (o f : ℕ) → in_range z (choice.Mark o f) ≡ true → o < z.objects
mark_inside z o f e = below o z.objects (both (nat_lt o z.objects) (nat_lt f z.frames) e).0

pub leave_inside : (z : Sizes) (o f : ℕ) → in_range z (choice.Leave o f) ≡ true → o < z.objects
leave_inside z o f e = below o z.objects (both (nat_lt o z.objects) (nat_lt f z.frames) e).0

-- and a frame that is there
pub frame_inside : (z : Sizes) (f : ℕ) → in_range z (choice.Claim f) ≡ true → f < z.frames
frame_inside z f e = below f z.frames e

module _ {C : Type 0} (content : C → Option (List ℕ)) (h : Type 0) (z : Sizes) (t : Tables) (berths : Berths C) (x : EvacuatorActor) (s : State) (is : Evacuates content h z t berths x s) where
  pub idle_fits : x.eviction ≡ None → FitsEvacuator z.cells s.far (s.hand x.mover) None
  idle_fits e = subst (λ d. FitsEvacuator z.cells s.far (s.hand x.mover) (option_map (λ y. eviction_of y x.words.items) d)) e is.fits

  pub moves : (e : RustEviction) → x.eviction ≡ Some e → Moves content h z t berths x.mover (eviction_of e x.words.items) s
  moves e q = record {
    shows = is.shows;
    inv = is.inv;
    fits = (subst (λ d. FitsEvacuator z.cells s.far (s.hand x.mover) (option_map (λ y. eviction_of y x.words.items) d)) q is.fits).2;
  }

  -- it tries to mark an object
  pub idle_marks : (o f : ℕ) (t' : Tables) (berths' : Berths C) (b : Bool) (d : Option Eviction) → x.eviction ≡ None → MarkedSo content z t berths x.mover s is.shows o f t' berths' b → cond b (Some (Copying o f [])) None ≡ d
      → Leads z.cells s (λ a. evacuator_idle x.mover (choice.Mark o f)) Unread (λ u y. Shows content z t' berths' u × (y ≡ d))
  idle_marks o f t' berths' b d e so q =
      let go : State → Option Eviction = λ u. cond (holds (u.hand x.mover).leaving o) (Some (Copying o f [])) None in
      leads_call z.cells s (λ a. evacuator_idle x.mover (choice.Mark o f)) Unread (λ u y. Shows content z t' berths' u × (y ≡ d)) plain (Marks x.mover o f) go refl refl
      (may_legal h z.cells s (Marks x.mover o f) (idle_fits e).1) (so.0, ap (λ (y : Bool). cond y (Some (Copying o f [])) None) so.1 ∙ q)

  -- it tries to have a clean object leave
  pub idle_leaves : (o f : ℕ) (t' : Tables) (berths' : Berths C) (b : Bool) (d : Option Eviction) → x.eviction ≡ None → LeftSo content z t berths x.mover s is.shows o f t' berths' b → cond b (Some (Freed f)) None ≡ d
      → Leads z.cells s (λ a. evacuator_idle x.mover (choice.Leave o f)) Unread (λ u y. Shows content z t' berths' u × (y ≡ d))
  idle_leaves o f t' berths' b d e so q =
      let go : State → Option Eviction = λ u. cond (holds (u.hand x.mover).freed f) (Some (Freed f)) None in
      leads_call z.cells s (λ a. evacuator_idle x.mover (choice.Leave o f)) Unread (λ u y. Shows content z t' berths' u × (y ≡ d)) plain (Leaves x.mover o f) go refl refl
      (may_legal h z.cells s (Leaves x.mover o f) (idle_fits e).2.1) (so.0, ap (λ (y : Bool). cond y (Some (Freed f)) None) so.1 ∙ q)

-- a turn of an evacuator that is idle, and of one that moves an object out
pub turn_idle : (n : ℕ) (x : EvacuatorActor) (s : State) (c : Choice) (honest : Answer → Type 0) (Q : State → Option Eviction → Type 0) (same : Type 0) (r : Step) → None ≡ x.eviction
    → Goes n s (λ a. evacuator_idle x.mover c) honest Q same r → Goes n s (λ a. evacuator_turn n x.mover (eviction_in x) c a) honest Q same r
turn_idle n x s c honest Q same r e g =
    subst (λ (d : Option RustEviction). Goes n s (λ a. evacuator_turn n x.mover (option_map (λ y. eviction_of y x.words.items) d) c a) honest Q same r) e g

pub turn_on : (n : ℕ) (x : EvacuatorActor) (s : State) (c : Choice) (e : RustEviction) (honest : Answer → Type 0) (Q : State → Option Eviction → Type 0) → c ≡ choice.Next → Some e ≡ x.eviction
    → Leads n s (λ a. evicts n x.mover a (eviction_of e x.words.items) Some None None) honest Q → Leads n s (λ a. evacuator_turn n x.mover (eviction_in x) c a) honest Q
turn_on n x s c e honest Q q k l =
    subst (λ (y : Choice). Leads n s (λ a. evacuator_turn n x.mover (eviction_in x) y a) honest Q) (sym q)
    (subst (λ (d : Option RustEviction). Leads n s (λ a. evacuator_turn n x.mover (option_map (λ y. eviction_of y x.words.items) d) choice.Next a) honest Q) k l)

-- what it asks of the store: an evacuator that is idle nothing, else what its moving out asks
module _ {S C : Type 0} (reliable : Type 0) (failures : S → ℕ) (gives : S → C → List ℕ → S → Type 0) (n : ℕ) (berths : List (Berth C)) where
  pub told_idle : (p : Port S C) (far : ℕ → Far) (a : Answer) (x : EvacuatorActor) → None ≡ x.eviction → AnswersSo reliable failures gives n berths p p far (asked_idly n (eviction_in x)) a
  told_idle p far a x e = subst (λ (d : Option RustEviction). AnswersSo reliable failures gives n berths p p far (asked_idly n (option_map (λ y. eviction_of y x.words.items) d)) a) e refl

  pub told_on : (p q : Port S C) (far : ℕ → Far) (a : Answer) (x : EvacuatorActor) (e : RustEviction) → Some e ≡ x.eviction → AnswersSo reliable failures gives n berths p q far (asked_out n (eviction_of e x.words.items)) a
      → AnswersSo reliable failures gives n berths p q far (asked_idly n (eviction_in x)) a
  told_on p q far a x e k told = subst (λ (d : Option RustEviction). AnswersSo reliable failures gives n berths p q far (asked_idly n (option_map (λ y. eviction_of y x.words.items) d)) a) k told

  pub told_all : (p q : Port S C) (far : ℕ → Far) (x : EvacuatorActor) (e : RustEviction) → Some e ≡ x.eviction → (a : Answer)
      → UnreadSo (AnswersSo reliable failures gives n berths p q far (asked_out n (eviction_of e x.words.items))) a → UnreadSo (AnswersSo reliable failures gives n berths p q far (asked_idly n (eviction_in x))) a
  told_all p q far x e k a so = (so.0, told_on p q far a x e k so.1)
