-- who is no actor has nothing in hand, and what is no program is as it began
use Rattle.std.proofs.Common.{◌≡◌, ◌≢◌, ◌⊎◌, inl, inr, ℕ, ◌+◌, ◌<◌, ◌≤◌, Bool, true, false, ◌&&◌, List, [], ◌∷◌, Some, refl, sym, ap, ◌∙◌, subst, arith}
use Rattle.code_form.specs.Form.{Image}
use Rattle.pointer_word.specs.Hands.{empty_handed}
use Rattle.world_semantics.specs.declared.event.Actor.{Actor}
use Rattle.world_semantics.specs.declared.event.Actor.TheVariants as actor
use Rattle.world_semantics.specs.Programs.{Program, begun}
use Rattle.world_semantics.specs.Worlds.{Sizes, World, Event, mover_of, start, in_range, is_actor, acted, event, IsHonest, Follows}
use Rattle.world_semantics.specs.Steps.{OthersStay, IsSound}
use Rattle.world_semantics.proofs.Moving.{below}
use Rattle.world_semantics.proofs.Stepping.{enabled, happened, starts, stepped}

-- no actor is the mover m
abbrev pub IsNobody : Sizes → ℕ → Type 0
IsNobody z m = (m ≡ 0) ⊎ (z.programs + z.evacuators + z.fetchers < m)

pub record Rests (z : Sizes) (images : ℕ → Image) (w : World) : Type 0 where
  pub hands : (m : ℕ) → IsNobody z m → w.lock.hand m ≡ empty_handed
  pub programs : (k : ℕ) → z.programs ≤ k → w.programs k ≡ begun (images k)

both : (a b : Bool) → (a && b) ≡ true → (a ≡ true) × (b ≡ true)
both true b e = (refl, e)
both false b e = cc

not_mover : (z : Sizes) (who : Actor) (m : ℕ) → is_actor z who ≡ true → IsNobody z m → m ≢ mover_of z who
not_mover z (actor.Program k) m there (inl e) q = let l : k < z.programs = below k z.programs there in absurd (omega arith)
not_mover z (actor.Program k) m there (inr b) q = let l : k < z.programs = below k z.programs there in absurd (omega arith)
not_mover z (actor.Evacuator k) m there (inl e) q = let l : k < z.evacuators = below k z.evacuators there in absurd (omega arith)
not_mover z (actor.Evacuator k) m there (inr b) q = let l : k < z.evacuators = below k z.evacuators there in absurd (omega arith)
not_mover z (actor.Fetcher k) m there (inl e) q = let l : k < z.fetchers = below k z.fetchers there in absurd (omega arith)
not_mover z (actor.Fetcher k) m there (inr b) q = let l : k < z.fetchers = below k z.fetchers there in absurd (omega arith)

program_stays : (z : Sizes) (who : Actor) (w u : World) (k : ℕ) → is_actor z who ≡ true → OthersStay w u who → z.programs ≤ k → u.programs k ≡ w.programs k
program_stays z (actor.Program j) w u k there stay b = let l : j < z.programs = below j z.programs there in stay.0 k (λ e. absurd (omega arith))
program_stays z (actor.Evacuator j) w u k there stay b = ap (λ (ps : ℕ → Program). ps k) stay.1
program_stays z (actor.Fetcher j) w u k there stay b = ap (λ (ps : ℕ → Program). ps k) stay.1

pub rests_on : (h : Type 0) (z : Sizes) (images : ℕ → Image) (w u : World) (e : Event) → event z images w e ≡ Some u → (h → IsHonest z w e.actor e.answer) → IsSound h z w → Rests z images w → Rests z images u
rests_on h z images w u e is honest sound rests =
    let there = (both (is_actor z e.actor) _ (enabled (is_actor z e.actor && in_range z e.choice) (acted z images w e.actor e.choice e.answer) u is).0).0 in
    let step = stepped h z images w u e is honest sound in
    record {
      hands = λ m nobody. step.hands m (not_mover z e.actor m there nobody) ∙ rests.hands m nobody;
      programs = λ k b. program_stays z e.actor w u k there step.others b ∙ rests.programs k b;
    }

resting : (h : Type 0) (z : Sizes) (images : ℕ → Image) (w v : World) (es : List Event) → Follows h z images w es v → IsSound h z w → Rests z images w → Rests z images v
resting h z images w v [] f sound rests = subst (Rests z images) (sym f) rests
resting h z images w v (e ∷ es) f sound rests = resting h z images f.0 v es f.3 (happened h z images w f.0 e f.1 f.2 sound).sound (rests_on h z images w f.0 e f.1 f.2 sound rests)

pub rests_first : (z : Sizes) (images : ℕ → Image) → Rests z images (start images)
rests_first z images = record { hands = λ m nobody. refl; programs = λ k b. refl }

-- in every world that is reached
pub reached_rests : (h : Type 0) (z : Sizes) (images : ℕ → Image) (events : List Event) (v : World) → Follows h z images (start images) events v → Rests z images v
reached_rests h z images events v f = resting h z images (start images) v events f (starts h z images) (rests_first z images)
