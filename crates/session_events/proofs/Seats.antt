-- What all seats of a table did, as one list of events of a world.
use Rattle.std.proofs.Common.{◌≡◌, ℕ, suc, ◌+◌, ◌<◌, ◌≤◌, List, inl, sym, ap, ◌∙◌, subst, arith}
use mathlib.Core.Option.{some}
use lib.ListN.{get_elem?}
use Rattle.atomic_table.proofs.Lists.{at_map}
use Rattle.atomic_table.specs.Seated.{TableId}
use Rattle.atomic_table.specs.Table.{State as Table}
use Rattle.code_form.specs.Form.{Image}
use Rattle.pointer_word.specs.Calls.{Runs}
use Rattle.pointer_word.specs.Machine.{State, opening}
use Rattle.object_lock.specs.Logs.{AreOwn, AreOwners, Deed, Follows, Seated, calls_of, log_of}
use Rattle.object_lock.specs.OneList.{HasOneList}
use Rattle.object_lock.specs.Rule.{LoggedRule}
use Rattle.object_lock.specs.Seats.{Owns, Sizes, View}
use Rattle.object_lock.proofs.Reached.{all_parts}
use Rattle.program_run.specs.Acting.{session_begun}
use Rattle.world_semantics.specs.Programs.{Program, Setting, begun}
use Rattle.world_semantics.specs.Worlds as worlds
use Rattle.world_semantics.specs.Worlds.{setting}
use Rattle.mover_events.specs.Parts.{kept_at}
use Rattle.mover_events.proofs.Placed.{nothing_kept, rounds_placed, services_placed}
use Rattle.session_events.specs.Knowing.{IsOwn}
use Rattle.session_events.specs.Laws.{program_of, setting_of, unused}
use Rattle.session_events.specs.Listed.{MakesOwn}
use Rattle.session_events.specs.OneWorld.{HasRunAs, SeatsAreAWorld, world_sizes}
use Rattle.session_events.proofs.Instructions.{same_setting}
use Rattle.session_events.proofs.Merging.{one_world}
use Rattle.session_events.proofs.Placing.{placed}

module _ (reliable honest : Type 0) (sure : honest) (z : Sizes) (wz : worlds.Sizes) (images : ℕ → Image) (owner : ℕ → ℕ) (steps : List (ℕ × Deed)) (t : State) (narrow : z.frames ≤ 1048576)
    (follows : Follows z opening steps t) (runs : Runs honest z.cells opening (calls_of steps) t) (own : AreOwn z steps) (owners : AreOwners owner steps) where
  -- what the seat of a program knew at first
  module _ (k : ℕ) (seat : Seated) (q : Program) (has : HasRunAs honest reliable z wz images k seat q) where
    first : View
    first = has.acted.0

    setting_first : setting_of (session_begun has.session.state.table (images k) has.acted.0).state ≡ setting wz images k
    setting_first = sym (same_setting (session_begun has.session.state.table (images k) has.acted.0).state has.session.state has.acted.2) ∙ has.setting_is

    sizes_first : has.acted.0.sizes ≡ z
    sizes_first = sym (ap (λ (v : TableId × View). v.1.sizes) has.acted.2.3) ∙ has.sizes

    -- the objects of a program are those of its seat
    owns_so : (o : ℕ) → Owns has.acted.0 o → Owns seat.view o
    owns_so o mine =
        let low : has.session.state.view.low ≡ has.acted.0.low = has.acted.2.1 in let high : has.session.state.view.high ≡ has.acted.0.high = has.acted.2.2 in
        subst (λ (v : Seated). Owns v.view o) (sym has.seated) (let a = mine.0 in let b = mine.1 in (omega arith, omega arith))

    pub made_by : suc k < 65536 → ((o : ℕ) → Owns seat.view o → owner o ≡ k) → seat.log ≡ log_of k steps → MakesOwn reliable honest z (setting wz images k) unused (begun (images k)) (kept_at k opening steps) q
    made_by low owned log =
        let v : View = has.acted.0 in let e : z ≡ v.sizes = sym sizes_first in
        let number : v.number ≡ suc k = ap (λ (g : Setting). g.mover) setting_first in
        let made = placed reliable honest owner k steps t (images k) v has.session has.run sure (subst (λ (y : Sizes). y.frames ≤ 1048576) e narrow) low number has.acted.1 (λ o mine. owned o (owns_so o mine))
        (subst (λ (y : Sizes). Follows y opening steps t) e follows) (subst (λ (y : Sizes). Runs honest y.cells opening (calls_of steps) t) e runs) (subst (λ (y : Sizes). AreOwn y steps) e own) owners has.acted.3 has.stored has.told
        (sym (ap (λ (y : Seated). y.log) has.seated) ∙ log) in
        subst (λ (p : Program). MakesOwn reliable honest z (setting wz images k) unused (begun (images k)) (kept_at k opening steps) p) has.at
        (subst (λ (g : Setting). MakesOwn reliable honest z g unused (begun (images k)) (kept_at k opening steps) (program_of has.session.state)) setting_first
        (subst (λ (y : Sizes). MakesOwn reliable honest y (setting_of (session_begun has.session.state.table (images k) v).state) unused (begun (images k)) (kept_at k opening steps) (program_of has.session.state)) (sym e) made))

    -- which are those of the program of a world
    pub mine_by : ((o : ℕ) → Owns seat.view o → owner o ≡ k) → (o : ℕ) → IsOwn (setting wz images k) o → owner o ≡ k
    mine_by owned o mine = owned o (owns_so o (subst (λ (g : Setting). IsOwn g o) (sym setting_first) mine))

pub seats_are : {S : Type 0} (kept : S → ℕ → List ℕ → Type 0) (there : S → Type 0) (honest reliable : Type 0) → SeatsAreAWorld kept there honest reliable
seats_are {S} kept there honest reliable z s programs evacuators fetchers images ends sure served rule seats =
    let h : HasOneList honest z s = all_parts kept there honest z s rule in
    let narrow = rule.rule.framed in let wz : worlds.Sizes = world_sizes z programs evacuators fetchers in
    let low : (j : ℕ) (v : Seated) → get_elem? s.views j ≡ some v → suc j < 65536 = manned z s rule in (
      h.machine,
      h.words,
      one_world reliable honest z programs evacuators fetchers images ends h.owner h.steps h.machine served h.follows h.led h.own h.owners
          (λ k o few mine. let p = seats.of_programs k few in mine_by reliable honest sure z wz images h.owner h.steps h.machine narrow h.follows h.led h.own h.owners k p.0 (ends k) p.2 (h.owned k p.0 p.1) o mine)
          (record {
            by_programs = λ k few.
                let p = seats.of_programs k few in
                made_by reliable honest sure z wz images h.owner h.steps h.machine narrow h.follows h.led h.own h.owners k p.0 (ends k) p.2 (low k p.0 p.1) (h.owned k p.0 p.1) (h.logs k p.0 p.1);
            by_evacuators = λ k few.
                let p = seats.of_evacuators k few in
                rounds_placed reliable honest z (programs + k) h.steps h.machine p.2.0 narrow (low (programs + k) p.0 p.1) h.follows h.led h.own (p.2.1 ∙ h.logs (programs + k) p.0 p.1) p.2.2;
            by_fetchers = λ k few.
                let p = seats.of_fetchers k few in
                services_placed reliable honest z (programs + evacuators + k) h.steps h.machine p.2.0 sure h.follows h.led h.own (p.2.1 ∙ h.logs (programs + evacuators + k) p.0 p.1) p.2.2 (inl served);
            by_others = λ j many. nothing_kept honest z j h.steps h.machine h.follows h.led h.own (h.none j (let few = seats.of_nobody in omega arith));
          }),
    )
  where
    manned : (y : Sizes) (x : Table S Seated) → LoggedRule kept there honest y x → (j : ℕ) (v : Seated) → get_elem? x.views j ≡ some v → suc j < 65536
    manned y x r j v at = r.rule.manned j v.view (at_map (λ (u : Seated). u.view) x.views j v at)
