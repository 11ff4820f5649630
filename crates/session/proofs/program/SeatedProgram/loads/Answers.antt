use Rattle.std.proofs.Common.{◌∙◌, ℕ, ap}
use Rattle.session.specs.Performing.{done_with}
use Rattle.session.specs.State.{Logged, State, latest_in}
use Rattle.session.proofs.Laws.{Laws}
use Rattle.session.proofs.Ways.{load_held, load_low, load_may, loaded_from, loads_cell, moves_loaded, object_is, plan_stays, safe_loaded}
use Rattle.session.proofs.program.SeatedProgram.loads.Goals as goal

pub held-hold-requires-clause-held : goal.held-hold-requires-clause-held
held-hold-requires-clause-held g c κs within =
    let laws : Laws = record { tidy = c.effect_laws.ensures.tidy; tracked = c.effect_laws.ensures.tracked; waits = c.effect_laws.ensures.waits; ends = c.effect_laws.ensures.ends } in
    load_held laws c.args.self.now.state c.args.scope c.args.cell c.requires.safe c.requires.next

pub load_cell-value-requires-clause-low : goal.load_cell-value-requires-clause-low
load_cell-value-requires-clause-low g c κs within =
    load_low c.args.self.now.state c.args.scope c.held-hold.result c.args.cell.index _ c.requires.safe.holding c.held-hold.ensures c.place-index.ensures

pub load_cell-value-requires-clause-hold : goal.load_cell-value-requires-clause-hold
load_cell-value-requires-clause-hold g c κs within =
    load_may c.args.self.now.state c.args.scope c.held-hold.result c.requires.safe.holding c.held-hold.ensures

pub returns-clause-safe : goal.returns-clause-safe
returns-clause-safe g c =
    let laws : Laws = record { tidy = c.effect_laws.ensures.tidy; tracked = c.effect_laws.ensures.tracked; waits = c.effect_laws.ensures.waits; ends = c.effect_laws.ensures.ends } in
    safe_loaded laws c.args.self.now.state c.carry_out.new.self.state c.args.scope c.args.cell c.load_cell-value.result c.requires.safe c.requires.next (loaded_from c.args.self.now.state c.load_cell-value.new.self.state c.carry_out.new.self.state c.load_cell-value.result (ap (λ (x : Logged). x.state) c.load_cell-value.ensures.same) (ap (λ (x : Logged). x.state) c.carry_out.ensures))

pub returns-clause-moves : goal.returns-clause-moves
returns-clause-moves g c =
    let laws : Laws = record { tidy = c.effect_laws.ensures.tidy; tracked = c.effect_laws.ensures.tracked; waits = c.effect_laws.ensures.waits; ends = c.effect_laws.ensures.ends } in
    moves_loaded g.S.RawStore.honest laws c.args.self.now.state c.carry_out.new.self.state c.args.scope c.args.cell c.load_cell-value.result _ c.held-hold.result c.requires.safe c.requires.next c.held-hold.ensures c.place-index.ensures c.load_cell-value.ensures.value (loaded_from c.args.self.now.state c.load_cell-value.new.self.state c.carry_out.new.self.state c.load_cell-value.result (ap (λ (x : Logged). x.state) c.load_cell-value.ensures.same) (ap (λ (x : Logged). x.state) c.carry_out.ensures))

pub carry_out-requires-clause-plan : goal.carry_out-requires-clause-plan
carry_out-requires-clause-plan g c κs within =
    let e = (ap (λ (x : Logged). x.state) c.load_cell-value.ensures.same) in plan_stays c.args.plan c.args.self.now.state c.load_cell-value.new.self.state (ap (λ (x : State). x.image) e) (ap (λ (x : State). x.core) e) c.requires.plan

pub returns-clause-performed : goal.returns-clause-performed
returns-clause-performed g c =
    let laws : Laws = record { tidy = c.effect_laws.ensures.tidy; tracked = c.effect_laws.ensures.tracked; waits = c.effect_laws.ensures.waits; ends = c.effect_laws.ensures.ends } in
    let h = c.held-hold.result in (
      h,
      c.held-hold.ensures,
      object_is c.args.self.now.state c.args.scope c.args.cell h c.requires.safe (loads_cell laws c.args.self.now.state c.args.scope c.args.cell c.requires.safe c.requires.next) c.held-hold.ensures,
      (c.load_cell-value.result, (λ q. c.load_cell-value.ensures.value q ∙ ap (λ (i : ℕ). latest_in c.args.self.now.state.view h.object i) c.place-index.ensures), c.carry_out.ensures ∙ ap (λ (x : Logged). done_with x c.load_cell-value.result) c.load_cell-value.ensures.same),
    )
