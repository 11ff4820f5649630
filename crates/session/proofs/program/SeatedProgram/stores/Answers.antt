use Rattle.std.proofs.Common.{◌%◌, List, ap, subst, sym}
use Rattle.object_lock.specs.Logs.{Deed}
use Rattle.session.specs.Performing.{StoreLogged}
use Rattle.session.specs.State.{Logged, State}
use Rattle.session.proofs.Laws.{Laws}
use Rattle.session.proofs.Performing.{stored_exactly, stored_logged}
use Rattle.session.proofs.Ways.{moves_stored, object_is, plan_stays, safe_stored, scope_low, store_held, store_low, store_may, stores_cell}
use Rattle.session.proofs.program.SeatedProgram.stores.Goals as goal

pub held-hold-requires-clause-held : goal.held-hold-requires-clause-held
held-hold-requires-clause-held g c κs within =
    let laws : Laws = record { tidy = c.effect_laws.ensures.tidy; tracked = c.effect_laws.ensures.tracked; waits = c.effect_laws.ensures.waits; ends = c.effect_laws.ensures.ends } in
    store_held laws c.args.self.now.state c.args.scope c.args.cell c.args.value c.requires.safe c.requires.next

pub store_cell-requires-clause-low : goal.store_cell-requires-clause-low
store_cell-requires-clause-low g c κs within =
    store_low c.make_writable.new.self.state c.args.scope c.held-hold.result c.args.cell.index _ c.make_writable.ensures.holding c.make_writable.ensures.writer c.place-index.ensures

pub store_cell-requires-clause-hold : goal.store_cell-requires-clause-hold
store_cell-requires-clause-hold g c κs within =
    store_may c.make_writable.new.self.state c.args.scope c.held-hold.result c.make_writable.ensures.holding c.make_writable.ensures.writer

pub returns-clause-safe : goal.returns-clause-safe
returns-clause-safe g c =
    let laws : Laws = record { tidy = c.effect_laws.ensures.tidy; tracked = c.effect_laws.ensures.tracked; waits = c.effect_laws.ensures.waits; ends = c.effect_laws.ensures.ends } in
    safe_stored laws c.args.self.now.state c.make_writable.new.self.state c.store_cell.new.self.state c.carry_out.new.self.state c.args.scope c.args.cell c.args.value _ c.held-hold.result c.requires.safe c.requires.next (scope_low c.args.self.now.state c.args.scope c.requires.safe.holding c.requires.next.within.0) c.held-hold.ensures c.make_writable.ensures.holding c.make_writable.ensures.changes c.make_writable.ensures.writer c.store_cell.ensures.written (ap (λ (x : Logged). x.state) c.carry_out.ensures)

pub returns-clause-moves : goal.returns-clause-moves
returns-clause-moves g c =
    let laws : Laws = record { tidy = c.effect_laws.ensures.tidy; tracked = c.effect_laws.ensures.tracked; waits = c.effect_laws.ensures.waits; ends = c.effect_laws.ensures.ends } in
    moves_stored g.S.RawStore.honest laws c.args.self.now.state c.make_writable.new.self.state c.store_cell.new.self.state c.carry_out.new.self.state c.args.scope c.args.cell c.args.value _ c.held-hold.result c.requires.safe c.requires.next c.held-hold.ensures c.make_writable.ensures.holding c.make_writable.ensures.changes c.make_writable.ensures.writer c.place-index.ensures c.store_cell.ensures.written (ap (λ (x : Logged). x.state) c.carry_out.ensures)

pub carry_out-requires-clause-plan : goal.carry_out-requires-clause-plan
carry_out-requires-clause-plan g c κs within =
    let t = c.make_writable.ensures.changes in
    let e = c.store_cell.ensures.written in
    let before = plan_stays c.args.plan c.args.self.now.state c.make_writable.new.self.state t.image t.core c.requires.plan in
    plan_stays c.args.plan c.make_writable.new.self.state c.store_cell.new.self.state (ap (λ (x : State). x.image) e) (ap (λ (x : State). x.core) e) before

pub returns-clause-performed : goal.returns-clause-performed
returns-clause-performed g c =
    let laws : Laws = record { tidy = c.effect_laws.ensures.tidy; tracked = c.effect_laws.ensures.tracked; waits = c.effect_laws.ensures.waits; ends = c.effect_laws.ensures.ends } in
    let s = c.args.self.now.state in
    let h = c.held-hold.result in (
      h,
      c.held-hold.ensures,
      object_is s c.args.scope c.args.cell h c.requires.safe (stores_cell laws s c.args.scope c.args.cell c.args.value c.requires.safe c.requires.next) c.held-hold.ensures,
      stored_exactly s c.make_writable.new.self.state c.store_cell.new.self.state c.carry_out.new.self.state c.args.scope h c.args.cell.index _ c.args.value c.make_writable.ensures.exact c.make_writable.ensures.changes c.place-index.ensures c.store_cell.ensures.written (ap (λ (x : Logged). x.state) c.carry_out.ensures),
      subst (λ (l : List Deed). StoreLogged s h (c.args.cell.index % s.view.sizes.cells) c.args.value c.args.self.now.log l) (sym (ap (λ (x : Logged). x.log) c.carry_out.ensures))
          (stored_logged s c.make_writable.new.self.state c.args.scope h c.args.cell.index _ c.args.value c.args.self.now.log c.make_writable.new.self.log c.store_cell.new.self.log c.make_writable.ensures.changes c.place-index.ensures c.make_writable.ensures.logged c.store_cell.ensures.logged),
    )
