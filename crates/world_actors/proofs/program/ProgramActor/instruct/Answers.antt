use Rattle.std.proofs.Common.{sym, ◌∙◌}
use Rattle.code_form.specs.declared.touch.Touch.TheVariants as touch
use Rattle.world_actors.proofs.Instructed.{goes_turn, leave_turn, next_turn}
use Rattle.world_actors.proofs.program.ProgramActor.instruct.Goals as goal

pub returns-in-Plain : goal.returns-in-Plain
returns-in-Plain g c z s p is =
    let old = c.args.lock.now in
    goes_turn z.cells s _ _ _ _ _ c.go_plain.result (λ a. next_turn g.S.RawStore.content g.S.RawStore.honest z old.memory old.berths c.args.self.now s p is touch.Plain a (sym c.is_blocked.ensures ∙ c.if-is_blocked.false)
    c.in-Plain.ensures.value) (c.go_plain.ensures z s p is)

pub returns-in-Hints : goal.returns-in-Hints
returns-in-Hints g c z s p is =
    let old = c.args.lock.now in
    goes_turn z.cells s _ _ _ _ _ c.complete.result (λ a. next_turn g.S.RawStore.content g.S.RawStore.honest z old.memory old.berths c.args.self.now s p is _ a (sym c.is_blocked.ensures ∙ c.if-is_blocked.false)
    c.in-Hints.ensures.value) (c.complete.ensures z s p is)

pub returns-in-Aims : goal.returns-in-Aims
returns-in-Aims g c z s p is =
    let old = c.args.lock.now in
    goes_turn z.cells s _ _ _ _ _ c.aim.result (λ a. next_turn g.S.RawStore.content g.S.RawStore.honest z old.memory old.berths c.args.self.now s p is (touch.Aims c.in-Aims.scope c.in-Aims.wanted) a (sym c.is_blocked.ensures ∙ c.if-is_blocked.false)
    c.in-Aims.ensures.value) (c.aim.ensures z s p is)

pub returns-in-Loads : goal.returns-in-Loads
returns-in-Loads g c z s p is =
    let old = c.args.lock.now in
    goes_turn z.cells s _ _ _ _ _ c.load_cell.result (λ a. next_turn g.S.RawStore.content g.S.RawStore.honest z old.memory old.berths c.args.self.now s p is (touch.Loads c.in-Loads.scope c.in-Loads.cell) a (sym c.is_blocked.ensures ∙ c.if-is_blocked.false)
    c.in-Loads.ensures.value) (c.load_cell.ensures z s p is)

pub returns-in-Stores : goal.returns-in-Stores
returns-in-Stores g c z s p is =
    let old = c.args.lock.now in
    goes_turn z.cells s _ _ _ _ _ c.store_cell.result (λ a. next_turn g.S.RawStore.content g.S.RawStore.honest z old.memory old.berths c.args.self.now s p is (touch.Stores c.in-Stores.scope c.in-Stores.cell c.in-Stores.value) a (sym c.is_blocked.ensures ∙ c.if-is_blocked.false)
    c.in-Stores.ensures.value) (c.store_cell.ensures z s p is)

pub returns-in-Allocs : goal.returns-in-Allocs
returns-in-Allocs g c z s p is =
    let old = c.args.lock.now in
    goes_turn z.cells s _ _ _ _ _ c.allocate.result (λ a. next_turn g.S.RawStore.content g.S.RawStore.honest z old.memory old.berths c.args.self.now s p is (touch.Allocs c.in-Allocs.cells) a (sym c.is_blocked.ensures ∙ c.if-is_blocked.false)
    c.in-Allocs.ensures.value) (c.allocate.ensures z s p is)

pub returns-in-Ends : goal.returns-in-Ends
returns-in-Ends g c z s p is =
    let old = c.args.lock.now in
    goes_turn z.cells s _ _ _ _ _ c.end.result (λ a. next_turn g.S.RawStore.content g.S.RawStore.honest z old.memory old.berths c.args.self.now s p is touch.Ends a (sym c.is_blocked.ensures ∙ c.if-is_blocked.false)
    c.in-Ends.ensures.value) (c.end.ensures z s p is)

pub returns-in-Leaves : goal.returns-in-Leaves
returns-in-Leaves g c z s p is =
    let old = c.args.lock.now in
    goes_turn z.cells s _ _ _ _ _ c.leave.result (λ a. next_turn g.S.RawStore.content g.S.RawStore.honest z old.memory old.berths c.args.self.now s p is (touch.Leaves c.in-Leaves.scope) a (sym c.is_blocked.ensures ∙ c.if-is_blocked.false)
    c.in-Leaves.ensures.value ∙ leave_turn g.S.RawStore.content g.S.RawStore.honest z old.memory old.berths c.args.self.now s p is c.in-Leaves.scope a) (c.leave.ensures z s p is)
