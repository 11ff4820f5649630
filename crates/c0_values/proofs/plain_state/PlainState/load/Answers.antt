use Rattle.std.proofs.Common.{◌≤◌, subst, length}
use Rattle.c0_values.proofs.Heaps.{load_past}
use Rattle.c0_values.proofs.plain_state.PlainState.load.Goals as goal

pub returns-in-None : goal.returns-in-None
returns-in-None c = λ texts.
    let all = c.args.self.now.heap.items in
    let k = c.args.spot.now.index in
    let past : length all ≤ k = subst (λ xs. length xs ≤ k) c.deref.ensures.value c.in-None.ensures.lookup.3 in
    load_past texts all k c.args.spot.now.path.items past
