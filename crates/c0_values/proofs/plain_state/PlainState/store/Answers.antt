use Rattle.std.proofs.Common.{◌≡◌, ◌<◌, ap, ◌∙◌, sym, subst, length, get_or, arith}
use Rattle.c0_typed.specs.Values.{Leaf, with_part_at}
use Rattle.c0_values.specs.PlainStates.{value_of, tree_of, state_of}
use Rattle.c0_values.proofs.Heaps.{store_is}
use Rattle.c0_values.proofs.plain_state.PlainState.store.Goals as goal

pub returns-then-spot-len : goal.returns-then-spot-len
returns-then-spot-len c = λ texts.
    let s = state_of texts c.args.self.now in
    let all = c.args.self.now.heap.items in
    let i = c.args.spot.now.index in
    let path = c.args.spot.now.path.items in
    let x = c.replace-tree.result in
    let here : i < length all = omega (arith, c.if-spot-len.true, c.len.ensures) in
    let is : x ≡ get_or all i x = subst (λ z. z ≡ get_or all i z) (sym c.replace-tree.ensures.value) c.index_mut.ensures.value in
    let made = c.stored.ensures texts ∙ ap (λ q. with_part_at q (Leaf (value_of texts c.args.value)) (tree_of texts x)) c.deref.ensures.value in
    ap (λ ts. record s { heap = ts }) (store_is texts all i path x c.replace-tree.new.dest c.stored.result c.args.value here is made)
