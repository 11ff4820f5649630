use Rattle.std.proofs.Common.{◌≡◌, ◌≤◌, ◌<◌, length, get_or, arith, sym, subst}
use Rattle.c0_typed.specs.Values as v
use Rattle.c0_values.specs.PlainStates.{value_of}
use Rattle.std.specs.Vec.{with_item}
use Rattle.c0_values.proofs.Parts.{store_node, store_past, set_twice}
use Rattle.c0_values.proofs.heap.+stored.Goals as goal

pub returns-then-k-len : goal.returns-then-k-len
returns-then-k-len t c = λ texts.
    let past : length c.in-Node.parts.items ≤ c.in-Some.k.now = omega (arith, c.if-k-len.true, c.len.ensures) in
    store_past texts c.args.path.now c.in-Some.rest.now c.in-Some.k.now c.args.tree c.in-Node.parts (v.Leaf (value_of texts c.args.value)) c.in-Some.ensures.cases.0 c.in-Node.is past

pub returns-else-k-len : goal.returns-else-k-len
returns-else-k-len t c = λ texts.
    let all = c.in-Node.parts in
    let k = c.in-Some.k.now in
    let inner = c.replace-inner.result in
    let here : k < length all.items = omega (arith, c.if-k-len.false, c.len.ensures) in
    let is : inner ≡ get_or all.items k inner = subst (λ z. z ≡ get_or all.items k z) (sym c.replace-inner.ensures.value) c.index_mut.ensures.value in
    store_node texts c.args.path.now c.in-Some.rest.now k c.args.tree inner c.stored.result all (with_item (with_item all k c.replace-inner.new.dest) k c.stored.result) (v.Leaf (value_of texts c.args.value)) c.in-Some.ensures.cases.0 c.in-Node.is here is (c.stored.ensures texts) (set_twice all.items k c.replace-inner.new.dest c.stored.result)
