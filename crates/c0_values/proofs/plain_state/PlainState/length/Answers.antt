use Rattle.std.proofs.Common.{◌≡◌, ◌<◌, ◌-◌, ap, ◌∙◌, subst, length, get_or}
use Rattle.c0_values.proofs.Heaps.{length_is}
use Rattle.c0_values.proofs.plain_state.PlainState.length.Goals as goal

pub returns-in-Some : goal.returns-in-Some
returns-in-Some c = λ texts.
    let found = c.in-Some.ensures.lookup.3 in
    let all = c.args.self.now.heap.items in
    let k = c.args.array - 1 in
    let x = c.in-Some.tree.now in
    let here : k < length all = subst (λ xs. k < length xs) c.deref.ensures.value found.0 in
    let is : x ≡ get_or all k x = found.1 x ∙ ap (λ xs. get_or xs k x) c.deref.ensures.value in
    c.part_count.ensures texts ∙ length_is texts all c.args.array x c.if-array-eq0.false here is
