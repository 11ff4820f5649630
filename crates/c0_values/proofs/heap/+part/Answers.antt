use Rattle.std.proofs.Common.{◌≡◌, ap, ◌∙◌, sym, subst, ◌<◌, ◌≤◌, length, get_or}
use Rattle.c0_typed.specs.Values as v
use Rattle.c0_values.proofs.Parts.{void_at, load_leaf, load_node, part_is, part_past}
use Rattle.c0_values.proofs.heap.+part.Goals as goal

pub returns-in-Leaf-tree : goal.returns-in-Leaf-tree
returns-in-Leaf-tree t c = λ texts.
    sym (load_leaf texts c.args.path.now c.in-Some.rest.now c.in-Some.k.now c.args.tree.now c.in-Leaf-tree.field-0 c.in-Some.ensures.cases.0 c.in-Leaf-tree.is)

pub returns-in-Some-get : goal.returns-in-Some-get
returns-in-Some-get t c = λ texts.
    let found = c.in-Some-get.ensures.lookup.3 in
    let all = c.in-Node-tree.parts.items in
    let k = c.in-Some.k.now in
    let x = c.in-Some-get.inner.now in
    let here : k < length all = subst (λ xs. k < length xs) c.deref.ensures.value found.0 in
    let is : x ≡ get_or all k x = found.1 x ∙ ap (λ xs. get_or xs k x) c.deref.ensures.value in
    c.part.ensures texts ∙ sym (load_node texts c.args.path.now c.in-Some.rest.now k c.args.tree.now c.in-Node-tree.parts c.in-Some.ensures.cases.0 c.in-Node-tree.is ∙ ap (λ y. v.leaf (v.part_at c.in-Some.rest.now y)) (part_is texts all k x here is))

pub returns-in-None : goal.returns-in-None
returns-in-None t c = λ texts.
    let all = c.in-Node-tree.parts.items in
    let k = c.in-Some.k.now in
    let past : length all ≤ k = subst (λ xs. length xs ≤ k) c.deref.ensures.value c.in-None.ensures.lookup.3 in
    sym (load_node texts c.args.path.now c.in-Some.rest.now k c.args.tree.now c.in-Node-tree.parts c.in-Some.ensures.cases.0 c.in-Node-tree.is ∙ ap (λ y. v.leaf (v.part_at c.in-Some.rest.now y)) (part_past texts all k past) ∙ void_at c.in-Some.rest.now)
