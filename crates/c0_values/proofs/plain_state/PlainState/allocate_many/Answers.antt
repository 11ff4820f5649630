use Rattle.std.proofs.Common.{◌≡◌, [], ap, ◌∙◌, sym, subst, map, Some, rules}
use Rattle.c0_typed.specs.Values.{Node, Tree, copies}
use Rattle.c0_typed.specs.Meaning.{Outcome, allocate, allocate_array, default, struct_defaults}
use Rattle.c0_typed.specs.Values as v
use Rattle.c0_typed.specs.Views.{struct_of, type_of}
use Rattle.c0_values.specs.PlainStates.{Agrees, natural, tree_of, value_of, state_of}
use Rattle.c0_values.proofs.Heaps.{is_natural}
use Rattle.c0_values.proofs.Parts.{tree_node}
use Rattle.c0_values.proofs.plain_state.PlainState.allocate_many.Goals as goal

pub returns : goal.returns
returns c = λ texts.
    let n = c.in-Some.count in
    let z = v.as_number (value_of texts c.args.count) in
    let there : Some n ≡ natural z = search rules in
    let held : Tree = default (struct_defaults [] (map struct_of c.args.structs.now)) (type_of c.args.ty.now) in
    let s = state_of texts c.args.self.now in
    let elements = c.in-Some-copies.elements in
    let one : tree_of texts c.in-Some-default_tree.tree ≡ held = c.in-Some-default_tree.ensures texts in
    let made = tree_node texts elements ∙ ap Node (c.in-Some-copies.ensures texts ∙ ap (copies n) one) in
    let whole = ap (λ t. allocate t s) made ∙ ap (λ y. allocate_array held y s) (sym (is_natural z n there)) in
    subst (λ (o : Outcome v.Value). Agrees (value_of texts) c.allocate.result o (state_of texts c.allocate.new.self)) whole (c.allocate.ensures texts)
