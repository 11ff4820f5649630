use Rattle.std.proofs.Common.{◌≡◌, ◌≤◌, ◌<◌, [], ap, ◌∙◌, sym, map, take, length, get_or, arith}
use Rattle.std.proofs.lemmas.List.{take_all}
use Rattle.c0_typed.specs.Values.{Node}
use Rattle.c0_typed.specs.Meaning.{default, struct_defaults}
use Rattle.c0_typed.specs.Views.{plain_of, struct_of, type_of}
use Rattle.c0_values.specs.PlainStates.{parts_in_order}
use Rattle.c0_values.proofs.Parts.{fields_are, struct_holds, struct_past, tree_node}
use Rattle.c0_values.proofs.heap.+default_tree.Goals as goal

pub returns-in_default-get : goal.returns-in_default-get
returns-in_default-get t c = λ texts.
    let structs = c.args.structs.now in
    let past : length structs ≤ c.in-Struct.number = c.in_default-get.ensures.lookup.3 in
    sym (ap (λ ty. default (struct_defaults [] (map struct_of structs)) (type_of ty)) c.in-Plain.is ∙ ap (λ x. default (struct_defaults [] (map struct_of structs)) (plain_of x)) c.in-Struct.is ∙ struct_past structs c.in-Struct.number past)

pub returns : goal.returns
returns t c = λ texts.
    let structs = c.args.structs.now in
    let k = c.in-Struct.number in
    let one = c.in-Some.one.now in
    let found = c.in-Some.ensures.lookup.3 in
    let here : k < length structs = found.0 in
    let is : one ≡ get_or structs k one = found.1 one in
    let before = struct_defaults [] (map struct_of (take k structs)) in
    let xs = c.deref-field-items.result.now in
    let i = c.loop-field.field-index in
    let end : length xs ≤ i = omega (arith, c.loop-field-test.false) in
    tree_node texts c.loop-field.all
    ∙ ap (λ ts. Node (parts_in_order ts)) (c.loop-field.invariant texts ∙ ap (λ ts. map (default before) (map type_of ts)) (take_all i xs end ∙ c.deref-field-items.ensures.value))
    ∙ ap Node (sym (fields_are before (struct_of one)))
    ∙ sym (ap (λ ty. default (struct_defaults [] (map struct_of structs)) (type_of ty)) c.in-Plain.is ∙ ap (λ x. default (struct_defaults [] (map struct_of structs)) (plain_of x)) c.in-Struct.is ∙ struct_holds structs k one here is)
