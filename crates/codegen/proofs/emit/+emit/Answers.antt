use Rattle.std.proofs.Common.{◌≡◌, ◌<◌, ◌+◌, ◌-◌, ◌++◌, ◌∙◌, ap, arith, drop, length, rules, sym, vec_len}
use Rattle.std.proofs.lemmas.Result.{IfOk-weaker}
use Rattle.middle_form.specs.Scoped as m
use Rattle.middle_form.specs.ScopedViews.{scoped_code_of, scoped_sequence_of}
use Rattle.codegen.specs.Building.{back, backs, exits_of}
use Rattle.codegen.specs.Generated.{extra, first}
use Rattle.codegen.proofs.Emits.{backs_set, choose_added, choose_first, head_inside, length_backs, loop_added, then_added, then_first}
use Rattle.scoped_building.proofs.Rows.{sequence_is}
use Rattle.codegen.proofs.Rows.{sequence_at}
use Rattle.codegen.proofs.emit.+emit.Goals as goal

pub loop-i-preserved : goal.loop-i-preserved
loop-i-preserved t c =
    let i = c.loop-i.i in
    let parts = c.in-Sequence.parts in
    let part = c.index.result.now in
    let rest = scoped_sequence_of (drop i parts.items) in
    let long : vec_len parts ≡ length parts.items = search rules in
    let there : i - 1 < length parts.items = omega arith in
    let again : i - 1 + 1 ≡ i = omega arith in
    let is : scoped_sequence_of (drop (i - 1) parts.items) ≡ m.Then (scoped_code_of part) rest = sequence_at parts.items (i - 1) part there c.index.ensures ∙ ap (λ k. m.Then (scoped_code_of part) (scoped_sequence_of (drop k parts.items))) again in (
      then_first _ (scoped_code_of part) rest _ _ _ _ _ _ is c.loop-i.invariant.0 c.loop-i.invariant.1 c.in_ok-next-in-Sequence.ensures.instructions,
      then_added _ (scoped_code_of part) rest _ _ _ _ _ _ is c.loop-i.invariant.0 c.loop-i.invariant.1 c.in_ok-next-in-Sequence.ensures.added,
    )

pub returns-after-loop-i-clause-instructions : goal.returns-after-loop-i-clause-instructions
returns-after-loop-i-clause-instructions t c =
    let parts = c.in-Sequence.parts in
    let none : c.loop-i.i ≡ 0 = omega arith in
    let whole : scoped_sequence_of (drop c.loop-i.i parts.items) ≡ scoped_code_of c.args.code.now = ap (λ k. scoped_sequence_of (drop k parts.items)) none ∙ sym (sequence_is parts) ∙ sym (ap scoped_code_of c.in-Sequence.is) in
    c.loop-i.invariant.0 ∙ ap (λ k. first k (length (backs c.args.blocks.now.items)) (back c.args.next.items) (exits_of c.args.exits.now)) whole

pub returns-after-loop-i-clause-added : goal.returns-after-loop-i-clause-added
returns-after-loop-i-clause-added t c =
    let parts = c.in-Sequence.parts in
    let none : c.loop-i.i ≡ 0 = omega arith in
    let whole : scoped_sequence_of (drop c.loop-i.i parts.items) ≡ scoped_code_of c.args.code.now = ap (λ k. scoped_sequence_of (drop k parts.items)) none ∙ sym (sequence_is parts) ∙ sym (ap scoped_code_of c.in-Sequence.is) in
    c.loop-i.invariant.1 ∙ ap (λ k. backs c.args.blocks.now.items ++ extra k (length (backs c.args.blocks.now.items)) (back c.args.next.items) (exits_of c.args.exits.now)) whole

pub index_mut-requires : goal.index_mut-requires
index_mut-requires t c =
    let blocks = c.emit-in-Loop-2.new.blocks in
    let long : vec_len blocks ≡ length blocks.items = search rules in
    let inside : c.in_ok-head-in-Loop.field-0.number < length (backs blocks.items) =
    head_inside _ _ _ _ _ _ _ _ _ _ _ _ c.in_ok-head-in-Loop.ensures.number c.in_ok-head-in-Loop.ensures.added c.in_ok-out-in-Loop.ensures.added c.in_ok-turn-in-Loop.ensures.added c.in_ok-turn_block-in-Loop.ensures.added c.in_ok-blocks-in-Loop.ensures.added in
    omega (arith, length_backs blocks.items)

pub returns-in_ok-else_block-in-Choose-clause-instructions :
    goal.returns-in_ok-else_block-in-Choose-clause-instructions
returns-in_ok-else_block-in-Choose-clause-instructions t c =
    IfOk-weaker c.branch-alloc.result _ _ (λ v h. choose_first _ (scoped_code_of c.deref.result.now) (scoped_code_of c.deref-in-Choose.result.now) c.in-Choose.condition _ _ _ _ _ _ _ _ _ _ _ _ _ _ _ _ _ _ _
    (ap scoped_code_of c.in-Choose.is ∙ ap (λ x. m.Choose c.in-Choose.condition (scoped_code_of x) (scoped_code_of c.in-Choose.else_code.value)) (sym c.deref.ensures) ∙ ap (λ x. m.Choose c.in-Choose.condition (scoped_code_of c.deref.result.now) (scoped_code_of x)) (sym c.deref-in-Choose.ensures))
    c.in_ok-join-in-Choose.ensures.way c.in_ok-join-in-Choose.ensures.added c.in_ok-go_on-in-Choose.ensures c.in_ok-then_part-in-Choose.ensures.added c.in_ok-then_part-in-Choose.ensures.instructions c.in_ok-then_block-in-Choose.ensures.number c.in_ok-then_block-in-Choose.ensures.way c.in_ok-then_block-in-Choose.ensures.added
    c.in_ok-go_on-in-Choose-2.ensures c.in_ok-else_part-in-Choose.ensures.added c.in_ok-else_part-in-Choose.ensures.instructions c.in_ok-else_block-in-Choose.ensures.number c.in_ok-else_block-in-Choose.ensures.way c.led_to.ensures c.led_to-in-Choose.ensures h)
    c.branch-alloc.ensures

pub returns-in_ok-else_block-in-Choose-clause-added :
    goal.returns-in_ok-else_block-in-Choose-clause-added
returns-in_ok-else_block-in-Choose-clause-added t c =
    IfOk-weaker c.branch-alloc.result _ _ (λ v h. choose_added _ (scoped_code_of c.deref.result.now) (scoped_code_of c.deref-in-Choose.result.now) c.in-Choose.condition _ _ _ _ _ _ _ _ _ _ _ _ _
    (ap scoped_code_of c.in-Choose.is ∙ ap (λ x. m.Choose c.in-Choose.condition (scoped_code_of x) (scoped_code_of c.in-Choose.else_code.value)) (sym c.deref.ensures) ∙ ap (λ x. m.Choose c.in-Choose.condition (scoped_code_of c.deref.result.now) (scoped_code_of x)) (sym c.deref-in-Choose.ensures))
    c.in_ok-join-in-Choose.ensures.way c.in_ok-join-in-Choose.ensures.added c.in_ok-go_on-in-Choose.ensures c.in_ok-then_part-in-Choose.ensures.added c.in_ok-then_part-in-Choose.ensures.instructions c.in_ok-then_block-in-Choose.ensures.added
    c.in_ok-go_on-in-Choose-2.ensures c.in_ok-else_part-in-Choose.ensures.added c.in_ok-else_part-in-Choose.ensures.instructions c.in_ok-else_block-in-Choose.ensures.added)
    c.branch-alloc.ensures

pub returns-in_ok-blocks-in-Loop-clause-added : goal.returns-in_ok-blocks-in-Loop-clause-added
returns-in_ok-blocks-in-Loop-clause-added t c =
    IfOk-weaker c.jump-in-Loop.result _ _ (λ v h. backs_set c.emit-in-Loop-2.new.blocks.items c.in_ok-head-in-Loop.field-0.number c.in_ok-blocks-in-Loop.field-0
    ∙ loop_added _ (scoped_code_of c.deref-in-Loop.result.now) (scoped_code_of c.deref-in-Loop-2.result.now) c.in-Loop.condition _ _ _ _ _ _ _ _ _ _ _ _ _ _ _ _ _ _ _ _
    (ap scoped_code_of c.in-Loop.is ∙ ap (λ x. m.Loop (scoped_code_of c.in-Loop.test.value) c.in-Loop.condition (scoped_code_of x)) (sym c.deref-in-Loop.ensures) ∙ ap (λ x. m.Loop (scoped_code_of x) c.in-Loop.condition (scoped_code_of c.deref-in-Loop.result.now)) (sym c.deref-in-Loop-2.ensures))
    c.in_ok-head-in-Loop.ensures.number c.in_ok-head-in-Loop.ensures.added c.in_ok-out-in-Loop.ensures.number c.in_ok-out-in-Loop.ensures.way c.in_ok-out-in-Loop.ensures.added c.in_ok-jump-in-Loop.ensures c.in_ok-turn-in-Loop.ensures.added c.in_ok-turn-in-Loop.ensures.instructions
    c.in_ok-turn_block-in-Loop.ensures.number c.in_ok-turn_block-in-Loop.ensures.way c.in_ok-turn_block-in-Loop.ensures.added c.led_to-in-Loop.ensures c.led_to-in-Loop-2.ensures c.in_ok-end-in-Loop.ensures c.in_ok-blocks-in-Loop.ensures.added c.in_ok-blocks-in-Loop.ensures.instructions)
    c.jump-in-Loop.ensures
