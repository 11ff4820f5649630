use Rattle.std.proofs.Common.{◌+◌, inr, refl, sym, ◌∙◌, subst}
use Rattle.c0_types_declarations.proofs.HeaderLists.{Watches, watch_ends, watch_first, watch_here, watch_more, watch_told}
use Rattle.c0_types_declarations.proofs.headers.check_distinct.Goals as goal

pub returns-then-not-branch-clause-distinct : goal.returns-then-not-branch-clause-distinct
returns-then-not-branch-clause-distinct c =
    let here = watch_here c.loop-item.seen.keys c.loop-item.item-index c.args.items.now c.loop-item.invariant c.item-item.result c.loop-item-test.true c.item-item.is c.as_str.result c.as_str.ensures.value (sym c.in_ok-insert.ensures.added ∙ c.if-not-branch.true) in
    inr (watch_ends c.loop-item.seen.keys c.loop-item.item-index c.args.items.now c.loop-item.invariant c.item-item.result c.loop-item-test.true c.item-item.is here)

pub returns-then-not-branch-clause-cause : goal.returns-then-not-branch-clause-cause
returns-then-not-branch-clause-cause c =
    let here = watch_here c.loop-item.seen.keys c.loop-item.item-index c.args.items.now c.loop-item.invariant c.item-item.result c.loop-item-test.true c.item-item.is c.as_str.result c.as_str.ensures.value (sym c.in_ok-insert.ensures.added ∙ c.if-not-branch.true) in
    inr (watch_told c.loop-item.seen.keys c.loop-item.item-index c.args.items.now c.loop-item.invariant c.item-item.result c.loop-item-test.true c.item-item.is _ here (refl, refl))

pub loop-item-init : goal.loop-item-init
loop-item-init c = watch_first c.new-seen.result.keys c.args.items.now c.new-seen.ensures.empty

pub loop-item-preserved : goal.loop-item-preserved
loop-item-preserved c =
    let more = watch_more c.loop-item.seen.keys c.loop-item.item-index c.args.items.now c.loop-item.invariant c.item-item.result c.loop-item-test.true c.item-item.is c.as_str.result c.as_str.ensures.value (sym c.in_ok-insert.ensures.added ∙ c.if-not-branch.false) in
    subst (λ z. Watches z (c.loop-item.item-index + 1) c.args.items.now) (sym c.in_ok-insert.ensures.keys) more
