use Rattle.std.proofs.Common.{◌≡◌, ◌+◌, ◌++◌, ◌∙◌, ap, drop, map, sym}
use Rattle.middle_form.specs.Scoped as m
use Rattle.middle_form.specs.Discipline.{after}
use Rattle.middle_form.specs.ScopedViews.{scoped_code_of, scoped_sequence_of}
use Rattle.codegen.specs.Building.{known_back, knows_of}
use Rattle.scoped_building.proofs.Rows.{sequence_is}
use Rattle.codegen.proofs.Rows.{sequence_at}
use Rattle.codegen.proofs.ScopeFacts.{followed_added, followed_after, loop_followed}
use Rattle.codegen.proofs.known.+follow.Goals as goal

pub loop-part-init : goal.loop-part-init
loop-part-init t c =
    let whole = ap scoped_code_of c.in-Sequence.is ∙ sequence_is c.in-Sequence.parts ∙ ap scoped_sequence_of (sym c.deref-part-items.ensures.value) in (
      ap (λ q. after q (λ _. knows_of c.args.before) c.args.scope) (sym whole),
      ap (λ q. map knows_of c.args.known.now.items ++ known_back c.args.scope q (knows_of c.args.before)) (sym whole),
    )

pub loop-part-preserved : goal.loop-part-preserved
loop-part-preserved t c =
    let i = c.loop-part.part-index in
    let items = c.deref-part-items.result.now in
    let part = c.part-item.result in
    let rest = scoped_sequence_of (drop (i + 1) items) in
    let is : scoped_sequence_of (drop i items) ≡ m.Then (scoped_code_of part) rest = sequence_at items i part c.loop-part-test.true c.part-item.is in (
      followed_after (scoped_code_of part) rest _ _ _ _ c.args.scope is c.in_ok-knows-in-Sequence.ensures.behind c.loop-part.invariant.0,
      followed_added (scoped_code_of part) rest _ _ _ _ _ _ c.args.scope is c.in_ok-knows-in-Sequence.ensures.behind c.in_ok-knows-in-Sequence.ensures.added c.loop-part.invariant.1,
    )

pub returns-in_ok-note-in-Loop-3-clause-added : goal.returns-in_ok-note-in-Loop-3-clause-added
returns-in_ok-note-in-Loop-3-clause-added t c =
    let whole =
    ap scoped_code_of c.in-Loop.is ∙ ap (λ x. m.Loop (scoped_code_of x) c.in-Loop.condition (scoped_code_of c.in-Loop.body.value)) (sym c.deref-in-Loop.ensures)
    ∙ ap (λ x. m.Loop (scoped_code_of c.deref-in-Loop.result.now) c.in-Loop.condition (scoped_code_of x)) (sym c.deref-in-Loop-2.ensures) in
    loop_followed c.args.scope (scoped_code_of c.deref-in-Loop.result.now) (scoped_code_of c.deref-in-Loop-2.result.now) (scoped_code_of c.args.code.now) c.in-Loop.condition (knows_of c.args.before) (knows_of c.joined-head.result) (knows_of c.in_ok-turn-in-Loop.turn) _ _ _ _ _ _
    whole c.joined-head.ensures c.in_ok-turn-in-Loop.ensures.added c.in_ok-turn-in-Loop.ensures.behind c.in_ok-note-in-Loop.ensures c.in_ok-follow-in-Loop.ensures.added c.in_ok-note-in-Loop-2.ensures c.in_ok-note-in-Loop-3.ensures
