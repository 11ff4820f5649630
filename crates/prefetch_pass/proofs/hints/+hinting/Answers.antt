use Rattle.std.proofs.Common.{◌≡◌, ◌∙◌, ap, sym}
use Rattle.std.proofs.lemmas.Iterator.Adapters.{YieldsList-from_vec}
use Rattle.std.proofs.lemmas.Iterator.Consumers.{YieldsList-end}
use Rattle.middle_form.specs.ScopedViews.{scoped_code_of}
use Rattle.scoped_building.proofs.Rows.{scoped_sequence_is}
use Rattle.scoped_building.specs.Building.{codes, in_order}
use Rattle.prefetch_pass.specs.Prefetched.{hinted}
use Rattle.prefetch_pass.proofs.Ordered.{hinted_in_order, map_same}
use Rattle.prefetch_pass.proofs.hints.+hinting.Goals as goal

pub hint_code-returns-in-None : goal.hint_code-returns-in-None
hint_code-returns-in-None t c =
    let n = c.args.ahead in
    let ds = c.args.offsets.now.registers.items in
    let all = c.in-Sequence.all in
    let gives = c.into_iter-part-iterator.ensures.into_iter_gives in
    let end = YieldsList-end (YieldsList-from_vec all.items gives.0 (gives.1 ∙ all.ok.0)) c.loop-part.yielded c.loop-part.part-iterator c.loop-part.yielded_by c.next.result c.next.new.self c.in-None.is c.next.ensures.steps in
    let whole : c.loop-part.yielded ≡ all.items = sym (map_same c.loop-part.yielded) ∙ end.0 in
    scoped_sequence_is c.loop-part.parts ∙ (ap in_order c.loop-part.invariant ∙ (hinted_in_order n ds (codes c.loop-part.yielded)
    ∙ (ap (λ l. hinted n ds (in_order (codes l))) whole ∙ (sym (ap (hinted n ds) (scoped_sequence_is all)) ∙ sym (ap (λ x. hinted n ds (scoped_code_of x)) c.in-Sequence.is)))))
