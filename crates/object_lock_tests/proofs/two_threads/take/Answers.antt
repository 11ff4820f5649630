use Rattle.std.proofs.Common.{◌≡◌, ◌<◌, arith, ap, ◌∙◌, subst}
use Rattle.std.specs.Prelude.{Some}
use Rattle.pointer_word.specs.Hands.{told}
use Rattle.object_lock.specs.Seats.{note, with_note}
use Rattle.object_lock.specs.SeatViews.{SeatView}
use Rattle.object_lock_tests.proofs.Bringing.{found_open, opened_none}
use Rattle.object_lock_tests.proofs.two_threads.take.Goals as goal

pub returns-in-Here-try_begin : goal.returns-in-Here-try_begin
returns-in-Here-try_begin g c =
    let o = c.args.obj in let f = c.in-Here-try_begin.frame in let s = c.args.owner.now in let a = c.open.new.owner in let b = c.try_begin.new.mover in
    let found = c.in-Here-try_begin.ensures.told (omega arith) in
    let here = found.2 ∙ ap (λ (x : SeatView _ _). record x { view = with_note x.view o (told (note x.view o) (Some f)); log = b.log }) c.loop.invariant.2 in
    found_open c.args.table.now o f s a b c.requires.shut (opened_none o s a c.open.result c.open.ensures.told c.in_default.not-Here) here (subst (λ (x : SeatView _ _). f < x.view.sizes.frames) c.loop.invariant.2 found.0) c.try_begin.ensures.table
