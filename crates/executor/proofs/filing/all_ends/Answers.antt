use Rattle.std.proofs.Common.{rules, arith, ◌≡◌, ◌∙◌, ◌++◌, ◌∷◌, [], ℕ, List, Some, ap, append-nil, length, map, slice_get, sym}
use Rattle.std.proofs.lemmas.List.{length-map}
use Rattle.std.specs.Vec.Iter.{into_iter_items}
use Rattle.program_run.specs.declared.run.Finished.{Finished}
use Rattle.executor.specs.Ends.{DoneView}
use Rattle.executor.proofs.Composed.{behind_more, mapped_more, more, none, placed}
use Rattle.executor.proofs.filing.all_ends.Goals as goal

pub loop-place-preserved : goal.loop-place-preserved
loop-place-preserved g c =
    let Done : Type 0 = DoneView g.row.S.Denot g.row.S-Cell.Denot in
    let all = c.args.places.items in
    let yielded = c.loop-place.yielded in
    let left = into_iter_items c.loop-place.place-iterator in
    let rest = into_iter_items c.next.new.self in
    let before = c.loop-place.invariant in
    let so = before.3 in
    let took : left ≡ c.in-Some.place ∷ rest = search rules in
    let d = c.in-Some-place.one in
    let pushed = c.push_reserved.ensures.items ∙ ap (λ (x : Done). c.loop-place.ends.items ++ x.end ∷ []) c.one.view_is in
    let seat_pushed = c.push_reserved-in-Some-place.ensures.items ∙ ap (λ (x : Done). c.loop-place.seats.items ++ x.seat ∷ []) c.one.view_is in
    let room = before.4 in
    let seats_room = before.5 in
    let len = c.push_reserved.ensures.len in
    let capacity = c.push_reserved.ensures.capacity in
    let seats_len = c.push_reserved-in-Some-place.ensures.len in
    let seats_capacity = c.push_reserved-in-Some-place.ensures.capacity in
    let long = ap length took in
    let seats = behind_more (λ (x : Done). x.seat) c.args.seats.items so.0 d c.loop-place.seats.items c.push_reserved-in-Some-place.new.self.items so.3 seat_pushed in (
      tt,
      tt,
      more yielded left rest all c.in-Some.place before.2 took,
      (so.0 ++ d ∷ [], mapped_more Some so.0 d yielded (yielded ++ c.in-Some.place ∷ []) so.1 (ap (λ p. yielded ++ p ∷ []) c.in-Some-place.is), mapped_more (λ (x : Done). x.end) so.0 d c.loop-place.ends.items c.push_reserved.new.self.items so.2 pushed, seats),
      omega arith,
      omega arith,
    )

-- all places were read
pub returns : goal.returns
returns g c =
    let before = c.loop-place.invariant in
    let so = before.3 in
    let read = none c.loop-place.yielded (into_iter_items c.loop-place.place-iterator) c.args.places.items before.2 (search rules) in
    let places = sym so.1 ∙ read in
    record {
      done = so.0;
      count = sym (length-map so.0 Some) ∙ ap length places ∙ c.requires.filed.count;
      these = so.2;
      behind = so.3;
      each = λ k d at. c.requires.filed.each k d (ap (λ l. slice_get l k) (sym places) ∙ placed so.0 k d at);
    }

pub loop-place-init : goal.loop-place-init
loop-place-init g c =
    let gives = c.into_iter-place-iterator.ensures.into_iter_gives.0 in
    let long = ap length gives in
    let empty = c.requires.empty in
    let room = c.requires.room in
    let seats_room = c.requires.seats in
    (tt, tt, gives, ([], search rules, empty.1, sym (append-nil c.args.seats.items)), omega arith, omega arith)
