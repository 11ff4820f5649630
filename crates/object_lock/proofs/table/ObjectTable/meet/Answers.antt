use Rattle.std.proofs.Common.{rules, refl, ap, sym, subst, ◌∙◌, ◌≡◌, ◌∷◌, ◌++◌, [], Some}
use Rattle.std.specs.List.{All}
use Rattle.std.specs.Vec.Iter.{into_iter_items}
use Rattle.std.proofs.lemmas.List.Elements.{All-head, All-nil, All-pop, All-rest, All-same}
use Rattle.std.proofs.lemmas.List.{append_assoc}
use Rattle.object_lock.specs.Joining.{AreTogether, IsAmong, all_of, itself, seated_as}
use Rattle.object_lock.specs.Kept.{slot_has, slot_keeps}
use Rattle.object_lock.specs.Seating.{IsToken}
use Rattle.object_lock.specs.SeatViews.{HasNoBerth, IsSeat, SeatView, TableView}
use Rattle.object_lock.proofs.Meetings.{all_among, among_together, stands_on, token_of}
use Rattle.object_lock.proofs.table.ObjectTable.meet.Goals as goal

pub loop-other-init : goal.loop-other-init
loop-other-init g c =
    let t = c.args.self.now in let last = c.in-Some.last in let popped = c.pop.new.self.items in let token = c.into_token-seat.ensures.same in
    let Seat = SeatView g.row.S.Denot g.row.S-Cell.Denot in
    let Empty : Seat → Type 0 = HasNoBerth in
    let split : c.args.seats.items ≡ popped ++ last ∷ [] = search rules in
    let gives = c.into_iter-other-iterator.ensures.into_iter_gives.0 in
    let seats = All-pop (IsSeat t) c.args.seats.items popped (Some last) split c.requires.table in
    let empty = All-pop Empty c.args.seats.items popped (Some last) split c.requires.empty in (
      tt,
      tt,
      refl,
      All-same (IsSeat t) _ popped gives seats.0,
      All-same Empty _ popped gives empty.0,
      (
        token_of t c.into_token-seat.result.table_id c.into_token-seat.result.me.0 last token.0 token.1 seats.1,
        (0, refl),
        All-nil (λ (x : Seat). IsAmong c.into_token-seat.result.me.0 (seated_as x)),
      ),
    )

pub join_token-requires-clause-other : goal.join_token-requires-clause-other
join_token-requires-clause-other g c κs within =
    let t = c.args.self.now in let other = c.in-Some-other.other in let rest = into_iter_items c.next.new.self in let token = c.into_token.result in let same = c.into_token.ensures.same in
    let Seat = SeatView g.row.S.Denot g.row.S-Cell.Denot in
    let Empty : Seat → Type 0 = HasNoBerth in
    let took : into_iter_items c.loop-other.other-iterator ≡ other ∷ rest = search rules in
    let is : IsSeat t other = All-head (IsSeat t) other rest (subst (All (IsSeat t)) took c.loop-other.invariant.3) in
    let empty : Empty other = All-head Empty other rest (subst (All Empty) took c.loop-other.invariant.4) in (
      subst (λ (q : TableView). IsToken q.id q.sizes token.table_id token.me.0.view) (sym c.self.view_is) (token_of t token.table_id token.me.0 other same.0 same.1 is),
      c.into_token.ensures.slots empty,
    )

pub loop-other-preserved : goal.loop-other-preserved
loop-other-preserved g c =
    let t = c.args.self.now in let other = c.in-Some-other.other in let left = into_iter_items c.loop-other.other-iterator in let rest = into_iter_items c.next.new.self in
    let done = c.loop-other.yielded in let seat = c.loop-other.seat in let joined = c.join_token.new.seat in let before = c.loop-other.invariant in
    let Seat = SeatView g.row.S.Denot g.row.S-Cell.Denot in
    let Empty : Seat → Type 0 = HasNoBerth in
    let took : left ≡ other ∷ rest = search rules in (
      tt,
      tt,
      append_assoc done (other ∷ []) rest ∙ ap (λ l. done ++ l) (sym took) ∙ before.2,
      All-rest (IsSeat t) other rest left took before.3,
      All-rest Empty other rest left took before.4,
      stands_on t seat.table_id joined.table_id seat.me.0 c.into_token.result.me.0 joined.me.0 (itself c.into_token-seat.result.me.0) done other c.join_token.ensures.0 (λ k. (c.join_token.ensures.2 k).0) c.into_token.ensures.same.1 before.5,
    )

pub returns : goal.returns
returns g c =
    let fits = g.S.RawStore.fits in let content = g.S.RawStore.content in let honest = g.S.RawStore.honest in
    let z = c.args.self.now.sizes in let v = c.loop-other.seat.me.0 in let left = into_iter_items c.loop-other.other-iterator in let before = c.loop-other.invariant in
    let split : c.args.seats.items ≡ c.pop.new.self.items ++ c.in-Some.last ∷ [] = search rules in
    let one = subst (λ (q : TableView). AreTogether (slot_keeps fits content q.sizes.cells) (slot_has fits q.sizes.cells) honest q.sizes (all_of v)) c.self.view_is c.look_together.ensures in
    among_together (slot_keeps fits content z.cells) (slot_has fits z.cells) honest z v c.args.seats.items one
    (all_among v (itself c.into_token-seat.result.me.0) c.loop-other.yielded left c.pop.new.self.items c.args.seats.items c.in-Some.last
    (before.2 ∙ c.into_iter-other-iterator.ensures.into_iter_gives.0) (search rules) split c.into_token-seat.ensures.same.1 before.5.1 before.5.2)
