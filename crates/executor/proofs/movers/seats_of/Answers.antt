use Rattle.std.proofs.Common.{rules, arith, ◌≡◌, ◌∙◌, ◌++◌, ◌∷◌, [], ap, length, length-append, slice_get, subst, sym}
use Rattle.std.specs.Vec.Iter.{into_iter_items}
use Rattle.executor.specs.Given.{AreGivenBack, IsGivenBack}
use Rattle.executor.proofs.Composed.{each_pair, more, none}
use Rattle.executor.proofs.movers.seats_of.Goals as goal

pub loop-mover-init : goal.loop-mover-init
loop-mover-init g c =
    let gives = c.into_iter-mover-iterator.ensures.into_iter_gives.0 in
    let empty = c.requires.empty in
    (tt, tt, gives, subst (AreGivenBack g.S.RawStore.reliable []) (sym empty.1) (record { count = search rules; each = λ i m x at there. absurd (let no : ⊥ = cc at in no) }), empty.0, search rules)

pub loop-mover-preserved : goal.loop-mover-preserved
loop-mover-preserved g c =
    let yielded = c.loop-mover.yielded in
    let left = into_iter_items c.loop-mover.mover-iterator in
    let rest = into_iter_items c.next.new.self in
    let before = c.loop-mover.invariant in
    let took : left ≡ c.in-Some.mover ∷ rest = search rules in
    let seats = c.loop-mover.seats.items in
    let x = c.into_seat.result in
    let len = c.push_reserved.ensures.len in
    let longer = length-append yielded (c.in-Some.mover ∷ []) in
    let many = length-append seats (x ∷ []) in
    let count = before.3.count in
    let was = before.4 in (
      tt,
      tt,
      more yielded left rest c.args.movers.items c.in-Some.mover before.2 took,
      subst (AreGivenBack g.S.RawStore.reliable (yielded ++ c.in-Some.mover ∷ [])) (sym c.push_reserved.ensures.items) (record {
        count = omega arith;
        each = each_pair (IsGivenBack g.S.RawStore.reliable) yielded seats c.in-Some.mover x count before.3.each c.into_seat.ensures;
      }),
      omega arith,
      c.push_reserved.ensures.capacity ∙ before.5,
    )

pub returns-clause-given : goal.returns-clause-given
returns-clause-given g c =
    let read = none c.loop-mover.yielded (into_iter_items c.loop-mover.mover-iterator) c.args.movers.items c.loop-mover.invariant.2 (search rules) in
    subst (λ l. AreGivenBack g.S.RawStore.reliable l c.loop-mover.seats.items) read c.loop-mover.invariant.3

pub returns-clause-room : goal.returns-clause-room
returns-clause-room g c =
    let read = none c.loop-mover.yielded (into_iter_items c.loop-mover.mover-iterator) c.args.movers.items c.loop-mover.invariant.2 (search rules) in
    (c.loop-mover.invariant.5, c.loop-mover.invariant.4 ∙ ap length read)

-- there is room for one more
pub push_reserved-requires : goal.push_reserved-requires
push_reserved-requires g c =
    let yielded = c.loop-mover.yielded in
    let rest = into_iter_items c.next.new.self in
    let before = c.loop-mover.invariant in
    let took : into_iter_items c.loop-mover.mover-iterator ≡ c.in-Some.mover ∷ rest = search rules in
    let whole = ap length (ap (λ l. yielded ++ l) (sym took) ∙ before.2) in
    let parts = length-append yielded (c.in-Some.mover ∷ rest) in
    let room = c.requires.room in
    let len = before.4 in
    let capacity = before.5 in
    omega arith
