use Rattle.std.proofs.Common.{rules, ◌≡◌, ◌∷◌, ap, subst, sym}
use Rattle.std.specs.List.{All}
use Rattle.std.specs.Vec.Iter.{into_iter_items}
use Rattle.executor.specs.Ends.{DoneView, IsDone}
use Rattle.executor.proofs.Composed.{all_first, all_rest, filed_at}
use Rattle.executor.proofs.filing.file_done.Goals as goal

pub loop-one-init : goal.loop-one-init
loop-one-init g c =
    let Done : DoneView g.row.S.Denot g.row.S-Cell.Denot → Type 0 = IsDone g.S.RawStore.honest g.S.RawStore.reliable c.args.queue.now.roster in
    (tt, tt, subst (All Done) (sym c.into_iter-one-iterator.ensures.into_iter_gives.0) c.requires.done, c.requires.filed)

pub loop-one-preserved-in-Some-get_mut : goal.loop-one-preserved-in-Some-get_mut
loop-one-preserved-in-Some-get_mut g c =
    let Done : DoneView g.row.S.Denot g.row.S-Cell.Denot → Type 0 = IsDone g.S.RawStore.honest g.S.RawStore.reliable c.args.queue.now.roster in
    let took : into_iter_items c.loop-one.one-iterator ≡ c.in-Some.one ∷ into_iter_items c.next.new.self = search rules in
    let done = all_first Done _ (into_iter_items c.next.new.self) c.in-Some.one took c.loop-one.invariant.2 in
    (tt, tt, all_rest Done _ (into_iter_items c.next.new.self) c.in-Some.one took c.loop-one.invariant.2, filed_at g.S.RawStore.honest g.S.RawStore.reliable c.args.queue.now.roster c.loop-one.places.items c.in-Some.one c.one.inside.number (ap (λ (d : DoneView g.row.S.Denot g.row.S-Cell.Denot). d.number) c.one.view_is) done c.loop-one.invariant.3)

pub loop-one-preserved-in-Some-get_mut-2 : goal.loop-one-preserved-in-Some-get_mut-2
loop-one-preserved-in-Some-get_mut-2 g c =
    let Done : DoneView g.row.S.Denot g.row.S-Cell.Denot → Type 0 = IsDone g.S.RawStore.honest g.S.RawStore.reliable c.args.queue.now.roster in
    let took : into_iter_items c.loop-one.one-iterator ≡ c.in-Some.one ∷ into_iter_items c.next.new.self = search rules in
    let done = all_first Done _ (into_iter_items c.next.new.self) c.in-Some.one took c.loop-one.invariant.2 in
    (tt, tt, all_rest Done _ (into_iter_items c.next.new.self) c.in-Some.one took c.loop-one.invariant.2, filed_at g.S.RawStore.honest g.S.RawStore.reliable c.args.queue.now.roster c.loop-one.places.items c.in-Some.one c.one.inside.number (ap (λ (d : DoneView g.row.S.Denot g.row.S-Cell.Denot). d.number) c.one.view_is) done c.loop-one.invariant.3)

pub loop-one-preserved-in-Some-get_mut-3 : goal.loop-one-preserved-in-Some-get_mut-3
loop-one-preserved-in-Some-get_mut-3 g c =
    let Done : DoneView g.row.S.Denot g.row.S-Cell.Denot → Type 0 = IsDone g.S.RawStore.honest g.S.RawStore.reliable c.args.queue.now.roster in
    let took : into_iter_items c.loop-one.one-iterator ≡ c.in-Some.one ∷ into_iter_items c.next.new.self = search rules in
    let done = all_first Done _ (into_iter_items c.next.new.self) c.in-Some.one took c.loop-one.invariant.2 in
    (tt, tt, all_rest Done _ (into_iter_items c.next.new.self) c.in-Some.one took c.loop-one.invariant.2, filed_at g.S.RawStore.honest g.S.RawStore.reliable c.args.queue.now.roster c.loop-one.places.items c.in-Some.one c.one.inside.number (ap (λ (d : DoneView g.row.S.Denot g.row.S-Cell.Denot). d.number) c.one.view_is) done c.loop-one.invariant.3)

pub loop-one-preserved : goal.loop-one-preserved
loop-one-preserved g c =
    let Done : DoneView g.row.S.Denot g.row.S-Cell.Denot → Type 0 = IsDone g.S.RawStore.honest g.S.RawStore.reliable c.args.queue.now.roster in
    let took : into_iter_items c.loop-one.one-iterator ≡ c.in-Some.one ∷ into_iter_items c.next.new.self = search rules in
    (tt, tt, all_rest Done _ (into_iter_items c.next.new.self) c.in-Some.one took c.loop-one.invariant.2, c.loop-one.invariant.3)

pub loop-one-preserved-in_default : goal.loop-one-preserved-in_default
loop-one-preserved-in_default g c =
    let Done : DoneView g.row.S.Denot g.row.S-Cell.Denot → Type 0 = IsDone g.S.RawStore.honest g.S.RawStore.reliable c.args.queue.now.roster in
    let took : into_iter_items c.loop-one.one-iterator ≡ c.in-Some.one ∷ into_iter_items c.next.new.self = search rules in
    (tt, tt, all_rest Done _ (into_iter_items c.next.new.self) c.in-Some.one took c.loop-one.invariant.2, c.loop-one.invariant.3)
