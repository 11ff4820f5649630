use Rattle.std.proofs.Common.{rules, arith, ◌≡◌, ◌∙◌, refl, sym}
use Rattle.std.proofs.Crossing.{crosses}
use Rattle.executor.proofs.movers.move_all.Goals as goal

-- a mover, its store, the gate and the runtime may each be with another thread
pub for_each_mut-requires-clause-accepts : goal.for_each_mut-requires-clause-accepts
for_each_mut-requires-clause-accepts g c κs within i p l e = search (crosses, c.type_bounds.send-S, c.type_bounds.send-S-Cell, c.type_bounds.sync-G, c.type_bounds.sync-R) depth 20

pub returns-then-count-eq0 : goal.returns-then-count-eq0
returns-then-count-eq0 g c = record {
  count = refl;
  each = λ k p l. let none = c.if-count-eq0.true in absurd (omega arith);
}

pub returns : goal.returns
returns g c = record {
  count = search rules;
  each = λ k p l.
      let r = (c.for_each_mut.ensures k p l).1 in
      let told : r.after_call.now ≡ r.argument.now = search rules in
      sym r.left ∙ told ∙ r.argument_is;
}
