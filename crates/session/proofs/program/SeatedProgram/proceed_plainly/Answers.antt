use Rattle.std.proofs.Common.{rules, ℕ, List, reverse, subst, sym}
use Rattle.session.specs.Keeping.{IsHolding}
use Rattle.session.specs.Pieces.{IsKept, UsesView, kept_at, kept_of}
use Rattle.call_execution.specs.Holding.{RanWithin}
use Rattle.session.specs.State.{Logged}
use Rattle.session.proofs.Seated.{may_call, ran_by}
use Rattle.session.proofs.program.SeatedProgram.proceed_plainly.Goals as goal

pub run_plain-done-requires : goal.run_plain-done-requires
run_plain-done-requires g c =
    let m = c.self.inside in
    let kept : IsKept m.table.now m.scale.shift m.pieces.holds.items m.pieces.owner =
    (c.self.invariant.0, c.self.invariant.1, (c.args.self.now.state, subst (λ (s : Logged). IsHolding (record c.args.self.now.state { holds = s.state.holds; view = s.state.view })) (sym c.self.view_is) c.requires.holding)) in
    record {
      may = λ n. may_call g.S.RawStore.honest m.table.now m.scale.shift (reverse c.deref-firsts.result.now) (λ p. p.holds.items) (λ p. p.owner) (λ x. x.now) (λ y. y.now) _ _ _ _ _ _ _ _
          (λ y k a q. (search rules, λ p. search rules)) (λ x k a q. (search rules, λ y v p. search rules)) (λ x k a v q. (search rules, λ y b p. search rules)) (λ x k q. (search rules, λ y p. search rules))
          n m.pieces kept;
    }

pub invariant_of-self : goal.invariant_of-self
invariant_of-self g c =
    let m = c.self.inside in
    let kept : IsKept m.table.now m.scale.shift m.pieces.holds.items m.pieces.owner =
    (c.self.invariant.0, c.self.invariant.1, (c.args.self.now.state, subst (λ (s : Logged). IsHolding (record c.args.self.now.state { holds = s.state.holds; view = s.state.view })) (sym c.self.view_is) c.requires.holding)) in
    let told = ran_by g.S.RawStore.honest m.table.now m.scale.shift (reverse c.deref-firsts.result.now) (λ p. p.holds.items) (λ p. p.owner) (λ x. x.now) (λ y. y.now) m.execution.image c.run_plain-done.result m.execution.core c.run_plain-done.new.self.core
    m.pieces c.run_plain-done.new.seat c.run_plain-done.ensures.may c.run_plain-done.ensures.ran kept
    (λ y k a q. (search rules, λ p. search rules)) (λ x k a q. (search rules, λ y v p. search rules)) (λ x k a v q. (search rules, λ y b p. search rules)) (λ x k q. (search rules, λ y p. search rules)) in
    (told.2.0, c.self.invariant.1)

pub returns-clause-ran : goal.returns-clause-ran
returns-clause-ran g c =
    let m = c.self.inside in
    let kept : IsKept m.table.now m.scale.shift m.pieces.holds.items m.pieces.owner =
    (c.self.invariant.0, c.self.invariant.1, (c.args.self.now.state, subst (λ (s : Logged). IsHolding (record c.args.self.now.state { holds = s.state.holds; view = s.state.view })) (sym c.self.view_is) c.requires.holding)) in
    let told = ran_by g.S.RawStore.honest m.table.now m.scale.shift (reverse c.deref-firsts.result.now) (λ p. p.holds.items) (λ p. p.owner) (λ x. x.now) (λ y. y.now) m.execution.image c.run_plain-done.result m.execution.core c.run_plain-done.new.self.core
    m.pieces c.run_plain-done.new.seat c.run_plain-done.ensures.may c.run_plain-done.ensures.ran kept
    (λ y k a q. (search rules, λ p. search rules)) (λ x k a q. (search rules, λ y v p. search rules)) (λ x k a v q. (search rules, λ y b p. search rules)) (λ x k q. (search rules, λ y p. search rules)) in
    let same = c.run_plain-done.ensures.same in
    let seat = told.1 in
    let new = kept_at c.run_plain-done.new.seat.holds.items c.run_plain-done.new.seat.owner in (
      search (rules, same, seat, c.self.view_is),
      subst (λ (s : Logged). RanWithin (UsesView g.S.RawStore.honest s.state.firsts) s.state.image c.run_plain-done.result s.state.core (kept_of s) c.run_plain-done.new.self.core new) c.self.view_is
          (subst (λ (z : List ℕ). RanWithin (UsesView g.S.RawStore.honest (reverse z)) m.execution.image c.run_plain-done.result m.execution.core (kept_at m.pieces.holds.items m.pieces.owner) c.run_plain-done.new.self.core new) c.deref-firsts.ensures.value told.0),
    )
