use Rattle.std.proofs.Common.{◌≡◌, ◌∙◌, ap, inl, inr, refl, subst, sym, true}
use Rattle.cells.specs.declared.ending.Run.TheVariants.{Wanted}
use Rattle.cells.specs.declared.ending.Want.TheVariants.{OutOfMemory, StoreFailed}
use Rattle.code_form.specs.Code.{stop_of}
use Rattle.code_form.specs.Growth.{has_text}
use Rattle.session.specs.State.{IsGoing, Logged, Ran}
use Rattle.object_moves.specs.Taken.{Refused}
use Rattle.session.proofs.Laws.{Laws}
use Rattle.session.proofs.Opening.{never_failed, stopped_shut}
use Rattle.session.proofs.Running.{HeapLaws}
use Rattle.session.proofs.session.Session.run.Goals as goal
use Rattle.session.proofs.session.Session.run.Goals.{in-Ok, in-Err}

pub returns-clause-refused : goal.returns-clause-refused
returns-clause-refused g c =
    let laws : Laws = record { tidy = c.effect_laws.ensures.tidy; tracked = c.effect_laws.ensures.tracked; waits = c.effect_laws.ensures.waits; ends = c.effect_laws.ensures.ends } in
    let heaps : HeapLaws = record { stored = c.heap_laws.ensures.stored; allocated = c.heap_laws.ensures.allocated; next = c.run_laws.ensures.next } in
    let m = c.self.inside.program.state in
    let rel = g.S.RawStore.reliable in
    elim c.match-run.branch [
      | in-Ok w ↦ λ q going e.
          let told : Ran rel c.args.limit m c.run.new.self.state (Wanted StoreFailed) = subst (λ r. Ran rel c.args.limit m c.run.new.self.state r) (sym w.result-is ∙ e) w.in-Ok.ensures.told in
          subst (λ (s : Logged). Refused rel s.state.refusals c.run.new.self.state.refusals) c.self.view_is
          (never_failed g.S.RawStore.honest rel laws heaps c.args.limit m _ (Wanted StoreFailed) c.run.ensures.session told q
          c.self.invariant.1 (subst (λ (s : Logged). IsGoing s.state) (sym c.self.view_is) going) refl)
      | in-Err w ↦ λ q going e. absurd (let clash : Wanted OutOfMemory ≡ Wanted StoreFailed = sym w.result-is ∙ e in cc clash)
    ]

pub returns-clause-shut : goal.returns-clause-shut
returns-clause-shut g c = λ x e. stopped_shut g.S.RawStore.honest c.run.new.self.state x c.run.ensures.session e

pub returns-clause-told : goal.returns-clause-told
returns-clause-told g c =
    let m = c.self.inside.program.state in
    let rel = g.S.RawStore.reliable in
    elim c.match-run.branch [
      | in-Ok w ↦ inl (subst (λ r. Ran rel c.args.limit c.args.self.now.state c.run.new.self.state r) (sym w.result-is)
          (subst (λ (s : Logged). Ran rel c.args.limit s.state c.run.new.self.state w.in-Ok.run') c.self.view_is w.in-Ok.ensures.told))
      | in-Err w ↦ inr (ap (λ (x : Logged). x.state) (w.in-Err.ensures.told.0 ∙ c.self.view_is), subst (λ (s : Logged). has_text (stop_of s.state.core) ≡ true) c.self.view_is w.in-Err.ensures.told.1, w.result-is)
    ]
