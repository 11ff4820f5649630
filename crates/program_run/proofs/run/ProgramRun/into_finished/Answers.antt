use Rattle.std.proofs.Common.{◌≡◌, ◌∙◌, ◌+◌, ◌-◌, ap, arith, subst, suc, sym}
use Rattle.object_lock.specs.SeatViews.{IsSeat, TableView}
use Rattle.remote_store.specs.Refusing.{no_refusals}
use Rattle.program_run.specs.Acting.{HasActed}
use Rattle.program_run.specs.Executed.{HasRefused}
use Rattle.code_form.specs.Form.{Image}
use Rattle.region.specs.Admission.{image_at}
use Rattle.program_run.specs.Runs.{IsOnRun, RunView}
use Rattle.session.specs.State.{Logged}
use Rattle.program_run.proofs.Acting.{acted_honest}
use Rattle.program_run.proofs.Ending.{executed, has_come, reached}
use Rattle.program_run.proofs.run.ProgramRun.into_finished.Goals as goal

pub returns-clause-end : goal.returns-clause-end
returns-clause-end g c = λ honest.
    let t = c.looked_last-session.result in
    let reliable = g.S.RawStore.reliable in
    let same : t ≡ c.self.inside.session = c.looked_last-session.ensures in
    let here = subst (λ (s : Logged). IsOnRun g.S.RawStore.honest reliable s c.self.inside.run) (sym same) c.self.invariant.0 in
    let image = ap (λ (s : Logged). s.state.image) same ∙ c.self.invariant.2 ∙ ap (λ (p : RunView). image_at p.programs p.number) c.self.view_is in
    let many = ap (λ (s : Logged). s.state.view.high - s.state.view.low) same ∙ ap (λ (p : RunView). p.objects) c.self.view_is in
    let low = here.share in
    let share : t.state.view.high ≡ t.state.view.low + c.args.self.objects = omega arith in
    let over = has_come reliable t.state c.self.inside.run (ap (λ (p : RunView). p.over) c.self.view_is ∙ c.requires.over) here.come in
    record {
      executed = executed reliable c.args.self.objects no_refusals (image_at c.args.self.programs c.args.self.number) t.state c.into_parts-output.result.0 c.self.inside.run c.completed-completed.result image here.cells share (here.at honest) c.into_parts-output.ensures.output c.completed-completed.ensures over (λ failed sure. here.sure honest sure failed);
      own = subst (HasRefused c.self.inside.run) (sym c.refusals-refusals.ensures) (here.own honest);
      acted = record {
        last = t;
        acted = acted_honest g.S.RawStore.honest reliable (image_at c.args.self.programs c.args.self.number) t c.self.inside.run honest
            (subst (λ D. HasActed g.S.RawStore.honest reliable D t c.self.inside.run) image here.acted);
        core = reached (image_at c.args.self.programs c.args.self.number) t.state c.completed-completed.result image (here.at honest) c.completed-completed.ensures;
        cells = here.cells ∙ ap (λ (D : Image). D.piece) image;
        mover = ap (λ (s : Logged). s.state.view.number) same ∙ c.self.invariant.3 ∙ ap (λ (p : RunView). suc p.number) c.self.view_is;
        first = ap (λ (s : Logged). s.state.view.low) same ∙ ap (λ (p : RunView). p.first) c.self.view_is;
        share = share;
        printed = c.into_parts-output.ensures.output;
        completed = c.completed-completed.ensures;
        refusals = c.refusals-refusals.ensures;
      };
    }

pub returns-clause-seat : goal.returns-clause-seat
unfolding returns-clause-end
returns-clause-seat g c =
    let same : c.looked_last-session.result ≡ c.self.inside.session = c.looked_last-session.ensures in
    let id = ap (λ (s : Logged). s.state.table) same ∙ c.self.invariant.4 ∙ ap (λ (p : RunView). p.table.id) c.self.view_is in
    let sizes = ap (λ (s : Logged). s.state.view.sizes) same ∙ c.self.invariant.5 ∙ ap (λ (p : RunView). p.table.sizes) c.self.view_is in
    let is = c.into_parts-output.ensures.seat in
    record {
      seat = subst (λ (t : TableView). IsSeat t c.into_parts-output.result.1) (λ i. record { id = id i; sizes = sizes i }) c.into_parts-output.ensures.table;
      quiet = is.2;
      by = λ honest. ((returns-clause-end g c honest).acted, λ i. record { view = is.0 i; log = is.1 i });
    }
