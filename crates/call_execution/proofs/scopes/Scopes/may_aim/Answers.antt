use Rattle.std.proofs.Common.{◌≡◌, List, true, ap, drop, sym, subst, ◌∙◌}
use Rattle.std.specs.Prelude.{map}
use Rattle.code_form.specs.Code.{written}
use Rattle.call_execution.specs.declared.aims.Scope.{Scope as RustScope}
use Rattle.call_execution.specs.Aimed.{scope_of}
use Rattle.call_execution.specs.Marked.{is_marked}
use Rattle.call_execution.proofs.Marks.{all_dropped, all_stay}
use Rattle.call_execution.proofs.scopes.Scopes.may_aim.Goals as goal

pub returns-in-Some : goal.returns-in-Some
returns-in-Some c = λ e n.
    let i = c.self.inside in
    let r = c.args.register in
    let read : is_marked c.deref.result.now r ≡ c.in-Some.mark.now = sym (c.in-Some.ensures.lookup.3.1 true) in
    let of : is_marked i.marks.items r ≡ c.in-Some.mark.now = sym (ap (λ (ms : List _). is_marked ms r) c.deref.ensures.value) ∙ read in
    let same : List RustScope → Type 0 = λ l. map (written r) (map scope_of (drop n l)) ≡ map scope_of (drop n l) in
    subst same c.self.view_is (all_stay i.marks.items r (map scope_of (drop n i.items.items)) (of ∙ e) (all_dropped i.marks.items n i.items.items c.self.invariant))
