use Rattle.std.proofs.Common.{List, subst, sym, ◌∙◌}
use Rattle.std.specs.Prelude.{map}
use Rattle.std.proofs.lemmas.List.{with_items_is}
use Rattle.call_execution.specs.declared.aims.Scope.{Scope as RustScope}
use Rattle.call_execution.specs.Aimed.{scope_of}
use Rattle.call_execution.specs.Marked.{AreMarked}
use Rattle.call_execution.proofs.Marks.{behind_written}
use Rattle.call_execution.proofs.scopes.Scopes.make_stale.Goals as goal

pub invariant_of-self : goal.invariant_of-self
invariant_of-self c =
    let i = c.self.inside in
    let P : List RustScope → Type 0 = λ l. AreMarked i.marks.items (map scope_of l) in
    let new = c.make_stale_from.new.scopes in
    let own = behind_written i.marks.items c.args.first c.args.register c.deref_mut.result.now new c.make_stale_from.ensures.others c.make_stale_from.ensures.own (subst P (sym c.deref_mut.ensures.value) c.self.invariant) in
    subst P (sym (with_items_is i.items new (c.make_stale_from.ensures.many ∙ c.deref_mut.ensures.len))) own

pub returns-else-may_aim-clause-own : goal.returns-else-may_aim-clause-own
returns-else-may_aim-clause-own c = sym (c.may_aim.ensures c.if-may_aim.false c.args.first)
