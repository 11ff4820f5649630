use Rattle.std.proofs.Common.{List, subst, sym, Bool, true, ◌≡◌, ◌∙◌, ℕ}
use Rattle.std.specs.Prelude.{map}
use Rattle.std.specs.Vec.{with_items}
use Rattle.std.proofs.lemmas.List.{with_items_is}
use Rattle.call_execution.specs.declared.aims.Scope.{Scope as RustScope}
use Rattle.call_execution.specs.declared.aims.Scope.TheVariants as scope
use Rattle.call_execution.specs.Aimed.{scope_of}
use Rattle.call_execution.specs.Marked.{AreMarked, is_marked}
use Rattle.call_execution.proofs.Marks.{all_more, behind_set}
use Rattle.call_execution.proofs.scopes.Scopes.aim.Goals as goal

pub invariant_of-self : goal.invariant_of-self
invariant_of-self c =
    let i = c.self.inside in
    let ms = c.mark_scope.new.marks in
    let new = c.change_scope.new.scopes in
    let P : List Bool → List RustScope → Type 0 = λ m l. AreMarked m (map scope_of l) in
    let first = subst (P i.marks.items) (sym c.deref_mut.ensures.value) c.self.invariant in
    let more = subst (λ (l : List Bool). (k : ℕ) → is_marked l k ≡ true → is_marked ms k ≡ true) c.deref_mut-2.ensures.value c.mark_scope.ensures.others in
    let own = behind_set ms c.args.first c.args.number (scope.Aimed c.args.aim) c.deref_mut.result.now new c.change_scope.ensures.others c.change_scope.ensures.own c.mark_scope.ensures.own
    (all_more i.marks.items ms more (map scope_of c.deref_mut.result.now) first) in
    let scopes = subst (P ms) (sym (with_items_is i.items new (c.change_scope.ensures.many ∙ c.deref_mut.ensures.len))) own in
    subst (λ m. P m (with_items i.items new).items) (sym (with_items_is i.marks ms (c.mark_scope.ensures.many ∙ c.deref_mut-2.ensures.len))) scopes
