use Rattle.std.proofs.Common.{List, subst, sym}
use Rattle.std.specs.Prelude.{map}
use Rattle.call_execution.specs.declared.aims.Scope.{Scope as RustScope}
use Rattle.call_execution.specs.Aimed.{scope_of}
use Rattle.call_execution.specs.Marked.{AreMarked}
use Rattle.call_execution.proofs.Marks.{all_taken}
use Rattle.call_execution.proofs.scopes.Scopes.truncate.Goals as goal

pub invariant_of-self : goal.invariant_of-self
invariant_of-self c =
    let i = c.self.inside in
    subst (λ (l : List RustScope). AreMarked i.marks.items (map scope_of l)) (sym c.truncate.ensures.items) (all_taken i.marks.items c.args.count i.items.items c.self.invariant)
