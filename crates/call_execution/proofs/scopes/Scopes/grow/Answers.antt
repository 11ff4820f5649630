use Rattle.std.proofs.Common.{List, subst, sym}
use Rattle.std.specs.Prelude.{map}
use Rattle.call_execution.specs.declared.aims.Scope.{Scope as RustScope}
use Rattle.call_execution.specs.Aimed.{scope_of}
use Rattle.call_execution.specs.Marked.{AreMarked}
use Rattle.call_execution.proofs.Marks.{all_grown}
use Rattle.call_execution.proofs.scopes.Scopes.grow.Goals as goal
use Rattle.call_execution.proofs.scopes.Scopes.grow.Goals.{in-Ok, in-Err}

pub invariant_of-self : goal.invariant_of-self
invariant_of-self c =
    let i = c.self.inside in
    let P : List RustScope → Type 0 = λ l. AreMarked i.marks.items (map scope_of l) in
    elim c.match-grow.branch [ in-Ok w ↦ subst P (sym w.in-Ok.ensures) (all_grown i.marks.items c.args.count i.items.items c.self.invariant) | in-Err w ↦ subst P (sym w.in-Err.ensures) c.self.invariant ]
