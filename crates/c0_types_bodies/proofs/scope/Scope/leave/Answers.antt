use Rattle.std.proofs.Common.{ap, ◌∙◌, map}
use Rattle.c0_types_terms.specs.Terms.{local_of}
use Rattle.c0_types_bodies.specs.Bodies.{scope_of}
use Rattle.c0_types_bodies.proofs.Scopes.{map_take}
use Rattle.c0_types_bodies.proofs.scope.Scope.leave.Goals as goal

pub returns : goal.returns
returns c =
    ap (λ l. record (scope_of c.args.self.now) { locals = l }) (ap (map local_of) c.truncate.ensures.items ∙ map_take local_of c.args.count c.args.self.now.locals.items)
