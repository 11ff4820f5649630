-- What holds no number is not changed by an operator.
use Rattle.std.proofs.Common.{◌≡◌, false, None, ap}
use Rattle.cells.specs.declared.int32.Int32Op.{Int32Op}
use Rattle.c0_typed.specs.Trees as t
use Rattle.c0_rules.specs.FaultStatements.{destination_type}
use Rattle.c0_rules.specs.Statements.{Destination, Scope, ToLocal, ToPlace, next, updated}
use Rattle.c0_rules.specs.Types.{Environment, IntType, provided, same_type}

pub not_updated : (env : Environment) (s : Scope) (o : Int32Op) (x : t.Exp) (q : Destination) → same_type (destination_type q) IntType ≡ false → updated env s o x q ≡ None
not_updated env s o x (ToLocal l) e = ap (λ b. provided b (next (t.Update l.number o x) s)) e
not_updated env s o x (ToPlace q) e = ap (λ b. provided b (next (t.StoreUpdate q.place o x) s)) e
