-- The contract of a function, spec by spec.
use Rattle.std.specs.Prelude.{◌≡◌, ◌⊎◌, true, false, ◌||◌, List, [], ◌∷◌, Option, Some, None}
use Rattle.c0_source.specs.declared.fault.Fault.{Fault}
use Rattle.c0_source.specs.declared.fault.FaultKind.TheVariants as k
use Rattle.c0_syntax.specs.Trees.{Expression, Spec}
use Rattle.c0_syntax.specs.Views.{spec_of}
use Rattle.c0_syntax.specs.declared.statement.Spec as p
use Rattle.c0_typed.specs.Trees as t
use Rattle.c0_typed.specs.Views.{exps_of}
use Rattle.c0_rules.specs.Expressions.{Context, typed_expression, wanted}
use Rattle.c0_rules.specs.FaultExpressions.{Told}
use Rattle.c0_rules.specs.FaultStatements.{InCondition}
use Rattle.c0_rules.specs.Mentions.{condition_of}
use Rattle.c0_rules.specs.Programs.{are_contracts}
use Rattle.c0_rules.specs.Statements.{Role, Precondition, Postcondition, conditions, role_of, same_role}
use Rattle.c0_rules.specs.Types.{and_so, provided, Name, Environment, BoolType}
use Rattle.c0_types_contracts.specs.declared.contracts.Conditions.{Conditions}

-- the conditions of a contract
abbrev pub conditions_of : List Name → Conditions → t.Exps × t.Exps
conditions_of texts x = (exps_of texts x.preconditions.items, exps_of texts x.postconditions.items)

-- with an expression behind them
abbrev pub with_last : t.Exps → t.Exp → t.Exps
with_last t.NoExp e = t.More e t.NoExp
with_last (t.More x rest) e = t.More x (with_last rest e)

module _ (env : Environment) (before behind : Context) where
  -- the conditions of a contract, where `requires` stand before the function and `ensures` behind it
  abbrev pub contract_of : List Spec → Option (t.Exps × t.Exps)
  contract_of specs =
      provided (are_contracts specs) (
      and_so (conditions env Precondition before specs) (λ xs. and_so (conditions env Postcondition behind specs) (λ ys. Some (xs, ys))))

  -- a condition of this role behind others
  abbrev pub condition_added : Role → Expression → t.Exps × t.Exps → Option (t.Exps × t.Exps)
  condition_added Precondition e so_far = and_so (wanted env BoolType (typed_expression env before e)) (λ x. Some (with_last so_far.0 x, so_far.1))
  condition_added Postcondition e so_far = and_so (wanted env BoolType (typed_expression env behind e)) (λ y. Some (so_far.0, with_last so_far.1 y))
  condition_added _ e so_far = None

  -- specs in order, behind others
  abbrev pub specs_added : List Spec → t.Exps × t.Exps → Option (t.Exps × t.Exps)
  specs_added [] so_far = Some so_far
  specs_added (x ∷ rest) so_far = and_so (condition_added (role_of x) (condition_of x) so_far) (specs_added rest)

  -- what is wrong with a spec of a contract
  abbrev pub InContractSpec : Fault → p.Spec → Type 0
  InContractSpec fault x =
      (((same_role Precondition (role_of (spec_of x)) || same_role Postcondition (role_of (spec_of x))) ≡ false) × Told k.BadContract x.word fault)
      ⊎ ((same_role Precondition (role_of (spec_of x)) ≡ true) × InCondition env fault before x.condition)
      ⊎ ((same_role Postcondition (role_of (spec_of x)) ≡ true) × InCondition env fault behind x.condition)
