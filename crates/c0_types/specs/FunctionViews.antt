-- Functions with their bodies, as code holds them.
use Rattle.std.specs.Prelude.{false, List, [], ◌∷◌, None, length, map}
use Rattle.c0_syntax.specs.Trees as s
use Rattle.c0_typed.specs.Views.{block_of, exps_of}
use Rattle.c0_typed.specs.Trees as t
use Rattle.c0_rules.specs.Expressions.{Context, Local, num}
use Rattle.c0_rules.specs.Mentions.{specs_in}
use Rattle.c0_rules.specs.Programs as p
use Rattle.c0_rules.specs.Statements as b
use Rattle.c0_rules.specs.Types.{Name, Environment, Signature}
use Rattle.c0_types_tables.specs.Views.{resolved_of}
use Rattle.c0_types_tables.specs.declared.resolved.ResolvedType.{ResolvedType}
use Rattle.c0_types_bodies.specs.Bodies.{SpecsHaveTexts, StatementsHaveTexts, scope_of}
use Rattle.c0_types.specs.declared.functions.CheckedBody.{CheckedBody}
use Rattle.c0_types.specs.declared.functions.Parts.{Parts}

-- a body, and what is in scope behind it
abbrev pub checked_of : List Name → CheckedBody → b.Checked
checked_of texts x = record { statement = block_of texts x.statements.items; scope = scope_of x.scope }

-- the parts of a function
abbrev pub parts_of : List Name → Parts → p.Parts
parts_of texts x = record {
  requires = exps_of texts x.conditions.preconditions.items;
  ensures = exps_of texts x.conditions.postconditions.items;
  checked = checked_of texts x.checked;
}

-- where the `requires` of a function with these locals stand
abbrev pub at_entry : List Local → Context
at_entry locals = record { locals = locals; result = None }

-- where its `ensures` stand
abbrev pub at_return : List Local → Signature → Context
at_return locals f = record { locals = locals; result = p.result_of f.result }

-- what is in scope where its body begins
abbrev pub first_scope : List Local → Signature → b.Scope
first_scope locals f = record { locals = locals; parameters = length f.parameters; declared = []; result = f.result; in_loop = false }

-- types as typed trees have them
abbrev pub numbers_in : Environment → List ResolvedType → List t.Ty
numbers_in env types = map (num env) (map resolved_of types)

-- each text in the contract and in the body of this declaration is one of these texts
abbrev pub DeclarationHasTexts : List Name → s.Declaration → Type 0
DeclarationHasTexts texts (s.DefineFunction h body) = SpecsHaveTexts texts (specs_in h.annotations) × StatementsHaveTexts texts body
DeclarationHasTexts texts _ = Unit {0}

-- the same of declarations
abbrev pub DeclarationsHaveTexts : List Name → List s.Declaration → Type 0
DeclarationsHaveTexts texts [] = Unit {0}
DeclarationsHaveTexts texts (x ∷ rest) = DeclarationHasTexts texts x × DeclarationsHaveTexts texts rest
