use Rattle.std.proofs.Common.{◌≡◌, ◌⊎◌, List, IfErr, sym, subst}
use Rattle.c0_source.specs.declared.fault.FaultKind.TheVariants.{OutOfMemory}
use Rattle.c0_syntax.specs.Views.{declaration_of_kind}
use Rattle.c0_syntax.specs.declared.program.DeclarationKind.{DeclarationKind}
use Rattle.c0_syntax.specs.declared.statement.Statement.{Statement}
use Rattle.c0_types.specs.DeclareViews.{InDefinition, elaboration_of}
use Rattle.c0_types.specs.FunctionViews.{DeclarationHasTexts}
use Rattle.c0_rules.specs.FaultPrograms.{InDeclaration}
use Rattle.c0_types_tables.specs.Views.{environment_of}
use Rattle.c0_types.proofs.declare.Elaborated.declaration.Goals as goal

pub define_function-requires : goal.define_function-requires
define_function-requires c =
    let whole = subst (λ (kind : DeclarationKind). DeclarationHasTexts c.args.texts.now (declaration_of_kind kind)) c.in-DefineFunction.is c.requires in
    rw c.deref-in-DefineFunction.ensures.value whole

pub returns-in-DefineFunction-clause-cause : goal.returns-in-DefineFunction-clause-cause
returns-in-DefineFunction-clause-cause c =
    let told = subst (λ (b : List Statement). IfErr c.define_function.result (λ f. (f.kind ≡ OutOfMemory) ⊎ InDefinition (environment_of c.args.self.now.environment) f c.in-DefineFunction.header b)) c.deref-in-DefineFunction.ensures.value c.define_function.ensures.cause in
    subst (λ (kind : DeclarationKind). IfErr c.define_function.result (λ f. (f.kind ≡ OutOfMemory) ⊎ InDeclaration f (elaboration_of c.args.texts.now c.args.self.now) kind c.args.declaration.now.span)) (sym c.in-DefineFunction.is) told
