use Rattle.std.proofs.Common.{rules, ◌≡◌, refl, sym, ap, ◌∙◌, false, Some, string_bytes}
use Rattle.std.specs.Prelude.{◌&&◌}
use Rattle.c0_rules.specs.Programs.{is_defined}
use Rattle.c0_types_tables.specs.Views.{functions_of, signature_of}
use Rattle.c0_types_declarations.proofs.headers.check_again.Goals as goal

pub returns-then-not-same_as-clause-cause : goal.returns-then-not-same_as-clause-cause
returns-then-not-same_as-clause-cause c =
    let found : functions_of c.args.environment.now.functions (string_bytes c.args.signature.now.name) ≡ Some (signature_of c.in-Some.old.now) = search (rules) in
    let once : (c.args.signature.now.defined && c.in-Some.old.now.defined) ≡ false = ap (λ o. c.args.signature.now.defined && is_defined o) (sym found) ∙ c.requires in
    (signature_of c.in-Some.old.now, found, (once, sym c.if-not-same_as.ensures, (refl, refl)))
