use Rattle.std.proofs.Common.{◌≡◌, ◌∙◌, ap, arith, pos, to_z, of_z, w32}
use Rattle.std.proofs.lemmas.Int.{SFits-int_wrap, to_z-of_z}
use Rattle.cells.specs.Numbers.{wrap32}
use Rattle.c0_typed.specs.Trees.{Constant}
use Rattle.c0_typed.specs.Values.{Number}
use Rattle.c0_rules.specs.Expressions.{Has}
use Rattle.c0_rules.specs.Types.{IntType}
use Rattle.c0_types_places.proofs.Wrapped.{number_wraps}
use Rattle.c0_types_places.proofs.names.number.Goals as goal

pub returns : goal.returns
returns c =
    let value : c.cast_signed.result ≡ wrap32 (pos c.args.value) = c.cast_signed.ensures ∙ number_wraps c.args.value (omega arith) in
    let kept = ap (λ z. to_z w32 (of_z w32 z)) value ∙ to_z-of_z w32 (wrap32 (pos c.args.value)) (SFits-int_wrap w32 (pos c.args.value)) in
    ap (λ z. Has IntType (Constant (Number z))) kept
