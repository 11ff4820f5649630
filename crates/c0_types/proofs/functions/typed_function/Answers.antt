use Rattle.std.proofs.Common.{inl, inr, sym}
use Rattle.std.proofs.lemmas.Result.{err_from_is_err_and}
use Rattle.c0_types.specs.FunctionViews.{parts_of}
use Rattle.c0_types_tables.specs.Views.{signature_of}
use Rattle.c0_types.proofs.functions.typed_function.Goals as goal

pub returns-in_err-check_paths-clause-cause : goal.returns-in_err-check_paths-clause-cause
returns-in_err-check_paths-clause-cause c =
    let p = err_from_is_err_and c.from_residual-in_err-check_paths.result c.from_residual-in_err-check_paths.ensures.1 in
    rw (p.1, p.2) (elim (c.in_err-check_paths.ensures.cause (signature_of c.args.signature.now) (sym c.is_void.ensures)) [
      | inl o ↦ inl o
      | inr o ↦ inr (inr (parts_of c.args.texts.now c.in_ok-parts.parts, c.in_ok-parts.ensures.answers, o))
    ])
