use Rattle.std.proofs.lemmas.Result.{err_from_is_err_and}
use Rattle.c0_types_terms.proofs.Causes.{among}
use Rattle.c0_types_places.proofs.places.pointer_field.Goals as goal

pub returns-in_err-place-clause-cause : goal.returns-in_err-place-clause-cause
returns-in_err-place-clause-cause c =
    let p = err_from_is_err_and c.from_residual.result c.from_residual.ensures.1 in
    rw (p.1, p.2) (among c.in_err-place.ensures.cause)
