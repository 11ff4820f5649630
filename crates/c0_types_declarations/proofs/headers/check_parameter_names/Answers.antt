use Rattle.c0_types_declarations.proofs.Earlier.{both_accepted, one_cause}
use Rattle.c0_types_declarations.proofs.headers.check_parameter_names.Goals as goal

pub returns-clause-answers : goal.returns-clause-answers
returns-clause-answers c =
    let distinct = rw c.deref.ensures.value at c.check_distinct-distinct.ensures.distinct in
    let locals = rw c.deref-2.ensures.value at c.check_locals-locals.ensures.answers in
    both_accepted c.check_distinct-distinct.result c.check_locals-locals.result c.earlier.result _ _ distinct locals c.earlier.ensures.both c.earlier.ensures.one

pub returns-clause-cause : goal.returns-clause-cause
returns-clause-cause c =
    let distinct = rw c.deref.ensures.value at c.check_distinct-distinct.ensures.cause in
    let locals = rw c.deref-2.ensures.value at c.check_locals-locals.ensures.cause in
    one_cause _ _ c.check_distinct-distinct.result c.check_locals-locals.result c.earlier.result distinct locals c.earlier.ensures.one
