use Rattle.instruction_table.proofs.parts.parts_of_heap.Goals as goal

pub returns-in-CheckNull-clause-arguments : goal.returns-in-CheckNull-clause-arguments
returns-in-CheckNull-clause-arguments c = rw c.in-CheckNull.is cc

pub returns-in-CheckIndex-clause-arguments : goal.returns-in-CheckIndex-clause-arguments
returns-in-CheckIndex-clause-arguments c = rw c.in-CheckIndex.is cc

pub returns-in-Len-clause-arguments : goal.returns-in-Len-clause-arguments
returns-in-Len-clause-arguments c = rw c.in-Len.is cc

pub returns-in-Prefetch-clause-arguments : goal.returns-in-Prefetch-clause-arguments
returns-in-Prefetch-clause-arguments c = rw c.in-Prefetch.is cc

pub returns-in-Alloc-clause-arguments : goal.returns-in-Alloc-clause-arguments
returns-in-Alloc-clause-arguments c = rw c.in-Alloc.is cc

pub returns-in-AllocArray-clause-arguments : goal.returns-in-AllocArray-clause-arguments
returns-in-AllocArray-clause-arguments c = rw c.in-AllocArray.is cc
