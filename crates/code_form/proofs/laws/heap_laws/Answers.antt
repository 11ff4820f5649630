use Rattle.code_form.proofs.Addresses.{addresses}
use Rattle.code_form.proofs.Heaps.{heap_allocated, heap_stored}
use Rattle.code_form.proofs.laws.heap_laws.Goals as goal

pub returns-clause-addresses : goal.returns-clause-addresses
returns-clause-addresses c = addresses

pub returns-clause-stored : goal.returns-clause-stored
returns-clause-stored c = heap_stored

pub returns-clause-allocated : goal.returns-clause-allocated
returns-clause-allocated c = heap_allocated
