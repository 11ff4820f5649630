use Rattle.code_verification.proofs.Refused.{accepted, aimed, another_kind, another_offset, goes_on, no_end, no_function, not_at_entry, not_brought, offset_written, open_allocation, open_call, open_return, outside, shut, written}
use Rattle.code_verification.proofs.laws.formed.Goals as goal

pub returns-clause-accepted : goal.returns-clause-accepted
returns-clause-accepted c = accepted

pub returns-clause-aimed : goal.returns-clause-aimed
returns-clause-aimed c = aimed

pub returns-clause-no_end : goal.returns-clause-no_end
returns-clause-no_end c = no_end

pub returns-clause-goes_on : goal.returns-clause-goes_on
returns-clause-goes_on c = goes_on

pub returns-clause-outside : goal.returns-clause-outside
returns-clause-outside c = outside

pub returns-clause-shut : goal.returns-clause-shut
returns-clause-shut c = shut

pub returns-clause-another_kind : goal.returns-clause-another_kind
returns-clause-another_kind c = another_kind

pub returns-clause-no_function : goal.returns-clause-no_function
returns-clause-no_function c = no_function

pub returns-clause-written : goal.returns-clause-written
returns-clause-written c = written

pub returns-clause-offset_written : goal.returns-clause-offset_written
returns-clause-offset_written c = offset_written

pub returns-clause-open_call : goal.returns-clause-open_call
returns-clause-open_call c = open_call

pub returns-clause-open_return : goal.returns-clause-open_return
returns-clause-open_return c = open_return

pub returns-clause-open_allocation : goal.returns-clause-open_allocation
returns-clause-open_allocation c = open_allocation

pub returns-clause-another_offset : goal.returns-clause-another_offset
returns-clause-another_offset c = another_offset

pub returns-clause-not_brought : goal.returns-clause-not_brought
returns-clause-not_brought c = not_brought

pub returns-clause-not_at_entry : goal.returns-clause-not_at_entry
returns-clause-not_at_entry c = not_at_entry
