use Rattle.code_verification.proofs.Accepted.{brought, called, element, pointed}
use Rattle.code_verification.proofs.Unverified.{another_array, no_pointer, not_brought, overwritten, scopes, unchecked}
use Rattle.code_verification.proofs.laws.verified.Goals as goal

pub returns-clause-pointed : goal.returns-clause-pointed
returns-clause-pointed c = pointed

pub returns-clause-element : goal.returns-clause-element
returns-clause-element c = element

pub returns-clause-called : goal.returns-clause-called
returns-clause-called c = called

pub returns-clause-brought : goal.returns-clause-brought
returns-clause-brought c = brought

pub returns-clause-unchecked : goal.returns-clause-unchecked
returns-clause-unchecked c = unchecked

pub returns-clause-overwritten : goal.returns-clause-overwritten
returns-clause-overwritten c = overwritten

pub returns-clause-another_array : goal.returns-clause-another_array
returns-clause-another_array c = another_array

pub returns-clause-not_brought : goal.returns-clause-not_brought
returns-clause-not_brought c = not_brought

pub returns-clause-no_pointer : goal.returns-clause-no_pointer
returns-clause-no_pointer c = no_pointer

pub returns-clause-scopes : goal.returns-clause-scopes
returns-clause-scopes c = scopes
