use Rattle.instruction_table.proofs.parts.parts_of.Goals as goal

pub returns-in-Aim-clause-arguments : goal.returns-in-Aim-clause-arguments
returns-in-Aim-clause-arguments c = rw c.in-Aim.is cc

pub returns-in-Load-clause-arguments : goal.returns-in-Load-clause-arguments
returns-in-Load-clause-arguments c = rw c.in-Load.is cc

pub returns-in-Store-clause-arguments : goal.returns-in-Store-clause-arguments
returns-in-Store-clause-arguments c = rw c.in-Store.is cc

pub returns-in-Leave-clause-arguments : goal.returns-in-Leave-clause-arguments
returns-in-Leave-clause-arguments c = rw c.in-Leave.is cc

pub returns-in-Jump-clause-arguments : goal.returns-in-Jump-clause-arguments
returns-in-Jump-clause-arguments c = rw c.in-Jump.is cc

pub returns-in-Branch-clause-arguments : goal.returns-in-Branch-clause-arguments
returns-in-Branch-clause-arguments c = rw c.in-Branch.is cc

pub returns-in-Return-clause-arguments : goal.returns-in-Return-clause-arguments
returns-in-Return-clause-arguments c = rw c.in-Return.is cc

pub returns-in-Error-clause-arguments : goal.returns-in-Error-clause-arguments
returns-in-Error-clause-arguments c = rw c.in-Error.is cc

pub returns-in-Call-clause-arguments : goal.returns-in-Call-clause-arguments
returns-in-Call-clause-arguments c = rw c.in-Call.is cc

pub returns-in-Call-clause-registers : goal.returns-in-Call-clause-registers
returns-in-Call-clause-registers c = rw c.in-Call.is cc
