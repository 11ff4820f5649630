use Rattle.instruction_table.proofs.parts.parts_of_output.Goals as goal

pub returns-in-Print-clause-arguments : goal.returns-in-Print-clause-arguments
returns-in-Print-clause-arguments c = rw c.in-Print.is cc

pub returns-in-Println-clause-arguments : goal.returns-in-Println-clause-arguments
returns-in-Println-clause-arguments c = rw c.in-Println.is cc

pub returns-in-Printint-clause-arguments : goal.returns-in-Printint-clause-arguments
returns-in-Printint-clause-arguments c = rw c.in-Printint.is cc

pub returns-in-Printbool-clause-arguments : goal.returns-in-Printbool-clause-arguments
returns-in-Printbool-clause-arguments c = rw c.in-Printbool.is cc

pub returns-in-Printchar-clause-arguments : goal.returns-in-Printchar-clause-arguments
returns-in-Printchar-clause-arguments c = rw c.in-Printchar.is cc

pub returns-in-Assert-clause-arguments : goal.returns-in-Assert-clause-arguments
returns-in-Assert-clause-arguments c = rw c.in-Assert.is cc
