use Rattle.command_line.proofs.complaint.ComplaintDisplay.fmt.Goals as goal

pub returns-in-Lacks-clause-writes : goal.returns-in-Lacks-clause-writes
returns-in-Lacks-clause-writes g c = rw (c.in-Lacks.is, ← c.name_of-option-in-Lacks.ensures, ← c.wanted-value-in-Lacks.ensures) c.writeln-in-Lacks.ensures.writes

pub returns-in-NoFile-clause-writes : goal.returns-in-NoFile-clause-writes
returns-in-NoFile-clause-writes g c = rw c.in-NoFile.is c.writeln-in-NoFile.ensures.writes
