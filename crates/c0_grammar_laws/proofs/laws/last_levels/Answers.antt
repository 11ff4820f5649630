use Rattle.std.proofs.Common.{refl}
use Rattle.c0_grammar_laws.specs.ReadExpressions.{suffixes, read_type, read_expression}
use Rattle.c0_grammar_laws.specs.ReadStatements.{read_annotations, read_condition, read_statements, if_of, read_statement}
use Rattle.c0_grammar_laws.specs.ReadPrograms.{read_header, function, read_declarations, read_program}
use Rattle.c0_grammar_laws.proofs.laws.last_levels.Goals as goal

pub returns-clause-token : goal.returns-clause-token
unfolding suffixes read_type read_expression read_annotations read_condition read_statements if_of read_statement read_header function read_declarations read_program
returns-clause-token c = refl

pub returns-clause-condition : goal.returns-clause-condition
unfolding suffixes read_type read_expression read_annotations read_condition read_statements if_of read_statement read_header function read_declarations read_program
returns-clause-condition c = refl

pub returns-clause-statement : goal.returns-clause-statement
unfolding suffixes read_type read_expression read_annotations read_condition read_statements if_of read_statement read_header function read_declarations read_program
returns-clause-statement c = refl
