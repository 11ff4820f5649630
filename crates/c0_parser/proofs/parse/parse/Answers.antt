use Rattle.std.proofs.Common.{map}
use Rattle.c0_lexer.specs.Lexed.{lexeme}
use Rattle.c0_syntax.specs.Levels.{has_loops}
use Rattle.c0_syntax.specs.Views.{program_of}
use Rattle.c0_grammar_laws.specs.Parsing.{read_from}
use Rattle.c0_grammar_laws.proofs.SoundPrograms.{sound_program}
use Rattle.c0_grammar_laws.proofs.ParsedTokens.{told_fault, told_refuses}
use Rattle.c0_parser.proofs.parse.parse.Goals as goal

pub returns-in-Ok-clause-found : goal.returns-in-Ok-clause-found
returns-in-Ok-clause-found c = sound_program (has_loops c.args.level) (read_from (map lexeme c.args.tokens.now)) (program_of (record { declarations = c.in-Ok.declarations; end = c.place.result })) c.in-Ok.ensures.given

pub returns-in-Err-clause-refused : goal.returns-in-Err-clause-refused
returns-in-Err-clause-refused c = rw c.fault_of.ensures (told_refuses (has_loops c.args.level) (map lexeme c.args.tokens.now) c.in-Err.error c.in-Err.ensures.given)

pub returns-in-Err-clause-fault : goal.returns-in-Err-clause-fault
returns-in-Err-clause-fault c = rw c.fault_of.ensures (told_fault (has_loops c.args.level) (map lexeme c.args.tokens.now) c.in-Err.error c.in-Err.ensures.given)
