use Rattle.std.proofs.Common.{map}
use Rattle.command_line.proofs.Found.{names_none, names_of, no_fault, only_memory, rows_are}
use Rattle.command_line.proofs.line.line.Goals as goal

pub returns-clause-named : goal.returns-clause-named
returns-clause-named c =
    let words = map (λ w. w.now) c.args.words.now in
    let found = c.in-Ok-try_get_matches_from in
    names_of words found.matches c.found.result (no_fault _ words c.in-Ok.ensures found.ensures.kinds) (rows_are _ words found.matches c.in-Ok.ensures found.ensures.matches) c.found.ensures

pub returns-clause-refused : goal.returns-clause-refused
returns-clause-refused c =
    let words = map (λ w. w.now) c.args.words.now in
    let found = c.in-Ok-try_get_matches_from in
    names_none words found.matches c.found.result (rows_are _ words found.matches c.in-Ok.ensures found.ensures.matches) c.found.ensures

pub returns-in-Err-try_get_matches_from-clause-refused : goal.returns-in-Err-try_get_matches_from-clause-refused
returns-in-Err-try_get_matches_from-clause-refused c = λ command named.
    c.refusal.ensures.memory (only_memory _ (map (λ w. w.now) c.args.words.now) c.in-Err-try_get_matches_from.error c.in-Ok.ensures c.in-Err-try_get_matches_from.ensures.kinds named.0)
