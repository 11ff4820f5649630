use Rattle.std.proofs.Common.{◌≡◌, sym, ◌∙◌, Some, None}
use Rattle.c0_source.specs.Spelling.{lookup, clauses}
use Rattle.c0_lexer.proofs.Words.{clause_kind, other_kind}
use Rattle.c0_lexer.proofs.word.word_kind.Goals as goal

pub returns-in-Some : goal.returns-in-Some
returns-in-Some c =
    let found : lookup clauses c.args.text.now ≡ Some c.in-Some.kind = sym c.lookup.ensures ∙ c.in-Some.is in
    sym (clause_kind c.args.mode c.args.text.now c.in-Some.kind c.in_default.not-Plain found)

pub returns-in-None : goal.returns-in-None
returns-in-None c =
    let none : lookup clauses c.args.text.now ≡ None = sym c.lookup.ensures ∙ c.in-None.is in
    c.plain_kind-in-None.ensures ∙ sym (other_kind c.args.mode c.args.text.now (λ ne. none))

pub returns-in-Plain : goal.returns-in-Plain
returns-in-Plain c = c.plain_kind.ensures ∙ sym (other_kind c.args.mode c.args.text.now (λ ne. absurd (ne c.in-Plain.is)))
