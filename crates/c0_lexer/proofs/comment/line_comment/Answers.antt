use Rattle.std.proofs.Common.{sym, ap, ◌∙◌}
use Rattle.std.specs.List.{prefix_len}
use Rattle.std.proofs.lemmas.List.{take_rest}
use Rattle.c0_source.specs.Bytes.{not_newline}
use Rattle.c0_source.specs.Spelling.{begins_annotation}
use Rattle.c0_lexer.proofs.Comments.{line_front, open_line_front}
use Rattle.c0_lexer.proofs.comment.line_comment.Goals as goal

pub returns-then-opens_annotation : goal.returns-then-opens_annotation
returns-then-opens_annotation c =
    let rest = take_rest c.args.text.now 2 in
    let opens = sym (c.opens_annotation.ensures ∙ ap (begins_annotation c.args.mode) rest) ∙ c.if-opens_annotation.true in
    open_line_front c.args.mode c.args.text.now c.requires.first c.requires.second opens

pub returns : goal.returns
returns c =
    let rest = take_rest c.args.text.now 2 in
    let opens = sym (c.opens_annotation.ensures ∙ ap (begins_annotation c.args.mode) rest) ∙ c.if-opens_annotation.false in
    line_front c.args.mode c.args.text.now c.line_length.result c.requires.first c.requires.second opens (c.line_length.ensures.value ∙ ap (prefix_len not_newline) rest)
