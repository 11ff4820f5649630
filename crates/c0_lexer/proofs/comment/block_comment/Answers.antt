use Rattle.std.proofs.Common.{sym, ap, ◌∙◌}
use Rattle.std.proofs.lemmas.List.{take_rest}
use Rattle.c0_source.specs.Spelling.{begins_annotation}
use Rattle.c0_lexer.specs.Ends.{comment_end}
use Rattle.c0_lexer.proofs.Comments.{open_block_front, block_front, open_front}
use Rattle.c0_lexer.proofs.comment.block_comment.Goals as goal

pub returns-then-opens_annotation : goal.returns-then-opens_annotation
returns-then-opens_annotation c =
    let rest = take_rest c.args.text.now 2 in
    let opens = sym (c.opens_annotation.ensures ∙ ap (begins_annotation c.args.mode) rest) ∙ c.if-opens_annotation.true in
    open_block_front c.args.mode c.args.text.now c.requires.first c.requires.second opens

pub returns-in_err-length : goal.returns-in_err-length
returns-in_err-length c =
    let rest = take_rest c.args.text.now 2 in
    let opens = sym (c.opens_annotation.ensures ∙ ap (begins_annotation c.args.mode) rest) ∙ c.if-opens_annotation.false in
    let none = sym (c.comment_length.ensures.value ∙ ap (comment_end 0 0 0) rest) ∙ c.in_err-length.was in
    rw c.from_residual.ensures (open_front c.args.mode c.args.text.now c.requires.first c.requires.second opens none)

pub returns : goal.returns
returns c =
    let rest = take_rest c.args.text.now 2 in
    let opens = sym (c.opens_annotation.ensures ∙ ap (begins_annotation c.args.mode) rest) ∙ c.if-opens_annotation.false in
    let end = sym (c.comment_length.ensures.value ∙ ap (comment_end 0 0 0) rest) ∙ c.in_ok-length.was in
    block_front c.args.mode c.args.text.now c.in_ok-length.length c.requires.first c.requires.second opens end
