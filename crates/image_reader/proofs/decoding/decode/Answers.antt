use Rattle.std.proofs.Common.{sym, ◌∙◌, inr, arith}
use Rattle.code_form.specs.Form.{image_of}
use Rattle.image_reader.proofs.Images.{is_read, read_was_written}
use Rattle.image_reader.proofs.decoding.decode.Goals as goal

pub returns-in-Ok-clause-found : goal.returns-in-Ok-clause-found
returns-in-Ok-clause-found c = read_was_written c.args.bytes.now (image_of c.in-Ok.image) (λ i. omega (arith, c.type_inv.bytes i)) c.in-Ok.ensures

pub returns-in-Ok-clause-only : goal.returns-in-Ok-clause-only
returns-in-Ok-clause-only c = λ C is. sym (is_read c.args.bytes.now C is) ∙ c.in-Ok.ensures

pub returns-in-Err-Fault-clause-only : goal.returns-in-Err-Fault-clause-only
returns-in-Err-Fault-clause-only c = λ C is. inr (sym (is_read c.args.bytes.now C is) ∙ rw c.in-Err-Fault.field-0-is at c.in-Err-Fault.ensures)
