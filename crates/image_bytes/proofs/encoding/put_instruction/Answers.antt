use Rattle.std.proofs.Common.{◌≡◌, ℕ, List, ◌++◌, subst}
use Rattle.std.specs.Prelude.{OnOk}
use Rattle.code_form.specs.Form.{instruction_of}
use Rattle.image_bytes.proofs.Tabled.{parts_are}
use Rattle.image_bytes.proofs.encoding.put_instruction.Goals as goal

pub returns : goal.returns
returns c =
    let same = parts_are c.parts_of.result (instruction_of c.args.instruction.now) c.parts_of.ensures.name c.parts_of.ensures.arguments c.parts_of.ensures.registers in
    subst (λ (bs : List ℕ). OnOk c.put_parts.result (c.put_parts.new.out.items ≡ c.args.out.now.items ++ bs)) same c.put_parts.ensures
