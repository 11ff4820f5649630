use Rattle.std.proofs.Common.{◌≡◌, ℕ, List, ◌++◌, subst}
use Rattle.std.specs.Prelude.{OnOk, string_bytes}
use Rattle.code_form.specs.Form.{instruction_of}
use Rattle.image_listing.proofs.Tabled.{parts_are}
use Rattle.image_listing.proofs.listing.put_instruction.Goals as goal

pub returns : goal.returns
returns c =
    let same = parts_are c.parts_of.result (instruction_of c.args.instruction.now) c.parts_of.ensures.name c.parts_of.ensures.arguments c.parts_of.ensures.registers in
    subst (λ (text : List ℕ). OnOk c.put_parts.result (string_bytes c.put_parts.new.text ≡ string_bytes c.args.text.now ++ text)) same c.put_parts.ensures
