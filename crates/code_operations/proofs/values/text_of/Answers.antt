use Rattle.std.proofs.Common.{◌≡◌, ◌<◌, ◌≤◌, ◌∙◌, Some, length, get_or, string_bytes, ap, subst, sym}
use Rattle.std.specs.Prelude.{◌-◌}
use Rattle.code_form.specs.Form.{image_of}
use Rattle.code_operations.proofs.Texts.{text_found, text_missing}
use Rattle.code_operations.proofs.values.text_of.Goals as goal

pub returns-in-Some : goal.returns-in-Some
returns-in-Some c =
    let found = c.in-Some.ensures.lookup.3 in
    let x = c.in-Some.text.now in
    let n = c.args.number in
    let inside = subst (λ xs. n - 1 < length xs) c.deref.ensures.value found.0 in
    let here = subst (λ xs. x ≡ get_or xs (n - 1) x) c.deref.ensures.value (found.1 x) in
    text_found string_bytes c.args.image.now.texts.items (image_of c.args.image.now).head.layouts n x c.if-number-eq0.false inside here ∙ ap Some (sym c.as_str.ensures.value)

pub returns-in-None : goal.returns-in-None
returns-in-None c =
    let n = c.args.number in
    let outside = subst (λ xs. length xs ≤ n - 1) c.deref.ensures.value c.in-None.ensures.lookup.3 in
    text_missing string_bytes c.args.image.now.texts.items (image_of c.args.image.now).head.layouts n c.if-number-eq0.false outside
