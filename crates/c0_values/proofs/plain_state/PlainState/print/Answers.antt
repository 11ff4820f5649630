use Rattle.std.proofs.Common.{◌≡◌, ◌++◌, ◌∷◌, [], ap, ◌∙◌, sym, map, string_bytes}
use Rattle.cells.specs.Outcomes.{Done}
use Rattle.c0_typed.specs.Values.{Void}
use Rattle.c0_typed.specs.Meaning.{printed}
use Rattle.c0_typed.specs.Views.{output_of, texts_of}
use Rattle.c0_values.specs.PlainStates.{value_of, state_of}
use Rattle.c0_values.proofs.Heaps.{printed_is}
use Rattle.c0_values.proofs.plain_state.PlainState.print.Goals as goal

pub returns : goal.returns
returns c =
    let texts = texts_of c.args.program.now in
    let s = state_of texts c.args.self.now in
    let out = output_of c.args.output in
    let x = c.in-Some.value.now in
    let bytes = c.in-Some-printed.bytes.items in
    let first = printed_is texts out c.deref.result.now x c.in-Some.ensures.value in
    let here = ap (λ vs. printed out (map (value_of texts) vs)) (sym c.deref.ensures.value) ∙ first in
    let shown : bytes ≡ printed out (value_of texts x ∷ []) = c.in-Some-printed.ensures ∙ ap (λ ts. printed out (value_of (map string_bytes ts) x ∷ [])) c.deref-2.ensures.value in
    let all = here ∙ sym shown ∙ sym c.deref-3.ensures.value in
    ap (λ b. Done Void (record s { output = s.output ++ b })) all ∙ c.in_ok-write.ensures texts
