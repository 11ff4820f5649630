use Rattle.std.proofs.Common.{◌≡◌, ◌≤◌, ◌++◌, ◌∷◌, [], ap, ◌∙◌, map, length, arith, rules}
use Rattle.std.proofs.lemmas.List.{take_all}
use Rattle.c0_typed.specs.Meaning.{blank}
use Rattle.c0_typed.specs.Views.{type_of}
use Rattle.c0_values.specs.PlainStates.{value_of}
use Rattle.c0_values.proofs.Heaps.{next_local}
use Rattle.c0_meaning.proofs.calls.entry_locals.Goals as goal

pub loop-ty-preserved : goal.loop-ty-preserved
loop-ty-preserved c = (
  c.loop-ty.invariant.0,
  (λ texts.
      let held = c.loop-ty.given.items in
      let w = c.blank_value-in-loop-ty.result in
      let pushed : c.push.new.self.items ≡ held ++ (w ∷ []) = search rules in
      next_local texts held c.push.new.self.items w (blank (type_of c.args.function.now.result)) (map (value_of texts) c.args.given.items) c.deref-ty-items.result.now c.loop-ty.ty-index c.ty-item.result c.loop-ty-test.true c.ty-item.is pushed (c.blank_value-in-loop-ty.ensures texts) (c.loop-ty.invariant.1 texts)),
)

pub returns : goal.returns
returns c = λ texts.
    let xs = c.deref-ty-items.result.now in
    let i = c.loop-ty.ty-index in
    let end : length xs ≤ i = omega (arith, c.loop-ty-test.false) in
    let args = map (value_of texts) c.args.given.items in
    c.loop-ty.invariant.1 texts ∙ ap (λ ts. blank (type_of c.args.function.now.result) ∷ args ++ map blank (map type_of ts)) (take_all i xs end ∙ c.loop-ty.invariant.0)
