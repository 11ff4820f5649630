use Rattle.std.proofs.Common.{ap}
use Rattle.std.proofs.lemmas.List.{map-set}
use Rattle.c0_values.specs.PlainStates.{value_of, state_of}
use Rattle.c0_values.proofs.plain_state.PlainState.set_local.Goals as goal

pub returns-then-x-len : goal.returns-then-x-len
returns-then-x-len c = λ texts.
    let s = state_of texts c.args.self.now in
    ap (λ ls. record s { locals = ls }) (map-set (value_of texts) c.args.self.now.locals.items c.args.x c.args.value)
