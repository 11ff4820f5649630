use Rattle.std.proofs.Common.{Ok, [], ap, ◌∙◌, refl, sym}
use Rattle.cells.specs.declared.ending.Want.{Want}
use Rattle.c0_typed.specs.Meaning as m
use Rattle.c0_typed.specs.Meaning.{struct_defaults}
use Rattle.c0_typed.specs.Views.{program_of, texts_of}
use Rattle.c0_values.specs.PlainStates.{state_of}
use Rattle.c0_meaning.specs.Run.{calls_over, meant_of}
use Rattle.c0_values.specs.declared.plain_state.PlainState.{PlainState}
use Rattle.c0_meaning.proofs.Steps.{mean_is, told_along}
use Rattle.c0_meaning.proofs.run.mean_placed.Goals as goal

pub returns-in-Ok-tell : goal.returns-in-Ok-tell
returns-in-Ok-tell c =
    let texts = texts_of c.args.program.now in
    let p = program_of c.args.program.now in
    let structs = struct_defaults [] p.structs in
    let begun = state_of texts c.begin-run.result.state in
    let turned = ap (λ n. m.told (calls_over structs c.args.checks p n p.main [] begun)) c.begin-run.ensures.turns in
    let whole = turned ∙ mean_is c.args.checks p c.args.turns structs [] begun refl refl (c.begin-run.ensures.state texts) in
    let ended = state_of texts c.run_main-came.new.self.state in
    let printed = ap (λ (s : PlainState). s.output.items) (sym c.into_state-state.ensures) in
    let said = c.in-Ok-tell.ensures.told texts _ ended printed (c.run_main-came.ensures c.begin-run.ensures.empty.0 c.begin-run.ensures.empty.1) in
    told_along {E = Want} meant_of (Ok c.in-Ok-tell.meant) _ _ whole said
