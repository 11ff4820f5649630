use Rattle.c0_typed.proofs.Soundness.{eval_sound, locate_sound, exec_sound, call_sound, main_sound, fresh_fits, load_is, store_is}
use Rattle.c0_typed.proofs.Ops.{ops_fit, not_fits}
use Rattle.c0_typed.proofs.sound.Goals as goal

pub returns-clause-eval : goal.returns-clause-eval
returns-clause-eval c = eval_sound ops_fit not_fits

pub returns-clause-locate : goal.returns-clause-locate
returns-clause-locate c = locate_sound ops_fit not_fits

pub returns-clause-exec : goal.returns-clause-exec
returns-clause-exec c = exec_sound ops_fit not_fits

pub returns-clause-call : goal.returns-clause-call
returns-clause-call c = call_sound ops_fit not_fits

pub returns-clause-main : goal.returns-clause-main
returns-clause-main c = main_sound ops_fit not_fits

pub returns-clause-fresh : goal.returns-clause-fresh
returns-clause-fresh c = fresh_fits

pub returns-clause-load : goal.returns-clause-load
returns-clause-load c = load_is

pub returns-clause-store : goal.returns-clause-store
returns-clause-store c = store_is
