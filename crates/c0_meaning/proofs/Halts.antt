-- Steps of a run that end it, and steps behind others.
use Rattle.std.proofs.Common.{◌≡◌, ◌++◌, ap, ◌∙◌, sym, List, Result, Err}
use Rattle.c0_typed.specs.Values as v
use Rattle.c0_typed.specs.Meaning as m
use Rattle.c0_meaning.specs.declared.context.Context.{Context}
use Rattle.c0_meaning.specs.declared.pending.PlainRun.{PlainRun}
use Rattle.c0_values.specs.declared.plain_state.Halt.{Halt}
use Rattle.c0_values.specs.declared.plain_state.Halt.TheVariants.{Stopped, Cut, Memory}
use Rattle.c0_meaning.specs.declared.task.Task.{Task}
use Rattle.c0_values.specs.PlainStates.{Agrees, Texts, value_of}
use Rattle.c0_meaning.specs.Pendings.{Extends, Pending, Steps, means, pending_of, state_in}
use Rattle.c0_meaning.proofs.Pendings.{extends_steps}

-- a step that halts ends the run
pub agrees_halt : (c : Context) (texts : Texts) (h : Halt) (x : m.Outcome v.Value) (p : Pending) → Steps c (Err h) x p → Agrees (value_of texts) (Err h) x (state_in c p)
agrees_halt c texts (Stopped y) x p e = e
agrees_halt c texts Cut x p e = e
agrees_halt c texts Memory x p e = tt

-- tasks that stand for what is to come of a run that is this one
pub extends_behind : (c : Context) (result : Result (Unit {0}) Halt) (ts : List Task) (r s : PlainRun) (q : Pending) (x : m.Outcome v.Value) → Extends result ts r s → pending_of r ≡ q
    → x ≡ means c (record q { tasks = ts ++ q.tasks }) → Steps c result x (pending_of s)
extends_behind c result ts r s q x e is h = extends_steps c result ts r s x e (h ∙ ap (λ (p : Pending). means c (record p { tasks = ts ++ p.tasks })) (sym is))
