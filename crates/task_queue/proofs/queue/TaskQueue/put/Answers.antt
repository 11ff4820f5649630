use Rattle.std.proofs.Common.{rules, ap, subst, ◌∙◌, ◌≡◌, ◌<◌}
use Rattle.task_queue.specs.declared.rule.KnowsRoster.{KnowsRoster}
use Rattle.task_queue.specs.Tasked.{IsTask}
use Rattle.task_queue.proofs.Keeps.{few, pushes}
use Rattle.task_queue.proofs.queue.TaskQueue.put.Goals as goal

pub push_as-requires-clause-rule : goal.push_as-requires-clause-rule
push_as-requires-clause-rule g c =
    (pushes _ _ _ _ _ (ap (λ (k : KnowsRoster). k.roster) c.pass.invariant.1) (search rules) (subst (λ m. IsTask m c.args.task) (search rules) c.requires.task), few _ _ _ (ap (λ (k : KnowsRoster). k.roster) c.pass.invariant.1))
