use Rattle.std.specs.Prelude.{map}
use Rattle.code_form.specs.Form.{image_of, instruction_of}
use Rattle.call_execution.specs.Aimed.{scope_of}
use Rattle.call_execution.proofs.call.Call.decide_by.Goals as goal

pub returns-in-Aim-clause-value : goal.returns-in-Aim-clause-value
returns-in-Aim-clause-value c = rw c.in-Aim.is (c.decide_aim.ensures.value (image_of c.args.self.now.image.now) c.args.self.now.allocations.now)

pub returns-in-Leave-clause-value : goal.returns-in-Leave-clause-value
returns-in-Leave-clause-value c = rw c.in-Leave.is (c.decide_leave.ensures.value (image_of c.args.self.now.image.now) c.args.self.now.allocations.now)

pub returns-in-Branch-clause-value : goal.returns-in-Branch-clause-value
returns-in-Branch-clause-value c = rw c.in-Branch.is (c.decide_branch.ensures.value (image_of c.args.self.now.image.now) c.args.self.now.allocations.now)

pub returns-in-Return-clause-value : goal.returns-in-Return-clause-value
returns-in-Return-clause-value c =
    let k = c.args.self.now in
    rw c.in-Return.is (c.decide_return.ensures.value (map instruction_of k.rest.now) (map scope_of k.scopes.now) k.destination (image_of k.image.now) k.allocations.now)

pub returns-in-ReturnVoid-clause-value : goal.returns-in-ReturnVoid-clause-value
returns-in-ReturnVoid-clause-value c = rw c.in-ReturnVoid.is (c.decide_return_void.ensures.value (image_of c.args.self.now.image.now) c.args.self.now.allocations.now)
