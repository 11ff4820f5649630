use Rattle.std.proofs.Common.{inl, inr, rules}
use Rattle.code_form.specs.Form.{image_of}
use Rattle.c0far.proofs.code.of_bytes.Goals as goal

pub returns-in-Err-verify : goal.returns-in-Err-verify
returns-in-Err-verify g c = record {
  code = tt;
  refused = λ held out has quiet. inl (inr (record {
    bytes = c.args.bytes.now;
    read = has;
    image = image_of c.in-Ok.image;
    is = c.in-Ok.ensures.found;
    fault = c.in-Err-verify.fault;
    cause = search rules;
    shown = c.say_verify_fault.ensures;
    quiet = quiet;
  }));
}
