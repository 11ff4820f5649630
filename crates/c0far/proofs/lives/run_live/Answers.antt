use Rattle.std.proofs.Common.{◌≡◌, ℕ, List, [], ◌∷◌, ap, inl, inr, length, refl, rules, subst, vec_len, ◌∙◌}
use Rattle.command_line.specs.Shell.{compiling_of, memory_of}
use Rattle.live_run.specs.Lives.{IsNotShown}
use Rattle.live_run.specs.declared.live.LiveError.{LiveError}
use Rattle.program_run.specs.declared.run.Finished.{Finished}
use Rattle.region.specs.declared.fault.AdmitFault.{AdmitFault}
use Rattle.c0far.proofs.Codes.{after_quiet}
use Rattle.c0far.proofs.Lived.{one_code, shown_live}
use Rattle.command_messages.specs.Refusals.{SaysFault}
use Rattle.command_files.specs.FileTexts.{Known}
use Rattle.c0far.specs.Places.{TellsBeside}
use Rattle.command_messages.specs.Wants.{share_of}
use Rattle.streams.specs.Streams.{Writes, writes}
use Rattle.c0far.proofs.lives.run_live.Goals as goal

pub live_asked-requires-after_bounds : goal.live_asked-requires-after_bounds
live_asked-requires-after_bounds g c κs within = one_code (compiling_of c.args.asked.compiling) (g.F.Files.holds c.args.files.now) c.args.name.now c.in-Ok.programs.items c.in-Ok.ensures.codes

pub returns-in-Err-clause-done : goal.returns-in-Err-clause-done
returns-in-Err-clause-done g c = inr (inr (c.in-Err.ensures.refused _ refl))

pub returns-in-Ok-live_asked-clause-done : goal.returns-in-Ok-live_asked-clause-done
returns-in-Ok-live_asked-clause-done g c =
    let long : vec_len c.in-Ok.programs ≡ length c.in-Ok.programs.items = search rules in
    let share = c.share_of-share.ensures ∙ ap (share_of c.args.asked.memory.objects) (c.len.ensures ∙ long) in
    let held : List ℕ → Known = g.F.Files.holds c.args.files.now in
    inl (record {
      programs = c.in-Ok.programs.items;
      codes = c.in-Ok.ensures.codes;
      admitted = c.in-Ok-live_asked.ensures.admitted;
      ended = inl (record {
        finished = c.in-Ok-live_asked.finished;
        took = c.passed_since-took.result;
        executed = c.in-Ok-live_asked.ensures.ended.executed;
        status = c.say_rest-status.result;
        shown = shown_live g.O.Stream.contents g.O.Stream.failures g.F.Place.Folder.honest (memory_of c.args.asked.memory) c.in-Ok.programs.items c.args.out.now c.live_asked.new.out c.say_rest-status.new.out c.in-Ok-live_asked.finished
            c.say_rest-status.result c.in-Ok-live_asked.ensures.ended c.say_rest-status.ensures;
        told = subst (λ (x : ℕ × List Finished). TellsBeside c.args.asked.explains c.args.asked.stats c.args.asked.limit held (c.args.name.now ∷ []) x.0 x.1 [] c.passed_since-took.result (writes g.E.Stream.contents g.E.Stream.failures c.args.err.now c.say_beside.new.err) c.say_rest-status.result c.say_beside.result)
            (λ i. (share i, c.from_ref.ensures.value i))
            (subst (λ (w : Writes). TellsBeside c.args.asked.explains c.args.asked.stats c.args.asked.limit held (c.args.name.now ∷ []) c.share_of-share.result c.from_ref.result.now [] c.passed_since-took.result w c.say_rest-status.result c.say_beside.result)
            (after_quiet g.E.Stream.contents g.E.Stream.failures c.args.err.now c.codes_of.new.err c.say_beside.new.err c.in-Ok.ensures.quiet) (c.say_beside.ensures.told held c.codes_of.ensures.files));
      });
    })

pub returns-in-Err-NotRun-clause-done : goal.returns-in-Err-NotRun-clause-done
returns-in-Err-NotRun-clause-done g c =
    let a = c.args.asked in
    let out = writes g.O.Stream.contents g.O.Stream.failures c.args.out.now c.live_asked.new.out in
    let left = subst (λ (e : LiveError). IsNotShown c.in-Ok.programs.items a.memory.frames a.memory.objects a.evacuators a.fetchers a.work.workers a.work.quantum out e) c.in-Err-NotRun.field-0-is c.in-Err-NotRun.ensures.left in
    let told = subst (λ (f : AdmitFault). SaysFault f (writes g.E.Stream.contents g.E.Stream.failures c.codes_of.new.err c.say_admission.new.err) c.say_admission.result) c.in-Err-NotRun.fault-is c.say_admission.ensures in
    inr (inl (record {
      programs = c.in-Ok.programs.items;
      codes = c.in-Ok.ensures.codes;
      fault = c.in-Err-NotRun.fault;
      cause = left.0;
      shown = subst (λ (w : Writes). SaysFault c.in-Err-NotRun.fault w c.say_admission.result)
          (after_quiet g.E.Stream.contents g.E.Stream.failures c.args.err.now c.codes_of.new.err c.say_admission.new.err c.in-Ok.ensures.quiet) told;
      quiet = left.1;
    }))

pub returns-in-Err-Unwritten-clause-done : goal.returns-in-Err-Unwritten-clause-done
returns-in-Err-Unwritten-clause-done g c =
    let a = c.args.asked in
    let out = writes g.O.Stream.contents g.O.Stream.failures c.args.out.now c.live_asked.new.out in
    let left = subst (λ (e : LiveError). IsNotShown c.in-Ok.programs.items a.memory.frames a.memory.objects a.evacuators a.fetchers a.work.workers a.work.quantum out e) c.in-Err-Unwritten.field-0-is c.in-Err-Unwritten.ensures.left in
    inl (record {
      programs = c.in-Ok.programs.items;
      codes = c.in-Ok.ensures.codes;
      admitted = (left.0, left.1);
      ended = inr (refl, left.2, c.in-Ok.ensures.quiet);
    })
