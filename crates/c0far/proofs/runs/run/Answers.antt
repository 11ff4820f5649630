use Rattle.std.proofs.Common.{◌≡◌, ℕ, List, ap, inl, inr, length, map, refl, rules, subst, vec_len, ◌∙◌}
use Rattle.executor.specs.Ends.{end_of}
use Rattle.executor.specs.declared.counts.MoverCounts.{MoverCounts}
use Rattle.program_run.specs.declared.run.Finished.{Finished}
use Rattle.c0far.proofs.Codes.{after_quiet}
use Rattle.command_messages.specs.Refusals.{SaysFault}
use Rattle.command_messages.specs.Shown.{ends_status, shown_ends}
use Rattle.command_files.specs.FileTexts.{Known}
use Rattle.c0far.specs.Places.{TellsBeside}
use Rattle.command_messages.specs.Wants.{share_of}
use Rattle.streams.specs.Streams.{Says, Writes, writes}
use Rattle.c0far.proofs.runs.run.Goals as goal

pub returns-in-Err-clause-done : goal.returns-in-Err-clause-done
returns-in-Err-clause-done g c = inr (inr (c.in-Err.ensures.refused _ refl))

pub returns-in-Ok-run_asked-clause-done : goal.returns-in-Ok-run_asked-clause-done
returns-in-Ok-run_asked-clause-done g c =
    let long : vec_len c.in-Ok.programs ≡ length c.in-Ok.programs.items = search rules in
    let share = c.share_of-share.ensures ∙ ap (share_of c.args.asked.memory.objects) (c.len.ensures ∙ long) in
    let held : List ℕ → Known = g.F.Files.holds c.args.files.now in
    let names : List (List ℕ) = map (λ n. n.now) c.args.names.now in
    inl (
      record {
        programs = c.in-Ok.programs.items;
        codes = c.in-Ok.ensures.codes;
        finished = c.in-Ok-run_asked.counted.programs.items;
        movers = c.in-Ok-run_asked.counted.movers.items;
        took = c.passed_since-took.result;
        admitted = c.in-Ok-run_asked.ensures.admitted;
        executed = c.in-Ok-run_asked.ensures.ended;
        status = c.say_finished-status.result;
        shown = subst (λ (l : List Finished). Says (writes g.O.Stream.contents g.O.Stream.failures c.args.out.now c.say_finished-status.new.out) (shown_ends (map end_of l)) (ends_status (map end_of l)) c.say_finished-status.result)
            c.deref.ensures.value c.say_finished-status.ensures;
        told = subst (λ (w : Writes). TellsBeside c.args.asked.explains c.args.asked.stats c.args.asked.limit held names (share_of c.args.asked.memory.objects (length c.in-Ok.programs.items)) c.in-Ok-run_asked.counted.programs.items c.in-Ok-run_asked.counted.movers.items c.passed_since-took.result w c.say_finished-status.result c.say_beside.result)
            (after_quiet g.E.Stream.contents g.E.Stream.failures c.args.err.now c.codes_of.new.err c.say_beside.new.err c.in-Ok.ensures.quiet)
            (subst (λ (x : ℕ × List Finished × List MoverCounts). TellsBeside c.args.asked.explains c.args.asked.stats c.args.asked.limit held names x.0 x.1 x.2 c.passed_since-took.result (writes g.E.Stream.contents g.E.Stream.failures c.codes_of.new.err c.say_beside.new.err) c.say_finished-status.result c.say_beside.result)
            (λ i. (share i, c.deref-in-Ok-run_asked.ensures.value i, c.deref-in-Ok-run_asked-2.ensures.value i)) (c.say_beside.ensures.told held c.codes_of.ensures.files));
      },
      c.in-Ok-run_asked.ensures.together,
    )

pub returns-in-Err-run_asked-clause-done : goal.returns-in-Err-run_asked-clause-done
returns-in-Err-run_asked-clause-done g c = inr (inl (record {
  programs = c.in-Ok.programs.items;
  codes = c.in-Ok.ensures.codes;
  fault = c.in-Err-run_asked.fault;
  cause = c.in-Err-run_asked.ensures.refused;
  shown = subst (λ (w : Writes). SaysFault c.in-Err-run_asked.fault w c.say_admission.result)
      (after_quiet g.E.Stream.contents g.E.Stream.failures c.args.err.now c.codes_of.new.err c.say_admission.new.err c.in-Ok.ensures.quiet) c.say_admission.ensures;
  quiet = refl;
}))
