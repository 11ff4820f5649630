use Rattle.std.proofs.Common.{◌≡◌, ◌∙◌, Bor, List, inl, inr, map, refl, rules, subst, sym, ℕ}
use Rattle.command_line.specs.Shell.{Names, command_of, compiling_of, replayed_of, started_of}
use Rattle.command_line.specs.Shell as shell
use Rattle.command_line.specs.declared.words.Line.{Line}
use Rattle.command_line.specs.declared.words.ReplayOptions.{ReplayOptions}
use Rattle.command_line.specs.declared.words.RunOptions.{RunOptions}
use Rattle.command_line.specs.declared.words.Usage.TheVariants.{Refused, OutOfMemory}
use Rattle.c0far.proofs.Moved.{built_at, only_at}
use Rattle.c0far.specs.Replays.{Replays}
use Rattle.c0far.specs.Runs.{Runs}
use Rattle.streams.specs.Streams.{writes}
use Rattle.c0far.proofs.drive.drive.Goals as goal

pub returns-in-Err-Refused : goal.returns-in-Err-Refused
returns-in-Err-Refused g c =
    inr (
      (λ name. refl),
      inl (record {
        none = λ command names. let other : Refused ≡ OutOfMemory = sym c.in-Err-Refused.field-0-is ∙ c.in-Err-Refused.ensures.refused command names in cc;
        answered = c.answer.ensures;
      }),
    )

-- the words named this file and that
pub returns-in-Ok-Build : goal.returns-in-Ok-Build
returns-in-Ok-Build g c =
    let held = g.F.Files.holds c.args.files.now in
    let now = g.F.Files.holds c.build.new.files in
    let asked = c.in-Ok-Build in
    inl (
      shell.Build (compiling_of asked.compiling) asked.target.now asked.file.now,
      subst (λ (l : Line). Names (map (λ w. w.now) c.args.words.now) (command_of l)) asked.field-0-is asked.ensures.named,
      (
        built_at held now _ asked.file.now _ (compiling_of asked.compiling) _ asked.target.now _ _ _ (search rules) (search rules) (search rules) c.build.ensures.done,
        only_at held now _ asked.file.now _ asked.target.now (search rules) (search rules) c.build.ensures.files,
      ),
    )

-- the words asked for a replay of these files
pub returns-in-Ok-Replay : goal.returns-in-Ok-Replay
returns-in-Ok-Replay g c =
    let held = g.F.Files.holds c.args.files.now in
    let asked = c.in-Ok-Replay in
    let out = writes g.O.Stream.contents g.O.Stream.failures c.args.out.now c.replay.new.out in
    let err = writes g.E.Stream.contents g.E.Stream.failures c.args.err.now c.replay.new.err in
    let names : c.deref.result.now ≡ asked.names.items = search rules in
    let done = subst (λ (a : ReplayOptions). Replays g.F.Place.Folder.honest (replayed_of a) (map (λ n. n.now) c.deref.result.now) held out err c.replay.result) asked.asked-is c.replay.ensures.done in
    inl (
      shell.Replay (replayed_of asked.asked) (map (λ n. n.now) asked.names.items),
      subst (λ (l : Line). Names (map (λ w. w.now) c.args.words.now) (command_of l)) asked.field-0-is asked.ensures.named,
      (
        subst (λ (ns : List (Bor (List ℕ))). Replays g.F.Place.Folder.honest (replayed_of asked.asked) (map (λ n. n.now) ns) held out err c.replay.result) names done,
        c.replay.ensures.files,
      ),
    )

-- the words asked for a run of these files
pub returns-in-Ok-Run : goal.returns-in-Ok-Run
returns-in-Ok-Run g c =
    let held = g.F.Files.holds c.args.files.now in
    let asked = c.in-Ok-Run in
    let out = writes g.O.Stream.contents g.O.Stream.failures c.args.out.now c.run.new.out in
    let err = writes g.E.Stream.contents g.E.Stream.failures c.args.err.now c.run.new.err in
    let names : c.deref-in-Ok-Run.result.now ≡ asked.names.items = search rules in
    let done = subst (λ (a : RunOptions). Runs g.F.Place.Folder.honest (started_of a) (map (λ n. n.now) c.deref-in-Ok-Run.result.now) held out err c.run.result) asked.asked-is c.run.ensures.done in
    inl (
      shell.Run (started_of asked.asked) (map (λ n. n.now) asked.names.items),
      subst (λ (l : Line). Names (map (λ w. w.now) c.args.words.now) (command_of l)) asked.field-0-is asked.ensures.named,
      (
        subst (λ (ns : List (Bor (List ℕ))). Runs g.F.Place.Folder.honest (started_of asked.asked) (map (λ n. n.now) ns) held out err c.run.result) names done,
        c.run.ensures.files,
      ),
    )
