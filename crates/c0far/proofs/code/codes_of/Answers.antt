use Rattle.std.proofs.Common.{rules, ◌≡◌, ◌∙◌, ◌<◌, ◌++◌, ◌∷◌, [], length}
use Rattle.std.proofs.lemmas.Result.{err_from_is_err_and}
use Rattle.command_line.specs.Shell.{compiling_of}
use Rattle.c0far.proofs.Codes.{codes_at, lacks_at, quiet_still}
use Rattle.c0far.proofs.code.codes_of.Goals as goal

pub returns-in_err-verified-clause-refused : goal.returns-in_err-verified-clause-refused
returns-in_err-verified-clause-refused g c =
    let p = err_from_is_err_and c.from_residual.result c.from_residual.ensures.1 in
    let low : c.loop-name.name-index < length c.args.names.now = c.loop-name-test.true in
    rw (p.1, p.2) (lacks_at g.E.Stream.contents g.E.Stream.failures (compiling_of c.args.compiling) (g.F.Files.holds c.args.files.now) (g.F.Files.holds c.loop-name.files) c.args.names.now c.loop-name.name-index _ c.loop-name.programs.items
    c.args.err.now c.loop-name.err c.code_of.new.err _ low c.loop-name.invariant.files c.loop-name.invariant.codes c.loop-name.invariant.quiet c.in_err-verified.ensures.refused)

pub loop-name-preserved : goal.loop-name-preserved
loop-name-preserved g c =
    let low : c.loop-name.name-index < length c.args.names.now = c.loop-name-test.true in
    let items : c.push.new.self.items ≡ c.loop-name.programs.items ++ c.in_ok-verified.verified ∷ [] = search rules in
    record {
      files = λ name. c.in_ok-verified.ensures.files name ∙ c.loop-name.invariant.files name;
      quiet = quiet_still g.E.Stream.contents g.E.Stream.failures c.args.err.now c.loop-name.err c.code_of.new.err c.loop-name.invariant.quiet c.in_ok-verified.ensures.quiet;
      codes = codes_at (compiling_of c.args.compiling) (g.F.Files.holds c.args.files.now) (g.F.Files.holds c.loop-name.files) c.args.names.now c.loop-name.name-index _ c.loop-name.programs.items c.push.new.self.items c.in_ok-verified.verified
          low c.loop-name.invariant.files c.loop-name.invariant.codes c.in_ok-verified.ensures.code items;
    }
