use Rattle.std.proofs.Common.{◌≡◌, ℕ, List, map, take}
use Rattle.command_line.specs.Shell.{compiling_of}
use Rattle.c0far.specs.FileCode.{AreCodes}
use Rattle.streams.specs.Streams.{IsQuiet, writes}
use Rattle.c0far.proofs.code.codes_of.Given as goal

-- files hold what they held, nothing was said, and the codes are those of the files so far
abbrev pub invariant-loop-name : goal.invariant-loop-name
invariant-loop-name g l = record {
  files : (name : List ℕ) → g.F.Files.holds l.files name ≡ g.F.Files.holds l.initial.files name;
  quiet : IsQuiet (writes g.E.Stream.contents g.E.Stream.failures l.initial.err l.err);
  codes : AreCodes (compiling_of l.compiling) (g.F.Files.holds l.initial.files) (map (λ n. n.now) (take l.name-index l.names)) l.programs.items;
}
