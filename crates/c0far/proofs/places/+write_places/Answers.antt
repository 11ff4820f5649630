use Rattle.std.proofs.Common.{refl}
use Rattle.std.proofs.lemmas.List.{take_rest}
use Rattle.c0far.proofs.Placed.{places_behind}
use Rattle.c0far.proofs.places.+write_places.Goals as goal

pub returns-in_ok-write_place-in-len1-up-programs-clause-written : goal.returns-in_ok-write_place-in-len1-up-programs-clause-written
returns-in_ok-write_place-in-len1-up-programs-clause-written g t c =
    places_behind g.E.Stream.contents g.E.Stream.failures c.args.names.now _ c.args.programs.now _ _ _ c.one-item.result (g.F.Files.holds c.args.files.now) (g.F.Files.holds c.write_place.new.files) c.args.err.now c.write_place.new.err
    c.write_places.new.err c.write_places.result c.in-len1-up.len_at_least c.in-len1-up-programs.len_at_least c.write_place.ensures.files c.in_ok-write_place-in-len1-up-programs.ensures.written refl c.one-item.is c.write_places.ensures.written
    (take_rest c.args.names.now 1) (take_rest c.args.programs.now 1)
