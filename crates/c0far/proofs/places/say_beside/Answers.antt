use Rattle.std.proofs.Common.{◌≡◌, Bool, true, map, rules, subst, sym}
use Rattle.c0far.proofs.Placed.{told_beside}
use Rattle.c0far.specs.Places.{TellsBeside}
use Rattle.command_messages.specs.Wants.{TellsMore}
use Rattle.streams.specs.Streams.{writes}
use Rattle.c0far.proofs.places.say_beside.Goals as goal

pub returns-in-Ok-clause-told : goal.returns-in-Ok-clause-told
returns-in-Ok-clause-told g c = λ held kept.
    let a = c.args in
    let names = map (λ n. n.now) a.names.now in
    let is : a.asked.explains ≡ true = search rules in
    let more = subst (λ (b : Bool). TellsMore b a.asked.stats a.asked.limit a.share a.programs.now a.movers.now a.took (writes g.E.Stream.contents g.E.Stream.failures c.write_places.new.err c.say_more-in-Ok.new.err) a.status c.say_more-in-Ok.result) is c.say_more-in-Ok.ensures in
    subst (λ (b : Bool). TellsBeside b a.asked.stats a.asked.limit held names a.share a.programs.now a.movers.now a.took (writes g.E.Stream.contents g.E.Stream.failures a.err.now c.say_more-in-Ok.new.err) a.status c.say_more-in-Ok.result) (sym is)
    (told_beside g.E.Stream.contents g.E.Stream.failures a.asked.stats a.asked.limit held names a.share a.programs.now a.movers.now a.took a.err.now c.write_places.new.err c.say_more-in-Ok.new.err a.status c.say_more-in-Ok.result (c.in-Ok.ensures.written held kept) more)
