use Rattle.std.proofs.Common.{inr, refl}
use Rattle.c0far.proofs.plain.say_no_room.Goals as goal

-- what passed the limit was a program's
pub returns-in-Some : goal.returns-in-Some
returns-in-Some g c = λ held out read quiet.
    let typed = c.requires (rw c.in-Some.is refl) in
    inr (c.say_over.ensures held out typed.0 typed.1 read quiet)
