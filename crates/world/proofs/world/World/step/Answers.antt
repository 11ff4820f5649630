use Rattle.std.proofs.Common.{sym, ◌∙◌}
use Rattle.world.proofs.world.World.step.Goals as goal

pub returns-in-Program : goal.returns-in-Program
returns-in-Program g c = rw c.in-Program.is (λ z images w is.
    c.step_program.ensures z images w (sym (c.is_in_range.ensures z is.shows.tables.objects_many is.shows.tables.frames_many) ∙ c.if-not-is_in_range.false) is)

pub returns-in-Evacuator : goal.returns-in-Evacuator
returns-in-Evacuator g c = rw c.in-Evacuator.is (λ z images w is.
    c.step_evacuator.ensures z images w (sym (c.is_in_range.ensures z is.shows.tables.objects_many is.shows.tables.frames_many) ∙ c.if-not-is_in_range.false) is)

pub returns-in-Fetcher : goal.returns-in-Fetcher
returns-in-Fetcher g c = rw c.in-Fetcher.is (λ z images w is.
    c.step_fetcher.ensures z images w (sym (c.is_in_range.ensures z is.shows.tables.objects_many is.shows.tables.frames_many) ∙ c.if-not-is_in_range.false) is)
