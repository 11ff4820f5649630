use Rattle.std.proofs.Common.{◌≡◌, ◌++◌, map}
use Rattle.std.specs.Vec.Iter.{into_iter_items}
use Rattle.code_form.specs.Form.{image_of}
use Rattle.schedule_replay.proofs.replay.images.Given as goal

-- the images so far, and then those of the programs that are left
abbrev pub invariant-loop-program : goal.invariant-loop-program
invariant-loop-program l = map image_of l.images.items ++ map (λ p. image_of p.image) (into_iter_items l.program-iterator) ≡ map (λ p. image_of p.image) l.fn.programs.items
