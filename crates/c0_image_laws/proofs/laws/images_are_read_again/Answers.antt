use Rattle.c0_image_laws.proofs.laws.images_are_read_again.Goals as goal

pub returns : goal.returns
returns c loops text checks cells C compiled = c.round_trips.ensures.written C (c.images_are_encodable.ensures loops text checks cells C compiled)
