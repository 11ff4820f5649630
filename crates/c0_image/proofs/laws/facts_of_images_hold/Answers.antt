use Rattle.c0_image.proofs.laws.facts_of_images_hold.Goals as goal

pub returns : goal.returns
returns c loops text checks cells C is = c.verified_is_covered.ensures.facts C is.verified
