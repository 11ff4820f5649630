use Rattle.std.proofs.Common.{refl}
use Rattle.c0_source.specs.Spelling.{word_kind, sign_of}
use Rattle.c0_source.proofs.Told.{spells_as}
use Rattle.c0_source.proofs.laws.worked_spellings.Goals as goal

pub returns : goal.returns
unfolding word_kind sign_of
returns c = record {
  program = spells_as _ _ refl;
  hexadecimal = spells_as _ _ refl;
  longest = spells_as _ _ refl;
  alloc = spells_as _ _ refl;
  line_at_end = spells_as _ _ refl;
  line = spells_as _ _ refl;
  block = spells_as _ _ refl;
  hidden = spells_as _ _ refl;
  result = spells_as _ _ refl;
  nested = spells_as _ _ refl;
  literals = spells_as _ _ refl;
  use_text = spells_as _ _ refl;
  slash = spells_as _ _ refl;
}
