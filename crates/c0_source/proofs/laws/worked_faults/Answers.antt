use Rattle.std.proofs.Common.{refl}
use Rattle.c0_source.specs.Spelling.{word_kind, sign_of}
use Rattle.c0_source.proofs.Told.{stops_at}
use Rattle.c0_source.proofs.laws.worked_faults.Goals as goal

pub returns : goal.returns
unfolding word_kind sign_of
returns c = record {
  open_comment = stops_at _ _ _ refl;
  range = stops_at _ _ _ refl;
  hexadecimal_range = stops_at _ _ _ refl;
  letter_behind = stops_at _ _ _ refl;
  no_digits = stops_at _ _ _ refl;
  leading_zero = stops_at _ _ _ refl;
  open_annotation = stops_at _ _ _ refl;
  comment_inside = stops_at _ _ _ refl;
  comment_behind = stops_at _ _ _ refl;
  bad_inside = stops_at _ _ _ refl;
  outside = stops_at _ _ _ refl;
  newline_in_text = stops_at _ _ _ refl;
  zero_in_text = stops_at _ _ _ refl;
}
