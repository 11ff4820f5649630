use Rattle.image_reader.proofs.Images.{one_image, read_was_written, written_is_read}
use Rattle.image_reader.proofs.laws.round_trips.Goals as goal

pub returns-clause-written : goal.returns-clause-written
returns-clause-written c = written_is_read

pub returns-clause-read : goal.returns-clause-read
returns-clause-read c = read_was_written

pub returns-clause-one : goal.returns-clause-one
returns-clause-one c = one_image
