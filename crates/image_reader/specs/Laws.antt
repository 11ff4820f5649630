-- Reading and writing undo one another.
use Rattle.std.specs.Prelude.{◌≡◌, ℕ, ◌<◌, List, slice_index, Ok}
use Rattle.code_form.specs.Form.{Image}
use Rattle.image_bytes.specs.Bytes.{image_bytes}
use Rattle.image_bytes.specs.Encodable.{IsEncodable, IsImage}
use Rattle.image_reader.specs.Reading.{reads}

-- each of these numbers is a byte
abbrev pub IsBytes : List ℕ → Type 0
IsBytes bytes = (i : ℕ) → slice_index bytes i < 256

-- what is written of an image is read as that image
abbrev pub WrittenIsRead : Type 0
WrittenIsRead = (C : Image) → IsEncodable C → reads (image_bytes C) ≡ Ok C

-- bytes that are read as an image are those of that image
abbrev pub ReadWasWritten : Type 0
ReadWasWritten = (bytes : List ℕ) (C : Image) → IsBytes bytes → reads bytes ≡ Ok C → IsImage bytes C

-- no two images have the same bytes
abbrev pub OneImage : Type 0
OneImage = (bytes : List ℕ) (C D : Image) → IsImage bytes C → IsImage bytes D → C ≡ D
