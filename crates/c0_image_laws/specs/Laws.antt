-- The image of every accepted text can be written, and is read again as it was.
use Rattle.std.specs.Prelude.{◌≡◌, ℕ, Bool, List, Ok}
use Rattle.code_form.specs.Form.{Image}
use Rattle.code_verification.specs.Verified.{IsVerified}
use Rattle.image_bytes.specs.Bytes.{image_bytes}
use Rattle.image_bytes.specs.Encodable.{IsEncodable}
use Rattle.image_reader.specs.Reading.{reads}
use Rattle.c0_well_formed.specs.Laws.{IsConsistent}
use Rattle.c0_image.specs.Compiled.{IsCompiled}

-- the format has bytes for each number of an image that is verified and consistent, and for the count of each of its lists
abbrev pub ConsistentIsEncodable : Type 0
ConsistentIsEncodable = (C : Image) → IsVerified C → IsConsistent C → IsEncodable C

-- the format has bytes for each number of an image of a text, and for the count of each of its lists
abbrev pub ImagesAreEncodable : Type 0
ImagesAreEncodable = (loops : Bool) (text : List ℕ) (checks : Bool) (cells : ℕ) (C : Image) → IsCompiled loops text checks cells C → IsEncodable C

-- its bytes are read as that image
abbrev pub ImagesAreReadAgain : Type 0
ImagesAreReadAgain = (loops : Bool) (text : List ℕ) (checks : Bool) (cells : ℕ) (C : Image) → IsCompiled loops text checks cells C → reads (image_bytes C) ≡ Ok C
